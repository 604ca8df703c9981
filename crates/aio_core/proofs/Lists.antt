-- The rule's part on lists: what keeps it when a word, an entry or a view changes.
use Rattle.std.proofs.Common.{◌≡◌, ◌≢◌, ℕ, ◌<◌, true, false, Option, Some, None, List, [], ◌∷◌, set, slice_index, refl, sym, ap, ◌∙◌, subst}
use mathlib.Core.Option.{some}
use lib.ListN.{get_elem?}
use Rattle.aio_model.specs.Loop.History.{Sizes, Entry, New, Enqueue, Put, Cancel, Take, Dequeue, Free, SetEvent, ClearEvent, History}
use Rattle.aio_model.specs.Loop.Flags.{begins, frees, enqueues}
use Rattle.aio_model.specs.Loop.Lists.{announcer_of, stack_of, out_of}
use Rattle.aio_model.specs.Loop.Seats.{owns, home}
use Rattle.aio_model.specs.Loop.InFlight.{Phase, AtRest, LotClaimed, Announced, HeadLoaded, Linked, ToStore, ToLoad, ToSet, is_at_rest}
use Rattle.aio_chain.specs.Chains.{IsChain}
use Rattle.aio_chain.proofs.Chains.{Each, chains_kept}
use Rattle.aio_core.specs.Words.{head_at, next_in}
use Rattle.aio_core.specs.Known.{Known, numbers_of}
use Rattle.aio_core.specs.Rule.{SeatsStand, IsOwed, IsClaimed, Owes, IsOut, HasOut, ListsStand}
use Rattle.table_seats.proofs.Entries.{owns_first}
use Rattle.table_seats.proofs.Seats.{each_set}

pub each_all : (P : ℕ → Type 0) (xs : List ℕ) → ((i : ℕ) → P i) → Each P xs
each_all P [] h = tt
each_all P (x ∷ xs) h = (h x, each_all P xs h)

-- What is owed.

-- what a phase says stays, where the index stays owed and what follows it stays
pub owes_kept : (sizes : Sizes) (words other : List ℕ) (h g : History) (n : ℕ) (phase : Phase) → ((i : ℕ) → is_at_rest phase ≡ false → IsOwed sizes h n i → IsOwed sizes g n i × (next_in other i ≡ next_in words i)) → ((i job : ℕ) → is_at_rest phase ≡ false → IsClaimed sizes h n i job → IsClaimed sizes g n i job) → Owes sizes words h n phase → Owes sizes other g n phase
owes_kept sizes words other h g n AtRest k c owes = tt
owes_kept sizes words other h g n (LotClaimed i job) k c owes = c i job refl owes
owes_kept sizes words other h g n (Announced i) k c owes = (k i refl owes).0
owes_kept sizes words other h g n (HeadLoaded i found) k c owes = (k i refl owes).0
owes_kept sizes words other h g n (Linked i found) k c owes =
    ((k i refl owes.0).0, (k i refl owes.0).1 ∙ owes.1)
owes_kept sizes words other h g n (ToStore reason) k c owes = tt
owes_kept sizes words other h g n (ToLoad reason) k c owes = tt
owes_kept sizes words other h g n (ToSet reason) k c owes = tt

some_same : (a b : ℕ) → Some a ≡ Some b → a ≡ b
some_same a b h = cc

-- two seats never owe one index
pub owed_apart : (sizes : Sizes) (h : History) (views : List Known) (id other : ℕ) (v u : Known) (i j : ℕ) → SeatsStand sizes h views → get_elem? views id ≡ some v → get_elem? views other ≡ some u → other ≢ id → IsOwed sizes h v.first i → 0 < v.count → IsOwed sizes h u.first j → 0 < u.count → i ≢ j
owed_apart sizes h views id other v u i j seats at atu ne mine has theirs have same =
    let firsts : v.first ≡ u.first = some_same v.first u.first (sym mine.by_it ∙ ap (λ k. announcer_of k h) same ∙ theirs.by_it) in
    let not_theirs : owns (numbers_of u) v.first ≡ false = seats.parts.apart id other v u at atu (λ q. ne (sym q)) v.first (owns_first (numbers_of v) has) in
    let is_theirs : owns (numbers_of u) v.first ≡ true = subst (λ k. owns (numbers_of u) k ≡ true) (sym firsts) (owns_first (numbers_of u) have) in
    cc

-- What is out.

pub is_out_kept : (next other : ℕ → ℕ) (slices : List ℕ) (hand : Option ℕ) (out : List ℕ) → IsOut next slices hand out → Each (λ i. other i ≡ next i) out → IsOut other slices hand out
is_out_kept next other slices None out h k = chains_kept next other slices out h k
is_out_kept next other slices (Some i) out h k =
    let all = subst (Each (λ i. other i ≡ next i)) h.1 k in
    (h.0, h.1, chains_kept next other slices h.0 h.2 all.1)

-- what a view says of out stays, where out stays and what follows its members stays
pub has_out_kept : (words other : List ℕ) (h g : History) (u : Known) → out_of g ≡ out_of h → Each (λ i. next_in other i ≡ next_in words i) (out_of h) → HasOut words h u → HasOut other g u
has_out_kept words other h g u same k has own =
    let now = has own in
    (subst (IsOut (next_in other) u.stage.slices u.stage.hand) (sym same) (is_out_kept (next_in words) (next_in other) u.stage.slices u.stage.hand (out_of h) now.0 k), now.1)

-- another than the home's view says nothing
pub no_other_home : (sizes : Sizes) (h g : History) (views : List Known) (id other : ℕ) (v u : Known) (words : List ℕ) → SeatsStand sizes h views → get_elem? views id ≡ some v → get_elem? views other ≡ some u → other ≢ id → owns (numbers_of v) home ≡ true → HasOut words g u
no_other_home sizes h g views id other v u words seats at atu ne is_home own =
    let no : owns (numbers_of u) home ≡ false = seats.parts.apart id other v u at atu (λ q. ne (sym q)) home is_home in
    absurd cc

-- The part: from the stack, and from what the views say.

pub lists_after : (sizes : Sizes) (h g : History) (words other : List ℕ) (views : List Known) (id : ℕ) (w : Known) → ListsStand sizes h words views → IsChain (next_in other) (slice_index other head_at) (stack_of g) → Owes sizes other g w.first w.phase → ((beside : ℕ) (u : Known) → beside ≢ id → get_elem? views beside ≡ some u → Owes sizes words h u.first u.phase → Owes sizes other g u.first u.phase) → HasOut other g w → ((beside : ℕ) (u : Known) → beside ≢ id → get_elem? views beside ≡ some u → HasOut words h u → HasOut other g u) → ListsStand sizes g other (set views id w)
lists_after sizes h g words other views id w stand stack owed others_owed out others_out =
    record {
      stack = stack;
      owed = each_set (λ u. Owes sizes words h u.first u.phase) (λ u. Owes sizes other g u.first u.phase) views id w stand.owed owed others_owed;
      out = each_set (HasOut words h) (HasOut other g) views id w stand.out out others_out;
    }

-- a claim stays, where no entry is about the lot
pub claimed_still : (sizes : Sizes) (h : History) (e : Entry) (n i job : ℕ) → begins i e ≡ false → enqueues i e ≡ false → frees i e ≡ false → IsClaimed sizes h n i job → IsClaimed sizes (e ∷ h) n i job
claimed_still sizes h (New j s k) n i job a b c claimed =
    record { lot = claimed.lot; by_it = rw a claimed.by_it; job_is = rw a claimed.job_is }
claimed_still sizes h (Enqueue j asked s was) n i job a b c claimed =
    record { lot = claimed.lot; by_it = rw b claimed.by_it; job_is = claimed.job_is }
claimed_still sizes h (Put j s) n i job a b c claimed =
    record { lot = claimed.lot; by_it = claimed.by_it; job_is = claimed.job_is }
claimed_still sizes h (Cancel j s was) n i job a b c claimed =
    record { lot = claimed.lot; by_it = claimed.by_it; job_is = claimed.job_is }
claimed_still sizes h Take n i job a b c claimed =
    record { lot = claimed.lot; by_it = claimed.by_it; job_is = claimed.job_is }
claimed_still sizes h (Dequeue j ran) n i job a b c claimed =
    record { lot = claimed.lot; by_it = claimed.by_it; job_is = claimed.job_is }
claimed_still sizes h (Free j) n i job a b c claimed =
    record { lot = claimed.lot; by_it = rw c claimed.by_it; job_is = rw c claimed.job_is }
claimed_still sizes h (SetEvent j s) n i job a b c claimed =
    record { lot = claimed.lot; by_it = claimed.by_it; job_is = claimed.job_is }
claimed_still sizes h (ClearEvent j was) n i job a b c claimed =
    record { lot = claimed.lot; by_it = claimed.by_it; job_is = claimed.job_is }
