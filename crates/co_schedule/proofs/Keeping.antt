-- What keeps the parts of the rule: on views, on words, on slots.
use Rattle.std.proofs.Common.{◌≡◌, ◌≢◌, ℕ, ◌<◌, Bool, true, false, List, [], ◌∷◌, ◌++◌, MatchBool, set, slice_index, reverse, refl, sym, ap, ◌∙◌, subst, ⊎_elim, arith}
use Rattle.std.proofs.lemmas.List.{set-get_or, reverse-append}
use Rattle.std.proofs.lemmas.Bool.{cases_eq}
use mathlib.Core.Option.{some}
use lib.ListN.{get_elem?}
use Rattle.aio_chain.proofs.Chains.{Each, each-front, each-back, chain_kept}
use Rattle.table_seats.specs.Seats.{owns, home, EachView}
use Rattle.table_seats.proofs.Seats.{each_set, IsSame, seats_keep}
use Rattle.table_seats.proofs.Entries.{owns_first}
use Rattle.aio_model.specs.Coroutines.History.{History, seat_of, Free, Scheduled, Pushed, co_place_of}
use Rattle.co_schedule.specs.Words.{next_in}
use Rattle.co_schedule.specs.Known.{Phase, AtRest, Marked, HeadLoaded, Linked, is_at_rest, Stage, Known, part_of, numbers_of}
use Rattle.co_schedule.specs.Rule.{IsOwed, Owes, WalkStands, Knows, Stands}
use Rattle.co_schedule.specs.Slots.{is_at_hand, IsVacant, HasState, Holds, HoldsAll, SlotsStand}

-- Lists.

pub each_all : (P : ℕ → Type 0) (xs : List ℕ) → ((i : ℕ) → P i) → Each P xs
each_all P [] h = tt
each_all P (x ∷ xs) h = (h x, each_all P xs h)

pub reverse-step : (x : ℕ) (xs : List ℕ) → reverse (x ∷ xs) ≡ reverse xs ++ x ∷ []
reverse-step x xs = reverse-append (x ∷ []) xs

pub each-unreverse : (P : ℕ → Type 0) (xs : List ℕ) → Each P (reverse xs) → Each P xs
each-unreverse P [] h = tt
each-unreverse P (x ∷ xs) h =
    let parts : Each P (reverse xs ++ x ∷ []) = subst (Each P) (reverse-step x xs) h in
    ((each-back P (reverse xs) (x ∷ []) parts).0, each-unreverse P xs (each-front P (reverse xs) (x ∷ []) parts))

-- Views.

pub owes_kept : (words other : List ℕ) (h g : History) (n : ℕ) (phase : Phase) → ((c : ℕ) (given : Bool) → is_at_rest phase ≡ false → IsOwed h n c given → IsOwed g n c given × (next_in other c ≡ next_in words c)) → Owes words h n phase → Owes other g n phase
owes_kept words other h g n AtRest k owes = tt
owes_kept words other h g n (Marked c given) k owes = (k c given refl owes).0
owes_kept words other h g n (HeadLoaded c given found) k owes = (k c given refl owes).0
owes_kept words other h g n (Linked c given found) k owes =
    ((k c given refl owes.0).0, (k c given refl owes.0).1 ∙ owes.1)

pub walks_kept : (words other taken : List ℕ) (stage : Stage) → Each (λ c. next_in other c ≡ next_in words c) taken → WalkStands words taken stage → WalkStands other taken stage
walks_kept words other taken stage same walks =
    let parts = subst (Each (λ c. next_in other c ≡ next_in words c)) walks.whole same in
    record {
      is = walks.is;
      rest = walks.rest;
      chain = chain_kept (next_in words) (next_in other) stage.word walks.rest walks.chain (each-unreverse _ walks.rest (each-front _ (reverse walks.rest) stage.run parts));
      whole = walks.whole;
      held = walks.held;
    }

-- what another view says stays, where what it owes stays and what was taken stays
pub knows_kept : (n : ℕ) (words other : List ℕ) (h g : History) (taken now : List ℕ) (u : Known) → ((c : ℕ) (given : Bool) → is_at_rest u.phase ≡ false → IsOwed h u.first c given → IsOwed g u.first c given × (next_in other c ≡ next_in words c)) → (owns (numbers_of u) home ≡ true → WalkStands words taken u.stage → WalkStands other now u.stage) → Knows n h words taken u → Knows n g other now u
knows_kept n words other h g taken now u owed walks k =
    record {
      coroutines_are = k.coroutines_are;
      active = k.active;
      owes = owes_kept words other h g u.first u.phase owed k.owes;
      walks = λ own. walks own (k.walks own);
    }

same_seat : (s t : ℕ) (a b : Bool) → Scheduled s a ≡ Scheduled t b → s ≡ t
same_seat s t a b e = cc

-- two seats never owe one coroutine
pub owed_apart : (n : ℕ) (h : History) (words : List ℕ) (views : List Known) (id other : ℕ) (v u : Known) (c d : ℕ) (a b : Bool) → Stands n h words views → get_elem? views id ≡ some v → get_elem? views other ≡ some u → other ≢ id → IsOwed h v.first c a → 0 < v.count → IsOwed h u.first d b → 0 < u.count → c ≢ d
owed_apart n h words views id other v u c d a b stand at atu ne mine has theirs have same =
    let firsts : v.first ≡ u.first = same_seat v.first u.first a b (sym mine ∙ ap (λ k. co_place_of k h) same ∙ theirs) in
    let not_theirs : owns (numbers_of u) v.first ≡ false = stand.seats.apart id other v u at atu (λ q. ne (sym q)) v.first (owns_first (numbers_of v) has) in
    let is_theirs : owns (numbers_of u) v.first ≡ true = subst (λ k. owns (numbers_of u) k ≡ true) (sym firsts) (owns_first (numbers_of u) have) in
    cc

-- another than the home's view says nothing of what was taken
pub no_other_home : (n : ℕ) (h : History) (words : List ℕ) (views : List Known) (id other : ℕ) (v u : Known) (R : Type 0) → Stands n h words views → get_elem? views id ≡ some v → get_elem? views other ≡ some u → other ≢ id → owns (numbers_of v) home ≡ true → owns (numbers_of u) home ≡ true → R
no_other_home n h words views id other v u R stand at atu ne is_home own =
    let no : owns (numbers_of u) home ≡ false = stand.seats.apart id other v u at atu (λ q. ne (sym q)) home is_home in
    absurd cc

-- The words.

-- a load leaves the words
pub loaded_words : (words : List ℕ) (k : ℕ) → set words k (slice_index words k) ≡ words
loaded_words words k = set-get_or words k 0

-- no entry, no word
pub keeps_stand : (n : ℕ) (h : History) (words : List ℕ) (views : List Known) (id : ℕ) (v w : Known) (stand : Stands n h words views) → get_elem? views id ≡ some v → IsSame (part_of v) (part_of w) → w.seen ≡ v.seen → w.mine ≡ v.mine → Knows n h words stand.taken w → Stands n h words (set views id w)
keeps_stand n h words views id v w stand at same seen mine knows =
    record {
      long = stand.long;
      legal = stand.legal;
      seats = seats_keep seat_of part_of h views id v w stand.seats at same seen mine;
      marks = stand.marks;
      taken = stand.taken;
      stack = stand.stack;
      queue = stand.queue;
      chain = stand.chain;
      knows = each_set (Knows n h words stand.taken) (Knows n h words stand.taken) views id w stand.knows knows (λ beside u ne atu old. old);
    }

-- the same, where a load wrote back what it found
pub load_stands : (n : ℕ) (h : History) (words : List ℕ) (views : List Known) (id k : ℕ) (v w : Known) (stand : Stands n h words views) → get_elem? views id ≡ some v → IsSame (part_of v) (part_of w) → w.seen ≡ v.seen → w.mine ≡ v.mine → Knows n h words stand.taken w → Stands n h (set words k (slice_index words k)) (set views id w)
load_stands n h words views id k v w stand at same seen mine knows =
    subst (λ ws. Stands n h ws (set views id w)) (sym (loaded_words words k)) (keeps_stand n h words views id v w stand at same seen mine knows)

-- The slots.

module _ {S : Type 0} (given_in : S → Bool) (IsOf : ℕ → S → Type 0) where
  -- one slot's facts are given, and the others' stay
  pub slots_change : (n : ℕ) (h g : History) (homes other : List (mathlib.Core.Option.Option S)) (views : List Known) (id : ℕ) (v w : Known) (c0 : ℕ) → SlotsStand given_in IsOf n h homes views → get_elem? views id ≡ some v → numbers_of w ≡ numbers_of v
      → ((c : ℕ) → c ≢ c0 → (co_place_of c g ≡ co_place_of c h) × (get_elem? other c ≡ get_elem? homes c) × (is_at_hand c w.stage.hand ≡ is_at_hand c v.stage.hand) × (is_at_hand c v.stage.hand ≡ true → w.stage.given ≡ v.stage.given))
      → (c0 < n → co_place_of c0 g ≡ Free → IsVacant given_in IsOf (get_elem? other c0))
      → EachView (λ u. owns (numbers_of u) home ≡ true → c0 < n → (s : ℕ) (given : Bool) → co_place_of c0 g ≡ Pushed s given → Holds given_in IsOf c0 u.stage given (get_elem? other c0)) (set views id w)
      → SlotsStand given_in IsOf n g other (set views id w)
  slots_change n h g homes other views id v w c0 stand at numbers same vacant full =
      record {
        vacant = λ c low is. ⊎_elim (λ (e : c ≡ c0). subst (λ k. k < n → co_place_of k g ≡ Free → IsVacant given_in IsOf (get_elem? other k)) (sym e) vacant low is) (λ (ne : c ≢ c0). let s = same c ne in let old = stand.vacant c low (sym s.0 ∙ is) in (old.0, s.1 ∙ old.1, old.2)) (cases_eq c c0);
        full = λ far u atu own c low s given is. ⊎_elim (λ (e : c ≡ c0). subst (λ k. k < n → (s : ℕ) (given : Bool) → co_place_of k g ≡ Pushed s given → Holds given_in IsOf k u.stage given (get_elem? other k)) (sym e) (full far u atu own) low s given is) (λ (ne : c ≢ c0). kept c (same c ne) low far u atu own s given is) (cases_eq c c0);
      }
    where
      moved_to : (c : ℕ) (a b : Stage) (given : Bool) (p q : _) → is_at_hand c b.hand ≡ is_at_hand c a.hand → (is_at_hand c a.hand ≡ true → b.given ≡ a.given) → q ≡ p → Holds given_in IsOf c a given p → Holds given_in IsOf c b given q
      moved_to c a b given p q hands gave place has = by (is_at_hand c a.hand) gave has (is_at_hand c b.hand) hands
        where
          by : (x : Bool) → (x ≡ true → b.given ≡ a.given) → MatchBool x (a.given ≡ given) (HasState given_in IsOf c given p) → (y : Bool) → y ≡ x → MatchBool y (b.given ≡ given) (HasState given_in IsOf c given q)
          by true k m true e = k refl ∙ m
          by false k m false e = (m.0, place ∙ m.1, m.2, m.3)
          by true k m false e = absurd cc
          by false k m true e = absurd cc

      kept : (c : ℕ) → (co_place_of c g ≡ co_place_of c h) × (get_elem? other c ≡ get_elem? homes c) × (is_at_hand c w.stage.hand ≡ is_at_hand c v.stage.hand) × (is_at_hand c v.stage.hand ≡ true → w.stage.given ≡ v.stage.given) → c < n → EachView (λ u. owns (numbers_of u) home ≡ true → (s : ℕ) (given : Bool) → co_place_of c g ≡ Pushed s given → Holds given_in IsOf c u.stage given (get_elem? other c)) (set views id w)
      kept c s low = each_set (HoldsAll given_in IsOf n h homes) (λ u. owns (numbers_of u) home ≡ true → (s : ℕ) (given : Bool) → co_place_of c g ≡ Pushed s given → Holds given_in IsOf c u.stage given (get_elem? other c)) views id w stand.full
          (λ own t given is. moved_to c v.stage w.stage given (get_elem? homes c) (get_elem? other c) s.2 s.3 s.1 (stand.full id v at (subst (λ m. owns m home ≡ true) numbers own) c low t given (sym s.0 ∙ is)))
          (λ far u ne atu old own t given is. moved_to c u.stage u.stage given (get_elem? homes c) (get_elem? other c) refl (λ _. refl) s.1 (old own c low t given (sym s.0 ∙ is)))

  -- no slot's facts change
  pub slots_kept : (n : ℕ) (h : History) (homes : List (mathlib.Core.Option.Option S)) (views : List Known) (id : ℕ) (v w : Known) → SlotsStand given_in IsOf n h homes views → get_elem? views id ≡ some v → numbers_of w ≡ numbers_of v → w.stage.hand ≡ v.stage.hand → w.stage.given ≡ v.stage.given → SlotsStand given_in IsOf n h homes (set views id w)
  slots_kept n h homes views id v w stand at numbers hand given =
      slots_change n h h homes homes views id v w n stand at numbers (λ c ne. (refl, refl, ap (is_at_hand c) hand, λ _. given)) (λ low. absurd (omega arith)) (λ far u atu own low. absurd (omega arith))
