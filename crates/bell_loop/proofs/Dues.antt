-- Where nothing is announced or out, what is due stands in the stack.
use Rattle.std.proofs.Common.{◌≡◌, ℕ, zero, suc, ◌+◌, ◌≤◌, ◌<◌, Bool, true, false, not, ◌&&◌, ◌||◌, cond, eqb, ltb, Option, Some, None, List, [], ◌∷◌, arith, refl, sym, ap, ◌∙◌, subst}
use Rattle.std.specs.Option.{is_some}
use Rattle.std.proofs.lemmas.Bool.{false≢true, eqb-true, eq-eqb, and_parts, ltb-true}
use Rattle.aio_model.specs.Loop.FlagsWord.{bit}
use Rattle.aio_model.specs.Loop.History.{Sizes, EnqueueAsks, Entry, New, Enqueue, Put, Cancel, Take, Dequeue, Free, SetEvent, ClearEvent, History}
use Rattle.aio_model.specs.Loop.Flags.{is_pending, is_scheduled, is_scheduling, is_deleted, is_due, lives, asks, enqueues, ends_round, cancels}
use Rattle.aio_model.specs.Loop.Lists.{is_announced, stack_of, out_of}
use Rattle.aio_model.specs.Loop.Laws.{times_of}
use Rattle.aio_model.specs.Loop.Legal.{IsLegal}
use Rattle.aio_model.specs.Loop.Log.{first_from}
use Rattle.aio_model.proofs.AnnouncedOnce.{fits, announced_once}
use Rattle.aio_model.proofs.Searches.{first_from-some}
use Rattle.bell_loop.specs.Running.{NoneAnnounced}
use Rattle.bell_loop.proofs.Holding.{lives-lot}

-- some index of the list is due
abbrev pub some_due : History → List ℕ → Bool
some_due h [] = false
some_due h (i ∷ rest) = is_due i h || some_due h rest

asks-enqueues : (test : EnqueueAsks → Bool) (i : ℕ) (e : Entry) → asks test i e ≡ true → enqueues i e ≡ true
asks-enqueues test i (Enqueue j asked s was) h = (and_parts _ _ h).0
asks-enqueues test i (New j s job) h = absurd (false≢true h)
asks-enqueues test i (Put j s) h = absurd (false≢true h)
asks-enqueues test i (Cancel j s was) h = absurd (false≢true h)
asks-enqueues test i Take h = absurd (false≢true h)
asks-enqueues test i (Dequeue j ran) h = absurd (false≢true h)
asks-enqueues test i (Free j) h = absurd (false≢true h)
asks-enqueues test i (SetEvent e s) h = absurd (false≢true h)
asks-enqueues test i (ClearEvent e was) h = absurd (false≢true h)

pending_more : (ends canceled asked enqueued before pending : Bool) → (asked ≡ true → enqueued ≡ true) → (before ≡ true → pending ≡ true) → cond (ends || canceled) false (asked || before) ≡ true → cond ends false (enqueued || pending) ≡ true
pending_more true canceled asked enqueued before pending now older h = absurd (false≢true h)
pending_more false true asked enqueued before pending now older h = absurd (false≢true h)
pending_more false false asked true before pending now older h = refl
pending_more false false true false before pending now older h = absurd (false≢true (now refl))
pending_more false false false false before pending now older h = older h

scheduled-pending : (i : ℕ) (H : History) → is_scheduled i H ≡ true → is_pending i H ≡ true
scheduled-pending i [] h = absurd (false≢true h)
scheduled-pending i (e ∷ H) h =
    pending_more (ends_round i e) (cancels i e) (asks is_scheduling i e) (enqueues i e) (is_scheduled i H) (is_pending i H) (asks-enqueues is_scheduling i e) (scheduled-pending i H) h

pub due-pending : (i : ℕ) (H : History) → is_due i H ≡ true → is_pending i H ≡ true
due-pending i H due = scheduled-pending i H (and_parts (is_scheduled i H) (not (is_deleted i H)) due).0

-- what stands in the list and is due
some_there : (h : History) (i : ℕ) (xs : List ℕ) → 0 < times_of i xs → is_due i h ≡ true → some_due h xs ≡ true
some_there h i [] some due = absurd (omega (arith, some))
some_there h i (j ∷ xs) some due = by_same (eqb i j) refl (some_there h i xs)
  where
    or_late : (a b : Bool) → b ≡ true → (a || b) ≡ true
    or_late true b h = refl
    or_late false b h = h

    or_here : (a b : Bool) → a ≡ true → (a || b) ≡ true
    or_here true b h = refl
    or_here false b h = absurd (false≢true h)

    by_same : (b : Bool) → eqb i j ≡ b → (0 < times_of i xs → is_due i h ≡ true → some_due h xs ≡ true) → (is_due j h || some_due h xs) ≡ true
    by_same true same later = or_here (is_due j h) _ (subst (λ k. is_due k h ≡ true) (eqb-true i j same) due)
    by_same false other later =
        let none : bit (eqb i j) ≡ 0 = ap bit other in
        or_late (is_due j h) _ (later (omega (arith, some, none)) due)

-- where one is due, it is pending
some-found : (h : History) (xs : List ℕ) → some_due h xs ≡ true → (i : ℕ) × (is_due i h ≡ true)
some-found h [] some = absurd (false≢true some)
some-found h (j ∷ xs) some = by_first (is_due j h) refl some (some-found h xs)
  where
    by_first : (b : Bool) → is_due j h ≡ b → (b || some_due h xs) ≡ true → (some_due h xs ≡ true → (i : ℕ) × (is_due i h ≡ true)) → (i : ℕ) × (is_due i h ≡ true)
    by_first true is _ _ = (j, is)
    by_first false _ rest later = later rest

first-there : (test : ℕ → Bool) (i start more : ℕ) → start ≤ i → i < start + more → test i ≡ true → is_some (first_from test start more) ≡ true
first-there test i start zero above below is = absurd (omega (arith, above, below))
first-there test i start (suc more) above below is =
    by_start (test start) refl (λ past. first-there test i (suc start) more past (omega (arith, below)) is)
  where
    past_start : (b : Bool) → eqb i start ≡ b → test start ≡ false → suc start ≤ i
    past_start true same here = absurd (false≢true (sym here ∙ subst (λ k. test k ≡ true) (eqb-true i start same) is))
    past_start false other here =
        let apart : i ≡ start → ⊥ = λ e. false≢true (sym other ∙ eq-eqb i start e) in
        omega (arith, above, apart)

    by_start : (b : Bool) → test start ≡ b → (suc start ≤ i → is_some (first_from test (suc start) more) ≡ true) → is_some (cond b (Some start) (first_from test (suc start) more)) ≡ true
    by_start true here later = refl
    by_start false here later = later (past_start (eqb i start) refl here)

in_indices : (sizes : Sizes) (h : History) (i : ℕ) → IsLegal sizes h → is_pending i h ≡ true → i < sizes.handles + sizes.lots
in_indices sizes h i legal pending = by_handle (ltb i sizes.handles) refl ((fits sizes h i legal).alive pending)
  where
    lot_below : (a b : Bool) → ltb i (sizes.handles + sizes.lots) ≡ b → (not a && b) ≡ true → i < sizes.handles + sizes.lots
    lot_below true b is h = absurd (false≢true h)
    lot_below false true is h = ltb-true i (sizes.handles + sizes.lots) is
    lot_below false false is h = absurd (false≢true h)

    by_handle : (b : Bool) → ltb i sizes.handles ≡ b → (b || lives i h) ≡ true → i < sizes.handles + sizes.lots
    by_handle true is alive = let below = ltb-true i sizes.handles is in omega (arith, below)
    by_handle false is alive = lot_below (ltb i sizes.handles) (ltb i (sizes.handles + sizes.lots)) refl (lives-lot sizes i h legal alive)

-- where nothing is announced or out, some index is due where one of the stack is
pub due-in_stack : (sizes : Sizes) (h : History) → IsLegal sizes h → NoneAnnounced h → out_of h ≡ [] → some_due h (stack_of h) ≡ is_some (first_from (λ i. is_due i h) 0 (sizes.handles + sizes.lots))
due-in_stack sizes h legal announced none =
    by_both (some_due h (stack_of h)) (first_from (λ i. is_due i h) 0 (sizes.handles + sizes.lots)) refl refl
  where
    there : (i : ℕ) → is_due i h ≡ true → some_due h (stack_of h) ≡ true
    there i due =
        let once : bit (is_announced i h) + times_of i (stack_of h) + times_of i (out_of h) ≡ bit (is_pending i h) = announced_once sizes h i legal in
        let not_announced : bit (is_announced i h) ≡ 0 = ap bit (announced i) in
        let pending : bit (is_pending i h) ≡ 1 = ap bit (due-pending i h due) in
        let not_out : times_of i (out_of h) ≡ 0 = ap (times_of i) none in
        some_there h i (stack_of h) (omega (arith, once, not_announced, pending, not_out)) due

    found : some_due h (stack_of h) ≡ true → is_some (first_from (λ i. is_due i h) 0 (sizes.handles + sizes.lots)) ≡ true
    found some =
        let due = some-found h (stack_of h) some in
        first-there (λ i. is_due i h) due.0 0 (sizes.handles + sizes.lots) (omega arith) (let below = in_indices sizes h due.0 legal (due-pending due.0 h due.1) in omega (arith, below)) due.1

    by_both : (b : Bool) (o : Option ℕ) → some_due h (stack_of h) ≡ b → first_from (λ i. is_due i h) 0 (sizes.handles + sizes.lots) ≡ o → b ≡ is_some o
    by_both true (Some i) some first = refl
    by_both false None some first = refl
    by_both true None some first = sym (sym (ap is_some first) ∙ found some)
    by_both false (Some i) some first =
        let is = first_from-some (λ k. is_due k h) 0 (sizes.handles + sizes.lots) i first in
        sym some ∙ there i is.2
