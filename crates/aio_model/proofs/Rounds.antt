-- What stands between the entries of one index in a legal history.
use Rattle.std.proofs.Common.{◌≡◌, ℕ, Bool, true, false, not, cond, ◌&&◌, ◌||◌, eqb, [], ◌∷◌, ◌++◌, refl, sym, ◌∙◌}
use Rattle.std.proofs.lemmas.Bool.{eq-eqb, or_parts, and_parts}
use Rattle.aio_model.specs.declared.loops.flags.Flags.{Flags}
use Rattle.aio_model.specs.Loop.History.{ToDelete, Enqueue, Dequeue, History}
use Rattle.aio_model.specs.Loop.Flags.{is_pending, is_scheduled, was_scheduled, is_deleted, is_scheduling, is_deleting, cancels, enqueues, asks, ends_life, ends_round}
use Rattle.aio_model.specs.Loop.Laws.{some_entry, IsEnqueuedBetween, IsNeverCalledDeleted, IsLegalCutAnywhere}
use Rattle.aio_model.proofs.AnnouncedOnce.{fits, head_is_pending}

pub legal_cut : IsLegalCutAnywhere
legal_cut sizes [] older h = h
legal_cut sizes (e ∷ newer) older h = legal_cut sizes newer older h.1

found_more : (ends here before found : Bool) → (before ≡ true → found ≡ true) → cond ends false (here || before) ≡ true → (here || found) ≡ true
found_more true here before found k h = absurd cc
found_more false true before found k h = refl
found_more false false before found k h = k h

-- what the round has stands after the last dequeue
pending_between : (i : ℕ) (first : Bool) (between older : History) → is_pending i (between ++ (Dequeue i first ∷ older)) ≡ true → some_entry (enqueues i) between ≡ true
pending_between i first [] older h =
    let e : eqb i i ≡ true = eq-eqb i i refl in
    let none : false ≡ true = rw e at h in
    absurd cc
pending_between i first (e ∷ between) older h =
    found_more (ends_round i e) (enqueues i e) (is_pending i (between ++ (Dequeue i first ∷ older))) (some_entry (enqueues i) between) (pending_between i first between older) h

scheduled_between : (i : ℕ) (first : Bool) (between older : History) → was_scheduled i (between ++ (Dequeue i first ∷ older)) ≡ true → some_entry (asks is_scheduling i) between ≡ true
scheduled_between i first [] older h =
    let e : eqb i i ≡ true = eq-eqb i i refl in
    let none : false ≡ true = rw e at h in
    absurd cc
scheduled_between i first (e ∷ between) older h =
    found_more (ends_round i e) (asks is_scheduling i e) (was_scheduled i (between ++ (Dequeue i first ∷ older))) (some_entry (asks is_scheduling i) between) (scheduled_between i first between older) h

was_more : (ends canceled here before was : Bool) → (before ≡ true → was ≡ true) → cond (ends || canceled) false (here || before) ≡ true → cond ends false (here || was) ≡ true
was_more true canceled here before was k h = absurd cc
was_more false true here before was k h = absurd cc
was_more false false true before was k h = refl
was_more false false false before was k h = k h

pub scheduled_was : (i : ℕ) (H : History) → is_scheduled i H ≡ true → was_scheduled i H ≡ true
scheduled_was i [] h = absurd cc
scheduled_was i (e ∷ H) h =
    was_more (ends_round i e) (cancels i e) (asks is_scheduling i e) (is_scheduled i H) (was_scheduled i H) (scheduled_was i H) h

pub enqueued_between : IsEnqueuedBetween
enqueued_between sizes newer between older i second first legal =
    let P = between ++ (Dequeue i first ∷ older) in
    let cut = legal_cut sizes newer (Dequeue i second ∷ P) legal in
    let pending = head_is_pending sizes P i second (fits sizes P i cut.1) cut.0.0 in
    (pending_between i first between older pending, λ ran. let was = scheduled_was i P (and_parts _ _ (sym cut.0.1 ∙ ran)).0 in (was, scheduled_between i first between older was))

kept_more : (ends here before : Bool) → ends ≡ false → before ≡ true → cond ends false (here || before) ≡ true
kept_more true here before h k = absurd cc
kept_more false true before h k = refl
kept_more false false before h k = k

-- a deletion stays for the rest of the life
pub stays_deleted : (i seat : ℕ) (was : Flags) (between older : History) → some_entry (ends_life i) between ≡ false → is_deleted i (between ++ (Enqueue i ToDelete seat was ∷ older)) ≡ true
stays_deleted i seat was [] older h = let e : eqb i i ≡ true = eq-eqb i i refl in rw e refl
stays_deleted i seat was (e ∷ between) older h =
    let parts = or_parts (ends_life i e) (some_entry (ends_life i) between) h in
    kept_more (ends_life i e) (asks is_deleting i e) (is_deleted i (between ++ (Enqueue i ToDelete seat was ∷ older))) parts.0 (stays_deleted i seat was between older parts.1)

not_due : (scheduled deleted : Bool) → deleted ≡ true → (scheduled && not deleted) ≡ false
not_due true true h = refl
not_due false true h = refl
not_due scheduled false h = absurd cc

pub never_called_deleted : IsNeverCalledDeleted
never_called_deleted sizes newer between older i seat was ran legal alive =
    let P = between ++ (Enqueue i ToDelete seat was ∷ older) in
    let cut = legal_cut sizes newer (Dequeue i ran ∷ P) legal in
    cut.0.1 ∙ not_due (is_scheduled i P) (is_deleted i P) (stays_deleted i seat was between older alive)
