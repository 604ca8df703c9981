-- Whoever owns all numbers but the home's knows of each coroutine that it never scheduled that it has no mark.
use Rattle.std.proofs.Common.{◌≡◌, ℕ, ◌<◌, Bool, true, false, cond, ◌||◌, eqb, [], ◌∷◌, ◌++◌, refl, sym, ap, ◌∙◌, subst, arith, ◌+◌}
use Rattle.std.proofs.lemmas.Bool.{and_from, not_from_false, le-ltb, lt-ltb}
use Rattle.table_seats.specs.Seats.{Numbers, owns, own_entries}
use Rattle.aio_model.specs.Coroutines.History.{Entry, Schedule, Push, Enter, History, Free, Scheduled, pushed, seat_of, co_place_of, IsLegal}
use Rattle.co_schedule.specs.Words.{mark_of}
use Rattle.co_schedule.specs.Known.{Known, numbers_of}
use Rattle.co_schedule.specs.Standing.{IsMarkOf, was_scheduled_by}

abbrev all_seats : Numbers
all_seats = record { first = 0; count = 64 }

owned : (s : ℕ) → s < 64 → owns all_seats s ≡ true
owned s below =
    and_from _ _ (not_from_false _ (le-ltb s 0 (omega arith))) (lt-ltb s (0 + 64) below)

-- an entry that isn't a schedule tells nothing of one
passed_over : (b : Bool) (c : ℕ) (e : Entry) (mine : History) → was_scheduled_by c (e ∷ mine) ≡ was_scheduled_by c mine → was_scheduled_by c (cond b (e ∷ mine) mine) ≡ false → was_scheduled_by c mine ≡ false
passed_over true c e mine same never = sym same ∙ never
passed_over false c e mine same never = never

pub never_scheduled : (n c : ℕ) (h : History) → IsLegal n h → was_scheduled_by c (own_entries seat_of all_seats h) ≡ false → co_place_of c h ≡ Free
never_scheduled n c [] legal never = refl
never_scheduled n c (Schedule d cause given s ∷ P) legal never =
    let mine = own_entries seat_of all_seats P in
    let here : was_scheduled_by c (Schedule d cause given s ∷ mine) ≡ false = sym (ap (λ b. was_scheduled_by c (cond b (Schedule d cause given s ∷ mine) mine)) (owned s legal.0.2)) ∙ never in
    by (eqb c d) here (never_scheduled n c P legal.1)
  where
    by : (b : Bool) → (b || was_scheduled_by c (own_entries seat_of all_seats P)) ≡ false → (was_scheduled_by c (own_entries seat_of all_seats P) ≡ false → co_place_of c P ≡ Free) → cond b (Scheduled s given) (co_place_of c P) ≡ Free
    by true k older = absurd cc
    by false k older = older k
never_scheduled n c (Push d s ∷ P) legal never =
    by (eqb c d) (never_scheduled n c P legal.1 (passed_over (owns all_seats s) c (Push d s) (own_entries seat_of all_seats P) refl never))
  where
    by : (b : Bool) → co_place_of c P ≡ Free → cond b (pushed (co_place_of c P)) (co_place_of c P) ≡ Free
    by true older = ap pushed older
    by false older = older
never_scheduled n c (Enter d ∷ P) legal never =
    by (eqb c d) (never_scheduled n c P legal.1 (passed_over (owns all_seats 64) c (Enter d) (own_entries seat_of all_seats P) refl never))
  where
    by : (b : Bool) → co_place_of c P ≡ Free → cond b Free (co_place_of c P) ≡ Free
    by true older = refl
    by false older = older

pub unmarked : (c mark : ℕ) (v : Known) → v.first ≡ 0 → v.count ≡ 64 → was_scheduled_by c v.mine ≡ false → IsMarkOf c mark v → mark ≡ 0
unmarked c mark v first count never is =
    let numbers : numbers_of v ≡ all_seats = λ i. record { first = first i; count = count i } in
    let own : own_entries seat_of all_seats (is.others ++ v.seen) ≡ v.mine = subst (λ k. own_entries seat_of k (is.others ++ v.seen) ≡ v.mine) numbers is.own in
    let none : was_scheduled_by c (own_entries seat_of all_seats (is.others ++ v.seen)) ≡ false = ap (was_scheduled_by c) own ∙ never in
    is.mark_is ∙ ap mark_of (never_scheduled v.coroutines c (is.others ++ v.seen) is.legal none)
