-- From the steps of a call to what the call says.
use Rattle.std.proofs.Common.{◌≡◌, ℕ, ◌<◌, Bool, true, None, Some, List, [], ◌∷◌, ◌++◌, refl, sym, ap, ◌∙◌, subst}
use Rattle.std.proofs.lemmas.Bool.{and_parts, and_from, lt-ltb, ltb-true}
use Rattle.aio_model.specs.declared.coroutines.causes.Cause.{Cause}
use Rattle.aio_model.specs.Coroutines.History.{Schedule, Push, Enter, History, seat_of, queue_of, IsLegal}
use Rattle.aio_chain.proofs.Chains.{Each}
use Rattle.table_seats.specs.Calls.{newest_of}
use Rattle.table_seats.proofs.Standing.{HasGrown, grown_by_none, grown_by_others, grown_by_one, stands_of}
use Rattle.co_schedule.specs.Known.{Done, Phase, AtRest, Stage, Known, part_of}
use Rattle.co_schedule.specs.Standing.{tried, WalksOn, Walked, Missed, SchedulesAtLast, TakesAll, BeginsFirst}
use Rattle.co_schedule.specs.Calls.{are_within, HasScheduled, HasTaken, HasBegunFirst}
use Rattle.co_schedule.proofs.Histories.{queue_below}

-- tries change but what was done
pub missed_rest : (c : ℕ) (before now : Known) (ts : List (ℕ × ℕ)) → Missed c before now ts → now ≡ record before { did = now.did }
missed_rest c before now [] is = is ∙ sym (ap (λ (k : Known). record before { did = k.did }) is)
missed_rest c before now (t ∷ ts) is =
    let mid = is.0 in
    let same : mid ≡ record before { did = mid.did } = missed_rest c before mid ts is.1 in
    is.2 ∙ ap (λ (k : Known). record k { did = tried c t.0 t.1 ++ mid.did }) same ∙ ap (λ (k : Known). record before { did = k.did }) (sym is.2)

pub scheduled : (c : ℕ) (cause : Cause) (given : Bool) (v w : Known) → v.phase ≡ AtRest → SchedulesAtLast c cause given v w → HasScheduled c cause given v w
scheduled c cause given v w rest is =
    let m = is.marked in
    let l = is.pushes.last in
    let marks = is.schedules in
    let push = is.pushes.pushes in
    let still : l ≡ record m { did = l.did } = missed_rest c m l is.pushes.tries is.pushes.missed in
    let m_first : m.first ≡ v.first = ap (λ (k : Known). k.first) marks.rest in
    let l_first : l.first ≡ m.first = ap (λ (k : Known). k.first) still in
    let m_size : m.coroutines ≡ v.coroutines = ap (λ (k : Known). k.coroutines) marks.rest in
    let l_size : l.coroutines ≡ m.coroutines = ap (λ (k : Known). k.coroutines) still in
    let one : HasGrown seat_of m.first (Schedule c cause given v.first ∷ []) v.seen v.mine m.seen m.mine = subst (λ k. HasGrown seat_of k (Schedule c cause given v.first ∷ []) v.seen v.mine m.seen m.mine) (sym m_first) (grown_by_one seat_of (IsLegal v.coroutines) [] v.seen v.mine (Schedule c cause given v.first) (part_of v) (part_of m) (grown_by_none seat_of v.first v.seen v.mine) marks.makes refl) in
    let at_last : HasGrown seat_of l.first (Schedule c cause given v.first ∷ []) v.seen v.mine l.seen l.mine = subst (λ (k : Known). HasGrown seat_of k.first (Schedule c cause given v.first ∷ []) v.seen v.mine k.seen k.mine) (sym still) one in
    let two : HasGrown seat_of l.first (Push c l.first ∷ Schedule c cause given v.first ∷ []) v.seen v.mine w.seen w.mine = grown_by_one seat_of (IsLegal l.coroutines) (Schedule c cause given v.first ∷ []) v.seen v.mine (Push c l.first) (part_of l) (part_of w) at_last push.makes refl in
    let by_v : HasGrown seat_of v.first (Push c v.first ∷ Schedule c cause given v.first ∷ []) v.seen v.mine w.seen w.mine = subst (λ k. HasGrown seat_of k (Push c k ∷ Schedule c cause given v.first ∷ []) v.seen v.mine w.seen w.mine) (l_first ∙ m_first) two in
    let legal : IsLegal v.coroutines w.seen = subst (λ k. IsLegal k w.seen) (l_size ∙ m_size) push.makes.legal in
    record {
      steps = is;
      stands = stands_of seat_of (IsLegal v.coroutines) v.first (Push c v.first ∷ Schedule c cause given v.first ∷ []) v.seen v.mine w.seen w.mine by_v legal (ap newest_of push.makes.seen ∙ ap (λ k. Some (Push c k)) (l_first ∙ m_first));
      rest = push.rest ∙ ap (λ (k : Known). record k { seen = w.seen; mine = w.mine; did = tried c push.found push.found ++ l.did; phase = AtRest }) (still ∙ ap (λ (k : Known). record k { did = l.did }) marks.rest) ∙ ap (λ (p : Phase). record v { seen = w.seen; mine = w.mine; did = tried c push.found push.found ++ l.did; phase = p }) (sym rest) ∙ ap (λ (d : List Done). record v { seen = w.seen; mine = w.mine; did = d }) (sym (ap (λ (k : Known). k.did) push.rest));
    }

-- The list.

within_of : (n : ℕ) (cos : List ℕ) → Each (λ c. c < n) cos → are_within n cos ≡ true
within_of n [] each = refl
within_of n (c ∷ cos) each = and_from _ _ (lt-ltb c n each.0) (within_of n cos each.1)

pub first_within : (n c : ℕ) (cos : List ℕ) → are_within n (c ∷ cos) ≡ true → c < n
first_within n c cos is = ltb-true c n (and_parts _ _ is).0

pub rest_within : (n c : ℕ) (cos : List ℕ) → are_within n (c ∷ cos) ≡ true → are_within n cos ≡ true
rest_within n c cos is = (and_parts _ _ is).1

-- the steps of a walk leave all but what was done and the stage
pub walked_rest : (v w : Known) (cos : List ℕ) → Walked v w cos → w ≡ record v { did = w.did; stage = w.stage }
walked_rest v w [] is = is ∙ sym (ap (λ (k : Known). record v { did = k.did; stage = k.stage }) is)
walked_rest v w (c ∷ cos) is =
    let mid = is.0 in
    let same : mid ≡ record v { did = mid.did; stage = mid.stage } = walked_rest v mid cos is.2 in
    let now : w ≡ record mid { did = w.did; stage = w.stage } = follows_rest c is.1 mid w is.3 in
    now ∙ ap (λ (k : Known). record k { did = w.did; stage = w.stage }) same
  where
    follows_rest : (c found : ℕ) (a b : Known) → WalksOn c found a b → b ≡ record a { did = b.did; stage = b.stage }
    follows_rest c found a b f = f.rest ∙ ap (λ (k : Known). record a { did = k.did; stage = k.stage }) (sym f.rest)

pub taken : (v w : Known) → 0 < v.count → TakesAll v w → HasTaken v w
taken v w numbered is =
    let s = is.swapped in
    let takes = is.takes in
    let walk : w ≡ record s { did = w.did; stage = w.stage } = walked_rest s w is.cos is.walked in
    let mines : w.mine ≡ v.mine = ap (λ (k : Known). k.mine) walk ∙ ap (λ (k : Known). k.mine) takes.rest in
    let seen : w.seen ≡ takes.others ++ v.seen = is.seen ∙ takes.seen in
    let grown = grown_by_others seat_of takes.others (part_of v) (part_of w) numbered takes.not_own seen mines in
    record {
      steps = is;
      stands = stands_of seat_of (IsLegal v.coroutines) v.first [] v.seen v.mine w.seen w.mine grown (subst (IsLegal v.coroutines) (sym is.seen) takes.legal) tt;
      taken = is.whole ∙ ap queue_of (sym is.seen);
      rest = walk ∙ ap (λ (k : Known). record k { did = w.did; stage = w.stage }) takes.rest ∙ ap (λ (l : History). record v { seen = l; did = w.did; stage = w.stage }) (sym is.seen);
    }

pub taken_within : (v w : Known) → HasTaken v w → are_within w.coroutines w.stage.taken ≡ true
taken_within v w is =
    let sized : w.coroutines ≡ v.coroutines = ap (λ (k : Known). k.coroutines) is.rest in
    subst (λ k. are_within k w.stage.taken ≡ true) (sym sized) (subst (λ l. are_within v.coroutines l ≡ true) (sym is.taken) (within_of v.coroutines (queue_of w.seen) (queue_below v.coroutines w.seen is.stands.stands.legal)))

-- The first one.

pub begun : (c : ℕ) (given : Bool) (more : List ℕ) (v w : Known) → v.first ≡ 64 → v.stage.taken ≡ c ∷ more → BeginsFirst c given more v w → HasBegunFirst c given v w
begun c given more v w first taken is =
    let o = is.opened in
    let enters = is.enters in
    let firsts : o.first ≡ v.first = ap (λ (k : Known). k.first) is.opens.rest in
    let sized : o.coroutines ≡ v.coroutines = ap (λ (k : Known). k.coroutines) is.opens.rest in
    let start : HasGrown seat_of o.first [] v.seen v.mine o.seen o.mine = subst (λ (k : Known). HasGrown seat_of k.first [] v.seen v.mine k.seen k.mine) (sym is.opens.rest) (grown_by_none seat_of v.first v.seen v.mine) in
    let one : HasGrown seat_of o.first (Enter c ∷ []) v.seen v.mine w.seen w.mine = grown_by_one seat_of (IsLegal o.coroutines) [] v.seen v.mine (Enter c) (part_of o) (part_of w) start enters.makes (sym (firsts ∙ first)) in
    let left : w.stage.taken ≡ more = ap (λ (k : Known). k.stage.taken) enters.rest in
    record {
      steps = subst (λ l. BeginsFirst c given l v w) (sym left) is;
      stands = stands_of seat_of (IsLegal v.coroutines) v.first (Enter c ∷ []) v.seen v.mine w.seen w.mine (subst (λ k. HasGrown seat_of k (Enter c ∷ []) v.seen v.mine w.seen w.mine) firsts one) (subst (λ k. IsLegal k w.seen) sized enters.makes.legal) (ap newest_of enters.makes.seen);
      first = taken ∙ ap (λ (l : List ℕ). c ∷ l) (sym left);
      rest = opened_on o enters.rest ∙ ap (λ (k : Known). record k { seen = w.seen; mine = w.mine; did = w.did; stage = w.stage }) is.opens.rest;
    }
  where
    opened_on : {s m : History} {d : List Done} {g : Stage} (o : Known) → w ≡ record o { seen = s; mine = m; did = d; stage = g } → w ≡ record o { seen = w.seen; mine = w.mine; did = w.did; stage = w.stage }
    opened_on o e = e ∙ ap (λ (k : Known). record o { seen = k.seen; mine = k.mine; did = k.did; stage = k.stage }) (sym e)

-- the run goes on
pub begun_over : (c : ℕ) (given : Bool) (v w : Known) → HasBegunFirst c given v w → v.stage.word ≡ 0 → (w.stage.word ≡ 0) × (w.stage.hand ≡ None) × (w.stage.run ≡ w.stage.taken)
begun_over c given v w is over =
    let b = is.steps in
    let e = b.enters.rest in
    (ap (λ (k : Known). k.stage.word) e ∙ ap (λ (k : Known). k.stage.word) b.opens.rest ∙ over, ap (λ (k : Known). k.stage.hand) e, ap (λ (k : Known). k.stage.run) e ∙ sym (ap (λ (k : Known). k.stage.taken) e))

pub begun_within : (c : ℕ) (given : Bool) (v w : Known) → HasBegunFirst c given v w → are_within v.coroutines v.stage.taken ≡ true → are_within w.coroutines w.stage.taken ≡ true
begun_within c given v w is within =
    let sized : w.coroutines ≡ v.coroutines = ap (λ (k : Known). k.coroutines) is.rest in
    subst (λ k. are_within k w.stage.taken ≡ true) (sym sized) (rest_within v.coroutines c w.stage.taken (subst (λ l. are_within v.coroutines l ≡ true) is.first within))
