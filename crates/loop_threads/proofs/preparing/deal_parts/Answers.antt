use Rattle.std.proofs.Common.{◌≡◌, ◌<◌, ◌+◌, ◌∙◌, ap, sym, subst, refl, arith, length, ℕ, vec_len, List, ◌∷◌, [], slice_index_or}
use Rattle.std.proofs.lemmas.List.{get_or_append_left}
use Rattle.co_loop.specs.Working.{CanWork}
use Rattle.loop_rows.specs.declared.shared.LoopShared.{LoopShared}
use Rattle.loop_rows.specs.declared.opening.Homes.{Homes}
use Rattle.loop_threads.specs.declared.hands.Hand.{Hand}
use Rattle.loop_threads.specs.declared.parts.Part.{Part}
use Rattle.loop_rows.specs.Opening.{AreHomesOf}
use Rattle.loop_threads.specs.Parts.{IsLoopPart}
use Rattle.loop_threads.specs.Running.{CanBegin, BeginsRun}
use Rattle.loop_rows.proofs.Places.{at_push, longer}
use Rattle.loop_threads.proofs.Membership.{taken_last}
use Rattle.loop_threads.specs.Dealing.{RowSees}
use Rattle.loop_threads.proofs.Dealt.{pairs_popped}
use Rattle.loop_threads.proofs.Seeing.{popped_sees}
use Rattle.loop_threads.proofs.Beginning.{begin_more, part_of, part_begins}
use Rattle.loop_threads.proofs.preparing.deal_parts.Goals as goal

pub loop-one-preserved : goal.loop-one-preserved
loop-one-preserved g c =
    let was = c.loop-one.invariant in
    let T = c.args.shared.now in
    let H = c.loop-one.homes in
    let hr = c.pop.new.self in
    let one = c.in-Some.one in
    let eh = c.in-Some.ensures.items in
    let nh = longer H.items hr.items one eh in
    let D = c.loop-one.hands in
    let dr = c.pop-in-Some.new.self in
    let hand = c.in-Some-pop.hand in
    let ed = c.in-Some-pop.ensures.items in
    let nd = longer D.items dr.items hand ed in
    let R = c.loop-one.pairs in
    let rr = c.pop-in-Some-2.new.self in
    let row = c.in-Some-pop-2.row in
    let er = c.in-Some-pop-2.ensures.items in
    let nr = longer R.items rr.items row er in
    let parts = c.loop-one.parts in
    let pushed = c.push_reserved.ensures in
    let nl : c.len.result ≡ length hr.items = omega (arith, c.len.ensures, hr.ok.0) in
    let made : Part _ _ _ = part_of c.len.result one hand row in
    let sh = was.5 (length hr.items) one (omega (arith, nh, H.ok.0)) in
    let sd = was.6 (length dr.items) hand (omega (arith, nd, D.ok.0)) in
    let lt : length hr.items < length T = omega (arith, was.1, nh, H.ok.0) in
    let same : length dr.items ≡ length hr.items = omega (arith, was.0, nd, nh, H.ok.0, D.ok.0) in
    let dealt = pairs_popped T R.items rr.items row er was.4 in
    let are = λ (t : LoopShared _ _). subst (λ (x : Homes _ _). AreHomesOf (slice_index_or T (length hr.items) t) x) (sym (taken_last c.args.homes.items H.items hr.items one eh sh)) (c.requires.homes.1 (length hr.items) t one lt) in
    let can = subst (λ (x : Homes _ _). CanBegin (CanWork g.C.Origin.is_of) T (length hr.items) x hand) (sym (taken_last c.args.homes.items H.items hr.items one eh sh))
    (subst (λ (i : ℕ). CanBegin (CanWork g.C.Origin.is_of) T i (slice_index_or c.args.homes.items i one) hand) same
    (subst (λ (x : Hand _). CanBegin (CanWork g.C.Origin.is_of) T (length dr.items) (slice_index_or c.args.homes.items (length dr.items) one) x) (sym (taken_last c.args.hands.items D.items dr.items hand ed sd)) (c.requires.hands.1 (length dr.items) one hand (omega (arith, lt, same))))) in
    let is : IsLoopPart (CanWork g.C.Origin.is_of) T made = part_begins (CanWork g.C.Origin.is_of) T (length hr.items) one hand row lt are can dealt.1.0
    (record { first_is = omega (arith, dealt.1.1.first_is, was.1, was.2, nh, nr, H.ok.0, R.ok.0, c.requires.few); count_is = dealt.1.1.count_is }) made (ap (λ (i : ℕ). part_of i one hand row) nl) in (
      omega (arith, same, hr.ok.0, dr.ok.0),
      omega (arith, was.1, nh, H.ok.0, hr.ok.0, pushed.len),
      omega (arith, was.2, nr, R.ok.0, rr.ok.0, pushed.len),
      (pushed.capacity ∙ was.3),
      dealt.0,
      (λ k h low. sym (ap (λ l. slice_index_or l k h) eh ∙ get_or_append_left hr.items (one ∷ []) h k (omega (arith, low, hr.ok.0))) ∙ was.5 k h (omega (arith, low, nh, H.ok.0, hr.ok.0))),
      (λ k d low. sym (ap (λ l. slice_index_or l k d) ed ∙ get_or_append_left dr.items (hand ∷ []) d k (omega (arith, low, dr.ok.0))) ∙ was.6 k d (omega (arith, low, nd, D.ok.0, dr.ok.0))),
      (λ j p low. subst (λ (xs : List (Part _ _ _)). IsLoopPart (CanWork g.C.Origin.is_of) T (slice_index_or xs j p) × ((slice_index_or xs j p).number + j + 1 ≡ length T)) (sym pushed.items)
          (at_push (λ (i : ℕ) (x : Part _ _ _). IsLoopPart (CanWork g.C.Origin.is_of) T x × (x.number + i + 1 ≡ length T)) parts.items (length parts.items) made refl (is, omega (arith, nl, was.1, nh, H.ok.0, parts.ok.0)) j p (omega (arith, low, pushed.len, parts.ok.0)) (λ less. was.7 j p (omega (arith, less, parts.ok.0))))),
      (λ k j h d p at low. subst (λ (xs : List (Part _ _ _)). BeginsRun (slice_index_or c.args.homes.items k h) (slice_index_or c.args.hands.items k d) (slice_index_or xs j p)) (sym pushed.items)
          (begin_more (λ (x : Homes _ _) (y : Hand _) (z : Part _ _ _). BeginsRun x y z) c.args.homes.items H.items hr.items c.args.hands.items D.items dr.items parts.items one hand made (length T) eh ed (omega (arith, was.0, H.ok.0, D.ok.0)) (omega (arith, was.1, H.ok.0, parts.ok.0))
          (omega (arith, c.requires.homes.0, c.args.homes.ok.0)) (omega (arith, c.requires.hands.0, c.args.hands.ok.0)) sh sd (record { home_is = refl; lots_are = refl; coroutines_are = refl; side_is = refl; work_is = refl; not_ended = refl })
          (λ a b x y z f less. was.8 a b x y z f (omega (arith, less, parts.ok.0))) k j h d p at (omega (arith, low, pushed.len, parts.ok.0)))),
      (λ whole see.
          let seen = was.9 whole see in
          let popped = popped_sees (length T) whole R.items rr.items row er seen.0 in (
            popped.0,
            (λ j p low. subst (λ (xs : List (Part _ _ _)). RowSees (length T) whole (slice_index_or xs j p).row.seats.items) (sym pushed.items)
                (at_push (λ (i : ℕ) (x : Part _ _ _). RowSees (length T) whole x.row.seats.items) parts.items (length parts.items) made refl popped.1 j p (omega (arith, low, pushed.len, parts.ok.0)) (λ less. seen.1 j p (omega (arith, less, parts.ok.0))))),
          )),
    )

pub returns-clause-parts : goal.returns-clause-parts
returns-clause-parts g c =
    let was = c.loop-one.invariant in
    let none : vec_len c.loop-one.homes ≡ 0 = c.in_default.ensures.cases.0 in (
      omega (arith, was.1, none),
      (λ k p lt. (was.7 k p (omega (arith, lt, c.loop-one.parts.ok.0))).0),
      (λ k p lt. omega (arith, (was.7 k p (omega (arith, lt, c.loop-one.parts.ok.0))).1, was.1, none, c.loop-one.parts.ok.0)),
    )

pub returns-clause-begins : goal.returns-clause-begins
returns-clause-begins g c k j h d p at =
    let was = c.loop-one.invariant in
    let none : vec_len c.loop-one.homes ≡ 0 = c.in_default.ensures.cases.0 in
    was.8 k j h d p at (omega (arith, at, was.1, none))
