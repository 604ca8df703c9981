use Rattle.std.proofs.Common.{◌≡◌, true, false, refl, sym, ap, ◌∙◌, length}
use Rattle.co_state.specs.Wants.{Wants}
use Rattle.co_loop.specs.Crews.{far}
use Rattle.co_loop.specs.Wakes.{reach}
use Rattle.co_loop.proofs.Choices.{when_true, when_false}
use Rattle.co_loop.proofs.Woken.{each_within}
use Rattle.co_loop.proofs.entering.carry_out.Goals as goal

pub returns-then-quits-clause-crew : goal.returns-then-quits-clause-crew
returns-then-quits-clause-crew g c =
    let was = c.requires.crew in
    record {
      own = was.own;
      row = c.set_ends.ensures.row;
      of = was.of;
      room = c.wake_each.ensures.room;
      within = each_within c.args.crew.now.own c.args.crew.now.coroutines (length c.args.shared.now) c.args.cx.now.wakes (reach c.args.crew.now.woken.items c.args.crew.now.seats.items) (reach c.wake_each.new.woken.items c.wake_each.new.seats.items) c.wake_each.ensures.wakes was.within;
      naps = was.naps;
      leaving = was.leaving;
      ended = was.ended;
      kept = was.kept;
      ended_of = was.ended_of;
    }

pub returns-then-quits-clause-carries : goal.returns-then-quits-clause-carries
returns-then-quits-clause-carries g c =
    let quits_is : c.args.cx.now.quits ≡ true = sym (c.quits.ensures ∙ ap (λ (a : Wants). a.quits) c.wake_each.ensures.rest) ∙ c.if-quits.true in
    record {
      woke = record (far c.args.crew.now) { woken = c.wake_each.new.woken.items; seats = c.wake_each.new.seats.items };
      wakes = c.wake_each.ensures.wakes;
      only = refl;
      quits = when_true c.args.cx.now.quits _ _ quits_is (c.set_ends.ensures.sets, refl);
    }

pub returns-else-quits-clause-crew : goal.returns-else-quits-clause-crew
returns-else-quits-clause-crew g c =
    let was = c.requires.crew in
    record {
      own = was.own;
      row = c.wake_each.ensures.row;
      of = was.of;
      room = c.wake_each.ensures.room;
      within = each_within c.args.crew.now.own c.args.crew.now.coroutines (length c.args.shared.now) c.args.cx.now.wakes (reach c.args.crew.now.woken.items c.args.crew.now.seats.items) (reach c.wake_each.new.woken.items c.wake_each.new.seats.items) c.wake_each.ensures.wakes was.within;
      naps = was.naps;
      leaving = was.leaving;
      ended = was.ended;
      kept = was.kept;
      ended_of = was.ended_of;
    }

pub returns-else-quits-clause-carries : goal.returns-else-quits-clause-carries
returns-else-quits-clause-carries g c =
    let quits_is : c.args.cx.now.quits ≡ false = sym (c.quits.ensures ∙ ap (λ (a : Wants). a.quits) c.wake_each.ensures.rest) ∙ c.if-quits.false in
    record {
      woke = record (far c.args.crew.now) { woken = c.wake_each.new.woken.items; seats = c.wake_each.new.seats.items };
      wakes = c.wake_each.ensures.wakes;
      only = refl;
      quits = when_false c.args.cx.now.quits _ _ quits_is refl;
    }
