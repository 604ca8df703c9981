use Rattle.std.proofs.Common.{sym, ap, ◌∙◌, subst, length, length-set, slice_set}
use Rattle.std.specs.FinMap as map
use Rattle.co_state.specs.Coroutines.{Coroutines}
use Rattle.co_loop.specs.declared.naps.Nap.TheVariants as nap
use Rattle.co_loop.specs.Crews.{far, CarriesOut}
use Rattle.co_loop.proofs.Choices.{when_some}
use Rattle.co_loop.proofs.Kept.{was_there, kept_entered, followable, follows_store, carries_store}
use Rattle.co_loop.proofs.entering.enter_one.Goals as goal

pub follow-requires : goal.follow-requires
follow-requires g c =
    let was = c.requires.crew in
    let found = was_there (map.get c.args.crew.now.store.held c.args.co) c.enter-entered.result _ _ _ c.enter-entered.ensures c.in_default.not-Absent in
    let origin_is = ap (λ (s : Coroutines g.row.C.Denot g.row.C-Source.Denot). s.origin) found.2.left in
    record {
      crew = record {
        own = was.own;
        row = was.row;
        of = λ k t h. was.of k t h ∙ sym origin_is;
        room = was.room;
        within = was.within;
        naps = length-set c.args.crew.now.naps.items c.args.co _ ∙ was.naps;
        leaving = was.leaving;
        ended = was.ended;
        kept = kept_entered g.C.Origin.is_of g.C.Co.resumes (length c.args.shared.now) c.args.crew.now.store c.enter-entered.new.self c.args.crew.now.leaving.items c.args.co found.0 c.enter-entered.new.cx c.enter-entered.result found.1 found.2 was.kept;
        ended_of = λ k co is. subst (g.C.Origin.is_of k co) (sym origin_is) (was.ended_of k co is);
      };
      below = c.requires.below;
      of = followable g.C.Origin.is_of g.C.Co.resumes c.args.crew.now.store c.enter-entered.new.self c.args.co found.0 c.enter-entered.new.cx c.enter-entered.result found.2;
    }

pub returns : goal.returns
returns g c =
    let found = was_there (map.get c.args.crew.now.store.held c.args.co) c.enter-entered.result _ _ _ c.enter-entered.ensures c.in_default.not-Absent in
    let same = c.follow.ensures.same in
    let later = c.carry_out.ensures.same in
    let loops = length c.args.shared.now in
    let start = record (far c.args.crew.now) { store = c.enter-entered.new.self; naps = slice_set c.args.crew.now.naps.items c.args.co nap.Awake } in
    let followed = follows_store c.args.crew.now.own loops c.args.co c.enter-entered.result start (far c.follow.new.crew) c.follow.ensures.follows in
    let stored = carries_store c.follow.new.crew.own c.follow.new.crew.coroutines loops c.enter-entered.new.cx (far c.follow.new.crew) (far c.carry_out.new.crew) c.carry_out.ensures.carries in
    record {
      crew = c.carry_out.ensures.crew;
      same = record { own = later.own ∙ same.own; coroutines = later.coroutines ∙ same.coroutines };
      origin = ap (λ (s : Coroutines g.row.C.Denot g.row.C-Source.Denot). s.origin) (stored ∙ followed ∙ found.2.left);
      enters = when_some (map.get c.args.crew.now.store.held c.args.co) found.0 _ _ found.1 (record {
        asked = c.enter-entered.new.cx;
        answer = c.enter-entered.result;
        store = c.enter-entered.new.self;
        enters = found.2;
        stepped = far c.follow.new.crew;
        follows = c.follow.ensures.follows;
        carries = subst (λ k. CarriesOut c.args.crew.now.own k loops c.enter-entered.new.cx (far c.follow.new.crew) (far c.carry_out.new.crew)) same.coroutines
            (subst (λ k. CarriesOut k c.follow.new.crew.coroutines loops c.enter-entered.new.cx (far c.follow.new.crew) (far c.carry_out.new.crew)) same.own c.carry_out.ensures.carries);
      });
    }
