use Rattle.std.proofs.Common.{◌∙◌, ap, sym, subst, arith, List, length, ◌<◌, slice_index_or}
use Rattle.std.specs.List.{AllByRecursion}
use lib.ListN.{length-map}
use Rattle.loop_rows.specs.declared.shared.LoopShared.{LoopShared}
use Rattle.loop_rows.specs.Opening.{HomesEach}
use Rattle.loop_rows.specs.Rows.{IsRow, HasNumbers}
use Rattle.loop_threads.specs.Reserving.{IsReserved}
use Rattle.stream_ends.specs.Images.{homes_of}
use Rattle.aio_run.specs.declared.running.RunEnd.{RunEnd}
use Rattle.aio_run.specs.Ends.{IsOver, end_of_run}
use Rattle.aio_run.specs.Posting.{HaveBegun, AllHaveOwn, HaveSet}
use Rattle.aio_run.specs.Readiness.{AreQuiet, HaveEntered, coroutines_of}
use Rattle.aio_run.specs.Serving.{HasServed}
use Rattle.aio_run.specs.Turned.{HasTurned}
use Rattle.aio_run.proofs.Lists.{all_mapped, at_mapped}
use Rattle.aio_run.proofs.Served.{begun_alone}
use Rattle.aio_run.proofs.running.serve_streams.Goals as goal

pub end_if_none-requires : goal.end_if_none-requires
end_if_none-requires g c =
    let posted = c.requires.posted in
    record { row = subst (λ (l : List (LoopShared _ _)). IsRow l c.args.loops.opened.row × HasNumbers 0 64 c.args.loops.opened.row) (sym c.deref.ensures.value) (posted.is_row, posted.numbers) }

pub carry_streams-runs-requires-clause-homes : goal.carry_streams-runs-requires-clause-homes
carry_streams-runs-requires-clause-homes g c κs within =
    let posted = c.requires.posted in
    let opened = c.args.loops.opened in (
      omega (arith, posted.long, posted.homes_long, opened.homes.ok.0),
      subst (λ n. HomesEach n opened.shared.items opened.homes.items) (sym posted.long) posted.homes_each,
    )

pub carry_streams-runs-requires-clause-reserved : goal.carry_streams-runs-requires-clause-reserved
carry_streams-runs-requires-clause-reserved g c κs within =
    subst (λ n. IsReserved n c.args.loops.reserved) (sym c.requires.posted.long) c.requires.posted.rest.reserved

pub carry_streams-runs-requires-clause-row : goal.carry_streams-runs-requires-clause-row
carry_streams-runs-requires-clause-row g c κs within =
    subst (λ (l : List (LoopShared _ _)). IsRow l c.end_if_none.new.row × HasNumbers 0 64 c.end_if_none.new.row) c.deref.ensures.value c.end_if_none.ensures.row

pub carry_streams-runs-requires-clause-begun : goal.carry_streams-runs-requires-clause-begun
carry_streams-runs-requires-clause-begun g c κs within =
    let script = c.args.env.now.script.now in
    let posted = c.requires.posted in
    let opened = c.args.loops.opened in
    begun_alone opened.shared.items opened.row c.end_if_none.new.row.seats.items (length script.streams) (homes_of script.streams) posted.is_row posted.numbers
    (subst (λ n. HaveBegun (length script.streams) (homes_of script.streams) n opened.row.seats.items) (sym posted.long) posted.begun)
    (subst (λ n. AllHaveOwn n opened.row.seats.items) (sym posted.long) posted.own)
    c.end_if_none.ensures.coroutines

pub carry_streams-runs-requires-clause-none_entered : goal.carry_streams-runs-requires-clause-none_entered
carry_streams-runs-requires-clause-none_entered g c κs within =
    subst (λ n. HaveEntered n (coroutines_of c.args.env.now.script.now) c.args.loops.opened.homes.items) (sym c.requires.posted.long) c.requires.posted.none_entered

pub carry_streams-runs-requires-clause-quiet : goal.carry_streams-runs-requires-clause-quiet
carry_streams-runs-requires-clause-quiet g c κs within =
    subst (λ n. AreQuiet n c.args.loops.hands.items) (sym c.requires.posted.long) c.requires.posted.rest.quiet

pub carry_streams-runs-requires-clause-set : goal.carry_streams-runs-requires-clause-set
carry_streams-runs-requires-clause-set g c κs within none =
    subst (λ (l : List (LoopShared _ _)). HaveSet (length l) c.end_if_none.new.row.seats.items) c.deref.ensures.value (c.end_if_none.ensures.set none)

pub returns-clause-ends : goal.returns-clause-ends
returns-clause-ends g c =
    let script = c.args.env.now.script.now in
    let runs = c.carry_streams-runs.result.items in
    let kept = c.gather.ensures.kept in (
      ap length kept ∙ length-map runs end_of_run ∙ c.carry_streams-runs.ensures.long ∙ c.requires.posted.long,
      subst (AllByRecursion (λ end. IsOver (coroutines_of script) end.calls.known end.coroutines)) (sym kept)
          (all_mapped end_of_run (λ (end : RunEnd _ _). IsOver (coroutines_of script) end.calls.known end.coroutines) runs c.carry_streams-runs.ensures.over),
    )

pub returns-clause-served : goal.returns-clause-served
returns-clause-served g c k end low =
    let script = c.args.env.now.script.now in
    let runs = c.carry_streams-runs.result.items in
    let here : k < length runs = omega (arith, low, c.carry_streams-runs.ensures.long, c.requires.posted.long) in
    subst (λ (l : List (RunEnd _ _)). HasServed script k (slice_index_or l k end).coroutines.history) (sym c.gather.ensures.kept)
    (at_mapped end_of_run (λ (e : RunEnd _ _). HasServed script k e.coroutines.history) runs k here (λ r. c.carry_streams-runs.ensures.served k r here) end)

pub returns-clause-turned : goal.returns-clause-turned
returns-clause-turned g c k end low =
    let script = c.args.env.now.script.now in
    let runs = c.carry_streams-runs.result.items in
    let here : k < length runs = omega (arith, low, c.carry_streams-runs.ensures.long, c.requires.posted.long) in
    subst (λ (l : List (RunEnd _ _)). HasTurned script k (slice_index_or l k end).calls.known.seen) (sym c.gather.ensures.kept)
    (at_mapped end_of_run (λ (e : RunEnd _ _). HasTurned script k e.calls.known.seen) runs k here (λ r. c.carry_streams-runs.ensures.turned k r here) end)

pub carry_streams-runs-requires-clause-loops : goal.carry_streams-runs-requires-clause-loops
carry_streams-runs-requires-clause-loops g c κs within = sym c.requires.posted.long
