use denote.Exit.{no}
use denote.Param.Send.{param_sync, arg_sync}
use Rattle.std.proofs.Common.{◌≡◌, ◌<◌, ◌||◌, ◌==◌, true, List, subst, arith, length}
use Rattle.img_streams.specs.Streams.{IsStreamAt, source}
use Rattle.stream_ends.specs.Images.{homes_of}
use Rattle.loop_threads.specs.declared.ending.LoopRun.{LoopRun}
use Rattle.aio_run.specs.Ends.{has_asked}
use Rattle.aio_run.specs.Readiness.{coroutines_of}
use Rattle.aio_run.specs.Serving.{has_move}
use Rattle.aio_run.proofs.AskedToEnd.{set_on_each}
use Rattle.aio_run.proofs.Begun.{at_place}
use Rattle.aio_run.proofs.Ended.{all_ended_of, all_over}
use Rattle.aio_run.proofs.EventCleared.{event_cleared}
use Rattle.aio_run.proofs.FoundSet.{event_found}
use Rattle.aio_run.proofs.MoveLines.{moves_by_line}
use Rattle.aio_run.proofs.Moved.{moved_there}
use Rattle.aio_run.proofs.Served.{began_there, entered_there}
use Rattle.aio_run.proofs.StatesThere.{states_there}
use Rattle.aio_run.proofs.Sharing.{env_sync}
use Rattle.aio_run.proofs.Turned.{called_where_began}
use Rattle.aio_run.proofs.running.carry_streams.Goals as goal

pub carry-runs-requires-sync-E : goal.carry-runs-requires-sync-E
carry-runs-requires-sync-E g c κs within =
    param_sync 1 _ (arg_sync _ no _ (env_sync _ _ _ _ _ c.type_bounds.send-D c.type_bounds.sync-G c.type_bounds.sync-R))

pub returns-clause-long : goal.returns-clause-long
returns-clause-long g c = c.carry-runs.ensures.many

pub returns-clause-ended : goal.returns-clause-ended
returns-clause-ended g c =
    all_ended_of (λ k co o. IsStreamAt g.D.Device.bytes k co o) _ (source c.args.env.now.lock.now c.args.env.now.script.now) c.args.opened.shared.items c.requires.of c.args.opened.homes.items c.args.hands.items c.args.opened.row c.carry-runs.result.items c.carry-runs.ensures

pub returns-clause-over : goal.returns-clause-over
returns-clause-over g c =
    all_over (λ k co o. IsStreamAt g.D.Device.bytes k co o) _ (source c.args.env.now.lock.now c.args.env.now.script.now) c.args.opened.shared.items c.requires.of c.args.opened.homes.items c.args.hands.items c.args.opened.row c.carry-runs.result.items c.carry-runs.ensures (coroutines_of c.args.env.now.script.now) c.requires.tables.0 c.requires.tables.1

pub returns-clause-served : goal.returns-clause-served
returns-clause-served g c k r low =
    let script = c.args.env.now.script.now in
    let lock = c.args.env.now.lock.now in
    let shared = c.args.opened.shared.items in
    let homes = c.args.opened.homes in
    let hands = c.args.hands in
    let row = c.args.opened.row in
    let ends = c.carry-runs.result.items in
    let here : k < length shared = omega (arith, low, c.carry-runs.ensures.many) in
    let many = length script.streams in
    let w = at_place row.seats.items k (omega (arith, here, c.requires.row.0.long)) in
    let homes_long : length homes.items ≡ length shared = omega (arith, c.requires.homes.0, homes.ok.0) in
    let hands_long : length hands.items ≡ length shared = omega (arith, c.requires.hands.0, hands.ok.0) in
    record {
      began = began_there _ _ (λ k co o. IsStreamAt g.D.Device.bytes k co o) _ _ shared homes.items hands.items row ends c.carry-runs.ensures c.requires.some c.requires.few many (homes_of script.streams) k r here w (c.requires.begun k _ here);
      moved = moved_there _ _ (λ k co o. IsStreamAt g.D.Device.bytes k co o) _ _ shared (source lock script) c.requires.of (λ loop number. has_move script loop number ≡ true)
          (λ own number was after asked home of resumed. moves_by_line g.D.Device.bytes script lock (length shared) c.requires.bounded c.requires.loops own number was after asked home of.0 of.1 resumed)
          homes.items hands.items row ends c.carry-runs.ensures c.requires.some c.requires.few c.requires.quiet homes_long hands_long many (homes_of script.streams) c.requires.begun r k here w;
      entered = entered_there _ _ (λ k co o. IsStreamAt g.D.Device.bytes k co o) _ _ shared homes.items hands.items row ends c.carry-runs.ensures c.requires.some c.requires.few k r here;
      states = states_there _ _ (λ k co o. IsStreamAt g.D.Device.bytes k co o) _ _ shared homes.items hands.items row ends c.carry-runs.ensures c.requires.some c.requires.few many (homes_of script.streams) k r here w (c.requires.begun k _ here);
    }

pub returns-clause-turned : goal.returns-clause-turned
returns-clause-turned g c k r low =
    let script = c.args.env.now.script.now in
    let shared = c.args.opened.shared.items in
    let homes = c.args.opened.homes in
    let hands = c.args.hands in
    let row = c.args.opened.row in
    let ends = c.carry-runs.result.items in
    let here : k < length shared = omega (arith, low, c.carry-runs.ensures.many) in
    let served = returns-clause-served g c k r low in
    let homes_long : length homes.items ≡ length shared = omega (arith, c.requires.homes.0, homes.ok.0) in
    let hands_long : length hands.items ≡ length shared = omega (arith, c.requires.hands.0, hands.ok.0) in
    record {
      called = called_where_began _ _ (λ k co o. IsStreamAt g.D.Device.bytes k co o) _ _ shared c.requires.tables.1 homes.items hands.items row ends c.carry-runs.ensures homes_long hands_long c.requires.quiet k r here (coroutines_of script) c.requires.none_entered (length script.streams) (homes_of script.streams) served.began served.entered;
      cleared = event_cleared _ _ (λ k co o. IsStreamAt g.D.Device.bytes k co o) _ _ shared c.requires.tables.1 homes.items hands.items row ends c.carry-runs.ensures homes_long hands_long c.requires.quiet k r here;
      found = event_found _ _ shared homes.items hands.items row ends c.carry-runs.ensures k r here c.requires.tables.1
          (set_on_each _ _ (λ k co o. IsStreamAt g.D.Device.bytes k co o) _ _ shared homes.items hands.items row ends c.carry-runs.ensures homes_long hands_long c.requires.quiet
          (length script.streams) (subst (λ (l : List (LoopRun _ _ _)). (length script.streams == 0 || has_asked l) ≡ true) c.deref.ensures.value c.see_asked.ensures) c.requires.some c.requires.set k r here);
    }
