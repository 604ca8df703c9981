use Rattle.std.proofs.Common.{◌≡◌, sym, subst, arith, length, vec_len, List, slice_index_or}
use Rattle.loop_rows.specs.declared.shared.LoopShared.{LoopShared}
use Rattle.loop_rows.specs.Opening.{NewEach, AreHomesOf}
use Rattle.loop_threads.specs.Members.{IsMemberOf}
use Rattle.loop_thread_tests.specs.Walkers.{HaveRoomForWalkers}
use Rattle.loop_thread_tests.proofs.Room.{have_room}
use Rattle.loop_thread_tests.proofs.runs.run.Goals as goal

pub post_all-walkers-requires-clause-room : goal.post_all-walkers-requires-clause-room
post_all-walkers-requires-clause-room g c =
    subst (λ (l : List (LoopShared _ _)). HaveRoomForWalkers l) (sym c.deref.ensures.value) (have_room c.args.loops tt c.in-Ok-Ok-Ok.opened c.in-Ok-Ok-Ok.ensures)

pub prepare-prepared-requires-clause-homes : goal.prepare-prepared-requires-clause-homes
prepare-prepared-requires-clause-homes g c =
    let new = c.in-Ok-Ok-Ok.ensures in
    let opened = c.in-Ok-Ok-Ok.opened in
    let n : length c.deref-2.result.now ≡ vec_len opened.shared = omega (arith, c.deref-2.ensures.len) in (
      omega (arith, n, new.homes_long, new.long, opened.homes.ok.0, opened.shared.ok.0),
      (λ k t h lt. subst (λ (l : List (LoopShared _ _)). AreHomesOf (slice_index_or l k t) (slice_index_or opened.homes.items k h)) (sym c.deref-2.ensures.value) (new.homes_each k t h (omega (arith, lt, n, new.long, opened.shared.ok.0)))),
    )

pub prepare-prepared-requires-clause-hands : goal.prepare-prepared-requires-clause-hands
prepare-prepared-requires-clause-hands g c =
    let new = c.in-Ok-Ok-Ok.ensures in
    let opened = c.in-Ok-Ok-Ok.opened in
    let clocks = c.in_ok-clocks.clocks in
    let hands = c.in-Ok-Ok-Ok.ensures'' in
    let n : length c.deref-2.result.now ≡ vec_len clocks = omega (arith, c.deref-2.ensures.len, c.in_ok-clocks.ensures, new.long, opened.shared.ok.0) in (
      omega (arith, n, hands.hands.0),
      hands.begins c.deref-2.result.now opened.homes.items opened.row.seats.items n
          (subst (λ (l : List (LoopShared _ _)). NewEach (vec_len clocks) 16 tt l opened.homes.items opened.row.seats.items) (sym c.deref-2.ensures.value) (λ k t h s lt. new.each k t h s (omega (arith, lt, c.in_ok-clocks.ensures)))),
    )

pub end-requires-clause-members : goal.end-requires-clause-members
end-requires-clause-members g c =
    let opened = c.in-Ok-Ok-Ok.opened in
    let joined = c.run-crew.ensures in
    let n : length c.deref-3.result.now ≡ vec_len opened.shared = omega (arith, c.deref-3.ensures.len) in (
      omega (arith, n, joined.members.0),
      (λ k t m lt. subst (λ (l : List (LoopShared _ _)). IsMemberOf (slice_index_or l k t) (slice_index_or c.run-crew.result.members.items k m)) c.deref-3.ensures.value (joined.homes k t m (omega (arith, lt, n)))),
    )
