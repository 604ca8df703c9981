use Rattle.std.proofs.Common.{◌+◌, ◌<◌, length, slice_set, ap, ◌∙◌, arith}
use Rattle.lock_tests.specs.Crews.{IsPlayerOf}
use Rattle.lock_tests.proofs.Crews.{goes, comes, was_there}
use Rattle.lock_tests.proofs.crew.play.Goals as goal

pub plays-player-requires : goal.plays-player-requires
plays-player-requires g c =
    let a = c.place_of-place.ensures in
    let b = c.len.ensures in
    let d = c.args.players.now.ok.0 in
    let low : c.place_of-place.result < length c.args.players.now.items = omega (arith, a, b, d) in
    record { pass = (was_there c.args.lock.now c.args.players.now.len c.args.players.now.items _ _ c.index_mut.result.now c.in-Some.player c.requires.each low c.index_mut.ensures.value c.in-Some.ensures.value).0 }

pub returns-clause-each : goal.returns-clause-each
returns-clause-each g c =
    let m = c.args.lock.now in
    let n = c.args.players.now.len in
    let xs = c.args.players.now.items in
    let k = c.place_of-place.result in
    let a = c.place_of-place.ensures in
    let b = c.len.ensures in
    let d = c.args.players.now.ok.0 in
    let low : k < length xs = omega (arith, a, b, d) in
    let was = was_there m n xs k _ c.index_mut.result.now c.in-Some.player c.requires.each low c.index_mut.ensures.value c.in-Some.ensures.value in
    let fit : IsPlayerOf m n k c.plays-player.result.0 = (c.plays-player.ensures.pass, ap (λ i. i + k + 1) c.plays-player.ensures.same ∙ was.1) in
    comes m n (slice_set xs k c.replace.new.dest) k c.replace-2.new.dest c.plays-player.result.0 (goes m n xs k c.replace.new.dest c.requires.each c.replace.ensures.after) c.replace-2.ensures.after fit
