use Rattle.std.proofs.Common.{◌≡◌, ℕ, arith, length, vec_len}
use Rattle.loop_rows.specs.declared.shared.LoopShared.{LoopShared}
use Rattle.loop_rows.specs.declared.seats.Seats.{Seats}
use Rattle.loop_threads.specs.declared.members.Member.{Member}
use Rattle.loop_rows.specs.Rows.{AreSeatsOf}
use Rattle.loop_threads.specs.Members.{IsMemberOf}
use Rattle.loop_rows.proofs.Places.{at_front, at_last, longer}
use Rattle.loop_threads.specs.Within.{HaveOwn}
use Rattle.loop_threads.proofs.Ended.{two_popped}
use Rattle.loop_threads.proofs.ending.Rest.take_last.Goals as goal

pub returns-clause-rest : goal.returns-clause-rest
returns-clause-rest g c =
    let old = c.args.self.now in
    let xr = c.pop.new.self in
    let yr = c.pop-2.new.self in
    let zr = c.pop-3.new.self in
    let ex = c.in_ok-shared.ensures.items in
    let ey = c.in-Some.ensures.items in
    let ez = c.in-Some-pop.ensures.items in
    let nx = longer old.shared.items xr.items c.in_ok-shared.shared ex in
    let ny = longer old.members.items yr.items c.in-Some.member ey in
    let nz = longer old.seats.items zr.items c.in-Some-pop.seats ez in
    let ly : length yr.items ≡ vec_len xr = omega (arith, nx, ny, old.shared.ok.0, old.members.ok.0, xr.ok.0, c.requires.homes_long) in
    let lz : length zr.items ≡ vec_len xr = omega (arith, nx, nz, old.shared.ok.0, old.seats.ok.0, xr.ok.0, c.requires.seats_long) in
    record {
      homes_long = omega (arith, ly, yr.ok.0);
      seats_long = omega (arith, lz, zr.ok.0);
      members = (two_popped (λ (x : LoopShared _ _) (y : Member _ _ _). IsMemberOf x y) old.shared.items xr.items old.members.items yr.items c.in_ok-shared.shared c.in-Some.member (vec_len xr) ex ey (omega (arith, xr.ok.0)) ly (λ k a b lt. c.requires.members k a b (omega (arith, lt, nx, old.shared.ok.0, xr.ok.0)))).0;
      seats = (two_popped (λ (x : LoopShared _ _) (y : Seats _ _). AreSeatsOf 0 64 x y) old.shared.items xr.items old.seats.items zr.items c.in_ok-shared.shared c.in-Some-pop.seats (vec_len xr) ex ez (omega (arith, xr.ok.0)) lz (λ k a b lt. c.requires.seats k a b (omega (arith, lt, nx, old.shared.ok.0, xr.ok.0)))).0;
      own = λ k s lt. at_front (λ (j : ℕ) (x : Seats _ _). HaveOwn x) old.seats.items zr.items c.in-Some-pop.seats ez k s (omega (arith, lt, lz)) (c.requires.own k s (omega (arith, lt, nx, old.shared.ok.0, xr.ok.0)));
    }

pub returns-clause-last : goal.returns-clause-last
returns-clause-last g c =
    let old = c.args.self.now in
    let xr = c.pop.new.self in
    let yr = c.pop-2.new.self in
    let zr = c.pop-3.new.self in
    let ex = c.in_ok-shared.ensures.items in
    let ey = c.in-Some.ensures.items in
    let ez = c.in-Some-pop.ensures.items in
    let nx = longer old.shared.items xr.items c.in_ok-shared.shared ex in
    let ny = longer old.members.items yr.items c.in-Some.member ey in
    let nz = longer old.seats.items zr.items c.in-Some-pop.seats ez in
    let ly : length yr.items ≡ vec_len xr = omega (arith, nx, ny, old.shared.ok.0, old.members.ok.0, xr.ok.0, c.requires.homes_long) in
    let lz : length zr.items ≡ vec_len xr = omega (arith, nx, nz, old.shared.ok.0, old.seats.ok.0, xr.ok.0, c.requires.seats_long) in
    record {
      shared_is = ex;
      member_is = ey;
      seats_are = ez;
      member = (two_popped (λ (x : LoopShared _ _) (y : Member _ _ _). IsMemberOf x y) old.shared.items xr.items old.members.items yr.items c.in_ok-shared.shared c.in-Some.member (vec_len xr) ex ey (omega (arith, xr.ok.0)) ly (λ k a b lt. c.requires.members k a b (omega (arith, lt, nx, old.shared.ok.0, xr.ok.0)))).1;
      seats = (two_popped (λ (x : LoopShared _ _) (y : Seats _ _). AreSeatsOf 0 64 x y) old.shared.items xr.items old.seats.items zr.items c.in_ok-shared.shared c.in-Some-pop.seats (vec_len xr) ex ez (omega (arith, xr.ok.0)) lz (λ k a b lt. c.requires.seats k a b (omega (arith, lt, nx, old.shared.ok.0, xr.ok.0)))).1;
      own = at_last (λ (j : ℕ) (x : Seats _ _). HaveOwn x) old.seats.items zr.items (vec_len xr) c.in-Some-pop.seats ez lz (c.requires.own (vec_len xr) c.in-Some-pop.seats (omega (arith, nx, old.shared.ok.0, xr.ok.0)));
    }
