use Rattle.aio_core.specs.SleepSteps.{Tests, watched_in}
use Rattle.std.proofs.Common.{◌≡◌, length, refl, sym, ap, subst, arith}
use Rattle.aio_core.specs.Known.{Known, Armed}
use Rattle.aio_core.proofs.Arming.{test_allowed}
use Rattle.aio_core.proofs.Opened.{same_table, held_numbers, held_still, seat_still, word_within, home_opened}
use Rattle.aio_core.proofs.table.LoopTable.load_notified.Goals as goal

pub load-requires : goal.load-requires
load-requires g c =
    let s = c.seat.inside.inner in
    let t = c.self.inside.table.shared in
    let armed : s.me.0.sleep ≡ Armed (length s.me.0.did) (watched_in s.me.0.sleep) = subst (λ z. z.known.sleep ≡ Armed (length z.known.did) (watched_in z.known.sleep)) (sym c.seat.view_is) c.requires.armed in (
      same_table s.table_id t.table_id s.me.0 t.key c.args.seat.now c.args.self.now c.seat.view_is c.self.view_is c.requires.seat,
      word_within t.table_id.words 1 t.key c.self.invariant.1 (omega arith),
      (test_allowed _ t.key t.table_id.slots s.id (length s.me.0.did) (watched_in s.me.0.sleep) s.me (held_numbers s.me _ _ c.seat.invariant) (home_opened s.table_id s.me.0 c.args.seat.now c.seat.view_is c.requires.number) armed refl),
    )

pub invariant_of-seat : goal.invariant_of-seat
invariant_of-seat g c =
    let s = c.seat.inside.inner in
    let armed : s.me.0.sleep ≡ Armed (length s.me.0.did) (watched_in s.me.0.sleep) = subst (λ z. z.known.sleep ≡ Armed (length z.known.did) (watched_in z.known.sleep)) (sym c.seat.view_is) c.requires.armed in
    let told = c.load.ensures.2 in
    let step = (told.1 (length s.me.0.did) (watched_in s.me.0.sleep) armed).rest in
    held_still s.me c.load.new.seat.me _ _ c.seat.invariant told.0 (ap (λ (k : Known). k.first) step) (ap (λ (k : Known). k.count) step)

pub returns-clause-seat : goal.returns-clause-seat
returns-clause-seat g c =
    let s = c.seat.inside.inner in
    let armed : s.me.0.sleep ≡ Armed (length s.me.0.did) (watched_in s.me.0.sleep) = subst (λ z. z.known.sleep ≡ Armed (length z.known.did) (watched_in z.known.sleep)) (sym c.seat.view_is) c.requires.armed in
    let told = c.load.ensures.2 in
    let step = (told.1 (length s.me.0.did) (watched_in s.me.0.sleep) armed).rest in
    seat_still s.table_id c.load.new.seat.table_id s.me.0 c.load.new.seat.me.0 c.args.seat.now c.args.self.now c.seat.view_is c.requires.seat c.load.ensures.0 (ap (λ (k : Known). k.sizes) step)

pub returns-clause-step : goal.returns-clause-step
returns-clause-step g c =
    let s = c.seat.inside.inner in
    let armed : s.me.0.sleep ≡ Armed (length s.me.0.did) (watched_in s.me.0.sleep) = subst (λ z. z.known.sleep ≡ Armed (length z.known.did) (watched_in z.known.sleep)) (sym c.seat.view_is) c.requires.armed in
    let told = c.load.ensures.2 in
    subst (λ z. Tests (watched_in z.known.sleep) c.load.result z.known c.load.new.seat.me.0) c.seat.view_is (told.1 (length s.me.0.did) (watched_in s.me.0.sleep) armed)
