use Rattle.aio_core.specs.Plays.{FlagsAreScanned}
use Rattle.std.proofs.Common.{◌≡◌, ◌<◌, Some, length, refl, sym, ap, subst}
use Rattle.aio_core.specs.Words.{index_count}
use Rattle.aio_core.specs.Known.{Known, Scanning}
use Rattle.aio_core.specs.SleepSteps.{scan_in}
use Rattle.aio_core.proofs.Scanning.{scan_flags_allowed}
use Rattle.aio_core.proofs.Opened.{same_table, held_numbers, held_still, seat_still, flags_within, home_opened}
use Rattle.aio_core.proofs.table.LoopTable.scan_flags.Goals as goal

pub load-requires : goal.load-requires
load-requires g c =
    let s = c.seat.inside.inner in
    let t = c.self.inside.table.shared in
    let bh = c.args.bh in
    let below : bh < index_count t.key = subst (λ z. bh < index_count z.sizes) (sym c.self.view_is) c.requires.below in
    let scanning : s.me.0.sleep ≡ Scanning (length s.me.0.did) (scan_in s.me.0.sleep) = subst (λ z. z.known.sleep ≡ Scanning (length z.known.did) (scan_in z.known.sleep)) (sym c.seat.view_is) c.requires.scanning in
    let hand : (scan_in s.me.0.sleep).stage.hand ≡ Some bh = subst (λ z. (scan_in z.known.sleep).stage.hand ≡ Some bh) (sym c.seat.view_is) c.requires.hand in (
      same_table s.table_id t.table_id s.me.0 t.key c.args.seat.now c.args.self.now c.seat.view_is c.self.view_is c.requires.seat,
      flags_within t.table_id.words c.flags_word.result bh t.key c.self.invariant.1 c.flags_word.ensures below,
      rw c.flags_word.ensures (scan_flags_allowed _ t.key t.table_id.slots s.id (length s.me.0.did) bh (scan_in s.me.0.sleep) s.me (held_numbers s.me _ _ c.seat.invariant) (home_opened s.table_id s.me.0 c.args.seat.now c.seat.view_is c.requires.number) scanning refl hand),
    )

pub invariant_of-seat : goal.invariant_of-seat
invariant_of-seat g c =
    let s = c.seat.inside.inner in
    let scanning : s.me.0.sleep ≡ Scanning (length s.me.0.did) (scan_in s.me.0.sleep) = subst (λ z. z.known.sleep ≡ Scanning (length z.known.did) (scan_in z.known.sleep)) (sym c.seat.view_is) c.requires.scanning in
    let hand : (scan_in s.me.0.sleep).stage.hand ≡ Some c.args.bh = subst (λ z. (scan_in z.known.sleep).stage.hand ≡ Some c.args.bh) (sym c.seat.view_is) c.requires.hand in
    let told = c.load.ensures.2 in
    let step = (told.1 (length s.me.0.did) c.args.bh (scan_in s.me.0.sleep) scanning hand).scans.rest in
    held_still s.me c.load.new.seat.me _ _ c.seat.invariant told.0 (ap (λ (k : Known). k.first) step) (ap (λ (k : Known). k.count) step)

pub returns-clause-seat : goal.returns-clause-seat
returns-clause-seat g c =
    let s = c.seat.inside.inner in
    let scanning : s.me.0.sleep ≡ Scanning (length s.me.0.did) (scan_in s.me.0.sleep) = subst (λ z. z.known.sleep ≡ Scanning (length z.known.did) (scan_in z.known.sleep)) (sym c.seat.view_is) c.requires.scanning in
    let hand : (scan_in s.me.0.sleep).stage.hand ≡ Some c.args.bh = subst (λ z. (scan_in z.known.sleep).stage.hand ≡ Some c.args.bh) (sym c.seat.view_is) c.requires.hand in
    let told = c.load.ensures.2 in
    let step = (told.1 (length s.me.0.did) c.args.bh (scan_in s.me.0.sleep) scanning hand).scans.rest in
    seat_still s.table_id c.load.new.seat.table_id s.me.0 c.load.new.seat.me.0 c.args.seat.now c.args.self.now c.seat.view_is c.requires.seat c.load.ensures.0 (ap (λ (k : Known). k.sizes) step)

pub returns-clause-step : goal.returns-clause-step
returns-clause-step g c =
    let s = c.seat.inside.inner in
    let scanning : s.me.0.sleep ≡ Scanning (length s.me.0.did) (scan_in s.me.0.sleep) = subst (λ z. z.known.sleep ≡ Scanning (length z.known.did) (scan_in z.known.sleep)) (sym c.seat.view_is) c.requires.scanning in
    let hand : (scan_in s.me.0.sleep).stage.hand ≡ Some c.args.bh = subst (λ z. (scan_in z.known.sleep).stage.hand ≡ Some c.args.bh) (sym c.seat.view_is) c.requires.hand in
    let told = c.load.ensures.2 in
    subst (λ z. FlagsAreScanned c.args.bh c.load.result (scan_in z.known.sleep) z.known c.load.new.seat.me.0) c.seat.view_is (told.1 (length s.me.0.did) c.args.bh (scan_in s.me.0.sleep) scanning hand)
