use Rattle.std.proofs.Common.{◌≡◌, ◌<◌, ◌+◌, ℕ, Option, Some, List, ◌∷◌, drop, sym, ap, ◌∙◌, subst, arith}
use Rattle.atomic_table.specs.Table.{rest}
use Rattle.aio_core.specs.Known.{Known}
use Rattle.aio_core.specs.Words.{flags_at, next_at}
use Rattle.aio_core.specs.Calls.{TableState}
use Rattle.aio_core.specs.Plays.{Dequeued}
use Rattle.aio_core.specs.Standing.{Lifts}
use Rattle.aio_core.proofs.Fetching.{lot_lift_allowed, lot_dequeue_of}
use Rattle.aio_core.proofs.Opened.{flags_within, next_within, home_owned}
use Rattle.aio_core.proofs.table.LoopTable.take_lot.Goals as goal

same_value : {J : Type 0} (m : ℕ) (a b : Option J) (xs ys : List (ℕ × Option J)) → (m, a) ∷ xs ≡ (m, b) ∷ ys → a ≡ b
same_value {J} m a b xs ys e =
    let p : ℕ × Option J = (m, a) in
    let q : ℕ × Option J = (m, b) in
    let pairs : p ≡ q = cc in
    ap (λ (r : ℕ × Option J). r.1) pairs

pub load-next-requires : goal.load-next-requires
load-next-requires g c =
    let t = c.self.inside.table.shared in
    let s = c.args.inner.now in
    let lot = c.args.lot in
    let handles : c.args.self.now.sizes.handles ≡ t.key.handles = sym (ap (λ (z : TableState). z.sizes.handles) c.self.view_is) in
    let low : lot < t.key.lots = subst (λ z. lot < z.sizes.lots) (sym c.self.view_is) c.requires.lot in
    let index : c.index_of_lot-bh.result ≡ t.key.handles + lot = c.index_of_lot-bh.ensures.index ∙ ap (λ (n : ℕ). n + lot) handles in
    let place : c.next_word.result ≡ next_at (t.key.handles + lot) = c.next_word.ensures ∙ ap (λ (n : ℕ). next_at n) index in
    let first : s.me.0.stage.slices ≡ (t.key.handles + lot + 1) ∷ drop 1 s.me.0.stage.slices = c.requires.first ∙ ap (λ (n : ℕ). (n + lot + 1) ∷ drop 1 s.me.0.stage.slices) handles in
    let count : 0 < s.me.0.count = let one = c.requires.numbers.1 in omega arith in (
      c.requires.table ∙ sym (ap (λ (z : TableState). z.table) c.self.view_is),
      next_within t.table_id.words c.next_word.result (t.key.handles + lot) t.key c.self.invariant.1 place (omega arith),
      rw place (lot_lift_allowed _ t.key t.table_id.slots s.id lot (drop 1 s.me.0.stage.slices) s.me low count (home_owned s.me.0 c.requires.numbers.0 c.requires.numbers.1) first c.requires.free),
    )

pub exchange-job-requires : goal.exchange-job-requires
exchange-job-requires g c =
    let s = c.args.inner.now in
    let lot = c.args.lot in
    let first : s.me.0.stage.slices ≡ (s.me.0.sizes.handles + lot + 1) ∷ drop 1 s.me.0.stage.slices = c.requires.first ∙ ap (λ z. (z.handles + lot + 1) ∷ drop 1 s.me.0.stage.slices) (sym c.requires.sizes) in
    let told = c.load-next.ensures.2 lot (drop 1 s.me.0.stage.slices) first in
    (c.load-next.ensures.0 ∙ c.requires.table ∙ sym (ap (λ (z : TableState). z.table) c.self.view_is), (Some told.0, told.1 ∙ ap (λ l. (lot, Some told.0) ∷ l) (sym (ap rest told.1))))

pub fetch_and-flags-requires : goal.fetch_and-flags-requires
fetch_and-flags-requires g c =
    let t = c.self.inside.table.shared in
    let s = c.args.inner.now in
    let lot = c.args.lot in
    let first : s.me.0.stage.slices ≡ (s.me.0.sizes.handles + lot + 1) ∷ drop 1 s.me.0.stage.slices = c.requires.first ∙ ap (λ z. (z.handles + lot + 1) ∷ drop 1 s.me.0.stage.slices) (sym c.requires.sizes) in
    let told = c.load-next.ensures.2 lot (drop 1 s.me.0.stage.slices) first in
    let moved = c.exchange-job.ensures in
    let n = c.exchange-job.new.seat in
    let handles : c.args.self.now.sizes.handles ≡ t.key.handles = sym (ap (λ (z : TableState). z.sizes.handles) c.self.view_is) in
    let low : lot < t.key.lots = subst (λ z. lot < z.sizes.lots) (sym c.self.view_is) c.requires.lot in
    let index : c.index_of_lot-bh.result ≡ t.key.handles + lot = c.index_of_lot-bh.ensures.index ∙ ap (λ (n : ℕ). n + lot) handles in
    let place : c.flags_word.result ≡ flags_at (t.key.handles + lot) = c.flags_word.ensures ∙ ap (λ (n : ℕ). flags_at n) index in
    let known : n.me.0 ≡ c.load-next.new.seat.me.0 = ap (λ m. m.0) moved.3 in
    let step = told.2.rest in
    let one : n.me.0.first ≡ 64 = ap (λ (k : Known). k.first) (known ∙ step) ∙ c.requires.numbers.0 in
    let two : n.me.0.count ≡ 1 = ap (λ (k : Known). k.count) (known ∙ step) ∙ c.requires.numbers.1 in
    let hand : n.me.0.stage.hand ≡ Some (t.key.handles + lot) = ap (λ (k : Known). k.stage.hand) (known ∙ step) ∙ ap (λ (k : ℕ). Some (k + lot)) (ap (λ z. z.handles) c.requires.sizes ∙ handles) in (
      moved.0 ∙ c.load-next.ensures.0 ∙ c.requires.table ∙ sym (ap (λ (z : TableState). z.table) c.self.view_is),
      flags_within t.table_id.words c.flags_word.result (t.key.handles + lot) t.key c.self.invariant.1 place (omega arith),
      rw place (lot_dequeue_of g.J.Job.number_of t.key t.table_id.slots n.id lot n.me (rest c.load-next.new.seat.me.1) (ap (λ m. m.1) moved.3) c.self.invariant.2 low (omega arith) (home_owned n.me.0 one two) hand),
    )

pub returns-clause-told : goal.returns-clause-told
returns-clause-told g c =
    let s = c.args.inner.now in
    let lot = c.args.lot in
    let first : s.me.0.stage.slices ≡ (s.me.0.sizes.handles + lot + 1) ∷ drop 1 s.me.0.stage.slices = c.requires.first ∙ ap (λ z. (z.handles + lot + 1) ∷ drop 1 s.me.0.stage.slices) (sym c.requires.sizes) in
    let told = c.load-next.ensures.2 lot (drop 1 s.me.0.stage.slices) first in
    let moved = c.exchange-job.ensures in
    let known : c.exchange-job.new.seat.me.0 ≡ c.load-next.new.seat.me.0 = ap (λ m. m.0) moved.3 in
    let i = c.args.self.now.sizes.handles + lot in
    let index : s.me.0.sizes.handles + lot ≡ i = ap (λ z. z.handles + lot) c.requires.sizes in
    let step = told.2.rest in
    let hand : c.exchange-job.new.seat.me.0.stage.hand ≡ Some i = ap (λ (k : Known). k.stage.hand) (known ∙ step) ∙ ap (λ (n : ℕ). Some n) index in
    let job : c.exchange-job.new.seat.me.0.stage.job ≡ Some (g.J.Job.number_of told.0) = ap (λ (k : Known). k.stage.job) (known ∙ step) in
    let dequeued = c.fetch_and-flags.ensures.2.1 i hand in
    let value : c.exchange-job.result ≡ Some told.0 = same_value lot c.exchange-job.result (Some told.0) (rest c.load-next.new.seat.me.1) s.me.1 (sym moved.2 ∙ told.1) in
    (told.0, c.load-next.new.seat.me.0, value, subst (λ n. Lifts n c.load-next.result (Some (g.J.Job.number_of told.0)) (drop 1 s.me.0.stage.slices) s.me.0 c.load-next.new.seat.me.0) index told.2, subst (λ (k : Known). Dequeued i c.fetch_and-flags.result k c.fetch_and-flags.new.seat.me.0) known dequeued.0, dequeued.1 ∙ job)
