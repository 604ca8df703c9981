use Rattle.std.proofs.Common.{◌≡◌, ◌+◌, ◌∙◌, length, refl, sym, ap, subst, vec_capacity, arith}
use Rattle.co_mutex.specs.Passes.{IsNew}
use Rattle.stream_ends.specs.Starts.{AllAt}
use Rattle.stream_ends.proofs.Starting.{Deals, deals_none, deals_more, next_pass, next_room, spare_new}
use Rattle.stream_ends.proofs.beginning.deal.Goals as goal

pub loop-number-init : goal.loop-number-init
loop-number-init g c =
    let bytes = g.D.Device.bytes in
    let script = c.args.script.now in
    record {
      deals = subst (λ l. Deals bytes script c.args.lock 0 l c.into_parts-rooms.result.0.items c.into_parts-rooms.result.1.items) (sym c.from_vec-passes.ensures.items)
          (subst (λ r. Deals bytes script c.args.lock 0 c.args.passes.items r.0.items r.1.items) (sym c.into_parts-rooms.ensures)
          (subst (λ l. Deals bytes script c.args.lock 0 c.args.passes.items c.args.rooms.rooms.items l) (sym c.requires.rooms.none)
          (deals_none bytes script c.args.lock c.args.passes.items c.args.rooms.rooms.items c.requires.lock.passes c.requires.passes c.requires.rooms.rooms_are)));
      room = omega (arith, c.requires.rooms.room, ap (λ r. vec_capacity r.1) c.into_parts-rooms.ensures);
    }

pub started-requires-clause-new : goal.started-requires-clause-new
started-requires-clause-new g c =
    next_pass g.D.Device.bytes c.args.script.now c.args.lock c.loop-number.number c.loop-number.passes.items c.take_first-pass.new.queue.items c.loop-number.rooms.items
    c.take_first-room.new.queue.items c.loop-number.streams.items c.take_first-pass.result c.take_first-room.result c.loop-number.invariant.deals c.take_first-pass.ensures c.take_first-room.ensures

pub started-requires-clause-room : goal.started-requires-clause-room
started-requires-clause-room g c =
    next_room g.D.Device.bytes c.args.script.now c.args.lock c.loop-number.number c.loop-number.passes.items c.take_first-pass.new.queue.items c.loop-number.rooms.items
    c.take_first-room.new.queue.items c.loop-number.streams.items c.take_first-pass.result c.take_first-room.result c.loop-number.invariant.deals c.take_first-pass.ensures c.take_first-room.ensures

pub loop-number-preserved : goal.loop-number-preserved
loop-number-preserved g c = record {
  deals = subst (λ l. Deals g.D.Device.bytes c.args.script.now c.args.lock (c.loop-number.number + 1) c.take_first-pass.new.queue.items c.take_first-room.new.queue.items l) (sym c.push_reserved.ensures.items)
      (deals_more g.D.Device.bytes c.args.script.now c.args.lock c.loop-number.number c.loop-number.passes.items c.take_first-pass.new.queue.items c.loop-number.rooms.items
      c.take_first-room.new.queue.items c.loop-number.streams.items c.take_first-pass.result c.take_first-room.result c.loop-number.invariant.deals c.take_first-pass.ensures c.take_first-room.ensures
      c.started.result c.started.ensures);
  room = omega (arith, c.loop-number.invariant.room, c.push_reserved.ensures.capacity);
}

pub returns : goal.returns
returns g c =
    let bytes = g.D.Device.bytes in
    let script = c.args.script.now in
    let deals = c.loop-number.invariant.deals in
    let ends = c.requires.rooms.ends in
    let all : c.loop-number.number ≡ length script.streams = omega (arith, deals.rooms_left, c.loop-number-test.false, ap (λ l. length l) c.as_slice.ensures) in
    record {
      lock = c.requires.lock;
      behind = refl;
      streams = record { many = deals.many ∙ all; each = deals.started };
      room = record {
        ids = ap (λ r. r.2.ids.items) c.into_parts-rooms.ensures ∙ ends.ids;
        spare = omega (arith, deals.passes_left, all, ap (λ l. length l) c.keep.ensures.kept);
        new = subst (AllAt (IsNew c.args.lock)) (sym c.keep.ensures.kept)
            (spare_new bytes script c.args.lock c.loop-number.number c.loop-number.passes.items c.loop-number.rooms.items c.loop-number.streams.items deals all);
        passes = omega (arith, ends.passes, c.keep.ensures.room, ap (λ r. vec_capacity r.2.passes) c.into_parts-rooms.ensures);
        no_rows = ap (λ r. r.2.rows.items) c.into_parts-rooms.ensures ∙ ends.no_rows;
        rows = omega (arith, ends.rows, ap (λ r. vec_capacity r.2.rows) c.into_parts-rooms.ensures);
        none_served = ap (λ r. r.2.served.items) c.into_parts-rooms.ensures ∙ ends.none_served;
        served = omega (arith, ends.served, ap (λ r. vec_capacity r.2.served) c.into_parts-rooms.ensures);
      };
    }
