use Rattle.std.proofs.Common.{◌≡◌, ◌++◌, ◌∙◌, List, length, map, sym, ap, subst, vec_capacity, arith}
use Rattle.aio_model.specs.declared.serving.replies.Placed.{Placed}
use Rattle.co_mutex.specs.Closing.{AreAll}
use Rattle.img_join.specs.Placing.{row_at}
use Rattle.stream_ends.specs.Images.{device_behind}
use Rattle.stream_ends.specs.Stops.{bytes_filled}
use Rattle.stream_ends.proofs.Scripts.{counts_fit}
use Rattle.stream_ends.proofs.Stopping.{all_are, all_retired, charged_so, closed_by, fits_first, length_placed, long_rows, served_so, whole_so}
use Rattle.stream_ends.proofs.finishing.finish.Goals as goal

pub settle-image-requires : goal.settle-image-requires
settle-image-requires g c = record {
  rest = (
    omega (arith, c.requires.lock.passes),
    subst (AreAll c.args.lock) (sym (ap (λ p. p.0.items) c.into_parts-passes.ensures ∙ c.gather.ensures.passes))
        (all_are g.D.Device.bytes c.args.script.now c.args.lock c.requires.lock c.args.streams.items c.requires.stopped c.args.ends.passes.items c.requires.room.spare c.requires.room.new),
  );
}

pub prove-unreachable-requires : goal.prove-unreachable-requires
prove-unreachable-requires g c =
    let closed = closed_by g.D.Device.bytes c.args.script.now c.args.lock c.requires.lock c.args.streams.items c.requires.stopped c.args.ends.passes.items c.requires.room.spare c.requires.room.new
    c.into_parts-passes.result.0.items (ap (λ p. p.0.items) c.into_parts-passes.ensures ∙ c.gather.ensures.passes) c.settle-image.result c.settle-image.ensures.shows c.settle-image.ensures.untouched in
    omega (
      arith,
      c.if-prove.true,
      c.capacity.ensures,
      ap (λ l. length l) c.journal.ensures.entries,
      c.journal.ensures.whole.placed,
      closed.together,
      counts_fit c.args.script.now c.requires.bounded,
      c.requires.room.served,
      ap (λ p. vec_capacity p.3) c.into_parts-passes.ensures,
      ap (λ v. vec_capacity v) c.gather.ensures.same.1,
    )

pub finish-device-requires-clause-streams : goal.finish-device-requires-clause-streams
finish-device-requires-clause-streams g c =
    let closed = closed_by g.D.Device.bytes c.args.script.now c.args.lock c.requires.lock c.args.streams.items c.requires.stopped c.args.ends.passes.items c.requires.room.spare c.requires.room.new
    c.into_parts-passes.result.0.items (ap (λ p. p.0.items) c.into_parts-passes.ensures ∙ c.gather.ensures.passes) c.settle-image.result c.settle-image.ensures.shows c.settle-image.ensures.untouched in
    closed.streams
    ∙ sym (ap (λ l. length l) (c.as_slice.ensures.value ∙ ap (λ p. p.2.items) c.into_parts-passes.ensures ∙ ap (λ v. v.items) c.gather.ensures.same.0 ∙ c.requires.room.ids))

pub finish-device-requires-clause-rows : goal.finish-device-requires-clause-rows
finish-device-requires-clause-rows g c =
    ap (λ l. length l) (
    c.of.ensures ∙ ap (λ p. map (λ row. map (λ buffer. buffer.items) row.items) p.1.items) c.into_parts-passes.ensures ∙ c.gather.ensures.rows
    ∙ ap (λ l. map (λ row. map (λ buffer. buffer.items) row.items) l ++ map bytes_filled c.args.streams.items) c.requires.room.no_rows)
    ∙ long_rows g.D.Device.bytes c.args.script.now c.args.lock c.requires.lock c.args.streams.items c.requires.stopped c.args.ends.passes.items c.requires.room.spare c.requires.room.new
    ∙ sym (ap (λ l. length l) (c.as_slice.ensures.value ∙ ap (λ p. p.2.items) c.into_parts-passes.ensures ∙ ap (λ v. v.items) c.gather.ensures.same.0 ∙ c.requires.room.ids))

pub finish-device-requires-clause-buffered : goal.finish-device-requires-clause-buffered
finish-device-requires-clause-buffered g c k below =
    let closed = closed_by g.D.Device.bytes c.args.script.now c.args.lock c.requires.lock c.args.streams.items c.requires.stopped c.args.ends.passes.items c.requires.room.spare c.requires.room.new
    c.into_parts-passes.result.0.items (ap (λ p. p.0.items) c.into_parts-passes.ensures ∙ c.gather.ensures.passes) c.settle-image.result c.settle-image.ensures.shows c.settle-image.ensures.untouched in
    let ids = c.as_slice.ensures.value ∙ ap (λ p. p.2.items) c.into_parts-passes.ensures ∙ ap (λ v. v.items) c.gather.ensures.same.0 ∙ c.requires.room.ids in
    let rows = c.of.ensures ∙ ap (λ p. map (λ row. map (λ buffer. buffer.items) row.items) p.1.items) c.into_parts-passes.ensures ∙ c.gather.ensures.rows
    ∙ ap (λ l. map (λ row. map (λ buffer. buffer.items) row.items) l ++ map bytes_filled c.args.streams.items) c.requires.room.no_rows in
    omega (arith, closed.buffered k (subst (λ l. Rattle.std.proofs.Common.◌<◌ k (length l)) ids below), ap (λ l. length (row_at l k)) rows)

pub returns-clause-few : goal.returns-clause-few
returns-clause-few g c = omega (
  arith,
  ap (λ (l : List Placed). length l) c.finish-device.ensures.placed,
  length_placed c.as_slice.result.now c.settle-image.result.journal c.of.result,
  c.journal.ensures.whole.placed,
  c.journal.ensures.whole.few,
)

pub returns-clause-charged : goal.returns-clause-charged
returns-clause-charged g c =
    let closed = closed_by g.D.Device.bytes c.args.script.now c.args.lock c.requires.lock c.args.streams.items c.requires.stopped c.args.ends.passes.items c.requires.room.spare c.requires.room.new
    c.into_parts-passes.result.0.items (ap (λ p. p.0.items) c.into_parts-passes.ensures ∙ c.gather.ensures.passes) c.settle-image.result c.settle-image.ensures.shows c.settle-image.ensures.untouched in
    let ids = c.as_slice.ensures.value ∙ ap (λ p. p.2.items) c.into_parts-passes.ensures ∙ ap (λ v. v.items) c.gather.ensures.same.0 ∙ c.requires.room.ids in
    let rows = c.of.ensures ∙ ap (λ p. map (λ row. map (λ buffer. buffer.items) row.items) p.1.items) c.into_parts-passes.ensures ∙ c.gather.ensures.rows
    ∙ ap (λ l. map (λ row. map (λ buffer. buffer.items) row.items) l ++ map bytes_filled c.args.streams.items) c.requires.room.no_rows in
    charged_so g.D.Device.bytes g.D.Device.extent g.D.Device.faults g.D.Device.size_faults g.D.Device.calls c.args.script.now c.args.lock (map bytes_filled c.args.streams.items)
    c.settle-image.result c.finish-device.new.served.items c.finish-device.result closed c.finish-device.ensures.device
    (c.finish-device.ensures.charged
    (all_retired g.D.Device.bytes c.args.script.now c.args.lock (map bytes_filled c.args.streams.items) c.settle-image.result c.requires.bounded closed c.as_slice.result.now ids c.of.result rows))

pub returns-clause-serves : goal.returns-clause-serves
returns-clause-serves g c =
    let closed = closed_by g.D.Device.bytes c.args.script.now c.args.lock c.requires.lock c.args.streams.items c.requires.stopped c.args.ends.passes.items c.requires.room.spare c.requires.room.new
    c.into_parts-passes.result.0.items (ap (λ p. p.0.items) c.into_parts-passes.ensures ∙ c.gather.ensures.passes) c.settle-image.result c.settle-image.ensures.shows c.settle-image.ensures.untouched in
    let ids = c.as_slice.ensures.value ∙ ap (λ p. p.2.items) c.into_parts-passes.ensures ∙ ap (λ v. v.items) c.gather.ensures.same.0 ∙ c.requires.room.ids in
    let rows = c.of.ensures ∙ ap (λ p. map (λ row. map (λ buffer. buffer.items) row.items) p.1.items) c.into_parts-passes.ensures ∙ c.gather.ensures.rows
    ∙ ap (λ l. map (λ row. map (λ buffer. buffer.items) row.items) l ++ map bytes_filled c.args.streams.items) c.requires.room.no_rows in
    let charged = charged_so g.D.Device.bytes g.D.Device.extent g.D.Device.faults g.D.Device.size_faults g.D.Device.calls c.args.script.now c.args.lock (map bytes_filled c.args.streams.items)
    c.settle-image.result c.finish-device.new.served.items c.finish-device.result closed c.finish-device.ensures.device
    (c.finish-device.ensures.charged
    (all_retired g.D.Device.bytes c.args.script.now c.args.lock (map bytes_filled c.args.streams.items) c.settle-image.result c.requires.bounded closed c.as_slice.result.now ids c.of.result rows)) in
    served_so g.D.Device.bytes g.D.Device.faults g.D.Device.extent c.args.script.now c.args.lock (map bytes_filled c.args.streams.items)
    c.settle-image.result c.finish-device.new.served.items (g.D.Device.bytes c.finish-device.result) closed
    (fits_first g.D.Device.extent g.D.Device.faults g.D.Device.size_faults g.D.Device.calls c.args.script.now.image (device_behind c.args.lock) c.finish-device.result c.finish-device.new.served.items charged)
    (g.met.D.Device.as_many (device_behind c.args.lock))
    (whole_so g.D.Device.bytes c.args.script.now c.args.lock (map bytes_filled c.args.streams.items) c.settle-image.result c.requires.bounded closed c.as_slice.result.now ids c.of.result rows
    g.D.Device.faults c.finish-device.new.served.items c.finish-device.ensures.whole)
    (ap g.D.Device.bytes c.finish-device.ensures.device)
