use Rattle.std.proofs.Common.{◌∙◌, None, replicate, slice_index_or, sym, ap, subst, arith}
use Rattle.loop_rows.specs.Opening.{AreNewLoops, NewEach}
use Rattle.aio_run.proofs.Lists.{same_at}
use Rattle.aio_run.proofs.opening.open_loops.Goals as goal

pub returns : goal.returns
returns g c =
    let t = c.in_ok-opened.ensures in
    record {
      tables = subst (λ n. AreNewLoops c.args.script.now.loops n g.origin c.in_ok-opened.opened) c.coroutines_for-coroutines.ensures t;
      rest = record {
        hands = c.in_ok-hands.ensures.hands.0 ∙ c.requires.1.1.1.1.1.1;
        begin = c.in_ok-hands.ensures.begins c.in_ok-opened.opened.shared.items c.in_ok-opened.opened.homes.items c.in_ok-opened.opened.row.seats.items (t.long ∙ sym c.requires.1.1.1.1.1.1)
            (subst (λ n. NewEach n c.coroutines_for-coroutines.result g.origin c.in_ok-opened.opened.shared.items c.in_ok-opened.opened.homes.items c.in_ok-opened.opened.row.seats.items) (sym c.requires.1.1.1.1.1.1) t.each);
        quiet = λ k d below.
            let new = c.in_ok-hands.ensures.hands.1 k d.work.clock d (omega (arith, below, c.requires.1.1.1.1.1.1)) in
            (new.work.is_ended, new.work.crew.quits, λ co. ap (λ l. slice_index_or l co None) new.work.crew.leaving ∙ same_at None _ co);
        reserved = c.in_ok-reserve.ensures;
        berths = c.in_ok-empty_berths.ensures ∙ ap (λ n. replicate n None) c.streams_in-many.ensures;
        streams = (c.in_ok-room.ensures.0, omega (arith, c.in_ok-room.ensures.1, c.streams_in-many.ensures));
        ends = c.in_ok-room-2.ensures;
      };
    }
