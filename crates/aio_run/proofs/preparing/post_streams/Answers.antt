use Rattle.std.proofs.Common.{◌<◌, ◌∙◌, sym, ap, subst, length, slice_index}
use Rattle.co_loop.specs.Rows.{AreOfOrigin}
use Rattle.loop_rows.specs.Rows.{IsRow}
use Rattle.stream_ends.specs.Images.{homes_of}
use Rattle.aio_run.specs.Posting.{HaveBegun, HaveCoroutines, AllHaveOwn}
use Rattle.aio_run.specs.Readiness.{coroutines_of}
use Rattle.aio_run.proofs.Posted.{homes_below, new_tables, new_of, new_sizes, new_homes, none_begun, own_new}
use Rattle.aio_run.proofs.preparing.post_streams.Goals as goal

pub post_each-requires-clause-few : goal.post_each-requires-clause-few
post_each-requires-clause-few g c = c.requires.bounded.few_streams

pub post_each-requires-clause-homes : goal.post_each-requires-clause-homes
post_each-requires-clause-homes g c k low =
    subst (λ n. slice_index (homes_of c.args.script.now.streams) k < n) (sym (ap length c.deref.ensures.value ∙ c.requires.open.tables.long))
    (homes_below c.args.script.now.loops c.args.script.now.streams c.requires.bounded.at_home k low)

pub post_each-requires-clause-tables : goal.post_each-requires-clause-tables
post_each-requires-clause-tables g c =
    subst (HaveCoroutines (coroutines_of c.args.script.now)) (sym c.deref.ensures.value)
    (new_tables c.args.script.now.loops (coroutines_of c.args.script.now) _ c.args.loops.opened c.requires.open.tables)

pub post_each-requires-clause-of : goal.post_each-requires-clause-of
post_each-requires-clause-of g c =
    subst (AreOfOrigin _) (sym c.deref.ensures.value)
    (new_of c.args.script.now.loops (coroutines_of c.args.script.now) _ c.args.loops.opened c.requires.open.tables)

pub post_each-requires-clause-row : goal.post_each-requires-clause-row
post_each-requires-clause-row g c =
    (subst (λ l. IsRow l c.args.loops.opened.row) (sym c.deref.ensures.value) c.requires.open.tables.is_row, c.requires.open.tables.numbers)

pub post_each-requires-clause-none : goal.post_each-requires-clause-none
post_each-requires-clause-none g c =
    none_begun c.args.script.now.loops (coroutines_of c.args.script.now) _ c.args.loops.opened c.requires.open.tables (homes_of c.args.script.now.streams) _ (ap length c.deref.ensures.value ∙ c.requires.open.tables.long)

pub returns : goal.returns
returns g c =
    let t = c.requires.open.tables in
    let rest = c.requires.open.rest in
    let long = ap length c.deref.ensures.value ∙ t.long in
    record {
      long = t.long;
      homes_long = t.homes_long;
      of = new_of c.args.script.now.loops (coroutines_of c.args.script.now) _ c.args.loops.opened t;
      tables = new_tables c.args.script.now.loops (coroutines_of c.args.script.now) _ c.args.loops.opened t;
      sized = new_sizes c.args.script.now.loops (coroutines_of c.args.script.now) _ c.args.loops.opened t;
      homes_each = t.homes_each;
      none_entered = new_homes c.args.script.now.loops (coroutines_of c.args.script.now) _ c.args.loops.opened t;
      is_row = subst (λ l. IsRow l c.post_each.new.row) c.deref.ensures.value c.post_each.ensures.row.0;
      numbers = c.post_each.ensures.row.1;
      begun = subst (λ n. HaveBegun (length c.args.script.now.streams) (homes_of c.args.script.now.streams) n c.post_each.new.row.seats.items) (ap length c.deref.ensures.value ∙ t.long) c.post_each.ensures.begun;
      own = subst (λ n. AllHaveOwn n c.post_each.new.row.seats.items) long (c.post_each.ensures.own (subst (λ n. AllHaveOwn n c.args.loops.opened.row.seats.items) (sym long) (own_new c.args.script.now.loops (coroutines_of c.args.script.now) _ c.args.loops.opened t)));
      rest = record { hands = rest.hands; begin = rest.begin; quiet = rest.quiet; reserved = rest.reserved; berths = rest.berths; streams = rest.streams; ends = rest.ends };
    }
