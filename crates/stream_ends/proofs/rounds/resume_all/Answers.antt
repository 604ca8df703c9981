use Rattle.std.proofs.Common.{◌≡◌, ◌<◌, ◌∙◌, true, length, arith, rules}
use Rattle.stream_ends.proofs.Carrying.{all_stopped, both_true, going_set, gone_set}
use Rattle.stream_ends.proofs.Places.{at_read}
use Rattle.stream_ends.proofs.rounds.resume_all.Goals as goal

pub resume_once-gone-requires : goal.resume_once-gone-requires
resume_once-gone-requires g c =
    let below : c.loop-place.place < length c.loop-place.streams.items =
    omega (arith, c.loop-place-test.true, c.len-place-end.ensures, c.args.streams.now.ok.0, c.requires.going.many, c.loop-place.invariant.going.many) in
    record {
      of = (c.loop-place.invariant.going.each c.loop-place.place c.index_mut.result.now (at_read c.loop-place.streams.items c.loop-place.place c.index_mut.result.now below c.index_mut.ensures.value)).of;
    }

pub loop-place-preserved : goal.loop-place-preserved
loop-place-preserved g c =
    let bytes = g.D.Device.bytes in
    let script = c.args.env.now.script.now in
    let lock = c.args.env.now.lock.now in
    let old = c.loop-place.invariant in
    let below : c.loop-place.place < length c.loop-place.streams.items =
    omega (arith, c.loop-place-test.true, c.len-place-end.ensures, c.args.streams.now.ok.0, c.requires.going.many, old.going.many) in
    let was = old.going.each c.loop-place.place c.index_mut.result.now (at_read c.loop-place.streams.items c.loop-place.place c.index_mut.result.now below c.index_mut.ensures.value) in
    record {
      going = going_set bytes script lock c.loop-place.streams.items c.loop-place.place c.resume_once-gone.new.co old.going
          (record { of = c.resume_once-gone.ensures.of; number_is = c.resume_once-gone.ensures.same ∙ was.number_is });
      gone = λ both.
          let parts = both_true c.loop-place.all c.resume_once-gone.result both in
          let gone : c.resume_once-gone.result ≡ true = parts.1 in
          gone_set bytes script lock c.loop-place.streams.items c.loop-place.place c.resume_once-gone.new.co (old.gone parts.0) (c.resume_once-gone.ensures.gone (search (rules, gone)));
    }

pub returns-clause-stopped : goal.returns-clause-stopped
returns-clause-stopped g c all =
    let every : c.loop-place.all ≡ true = search (rules, all) in
    all_stopped g.D.Device.bytes c.args.env.now.script.now c.args.env.now.lock.now c.loop-place.streams.items c.loop-place.place c.loop-place.invariant.going
    (c.loop-place.invariant.gone every)
    (omega (arith, c.loop-place-test.false, c.len-place-end.ensures, c.args.streams.now.ok.0, c.requires.going.many, c.loop-place.invariant.going.many))
