use Rattle.std.proofs.Common.{◌∙◌}
use Rattle.stream_ends.proofs.Carrying.{going_set}
use Rattle.stream_ends.proofs.Places.{at_read}
use Rattle.stream_carrier.proofs.carrying.resume_at.Goals as goal

pub resume_one-requires : goal.resume_one-requires
resume_one-requires g c =
    record {
      of = (c.requires.going.each c.args.place c.index_mut.result.now (at_read c.args.streams.now.items c.args.place c.index_mut.result.now c.requires.inside c.index_mut.ensures.value)).of;
      fresh = c.requires.fresh;
    }

pub returns : goal.returns
returns g c =
    let was = c.requires.going.each c.args.place c.index_mut.result.now (at_read c.args.streams.now.items c.args.place c.index_mut.result.now c.requires.inside c.index_mut.ensures.value) in
    record {
      going = going_set g.D.Device.bytes c.args.env.now.script.now c.args.env.now.lock.now c.args.streams.now.items c.args.place c.resume_one.new.co c.requires.going
          (record { of = c.resume_one.ensures.of; number_is = c.resume_one.ensures.same ∙ was.number_is });
    }
