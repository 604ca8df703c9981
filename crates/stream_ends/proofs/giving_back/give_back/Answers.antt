use Rattle.std.proofs.Common.{◌≡◌, ◌∙◌, ◌++◌, map, sym, ap, subst, arith}
use Rattle.co_mutex.specs.Closing.{AreAll}
use Rattle.img_shared.specs.Images.{ImageState}
use Rattle.img_streams.specs.Retired.{AreUnused}
use Rattle.stream_ends.proofs.Untouched.{all_are_new, none_used}
use Rattle.stream_ends.proofs.giving_back.give_back.Goals as goal

pub settle-requires : goal.settle-requires
settle-requires g c =
    let has = c.requires in
    let all = all_are_new g.D.Device.bytes c.args.script.now c.args.begun.lock has.lock c.args.begun.streams.items has.streams c.args.begun.ends.passes.items has.room.spare has.room.new in
    let are : c.into_parts-passes.result.0.items ≡ c.args.begun.ends.passes.items ++ map (λ co. co.pass) c.args.begun.streams.items = ap (λ r. r.0.items) c.into_parts-passes.ensures ∙ c.gather.ensures.passes in
    record { rest = (omega (arith, has.lock.passes), subst (AreAll c.args.begun.lock) (sym are) all) }

pub returns : goal.returns
returns g c =
    let has = c.requires in
    let none = none_used g.D.Device.bytes c.args.script.now c.args.begun.lock has.lock c.args.begun.streams.items has.streams c.args.begun.ends.passes.items has.room.spare has.room.new in
    let are : c.into_parts-passes.result.0.items ≡ c.args.begun.ends.passes.items ++ map (λ co. co.pass) c.args.begun.streams.items = ap (λ r. r.0.items) c.into_parts-passes.ensures ∙ c.gather.ensures.passes in
    c.into_device.ensures.device ∙ ap (λ (i : ImageState _). i.device) (c.settle.ensures.untouched (subst AreUnused (sym are) none))
