use Rattle.std.proofs.Common.{◌∙◌, sym, subst}
use Rattle.img_shared.specs.Images.{ImageState}
use Rattle.img_shared.specs.Notes.{note}
use Rattle.co_mutex.specs.Passes.{built_of}
use Rattle.img_streams.specs.Retired.{ShowsRetired}
use Rattle.img_streams.proofs.Settling.{shows_retired, unused_value}
use Rattle.img_streams.proofs.closing.settle.Goals as goal

pub returns : goal.returns
returns g c = record {
  shows = λ lines size ids rows retired.
      subst (λ (i : ImageState _). ShowsRetired g.D.Device.bytes lines size ids rows (built_of c.args.lock) i) (sym c.into_image.ensures)
      (shows_retired g.D.Device.bytes c.args.lock c.args.passes.items c.close.ensures.0 c.close.ensures.1 c.close.result c.close.ensures.2 lines size ids rows retired);
  untouched = λ unused. c.into_image.ensures ∙ c.close.ensures.2 ∙ unused_value (note g.D.Device.bytes) c.args.lock c.args.passes.items c.close.ensures.0 c.requires.rest.1 c.close.ensures.1 unused;
}
