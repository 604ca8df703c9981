-- What an image's invariant shows.
use Rattle.std.proofs.Common.{◌≡◌, ◌≤◌, ℕ, set, sum, List, [], ◌∷◌, ◌++◌, length, Option, refl}
use Rattle.aio_model.proofs.Granted.{writer_alone}
use Rattle.aio_model.specs.Holds.Table.{unlocked}
use Rattle.aio_words.specs.declared.called.DeviceCall.{DeviceCall}
use Rattle.img_requests.specs.declared.present.Present.{Present}
use Rattle.img_requests.specs.Journal.{mark_ended_at}
use Rattle.img_shared.specs.declared.journal.Entry.{Entry}
use Rattle.img_shared.specs.declared.phases.Phase.TheVariants.{Idle, Active}
use Rattle.img_shared.specs.Calls.{IsWholeRun, Leaves}
use Rattle.img_shared.specs.Images.{ImageState}
use Rattle.img_shared.specs.Journals.{entry_next}
use Rattle.img_shared.specs.Phases.{phase_at}
use Rattle.img_shared.specs.Soundness.{IsKept}

pub whole_of : {D : Type 0} → (bytes : D → Option (List ℕ)) (extent faults size_faults : D → ℕ) (calls : D → List DeviceCall) (image : ImageState D)
    → IsKept bytes extent faults size_faults calls image → sum image.requests ≤ 4096 → length image.journal ≤ sum image.requests
    → IsWholeRun bytes extent faults size_faults calls image
whole_of bytes extent faults size_faults calls image kept few placed = record {
  streams = kept.sound.streams;
  few = few;
  placed = placed;
  linked = kept.sound.linked;
  apart = writer_alone image.access;
  due = kept.sound.due;
  known = kept.sound.known;
  chain = kept.sound.chain;
  ordered = kept.sound.ordered;
  clean = kept.sound.clean;
  fits = kept.charged.fits;
  long = kept.charged.long;
  sizes = kept.charged.sizes;
  counted = kept.charged.counted;
  later = kept.charged.later;
  asked = kept.charged.asked;
  failures = kept.charged.failures;
}

-- what leaving did
pub leaves_so : {D : Type 0} → (s place : ℕ) (old : ImageState D) (present : Present) (entry : Entry D) → phase_at old.phases s ≡ Active present
    → place ≡ length old.journal
    → entry ≡ entry_next s old.journal (mark_ended_at present.stage present.kind present.length present.done) entry.before entry.after
    → entry.before.value.value ≡ old.left → entry.after.value.value ≡ old.device
    → Leaves s place old (record old { left = old.device; journal = old.journal ++ entry ∷ []; phases = set old.phases s Idle; access = (unlocked s old.access).state })
leaves_so s place old present entry was at is before after = record {
  present = present;
  was = was;
  entry = entry;
  place_is = at;
  entry_is = is;
  before = before;
  after = after;
  image = refl;
}
