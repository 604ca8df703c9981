-- An image that many streams share, as its callers see it.
use Rattle.std.specs.Prelude.{ℕ, List}
use Rattle.aio_model.specs.Holds.WhoHolds.{ReadersWriter}
use Rattle.img_shared.specs.declared.journal.Entry.{Entry}
use Rattle.img_shared.specs.declared.phases.Phase.{Phase}

pub record ImageState (D : Type 0) : Type 0 where
  pub device : D
  -- the image is the device's first bytes, so many of them
  pub size : ℕ
  -- the device as it was at first, and as it was when the newest entry was made
  pub opening : D
  pub left : D
  -- how many requests each stream has
  pub requests : List ℕ
  pub journal : List (Entry D)
  pub phases : List Phase
  -- who reads or writes, and who waits to
  pub access : ReadersWriter
  -- the loop that each stream's last `come` noted
  pub homes : List ℕ
