-- Streams that have retired, and what the image shows once their lock is closed.
use Rattle.std.specs.Prelude.{◌≡◌, ℕ, ◌<◌, Option, List, [], length, slice_index}
use Rattle.aio_model.specs.declared.scripts.image_scripts.Step.{Step}
use Rattle.aio_model.specs.Serving.Asked.{asked, requests_of}
use Rattle.co_mutex.specs.declared.lock.CoMutex.{CoMutex}
use Rattle.co_mutex.specs.declared.lock.Pass.{Pass}
use Rattle.co_mutex.specs.Closing.{In}
use Rattle.co_mutex.specs.Passes.{IsPassOf, built_of, known}
use Rattle.co_mutex.specs.Places.{AtRest}
use Rattle.img_shared.specs.declared.phases.Phase.TheVariants.{Retired}
use Rattle.img_shared.specs.Images.{ImageState}
use Rattle.img_shared.specs.Journals.{noted_count}
use Rattle.img_shared.specs.Notes.{Note}
use Rattle.img_join.specs.Accounts.{Account}
use Rattle.img_join.specs.Ended.{HasRetired}
use Rattle.img_join.specs.Placing.{row_at}
use Rattle.img_streams.specs.Own.{own_note}

-- the pass of stream k, which has retired, and whose note and buffers say that its requests got the replies that they fit
pub record IsRetired {P D : Type 0} (bytes : D → Option (List ℕ)) (lock : CoMutex P (ImageState D) (Note D)) (lines : List Step) (size id k : ℕ) (buffers : List (List ℕ))
    (pass : Pass P (ImageState D) (Note D))
    : Type 0 where
  pub number : (known pass).number ≡ k
  pub opened : (own_note bytes lock pass).opening ≡ (built_of lock).opening
  pub streams : (own_note bytes lock pass).streams ≡ length (built_of lock).requests
  pub retired : (own_note bytes lock pass).phase ≡ Retired
  pub buffer : List ℕ
  pub account : Account bytes (asked lines) id k size (requests_of id lines) (own_note bytes lock pass) buffers buffer

-- the parts of a coroutine that has retired
pub record ArePartsOf {P D : Type 0} (bytes : D → Option (List ℕ)) (lock : CoMutex P (ImageState D) (Note D)) (lines : List Step) (size id k : ℕ) (buffers : List (List ℕ))
    (pass : Pass P (ImageState D) (Note D))
    : Type 0 where
  pub of : IsPassOf lock pass
  pub rests : (known pass).place ≡ AtRest
  pub is : IsRetired bytes lock lines size id k buffers pass

-- these streams have retired, and no others are there
pub record HaveRetired {P D : Type 0} (bytes : D → Option (List ℕ)) (lock : CoMutex P (ImageState D) (Note D)) (lines : List Step) (size : ℕ) (ids : List ℕ) (rows : List (List (List ℕ)))
    (passes : List (Pass P (ImageState D) (Note D)))
    : Type 0 where
  pub all : length (built_of lock).requests ≡ length ids
  pub each : (k : ℕ) → k < length ids → (pass : Pass P (ImageState D) (Note D)) × In pass passes
      × IsRetired bytes lock lines size (slice_index ids k) k (row_at rows k) pass

-- these passes have made no call
abbrev pub AreUnused : {P T N : Type 0} → List (Pass P T N) → Type 0
AreUnused {P} {T} {N} passes = (pass : Pass P T N) → In pass passes → (known pass).mine ≡ []

-- what the image shows then
pub record ShowsRetired {D : Type 0} (bytes : D → Option (List ℕ)) (lines : List Step) (size : ℕ) (ids : List ℕ) (rows : List (List (List ℕ))) (built image : ImageState D) : Type 0 where
  pub opening : 0 < length ids → image.opening ≡ built.opening
  pub sized : 0 < length ids → image.size ≡ size
  pub streams : 0 < length ids → length image.requests ≡ length ids
  pub each : (k : ℕ) → k < length ids → HasRetired bytes lines ids image k (row_at rows k)
  pub buffered : (k : ℕ) → k < length ids → noted_count k image.journal ≡ length (row_at rows k)
