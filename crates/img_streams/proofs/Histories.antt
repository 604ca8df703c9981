-- From the image that a closed lock shows, and the clause of `img_join::finish` on it, to the serial history of a script.
use Rattle.std.proofs.Common.{◌≡◌, ℕ, ◌<◌, Option, option_map, List, length, subst}
use Rattle.aio_model.specs.declared.serving.replies.Placed.{Placed}
use Rattle.aio_model.specs.declared.scripts.image_scripts.Step.{Step}
use Rattle.aio_model.specs.Serving.Asked.{asked}
use Rattle.aio_model.specs.Serving.SerialHistory.{IsSerialHistory, bytes_left, eios_of}
use Rattle.aio_words.specs.Faults.{HasRisenBy}
use Rattle.img_shared.specs.Images.{ImageState}
use Rattle.img_join.specs.Ended.{HaveOwnIds, AreOurs, HasRetired, IsServedWhole}
use Rattle.img_join.specs.Placing.{row_at}
use Rattle.img_streams.specs.Retired.{ShowsRetired}

module _ {D : Type 0} (bytes : D → Option (List ℕ)) (faults : D → ℕ) (lines : List Step) (size : ℕ) (ids : List ℕ) (rows : List (List (List ℕ)))
    (built image : ImageState D) (served : List Placed) where
  -- the replies are a serial history of the script on the built image's opening bytes, the device has the bytes that they leave, and its
  -- count of faults has risen for each reply at which it failed
  pub serial_history : 0 < length ids → ShowsRetired bytes lines size ids rows built image → HaveOwnIds ids → AreOurs ids lines
      → (HaveOwnIds ids → AreOurs ids lines → ((k : ℕ) → k < length ids → HasRetired bytes lines ids image k (row_at rows k)) → IsServedWhole bytes faults lines image served)
      → IsSerialHistory size (asked lines) (bytes built.opening) served
      × (bytes image.device ≡ option_map (bytes_left (asked lines) served) (bytes built.opening))
      × HasRisenBy (eios_of served) (faults built.opening) (faults image.device)
  serial_history some shows apart ours finished =
      let whole : IsServedWhole bytes faults lines image served = finished apart ours shows.each in (
        subst (λ (n : ℕ). IsSerialHistory n (asked lines) (bytes built.opening) served) (shows.sized some)
            (subst (λ (d : D). IsSerialHistory image.size (asked lines) (bytes d) served) (shows.opening some) whole.history),
        subst (λ (d : D). bytes image.device ≡ option_map (bytes_left (asked lines) served) (bytes d)) (shows.opening some) whole.left,
        subst (λ (d : D). HasRisenBy (eios_of served) (faults d) (faults image.device)) (shows.opening some) whole.counted,
      )
