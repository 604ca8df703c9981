-- The image of a script, and the lock that it lies behind.
use Rattle.std.specs.Prelude.{◌≡◌, ℕ, max, List, [], length, map, replicate}
use Rattle.aio_model.specs.declared.scripts.image_scripts.Script.{Script}
use Rattle.aio_model.specs.declared.scripts.image_scripts.Step.{Step}
use Rattle.aio_model.specs.declared.scripts.image_scripts.Stream.{Stream as StreamLine}
use Rattle.aio_model.specs.Serving.Asked.{requests_of}
use Rattle.aio_model.specs.Holds.WhoHolds.{Readers}
use Rattle.co_mutex.specs.declared.lock.CoMutex.{CoMutex}
use Rattle.co_mutex.specs.Passes.{built_of, passes_of}
use Rattle.img_shared.specs.declared.phases.Phase.TheVariants.{Idle}
use Rattle.img_shared.specs.Images.{ImageState}
use Rattle.img_shared.specs.Notes.{Note}

-- the streams' ids and homes, in the order of the stream lines
abbrev pub ids_of_lines : List StreamLine → List ℕ
ids_of_lines streams = map (λ stream. stream.id) streams

abbrev pub homes_of : List StreamLine → List ℕ
homes_of streams = map (λ stream. stream.home) streams

-- how many requests each of these streams has
abbrev pub counts_for : List Step → List ℕ → List ℕ
counts_for lines ids = map (λ id. requests_of id lines) ids

module _ {D : Type 0} where
  -- an image that is new, for so many requests of each stream
  abbrev pub new_image : D → ℕ → List ℕ → ImageState D
  new_image device size requests =
      record {
        device = device;
        size = size;
        opening = device;
        left = device;
        requests = requests;
        journal = [];
        phases = replicate (length requests) Idle;
        access = record { room = length requests; holders = Readers []; tickets = [] };
        homes = replicate (length requests) 0;
      }

  -- the image of a script over a device
  abbrev pub image_over : Script → D → ImageState D
  image_over script device = new_image device script.image (counts_for script.lines (ids_of_lines script.streams))

module _ {P D : Type 0} where
  -- the device that was put behind the lock
  abbrev pub device_behind : CoMutex P (ImageState D) (Note D) → D
  device_behind lock = (built_of lock).device

  -- The lock was built for the script, over an image that was new. It has a pass for each stream, and one where there is none.
  pub record IsLockFor (script : Script) (lock : CoMutex P (ImageState D) (Note D)) : Type 0 where
    pub built : built_of lock ≡ image_over script (device_behind lock)
    pub passes : passes_of lock ≡ max 1 (length script.streams)
