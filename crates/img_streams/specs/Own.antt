-- What a pass knows of its stream, and what one turn at the lock makes of it.
use Rattle.std.specs.Prelude.{◌≡◌, ℕ, ◌<◌, Bool, true, false, List, length, Option}
use Rattle.aio_model.specs.Lock.History.{value_of}
use Rattle.co_state.specs.declared.cx.CoId.{CoId}
use Rattle.co_mutex.specs.declared.lock.CoMutex.{CoMutex}
use Rattle.co_mutex.specs.declared.lock.Pass.{Pass}
use Rattle.co_mutex.specs.Calls.{co_id_word}
use Rattle.co_mutex.specs.Passes.{IsPassOf, built_of, known}
use Rattle.img_shared.specs.Images.{ImageState}
use Rattle.img_shared.specs.Notes.{Note, note}
use Rattle.img_streams.specs.declared.answers.Visit.{Visit}
use Rattle.img_streams.specs.declared.answers.Visit.TheVariants.{Waits, Did}
use Rattle.img_streams.specs.Turns.{pass_place_of, GoesOnWaiting, HoldsOnce}

module _ {P D : Type 0} (bytes : D → Option (List ℕ)) (lock : CoMutex P (ImageState D) (Note D)) where
  -- the note of the pass's stream, as the pass left it
  abbrev pub own_note : Pass P (ImageState D) (Note D) → Note D
  own_note pass = note bytes (value_of (built_of lock) (known pass).mine) (known pass).number

  -- the pass of the stream, between two turns: it is queued, or at rest
  pub record IsOwnPass (pass : Pass P (ImageState D) (Note D)) (stream : ℕ) (queued : Bool) : Type 0 where
    pub of : IsPassOf lock pass
    pub place : (known pass).place ≡ pass_place_of queued
    pub number : (known pass).number ≡ stream
    pub opened : (own_note pass).opening ≡ (built_of lock).opening
    pub streams : (own_note pass).streams ≡ length (built_of lock).requests
    pub known_there : stream < (own_note pass).streams
    pub row_there : stream < (own_note pass).rows

  -- the pass goes on waiting for the lock, for this coroutine
  pub record WaitsOn (co : CoId) (queued : Bool) (named : Option CoId) (before after : Pass P (ImageState D) (Note D)) : Type 0 where
    pub of : IsOwnPass after co.co true
    pub goes : GoesOnWaiting queued (co_id_word co) named (known before) (known after)
    pub same : own_note after ≡ own_note before

  -- the pass held the lock once, and made one such call on the image
  pub record Calls (call : ImageState D → ImageState D → Type 0) (co : CoId) (named : Option CoId) (before after : Pass P (ImageState D) (Note D)) : Type 0 where
    pub of : IsOwnPass after co.co false
    pub found : ImageState D
    pub left : ImageState D
    pub once : HoldsOnce (note bytes) (built_of lock) found left named (known before) (known after)
    pub did : call found left

  module _ {A : Type 0} where
    abbrev pub Turned : (A → ImageState D → ImageState D → Type 0) → CoId → Bool → Pass P (ImageState D) (Note D) → Visit A → Pass P (ImageState D) (Note D) → Type 0
    Turned call co queued before (Waits named) after = WaitsOn co queued named before after
    Turned call co queued before (Did answer named) after = Calls (call answer) co named before after

-- what holds where the call was made
abbrev pub OnDid : {A : Type 0} → Visit A → (A → Type 0) → Type 0
OnDid (Waits named) P = Unit {0}
OnDid (Did answer named) P = P answer

-- what holds where the pass waits
abbrev pub OnWaits : {A : Type 0} → Visit A → Type 0 → Type 0
OnWaits (Waits named) P = P
OnWaits (Did answer named) P = Unit {0}
