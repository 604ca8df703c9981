-- The calls of the device that one piece of a request makes.
use Rattle.std.specs.Prelude.{◌≡◌, ℕ, ◌+◌, ◌<◌, Bool, true, false, List, ◌∷◌}
use Rattle.aio_model.specs.declared.serving.requests.Request.{Request}
use Rattle.aio_model.specs.declared.serving.requests.Request.TheVariants.{Read, Write, Zero, Flush}
use Rattle.aio_words.specs.declared.called.DeviceAsk.{DeviceAsk}
use Rattle.aio_words.specs.declared.called.DeviceAsk.TheVariants as ask
use Rattle.aio_words.specs.declared.called.DeviceCall.{DeviceCall}
use Rattle.aio_words.specs.Called.{device_call}
use Rattle.img_requests.specs.declared.answers.Piece.{Piece}
use Rattle.img_requests.specs.declared.answers.Piece.TheVariants.{More, Whole, Failed}

abbrev pub is_failed : Piece → Bool
is_failed More = false
is_failed Whole = false
is_failed Failed = true

-- Something of n bytes was asked by one call, which failed or not. For no bytes there was no call, and nothing failed.
pub record CallsOnce (n : ℕ) (asked : DeviceAsk) (failed : Bool) (before now : List DeviceCall) : Type 0 where
  pub none : n ≡ 0 → now ≡ before
  pub well : n ≡ 0 → failed ≡ false
  pub one : 0 < n → now ≡ device_call asked failed ∷ before

-- A piece of n bytes, behind those that are done, made one call of its request's kind, at its place and of its length;
-- it failed where that call failed. For no bytes of a read, a write or zeros it made none.
abbrev pub MakesDeviceCall : Request → ℕ → ℕ → Bool → List DeviceCall → List DeviceCall → Type 0
MakesDeviceCall (Read at len) done n failed before now = CallsOnce n (ask.Read (at + done) n) failed before now
MakesDeviceCall (Write at written) done n failed before now = CallsOnce n (ask.Write (at + done) n) failed before now
MakesDeviceCall (Zero at len) done n failed before now = CallsOnce n (ask.Write (at + done) n) failed before now
MakesDeviceCall Flush done n failed before now = now ≡ device_call ask.Flush failed ∷ before
