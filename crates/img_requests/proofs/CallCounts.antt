-- What one piece adds to the counts of a device's calls.
use Rattle.std.proofs.Common.{◌≡◌, ℕ, zero, suc, ◌+◌, Bool, true, false, cond, List, ◌∷◌, refl, sym, ap, subst, ◌∙◌, arith}
use Rattle.aio_model.specs.declared.serving.requests.Request.{Request}
use Rattle.aio_model.specs.declared.serving.requests.Request.TheVariants.{Read, Write, Zero, Flush}
use Rattle.aio_words.specs.declared.called.DeviceAsk.{DeviceAsk}
use Rattle.aio_words.specs.declared.called.DeviceCall.{DeviceCall}
use Rattle.aio_words.specs.Called.{device_call, is_size, sizes_asked, failures_in}
use Rattle.img_requests.specs.PieceCalls.{CallsOnce, MakesDeviceCall}

CallsOnce-sizes : (n : ℕ) (asked : DeviceAsk) (failed : Bool) (before now : List DeviceCall)
    → is_size asked ≡ false → CallsOnce n asked failed before now → sizes_asked now ≡ sizes_asked before
CallsOnce-sizes zero asked failed before now other calls = ap sizes_asked (calls.none refl)
CallsOnce-sizes (suc n) asked failed before now other calls =
    ap sizes_asked (calls.one (omega arith))
    ∙ subst (λ b. cond b (sizes_asked before + 1) (sizes_asked before) ≡ sizes_asked before) (sym other) refl

-- a piece never asks for the size
pub MakesDeviceCall-sizes : (request : Request) (done n : ℕ) (failed : Bool) (before now : List DeviceCall)
    → MakesDeviceCall request done n failed before now → sizes_asked now ≡ sizes_asked before
MakesDeviceCall-sizes (Read at len) done n failed before now calls = CallsOnce-sizes n _ failed before now refl calls
MakesDeviceCall-sizes (Write at written) done n failed before now calls = CallsOnce-sizes n _ failed before now refl calls
MakesDeviceCall-sizes (Zero at len) done n failed before now calls = CallsOnce-sizes n _ failed before now refl calls
MakesDeviceCall-sizes Flush done n failed before now calls = ap sizes_asked calls

one-failed : (asked : DeviceAsk) (failed : Bool) (before now : List DeviceCall)
    → now ≡ device_call asked failed ∷ before → failures_in now ≡ failures_in before + cond failed 1 0
one-failed asked true before now is = ap failures_in is
one-failed asked false before now is =
    let same : failures_in now ≡ failures_in before = ap failures_in is in
    omega (arith, same)

none-failed : (failed : Bool) (before now : List DeviceCall)
    → now ≡ before → failed ≡ false → failures_in now ≡ failures_in before + cond failed 1 0
none-failed failed before now same well =
    let fails : cond {A = ℕ} failed 1 0 ≡ 0 = ap (λ b. cond {A = ℕ} b 1 0) well in
    let kept : failures_in now ≡ failures_in before = ap failures_in same in
    omega (arith, fails, kept)

CallsOnce-failures : (n : ℕ) (asked : DeviceAsk) (failed : Bool) (before now : List DeviceCall)
    → CallsOnce n asked failed before now → failures_in now ≡ failures_in before + cond failed 1 0
CallsOnce-failures zero asked failed before now calls = none-failed failed before now (calls.none refl) (calls.well refl)
CallsOnce-failures (suc n) asked failed before now calls = one-failed asked failed before now (calls.one (omega arith))

-- one call failed where the piece did
pub MakesDeviceCall-failures : (request : Request) (done n : ℕ) (failed : Bool) (before now : List DeviceCall)
    → MakesDeviceCall request done n failed before now → failures_in now ≡ failures_in before + cond failed 1 0
MakesDeviceCall-failures (Read at len) done n failed before now calls = CallsOnce-failures n _ failed before now calls
MakesDeviceCall-failures (Write at written) done n failed before now calls = CallsOnce-failures n _ failed before now calls
MakesDeviceCall-failures (Zero at len) done n failed before now calls = CallsOnce-failures n _ failed before now calls
MakesDeviceCall-failures Flush done n failed before now calls = one-failed _ failed before now calls

-- none failed where the piece didn't
pub MakesDeviceCall-well : (request : Request) (done n : ℕ) (before now : List DeviceCall)
    → MakesDeviceCall request done n false before now → failures_in now ≡ failures_in before
MakesDeviceCall-well request done n before now calls =
    let counted : failures_in now ≡ failures_in before + 0 = MakesDeviceCall-failures request done n false before now calls in
    omega (arith, counted)

pub MakesDeviceCall-fault : (request : Request) (done n : ℕ) (before now : List DeviceCall)
    → MakesDeviceCall request done n true before now → failures_in now ≡ failures_in before + 1
MakesDeviceCall-fault request done n before now calls = MakesDeviceCall-failures request done n true before now calls
