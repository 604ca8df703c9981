-- Which events a home watches, and what it finds of them.
use Rattle.std.specs.Prelude.{◌≡◌, ℕ, suc, zero, ◌<◌, ◌+◌, ◌/◌, ◌%◌, ◌^◌, ◌==◌, Bool, true, false, if◌then◌else◌, List, [], ◌∷◌, MatchBool}
use Rattle.aio_core.specs.Known.{Known}
use Rattle.aio_core.specs.SleepSteps.{LoadsEvent, scan_in}
use Rattle.aio_core.specs.Scans.{IsAhead}

-- bit e of the mask is set
abbrev pub watches : ℕ → ℕ → Bool
watches watch e = watch / 2 ^ e % 2 == 1

-- the watched events below a number, the last of them first
abbrev pub watched_below : ℕ → ℕ → List ℕ
watched_below watch zero = []
watched_below watch (suc e) =
    if watches watch e then e ∷ watched_below watch e else watched_below watch e

-- a watched event was loaded, and another was not
abbrev pub LooksAt : ℕ → ℕ → Bool → Known → Known → Type 0
LooksAt watch e set before after =
    MatchBool (watches watch e) ((found : ℕ) × (set ≡ (found == 1)) × LoadsEvent e found before after) ((set ≡ false) × (after ≡ before))

-- the watched events below a number were loaded in rising order, and none was set
abbrev pub LooksBelow : ℕ → ℕ → Known → Known → Type 0
LooksBelow watch zero before after = after ≡ before
LooksBelow watch (suc e) before after =
    (mid : Known) × LooksBelow watch e before mid × LooksAt watch e false mid after

-- A home that has scanned looked at the watched events below a number, and none was set: it has still scanned, and watches just these.
pub record LooksOn (watch e : ℕ) (before after : Known) : Type 0 where
  pub looks : LooksBelow watch e before after
  pub scanned : IsAhead [] after
  pub watched : (scan_in after.sleep).watched ≡ watched_below watch e

-- of the watched events this one was found set, and none below it
pub record FindsSet (watch events e : ℕ) (before after : Known) : Type 0 where
  pub looked : Known
  pub below : e < events
  pub watched : watches watch e ≡ true
  pub looks : LooksBelow watch e before looked
  pub loads : LoadsEvent e 1 looked after

-- the watched events below a number were loaded in rising order, and these bits are those of the set ones
abbrev pub FindsBits : ℕ → ℕ → ℕ → Known → Known → Type 0
FindsBits watch zero bits before after = (bits ≡ 0) × (after ≡ before)
FindsBits watch (suc e) bits before after =
    (mid : Known) × (older : ℕ) × (set : Bool) × FindsBits watch e older before mid × LooksAt watch e set mid after × (bits ≡ (if set then older + 2 ^ e else older))
