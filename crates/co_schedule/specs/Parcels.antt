-- What lies in a slot: nothing, or a cause and perhaps a state, which is of the table's origin, as the slot's number.
use Rattle.std.specs.Prelude.{ℕ, Bool, true, false, Option, None, Some}
use Rattle.co_schedule.specs.declared.parcel.Parcel.{Parcel}
use Rattle.aio_model.specs.declared.coroutines.causes.Cause.{Cause}
use Rattle.aio_model.specs.declared.coroutines.causes.Cause.TheVariants.{Begin}

abbrev pub has_some : {A : Type 0} → Option A → Bool
has_some None = false
has_some (Some x) = true

abbrev pub IsStateOf : {C O : Type 0} → (ℕ → C → O → Type 0) → ℕ → O → Option C → Type 0
IsStateOf is_of number origin None = Unit {0}
IsStateOf is_of number origin (Some x) = is_of number x origin

abbrev pub given_in : {C : Type 0} → Option (Parcel C) → Bool
given_in None = false
given_in (Some parcel) = has_some parcel.state

abbrev pub cause_in : {C : Type 0} → Option (Parcel C) → Cause
cause_in None = Begin
cause_in (Some parcel) = parcel.cause

abbrev pub IsParcelOf : {C O : Type 0} → (ℕ → C → O → Type 0) → O → ℕ → Option (Parcel C) → Type 0
IsParcelOf is_of origin number None = Unit {0}
IsParcelOf is_of origin number (Some parcel) =
    IsStateOf is_of number origin parcel.state

-- the same, where the origin is known
abbrev pub IsOfSome : {C O : Type 0} → (ℕ → C → O → Type 0) → Option O → ℕ → Option (Parcel C) → Type 0
IsOfSome is_of None number parcel = Unit {0}
IsOfSome is_of (Some origin) number parcel = IsParcelOf is_of origin number parcel
