-- A guard whose value was changed.
use Rattle.co_mutex.specs.declared.lock.Guard.{Guard}

abbrev pub with_value : {P T N : Type 0} → T → Guard P T N
with_value w = record { value = w }
