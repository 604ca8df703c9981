-- Room for a run.
use Rattle.std.specs.Prelude.{◌≡◌, ℕ, ◌≤◌, vec_len, vec_capacity}
use Rattle.loop_threads.specs.declared.reserving.Reserved.{Reserved}
use Rattle.loop_threads.specs.Dealing.{AreSpares}

-- There is room for each of so many loops, and nothing there but flags; a row of all numbers can be cut into 32 rows of two.
pub record IsReserved {C W O : Type 0} (loops : ℕ) (reserved : Reserved C W O) : Type 0 where
  pub spares : AreSpares loops reserved.spares.items × (vec_len reserved.spares ≡ 31)
  pub pairs : (vec_len reserved.pairs ≡ 0) × (32 ≤ vec_capacity reserved.pairs)
  pub parts : (vec_len reserved.parts ≡ 0) × (loops ≤ vec_capacity reserved.parts)
  pub flags : loops ≤ vec_len reserved.handed_back
  pub left : (vec_len reserved.left ≡ 0) × (loops ≤ vec_capacity reserved.left)
  pub other : (vec_len reserved.other ≡ 0) × (loops ≤ vec_capacity reserved.other)
  pub late : (vec_len reserved.late ≡ 0) × (loops ≤ vec_capacity reserved.late)
  pub done : (vec_len reserved.done ≡ 0) × (loops ≤ vec_capacity reserved.done)
  pub members : (vec_len reserved.members ≡ 0) × (loops ≤ vec_capacity reserved.members)
  pub ends : (vec_len reserved.ends ≡ 0) × (loops ≤ vec_capacity reserved.ends)
