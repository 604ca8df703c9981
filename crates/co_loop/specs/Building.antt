-- A new crew.
use Rattle.std.specs.Prelude.{◌≡◌, false, [], None, replicate}
use Rattle.std.specs.FinMap as map
use Rattle.co_loop.specs.declared.naps.Nap.TheVariants.{Awake}
use Rattle.co_loop.specs.declared.crew.Crew.{Crew}

-- nobody is here, nobody was, and nobody has asked that the loops end
pub record IsNewCrew {C O : Type 0} (origin : O) (crew : Crew C O) : Type 0 where
  pub store : crew.store ≡ record { room = crew.coroutines; held = map.empty; origin = origin }
  pub woken : crew.woken ≡ record { room = crew.coroutines; items = [] }
  pub naps : crew.naps.items ≡ replicate crew.coroutines Awake
  pub leaving : crew.leaving.items ≡ replicate crew.coroutines None
  pub ended : crew.ended.items ≡ replicate crew.coroutines None
  pub done : crew.done ≡ 0
  pub quits : crew.quits ≡ false
