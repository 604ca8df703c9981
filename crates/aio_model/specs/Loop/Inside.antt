-- How a loop of one thread keeps its state.
use Rattle.std.specs.Prelude.{◌≡◌, ℕ, ◌+◌, ◌≤◌, List, length, reverse, slice_index_or}
use Rattle.std.specs.List.{sum_by}
use Rattle.std.specs.Vec.{vec_capacity}
use Rattle.aio_model.specs.declared.loops.bottom_halves.BottomHalf.{BottomHalf}
use Rattle.aio_model.specs.declared.loops.one_loop.OneLoop.TheInside.{Inside}
use Rattle.aio_model.specs.Loop.FlagsWord.{bit}
use Rattle.aio_model.specs.Loop.Laws.{times_of}
use Rattle.aio_model.specs.Loop.State.{LoopState, blank}

abbrev pub state_of : Inside → LoopState
state_of a =
    record { sizes = record { handles = a.handles; lots = a.lots; events = length a.events.items }; halves = a.halves.items; stack = reverse a.stack.items; out = reverse a.out.items; events = a.events.items; rung = a.rung }

abbrev pub pending_bit : BottomHalf → ℕ
pending_bit half = bit half.flags.pending

-- what is pending stands once in one of the two lists, and nothing else does
pub record PendingIsListed (halves : List BottomHalf) (stack out : List ℕ) : Type 0 where
  pub once : (i : ℕ) → times_of i stack + times_of i out ≡ pending_bit (slice_index_or halves i blank)
  pub total : length stack + length out ≡ sum_by pending_bit halves

-- the two lists never outgrow their room
pub record IsSound (a : Inside) : Type 0 where
  pub few : a.handles + a.lots ≤ 4096
  pub few_events : length a.events.items ≤ 64
  pub halves : length a.halves.items ≡ a.handles + a.lots
  pub stack_room : a.handles + a.lots ≤ vec_capacity a.stack
  pub out_room : a.handles + a.lots ≤ vec_capacity a.out
  pub kept : PendingIsListed a.halves.items a.stack.items a.out.items
