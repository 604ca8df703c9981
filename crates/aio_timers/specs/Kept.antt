-- How the fields of a set of timers keep it.
use Rattle.std.specs.Prelude.{◌≡◌, ℕ, ◌+◌, ◌≤◌, length}
use Rattle.aio_timers.specs.declared.timers.Timers.TheInside.{Inside}
use Rattle.aio_timers.specs.Keys.{key_at, joint, ShareNone, AreStamped}
use Rattle.aio_timers.specs.Order.{in_order, expiries_of}
use Rattle.aio_timers.specs.StandsFor.{TimerList}

abbrev pub list_of : (ℕ → ℕ) → (ℕ → ℕ) → ℕ → ℕ → TimerList
list_of keys due room made = record {
  room = room;
  made = made;
  order = in_order keys room;
  due = in_order due room;
  expiries = expiries_of keys room;
}

abbrev pub timers_of : Inside → TimerList
timers_of t = list_of (joint t.due t.waiting) (key_at t.due) t.room t.made

pub record AreKept (t : Inside) : Type 0 where
  pub due_sized : length t.due ≡ t.room + 1
  pub waiting_sized : length t.waiting ≡ t.room + 1
  pub ranks_sized : length t.ranks.items ≡ t.room + 1
  pub made_fits : t.made ≤ t.room
  pub apart : ShareNone t.due t.waiting
  pub stamped : AreStamped (joint t.due t.waiting) t.made t.next
