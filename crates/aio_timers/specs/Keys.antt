-- Keys of timers: an expiry, and behind it the stamp of the arm.
use Rattle.std.specs.Prelude.{◌≡◌, ℕ, ◌<◌, ◌≤◌, ◌%◌, ◌+◌, nat_lt, if◌then◌else◌, List, length, slice_index_or}

-- the key of a place that has none
abbrev pub none : ℕ
none = 340282366920938463463374607431768211455

-- how many stamps there are
abbrev pub stamps : ℕ
stamps = 18446744073709551616

abbrev pub key_at : List ℕ → ℕ → ℕ
key_at keys place = slice_index_or keys place none

-- the key of a timer that is in one of two rows
abbrev pub joint : List ℕ → List ℕ → ℕ → ℕ
joint due waiting timer = if nat_lt (key_at due timer) none then key_at due timer else key_at waiting timer

-- a place has this key
pub record HasPlace (keys : List ℕ) (key : ℕ) : Type 0 where
  pub place : ℕ
  pub within : place < length keys
  pub is : key_at keys place ≡ key

-- a place has the least key
pub record IsHolder (keys : List ℕ) (place : ℕ) : Type 0 where
  pub within : place < length keys
  pub has_key : key_at keys place < none
  pub least : (other : ℕ) → key_at keys place ≤ key_at keys other

-- no timer is in both rows
abbrev pub ShareNone : List ℕ → List ℕ → Type 0
ShareNone due waiting = (timer : ℕ) → key_at due timer < none → none ≤ key_at waiting timer

-- the armed timers were made, and each has a stamp of its own, below the next
pub record AreStamped (keys : ℕ → ℕ) (made next : ℕ) : Type 0 where
  pub are_made : (timer : ℕ) → keys timer < none → timer < made
  pub below : (timer : ℕ) → keys timer < none → keys timer % stamps < next
  pub apart : (first second : ℕ) → keys first < none → keys second < none → keys first % stamps ≡ keys second % stamps → first ≡ second

-- two rows of no keys, and room for as many ranks
pub record AreRows (due waiting ranks : List ℕ) (room : ℕ) : Type 0 where
  pub due_sized : length due ≡ room + 1
  pub waiting_sized : length waiting ≡ room + 1
  pub ranks_sized : length ranks ≡ room + 1
  pub due_empty : (timer : ℕ) → key_at due timer ≡ none
  pub waiting_empty : (timer : ℕ) → key_at waiting timer ≡ none
