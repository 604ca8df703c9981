-- Under which key each coroutine lies: a digital search tree of entries, each a number with its key.
use Rattle.std.specs.Prelude.{◌≡◌, ℕ, ◌+◌, ◌/◌, ◌%◌, ◌<◌, max, Bool, true, false, ◌||◌, List, [], ◌∷◌, ◌++◌, nat_eq, Option, Some, None, IsSome, if◌then◌else◌}
use Rattle.co_state.specs.declared.tree.Entry.{Entry}
use Rattle.co_state.specs.declared.tree.Tree.{Tree}
use Rattle.co_state.specs.declared.tree.Tree.TheVariants.{Empty, Fork'}

-- a tree without its boxes: nothing, or an entry, and below it those whose bit is 0 and those whose bit is 1
pub data Shape : Type 0 where
  Bare : Shape
  At : Entry → Shape → Shape → Shape

abbrev pub shape : Tree → Shape
shape Empty = Bare
shape (Fork' p entry zero one) = At entry (shape zero) (shape one)

-- the next bit of a number is 0, where these are its bits that aren't used up yet
abbrev pub turns_zero : ℕ → Bool
turns_zero rest = nat_eq (rest % 2) 0

-- the key that the path of a number leads to, from here on
abbrev pub sought : Shape → ℕ → ℕ → Option ℕ
sought Bare q rest = None
sought (At entry zero one) q rest = if nat_eq entry.id q then Some entry.key else if turns_zero rest then sought zero q (rest / 2) else sought one q (rest / 2)

-- with an entry at the end of its number's path
abbrev pub inserted : Shape → Entry → ℕ → Shape
inserted Bare new rest = At new Bare Bare
inserted (At entry zero one) new rest = if turns_zero rest then At entry (inserted zero new (rest / 2)) one else At entry zero (inserted one new (rest / 2))

abbrev pub root_of : Shape → Option Entry
root_of Bare = None
root_of (At entry zero one) = Some entry

-- one from below stands at the root: of those whose bit is 0, if there are any
abbrev pub moved_up : Option Entry → Option Entry → Shape → Shape → Shape → Shape → Shape
moved_up (Some up) other zero one fewer_zero fewer_one = At up fewer_zero one
moved_up None (Some up) zero one fewer_zero fewer_one = At up zero fewer_one
moved_up None None zero one fewer_zero fewer_one = Bare

-- without what stands at the root
abbrev pub popped : Shape → Shape
popped Bare = Bare
popped (At entry zero one) = moved_up (root_of zero) (root_of one) zero one (popped zero) (popped one)

-- without a number
abbrev pub removed : Shape → ℕ → ℕ → Shape
removed Bare id rest = Bare
removed (At entry zero one) id rest = if nat_eq entry.id id then popped (At entry zero one) else if turns_zero rest then At entry (removed zero id (rest / 2)) one else At entry zero (removed one id (rest / 2))

-- whether a number stands anywhere
abbrev pub is_in : ℕ → Shape → Bool
is_in q Bare = false
is_in q (At entry zero one) = nat_eq entry.id q || (is_in q zero || is_in q one)

-- how many there are
abbrev pub size_of : Shape → ℕ
size_of Bare = 0
size_of (At entry zero one) = size_of zero + size_of one + 1

-- how many nodes the longest path has
abbrev pub depth_of : Shape → ℕ
depth_of Bare = 0
depth_of (At entry zero one) = max (depth_of zero) (depth_of one) + 1

-- each number has 32 bits
abbrev pub AreSmall : Shape → Type 0
AreSmall tree = (q : ℕ) → is_in q tree ≡ true → q < 4294967296

-- all numbers there have this for their next bit; at gives a number's bits that aren't used up yet
abbrev pub AllTurn : (ℕ → ℕ) → Bool → Shape → Type 0
AllTurn at side tree = (q : ℕ) → is_in q tree ≡ true → turns_zero (at q) ≡ side

-- each number stands on its own path, and once
pub record IsFork (at : ℕ → ℕ) (entry : Entry) (zero one : Shape) : Type 0 where
  pub zeros : AllTurn at true zero
  pub ones : AllTurn at false one
  pub not_zero : is_in entry.id zero ≡ false
  pub not_one : is_in entry.id one ≡ false

abbrev pub IsSorted : (ℕ → ℕ) → Shape → Type 0
IsSorted at Bare = Unit {0}
IsSorted at (At entry zero one) = IsFork at entry zero one × IsSorted (λ q. at q / 2) zero × IsSorted (λ q. at q / 2) one

-- what contracts see of a directory: the tree, and for how many numbers there is memory
pub record Table : Type 0 where
  pub tree : Tree
  pub room : ℕ

-- the key of a number
abbrev pub key_in : Shape → ℕ → Option ℕ
key_in tree q = sought tree q q

-- the numbers
abbrev pub ids_in : Shape → List ℕ
ids_in Bare = []
ids_in (At entry zero one) = entry.id ∷ (ids_in zero ++ ids_in one)

-- whether the number is one of these
abbrev pub is_among : ℕ → List ℕ → Bool
is_among q [] = false
is_among q (id ∷ ids) = nat_eq q id || is_among q ids

-- no number stands twice
abbrev pub AreOnce : List ℕ → Type 0
AreOnce [] = Unit {0}
AreOnce (id ∷ rest) = (is_among id rest ≡ false) × AreOnce rest

-- the list of the numbers has each that has a key, once
pub record AreListed (tree : Shape) : Type 0 where
  pub once : AreOnce (ids_in tree)
  pub keyed : (q : ℕ) → is_among q (ids_in tree) ≡ true → IsSome (key_in tree q)
