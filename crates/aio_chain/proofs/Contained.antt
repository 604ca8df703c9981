-- Membership in a list of numbers, and lists in which each number stands once.
use Rattle.std.proofs.Common.{◌≡◌, ℕ, ◌<◌, ◌≤◌, Bool, true, false, ◌||◌, eqb, List, [], ◌∷◌, ◌++◌, length, refl, sym, ◌∙◌, ap, inl, inr}
use Rattle.std.specs.List.{AllByRecursion, IsDistinct}
use Rattle.std.proofs.lemmas.Bool.{false≢true, cases_eq, eq-eqb, ne_eqb, eqb-false, or_parts, or_from, or_left, or_right}
use Rattle.std.proofs.lemmas.List.Folds.{list_any-append}
use Rattle.std.proofs.lemmas.Map.Steps.{length-le_from_distinct_below}
use Rattle.aio_chain.specs.LinkList.{contains, IsEachOnce}

-- a test of two numbers, and of the same the other way round
pub eqb-false_comm : (a b : ℕ) → eqb a b ≡ false → eqb b a ≡ false
eqb-false_comm a b h = ne_eqb b a (λ e. eqb-false a b h (sym e))

pub contains-append : (i : ℕ) (xs ys : List ℕ) → contains i (xs ++ ys) ≡ (contains i xs || contains i ys)
contains-append i xs ys = list_any-append (eqb i) xs ys

pub contains-right : (i : ℕ) (xs ys : List ℕ) → contains i ys ≡ true → contains i (xs ++ ys) ≡ true
contains-right i xs ys h = contains-append i xs ys ∙ or_right (contains i xs) _ h

pub contains-middle : (i : ℕ) (xs ys : List ℕ) → contains i (xs ++ i ∷ ys) ≡ true
contains-middle i xs ys = contains-right i xs (i ∷ ys) (or_left _ _ (eq-eqb i i refl))

pub absent_parts : (i : ℕ) (xs ys : List ℕ) → contains i (xs ++ ys) ≡ false → (contains i xs ≡ false) × (contains i ys ≡ false)
absent_parts i xs ys h = or_parts _ _ (sym (contains-append i xs ys) ∙ h)

pub absent_from : (i : ℕ) (xs ys : List ℕ) → contains i xs ≡ false → contains i ys ≡ false → contains i (xs ++ ys) ≡ false
absent_from i xs ys h k = contains-append i xs ys ∙ or_from _ _ h k

-- a list that has a number has a front without it, the number, and the rest
pub record Split (i : ℕ) (xs : List ℕ) : Type 0 where
  pub front : List ℕ
  pub back : List ℕ
  pub is : xs ≡ front ++ i ∷ back
  pub absent : contains i front ≡ false

pub split_at : (i : ℕ) (xs : List ℕ) → contains i xs ≡ true → Split i xs
split_at i [] h = absurd (false≢true h)
split_at i (x ∷ xs) h = elim (cases_eq i x) [
  | inl e ↦ record { front = []; back = xs; is = ap (λ y. y ∷ xs) (sym e); absent = refl }
  | inr ne ↦
      let here = ne_eqb i x ne in
      let later : contains i xs ≡ true = rw here at h in
      let rest = split_at i xs later in
      record {
        front = x ∷ rest.front;
        back = rest.back;
        is = ap (λ ys. x ∷ ys) rest.is;
        absent = or_from _ _ here rest.absent;
      }
]

-- what stands in the middle of a list stands neither before nor behind it
pub once_middle : (i : ℕ) (xs ys : List ℕ) → IsEachOnce (xs ++ i ∷ ys) → (contains i xs ≡ false) × (contains i ys ≡ false)
once_middle i [] ys d = (refl, d.0)
once_middle i (x ∷ xs) ys d =
    let rest = once_middle i xs ys d.1 in
    let apart = absent_parts x xs (i ∷ ys) d.0 in
    let here : eqb x i ≡ false = (or_parts (eqb x i) (contains x ys) apart.1).0 in
    (or_from _ _ (eqb-false_comm x i here) rest.0, rest.1)

pub once_remove : (i : ℕ) (xs ys : List ℕ) → IsEachOnce (xs ++ i ∷ ys) → IsEachOnce (xs ++ ys)
once_remove i [] ys d = d.1
once_remove i (x ∷ xs) ys d =
    let apart = absent_parts x xs (i ∷ ys) d.0 in
    let behind : contains x ys ≡ false = (or_parts (eqb x i) (contains x ys) apart.1).1 in
    (absent_from x xs ys apart.0 behind, once_remove i xs ys d.1)

pub once_insert : (i : ℕ) (xs ys : List ℕ) → contains i (xs ++ ys) ≡ false → IsEachOnce (xs ++ ys) → IsEachOnce (xs ++ i ∷ ys)
once_insert i [] ys h d = (h, d)
once_insert i (x ∷ xs) ys h d =
    let new = or_parts (eqb i x) (contains i (xs ++ ys)) h in
    let old = absent_parts x xs ys d.0 in (
      absent_from x xs (i ∷ ys) old.0 (or_from _ _ (eqb-false_comm i x new.0) old.1),
      once_insert i xs ys new.1 d.1,
    )

pub once_left : (xs ys : List ℕ) → IsEachOnce (xs ++ ys) → IsEachOnce xs
once_left [] ys d = tt
once_left (x ∷ xs) ys d = ((absent_parts x xs ys d.0).0, once_left xs ys d.1)

pub once_push : (i : ℕ) (xs : List ℕ) → contains i xs ≡ false → IsEachOnce xs → IsEachOnce (xs ++ i ∷ [])
once_push i [] h d = (refl, tt)
once_push i (x ∷ xs) h d =
    let new = or_parts (eqb i x) (contains i xs) h in
    (absent_from x xs (i ∷ []) d.0 (or_from _ _ (eqb-false_comm i x new.0) refl), once_push i xs new.1 d.1)

pub or_swap : (a b c : Bool) → (a || (b || c)) ≡ (b || (a || c))
or_swap true true c = refl
or_swap true false c = refl
or_swap false b c = refl

pub contains-insert : (k i : ℕ) (xs ys : List ℕ) → contains k (xs ++ i ∷ ys) ≡ (eqb k i || contains k (xs ++ ys))
contains-insert k i [] ys = refl
contains-insert k i (x ∷ xs) ys =
    ap (λ b. eqb k x || b) (contains-insert k i xs ys) ∙ or_swap (eqb k x) (eqb k i) (contains k (xs ++ ys))

all_from_absent : (i : ℕ) (xs : List ℕ) → contains i xs ≡ false → AllByRecursion (λ x. eqb i x ≡ false) xs
all_from_absent i [] h = tt
all_from_absent i (x ∷ xs) h = let parts = or_parts _ _ h in (parts.0, all_from_absent i xs parts.1)

IsDistinct-from_once : (xs : List ℕ) → IsEachOnce xs → IsDistinct eqb xs
unfolding IsDistinct
IsDistinct-from_once [] d = tt
IsDistinct-from_once (x ∷ xs) d = (all_from_absent x xs d.0, IsDistinct-from_once xs d.1)

-- a list of numbers below the room, each once, is at most as long
pub length-le_room : (xs : List ℕ) (room : ℕ) → IsEachOnce xs → ((i : ℕ) → contains i xs ≡ true → i < room) → length xs ≤ room
length-le_room xs room d below =
    length-le_from_distinct_below xs room (IsDistinct-from_once xs d) below
