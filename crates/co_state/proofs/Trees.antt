-- A digital search tree, after an entry is put in or taken out.
use Rattle.std.proofs.Common.{◌<◌, ◌≡◌, ◌≢◌, ◌⊎◌, inl, inr, ℕ, ◌+◌, ◌/◌, Bool, true, false, ◌||◌, cond, List, [], ◌∷◌, length, ◌++◌, Option, Some, None, is_none, IsSome, refl, subst, sym, ap, ◌∙◌, arith, ne_eqb, eq-eqb, eqb, length-append}
use Rattle.std.proofs.lemmas.Bool.{cases_eq, cases_Bool, eqb-true, both_ways}
use Rattle.co_state.specs.declared.tree.Entry.{Entry}
use Rattle.co_state.specs.Lookup.{Shape, Bare, At, turns_zero, sought, inserted, root_of, popped, removed, is_in, size_of, AllTurn, AreSmall, IsFork, IsSorted, key_in, ids_in, is_among, AreOnce, AreListed}

or_parts : (a b : Bool) → (a || b) ≡ false → (a ≡ false) × (b ≡ false)
or_parts true b e = absurd (cc e)
or_parts false b e = (refl, e)

or_none : (a b : Bool) → a ≡ false → b ≡ false → (a || b) ≡ false
or_none a b p q = rw p q

or_cases : (a b : Bool) → (a || b) ≡ true → (a ≡ true) ⊎ (b ≡ true)
or_cases true b e = inl refl
or_cases false b e = inr e

pub or_first : (a b : Bool) → a ≡ true → (a || b) ≡ true
or_first a b p = rw p refl

pub or_second : (a b : Bool) → b ≡ true → (a || b) ≡ true
or_second true b p = refl
or_second false b p = p

same_yes : (n : ℕ) → eqb n n ≡ true
same_yes n = eq-eqb n n refl

-- a number that stands nowhere leads to no key
pub not_sought : (t : Shape) (q rest : ℕ) → is_in q t ≡ false → sought t q rest ≡ None
not_sought Bare q rest none = refl
not_sought (At e z o) q rest none =
    let parts = or_parts (eqb e.id q) (is_in q z || is_in q o) none in
    let below = or_parts (is_in q z) (is_in q o) parts.1 in
    let here = parts.0 in
    let zero = not_sought z q (rest / 2) below.0 in
    let one = not_sought o q (rest / 2) below.1 in
    elim (cases_Bool (turns_zero rest)) [
      | inl turn ↦ rw (here, turn) zero
      | inr turn ↦ rw (here, turn) one
    ]

-- a number that stands there is found on its path
pub is_sought : (at : ℕ → ℕ) (t : Shape) (q : ℕ) → IsSorted at t → is_in q t ≡ true → IsSome (sought t q (at q))
is_sought at Bare q sorted there = absurd (cc there)
is_sought at (At e z o) q sorted there =
    elim (cases_Bool (eqb e.id q)) [
      | inl here ↦ rw here refl
      | inr other ↦ elim (or_cases (is_in q z) (is_in q o) (rw other at there)) [
        | inl below ↦ let turn = sorted.0.zeros q below in rw (other, turn) (is_sought (λ n. at n / 2) z q sorted.1 below)
        | inr below ↦ let turn = sorted.0.ones q below in rw (other, turn) (is_sought (λ n. at n / 2) o q sorted.2 below)
      ]
    ]

-- an entry that is put in

pub inserted_is_in : (t : Shape) (new : Entry) (rest q : ℕ) → is_in q (inserted t new rest) ≡ true → (new.id ≡ q) ⊎ (is_in q t ≡ true)
inserted_is_in Bare new rest q there = elim (or_cases (eqb new.id q) (false || false) there) [ inl here ↦ inl (eqb-true new.id q here) | inr below ↦ absurd (cc below) ]
inserted_is_in (At e z o) new rest q there =
    elim (cases_Bool (turns_zero rest)) [
      | inl turn ↦ elim (or_cases (eqb e.id q) (is_in q (inserted z new (rest / 2)) || is_in q o) (rw turn at there)) [
        | inl here ↦ inr (or_first (eqb e.id q) (is_in q z || is_in q o) here)
        | inr below ↦ elim (or_cases (is_in q (inserted z new (rest / 2))) (is_in q o) below) [
          | inl zero ↦ elim (inserted_is_in z new (rest / 2) q zero) [
            | inl is ↦ inl is
            | inr was ↦ inr (or_second (eqb e.id q) (is_in q z || is_in q o) (or_first (is_in q z) (is_in q o) was))
          ]
          | inr one ↦ inr (or_second (eqb e.id q) (is_in q z || is_in q o) (or_second (is_in q z) (is_in q o) one))
        ]
      ]
      | inr turn ↦ elim (or_cases (eqb e.id q) (is_in q z || is_in q (inserted o new (rest / 2))) (rw turn at there)) [
        | inl here ↦ inr (or_first (eqb e.id q) (is_in q z || is_in q o) here)
        | inr below ↦ elim (or_cases (is_in q z) (is_in q (inserted o new (rest / 2))) below) [
          | inl zero ↦ inr (or_second (eqb e.id q) (is_in q z || is_in q o) (or_first (is_in q z) (is_in q o) zero))
          | inr one ↦ elim (inserted_is_in o new (rest / 2) q one) [
            | inl is ↦ inl is
            | inr was ↦ inr (or_second (eqb e.id q) (is_in q z || is_in q o) (or_second (is_in q z) (is_in q o) was))
          ]
        ]
      ]
    ]

-- what isn't there but for one number
without_it : (b c : Bool) (P : Type 0) → (b ≡ true → P ⊎ (c ≡ true)) → (P → ⊥) → c ≡ false → b ≡ false
without_it b c P cases not none = elim (cases_Bool b) [
  | inl there ↦ elim (cases there) [ inl is ↦ absurd (not is) | inr was ↦ absurd (cc (none, was)) ]
  | inr away ↦ away
]

pub differ_by : (a b : ℕ) → eqb a b ≡ false → a ≢ b
differ_by a b e same = both_ways (eqb a b) e (eq-eqb a b same)

pub insert_sorted : (at : ℕ → ℕ) (t : Shape) (new : Entry) → IsSorted at t → is_in new.id t ≡ false → IsSorted at (inserted t new (at new.id))
insert_sorted at Bare new sorted absent = (record { zeros = λ q e. absurd (cc e); ones = λ q e. absurd (cc e); not_zero = refl; not_one = refl }, tt, tt)
insert_sorted at (At e z o) new sorted absent =
    let parts = or_parts (eqb e.id new.id) (is_in new.id z || is_in new.id o) absent in
    let below = or_parts (is_in new.id z) (is_in new.id o) parts.1 in
    let fork = sorted.0 in
    let apart : (new.id ≡ e.id) → ⊥ = λ is. differ_by e.id new.id parts.0 (sym is) in
    elim (cases_Bool (turns_zero (at new.id))) [
      | inl turn ↦ rw turn (
        record {
          zeros = λ q there. elim (inserted_is_in z new (at new.id / 2) q there) [
            | inl is ↦ subst (λ n. turns_zero (at n) ≡ true) is turn
            | inr was ↦ fork.zeros q was
          ];
          ones = fork.ones;
          not_zero = without_it (is_in e.id (inserted z new (at new.id / 2))) (is_in e.id z) (new.id ≡ e.id) (λ there. inserted_is_in z new (at new.id / 2) e.id there) apart fork.not_zero;
          not_one = fork.not_one;
        },
        insert_sorted (λ q. at q / 2) z new sorted.1 below.0,
        sorted.2,
      )
      | inr turn ↦ rw turn (
        record {
          zeros = fork.zeros;
          ones = λ q there. elim (inserted_is_in o new (at new.id / 2) q there) [
            | inl is ↦ subst (λ n. turns_zero (at n) ≡ false) is turn
            | inr was ↦ fork.ones q was
          ];
          not_zero = fork.not_zero;
          not_one = without_it (is_in e.id (inserted o new (at new.id / 2))) (is_in e.id o) (new.id ≡ e.id) (λ there. inserted_is_in o new (at new.id / 2) e.id there) apart fork.not_one;
        },
        sorted.1,
        insert_sorted (λ q. at q / 2) o new sorted.2 below.1,
      )
    ]

pub insert_other : (t : Shape) (new : Entry) (rest q path : ℕ) → eqb new.id q ≡ false → sought (inserted t new rest) q path ≡ sought t q path
insert_other Bare new rest q path other = elim (cases_Bool (turns_zero path)) [ inl turn ↦ rw (other, turn) refl | inr turn ↦ rw (other, turn) refl ]
insert_other (At e z o) new rest q path other =
    let zero = insert_other z new (rest / 2) q (path / 2) other in
    let one = insert_other o new (rest / 2) q (path / 2) other in
    elim (cases_Bool (turns_zero rest)) [
      | inl turn ↦ rw (turn, zero) refl
      | inr turn ↦ rw (turn, one) refl
    ]

pub insert_own : (t : Shape) (new : Entry) (rest : ℕ) → sought t new.id rest ≡ None → sought (inserted t new rest) new.id rest ≡ Some new.key
insert_own Bare new rest none = let here = same_yes new.id in rw here refl
insert_own (At e z o) new rest none =
    elim (cases_Bool (eqb e.id new.id)) [
      | inl here ↦ absurd (cc (rw here at none))
      | inr other ↦ elim (cases_Bool (turns_zero rest)) [
        | inl turn ↦ rw (turn, other, turn) (insert_own z new (rest / 2) (rw (other, turn) at none))
        | inr turn ↦ rw (turn, other, turn) (insert_own o new (rest / 2) (rw (other, turn) at none))
      ]
    ]

pub insert_below : (t : Shape) (new : Entry) (rest : ℕ) → AreSmall t → new.id < 4294967296 → AreSmall (inserted t new rest)
insert_below t new rest below fits q there = elim (inserted_is_in t new rest q there) [
  | inl is ↦ subst (λ n. n < 4294967296) is fits
  | inr was ↦ below q was
]

pub insert_size : (t : Shape) (new : Entry) (rest : ℕ) → size_of (inserted t new rest) ≡ size_of t + 1
insert_size Bare new rest = refl
insert_size (At e z o) new rest =
    let zero = insert_size z new (rest / 2) in
    let one = insert_size o new (rest / 2) in
    elim (cases_Bool (turns_zero rest)) [
      | inl turn ↦ rw turn (omega (arith, zero))
      | inr turn ↦ rw turn (omega (arith, one))
    ]

pub key_inserted : (t : Shape) (new : Entry) → key_in t new.id ≡ None → (q : ℕ) → key_in (inserted t new new.id) q ≡ cond (eqb q new.id) (Some new.key) (key_in t q)
key_inserted t new none q = elim (cases_eq q new.id) [
  | inl is ↦
      let yes_ = eq-eqb q new.id is in
      ap (λ n. sought (inserted t new new.id) n n) is ∙ insert_own t new new.id none ∙ ap (λ b. cond b (Some new.key) (key_in t q)) (sym yes_)
  | inr differs ↦
      let no_ = ne_eqb q new.id differs in
      insert_other t new new.id q q (ne_eqb new.id q (λ is. differs (sym is))) ∙ ap (λ b. cond b (Some new.key) (key_in t q)) (sym no_)
]

-- what stands at the root is taken out

-- without the root of a tree, that root moved up in place of the entry above
record Pops (at : ℕ → ℕ) (id : ℕ) (t left : Shape) : Type 0 where
  less : (q : ℕ) → is_in q left ≡ true → is_in q t ≡ true
  gone : is_in id left ≡ false
  same : (q : ℕ) → eqb id q ≡ false → sought left q (at q) ≡ sought t q (at q)
  sorted : IsSorted at left
  size : size_of left + 1 ≡ size_of t

-- of one side without its root: what the fork needs to know
not_in : (b c : Bool) → (b ≡ true → c ≡ true) → c ≡ false → b ≡ false
not_in b c less none = elim (cases_Bool b) [ inl there ↦ absurd (cc (less there, none)) | inr away ↦ away ]

other_side : (at : ℕ → ℕ) (t : Shape) (q : ℕ) (side turn : Bool) → AllTurn at side t → turns_zero (at q) ≡ turn → (side ≡ turn → ⊥) → is_in q t ≡ false
other_side at t q side turn all is differ = elim (cases_Bool (is_in q t)) [ inl there ↦ absurd (differ (sym (all q there) ∙ is)) | inr away ↦ away ]

true_false : true ≡ false → ⊥
true_false e = absurd (cc e)

false_true : false ≡ true → ⊥
false_true e = absurd (cc e)

unlike : (a b : ℕ) (t : Shape) → is_in a t ≡ false → is_in b t ≡ true → eqb a b ≡ false
unlike a b t none there = ne_eqb a b (λ is. absurd (cc (none, ap (λ n. is_in n t) is, there)))

pub root_is_in : (e : Entry) (z o : Shape) → is_in e.id (At e z o) ≡ true
root_is_in e z o = or_first (eqb e.id e.id) (is_in e.id z || is_in e.id o) (same_yes e.id)

root_key : (e : Entry) (z o : Shape) (q rest : ℕ) → eqb e.id q ≡ true → sought (At e z o) q rest ≡ Some e.key
root_key e z o q rest here = rw here refl

-- the root of those whose bit is 0 moves up
zero_up : (at : ℕ → ℕ) (e u : Entry) (uz uo z' o : Shape) → IsFork at e (At u uz uo) o → IsSorted (λ q. at q / 2) o → Pops (λ q. at q / 2) u.id (At u uz uo) z' → Pops at e.id (At e (At u uz uo) o) (At u z' o)
zero_up at e u uz uo z' o fork so pops =
    let z = At u uz uo in
    let up : is_in u.id z ≡ true = root_is_in u uz uo in
    let turn : turns_zero (at u.id) ≡ true = fork.zeros u.id up in
    let e_u : eqb e.id u.id ≡ false = unlike e.id u.id z fork.not_zero up in
    let u_e : eqb u.id e.id ≡ false = ne_eqb u.id e.id (λ is. differ_by e.id u.id e_u (sym is)) in
    record {
      less = λ q there. elim (or_cases (eqb u.id q) (is_in q z' || is_in q o) there) [
        | inl here ↦ or_second (eqb e.id q) (is_in q z || is_in q o) (or_first (is_in q z) (is_in q o) (or_first (eqb u.id q) (is_in q uz || is_in q uo) here))
        | inr below ↦ elim (or_cases (is_in q z') (is_in q o) below) [
          | inl zero ↦ or_second (eqb e.id q) (is_in q z || is_in q o) (or_first (is_in q z) (is_in q o) (pops.less q zero))
          | inr one ↦ or_second (eqb e.id q) (is_in q z || is_in q o) (or_second (is_in q z) (is_in q o) one)
        ]
      ];
      gone = or_none (eqb u.id e.id) (is_in e.id z' || is_in e.id o) u_e (or_none (is_in e.id z') (is_in e.id o) (not_in (is_in e.id z') (is_in e.id z) (pops.less e.id) fork.not_zero) fork.not_one);
      same = λ q other. elim (cases_Bool (eqb u.id q)) [
        | inl here ↦
            let is : u.id ≡ q = eqb-true u.id q here in
            let way : turns_zero (at q) ≡ true = subst (λ n. turns_zero (at n) ≡ true) is turn in
            rw (here, other, way) refl
        | inr apart ↦
            let below = pops.same q apart in
            elim (cases_Bool (turns_zero (at q))) [
              | inl way ↦ rw (apart, other, way) (below ∙ rw apart refl)
              | inr way ↦ rw (apart, other, way) refl
            ]
      ];
      sorted = (
        record {
          zeros = λ q there. fork.zeros q (pops.less q there);
          ones = fork.ones;
          not_zero = pops.gone;
          not_one = other_side at o u.id false true fork.ones turn false_true;
        },
        pops.sorted,
        so,
      );
      size = omega (arith, pops.size);
    }

-- the root of those whose bit is 1 moves up
one_up : (at : ℕ → ℕ) (e u : Entry) (uz uo o' : Shape) → IsFork at e Bare (At u uz uo) → Pops (λ q. at q / 2) u.id (At u uz uo) o' → Pops at e.id (At e Bare (At u uz uo)) (At u Bare o')
one_up at e u uz uo o' fork pops =
    let o = At u uz uo in
    let up : is_in u.id o ≡ true = root_is_in u uz uo in
    let turn : turns_zero (at u.id) ≡ false = fork.ones u.id up in
    let e_u : eqb e.id u.id ≡ false = unlike e.id u.id o fork.not_one up in
    let u_e : eqb u.id e.id ≡ false = ne_eqb u.id e.id (λ is. differ_by e.id u.id e_u (sym is)) in
    record {
      less = λ q there. elim (or_cases (eqb u.id q) (false || is_in q o') there) [
        | inl here ↦ or_second (eqb e.id q) (false || is_in q o) (or_first (eqb u.id q) (is_in q uz || is_in q uo) here)
        | inr below ↦ or_second (eqb e.id q) (false || is_in q o) (pops.less q below)
      ];
      gone = or_none (eqb u.id e.id) (false || is_in e.id o') u_e (not_in (is_in e.id o') (is_in e.id o) (pops.less e.id) fork.not_one);
      same = λ q other. elim (cases_Bool (eqb u.id q)) [
        | inl here ↦
            let is : u.id ≡ q = eqb-true u.id q here in
            let way : turns_zero (at q) ≡ false = subst (λ n. turns_zero (at n) ≡ false) is turn in
            rw (here, other, way) refl
        | inr apart ↦
            let below = pops.same q apart in
            elim (cases_Bool (turns_zero (at q))) [
              | inl way ↦ rw (apart, other, way) refl
              | inr way ↦ rw (apart, other, way) (below ∙ rw apart refl)
            ]
      ];
      sorted = (
        record {
          zeros = fork.zeros;
          ones = λ q there. fork.ones q (pops.less q there);
          not_zero = refl;
          not_one = pops.gone;
        },
        tt,
        pops.sorted,
      );
      size = omega (arith, pops.size);
    }

-- what a pop leaves, by which side has a root
pub pop_zero : (t : Shape) (e u : Entry) (z o l r : Shape) → t ≡ At e z o → root_of z ≡ Some u → l ≡ popped z → r ≡ o → At u l r ≡ popped t
pop_zero t e u z o l r is up left same = rw (is, up, left, same) refl

pub pop_one : (t : Shape) (e u : Entry) (z o l r : Shape) → t ≡ At e z o → root_of z ≡ None → root_of o ≡ Some u → l ≡ z → r ≡ popped o → At u l r ≡ popped t
pop_one t e u z o l r is none up same left = rw (is, none, up, same, left) refl

pub not_rooted : (o : Option Entry) → is_none o ≡ true → o ≡ None
not_rooted None e = refl
not_rooted (Some x) e = absurd (cc e)

abbrev root_id : Shape → ℕ
root_id Bare = 0
root_id (At e z o) = e.id

pop_root : (t : Shape) (at : ℕ → ℕ) → IsSome (root_of t) → IsSorted at t → Pops at (root_id t) t (popped t)
pop_root Bare at some sorted = absurd (cc some)
pop_root (At e Bare Bare) at some sorted = record {
  less = λ q there. absurd (cc there);
  gone = refl;
  same = λ q other. elim (cases_Bool (turns_zero (at q))) [ inl way ↦ rw (other, way) refl | inr way ↦ rw (other, way) refl ];
  sorted = tt;
  size = refl;
}
pop_root (At e Bare (At u uz uo)) at some sorted = one_up at e u uz uo (popped (At u uz uo)) sorted.0 (pop_root (At u uz uo) (λ q. at q / 2) refl sorted.2)
pop_root (At e (At u uz uo) o) at some sorted = zero_up at e u uz uo (popped (At u uz uo)) o sorted.0 sorted.2 (pop_root (At u uz uo) (λ q. at q / 2) refl sorted.1)

-- without a number
record Removes (at : ℕ → ℕ) (id : ℕ) (t left : Shape) : Type 0 where
  less : (q : ℕ) → is_in q left ≡ true → is_in q t ≡ true
  gone : is_in id left ≡ false
  same : (q : ℕ) → eqb id q ≡ false → sought left q (at q) ≡ sought t q (at q)
  sorted : IsSorted at left
  size : size_of left + 1 ≡ size_of t

removes : (at : ℕ → ℕ) (t : Shape) (id : ℕ) → IsSorted at t → IsSome (sought t id (at id)) → Removes at id t (removed t id (at id))
removes at Bare id sorted some = absurd (cc some)
removes at (At e z o) id sorted some =
    elim (cases_Bool (eqb e.id id)) [
      | inl here ↦
          let is : e.id ≡ id = eqb-true e.id id here in
          let pops = pop_root (At e z o) at refl sorted in
          rw here (record {
            less = pops.less;
            gone = subst (λ n. is_in n (popped (At e z o)) ≡ false) is pops.gone;
            same = λ q other. pops.same q (subst (λ n. eqb n q ≡ false) (sym is) other);
            sorted = pops.sorted;
            size = pops.size;
          })
      | inr other ↦ elim (cases_Bool (turns_zero (at id))) [
        | inl turn ↦ rw (other, turn) (zero_fewer at e z o id sorted other turn (removes (λ q. at q / 2) z id sorted.1 (rw (other, turn) at some)))
        | inr turn ↦ rw (other, turn) (one_fewer at e z o id sorted other turn (removes (λ q. at q / 2) o id sorted.2 (rw (other, turn) at some)))
      ]
    ]
  where
    zero_fewer : (at : ℕ → ℕ) (e : Entry) (z o : Shape) (id : ℕ) → IsSorted at (At e z o) → eqb e.id id ≡ false → turns_zero (at id) ≡ true → Removes (λ q. at q / 2) id z (removed z id (at id / 2)) → Removes at id (At e z o) (At e (removed z id (at id / 2)) o)
    zero_fewer at e z o id sorted other turn later =
        let z' = removed z id (at id / 2) in
        record {
          less = λ q there. elim (or_cases (eqb e.id q) (is_in q z' || is_in q o) there) [
            | inl here ↦ or_first (eqb e.id q) (is_in q z || is_in q o) here
            | inr below ↦ elim (or_cases (is_in q z') (is_in q o) below) [
              | inl zero ↦ or_second (eqb e.id q) (is_in q z || is_in q o) (or_first (is_in q z) (is_in q o) (later.less q zero))
              | inr one ↦ or_second (eqb e.id q) (is_in q z || is_in q o) (or_second (is_in q z) (is_in q o) one)
            ]
          ];
          gone = or_none (eqb e.id id) (is_in id z' || is_in id o) other (or_none (is_in id z') (is_in id o) later.gone (other_side at o id false true sorted.0.ones turn false_true));
          same = λ q apart.
              let below = later.same q apart in
              rw below refl;
          sorted = (
            record {
              zeros = λ q there. sorted.0.zeros q (later.less q there);
              ones = sorted.0.ones;
              not_zero = not_in (is_in e.id z') (is_in e.id z) (later.less e.id) sorted.0.not_zero;
              not_one = sorted.0.not_one;
            },
            later.sorted,
            sorted.2,
          );
          size = omega (arith, later.size);
        }

    one_fewer : (at : ℕ → ℕ) (e : Entry) (z o : Shape) (id : ℕ) → IsSorted at (At e z o) → eqb e.id id ≡ false → turns_zero (at id) ≡ false → Removes (λ q. at q / 2) id o (removed o id (at id / 2)) → Removes at id (At e z o) (At e z (removed o id (at id / 2)))
    one_fewer at e z o id sorted other turn later =
        let o' = removed o id (at id / 2) in
        record {
          less = λ q there. elim (or_cases (eqb e.id q) (is_in q z || is_in q o') there) [
            | inl here ↦ or_first (eqb e.id q) (is_in q z || is_in q o) here
            | inr below ↦ elim (or_cases (is_in q z) (is_in q o') below) [
              | inl zero ↦ or_second (eqb e.id q) (is_in q z || is_in q o) (or_first (is_in q z) (is_in q o) zero)
              | inr one ↦ or_second (eqb e.id q) (is_in q z || is_in q o) (or_second (is_in q z) (is_in q o) (later.less q one))
            ]
          ];
          gone = or_none (eqb e.id id) (is_in id z || is_in id o') other (or_none (is_in id z) (is_in id o') (other_side at z id true false sorted.0.zeros turn true_false) later.gone);
          same = λ q apart.
              let below = later.same q apart in
              rw below refl;
          sorted = (
            record {
              zeros = sorted.0.zeros;
              ones = λ q there. sorted.0.ones q (later.less q there);
              not_zero = sorted.0.not_zero;
              not_one = not_in (is_in e.id o') (is_in e.id o) (later.less e.id) sorted.0.not_one;
            },
            sorted.1,
            later.sorted,
          );
          size = omega (arith, later.size);
        }

pub remove_sorted : (t : Shape) (id : ℕ) → IsSorted (λ q. q) t → IsSome (key_in t id) → IsSorted (λ q. q) (removed t id id)
remove_sorted t id sorted some = (removes (λ q. q) t id sorted some).sorted

pub remove_less : (t : Shape) (id : ℕ) → IsSorted (λ q. q) t → IsSome (key_in t id) → (q : ℕ) → is_in q (removed t id id) ≡ true → is_in q t ≡ true
remove_less t id sorted some = (removes (λ q. q) t id sorted some).less

pub remove_size : (t : Shape) (id : ℕ) → IsSorted (λ q. q) t → IsSome (key_in t id) → size_of (removed t id id) + 1 ≡ size_of t
remove_size t id sorted some = (removes (λ q. q) t id sorted some).size

pub key_removed : (t : Shape) (id : ℕ) → IsSorted (λ q. q) t → IsSome (key_in t id) → (q : ℕ) → key_in (removed t id id) q ≡ cond (eqb q id) None (key_in t q)
key_removed t id sorted some q =
    let r = removes (λ q. q) t id sorted some in
    elim (cases_eq q id) [
      | inl is ↦
          let yes_ = eq-eqb q id is in
          not_sought (removed t id id) q q (subst (λ n. is_in n (removed t id id) ≡ false) (sym is) r.gone) ∙ ap (λ b. cond b None (key_in t q)) (sym yes_)
      | inr differs ↦
          let no_ = ne_eqb q id differs in
          r.same q (ne_eqb id q (λ is. differs (sym is))) ∙ ap (λ b. cond b None (key_in t q)) (sym no_)
    ]

-- the numbers as a list

eqb_swap : (a b : ℕ) → eqb a b ≡ eqb b a
eqb_swap a b = elim (cases_eq a b) [
  | inl is ↦ eq-eqb a b is ∙ sym (eq-eqb b a (sym is))
  | inr differs ↦ ne_eqb a b differs ∙ sym (ne_eqb b a (λ is. differs (sym is)))
]

or_assoc : (a b c : Bool) → ((a || b) || c) ≡ (a || (b || c))
or_assoc true b c = refl
or_assoc false b c = refl

among-append : (q : ℕ) (xs ys : List ℕ) → is_among q (xs ++ ys) ≡ (is_among q xs || is_among q ys)
among-append q [] ys = refl
among-append q (x ∷ xs) ys = ap (λ b. eqb q x || b) (among-append q xs ys) ∙ sym (or_assoc (eqb q x) (is_among q xs) (is_among q ys))

pub among_ids : (t : Shape) (q : ℕ) → is_among q (ids_in t) ≡ is_in q t
among_ids Bare q = refl
among_ids (At e z o) q =
    let zero = among_ids z q in
    let one = among_ids o q in
    let swap = eqb_swap q e.id in
    ap (λ b. eqb q e.id || b) (among-append q (ids_in z) (ids_in o)) ∙ rw (swap, zero, one) refl

pub length_ids : (t : Shape) → length (ids_in t) ≡ size_of t
length_ids Bare = refl
length_ids (At e z o) = omega (arith, length-append (ids_in z) (ids_in o), length_ids z, length_ids o)

once-append : (xs ys : List ℕ) → AreOnce xs → AreOnce ys → ((q : ℕ) → is_among q xs ≡ true → is_among q ys ≡ false) → AreOnce (xs ++ ys)
once-append [] ys first second apart = second
once-append (x ∷ xs) ys first second apart = (
  among-append x xs ys ∙ or_none (is_among x xs) (is_among x ys) first.0 (apart x (or_first (eqb x x) (is_among x xs) (same_yes x))),
  once-append xs ys first.1 second (λ q there. apart q (or_second (eqb q x) (is_among q xs) there)),
)

pub once_ids : (at : ℕ → ℕ) (t : Shape) → IsSorted at t → AreOnce (ids_in t)
once_ids at Bare sorted = tt
once_ids at (At e z o) sorted = (
  among-append e.id (ids_in z) (ids_in o) ∙ or_none (is_among e.id (ids_in z)) (is_among e.id (ids_in o)) (among_ids z e.id ∙ sorted.0.not_zero) (among_ids o e.id ∙ sorted.0.not_one),
  once-append (ids_in z) (ids_in o) (once_ids (λ q. at q / 2) z sorted.1) (once_ids (λ q. at q / 2) o sorted.2)
      (λ q there. among_ids o q ∙ other_side at o q false true sorted.0.ones (sorted.0.zeros q (sym (among_ids z q) ∙ there)) false_true),
)

-- what the store asks

pub no_key : (t : Shape) (q : ℕ) → is_among q (ids_in t) ≡ false → key_in t q ≡ None
no_key t q none = not_sought t q q (sym (among_ids t q) ∙ none)

some_key : (o : Option ℕ) → IsSome o → (key : ℕ) × (o ≡ Some key)
some_key None some = absurd (cc some)
some_key (Some key) some = (key, refl)

pub key_of_one : (t : Shape) (q : ℕ) → AreListed t → is_among q (ids_in t) ≡ true → (key : ℕ) × (key_in t q ≡ Some key)
key_of_one t q listed among = some_key (key_in t q) (listed.keyed q among)

pub are_listed : (t : Shape) → IsSorted (λ n. n) t → AreListed t
are_listed t sorted = record {
  once = once_ids (λ n. n) t sorted;
  keyed = λ q among. is_sought (λ n. n) t q sorted (sym (among_ids t q) ∙ among);
}

pub none_is_in : (t : Shape) (q : ℕ) → IsSorted (λ n. n) t → key_in t q ≡ None → is_in q t ≡ false
none_is_in t q sorted none = elim (cases_Bool (is_in q t)) [
  | inl there ↦ absurd (cc (subst IsSome none (is_sought (λ n. n) t q sorted there)))
  | inr away ↦ away
]
