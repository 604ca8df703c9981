-- The two rows of keys, and the joint one.
use Rattle.std.proofs.Common.{◌≡◌, ℕ, ◌+◌, ◌*◌, ◌%◌, ◌<◌, ◌≤◌, List, length, set, refl, sym, ◌∙◌, ap, inl, inr, arith, get_or-set_same, get_or-set_other}
use Rattle.std.proofs.lemmas.Bool.{cases_lt, cases_eq, lt-ltb, le-ltb}
use Rattle.std.proofs.lemmas.List.{get_or_past}
use Rattle.aio_timers.specs.Keys.{none, stamps, key_at, joint, ShareNone, AreStamped}
use Rattle.aio_timers.proofs.Standing.{AreOf}

module _ (due waiting : List ℕ) where
  pub joint_due : (timer : ℕ) → key_at due timer < none → joint due waiting timer ≡ key_at due timer
  joint_due timer h = let t = lt-ltb (key_at due timer) none h in rw t refl

  pub joint_waiting : (timer : ℕ) → none ≤ key_at due timer → joint due waiting timer ≡ key_at waiting timer
  joint_waiting timer h = let f = le-ltb (key_at due timer) none h in rw f refl

  pub of_rows : AreOf (joint due waiting) (key_at due)
  of_rows = joint_due

  pub joint_none : ((timer : ℕ) → key_at due timer ≡ none) → ((timer : ℕ) → key_at waiting timer ≡ none) → (timer : ℕ) → none ≤ joint due waiting timer
  joint_none d w timer = omega (arith, joint_waiting timer (omega (arith, d timer)), w timer)

  -- a lower bound of both rows is one of the joint row, and the reverse
  pub joint_lower : (key timer : ℕ) → key ≤ key_at due timer → key ≤ key_at waiting timer → key ≤ joint due waiting timer
  joint_lower key timer d w = elim (cases_lt (key_at due timer) none) [
    | inl set_ ↦ omega (arith, joint_due timer set_)
    | inr unset ↦ omega (arith, joint_waiting timer unset)
  ]

  pub waiting_is_joint : ShareNone due waiting → (timer : ℕ) → key_at waiting timer < none → joint due waiting timer ≡ key_at waiting timer
  waiting_is_joint apart timer h = elim (cases_lt (key_at due timer) none) [
    | inl set_ ↦ absurd (omega (arith, apart timer set_))
    | inr unset ↦ joint_waiting timer unset
  ]

pub stamped_more : (keys : ℕ → ℕ) (number next : ℕ) → AreStamped keys number next → AreStamped keys (number + 1) next
stamped_more keys number next stamped = record {
  are_made = λ timer h. omega (arith, stamped.are_made timer h);
  below = stamped.below;
  apart = stamped.apart;
}

pub stamped_none : (keys : ℕ → ℕ) → ((timer : ℕ) → none ≤ keys timer) → AreStamped keys 0 0
stamped_none keys unset = record {
  are_made = λ timer h. absurd (omega (arith, unset timer));
  below = λ timer h. absurd (omega (arith, unset timer));
  apart = λ a b ha hb e. absurd (omega (arith, unset a));
}

-- the rows without a timer
module _ (due waiting : List ℕ) (timer : ℕ) (in_due : timer < length due) (in_waiting : timer < length waiting) where
  pub due_off : key_at (set due timer none) timer ≡ none
  due_off = get_or-set_same due timer none none in_due

  pub due_others : (k : ℕ) → (k ≡ timer → ⊥) → key_at (set due timer none) k ≡ key_at due k
  due_others k ne = get_or-set_other due timer k none none ne

  pub joint_off : none ≤ joint (set due timer none) (set waiting timer none) timer
  joint_off = omega (arith, joint_waiting (set due timer none) (set waiting timer none) timer (omega (arith, due_off)), get_or-set_same waiting timer none none in_waiting)

  pub joint_others : (key k : ℕ) → (k ≡ timer → ⊥) → joint (set due timer none) (set waiting timer key) k ≡ joint due waiting k
  joint_others key k ne =
      let d = due_others k ne in
      let w : key_at (set waiting timer key) k ≡ key_at waiting k = get_or-set_other waiting timer k key none ne in
      elim (cases_lt (key_at due k) none) [
        | inl set_ ↦ joint_due (set due timer none) (set waiting timer key) k (omega (arith, d)) ∙ d ∙ sym (joint_due due waiting k set_)
        | inr unset ↦ joint_waiting (set due timer none) (set waiting timer key) k (omega (arith, d)) ∙ w ∙ sym (joint_waiting due waiting k unset)
      ]

  pub joint_put : (key : ℕ) → joint (set due timer none) (set waiting timer key) timer ≡ key
  joint_put key = joint_waiting (set due timer none) (set waiting timer key) timer (omega (arith, due_off)) ∙ get_or-set_same waiting timer key none in_waiting

  pub apart_put : (key : ℕ) → ShareNone due waiting → ShareNone (set due timer none) (set waiting timer key)
  apart_put key apart = λ k h. elim (cases_eq k timer) [
    | inl e ↦ absurd (omega (arith, due_off, ap (key_at (set due timer none)) e))
    | inr ne ↦
        let w : key_at (set waiting timer key) k ≡ key_at waiting k = get_or-set_other waiting timer k key none ne in
        omega (arith, w, apart k (omega (arith, due_others k ne)))
  ]

-- keys of which some are gone
pub stamped_fewer : (keys keys' : ℕ → ℕ) (number next : ℕ) → AreStamped keys number next → ((k : ℕ) → keys' k < none → keys' k ≡ keys k) → AreStamped keys' number next
stamped_fewer keys keys' number next stamped stays = record {
  are_made = λ k h. stamped.are_made k (omega (arith, stays k h));
  below = λ k h. let e = ap (λ x. x % stamps) (stays k h) in omega (arith, e, stamped.below k (omega (arith, stays k h)));
  apart = λ a b ha hb e. stamped.apart a b (omega (arith, stays a ha)) (omega (arith, stays b hb)) (sym (ap (λ x. x % stamps) (stays a ha)) ∙ e ∙ ap (λ x. x % stamps) (stays b hb));
}

-- keys with one more, of the next stamp
pub stamped_put : (keys keys' : ℕ → ℕ) (number next timer expiry : ℕ) → AreStamped keys number next → timer < number → next < stamps → keys' timer ≡ expiry * stamps + next
    → ((k : ℕ) → (k ≡ timer → ⊥) → keys' k ≡ keys k) → AreStamped keys' number (next + 1)
stamped_put keys keys' number next timer expiry stamped low next_low here others =
    let mine : (k : ℕ) → k ≡ timer → keys' k % stamps ≡ next = λ k e. let is = ap keys' e ∙ here in omega (arith, is) in
    let same : (k : ℕ) → (k ≡ timer → ⊥) → keys' k % stamps ≡ keys k % stamps = λ k ne. ap (λ x. x % stamps) (others k ne) in
    let less : (k : ℕ) → (k ≡ timer → ⊥) → keys' k < none → keys' k % stamps < next = λ k ne h. omega (arith, same k ne, stamped.below k (omega (arith, others k ne))) in
    record {
      are_made = λ k h. elim (cases_eq k timer) [
        | inl e ↦ omega (arith, e)
        | inr ne ↦ stamped.are_made k (omega (arith, others k ne))
      ];
      below = λ k h. elim (cases_eq k timer) [
        | inl e ↦ omega (arith, mine k e)
        | inr ne ↦ omega (arith, less k ne h)
      ];
      apart = λ a b ha hb e. elim (cases_eq a timer) [
        | inl ea ↦ elim (cases_eq b timer) [
          | inl eb ↦ ea ∙ sym eb
          | inr nb ↦ absurd (omega (arith, e, mine a ea, less b nb hb))
        ]
        | inr na ↦ elim (cases_eq b timer) [
          | inl eb ↦ absurd (omega (arith, e, mine b eb, less a na ha))
          | inr nb ↦ stamped.apart a b (omega (arith, others a na)) (omega (arith, others b nb)) (sym (same a na) ∙ e ∙ same b nb)
        ]
      ];
    }

pub unmade : (keys : ℕ → ℕ) (number next : ℕ) → AreStamped keys number next → (timer : ℕ) → number ≤ timer → none ≤ keys timer
unmade keys number next stamped timer past = elim (cases_lt (keys timer) none) [
  | inl h ↦ absurd (omega (arith, stamped.are_made timer h))
  | inr unset ↦ unset
]

-- a bound of the keys of all places is one of what is read past them
pub lower_all : (keys : List ℕ) (key : ℕ) → key ≤ none → ((k : ℕ) → k < length keys → key ≤ key_at keys k) → (k : ℕ) → key ≤ key_at keys k
lower_all keys key low lower k = elim (cases_lt k (length keys)) [
  | inl within ↦ lower k within
  | inr past ↦ omega (arith, get_or_past keys k none past)
]
