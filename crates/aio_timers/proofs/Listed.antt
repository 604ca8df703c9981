-- The list of the timers that have keys: which timers are in it, and their order.
use Rattle.std.proofs.Common.{◌≡◌, ℕ, zero, suc, ◌/◌, ◌<◌, true, ◌||◌, eqb, ltb, List, [], ◌∷◌, length, get_or, refl, sym, ◌∙◌, ap, subst, inl, inr, arith}
use Rattle.std.proofs.lemmas.Bool.{false≢true, cases_Bool, cases_lt, cases_eq, eq-eqb, eqb-true, lt-ltb, le-ltb, ltb-true, ltb-false, or_left, or_right, or_cases, false_from_ne_true}
use Rattle.std.proofs.lemmas.List.{length_push, get_or_push, get_or_append_left}
use Rattle.aio_model.specs.declared.timers.calls.TimerCall.{TimerCall}
use Rattle.aio_model.specs.Timers.Calls.{StandsBefore}
use Rattle.aio_chain.specs.LinkList.{contains}
use Rattle.aio_chain.proofs.Contained.{or_swap}
use Rattle.aio_timers.specs.Keys.{none, stamps}
use Rattle.aio_timers.specs.Order.{put_in_order, in_order, expiries_of}
use Rattle.aio_timers.specs.StandsFor.{InOrder}

module _ (keys : ℕ → ℕ) where
  contains-put : (timer k : ℕ) (xs : List ℕ) → contains k (put_in_order keys timer xs) ≡ (eqb k timer || contains k xs)
  contains-put timer k [] = refl
  contains-put timer k (x ∷ xs) = elim (cases_Bool (ltb (keys timer) (keys x))) [
    | inl t ↦ rw t refl
    | inr f ↦ rw f (ap (λ b. eqb k x || b) (contains-put timer k xs) ∙ or_swap (eqb k x) (eqb k timer) (contains k xs))
  ]

  -- a timer of the list
  pub record IsListed (n timer : ℕ) : Type 0 where
    pub low : timer < n
    pub has_key : keys timer < none

  pub listed : (n k : ℕ) → contains k (in_order keys n) ≡ true → IsListed n k
  listed zero k h = absurd (false≢true h)
  listed (suc n) k h = elim (cases_Bool (ltb (keys n) none)) [
    | inl t ↦
        let put : contains k (put_in_order keys n (in_order keys n)) ≡ true = rw t at h in
        elim (or_cases (eqb k n) (contains k (in_order keys n)) (sym (contains-put n k (in_order keys n)) ∙ put)) [
          | inl e ↦
              let same = eqb-true k n e in
              record { low = omega arith; has_key = subst (λ x. keys x < none) (sym same) (ltb-true (keys n) none t) }
          | inr rest ↦ let before = listed n k rest in record { low = omega (arith, before.low); has_key = before.has_key }
        ]
    | inr f ↦
        let rest : contains k (in_order keys n) ≡ true = rw f at h in
        let before = listed n k rest in record { low = omega (arith, before.low); has_key = before.has_key }
  ]

  pub in_list : (n k : ℕ) → k < n → keys k < none → contains k (in_order keys n) ≡ true
  in_list zero k low has_key = absurd (omega arith)
  in_list (suc n) k low has_key = elim (cases_eq k n) [
    | inl e ↦
        let t : ltb (keys n) none ≡ true = ap (λ x. ltb (keys x) none) (sym e) ∙ lt-ltb (keys k) none has_key in
        rw t (contains-put n k (in_order keys n) ∙ or_left _ _ (eq-eqb k n e))
    | inr ne ↦
        let rest = in_list n k (omega arith) has_key in
        elim (cases_Bool (ltb (keys n) none)) [
          | inl t ↦ rw t (contains-put n k (in_order keys n) ∙ or_right (eqb k n) _ rest)
          | inr f ↦ rw f rest
        ]
  ]

  pub contains_is : (n k : ℕ) → (keys k < none → k < n) → contains k (in_order keys n) ≡ ltb (keys k) none
  contains_is n k low = elim (cases_lt (keys k) none) [
    | inl set_ ↦ in_list n k (low set_) set_ ∙ sym (lt-ltb (keys k) none set_)
    | inr unset ↦
        false_from_ne_true (contains k (in_order keys n)) (λ h. absurd (omega (arith, (listed n k h).has_key)))
        ∙ sym (le-ltb (keys k) none unset)
  ]

  -- each timer has a lower key than all behind it
  abbrev pub IsSorted : List ℕ → Type 0
  IsSorted [] = Unit {0}
  IsSorted (x ∷ xs) = ((y : ℕ) → contains y xs ≡ true → keys x < keys y) × IsSorted xs

  put_sorted : (timer : ℕ) (xs : List ℕ) → IsSorted xs → ((y : ℕ) → contains y xs ≡ true → keys y ≡ keys timer → ⊥) → IsSorted (put_in_order keys timer xs)
  put_sorted timer [] sorted apart = (λ y h. absurd (false≢true h), tt)
  put_sorted timer (x ∷ xs) sorted apart =
      let x_in : contains x (x ∷ xs) ≡ true = or_left _ _ (eq-eqb x x refl) in
      elim (cases_Bool (ltb (keys timer) (keys x))) [
        | inl t ↦
            let less = ltb-true (keys timer) (keys x) t in
            let first : (y : ℕ) → contains y (x ∷ xs) ≡ true → keys timer < keys y = λ y h. elim (or_cases (eqb y x) (contains y xs) h) [
              | inl e ↦ subst (λ k. keys timer < keys k) (sym (eqb-true y x e)) less
              | inr r ↦ omega (arith, sorted.0 y r)
            ] in
            let all : IsSorted (timer ∷ x ∷ xs) = (first, sorted) in
            rw t all
        | inr f ↦
            let no_less = ltb-false (keys timer) (keys x) f in
            let less : keys x < keys timer = elim (cases_eq (keys x) (keys timer)) [
              | inl e ↦ absurd (apart x x_in e)
              | inr ne ↦ omega arith
            ] in
            let rest = put_sorted timer xs sorted.1 (λ y h. apart y (or_right (eqb y x) _ h)) in
            let first : (y : ℕ) → contains y (put_in_order keys timer xs) ≡ true → keys x < keys y = λ y h. elim (or_cases (eqb y timer) (contains y xs) (sym (contains-put timer y xs) ∙ h)) [
              | inl e ↦ subst (λ k. keys x < keys k) (sym (eqb-true y timer e)) less
              | inr r ↦ sorted.0 y r
            ] in
            let all : IsSorted (x ∷ put_in_order keys timer xs) = (first, rest) in
            rw f all
      ]

  pub sorted_in_order : ((a b : ℕ) → keys a < none → keys b < none → keys a ≡ keys b → a ≡ b) → (n : ℕ) → IsSorted (in_order keys n)
  sorted_in_order apart zero = tt
  sorted_in_order apart (suc n) = elim (cases_Bool (ltb (keys n) none)) [
    | inl t ↦ rw t (put_sorted n (in_order keys n) (sorted_in_order apart n) (λ y h e. let is = listed n y h in absurd (omega (arith, is.low, apart y n is.has_key (ltb-true (keys n) none t) e))))
    | inr f ↦ rw f (sorted_in_order apart n)
  ]

  module _ (calls : List TimerCall) where
    -- what the order of a list says of two of its timers
    pub before_from : (xs : List ℕ) → InOrder calls xs → IsSorted xs → (a b : ℕ) → contains a xs ≡ true → contains b xs ≡ true → keys a < keys b → StandsBefore calls a b
    before_from [] o sorted a b ha hb less = absurd (false≢true ha)
    before_from (x ∷ xs) o sorted a b ha hb less = elim (or_cases (eqb a x) (contains a xs) ha) [
      | inl ea ↦ elim (or_cases (eqb b x) (contains b xs) hb) [
        | inl eb ↦ absurd (omega (arith, ap keys (eqb-true a x ea), ap keys (eqb-true b x eb)))
        | inr rb ↦ subst (λ k. StandsBefore calls k b) (sym (eqb-true a x ea)) (o.0 b rb)
      ]
      | inr ra ↦ elim (or_cases (eqb b x) (contains b xs) hb) [
        | inl eb ↦ absurd (omega (arith, ap keys (eqb-true b x eb), sorted.0 a ra))
        | inr rb ↦ before_from xs o.1 sorted.1 a b ra rb less
      ]
    ]

    pub in_order_from : (xs : List ℕ) → IsSorted xs → ((a b : ℕ) → contains a xs ≡ true → contains b xs ≡ true → keys a < keys b → StandsBefore calls a b) → InOrder calls xs
    in_order_from [] sorted before = tt
    in_order_from (x ∷ xs) sorted before = (
      λ other h. before x other (or_left _ _ (eq-eqb x x refl)) (or_right (eqb other x) _ h) (sorted.0 other h),
      in_order_from xs sorted.1 (λ a b ha hb. before a b (or_right (eqb a x) _ ha) (or_right (eqb b x) _ hb)),
    )

  length-expiries : (n : ℕ) → length (expiries_of keys n) ≡ n
  length-expiries zero = refl
  length-expiries (suc n) = omega (arith, length_push (expiries_of keys n) (keys n / stamps), length-expiries n)

  pub expiry_at : (n k : ℕ) → k < n → get_or (expiries_of keys n) k 0 ≡ keys k / stamps
  expiry_at zero k low = absurd (omega arith)
  expiry_at (suc n) k low = elim (cases_eq k n) [
    | inl e ↦ get_or_push (expiries_of keys n) (keys n / stamps) 0 k (length-expiries n ∙ sym e) ∙ ap (λ x. keys x / stamps) (sym e)
    | inr ne ↦ get_or_append_left (expiries_of keys n) (keys n / stamps ∷ []) 0 k (omega (arith, length-expiries n)) ∙ expiry_at n k (omega arith)
  ]
