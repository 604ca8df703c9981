-- Ranks of stamps: how many stamps are below one.
use Rattle.std.proofs.Common.{◌≡◌, ℕ, zero, suc, ◌+◌, ◌*◌, ◌/◌, ◌%◌, ◌<◌, ◌≤◌, true, false, cond, ltb, List, [], ◌∷◌, length, get_or, count_by, refl, sym, ◌∙◌, ap, inl, inr, arith}
use Rattle.std.proofs.lemmas.Bool.{cases_Bool, cases_lt, lt-ltb, le-ltb, ltb-true}
use Rattle.std.proofs.lemmas.List.{get_or_past}
use Rattle.std.proofs.lemmas.List.Sums.{sum_by-cons, count_by-le-length}
use Rattle.aio_timers.specs.Keys.{none, stamps, key_at, joint, AreStamped}
use Rattle.aio_timers.specs.Restamping.{is_older, rank_in, restamped, Restamps}

one_grows : (stamp later key : ℕ) → stamp ≤ later → cond {A = ℕ} (is_older stamp key) 1 0 ≤ cond {A = ℕ} (is_older later key) 1 0
one_grows stamp later key grows = elim (cases_lt (key % stamps) stamp) [
  | inl less ↦
      let a = lt-ltb (key % stamps) stamp less in
      let b = lt-ltb (key % stamps) later (omega arith) in
      rw (a, b) (omega arith)
  | inr more ↦ let a = le-ltb (key % stamps) stamp more in rw a (omega arith)
]

pub count_grows : (stamp later : ℕ) → stamp ≤ later → (keys : List ℕ) → count_by (is_older stamp) keys ≤ count_by (is_older later) keys
count_grows stamp later grows [] = omega arith
count_grows stamp later grows (key ∷ keys) =
    omega (arith, one_grows stamp later key grows, count_grows stamp later grows keys, sum_by-cons (λ k. cond {A = ℕ} (is_older stamp k) 1 0) key keys, sum_by-cons (λ k. cond {A = ℕ} (is_older later k) 1 0) key keys)

-- one stamp more is counted
pub count_more : (stamp later : ℕ) → stamp < later → (keys : List ℕ) (place : ℕ) → place < length keys → key_at keys place % stamps ≡ stamp
    → count_by (is_older stamp) keys + 1 ≤ count_by (is_older later) keys
count_more stamp later grows [] place within is = absurd (omega arith)
count_more stamp later grows (key ∷ keys) zero within is =
    let a : cond {A = ℕ} (is_older stamp key) 1 0 ≡ 0 = let f = le-ltb (key % stamps) stamp (omega (arith, is)) in rw f refl in
    let b : cond {A = ℕ} (is_older later key) 1 0 ≡ 1 = let t = lt-ltb (key % stamps) later (omega (arith, is)) in rw t refl in
    omega (arith, a, b, count_grows stamp later (omega arith) keys, sum_by-cons (λ k. cond {A = ℕ} (is_older stamp k) 1 0) key keys, sum_by-cons (λ k. cond {A = ℕ} (is_older later k) 1 0) key keys)
count_more stamp later grows (key ∷ keys) (suc place) within is =
    omega (arith, one_grows stamp later key (omega arith), count_more stamp later grows keys place (omega arith) is, sum_by-cons (λ k. cond {A = ℕ} (is_older stamp k) 1 0) key keys, sum_by-cons (λ k. cond {A = ℕ} (is_older later k) 1 0) key keys)

-- a key that is one has a place in its row
pub within_row : (keys : List ℕ) (place : ℕ) → key_at keys place < none → place < length keys
within_row keys place h = elim (cases_lt place (length keys)) [
  | inl within ↦ within
  | inr past ↦ absurd (omega (arith, get_or_past keys place none past))
]

module _ (due waiting due' waiting' ranks : List ℕ) (short : length due + length waiting ≤ 8589934592)
    (ranked : (timer : ℕ) → timer < length ranks → get_or ranks timer 0 ≡ rank_in due waiting (joint due waiting timer % stamps))
    (due_long : length ranks ≡ length due) (waiting_long : length ranks ≡ length waiting)
    (due_is : (timer : ℕ) → key_at due' timer ≡ restamped (key_at due timer) (get_or ranks timer 0))
    (waiting_is : (timer : ℕ) → key_at waiting' timer ≡ restamped (key_at waiting timer) (get_or ranks timer 0)) where
  rank_low : (stamp : ℕ) → rank_in due waiting stamp ≤ 8589934592
  rank_low stamp = omega (arith, count_by-le-length (is_older stamp) due, count_by-le-length (is_older stamp) waiting)

  -- what becomes of a key
  pub record Restamped (key key' rank : ℕ) : Type 0 where
    pub same : ltb key' none ≡ ltb key none
    pub is : key < none → key' ≡ key / stamps * stamps + rank

  becomes : (key key' rank : ℕ) → rank ≤ 8589934592 → key' ≡ restamped key rank → Restamped key key' rank
  becomes key key' rank low e = elim (cases_lt key none) [
    | inl set ↦
        let t = lt-ltb key none set in
        let is : key' ≡ key / stamps * stamps + rank = rw t at e in
        record { same = lt-ltb key' none (omega (arith, is)) ∙ sym t; is = λ h. is }
    | inr unset ↦
        let f = le-ltb key none unset in
        let is : key' ≡ key = rw f at e in
        record { same = ap (λ k. ltb k none) is; is = λ h. absurd (omega arith) }
  ]

  past_rank : (timer : ℕ) → get_or ranks timer 0 ≤ 8589934592
  past_rank timer = elim (cases_lt timer (length ranks)) [
    | inl within ↦ omega (arith, ranked timer within, rank_low (joint due waiting timer % stamps))
    | inr past ↦ omega (arith, get_or_past ranks timer 0 past)
  ]

  due_becomes : (timer : ℕ) → Restamped (key_at due timer) (key_at due' timer) (get_or ranks timer 0)
  due_becomes timer = becomes _ _ _ (past_rank timer) (due_is timer)

  waiting_becomes : (timer : ℕ) → Restamped (key_at waiting timer) (key_at waiting' timer) (get_or ranks timer 0)
  waiting_becomes timer = becomes _ _ _ (past_rank timer) (waiting_is timer)

  joint_becomes : (timer : ℕ) → Restamped (joint due waiting timer) (joint due' waiting' timer) (get_or ranks timer 0)
  joint_becomes timer = elim (cases_Bool (ltb (key_at due timer) none)) [
    | inl t ↦ let t' : ltb (key_at due' timer) none ≡ true = (due_becomes timer).same ∙ t in rw (t, t') (due_becomes timer)
    | inr f ↦ let f' : ltb (key_at due' timer) none ≡ false = (due_becomes timer).same ∙ f in rw (f, f') (waiting_becomes timer)
  ]

  -- where the key of a timer stands
  joint_within : (timer : ℕ) → joint due waiting timer < none → timer < length ranks
  joint_within timer = elim (cases_Bool (ltb (key_at due timer) none)) as (λ _. joint due waiting timer < none → timer < length ranks) [
    | inl t ↦ λ h. omega (arith, within_row due timer (ltb-true _ _ t))
    | inr f ↦ λ h. let w : key_at waiting timer < none = rw f at h in omega (arith, within_row waiting timer w)
  ]

  rank_grows : (first second : ℕ) → first ≤ second → rank_in due waiting first ≤ rank_in due waiting second
  rank_grows first second grows = omega (arith, count_grows first second grows due, count_grows first second grows waiting)

  rank_more : (timer later : ℕ) → joint due waiting timer < none → joint due waiting timer % stamps < later → rank_in due waiting (joint due waiting timer % stamps) < rank_in due waiting later
  rank_more timer later set less =
      let stamp = joint due waiting timer % stamps in
      elim (cases_Bool (ltb (key_at due timer) none)) [
        | inl t ↦
            let is : key_at due timer ≡ joint due waiting timer = rw t refl in
            let more = count_more stamp later less due timer (within_row due timer (ltb-true _ _ t)) (ap (λ k. k % stamps) is) in
            omega (arith, more, count_grows stamp later (omega arith) waiting)
        | inr f ↦
            let is : key_at waiting timer ≡ joint due waiting timer = rw f refl in
            let more = count_more stamp later less waiting timer (within_row waiting timer (omega (arith, is))) (ap (λ k. k % stamps) is) in
            omega (arith, more, count_grows stamp later (omega arith) due)
      ]

  pub restamps : length due' ≡ length due → length waiting' ≡ length waiting → Restamps due waiting due' waiting'
  restamps due_sized waiting_sized = record {
    due_sized = due_sized;
    waiting_sized = waiting_sized;
    due_keys = λ timer. (due_becomes timer).same;
    waiting_keys = λ timer. (waiting_becomes timer).same;
    expiries = λ timer h. omega (arith, (joint_becomes timer).is h, past_rank timer);
    order = λ a b ha hb less. elim (cases_lt (joint due waiting a) (joint due waiting b)) [
      | inl is ↦ is
      | inr no_less ↦ absurd (elim (cases_lt (joint due waiting b / stamps) (joint due waiting a / stamps)) [
        | inl earlier ↦ omega (arith, (joint_becomes a).is ha, (joint_becomes b).is hb, past_rank a, past_rank b)
        | inr same ↦
            let grows = rank_grows (joint due waiting b % stamps) (joint due waiting a % stamps) (omega arith) in
            omega (arith, (joint_becomes a).is ha, (joint_becomes b).is hb, ranked a (joint_within a ha), ranked b (joint_within b hb), grows)
      ])
    ];
  }

  was_set : (timer : ℕ) → joint due' waiting' timer < none → joint due waiting timer < none
  was_set timer h = ltb-true _ _ (sym (joint_becomes timer).same ∙ lt-ltb _ _ h)

  stamp_is : (timer : ℕ) → joint due' waiting' timer < none → joint due' waiting' timer % stamps ≡ rank_in due waiting (joint due waiting timer % stamps)
  stamp_is timer h =
      let set = was_set timer h in
      omega (arith, (joint_becomes timer).is set, ranked timer (joint_within timer set), past_rank timer)

  pub stamped_anew : (made next : ℕ) → AreStamped (joint due waiting) made next → AreStamped (joint due' waiting') made 17179869184
  stamped_anew made next stamped = record {
    are_made = λ timer h. stamped.are_made timer (was_set timer h);
    below = λ timer h. omega (arith, stamp_is timer h, rank_low (joint due waiting timer % stamps));
    apart = λ a b ha hb e.
        let sa = was_set a ha in
        let sb = was_set b hb in
        let same = stamp_is a ha in
        let same' = stamp_is b hb in
        elim (cases_lt (joint due waiting a % stamps) (joint due waiting b % stamps)) [
          | inl less ↦ absurd (omega (arith, e, same, same', rank_more a (joint due waiting b % stamps) sa less))
          | inr no_less ↦ elim (cases_lt (joint due waiting b % stamps) (joint due waiting a % stamps)) [
            | inl more ↦ absurd (omega (arith, e, same, same', rank_more b (joint due waiting a % stamps) sb more))
            | inr no_more ↦ stamped.apart a b sa sb (omega arith)
          ]
        ];
  }
