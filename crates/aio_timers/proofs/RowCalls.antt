-- What each call of a set of timers leaves of its rows of keys, and of what they stand for.
use Rattle.std.proofs.Common.{◌≡◌, ℕ, ℤ, ◌+◌, ◌*◌, ◌/◌, ◌<◌, ◌≤◌, true, false, ◌&&◌, ltb, leb, List, ◌∷◌, length, set, refl, sym, ◌∙◌, ap, inl, inr, arith, get_or-set_same, get_or-set_other}
use Rattle.std.proofs.lemmas.Bool.{cases_Bool, cases_lt, lt-ltb, le-ltb, ltb-true, ltb-false, le-leb, lt-leb}
use Rattle.aio_model.specs.declared.timers.calls.TimerCall.{TimerCall}
use Rattle.aio_model.specs.declared.timers.calls.TimerCall.TheVariants.{Arm, Disarm, RunBegin, Give}
use Rattle.aio_model.specs.Timers.Calls.{from_zero}
use Rattle.aio_timers.specs.Keys.{none, stamps, key_at, joint, ShareNone, AreStamped}
use Rattle.aio_timers.specs.Moving.{Moves}
use Rattle.aio_timers.specs.Restamping.{Restamps}
use Rattle.aio_timers.specs.Kept.{list_of}
use Rattle.aio_timers.specs.StandsFor.{StandsFor}
use Rattle.aio_timers.proofs.Standing.{Tell, stands_from, tell_same, tell_begun, tell_armed, tell_disarmed, tell_given}
use Rattle.aio_timers.proofs.Rows.{joint_due, joint_waiting, of_rows, due_off, joint_others, joint_put, apart_put, stamped_fewer, stamped_put}

-- what rows stand for
abbrev pub Stand : List ℕ → List ℕ → ℕ → ℕ → List TimerCall → Type 0
Stand due waiting room number calls = StandsFor (list_of (joint due waiting) (key_at due) room number) calls

-- rows whose stamps were given anew
module _ (due waiting due' waiting' : List ℕ) (restamps : Restamps due waiting due' waiting') where
  pub apart_anew : ShareNone due waiting → ShareNone due' waiting'
  apart_anew apart = λ k h.
      let was = ltb-true (key_at due k) none (sym (restamps.due_keys k) ∙ lt-ltb (key_at due' k) none h) in
      ltb-false (key_at waiting' k) none (restamps.waiting_keys k ∙ le-ltb (key_at waiting k) none (apart k was))

  joint_anew : (k : ℕ) → ltb (joint due' waiting' k) none ≡ ltb (joint due waiting k) none
  joint_anew k = elim (cases_Bool (ltb (key_at due k) none)) [
    | inl t ↦ let t' : ltb (key_at due' k) none ≡ true = restamps.due_keys k ∙ t in rw (t, t') (restamps.due_keys k)
    | inr f ↦ let f' : ltb (key_at due' k) none ≡ false = restamps.due_keys k ∙ f in rw (f, f') (restamps.waiting_keys k)
  ]

  pub tell_anew : (number : ℕ) (calls : List TimerCall) → Tell (joint due waiting) (key_at due) number calls → Tell (joint due' waiting') (key_at due') number calls
  tell_anew number calls tell =
      tell_same (joint due waiting) (key_at due) (joint due' waiting') (key_at due') number calls tell joint_anew restamps.due_keys restamps.expiries restamps.order

-- rows in which a timer's key is another, and not in the due row
module _ (due waiting due' waiting' : List ℕ) (timer key : ℕ) (in_due : timer < length due) (in_waiting : timer < length waiting)
    (due_is : due' ≡ set due timer none) (waiting_is : waiting' ≡ set waiting timer key) where
  put_is : (k : ℕ) → joint due' waiting' k ≡ joint (set due timer none) (set waiting timer key) k
  put_is k = ap (λ d. joint d waiting' k) due_is ∙ ap (λ w. joint (set due timer none) w k) waiting_is

  pub put_here : joint due' waiting' timer ≡ key
  put_here = put_is timer ∙ joint_put due waiting timer in_due in_waiting key

  pub put_others : (k : ℕ) → (k ≡ timer → ⊥) → joint due' waiting' k ≡ joint due waiting k
  put_others k ne = put_is k ∙ joint_others due waiting timer in_due in_waiting key k ne

  put_due : key_at due' timer ≡ none
  put_due = ap (λ d. key_at d timer) due_is ∙ due_off due waiting timer in_due in_waiting

  put_due_others : (k : ℕ) → (k ≡ timer → ⊥) → key_at due' k ≡ key_at due k
  put_due_others k ne = ap (λ d. key_at d k) due_is ∙ get_or-set_other due timer k none none ne

  pub put_apart : ShareNone due waiting → ShareNone due' waiting'
  put_apart apart = λ k h.
      omega (arith, ap (λ w. key_at w k) waiting_is, apart_put due waiting timer in_due in_waiting key apart k (omega (arith, ap (λ d. key_at d k) due_is)))

  pub stands_armed : (room number next : ℕ) (expire : ℤ) (calls : List TimerCall) → Tell (joint due waiting) (key_at due) number calls → AreStamped (joint due waiting) number next
      → number ≤ room → timer < number → next < stamps → key ≡ from_zero expire * stamps + next → from_zero expire < 9223372036854775808 → Stand due' waiting' room number (Arm timer expire ∷ calls)
  stands_armed room number next expire calls tell stamped fits low next_low is early =
      let here = put_here ∙ is in
      let told = tell_armed (joint due waiting) (key_at due) (joint due' waiting') (key_at due') number calls tell timer put_others (omega (arith, put_due)) put_due_others expire next stamped here next_low early in
      stands_from (joint due' waiting') (key_at due') room number (next + 1) (stamped_put (joint due waiting) (joint due' waiting') number next timer (from_zero expire) stamped low next_low here put_others) fits (of_rows due' waiting') (Arm timer expire ∷ calls) told

  module _ (gone : key ≡ none) (number next : ℕ) (stamped : AreStamped (joint due waiting) number next) where
    stays : (k : ℕ) → joint due' waiting' k < none → joint due' waiting' k ≡ joint due waiting k
    stays k h = put_others k (λ e. omega (arith, ap (joint due' waiting') e, put_here, gone))

    pub off_stamped : AreStamped (joint due' waiting') number next
    off_stamped = stamped_fewer (joint due waiting) (joint due' waiting') number next stamped stays

    pub stands_disarmed : (room : ℕ) (calls : List TimerCall) → Tell (joint due waiting) (key_at due) number calls → number ≤ room → Stand due' waiting' room number (Disarm timer ∷ calls)
    stands_disarmed room calls tell fits =
        stands_from (joint due' waiting') (key_at due') room number next off_stamped fits (of_rows due' waiting') (Disarm timer ∷ calls) (tell_disarmed (joint due waiting) (key_at due) (joint due' waiting') (key_at due') number calls tell timer put_others (omega (arith, put_due)) put_due_others (omega (arith, put_here)))

-- rows of which the run gave a timer
module _ (due waiting due' : List ℕ) (timer : ℕ) (apart : ShareNone due waiting) (in_due : timer < length due) (has_key : key_at due timer < none)
    (due_is : due' ≡ set due timer none) (number next : ℕ) (stamped : AreStamped (joint due waiting) number next) where
  due_gone : key_at due' timer ≡ none
  due_gone = ap (λ d. key_at d timer) due_is ∙ get_or-set_same due timer none none in_due

  given_here : none ≤ joint due' waiting timer
  given_here =
      omega (arith, joint_waiting due' waiting timer (omega (arith, due_gone)), apart timer has_key)

  given_due_others : (k : ℕ) → (k ≡ timer → ⊥) → key_at due' k ≡ key_at due k
  given_due_others k ne = ap (λ d. key_at d k) due_is ∙ get_or-set_other due timer k none none ne

  given_others : (k : ℕ) → (k ≡ timer → ⊥) → joint due' waiting k ≡ joint due waiting k
  given_others k ne =
      let d = given_due_others k ne in
      elim (cases_lt (key_at due k) none) [
        | inl set_ ↦ joint_due due' waiting k (omega (arith, d)) ∙ d ∙ sym (joint_due due waiting k set_)
        | inr unset ↦ joint_waiting due' waiting k (omega (arith, d)) ∙ sym (joint_waiting due waiting k unset)
      ]

  pub stands_given : (room : ℕ) (calls : List TimerCall) → Tell (joint due waiting) (key_at due) number calls → number ≤ room → Stand due' waiting room number (Give timer ∷ calls)
  stands_given room calls tell fits =
      let fewer = stamped_fewer (joint due waiting) (joint due' waiting) number next stamped (λ k h. given_others k (λ e. omega (arith, ap (joint due' waiting) e, given_here))) in
      stands_from (joint due' waiting) (key_at due') room number next fewer fits (of_rows due' waiting) (Give timer ∷ calls) (tell_given (joint due waiting) (key_at due) (joint due' waiting) (key_at due') number calls tell timer given_others (omega (arith, due_gone)) given_due_others given_here)

-- rows of which all went over to wait, and then those that have expired to the due ones
module _ (due waiting due1 waiting1 due2 waiting2 : List ℕ) (now last : ℕ) (last_is : last ≡ now * stamps + 18446744073709551615)
    (back : Moves due waiting due1 waiting1 none) (on : Moves waiting1 due1 waiting2 due2 last) where
  -- what a timer's keys are
  record Begun (k : ℕ) : Type 0 where
    pub same : joint due2 waiting2 k ≡ joint due waiting k
    pub marked : ltb (key_at due2 k) none ≡ (ltb (joint due waiting k) none && leb (joint due waiting k / stamps) now)

  record Back (k : ℕ) : Type 0 where
    pub none_due : none ≤ key_at due1 k
    pub waits : key_at waiting1 k ≡ joint due waiting k

  went_back : (k : ℕ) → Back k
  went_back k = elim (cases_lt (key_at due k) none) [
    | inl set_ ↦
        let is = (back.each k).taken set_ (omega arith) in
        record { none_due = omega (arith, is.0); waits = is.1 ∙ sym (joint_due due waiting k set_) }
    | inr unset ↦
        let is = (back.each k).left (λ h. absurd (omega arith)) in
        record { none_due = omega (arith, is.0); waits = is.1 ∙ sym (joint_waiting due waiting k unset) }
  ]

  stayed : (k : ℕ) → (key_at waiting1 k < none → last < key_at waiting1 k) → Begun k
  stayed k later =
      let b = went_back k in
      let is = (on.each k).left later in
      let unset : none ≤ key_at due2 k = omega (arith, is.1, b.none_due) in
      record {
        same = joint_waiting due2 waiting2 k unset ∙ is.0 ∙ b.waits;
        marked = le-ltb (key_at due2 k) none unset ∙ sym (elim (cases_lt (joint due waiting k) none) [
          | inl h ↦
              let t = lt-ltb (joint due waiting k) none h in
              let f = lt-leb (joint due waiting k / stamps) now (omega (arith, last_is, b.waits, later (omega (arith, b.waits)))) in
              rw (t, f) refl
          | inr h ↦ let f = le-ltb (joint due waiting k) none h in rw f refl
        ]);
      }

  begun : (k : ℕ) → Begun k
  begun k =
      let b = went_back k in
      elim (cases_lt (key_at waiting1 k) none) [
        | inl set_ ↦ elim (cases_lt last (key_at waiting1 k)) [
          | inl later ↦ stayed k (λ h. later)
          | inr up_to ↦
              let is = (on.each k).taken set_ up_to in
              let due_set : key_at due2 k < none = omega (arith, is.1) in
              let a = lt-ltb (joint due waiting k) none (omega (arith, b.waits)) in
              let e = le-leb (joint due waiting k / stamps) now (omega (arith, last_is, b.waits)) in
              record {
                same = joint_due due2 waiting2 k due_set ∙ is.1 ∙ b.waits;
                marked = lt-ltb (key_at due2 k) none due_set ∙ sym (rw (a, e) refl);
              }
        ]
        | inr unset ↦ stayed k (λ h. absurd (omega arith))
      ]

  pub stands_begun : (room number next : ℕ) (calls : List TimerCall) → Tell (joint due waiting) (key_at due) number calls → AreStamped (joint due waiting) number next → number ≤ room
      → Stand due2 waiting2 room number (RunBegin now ∷ calls)
  stands_begun room number next calls tell stamped fits =
      stands_from (joint due2 waiting2) (key_at due2) room number next (stamped_fewer (joint due waiting) (joint due2 waiting2) number next stamped (λ k h. (begun k).same)) fits (of_rows due2 waiting2) (RunBegin now ∷ calls) (tell_begun (joint due waiting) (key_at due) (joint due2 waiting2) (key_at due2) number calls tell now (λ k. (begun k).same) (λ k. (begun k).marked))
