-- What the keys of timers say of the calls, and what each call leaves of it.
use Rattle.std.proofs.Common.{◌≡◌, ℕ, ℤ, ◌+◌, ◌*◌, ◌/◌, ◌%◌, ◌<◌, ◌≤◌, true, false, ◌&&◌, cond, eqb, ltb, leb, List, [], ◌∷◌, length, refl, sym, ◌∙◌, ap, inl, inr, arith}
use Rattle.std.proofs.lemmas.Bool.{cases_Bool, cases_eq, cases_lt, eq-eqb, ne_eqb, eqb-true, eqb-false, lt-ltb, le-ltb, ltb-true}
use Rattle.aio_model.specs.declared.timers.calls.TimerCall.{TimerCall}
use Rattle.aio_model.specs.declared.timers.calls.TimerCall.TheVariants.{Add, Arm, Disarm, RunBegin, Give}
use Rattle.aio_model.specs.Timers.Calls.{made, from_zero, expiry, place, is_armed, is_marked, StandsBefore, IsFirstOfKind, IsNone, IsEarliest}
use Rattle.aio_timers.specs.Keys.{none, stamps, AreStamped}
use Rattle.aio_timers.specs.Order.{in_order}
use Rattle.aio_timers.specs.Kept.{list_of}
use Rattle.aio_timers.specs.StandsFor.{StandsFor}
use Rattle.aio_timers.proofs.SameArms.{place_among, SameArm, stands_same}
use Rattle.aio_timers.proofs.Listed.{listed, in_list, contains_is, sorted_in_order, before_from, in_order_from, expiry_at}

-- the keys are those of the timers that these calls left armed, and the due ones of those that are marked
pub record Tell (keys due : ℕ → ℕ) (number : ℕ) (calls : List TimerCall) : Type 0 where
  pub all_made : number ≡ made calls
  pub armed : (timer : ℕ) → ltb (keys timer) none ≡ is_armed timer calls
  pub expiries : (timer : ℕ) → keys timer < none → keys timer / stamps ≡ expiry timer calls
  pub marked : (timer : ℕ) → ltb (due timer) none ≡ is_marked timer calls
  pub before : (first second : ℕ) → keys first < none → keys second < none → keys first < keys second → StandsBefore calls first second

-- the keys of due timers are their keys
abbrev pub AreOf : (ℕ → ℕ) → (ℕ → ℕ) → Type 0
AreOf keys due = (timer : ℕ) → due timer < none → keys timer ≡ due timer

module _ (keys due : ℕ → ℕ) (room number next : ℕ) (stamped : AreStamped keys number next) (fits : number ≤ room) (of : AreOf keys due) (calls : List TimerCall) where
  keys_apart : (a b : ℕ) → keys a < none → keys b < none → keys a ≡ keys b → a ≡ b
  keys_apart a b ha hb e = stamped.apart a b ha hb (ap (λ k. k % stamps) e)

  due_apart : (a b : ℕ) → due a < none → due b < none → due a ≡ due b → a ≡ b
  due_apart a b ha hb e = keys_apart a b (omega (arith, of a ha)) (omega (arith, of b hb)) (of a ha ∙ e ∙ sym (of b hb))

  low : (timer : ℕ) → keys timer < none → timer < room
  low timer h = omega (arith, stamped.are_made timer h)

  due_low : (timer : ℕ) → due timer < none → timer < room
  due_low timer h = low timer (omega (arith, of timer h))

  pub tell_from : StandsFor (list_of keys due room number) calls → Tell keys due number calls
  tell_from stands = record {
    all_made = stands.all_made;
    armed = λ timer. sym (contains_is keys room timer (low timer)) ∙ stands.armed timer;
    expiries = λ timer h.
        let is : is_armed timer calls ≡ true = sym (stands.armed timer) ∙ in_list keys room timer (low timer h) h in
        sym (expiry_at keys room timer (low timer h)) ∙ stands.expiries timer is;
    marked = λ timer. sym (contains_is due room timer (due_low timer)) ∙ stands.marked timer;
    before = λ a b ha hb. before_from keys calls (in_order keys room) stands.in_order (sorted_in_order keys keys_apart room) a b (in_list keys room a (low a ha) ha) (in_list keys room b (low b hb) hb);
  }

  pub stands_from : Tell keys due number calls → StandsFor (list_of keys due room number) calls
  stands_from tell = record {
    all_made = tell.all_made;
    armed = λ timer. contains_is keys room timer (low timer) ∙ tell.armed timer;
    expiries = λ timer h.
        let set_ = ltb-true (keys timer) none (tell.armed timer ∙ h) in
        expiry_at keys room timer (low timer set_) ∙ tell.expiries timer set_;
    marked = λ timer. contains_is due room timer (due_low timer) ∙ tell.marked timer;
    in_order = in_order_from keys calls (in_order keys room) (sorted_in_order keys keys_apart room) (λ a b ha hb. tell.before a b (listed keys room a ha).has_key (listed keys room b hb).has_key);
    due_in_order =
        in_order_from due calls (in_order due room) (sorted_in_order due due_apart room) (λ a b ha hb less.
        let da = (listed due room a ha).has_key in
        let db = (listed due room b hb).has_key in
        tell.before a b (omega (arith, of a da)) (omega (arith, of b db)) (omega (arith, of a da, of b db)));
  }

  module _ (tell : Tell keys due number calls) where
    -- the timer of the least key
    pub first_armed : (timer : ℕ) → keys timer < none → ((other : ℕ) → keys timer ≤ keys other) → IsFirstOfKind is_armed calls timer
    first_armed timer h least = record {
      of_kind = sym (tell.armed timer) ∙ lt-ltb (keys timer) none h;
      before = λ other is ne.
          let set_ = ltb-true (keys other) none (tell.armed other ∙ is) in
          tell.before timer other h set_ (elim (cases_eq (keys timer) (keys other)) [
            | inl e ↦ absurd (ne (sym (keys_apart timer other h set_ e)))
            | inr differ ↦ omega (arith, least other)
          ]);
    }

    pub first_marked : (timer : ℕ) → due timer < none → ((other : ℕ) → due timer ≤ due other) → IsFirstOfKind is_marked calls timer
    first_marked timer h least = record {
      of_kind = sym (tell.marked timer) ∙ lt-ltb (due timer) none h;
      before = λ other is ne.
          let set_ = ltb-true (due other) none (tell.marked other ∙ is) in
          let less : due timer < due other = elim (cases_eq (due timer) (due other)) [
            | inl e ↦ absurd (ne (sym (due_apart timer other h set_ e)))
            | inr differ ↦ omega (arith, least other)
          ] in
          tell.before timer other (omega (arith, of timer h)) (omega (arith, of other set_)) (omega (arith, of timer h, of other set_));
    }

    pub none_armed : ((timer : ℕ) → none ≤ keys timer) → IsNone is_armed calls
    none_armed unset = λ timer. sym (tell.armed timer) ∙ le-ltb (keys timer) none (unset timer)

    pub none_marked : ((timer : ℕ) → none ≤ due timer) → IsNone is_marked calls
    none_marked unset = λ timer. sym (tell.marked timer) ∙ le-ltb (due timer) none (unset timer)

    pub is_earliest : (timer : ℕ) → keys timer < none → ((other : ℕ) → keys timer ≤ keys other) → IsEarliest calls (keys timer / stamps)
    is_earliest timer h least = (timer, first_armed timer h least, sym (tell.expiries timer h))

-- nothing is armed where no call was made
pub tell_none : (keys due : ℕ → ℕ) → ((timer : ℕ) → none ≤ keys timer) → ((timer : ℕ) → none ≤ due timer) → Tell keys due 0 []
tell_none keys due unset due_unset = record {
  all_made = refl;
  armed = λ timer. le-ltb (keys timer) none (unset timer);
  expiries = λ timer h. absurd (omega (arith, unset timer));
  marked = λ timer. le-ltb (due timer) none (due_unset timer);
  before = λ a b ha hb less. absurd (omega (arith, unset a));
}

-- after a timer was made
pub tell_added : (keys due : ℕ → ℕ) (number : ℕ) (calls : List TimerCall) → Tell keys due number calls → Tell keys due (number + 1) (Add ∷ calls)
tell_added keys due number calls tell = record {
  all_made = ap (λ n. n + 1) tell.all_made;
  armed = tell.armed;
  expiries = tell.expiries;
  marked = tell.marked;
  before = λ a b ha hb less. let s = tell.before a b ha hb less in record { no_later = s.no_later; of_equals = s.of_equals };
}

module _ (keys due keys' due' : ℕ → ℕ) (number : ℕ) (calls : List TimerCall) (tell : Tell keys due number calls) where
  -- other keys in the same order
  pub tell_same : ((k : ℕ) → ltb (keys' k) none ≡ ltb (keys k) none) → ((k : ℕ) → ltb (due' k) none ≡ ltb (due k) none) → ((k : ℕ) → keys k < none → keys' k / stamps ≡ keys k / stamps)
      → ((a b : ℕ) → keys a < none → keys b < none → keys' a < keys' b → keys a < keys b) → Tell keys' due' number calls
  tell_same same due_same expiries order =
      let was : (k : ℕ) → keys' k < none → keys k < none = λ k h. ltb-true (keys k) none (sym (same k) ∙ lt-ltb (keys' k) none h) in
      record {
        all_made = tell.all_made;
        armed = λ k. same k ∙ tell.armed k;
        expiries = λ k h. expiries k (was k h) ∙ tell.expiries k (was k h);
        marked = λ k. due_same k ∙ tell.marked k;
        before = λ a b ha hb less. tell.before a b (was a ha) (was b hb) (order a b (was a ha) (was b hb) less);
      }

  -- after a run was begun
  pub tell_begun : (now : ℕ) → ((k : ℕ) → keys' k ≡ keys k) → ((k : ℕ) → ltb (due' k) none ≡ (ltb (keys k) none && leb (keys k / stamps) now)) → Tell keys' due' number (RunBegin now ∷ calls)
  tell_begun now same due_is = record {
    all_made = tell.all_made;
    armed = λ k. ap (λ x. ltb x none) (same k) ∙ tell.armed k;
    expiries = λ k h. ap (λ x. x / stamps) (same k) ∙ tell.expiries k (omega (arith, same k));
    marked = λ k. due_is k ∙ ap (λ b. b && leb (keys k / stamps) now) (tell.armed k) ∙ elim (cases_Bool (is_armed k calls)) [
      | inl t ↦ rw t (ap (λ x. leb x now) (tell.expiries k (ltb-true (keys k) none (tell.armed k ∙ t))))
      | inr f ↦ rw f refl
    ];
    before = λ a b ha hb less.
        let s = tell.before a b (omega (arith, same a)) (omega (arith, same b)) (omega (arith, same a, same b)) in
        record { no_later = s.no_later; of_equals = s.of_equals };
  }

  module _ (timer : ℕ) (others : (k : ℕ) → (k ≡ timer → ⊥) → keys' k ≡ keys k) (due_gone : none ≤ due' timer) (due_others : (k : ℕ) → (k ≡ timer → ⊥) → due' k ≡ due k) where
    apart : (k : ℕ) → eqb timer k ≡ false → k ≡ timer → ⊥
    apart k ne e = eqb-false timer k ne (sym e)

    marked_off : (k : ℕ) → ltb (due' k) none ≡ cond (eqb timer k) false (is_marked k calls)
    marked_off k = elim (cases_Bool (eqb timer k)) [
      | inl e ↦ rw e (ap (λ x. ltb (due' x) none) (sym (eqb-true timer k e)) ∙ le-ltb (due' timer) none due_gone)
      | inr ne ↦ rw ne (ap (λ x. ltb x none) (due_others k (apart k ne)) ∙ tell.marked k)
    ]

    -- after a timer was armed
    module _ (expire : ℤ) (next : ℕ) (stamped : AreStamped keys number next) (here : keys' timer ≡ from_zero expire * stamps + next)
        (next_low : next < stamps) (early : from_zero expire < 9223372036854775808) where
      other_arm : (k : ℕ) → (k ≡ timer → ⊥) → SameArm calls (Arm timer expire ∷ calls) k
      other_arm k ne =
          let differ : eqb timer k ≡ false = ne_eqb timer k (λ e. ne (sym e)) in
          record { same_expiry = rw differ refl; same_place = rw differ refl }

      expiry_here : (k : ℕ) → k ≡ timer → expiry k (Arm timer expire ∷ calls) ≡ from_zero expire
      expiry_here k e = let t = eq-eqb timer k (sym e) in rw t refl

      place_here : (k : ℕ) → k ≡ timer → place k (Arm timer expire ∷ calls) ≡ length calls
      place_here k e = let t = eq-eqb timer k (sym e) in rw t refl

      key_here : (k : ℕ) → k ≡ timer → keys' k ≡ from_zero expire * stamps + next
      key_here k e = ap keys' e ∙ here

      armed_before : (a b : ℕ) → keys' a < none → keys' b < none → keys' a < keys' b → StandsBefore (Arm timer expire ∷ calls) a b
      armed_before a b ha hb less = elim (cases_eq a timer) [
        | inl ea ↦ elim (cases_eq b timer) [
          | inl eb ↦ absurd (omega (arith, key_here a ea, key_here b eb))
          | inr nb ↦
              let kb = others b nb in
              let set_ : keys b < none = omega (arith, kb) in
              let eb = (other_arm b nb).same_expiry in
              record {
                no_later = omega (arith, key_here a ea, kb, stamped.below b set_, eb, tell.expiries b set_, expiry_here a ea);
                of_equals = λ q. absurd (omega (arith, q, key_here a ea, kb, stamped.below b set_, eb, tell.expiries b set_, expiry_here a ea));
              }
        ]
        | inr na ↦
            let ka = others a na in
            let set_ : keys a < none = omega (arith, ka) in
            elim (cases_eq b timer) [
              | inl eb ↦
                  let ea = (other_arm a na).same_expiry in
                  let among = place_among a calls (sym (tell.armed a) ∙ lt-ltb (keys a) none set_) in
                  record {
                    no_later = omega (arith, key_here b eb, ka, ea, tell.expiries a set_, expiry_here b eb);
                    of_equals = λ q. omega (arith, among, (other_arm a na).same_place, place_here b eb);
                  }
              | inr nb ↦
                  let kb = others b nb in
                  stands_same calls (Arm timer expire ∷ calls) a b (other_arm a na) (other_arm b nb) (tell.before a b set_ (omega (arith, kb)) (omega (arith, ka, kb)))
            ]
      ]

      pub tell_armed : Tell keys' due' number (Arm timer expire ∷ calls)
      tell_armed = record {
        all_made = tell.all_made;
        armed = λ k. elim (cases_Bool (eqb timer k)) [
          | inl e ↦ rw e (lt-ltb (keys' k) none (omega (arith, key_here k (sym (eqb-true timer k e)))))
          | inr ne ↦ rw ne (ap (λ x. ltb x none) (others k (apart k ne)) ∙ tell.armed k)
        ];
        expiries = λ k h. elim (cases_Bool (eqb timer k)) [
          | inl e ↦ rw e (omega (arith, key_here k (sym (eqb-true timer k e))))
          | inr ne ↦
              let same = others k (apart k ne) in
              rw ne (ap (λ x. x / stamps) same ∙ tell.expiries k (omega (arith, same)))
        ];
        marked = marked_off;
        before = armed_before;
      }

    -- after a timer was taken off
    module _ (gone : none ≤ keys' timer) where
      armed_off : (k : ℕ) → ltb (keys' k) none ≡ cond (eqb timer k) false (is_armed k calls)
      armed_off k = elim (cases_Bool (eqb timer k)) [
        | inl e ↦ rw e (ap (λ x. ltb (keys' x) none) (sym (eqb-true timer k e)) ∙ le-ltb (keys' timer) none gone)
        | inr ne ↦ rw ne (ap (λ x. ltb x none) (others k (apart k ne)) ∙ tell.armed k)
      ]

      stays : (k : ℕ) → keys' k < none → keys' k ≡ keys k
      stays k h = others k (λ e. omega (arith, ap keys' e))

      off_before : (a b : ℕ) → keys' a < none → keys' b < none → keys' a < keys' b → StandsBefore calls a b
      off_before a b ha hb less = tell.before a b (omega (arith, stays a ha)) (omega (arith, stays b hb)) (omega (arith, stays a ha, stays b hb))

      off_expiry : (k : ℕ) → keys' k < none → keys' k / stamps ≡ expiry k calls
      off_expiry k h = ap (λ x. x / stamps) (stays k h) ∙ tell.expiries k (omega (arith, stays k h))

      pub tell_disarmed : Tell keys' due' number (Disarm timer ∷ calls)
      tell_disarmed = record {
        all_made = tell.all_made;
        armed = armed_off;
        expiries = off_expiry;
        marked = marked_off;
        before = λ a b ha hb less. let s = off_before a b ha hb less in record { no_later = s.no_later; of_equals = s.of_equals };
      }

      pub tell_given : Tell keys' due' number (Give timer ∷ calls)
      tell_given = record {
        all_made = tell.all_made;
        armed = armed_off;
        expiries = off_expiry;
        marked = marked_off;
        before = λ a b ha hb less. let s = off_before a b ha hb less in record { no_later = s.no_later; of_equals = s.of_equals };
      }

-- after a disarm of a timer that wasn't armed
pub tell_unmade : (keys due : ℕ → ℕ) (number : ℕ) (calls : List TimerCall) → Tell keys due number calls → AreOf keys due → (timer : ℕ) → none ≤ keys timer → Tell keys due number (Disarm timer ∷ calls)
tell_unmade keys due number calls tell of timer unset =
    let due_unset : none ≤ due timer = elim (cases_lt (due timer) none) [
      | inl h ↦ absurd (omega (arith, of timer h))
      | inr is ↦ is
    ] in
    tell_disarmed keys due keys due number calls tell timer (λ k ne. refl) due_unset (λ k ne. refl) unset
