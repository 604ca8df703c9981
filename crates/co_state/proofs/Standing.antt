-- What the calls on a store leave standing.
use Rattle.std.proofs.Common.{◌≡◌, ◌≢◌, inl, inr, ℕ, ◌+◌, ◌<◌, ◌≤◌, Bool, true, false, cond, ◌||◌, nat_cmp, nat_le, List, [], length, get_or, count_by, Option, Some, None, is_some, IsSome, MatchOption, refl, sym, ap, ◌∙◌, subst, arith, ne_eqb, eq-eqb, eqb, leb, le-leb, leb-true}
use Rattle.std.proofs.lemmas.Bool.{cases_eq, cases_Bool}
use Rattle.std.proofs.lemmas.List.Sums.{sum_by-set}
use Rattle.std.specs.FinMap as map
use Rattle.slab.specs.Slab.{Slab, get, slab_len, Updates, with_value}
use Rattle.slab.proofs.SlabLemmas.{Updates-with_value, ContainsKey-within}
use Rattle.co_state.specs.Coroutines.{Coroutines, AllOf}
use Rattle.co_state.specs.Lookup.{Table, shape, AreListed}
use Rattle.co_state.specs.Kept.{coroutine_in, under, AreNumbered, collected, key_for, ids_of, held_in, AreKept}
use Rattle.co_state.specs.declared.store.Slot.{Slot}
use Rattle.co_state.proofs.Held.{get_inserted, get_removed, same_held, remove-insert, get-held, len-held}

-- a match on what is known
pub at_none : {X : Type 0} (o : Option X) (A : Type 0) (B : X → Type 0) → o ≡ None → A → MatchOption o A B
at_none None A B e a = a
at_none (Some x) A B e a = absurd (cc)

pub at_some : {X : Type 0} (o : Option X) (A : Type 0) (B : X → Type 0) (x : X) → o ≡ Some x → B x → MatchOption o A B
at_some None A B x e b = absurd (cc)
at_some (Some y) A B x e b = let same : x ≡ y = cc in subst B same b

pub none_of : {X : Type 0} (o : Option X) → is_some o ≡ false → o ≡ None
none_of None e = refl
none_of (Some x) e = absurd (cc e)

either_true : (a b : Bool) → b ≡ true → true ≡ (a || b)
either_true true b e = refl
either_true false b e = sym e

first_true : (a b : Bool) → a ≡ true → true ≡ (a || b)
first_true a b e = ap (λ x. x || b) (sym e)

neither : (a b : Bool) → a ≡ false → b ≡ false → false ≡ (a || b)
neither a b p q = cc

leb_false : (m n : ℕ) → n < m → leb m n ≡ false
leb_false m n lt = elim (cases_Bool (leb m n)) [ inl below ↦ absurd (omega (arith, leb-true m n below)) | inr above ↦ above ]

one_key : (b : Bool) (x k : ℕ) (o : Option ℕ) → b ≡ true → cond b (Some x) o ≡ Some k → x ≡ k
one_key true x k o e f = cc
one_key false x k o e f = absurd (cc)

no_own : (b : Bool) (k : ℕ) (o : Option ℕ) → b ≡ true → cond b None o ≡ Some k → ⊥
no_own true k o e f = absurd (cc)
no_own false k o e f = absurd (cc)

abbrev pub seen_as : {C O : Type 0} → ℕ → O → map.FinMap nat_cmp C → Coroutines C O
seen_as room origin held = record { room = room; held = held; origin = origin }

-- a change of the fields as a change of what is seen
pub seen_change : {C O : Type 0} (f : map.FinMap nat_cmp C → map.FinMap nat_cmp C) (room : ℕ) (origin : O) (held after : map.FinMap nat_cmp C) (seen : Coroutines C O) → after ≡ f held → seen_as room origin held ≡ seen → seen_as room origin after ≡ record seen { held = f seen.held }
seen_change {C} {O} f room origin held after seen changed is =
    ap (seen_as room origin) changed ∙ ap (λ (s : Coroutines C O). seen_as s.room s.origin (f s.held)) is

module _ {C : Type 0} where
  abbrev number_of : ℕ → Option (Slot C) → ℕ
  number_of other None = other
  number_of other (Some slot) = slot.id

  -- a slot is found by its own number alone
  apart : (s : Slab (Slot C)) (F : ℕ → Option ℕ) (id key : ℕ) (co : C) → AreNumbered s F → get s key ≡ Some (record { id = id; co = co }) → (q : ℕ) → q ≢ id → F q ≡ Some key → ⊥
  apart s F id key co numbered there q differs found =
      let other = numbered q key found in
      differs (ap (number_of q) (sym other.1 ∙ there))

  -- what is under another number stays
  stays_under : (s s' : Slab (Slot C)) (slot : Option (Slot C)) (key : ℕ) (o : Option ℕ) → Updates s s' key slot → (o ≡ Some key → ⊥) → under s' o ≡ under s o
  stays_under s s' slot key None updates apart = refl
  stays_under s s' slot key (Some k) updates apart = ap coroutine_in (updates.others k (λ e. apart (ap Some e)))

  record Changed (d d' : Table) (s s' : Slab (Slot C)) (id : ℕ) (now : Option C) : Type 0 where
    pub numbered : AreNumbered s' (key_for d')
    pub held : (q : ℕ) → map.get (held_in d' s') q ≡ cond (eqb q id) now (map.get (held_in d s) q)

  changed : (d d' : Table) (s s' : Slab (Slot C)) (slot : Option (Slot C)) (id key : ℕ) (now : Option C) → AreNumbered s (key_for d) → Updates s s' key slot → ((q : ℕ) → q ≢ id → key_for d q ≡ Some key → ⊥) → ((q : ℕ) → q ≢ id → key_for d' q ≡ key_for d q) → under s' (key_for d' id) ≡ now → ((k : ℕ) → key_for d' id ≡ Some k → (co : C) × (get s' k ≡ Some (record { id = id; co = co }))) → Changed d d' s s' id now
  changed d d' s s' slot id key now numbered updates alone same here own =
      record {
        numbered = λ q k found. elim (cases_eq q id) [
          | inl is ↦
              let mine = own k (ap (key_for d') (sym is) ∙ found) in
              (mine.0, mine.1 ∙ ap (λ (n : ℕ). Some (record { id = n; co = mine.0 })) (sym is))
          | inr differs ↦
              let before = sym (same q differs) ∙ found in
              let old = numbered q k before in
              (old.0, updates.others k (λ e. alone q differs (before ∙ ap Some e)) ∙ old.1)
        ];
        held = λ q. elim (cases_eq q id) [
          | inl is ↦
              let yes_ : eqb q id ≡ true = eq-eqb q id is in
              get-held d' s' q ∙ ap (λ n. under s' (key_for d' n)) is ∙ here ∙ ap (λ b. cond b now (map.get (held_in d s) q)) (sym yes_)
          | inr differs ↦
              let no_ : eqb q id ≡ false = ne_eqb q id differs in
              get-held d' s' q ∙ ap (under s') (same q differs)
              ∙ stays_under s s' slot key (key_for d q) updates (alone q differs)
              ∙ sym (get-held d s q)
              ∙ ap (λ b. cond b now (map.get (held_in d s) q)) (sym no_)
        ];
      }

  -- with a coroutine more
  pub record Holds (room : ℕ) (d : Table) (s : Slab (Slot C)) (held : map.FinMap nat_cmp C) : Type 0 where
    pub kept : AreKept room d s
    pub is : held_in d s ≡ held

  no_key : (o : Option ℕ) (s : Slab (Slot C)) (F : ℕ → Option ℕ) (key : ℕ) → AreNumbered s F → get s key ≡ None → (q : ℕ) → F q ≡ Some key → ⊥
  no_key o s F key numbered vacant q found = let there = numbered q key found in absurd (cc (there.1, vacant))

  pub put_in : (room : ℕ) (d d' : Table) (s s' : Slab (Slot C)) (id key : ℕ) (co : C) → AreKept room d s → length (ids_of d) < room → get s key ≡ None → Updates s s' key (Some (record { id = id; co = co })) → slab_len s' ≡ slab_len s + 1 → s'.capacity ≡ s.capacity → ((q : ℕ) → key_for d' q ≡ cond (eqb q id) (Some key) (key_for d q)) → length (ids_of d') ≡ length (ids_of d) + 1 → d'.room ≡ d.room → Holds room d' s' (map.insert (held_in d s) id co)
  put_in room d d' s s' id key co kept free vacant updates filled capacity keys more same_room =
      let mine : eqb id id ≡ true = eq-eqb id id refl in
      let own_key : key_for d' id ≡ Some key = keys id ∙ ap (λ b. cond b (Some key) (key_for d id)) mine in
      let all = changed d d' s s' (Some (record { id = id; co = co })) id key (Some co) kept.numbered updates
      (λ q differs found. no_key None s (key_for d) key kept.numbered vacant q found)
      (λ q differs. keys q ∙ ap (λ b. cond b (Some key) (key_for d q)) (ne_eqb q id differs))
      (ap (under s') own_key ∙ ap coroutine_in updates.changed)
      (λ k found. let same = one_key (eqb id id) key k (key_for d id) mine (sym (keys id) ∙ found) in (co, ap (get s') (sym same) ∙ updates.changed)) in
      record {
        kept = record {
          numbered = all.numbered;
          filled = omega (arith, kept.filled);
          fits = omega arith;
          slots = omega (arith, kept.slots);
          places = omega (arith, kept.places, same_room);
        };
        is = same_held _ _ (λ q. all.held q ∙ sym (get_inserted (held_in d s) id co q));
      }

  pub own_number : (s : Slab (Slot C)) (F : ℕ → Option ℕ) (id key : ℕ) (slot : Slot C) → AreNumbered s F → F id ≡ Some key → get s key ≡ Some slot → slot.id ≡ id
  own_number s F id key slot numbered found there =
      let own = numbered id key found in ap (number_of id) (sym there ∙ own.1)

  same_length : (s : Slab (Slot C)) (key : ℕ) (slot new : Slot C) → get s key ≡ Some slot → slab_len (with_value s key new) ≡ slab_len s
  same_length s key slot new there =
      let within = ContainsKey-within s key (subst IsSome (sym there) refl) in
      let sums = sum_by-set (λ (o : Option (Slot C)). cond {A = ℕ} (is_some o) 1 0) s.slots key (Some new) None within in
      let was : cond {A = ℕ} (is_some (get_or s.slots key None)) 1 0 ≡ 1 = ap (λ (o : Option (Slot C)). cond {A = ℕ} (is_some o) 1 0) there in
      omega (arith, sums, was)

  pub write_in : (room : ℕ) (d : Table) (s : Slab (Slot C)) (id key : ℕ) (slot : Slot C) (co : C) → AreKept room d s → key_for d id ≡ Some key → get s key ≡ Some slot → Holds room d (with_value s key (record { id = slot.id; co = co })) (map.insert (held_in d s) id co)
  write_in room d s id key slot co kept found there =
      let new : Slot C = record { id = slot.id; co = co } in
      let s' = with_value s key new in
      let own = own_number s (key_for d) id key slot kept.numbered found there in
      let updates = Updates-with_value s key new (subst IsSome (sym there) refl) in
      let named = kept.numbered id key found in
      let all = changed d d s s' (Some new) id key (Some co) kept.numbered updates
      (apart s (key_for d) id key named.0 kept.numbered named.1)
      (λ q differs. refl)
      (ap (under s') found ∙ ap coroutine_in updates.changed)
      (λ k is. let same : key ≡ k = cc (found, is) in (co, ap (get s') (sym same) ∙ updates.changed ∙ ap (λ (n : ℕ). Some (record { id = n; co = co })) own)) in
      record {
        kept = record {
          numbered = all.numbered;
          filled = same_length s key slot new there ∙ kept.filled;
          fits = kept.fits;
          slots = kept.slots;
          places = kept.places;
        };
        is = same_held _ _ (λ q. all.held q ∙ sym (get_inserted (held_in d s) id co q));
      }

  pub take_out : (room : ℕ) (d d' : Table) (s s' : Slab (Slot C)) (id key : ℕ) → AreKept room d s → key_for d id ≡ Some key → Updates s s' key None → slab_len s' + 1 ≡ slab_len s → s'.capacity ≡ s.capacity → ((q : ℕ) → key_for d' q ≡ cond (eqb q id) None (key_for d q)) → length (ids_of d') + 1 ≡ length (ids_of d) → d'.room ≡ d.room → Holds room d' s' (map.remove (held_in d s) id)
  take_out room d d' s s' id key kept found updates filled capacity keys fewer same_room =
      let mine : eqb id id ≡ true = eq-eqb id id refl in
      let none : key_for d' id ≡ None = keys id ∙ ap (λ b. cond b None (key_for d id)) mine in
      let named = kept.numbered id key found in
      let all = changed d d' s s' None id key None kept.numbered updates
      (apart s (key_for d) id key named.0 kept.numbered named.1)
      (λ q differs. keys q ∙ ap (λ b. cond b None (key_for d q)) (ne_eqb q id differs))
      (ap (under s') none)
      (λ k is. absurd (cc (none, is))) in
      record {
        kept = record {
          numbered = all.numbered;
          filled = omega (arith, kept.filled);
          fits = omega (arith, kept.fits);
          slots = omega (arith, kept.slots);
          places = omega (arith, kept.places, same_room);
        };
        is = same_held _ _ (λ q. all.held q ∙ sym (get_removed (held_in d s) id q));
      }

  pub write_and_take : (room : ℕ) (d d' : Table) (s s' : Slab (Slot C)) (id n key : ℕ) (slot : Slot C) (co : C) → AreKept room d s → key_for d id ≡ Some key → get s key ≡ Some slot → n ≡ id → Updates (with_value s key (record { id = slot.id; co = co })) s' key None → slab_len s' + 1 ≡ slab_len (with_value s key (record { id = slot.id; co = co })) → s'.capacity ≡ s.capacity → ((q : ℕ) → key_for d' q ≡ cond (eqb q n) None (key_for d q)) → length (ids_of d') + 1 ≡ length (ids_of d) → d'.room ≡ d.room → Holds room d' s' (map.remove (held_in d s) id)
  write_and_take room d d' s s' id n key slot co kept found there named updates filled capacity keys fewer same_room =
      let written = write_in room d s id key slot co kept found there in
      let keys_of = subst (λ (n : ℕ). (q : ℕ) → key_for d' q ≡ cond (eqb q n) None (key_for d q)) named keys in
      let out = take_out room d d' (with_value s key (record { id = slot.id; co = co })) s' id key written.kept found updates filled capacity keys_of fewer same_room in
      record { kept = out.kept; is = out.is ∙ ap (λ m. map.remove m id) written.is ∙ remove-insert (held_in d s) id co }

  abbrev co_or : C → Option (Slot C) → C
  co_or other None = other
  co_or other (Some slot) = slot.co

  pub taken_co : (s : Slab (Slot C)) (key : ℕ) (slot new got : Slot C) → get s key ≡ Some slot → get (with_value s key new) key ≡ Some got → got.co ≡ new.co
  taken_co s key slot new got there is =
      let written = Updates-with_value s key new (subst IsSome (sym there) refl) in
      ap (co_or new.co) (sym is ∙ written.changed)

  pub held_absent : (d : Table) (s : Slab (Slot C)) (id : ℕ) → key_for d id ≡ None → map.get (held_in d s) id ≡ None
  held_absent d s id none = get-held d s id ∙ ap (under s) none

  pub held_present : (d : Table) (s : Slab (Slot C)) (id key : ℕ) (slot : Slot C) → key_for d id ≡ Some key → get s key ≡ Some slot → map.get (held_in d s) id ≡ Some slot.co
  held_present d s id key slot found there = get-held d s id ∙ ap (under s) found ∙ ap coroutine_in there

  -- and it is of the origin of all, as its number
  pub of_there : {O : Type 0} (is_of : ℕ → C → O → Type 0) (id key : ℕ) (slot : Slot C) (d : Table) (s : Slab (Slot C)) (origin : O) → AllOf is_of (held_in d s) origin → key_for d id ≡ Some key → get s key ≡ Some slot → is_of id slot.co origin
  of_there is_of id key slot d s origin all found there =
      all id slot.co (held_present d s id key slot found there)

  present_by : (d : Table) (s : Slab (Slot C)) (id : ℕ) (o : Option ℕ) → AreNumbered s (key_for d) → key_for d id ≡ o → IsSome o → is_some (under s o) ≡ true
  present_by d s id None numbered e some = absurd (cc)
  present_by d s id (Some key) numbered e some = let there = numbered id key e in ap (λ o. is_some (coroutine_in o)) there.1

  -- when a put is refused
  pub refused_present : (room : ℕ) (d : Table) (s : Slab (Slot C)) (id : ℕ) → AreKept room d s → IsSome (key_for d id) → true ≡ (map.contains_key (held_in d s) id || nat_le room (map.len (held_in d s)))
  refused_present room d s id kept some =
      first_true _ _ (ap is_some (get-held d s id) ∙ present_by d s id (key_for d id) kept.numbered refl some)

  pub refused_full : (room : ℕ) (d : Table) (s : Slab (Slot C)) (id : ℕ) → AreKept room d s → AreListed (shape d.tree) → room ≤ length (ids_of d) → true ≡ (map.contains_key (held_in d s) id || nat_le room (map.len (held_in d s)))
  refused_full room d s id kept once full =
      either_true _ _ (ap (nat_le room) (len-held room d s kept once) ∙ le-leb room (length (ids_of d)) full)

  pub not_refused : (room : ℕ) (d : Table) (s : Slab (Slot C)) (id : ℕ) → AreKept room d s → AreListed (shape d.tree) → key_for d id ≡ None → length (ids_of d) < room → false ≡ (map.contains_key (held_in d s) id || nat_le room (map.len (held_in d s)))
  not_refused room d s id kept once none free =
      neither _ _ (ap is_some (held_absent d s id none)) (ap (nat_le room) (len-held room d s kept once) ∙ leb_false room (length (ids_of d)) free)

  pub starts : (room : ℕ) (d : Table) (s : Slab (Slot C)) → ((q : ℕ) → key_for d q ≡ None) → ids_of d ≡ [] → s.slots ≡ [] → room ≤ s.capacity → d.room ≡ room → Holds room d s map.empty
  starts room d s keyless none empty slots places =
      record {
        kept = record {
          numbered = λ id key found. absurd (cc (sym (keyless id) ∙ found));
          filled = ap (count_by is_some) empty ∙ sym (ap (λ (xs : List ℕ). length xs) none);
          fits = omega (arith, ap (λ (xs : List ℕ). length xs) none);
          slots = slots;
          places = omega (arith, places);
        };
        is = ap (λ (xs : List ℕ). map.from_entries {R = nat_cmp} (collected (λ id. under s (key_for d id)) xs)) none;
      }
