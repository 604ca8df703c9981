-- How a lock is finished: the pass was pushed, and perhaps granted a waiter.
use Rattle.std.proofs.Common.{◌≡◌, ◌≢◌, ℕ, Bool, true, false, cond, eqb, MatchBool, List, [], ◌∷◌, ◌++◌, refl, sym, ap, ◌∙◌, subst, append_assoc}
use Rattle.std.proofs.lemmas.Bool.{eq-eqb, ne_eqb}
use Rattle.aio_model.specs.Lock.History.{LockEntry, Wait, Grant, coroutine_of, value_of, IsLegalLock}
use Rattle.aio_model.specs.Lock.Notes.{IsNoted}
use Rattle.aio_model.specs.Lock.Seats.{StandsInLock}
use Rattle.co_mutex.specs.declared.slot.Slot.TheVariants.{Value, Out}
use Rattle.co_state.specs.declared.cx.CoId.{CoId}
use Rattle.co_mutex.specs.LockWords.{head_at, handoff_at, grant_at, who_at}
use Rattle.co_mutex.specs.Places.{Locking, PassPlace, ToPop, Pushed, Loaded, Queued, SelfGranted, Holds, OnDuty, after_grant}
use Rattle.co_mutex.specs.Known.{Kind, HeadCompare, HandoffLoad, HandoffCompare, WhoLoad, GrantStore, GrantSwap, Done, Known, moves, makes, advances, GoesOn}
use Rattle.co_mutex.specs.Plays.{done, TakesDuty, TakesOwn}
use Rattle.std.proofs.lemmas.Bool.{and_parts}
use Rattle.std.specs.Cmp.Derive.{both_true}
use Rattle.co_mutex.specs.Waking.{is_numbered, AllOfKinds, pushes, takes_up, walks, PushedFor, LooksAtHandOff, WokePass}
use Rattle.co_mutex.specs.Calls.{finishes, Did, Comes, Names, co_id_word, HoldsNow}
use Rattle.co_mutex.proofs.Calls.{stands_one, stands_more}
use Rattle.co_mutex.proofs.Codes.{M}
use Rattle.co_mutex.proofs.Holding.{held_of, first_value}
use Rattle.co_mutex.proofs.WakeOne.{all_append}

-- one test is as wide as another
pub all_wider : (test other : Kind → Bool) → ((k : Kind) → test k ≡ true → other k ≡ true) → (xs : List Done) → AllOfKinds test xs → AllOfKinds other xs
all_wider test other f [] a = tt
all_wider test other f (x ∷ xs) a =
    let parts = and_parts (test x.kind) (is_numbered x.kind x.found) a.0 in
    (both_true (f x.kind parts.0) parts.1, all_wider test other f xs a.1)

from_pushes : (k : Kind) → pushes k ≡ true → finishes k ≡ true
from_pushes Rattle.co_mutex.specs.Known.LockedCompare e = absurd cc
from_pushes Rattle.co_mutex.specs.Known.LockedFetchAdd e = absurd cc
from_pushes Rattle.co_mutex.specs.Known.LockedFetchSub e = absurd cc
from_pushes Rattle.co_mutex.specs.Known.WhoStore e = refl
from_pushes Rattle.co_mutex.specs.Known.HeadLoad e = refl
from_pushes Rattle.co_mutex.specs.Known.NextStore e = refl
from_pushes Rattle.co_mutex.specs.Known.HeadCompare e = refl
from_pushes Rattle.co_mutex.specs.Known.HeadSwap e = absurd cc
from_pushes Rattle.co_mutex.specs.Known.NextLoad e = absurd cc
from_pushes Rattle.co_mutex.specs.Known.WhoLoad e = absurd cc
from_pushes Rattle.co_mutex.specs.Known.GrantStore e = absurd cc
from_pushes Rattle.co_mutex.specs.Known.GrantSwap e = absurd cc
from_pushes Rattle.co_mutex.specs.Known.HandoffLoad e = absurd cc
from_pushes Rattle.co_mutex.specs.Known.HandoffStore e = absurd cc
from_pushes Rattle.co_mutex.specs.Known.HandoffCompare e = absurd cc
from_pushes Rattle.co_mutex.specs.Known.SecondLook e = absurd cc

from_takes_up : (k : Kind) → takes_up k ≡ true → finishes k ≡ true
from_takes_up Rattle.co_mutex.specs.Known.LockedCompare e = absurd cc
from_takes_up Rattle.co_mutex.specs.Known.LockedFetchAdd e = absurd cc
from_takes_up Rattle.co_mutex.specs.Known.LockedFetchSub e = absurd cc
from_takes_up Rattle.co_mutex.specs.Known.WhoStore e = absurd cc
from_takes_up Rattle.co_mutex.specs.Known.HeadLoad e = absurd cc
from_takes_up Rattle.co_mutex.specs.Known.NextStore e = absurd cc
from_takes_up Rattle.co_mutex.specs.Known.HeadCompare e = absurd cc
from_takes_up Rattle.co_mutex.specs.Known.HeadSwap e = absurd cc
from_takes_up Rattle.co_mutex.specs.Known.NextLoad e = absurd cc
from_takes_up Rattle.co_mutex.specs.Known.WhoLoad e = absurd cc
from_takes_up Rattle.co_mutex.specs.Known.GrantStore e = absurd cc
from_takes_up Rattle.co_mutex.specs.Known.GrantSwap e = absurd cc
from_takes_up Rattle.co_mutex.specs.Known.HandoffLoad e = refl
from_takes_up Rattle.co_mutex.specs.Known.HandoffStore e = absurd cc
from_takes_up Rattle.co_mutex.specs.Known.HandoffCompare e = refl
from_takes_up Rattle.co_mutex.specs.Known.SecondLook e = absurd cc

from_walks : (k : Kind) → walks k ≡ true → finishes k ≡ true
from_walks Rattle.co_mutex.specs.Known.LockedCompare e = absurd cc
from_walks Rattle.co_mutex.specs.Known.LockedFetchAdd e = absurd cc
from_walks Rattle.co_mutex.specs.Known.LockedFetchSub e = absurd cc
from_walks Rattle.co_mutex.specs.Known.WhoStore e = absurd cc
from_walks Rattle.co_mutex.specs.Known.HeadLoad e = absurd cc
from_walks Rattle.co_mutex.specs.Known.NextStore e = absurd cc
from_walks Rattle.co_mutex.specs.Known.HeadCompare e = absurd cc
from_walks Rattle.co_mutex.specs.Known.HeadSwap e = refl
from_walks Rattle.co_mutex.specs.Known.NextLoad e = refl
from_walks Rattle.co_mutex.specs.Known.WhoLoad e = absurd cc
from_walks Rattle.co_mutex.specs.Known.GrantStore e = absurd cc
from_walks Rattle.co_mutex.specs.Known.GrantSwap e = absurd cc
from_walks Rattle.co_mutex.specs.Known.HandoffLoad e = absurd cc
from_walks Rattle.co_mutex.specs.Known.HandoffStore e = absurd cc
from_walks Rattle.co_mutex.specs.Known.HandoffCompare e = absurd cc
from_walks Rattle.co_mutex.specs.Known.SecondLook e = absurd cc

pub did_more : (test : Kind → Bool) (before middle after : List Done) (steps : List Done) → Did test before middle → AllOfKinds test steps → after ≡ steps ++ middle → Did test before after
did_more test before middle after steps d kinds e =
    record { steps = steps ++ d.steps; is = e ∙ ap (λ (l : List Done). steps ++ l) d.is ∙ sym (append_assoc steps d.steps before); kinds = all_append test steps d.steps kinds d.kinds }

module _ {T : Type 0} where
  -- a pass that was pushed, and what it has done since, with no other entry
  pub record Waited (who : ℕ) (v w : Known T) : Type 0 where
    pub number_is : w.number ≡ v.number
    pub stands : StandsInLock v.number (Wait v.number who ∷ []) v.seen v.mine w.seen w.mine
    pub did : Did finishes v.did w.did

  pub waited : (who : ℕ) (v : Known T) (after : M T) → PushedFor who v after → Waited who v after.0
  waited who v after p =
      let w = makes (advances v v.place p.steps) Pushed (done HeadCompare head_at p.found) p.older (Wait v.number who) in
      subst (λ (z : Known T). Waited who v z) (sym (ap (λ (z : M T). z.0) p.makes.is)) record { number_is = refl; stands = stands_one v.number (Wait v.number who) p.older v.seen v.mine refl p.makes.goes p.makes.legal; did = record { steps = done HeadCompare head_at p.found ∷ p.steps; is = refl; kinds = (refl, all_wider pushes finishes from_pushes p.steps p.kinds) } }

  waits_on : (who : ℕ) (v w : Known T) (place : PassPlace) (steps : List Done) → AllOfKinds finishes steps → Waited who v w → Waited who v (advances w place steps)
  waits_on who v w place steps kinds h =
      record { number_is = h.number_is; stands = h.stands; did = did_more finishes v.did w.did (steps ++ w.did) steps h.did kinds refl }

  abbrev pub TakenUp : Bool → Known T → List Done → M T → Type 0
  TakenUp b v steps after = MatchBool b ((last : ℕ) × (after ≡ (advances v (OnDuty Locking (ToPop [])) steps, (1, Rattle.co_mutex.specs.Rule.Popped [] last) ∷ []))) (after ≡ (advances v Queued steps, []))

  pub looked_waits : (who : ℕ) (taken : Bool) (v w : Known T) (after : M T) → Waited who v w → LooksAtHandOff taken w after → Waited who v after.0
  looked_waits who taken v w after h l = by taken l.is
    where
      wider : AllOfKinds finishes l.steps
      wider = all_wider takes_up finishes from_takes_up l.steps l.kinds

      by : (b : Bool) → TakenUp b w l.steps after → Waited who v after.0
      by true is = subst (λ (z : Known T). Waited who v z) (sym (ap (λ (z : M T). z.0) is.1)) (waits_on who v w _ l.steps wider h)
      by false is = subst (λ (z : Known T). Waited who v z) (sym (ap (λ (z : M T). z.0) is)) (waits_on who v w _ l.steps wider h)

  pub looked_queued : (taken : Bool) (w : Known T) (after : M T) → LooksAtHandOff taken w after → taken ≡ false → after.0.place ≡ Queued
  looked_queued taken w after l e =
      ap (λ (z : M T). z.0.place) (subst (λ b. TakenUp b w l.steps after) e l.is)

  pub waited_comes : (who : ℕ) (v w : Known T) → Waited who v w → w.place ≡ Queued → Comes Queued (Wait v.number who ∷ []) v w
  waited_comes who v w h e = record { place_is = e; number_is = h.number_is; stands = h.stands }

  -- the pass granted q
  pub record HasGranted (who q named : ℕ) (v w : Known T) : Type 0 where
    pub place_is : w.place ≡ after_grant Locking v.number q
    pub number_is : w.number ≡ v.number
    pub stands : StandsInLock v.number (Grant v.number q ∷ Wait v.number who ∷ []) v.seen v.mine w.seen w.mine
    pub older : List (LockEntry T)
    pub last : w.seen ≡ Grant v.number q ∷ older
    pub named_is : named ≡ coroutine_of q older
    pub did : Did finishes v.did w.did

  pub has_granted : (who q named : ℕ) (v w : Known T) (after : M T) → Waited who v w → WokePass q named w after → HasGranted who q named v after.0
  has_granted who q named v w after h woke =
      let kinds = all_wider walks finishes from_walks woke.steps woke.kinds in
      let t = woke.granted.1 in
      let n = h.number_is in
      let e = ap (λ (z : M T). z.0) t.is in
      let legal : IsLegalLock (Grant v.number q ∷ woke.granted.0) = subst (λ k. IsLegalLock (Grant k q ∷ woke.granted.0)) n t.legal in
      let goes : GoesOn v.number w.seen w.mine woke.granted.0 = subst (λ k. GoesOn k w.seen w.mine woke.granted.0) n t.goes in
      let all = stands_more v.number (Grant v.number q) (Wait v.number who ∷ []) woke.granted.0 v.seen v.mine w.seen w.mine refl h.stands goes legal in
      let seen : after.0.seen ≡ Grant v.number q ∷ woke.granted.0 = ap (λ (z : Known T). z.seen) e ∙ ap (λ k. Grant k q ∷ woke.granted.0) n in
      let mine : after.0.mine ≡ Grant v.number q ∷ w.mine = ap (λ (z : Known T). z.mine) e ∙ ap (λ k. Grant k q ∷ w.mine) n in
      record {
        place_is = ap (λ (z : Known T). z.place) e ∙ ap (λ k. after_grant Locking k q) n;
        number_is = ap (λ (z : Known T). z.number) e ∙ n;
        stands = subst (λ (z : List (LockEntry T)). StandsInLock v.number (Grant v.number q ∷ Wait v.number who ∷ []) v.seen v.mine z after.0.mine) (sym seen) (subst (λ (z : List (LockEntry T)). StandsInLock v.number (Grant v.number q ∷ Wait v.number who ∷ []) v.seen v.mine (Grant v.number q ∷ woke.granted.0) z) (sym mine) all);
        older = woke.granted.0;
        last = seen;
        named_is = woke.granted.2;
        did = did_more finishes v.did w.did after.0.did (done GrantStore (grant_at q) 1 ∷ done WhoLoad (who_at q) named ∷ woke.steps) h.did (refl, (refl, kinds)) (ap (λ (z : Known T). z.did) e);
      }

  -- another was granted: the pass stays queued
  pub queues_named : (who q named : ℕ) (v w : Known T) (co : CoId) (number : ℕ) → HasGranted who q named v w → number ≡ v.number → q ≢ number → co_id_word co ≡ named → (k : ℕ) × (k ≢ v.number) × Comes Queued (Grant v.number k ∷ Wait v.number who ∷ []) v w × Names co v.number k w
  queues_named who q named v w co number h same ne e =
      let far : q ≢ v.number = λ x. ne (x ∙ sym same) in
      (q, far, record { place_is = h.place_is ∙ ap (λ b. cond b SelfGranted Queued) (ne_eqb q v.number far); number_is = h.number_is; stands = h.stands }, record { older = h.older; last = h.last; named = e ∙ h.named_is })

  pub self_granted : (who q named : ℕ) (v w : Known T) → HasGranted who q named v w → q ≡ v.number → w.place ≡ SelfGranted
  self_granted who q named v w h e =
      h.place_is ∙ ap (λ b. cond b SelfGranted Queued) (eq-eqb q v.number e)

module _ {T N : Type 0} (note : T → ℕ → N) (built : T) where
  pub own_hand : (at : ℕ) (before after : M T) → TakesOwn note at built before after → (x : T) × (after.1 ≡ (0, Value x) ∷ [])
  own_hand at before after t = (value_of built before.0.seen, ap (λ (z : M T). z.1) t.is)

  -- the pass granted itself, and holds
  pub finish_holds : (who q named at : ℕ) (v : Known T) (woke swapped last : M T) (value : T) → HasGranted who q named v woke.0 → q ≡ v.number → TakesOwn note at built woke swapped → swapped.1 ≡ (0, Value value) ∷ [] → last ≡ (swapped.0, (0, Out) ∷ []) → HoldsNow note built (Grant v.number v.number ∷ Wait v.number who ∷ []) value v last.0 × Did finishes v.did last.0.did
  finish_holds who q named at v woke swapped last value h same t had is =
      (held_of note built (Grant v.number v.number ∷ Wait v.number who ∷ []) value v last.0 (ap (λ (z : Known T). z.place) now) (ap (λ (z : Known T). z.number) now ∙ h.number_is) (subst (λ (z : Known T). StandsInLock v.number (Grant v.number v.number ∷ Wait v.number who ∷ []) v.seen v.mine z.seen z.mine) (sym now) (subst (λ k. StandsInLock v.number (Grant v.number k ∷ Wait v.number who ∷ []) v.seen v.mine woke.0.seen woke.0.mine) same h.stands)) (first_value value (value_of built woke.0.seen) (sym had ∙ ap (λ (z : M T). z.1) t.is) ∙ ap (λ (z : Known T). value_of built z.seen) (sym now)) (subst (λ (z : Known T). IsNoted note built z.seen) (sym now) t.noted), did_more finishes v.did woke.0.did last.0.did (done GrantSwap at 1 ∷ []) h.did (refl, tt) (ap (λ (z : Known T). z.did) now))
    where
      now : last.0 ≡ moves woke.0 Holds (done GrantSwap at 1)
      now = ap (λ (z : M T). z.0) is ∙ ap (λ (z : M T). z.0) t.is

-- the look at the hand-off
module _ {T : Type 0} (v : Known T) (loaded : M T) (number : ℕ) (loads : loaded ≡ (moves v (cond (eqb number 0) Queued (Loaded number)) (done HandoffLoad handoff_at number), [])) where
  pub look_none : number ≡ 0 → LooksAtHandOff false v loaded
  look_none e =
      record { steps = done HandoffLoad handoff_at number ∷ []; kinds = (refl, tt); is = loads ∙ ap (λ b. (moves v (cond b Queued (Loaded number)) (done HandoffLoad handoff_at number), [])) (eq-eqb number 0 e) }

  pub look_took : number ≢ 0 → (after : M T) (found : ℕ) → MatchBool (eqb found number) (TakesDuty Locking found loaded.0 after) (after ≡ (moves loaded.0 Queued (done HandoffCompare handoff_at found), [])) → LooksAtHandOff (eqb found number) v after
  look_took ne after found told = by (eqb found number) told
    where
      is : loaded.0 ≡ moves v (Loaded number) (done HandoffLoad handoff_at number)
      is = ap (λ (z : M T). z.0) loads ∙ ap (λ b. moves v (cond b Queued (Loaded number)) (done HandoffLoad handoff_at number)) (ne_eqb number 0 ne)

      by : (b : Bool) → MatchBool b (TakesDuty Locking found loaded.0 after) (after ≡ (moves loaded.0 Queued (done HandoffCompare handoff_at found), [])) → LooksAtHandOff b v after
      by true t =
          record { steps = done HandoffCompare handoff_at found ∷ done HandoffLoad handoff_at number ∷ []; kinds = (refl, (refl, tt)); is = (t.last, t.is ∙ ap (λ (z : Known T). (moves z (OnDuty Locking (ToPop [])) (done HandoffCompare handoff_at found), (1, Rattle.co_mutex.specs.Rule.Popped [] t.last) ∷ [])) is) }
      by false t =
          record { steps = done HandoffCompare handoff_at found ∷ done HandoffLoad handoff_at number ∷ []; kinds = (refl, (refl, tt)); is = t ∙ ap (λ (z : Known T). (moves z Queued (done HandoffCompare handoff_at found), [])) is }
