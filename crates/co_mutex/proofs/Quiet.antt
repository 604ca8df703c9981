-- A step that makes no entry, passes no baton, takes no slot, and by which its pass stays in the line or out of it.
use Rattle.std.proofs.Common.{◌≡◌, ◌≢◌, ℕ, ◌+◌, inl, inr, ⊎_elim, Bool, true, false, cond, eqb, not, ◌&&◌, List, ◌++◌, reverse, slice_index, set, length, length-set, refl, sym, ap, ◌∙◌, subst}
use Rattle.std.proofs.lemmas.Bool.{cases_eq}
use mathlib.Core.Option.{Option as Opt, some, some-injective}
use lib.ListN.{get_elem?}
use Rattle.atomic_table.proofs.Lists.{set_else}
use Rattle.aio_chain.specs.Chains.{IsChain}
use Rattle.aio_chain.proofs.Chains.{Each, each_of, chain_kept}
use Rattle.aio_model.specs.Lock.History.{LockEntry, IsWaitingIn, owner_of, waiters_of, coroutine_of}
use Rattle.co_mutex.specs.Places.{Task, ToPop, Walking, Nobody, Granting, PassPlace, AtRest, Counted, Named, HeadLoaded, Linked, Pushed, Loaded, Queued, SelfGranted, Holds, OnDuty, Published, Found, is_in_line, is_before_push, is_holding, StillLooks, IsNumbered, pending}
use Rattle.co_mutex.specs.LockWords.{locked_at, handoff_at, head_at, grant_at, who_at, next_in}
use Rattle.co_mutex.specs.declared.slot.Slot.{Slot}
use Rattle.co_mutex.specs.Rule.{Baton, Free, Owned, Duty, Offered, IsAt, one_if, CountsStand, grant_word, ValueStands, IsTask, IsWith, ListIs, LinkStands, NameStands, Stands}
use Rattle.co_mutex.proofs.Counting.{bit}
use Rattle.co_mutex.proofs.Frames.{each_set, linked_kept, counts_after}
use Rattle.co_mutex.proofs.WaitLists.{stack_waits, left_waits}

abbrev pub is_duty : PassPlace → Bool
is_duty (OnDuty side task) = true
is_duty _ = false

-- what a step makes of the words: those of all stay, and of those of a pass only the stepping one's, where it doesn't wait
pub record Touches {T : Type 0} (h : List (LockEntry T)) (words other : List ℕ) (p : ℕ) : Type 0 where
  pub long : length other ≡ length words
  pub grants : (q : ℕ) → slice_index other (grant_at q) ≡ slice_index words (grant_at q)
  pub next : (q : ℕ) → q ≢ p → next_in other q ≡ next_in words q
  pub who : (q : ℕ) → q ≢ p → slice_index other (who_at q) ≡ slice_index words (who_at q)
  pub own : IsWaitingIn p (waiters_of h) → (next_in other p ≡ next_in words p) × (slice_index other (who_at p) ≡ slice_index words (who_at p))

pub named_kept : {T : Type 0} (h : List (LockEntry T)) (words other : List ℕ) (q : ℕ) (place : PassPlace) → slice_index other (who_at q) ≡ slice_index words (who_at q) → NameStands h words q place → NameStands h other q place
named_kept h words other q AtRest e is = tt
named_kept h words other q Counted e is = tt
named_kept h words other q (Named co) e is = e ∙ is
named_kept h words other q (HeadLoaded co found) e is = e ∙ is
named_kept h words other q (Linked co found) e is = e ∙ is
named_kept h words other q Pushed e is = tt
named_kept h words other q (Loaded n) e is = tt
named_kept h words other q Queued e is = tt
named_kept h words other q SelfGranted e is = tt
named_kept h words other q Holds e is = tt
named_kept h words other q (OnDuty side (ToPop popped)) e is = tt
named_kept h words other q (OnDuty side (Walking word left found)) e is = tt
named_kept h words other q (OnDuty side Nobody) e is = tt
named_kept h words other q (OnDuty side (Granting r co rest)) e is = is
named_kept h words other q (Published n) e is = tt
named_kept h words other q (Found n) e is = tt

pub task_kept : (next other : ℕ → ℕ) (task : Task) → ((left found : List ℕ) (word : ℕ) → task ≡ Walking word left found → Each (λ i. other i ≡ next i) left) → IsTask next task → IsTask other task
task_kept next other (ToPop popped) same is = tt
task_kept next other (Walking word left found) same is =
    (is.0, chain_kept next other word left is.1 (same left found word refl))
task_kept next other Nobody same is = tt
task_kept next other (Granting q co rest) same is = tt

pub not_holds : (place : PassPlace) → is_holding place ≡ false → place ≢ Holds
not_holds place isnt e = let yes : is_holding place ≡ true = ap is_holding e in cc

pub grant_same : (b : Baton) (p : ℕ) (old new : PassPlace) → is_holding new ≡ is_holding old → grant_word b p new ≡ grant_word b p old
grant_same Free p old new e = refl
grant_same (Owned q) p old new e = ap (λ k. cond (eqb q p && not k) 1 0) e
grant_same (Duty q) p old new e = refl
grant_same Offered p old new e = refl

pub looks_on : (handoff p : ℕ) (places : List PassPlace) (old new : PassPlace) (b : Baton) → get_elem? places p ≡ some old → (StillLooks handoff old → (q : ℕ) × (place : PassPlace) × (get_elem? (set places p new) q ≡ some place) × StillLooks handoff place) → (q : ℕ) × (place : PassPlace) × (get_elem? places q ≡ some place) × StillLooks handoff place → (q : ℕ) × (place : PassPlace) × (get_elem? (set places p new) q ≡ some place) × StillLooks handoff place
looks_on handoff p places old new b at mine (q, place, atq, looks) =
    ⊎_elim (λ e. mine (subst (StillLooks handoff) (some-injective place old (sym atq ∙ ap (get_elem? places) e ∙ at)) looks)) (λ ne. (q, place, set_else places p q new ne ∙ atq, looks)) (cases_eq q p)

module _ {T : Type 0} where
  pub value_kept : (built : T) (h : List (LockEntry T)) (homes : List (Opt (Slot T))) (places : List PassPlace) (p : ℕ) (old new : PassPlace) → get_elem? places p ≡ some old → is_holding old ≡ false → is_holding new ≡ false → ValueStands built h homes places → ValueStands built h homes (set places p new)
  value_kept built h homes places p old new at isnt not_new is =
      ⊎_elim
      (λ held. ⊎_elim (λ same. absurd (not_holds old isnt (some-injective old Holds (sym at ∙ ap (get_elem? places) (sym same) ∙ held.1)))) (λ else. inl (held.0, set_else places p held.0 new else ∙ held.1, held.2)) (cases_eq held.0 p))
      (λ home. inr (each_set (λ q place. place ≢ Holds) (λ q place. place ≢ Holds) places p new home.0 (not_holds new not_new) (λ q place ne atq k. k), home.1))
      is

  pub next_waits : (h : List (LockEntry T)) (words other : List ℕ) (p : ℕ) → Touches h words other p → (q : ℕ) → IsWaitingIn q (waiters_of h) → next_in other q ≡ next_in words q
  next_waits h words other p touches q waits =
      ⊎_elim (λ e. subst (λ k. next_in other k ≡ next_in words k) (sym e) (touches.own (subst (λ k. IsWaitingIn k (waiters_of h)) e waits)).0) (λ ne. touches.next q ne) (cases_eq q p)

  pub with_kept : (r : ℕ) (h : List (LockEntry T)) (words other : List ℕ) (homes : List (Opt (Slot T))) (places : List PassPlace) (p : ℕ) (old new : PassPlace) (stack : List ℕ) → Touches h words other p → get_elem? places p ≡ some old → is_duty old ≡ false → IsWith r h words homes places stack → IsWith r h other homes (set places p new) stack
  with_kept r h words other homes places p old new stack touches at isnt is =
      let ne : r ≢ p = λ e. (let here : old ≡ OnDuty is.side is.task = some-injective _ _ (sym at ∙ ap (get_elem? places) (sym e) ∙ is.place) in let yes : is_duty old ≡ true = ap is_duty here in cc) in
      record {
        side = is.side;
        task = is.task;
        place = set_else places p r new ne ∙ is.place;
        gone = is.gone;
        tasked = task_kept (next_in words) (next_in other) is.task (λ left found word e. each_of (λ i. IsWaitingIn i (waiters_of h)) (λ i. next_in other i ≡ next_in words i) left (next_waits h words other p touches) (left_waits (waiters_of h) left found stack (is.waiters ∙ ap (λ k. pending k ++ reverse stack) e))) is.tasked;
        waiters = is.waiters;
      }

  pub list_kept : (b : Baton) (h : List (LockEntry T)) (words other : List ℕ) (homes : List (Opt (Slot T))) (places : List PassPlace) (p : ℕ) (old new : PassPlace) (stack : List ℕ) → Touches h words other p → get_elem? places p ≡ some old → is_duty old ≡ false → ListIs b h words homes places stack → ListIs b h other homes (set places p new) stack
  list_kept Free h words other homes places p old new stack touches at isnt is = is
  list_kept (Owned q) h words other homes places p old new stack touches at isnt is = is
  list_kept (Duty q) h words other homes places p old new stack touches at isnt is = with_kept q h words other homes places p old new stack touches at isnt is
  list_kept Offered h words other homes places p old new stack touches at isnt is = is

  -- what is in front of the pushed list
  pub before_in : (b : Baton) (h : List (LockEntry T)) (words : List ℕ) (homes : List (Opt (Slot T))) (places : List PassPlace) (stack : List ℕ) → ListIs b h words homes places stack → (before : List ℕ) × (waiters_of h ≡ before ++ reverse stack)
  before_in Free h words homes places stack is = (is.popped, is.waiters)
  before_in (Owned q) h words homes places stack is = (is.popped, is.waiters)
  before_in (Duty q) h words homes places stack is = (pending is.task, is.waiters)
  before_in Offered h words homes places stack is = (is.0.popped, is.0.waiters)

  pub chain_stays : (b : Baton) (h : List (LockEntry T)) (words other : List ℕ) (homes : List (Opt (Slot T))) (places : List PassPlace) (p : ℕ) (stack : List ℕ) → Touches h words other p → slice_index other head_at ≡ slice_index words head_at → ListIs b h words homes places stack → IsChain (next_in words) (slice_index words head_at) stack → IsChain (next_in other) (slice_index other head_at) stack
  chain_stays b h words other homes places p stack touches head list is =
      let all = before_in b h words homes places stack list in
      let kept = chain_kept (next_in words) (next_in other) (slice_index words head_at) stack is (each_of (λ i. IsWaitingIn i (waiters_of h)) (λ i. next_in other i ≡ next_in words i) stack (next_waits h words other p touches) (stack_waits (waiters_of h) all.0 stack all.1)) in
      subst (λ k. IsChain (next_in other) k stack) (sym head) kept

  -- what the step owes
  pub record Owes (h : List (LockEntry T)) (words other : List ℕ) (places : List PassPlace) (b : Baton) (p : ℕ) (old new : PassPlace) : Type 0 where
    pub touches : Touches h words other p
    pub head : slice_index other head_at ≡ slice_index words head_at
    pub locked : slice_index other locked_at ≡ slice_index words locked_at
    pub handoff : slice_index other handoff_at ≡ slice_index words handoff_at
    pub line : is_in_line new ≡ is_in_line old
    pub before : is_before_push new ≡ is_before_push old
    pub held : is_holding old ≡ false
    pub holds : is_holding new ≡ false
    pub duty : is_duty old ≡ false
    pub is_at : IsAt h b p old → IsAt h b p new
    pub linked : LinkStands other p new
    pub named : NameStands h other p new
    pub numbered : IsNumbered new
    pub looker : b ≡ Offered → StillLooks (slice_index words handoff_at) old → (q : ℕ) × (place : PassPlace) × (get_elem? (set places p new) q ≡ some place) × StillLooks (slice_index words handoff_at) place

  pub quiet_stands : (passes : ℕ) (built : T) (h : List (LockEntry T)) (words other : List ℕ) (homes : List (Opt (Slot T))) (places : List PassPlace) (b : Baton) (stack : List ℕ) (p : ℕ) (old new : PassPlace) → Stands passes built h words homes places b stack → get_elem? places p ≡ some old → Owes h words other places b p old new → Stands passes built h other homes (set places p new) b stack
  quiet_stands passes built h words other homes places b stack p old new s at owes =
      let t = owes.touches in
      let counts : CountsStand h (slice_index words locked_at) (set places p new) = counts_after h h (slice_index words locked_at) (slice_index words locked_at) places p old new s.counts at (ap (λ k. slice_index words locked_at + bit k) (sym owes.line)) (ap (λ k. one_if (owner_of h) + length (waiters_of h) + bit k + slice_index words locked_at) owes.before) in
      record {
        long = t.long ∙ s.long;
        each = length-set places p new ∙ s.each;
        legal = s.legal;
        below = s.below;
        counts = subst (λ k. CountsStand h k (set places p new)) (sym owes.locked) counts;
        baton_stands = record {
          owner = s.baton_stands.owner;
          fit = subst (λ k. Rattle.co_mutex.specs.Rule.Fit b k (slice_index other handoff_at)) (sym owes.locked) (subst (λ k. Rattle.co_mutex.specs.Rule.Fit b (slice_index words locked_at) k) (sym owes.handoff) s.baton_stands.fit);
          each = each_set (IsAt h b) (IsAt h b) places p new s.baton_stands.each (owes.is_at (s.baton_stands.each p old at)) (λ q place ne atq k. k);
        };
        grants = each_set (λ q place. slice_index words (grant_at q) ≡ grant_word b q place) (λ q place. slice_index other (grant_at q) ≡ grant_word b q place) places p new s.grants (t.grants p ∙ s.grants p old at ∙ sym (grant_same b p old new (owes.holds ∙ sym owes.held))) (λ q place ne atq k. t.grants q ∙ k);
        value = value_kept built h homes places p old new at owes.held owes.holds s.value;
        lists = record {
          chain = chain_stays b h words other homes places p stack t owes.head s.lists.list s.lists.chain;
          list = list_kept b h words other homes places p old new stack t at owes.duty s.lists.list;
          linked = each_set (LinkStands words) (LinkStands other) places p new s.lists.linked owes.linked (λ q place ne atq k. linked_kept words other q place (t.next q ne) k);
        };
        names = record {
          waiting = λ q waits. ⊎_elim (λ e. subst (λ k. slice_index other (who_at k) ≡ coroutine_of k h) (sym e) ((t.own (subst (λ k. IsWaitingIn k (waiters_of h)) e waits)).1 ∙ s.names.waiting p (subst (λ k. IsWaitingIn k (waiters_of h)) e waits))) (λ ne. t.who q ne ∙ s.names.waiting q waits) (cases_eq q p);
          each = each_set (NameStands h words) (NameStands h other) places p new s.names.each owes.named (λ q place ne atq k. named_kept h words other q place (t.who q ne) k);
        };
        looks = record {
          numbered = each_set (λ q place. IsNumbered place) (λ q place. IsNumbered place) places p new s.looks.numbered owes.numbered (λ q place ne atq k. k);
          looker = λ offered. subst (λ k. (q : ℕ) × (place : PassPlace) × (get_elem? (set places p new) q ≡ some place) × StillLooks k place) (sym owes.handoff) (looks_on (slice_index words handoff_at) p places old new b at (owes.looker offered) (s.looks.looker offered));
        };
      }
