-- The steps of who has the duty, up to the grant: head swap, next load, who load.
use Rattle.std.proofs.Common.{◌≡◌, ◌≢◌, ℕ, ◌+◌, ◌<◌, inl, List, [], ◌∷◌, ◌++◌, reverse, slice_index, set, length, length-set, refl, sym, ap, ◌∙◌, subst, arith}
use mathlib.Core.Option.{Option as Opt, some, some-injective}
use lib.ListN.{get_elem?}
use Rattle.atomic_table.proofs.Lists.{set_here}
use Rattle.aio_chain.specs.Chains.{IsChain}
use Rattle.aio_chain.proofs.Chains.{Each, chain_kept, none_taken}
use Rattle.aio_model.specs.Lock.History.{LockEntry, IsWaitingIn, waiters_of}
use Rattle.co_mutex.specs.Places.{Side, Locking, Unlocking, Task, ToPop, Walking, Nobody, Granting, PassPlace, OnDuty, is_in_line, IsNumbered, pending}
use Rattle.co_mutex.specs.LockWords.{locked_at, handoff_at, head_at, next_at, grant_at, who_at, next_in}
use Rattle.co_mutex.specs.declared.slot.Slot.{Slot}
use Rattle.co_mutex.specs.Rule.{Baton, Duty, Offered, Fit, IsAt, CountsStand, grant_word, IsTask, IsWith, ListIs, LinkStands, NameStands, Stands}
use Rattle.co_mutex.proofs.Counting.{bit}
use Rattle.co_mutex.proofs.Frames.{read_here, read_else, each_set, linked_kept, counts_after}
use Rattle.co_mutex.proofs.ListSteps.{taken_last, walked_on, walk_of}
use Rattle.co_mutex.proofs.Quiet.{named_kept, grant_same, value_kept}
use Rattle.co_mutex.proofs.QuietSteps.{at_low}

-- of the words none changes but the head
pub record HeadOnly (words other : List ℕ) : Type 0 where
  pub long : length other ≡ length words
  pub locked : slice_index other locked_at ≡ slice_index words locked_at
  pub handoff : slice_index other handoff_at ≡ slice_index words handoff_at
  pub grants : (q : ℕ) → slice_index other (grant_at q) ≡ slice_index words (grant_at q)
  pub next : (q : ℕ) → next_in other q ≡ next_in words q
  pub who : (q : ℕ) → slice_index other (who_at q) ≡ slice_index words (who_at q)

pub line_task : (side : Side) (t u : Task) → is_in_line (OnDuty side u) ≡ is_in_line (OnDuty side t)
line_task Locking t u = refl
line_task Unlocking t u = refl

module _ {T : Type 0} where
  pub at_task : (h : List (LockEntry T)) (b : Baton) (p : ℕ) (side : Side) (t u : Task) → IsAt h b p (OnDuty side t) → IsAt h b p (OnDuty side u)
  at_task h b p Locking t u is = is
  at_task h b p Unlocking t u is = is

  pub at_duty : (h : List (LockEntry T)) (b : Baton) (p : ℕ) (side : Side) (t : Task) → IsAt h b p (OnDuty side t) → b ≡ Duty p
  at_duty h b p Locking t is = is.0
  at_duty h b p Unlocking t is = is.0

module _ {T : Type 0} (n : ℕ) (built : T) (h : List (LockEntry T)) (words : List ℕ) (homes : List (Opt (Slot T))) (places : List PassPlace) (b : Baton) (stack : List ℕ) (s : Stands n built h words homes places b stack) (p : ℕ) (side : Side) (t : Task) (at : get_elem? places p ≡ some (OnDuty side t)) where
  pub mine : b ≡ Duty p
  mine = at_duty h b p side t (s.baton_stands.each p (OnDuty side t) at)

  pub with_me : IsWith p h words homes places stack
  with_me = subst (λ k. ListIs k h words homes places stack) mine s.lists.list

  pub task_is : with_me.task ≡ t
  task_is =
      let same : OnDuty with_me.side with_me.task ≡ OnDuty side t = some-injective _ _ (sym with_me.place ∙ at) in
      cc

  pub duty_stands : (u : Task) (other stack2 : List ℕ) → HeadOnly words other → IsChain (next_in other) (slice_index other head_at) stack2 → IsTask (next_in other) u → waiters_of h ≡ pending u ++ reverse stack2 → NameStands h other p (OnDuty side u) → Stands n built h other homes (set places p (OnDuty side u)) b stack2
  duty_stands u other stack2 only chain task waiters named =
      let new = OnDuty side u in
      let old = OnDuty side t in
      let low = at_low places p old at in
      let list : IsWith p h other homes (set places p new) stack2 = record { side = side; task = u; place = set_here places p new low; gone = with_me.gone; tasked = task; waiters = waiters } in
      record {
        long = only.long ∙ s.long;
        each = length-set places p new ∙ s.each;
        legal = s.legal;
        below = s.below;
        counts = subst (λ k. CountsStand h k (set places p new)) (sym only.locked) (counts_after h h (slice_index words locked_at) (slice_index words locked_at) places p old new s.counts at (ap (λ k. slice_index words locked_at + bit k) (line_task side u t)) refl);
        baton_stands = record {
          owner = s.baton_stands.owner;
          fit = subst (λ k. Fit b k (slice_index other handoff_at)) (sym only.locked) (subst (λ k. Fit b (slice_index words locked_at) k) (sym only.handoff) s.baton_stands.fit);
          each = each_set (IsAt h b) (IsAt h b) places p new s.baton_stands.each (at_task h b p side t u (s.baton_stands.each p old at)) (λ q place ne atq k. k);
        };
        grants = each_set (λ q place. slice_index words (grant_at q) ≡ grant_word b q place) (λ q place. slice_index other (grant_at q) ≡ grant_word b q place) places p new s.grants (only.grants p ∙ s.grants p old at ∙ sym (grant_same b p old new refl)) (λ q place ne atq k. only.grants q ∙ k);
        value = value_kept built h homes places p old new at refl refl s.value;
        lists = record {
          chain = chain;
          list = subst (λ k. ListIs k h other homes (set places p new) stack2) (sym mine) list;
          linked = each_set (LinkStands words) (LinkStands other) places p new s.lists.linked tt (λ q place ne atq k. linked_kept words other q place (only.next q) k);
        };
        names = record {
          waiting = λ q waits. only.who q ∙ s.names.waiting q waits;
          each = each_set (NameStands h words) (NameStands h other) places p new s.names.each named (λ q place ne atq k. named_kept h words other q place (only.who q) k);
        };
        looks = record {
          numbered = each_set (λ q place. IsNumbered place) (λ q place. IsNumbered place) places p new s.looks.numbered tt (λ q place ne atq k. k);
          looker = λ o. absurd (let e : Duty p ≡ Offered = sym mine ∙ o in cc);
        };
      }

  pub same_words : HeadOnly words words
  same_words = record { long = refl; locked = refl; handoff = refl; grants = λ q. refl; next = λ q. refl; who = λ q. refl }

  pub head_set : (x : ℕ) → HeadOnly words (set words head_at x)
  head_set x =
      record {
        long = length-set words head_at x;
        locked = read_else words head_at locked_at x (λ q. omega arith);
        handoff = read_else words head_at handoff_at x (λ q. omega arith);
        grants = λ q. read_else words head_at (grant_at q) x (λ e. omega arith);
        next = λ q. read_else words head_at (next_at q) x (λ e. omega arith);
        who = λ q. read_else words head_at (who_at q) x (λ e. omega arith);
      }

  head_fits : head_at < length words
  head_fits = let long = s.long in omega (arith, long)

  pub waiters_now : waiters_of h ≡ pending t ++ reverse stack
  waiters_now = with_me.waiters ∙ ap (λ k. pending k ++ reverse stack) task_is

  -- the head swap that found a waiter
  pub swap_found : t ≡ ToPop [] → slice_index words head_at ≢ 0 → Stands n built h (set words head_at 0) homes (set places p (OnDuty side (Walking (slice_index words head_at) stack []))) b []
  swap_found is there =
      let word = slice_index words head_at in
      let all = waiters_now ∙ ap (λ k. pending k ++ reverse stack) is in
      duty_stands (Walking word stack []) (set words head_at 0) [] (head_set 0) (read_here words head_at 0 head_fits) (omega (arith, there), chain_kept (next_in words) (next_in (set words head_at 0)) word stack s.lists.chain (every stack (head_set 0).next)) (taken_last (waiters_of h) stack word all) tt
    where
      every : (xs : List ℕ) → ((q : ℕ) → next_in (set words head_at 0) q ≡ next_in words q) → Each (λ i. next_in (set words head_at 0) i ≡ next_in words i) xs
      every [] f = tt
      every (x ∷ xs) f = (f x, every xs f)

  -- the head swap that found 0
  pub swap_empty : t ≡ ToPop [] → slice_index words head_at ≡ 0 → Stands n built h (set words head_at 0) homes (set places p (OnDuty side Nobody)) b []
  swap_empty is empty =
      let bare : stack ≡ [] = none_taken (next_in words) (slice_index words head_at) stack s.lists.chain empty in
      let all = waiters_now ∙ ap (λ k. pending k ++ reverse stack) is ∙ ap reverse bare in
      duty_stands Nobody (set words head_at 0) [] (head_set 0) (read_here words head_at 0 head_fits) tt all tt

  -- a locker's duty always finds one
  pub swap_finds : side ≡ Locking → t ≡ ToPop [] → slice_index words head_at ≢ 0
  swap_finds lock is empty =
      let bare : stack ≡ [] = none_taken (next_in words) (slice_index words head_at) stack s.lists.chain empty in
      let all : waiters_of h ≡ [] = waiters_now ∙ ap (λ k. pending k ++ reverse stack) is ∙ ap reverse bare in
      let waits = (subst (λ k. IsAt h b p (OnDuty k t)) lock (s.baton_stands.each p (OnDuty side t) at)).1 in
      subst (IsWaitingIn p) all waits

  -- a next load: the word leads to a waiter, and it is put in front of those that were found
  pub record Steps (word : ℕ) (left found : List ℕ) : Type 0 where
    pub q : ℕ
    pub word_is : word ≡ q + 1
    pub rest : List ℕ
    pub left_is : left ≡ q ∷ rest
    pub chain : IsChain (next_in words) (next_in words q) rest
    pub more : next_in words q ≢ 0 → Stands n built h words homes (set places p (OnDuty side (Walking (next_in words q) rest (q ∷ found)))) b stack
    pub last : next_in words q ≡ 0 → Stands n built h words homes (set places p (OnDuty side (ToPop (q ∷ found)))) b stack

  pub next_loaded : (word : ℕ) (left found : List ℕ) → t ≡ Walking word left found → Steps word left found
  next_loaded word left found is =
      let task : IsTask (next_in words) (Walking word left found) = subst (IsTask (next_in words)) (task_is ∙ is) with_me.tasked in
      let w = walk_of (next_in words) word left task.0 task.1 in
      let all = waiters_now ∙ ap (λ k. pending k ++ reverse stack) (is ∙ ap (λ (l : List ℕ). Walking word l found) w.left_is) in
      let on = walked_on (waiters_of h) w.rest found stack w.q word (next_in words w.q) all in
      record {
        q = w.q;
        word_is = w.word_is;
        rest = w.rest;
        left_is = w.left_is;
        chain = w.chain;
        more = λ there. duty_stands (Walking (next_in words w.q) w.rest (w.q ∷ found)) words stack same_words s.lists.chain (omega (arith, there), w.chain) on tt;
        last = λ end. duty_stands (ToPop (w.q ∷ found)) words stack same_words s.lists.chain tt (on ∙ ap (λ (l : List ℕ). (reverse l ++ w.q ∷ found) ++ reverse stack) (none_taken (next_in words) (next_in words w.q) w.rest w.chain end)) tt;
      }

  -- the who load
  pub who_loaded : (q : ℕ) (rest : List ℕ) → t ≡ ToPop (q ∷ rest) → Stands n built h words homes (set places p (OnDuty side (Granting q (slice_index words (who_at q)) rest))) b stack
  who_loaded q rest is =
      let all = waiters_now ∙ ap (λ k. pending k ++ reverse stack) is in
      duty_stands (Granting q (slice_index words (who_at q)) rest) words stack same_words s.lists.chain tt all (s.names.waiting q (subst (IsWaitingIn q) (sym all) (inl refl)))
