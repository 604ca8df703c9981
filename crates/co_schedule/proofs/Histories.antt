-- What a legal history tells of one coroutine, and of those that are pushed and not entered.
use Rattle.std.proofs.Common.{◌≡◌, ◌≢◌, ℕ, ◌+◌, ◌<◌, ◌≤◌, Bool, true, false, cond, ◌||◌, eqb, Some, List, [], ◌∷◌, ◌++◌, length, drop, refl, sym, ap, ◌∙◌, subst, arith}
use Rattle.std.proofs.lemmas.Bool.{eqb-true, eq-eqb, ne_eqb}
use Rattle.aio_model.specs.Loop.FlagsWord.{bit}
use Rattle.aio_model.specs.Loop.Lists.{head_of}
use Rattle.aio_model.specs.Loop.Laws.{times_of}
use Rattle.aio_model.proofs.Indices.{times_of-append, drop-head}
use Rattle.aio_chain.specs.LinkList.{contains, IsEachOnce}
use Rattle.aio_chain.proofs.Chains.{Each}
use Rattle.aio_chain.proofs.Contained.{length-le_room}
use Rattle.aio_model.specs.Coroutines.History.{Entry, Schedule, Push, Enter, History, CoPlace, Free, Scheduled, Pushed, pushed, co_place_of, queue_of, IsLegal}
use Rattle.aio_model.proofs.CoroutineHistories.{is_free}

-- Places.

abbrev pub is_pushed : CoPlace → Bool
is_pushed Free = false
is_pushed (Scheduled s g) = false
is_pushed (Pushed s g) = true

-- what an entry does to the place of its coroutine
abbrev pub moved : Entry → CoPlace → CoPlace
moved (Schedule d cause given s) p = Scheduled s given
moved (Push d s) p = pushed p
moved (Enter d) p = Free

abbrev pub co_of : Entry → ℕ
co_of (Schedule d cause given s) = d
co_of (Push d s) = d
co_of (Enter d) = d

pub place_here : (e : Entry) (h : History) → co_place_of (co_of e) (e ∷ h) ≡ moved e (co_place_of (co_of e) h)
place_here (Schedule d cause given s) h = let same : eqb d d ≡ true = eq-eqb d d refl in rw same refl
place_here (Push d s) h = let same : eqb d d ≡ true = eq-eqb d d refl in rw same refl
place_here (Enter d) h = let same : eqb d d ≡ true = eq-eqb d d refl in rw same refl

pub place_else : (c : ℕ) (e : Entry) (h : History) → c ≢ co_of e → co_place_of c (e ∷ h) ≡ co_place_of c h
place_else c (Schedule d cause given s) h ne = let other : eqb c d ≡ false = ne_eqb c d ne in rw other refl
place_else c (Push d s) h ne = let other : eqb c d ≡ false = ne_eqb c d ne in rw other refl
place_else c (Enter d) h ne = let other : eqb c d ≡ false = ne_eqb c d ne in rw other refl

-- a coroutine that stands somewhere is one of the table's
pub place_below : (n : ℕ) (h : History) (c : ℕ) → IsLegal n h → is_free (co_place_of c h) ≡ false → c < n
place_below n [] c legal busy = absurd cc
place_below n (Schedule d cause given s ∷ P) c legal busy = by (eqb c d) refl busy (place_below n P c legal.1)
  where
    by : (b : Bool) → eqb c d ≡ b → is_free (cond b (Scheduled s given) (co_place_of c P)) ≡ false → (is_free (co_place_of c P) ≡ false → c < n) → c < n
    by true e k more = subst (λ i. i < n) (sym (eqb-true c d e)) legal.0.0
    by false e k more = more k
place_below n (Push d s ∷ P) c legal busy = by (eqb c d) busy (place_below n P c legal.1)
  where
    was : (p : CoPlace) → is_free (pushed p) ≡ false → is_free p ≡ false
    was Free k = k
    was (Scheduled t g) k = refl
    was (Pushed t g) k = refl

    by : (b : Bool) → is_free (cond b (pushed (co_place_of c P)) (co_place_of c P)) ≡ false → (is_free (co_place_of c P) ≡ false → c < n) → c < n
    by true k more = more (was (co_place_of c P) k)
    by false k more = more k
place_below n (Enter d ∷ P) c legal busy = by (eqb c d) busy (place_below n P c legal.1)
  where
    by : (b : Bool) → is_free (cond b Free (co_place_of c P)) ≡ false → (is_free (co_place_of c P) ≡ false → c < n) → c < n
    by true k more = absurd cc
    by false k more = more k

-- The queue.

pub queue_head : (P : History) (d : ℕ) → head_of (queue_of P) ≡ Some d → queue_of P ≡ d ∷ drop 1 (queue_of P)
queue_head P d h = drop-head 0 (queue_of P) d h

-- a coroutine stands in the queue once where it was pushed, and not at all else
pub once : (n : ℕ) (h : History) (c : ℕ) → IsLegal n h → times_of c (queue_of h) ≡ bit (is_pushed (co_place_of c h))
once n [] c legal = refl
once n (Schedule d cause given s ∷ P) c legal = by (eqb c d) refl (once n P c legal.1)
  where
    by : (b : Bool) → eqb c d ≡ b → times_of c (queue_of P) ≡ bit (is_pushed (co_place_of c P)) → times_of c (queue_of P) ≡ bit (is_pushed (cond b (Scheduled s given) (co_place_of c P)))
    by true e older = older ∙ ap (λ p. bit (is_pushed p)) (ap (λ i. co_place_of i P) (eqb-true c d e) ∙ legal.0.1)
    by false e older = older
once n (Push d s ∷ P) c legal = by (eqb c d) refl (once n P c legal.1)
  where
    by : (b : Bool) → eqb c d ≡ b → times_of c (queue_of P) ≡ bit (is_pushed (co_place_of c P)) → times_of c (queue_of P ++ d ∷ []) ≡ bit (is_pushed (cond b (pushed (co_place_of c P)) (co_place_of c P)))
    by true e older =
        let was : co_place_of c P ≡ Scheduled s legal.0.0 = ap (λ i. co_place_of i P) (eqb-true c d e) ∙ legal.0.1 in
        let before : times_of c (queue_of P) ≡ 0 = older ∙ ap (λ p. bit (is_pushed p)) was in
        let now : times_of c (d ∷ []) ≡ 1 = rw e refl in
        let sum = times_of-append c (queue_of P) (d ∷ []) in
        sum ∙ ap (λ k. k + times_of c (d ∷ [])) before ∙ ap (λ k. 0 + k) now ∙ sym (ap (λ p. bit (is_pushed (pushed p))) was)
    by false e older =
        let now : times_of c (d ∷ []) ≡ 0 = rw e refl in
        let sum = times_of-append c (queue_of P) (d ∷ []) in
        let before = older in
        omega (arith, sum, now, before)
once n (Enter d ∷ P) c legal = by (eqb c d) refl (once n P c legal.1)
  where
    counted : times_of c (queue_of P) ≡ bit (eqb c d) + times_of c (drop 1 (queue_of P))
    counted = ap (times_of c) (queue_head P d legal.0)

    most : (b : Bool) (k : ℕ) → 1 + k ≡ bit b → k ≡ 0
    most true k e = omega arith
    most false k e = absurd (omega arith)

    by : (b : Bool) → eqb c d ≡ b → times_of c (queue_of P) ≡ bit (is_pushed (co_place_of c P)) → times_of c (drop 1 (queue_of P)) ≡ bit (is_pushed (cond b Free (co_place_of c P)))
    by true e older =
        let all = ap (λ (k : Bool). bit k + times_of c (drop 1 (queue_of P))) (sym e) ∙ sym counted ∙ older in
        most (is_pushed (co_place_of c P)) (times_of c (drop 1 (queue_of P))) all
    by false e older =
        let all : times_of c (queue_of P) ≡ 0 + times_of c (drop 1 (queue_of P)) = counted ∙ ap (λ (k : Bool). bit k + times_of c (drop 1 (queue_of P))) e in
        let before = older in
        omega (arith, all, before)

-- a fact of each member, from how often it stands there
pub each_by_times : (P : ℕ → Type 0) (xs : List ℕ) → ((i : ℕ) → 1 ≤ times_of i xs → P i) → Each P xs
each_by_times P [] h = tt
each_by_times P (x ∷ xs) h =
    let here : eqb x x ≡ true = eq-eqb x x refl in
    let once : 1 ≤ times_of x (x ∷ xs) = rw here (omega arith) in
    (h x once, each_by_times P xs (λ i more. h i (omega (arith, more))))

queued : (p : CoPlace) (t : ℕ) → t ≡ bit (is_pushed p) → 1 ≤ t → is_free p ≡ false
queued Free t e k = absurd (omega arith)
queued (Scheduled s g) t e k = refl
queued (Pushed s g) t e k = refl

pub queue_below : (n : ℕ) (h : History) → IsLegal n h → Each (λ c. c < n) (queue_of h)
queue_below n h legal =
    each_by_times (λ c. c < n) (queue_of h) (λ c there. place_below n h c legal (queued (co_place_of c h) (times_of c (queue_of h)) (once n h c legal) there))

-- what is scheduled and not pushed isn't in the queue
pub scheduled_alone : (n : ℕ) (h : History) (c s : ℕ) (given : Bool) → IsLegal n h → co_place_of c h ≡ Scheduled s given → Each (λ d. c ≢ d) (queue_of h)
scheduled_alone n h c s given legal is =
    let none : times_of c (queue_of h) ≡ 0 = once n h c legal ∙ ap (λ p. bit (is_pushed p)) is in
    each_by_times (λ d. c ≢ d) (queue_of h) (λ d there same. let here : 1 ≤ times_of c (queue_of h) = subst (λ k. 1 ≤ times_of k (queue_of h)) (sym same) there in omega arith)

-- the first of the queue was pushed
pub first_is_pushed : (n : ℕ) (h : History) (c : ℕ) → IsLegal n h → head_of (queue_of h) ≡ Some c → (s : ℕ) × (given : Bool) × (co_place_of c h ≡ Pushed s given)
first_is_pushed n h c legal first =
    let here : eqb c c ≡ true = eq-eqb c c refl in
    let counted : times_of c (queue_of h) ≡ bit (eqb c c) + times_of c (drop 1 (queue_of h)) = ap (times_of c) (queue_head h c first) in
    let one : times_of c (queue_of h) ≡ 1 + times_of c (drop 1 (queue_of h)) = counted ∙ ap (λ (k : Bool). bit k + times_of c (drop 1 (queue_of h))) here in
    of (co_place_of c h) refl (sym (once n h c legal) ∙ one)
  where
    of : (p : CoPlace) → co_place_of c h ≡ p → bit (is_pushed p) ≡ 1 + times_of c (drop 1 (queue_of h)) → (s : ℕ) × (given : Bool) × (co_place_of c h ≡ Pushed s given)
    of Free e k = absurd (omega arith)
    of (Scheduled s g) e k = absurd (omega arith)
    of (Pushed s g) e k = (s, g, e)

-- no coroutine stands in the queue twice, so there are no more than the table's
pub queue_few : (n : ℕ) (h : History) → IsLegal n h → length (queue_of h) ≤ n
queue_few n h legal =
    length-le_room (queue_of h) n (each_once (queue_of h) (λ c. at_most (is_pushed (co_place_of c h)) (times_of c (queue_of h)) (once n h c legal))) (λ c there. place_below n h c legal (queued (co_place_of c h) (times_of c (queue_of h)) (once n h c legal) (in_list c (queue_of h) there)))
  where
    at_most : (b : Bool) (t : ℕ) → t ≡ bit b → t ≤ 1
    at_most true t e = omega arith
    at_most false t e = omega arith

    in_list : (c : ℕ) (xs : List ℕ) → contains c xs ≡ true → 1 ≤ times_of c xs
    in_list c [] there = absurd cc
    in_list c (x ∷ xs) there = one (eqb c x) there (in_list c xs)
      where
        one : (b : Bool) → (b || contains c xs) ≡ true → (contains c xs ≡ true → 1 ≤ times_of c xs) → 1 ≤ bit b + times_of c xs
        one true t k = omega arith
        one false t k = let more = k t in omega arith

    not_in : (c : ℕ) (xs : List ℕ) → times_of c xs ≡ 0 → contains c xs ≡ false
    not_in c [] none = refl
    not_in c (x ∷ xs) none = one (eqb c x) none (not_in c xs)
      where
        one : (b : Bool) → bit b + times_of c xs ≡ 0 → (times_of c xs ≡ 0 → contains c xs ≡ false) → (b || contains c xs) ≡ false
        one true t k = absurd (omega arith)
        one false t k = k (omega arith)

    each_once : (xs : List ℕ) → ((c : ℕ) → times_of c xs ≤ 1) → IsEachOnce xs
    each_once [] most = tt
    each_once (x ∷ xs) most =
        let same : eqb x x ≡ true = eq-eqb x x refl in
        let here : times_of x (x ∷ xs) ≡ 1 + times_of x xs = rw same refl in
        let one = most x in
        (not_in x xs (omega arith), each_once xs (λ c. let more = most c in omega arith))
