-- Where home alone makes the history, nothing is announced between two of its calls, and a lot that lives is pending.
use Rattle.std.proofs.Common.{◌≡◌, ℕ, ◌<◌, Bool, true, false, not, ◌&&◌, ◌||◌, cond, eqb, List, [], ◌∷◌, ◌++◌, arith, inl, inr, refl, sym, ap, ◌∙◌, subst, append_assoc}
use Rattle.std.proofs.lemmas.Bool.{false≢true, eqb-true, ne_eqb}
use Rattle.aio_model.specs.declared.loops.flags.Flags.{Flags}
use Rattle.aio_model.specs.declared.scripts.loop_scripts.ActKind.{ActKind}
use Rattle.aio_model.specs.declared.scripts.loop_scripts.ActKind.TheVariants.{Schedule, Idle, Delete, Cancel as CancelOf, Nest}
use Rattle.aio_model.specs.Loop.History.{Sizes, EnqueueAsks, ToCall, ToCallIdle, ToDelete, Entry, Enqueue, Put, Cancel, History}
use Rattle.aio_model.specs.Loop.Flags.{is_pending, ends_round, enqueues, puts}
use Rattle.aio_model.specs.Loop.Lists.{was_put, is_set, out_of}
use Rattle.aio_model.specs.Loop.Legal.{IsLegal, MayAsk}
use Rattle.aio_model.specs.Loop.Seats.{home}
use Rattle.aio_model.specs.Scripts.LoopActs.{Add, made_by_act}
use Rattle.aio_model.proofs.Rounds.{legal_cut}
use Rattle.aio_model.specs.Loop.FlagsWord.{bit}
use Rattle.bell_loop.specs.Running.{NoneAnnounced, Lots, StackBelow}

-- one entry that is no enqueue
announced_step : (ends was_e puts_e p w : Bool) → was_e ≡ false → (p && not w) ≡ false → (cond ends false (was_e || p) && not (cond ends false (puts_e || w))) ≡ false
announced_step true was_e puts_e p w none h = refl
announced_step false true puts_e p w none h = absurd (false≢true (sym none))
announced_step false false true true w none h = refl
announced_step false false true false w none h = refl
announced_step false false false p w none h = h

pub NoneAnnounced-entry : (e : Entry) (h : History) → ((i : ℕ) → enqueues i e ≡ false) → NoneAnnounced h → NoneAnnounced (e ∷ h)
NoneAnnounced-entry e h none before i =
    announced_step (ends_round i e) (enqueues i e) (puts i e) (is_pending i h) (was_put i h) (none i) (before i)

-- an enqueue that found it pending
pending_again : (same p w : Bool) → (same ≡ true → p ≡ true) → (p && not w) ≡ false → ((same || p) && not (w)) ≡ false
pending_again true true w found h = h
pending_again true false w found h = absurd (false≢true (found refl))
pending_again false p w found h = h

-- an enqueue, and the push of what it found not pending
put_after : (same p w : Bool) → (p && not w) ≡ false → ((same || p) && not (same || w)) ≡ false
put_after true p w h = refl
put_after false p w h = h

pub NoneAnnounced-enqueue : (sizes : Sizes) (k : ℕ) (asked : EnqueueAsks) (flags : Flags) (b : Bool) (h : History) → flags.pending ≡ b → IsLegal sizes (cond b (Enqueue k asked home flags ∷ []) (Put k home ∷ (Enqueue k asked home flags ∷ [])) ++ h) → NoneAnnounced h → NoneAnnounced (cond b (Enqueue k asked home flags ∷ []) (Put k home ∷ (Enqueue k asked home flags ∷ [])) ++ h)
NoneAnnounced-enqueue sizes k asked flags true h found legal before i =
    let was : is_pending k h ≡ true = ap (λ (f : Flags). f.pending) (sym legal.0.1) ∙ found in
    pending_again (eqb i k) (is_pending i h) (was_put i h) (λ same. subst (λ n. is_pending n h ≡ true) (sym (eqb-true i k same)) was) (before i)
NoneAnnounced-enqueue sizes k asked flags false h found legal before i =
    put_after (eqb i k) (is_pending i h) (was_put i h) (before i)

pub NoneAnnounced-act : (sizes : Sizes) (what : ActKind) (was : Flags) (h : History) → IsLegal sizes (made_by_act what was ++ h) → NoneAnnounced h → NoneAnnounced (made_by_act what was ++ h)
NoneAnnounced-act sizes (Schedule k) was h legal before = NoneAnnounced-enqueue sizes k _ was was.pending h refl legal before
NoneAnnounced-act sizes (Idle k) was h legal before = NoneAnnounced-enqueue sizes k _ was was.pending h refl legal before
NoneAnnounced-act sizes (Delete k) was h legal before = NoneAnnounced-enqueue sizes k _ was was.pending h refl legal before
NoneAnnounced-act sizes (CancelOf k) was h legal before = NoneAnnounced-entry (Cancel k home was) h (λ i. refl) before
NoneAnnounced-act sizes Nest was h legal before = before

pub NoneAnnounced-acts : (sizes : Sizes) (todo : List ActKind) (made h : History) → Add todo made → IsLegal sizes (made ++ h) → NoneAnnounced h → NoneAnnounced (made ++ h)
NoneAnnounced-acts sizes [] made h none legal before =
    subst (λ m. NoneAnnounced (m ++ h)) (sym none) before
NoneAnnounced-acts sizes (what ∷ todo) made h adds legal before =
    let here : made ++ h ≡ adds.1 ++ (made_by_act what adds.0 ++ h) = ap (λ m. m ++ h) adds.2 ∙ append_assoc adds.1 (made_by_act what adds.0) h in
    let legal_here : IsLegal sizes (adds.1 ++ (made_by_act what adds.0 ++ h)) = subst (IsLegal sizes) here legal in
    subst NoneAnnounced (sym here) (NoneAnnounced-acts sizes todo adds.1 (made_by_act what adds.0 ++ h) adds.3 legal_here (NoneAnnounced-act sizes what adds.0 h (legal_cut sizes adds.1 (made_by_act what adds.0 ++ h) legal_here) before))

-- Lots.

or_true : (a b : Bool) → b ≡ true → (a || b) ≡ true
or_true true b h = refl
or_true false b h = h

pub Lots-enqueue : (X : ℕ → Type 0) (k : ℕ) (asked : EnqueueAsks) (flags : Flags) (b : Bool) (h : History) → Lots X h → Lots X (cond b (Enqueue k asked home flags ∷ []) (Put k home ∷ (Enqueue k asked home flags ∷ [])) ++ h)
Lots-enqueue X k asked flags true h before i alive =
    elim (before i alive) [
      | inl pending ↦ inl (or_true (eqb i k) (is_pending i h) pending)
      | inr other ↦ inr other
    ]
Lots-enqueue X k asked flags false h before i alive =
    elim (before i alive) [
      | inl pending ↦ inl (or_true (eqb i k) (is_pending i h) pending)
      | inr other ↦ inr other
    ]

Lots-act : (X : ℕ → Type 0) (what : ActKind) (was : Flags) (h : History) → Lots X h → Lots X (made_by_act what was ++ h)
Lots-act X (Schedule k) was h before = Lots-enqueue X k _ was was.pending h before
Lots-act X (Idle k) was h before = Lots-enqueue X k _ was was.pending h before
Lots-act X (Delete k) was h before = Lots-enqueue X k _ was was.pending h before
Lots-act X (CancelOf k) was h before = before
Lots-act X Nest was h before = before

pub Lots-acts : (X : ℕ → Type 0) (todo : List ActKind) (made h : History) → Add todo made → Lots X h → Lots X (made ++ h)
Lots-acts X [] made h none before = subst (λ m. Lots X (m ++ h)) (sym none) before
Lots-acts X (what ∷ todo) made h adds before =
    let here : made ++ h ≡ adds.1 ++ (made_by_act what adds.0 ++ h) = ap (λ m. m ++ h) adds.2 ∙ append_assoc adds.1 (made_by_act what adds.0) h in
    subst (Lots X) (sym here) (Lots-acts X todo adds.1 (made_by_act what adds.0 ++ h) adds.3 (Lots-act X what adds.0 h before))

-- what callbacks push are handles

StackBelow-enqueue : (sizes : Sizes) (k : ℕ) (asked : EnqueueAsks) (flags : Flags) (b : Bool) (h : History) → k < sizes.handles → StackBelow sizes h → StackBelow sizes (cond b (Enqueue k asked home flags ∷ []) (Put k home ∷ (Enqueue k asked home flags ∷ [])) ++ h)
StackBelow-enqueue sizes k asked flags true h below before = before
StackBelow-enqueue sizes k asked flags false h below before = λ i above.
    let other : eqb i k ≡ false = ne_eqb i k (λ same. omega (arith, same, below, above)) in
    let zero_here : bit (eqb i k) ≡ 0 = ap bit other in
    omega (arith, zero_here, before i above)

handle_of : (sizes : Sizes) (k : ℕ) (asked : EnqueueAsks) (flags : Flags) (b : Bool) (h : History) → (MayAsk sizes k asked home h → k < sizes.handles) → IsLegal sizes (cond b (Enqueue k asked home flags ∷ []) (Put k home ∷ (Enqueue k asked home flags ∷ [])) ++ h) → k < sizes.handles
handle_of sizes k asked flags true h may legal = may legal.0.2
handle_of sizes k asked flags false h may legal = may legal.1.0.2

StackBelow-act : (sizes : Sizes) (what : ActKind) (was : Flags) (h : History) → IsLegal sizes (made_by_act what was ++ h) → StackBelow sizes h → StackBelow sizes (made_by_act what was ++ h)
StackBelow-act sizes (Schedule k) was h legal before = StackBelow-enqueue sizes k _ was was.pending h (handle_of sizes k ToCall was was.pending h (λ m. m) legal) before
StackBelow-act sizes (Idle k) was h legal before = StackBelow-enqueue sizes k _ was was.pending h (handle_of sizes k ToCallIdle was was.pending h (λ m. m) legal) before
StackBelow-act sizes (Delete k) was h legal before = StackBelow-enqueue sizes k _ was was.pending h (handle_of sizes k ToDelete was was.pending h (λ m. m) legal) before
StackBelow-act sizes (CancelOf k) was h legal before = before
StackBelow-act sizes Nest was h legal before = before

pub StackBelow-acts : (sizes : Sizes) (todo : List ActKind) (made h : History) → Add todo made → IsLegal sizes (made ++ h) → StackBelow sizes h → StackBelow sizes (made ++ h)
StackBelow-acts sizes [] made h none legal before =
    subst (λ m. StackBelow sizes (m ++ h)) (sym none) before
StackBelow-acts sizes (what ∷ todo) made h adds legal before =
    let here : made ++ h ≡ adds.1 ++ (made_by_act what adds.0 ++ h) = ap (λ m. m ++ h) adds.2 ∙ append_assoc adds.1 (made_by_act what adds.0) h in
    let legal_here : IsLegal sizes (adds.1 ++ (made_by_act what adds.0 ++ h)) = subst (IsLegal sizes) here legal in
    subst (StackBelow sizes) (sym here) (StackBelow-acts sizes todo adds.1 (made_by_act what adds.0 ++ h) adds.3 legal_here (StackBelow-act sizes what adds.0 h (legal_cut sizes adds.1 (made_by_act what adds.0 ++ h) legal_here) before))

-- What is out, and which events are set.

pub out-enqueue : (k : ℕ) (asked : EnqueueAsks) (flags : Flags) (b : Bool) (h : History) → out_of (cond b (Enqueue k asked home flags ∷ []) (Put k home ∷ (Enqueue k asked home flags ∷ [])) ++ h) ≡ out_of h
out-enqueue k asked flags true h = refl
out-enqueue k asked flags false h = refl

set-enqueue : (e k : ℕ) (asked : EnqueueAsks) (flags : Flags) (b : Bool) (h : History) → is_set e (cond b (Enqueue k asked home flags ∷ []) (Put k home ∷ (Enqueue k asked home flags ∷ [])) ++ h) ≡ is_set e h
set-enqueue e k asked flags true h = refl
set-enqueue e k asked flags false h = refl

set-act : (e : ℕ) (what : ActKind) (was : Flags) (h : History) → is_set e (made_by_act what was ++ h) ≡ is_set e h
set-act e (Schedule k) was h = set-enqueue e k ToCall was was.pending h
set-act e (Idle k) was h = set-enqueue e k ToCallIdle was was.pending h
set-act e (Delete k) was h = set-enqueue e k ToDelete was was.pending h
set-act e (CancelOf k) was h = refl
set-act e Nest was h = refl

-- an action leaves the events
pub set-acts : (e : ℕ) (todo : List ActKind) (made h : History) → Add todo made → is_set e (made ++ h) ≡ is_set e h
set-acts e [] made h none = ap (λ m. is_set e (m ++ h)) none
set-acts e (what ∷ todo) made h adds =
    let here : made ++ h ≡ adds.1 ++ (made_by_act what adds.0 ++ h) = ap (λ m. m ++ h) adds.2 ∙ append_assoc adds.1 (made_by_act what adds.0) h in
    ap (is_set e) here ∙ set-acts e todo adds.1 (made_by_act what adds.0 ++ h) adds.3 ∙ set-act e what adds.0 h
