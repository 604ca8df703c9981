-- The laws of legal histories of coroutines.
use Rattle.std.proofs.Common.{◌≡◌, ℕ, Bool, true, false, cond, ◌||◌, eqb, List, [], ◌∷◌, ◌++◌, drop, refl, sym, ap, ◌∙◌, append_assoc}
use Rattle.std.proofs.lemmas.Bool.{eq-eqb}
use Rattle.aio_model.specs.declared.coroutines.causes.Cause.{Cause}
use Rattle.aio_model.specs.Coroutines.History.{Schedule, Push, Enter, History, CoPlace, Free, Scheduled, Pushed, pushed, co_place_of, queue_of, IsLegal}
use Rattle.aio_model.specs.Coroutines.Laws.{entered_of, IsInOrder, enters, some_entry, IsEnteredBetween}
use Rattle.aio_model.proofs.Indices.{drop-head}

abbrev pub is_free : CoPlace → Bool
is_free Free = true
is_free (Scheduled seat given) = false
is_free (Pushed seat given) = false

pub in_order : IsInOrder
in_order n [] legal = refl
in_order n (Schedule c cause given s ∷ P) legal = in_order n P legal.1
in_order n (Push c s ∷ P) legal =
    ap (λ (l : List ℕ). l ++ c ∷ []) (in_order n P legal.1) ∙ append_assoc (entered_of P) (queue_of P) (c ∷ [])
in_order n (Enter c ∷ P) legal =
    in_order n P legal.1 ∙ ap (λ (l : List ℕ). entered_of P ++ l) (drop-head 0 (queue_of P) c legal.0) ∙ sym (append_assoc (entered_of P) (c ∷ []) (drop 1 (queue_of P)))

pub legal_cut : (n : ℕ) (newer older : History) → IsLegal n (newer ++ older) → IsLegal n older
legal_cut n [] older h = h
legal_cut n (e ∷ newer) older h = legal_cut n newer older h.1

is_free-pushed : (p : CoPlace) → is_free (pushed p) ≡ is_free p
is_free-pushed Free = refl
is_free-pushed (Scheduled s g) = refl
is_free-pushed (Pushed s g) = refl

scheduled_on : (b : Bool) (s : ℕ) (g : Bool) (p : CoPlace) → is_free p ≡ false → is_free (cond b (Scheduled s g) p) ≡ false
scheduled_on true s g p older = refl
scheduled_on false s g p older = older

pushed_on : (b : Bool) (p : CoPlace) → is_free p ≡ false → is_free (cond b (pushed p) p) ≡ false
pushed_on true p older = is_free-pushed p ∙ older
pushed_on false p older = older

entered_on : (b rest : Bool) (p : CoPlace) → (b || rest) ≡ false → (rest ≡ false → is_free p ≡ false) → is_free (cond b Free p) ≡ false
entered_on true rest p none older = absurd cc
entered_on false rest p none older = older none

-- what isn't entered stays scheduled or pushed
still_there : (between older : History) (c s : ℕ) (cause : Cause) (g : Bool) → some_entry (enters c) between ≡ false → is_free (co_place_of c (between ++ (Schedule c cause g s ∷ older))) ≡ false
still_there [] older c s cause g none =
    let here : eqb c c ≡ true = eq-eqb c c refl in
    rw here refl
still_there (Schedule d why a t ∷ between) older c s cause g none =
    scheduled_on (eqb c d) t a (co_place_of c (between ++ (Schedule c cause g s ∷ older))) (still_there between older c s cause g none)
still_there (Push d t ∷ between) older c s cause g none =
    pushed_on (eqb c d) (co_place_of c (between ++ (Schedule c cause g s ∷ older))) (still_there between older c s cause g none)
still_there (Enter d ∷ between) older c s cause g none =
    entered_on (eqb c d) (some_entry (enters c) between) (co_place_of c (between ++ (Schedule c cause g s ∷ older))) none (still_there between older c s cause g)

pub entered_between : IsEnteredBetween
entered_between n newer between older c second first g2 g1 s2 s1 legal =
    of (some_entry (enters c) between) refl
  where
    of : (b : Bool) → some_entry (enters c) between ≡ b → b ≡ true
    of true is = refl
    of false is =
        absurd (let busy = still_there between older c s1 first g1 is in let free = ap is_free (legal_cut n newer (Schedule c second g2 s2 ∷ (between ++ (Schedule c first g1 s1 ∷ older))) legal).0.1 in cc)
