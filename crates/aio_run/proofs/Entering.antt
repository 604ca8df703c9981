-- Each time that a coroutine was scheduled, it was pushed and entered.
use Rattle.std.proofs.Common.{◌≡◌, ℕ, ◌<◌, ◌≤◌, Bool, true, false, cond, eqb, [], ◌∷◌, refl, sym, ap, ◌∙◌, subst, arith}
use Rattle.std.proofs.lemmas.Bool.{eqb-true, ne_eqb, cases_lt}
use mathlib.Core.Logic.{⊎_elim}
use Rattle.aio_model.specs.declared.coroutines.causes.Cause.{Cause}
use Rattle.aio_model.specs.Coroutines.History.{Schedule, Push, Enter, History, CoPlace, Free, Scheduled, Pushed, pushed, co_place_of, IsLegal}
use Rattle.co_schedule.proofs.Histories.{first_is_pushed}
use Rattle.aio_run.specs.Serving.{entries_for, AreEntered}

-- the entries of a coroutine that stands there
abbrev StandSo : ℕ → CoPlace → History → Type 0
StandSo c Free entries = AreEntered entries
StandSo c (Scheduled seat given) entries = (cause : Cause) × (older : History) × (entries ≡ Schedule c cause given seat ∷ older) × AreEntered older
StandSo c (Pushed seat given) entries = (cause : Cause) × (older : History) × (entries ≡ Push c seat ∷ Schedule c cause given seat ∷ older) × AreEntered older

-- one entry more, which may be of another coroutine
chosen : (c : ℕ) (b : Bool) (p q : CoPlace) (more less : History) → (b ≡ true → StandSo c p more) → (b ≡ false → StandSo c q less) → StandSo c (cond b p q) (cond b more less)
chosen c true p q more less f g = f refl
chosen c false p q more less f g = g refl

when_pushed : (c d seat : ℕ) (given : Bool) (p : CoPlace) (entries : History) → c ≡ d → p ≡ Scheduled seat given → StandSo c p entries → StandSo c (pushed p) (Push d seat ∷ entries)
when_pushed c d seat given p entries same at was =
    let held : StandSo c (Scheduled seat given) entries = subst (λ (q : CoPlace). StandSo c q entries) at was in
    subst (λ (q : CoPlace). StandSo c (pushed q) (Push d seat ∷ entries)) (sym at)
    (subst (λ (e : ℕ). StandSo c (Pushed seat given) (Push e seat ∷ entries)) same
    (held.0, held.1, ap (λ (l : History). Push c seat ∷ l) held.2, held.3))

when_entered : (c d seat : ℕ) (given : Bool) (p : CoPlace) (entries : History) → p ≡ Pushed seat given → StandSo c p entries → AreEntered (Enter d ∷ entries)
when_entered c d seat given p entries at was =
    let held : StandSo c (Pushed seat given) entries = subst (λ (q : CoPlace). StandSo c q entries) at was in
    subst (λ (l : History). AreEntered (Enter d ∷ l)) (sym held.2) (refl, held.3)

stands : (n c : ℕ) (h : History) → IsLegal n h → StandSo c (co_place_of c h) (entries_for c h)
stands n c [] legal = tt
stands n c (Schedule d cause given seat ∷ older) legal =
    chosen c (eqb c d) (Scheduled seat given) (co_place_of c older) (Schedule d cause given seat ∷ entries_for c older) (entries_for c older)
    (λ same.
    let is : c ≡ d = eqb-true c d same in (
      cause,
      entries_for c older,
      ap (λ (e : ℕ). Schedule e cause given seat ∷ entries_for c older) (sym is),
      subst (λ (p : CoPlace). StandSo c p (entries_for c older)) (ap (λ (e : ℕ). co_place_of e older) is ∙ legal.0.1) (stands n c older legal.1),
    ))
    (λ other. stands n c older legal.1)
stands n c (Push d seat ∷ older) legal =
    chosen c (eqb c d) (pushed (co_place_of c older)) (co_place_of c older) (Push d seat ∷ entries_for c older) (entries_for c older)
    (λ same.
    let is : c ≡ d = eqb-true c d same in
    when_pushed c d seat legal.0.0 (co_place_of c older) (entries_for c older) is (ap (λ (e : ℕ). co_place_of e older) is ∙ legal.0.1) (stands n c older legal.1))
    (λ other. stands n c older legal.1)
stands n c (Enter d ∷ older) legal =
    chosen c (eqb c d) Free (co_place_of c older) (Enter d ∷ entries_for c older) (entries_for c older)
    (λ same.
    let is : c ≡ d = eqb-true c d same in
    let first = first_is_pushed n older d legal.1 legal.0 in
    when_entered c d first.0 first.1 (co_place_of c older) (entries_for c older) (ap (λ (e : ℕ). co_place_of e older) is ∙ first.2) (stands n c older legal.1))
    (λ other. stands n c older legal.1)

-- nothing is scheduled of a coroutine that there isn't
beyond : (n c : ℕ) (h : History) → IsLegal n h → n ≤ c → co_place_of c h ≡ Free
beyond n c [] legal le = refl
beyond n c (Schedule d cause given seat ∷ older) legal le =
    let apart : eqb c d ≡ false = ne_eqb c d (λ e. omega (arith, le, e, legal.0.0)) in
    ap (λ (b : Bool). cond b (Scheduled seat given) (co_place_of c older)) apart ∙ beyond n c older legal.1 le
beyond n c (Push d seat ∷ older) legal le =
    let was = beyond n c older legal.1 le in by (eqb c d) was
  where
    by : (b : Bool) → co_place_of c older ≡ Free → cond b (pushed (co_place_of c older)) (co_place_of c older) ≡ Free
    by true at = ap pushed at
    by false at = at
beyond n c (Enter d ∷ older) legal le = by (eqb c d) (beyond n c older legal.1 le)
  where
    by : (b : Bool) → co_place_of c older ≡ Free → cond b Free (co_place_of c older) ≡ Free
    by true at = refl
    by false at = at

-- in a legal history in which nothing is left
pub all_entered : (n : ℕ) (h : History) → IsLegal n h → ((c : ℕ) → c < n → co_place_of c h ≡ Free) → (c : ℕ) → AreEntered (entries_for c h)
all_entered n h legal free c =
    let at : co_place_of c h ≡ Free = ⊎_elim (λ (low : c < n). free c low) (λ (high : n ≤ c). beyond n c h legal high) (cases_lt c n) in
    subst (λ (p : CoPlace). StandSo c p (entries_for c h)) at (stands n c h legal)
