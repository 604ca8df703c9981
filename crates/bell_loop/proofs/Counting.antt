-- Counting the lots that live.
use Rattle.std.proofs.Common.{◌≡◌, ◌⊎◌, ℕ, zero, suc, ◌+◌, ◌<◌, ◌≤◌, Bool, true, false, not, ◌&&◌, ◌||◌, cond, eqb, ltb, ◌∷◌, ◌++◌, arith, inl, inr, refl, sym, ap, ◌∙◌, subst}
use Rattle.std.proofs.lemmas.Bool.{false≢true, eq-eqb, ne_eqb, eqb-true, ltb-true, ltb-false}
use Rattle.aio_model.specs.declared.loops.flags.Flags.{Flags}
use Rattle.aio_model.specs.Loop.FlagsWord.{bit}
use Rattle.aio_model.specs.Loop.History.{Sizes, ToCallOnce, New, Enqueue, Put, History}
use Rattle.aio_model.specs.Loop.Flags.{is_pending, lives, flags_of}
use Rattle.aio_model.specs.Loop.Legal.{IsLegal}
use Rattle.aio_model.specs.Loop.Log.{Made, Log, history_of, asked_log, begun_log}
use Rattle.aio_model.specs.Loop.Seats.{home, entries_of}
use Rattle.aio_core.specs.Known.{Known}
use Rattle.aio_bh.specs.Enqueuing.{AddsOnly}
use Rattle.aio_bh.specs.OneShots.{one_shot_entries}
use Rattle.bell_loop.specs.Running.{IsAlone, Calm, Lots, PlacesTag, count_from, living_in}
use Rattle.bell_loop.proofs.Alone.{alone_parts}
use Rattle.bell_loop.proofs.Held.{NoneAnnounced-entry, NoneAnnounced-enqueue}

few_counted : (test : ℕ → Bool) (start more : ℕ) → count_from test start more ≤ more
few_counted test start zero = omega arith
few_counted test start (suc more) = one (test start) (few_counted test (suc start) more)
  where
    one : (b : Bool) → count_from test (suc start) more ≤ more → bit b + count_from test (suc start) more ≤ suc more
    one true h = omega (arith, h)
    one false h = omega (arith, h)

-- where all are counted each passes
pub all_counted : (test : ℕ → Bool) (start more : ℕ) → count_from test start more ≡ more → (i : ℕ) → start ≤ i → i < start + more → test i ≡ true
all_counted test start zero all i above below = absurd (omega (arith, above, below))
all_counted test start (suc more) all i above below =
    let few = few_counted test (suc start) more in
    let split = first (test start) refl few all in
    elim (at_start (eqb i start) refl) [
      | inl same ↦ subst (λ n. test n ≡ true) (sym same) split.0
      | inr other ↦ all_counted test (suc start) more split.1 i (omega (arith, above, other)) (omega (arith, below))
    ]
  where
    first : (b : Bool) → test start ≡ b → count_from test (suc start) more ≤ more → bit (test start) + count_from test (suc start) more ≡ suc more → (test start ≡ true) × (count_from test (suc start) more ≡ more)
    first true is few all = let one : bit (test start) ≡ 1 = ap bit is in (is, omega (arith, all, one))
    first false is few all = let none : bit (test start) ≡ 0 = ap bit is in absurd (omega (arith, all, none, few))

    at_start : (b : Bool) → eqb i start ≡ b → (i ≡ start) ⊎ (i ≡ start → ⊥)
    at_start true is = inl (eqb-true i start is)
    at_start false is = inr (λ same. false≢true (sym is ∙ eq-eqb i start same))

pub none_counted : (test : ℕ → Bool) (start more : ℕ) → ((i : ℕ) → test i ≡ false) → count_from test start more ≡ 0
none_counted test start zero none = refl
none_counted test start (suc more) none =
    let here : bit (test start) ≡ 0 = ap bit (none start) in
    let rest = none_counted test (suc start) more none in
    omega (arith, here, rest)

pub same_counted : (test other : ℕ → Bool) (start more : ℕ) → ((i : ℕ) → start ≤ i → other i ≡ test i) → count_from other start more ≡ count_from test start more
same_counted test other start zero same = refl
same_counted test other start (suc more) same =
    let here : bit (other start) ≡ bit (test start) = ap bit (same start (omega arith)) in
    let rest = same_counted test other (suc start) more (λ i above. same i (omega (arith, above))) in
    omega (arith, here, rest)

-- one more passes
pub one_counted : (test other : ℕ → Bool) (k start more : ℕ) → start ≤ k → k < start + more → test k ≡ false → other k ≡ true → ((i : ℕ) → (i ≡ k → ⊥) → other i ≡ test i) → count_from other start more ≡ count_from test start more + 1
one_counted test other k start zero above below dead alive same = absurd (omega (arith, above, below))
one_counted test other k start (suc more) above below dead alive same =
    by_start (eqb k start) refl (λ apart. one_counted test other k (suc start) more (omega (arith, above, apart)) (omega (arith, below)) dead alive same)
  where
    by_start : (b : Bool) → eqb k start ≡ b → ((k ≡ start → ⊥) → count_from other (suc start) more ≡ count_from test (suc start) more + 1) → bit (other start) + count_from other (suc start) more ≡ bit (test start) + count_from test (suc start) more + 1
    by_start true is later =
        let at : k ≡ start = eqb-true k start is in
        let one : bit (other start) ≡ 1 = ap bit (subst (λ n. other n ≡ true) at alive) in
        let none : bit (test start) ≡ 0 = ap bit (subst (λ n. test n ≡ false) at dead) in
        let rest = same_counted test other (suc start) more (λ i past. same i (λ e. omega (arith, e, at, past))) in
        omega (arith, one, none, rest)
    by_start false is later =
        let apart : k ≡ start → ⊥ = λ e. false≢true (sym is ∙ eq-eqb k start e) in
        let here : bit (other start) ≡ bit (test start) = ap bit (same start (λ e. apart (sym e))) in
        let rest = later apart in
        omega (arith, here, rest)

-- A one-shot.

alive_there : (lot job : ℕ) (flags : Flags) (h : History) (i : ℕ) → lives i (one_shot_entries lot job home flags ++ h) ≡ (eqb i lot || lives i h)
alive_there lot job flags h i = refl

Lots-placed : (lot job : ℕ) (flags : Flags) (h : History) → Lots (λ _. ⊥) h → Lots (λ _. ⊥) (one_shot_entries lot job home flags ++ h)
Lots-placed lot job flags h before i alive = by_lot (eqb i lot) refl
  where
    by_lot : (b : Bool) → eqb i lot ≡ b → (is_pending i (one_shot_entries lot job home flags ++ h) ≡ true) ⊎ ⊥
    by_lot true same = inl (rw same refl)
    by_lot false other =
        elim (before i (rw other at alive)) [
          | inl pending ↦ inl (rw other pending)
          | inr never ↦ absurd never
        ]

module _ (sizes : Sizes) (tag : ℕ) (a b : Known) (lot : ℕ) (flags : Flags) (number : a.first ≡ 64) (same_sizes : a.sizes ≡ sizes) (first : flags.pending ≡ false)
    (stands : AddsOnly (one_shot_entries lot tag a.first flags) a b) where
  seen_alone : IsAlone b.seen → b.seen ≡ one_shot_entries lot tag home flags ++ a.seen
  seen_alone alone =
      let s = stands.stands.stands in
      let parts = alone_parts s.rest a.seen (subst IsAlone s.longer alone) in
      s.longer ∙ ap (λ l. l ++ a.seen) (sym parts.0 ∙ ap (λ n. entries_of n s.rest) (sym number) ∙ s.just_these ∙ ap (λ n. one_shot_entries lot tag n flags) number)

  legal_alone : IsAlone b.seen → IsLegal sizes (one_shot_entries lot tag home flags ++ a.seen)
  legal_alone alone =
      subst (λ z. IsLegal z (one_shot_entries lot tag home flags ++ a.seen)) same_sizes (subst (IsLegal a.sizes) (seen_alone alone) stands.stands.stands.legal)

  log_of : (log : Log) → flags ≡ flags_of lot (New lot home tag ∷ history_of log) → history_of (begun_log lot home tag log) ≡ one_shot_entries lot tag home flags ++ history_of log
  log_of log is =
      let same : eqb lot lot ≡ true = eq-eqb lot lot refl in
      let none : is_pending lot (New lot home tag ∷ history_of log) ≡ false = rw same refl in
      ap (λ b. history_of (cond b (asked_log lot ToCallOnce home (Made (New lot home tag) ∷ log)) (Made (Put lot home) ∷ asked_log lot ToCallOnce home (Made (New lot home tag) ∷ log)))) none
      ∙ ap (λ f. Put lot home ∷ (Enqueue lot ToCallOnce home f ∷ (New lot home tag ∷ history_of log))) (sym is)

  pub PlacesTag-of : (living living_after : ℕ) → (living ≤ sizes.lots → living_after ≡ living + 1) → PlacesTag sizes tag living living_after a.seen b.seen
  PlacesTag-of living living_after counts = record {
    lot = lot;
    goes = record {
      between = stands.stands.stands.rest;
      longer = stands.stands.stands.longer;
      at = λ alone log is.
          let legal = legal_alone alone in
          let were : flags ≡ flags_of lot (New lot home tag ∷ history_of log) = legal.1.0.1 ∙ ap (λ h. flags_of lot (New lot home tag ∷ h)) (sym is) in
          (log_of log were ∙ ap (λ h. one_shot_entries lot tag home flags ++ h) is ∙ sym (seen_alone alone), (legal.1.1.0.0, ap (lives lot) is ∙ legal.1.1.0.1));
      calm = λ alone calm.
          let begun = NoneAnnounced-entry (New lot home tag) a.seen (λ k. refl) calm.announced in
          subst Calm (sym (seen_alone alone)) record {
            none_out = calm.none_out;
            announced = NoneAnnounced-enqueue sizes lot ToCallOnce flags false (New lot home tag ∷ a.seen) first (legal_alone alone) begun;
            lots = Lots-placed lot tag flags a.seen calm.lots;
          };
    };
    counts = λ alone is.
        let legal = legal_alone alone in
        let lot_is = legal.1.1.0.0 in
        let bounds = within (ltb lot sizes.handles) (ltb lot (sizes.handles + sizes.lots)) refl refl lot_is in
        let same : eqb lot lot ≡ true = eq-eqb lot lot refl in
        let few = few_counted (λ i. lives i a.seen) sizes.handles sizes.lots in
        let more = one_counted (λ i. lives i a.seen) (λ i. lives i (one_shot_entries lot tag home flags ++ a.seen)) lot sizes.handles sizes.lots bounds.0 bounds.1 legal.1.1.0.1 (rw same refl) (λ i other. let e : eqb i lot ≡ false = ne_eqb i lot other in rw e refl) in
        counts (omega (arith, is, few)) ∙ ap (λ n. n + 1) is ∙ sym more ∙ ap (living_in sizes) (sym (seen_alone alone));
  }
    where
      within : (a b : Bool) → ltb lot sizes.handles ≡ a → ltb lot (sizes.handles + sizes.lots) ≡ b → (not a && b) ≡ true → (sizes.handles ≤ lot) × (lot < sizes.handles + sizes.lots)
      within true b x y h = absurd (false≢true h)
      within false true x y h = (ltb-false lot sizes.handles x, ltb-true lot (sizes.handles + sizes.lots) y)
      within false false x y h = absurd (false≢true h)
