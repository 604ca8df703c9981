-- The load of what follows the first of the first slice keeps the rule.
use Rattle.std.proofs.Common.{Option, ◌≡◌, ℕ, ◌+◌, ◌<◌, ◌≤◌, true, false, Some, None, List, ◌∷◌, refl, sym, ap, ◌∙◌, subst, arith}
use mathlib.Core.Option.{none}
use Rattle.atomic_table.specs.Table.{Me, keeps, step, Allows}
use Rattle.aio_model.specs.Loop.History.{Sizes}
use Rattle.aio_model.specs.Loop.Lists.{out_of}
use Rattle.aio_model.specs.Loop.Seats.{owns, home}
use Rattle.aio_core.specs.Words.{next_at, index_count, next_in}
use Rattle.aio_core.specs.Known.{NextLoad, Known, numbers_of}
use Rattle.aio_core.specs.Rule.{is_at_hand, IsOut, NoneEmpty, HasOut, Kept}
use Rattle.aio_core.specs.Standing.{done, without_first, Lifts}
use Rattle.aio_core.specs.Plays.{next_loaded}
use Rattle.aio_core.proofs.Seats.{same_view}
use Rattle.aio_core.proofs.Slots.{same_entry, no_lot_here, slots_kept}
use Rattle.aio_core.proofs.Histories.{out_below}
use Rattle.aio_core.proofs.Keeping.{load_stands}
use Rattle.aio_core.proofs.Sleeping.{same_flight}
use Rattle.aio_core.proofs.Sliced.{out_lifted, none_empty-lifted, lifted_word_below}

abbrev pub after_lift : Known → ℕ → ℕ → List ℕ → Known
after_lift v i found more =
    record v { did = done NextLoad (next_at i) found ∷ v.did; stage = record { slices = without_first found more; hand = Some i; job = None } }

same_first : (i j : ℕ) (more others : List ℕ) → (i + 1) ∷ more ≡ (j + 1) ∷ others → i ≡ j
same_first i j more others e =
    let firsts : i + 1 ≡ j + 1 = cc in omega arith

same_rest : (i j : ℕ) (more others : List ℕ) → (i + 1) ∷ more ≡ (j + 1) ∷ others → more ≡ others
same_rest i j more others e = cc

pub lift_allowed : {J : Type 0} (number : J → ℕ) (sizes : Sizes) (slots id i : ℕ) (more : List ℕ) (me : Me (Option J) Known) → 0 < me.0.count → owns (numbers_of me.0) home ≡ true → i < sizes.handles → me.0.stage.slices ≡ (i + 1) ∷ more → me.0.stage.hand ≡ None → Allows (Kept number sizes) slots id me (next_at i) (λ n. n) (next_loaded (step slots (next_at i) 0 0 none) me)
lift_allowed number sizes slots id i more me numbered is_home handle slices hand s kept long at fits =
    let h = kept.0 in
    let stand = kept.1 in
    let v = me.0 in
    let found = next_in s.words i in
    let now = stand.lists.out id v at is_home in
    let out : IsOut (next_in s.words) ((i + 1) ∷ more) None (out_of h) = subst (λ o. IsOut (next_in s.words) ((i + 1) ∷ more) o (out_of h)) hand (subst (λ l. IsOut (next_in s.words) l v.stage.hand (out_of h)) slices now.0) in
    let full : NoneEmpty ((i + 1) ∷ more) = subst NoneEmpty slices now.1 in
    let w = after_lift v i found more in
    let has : HasOut s.words h w = λ own. (out_lifted (next_in s.words) i more (out_of h) out, none_empty-lifted (next_in s.words) i more full.1) in
    let low : found ≤ index_count v.sizes = subst (λ z. found ≤ index_count z) (sym ((stand.seats.tables id v at).sizes_are numbered)) (lifted_word_below (next_in s.words) i (index_count sizes) more (out_of h) out (out_below sizes h stand.legal)) in
    let told : Lifts i found None more v w = record { below = low; rest = refl } in
    (w, keeps, tt, (h, load_stands sizes h s.words s.views id (next_at i) v w stand at numbered (same_view v w refl refl refl) refl refl (stand.lists.owed id v at) has (record { step = done NextLoad (next_at i) found; longer = refl; sleep_is = refl; flight = same_flight v.phase v.phase refl }), slots_kept number sizes h h s.homes s.views id me.0 w kept.2 at refl (λ m low. (same_entry h (sizes.handles + m), record { hand = no_lot_here sizes.handles m i handle ∙ sym (ap (is_at_hand (sizes.handles + m)) hand); job = λ e. absurd (let none_held : false ≡ true = sym (ap (is_at_hand (sizes.handles + m)) hand) ∙ e in cc) }))), (refl, λ j others eq. let both = sym slices ∙ eq in let index : i ≡ j = same_first i j more others both in let rest : more ≡ others = same_rest i j more others both in subst (λ k. Lifts k found None others v w) index (subst (λ l. Lifts i found None l v w) rest told)))
