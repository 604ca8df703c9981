-- Rows, seat by seat.
use Rattle.std.proofs.Common.{◌≡◌, ℕ, ◌<◌, ◌+◌, List, [], ◌∷◌, ◌++◌, length, slice_index_or, slice_set, subst, sym, ap, ◌∙◌, refl, arith}
use Rattle.std.proofs.lemmas.List.{get_or_at, get_or_default}
use Rattle.loop_rows.proofs.Places.{at_set, of_read, as_read}
use Rattle.loop_rows.specs.declared.shared.LoopShared.{LoopShared}
use Rattle.loop_rows.specs.declared.seats.Seats.{Seats}
use Rattle.loop_rows.specs.Rows.{AreSeatsOf, EachAt, Unites, DividesEach, UnitesEach}

-- the same numbers, written otherwise
pub renumbered : {C O : Type 0} {shared : LoopShared C O} {seats : Seats C O} {first first' count count' : ℕ} → first ≡ first' → count ≡ count' → AreSeatsOf first count shared seats → AreSeatsOf first' count' shared seats
renumbered e f at = record {
  bottoms = at.bottoms;
  coroutines = at.coroutines;
  first_is = at.first_is ∙ e;
  count_is = at.count_is ∙ f;
  co_first_is = at.co_first_is ∙ e;
  co_count_is = at.co_count_is ∙ f;
}

-- what stays, and what goes
pub stay_each : {C O : Type 0} (shared : List (LoopShared C O)) (before after other : List (Seats C O)) (n first count half : ℕ) → EachAt n first count shared before → DividesEach n half shared before after other → EachAt n first half shared after
stay_each shared before after other n first count half was divides k t s lt =
    renumbered (was k t s lt).first_is refl (divides k t s s s lt).stays

pub go_each : {C O : Type 0} (shared : List (LoopShared C O)) (before after other : List (Seats C O)) (n first count half : ℕ) → EachAt n first count shared before → DividesEach n half shared before after other → EachAt n (first + half) half shared other
go_each shared before after other n first count half was divides k t s lt =
    renumbered (ap (λ (x : ℕ). x + half) (was k t s lt).first_is) refl (divides k t s s s lt).goes

pub unite_each : {C O : Type 0} (shared : List (LoopShared C O)) (before other after : List (Seats C O)) (n first count second more : ℕ) → EachAt n first count shared before → EachAt n second more shared other → UnitesEach 0 n shared before other after → EachAt n first (count + more) shared after
unite_each shared before other after n first count second more was also unites k t s lt =
    let b = was k t s lt in let o = also k t s lt in
    renumbered b.first_is (omega (arith, b.count_is, o.count_is)) (unites k t s s s (omega arith) lt).is_at

-- the last seat of a row that is taken from its end
pub popped_seat : {C O : Type 0} (shared : List (LoopShared C O)) (orig all rest : List (Seats C O)) (n first count : ℕ) (t : LoopShared C O) (v : Seats C O) → all ≡ rest ++ v ∷ [] → length rest ≡ n → ((d : Seats C O) → slice_index_or all n d ≡ slice_index_or orig n d)
    → n < length shared → t ≡ slice_index_or shared n t → EachAt (length shared) first count shared orig → AreSeatsOf first count t v
popped_seat shared orig all rest n first count t v e long same lt at each =
    let here : v ≡ slice_index_or orig n v = sym (ap (λ l. slice_index_or l n v) e ∙ get_or_at rest v [] v n long) ∙ same v in
    as_read (λ (x : LoopShared _ _) (y : Seats _ _). AreSeatsOf first count x y) shared orig n t v at here (each n t v lt)

-- one more was put together
pub united_more : {C O : Type 0} (shared : List (LoopShared C O)) (olds others news : List (Seats C O)) (low n high : ℕ) (t : LoopShared C O) (b o v : Seats C O) → low ≡ n → high ≡ n + 1 → n < length shared → n < length news → n < length olds → n < length others
    → t ≡ slice_index_or shared n t → b ≡ slice_index_or olds n b → o ≡ slice_index_or others n o → Unites t b o v
    → UnitesEach high (length shared) shared olds others news → UnitesEach low (length shared) shared olds others (slice_set news n v)
united_more shared olds others news low n high t b o v el eh lt ln lo lp at also third here was k x y z a l h =
    at_set (λ (j : ℕ) (w : Seats _ _). Unites (slice_index_or shared j x) (slice_index_or olds j y) (slice_index_or others j z) w) news n v ln
    (subst (λ (w : Seats _ _). Unites (slice_index_or shared n x) (slice_index_or olds n y) w v) (third ∙ get_or_default others n o z lp)
    (of_read (λ (p : LoopShared _ _) (q : Seats _ _). Unites p q o v) shared olds n t b lt lo at also here x y))
    k a (λ ne. was k x y z a (grind (arith, l, ne, el, eh)) h)
