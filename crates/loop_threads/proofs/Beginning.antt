-- Parts as they are put together of homes, hands and rows.
use Rattle.std.proofs.Common.{◌≡◌, ℕ, ◌<◌, ◌≤◌, ◌+◌, ◌-◌, ◌*◌, false, List, [], ◌∷◌, ◌++◌, length, slice_index_or, subst, sym, ◌∙◌, refl, arith}
use Rattle.std.proofs.lemmas.List.{get_or_default}
use Rattle.loop_rows.specs.declared.shared.LoopShared.{LoopShared}
use Rattle.loop_rows.specs.declared.rows.Row.{Row}
use Rattle.loop_rows.specs.declared.opening.Homes.{Homes}
use Rattle.loop_threads.specs.declared.hands.Hand.{Hand}
use Rattle.loop_threads.specs.declared.parts.Part.{Part}
use Rattle.loop_rows.specs.LoopStates.{LoopState, IsStation}
use Rattle.loop_rows.specs.Rows.{IsRow, HasNumbers}
use Rattle.loop_rows.specs.Opening.{AreHomesOf}
use Rattle.loop_threads.specs.Parts.{IsLoopPart, loop_of}
use Rattle.loop_threads.specs.Running.{CanBegin}
use Rattle.loop_rows.proofs.Places.{at_push, longer}
use Rattle.loop_threads.proofs.Membership.{taken_last}

-- one more is put together of the last of those that are left
pub begin_more : {A B X : Type 0} (P : A → B → X → Type 0) (xs all rest : List A) (ys allb restb : List B) (parts : List X) (a : A) (b : B) (x : X) (n : ℕ) → all ≡ rest ++ a ∷ [] → allb ≡ restb ++ b ∷ [] → length all ≡ length allb → length all + length parts ≡ n → n ≤ length xs → n ≤ length ys
    → slice_index_or all (length rest) a ≡ slice_index_or xs (length rest) a → slice_index_or allb (length restb) b ≡ slice_index_or ys (length restb) b → P a b x
    → ((k j : ℕ) (h : A) (d : B) (p : X) → k + j + 1 ≡ n → j < length parts → P (slice_index_or xs k h) (slice_index_or ys k d) (slice_index_or parts j p))
    → (k j : ℕ) (h : A) (d : B) (p : X) → k + j + 1 ≡ n → j < length parts + 1 → P (slice_index_or xs k h) (slice_index_or ys k d) (slice_index_or (parts ++ x ∷ []) j p)
begin_more {A} {B} {X} P xs all rest ys allb restb parts a b x n ea eb same long fewa fewb sa sb here was k j h d p at lt =
    at_push (λ (i : ℕ) (y : X). k + i + 1 ≡ n → P (slice_index_or xs k h) (slice_index_or ys k d) y) parts (length parts) x refl
    (λ now.
    let ka : length rest ≡ k = omega (arith, now, long, longer all rest a ea) in
    let kb : length restb ≡ k = omega (arith, now, long, same, longer all rest a ea, longer allb restb b eb) in
    subst (λ (i : ℕ). P (slice_index_or xs i h) (slice_index_or ys k d) x) ka
    (subst (λ (u : A). P u (slice_index_or ys k d) x) (taken_last xs all rest a ea sa ∙ get_or_default xs (length rest) a h (omega (arith, long, fewa, longer all rest a ea)))
    (subst (λ (i : ℕ). P a (slice_index_or ys i d) x) kb
    (subst (λ (v : B). P a v x) (taken_last ys allb restb b eb sb ∙ get_or_default ys (length restb) b d (omega (arith, long, same, fewb, longer allb restb b eb))) here))))
    j p lt (λ low before. was k j h d p before low) at

abbrev pub part_of : {C W O : Type 0} → ℕ → Homes C O → Hand W → Row C O → Part C W O
part_of number homes hand row =
    record { number = number; home = homes.home; side = hand.side; lot_pass = homes.lot_pass; coroutines = homes.coroutines; row = row; work = hand.work; carried = false }

pub part_begins : {C W O : Type 0} (can_work : W → List (LoopShared C O) → LoopState C O → Type 0) (shared : List (LoopShared C O)) (number : ℕ) (homes : Homes C O) (hand : Hand W) (row : Row C O) → number < length shared → ((t : LoopShared C O) → AreHomesOf (slice_index_or shared number t) homes)
    → CanBegin can_work shared number homes hand → IsRow shared row → HasNumbers ((64 - 2 * length shared) + 2 * number) 2 row → (part : Part C W O) → part ≡ part_of number homes hand row → IsLoopPart can_work shared part
part_begins {C} {W} {O} can_work shared number homes hand row lt are can is has part e =
    let station : IsStation shared (loop_of (part_of number homes hand row)) = record { within = lt; home = λ t. (are t).home; walking = can.walking; lots = λ t. (are t).lots; coroutines = λ t. (are t).coroutines; row = is } in
    subst (IsLoopPart can_work shared) (sym e) (record { station = station; numbers = has; ready = can.ready (loop_of (part_of number homes hand row)) refl refl refl refl refl station })
