-- How the counts of the home's steps add up.
use Rattle.std.proofs.Common.{◌≡◌, ℕ, ◌+◌, true, [], ◌∷◌, ◌++◌, refl, arith}
use Rattle.std.proofs.lemmas.Bool.{false≢true}
use Rattle.aio_model.specs.Loop.History.{New, Enqueue, Put, Cancel, Take, Dequeue, Free, SetEvent, ClearEvent, History}
use Rattle.aio_model.specs.Loop.Frame.{are_of_callback}
use Rattle.aio_bh.specs.HomeSteps.{steps_for}

pub added_up : (c b a t f s : ℕ) → c ≡ b + t → b ≡ a + f → s ≡ t + f → c ≡ a + s
added_up c b a t f s h k l = omega arith

pub none_added : (b a s : ℕ) → b ≡ a → s ≡ 0 → b ≡ a + s
none_added b a s h k = omega arith

pub more_added : (b a n s : ℕ) → b ≡ a + n → s ≡ 0 → b ≡ a + (s + n)
more_added b a n s h k = omega arith

pub two_steps : (c b a : ℕ) → c ≡ b + 1 → b ≡ a + 1 → c ≡ a + 2
two_steps c b a h k = omega arith

pub steps_for-append : (newer older : History) → steps_for (newer ++ older) ≡ steps_for newer + steps_for older
steps_for-append [] older = omega arith
steps_for-append (New i s j ∷ xs) older = steps_for-append xs older
steps_for-append (Enqueue i a s w ∷ xs) older = steps_for-append xs older
steps_for-append (Put i s ∷ xs) older = steps_for-append xs older
steps_for-append (Cancel i s w ∷ xs) older = steps_for-append xs older
steps_for-append (Take ∷ xs) older = omega (arith, steps_for-append xs older)
steps_for-append (Dequeue i r ∷ xs) older = omega (arith, steps_for-append xs older)
steps_for-append (Free i ∷ xs) older = omega (arith, steps_for-append xs older)
steps_for-append (SetEvent e s ∷ xs) older = steps_for-append xs older
steps_for-append (ClearEvent e w ∷ xs) older = steps_for-append xs older

-- a callback makes no entry that takes one
pub steps_for-callback : (made : History) → are_of_callback made ≡ true → steps_for made ≡ 0
steps_for-callback [] h = refl
steps_for-callback (New i s j ∷ xs) h = steps_for-callback xs h
steps_for-callback (Enqueue i a s w ∷ xs) h = steps_for-callback xs h
steps_for-callback (Put i s ∷ xs) h = steps_for-callback xs h
steps_for-callback (Cancel i s w ∷ xs) h = steps_for-callback xs h
steps_for-callback (Take ∷ xs) h = absurd (false≢true h)
steps_for-callback (Dequeue i r ∷ xs) h = absurd (false≢true h)
steps_for-callback (Free i ∷ xs) h = absurd (false≢true h)
steps_for-callback (SetEvent e s ∷ xs) h = steps_for-callback xs h
steps_for-callback (ClearEvent e w ∷ xs) h = absurd (false≢true h)
