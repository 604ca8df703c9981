-- A poll of depth 1 takes the list once, and dequeues what it took, each once.
use Rattle.std.proofs.Common.{◌≡◌, Bool, true, false, eqb, [], ◌∷◌, ◌++◌, refl, sym, ap, ◌∙◌, append_assoc}
use Rattle.std.proofs.lemmas.Bool.{false≢true}
use Rattle.aio_model.specs.Loop.History.{Sizes, New, Enqueue, Put, Cancel, Take, Dequeue, Free, SetEvent, ClearEvent, History}
use Rattle.aio_model.specs.Loop.Lists.{out_of}
use Rattle.aio_model.specs.Loop.Legal.{IsLegal}
use Rattle.aio_model.specs.Loop.Seats.{home, entries_of}
use Rattle.aio_model.specs.Loop.Frame.{are_of_callback}
use Rattle.aio_model.proofs.AnnouncedOnce.{out_of-dequeue}
use Rattle.aio_bh.specs.Polling.{dequeued_in}
use Rattle.aio_bh.proofs.Entries.{rest_of_callback}

abbrev pub no_take : History → Bool
no_take [] = true
no_take (Take ∷ older) = false
no_take (_ ∷ older) = no_take older

pub no_take-append : (newer older : History) → no_take newer ≡ true → no_take older ≡ true → no_take (newer ++ older) ≡ true
no_take-append [] older n o = o
no_take-append (New i s j ∷ xs) older n o = no_take-append xs older n o
no_take-append (Enqueue i a s w ∷ xs) older n o = no_take-append xs older n o
no_take-append (Put i s ∷ xs) older n o = no_take-append xs older n o
no_take-append (Cancel i s w ∷ xs) older n o = no_take-append xs older n o
no_take-append (Take ∷ xs) older n o = absurd (false≢true n)
no_take-append (Dequeue i r ∷ xs) older n o = no_take-append xs older n o
no_take-append (Free i ∷ xs) older n o = no_take-append xs older n o
no_take-append (SetEvent e s ∷ xs) older n o = no_take-append xs older n o
no_take-append (ClearEvent e w ∷ xs) older n o = no_take-append xs older n o

pub no_take-callback : (xs : History) → are_of_callback (entries_of home xs) ≡ true → no_take xs ≡ true
no_take-callback [] q = refl
no_take-callback (New i s j ∷ xs) q = no_take-callback xs (rest_of_callback (eqb s 64) (New i s j) _ q)
no_take-callback (Enqueue i a s w ∷ xs) q = no_take-callback xs (rest_of_callback (eqb s 64) (Enqueue i a s w) _ q)
no_take-callback (Put i s ∷ xs) q = no_take-callback xs (rest_of_callback (eqb s 64) (Put i s) _ q)
no_take-callback (Cancel i s w ∷ xs) q = no_take-callback xs (rest_of_callback (eqb s 64) (Cancel i s w) _ q)
no_take-callback (Take ∷ xs) q = absurd (false≢true q)
no_take-callback (Dequeue i r ∷ xs) q = absurd (false≢true q)
no_take-callback (Free i ∷ xs) q = absurd (false≢true q)
no_take-callback (SetEvent e s ∷ xs) q = no_take-callback xs (rest_of_callback (eqb s 64) (SetEvent e s) _ q)
no_take-callback (ClearEvent e w ∷ xs) q = absurd (false≢true q)

-- Without a take, what was out is what was dequeued since and what is out still.
module _ (sizes : Sizes) (h : History) where
  pub out_since : (xs : History) → no_take xs ≡ true → IsLegal sizes (xs ++ h) → out_of h ≡ dequeued_in xs ++ out_of (xs ++ h)
  out_since [] n legal = refl
  out_since (New i s j ∷ xs) n legal = out_since xs n legal.1
  out_since (Enqueue i a s w ∷ xs) n legal = out_since xs n legal.1
  out_since (Put i s ∷ xs) n legal = out_since xs n legal.1
  out_since (Cancel i s w ∷ xs) n legal = out_since xs n legal.1
  out_since (Take ∷ xs) n legal = absurd (false≢true n)
  out_since (Dequeue i r ∷ xs) n legal =
      out_since xs n legal.1 ∙ ap (λ l. dequeued_in xs ++ l) (out_of-dequeue (xs ++ h) i r legal.0.0) ∙ sym (append_assoc (dequeued_in xs) (i ∷ []) (out_of (Dequeue i r ∷ (xs ++ h))))
  out_since (Free i ∷ xs) n legal = out_since xs n legal.1
  out_since (SetEvent e s ∷ xs) n legal = out_since xs n legal.1
  out_since (ClearEvent e w ∷ xs) n legal = out_since xs n legal.1
