-- How a call stands in the history, from the entries that its steps made.
use Rattle.std.proofs.Common.{◌≡◌, ℕ, List, [], ◌∷◌, ◌++◌, refl, sym, ap, ◌∙◌, append_assoc}
use Rattle.aio_model.specs.Lock.History.{LockEntry, maker_of, made_by, value_of, IsLegalLock}
use Rattle.aio_model.specs.Lock.Notes.{IsNoted}
use Rattle.aio_model.specs.Lock.Seats.{StandsInLock}
use Rattle.co_mutex.specs.Known.{GoesOn}
use Rattle.co_mutex.proofs.Histories.{made_by-append, made_more, note_kept}

module _ {T : Type 0} (number : ℕ) where
  -- a call that made one entry
  pub stands_one : (e : LockEntry T) (older seen mine : List (LockEntry T)) → maker_of e ≡ number → GoesOn number seen mine older → IsLegalLock (e ∷ older) → StandsInLock number (e ∷ []) seen mine (e ∷ older) (e ∷ mine)
  stands_one e older seen mine by_it goes legal =
      record { rest = e ∷ goes.others; longer = ap (λ (l : List (LockEntry T)). e ∷ l) goes.longer; legal = legal; just_these = made_more number e goes.others by_it ∙ ap (λ (l : List (LockEntry T)). e ∷ l) goes.foreign; mine_grows = refl; all_mine = made_more number e older by_it ∙ ap (λ (l : List (LockEntry T)). e ∷ l) goes.all_mine; ends = (older, refl) }

  -- one that made another
  pub stands_more : (e : LockEntry T) (entries older seen mine seen1 mine1 : List (LockEntry T)) → maker_of e ≡ number → StandsInLock number entries seen mine seen1 mine1 → GoesOn number seen1 mine1 older → IsLegalLock (e ∷ older) → StandsInLock number (e ∷ entries) seen mine (e ∷ older) (e ∷ mine1)
  stands_more e entries older seen mine seen1 mine1 by_it s goes legal =
      record {
        rest = e ∷ (goes.others ++ s.rest);
        longer = ap (λ (l : List (LockEntry T)). e ∷ l) (goes.longer ∙ ap (λ (l : List (LockEntry T)). goes.others ++ l) s.longer ∙ sym (append_assoc goes.others s.rest seen));
        legal = legal;
        just_these = made_more number e (goes.others ++ s.rest) by_it ∙ ap (λ (l : List (LockEntry T)). e ∷ l) (made_by-append number goes.others s.rest ∙ ap (λ (l : List (LockEntry T)). l ++ made_by number s.rest) goes.foreign ∙ s.just_these);
        mine_grows = ap (λ (l : List (LockEntry T)). e ∷ l) s.mine_grows;
        all_mine = made_more number e older by_it ∙ ap (λ (l : List (LockEntry T)). e ∷ l) goes.all_mine;
        ends = (older, refl);
      }

  -- one that made none, and saw more
  pub stands_none : (seen mine all : List (LockEntry T)) → GoesOn number seen mine all → StandsInLock number [] seen mine all mine
  stands_none seen mine all goes =
      record { rest = goes.others; longer = goes.longer; legal = goes.legal; just_these = goes.foreign; mine_grows = refl; all_mine = goes.all_mine; ends = tt }

module _ {T N : Type 0} (note : T → ℕ → N) where
  -- the note of a pass is as its own last release left it
  pub own_note : (built : T) (p : ℕ) (seen mine : List (LockEntry T)) → IsNoted note built seen → made_by p seen ≡ mine → note (value_of built seen) p ≡ note (value_of built mine) p
  own_note built p seen mine noted e =
      note_kept note built p seen noted ∙ ap (λ (l : List (LockEntry T)). note (value_of built l) p) e
