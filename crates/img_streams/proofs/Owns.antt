-- A stream's own note over a turn at the lock.
use Rattle.std.proofs.Common.{◌≡◌, ℕ, ◌<◌, Bool, Option, List, length, slice_index, sym, ap, ◌∙◌, arith}
use Rattle.aio_model.specs.Lock.History.{value_of}
use Rattle.co_state.specs.declared.cx.CoId.{CoId}
use Rattle.co_mutex.specs.declared.lock.CoMutex.{CoMutex}
use Rattle.co_mutex.specs.declared.lock.Pass.{Pass}
use Rattle.co_mutex.specs.Calls.{co_id_word, Unlocks}
use Rattle.co_mutex.specs.Passes.{IsPassOf, built_of, known}
use Rattle.img_shared.specs.Images.{ImageState}
use Rattle.img_shared.specs.Journals.{noted_count}
use Rattle.img_shared.specs.Notes.{Note, note}
use Rattle.img_join.proofs.Accounts.{length_from}
use Rattle.img_streams.specs.Own.{own_note, IsOwnPass, WaitsOn, Calls}
use Rattle.img_streams.specs.Turns.{GoesOnWaiting, ComesToHold, HoldsOnce}
use Rattle.img_streams.proofs.Turning.{Knows, waiting_knows, waiting_place, takes_own, takes_same, once_left, once_number, once_place}

-- the parts of an image that no call changes
pub record Keeps {D : Type 0} (g x : ImageState D) : Type 0 where
  pub opening : x.opening ≡ g.opening
  pub streams : length x.requests ≡ length g.requests
  pub rows : length x.phases ≡ length g.phases

module _ {P D : Type 0} (bytes : D → Option (List ℕ)) (lock : CoMutex P (ImageState D) (Note D)) (a b : Pass P (ImageState D) (Note D)) (s : ℕ) (queued : Bool)
    (of : IsOwnPass bytes lock a s queued) where
  -- it waits for the lock
  pub waits_on : (co : CoId) (named : Option CoId) → co.co ≡ s → IsPassOf lock b → GoesOnWaiting queued (co_id_word co) named (known a) (known b)
      → WaitsOn bytes lock co queued named a b
  waits_on co named is pass goes =
      let knows : Knows (built_of lock) (known a) (known b) = waiting_knows (built_of lock) queued (co_id_word co) named (known a) (known b) goes in
      let same : own_note bytes lock b ≡ own_note bytes lock a =
      ap (λ (i : ImageState D). note bytes i (known b).number) knows.value
      ∙ ap (λ (n : ℕ). note bytes (value_of (built_of lock) (known a).mine) n) knows.number in
      record {
        of = record {
          of = pass;
          place = waiting_place (built_of lock) queued (co_id_word co) named (known a) (known b) goes;
          number = knows.number ∙ of.number ∙ sym is;
          opened = ap (λ (n : Note D). n.opening) same ∙ of.opened;
          streams = ap (λ (n : Note D). n.streams) same ∙ of.streams;
          known_there = omega (arith, of.known_there, ap (λ (n : Note D). n.streams) same, is);
          row_there = omega (arith, of.row_there, ap (λ (n : Note D). n.rows) same, is);
        };
        goes = goes;
        same = same;
      }

  -- it took the lock, and found this image
  module _ (p : Pass P (ImageState D) (Note D)) (v g : ImageState D) (is : g ≡ v) (took : ComesToHold (note bytes) (built_of lock) v (known a) (known p)) where
    takes : ComesToHold (note bytes) (built_of lock) g (known a) (known p)
    takes = takes_same (note bytes) (built_of lock) v g (known a) (known p) is took

    pub own_found : note bytes g s ≡ own_note bytes lock a
    own_found = ap (λ (n : ℕ). note bytes g n) (sym of.number) ∙ takes_own (note bytes) (built_of lock) g (known a) (known p) takes

    pub known_found : s < length g.requests
    known_found = omega (arith, of.known_there, ap (λ (n : Note D). n.streams) own_found)

    pub row_found : s < length g.phases
    row_found = omega (arith, of.row_there, ap (λ (n : Note D). n.rows) own_found)

    pub entries_found : noted_count s g.journal ≡ length (own_note bytes lock a).entries
    entries_found = sym (length_from 0 s g.journal) ∙ ap (λ (n : Note D). length n.entries) own_found

    pub requests_found : slice_index g.requests s ≡ (own_note bytes lock a).requests
    requests_found = ap (λ (n : Note D). n.requests) own_found

    -- it left this one
    module _ (x : ImageState D) (named : Option CoId) (gives : Unlocks x (known p) named (known b)) where
      once : HoldsOnce (note bytes) (built_of lock) g x named (known a) (known b)
      once = record { within = known p; takes = takes; gives = gives }

      pub own_left : own_note bytes lock b ≡ note bytes x s
      own_left =
          ap (λ (i : ImageState D). note bytes i (known b).number) (once_left (note bytes) (built_of lock) g x named (known a) (known b) once)
          ∙ ap (λ (n : ℕ). note bytes x n) (once_number (note bytes) (built_of lock) g x named (known a) (known b) once ∙ of.number)

      pub calls : (call : ImageState D → ImageState D → Type 0) (co : CoId) → co.co ≡ s → IsPassOf lock b → call g x
          → Keeps g x
          → Calls bytes lock call co named a b
      calls call co is_s pass did keeps = record {
        of = record {
          of = pass;
          place = once_place (note bytes) (built_of lock) g x named (known a) (known b) once;
          number = once_number (note bytes) (built_of lock) g x named (known a) (known b) once ∙ of.number ∙ sym is_s;
          opened = ap (λ (n : Note D). n.opening) own_left ∙ keeps.opening ∙ ap (λ (n : Note D). n.opening) own_found ∙ of.opened;
          streams = ap (λ (n : Note D). n.streams) own_left ∙ keeps.streams ∙ ap (λ (n : Note D). n.streams) own_found ∙ of.streams;
          known_there = omega (arith, of.known_there, ap (λ (n : Note D). n.streams) own_left, ap (λ (n : Note D). n.streams) own_found, keeps.streams, is_s);
          row_there = omega (arith, of.row_there, ap (λ (n : Note D). n.rows) own_left, ap (λ (n : Note D). n.rows) own_found, keeps.rows, is_s);
        };
        found = g;
        left = x;
        once = once;
        did = did;
      }
