-- Coroutines of a script, one of which is resumed.
use Rattle.std.proofs.Common.{◌≡◌, ℕ, ◌+◌, ◌<◌, ◌≤◌, ◌&&◌, Bool, true, false, Option, List, length, set, refl, ap, ◌∙◌, arith}
use Rattle.std.proofs.lemmas.List.{length-set}
use Rattle.aio_model.specs.declared.scripts.image_scripts.Script.{Script}
use Rattle.co_state.specs.declared.cx.CoId.{CoId}
use Rattle.co_mutex.specs.declared.lock.CoMutex.{CoMutex}
use Rattle.img_shared.specs.Images.{ImageState}
use Rattle.img_shared.specs.Notes.{Note}
use Rattle.img_streams.specs.declared.stream.Stream.{Stream}
use Rattle.img_streams.specs.Streams.{HasGone}
use Rattle.stream_ends.specs.Starts.{AllAt, HaveStarted}
use Rattle.stream_ends.specs.Stops.{AreGoing, HaveStopped, IsGoing}
use Rattle.stream_ends.proofs.Places.{all_set, below_at}

module _ {P D : Type 0} (bytes : D → Option (List ℕ)) (script : Script) (lock : CoMutex P (ImageState D) (Note D)) (cos : List (Stream P (ImageState D) (Note D))) where
  pub going_started : HaveStarted bytes script lock cos → AreGoing bytes script lock cos
  going_started started = record {
    many = started.many;
    each = λ k co at. let one = started.each k co at in record { of = one.of; number_is = ap (λ (c : CoId). c.co) one.co_is };
  }

  pub going_set : (place : ℕ) (co : Stream P (ImageState D) (Note D)) → AreGoing bytes script lock cos → IsGoing bytes script lock place co
      → AreGoing bytes script lock (set cos place co)
  going_set place co going one = record {
    many = length-set cos place co ∙ going.many;
    each = all_set (IsGoing bytes script lock) (IsGoing bytes script lock) cos place co (λ k x ne is. is) one going.each;
  }

  -- the first of them have retired
  abbrev pub HaveGone : ℕ → List (Stream P (ImageState D) (Note D)) → Type 0
  HaveGone n all = AllAt (λ k co. k < n → HasGone co.at) all

  pub gone_set : (place : ℕ) (co : Stream P (ImageState D) (Note D)) → HaveGone place cos → HasGone co.at → HaveGone (place + 1) (set cos place co)
  gone_set place co gone one =
      all_set (λ k x. k < place → HasGone x.at) (λ k x. k < place + 1 → HasGone x.at) cos place co (λ k x ne had below. had (omega (arith, below, ne))) (λ below. one) gone

  pub all_stopped : (n : ℕ) → AreGoing bytes script lock cos → HaveGone n cos → length cos ≤ n → HaveStopped bytes script lock cos
  all_stopped n going gone all = record {
    many = going.many;
    each = λ k co at. record { going = going.each k co at; gone = gone k co at (omega (arith, below_at cos k co at, all)) };
  }

-- a conjunction of tests
pub both_true : (a b : Bool) → (a && b) ≡ true → (a ≡ true) × (b ≡ true)
both_true true b h = (refl, h)
both_true false b h = cc h
