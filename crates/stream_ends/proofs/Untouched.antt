-- A lock that nobody has used: its passes, and those of coroutines that have made no call, are all at rest.
use Rattle.std.proofs.Common.{◌≡◌, ℕ, ◌+◌, ◌<◌, max, inl, inr, Option, List, ◌++◌, length, map, sym, ap, ◌∙◌, subst, arith}
use Rattle.std.proofs.lemmas.Bool.{cases_lt}
use Rattle.aio_model.specs.declared.scripts.image_scripts.Script.{Script}
use Rattle.co_mutex.specs.declared.lock.CoMutex.{CoMutex}
use Rattle.co_mutex.specs.declared.lock.Pass.{Pass}
use Rattle.co_mutex.specs.Closing.{AreAll, In}
use Rattle.co_mutex.specs.Known.{Known}
use Rattle.co_mutex.specs.Passes.{IsNew, known, passes_of}
use Rattle.img_shared.specs.Images.{ImageState}
use Rattle.img_shared.specs.Notes.{Note}
use Rattle.img_streams.specs.declared.stream.Stream.{Stream}
use Rattle.img_streams.specs.Retired.{AreUnused}
use Rattle.stream_ends.specs.Images.{IsLockFor}
use Rattle.stream_ends.specs.Starts.{AllAt, HaveStarted}
use Rattle.stream_ends.proofs.Places.{at_below, at_mapped, from_mapped, in_either, in_left, in_right}

module _ {P D : Type 0} (bytes : D → Option (List ℕ)) (script : Script) (lock : CoMutex P (ImageState D) (Note D)) (is : IsLockFor script lock)
    (cos : List (Stream P (ImageState D) (Note D))) (started : HaveStarted bytes script lock cos)
    (spare : List (Pass P (ImageState D) (Note D))) (few : length spare + length script.streams ≡ max 1 (length script.streams)) (new : AllAt (IsNew lock) spare) where
  abbrev pass_of : Stream P (ImageState D) (Note D) → Pass P (ImageState D) (Note D)
  pass_of co = co.pass

  abbrev passes : List (Pass P (ImageState D) (Note D))
  passes = spare ++ map pass_of cos

  is_new : (p : Pass P (ImageState D) (Note D)) → In p passes → (k : ℕ) × IsNew lock k p
  is_new p here = elim (in_either spare (map pass_of cos) p here) [
    | inl (k, at) ↦ (k, new k p at)
    | inr (k, at) ↦
        let own = from_mapped pass_of cos k p at in
        (k, subst (IsNew lock k) (sym own.2) (started.each k own.0 own.1).pass)
  ]

  each_number : (k : ℕ) → k < passes_of lock → (p : Pass P (ImageState D) (Note D)) × In p passes × ((known p).number ≡ k)
  each_number k below = elim (cases_lt k (length cos)) [
    | inl h ↦
        let own = at_below cos k h in (
          own.0.pass,
          in_right spare (map pass_of cos) own.0.pass (k, at_mapped pass_of cos k own.0 own.1),
          ap (λ (v : Known (ImageState D)). v.number) (started.each k own.0 own.1).pass.known_is,
        )
    | inr h ↦
        let first = at_below spare 0 (omega (arith, below, h, few, is.passes, started.many)) in
        let none : 0 ≡ k = omega (arith, below, h, few, is.passes, started.many) in (
          first.0,
          (0, in_left spare (map pass_of cos) 0 first.0 first.1),
          ap (λ (v : Known (ImageState D)). v.number) (new 0 first.0 first.1).known_is ∙ none,
        )
  ]

  pub all_are_new : AreAll lock passes
  all_are_new = record {
    each = λ p here. let one = (is_new p here).1 in (one.is, ap (λ (v : Known (ImageState D)). v.place) one.known_is);
    all = each_number;
  }

  pub none_used : AreUnused passes
  none_used p here = ap (λ (v : Known (ImageState D)). v.mine) (is_new p here).1.known_is
