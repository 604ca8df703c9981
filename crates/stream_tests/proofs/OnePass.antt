-- A stream that is alone.
use Rattle.std.proofs.Common.{◌≡◌, ℕ, zero, suc, inl, inr, Option, List, [], ◌∷◌, refl, sym, ap, ◌∙◌, subst, arith}
use mathlib.Core.Option.{some-ne-none, some-injective}
use Rattle.aio_model.specs.declared.scripts.image_scripts.Script.{Script}
use Rattle.co_state.specs.Wants.{Wants}
use Rattle.co_state.specs.declared.co.CoStep.TheVariants.{Done}
use Rattle.co_mutex.specs.declared.lock.CoMutex.{CoMutex}
use Rattle.co_mutex.specs.declared.lock.Pass.{Pass}
use Rattle.co_mutex.specs.Closing.{In, AreAll}
use Rattle.co_mutex.specs.Passes.{IsPassOf, passes_of, known}
use Rattle.co_mutex.specs.Places.{AtRest}
use Rattle.img_shared.specs.Images.{ImageState}
use Rattle.img_shared.specs.Notes.{Note}
use Rattle.img_streams.specs.declared.stream.Stream.{Stream}
use Rattle.img_streams.specs.Streams.{HasGone, Resumes}

pub gone_after : {P D : Type 0} → (bytes : D → Option (List ℕ)) (old new : Stream P (ImageState D) (Note D)) (of : CoMutex P (ImageState D) (Note D) × Script) (wants : Wants)
    → Resumes bytes old of wants Done new → HasGone new.at
gone_after bytes old new of wants (inl (gone, same, nothing)) = subst HasGone (sym (ap (λ (co : Stream _ _ _). co.at) same ∙ gone)) tt
gone_after bytes old new of wants (inr (id, co, retires)) = subst HasGone (sym retires.at_is) tt

module _ {P T N : Type 0} (m : CoMutex P T N) (pass : Pass P T N) where
  one_in : (p : Pass P T N) → In p (pass ∷ []) → p ≡ pass
  one_in p (zero, at) = sym (some-injective pass p at)
  one_in p (suc k, at) = absurd (some-ne-none p (sym at))

  pub all_of_one : (passes : List (Pass P T N)) → passes ≡ pass ∷ [] → passes_of m ≡ 1 → IsPassOf m pass → (known pass).place ≡ AtRest → AreAll m passes
  all_of_one passes is one of rests = subst (AreAll m) (sym is) (record {
    each = λ p here. subst (λ (q : Pass P T N). IsPassOf m q × ((known q).place ≡ AtRest)) (sym (one_in p here)) (of, rests);
    all = λ k below. (pass, (0, refl), omega (arith, one, below, of.of.below, of.of.number));
  })
