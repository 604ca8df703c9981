-- What whoever carries coroutines of streams learns of a resume.
use Rattle.std.proofs.Common.{◌≡◌, ℕ, inl, inr, Option, List, sym, ap, ◌∙◌, subst}
use Rattle.aio_model.specs.declared.scripts.image_scripts.Script.{Script}
use Rattle.co_state.specs.Wants.{Wants}
use Rattle.co_state.specs.declared.co.CoStep.{CoStep}
use Rattle.co_state.specs.declared.co.CoStep.TheVariants as step
use Rattle.co_mutex.specs.declared.lock.CoMutex.{CoMutex}
use Rattle.img_shared.specs.Images.{ImageState}
use Rattle.img_shared.specs.Notes.{Note}
use Rattle.img_streams.specs.declared.stream.Stream.{Stream}
use Rattle.img_streams.specs.Streams.{HasGone, Resumes}

module _ {P D : Type 0} (bytes : D → Option (List ℕ)) (old new : Stream P (ImageState D) (Note D)) (of : CoMutex P (ImageState D) (Note D) × Script) (wants : Wants) where
  -- a stream that is done has retired
  pub gone_after : Resumes bytes old of wants step.Done new → HasGone new.at
  gone_after (inl (gone, same, nothing)) = subst HasGone (sym (ap (λ (co : Stream P (ImageState D) (Note D)). co.at) same ∙ gone)) tt
  gone_after (inr (id, co, retires)) = subst HasGone (sym retires.at_is) tt

  -- it is the same stream's
  pub same_id : (answer : CoStep) → Resumes bytes old of wants answer new → new.id ≡ old.id
  same_id step.Yield (id, co, did) = id
  same_id step.Done (inl (gone, same, nothing)) = ap (λ (co : Stream P (ImageState D) (Note D)). co.id) same
  same_id step.Done (inr (id, co, retires)) = id
  same_id (step.Sleep ns) (here, line, is, nothing) = ap (λ (co : Stream P (ImageState D) (Note D)). co.id) is
  same_id (step.Move loop) (here, line, is, nothing) = ap (λ (co : Stream P (ImageState D) (Note D)). co.id) is

  pub same_number : (answer : CoStep) → Resumes bytes old of wants answer new → new.co.co ≡ old.co.co
  same_number step.Yield (id, co, did) = ap (λ c. c.co) co
  same_number step.Done (inl (gone, same, nothing)) = ap (λ (co : Stream P (ImageState D) (Note D)). co.co.co) same
  same_number step.Done (inr (id, co, retires)) = ap (λ c. c.co) co
  same_number (step.Sleep ns) (here, line, is, nothing) = ap (λ (co : Stream P (ImageState D) (Note D)). co.co.co) is
  same_number (step.Move loop) (here, line, is, nothing) = ap (λ (co : Stream P (ImageState D) (Note D)). co.co.co) is
