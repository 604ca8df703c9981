-- What a stream did in one turn at the lock.
use Rattle.std.proofs.Common.{◌≡◌, ℕ, ◌+◌, inr, false, Option, List, ◌++◌, sym, ap, ◌∙◌, subst}
use Rattle.aio_model.specs.declared.serving.requests.Request.{Request}
use Rattle.aio_model.specs.declared.scripts.image_scripts.Script.{Script}
use Rattle.aio_model.specs.declared.scripts.image_scripts.What.TheVariants.{Ask}
use Rattle.co_state.specs.Wants.{Wants}
use Rattle.co_state.specs.declared.cx.CoId.{CoId}
use Rattle.co_state.specs.declared.co.CoStep.TheVariants as step
use Rattle.co_mutex.specs.declared.lock.CoMutex.{CoMutex}
use Rattle.img_shared.specs.Images.{ImageState}
use Rattle.img_shared.specs.Notes.{Note}
use Rattle.img_streams.specs.declared.stream.Stream.{Stream}
use Rattle.img_streams.specs.Deeds.{Deed, woken_by, at_after, lines_past, itself, IsDeedAt, DoesDeed, listed, wants_wakes}
use Rattle.img_streams.specs.Lines.{StandsAt}
use Rattle.img_streams.specs.Own.{Calls}
use Rattle.img_streams.specs.Streams.{IsStreamOf, Resumes}
use Rattle.img_streams.proofs.StreamsGoOn.{hand_now}

module _ {P D : Type 0} (bytes : D → Option (List ℕ)) (old : Stream P (ImageState D) (Note D)) (of : CoMutex P (ImageState D) (Note D) × Script)
    (is : IsStreamOf bytes old of) (request : Request) (line : StandsAt of.1.lines old.id old.line (Ask request)) (other : Stream P (ImageState D) (Note D)) (deed : Deed) where
  -- it made this call for its request at hand
  pub made_call : IsDeedAt old.at deed → (named : Option CoId) (wants : Wants)
      → Calls bytes of.0 (DoesDeed bytes old.co request old.buffer.items other.buffer.items deed) old.co named old.pass other.pass
      → other.id ≡ old.id → other.co ≡ old.co
      → other.queued ≡ false → other.at ≡ at_after deed → other.line ≡ old.line + lines_past deed
      → wants ≡ wants_wakes (listed named ++ listed (woken_by deed) ++ listed (itself old.co (at_after deed))) false
      → Resumes bytes old of wants step.Yield other
  made_call suits named wants calls same_id same_co queued next lines wakes = (
    same_id,
    same_co,
    inr (record {
      request = request;
      line = subst (λ (n : ℕ). StandsAt of.1.lines old.id n (Ask request)) (sym (hand_now bytes old of is request line)) line;
      deed = deed;
      suits = suits;
      named = named;
      calls = calls;
      queued = queued;
      at_is = next;
      line_is = lines ∙ ap (λ (n : ℕ). n + lines_past deed) (sym (hand_now bytes old of is request line));
      wakes = wakes;
    }),
  )
