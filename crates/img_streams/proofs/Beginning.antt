-- A stream looks at its next line.
use Rattle.std.proofs.Common.{◌≡◌, ℕ, ◌+◌, ◌<◌, ◌≤◌, ◌⊎◌, inl, inr, false, Option, List, length, take, get_or, sym, ap, ◌∙◌, subst, arith}
use Rattle.aio_model.specs.declared.scripts.image_scripts.Script.{Script}
use Rattle.aio_model.specs.declared.scripts.image_scripts.Step.{Step}
use Rattle.aio_model.specs.declared.scripts.image_scripts.What.{What}
use Rattle.aio_model.specs.declared.scripts.image_scripts.What.TheVariants.{Ask}
use Rattle.aio_model.specs.Serving.Asked.{requests_of}
use Rattle.co_state.specs.Wants.{Wants}
use Rattle.co_state.specs.declared.co.CoStep.TheVariants as step
use Rattle.co_mutex.specs.declared.lock.CoMutex.{CoMutex}
use Rattle.img_shared.specs.Images.{ImageState}
use Rattle.img_shared.specs.Notes.{Note}
use Rattle.img_streams.specs.declared.gate.Passed.{Passed}
use Rattle.img_streams.specs.declared.progress.At.{At}
use Rattle.img_streams.specs.declared.progress.At.TheVariants as at
use Rattle.img_streams.specs.declared.stream.Stream.{Stream}
use Rattle.img_streams.specs.Deeds.{Deed, Entered, TookUp, Served, Left, lines_past, IsDeedAt}
use Rattle.img_streams.specs.Lines.{line_from, StandsAt, Asks}
use Rattle.img_streams.specs.Own.{own_note}
use Rattle.img_streams.specs.Streams.{IsStreamOf, StandsSo, Resumes, WaitsForLock, MakesCall}
use Rattle.img_streams.specs.Streams.{Retiring}
use Rattle.aio_model.specs.Serving.Asked.{is_ask}
use Rattle.co_state.specs.declared.co.CoStep.{CoStep}
use Rattle.img_streams.proofs.LinesAlong.{line_inside, line_again, stands_there, above_kept, above_other}

from_entering : (passed : Passed) (deed : Deed) → IsDeedAt (at.Entering passed) deed → IsDeedAt at.Between deed
from_entering passed (Entered answer) suits = tt
from_entering passed (TookUp answer) suits = absurd suits
from_entering passed (Served answer) suits = absurd suits
from_entering passed (Left woken) suits = absurd suits

from_retiring : (deed : Deed) → IsDeedAt at.Retiring deed → IsDeedAt at.Between deed
from_retiring (Entered answer) suits = absurd suits
from_retiring (TookUp answer) suits = absurd suits
from_retiring (Served answer) suits = absurd suits
from_retiring (Left woken) suits = absurd suits

module _ {P D : Type 0} (bytes : D → Option (List ℕ)) (old : Stream P (ImageState D) (Note D)) (of : CoMutex P (ImageState D) (Note D) × Script)
    (is : IsStreamOf bytes old of) (here : old.at ≡ at.Between) where
  pub stands : StandsSo of.1.lines old.id old.co.co old.line old.queued (own_note bytes of.0 old.pass) at.Between
  stands = subst (λ (a : At). StandsSo of.1.lines old.id old.co.co old.line old.queued (own_note bytes of.0 old.pass) a) here is.stands

  above_found : requests_of old.id (take (line_from old.id of.1.lines old.line) of.1.lines) ≡ length (own_note bytes of.0 old.pass).entries
  above_found = above_kept old.id of.1.lines old.line ∙ is.above

  -- it goes to another line with the same requests above it
  goes_to : (line : ℕ) (next : At) (home : ℕ) → requests_of old.id (take line of.1.lines) ≡ length (own_note bytes of.0 old.pass).entries → line ≤ length of.1.lines
      → StandsSo of.1.lines old.id old.co.co line old.queued (own_note bytes of.0 old.pass) next
      → IsStreamOf bytes (record old { line = line; at = next; co = record { co = old.co.co; home = home } }) of
  goes_to line next home above inside there = record {
    pass = is.pass;
    account = is.account;
    above = above;
    inside = inside;
    index = is.index;
    stands = there;
    named = is.named;
    places = is.places;
    short = is.short;
    few = is.few;
    many = is.many;
    filled = is.filled;
    capacity = is.capacity;
    later = is.later;
    room = is.room;
  }

  -- behind a line that is no request
  pub past_is : (what : What) (home : ℕ) → StandsAt of.1.lines old.id (line_from old.id of.1.lines old.line) what → is_ask what ≡ false
      → IsStreamOf bytes (record old { line = line_from old.id of.1.lines old.line + 1; co = record { co = old.co.co; home = home } }) of
  past_is what home line other =
      subst (λ (a : At). IsStreamOf bytes (record old { line = line_from old.id of.1.lines old.line + 1; at = a; co = record { co = old.co.co; home = home } }) of) (sym here)
      (goes_to (line_from old.id of.1.lines old.line + 1) at.Between home (above_other of.1.lines old.id (line_from old.id of.1.lines old.line) what line other ∙ above_found)
      (omega (arith, line.inside)) stands)

  pub entering_is : (passed : Passed) → passed ≡ record { stream = old.co.co; index = old.index } → Asks of.1.lines old.id (line_from old.id of.1.lines old.line)
      → IsStreamOf bytes (record old { line = line_from old.id of.1.lines old.line; at = at.Entering passed }) of
  entering_is passed is_so asks_there =
      goes_to (line_from old.id of.1.lines old.line) (at.Entering passed) old.co.home above_found (line_inside old.id of.1.lines old.line is.inside)
      (stands.0, ap (λ (p : Passed). p.stream) is_so, ap (λ (p : Passed). p.index) is_so ∙ is.index, asks_there)

  pub retiring_is : line_from old.id of.1.lines old.line ≡ length of.1.lines
      → IsStreamOf bytes (record old { line = line_from old.id of.1.lines old.line; at = at.Retiring }) of
  retiring_is end =
      goes_to (line_from old.id of.1.lines old.line) at.Retiring old.co.home above_found (line_inside old.id of.1.lines old.line is.inside) (stands.0, end)

  -- what it did from there
  module _ (next : At) (wants : Wants) (new : Stream P (ImageState D) (Note D))
      (apart : next ≡ at.Between → ⊥) (alive : next ≡ at.Gone → ⊥) (suits : (deed : Deed) → IsDeedAt next deed → IsDeedAt at.Between deed) where
    again : line_from old.id of.1.lines (line_from old.id of.1.lines old.line) ≡ line_from old.id of.1.lines old.line
    again = line_again old.id of.1.lines old.line is.inside

    waits_from : WaitsForLock bytes (record old { line = line_from old.id of.1.lines old.line; at = next }) of wants new → WaitsForLock bytes old of wants new
    waits_from waits = record {
      named = waits.named;
      goes = waits.goes;
      line = subst (λ (n : ℕ). Asks of.1.lines old.id n ⊎ (n ≡ length of.1.lines)) again waits.line;
      queued = waits.queued;
      wakes = waits.wakes;
    }

    makes_from : MakesCall bytes (record old { line = line_from old.id of.1.lines old.line; at = next }) of wants new → MakesCall bytes old of wants new
    makes_from makes = record {
      request = makes.request;
      line = subst (λ (n : ℕ). StandsAt of.1.lines old.id n (Ask makes.request)) again makes.line;
      deed = makes.deed;
      suits = subst (λ (a : At). IsDeedAt a makes.deed) (sym here) (suits makes.deed makes.suits);
      named = makes.named;
      calls = makes.calls;
      queued = makes.queued;
      at_is = makes.at_is;
      line_is = makes.line_is ∙ ap (λ (n : ℕ). n + lines_past makes.deed) again;
      wakes = makes.wakes;
    }

    retires_from : Retiring bytes (record old { line = line_from old.id of.1.lines old.line; at = next }) of wants new → Retiring bytes old of wants new
    retires_from retires = record {
      none_left = sym again ∙ retires.none_left;
      going = retires.going;
      named = retires.named;
      calls = retires.calls;
      queued = retires.queued;
      at_is = retires.at_is;
      line_is = retires.line_is ∙ again;
      wakes = retires.wakes;
    }

    pub resumes_from : (answer : CoStep) → Resumes bytes (record old { line = line_from old.id of.1.lines old.line; at = next }) of wants answer new → Resumes bytes old of wants answer new
    resumes_from step.Yield (same_id, same_co, inl waits) = (same_id, same_co, inl (waits_from waits))
    resumes_from step.Yield (same_id, same_co, inr makes) = (same_id, same_co, inr (makes_from makes))
    resumes_from step.Done (inl gone) = absurd (alive gone.0)
    resumes_from step.Done (inr (same_id, same_co, retires)) = inr (same_id, same_co, retires_from retires)
    resumes_from (step.Sleep ns) sleeps = absurd (apart sleeps.0)
    resumes_from (step.Move loop) moves = absurd (apart moves.0)

  pub entering_resumes : (passed : Passed) (wants : Wants) (new : Stream P (ImageState D) (Note D)) (answer : CoStep)
      → Resumes bytes (record old { line = line_from old.id of.1.lines old.line; at = at.Entering passed }) of wants answer new → Resumes bytes old of wants answer new
  entering_resumes passed wants new answer =
      resumes_from (at.Entering passed) wants new (λ e. cc) (λ e. cc) (from_entering passed) answer

  pub retiring_resumes : (wants : Wants) (new : Stream P (ImageState D) (Note D)) (answer : CoStep)
      → Resumes bytes (record old { line = line_from old.id of.1.lines old.line; at = at.Retiring }) of wants answer new → Resumes bytes old of wants answer new
  retiring_resumes wants new answer =
      resumes_from at.Retiring wants new (λ e. cc) (λ e. cc) from_retiring answer

-- the stream's line that was read
pub read_there : (lines got : List Step) (id from at : ℕ) (step : Step) (what : What) → got ≡ lines → at ≡ line_from id got from → at < length got
    → step ≡ get_or got at step → step.what ≡ what → StandsAt lines id (line_from id lines from) what
read_there lines got id from at step what same e inside read is =
    subst (λ (l : List Step). StandsAt l id (line_from id l from) what) same
    (stands_there id got from step what (subst (λ (n : ℕ). n < length got) e inside) (read ∙ ap (λ (n : ℕ). get_or got n step) e) is)
