-- A stream with no line left.
use Rattle.std.proofs.Common.{◌≡◌, ℕ, inr, false, Option, List, length, map, take, refl, sym, ap, ◌∙◌, subst, arith}
use Rattle.aio_model.specs.declared.scripts.image_scripts.Script.{Script}
use Rattle.aio_model.specs.Serving.Asked.{asked, requests_of}
use Rattle.co_state.specs.Wants.{Wants}
use Rattle.co_state.specs.declared.cx.CoId.{CoId}
use Rattle.co_state.specs.declared.co.CoStep.TheVariants as step
use Rattle.co_mutex.specs.declared.lock.CoMutex.{CoMutex}
use Rattle.co_mutex.specs.declared.lock.Pass.{Pass}
use Rattle.img_shared.specs.declared.phases.Phase.TheVariants.{Idle}
use Rattle.img_shared.specs.Images.{ImageState}
use Rattle.img_shared.specs.Notes.{Note}
use Rattle.img_streams.specs.declared.progress.At.{At}
use Rattle.img_streams.specs.declared.progress.At.TheVariants as at
use Rattle.img_streams.specs.declared.stream.Stream.{Stream}
use Rattle.img_streams.specs.Deeds.{listed, wants_wakes}
use Rattle.img_streams.specs.Lines.{line_from}
use Rattle.img_streams.specs.Own.{own_note, IsOwnPass, Calls}
use Rattle.img_streams.specs.Streams.{IsStreamOf, StandsSo, Resumes}
use Rattle.img_streams.proofs.StreamsGoOn.{stays}
use Rattle.img_streams.specs.ImageCalls.{Retires}
use Rattle.img_streams.specs.Steps.{NoteHasRetired}
use Rattle.std.proofs.lemmas.List.{take_all}
use Rattle.std.proofs.Common.{◌==◌}
use Rattle.img_streams.proofs.LinesAlong.{next_end}

module _ {P D : Type 0} (bytes : D → Option (List ℕ)) (old : Stream P (ImageState D) (Note D)) (of : CoMutex P (ImageState D) (Note D) × Script)
    (is : IsStreamOf bytes old of) (here : old.at ≡ at.Retiring) where
  pub stands : StandsSo of.1.lines old.id old.co.co old.line old.queued (own_note bytes of.0 old.pass) at.Retiring
  stands = subst (λ (a : At). StandsSo of.1.lines old.id old.co.co old.line old.queued (own_note bytes of.0 old.pass) a) here is.stands

  pub idle_now : (own_note bytes of.0 old.pass).phase ≡ Idle
  idle_now = stands.0

  pub all_now : length (own_note bytes of.0 old.pass).entries ≡ (own_note bytes of.0 old.pass).requests
  all_now =
      sym is.above ∙ ap (λ (n : ℕ). requests_of old.id (take n of.1.lines)) stands.1 ∙ ap (requests_of old.id) (take_all (length of.1.lines) of.1.lines (omega arith))
      ∙ sym is.account.many

  pub none_now : line_from old.id of.1.lines old.line ≡ length of.1.lines
  none_now = next_end old.id of.1.lines old.line (omega (arith, stands.1)) ∙ stands.1

  module _ (pass : Pass P (ImageState D) (Note D)) where
    pub retired_is : IsOwnPass bytes of.0 pass old.co.co false → NoteHasRetired bytes old.co.co (own_note bytes of.0 old.pass) (own_note bytes of.0 pass)
        → IsStreamOf bytes (record old { pass = pass; queued = false; at = at.Gone }) of
    retired_is own retired =
        stays bytes old of is (record old { pass = pass; queued = false; at = at.Gone }) own retired.entries
        (retired.account (asked of.1.lines) old.id of.1.image (requests_of old.id of.1.lines) (map (λ buffer. buffer.items) old.filled.items) old.buffer.items is.account) (retired.phase, refl) refl

    pub retired_resumes : (going : ℕ) (named : Option CoId) (wants : Wants)
        → Calls bytes of.0 (λ found left. Retires old.co going found left) old.co named old.pass pass
        → wants ≡ wants_wakes (listed named) (going == 0)
        → Resumes bytes old of wants step.Done (record old { pass = pass; queued = false; at = at.Gone })
    retired_resumes going named wants calls wakes = inr (
      refl,
      refl,
      record {
        none_left = none_now;
        going = going;
        named = named;
        calls = calls;
        queued = refl;
        at_is = refl;
        line_is = stands.1 ∙ sym none_now;
        wakes = wakes;
      },
    )
