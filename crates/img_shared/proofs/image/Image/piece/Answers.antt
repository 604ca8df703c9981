use Rattle.std.proofs.Common.{◌≡◌, ◌+◌, ◌<◌, ◌∙◌, sym, ap, subst, length, arith}
use Rattle.std.proofs.lemmas.List.{get_or_default}
use Rattle.aio_words.specs.Called.{failures_in}
use Rattle.img_requests.proofs.CallCounts.{MakesDeviceCall-sizes, MakesDeviceCall-failures}
use Rattle.img_requests.specs.declared.present.Present.{Present}
use Rattle.img_requests.specs.Pieces.{done_after, stage_after}
use Rattle.img_requests.specs.Presents.{present_of}
use Rattle.img_requests.specs.declared.present.Stage.TheVariants.{Begun}
use Rattle.img_shared.specs.declared.phases.Phase.TheVariants.{Idle}
use Rattle.img_shared.specs.Phases.{phase_at, held_by, done_in}
use Rattle.img_shared.specs.Soundness.{IsInside}
use Rattle.img_shared.proofs.Charged.{charged_piece, cause_of, failed_as}
use Rattle.img_shared.proofs.Others.{others_piece}
use Rattle.img_shared.proofs.Sounds.{sound_piece}
use Rattle.img_shared.proofs.Steps.{kept_reading, same_present, within_piece}
use Rattle.img_shared.proofs.image.Image.piece.Goals as goal

pub invariant_of-self : goal.invariant_of-self
invariant_of-self g c =
    let known = rw (← c.self.view_is) at c.requires.known in
    let begun = rw (← c.self.view_is) at c.requires.begun in
    let sound = c.self.invariant.sound in
    let below : c.args.stream < length c.self.inside.phases.items = omega (arith, known, sound.streams) in
    let active = sym (c.index.ensures ∙ get_or_default c.self.inside.phases.items c.args.stream _ Idle below) ∙ c.in-Active.is in
    let present : c.in-Active.present ≡ present_of c.args.stream c.args.request.now (done_in (phase_at c.self.inside.phases.items c.args.stream)) Begun =
    same_present _ _ (sym active ∙ begun) in
    let stage : c.in-Active.present.stage ≡ Begun = ap (λ (p : Present). p.stage) present in
    record {
      sound = sound_piece g.D.Device.bytes _ sound c.args.stream known c.in-Active.present c.after-answer.result.1 c.serve_piece.new.device
          active
          (ap (λ (p : Present). p.kind) c.after-answer.ensures.present)
          (within_piece c.self.inside.size c.args.stream c.in-Active.present c.after-answer.result.1 c.min-n.result c.is_ok-served.result
          (subst (IsInside c.self.inside.size c.args.stream) active (sound.inside c.args.stream))
          stage
          c.min-n.ensures
          (c.after-answer.ensures.present
          ∙ ap (λ answer. record c.in-Active.present { done = done_after answer c.in-Active.present.done c.min-n.result; stage = stage_after answer }) c.after-answer.ensures.answer))
          (λ reads. kept_reading c.args.request.now _ _ c.serve_piece.result _ _ c.serve_piece.ensures.put c.serve_piece.ensures.kept (ap (λ (p : Present). held_by p.kind) (sym present) ∙ reads));
      charged = charged_piece g.D.Device.extent g.D.Device.faults g.D.Device.size_faults g.D.Device.calls _ c.self.invariant.charged c.args.stream below
          c.in-Active.present c.after-answer.result.1 c.after-answer.result.0 c.serve_piece.new.device active stage
          (ap (λ (p : Present). p.stage) c.after-answer.ensures.present)
          c.serve_piece.ensures.extent c.serve_piece.ensures.sizes c.serve_piece.ensures.counted
          (cause_of c.serve_piece.result c.is_ok-served.result _ _ _ c.after-answer.result.0 c.is_ok-served.ensures.value c.after-answer.ensures.answer c.serve_piece.ensures.cause)
          (MakesDeviceCall-sizes _ _ _ _ _ _ c.serve_piece.ensures.calls)
          (MakesDeviceCall-failures _ _ _ _ _ _ c.serve_piece.ensures.calls
          ∙ ap (λ n. failures_in (g.D.Device.calls c.self.inside.device) + n) (failed_as c.serve_piece.result c.is_ok-served.result _ _ c.after-answer.result.0 c.is_ok-served.ensures.value c.after-answer.ensures.answer));
    }

pub returns-clause-others : goal.returns-clause-others
returns-clause-others g c =
    let known = rw (← c.self.view_is) at c.requires.known in
    let begun = rw (← c.self.view_is) at c.requires.begun in
    let below : c.args.stream < length c.self.inside.phases.items = omega (arith, known, c.self.invariant.sound.streams) in
    let active = sym (c.index.ensures ∙ get_or_default c.self.inside.phases.items c.args.stream _ Idle below) ∙ c.in-Active.is in
    let present : c.in-Active.present ≡ present_of c.args.stream c.args.request.now (done_in (phase_at c.self.inside.phases.items c.args.stream)) Begun =
    same_present _ _ (sym active ∙ begun) in
    rw (← c.self.view_is)
    (others_piece g.D.Device.bytes _ c.self.invariant.sound c.args.stream c.in-Active.present active c.serve_piece.new.device _
    (λ reads. kept_reading c.args.request.now _ _ c.serve_piece.result _ _ c.serve_piece.ensures.put c.serve_piece.ensures.kept (ap (λ (p : Present). held_by p.kind) (sym present) ∙ reads)))
