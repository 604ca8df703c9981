-- A stream whose request was served whole, or failed.
use Rattle.std.proofs.Common.{◌≡◌, ℕ, ◌+◌, false, Option, Some, List, [], ◌∷◌, ◌++◌, length, map, sym, ap, subst}
use Rattle.aio_model.specs.declared.scripts.image_scripts.Script.{Script}
use Rattle.aio_model.specs.Serving.Asked.{asked, requests_of}
use Rattle.co_state.specs.Wants.{Wants}
use Rattle.co_state.specs.declared.cx.CoId.{CoId}
use Rattle.co_state.specs.declared.co.CoStep.TheVariants as step
use Rattle.co_mutex.specs.declared.lock.CoMutex.{CoMutex}
use Rattle.co_mutex.specs.declared.lock.Pass.{Pass}
use Rattle.img_shared.specs.declared.phases.Phase.TheVariants.{Idle}
use Rattle.img_shared.specs.Images.{ImageState}
use Rattle.img_shared.specs.Notes.{Note}
use Rattle.img_join.specs.Accounts.{Account}
use Rattle.img_streams.specs.declared.progress.At.{At}
use Rattle.img_streams.specs.declared.progress.At.TheVariants as at
use Rattle.img_streams.specs.declared.stream.Stream.{Stream}
use Rattle.img_streams.specs.Deeds.{Left, IsDeedAt, DoesDeed, listed, wants_wakes}
use Rattle.img_streams.specs.Lines.{Asks}
use Rattle.img_streams.specs.Own.{own_note, IsOwnPass, Calls}
use Rattle.img_streams.specs.Streams.{IsStreamOf, StandsSo, Resumes, CanGetReply, GetsReply}
use Rattle.img_streams.proofs.StreamsGoOn.{named_now, can_now, replied}
use Rattle.img_shared.specs.Phases.{CanLeave}
use Rattle.img_streams.specs.Steps.{HasLeft}
use Rattle.img_streams.proofs.Making.{made_call}

module _ {P D : Type 0} (bytes : D → Option (List ℕ)) (old : Stream P (ImageState D) (Note D)) (of : CoMutex P (ImageState D) (Note D) × Script)
    (is : IsStreamOf bytes old of) (here : old.at ≡ at.Ended) where
  pub stands : StandsSo of.1.lines old.id old.co.co old.line old.queued (own_note bytes of.0 old.pass) at.Ended
  stands = subst (λ (a : At). StandsSo of.1.lines old.id old.co.co old.line old.queued (own_note bytes of.0 old.pass) a) here is.stands

  pub ended_now : CanLeave (own_note bytes of.0 old.pass).phase
  ended_now = stands.0

  pub asks_ended : Asks of.1.lines old.id old.line
  asks_ended = stands.1

  pub can_leave_line : (pass : Pass P (ImageState D) (Note D)) → CanGetReply (record old { pass = pass; queued = false })
  can_leave_line pass = can_now bytes old of is stands.1.0 stands.1.1 pass false

  module _ (other : Stream P (ImageState D) (Note D)) (pass : Pass P (ImageState D) (Note D)) (gets : GetsReply (record old { pass = pass; queued = false }) other) where
    same_pass : other.pass ≡ pass
    same_pass = ap (λ (co : Stream P (ImageState D) (Note D)). co.pass) gets.is

    pub left_is : IsOwnPass bytes of.0 pass old.co.co false → HasLeft bytes old.co.co (own_note bytes of.0 old.pass) (own_note bytes of.0 pass) → IsStreamOf bytes other of
    left_is own left =
        replied bytes old of is other stands.1.0 stands.1.1
        (subst (λ (p : Pass P (ImageState D) (Note D)). IsOwnPass bytes of.0 p old.co.co false) (sym same_pass) own)
        (subst (λ (p : Pass P (ImageState D) (Note D)). (own_note bytes of.0 p).phase ≡ Idle) (sym same_pass) left.phase)
        (subst (λ (p : Pass P (ImageState D) (Note D)). length (own_note bytes of.0 p).entries ≡ length (own_note bytes of.0 old.pass).entries + 1) (sym same_pass) left.entries)
        (λ next. subst (λ (p : Pass P (ImageState D) (Note D)). Account bytes (asked of.1.lines) old.id old.co.co of.1.image (requests_of old.id of.1.lines) (own_note bytes of.0 p) (map (λ buffer. buffer.items) old.filled.items ++ old.buffer.items ∷ []) next)
        (sym same_pass) (left.account stands.1.0 (asked of.1.lines) old.id of.1.image (requests_of old.id of.1.lines) (map (λ buffer. buffer.items) old.filled.items) old.buffer.items next (named_now bytes old of is stands.1.0 stands.1.1) is.account))
        (subst (λ (p : Pass P (ImageState D) (Note D)). GetsReply (record old { pass = p; queued = false }) other) (sym same_pass) gets)

    pub left_resumes : (woken named : Option CoId) (wants : Wants)
        → Calls bytes of.0 (λ found left. DoesDeed bytes old.co stands.1.0 old.buffer.items other.buffer.items (Left woken) found left) old.co named old.pass pass
        → wants ≡ wants_wakes (listed named ++ listed woken ++ listed (Some old.co)) false
        → Resumes bytes old of wants step.Yield other
    left_resumes woken named wants calls wakes =
        made_call bytes old of is stands.1.0 stands.1.1 other (Left woken)
        (subst (λ (a : At). IsDeedAt a (Left woken)) (sym here) tt) named wants
        (subst (λ (p : Pass P (ImageState D) (Note D)). Calls bytes of.0 (λ found left. DoesDeed bytes old.co stands.1.0 old.buffer.items other.buffer.items (Left woken) found left) old.co named old.pass p) (sym same_pass) calls)
        (ap (λ (co : Stream P (ImageState D) (Note D)). co.id) gets.is) (ap (λ (co : Stream P (ImageState D) (Note D)). co.co) gets.is)
        (ap (λ (co : Stream P (ImageState D) (Note D)). co.queued) gets.is) (ap (λ (co : Stream P (ImageState D) (Note D)). co.at) gets.is)
        (ap (λ (co : Stream P (ImageState D) (Note D)). co.line) gets.is) wakes
