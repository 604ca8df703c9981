-- A stream enters its request.
use Rattle.std.proofs.Common.{◌≡◌, ℕ, ◌+◌, ◌⊎◌, inl, true, false, Option, List, [], ◌∷◌, ◌++◌, length, map, get_or, refl, sym, ap, ◌∙◌, subst, arith}
use Rattle.std.proofs.lemmas.List.{append-nil}
use Rattle.aio_model.specs.declared.serving.requests.Request.{Request}
use Rattle.aio_model.specs.declared.scripts.image_scripts.Script.{Script}
use Rattle.aio_model.specs.declared.scripts.image_scripts.Step.{Step}
use Rattle.aio_model.specs.declared.scripts.image_scripts.What.{What}
use Rattle.aio_model.specs.declared.scripts.image_scripts.What.TheVariants.{Ask}
use Rattle.aio_model.specs.Serving.Asked.{asked, requests_of}
use Rattle.co_state.specs.Wants.{Wants}
use Rattle.co_state.specs.declared.cx.CoId.{CoId}
use Rattle.co_state.specs.declared.co.CoStep.TheVariants as step
use Rattle.co_mutex.specs.declared.lock.CoMutex.{CoMutex}
use Rattle.co_mutex.specs.declared.lock.Pass.{Pass}
use Rattle.img_requests.specs.declared.answers.Enter.{Enter}
use Rattle.img_requests.specs.declared.answers.Enter.TheVariants.{Begun, Queued, Refused}
use Rattle.img_requests.specs.Presents.{begun_of}
use Rattle.img_shared.specs.declared.phases.Phase.TheVariants.{Idle}
use Rattle.img_shared.specs.Images.{ImageState}
use Rattle.img_shared.specs.Notes.{Note}
use Rattle.img_shared.specs.Phases.{IsWaiting}
use Rattle.img_join.specs.Accounts.{Account}
use Rattle.img_streams.specs.declared.gate.Passed.{Passed}
use Rattle.img_streams.specs.declared.progress.At.{At}
use Rattle.img_streams.specs.declared.progress.At.TheVariants as at
use Rattle.img_streams.specs.declared.stream.Stream.{Stream}
use Rattle.img_streams.specs.Deeds.{Entered, woken_by, at_after, itself, IsDeedAt, DoesDeed, listed, wants_wakes}
use Rattle.img_streams.specs.Lines.{line_from, StandsAt, Asks}
use Rattle.img_streams.specs.Own.{own_note, IsOwnPass, WaitsOn, Calls}
use Rattle.img_streams.specs.Steps.{IsEntered}
use Rattle.img_streams.specs.Streams.{IsStreamOf, StandsSo, Resumes, MovesOn, GetsReply}
use Rattle.img_streams.proofs.Making.{made_call}
use Rattle.img_streams.proofs.StreamsGoOn.{named_now, room_now, hand_now, stays, replied}

-- the request that was read is that of the line
pub line_of : (lines got : List Step) (id at : ℕ) (request : Request) → got ≡ lines → Asks lines id at
    → ((other : Step) → (get_or got at other).what ≡ Ask request) → StandsAt lines id at (Ask request)
line_of lines got id at request same stands read =
    let there : Ask stands.0 ≡ Ask request =
    sym (ap (λ (step : Step). step.what) (stands.1.is (record { stream = id; what = Ask request }))) ∙ ap (λ (l : List Step). (get_or l at (record { stream = id; what = Ask request })).what) (sym same)
    ∙ read (record { stream = id; what = Ask request }) in
    subst (λ (w : What). StandsAt lines id at w) there stands.1

none_woken : (named : Option CoId) → wants_wakes (listed named ++ [] ++ []) false ≡ wants_wakes (listed named) false
none_woken named = ap (λ (l : List CoId). wants_wakes l false) (append-nil (listed named ++ []) ∙ append-nil (listed named))

module _ {P D : Type 0} (bytes : D → Option (List ℕ)) (old : Stream P (ImageState D) (Note D)) (of : CoMutex P (ImageState D) (Note D) × Script) where
  -- it waits for the lock
  pub waits_resumes : (new : Stream P (ImageState D) (Note D)) (named : Option CoId) (wants : Wants)
      → Asks of.1.lines old.id (line_from old.id of.1.lines old.line) ⊎ (line_from old.id of.1.lines old.line ≡ length of.1.lines)
      → WaitsOn bytes of.0 old.co old.queued named old.pass new.pass
      → wants ≡ wants_wakes (listed named ++ [] ++ []) false
      → new.id ≡ old.id → new.co ≡ old.co → new.queued ≡ true
      → Resumes bytes old of wants step.Yield new
  waits_resumes new named wants line waits is same_id same_co queued = (
    same_id,
    same_co,
    inl record { named = named; goes = waits.goes; line = line; queued = queued; wakes = is ∙ none_woken named },
  )

  pub hand_asks : IsStreamOf bytes old of → Asks of.1.lines old.id old.line → Asks of.1.lines old.id (line_from old.id of.1.lines old.line)
  hand_asks is there = subst (λ (n : ℕ). Asks of.1.lines old.id n) (sym (hand_now bytes old of is there.0 there.1)) there

  module _ (is : IsStreamOf bytes old of) (passed : Passed) (here : old.at ≡ at.Entering passed) where
    pub stands : StandsSo of.1.lines old.id old.co.co old.line old.queued (own_note bytes of.0 old.pass) (at.Entering passed)
    stands = subst (λ (a : At). StandsSo of.1.lines old.id old.co.co old.line old.queued (own_note bytes of.0 old.pass) a) here is.stands

    pub asks_entering : Asks of.1.lines old.id old.line
    asks_entering = stands.3

    module _ (request : Request) (line : StandsAt of.1.lines old.id old.line (Ask request)) (other : Stream P (ImageState D) (Note D)) (pass : Pass P (ImageState D) (Note D)) where
      -- what it is afterwards
      pub entered_is : (answer : Enter) → IsOwnPass bytes of.0 pass old.co.co false
          → IsEntered bytes old.co.co request (own_note bytes of.0 old.pass) answer (own_note bytes of.0 pass)
          → MovesOn (Entered answer) (record old { pass = pass; queued = false }) other
          → IsStreamOf bytes other of
      entered_is Begun own entered moves =
          subst (λ (co : Stream P (ImageState D) (Note D)). IsStreamOf bytes co of) (sym moves)
          (stays bytes old of is (record old { pass = pass; queued = false; at = at.Serving }) own entered.1
          (entered.2 (asked of.1.lines) old.id of.1.image (requests_of old.id of.1.lines) (map (λ buffer. buffer.items) old.filled.items) old.buffer.items
          (named_now bytes old of is request line) (room_now bytes old of is request line) is.account)
          (begun_of old.co.co request, entered.0, refl, (request, line)) refl)
      entered_is Queued own entered moves =
          let account = entered.3 (asked of.1.lines) old.id of.1.image (requests_of old.id of.1.lines) (map (λ buffer. buffer.items) old.filled.items) old.buffer.items
          (named_now bytes old of is request line) (room_now bytes old of is request line) is.account in
          subst (λ (co : Stream P (ImageState D) (Note D)). IsStreamOf bytes co of) (sym moves)
          (stays bytes old of is (record old { pass = pass; queued = false; at = at.Waiting }) own entered.1 account
          (subst IsWaiting (sym entered.0) tt, request, line, omega (arith, entered.2, account.sized, is.account.sized)) refl)
      entered_is (Refused place) own entered moves =
          replied bytes old of is other request line
          (subst (λ (p : Pass P (ImageState D) (Note D)). IsOwnPass bytes of.0 p old.co.co false) (sym (ap (λ (co : Stream P (ImageState D) (Note D)). co.pass) moves.is)) own)
          (subst (λ (p : Pass P (ImageState D) (Note D)). (own_note bytes of.0 p).phase ≡ Idle) (sym (ap (λ (co : Stream P (ImageState D) (Note D)). co.pass) moves.is)) entered.0)
          (subst (λ (p : Pass P (ImageState D) (Note D)). length (own_note bytes of.0 p).entries ≡ length (own_note bytes of.0 old.pass).entries + 1) (sym (ap (λ (co : Stream P (ImageState D) (Note D)). co.pass) moves.is)) entered.1)
          (λ next. subst (λ (p : Pass P (ImageState D) (Note D)). Account bytes (asked of.1.lines) old.id old.co.co of.1.image (requests_of old.id of.1.lines) (own_note bytes of.0 p) (map (λ buffer. buffer.items) old.filled.items ++ old.buffer.items ∷ []) next)
          (sym (ap (λ (co : Stream P (ImageState D) (Note D)). co.pass) moves.is))
          (entered.2 (asked of.1.lines) old.id of.1.image (requests_of old.id of.1.lines) (map (λ buffer. buffer.items) old.filled.items) old.buffer.items next (named_now bytes old of is request line) is.account))
          (subst (λ (p : Pass P (ImageState D) (Note D)). GetsReply (record old { pass = p; queued = false }) other) (sym (ap (λ (co : Stream P (ImageState D) (Note D)). co.pass) moves.is)) moves)

      pub entered_resumes : (answer : Enter) (named : Option CoId) (wants : Wants)
          → Calls bytes of.0 (λ found left. DoesDeed bytes old.co request old.buffer.items old.buffer.items (Entered answer) found left) old.co named old.pass pass
          → MovesOn (Entered answer) (record old { pass = pass; queued = false }) other
          → wants ≡ wants_wakes (listed named ++ listed (woken_by (Entered answer)) ++ listed (itself old.co (at_after (Entered answer)))) false
          → Resumes bytes old of wants step.Yield other
      entered_resumes Begun named wants calls moves wakes =
          subst (λ (co : Stream P (ImageState D) (Note D)). Resumes bytes old of wants step.Yield co) (sym moves)
          (made_call bytes old of is request line (record old { pass = pass; queued = false; at = at.Serving }) (Entered Begun)
          (subst (λ (a : At). IsDeedAt a (Entered Begun)) (sym here) tt) named wants calls refl refl refl refl (omega arith) wakes)
      entered_resumes Queued named wants calls moves wakes =
          subst (λ (co : Stream P (ImageState D) (Note D)). Resumes bytes old of wants step.Yield co) (sym moves)
          (made_call bytes old of is request line (record old { pass = pass; queued = false; at = at.Waiting }) (Entered Queued)
          (subst (λ (a : At). IsDeedAt a (Entered Queued)) (sym here) tt) named wants calls refl refl refl refl (omega arith) wakes)
      entered_resumes (Refused place) named wants calls moves wakes =
          made_call bytes old of is request line other (Entered (Refused place))
          (subst (λ (a : At). IsDeedAt a (Entered (Refused place))) (sym here) tt) named wants
          (subst (λ (p : Pass P (ImageState D) (Note D)). Calls bytes of.0 (λ found left. DoesDeed bytes old.co request old.buffer.items other.buffer.items (Entered (Refused place)) found left) old.co named old.pass p)
          (sym (ap (λ (co : Stream P (ImageState D) (Note D)). co.pass) moves.is)) calls)
          (ap (λ (co : Stream P (ImageState D) (Note D)). co.id) moves.is) (ap (λ (co : Stream P (ImageState D) (Note D)). co.co) moves.is)
          (ap (λ (co : Stream P (ImageState D) (Note D)). co.queued) moves.is) (ap (λ (co : Stream P (ImageState D) (Note D)). co.at) moves.is)
          (ap (λ (co : Stream P (ImageState D) (Note D)). co.line) moves.is) wakes
