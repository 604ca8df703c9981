-- The coroutine of a stream: of which lock and script it is, and what one resume does.
use Rattle.std.specs.Prelude.{◌≡◌, ℕ, zero, suc, ◌^◌, ◌+◌, ◌<◌, ◌≤◌, ◌⊎◌, ◌==◌, Bool, true, false, Option, List, [], ◌∷◌, ◌++◌, length, map, slice_index, take, vec_capacity}
use Rattle.aio_model.specs.declared.serving.requests.Request.{Request}
use Rattle.aio_model.specs.declared.scripts.image_scripts.Script.{Script}
use Rattle.aio_model.specs.declared.scripts.image_scripts.Step.{Step}
use Rattle.aio_model.specs.declared.scripts.image_scripts.What.TheVariants.{Ask, Delay, Move}
use Rattle.aio_model.specs.Serving.Asked.{asked, requests_of}
use Rattle.aio_model.specs.Serving.{end_of}
use Rattle.co_state.specs.Wants.{Wants, nothing_asked}
use Rattle.co_state.specs.declared.cx.CoId.{CoId}
use Rattle.co_state.specs.declared.co.CoStep.{CoStep}
use Rattle.co_state.specs.declared.co.CoStep.TheVariants as step
use Rattle.co_mutex.specs.declared.lock.CoMutex.{CoMutex}
use Rattle.co_mutex.specs.Calls.{co_id_word}
use Rattle.co_mutex.specs.Passes.{known}
use Rattle.img_requests.specs.declared.present.Present.{Present}
use Rattle.img_requests.specs.declared.present.Stage.TheVariants as stage
use Rattle.img_shared.specs.declared.phases.Phase.TheVariants.{Idle, Active, Retired}
use Rattle.img_shared.specs.Images.{ImageState}
use Rattle.img_shared.specs.Notes.{Note}
use Rattle.img_shared.specs.Phases.{IsWaiting, CanLeave}
use Rattle.img_join.specs.Accounts.{Account}
use Rattle.img_streams.specs.declared.progress.At.{At}
use Rattle.img_streams.specs.declared.progress.At.TheVariants as at
use Rattle.img_streams.specs.declared.stream.Stream.{Stream}
use Rattle.img_streams.specs.Deeds.{Deed, woken_by, at_after, lines_past, itself, IsDeedAt, DoesDeed, listed, wants_wakes}
use Rattle.img_streams.specs.ImageCalls.{Retires}
use Rattle.img_streams.specs.Lines.{line_from, places_of, StandsAt, Asks, AreShort, HaveRoom}
use Rattle.img_streams.specs.Own.{own_note, IsOwnPass, Calls}
use Rattle.img_streams.specs.Turns.{GoesOnWaiting}

-- where a stream is, by its own note
abbrev pub StandsSo : {D : Type 0} → List Step → ℕ → ℕ → ℕ → Bool → Note D → At → Type 0
StandsSo lines id stream line queued note at.Between = (note.phase ≡ Idle) × (queued ≡ false)
StandsSo lines id stream line queued note (at.Entering passed) =
    (note.phase ≡ Idle) × (passed.stream ≡ stream) × (passed.index ≡ length note.entries) × Asks lines id line
StandsSo lines id stream line queued note at.Waiting =
    IsWaiting note.phase × (request : Request) × StandsAt lines id line (Ask request) × (end_of request ≤ note.size)
StandsSo lines id stream line queued note at.Serving =
    (present : Present) × (note.phase ≡ Active present) × (present.stage ≡ stage.Begun) × Asks lines id line
StandsSo lines id stream line queued note at.Ended = CanLeave note.phase × Asks lines id line
StandsSo lines id stream line queued note at.Retiring =
    (note.phase ≡ Idle) × (line ≡ length lines)
StandsSo lines id stream line queued note at.Gone = (note.phase ≡ Retired) × (queued ≡ false)

-- the stream has retired
abbrev pub HasGone : At → Type 0
HasGone at.Gone = Unit {0}
HasGone _ = ⊥

-- the gate was passed
abbrev pub IsEntering : At → Type 0
IsEntering (at.Entering passed) = Unit {0}
IsEntering _ = ⊥

module _ {P T N : Type 0} where
  -- there is room for one buffer more, and a next one
  pub record CanGetReply (co : Stream P T N) : Type 0 where
    pub room : length co.filled.items < vec_capacity co.filled
    pub some : 0 < length co.later.items
    pub index : co.index < 4096
    pub line : co.line + 1 < 2 ^ 64

  -- the request at hand has its reply
  pub record GetsReply (old new : Stream P T N) : Type 0 where
    pub is : new
        ≡ record old { filled = new.filled; buffer = new.buffer; later = new.later; index = old.index + 1; line = old.line + 1; at = at.Between }
    pub filled : new.filled.items ≡ old.filled.items ++ old.buffer ∷ []
    pub capacity : vec_capacity new.filled ≡ vec_capacity old.filled
    pub next : old.later.items ≡ new.buffer ∷ new.later.items

  -- by so many lines
  abbrev pub MovesBy : ℕ → At → Stream P T N → Stream P T N → Type 0
  MovesBy zero next old new = new ≡ record old { at = next }
  MovesBy (suc more) next old new = GetsReply old new

  -- the stream goes on from its deed
  abbrev pub MovesOn : Deed → Stream P T N → Stream P T N → Type 0
  MovesOn deed old new = MovesBy (lines_past deed) (at_after deed) old new

module _ {P D : Type 0} where
  abbrev pub source : CoMutex P (ImageState D) (Note D) → Script → CoMutex P (ImageState D) (Note D) × Script
  source lock script = (lock, script)

module _ {P D : Type 0} (bytes : D → Option (List ℕ)) where
  -- The coroutine is of this lock and this script.
  pub record IsStreamOf (co : Stream P (ImageState D) (Note D)) (of : CoMutex P (ImageState D) (Note D) × Script) : Type 0 where
    -- its pass is that lock's
    pub pass : IsOwnPass bytes of.0 co.pass co.co.co co.queued
    -- its id is that of its stream line, which has its number
    pub named : slice_index (map (λ stream. stream.id) of.1.streams) co.co.co ≡ co.id
    -- it knows where its lines stand
    pub places : co.places.items ≡ places_of co.id of.1.lines
    -- Its note has as many requests as that script has of the stream. Its entries are the image's calls for the stream's
    -- lines above its place, with those made so far for the line at it, and its buffers hold what these calls filled.
    pub account : Account bytes (asked of.1.lines) co.id co.co.co of.1.image (requests_of co.id of.1.lines) (own_note bytes of.0 co.pass)
        (map (λ buffer. buffer.items) co.filled.items) co.buffer.items
    pub above : requests_of co.id (take co.line of.1.lines) ≡ length (own_note bytes of.0 co.pass).entries
    pub inside : co.line ≤ length of.1.lines
    pub index : co.index ≡ length (own_note bytes of.0 co.pass).entries
    pub stands : StandsSo of.1.lines co.id co.co.co co.line co.queued (own_note bytes of.0 co.pass) co.at
    -- no request has more than 65,536 bytes, and there are at most 4,096 of the stream
    pub short : AreShort of.1.lines
    pub few : requests_of co.id of.1.lines ≤ 4096
    pub many : length of.1.lines < 2 ^ 64
    -- the buffers of the requests to come
    pub filled : length co.filled.items ≡ length (own_note bytes of.0 co.pass).entries
    pub capacity : requests_of co.id of.1.lines ≤ vec_capacity co.filled
    pub later : length co.later.items + length (own_note bytes of.0 co.pass).entries ≡ requests_of co.id of.1.lines
    pub room : HaveRoom (asked of.1.lines) co.id (length (own_note bytes of.0 co.pass).entries) (co.buffer.items ∷ map (λ buffer. buffer.items) co.later.items)

  -- and it has this number
  abbrev pub IsStreamAt : ℕ → Stream P (ImageState D) (Note D) → CoMutex P (ImageState D) (Note D) × Script → Type 0
  IsStreamAt number co of = IsStreamOf co of × (co.co.co ≡ number)

  module _ (old : Stream P (ImageState D) (Note D)) (of : CoMutex P (ImageState D) (Note D) × Script) where
    -- the stream's line at hand
    abbrev pub at_hand : ℕ
    at_hand = line_from old.id of.1.lines old.line

    -- It waits for the lock, for a request or to retire. It wakes whom its call on the lock named.
    pub record WaitsForLock (wants : Wants) (new : Stream P (ImageState D) (Note D)) : Type 0 where
      pub named : Option CoId
      pub goes : GoesOnWaiting old.queued (co_id_word old.co) named (known old.pass) (known new.pass)
      pub line : Asks of.1.lines old.id at_hand ⊎ (at_hand ≡ length of.1.lines)
      pub queued : new.queued ≡ true
      pub wakes : wants ≡ wants_wakes (listed named) false

    -- It took the lock once and did this one deed on the image for the request at hand. It wakes whom its unlock named,
    -- whom the image named, and itself where it doesn't wait for its hold.
    pub record MakesCall (wants : Wants) (new : Stream P (ImageState D) (Note D)) : Type 0 where
      pub request : Request
      pub line : StandsAt of.1.lines old.id at_hand (Ask request)
      pub deed : Deed
      pub suits : IsDeedAt old.at deed
      pub named : Option CoId
      pub calls : Calls bytes of.0 (DoesDeed bytes old.co request old.buffer.items new.buffer.items deed) old.co named old.pass new.pass
      pub queued : new.queued ≡ false
      pub at_is : new.at ≡ at_after deed
      pub line_is : new.line ≡ at_hand + lines_past deed
      pub wakes : wants ≡ wants_wakes (listed named ++ listed (woken_by deed) ++ listed (itself old.co (at_after deed))) false

    -- It retired: no line is left. It wakes whom its unlock named, and the last of all streams has its home quit.
    pub record Retiring (wants : Wants) (new : Stream P (ImageState D) (Note D)) : Type 0 where
      pub none_left : at_hand ≡ length of.1.lines
      pub going : ℕ
      pub named : Option CoId
      pub calls : Calls bytes of.0 (λ found left. Retires old.co going found left) old.co named old.pass new.pass
      pub queued : new.queued ≡ false
      pub at_is : new.at ≡ at.Gone
      pub line_is : new.line ≡ at_hand
      pub wakes : wants ≡ wants_wakes (listed named) (going == 0)

    -- one resume
    abbrev pub Resumes : Wants → CoStep → Stream P (ImageState D) (Note D) → Type 0
    Resumes wants step.Yield new =
        (new.id ≡ old.id) × (new.co ≡ old.co) × (WaitsForLock wants new ⊎ MakesCall wants new)
    Resumes wants step.Done new =
        ((old.at ≡ at.Gone) × (new ≡ old) × (wants ≡ nothing_asked)) ⊎ ((new.id ≡ old.id) × (new.co ≡ old.co) × Retiring wants new)
    Resumes wants (step.Sleep ns) new =
        (old.at ≡ at.Between) × StandsAt of.1.lines old.id at_hand (Delay ns) × (new ≡ record old { line = at_hand + 1 }) × (wants ≡ nothing_asked)
    Resumes wants (step.Move loop) new =
        (old.at ≡ at.Between)
        × StandsAt of.1.lines old.id at_hand (Move loop)
        × (new ≡ record old { line = at_hand + 1; co = record { co = old.co.co; home = loop } })
        × (wants ≡ nothing_asked)
