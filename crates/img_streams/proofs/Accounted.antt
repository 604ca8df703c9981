-- What each call on an image makes of the calling stream's note and account.
use Rattle.std.proofs.Common.{◌≡◌, ℕ, ◌+◌, ◌<◌, ◌≤◌, Option, IfSome, List, [], ◌∷◌, ◌++◌, set, length, sym, ap, ◌∙◌, subst, length-append}
use Rattle.std.proofs.lemmas.List.{length-set}
use Rattle.aio_model.specs.declared.serving.requests.Request.{Request}
use Rattle.aio_model.specs.Serving.{end_of}
use Rattle.co_state.specs.declared.cx.CoId.{CoId}
use Rattle.img_requests.specs.declared.answers.Piece.{Piece}
use Rattle.img_requests.specs.declared.answers.Enter.{Enter}
use Rattle.img_requests.specs.declared.answers.Enter.TheVariants.{Begun, Queued, Refused}
use Rattle.img_requests.specs.ImageState.{OnBegun}
use Rattle.img_requests.specs.Presents.{begun_of}
use Rattle.img_shared.specs.declared.journal.Entry.{Entry}
use Rattle.img_shared.specs.declared.phases.Phase.TheVariants.{Idle, Waiting, Active, Retired}
use Rattle.img_shared.specs.Calls.{Enters, IsServing, Serves, Leaves}
use Rattle.img_shared.specs.Images.{ImageState}
use Rattle.img_shared.specs.Notes.{Note, Placement, entries_from, note}
use Rattle.img_shared.specs.Phases.{phase_at, done_in, CanLeave}
use Rattle.img_shared.proofs.Sounds.{phase_set}
use Rattle.img_join.proofs.Accounts.{entries_own, account_begun, account_queued, account_piece, account_refused, account_left, account_retired}
use Rattle.img_streams.specs.ImageCalls.{come_to}
use Rattle.img_streams.specs.Steps.{IsEntered, IsPieceServed, HasLeft, NoteHasRetired}
use Rattle.img_streams.proofs.Owns.{Keeps}

pub came_to : {D : Type 0} → (co : CoId) (g x : ImageState D) → Keeps (come_to co g) x → Keeps g x
came_to co g x keeps = record { opening = keeps.opening; streams = keeps.streams; rows = keeps.rows }

-- whatever it did to the homes
pub retired_is : {D : Type 0} → (co : CoId) (g x : ImageState D) → x ≡ record (come_to co g) { phases = set g.phases co.co Retired }
    → x ≡ record g { homes = x.homes; phases = set g.phases co.co Retired }
retired_is co g x is = is ∙ ap (λ (h : List ℕ). record g { homes = h; phases = set g.phases co.co Retired }) (sym (ap (λ (i : ImageState _). i.homes) is))

module _ {D : Type 0} (bytes : D → Option (List ℕ)) (s : ℕ) (g x : ImageState D) (row : s < length g.phases) where
  one_more : (entry : Entry D) → entry.stream ≡ s → length (entries_from 0 s (g.journal ++ entry ∷ [])) ≡ length (entries_from 0 s g.journal) + 1
  one_more entry own = ap (λ (l : List (Placement D)). length l) (entries_own 0 s g.journal entry own)
      ∙ length-append (entries_from 0 s g.journal) (record { place = 0 + length g.journal; entry = entry } ∷ [])

  -- what `enter` makes of it
  entered : (request : Request) (answer : Enter) → phase_at g.phases s ≡ Idle → Enters g s request answer x
      → OnBegun answer (bytes g.device ≡ bytes g.left)
      → OnBegun answer (IfSome (bytes g.device) (λ told. end_of request ≤ length told))
      → IsEntered bytes s request (note bytes g s) answer (note bytes x s)
  entered request Begun idle enters clean inside = (
    ap (λ (i : ImageState D). phase_at i.phases s) enters.2 ∙ phase_set g.phases s (Active (begun_of s request)) row,
    ap (λ (i : ImageState D). entries_from 0 s i.journal) enters.2,
    λ asked id size requests buffers buffer named room account.
        account_begun bytes asked id s size requests g row buffers request named buffer account x buffer room enters clean inside,
  )
  entered request Queued idle enters clean inside = (
    ap (λ (i : ImageState D). phase_at i.phases s) enters.2 ∙ phase_set g.phases s (Waiting (begun_of s request)) row,
    ap (λ (i : ImageState D). entries_from 0 s i.journal) enters.2,
    enters.0,
    λ asked id size requests buffers buffer named room account.
        account_queued bytes asked id s size requests g row buffers request named buffer account x buffer room enters,
  )
  entered request (Refused place) idle enters clean inside = (
    ap (λ (i : ImageState D). phase_at i.phases s) enters.6 ∙ idle,
    ap (λ (i : ImageState D). length (entries_from 0 s i.journal)) enters.6 ∙ one_more enters.2 (ap (λ (e : Entry D). e.stream) enters.3),
    λ asked id size requests buffers before next named account.
        account_refused bytes asked id s size requests g row buffers request named before account x place before next idle enters,
  )

  pub keeps_entered : (request : Request) (answer : Enter) → Enters g s request answer x → Keeps g x
  keeps_entered request Begun enters = record {
    opening = ap (λ (i : ImageState D). i.opening) enters.2;
    streams = ap (λ (i : ImageState D). length i.requests) enters.2;
    rows = ap (λ (i : ImageState D). length i.phases) enters.2 ∙ length-set g.phases s _;
  }
  keeps_entered request Queued enters = record {
    opening = ap (λ (i : ImageState D). i.opening) enters.2;
    streams = ap (λ (i : ImageState D). length i.requests) enters.2;
    rows = ap (λ (i : ImageState D). length i.phases) enters.2 ∙ length-set g.phases s _;
  }
  keeps_entered request (Refused place) enters = record {
    opening = ap (λ (i : ImageState D). i.opening) enters.6;
    streams = ap (λ (i : ImageState D). length i.requests) enters.6;
    rows = ap (λ (i : ImageState D). length i.phases) enters.6;
  }

  -- what a piece makes of it
  pub served : (request : Request) (answer : Piece) (before after : List ℕ)
      → IsServing (phase_at g.phases s) s request (done_in (phase_at g.phases s))
      → Serves bytes s request (done_in (phase_at g.phases s)) answer g x before after
      → IsPieceServed bytes s request answer (note bytes g s) before (note bytes x s) after
  served request answer before after serving serves = record {
    phase = ap (λ (i : ImageState D). phase_at i.phases s) serves.image ∙ phase_set g.phases s _ row;
    entries = ap (λ (i : ImageState D). entries_from 0 s i.journal) serves.image;
    long = serves.pieced.long;
    account = λ asked id size requests buffers named account.
        account_piece bytes asked id s size requests g row buffers request named before account x answer (done_in (phase_at g.phases s)) after serving serves;
  }

  pub keeps_served : (request : Request) (done : ℕ) (answer : Piece) (before after : List ℕ) → Serves bytes s request done answer g x before after → Keeps g x
  keeps_served request done answer before after serves = record {
    opening = ap (λ (i : ImageState D). i.opening) serves.image;
    streams = ap (λ (i : ImageState D). length i.requests) serves.image;
    rows = ap (λ (i : ImageState D). length i.phases) serves.image ∙ length-set g.phases s _;
  }

  -- what leaving makes of it
  left_so : (place : ℕ) → CanLeave (phase_at g.phases s) → Leaves s place g x → HasLeft bytes s (note bytes g s) (note bytes x s)
  left_so place ended leaves = record {
    phase = ap (λ (i : ImageState D). phase_at i.phases s) leaves.image ∙ phase_set g.phases s Idle row;
    entries = ap (λ (i : ImageState D). length (entries_from 0 s i.journal)) leaves.image ∙ one_more leaves.entry (ap (λ (e : Entry D). e.stream) leaves.entry_is);
    account = λ request asked id size requests buffers before next named account.
        account_left bytes asked id s size requests g row buffers request named before account x place next ended leaves;
  }

  pub keeps_left : (place : ℕ) → Leaves s place g x → Keeps g x
  keeps_left place leaves = record {
    opening = ap (λ (i : ImageState D). i.opening) leaves.image;
    streams = ap (λ (i : ImageState D). length i.requests) leaves.image;
    rows = ap (λ (i : ImageState D). length i.phases) leaves.image ∙ length-set g.phases s _;
  }

  -- what retiring makes of it
  retired_so : x ≡ record g { homes = x.homes; phases = set g.phases s Retired } → NoteHasRetired bytes s (note bytes g s) (note bytes x s)
  retired_so is = record {
    phase = ap (λ (i : ImageState D). phase_at i.phases s) is ∙ phase_set g.phases s Retired row;
    entries = ap (λ (i : ImageState D). entries_from 0 s i.journal) is;
    account = λ asked id size requests buffers buffer account. account_retired bytes asked id s size requests g x row buffers buffer buffer account is;
  }

  pub keeps_retired : x ≡ record g { homes = x.homes; phases = set g.phases s Retired } → Keeps g x
  keeps_retired is = record {
    opening = ap (λ (i : ImageState D). i.opening) is;
    streams = ap (λ (i : ImageState D). length i.requests) is;
    rows = ap (λ (i : ImageState D). length i.phases) is ∙ length-set g.phases s _;
  }

  module _ (old new : Note D) (found : note bytes g s ≡ old) (left : new ≡ note bytes x s) where
    pub along : (P : Note D → Note D → Type 0) → P (note bytes g s) (note bytes x s) → P old new
    along P p = subst (λ (n : Note D). P old n) (sym left) (subst (λ (n : Note D). P n (note bytes x s)) found p)

    pub is_entered : (request : Request) (answer : Enter) → old.phase ≡ Idle → Enters g s request answer x
        → OnBegun answer (bytes g.device ≡ bytes g.left)
        → OnBegun answer (IfSome (bytes g.device) (λ told. end_of request ≤ length told))
        → IsEntered bytes s request old answer new
    is_entered request answer idle enters clean inside =
        along (λ n m. IsEntered bytes s request n answer m)
        (entered request answer (ap (λ (n : Note D). n.phase) found ∙ idle) enters clean inside)

    pub is_served : (request : Request) (answer : Piece) (before after : List ℕ)
        → IsServing old.phase s request (done_in old.phase)
        → Serves bytes s request (done_in (phase_at g.phases s)) answer g x before after
        → IsPieceServed bytes s request answer old before new after
    is_served request answer before after serving serves =
        along (λ n m. IsPieceServed bytes s request answer n before m after)
        (served request answer before after (subst (λ (n : Note D). IsServing n.phase s request (done_in n.phase)) (sym found) serving) serves)

    pub has_left : (place : ℕ) → CanLeave old.phase → Leaves s place g x → HasLeft bytes s old new
    has_left place ended leaves =
        along (λ n m. HasLeft bytes s n m) (left_so place (subst (λ (n : Note D). CanLeave n.phase) (sym found) ended) leaves)

    pub has_retired : x ≡ record g { homes = x.homes; phases = set g.phases s Retired } → NoteHasRetired bytes s old new
    has_retired is = along (λ n m. NoteHasRetired bytes s n m) (retired_so is)
