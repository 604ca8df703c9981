-- A stream's account goes on by each of its calls.
use Rattle.std.proofs.Common.{◌≡◌, ℕ, ◌+◌, ◌<◌, ◌≤◌, ◌==◌, inl, inr, true, false, cond, set, List, [], ◌∷◌, ◌++◌, length, Option, Some, None, option_map, IfSome, refl, sym, ap, subst, ◌∙◌, arith}
use Rattle.std.proofs.lemmas.Bool.{cases_Bool, eq-eqb, cond-true, cond-false}
use Rattle.std.proofs.lemmas.List.Sums.{sum_by-cons}
use Rattle.aio_model.specs.declared.serving.requests.Request.{Request}
use Rattle.aio_model.specs.declared.serving.requests.Request.TheVariants as request
use Rattle.aio_model.specs.declared.serving.replies.Reply.TheVariants as reply
use Rattle.aio_model.specs.Serving.Asked.{Asked, request_named}
use Rattle.aio_model.specs.Serving.{length_of, end_of, FindsBytes, bytes_after}
use Rattle.img_requests.specs.declared.answers.Piece.{Piece}
use Rattle.img_requests.specs.declared.answers.Piece.TheVariants.{More, Whole, Failed}
use Rattle.img_requests.specs.declared.answers.Enter.TheVariants as entered
use Rattle.img_requests.specs.declared.journal.Mark.{Mark}
use Rattle.img_requests.specs.declared.present.Present.{Present}
use Rattle.img_requests.specs.declared.present.Stage.{Stage}
use Rattle.img_requests.specs.declared.present.Stage.TheVariants as stage
use Rattle.img_requests.specs.ImageState.{IsEnded}
use Rattle.img_requests.specs.Journal.{mark_ended_at, reply_of}
use Rattle.img_requests.specs.Pieces.{Pieced, HasRoom, piece_length, done_after, stage_after}
use Rattle.img_requests.specs.Presents.{present_of, begun_of, kind_of}
use Rattle.img_requests.specs.Progress.{Progress, Replied}
use Rattle.img_requests.proofs.Joining.{Progress-begun, Progress-more, Replied-last}
use Rattle.img_shared.specs.declared.journal.Entry.{Entry}
use Rattle.img_shared.specs.declared.phases.Phase.{Phase}
use Rattle.img_shared.specs.declared.phases.Phase.TheVariants.{Idle, Waiting, Active, Retired}
use Rattle.img_shared.specs.Calls.{Enters, Serves, Leaves, IsServing}
use Rattle.img_shared.specs.Images.{ImageState}
use Rattle.img_shared.specs.Journals.{noted_count}
use Rattle.img_shared.specs.Phases.{hold_asked}
use Rattle.aio_model.specs.Holds.Table.{wake_one, unlocked}
use Rattle.aio_model.specs.Holds.WhoHolds.{ReadersWriter}
use Rattle.img_shared.specs.Notes.{Placement, Bytes, entries_from, told_in, note}
use Rattle.img_shared.specs.Phases.{phase_at, CanLeave, IsWaiting, taken_up}
use Rattle.img_join.specs.Accounts.{IsAnsweredBy, AllAnswered, Going, Doing, Account}
use Rattle.img_shared.proofs.Sounds.{phase_set}

-- ---- entries

pub length_from : {D : Type 0} → (place k : ℕ) (journal : List (Entry D)) → length (entries_from place k journal) ≡ noted_count k journal
length_from place k [] = refl
length_from {D} place k (one ∷ journal) =
    let ih : length (entries_from (place + 1) k journal) ≡ noted_count k journal = length_from (place + 1) k journal in
    let parts : noted_count k (one ∷ journal) ≡ cond (one.stream == k) 1 0 + noted_count k journal = sum_by-cons (λ (entry : Entry D). cond (entry.stream == k) 1 0) one journal in
    elim (cases_Bool (one.stream == k)) [
      | inl h ↦
          let here : cond {A = ℕ} (one.stream == k) 1 0 ≡ 1 = cond-true (one.stream == k) 1 0 h in
          ap (λ (l : List (Placement D)). length l) (cond-true (one.stream == k) _ _ h) ∙ omega (arith, ih, parts, here)
      | inr h ↦
          let here : cond {A = ℕ} (one.stream == k) 1 0 ≡ 0 = cond-false (one.stream == k) 1 0 h in
          ap (λ (l : List (Placement D)). length l) (cond-false (one.stream == k) _ _ h) ∙ omega (arith, ih, parts, here)
    ]

-- the stream's own entry comes last
pub entries_own : {D : Type 0} → (place k : ℕ) (journal : List (Entry D)) (entry : Entry D) → entry.stream ≡ k
    → entries_from place k (journal ++ entry ∷ []) ≡ entries_from place k journal ++ record { place = place + length journal; entry = entry } ∷ []
entries_own {D} place k [] entry e =
    cond-true (entry.stream == k) (record { place = place; entry = entry } ∷ []) [] (eq-eqb entry.stream k e)
    ∙ ap (λ (n : ℕ). record { place = n; entry = entry } ∷ []) (let z : place ≡ place + 0 = omega arith in z)
entries_own {D} place k (one ∷ journal) entry e =
    let far : place + 1 + length journal ≡ place + length (one ∷ journal) = omega arith in
    let ih : entries_from (place + 1) k (journal ++ entry ∷ []) ≡ entries_from (place + 1) k journal ++ record { place = place + length (one ∷ journal); entry = entry } ∷ [] =
    entries_own (place + 1) k journal entry e ∙ ap (λ (n : ℕ). entries_from (place + 1) k journal ++ record { place = n; entry = entry } ∷ []) far in
    let rest : List (Placement D) = entries_from (place + 1) k journal in
    let last : List (Placement D) = record { place = place + length (one ∷ journal); entry = entry } ∷ [] in
    let first : Placement D = record { place = place; entry = one } in
    ap (λ (l : List (Placement D)). cond (one.stream == k) (first ∷ l) l) ih
    ∙ (elim (one.stream == k) as (λ b. cond b (first ∷ (rest ++ last)) (rest ++ last) ≡ cond b (first ∷ rest) rest ++ last) [ true ↦ refl | false ↦ refl ])

answered_push : {D : Type 0} → (bytes : D → Option (List ℕ)) (asked : List Asked) (id size : ℕ) (entries : List (Placement D)) (buffers : List (List ℕ)) (placed : Placement D) (found : List ℕ)
    → AllAnswered bytes asked id size entries buffers → IsAnsweredBy bytes asked id size placed.entry found
    → AllAnswered bytes asked id size (entries ++ placed ∷ []) (buffers ++ found ∷ [])
answered_push bytes asked id size [] [] placed found all one = (one, tt)
answered_push bytes asked id size [] (b ∷ bs) placed found all one = absurd all
answered_push bytes asked id size (e ∷ es) [] placed found all one = absurd all
answered_push bytes asked id size (e ∷ es) (b ∷ bs) placed found all one = (all.0, answered_push bytes asked id size es bs placed found all.1 one)

some_same : (p q : Request) → Some p ≡ Some q → p ≡ q
some_same p q e = ap (λ (o : Option Request). or_else p o) e where
  or_else : Request → Option Request → Request
  or_else d None = d
  or_else d (Some x) = x

-- ---- replies

reply_ended : (size s : ℕ) (request : Request) (answer : Piece) (left now next : Option (List ℕ)) (before after : List ℕ) (done n : ℕ)
    → Progress size request left now before done → Pieced request done n answer now next before after
    → Going size (stage_after answer) request (done_after answer done n) after (Some (record { left = left; now = next }))
reply_ended size s request More left now next before after done n so_far piece = Progress-more so_far piece
reply_ended size s request Whole left now next before after done n so_far piece = Replied-last s Whole so_far piece (inl refl)
reply_ended size s request Failed left now next before after done n so_far piece = Replied-last s Failed so_far piece (inr refl)

-- a request past the end
finds_none : (request : Request) (told : Option (List ℕ)) → IfSome told (λ bytes. FindsBytes bytes request reply.Einval)
finds_none request None = tt
finds_none (request.Read at len) (Some bytes) = tt
finds_none (request.Write at written) (Some bytes) = tt
finds_none (request.Zero at len) (Some bytes) = tt
finds_none request.Flush (Some bytes) = tt

after_none : (request : Request) (told : Option (List ℕ)) → told ≡ option_map (bytes_after request reply.Einval) told
after_none request None = refl
after_none (request.Read at len) (Some bytes) = refl
after_none (request.Write at written) (Some bytes) = refl
after_none (request.Zero at len) (Some bytes) = refl
after_none request.Flush (Some bytes) = refl

replied_none : (size : ℕ) (request : Request) (told : Option (List ℕ)) → size < end_of request → Replied size request told told reply.Einval
replied_none size request told past = record { fits = record { answers = past; finds = finds_none request told }; leaves = after_none request told }

-- what a phase says, for each request that has the name: there is just one
for_one : (asked : List Asked) (id s size : ℕ) (phase : Phase) (told : Option Bytes) (index : ℕ) (buffer : List ℕ) (request : Request)
    → request_named asked id index ≡ Some request → Doing s size request buffer phase told
    → (other : Request) → request_named asked id index ≡ Some other → Doing s size other buffer phase told
for_one asked id s size phase told index buffer request named doing other here =
    subst (λ (r : Request). Doing s size r buffer phase told) (some_same request other (sym named ∙ here)) doing

-- a request that was queued
pub waiting_present : (phase : Phase) → IsWaiting phase → (present : Present) × (phase ≡ Waiting present)
waiting_present Idle waits = absurd waits
waiting_present (Waiting present) waits = (present, refl)
waiting_present (Active present) waits = absurd waits
waiting_present Retired waits = absurd waits

told_longer : (told : Option (List ℕ)) (size end : ℕ) → end ≤ size → IfSome told (λ all. size ≤ length all) → IfSome told (λ all. end ≤ length all)
told_longer None size end within long = tt
told_longer (Some all) size end within long = omega (arith, within, long)

module _ {D : Type 0} (bytes : D → Option (List ℕ)) (asked : List Asked) (id s size requests : ℕ) where
  abbrev pub Acc : ImageState D → List (List ℕ) → List ℕ → Type 0
  Acc image buffers buffer = Account bytes asked id s size requests (note bytes image s) buffers buffer

  abbrev pub Names : ImageState D → Request → Type 0
  Names image request = request_named asked id (length (entries_from 0 s image.journal)) ≡ Some request

  -- the stream retires: it has no request in progress
  pub account_retired : (old new : ImageState D) → s < length old.phases → (buffers : List (List ℕ)) (before buffer : List ℕ) → Acc old buffers before
      → new ≡ record old { homes = new.homes; phases = set old.phases s Retired } → Acc new buffers buffer
  account_retired old new below buffers before buffer account is =
      subst (λ (image : ImageState D). Acc image buffers buffer) (sym is) (record {
        sized = account.sized;
        many = account.many;
        answered = account.answered;
        doing = λ other here. subst (λ (p : Phase). Doing s size other buffer p (told_in p (bytes old.left) (bytes old.device))) (sym (phase_set old.phases s Retired below)) tt;
      })

  module _ (old : ImageState D) (below : s < length old.phases) (buffers : List (List ℕ)) (request : Request) (named : Names old request) where
    -- another phase of the stream, and perhaps another device
    account_phase : (x : Phase) (device : D) (access : ReadersWriter) (before buffer : List ℕ) → Acc old buffers before
        → Doing s size request buffer x (told_in x (bytes old.left) (bytes device))
        → Acc (record old { device = device; phases = set old.phases s x; access = access }) buffers buffer
    account_phase x device access before buffer account doing = record {
      sized = account.sized;
      many = account.many;
      answered = account.answered;
      doing = for_one asked id s size (phase_at (set old.phases s x) s) (told_in (phase_at (set old.phases s x) s) (bytes old.left) (bytes device)) (length (entries_from 0 s old.journal)) buffer request named
          (subst (λ (p : Phase). Doing s size request buffer p (told_in p (bytes old.left) (bytes device))) (sym (phase_set old.phases s x below)) doing);
    }

    module _ (before : List ℕ) (account : Acc old buffers before) where
      -- the request is begun
      begins : (buffer : List ℕ) → HasRoom request buffer → end_of request ≤ old.size → bytes old.device ≡ bytes old.left
          → IfSome (bytes old.device) (λ told. end_of request ≤ length told)
          → Doing s size request buffer (Active (begun_of s request)) (told_in (Active (begun_of s request)) (bytes old.left) (bytes old.device))
      begins buffer room within clean inside = (
        refl,
        subst (λ (left : Option (List ℕ)). Progress size request left (bytes old.device) buffer 0) clean
            (subst (λ (n : ℕ). Progress n request (bytes old.device) (bytes old.device) buffer 0) account.sized
            (Progress-begun old.size request (bytes old.device) buffer within inside room)),
      )

      pub account_begun : (new : ImageState D) (buffer : List ℕ) → HasRoom request buffer
          → Enters old s request entered.Begun new → bytes old.device ≡ bytes old.left
          → IfSome (bytes old.device) (λ told. end_of request ≤ length told)
          → Acc new buffers buffer
      account_begun new buffer room enters clean inside =
          subst (λ (image : ImageState D). Acc image buffers buffer) (sym enters.2)
          (account_phase (Active (begun_of s request)) old.device (hold_asked (kind_of request) s old.access).state before buffer account (begins buffer room enters.0 clean inside))

      pub account_queued : (new : ImageState D) (buffer : List ℕ) → HasRoom request buffer → Enters old s request entered.Queued new → Acc new buffers buffer
      account_queued new buffer room enters =
          subst (λ (image : ImageState D). Acc image buffers buffer) (sym enters.2)
          (account_phase (Waiting (begun_of s request)) old.device (hold_asked (kind_of request) s old.access).state before buffer account (refl, room))

      -- the hold is taken up
      pub account_granted : (new : ImageState D) → IsWaiting (phase_at old.phases s)
          → end_of request ≤ old.size
          → new ≡ record old { phases = set old.phases s (taken_up (phase_at old.phases s)); access = (wake_one old.access).state }
          → bytes old.device ≡ bytes old.left
          → IfSome (bytes old.device) (λ told. old.size ≤ length told)
          → Acc new buffers before
      account_granted new waiting within is clean inside =
          let found = waiting_present (phase_at old.phases s) waiting in
          let present = found.0 in
          let waits = found.1 in
          let was : Doing s size request before (Waiting present) (told_in (Waiting present) (bytes old.left) (bytes old.device)) =
          subst (λ (p : Phase). Doing s size request before p (told_in p (bytes old.left) (bytes old.device))) waits (account.doing request named) in
          let next : taken_up (phase_at old.phases s) ≡ Active (begun_of s request) = ap taken_up waits ∙ ap (λ (p : Present). Active p) was.0 in
          subst (λ (image : ImageState D). Acc image buffers before) (sym (is ∙ ap (λ (x : Phase). record old { phases = set old.phases s x; access = (wake_one old.access).state }) next))
          (account_phase (Active (begun_of s request)) old.device (wake_one old.access).state before before account (begins before was.1 within clean (told_longer (bytes old.device) old.size (end_of request) within inside)))

      -- a piece is served
      pub account_piece : (new : ImageState D) (answer : Piece) (done : ℕ) (after : List ℕ)
          → IsServing (phase_at old.phases s) s request done
          → Serves bytes s request done answer old new before after
          → Acc new buffers after
      account_piece new answer done after serving serves =
          let was : Doing s size request before (Active (present_of s request done stage.Begun)) (told_in (Active (present_of s request done stage.Begun)) (bytes old.left) (bytes old.device)) =
          subst (λ (p : Phase). Doing s size request before p (told_in p (bytes old.left) (bytes old.device))) serving (account.doing request named) in
          let n = piece_length (length_of request) done in
          subst (λ (image : ImageState D). Acc image buffers after) (sym serves.image)
          (account_phase (Active (present_of s request (done_after answer done n) (stage_after answer))) new.device old.access before after account
          (refl, reply_ended size s request answer (bytes old.left) (bytes old.device) (bytes new.device) before after done n was.1 serves.pieced))

      -- the stream's next entry is made
      account_entry : (entry : Entry D) (found next : List ℕ) (left : D) (phases : List Phase) (access : ReadersWriter)
          → entry.stream ≡ s → entry.index ≡ noted_count s old.journal
          → Replied size request (bytes entry.before.value.value) (bytes entry.after.value.value) (reply_of entry.mark found)
          → phase_at phases s ≡ Idle
          → Acc (record old { left = left; journal = old.journal ++ entry ∷ []; phases = phases; access = access }) (buffers ++ found ∷ []) next
      account_entry entry found next left phases access own index replied idle =
          let more : entries_from 0 s (old.journal ++ entry ∷ []) ≡ entries_from 0 s old.journal ++ record { place = 0 + length old.journal; entry = entry } ∷ [] =
          entries_own 0 s old.journal entry own in
          let at : entry.index ≡ length (entries_from 0 s old.journal) = index ∙ sym (length_from 0 s old.journal) in
          record {
            sized = account.sized;
            many = account.many;
            answered = subst (λ (l : List (Placement D)). AllAnswered bytes asked id size l (buffers ++ found ∷ [])) (sym more)
                (answered_push bytes asked id size (entries_from 0 s old.journal) buffers (record { place = 0 + length old.journal; entry = entry }) found account.answered
                (request, ap (request_named asked id) at ∙ named, replied));
            doing = λ other here. subst (λ (p : Phase). Doing s size other next p (told_in p (bytes left) (bytes old.device))) (sym idle) tt;
          }

      pub account_refused : (new : ImageState D) (place : ℕ) (found next : List ℕ)
          → phase_at old.phases s ≡ Idle
          → Enters old s request (entered.Refused place) new
          → Acc new (buffers ++ found ∷ []) next
      account_refused new place found next idle (past, at, entry, is, first, last, image) =
          subst (λ (i : ImageState D). Acc i (buffers ++ found ∷ []) next) (sym image)
          (account_entry entry found next old.left old.phases old.access
          (ap (λ (e : Entry D). e.stream) is) (ap (λ (e : Entry D). e.index) is)
          (subst (λ (m : Mark). Replied size request (bytes entry.before.value.value) (bytes entry.after.value.value) (reply_of m found)) (sym (ap (λ (e : Entry D). e.mark) is))
          (subst (λ (d : D). Replied size request (bytes d) (bytes entry.after.value.value) reply.Einval) (sym first)
          (subst (λ (d : D). Replied size request (bytes old.left) (bytes d) reply.Einval) (sym last)
          (replied_none size request (bytes old.left) (subst (λ (n : ℕ). n < end_of request) account.sized past)))))
          idle)

      ended_replied : (ended : Stage) (done : ℕ) (left now : Option (List ℕ)) → IsEnded ended
          → Going size ended request done before (Some (record { left = left; now = now }))
          → Replied size request left now (reply_of (mark_ended_at ended (kind_of request) (length_of request) done) before)
      ended_replied stage.Begun done left now over going = absurd over
      ended_replied stage.Whole done left now over going = going
      ended_replied stage.Failed done left now over going = going

      pub account_left : (new : ImageState D) (place : ℕ) (next : List ℕ)
          → CanLeave (phase_at old.phases s)
          → Leaves s place old new
          → Acc new (buffers ++ before ∷ []) next
      account_left new place next ended left =
          let p = left.present in
          let over : IsEnded p.stage = subst CanLeave left.was ended in
          let was : Doing s size request before (Active p) (told_in (Active p) (bytes old.left) (bytes old.device)) =
          subst (λ (x : Phase). Doing s size request before x (told_in x (bytes old.left) (bytes old.device))) left.was (account.doing request named) in
          let good : Replied size request (bytes old.left) (bytes old.device) (reply_of (mark_ended_at p.stage (kind_of request) (length_of request) p.done) before) =
          ended_replied p.stage p.done (bytes old.left) (bytes old.device) over was.1 in
          let marked : left.entry.mark ≡ mark_ended_at p.stage (kind_of request) (length_of request) p.done =
          ap (λ (e : Entry D). e.mark) left.entry_is ∙ ap (λ (q : Present). mark_ended_at p.stage q.kind q.length p.done) was.0 in
          subst (λ (i : ImageState D). Acc i (buffers ++ before ∷ []) next) (sym left.image)
          (account_entry left.entry before next old.device (set old.phases s Idle) (unlocked s old.access).state
          (ap (λ (e : Entry D). e.stream) left.entry_is) (ap (λ (e : Entry D). e.index) left.entry_is)
          (subst (λ (m : Mark). Replied size request (bytes left.entry.before.value.value) (bytes left.entry.after.value.value) (reply_of m before)) (sym marked)
          (subst (λ (d : D). Replied size request (bytes d) (bytes left.entry.after.value.value) (reply_of (mark_ended_at p.stage (kind_of request) (length_of request) p.done) before)) (sym left.before)
          (subst (λ (d : D). Replied size request (bytes old.left) (bytes d) (reply_of (mark_ended_at p.stage (kind_of request) (length_of request) p.done) before)) (sym left.after) good)))
          (phase_set old.phases s Idle below))
