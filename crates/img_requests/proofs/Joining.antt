-- How the pieces of a request join up to its reply.
use Rattle.std.proofs.Common.{◌⊎◌, inl, inr, ◌≡◌, ℕ, ◌+◌, ◌<◌, ◌≤◌, List, ◌++◌, length, take, drop, replicate, Option, Some, None, option_map, IfSome, refl, sym, ap, subst, ◌∙◌, arith, length-drop}
use Rattle.std.proofs.lemmas.List.{take_all, drop-drop, length-take-le, length-replicate, replicate-append-replicate}
use Rattle.std.proofs.Math.Seq.{take-add}
use Rattle.aio_model.specs.declared.serving.requests.Request.{Request}
use Rattle.aio_model.specs.declared.serving.requests.Request.TheVariants.{Read, Write, Zero, Flush}
use Rattle.aio_model.specs.declared.serving.replies.Reply.TheVariants as reply
use Rattle.aio_model.specs.Serving.{put_at, length_of, end_of, FindsBytes, bytes_after}
use Rattle.img_requests.specs.declared.answers.Piece.{Piece}
use Rattle.img_requests.specs.declared.answers.Piece.TheVariants.{More, Whole, Failed}
use Rattle.img_requests.specs.Journal.{good_mark, mark_of_present, reply_of}
use Rattle.img_requests.specs.Presents.{kind_of, present_of}
use Rattle.img_requests.specs.Pieces.{Pieced, HasRoom, bytes_with, buffer_with, piece_at, done_after, stage_after}
use Rattle.img_requests.specs.Progress.{Progress, Replied, bytes_so_far, FoundSoFar, good_reply}
use Rattle.img_requests.proofs.PutAt.{put_at-nothing, put_at_behind, take-put_at}

-- a piece that begins at `done` and has n bytes is as long, where there are so many
length-piece_at : (from n : ℕ) (bytes : List ℕ) → from + n ≤ length bytes → length (piece_at from n bytes) ≡ n
length-piece_at from n bytes h = length-take-le n (drop from bytes) (omega (arith, length-drop from bytes))

-- nothing of a request is there before its first piece
bytes_so_far-zero : (request : Request) (bytes : List ℕ) → bytes_so_far request 0 bytes ≡ bytes
bytes_so_far-zero (Read at len) bytes = refl
bytes_so_far-zero (Write at written) bytes = put_at-nothing at bytes
bytes_so_far-zero (Zero at len) bytes = put_at-nothing at bytes
bytes_so_far-zero Flush bytes = refl

FoundSoFar-zero : (request : Request) (bytes buffer : List ℕ) → FoundSoFar request 0 bytes buffer
FoundSoFar-zero (Read at len) bytes buffer = refl
FoundSoFar-zero (Write at written) bytes buffer = tt
FoundSoFar-zero (Zero at len) bytes buffer = tt
FoundSoFar-zero Flush bytes buffer = tt

-- the next piece joins the ones before it
bytes_with-so_far : (request : Request) (done n : ℕ) (bytes : List ℕ)
    → end_of request ≤ length bytes → done + n ≤ length_of request
    → bytes_with request done n (bytes_so_far request done bytes) ≡ bytes_so_far request (done + n) bytes
bytes_with-so_far (Read at len) done n bytes inside left = refl
bytes_with-so_far (Write at written) done n bytes inside left =
    put_at_behind at done (take done written) (piece_at done n written) bytes (omega arith) (length-take-le done written (omega arith))
    ∙ ap (λ piece. put_at at piece bytes) (sym (take-add done n written))
bytes_with-so_far (Zero at len) done n bytes inside left =
    put_at_behind at done (replicate done 0) (replicate n 0) bytes (omega arith) (length-replicate done 0)
    ∙ ap (λ piece. put_at at piece bytes) (replicate-append-replicate done n 0)
bytes_with-so_far Flush done n bytes inside left = refl

-- bytes that a read finds aren't changed by it
bytes_so_far-read : (request : Request) (done n : ℕ) (bytes buffer : List ℕ)
    → buffer_with request done n (bytes_so_far request done bytes) buffer ≡ buffer_with request done n bytes buffer
bytes_so_far-read (Read at len) done n bytes buffer = refl
bytes_so_far-read (Write at written) done n bytes buffer = refl
bytes_so_far-read (Zero at len) done n bytes buffer = refl
bytes_so_far-read Flush done n bytes buffer = refl

FoundSoFar-more : (request : Request) (done n : ℕ) (bytes buffer : List ℕ)
    → end_of request ≤ length bytes → done + n ≤ length_of request → HasRoom request buffer
    → FoundSoFar request done bytes buffer
    → FoundSoFar request (done + n) bytes (buffer_with request done n bytes buffer)
FoundSoFar-more (Read at len) done n bytes buffer inside left room found =
    let piece : length (piece_at (at + done) n bytes) ≡ n = length-piece_at (at + done) n bytes (omega arith) in
    let front : take (done + length (piece_at (at + done) n bytes)) (put_at done (piece_at (at + done) n bytes) buffer)
    ≡ take done buffer ++ piece_at (at + done) n bytes =
    take-put_at done (piece_at (at + done) n bytes) buffer (omega (arith, room)) in
    ap (λ k. take (done + k) (put_at done (piece_at (at + done) n bytes) buffer)) (sym piece)
    ∙ front
    ∙ ap (λ before. before ++ piece_at (at + done) n bytes) found
    ∙ ap (λ rest. take done (drop at bytes) ++ take n rest) (sym (drop-drop done at bytes))
    ∙ sym (take-add done n (drop at bytes))
FoundSoFar-more (Write at written) done n bytes buffer inside left room found = tt
FoundSoFar-more (Zero at len) done n bytes buffer inside left room found = tt
FoundSoFar-more Flush done n bytes buffer inside left room found = tt

HasRoom-kept : (request : Request) (before after : List ℕ) → length after ≡ length before → HasRoom request before → HasRoom request after
HasRoom-kept (Read at len) before after same room = same ∙ room
HasRoom-kept (Write at written) before after same room = tt
HasRoom-kept (Zero at len) before after same room = tt
HasRoom-kept Flush before after same room = tt

puts_more : (request : Request) (done n : ℕ) (told : Option (List ℕ))
    → IfSome told (λ bytes. end_of request ≤ length bytes) → done + n ≤ length_of request
    → option_map (bytes_with request done n) (option_map (bytes_so_far request done) told) ≡ option_map (bytes_so_far request (done + n)) told
puts_more request done n None inside left = refl
puts_more request done n (Some bytes) inside left = ap Some (bytes_with-so_far request done n bytes inside left)

finds_more : (request : Request) (done n : ℕ) (told : Option (List ℕ)) (before after : List ℕ)
    → IfSome told (λ bytes. end_of request ≤ length bytes) → done + n ≤ length_of request → HasRoom request before
    → IfSome told (λ bytes. FoundSoFar request done bytes before)
    → IfSome (option_map (bytes_so_far request done) told) (λ bytes. after ≡ buffer_with request done n bytes before)
    → IfSome told (λ bytes. FoundSoFar request (done + n) bytes after)
finds_more request done n None before after inside left room found next = tt
finds_more request done n (Some bytes) before after inside left room found next =
    let same : after ≡ buffer_with request done n bytes before = next ∙ bytes_so_far-read request done n bytes before in
    subst (λ buffer. FoundSoFar request (done + n) bytes buffer) (sym same)
    (FoundSoFar-more request done n bytes before inside left room found)

-- before the first piece of a request inside the image
pub Progress-begun : (size : ℕ) (request : Request) (told : Option (List ℕ)) (buffer : List ℕ)
    → end_of request ≤ size → IfSome told (λ bytes. end_of request ≤ length bytes) → HasRoom request buffer
    → Progress size request told told buffer 0
Progress-begun size request told buffer within inside room = record {
  within = within;
  inside = inside;
  room = room;
  reached = omega arith;
  puts = begun told;
  finds = nothing told;
} where
  begun : (told : Option (List ℕ)) → told ≡ option_map (bytes_so_far request 0) told
  begun None = refl
  begun (Some bytes) = ap Some (sym (bytes_so_far-zero request bytes))

  nothing : (told : Option (List ℕ)) → IfSome told (λ bytes. FoundSoFar request 0 bytes buffer)
  nothing None = tt
  nothing (Some bytes) = FoundSoFar-zero request bytes buffer

-- a piece that was served
Progress-served : (size : ℕ) (request : Request) (told now next : Option (List ℕ)) (before after : List ℕ) (done n : ℕ)
    → Progress size request told now before done → done + n ≤ length_of request
    → next ≡ option_map (bytes_with request done n) now
    → IfSome now (λ bytes. after ≡ buffer_with request done n bytes before)
    → length after ≡ length before
    → Progress size request told next after (done + n)
Progress-served size request told now next before after done n so_far left puts finds long = record {
  within = so_far.within;
  inside = so_far.inside;
  room = HasRoom-kept request before after long so_far.room;
  reached = left;
  puts = puts ∙ ap (option_map (bytes_with request done n)) so_far.puts ∙ puts_more request done n told so_far.inside left;
  finds = finds_more request done n told before after so_far.inside left so_far.room so_far.finds
      (subst (λ o. IfSome o (λ bytes. after ≡ buffer_with request done n bytes before)) so_far.puts finds);
}

-- a piece with more to come
pub Progress-more : {size : ℕ} {request : Request} {told now next : Option (List ℕ)} {before after : List ℕ} {done n : ℕ}
    → Progress size request told now before done → Pieced request done n More now next before after
    → Progress size request told next after (done + n)
Progress-more {size} {request} {told} {now} {next} {before} {after} {done} {n} so_far piece =
    let less : done + n < length_of request = piece.answered in
    Progress-served size request told now next before after done n so_far (omega arith) piece.puts piece.finds piece.long

-- the marks that stand in the journal are those of the replies
reply_of-good : (request : Request) (found : List ℕ)
    → reply_of (good_mark (kind_of request) (length_of request)) found ≡ good_reply request found
reply_of-good (Read at len) found = refl
reply_of-good (Write at written) found = refl
reply_of-good (Zero at len) found = refl
reply_of-good Flush found = refl

-- a whole request fits the reply that says so, on the bytes before it, and leaves those behind it
Replied-good : (size : ℕ) (request : Request) (told now : Option (List ℕ)) (buffer : List ℕ)
    → Progress size request told now buffer (length_of request)
    → Replied size request told now (good_reply request buffer)
Replied-good size (Read at len) told now buffer whole = record {
  fits = record { answers = (whole.within, whole.room); finds = finds told whole.finds };
  leaves = whole.puts;
} where
  finds : (told : Option (List ℕ)) → IfSome told (λ bytes. take len buffer ≡ take len (drop at bytes))
      → IfSome told (λ bytes. buffer ≡ take len (drop at bytes))
  finds None found = tt
  finds (Some bytes) found = let room : length buffer ≡ len = whole.room in sym (take_all len buffer (omega arith)) ∙ found
Replied-good size (Write at written) told now buffer whole = record {
  fits = record { answers = (whole.within, refl); finds = finds told };
  leaves = whole.puts ∙ ap (λ piece. option_map (put_at at piece) told) (take_all (length written) written (omega arith));
} where
  finds : (told : Option (List ℕ)) → IfSome told (λ bytes. Unit {0})
  finds None = tt
  finds (Some bytes) = tt
Replied-good size (Zero at len) told now buffer whole = record {
  fits = record { answers = (whole.within, refl); finds = finds told };
  leaves = whole.puts;
} where
  finds : (told : Option (List ℕ)) → IfSome told (λ bytes. Unit {0})
  finds None = tt
  finds (Some bytes) = tt
Replied-good size Flush told now buffer whole = record {
  fits = record { answers = (whole.within, tt); finds = finds told };
  leaves = whole.puts;
} where
  finds : (told : Option (List ℕ)) → IfSome told (λ bytes. Unit {0})
  finds None = tt
  finds (Some bytes) = tt

-- a reply that is an error says nothing of bytes that are found
FindsBytes-eio : (request : Request) (k : ℕ) (told : Option (List ℕ)) → IfSome told (λ bytes. FindsBytes bytes request (reply.Eio k))
FindsBytes-eio request k None = tt
FindsBytes-eio (Read at len) k (Some bytes) = tt
FindsBytes-eio (Write at written) k (Some bytes) = tt
FindsBytes-eio (Zero at len) k (Some bytes) = tt
FindsBytes-eio Flush k (Some bytes) = tt

bytes_after-eio : (request : Request) (done : ℕ) (told : Option (List ℕ))
    → option_map (bytes_so_far request done) told ≡ option_map (bytes_after request (reply.Eio done)) told
bytes_after-eio request done None = refl
bytes_after-eio (Read at len) done (Some bytes) = refl
bytes_after-eio (Write at written) done (Some bytes) = refl
bytes_after-eio (Zero at len) done (Some bytes) = refl
bytes_after-eio Flush done (Some bytes) = refl

-- The last piece of a request gives it the reply whose mark `leave` puts into the journal.
pub Replied-last : (stream : ℕ) {size : ℕ} {request : Request} {told now next : Option (List ℕ)} {before after : List ℕ} {done n : ℕ}
    → (answer : Piece)
    → Progress size request told now before done → Pieced request done n answer now next before after
    → (answer ≡ Whole) ⊎ (answer ≡ Failed)
    → Replied size request told next
    (reply_of (mark_of_present (Some (present_of stream request (done_after answer done n) (stage_after answer)))) after)
Replied-last stream More so_far piece last = elim last [ inl whole ↦ cc | inr failed ↦ cc ]
Replied-last stream {size} {request} {told} {now} {next} {before} {after} {done} {n} Whole so_far piece last =
    let whole : done + n ≡ length_of request = piece.answered in
    let served : Progress size request told next after (done + n) =
    Progress-served size request told now next before after done n so_far (omega arith) piece.puts piece.finds piece.long in
    subst (Replied size request told next) (sym (reply_of-good request after))
    (Replied-good size request told next after (subst (Progress size request told next after) whole served))
Replied-last stream {size} {request} {told} {now} {next} {before} {after} {done} {n} Failed so_far piece last = record {
  fits = record { answers = (so_far.within, piece.answered); finds = FindsBytes-eio request done told };
  leaves = piece.keeps ∙ so_far.puts ∙ bytes_after-eio request done told;
}
