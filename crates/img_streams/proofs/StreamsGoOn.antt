-- A stream goes on in its script.
use Rattle.std.proofs.Common.{◌≡◌, ℕ, ◌+◌, ◌<◌, ◌≤◌, ◌^◌, Bool, false, Option, Some, List, [], ◌∷◌, ◌++◌, length, map, refl, sym, ap, ◌∙◌, subst, arith, length-append}
use Rattle.std.proofs.lemmas.List.{map-append}
use Rattle.aio_model.specs.declared.serving.requests.Request.{Request}
use Rattle.aio_model.specs.declared.serving.requests.Request.TheVariants as request
use Rattle.aio_model.specs.declared.scripts.image_scripts.Script.{Script}
use Rattle.aio_model.specs.declared.scripts.image_scripts.What.TheVariants.{Ask}
use Rattle.aio_model.specs.Serving.Asked.{asked, requests_of, request_named}
use Rattle.aio_model.specs.Serving.{length_of}
use Rattle.co_mutex.specs.declared.lock.CoMutex.{CoMutex}
use Rattle.co_mutex.specs.declared.lock.Pass.{Pass}
use Rattle.img_requests.specs.Pieces.{HasRoom}
use Rattle.img_shared.specs.declared.phases.Phase.TheVariants.{Idle}
use Rattle.img_shared.specs.Images.{ImageState}
use Rattle.img_shared.specs.Notes.{Note, Placement}
use Rattle.img_join.specs.Accounts.{Account}
use Rattle.img_streams.specs.declared.stream.Stream.{Stream}
use Rattle.img_streams.specs.Lines.{line_from, StandsAt, HaveRoom}
use Rattle.img_streams.specs.Own.{own_note, IsOwnPass}
use Rattle.img_streams.specs.Streams.{IsStreamOf, StandsSo, CanGetReply, GetsReply}
use Rattle.img_streams.proofs.LinesAlong.{named_here, above_less, above_ask, line_here, short_here}

room_kept : (request : Request) (before after : List ℕ) → length after ≡ length before → HasRoom request before → HasRoom request after
room_kept (request.Read at len) before after same room = same ∙ room
room_kept (request.Write at bytes) before after same room = tt
room_kept (request.Zero at len) before after same room = tt
room_kept request.Flush before after same room = tt

module _ {P D : Type 0} (bytes : D → Option (List ℕ)) (old : Stream P (ImageState D) (Note D)) (of : CoMutex P (ImageState D) (Note D) × Script)
    (is : IsStreamOf bytes old of) where
  -- what is known at the line of a request
  module _ (request : Request) (line : StandsAt of.1.lines old.id old.line (Ask request)) where
    pub named_now : request_named (asked of.1.lines) old.id (length (own_note bytes of.0 old.pass).entries) ≡ Some request
    named_now = ap (λ (n : ℕ). request_named (asked of.1.lines) old.id n) (sym is.above) ∙ named_here of.1.lines old.id old.line request line

    pub less_now : length (own_note bytes of.0 old.pass).entries < requests_of old.id of.1.lines
    less_now = omega (arith, is.above, above_less of.1.lines old.id old.line request line)

    pub due_now : length (own_note bytes of.0 old.pass).entries < (own_note bytes of.0 old.pass).requests
    due_now = subst (λ (n : ℕ). length (own_note bytes of.0 old.pass).entries < n) (sym is.account.many) less_now

    pub small_now : length_of request < 2 ^ 32
    small_now = omega (arith, short_here of.1.lines old.id old.line request line is.short)

    pub room_now : HasRoom request old.buffer.items
    room_now = is.room.0 request named_now

    pub hand_now : line_from old.id of.1.lines old.line ≡ old.line
    hand_now = line_here of.1.lines old.id old.line (Ask request) line

    pub can_now : (pass : Pass P (ImageState D) (Note D)) (queued : Bool) → CanGetReply (record old { pass = pass; queued = queued })
    can_now pass queued = record {
      room = omega (arith, is.filled, is.capacity, less_now);
      some = omega (arith, is.later, less_now);
      index = omega (arith, is.index, is.few, less_now);
      line = omega (arith, line.inside, is.many);
    }

  module _ (other : Stream P (ImageState D) (Note D)) where
    -- it goes on with the same entries
    pub stays : IsOwnPass bytes of.0 other.pass old.co.co other.queued
        → (own_note bytes of.0 other.pass).entries ≡ (own_note bytes of.0 old.pass).entries
        → Account bytes (asked of.1.lines) old.id old.co.co of.1.image (requests_of old.id of.1.lines) (own_note bytes of.0 other.pass)
        (map (λ buffer. buffer.items) old.filled.items) other.buffer.items
        → StandsSo of.1.lines old.id old.co.co old.line other.queued (own_note bytes of.0 other.pass) other.at
        → length other.buffer.items ≡ length old.buffer.items
        → IsStreamOf bytes (record old { pass = other.pass; queued = other.queued; at = other.at; buffer = other.buffer }) of
    stays pass same account stands long =
        let n : length (own_note bytes of.0 other.pass).entries ≡ length (own_note bytes of.0 old.pass).entries = ap (λ (l : List (Placement D)). length l) same in
        record {
          pass = pass;
          account = account;
          above = is.above ∙ sym n;
          inside = is.inside;
          index = is.index ∙ sym n;
          stands = stands;
          named = is.named;
          places = is.places;
          short = is.short;
          few = is.few;
          many = is.many;
          filled = is.filled ∙ sym n;
          capacity = is.capacity;
          later = subst (λ (m : ℕ). length old.later.items + m ≡ requests_of old.id of.1.lines) (sym n) is.later;
          room = subst (λ (m : ℕ). HaveRoom (asked of.1.lines) old.id m (other.buffer.items ∷ map (λ buffer. buffer.items) old.later.items)) (sym n)
              (λ request named. room_kept request old.buffer.items other.buffer.items long (is.room.0 request named), is.room.1);
        }

    -- its request at hand has got its reply
    pub replied : (request : Request) → StandsAt of.1.lines old.id old.line (Ask request)
        → IsOwnPass bytes of.0 other.pass old.co.co false
        → (own_note bytes of.0 other.pass).phase ≡ Idle
        → length (own_note bytes of.0 other.pass).entries ≡ length (own_note bytes of.0 old.pass).entries + 1
        → ((next : List ℕ) → Account bytes (asked of.1.lines) old.id old.co.co of.1.image (requests_of old.id of.1.lines) (own_note bytes of.0 other.pass)
        (map (λ buffer. buffer.items) old.filled.items ++ old.buffer.items ∷ []) next)
        → GetsReply (record old { pass = other.pass; queued = false }) other
        → IsStreamOf bytes other of
    replied request line pass idle more account gets =
        let full : map (λ buffer. buffer.items) other.filled.items ≡ map (λ buffer. buffer.items) old.filled.items ++ old.buffer.items ∷ [] =
        ap (λ l. map (λ buffer. buffer.items) l) gets.filled ∙ map-append (λ buffer. buffer.items) old.filled.items (old.buffer ∷ []) in
        let next : map (λ buffer. buffer.items) old.later.items ≡ other.buffer.items ∷ map (λ buffer. buffer.items) other.later.items =
        ap (λ l. map (λ buffer. buffer.items) l) gets.next in
        subst (λ (co : Stream P (ImageState D) (Note D)). IsStreamOf bytes co of) (sym gets.is) (record {
          pass = pass;
          account = subst (λ (l : List (List ℕ)). Account bytes (asked of.1.lines) old.id old.co.co of.1.image (requests_of old.id of.1.lines) (own_note bytes of.0 other.pass) l other.buffer.items) (sym full) (account other.buffer.items);
          above = omega (arith, above_ask of.1.lines old.id old.line request line, is.above, more);
          inside = omega (arith, line.inside);
          index = omega (arith, is.index, more);
          stands = (idle, refl);
          named = is.named;
          places = is.places;
          short = is.short;
          few = is.few;
          many = is.many;
          filled = omega (arith, ap (λ l. length l) gets.filled, length-append old.filled.items (old.buffer ∷ []), is.filled, more);
          capacity = subst (λ (n : ℕ). requests_of old.id of.1.lines ≤ n) (sym gets.capacity) is.capacity;
          later = omega (arith, ap (λ l. length l) gets.next, is.later, more);
          room = subst (λ (m : ℕ). HaveRoom (asked of.1.lines) old.id m (other.buffer.items ∷ map (λ buffer. buffer.items) other.later.items)) (sym more)
              (subst (λ (l : List (List ℕ)). HaveRoom (asked of.1.lines) old.id (length (own_note bytes of.0 old.pass).entries + 1) l) next is.room.1);
        })
