-- A new coroutine is of its lock and script.
use Rattle.std.proofs.Common.{◌≡◌, ℕ, zero, suc, false, Option, List, [], ◌∷◌, length, map, replicate, refl, sym, ap, ◌∙◌, subst, arith}
use Rattle.std.proofs.lemmas.List.{length-replicate}
use Rattle.aio_model.specs.declared.scripts.image_scripts.Script.{Script}
use Rattle.aio_model.specs.Serving.Asked.{asked, requests_of}
use Rattle.aio_model.specs.Lock.History.{value_of}
use Rattle.co_state.specs.declared.cx.CoId.{CoId}
use Rattle.co_mutex.specs.declared.lock.CoMutex.{CoMutex}
use Rattle.co_mutex.specs.declared.lock.Pass.{Pass}
use Rattle.co_mutex.specs.Known.{Known}
use Rattle.co_mutex.specs.Passes.{built_of}
use Rattle.img_shared.specs.declared.phases.Phase.TheVariants.{Idle}
use Rattle.img_shared.specs.Images.{ImageState}
use Rattle.img_shared.specs.Notes.{Note, note}
use Rattle.img_shared.specs.Phases.{phase_at}
use Rattle.img_join.specs.Accounts.{Account}
use Rattle.img_join.proofs.Opening.{account_new}
use Rattle.img_streams.specs.declared.progress.At.TheVariants as at
use Rattle.img_streams.specs.declared.room.Room.{Room}
use Rattle.img_streams.specs.declared.stream.Stream.{Stream}
use Rattle.img_streams.specs.Lines.{HaveRoom}
use Rattle.img_streams.specs.Own.{own_note}
use Rattle.img_streams.specs.Rooms.{CanStart}
use Rattle.img_streams.specs.Streams.{IsStreamOf}

idle_at : (n k : ℕ) → phase_at (replicate n Idle) k ≡ Idle
idle_at zero k = refl
idle_at (suc n) zero = refl
idle_at (suc n) (suc k) = idle_at n k

module _ {P D : Type 0} (bytes : D → Option (List ℕ)) (lock : CoMutex P (ImageState D) (Note D)) (script : Script) (pass : Pass P (ImageState D) (Note D)) (co : CoId) (id : ℕ) (room : Room)
    (can : CanStart lock script pass co id room) where
  note_new : own_note bytes lock pass
      ≡ note bytes (record {
        device = can.device;
        size = script.image;
        opening = can.device;
        left = can.device;
        requests = can.requests;
        journal = [];
        phases = replicate (length can.requests) Idle;
        access = can.access;
        homes = can.homes;
      }) co.co
  note_new =
      ap (λ (k : Known (ImageState D)). note bytes (value_of (built_of lock) k.mine) k.number) can.new.known_is
      ∙ ap (λ (i : ImageState D). note bytes i co.co) can.built

  none_yet : length (own_note bytes lock pass).entries ≡ 0
  none_yet = ap (λ (n : Note D). length n.entries) note_new

  pub started : (new : Stream P (ImageState D) (Note D))
      → new ≡ record { pass = pass; queued = false; co = co; id = id; places = room.places; line = 0; index = 0; at = at.Between; filled = room.filled; buffer = room.buffer; later = room.later }
      → IsStreamOf bytes new (lock, script)
  started new is = subst (λ (s : Stream P (ImageState D) (Note D)). IsStreamOf bytes s (lock, script)) (sym is) (record {
    pass = record {
      of = can.new.is;
      place = ap (λ (k : Known (ImageState D)). k.place) can.new.known_is;
      number = ap (λ (k : Known (ImageState D)). k.number) can.new.known_is;
      opened = ap (λ (n : Note D). n.opening) note_new ∙ sym (ap (λ (i : ImageState D). i.opening) can.built);
      streams = ap (λ (n : Note D). n.streams) note_new ∙ sym (ap (λ (i : ImageState D). length i.requests) can.built);
      known_there = omega (arith, can.known, ap (λ (n : Note D). n.streams) note_new);
      row_there = omega (arith, can.known, ap (λ (n : Note D). n.rows) note_new, length-replicate (length can.requests) Idle);
    };
    account = subst (λ (n : Note D). Account bytes (asked script.lines) id co.co script.image (requests_of id script.lines) n (map (λ buffer. buffer.items) room.filled.items) room.buffer.items) (sym note_new)
        (subst (λ (l : _). Account bytes (asked script.lines) id co.co script.image (requests_of id script.lines)
        (note bytes (record {
          device = can.device;
          size = script.image;
          opening = can.device;
          left = can.device;
          requests = can.requests;
          journal = [];
          phases = replicate (length can.requests) Idle;
          access = can.access;
          homes = can.homes;
        }) co.co) (map (λ buffer. buffer.items) l) room.buffer.items) (sym can.room_is.filled)
        (subst (λ (n : ℕ). Account bytes (asked script.lines) id co.co script.image n
        (note bytes (record {
          device = can.device;
          size = script.image;
          opening = can.device;
          left = can.device;
          requests = can.requests;
          journal = [];
          phases = replicate (length can.requests) Idle;
          access = can.access;
          homes = can.homes;
        }) co.co) [] room.buffer.items) can.count
        (account_new bytes can.device script.image can.requests can.homes can.access (asked script.lines) id co.co room.buffer.items)));
    above = sym none_yet;
    inside = omega arith;
    index = sym none_yet;
    stands = (ap (λ (n : Note D). n.phase) note_new ∙ idle_at (length can.requests) co.co, refl);
    named = can.named;
    places = can.room_is.places;
    short = can.short;
    few = can.few;
    many = can.many;
    filled = ap (λ l. length l) can.room_is.filled ∙ sym none_yet;
    capacity = can.room_is.capacity;
    later = omega (arith, can.room_is.many, none_yet);
    room = subst (λ (n : ℕ). HaveRoom (asked script.lines) id n (room.buffer.items ∷ map (λ buffer. buffer.items) room.later.items)) (sym none_yet) can.room_is.have;
  })
