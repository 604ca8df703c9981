-- A stream can start, and the passes and the memory are dealt one by one.
use Rattle.std.proofs.Common.{◌≡◌, ℕ, zero, suc, ◌+◌, ◌<◌, max, Option, List, [], ◌∷◌, ◌++◌, length, replicate, get_or, slice_index, refl, sym, ap, ◌∙◌, subst, arith}
use Rattle.std.proofs.lemmas.List.{length-map, length_push}
use Rattle.aio_model.specs.declared.scripts.image_scripts.Script.{Script}
use Rattle.aio_model.specs.declared.scripts.image_scripts.Stream.{Stream as StreamLine}
use Rattle.aio_model.specs.Serving.Asked.{requests_of}
use Rattle.aio_model.specs.Holds.WhoHolds.{Readers}
use Rattle.aio_script.specs.Image.Bounds.{IsBounded}
use Rattle.co_mutex.specs.declared.lock.CoMutex.{CoMutex}
use Rattle.co_mutex.specs.declared.lock.Pass.{Pass}
use Rattle.co_mutex.specs.Passes.{IsNew, passes_of}
use Rattle.img_shared.specs.Images.{ImageState}
use Rattle.img_shared.specs.Notes.{Note}
use Rattle.img_streams.specs.declared.progress.At.TheVariants as at
use Rattle.img_streams.specs.declared.room.Room.{Room}
use Rattle.img_streams.specs.declared.stream.Stream.{Stream}
use Rattle.img_streams.specs.Rooms.{CanStart, IsRoomFor}
use Rattle.img_streams.specs.Streams.{IsStreamOf, source}
use Rattle.stream_ends.specs.Images.{IsLockFor, counts_for, device_behind, homes_of, ids_of_lines}
use Rattle.stream_ends.specs.Starts.{AllAt, AreNewPasses, HasStarted, HaveRooms}
use Rattle.stream_ends.proofs.Places.{all_first, all_none, all_push, all_rest, index_mapped}
use Rattle.stream_ends.proofs.Scripts.{are_short, few_asks, few_lines, own_asks}

pub length_ids : (streams : List StreamLine) → length (ids_of_lines streams) ≡ length streams
length_ids streams = length-map streams (λ (s : StreamLine). s.id)

pub length_counts : (script : Script) → length (counts_for script.lines (ids_of_lines script.streams)) ≡ length script.streams
length_counts script = length-map (ids_of_lines script.streams) (λ id. requests_of id script.lines) ∙ length_ids script.streams

abbrev no_line : StreamLine
no_line = record { id = 0; home = 0 }

id_at : (streams : List StreamLine) (k : ℕ) → (get_or streams k no_line).id ≡ slice_index (ids_of_lines streams) k
id_at [] k = refl
id_at (s ∷ streams) zero = refl
id_at (s ∷ streams) (suc k) = id_at streams k

home_at : (streams : List StreamLine) (k : ℕ) → (get_or streams k no_line).home ≡ slice_index (homes_of streams) k
home_at [] k = refl
home_at (s ∷ streams) zero = refl
home_at (s ∷ streams) (suc k) = home_at streams k

module _ {P D : Type 0} (script : Script) (lock : CoMutex P (ImageState D) (Note D)) (bounded : IsBounded script) (is : IsLockFor script lock) where
  pub can_start : (number home : ℕ) (pass : Pass P (ImageState D) (Note D)) (room : Room) → number < length script.streams → IsNew lock number pass
      → IsRoomFor script.lines (slice_index (ids_of_lines script.streams) number) room
      → CanStart lock script pass (record { co = number; home = home }) (slice_index (ids_of_lines script.streams) number) room
  can_start number home pass room below new memory = record {
    new = new;
    device = device_behind lock;
    requests = counts_for script.lines (ids_of_lines script.streams);
    access = record { room = length (counts_for script.lines (ids_of_lines script.streams)); holders = Readers []; tickets = [] };
    homes = replicate (length (counts_for script.lines (ids_of_lines script.streams))) 0;
    built = is.built;
    known = omega (arith, below, length_counts script);
    named = refl;
    count = index_mapped (λ id. requests_of id script.lines) (ids_of_lines script.streams) number (omega (arith, below, length_ids script.streams));
    short = are_short script.loops script.streams script.lines bounded.each;
    few = omega (arith, own_asks (slice_index (ids_of_lines script.streams) number) script.lines, few_asks script bounded);
    many = omega (arith, few_lines script bounded);
    room_is = memory;
  }

  -- the coroutine that is made of a stream line
  module _ (bytes : D → Option (List ℕ)) (lines : List StreamLine) (same : lines ≡ script.streams) (number : ℕ) (pass : Pass P (ImageState D) (Note D)) (room : Room) where
    line_id : (get_or lines number no_line).id ≡ slice_index (ids_of_lines script.streams) number
    line_id = ap (λ (l : List StreamLine). (get_or l number no_line).id) same ∙ id_at script.streams number

    line_home : (get_or lines number no_line).home ≡ slice_index (homes_of script.streams) number
    line_home = ap (λ (l : List StreamLine). (get_or l number no_line).home) same ∙ home_at script.streams number

    pub has_started : number < length script.streams → IsNew lock number pass
        → IsRoomFor script.lines (slice_index (ids_of_lines script.streams) number) room
        → (co : Stream P (ImageState D) (Note D))
        → (co.pass ≡ pass) × (co.co ≡ record { co = number; home = (get_or lines number no_line).home }) × (co.id ≡ (get_or lines number no_line).id)
        → (co.at ≡ at.Between) × (co.line ≡ 0) × (co.index ≡ 0)
        → (CanStart lock script pass (record { co = number; home = (get_or lines number no_line).home }) (get_or lines number no_line).id room → IsStreamOf bytes co (source lock script))
        → HasStarted bytes script lock number co
    has_started below new memory co parts first of = record {
      of = of (subst (λ (n : ℕ). CanStart lock script pass (record { co = number; home = (get_or lines number no_line).home }) n room) (sym line_id)
          (can_start number (get_or lines number no_line).home pass room below new memory));
      id = parts.2 ∙ line_id;
      co_is = parts.1 ∙ ap (λ (h : ℕ). record { co = number; home = h }) line_home;
      pass = subst (λ (p : Pass P (ImageState D) (Note D)). IsNew lock number p) (sym parts.0) new;
      first = first;
    }

module _ {P D : Type 0} (bytes : D → Option (List ℕ)) (script : Script) (lock : CoMutex P (ImageState D) (Note D)) where
  -- the first n streams have their pass and their memory
  pub record Deals (n : ℕ) (passes : List (Pass P (ImageState D) (Note D))) (rooms : List Room) (streams : List (Stream P (ImageState D) (Note D))) : Type 0 where
    pub new : AllAt (λ k pass. IsNew lock (n + k) pass) passes
    pub passes_left : length passes + n ≡ max 1 (length script.streams)
    pub memory : AllAt (λ k room. IsRoomFor script.lines (slice_index (ids_of_lines script.streams) (n + k)) room) rooms
    pub rooms_left : length rooms + n ≡ length script.streams
    pub started : AllAt (HasStarted bytes script lock) streams
    pub many : length streams ≡ n

  pub deals_none : (passes : List (Pass P (ImageState D) (Note D))) (rooms : List Room) → passes_of lock ≡ max 1 (length script.streams)
      → AreNewPasses lock passes → HaveRooms script (ids_of_lines script.streams) rooms → Deals 0 passes rooms []
  deals_none passes rooms size new memory = record {
    new = λ k pass at. subst (λ (m : ℕ). IsNew lock m pass) (let z : k ≡ 0 + k = omega arith in z) (new.each k pass at);
    passes_left = omega (arith, new.many, size);
    memory = λ k room at. subst (λ (m : ℕ). IsRoomFor script.lines (slice_index (ids_of_lines script.streams) m) room) (let z : k ≡ 0 + k = omega arith in z) (memory.each k room at);
    rooms_left = omega (arith, memory.many, length_ids script.streams);
    started = all_none (HasStarted bytes script lock);
    many = refl;
  }

  module _ (n : ℕ) (passes more_passes : List (Pass P (ImageState D) (Note D))) (rooms more_rooms : List Room) (streams : List (Stream P (ImageState D) (Note D)))
      (pass : Pass P (ImageState D) (Note D)) (room : Room) (deals : Deals n passes rooms streams) (is_pass : passes ≡ pass ∷ more_passes) (is_room : rooms ≡ room ∷ more_rooms) where
    pub next_pass : IsNew lock n pass
    next_pass = subst (λ (m : ℕ). IsNew lock m pass) (let z : n + 0 ≡ n = omega arith in z)
        (all_first (λ k p. IsNew lock (n + k) p) pass more_passes (subst (AllAt (λ k p. IsNew lock (n + k) p)) is_pass deals.new))

    pub next_room : IsRoomFor script.lines (slice_index (ids_of_lines script.streams) n) room
    next_room = subst (λ (m : ℕ). IsRoomFor script.lines (slice_index (ids_of_lines script.streams) m) room) (let z : n + 0 ≡ n = omega arith in z)
        (all_first (λ k r. IsRoomFor script.lines (slice_index (ids_of_lines script.streams) (n + k)) r) room more_rooms
        (subst (AllAt (λ k r. IsRoomFor script.lines (slice_index (ids_of_lines script.streams) (n + k)) r)) is_room deals.memory))

    pub deals_more : (co : Stream P (ImageState D) (Note D)) → HasStarted bytes script lock n co → Deals (n + 1) more_passes more_rooms (streams ++ co ∷ [])
    deals_more co has = record {
      new = λ k p at. subst (λ (m : ℕ). IsNew lock m p) (let z : n + suc k ≡ n + 1 + k = omega arith in z)
          (all_rest (λ j q. IsNew lock (n + j) q) pass more_passes (subst (AllAt (λ j q. IsNew lock (n + j) q)) is_pass deals.new) k p at);
      passes_left = omega (arith, deals.passes_left, ap (λ (l : List (Pass P (ImageState D) (Note D))). length l) is_pass);
      memory = λ k r at. subst (λ (m : ℕ). IsRoomFor script.lines (slice_index (ids_of_lines script.streams) m) r) (let z : n + suc k ≡ n + 1 + k = omega arith in z)
          (all_rest (λ j q. IsRoomFor script.lines (slice_index (ids_of_lines script.streams) (n + j)) q) room more_rooms
          (subst (AllAt (λ j q. IsRoomFor script.lines (slice_index (ids_of_lines script.streams) (n + j)) q)) is_room deals.memory) k r at);
      rooms_left = omega (arith, deals.rooms_left, ap (λ (l : List Room). length l) is_room);
      started = all_push (HasStarted bytes script lock) streams co deals.started (subst (λ (m : ℕ). HasStarted bytes script lock m co) (sym deals.many) has);
      many = omega (arith, deals.many, length_push streams co);
    }

  -- the pass that is left belongs to no stream
  pub spare_new : (n : ℕ) (passes : List (Pass P (ImageState D) (Note D))) (rooms : List Room) (streams : List (Stream P (ImageState D) (Note D)))
      → Deals n passes rooms streams → n ≡ length script.streams → AllAt (IsNew lock) passes
  spare_new zero passes rooms streams deals all k pass at =
      subst (λ (m : ℕ). IsNew lock m pass) (let z : 0 + k ≡ k = omega arith in z) (deals.new k pass at)
  spare_new (suc n) [] rooms streams deals all k pass at = all_none (IsNew lock) k pass at
  spare_new (suc n) (p ∷ passes) rooms streams deals all k pass at =
      absurd (omega (arith, deals.passes_left, all))
