-- Each step on the fields of a register.
use Rattle.std.proofs.Common.{◌≡◌, ◌≢◌, ℕ, ◌<◌, ◌||◌, Bool, true, false, cond, eqb, get_or, set, List, [], ◌∷◌, ◌++◌, length, drop, Option, Some, None, is_some, refl, sym, ap, subst, ◌∙◌, inl, inr}
use Rattle.std.proofs.lemmas.Bool.{cases_Bool, eqb-true, eq-eqb, both_ways, or_parts}
use Rattle.std.proofs.lemmas.List.{get_or-set_same, get_or-set_other, length-set}
use Rattle.aio_chain.specs.LinkList.{LinkList, contains, first_of, without}
use Rattle.aio_chain.proofs.Steps.{without-absent}
use Rattle.aio_chain.proofs.Walks.{contains-first}
use Rattle.aio_model.specs.declared.holds.Hold.TheVariants.{Free, Reads}
use Rattle.aio_model.specs.declared.holds.Wish.{Wish}
use Rattle.aio_model.specs.declared.holds.Wish.TheVariants as wish
use Rattle.aio_model.specs.Holds.WhoHolds.{Readers, Writer, ReadersWriter, other_readers, waits_by, waiting, hold_of}
use Rattle.aio_model.specs.Holds.{Has, WaitOnce, IsOrderly}
use Rattle.aio_model.specs.Holds.Table.{none_woken, granted_to, with_ticket, released, wake_one}
use Rattle.aio_model.proofs.Granted.{waits-nonfree, waits_only, not_reader}
use Rattle.aio_model.proofs.Orderly.{none_once, free_parts, free_no_reader, admits_reader, admits_writer, queues, releases, wake_keeps}
use Rattle.aio_model.proofs.Holding.{has_here}
use Rattle.co_waits.proofs.Queues.{first_parts}
use Rattle.co_waits.specs.Registers.{ticket_of, tickets_of, holders_of, state_in, AreKept, is_written, readers_in, is_vacant}

-- these fields keep this state
pub record Stands (readers : LinkList) (writer : Option ℕ) (tickets : LinkList) (wishes : List Wish) (state : ReadersWriter) : Type 0 where
  pub kept : AreKept readers writer tickets wishes
  pub is : state_in readers writer tickets wishes ≡ state

-- Tickets.

pub waiting_is : (who : ℕ) (wishes : List Wish) (items : List ℕ) → waiting who (tickets_of wishes items) ≡ cond (contains who items) (waits_by (get_or wishes who wish.Read)) Free
waiting_is who wishes [] = refl
waiting_is who wishes (x ∷ rest) = elim (cases_Bool (eqb who x)) [
  | inl e ↦
      let same : waits_by (get_or wishes x wish.Read) ≡ waits_by (get_or wishes who wish.Read) = ap (λ k. waits_by (get_or wishes k wish.Read)) (sym (eqb-true who x e)) in
      rw e same
  | inr e ↦ rw e (waiting_is who wishes rest)
]

cut_free : (b : Bool) (wish : Wish) → cond b (waits_by wish) Free ≡ Free → b ≡ false
cut_free true wish e = absurd (waits-nonfree wish e)
cut_free false wish e = refl

pub none_contained : (who : ℕ) (wishes : List Wish) (items : List ℕ) → waiting who (tickets_of wishes items) ≡ Free → contains who items ≡ false
none_contained who wishes items free = cut_free (contains who items) (get_or wishes who wish.Read) (sym (waiting_is who wishes items) ∙ free)

tickets_of-append : (wishes : List Wish) (items : List ℕ) (who : ℕ) → tickets_of wishes (items ++ who ∷ []) ≡ tickets_of wishes items ++ ticket_of wishes who ∷ []
tickets_of-append wishes [] who = refl
tickets_of-append wishes (x ∷ rest) who = ap (λ ts. ticket_of wishes x ∷ ts) (tickets_of-append wishes rest who)

-- the wish of one that doesn't wait
tickets_of-set : (wishes : List Wish) (items : List ℕ) (who : ℕ) (w : Wish) → contains who items ≡ false → tickets_of (set wishes who w) items ≡ tickets_of wishes items
tickets_of-set wishes [] who w absent = refl
tickets_of-set wishes (x ∷ rest) who w absent =
    let parts = or_parts (eqb who x) (contains who rest) absent in
    let same = get_or-set_other wishes who x w wish.Read (λ e. both_ways (eqb who x) parts.0 (eq-eqb who x (sym e))) in
    ap (λ k. record { owner = x; wish = k } ∷ tickets_of (set wishes who w) rest) same ∙ ap (λ ts. ticket_of wishes x ∷ ts) (tickets_of-set wishes rest who w parts.1)

-- a ticket more
pub queued_tickets : (wishes : List Wish) (items : List ℕ) (who : ℕ) (w : Wish) → contains who items ≡ false → who < length wishes → tickets_of (set wishes who w) (items ++ who ∷ []) ≡ tickets_of wishes items ++ record { owner = who; wish = w } ∷ []
queued_tickets wishes items who w absent low =
    tickets_of-append (set wishes who w) items who
    ∙ ap (λ k. tickets_of (set wishes who w) items ++ record { owner = who; wish = k } ∷ []) (get_or-set_same wishes who w wish.Read low)
    ∙ ap (λ ts. ts ++ record { owner = who; wish = w } ∷ []) (tickets_of-set wishes items who w absent)

pub without_is : (who : ℕ) (xs : List ℕ) → without who xs ≡ other_readers who xs
without_is who [] = refl
without_is who (x ∷ xs) = elim (cases_Bool (eqb who x)) [
  | inl e ↦ rw e (without_is who xs)
  | inr e ↦ rw e (ap (λ ys. x ∷ ys) (without_is who xs))
]

-- Steps.

module _ (readers tickets : LinkList) (wishes : List Wish) (who : ℕ) where
  pub queue_absent : (writer : Option ℕ) → hold_of (state_in readers writer tickets wishes) who ≡ Free → contains who tickets.items ≡ false
  queue_absent writer free =
      none_contained who wishes tickets.items (free_parts who (holders_of writer readers.items) (waiting who (tickets_of wishes tickets.items)) free).1

  pub read_absent : (writer : Option ℕ) → hold_of (state_in readers writer tickets wishes) who ≡ Free → is_written (holders_of writer readers.items) ≡ false → contains who readers.items ≡ false
  read_absent None free unwritten = free_no_reader who readers.items (waiting who (tickets_of wishes tickets.items)) free
  read_absent (Some w) free unwritten = absurd (cc unwritten)

  pub read_stands : (writer : Option ℕ) (new : LinkList) → AreKept readers writer tickets wishes → hold_of (state_in readers writer tickets wishes) who ≡ Free → is_written (holders_of writer readers.items) ≡ false → who < tickets.room → new.items ≡ readers.items ++ who ∷ [] → new.room ≡ readers.room
      → Stands new writer tickets wishes (record (state_in readers writer tickets wishes) { holders = Readers (readers_in (holders_of writer readers.items) ++ who ∷ []) })
  read_stands None new kept free unwritten low items room =
      let parts = free_parts who (Readers readers.items) (waiting who (tickets_of wishes tickets.items)) free in
      let orderly = admits_reader tickets.room who readers.items (tickets_of wishes tickets.items) kept.orderly low (read_absent None free unwritten) parts.1 in
      record {
        kept = record {
          rooms = room ∙ kept.rooms;
          sized = kept.sized;
          alone = tt;
          orderly = subst (λ xs. IsOrderly (record { room = tickets.room; holders = Readers xs; tickets = tickets_of wishes tickets.items })) (sym items) orderly;
        };
        is = ap (λ xs. record { room = tickets.room; holders = Readers xs; tickets = tickets_of wishes tickets.items }) items;
      }
  read_stands (Some w) new kept free unwritten low items room = absurd (cc unwritten)

  pub write_stands : (writer : Option ℕ) → AreKept readers writer tickets wishes → hold_of (state_in readers writer tickets wishes) who ≡ Free → is_vacant (holders_of writer readers.items) ≡ true → who < tickets.room
      → Stands readers (Some who) tickets wishes (record (state_in readers writer tickets wishes) { holders = Writer who })
  write_stands None kept free vacant low =
      let none = no_readers readers.items vacant in
      let parts = free_parts who (Readers readers.items) (waiting who (tickets_of wishes tickets.items)) free in
      let before : IsOrderly (record { room = tickets.room; holders = Readers []; tickets = tickets_of wishes tickets.items }) = subst (λ xs. IsOrderly (record { room = tickets.room; holders = Readers xs; tickets = tickets_of wishes tickets.items })) none kept.orderly in
      record {
        kept = record { rooms = kept.rooms; sized = kept.sized; alone = none; orderly = admits_writer tickets.room who (tickets_of wishes tickets.items) before low parts.1 };
        is = refl;
      }
    where
      no_readers : (xs : List ℕ) → is_vacant (Readers xs) ≡ true → xs ≡ []
      no_readers [] vacant = refl
      no_readers (x ∷ xs) vacant = absurd (cc vacant)
  write_stands (Some w) kept free vacant low = absurd (cc vacant)

  pub queue_stands : (writer : Option ℕ) (new : LinkList) (w : Wish) → AreKept readers writer tickets wishes → hold_of (state_in readers writer tickets wishes) who ≡ Free → who < tickets.room → new.items ≡ tickets.items ++ who ∷ [] → new.room ≡ tickets.room
      → Stands readers writer new (set wishes who w) (with_ticket who w (state_in readers writer tickets wishes))
  queue_stands writer new w kept free low items room =
      let absent = queue_absent writer free in
      let more : tickets_of (set wishes who w) new.items ≡ tickets_of wishes tickets.items ++ record { owner = who; wish = w } ∷ [] = ap (tickets_of (set wishes who w)) items ∙ queued_tickets wishes tickets.items who w absent (subst (λ n. who < n) (sym kept.sized) low) in
      let is : state_in readers writer new (set wishes who w) ≡ with_ticket who w (state_in readers writer tickets wishes) =
      ap (λ n. record { room = n; holders = holders_of writer readers.items; tickets = tickets_of (set wishes who w) new.items }) room ∙ ap (λ ts. record { room = tickets.room; holders = holders_of writer readers.items; tickets = ts }) more in
      record {
        kept = record {
          rooms = kept.rooms ∙ sym room;
          sized = length-set wishes who w ∙ kept.sized ∙ sym room;
          alone = kept.alone;
          orderly = subst IsOrderly (sym is) (queues tickets.room who w (holders_of writer readers.items) (tickets_of wishes tickets.items) kept.orderly low free);
        };
        is = is;
      }

  reads_here : (b : Bool) → Has (cond b Reads Free) → b ≡ true
  reads_here true has = refl
  reads_here false has = absurd has

  pub release_present : (writer : Option ℕ) → Has (hold_of (state_in readers writer tickets wishes) who) → writer ≡ None → contains who readers.items ≡ true
  release_present None has none =
      reads_here (contains who readers.items) (has_here who (Readers readers.items) (waiting who (tickets_of wishes tickets.items)) (waits_only who (tickets_of wishes tickets.items)) has)
  release_present (Some w) has none = absurd (cc none)

  pub released_writer : (writer : Option ℕ) (w : ℕ) → writer ≡ Some w → AreKept readers writer tickets wishes → Stands readers None tickets wishes (released who (state_in readers writer tickets wishes))
  released_writer None w is kept = absurd (cc is)
  released_writer (Some x) w is kept =
      let none : readers.items ≡ [] = kept.alone in
      let orderly = releases tickets.room who (Writer x) (tickets_of wishes tickets.items) kept.orderly in
      record {
        kept = record {
          rooms = kept.rooms;
          sized = kept.sized;
          alone = tt;
          orderly = subst (λ xs. IsOrderly (record { room = tickets.room; holders = Readers xs; tickets = tickets_of wishes tickets.items })) (sym none) orderly;
        };
        is = ap (λ xs. record { room = tickets.room; holders = Readers xs; tickets = tickets_of wishes tickets.items }) none;
      }

  pub released_reader : (writer : Option ℕ) (new : LinkList) → writer ≡ None → AreKept readers writer tickets wishes → new.items ≡ without who readers.items → new.room ≡ readers.room → Stands new writer tickets wishes (released who (state_in readers writer tickets wishes))
  released_reader (Some x) new is kept items room = absurd (cc is)
  released_reader None new is kept items room =
      let fewer : new.items ≡ other_readers who readers.items = items ∙ without_is who readers.items in
      let orderly = releases tickets.room who (Readers readers.items) (tickets_of wishes tickets.items) kept.orderly in
      record {
        kept = record {
          rooms = room ∙ kept.rooms;
          sized = kept.sized;
          alone = tt;
          orderly = subst (λ xs. IsOrderly (record { room = tickets.room; holders = Readers xs; tickets = tickets_of wishes tickets.items })) (sym fewer) orderly;
        };
        is = ap (λ xs. record { room = tickets.room; holders = Readers xs; tickets = tickets_of wishes tickets.items }) fewer;
      }

-- What a look at a ticket finds.

pub waits_not : (who : ℕ) (wishes : List Wish) (items : List ℕ) → contains who items ≡ false → Free ≡ waiting who (tickets_of wishes items)
waits_not who wishes items absent = sym (waiting_is who wishes items ∙ ap (λ b. cond b (waits_by (get_or wishes who wish.Read)) Free) absent)

pub waits_for : (who : ℕ) (wishes : List Wish) (items : List ℕ) (w : Wish) → contains who items ≡ true → get_or wishes who wish.Read ≡ w → waits_by w ≡ waiting who (tickets_of wishes items)
waits_for who wishes items w present is =
    sym (waiting_is who wishes items ∙ ap (λ b. cond b (waits_by (get_or wishes who wish.Read)) Free) present ∙ ap waits_by is)

-- Waking.

pub rest_is : (who : ℕ) (items : List ℕ) → first_of items ≡ Some who → contains who (drop 1 items) ≡ false → without who items ≡ drop 1 items
rest_is who [] e absent = refl
rest_is who (x ∷ rest) e absent =
    let here : eqb who x ≡ true = (let same : x ≡ who = cc e in eq-eqb who x (sym same)) in
    rw here (without-absent who rest absent)

pub none_there : (found : Option ℕ) (items : List ℕ) → found ≡ first_of items → is_some found ≡ false → items ≡ []
none_there found [] e none = refl
none_there found (x ∷ rest) e none = absurd (cc (sym (ap is_some e) ∙ none))

pub nobody : (writer : Option ℕ) → is_some writer ≡ false → writer ≡ None
nobody None e = refl
nobody (Some w) e = absurd (cc e)

module _ (readers tickets : LinkList) (wishes : List Wish) (who : ℕ) (kept : AreKept readers None tickets wishes) (first : first_of tickets.items ≡ Some who) where
  abbrev rest : List ℕ
  rest = drop 1 tickets.items

  abbrev old : ReadersWriter
  old = state_in readers None tickets wishes

  behind : tickets_of wishes tickets.items ≡ tickets_of wishes (who ∷ rest)
  behind = ap (tickets_of wishes) (first_parts who tickets.items first)

  pub first_low : who < tickets.room
  first_low = kept.orderly.below who (λ e. waits-nonfree (get_or wishes who wish.Read) (waits_for who wishes tickets.items (get_or wishes who wish.Read) (contains-first tickets.items who first) refl ∙ (free_parts who (Readers readers.items) (waiting who (tickets_of wishes tickets.items)) e).1))

  pub first_no_reader : contains who readers.items ≡ false
  first_no_reader =
      not_reader who readers.items (tickets_of wishes tickets.items) (get_or wishes who wish.Read) kept.orderly.apart
      (sym (waits_for who wishes tickets.items (get_or wishes who wish.Read) (contains-first tickets.items who first) refl))

  once_behind : contains who rest ≡ false
  once_behind = none_contained who wishes rest (subst WaitOnce behind kept.orderly.waits_once).0

  woke_reader : get_or wishes who wish.Read ≡ wish.Read → (wake_one old).state ≡ record { room = tickets.room; holders = Readers (readers.items ++ who ∷ []); tickets = tickets_of wishes rest }
  woke_reader is =
      ap (λ ts. (wake_one (record { room = tickets.room; holders = Readers readers.items; tickets = ts })).state) behind
      ∙ ap (λ w. (granted_to who w (record { room = tickets.room; holders = Readers readers.items; tickets = tickets_of wishes (who ∷ rest) }) (Readers readers.items) (tickets_of wishes rest)).state) is

  pub wakes_reader : get_or wishes who wish.Read ≡ wish.Read → (r t : LinkList) → t.items ≡ without who tickets.items → t.room ≡ tickets.room → r.items ≡ readers.items ++ who ∷ [] → r.room ≡ readers.room → Stands r None t wishes (wake_one old).state
  wakes_reader wished r t items room more rooms =
      let fewer : t.items ≡ rest = items ∙ rest_is who tickets.items first once_behind in
      let is : state_in r None t wishes ≡ (wake_one old).state =
      ap (λ n. record { room = n; holders = Readers r.items; tickets = tickets_of wishes t.items }) room
      ∙ ap (λ xs. record { room = tickets.room; holders = Readers xs; tickets = tickets_of wishes t.items }) more
      ∙ ap (λ xs. record { room = tickets.room; holders = Readers (readers.items ++ who ∷ []); tickets = tickets_of wishes xs }) fewer
      ∙ sym (woke_reader wished) in
      record {
        kept = record {
          rooms = rooms ∙ kept.rooms ∙ sym room;
          sized = kept.sized ∙ sym room;
          alone = tt;
          orderly = subst IsOrderly (sym is) (wake_keeps old kept.orderly);
        };
        is = is;
      }

  woke_writer : get_or wishes who wish.Read ≡ wish.Write → readers.items ≡ [] → (wake_one old).state ≡ record { room = tickets.room; holders = Writer who; tickets = tickets_of wishes rest }
  woke_writer is none =
      ap (λ ts. (wake_one (record { room = tickets.room; holders = Readers readers.items; tickets = ts })).state) behind
      ∙ ap (λ xs. (wake_one (record { room = tickets.room; holders = Readers xs; tickets = tickets_of wishes (who ∷ rest) })).state) none
      ∙ ap (λ w. (granted_to who w (record { room = tickets.room; holders = Readers []; tickets = tickets_of wishes (who ∷ rest) }) (Readers []) (tickets_of wishes rest)).state) is

  pub wakes_writer : get_or wishes who wish.Read ≡ wish.Write → readers.items ≡ [] → (t : LinkList) → t.items ≡ without who tickets.items → t.room ≡ tickets.room → Stands readers (Some who) t wishes (wake_one old).state
  wakes_writer wished none t items room =
      let fewer : t.items ≡ rest = items ∙ rest_is who tickets.items first once_behind in
      let is : state_in readers (Some who) t wishes ≡ (wake_one old).state =
      ap (λ n. record { room = n; holders = Writer who; tickets = tickets_of wishes t.items }) room
      ∙ ap (λ xs. record { room = tickets.room; holders = Writer who; tickets = tickets_of wishes xs }) fewer
      ∙ sym (woke_writer wished none) in
      record {
        kept = record {
          rooms = kept.rooms ∙ sym room;
          sized = kept.sized ∙ sym room;
          alone = none;
          orderly = subst IsOrderly (sym is) (wake_keeps old kept.orderly);
        };
        is = is;
      }

  -- a writer's ticket beside readers
  pub wakes_nobody : get_or wishes who wish.Read ≡ wish.Write → (found : Option ℕ) → found ≡ first_of readers.items → is_some found ≡ true → wake_one old ≡ none_woken old
  wakes_nobody wished found e some = beside readers.items (sym (ap is_some e) ∙ some)
    where
      beside : (xs : List ℕ) → is_some (first_of xs) ≡ true → wake_one (record { room = tickets.room; holders = Readers xs; tickets = tickets_of wishes tickets.items }) ≡ none_woken (record { room = tickets.room; holders = Readers xs; tickets = tickets_of wishes tickets.items })
      beside [] some = absurd (cc some)
      beside (x ∷ xs) some =
          subst (λ ts. wake_one (record { room = tickets.room; holders = Readers (x ∷ xs); tickets = ts }) ≡ none_woken (record { room = tickets.room; holders = Readers (x ∷ xs); tickets = ts })) (sym behind)
          (ap (λ w. granted_to who w (record { room = tickets.room; holders = Readers (x ∷ xs); tickets = tickets_of wishes (who ∷ rest) }) (Readers (x ∷ xs)) (tickets_of wishes rest)) wished)

pub begins : (readers tickets : LinkList) (wishes : List Wish) (room : ℕ) → readers.items ≡ [] → tickets.items ≡ [] → readers.room ≡ room → tickets.room ≡ room → length wishes ≡ room → AreKept readers None tickets wishes
begins readers tickets wishes room no_readers no_tickets low lower sized =
    let none : IsOrderly (record { room = tickets.room; holders = Readers []; tickets = [] }) = record { once = none_once; waits_once = tt; apart = λ who has. absurd has; below = λ who e. absurd (e refl) } in
    record {
      rooms = low ∙ sym lower;
      sized = sized ∙ sym lower;
      alone = tt;
      orderly = subst (λ xs. IsOrderly (record { room = tickets.room; holders = Readers xs; tickets = tickets_of wishes tickets.items })) (sym no_readers) (subst (λ ts. IsOrderly (record { room = tickets.room; holders = Readers []; tickets = ts })) (sym (ap (tickets_of wishes) no_tickets)) none);
    }
