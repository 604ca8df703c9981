-- What each call on readers and a writer does to everybody's hold.
use Rattle.std.proofs.Common.{◌≡◌, ◌≢◌, ℕ, ◌<◌, Bool, true, false, cond, eqb, List, [], ◌∷◌, ◌++◌, Option, Some, None, IfSome, refl, sym, ap, subst, ◌∙◌, inl, inr}
use Rattle.std.specs.List.{IsDistinct}
use Rattle.std.proofs.lemmas.Bool.{cases_Bool, eqb-true, eq-eqb, ne_eqb}
use Rattle.aio_model.specs.declared.holds.Hold.{Hold}
use Rattle.aio_model.specs.declared.holds.Hold.TheVariants.{Free, Reads, Writes, WaitsRead, WaitsWrite}
use Rattle.aio_model.specs.declared.holds.RwAnswer.TheVariants.{Got}
use Rattle.aio_model.specs.declared.holds.Wish.{Wish}
use Rattle.aio_model.specs.declared.holds.Wish.TheVariants as wish
use Rattle.aio_model.specs.Holds.WhoHolds.{Holders, Readers, Writer, Ticket, ReadersWriter, is_reader, other_readers, waits_by, waiting, hold_in, hold_of}
use Rattle.aio_model.specs.Holds.{Has, HasTicket, after_wake, answered, IsOrderly, IsSettled}
use Rattle.aio_model.specs.Holds.Table.{Woke, Exchanged, queued_again, read_by, read_locked, written_by, write_locked, granted_to, wake_first, wake_one, without_holder, released, unlocked, with_reader, downgraded, stepped_back, upgraded_by, upgraded}
use Rattle.aio_model.proofs.Granted.{waits-nonfree, waits_only, not_written, test_writes, reader_added-same, reader_added-other, reader_gone-same, reader_gone-other, ticket_added-same, ticket_added-other, granted_no_more, wakes}
use Rattle.aio_model.proofs.Orderly.{free_parts, free_no_reader, admits_reader, admits_writer, queues, releases, wake_settles}

-- Holds when somebody is let in, waits or goes.

pub let_in-same : (who : ℕ) (readers : List ℕ) (waits : Hold) → hold_in who (Readers (readers ++ who ∷ [])) waits ≡ Reads
let_in-same who readers waits = let e = reader_added-same who readers in rw e refl

pub let_in-other : (i who : ℕ) (readers : List ℕ) (waits : Hold) → i ≢ who → hold_in i (Readers (readers ++ who ∷ [])) waits ≡ hold_in i (Readers readers) waits
let_in-other i who readers waits ne = ap (λ b. cond b Reads waits) (reader_added-other i who readers ne)

pub written-same : (who : ℕ) (waits : Hold) → hold_in who (Writer who) waits ≡ Writes
written-same who waits = let e : eqb who who ≡ true = eq-eqb who who refl in rw e refl

pub written-other : (i who : ℕ) (waits : Hold) → i ≢ who → hold_in i (Writer who) waits ≡ waits
written-other i who waits ne = let e : eqb i who ≡ false = ne_eqb i who ne in rw e refl

held_free : (who : ℕ) (holders : Holders) (waits : Hold) → hold_in who holders Free ≡ Free → hold_in who holders waits ≡ waits
held_free who (Readers readers) waits free = let e = free_no_reader who readers Free free in rw e refl
held_free who (Writer writer) waits free = elim (cases_Bool (eqb who writer)) [
  | inl e ↦ absurd (cc (subst (λ b. cond b Writes Free ≡ Free) e free))
  | inr e ↦ rw e refl
]

reader_lacking : (b : Bool) → (Has (cond b Reads Free) → ⊥) → cond b Reads Free ≡ Free
reader_lacking true lacks = absurd (lacks tt)
reader_lacking false lacks = refl

writer_lacking : (b : Bool) → (Has (cond b Writes Free) → ⊥) → cond b Writes Free ≡ Free
writer_lacking true lacks = absurd (lacks tt)
writer_lacking false lacks = refl

-- who has no hold of the holders
lacking : (who : ℕ) (holders : Holders) → (Has (hold_in who holders Free) → ⊥) → hold_in who holders Free ≡ Free
lacking who (Readers readers) lacks = reader_lacking (is_reader who readers) lacks
lacking who (Writer writer) lacks = writer_lacking (eqb who writer) lacks

pub queued-same : (who : ℕ) (wish : Wish) (holders : Holders) (tickets : List Ticket) → hold_in who holders (waiting who tickets) ≡ Free → hold_in who holders (waiting who (tickets ++ record { owner = who; wish = wish } ∷ [])) ≡ waits_by wish
queued-same who wish holders tickets free =
    let parts = free_parts who holders (waiting who tickets) free in
    held_free who holders (waiting who (tickets ++ record { owner = who; wish = wish } ∷ [])) parts.0 ∙ ticket_added-same who wish tickets parts.1

pub queued-other : (i who : ℕ) (wish : Wish) (holders : Holders) (tickets : List Ticket) → i ≢ who → hold_in i holders (waiting i (tickets ++ record { owner = who; wish = wish } ∷ [])) ≡ hold_in i holders (waiting i tickets)
queued-other i who wish holders tickets ne = ap (λ w. hold_in i holders w) (ticket_added-other i who wish tickets ne)

pub gone-same : (who : ℕ) (holders : Holders) (waits : Hold) → hold_in who (without_holder who holders) waits ≡ waits
gone-same who (Readers readers) waits = let e = reader_gone-same who readers in rw e refl
gone-same who (Writer writer) waits = refl

pub gone-other : (i who : ℕ) (holders : Holders) (held waits : Hold) → (Has held → ⊥) → Has (hold_in who holders held) → i ≢ who → hold_in i (without_holder who holders) waits ≡ hold_in i holders waits
gone-other i who (Readers readers) held waits lacks has ne = ap (λ b. cond b Reads waits) (reader_gone-other i who readers ne)
gone-other i who (Writer writer) held waits lacks has ne =
    let same = eqb-true who writer (test_writes (eqb who writer) held lacks has) in
    sym (written-other i writer waits (λ e. ne (e ∙ sym same)))

-- Reading and writing.

reads_by-own : (room who : ℕ) (holders : Holders) (tickets : List Ticket) → hold_in who holders (waiting who tickets) ≡ Free
    → let left = read_by who (record { room = room; holders = holders; tickets = tickets }) holders tickets in hold_of left.state who ≡ answered left.answer Reads WaitsRead
reads_by-own room who (Readers []) tickets free = let_in-same who [] (waiting who tickets)
reads_by-own room who (Readers (r ∷ rs)) [] free = let_in-same who (r ∷ rs) Free
reads_by-own room who (Readers (r ∷ rs)) (t ∷ ts) free = queued-same who wish.Read (Readers (r ∷ rs)) (t ∷ ts) free
reads_by-own room who (Writer writer) tickets free = queued-same who wish.Read (Writer writer) tickets free

reads_by-others : (room who : ℕ) (holders : Holders) (tickets : List Ticket) (i : ℕ) → i ≢ who
    → let state : ReadersWriter = record { room = room; holders = holders; tickets = tickets } in hold_of (read_by who state holders tickets).state i ≡ hold_of state i
reads_by-others room who (Readers []) tickets i ne = let_in-other i who [] (waiting i tickets) ne
reads_by-others room who (Readers (r ∷ rs)) [] i ne = let_in-other i who (r ∷ rs) Free ne
reads_by-others room who (Readers (r ∷ rs)) (t ∷ ts) i ne = queued-other i who wish.Read (Readers (r ∷ rs)) (t ∷ ts) ne
reads_by-others room who (Writer writer) tickets i ne = queued-other i who wish.Read (Writer writer) tickets ne

pub read_locked-own : (state : ReadersWriter) (who : ℕ) → hold_of state who ≡ Free → hold_of (read_locked who state).state who ≡ answered (read_locked who state).answer Reads WaitsRead
read_locked-own state who free = reads_by-own state.room who state.holders state.tickets free

pub read_locked-others : (state : ReadersWriter) (who i : ℕ) → i ≢ who → hold_of (read_locked who state).state i ≡ hold_of state i
read_locked-others state who i ne = reads_by-others state.room who state.holders state.tickets i ne

writes_by-own : (room who : ℕ) (holders : Holders) (tickets : List Ticket) → hold_in who holders (waiting who tickets) ≡ Free
    → let left = written_by who (record { room = room; holders = holders; tickets = tickets }) holders in hold_of left.state who ≡ answered left.answer Writes WaitsWrite
writes_by-own room who (Readers []) tickets free = written-same who (waiting who tickets)
writes_by-own room who (Readers (r ∷ rs)) tickets free = queued-same who wish.Write (Readers (r ∷ rs)) tickets free
writes_by-own room who (Writer writer) tickets free = queued-same who wish.Write (Writer writer) tickets free

writes_by-others : (room who : ℕ) (holders : Holders) (tickets : List Ticket) (i : ℕ) → i ≢ who
    → let state : ReadersWriter = record { room = room; holders = holders; tickets = tickets } in hold_of (written_by who state holders).state i ≡ hold_of state i
writes_by-others room who (Readers []) tickets i ne = written-other i who (waiting i tickets) ne
writes_by-others room who (Readers (r ∷ rs)) tickets i ne = queued-other i who wish.Write (Readers (r ∷ rs)) tickets ne
writes_by-others room who (Writer writer) tickets i ne = queued-other i who wish.Write (Writer writer) tickets ne

pub write_locked-own : (state : ReadersWriter) (who : ℕ) → hold_of state who ≡ Free → hold_of (write_locked who state).state who ≡ answered (write_locked who state).answer Writes WaitsWrite
write_locked-own state who free = writes_by-own state.room who state.holders state.tickets free

pub write_locked-others : (state : ReadersWriter) (who i : ℕ) → i ≢ who → hold_of (write_locked who state).state i ≡ hold_of state i
write_locked-others state who i ne = writes_by-others state.room who state.holders state.tickets i ne

-- Giving a hold up.

pub has_here : (who : ℕ) (holders : Holders) (waits : Hold) → (Has waits → ⊥) → Has (hold_in who holders waits) → Has (hold_in who holders Free)
has_here who (Readers readers) waits lacks has = elim (cases_Bool (is_reader who readers)) [
  | inl e ↦ subst (λ b. Has (cond b Reads Free)) (sym e) tt
  | inr e ↦ absurd (lacks (subst (λ b. Has (cond b Reads waits)) e has))
]
has_here who (Writer writer) waits lacks has = subst (λ b. Has (cond b Writes Free)) (sym (test_writes (eqb who writer) waits lacks has)) tt

-- who holds has no ticket
pub holder_waits_not : (state : ReadersWriter) → IsOrderly state → (who : ℕ) → Has (hold_of state who) → waiting who state.tickets ≡ Free
holder_waits_not state ok who has =
    ok.apart who (has_here who state.holders (waiting who state.tickets) (waits_only who state.tickets) has)

module _ (state : ReadersWriter) (ok : IsOrderly state) (who : ℕ) where
  pub released_ok : IsOrderly (released who state)
  released_ok = releases state.room who state.holders state.tickets ok

  pub released-own : Has (hold_of state who) → hold_of (released who state) who ≡ Free
  released-own has = gone-same who state.holders (waiting who state.tickets) ∙ holder_waits_not state ok who has

  pub released-others : Has (hold_of state who) → (i : ℕ) → i ≢ who → hold_of (released who state) i ≡ hold_of state i
  released-others has i ne =
      gone-other i who state.holders (waiting who state.tickets) (waiting i state.tickets) (waits_only who state.tickets) has ne

  pub unlocked_settles : IsSettled (unlocked who state).state
  unlocked_settles = wake_settles (released who state) released_ok

  pub unlocked-own : Has (hold_of state who) → hold_of (unlocked who state).state who ≡ Free
  unlocked-own has =
      wakes (released who state) released_ok.apart who
      ∙ ap (λ h. after_wake (unlocked who state).woken who h) (released-own has)
      ∙ granted_no_more (unlocked who state).woken who Free refl

  pub unlocked-others : Has (hold_of state who) → (i : ℕ) → i ≢ who → hold_of (unlocked who state).state i ≡ after_wake (unlocked who state).woken i (hold_of state i)
  unlocked-others has i ne =
      wakes (released who state) released_ok.apart i ∙ ap (λ h. after_wake (unlocked who state).woken i h) (released-others has i ne)

  -- without a holder, and with this one reader
  pub downgrades_ok : (who < state.room) → Has (hold_of state who) → (writer : ℕ) → state.holders ≡ Writer writer → IsOrderly (with_reader who state)
  downgrades_ok low has writer is =
      let free : IsOrderly (record state { holders = Readers [] }) = subst (λ h. IsOrderly (record state { holders = without_holder who h })) is released_ok in
      admits_reader state.room who [] state.tickets free low refl (holder_waits_not state ok who has)

-- who writes is the writer
pub writer_is : (who : ℕ) (holders : Holders) (waits : Hold) → (Has waits → ⊥) → hold_in who holders waits ≡ Writes → holders ≡ Writer who
writer_is who (Readers readers) waits lacks e = absurd (not_written (is_reader who readers) waits lacks e)
writer_is who (Writer writer) waits lacks e =
    ap Writer (sym (eqb-true who writer (test_writes (eqb who writer) waits lacks (subst Has (sym e) tt))))

module _ (state : ReadersWriter) (ok : IsOrderly state) (who : ℕ) (writes : hold_of state who ≡ Writes) where
  pub the_writer : state.holders ≡ Writer who
  the_writer = writer_is who state.holders (waiting who state.tickets) (waits_only who state.tickets) writes

  pub downgraded_ok : IsOrderly (with_reader who state)
  downgraded_ok =
      downgrades_ok state ok who (ok.below who (λ e. cc (sym writes ∙ e))) (subst Has (sym writes) tt) who the_writer

  pub downgraded_settles : IsSettled (downgraded who state).state
  downgraded_settles = wake_settles (with_reader who state) downgraded_ok

  pub downgraded-own : hold_of (downgraded who state).state who ≡ Reads
  downgraded-own =
      wakes (with_reader who state) downgraded_ok.apart who
      ∙ ap (λ h. after_wake (downgraded who state).woken who h) (let_in-same who [] (waiting who state.tickets))
      ∙ granted_no_more (downgraded who state).woken who Reads refl

  pub downgraded-others : (i : ℕ) → i ≢ who → hold_of (downgraded who state).state i ≡ after_wake (downgraded who state).woken i (hold_of state i)
  downgraded-others i ne =
      wakes (with_reader who state) downgraded_ok.apart i
      ∙ ap (λ h. after_wake (downgraded who state).woken i h) (let_in-other i who [] (waiting i state.tickets) ne ∙ sym (written-other i who (waiting i state.tickets) ne) ∙ ap (λ h. hold_in i h (waiting i state.tickets)) (sym the_writer))

-- Who is woken waited, and holds.

wish_waits : (wish : Wish) → HasTicket (waits_by wish)
wish_waits wish.Read = tt
wish_waits wish.Write = tt

owner_waits : (who : ℕ) (wish : Wish) (rest : List Ticket) → HasTicket (waiting who (record { owner = who; wish = wish } ∷ rest))
owner_waits who wish rest =
    let e : eqb who who ≡ true = eq-eqb who who refl in
    subst (λ b. HasTicket (cond b (waits_by wish) (waiting who rest))) (sym e) (wish_waits wish)

abbrev GrantsWaiting : ReadersWriter → Woke → Type 0
GrantsWaiting state woke = IfSome woke.woken (λ w. HasTicket (waiting w state.tickets) × Has (hold_of woke.state w))

granted_waited : (room who : ℕ) (wish : Wish) (holders : Holders) (rest : List Ticket)
    → let state : ReadersWriter = record { room = room; holders = holders; tickets = record { owner = who; wish = wish } ∷ rest } in GrantsWaiting state (granted_to who wish state holders rest)
granted_waited room who wish.Read (Readers readers) rest =
    (owner_waits who wish.Read rest, subst Has (sym (let_in-same who readers (waiting who rest))) tt)
granted_waited room who wish.Write (Readers []) rest = (owner_waits who wish.Write rest, subst Has (sym (written-same who (waiting who rest))) tt)
granted_waited room who wish.Write (Readers (r ∷ rs)) rest = tt
granted_waited room who wish.Read (Writer writer) rest = tt
granted_waited room who wish.Write (Writer writer) rest = tt

woke_waited : (room : ℕ) (holders : Holders) (tickets : List Ticket) → let state : ReadersWriter = record { room = room; holders = holders; tickets = tickets } in GrantsWaiting state (wake_first state tickets)
woke_waited room holders [] = tt
woke_waited room holders (t ∷ ts) = granted_waited room t.owner t.wish holders ts

free_waits_not : (hold : Hold) → HasTicket hold → hold ≡ Free → ⊥
free_waits_not hold waits e = subst HasTicket e waits

-- who waits holds nothing
waits_shown : (state : ReadersWriter) → IsOrderly state → (who : ℕ) → HasTicket (waiting who state.tickets) → hold_of state who ≡ waiting who state.tickets
waits_shown state ok who waits = held_free who state.holders (waiting who state.tickets) (lacking who state.holders (λ has. free_waits_not _ waits (ok.apart who has)))

-- Who a wake grants a hold waited in a state with the same ticket of its.
pub woken_of : (state before : ReadersWriter) → IsOrderly before → ((w : ℕ) → HasTicket (waiting w state.tickets) → waiting w state.tickets ≡ waiting w before.tickets) → IfSome (wake_one state).woken (λ w. HasTicket (hold_of before w) × Has (hold_of (wake_one state).state w))
woken_of state before ok same = by_woken (wake_one state).woken (woke_waited state.room state.holders state.tickets)
  where
    by_woken : (woken : Option ℕ) → IfSome woken (λ w. HasTicket (waiting w state.tickets) × Has (hold_of (wake_one state).state w)) → IfSome woken (λ w. HasTicket (hold_of before w) × Has (hold_of (wake_one state).state w))
    by_woken None h = tt
    by_woken (Some w) h =
        let waits : HasTicket (waiting w before.tickets) = subst HasTicket (same w h.0) h.0 in
        (subst HasTicket (sym (waits_shown before ok w waits)) waits, h.1)

pub unlocked-woken : (state : ReadersWriter) → IsOrderly state → (who : ℕ) → IfSome (unlocked who state).woken (λ w. HasTicket (hold_of state w) × Has (hold_of (unlocked who state).state w))
unlocked-woken state ok who = woken_of (released who state) state ok (λ w waits. refl)

pub downgraded-woken : (state : ReadersWriter) → IsOrderly state → (who : ℕ) → IfSome (downgraded who state).woken (λ w. HasTicket (hold_of state w) × Has (hold_of (downgraded who state).state w))
downgraded-woken state ok who = woken_of (with_reader who state) state ok (λ w waits. refl)

-- Stepping back from reading to writing.

other_woken : (who : ℕ) (woken : Option ℕ) (hold : Hold) → woken ≢ Some who → after_wake woken who hold ≡ hold
other_woken who None hold ne = refl
other_woken who (Some w) hold ne = let e : eqb who w ≡ false = ne_eqb who w (λ same. ne (ap Some (sym same))) in rw e refl

module _ (state : ReadersWriter) (ok : IsOrderly state) (who : ℕ) (has : Has (hold_of state who)) where
  waits_free : waiting who state.tickets ≡ Free
  waits_free = holder_waits_not state ok who has

  low : who < state.room
  low = ok.below who (λ e. subst Has e has)

  pub stepped_back_ok : IsOrderly (stepped_back who state)
  stepped_back_ok =
      queues state.room who wish.Write (without_holder who state.holders) state.tickets (released_ok state ok who) low (released-own state ok who has)

  pub stepped_back_settles : IsSettled (wake_one (stepped_back who state)).state
  stepped_back_settles = wake_settles (stepped_back who state) stepped_back_ok

  pub stepped_back-others : (i : ℕ) → i ≢ who → hold_of (wake_one (stepped_back who state)).state i ≡ after_wake (wake_one (stepped_back who state)).woken i (hold_of state i)
  stepped_back-others i ne =
      wakes (stepped_back who state) stepped_back_ok.apart i
      ∙ ap (λ h. after_wake (wake_one (stepped_back who state)).woken i h) (queued-other i who wish.Write (without_holder who state.holders) state.tickets ne ∙ released-others state ok who has i ne)

  -- where another was woken, or nobody
  pub stepped_back-own : (wake_one (stepped_back who state)).woken ≢ Some who → hold_of (wake_one (stepped_back who state)).state who ≡ WaitsWrite
  stepped_back-own ne =
      wakes (stepped_back who state) stepped_back_ok.apart who
      ∙ ap (λ h. after_wake (wake_one (stepped_back who state)).woken who h) (queued-same who wish.Write (without_holder who state.holders) state.tickets (released-own state ok who has))
      ∙ other_woken who (wake_one (stepped_back who state)).woken WaitsWrite ne

  pub stepped_back-woken : (wake_one (stepped_back who state)).woken ≢ Some who → IfSome (wake_one (stepped_back who state)).woken (λ w. HasTicket (hold_of state w) × Has (hold_of (wake_one (stepped_back who state)).state w))
  stepped_back-woken ne = by_woken (wake_one (stepped_back who state)).woken refl (woke_waited state.room (without_holder who state.holders) (stepped_back who state).tickets)
    where
      by_woken : (woken : Option ℕ) → (wake_one (stepped_back who state)).woken ≡ woken → IfSome woken (λ w. HasTicket (waiting w (stepped_back who state).tickets) × Has (hold_of (wake_one (stepped_back who state)).state w)) → IfSome woken (λ w. HasTicket (hold_of state w) × Has (hold_of (wake_one (stepped_back who state)).state w))
      by_woken None is h = tt
      by_woken (Some w) is h =
          let other = ticket_added-other w who wish.Write state.tickets (λ e. ne (is ∙ ap Some e)) in
          let waits : HasTicket (waiting w state.tickets) = subst HasTicket other h.0 in
          (subst HasTicket (sym (waits_shown state ok w waits)) waits, h.1)

-- Another's ticket is the first, or a reader is left.

granted_other : (room who owner : ℕ) (wish : Wish) (holders : Holders) (rest all : List Ticket) → owner ≢ who → (granted_to owner wish (record { room = room; holders = holders; tickets = all }) holders rest).woken ≢ Some who
granted_other room who owner wish.Read (Readers readers) rest all ne e = ne (cc e)
granted_other room who owner wish.Write (Readers []) rest all ne e = ne (cc e)
granted_other room who owner wish.Write (Readers (r ∷ rs)) rest all ne e = cc e
granted_other room who owner wish.Read (Writer writer) rest all ne e = cc e
granted_other room who owner wish.Write (Writer writer) rest all ne e = cc e

-- what is left by one of several readers
pub left_over : (who r q : ℕ) (rs : List ℕ) → IsDistinct eqb (r ∷ q ∷ rs) → (x : ℕ) × (xs : List ℕ) × (other_readers who (r ∷ q ∷ rs) ≡ x ∷ xs)
unfolding IsDistinct
left_over who r q rs d = elim (cases_Bool (eqb who r)) [
  | inl e ↦
      let apart : eqb who q ≡ false = subst (λ k. eqb k q ≡ false) (sym (eqb-true who r e)) d.0.0 in
      (q, other_readers who rs, rw (e, apart) refl)
  | inr e ↦ (r, other_readers who (q ∷ rs), rw e refl)
]

several_left : (room who : ℕ) (readers : List ℕ) (x : ℕ) (xs : List ℕ) → readers ≡ x ∷ xs → (wake_one (record { room = room; holders = Readers readers; tickets = record { owner = who; wish = wish.Write } ∷ [] })).woken ≡ None
several_left room who readers x xs e = subst (λ rs. (wake_one (record { room = room; holders = Readers rs; tickets = record { owner = who; wish = wish.Write } ∷ [] })).woken ≡ None) (sym e) refl

first_other : (who : ℕ) (t : Ticket) (ts : List Ticket) → waiting who (t ∷ ts) ≡ Free → t.owner ≢ who
first_other who t ts free e =
    let same : eqb who t.owner ≡ true = eq-eqb who t.owner (sym e) in
    waits-nonfree t.wish (rw same at free)

-- an upgrade that isn't got at once wakes another, or nobody
upgrade_woken : (room who : ℕ) (holders : Holders) (tickets : List Ticket) → IsOrderly (record { room = room; holders = holders; tickets = tickets }) → hold_in who holders (waiting who tickets) ≡ Reads → waiting who tickets ≡ Free
    → (upgraded_by who (record { room = room; holders = holders; tickets = tickets }) holders tickets).woken ≢ Some who
upgrade_woken room who (Readers []) tickets ok reads free e = cc (sym free ∙ reads)
upgrade_woken room who (Readers (r ∷ [])) [] ok reads free e = cc e
upgrade_woken room who (Readers (r ∷ [])) (t ∷ ts) ok reads free e =
    granted_other room who t.owner t.wish (without_holder who (Readers (r ∷ []))) (ts ++ record { owner = who; wish = wish.Write } ∷ []) (t ∷ ts ++ record { owner = who; wish = wish.Write } ∷ []) (first_other who t ts free) e
upgrade_woken room who (Readers (r ∷ q ∷ rs)) [] ok reads free e =
    let more = left_over who r q rs ok.once in
    cc (sym (several_left room who (other_readers who (r ∷ q ∷ rs)) more.0 more.1 more.2) ∙ e)
upgrade_woken room who (Readers (r ∷ q ∷ rs)) (t ∷ ts) ok reads free e =
    granted_other room who t.owner t.wish (without_holder who (Readers (r ∷ q ∷ rs))) (ts ++ record { owner = who; wish = wish.Write } ∷ []) (t ∷ ts ++ record { owner = who; wish = wish.Write } ∷ []) (first_other who t ts free) e
upgrade_woken room who (Writer writer) tickets ok reads free e = not_reading (eqb who writer) (waiting who tickets) free reads
  where
    not_reading : (b : Bool) (waits : Hold) → waits ≡ Free → cond b Writes waits ≡ Reads → ⊥
    not_reading true waits free e = cc e
    not_reading false waits free e = cc (sym free ∙ e)

-- what an upgrade does to everybody's hold
pub record Exchanges (state : ReadersWriter) (who : ℕ) (left : Exchanged) : Type 0 where
  pub settles : IsSettled left.state
  pub own : hold_of left.state who ≡ answered left.answer Writes WaitsWrite
  pub others : (i : ℕ) → i ≢ who → hold_of left.state i ≡ after_wake left.woken i (hold_of state i)
  pub woken : IfSome left.woken (λ w. HasTicket (hold_of state w) × Has (hold_of left.state w))
  pub room : left.state.room ≡ state.room

pub wakes_room : (state : ReadersWriter) → (wake_one state).state.room ≡ state.room
wakes_room state = first_room state state.tickets
  where
    granted_room : (who : ℕ) (wish : Wish) (state : ReadersWriter) (holders : Holders) (rest : List Ticket) → (granted_to who wish state holders rest).state.room ≡ state.room
    granted_room who wish.Read state (Readers readers) rest = refl
    granted_room who wish.Write state (Readers []) rest = refl
    granted_room who wish.Write state (Readers (r ∷ rs)) rest = refl
    granted_room who wish.Read state (Writer writer) rest = refl
    granted_room who wish.Write state (Writer writer) rest = refl

    first_room : (state : ReadersWriter) (tickets : List Ticket) → (wake_first state tickets).state.room ≡ state.room
    first_room state [] = refl
    first_room state (t ∷ ts) = granted_room t.owner t.wish state state.holders ts

exchanges_queued : (state : ReadersWriter) (who : ℕ) → IsOrderly state → hold_of state who ≡ Reads → (wake_one (stepped_back who state)).woken ≢ Some who → Exchanges state who (queued_again (wake_one (stepped_back who state)))
exchanges_queued state who ok reads ne =
    let has : Has (hold_of state who) = subst Has (sym reads) tt in
    record {
      settles = stepped_back_settles state ok who has;
      own = stepped_back-own state ok who has ne;
      others = stepped_back-others state ok who has;
      woken = stepped_back-woken state ok who has ne;
      room = wakes_room (stepped_back who state);
    }

read_one : (who r : ℕ) → cond (is_reader who (r ∷ [])) Reads Free ≡ Reads → r ≡ who
read_one who r reads = elim (cases_Bool (eqb who r)) [
  | inl e ↦ sym (eqb-true who r e)
  | inr e ↦ absurd (cc (rw e at reads))
]

exchanges_got : (room who : ℕ) → IsOrderly (record { room = room; holders = Readers (who ∷ []); tickets = [] }) → who < room
    → Exchanges (record { room = room; holders = Readers (who ∷ []); tickets = [] }) who (record { answer = Got; woken = None; state = record { room = room; holders = Writer who; tickets = [] } })
exchanges_got room who ok within =
    let gone : other_readers who (who ∷ []) ≡ [] = (let e : eqb who who ≡ true = eq-eqb who who refl in rw e refl) in
    let free : IsOrderly (record { room = room; holders = Readers []; tickets = [] }) = subst (λ rs. IsOrderly (record { room = room; holders = Readers rs; tickets = [] })) gone (releases room who (Readers (who ∷ [])) [] ok) in
    record {
      settles = record { orderly = admits_writer room who [] free within refl; held = λ e. refl };
      own = written-same who Free;
      others = λ i ne. written-other i who Free ne ∙ sym (let_in-other i who [] Free ne);
      woken = tt;
      room = refl;
    }

exchanges_by : (room who : ℕ) (holders : Holders) (tickets : List Ticket) → let state : ReadersWriter = record { room = room; holders = holders; tickets = tickets } in
    IsOrderly state → hold_of state who ≡ Reads → waiting who tickets ≡ Free → (upgraded_by who state holders tickets).woken ≢ Some who → who < room → Exchanges state who (upgraded_by who state holders tickets)
exchanges_by room who (Readers (r ∷ [])) [] ok reads free ne within =
    subst (λ k. IsOrderly (record { room = room; holders = Readers (k ∷ []); tickets = [] }) → Exchanges (record { room = room; holders = Readers (k ∷ []); tickets = [] }) who (record { answer = Got; woken = None; state = record { room = room; holders = Writer who; tickets = [] } })) (sym (read_one who r reads)) (λ ok. exchanges_got room who ok within) ok
exchanges_by room who (Readers (r ∷ [])) (t ∷ ts) ok reads free ne within = exchanges_queued (record { room = room; holders = Readers (r ∷ []); tickets = t ∷ ts }) who ok reads ne
exchanges_by room who (Readers (r ∷ q ∷ rs)) tickets ok reads free ne within = exchanges_queued (record { room = room; holders = Readers (r ∷ q ∷ rs); tickets = tickets }) who ok reads ne
exchanges_by room who (Readers []) tickets ok reads free ne within = exchanges_queued (record { room = room; holders = Readers []; tickets = tickets }) who ok reads ne
exchanges_by room who (Writer writer) tickets ok reads free ne within = exchanges_queued (record { room = room; holders = Writer writer; tickets = tickets }) who ok reads ne

pub exchanges : (state : ReadersWriter) (who : ℕ) → IsOrderly state → hold_of state who ≡ Reads → Exchanges state who (upgraded who state)
exchanges state who ok reads =
    let free = holder_waits_not state ok who (subst Has (sym reads) tt) in
    exchanges_by state.room who state.holders state.tickets ok reads free (upgrade_woken state.room who state.holders state.tickets ok reads free) (ok.below who (λ e. cc (sym reads ∙ e)))
