-- What the table of readers and a writer does to everybody's hold.
use Rattle.std.proofs.Common.{◌≡◌, ◌≢◌, ℕ, ◌<◌, ◌||◌, ◌&&◌, ◌⊎◌, inl, inr, Bool, true, false, cond, eqb, List, [], ◌∷◌, ◌++◌, Option, Some, None, refl, sym, ap, subst, ◌∙◌}
use Rattle.std.proofs.lemmas.Bool.{cases_eq, cases_Bool, eqb-true, eq-eqb, ne_eqb}
use Rattle.aio_model.specs.declared.holds.Hold.{Hold}
use Rattle.aio_model.specs.declared.holds.Hold.TheVariants.{Free, Reads, Writes}
use Rattle.aio_model.specs.declared.holds.Wish.{Wish}
use Rattle.aio_model.specs.declared.holds.Wish.TheVariants as wish
use Rattle.aio_model.specs.Holds.WhoHolds.{Holders, Readers, Writer, Ticket, ReadersWriter, is_reader, other_readers, waits_by, waiting, hold_in, hold_of}
use Rattle.aio_model.specs.Holds.{Has, granted, after_wake, OnlyGranted, WriterIsAlone}
use Rattle.aio_model.specs.Holds.Table.{Woke, granted_to, wake_first, wake_one}

-- Who writes is alone.

lacks_by : (b : Bool) (wish : Wish) (rest : Hold) → (Has rest → ⊥) → Has (cond b (waits_by wish) rest) → ⊥
lacks_by true wish.Read rest lacks h = h
lacks_by true wish.Write rest lacks h = h
lacks_by false wish rest lacks h = lacks h

-- a ticket is no hold
pub waits_only : (who : ℕ) (tickets : List Ticket) → Has (waiting who tickets) → ⊥
waits_only who [] h = h
waits_only who (t ∷ ts) h = lacks_by (eqb who t.owner) t.wish (waiting who ts) (waits_only who ts) h

pub not_written : (b : Bool) (waits : Hold) → (Has waits → ⊥) → cond b Reads waits ≡ Writes → ⊥
not_written true waits lacks e = cc e
not_written false waits lacks e = lacks (subst Has (sym e) tt)

pub test_writes : (b : Bool) (waits : Hold) → (Has waits → ⊥) → Has (cond b Writes waits) → b ≡ true
test_writes true waits lacks h = refl
test_writes false waits lacks h = absurd (lacks h)

apart_in : (i j : ℕ) (holders : Holders) (wi wj : Hold) → (Has wi → ⊥) → (Has wj → ⊥) → hold_in i holders wi ≡ Writes → Has (hold_in j holders wj) → i ≡ j
apart_in i j (Readers readers) wi wj li lj e h = absurd (not_written (is_reader i readers) wi li e)
apart_in i j (Writer w) wi wj li lj e h =
    eqb-true i w (test_writes (eqb i w) wi li (subst Has (sym e) tt)) ∙ sym (eqb-true j w (test_writes (eqb j w) wj lj h))

pub writer_alone : (state : ReadersWriter) → WriterIsAlone (hold_of state)
writer_alone state i j e h =
    apart_in i j state.holders (waiting i state.tickets) (waiting j state.tickets) (waits_only i state.tickets) (waits_only j state.tickets) e h

-- Holds when a reader or a ticket comes or goes.

or_true : (b : Bool) → (b || true) ≡ true
or_true true = refl
or_true false = refl

pub reader_added-same : (who : ℕ) (readers : List ℕ) → is_reader who (readers ++ who ∷ []) ≡ true
reader_added-same who [] = let e : eqb who who ≡ true = eq-eqb who who refl in rw e refl
reader_added-same who (r ∷ rs) = rw (reader_added-same who rs) (or_true (eqb who r))

pub reader_added-other : (i who : ℕ) (readers : List ℕ) → i ≢ who → is_reader i (readers ++ who ∷ []) ≡ is_reader i readers
reader_added-other i who [] ne = let e : eqb i who ≡ false = ne_eqb i who ne in rw e refl
reader_added-other i who (r ∷ rs) ne = ap (λ b. eqb i r || b) (reader_added-other i who rs ne)

pub reader_gone-same : (who : ℕ) (readers : List ℕ) → is_reader who (other_readers who readers) ≡ false
reader_gone-same who [] = refl
reader_gone-same who (r ∷ rs) = elim (cases_Bool (eqb who r)) [
  | inl e ↦ rw e (reader_gone-same who rs)
  | inr e ↦ rw e (rw e (reader_gone-same who rs))
]

pub reader_gone-other : (i who : ℕ) (readers : List ℕ) → i ≢ who → is_reader i (other_readers who readers) ≡ is_reader i readers
reader_gone-other i who [] ne = refl
reader_gone-other i who (r ∷ rs) ne = elim (cases_Bool (eqb who r)) [
  | inl e ↦
      let apart : eqb i r ≡ false = ne_eqb i r (λ same. ne (same ∙ sym (eqb-true who r e))) in
      rw (e, apart) (reader_gone-other i who rs ne)
  | inr e ↦ rw e (ap (λ b. eqb i r || b) (reader_gone-other i who rs ne))
]

pub waits-nonfree : (wish : Wish) → waits_by wish ≡ Free → ⊥
waits-nonfree wish.Read e = cc e
waits-nonfree wish.Write e = cc e

pub ticket_added-same : (who : ℕ) (wish : Wish) (tickets : List Ticket) → waiting who tickets ≡ Free → waiting who (tickets ++ record { owner = who; wish = wish } ∷ []) ≡ waits_by wish
ticket_added-same who wish [] free = let e : eqb who who ≡ true = eq-eqb who who refl in rw e refl
ticket_added-same who wish (t ∷ ts) free = elim (cases_Bool (eqb who t.owner)) [
  | inl e ↦ absurd (waits-nonfree t.wish (rw e at free))
  | inr e ↦ rw e (ticket_added-same who wish ts (rw e at free))
]

pub ticket_added-other : (i who : ℕ) (wish : Wish) (tickets : List Ticket) → i ≢ who → waiting i (tickets ++ record { owner = who; wish = wish } ∷ []) ≡ waiting i tickets
ticket_added-other i who wish [] ne = let e : eqb i who ≡ false = ne_eqb i who ne in rw e refl
ticket_added-other i who wish (t ∷ ts) ne = ap (λ h. cond (eqb i t.owner) (waits_by t.wish) h) (ticket_added-other i who wish ts ne)

-- What a wake does.

pub granted_no_more : (woken : Option ℕ) (who : ℕ) (hold : Hold) → granted hold ≡ hold → after_wake woken who hold ≡ hold
granted_no_more None who hold e = refl
granted_no_more (Some w) who hold e = elim (cases_Bool (eqb who w)) [
  | inl same ↦ rw same e
  | inr other ↦ rw other refl
]

pub only_granted : (woken : Option ℕ) (who : ℕ) (hold : Hold) → OnlyGranted hold (after_wake woken who hold)
only_granted None who hold = inl refl
only_granted (Some w) who hold = elim (cases_Bool (eqb who w)) [
  | inl same ↦ inr (rw same refl)
  | inr other ↦ inl (rw other refl)
]

-- an owner that holds doesn't wait
abbrev pub NoneTwice : Holders → List Ticket → Type 0
NoneTwice holders tickets = (who : ℕ) → Has (hold_in who holders Free) → waiting who tickets ≡ Free

-- a reader reads, whatever it waits for
hold_reads : (b : Bool) (waits : Hold) → b ≡ true → cond b Reads waits ≡ Reads
hold_reads b waits e = rw e refl

pub not_reader : (who : ℕ) (readers : List ℕ) (tickets : List Ticket) (wish : Wish) → NoneTwice (Readers readers) tickets → waiting who tickets ≡ waits_by wish → is_reader who readers ≡ false
not_reader who readers tickets wish apart waits = elim (cases_Bool (is_reader who readers)) [
  | inl reads ↦
      let free : waiting who tickets ≡ Free = apart who (subst Has (sym (hold_reads (is_reader who readers) Free reads)) tt) in
      absurd (waits-nonfree wish (sym waits ∙ free))
  | inr e ↦ e
]

first_waits : (who : ℕ) (wish : Wish) (rest : List Ticket) → waiting who (record { owner = who; wish = wish } ∷ rest) ≡ waits_by wish
first_waits who wish rest = let e : eqb who who ≡ true = eq-eqb who who refl in rw e refl

other_waits : (i who : ℕ) (wish : Wish) (rest : List Ticket) → i ≢ who → waiting i (record { owner = who; wish = wish } ∷ rest) ≡ waiting i rest
other_waits i who wish rest ne = let e : eqb i who ≡ false = ne_eqb i who ne in rw e refl

-- after a wake everybody's hold is the same, but of who was woken, and its ticket is granted
abbrev WakesFrom : ReadersWriter → Woke → Type 0
WakesFrom state woke = (i : ℕ) → hold_of woke.state i ≡ after_wake woke.woken i (hold_of state i)

grants_reader : (room who : ℕ) (readers : List ℕ) (rest : List Ticket) → NoneTwice (Readers readers) (record { owner = who; wish = wish.Read } ∷ rest)
    → WakesFrom (record { room = room; holders = Readers readers; tickets = record { owner = who; wish = wish.Read } ∷ rest }) (record { woken = Some who; state = record { room = room; holders = Readers (readers ++ who ∷ []); tickets = rest } })
grants_reader room who readers rest apart i = elim (cases_eq i who) [
  | inl same ↦ subst (λ k. hold_in k (Readers (readers ++ who ∷ [])) (waiting k rest) ≡ after_wake (Some who) k (hold_in k (Readers readers) (waiting k (record { owner = who; wish = wish.Read } ∷ rest)))) (sym same) (
      let e : eqb who who ≡ true = eq-eqb who who refl in
      let before : is_reader who readers ≡ false = not_reader who readers (record { owner = who; wish = wish.Read } ∷ rest) wish.Read apart (first_waits who wish.Read rest) in
      let after = reader_added-same who readers in
      rw (after, e, before) refl
      )
  | inr ne ↦
      let e : eqb i who ≡ false = ne_eqb i who ne in
      let after = reader_added-other i who readers ne in
      rw (after, e) refl
]

grants_writer : (room who : ℕ) (rest : List Ticket)
    → WakesFrom (record { room = room; holders = Readers []; tickets = record { owner = who; wish = wish.Write } ∷ rest }) (record { woken = Some who; state = record { room = room; holders = Writer who; tickets = rest } })
grants_writer room who rest i = elim (cases_Bool (eqb i who)) [
  | inl e ↦ rw e refl
  | inr e ↦ rw e refl
]

wakes_by : (room who : ℕ) (wish : Wish) (holders : Holders) (rest : List Ticket) → NoneTwice holders (record { owner = who; wish = wish } ∷ rest)
    → let state : ReadersWriter = record { room = room; holders = holders; tickets = record { owner = who; wish = wish } ∷ rest } in WakesFrom state (granted_to who wish state holders rest)
wakes_by room who wish.Read (Readers readers) rest apart i = grants_reader room who readers rest apart i
wakes_by room who wish.Write (Readers []) rest apart i = grants_writer room who rest i
wakes_by room who wish.Write (Readers (r ∷ rs)) rest apart i = refl
wakes_by room who wish.Read (Writer writer) rest apart i = refl
wakes_by room who wish.Write (Writer writer) rest apart i = refl

wakes_in : (room : ℕ) (holders : Holders) (tickets : List Ticket) → NoneTwice holders tickets
    → let state : ReadersWriter = record { room = room; holders = holders; tickets = tickets } in WakesFrom state (wake_first state tickets)
wakes_in room holders [] apart i = refl
wakes_in room holders (t ∷ ts) apart i = wakes_by room t.owner t.wish holders ts apart i

pub wakes : (state : ReadersWriter) → NoneTwice state.holders state.tickets → (i : ℕ) → hold_of (wake_one state).state i ≡ after_wake (wake_one state).woken i (hold_of state i)
wakes state apart = wakes_in state.room state.holders state.tickets apart
