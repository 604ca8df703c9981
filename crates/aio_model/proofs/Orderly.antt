-- Each step on readers and a writer keeps them orderly.
use Rattle.std.proofs.Common.{◌≡◌, ◌≢◌, ℕ, ◌<◌, Bool, true, false, cond, eqb, List, [], ◌∷◌, ◌++◌, refl, sym, ap, subst, ◌∙◌, inl, inr}
use Rattle.std.specs.List.{IsDistinct, AllByRecursion}
use Rattle.std.proofs.lemmas.Bool.{cases_eq, cases_Bool, eq-eqb, ne_eqb}
use Rattle.std.proofs.lemmas.Map.Keys.{IsDistinct-push}
use Rattle.std.proofs.lemmas.Cmp.{nat_eq_equiv}
use Rattle.aio_model.specs.declared.holds.Hold.{Hold}
use Rattle.aio_model.specs.declared.holds.Hold.TheVariants.{Free, Reads, Writes}
use Rattle.aio_model.specs.declared.holds.Wish.{Wish}
use Rattle.aio_model.specs.declared.holds.Wish.TheVariants as wish
use Rattle.aio_model.specs.Holds.WhoHolds.{Holders, Readers, Writer, Ticket, ReadersWriter, is_reader, other_readers, waits_by, waiting, hold_in}
use Rattle.aio_model.specs.Holds.{Has, WaitOnce, IsOrderly, IsSettled}
use Rattle.aio_model.specs.Holds.Table.{granted_to, wake_first, wake_one, without_holder}
use Rattle.aio_model.proofs.Granted.{waits-nonfree, reader_added-other, reader_gone-same, reader_gone-other, ticket_added-other, not_reader}

free_reader : (b : Bool) (waits : Hold) → cond b Reads waits ≡ Free → (b ≡ false) × (waits ≡ Free)
free_reader true waits e = absurd (cc e)
free_reader false waits e = (refl, e)

free_writer : (b : Bool) (waits : Hold) → cond b Writes waits ≡ Free → (b ≡ false) × (waits ≡ Free)
free_writer true waits e = absurd (cc e)
free_writer false waits e = (refl, e)

-- who is free neither holds nor waits
pub free_parts : (who : ℕ) (holders : Holders) (waits : Hold) → hold_in who holders waits ≡ Free → (hold_in who holders Free ≡ Free) × (waits ≡ Free)
free_parts who (Readers readers) waits e =
    let parts = free_reader (is_reader who readers) waits e in (let b = parts.0 in rw b refl, parts.1)
free_parts who (Writer writer) waits e =
    let parts = free_writer (eqb who writer) waits e in (let b = parts.0 in rw b refl, parts.1)

pub free_no_reader : (who : ℕ) (readers : List ℕ) (waits : Hold) → hold_in who (Readers readers) waits ≡ Free → is_reader who readers ≡ false
free_no_reader who readers waits e = (free_reader (is_reader who readers) waits e).0

free_cut : (b : Bool) (wish : Wish) (rest : Hold) → cond b (waits_by wish) rest ≡ Free → rest ≡ Free
free_cut true wish rest e = absurd (waits-nonfree wish e)
free_cut false wish rest e = e

-- who waits behind the first ticket waits
free_behind : (who : ℕ) (t : Ticket) (rest : List Ticket) → waiting who (t ∷ rest) ≡ Free → waiting who rest ≡ Free
free_behind who t rest e = free_cut (eqb who t.owner) t.wish (waiting who rest) e

free_both : (who : ℕ) (holders : Holders) (t : Ticket) (rest : List Ticket) → hold_in who holders (waiting who (t ∷ rest)) ≡ Free → hold_in who holders (waiting who rest) ≡ Free
free_both who holders t rest e =
    let parts = free_parts who holders (waiting who (t ∷ rest)) e in
    ap (λ w. hold_in who holders w) (free_behind who t rest parts.1) ∙ parts.0

waits_here : (who : ℕ) (wish : Wish) (rest : List Ticket) → waiting who (record { owner = who; wish = wish } ∷ rest) ≡ waits_by wish
waits_here who wish rest = let e : eqb who who ≡ true = eq-eqb who who refl in rw e refl

all_kept : (k who : ℕ) (xs : List ℕ) → AllByRecursion (λ x. eqb k x ≡ false) xs → AllByRecursion (λ x. eqb k x ≡ false) (other_readers who xs)
all_kept k who [] all = tt
all_kept k who (x ∷ xs) all = elim (cases_Bool (eqb who x)) [
  | inl e ↦ rw e (all_kept k who xs all.1)
  | inr e ↦ rw e (all.0, all_kept k who xs all.1)
]

others_once : (who : ℕ) (xs : List ℕ) → IsDistinct eqb xs → IsDistinct eqb (other_readers who xs)
unfolding IsDistinct
others_once who [] d = tt
others_once who (x ∷ xs) d = elim (cases_Bool (eqb who x)) [
  | inl e ↦ rw e (others_once who xs d.1)
  | inr e ↦ rw e (all_kept x who xs d.0, others_once who xs d.1)
]

one_once : (who : ℕ) → IsDistinct eqb (who ∷ [])
unfolding IsDistinct
one_once who = (tt, tt)

pub none_once : IsDistinct eqb []
unfolding IsDistinct
none_once = tt

-- who is free once a reader is gone was free, or is that reader
has_more : (i who : ℕ) (readers : List ℕ) → Has (cond (is_reader i (other_readers who readers)) Reads Free) → Has (cond (is_reader i readers) Reads Free)
has_more i who readers has = elim (cases_eq i who) [
  | inl e ↦ absurd (subst (λ b. Has (cond b Reads Free)) (ap (λ k. is_reader k (other_readers who readers)) e ∙ reader_gone-same who readers) has)
  | inr ne ↦ subst (λ b. Has (cond b Reads Free)) (reader_gone-other i who readers ne) has
]

reads_free : (b : Bool) (waits : Hold) → waits ≡ Free → (b ≡ false) → cond b Reads waits ≡ Free
reads_free b waits e f = rw f e

-- who is free stays so when a holder goes
free_still : (i who : ℕ) (holders : Holders) (waits : Hold) → hold_in i holders waits ≡ Free → hold_in i (without_holder who holders) waits ≡ Free
free_still i who (Writer writer) waits e = (free_writer (eqb i writer) waits e).1
free_still i who (Readers readers) waits e =
    let parts = free_reader (is_reader i readers) waits e in
    elim (cases_eq i who) [
      | inl same ↦ reads_free (is_reader i (other_readers who readers)) waits parts.1 (ap (λ k. is_reader k (other_readers who readers)) same ∙ reader_gone-same who readers)
      | inr ne ↦ reads_free (is_reader i (other_readers who readers)) waits parts.1 (reader_gone-other i who readers ne ∙ parts.0)
    ]

-- a ticket more, of an owner that has none
waits_once_more : (who : ℕ) (wish : Wish) (tickets : List Ticket) → waiting who tickets ≡ Free → WaitOnce tickets → WaitOnce (tickets ++ record { owner = who; wish = wish } ∷ [])
waits_once_more who wish [] free once = (refl, tt)
waits_once_more who wish (t ∷ ts) free once = (
  ticket_added-other t.owner who wish ts (λ e. waits-nonfree t.wish (sym (waits_here t.owner t.wish ts) ∙ ap (λ k. waiting k (t ∷ ts)) e ∙ free)) ∙ once.0,
  waits_once_more who wish ts (free_behind who t ts free) once.1,
)

module _ (room : ℕ) where
  abbrev stand : Holders → List Ticket → ReadersWriter
  stand holders tickets = record { room = room; holders = holders; tickets = tickets }

  -- without the first ticket
  taken_off : (holders : Holders) (t : Ticket) (rest : List Ticket) → IsOrderly (stand holders (t ∷ rest)) → IsOrderly (stand holders rest)
  taken_off holders t rest ok = record {
    once = ok.once;
    waits_once = ok.waits_once.1;
    apart = λ who has. free_behind who t rest (ok.apart who has);
    below = λ who nonfree. ok.below who (λ e. nonfree (free_both who holders t rest e));
  }

  first_below : (holders : Holders) (who : ℕ) (wish : Wish) (rest : List Ticket) → IsOrderly (stand holders (record { owner = who; wish = wish } ∷ rest)) → who < room
  first_below holders who wish rest ok =
      ok.below who (λ e. waits-nonfree wish (sym (waits_here who wish rest) ∙ (free_parts who holders (waiting who (record { owner = who; wish = wish } ∷ rest)) e).1))

  pub admits_reader : (who : ℕ) (readers : List ℕ) (tickets : List Ticket) → IsOrderly (stand (Readers readers) tickets) → who < room → is_reader who readers ≡ false → waiting who tickets ≡ Free → IsOrderly (stand (Readers (readers ++ who ∷ [])) tickets)
  admits_reader who readers tickets ok low absent free = record {
    once = IsDistinct-push nat_eq_equiv readers who ok.once absent;
    waits_once = ok.waits_once;
    apart = λ i has. elim (cases_eq i who) [
      | inl e ↦ subst (λ k. waiting k tickets ≡ Free) (sym e) free
      | inr ne ↦ ok.apart i (subst (λ b. Has (cond b Reads Free)) (reader_added-other i who readers ne) has)
    ];
    below = λ i nonfree. elim (cases_eq i who) [
      | inl e ↦ subst (λ k. k < room) (sym e) low
      | inr ne ↦ ok.below i (λ e. nonfree (ap (λ b. cond b Reads (waiting i tickets)) (reader_added-other i who readers ne) ∙ e))
    ];
  }

  pub admits_writer : (who : ℕ) (tickets : List Ticket) → IsOrderly (stand (Readers []) tickets) → who < room → waiting who tickets ≡ Free → IsOrderly (stand (Writer who) tickets)
  admits_writer who tickets ok low free = record {
    once = tt;
    waits_once = ok.waits_once;
    apart = λ i has. elim (cases_eq i who) [
      | inl e ↦ subst (λ k. waiting k tickets ≡ Free) (sym e) free
      | inr ne ↦ absurd (subst (λ b. Has (cond b Writes Free)) (ne_eqb i who ne) has)
    ];
    below = λ i nonfree. elim (cases_eq i who) [
      | inl e ↦ subst (λ k. k < room) (sym e) low
      | inr ne ↦ ok.below i (λ e. nonfree (ap (λ b. cond b Writes (waiting i tickets)) (ne_eqb i who ne) ∙ e))
    ];
  }

  pub releases : (who : ℕ) (holders : Holders) (tickets : List Ticket) → IsOrderly (stand holders tickets) → IsOrderly (stand (without_holder who holders) tickets)
  releases who (Readers readers) tickets ok = record {
    once = others_once who readers ok.once;
    waits_once = ok.waits_once;
    apart = λ i has. ok.apart i (has_more i who readers has);
    below = λ i nonfree. ok.below i (λ e. nonfree (free_still i who (Readers readers) (waiting i tickets) e));
  }
  releases who (Writer writer) tickets ok = record {
    once = none_once;
    waits_once = ok.waits_once;
    apart = λ i has. absurd has;
    below = λ i nonfree. ok.below i (λ e. nonfree (free_still i who (Writer writer) (waiting i tickets) e));
  }

  pub queues : (who : ℕ) (wish : Wish) (holders : Holders) (tickets : List Ticket) → IsOrderly (stand holders tickets) → who < room → hold_in who holders (waiting who tickets) ≡ Free → IsOrderly (stand holders (tickets ++ record { owner = who; wish = wish } ∷ []))
  queues who wish holders tickets ok low free =
      let parts = free_parts who holders (waiting who tickets) free in
      record {
        once = ok.once;
        waits_once = waits_once_more who wish tickets parts.1 ok.waits_once;
        apart = λ i has. elim (cases_eq i who) [
          | inl e ↦ absurd (subst Has (ap (λ k. hold_in k holders Free) e ∙ parts.0) has)
          | inr ne ↦ ticket_added-other i who wish tickets ne ∙ ok.apart i has
        ];
        below = λ i nonfree. elim (cases_eq i who) [
          | inl e ↦ subst (λ k. k < room) (sym e) low
          | inr ne ↦ ok.below i (λ e. nonfree (ap (λ w. hold_in i holders w) (ticket_added-other i who wish tickets ne) ∙ e))
        ];
      }

  grants : (who : ℕ) (wish : Wish) (holders : Holders) (rest : List Ticket) → IsOrderly (stand holders (record { owner = who; wish = wish } ∷ rest))
      → IsOrderly (granted_to who wish (stand holders (record { owner = who; wish = wish } ∷ rest)) holders rest).state
  grants who wish.Read (Readers readers) rest ok =
      let absent = not_reader who readers (record { owner = who; wish = wish.Read } ∷ rest) wish.Read ok.apart (waits_here who wish.Read rest) in
      admits_reader who readers rest (taken_off (Readers readers) _ rest ok) (first_below _ who wish.Read rest ok) absent ok.waits_once.0
  grants who wish.Write (Readers []) rest ok = admits_writer who rest (taken_off (Readers []) _ rest ok) (first_below _ who wish.Write rest ok) ok.waits_once.0
  grants who wish.Write (Readers (r ∷ rs)) rest ok = ok
  grants who wish.Read (Writer writer) rest ok = ok
  grants who wish.Write (Writer writer) rest ok = ok

  grants_held : (who : ℕ) (wish : Wish) (holders : Holders) (rest all : List Ticket) → let after = (granted_to who wish (stand holders all) holders rest).state in after.holders ≡ Readers [] → after.tickets ≡ []
  grants_held who wish.Read (Readers []) rest all e = absurd (cc e)
  grants_held who wish.Read (Readers (r ∷ rs)) rest all e = absurd (cc e)
  grants_held who wish.Write (Readers []) rest all e = absurd (cc e)
  grants_held who wish.Write (Readers (r ∷ rs)) rest all e = absurd (cc e)
  grants_held who wish.Read (Writer writer) rest all e = absurd (cc e)
  grants_held who wish.Write (Writer writer) rest all e = absurd (cc e)

  wakes_orderly : (holders : Holders) (tickets : List Ticket) → IsOrderly (stand holders tickets) → IsOrderly (wake_first (stand holders tickets) tickets).state
  wakes_orderly holders [] ok = ok
  wakes_orderly holders (t ∷ ts) ok = grants t.owner t.wish holders ts ok

  wakes_held : (holders : Holders) (tickets : List Ticket) → let after = (wake_first (stand holders tickets) tickets).state in after.holders ≡ Readers [] → after.tickets ≡ []
  wakes_held holders [] e = refl
  wakes_held holders (t ∷ ts) e = grants_held t.owner t.wish holders ts (t ∷ ts) e

pub wake_keeps : (state : ReadersWriter) → IsOrderly state → IsOrderly (wake_one state).state
wake_keeps state ok = wakes_orderly state.room state.holders state.tickets ok

-- after a wake nobody waits where nobody holds
pub wake_settles : (state : ReadersWriter) → IsOrderly state → IsSettled (wake_one state).state
wake_settles state ok = record { orderly = wake_keeps state ok; held = wakes_held state.room state.holders state.tickets }
