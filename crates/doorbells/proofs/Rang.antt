-- What a ring leads to.
use Rattle.std.proofs.Common.{◌≡◌, ℕ, ◌<◌, Bool, true, false, not, ◌&&◌, eqb, ◌++◌, refl, sym, ap, ◌∙◌, subst}
use Rattle.std.proofs.lemmas.Bool.{false≢true}
use Rattle.aio_model.specs.declared.loops.flags.Flags.{Flags}
use Rattle.aio_model.specs.Loop.History.{ToCall, History}
use Rattle.aio_model.specs.Loop.InFlight.{AtRest}
use Rattle.aio_model.specs.Loop.Legal.{IsLegal}
use Rattle.aio_model.specs.Loop.Seats.{home, entries_by, entries_of}
use Rattle.aio_model.specs.Loop.Frame.{are_of_callback}
use Rattle.aio_model.specs.Loop.Calls.{dequeue_times, AwaitsCall}
use Rattle.aio_model.proofs.Awaiting.{none_dequeued}
use Rattle.aio_core.specs.Known.{Known}
use Rattle.aio_core.specs.Calls.{TableState, SeatState, IsSeatOf}
use Rattle.aio_bh.specs.Enqueuing.{AddsOnly, enqueue_entries}
use Rattle.aio_bh.proofs.Lent.{enqueue_of_callback}
use Rattle.aio_bh.proofs.Served.{enqueue_awaits}
use Rattle.doorbells.specs.Responding.{is_new}
use Rattle.doorbells.specs.Rings.{AwaitsUnless, Rings}

new_parts : (p d : Bool) → not p && not d ≡ true → (p ≡ false) × (d ≡ false)
new_parts true d h = absurd (false≢true h)
new_parts false true h = absurd (false≢true h)
new_parts false false h = (refl, refl)

-- a ring is new exactly where its doorbell was neither pending nor deleted
pub is_new-parts : (found : Flags) → is_new found ≡ true → (found.pending ≡ false) × (found.deleted ≡ false)
is_new-parts found new = new_parts found.pending found.deleted new

-- whoever made it: it stands, and the doorbell awaits its answer
pub awaits_unless : (table : TableState) (bell seat : ℕ) (found : Flags) (test : ℕ → Bool) (since before seen : History) → bell < table.sizes.handles → seen ≡ since ++ before → IsLegal table.sizes seen → entries_by test since ≡ enqueue_entries bell ToCall seat found → AwaitsUnless bell found since seen
awaits_unless table bell seat found test since before seen handle is legal made new still none =
    let parts = is_new-parts found new in
    subst (AwaitsCall bell) (sym is)
    (enqueue_awaits table.sizes bell seat found test since before handle (subst (IsLegal table.sizes) is legal) made parts.0 parts.1 still none)

pub rang : (table : TableState) (bell : ℕ) (found : Flags) (a b : SeatState) → bell < table.sizes.handles → IsSeatOf table a → IsSeatOf table b → b.known.phase ≡ AtRest → AddsOnly (enqueue_entries bell ToCall a.known.first found) a.known b.known → Rings table bell found a b
rang table bell found a b handle of_a of_b rest stands =
    let s = stands.stands.stands in
    record {
      back = record {
        ready = record { of = of_b; rest = rest };
        first = ap (λ (k : Known). k.first) stands.rest;
        count = ap (λ (k : Known). k.count) stands.rest;
      };
      stands = stands;
      awaits = awaits_unless table bell a.known.first found (λ n. eqb n a.known.first) s.rest a.known.seen b.known.seen handle s.longer (subst (λ z. IsLegal z b.known.seen) of_a.sizes s.legal) s.just_these;
    }

-- a ring by the home dequeues nothing
pub none_dequeued_by : (table : TableState) (bell other : ℕ) (found : Flags) (a b : SeatState) → a.known.first ≡ 64 → (rings : Rings table bell found a b) → dequeue_times other rings.stands.stands.stands.rest ≡ 0
none_dequeued_by table bell other found a b home_is rings =
    let s = rings.stands.stands.stands in
    let of_home : entries_of home s.rest ≡ enqueue_entries bell ToCall a.known.first found = ap (λ n. entries_of n s.rest) (sym home_is) ∙ s.just_these in
    none_dequeued other s.rest (ap are_of_callback of_home ∙ enqueue_of_callback bell ToCall a.known.first found)
