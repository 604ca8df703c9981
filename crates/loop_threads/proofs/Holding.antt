-- What a joined seat has made stands in what the other has seen, and goes on standing there as more are joined.
use Rattle.std.proofs.Common.{◌≡◌, ℕ, ◌+◌, ◌≤◌, true, not, ltb, List, [], ◌++◌, length, length-append, refl, sym, ap, ◌∙◌, subst, arith}
use Rattle.std.proofs.lemmas.Bool.{and_parts, and_from, not_from_false, not-true, lt-ltb, le-ltb, ltb-true, ltb-false}
use Rattle.std.proofs.lemmas.List.{nil_from_length, append_assoc}
use Rattle.table_seats.specs.Seats.{Numbers, owns, own_entries}
use Rattle.table_seats.proofs.Entries.{own-append}
use Rattle.table_seats.proofs.Splitting.{own_fewer}
use Rattle.aio_model.specs.Loop.Lists.{seat_of}
use Rattle.aio_model.specs.Coroutines.History.{seat_of as co_seat_of}
use Rattle.aio_core.specs.Known.{Known, numbers_of}
use Rattle.co_schedule.specs.Known.{Known as CoKnown, numbers_of as co_numbers_of}
use Rattle.loop_rows.specs.declared.shared.LoopShared.{LoopShared}
use Rattle.loop_rows.specs.declared.seats.Seats.{Seats}
use Rattle.loop_rows.specs.Rows.{AreSeatsOf, Unites}
use Rattle.loop_threads.specs.Within.{IsSeenWithin, HaveOwn}

owned_among : (first count low high k : ℕ) → low ≤ first → first + count ≤ high → (not (ltb k first)) ≡ true → ltb k (first + count) ≡ true → ((not (ltb k low)) ≡ true) × (ltb k high ≡ true)
owned_among first count low high k l h from below =
    let f = ltb-false k first (not-true _ from) in
    let b = ltb-true k (first + count) below in
    (not_from_false _ (le-ltb k low (omega arith)), lt-ltb k high (omega arith))

pub fewer : (n m : Numbers) → m.first ≤ n.first → n.first + n.count ≤ m.first + m.count → (k : ℕ) → owns n k ≡ true → owns m k ≡ true
fewer n m l h k is =
    let parts = and_parts _ _ is in
    let out = owned_among n.first n.count m.first (m.first + m.count) k l h parts.0 parts.1 in
    and_from _ _ out.0 out.1

no_more : {A : Type 0} (xs ys zs : List A) → xs ++ ys ≡ zs → ys ≡ zs → xs ≡ []
no_more xs ys zs e f =
    nil_from_length xs (omega (arith, length-append xs ys, ap length e, ap length f))

-- the longer list has nothing more of what is owned by fewer
pub still_made : {E : Type 0} (seat_of : E → ℕ) (n m : Numbers) (rest seen longer mine whole : List E) → longer ≡ rest ++ seen → own_entries seat_of m longer ≡ whole → own_entries seat_of m seen ≡ whole → ((k : ℕ) → owns n k ≡ true → owns m k ≡ true) → own_entries seat_of n seen ≡ mine → own_entries seat_of n longer ≡ mine
still_made {E} seat_of n m rest seen longer mine whole e all before sub made =
    let none : own_entries seat_of m rest ≡ [] = no_more (own_entries seat_of m rest) (own_entries seat_of m seen) whole (sym (own-append seat_of m rest seen) ∙ (ap (own_entries seat_of m) (sym e) ∙ all)) before in
    ap (own_entries seat_of n) e ∙ (own-append seat_of n rest seen ∙ (ap (λ (xs : List E). xs ++ own_entries seat_of n seen) (own_fewer seat_of n m rest sub none) ∙ made))

pub part_of_part : {A : Type 0} (xs ys zs : List A) (r q : List A) → ys ≡ r ++ xs → zs ≡ q ++ ys → zs ≡ (q ++ r) ++ xs
part_of_part xs ys zs r q e f = f ∙ (ap (λ l. q ++ l) e ∙ sym (append_assoc q r xs))

module _ {C O : Type 0} {shared : LoopShared C O} {before other after : Seats C O} where
  pub just_joined : Unites shared before other after → IsSeenWithin other after
  just_joined unites =
      record { seen = unites.parts.joined; made = unites.parts.made_by_joining; co_seen = unites.co_parts.joined; co_made = unites.co_parts.made_by_joining }

  pub stayed_within : Unites shared before other after → IsSeenWithin before after
  stayed_within unites =
      record { seen = unites.parts.stayed; made = unites.parts.made_by_staying; co_seen = unites.co_parts.stayed; co_made = unites.co_parts.made_by_staying }

  pub united_own : Unites shared before other after → HaveOwn after
  united_own unites = record {
    own = subst (λ (k : Known). k.mine ≡ own_entries seat_of (numbers_of k) k.seen) (sym unites.both) refl;
    co_own = subst (λ (k : CoKnown). k.mine ≡ own_entries co_seat_of (co_numbers_of k) k.seen) (sym unites.co_both) refl;
  }

  -- one that was joined before
  pub within_still : {part : Seats C O} (first count low high : ℕ) (t : LoopShared C O) → AreSeatsOf first count t part → AreSeatsOf low high shared before → low ≤ first → first + count ≤ low + high → IsSeenWithin part before → HaveOwn before → Unites shared before other after → IsSeenWithin part after
  within_still {part} first count low high t at is l h within own unites =
      let stayed = unites.parts.stayed in
      let co_stayed = unites.co_parts.stayed in
      record {
        seen = (stayed.0 ++ within.seen.0, part_of_part part.bottoms.known.seen before.bottoms.known.seen after.bottoms.known.seen within.seen.0 stayed.0 within.seen.1 stayed.1);
        made = still_made seat_of (numbers_of part.bottoms.known) (numbers_of before.bottoms.known) stayed.0 before.bottoms.known.seen after.bottoms.known.seen part.bottoms.known.mine before.bottoms.known.mine stayed.1 unites.parts.made_by_staying (sym own.own)
            (fewer (numbers_of part.bottoms.known) (numbers_of before.bottoms.known) (omega (arith, at.first_is, is.first_is, l)) (omega (arith, at.first_is, at.count_is, is.first_is, is.count_is, h))) within.made;
        co_seen = (co_stayed.0 ++ within.co_seen.0, part_of_part part.coroutines.known.seen before.coroutines.known.seen after.coroutines.known.seen within.co_seen.0 co_stayed.0 within.co_seen.1 co_stayed.1);
        co_made = still_made co_seat_of (co_numbers_of part.coroutines.known) (co_numbers_of before.coroutines.known) co_stayed.0 before.coroutines.known.seen after.coroutines.known.seen part.coroutines.known.mine before.coroutines.known.mine co_stayed.1 unites.co_parts.made_by_staying (sym own.co_own)
            (fewer (co_numbers_of part.coroutines.known) (co_numbers_of before.coroutines.known) (omega (arith, at.co_first_is, is.co_first_is, l)) (omega (arith, at.co_first_is, at.co_count_is, is.co_first_is, is.co_count_is, h))) within.co_made;
      }
