-- The swap by which home takes the list keeps the rule.
use Rattle.std.proofs.Common.{◌+◌, ◌≡◌, ℕ, ◌<◌, ◌≤◌, true, false, Option, None, List, ◌∷◌, set, slice_index, inl, inr, refl, sym, ◌∙◌, subst, arith}
use mathlib.Core.Option.{some, none}
use lib.ListN.{get_elem?, length-set}
use Rattle.atomic_table.specs.Table.{Me, keeps, step, Allows}
use Rattle.aio_model.specs.Loop.History.{Sizes, Take, History}
use Rattle.aio_model.specs.Loop.Lists.{stack_of, out_of}
use Rattle.aio_model.specs.Loop.Seats.{owns, home}
use Rattle.aio_model.proofs.AnnouncedOnce.{out_of-take}
use Rattle.aio_chain.specs.Chains.{IsChain}
use Rattle.aio_chain.proofs.Chains.{chain_kept}
use Rattle.aio_core.specs.Words.{head_at, notified_at, notify_me_at, notifier_at, next_at, index_count, next_in}
use Rattle.aio_core.specs.Known.{TakeSwap, Known, numbers_of}
use Rattle.aio_core.specs.Rule.{IsOut, NoneEmpty, HasOut, Stands, Kept}
use Rattle.aio_core.specs.Standing.{done, is_empty, with_slice, Takes}
use Rattle.aio_core.specs.Plays.{taken}
use Rattle.aio_core.proofs.Slots.{same_lot, same_hand, slots_kept}
use Rattle.aio_core.proofs.Seats.{seats_make, makes_of, same_view}
use Rattle.aio_core.proofs.Histories.{stack_below, owed_still}
use Rattle.aio_core.proofs.Flags.{events_apart, read_here, read_else, flags_apart}
use Rattle.aio_core.proofs.Lists.{claimed_still, each_all, owes_kept, is_out_kept, no_other_home, lists_after}
use Rattle.aio_core.proofs.Sleeping.{sleep_kept}
use Rattle.aio_core.proofs.Wanting.{wanted_same}
use Rattle.aio_core.proofs.Sliced.{chain_word_below, chains_empty, out_taken, none_empty-taken}

abbrev pub after_take : Known → History → ℕ → Known
after_take v h found =
    record v { seen = Take ∷ h; mine = Take ∷ v.mine; did = done TakeSwap head_at found ∷ v.did; stage = record v.stage { slices = with_slice v.stage.slices found } }

module _ (sizes : Sizes) (h : History) (words : List ℕ) (views : List Known) (id : ℕ) (v : Known) where
  abbrev words_taken : List ℕ
  words_taken = set words head_at 0

  abbrev found_first : ℕ
  found_first = slice_index words head_at

  next_as_before : (j : ℕ) → next_in words_taken j ≡ next_in words j
  next_as_before j = read_else words head_at (next_at j) 0 (λ q. omega arith)

  -- what home has after it
  pub has_out_taken : Stands sizes h words views → get_elem? views id ≡ some v → HasOut words_taken (Take ∷ h) (after_take v h found_first)
  has_out_taken stand at own =
      let now = stand.lists.out id v at own in
      let chain : IsChain (next_in words_taken) found_first (stack_of h) = chain_kept (next_in words) (next_in words_taken) found_first (stack_of h) stand.lists.stack (each_all _ (stack_of h) next_as_before) in
      let out : IsOut (next_in words_taken) v.stage.slices v.stage.hand (out_of h) = is_out_kept (next_in words) (next_in words_taken) v.stage.slices v.stage.hand (out_of h) now.0 (each_all _ (out_of h) next_as_before) in
      (subst (IsOut (next_in words_taken) (with_slice v.stage.slices found_first) v.stage.hand) (sym (out_of-take sizes h stand.legal)) (out_taken (next_in words_taken) v.stage.slices found_first (stack_of h) chain v.stage.hand (out_of h) out), none_empty-taken (next_in words_taken) v.stage.slices found_first (stack_of h) chain now.1)

  pub take_stands : Stands sizes h words views → get_elem? views id ≡ some v → 0 < v.count → owns (numbers_of v) home ≡ true → Stands sizes (Take ∷ h) words_taken (set views id (after_take v h found_first))
  take_stands stand at numbered is_home =
      let w = after_take v h found_first in
      let count = stand.long in
      record {
        long = length-set words head_at 0 ∙ stand.long;
        legal = (tt, stand.legal);
        seats = seats_make sizes h views id Take v w stand.seats at (same_view v w refl refl refl) is_home refl refl numbered;
        flags = flags_apart sizes h (Take ∷ h) words head_at 0 stand.flags (λ j q. omega arith) (λ j. refl);
        lists = lists_after sizes h (Take ∷ h) words words_taken views id w stand.lists
            (read_here words head_at 0 (omega arith))
            (owes_kept sizes words words_taken h (Take ∷ h) v.first v.phase (λ j busy owed. (owed_still sizes h Take v.first j owed refl refl, next_as_before j)) (λ j job busy c. claimed_still sizes h Take _ j job refl refl refl c) (stand.lists.owed id v at))
            (λ beside u ne atu. owes_kept sizes words words_taken h (Take ∷ h) u.first u.phase (λ j busy owed. (owed_still sizes h Take u.first j owed refl refl, next_as_before j)) (λ j job busy c. claimed_still sizes h Take _ j job refl refl refl c))
            (has_out_taken stand at)
            (λ beside u ne atu old. no_other_home sizes h (Take ∷ h) views id beside v u words_taken stand.seats at atu ne is_home);
        events = events_apart h (Take ∷ h) words head_at 0 stand.events (λ e low q. omega arith) (λ e. refl);
        sleep = sleep_kept sizes h (Take ∷ h) words words_taken views id v w (done TakeSwap head_at found_first) stand.seats at refl refl refl stand.sleep
            (record {
              wanted = λ r is. inl (wanted_same r h (Take ∷ h) (λ j. refl) (λ e. refl) is);
              stores = λ r is e. e;
              flies = λ r is e. e;
              notified = read_else words head_at notified_at 0 (λ q. omega arith);
              notifier = read_else words head_at notifier_at 0 (λ q. omega arith);
            })
            (read_else words head_at notify_me_at 0 (λ q. omega arith))
            (λ j announced. inr (announced, λ e. e))
            (λ no j put. absurd (let both : true ≡ false = sym is_home ∙ no in cc));
      }

-- with nothing at hand, nothing is out exactly where there is no slice
pub left_of : (words : List ℕ) (h : History) (slices : List ℕ) (hand : Option ℕ) → hand ≡ None → IsOut (next_in words) slices hand (out_of h) × NoneEmpty slices → is_empty slices ≡ is_empty (out_of h)
left_of words h slices hand none_at_hand now =
    chains_empty (next_in words) slices (out_of h) (subst (λ o. IsOut (next_in words) slices o (out_of h)) none_at_hand now.0) now.1

pub take_allowed : {J : Type 0} (number : J → ℕ) (sizes : Sizes) (slots id : ℕ) (me : Me (Option J) Known) → 0 < me.0.count → owns (numbers_of me.0) home ≡ true → Allows (Kept number sizes) slots id me head_at (λ _. 0) (taken (step slots head_at 0 0 none) me)
take_allowed number sizes slots id me numbered is_home s kept long at fits =
    let h = kept.0 in
    let stand = kept.1 in
    let v = me.0 in
    let found = slice_index s.words head_at in
    let now = take_stands sizes h s.words s.views id v stand at numbered is_home in
    let w = after_take v h found in
    let table = stand.seats.tables id v at in
    let low : found ≤ index_count v.sizes = subst (λ z. found ≤ index_count z) (sym (table.sizes_are numbered)) (chain_word_below (next_in s.words) found (index_count sizes) (stack_of h) stand.lists.stack (stack_below sizes h stand.legal)) in
    let told : Takes found v w = record { makes = makes_of sizes h Take v w (stand.seats.parts.each id v at) table numbered refl refl now.legal; below = low; left = λ e. left_of (set s.words head_at 0) (Take ∷ h) w.stage.slices w.stage.hand e (has_out_taken sizes h s.words s.views id v stand at is_home); rest = refl } in
    (w, keeps, tt, (Take ∷ h, now, slots_kept number sizes h (Take ∷ h) s.homes s.views id me.0 w kept.2 at refl (λ m low. (same_lot (sizes.handles + m) (Take) h refl refl refl refl, same_hand (sizes.handles + m) me.0.stage w.stage refl refl))), (refl, told))
