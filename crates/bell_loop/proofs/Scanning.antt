-- What a scan found, where home alone makes the history.
use Rattle.std.proofs.Common.{◌≡◌, ℕ, Bool, true, false, not, ◌&&◌, ◌||◌, cond, Option, Some, None, List, [], ◌∷◌, ◌++◌, drop, MatchOption, refl, sym, ap, ◌∙◌, subst, append_assoc}
use Rattle.std.specs.List.{find}
use Rattle.std.proofs.lemmas.Bool.{false≢true, and_parts}
use Rattle.std.proofs.lemmas.List.{append-nil}
use Rattle.aio_model.specs.Loop.History.{History}
use Rattle.aio_model.specs.Loop.Flags.{are_due, are_urgent, is_due, is_urgent, flags_of}
use Rattle.aio_model.specs.Loop.Lists.{seat_of, stack_of, out_of}
use Rattle.aio_model.specs.Loop.Legal.{IsLegal}
use Rattle.aio_model.specs.Loop.Seats.{home, entries_of}
use Rattle.aio_core.specs.Known.{Known, Running, Scanning, Scan, numbers_of, is_running}
use Rattle.aio_core.specs.SleepSteps.{Learns, scan_in}
use Rattle.aio_core.specs.Scans.{LookedAt, Passes, PassesAll, Scans, FoundNone, FoundUrgent, some_idle, none_urgent, indices_loaded}
use Rattle.table_seats.proofs.Standing.{entries-append}
use Rattle.aio_bh.proofs.Entries.{none_of_home}
use Rattle.bell_loop.specs.Running.{IsAlone, Calm, OnlyOthers, Finds}
use Rattle.bell_loop.proofs.Alone.{alone_parts, none_else}
use Rattle.bell_loop.proofs.Dues.{some_due, due-in_stack}

-- Others alone made what came.

pub others-none : (a b : History) → b ≡ a → OnlyOthers a b
others-none a b same = record { between = []; longer = same; not_home = refl }

pub others-then : (a b c : History) → OnlyOthers a b → OnlyOthers b c → OnlyOthers a c
others-then a b c first then = record {
  between = then.between ++ first.between;
  longer = then.longer ∙ ap (λ l. then.between ++ l) first.longer ∙ sym (append_assoc then.between first.between a);
  not_home = entries-append seat_of home then.between first.between ∙ ap (λ l. l ++ entries_of home first.between) then.not_home ∙ first.not_home;
}

-- where home is alone, nothing came
pub none_came : (a b : History) → OnlyOthers a b → IsAlone b → b ≡ a
none_came a b others alone =
    let parts = alone_parts others.between a (subst IsAlone others.longer alone) in
    others.longer ∙ ap (λ l. l ++ a) (none_else others.between parts.0 others.not_home)

learns_others : (a b : Known) → a.first ≡ 64 → a.count ≡ 1 → Learns a b → OnlyOthers a.seen b.seen
learns_others a b first count learns =
    record { between = learns.others; longer = learns.seen; not_home = none_of_home (numbers_of a) learns.others first count learns.not_own }

-- each was loaded with the flags that the history gives it
abbrev HaveFlags : History → List LookedAt → Type 0
HaveFlags h [] = Unit {0}
HaveFlags h (looked ∷ older) = (looked.flags ≡ flags_of looked.index h) × HaveFlags h older

-- from the head load on
pub record Went (begun : Known) (loads : List LookedAt) (after : Known) : Type 0 where
  first : after.first ≡ 64
  count : after.count ≡ 1
  sizes : after.sizes ≡ begun.sizes
  others : OnlyOthers begun.seen after.seen
  legal : IsLegal begun.sizes after.seen
  flags : IsAlone after.seen → HaveFlags begun.seen loads

one_went : (looked : LookedAt) (begun mid after : Known) (older : List LookedAt) → Went begun older mid → Passes looked mid after → Went begun (looked ∷ older) after
one_went looked begun mid after older went passes =
    let lifted = passes.lifted in
    let seen : lifted.seen ≡ mid.seen = ap (λ (k : Known). k.seen) passes.next.rest in
    let first : lifted.first ≡ 64 = ap (λ (k : Known). k.first) passes.next.rest ∙ went.first in
    let count : lifted.count ≡ 1 = ap (λ (k : Known). k.count) passes.next.rest ∙ went.count in
    let sizes : lifted.sizes ≡ begun.sizes = ap (λ (k : Known). k.sizes) passes.next.rest ∙ went.sizes in
    let learnt : OnlyOthers mid.seen after.seen = subst (λ h. OnlyOthers h after.seen) seen (learns_others lifted after first count passes.flags.learns) in
    let all : OnlyOthers begun.seen after.seen = others-then begun.seen mid.seen after.seen went.others learnt in
    record {
      first = ap (λ (k : Known). k.first) passes.flags.rest ∙ first;
      count = ap (λ (k : Known). k.count) passes.flags.rest ∙ count;
      sizes = ap (λ (k : Known). k.sizes) passes.flags.rest ∙ sizes;
      others = all;
      legal = subst (λ z. IsLegal z after.seen) sizes passes.flags.learns.legal;
      flags = λ alone.
          let same : after.seen ≡ begun.seen = none_came begun.seen after.seen all alone in
          let mid_is : after.seen ≡ mid.seen = none_came mid.seen after.seen learnt alone in
          (passes.flags.were ∙ ap (flags_of looked.index) same, went.flags (subst IsAlone mid_is alone));
    }

all_went : (begun : Known) (loads : List LookedAt) (after : Known) → begun.first ≡ 64 → begun.count ≡ 1 → IsLegal begun.sizes begun.seen → PassesAll loads begun after → Went begun loads after
all_went begun [] after first count legal same = record {
  first = ap (λ (k : Known). k.first) same ∙ first;
  count = ap (λ (k : Known). k.count) same ∙ count;
  sizes = ap (λ (k : Known). k.sizes) same;
  others = others-none begun.seen after.seen (ap (λ (k : Known). k.seen) same);
  legal = subst (λ (k : Known). IsLegal begun.sizes k.seen) (sym same) legal;
  flags = λ alone. tt;
}
all_went begun (looked ∷ older) after first count legal passes =
    one_went looked begun passes.0 after older (all_went begun older passes.0 first count legal passes.1) passes.3

-- The order of the loads.

-- the index was the first of those left
was_first : (looked : LookedAt) (mid after : Known) → Passes looked mid after → (scan_in mid.sleep).left ≡ looked.index ∷ drop 1 (scan_in mid.sleep).left
was_first looked mid after passes =
    let same : (scan_in passes.lifted.sleep).left ≡ (scan_in mid.sleep).left = ap (λ (k : Known). (scan_in k.sleep).left) passes.next.rest in
    subst (λ l. l ≡ looked.index ∷ drop 1 l) same passes.flags.was_left

left_behind : (b : Bool) (made : ℕ) (scan : Scan) → b ≡ false → (scan_in (cond b Running (Scanning made (record scan { stage = record scan.stage { hand = None }; left = drop 1 scan.left })))).left ≡ drop 1 scan.left
left_behind true made scan h = absurd (false≢true (sym h))
left_behind false made scan h = refl

not_true : (b : Bool) → not b ≡ true → b ≡ false
not_true true h = absurd (false≢true h)
not_true false h = refl

in_order : (begun : Known) (loads : List LookedAt) (after : Known) → none_urgent loads ≡ true → PassesAll loads begun after → indices_loaded loads ++ (scan_in after.sleep).left ≡ (scan_in begun.sleep).left
in_order begun [] after calm same = ap (λ (k : Known). (scan_in k.sleep).left) same
in_order begun (looked ∷ older) after calm passes =
    let parts = and_parts (not (are_urgent looked.flags)) (none_urgent older) calm in
    let mid = passes.0 in
    let lifted = passes.3.lifted in
    let same : (scan_in lifted.sleep).left ≡ (scan_in mid.sleep).left = ap (λ (k : Known). (scan_in k.sleep).left) passes.3.next.rest in
    let left : (scan_in after.sleep).left ≡ drop 1 (scan_in mid.sleep).left = ap (λ (k : Known). (scan_in k.sleep).left) passes.3.flags.rest ∙ left_behind (are_urgent looked.flags) _ (scan_in lifted.sleep) (not_true _ parts.0) ∙ ap (drop 1) same in
    append_assoc (indices_loaded older) (looked.index ∷ []) (scan_in after.sleep).left
    ∙ ap (λ l. indices_loaded older ++ (looked.index ∷ l)) left ∙ ap (λ l. indices_loaded older ++ l) (sym (was_first looked mid after passes.3)) ∙ in_order begun older mid parts.1 passes.1

-- What was found, by the lists.

find_past : (h : History) (i : ℕ) (ys : List ℕ) → is_urgent i h ≡ false → find (λ k. is_urgent k h) (i ∷ ys) ≡ find (λ k. is_urgent k h) ys
find_past h i ys calm = rw calm refl

find_at : (h : History) (i : ℕ) (ys : List ℕ) → is_urgent i h ≡ true → find (λ k. is_urgent k h) (i ∷ ys) ≡ Some i
find_at h i ys urgent = rw urgent refl

find_behind : (h : History) (loads : List LookedAt) (ys : List ℕ) → none_urgent loads ≡ true → HaveFlags h loads → find (λ k. is_urgent k h) (indices_loaded loads ++ ys) ≡ find (λ k. is_urgent k h) ys
find_behind h [] ys calm flags = refl
find_behind h (looked ∷ older) ys calm flags =
    let parts = and_parts (not (are_urgent looked.flags)) (none_urgent older) calm in
    let not_urgent : is_urgent looked.index h ≡ false = ap are_urgent (sym flags.0) ∙ not_true _ parts.0 in
    ap (find (λ k. is_urgent k h)) (append_assoc (indices_loaded older) (looked.index ∷ []) ys) ∙ find_behind h older (looked.index ∷ ys) parts.1 flags.1 ∙ find_past h looked.index ys not_urgent

due-append : (h : History) (xs ys : List ℕ) → some_due h (xs ++ ys) ≡ (some_due h xs || some_due h ys)
due-append h [] ys = refl
due-append h (x ∷ xs) ys = ap (λ b. is_due x h || b) (due-append h xs ys) ∙ assoc (is_due x h) (some_due h xs) (some_due h ys)
  where
    assoc : (a b c : Bool) → (a || (b || c)) ≡ ((a || b) || c)
    assoc true b c = refl
    assoc false b c = refl

-- one that isn't urgent is idle where it is due
idle-due : (due idle : Bool) → not (due && not idle) ≡ true → (due && idle) ≡ (due || false)
idle-due true true h = refl
idle-due true false h = absurd (false≢true h)
idle-due false idle h = refl

idle_is-due : (h : History) (loads : List LookedAt) → none_urgent loads ≡ true → HaveFlags h loads → some_idle loads ≡ some_due h (indices_loaded loads)
idle_is-due h [] calm flags = refl
idle_is-due h (looked ∷ older) calm flags =
    let parts = and_parts (not (are_urgent looked.flags)) (none_urgent older) calm in
    let here : (are_due looked.flags && looked.flags.idle) ≡ (is_due looked.index h || false) = idle-due (are_due looked.flags) looked.flags.idle parts.0 ∙ ap (λ f. are_due f || false) flags.0 in
    ap (λ b. b || (are_due looked.flags && looked.flags.idle)) (idle_is-due h older parts.1 flags.1) ∙ ap (λ b. some_due h (indices_loaded older) || b) here ∙ sym (due-append h (indices_loaded older) (looked.index ∷ []))

-- The scan.
module _ (urgent : Option ℕ) (idle : Bool) (before after : Known) (scans : Scans urgent idle before after) (first : before.first ≡ 64) (count : before.count ≡ 1) where
  begun_learns : OnlyOthers before.seen scans.begun.seen
  begun_learns = learns_others before scans.begun first count scans.begins.learns

  sizes_are : scans.begun.sizes ≡ before.sizes
  sizes_are = ap (λ (k : Known). k.sizes) scans.begins.rest

  legal_begun : IsLegal scans.begun.sizes scans.begun.seen
  legal_begun = subst (λ z. IsLegal z scans.begun.seen) (sym sizes_are) scans.begins.learns.legal

  went : Went scans.begun scans.loads after
  went =
      all_went scans.begun scans.loads after (ap (λ (k : Known). k.first) scans.begins.rest ∙ first) (ap (λ (k : Known). k.count) scans.begins.rest ∙ count) legal_begun scans.passes

  left_is : (scan_in scans.begun.sleep).left ≡ stack_of scans.begun.seen ++ out_of scans.begun.seen
  left_is = ap (λ (k : Known). (scan_in k.sleep).left) scans.begins.rest

  pub scan_others : OnlyOthers before.seen after.seen
  scan_others = others-then before.seen scans.begun.seen after.seen begun_learns went.others

  pub scan_legal : IsLegal before.sizes after.seen
  scan_legal = subst (λ z. IsLegal z after.seen) sizes_are went.legal

  pub scan_runs : is_running after.sleep ≡ true
  scan_runs = by_answer urgent scans.answer
    where
      by_answer : (o : Option ℕ) → MatchOption o (FoundNone scans.begun scans.loads after) (λ i. FoundUrgent i scans.loads after) → is_running after.sleep ≡ true
      by_answer None none = ap is_running none.scanned.scanning
      by_answer (Some i) some = ap is_running some.running

  module _ (alone : IsAlone after.seen) (calm : Calm before.seen) where
    begun_is : after.seen ≡ scans.begun.seen
    begun_is = none_came scans.begun.seen after.seen went.others alone

    same : after.seen ≡ before.seen
    same = none_came before.seen after.seen scan_others alone

    calm_now : Calm after.seen
    calm_now = subst Calm (sym same) calm

    flags_now : HaveFlags after.seen scans.loads
    flags_now = subst (λ x. HaveFlags x scans.loads) (sym begun_is) (went.flags alone)

    list_is : stack_of scans.begun.seen ++ out_of scans.begun.seen ≡ stack_of after.seen
    list_is =
        ap (λ x. stack_of x ++ out_of x) (sym begun_is) ∙ ap (λ l. stack_of after.seen ++ l) calm_now.none_out ∙ append-nil (stack_of after.seen)

    finds_none : FoundNone scans.begun scans.loads after → Finds before.sizes None idle after.seen
    finds_none none =
        let stack : indices_loaded scans.loads ≡ stack_of after.seen = none.all ∙ list_is in
        record {
          newest = sym (ap (find (λ i. is_urgent i after.seen)) (sym stack ∙ sym (append-nil (indices_loaded scans.loads))) ∙ find_behind after.seen scans.loads [] none.none flags_now);
          due = λ _. scans.idle_is ∙ idle_is-due after.seen scans.loads none.none flags_now ∙ ap (some_due after.seen) stack ∙ due-in_stack before.sizes after.seen scan_legal calm_now.announced calm_now.none_out;
        }

    finds_urgent : (i : ℕ) → FoundUrgent i scans.loads after → Finds before.sizes (Some i) idle after.seen
    finds_urgent i found =
        let passes : PassesAll (record { index = i; flags = found.flags } ∷ found.older) scans.begun after = subst (λ l. PassesAll l scans.begun after) found.newest scans.passes in
        let flags : HaveFlags after.seen (record { index = i; flags = found.flags } ∷ found.older) = subst (HaveFlags after.seen) found.newest flags_now in
        let order = in_order scans.begun found.older passes.0 found.none passes.1 in
        let stack : stack_of after.seen ≡ indices_loaded found.older ++ (i ∷ drop 1 (scan_in passes.0.sleep).left) = sym list_is ∙ sym left_is ∙ sym order ∙ ap (λ l. indices_loaded found.older ++ l) (was_first (record { index = i; flags = found.flags }) passes.0 after passes.3) in
        record {
          newest = sym (ap (find (λ k. is_urgent k after.seen)) stack ∙ find_behind after.seen found.older (i ∷ drop 1 (scan_in passes.0.sleep).left) found.none flags.1 ∙ find_at after.seen i (drop 1 (scan_in passes.0.sleep).left) found.now);
          due = λ (none : Some i ≡ None). absurd cc;
        }

    pub scan_finds : Finds before.sizes urgent idle after.seen
    scan_finds = by_answer urgent scans.answer
      where
        by_answer : (o : Option ℕ) → MatchOption o (FoundNone scans.begun scans.loads after) (λ i. FoundUrgent i scans.loads after) → Finds before.sizes o idle after.seen
        by_answer None none = finds_none none
        by_answer (Some i) some = finds_urgent i some
