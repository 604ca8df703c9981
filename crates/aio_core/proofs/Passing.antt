-- What a scan has found, from what its steps tell.
use Rattle.std.proofs.Common.{◌≡◌, ◌⊎◌, ℕ, ◌≤◌, Bool, true, false, not, cond, ◌&&◌, ◌||◌, eqb, Option, Some, None, MatchOption, MatchBool, List, [], ◌∷◌, ◌++◌, drop, length, inr, refl, sym, ap, ◌∙◌, subst, ⊎_elim, arith, append-nil, append_assoc}
use Rattle.std.proofs.lemmas.Bool.{and_parts, and_from, lt-ltb, le-leb, eqb-false, not_from_false}
use Rattle.aio_model.specs.declared.loops.flags.Flags.{Flags}
use Rattle.aio_model.specs.Loop.FlagsWord.{flags_in}
use Rattle.aio_model.specs.Loop.History.{Sizes}
use Rattle.aio_model.specs.Loop.Flags.{are_due, are_urgent, is_urgent}
use Rattle.aio_model.specs.Loop.Lists.{stack_of, out_of}
use Rattle.aio_model.proofs.FlagsWords.{flags_in-word_of}
use Rattle.aio_core.specs.Words.{index_count}
use Rattle.aio_core.specs.HomeState.{are_within}
use Rattle.aio_core.specs.Known.{Stage, Scan, Sleep, Running, Scanning, Known}
use Rattle.aio_core.specs.Standing.{is_empty, without_first}
use Rattle.aio_core.specs.SleepSteps.{scan_of, scan_in, is_scanning, made_after, BeginsScan, ScansNext, ScansFlags}
use Rattle.aio_core.specs.Scans.{ScanFrom, ScansOn, ScanIsOver, ScanMeets, SameButSleep, LookedAt, Passes, PassesAll, indices_loaded, IsAhead, FoundNone, FoundUrgent, Scans}
use Rattle.aio_core.specs.Plays.{FlagsAreScanned}

within_lifted : (sizes : Sizes) (word : ℕ) (more : List ℕ) (b : Bool) → eqb word 0 ≡ b → word ≤ index_count sizes → are_within sizes more ≡ true → are_within sizes (cond b more (word ∷ more)) ≡ true
within_lifted sizes word more true is low h = h
within_lifted sizes word more false is low h =
    and_from _ _ (lt-ltb 0 word (let no_end = eqb-false word 0 is in omega arith)) (and_from _ _ (le-leb word (index_count sizes) low) h)

within_rest : (sizes : Sizes) (words : List ℕ) → are_within sizes words ≡ true → are_within sizes (drop 1 words) ≡ true
within_rest sizes [] h = h
within_rest sizes (w ∷ words) h = (and_parts _ _ (and_parts _ _ h).1).1

-- a load of what follows, and one of the flags
module _ (i word found : ℕ) (f : Flags) (slices ahead : List ℕ) (v m w : Known) (at : IsAhead slices v) (next : ScansNext i word (drop 1 (scan_in v.sleep).stage.slices) (scan_in v.sleep) v m) (told : FlagsAreScanned i found (scan_in m.sleep) m w) (is : f ≡ flags_in found) (lifts : ahead ≡ without_first word (drop 1 slices)) where
  same_flags : told.flags ≡ f
  same_flags = sym (flags_in-word_of told.flags) ∙ ap flags_in (sym told.found_is) ∙ sym is

  scans : ScansFlags i f (scan_in m.sleep) m w
  scans = subst (λ g. ScansFlags i g (scan_in m.sleep) m w) same_flags told.scans

  mid_scan : scan_in m.sleep ≡ record (scan_in v.sleep) { stage = record { slices = without_first word (drop 1 (scan_in v.sleep).stage.slices); hand = Some i; job = None } }
  mid_scan = ap (λ (k : Known). scan_in k.sleep) next.rest

  mid_slices : (scan_in m.sleep).stage.slices ≡ ahead
  mid_slices = ap (λ (s : Scan). s.stage.slices) mid_scan ∙ ap (λ (s : Stage). without_first word (drop 1 s.slices)) at.ahead ∙ sym lifts

  after_sleep : are_urgent f ≡ false → w.sleep ≡ Scanning (made_after m) (record (scan_in m.sleep) { stage = record (scan_in m.sleep).stage { hand = None }; left = drop 1 (scan_in m.sleep).left })
  after_sleep calm = ap (λ (k : Known). k.sleep) scans.rest ∙ ap (λ (b : Bool). cond b Running (Scanning (made_after m) (record (scan_in m.sleep) { stage = record (scan_in m.sleep).stage { hand = None }; left = drop 1 (scan_in m.sleep).left }))) calm

  still_ahead : are_urgent f ≡ false → IsAhead ahead w
  still_ahead calm =
      let asleep = after_sleep calm in
      let S : Scan = record (scan_in m.sleep) { stage = record (scan_in m.sleep).stage { hand = None }; left = drop 1 (scan_in m.sleep).left } in
      let scan : scan_in w.sleep ≡ S = ap scan_in asleep in
      let count : length w.did ≡ made_after m = ap (λ (k : Known). length k.did) scans.rest in
      let sizes : w.sizes ≡ v.sizes = ap (λ (k : Known). k.sizes) scans.rest ∙ ap (λ (k : Known). k.sizes) next.rest in
      let stage : S.stage ≡ record { slices = ahead; hand = None; job = None } = ap (λ (s : Scan). record s.stage { hand = None }) mid_scan ∙ ap (λ (l : List ℕ). record { slices = l; hand = None; job = None }) (sym (ap (λ (s : Scan). s.stage.slices) mid_scan) ∙ mid_slices) in
      record {
        scanning = asleep ∙ ap (λ n. Scanning n S) (sym count) ∙ ap (λ s. Scanning (length w.did) s) (sym scan);
        ahead = ap (λ (s : Scan). s.stage) scan ∙ stage;
        within = subst (λ z. are_within z ahead ≡ true) (sym sizes) (subst (λ l. are_within v.sizes l ≡ true) (sym lifts) (within_lifted v.sizes word (drop 1 slices) (eqb word 0) refl next.below (within_rest v.sizes slices at.within)));
        left = ap is_empty (sym mid_slices) ∙ scans.left ∙ ap (λ (s : Scan). is_empty s.left) (sym scan);
      }

  pub passes_of : Passes (record { index = i; flags = f }) v w × (are_urgent f ≡ false → IsAhead ahead w)
  passes_of = (record { lifted = m; found = word; next = next; flags = scans }, still_ahead)

-- the index at hand was the first that was left
pub left_is : (looked : LookedAt) (v w : Known) → Passes looked v w → are_urgent looked.flags ≡ false → (scan_in v.sleep).left ≡ looked.index ∷ (scan_in w.sleep).left
left_is looked v w passes calm =
    let m = passes.lifted in
    let same : (scan_in m.sleep).left ≡ (scan_in v.sleep).left = ap (λ (k : Known). (scan_in k.sleep).left) passes.next.rest in
    let asleep : w.sleep ≡ Scanning (made_after m) (record (scan_in m.sleep) { stage = record (scan_in m.sleep).stage { hand = None }; left = drop 1 (scan_in m.sleep).left }) = ap (λ (k : Known). k.sleep) passes.flags.rest ∙ ap (λ (b : Bool). cond b Running (Scanning (made_after m) (record (scan_in m.sleep) { stage = record (scan_in m.sleep).stage { hand = None }; left = drop 1 (scan_in m.sleep).left }))) calm in
    sym same ∙ passes.flags.was_left ∙ ap (λ (l : List ℕ). looked.index ∷ l) (sym (ap (λ (s : Sleep). (scan_in s).left) asleep))

abbrev Goal : Bool → Option ℕ → Option ℕ → Bool → Bool → List ℕ → List ℕ → Known → Known → Type 0
Goal result urgent urgent_after idle idle_after words words_after v w =
    MatchBool result (ScansOn urgent urgent_after idle idle_after words_after v w) (ScanIsOver urgent urgent_after idle idle_after words v w ⊎ ScanMeets urgent_after idle idle_after v w)

pub passed_on : (result : Bool) (urgent urgent_after : Option ℕ) (idle idle_after : Bool) (words words_after : List ℕ) (v w : Known) (i : ℕ) (f : Flags) → Passes (record { index = i; flags = f }) v w × (are_urgent f ≡ false → IsAhead words_after w) → result ≡ not (are_urgent f) → urgent_after ≡ cond (are_urgent f) (Some i) urgent → idle_after ≡ (idle || (are_due f && f.idle)) → Goal result urgent urgent_after idle idle_after words words_after v w
passed_on result urgent urgent_after idle idle_after words words_after v w i f passes goes met noted =
    by (are_urgent f) refl result goes
  where
    by : (b : Bool) → are_urgent f ≡ b → (r : Bool) → r ≡ not (are_urgent f) → Goal r urgent urgent_after idle idle_after words words_after v w
    by true is true e = absurd (let no_on : true ≡ false = e ∙ ap not is in cc)
    by true is false e =
        inr (record { looked = record { index = i; flags = f }; passes = passes.0; urgent = is; met = met ∙ ap (λ (b : Bool). cond b (Some i) urgent) is; noted = noted })
    by false is true e =
        record { looked = record { index = i; flags = f }; passes = passes.0; calm = is; same = met ∙ ap (λ (b : Bool). cond b (Some i) urgent) is; noted = noted; at = passes.1 is; left = left_is (record { index = i; flags = f }) v w passes.0 is }
    by false is false e = absurd (let no_end : false ≡ true = e ∙ ap not is in cc)

-- What stays.

pub to_same : (v w x : Known) → w ≡ x → x ≡ record v { seen = x.seen; did = x.did; sleep = x.sleep } → SameButSleep v w
to_same v w x e same =
    e ∙ same ∙ sym (ap (λ (k : Known). record v { seen = k.seen; did = k.did; sleep = k.sleep }) e)

pub same_then : (b v w : Known) → SameButSleep b v → SameButSleep v w → SameButSleep b w
same_then b v w first second =
    second ∙ ap (λ (k : Known). record k { seen = w.seen; did = w.did; sleep = w.sleep }) first

passes_same : (looked : LookedAt) (v w : Known) → Passes looked v w → SameButSleep v w
passes_same looked v w passes =
    same_then v passes.lifted w (to_same v passes.lifted _ passes.next.rest refl) (to_same passes.lifted w _ passes.flags.rest refl)

-- The loop.

scanning_is : (words : List ℕ) (v : Known) → IsAhead words v → is_scanning v.sleep ≡ true
scanning_is words v at = ap is_scanning at.scanning

pub scan_begins : (before begun : Known) (head : ℕ) (words : List ℕ) (urgent : Option ℕ) (idle : Bool) → BeginsScan head before begun → are_within before.sizes before.stage.slices ≡ true → words ≡ without_first head before.stage.slices → urgent ≡ None → idle ≡ false → ScanFrom before words urgent idle begun
scan_begins before begun head words urgent idle begins within is none_yet calm =
    let asleep : begun.sleep ≡ Scanning (made_after before) (scan_of head before.stage begun.seen) = ap (λ (k : Known). k.sleep) begins.rest in
    let scan : scan_in begun.sleep ≡ scan_of head before.stage begun.seen = ap scan_in asleep in
    let count : length begun.did ≡ made_after before = ap (λ (k : Known). length k.did) begins.rest in
    let sizes : begun.sizes ≡ before.sizes = ap (λ (k : Known). k.sizes) begins.rest in
    record {
      head = head;
      begun = begun;
      begins = begins;
      same = to_same before begun _ begins.rest refl;
      so_far = record {
        loads = [];
        passes = refl;
        idle_is = calm;
        none = refl;
        none_yet = none_yet;
        at = record {
          scanning = asleep ∙ ap (λ n. Scanning n (scan_of head before.stage begun.seen)) (sym count) ∙ ap (λ s. Scanning (length begun.did) s) (sym scan);
          ahead = ap (λ (s : Scan). s.stage) scan ∙ ap (λ (l : List ℕ). record { slices = l; hand = None; job = None }) (sym is);
          within = subst (λ z. are_within z words ≡ true) (sym sizes) (subst (λ l. are_within before.sizes l ≡ true) (sym is) (within_lifted before.sizes head before.stage.slices (eqb head 0) refl begins.below within));
          left = ap is_empty is ∙ begins.left ∙ ap (λ (s : Scan). is_empty s.left) (sym scan);
        };
        rest = ap (λ (s : Scan). s.left) scan;
      };
    }

pub scan_goes_on : (before : Known) (words words_after : List ℕ) (urgent urgent_after : Option ℕ) (idle idle_after : Bool) (v w : Known) → ScanFrom before words urgent idle v → ScansOn urgent urgent_after idle idle_after words_after v w → ScanFrom before words_after urgent_after idle_after w
scan_goes_on before words words_after urgent urgent_after idle idle_after v w from on =
    let far = from.so_far in
    record {
      head = from.head;
      begun = from.begun;
      begins = from.begins;
      same = same_then before v w from.same (passes_same on.looked v w on.passes);
      so_far = record {
        loads = on.looked ∷ far.loads;
        passes = (v, far.passes, scanning_is words v far.at, on.passes);
        idle_is = on.noted ∙ ap (λ (b : Bool). b || (are_due on.looked.flags && on.looked.flags.idle)) far.idle_is;
        none = and_from _ _ (not_from_false _ on.calm) far.none;
        none_yet = on.same ∙ far.none_yet;
        at = on.at;
        rest = append_assoc (indices_loaded far.loads) (on.looked.index ∷ []) (scan_in w.sleep).left ∙ ap (λ (l : List ℕ). indices_loaded far.loads ++ l) (sym on.left) ∙ far.rest;
      };
    }

none_left : (l : List ℕ) → is_empty [] ≡ is_empty l → l ≡ []
none_left [] e = refl
none_left (x ∷ l) e = absurd cc

pub scan_ends : (before : Known) (words : List ℕ) (urgent urgent_after : Option ℕ) (idle idle_after : Bool) (v w : Known) → ScanFrom before words urgent idle v → ScanIsOver urgent urgent_after idle idle_after words v w ⊎ ScanMeets urgent_after idle idle_after v w → Scans urgent_after idle_after before w
scan_ends before words urgent urgent_after idle idle_after v w from ends = ⊎_elim over met ends
  where
    over : ScanIsOver urgent urgent_after idle idle_after words v w → Scans urgent_after idle_after before w
    over is =
        let far = from.so_far in
        let empty_left : (scan_in v.sleep).left ≡ [] = none_left (scan_in v.sleep).left (subst (λ l. is_empty l ≡ is_empty (scan_in v.sleep).left) is.none far.at.left) in
        let all : indices_loaded far.loads ≡ stack_of from.begun.seen ++ out_of from.begun.seen = sym (append-nil (indices_loaded far.loads)) ∙ ap (λ (l : List ℕ). indices_loaded far.loads ++ l) (sym empty_left) ∙ far.rest in
        record {
          head = from.head;
          begun = from.begun;
          loads = far.loads;
          begins = from.begins;
          rest = subst (SameButSleep before) (sym is.same) from.same;
          passes = subst (λ k. PassesAll far.loads from.begun k) (sym is.same) far.passes;
          idle_is = is.same_idle ∙ far.idle_is;
          answer = subst (λ o. MatchOption o (FoundNone from.begun far.loads w) (λ i. FoundUrgent i far.loads w)) (sym (is.same_urgent ∙ far.none_yet)) (record { all = all; none = far.none; scanned = subst (IsAhead []) (sym is.same) (subst (λ l. IsAhead l v) is.none far.at) });
        }

    met : ScanMeets urgent_after idle idle_after v w → Scans urgent_after idle_after before w
    met is =
        let far = from.so_far in
        let now : is_urgent is.looked.index w.seen ≡ true = ap are_urgent (sym is.passes.flags.were) ∙ is.urgent in
        let asleep : w.sleep ≡ Running = ap (λ (k : Known). k.sleep) is.passes.flags.rest ∙ ap (λ (b : Bool). cond b Running (Scanning (made_after is.passes.lifted) (record (scan_in is.passes.lifted.sleep) { stage = record (scan_in is.passes.lifted.sleep).stage { hand = None }; left = drop 1 (scan_in is.passes.lifted.sleep).left }))) is.urgent in
        record {
          head = from.head;
          begun = from.begun;
          loads = is.looked ∷ far.loads;
          begins = from.begins;
          rest = same_then before v w from.same (passes_same is.looked v w is.passes);
          passes = (v, far.passes, scanning_is words v far.at, is.passes);
          idle_is = is.noted ∙ ap (λ (b : Bool). b || (are_due is.looked.flags && is.looked.flags.idle)) far.idle_is;
          answer = subst (λ o. MatchOption o (FoundNone from.begun (is.looked ∷ far.loads) w) (λ i. FoundUrgent i (is.looked ∷ far.loads) w)) (sym is.met) (record { flags = is.looked.flags; older = far.loads; newest = refl; urgent = is.urgent; now = now; none = far.none; running = asleep });
        }
