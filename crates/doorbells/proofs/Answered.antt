-- What a poll counts.
use Rattle.std.proofs.Common.{◌≡◌, ℕ, zero, suc, ◌<◌, ◌≤◌, Bool, true, false, ◌&&◌, cond, eqb, List, [], ◌∷◌, ◌++◌, length, refl, sym, ap, ◌∙◌, subst, append_assoc, arith, inl, inr, ◌⊎◌}
use Rattle.aio_model.specs.declared.loops.flags.Flags.{Flags}
use Rattle.aio_model.specs.Loop.FlagsWord.{bit}
use Rattle.aio_model.specs.Loop.History.{Sizes, ToCall, Take, History}
use Rattle.aio_model.specs.Loop.Legal.{IsLegal}
use Rattle.aio_model.specs.Loop.Frame.{Ended, Entered, DoesEntries, are_of_callback}
use Rattle.aio_model.specs.Loop.Calls.{entry_time, entry_times, dequeue_times, stops, AwaitsCall}
use Rattle.aio_model.proofs.Rounds.{legal_cut}
use Rattle.aio_model.proofs.Awaiting.{awaits_still, none_dequeued, dequeue_times-append, some_entry-parts, some_entry-both}
use Rattle.aio_core.specs.Known.{Known}
use Rattle.aio_core.specs.Calls.{TableState, SeatState}
use Rattle.aio_bh.specs.declared.polled.Polled.{Polled}
use Rattle.aio_bh.specs.Enqueuing.{enqueue_entries}
use Rattle.aio_bh.specs.Polling.{Polls}
use Rattle.aio_bh.specs.Serving.{WasMade}
use Rattle.aio_bh.proofs.Served.{served, never_nests, callback_awaits}
use Rattle.doorbells.specs.Responding.{is_new, count_of, answers, PassesOn, CountsOne, AreFit}
use Rattle.doorbells.specs.Rings.{Rings}
use Rattle.doorbells.specs.Answering.{Counted, AnswersDoorbells, AnswersTwice, AnswersOne}
use Rattle.doorbells.proofs.Rang.{is_new-parts, none_dequeued_by}
use Rattle.aio_model.specs.Counts.{one_more}

time_of : (b x : Bool) → cond b (bit x) 0 ≡ bit (b && x)
time_of true x = refl
time_of false x = refl

time_is : (bell : ℕ) (e : Entered) → entry_time bell e ≡ bit (answers bell e)
time_is bell e = time_of e.lent.first (eqb bell e.lent.bh)

-- how a count goes on over some entries
record Tallies (bell : ℕ) (log : List Entered) (before after : List ℕ) : Type 0 where
  long : length after ≡ length before
  none : entry_times bell log ≡ 0 → count_of after bell ≡ count_of before bell
  once : entry_times bell log ≡ 1 → count_of after bell ≡ one_more (count_of before bell)

tally : (bell : ℕ) (e : Entered) (log : List Entered) (before mid after : List ℕ) → bell < length before → Tallies bell log before mid → CountsOne e mid after → Tallies bell (e ∷ log) before after
tally bell e log before mid after below so_far counts = by (answers bell e) refl (counts.each bell (omega (arith, below, so_far.long)))
  where
    by : (b : Bool) → answers bell e ≡ b → count_of after bell ≡ cond (answers bell e) (one_more (count_of mid bell)) (count_of mid bell) → Tallies bell (e ∷ log) before after
    by true is each =
        let time : entry_time bell e ≡ 1 = time_is bell e ∙ ap bit is in
        let now : count_of after bell ≡ one_more (count_of mid bell) = each ∙ ap (λ b. cond b (one_more (count_of mid bell)) (count_of mid bell)) is in
        record {
          long = counts.long ∙ so_far.long;
          none = λ h. absurd (omega (arith, h, time));
          once = λ h. now ∙ ap one_more (so_far.none (omega (arith, h, time)));
        }
    by false is each =
        let time : entry_time bell e ≡ 0 = time_is bell e ∙ ap bit is in
        let now : count_of after bell ≡ count_of mid bell = each ∙ ap (λ b. cond b (one_more (count_of mid bell)) (count_of mid bell)) is in
        record {
          long = counts.long ∙ so_far.long;
          none = λ h. now ∙ so_far.none (omega (arith, h, time));
          once = λ h. now ∙ so_far.once (omega (arith, h, time));
        }

-- a new ring by a callback, among these entries
record IsPassed (to : ℕ) (log : List Entered) : Type 0 where
  found : Flags
  new : is_new found ≡ true
  made : WasMade (enqueue_entries to ToCall 64 found) log

passed_by : (b n : Bool) (to passed after : ℕ) (made : History) → PassesOn b to made passed after → (after ≡ passed) ⊎ ((found : Flags) × (is_new found ≡ true) × (made ≡ enqueue_entries to ToCall 64 found))
passed_by false n to passed after made h = inl h.1
passed_by true n to passed after made h = by (is_new h.0) refl
  where
    by : (b : Bool) → is_new h.0 ≡ b → (after ≡ passed) ⊎ ((found : Flags) × (is_new found ≡ true) × (made ≡ enqueue_entries to ToCall 64 found))
    by true is = inr (h.0, is, h.1)
    by false is = inl (h.2 ∙ ap (λ b. cond b (one_more passed) passed) is)

zero_or_one : (n : ℕ) → n ≤ 1 → (n ≡ 1) ⊎ (n ≡ 0)
zero_or_one zero h = inr refl
zero_or_one (suc zero) h = inl refl
zero_or_one (suc (suc n)) h = absurd (omega (arith, h))

module _ {R : Type 0} (does : R → Entered → R → Type 0) (counts : R → List ℕ) (passed from to : R → ℕ)
    (step : (x y : R) (e : Entered) → does x e y → CountsOne e (counts x) (counts y) × PassesOn (answers (from x) e) (to x) e.made (passed x) (passed y) × (from y ≡ from x) × (to y ≡ to x) × (e.answer ≡ Ended)) where
  pub to_same : (log : List Entered) (r s : R) → DoesEntries does r log s → to s ≡ to r
  to_same [] r s runs = ap to runs
  to_same (e ∷ log) r s runs = (step runs.0 s e runs.2).3 ∙ to_same log r runs.0 runs.1

  tallied : (bell : ℕ) (log : List Entered) (r s : R) → bell < length (counts r) → DoesEntries does r log s → Tallies bell log (counts r) (counts s)
  tallied bell [] r s below runs =
      record { long = ap (λ x. length (counts x)) runs; none = λ _. ap (λ x. count_of (counts x) bell) runs; once = λ h. absurd (omega (arith, h)) }
  tallied bell (e ∷ log) r s below runs =
      tally bell e log (counts r) (counts runs.0) (counts s) below (tallied bell log r runs.0 below runs.1) (step runs.0 s e runs.2).0

  passing : (log : List Entered) (r s : R) → DoesEntries does r log s → passed r < passed s → IsPassed (to r) log
  passing [] r s runs more = absurd (omega (arith, more, ap passed runs))
  passing (e ∷ log) r s runs more =
      let mid = runs.0 in
      let same : to mid ≡ to r = to_same log r mid runs.1 in
      elim (passed_by (answers (from mid) e) true (to mid) (passed mid) (passed s) e.made (step mid s e runs.2).1) as (λ _. IsPassed (to r) (e ∷ log)) [
        | inl stays ↦
            let before = passing log r mid runs.1 (omega (arith, more, stays)) in
            record { found = before.found; new = before.new; made = inr before.made }
        | inr new ↦
            record { found = new.0; new = new.1; made = inl (new.2 ∙ ap (λ n. enqueue_entries n ToCall 64 new.0) same) }
      ]

  counted_of : R → Counted
  counted_of r = record { answered = counts r; passed_on = passed r }

  pub answered : (polled : Polled) (r s : R) (a b : Known) → AreFit a.sizes.handles (counts r) (to r) → Polls does polled r a s b → AnswersDoorbells a.sizes (to r) a.seen b.seen (record { answered = counts r; passed_on = passed r }) (record { answered = counts s; passed_on = passed s })
  answered polled r s a b fit polls =
      let serves = served does polled r s a b polls (never_nests does (λ x y e did. (step x y e did).4) polls.end.log r s polls.runs) in
      let P : History = serves.others ++ a.seen in
      let legal : IsLegal a.sizes b.seen = polls.goes_on.legal in
      let legal_P : IsLegal a.sizes P = (legal_cut a.sizes serves.later (Take ∷ P) (subst (IsLegal a.sizes) serves.seen legal)).1 in
      let tallies : (bell : ℕ) → bell < a.sizes.handles → Tallies bell polls.end.log (counts r) (counts s) = λ bell handle. tallied bell polls.end.log r s (omega (arith, handle, fit.counts)) polls.runs in
      record {
        others = serves.others;
        not_home = serves.not_home;
        later = serves.later;
        seen = serves.seen;
        most = λ bell handle.
            elim (zero_or_one (entry_times bell polls.end.log) (serves.most bell handle)) as (λ _. (count_of (counts s) bell ≡ one_more (count_of (counts r) bell)) ⊎ (count_of (counts s) bell ≡ count_of (counts r) bell)) [
              | inl one ↦ inl ((tallies bell handle).once one)
              | inr none ↦ inr ((tallies bell handle).none none)
            ];
        once = λ bell newer older handle is awaits none still still_later.
            (tallies bell handle).once
            (serves.once bell handle (subst (λ l. AwaitsCall bell l) (sym is) (awaits_still a.sizes bell handle newer older (subst (IsLegal a.sizes) is legal_P) still none awaits)) still_later);
        none = λ bell handle put. (tallies bell handle).none (serves.none bell handle put);
        passed = λ more still.
            let pass = passing polls.end.log r s polls.runs more in
            let parts = is_new-parts pass.found pass.new in
            callback_awaits a.sizes a.seen b.seen polls.end.log (to r) pass.found serves fit.to_handle legal pass.made parts.0 parts.1 still;
      }

-- two polls, one after the other
pub answered_twice : (sizes : Sizes) (to : ℕ) (a m b : History) (counted_a counted_m counted_b : Counted) → to < sizes.handles → AnswersDoorbells sizes to a m counted_a counted_m → AnswersDoorbells sizes to m b counted_m counted_b → AnswersTwice sizes to a b counted_a counted_b
answered_twice sizes to a m b counted_a counted_m counted_b handle first second = record {
  seen_between = m;
  counted_between = counted_m;
  first = first;
  second = second;
  passed = λ more still_first still_others still_later.
      second.once to second.others m handle refl (first.passed more still_first) (none_dequeued to second.others (ap are_of_callback second.not_home)) still_others still_later;
}

-- two rings by the home, and a poll
pub one_of_two : (table : TableState) (bell : ℕ) (found again : Flags) (a m n : SeatState) (after : History) (to : ℕ) (counted_a counted_b : Counted) → a.known.first ≡ 64 → bell < table.sizes.handles → (first : Rings table bell found a m) → (second : Rings table bell again m n) → AnswersDoorbells table.sizes to n.known.seen after counted_a counted_b → AnswersOne bell (is_new found ≡ true) a.known.seen after counted_a counted_b
one_of_two table bell found again a m n after to counted_a counted_b home_is handle first second polls =
    let s = first.stands.stands.stands in
    let t = second.stands.stands.stands in
    let n_is : n.known.seen ≡ t.rest ++ (s.rest ++ a.known.seen) = t.longer ∙ ap (λ l. t.rest ++ l) s.longer in
    let P : polls.others ++ n.known.seen ≡ (polls.others ++ (t.rest ++ s.rest)) ++ a.known.seen = ap (λ l. polls.others ++ l) (n_is ∙ sym (append_assoc t.rest s.rest a.known.seen)) ∙ sym (append_assoc polls.others (t.rest ++ s.rest) a.known.seen) in
    let newer : polls.others ++ n.known.seen ≡ (polls.others ++ t.rest) ++ m.known.seen = ap (λ l. polls.others ++ l) t.longer ∙ sym (append_assoc polls.others t.rest m.known.seen) in
    record {
      between = polls.later ++ (Take ∷ (polls.others ++ (t.rest ++ s.rest)));
      seen = polls.seen ∙ ap (λ l. polls.later ++ (Take ∷ l)) P ∙ sym (append_assoc polls.later (Take ∷ (polls.others ++ (t.rest ++ s.rest))) a.known.seen);
      once = λ new still.
          let one = some_entry-parts (stops bell) polls.later (Take ∷ (polls.others ++ (t.rest ++ s.rest))) still in
          let two = some_entry-parts (stops bell) polls.others (t.rest ++ s.rest) one.1 in
          let three = some_entry-parts (stops bell) t.rest s.rest two.1 in
          let awaits : AwaitsCall bell m.known.seen = first.awaits new three.1 (none_dequeued_by table bell bell found a m home_is first) in
          let none : dequeue_times bell (polls.others ++ t.rest) ≡ 0 = omega (arith, dequeue_times-append bell polls.others t.rest, none_dequeued bell polls.others (ap are_of_callback polls.not_home), none_dequeued_by table bell bell again m n (first.back.first ∙ home_is) second) in
          polls.once bell (polls.others ++ t.rest) m.known.seen handle newer awaits none (some_entry-both (stops bell) polls.others t.rest two.0 three.0) one.0;
    }
