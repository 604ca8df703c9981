-- What a commit says once it has tested.
use Rattle.std.proofs.Common.{◌≡◌, ℕ, Bool, false, Option, None, MatchBool, MatchOption, sym, subst}
use Rattle.aio_model.specs.declared.loops.commits.Commit.{Commit}
use Rattle.aio_model.specs.declared.loops.commits.Commit.TheVariants.{Sleep, Awake}
use Rattle.aio_model.specs.declared.loops.commits.Why.TheVariants.{Urgent, Deadline, Notified}
use Rattle.aio_core.specs.Known.{Known}
use Rattle.aio_core.specs.Scans.{Scans}
use Rattle.aio_notify.specs.Watching.{LooksOn}
use Rattle.aio_notify.specs.Commits.{is_past, sleep_bound, ArmsAndTests, PastDeadline, Commits}

pub commits_tested : (watch events : ℕ) (deadline : Option ℕ) (now : ℕ) (answer : Commit) (urgent : Option ℕ) (idle notified : Bool) (before scanned looked after : Known) → Scans urgent idle before scanned → urgent ≡ None → is_past deadline now ≡ false → LooksOn watch events scanned looked → ArmsAndTests notified looked after → MatchBool notified (answer ≡ Awake Notified) (answer ≡ Sleep (sleep_bound deadline now idle)) → Commits watch events deadline now answer before after
commits_tested watch events deadline now answer urgent idle notified before scanned looked after scans no_urgent in_time on tests is =
    let past : PastDeadline watch events (sleep_bound deadline now idle) answer scanned after = record {
      set = None;
      is = (looked, on.looks, record { notified = notified; tests = tests; is = is });
    } in
    record {
      urgent = urgent;
      idle = idle;
      scanned = scanned;
      scans = scans;
      is = subst (λ o. MatchOption o (MatchBool (is_past deadline now) ((answer ≡ Awake Deadline) × (after ≡ scanned)) (PastDeadline watch events (sleep_bound deadline now idle) answer scanned after)) (λ i. (answer ≡ Awake (Urgent i)) × (after ≡ scanned))) (sym no_urgent) (subst (λ b. MatchBool b ((answer ≡ Awake Deadline) × (after ≡ scanned)) (PastDeadline watch events (sleep_bound deadline now idle) answer scanned after)) (sym in_time) past);
    }
