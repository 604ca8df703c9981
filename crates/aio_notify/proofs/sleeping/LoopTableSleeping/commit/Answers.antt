use Rattle.std.proofs.Common.{◌≡◌, MatchBool, refl, sym, ap, ◌∙◌, subst, false}
use Rattle.aio_model.specs.declared.loops.commits.Commit.{Commit}
use Rattle.aio_model.specs.declared.loops.commits.Commit.TheVariants.{Sleep, Awake}
use Rattle.aio_model.specs.declared.loops.commits.Why.TheVariants.{Notified}
use Rattle.aio_core.specs.Known.{is_running}
use Rattle.aio_notify.specs.Commits.{is_past, sleep_bound}
use Rattle.aio_notify.proofs.Looks.{none_found, scan_watches, finds_running, same_at_event, same_at_test}
use Rattle.aio_notify.proofs.Tested.{commits_tested}
use Rattle.aio_notify.proofs.sleeping.LoopTableSleeping.commit.Goals as goal

pub first_set-requires-clause-fresh : goal.first_set-requires-clause-fresh
first_set-requires-clause-fresh g c =
    scan_watches _ _ c.args.home.now.seat.known c.scan-scanned.new.home.seat.known c.scan-scanned.ensures.scans

pub returns-in-Some-first_set-clause-awake : goal.returns-in-Some-first_set-clause-awake
returns-in-Some-first_set-clause-awake g c =
    let before = c.args.home.now.seat.known in
    let scanned = c.scan-scanned.new.home.seat.known in
    ap is_running (finds_running c.args.watch c.args.self.now.sizes.events c.in-Some-first_set.event scanned c.first_set.new.home.seat.known (none_found _ _ before scanned c.scan-scanned.ensures.scans c.in_default.is) (scan_watches _ _ before scanned c.scan-scanned.ensures.scans) c.in-Some-first_set.ensures.looks)

pub returns-in-Some-first_set-clause-same : goal.returns-in-Some-first_set-clause-same
returns-in-Some-first_set-clause-same g c =
    same_at_event c.args.watch c.args.self.now.sizes.events c.in-Some-first_set.event _ _ c.args.home.now.seat.known c.scan-scanned.new.home.seat.known c.first_set.new.home.seat.known c.scan-scanned.ensures.scans c.in-Some-first_set.ensures.looks

pub returns-then-is_notified-clause-commits : goal.returns-then-is_notified-clause-commits
returns-then-is_notified-clause-commits g c =
    let in_time : is_past c.args.deadline c.args.now ≡ false = sym c.has_passed.ensures ∙ c.if-has_passed.false in
    let answer : Commit = Awake Notified in
    commits_tested c.args.watch c.args.self.now.sizes.events c.args.deadline c.args.now answer _ _ c.is_notified.result c.args.home.now.seat.known c.scan-scanned.new.home.seat.known c.first_set.new.home.seat.known c.is_notified.new.home.seat.known c.scan-scanned.ensures.scans c.in_default.is in_time c.in_default-first_set.ensures.looks c.is_notified.ensures.tests (subst (λ b. MatchBool b (answer ≡ Awake Notified) (answer ≡ Sleep (sleep_bound c.args.deadline c.args.now c.scan-scanned.result.idle))) (sym c.if-is_notified.true) refl)

pub returns-then-is_notified-clause-same : goal.returns-then-is_notified-clause-same
returns-then-is_notified-clause-same g c =
    same_at_test c.args.watch c.args.self.now.sizes.events _ _ c.is_notified.result c.args.home.now.seat.known c.scan-scanned.new.home.seat.known c.first_set.new.home.seat.known c.is_notified.new.home.seat.known c.scan-scanned.ensures.scans c.in_default-first_set.ensures.looks c.is_notified.ensures.tests

pub returns-clause-commits : goal.returns-clause-commits
returns-clause-commits g c =
    let in_time : is_past c.args.deadline c.args.now ≡ false = sym c.has_passed.ensures ∙ c.if-has_passed.false in
    let answer : Commit = Sleep c.bound.result in
    commits_tested c.args.watch c.args.self.now.sizes.events c.args.deadline c.args.now answer _ _ c.is_notified.result c.args.home.now.seat.known c.scan-scanned.new.home.seat.known c.first_set.new.home.seat.known c.is_notified.new.home.seat.known c.scan-scanned.ensures.scans c.in_default.is in_time c.in_default-first_set.ensures.looks c.is_notified.ensures.tests (subst (λ b. MatchBool b (answer ≡ Awake Notified) (answer ≡ Sleep (sleep_bound c.args.deadline c.args.now c.scan-scanned.result.idle))) (sym c.if-is_notified.false) (ap Sleep c.bound.ensures))

pub returns-clause-same : goal.returns-clause-same
returns-clause-same g c =
    same_at_test c.args.watch c.args.self.now.sizes.events _ _ c.is_notified.result c.args.home.now.seat.known c.scan-scanned.new.home.seat.known c.first_set.new.home.seat.known c.is_notified.new.home.seat.known c.scan-scanned.ensures.scans c.in_default-first_set.ensures.looks c.is_notified.ensures.tests
