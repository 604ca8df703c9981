use Rattle.std.proofs.Common.{map}
use Rattle.bell_loop.specs.Entering.{acts_at, notes_left}
use Rattle.bell_loop.proofs.Polling.{lists_stay, none_waits_then, AnswersSeen-polled, none_lives_then, events_then, none_pending_then}
use Rattle.bell_loop.proofs.steps.poll.Goals as goal

pub returns-clause-lists : goal.returns-clause-lists
returns-clause-lists g c =
    lists_stay (λ d. d.lists) (λ l. acts_at (map (λ x. x.items) l.now)) (λ d. notes_left d.waiting d.ran d.more d.rang) c.poll.result c.args.callbacks.now c.poll.new.runner _ _ c.poll.ensures.polls c.requires.none

pub returns-clause-none : goal.returns-clause-none
returns-clause-none g c =
    none_waits_then (λ d. d.lists) (λ l. acts_at (map (λ x. x.items) l.now)) (λ d. notes_left d.waiting d.ran d.more d.rang) c.poll.result c.args.callbacks.now c.poll.new.runner _ _ c.poll.ensures.polls c.requires.none

pub returns-clause-answers : goal.returns-clause-answers
returns-clause-answers g c =
    AnswersSeen-polled (λ d. d.lists) (λ l. acts_at (map (λ x. x.items) l.now)) (λ d. notes_left d.waiting d.ran d.more d.rang) c.poll.result c.args.callbacks.now c.poll.new.runner _ _ c.poll.ensures.polls c.requires.none c.args.table.now.sizes c.requires.idles.of.sizes c.requires.names

pub returns-clause-none_lives : goal.returns-clause-none_lives
returns-clause-none_lives g c =
    none_lives_then (λ d. d.lists) (λ l. acts_at (map (λ x. x.items) l.now)) (λ d. notes_left d.waiting d.ran d.more d.rang) c.poll.result c.args.callbacks.now c.poll.new.runner _ _ c.poll.ensures.polls c.requires.none

pub returns-clause-events : goal.returns-clause-events
returns-clause-events g c =
    events_then (λ d. d.lists) (λ l. acts_at (map (λ x. x.items) l.now)) (λ d. notes_left d.waiting d.ran d.more d.rang) c.poll.result c.args.callbacks.now c.poll.new.runner _ _ c.poll.ensures.polls c.requires.none

pub returns-clause-none_pending : goal.returns-clause-none_pending
returns-clause-none_pending g c =
    none_pending_then (λ d. d.lists) (λ l. acts_at (map (λ x. x.items) l.now)) (λ d. notes_left d.waiting d.ran d.more d.rang) c.poll.result c.args.callbacks.now c.poll.new.runner _ _ c.poll.ensures.polls c.requires.none
