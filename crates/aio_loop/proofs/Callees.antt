-- For those who write a runner: from what a callee did to what it owes.
use Rattle.std.proofs.Common.{◌≡◌, List, [], ◌++◌, refl, sym, ap, subst}
use Rattle.aio_model.specs.Loop.History.{Sizes, History}
use Rattle.aio_model.specs.Loop.Legal.{IsLegal}
use Rattle.aio_model.specs.declared.handlers.calls.HandlerCall.{HandlerCall}
use Rattle.aio_model.specs.declared.timers.calls.TimerCall.{TimerCall}
use Rattle.aio_handlers.specs.StandsFor as handlers_as
use Rattle.aio_timers.specs.StandsFor as timers_as
use Rattle.aio_core.specs.Known.{Known}
use Rattle.aio_bh.specs.Running.{SeatComesBack}
use Rattle.aio_bh.proofs.Lent.{SeatComesBack-nothing}
use Rattle.aio_loop.specs.declared.side.Side.{Side}
use Rattle.aio_loop.specs.Entering.{LoopLent, LoopEntered, EachPasses, is_callees_on_handlers, is_callees_on_timers, ChangesSide, RunsOneEntry}

-- the side was left alone
pub changes_nothing : (side : Side) → ChangesSide [] [] side side
changes_nothing side = record {
  handlers = λ calls stands. stands;
  timers = λ calls stands. stands;
  walking = refl;
  handler_room = refl;
  timer_room = refl;
}

-- the handlers alone were changed
pub changes_handlers : (on_handlers : List HandlerCall) (before after : Side) → ((calls : List HandlerCall) → handlers_as.StandsFor before.handlers calls → handlers_as.StandsFor after.handlers (on_handlers ++ calls)) → after.handlers.walking ≡ before.handlers.walking → after.handlers.room ≡ before.handlers.room → after.timers ≡ before.timers → ChangesSide on_handlers [] before after
changes_handlers on_handlers before after stands walking room same = record {
  handlers = stands;
  timers = λ calls stood. subst (λ t. timers_as.StandsFor t calls) (sym same) stood;
  walking = walking;
  handler_room = room;
  timer_room = ap (λ (t : timers_as.TimerList). t.room) same;
}

-- the timers alone were changed
pub changes_timers : (on_timers : List TimerCall) (before after : Side) → ((calls : List TimerCall) → timers_as.StandsFor before.timers calls → timers_as.StandsFor after.timers (on_timers ++ calls)) → after.timers.room ≡ before.timers.room → after.handlers ≡ before.handlers → ChangesSide [] on_timers before after
changes_timers on_timers before after stands room same = record {
  handlers = λ calls stood. subst (λ h. handlers_as.StandsFor h calls) (sym same) stood;
  timers = stands;
  walking = ap (λ (h : handlers_as.HandlerList). h.walking) same;
  handler_room = ap (λ (h : handlers_as.HandlerList). h.room) same;
  timer_room = room;
}

-- one entry, from what was made through the seat and what was done to the side
pub runs_entry : {R : Type 0} (does : R → LoopEntered → R → Type 0) (what : LoopLent) (runner runner_after : R) (side side_after : Side) (a b : Known) (made : History) (on_handlers : List HandlerCall) (on_timers : List TimerCall) → SeatComesBack made a b → EachPasses is_callees_on_handlers on_handlers → EachPasses is_callees_on_timers on_timers → ChangesSide on_handlers on_timers side side_after → does runner (record { what = what; made = made; on_handlers = on_handlers; on_timers = on_timers }) runner_after → RunsOneEntry does what runner side a runner_after side_after b
runs_entry does what runner runner_after side side_after a b made on_handlers on_timers back of_handlers of_timers changes did =
    record {
      made = made;
      back = back;
      enters = record {
        on_handlers = on_handlers;
        on_timers = on_timers;
        callees_on_handlers = of_handlers;
        callees_on_timers = of_timers;
        changes = changes;
        did = did;
      };
    }

-- what a callee makes where it leaves the seat alone
pub gives_back_nothing : (sizes : Sizes) (a : Known) → a.sizes ≡ sizes → IsLegal sizes a.seen → SeatComesBack [] a a
gives_back_nothing sizes a same legal =
    SeatComesBack-nothing a (subst (λ s. IsLegal s a.seen) (sym same) legal)

-- one entry whose callee leaves the seat and the side alone
pub runs_alone : {R : Type 0} (does : R → LoopEntered → R → Type 0) (what : LoopLent) (runner runner_after : R) (side : Side) (a : Known) (sizes : Sizes) → a.sizes ≡ sizes → IsLegal sizes a.seen → does runner (record { what = what; made = []; on_handlers = []; on_timers = [] }) runner_after → RunsOneEntry does what runner side a runner_after side a
runs_alone does what runner runner_after side a sizes same legal did =
    runs_entry does what runner runner_after side side a a [] [] [] (gives_back_nothing sizes a same legal) refl refl (changes_nothing side) did
