use Rattle.std.proofs.Common.{ap, ◌∙◌, sym, subst}
use Rattle.aio_model.specs.Loop.Legal.{IsLegal}
use Rattle.aio_core.specs.Known.{Known}
use Rattle.aio_loop.proofs.Behind.{finds_running}
use Rattle.aio_loop.proofs.walking.begin_walk.Goals as goal

pub returns-clause-home : goal.returns-clause-home
returns-clause-home g c =
    let free = c.requires.home in
    let found = c.found_set-found in
    let same = found.ensures.same in
    let looked = finds_running _ _ _ c.args.home.now.seat.known found.new.home.seat.known found.ensures.finds in
    record {
      of_table = found.ensures.seat;
      rest = ap (λ (k : Known). k.phase) same ∙ free.rest;
      running = looked.running free.running;
      empty = ap (λ (k : Known). k.stage) same ∙ free.empty;
    }

pub returns-clause-legal : goal.returns-clause-legal
returns-clause-legal g c =
    let found = c.found_set-found in
    let looked = finds_running _ _ _ c.args.home.now.seat.known found.new.home.seat.known found.ensures.finds in
    subst (λ seen. IsLegal c.args.table.now.sizes seen) (sym looked.seen) c.requires.legal
