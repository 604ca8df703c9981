use Rattle.std.proofs.Common.{refl, ap, ◌∙◌, ◌&&◌}
use Rattle.co_loop.specs.Crews.{far}
use Rattle.co_loop.specs.declared.on_loop.CoLoop.{CoLoop}
use Rattle.co_loop.proofs.Turned.{turns_and_ends}
use Rattle.co_loop.proofs.Unchanged.{same_by_turn}
use Rattle.co_loop.proofs.on_loop.CoLoop.turn.Goals as goal

pub returns-clause-place : goal.returns-clause-place
returns-clause-place g c =
    let turns = c.turn-turned.ensures.turns in
    let end = c.end_turn.ensures.same in (
      end.0 ∙ same_by_turn _ (λ (e : CoLoop g.row.C.Denot g.row.E.Denot g.row.W.Denot g.row.C-Source.Denot). e.shared) (λ a e b d. d.0) _ _ _ _ _ _ _ _ _ _ turns,
      end.1 ∙ same_by_turn _ (λ (e : CoLoop g.row.C.Denot g.row.E.Denot g.row.W.Denot g.row.C-Source.Denot). e.env) (λ a e b d. d.1) _ _ _ _ _ _ _ _ _ _ turns,
      record {
        own = end.4.own ∙ same_by_turn _ (λ (e : CoLoop g.row.C.Denot g.row.E.Denot g.row.W.Denot g.row.C-Source.Denot). e.crew.own) (λ a e b d. d.2.own) _ _ _ _ _ _ _ _ _ _ turns;
        coroutines = end.4.coroutines ∙ same_by_turn _ (λ (e : CoLoop g.row.C.Denot g.row.E.Denot g.row.W.Denot g.row.C-Source.Denot). e.crew.coroutines) (λ a e b d. d.2.coroutines) _ _ _ _ _ _ _ _ _ _ turns;
      },
    )

pub returns-clause-turns : goal.returns-clause-turns
returns-clause-turns g c =
    let turns = c.turn-turned.ensures.turns in
    let same = same_by_turn _ (λ (e : CoLoop g.row.C.Denot g.row.E.Denot g.row.W.Denot g.row.C-Source.Denot). e.crew.coroutines) (λ a e b d. d.2.coroutines) _ _ _ _ _ _ _ _ _ _ turns in
    turns_and_ends _ (λ (e : CoLoop g.row.C.Denot g.row.E.Denot g.row.W.Denot g.row.C-Source.Denot). far e.crew) _ _ _ _ _ _ _ _ _ _ _ _ _ _ _ _ (ap (λ b. c.args.block && b) c.may_block.ensures) same turns c.end_turn.ensures.ends c.end_turn.ensures.handlers refl (c.end_turn.ensures.same.2, c.end_turn.ensures.same.3)
