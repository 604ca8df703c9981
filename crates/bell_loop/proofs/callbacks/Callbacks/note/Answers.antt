use Rattle.std.proofs.Common.{◌∙◌, sym, subst, ◌++◌, ◌∷◌, []}
use Rattle.std.proofs.lemmas.Bool.{leb-true, leb-false}
use Rattle.bell_loop.specs.Entering.{NamesCalled}
use Rattle.bell_loop.proofs.Named.{NamesCalled-full, NamesCalled-room}
use Rattle.bell_loop.proofs.callbacks.Callbacks.note.Goals as goal

pub returns-then-is_full-clause-names : goal.returns-then-is_full-clause-names
returns-then-is_full-clause-names g c calls names =
    NamesCalled-full _ _ _ calls _ (leb-true _ _ (sym c.is_full.ensures.value ∙ c.if-is_full.true)) c.saturating_add-self.ensures names

pub returns-else-is_full-clause-names : goal.returns-else-is_full-clause-names
returns-else-is_full-clause-names g c calls names =
    subst (λ ran. NamesCalled ran c.args.self.now.more (calls ++ c.args.called ∷ [])) (sym c.push.ensures)
    (NamesCalled-room c.args.self.now.ran c.args.self.now.more calls c.args.called (leb-false _ _ (sym c.is_full.ensures.value ∙ c.if-is_full.false)) names)
