use Rattle.std.proofs.Common.{refl, ap, ◌∙◌, arith, eqb}
use Rattle.co_mutex.specs.LockWords.{grant_at}
use Rattle.co_mutex.proofs.Codes.{find_ready, find_told, find_kept, pass_of}
use Rattle.co_mutex.proofs.lock.CoMutex.swap_grant.Goals as goal

pub swap-requires : goal.swap-requires
swap-requires g c =
    (c.requires.pass.table, (let a = c.args.self.now.sized.0 in let b = c.requires.pass.below in let d = c.grant_word-word.ensures in omega (arith, a, b, d)), find_ready g.P.LockRule.note c.args.self.now.table.shared.key.passes c.args.self.now.table.shared.key.value.value c.args.self.now.table.shared.table_id.slots c.args.pass.now.seat.id c.args.pass.now.seat.me c.requires.pass.live _ (c.grant_word-word.ensures ∙ ap grant_at c.requires.pass.number) c.requires.place.0 c.requires.place.1)

pub returns-clause-pass : goal.returns-clause-pass
returns-clause-pass g c =
    pass_of c.args.self.now c.args.pass.now (record { seat = c.swap.new.seat; number = c.args.pass.now.number }) c.swap.ensures.0 refl (find_kept g.P.LockRule.note c.args.self.now.table.shared.key.value.value c.args.pass.now.seat.me c.swap.new.seat.me c.grant_word-word.result c.swap.result (c.grant_word-word.ensures ∙ ap grant_at c.requires.pass.number) (eqb c.swap.result 1) _ (find_told g.P.LockRule.note c.args.self.now.table.shared.key.value.value c.args.pass.now.seat.me c.swap.new.seat.me c.grant_word-word.result c.swap.result (c.grant_word-word.ensures ∙ ap grant_at c.requires.pass.number) c.requires.place.1 (c.swap.ensures.2 c.args.self.now.table.shared.key.value.value c.requires.pass.opens))) c.requires.pass

pub returns-clause-step : goal.returns-clause-step
returns-clause-step g c =
    find_told g.P.LockRule.note c.args.self.now.table.shared.key.value.value c.args.pass.now.seat.me c.swap.new.seat.me c.grant_word-word.result c.swap.result (c.grant_word-word.ensures ∙ ap grant_at c.requires.pass.number) c.requires.place.1 (c.swap.ensures.2 c.args.self.now.table.shared.key.value.value c.requires.pass.opens)
