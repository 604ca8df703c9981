use Rattle.std.proofs.Common.{ap, ◌∙◌, arith}
use Rattle.co_mutex.specs.LockWords.{who_at}
use Rattle.co_mutex.proofs.Codes.{who_ready}
use Rattle.co_mutex.proofs.lock.CoMutex.store_who.Goals as goal

pub store-requires : goal.store-requires
store-requires g c =
    (c.requires.pass.table, (let a = c.args.self.now.sized.0 in let b = c.requires.pass.below in let d = c.who_word-word.ensures in omega (arith, a, b, d)), who_ready g.P.LockRule.note c.args.self.now.table.shared.key.passes c.args.self.now.table.shared.key.value.value c.args.self.now.table.shared.table_id.slots c.args.pass.now.seat.id c.args.pass.now.seat.me c.requires.pass.live _ c.args.who (c.who_word-word.ensures ∙ ap who_at c.requires.pass.number) c.requires.place.1)
