use Rattle.std.proofs.Common.{ap, ◌∙◌, arith}
use Rattle.co_mutex.specs.LockWords.{next_at}
use Rattle.co_mutex.proofs.Codes.{next_ready}
use Rattle.co_mutex.proofs.lock.CoMutex.store_next.Goals as goal

pub store-requires : goal.store-requires
store-requires g c =
    (c.requires.pass.table, (let a = c.args.self.now.sized.0 in let b = c.requires.pass.below in let d = c.next_word-word.ensures in omega (arith, a, b, d)), next_ready g.P.LockRule.note c.args.self.now.table.shared.key.passes c.args.self.now.table.shared.key.value.value c.args.self.now.table.shared.table_id.slots c.args.pass.now.seat.id c.args.pass.now.seat.me c.requires.pass.live _ c.requires.place.1.0 c.args.head (c.next_word-word.ensures ∙ ap next_at c.requires.pass.number) c.requires.place.1.1)
