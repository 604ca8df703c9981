use Rattle.std.proofs.Common.{◌≡◌, ℕ, ◌≤◌, ◌<◌, length, get_or, sym, subst, arith}
use Rattle.std.proofs.lemmas.List.{get_or_read}
use Rattle.aio_timers.specs.Keys.{HasPlace, key_at}
use Rattle.aio_timers.proofs.Treed.{lower, held}
use Rattle.aio_timers.proofs.key_tree.KeyTree.least.Goals as goal

pub returns-clause-lower : goal.returns-clause-lower
returns-clause-lower c =
    let nodes = c.self.inside.nodes.items in
    let read : c.index.result.now ≡ get_or nodes 1 0 = get_or_read nodes 1 c.index.result.now (omega (arith, c.self.invariant.some, c.self.invariant.sized)) c.index.ensures 0 in
    subst (λ keys. (place : ℕ) → place < length keys → c.index.result.now ≤ key_at keys place) c.self.view_is (λ place within. omega (arith, read, lower nodes c.self.inside.leaves c.self.invariant place within))

pub returns-clause-held : goal.returns-clause-held
returns-clause-held c =
    let nodes = c.self.inside.nodes.items in
    let read : c.index.result.now ≡ get_or nodes 1 0 = get_or_read nodes 1 c.index.result.now (omega (arith, c.self.invariant.some, c.self.invariant.sized)) c.index.ensures 0 in
    subst (λ keys. HasPlace keys c.index.result.now) c.self.view_is (subst (HasPlace _) (sym read) (held nodes c.self.inside.leaves c.self.invariant))
