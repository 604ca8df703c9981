use Rattle.std.proofs.Common.{◌≡◌, ◌∙◌, ◌+◌, ◌<◌, None, Some, length, cond, eqb, sym, ap, subst, arith}
use Rattle.co_state.specs.Lookup.{Table, shape, ids_in, key_in, size_of, IsSorted, AreSmall}
use Rattle.co_state.specs.declared.tree.Entry.{Entry}
use Rattle.co_state.proofs.Trees.{insert_below, insert_sorted, insert_size, key_inserted, length_ids, none_is_in}
use Rattle.co_state.proofs.directory.Directory.insert.Goals as goal

pub unreachable-requires : goal.unreachable-requires
unreachable-requires c =
    let inside = c.self.inside in
    let room : length (ids_in (shape inside.tree)) < inside.count + length inside.spares.items = subst (λ (t : Table). length (ids_in (shape t.tree)) < t.room) (sym c.self.view_is) c.requires.room in
    let empty = rw c.in_default.is at c.pop.ensures.cases in
    omega (arith, room, empty.0, inside.spares.ok.0, c.self.invariant.1, length_ids (shape inside.tree))

pub invariant_of-self : goal.invariant_of-self
invariant_of-self c =
    let inside = c.self.inside in
    let new : Entry = record { id = c.args.id; key = c.args.key } in
    let none : key_in (shape inside.tree) c.args.id ≡ None = ap (λ (t : Table). key_in (shape t.tree) c.args.id) c.self.view_is ∙ c.requires.absent in
    let absent = none_is_in (shape inside.tree) c.args.id c.self.invariant.0 none in
    let fewer = rw c.in-Some.is at c.pop.ensures.cases in (
      subst (IsSorted (λ q. q)) (sym c.insert.ensures) (insert_sorted (λ q. q) (shape inside.tree) new c.self.invariant.0 absent),
      ap (λ n. n + 1) c.self.invariant.1 ∙ sym (ap size_of c.insert.ensures ∙ insert_size (shape inside.tree) new c.args.id),
      omega (arith, fewer, inside.spares.ok.0, c.pop.new.self.ok.0, c.self.invariant.2, c.pop.ensures.capacity),
      subst AreSmall (sym c.insert.ensures) (insert_below (shape inside.tree) new c.args.id c.self.invariant.3 c.ranges.id.fits),
    )

pub returns-clause-keys : goal.returns-clause-keys
returns-clause-keys c q =
    let inside = c.self.inside in
    let new : Entry = record { id = c.args.id; key = c.args.key } in
    let none : key_in (shape inside.tree) c.args.id ≡ None = ap (λ (t : Table). key_in (shape t.tree) c.args.id) c.self.view_is ∙ c.requires.absent in
    ap (λ t. key_in t q) c.insert.ensures ∙ key_inserted (shape inside.tree) new none q ∙ ap (λ (t : Table). cond (eqb q c.args.id) (Some c.args.key) (key_in (shape t.tree) q)) c.self.view_is

pub returns-clause-len : goal.returns-clause-len
returns-clause-len c =
    let inside = c.self.inside in
    let new : Entry = record { id = c.args.id; key = c.args.key } in
    length_ids (shape c.insert.new.tree) ∙ ap size_of c.insert.ensures ∙ insert_size (shape inside.tree) new c.args.id ∙ ap (λ n. n + 1) (sym (length_ids (shape inside.tree)) ∙ ap (λ (t : Table). length (ids_in (shape t.tree))) c.self.view_is)
