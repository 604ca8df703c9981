use Rattle.std.proofs.Common.{◌∙◌, ◌+◌, IsSome, None, length, cond, eqb, sym, ap, subst, arith}
use Rattle.co_state.specs.Lookup.{Table, shape, ids_in, key_in, size_of, IsSorted, AreSmall}
use Rattle.co_state.proofs.Trees.{remove_less, remove_sorted, remove_size, key_removed, length_ids}
use Rattle.co_state.proofs.directory.Directory.remove.Goals as goal

pub invariant_of-self : goal.invariant_of-self
invariant_of-self c =
    let inside = c.self.inside in
    let some = subst (λ (t : Table). IsSome (key_in (shape t.tree) c.args.id)) (sym c.self.view_is) c.requires.there in
    let size = remove_size (shape inside.tree) c.args.id c.self.invariant.0 some in (
      subst (IsSorted (λ q. q)) (sym c.remove.ensures.left) (remove_sorted (shape inside.tree) c.args.id c.self.invariant.0 some),
      omega (arith, c.self.invariant.1, size, ap size_of c.remove.ensures.left),
      omega (arith, c.self.invariant.1, c.self.invariant.2, size, inside.spares.ok.0, c.push_reserved.new.self.ok.0, c.push_reserved.ensures.len, c.push_reserved.ensures.capacity),
      subst AreSmall (sym c.remove.ensures.left) (λ q there. c.self.invariant.3 q (remove_less (shape inside.tree) c.args.id c.self.invariant.0 some q there)),
    )

pub returns-clause-keys : goal.returns-clause-keys
returns-clause-keys c q =
    let inside = c.self.inside in
    let some = subst (λ (t : Table). IsSome (key_in (shape t.tree) c.args.id)) (sym c.self.view_is) c.requires.there in
    ap (λ t. key_in t q) c.remove.ensures.left ∙ key_removed (shape inside.tree) c.args.id c.self.invariant.0 some q ∙ ap (λ (t : Table). cond (eqb q c.args.id) None (key_in (shape t.tree) q)) c.self.view_is

pub returns-clause-len : goal.returns-clause-len
returns-clause-len c =
    let inside = c.self.inside in
    let some = subst (λ (t : Table). IsSome (key_in (shape t.tree) c.args.id)) (sym c.self.view_is) c.requires.there in
    ap (λ n. n + 1) (length_ids (shape c.remove.new.tree) ∙ ap size_of c.remove.ensures.left) ∙ remove_size (shape inside.tree) c.args.id c.self.invariant.0 some ∙ sym (length_ids (shape inside.tree)) ∙ ap (λ (t : Table). length (ids_in (shape t.tree))) c.self.view_is
