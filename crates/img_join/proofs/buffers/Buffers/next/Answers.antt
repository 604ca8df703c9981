use Rattle.std.proofs.Common.{◌≡◌, ◌<◌, ◌∙◌, ap, sym, length, map, get_or, set, [], ℕ, arith}
use Rattle.std.proofs.Common.{Vec, Global}
use Rattle.std.specs.declared.collections.VecDeque.{VecDeque}
use Rattle.std.proofs.lemmas.List.{get_or-map, map-set, length-map}
use Rattle.img_join.specs.Placing.{rest_of}
use Rattle.img_join.proofs.buffers.Buffers.next.Goals as goal

pub returns-clause-rest : goal.returns-clause-rest
returns-clause-rest c =
    let rows = c.self.inside.rows.items in
    let k = c.args.stream in
    let old = c.index_mut.result.now in
    let left = c.pop_front.new.self in
    let f = λ (row : VecDeque (Vec ℕ Global) Global). map (λ (buffer : Vec ℕ Global). buffer.items) row.items in
    let known = rw (← c.self.view_is) at c.requires.known in
    let below : k < length rows = omega (arith, known, length-map rows f) in
    let row : get_or (map f rows) k [] ≡ f old = get_or-map f rows k old [] below ∙ ap f (sym c.index_mut.ensures.value) in
    let rest : rest_of (get_or (map f rows) k []) ≡ f left =
    ap rest_of (row ∙ ap (map (λ (buffer : Vec ℕ Global). buffer.items)) c.in-Some.ensures.items) in
    rw (← c.self.view_is) (map-set f rows k left ∙ ap (set (map f rows) k) (sym rest))
