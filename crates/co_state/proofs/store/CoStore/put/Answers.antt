use Rattle.std.proofs.Common.{IsSome, ◌<◌, ◌≤◌, ◌||◌, nat_le, length, sym, ap, ◌∙◌, subst, arith}
use Rattle.std.specs.FinMap as map
use Rattle.co_state.specs.Coroutines.{AllOf}
use Rattle.co_state.specs.Kept.{ids_of}
use Rattle.co_state.proofs.Held.{all_of-insert}
use Rattle.co_state.proofs.Standing.{put_in, refused_present, refused_full, not_refused, none_of, seen_change}
use Rattle.co_state.proofs.store.CoStore.put.Goals as goal

pub invariant_of-self : goal.invariant_of-self
invariant_of-self g c =
    let inside = c.self.inside in
    let free : length (ids_of inside.directory) < inside.room = omega (arith, c.if-len-self.false, c.len.ensures.len) in
    let after = put_in inside.room inside.directory c.insert.new.self inside.slots c.insert_reserved-key.new.self c.args.id c.insert_reserved-key.result c.args.co c.self.invariant.0 free c.insert_reserved-key.ensures.was_vacant c.insert_reserved-key.ensures.updates c.insert_reserved-key.ensures.len c.insert_reserved-key.ensures.capacity c.insert.ensures.keys c.insert.ensures.len c.insert.ensures.room in
    let of = subst (λ s. g.C.Origin.is_of c.args.id c.args.co s.origin) (sym c.self.view_is) c.requires in
    (after.kept, subst (λ m. AllOf g.C.Origin.is_of m inside.origin.value) (sym after.is) (all_of-insert g.C.Origin.is_of _ _ c.args.id c.args.co of c.self.invariant.1))

pub returns-clause-put : goal.returns-clause-put
returns-clause-put g c =
    let inside = c.self.inside in
    let free : length (ids_of inside.directory) < inside.room = omega (arith, c.if-len-self.false, c.len.ensures.len) in
    let after = put_in inside.room inside.directory c.insert.new.self inside.slots c.insert_reserved-key.new.self c.args.id c.insert_reserved-key.result c.args.co c.self.invariant.0 free c.insert_reserved-key.ensures.was_vacant c.insert_reserved-key.ensures.updates c.insert_reserved-key.ensures.len c.insert_reserved-key.ensures.capacity c.insert.ensures.keys c.insert.ensures.len c.insert.ensures.room in
    seen_change (λ m. map.insert m c.args.id c.args.co) inside.room inside.origin.value _ _ c.args.self.now after.is c.self.view_is

pub returns-clause-refused : goal.returns-clause-refused
returns-clause-refused g c =
    let inside = c.self.inside in
    let free : length (ids_of inside.directory) < inside.room = omega (arith, c.if-len-self.false, c.len.ensures.len) in
    not_refused inside.room inside.directory inside.slots c.args.id c.self.invariant.0 c.len.ensures.listed (sym c.key.ensures.key ∙ none_of c.key.result (sym c.is_some.ensures ∙ c.if-is_some.false)) free
    ∙ ap (λ s. map.contains_key s.held c.args.id || nat_le s.room (map.len s.held)) c.self.view_is

pub returns-then-is_some-clause-refused : goal.returns-then-is_some-clause-refused
returns-then-is_some-clause-refused g c =
    let inside = c.self.inside in
    refused_present inside.room inside.directory inside.slots c.args.id c.self.invariant.0 (subst IsSome c.key.ensures.key (sym c.is_some.ensures ∙ c.if-is_some.true))
    ∙ ap (λ s. map.contains_key s.held c.args.id || nat_le s.room (map.len s.held)) c.self.view_is

pub returns-then-len-self-clause-refused : goal.returns-then-len-self-clause-refused
returns-then-len-self-clause-refused g c =
    let inside = c.self.inside in
    let full : inside.room ≤ length (ids_of inside.directory) = omega (arith, c.if-len-self.true, c.len.ensures.len) in
    refused_full inside.room inside.directory inside.slots c.args.id c.self.invariant.0 c.len.ensures.listed full
    ∙ ap (λ s. map.contains_key s.held c.args.id || nat_le s.room (map.len s.held)) c.self.view_is
