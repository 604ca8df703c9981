use Rattle.std.proofs.Common.{ap, sym, subst, ◌∙◌, ◌≡◌, ◌<◌, ◌≤◌, ◌++◌, List, [], ◌∷◌, arith}
use Rattle.atomic_table.specs.Table.{opening}
use Rattle.co_mutex.specs.declared.slot.Slot.{Slot}
use Rattle.co_mutex.specs.declared.slot.Slot.TheVariants.{Value, Waiters}
use Rattle.co_mutex.specs.LockWords.{word_count}
use Rattle.co_mutex.specs.Opening.{first_view_of}
use Rattle.co_mutex.specs.Seats.{Kept}
use Rattle.co_mutex.proofs.Deals.{opens}
use Rattle.co_mutex.proofs.lock.CoMutex.build.Goals as goal

pub new-requires : goal.new-requires
new-requires g c =
    let from = c.from.ensures in
    let one = c.requires.0 in
    let few = c.requires.1 in
    let words = c.in-Ok-zero_words.ensures in
    let slots : c.push_reserved-2.new.self.items ≡ Value c.of.result.value ∷ Rattle.co_mutex.specs.Rule.Popped [] 0 ∷ [] = c.push_reserved-2.ensures.items ∙ ap (λ (l : List (Slot g.row.P-Value.Denot)). l ++ Waiters c.in-Ok-with_room.list ∷ []) (c.push_reserved.ensures.items ∙ ap (λ (l : List (Slot g.row.P-Value.Denot)). l ++ Value c.args.value ∷ []) c.in-Ok-with_capacity.ensures.items) ∙ ap (λ (x : g.row.P-Value.Denot). Value x ∷ Waiters c.in-Ok-with_room.list ∷ []) (sym c.of.ensures) ∙ ap (λ l. Value c.of.result.value ∷ Waiters l ∷ []) c.in-Ok-with_room.ensures in
    subst (λ (w : List _). Kept g.P.LockRule.note c.from.result c.of.result.value (opening w c.push_reserved-2.new.self.items (first_view_of record { value = c.of.result; passes = c.from.result }))) (sym c.deref.ensures.value) (subst (λ (l : List (Slot g.row.P-Value.Denot)). Kept g.P.LockRule.note c.from.result c.of.result.value (opening c.in-Ok-zero_words.words.items l (first_view_of record { value = c.of.result; passes = c.from.result }))) (sym slots) (opens g.P.LockRule.note c.from.result c.of.result.value record { value = c.of.result; passes = c.from.result } c.in-Ok-zero_words.words.items 0 (omega (arith, from, one)) (omega (arith, from, few)) Rattle.std.proofs.Common.refl Rattle.std.proofs.Common.refl (words.0 ∙ ap word_count (sym from)) words.1))
