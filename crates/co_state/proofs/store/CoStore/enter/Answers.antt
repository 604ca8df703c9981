use Rattle.std.proofs.Common.{◌≡◌, refl, sym, ap, ◌∙◌, subst, Some}
use Rattle.std.specs.FinMap as map
use Rattle.co_state.specs.Coroutines.{AllOf}
use Rattle.co_state.specs.Kept.{key_for}
use Rattle.co_state.specs.declared.co.CoStep.TheVariants as step
use Rattle.co_state.specs.declared.store.Entered.TheVariants as entered
use Rattle.co_state.proofs.Held.{all_of-insert, all_of-remove}
use Rattle.co_state.proofs.Standing.{at_none, at_some, held_absent, held_present, write_in, write_and_take, taken_co, seen_change, of_there}
use Rattle.co_state.proofs.store.CoStore.enter.Goals as goal

pub returns-in_default : goal.returns-in_default
returns-in_default g c =
    let none = ap (λ s. map.get s.held c.args.id) (sym c.self.view_is) ∙ held_absent c.self.inside.directory c.self.inside.slots c.args.id (sym c.key.ensures.key ∙ c.in_default.is) in
    at_none _ _ _ none (refl, refl, refl)

pub resume-requires-clause-of : goal.resume-requires-clause-of
resume-requires-clause-of g c =
    let inside = c.self.inside in
    let found : key_for inside.directory c.args.id ≡ Some c.in-Some.key = sym c.key.ensures.key ∙ c.in-Some.is in
    let there = sym c.in-Some-get_mut.ensures.value in
    let of = of_there g.C.Origin.is_of c.args.id c.in-Some.key c.in-Some-get_mut.slot.now inside.directory inside.slots inside.origin.value c.self.invariant.1 found there in
    let origin = sym (c.requires.origin ∙ ap (λ s. s.origin) (sym c.self.view_is)) in
    (c.args.id, subst (g.C.Origin.is_of c.args.id c.in-Some-get_mut.slot.now.co) origin of)

pub invariant_of-self-in-Yield : goal.invariant_of-self-in-Yield
invariant_of-self-in-Yield g c =
    let inside = c.self.inside in
    let found : key_for inside.directory c.args.id ≡ Some c.in-Some.key = sym c.key.ensures.key ∙ c.in-Some.is in
    let there = sym c.in-Some-get_mut.ensures.value in
    let after = write_in inside.room inside.directory inside.slots c.args.id c.in-Some.key c.in-Some-get_mut.slot.now c.resume.new.self c.self.invariant.0 found there in
    let origin = c.requires.origin ∙ ap (λ s. s.origin) (sym c.self.view_is) in
    let was = of_there g.C.Origin.is_of c.args.id c.in-Some.key c.in-Some-get_mut.slot.now inside.directory inside.slots inside.origin.value c.self.invariant.1 found (sym c.in-Some-get_mut.ensures.value) in
    let of = subst (g.C.Origin.is_of c.args.id c.resume.new.self) origin (c.in-Yield.ensures.of c.args.id (subst (g.C.Origin.is_of c.args.id c.in-Some-get_mut.slot.now.co) (sym origin) was)) in
    (after.kept, subst (λ m. AllOf g.C.Origin.is_of m inside.origin.value) (sym after.is) (all_of-insert g.C.Origin.is_of _ _ c.args.id c.resume.new.self of c.self.invariant.1))

pub invariant_of-self-in-Sleep : goal.invariant_of-self-in-Sleep
invariant_of-self-in-Sleep g c =
    let inside = c.self.inside in
    let found : key_for inside.directory c.args.id ≡ Some c.in-Some.key = sym c.key.ensures.key ∙ c.in-Some.is in
    let there = sym c.in-Some-get_mut.ensures.value in
    let after = write_in inside.room inside.directory inside.slots c.args.id c.in-Some.key c.in-Some-get_mut.slot.now c.resume.new.self c.self.invariant.0 found there in
    let origin = c.requires.origin ∙ ap (λ s. s.origin) (sym c.self.view_is) in
    let was = of_there g.C.Origin.is_of c.args.id c.in-Some.key c.in-Some-get_mut.slot.now inside.directory inside.slots inside.origin.value c.self.invariant.1 found (sym c.in-Some-get_mut.ensures.value) in
    let of = subst (g.C.Origin.is_of c.args.id c.resume.new.self) origin (c.in-Sleep.ensures.of c.args.id (subst (g.C.Origin.is_of c.args.id c.in-Some-get_mut.slot.now.co) (sym origin) was)) in
    (after.kept, subst (λ m. AllOf g.C.Origin.is_of m inside.origin.value) (sym after.is) (all_of-insert g.C.Origin.is_of _ _ c.args.id c.resume.new.self of c.self.invariant.1))

pub invariant_of-self : goal.invariant_of-self
invariant_of-self g c =
    let inside = c.self.inside in
    let found : key_for inside.directory c.args.id ≡ Some c.in-Some.key = sym c.key.ensures.key ∙ c.in-Some.is in
    let there = sym c.in-Some-get_mut.ensures.value in
    let after = write_and_take inside.room inside.directory c.remove.new.self inside.slots c.remove-in-Done.new.self c.args.id _ c.in-Some.key c.in-Some-get_mut.slot.now c.resume.new.self c.self.invariant.0 found there refl c.remove-in-Done.ensures.updates c.remove-in-Done.ensures.len c.remove-in-Done.ensures.capacity c.remove.ensures.keys c.remove.ensures.len c.remove.ensures.room in
    (after.kept, subst (λ m. AllOf g.C.Origin.is_of m inside.origin.value) (sym after.is) (all_of-remove g.C.Origin.is_of _ _ c.args.id c.self.invariant.1))

pub invariant_of-self-in-Move : goal.invariant_of-self-in-Move
invariant_of-self-in-Move g c =
    let inside = c.self.inside in
    let found : key_for inside.directory c.args.id ≡ Some c.in-Some.key = sym c.key.ensures.key ∙ c.in-Some.is in
    let there = sym c.in-Some-get_mut.ensures.value in
    let after = write_and_take inside.room inside.directory c.remove-in-Move.new.self inside.slots c.remove-in-Move-2.new.self c.args.id _ c.in-Some.key c.in-Some-get_mut.slot.now c.resume.new.self c.self.invariant.0 found there refl c.remove-in-Move-2.ensures.updates c.remove-in-Move-2.ensures.len c.remove-in-Move-2.ensures.capacity c.remove-in-Move.ensures.keys c.remove-in-Move.ensures.len c.remove-in-Move.ensures.room in
    (after.kept, subst (λ m. AllOf g.C.Origin.is_of m inside.origin.value) (sym after.is) (all_of-remove g.C.Origin.is_of _ _ c.args.id c.self.invariant.1))

pub returns-in-Yield : goal.returns-in-Yield
returns-in-Yield g c =
    let inside = c.self.inside in
    let found : key_for inside.directory c.args.id ≡ Some c.in-Some.key = sym c.key.ensures.key ∙ c.in-Some.is in
    let there = sym c.in-Some-get_mut.ensures.value in
    let after = write_in inside.room inside.directory inside.slots c.args.id c.in-Some.key c.in-Some-get_mut.slot.now c.resume.new.self c.self.invariant.0 found there in
    let is = ap (λ s. map.get s.held c.args.id) (sym c.self.view_is) ∙ held_present inside.directory inside.slots c.args.id c.in-Some.key c.in-Some-get_mut.slot.now found there in
    let origin = c.requires.origin ∙ ap (λ s. s.origin) (sym c.self.view_is) in
    let was = of_there g.C.Origin.is_of c.args.id c.in-Some.key c.in-Some-get_mut.slot.now inside.directory inside.slots inside.origin.value c.self.invariant.1 found there in
    at_some _ _ _ c.in-Some-get_mut.slot.now.co is (record {
      step = step.Yield;
      after = c.resume.new.self;
      of = subst (g.C.Origin.is_of c.args.id c.resume.new.self) c.requires.origin (c.in-Yield.ensures.of c.args.id (subst (g.C.Origin.is_of c.args.id c.in-Some-get_mut.slot.now.co) (sym origin) was));
      resumed = subst (λ o. g.C.Co.resumes c.in-Some-get_mut.slot.now.co o c.resume.new.cx step.Yield c.resume.new.self) c.requires.origin c.in-Yield.ensures.resumes;
      answers = refl;
      left = seen_change (λ m. map.insert m c.args.id c.resume.new.self) inside.room inside.origin.value _ _ c.args.self.now after.is c.self.view_is;
    })

pub returns-in-Sleep : goal.returns-in-Sleep
returns-in-Sleep g c =
    let inside = c.self.inside in
    let found : key_for inside.directory c.args.id ≡ Some c.in-Some.key = sym c.key.ensures.key ∙ c.in-Some.is in
    let there = sym c.in-Some-get_mut.ensures.value in
    let after = write_in inside.room inside.directory inside.slots c.args.id c.in-Some.key c.in-Some-get_mut.slot.now c.resume.new.self c.self.invariant.0 found there in
    let is = ap (λ s. map.get s.held c.args.id) (sym c.self.view_is) ∙ held_present inside.directory inside.slots c.args.id c.in-Some.key c.in-Some-get_mut.slot.now found there in
    let origin = c.requires.origin ∙ ap (λ s. s.origin) (sym c.self.view_is) in
    let was = of_there g.C.Origin.is_of c.args.id c.in-Some.key c.in-Some-get_mut.slot.now inside.directory inside.slots inside.origin.value c.self.invariant.1 found there in
    at_some _ _ _ c.in-Some-get_mut.slot.now.co is (record {
      step = step.Sleep c.in-Sleep.ns;
      after = c.resume.new.self;
      of = subst (g.C.Origin.is_of c.args.id c.resume.new.self) c.requires.origin (c.in-Sleep.ensures.of c.args.id (subst (g.C.Origin.is_of c.args.id c.in-Some-get_mut.slot.now.co) (sym origin) was));
      resumed = subst (λ o. g.C.Co.resumes c.in-Some-get_mut.slot.now.co o c.resume.new.cx (step.Sleep c.in-Sleep.ns) c.resume.new.self) c.requires.origin c.in-Sleep.ensures.resumes;
      answers = refl;
      left = seen_change (λ m. map.insert m c.args.id c.resume.new.self) inside.room inside.origin.value _ _ c.args.self.now after.is c.self.view_is;
    })

pub returns-in-Done : goal.returns-in-Done
returns-in-Done g c =
    let inside = c.self.inside in
    let found : key_for inside.directory c.args.id ≡ Some c.in-Some.key = sym c.key.ensures.key ∙ c.in-Some.is in
    let there = sym c.in-Some-get_mut.ensures.value in
    let after = write_and_take inside.room inside.directory c.remove.new.self inside.slots c.remove-in-Done.new.self c.args.id _ c.in-Some.key c.in-Some-get_mut.slot.now c.resume.new.self c.self.invariant.0 found there refl c.remove-in-Done.ensures.updates c.remove-in-Done.ensures.len c.remove-in-Done.ensures.capacity c.remove.ensures.keys c.remove.ensures.len c.remove.ensures.room in
    let is = ap (λ s. map.get s.held c.args.id) (sym c.self.view_is) ∙ held_present inside.directory inside.slots c.args.id c.in-Some.key c.in-Some-get_mut.slot.now found there in
    let origin = c.requires.origin ∙ ap (λ s. s.origin) (sym c.self.view_is) in
    let was = of_there g.C.Origin.is_of c.args.id c.in-Some.key c.in-Some-get_mut.slot.now inside.directory inside.slots inside.origin.value c.self.invariant.1 found there in
    at_some _ _ _ c.in-Some-get_mut.slot.now.co is (record {
      step = step.Done;
      after = c.resume.new.self;
      of = subst (g.C.Origin.is_of c.args.id c.resume.new.self) c.requires.origin (c.in-Done.ensures.of c.args.id (subst (g.C.Origin.is_of c.args.id c.in-Some-get_mut.slot.now.co) (sym origin) was));
      resumed = subst (λ o. g.C.Co.resumes c.in-Some-get_mut.slot.now.co o c.resume.new.cx step.Done c.resume.new.self) c.requires.origin c.in-Done.ensures.resumes;
      answers = ap entered.Done (taken_co inside.slots c.in-Some.key c.in-Some-get_mut.slot.now _ c.remove-in-Done.result there c.remove-in-Done.ensures.value);
      left = seen_change (λ m. map.remove m c.args.id) inside.room inside.origin.value _ _ c.args.self.now after.is c.self.view_is;
    })

pub returns-in-Move : goal.returns-in-Move
returns-in-Move g c =
    let inside = c.self.inside in
    let found : key_for inside.directory c.args.id ≡ Some c.in-Some.key = sym c.key.ensures.key ∙ c.in-Some.is in
    let there = sym c.in-Some-get_mut.ensures.value in
    let after = write_and_take inside.room inside.directory c.remove-in-Move.new.self inside.slots c.remove-in-Move-2.new.self c.args.id _ c.in-Some.key c.in-Some-get_mut.slot.now c.resume.new.self c.self.invariant.0 found there refl c.remove-in-Move-2.ensures.updates c.remove-in-Move-2.ensures.len c.remove-in-Move-2.ensures.capacity c.remove-in-Move.ensures.keys c.remove-in-Move.ensures.len c.remove-in-Move.ensures.room in
    let is = ap (λ s. map.get s.held c.args.id) (sym c.self.view_is) ∙ held_present inside.directory inside.slots c.args.id c.in-Some.key c.in-Some-get_mut.slot.now found there in
    let origin = c.requires.origin ∙ ap (λ s. s.origin) (sym c.self.view_is) in
    let was = of_there g.C.Origin.is_of c.args.id c.in-Some.key c.in-Some-get_mut.slot.now inside.directory inside.slots inside.origin.value c.self.invariant.1 found there in
    at_some _ _ _ c.in-Some-get_mut.slot.now.co is (record {
      step = step.Move c.in-Move.home;
      after = c.resume.new.self;
      of = subst (g.C.Origin.is_of c.args.id c.resume.new.self) c.requires.origin (c.in-Move.ensures.of c.args.id (subst (g.C.Origin.is_of c.args.id c.in-Some-get_mut.slot.now.co) (sym origin) was));
      resumed = subst (λ o. g.C.Co.resumes c.in-Some-get_mut.slot.now.co o c.resume.new.cx (step.Move c.in-Move.home) c.resume.new.self) c.requires.origin c.in-Move.ensures.resumes;
      answers = ap (λ co. entered.Moving co c.in-Move.home) (taken_co inside.slots c.in-Some.key c.in-Some-get_mut.slot.now _ c.remove-in-Move-2.result there c.remove-in-Move-2.ensures.value);
      left = seen_change (λ m. map.remove m c.args.id) inside.room inside.origin.value _ _ c.args.self.now after.is c.self.view_is;
    })
