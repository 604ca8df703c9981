use Rattle.std.proofs.Common.{◌≡◌, ◌<◌, ◌∙◌, sym, ap, subst, arith, Some, None}
use Rattle.std.proofs.lemmas.List.{get_or_read}
use Rattle.aio_model.specs.declared.holds.Wish.TheVariants as wish
use Rattle.aio_model.specs.Holds.WhoHolds.{ReadersWriter}
use Rattle.aio_model.specs.Holds.Table.{wake_one}
use Rattle.co_waits.specs.Registers.{AreKept, state_in}
use Rattle.co_waits.proofs.Kept.{nobody, none_there, first_low, first_no_reader, wakes_reader, wakes_writer, wakes_nobody}
use Rattle.co_waits.proofs.register.Register.wake_one.Goals as goal

pub index-requires : goal.index-requires
index-requires c =
    let inside = c.self.inside in
    let none : inside.writer ≡ None = nobody inside.writer (sym c.is_some.ensures ∙ c.if-is_some.false) in
    let kept : AreKept inside.readers None inside.tickets inside.wishes.items = subst (λ w. AreKept inside.readers w inside.tickets inside.wishes.items) none c.self.invariant in
    omega (arith, first_low inside.readers inside.tickets inside.wishes.items c.in_ok-who.who kept (sym c.in_ok-who.ensures.first), kept.sized, inside.wishes.ok.0)

pub push_back-requires-clause-below : goal.push_back-requires-clause-below
push_back-requires-clause-below c =
    let inside = c.self.inside in
    let none : inside.writer ≡ None = nobody inside.writer (sym c.is_some.ensures ∙ c.if-is_some.false) in
    let kept : AreKept inside.readers None inside.tickets inside.wishes.items = subst (λ w. AreKept inside.readers w inside.tickets inside.wishes.items) none c.self.invariant in
    subst (λ n. c.in_ok-who.who < n) (sym kept.rooms) (first_low inside.readers inside.tickets inside.wishes.items c.in_ok-who.who kept (sym c.in_ok-who.ensures.first))

pub push_back-requires-clause-absent : goal.push_back-requires-clause-absent
push_back-requires-clause-absent c =
    let inside = c.self.inside in
    let none : inside.writer ≡ None = nobody inside.writer (sym c.is_some.ensures ∙ c.if-is_some.false) in
    let kept : AreKept inside.readers None inside.tickets inside.wishes.items = subst (λ w. AreKept inside.readers w inside.tickets inside.wishes.items) none c.self.invariant in
    first_no_reader inside.readers inside.tickets inside.wishes.items c.in_ok-who.who kept (sym c.in_ok-who.ensures.first)

pub invariant_of-self : goal.invariant_of-self
invariant_of-self c =
    let inside = c.self.inside in
    let who = c.in_ok-who.who in
    let none : inside.writer ≡ None = nobody inside.writer (sym c.is_some.ensures ∙ c.if-is_some.false) in
    let kept : AreKept inside.readers None inside.tickets inside.wishes.items = subst (λ w. AreKept inside.readers w inside.tickets inside.wishes.items) none c.self.invariant in
    let low = first_low inside.readers inside.tickets inside.wishes.items who kept (sym c.in_ok-who.ensures.first) in
    let read = get_or_read inside.wishes.items who c.index.result.now (omega (arith, low, kept.sized)) c.index.ensures wish.Read in
    subst (λ w. AreKept c.push_back.new.self w c.unlink.new.self inside.wishes.items) (sym none)
    (wakes_reader inside.readers inside.tickets inside.wishes.items who kept (sym c.in_ok-who.ensures.first) (sym read ∙ c.in-Read.is) c.push_back.new.self c.unlink.new.self c.unlink.ensures.items c.unlink.ensures.room c.push_back.ensures.items c.push_back.ensures.room).kept

pub returns-in-Read-clause-left : goal.returns-in-Read-clause-left
returns-in-Read-clause-left c =
    let inside = c.self.inside in
    let who = c.in_ok-who.who in
    let none : inside.writer ≡ None = nobody inside.writer (sym c.is_some.ensures ∙ c.if-is_some.false) in
    let kept : AreKept inside.readers None inside.tickets inside.wishes.items = subst (λ w. AreKept inside.readers w inside.tickets inside.wishes.items) none c.self.invariant in
    let low = first_low inside.readers inside.tickets inside.wishes.items who kept (sym c.in_ok-who.ensures.first) in
    let read = get_or_read inside.wishes.items who c.index.result.now (omega (arith, low, kept.sized)) c.index.ensures wish.Read in
    let is : state_in c.push_back.new.self inside.writer c.unlink.new.self inside.wishes.items ≡ (wake_one (state_in inside.readers inside.writer inside.tickets inside.wishes.items)).state =
    (subst (λ w. state_in c.push_back.new.self w c.unlink.new.self inside.wishes.items ≡ (wake_one (state_in inside.readers w inside.tickets inside.wishes.items)).state) (sym none)
    (wakes_reader inside.readers inside.tickets inside.wishes.items who kept (sym c.in_ok-who.ensures.first) (sym read ∙ c.in-Read.is) c.push_back.new.self c.unlink.new.self c.unlink.ensures.items c.unlink.ensures.room c.push_back.ensures.items c.push_back.ensures.room).is) in
    is ∙ ap (λ (s : ReadersWriter). (wake_one s).state) c.self.view_is

pub returns-then-is_some-2-clause-woken : goal.returns-then-is_some-2-clause-woken
returns-then-is_some-2-clause-woken c =
    let inside = c.self.inside in
    let who = c.in_ok-who.who in
    let none : inside.writer ≡ None = nobody inside.writer (sym c.is_some.ensures ∙ c.if-is_some.false) in
    let kept : AreKept inside.readers None inside.tickets inside.wishes.items = subst (λ w. AreKept inside.readers w inside.tickets inside.wishes.items) none c.self.invariant in
    let low = first_low inside.readers inside.tickets inside.wishes.items who kept (sym c.in_ok-who.ensures.first) in
    let read = get_or_read inside.wishes.items who c.index.result.now (omega (arith, low, kept.sized)) c.index.ensures wish.Read in
    let is : None ≡ (wake_one (state_in inside.readers inside.writer inside.tickets inside.wishes.items)).woken =
    (subst (λ w. None ≡ (wake_one (state_in inside.readers w inside.tickets inside.wishes.items)).woken) (sym none)
    (sym (ap (λ k. k.woken) (wakes_nobody inside.readers inside.tickets inside.wishes.items who kept (sym c.in_ok-who.ensures.first) (sym read ∙ c.in-Write.is) c.first-in-Write.result c.first-in-Write.ensures.first (sym c.is_some-in-Write.ensures ∙ c.if-is_some-2.true))))) in
    is ∙ ap (λ (s : ReadersWriter). (wake_one s).woken) c.self.view_is

pub returns-then-is_some-2-clause-left : goal.returns-then-is_some-2-clause-left
returns-then-is_some-2-clause-left c =
    let inside = c.self.inside in
    let who = c.in_ok-who.who in
    let none : inside.writer ≡ None = nobody inside.writer (sym c.is_some.ensures ∙ c.if-is_some.false) in
    let kept : AreKept inside.readers None inside.tickets inside.wishes.items = subst (λ w. AreKept inside.readers w inside.tickets inside.wishes.items) none c.self.invariant in
    let low = first_low inside.readers inside.tickets inside.wishes.items who kept (sym c.in_ok-who.ensures.first) in
    let read = get_or_read inside.wishes.items who c.index.result.now (omega (arith, low, kept.sized)) c.index.ensures wish.Read in
    let is : state_in inside.readers inside.writer inside.tickets inside.wishes.items ≡ (wake_one (state_in inside.readers inside.writer inside.tickets inside.wishes.items)).state =
    (subst (λ w. state_in inside.readers w inside.tickets inside.wishes.items ≡ (wake_one (state_in inside.readers w inside.tickets inside.wishes.items)).state) (sym none)
    (sym (ap (λ k. k.state) (wakes_nobody inside.readers inside.tickets inside.wishes.items who kept (sym c.in_ok-who.ensures.first) (sym read ∙ c.in-Write.is) c.first-in-Write.result c.first-in-Write.ensures.first (sym c.is_some-in-Write.ensures ∙ c.if-is_some-2.true))))) in
    sym c.self.view_is ∙ is ∙ ap (λ (s : ReadersWriter). (wake_one s).state) c.self.view_is

pub invariant_of-self-in-Write : goal.invariant_of-self-in-Write
invariant_of-self-in-Write c =
    let inside = c.self.inside in
    let who = c.in_ok-who.who in
    let none : inside.writer ≡ None = nobody inside.writer (sym c.is_some.ensures ∙ c.if-is_some.false) in
    let kept : AreKept inside.readers None inside.tickets inside.wishes.items = subst (λ w. AreKept inside.readers w inside.tickets inside.wishes.items) none c.self.invariant in
    let low = first_low inside.readers inside.tickets inside.wishes.items who kept (sym c.in_ok-who.ensures.first) in
    let read = get_or_read inside.wishes.items who c.index.result.now (omega (arith, low, kept.sized)) c.index.ensures wish.Read in
    let alone = none_there c.first-in-Write.result inside.readers.items c.first-in-Write.ensures.first (sym c.is_some-in-Write.ensures ∙ c.if-is_some-2.false) in
    (wakes_writer inside.readers inside.tickets inside.wishes.items who kept (sym c.in_ok-who.ensures.first) (sym read ∙ c.in-Write.is) alone c.unlink-in-Write.new.self c.unlink-in-Write.ensures.items c.unlink-in-Write.ensures.room).kept

pub returns-else-is_some-2-clause-left : goal.returns-else-is_some-2-clause-left
returns-else-is_some-2-clause-left c =
    let inside = c.self.inside in
    let who = c.in_ok-who.who in
    let none : inside.writer ≡ None = nobody inside.writer (sym c.is_some.ensures ∙ c.if-is_some.false) in
    let kept : AreKept inside.readers None inside.tickets inside.wishes.items = subst (λ w. AreKept inside.readers w inside.tickets inside.wishes.items) none c.self.invariant in
    let low = first_low inside.readers inside.tickets inside.wishes.items who kept (sym c.in_ok-who.ensures.first) in
    let read = get_or_read inside.wishes.items who c.index.result.now (omega (arith, low, kept.sized)) c.index.ensures wish.Read in
    let alone = none_there c.first-in-Write.result inside.readers.items c.first-in-Write.ensures.first (sym c.is_some-in-Write.ensures ∙ c.if-is_some-2.false) in
    let is : state_in inside.readers (Some who) c.unlink-in-Write.new.self inside.wishes.items ≡ (wake_one (state_in inside.readers inside.writer inside.tickets inside.wishes.items)).state =
    (subst (λ w. state_in inside.readers (Some who) c.unlink-in-Write.new.self inside.wishes.items ≡ (wake_one (state_in inside.readers w inside.tickets inside.wishes.items)).state) (sym none)
    (wakes_writer inside.readers inside.tickets inside.wishes.items who kept (sym c.in_ok-who.ensures.first) (sym read ∙ c.in-Write.is) alone c.unlink-in-Write.new.self c.unlink-in-Write.ensures.items c.unlink-in-Write.ensures.room).is) in
    is ∙ ap (λ (s : ReadersWriter). (wake_one s).state) c.self.view_is
