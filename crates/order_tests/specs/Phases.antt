-- The phase of a seat that is to do this next, where its flight is that of the phase which it has.
use Rattle.aio_model.specs.Loop.InFlight.{Phase, AtRest, Announced, Linked, ToStore, ToLoad, ToSet, flight_of}
use Rattle.order_tests.specs.declared.debt.Debt.{Debt}
use Rattle.order_tests.specs.declared.debt.Debt.TheVariants.{Announce, Aim, Link, StoreNotified, LoadNotifyMe, SetNotifier, Nothing}

abbrev pub phase_after : Debt → Phase → Phase
phase_after Announce phase = AtRest
phase_after (Aim owed) phase = Announced owed
phase_after (Link aimed) phase = Linked aimed.0 aimed.1
phase_after StoreNotified phase = ToStore (flight_of phase)
phase_after LoadNotifyMe phase = ToLoad (flight_of phase)
phase_after SetNotifier phase = ToSet (flight_of phase)
phase_after (Nothing woke) phase = AtRest
