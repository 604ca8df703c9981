-- The definitions of readers and a writer, on examples worked by hand.
use Rattle.std.proofs.Common.{◌≡◌, refl, [], ◌∷◌, Some, None}
use Rattle.aio_model.specs.declared.holds.RwAnswer.TheVariants.{Queued}
use Rattle.aio_model.specs.declared.holds.Wish.TheVariants as wish
use Rattle.aio_model.specs.Holds.WhoHolds.{Readers, Writer, ReadersWriter}
use Rattle.aio_model.specs.Holds.Table.{Woke, Exchanged, read_locked, write_locked, unlocked, downgraded, upgraded, wake_one}

abbrev begun : ReadersWriter
begun = record { room = 4; holders = Readers []; tickets = [] }

abbrev second : ReadersWriter
second = (read_locked 1 (read_locked 0 begun).state).state

two_read : second ≡ record { room = 4; holders = Readers (0 ∷ 1 ∷ []); tickets = [] }
two_read = refl

abbrev fourth : ReadersWriter
fourth = (read_locked 3 (write_locked 2 second).state).state

two_wait : fourth ≡ record { room = 4; holders = Readers (0 ∷ 1 ∷ []); tickets = record { owner = 2; wish = wish.Write } ∷ record { owner = 3; wish = wish.Read } ∷ [] }
two_wait = refl

reader_queued : (read_locked 3 (write_locked 2 second).state).answer ≡ Queued
reader_queued = refl

nobody_woken : (unlocked 0 fourth).woken ≡ None
nobody_woken = refl

abbrev sixth : Woke
sixth = unlocked 1 (unlocked 0 fourth).state

writer_woken : sixth.woken ≡ Some 2
writer_woken = refl

abbrev seventh : Woke
seventh = downgraded 2 sixth.state

reader_woken : seventh.woken ≡ Some 3
reader_woken = refl

two_again : wake_one seventh.state ≡ record { woken = None; state = record { room = 4; holders = Readers (2 ∷ 3 ∷ []); tickets = [] } }
two_again = refl

abbrev tenth : ReadersWriter
tenth = (unlocked 3 (write_locked 0 seventh.state).state).state

abbrev last : Exchanged
last = upgraded 2 tenth

upgrade_wakes : last ≡ record { answer = Queued; woken = Some 0; state = record { room = 4; holders = Writer 0; tickets = record { owner = 2; wish = wish.Write } ∷ [] } }
upgrade_wakes = refl

then_writes : unlocked 0 last.state ≡ record { woken = Some 2; state = record { room = 4; holders = Writer 2; tickets = [] } }
then_writes = refl
