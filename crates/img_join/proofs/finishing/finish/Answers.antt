use Rattle.img_join.proofs.ByEntry.{have_all}
use Rattle.img_join.proofs.Ended.{served_whole, charged_for, known_ids}
use Rattle.img_join.proofs.finishing.finish.Goals as goal

pub place_all-requires-clause-all : goal.place_all-requires-clause-all
place_all-requires-clause-all g c =
    rw c.journal.ensures.entries
    (have_all c.args.ids.now c.args.image.journal c.args.buffers
    (known_ids _ _ c.args.image.journal c.requires.streams c.journal.ensures.whole.known)
    c.requires.rows c.requires.buffered)

pub returns-clause-whole : goal.returns-clause-whole
returns-clause-whole g c =
    served_whole g.D.Device.bytes g.D.Device.extent g.D.Device.faults g.D.Device.size_faults g.D.Device.calls c.args.ids.now c.args.image c.args.buffers _
    c.requires.streams c.journal.ensures.whole
    (have_all c.args.ids.now c.args.image.journal c.args.buffers
    (known_ids _ _ c.args.image.journal c.requires.streams c.journal.ensures.whole.known)
    c.requires.rows c.requires.buffered)
    (rw c.journal.ensures.entries at c.place_all.ensures)

pub returns-clause-charged : goal.returns-clause-charged
returns-clause-charged g c =
    charged_for g.D.Device.bytes g.D.Device.extent g.D.Device.faults g.D.Device.size_faults g.D.Device.calls c.args.ids.now c.args.image c.args.buffers _
    c.requires.streams c.journal.ensures.whole
    (rw c.journal.ensures.entries at c.place_all.ensures)
