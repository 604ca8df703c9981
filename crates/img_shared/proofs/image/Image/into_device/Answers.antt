use Rattle.img_shared.proofs.image.Image.into_device.Goals as goal

pub returns-clause-whole : goal.returns-clause-whole
returns-clause-whole g c = c.journal.ensures.whole
