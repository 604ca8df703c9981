use Rattle.std.proofs.Common.{◌∷◌}
use Rattle.aio_words.proofs.called.Trail.note.Given as goal

abbrev pub ghost-chosen_by : goal.ghost-chosen_by
ghost-chosen_by g a = a.call.now ∷ a.calls.now.value
