-- Where the words of the table stand: at places that no size moves.
use Rattle.std.specs.Prelude.{ℕ, ◌+◌, ◌*◌, List, slice_index}
use Rattle.aio_model.specs.Coroutines.History.{CoPlace, Free, Scheduled, Pushed}

abbrev pub head_at : ℕ
head_at = 0

abbrev pub mark_at : ℕ → ℕ
mark_at c = 1 + 2 * c

abbrev pub next_at : ℕ → ℕ
next_at c = 2 + 2 * c

abbrev pub word_count : ℕ → ℕ
word_count n = 1 + 2 * n

-- a mark is 0, or one more than the number of the seat that scheduled
abbrev pub mark_of : CoPlace → ℕ
mark_of Free = 0
mark_of (Scheduled seat given) = seat + 1
mark_of (Pushed seat given) = seat + 1

abbrev pub next_in : List ℕ → ℕ → ℕ
next_in words c = slice_index words (next_at c)
