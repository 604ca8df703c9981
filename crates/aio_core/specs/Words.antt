-- Where the words of a loop's table stand: at places that no size moves.
use Rattle.std.specs.Prelude.{ℕ, ◌+◌, ◌*◌, List, if◌then◌else◌, slice_index}
use Rattle.aio_model.specs.Loop.History.{Sizes, History}
use Rattle.aio_model.specs.Loop.Flags.{has_life, flags_of}
use Rattle.aio_model.specs.Loop.FlagsWord.{word_of}

-- the first of the list of what was pushed: 0 where there is none, else one more than its index
abbrev pub head_at : ℕ
head_at = 0

abbrev pub notified_at : ℕ
notified_at = 1

abbrev pub notify_me_at : ℕ
notify_me_at = 2

abbrev pub notifier_at : ℕ
notifier_at = 3

abbrev pub event_at : ℕ → ℕ
event_at event = 4 + event

-- there is room for 64 events, whatever the number of events
abbrev pub flags_at : ℕ → ℕ
flags_at i = 68 + 2 * i

-- what follows the index in its list, as the first is told
abbrev pub next_at : ℕ → ℕ
next_at i = 69 + 2 * i

abbrev pub index_count : Sizes → ℕ
index_count sizes = sizes.handles + sizes.lots

abbrev pub word_count : Sizes → ℕ
word_count sizes = 68 + 2 * index_count sizes

-- the flags word of a lot without a life
abbrev pub free_word : ℕ
free_word = 32

abbrev pub flags_word : Sizes → ℕ → History → ℕ
flags_word sizes i history =
    if has_life sizes i history then word_of (flags_of i history) else free_word

abbrev pub next_in : List ℕ → ℕ → ℕ
next_in words i = slice_index words (next_at i)
