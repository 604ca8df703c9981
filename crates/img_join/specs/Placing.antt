-- Replies put together from the journal and the streams' buffers, entry by entry.
use Rattle.std.specs.Prelude.{ℕ, ◌<◌, List, [], ◌∷◌, length, slice_index, get_or, set}
use Rattle.aio_model.specs.declared.serving.replies.Placed.{Placed}
use Rattle.img_requests.specs.Journal.{reply_of}
use Rattle.img_shared.specs.declared.journal.Entry.{Entry}

-- the buffers of a stream that are left
abbrev pub row_at : List (List (List ℕ)) → ℕ → List (List ℕ)
row_at rows stream = get_or rows stream []

abbrev pub first_buffer : List (List ℕ) → List ℕ
first_buffer [] = []
first_buffer (buffer ∷ row) = buffer

abbrev pub rest_of : List (List ℕ) → List (List ℕ)
rest_of [] = []
rest_of (buffer ∷ row) = row

-- an entry's reply under its stream's id, where a read found these bytes
abbrev pub placed_as : {D : Type 0} → List ℕ → Entry D → List ℕ → Placed
placed_as ids entry found = record { stream = slice_index ids entry.stream; index = entry.index; reply = reply_of entry.mark found }

-- each entry takes the next buffer of its stream
abbrev pub placed_from : {D : Type 0} → List ℕ → List (Entry D) → List (List (List ℕ)) → List Placed
placed_from ids [] rows = []
placed_from ids (entry ∷ entries) rows =
    placed_as ids entry (first_buffer (row_at rows entry.stream)) ∷ placed_from ids entries (set rows entry.stream (rest_of (row_at rows entry.stream)))

-- each entry is of one of the streams and finds a buffer
abbrev pub HaveAll : {D : Type 0} → List ℕ → List (Entry D) → List (List (List ℕ)) → Type 0
HaveAll ids [] rows = Unit {0}
HaveAll ids (entry ∷ entries) rows =
    (entry.stream < length ids) × (entry.stream < length rows) × (0 < length (row_at rows entry.stream))
    × HaveAll ids entries (set rows entry.stream (rest_of (row_at rows entry.stream)))
