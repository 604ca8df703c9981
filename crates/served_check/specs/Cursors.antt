-- How far each stream of a script is.
use Rattle.std.specs.Prelude.{◌≡◌, ℕ, ◌+◌, ◌<◌, ◌≤◌, ◌==◌, ◌&&◌, Bool, true, false, List, length, set, take, slice_get, slice_index, Option, Some, None, unwrap_or, if◌then◌else◌}
use Rattle.std.specs.BTreeMap.{get}
use Rattle.std.specs.Ordering.{nat_cmp}
use Rattle.aio_model.specs.declared.serving.requests.Request.{Request}
use Rattle.aio_model.specs.declared.serving.replies.Placed.{Placed}
use Rattle.aio_model.specs.declared.scripts.image_scripts.Step.{Step}
use Rattle.aio_model.specs.Serving.Asked.{Asked, is_ask, requests_of, request_named}
use Rattle.served_check.specs.declared.cursors.Cursor.{Cursor}
use Rattle.served_check.specs.declared.cursors.Cursors.{Cursors}

-- a stream that isn't in the map has no request
abbrev pub cursor_at : Cursors → ℕ → Cursor
cursor_at cursors stream = unwrap_or (get nat_cmp cursors.streams stream) (record { line = length cursors.next.items; done = 0 })

-- how many requests of a stream were served
abbrev pub done_at : Cursors → ℕ → ℕ
done_at cursors stream = (cursor_at cursors stream).done

abbrev pub none_done : ℕ → ℕ
none_done stream = 0

-- with one more of this stream
abbrev pub one_more_of : ℕ → (ℕ → ℕ) → ℕ → ℕ
one_more_of stream done other = if stream == other then done other + 1 else done other

-- a line asks a request of this stream
abbrev pub is_of : ℕ → Option Step → Bool
is_of stream None = false
is_of stream (Some step) = step.stream == stream && is_ask step.what

-- A stream's first request from one line on is on the other line, or that is the lines' end and there is none.
pub record IsNextAt (lines : List Step) (stream start line : ℕ) : Type 0 where
  pub inside : line ≤ length lines
  pub between : requests_of stream (take line lines) ≡ requests_of stream (take start lines)
  pub asks : line < length lines → is_of stream (slice_get lines line) ≡ true

-- A stream's cursor is at its next request, or at the lines' end, and above it stand the requests that were served.
pub record CursorStands (lines : List Step) (stream : ℕ) (cursor : Cursor) : Type 0 where
  pub inside : cursor.line ≤ length lines
  pub above : requests_of stream (take cursor.line lines) ≡ cursor.done
  pub asks : cursor.line < length lines → is_of stream (slice_get lines cursor.line) ≡ true

-- from a line on, each line that asks a request has the line of its stream's next one
pub record AreLinked (lines : List Step) (start : ℕ) (next : List ℕ) : Type 0 where
  pub long : length next ≡ length lines
  pub each : (stream line : ℕ) → start ≤ line → line < length lines → is_of stream (slice_get lines line) ≡ true
      → IsNextAt lines stream (line + 1) (slice_index next line)

pub record AreAt (lines : List Step) (cursors : Cursors) : Type 0 where
  pub linked : AreLinked lines 0 cursors.next.items
  pub at : (stream : ℕ) → CursorStands lines stream (cursor_at cursors stream)

-- a line was noted above all others
pub record Notes (line : ℕ) (step : Step) (old new : Cursors) : Type 0 where
  pub silent : is_ask step.what ≡ false → new ≡ old
  pub next : is_ask step.what ≡ true → new.next.items ≡ set old.next.items line (cursor_at old step.stream).line
  pub cursors : is_ask step.what ≡ true → (other : ℕ)
      → cursor_at new other ≡ (if step.stream == other then record { line = line; done = 0 } else cursor_at old other)

-- a reply has the name of its stream's next request
pub record IsAsked (asked : List Asked) (done : ℕ → ℕ) (placed : Placed) : Type 0 where
  pub due : placed.index ≡ done placed.stream
  pub request : Request
  pub named : request_named asked placed.stream placed.index ≡ Some request
