-- The journal: an entry for each request that has its reply, in the order of their places.
use Rattle.std.specs.Prelude.{ℕ, ◌==◌, List, count_by, Option, Some, None}
use Rattle.aio_model.specs.declared.serving.replies.Reply.{Reply}
use Rattle.aio_model.specs.declared.serving.replies.Reply.TheVariants as reply
use Rattle.img_requests.specs.declared.journal.Mark.{Mark}
use Rattle.img_requests.specs.declared.journal.Mark.TheVariants.{Put, Got, Zeroed, Flushed, Eio, Einval}
use Rattle.img_requests.specs.declared.journal.Entry.{Entry}
use Rattle.img_requests.specs.declared.present.RequestKind.{RequestKind}
use Rattle.img_requests.specs.declared.present.RequestKind.TheVariants.{Read, Write, Zero, Flush}
use Rattle.img_requests.specs.declared.present.Stage.{Stage}
use Rattle.img_requests.specs.declared.present.Stage.TheVariants.{Begun, Whole, Failed}
use Rattle.img_requests.specs.declared.present.Present.{Present}

-- how many entries are of the stream
abbrev pub entry_count : ℕ → List Entry → ℕ
entry_count stream journal = count_by (λ entry. entry.stream == stream) journal

-- the stream's next entry
abbrev pub entry_next : ℕ → List Entry → Mark → Entry
entry_next stream journal mark = record { stream = stream; index = entry_count stream journal; mark = mark }

-- the mark of a request that was served whole
abbrev pub good_mark : RequestKind → ℕ → Mark
good_mark Read length = Got length
good_mark Write length = Put length
good_mark Zero length = Zeroed length
good_mark Flush length = Flushed

-- the mark of a request that ended at this stage, with so many bytes done
abbrev pub mark_ended_at : Stage → RequestKind → ℕ → ℕ → Mark
mark_ended_at Failed kind length done = Eio done
mark_ended_at Whole kind length done = good_mark kind length
mark_ended_at Begun kind length done = Eio done

-- the mark of the present request, which has ended
abbrev pub mark_of_present : Option Present → Mark
mark_of_present None = Einval
mark_of_present (Some present) = mark_ended_at present.stage present.kind present.length present.done

-- the reply of a mark, where a read found these bytes
abbrev pub reply_of : Mark → List ℕ → Reply
reply_of (Put n) found = reply.Put n
reply_of (Got n) found = reply.Got found
reply_of (Zeroed n) found = reply.Zeroed n
reply_of Flushed found = reply.Flushed
reply_of (Eio k) found = reply.Eio k
reply_of Einval found = reply.Einval
