-- The calls that a run of the program makes of its source and its device.
use Rattle.std.specs.Prelude.{◌≡◌, ◌⊎◌, ℕ, ◌<◌, Bool, true, false, List, [], ◌∷◌, ◌++◌, Option, Some, None}
use Rattle.aio_words.specs.declared.called.SourceCall.{SourceCall}
use Rattle.aio_cli.specs.declared.answer.Answer.{Answer}
use Rattle.aio_cli.specs.declared.answer.Answer.TheVariants.{ReadFault}

-- the read gave some bytes
abbrev pub GaveSome : Option ℕ → Type 0
GaveSome None = ⊥
GaveSome (Some n) = 0 < n

-- each of the reads gave some
abbrev pub AllGaveSome : List SourceCall → Type 0
AllGaveSome [] = Unit {0}
AllGaveSome (call ∷ older) = GaveSome call.got × AllGaveSome older

-- reads were made, each of which gave some bytes
pub record ReadsWell (before now : List SourceCall) : Type 0 where
  pub reads : List SourceCall
  pub gave : AllGaveSome reads
  pub made : now ≡ reads ++ before

-- the last read failed; or none failed, and the last one may have found the end
abbrev pub EndsReading : Bool → List SourceCall → List SourceCall → Type 0
EndsReading true between now = (room : ℕ) × (now ≡ record { room = room; got = None } ∷ between)
EndsReading false between now = (now ≡ between) ⊎ ((room : ℕ) × (now ≡ record { room = room; got = Some 0 } ∷ between))

-- The reads of one text. Each but the last gave some bytes: after one that failed or found the end there is no other.
pub record Reads (failed : Bool) (before now : List SourceCall) : Type 0 where
  pub between : List SourceCall
  pub well : ReadsWell before between
  pub last : EndsReading failed between now

-- a read failed
abbrev pub is_read_fault : Answer → Bool
is_read_fault ReadFault = true
is_read_fault answer = false
