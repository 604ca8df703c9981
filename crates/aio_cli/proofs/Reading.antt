-- How the reads of one text join up.
use Rattle.std.proofs.Common.{◌≡◌, ℕ, ◌<◌, true, false, List, [], ◌∷◌, Option, Some, None, refl, ap, ◌∙◌, inl, inr, arith}
use Rattle.aio_words.specs.declared.called.SourceCall.{SourceCall}
use Rattle.aio_words.specs.Content.{TakesBytes}
use Rattle.aio_cli.specs.Calls.{ReadsWell, Reads}
use Rattle.aio_cli.specs.Reading.{TakesAtMost, most_read}

-- no read
pub no_read_yet : (calls : List SourceCall) → ReadsWell calls calls
no_read_yet calls = record { reads = []; gave = tt; made = refl }

-- one more read that gave some bytes
pub one_read_more : (before between now : List SourceCall) (room n : ℕ)
    → ReadsWell before between → 0 < n → now ≡ record { room = room; got = Some n } ∷ between → ReadsWell before now
one_read_more before between now room n well some is = record {
  reads = record { room = room; got = Some n } ∷ well.reads;
  gave = (some, well.gave);
  made = is ∙ ap (λ calls. record { room = room; got = Some n } ∷ calls) well.made;
}

-- no read failed, and the last gave some bytes
pub reads_so_far : (before now : List SourceCall) → ReadsWell before now → Reads false before now
reads_so_far before now well = record { between = now; well = well; last = inl refl }

-- the last read found the end
pub reads_to_end : (before between now : List SourceCall) (room n : ℕ)
    → ReadsWell before between → n ≡ 0 → now ≡ record { room = room; got = Some n } ∷ between → Reads false before now
reads_to_end before between now room n well end is = record {
  between = between;
  well = well;
  last = inr (room, is ∙ ap (λ got. record { room = room; got = Some got } ∷ between) end);
}

-- the last read failed
pub reads_to_fault : (before between now : List SourceCall) (room : ℕ)
    → ReadsWell before between → now ≡ record { room = room; got = None } ∷ between → Reads true before now
reads_to_fault before between now room well is = record { between = between; well = well; last = (room, is) }

-- a source that wasn't called

nothing : (left : Option (List ℕ)) → TakesBytes left left []
nothing None = refl
nothing (Some bytes) = refl

pub takes_nothing : (left : Option (List ℕ)) → TakesAtMost most_read left left
takes_nothing left = record { text = []; taken = nothing left; few = omega arith }
