-- The definitions at small scripts, computed: what stands here was worked out by hand.
use Rattle.std.specs.Fmt.{digits}
use Rattle.std.proofs.Common.{◌≡◌, ℕ, List, [], ◌∷◌, refl, replicate, codes}
use Rattle.aio_model.specs.declared.serving.requests.Request.{Request}
use Rattle.aio_model.specs.declared.serving.requests.Request.TheVariants.{Read, Write, Flush}
use Rattle.aio_model.specs.declared.serving.replies.Reply.{Reply}
use Rattle.aio_model.specs.declared.serving.replies.Reply.TheVariants.{Put, Got, Flushed, Eio, Einval}
use Rattle.aio_model.specs.declared.serving.replies.Placed.{Placed}
use Rattle.aio_model.specs.declared.scripts.image_scripts.Step.{Step}
use Rattle.aio_model.specs.declared.scripts.image_scripts.What.TheVariants.{Ask, Delay, Move}
use Rattle.aio_model.specs.Serving.Asked.{asked}
use Rattle.aio_model.specs.Serving.{bytes_after}
use Rattle.aio_model.specs.Serving.SerialHistory.{bytes_left}
use Rattle.aio_model.specs.Scripts.PrintedText.{printed_text}

abbrev ask : ℕ → Request → Step
ask stream request = record { stream = stream; what = Ask request }

abbrev placed : ℕ → ℕ → Reply → Placed
placed stream index reply = record { stream = stream; index = index; reply = reply }

-- a write of two bytes, a read over them, a flush
abbrev write_read_flush : List Step
write_read_flush =
    ask 0 (Write 2 (104 ∷ 105 ∷ [])) ∷ ask 0 (Read 0 6) ∷ ask 0 Flush ∷ []

abbrev write_read_flush_served : List Placed
write_read_flush_served =
    placed 0 0 (Put 2) ∷ placed 0 1 (Got (0 ∷ 0 ∷ 104 ∷ 105 ∷ 0 ∷ 0 ∷ [])) ∷ placed 0 2 Flushed ∷ []

write_read_flush_text : printed_text (asked write_read_flush) write_read_flush_served
    ≡ codes "0 0 write ok 2\n1 0 read ok 000068690000\n2 0 flush ok\nend 3 0\n"
unfolding digits
write_read_flush_text = refl

write_read_flush_left : bytes_left (asked write_read_flush) write_read_flush_served (replicate 8 0)
    ≡ 0 ∷ 0 ∷ 104 ∷ 105 ∷ 0 ∷ 0 ∷ 0 ∷ 0 ∷ []
write_read_flush_left = refl

-- a read up to the image's end, and one past it
past_the_end_text :
    printed_text (asked (ask 0 (Read 8 8) ∷ ask 0 (Read 9 8) ∷ [])) (placed 0 0 (Got (replicate 8 0)) ∷ placed 0 1 Einval ∷ [])
    ≡ codes "0 0 read ok 0000000000000000\n1 0 read einval\nend 2 1\n"
unfolding digits
past_the_end_text = refl

-- reads of no byte
empty_reads_text :
    printed_text (asked (ask 0 (Read 16 0) ∷ ask 0 (Read 17 0) ∷ [])) (placed 0 0 (Got []) ∷ placed 0 1 Einval ∷ [])
    ≡ codes "0 0 read ok -\n1 0 read einval\nend 2 1\n"
unfolding digits
empty_reads_text = refl

-- a write whose second piece fails
failed_piece_text : printed_text (asked (ask 0 (Write 0 (255 ∷ [])) ∷ [])) (placed 0 0 (Eio 4096) ∷ [])
    ≡ codes "0 0 write eio 4096\nend 1 1\n"
unfolding digits
failed_piece_text = refl

failed_piece_left : bytes_after (Write 1 (255 ∷ 254 ∷ 253 ∷ [])) (Eio 2) (replicate 5 0) ≡ 0 ∷ 255 ∷ 254 ∷ 0 ∷ 0 ∷ []
failed_piece_left = refl

-- two streams, whose second replies first; moves and delays don't count
abbrev two_streams_lines : List Step
two_streams_lines =
    ask 0 (Write 0 (170 ∷ [])) ∷ record { stream = 0; what = Move 1 } ∷ ask 1 (Read 0 1) ∷ record { stream = 1; what = Delay 5 } ∷ ask 0 (Read 0 1) ∷ []

two_streams_text :
    printed_text (asked two_streams_lines) (placed 1 0 (Got (0 ∷ [])) ∷ placed 0 0 (Put 1) ∷ placed 0 1 (Got (170 ∷ [])) ∷ [])
    ≡ codes "1 0 write ok 1\n0 1 read ok 00\n2 0 read ok aa\nend 3 0\n"
unfolding digits
two_streams_text = refl
