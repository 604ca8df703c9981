-- The grammar at small texts, computed: what stands here was worked out by hand.
use Rattle.std.proofs.Common.{◌≡◌, [], ◌∷◌, refl, codes, Ok, Err}
use Rattle.hex.specs.Hex.{decode_pairs}
use Rattle.aio_model.specs.declared.serving.requests.Request.TheVariants.{Read, Write, Zero, Flush}
use Rattle.aio_model.specs.declared.scripts.image_scripts.What.TheVariants.{Ask, Delay, Move}
use Rattle.aio_script.specs.declared.refusals.ScriptRefusal.TheVariants.{BadLine, BadNumber, OutOfLimit, UnknownStream, NoHeader}
use Rattle.aio_script.specs.Image.Grammar.{script_said}

empty_text : script_said [] ≡ Err NoHeader
empty_text = refl

no_stream : script_said (codes "image 16\nloops 3") ≡ Ok (record { image = 16; loops = 3; streams = []; lines = [] })
no_stream = refl

unknown_stream : script_said (codes "image 16\nloops 1\n0 flush\n") ≡ Err (UnknownStream 3)
unknown_stream = refl

a_stream_that_moves : script_said (codes "image 1048576\nloops 4\nstream 5 2\n5 zero 0 65536\n5 write 510 55aa\n5 move 3\n5 delay 1000\n5 flush\n5 read 508 4\n")
    ≡ Ok (record {
      image = 1048576;
      loops = 4;
      streams = record { id = 5; home = 2 } ∷ [];
      lines =
          record { stream = 5; what = Ask (Zero 0 65536) } ∷ record { stream = 5; what = Ask (Write 510 (85 ∷ 170 ∷ [])) }
          ∷ record { stream = 5; what = Move 3 } ∷ record { stream = 5; what = Delay 1000 }
          ∷ record { stream = 5; what = Ask Flush } ∷ record { stream = 5; what = Ask (Read 508 4) } ∷ [];
    })
unfolding decode_pairs
a_stream_that_moves = refl

-- which refusal comes first on one line
header_is_no_words : script_said (codes "image  16\nloops 1\n") ≡ Err (BadLine 1)
header_is_no_words = refl

second_header_missing : script_said (codes "image 16\n# nothing\n") ≡ Err NoHeader
second_header_missing = refl

header_behind_a_bad_one : script_said (codes "image x\nstream 0 0\n") ≡ Err (BadNumber 1)
header_behind_a_bad_one = refl

image_too_large : script_said (codes "image 1048577\nloops 1\n") ≡ Err (OutOfLimit 1)
image_too_large = refl

no_loop : script_said (codes "image 1\nloops 0\n") ≡ Err (OutOfLimit 2)
no_loop = refl

stream_twice : script_said (codes "image 1\nloops 1\nstream 0 0\nstream 0 9\n") ≡ Err (BadLine 4)
stream_twice = refl

stream_twice_with_no_number : script_said (codes "image 1\nloops 1\nstream 0 0\nstream 0 x\n") ≡ Err (BadNumber 4)
stream_twice_with_no_number = refl

second_image_line : script_said (codes "image 1\nloops 1\nimage read 0 0\n") ≡ Err (BadLine 3)
second_image_line = refl

verb_first : script_said (codes "image 1\nloops 1\nread read 0 70000\n") ≡ Err (BadNumber 3)
verb_first = refl

limit_before_stream : script_said (codes "image 1\nloops 1\n7 read 0 65537\n") ≡ Err (OutOfLimit 3)
limit_before_stream = refl

move_past_the_loops : script_said (codes "image 1\nloops 1\nstream 0 0\n0 move 1\n") ≡ Err (OutOfLimit 4)
move_past_the_loops = refl
