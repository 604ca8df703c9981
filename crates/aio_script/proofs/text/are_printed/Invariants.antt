-- Whether the bytes so far are printed.
use Rattle.std.proofs.Common.{◌≡◌, ◌&&◌, nat_le, take}
use Rattle.std.specs.List.{list_all}
use Rattle.aio_script.proofs.text.are_printed.Given as goal

abbrev pub invariant-loop-byte : goal.invariant-loop-byte
invariant-loop-byte l = record {
  printed : l.all ≡ list_all (λ byte. nat_le 33 byte && nat_le byte 126) (take l.byte-index l.word);
}
