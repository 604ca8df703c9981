-- What the digits so far stand for.
use Rattle.std.proofs.Common.{◌≡◌, ◌^◌, ◌<◌, true, take}
use Rattle.std.specs.Char.{is_ascii_digit}
use Rattle.std.specs.List.{list_all}
use Rattle.aio_script.specs.Text.{decimal_value}
use Rattle.aio_script.proofs.text.read_digits.Given as goal

abbrev pub invariant-loop-digit : goal.invariant-loop-digit
invariant-loop-digit l = record {
  digits : list_all is_ascii_digit (take l.digit-index l.word) ≡ true;
  value : l.value ≡ decimal_value (take l.digit-index l.word);
  small : l.value < 10 ^ l.digit-index;
}
