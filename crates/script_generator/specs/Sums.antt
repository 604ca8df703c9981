-- What a run of the generated script comes to, and the four lines that tell it.
use Rattle.std.specs.Prelude.{ℕ, ◌-◌, ◌^◌, min, List, ◌++◌, codes, decimal, length, map, sum}
use Rattle.aio_model.specs.declared.serving.replies.Reply.{Reply}
use Rattle.aio_model.specs.declared.serving.replies.Reply.TheVariants.{Put, Got, Zeroed}
use Rattle.aio_model.specs.declared.serving.replies.Placed.{Placed}
use Rattle.aio_model.specs.Scripts.PrintedText.{end_line}
use Rattle.aio_model.specs.Serving.SerialHistory.{errors_of}
use Rattle.script_generator.specs.declared.sums.Sums.{Sums}

-- how many bytes a reply tells as written, as found by a read, and as made zero

abbrev pub written_bytes : Reply → ℕ
written_bytes (Put n) = n
written_bytes reply = 0

abbrev pub got_by : Reply → ℕ
got_by (Got bytes) = length bytes
got_by reply = 0

abbrev pub zeroed_by : Reply → ℕ
zeroed_by (Zeroed n) = n
zeroed_by reply = 0

-- the sums over all replies

abbrev pub written_in : List Placed → ℕ
written_in served = sum (map (λ placed. written_bytes placed.reply) served)

abbrev pub got_in : List Placed → ℕ
got_in served = sum (map (λ placed. got_by placed.reply) served)

abbrev pub zeroed_in : List Placed → ℕ
zeroed_in served = sum (map (λ placed. zeroed_by placed.reply) served)

-- a sum that stays at the greatest u64
abbrev pub held : ℕ → ℕ
held total = min total (2 ^ 64 - 1)

-- the sums of a run of n requests, with so many first entries of a coroutine and so many moves
abbrev pub sums_of : ℕ → ℕ → ℕ → ℕ → List Placed → Sums
sums_of n from begun moved served = record {
  n = n;
  from = from;
  begun = begun;
  moved = moved;
  written = held (written_in served);
  got = held (got_in served);
  zeroed = held (zeroed_in served);
  errors = errors_of served;
}

-- two numbers, with a text before, between and behind them
abbrev pub pair_text : List ℕ → ℕ → List ℕ → ℕ → List ℕ → List ℕ
pair_text before a between b behind = before ++ (decimal a ++ (between ++ (decimal b ++ behind)))

abbrev pub gen_line : ℕ → ℕ → List ℕ
gen_line n from = pair_text (codes "gen ") n (codes " ") from (codes "\n")

abbrev pub begun_line : ℕ → ℕ → List ℕ
begun_line begun moved = pair_text (codes "begun ") begun (codes " moved ") moved (codes "\n")

abbrev pub bytes_line : ℕ → ℕ → ℕ → List ℕ
bytes_line written got zeroed = pair_text (codes "bytes ") written (codes " ") got (codes " " ++ (decimal zeroed ++ codes "\n"))

-- the four lines
abbrev pub sums_text : Sums → List ℕ
sums_text sums =
    gen_line sums.n sums.from ++ (begun_line sums.begun sums.moved
    ++ (bytes_line sums.written sums.got sums.zeroed ++ end_line sums.n sums.errors))
