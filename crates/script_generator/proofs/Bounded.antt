-- The generated script is within the limits of scripts.
use Rattle.std.proofs.Common.{◌≡◌, ℕ, ◌+◌, ◌*◌, ◌/◌, ◌%◌, ◌<◌, ◌≤◌, ◌==◌, Bool, true, false, nat_lt, List, [], ◌∷◌, ◌++◌, zero, suc, length, sym, refl, subst, append-nil, rules, count_by, sum_by, not, if◌then◌else◌, Result, Ok, Err, IfOk, arith}
use Rattle.std.specs.List.{AllByRecursion, IsDistinct}
use Rattle.std.proofs.Math.Nat.{mod-lt}
use Rattle.std.proofs.lemmas.List.{length-append}
use Rattle.std.proofs.lemmas.List.Sums.{sum_by-append}
use Rattle.aio_model.specs.declared.memory.NoMemory.{NoMemory}
use Rattle.aio_model.specs.declared.serving.requests.Request.TheVariants.{Read, Write, Zero, Flush}
use Rattle.aio_model.specs.declared.scripts.image_scripts.Script.{Script}
use Rattle.aio_model.specs.declared.scripts.image_scripts.Step.{Step}
use Rattle.aio_model.specs.declared.scripts.image_scripts.What.TheVariants.{Ask, Move}
use Rattle.aio_model.specs.Serving.Asked.{is_ask}
use Rattle.aio_model.specs.Serving.{length_of}
use Rattle.aio_script.specs.Image.Bounds.{AreApart, IsAtHome, IsBounded, IsWithin}
use Rattle.aio_script.specs.Image.Grammar.{bytes_moved, has_stream}
use Rattle.aio_script.proofs.Bounded.{all_one_more}
use Rattle.aio_script.proofs.LinesRead.{count_by-one}
use Rattle.script_generator.specs.Generated.{ask_line, bytes_to, drawn, generated, lines_to, request_at, streams_to}

-- lines with no more requests, pauses and bytes than these, each of a stream of the script
record AreFew (requests pauses moved : ℕ) (lines : List Step) : Type 0 where
  asks : count_by (λ (s : Step). is_ask s.what) lines ≤ requests
  stops : count_by (λ (s : Step). not (is_ask s.what)) lines ≤ pauses
  bytes : sum_by (λ (s : Step). bytes_moved s.what) lines ≤ moved
  each : AllByRecursion (IsWithin 4 (streams_to 8)) lines

-- ---- streams

known : (r : ℕ) → r < 8 → has_stream r (streams_to 8) ≡ true
known zero p = refl
known (suc zero) p = refl
known (suc (suc zero)) p = refl
known (suc (suc (suc zero))) p = refl
known (suc (suc (suc (suc zero)))) p = refl
known (suc (suc (suc (suc (suc zero))))) p = refl
known (suc (suc (suc (suc (suc (suc zero)))))) p = refl
known (suc (suc (suc (suc (suc (suc (suc zero))))))) p = refl
known (suc (suc (suc (suc (suc (suc (suc (suc n)))))))) p = absurd (omega (arith, p))

homes : (s : ℕ) → s ≤ 8 → AllByRecursion (IsAtHome 4) (streams_to s)
homes zero p = tt
homes (suc s) p =
    let within : s ≤ 8 = omega (arith, p) in
    all_one_more (IsAtHome 4) (streams_to s) (record { id = s; home = s % 4 }) (homes s within)
    (record { id = omega (arith, p); home = mod-lt s {m = 4} (omega arith) })

apart : AreApart (streams_to 8)
unfolding IsDistinct
apart = search rules

-- ---- lines

bytes_to-length : (k j : ℕ) → length (bytes_to k j) ≡ j
unfolding bytes_to
bytes_to-length k zero = refl
bytes_to-length k (suc j) =
    let more = length-append (bytes_to k j) ((k + j) % 256 ∷ []) in
    let before = bytes_to-length k j in
    omega (arith, more, before)

little_by : (b c d : Bool) (at : ℕ) (bytes : List ℕ) → length bytes ≡ 64
    → (length_of (if b then Write at bytes else if c then Read at 64 else if d then Zero at 8192 else Flush) ≤ 65536)
    × (bytes_moved (Ask (if b then Write at bytes else if c then Read at 64 else if d then Zero at 8192 else Flush)) ≤ 64)
little_by true c d at bytes e = (omega (arith, e), omega (arith, e))
little_by false true d at bytes e = (omega arith, omega arith)
little_by false false true at bytes e = (omega arith, omega arith)
little_by false false false at bytes e = (omega arith, omega arith)

little : (k at : ℕ) → (length_of (request_at k at) ≤ 65536) × (bytes_moved (Ask (request_at k at)) ≤ 64)
little k at = little_by (nat_lt (k % 8) 3) (nat_lt (k % 8) 6) (k % 8 == 6) at (bytes_to k 64) (bytes_to-length k 64)

few-ask : (k x requests pauses moved : ℕ) (lines : List Step) → AreFew requests pauses moved lines
    → AreFew (requests + 1) pauses (moved + 64) (lines ++ ask_line k x ∷ [])
few-ask k x requests pauses moved lines few =
    let step = ask_line k x in
    let small = little k (16 * x) in
    let asks = count_by-one (λ (s : Step). is_ask s.what) lines step in
    let stops = count_by-one (λ (s : Step). not (is_ask s.what)) lines step in
    let bytes = sum_by-append (λ (s : Step). bytes_moved s.what) lines (step ∷ []) in
    record {
      asks = omega (arith, few.asks, asks);
      stops = omega (arith, few.stops, stops);
      bytes = omega (arith, few.bytes, bytes, small.1);
      each = all_one_more (IsWithin 4 (streams_to 8)) lines step few.each
          (record { known = known (k % 8) (mod-lt k {m = 8} (omega arith)); little = small.0 });
    }

few-move : (loop requests pauses moved : ℕ) (lines : List Step) → loop < 4 → AreFew requests pauses moved lines
    → AreFew requests (pauses + 1) moved (lines ++ record { stream = 7; what = Move loop } ∷ [])
few-move loop requests pauses moved lines home few =
    let step : Step = record { stream = 7; what = Move loop } in
    let asks = count_by-one (λ (s : Step). is_ask s.what) lines step in
    let stops = count_by-one (λ (s : Step). not (is_ask s.what)) lines step in
    let bytes = sum_by-append (λ (s : Step). bytes_moved s.what) lines (step ∷ []) in
    record {
      asks = omega (arith, few.asks, asks);
      stops = omega (arith, few.stops, stops);
      bytes = omega (arith, few.bytes, bytes);
      each = all_one_more (IsWithin 4 (streams_to 8)) lines step few.each (record { known = refl; little = home });
    }

few-moves : (b : Bool) (loop requests pauses moved : ℕ) (lines : List Step) → loop < 4 → AreFew requests pauses moved lines
    → AreFew requests (pauses + 1) moved (lines ++ (if b then record { stream = 7; what = Move loop } ∷ [] else []))
few-moves true loop requests pauses moved lines home few = few-move loop requests pauses moved lines home few
few-moves false loop requests pauses moved lines home few =
    let same = append-nil lines in
    subst (AreFew requests (pauses + 1) moved) (sym same)
    (record { asks = few.asks; stops = omega (arith, few.stops); bytes = few.bytes; each = few.each })

few-lines : (from k : ℕ) → AreFew k k (64 * k) (lines_to from k)
few-lines from zero = record { asks = omega arith; stops = omega arith; bytes = omega arith; each = tt }
few-lines from (suc k) =
    let asked = few-ask k (drawn from (suc k)) k k (64 * k) (lines_to from k) (few-lines from k) in
    let lines = lines_to from k ++ ask_line k (drawn from (suc k)) ∷ [] in
    let few = few-moves (k % 16 == 15) ((k / 16) % 4) (k + 1) k (64 * k + 64) lines (mod-lt (k / 16) {m = 4} (omega arith)) asked in
    record { asks = omega (arith, few.asks); stops = omega (arith, few.stops); bytes = omega (arith, few.bytes); each = few.each }

generated-bounded : (n from : ℕ) → n ≤ 4096 → IsBounded (generated n from)
generated-bounded n from low =
    let few = few-lines from n in
    record {
      image = omega arith;
      some_loop = omega arith;
      few_loops = omega arith;
      few_streams = omega arith;
      apart = apart;
      at_home = homes 8 (omega arith);
      few = omega (arith, few.asks, low);
      few_pauses = omega (arith, few.stops, low);
      moved = omega (arith, few.bytes, low);
      each = few.each;
    }

pub bounded_if-generated : (n from : ℕ) (result : Result Script NoMemory) → n ≤ 4096
    → IfOk result (λ script. script ≡ generated n from) → IfOk result IsBounded
bounded_if-generated n from (Ok script) low same = subst IsBounded (sym same) (generated-bounded n from low)
bounded_if-generated n from (Err memory) low same = tt
