-- Lines read one behind the other.
use Rattle.std.proofs.Common.{◌≡◌, Bool, ℕ, ◌+◌, List, [], ◌∷◌, ◌++◌, sym, ap, ◌∙◌, arith, append-nil, Result, Ok, Err, count_by, sum_by, not, if◌then◌else◌}
use Rattle.std.proofs.lemmas.List.Elements.{filter_map-append}
use Rattle.std.proofs.lemmas.List.Sums.{fold_push, sum_by-append}
use Rattle.aio_model.specs.declared.scripts.image_scripts.Stream.{Stream}
use Rattle.aio_model.specs.declared.scripts.image_scripts.Step.{Step}
use Rattle.aio_model.specs.declared.scripts.image_scripts.What.{What}
use Rattle.aio_model.specs.declared.scripts.image_scripts.What.TheVariants.{Ask, Delay, Move}
use Rattle.aio_model.specs.Serving.Asked.{is_ask}
use Rattle.aio_script.specs.declared.refusals.ScriptRefusal.{ScriptRefusal}
use Rattle.aio_script.specs.declared.refusals.ScriptFail.{ScriptFail}
use Rattle.aio_script.specs.declared.refusals.ScriptFail.TheVariants.{Refused, NoMemory}
use Rattle.aio_script.specs.declared.image.said.Said.{Said}
use Rattle.aio_script.specs.declared.image.said.Said.TheVariants.{Declares, Does}
use Rattle.aio_script.specs.declared.image.said.Counts.{Counts}
use Rattle.aio_script.specs.Lines.{Numbered}
use Rattle.aio_script.specs.Image.Grammar.{◌>>=◌, all_said, bytes_moved, counts_of, declared, step_done, said_at, script_below, steps_in, streams_in}
use Rattle.aio_script.specs.Image.Progress.{counts_after, counts_with, HasRead}
use Rattle.aio_script.specs.Image.Reading.{Gives, GivesScript}

module _ (loops : ℕ) (whole left behind : List Numbered) (numbered : Numbered) (streams : List Stream) (steps : List Step)
    (read : HasRead loops whole left streams steps) (cut : left ≡ numbered ∷ behind)
    (shown : List Stream) (counts : Counts) (same : shown ≡ streams) (counted : counts ≡ counts_of steps) where
  -- what the whole says is what this line says, and then those behind it
  goes_on_at : all_said loops [] whole
      ≡ (said_at loops shown counts numbered >>= λ said. all_said loops (read.above ++ said ∷ []) behind)
  goes_on_at =
      read.goes_on
      ∙ ap (all_said loops read.above) cut
      ∙ ap (λ (ss : List Stream). said_at loops ss (counts_of (steps_in read.above)) numbered >>= λ said. all_said loops (read.above ++ said ∷ []) behind) (sym (same ∙ read.same_streams))
      ∙ ap (λ (n : Counts). said_at loops shown n numbered >>= λ said. all_said loops (read.above ++ said ∷ []) behind) (sym (counted ∙ ap counts_of read.same_steps))

  pub HasRead-line : (said : Said) → said_at loops shown counts numbered ≡ Ok said
      → HasRead loops whole behind (streams ++ streams_in (said ∷ [])) (steps ++ steps_in (said ∷ []))
  HasRead-line said e = record {
    above = read.above ++ said ∷ [];
    same_streams = ap (λ (ss : List Stream). ss ++ streams_in (said ∷ [])) read.same_streams ∙ sym (filter_map-append declared read.above (said ∷ []));
    same_steps = ap (λ (ss : List Step). ss ++ steps_in (said ∷ [])) read.same_steps ∙ sym (filter_map-append step_done read.above (said ∷ []));
    goes_on = goes_on_at ∙ ap (λ (r : Result Said ScriptRefusal). r >>= λ s. all_said loops (read.above ++ s ∷ []) behind) e;
  }

  refused : (image : ℕ) (e : ScriptRefusal) → said_at loops shown counts numbered ≡ Err e → script_below image loops whole ≡ Err e
  refused image e h =
      let all : all_said loops [] whole ≡ Err e = goes_on_at ∙ ap (λ (r : Result Said ScriptRefusal). r >>= λ s. all_said loops (read.above ++ s ∷ []) behind) h in
      ap (λ (r : Result (List Said) ScriptRefusal). r >>= λ said. Ok (record { image = image; loops = loops; streams = streams_in said; lines = steps_in said })) all

  -- a line that gives no script
  pub GivesScript-stops : (image : ℕ) (fail : ScriptFail) → Gives (said_at loops shown counts numbered) (Err fail)
      → GivesScript (script_below image loops whole) (Err fail)
  GivesScript-stops image (Refused e) h = refused image e h
  GivesScript-stops image NoMemory h = tt

pub count_by-one : {X : Type 0} (p : X → Bool) (xs : List X) (x : X) → count_by p (xs ++ x ∷ []) ≡ count_by p xs + (if p x then 1 else 0)
count_by-one p xs x = fold_push _ 0 xs x

counts_of-at : (requests pauses moved : ℕ) (counts : Counts)
    → counts.requests ≡ requests → counts.pauses ≡ pauses → counts.moved ≡ moved
    → counts ≡ record { requests = requests; pauses = pauses; moved = moved }
counts_of-at requests pauses moved counts p q r =
    let first : ℕ → Counts = λ n. record { requests = n; pauses = counts.pauses; moved = counts.moved } in
    let second : ℕ → Counts = λ n. record { requests = requests; pauses = n; moved = counts.moved } in
    let third : ℕ → Counts = λ n. record { requests = requests; pauses = pauses; moved = n } in
    ap first p ∙ ap second q ∙ ap third r

module _ (steps : List Step) (step : Step) where
  requests_of-step : count_by (λ (s : Step). is_ask s.what) (steps ++ step ∷ []) ≡ (counts_of steps).requests + (if is_ask step.what then 1 else 0)
  requests_of-step = count_by-one (λ s. is_ask s.what) steps step

  pauses_of-step : count_by (λ (s : Step). not (is_ask s.what)) (steps ++ step ∷ []) ≡ (counts_of steps).pauses + (if not (is_ask step.what) then 1 else 0)
  pauses_of-step = count_by-one (λ s. not (is_ask s.what)) steps step

  moved_of-step : sum_by (λ (s : Step). bytes_moved s.what) (steps ++ step ∷ []) ≡ (counts_of steps).moved + sum_by (λ (s : Step). bytes_moved s.what) (step ∷ [])
  moved_of-step = sum_by-append (λ s. bytes_moved s.what) steps (step ∷ [])

counts_of-step : (steps : List Step) (stream : ℕ) (what : What)
    → counts_of (steps ++ record { stream = stream; what = what } ∷ []) ≡ counts_after (counts_of steps) what
counts_of-step steps stream (Ask request) =
    let step : Step = record { stream = stream; what = Ask request } in
    let was = counts_of steps in
    counts_of-at (was.requests + 1) was.pauses (was.moved + bytes_moved (Ask request)) (counts_of (steps ++ step ∷ []))
    (omega (arith, requests_of-step steps step)) (omega (arith, pauses_of-step steps step)) (omega (arith, moved_of-step steps step))
counts_of-step steps stream (Delay ns) =
    let step : Step = record { stream = stream; what = Delay ns } in
    let was = counts_of steps in
    counts_of-at was.requests (was.pauses + 1) was.moved (counts_of (steps ++ step ∷ []))
    (omega (arith, requests_of-step steps step)) (omega (arith, pauses_of-step steps step)) (omega (arith, moved_of-step steps step))
counts_of-step steps stream (Move loop) =
    let step : Step = record { stream = stream; what = Move loop } in
    let was = counts_of steps in
    counts_of-at was.requests (was.pauses + 1) was.moved (counts_of (steps ++ step ∷ []))
    (omega (arith, requests_of-step steps step)) (omega (arith, pauses_of-step steps step)) (omega (arith, moved_of-step steps step))

pub counts_of-line : (steps : List Step) (said : Said) → counts_of (steps ++ steps_in (said ∷ [])) ≡ counts_with (counts_of steps) said
counts_of-line steps (Declares stream) = ap counts_of (append-nil steps)
counts_of-line steps (Does step) = counts_of-step steps step.stream step.what
