-- How often coroutines moved is the number of states that came with schedules, without that of the streams.
use Rattle.std.proofs.Common.{◌≡◌, ◌≢◌, ℕ, zero, suc, ◌+◌, ◌-◌, ◌<◌, ◌≤◌, Bool, true, false, cond, List, [], ◌∷◌, length, sum_by, slice_index, slice_index_or, refl, sym, ap, ◌∙◌, arith}
use Rattle.std.proofs.lemmas.Bool.{false≢true, eq-eqb, ne_eqb}
use Rattle.std.proofs.lemmas.List.Sums.{sum_by-cons, sum-map}
use Rattle.std.specs.List.{AllByRecursion}
use Rattle.aio_model.specs.declared.coroutines.causes.Cause.TheVariants.{Begin, Wake, Move}
use Rattle.aio_model.specs.declared.scripts.image_scripts.Script.{Script}
use Rattle.aio_model.specs.declared.scripts.image_scripts.Stream.{Stream as StreamLine}
use Rattle.aio_model.specs.Coroutines.History.{Schedule, Push, Enter, History}
use Rattle.aio_script.specs.Image.Bounds.{IsAtHome, IsBounded}
use Rattle.co_schedule.specs.States.{states_given}
use Rattle.aio_model.specs.Counts.{counted}
use Rattle.stream_ends.specs.Images.{homes_of}
use Rattle.aio_run.specs.declared.running.RunEnd.{RunEnd}
use Rattle.aio_run.specs.Moves.{begun_in, count_of_moves, moved_in, states_in, HaveServed}
use Rattle.aio_run.specs.Serving.{begins_of, moves_of, beginning_on, brings_states}

-- In the history of one loop.
states_are : (h : History) → brings_states h ≡ true → states_given h ≡ length (begins_of h) + length (moves_of h)
states_are [] is = refl
states_are (Schedule c Begin true seat ∷ older) is = omega (arith, states_are older is)
states_are (Schedule c Begin false seat ∷ older) is = absurd (false≢true is)
states_are (Schedule c Wake true seat ∷ older) is = absurd (false≢true is)
states_are (Schedule c Wake false seat ∷ older) is = omega (arith, states_are older is)
states_are (Schedule c Move true seat ∷ older) is = omega (arith, states_are older is)
states_are (Schedule c Move false seat ∷ older) is = absurd (false≢true is)
states_are (Push c seat ∷ older) is = states_are older is
states_are (Enter c ∷ older) is = states_are older is

-- Sums over the first so many numbers.
abbrev sum_up : ℕ → (ℕ → ℕ) → ℕ
sum_up zero g = 0
sum_up (suc n) g = g 0 + sum_up n (λ k. g (suc k))

same_up : (n : ℕ) (f g : ℕ → ℕ) → ((k : ℕ) → f k ≡ g k) → sum_up n f ≡ sum_up n g
same_up zero f g same = refl
same_up (suc n) f g same =
    let rest = same_up n (λ k. f (suc k)) (λ k. g (suc k)) (λ k. same (suc k)) in
    let here = same 0 in
    omega (arith, rest, here)

nothing_up : (n : ℕ) → sum_up n (λ k. 0) ≡ 0
nothing_up zero = refl
nothing_up (suc n) = omega (arith, nothing_up n)

-- one number more at one place
one_more : (n at : ℕ) (f g : ℕ → ℕ) → at < n → f at ≡ suc (g at) → ((k : ℕ) → k ≢ at → f k ≡ g k) → sum_up n f ≡ suc (sum_up n g)
one_more zero at f g low here others = absurd (omega (arith, low))
one_more (suc n) zero f g low here others =
    let rest = same_up n (λ k. f (suc k)) (λ k. g (suc k)) (λ k. others (suc k) (λ e. omega (arith, e))) in
    omega (arith, rest, here)
one_more (suc n) (suc at) f g low here others =
    let rest = one_more n at (λ k. f (suc k)) (λ k. g (suc k)) (omega (arith, low)) here (λ k apart. others (suc k) (λ e. apart (omega (arith, e)))) in
    let front = others 0 (λ e. omega (arith, e)) in
    omega (arith, rest, front)

-- the sum over a list, by places
sum_at : {A : Type 0} (f : A → ℕ) (g : ℕ → ℕ) (xs : List A) → ((k : ℕ) (d : A) → k < length xs → f (slice_index_or xs k d) ≡ g k) → sum_by f xs ≡ sum_up (length xs) g
sum_at f g [] same = refl
sum_at f g (x ∷ xs) same =
    let here : f x ≡ g 0 = same 0 x (omega arith) in
    let rest = sum_at f (λ k. g (suc k)) xs (λ k d low. same (suc k) d (omega (arith, low))) in
    let whole = sum_by-cons f x xs in
    omega (arith, whole, here, rest)

-- Each stream begins on one loop.

home_below : (loops : ℕ) (streams : List StreamLine) (co : ℕ) → AllByRecursion (IsAtHome loops) streams → co < length streams → slice_index (homes_of streams) co < loops
home_below loops [] co each low = absurd (omega (arith, low))
home_below loops (x ∷ streams) zero each low = each.0.home
home_below loops (x ∷ streams) (suc co) each low = home_below loops streams co each.1 (omega (arith, low))

beginnings : (loops many : ℕ) (homes : List ℕ) → ((co : ℕ) → co < many → slice_index homes co < loops) → sum_up loops (λ k. length (beginning_on many homes k)) ≡ many
beginnings loops zero homes below = nothing_up loops
beginnings loops (suc co) homes below =
    let at = slice_index homes co in
    let older = beginnings loops co homes (λ k low. below k (omega (arith, low))) in
    one_more loops at (λ k. length (beginning_on (suc co) homes k)) (λ k. length (beginning_on co homes k)) (below co (omega arith))
    (ap (λ (b : Bool). length (cond b (co ∷ beginning_on co homes at) (beginning_on co homes at))) (eq-eqb at at refl))
    (λ k apart. ap (λ (b : Bool). length (cond b (co ∷ beginning_on co homes k) (beginning_on co homes k))) (ne_eqb at k (λ e. apart (sym e))))
    ∙ ap suc older

-- Over all loops.

module _ {C O : Type 0} where
  all_states : (ends : List (RunEnd C O)) → ((k : ℕ) (d : RunEnd C O) → k < length ends → brings_states (slice_index_or ends k d).coroutines.history ≡ true)
      → sum_by (λ (end : RunEnd C O). states_given end.coroutines.history) ends ≡ sum_by (λ (end : RunEnd C O). length (begins_of end.coroutines.history)) ends + sum_by (λ (end : RunEnd C O). length (moves_of end.coroutines.history)) ends
  all_states [] each = refl
  all_states (x ∷ ends) each =
      let here = states_are x.coroutines.history (each 0 x (omega arith)) in
      let rest = all_states ends (λ k d low. each (suc k) d (omega (arith, low))) in
      let given = sum_by-cons (λ (end : RunEnd C O). states_given end.coroutines.history) x ends in
      let begun = sum_by-cons (λ (end : RunEnd C O). length (begins_of end.coroutines.history)) x ends in
      let moved = sum_by-cons (λ (end : RunEnd C O). length (moves_of end.coroutines.history)) x ends in
      omega (arith, here, rest, given, begun, moved)

  pub states_all : (script : Script) (ends : List (RunEnd C O)) → HaveServed script ends → states_in ends ≡ begun_in ends + moved_in ends
  states_all script ends served =
      let all = all_states ends (λ k d low. (served.each k d (omega (arith, low, served.many))).states) in
      let given = sum-map (λ (end : RunEnd C O). states_given end.coroutines.history) ends in
      let begun = sum-map (λ (end : RunEnd C O). length (begins_of end.coroutines.history)) ends in
      let moved = sum-map (λ (end : RunEnd C O). length (moves_of end.coroutines.history)) ends in
      omega (arith, all, given, begun, moved)

  pub begun_all : (script : Script) (ends : List (RunEnd C O)) → IsBounded script → HaveServed script ends → begun_in ends ≡ length script.streams
  begun_all script ends bounded served =
      let homes = homes_of script.streams in
      let many = length script.streams in
      let f = λ (end : RunEnd C O). length (begins_of end.coroutines.history) in
      sum-map f ends
      ∙ sum_at f (λ k. length (beginning_on many homes k)) ends (λ k d low. ap length (served.each k d (omega (arith, low, served.many))).began)
      ∙ ap (λ (n : ℕ). sum_up n (λ k. length (beginning_on many homes k))) served.many
      ∙ beginnings script.loops many homes (λ co low. home_below script.loops script.streams co bounded.at_home low)

-- what is left of a count of states, that stays at the greatest u64, without those of the streams
pub left_over : (states begun moved streams found : ℕ) → states ≡ begun + moved → begun ≡ streams → streams ≤ 64 → found ≡ counted states → (streams ≤ found) × (count_of_moves (found - streams) ≡ count_of_moves moved)
left_over states begun moved streams found all is few counts = (omega arith, omega arith)
