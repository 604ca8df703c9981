-- Each script that the grammar gives is within the limits.
use Rattle.std.proofs.Common.{◌≡◌, ℕ, ◌<◌, ◌≤◌, ◌==◌, ◌||◌, ◌&&◌, Bool, true, false, nat_eq, nat_le, List, [], ◌∷◌, ◌++◌, length, map, codes, refl, sym, subst, arith, append-nil, Result, Ok, Err, IfOk}
use Rattle.std.specs.List.{AllByRecursion, IsDistinct, list_any}
use Rattle.std.proofs.lemmas.Bool.{leb-true, and_parts, eqb-true}
use Rattle.std.proofs.lemmas.List.{length-map}
use Rattle.std.proofs.lemmas.List.Elements.{filter_map-append}
use Rattle.std.proofs.lemmas.Map.Steps.{length-le_from_distinct_below}
use Rattle.aio_model.specs.declared.scripts.image_scripts.Stream.{Stream}
use Rattle.aio_model.specs.declared.scripts.image_scripts.Step.{Step}
use Rattle.aio_model.specs.declared.scripts.image_scripts.Script.{Script}
use Rattle.aio_script.specs.declared.refusals.ScriptRefusal.{ScriptRefusal}
use Rattle.aio_script.specs.declared.refusals.ScriptFail.{ScriptFail}
use Rattle.aio_script.specs.declared.image.said.Said.{Said}
use Rattle.aio_script.specs.declared.image.said.Said.TheVariants.{Declares, Does}
use Rattle.aio_script.specs.Image.Bounds.{AreApart, IsAtHome, IsBounded, IsWithin}
use Rattle.aio_script.specs.Image.Grammar.{◌>>=◌, all_said, begins_with_name, in_number_range, counts_of, declared, step_done, formed, has_stream, header_at, loops_below, present, said_at, script_below, script_lines, script_said, steps_in, streams_in, within, words_at}
use Rattle.aio_script.specs.Lines.{Numbered, significant}
use Rattle.aio_script.specs.Image.Forms.{header_form}
use Rattle.aio_script.specs.Text.{number_of}
use Rattle.aio_script.specs.Image.Progress.{AreLow}
use Rattle.aio_script.specs.Image.Reading.{GivesScript}
use Rattle.aio_script.proofs.Limits.{Fits, said_at-fits}
use Rattle.aio_script.proofs.LinesRead.{counts_of-line}

-- what went well
pub followed : {A B : Type 0} (a : Result A ScriptRefusal) (f : A → Result B ScriptRefusal) (d : B) → (a >>= f) ≡ Ok d
    → (x : A) × (a ≡ Ok x) × (f x ≡ Ok d)
followed (Ok x) f d e = (x, refl, e)
followed (Err x) f d e = cc e

-- streams and steps within the limits
record AreGood (loops : ℕ) (streams : List Stream) (steps : List Step) : Type 0 where
  low : AreLow (counts_of steps)
  apart : AreApart streams
  at_home : AllByRecursion (IsAtHome loops) streams
  each : AllByRecursion (IsWithin loops streams) steps

-- ---- one more at the end

pub all_one_more : {X : Type 0} (P : X → Type 0) (xs : List X) (x : X) → AllByRecursion P xs → P x → AllByRecursion P (xs ++ x ∷ [])
all_one_more P [] x all last = (last, tt)
all_one_more P (y ∷ ys) x all last = (all.0, all_one_more P ys x all.1 last)

all_map : {X : Type 0} (P Q : X → Type 0) (xs : List X) → ((x : X) → P x → Q x) → AllByRecursion P xs → AllByRecursion Q xs
all_map P Q [] f all = tt
all_map P Q (x ∷ xs) f all = (f x all.0, all_map P Q xs f all.1)

all_ids : (P : ℕ → Type 0) (streams : List Stream) (stream : Stream) → AllByRecursion P (map (λ (s : Stream). s.id) streams) → P stream.id
    → AllByRecursion P (map (λ (s : Stream). s.id) (streams ++ stream ∷ []))
all_ids P [] stream all last = (last, tt)
all_ids P (first ∷ streams) stream all last = (all.0, all_ids P streams stream all.1 last)

or_false : (a b : Bool) → (a || b) ≡ false → (a ≡ false) × (b ≡ false)
or_false false b e = (refl, e)
or_false true b e = cc e

or_either : (a b : Bool) (P : Type 0) → (a ≡ true → P) → (b ≡ true → P) → (a || b) ≡ true → P
or_either true b P f g e = f refl
or_either false b P f g e = g e

or_right : (a b c : Bool) → (b ≡ true → c ≡ true) → (a || b) ≡ true → (a || c) ≡ true
or_right true b c f e = refl
or_right false b c f e = f e

apart_one_more : (streams : List Stream) (stream : Stream) → AreApart streams → has_stream stream.id streams ≡ false → AreApart (streams ++ stream ∷ [])
unfolding IsDistinct
apart_one_more [] stream apart new = (tt, tt)
apart_one_more (first ∷ streams) stream apart new =
    let parts = or_false (first.id == stream.id) (has_stream stream.id streams) new in
    (all_ids (λ (id : ℕ). nat_eq first.id id ≡ false) streams stream apart.0 parts.0, apart_one_more streams stream apart.1 parts.1)

has_stream-more : (s : ℕ) (streams : List Stream) (stream : Stream) → has_stream s streams ≡ true → has_stream s (streams ++ stream ∷ []) ≡ true
has_stream-more s [] stream e = cc e
has_stream-more s (first ∷ streams) stream e =
    or_right (first.id == s) (has_stream s streams) (has_stream s (streams ++ stream ∷ [])) (has_stream-more s streams stream) e

within_more : (loops : ℕ) (streams : List Stream) (stream : Stream) (step : Step) → IsWithin loops streams step → IsWithin loops (streams ++ stream ∷ []) step
within_more loops streams stream step h = record { known = has_stream-more step.stream streams stream h.known; little = h.little }

good_line : (loops : ℕ) (streams : List Stream) (steps : List Step) (said : Said)
    → AreGood loops streams steps → Fits loops streams (counts_of steps) said
    → AreGood loops (streams ++ streams_in (said ∷ [])) (steps ++ steps_in (said ∷ []))
good_line loops streams steps (Declares stream) good fits =
    let OfSteps : List Step → Type 0 = λ ss. AreGood loops (streams ++ stream ∷ []) ss in
    let more : AreGood loops (streams ++ stream ∷ []) steps = record {
      low = good.low;
      apart = apart_one_more streams stream good.apart fits.own.0;
      at_home = all_one_more (IsAtHome loops) streams stream good.at_home fits.own.1;
      each = all_map (IsWithin loops streams) (IsWithin loops (streams ++ stream ∷ [])) steps (within_more loops streams stream) good.each;
    } in
    subst OfSteps (sym (append-nil steps)) more
good_line loops streams steps (Does step) good fits =
    let OfStreams : List Stream → Type 0 = λ ss. AreGood loops ss (steps ++ step ∷ []) in
    let more : AreGood loops streams (steps ++ step ∷ []) = record {
      low = subst AreLow (sym (counts_of-line steps (Does step))) fits.low;
      apart = good.apart;
      at_home = good.at_home;
      each = all_one_more (IsWithin loops streams) steps step good.each fits.own;
    } in
    subst OfStreams (sym (append-nil streams)) more

-- ---- all lines

all_said-good : (loops : ℕ) (lines : List Numbered) (above said : List Said) → AreGood loops (streams_in above) (steps_in above)
    → all_said loops above lines ≡ Ok said → AreGood loops (streams_in said) (steps_in said)
all_said-good loops [] above said good e =
    let same : above ≡ said = cc e in
    subst (λ (s : List Said). AreGood loops (streams_in s) (steps_in s)) same good
all_said-good loops (numbered ∷ lines) above said good e =
    let first_line = followed (said_at loops (streams_in above) (counts_of (steps_in above)) numbered) (λ one. all_said loops (above ++ one ∷ []) lines) said e in
    let one : Said = first_line.0 in
    let fits = said_at-fits loops (streams_in above) (counts_of (steps_in above)) numbered one good.low first_line.1 in
    let more = good_line loops (streams_in above) (steps_in above) one good fits in
    let OfStreams : List Stream → Type 0 = λ ss. AreGood loops ss (steps_in above ++ steps_in (one ∷ [])) in
    let OfSteps : List Step → Type 0 = λ ss. AreGood loops (streams_in (above ++ one ∷ [])) ss in
    let first = subst OfStreams (sym (filter_map-append declared above (one ∷ []))) more in
    let second = subst OfSteps (sym (filter_map-append step_done above (one ∷ []))) first in
    all_said-good loops lines (above ++ one ∷ []) said second first_line.2

ids_below : (loops : ℕ) (streams : List Stream) → AllByRecursion (IsAtHome loops) streams
    → (q : ℕ) → list_any (nat_eq q) (map (λ (s : Stream). s.id) streams) ≡ true → q < 64
ids_below loops [] all q e = cc e
ids_below loops (first ∷ streams) all q e =
    or_either (nat_eq q first.id) (list_any (nat_eq q) (map (λ (s : Stream). s.id) streams)) (q < 64)
    (λ hit. omega (arith, eqb-true q first.id hit, all.0.id)) (ids_below loops streams all.1 q) e

few_streams : (loops : ℕ) (streams : List Stream) → AreApart streams → AllByRecursion (IsAtHome loops) streams → length streams ≤ 64
few_streams loops streams apart all =
    let few = length-le_from_distinct_below (map (λ (s : Stream). s.id) streams) 64 apart (ids_below loops streams all) in
    omega (arith, few, length-map streams (λ (s : Stream). s.id))

-- ---- the header, and the whole

passed : (line : ℕ) (b : Bool) (m n : ℕ) → (within line b >>= λ small. Ok m) ≡ Ok n → (b ≡ true) × (m ≡ n)
passed line true m n e = (refl, cc e)
passed line false m n e = cc e

header_at-within : (name : List ℕ) (least most : ℕ) (numbered : Numbered) (n : ℕ) → header_at name least most numbered ≡ Ok n → (least ≤ n) × (n ≤ most)
header_at-within name least most numbered n e =
    let line = numbered.number in
    let a = followed (words_at numbered) (λ words. present (begins_with_name name words) >>= λ there. formed line (header_form name words) >>= λ word. in_number_range line (number_of word) >>= λ m. within line (nat_le least m && nat_le m most) >>= λ small. Ok m) n e in
    let b = followed (present (begins_with_name name a.0)) (λ there. formed line (header_form name a.0) >>= λ word. in_number_range line (number_of word) >>= λ m. within line (nat_le least m && nat_le m most) >>= λ small. Ok m) n a.2 in
    let c = followed (formed line (header_form name a.0)) (λ word. in_number_range line (number_of word) >>= λ m. within line (nat_le least m && nat_le m most) >>= λ small. Ok m) n b.2 in
    let d = followed (in_number_range line (number_of c.0)) (λ m. within line (nat_le least m && nat_le m most) >>= λ small. Ok m) n c.2 in
    let f = passed line (nat_le least d.0 && nat_le d.0 most) d.0 n d.2 in
    let g = and_parts (nat_le least d.0) (nat_le d.0 most) f.0 in
    (omega (arith, leb-true least d.0 g.0, f.1), omega (arith, leb-true d.0 most g.1, f.1))

script_below-bounded : (image loops : ℕ) (lines : List Numbered) (script : Script) → image ≤ 1048576 → 1 ≤ loops → loops ≤ 16
    → script_below image loops lines ≡ Ok script → IsBounded script
unfolding IsDistinct
script_below-bounded image loops lines script small some few e =
    let f : List Said → Result Script ScriptRefusal = λ said. Ok (record { image = image; loops = loops; streams = streams_in said; lines = steps_in said }) in
    let all = followed (all_said loops [] lines) f script e in
    let none : AreGood loops [] [] = record { low = record { requests = omega arith; pauses = omega arith; moved = omega arith }; apart = tt; at_home = tt; each = tt } in
    let good = all_said-good loops lines [] all.0 none all.1 in
    let own : IsBounded (record { image = image; loops = loops; streams = streams_in all.0; lines = steps_in all.0 }) = record {
      image = small;
      some_loop = some;
      few_loops = few;
      few_streams = few_streams loops (streams_in all.0) good.apart good.at_home;
      apart = good.apart;
      at_home = good.at_home;
      few = good.low.requests;
      few_pauses = good.low.pauses;
      moved = good.low.moved;
      each = good.each;
    } in
    subst IsBounded (cc all.2) own

loops_below-bounded : (image : ℕ) (lines : List Numbered) (script : Script) → image ≤ 1048576 → loops_below image lines ≡ Ok script → IsBounded script
loops_below-bounded image [] script small e = cc e
loops_below-bounded image (numbered ∷ lines) script small e =
    let h = followed (header_at (codes "loops") 1 16 numbered) (λ loops. script_below image loops lines) script e in
    let w = header_at-within (codes "loops") 1 16 numbered h.0 h.1 in
    script_below-bounded image h.0 lines script small w.0 w.1 h.2

script_lines-bounded : (lines : List Numbered) (script : Script) → script_lines lines ≡ Ok script → IsBounded script
script_lines-bounded [] script e = cc e
script_lines-bounded (numbered ∷ lines) script e =
    let h = followed (header_at (codes "image") 0 1048576 numbered) (λ image. loops_below image lines) script e in
    let w = header_at-within (codes "image") 0 1048576 numbered h.0 h.1 in
    loops_below-bounded h.0 lines script w.1 h.2

-- what a call gives that gives what the grammar says
pub bounded_from_gives : (text : List ℕ) (result : Result Script ScriptFail) → GivesScript (script_said text) result → IfOk result IsBounded
bounded_from_gives text (Ok script) said = script_lines-bounded (significant text) script said
bounded_from_gives text (Err fail) said = tt
