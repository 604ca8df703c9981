-- A stream that answers that it moves has a line by which it does.
use Rattle.std.proofs.Common.{◌≡◌, ℕ, ◌<◌, ◌==◌, ◌&&◌, true, Option, List, map, slice_index, refl, sym, ap, ◌∙◌, subst}
use Rattle.std.proofs.lemmas.Bool.{and_from, eq-eqb, lt-ltb}
use Rattle.std.proofs.lemmas.List.Folds.{list_any_at}
use Rattle.std.proofs.lemmas.List.Elements.{All-from_recursion}
use Rattle.aio_model.specs.declared.scripts.image_scripts.Script.{Script}
use Rattle.aio_model.specs.declared.scripts.image_scripts.Step.{Step}
use Rattle.aio_model.specs.declared.scripts.image_scripts.What.TheVariants as what
use Rattle.aio_script.specs.Image.Bounds.{IsBounded, IsWithin}
use Rattle.co_loop.specs.Crews.{destination}
use Rattle.co_mutex.specs.declared.lock.CoMutex.{CoMutex}
use Rattle.co_state.specs.Wants.{Wants}
use Rattle.co_state.specs.declared.co.CoStep.TheVariants as step
use Rattle.img_shared.specs.Images.{ImageState}
use Rattle.img_shared.specs.Notes.{Note}
use Rattle.img_streams.specs.declared.stream.Stream.{Stream}
use Rattle.img_streams.specs.Lines.{StandsAt, line_from}
use Rattle.img_streams.specs.Streams.{IsStreamOf, Resumes, source}
use Rattle.aio_run.specs.Serving.{goes_to, has_move}

-- a loop that there is, is where one goes that is sent there
stays : (own loops to : ℕ) → to < loops → destination own loops to ≡ to
stays own loops to low = rw (lt-ltb to loops low) refl

module _ {P D : Type 0} (bytes : D → Option (List ℕ)) (script : Script) (lock : CoMutex P (ImageState D) (Note D)) (loops : ℕ) (bounded : IsBounded script) (many : script.loops ≡ loops) where
  abbrev line_of : Stream P (ImageState D) (Note D) → ℕ → Step
  line_of was home = record { stream = was.id; what = what.Move home }

  -- the line is one of the script's, so it goes to a loop that there is
  home_low : (was : Stream P (ImageState D) (Note D)) (home : ℕ) → StandsAt script.lines was.id (line_from was.id script.lines was.line) (what.Move home) → home < loops
  home_low was home stands =
      let within : IsWithin script.loops script.streams (line_of was home) =
      subst (IsWithin script.loops script.streams) (stands.is (line_of was home))
      (All-from_recursion (IsWithin script.loops script.streams) script.lines bounded.each (line_from was.id script.lines was.line) (line_of was home) stands.inside) in
      subst (λ (n : ℕ). home < n) many within.little

  pub moves_by_line : (own number : ℕ) (was after : Stream P (ImageState D) (Note D)) (asked : Wants) (home : ℕ)
      → IsStreamOf bytes after (source lock script) → after.co.co ≡ number → Resumes bytes was (source lock script) asked (step.Move home) after
      → has_move script (destination own loops home) number ≡ true
  moves_by_line own number was after asked home of is resumed =
      let stands = resumed.1 in
      let same : slice_index (map (λ stream. stream.id) script.streams) number ≡ was.id =
      ap (λ (n : ℕ). slice_index (map (λ stream. stream.id) script.streams) n) (sym is) ∙ of.named ∙ ap (λ (s : Stream P (ImageState D) (Note D)). s.id) resumed.2 in
      subst (λ (l : ℕ). has_move script l number ≡ true) (sym (stays own loops home (home_low was home stands)))
      (list_any_at (λ (s : Step). (s.stream == slice_index (map (λ stream. stream.id) script.streams) number) && goes_to home s.what) script.lines (line_from was.id script.lines was.line) (line_of was home) stands.inside
      (ap (λ (s : Step). (s.stream == slice_index (map (λ stream. stream.id) script.streams) number) && goes_to home s.what) (stands.is (line_of was home))
      ∙ and_from _ _ (ap (λ (n : ℕ). was.id == n) same ∙ eq-eqb was.id was.id refl) (eq-eqb home home refl)))
