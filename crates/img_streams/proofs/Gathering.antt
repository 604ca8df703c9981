-- The places of a stream's lines and the buffers of its requests, gathered along the links.
use Rattle.std.proofs.Common.{◌≡◌, ℕ, ◌+◌, ◌<◌, ◌≤◌, List, [], ◌∷◌, ◌++◌, length, get_or, take, drop, refl, sym, ap, ◌∙◌, subst, arith, append_assoc, append-nil}
use Rattle.std.proofs.lemmas.List.{drop_all, take_all, drop-drop}
use Rattle.std.proofs.lemmas.Bool.{eq-eqb}
use Rattle.aio_model.specs.declared.scripts.image_scripts.Step.{Step}
use Rattle.aio_model.specs.Serving.Asked.{requests_of}
use Rattle.img_streams.specs.Lines.{next_own, line_from, places_from, places_of}
use Rattle.img_streams.specs.Rooms.{AddsFor, HaveBuffers, AreGathered}
use Rattle.img_streams.proofs.LinesAlong.{above_kept, line_again, line_inside, own_at}
use Rattle.img_streams.proofs.OwnPlaces.{places_more, places_skip}
use Rattle.img_streams.proofs.Buffering.{adds}

-- at a line of the stream, or at the end, all before it is gathered
pub record IsAlong (lines : List Step) (id at : ℕ) (places : List ℕ) (buffers : List (List ℕ)) : Type 0 where
  pub own : line_from id lines at ≡ at
  pub inside : at ≤ length lines
  pub whole : places ++ places_from id at (drop at lines) ≡ places_of id lines
  pub have : HaveBuffers lines id (requests_of id (take at lines)) buffers

module _ (lines : List Step) (id : ℕ) where
  none_before : requests_of id (take (line_from id lines 0) lines) ≡ 0
  none_before = above_kept id lines 0

  pub along_first : (at : ℕ) → at ≡ line_from id lines 0 → IsAlong lines id at [] []
  along_first at is = subst (λ (n : ℕ). IsAlong lines id n [] []) (sym is) (record {
    own = line_again id lines 0 (omega arith);
    inside = line_inside id lines 0 (omega arith);
    whole =
        ap (λ (n : ℕ). places_from id n (drop n lines)) (let z : 0 + next_own id lines ≡ next_own id lines = omega arith in z)
        ∙ ap (λ (n : ℕ). places_from id n (drop (next_own id lines) lines)) (let z : next_own id lines ≡ 0 + next_own id lines = omega arith in z)
        ∙ sym (places_skip id 0 lines);
    have = subst (λ (n : ℕ). HaveBuffers lines id n []) (sym none_before) (record { room = tt; many = refl });
  })

  module _ (at : ℕ) (places : List ℕ) (buffers : List (List ℕ)) (along : IsAlong lines id at places buffers) where
    pub own_here : (other : Step) → at < length lines → (get_or lines at other).stream ≡ id
    own_here other below = own_at id lines at other along.own below

    module _ (step : Step) (below : at < length lines) (read : step ≡ get_or lines at step) where
      abbrev later : ℕ
      later = line_from id lines (at + 1)

      skipped : places_from id (at + 1) (drop (at + 1) lines) ≡ places_from id later (drop later lines)
      skipped = places_skip id (at + 1) (drop (at + 1) lines) ∙ ap (places_from id later) (drop-drop (next_own id (drop (at + 1) lines)) (at + 1) lines)

      pub along_more : (next : ℕ) (more : List ℕ) (new : List (List ℕ)) → next ≡ later → more ≡ places ++ at ∷ [] → AddsFor id step buffers new → IsAlong lines id next more new
      along_more next more new is pushed added = subst (λ (n : ℕ). IsAlong lines id n more new) (sym is) (record {
        own = line_again id lines (at + 1) (omega (arith, below));
        inside = line_inside id lines (at + 1) (omega (arith, below));
        whole =
            ap (λ (l : List ℕ). l ++ places_from id later (drop later lines)) pushed
            ∙ append_assoc places (at ∷ []) (places_from id later (drop later lines))
            ∙ ap (λ (l : List ℕ). places ++ at ∷ l) (sym skipped)
            ∙ ap (λ (l : List ℕ). places ++ l) (sym (places_more id at lines step below (eq-eqb _ _ (own_here step below))))
            ∙ along.whole;
        have = subst (λ (n : ℕ). HaveBuffers lines id n new) (sym (above_kept id lines (at + 1)))
            (adds lines id at step below read buffers new along.have added);
      })

    pub along_end : length lines ≤ at → AreGathered lines id places buffers
    along_end past = record {
      places_are =
          sym (append-nil places)
          ∙ ap (λ (l : List Step). places ++ places_from id at l) (sym (drop_all at lines past))
          ∙ along.whole;
      have = subst (λ (l : List Step). HaveBuffers lines id (requests_of id l) buffers) (take_all at lines past) along.have;
    }
