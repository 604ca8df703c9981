-- A serial history goes on by one reply, and leaves the bytes past its image.
use Rattle.std.proofs.Common.{◌≡◌, ℕ, ◌+◌, ◌≤◌, List, [], ◌∷◌, ◌++◌, length, map, take, drop, replicate, Option, Some, None, option_map, IsPermutation, refl, sym, ◌∙◌, ap, subst, arith}
use Rattle.std.proofs.lemmas.List.{length-take, length-replicate}
use Rattle.std.proofs.lemmas.List.Sorted.{IsPermutation-refl}
use Rattle.aio_model.specs.declared.serving.requests.Request.{Request}
use Rattle.aio_model.specs.declared.serving.requests.Request.TheVariants.{Write, Zero}
use Rattle.aio_model.specs.declared.serving.replies.Reply.{Reply}
use Rattle.aio_model.specs.declared.serving.replies.Reply.TheVariants.{Put, Zeroed, Eio}
use Rattle.aio_model.specs.declared.serving.replies.Placed.{Placed}
use Rattle.aio_model.specs.declared.scripts.image_scripts.Step.{Step}
use Rattle.aio_model.specs.Serving.Asked.{Asked, asked, request_named}
use Rattle.aio_model.specs.Serving.{put_at, MayAnswer, Fits, bytes_after}
use Rattle.aio_model.specs.Serving.SerialHistory.{asked_name, placed_name, bytes_behind, bytes_left, FitAlong, IsSerialHistory}
use Rattle.aio_model.proofs.PutAt.{length-put_at, drop-put_at}
use Rattle.aio_model.proofs.Names.{CountsFrom-asked}

module _ (asked : List Asked) where
  -- one reply more
  pub bytes_left-push : (served : List Placed) (placed : Placed) (request : Request) (bytes : List ℕ)
      → request_named asked placed.stream placed.index ≡ Some request
      → bytes_left asked (served ++ placed ∷ []) bytes ≡ bytes_after request placed.reply (bytes_left asked served bytes)
  bytes_left-push [] placed request bytes named = ap (λ found. bytes_behind found placed.reply bytes) named
  bytes_left-push (first ∷ served) placed request bytes named =
      bytes_left-push served placed request (bytes_behind (request_named asked first.stream first.index) first.reply bytes) named

  -- the same where the bytes may not be told
  pub told_left-push : (served : List Placed) (placed : Placed) (request : Request) (bytes : Option (List ℕ))
      → request_named asked placed.stream placed.index ≡ Some request
      → option_map (bytes_left asked (served ++ placed ∷ [])) bytes ≡ option_map (bytes_after request placed.reply) (option_map (bytes_left asked served) bytes)
  told_left-push served placed request None named = refl
  told_left-push served placed request (Some bytes) named = ap Some (bytes_left-push served placed request bytes named)

  told_left-first : (served : List Placed) (first : Placed) (request : Request) (bytes : Option (List ℕ))
      → request_named asked first.stream first.index ≡ Some request
      → option_map (bytes_left asked (first ∷ served)) bytes ≡ option_map (bytes_left asked served) (option_map (bytes_after request first.reply) bytes)
  told_left-first served first request None named = refl
  told_left-first served first request (Some bytes) named =
      ap (λ found. Some (bytes_left asked served (bytes_behind found first.reply bytes))) named

  told_left-none : (bytes : Option (List ℕ)) → option_map (bytes_left asked []) bytes ≡ bytes
  told_left-none None = refl
  told_left-none (Some bytes) = refl

  module _ (size : ℕ) where
    pub FitAlong-push : (served : List Placed) (placed : Placed) (request : Request) (bytes : Option (List ℕ))
        → FitAlong size asked bytes served
        → request_named asked placed.stream placed.index ≡ Some request
        → Fits size (option_map (bytes_left asked served) bytes) request placed.reply
        → FitAlong size asked bytes (served ++ placed ∷ [])
    FitAlong-push [] placed request bytes along named fits =
        (request, named, subst (λ told. Fits size told request placed.reply) (told_left-none bytes) fits, tt)
    FitAlong-push (first ∷ served) placed request bytes along named fits = (
      along.0,
      along.1,
      along.2,
      FitAlong-push served placed request (option_map (bytes_after along.0 first.reply) bytes) along.3 named
          (subst (λ told. Fits size told request placed.reply) (told_left-first served first along.0 bytes along.1) fits),
    )

    -- a served request leaves the number of bytes, and those past the image
    module _ (bytes : List ℕ) (inside : size ≤ length bytes) where
      KeepsRest : List ℕ → Type 0
      KeepsRest after = (length after ≡ length bytes) × (drop size after ≡ drop size bytes)

      put_at-keeps : (at : ℕ) (piece : List ℕ) → at + length piece ≤ size → (length (put_at at piece bytes) ≡ length bytes) × (drop size (put_at at piece bytes) ≡ drop size bytes)
      put_at-keeps at piece within =
          (length-put_at at piece bytes (omega arith), drop-put_at at piece bytes (omega arith) size within)

      taken-le : (k : ℕ) (piece : List ℕ) → length (take k piece) ≤ length piece
      taken-le k piece = simp length-take (omega arith)

      bytes_after-keeps : (request : Request) (reply : Reply) → MayAnswer size request reply → KeepsRest (bytes_after request reply bytes)
      unfolding KeepsRest
      bytes_after-keeps (Write at piece) (Put n) h = put_at-keeps at piece h.0
      bytes_after-keeps (Write at piece) (Eio k) h = put_at-keeps at (take k piece) (omega (arith, taken-le k piece, h.0))
      bytes_after-keeps (Zero at len) (Zeroed n) h = put_at-keeps at (replicate len 0) (omega (arith, length-replicate {A = ℕ} len 0, h.0))
      bytes_after-keeps (Zero at len) (Eio k) h = put_at-keeps at (replicate k 0) (omega (arith, length-replicate {A = ℕ} k 0, h.0, h.1.1))
      bytes_after-keeps request reply h = (refl, refl)

    -- all that was served leaves them
    pub bytes_left-keeps : (served : List Placed) (bytes : List ℕ) → size ≤ length bytes → FitAlong size asked (Some bytes) served
        → (length (bytes_left asked served bytes) ≡ length bytes) × (drop size (bytes_left asked served bytes) ≡ drop size bytes)
    unfolding KeepsRest
    bytes_left-keeps [] bytes inside along = (refl, refl)
    bytes_left-keeps (first ∷ served) bytes inside along =
        let one = bytes_after-keeps bytes inside along.0 first.reply along.2.answers in
        let rest = bytes_left-keeps served (bytes_after along.0 first.reply bytes) (omega (arith, one.0)) along.3 in
        let same : bytes_left asked (first ∷ served) bytes ≡ bytes_left asked served (bytes_after along.0 first.reply bytes) =
        ap (λ found. bytes_left asked served (bytes_behind found first.reply bytes)) along.1 in
        (ap length same ∙ rest.0 ∙ one.0, ap (drop size) same ∙ rest.1 ∙ one.1)

-- replies in the order of a script's requests that fit one after the other are a serial history
pub IsSerialHistory-in_order : (size : ℕ) (lines : List Step) (bytes : Option (List ℕ)) (served : List Placed)
    → map placed_name served ≡ map asked_name (asked lines) → FitAlong size (asked lines) bytes served
    → IsSerialHistory size (asked lines) bytes served
IsSerialHistory-in_order size lines bytes served names along = record {
  each_once = subst (λ all. IsPermutation (map asked_name (asked lines)) all) (sym names) (IsPermutation-refl (map asked_name (asked lines)));
  in_order = CountsFrom-asked lines served names;
  fits = along;
}
