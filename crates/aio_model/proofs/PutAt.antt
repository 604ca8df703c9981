-- What putting a piece into bytes leaves as it was.
use Rattle.std.proofs.Common.{◌≡◌, ℕ, ◌+◌, ◌-◌, ◌≤◌, List, ◌++◌, length, take, drop, sym, ◌∙◌, ap, arith, length-append, length-drop}
use Rattle.std.proofs.lemmas.List.{length-take, drop_at, drop-drop, append_assoc}
use Rattle.aio_model.specs.Serving.{put_at}

module _ (at : ℕ) (piece bytes : List ℕ) (within : at + length piece ≤ length bytes) where
  pub length-put_at : length (put_at at piece bytes) ≡ length bytes
  length-put_at = simp (length-append, length-take, length-drop) (omega arith)

  -- past the piece
  pub drop-put_at : (n : ℕ) → at + length piece ≤ n → drop n (put_at at piece bytes) ≡ drop n bytes
  drop-put_at n past =
      let front : length (take at bytes ++ piece) ≡ at + length piece = simp (length-append, length-take) (omega arith) in
      let m : ℕ = n - (at + length piece) in
      let n_is : at + length piece + m ≡ n = omega arith in
      ap (drop n) (sym (append_assoc (take at bytes) piece (drop (at + length piece) bytes)))
      ∙ ap (λ k. drop k (take at bytes ++ piece ++ drop (at + length piece) bytes)) (sym n_is)
      ∙ sym (drop-drop m (at + length piece) (take at bytes ++ piece ++ drop (at + length piece) bytes))
      ∙ ap (drop m) (drop_at (take at bytes ++ piece) (drop (at + length piece) bytes) (at + length piece) front)
      ∙ drop-drop m (at + length piece) bytes
      ∙ ap (λ k. drop k bytes) n_is
