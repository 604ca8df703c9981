-- Laws of a piece that is put into a list.
use Rattle.std.proofs.Common.{◌≡◌, ℕ, ◌+◌, ◌≤◌, List, [], ◌++◌, length, take, drop, sym, ap, ◌∙◌, append_assoc, add-zero, arith, length-append, take-append-drop}
use Rattle.std.proofs.lemmas.List.{take_at, drop_at, drop-drop, length-take-le}
use Rattle.aio_model.specs.Serving.{put_at}

pub put_at-nothing : (at : ℕ) (bytes : List ℕ) → put_at at [] bytes ≡ bytes
put_at-nothing at bytes = rw add-zero (take-append-drop at bytes)

-- the front of a list with a piece put into it
pub put_at-front : (at : ℕ) (piece bytes : List ℕ) → at ≤ length bytes → length (take at bytes ++ piece) ≡ at + length piece
put_at-front at piece bytes h = omega (arith, length-append (take at bytes) piece, length-take-le at bytes h)

put_at-grouped : (at : ℕ) (piece bytes : List ℕ)
    → put_at at piece bytes ≡ (take at bytes ++ piece) ++ drop (at + length piece) bytes
put_at-grouped at piece bytes = sym (append_assoc (take at bytes) piece (drop (at + length piece) bytes))

pub take-put_at : (at : ℕ) (piece bytes : List ℕ) → at ≤ length bytes
    → take (at + length piece) (put_at at piece bytes) ≡ take at bytes ++ piece
take-put_at at piece bytes h =
    ap (take (at + length piece)) (put_at-grouped at piece bytes)
    ∙ take_at (take at bytes ++ piece) (drop (at + length piece) bytes) (at + length piece) (put_at-front at piece bytes h)

pub drop-put_at : (at : ℕ) (piece bytes : List ℕ) → at ≤ length bytes
    → drop (at + length piece) (put_at at piece bytes) ≡ drop (at + length piece) bytes
drop-put_at at piece bytes h =
    ap (drop (at + length piece)) (put_at-grouped at piece bytes)
    ∙ drop_at (take at bytes ++ piece) (drop (at + length piece) bytes) (at + length piece) (put_at-front at piece bytes h)

-- two pieces, the second right behind the first, are one piece
pub put_at-put_at : (at : ℕ) (first second bytes : List ℕ) → at ≤ length bytes
    → put_at (at + length first) second (put_at at first bytes) ≡ put_at at (first ++ second) bytes
put_at-put_at at first second bytes h =
    ap (λ front. front ++ (second ++ drop (at + length first + length second) (put_at at first bytes)))
    (take-put_at at first bytes h)
    ∙ ap (λ rest. (take at bytes ++ first) ++ (second ++ rest)) behind
    ∙ append_assoc (take at bytes) first (second ++ drop (at + length (first ++ second)) bytes)
    ∙ ap (λ rest. take at bytes ++ rest)
    (sym (append_assoc first second (drop (at + length (first ++ second)) bytes)))
  where
    behind : drop (at + length first + length second) (put_at at first bytes) ≡ drop (at + length (first ++ second)) bytes
    behind =
        sym (drop-drop (length second) (at + length first) (put_at at first bytes))
        ∙ ap (drop (length second)) (drop-put_at at first bytes h)
        ∙ drop-drop (length second) (at + length first) bytes
        ∙ ap (λ n. drop n bytes) (omega (arith, length-append first second))

-- the same, where the second's place is given by the number of bytes before it
pub put_at_behind : (at n : ℕ) (first second bytes : List ℕ) → at ≤ length bytes → length first ≡ n
    → put_at (at + n) second (put_at at first bytes) ≡ put_at at (first ++ second) bytes
put_at_behind at n first second bytes h e =
    ap (λ k. put_at (at + k) second (put_at at first bytes)) (sym e) ∙ put_at-put_at at first second bytes h
