-- The texts that are printed, cut where one write ends and the next one begins.
use Rattle.std.proofs.Common.{◌≡◌, ℕ, ◌+◌, ◌-◌, ◌/◌, ◌%◌, ◌==◌, ◌<◌, ◌≤◌, false, Result, Ok, Err, List, [], ◌∷◌, ◌++◌, length, get_or, take, drop, slice_index, refl, sym, ap, ◌∙◌, codes, append_assoc, append-nil, length-append, arith}
use Rattle.std.specs.Prelude.{IsOk, OnOk}
use Rattle.std.specs.List.{flat_map, slice_range}
use Rattle.std.proofs.lemmas.List.{take-append-drop, take_more}
use Rattle.std.proofs.lemmas.List.Concat.{flat_map-append}
use Rattle.std.proofs.Math.Seq.{take-add}
use Rattle.hex.specs.Hex.{encode_lower, encode_with}
use Rattle.aio_model.specs.Scripts.PrintedText.{hex_of, data_text}

-- the parts up to one of them, and the parts behind it
pub flat_map_around : {X A : Type 0} (f : X → List A) (xs : List X) (i : ℕ) (d : X) → i < length xs
    → flat_map f (take i xs) ++ (f (get_or xs i d) ++ flat_map f (drop (i + 1) xs)) ≡ flat_map f xs
flat_map_around {X} {A} f xs i d within =
    let e : flat_map f (take (i + 1) xs) ≡ flat_map f (take i xs) ++ (f (get_or xs i d) ++ []) =
    ap (flat_map f) (take_more xs i d within) ∙ flat_map-append f (take i xs) (get_or xs i d ∷ []) in
    ap (λ (y : List A). flat_map f (take i xs) ++ (y ++ flat_map f (drop (i + 1) xs))) (sym (append-nil (f (get_or xs i d))))
    ∙ sym (append_assoc (flat_map f (take i xs)) (f (get_or xs i d) ++ []) (flat_map f (drop (i + 1) xs)))
    ∙ ap (λ (y : List A). y ++ flat_map f (drop (i + 1) xs)) (sym e)
    ∙ sym (flat_map-append f (take (i + 1) xs) (drop (i + 1) xs))
    ∙ ap (flat_map f) (take-append-drop (i + 1) xs)

-- the parts with one more
pub flat_map_next : {X A : Type 0} (f : X → List A) (xs : List X) (i : ℕ) (d : X) → i < length xs
    → flat_map f (take i xs) ++ f (get_or xs i d) ≡ flat_map f (take (i + 1) xs)
flat_map_next {X} {A} f xs i d within =
    ap (λ (y : List A). flat_map f (take i xs) ++ y) (sym (append-nil (f (get_or xs i d))))
    ∙ sym (ap (flat_map f) (take_more xs i d within) ∙ flat_map-append f (take i xs) (get_or xs i d ∷ []))

-- the whole is no shorter than the parts up to one and that one
pub flat_map_longer : {X A : Type 0} (f : X → List A) (xs : List X) (i : ℕ) (d : X) → i < length xs
    → length (flat_map f (take i xs)) + length (f (get_or xs i d)) ≤ length (flat_map f xs)
flat_map_longer f xs i d within =
    let front = flat_map f (take i xs) in
    let part = f (get_or xs i d) in
    let rest = flat_map f (drop (i + 1) xs) in
    omega (arith, ap length (flat_map_around f xs i d within), length-append front (part ++ rest), length-append part rest)

pub hex_of-encode : (bytes : List ℕ) → encode_lower bytes ≡ hex_of bytes
unfolding encode_with
hex_of-encode [] = refl
hex_of-encode (byte ∷ bytes) =
    ap (λ (rest : List ℕ). slice_index (codes "0123456789abcdef") (byte / 16) ∷ slice_index (codes "0123456789abcdef") (byte % 16) ∷ rest) (hex_of-encode bytes)

pub hex_of-append : (a b : List ℕ) → hex_of (a ++ b) ≡ hex_of a ++ hex_of b
hex_of-append [] b = refl
hex_of-append (byte ∷ a) b =
    ap (λ (rest : List ℕ). slice_index (codes "0123456789abcdef") (byte / 16) ∷ slice_index (codes "0123456789abcdef") (byte % 16) ∷ rest) (hex_of-append a b)

-- the digits up to one place, and on to a later one
pub hex_of-range : (bytes : List ℕ) (at end : ℕ) → at ≤ end → end ≤ length bytes
    → hex_of (take at bytes) ++ hex_of (slice_range bytes at end) ≡ hex_of (take end bytes)
hex_of-range bytes at end up within =
    let sum : at + (end - at) ≡ end = omega arith in
    let split : take at bytes ++ slice_range bytes at end ≡ take end bytes = sym (take-add at (end - at) bytes) ∙ ap (λ (n : ℕ). take n bytes) sum in
    sym (hex_of-append (take at bytes) (slice_range bytes at end)) ∙ ap hex_of split

-- and all that is behind
pub hex_of-rest : (bytes : List ℕ) (at : ℕ) → hex_of (take at bytes) ++ hex_of (drop at bytes) ≡ hex_of bytes
hex_of-rest bytes at = sym (hex_of-append (take at bytes) (drop at bytes)) ∙ ap hex_of (take-append-drop at bytes)

-- data that are some bytes are printed as their digits
pub data_text-some : (bytes : List ℕ) → (length bytes == 0) ≡ false → hex_of bytes ≡ data_text bytes
data_text-some [] some = cc some
data_text-some (byte ∷ bytes) some = refl

-- what is said of an `Ok`, where it is one
pub told_ok : {T E P : Type 0} (result : Result T E) → IsOk result → OnOk result P → P
told_ok (Ok value) ok told = told
told_ok (Err error) ok told = cc ok

-- the line of a reply, cut before its outcome
pub line_of-parts : (place stream verb outcome : List ℕ)
    → (place ++ (codes " " ++ (stream ++ (codes " " ++ (verb ++ codes " "))))) ++ (outcome ++ codes "\n")
    ≡ place ++ (codes " " ++ (stream ++ (codes " " ++ (verb ++ (codes " " ++ (outcome ++ codes "\n"))))))
line_of-parts place stream verb outcome =
    append_assoc place (codes " " ++ (stream ++ (codes " " ++ (verb ++ codes " ")))) (outcome ++ codes "\n")
    ∙ ap (λ (x : List ℕ). place ++ (codes " " ++ x))
    (append_assoc stream (codes " " ++ (verb ++ codes " ")) (outcome ++ codes "\n")
    ∙ ap (λ (x : List ℕ). stream ++ (codes " " ++ x)) (append_assoc verb (codes " ") (outcome ++ codes "\n")))
