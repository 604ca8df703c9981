-- Keys, and what stands behind them.
use Rattle.std.proofs.Common.{◌≡◌, ℕ, List, Bool, true, false, Option, Some, None, Bor, length, drop, refl, ap, ◌∙◌}
use Rattle.std.specs.Prelude.{MatchOption}
use Rattle.std.specs.Str.Pattern.{FindsTextPrefix, StripsPrefix}
use Rattle.std.proofs.lemmas.Bool.Decides.{Decides-eqb}
use Rattle.std.proofs.lemmas.Slice.Eq.{starts_is}
use Rattle.program_words.specs.Words.{begins_with}

not_true : (b : Bool) → (b ≡ true → ⊥) → b ≡ false
not_true true no_true = absurd (no_true refl)
not_true false no_true = refl

-- a word without a key at its front, and with it
pub key-stripped : (key word : List ℕ) (r : Option (Bor (List ℕ)))
    → MatchOption r (FindsTextPrefix key word None) (λ x. StripsPrefix (FindsTextPrefix key) word x.now)
    → MatchOption r (begins_with key word ≡ false) (λ x. (begins_with key word ≡ true) × (x.now ≡ drop (length key) word))
key-stripped key word None lacks =
    let h = starts_is Decides-eqb word key (begins_with key word) refl in
    not_true (begins_with key word) (λ begins. lacks (drop (length key) word) (h.0 begins))
key-stripped key word (Some x) (n, found, rest, len) =
    let h = starts_is Decides-eqb word key (begins_with key word) refl in
    (h.1 (drop n word) found.1, rest ∙ ap (λ (i : ℕ). drop i word) found.0)
