-- The journal as an entry is made.
use Rattle.std.proofs.Common.{◌≡◌, ◌≢◌, ℕ, ◌+◌, ◌<◌, ◌==◌, inl, inr, cond, List, [], ◌∷◌, ◌++◌, length, map, Option, refl, sym, ap, subst, ◌∙◌, arith}
use Rattle.std.proofs.lemmas.Bool.{cases_eq, cases_Bool, eq-eqb, ne_eqb, cond-true, cond-false}
use Rattle.std.proofs.lemmas.List.{length-map, map-append}
use Rattle.std.proofs.lemmas.List.Sums.{sum_by-cons}
use Rattle.std.specs.List.{AllByRecursion}
use Rattle.std.specs.declared.snapshot.Snapshot.{Snapshot}
use Rattle.aio_model.specs.Serving.SerialHistory.{CountsFrom}
use Rattle.img_requests.specs.declared.journal.Mark.{Mark}
use Rattle.img_shared.specs.declared.journal.Entry.{Entry}
use Rattle.img_shared.specs.Journals.{noted_count, entry_next, noted_entry, Noted, Chain, of_stream, indices_noted}

pub chain_push : (first last : Option (List ℕ)) (journal : List Noted) (entry : Noted) → Chain first journal last → entry.before ≡ last
    → Chain first (journal ++ entry ∷ []) entry.after
chain_push first last [] entry chain e = (e ∙ chain, refl)
chain_push first last (one ∷ journal) entry chain e = (chain.0, chain_push one.after last journal entry chain.1 e)

counts_push : (n : ℕ) (xs : List ℕ) (i : ℕ) → CountsFrom n xs → i ≡ n + length xs → CountsFrom n (xs ++ i ∷ [])
counts_push n [] i counts e = (omega (arith, e), tt)
counts_push n (x ∷ xs) i counts e = (counts.0, counts_push (n + 1) xs i counts.1 (omega (arith, e)))

indices_same : (k : ℕ) (journal : List Noted) (entry : Noted) → entry.stream ≡ k → indices_noted k (journal ++ entry ∷ []) ≡ indices_noted k journal ++ entry.index ∷ []
indices_same k [] entry e = ap (map (λ (entry : Noted). entry.index)) (cond-true (entry.stream == k) (entry ∷ []) [] (eq-eqb entry.stream k e))
indices_same k (one ∷ journal) entry e =
    let ih = indices_same k journal entry e in
    elim (cases_Bool (one.stream == k)) [
      | inl h ↦ ap (map (λ (entry : Noted). entry.index)) (cond-true (one.stream == k) (one ∷ of_stream k (journal ++ entry ∷ [])) (of_stream k (journal ++ entry ∷ [])) h)
          ∙ ap (λ (l : List ℕ). one.index ∷ l) ih
          ∙ sym (ap (λ (l : List Noted). map (λ (entry : Noted). entry.index) l ++ entry.index ∷ []) (cond-true (one.stream == k) (one ∷ of_stream k journal) (of_stream k journal) h))
      | inr h ↦ ap (map (λ (entry : Noted). entry.index)) (cond-false (one.stream == k) (one ∷ of_stream k (journal ++ entry ∷ [])) (of_stream k (journal ++ entry ∷ [])) h)
          ∙ ih
          ∙ sym (ap (λ (l : List Noted). map (λ (entry : Noted). entry.index) l ++ entry.index ∷ []) (cond-false (one.stream == k) (one ∷ of_stream k journal) (of_stream k journal) h))
    ]

indices_else : (k : ℕ) (journal : List Noted) (entry : Noted) → entry.stream ≢ k → indices_noted k (journal ++ entry ∷ []) ≡ indices_noted k journal
indices_else k [] entry ne = ap (map (λ (entry : Noted). entry.index)) (cond-false (entry.stream == k) (entry ∷ []) [] (ne_eqb entry.stream k ne))
indices_else k (one ∷ journal) entry ne =
    let ih = indices_else k journal entry ne in
    elim (cases_Bool (one.stream == k)) [
      | inl h ↦ ap (map (λ (entry : Noted). entry.index)) (cond-true (one.stream == k) (one ∷ of_stream k (journal ++ entry ∷ [])) (of_stream k (journal ++ entry ∷ [])) h)
          ∙ ap (λ (l : List ℕ). one.index ∷ l) ih
          ∙ sym (ap (λ (l : List Noted). map (λ (entry : Noted). entry.index) l) (cond-true (one.stream == k) (one ∷ of_stream k journal) (of_stream k journal) h))
      | inr h ↦ ap (map (λ (entry : Noted). entry.index)) (cond-false (one.stream == k) (one ∷ of_stream k (journal ++ entry ∷ [])) (of_stream k (journal ++ entry ∷ [])) h)
          ∙ ih
          ∙ sym (ap (λ (l : List Noted). map (λ (entry : Noted). entry.index) l) (cond-false (one.stream == k) (one ∷ of_stream k journal) (of_stream k journal) h))
    ]

pub known_push : {D : Type 0} → (journal : List (Entry D)) (entry : Entry D) (n : ℕ) → AllByRecursion (λ (one : Entry D). one.stream < n) journal → entry.stream < n
    → AllByRecursion (λ (one : Entry D). one.stream < n) (journal ++ entry ∷ [])
known_push [] entry n known last = (last, tt)
known_push (one ∷ journal) entry n known last = (known.0, known_push journal entry n known.1 last)

module _ {D : Type 0} (bytes : D → Option (List ℕ)) where
  noted_count-cons : (k : ℕ) (one : Entry D) (journal : List (Entry D)) → noted_count k (one ∷ journal) ≡ cond (one.stream == k) 1 0 + noted_count k journal
  noted_count-cons k one journal = sum_by-cons (λ (entry : Entry D). cond (entry.stream == k) 1 0) one journal

  pub length_of_stream : (k : ℕ) (journal : List (Entry D)) → length (of_stream k (map (noted_entry bytes) journal)) ≡ noted_count k journal
  length_of_stream k [] = refl
  length_of_stream k (one ∷ journal) =
      let ih = length_of_stream k journal in
      let rest = of_stream k (map (noted_entry bytes) journal) in
      elim (cases_Bool (one.stream == k)) [
        | inl h ↦
            let here : cond {A = ℕ} (one.stream == k) 1 0 ≡ 1 = cond-true (one.stream == k) 1 0 h in
            ap (λ (l : List Noted). length l) (cond-true (one.stream == k) (noted_entry bytes one ∷ rest) rest h) ∙ omega (arith, ih, noted_count-cons k one journal, here)
        | inr h ↦
            let here : cond {A = ℕ} (one.stream == k) 1 0 ≡ 0 = cond-false (one.stream == k) 1 0 h in
            ap (λ (l : List Noted). length l) (cond-false (one.stream == k) (noted_entry bytes one ∷ rest) rest h) ∙ omega (arith, ih, noted_count-cons k one journal, here)
      ]

  pub ordered_push : (journal : List (Entry D)) (s : ℕ) (mark : Mark) (b a : Snapshot (Snapshot D))
      → ((k : ℕ) → CountsFrom 0 (indices_noted k (map (noted_entry bytes) journal)))
      → (k : ℕ) → CountsFrom 0 (indices_noted k (map (noted_entry bytes) (journal ++ entry_next s journal mark b a ∷ [])))
  ordered_push journal s mark b a ordered k =
      let entry = entry_next s journal mark b a in
      let next = noted_entry bytes entry in
      let before = map (noted_entry bytes) journal in
      let parts : map (noted_entry bytes) (journal ++ entry ∷ []) ≡ before ++ next ∷ [] = map-append (noted_entry bytes) journal (entry ∷ []) in
      subst (λ (l : List Noted). CountsFrom 0 (indices_noted k l)) (sym parts) (elim (cases_eq s k) [
        | inl e ↦ subst (CountsFrom 0) (sym (indices_same k before next e))
            (counts_push 0 (indices_noted k before) next.index (ordered k)
            (ap (λ (m : ℕ). noted_count m journal) e ∙ omega (arith, length_of_stream k journal, length-map (of_stream k before) (λ (one : Noted). one.index))))
        | inr ne ↦ subst (CountsFrom 0) (sym (indices_else k before next ne)) (ordered k)
      ])
