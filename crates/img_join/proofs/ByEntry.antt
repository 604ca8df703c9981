-- Replies placed entry by entry are those that each stream's entries and buffers give.
use Rattle.std.proofs.Common.{◌≡◌, ◌≢◌, ℕ, suc, ◌+◌, ◌<◌, ◌≤◌, ◌==◌, inl, inr, Bool, false, cond, set, List, [], ◌∷◌, length, map, slice_index, get_or, Option, refl, sym, ap, subst, ◌∙◌, arith, get_or-set_same, get_or-set_other}
use Rattle.std.specs.List.{AllByRecursion}
use Rattle.std.proofs.lemmas.Bool.{cases_eq, eq-eqb, ne_eqb, cond-true, cond-false}
use Rattle.std.proofs.lemmas.List.{length-set}
use Rattle.std.proofs.lemmas.List.Sums.{sum_by-cons}
use Rattle.aio_model.specs.declared.serving.replies.Placed.{Placed}
use Rattle.aio_model.specs.declared.serving.replies.Reply.{Reply}
use Rattle.aio_model.specs.declared.serving.replies.Reply.TheVariants.{Einval}
use Rattle.aio_model.specs.Serving.SerialHistory.{CountsFrom, is_eio, eios_of}
use Rattle.img_requests.specs.declared.journal.Mark.{Mark}
use Rattle.img_requests.specs.declared.journal.Mark.TheVariants as mark
use Rattle.img_requests.specs.Journal.{reply_of}
use Rattle.img_shared.specs.declared.journal.Entry.{Entry}
use Rattle.img_shared.specs.Journals.{noted_count, noted_entry, Noted, indices_noted, is_eio_mark, eios_in}
use Rattle.img_shared.specs.Notes.{Placement, entries_from}
use Rattle.img_join.specs.Answers.{placed_of}
use Rattle.img_join.specs.Ended.{replies_to}
use Rattle.img_join.specs.Placing.{row_at, first_buffer, rest_of, placed_as, placed_from, HaveAll}

-- ---- a row with a buffer left

row_split : (row : List (List ℕ)) → 0 < length row → row ≡ first_buffer row ∷ rest_of row
row_split [] some = absurd (omega arith)
row_split (found ∷ row) some = refl

rest_length : (row : List (List ℕ)) (n : ℕ) → n + 1 ≤ length row → n ≤ length (rest_of row)
rest_length [] n more = absurd (omega arith)
rest_length (found ∷ row) n more = omega (arith, more)

module _ (rows : List (List (List ℕ))) (s : ℕ) where
  abbrev taken : List (List (List ℕ))
  taken = set rows s (rest_of (row_at rows s))

  row_taken : s < length rows → row_at taken s ≡ rest_of (row_at rows s)
  row_taken below = get_or-set_same rows s (rest_of (row_at rows s)) [] below

  row_else : (k : ℕ) → k ≢ s → row_at taken k ≡ row_at rows k
  row_else k ne = get_or-set_other rows s k (rest_of (row_at rows s)) [] ne

-- ---- each entry finds a buffer

module _ {D : Type 0} (ids : List ℕ) where
  noted_count-cons : (k : ℕ) (one : Entry D) (journal : List (Entry D)) → noted_count k (one ∷ journal) ≡ cond (one.stream == k) 1 0 + noted_count k journal
  noted_count-cons k one journal = sum_by-cons (λ (entry : Entry D). cond (entry.stream == k) 1 0) one journal

  pub have_all : (journal : List (Entry D)) (rows : List (List (List ℕ))) → AllByRecursion (λ (entry : Entry D). entry.stream < length ids) journal
      → length rows ≡ length ids
      → ((k : ℕ) → k < length ids → noted_count k journal ≤ length (row_at rows k))
      → HaveAll ids journal rows
  have_all [] rows known long each = tt
  have_all (one ∷ journal) rows known long each =
      let s = one.stream in
      let below : s < length rows = omega (arith, known.0, long) in
      let here : cond {A = ℕ} (s == s) 1 0 ≡ 1 = cond-true (s == s) 1 0 (eq-eqb s s refl) in
      let many : noted_count s journal + 1 ≤ length (row_at rows s) = omega (arith, each s known.0, noted_count-cons s one journal, here) in (
        known.0,
        below,
        omega (arith, many),
        have_all journal (taken rows s) known.1 (length-set rows s (rest_of (row_at rows s)) ∙ long) (λ k known_k. elim (cases_eq k s) [
          | inl e ↦ subst (λ (m : ℕ). noted_count m journal ≤ length (row_at (taken rows s) m)) (sym e)
              (subst (λ (row : List (List ℕ)). noted_count s journal ≤ length row) (sym (row_taken rows s below)) (rest_length (row_at rows s) (noted_count s journal) many))
          | inr ne ↦ subst (λ (row : List (List ℕ)). noted_count k journal ≤ length row) (sym (row_else rows s k ne))
              (
              let other : cond {A = ℕ} (s == k) 1 0 ≡ 0 = cond-false (s == k) 1 0 (ne_eqb s k (λ e. ne (sym e))) in
              omega (arith, each k known_k, noted_count-cons k one journal, other)
              )
        ]),
      )

-- ---- the replies, by their indices

module _ {D : Type 0} (bytes : D → Option (List ℕ)) (ids : List ℕ) (reply : ℕ → ℕ → Reply) where
  -- a stream's replies from index `n k` on are those of its entries that are left
  abbrev pub Follows : (ℕ → ℕ) → ℕ → List (Entry D) → List (List (List ℕ)) → Type 0
  Follows n place journal rows = (k j : ℕ) → reply k (n k + j) ≡ get_or (replies_to (entries_from place k journal) (row_at rows k)) j Einval

  abbrev pub Counts : (ℕ → ℕ) → List (Entry D) → Type 0
  Counts n journal = (k : ℕ) → CountsFrom (n k) (indices_noted k (map (noted_entry bytes) journal))

  module _ (n : ℕ → ℕ) (place : ℕ) (one : Entry D) (journal : List (Entry D)) (rows : List (List (List ℕ))) (below : one.stream < length rows)
      (some : 0 < length (row_at rows one.stream)) (follows : Follows n place (one ∷ journal) rows) (counts : Counts n (one ∷ journal)) where
    abbrev s : ℕ
    s = one.stream

    -- the index of the stream's next entry
    abbrev after : ℕ → ℕ
    after k = cond (s == k) (n k + 1) (n k)

    own_entries : entries_from place s (one ∷ journal) ≡ record { place = place; entry = one } ∷ entries_from (place + 1) s journal
    own_entries = cond-true (s == s) _ _ (eq-eqb s s refl)

    own_replies : replies_to (entries_from place s (one ∷ journal)) (row_at rows s)
        ≡ reply_of one.mark (first_buffer (row_at rows s)) ∷ replies_to (entries_from (place + 1) s journal) (rest_of (row_at rows s))
    own_replies =
        ap (λ (l : List (Placement D)). replies_to l (row_at rows s)) own_entries
        ∙ ap (λ (row : List (List ℕ)). replies_to (record { place = place; entry = one } ∷ entries_from (place + 1) s journal) row) (row_split (row_at rows s) some)

    own_counts : CountsFrom (n s) (one.index ∷ indices_noted s (map (noted_entry bytes) journal))
    own_counts = subst (λ (l : List Noted). CountsFrom (n s) (map (λ (entry : Noted). entry.index) l)) (cond-true (s == s) _ _ (eq-eqb s s refl)) (counts s)

    reply_here : reply s one.index ≡ reply_of one.mark (first_buffer (row_at rows s))
    reply_here =
        let at : one.index ≡ n s + 0 = own_counts.0 ∙ (let z : n s ≡ n s + 0 = omega arith in z) in
        ap (reply s) at ∙ follows s 0 ∙ ap (λ (l : List Reply). get_or l 0 Einval) own_replies

    follows_on : Follows after (place + 1) journal (taken rows s)
    follows_on k j = elim (cases_eq k s) [
      | inl e ↦ subst (λ (m : ℕ). reply m (after m + j) ≡ get_or (replies_to (entries_from (place + 1) m journal) (row_at (taken rows s) m)) j Einval) (sym e) (
          let next : after s ≡ n s + 1 = cond-true (s == s) (n s + 1) (n s) (eq-eqb s s refl) in
          let index : after s + j ≡ n s + suc j = omega (arith, next) in
          ap (reply s) index ∙ follows s (suc j) ∙ ap (λ (l : List Reply). get_or l (suc j) Einval) own_replies
          ∙ ap (λ (row : List (List ℕ)). get_or (replies_to (entries_from (place + 1) s journal) row) j Einval) (sym (row_taken rows s below))
          )
      | inr ne ↦
          let away : (s == k) ≡ false = ne_eqb s k (λ e. ne (sym e)) in
          let same : after k + j ≡ n k + j = ap (λ (m : ℕ). m + j) (cond-false (s == k) (n k + 1) (n k) away) in
          ap (reply k) same ∙ follows k j
          ∙ ap (λ (l : List (Placement D)). get_or (replies_to l (row_at rows k)) j Einval) (cond-false (s == k) _ _ away)
          ∙ ap (λ (row : List (List ℕ)). get_or (replies_to (entries_from (place + 1) k journal) row) j Einval) (sym (row_else rows s k ne))
    ]

    counts_on : Counts after journal
    counts_on k = elim (cases_eq k s) [
      | inl e ↦ subst (λ (m : ℕ). CountsFrom (after m) (indices_noted m (map (noted_entry bytes) journal))) (sym e)
          (subst (λ (i : ℕ). CountsFrom i (indices_noted s (map (noted_entry bytes) journal))) (sym (cond-true (s == s) (n s + 1) (n s) (eq-eqb s s refl))) own_counts.1)
      | inr ne ↦
          let away : (s == k) ≡ false = ne_eqb s k (λ e. ne (sym e)) in
          subst (λ (i : ℕ). CountsFrom i (indices_noted k (map (noted_entry bytes) journal))) (sym (cond-false (s == k) (n k + 1) (n k) away))
          (subst (λ (l : List Noted). CountsFrom (n k) (map (λ (entry : Noted). entry.index) l)) (cond-false (s == k) _ _ away) (counts k))
    ]

  pub placed_same : (n : ℕ → ℕ) (place : ℕ) (journal : List (Entry D)) (rows : List (List (List ℕ))) → HaveAll ids journal rows
      → Follows n place journal rows → Counts n journal
      → placed_from ids journal rows ≡ map (placed_of (slice_index ids) reply) (map (noted_entry bytes) journal)
  placed_same n place [] rows have follows counts = refl
  placed_same n place (one ∷ journal) rows have follows counts =
      let here : reply one.stream one.index ≡ reply_of one.mark (first_buffer (row_at rows one.stream)) =
      reply_here n place one journal rows have.1 have.2 follows counts in
      let rest : placed_from ids journal (taken rows one.stream) ≡ map (placed_of (slice_index ids) reply) (map (noted_entry bytes) journal) =
      placed_same (after n place one journal rows have.1 have.2 follows counts) (place + 1) journal (taken rows one.stream) have.3
      (follows_on n place one journal rows have.1 have.2 follows counts) (counts_on n place one journal rows have.1 have.2 follows counts) in
      ap (λ (l : List Placed). placed_as ids one (first_buffer (row_at rows one.stream)) ∷ l) rest
      ∙ ap (λ (r : Reply). record { stream = slice_index ids one.stream; index = one.index; reply = r } ∷ map (placed_of (slice_index ids) reply) (map (noted_entry bytes) journal)) (sym here)

-- ---- faults

eio_reply : (m : Mark) (found : List ℕ) → is_eio (reply_of m found) ≡ is_eio_mark m
eio_reply (mark.Put n) found = refl
eio_reply (mark.Got n) found = refl
eio_reply (mark.Zeroed n) found = refl
eio_reply mark.Flushed found = refl
eio_reply (mark.Eio k) found = refl
eio_reply mark.Einval found = refl

pub eios_placed : {D : Type 0} → (ids : List ℕ) (journal : List (Entry D)) (rows : List (List (List ℕ))) → eios_of (placed_from ids journal rows) ≡ eios_in journal
eios_placed ids [] rows = refl
eios_placed {D} ids (one ∷ journal) rows =
    let found = first_buffer (row_at rows one.stream) in
    let rest : eios_of (placed_from ids journal (taken rows one.stream)) ≡ eios_in journal = eios_placed ids journal (taken rows one.stream) in
    let first : cond {A = ℕ} (is_eio (reply_of one.mark found)) 1 0 ≡ cond (is_eio_mark one.mark) 1 0 = ap (λ (b : Bool). cond b 1 0) (eio_reply one.mark found) in
    omega (
      arith,
      rest,
      first,
      sum_by-cons (λ (p : Placed). cond (is_eio p.reply) 1 0) (placed_as ids one found) (placed_from ids journal (taken rows one.stream)),
      sum_by-cons (λ (e : Entry D). cond (is_eio_mark e.mark) 1 0) one journal,
    )
