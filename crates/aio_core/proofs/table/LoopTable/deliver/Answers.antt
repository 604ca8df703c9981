use Rattle.std.proofs.Common.{◌≡◌, ◌≢◌, ◌<◌, ℕ, true, false, eqb, None, MatchBool, ◌∷◌, refl, sym, ap, ◌∙◌, subst}
use Rattle.std.proofs.lemmas.Bool.{eq-eqb, ne_eqb}
use Rattle.aio_core.specs.Known.{Known}
use Rattle.aio_core.specs.Words.{free_word}
use Rattle.aio_core.proofs.OneShots.{placed_of}
use Rattle.aio_core.proofs.table.LoopTable.deliver.Goals as goal

-- what the compare told
then_case : (found : ℕ) (A B : Type 0) → found ≡ free_word → MatchBool (eqb found free_word) A B → A
then_case found A B is told = let b : eqb found free_word ≡ true = eq-eqb found free_word is in rw b at told

else_case : (found : ℕ) (A B : Type 0) → found ≢ free_word → MatchBool (eqb found free_word) A B → B
else_case found A B no_free told = let b : eqb found free_word ≡ false = ne_eqb found free_word no_free in rw b at told

pub put_job-requires-clause-numbers : goal.put_job-requires-clause-numbers
put_job-requires-clause-numbers g c =
    let told = then_case _ _ _ c.if-found-eq-FREE.true (c.claim-found.ensures.told c.requires.job.0 c.requires.job.1) in
    subst (λ (k : Known). 0 < k.count) (sym told.0.rest) c.requires.numbers

pub put_job-requires-clause-sizes : goal.put_job-requires-clause-sizes
put_job-requires-clause-sizes g c =
    let told = then_case _ _ _ c.if-found-eq-FREE.true (c.claim-found.ensures.told c.requires.job.0 c.requires.job.1) in
    ap (λ (k : Known). k.sizes) told.0.rest ∙ c.requires.sizes

pub put_job-requires-clause-claimed : goal.put_job-requires-clause-claimed
put_job-requires-clause-claimed g c =
    let told = then_case _ _ _ c.if-found-eq-FREE.true (c.claim-found.ensures.told c.requires.job.0 c.requires.job.1) in
    (c.requires.job.0, c.requires.job.1, ap (λ (k : Known). k.phase) told.0.rest)

pub put_job-requires-clause-place : goal.put_job-requires-clause-place
put_job-requires-clause-place g c =
    let told = then_case _ _ _ c.if-found-eq-FREE.true (c.claim-found.ensures.told c.requires.job.0 c.requires.job.1) in
    told.1 ∙ ap (λ l. (c.args.lot, None) ∷ l) c.requires.places

pub returns-then-found-eq-FREE-clause-told : goal.returns-then-found-eq-FREE-clause-told
returns-then-found-eq-FREE-clause-told g c = λ x is.
    let told = then_case _ _ _ c.if-found-eq-FREE.true (c.claim-found.ensures.told x is) in
    let put = c.put_job.ensures.told in
    rw c.put_job.ensures.empty (placed_of _ _ _ put.0 _ _ _ c.if-found-eq-FREE.true told.0 put.1)

pub returns-else-found-eq-FREE-clause-seat : goal.returns-else-found-eq-FREE-clause-seat
returns-else-found-eq-FREE-clause-seat g c =
    let told = else_case _ _ _ c.if-found-eq-FREE.false (c.claim-found.ensures.told c.requires.job.0 c.requires.job.1) in
    (c.claim-found.ensures.seat.0, c.claim-found.ensures.seat.1, told.1 ∙ c.requires.places)

pub returns-else-found-eq-FREE-clause-told : goal.returns-else-found-eq-FREE-clause-told
returns-else-found-eq-FREE-clause-told g c = λ x is.
    let told = else_case _ _ _ c.if-found-eq-FREE.false (c.claim-found.ensures.told x is) in
    rw is (refl, record { found = c.claim-found.result; taken = c.if-found-eq-FREE.false; looks = told.0 })
