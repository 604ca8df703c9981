-- All players of a table sit, as one of them makes a step.
use Rattle.std.proofs.Common.{◌≡◌, ◌≢◌, ℕ, zero, suc, ◌+◌, ◌<◌, set, List, [], ◌∷◌, ◌++◌, length, take, replicate, slice_index, get_or, Option, refl, sym, ap, subst, ◌∙◌, arith, inl, inr, ◌⊎◌, append_assoc, length-append, length-take-le}
use Rattle.std.proofs.lemmas.List.{length-replicate, take_more}
use Rattle.img_shared.specs.declared.phases.Phase.{Phase}
use Rattle.img_shared.specs.declared.phases.Phase.TheVariants.{Idle}
use Rattle.img_shared.specs.Images.{ImageState}
use Rattle.img_shared.specs.Journals.{noted_count}
use Rattle.img_shared.specs.Notes.{Note, note, SameNotes}
use Rattle.img_shared.specs.Phases.{phase_at}
use Rattle.img_join.proofs.Accounts.{length_from}
use Rattle.shared_tests.specs.declared.player.Player.{Player}
use Rattle.shared_tests.specs.declared.turn.Turn.{Turn}
use Rattle.shared_tests.specs.declared.turn.Turn.TheVariants.{Rest}
use Rattle.aio_model.specs.declared.serving.requests.Request.{Request}
use Rattle.shared_tests.specs.Sits.{Sits, TurnedTo}
use Rattle.shared_tests.specs.Tables.{SitsAt, AllSit, AreFresh}

module _ {D : Type 0} (bytes : D → Option (List ℕ)) (s : ℕ) (old new : ImageState D) (same : SameNotes bytes s old new) where
  sits_kept : (k left : ℕ) (turn : Turn) (request : Request) → k ≢ s → Sits k left turn request old → Sits k left turn request new
  sits_kept k left turn request ne sits =
      let e : note bytes new k ≡ note bytes old k = same k ne in
      let entries : noted_count k new.journal ≡ noted_count k old.journal =
      sym (length_from 0 k new.journal) ∙ ap (λ (n : Note D). length n.entries) e ∙ length_from 0 k old.journal in
      record {
        known = omega (arith, sits.known, ap (λ (n : Note D). n.streams) e);
        rows = omega (arith, sits.rows, ap (λ (n : Note D). n.rows) e);
        due = omega (arith, sits.due, entries, ap (λ (n : Note D). n.requests) e);
        turned = subst (λ (p : Phase). TurnedTo turn k request left p) (sym (ap (λ (n : Note D). n.phase) e)) sits.turned;
      }

  sits_else : (i : ℕ) (player : Player) → i ≢ s → SitsAt i player old → SitsAt i player new
  sits_else i player ne at = (at.0, sits_kept player.stream player.left player.turn player.request (λ e. ne (sym at.0 ∙ e)) at.1)

  behind : (i : ℕ) (players : List Player) → s < i → AllSit i players old → AllSit i players new
  behind i [] past all = tt
  behind i (p ∷ players) past all = (sits_else i p (λ e. absurd (omega (arith, past, e))) all.0, behind (i + 1) players (omega (arith, past)) all.1)

  pub all_step : (i k : ℕ) (players : List Player) (next : Player) → s ≡ i + k → k < length players → AllSit i players old
      → SitsAt s next new → AllSit i (set players k next) new
  all_step i k [] next at below all here = absurd (omega (arith, below))
  all_step i zero (p ∷ players) next at below all here =
      let is : s ≡ i = omega (arith, at) in
      (subst (λ (m : ℕ). SitsAt m next new) is here, behind (i + 1) players (omega (arith, is)) all.1)
  all_step i (suc k) (p ∷ players) next at below all here =
      (sits_else i p (λ e. absurd (omega (arith, at, e))) all.0, all_step (i + 1) k players next (omega (arith, at)) (omega (arith, below)) all.1 here)

pub sits_at : {D : Type 0} → (i k : ℕ) (players : List Player) (image : ImageState D) (default : Player) → k < length players → AllSit i players image
    → SitsAt (i + k) (get_or players k default) image
sits_at i k [] image default below all = absurd (omega (arith, below))
sits_at i zero (p ∷ players) image default below all =
    let is : i + 0 ≡ i = omega arith in
    subst (λ (m : ℕ). SitsAt m p image) (sym is) all.0
sits_at i (suc k) (p ∷ players) image default below all =
    let is : i + suc k ≡ i + 1 + k = omega arith in
    subst (λ (m : ℕ). SitsAt m (get_or players k default) image) (sym is) (sits_at (i + 1) k players image default (omega (arith, below)) all.1)

-- between two requests the next is chosen
resits : {D : Type 0} → (s left : ℕ) (turn : Turn) (request next : Request) (image : ImageState D) → (next ≡ request) ⊎ (turn ≡ Rest)
    → Sits s left turn request image → Sits s left turn next image
resits s left turn request next image (inl e) sits = subst (λ (r : Request). Sits s left turn r image) (sym e) sits
resits s left turn request next image (inr e) sits = record {
  known = sits.known;
  rows = sits.rows;
  due = sits.due;
  turned = subst (λ (t : Turn). TurnedTo t s next left (phase_at image.phases s)) (sym e)
      (subst (λ (t : Turn). TurnedTo t s request left (phase_at image.phases s)) e sits.turned);
}

all_set : {D : Type 0} → (i k : ℕ) (players : List Player) (next : Player) (image : ImageState D) → k < length players → AllSit i players image
    → SitsAt (i + k) next image → AllSit i (set players k next) image
all_set i k [] next image below all here = absurd (omega (arith, below))
all_set i zero (p ∷ players) next image below all here =
    let is : i + 0 ≡ i = omega arith in
    (subst (λ (m : ℕ). SitsAt m next image) is here, all.1)
all_set i (suc k) (p ∷ players) next image below all here =
    let is : i + suc k ≡ i + 1 + k = omega arith in
    (all.0, all_set (i + 1) k players next image (omega (arith, below)) all.1 (subst (λ (m : ℕ). SitsAt m next image) is here))

module _ {D : Type 0} (bytes : D → Option (List ℕ)) (k : ℕ) (players : List Player) (found next : Player) (below : k < length players)
    (old : ImageState D) (all : AllSit 0 players old) (at : found ≡ get_or players k found) where
  -- the player that is found sits there
  pub sits_found : SitsAt k found old
  sits_found =
      let is : 0 + k ≡ k = omega arith in
      subst (λ (p : Player). SitsAt k p old) (sym at) (subst (λ (m : ℕ). SitsAt m (get_or players k found) old) is (sits_at 0 k players old found below all))

  pub all_asked : next.stream ≡ found.stream → next.left ≡ found.left → next.turn ≡ found.turn → (next.request ≡ found.request) ⊎ (found.turn ≡ Rest)
      → AllSit 0 (set players k next) old
  all_asked stream left turn request =
      let is : k ≡ 0 + k = omega arith in
      all_set 0 k players next old below all (subst (λ (m : ℕ). SitsAt m next old) is (
        stream ∙ sits_found.0,
        subst (λ (n : ℕ). Sits n next.left next.turn next.request old) (sym stream)
            (subst (λ (n : ℕ). Sits found.stream n next.turn next.request old) (sym left)
            (subst (λ (t : Turn). Sits found.stream found.left t next.request old) (sym turn)
            (resits found.stream found.left found.turn found.request next.request old request sits_found.1))),
      ))

  pub all_stepped : (new : ImageState D) → next.stream ≡ found.stream → SameNotes bytes found.stream old new
      → Sits next.stream next.left next.turn next.request new
      → AllSit 0 (set players k next) new
  all_stepped new stream same sits =
      let here : found.stream ≡ k = sits_found.0 in
      all_step bytes found.stream old new same 0 k players next (omega (arith, here)) below all (stream, sits)

-- ---- a new table

pub fresh_push : (i : ℕ) (lefts : List ℕ) (players : List Player) (left : ℕ) (player : Player) → AreFresh i lefts players
    → player.stream ≡ i + length lefts → player.left ≡ left → player.turn ≡ Rest
    → AreFresh i (lefts ++ left ∷ []) (players ++ player ∷ [])
fresh_push i [] [] left player fresh at many turn = (omega (arith, at), many, turn, tt)
fresh_push i [] (p ∷ players) left player fresh at many turn = absurd fresh
fresh_push i (l ∷ lefts) [] left player fresh at many turn = absurd fresh
fresh_push i (l ∷ lefts) (p ∷ players) left player fresh at many turn =
    (fresh.0, fresh.1, fresh.2, fresh_push (i + 1) lefts players left player fresh.3 (omega (arith, at)) many turn)

pub fresh_more : (lefts : List ℕ) (i : ℕ) (players more : List Player) (player : Player) → i < length lefts → AreFresh 0 (take i lefts) players
    → player.stream ≡ i → player.left ≡ slice_index lefts i → player.turn ≡ Rest → more ≡ players ++ player ∷ []
    → AreFresh 0 (take (i + 1) lefts) more
fresh_more lefts i players more player below fresh stream left turn is =
    let long : length (take i lefts) ≡ i = length-take-le i lefts (omega (arith, below)) in
    subst (AreFresh 0 (take (i + 1) lefts)) (sym is)
    (subst (λ (l : List ℕ). AreFresh 0 l (players ++ player ∷ [])) (sym (take_more lefts i 0 below))
    (fresh_push 0 (take i lefts) players (get_or lefts i 0) player fresh (omega (arith, stream, long)) left turn))

idle_all : (n k : ℕ) → phase_at (replicate n Idle) k ≡ Idle
idle_all zero k = refl
idle_all (suc n) zero = refl
idle_all (suc n) (suc k) = idle_all n k

front_length : (front : List ℕ) (n : ℕ) (back : List ℕ) → length front < length (front ++ n ∷ back)
front_length [] n back = omega arith
front_length (m ∷ front) n back = let ih = front_length front n back in omega (arith, ih)

at_front : (front : List ℕ) (n : ℕ) (back : List ℕ) → slice_index (front ++ n ∷ back) (length front) ≡ n
at_front [] n back = refl
at_front (m ∷ front) n back = at_front front n back

all_new_so : {D : Type 0} → (image : ImageState D) (front lefts : List ℕ) (players : List Player)
    → image.requests ≡ front ++ lefts → image.journal ≡ [] → image.phases ≡ replicate (length image.requests) Idle
    → AreFresh (length front) lefts players → AllSit (length front) players image
all_new_so image front [] [] is none idle fresh = tt
all_new_so image front [] (p ∷ players) is none idle fresh = absurd fresh
all_new_so image front (l ∷ lefts) [] is none idle fresh = absurd fresh
all_new_so image front (l ∷ lefts) (p ∷ players) is none idle (stream, many, turn, rest) =
    let below : length front < length image.requests = subst (λ (r : List ℕ). length front < length r) (sym is) (front_length front l lefts) in
    let joined : (front ++ l ∷ []) ++ lefts ≡ front ++ l ∷ lefts = append_assoc front (l ∷ []) lefts in
    let long : length (front ++ l ∷ []) ≡ length front + 1 = omega (arith, length-append front (l ∷ [])) in
    let due : slice_index image.requests (length front) ≡ l = ap (λ (r : List ℕ). slice_index r (length front)) is ∙ at_front front l lefts in (
      (
        stream,
        record {
          known = omega (arith, stream, below);
          rows = omega (arith, stream, below, ap (λ (ps : List Phase). length ps) idle, length-replicate (length image.requests) Idle);
          due = omega (arith, ap (λ j. noted_count p.stream j) none, many, due, ap (slice_index image.requests) stream);
          turned = subst (λ (t : Turn). TurnedTo t p.stream p.request p.left (phase_at image.phases p.stream)) (sym turn)
              (ap (λ (ps : List Phase). phase_at ps p.stream) idle ∙ idle_all (length image.requests) p.stream);
        },
      ),
      subst (λ (m : ℕ). AllSit m players image) long
          (all_new_so image (front ++ l ∷ []) lefts players (is ∙ sym joined) none idle (subst (λ (m : ℕ). AreFresh m lefts players) (sym long) rest)),
    )

all_new : {D : Type 0} → (image : ImageState D) (lefts : List ℕ) (players : List Player)
    → image.requests ≡ lefts → image.journal ≡ [] → image.phases ≡ replicate (length image.requests) Idle
    → AreFresh 0 lefts players → AllSit 0 players image
all_new image lefts players is none idle fresh = all_new_so image [] lefts players is none idle fresh

pub all_built : {D : Type 0} → (image made : ImageState D) (lefts : List ℕ) (players : List Player) → image ≡ made
    → made.requests ≡ lefts → made.journal ≡ [] → made.phases ≡ replicate (length made.requests) Idle
    → AreFresh 0 lefts players → AllSit 0 players image
all_built image made lefts players is requests none idle fresh =
    subst (AllSit 0 players) (sym is) (all_new made lefts players requests none idle fresh)
