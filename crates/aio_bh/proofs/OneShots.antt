-- A one-shot stands in the history.
use Rattle.std.proofs.Common.{◌≡◌, ℕ, cond, List, [], ◌∷◌, refl, sym, ap, ◌∙◌, subst}
use Rattle.table_seats.proofs.Standing.{makes_stand, stands_append}
use Rattle.aio_model.specs.Loop.History.{ToCallOnce, New, Enqueue, Put, History}
use Rattle.aio_model.specs.Loop.Lists.{seat_of}
use Rattle.aio_model.specs.Loop.Legal.{IsLegal}
use Rattle.aio_model.specs.Loop.Seats.{StandsAtTheEnd}
use Rattle.aio_model.specs.Loop.InFlight.{Announced, ToStore, ForIndex}
use Rattle.aio_core.specs.Known.{Known, part_of}
use Rattle.aio_core.specs.Standing.{PlacesJob}
use Rattle.aio_core.specs.Calls.{IsTaken}
use Rattle.aio_notify.specs.Notifying.{Notifies}
use Rattle.lot_pool.specs.Pools.{PassState}
use Rattle.aio_bh.specs.HomeSteps.{home_steps}
use Rattle.aio_bh.specs.Enqueuing.{PushesAtLast, AddsOnly}
use Rattle.aio_bh.specs.OneShots.{FindsEachTaken, PlacesIn, one_shot_entries}
use Rattle.aio_bh.proofs.Standing.{IsSame, IsQuiet, AtEnd, changed, quieted, quiet_refl, quiet_then, same_then, at_quiet, to_stands, then_quiet, notifies_quiet, enqueue_then_push, pushes_at_last_stands}

quiet_steps : (v w : Known) → IsQuiet v w → home_steps w.did ≡ home_steps v.did
quiet_steps v w quiet = quiet.same.steps

-- a lot that was given a job is announced
pub placed_phase : (lot job : ℕ) (v w : Known) → PlacesJob lot job v w → w.phase ≡ Announced lot
placed_phase lot job v w places =
    ap (λ (k : Known). k.phase) places.enqueues.rest ∙ ap (λ b. cond b (ToStore (ForIndex lot)) (Announced lot)) places.first

-- a look changes nothing but that it was made
taken_same : (lot : ℕ) (v w : Known) → IsTaken lot v w → w ≡ record v { did = w.did }
taken_same lot v w taken =
    taken.looks.rest ∙ ap (λ d. record v { did = d }) (sym (ap (λ (k : Known). k.did) taken.looks.rest))

pub taken_rests : (lot : ℕ) (v w : Known) → IsTaken lot v w → w.phase ≡ v.phase
taken_rests lot v w taken = ap (λ (k : Known). k.phase) taken.looks.rest

taken_quiet : (lot : ℕ) (v w : Known) → IsTaken lot v w → IsQuiet v w
taken_quiet lot v w taken = quieted v w _ v.phase taken.looks.rest refl

pub each_taken_same : (lots : List ℕ) (pass : PassState) (v : Known) (pass_after : PassState) (w : Known) → FindsEachTaken lots pass v pass_after w → w ≡ record v { did = w.did }
each_taken_same [] pass v pass_after w same =
    same.1 ∙ ap (λ d. record v { did = d }) (sym (ap (λ (k : Known). k.did) same.1))
each_taken_same (lot ∷ older) pass v pass_after w tries =
    taken_same lot tries.1 w tries.4 ∙ ap (λ (k : Known). record k { did = w.did }) (each_taken_same older pass v tries.0 tries.1 tries.2)

each_taken_quiet : (lots : List ℕ) (pass : PassState) (v : Known) (pass_after : PassState) (w : Known) → FindsEachTaken lots pass v pass_after w → IsQuiet v w
each_taken_quiet [] pass v pass_after w same = subst (IsQuiet v) (sym same.1) (quiet_refl v)
each_taken_quiet (lot ∷ older) pass v pass_after w tries =
    quiet_then v tries.1 w (each_taken_quiet older pass v tries.0 tries.1 tries.2) (taken_quiet lot tries.1 w tries.4)

pub each_taken_steps : (lots : List ℕ) (pass : PassState) (v : Known) (pass_after : PassState) (w : Known) → FindsEachTaken lots pass v pass_after w → home_steps w.did ≡ home_steps v.did
each_taken_steps lots pass v pass_after w tries = quiet_steps v w (each_taken_quiet lots pass v pass_after w tries)

-- a claim, an enqueue and a push
job_stands : (lot job : ℕ) (v placed pushed : Known) (places : PlacesJob lot job v placed) → PushesAtLast lot placed pushed → AtEnd v (one_shot_entries lot job v.first places.flags) pushed × IsSame v pushed
job_stands lot job v placed pushed places pushes =
    let flags = places.flags in
    let claimed = places.claimed in
    let later : ℕ → History = λ n. Put lot n ∷ Enqueue lot ToCallOnce n flags ∷ [] in
    let new = makes_stand seat_of (IsLegal v.sizes) (New lot v.first job) (part_of v) (part_of claimed) places.claims.makes refl in
    let same = changed v claimed _ _ _ _ places.claims.rest refl in
    let rest = enqueue_then_push lot ToCallOnce flags claimed placed pushed places.enqueues (pushes_at_last_stands lot placed pushed pushes) in
    let one = subst (λ z. StandsAtTheEnd z claimed.first (later claimed.first) claimed.seen claimed.mine pushed.seen pushed.mine) same.sizes rest.0 in
    let two = subst (λ n. StandsAtTheEnd v.sizes n (later n) claimed.seen claimed.mine pushed.seen pushed.mine) same.first one in
    (record { stands = stands_append seat_of (IsLegal v.sizes) v.first (New lot v.first job ∷ []) (later v.first) v.seen v.mine claimed.seen claimed.mine pushed.seen pushed.mine new.stands two.stands; ends = two.ends }, same_then v claimed pushed same rest.1)

pub places_stands : (lot job : ℕ) (pass : PassState) (v : Known) (pass_after : PassState) (placed pushed w : Known) (places : PlacesIn lot job pass v pass_after placed) → PushesAtLast lot placed pushed → Notifies pushed w → AddsOnly (one_shot_entries lot job v.first places.places.flags) v w
places_stands lot job pass v pass_after placed pushed w places pushes notifies =
    let flags = places.places.flags in
    let tried = places.tried in
    let quiet = each_taken_quiet places.lots pass v places.last tried places.tries in
    let job_is = job_stands lot job tried placed pushed places.places pushes in
    let whole = at_quiet v tried pushed (λ n. one_shot_entries lot job n flags) quiet job_is.0 in
    let entries = one_shot_entries lot job v.first flags in
    then_quiet entries v pushed w (to_stands entries v pushed (whole, same_then v tried pushed quiet.same job_is.1)) (notifies_quiet pushed w notifies)
