-- Steps of one seat, one after another, stand in the history.
use Rattle.std.proofs.Common.{◌≡◌, ℕ, zero, suc, Bool, true, false, cond, eqb, MatchBool, List, [], ◌∷◌, refl, sym, ap, ◌∙◌, subst}
use Rattle.table_seats.proofs.Standing.{makes_stand, stands_append}
use Rattle.aio_model.specs.declared.loops.flags.Flags.{Flags}
use Rattle.aio_model.specs.Loop.History.{EnqueueAsks, Enqueue, Put, History}
use Rattle.aio_model.specs.Loop.Lists.{seat_of}
use Rattle.aio_model.specs.Loop.Legal.{IsLegal}
use Rattle.aio_model.specs.Loop.Seats.{StandsAtTheEnd}
use Rattle.aio_model.specs.Loop.InFlight.{Phase}
use Rattle.aio_core.specs.Known.{Done, Known, part_of}
use Rattle.aio_core.specs.Standing.{Enqueues, Aims, SetsNotifier}
use Rattle.aio_bh.specs.HomeSteps.{home_steps}
use Rattle.aio_notify.specs.Notifying.{Notifies}
use Rattle.aio_bh.specs.Enqueuing.{MissesOnce, PushesOnce, Tries, PushesAtLast, Inserts, InsertsAtOnce, Schedules, SchedulesAtOnce, SchedulesLater, enqueue_entries, AddsOnly}

-- What steps leave.

-- what no step of an enqueue changes
pub record IsSame (v w : Known) : Type 0 where
  pub sizes : w.sizes ≡ v.sizes
  pub first : w.first ≡ v.first
  pub count : w.count ≡ v.count
  pub stage : w.stage ≡ v.stage
  pub sleep : w.sleep ≡ v.sleep
  pub told : w.told ≡ v.told
  pub steps : home_steps w.did ≡ home_steps v.did

-- a step that makes no entry
pub record IsQuiet (v w : Known) : Type 0 where
  pub same : IsSame v w
  pub seen : w.seen ≡ v.seen
  pub mine : w.mine ≡ v.mine

pub same_rest : (v w : Known) → IsSame v w → w ≡ record v { seen = w.seen; mine = w.mine; did = w.did; phase = w.phase }
same_rest v w h =
    λ i. record { sizes = h.sizes i; seen = w.seen; mine = w.mine; did = w.did; first = h.first i; count = h.count i; phase = w.phase; stage = h.stage i; sleep = h.sleep i; told = h.told i }

pub same_then : (u v w : Known) → IsSame u v → IsSame v w → IsSame u w
same_then u v w h k =
    record { sizes = k.sizes ∙ h.sizes; first = k.first ∙ h.first; count = k.count ∙ h.count; stage = k.stage ∙ h.stage; sleep = k.sleep ∙ h.sleep; told = k.told ∙ h.told; steps = k.steps ∙ h.steps }

pub quiet_then : (u v w : Known) → IsQuiet u v → IsQuiet v w → IsQuiet u w
quiet_then u v w h k =
    record { same = same_then u v w h.same k.same; seen = k.seen ∙ h.seen; mine = k.mine ∙ h.mine }

-- a change of what was seen, done and due alone
pub changed : (v w : Known) (s m : History) (d : List Done) (p : Phase) → w ≡ record v { seen = s; mine = m; did = d; phase = p } → home_steps d ≡ home_steps v.did → IsSame v w
changed v w s m d p e none =
    record {
      sizes = ap (λ (k : Known). k.sizes) e;
      first = ap (λ (k : Known). k.first) e;
      count = ap (λ (k : Known). k.count) e;
      stage = ap (λ (k : Known). k.stage) e;
      sleep = ap (λ (k : Known). k.sleep) e;
      told = ap (λ (k : Known). k.told) e;
      steps = ap (λ (k : Known). home_steps k.did) e ∙ none;
    }

pub quieted : (v w : Known) (d : List Done) (p : Phase) → w ≡ record v { did = d; phase = p } → home_steps d ≡ home_steps v.did → IsQuiet v w
quieted v w d p e none =
    record { same = changed v w v.seen v.mine d p e none; seen = ap (λ (k : Known). k.seen) e; mine = ap (λ (k : Known). k.mine) e }

aims_quiet : (i head : ℕ) (v w : Known) → Aims i head v w → IsQuiet v w
aims_quiet i head v w aims = quieted v w _ _ aims.rest refl

missed_quiet : (i : ℕ) (v w : Known) → MissesOnce i v w → IsQuiet v w
missed_quiet i v w once =
    quiet_then v once.aimed w (aims_quiet i once.head v once.aimed once.aims) (quieted once.aimed w _ _ once.missed.misses.rest refl)

pub quiet_refl : (v : Known) → IsQuiet v v
quiet_refl v =
    record { same = record { sizes = refl; first = refl; count = refl; stage = refl; sleep = refl; told = refl; steps = refl }; seen = refl; mine = refl }

-- by whether home was about to sleep
sets_quiet : (b : Bool) (v w : Known) → MatchBool b (w ≡ v) ((was : ℕ) × SetsNotifier was v w) → IsQuiet v w
sets_quiet true v w same = subst (IsQuiet v) (sym same) (quiet_refl v)
sets_quiet false v w set = quieted v w _ _ set.1.rest refl

pub notifies_quiet : (v w : Known) → Notifies v w → IsQuiet v w
notifies_quiet v w run =
    quiet_then v run.stored w (quieted v run.stored _ _ run.stores.rest refl) (quiet_then run.stored run.loaded w (quieted run.stored run.loaded _ _ run.loads.rest refl) (sets_quiet (eqb run.armed 0) run.loaded w run.sets))

tries_quiet : (i misses : ℕ) (v w : Known) → Tries i misses v w → IsQuiet v w
tries_quiet i zero v w h = subst (IsQuiet v) (sym h) (quiet_refl v)
tries_quiet i (suc misses) v w h =
    quiet_then v h.0 w (tries_quiet i misses v h.0 h.1) (missed_quiet i h.0 w h.2)

-- Calls.

abbrev pub AtEnd : Known → History → Known → Type 0
AtEnd v entries w =
    StandsAtTheEnd v.sizes v.first entries v.seen v.mine w.seen w.mine

-- what stands behind quiet steps stands behind what came before them
pub at_quiet : (v a w : Known) (entries : ℕ → History) → IsQuiet v a → AtEnd a (entries a.first) w → AtEnd v (entries v.first) w
at_quiet v a w entries quiet h =
    let one = subst (λ z. StandsAtTheEnd z a.first (entries a.first) a.seen a.mine w.seen w.mine) quiet.same.sizes h in
    let two = subst (λ n. StandsAtTheEnd v.sizes n (entries n) a.seen a.mine w.seen w.mine) quiet.same.first one in
    let three = subst (λ s. StandsAtTheEnd v.sizes v.first (entries v.first) s a.mine w.seen w.mine) quiet.seen two in
    subst (λ m. StandsAtTheEnd v.sizes v.first (entries v.first) v.seen m w.seen w.mine) quiet.mine three

pub pushes_once_stands : (i : ℕ) (v w : Known) → PushesOnce i v w → AtEnd v (Put i v.first ∷ []) w × IsSame v w
pushes_once_stands i v w once =
    let aimed = aims_quiet i once.head v once.aimed once.aims in
    (at_quiet v once.aimed w (λ n. Put i n ∷ []) aimed (makes_stand seat_of (IsLegal once.aimed.sizes) (Put i once.aimed.first) (part_of once.aimed) (part_of w) once.pushes.makes refl), same_then v once.aimed w aimed.same (changed once.aimed w _ _ _ _ once.pushes.rest refl))

pub pushes_at_last_stands : (i : ℕ) (v w : Known) → PushesAtLast i v w → AtEnd v (Put i v.first ∷ []) w × IsSame v w
pushes_at_last_stands i v w run =
    let quiet = tries_quiet i run.misses v run.last run.tries in
    let push = pushes_once_stands i run.last w run.pushes in
    (at_quiet v run.last w (λ n. Put i n ∷ []) quiet push.0, same_then v run.last w quiet.same push.1)

-- an enqueue, and then a push
pub enqueue_then_push : (i : ℕ) (asked : EnqueueAsks) (flags : Flags) (v a w : Known) → Enqueues i asked flags v a → AtEnd a (Put i a.first ∷ []) w × IsSame a w → AtEnd v (Put i v.first ∷ Enqueue i asked v.first flags ∷ []) w × IsSame v w
enqueue_then_push i asked flags v a w enqueues push =
    let same = changed v a _ _ _ _ enqueues.rest refl in
    let first = makes_stand seat_of (IsLegal v.sizes) (Enqueue i asked v.first flags) (part_of v) (part_of a) enqueues.makes refl in
    let one = subst (λ z. StandsAtTheEnd z a.first (Put i a.first ∷ []) a.seen a.mine w.seen w.mine) same.sizes push.0 in
    let second : StandsAtTheEnd v.sizes v.first (Put i v.first ∷ []) a.seen a.mine w.seen w.mine = subst (λ n. StandsAtTheEnd v.sizes n (Put i n ∷ []) a.seen a.mine w.seen w.mine) same.first one in
    (record { stands = stands_append seat_of (IsLegal v.sizes) v.first (Enqueue i asked v.first flags ∷ []) (Put i v.first ∷ []) v.seen v.mine a.seen a.mine w.seen w.mine first.stands second.stands; ends = second.ends }, same_then v a w same push.1)

pub enqueue_alone : (i : ℕ) (asked : EnqueueAsks) (flags : Flags) (v a : Known) → Enqueues i asked flags v a → AtEnd v (Enqueue i asked v.first flags ∷ []) a × IsSame v a
enqueue_alone i asked flags v a enqueues =
    (makes_stand seat_of (IsLegal v.sizes) (Enqueue i asked v.first flags) (part_of v) (part_of a) enqueues.makes refl, changed v a _ _ _ _ enqueues.rest refl)

pub to_stands : (entries : History) (v w : Known) → AtEnd v entries w × IsSame v w → AddsOnly entries v w
to_stands entries v w h = record { stands = h.0; rest = same_rest v w h.1; steps = h.1.steps }

-- quiet steps behind a call
pub then_quiet : (entries : History) (v w x : Known) → AddsOnly entries v w → IsQuiet w x → AddsOnly entries v x
then_quiet entries v w x h quiet =
    let one = subst (λ s. StandsAtTheEnd v.sizes v.first entries v.seen v.mine s w.mine) (sym quiet.seen) h.stands in
    let same = changed v w w.seen w.mine w.did w.phase h.rest h.steps in
    to_stands entries v x (subst (λ m. StandsAtTheEnd v.sizes v.first entries v.seen v.mine x.seen m) (sym quiet.mine) one, same_then v w x same quiet.same)

-- by whether the index was pending
by_pending : (b : Bool) (i : ℕ) (asked : EnqueueAsks) (flags : Flags) (v a w : Known) (P : Type 0) → Enqueues i asked flags v a → MatchBool b (w ≡ a) P → (P → AtEnd a (Put i a.first ∷ []) w × IsSame a w) → AddsOnly (cond b (Enqueue i asked v.first flags ∷ []) (Put i v.first ∷ Enqueue i asked v.first flags ∷ [])) v w
by_pending true i asked flags v a w P enqueues h push =
    subst (AddsOnly (Enqueue i asked v.first flags ∷ []) v) (sym h) (to_stands (Enqueue i asked v.first flags ∷ []) v a (enqueue_alone i asked flags v a enqueues))
by_pending false i asked flags v a w P enqueues h push =
    to_stands (Put i v.first ∷ Enqueue i asked v.first flags ∷ []) v w (enqueue_then_push i asked flags v a w enqueues (push h))

inserts_stand : (i : ℕ) (asked : EnqueueAsks) (flags : Flags) (v w : Known) → Inserts i asked flags v w → AddsOnly (enqueue_entries i asked v.first flags) v w
inserts_stand i asked flags v w run =
    by_pending flags.pending i asked flags v run.announced w (PushesAtLast i run.announced w) run.enqueues run.pushes (pushes_at_last_stands i run.announced w)

inserts_at_once_stand : (i : ℕ) (asked : EnqueueAsks) (flags : Flags) (v w : Known) → InsertsAtOnce i asked flags v w → AddsOnly (enqueue_entries i asked v.first flags) v w
inserts_at_once_stand i asked flags v w run =
    by_pending flags.pending i asked flags v run.announced w (PushesOnce i run.announced w) run.enqueues run.pushes (pushes_once_stands i run.announced w)

pub schedules_stands : (i : ℕ) (asked : EnqueueAsks) (flags : Flags) (v w : Known) → Schedules i asked flags v w → AddsOnly (enqueue_entries i asked v.first flags) v w
schedules_stands i asked flags v w run =
    then_quiet (enqueue_entries i asked v.first flags) v run.inserted w (inserts_stand i asked flags v run.inserted run.inserts) (notifies_quiet run.inserted w run.notifies)

pub schedules_at_once_stands : (i : ℕ) (asked : EnqueueAsks) (flags : Flags) (v w : Known) → SchedulesAtOnce i asked flags v w → AddsOnly (enqueue_entries i asked v.first flags) v w
schedules_at_once_stands i asked flags v w run =
    then_quiet (enqueue_entries i asked v.first flags) v run.inserted w (inserts_at_once_stand i asked flags v run.inserted run.inserts) (notifies_quiet run.inserted w run.notifies)

pub schedules_later_stands : (i : ℕ) (asked : EnqueueAsks) (flags : Flags) (v w : Known) → SchedulesLater i asked flags v w → AddsOnly (Enqueue i asked v.first flags ∷ []) v w
schedules_later_stands i asked flags v w run =
    then_quiet (Enqueue i asked v.first flags ∷ []) v run.announced w (to_stands (Enqueue i asked v.first flags ∷ []) v run.announced (enqueue_alone i asked flags v run.announced run.enqueues)) (missed_quiet i run.announced w run.missed)
