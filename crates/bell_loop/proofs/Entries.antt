-- One entry into a callback, from what its parts tell.
use Rattle.std.proofs.Common.{◌≡◌, ◌⊎◌, ℕ, ◌<◌, ◌≤◌, Bool, true, false, ◌||◌, cond, MatchBool, Option, None, Some, List, [], ◌∷◌, ◌++◌, length, arith, inl, inr, refl, sym, ap, ◌∙◌, subst}
use Rattle.aio_model.specs.declared.loops.flags.Flags.{Flags}
use Rattle.aio_model.specs.declared.scripts.loop_scripts.ActKind.{ActKind}
use Rattle.aio_model.specs.declared.scripts.loop_scripts.ActKind.TheVariants.{Schedule, Idle, Delete, Cancel as CancelOf, Nest}
use Rattle.aio_model.specs.declared.loops.ran_lists.Called.{Called}
use Rattle.aio_model.specs.Loop.History.{EnqueueAsks, Enqueue, Put, History}
use Rattle.aio_model.specs.Loop.Log.{rings}
use Rattle.aio_model.specs.Loop.Seats.{home}
use Rattle.aio_model.specs.Loop.Frame.{Ended, Nests, lent_of}
use Rattle.aio_model.specs.Scripts.LoopActs.{Waiting, Add, acts_called, made_by_act, before_nest, behind_nest, is_nest, answer_of_acts, waiting_after}
use Rattle.aio_model.specs.Scripts.LoopReplies.{called_by}
use Rattle.bell_loop.specs.Actions.{AreWithin, is_notifying, some_asks, some_rings}
use Rattle.bell_loop.specs.Entering.{NamesCalled, FindsTodo, MayEnter, DoesEntry, notes_left}

pub some_rings-append : (newer older : History) → some_rings (newer ++ older) ≡ (some_rings older || some_rings newer)
some_rings-append [] older = false_last (some_rings older)
  where
    false_last : (b : Bool) → b ≡ (b || false)
    false_last true = refl
    false_last false = refl
some_rings-append (e ∷ newer) older =
    ap (λ b. rings e || b) (some_rings-append newer older) ∙ turned (rings e) (some_rings older) (some_rings newer)
  where
    turned : (a b c : Bool) → (a || (b || c)) ≡ (b || (a || c))
    turned true true c = refl
    turned true false c = refl
    turned false b c = refl

pub or_assoc : (a b c : Bool) → ((a || b) || c) ≡ (a || (b || c))
or_assoc true b c = refl
or_assoc false b c = refl

enqueue_rings : (i : ℕ) (asked : EnqueueAsks) (was : Flags) (b : Bool) → some_rings (cond b (Enqueue i asked home was ∷ []) (Put i home ∷ (Enqueue i asked home was ∷ []))) ≡ true
enqueue_rings i asked was true = refl
enqueue_rings i asked was false = refl

made_rings : (what : ActKind) (was : Flags) → some_rings (made_by_act what was) ≡ is_notifying what
made_rings (Schedule i) was = enqueue_rings i _ was was.pending
made_rings (Idle i) was = enqueue_rings i _ was was.pending
made_rings (Delete i) was = enqueue_rings i _ was was.pending
made_rings (CancelOf i) was = refl
made_rings Nest was = refl

-- what was made notifies where an action does
pub Add-rings : (todo : List ActKind) (made : History) → Add todo made → some_rings made ≡ some_asks todo
Add-rings [] made none = ap some_rings none
Add-rings (what ∷ todo) made adds =
    ap some_rings adds.2 ∙ some_rings-append adds.1 (made_by_act what adds.0) ∙ ap (λ b. b || some_rings adds.1) (made_rings what adds.0) ∙ ap (λ b. is_notifying what || b) (Add-rings todo adds.1 adds.3)

-- what waits behind a further entry leaves room
room_behind : (todo : List ActKind) (w w' : Waiting) → w ≡ todo ∷ w' → length w ≤ 7 → length w' < 7
room_behind todo w w' is few = let e : length w ≡ length (todo ∷ w') = ap length is in omega (arith, e, few)

may_wait : (acts : ℕ → List ActKind) (first : Bool) (bh : ℕ) (job : Option ℕ) (nests : ℕ) (todo : List ActKind) (w w' : Waiting) → FindsTodo acts first bh job todo w w' → MayEnter (lent_of bh job first nests) w → (nests ≡ 0) ⊎ (length w' < 7)
may_wait acts true bh job nests todo w w' finds (inl none) = inl none
may_wait acts true bh job nests todo w w' finds (inr room) = inr (subst (λ l. length l < 7) (sym finds.1) room)
may_wait acts false bh job nests todo w w' finds may = inr (room_behind todo w w' (finds may.0) may.1)

found : (acts : ℕ → List ActKind) (first : Bool) (bh : ℕ) (job : Option ℕ) (nests : ℕ) (todo : List ActKind) (w w' : Waiting) → FindsTodo acts first bh job todo w w' → MayEnter (lent_of bh job first nests) w → MatchBool first ((todo ≡ acts_called acts bh job) × (w' ≡ w)) (w ≡ todo ∷ w')
found acts true bh job nests todo w w' finds may = finds
found acts false bh job nests todo w w' finds may = finds may.0

module _ (acts : ℕ → List ActKind) (bh : ℕ) (job : Option ℕ) (first : Bool) (nests : ℕ) (todo : List ActKind) (made : History) (w w' : Waiting) (ran ran' : List Called) (more more' : ℕ) (rang rang' : Bool)
    (names : (calls : List Called) → NamesCalled ran more calls → NamesCalled ran' more' (cond first (calls ++ called_by bh job ∷ []) calls))
    (finds : FindsTodo acts first bh job todo w w') (adds : Add (before_nest todo) made) (told : rang' ≡ (rang || some_asks (before_nest todo))) where
  -- no nest was left to do
  pub DoesEntry-ended : behind_nest todo ≡ None → DoesEntry acts (notes_left w ran more rang) (record { lent = lent_of bh job first nests; answer = Ended; made = made }) (notes_left w' ran' more' rang')
  DoesEntry-ended none = record {
    names = names;
    rang = told ∙ ap (λ b. rang || b) (sym (Add-rings (before_nest todo) made adds));
    does = λ may. record {
      todo = todo;
      below = w';
      finds = found acts first bh job nests todo w w' finds may;
      adds = adds;
      answers = ap answer_of_acts (sym none);
      leaves = ap (λ o. waiting_after o nests w') (sym none);
    };
  }

  -- it nested, and waits where it may
  pub DoesEntry-nested : (later : List ActKind) (w2 : Waiting) → behind_nest todo ≡ Some later → ((nests ≡ 0) ⊎ (length w' < 7) → w2 ≡ waiting_after (Some later) nests w') → DoesEntry acts (notes_left w ran more rang) (record { lent = lent_of bh job first nests; answer = Nests; made = made }) (notes_left w2 ran' more' rang')
  DoesEntry-nested later w2 some waits = record {
    names = names;
    rang = told ∙ ap (λ b. rang || b) (sym (Add-rings (before_nest todo) made adds));
    does = λ may. record {
      todo = todo;
      below = w';
      finds = found acts first bh job nests todo w w' finds may;
      adds = adds;
      answers = ap answer_of_acts (sym some);
      leaves = waits (may_wait acts first bh job nests todo w w' finds may) ∙ ap (λ o. waiting_after o nests w') (sym some);
    };
  }

bool_cases : (b : Bool) → (b ≡ true) ⊎ (b ≡ false)
bool_cases true = inl refl
bool_cases false = inr refl

-- what is behind the nest is of the same handles
pub behind_within : (handles : ℕ) (todo later : List ActKind) → AreWithin handles todo → behind_nest todo ≡ Some later → AreWithin handles later
behind_within handles [] later within h = cc
behind_within handles (what ∷ todo) later within h =
    elim (bool_cases (is_nest what)) [
      | inl nests ↦ let e : Some todo ≡ Some later = rw nests at h in let same : todo ≡ later = cc in subst (AreWithin handles) same within.1
      | inr other ↦ behind_within handles todo later within.1 (rw other at h)
    ]
