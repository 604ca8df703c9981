-- What each call of a set of handlers leaves stands for the list of calls with that call more.
use Rattle.std.proofs.Common.{◌≡◌, ℕ, ◌+◌, Bool, true, false, ◌&&◌, cond, List, [], ◌∷◌, ◌++◌, filter, Option, None, is_some, refl, ◌∙◌, ap}
use Rattle.aio_model.specs.declared.handlers.calls.HandlerCall.{HandlerCall}
use Rattle.aio_model.specs.declared.handlers.calls.HandlerCall.TheVariants.{Add, Remove, WalkBegin, Give}
use Rattle.aio_model.specs.declared.handlers.calls.Handler.{Handler}
use Rattle.aio_model.specs.Handlers.Calls.{named, others, has_event, live, removed_in_walk, is_walking}
use Rattle.aio_handlers.specs.StandsFor.{HandlerList, StandsFor}

-- how many are marked after a removal
abbrev pub marked_after : Bool → Option Handler → ℕ → ℕ
marked_after walking handler removed_in_walk = cond (walking && is_some handler) (removed_in_walk + 1) removed_in_walk

pub marked_none : (walking : Bool) (removed_in_walk : ℕ) → marked_after walking None removed_in_walk ≡ removed_in_walk
marked_none true removed_in_walk = refl
marked_none false removed_in_walk = refl

module _ (old new : HandlerList) (calls : List HandlerCall) (stands : StandsFor old calls) where
  pub stands_added : (id event tag : ℕ) → new.count ≡ old.count + 1 → new.live ≡ old.live ++ record { id = id; event = event; tag = tag } ∷ []
      → new.walking ≡ old.walking → new.waiting ≡ old.waiting → new.marked ≡ old.marked → StandsFor new (Add id event tag ∷ calls)
  stands_added id event tag count lives walking waits marks = record {
    count_is = count ∙ ap (λ n. n + 1) stands.count_is;
    live_is = lives ∙ ap (λ hs. hs ++ record { id = id; event = event; tag = tag } ∷ []) stands.live_is;
    walking_is = walking ∙ stands.walking_is;
    waiting_is = waits ∙ stands.waiting_is;
    marked_is = marks ∙ stands.marked_is;
  }

  pub stands_removed : (id : ℕ) → new.count ≡ old.count → new.live ≡ others id old.live → new.walking ≡ old.walking → new.waiting ≡ others id old.waiting
      → new.marked ≡ marked_after old.walking (named id old.live) old.marked → StandsFor new (Remove id ∷ calls)
  stands_removed id count lives walking waits marks = record {
    count_is = count ∙ stands.count_is;
    live_is = lives ∙ ap (others id) stands.live_is;
    walking_is = walking ∙ stands.walking_is;
    waiting_is = waits ∙ ap (others id) stands.waiting_is;
    marked_is =
        marks ∙ ap (λ w. marked_after w (named id old.live) old.marked) stands.walking_is
        ∙ ap (λ hs. marked_after (is_walking calls) (named id hs) old.marked) stands.live_is
        ∙ ap (marked_after (is_walking calls) (named id (live calls))) stands.marked_is;
  }

  pub stands_begun : (found : ℕ) → new.count ≡ old.count → new.live ≡ old.live → new.walking ≡ true
      → new.waiting ≡ filter (λ handler. has_event found handler.event) old.live → new.marked ≡ 0 → StandsFor new (WalkBegin found ∷ calls)
  stands_begun found count lives walking waits marks = record {
    count_is = count ∙ stands.count_is;
    live_is = lives ∙ stands.live_is;
    walking_is = walking;
    waiting_is = waits ∙ ap (filter (λ handler. has_event found handler.event)) stands.live_is;
    marked_is = marks;
  }

  pub stands_given : (id : ℕ) → new.count ≡ old.count → new.live ≡ old.live → new.walking ≡ old.walking → new.waiting ≡ others id old.waiting → new.marked ≡ old.marked
      → StandsFor new (Give id ∷ calls)
  stands_given id count lives walking waits marks = record {
    count_is = count ∙ stands.count_is;
    live_is = lives ∙ stands.live_is;
    walking_is = walking ∙ stands.walking_is;
    waiting_is = waits ∙ ap (others id) stands.waiting_is;
    marked_is = marks ∙ stands.marked_is;
  }
