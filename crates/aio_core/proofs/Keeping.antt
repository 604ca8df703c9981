-- A step that makes no entry and changes no word keeps the rule.
use Rattle.std.proofs.Common.{◌≡◌, ℕ, ◌<◌, List, set, slice_index, refl, sym, subst}
use Rattle.std.proofs.lemmas.List.{set-get_or}
use mathlib.Core.Option.{some}
use lib.ListN.{get_elem?}
use Rattle.aio_model.specs.Loop.History.{Sizes, History}
use Rattle.aio_core.specs.Known.{Known}
use Rattle.aio_core.specs.Rule.{SeatsStand, Owes, HasOut, SleepStands, Stands}
use Rattle.aio_core.proofs.Seats.{IsSame, seats_keep}
use Rattle.aio_core.proofs.Lists.{lists_after}
use Rattle.aio_core.proofs.Sleeping.{sleep_still, IsStill}

-- a load leaves the words
pub loaded_words : (words : List ℕ) (k : ℕ) → set words k (slice_index words k) ≡ words
loaded_words words k = set-get_or words k 0

-- a view changes, and its sleep part is given
pub view_stands : (sizes : Sizes) (h : History) (words : List ℕ) (views : List Known) (id : ℕ) (v w : Known) → Stands sizes h words views → SeatsStand sizes h (set views id w) → Owes sizes words h w.first w.phase → HasOut words h w → SleepStands h words (set views id w) → Stands sizes h words (set views id w)
view_stands sizes h words views id v w stand seats owes out sleep =
    record {
      long = stand.long;
      legal = stand.legal;
      seats = seats;
      flags = stand.flags;
      lists = lists_after sizes h h words words views id w stand.lists stand.lists.stack owes (λ beside u ne atu old. old) out (λ beside u ne atu old. old);
      events = stand.events;
      sleep = sleep;
    }

pub keeps_stand : (sizes : Sizes) (h : History) (words : List ℕ) (views : List Known) (id : ℕ) (v w : Known) → Stands sizes h words views → get_elem? views id ≡ some v → 0 < v.count → IsSame v w → w.seen ≡ v.seen → w.mine ≡ v.mine → Owes sizes words h w.first w.phase → HasOut words h w → IsStill v w → Stands sizes h words (set views id w)
keeps_stand sizes h words views id v w stand at numbered same seen mine owes out still =
    record {
      long = stand.long;
      legal = stand.legal;
      seats = seats_keep sizes h views id v w stand.seats at same seen mine numbered;
      flags = stand.flags;
      lists = lists_after sizes h h words words views id w stand.lists stand.lists.stack owes (λ beside u ne atu old. old) out (λ beside u ne atu old. old);
      events = stand.events;
      sleep = sleep_still sizes h words words views id v w still.step stand.seats at same.part.numbers_are still.longer still.sleep_is stand.sleep still.flight (refl, refl, refl) (λ j put. refl);
    }

-- the same, where a load wrote back what it found
pub load_stands : (sizes : Sizes) (h : History) (words : List ℕ) (views : List Known) (id k : ℕ) (v w : Known) → Stands sizes h words views → get_elem? views id ≡ some v → 0 < v.count → IsSame v w → w.seen ≡ v.seen → w.mine ≡ v.mine → Owes sizes words h w.first w.phase → HasOut words h w → IsStill v w → Stands sizes h (set words k (slice_index words k)) (set views id w)
load_stands sizes h words views id k v w stand at numbered same seen mine owes out still =
    subst (λ ws. Stands sizes h ws (set views id w)) (sym (loaded_words words k)) (keeps_stand sizes h words views id v w stand at numbered same seen mine owes out still)
