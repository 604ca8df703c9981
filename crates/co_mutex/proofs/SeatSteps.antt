-- What the passes know after a step of one of them.
use Rattle.std.proofs.Common.{◌≡◌, ◌≢◌, ℕ, eqb, ◌<◌, ⊎_elim, true, List, [], ◌∷◌, ◌++◌, set, length, length-set, refl, sym, ap, ◌∙◌, subst}
use mathlib.Core.Option.{some}
use lib.ListN.{get_elem?}
use Rattle.atomic_table.proofs.Lists.{at_set, set_here, set_else}
use Rattle.table_seats.proofs.Entries.{all_of_seen}
use Rattle.aio_model.specs.Lock.History.{LockEntry, maker_of, made_by, value_of, IsLegalLock}
use Rattle.co_mutex.specs.Places.{PassPlace, AtRest, is_owning}
use Rattle.co_mutex.specs.Known.{OtherPart, Done, Known, moves, learns, makes, KnownGoesOn}
use Rattle.co_mutex.specs.Seats.{IsPassPart, IsSeat, SeatsStand}
use Rattle.co_mutex.proofs.QuietSteps.{at_low}
use Rattle.co_mutex.proofs.Histories.{made_more, made_else}

module _ {T : Type 0} where
  pub made_whole : (h : List (LockEntry T)) (seat : ℕ → ℕ) (id number : ℕ) (seen mine : List (LockEntry T)) → IsPassPart h seat id number seen mine → made_by number h ≡ mine
  made_whole h seat id number seen mine is =
      all_of_seen maker_of (λ n. eqb n number) h seen mine is.seen_of

  part_made : (h : List (LockEntry T)) (seat : ℕ → ℕ) (e : LockEntry T) (id number : ℕ) (seen mine : List (LockEntry T)) → maker_of e ≢ number → IsPassPart h seat id number seen mine → IsPassPart (e ∷ h) seat id number seen mine
  part_made h seat e id number seen mine ne is =
      record { sits = is.sits; seen_of = record { rest = e ∷ is.seen_of.rest; longer = ap (λ (l : List (LockEntry T)). e ∷ l) is.seen_of.longer; none_missed = made_else number e is.seen_of.rest ne ∙ is.seen_of.none_missed; mine_is = is.seen_of.mine_is } }

  module _ (built : T) (h : List (LockEntry T)) (places : List PassPlace) (seat : ℕ → ℕ) (views : List (Known T)) (id : ℕ) (v : Known T) (s : SeatsStand built h places seat views) (at : get_elem? views id ≡ some v) (live : v.live ≡ true) (new : PassPlace) where
    me : IsSeat built h places seat id v
    me = s id v at live

    pub goes_on : IsLegalLock h → KnownGoesOn v h
    goes_on legal =
        record { others = me.part.seen_of.rest; longer = me.part.seen_of.longer; foreign = me.part.seen_of.none_missed; all_mine = made_whole h seat id v.number v.seen v.mine me.part; legal = legal }

    low : v.number < length places
    low = at_low places v.number v.place me.placed

    abbrev Keeps : List (LockEntry T) → Type 0
    Keeps g = (j number : ℕ) (seen mine : List (LockEntry T)) → number ≢ v.number → IsPassPart h seat j number seen mine → IsPassPart g seat j number seen mine

    keeps_made : (e : LockEntry T) → maker_of e ≡ v.number → Keeps (e ∷ h)
    keeps_made e by_it j number seen mine ne is = part_made h seat e j number seen mine (λ q. ne (sym q ∙ by_it)) is

    keeps_same : Keeps h
    keeps_same j number seen mine ne is = is

    abbrev pub ValueStays : List (LockEntry T) → Type 0
    ValueStays g = (j : ℕ) (u : Known T) → j ≢ id → get_elem? views j ≡ some u → u.live ≡ true → is_owning u.place ≡ true → value_of built g ≡ value_of built h

    my_others : (g : List (LockEntry T)) → Keeps g → (k : ℕ) (x : OtherPart T) → get_elem? v.others k ≡ some x → IsPassPart g seat id x.number x.seen x.mine × (get_elem? (set places v.number new) x.number ≡ some AtRest) × (x.number ≢ v.number)
    my_others g keep k x atk =
        let t = me.others k x atk in
        (keep id x.number x.seen x.mine t.2 t.0, set_else places v.number x.number new t.2 ∙ t.1, t.2)

    seats_set : (g : List (LockEntry T)) (w : Known T) → Keeps g → ValueStays g → IsSeat built g (set places v.number new) seat id w → SeatsStand built g (set places v.number new) seat (set views id w)
    seats_set g w keep stays mine j u atj lives =
        ⊎_elim
        (λ a. subst (λ z. IsSeat built g (set places v.number new) seat z u) (sym a.0) (subst (IsSeat built g (set places v.number new) seat id) a.1 mine))
        (λ a. other a.0 a.1)
        (at_set views id j w u atj)
      where
        other : j ≢ id → get_elem? views j ≡ some u → IsSeat built g (set places v.number new) seat j u
        other ne atu =
            let o = s j u atu lives in
            let differs : u.number ≢ v.number = λ e. ne (sym o.part.sits ∙ ap seat e ∙ me.part.sits) in
            record { opens = o.opens; sized = o.sized ∙ sym (length-set places v.number new); placed = set_else places v.number u.number new differs ∙ o.placed; part = keep j u.number u.seen u.mine differs o.part; value = λ owns. o.value owns ∙ sym (stays j u ne atu lives owns); others = λ k x atk. (let t = o.others k x atk in let far : x.number ≢ v.number = λ e. ne (sym t.0.sits ∙ ap seat e ∙ me.part.sits) in (keep j x.number x.seen x.mine far t.0, set_else places v.number x.number new far ∙ t.1, t.2)) }

    pub seats_make : (e : LockEntry T) (d : Done) → maker_of e ≡ v.number → ValueStays (e ∷ h) → SeatsStand built (e ∷ h) (set places v.number new) seat (set views id (makes v new d h e))
    seats_make e d by_it stays =
        seats_set (e ∷ h) (makes v new d h e) (keeps_made e by_it) stays record { opens = me.opens; sized = me.sized ∙ sym (length-set places v.number new); placed = set_here places v.number new low; part = record { sits = me.part.sits; seen_of = record { rest = []; longer = refl; none_missed = refl; mine_is = sym (made_more v.number e h by_it ∙ ap (λ (l : List (LockEntry T)). e ∷ l) (made_whole h seat id v.number v.seen v.mine me.part)) } }; value = λ owns. refl; others = my_others (e ∷ h) (keeps_made e by_it) }

    pub seats_learn : (d : Done) → SeatsStand built h (set places v.number new) seat (set views id (learns v new d h))
    seats_learn d =
        seats_set h (learns v new d h) keeps_same (λ j u ne atu lives owns. refl) record { opens = me.opens; sized = me.sized ∙ sym (length-set places v.number new); placed = set_here places v.number new low; part = record { sits = me.part.sits; seen_of = record { rest = []; longer = refl; none_missed = refl; mine_is = sym (made_whole h seat id v.number v.seen v.mine me.part) } }; value = λ owns. refl; others = my_others h keeps_same }

    pub seats_move : (d : Done) → (is_owning new ≡ true → value_of built v.seen ≡ value_of built h) → SeatsStand built h (set places v.number new) seat (set views id (moves v new d))
    seats_move d value =
        seats_set h (moves v new d) keeps_same (λ j u ne atu lives owns. refl) record { opens = me.opens; sized = me.sized ∙ sym (length-set places v.number new); placed = set_here places v.number new low; part = me.part; value = value; others = my_others h keeps_same }
