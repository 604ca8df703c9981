-- The walk over what was taken, beside the vector that it fills.
use Rattle.std.proofs.Common.{◌≡◌, ℕ, ◌+◌, ◌<◌, ◌≤◌, None, List, [], ◌∷◌, length, refl, sym, ap, ◌∙◌, subst, arith}
use Rattle.co_schedule.specs.Known.{Known}
use Rattle.co_schedule.specs.Standing.{Takes, WalksOn, Walked, TakesAll}

-- the walk has come so far from where the list was taken
pub record IsWalking (start now : Known) (items : List ℕ) (word : ℕ) : Type 0 where
  pub found : ℕ
  pub swapped : Known
  pub takes : Takes found start swapped
  pub cos : List ℕ
  pub walked : Walked swapped now cos
  pub same : now ≡ record swapped { did = now.did; stage = record swapped.stage { word = now.stage.word; run = now.stage.run } }
  pub at : now.stage.word ≡ word
  pub items_are : items ≡ now.stage.run
  pub below : word ≤ start.coroutines
  pub more : 0 < word → length now.stage.run < length now.stage.taken
  pub ends : word ≡ 0 → now.stage.taken ≡ now.stage.run

pub begins_walking : (start now : Known) (found : ℕ) → Takes found start now → IsWalking start now [] found
begins_walking start now found takes =
    record {
      found = found;
      swapped = now;
      takes = takes;
      cos = [];
      walked = refl;
      same = refl;
      at = ap (λ (k : Known). k.stage.word) takes.rest;
      items_are = sym (ap (λ (k : Known). k.stage.run) takes.rest);
      below = takes.below;
      more = λ full. let there = takes.more full in let none_yet : length now.stage.run ≡ 0 = ap (λ (k : Known). length k.stage.run) takes.rest in omega arith;
      ends = λ over. takes.ends over ∙ sym (ap (λ (k : Known). k.stage.run) takes.rest);
    }

pub walking_on : (start now next : Known) (items : List ℕ) (word c found : ℕ) → IsWalking start now items word → c + 1 ≡ word → WalksOn c found now next → IsWalking start next (c ∷ items) found
walking_on start now next items word c found h index follows =
    let same : next ≡ record now { did = next.did; stage = record now.stage { word = next.stage.word; run = next.stage.run } } = sides follows in
    let sized : now.coroutines ≡ start.coroutines = ap (λ (k : Known). k.coroutines) h.same ∙ ap (λ (k : Known). k.coroutines) h.takes.rest in
    record {
      found = h.found;
      swapped = h.swapped;
      takes = h.takes;
      cos = c ∷ h.cos;
      walked = (now, found, h.walked, follows);
      same = same ∙ ap (λ (k : Known). record k { did = next.did; stage = record k.stage { word = next.stage.word; run = next.stage.run } }) h.same;
      at = ap (λ (k : Known). k.stage.word) follows.rest;
      items_are = ap (λ (l : List ℕ). c ∷ l) h.items_are ∙ sym (ap (λ (k : Known). k.stage.run) follows.rest);
      below = subst (λ k. found ≤ k) sized follows.below;
      more = follows.more;
      ends = follows.ends;
    }
  where
    sides : WalksOn c found now next → next ≡ record now { did = next.did; stage = record now.stage { word = next.stage.word; run = next.stage.run } }
    sides f = f.rest ∙ ap (λ (k : Known). record now { did = k.did; stage = record now.stage { word = k.stage.word; run = k.stage.run } }) (sym f.rest)

pub walked_whole : (start now : Known) (items : List ℕ) (word : ℕ) → IsWalking start now items word → word ≡ 0 → TakesAll start now
walked_whole start now items word h over =
    record {
      found = h.found;
      swapped = h.swapped;
      takes = h.takes;
      cos = h.cos;
      walked = h.walked;
      whole = ap (λ (k : Known). k.stage.taken) h.same ∙ h.takes.taken;
      seen = ap (λ (k : Known). k.seen) h.same;
      run = sym (h.ends over);
      over = h.at ∙ over;
    }

-- there is room for one more, while the word isn't 0
pub has_room : (start now : Known) (items : List ℕ) (word : ℕ) → IsWalking start now items word → 0 < word → length items < start.coroutines
has_room start now items word h full =
    let more = h.more full in
    let taken : now.stage.taken ≡ h.swapped.stage.taken = ap (λ (k : Known). k.stage.taken) h.same in
    let lens : length now.stage.taken ≡ length h.swapped.stage.taken = ap length taken in
    let few = h.takes.few in
    let run : length items ≡ length now.stage.run = ap length h.items_are in
    omega arith

-- nothing came out meanwhile
pub hand_free : (start now : Known) (items : List ℕ) (word : ℕ) → IsWalking start now items word → start.stage.hand ≡ None → now.stage.hand ≡ None
hand_free start now items word h free =
    ap (λ (k : Known). k.stage.hand) h.same ∙ ap (λ (k : Known). k.stage.hand) h.takes.rest ∙ free
