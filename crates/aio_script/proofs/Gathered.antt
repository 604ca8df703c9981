-- Texts put on a page one behind the other.
use Rattle.std.proofs.Common.{◌≡◌, ℕ, ◌≤◌, List, [], ◌++◌, Option, Result, Ok, Err, ap, sym, subst, ◌∙◌, append_assoc, append-nil, arith}
use Rattle.std.specs.Prelude.{IsErr, OnOk}
use Rattle.aio_words.specs.Content.{with_piece, AppendsFront}
use Rattle.aio_words.proofs.ContentLemmas.{with_piece-nil, with_piece-with_piece, AppendsFront-longer, AppendsFront-behind}
use Rattle.aio_words.proofs.FaultLemmas.{HasRisen-earlier}
use Rattle.aio_script.specs.declared.print.WriteFault.{WriteFault}
use Rattle.aio_script.specs.Printing.{PutsOnPage, Prints}

-- what was handed over, and then a part of what was left and of what came behind it
regroup : (page a b first left second rest : List ℕ) → page ++ a ≡ first ++ left → left ++ b ≡ second ++ rest
    → page ++ (a ++ b) ≡ (first ++ second) ++ rest
regroup page a b first left second rest one two =
    sym (append_assoc page a b) ∙ ap (λ (x : List ℕ). x ++ b) one ∙ append_assoc first left b
    ∙ ap (λ (x : List ℕ). first ++ x) two ∙ sym (append_assoc first second rest)

-- the same of what the sink holds
joined : (before between after : Option (List ℕ)) (first second : List ℕ)
    → between ≡ with_piece first before → after ≡ with_piece second between → after ≡ with_piece (first ++ second) before
joined before between after first second one two = two ∙ ap (with_piece second) one ∙ with_piece-with_piece before first second

pub PutsOnPage-nothing : (page : List ℕ) (held : Option (List ℕ)) (faults : ℕ) → PutsOnPage [] page page held held faults faults (Ok tt)
PutsOnPage-nothing page held faults = record {
  ok = record { front = []; whole = append-nil page; holds = sym (with_piece-nil held) };
  err = tt;
  counted = omega arith;
  cause = tt;
}

-- the second text, gathered or not, behind the first one
pub PutsOnPage-then : {page left last : List ℕ} {before between after : Option (List ℕ)} {f g h : ℕ} {a b : List ℕ} (result : Result Unit WriteFault)
    → PutsOnPage a page left before between f g (Ok tt) → PutsOnPage b left last between after g h result
    → PutsOnPage (a ++ b) page last before after f h result
PutsOnPage-then {page} {left} {last} {before} {between} {after} {f} {g} {h} {a} {b} (Ok u) one two = record {
  ok = record {
    front = one.ok.front ++ two.ok.front;
    whole = regroup page a b one.ok.front left two.ok.front last one.ok.whole two.ok.whole;
    holds = joined before between after one.ok.front two.ok.front one.ok.holds two.ok.holds;
  };
  err = tt;
  counted = omega (arith, one.counted, two.counted);
  cause = tt;
}
PutsOnPage-then {page} {left} {last} {before} {between} {after} {f} {g} {h} {a} {b} (Err fault) one two = record {
  ok = tt;
  err = record {
    front = one.ok.front ++ two.err.front;
    rest = two.err.rest;
    whole = regroup page a b one.ok.front left two.err.front two.err.rest one.ok.whole two.err.whole;
    holds = joined before between after one.ok.front two.err.front one.ok.holds two.err.holds;
  };
  counted = omega (arith, one.counted, two.counted);
  cause = HasRisen-earlier f g h one.counted two.cause;
}

-- one more line, where the text was gathered
pub PutsOnPage-more : {first left last : List ℕ} {before between after : Option (List ℕ)} {f g h : ℕ} {text line : List ℕ} {written : Result Unit WriteFault} {u : Unit} (result : Result Unit WriteFault)
    → written ≡ Ok u → PutsOnPage text first left before between f g written → PutsOnPage line left last between after g h result
    → PutsOnPage (text ++ line) first last before after f h result
PutsOnPage-more {first} {left} {last} {before} {between} {after} {f} {g} {h} {text} {line} {written} {u} result is one two =
    let P : Result Unit WriteFault → Type 0 = λ r. PutsOnPage text first left before between f g r in
    PutsOnPage-then result (subst P is one) two

-- the first text wasn't gathered, and the call ends with the fault
pub PutsOnPage-stops : {page left last : List ℕ} {before after : Option (List ℕ)} {f g : ℕ} {a : List ℕ} {fault : WriteFault} (b : List ℕ) (result : Result Unit WriteFault)
    → IsErr result → PutsOnPage a page left before after f g (Err fault) → PutsOnPage (a ++ b) page last before after f g result
PutsOnPage-stops b (Ok u) bad one = cc bad
PutsOnPage-stops {page} {left} {last} {before} {after} {f} {g} {a} b (Err fault) bad one = record {
  ok = tt;
  err = let longer : AppendsFront before after ((page ++ a) ++ b) = AppendsFront-longer before after (page ++ a) b one.err in
      let P : List ℕ → Type 0 = λ text. AppendsFront before after text in subst P (append_assoc page a b) longer;
  counted = one.counted;
  cause = one.cause;
}

-- the same text, said otherwise
pub PutsOnPage-same : {page last : List ℕ} {before after : Option (List ℕ)} {f g : ℕ} {a b : List ℕ} {result : Result Unit WriteFault}
    → a ≡ b → PutsOnPage a page last before after f g result → PutsOnPage b page last before after f g result
PutsOnPage-same {page} {last} {before} {after} {f} {g} {a} {b} {result} e h =
    let P : List ℕ → Type 0 = λ text. PutsOnPage text page last before after f g result in subst P e h

-- The page was handed over, and then the piece gathered on the page, which was empty.
behind_empty : (text page last : List ℕ) (before between after : Option (List ℕ)) (f g h : ℕ) (result : Result Unit WriteFault)
    → between ≡ with_piece page before → f ≤ g → PutsOnPage text [] last between after g h result
    → PutsOnPage text page last before after f h result
behind_empty text page last before between after f g h (Ok u) handed counted then = record {
  ok = record {
    front = page ++ then.ok.front;
    whole = ap (λ (x : List ℕ). page ++ x) then.ok.whole ∙ sym (append_assoc page then.ok.front last);
    holds = joined before between after page then.ok.front handed then.ok.holds;
  };
  err = tt;
  counted = omega (arith, counted, then.counted);
  cause = tt;
}
behind_empty text page last before between after f g h (Err fault) handed counted then = record {
  ok = tt;
  err = AppendsFront-behind before between after page text handed then.err;
  counted = omega (arith, counted, then.counted);
  cause = HasRisen-earlier f g h counted then.cause;
}

pub PutsOnPage-behind : {text page empty last : List ℕ} {before between after : Option (List ℕ)} {f g h : ℕ} {result : Result Unit WriteFault}
    → between ≡ with_piece page before → empty ≡ [] → f ≤ g → PutsOnPage text empty last between after g h result
    → PutsOnPage text page last before after f h result
PutsOnPage-behind {text} {page} {empty} {last} {before} {between} {after} {f} {g} {h} {result} handed is counted then =
    let P : List ℕ → Type 0 = λ p. PutsOnPage text p last between after g h result in
    behind_empty text page last before between after f g h result handed counted (subst P is then)

-- the first of two facts of an `Ok`
pub OnOk-first : (P Q : Type 0) (result : Result Unit WriteFault) → OnOk result (P × Q) → OnOk result P
OnOk-first P Q (Ok u) both = both.0
OnOk-first P Q (Err fault) both = tt

-- What was gathered on a page that was empty was then handed over, or wasn't: the text was printed, or a front of it.
pub Prints-gathered : {empty page : List ℕ} {before between after : Option (List ℕ)} {f g h : ℕ} {text : List ℕ} (result : Result Unit WriteFault)
    → empty ≡ [] → PutsOnPage text empty page before between f g (Ok tt) → Prints page between after g h result → Prints text before after f h result
Prints-gathered {empty} {page} {before} {between} {after} {f} {g} {h} {text} result is gathered handed =
    let P : List ℕ → Type 0 = λ e. PutsOnPage text e page before between f g (Ok tt) in whole result (subst P is gathered) handed
  where
    whole : (result : Result Unit WriteFault) → PutsOnPage text [] page before between f g (Ok tt) → Prints page between after g h result → Prints text before after f h result
    whole (Ok u) gathered handed = record {
      ok = let same : after ≡ with_piece (gathered.ok.front ++ page) before = joined before between after gathered.ok.front page gathered.ok.holds handed.ok in
          same ∙ ap (λ (x : List ℕ). with_piece x before) (sym gathered.ok.whole);
      err = tt;
      counted = omega (arith, gathered.counted, handed.counted);
      cause = tt;
    }
    whole (Err fault) gathered handed = record {
      ok = tt;
      err = let front : AppendsFront before after (gathered.ok.front ++ page) = AppendsFront-behind before between after gathered.ok.front page gathered.ok.holds handed.err in
          let P : List ℕ → Type 0 = λ text. AppendsFront before after text in subst P (sym gathered.ok.whole) front;
      counted = omega (arith, gathered.counted, handed.counted);
      cause = HasRisen-earlier f g h gathered.counted handed.cause;
    }

-- It wasn't even gathered.
pub Prints-ungathered : {empty page : List ℕ} {before after : Option (List ℕ)} {f g : ℕ} {text : List ℕ} {fault : WriteFault} (result : Result Unit WriteFault)
    → IsErr result → empty ≡ [] → PutsOnPage text empty page before after f g (Err fault) → Prints text before after f g result
Prints-ungathered (Ok u) bad is gathered = cc bad
Prints-ungathered {empty} {page} {before} {after} {f} {g} {text} (Err fault) bad is gathered = record {
  ok = tt;
  err = let P : List ℕ → Type 0 = λ e. AppendsFront before after (e ++ text) in subst P is gathered.err;
  counted = gathered.counted;
  cause = gathered.cause;
}
