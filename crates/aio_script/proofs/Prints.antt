-- Texts printed one behind the other.
use Rattle.std.proofs.Common.{◌≡◌, ℕ, List, [], ◌++◌, Option, Result, Ok, Err, ap, sym, subst, ◌∙◌, arith}
use Rattle.std.specs.Prelude.{IsErr}
use Rattle.aio_words.specs.Content.{with_piece}
use Rattle.aio_words.proofs.ContentLemmas.{with_piece-nil, with_piece-with_piece, AppendsFront-longer, AppendsFront-behind}
use Rattle.aio_words.proofs.FaultLemmas.{HasRisen-earlier}
use Rattle.aio_script.specs.declared.print.WriteFault.{WriteFault}
use Rattle.aio_script.specs.Printing.{Prints}

pub Prints-nothing : (held : Option (List ℕ)) (faults : ℕ) → Prints [] held held faults faults (Ok tt)
Prints-nothing held faults = record { ok = sym (with_piece-nil held); err = tt; counted = omega arith; cause = tt }

-- the second text, printed or not, behind the first one
pub Prints-then : {before between after : Option (List ℕ)} {f g h : ℕ} {a b : List ℕ} (result : Result Unit WriteFault)
    → Prints a before between f g (Ok tt) → Prints b between after g h result → Prints (a ++ b) before after f h result
Prints-then {before} {between} {after} {f} {g} {h} {a} {b} (Ok u) first second = record {
  ok = second.ok ∙ ap (with_piece b) first.ok ∙ with_piece-with_piece before a b;
  err = tt;
  counted = omega (arith, first.counted, second.counted);
  cause = tt;
}
Prints-then {before} {between} {after} {f} {g} {h} {a} {b} (Err fault) first second = record {
  ok = tt;
  err = AppendsFront-behind before between after a b first.ok second.err;
  counted = omega (arith, first.counted, second.counted);
  cause = HasRisen-earlier f g h first.counted second.cause;
}

-- the first text wasn't printed whole, and the call ends with the fault
pub Prints-stops : {before after : Option (List ℕ)} {f g : ℕ} {a : List ℕ} {fault : WriteFault} (b : List ℕ) (result : Result Unit WriteFault)
    → IsErr result → Prints a before after f g (Err fault) → Prints (a ++ b) before after f g result
Prints-stops b (Ok u) bad first = cc bad
Prints-stops {before} {after} {f} {g} {a} b (Err fault) bad first = record {
  ok = tt;
  err = AppendsFront-longer before after a b first.err;
  counted = first.counted;
  cause = first.cause;
}

-- the same text, said otherwise
pub Prints-same : {before after : Option (List ℕ)} {f g : ℕ} {a b : List ℕ} {result : Result Unit WriteFault}
    → a ≡ b → Prints a before after f g result → Prints b before after f g result
Prints-same {before} {after} {f} {g} {a} {b} {result} e h =
    let P : List ℕ → Type 0 = λ text. Prints text before after f g result in subst P e h
