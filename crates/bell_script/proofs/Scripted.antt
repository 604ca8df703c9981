-- Commands one after another, their lines, and what a whole run tells.
use Rattle.std.proofs.Common.{◌≡◌, ℕ, zero, suc, ◌<◌, Bool, Option, Result, Ok, List, [], ◌∷◌, ◌++◌, length, get_or, arith, refl, sym, ap, ◌∙◌, subst, append_assoc}
use Rattle.std.specs.List.{flat_map, AllByRecursion}
use Rattle.std.proofs.lemmas.List.{append-nil}
use Rattle.std.proofs.lemmas.Grind.{flat_map-append}
use Rattle.aio_model.specs.declared.scripts.loop_scripts.Command.{Command}
use Rattle.aio_model.specs.declared.scripts.loop_scripts.ActKind.{ActKind}
use Rattle.aio_model.specs.declared.scripts.loop_scripts.LoopScript.{LoopScript}
use Rattle.aio_model.specs.declared.scripts.loop_replies.LoopReply.{LoopReply}
use Rattle.aio_model.specs.declared.scripts.loop_replies.LoopReply.TheVariants.{Ran}
use Rattle.aio_model.specs.declared.loops.ran_lists.Called.{Called}
use Rattle.aio_model.specs.Loop.History.{Sizes, History}
use Rattle.aio_model.specs.Loop.Log.{Log}
use Rattle.aio_model.specs.Scripts.LoopLines.{reply_text}
use Rattle.aio_model.specs.Scripts.LoopReplies.{DoesCommand, DoesAll, sizes_of}
use Rattle.aio_script.specs.declared.print.WriteFault.{WriteFault}
use Rattle.aio_script.proofs.Gathered.{PutsOnPage-nothing, PutsOnPage-same}
use Rattle.aio_script.specs.Loop.Bounds.{IsActWithin, IsCommandWithin}
use Rattle.bell_loop.specs.Entering.{acts_at, AreListsOf, CanRun}
use Rattle.bell_loop.specs.Running.{IsAlone, IsScriptOf}
use Rattle.bell_loop.specs.Machines.{MachineState, KeepsLog, Answers, IsNew}
use Rattle.bell_loop.specs.Ending.{EndsBy}
use Rattle.bell_script.specs.Scripts.{AnswersAll, Rung, Collects, Writes, RunTells}
use Rattle.bell_loop.proofs.Alone.{alone_parts}
use Rattle.bell_loop.proofs.Listing.{lists_agree, CanRun-of}

DoesAll-more : (script : LoopScript) (commands : List Command) (command : Command) (before mid after : Log) (replies : List LoopReply) (reply : LoopReply) → DoesAll script commands before mid replies → DoesCommand script command mid after reply → DoesAll script (commands ++ command ∷ []) before after (replies ++ reply ∷ [])
DoesAll-more script [] command before mid after replies reply all one =
    (after, reply, [], subst (λ l. DoesCommand script command l after reply) all.0 one, (refl, refl), ap (λ l. l ++ reply ∷ []) all.1)
DoesAll-more script (c ∷ commands) command before mid after replies reply all one =
    (all.0, all.1, all.2 ++ reply ∷ [], all.3, DoesAll-more script commands command all.0 mid after all.2 reply all.4 one, ap (λ l. l ++ reply ∷ []) all.5)

of_after : (script : LoopScript) (old mid : MachineState) → (mid.sizes ≡ old.sizes) × (mid.lists ≡ old.lists) → IsScriptOf script old.sizes (acts_at old.lists) → IsScriptOf script mid.sizes (acts_at mid.lists)
of_after script old mid same of = record {
  sizes_are = of.sizes_are ∙ sym same.0;
  acts_are = λ bh. ap (λ l. acts_at l bh) same.1 ∙ of.acts_are bh;
}

AnswersAll-more : (commands : List Command) (command : Command) (replies : List LoopReply) (reply : LoopReply) (old mid new : MachineState) → AnswersAll commands replies old mid → Answers command reply mid new → AnswersAll (commands ++ command ∷ []) (replies ++ reply ∷ []) old new
AnswersAll-more commands command replies reply old mid new all one = record {
  same = (one.same.0 ∙ all.same.0, one.same.1 ∙ all.same.1);
  between = one.between ++ all.between;
  longer = one.longer ∙ ap (λ l. one.between ++ l) all.longer ∙ sym (append_assoc one.between all.between old.seen);
  at = λ alone script log of stands.
      let alone_mid : IsAlone mid.seen = (alone_parts one.between mid.seen (subst IsAlone one.longer alone)).1 in
      let a = all.at alone_mid script log of stands in
      let b = one.at alone script a.after (of_after script old mid all.same of) a.stands in
      record {
        after = b.after;
        does = DoesAll-more script commands command log a.after b.after replies reply a.does b.does;
        stands = b.stands;
      };
}

pub Collects-none : (machine : MachineState) (page : List ℕ) (held : Option (List ℕ)) (faults : ℕ) → Collects [] machine machine page page held held faults faults (Ok tt)
Collects-none machine page held faults = record {
  replies = [];
  answers = record {
    same = (refl, refl);
    between = [];
    longer = refl;
    at = λ alone script log of stands. record { after = log; does = (refl, refl); stands = stands };
  };
  gathers = PutsOnPage-nothing page held faults;
}

pub Collects-more : {commands : List Command} {command : Command} {old mid new : MachineState} {first left last : List ℕ} {before between after : Option (List ℕ)} {f g h : ℕ} {r s : Result Unit WriteFault} → Collects commands old mid first left before between f g r → Rung command mid new left last between after g h r s → Collects (commands ++ command ∷ []) old new first last before after f h s
Collects-more {commands} {command} {old} {mid} {new} {first} {left} {last} {before} {between} {after} {f} {g} {h} {r} {s} sofar one = record {
  replies = sofar.replies ++ one.reply ∷ [];
  answers = AnswersAll-more commands command sofar.replies one.reply old mid new sofar.answers one.answers;
  gathers = PutsOnPage-same (sym (flat_map-append reply_text sofar.replies (one.reply ∷ []) ∙ ap (λ l. flat_map reply_text sofar.replies ++ l) (append-nil (reply_text one.reply)))) (one.prints (flat_map reply_text sofar.replies) first before f sofar.gathers);
}

pub each_at : {X : Type 0} (P : X → Type 0) (xs : List X) (i : ℕ) (d : X) → i < length xs → AllByRecursion P xs → P (get_or xs i d)
each_at P [] i d inside all = absurd (omega (arith, inside))
each_at P (x ∷ xs) zero d inside all = all.0
each_at P (x ∷ xs) (suc i) d inside all = each_at P xs i d (omega (arith, inside)) all.1

new_of : (script : LoopScript) (lists : List (List ActKind)) (machine : MachineState) → IsNew (sizes_of script) lists machine → IsScriptOf script (sizes_of script) (acts_at lists) → IsScriptOf script machine.sizes (acts_at machine.lists)
new_of script lists machine new of = record {
  sizes_are = sym new.sizes_are;
  acts_are = λ bh. ap (λ l. acts_at l bh) new.lists_are ∙ of.acts_are bh;
}

-- a machine on which the commands were done stands for some log, where home alone made what was seen
pub stands_after : (script : LoopScript) (lists : List (List ActKind)) (replies : List LoopReply) (begun done : MachineState) → IsNew (sizes_of script) lists begun → IsScriptOf script (sizes_of script) (acts_at lists) → AnswersAll script.commands replies begun done → IsAlone done.seen → (log : Log) × KeepsLog done log
stands_after script lists replies begun done new of answers alone =
    let a = answers.at alone script [] (new_of script lists begun new of) new.empty in
    (a.after, a.stands)

-- what was printed, and the history of the end
pub RunTells-of : (script : LoopScript) (lists : List (List ActKind)) (begun done : MachineState) (history : History) (before after : Option (List ℕ)) (f g : ℕ) (r : Result Unit WriteFault) → IsNew (sizes_of script) lists begun → IsScriptOf script (sizes_of script) (acts_at lists) → Writes script.commands begun done before after f g r → EndsBy done history → RunTells script history before after f g r
RunTells-of script lists begun done history before after f g r new of writes ends =
    let alone : IsAlone done.seen = (alone_parts ends.between done.seen (subst IsAlone ends.longer ends.alone)).1 in
    let a = writes.answers.at alone script [] (new_of script lists begun new of) new.empty in
    record {
      text = flat_map reply_text writes.replies;
      tells = record {
        log = a.after;
        is_text = record { replies = writes.replies; done = a.does; lines = refl };
        ended = ends.at script a.after (sym (writes.answers.same.0 ∙ new.sizes_are)) a.stands;
      };
      prints = writes.prints;
    }

-- What a machine is that was built for a script.

pub can_run : (script : LoopScript) (lists : List (List ActKind)) (count : ℕ) → AllByRecursion (IsActWithin script.handles) script.acts → AreListsOf script.handles script.acts lists → count ≡ length lists → CanRun count lists []
can_run script lists count within are same =
    subst (λ n. CanRun n lists []) (sym (same ∙ are.each)) (CanRun-of script.handles script.acts lists within are)

pub IsNew-script : (script : LoopScript) (lists : List (List ActKind)) (machine : MachineState) (count : ℕ) → count ≡ script.handles → IsNew (record { handles = count; lots = script.lots; events = script.events }) lists machine → IsNew (sizes_of script) machine.lists machine
IsNew-script script lists machine count same new = record {
  sizes_are = new.sizes_are ∙ ap (λ n. record { handles = n; lots = script.lots; events = script.events }) same;
  lists_are = refl;
  empty = new.empty;
}

pub IsScriptOf-script : (script : LoopScript) (lists : List (List ActKind)) (machine : MachineState) (sizes : Sizes) → AllByRecursion (IsActWithin script.handles) script.acts → AreListsOf script.handles script.acts lists → IsNew sizes lists machine → IsScriptOf script (sizes_of script) (acts_at machine.lists)
IsScriptOf-script script lists machine sizes within are new = record {
  sizes_are = refl;
  acts_are = λ bh. ap (λ l. acts_at l bh) new.lists_are ∙ lists_agree script.handles script.acts lists within are bh;
}

pub within_script : (script : LoopScript) (machine : MachineState) → machine.sizes ≡ sizes_of script → AllByRecursion (IsCommandWithin script.handles script.events) script.commands → AllByRecursion (IsCommandWithin machine.sizes.handles machine.sizes.events) script.commands
within_script script machine same within =
    subst (λ (z : Sizes). AllByRecursion (IsCommandWithin z.handles z.events) script.commands) (sym same) within

-- The line of a poll whose calls are known.
pub line_of : (ran calls : List Called) (more besides : ℕ) (progress : Bool) (cut : ℕ) → ran ≡ calls → more ≡ besides → reply_text (Ran ran more progress cut) ≡ reply_text (Ran calls besides progress cut)
line_of ran calls more besides progress cut first then =
    ap (λ l. reply_text (Ran l more progress cut)) first ∙ ap (λ n. reply_text (Ran calls n progress cut)) then
