use Rattle.std.proofs.Common.{ℕ, ◌++◌, List, Bool, codes, decimal}
use Rattle.aio_model.specs.Scripts.LoopLines.{list_text, more_text, progress_text}
use Rattle.aio_script.proofs.Gathered.{PutsOnPage-then, PutsOnPage-stops}
use Rattle.aio_script.proofs.loops.print.print_ran.Goals as goal

-- what stands behind the list
abbrev end_text : Bool → ℕ → List ℕ
end_text progress cut = codes " progress " ++ (progress_text progress ++ (codes " cut " ++ (decimal cut ++ codes "\n")))

pub returns-in_err-put_parts : goal.returns-in_err-put_parts
returns-in_err-put_parts g c =
    let rest = list_text c.args.called.now ++ (more_text c.args.more ++ end_text c.args.progress c.args.cut) in
    PutsOnPage-stops rest c.from_residual.result c.from_residual.ensures.0 c.in_err-put_parts.ensures

pub returns-in_err-print_list : goal.returns-in_err-print_list
returns-in_err-print_list g c =
    let result = c.from_residual-in_err-print_list.result in
    let rest = more_text c.args.more ++ end_text c.args.progress c.args.cut in
    PutsOnPage-then result c.in_ok-put_parts.ensures
    (PutsOnPage-stops rest result c.from_residual-in_err-print_list.ensures.0 c.in_err-print_list.ensures)

pub returns-in_err-print_more : goal.returns-in_err-print_more
returns-in_err-print_more g c =
    let result = c.from_residual-in_err-print_more.result in
    PutsOnPage-then result c.in_ok-put_parts.ensures
    (PutsOnPage-then result c.in_ok-print_list.ensures
    (PutsOnPage-stops (end_text c.args.progress c.args.cut) result c.from_residual-in_err-print_more.ensures.0 c.in_err-print_more.ensures))

pub returns : goal.returns
returns g c =
    PutsOnPage-then _ c.in_ok-put_parts.ensures
    (PutsOnPage-then _ c.in_ok-print_list.ensures
    (PutsOnPage-then _ c.in_ok-print_more.ensures c.print_end_of_poll.ensures))
