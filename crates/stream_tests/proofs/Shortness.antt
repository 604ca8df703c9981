-- Lines that ask for few bytes.
use Rattle.std.proofs.Common.{◌≡◌, ℕ, ◌+◌, ◌<◌, List, [], ◌∷◌, ◌++◌, length, get_or, take, sym, ap, ◌∙◌, subst}
use Rattle.std.proofs.lemmas.List.{take_more}
use Rattle.aio_model.specs.declared.scripts.image_scripts.Step.{Step}
use Rattle.img_streams.specs.Lines.{IsShort, AreShort}

short_push : (lines : List Step) (step : Step) → AreShort lines → IsShort step.what → AreShort (lines ++ step ∷ [])
short_push [] step short here = (here, tt)
short_push (first ∷ lines) step short here = (short.0, short_push lines step short.1 here)

pub short_more : (lines : List Step) (i : ℕ) (step : Step) → i < length lines → step ≡ get_or lines i step → AreShort (take i lines) → IsShort step.what → AreShort (take (i + 1) lines)
short_more lines i step inside read short here =
    subst AreShort (sym (take_more lines i step inside ∙ ap (λ (s : Step). take i lines ++ s ∷ []) (sym read))) (short_push (take i lines) step short here)
