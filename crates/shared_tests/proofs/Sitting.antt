-- A stream's player goes on as its request is entered.
use Rattle.std.proofs.Common.{ℕ, ◌<◌, sym, subst, refl, arith, get_or-set_same}
use Rattle.std.proofs.lemmas.List.{length-set}
use Rattle.aio_model.specs.declared.serving.requests.Request.{Request}
use Rattle.img_requests.specs.Presents.{begun_of}
use Rattle.img_requests.specs.declared.answers.Enter.TheVariants as entered
use Rattle.img_shared.specs.declared.phases.Phase.{Phase}
use Rattle.img_shared.specs.declared.phases.Phase.TheVariants.{Idle, Active, Waiting}
use Rattle.img_shared.specs.Calls.{Enters, IsServing}
use Rattle.img_shared.specs.Images.{ImageState}
use Rattle.img_shared.specs.Phases.{done_in}
use Rattle.shared_tests.specs.declared.turn.Turn.TheVariants.{Rest, Wait, Serve}
use Rattle.shared_tests.specs.Sits.{Sits}

module _ {D : Type 0} (s left : ℕ) (request : Request) (old new : ImageState D) (sits : Sits s left Rest request old) (some : 0 < left) where
  pub sits_begun : Enters old s request entered.Begun new → Sits s left Serve request new
  sits_begun enters = subst (Sits s left Serve request) (sym enters.2) (record {
    known = sits.known;
    rows = omega (arith, sits.rows, length-set old.phases s (Active (begun_of s request)));
    due = sits.due;
    turned = (
      subst (λ (p : Phase). IsServing p s request (done_in p)) (sym (get_or-set_same old.phases s (Active (begun_of s request)) Idle sits.rows)) refl,
      some,
    );
  })

  pub sits_queued : Enters old s request entered.Queued new → Sits s left Wait request new
  sits_queued enters = subst (Sits s left Wait request) (sym enters.2) (record {
    known = sits.known;
    rows = omega (arith, sits.rows, length-set old.phases s (Waiting (begun_of s request)));
    due = sits.due;
    turned = (get_or-set_same old.phases s (Waiting (begun_of s request)) Idle sits.rows, some);
  })
