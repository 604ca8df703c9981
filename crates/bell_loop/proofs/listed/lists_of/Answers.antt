use Rattle.std.proofs.Common.{◌≡◌, ◌∙◌, arith}
use Rattle.std.proofs.lemmas.List.{length-map}
use Rattle.bell_loop.proofs.Listing.{lists-more, length-more}
use Rattle.bell_loop.proofs.listed.lists_of.Goals as goal

pub loop-bh-preserved : goal.loop-bh-preserved
loop-bh-preserved c = (
  length-more c.push.new.self.items c.loop-bh.lists.items c.in_ok-acts_of.field-0 c.loop-bh.bh c.in_ok-push.ensures.items c.loop-bh.invariant.0,
  lists-more (λ list. list.items) c.push.new.self.items c.loop-bh.lists.items c.in_ok-acts_of.field-0 c.loop-bh.bh c.args.acts.now c.in_ok-push.ensures.items c.loop-bh.invariant.0 c.in_ok-acts_of.ensures c.loop-bh.invariant.1,
)

pub returns : goal.returns
returns c =
    let same : c.loop-bh.bh ≡ c.args.handles = omega (arith, c.loop-bh-test.false, c.loop-bh.auto.bh-end) in
    record {
      each = length-map c.loop-bh.lists.items (λ list. list.items) ∙ c.loop-bh.invariant.0 ∙ same;
      are = λ k below. c.loop-bh.invariant.1 k (omega (arith, same, below));
    }
