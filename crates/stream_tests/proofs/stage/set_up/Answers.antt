use Rattle.std.proofs.Common.{◌≡◌, ◌∙◌, ◌∷◌, [], length, ap, subst, arith, rules}
use Rattle.aio_model.specs.Serving.Asked.{requests_of}
use Rattle.aio_model.specs.Holds.WhoHolds.{Readers}
use Rattle.img_streams.specs.Lines.{AreShort}
use Rattle.stream_tests.proofs.Sole.{sole}
use Rattle.stream_tests.proofs.stage.set_up.Goals as goal

pub returns-clause-can : goal.returns-clause-can
returns-clause-can g c =
    let fits = c.fit.ensures (search rules) in
    let built = c.in-Ok-build-4.built in
    let one : length built.1.items ≡ 1 = omega (arith, c.in-Ok-build-4.ensures.passes.0, built.1.ok.0) in
    record {
      new = c.in-Ok-build-4.ensures.passes.1 0 c.in-Some.pass (sole built.1.items c.pop.new.self.items c.in-Some.pass c.in-Some.ensures.items one);
      device = c.args.device;
      requests = c.requests_in-requests.result ∷ [];
      access = record { room = 1; holders = Readers []; tickets = [] };
      homes = 0 ∷ [];
      built = c.in-Ok-build-4.ensures.built.0 ∙ c.in-Ok-build-3.ensures.boxed ∙ c.in-Ok-build-2.ensures.ok;
      known = omega arith;
      named = search rules;
      count = c.requests_in-requests.ensures ∙ ap (requests_of 0) c.as_slice-lines.ensures;
      short = subst AreShort c.as_slice-lines.ensures fits.1;
      few = search rules;
      many = omega (arith, fits.0, ap (λ l. length l) c.as_slice-lines.ensures);
      room_is = c.in-Ok-build.ensures;
    }
