use Rattle.std.proofs.Common.{ap, length, ◌∙◌}
use Rattle.std.proofs.lemmas.List.{length-replicate}
use Rattle.img_streams.proofs.Linking.{none_linked}
use Rattle.img_streams.proofs.links.LineLinks.build.Goals as goal

pub link-requires : goal.link-requires
link-requires c =
    let next = c.in-Ok.next.items in
    let none = length c.as_slice-lines.result.now in
    record { none = none_linked c.as_slice-lines.result.now next (ap length (c.in-Ok.ensures.items_if_clones_equal (λ b is. is)) ∙ length-replicate none 0) }
