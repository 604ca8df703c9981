use Rattle.aio_run.proofs.Begun.{post_makes, post_finds}
use Rattle.aio_run.proofs.OwnPosts.{own_posted}
use Rattle.aio_run.proofs.posting.post_one.Goals as goal

pub unreachable-requires : goal.unreachable-requires
unreachable-requires g c =
    post_finds c.args.shared.now c.args.row.now c.requires.row.0 c.requires.row.1 c.args.to c.requires.to c.args.co c.in-Err.field-0.mark c.post.new.self.seats.items c.requires.fresh c.in-Err.ensures.posts.1

pub returns-clause-made : goal.returns-clause-made
returns-clause-made g c =
    post_makes c.args.shared.now c.args.row.now c.requires.row.0 c.requires.row.1 c.args.to c.requires.to c.args.co c.post.new.self.seats.items c.in-Ok.ensures.posts

pub returns-clause-own : goal.returns-clause-own
returns-clause-own g c loops was =
    own_posted loops c.args.to c.args.co _ _ c.args.row.now.seats.items c.post.new.self.seats.items was c.post.ensures.others c.in-Ok.ensures.posts
