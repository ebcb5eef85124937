use Rattle.std.proofs.Common.{ap, ◌∙◌, ◌||◌, nat_eq}
use Rattle.jsx_base.specs.Comments.{is_marked}
use Rattle.jsx_base.proofs.PlacedComments.{marked_more}
use Rattle.jsx_base.proofs.comments.single_threaded.SingleThreadedCommentsComments.add_pure_comment.Goals as goal

pub returns-clause-marked : goal.returns-clause-marked
returns-clause-marked c = λ q.
    marked_more c.args.pos.0 q c.self.inside.pure_places.keys _ (c.in_ok-insert.ensures.updates.0 q)
    ∙ ap (λ it. nat_eq c.args.pos.0 q || is_marked it.marked q) c.self.view_is
