use Rattle.std.proofs.Common.{map, sym, ap, ◌∙◌}
use Rattle.jsx_base.specs.Comments.{comment_data, comments_at, held}
use Rattle.jsx_base.proofs.PlacedComments.{comments_at-entries}
use Rattle.jsx_base.proofs.comments.single_threaded.SingleThreadedCommentsComments.leading.Goals as goal

pub returns-in-Some : goal.returns-in-Some
returns-in-Some c =
    ap (map comment_data) c.deref.ensures.value
    ∙ ap held c.in-Some.ensures.value
    ∙ sym (comments_at-entries c.self.inside.leading.entries c.args.pos.0)
    ∙ ap (λ it. comments_at it.lists c.args.pos.0) c.self.view_is

pub returns-in-None : goal.returns-in-None
returns-in-None c =
    ap held c.in-None.ensures.value
    ∙ sym (comments_at-entries c.self.inside.leading.entries c.args.pos.0)
    ∙ ap (λ it. comments_at it.lists c.args.pos.0) c.self.view_is
