use Rattle.std.proofs.Common.{map, subst}
use Rattle.std.proofs.lemmas.Result.{err_from_is_err_and}
use Rattle.jsx_base.specs.Comments.{comment_data, PlacedComments, AddsComment, SameComments, entry_data}
use Rattle.jsx_base.proofs.PlacedComments.{added, unchanged}
use Rattle.jsx_base.proofs.comments.single_threaded.SingleThreadedCommentsComments.add_leading.Goals as goal

pub returns-clause-added : goal.returns-clause-added
returns-clause-added c =
    let P : PlacedComments → Type 0 = λ it. AddsComment c.args.pos.0 (comment_data c.args.c) it.lists (map entry_data c.add_comment.new.leading.entries) in
    subst P c.self.view_is (added c.self.inside.leading c.add_comment.new.leading c.args.pos.0 (comment_data c.args.c) c.in_ok-add_comment.ensures.added)

pub returns-in_err-add_comment-clause-kept : goal.returns-in_err-add_comment-clause-kept
returns-in_err-add_comment-clause-kept c =
    let P : PlacedComments → Type 0 = λ it. SameComments it.lists (map entry_data c.add_comment.new.leading.entries) in
    let p = err_from_is_err_and c.from_residual.result c.from_residual.ensures.1 in
    rw (p.1) (subst P c.self.view_is (unchanged c.self.inside.leading c.add_comment.new.leading c.in_err-add_comment.ensures.kept))
