use Rattle.std.proofs.Common.{true≢false, subst, sym, ◌∙◌, refl}
use Rattle.std.specs.Str.Iter.{HasSubslice}
use Rattle.std.proofs.lemmas.Str.Pattern.{contains_text}
use Rattle.jsx_base.specs.Comments.{comment_data}
use Rattle.jsx_base.proofs.PlacedComments.{any_at, none_more, none_of_all}
use Rattle.jsx_base.proofs.comments.single_threaded.one_contains.Goals as goal

pub returns-then-contains : goal.returns-then-contains
returns-then-contains c = (
  λ _. any_at comment_data (λ comment. HasSubslice comment.text c.args.text.now) c.args.comments.now c.loop-comment.comment-index c.comment-item.result c.loop-comment-test.true c.comment-item.is
      (subst (λ s. HasSubslice s c.args.text.now) c.as_str.ensures.value ((contains_text c.contains.result c.args.text.now c.as_str.result.now c.contains.ensures.cases).0 c.if-contains.true)),
  λ _. refl,
)

pub loop-comment-preserved : goal.loop-comment-preserved
loop-comment-preserved c = none_more comment_data (λ comment. HasSubslice comment.text c.args.text.now) c.args.comments.now c.loop-comment.comment-index c.comment-item.result c.loop-comment-test.true c.comment-item.is
    (λ stands. true≢false (sym ((contains_text c.contains.result c.args.text.now c.as_str.result.now c.contains.ensures.cases).1 (subst (λ s. HasSubslice s c.args.text.now) (sym c.as_str.ensures.value) stands)) ∙ c.if-contains.false))
    c.loop-comment.invariant

pub returns : goal.returns
returns c = (
  λ h. absurd (true≢false (sym h)),
  λ some. absurd (none_of_all comment_data (λ comment. HasSubslice comment.text c.args.text.now) c.args.comments.now c.loop-comment.comment-index c.loop-comment-test.false c.loop-comment.invariant some),
)
