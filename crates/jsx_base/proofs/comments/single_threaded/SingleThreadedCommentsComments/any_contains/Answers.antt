use Rattle.std.proofs.Common.{◌↔◌, map, rules, subst, tests, IsTrue}
use Rattle.std.specs.List.{Any}
use Rattle.std.specs.BTreeMap.{values}
use Rattle.std.specs.Str.Iter.{HasSubslice}
use Rattle.std.proofs.lemmas.Bool.{MatchBool-at_true}
use Rattle.std.proofs.lemmas.Iterator.{cases_from_any}
use Rattle.std.proofs.lemmas.Iterator.Consumers.{YieldsList-from_rest}
use Rattle.std.proofs.lemmas.Iterator.Search.{true_from_Any}
use Rattle.jsx_base.specs.Comments.{CommentData, PlacedComments, SomeContains, comment_data, entry_data}
use Rattle.jsx_base.proofs.PlacedComments.{some_place, some_value}
use Rattle.jsx_base.proofs.comments.single_threaded.SingleThreadedCommentsComments.any_contains.Goals as goal

pub returns : goal.returns
returns c =
    let m = c.self.inside.leading in
    let P : CommentData → Type 0 = λ comment. HasSubslice comment.text c.args.text.now in
    let r = cases_from_any _ _ _ (λ v. Any P (map comment_data v.items)) (λ v. Any P (map comment_data v.items) → ⊥) c.any.ensures.ran (YieldsList-from_rest (values m) c.values.ensures.rest) (λ y b k. search (rules, tests)) (λ y b k. search (rules, tests)) in
    let both : IsTrue c.any.result ↔ SomeContains c.args.text.now (map entry_data m.entries) = (
      λ t. some_place m c.values.ensures.ordered P (MatchBool-at_true _ _ t r),
      λ some. let v = some_value m c.values.ensures.ordered P some.0 some.1 in true_from_Any (λ v. Any P (map comment_data v.items)) (λ v. Any P (map comment_data v.items) → ⊥) c.any.result (values m) (λ v yes no. no yes) r v.0 v.1 v.2,
    ) in
    let Q : PlacedComments → Type 0 = λ it. IsTrue c.any.result ↔ SomeContains c.args.text.now it.lists in
    subst Q c.self.view_is both
