use Rattle.std.proofs.Common.{map, take}
use Rattle.std.specs.List.{All}
use Rattle.std.specs.Str.Iter.{HasSubslice}
use Rattle.jsx_base.specs.Comments.{comment_data}
use Rattle.jsx_base.proofs.comments.single_threaded.one_contains.Given as goal

abbrev pub invariant-loop-comment : goal.invariant-loop-comment
invariant-loop-comment l = All (λ comment. HasSubslice comment.text l.text → ⊥) (map comment_data (take l.comment-index l.comments))
