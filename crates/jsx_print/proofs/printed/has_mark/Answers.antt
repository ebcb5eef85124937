use Rattle.std.proofs.Common.{arith}
use Rattle.std.proofs.lemmas.Grind.{common_steps}
use Rattle.std.proofs.lemmas.List.Folds.{list_any_at}
use Rattle.jsx_base.proofs.Spans.{list_any-map}
use Rattle.jsx_base.specs.Comments.{is_marked}
use Rattle.jsx_print.proofs.printed.has_mark.Goals as goal

pub returns-then-has_pure : goal.returns-then-has_pure
returns-then-has_pure g c = rw (list_any-map (is_marked (g.C.Comments.marked c.args.comments.now)) (λ b. b.0) c.args.calls.now) (grind (arith, common_steps, list_any_at))

pub returns : goal.returns
returns g c = rw (list_any-map (is_marked (g.C.Comments.marked c.args.comments.now)) (λ b. b.0) c.args.calls.now) (grind (arith, common_steps))
