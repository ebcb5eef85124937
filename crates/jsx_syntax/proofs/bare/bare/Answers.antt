use Rattle.std.proofs.Common.{◌≡◌, ◌∙◌, refl}
use Rattle.std.proofs.lemmas.Result.{on_ok_weaker}
use Rattle.jsx_tree.specs.Normal.{unwrapped_node, without_parentheses}
use Rattle.jsx_tree.specs.ViewProgram.{view}
use Rattle.jsx_visit.specs.Visit.{visited}
use Rattle.jsx_syntax.proofs.Unwrapping.{visited_bare}
use Rattle.jsx_syntax.proofs.bare.bare.Goals as goal

pub returns-clause-seen : goal.returns-clause-seen
returns-clause-seen c = λ goal text r.
    on_ok_weaker {P = view c.visit.new.program ≡ visited unwrapped_node (view c.args.program.now)} {Q = view c.visit.new.program ≡ without_parentheses (view c.args.program.now)} c.visit.result
    (λ e. e ∙ visited_bare goal text (view c.args.program.now) r) c.visit.ensures.seen

pub returns-clause-places : goal.returns-clause-places
returns-clause-places c = c.visit.ensures.places refl
