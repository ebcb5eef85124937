use Rattle.std.proofs.Common.{◌∙◌, rules, tests}
use Rattle.std.proofs.lemmas.Iterator.{YieldsList-from_slice}
use Rattle.std.proofs.lemmas.Iterator.Search.{any_from_yields_List}
use Rattle.jsx_tree.specs.StaticRules.{is_strict_directive}
use Rattle.jsx_tree.specs.View.{directive}
use Rattle.jsx_operand.proofs.Bodies.{strict_of_any}
use Rattle.jsx_operand.proofs.body.makes_strict.Goals as goal

pub returns : goal.returns
returns c =
    any_from_yields_List (λ d. is_strict_directive (directive d)) _ _ _ c.any.ensures.ran (YieldsList-from_slice c.args.directives.now cc) (λ x b q k. search (rules, tests))
    ∙ strict_of_any c.args.directives.now
