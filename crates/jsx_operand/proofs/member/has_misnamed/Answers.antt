use Rattle.std.proofs.Common.{not, ◌∙◌, rules, tests}
use Rattle.std.proofs.lemmas.Iterator.{YieldsList-from_slice}
use Rattle.std.proofs.lemmas.Iterator.Search.{any_from_yields_List}
use Rattle.jsx_tree.specs.StaticRules.{is_good_member}
use Rattle.jsx_tree.specs.View.{inside}
use Rattle.jsx_make.specs.Members.{view_class_member}
use Rattle.jsx_operand.proofs.MemberNames.{any_misnamed}
use Rattle.jsx_operand.proofs.member.has_misnamed.Goals as goal

pub returns : goal.returns
returns c =
    any_from_yields_List (λ m. not (is_good_member (inside view_class_member m))) _ _ _ c.any.ensures.ran (YieldsList-from_slice c.args.members.now cc) (λ x b q k. search (rules, tests))
    ∙ any_misnamed c.args.members.now
