use Rattle.std.proofs.Common.{◌∙◌, ◌-◌, length, arith}
use Rattle.jsx_plan.specs.Plan.{role_of}
use Rattle.jsx_plan.proofs.Gathering.{ends_last_pat}
use Rattle.jsx_plan.proofs.patterns.ends_in_gap.Goals as goal

pub returns-in-Some : goal.returns-in-Some
returns-in-Some c =
    let has = c.in-Some.ensures.item in
    let xs = c.args.items.now in
    c.is_gap.ensures ∙ ends_last_pat (role_of c.args.role) xs (length xs - 1) c.in-Some.item.now (omega (arith, has.3.0)) has.1
