use Rattle.std.proofs.Common.{◌∙◌, ◌-◌, length, arith}
use Rattle.jsx_plan.proofs.Gathering.{ends_last}
use Rattle.jsx_plan.proofs.holes.ends_in_hole.Goals as goal

pub returns-in-Some : goal.returns-in-Some
returns-in-Some c =
    let has = c.in-Some.ensures.item in
    let xs = c.args.items.now in
    c.is_hole.ensures ∙ ends_last xs (length xs - 1) c.in-Some.item.now (omega (arith, has.3.0)) has.1
