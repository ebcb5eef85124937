use Rattle.std.proofs.Common.{ap, sym, ◌∙◌, arith}
use Rattle.jsx_tree.specs.View.{inside, view_expr}
use Rattle.jsx_declaration.specs.OpenIn.{opens}
use Rattle.jsx_declaration.proofs.OpenIn.{opens_ended, opens_found, opens_past}
use Rattle.jsx_declaration.proofs.open_in.of_items.Goals as goal

pub loop-i-preserved : goal.loop-i-preserved
loop-i-preserved c =
    opens_past opens (inside view_expr) c.args.items.now c.loop-i.i c.index-items-i.result (omega arith) c.index-items-i.is (ap (λ s. opens (view_expr s)) (sym c.deref.ensures) ∙ (sym c.has_open_in.ensures ∙ c.if-has_open_in.false)) c.loop-i.invariant

pub returns-then-has_open_in : goal.returns-then-has_open_in
returns-then-has_open_in c =
    opens_found opens (inside view_expr) c.args.items.now c.loop-i.i c.index-items-i.result (omega arith) c.index-items-i.is (ap (λ s. opens (view_expr s)) (sym c.deref.ensures) ∙ (sym c.has_open_in.ensures ∙ c.if-has_open_in.true)) c.loop-i.invariant

pub returns : goal.returns
returns c = opens_ended opens (inside view_expr) c.args.items.now c.loop-i.i (omega arith) c.loop-i.invariant
