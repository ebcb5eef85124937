use Rattle.std.proofs.Common.{ap, sym, ◌∙◌, arith}
use Rattle.jsx_tree.specs.View.{inside, view_pat}
use Rattle.jsx_declaration.specs.OpenIn.{opens_declared}
use Rattle.jsx_declaration.proofs.OpenIn.{opens_ended, opens_found, opens_past}
use Rattle.jsx_declaration.proofs.open_in.any_has_open_in.Goals as goal

pub loop-i-preserved : goal.loop-i-preserved
loop-i-preserved c =
    opens_past opens_declared (inside view_pat) c.args.declarators.now c.loop-i.i c.index-declarators-i.result (omega arith) c.index-declarators-i.is (ap (λ s. opens_declared (view_pat s)) (sym c.deref.ensures) ∙ (sym c.of_declarator.ensures ∙ c.if-of_declarator.false)) c.loop-i.invariant

pub returns-then-of_declarator : goal.returns-then-of_declarator
returns-then-of_declarator c =
    opens_found opens_declared (inside view_pat) c.args.declarators.now c.loop-i.i c.index-declarators-i.result (omega arith) c.index-declarators-i.is (ap (λ s. opens_declared (view_pat s)) (sym c.deref.ensures) ∙ (sym c.of_declarator.ensures ∙ c.if-of_declarator.true)) c.loop-i.invariant

pub returns : goal.returns
returns c = opens_ended opens_declared (inside view_pat) c.args.declarators.now c.loop-i.i (omega arith) c.loop-i.invariant
