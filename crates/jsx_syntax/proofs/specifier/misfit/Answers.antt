use Rattle.std.proofs.Common.{arith, sym, ◌∙◌}
use Rattle.jsx_tree.specs.Kinds.{From}
use Rattle.jsx_tree.specs.ViewProgram.{view_specifier}
use Rattle.jsx_syntax.specs.Specifiers.{fits, side_of}
use Rattle.jsx_syntax.proofs.Fitting.{pass_all, pass_begin, pass_more, pass_none}
use Rattle.jsx_syntax.proofs.specifier.misfit.Goals as goal

pub loop-i-init : goal.loop-i-init
loop-i-init c = pass_begin (fits (side_of c.args.side)) (view_specifier From) c.args.specifiers.now

pub loop-i-preserved : goal.loop-i-preserved
loop-i-preserved c =
    pass_more (fits (side_of c.args.side)) (view_specifier From) c.args.specifiers.now c.loop-i.i c.index-specifiers-i.result (omega arith) c.index-specifiers-i.is
    (sym c.own-name.ensures ∙ (sym c.may_be_own.ensures ∙ c.if-not-may_be_own.false)) c.loop-i.invariant

pub returns-then-not-may_be_own : goal.returns-then-not-may_be_own
returns-then-not-may_be_own c =
    pass_none (fits (side_of c.args.side)) (view_specifier From) c.args.specifiers.now c.loop-i.i c.index-specifiers-i.result (omega arith) c.index-specifiers-i.is
    (sym c.own-name.ensures ∙ (sym c.may_be_own.ensures ∙ c.if-not-may_be_own.true)) c.loop-i.invariant

pub returns : goal.returns
returns c = pass_all (fits (side_of c.args.side)) (view_specifier From) c.args.specifiers.now c.loop-i.i (omega arith) c.loop-i.invariant
