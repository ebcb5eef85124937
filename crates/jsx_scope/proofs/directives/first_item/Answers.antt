use Rattle.std.proofs.Common.{sym, ◌∙◌, arith}
use Rattle.jsx_tree.specs.ViewProgram.{view_item}
use Rattle.jsx_scope.proofs.Kept.{seen_past}
use Rattle.jsx_scope.proofs.directives.first_item.Goals as goal

pub loop-i-preserved : goal.loop-i-preserved
loop-i-preserved c =
    seen_past view_item c.args.items.now c.loop-i.i c.index-items-i.result (omega arith) c.index-items-i.is (sym c.is_empty_item.ensures ∙ c.if-not-is_empty_item.false) c.loop-i.invariant
