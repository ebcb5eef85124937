use Rattle.std.proofs.Common.{ap, sym, ◌∙◌, arith}
use Rattle.jsx_tree.specs.Normal.{is_empty}
use Rattle.jsx_tree.specs.View.{inside, view_stmt}
use Rattle.jsx_scope.proofs.Kept.{seen_past}
use Rattle.jsx_scope.proofs.directives.first_written.Goals as goal

pub loop-i-preserved : goal.loop-i-preserved
loop-i-preserved c =
    seen_past (inside view_stmt) c.args.stmts.now c.loop-i.i c.index-stmts-i.result (omega arith) c.index-stmts-i.is (ap (λ s. is_empty (view_stmt s)) (sym c.deref.ensures) ∙ (sym c.is_empty.ensures ∙ c.if-not-is_empty.false)) c.loop-i.invariant
