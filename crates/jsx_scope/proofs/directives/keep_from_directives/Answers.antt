use Rattle.std.proofs.Common.{ap, arith}
use Rattle.std.specs.Box.{with_value}
use Rattle.jsx_tree.specs.Parentheses.{no_directive}
use Rattle.jsx_tree.specs.View.{inside, view_stmt}
use Rattle.jsx_scope.proofs.Kept.{kept_ok, kept_ended, kept_deref}
use Rattle.jsx_scope.proofs.directives.keep_from_directives.Goals as goal

pub returns-then-first-len : goal.returns-then-first-len
returns-then-first-len c =
    let test = c.if-first-len.true in
    let len = c.len.ensures in
    let held = c.args.stmts.now.ok.0 in
    kept_ok c.keep_from_directive.result (inside view_stmt) c.args.stmts.now.items c.deref.result.now c.first_written-first.result c.index_mut.result.now (with_value c.index_mut.result.now c.keep_from_directive.new.stmt)
    c.deref.ensures.value (omega (arith, test, len, held)) c.index_mut.ensures.value c.first_written-first.ensures.written c.first_written-first.ensures.passed
    (kept_deref c.keep_from_directive.result (view_stmt c.keep_from_directive.new.stmt) (no_directive (view_stmt c.deref_mut.result.now)) (no_directive (view_stmt c.index_mut.result.now.value)) (ap (λ s. no_directive (view_stmt s)) c.deref_mut.ensures.value) c.keep_from_directive.ensures)

pub returns-else-first-len : goal.returns-else-first-len
returns-else-first-len c =
    let test = c.if-first-len.false in
    let len = c.len.ensures in
    let held = c.args.stmts.now.ok.0 in
    kept_ended (inside view_stmt) c.args.stmts.now.items c.deref.result.now c.first_written-first.result c.deref.ensures.value (omega (arith, test, len, held)) c.first_written-first.ensures.passed
