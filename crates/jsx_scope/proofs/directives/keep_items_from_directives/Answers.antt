use Rattle.std.proofs.Common.{arith}
use Rattle.jsx_tree.specs.ViewProgram.{view_item}
use Rattle.jsx_scope.proofs.Kept.{kept_ok, kept_ended}
use Rattle.jsx_scope.proofs.directives.keep_items_from_directives.Goals as goal

pub returns-then-first-len : goal.returns-then-first-len
returns-then-first-len c =
    let test = c.if-first-len.true in
    let len = c.len.ensures in
    let held = c.args.items.now.ok.0 in
    kept_ok c.keep_item.result view_item c.args.items.now.items c.deref.result.now c.first_item-first.result c.index_mut.result.now c.keep_item.new.item
    c.deref.ensures.value (omega (arith, test, len, held)) c.index_mut.ensures.value c.first_item-first.ensures.written c.first_item-first.ensures.passed c.keep_item.ensures

pub returns-else-first-len : goal.returns-else-first-len
returns-else-first-len c =
    let test = c.if-first-len.false in
    let len = c.len.ensures in
    let held = c.args.items.now.ok.0 in
    kept_ended view_item c.args.items.now.items c.deref.result.now c.first_item-first.result c.deref.ensures.value (omega (arith, test, len, held)) c.first_item-first.ensures.passed
