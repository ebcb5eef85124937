use Rattle.std.proofs.Common.{◌++◌, ap, ◌∙◌}
use Rattle.jsx_tree.specs.Kinds.{From}
use Rattle.jsx_tree.specs.Told.{told_specifier}
use Rattle.jsx_tree.specs.ViewProgram.{view_specifier}
use Rattle.jsx_names.specs.Events.{Plain}
use Rattle.jsx_heard.specs.Said.{Unnamed, Elsewhere, met_all}
use Rattle.jsx_heard.proofs.Hearing.{said_more, said_all}
use Rattle.jsx_heard.proofs.SaidSpecifiers.{passed_said}
use Rattle.jsx_heard.proofs.imports.passed_on.Goals as goal

pub loop-specifier-preserved : goal.loop-specifier-preserved
loop-specifier-preserved c = record {
  so = said_more Plain Unnamed Elsewhere (view_specifier From) told_specifier c.args.specifiers.now c.loop-specifier.specifier-index c.specifier-item.result (met_all c.args.events.now.items) (met_all c.loop-specifier.events.items) (met_all c.exports.new.events.items) c.loop-specifier-test.true c.specifier-item.is c.loop-specifier.invariant.so
      (c.in_ok-exports.ensures ∙ ap (λ z. met_all c.loop-specifier.events.items ++ z) (passed_said c.specifier-item.result c.last_name.result.now c.last_name.ensures));
}

pub returns : goal.returns
returns c = said_all Plain Unnamed Elsewhere (view_specifier From) told_specifier c.args.specifiers.now c.loop-specifier.specifier-index (met_all c.args.events.now.items) (met_all c.loop-specifier.events.items) c.loop-specifier-test.false c.loop-specifier.invariant.so
