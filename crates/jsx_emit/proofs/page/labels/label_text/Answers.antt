use Rattle.jsx_emit.proofs.Labels.{label_empty, label_hidden, label_coded}
use Rattle.jsx_emit.proofs.page.labels.label_text.Goals as goal

pub returns-then-is_empty : goal.returns-then-is_empty
returns-then-is_empty c = label_empty c.plain_label.result c.args.msg.now c.args.snippet.now c.trim-code.result.now c.args.is_shown c.utf8.snippet c.trim-code.ensures.trim c.is_empty.result c.is_empty.ensures c.if-is_empty.true c.plain_label.ensures

pub returns-then-not-is_shown : goal.returns-then-not-is_shown
returns-then-not-is_shown c = label_hidden c.plain_label-then-not-is_shown.result c.args.msg.now c.args.snippet.now c.args.is_shown c.if-not-is_shown.true c.plain_label-then-not-is_shown.ensures

pub returns : goal.returns
returns c = label_coded c.coded_label.result c.args.msg.now c.args.snippet.now c.trim-code.result.now c.args.is_shown c.utf8.snippet c.trim-code.ensures.trim c.is_empty.result c.is_empty.ensures c.if-is_empty.false c.if-not-is_shown.false c.coded_label.ensures
