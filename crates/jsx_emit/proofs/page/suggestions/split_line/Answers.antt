use Rattle.jsx_base.proofs.FirstLine.{split_line_result}
use Rattle.jsx_emit.proofs.page.suggestions.split_line.Goals as goal

pub returns : goal.returns
returns c = split_line_result c.args.text.now c.split_once.result c.utf8.text c.split_once.ensures.cases
