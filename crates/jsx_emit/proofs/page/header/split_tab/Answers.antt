use Rattle.jsx_emit.proofs.Pages.{split_tab_result}
use Rattle.jsx_emit.proofs.page.header.split_tab.Goals as goal

pub returns : goal.returns
returns c = split_tab_result c.args.text.now c.split_once.result c.utf8.text c.split_once.ensures.cases
