use Rattle.jsx_tree.specs.View.{word_of}
use Rattle.std.proofs.Common.{refl}
use Rattle.jsx_tree.specs.Kinds.{none}
use Rattle.jsx_tree.proofs.Rows.Lists.{begun}
use Rattle.jsx_operand.proofs.Steps.{passed}
use Rattle.jsx_declaration.proofs.Heads.{not_declared}
use Rattle.jsx_declaration.proofs.statement.declarators.Goals as goal

pub returns-in_err-first-clause-refused : goal.returns-in_err-first-clause-refused
returns-in_err-first-clause-refused g c = passed _ c.in_err-first.ensures.refused c.from_residual.ensures.1 (λ b. not_declared (word_of c.args.word) none (begun none refl) (begun none refl) b)

pub returns-in_err-more_declarators-clause-refused : goal.returns-in_err-more_declarators-clause-refused
returns-in_err-more_declarators-clause-refused g c = passed _ c.in_err-more_declarators.ensures.refused c.from_residual-in_err-more_declarators.ensures.1 (λ n. n.no c.args.lexer.now (record { only = c.in_ok-first.ensures.read; placed = c.in_ok-first.ensures.placed }))

pub returns-clause-read : goal.returns-clause-read
returns-clause-read g c = (c.in_ok-more_declarators.ensures.read.on c.args.lexer.now (record { only = c.in_ok-first.ensures.read; placed = c.in_ok-first.ensures.placed })).declares

pub returns-clause-initialized : goal.returns-clause-initialized
returns-clause-initialized g c = (c.in_ok-more_declarators.ensures.read.on c.args.lexer.now (record { only = c.in_ok-first.ensures.read; placed = c.in_ok-first.ensures.placed })).initialized

pub returns-clause-placed : goal.returns-clause-placed
returns-clause-placed g c = (c.in_ok-more_declarators.ensures.read.on c.args.lexer.now (record { only = c.in_ok-first.ensures.read; placed = c.in_ok-first.ensures.placed })).placed
