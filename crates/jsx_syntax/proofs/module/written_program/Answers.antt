use Rattle.std.proofs.Common.{sym, subst}
use Rattle.std.specs.Prelude.{IfOk}
use Rattle.std.specs.Str.{chars}
use Rattle.jsx_tree.specs.ViewProgram.{view}
use Rattle.jsx_token.specs.Stage.{ReadsSoFar}
use Rattle.jsx_operand.specs.Answers.{NoTree, Refused}
use Rattle.jsx_syntax.proofs.module.written_program.Goals as goal

pub returns-in-Module-clause-read : goal.returns-in-Module-clause-read
returns-in-Module-clause-read c = subst (λ g. IfOk c.written_module.result (λ program. ReadsSoFar g (chars c.args.text.now) (view program))) (sym c.in-Module.is) c.written_module.ensures.read

pub returns-in-Module-clause-refused : goal.returns-in-Module-clause-refused
returns-in-Module-clause-refused c = subst (λ g. Refused c.args.depth c.written_module.result (NoTree g (chars c.args.text.now))) (sym c.in-Module.is) c.written_module.ensures.refused

pub returns-in-Script-clause-read : goal.returns-in-Script-clause-read
returns-in-Script-clause-read c = subst (λ g. IfOk c.written_script.result (λ program. ReadsSoFar g (chars c.args.text.now) (view program))) (sym c.in-Script.is) c.written_script.ensures.read

pub returns-in-Script-clause-refused : goal.returns-in-Script-clause-refused
returns-in-Script-clause-refused c = subst (λ g. Refused c.args.depth c.written_script.result (NoTree g (chars c.args.text.now))) (sym c.in-Script.is) c.written_script.ensures.refused
