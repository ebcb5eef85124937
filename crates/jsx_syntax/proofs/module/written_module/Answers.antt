use Rattle.std.proofs.Common.{◌+◌, sym, ◌∙◌, ap}
use Rattle.std.specs.Str.{chars}
use Rattle.jsx_base.proofs.FirstLine.{size-chars}
use Rattle.jsx_tree.specs.Reading.{At}
use Rattle.jsx_tree.proofs.Rows.Lines.{found_end}
use Rattle.jsx_tree.proofs.Tokens.{and_right}
use Rattle.jsx_operand.proofs.Steps.{passed}
use Rattle.jsx_syntax.proofs.PlacedPrograms.{module_placed}
use Rattle.jsx_syntax.proofs.Texts.{no_module, whole_module}
use Rattle.jsx_syntax.proofs.module.written_module.Goals as goal

pub returns-in_err-read-clause-refused : goal.returns-in_err-read-clause-refused
returns-in_err-read-clause-refused c = passed _ c.in_err-read.ensures.refused c.from_residual.ensures.1 (λ n. no_module c.of_module-around.ensures (λ i. At (c.new-lexer.ensures.last i) (c.new-lexer.ensures.ending i) (c.new-lexer.ensures.rest i)) n)

pub returns-clause-read : goal.returns-clause-read
returns-clause-read c = whole_module c.of_module-around.ensures (λ i. At (c.new-lexer.ensures.last i) (c.new-lexer.ensures.ending i) (c.new-lexer.ensures.rest i)) c.in_ok-read.ensures.read

pub returns-clause-placed : goal.returns-clause-placed
returns-clause-placed c =
    module_placed c.args.start.0 (chars c.args.text.now) (λ i. At (c.new-lexer.ensures.last i) (c.new-lexer.ensures.ending i) (c.new-lexer.ensures.rest i)) (c.new-lexer.ensures.end ∙ ap (λ n. c.args.start.0 + n) (sym (size-chars c.args.text.now c.utf8.text))) c.in_ok-read.ensures.placed
    (found_end _ (and_right _ _ (returns-clause-read c).reads.read))
