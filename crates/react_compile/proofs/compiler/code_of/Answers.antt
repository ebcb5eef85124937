use Rattle.std.proofs.Common.{string_bytes}
use Rattle.std.proofs.lemmas.Str.{IsUtf8-string_bytes}
use Rattle.jsx_tree.specs.ViewProgram.{view}
use Rattle.react_compile.proofs.Lowering.Programs.{passes_code}
use Rattle.react_compile.proofs.compiler.code_of.Goals as goal

pub returns : goal.returns
returns c = λ goal source written reads bare.
    passes_code goal source written (view c.args.program.now) (view c.lower.new.program) (view c.parenthesise.new.program) (string_bytes c.in_ok-printed.printed.text) reads bare
    c.in_ok-comments.ensures c.in_ok-parenthesise.ensures.pairs c.in_ok-printed.ensures.layout (IsUtf8-string_bytes c.in_ok-printed.printed.text)
