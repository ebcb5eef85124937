use Rattle.std.proofs.Common.{◌+◌, sym, ◌∙◌, length, subst}
use Rattle.std.specs.Prelude.{Some}
use Rattle.std.specs.Str.{chars}
use Rattle.jsx_tree.specs.Spans.{IsTold, placed_in}
use Rattle.jsx_tree.specs.ViewProgram.{view}
use Rattle.jsx_operand.specs.Spans.{Spans}
use Rattle.jsx_tree.proofs.OneTree.Whole.{one_tree}
use Rattle.jsx_operand.proofs.Steps.{passed}
use Rattle.jsx_syntax.proofs.Unwrapping.{same_span}
use Rattle.jsx_syntax.proofs.module.parse.Goals as goal

pub returns-in_err-program-clause-refused : goal.returns-in_err-program-clause-refused
returns-in_err-program-clause-refused c = passed _ c.in_err-program.ensures.refused c.from_residual.ensures.1 (λ n. n)

pub returns-clause-read : goal.returns-clause-read
returns-clause-read c =
    let r = c.in_ok-program.ensures.read in
    record {
      written = view c.in_ok-program.program;
      reads = r;
      alone = λ t s. one_tree c.args.goal (chars c.args.text.now) t (view c.in_ok-program.program) s.reads r.reads;
      shallow = c.in_ok-program.ensures.shallow;
      bare = c.in_ok-bare.ensures.seen c.args.goal (chars c.args.text.now) r;
      placed = subst (λ d. IsTold d (placed_in c.args.start.0 (chars c.args.text.now) (view c.in_ok-program.program))) (sym c.in_ok-bare.ensures.places) c.in_ok-program.ensures.placed;
    }

pub returns-clause-span : goal.returns-clause-span
returns-clause-span c =
    subst (λ s. Spans (Some s) c.args.start.0 (c.args.start.0 + length c.args.text.now)) (sym (same_span c.bare.new.program ∙ (c.in_ok-bare.ensures.whole ∙ sym (same_span c.in_ok-program.program)))) c.in_ok-program.ensures.span
