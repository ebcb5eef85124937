use Rattle.std.proofs.Common.{refl, sym, ◌∙◌, ap}
use Rattle.std.specs.Prelude.{Err}
use Rattle.jsx_operand.specs.declared.error.ParseError.TheVariants.{Syntax, TooDeep}
use Rattle.jsx_depth.proofs.Programs.{program_deeper, program_within}
use Rattle.jsx_syntax.proofs.Texts.{deeper_tree, refused_as}
use Rattle.jsx_syntax.proofs.module.written.Goals as goal

pub returns-in-Err-Syntax-clause-refused : goal.returns-in-Err-Syntax-clause-refused
returns-in-Err-Syntax-clause-refused c = refused_as _ (Syntax _) refl (c.in-Err-Syntax.ensures.refused.bars (Syntax c.in-Err-Syntax.at) (ap Err c.in-Err-Syntax.field-0-is) refl)

pub returns-in-Err-TooDeep-clause-refused : goal.returns-in-Err-TooDeep-clause-refused
returns-in-Err-TooDeep-clause-refused c = refused_as _ (TooDeep _) refl (c.in-Err-TooDeep.ensures.refused.bars (TooDeep c.in-Err-TooDeep.at) (ap Err c.in-Err-TooDeep.field-0-is) refl)

pub returns-then-not-fits_program-clause-refused : goal.returns-then-not-fits_program-clause-refused
returns-then-not-fits_program-clause-refused c = refused_as _ (TooDeep _) refl (deeper_tree c.in-Ok.ensures.read (program_deeper c.in-Ok.ensures.read.reads (sym c.fits_program.ensures ∙ c.if-not-fits_program.true)))

pub returns-clause-shallow : goal.returns-clause-shallow
returns-clause-shallow c = program_within c.in-Ok.ensures.read.reads (sym c.fits_program.ensures ∙ c.if-not-fits_program.false)
