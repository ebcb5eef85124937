use Rattle.std.proofs.Common.{refl, sym, ap, ◌∙◌, subst}
use Rattle.std.specs.Str.{chars}
use Rattle.jsx_base.specs.Token.{TemplateMiddle}
use Rattle.jsx_tree.specs.Kinds.{leaf}
use Rattle.jsx_tree.specs.Nonterminals.{TemplatePart}
use Rattle.jsx_tree.specs.Grammar.{Part}
use Rattle.jsx_tree.specs.Spans.{Comes}
use Rattle.jsx_tree.specs.Walk.{one}
use Rattle.jsx_tree.specs.Answers.{Only}
use Rattle.jsx_token.specs.Here.{piece_sign, place_of}
use Rattle.jsx_token.specs.declared.lexer.Piece.TheVariants as kinds
use Rattle.jsx_token.specs.Places.{Takes}
use Rattle.jsx_operand.specs.Around.{around_of}
use Rattle.jsx_operand.specs.SoFar.{so_far}
use Rattle.jsx_operand.specs.Templates.{fits_tag}
use Rattle.jsx_operand.proofs.Steps.{passed, passed_plain}
use Rattle.jsx_operand.proofs.Templates.{deep_middle, only_middle, unfit_middle}
use Rattle.jsx_operand.proofs.template.middle.Goals as goal

pub returns-in_default-clause-refused : goal.returns-in_default-clause-refused
returns-in_default-clause-refused c = record { bars = λ _ _ _. record { no = λ t h s. c.in_default.ensures.missing t } }

pub returns-in_err-piece-clause-refused : goal.returns-in_err-piece-clause-refused
returns-in_err-piece-clause-refused c = passed_plain _ c.in_err-piece.ensures.refused c.from_residual.ensures.1 (λ n. unfit_middle c.args.is_tagged (chars c.in-Some.raw.now) c.in-Some.ensures.taken refl n)

pub returns-in_err-counted-clause-refused : goal.returns-in_err-counted-clause-refused
returns-in_err-counted-clause-refused c = passed _ c.in_err-counted.ensures.refused c.from_residual-in_err-counted.ensures.1 (λ b. deep_middle c.args.is_tagged b)

pub returns-clause-read : goal.returns-clause-read
returns-clause-read c = subst (λ t. Only so_far (around_of c.args.context.around) (Part (TemplatePart TemplateMiddle)) (place_of c.args.lexer.now) (one (leaf TemplateMiddle t)) (place_of c.piece.new.self)) (sym c.in_ok-piece.ensures.text) (only_middle (chars c.in-Some.raw.now) c.in-Some.ensures.taken refl c.in-Some.ensures.whole)

pub returns-clause-fits : goal.returns-clause-fits
returns-clause-fits c = ap (fits_tag c.args.is_tagged) c.in_ok-piece.ensures.text ∙ c.in_ok-piece.ensures.fits

pub returns-clause-takes : goal.returns-clause-takes
returns-clause-takes c = subst (λ t. Takes (piece_sign kinds.Middle t) c.args.lexer.now c.piece.new.self) (sym c.in_ok-piece.ensures.text) c.in-Some.ensures.takes

pub returns-clause-place : goal.returns-clause-place
returns-clause-place c = subst (Comes c.in_ok-piece.piece) c.in-Some.ensures.begins c.in_ok-piece.ensures.place
