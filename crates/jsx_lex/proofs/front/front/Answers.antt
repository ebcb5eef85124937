use Rattle.std.proofs.Common.{◌≡◌, sym, subst, MatchOption}
use Rattle.std.specs.Str.{chars}
use Rattle.jsx_base.specs.Token.{NoToken, at_front}
use Rattle.jsx_lex.specs.Front.{IsFound}
use Rattle.jsx_lex.specs.Kinds.{mode_of}
use Rattle.jsx_lex.proofs.Endings.{ends_with_all, ends_behind}
use Rattle.jsx_lex.proofs.FrontLaws.{ends_further, piece_is}
use Rattle.jsx_lex.proofs.front.front.Goals as goal

pub returns-in-Operand-clause-ends : goal.returns-in-Operand-clause-ends
returns-in-Operand-clause-ends c = ends_further _ _ _ (ends_behind _ _ _ _ (ends_with_all _) c.in-Some.ensures) c.code.ensures.ends

pub returns-in-Operator-clause-ends : goal.returns-in-Operator-clause-ends
returns-in-Operator-clause-ends c = ends_further _ _ _ (ends_behind _ _ _ _ (ends_with_all _) c.in-Some.ensures) c.code-in-Operator.ensures.ends

pub returns-in-Tag-clause-ends : goal.returns-in-Tag-clause-ends
returns-in-Tag-clause-ends c = ends_further _ _ _ (ends_behind _ _ _ _ (ends_with_all _) c.in-Some.ensures) c.tag.ensures.ends

pub returns-in-Children-clause-ends : goal.returns-in-Children-clause-ends
returns-in-Children-clause-ends c = ends_further _ _ _ (ends_behind _ _ _ _ (ends_with_all _) c.in-Some.ensures) c.children.ensures.ends

pub returns-in-Piece-clause-token : goal.returns-in-Piece-clause-token
returns-in-Piece-clause-token c =
    let r = c.template.result in
    let text = chars c.args.text.now in
    subst (λ m. MatchOption r ((at_front (mode_of m) c.args.is_fresh text).kind ≡ NoToken) (λ x. IsFound (at_front (mode_of m) c.args.is_fresh text) x.kind (chars x.rest.now))) (sym c.in-Piece.is)
    (piece_is c.args.is_fresh text c.in-Some.c _ r c.in-Some.ensures.chars_are c.template.ensures.token)
