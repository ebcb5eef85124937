use Rattle.std.proofs.Common.{◌≡◌, ◌∙◌, false, refl, sym}
use Rattle.jsx_tree.specs.Grammar.{pun}
use Rattle.jsx_tree.specs.Reading.{Place, At, Lost, forth}
use Rattle.jsx_tree.specs.Walk.{is_found}
use Rattle.jsx_token.specs.Here.{place_of}
use Rattle.jsx_operand.proofs.cover.refuse_arrow.Goals as goal

unfound : (x : Place) → is_found x ≡ false → x ≡ Lost
unfound Lost h = refl
unfound (At q e text) h = cc

pub returns-clause-no_arrow : goal.returns-clause-no_arrow
returns-clause-no_arrow c = λ h. unfound (forth (pun "=>") (place_of c.args.lexer.now)) (sym c.is_before.ensures.ahead ∙ c.if-is_before.false)
