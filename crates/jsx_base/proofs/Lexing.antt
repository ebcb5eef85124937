-- Tokens, computed.
use Rattle.std.specs.Prelude.{◌≡◌, codes, Bool, true, false, refl, ◌&&◌}
use Prim.Native.String.{String}
use Rattle.jsx_base.specs.Token.{Mode, Operand, Operator, Piece, Tag, Children, TokenKind, IdentifierName, Punctuator, NumericLiteral, BigIntLiteral, StringLiteral, RegExpLiteral, TemplateHead, TemplateTail, JsxName, JsxText, NoToken, same}
use Rattle.jsx_base.specs.Token.{is_token, token}

abbrev lexes : Mode → String → TokenKind → String → String → Bool
lexes m text k raw rest = is_token (token m false (codes text)) k (codes raw) && same (token m false (codes text)).rest (codes rest)

t1 : lexes Operator "  /* a\n*/ // b\n foo+1" IdentifierName "foo" "+1" ≡ true
t1 = refl

t2 : lexes Operator "1_000.5e-1_0;" NumericLiteral "1_000.5e-1_0" ";" ≡ true
t2 = refl

t3 : lexes Operator "1_;" NoToken "" ";" ≡ true
t3 = refl

t4 : lexes Operator "0xFFn)" BigIntLiteral "0xFFn" ")" ≡ true
t4 = refl

t5 : lexes Operator "01" NoToken "" "1" ≡ true
t5 = refl

t6 : lexes Operator "'a\\u{10FFFF}\\x41'b" StringLiteral "'a\\u{10FFFF}\\x41'" "b" ≡ true
t6 = refl

t7 : lexes Operand "/[/]\\//gi.x" RegExpLiteral "/[/]\\//gi" ".x" ≡ true
t7 = refl

t8 : lexes Operator "/=/gi" Punctuator "/=" "/gi" ≡ true
t8 = refl

t9 : lexes Operator "`a$$\\`${b" TemplateHead "`a$$\\`${" "b" ≡ true
t9 = refl

t10 : lexes Piece " c`.d" TemplateTail " c`" ".d" ≡ true
t10 = refl

t11 : lexes Operator "?.5:1" Punctuator "?" ".5:1" ≡ true
t11 = refl

t12 : lexes Operator "?.a" Punctuator "?." "a" ≡ true
t12 = refl

t13 : lexes Operand "<<a" Punctuator "<" "<a" ≡ true
t13 = refl

t14 : lexes Operator ">>>=a" Punctuator ">>>=" "a" ≡ true
t14 = refl

t15 : lexes Tag "  data-x=\"" JsxName "data-x" "=\"" ≡ true
t15 = refl

t16 : lexes Children "  a // b\n<c" JsxText "  a // b\n" "<c" ≡ true
t16 = refl

t17 : lexes Operator "<!--" NoToken "" "<!--" ≡ true
t17 = refl

t18 : lexes Operator "\n/* */-->" NoToken "" "-->" ≡ true
t18 = refl

t19 : lexes Operator "-->" Punctuator "--" ">" ≡ true
t19 = refl

t20 : lexes Operator "3in x" NoToken "" "in x" ≡ true
t20 = refl

t21 : lexes Operator "1..x" NumericLiteral "1." ".x" ≡ true
t21 = refl

t22 : lexes Operator "/* open" NoToken "" "" ≡ true
t22 = refl

t23 : lexes Operator "'a\nb'" NoToken "" "\nb'" ≡ true
t23 = refl
