-- The automata, as the code runs them.
use Rattle.std.specs.Prelude.{ℕ, Bool, cond, ◌||◌, ◌&&◌, true, false}
use Rattle.jsx_base.specs.Token.{Base as Digits, Hexadecimal, Octal, BinaryDigits, State as Taken, Dead, Done, StringLiteral, BehindZero, InDigits, BehindPoint, InFraction, BehindE, BehindSign, InExponent, InBase, BehindN, InString, InEscape, InHex, InUnicode, InBraces, BehindNul, BehindCr, AtRegExp, InRegExp, InRegExpEscape, InFlags, InPiece, InPieceEscape, BehindDollar, TokenKind, NoSubstitution, TemplateHead, TemplateMiddle, TemplateTail, digit_step, is_letter}
use Rattle.jsx_lex.specs.declared.automaton.Base.{Base}
use Rattle.jsx_lex.specs.declared.automaton.Base.TheVariants as base
use Rattle.jsx_lex.specs.declared.automaton.Number.{Number}
use Rattle.jsx_lex.specs.declared.automaton.Number.TheVariants as number
use Rattle.jsx_lex.specs.declared.automaton.Quoted.{Quoted}
use Rattle.jsx_lex.specs.declared.automaton.Quoted.TheVariants as quoted
use Rattle.jsx_lex.specs.declared.automaton.RegExp.{RegExp}
use Rattle.jsx_lex.specs.declared.automaton.RegExp.TheVariants as regexp
use Rattle.jsx_lex.specs.declared.automaton.Template.{Template}
use Rattle.jsx_lex.specs.declared.automaton.Template.TheVariants as template
use Rattle.jsx_lex.specs.declared.automaton.State.{State}
use Rattle.jsx_lex.specs.declared.automaton.State.TheVariants as state

abbrev pub base_of : Base → Digits
base_of base.Hexadecimal = Hexadecimal
base_of base.Octal = Octal
base_of base.Binary = BinaryDigits

abbrev pub number_state : Number → Taken
number_state number.BehindZero = BehindZero
number_state (number.InDigits b) = InDigits b
number_state number.BehindPoint = BehindPoint
number_state (number.InFraction b) = InFraction b
number_state number.BehindE = BehindE
number_state number.BehindSign = BehindSign
number_state (number.InExponent b) = InExponent b
number_state (number.InBase d b) = InBase (base_of d) b
number_state number.BehindN = BehindN

abbrev pub quoted_state : ℕ → Quoted → Taken
quoted_state q quoted.InBody = InString q
quoted_state q quoted.InEscape = InEscape q
quoted_state q (quoted.InHex n) = InHex q n
quoted_state q quoted.InUnicode = InUnicode q
quoted_state q (quoted.InBraces b v) = InBraces q b v
quoted_state q quoted.BehindNul = BehindNul q
quoted_state q quoted.BehindCr = BehindCr q
quoted_state q quoted.Closed = Done StringLiteral

abbrev pub regexp_state : RegExp → Taken
regexp_state regexp.AtStart = AtRegExp
regexp_state (regexp.InBody b) = InRegExp b
regexp_state (regexp.InEscape b) = InRegExpEscape b
regexp_state regexp.InFlags = InFlags

-- the kinds of a template's piece that ends with a backquote, and with `${`; the flag says whether it is the first piece
abbrev pub closed_kind : Bool → TokenKind
closed_kind true = NoSubstitution
closed_kind false = TemplateTail

abbrev pub open_kind : Bool → TokenKind
open_kind true = TemplateHead
open_kind false = TemplateMiddle

abbrev pub template_state : Bool → Template → Taken
template_state b template.InBody = InPiece (closed_kind b) (open_kind b)
template_state b template.InEscape = InPieceEscape (closed_kind b) (open_kind b)
template_state b template.BehindDollar = BehindDollar (closed_kind b) (open_kind b)
template_state b template.Closed = Done (closed_kind b)
template_state b template.Substituted = Done (open_kind b)

abbrev pub state_of : State → Taken
state_of state.Dead = Dead
state_of (state.Number n) = number_state n
state_of (state.Quoted q s) = quoted_state q s
state_of (state.RegExp r) = regexp_state r
state_of (state.Template b t) = template_state b t

-- behind a digit of the fraction or not, and before its first
abbrev pub in_fraction : Bool → Bool → ℕ → Taken
in_fraction is_digit is_first c = digit_step InFraction is_digit c (cond ((is_digit || is_first) && is_letter 101 c) BehindE Dead)

-- a token that takes nothing more
abbrev pub is_done : Taken → Bool
is_done (Done k) = true
is_done s = false
