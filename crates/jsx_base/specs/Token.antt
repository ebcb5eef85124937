-- The tokens of a text, in each mode (ECMA-262 section 12, lexical grammar; JSX specification, names, strings and text). Each kind of token is an automaton that takes as many characters as it can.
use Rattle.std.specs.Prelude.{ℕ, zero, suc, ◌+◌, ◌*◌, ◌-◌, List, [], ◌∷◌, codes, Bool, true, false, cond, not, nat_eq, nat_le, ◌&&◌, ◌||◌}
use Rattle.std.specs.Char.{is_ascii_digit, is_ascii_alphabetic}
use Rattle.unicode_ident.specs.Ident.{is_xid_start, is_xid_continue}

-- a text is the list of its characters' code points
abbrev pub Text : Type 0
Text = List ℕ

-- What is read: code where an expression may begin (`/` begins a regular expression, `<` an element), code elsewhere (`/` divides, `<` compares), a template behind the `}` of a substitution, a JSX tag, and what stands between JSX tags.
pub data Mode : Type 0 where
  Operand : Mode
  Operator : Mode
  Piece : Mode
  Tag : Mode
  Children : Mode

-- The kinds of token. `Elision` is an array's place with nothing in it, which has no characters, and `NoToken` is where no token begins.
pub data TokenKind : Type 0 where
  IdentifierName : TokenKind
  Punctuator : TokenKind
  NumericLiteral : TokenKind
  BigIntLiteral : TokenKind
  StringLiteral : TokenKind
  RegExpLiteral : TokenKind
  NoSubstitution : TokenKind
  TemplateHead : TokenKind
  TemplateMiddle : TokenKind
  TemplateTail : TokenKind
  JsxName : TokenKind
  JsxString : TokenKind
  JsxText : TokenKind
  Elision : TokenKind
  NoToken : TokenKind

abbrev pub kind_number : TokenKind → ℕ
kind_number IdentifierName = 0
kind_number Punctuator = 1
kind_number NumericLiteral = 2
kind_number BigIntLiteral = 3
kind_number StringLiteral = 4
kind_number RegExpLiteral = 5
kind_number NoSubstitution = 6
kind_number TemplateHead = 7
kind_number TemplateMiddle = 8
kind_number TemplateTail = 9
kind_number JsxName = 10
kind_number JsxString = 11
kind_number JsxText = 12
kind_number Elision = 13
kind_number NoToken = 14

abbrev pub is_kind : TokenKind → TokenKind → Bool
is_kind k l = nat_eq (kind_number k) (kind_number l)

abbrev pub same : Text → Text → Bool
same [] [] = true
same [] (c ∷ t) = false
same (b ∷ s) [] = false
same (b ∷ s) (c ∷ t) = nat_eq b c && same s t

abbrev pub among : Text → List Text → Bool
among t [] = false
among t (u ∷ us) = same t u || among t us

-- characters; line ends are ECMA-262 section 12.3

abbrev pub is_line_end : ℕ → Bool
is_line_end c = nat_eq c 10 || nat_eq c 13 || nat_eq c 8232 || nat_eq c 8233

abbrev pub is_one_of : ℕ → List ℕ → Bool
is_one_of c [] = false
is_one_of c (d ∷ ds) = nat_eq c d || is_one_of c ds

-- white space (ECMA-262 section 12.2): TAB, VT, FF, U+FEFF and the category Zs
abbrev pub is_blank : ℕ → Bool
is_blank c = is_one_of c (32 ∷ 9 ∷ 11 ∷ 12 ∷ 160 ∷ 5760 ∷ 8239 ∷ 8287 ∷ 12288 ∷ 65279 ∷ []) || (nat_le 8192 c && nat_le c 8202)

-- the first character of a name and a later one (ECMA-262 section 12.7), where ASCII is decided without the tables of Unicode
abbrev pub is_start : ℕ → Bool
is_start c = is_ascii_alphabetic c || is_one_of c (36 ∷ 95 ∷ []) || (nat_le 128 c && is_xid_start c)

abbrev pub is_part : ℕ → Bool
is_part c = is_ascii_alphabetic c || is_ascii_digit c || is_one_of c (36 ∷ 95 ∷ 8204 ∷ 8205 ∷ []) || (nat_le 128 c && is_xid_continue c)

abbrev pub is_digit : ℕ → Bool
is_digit c = is_ascii_digit c

abbrev pub is_hex : ℕ → Bool
is_hex c = is_ascii_digit c || (nat_le 65 c && nat_le c 70) || (nat_le 97 c && nat_le c 102)

abbrev pub hex_value : ℕ → ℕ
hex_value c = cond (is_ascii_digit c) (c - 48) (cond (nat_le 97 c) (c - 87) (c - 55))

-- whether the text begins so
abbrev pub begins : Text → Text → Bool
begins [] text = true
begins (b ∷ bs) [] = false
begins (b ∷ bs) (c ∷ text) = nat_eq b c && begins bs text

abbrev pub first_is : (ℕ → Bool) → Text → Bool
first_is q [] = false
first_is q (c ∷ text) = q c

-- the gap before a token: blanks, line ends and comments (ECMA-262 sections 12.2 to 12.4)

pub data Gap : Type 0 where
  Blank : Gap
  -- a comment to the line's end; a block comment, its first two characters still to come or its last one
  InLineComment : Gap
  Opening : ℕ → Gap
  InBlockComment : Gap
  Closing : Gap
  BehindGap : Gap

abbrev pub gap_after_blank : ℕ → Text → Gap
gap_after_blank c text =
    cond (is_blank c || is_line_end c) Blank
    (cond (begins (codes "//") (c ∷ text)) InLineComment
    (cond (begins (codes "/*") (c ∷ text)) (Opening 1) BehindGap))

-- what the gap is behind this character, which is its own only where it isn't over
abbrev pub gap_next : Gap → ℕ → Text → Gap
gap_next Blank c text = gap_after_blank c text
gap_next InLineComment c text = cond (is_line_end c) Blank InLineComment
gap_next (Opening zero) c text = cond (begins (codes "*/") (c ∷ text)) Closing InBlockComment
gap_next (Opening (suc n)) c text = Opening n
gap_next InBlockComment c text = cond (begins (codes "*/") (c ∷ text)) Closing InBlockComment
gap_next Closing c text = Blank
gap_next BehindGap c text = BehindGap

abbrev pub is_over : Gap → Bool
is_over BehindGap = true
is_over g = false

-- the text behind the gap, and whether a line ends in it: a block comment that holds a line end counts as one
abbrev pub behind_gap : Gap → Text → Text
behind_gap g [] = []
behind_gap g (c ∷ text) = cond (is_over (gap_next g c text)) (c ∷ text) (behind_gap (gap_next g c text) text)

abbrev pub breaks_in : Gap → Text → Bool
breaks_in g [] = false
breaks_in g (c ∷ text) = not (is_over (gap_next g c text)) && (is_line_end c || breaks_in (gap_next g c text) text)

-- a block comment that isn't closed
abbrev pub is_cut : Gap → Text → Bool
is_cut (Opening n) [] = true
is_cut InBlockComment [] = true
is_cut Closing [] = true
is_cut g [] = false
is_cut g (c ∷ text) = is_cut (gap_next g c text) text

abbrev pub skip : Text → Text
skip text = behind_gap Blank text

abbrev pub breaks : Text → Bool
breaks text = breaks_in Blank text

-- automata: what a token is still to be, from a state on

pub data Base : Type 0 where
  Hexadecimal : Base
  Octal : Base
  BinaryDigits : Base

pub data State : Type 0 where
  -- `Dead`: it can't be a token. `Done`: it is one of this kind and takes nothing more
  Dead : State
  Done : TokenKind → State
  InName : State
  -- numbers (ECMA-262 section 12.9.3): a leading 0, an integer, the fraction, the exponent, digits of a base; `false` where a digit must follow, as behind `1_`
  BehindZero : State
  InDigits : Bool → State
  BehindPoint : State
  InFraction : Bool → State
  BehindE : State
  BehindSign : State
  InExponent : Bool → State
  InBase : Base → Bool → State
  BehindN : State
  -- a string between quotes of this kind (ECMA-262 section 12.9.4): its body, behind a backslash, n hex digits to come, behind `\u`, the braces' digits with their value so far, behind `\0`, behind `\` CR
  InString : ℕ → State
  InEscape : ℕ → State
  InHex : ℕ → ℕ → State
  InUnicode : ℕ → State
  InBraces : ℕ → Bool → ℕ → State
  BehindNul : ℕ → State
  BehindCr : ℕ → State
  -- a regular expression (ECMA-262 section 12.9.5): at its first character, its body, in a class, behind a backslash in or outside a class, its flags
  AtRegExp : State
  InRegExp : Bool → State
  InRegExpEscape : Bool → State
  InFlags : State
  -- a template's piece (ECMA-262 section 12.9.6), with the kind that it has if it ends with a backquote and if it ends with `${`
  InPiece : TokenKind → TokenKind → State
  InPieceEscape : TokenKind → TokenKind → State
  BehindDollar : TokenKind → TokenKind → State
  InJsxName : State
  InJsxString : ℕ → State
  InJsxText : State

-- the state behind a digit, or behind a `_` where one may stand
abbrev pub digit_step : (Bool → State) → Bool → ℕ → State → State
digit_step s more c other = cond (is_digit c) (s true) (cond (more && nat_eq c 95) (s false) other)

abbrev pub is_base_digit : Base → ℕ → Bool
is_base_digit Hexadecimal c = is_hex c
is_base_digit Octal c = nat_le 48 c && nat_le c 55
is_base_digit BinaryDigits c = nat_le 48 c && nat_le c 49

-- behind a backslash: `\0` is an escape, `\1` to `\9` are none
abbrev pub escape : ℕ → ℕ → State
escape q c =
    cond (nat_eq c 120) (InHex q 2) (cond (nat_eq c 117) (InUnicode q) (cond (nat_eq c 48) (BehindNul q) (cond (is_digit c) Dead (cond (nat_eq c 13) (BehindCr q) (InString q)))))

abbrev pub in_string : ℕ → ℕ → State
in_string q c = cond (nat_eq c q) (Done StringLiteral) (cond (nat_eq c 92) (InEscape q) (cond (nat_eq c 10 || nat_eq c 13) Dead (InString q)))

abbrev pub in_piece : TokenKind → TokenKind → ℕ → State
in_piece a b c = cond (nat_eq c 96) (Done a) (cond (nat_eq c 92) (InPieceEscape a b) (cond (nat_eq c 36) (BehindDollar a b) (InPiece a b)))

abbrev pub is_letter : ℕ → ℕ → Bool
is_letter lower c = nat_eq c lower || nat_eq (c + 32) lower

-- behind a leading 0: neither a digit nor `_` follows
abbrev pub behind_zero : ℕ → State
behind_zero c =
    cond (nat_eq c 46) BehindPoint (cond (is_letter 101 c) BehindE (cond (nat_eq c 110) BehindN
    (cond (is_letter 120 c) (InBase Hexadecimal false) (cond (is_letter 111 c) (InBase Octal false) (cond (is_letter 98 c) (InBase BinaryDigits false) Dead)))))

abbrev pub regex_step : Bool → ℕ → State
regex_step b c =
    cond (is_line_end c) Dead (cond (nat_eq c 92) (InRegExpEscape b) (cond (nat_eq c 91) (InRegExp true) (cond (nat_eq c 93) (InRegExp false)
    (cond (nat_eq c 47 && not b) InFlags (InRegExp b)))))

-- `Dead` where the token doesn't take the character
abbrev pub step : State → ℕ → State
step Dead c = Dead
step (Done s) c = Dead
step InName c = cond (is_part c) InName Dead
step BehindZero c = behind_zero c
step (InDigits b) c = digit_step InDigits b c (cond b (cond (nat_eq c 46) BehindPoint (cond (is_letter 101 c) BehindE (cond (nat_eq c 110) BehindN Dead))) Dead)
step BehindPoint c = digit_step InFraction false c (cond (is_letter 101 c) BehindE Dead)
step (InFraction b) c = digit_step InFraction b c (cond (b && is_letter 101 c) BehindE Dead)
step BehindE c = digit_step InExponent false c (cond (nat_eq c 43 || nat_eq c 45) BehindSign Dead)
step BehindSign c = digit_step InExponent false c Dead
step (InExponent b) c = digit_step InExponent b c Dead
step (InBase d b) c = cond (is_base_digit d c) (InBase d true) (cond (b && nat_eq c 95) (InBase d false) (cond (b && nat_eq c 110) BehindN Dead))
step BehindN c = Dead
step (InString q) c = in_string q c
step (InEscape q) c = escape q c
step (InHex q zero) c = Dead
step (InHex q (suc zero)) c = cond (is_hex c) (InString q) Dead
step (InHex q (suc (suc n))) c = cond (is_hex c) (InHex q (suc n)) Dead
step (InUnicode q) c = cond (is_hex c) (InHex q 3) (cond (nat_eq c 123) (InBraces q false 0) Dead)
step (InBraces q b v) c = cond (is_hex c && nat_le (v * 16 + hex_value c) 1114111) (InBraces q true (v * 16 + hex_value c)) (cond (b && nat_eq c 125) (InString q) Dead)
step (BehindNul q) c = cond (is_digit c) Dead (in_string q c)
step (BehindCr q) c = cond (nat_eq c 10) (InString q) (in_string q c)
step AtRegExp c = cond (nat_eq c 47 || nat_eq c 42) Dead (regex_step false c)
step (InRegExp b) c = regex_step b c
step (InRegExpEscape b) c = cond (is_line_end c) Dead (InRegExp b)
step InFlags c = cond (is_part c) InFlags Dead
step (InPiece a b) c = in_piece a b c
step (InPieceEscape a b) c = InPiece a b
step (BehindDollar a b) c = cond (nat_eq c 123) (Done b) (in_piece a b c)
step InJsxName c = cond (is_part c || nat_eq c 45) InJsxName Dead
step (InJsxString q) c = cond (nat_eq c q) (Done JsxString) (InJsxString q)
step InJsxText c = cond (is_one_of c (codes "{}<>")) Dead InJsxText

-- the token that is complete in a state
abbrev pub accepts : State → TokenKind
accepts (Done s) = s
accepts InName = IdentifierName
accepts BehindZero = NumericLiteral
accepts (InDigits true) = NumericLiteral
accepts BehindPoint = NumericLiteral
accepts (InFraction true) = NumericLiteral
accepts (InExponent true) = NumericLiteral
accepts (InBase d true) = NumericLiteral
accepts BehindN = BigIntLiteral
accepts InFlags = RegExpLiteral
accepts InJsxName = JsxName
accepts InJsxText = JsxText
accepts s = NoToken

abbrev pub is_dead : State → Bool
is_dead Dead = true
is_dead s = false

-- what a token takes of the text from a state on, the text behind it, and its last state
abbrev pub taken : State → Text → Text
taken s [] = []
taken s (c ∷ text) = cond (is_dead (step s c)) [] (c ∷ taken (step s c) text)

abbrev pub left : State → Text → Text
left s [] = []
left s (c ∷ text) = cond (is_dead (step s c)) (c ∷ text) (left (step s c) text)

abbrev pub last_state : State → Text → State
last_state s [] = s
last_state s (c ∷ text) = cond (is_dead (step s c)) s (last_state (step s c) text)

-- punctuators (ECMA-262 section 12.8)

abbrev pub punctuators : List Text
punctuators =
    codes "{" ∷ codes "}" ∷ codes "(" ∷ codes ")" ∷ codes "[" ∷ codes "]" ∷ codes ";" ∷ codes "," ∷ codes "<" ∷ codes ">" ∷ codes "<=" ∷ codes ">=" ∷ codes "==" ∷ codes "!=" ∷ codes "===" ∷ codes "!==" ∷ codes "+" ∷ codes "-" ∷ codes "*" ∷ codes "/" ∷ codes "%" ∷ codes "**" ∷ codes "++" ∷ codes "--" ∷ codes "<<" ∷ codes ">>" ∷ codes ">>>" ∷ codes "&" ∷ codes "|" ∷ codes "^" ∷ codes "!" ∷ codes "~" ∷ codes "&&" ∷ codes "||" ∷ codes "??" ∷ codes "?" ∷ codes "?." ∷ codes ":" ∷ codes "=" ∷ codes "+=" ∷ codes "-=" ∷ codes "*=" ∷ codes "/=" ∷ codes "%=" ∷ codes "**=" ∷ codes "<<=" ∷ codes ">>=" ∷ codes ">>>=" ∷ codes "&=" ∷ codes "|=" ∷ codes "^=" ∷ codes "&&=" ∷ codes "||=" ∷ codes "??=" ∷ codes "=>" ∷ codes "." ∷ codes "..." ∷ []

abbrev pub is_longer : Text → Text → Bool
is_longer [] u = false
is_longer (c ∷ t) [] = true
is_longer (c ∷ t) (d ∷ u) = is_longer t u

abbrev pub longer : Text → Text → Text
longer t u = cond (is_longer t u) t u

-- the longest that the text begins with
abbrev pub longest : List Text → Text → Text
longest [] text = []
longest (q ∷ qs) text = longer (cond (begins q text) q []) (longest qs text)

abbrev pub drop_as : Text → Text → Text
drop_as [] text = text
drop_as (b ∷ bs) [] = []
drop_as (b ∷ bs) (c ∷ text) = drop_as bs text

-- `?.` before a digit is `?` and `.`
abbrev pub punctuator : Text → Text
punctuator text = cond (begins (codes "?.") text && first_is is_digit (drop_as (codes "?.") text)) (codes "?") (longest punctuators text)

-- the state behind a token's first character, `Dead` for a punctuator of code
abbrev pub code_state : Bool → ℕ → Text → State
code_state operand c text =
    cond (is_start c) InName (cond (nat_eq c 48) BehindZero (cond (is_digit c) (InDigits true) (cond (nat_eq c 46 && first_is is_digit text) (InFraction false)
    (cond (nat_eq c 34 || nat_eq c 39) (InString c) (cond (nat_eq c 96) (InPiece NoSubstitution TemplateHead) (cond (operand && nat_eq c 47) AtRegExp (cond (operand && nat_eq c 60) (Done Punctuator) Dead)))))))

abbrev pub state : Mode → ℕ → Text → State
state Operand c text = code_state true c text
state Operator c text = code_state false c text
state Piece c text = in_piece TemplateTail TemplateMiddle c
state Tag c text = cond (is_start c) InJsxName (cond (nat_eq c 34 || nat_eq c 39) (InJsxString c) (cond (is_one_of c (codes "<>/=:.{")) (Done Punctuator) Dead))
state Children c text = cond (is_one_of c (codes "{<")) (Done Punctuator) (cond (is_one_of c (codes "}>")) Dead InJsxText)

abbrev pub is_code : Mode → Bool
is_code Operand = true
is_code Operator = true
is_code _ = false

pub record Lexeme : Type 0 where
  pub kind : TokenKind
  pub raw : Text
  pub rest : Text

-- whether it is the token of this kind with this raw text
abbrev pub is_token : Lexeme → TokenKind → Text → Bool
is_token x k t = is_kind x.kind k && same x.raw t

abbrev pub no_token : Text → Lexeme
no_token text = record { kind = NoToken; raw = []; rest = text }

-- a token but for what may not follow it: no name and no digit stands directly behind a number, `3in x`
abbrev pub ended : TokenKind → Text → Text → Lexeme
ended NoToken raw rest = no_token rest
ended NumericLiteral raw rest = cond (first_is is_start rest || first_is is_digit rest) (no_token rest) (record { kind = NumericLiteral; raw = raw; rest = rest })
ended BigIntLiteral raw rest = cond (first_is is_start rest || first_is is_digit rest) (no_token rest) (record { kind = BigIntLiteral; raw = raw; rest = rest })
ended s raw rest = record { kind = s; raw = raw; rest = rest }

abbrev pub punct : Text → Text → Lexeme
punct [] text = no_token text
punct (c ∷ q) text = record { kind = Punctuator; raw = c ∷ q; rest = drop_as (c ∷ q) text }

abbrev pub lexed : Mode → State → ℕ → Text → Lexeme
lexed m Dead c text = cond (is_code m) (punct (punctuator (c ∷ text)) (c ∷ text)) (no_token (c ∷ text))
lexed m s c text = ended (accepts (last_state s text)) (c ∷ taken s text) (left s text)

-- the token at the front of a text, and the text behind it; `fresh` where only blanks and comments stand before it on its line. HTML-like comments (ECMA-262 section B.1.1) are no tokens.
abbrev pub at_front : Mode → Bool → Text → Lexeme
at_front m fresh [] = no_token []
at_front m fresh (c ∷ text) =
    cond (is_code m && (begins (codes "<!--") (c ∷ text) || (fresh && begins (codes "-->") (c ∷ text)))) (no_token (c ∷ text)) (lexed m (state m c text) c text)

abbrev pub skips : Mode → Bool
skips Piece = false
skips Children = false
skips _ = true

-- the next token of a text, where `first` says that nothing was read before
abbrev pub token : Mode → Bool → Text → Lexeme
token m first text = cond (skips m) (at_front m (first || breaks text) (skip text)) (at_front m false text)

-- the end of the text: nothing but blanks, line ends and whole comments
abbrev pub is_end : Text → Bool
is_end text = same (skip text) [] && not (is_cut Blank text)
