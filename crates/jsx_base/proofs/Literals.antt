-- Blanks, comments, numbers, strings, templates and JSX tokens (ECMA-262 section 12; JSX specification), computed.
use Rattle.std.specs.Prelude.{◌≡◌, [], ◌∷◌, codes, Bool, true, false, refl, ◌&&◌, ◌||◌}
use Prim.Native.String.{String}
use Rattle.jsx_base.specs.Token.{Text, Mode, TokenKind, is_kind, same, is_blank, breaks, is_token, token, is_end, Operand, Operator, Piece, Tag, Children, IdentifierName, Punctuator, NumericLiteral, BigIntLiteral, StringLiteral, RegExpLiteral, NoSubstitution, TemplateHead, TemplateMiddle, TemplateTail, JsxName, JsxString, JsxText, NoToken}

-- whether the text begins with a token of this kind, this raw text, and this rest
abbrev lexes_codes : Mode → Text → TokenKind → Text → Text → Bool
lexes_codes m text k raw rest = is_token (token m false text) k raw && same (token m false text).rest rest

abbrev lexes : Mode → String → TokenKind → String → String → Bool
lexes m text k raw rest = lexes_codes m (codes text) k (codes raw) (codes rest)

abbrev is_all : TokenKind → String → Bool
is_all k text = lexes Operator text k text ""

abbrev is_none : Mode → String → Bool
is_none m text = is_kind (token m false (codes text)).kind NoToken

-- blanks: TAB, VT, FF, U+00A0, U+FEFF, U+3000; U+180E and U+0085 are none
blanks : lexes_codes Operator (9 ∷ 11 ∷ 12 ∷ 160 ∷ 65279 ∷ 12288 ∷ 8202 ∷ 59 ∷ []) Punctuator (59 ∷ []) [] ≡ true
blanks = refl

blanks_break_no_line : breaks (9 ∷ 11 ∷ 12 ∷ 160 ∷ 65279 ∷ 59 ∷ []) ≡ false
blanks_break_no_line = refl

no_blank : is_blank 133 || is_blank 6158 || is_blank 8203 ≡ false
no_blank = refl

-- line ends: LF, CR, CR LF, U+2028 and U+2029; each ends a line comment
line_ends : breaks (13 ∷ 10 ∷ []) && (breaks (8232 ∷ []) && breaks (8233 ∷ [])) ≡ true
line_ends = refl

comment_ends_at_separator : lexes_codes Operator (47 ∷ 47 ∷ 97 ∷ 8232 ∷ 98 ∷ []) IdentifierName (98 ∷ []) [] ≡ true
comment_ends_at_separator = refl

-- a block comment runs to the first `*/`; one that holds a line end counts as one
comment_stars : lexes Operator "/**/a*/" IdentifierName "a" "*/" ≡ true
comment_stars = refl

comment_slash : is_none Operator "/*/" ≡ true
comment_slash = refl

comment_nested : lexes Operator "/* /* */ a" IdentifierName "a" "" ≡ true
comment_nested = refl

comment_breaks : breaks (codes "/* \n */a") ≡ true
comment_breaks = refl

comment_breaks_not : breaks (codes "/* */a") ≡ false
comment_breaks_not = refl

cut_is_no_end : is_end (codes " /* a") ≡ false
cut_is_no_end = refl

line_comment_at_end : is_end (codes "// a") ≡ true
line_comment_at_end = refl

-- `<!--` anywhere, `-->` with only blanks and comments before it on its line
open_comment : is_none Operand "<!--a" ≡ true
open_comment = refl

close_comment_first : is_kind (token Operator true (codes "/* a */ -->")).kind NoToken ≡ true
close_comment_first = refl

close_comment_block : is_none Operator " /*\n*/ -->" ≡ true
close_comment_block = refl

close_comment_behind : lexes Operator " /* a */ --> b" Punctuator "--" "> b" ≡ true
close_comment_behind = refl

tag_comment : lexes Children "<!--" Punctuator "<" "!--" ≡ true
tag_comment = refl

-- numbers
numbers : is_all NumericLiteral "0" && (is_all NumericLiteral "1." && (is_all NumericLiteral ".5" && (is_all NumericLiteral "0.5e+1_0" && (is_all NumericLiteral "1.e5" && (is_all NumericLiteral "0XfF" && (is_all NumericLiteral "0o17" && is_all NumericLiteral "0B1_0")))))) ≡ true
numbers = refl

big_numbers : is_all BigIntLiteral "0n" && (is_all BigIntLiteral "1_0n" && is_all BigIntLiteral "0b1n") ≡ true
big_numbers = refl

no_numbers : is_none Operator "00" && (is_none Operator "08.5" && (is_none Operator "0_1" && (is_none Operator "1__0" && (is_none Operator "1_.5" && (is_none Operator "1._5" && (is_none Operator "1.5n" && (is_none Operator "1e5n" && is_none Operator "0xG"))))))) ≡ true
no_numbers = refl

no_numbers_2 : is_none Operator "1e" && (is_none Operator "1e+" && (is_none Operator "0x_1" && (is_none Operator "0x1_" && (is_none Operator "0b12" && (is_none Operator "1a" && (is_none Operator "1$" && is_none Operator "0nn")))))) ≡ true
no_numbers_2 = refl

number_range : lexes Operator "1..a" NumericLiteral "1." ".a" ≡ true
number_range = refl

spread_of_number : lexes Operator "....5" Punctuator "..." ".5" ≡ true
spread_of_number = refl

-- strings
strings : is_all StringLiteral "'\\x41\\u0041\\u{0041}\\0\\a\\''" && is_all StringLiteral "\"'\\\n\"" ≡ true
strings = refl

no_strings : is_none Operator "'\\x4'" && (is_none Operator "'\\u004'" && (is_none Operator "'\\u{}'" && (is_none Operator "'\\u{110000}'" && (is_none Operator "'\\1'" && (is_none Operator "'\\08'" && (is_none Operator "'\\8'" && is_none Operator "'a")))))) ≡ true
no_strings = refl

-- U+2028 may stand in a string; CR LF behind a backslash is one line end
string_separator : lexes_codes Operator (39 ∷ 8232 ∷ 39 ∷ []) StringLiteral (39 ∷ 8232 ∷ 39 ∷ []) [] ≡ true
string_separator = refl

string_continued : lexes_codes Operator (39 ∷ 92 ∷ 13 ∷ 10 ∷ 39 ∷ []) StringLiteral (39 ∷ 92 ∷ 13 ∷ 10 ∷ 39 ∷ []) [] ≡ true
string_continued = refl

string_return : is_kind (token Operator false (39 ∷ 13 ∷ 39 ∷ [])).kind NoToken ≡ true
string_return = refl

-- regular expressions: a class hides `/`, no line end, also behind a backslash
regexes : lexes Operand "/a[/\\]]/$1 b" RegExpLiteral "/a[/\\]]/$1" " b" ≡ true
regexes = refl

no_regexes : is_none Operand "/a\n/" && (is_none Operand "/a\\\n/" && (is_none Operand "/[/" && is_none Operand "/a")) ≡ true
no_regexes = refl

regex_star : is_none Operand "/*/" ≡ true
regex_star = refl

regex_assign : lexes Operand "/=/" RegExpLiteral "/=/" "" ≡ true
regex_assign = refl

-- templates: nothing is skipped behind the `}`
template_whole : lexes Operator " `a\n$b\\${`c" NoSubstitution "`a\n$b\\${`" "c" ≡ true
template_whole = refl

template_dollars : lexes Operator "`$${a" TemplateHead "`$${" "a" ≡ true
template_dollars = refl

template_middle : lexes Piece "//${a" TemplateMiddle "//${" "a" ≡ true
template_middle = refl

template_tail_empty : lexes Piece "`a" TemplateTail "`" "a" ≡ true
template_tail_empty = refl

template_cut : is_none Operator "`a" && is_none Piece "a$" ≡ true
template_cut = refl

-- punctuators: the longest
longest_ones : lexes Operator ">>>==" Punctuator ">>>=" "=" && (lexes Operator "??=" Punctuator "??=" "" && (lexes Operator "**=a" Punctuator "**=" "a" && (lexes Operator "===>" Punctuator "===" ">" && lexes Operator "..a" Punctuator "." ".a"))) ≡ true
longest_ones = refl

optional_digit : lexes Operator "?.0" Punctuator "?" ".0" && lexes Operator "?..a" Punctuator "?." ".a" ≡ true
optional_digit = refl

no_code : is_none Operator "#a" && (is_none Operator "@a" && (is_none Operator "\\u0061" && is_none Operator "")) ≡ true
no_code = refl

-- tags: blanks and comments between the tokens, `-` in names, any character in strings
tag_name : lexes Tag " /* a */ // b\n c-d- e" JsxName "c-d-" " e" ≡ true
tag_name = refl

tag_name_dash : is_none Tag "-a" ≡ true
tag_name_dash = refl

tag_string : lexes Tag "'a\n\\'b" JsxString "'a\n\\'" "b" ≡ true
tag_string = refl

tag_string_cut : is_none Tag "'a" ≡ true
tag_string_cut = refl

tag_single : lexes Tag ">>=" Punctuator ">" ">=" && lexes Operand "<=a" Punctuator "<" "=a" ≡ true
tag_single = refl

-- children: all up to a brace or an angle bracket
text_run : lexes Children "\n a & b // {" JsxText "\n a & b // " "{" ≡ true
text_run = refl

text_none : is_none Children ">" && is_none Children "}" ≡ true
text_none = refl
