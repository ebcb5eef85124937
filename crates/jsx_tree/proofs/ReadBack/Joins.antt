-- Which lists of signs read back what they lay: what each sign asks of what comes next.
use Rattle.std.specs.Prelude.{ℕ, List, [], ◌∷◌, ◌++◌, codes, Bool, true, false, cond, not, ◌&&◌, ◌||◌, nat_eq}
use Rattle.jsx_base.specs.Token.{Text, Mode, Operand, Operator, Piece, TokenKind, IdentifierName, Punctuator, NumericLiteral, BigIntLiteral, StringLiteral, RegExpLiteral, NoSubstitution, TemplateHead, TemplateMiddle, TemplateTail, JsxName, JsxString, JsxText, Elision, NoToken, among, same, is_one_of, is_start, is_part, is_digit, is_base_digit, Hexadecimal, Octal, BinaryDigits, punctuators, skips, first_is}
use Rattle.jsx_tree.specs.Signs.{Sign, Tok, Semicolon, TrailingComma, Unless, SameLine, Space, Pad, Line, Outdent, Apart}
use Rattle.jsx_tree.specs.Spelling.{mode_of}
use Rattle.jsx_tree.specs.Form.{is_leaf}
use Rattle.jsx_tree.specs.Layout.{last, first_char}
use Rattle.jsx_base.specs.Longer.{extends, all_begin}

-- the next token behind a place
pub data Next : Type 0 where
  Nothing : Next
  Semi : Next
  Token : Mode → TokenKind → Text → Next

-- what comes next, whether something is laid before it for sure, or nothing for sure, whether a line may end there and whether one may not, and a blank where two tokens would join
pub record Ahead : Type 0 where
  pub next : Next
  pub sure : Bool
  pub void : Bool
  pub line : Bool
  pub same_line : Bool
  pub apart : Bool

abbrev pub at_once : Next → Ahead
at_once x = record { next = x; sure = false; void = true; line = false; same_line = false; apart = false }

abbrev pub sign_ahead : Sign → Ahead → Ahead
sign_ahead (Tok m s t) v = at_once (Token m s t)
sign_ahead Semicolon v = at_once Semi
sign_ahead Space v = record v { sure = true; void = false }
sign_ahead Pad v = record v { void = false }
sign_ahead Line v = record v { sure = true; void = false; line = true }
sign_ahead Outdent v = record v { void = false; line = true }
sign_ahead Apart v = record v { void = false; apart = true }
sign_ahead SameLine v = record v { same_line = true }
sign_ahead m v = v

-- what comes next at the front of a list of signs, v what comes behind it
abbrev pub ahead : List Sign → Ahead → Ahead
ahead [] v = v
ahead (m ∷ ms) v = sign_ahead m (ahead ms v)

-- the characters by which a punctuator goes on to something else
abbrev pub heads_of : List Text → Text
heads_of [] = []
heads_of ([] ∷ es) = heads_of es
heads_of ((d ∷ e) ∷ es) = d ∷ heads_of es

abbrev pub other_chars : Text → Text
other_chars t = cond (same t (codes "<")) (codes "!") (cond (same t (codes "--")) (codes ">") (cond (same t (codes "/")) (codes "/*") []))

abbrev pub goes_on : Text → Text
goes_on t = heads_of (extends punctuators t) ++ other_chars t

-- the two before which no digit stands
abbrev pub is_pointed : Text → Bool
is_pointed t = same t (codes ".") || same t (codes "?.")

-- whether a text behind t doesn't make it begin with q, unless by one of these characters
abbrev pub safe : Text → Text → Text → Bool
safe [] t ds = false
safe (b ∷ q) [] ds = is_one_of b ds
safe (b ∷ q) (c ∷ t) ds = not (nat_eq b c) || safe q t ds

-- what a punctuator begins with
abbrev pub mark_chars : Text
mark_chars = codes "{}()[];,<>=!+-*/%&|^~?:."

abbrev pub tail_of : Text → Text
tail_of [] = []
tail_of (c ∷ t) = t

-- in the table, and no comment, no `?.` before a digit and no number, with whatever may follow
abbrev pub in_table : Text → Bool
in_table t = first_is (λ c. is_one_of c mark_chars) t && (among t punctuators && all_begin (extends punctuators t) (goes_on t))

abbrev pub no_gap : Text → Bool
no_gap t = not (is_one_of 32 (goes_on t)) && (not (is_one_of 10 (goes_on t)) && (same t (codes "/") || not (is_one_of 47 (goes_on t))))

abbrev pub no_html : Text → Bool
no_html t = safe (codes "<!--") t (goes_on t) && safe (codes "-->") t (goes_on t)

abbrev pub no_comment : Text → Bool
no_comment t = safe (codes "//") t (goes_on t) && safe (codes "/*") t (goes_on t)

abbrev pub no_question : Text → Bool
no_question t = safe (codes "?.") t (goes_on t) || same t (codes "?.")

abbrev pub no_number : Text → Bool
no_number t = not (first_is (nat_eq 46) t) || (is_pointed t || first_is (nat_eq 46) (tail_of t))

abbrev pub is_mark : Text → Bool
is_mark t = in_table t && (no_html t && (no_comment t && (no_question t && (no_number t && no_gap t))))

-- whether the character may stand directly behind the token
abbrev pub follows : TokenKind → Text → ℕ → Bool
follows IdentifierName t d = not (is_part d)
follows RegExpLiteral t d = not (is_part d)
follows NumericLiteral t d = not (is_part d) && (not (is_start d) && (not (nat_eq d 46) && (not (is_digit d) && (not (is_base_digit Hexadecimal d) && (not (is_base_digit Octal d) && not (is_base_digit BinaryDigits d))))))
follows BigIntLiteral t d = not (is_start d) && not (is_digit d)
follows Punctuator t d = not (is_one_of d (goes_on t)) && not (is_pointed t && is_digit d)
follows StringLiteral t d = true
follows NoSubstitution t d = true
follows TemplateHead t d = true
follows TemplateMiddle t d = true
follows TemplateTail t d = true
follows s t d = false

abbrev pub is_mode : Mode → Mode → Bool
is_mode Operand Operand = true
is_mode Operator Operator = true
is_mode Piece Piece = true
is_mode _ _ = false

-- a token that is read alone
abbrev pub stands : Mode → TokenKind → Text → Bool
stands m Punctuator t = is_mode m Operator && is_mark t
stands m Elision t = false
stands m NoToken t = false
stands m JsxName t = false
stands m JsxString t = false
stands m JsxText t = false
stands m s t = is_mode m (mode_of s) && is_leaf s t

abbrev pub skips_next : Next → Bool
skips_next (Token m s t) = skips m
skips_next x = true

-- blanks and line ends, as the layout writes them
abbrev pub pad : Text → Bool
pad [] = true
pad (c ∷ g) = (nat_eq c 32 || nat_eq c 10) && pad g

abbrev pub has_line : Text → Bool
has_line [] = false
has_line (c ∷ g) = nat_eq c 10 || has_line g

-- what may stand before it, where g stands already: nothing before what skips nothing, no line end where none may
abbrev pub open_gap : Text → Ahead → Bool
open_gap g v = pad g && (not (v.same_line && (has_line g || v.line)) && (skips_next v.next || (same g [] && v.void)))

abbrev pub gap_good : Ahead → Bool
gap_good v = open_gap [] v

-- whether what is laid begins so, q the token before
abbrev pub next_ok : (ℕ → Bool) → Text → Bool → Next → Bool
next_ok p q a Nothing = true
next_ok p q a Semi = p 59
next_ok p q a (Token m k u) = (a && nat_eq (last q) (first_char u)) || p (first_char u)

abbrev pub head_ok : (ℕ → Bool) → Text → Ahead → Bool
head_ok p q v = v.sure || next_ok p q v.apart v.next

abbrev pub joint : TokenKind → Text → Ahead → Bool
joint s t v = head_ok (follows s t) t v

-- whether what comes next is none of these texts
abbrev pub no_slash : List Text → Bool
no_slash [] = true
no_slash ([] ∷ ts) = false
no_slash ((c ∷ t) ∷ ts) = not (nat_eq c 47) && no_slash ts

abbrev pub is_none_of : Next → List Text → Bool
is_none_of Nothing ts = no_slash ts
is_none_of Semi ts = not (among (codes ";") ts)
is_none_of (Token Operator s t) ts = not (among t ts)
is_none_of (Token Operand s t) ts = no_slash ts
is_none_of (Token m s t) ts = false

abbrev pub sign_good : Sign → Ahead → Bool
sign_good (Tok m s t) v = stands m s t && ((gap_good v && (not (same t (codes "/")) || v.sure)) && joint s t v)
sign_good Semicolon v = gap_good v
sign_good (Unless ts) v = is_none_of v.next ts
sign_good TrailingComma v = is_none_of v.next (codes "," ∷ [])
sign_good SameLine v = skips_next v.next
sign_good m v = true

abbrev pub good : List Sign → Ahead → Bool
good [] v = true
good (m ∷ ms) v = sign_good m (ahead ms v) && good ms v

abbrev pub at_end : Ahead
at_end = at_once Nothing

-- the whole of a list of signs
abbrev pub joins : List Sign → Bool
joins ms = gap_good (ahead ms at_end) && good ms at_end
