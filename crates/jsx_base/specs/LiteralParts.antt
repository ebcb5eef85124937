-- Strings and templates as they are written: between their quotes stand characters and escapes (ECMA-262 sections 12.9.4 and 12.9.6).
use Rattle.std.specs.Prelude.{◌≡◌, ◌⊎◌, ◌↔◌, ℕ, ◌+◌, ◌*◌, List, [], ◌∷◌, ◌++◌, codes, Bool, true, false, not, nat_eq, nat_le, ◌&&◌, ◌||◌}
use Rattle.jsx_base.specs.Token.{Text, Mode, Operand, Piece, TokenKind, StringLiteral, NoSubstitution, TemplateHead, TemplateMiddle, TemplateTail, at_front, is_digit, is_hex, hex_value, first_is}

-- what stands between the quotes of a string
pub data StringPart : Type 0 where
  Character : ℕ → StringPart
  -- behind a backslash: a character that stands for itself or for a control character, or a line end, for nothing
  Escaped : ℕ → StringPart
  -- `\0`; a backslash before CR alone, and before CR with LF behind it
  Nul : StringPart
  ContinuedAtCr : StringPart
  ContinuedAtCrLf : StringPart
  -- `\x` and two digits, `\u` and four, `\u{` and digits and `}`
  TwoDigits : ℕ → ℕ → StringPart
  FourDigits : ℕ → ℕ → ℕ → ℕ → StringPart
  Braced : Text → StringPart

abbrev pub text_of_string_part : StringPart → Text
text_of_string_part (Character c) = c ∷ []
text_of_string_part (Escaped c) = 92 ∷ c ∷ []
text_of_string_part Nul = 92 ∷ 48 ∷ []
text_of_string_part ContinuedAtCr = 92 ∷ 13 ∷ []
text_of_string_part ContinuedAtCrLf = 92 ∷ 13 ∷ 10 ∷ []
text_of_string_part (TwoDigits a b) = 92 ∷ 120 ∷ a ∷ b ∷ []
text_of_string_part (FourDigits a b c d) = 92 ∷ 117 ∷ a ∷ b ∷ c ∷ d ∷ []
text_of_string_part (Braced ds) = 92 ∷ 117 ∷ 123 ∷ (ds ++ 125 ∷ [])

abbrev pub all_hex : Text → Bool
all_hex [] = true
all_hex (d ∷ ds) = is_hex d && all_hex ds

-- the number that digits go on with
abbrev pub hex_number : ℕ → Text → ℕ
hex_number v [] = v
hex_number v (d ∷ ds) = hex_number (v * 16 + hex_value d) ds

abbrev pub is_lf : ℕ → Bool
is_lf c = nat_eq c 10

abbrev pub is_some : Text → Bool
is_some [] = false
is_some (c ∷ t) = true

-- whether it may stand in a string with this quote, before a text: neither the quote, a backslash, CR nor LF stands for itself, and `\0` before a digit is none
abbrev pub may_stand_in_string : ℕ → StringPart → Text → Bool
may_stand_in_string q (Character c) t = not (nat_eq c q) && (not (nat_eq c 92) && not (nat_eq c 10 || nat_eq c 13))
may_stand_in_string q (Escaped c) t = not (nat_eq c 120) && (not (nat_eq c 117) && (not (is_digit c) && not (nat_eq c 13)))
may_stand_in_string q Nul t = not (first_is is_digit t)
may_stand_in_string q ContinuedAtCr t = not (first_is is_lf t)
may_stand_in_string q ContinuedAtCrLf t = true
may_stand_in_string q (TwoDigits a b) t = is_hex a && is_hex b
may_stand_in_string q (FourDigits a b c d) t = is_hex a && (is_hex b && (is_hex c && is_hex d))
may_stand_in_string q (Braced ds) t = is_some ds && (all_hex ds && nat_le (hex_number 0 ds) 1114111)

abbrev pub text_of_string_parts : List StringPart → Text
text_of_string_parts [] = []
text_of_string_parts (p ∷ ps) = text_of_string_part p ++ text_of_string_parts ps

abbrev pub all_may_stand_in_string : ℕ → List StringPart → Bool
all_may_stand_in_string q [] = true
all_may_stand_in_string q (p ∷ ps) = may_stand_in_string q p (text_of_string_parts ps ++ q ∷ []) && all_may_stand_in_string q ps

-- what stands behind the first quote: parts, and the quote again
pub record IsStringBody (q : ℕ) (body : Text) : Type 0 where
  pub parts : List StringPart
  pub stand : all_may_stand_in_string q parts ≡ true
  pub is : body ≡ text_of_string_parts parts ++ q ∷ []

-- the whole text is one token of this kind
abbrev pub IsToken : Mode → TokenKind → Text → Type 0
IsToken m k t = at_front m false t ≡ record { kind = k; raw = t; rest = [] }

-- what begins with a quote is a string exactly where parts and the quote follow
abbrev pub StringsAreParts : Type 0
StringsAreParts = (q : ℕ) (body : Text) → (q ≡ 34) ⊎ (q ≡ 39) → IsToken Operand StringLiteral (q ∷ body) ↔ IsStringBody q body

-- what stands in a template: a character that is neither a backquote, a backslash nor `$`; `$` before no brace; a backslash and any character
pub data TemplatePart : Type 0 where
  Plain : ℕ → TemplatePart
  Dollar : TemplatePart
  Backslashed : ℕ → TemplatePart

abbrev pub text_of_template_part : TemplatePart → Text
text_of_template_part (Plain c) = c ∷ []
text_of_template_part Dollar = 36 ∷ []
text_of_template_part (Backslashed c) = 92 ∷ c ∷ []

abbrev pub is_brace : ℕ → Bool
is_brace c = nat_eq c 123

-- whether it may stand in a template, before a text
abbrev pub may_stand_in_template : TemplatePart → Text → Bool
may_stand_in_template (Plain c) t = not (nat_eq c 96) && (not (nat_eq c 92) && not (nat_eq c 36))
may_stand_in_template Dollar t = not (first_is is_brace t)
may_stand_in_template (Backslashed c) t = true

abbrev pub text_of_template_parts : List TemplatePart → Text
text_of_template_parts [] = []
text_of_template_parts (p ∷ ps) = text_of_template_part p ++ text_of_template_parts ps

abbrev pub all_may_stand_in_template : List TemplatePart → Text → Bool
all_may_stand_in_template [] t = true
all_may_stand_in_template (p ∷ ps) t = may_stand_in_template p (text_of_template_parts ps ++ t) && all_may_stand_in_template ps t

-- parts, and what closes a piece of a template: a backquote, or `${`
pub record IsPiece (closing body : Text) : Type 0 where
  pub parts : List TemplatePart
  pub stand : all_may_stand_in_template parts closing ≡ true
  pub is : body ≡ text_of_template_parts parts ++ closing

-- what begins with a backquote is a template, or the first piece of one, exactly where parts and what closes them follow
abbrev pub TemplatesAreParts : Type 0
TemplatesAreParts = (body : Text) → (IsToken Operand NoSubstitution (96 ∷ body) ↔ IsPiece (codes "`") body) × (IsToken Operand TemplateHead (96 ∷ body) ↔ IsPiece (codes "${") body)

-- and behind the `}` of a substitution, the last piece or a middle one
abbrev pub PiecesAreParts : Type 0
PiecesAreParts = (c : ℕ) (t : Text) → (IsToken Piece TemplateTail (c ∷ t) ↔ IsPiece (codes "`") (c ∷ t)) × (IsToken Piece TemplateMiddle (c ∷ t) ↔ IsPiece (codes "${") (c ∷ t))
