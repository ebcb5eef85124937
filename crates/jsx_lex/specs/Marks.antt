-- The punctuator that begins a text.
use Rattle.std.specs.Prelude.{◌≡◌, ◌++◌, ℕ, [], ◌∷◌, Bool, true, false, ◌&&◌, ◌||◌, not, nat_eq, codes}
use Rattle.jsx_base.specs.Token.{Text, punctuator, punctuators, among, same, begins, first_is, is_digit, drop_as}
use Rattle.jsx_base.specs.Longer.{extends, all_begin}
use Rattle.jsx_lex.specs.declared.token.TokenKind.{TokenKind}
use Rattle.jsx_lex.specs.Kinds.{is_punctuator, spelling}

pub record IsMark (text : Text) (k : TokenKind) (rest : Text) : Type 0 where
  pub longest_is : punctuator text ≡ spelling k
  pub text_is : text ≡ spelling k ++ rest
  pub is_mark : is_punctuator k ≡ true
  pub not_empty : same (spelling k) [] ≡ false

-- a text that doesn't begin as `?.5`, whatever follows it
abbrev pub is_clear : Text → Bool
is_clear p = not (first_is (nat_eq 63) p) || begins (codes "??") p

-- the punctuator goes on in longer ones by no other characters than these
abbrev pub goes_on_by : Text → TokenKind → Bool
goes_on_by ds k = is_punctuator k && (is_clear (spelling k) && (among (spelling k) punctuators && all_begin (extends punctuators (spelling k)) ds))

-- a punctuator that goes on by `=` alone, and the longer one, which doesn't go on
abbrev pub is_pair : TokenKind → TokenKind → Bool
is_pair k l = same (spelling l) (spelling k ++ codes "=") && (goes_on_by (codes "=") k && goes_on_by [] l)

-- a punctuator of this one character, that doesn't go on
pub record IsSingle (c : ℕ) (k : TokenKind) : Type 0 where
  pub spelling_is : spelling k ≡ c ∷ []
  pub goes_on : goes_on_by [] k ≡ true

-- `.` that makes `?.` of a `?` before it
abbrev pub is_chain : Text → Bool
is_chain text = first_is (nat_eq 46) text && not (first_is is_digit (drop_as (codes ".") text))
