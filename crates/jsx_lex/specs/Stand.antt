-- Where a lexer stands, and what it finds there.
use Rattle.std.specs.Prelude.{◌≡◌, ◌-◌, ℕ, length, [], Bool, cond, ◌||◌, ◌&&◌, IsTrue, IsFalse, drop}
use Rattle.std.specs.Str.{chars, IsCharBoundary}
use Rattle.jsx_base.specs.Token.{Text, Mode, Lexeme, NoToken, Blank, token, skip, skips, breaks, is_cut, is_end, same}
use Rattle.jsx_lex.specs.declared.lexer.Lexer.{Lexer}

-- the characters that are left
abbrev pub rest_of : Lexer → Text
rest_of l = chars l.rest.now

-- its place, in bytes from the text's begin
abbrev pub offset_of : Lexer → ℕ
offset_of l = length l.text.now - length l.rest.now

-- whether only blanks and comments stand before it on its line
abbrev pub is_fresh : Lexer → Bool
is_fresh l = l.is_first || l.is_on_new_line

-- the token that comes next, and the text behind it
abbrev pub ahead : Mode → Lexer → Lexeme
ahead m l = token m (is_fresh l) (rest_of l)

-- whether the text ends before a token: nothing is left, but a gap where the mode skips one
abbrev pub is_at_end : Mode → Lexer → Bool
is_at_end m l = cond (skips m) (is_end (rest_of l)) (same (rest_of l) [])

-- whether a line ends in the gap before the token
abbrev pub has_new_line : Mode → Lexer → Bool
has_new_line m l = skips m && (l.is_on_new_line || breaks (rest_of l))

-- what stands behind the gap that the mode skips
abbrev pub behind : Mode → Lexer → Text
behind m l = cond (skips m) (skip (rest_of l)) (rest_of l)

-- The gap that the mode skips ends at this place. No comment in it is open.
pub record IsBehindGap (m : Mode) (l : Lexer) (at : ℕ) : Type 0 where
  pub rest_is : chars (drop at l.text.now) ≡ behind m l
  pub whole : IsTrue (skips m) → IsFalse (is_cut Blank (rest_of l))
  pub boundary : IsCharBoundary l.text.now at

-- no token begins, and the text doesn't end
pub record IsNothing (m : Mode) (l : Lexer) : Type 0 where
  pub none : (ahead m l).kind ≡ NoToken
  pub more : IsFalse (is_at_end m l)
