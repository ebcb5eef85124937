-- What a lexer reads its next token from.
use Rattle.std.specs.Prelude.{◌≡◌, [], IsTrue, IsFalse}
use Rattle.std.specs.Str.{chars}
use Rattle.jsx_base.specs.Token.{Mode, Blank, at_front, same, skips, is_cut}
use Rattle.jsx_lex.specs.declared.lexer.Lexer.{Lexer}
use Rattle.jsx_lex.specs.declared.lexer.Here.{Here}
use Rattle.jsx_lex.specs.Stand.{rest_of, behind, ahead, is_at_end, has_new_line}

pub record IsHere (m : Mode) (l : Lexer) (h : Here) : Type 0 where
  pub ahead_is : ahead m l ≡ at_front m h.is_fresh (chars h.rest.now)
  pub end_is : is_at_end m l ≡ same (chars h.rest.now) []
  pub line_is : has_new_line m l ≡ h.has_new_line
  pub rest_is : chars h.rest.now ≡ behind m l
  pub whole : IsTrue (skips m) → IsFalse (is_cut Blank (rest_of l))
