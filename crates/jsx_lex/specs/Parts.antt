-- A part of a gap, as the code finds it.
use Rattle.std.specs.Prelude.{◌≡◌, ◌++◌, ◌∷◌, ◌||◌, ℕ, List, codes, encode_utf8, true}
use Rattle.std.specs.Str.{chars, IsUtf8}
use Rattle.jsx_base.specs.Token.{Blank, behind_gap, is_cut, is_blank, is_line_end}
use Rattle.jsx_lex.specs.Comments.{HasComments, to_line_end, to_close, from_close}
use Rattle.jsx_base.specs.Comments.{CommentData}
use Rattle.jsx_lex.specs.declared.comment.Part.{Part}
use Rattle.jsx_lex.specs.declared.comment.Part.TheVariants.{Space, Line, Block}

-- what stands between `/*` and the first `*/`
pub record IsClosed (text body rest : List ℕ) : Type 0 where
  pub bytes_are : text ≡ body ++ (codes "*/" ++ rest)
  pub body_is : chars body ≡ to_close (chars text)
  pub close_is : from_close (chars text) ≡ 42 ∷ 47 ∷ chars rest
  pub text_is : IsUtf8 rest

-- the gap goes on with the rest
pub record GoesOn (text rest : List ℕ) : Type 0 where
  pub behind_is : behind_gap Blank (chars text) ≡ behind_gap Blank (chars rest)
  pub cut_is : is_cut Blank (chars text) ≡ is_cut Blank (chars rest)
  pub text_is : IsUtf8 rest

pub record IsSpace (text rest : List ℕ) : Type 0 where
  pub c : ℕ
  pub is : (is_blank c || is_line_end c) ≡ true
  pub bytes_are : text ≡ encode_utf8 c ++ rest
  pub goes_on : GoesOn text rest

pub record IsLine (text body rest : List ℕ) : Type 0 where
  pub body_is : chars body ≡ to_line_end (chars (body ++ rest))
  pub bytes_are : text ≡ codes "//" ++ (body ++ rest)
  pub goes_on : GoesOn text rest

pub record IsBlock (text body rest : List ℕ) : Type 0 where
  pub body_is : chars body ≡ to_close (chars (body ++ (codes "*/" ++ rest)))
  pub bytes_are : text ≡ codes "/*" ++ (body ++ (codes "*/" ++ rest))
  pub goes_on : GoesOn text rest

abbrev pub IsPart : List ℕ → Part → Type 0
IsPart text (Space rest) = IsSpace text rest.now
IsPart text (Line body rest) = IsLine text body.now rest.now
IsPart text (Block body rest) = IsBlock text body.now rest.now

-- Whatever comments stand from here on, those found and these stand from the begin on.
pub record More (at : ℕ) (rest : List ℕ) (found : List CommentData) (begin : ℕ) (whole end : List ℕ) : Type 0 where
  pub given : (cs : List CommentData) → HasComments at rest cs end → HasComments begin whole (found ++ cs) end
