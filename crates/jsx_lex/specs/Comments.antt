-- The comments of a gap, in order (ECMA-262 section 12.4).
use Rattle.std.specs.Prelude.{◌≡◌, ◌+◌, ◌++◌, ◌||◌, ℕ, List, [], ◌∷◌, length, cond, codes, encode_utf8, IsTrue}
use Rattle.std.specs.Str.{chars}
use Rattle.jsx_base.specs.Token.{Text, is_blank, is_line_end, begins}
use Rattle.jsx_base.specs.Comments.{CommentData}
use Rattle.jsx_base.specs.declared.comments.CommentKind.{CommentKind}
use Rattle.jsx_base.specs.declared.comments.CommentKind.TheVariants.{Line, Block}

-- up to the line's end
abbrev pub to_line_end : Text → Text
to_line_end [] = []
to_line_end (c ∷ text) = cond (is_line_end c) [] (c ∷ to_line_end text)

-- up to the first `*/`
abbrev pub to_close : Text → Text
to_close [] = []
to_close (c ∷ text) = cond (begins (codes "*/") (c ∷ text)) [] (c ∷ to_close text)

-- a comment between two places, with the bytes of its text
abbrev pub remark : CommentKind → ℕ → ℕ → List ℕ → CommentData
remark kind lo hi text = record { kind = kind; span = record { lo = record { 0 = lo }; hi = record { 0 = hi } }; text = text }

-- From the place of the first text on, up to the last, stand blanks, line ends and these comments. A line's comment goes up to the line's end, and a block up to the first `*/`.
pub data HasComments : ℕ → List ℕ → List CommentData → List ℕ → Type 0 where
  over : {at : ℕ} {rest : List ℕ} → HasComments at rest [] rest
  blank : {at : ℕ} (c : ℕ) (text : List ℕ) {rest : List ℕ} {cs : List CommentData} → IsTrue (is_blank c || is_line_end c) → HasComments (at + length (encode_utf8 c)) text cs rest → HasComments at (encode_utf8 c ++ text) cs rest
  line : {at : ℕ} (body text : List ℕ) {rest : List ℕ} {cs : List CommentData} → chars body ≡ to_line_end (chars (body ++ text)) → HasComments (at + (2 + length body)) text cs rest → HasComments at (codes "//" ++ (body ++ text)) (remark Line at (at + (2 + length body)) body ∷ cs) rest
  block : {at : ℕ} (body text : List ℕ) {rest : List ℕ} {cs : List CommentData} → chars body ≡ to_close (chars (body ++ (codes "*/" ++ text))) → HasComments (at + (4 + length body)) text cs rest → HasComments at (codes "/*" ++ (body ++ (codes "*/" ++ text))) (remark Block at (at + (4 + length body)) body ∷ cs) rest

-- what is left from the line's end on, and from the first `*/` on
abbrev pub from_line_end : Text → Text
from_line_end [] = []
from_line_end (c ∷ text) = cond (is_line_end c) (c ∷ text) (from_line_end text)

abbrev pub from_close : Text → Text
from_close [] = []
from_close (c ∷ text) = cond (begins (codes "*/") (c ∷ text)) (c ∷ text) (from_close text)
