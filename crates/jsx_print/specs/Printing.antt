-- What is printed of a tree: its layout, with pure marks before some of its tokens.
use Rattle.std.specs.Prelude.{◌≡◌, ℕ, Bool, false, IsTrue}
use Rattle.jsx_base.specs.Token.{Text}
use Rattle.jsx_tree.specs.Kinds.{Tree}
use Rattle.jsx_tree.specs.Normal.{laid_tree}
use Rattle.jsx_tree.specs.Notes.{at_code, marks, noted_layout}
use Rattle.jsx_tree.specs.Spelling.{spelled}
use Rattle.jsx_tree.specs.Spans.{Told}
use Rattle.jsx_pen.specs.Calls.{begun, noted}
use Rattle.jsx_pen.specs.Pen.{signs}

-- the tokens are counted from 0, and the marks stand before tokens of code
pub record IsPrinted (t : Tree) (text : Text) : Type 0 where
  pub marked : ℕ → Bool
  pub in_code : IsTrue (at_code marked 0 (spelled (laid_tree t)))
  pub is_layout : text ≡ noted_layout (marks marked) t

-- its layout with a mark before the first token of each call whose place has one; what the code's tree tells of places says where each call stands
abbrev pub marked_text : (ℕ → Bool) → Tree → Told → Text
marked_text has_mark t d = noted_layout (marks (begun has_mark 0 false (signs (noted t d)))) t
