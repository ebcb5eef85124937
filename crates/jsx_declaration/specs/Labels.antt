-- Labels, what stands behind them, and jumps to them (ECMA-262 sections 14.8, 14.9 and 14.13).
use Rattle.std.specs.Prelude.{◌≡◌, List, [], ◌∷◌, Bool, true, false, Option, Some, None}
use Rattle.std.specs.Str.{chars}
use Rattle.jsx_base.specs.Token.{Text, Operator, IdentifierName}
use Rattle.jsx_tree.specs.Signs.{Tok, Space, SameLine, AfterWord, Ends}
use Rattle.jsx_tree.specs.Kinds.{Break, statement, Tree, leaf, list, none, part}
use Rattle.jsx_tree.specs.Nonterminals.{Ident, SubStmt, is_ident}
use Rattle.jsx_tree.specs.Grammar.{Fixed, Optional, Production, pun}
use Rattle.jsx_tree.specs.Form.{is_leaf}
use Rattle.jsx_tree.specs.Reading.{Place, Lost, forth}
use Rattle.jsx_tree.specs.StaticRules.{Surroundings, jump, labels_loop}
use Rattle.jsx_tree.specs.Spans.{Told}
use Rattle.jsx_tree.specs.Told.{told_list, told_text}
use Rattle.jsx_tree.specs.declared.text.Text.{Text as TreeText}
use Rattle.jsx_tree.specs.declared.text.Text.TheVariants.{Read}
use Rattle.jsx_tree.specs.Walk.{Piece, tail}
use Rattle.jsx_tree.specs.Answers.{Moves}
use Rattle.jsx_token.specs.Here.{Here}
use Rattle.jsx_token.specs.Marks.{row_so_far}
use Rattle.jsx_token.specs.Places.{Takes}
use Rattle.jsx_operand.specs.SoFar.{Staged}
use Rattle.jsx_declaration.specs.declared.label.Label as code

-- a label and its colon lead from one place to another; none stand there
pub record IsLabel (name : Text) (x y : Place) : Type 0 where
  pub middle : Place
  pub name_there : Moves (Tok Operator IdentifierName name) x middle
  pub colon : Moves (pun ":") middle y
  pub free : is_ident name ≡ true
  pub whole : is_leaf IdentifierName name ≡ true

pub record NoLabel (x : Place) : Type 0 where
  pub on : (name : Text) → is_ident name ≡ true → forth (pun ":") (forth (Tok Operator IdentifierName name) x) ≡ Lost

-- the same in the code's text
pub record TakesLabel (name : Text) (x y : Here) : Type 0 where
  pub between : Here
  pub takes_name : Takes (Tok Operator IdentifierName name) x between
  pub takes_colon : Takes (pun ":") between y

-- each statement that stands there is a loop, behind labels or not; or none is
pub record IsBeforeLoop (b : Bool) (x : Place) : Type 0 where
  pub on : (v : Surroundings) (t : Tree) (y : Place) → Staged v false SubStmt x t y → labels_loop t ≡ b

-- what the body of a label stands in
abbrev pub labelled_in : Text → Bool → Surroundings → Surroundings
labelled_in name b v = record v { labels = jump name b ∷ v.labels }

-- ---- the label of a jump, or none

abbrev pub label_text : code.Label → TreeText
label_text l = Read l.name l.place

abbrev pub target_of : Option code.Label → Tree
target_of None = list none
target_of (Some l) = list (part (leaf IdentifierName (chars l.name.now)) none)

abbrev pub told_target : Option code.Label → Told
told_target None = told_list []
told_target (Some l) = told_list (told_text (label_text l) ∷ [])

-- the row of `break` and of `continue`, behind the word, and its symbols as far as the semicolon
abbrev pub jump_row : List Piece
jump_row = tail (row_so_far (statement Break))

abbrev pub jump_symbols : Production
jump_symbols = Fixed (Ends AfterWord) ∷ Optional (SameLine ∷ Space ∷ []) Ident (Ends AfterWord ∷ []) [] ∷ []
