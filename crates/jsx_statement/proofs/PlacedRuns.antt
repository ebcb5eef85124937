-- The places of directives, as a loop reads them, and of the body of a function.
use Rattle.std.proofs.Common.{◌≡◌, false, List, [], ◌∷◌, ◌++◌, map, refl, sym, subst}
use Rattle.jsx_base.specs.Token.{StringLiteral}
use Rattle.jsx_tree.specs.declared.text.Text.{Text as TreeText}
use Rattle.jsx_tree.specs.Kinds.{Tree, leaf, none, part}
use Rattle.jsx_tree.specs.Grammar.{ListShape, Lines, TopLines}
use Rattle.jsx_tree.specs.Spelling.{behind, between, spelled}
use Rattle.jsx_tree.specs.Reading.{Place, scan}
use Rattle.jsx_tree.specs.Spans.{Told, no_tales, tale}
use Rattle.jsx_tree.specs.View.{body, directive, forest, text_of}
use Rattle.jsx_tree.specs.Told.{tales, told_body, told_directive, told_text}
use Rattle.jsx_token.specs.Here.{Here, place_of}
use Rattle.jsx_operand.specs.Bodies.{body_symbols}
use Rattle.jsx_operand.specs.Spans.{IsPlacedList, IsPlacedRow}
use Rattle.jsx_operand.proofs.Placing.{IsItem, IsPlain, PlacedFront, bare_node, front_none, laid_last, laid_more, list_none, map_pushed, plain_lines, plain_top_lines, row_end, row_item, row_list, row_quiet, row_sign, row_within}
use Rattle.jsx_statement.specs.Directives.{directive_symbols}
use Rattle.jsx_statement.specs.Statements.{IsPlacedLines}

-- each on a line of its own, in braces or at the top
pub record IsLined (s : ListShape) : Type 0 where
  pub plain : IsPlain s
  pub joins : (x : Place) → scan x (between s) ≡ x
  pub ends : (x : Place) (t : Tree) → scan x (behind s (spelled t)) ≡ x

pub lines : IsLined Lines
lines = record { plain = plain_lines; joins = λ x. refl; ends = λ x t. refl }

pub top_lines : IsLined TopLines
top_lines = record { plain = plain_top_lines; joins = λ x. refl; ends = λ x t. refl }

-- a directive, told by its row
pub directive_placed : (a : TreeText) {x z : Here} → IsPlacedRow directive_symbols (tale (told_text a) no_tales) (part (leaf StringLiteral (text_of a)) none) x z → IsItem false (told_directive a) (directive a) x z
directive_placed a r = bare_node (λ c e ps. refl) r

-- some of them
pub record PlacedRun (s : ListShape) (ds : List TreeText) (x y : Here) : Type 0 where
  pub front : PlacedFront false s (map told_directive ds) (map directive ds) x y
  pub all : IsPlacedList s (tales (map told_directive ds)) (forest (map directive ds)) x y

pub placed_none : {s : ListShape} {ds : List TreeText} {x : Here} → ds ≡ [] → PlacedRun s ds x x
placed_none {s} {x = x} e = subst (λ ds. PlacedRun s ds x x) (sym e) (record { front = front_none; all = list_none })

pub placed_more : {s : ListShape} {ds es : List TreeText} {d : TreeText} {x y z : Here} → IsLined s → PlacedRun s ds x y → es ≡ ds ++ d ∷ [] → IsItem false (told_directive d) (directive d) y z → PlacedRun s es x z
placed_more {ds = ds} {d = d} {z = z} l m is q =
    let told = map_pushed told_directive ds _ d _ is refl in
    let trees = map_pushed directive ds _ d _ is refl in
    record { front = laid_more l.plain m.front q refl (l.joins (place_of z)) told trees; all = laid_last l.plain m.front q refl (l.ends (place_of z) (directive d)) told trees }

-- the body of a function, with its brace
pub placed_body : (ds : List TreeText) (es : List Told) (ts : List Tree) {x y z : Here} → IsPlacedList Lines (tales (map told_directive ds)) (forest (map directive ds)) x y → IsPlacedLines (tales es) (forest ts) y z → IsPlacedRow body_symbols (tale (told_body ds es) no_tales) (part (body ds ts) none) x z
placed_body ds es ts m l = row_quiet (λ q. refl) (row_item refl (bare_node (λ c e ps. refl) (row_within (row_list m (row_list l.items row_end)))) (row_quiet (λ q. refl) (row_sign l.brace row_end)))
