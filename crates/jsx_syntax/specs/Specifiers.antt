-- The specifiers of imports and exports: names as they are written, and which of them may stand in which list (ECMA-262 sections 16.2.2 and 16.2.3).
use Rattle.std.specs.Prelude.{◌≡◌, List, [], ◌∷◌, map, Bool, true, false, ◌&&◌}
use Rattle.jsx_base.specs.Token.{IdentifierName}
use Rattle.jsx_tree.specs.declared.program.Specifier.{Specifier as Written}
use Rattle.jsx_tree.specs.Signs.{Pad}
use Rattle.jsx_tree.specs.Kinds.{Side, Imported, Exported, From, Specifier, SpecifierAs, program, Tree, leaf, node, Forest, none, part}
use Rattle.jsx_tree.specs.Nonterminals.{Specifiers, word_in}
use Rattle.jsx_tree.specs.Grammar.{Commas, Many, Production, inner, key, only, outer, p}
use Rattle.jsx_tree.specs.Grammar as symbol
use Rattle.jsx_tree.specs.Reading.{Place}
use Rattle.jsx_tree.specs.StaticRules.{Surroundings}
use Rattle.jsx_tree.specs.View.{forest}
use Rattle.jsx_tree.specs.ViewProgram.{view_specifier}
use Rattle.jsx_tree.specs.Walk.{Piece, pieces}
use Rattle.jsx_tree.specs.Language.{Whole}
use Rattle.jsx_tree.specs.Answers.{Stuck}
use Rattle.jsx_tree.specs.Faults.{Fault, Shallow, part_depth}
use Rattle.jsx_operand.specs.SoFar.{Staged, so_far}
use Rattle.jsx_syntax.specs.declared.specifier.Side as code
use Rattle.jsx_syntax.specs.declared.specifier.Side.TheVariants as side

-- the specifiers of a list behind its `{`, with the `}`
abbrev pub specifier_symbols : Side → Production
specifier_symbols s = Many Commas (Specifiers s) ∷ symbol.Fixed Pad ∷ p "}" ∷ []

abbrev pub specifier_row : Side → List Piece
specifier_row s = pieces [] (specifier_symbols s)

-- The text is this specifier, and of all that end before no `as` it is no other: `a` alone begins `a as b`. It is none
pub record OnlySpecifier (v : Surroundings) (x : Place) (t : Tree) (y : Place) : Type 0 where
  pub reads : Staged v false (Specifiers From) x t y
  pub alone : (u : Tree) (z : Place) → Stuck (key "as") z → Whole so_far v false (Specifiers From) x u z → (t ≡ u) × (y ≡ z)

pub record NoSpecifier (v : Surroundings) (x : Place) (e : Fault) : Type 0 where
  pub no : (u : Tree) (z : Place) → Stuck (key "as") z → Whole so_far v false (Specifiers From) x u z → Shallow e (part_depth u) → ⊥

-- ---- which names may stand in a list: with `from` behind it any, else the module's own are bound by an import, and referred to by an export

abbrev pub side_of : code.Side → Side
side_of side.Imported = Imported
side_of side.Exported = Exported

abbrev pub fits : Side → Tree → Bool
fits s (node (program (Specifier From)) (part (leaf IdentifierName a) none)) = word_in (only s) a
fits s (node (program (SpecifierAs From)) (part (leaf IdentifierName a) (part (leaf IdentifierName b) none))) = word_in (outer s) a && word_in (inner s) b
fits s t = false

-- specifiers as they are written, whatever the list
abbrev pub written : List Written → Forest
written xs = forest (map (view_specifier From) xs)
