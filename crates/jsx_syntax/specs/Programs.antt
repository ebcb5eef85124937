-- What stands in a program: directives, and then the items of a module or the statements of a script (ECMA-262 section 16).
use Rattle.std.specs.Prelude.{◌≡◌, List, [], ◌∷◌, map, true, false}
use Rattle.jsx_tree.specs.declared.text.Text.{Text as TreeText}
use Rattle.jsx_tree.specs.Kinds.{list, Forest, none, part}
use Rattle.jsx_tree.specs.Nonterminals.{Nonterminal, DirectiveOnly}
use Rattle.jsx_tree.specs.Grammar.{TopLines, Many, Production}
use Rattle.jsx_tree.specs.Reading.{Place, ended_at}
use Rattle.jsx_tree.specs.Faults.{Fault, Shallow, deepest}
use Rattle.jsx_tree.specs.StaticRules.{Surroundings, first_of_list, is_string_stmt}
use Rattle.jsx_tree.specs.Spans.{Tales, Told}
use Rattle.jsx_tree.specs.Told.{tales, told_directive, told_list}
use Rattle.jsx_tree.specs.Walk.{Piece, Walk, pieces, steady}
use Rattle.jsx_tree.specs.Language.{Whole}
use Rattle.jsx_operand.specs.SoFar.{so_far}

-- its row, in what its code stands in
abbrev pub program_symbols : Nonterminal → Production
program_symbols c = Many TopLines DirectiveOnly ∷ Many TopLines c ∷ []

abbrev pub program_row : Nonterminal → List Piece
program_row c = pieces [] (program_symbols c)

-- its parts, and what they tell of places
abbrev pub program_parts : Forest → Forest → Forest
program_parts ds ts = part (list ds) (part (list ts) none)

abbrev pub program_tales : List TreeText → List Told → Tales
program_tales ds es = tales (told_list (map told_directive ds) ∷ told_list es ∷ [])

-- The row leads to the end of the text, and nothing that could be a directive comes first behind these. The directives say what the code stands in
pub record IsProgram (c : Nonterminal) (V : Forest → Surroundings) (x : Place) (ds ts : Forest) : Type 0 where
  pub end : Place
  pub walk : Walk (Whole so_far) (steady (V ds)) (program_row c) x (program_parts ds ts) end
  pub keeps : first_of_list is_string_stmt ts ≡ false
  pub ended : ended_at end ≡ true

pub record OnlyProgram (c : Nonterminal) (V : Forest → Surroundings) (x : Place) (ds ts : Forest) : Type 0 where
  pub leads : IsProgram c V x ds ts
  pub alone : (es us : Forest) → IsProgram c V x es us → (ds ≡ es) × (ts ≡ us)

pub record NoProgram (c : Nonterminal) (V : Forest → Surroundings) (x : Place) (e : Fault) : Type 0 where
  pub no : (ds ts : Forest) → IsProgram c V x ds ts → Shallow e (deepest (program_parts ds ts)) → ⊥
