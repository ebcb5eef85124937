-- Functions: what stands behind their names, with their parameters and their bodies (ECMA-262 sections 15.1 and 15.2).
use Rattle.std.specs.Prelude.{◌≡◌, List, [], ◌∷◌, ◌++◌, false, true, map}
use Rattle.jsx_tree.specs.Kinds.{Tree, list, Forest, none, part}
use Rattle.jsx_tree.specs.Nonterminals.{BindingIdent, Param}
use Rattle.jsx_tree.specs.Grammar.{Commas, InFunction, Many, Optional, Production, body, p, parens, sp}
use Rattle.jsx_tree.specs.Reading.{Place}
use Rattle.jsx_tree.specs.StaticRules.{Surroundings, has_plain_params}
use Rattle.jsx_tree.specs.Spans.{Tales, no_tales, tale}
use Rattle.jsx_tree.specs.Told.{told_list, told_name, told_pat}
use Rattle.jsx_tree.specs.View.{forest, inside, optional_name, view_pat}
use Rattle.jsx_tree.specs.Walk.{Piece, Walk, piece, pieces, steady}
use Rattle.jsx_tree.specs.Language.{Whole}
use Rattle.jsx_tree.specs.Faults.{Fault, Shallow, deepest}
use Rattle.jsx_operand.specs.SoFar.{Staged, so_far}
use Rattle.jsx_operand.specs.Bodies.{told_of, view_body}
use Rattle.jsx_function.specs.declared.function.FunctionCode.{FunctionCode}
use Rattle.jsx_function.specs.declared.function.NamedFunction.{NamedFunction}

-- ---- parameters

-- The text is this parameter, and of all that may stand there and have come to their ends it is no other: a name alone is read too before what goes on with an expression
pub record OnlyParam (v : Surroundings) (x : Place) (t : Tree) (y : Place) : Type 0 where
  pub reads : Staged v false Param x t y
  pub alone : (u : Tree) (z : Place) → Whole so_far v false Param x u z → (t ≡ u) × (y ≡ z)

-- what stands behind the `(` of a function
abbrev pub params_symbols : Production
params_symbols = Many Commas Param ∷ p ")" ∷ []

abbrev pub params_row : List Piece
params_row = pieces [] params_symbols

-- ---- what stands behind the name of a function

abbrev pub code_symbols : Production
code_symbols = parens Param ++ sp ∷ body

-- its row, where the symbols say that they stand in a function
abbrev pub code_row : List Piece
code_row = pieces (InFunction ∷ []) code_symbols

-- and in the surroundings of the function itself
abbrev pub own_row : List Piece
own_row = pieces [] code_symbols

-- its parts
abbrev pub parts_of : FunctionCode → Forest
parts_of f = part (list (forest (map (inside view_pat) f.params.items))) (part (view_body f.body) none)

abbrev pub told_parts : FunctionCode → Tales
told_parts f = tale (told_list (map (inside told_pat) f.params.items)) (tale (told_of f.body) no_tales)

-- nothing stands there that keeps the rule on parameters
pub record NoCode (v : Surroundings) (x : Place) (e : Fault) : Type 0 where
  pub no : (ts : Forest) (y : Place) → Walk (Whole so_far) (steady v) code_row x ts y → has_plain_params ts ≡ true → Shallow e (deepest ts) → ⊥

pub record NoOwnCode (v : Surroundings) (x : Place) (e : Fault) : Type 0 where
  pub no : (ts : Forest) (y : Place) → Walk (Whole so_far) (steady v) own_row x ts y → has_plain_params ts ≡ true → Shallow e (deepest ts) → ⊥

-- ---- the same with a name before it, or none

abbrev pub name_symbols : Production
name_symbols = Optional [] BindingIdent [] [] ∷ []

abbrev pub named_symbols : Production
named_symbols = Optional [] BindingIdent [] [] ∷ code_symbols

abbrev pub named_row : List Piece
named_row = piece [] (Optional [] BindingIdent [] []) ∷ code_row

-- the row begins with this name, and goes on from the place
pub record NamedRest (v : Surroundings) (t : Tree) (y : Place) (us : Forest) (w : Place) : Type 0 where
  pub parts : Forest
  pub is : part t parts ≡ us
  pub walk : Walk (Whole so_far) (steady v) code_row y parts w

pub record IsNamed (v : Surroundings) (x : Place) (t : Tree) (y : Place) : Type 0 where
  pub to : (ts : Forest) (w : Place) → Walk (Whole so_far) (steady v) code_row y ts w → Walk (Whole so_far) (steady v) named_row x (part t ts) w
  pub from : (us : Forest) (w : Place) → Walk (Whole so_far) (steady v) named_row x us w → NamedRest v t y us w

abbrev pub named_parts : NamedFunction → Forest
named_parts f = part (optional_name f.name) (parts_of f.code)

abbrev pub told_named : NamedFunction → Tales
told_named f = tale (told_name f.name) (told_parts f.code)

pub record NoNamed (v : Surroundings) (x : Place) (e : Fault) : Type 0 where
  pub no : (ts : Forest) (y : Place) → Walk (Whole so_far) (steady v) named_row x ts y → has_plain_params ts ≡ true → Shallow e (deepest ts) → ⊥
