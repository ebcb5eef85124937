-- The items of a module that begin with `import` or `export`: what stands behind these words, and of which kinds it is (ECMA-262 sections 16.2.2 and 16.2.3).
use Rattle.std.specs.Prelude.{◌≡◌, ℕ, List, [], ◌∷◌, Bool, true, false, IsTrue, codes, ◌&&◌}
use Rattle.jsx_tree.specs.Signs.{Sign, AfterWord, Ends}
use Rattle.jsx_tree.specs.Kinds.{ImportBare, Import, ExportNames, ExportFrom, ExportAll, ExportAllAs, ExportDecl, ExportDefaultFn, ExportDefaultClass, ExportDefaultExpr, Kind, program, Tree, node, Forest}
use Rattle.jsx_tree.specs.Nonterminals.{StringOnly}
use Rattle.jsx_tree.specs.Grammar.{Part, Production, key, pun, semi, sp, w}
use Rattle.jsx_tree.specs.Grammar as symbol
use Rattle.jsx_tree.specs.Reading.{Place, Lost, forth}
use Rattle.jsx_tree.specs.StaticRules.{Surroundings}
use Rattle.jsx_tree.specs.Spans.{Told}
use Rattle.jsx_tree.specs.Walk.{Piece, Walk, is_found, pieces, steady, tail}
use Rattle.jsx_tree.specs.Language.{Whole}
use Rattle.jsx_tree.specs.Answers.{BuiltNode, Moves, NoNode, Stuck}
use Rattle.jsx_tree.specs.Faults.{Fault}
use Rattle.jsx_token.specs.Growths.{lead, opening_sign, same_sign}
use Rattle.jsx_token.specs.Here.{Here}
use Rattle.jsx_token.specs.Marks.{row_so_far}
use Rattle.jsx_token.specs.Places.{begin_of, Takes, next_of}
use Rattle.jsx_operand.specs.SoFar.{so_far}
use Rattle.jsx_operand.specs.Spans.{IsPlaced}

-- the module that is named, at the end of an item: `"m";`, and `from "m";`
abbrev pub source_symbols : Production
source_symbols = Part StringOnly ∷ symbol.Fixed (Ends AfterWord) ∷ semi ∷ []

abbrev pub source_row : List Piece
source_row = pieces [] source_symbols

abbrev pub from_symbols : Production
from_symbols = w "from" ∷ sp ∷ source_symbols

abbrev pub from_row : List Piece
from_row = pieces [] from_symbols

-- ---- an import begins where its word stands before neither `(` nor `.`, which go on with an expression

pub record IsImport (x y : Place) : Type 0 where
  pub word : Moves (key "import") x y
  pub uncalled : Stuck (pun "(") y
  pub undotted : Stuck (pun ".") y

pub data NoImport (x : Place) : Type 0 where
  elsewhere : forth (key "import") x ≡ Lost → NoImport x
  called : IsTrue (is_found (forth (pun "(") (forth (key "import") x))) → NoImport x
  dotted : IsTrue (is_found (forth (pun ".") (forth (key "import") x))) → NoImport x

-- ---- the kinds that begin with a word, and those of them that go on with a sign

abbrev pub is_portal : Kind → Bool
is_portal (program ImportBare) = true
is_portal (program Import) = true
is_portal (program ExportNames) = true
is_portal (program ExportFrom) = true
is_portal (program ExportAll) = true
is_portal (program ExportAllAs) = true
is_portal (program ExportDecl) = true
is_portal (program ExportDefaultFn) = true
is_portal (program ExportDefaultClass) = true
is_portal (program ExportDefaultExpr) = true
is_portal k = false

abbrev pub begins_with : Sign → Kind → Bool
begins_with s k = is_portal k && same_sign (opening_sign k) s

abbrev pub goes_with : Sign → Sign → Kind → Bool
goes_with s u k = begins_with s k && same_sign (lead (tail (row_so_far k))) u

-- the rest of their rows
abbrev pub behind_word : Kind → List Piece
behind_word k = tail (row_so_far k)

abbrev pub behind_both : Kind → List Piece
behind_both k = tail (tail (row_so_far k))

-- of some kinds, each with a row: the tree is a node of one of them, and there is no other; there is none
pub record OnlyOf (p : Kind → Bool) (r : Kind → List Piece) (v : Surroundings) (t : Tree) (x y : Place) : Type 0 where
  pub kind : Kind
  pub begins : p kind ≡ true
  pub built : BuiltNode so_far v (r kind) kind t x y
  pub alone : (k : Kind) (ts : Forest) (z : Place) → p k ≡ true → Walk (Whole so_far) (steady v) (r k) x ts z → so_far.keeps k v ts ≡ true → (node k ts ≡ t) × (z ≡ y)

pub record NoneOf (p : Kind → Bool) (r : Kind → List Piece) (v : Surroundings) (x : Place) (e : Fault) : Type 0 where
  pub no : (k : Kind) → p k ≡ true → NoNode so_far v (r k) k x e

-- behind the word
abbrev pub OnlyBehind : Sign → Surroundings → Tree → Place → Place → Type 0
OnlyBehind s v t x y = OnlyOf (begins_with s) behind_word v t x y

abbrev pub NoneBehind : Sign → Surroundings → Place → Fault → Type 0
NoneBehind s v x e = NoneOf (begins_with s) behind_word v x e

-- behind `export` and another sign
abbrev pub OnlyExport : Sign → Surroundings → Tree → Place → Place → Type 0
OnlyExport u v t x y = OnlyOf (goes_with (key "export") u) behind_both v t x y

abbrev pub NoneExport : Sign → Surroundings → Place → Fault → Type 0
NoneExport u v x e = NoneOf (goes_with (key "export") u) behind_both v x e

-- it is told from where its `export` begins
pub record IsPlacedExport (u : Sign) (lo : ℕ) (x : Here) (d : Told) (t : Tree) (y : Here) : Type 0 where
  pub on : (a b : Here) → Takes (key "export") a b → lo ≡ next_of a → Takes u b x → begin_of x ≡ next_of b → IsPlaced d t a y
