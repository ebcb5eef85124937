-- No program stands in another, and only a module and its lists hold items and what is exported.
use Rattle.std.proofs.Common.{◌≡◌, List, [], ◌∷◌, Bool, true, false, ◌&&◌, ◌||◌, not, refl, sym}
use Rattle.jsx_tree.specs.Kinds.{ExportNames, ExportFrom, Exported, From, Script, VarWord, Imported, Module, Specifier, SpecifierAs, Block, Var, ForDeclaration, ForBinding, InObject, Binds, FunctionExpr, Method, Getter, Setter, Field, ArrayPat, ObjectPat, PropertyPat, ShorthandPat, ShorthandInit, WithInit, RestPat, RestProperty, Nullish, Delete, Increment, Seq, OpAssign, Binary, Unary, PrefixUpdate, PostfixUpdate, NameLink, IndexLink, CallLink, PlainTemplate, SubstitutedTemplate, TemplateSpan, Element, Kind, program, statement, function, expression, jsx, Tree, leaf, node, list, Forest, none, part}
use Rattle.jsx_tree.specs.Nonterminals.{Nonterminal, Pat, Slot, PatProp, PatElement, Item, Specifiers, WholeProgram}
use Rattle.jsx_tree.specs.Form.{Form, Single, Maybe, Several, Position, position, positions, at_most_one}
use Rattle.jsx_tree.proofs.Tokens.{and_left, and_right, and_both}
use Rattle.jsx_names.specs.Proper.{is_program, fits, stands, each_stands, has_form}
use Rattle.jsx_names.proofs.Bound.{not_so}
use Rattle.jsx_names.proofs.ScopeNames.{never}

abbrev pub is_whole : Nonterminal → Bool
is_whole WholeProgram = true
is_whole c = false

abbrev pub is_outland : Nonterminal → Bool
is_outland Item = true
is_outland (Specifiers Exported) = true
is_outland (Specifiers From) = true
is_outland c = false

-- what has such places
abbrev pub is_listing : Kind → Bool
is_listing (program Module) = true
is_listing (program ExportNames) = true
is_listing (program ExportFrom) = true
is_listing k = false

abbrev pub tame : Kind → Nonterminal → Bool
tame k c = not (is_whole c) && (is_listing k || not (is_outland c))

abbrev pub tame_row : Kind → List Position → Bool
tame_row k [] = true
tame_row k (position f c g o a ∷ ss) = tame k c && tame_row k ss

abbrev pub is_tame : Kind → Bool
is_tame k = tame_row k (positions k)

pub all_tame : (k : Kind) → is_tame k ≡ true
all_tame (program Module) = refl
all_tame (program (Specifier Imported)) = refl
all_tame (program (SpecifierAs Imported)) = refl
all_tame (statement Block) = refl
all_tame (statement (Var VarWord)) = refl
all_tame (statement (ForDeclaration VarWord)) = refl
all_tame (statement (ForBinding VarWord)) = refl
all_tame (function FunctionExpr) = refl
all_tame (function (Method InObject)) = refl
all_tame (function (Getter InObject)) = refl
all_tame (function (Setter InObject)) = refl
all_tame (function (Field InObject)) = refl
all_tame (function (ArrayPat Binds)) = refl
all_tame (function (ObjectPat Binds)) = refl
all_tame (function (PropertyPat Binds)) = refl
all_tame (function (ShorthandPat Binds)) = refl
all_tame (function (ShorthandInit Binds)) = refl
all_tame (function (WithInit Binds)) = refl
all_tame (function (RestPat Binds)) = refl
all_tame (function (RestProperty Binds)) = refl
all_tame (expression Seq) = refl
all_tame (expression (Binary Nullish)) = refl
all_tame (expression (OpAssign Nullish)) = refl
all_tame (expression (Unary Delete)) = refl
all_tame (expression (PrefixUpdate Increment)) = refl
all_tame (expression (PostfixUpdate Increment)) = refl
all_tame (expression (NameLink true)) = refl
all_tame (expression (IndexLink true)) = refl
all_tame (expression (CallLink true)) = refl
all_tame (expression (PlainTemplate true)) = refl
all_tame (expression (SubstitutedTemplate true)) = refl
all_tame (expression (TemplateSpan true)) = refl
all_tame (jsx Element) = refl
all_tame k = refl

pub no_whole : (k : Kind) (c : Nonterminal) → tame k c ≡ true → is_whole c ≡ false
no_whole k c h = not_so (is_whole c) (and_left (not (is_whole c)) (is_listing k || not (is_outland c)) h)

or_other : (a b : Bool) → a ≡ false → a || b ≡ true → b ≡ true
or_other false b e h = h
or_other true b e h = never (sym e)

pub no_outland : (k : Kind) (c : Nonterminal) → is_listing k ≡ false → tame k c ≡ true → is_outland c ≡ false
no_outland k c l h = not_so (is_outland c) (or_other (is_listing k) (not (is_outland c)) l (and_right (not (is_whole c)) (is_listing k || not (is_outland c)) h))

-- ---- trees that are no program, nor hold one in a list

abbrev mutual
  pub deep : Tree → Bool
  deep (leaf s t) = true
  deep (node k cs) = not (is_program k)
  deep (list ts) = each_deep ts

  pub each_deep : Forest → Bool
  each_deep none = true
  each_deep (part t ts) = deep t && each_deep ts

not_program : (k : Kind) (c : Nonterminal) → is_whole c ≡ false → fits c k ≡ true → not (is_program k) ≡ true
not_program (program Module) WholeProgram o h = sym o
not_program (program Module) (Pat Binds) o h = h
not_program (program Module) (Slot Binds) o h = h
not_program (program Module) (PatElement Binds) o h = h
not_program (program Module) (PatProp Binds) o h = h
not_program (program Module) c o h = h
not_program (program Script) WholeProgram o h = sym o
not_program (program Script) (Pat Binds) o h = h
not_program (program Script) (Slot Binds) o h = h
not_program (program Script) (PatElement Binds) o h = h
not_program (program Script) (PatProp Binds) o h = h
not_program (program Script) c o h = h
not_program k c o h = refl

stands_deep : (c : Nonterminal) (t : Tree) → is_whole c ≡ false → stands c t ≡ true → deep t ≡ true
stands_deep c (leaf s x) o h = refl
stands_deep c (node k cs) o h = not_program k c o h
stands_deep c (list ts) o h = never h

each_stands_deep : (c : Nonterminal) (ts : Forest) → is_whole c ≡ false → each_stands c ts ≡ true → each_deep ts ≡ true
each_stands_deep c none o h = refl
each_stands_deep c (part t ts) o h = and_both (deep t) (each_deep ts) (stands_deep c t o (and_left (stands c t) (each_stands c ts) h)) (each_stands_deep c ts o (and_right (stands c t) (each_stands c ts) h))

pub form_deep : (f : Form) (c : Nonterminal) (t : Tree) → is_whole c ≡ false → has_form f c t ≡ true → deep t ≡ true
form_deep Single c t o h = stands_deep c t o h
form_deep Maybe c (list ts) o h = each_stands_deep c ts o (and_right (at_most_one ts) (each_stands c ts) h)
form_deep Maybe c (leaf s x) o h = never h
form_deep Maybe c (node k cs) o h = never h
form_deep (Several s) c (list ts) o h = each_stands_deep c ts o h
form_deep (Several s) c (leaf a x) o h = never h
form_deep (Several s) c (node k cs) o h = never h
