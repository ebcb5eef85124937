-- Classes: what stands behind their names, with `extends` or without, and their members (ECMA-262 section 15.7).
use Rattle.std.specs.Prelude.{◌≡◌, List, [], ◌∷◌, ◌++◌, true, map}
use Rattle.jsx_tree.specs.Signs.{Indent, Outdent, Space}
use Rattle.jsx_tree.specs.Kinds.{Tree, list, Forest, none, part}
use Rattle.jsx_tree.specs.Nonterminals.{BindingIdent, ClassMember, Expr}
use Rattle.jsx_tree.specs.Grammar.{Context, Fixed, InClassCode, InMembers, Lines, Many, Optional, Production, Within, braced_lines, key, p, sp}
use Rattle.jsx_tree.specs.Reading.{Place}
use Rattle.jsx_tree.specs.StaticRules.{Surroundings, all_of, list_rule, members_rule}
use Rattle.jsx_tree.specs.Spans.{Tales, no_tales, tale}
use Rattle.jsx_tree.specs.Told.{told_expr, told_list, told_name, told_optional, told_prop}
use Rattle.jsx_tree.specs.View.{forest, inside, optional_name, optional_of, view_expr}
use Rattle.jsx_tree.specs.Walk.{Piece, Walk, around, pieces, tail}
use Rattle.jsx_tree.specs.Language.{Whole}
use Rattle.jsx_tree.specs.Faults.{Fault, Shallow, deepest}
use Rattle.jsx_make.specs.Members.{view_class_member}
use Rattle.jsx_operand.specs.SoFar.{so_far}
use Rattle.jsx_function.specs.declared.class.ClassCode.{ClassCode}
use Rattle.jsx_function.specs.declared.class.NamedClass.{NamedClass}

-- ---- members, behind the `{`

abbrev pub members_symbols : Production
members_symbols = Fixed Indent ∷ Many Lines ClassMember ∷ Fixed Outdent ∷ p "}" ∷ []

abbrev pub members_row : List Piece
members_row = pieces [] members_symbols

-- ---- what stands behind the name

abbrev pub heritage : Production
heritage = Optional (Space ∷ key "extends" ∷ Space ∷ []) (Expr 17) [] [] ∷ []

abbrev pub class_symbols : Production
class_symbols = heritage ++ sp ∷ braced_lines ClassMember

-- its row: what is extended stands in the code of the class, and the members know whether there is something
abbrev pub class_row : List Piece
class_row = pieces (InClassCode ∷ []) (heritage ++ sp ∷ Within InMembers ∷ braced_lines ClassMember)

-- what these parts stand in, whatever the name
abbrev pub class_in : Surroundings → Forest → List Context → Surroundings
class_in v ts = around v (part (list none) ts)

abbrev pub keep_members : Forest → Type 0
keep_members ts = all_of (list_rule members_rule) ts ≡ true

-- the text is these parts, and no others that keep the rules of a class; none
pub record OnlyClass (v : Surroundings) (x : Place) (ts : Forest) (y : Place) : Type 0 where
  pub walk : Walk (Whole so_far) (class_in v ts) class_row x ts y
  pub alone : (us : Forest) (z : Place) → Walk (Whole so_far) (class_in v us) class_row x us z → (ts ≡ us) × (y ≡ z)

pub record NoClass (v : Surroundings) (x : Place) (e : Fault) : Type 0 where
  pub no : (ts : Forest) (y : Place) → Walk (Whole so_far) (class_in v ts) class_row x ts y → keep_members ts → Shallow e (deepest ts) → ⊥

abbrev pub class_parts : ClassCode → Forest
class_parts c = part (optional_of view_expr c.heritage) (part (list (forest (map (inside view_class_member) c.members.items))) none)

abbrev pub told_class : ClassCode → Tales
told_class c = tale (told_optional told_expr c.heritage) (tale (told_list (map (inside told_prop) c.members.items)) no_tales)

-- ---- the same with a name before it, or none

abbrev pub class_name : Production
class_name = Optional (Space ∷ []) BindingIdent [] [] ∷ []

abbrev pub named_class_symbols : Production
named_class_symbols = class_name ++ class_symbols

abbrev pub named_class_row : List Piece
named_class_row = pieces (InClassCode ∷ []) class_name ++ class_row

abbrev pub named_class_in : Surroundings → Forest → List Context → Surroundings
named_class_in v ts = around v ts

pub record OnlyNamedClass (v : Surroundings) (x : Place) (ts : Forest) (y : Place) : Type 0 where
  pub walk : Walk (Whole so_far) (named_class_in v ts) named_class_row x ts y
  pub alone : (us : Forest) (z : Place) → Walk (Whole so_far) (named_class_in v us) named_class_row x us z → (ts ≡ us) × (y ≡ z)

pub record NoNamedClass (v : Surroundings) (x : Place) (e : Fault) : Type 0 where
  pub no : (ts : Forest) (y : Place) → Walk (Whole so_far) (named_class_in v ts) named_class_row x ts y → keep_members ts → Shallow e (deepest ts) → ⊥

-- the row from a name, or none, and the place behind it on
pub record ClassRest (v : Surroundings) (t : Tree) (y : Place) (us : Forest) (w : Place) : Type 0 where
  pub parts : Forest
  pub is : part t parts ≡ us
  pub walk : Walk (Whole so_far) (class_in v parts) class_row y parts w

-- the row begins with this name, or none, and goes on from the place
pub record IsClassName (v : Surroundings) (x : Place) (t : Tree) (y : Place) : Type 0 where
  pub to : (ts : Forest) (w : Place) → Walk (Whole so_far) (class_in v ts) class_row y ts w → Walk (Whole so_far) (named_class_in v (part t ts)) named_class_row x (part t ts) w
  pub from : (us : Forest) (w : Place) → Walk (Whole so_far) (named_class_in v us) named_class_row x us w → ClassRest v t y us w

abbrev pub named_class_parts : NamedClass → Forest
named_class_parts c = part (optional_name c.name) (class_parts c.code)

abbrev pub told_named_class : NamedClass → Tales
told_named_class c = tale (told_name c.name) (told_class c.code)

-- ---- what is extended

-- the row from what is extended on, or from where nothing is
pub record HeritageRest (v : Surroundings) (t : Tree) (y : Place) (us : Forest) (w : Place) : Type 0 where
  pub parts : Forest
  pub is : part t parts ≡ us
  pub walk : Walk (Whole so_far) (class_in v (part t parts)) (tail class_row) y parts w

-- the row begins with what is extended, or nothing, and goes on from the place
pub record IsHeritage (v : Surroundings) (x : Place) (t : Tree) (y : Place) : Type 0 where
  pub to : (ts : Forest) (w : Place) → Walk (Whole so_far) (class_in v (part t ts)) (tail class_row) y ts w → Walk (Whole so_far) (class_in v (part t ts)) class_row x (part t ts) w
  pub from : (us : Forest) (w : Place) → Walk (Whole so_far) (class_in v us) class_row x us w → HeritageRest v t y us w
