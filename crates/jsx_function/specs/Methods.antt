-- Methods, getters, setters and fields: the words before their keys, and what stands behind these (ECMA-262 sections 15.4 and 15.7).
use Rattle.std.specs.Prelude.{◌≡◌, ℕ, List, [], ◌∷◌, ◌++◌, Bool, true, false, IsTrue, Option, Some, None, cond, not, ◌||◌}
use Rattle.jsx_base.specs.Token.{Text}
use Rattle.jsx_base.specs.declared.place.BytePos.{BytePos}
use Rattle.jsx_tree.specs.Signs.{AfterKey, Ends, Sign, Space}
use Rattle.jsx_tree.specs.Kinds.{Field, Getter, Holder, InClass, InObject, Kind, Method, Setter, Static, Tree, Forest, function, node, none, part}
use Rattle.jsx_tree.specs.Nonterminals.{Expr, Key, SetterParam}
use Rattle.jsx_tree.specs.Grammar.{Fixed, Optional, Part, Production, body, p, pun, semi, sp}
use Rattle.jsx_tree.specs.Grammar as symbol
use Rattle.jsx_tree.specs.Reading.{Place, Lost, forth}
use Rattle.jsx_tree.specs.StaticRules.{Surroundings, is_strict_body, is_word}
use Rattle.jsx_tree.specs.Spans.{Tales, Told, no_tales, tale}
use Rattle.jsx_tree.specs.Told.{told_pat}
use Rattle.jsx_tree.specs.View.{OfClass, OfObject, Owner, view_pat}
use Rattle.jsx_tree.specs.Walk.{Piece, Walk, around, is_found, piece, pieces, steady, tail}
use Rattle.jsx_tree.specs.Language.{Whole}
use Rattle.jsx_tree.specs.Answers.{Moves}
use Rattle.jsx_tree.specs.Faults.{Fault, Shallow, deepest}
use Rattle.jsx_token.specs.Here.{Here, leaf_kind, leaf_sign}
use Rattle.jsx_token.specs.Marks.{row_so_far}
use Rattle.jsx_token.specs.Places.{Takes, next_of}
use Rattle.jsx_token.specs.Stage.{key_leaf}
use Rattle.jsx_token.specs.declared.lexer.Leaf.{Leaf}
use Rattle.jsx_operand.specs.SoFar.{Staged, so_far}
use Rattle.jsx_operand.specs.Spans.{IsPlaced}
use Rattle.jsx_operand.specs.Bodies.{told_of, view_body}
use Rattle.jsx_function.specs.declared.method.Home as code
use Rattle.jsx_function.specs.declared.method.Home.TheVariants as home
use Rattle.jsx_function.specs.declared.method.SetterCode.{SetterCode}

-- ---- words before a key

-- a key begins there, or none does
pub data BeginsKey (x : Place) : Type 0 where
  by_leaf : (l : Leaf) (t : Text) → key_leaf (leaf_kind l) ≡ true → IsTrue (is_found (forth (leaf_sign l t) x)) → BeginsKey x
  by_bracket : IsTrue (is_found (forth (pun "[") x)) → BeginsKey x

pub record NoKey (x : Place) : Type 0 where
  pub leaves : (l : Leaf) (t : Text) → key_leaf (leaf_kind l) ≡ true → forth (leaf_sign l t) x ≡ Lost
  pub bracket : forth (pun "[") x ≡ Lost

-- the word stands before a key; it isn't there, or it is a key itself
pub record IsPrefix (s : Sign) (x y : Place) : Type 0 where
  pub word : Moves s x y
  pub before : BeginsKey y

pub record NoPrefix (s : Sign) (x : Place) : Type 0 where
  pub behind : IsTrue (is_found (forth s x)) → NoKey (forth s x)

-- ---- whose member it is

abbrev pub holder_at : code.Home → Holder
holder_at home.Object = InObject
holder_at home.Instance = InClass
holder_at home.Static = Static

abbrev pub owner_at : code.Home → Owner
owner_at home.Object = OfObject
owner_at home.Instance = OfClass
owner_at home.Static = OfClass

-- a member of a class
abbrev pub is_classed : code.Home → Bool
is_classed home.Object = false
is_classed h = true

-- ---- getters and setters behind their keys, in their own surroundings

abbrev pub getter_symbols : Production
getter_symbols = p "(" ∷ p ")" ∷ sp ∷ body

abbrev pub getter_row : List Piece
getter_row = pieces [] getter_symbols

abbrev pub setter_symbols : Production
setter_symbols = p "(" ∷ Part SetterParam ∷ p ")" ∷ sp ∷ body

abbrev pub setter_row : List Piece
setter_row = pieces [] setter_symbols

-- The text is this parameter, and of all that may stand there and have come to their ends it is no other: a name alone is read too before what goes on with an expression
pub record OnlySetterParam (v : Surroundings) (x : Place) (t : Tree) (y : Place) : Type 0 where
  pub reads : Staged v false SetterParam x t y
  pub alone : (u : Tree) (z : Place) → Whole so_far v false SetterParam x u z → (t ≡ u) × (y ≡ z)

abbrev pub setter_parts : SetterCode → Forest
setter_parts s = part (view_pat s.param.value) (part (view_body s.body) none)

abbrev pub told_setter : SetterCode → Tales
told_setter s = tale (told_pat s.param.value) (tale (told_of s.body) no_tales)

-- a parameter that is more than a name stands before no body that is strict by itself
abbrev pub suits_setter : Forest → Bool
suits_setter (part q (part b none)) = not (is_strict_body b) || is_word q
suits_setter ts = false

pub record NoSetter (v : Surroundings) (x : Place) (e : Fault) : Type 0 where
  pub no : (ts : Forest) (y : Place) → Walk (Whole so_far) (steady v) setter_row x ts y → suits_setter ts ≡ true → Shallow e (deepest ts) → ⊥

-- ---- fields behind their keys, in what their values stand in

abbrev pub field_symbols : Production
field_symbols = Fixed (Ends AfterKey) ∷ Optional (Space ∷ pun "=" ∷ Space ∷ []) (Expr 1) [] [] ∷ semi ∷ []

abbrev pub field_row : List Piece
field_row = pieces [] field_symbols

-- ---- members behind their keys

-- the row behind the key
abbrev pub past_key : List Piece → List Piece
past_key [] = []
past_key (piece a (Part Key) ∷ ps) = ps
past_key (q ∷ ps) = past_key ps

abbrev pub behind_key : Kind → List Piece
behind_key k = past_key (row_so_far k)

abbrev pub from_key : Kind → List Piece
from_key k = piece [] (Part Key) ∷ behind_key k

-- of some kinds: behind the key stands the rest of this node, and of no other; of none
pub record OnlyKeyed (p : Kind → Bool) (v : Surroundings) (key t : Tree) (x y : Place) : Type 0 where
  pub kind : Kind
  pub keyed : p kind ≡ true
  pub parts : Forest
  pub is : t ≡ node kind (part key parts)
  pub walk : Walk (Whole so_far) (around v (part key parts)) (behind_key kind) x parts y
  pub keeps : so_far.keeps kind v (part key parts) ≡ true
  pub alone : (k : Kind) (us : Forest) (z : Place) → p k ≡ true → Walk (Whole so_far) (around v (part key us)) (behind_key k) x us z → so_far.keeps k v (part key us) ≡ true → (node k (part key us) ≡ t) × (z ≡ y)

pub record NoneKeyed (p : Kind → Bool) (v : Surroundings) (key : Tree) (x : Place) (e : Fault) : Type 0 where
  pub no : (k : Kind) (us : Forest) (z : Place) → p k ≡ true → Walk (Whole so_far) (around v (part key us)) (behind_key k) x us z → so_far.keeps k v (part key us) ≡ true → Shallow e (deepest us) → ⊥

-- the same from the key on
pub record OnlyFromKey (p : Kind → Bool) (v : Surroundings) (t : Tree) (x y : Place) : Type 0 where
  pub kind : Kind
  pub keyed : p kind ≡ true
  pub parts : Forest
  pub is : t ≡ node kind parts
  pub walk : Walk (Whole so_far) (around v parts) (from_key kind) x parts y
  pub keeps : so_far.keeps kind v parts ≡ true
  pub alone : (k : Kind) (us : Forest) (z : Place) → p k ≡ true → Walk (Whole so_far) (around v us) (from_key k) x us z → so_far.keeps k v us ≡ true → (node k us ≡ t) × (z ≡ y)

pub record NoneFromKey (p : Kind → Bool) (v : Surroundings) (x : Place) (e : Fault) : Type 0 where
  pub no : (k : Kind) (us : Forest) (z : Place) → p k ≡ true → Walk (Whole so_far) (around v us) (from_key k) x us z → so_far.keeps k v us ≡ true → Shallow e (deepest us) → ⊥

-- by holders
abbrev pub same_holder : Holder → Holder → Bool
same_holder InObject InObject = true
same_holder InClass InClass = true
same_holder Static Static = true
same_holder g h = false

abbrev pub is_method : Holder → Kind → Bool
is_method h (function (Method g)) = same_holder h g
is_method h k = false

abbrev pub is_getter : Holder → Kind → Bool
is_getter h (function (Getter g)) = same_holder h g
is_getter h k = false

abbrev pub is_setter : Holder → Kind → Bool
is_setter h (function (Setter g)) = same_holder h g
is_setter h k = false

abbrev pub is_field : Holder → Kind → Bool
is_field h (function (Field g)) = same_holder h g
is_field h k = false

-- a member of a class whose first token is in its key
abbrev pub keyed_in_class : Holder → Kind → Bool
keyed_in_class h k = is_method h k || is_field h k

-- ---- members of a class, behind `static` or where there is none

abbrev pub is_element : Holder → Kind → Bool
is_element h k = keyed_in_class h k || (is_getter h k || is_setter h k)

abbrev pub is_static : Holder → Bool
is_static Static = true
is_static h = false

abbrev pub element_row : Holder → Kind → List Piece
element_row h k = cond (is_static h) (tail (row_so_far k)) (row_so_far k)

pub record OnlyElement (h : Holder) (v : Surroundings) (t : Tree) (x y : Place) : Type 0 where
  pub kind : Kind
  pub one : is_element h kind ≡ true
  pub parts : Forest
  pub is : t ≡ node kind parts
  pub walk : Walk (Whole so_far) (around v parts) (element_row h kind) x parts y
  pub keeps : so_far.keeps kind v parts ≡ true
  pub alone : (k : Kind) (us : Forest) (z : Place) → is_element h k ≡ true → Walk (Whole so_far) (around v us) (element_row h k) x us z → so_far.keeps k v us ≡ true → (node k us ≡ t) × (z ≡ y)

pub record NoElement (h : Holder) (v : Surroundings) (x : Place) (e : Fault) : Type 0 where
  pub no : (k : Kind) (us : Forest) (z : Place) → is_element h k ≡ true → Walk (Whole so_far) (around v us) (element_row h k) x us z → so_far.keeps k v us ≡ true → Shallow e (deepest us) → ⊥

-- ---- places

-- the words before a key: of a method or a field, of a getter, of a setter
abbrev pub holder_words : Holder → List Sign
holder_words Static = symbol.key "static" ∷ []
holder_words h = []

abbrev pub getter_words : Holder → List Sign
getter_words h = holder_words h ++ symbol.key "get" ∷ []

abbrev pub setter_words : Holder → List Sign
setter_words h = holder_words h ++ symbol.key "set" ∷ []

pub data TakesAll : List Sign → Here → Here → Type 0 where
  took_none : {x : Here} → TakesAll [] x x
  took_more : {s : Sign} {ss : List Sign} {x y z : Here} → Takes s x y → TakesAll ss y z → TakesAll (s ∷ ss) x z

-- a member behind its key is told from where the words before the key begin, or the key; and from its key on
pub record IsPlacedMember (ss : List Sign) (lo : ℕ) (d : Told) (key : Tree) (x : Here) (e : Told) (t : Tree) (y : Here) : Type 0 where
  pub on : (a b : Here) → TakesAll ss a b → lo ≡ next_of a → IsPlaced d key b x → IsPlaced e t a y

pub record IsPlacedFrom (ss : List Sign) (lo : ℕ) (x : Here) (e : Told) (t : Tree) (y : Here) : Type 0 where
  pub on : (a : Here) → TakesAll ss a x → lo ≡ next_of a → IsPlaced e t a y

-- where it begins, of a place before it, or its first token's
abbrev pub begun_at : Option BytePos → BytePos → BytePos
begun_at (Some p) f = p
begun_at None f = f

abbrev pub at_start : Option BytePos → ℕ → Type 0
at_start (Some p) n = p.0 ≡ n
at_start None n = ⊥

-- one behind `static`, from where that begins; where there is none, from its own first token
pub record IsPlacedElement (h : Holder) (start : Option BytePos) (x : Here) (e : Told) (t : Tree) (y : Here) : Type 0 where
  pub own : is_static h ≡ false → start ≡ None → IsPlaced e t x y
  pub behind : (a : Here) → is_static h ≡ true → Takes (symbol.key "static") a x → at_start start (next_of a) → IsPlaced e t a y
