-- What is read before it is known whether it is an expression or a pattern, of both at once: arrays and objects from their brackets on, and what stands in them (ECMA-262 sections 13.2.5 and 13.15.5).
use Rattle.std.specs.Prelude.{◌≡◌, ℕ, List, [], ◌∷◌, Bool, true, false, map, ◌||◌}
use Rattle.jsx_base.specs.Token.{Text, Operator, IdentifierName, among}
use Rattle.jsx_tree.specs.Signs.{Pad, Sign, Tok}
use Rattle.jsx_tree.specs.Kinds.{Assigns, Array, ArrayPat, Object, ObjectPat, RestProperty, Spread, expression, function, Tree, leaf, node, list, Forest, none, part}
use Rattle.jsx_tree.specs.Nonterminals.{ArrayItem, Ident, Key, ObjectMember, PatProp, Pat, Slot, reserved}
use Rattle.jsx_tree.specs.Grammar.{Commas, Elisions, Fixed, Many, Part, p, pun}
use Rattle.jsx_tree.specs.Grammar as symbol
use Rattle.jsx_tree.specs.Reading.{Place, forth}
use Rattle.jsx_tree.specs.StaticRules.{Surroundings}
use Rattle.jsx_tree.specs.Spans.{Told, no_tales, tale}
use Rattle.jsx_tree.specs.Told.{told_expr, told_list, told_prop}
use Rattle.jsx_tree.specs.View.{forest, inside, view_expr}
use Rattle.jsx_tree.specs.Walk.{Piece, Walk, is_found, one, steady, tail}
use Rattle.jsx_tree.specs.Language.{Whole}
use Rattle.jsx_tree.specs.Answers.{Moves, NoRow, Only, OnlyRow, Stuck}
use Rattle.jsx_tree.specs.Faults.{Fault, Unread, Shallow, outer, part_depth}
use Rattle.jsx_token.specs.Here.{Here}
use Rattle.jsx_token.specs.Marks.{row_so_far}
use Rattle.jsx_token.specs.Growths.{same_sign}
use Rattle.jsx_token.specs.Places.{Takes, begin_of, next_of}
use Rattle.jsx_make.specs.Members.{view_prop}
use Rattle.jsx_operand.specs.SoFar.{Staged, so_far}
use Rattle.jsx_operand.specs.Members.{Closed, behind_brace}
use Rattle.jsx_operand.specs.Openings.{NoneOpened, OnlyOpened}
use Rattle.jsx_operand.specs.Spans.{IsPlaced, IsPlacedRow}
use Rattle.jsx_operand.specs.Covers.{IsTurned, view_cover}
use Rattle.jsx_operand.specs.Turning.{TurnsParts, TurnsSlots, is_bracketed, is_literal, retold, retold_list, retold_part, retold_parts_list}
use Rattle.jsx_operand.specs.declared.cover.Cover.{Cover}
use Rattle.jsx_function.specs.Covers.{IsPlacedCover, told_cover}
use Rattle.jsx_function.specs.Elements.{NoItem, is_hole}
use Rattle.jsx_function.specs.Methods.{NoPrefix}
use Rattle.jsx_member.specs.Elements.{OnlyItem}
use Rattle.jsx_member.specs.declared.literals.Items.{Items}
use Rattle.jsx_member.specs.declared.literals.Member.{Member}
use Rattle.jsx_member.specs.declared.literals.Members.{Members}

-- ---- what they begin with: a pattern in brackets ends with its own, whatever stands behind it

pub record IsPatternCover (v : Surroundings) (x : Place) (c : Cover) (y : Place) : Type 0 where
  pub reads : (p : Tree) → IsTurned c p → is_bracketed p ≡ true → Staged v false (Pat Assigns) x p y
  pub alone : (p : Tree) (z : Place) → is_bracketed p ≡ true → Staged v false (Pat Assigns) x p z → IsTurned c p × (y ≡ z)

pub record NoPatternCover (v : Surroundings) (x : Place) (e : Fault) : Type 0 where
  pub no : (p : Tree) (z : Place) → is_bracketed p ≡ true → Staged v false (Pat Assigns) x p z → Shallow e (part_depth p) → ⊥

-- the signs with which an array, an object and a pattern in brackets begin
abbrev pub is_bracket_sign : Sign → Bool
is_bracket_sign s = same_sign (pun "[") s || same_sign (pun "{") s

-- behind the sign with which it begins, and from which on it counts: as an expression, where it is one, and as a pattern in brackets
pub record OpensCover (v : Surroundings) (s : Sign) (c : Cover) (x y : Place) : Type 0 where
  pub expr : c.is_expr ≡ true → OnlyOpened v s (view_cover c) x y
  pub none : c.is_expr ≡ false → NoneOpened v s x Unread
  pub pattern : (w : Place) → Moves s w x → IsPatternCover v w c y
  pub literal : is_bracket_sign s ≡ true → is_literal (view_cover c) ≡ true
  pub other : is_bracket_sign s ≡ false → is_literal (view_cover c) ≡ false
  pub may : is_literal (view_cover c) ≡ false → c.may_turn ≡ true
  pub unsettled : c.is_expr ≡ false → is_literal (view_cover c) ≡ true

pub record NoCoverOpened (v : Surroundings) (s : Sign) (x : Place) (e : Fault) : Type 0 where
  pub none : NoneOpened v s x e
  pub pattern : (w : Place) → Moves s w x → NoPatternCover v w (outer e)

-- ---- what stands in an array, and is no hole

pub record IsTurnedSlot (c : Cover) (p : Tree) : Type 0 where
  pub may : c.may_turn ≡ true
  pub turns : TurnsSlots (part (view_cover c) none) (part p none)

pub record IsItemCover (v : Surroundings) (x : Place) (c : Cover) (y : Place) : Type 0 where
  pub expr : c.is_expr ≡ true → OnlyItem v ArrayItem x (view_cover c) y
  pub none : c.is_expr ≡ false → NoItem v ArrayItem x Unread
  pub filled : is_hole (view_cover c) ≡ false
  pub reads : (p : Tree) → IsTurnedSlot c p → Staged v false (Slot Assigns) x p y
  pub alone : (p : Tree) (z : Place) → is_hole p ≡ false → Whole so_far v false (Slot Assigns) x p z → IsTurnedSlot c p × (y ≡ z)

pub record NoItemCover (v : Surroundings) (x : Place) (e : Fault) : Type 0 where
  pub item : NoItem v ArrayItem x e
  pub slot : NoItem v (Slot Assigns) x e

-- up to the `]`, with it: the rest of the literal's row, and of the pattern's
abbrev pub items_row : List Piece
items_row = tail (row_so_far (expression Array))

abbrev pub slots_row : List Piece
slots_row = tail (row_so_far (function (ArrayPat Assigns)))

abbrev pub view_items : Items → Forest
view_items q = forest (map (inside view_expr) q.all.items)

pub record AreSlots (q : Items) (ts : Forest) : Type 0 where
  pub may : q.may_turn ≡ true
  pub slots : Forest
  pub is : ts ≡ part (list slots) none
  pub turns : TurnsSlots (view_items q) slots

pub record CoversItems (v : Surroundings) (x : Place) (q : Items) (y : Place) : Type 0 where
  pub expr : q.are_exprs ≡ true → OnlyRow so_far v items_row x (part (list (view_items q)) none) y
  pub none : q.are_exprs ≡ false → NoRow so_far v items_row x Unread
  pub reads : (ts : Forest) → AreSlots q ts → Walk (Whole so_far) (steady v) slots_row x ts y
  pub alone : (ts : Forest) (z : Place) → Walk (Whole so_far) (steady v) slots_row x ts z → AreSlots q ts × (y ≡ z)

pub record NoItems (v : Surroundings) (x : Place) (e : Fault) : Type 0 where
  pub items : NoRow so_far v items_row x e
  pub slots : NoRow so_far v slots_row x e

-- ---- what stands in an object: of what ends before a comma or the brace

pub record IsTurnedPart (m : Member) (p : Tree) : Type 0 where
  pub may : m.may_turn ≡ true
  pub turns : TurnsParts (part (view_prop m.prop.value) none) (part p none)

pub record IsMemberCover (v : Surroundings) (x : Place) (m : Member) (y : Place) : Type 0 where
  pub reads_member : m.is_expr ≡ true → Staged v false ObjectMember x (view_prop m.prop.value) y
  pub member : (u : Tree) (z : Place) → Closed z → Whole so_far v false ObjectMember x u z → (m.is_expr ≡ true) × ((view_prop m.prop.value ≡ u) × (y ≡ z))
  pub reads : (p : Tree) → IsTurnedPart m p → Staged v false (PatProp Assigns) x p y
  pub alone : (p : Tree) (z : Place) → Closed z → Whole so_far v false (PatProp Assigns) x p z → IsTurnedPart m p × (y ≡ z)

pub record NoMemberCover (v : Surroundings) (x : Place) (e : Fault) : Type 0 where
  pub member : (u : Tree) (z : Place) → Closed z → Whole so_far v false ObjectMember x u z → Shallow e (part_depth u) → ⊥
  pub part' : (p : Tree) (z : Place) → Closed z → Whole so_far v false (PatProp Assigns) x p z → Shallow e (part_depth p) → ⊥

-- neither `...` nor a word of an object before its key stands there
pub record IsBare (x : Place) : Type 0 where
  pub dots : Stuck (pun "...") x
  pub getting : NoPrefix (symbol.key "get") x
  pub setting : NoPrefix (symbol.key "set") x

-- a key that is no name, or one behind which a name alone can't have ended
pub record IsKeyed (k : Tree) (x : Place) : Type 0 where
  pub named : (t : Text) → k ≡ leaf IdentifierName t → (among t reserved || (is_found (forth (pun ":") x) || is_found (forth (pun "(") x))) ≡ true

-- behind a key, wherever that was read from, and within the member, which counts from it on: a property, or a method
pub record CoversKeyed (v : Surroundings) (k : Tree) (m : Member) (x y : Place) : Type 0 where
  pub on : (w : Place) → IsBare w → Only so_far v (Part Key) w (one k) x → IsMemberCover v w m y

pub record NoCoverKeyed (v : Surroundings) (k : Tree) (x : Place) (e : Fault) : Type 0 where
  pub no : (w : Place) → IsBare w → IsKeyed k x → Only so_far v (Part Key) w (one k) x → NoMemberCover v w (outer e)

-- a property, where no method stands
pub record CoversPair (v : Surroundings) (k : Tree) (m : Member) (x y : Place) : Type 0 where
  pub on : (w : Place) → IsBare w → Only so_far v (Part Key) w (one k) x → IsMemberCover v w m y

pub record NoPair (v : Surroundings) (k : Tree) (x : Place) (e : Fault) : Type 0 where
  pub no : (w : Place) → IsBare w → IsKeyed k x → Only so_far v (Part Key) w (one k) x → Stuck (pun "(") x → NoMemberCover v w (outer e)

-- behind a name that stands for a property: with its default, or alone
pub record CoversShort (v : Surroundings) (n : Text) (x : Place) (m : Member) (y : Place) : Type 0 where
  pub on : (w : Place) → IsBare w → Only so_far v (Part Ident) w (one (leaf IdentifierName n)) x → Stuck (pun ":") x → Stuck (pun "(") x → IsMemberCover v w m y

pub record NoShortCover (v : Surroundings) (n : Text) (x : Place) (e : Fault) : Type 0 where
  pub no : (w : Place) → IsBare w → Only so_far v (Part Ident) w (one (leaf IdentifierName n)) x → Stuck (pun ":") x → Stuck (pun "(") x → NoMemberCover v w (outer e)

-- up to the `}`, with it
abbrev pub members_row : List Piece
members_row = tail (row_so_far (expression Object))

abbrev pub parts_row : List Piece
parts_row = tail (row_so_far (function (ObjectPat Assigns)))

abbrev pub view_members : Members → Forest
view_members q = forest (map (inside view_prop) q.all.items)

pub record AreParts (q : Members) (ts : Forest) : Type 0 where
  pub may : q.may_turn ≡ true
  pub parts : Forest
  pub is : ts ≡ part (list parts) none
  pub turns : TurnsParts (view_members q) parts

pub record CoversMembers (v : Surroundings) (x : Place) (q : Members) (y : Place) : Type 0 where
  pub expr : q.are_exprs ≡ true → OnlyRow so_far v members_row x (part (list (view_members q)) none) y
  pub none : q.are_exprs ≡ false → NoRow so_far v members_row x Unread
  pub reads : (ts : Forest) → AreParts q ts → Walk (Whole so_far) (steady v) parts_row x ts y
  pub alone : (ts : Forest) (z : Place) → Walk (Whole so_far) (steady v) parts_row x ts z → AreParts q ts × (y ≡ z)

pub record NoMembers (v : Surroundings) (x : Place) (e : Fault) : Type 0 where
  pub members : NoRow so_far v members_row x e
  pub parts : NoRow so_far v parts_row x e

-- ---- the places of what they tell, as an expression and as the pattern

pub record IsPlacedCoverBehind (s : Sign) (x : Here) (c : Cover) (y : Here) : Type 0 where
  pub on : (w : Here) → Takes s w x → begin_of x ≡ next_of w → IsPlacedCover c w y

pub record IsPlacedItem (c : Cover) (x y : Here) : Type 0 where
  pub expr : c.is_expr ≡ true → IsPlaced (told_cover c) (view_cover c) x y
  pub slot : (p : Tree) → IsTurnedSlot c p → IsPlaced (retold (view_cover c) (told_cover c)) p x y

abbrev pub told_items : Items → List Told
told_items q = map (inside told_expr) q.all.items

abbrev pub told_members : Members → List Told
told_members q = map (inside told_prop) q.all.items

pub record IsPlacedItems (q : Items) (x y : Here) : Type 0 where
  pub expr : q.are_exprs ≡ true → IsPlacedRow (Many Elisions ArrayItem ∷ p "]" ∷ []) (tale (told_list (told_items q)) no_tales) (part (list (view_items q)) none) x y
  pub slots : (ts : Forest) → AreSlots q ts → IsPlacedRow (Many Elisions (Slot Assigns) ∷ p "]" ∷ []) (tale (retold_list (view_items q) (told_list (told_items q))) no_tales) ts x y

pub record IsPlacedMembers (q : Members) (x y : Here) : Type 0 where
  pub expr : q.are_exprs ≡ true → IsPlacedRow behind_brace (tale (told_list (told_members q)) no_tales) (part (list (view_members q)) none) x y
  pub parts : (ts : Forest) → AreParts q ts → IsPlacedRow (Many Commas (PatProp Assigns) ∷ Fixed Pad ∷ p "}" ∷ []) (tale (retold_parts_list (view_members q) (told_list (told_members q))) no_tales) ts x y

abbrev pub told_member : Member → Told
told_member m = told_prop m.prop.value

pub record IsPlacedMember (m : Member) (x y : Here) : Type 0 where
  pub expr : m.is_expr ≡ true → IsPlaced (told_member m) (view_prop m.prop.value) x y
  pub part' : (p : Tree) → IsTurnedPart m p → IsPlaced (retold_part (view_prop m.prop.value) (told_member m)) p x y

-- a member that begins with a key from a place, behind which the rest of it stands
pub record IsPlacedPair (lo : ℕ) (d : Told) (k : Tree) (x : Here) (m : Member) (y : Here) : Type 0 where
  pub on : (w : Here) → lo ≡ next_of w → IsPlaced d k w x → IsPlacedMember m w y

-- a name that stands for a property, which begins at a place, behind its token
pub record IsPlacedShort (lo : ℕ) (n : Text) (x : Here) (m : Member) (y : Here) : Type 0 where
  pub on : (w : Here) → lo ≡ next_of w → Takes (Tok Operator IdentifierName n) w x → IsPlacedMember m w y

-- a spread in an object as the rest that it turns into, where it is of a name: behind the dots
pub record IsPlacedRest (x : Here) (d : Told) (t : Tree) (y : Here) : Type 0 where
  pub on : (w : Here) → Takes (pun "...") w x → begin_of x ≡ next_of w → (n : Text) → t ≡ node (expression Spread) (part (leaf IdentifierName n) none) → IsPlaced (retold_part t d) (node (function (RestProperty Assigns)) (part (leaf IdentifierName n) none)) w y
