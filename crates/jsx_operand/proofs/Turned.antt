-- What a cover turns into, where it stands: a literal or a target, in lists, and as a parameter of the arrow function that has it.
use Rattle.std.proofs.Common.{◌≡◌, Bool, true, false, not, refl, sym, ◌∙◌, ap}
use Rattle.std.specs.Prelude.{◌&&◌, ◌||◌}
use Rattle.jsx_base.specs.Token.{Text, Operator, IdentifierName, Elision, breaks, token}
use Rattle.jsx_tree.specs.Kinds.{InObject, Imported, Nullish, VarWord, Specifier, SpecifierAs, Var, Method, Getter, Setter, Field, ArrayPat, ObjectPat, PropertyPat, ShorthandPat, ShorthandInit, WithInit, RestPat, RestProperty, Array, Object, Assigns, Binds, Binary, OpAssign, Parenthesized, PlainTemplate, SubstitutedTemplate, TemplateSpan, ProgramKind, StatementKind, FunctionKind, ExpressionKind, JsxKind, Element, Kind, program, statement, function, expression, jsx, Tree, leaf, node, list, Forest, none, part}
use Rattle.jsx_tree.specs.Nonterminals.{Nonterminal, BindingIdent, Expr, Key, Param, Pat, PatElement, PatProp, Slot, homes, in_homes}
use Rattle.jsx_tree.specs.Grammar.{InArrow}
use Rattle.jsx_tree.specs.Form.{admits, fit_each, fit_slots, fits_below, last_only, positions}
use Rattle.jsx_tree.specs.Grows.{as_target}
use Rattle.jsx_tree.specs.StaticRules.{Surroundings, enter}
use Rattle.jsx_tree.specs.Stops.{level_asked}
use Rattle.jsx_tree.specs.Reading.{Place, Lost, At}
use Rattle.jsx_tree.specs.Language.{Whole}
use Rattle.jsx_tree.proofs.Tokens.{and_left, and_right, and_both}
use Rattle.jsx_tree.proofs.Rows.Steps.{both}
use Rattle.jsx_token.specs.Marks.{ends_so_far, goes_on_so_far}
use Rattle.jsx_token.specs.Stage.{leaf_at}
use Rattle.jsx_operand.specs.Climbing.{is_target}
use Rattle.jsx_operand.specs.Patterns.{is_rest}
use Rattle.jsx_operand.specs.SoFar.{Staged, so_far}
use Rattle.jsx_operand.specs.Turning.{Turns, turn_target, turn_array, turn_object, TurnsElement, turn_plain, turn_filled, TurnsSlots, slots_none, slot_hole, slot, slot_rest, TurnsParts, parts_none, part_pair, part_short, part_preset, part_rest, Suits, suits_name, suits_hole, suits_array, suits_object, suits_filled, suits_rest, suits_pair, suits_short, suits_preset, suits_others, SuitsAll, suits_none, suits_more, is_assign, is_bracketed, is_elision, is_literal}
use Rattle.jsx_operand.proofs.Arrows.{arrow_read, arrow_back, is_stated}
use Rattle.jsx_operand.proofs.Binding.{Seats, at_element, suits_read, suits_back, suits_stage}

-- ---- a literal turns into a pattern in brackets, and a target into itself

pub target_unlike : (t : Tree) → is_target t ≡ true → is_literal t ≡ false
target_unlike (leaf k t) e = refl
target_unlike (node (expression Array) ts) e = cc
target_unlike (node (expression Object) ts) e = cc
target_unlike (node _ ts) e = refl
target_unlike (list ts) e = refl

target_plain : (t : Tree) → is_target t ≡ true → is_bracketed (as_target t) ≡ false
target_plain (leaf k t) e = refl
target_plain (node (expression Parenthesized) ts) e = refl
target_plain (node (function (ArrayPat r)) ts) e = cc
target_plain (node (function (ObjectPat r)) ts) e = cc
target_plain (node _ ts) e = refl
target_plain (list ts) e = refl

clash : (b : Bool) → b ≡ true → b ≡ false → ⊥
clash true h e = cc
clash false h e = cc

pub turned_target : {t p : Tree} → Turns t p → is_literal t ≡ false → p ≡ as_target t
turned_target (turn_target e) h = refl
turned_target (turn_array l) h = cc
turned_target (turn_object l) h = cc

pub turned_aims : {t p : Tree} → Turns t p → is_literal t ≡ false → is_target t ≡ true
turned_aims (turn_target e) h = e
turned_aims (turn_array l) h = cc
turned_aims (turn_object l) h = cc

pub turned_bracketed : {t p : Tree} → Turns t p → is_literal t ≡ true → is_bracketed p ≡ true
turned_bracketed (turn_target {t = t} e) h = absurd (clash (is_literal t) h (target_unlike t e))
turned_bracketed (turn_array l) h = refl
turned_bracketed (turn_object l) h = refl

pub bracketed_literal : {t p : Tree} → Turns t p → is_bracketed p ≡ true → is_literal t ≡ true
bracketed_literal (turn_target {t = t} e) h = absurd (clash (is_bracketed (as_target t)) h (target_plain t e))
bracketed_literal (turn_array l) h = refl
bracketed_literal (turn_object l) h = refl

-- what is no assignment has no default
pub plain_element : {t p : Tree} → TurnsElement t p → is_assign t ≡ false → Turns t p
plain_element (turn_plain d) h = d
plain_element turn_filled h = cc

-- ---- lists of them, one behind another

pub slots_both : {ts us qs rs : Forest} → TurnsSlots ts us → TurnsSlots qs rs → TurnsSlots (both ts qs) (both us rs)
slots_both slots_none m = m
slots_both (slot_hole l) m = slot_hole (slots_both l m)
slots_both (slot i l) m = slot i (slots_both l m)
slots_both (slot_rest d l) m = slot_rest d (slots_both l m)

pub record SlotsParted (ts qs ws : Forest) : Type 0 where
  pub front : Forest
  pub back : Forest
  pub is : ws ≡ both front back
  pub first : TurnsSlots ts front
  pub second : TurnsSlots qs back

pub slots_parted : (ts : Forest) {qs ws : Forest} → TurnsSlots (both ts qs) ws → SlotsParted ts qs ws
slots_parted none {ws = ws} l = record { front = none; back = ws; is = refl; first = slots_none; second = l }
slots_parted (part t ts) (slot_hole {t = s} l) = let r = slots_parted ts l in record { front = part (leaf Elision s) r.front; back = r.back; is = ap (part (leaf Elision s)) r.is; first = slot_hole r.first; second = r.second }
slots_parted (part t ts) (slot {u = u} i l) = let r = slots_parted ts l in record { front = part u r.front; back = r.back; is = ap (part u) r.is; first = slot i r.first; second = r.second }
slots_parted (part t ts) (slot_rest {u = u} d l) = let r = slots_parted ts l in record { front = part (node (function (RestPat Assigns)) (part u none)) r.front; back = r.back; is = ap (part (node (function (RestPat Assigns)) (part u none))) r.is; first = slot_rest d r.first; second = r.second }

pub parts_both : {ts us qs rs : Forest} → TurnsParts ts us → TurnsParts qs rs → TurnsParts (both ts qs) (both us rs)
parts_both parts_none m = m
parts_both (part_pair i l) m = part_pair i (parts_both l m)
parts_both (part_short e l) m = part_short e (parts_both l m)
parts_both (part_preset l) m = part_preset (parts_both l m)
parts_both (part_rest e l) m = part_rest e (parts_both l m)

pub record PartsParted (ts qs ws : Forest) : Type 0 where
  pub front : Forest
  pub back : Forest
  pub is : ws ≡ both front back
  pub first : TurnsParts ts front
  pub second : TurnsParts qs back

pub parts_parted : (ts : Forest) {qs ws : Forest} → TurnsParts (both ts qs) ws → PartsParted ts qs ws
parts_parted none {ws = ws} l = record { front = none; back = ws; is = refl; first = parts_none; second = l }
parts_parted (part t ts) (part_pair {k = k} {u = u} i l) = let r = parts_parted ts l in record { front = part (node (function (PropertyPat Assigns)) (part k (part u none))) r.front; back = r.back; is = ap (part (node (function (PropertyPat Assigns)) (part k (part u none)))) r.is; first = part_pair i r.first; second = r.second }
parts_parted (part t ts) (part_short {n = n} e l) = let r = parts_parted ts l in record { front = part (node (function (ShorthandPat Assigns)) (part (leaf IdentifierName n) none)) r.front; back = r.back; is = ap (part (node (function (ShorthandPat Assigns)) (part (leaf IdentifierName n) none))) r.is; first = part_short e r.first; second = r.second }
parts_parted (part t ts) (part_preset {n = n} {e = e} l) = let r = parts_parted ts l in record { front = part (node (function (ShorthandInit Assigns)) (part (leaf IdentifierName n) (part e none))) r.front; back = r.back; is = ap (part (node (function (ShorthandInit Assigns)) (part (leaf IdentifierName n) (part e none)))) r.is; first = part_preset r.first; second = r.second }
parts_parted (part t ts) (part_rest {n = n} e l) = let r = parts_parted ts l in record { front = part (node (function (RestProperty Assigns)) (part (leaf IdentifierName n) none)) r.front; back = r.back; is = ap (part (node (function (RestProperty Assigns)) (part (leaf IdentifierName n) none))) r.is; first = part_rest e r.first; second = r.second }

-- ---- the places of patterns: which kinds of one stand at another, by one test of every kind

abbrev pub is_filled : Kind → Bool
is_filled (function (WithInit r)) = true
is_filled k = false

abbrev is_rest_kind : Kind → Bool
is_rest_kind (function (RestPat r)) = true
is_rest_kind k = false

abbrev is_binding : Kind → Bool
is_binding (function (ArrayPat Binds)) = true
is_binding (function (ObjectPat Binds)) = true
is_binding (function (PropertyPat Binds)) = true
is_binding (function (ShorthandPat Binds)) = true
is_binding (function (ShorthandInit Binds)) = true
is_binding (function (WithInit Binds)) = true
is_binding (function (RestPat Binds)) = true
is_binding (function (RestProperty Binds)) = true
is_binding k = false

abbrev at : Nonterminal → Kind → Bool
at c k = in_homes c (homes k)

abbrev leads_to : Bool → Bool → Bool
leads_to a b = not a || b

abbrev seated : Kind → Bool
seated k =
    leads_to (at (Pat Assigns) k) (at (PatElement Assigns) k) && (leads_to (at (PatElement Assigns) k) (at (Slot Assigns) k) && (leads_to (at (PatElement Assigns) k) (is_filled k || at (Pat Assigns) k)
    && (leads_to (at (Slot Assigns) k) (is_rest_kind k || at (PatElement Assigns) k) && (leads_to (at (PatElement Binds) k) (at Param k) && (leads_to (at Param k) (is_rest_kind k || at (PatElement Binds) k)
    && (leads_to (at (Pat Binds) k) (is_binding k) && (leads_to (at (PatElement Binds) k) (is_binding k) && (leads_to (at (Slot Binds) k) (is_binding k) && leads_to (at (PatProp Binds) k) (is_binding k)))))))))

program_seated : (k : ProgramKind) → seated (program k) ≡ true
program_seated (Specifier Imported) = refl
program_seated (Specifier _) = refl
program_seated (SpecifierAs Imported) = refl
program_seated (SpecifierAs _) = refl
program_seated _ = refl

statement_seated : (k : StatementKind) → seated (statement k) ≡ true
statement_seated (Var VarWord) = refl
statement_seated (Var _) = refl
statement_seated _ = refl

function_seated : (k : FunctionKind) → seated (function k) ≡ true
function_seated (Method InObject) = refl
function_seated (Method _) = refl
function_seated (Getter InObject) = refl
function_seated (Getter _) = refl
function_seated (Setter InObject) = refl
function_seated (Setter _) = refl
function_seated (Field InObject) = refl
function_seated (Field _) = refl
function_seated (ArrayPat Binds) = refl
function_seated (ArrayPat _) = refl
function_seated (ObjectPat Binds) = refl
function_seated (ObjectPat _) = refl
function_seated (PropertyPat Binds) = refl
function_seated (PropertyPat _) = refl
function_seated (ShorthandPat Binds) = refl
function_seated (ShorthandPat _) = refl
function_seated (ShorthandInit Binds) = refl
function_seated (ShorthandInit _) = refl
function_seated (WithInit Binds) = refl
function_seated (WithInit _) = refl
function_seated (RestPat Binds) = refl
function_seated (RestPat _) = refl
function_seated (RestProperty Binds) = refl
function_seated (RestProperty _) = refl
function_seated _ = refl

expression_seated : (k : ExpressionKind) → seated (expression k) ≡ true
expression_seated (OpAssign Nullish) = refl
expression_seated (OpAssign _) = refl
expression_seated (Binary Nullish) = refl
expression_seated (Binary _) = refl
expression_seated (PlainTemplate true) = refl
expression_seated (PlainTemplate _) = refl
expression_seated (SubstitutedTemplate true) = refl
expression_seated (SubstitutedTemplate _) = refl
expression_seated (TemplateSpan true) = refl
expression_seated (TemplateSpan _) = refl
expression_seated _ = refl

jsx_seated : (k : JsxKind) → seated (jsx k) ≡ true
jsx_seated Element = refl
jsx_seated _ = refl

kind_seated : (k : Kind) → seated k ≡ true
kind_seated (program k) = program_seated k
kind_seated (statement k) = statement_seated k
kind_seated (function k) = function_seated k
kind_seated (expression k) = expression_seated k
kind_seated (jsx k) = jsx_seated k

leads : (a b : Bool) → leads_to a b ≡ true → a ≡ true → b ≡ true
leads true b h e = h
leads false b h e = cc

record Seating (k : Kind) : Type 0 where
  pat_too : at (Pat Assigns) k ≡ true → at (PatElement Assigns) k ≡ true
  element_too : at (PatElement Assigns) k ≡ true → at (Slot Assigns) k ≡ true
  unfilled : at (PatElement Assigns) k ≡ true → (is_filled k || at (Pat Assigns) k) ≡ true
  unspread : at (Slot Assigns) k ≡ true → (is_rest_kind k || at (PatElement Assigns) k) ≡ true
  param_too : at (PatElement Binds) k ≡ true → at Param k ≡ true
  unresting : at Param k ≡ true → (is_rest_kind k || at (PatElement Binds) k) ≡ true
  pat_binds : at (Pat Binds) k ≡ true → is_binding k ≡ true
  element_binds : at (PatElement Binds) k ≡ true → is_binding k ≡ true
  slot_binds : at (Slot Binds) k ≡ true → is_binding k ≡ true
  part_binds : at (PatProp Binds) k ≡ true → is_binding k ≡ true

seating_of : (k : Kind) → Seating k
seating_of k =
    let a = kind_seated k in
    let b = and_right (leads_to (at (Pat Assigns) k) (at (PatElement Assigns) k)) _ a in
    let c = and_right (leads_to (at (PatElement Assigns) k) (at (Slot Assigns) k)) _ b in
    let d = and_right (leads_to (at (PatElement Assigns) k) (is_filled k || at (Pat Assigns) k)) _ c in
    let e = and_right (leads_to (at (Slot Assigns) k) (is_rest_kind k || at (PatElement Assigns) k)) _ d in
    let f = and_right (leads_to (at (PatElement Binds) k) (at Param k)) _ e in
    let g = and_right (leads_to (at Param k) (is_rest_kind k || at (PatElement Binds) k)) _ f in
    let h = and_right (leads_to (at (Pat Binds) k) (is_binding k)) _ g in
    let i = and_right (leads_to (at (PatElement Binds) k) (is_binding k)) _ h in
    record {
      pat_too = leads (at (Pat Assigns) k) _ (and_left (leads_to (at (Pat Assigns) k) (at (PatElement Assigns) k)) _ a);
      element_too = leads (at (PatElement Assigns) k) _ (and_left (leads_to (at (PatElement Assigns) k) (at (Slot Assigns) k)) _ b);
      unfilled = leads (at (PatElement Assigns) k) _ (and_left (leads_to (at (PatElement Assigns) k) (is_filled k || at (Pat Assigns) k)) _ c);
      unspread = leads (at (Slot Assigns) k) _ (and_left (leads_to (at (Slot Assigns) k) (is_rest_kind k || at (PatElement Assigns) k)) _ d);
      param_too = leads (at (PatElement Binds) k) _ (and_left (leads_to (at (PatElement Binds) k) (at Param k)) _ e);
      unresting = leads (at Param k) _ (and_left (leads_to (at Param k) (is_rest_kind k || at (PatElement Binds) k)) _ f);
      pat_binds = leads (at (Pat Binds) k) _ (and_left (leads_to (at (Pat Binds) k) (is_binding k)) _ g);
      element_binds = leads (at (PatElement Binds) k) _ (and_left (leads_to (at (PatElement Binds) k) (is_binding k)) _ h);
      slot_binds = leads (at (Slot Binds) k) _ (and_left (leads_to (at (Slot Binds) k) (is_binding k)) _ i);
      part_binds = leads (at (PatProp Binds) k) _ (and_right (leads_to (at (Slot Binds) k) (is_binding k)) _ i);
    }

-- ---- a tree at another place

abbrev pub has_default : Tree → Bool
has_default (node k ts) = is_filled k
has_default t = false

node_there : {v : Surroundings} {b : Bool} {c d : Nonterminal} {k : Kind} {ts : Forest} {x y : Place} → admits d (node k ts) ≡ true → Staged v b c x (node k ts) y → Staged v b d x (node k ts) y
node_there {c = c} {d = d} {k = k} {ts} a r = record { reads = record { is = and_both (admits d (node k ts)) _ a (and_right (admits c (node k ts)) _ r.reads.is); is_legal = r.reads.is_legal; scans = r.reads.scans; found = r.reads.found }; staged = r.staged }

node_home : {v : Surroundings} {b : Bool} {c : Nonterminal} {k : Kind} {ts : Forest} {x y : Place} → Staged v b c x (node k ts) y → admits c (node k ts) ≡ true
node_home {c = c} {k = k} {ts} r = and_left (admits c (node k ts)) _ r.reads.is

name_there : {v : Surroundings} {b : Bool} {c d : Nonterminal} {t : Text} {x y : Place} → admits d (leaf IdentifierName t) ≡ admits c (leaf IdentifierName t) → leaf_at d IdentifierName t ≡ true → Staged v b c x (leaf IdentifierName t) y → Staged v b d x (leaf IdentifierName t) y
name_there {t = t} a l r = record { reads = record { is = (λ i. a i && fits_below Param (leaf IdentifierName t)) ∙ r.reads.is; is_legal = r.reads.is_legal; scans = r.reads.scans; found = r.reads.found }; staged = l }

either_kind : (a b : Bool) → (a || b) ≡ true → a ≡ false → b ≡ true
either_kind true b h e = cc
either_kind false b h e = h

pub pat_element : {v : Surroundings} {b : Bool} {x y : Place} (t : Tree) → Staged v b (Pat Assigns) x t y → Staged v b (PatElement Assigns) x t y
pat_element (leaf IdentifierName t) r = name_there refl refl r
pat_element (leaf _ t) r = let bad = r.reads.is in cc
pat_element (node k ts) r = node_there ((seating_of k).pat_too (node_home r)) r
pat_element (list ts) r = let bad = r.reads.is in cc

pub element_slot : {v : Surroundings} {b : Bool} {x y : Place} (t : Tree) → Staged v b (PatElement Assigns) x t y → Staged v b (Slot Assigns) x t y
element_slot (leaf IdentifierName t) r = name_there refl refl r
element_slot (leaf _ t) r = let bad = r.reads.is in cc
element_slot (node k ts) r = node_there ((seating_of k).element_too (node_home r)) r
element_slot (list ts) r = let bad = r.reads.is in cc

pub element_pat : {v : Surroundings} {b : Bool} {x y : Place} (t : Tree) → has_default t ≡ false → Staged v b (PatElement Assigns) x t y → Staged v b (Pat Assigns) x t y
element_pat (leaf IdentifierName t) n r = name_there refl refl r
element_pat (leaf _ t) n r = let bad = r.reads.is in cc
element_pat (node k ts) n r = node_there (either_kind (is_filled k) _ ((seating_of k).unfilled (node_home r)) n) r
element_pat (list ts) n r = let bad = r.reads.is in cc

rest_kind : (k : Kind) (ts : Forest) → is_rest (node k ts) ≡ false → is_rest_kind k ≡ false
rest_kind (function (RestPat r)) ts h = cc
rest_kind _ ts h = refl

pub slot_element : {v : Surroundings} {b : Bool} {x y : Place} (t : Tree) → is_elision t ≡ false → is_rest t ≡ false → Staged v b (Slot Assigns) x t y → Staged v b (PatElement Assigns) x t y
slot_element (leaf IdentifierName t) h n r = name_there refl refl r
slot_element (leaf Elision t) h n r = cc
slot_element (leaf _ t) h n r = let bad = r.reads.is in cc
slot_element (node k ts) h n r = node_there (either_kind (is_rest_kind k) _ ((seating_of k).unspread (node_home r)) (rest_kind k ts n)) r
slot_element (list ts) h n r = let bad = r.reads.is in cc

pub element_param : {v : Surroundings} {b : Bool} {x y : Place} (t : Tree) → Staged v b (PatElement Binds) x t y → Staged v b Param x t y
element_param (leaf IdentifierName t) r = name_there refl refl r
element_param (leaf _ t) r = let bad = r.reads.is in cc
element_param (node k ts) r = node_there ((seating_of k).param_too (node_home r)) r
element_param (list ts) r = let bad = r.reads.is in cc

pub param_element : {v : Surroundings} {b : Bool} {x y : Place} (t : Tree) → is_rest t ≡ false → Staged v b Param x t y → Staged v b (PatElement Binds) x t y
param_element (leaf IdentifierName t) n r = name_there refl refl r
param_element (leaf _ t) n r = let bad = r.reads.is in cc
param_element (node k ts) n r = node_there (either_kind (is_rest_kind k) _ ((seating_of k).unresting (node_home r)) (rest_kind k ts n)) r
param_element (list ts) n r = let bad = r.reads.is in cc

-- where an element, a slot or a parameter has come to its end, each of the others has
pub ends_alike : (c d : Nonterminal) (y : Place) → level_asked c ≡ level_asked d → ends_so_far c y ≡ ends_so_far d y
ends_alike c d Lost e = refl
ends_alike c d (At q f text) e = ap (λ l. not (goes_on_so_far l f (breaks text) (token Operator false text))) e

-- what a cover turns into has a default only where it is an assignment
target_bare : (t : Tree) → is_target t ≡ true → has_default (as_target t) ≡ false
target_bare (leaf k t) e = refl
target_bare (node (expression Parenthesized) ts) e = refl
target_bare (node (function (WithInit r)) ts) e = cc
target_bare (node _ ts) e = refl
target_bare (list ts) e = refl

pub turned_bare : {t p : Tree} → Turns t p → has_default p ≡ false
turned_bare (turn_target {t = t} e) = target_bare t e
turned_bare (turn_array l) = refl
turned_bare (turn_object l) = refl

pub turned_pat : {v : Surroundings} {b : Bool} {x y : Place} {t p : Tree} → Turns t p → Staged v b (PatElement Assigns) x p y → Staged v b (Pat Assigns) x p y
turned_pat {p = p} d r = element_pat p (turned_bare d) r

-- ---- each pattern that binds has one that assigns, of the same tokens

pub record Assigning (q : Tree) : Type 0 where
  pub pattern : Tree
  pub suits : Suits pattern q

pub record AllAssigning (qs : Forest) : Type 0 where
  pub patterns : Forest
  pub suit : SuitsAll patterns qs

data Bound : Nonterminal → Type 0 where
  pat : Bound (Pat Binds)
  element : Bound (PatElement Binds)
  slots : Bound (Slot Binds)
  parts : Bound (PatProp Binds)

bound_kind : {c : Nonterminal} (k : Kind) (ts : Forest) → Bound c → admits c (node k ts) ≡ true → is_binding k ≡ true
bound_kind k ts pat h = (seating_of k).pat_binds h
bound_kind k ts element h = (seating_of k).element_binds h
bound_kind k ts slots h = (seating_of k).slot_binds h
bound_kind k ts parts h = (seating_of k).part_binds h

-- no part more than the row has
one_more : (a b : Bool) → (a && (b && false)) ≡ true → ⊥
one_more a b h = let bad = and_right b false (and_right a _ h) in cc

two_more : (a b c d : Bool) → (a && (b && (c && (d && false)))) ≡ true → ⊥
two_more a b c d h = one_more c d (and_right b _ (and_right a _ h))

mutual
  assigning : {c : Nonterminal} (q : Tree) → Bound c → admits c q ≡ true → fits_below c q ≡ true → Assigning q
  assigning (leaf IdentifierName n) e a f = record { pattern = leaf IdentifierName n; suits = suits_name }
  assigning (leaf Elision t) e a f = record { pattern = leaf Elision t; suits = suits_hole }
  assigning (leaf _ t) pat a f = cc
  assigning (leaf _ t) element a f = cc
  assigning (leaf _ t) slots a f = cc
  assigning (leaf _ t) parts a f = cc
  assigning (list ts) e a f = cc
  assigning (node k ts) e a f = of_kind k ts (bound_kind k ts e a) f

  of_kind : (k : Kind) (cs : Forest) → is_binding k ≡ true → fit_slots (positions k) cs ≡ true → Assigning (node k cs)
  of_kind (function (ArrayPat Binds)) none h f = cc
  of_kind (function (ArrayPat Binds)) (part (leaf k t) cs) h f = cc
  of_kind (function (ArrayPat Binds)) (part (node k ts) cs) h f = cc
  of_kind (function (ArrayPat Binds)) (part (list ts) none) h f =
      let l = all_assigning ts slots (and_left (fit_each (Slot Binds) ts) _ (and_right (last_only ts) _ f)) in
      record { pattern = node (function (ArrayPat Assigns)) (part (list l.patterns) none); suits = suits_array l.suit }
  of_kind (function (ArrayPat Binds)) (part (list ts) (part u us)) h f = absurd (one_more (last_only ts) (fit_each (Slot Binds) ts) f)
  of_kind (function (ObjectPat Binds)) none h f = cc
  of_kind (function (ObjectPat Binds)) (part (leaf k t) cs) h f = cc
  of_kind (function (ObjectPat Binds)) (part (node k ts) cs) h f = cc
  of_kind (function (ObjectPat Binds)) (part (list ts) none) h f =
      let l = all_assigning ts parts (and_left (fit_each (PatProp Binds) ts) _ (and_right (last_only ts) _ f)) in
      record { pattern = node (function (ObjectPat Assigns)) (part (list l.patterns) none); suits = suits_object l.suit }
  of_kind (function (ObjectPat Binds)) (part (list ts) (part u us)) h f = absurd (one_more (last_only ts) (fit_each (PatProp Binds) ts) f)
  of_kind (function (RestPat Binds)) none h f = cc
  of_kind (function (RestPat Binds)) (part q none) h f =
      let p = assigning q pat (and_left (admits (Pat Binds) q) _ f) (and_left (fits_below (Pat Binds) q) _ (and_right (admits (Pat Binds) q) _ f)) in
      record { pattern = node (function (RestPat Assigns)) (part p.pattern none); suits = suits_rest p.suits }
  of_kind (function (RestPat Binds)) (part t (part u us)) h f = absurd (one_more (admits (Pat Binds) t) (fits_below (Pat Binds) t) f)
  of_kind (function (ShorthandPat Binds)) none h f = cc
  of_kind (function (ShorthandPat Binds)) (part n none) h f = record { pattern = node (function (ShorthandPat Assigns)) (part n none); suits = suits_short }
  of_kind (function (ShorthandPat Binds)) (part t (part u us)) h f = absurd (one_more (admits BindingIdent t) (fits_below BindingIdent t) f)
  of_kind (function (RestProperty Binds)) none h f = cc
  of_kind (function (RestProperty Binds)) (part n none) h f = record { pattern = node (function (RestProperty Assigns)) (part n none); suits = suits_others }
  of_kind (function (RestProperty Binds)) (part t (part u us)) h f = absurd (one_more (admits BindingIdent t) (fits_below BindingIdent t) f)
  of_kind (function (WithInit Binds)) none h f = cc
  of_kind (function (WithInit Binds)) (part t none) h f = absurd (one_more (admits (Pat Binds) t) (fits_below (Pat Binds) t) f)
  of_kind (function (WithInit Binds)) (part q (part e none)) h f =
      let p = assigning q pat (and_left (admits (Pat Binds) q) _ f) (and_left (fits_below (Pat Binds) q) _ (and_right (admits (Pat Binds) q) _ f)) in
      record { pattern = node (function (WithInit Assigns)) (part p.pattern (part e none)); suits = suits_filled p.suits }
  of_kind (function (WithInit Binds)) (part t (part u (part w ws))) h f = absurd (two_more (admits (Pat Binds) t) (fits_below (Pat Binds) t) (admits (Expr 1) u) (fits_below (Expr 1) u) f)
  of_kind (function (PropertyPat Binds)) none h f = cc
  of_kind (function (PropertyPat Binds)) (part t none) h f = absurd (one_more (admits Key t) (fits_below Key t) f)
  of_kind (function (PropertyPat Binds)) (part k (part q none)) h f =
      let g = and_right (fits_below Key k) _ (and_right (admits Key k) _ f) in
      let p = assigning q element (and_left (admits (PatElement Binds) q) _ g) (and_left (fits_below (PatElement Binds) q) _ (and_right (admits (PatElement Binds) q) _ g)) in
      record { pattern = node (function (PropertyPat Assigns)) (part k (part p.pattern none)); suits = suits_pair p.suits }
  of_kind (function (PropertyPat Binds)) (part t (part u (part w ws))) h f = absurd (two_more (admits Key t) (fits_below Key t) (admits (PatElement Binds) u) (fits_below (PatElement Binds) u) f)
  of_kind (function (ShorthandInit Binds)) none h f = cc
  of_kind (function (ShorthandInit Binds)) (part t none) h f = absurd (one_more (admits BindingIdent t) (fits_below BindingIdent t) f)
  of_kind (function (ShorthandInit Binds)) (part n (part e none)) h f = record { pattern = node (function (ShorthandInit Assigns)) (part n (part e none)); suits = suits_preset }
  of_kind (function (ShorthandInit Binds)) (part t (part u (part w ws))) h f = absurd (two_more (admits BindingIdent t) (fits_below BindingIdent t) (admits (Expr 1) u) (fits_below (Expr 1) u) f)
  of_kind _ cs h f = cc

  all_assigning : {c : Nonterminal} (ts : Forest) → Bound c → fit_each c ts ≡ true → AllAssigning ts
  all_assigning none e f = record { patterns = none; suit = suits_none }
  all_assigning {c} (part t ts) e f =
      let g = and_right (admits c t) _ f in
      let p = assigning t e (and_left (admits c t) _ f) (and_left (fits_below c t) _ g) in
      let l = all_assigning ts e (and_right (fits_below c t) _ g) in
      record { patterns = part p.pattern l.patterns; suit = suits_more p.suits l.suit }

pub element_assigns : {v : Surroundings} {b : Bool} {x y : Place} (q : Tree) → Staged v b (PatElement Binds) x q y → Assigning q
element_assigns q r = assigning q element (and_left (admits (PatElement Binds) q) _ r.reads.is) (and_right (admits (PatElement Binds) q) _ r.reads.is)

-- ---- read alike: a pattern that assigns to names alone and the one that binds them, and either in an arrow function

pub suits_staged : {v : Surroundings} {b : Bool} {c d : Nonterminal} {x y : Place} {p q : Tree} → Seats c d → Suits p q → Staged v b c x p y → Staged v b d x q y
suits_staged e s r = record { reads = suits_read e s r.reads; staged = sym (suits_stage e s) ∙ r.staged }

pub suits_unstaged : {v : Surroundings} {b : Bool} {c d : Nonterminal} {x y : Place} {p q : Tree} → Seats c d → Suits p q → Staged v b d x q y → Staged v b c x p y
suits_unstaged e s r = record { reads = suits_back e s r.reads; staged = suits_stage e s ∙ r.staged }

pub arrow_staged : {v : Surroundings} {b : Bool} {c : Nonterminal} {x y : Place} {t : Tree} → is_stated c ≡ false → Staged v b c x t y → Staged (enter none InArrow v) b c x t y
arrow_staged p r = record { reads = arrow_read p r.reads; staged = r.staged }

pub arrow_unstaged : {v : Surroundings} {b : Bool} {c : Nonterminal} {x y : Place} {t : Tree} → is_stated c ≡ false → Staged (enter none InArrow v) b c x t y → Staged v b c x t y
arrow_unstaged p r = record { reads = arrow_back p r.reads; staged = r.staged }

-- ---- a parameter of an arrow function, whose pattern was read outside of it

pub param_turned : {v : Surroundings} {x y : Place} {p q : Tree} → Suits p q → Whole so_far v false (PatElement Assigns) x p y → Whole so_far (enter none InArrow v) false Param x q y
param_turned {y = y} {q = q} s w = record { reads = arrow_staged refl (element_param q (suits_staged at_element s w.reads)); ends_there = ends_alike Param (PatElement Assigns) y refl ∙ w.ends_there }

pub record ParamOf (v : Surroundings) (x : Place) (q : Tree) (y : Place) : Type 0 where
  pub pattern : Tree
  pub suits : Suits pattern q
  pub whole : Whole so_far v false (PatElement Assigns) x pattern y

-- what is read there and is no rest
pub param_back : {v : Surroundings} {x y : Place} (q : Tree) → is_rest q ≡ false → Whole so_far (enter none InArrow v) false Param x q y → ParamOf v x q y
param_back {y = y} q n w =
    let r = param_element q n (arrow_unstaged {c = Param} refl w.reads) in
    let p = element_assigns q r in
    record { pattern = p.pattern; suits = p.suits; whole = record { reads = suits_unstaged at_element p.suits r; ends_there = ends_alike (PatElement Assigns) Param y refl ∙ w.ends_there } }
