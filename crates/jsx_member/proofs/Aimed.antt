-- What stands where something is assigned to: a target, a pattern in brackets, one with its default, and in an array a rest or a hole (ECMA-262 section 13.15.5). No other mark than their own stands there.
use Rattle.std.proofs.Common.{◌≡◌, Bool, true, false, List, [], ◌∷◌, refl, sym, ◌∙◌, subst}
use Rattle.std.specs.Prelude.{IsTrue, codes}
use Rattle.jsx_base.specs.Token.{Text, Operator, Punctuator, IdentifierName, Elision, same}
use Rattle.jsx_tree.specs.Signs.{Tok, Unless}
use Rattle.jsx_tree.specs.Kinds.{ArrayPat, ObjectPat, WithInit, RestPat, Assigns, Binds, Member, Index, SuperMember, SuperIndex, ParenTarget, Kind, function, expression, Tree, leaf, node, list, Forest}
use Rattle.jsx_tree.specs.Nonterminals.{ArrayItem, Pat, PatElement, Slot, leaf_in}
use Rattle.jsx_tree.specs.Grammar.{pun}
use Rattle.jsx_tree.specs.Form.{is_last, is_leaf}
use Rattle.jsx_tree.specs.Reading.{Place, Lost, forth}
use Rattle.jsx_tree.specs.StaticRules.{Surroundings}
use Rattle.jsx_tree.specs.Walk.{is_found, Piece, sign, tree, Walk, done, next, around}
use Rattle.jsx_tree.proofs.Tokens.{and_left}
use Rattle.jsx_tree.proofs.Apart.{clash, never_both}
use Rattle.jsx_tree.proofs.Rows.Stopping.{stays, token_stops}
use Rattle.jsx_tree.proofs.Rows.Firsts.{kind_home}
use Rattle.jsx_tree.proofs.Rows.Turns.{early}
use Rattle.jsx_operand.specs.SoFar.{Staged}
use Rattle.jsx_token.specs.Marks.{row_so_far}
use Rattle.jsx_token.proofs.Listed.{listed, kinds, every}
use Rattle.jsx_operand.proofs.OfSoFar.{of_so_far}
use Rattle.jsx_operand.proofs.Homes.{IsName, literal, made, Value, bound_word, taken_by, home_of, no_list}
use Rattle.jsx_operand.proofs.Standing.{standing}
use Rattle.jsx_operand.proofs.Turned.{element_pat, slot_element}
use Rattle.jsx_operand.proofs.Values.{Bracketed, in_array, in_object, at_one, bracket_none, is_opening, led_sign, move, opener, unbracketed}
use Rattle.jsx_function.specs.Elements.{is_hole}
use Rattle.jsx_member.proofs.CoverItems.{Holed}
use Rattle.jsx_member.proofs.Elements.{begins_none, close_no_item, comma_no_item, no_value_at}
use Rattle.jsx_function.proofs.Params.{comma_unless}

abbrev pub value_row : List Piece
value_row = row_so_far (function (WithInit Assigns))

abbrev pub rest_row : List Piece
rest_row = row_so_far (function (RestPat Assigns))

-- ---- at a pattern

pub data AtTarget : Tree → Type 0 where
  valued : {t : Tree} → Value t → AtTarget t
  bracketed : {k : Kind} {ts : Forest} → Bracketed k → AtTarget (node k ts)
  paired : {ts : Forest} → AtTarget (node (function ParenTarget) ts)

abbrev is_aimed : Kind → Bool
is_aimed (function (ArrayPat Assigns)) = true
is_aimed (function (ObjectPat Assigns)) = true
is_aimed (function ParenTarget) = true
is_aimed (expression Member) = true
is_aimed (expression Index) = true
is_aimed (expression SuperMember) = true
is_aimed (expression SuperIndex) = true
is_aimed k = false

aimed_is : (k : Kind) (ts : Forest) → is_aimed k ≡ true → AtTarget (node k ts)
aimed_is (function (ArrayPat Assigns)) ts h = bracketed in_array
aimed_is (function (ObjectPat Assigns)) ts h = bracketed in_object
aimed_is (function ParenTarget) ts h = paired
aimed_is (expression Member) ts h = valued (made (listed (expression Member) refl refl refl))
aimed_is (expression Index) ts h = valued (made (listed (expression Index) refl refl refl))
aimed_is (expression SuperMember) ts h = valued (made (listed (expression SuperMember) refl refl refl))
aimed_is (expression SuperIndex) ts h = valued (made (listed (expression SuperIndex) refl refl refl))
aimed_is _ ts h = cc

at_target : {v : Surroundings} {x y : Place} (t : Tree) → Staged v false (Pat Assigns) x t y → AtTarget t
at_target (leaf IdentifierName t) r = valued (literal IsName (bound_word t (and_left (leaf_in (Pat Assigns) IdentifierName t) (is_leaf IdentifierName t) r.reads.is)))
at_target (leaf _ t) r = let bad = r.staged in cc
at_target (node k ts) r = aimed_is k ts (standing (Pat Assigns) is_aimed refl k (taken_by r) (kind_home (Pat Assigns) k ts (home_of r)))
at_target (list ts) r = absurd (no_list r)

-- a mark with which none of them begins
pub record IsOther (d : Text) : Type 0 where
  pub opening : is_opening (Tok Operator Punctuator d) ≡ true
  pub none : every (begins_none (Tok Operator Punctuator d)) kinds ≡ true
  pub apart : unbracketed (Tok Operator Punctuator d) ≡ true
  pub unpaired : same (codes "(") d ≡ false

pub dots : IsOther (codes "...")
dots = record { opening = refl; none = refl; apart = refl; unpaired = refl }

comma : IsOther (codes ",")
comma = record { opening = refl; none = refl; apart = refl; unpaired = refl }

bracket : IsOther (codes "]")
bracket = record { opening = refl; none = refl; apart = refl; unpaired = refl }

target_unmarked : {v : Surroundings} {x z : Place} {d : Text} (u : Tree) → IsOther d → Staged v false (Pat Assigns) x u z → IsTrue (is_found (forth (Tok Operator Punctuator d) x)) → ⊥
target_unmarked {v} {x} {z} {d} u m r f = at (at_target u r) r
  where
    at : {t : Tree} → AtTarget t → Staged v false (Pat Assigns) x t z → ⊥
    at (valued w) q = no_value_at (Tok Operator Punctuator d) m.opening m.none f (move at_one w q)
    at (bracketed b) q = bracket_none (opener (Tok Operator Punctuator d) m.opening) m.apart f b q
    at paired q = never_both Punctuator Punctuator (codes "(") d x m.unpaired (led_sign (row_so_far (function ParenTarget)) refl (of_so_far.from_node (function ParenTarget) q).walk) f

-- ---- with a default, or without one

pub data AtElement (v : Surroundings) (x y : Place) : Tree → Type 0 where
  bare : {t : Tree} → Staged v false (Pat Assigns) x t y → AtElement v x y t
  filled : {ts : Forest} → AtElement v x y (node (function (WithInit Assigns)) ts)

pub at_element : {v : Surroundings} {x y : Place} (t : Tree) → Staged v false (PatElement Assigns) x t y → AtElement v x y t
at_element (leaf k t) r = bare (element_pat (leaf k t) refl r)
at_element (node (function (WithInit Assigns)) ts) r = filled
at_element (node (function (WithInit Binds)) ts) r = absurd (clash _ (kind_home (PatElement Assigns) (function (WithInit Binds)) ts (home_of r)) refl)
at_element (node _ ts) r = bare (element_pat (node _ ts) refl r)
at_element (list ts) r = absurd (no_list r)

value_led : {v : Surroundings} {us : Forest} {x z : Place} {d : Text} {ts : Forest} → IsOther d → Walk Staged (around v us) value_row x ts z → IsTrue (is_found (forth (Tok Operator Punctuator d) x)) → ⊥
value_led m (next (tree {t = t} q) w) f = target_unmarked t m q f

pub element_unmarked : {v : Surroundings} {x z : Place} {d : Text} (u : Tree) → IsOther d → Staged v false (PatElement Assigns) x u z → IsTrue (is_found (forth (Tok Operator Punctuator d) x)) → ⊥
element_unmarked {v} {x} {z} {d} u m r f = at (at_element u r) r
  where
    at : {t : Tree} → AtElement v x z t → Staged v false (PatElement Assigns) x t z → ⊥
    at {t} (bare q) p = target_unmarked t m q f
    at (filled {ts}) p = value_led {us = ts} m (of_so_far.from_node (function (WithInit Assigns)) p).walk f

pub element_filled : {v : Surroundings} {x y : Place} (t : Tree) → Staged v false (PatElement Assigns) x t y → is_hole t ≡ false
element_filled (leaf Elision t) r = let bad = r.staged in cc
element_filled (leaf _ t) r = refl
element_filled (node k ts) r = refl
element_filled (list ts) r = refl

-- ---- in an array

pub data AtSlot (v : Surroundings) (x y : Place) : Tree → Type 0 where
  plain : {t : Tree} → Staged v false (PatElement Assigns) x t y → AtSlot v x y t
  rest : {ts : Forest} → AtSlot v x y (node (function (RestPat Assigns)) ts)
  gap : {t : Text} → AtSlot v x y (leaf Elision t)

pub at_slot : {v : Surroundings} {x y : Place} (t : Tree) → Staged v false (Slot Assigns) x t y → AtSlot v x y t
at_slot (leaf Elision t) r = gap
at_slot (leaf _ t) r = plain (slot_element (leaf _ t) refl refl r)
at_slot (node (function (RestPat Assigns)) ts) r = rest
at_slot (node (function (RestPat Binds)) ts) r = absurd (clash _ (kind_home (Slot Assigns) (function (RestPat Binds)) ts (home_of r)) refl)
at_slot (node _ ts) r = plain (slot_element (node _ ts) refl refl r)
at_slot (list ts) r = absurd (no_list r)

pub rest_led : {v : Surroundings} {x z : Place} {ts : Forest} → Staged v false (Slot Assigns) x (node (function (RestPat Assigns)) ts) z → IsTrue (is_found (forth (pun "...") x))
rest_led r = led_sign rest_row refl (of_so_far.from_node (function (RestPat Assigns)) r).walk

-- no comma stands behind a rest
rest_guard : {v : Surroundings} {x y : Place} {ts us : Forest} → Walk Staged (around v us) rest_row x ts y → IsTrue (is_found (forth (pun ",") y)) → ⊥
rest_guard (next d (next q (next {x = p} (sign e f) (done g)))) c =
    let there = sym e ∙ stays (Unless (codes "," ∷ [])) p refl (found_of e f) in
    let gone : forth (Unless (codes "," ∷ [])) p ≡ Lost = comma_unless p (subst (λ b. IsTrue (is_found (forth (pun ",") b))) there c) in
    let bad : IsTrue (is_found Lost) = subst (λ b. IsTrue (is_found b)) (sym e ∙ gone) f in cc
  where
    found_of : {a b : Place} → a ≡ b → IsTrue (is_found b) → IsTrue (is_found a)
    found_of e f = subst (λ b. IsTrue (is_found b)) (sym e) f

slot_early : {v : Surroundings} {x y : Place} (t : Tree) → Staged v false (Slot Assigns) x t y → IsTrue (is_found (forth (pun ",") y)) → is_last t ≡ false
slot_early {v} {x} {y} t r f = at (at_slot t r) r
  where
    at : {u : Tree} → AtSlot v x y u → Staged v false (Slot Assigns) x u y → is_last u ≡ false
    at {u} (plain q) p = early (PatElement Assigns) u refl q.reads.is
    at (rest {ts}) p = absurd (rest_guard {us = ts} (of_so_far.from_node (function (RestPat Assigns)) p).walk f)
    at gap p = refl

slot_unmarked : {v : Surroundings} {x z : Place} {d : Text} (u : Tree) → IsOther d → same (codes "...") d ≡ false → is_hole u ≡ false → Staged v false (Slot Assigns) x u z → IsTrue (is_found (forth (Tok Operator Punctuator d) x)) → ⊥
slot_unmarked {v} {x} {z} {d} u m n h r f = at h (at_slot u r) r
  where
    at : {t : Tree} → is_hole t ≡ false → AtSlot v x z t → Staged v false (Slot Assigns) x t z → ⊥
    at {t} h (plain q) p = element_unmarked t m q f
    at h rest p = never_both Punctuator Punctuator (codes "...") d x n (rest_led p) f
    at h gap p = cc

-- ---- both places of a loop over an array

pub pattern_slots : Holed (Slot Assigns)
pattern_slots = record {
  home = refl;
  staged = refl;
  comma_none = λ f. record { no = λ u z h w s. slot_unmarked u comma refl h w.reads f };
  close_none = λ f. record { no = λ u z h w s. slot_unmarked u bracket refl h w.reads f };
  early = slot_early;
  comma_ends = λ y f. of_so_far.ends_there (Slot Assigns) y (token_stops (Slot Assigns) Punctuator 44 [] y refl f);
  close_ends = λ y f. of_so_far.ends_there (Slot Assigns) y (token_stops (Slot Assigns) Punctuator 93 [] y refl f);
}

pub literal_items : Holed ArrayItem
literal_items = record {
  home = refl;
  staged = refl;
  comma_none = comma_no_item;
  close_none = close_no_item;
  early = λ t r f. early ArrayItem t refl r.reads.is;
  comma_ends = λ y f. of_so_far.ends_there ArrayItem y (token_stops ArrayItem Punctuator 44 [] y refl f);
  close_ends = λ y f. of_so_far.ends_there ArrayItem y (token_stops ArrayItem Punctuator 93 [] y refl f);
}
