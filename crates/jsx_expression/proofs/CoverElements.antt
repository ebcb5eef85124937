-- What is read whole where an element of a pattern stands: a pattern in brackets, a target, or one of them with its default. The last two are expressions of the level of assignments; and each of those is an element if it turns into one.
use Rattle.std.proofs.Common.{◌≡◌, Bool, true, false, refl, sym, ◌∙◌, ap, subst}
use Rattle.std.specs.Prelude.{IsTrue, codes}
use Rattle.jsx_base.specs.Token.{Operator, Punctuator}
use Rattle.jsx_tree.specs.Signs.{Sign}
use Rattle.jsx_tree.specs.Kinds.{Array, Object, Assign, Assigns, Binds, ArrayPat, ObjectPat, WithInit, expression, function, Tree, leaf, node, list, Forest, none, part}
use Rattle.jsx_tree.specs.Nonterminals.{Nonterminal, Expr, Pat, PatElement}
use Rattle.jsx_tree.specs.Grammar.{Part, pun}
use Rattle.jsx_tree.specs.Reading.{Place, Lost, forth}
use Rattle.jsx_tree.specs.StaticRules.{Surroundings}
use Rattle.jsx_tree.specs.Walk.{is_found, one, around, done, next, sign, tree, Walk}
use Rattle.jsx_tree.specs.Language.{Whole}
use Rattle.jsx_tree.specs.Answers.{Only, Barred, Stuck}
use Rattle.jsx_tree.specs.Grows.{as_target}
use Rattle.jsx_tree.specs.Faults.{Fault, Unread, Shallow, part_depth}
use Rattle.jsx_tree.proofs.Apart.{clash}
use Rattle.jsx_tree.proofs.Rows.Firsts.{kind_home}
use Rattle.jsx_tree.proofs.Rows.Targets.{Target, as_value, left_pattern, level_17, target_back, value_aims}
use Rattle.jsx_tree.proofs.Rows.Turns.{whole_of}
use Rattle.jsx_token.specs.Growths.{on_line, rung, settled}
use Rattle.jsx_token.specs.Marks.{ends_so_far, row_so_far}
use Rattle.jsx_token.proofs.Listed.{listed}
use Rattle.jsx_operand.specs.SoFar.{Staged, so_far}
use Rattle.jsx_operand.specs.Climbing.{is_target}
use Rattle.jsx_operand.specs.Covers.{IsTurned, IsTurnedElement, view_cover}
use Rattle.jsx_operand.specs.Turning.{Turns, TurnsElement, turn_filled, turn_plain, turn_target, is_assign, is_bracketed, is_literal}
use Rattle.jsx_operand.specs.declared.cover.Cover.{Cover}
use Rattle.jsx_operand.proofs.OfSoFar.{of_so_far}
use Rattle.jsx_operand.proofs.Aims.{aim_is, aim_of, staged_target, staged_value, target_reads}
use Rattle.jsx_operand.proofs.Climbing.{mark_goes}
use Rattle.jsx_operand.proofs.Homes.{bound_word, home_of, in_brackets, value}
use Rattle.jsx_operand.proofs.Turned.{ends_alike, element_pat, has_default, pat_element, plain_element, target_unlike, turned_aims, turned_target}
use Rattle.jsx_operand.proofs.Values.{at_one, move, settled_token}
use Rattle.jsx_function.specs.Covers.{IsElementCover}
use Rattle.jsx_expression.proofs.Covers.{IsBracket, bracket_is, bracket_of}
use Rattle.jsx_expression.proofs.Depths.{filled_shallow, value_shallow}
use Rattle.jsx_operand.proofs.Values.{in_array, in_object}

one_is : {t u : Tree} → one t ≡ one u → t ≡ u
one_is e = cc

pub element_ends : (y : Place) → ends_so_far (PatElement Assigns) y ≡ ends_so_far (Expr 1) y
element_ends y = ends_alike (PatElement Assigns) (Expr 1) y refl

-- ---- where a pattern in brackets has ended

array_settled : {v : Surroundings} {x z : Place} {us ts : Forest} → Walk Staged (around v us) (row_so_far (function (ArrayPat Assigns))) x ts z → settled z ≡ true
array_settled (next d (next q (next {x = p} (sign e f) (done g)))) = settled_token Operator Punctuator (codes "]") p refl e f

object_settled : {v : Surroundings} {x z : Place} {us ts : Forest} → Walk Staged (around v us) (row_so_far (function (ObjectPat Assigns))) x ts z → settled z ≡ true
object_settled (next d (next q (next {x = p} (sign e f) (done g)))) = settled_token Operator Punctuator (codes "}") p refl e f

bracket_settled : {v : Surroundings} {x z : Place} {p : Tree} → IsBracket p → Staged v false (Pat Assigns) x p z → settled z ≡ true
bracket_settled (bracket_is {ts = ts} in_array) r = array_settled {us = ts} (of_so_far.from_node (function (ArrayPat Assigns)) r).walk
bracket_settled (bracket_is {ts = ts} in_object) r = object_settled {us = ts} (of_so_far.from_node (function (ObjectPat Assigns)) r).walk

lost_by : (s : Sign) (y : Place) → (IsTrue (is_found (forth s y)) → ⊥) → Stuck s y
lost_by s y n = by (forth s y) refl
  where
    by : (x : Place) → forth s y ≡ x → Stuck s y
    by Lost e = record { is = e }
    by x e = absurd (n (subst (λ p. IsTrue (is_found p)) (sym e) refl))

pub equals_on : (y : Place) → settled y ≡ true → IsTrue (is_found (forth (pun "=") y)) → ends_so_far (Expr 1) y ≡ false
equals_on y s f = mark_goes (rung 1) (expression Assign) y refl (listed (expression Assign) refl refl refl) refl s (record { stays = λ o. absurd (clash (on_line (expression Assign)) o refl) }) f

pub bracket_unassigned : {v : Surroundings} {x z : Place} (p : Tree) → is_bracketed p ≡ true → Staged v false (Pat Assigns) x p z → ends_so_far (Expr 1) z ≡ true → Stuck (pun "=") z
bracket_unassigned {z = z} p b r e = lost_by (pun "=") z (λ f. clash _ e (equals_on z (bracket_settled (bracket_of p b r) r) f))

-- ---- what stands there

pub data ElementAt (v : Surroundings) (x z : Place) : Tree → Type 0 where
  as_brackets : {p : Tree} → is_bracketed p ≡ true → Staged v false (Pat Assigns) x p z → ElementAt v x z p
  as_aim : {p : Tree} → Target p → Whole so_far v false (Expr 1) x (as_value p) z → ElementAt v x z p
  as_filled : {q e : Tree} → Whole so_far v false (Expr 1) x (node (expression Assign) (part q (part e none))) z → ElementAt v x z (node (function (WithInit Assigns)) (part q (part e none)))

-- the rows of an assignment and of a pattern with a default are one
assign_of : {v : Surroundings} {c : Nonterminal} {x z : Place} {ts : Forest} → Staged v false c x (node (function (WithInit Assigns)) ts) z → Staged v false (Expr 1) x (node (expression Assign) ts) z
assign_of {ts = ts} r = let w = of_so_far.from_node (function (WithInit Assigns)) r in of_so_far.to_node (expression Assign) refl (record { walk = w.walk; keeps = w.keeps })

filled_of : {v : Surroundings} {c : Nonterminal} {x z : Place} {ts : Forest} → Staged v false c x (node (expression Assign) ts) z → Staged v false (PatElement Assigns) x (node (function (WithInit Assigns)) ts) z
filled_of {ts = ts} r = let w = of_so_far.from_node (expression Assign) r in of_so_far.to_node (function (WithInit Assigns)) refl (record { walk = w.walk; keeps = w.keeps })

by_walk : {v : Surroundings} {x z : Place} {us ts : Forest} → Walk Staged (around v us) (row_so_far (function (WithInit Assigns))) x ts z → Whole so_far v false (Expr 1) x (node (expression Assign) ts) z → ElementAt v x z (node (function (WithInit Assigns)) ts)
by_walk (next (tree q) (next (sign e f) (next (tree r) (done g)))) w = as_filled w

with_default : {v : Surroundings} {x z : Place} (p : Tree) → has_default p ≡ true → Whole so_far v false (PatElement Assigns) x p z → ElementAt v x z p
with_default {z = z} (node (function (WithInit Assigns)) ts) h w = by_walk {us = ts} (of_so_far.from_node (function (WithInit Assigns)) w.reads).walk (record { reads = assign_of w.reads; ends_there = sym (element_ends z) ∙ w.ends_there })
with_default (node (function (WithInit Binds)) ts) h w = absurd (clash _ (kind_home (PatElement Assigns) (function (WithInit Binds)) ts (home_of w.reads)) refl)
with_default (node _ ts) h w = cc
with_default (leaf k t) h w = cc
with_default (list ts) h w = cc

open_brackets : (p : Tree) → is_bracketed p ≡ false → in_brackets p ≡ false
open_brackets (node (function (ArrayPat r)) ts) h = cc
open_brackets (node (function (ObjectPat r)) ts) h = cc
open_brackets (node _ ts) h = refl
open_brackets (leaf k t) h = refl
open_brackets (list ts) h = refl

-- a target is an expression
aim_value : {v : Surroundings} {x z : Place} {p : Tree} → Target p → Staged v false (Pat Assigns) x p z → Staged v false (Expr 1) x (as_value p) z
aim_value {p = p} t r = let q = staged_value level_17 bound_word t r in move at_one (value (as_value p) refl q) q

pub element_at : {v : Surroundings} {x z : Place} (p : Tree) → Whole so_far v false (PatElement Assigns) x p z → ElementAt v x z p
element_at {v} {x} {z} p w = by (has_default p) (is_bracketed p) refl refl
  where
    aimed : has_default p ≡ false → is_bracketed p ≡ false → ElementAt v x z p
    aimed n b =
        let r = element_pat p n w.reads in
        let t = target_reads (Pat Assigns) refl p (open_brackets p b) r in
        as_aim t (record { reads = aim_value t r; ends_there = sym (element_ends z) ∙ w.ends_there })

    by : (a b : Bool) → has_default p ≡ a → is_bracketed p ≡ b → ElementAt v x z p
    by true b h i = with_default p h w
    by false true h i = as_brackets i (element_pat p h w.reads)
    by false false h i = aimed h i

-- ---- an expression that turns into one

pub target_there : {v : Surroundings} {d : Nonterminal} {x y : Place} {t p : Tree} → Turns t p → is_literal t ≡ false → Staged v false d x t y → Staged v false (Pat Assigns) x p y
target_there {v} {x = x} {y} {t} {p} d n r = subst (λ u. Staged v false (Pat Assigns) x u y) (sym (turned_target d n)) (staged_target left_pattern refl (aim_of t (turned_aims d n)) r)

pub element_read : {v : Surroundings} {d : Nonterminal} {x y : Place} {t p : Tree} → TurnsElement t p → (is_literal t ≡ true → Turns t p → Staged v false (Pat Assigns) x p y) → (is_literal t ≡ false → Staged v false d x t y) → (is_assign t ≡ true → Staged v false d x t y) → Staged v false (PatElement Assigns) x p y
element_read {v} {x = x} {y} {t} {p} (turn_plain e) f g h = by (is_literal t) refl
  where
    by : (b : Bool) → is_literal t ≡ b → Staged v false (PatElement Assigns) x p y
    by true l = pat_element p (f l e)
    by false l = pat_element p (target_there e l (g l))
element_read turn_filled f g h = filled_of (h refl)

-- ---- of an expression that was read whole, which may turn

-- what is known of the patterns in brackets that are read there and have ended
pub record Bracketing (v : Surroundings) (x : Place) (c : Cover) (y : Place) : Type 0 where
  pub reads : (p : Tree) → is_literal (view_cover c) ≡ true → IsTurned c p → Staged v false (Pat Assigns) x p y
  pub alone : (p : Tree) (z : Place) → is_bracketed p ≡ true → Staged v false (Pat Assigns) x p z → ends_so_far (Expr 1) z ≡ true → IsTurned c p × (y ≡ z)
  pub may : is_literal (view_cover c) ≡ false → c.may_turn ≡ true

pub element_only : {v : Surroundings} {x y : Place} {c : Cover} → Only so_far v (Part (Expr 1)) x (one (view_cover c)) y → Bracketing v x c y → IsElementCover v x c y
element_only {v} {x} {y} {c} o b = record {
  reads = λ p d. element_read d.turns (λ l e. b.reads p l (record { may = d.may; turns = e })) (λ l. (whole_of o.past).reads) (λ l. (whole_of o.past).reads);
  alone = λ p z w. at p z (element_at p w) (sym (element_ends z) ∙ w.ends_there);
}
  where
    aimed : {p : Tree} → Target p → view_cover c ≡ as_value p → IsTurnedElement c p
    aimed {p} t e =
        let h : is_target (view_cover c) ≡ true = ap is_target e ∙ aim_is (value_aims t) in
        record { may = b.may (target_unlike (view_cover c) h); turns = subst (TurnsElement (view_cover c)) (ap as_target e ∙ target_back t) (turn_plain (turn_target h)) }

    filled : {q e : Tree} → view_cover c ≡ node (expression Assign) (part q (part e none)) → IsTurnedElement c (node (function (WithInit Assigns)) (part q (part e none)))
    filled {q} {e} is = record { may = b.may (ap is_literal is); turns = subst (λ t. TurnsElement t (node (function (WithInit Assigns)) (part q (part e none)))) (sym is) turn_filled }

    at : (p : Tree) (z : Place) → ElementAt v x z p → ends_so_far (Expr 1) z ≡ true → IsTurnedElement c p × (y ≡ z)
    at p z (as_brackets h r) e = let s = b.alone p z h r e in (record { may = s.0.may; turns = turn_plain s.0.turns }, s.1)
    at p z (as_aim t w) e = let s = o.alone (one (as_value p)) z (tree w) in (aimed t (one_is s.0), s.1)
    at p z (as_filled w) e = let s = o.alone _ z (tree w) in (filled (one_is s.0), s.1)

literal_unassigned : (t : Tree) → is_literal t ≡ true → is_assign t ≡ false
literal_unassigned (node (expression Array) ts) l = refl
literal_unassigned (node (expression Object) ts) l = refl
literal_unassigned (node _ ts) l = cc
literal_unassigned (leaf k t) l = cc
literal_unassigned (list ts) l = cc

-- ---- of a literal that is no expression

pub element_unsettled : {v : Surroundings} {x y : Place} {c : Cover} → Barred so_far v (Part (Expr 1)) x Unread → is_literal (view_cover c) ≡ true → Bracketing v x c y → IsElementCover v x c y
element_unsettled {v} {x} {y} {c} o l b = record {
  reads = λ p d. pat_element p (b.reads p l (record { may = d.may; turns = plain_element d.turns (literal_unassigned (view_cover c) l) }));
  alone = λ p z w. at p z (element_at p w) (sym (element_ends z) ∙ w.ends_there);
}
  where
    at : (p : Tree) (z : Place) → ElementAt v x z p → ends_so_far (Expr 1) z ≡ true → IsTurnedElement c p × (y ≡ z)
    at p z (as_brackets h r) e = let s = b.alone p z h r e in (record { may = s.0.may; turns = turn_plain s.0.turns }, s.1)
    at p z (as_aim t w) e = absurd (o.no (one (as_value p)) z (tree w) tt)
    at p z (as_filled w) e = absurd (o.no _ z (tree w) tt)

-- ---- where no expression is read, and no pattern in brackets that has ended

pub no_element : {v : Surroundings} {x : Place} (d : Fault) → Barred so_far v (Part (Expr 1)) x d → ((p : Tree) (z : Place) → is_bracketed p ≡ true → Staged v false (Pat Assigns) x p z → ends_so_far (Expr 1) z ≡ true → Shallow d (part_depth p) → ⊥) → (p : Tree) (z : Place) → Whole so_far v false (PatElement Assigns) x p z → Shallow d (part_depth p) → ⊥
no_element {v} {x} d o n p z w = at p z (element_at p w) (sym (element_ends z) ∙ w.ends_there) w.reads
  where
    at : (p : Tree) (z : Place) → ElementAt v x z p → ends_so_far (Expr 1) z ≡ true → Staged v false (PatElement Assigns) x p z → Shallow d (part_depth p) → ⊥
    at p z (as_brackets h r) e q s = n p z h r e s
    at p z (as_aim t w) e q s = o.no (one (as_value p)) z (tree w) (value_shallow d (target_back t) w.reads q s)
    at p z (as_filled w) e q s = o.no _ z (tree w) (filled_shallow d w.reads q s)
