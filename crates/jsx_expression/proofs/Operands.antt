-- What an operand of a level is: what begins so, and at the level of assignments also an assignment to a pattern.
use Rattle.std.proofs.Common.{◌≡◌, ◌<◌, ◌≤◌, ℕ, zero, suc, max, nat_le, Bool, true, false, Box, Global, refl, sym, ◌∙◌, ap, subst, arith}
use Rattle.std.specs.Prelude.{IsTrue}
use Rattle.std.proofs.lemmas.Bool.{le-leb}
use Rattle.jsx_tree.specs.Signs.{SameLine}
use Rattle.jsx_tree.specs.Kinds.{Assign, Assigns, Index, Member, Parenthesized, SuperIndex, SuperMember, Kind, expression, Tree, leaf, node, list, Forest, none, part}
use Rattle.jsx_tree.specs.Nonterminals.{Nonterminal, Expr, Pat}
use Rattle.jsx_tree.specs.Grammar.{Part, pun}
use Rattle.jsx_tree.specs.Reading.{Place, Lost, forth}
use Rattle.jsx_tree.specs.StaticRules.{Surroundings}
use Rattle.jsx_tree.specs.Walk.{Given, Past, is_found, one, around, done, next, sign, steady, tail, tree, Walk}
use Rattle.jsx_tree.specs.Language.{Whole}
use Rattle.jsx_tree.specs.Answers.{Moves, Only, Barred, Stuck}
use Rattle.jsx_tree.specs.Grows.{Onward, Steps, seen, stay, step}
use Rattle.jsx_tree.specs.View.{view_expr}
use Rattle.jsx_tree.specs.declared.tree.Expr.{Expr as Code}
use Rattle.jsx_tree.specs.Faults.{Fault, Unread, Deep, Shallow, deepest, given_depth, outer, part_depth}
use Rattle.jsx_tree.proofs.Tokens.{and_both}
use Rattle.jsx_tree.proofs.Apart.{clash}
use Rattle.jsx_tree.proofs.Rows.Bodies.{plain as plain_row}
use Rattle.jsx_tree.proofs.Rows.Bridge.{found_at}
use Rattle.jsx_tree.proofs.Rows.Guarded.{loosen, to_grammar}
use Rattle.jsx_tree.proofs.Rows.Laws.{end_found}
use Rattle.jsx_tree.proofs.Rows.Stopping.{never_stops}
use Rattle.jsx_tree.proofs.Rows.Turns.{whole_of}
use Rattle.jsx_tree.proofs.Rows.Steps.{any_barred}
use Rattle.jsx_tree.proofs.Depth.Shallow.{shallow_up}
use Rattle.jsx_token.specs.Growths.{Rung, rung, asked, closed, is_blocked, is_level, is_rung, level_of_kind, seat, settled}
use Rattle.jsx_token.specs.Here.{Here, place_of}
use Rattle.jsx_token.specs.Marks.{row_so_far}
use Rattle.jsx_token.proofs.Listed.{Listed, listed}
use Rattle.jsx_token.proofs.Levels.{steps_on}
use Rattle.jsx_operand.specs.SoFar.{Staged, so_far}
use Rattle.jsx_operand.specs.Climbing.{Climbs, is_target, level, rises}
use Rattle.jsx_operand.specs.Covers.{IsTurned, view_cover}
use Rattle.jsx_operand.specs.Turning.{is_bound_name, is_literal}
use Rattle.jsx_operand.specs.declared.cover.Cover.{Cover}
use Rattle.jsx_operand.specs.Outgrown.{Outgrown}
use Rattle.jsx_operand.proofs.OfSoFar.{of_so_far}
use Rattle.jsx_operand.proofs.Outgrown.{outgrown_deep}
use Rattle.jsx_operand.proofs.Aims.{is_pair, seen_plain, value_open}
use Rattle.jsx_operand.proofs.BracketSteps.{left_assigns}
use Rattle.jsx_operand.proofs.Climbing.{stays_low, step_ends}
use Rattle.jsx_operand.proofs.Homes.{is_bracket, value}
use Rattle.jsx_operand.proofs.Rungs.{rung_operand}
use Rattle.jsx_operand.proofs.Turned.{bracketed_literal, turned_aims, turned_bracketed}
use Rattle.jsx_operand.proofs.Turning.{turns_once}
use Rattle.jsx_operand.proofs.Values.{Bracketed, in_array, in_object, listed_node}
use Rattle.jsx_expression.specs.Covers.{Apart, above, unlike, BeginsAt, BeginsCover, IsAssigned, IsMade, IsOperand, LeadsTo, leads, leads_none, NoCoverBegins, NoOperand, NotAssigned, before_equals, as_begun, as_made, none_begun, none_made}
use Rattle.jsx_function.specs.Covers.{Settles}
use Rattle.jsx_expression.proofs.Covers.{IsBracket, bracket_is, bracket_of, closed_open, pattern_none, settled_open}
use Rattle.jsx_expression.proofs.CoverElements.{bracket_unassigned, no_element, target_there}
use Rattle.jsx_expression.proofs.Depths.{counted_shallow, staged_form}

one_is : {t u : Tree} → one t ≡ one u → t ≡ u
one_is e = cc

assign_listed : Listed (expression Assign)
assign_listed = listed (expression Assign) refl refl refl

-- ---- what is of the level of a conditional or below is the last step

pub low_last : {v : Surroundings} {c : Nonterminal} {x a z : Place} {k : Kind} {us : Forest} {u : Tree} → Listed k → nat_le (level_of_kind k) 2 ≡ true → Onward so_far v x (node k us) a u z → Whole so_far v false c x u z → (node k us ≡ u) × (a ≡ z)
low_last m e stay w = (refl, refl)
low_last {v} {c} {x} {a} {z} {k} {us} {u} m e (step {z = q} l s d {ts = ts} b i r o h on) w =
    let p : Steps so_far v c x (node k us) a l ts q = record { side = s; begins = b; left = i; walk = r; home = d; operand = o; reads = h; end = u; place = z; onward = on; whole = w } in
    let n = stays_low {v = v} {c = c} {x = x} {a = a} {us = us} k m e in
    absurd (n.none_on l ts q p)

-- ---- what is read whole and begins with a pattern in brackets is an assignment to it

pub record AssignedAt (v : Surroundings) (x : Place) (p : Tree) (y : Place) (u : Tree) (z : Place) : Type 0 where
  pub value : Tree
  pub is : u ≡ node (expression Assign) (part p (part value none))
  pub whole : Whole so_far v false (Expr 1) (forth (pun "=") y) value z

assigned_walk : {v : Surroundings} {x y q z : Place} {p u : Tree} {us : Forest} → seen (expression Assign) p ≡ p → Walk (Whole so_far) (steady v) (tail (row_so_far (expression Assign))) y us q → Onward so_far v x (node (expression Assign) (part (seen (expression Assign) p) us)) q u z → Whole so_far v false (Expr 1) x u z → AssignedAt v x p y u z
assigned_walk {v} {x} {y} {q} {z} {p} {u} same (next {y = b} (sign e f) (next (tree {t = t} r) (done g))) on w =
    let s = low_last assign_listed refl on w in
    record {
      value = t;
      is = sym s.0 ∙ ap (λ h. node (expression Assign) (part h (part t none))) same;
      whole = subst (λ a. Whole so_far v false (Expr 1) a t z) (sym e) (subst (λ d. Whole so_far v false (Expr 1) b t d) s.1 r);
    }

unpaired : {k : Kind} (ts : Forest) → Bracketed k → is_pair (node k ts) ≡ false
unpaired ts in_array = refl
unpaired ts in_object = refl

kind_bracket : {k : Kind} → Bracketed k → is_bracket k ≡ true
kind_bracket in_array = refl
kind_bracket in_object = refl

pub pattern_assigned : {v : Surroundings} {x y z : Place} {p u : Tree} → IsBracket p → Onward so_far v x p y u z → Whole so_far v false (Expr 1) x u z → AssignedAt v x p y u z
pattern_assigned (bracket_is {k = k} {ts = ts} b) stay w = absurd (clash (is_bracket k) (kind_bracket b) (value_open (value (node k ts) refl w.reads)))
pattern_assigned {v} {x} {y} {z} {u = u} (bracket_is {k = k} {ts = ts} b) (step {z = q} l c d {ts = us} s j r o h on) w =
    let m : Listed l = listed_node o s h in
    let same : l ≡ expression Assign = left_assigns ts l m s b j in
    let p : Steps so_far v (Expr 1) x (node k ts) y l us q = record { side = c; begins = s; left = j; walk = r; home = d; operand = o; reads = h; end = u; place = z; onward = on; whole = w } in
    let walk : Walk (Whole so_far) (steady v) (tail (row_so_far l)) y us q = step_ends (rung 1) refl (subst (λ n. steps_on n ≡ true) (sym same) refl) p in
    subst (λ n. Walk (Whole so_far) (steady v) (tail (row_so_far n)) y us q → Onward so_far v x (node n (part (seen n (node k ts)) us)) q u z → AssignedAt v x (node k ts) y u z) (sym same)
    (λ a e. assigned_walk (seen_plain (expression Assign) (node k ts) (unpaired ts b)) a e w) walk on

-- ---- an assignment to the pattern that a literal turns into

pub assigned_only : {v : Surroundings} {x y a z : Place} {c : Cover} {t : Tree} → BeginsCover v x c y → is_literal (view_cover c) ≡ true → Moves (pun "=") y a → IsAssigned v c t a z → Only so_far v (Part (Expr 1)) x (one t) z
assigned_only {v} {x} {y} {a} {z} {c} {t} b l m n = record { past = tree (subst (λ u. Whole so_far v false (Expr 1) x u z) (sym n.is) whole); alone = at }
  where
    parts : Forest
    parts = part n.pattern (part n.value none)

    pattern : Staged v false (Pat Assigns) x n.pattern y
    pattern = b.pattern.reads n.pattern n.turned (turned_bracketed n.turned.turns l)

    value' : Whole so_far v false (Expr 1) a n.value z
    value' = whole_of n.only.past

    walk : Walk (Whole so_far) (around v parts) (row_so_far (expression Assign)) x parts z
    walk = next (tree (record { reads = pattern; ends_there = of_so_far.ends_there (Pat Assigns) y (never_stops (Pat Assigns) y refl) })) (next (sign (sym m.is) m.found) (next (tree value') (done (end_found of_so_far value'.reads))))

    whole : Whole so_far v false (Expr 1) x (node (expression Assign) parts) z
    whole = record { reads = of_so_far.to_node (expression Assign) refl (record { walk = loosen walk; keeps = and_both _ _ (plain_row (row_so_far (expression Assign)) refl (to_grammar of_so_far walk)) refl }); ends_there = value'.ends_there }

    at : (h : Given) (q : Place) → Past (Whole so_far) v (Part (Expr 1)) x h q → (one t ≡ h) × (z ≡ q)
    at h q (tree {t = u} w) =
        let f = b.assigned l (found_at (sym m.is) m.found) u q w in
        let g = pattern_assigned (bracket_of f.pattern f.bracketed f.reads) f.onward w in
        let p : f.pattern ≡ n.pattern = turns_once f.turned.turns n.turned.turns in
        let s = n.only.alone (one g.value) q (tree (subst (λ p. Whole so_far v false (Expr 1) p g.value q) (sym m.is) g.whole)) in
        (ap one (n.is ∙ ((λ i. node (expression Assign) (part (sym p i) (part (one_is s.0 i) none))) ∙ sym g.is)), s.1)

-- it is one deeper than the pattern and the value
assigned_shallow : {v : Surroundings} {x z : Place} {p t : Tree} (e : Fault) → Staged v false (Expr 1) x (node (expression Assign) (part p (part t none))) z → Shallow e (part_depth (node (expression Assign) (part p (part t none)))) → Shallow e (suc (max (part_depth p) (part_depth t)))
assigned_shallow {p = p} {t} e q s = shallow_up e (suc (max (part_depth p) (part_depth t))) (suc (deepest (part p (part t none)))) (omega arith) (counted_shallow e (expression Assign) refl q s)

pub assigned_none : {v : Surroundings} {x y a : Place} {c : Cover} {e : Fault} → BeginsCover v x c y → is_literal (view_cover c) ≡ true → Moves (pun "=") y a → NotAssigned v c a e → Barred so_far v (Part (Expr 1)) x e
assigned_none {v} {x} {y} {a} {c} {e = e} b l m n = record { no = at }
  where
    at : (h : Given) (q : Place) → Past (Whole so_far) v (Part (Expr 1)) x h q → Shallow e (given_depth h) → ⊥
    at h q (tree {t = u} w) s =
        let f = b.assigned l (found_at (sym m.is) m.found) u q w in
        let g = pattern_assigned (bracket_of f.pattern f.bracketed f.reads) f.onward w in
        n.no f.pattern g.value q f.turned (staged_form f.reads) (subst (λ p. Whole so_far v false (Expr 1) p g.value q) (sym m.is) g.whole) (assigned_shallow e (subst (λ t. Staged v false (Expr 1) x t q) g.is w.reads) (subst (λ t. Shallow e (part_depth t)) g.is s))

-- no value stands behind the `=`, or the pattern is too deep for it
right_shallow : (e : Fault) (a b : ℕ) → Shallow (outer e) (suc (max a b)) → Shallow e b
right_shallow Unread a b s = tt
right_shallow (Deep n) a b s = omega (arith, s)

left_shallow : (e : Fault) (a b : ℕ) → Shallow e (suc (max a b)) → Shallow e (suc a)
left_shallow e a b s = shallow_up e (suc a) (suc (max a b)) (omega arith) s

pub not_assigned_value : {v : Surroundings} {x : Place} {c : Cover} {e : Fault} → Barred so_far v (Part (Expr 1)) x e → NotAssigned v c x (outer e)
not_assigned_value {e = e} b = record { no = λ p t y d f w s. b.no (one t) y (tree w) (right_shallow e (part_depth p) (part_depth t) s) }

pub not_assigned_deep : {v : Surroundings} {x : Place} {c : Cover} {p : Tree} {e : Fault} → IsTurned c p → Outgrown p e → NotAssigned v c x e
not_assigned_deep {e = e} d o = record { no = λ q t y g f w s. outgrown_deep (Pat Assigns) e q f (subst (λ u. Outgrown u e) (turns_once d.turns g.turns) o) (left_shallow e (part_depth q) (part_depth t) s) }

-- ---- what alone is read there begins all that is

only_onward : {v : Surroundings} {x y z : Place} {t u : Tree} → (one t ≡ one u) × (y ≡ z) → Onward so_far v x t y u z
only_onward {v} {x} {y} {z} {t} {u} s = subst (λ w. Onward so_far v x t y w z) (one_is s.0) (subst (λ q. Onward so_far v x t y t q) s.1 stay)

pub only_climbs : {v : Surroundings} {x y : Place} {t : Tree} (r : Rung) → Only so_far v (Part (seat r)) x (one t) y → settled y ≡ true → Climbs v r x t y
only_climbs {t = t} r o s = let w = whole_of o.past in record { follows = record { home = seat r; operand = rung_operand r; reads = w.reads; all = λ u z q. only_onward (o.alone (one u) z (tree q)) }; reads = w.reads; ended = s }

pub only_begins : {v : Surroundings} {x y : Place} {t : Tree} (r : Rung) → Only so_far v (Part (seat r)) x (one t) y → rises r t ≡ true → closed y ≡ true → BeginsAt v r x t y
only_begins {y = y} {t} r o h s = record { climbs = λ f _. only_climbs r o (closed_open y s f); blocked = λ _ _. o; low = λ e. absurd (clash (rises r t) h e) }

-- ---- operands

pub one_level : (n : ℕ) → is_level n ≡ true → (1 < n → ⊥) → n ≡ 1
one_level zero l h = cc
one_level (suc zero) l h = refl
one_level (suc (suc n)) l h = absurd (h (omega arith))

target_rises : (t : Tree) → is_target t ≡ true → rises (rung 1) t ≡ true
target_rises (leaf k t) h = refl
target_rises (node (expression Parenthesized) ts) h = refl
target_rises (node (expression Member) ts) h = refl
target_rises (node (expression Index) ts) h = refl
target_rises (node (expression SuperMember) ts) h = refl
target_rises (node (expression SuperIndex) ts) h = refl
target_rises (node _ ts) h = cc
target_rises (list ts) h = cc

lost_found : {y z : Place} → y ≡ z → IsTrue (is_found (forth (pun "=") y)) → Stuck (pun "=") z → ⊥
lost_found {y} {z} e f k = let bad : IsTrue (is_found Lost) = subst (λ p. IsTrue (is_found p)) (ap (forth (pun "=")) e ∙ k.is) f in cc

-- above the level of assignments
pub operand_high : {v : Surroundings} {x y : Place} {c : Cover} (n : ℕ) → is_level n ≡ true → 1 < n → c.is_expr ≡ true → BeginsCover v x c y → IsOperand v n x c y
operand_high {v} {x} {y} {c} n l h i b = record {
  expr = λ e. b.expr e (rung n) l (above (le-leb 2 n (omega (arith, h))));
  none = λ j. absurd (clash c.is_expr i j);
  higher = λ j. absurd (low j);
  pattern = λ j. absurd (low j);
  reads = λ j. absurd (low j);
  unnamed = λ j. absurd (low j);
  may = b.may;
  unsettled = b.unsettled;
}
  where
    low : n ≡ 1 → ⊥
    low j = omega (arith, h, j)

-- what begins so and goes on otherwise
begin_reads : {v : Surroundings} {x y : Place} {t : Tree} → BeginsAt v (rung 1) x t y → rises (rung 1) t ≡ true → Staged v false (Expr 1) x t y
begin_reads {v} {x} {y} {t} b h = by (is_blocked y) refl
  where
    by : (f : Bool) → is_blocked y ≡ f → Staged v false (Expr 1) x t y
    by true f = (whole_of (b.blocked f h).past).reads
    by false f = (b.climbs f h).reads

pub operand_first : {v : Surroundings} {x y : Place} {c : Cover} → BeginsCover v x c y → Apart (rung 1) (view_cover c) y → (is_bound_name (view_cover c) ≡ true → forth (pun "=>") (forth SameLine y) ≡ Lost) → IsOperand v 1 x c y
operand_first {v} {x} {y} {c} b a n = record {
  expr = λ e. b.expr e (rung 1) refl a;
  none = λ e. b.none e (rung 1) refl a;
  higher = λ _. as_begun b;
  pattern = λ _ p z h r k. b.pattern.alone p z h r;
  reads = λ _ p d. by_literal p d (is_literal (view_cover c)) refl;
  unnamed = λ _. n;
  may = b.may;
  unsettled = b.unsettled;
}
  where
    settled_is : (e : Bool) → c.is_expr ≡ e → is_literal (view_cover c) ≡ false → c.is_expr ≡ true
    settled_is true e l = e
    settled_is false e l = absurd (clash (is_literal (view_cover c)) (b.unsettled e) l)

    by_literal : (p : Tree) → IsTurned c p → (l : Bool) → is_literal (view_cover c) ≡ l → Staged v false (Pat Assigns) x p y
    by_literal p d true l = b.pattern.reads p d (turned_bracketed d.turns l)
    by_literal p d false l = target_there d.turns l (begin_reads (b.expr (settled_is c.is_expr refl l) (rung 1) refl a) (target_rises (view_cover c) (turned_aims d.turns l)))

pub operand_unbegun : {v : Surroundings} {x : Place} {o : Fault} (n : ℕ) → is_level n ≡ true → NoCoverBegins v x o → NoOperand v n x o
operand_unbegun {v} {x} {o = o} n l b = record {
  whole = record { none = b.none.on (rung n) l; element = λ _ p z w. no_element o (b.none.on (rung 1) refl) (λ p z h r e. b.pattern.no p z h r) p z w };
  higher = λ _. none_begun b;
}

-- above the level of assignments no cover stands that is no expression
pub operand_unsettled : {v : Surroundings} {x y : Place} {c : Cover} {o : Fault} (n : ℕ) → is_level n ≡ true → 1 < n → c.is_expr ≡ false → BeginsCover v x c y → NoOperand v n x o
operand_unsettled {v} {x} {y} {c} n l h e b = record { whole = record { none = any_barred (b.none e (rung n) l (above (le-leb 2 n (omega (arith, h))))); element = λ j. absurd (low j) }; higher = λ j. absurd (low j) }
  where
    low : n ≡ 1 → ⊥
    low j = omega (arith, h, j)

-- ---- an assignment to a pattern

-- what is read above ends before the `=`
pub assigned_made : {v : Surroundings} {x y : Place} {c : Cover} → BeginsCover v x c y → settled y ≡ true → IsTrue (is_found (forth (pun "=") y)) → IsMade v x
assigned_made {v} {x} {y} {c} b s f = record { place = y; sign = before_equals f; higher = λ r i h. at r i h c.is_expr refl; pattern = λ p z h r. (b.pattern.alone p z h r).1 }
  where
    rising : (r : Rung) → BeginsAt v r x (view_cover c) y → (e : Bool) → rises r (view_cover c) ≡ e → LeadsTo v r x y
    rising r q true e = leads (view_cover c) (q.climbs (settled_open y s) e)
    rising r q false e = leads_none (q.low e)

    at : (r : Rung) → is_rung r ≡ true → nat_le 2 (asked r) ≡ true → (e : Bool) → c.is_expr ≡ e → LeadsTo v r x y
    at r i h true e = rising r (b.expr e r i (above h)) (rises r (view_cover c)) refl
    at r i h false e = leads_none (b.none e r i (above h))

pub operand_assigned : {v : Surroundings} {x y a z : Place} {c d : Cover} (e : Box Code Global) → d.expr ≡ e → d.is_expr ≡ true → d.may_turn ≡ true → BeginsCover v x c y → is_literal (view_cover c) ≡ true → settled y ≡ true → Moves (pun "=") y a → IsAssigned v c (view_expr e.value) a z → closed z ≡ true → IsOperand v 1 x d z
operand_assigned {v} {x} {y} {a} {z} {c} {d} e same i m b l s q n g = record {
  expr = λ _. only_begins (rung 1) (subst (λ j. Only so_far v (Part (Expr 1)) x (one (view_expr j.value)) z) (sym same) (assigned_only b l q n)) (ap (rises (rung 1)) is) g;
  none = λ j. absurd (clash d.is_expr i j);
  higher = λ _. as_made (assigned_made b s f);
  pattern = λ _ p w h r k. absurd (lost_found (b.pattern.alone p w h r).1 f k);
  reads = λ _ p t. absurd (clash (is_target (view_cover d)) (turned_aims t.turns (ap is_literal is)) (ap is_target is));
  unnamed = λ _ h. absurd (clash (is_bound_name (view_cover d)) h (ap is_bound_name is));
  may = λ _. m;
  unsettled = λ j. absurd (clash d.is_expr i j);
}
  where
    f : IsTrue (is_found (forth (pun "=") y))
    f = found_at (sym q.is) q.found

    is : view_cover d ≡ node (expression Assign) (part n.pattern (part n.value none))
    is = ap (λ j. view_expr j.value) same ∙ n.is

pub operand_unassigned : {v : Surroundings} {x y a : Place} {c : Cover} {o : Fault} → BeginsCover v x c y → is_literal (view_cover c) ≡ true → settled y ≡ true → Moves (pun "=") y a → NotAssigned v c a o → NoOperand v 1 x o
operand_unassigned {v} {x} {y} {a} {c} {o = o} b l s q n = record {
  whole = record { none = barred; element = λ _ p z w. no_element o barred (λ p z h r e _. lost_found (b.pattern.alone p z h r).1 f (bracket_unassigned p h r e)) p z w };
  higher = λ _. none_made (assigned_made b s f);
}
  where
    f : IsTrue (is_found (forth (pun "=") y))
    f = found_at (sym q.is) q.found

    barred : Barred so_far v (Part (Expr 1)) x o
    barred = assigned_none b l q n

-- ---- at a level that is no higher

pub level_low : (n : ℕ) → is_level n ≡ true → n ≤ 1 → n ≡ 1
level_low n l h = one_level n l (λ g. omega (arith, h, g))

pub operand_at : {v : Surroundings} {x y : Place} {c : Cover} (n : ℕ) → is_level n ≡ true → n ≤ 1 → IsOperand v 1 x c y → IsOperand v n x c y
operand_at {v} {x} {y} {c} n l h o = subst (λ m. IsOperand v m x c y) (sym (level_low n l h)) o

pub no_operand_at : {v : Surroundings} {x : Place} {e : Fault} (n : ℕ) → is_level n ≡ true → n ≤ 1 → NoOperand v 1 x e → NoOperand v n x e
no_operand_at {v} {x} {e = e} n l h o = subst (λ m. NoOperand v m x e) (sym (level_low n l h)) o

-- ---- where the lexer stands

pub operand_to : {v : Surroundings} {n : ℕ} {x : Place} {c : Cover} {y z : Here} → z ≡ y → IsOperand v n x c (place_of y) → IsOperand v n x c (place_of z)
operand_to {v} {n} {x} {c} e o = subst (λ h. IsOperand v n x c (place_of h)) (sym e) o

-- an assignment is of the lowest level
pub assigned_settles : {v : Surroundings} {a z : Place} {c : Cover} {y : Place} (d : Cover) (e : Box Code Global) → d.expr ≡ e → IsAssigned v c (view_expr e.value) a z → Settles (level (view_cover d)) y
assigned_settles d e is n = record { on = λ h. absurd (clash _ h (ap (λ j. nat_le 3 (level (view_expr j.value))) is ∙ ap (λ t. nat_le 3 (level t)) n.is)) }

pub literal_named : (t : Tree) → is_literal t ≡ true → is_bound_name t ≡ true → ⊥
literal_named (leaf k t) l h = cc
literal_named (node k ts) l h = cc
literal_named (list ts) l h = cc

-- a cover of the same tree, which is no literal and no name that may be bound
begins_like : {v : Surroundings} {x y : Place} {c : Cover} (d : Cover) → view_cover d ≡ view_cover c → d.is_expr ≡ c.is_expr → d.may_turn ≡ c.may_turn → is_literal (view_cover c) ≡ false → BeginsCover v x c y → BeginsCover v x d y
begins_like {v} {x} {y} {c} d same is may l b = record {
  expr = λ e r i a. subst (λ t. BeginsAt v r x t y) (sym same) (b.expr (sym is ∙ e) r i (unlike l));
  none = λ e r i a. b.none (sym is ∙ e) r i (unlike l);
  assigned = λ h. absurd (clash (is_literal (view_cover d)) h (ap is_literal same ∙ l));
  pattern = pattern_none (ap is_literal same ∙ l) (record { no = λ p z h r _. clash (is_literal (view_cover c)) (bracketed_literal (b.pattern.alone p z h r).0.turns h) l });
  may = λ _. may ∙ b.may l;
  unsettled = λ e. absurd (clash (is_literal (view_cover c)) (b.unsettled (sym is ∙ e)) l);
}

pub operand_kept : {v : Surroundings} {x y : Place} {c : Cover} (d : Cover) → view_cover d ≡ view_cover c → d.is_expr ≡ c.is_expr → d.may_turn ≡ c.may_turn → is_literal (view_cover c) ≡ false → is_bound_name (view_cover c) ≡ false → BeginsCover v x c y → IsOperand v 1 x d y
operand_kept d same is may l n b = operand_first (begins_like d same is may l b) (unlike (ap is_literal same ∙ l)) (λ h. absurd (clash (is_bound_name (view_cover d)) h (ap is_bound_name same ∙ n)))
