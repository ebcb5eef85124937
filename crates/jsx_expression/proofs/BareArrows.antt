-- An arrow function of one name without parentheses (ECMA-262 section 15.3): all that is read from there at the level of assignments is this function, where `=>` stands behind the name.
use Rattle.std.proofs.Common.{◌≡◌, ◌≤◌, ℕ, suc, max, arith, nat_eq, nat_le, Bool, true, false, not, Box, Global, refl, sym, ◌∙◌, ap, subst}
use Rattle.std.specs.Prelude.{IsTrue, ◌&&◌, ◌||◌}
use Rattle.jsx_base.specs.Token.{IdentifierName, Text, breaks}
use Rattle.jsx_tree.specs.Signs.{AfterBlock, Ends, SameLine}
use Rattle.jsx_tree.specs.Kinds.{Assigns, BareArrow, BareArrowBlock, Kind, expression, Tree, leaf, node, list, Forest, none, part}
use Rattle.jsx_tree.specs.Nonterminals.{Nonterminal, BindingIdent, Expr, Pat}
use Rattle.jsx_tree.specs.Grammar.{Part, pun}
use Rattle.jsx_tree.specs.Form.{admits}
use Rattle.jsx_tree.specs.Reading.{Place, Lost, At, forth, go_if}
use Rattle.jsx_tree.specs.StaticRules.{Surroundings, count_of, has_plain_params, is_strict_body}
use Rattle.jsx_tree.specs.Walk.{Given, Past, Relation, is_found, one, around, done, next, sign, steady, tail, tree, Walk}
use Rattle.jsx_tree.specs.Language.{Whole}
use Rattle.jsx_tree.specs.Answers.{Only, Barred}
use Rattle.jsx_tree.specs.Grows.{Onward, Steps, seen, stay, step}
use Rattle.jsx_tree.specs.View.{view_expr}
use Rattle.jsx_tree.specs.declared.tree.Expr.{Expr as Code}
use Rattle.jsx_tree.specs.Faults.{Fault, Unread, Deep, Below, Shallow, deepest, given_depth, outer, part_depth}
use Rattle.jsx_tree.proofs.Tokens.{and_both}
use Rattle.jsx_tree.proofs.Apart.{clash}
use Rattle.jsx_tree.proofs.Rows.Bridge.{found_at}
use Rattle.jsx_tree.proofs.Rows.Guarded.{loosen, whole_walk}
use Rattle.jsx_tree.proofs.Rows.Placing.{free_around, moved}
use Rattle.jsx_tree.proofs.Depth.Nodes.{counts_as}
use Rattle.jsx_tree.proofs.Depth.Shallow.{below_shallow}
use Rattle.jsx_token.specs.Growths.{Rung, rung, asked, closed, is_blocked, is_level, is_rung, level_of_kind, settled}
use Rattle.jsx_token.specs.Here.{Here, place_of}
use Rattle.jsx_token.specs.Marks.{ends_so_far, row_so_far}
use Rattle.jsx_token.proofs.Levels.{edge, is_named}
use Rattle.jsx_token.proofs.Listed.{Listed, listed}
use Rattle.jsx_operand.specs.SoFar.{Staged, so_far}
use Rattle.jsx_operand.specs.Climbing.{Climbs, is_target, level, rises}
use Rattle.jsx_operand.specs.Covers.{view_cover}
use Rattle.jsx_operand.specs.Turning.{is_bound_name, is_bracketed, is_literal}
use Rattle.jsx_operand.specs.declared.cover.Cover.{Cover}
use Rattle.jsx_operand.proofs.OfSoFar.{of_so_far}
use Rattle.jsx_operand.proofs.Climbing.{Going, by_arrow, by_mark, by_piece, arrow_goes, blocked_ends, edge_on, mark_arrow, step_listed, step_next, step_sign}
use Rattle.jsx_operand.proofs.Homes.{IsName, no_list, value}
use Rattle.jsx_operand.proofs.Tags.{sign_piece}
use Rattle.jsx_operand.proofs.Turned.{bracketed_literal, turned_aims}
use Rattle.jsx_operand.proofs.Values.{leaf_to}
use Rattle.jsx_expression.specs.Arrows.{BareEnds, NoBareEnd, NoEnd, OnlyEnd, bare_kind, end_row}
use Rattle.jsx_expression.specs.Covers.{above, unlike, BeginsAt, BeginsCover, IsMade, IsOperand, LeadsTo, leads, leads_none, NoOperand, before_arrow, as_made, none_made}
use Rattle.jsx_function.specs.Covers.{Settles}
use Rattle.jsx_expression.proofs.Covers.{settled_open}
use Rattle.jsx_expression.proofs.CoverElements.{no_element}
use Rattle.jsx_expression.proofs.Depths.{counted_shallow}
use Rattle.jsx_expression.proofs.Operands.{low_last, no_operand_at, only_begins, operand_at}

one_is : {t u : Tree} → one t ≡ one u → t ≡ u
one_is e = cc

bare_listed : (b : Bool) → Listed (bare_kind b)
bare_listed true = listed (expression BareArrowBlock) refl refl refl
bare_listed false = listed (expression BareArrow) refl refl refl

bare_level : (b : Bool) → nat_le (level_of_kind (bare_kind b)) 2 ≡ true
bare_level true = refl
bare_level false = refl

bare_counts : (b : Bool) → counts_as true (bare_kind b) ≡ true
bare_counts true = refl
bare_counts false = refl

-- ---- behind the name, the signs of the row are what the function's own are

to_bare : {R : Relation} {v : Surroundings} {y z : Place} {us : Forest} (b : Bool) → Walk R (steady v) (end_row b) y us z → Walk R (steady v) (tail (row_so_far (bare_kind b))) y us z
to_bare true (next (sign e f) (next (sign g h) w)) = next (sign e f) (next (sign g h) w)
to_bare false (next (sign e f) (next (sign g h) w)) = next (sign e f) (next (sign g h) w)

from_bare : {R : Relation} {v : Surroundings} {y z : Place} {us : Forest} (b : Bool) → Walk R (steady v) (tail (row_so_far (bare_kind b))) y us z → Walk R (steady v) (end_row b) y us z
from_bare true (next (sign e f) (next (sign g h) w)) = next (sign e f) (next (sign g h) w)
from_bare false (next (sign e f) (next (sign g h) w)) = next (sign e f) (next (sign g h) w)

steadied : {R : Relation} {v : Surroundings} {y z : Place} {us : Forest} (b : Bool) (ts : Forest) → Walk R (around v ts) (tail (row_so_far (bare_kind b))) y us z → Walk R (steady v) (tail (row_so_far (bare_kind b))) y us z
steadied {v = v} true ts w = moved (λ a h. free_around a ts v h) refl w
steadied {v = v} false ts w = moved (λ a h. free_around a ts v h) refl w

unsteadied : {R : Relation} {v : Surroundings} {y z : Place} {us : Forest} (b : Bool) (ts : Forest) → Walk R (steady v) (tail (row_so_far (bare_kind b))) y us z → Walk R (around v ts) (tail (row_so_far (bare_kind b))) y us z
unsteadied {v = v} true ts w = moved (λ a h. sym (free_around a ts v h)) refl w
unsteadied {v = v} false ts w = moved (λ a h. sym (free_around a ts v h)) refl w

-- ---- what is read whole is one of the two

data BareAt (v : Surroundings) (y : Place) (t u : Tree) (z : Place) : Type 0 where
  bare_at : (b : Bool) {ts : Forest} → Walk (Whole so_far) (steady v) (end_row b) y ts z → node (bare_kind b) (part t ts) ≡ u → BareAt v y t u z

seen_bare : (b : Bool) (t : Tree) → seen (bare_kind b) t ≡ t
seen_bare true t = refl
seen_bare false t = refl

bare_whole : {v : Surroundings} {x y q : Place} {t : Tree} {ts : Forest} (b : Bool) → Steps so_far v (Expr 1) x t y (bare_kind b) ts q → Walk (Whole so_far) (steady v) (end_row b) y ts q
bare_whole {t = t} {ts} true p = from_bare true (steadied true (part t ts) (whole_walk of_so_far (edge (expression BareArrowBlock)) (tail (row_so_far (expression BareArrowBlock))) refl (edge_on (rung 1) (expression BareArrowBlock) (node (expression BareArrowBlock) (part t ts)) refl (step_listed p) refl p.onward p.whole) p.walk))
bare_whole {t = t} {ts} false p = from_bare false (steadied false (part t ts) (whole_walk of_so_far (edge (expression BareArrow)) (tail (row_so_far (expression BareArrow))) refl (edge_on (rung 1) (expression BareArrow) (node (expression BareArrow) (part t ts)) refl (step_listed p) refl p.onward p.whole) p.walk))

bare_step : {v : Surroundings} {x y q z : Place} {t u : Tree} {ts : Forest} (b : Bool) → Steps so_far v (Expr 1) x t y (bare_kind b) ts q → Onward so_far v x (node (bare_kind b) (part (seen (bare_kind b) t) ts)) q u z → Whole so_far v false (Expr 1) x u z → BareAt v y t u z
bare_step {v} {y = y} {t = t} {ts = ts} b p on w =
    let s = low_last (bare_listed b) (bare_level b) on w in
    bare_at b (subst (λ a. Walk (Whole so_far) (steady v) (end_row b) y ts a) s.1 (bare_whole b p)) (ap (λ h. node (bare_kind b) (part h ts)) (sym (seen_bare b t)) ∙ s.0)

named_step : {v : Surroundings} {x y q z : Place} {t u : Tree} {ts : Forest} (l : Kind) → is_named l ≡ true → Steps so_far v (Expr 1) x t y l ts q → Onward so_far v x (node l (part (seen l t) ts)) q u z → Whole so_far v false (Expr 1) x u z → BareAt v y t u z
named_step (expression BareArrow) g p on w = bare_step false p on w
named_step (expression BareArrowBlock) g p on w = bare_step true p on w
named_step _ g p on w = cc

bare_goes : {v : Surroundings} {x y z : Place} {t u : Tree} → Climbs v (rung 1) x t y → IsTrue (is_found (forth (pun "=>") y)) → Onward so_far v x t y u z → Whole so_far v false (Expr 1) x u z → BareAt v y t u z
bare_goes {y = y} c f stay w = absurd (clash _ w.ends_there (arrow_goes (rung 1) y c.ended refl f))
bare_goes {v} {x} {y} {z} {t} {u} c f (step {z = q} l s d {ts = ts} b i r o h on) w = by (step_next (value t refl c.reads) p)
  where
    p : Steps so_far v (Expr 1) x t y l ts q
    p = record { side = s; begins = b; left = i; walk = r; home = d; operand = o; reads = h; end = u; place = z; onward = on; whole = w }

    by : Going y l → BareAt v y t u z
    by (by_mark g) = absurd (mark_arrow l (step_listed p) g y (step_sign g p) f)
    by (by_piece g k) = absurd (sign_piece (pun "=>") y refl refl f k)
    by (by_arrow g k j) = named_step l g p on w

bare_read : {v : Surroundings} {x y z : Place} {t u : Tree} → Climbs v (rung 1) x t y → IsTrue (is_found (forth (pun "=>") y)) → Whole so_far v false (Expr 1) x u z → BareAt v y t u z
bare_read {z = z} {u = u} c f w = bare_goes c f (c.follows.all u z w) w

-- ---- the function itself

or_second : (a b : Bool) → b ≡ true → (a || b) ≡ true
or_second true b e = refl
or_second false b e = e

-- it has one plain parameter
plain_parts : (t e : Tree) → is_bound_name t ≡ true → ((ts : Forest) → e ≡ list ts → ⊥) → has_plain_params (part t (part e none)) ≡ true
plain_parts (leaf k s) (leaf j r) h n = or_second (nat_eq (count_of is_strict_body (part (leaf k s) (part (leaf j r) none))) 0) true refl
plain_parts (leaf k s) (node j ts) h n = or_second (nat_eq (count_of is_strict_body (part (leaf k s) (part (node j ts) none))) 0) true refl
plain_parts (leaf k s) (list ts) h n = absurd (n ts refl)
plain_parts (node k ts) e h n = cc
plain_parts (list ts) e h n = cc

first_is : {t u : Tree} {ts us : Forest} → part t ts ≡ part u us → t ≡ u
first_is e = cc

not_list : {v : Surroundings} {d : Nonterminal} {x y : Place} {t : Tree} (us : Forest) → t ≡ list us → Staged v false d x t y → ⊥
not_list {v} {d} {x} {y} us l r = no_list (subst (λ u. Staged v false d x u y) l r)

unlisted : {v : Surroundings} {y z : Place} {ts : Forest} (b : Bool) → Walk (Whole so_far) (steady v) (end_row b) y ts z → (e : Tree) → ts ≡ part e none → (us : Forest) → e ≡ list us → ⊥
unlisted true (next (sign a c) (next (sign d f) (next (sign g h) (next {y = p} {z = q} (tree {t = t} r) w)))) e is us l = not_list us (first_is is ∙ l) r.reads
unlisted false (next (sign a c) (next (sign d f) (next (sign g h) (next {y = p} {z = q} (tree {t = t} r) w)))) e is us l = not_list us (first_is is ∙ l) r.reads

-- where it ended: a value as an expression has, and a block anywhere
blocked_there : (p z : Place) → forth (Ends AfterBlock) p ≡ z → IsTrue (is_found z) → is_blocked z ≡ true
blocked_there Lost z e f = let bad : IsTrue (is_found Lost) = found_at e f in cc
blocked_there (At q g text) z e f = ap is_blocked (sym e)

end_stops : {v : Surroundings} {y z : Place} {ts : Forest} (b : Bool) → Walk (Whole so_far) (steady v) (end_row b) y ts z → ends_so_far (Expr 1) z ≡ true
end_stops {z = z} true (next a (next b (next c (next d (next e (next {x = p} (sign f g) (done h))))))) = blocked_ends (rung 1) z refl (blocked_there p z f g)
end_stops false (next a (next b (next c (next (tree r) (done g))))) = r.ends_there

name_there : {v : Surroundings} {d : Nonterminal} {x y : Place} (t : Tree) → is_bound_name t ≡ true → Staged v false d x t y → Staged v false BindingIdent x t y
name_there (leaf IdentifierName t) h r = leaf_to BindingIdent IsName h refl r
name_there (leaf _ t) h r = cc
name_there (node k ts) h r = cc
name_there (list ts) h r = cc

bare_home : (b : Bool) (ts : Forest) → admits (Expr 1) (node (bare_kind b) ts) ≡ true
bare_home true ts = refl
bare_home false ts = refl

bare_keeps : (v : Surroundings) (b : Bool) (ts : Forest) → has_plain_params ts ≡ true → so_far.keeps (bare_kind b) v ts ≡ true
bare_keeps v true ts h = and_both (has_plain_params ts) true h refl
bare_keeps v false ts h = and_both (has_plain_params ts) true h refl

bare_walk : {v : Surroundings} {x y z : Place} {t : Tree} {ts : Forest} (b : Bool) → Staged v false BindingIdent x t y → Walk Staged (around v (part t ts)) (tail (row_so_far (bare_kind b))) y ts z → Walk Staged (around v (part t ts)) (row_so_far (bare_kind b)) x (part t ts) z
bare_walk true r w = next (tree r) w
bare_walk false r w = next (tree r) w

bare_there : {v : Surroundings} {x y z : Place} {t e : Tree} (b : Bool) → is_bound_name t ≡ true → Staged v false (Expr 1) x t y → Walk (Whole so_far) (steady v) (end_row b) y (part e none) z → Whole so_far v false (Expr 1) x (node (bare_kind b) (part t (part e none))) z
bare_there {v} {t = t} {e} b h r w = record {
  reads = of_so_far.to_node (bare_kind b) (bare_home b (part t (part e none))) (record { walk = bare_walk b (name_there t h r) (loosen (unsteadied b (part t (part e none)) (to_bare b w))); keeps = bare_keeps v b (part t (part e none)) (plain_parts t e h (unlisted b w e refl)) });
  ends_there = end_stops b w;
}

one_end : {v : Surroundings} {y z q : Place} {e : Tree} {ts : Forest} (b d : Bool) → OnlyEnd v b e y z → Walk (Whole so_far) (steady v) (end_row d) y ts q → (t : Tree) → (node (bare_kind b) (part t (part e none)) ≡ node (bare_kind d) (part t ts)) × (z ≡ q)
one_end {q = q} {ts = ts} true true n w t = let s = n.only.alone ts q w in (ap (λ us. node (bare_kind true) (part t us)) s.0, s.1)
one_end {q = q} {ts = ts} false false n w t = let s = n.only.alone ts q w in (ap (λ us. node (bare_kind false) (part t us)) s.0, s.1)
one_end {q = q} {ts = ts} true false n w t = absurd (n.other.no ts q w tt)
one_end {q = q} {ts = ts} false true n w t = absurd (n.other.no ts q w tt)

pub bare_only : {v : Surroundings} {x y z : Place} {t w : Tree} → Climbs v (rung 1) x t y → is_bound_name t ≡ true → IsTrue (is_found (forth (pun "=>") y)) → BareEnds v t w y z → Only so_far v (Part (Expr 1)) x (one w) z
bare_only {v} {x} {y} {z} {t} {w} c h f n = record { past = tree (subst (λ u. Whole so_far v false (Expr 1) x u z) (sym n.is) (bare_there n.block h c.reads n.read.only.walk)); alone = at }
  where
    by : {u : Tree} {q : Place} → BareAt v y t u q → (one w ≡ one u) × (z ≡ q)
    by (bare_at d r e) = let s = one_end n.block d n.read r t in (ap one (n.is ∙ (s.0 ∙ e)), s.1)

    at : (g : Given) (q : Place) → Past (Whole so_far) v (Part (Expr 1)) x g q → (one w ≡ g) × (z ≡ q)
    at g q (tree {t = u} r) = by (bare_read c f r)

pub bare_none : {v : Surroundings} {x y : Place} {t : Tree} {o : Fault} → Climbs v (rung 1) x t y → IsTrue (is_found (forth (pun "=>") y)) → NoBareEnd v t y o → Barred so_far v (Part (Expr 1)) x o
bare_none {v} {x} {y} {t} {o = o} c f n = record { no = at }
  where
    by : {u : Tree} {q : Place} → BareAt v y t u q → Whole so_far v false (Expr 1) x u q → Shallow o (part_depth u) → ⊥
    by {q = q} (bare_at d {ts = ts} r e) w s = n.no d ts q r (counted_shallow o (bare_kind d) (bare_counts d) (subst (λ u. Staged v false (Expr 1) x u q) (sym e) w.reads) (subst (λ u. Shallow o (part_depth u)) (sym e) s))

    at : (g : Given) (q : Place) → Past (Whole so_far) v (Part (Expr 1)) x g q → Shallow o (given_depth g) → ⊥
    at g q (tree {t = u} r) s = by (bare_read c f r) r s

-- no level is left for it, or none for its name
pub shallow_end : {v : Surroundings} {n : Tree} {x : Place} {e : Fault} → Below 0 e → NoBareEnd v n x e
shallow_end {n = n} {e = e} b = record { no = λ c ts y w s. none (below_shallow 0 e (suc (max (part_depth n) (deepest ts))) b s) }
  where
    none : {m : ℕ} → suc m ≤ 0 → ⊥
    none h = omega (arith, h)

pub shallow_name : {v : Surroundings} {s : Text} {x : Place} (e : Fault) → Below 0 e → NoBareEnd v (leaf IdentifierName s) x (outer e)
shallow_name e b = record { no = λ c ts y w h. at e (deepest ts) b h }
  where
    at : (d : Fault) (m : ℕ) → Below 0 d → Shallow (outer d) (suc (max 1 m)) → ⊥
    at Unread m b h = b
    at (Deep n) m b h = omega (arith, b, h)

-- nor is anything read behind its `=>`
pub end_unread : {v : Surroundings} {n : Tree} {x : Place} {e : Fault} → NoEnd v x e → NoBareEnd v n x (outer e)
end_unread {n = n} {e = e} f = record { no = λ b ts y w s. (f.no b).no ts y w (within e (part_depth n) (deepest ts) s) }
  where
    within : (d : Fault) (a m : ℕ) → Shallow (outer d) (suc (max a m)) → Shallow d m
    within Unread a m s = tt
    within (Deep k) a m s = omega (arith, s)

-- ---- as an operand

pub bound_high : (t : Tree) → is_bound_name t ≡ true → nat_le 3 (level t) ≡ true
bound_high (leaf k t) h = refl
bound_high (node k ts) h = cc
bound_high (list ts) h = cc

bound_unlike : (t : Tree) → is_bound_name t ≡ true → is_literal t ≡ false
bound_unlike (leaf k t) h = refl
bound_unlike (node k ts) h = cc
bound_unlike (list ts) h = cc

bound_rises : (t : Tree) → is_bound_name t ≡ true → rises (rung 1) t ≡ true
bound_rises (leaf k t) h = refl
bound_rises (node k ts) h = cc
bound_rises (list ts) h = cc

no_bracket : {v : Surroundings} {x y z : Place} {c : Cover} {p : Tree} → BeginsCover v x c y → is_bound_name (view_cover c) ≡ true → is_bracketed p ≡ true → Staged v false (Pat Assigns) x p z → ⊥
no_bracket {z = z} {c = c} {p = p} b h k r = clash (is_literal (view_cover c)) (bracketed_literal (b.pattern.alone p z k r).0.turns k) (bound_unlike (view_cover c) h)

settled_is : {v : Surroundings} {x y : Place} {c : Cover} → BeginsCover v x c y → is_bound_name (view_cover c) ≡ true → (e : Bool) → c.is_expr ≡ e → c.is_expr ≡ true
settled_is b h true e = e
settled_is {c = c} b h false e = absurd (clash (is_literal (view_cover c)) (b.unsettled e) (bound_unlike (view_cover c) h))

bare_begins : {v : Surroundings} {x y : Place} {c : Cover} → BeginsCover v x c y → is_bound_name (view_cover c) ≡ true → settled y ≡ true → Climbs v (rung 1) x (view_cover c) y
bare_begins {y = y} {c} b h s = (b.expr (settled_is b h c.is_expr refl) (rung 1) refl (unlike (bound_unlike (view_cover c) h))).climbs (settled_open y s) (bound_rises (view_cover c) h)

-- what is read above ends before the `=>`
bare_made : {v : Surroundings} {x y : Place} {c : Cover} → BeginsCover v x c y → is_bound_name (view_cover c) ≡ true → settled y ≡ true → IsTrue (is_found (forth (pun "=>") y)) → IsMade v x
bare_made {v} {x} {y} {c} b h s f = record { place = y; sign = before_arrow f; higher = at; pattern = λ p z k r. absurd (no_bracket b h k r) }
  where
    rising : (r : Rung) → BeginsAt v r x (view_cover c) y → (e : Bool) → rises r (view_cover c) ≡ e → LeadsTo v r x y
    rising r q true e = leads (view_cover c) (q.climbs (settled_open y s) e)
    rising r q false e = leads_none (q.low e)

    at : (r : Rung) → is_rung r ≡ true → nat_le 2 (asked r) ≡ true → LeadsTo v r x y
    at r i g = rising r (b.expr (settled_is b h c.is_expr refl) r i (above g)) (rises r (view_cover c)) refl

bare_target : (b : Bool) (ts : Forest) → is_target (node (bare_kind b) ts) ≡ false
bare_target true ts = refl
bare_target false ts = refl

bare_literal : (b : Bool) (ts : Forest) → is_literal (node (bare_kind b) ts) ≡ false
bare_literal true ts = refl
bare_literal false ts = refl

bare_rises : (b : Bool) (ts : Forest) → rises (rung 1) (node (bare_kind b) ts) ≡ true
bare_rises true ts = refl
bare_rises false ts = refl

pub operand_bare : {v : Surroundings} {x y z : Place} {c d : Cover} (e : Box Code Global) → d.expr ≡ e → d.is_expr ≡ true → d.may_turn ≡ true → BeginsCover v x c y → is_bound_name (view_cover c) ≡ true → settled y ≡ true → IsTrue (is_found (forth (pun "=>") y)) → BareEnds v (view_cover c) (view_expr e.value) y z → closed z ≡ true → IsOperand v 1 x d z
operand_bare {v} {x} {y} {z} {c} {d} e same i m b h s f n g = record {
  expr = λ _. only_begins (rung 1) (subst (λ j. Only so_far v (Part (Expr 1)) x (one (view_expr j.value)) z) (sym same) (bare_only (bare_begins b h s) h f n)) (ap (rises (rung 1)) is ∙ bare_rises n.block parts) g;
  none = λ j. absurd (clash d.is_expr i j);
  higher = λ _. as_made (bare_made b h s f);
  pattern = λ _ p w k r _. absurd (no_bracket b h k r);
  reads = λ _ p t. absurd (clash (is_target (view_cover d)) (turned_aims t.turns (ap is_literal is ∙ bare_literal n.block parts)) (ap is_target is ∙ bare_target n.block parts));
  unnamed = λ _ k. absurd (clash (is_bound_name (view_cover d)) k (ap is_bound_name is));
  may = λ _. m;
  unsettled = λ j. absurd (clash d.is_expr i j);
}
  where
    parts : Forest
    parts = part (view_cover c) (part n.end' none)

    is : view_cover d ≡ node (bare_kind n.block) parts
    is = ap (λ j. view_expr j.value) same ∙ n.is

pub operand_unbare : {v : Surroundings} {x y : Place} {c : Cover} {o : Fault} → BeginsCover v x c y → is_bound_name (view_cover c) ≡ true → settled y ≡ true → IsTrue (is_found (forth (pun "=>") y)) → NoBareEnd v (view_cover c) y o → NoOperand v 1 x o
operand_unbare {v} {x} {y} {c} {o = o} b h s f n = record {
  whole = record { none = barred; element = λ _ p z w. no_element o barred (λ p z k r e _. no_bracket b h k r) p z w };
  higher = λ _. none_made (bare_made b h s f);
}
  where
    barred : Barred so_far v (Part (Expr 1)) x o
    barred = bare_none (bare_begins b h s) f n

-- ---- whether `=>` stands on the line

pub off_line : (h : Here) → (is_found (forth (pun "=>") (place_of h)) && not (breaks h.rest)) ≡ false → forth (pun "=>") (forth SameLine (place_of h)) ≡ Lost
off_line h e = by (breaks h.rest) e
  where
    lost : (y : Place) → (is_found y && true) ≡ false → y ≡ Lost
    lost Lost e = refl
    lost (At q g text) e = cc

    by : (b : Bool) → (is_found (forth (pun "=>") (place_of h)) && not b) ≡ false → forth (pun "=>") (go_if (not b) (place_of h)) ≡ Lost
    by true e = refl
    by false e = lost (forth (pun "=>") (place_of h)) e

pub bare_settles : {v : Surroundings} {a z y : Place} {t : Tree} (d : Cover) (e : Box Code Global) → d.expr ≡ e → BareEnds v t (view_expr e.value) a z → Settles (level (view_cover d)) y
bare_settles {t = t} d e is n = record { on = λ h. absurd (clash _ h (ap (λ j. nat_le 3 (level (view_expr j.value))) is ∙ (ap (λ u. nat_le 3 (level u)) n.is ∙ bare_high n.block (part t (part n.end' none))))) }
  where
    bare_high : (b : Bool) (ts : Forest) → nat_le 3 (level (node (bare_kind b) ts)) ≡ false
    bare_high true ts = refl
    bare_high false ts = refl

pub named_settled : {v : Surroundings} {x y : Place} {c : Cover} → BeginsCover v x c y → is_bound_name (view_cover c) ≡ true → c.is_expr ≡ true
named_settled {c = c} b h = settled_is b h c.is_expr refl

-- ---- by the tokens that the lexer saw

and_first : (a b : Bool) → (a && b) ≡ true → a ≡ true
and_first true b e = refl
and_first false b e = cc

pub named_operand : {v : Surroundings} {x z : Place} {y w : Here} {c d : Cover} {n : Tree} {b : Bool} (m : ℕ) (e : Box Code Global) → is_level m ≡ true → m ≤ 1 → d.expr ≡ e → d.is_expr ≡ true → d.may_turn ≡ true → BeginsCover v x c (place_of y) → Settles (level (view_cover c)) (place_of y) → is_bound_name (view_cover c) ≡ true → view_cover c ≡ n → b ≡ (is_found (forth (pun "=>") (place_of y)) && not (breaks y.rest)) → b ≡ true → w ≡ y → BareEnds v n (view_expr e.value) (place_of w) z → closed z ≡ true → IsOperand v m x d z
named_operand {v} {x} {z} {y} {w} {c = c} {n = n} m e l h is i t b s bound view ahead on stays ends g =
    operand_at m l h (operand_bare e is i t b bound (s.on (bound_high (view_cover c) bound)) (and_first _ (not (breaks y.rest)) (sym ahead ∙ on))
    (subst (λ k. BareEnds v (view_cover c) (view_expr e.value) (place_of k) z) stays (subst (λ k. BareEnds v k (view_expr e.value) (place_of w) z) (sym view) ends)) g)

pub unnamed_operand : {v : Surroundings} {x : Place} {y w : Here} {c : Cover} {n : Tree} {b : Bool} {e : Fault} (m : ℕ) → is_level m ≡ true → m ≤ 1 → BeginsCover v x c (place_of y) → Settles (level (view_cover c)) (place_of y) → is_bound_name (view_cover c) ≡ true → view_cover c ≡ n → b ≡ (is_found (forth (pun "=>") (place_of y)) && not (breaks y.rest)) → b ≡ true → w ≡ y → NoBareEnd v n (place_of w) e → NoOperand v m x e
unnamed_operand {v} {y = y} {w} {c = c} {e = e} m l h b s bound view ahead on stays n =
    no_operand_at m l h (operand_unbare b bound (s.on (bound_high (view_cover c) bound)) (and_first _ (not (breaks y.rest)) (sym ahead ∙ on)) (subst (λ k. NoBareEnd v (view_cover c) (place_of k) e) stays (subst (λ k. NoBareEnd v k (place_of w) e) (sym view) n)))
