-- What the loop of `expression` keeps of a cover that goes on to the right, and what is read where it stops.
use Rattle.std.proofs.Common.{◌≡◌, ◌≤◌, ℕ, nat_le, Bool, true, false, not, Box, Global, refl, sym, ◌∙◌, ap, subst, arith}
use Rattle.std.specs.Prelude.{IsTrue, codes, cond, ◌||◌}
use Rattle.std.proofs.lemmas.Bool.{le-leb, leb-true}
use Rattle.jsx_base.specs.Token.{IdentifierName, Lexeme, Operator}
use Rattle.jsx_tree.specs.Signs.{AfterExpr, SameLine}
use Rattle.jsx_tree.specs.Kinds.{Array, BareArrow, BareArrowBlock, Object, Tagged, Kind, expression, Tree, leaf, node, list, Forest, part}
use Rattle.jsx_tree.specs.Nonterminals.{BindingIdent, Expr, leaf_in}
use Rattle.jsx_tree.specs.Grammar.{Part, pun}
use Rattle.jsx_tree.specs.Form.{is_leaf}
use Rattle.jsx_tree.specs.Reading.{Place, Lost, At, forth}
use Rattle.jsx_tree.specs.StaticRules.{Surroundings}
use Rattle.jsx_tree.specs.Walk.{Given, Past, is_found, one, tail, tree}
use Rattle.jsx_tree.specs.Language.{Whole}
use Rattle.jsx_tree.specs.Answers.{Moves, Only, Barred, Built}
use Rattle.jsx_tree.specs.Grows.{Onward, Steps, seen, stay, step}
use Rattle.jsx_tree.specs.View.{view_expr}
use Rattle.jsx_tree.specs.declared.tree.Expr.{Expr as Code}
use Rattle.jsx_tree.specs.Faults.{Fault, Unread, Shallow, given_depth}
use Rattle.jsx_tree.proofs.Tokens.{and_left}
use Rattle.jsx_tree.proofs.Apart.{clash}
use Rattle.jsx_tree.proofs.Rows.Steps.{any_barred}
use Rattle.jsx_token.specs.declared.growth.Growth.{Growth}
use Rattle.jsx_token.specs.Growths.{OnLine, growth_kind, rung, closed, is_blocked, is_level, level_of_kind, mark, reaches, settled}
use Rattle.jsx_token.specs.Marks.{ends_so_far, is_sign, row_so_far, unarrowed}
use Rattle.jsx_token.specs.Here.{Here, place_of}
use Rattle.jsx_token.specs.Seen.{next_token}
use Rattle.jsx_token.proofs.Listed.{Listed}
use Rattle.jsx_token.proofs.Levels.{grows_on, is_named, marks_on, side_of, steps_on}
use Rattle.jsx_operand.specs.SoFar.{Staged, so_far}
use Rattle.jsx_operand.specs.Climbing.{Climbs, Grown, fits, rises}
use Rattle.jsx_operand.specs.Covers.{view_cover}
use Rattle.jsx_operand.specs.Turning.{is_bound_name, is_literal}
use Rattle.jsx_operand.specs.declared.cover.Cover.{Cover}
use Rattle.jsx_operand.proofs.Climbing.{Going, by_arrow, by_mark, by_piece, arrow_goes, climb_blocked, climb_on, climb_only, climb_tagged, mark_arrow, mark_goes, step_listed, step_next, step_sign}
use Rattle.jsx_operand.proofs.Homes.{bindings, home_of, no_list, taken_by, value}
use Rattle.jsx_operand.proofs.Tags.{quote_goes, sign_piece}
use Rattle.jsx_operand.proofs.Values.{Quote}
use Rattle.jsx_operand.proofs.Turned.{bracketed_literal}
use Rattle.jsx_expression.specs.Covers.{IsOperand}
use Rattle.jsx_function.specs.Covers.{IsCover, NoCover, Settles}
use Rattle.jsx_expression.proofs.Covers.{closed_open, low_blocked, settled_open}
use Rattle.jsx_expression.proofs.CoverElements.{Bracketing, bracket_unassigned, element_only, element_unsettled, no_element}

-- an expression with what is known of its spreads
abbrev pub cover_of : Box Code Global → Bool → Cover
cover_of e m = record { expr = e; is_expr = true; may_turn = m }

-- all that is read at the level begins with it; no `=>` comes on the line of a name
pub record IsOngoing (v : Surroundings) (n : ℕ) (x : Place) (c : Cover) (y : Place) : Type 0 where
  pub climbs : is_blocked y ≡ false → Climbs v (rung n) x (view_cover c) y
  pub blocked : is_blocked y ≡ true → Only so_far v (Part (Expr n)) x (one (view_cover c)) y
  pub brackets : n ≡ 1 → Bracketing v x c y
  pub unnamed : n ≡ 1 → is_bound_name (view_cover c) ≡ true → forth (pun "=>") (forth SameLine y) ≡ Lost

-- ---- from an operand on

operand_brackets : {v : Surroundings} {n : ℕ} {x y : Place} {c : Cover} → n ≡ 1 → IsOperand v n x c y → Bracketing v x c y
operand_brackets {v} {n} {x} {y} {c} e o = record { reads = λ p l d. o.reads e p d; alone = λ p z b r s. o.pattern e p z b r (bracket_unassigned p b r s); may = o.may }

pub ongoing : {v : Surroundings} {x y : Place} {c : Cover} (n : ℕ) (e : Box Code Global) (m : Bool) → c.is_expr ≡ true → e ≡ c.expr → m ≡ c.may_turn → rises (rung n) (view_cover c) ≡ true → IsOperand v n x c y → IsOngoing v n x (cover_of e m) y
ongoing {v} {x} {y} {c} n e m i same may h o = subst (λ d. IsOngoing v n x d y) there (record { climbs = λ f. (o.expr i).climbs f h; blocked = λ f. (o.expr i).blocked f h; brackets = λ j. operand_brackets j o; unnamed = o.unnamed })
  where
    there : c ≡ cover_of e m
    there = λ j. record { expr = sym same j; is_expr = i j; may_turn = sym may j }

-- what isn't settled is the whole cover
pub unsettled_whole : {v : Surroundings} {x y : Place} {c : Cover} (n : ℕ) → c.is_expr ≡ false → IsOperand v n x c y → IsCover v n x c y
unsettled_whole {v} {x} {y} {c} n i o = record { expr = λ e. absurd (clash c.is_expr e i); none = o.none; element = λ e. element_unsettled (subst (λ k. Barred so_far v (Part (Expr k)) x Unread) e (o.none i)) (o.unsettled i) (operand_brackets e o); unsettled = o.unsettled }

literal_high : (n : ℕ) (t : Tree) → n ≡ 1 → is_literal t ≡ true → rises (rung n) t ≡ true
literal_high n (node (expression Array) ts) e l = ap (λ k. nat_le k 18) e
literal_high n (node (expression Object) ts) e l = ap (λ k. nat_le k 18) e
literal_high n (node _ ts) e l = cc
literal_high n (leaf k t) e l = cc
literal_high n (list ts) e l = cc

-- an operand of a lower level
pub operand_low : {v : Surroundings} {x y : Place} {c : Cover} {d : Fault} (n : ℕ) → rises (rung n) (view_cover c) ≡ false → IsOperand v n x c y → NoCover v n x d
operand_low {v} {x} {y} {c} {d = d} n h o = record { none = barred; element = λ e p z w. no_element d (subst (λ k. Barred so_far v (Part (Expr k)) x d) e barred) (λ p z b r s a. clash (rises (rung n) (view_cover c)) (literal_high n (view_cover c) e (bracketed_literal ((operand_brackets e o).alone p z b r s).0.turns b)) h) p z w }
  where
    by : (b : Bool) → c.is_expr ≡ b → Barred so_far v (Part (Expr n)) x d
    by true e = any_barred ((o.expr e).low h)
    by false e = any_barred (o.none e)

    barred : Barred so_far v (Part (Expr n)) x d
    barred = by c.is_expr refl

-- ---- where it has come to its end

settled_cover : {v : Surroundings} {x y : Place} {c : Cover} (n : ℕ) → c.is_expr ≡ true → IsOngoing v n x c y → Only so_far v (Part (Expr n)) x (one (view_cover c)) y → IsCover v n x c y
settled_cover {v} {x} {y} {c} n i g o = record {
  expr = λ _. o;
  none = λ e. absurd (clash c.is_expr i e);
  element = λ e. element_only (subst (λ k. Only so_far v (Part (Expr k)) x (one (view_cover c)) y) e o) (g.brackets e);
  unsettled = λ e. absurd (clash c.is_expr i e);
}

pub ongoing_blocked : {v : Surroundings} {x y : Place} {c : Cover} (n : ℕ) → c.is_expr ≡ true → is_blocked y ≡ true → IsOngoing v n x c y → IsCover v n x c y
ongoing_blocked n i f g = settled_cover n i g (g.blocked f)

pub ongoing_ended : {v : Surroundings} {x y : Place} {c : Cover} (n : ℕ) → is_level n ≡ true → c.is_expr ≡ true → is_blocked y ≡ false → ends_so_far (Expr n) y ≡ true → IsOngoing v n x c y → IsCover v n x c y
ongoing_ended n l i f e g = settled_cover n i g (climb_only (rung n) l (g.climbs f) e)

-- ---- where nothing is read

pub ongoing_none : {v : Surroundings} {x y : Place} {c : Cover} {o : Fault} (n : ℕ) → IsOngoing v n x c y → (n ≡ 1 → ends_so_far (Expr 1) y ≡ false) → Barred so_far v (Part (Expr n)) x o → NoCover v n x o
ongoing_none {v} {x} {y} {c} {o = o} n g e b = record { none = b; element = λ j p z w. no_element o (subst (λ k. Barred so_far v (Part (Expr k)) x o) j b) (λ p z h r s _. clash _ (subst (λ q. ends_so_far (Expr 1) q ≡ true) (sym ((g.brackets j).alone p z h r s).1) s) (e j)) p z w }

-- ---- a step

steps_unlike : (k : Kind) (ts : Forest) → grows_on k ≡ true → is_literal (node k ts) ≡ false
steps_unlike (expression Array) ts g = cc
steps_unlike (expression Object) ts g = cc
steps_unlike _ ts g = refl

-- what went on is no literal and no name, and no pattern in brackets ended before what it went on by
gone_on : {v : Surroundings} {x a y : Place} {c : Cover} (d : Cover) (n : ℕ) (k : Kind) (ts : Forest) → grows_on k ≡ true → view_cover d ≡ node k ts → d.may_turn ≡ true → IsOngoing v n x c a → (n ≡ 1 → ends_so_far (Expr 1) a ≡ false) → (is_blocked y ≡ false → Climbs v (rung n) x (view_cover d) y) → (is_blocked y ≡ true → Only so_far v (Part (Expr n)) x (one (view_cover d)) y) → IsOngoing v n x d y
gone_on {v} {x} {a} {y} {c} d n k ts h is m g e f b = record {
  climbs = f;
  blocked = b;
  brackets = λ j. record {
    reads = λ p l t. absurd (clash (is_literal (view_cover d)) l unlike);
    alone = λ p z q r s. absurd (clash _ (subst (λ w. ends_so_far (Expr 1) w ≡ true) (sym ((g.brackets j).alone p z q r s).1) s) (e j));
    may = λ _. m;
  };
  unnamed = λ j q. absurd (clash (is_bound_name (view_cover d)) q (ap is_bound_name is));
}
  where
    unlike : is_literal (view_cover d) ≡ false
    unlike = ap is_literal is ∙ steps_unlike k ts h

pub ongoing_tagged : {v : Surroundings} {x a y : Place} {c : Cover} (n : ℕ) (e : Box Code Global) → is_level n ≡ true → is_blocked a ≡ false → IsOngoing v n x c a → Quote a → fits (expression Tagged) (view_cover c) ≡ true → Built so_far v (tail (row_so_far (expression Tagged))) (expression Tagged) (part (view_cover c)) (view_expr e.value) a y → settled y ≡ true → IsOngoing v n x (cover_of e true) y
ongoing_tagged {v} {x} {a} {y} {c} n e l f g q h b s = gone_on (cover_of e true) n (expression Tagged) (part (view_cover c) b.parts) refl b.is refl g (λ _. quote_goes (rung 1) a refl (g.climbs f).ended q) (λ _. climb_tagged (rung n) l (g.climbs f) q h b s) (λ t. absurd (clash (is_blocked y) t (settled_open y s)))

-- a mark that goes on at the level
pub marked_goes : {v : Surroundings} {x a b : Place} {c : Cover} (n : ℕ) (k : Kind) → Listed k → marks_on k ≡ true → is_blocked a ≡ false → IsOngoing v n x c a → OnLine k a → Moves (mark k) a b → reaches (rung n) k ≡ true → n ≡ 1 → ends_so_far (Expr 1) a ≡ false
marked_goes {a = a} n k m h f g o q r e = mark_goes (rung 1) k a refl m h (g.climbs f).ended o (subst (λ p. IsTrue (is_found p)) q.is q.found) ∙ ap not (subst (λ j. reaches (rung j) k ≡ true) e r)

grows_of : (k : Kind) → marks_on k ≡ true → grows_on k ≡ true
grows_of k h = and_left (grows_on k) _ (and_left (steps_on k) _ h)

pub ongoing_grown : {v : Surroundings} {x a b y : Place} {c : Cover} (n : ℕ) (k : Kind) (e : Box Code Global) → is_level n ≡ true → Listed k → marks_on k ≡ true → is_blocked a ≡ false → IsOngoing v n x c a → OnLine k a → Moves (mark k) a b → reaches (rung n) k ≡ true → fits k (view_cover c) ≡ true → Grown v k (view_cover c) b (view_expr e.value) y → closed y ≡ true → Settles (level_of_kind k) y → IsOngoing v n x (cover_of e true) y
ongoing_grown {v} {x} {a} {b} {y} {c} n k e l m h f g o q r i w s low = gone_on (cover_of e true) n k _ (grows_of k h) w.is refl g (marked_goes n k m h f g o q r) (λ t. climb_on (rung n) k l m h (g.climbs f) o q r i w (closed_open y s t)) (λ t. climb_blocked (rung n) k l m h (g.climbs f) o q r i w (low_blocked low t) t)

-- ---- before a `=>` nothing has come to its end

bound_there : {v : Surroundings} {x y : Place} (t : Tree) → Staged v false BindingIdent x t y → is_bound_name t ≡ true
bound_there (leaf IdentifierName t) r = and_left (leaf_in BindingIdent IdentifierName t) (is_leaf IdentifierName t) r.reads.is
bound_there (leaf _ t) r = let bad = r.staged in cc
bound_there (node k ts) r = absurd (bindings.node k ts (taken_by r) (home_of r))
bound_there (list ts) r = absurd (no_list r)

-- what stands before one is a name that may be bound
named_bound : {v : Surroundings} {x y q : Place} {t : Tree} {ts : Forest} (l : Kind) → is_named l ≡ true → Steps so_far v (Expr 1) x t y l ts q → is_bound_name t ≡ true
named_bound {v} {x} {y} {t = t} (expression BareArrow) g p = bound_there t (subst (λ c. Staged v false c x t y) (sym (ap side_of p.begins)) p.left)
named_bound {v} {x} {y} {t = t} (expression BareArrowBlock) g p = bound_there t (subst (λ c. Staged v false c x t y) (sym (ap side_of p.begins)) p.left)
named_bound _ g p = cc

no_arrow : {v : Surroundings} {x y z : Place} {t u : Tree} → Climbs v (rung 1) x t y → IsTrue (is_found (forth (pun "=>") y)) → (is_bound_name t ≡ true → forth (pun "=>") (forth SameLine y) ≡ Lost) → Onward so_far v x t y u z → Whole so_far v false (Expr 1) x u z → ⊥
no_arrow {y = y} c f n stay w = clash _ w.ends_there (arrow_goes (rung 1) y c.ended refl f)
no_arrow {v} {x} {y} {z} {t} {u} c f n (step {z = q} l s d {ts = ts} b i r o h on) w = by (step_next (value t refl c.reads) p)
  where
    p : Steps so_far v (Expr 1) x t y l ts q
    p = record { side = s; begins = b; left = i; walk = r; home = d; operand = o; reads = h; end = u; place = z; onward = on; whole = w }

    by : Going y l → ⊥
    by (by_mark g) = mark_arrow l (step_listed p) g y (step_sign g p) f
    by (by_piece g k) = sign_piece (pun "=>") y refl refl f k
    by (by_arrow g k j) = let bad : IsTrue (is_found Lost) = subst (λ a. IsTrue (is_found a)) (ap (forth (pun "=>")) (sym k) ∙ n (named_bound l g p)) j in cc

pub ongoing_arrow : {v : Surroundings} {x y : Place} {c : Cover} {o : Fault} (n : ℕ) → n ≡ 1 → is_blocked y ≡ false → IsOngoing v n x c y → IsTrue (is_found (forth (pun "=>") y)) → NoCover v n x o
ongoing_arrow {v} {x} {y} {c} {o = o} n e f g h = ongoing_none n g (λ j. arrow_goes (rung 1) y (g.climbs f).ended refl h) (subst (λ k. Barred so_far v (Part (Expr k)) x o) (sym e) (record { no = at }))
  where
    here : Climbs v (rung 1) x (view_cover c) y
    here = subst (λ k. Climbs v (rung k) x (view_cover c) y) e (g.climbs f)

    at : (q : Given) (z : Place) → Past (Whole so_far) v (Part (Expr 1)) x q z → Shallow o (given_depth q) → ⊥
    at q z (tree {t = u} w) s = no_arrow here h (g.unnamed e) (here.follows.all u z w) w

-- ---- where the lexer stands

pub as_ongoing : {c : Cover} (e : Box Code Global) (m : Bool) → c.is_expr ≡ true → e ≡ c.expr → m ≡ c.may_turn → c ≡ cover_of e m
as_ongoing e m i same may = λ j. record { expr = sym same j; is_expr = i j; may_turn = sym may j }

pub ongoing_to : {v : Surroundings} {n : ℕ} {x : Place} {c : Cover} {y z : Here} → z ≡ y → IsOngoing v n x c (place_of y) → IsOngoing v n x c (place_of z)
ongoing_to {v} {n} {x} {c} e g = subst (λ h. IsOngoing v n x c (place_of h)) (sym e) g

pub open_to : {y z : Here} {b : Bool} → z ≡ y → b ≡ is_blocked (place_of y) → b ≡ false → is_blocked (place_of z) ≡ false
open_to e a h = ap (λ l. is_blocked (place_of l)) e ∙ (sym a ∙ h)

pub covers_to : {v : Surroundings} {n : ℕ} {x : Place} {c : Cover} {y z : Here} → z ≡ y → IsCover v n x c (place_of y) → IsCover v n x c (place_of z)
covers_to {v} {n} {x} {c} e g = subst (λ h. IsCover v n x c (place_of h)) (sym e) g

-- what is of a level settles as that level says
pub settles_at : {n m : ℕ} {y : Place} → n ≤ m → Settles m y → Settles n y
settles_at {n} {m} l s = record { on = λ h. s.on (le-leb 3 m (omega (arith, l, leb-true 3 n h))) }

pub settles_to : {n : ℕ} {y z : Here} → z ≡ y → Settles n (place_of y) → Settles n (place_of z)
settles_to {n} e s = subst (λ h. Settles n (place_of h)) (sym e) s

sign_off : (b : Bool) (y : Place) → is_found y ≡ true → cond b y Lost ≡ Lost → b ≡ false
sign_off true y f h = let bad : true ≡ false = sym f ∙ ap is_found h in cc
sign_off false y f h = refl

-- where no `=>` comes none goes on
pub unarrowed_by : (n : ℕ) (h : Here) → (n ≤ 1 → forth (pun "=>") (place_of h) ≡ Lost) → unarrowed n (next_token Operator h) ≡ true
unarrowed_by n h f = by (nat_le n 1) refl
  where
    x : Lexeme
    x = next_token Operator h

    by : (b : Bool) → nat_le n 1 ≡ b → unarrowed n (next_token Operator h) ≡ true
    by false e = ap (λ b. not b || not (is_sign x (pun "=>"))) e
    by true e = (λ i. not (e i) || not (sign_off (is_sign x (pun "=>")) (At (codes "=>") AfterExpr x.rest) refl (f (leb-true n 1 e)) i))

-- ---- what settles

pub settles_by : {n : ℕ} {y : Place} → settled y ≡ true → Settles n y
settles_by s = record { on = λ _. s }

pub settles_low : {y : Place} (g h : Growth) → g ≡ h → nat_le 3 (level_of_kind (growth_kind h)) ≡ false → Settles (level_of_kind (growth_kind g)) y
settles_low g h e n = record { on = λ k. absurd (clash _ (subst (λ j. nat_le 3 (level_of_kind (growth_kind j)) ≡ true) e k) n) }

-- where a template comes, nothing of the level of assignments has ended
pub quote_stops : {v : Surroundings} {x a : Place} {c : Cover} (n : ℕ) → is_blocked a ≡ false → IsOngoing v n x c a → Quote a → n ≡ 1 → ends_so_far (Expr 1) a ≡ false
quote_stops {a = a} n f g q e = quote_goes (rung 1) a refl (g.climbs f).ended q

pub grown_unlike : {v : Surroundings} {b y : Place} {t w : Tree} (k : Kind) → marks_on k ≡ true → Grown v k t b w y → is_literal w ≡ false
grown_unlike {t = t} k h n = ap is_literal n.is ∙ steps_unlike k (part (seen k t) n.parts) (grows_of k h)
