-- What begins with a cover: an array or an object, and all else that begins with a sign, a template or a token.
use Rattle.std.proofs.Common.{◌≡◌, ◌≤◌, ℕ, zero, suc, nat_le, Bool, true, false, not, Box, Global, refl, sym, ◌∙◌, ap, subst, arith}
use Rattle.std.proofs.lemmas.Bool.{le-leb, leb-true}
use Rattle.std.specs.Prelude.{IsTrue, ◌&&◌, ◌||◌}
use Rattle.jsx_tree.specs.Signs.{AfterBlock, AfterExpr, Sign}
use Rattle.jsx_tree.specs.Kinds.{Array, Object, Assign, Assigns, Binds, ArrayPat, ObjectPat, Kind, expression, function, Tree, leaf, node, list, Forest}
use Rattle.jsx_tree.specs.Nonterminals.{Nonterminal, Expr, NewCallee, Pat, homes, in_homes}
use Rattle.jsx_tree.specs.Grammar.{Part, pun}
use Rattle.jsx_tree.specs.Reading.{Place, Lost, At, forth}
use Rattle.jsx_tree.specs.StaticRules.{Surroundings}
use Rattle.jsx_tree.specs.Walk.{is_found}
use Rattle.jsx_tree.specs.Language.{Whole}
use Rattle.jsx_tree.specs.Answers.{Moves, Barred}
use Rattle.jsx_tree.specs.Grows.{Onward, Steps, seen, starts, stay, step}
use Rattle.std.specs.Prelude.{Some}
use Rattle.jsx_tree.specs.declared.tree.Expr.{Expr as Code}
use Rattle.jsx_tree.specs.View.{view_expr}
use Rattle.jsx_tree.specs.Faults.{Fault, Unread, Below, Shallow, deepest, outer, part_depth}
use Rattle.jsx_tree.proofs.Tokens.{and_left, and_right}
use Rattle.jsx_tree.proofs.Apart.{clash}
use Rattle.jsx_tree.proofs.Rows.Bridge.{found_at}
use Rattle.jsx_tree.proofs.Rows.Firsts.{kind_home}
use Rattle.jsx_tree.proofs.Rows.Targets.{Target, value_aims}
use Rattle.jsx_tree.proofs.Rows.Steps.{any_barred}
use Rattle.jsx_tree.proofs.Depth.Shallow.{below_shallow}
use Rattle.jsx_token.specs.Growths.{NoOpening, Rung, rung, callee, closed, opening_signs, is_blocked, is_rung, level_of_kind, on_line, opening_sign, reaches, same_sign, seat, settled}
use Rattle.jsx_token.specs.Marks.{row_so_far}
use Rattle.jsx_token.specs.Stage.{has_kind}
use Rattle.jsx_token.proofs.Listed.{Listed, listed}
use Rattle.jsx_token.proofs.Levels.{grows_on, side_of}
use Rattle.jsx_operand.specs.SoFar.{Staged, so_far}
use Rattle.jsx_operand.specs.Climbing.{Begins, Climbs, NoneBegins, level, rises}
use Rattle.jsx_operand.specs.Openings.{NoneOpened, OnlyOpened}
use Rattle.jsx_operand.specs.Covers.{view_cover}
use Rattle.jsx_operand.specs.Turning.{is_bracketed, is_literal}
use Rattle.jsx_operand.specs.declared.cover.Cover.{Cover}
use Rattle.jsx_operand.proofs.Aims.{aim_is, is_pair, seen_plain, target_reads, value_open}
use Rattle.jsx_operand.proofs.BracketSteps.{no_bracket_high, no_bracket_stuck}
use Rattle.jsx_operand.proofs.Climbing.{mark_goes, step_kind}
use Rattle.jsx_operand.proofs.Homes.{Value, made, home_of}
use Rattle.jsx_operand.proofs.Openings.{BegunSo, so_bracketed, so_opened, DeepBracket, NoBracket, bracket_rises, deep_begins, deep_bracket, opened_begun, signed_blocked, signed_follows, unopened_begun, unread_bracket, unread_opening}
use Rattle.jsx_operand.proofs.Turned.{bracketed_literal}
use Rattle.jsx_operand.proofs.Values.{Bracketed, Quote, in_array, in_object, bracket_none, bracket_opener, bracket_sign, node_to, opened_sign, opener_of, opener_piece, unbracketed}
use Rattle.jsx_member.specs.Covers.{IsPatternCover, NoCoverOpened, NoPatternCover, OpensCover, is_bracket_sign}
use Rattle.jsx_expression.specs.Covers.{Apart, above, unlike, unassigned, BeginsAt, BeginsCover, NoCoverBegins, PatternFirst}
use Rattle.jsx_function.specs.Covers.{Settles}
use Rattle.jsx_expression.proofs.Depths.{counted_shallow, onward_shallow}

-- ---- where it ended

pub settled_open : (y : Place) → settled y ≡ true → is_blocked y ≡ false
settled_open Lost s = cc
settled_open (At q AfterExpr text) s = refl
settled_open (At q _ text) s = cc

pub closed_open : (y : Place) → closed y ≡ true → is_blocked y ≡ false → settled y ≡ true
closed_open Lost s b = cc
closed_open (At q AfterExpr text) s b = s
closed_open (At q AfterBlock text) s b = cc
closed_open (At q _ text) s b = cc

low_or_high : (n : ℕ) → (nat_le 3 n ≡ true → ⊥) → nat_le n 2 ≡ true
low_or_high zero h = refl
low_or_high (suc zero) h = refl
low_or_high (suc (suc zero)) h = refl
low_or_high (suc (suc (suc n))) h = absurd (h (le-leb 3 (suc (suc (suc n))) (omega arith)))

pub low_blocked : {n : ℕ} {y : Place} → Settles n y → is_blocked y ≡ true → nat_le n 2 ≡ true
low_blocked {n} {y} s b = low_or_high n (λ h. clash (is_blocked y) b (settled_open y (s.on h)))

-- ---- patterns in brackets

pub pattern_at : {v : Surroundings} {d : Nonterminal} {x p : Place} {k : Kind} {ts : Forest} → Bracketed k → Staged v false d x (node k ts) p → Staged v false (Pat Assigns) x (node k ts) p
pattern_at in_array r = node_to (Pat Assigns) refl r
pattern_at in_object r = node_to (Pat Assigns) refl r

pub kind_bracketed : {k : Kind} (ts : Forest) → Bracketed k → is_bracketed (node k ts) ≡ true
kind_bracketed ts in_array = refl
kind_bracketed ts in_object = refl

pub data IsBracket : Tree → Type 0 where
  bracket_is : {k : Kind} {ts : Forest} → Bracketed k → IsBracket (node k ts)

pub bracket_of : {v : Surroundings} {x z : Place} (p : Tree) → is_bracketed p ≡ true → Staged v false (Pat Assigns) x p z → IsBracket p
bracket_of (node (function (ArrayPat Assigns)) ts) h r = bracket_is in_array
bracket_of (node (function (ObjectPat Assigns)) ts) h r = bracket_is in_object
bracket_of (node (function (ArrayPat Binds)) ts) h r = absurd (clash _ (kind_home (Pat Assigns) (function (ArrayPat Binds)) ts (home_of r)) refl)
bracket_of (node (function (ObjectPat Binds)) ts) h r = absurd (clash _ (kind_home (Pat Assigns) (function (ObjectPat Binds)) ts (home_of r)) refl)
bracket_of (node _ ts) h r = cc
bracket_of (leaf k t) h r = cc
bracket_of (list ts) h r = cc

-- no sign of one stands there
pub record NoBrackets (x : Place) : Type 0 where
  pub array : IsTrue (is_found (forth (pun "[") x)) → ⊥
  pub object : IsTrue (is_found (forth (pun "{") x)) → ⊥

no_sign_there : {x : Place} {k : Kind} (b : Bracketed k) → NoBrackets x → {v : Surroundings} {d : Nonterminal} {p : Place} {ts : Forest} → Staged v false d x (node k ts) p → ⊥
no_sign_there in_array n r = n.array (bracket_sign in_array r)
no_sign_there in_object n r = n.object (bracket_sign in_object r)

pub no_pattern_there : {v : Surroundings} {x : Place} {e : Fault} → NoBrackets x → NoPatternCover v x e
no_pattern_there {v} {x} {e = e} n = record { no = λ p z h r a. at p (bracket_of p h r) r a }
  where
    at : (p : Tree) → IsBracket p → {z : Place} → Staged v false (Pat Assigns) x p z → Shallow e (part_depth p) → ⊥
    at p (bracket_is b) r s = no_sign_there b n r

lost_there : (s : Sign) (x : Place) → forth s x ≡ Lost → IsTrue (is_found (forth s x)) → ⊥
lost_there s x e f = let bad : IsTrue (is_found Lost) = subst (λ p. IsTrue (is_found p)) e f in cc

pub brackets_unopened : {x : Place} → NoOpening x → NoBrackets x
unfolding opening_signs
brackets_unopened {x} n = record { array = λ f. lost_there (pun "[") x (n.on (pun "[") refl refl) f; object = λ f. lost_there (pun "{") x (n.on (pun "{") refl refl) f }

pub brackets_quoted : {x : Place} → Quote x → NoBrackets x
brackets_quoted {x} q = record { array = λ f. opener_piece x (bracket_opener in_array) f q; object = λ f. opener_piece x (bracket_opener in_object) f q }

-- what turns into no pattern in brackets, where none stands
pub pattern_none : {v : Surroundings} {x y : Place} {c : Cover} → is_literal (view_cover c) ≡ false → NoPatternCover v x Unread → IsPatternCover v x c y
pattern_none {c = c} l n = record { reads = λ p d b. absurd (clash (is_literal (view_cover c)) (bracketed_literal d.turns b) l); alone = λ p z b r. absurd (n.no p z b r tt) }

-- nor what is read there begins with one
pub no_bracket_at : {v : Surroundings} {x : Place} (e : Fault) → NoPatternCover v x e → (r : Rung) → DeepBracket v r x e
no_bracket_at e n r = record { on = λ {p = p} {ts = ts} b s o w h. n.no (node _ ts) p (kind_bracketed ts b) (pattern_at b s) (onward_shallow e s o w.reads h) }

-- ---- a literal

literal_value : (t : Tree) → is_literal t ≡ true → Value t
literal_value (node (expression Array) ts) l = made (listed (expression Array) refl refl refl)
literal_value (node (expression Object) ts) l = made (listed (expression Object) refl refl refl)
literal_value (node _ ts) l = cc
literal_value (leaf k t) l = cc
literal_value (list ts) l = cc

literal_plain : (t : Tree) → is_literal t ≡ true → is_pair t ≡ false
literal_plain (node (expression Array) ts) l = refl
literal_plain (node (expression Object) ts) l = refl
literal_plain (node _ ts) l = cc
literal_plain (leaf k t) l = cc
literal_plain (list ts) l = cc

literal_target : (t : Tree) → is_literal t ≡ true → Target t → ⊥
literal_target (node (expression Array) ts) l p = let bad : false ≡ true = aim_is (value_aims p) in cc
literal_target (node (expression Object) ts) l p = let bad : false ≡ true = aim_is (value_aims p) in cc
literal_target (node _ ts) l p = cc
literal_target (leaf k t) l p = cc
literal_target (list ts) l p = cc

literal_level : (t : Tree) → is_literal t ≡ true → rises (rung 1) t ≡ true
literal_level (node (expression Array) ts) l = refl
literal_level (node (expression Object) ts) l = refl
literal_level (node _ ts) l = cc
literal_level (leaf k t) l = cc
literal_level (list ts) l = cc

-- it isn't assigned to as it is
no_left : {v : Surroundings} {c : Nonterminal} {x y : Place} (t : Tree) → starts (row_so_far (expression Assign)) ≡ Some c → is_literal t ≡ true → Staged v false c x (seen (expression Assign) t) y → ⊥
no_left {v} {c} {x} {y} t b l i =
    let at : Staged v false (Pat Assigns) x (seen (expression Assign) t) y = subst (λ d. Staged v false d x (seen (expression Assign) t) y) (sym (ap side_of b)) i in
    literal_target t l (target_reads (Pat Assigns) refl t (value_open (literal_value t l)) (subst (λ u. Staged v false (Pat Assigns) x u y) (seen_plain (expression Assign) t (literal_plain t l)) at))

assign_listed : Listed (expression Assign)
assign_listed = listed (expression Assign) refl refl refl

-- so nothing goes on with it where `=` comes
literal_stuck : {v : Surroundings} {x y z : Place} {t u : Tree} → is_literal t ≡ true → settled y ≡ true → IsTrue (is_found (forth (pun "=") y)) → Onward so_far v x t y u z → Whole so_far v false (Expr 1) x u z → ⊥
literal_stuck {y = y} l s f stay w = clash _ w.ends_there (mark_goes (rung 1) (expression Assign) y refl assign_listed refl s (record { stays = λ o. absurd (clash (on_line (expression Assign)) o refl) }) f)
literal_stuck {v} {x} {y} {z} {t} {u} l s f (step {z = q} k c d {ts = ts} b i r o h on) w =
    let p : Steps so_far v (Expr 1) x t y k ts q = record { side = c; begins = b; left = i; walk = r; home = d; operand = o; reads = h; end = u; place = z; onward = on; whole = w } in
    let same : k ≡ expression Assign = step_kind assign_listed refl f (literal_value t l) p in
    subst (λ j. starts (row_so_far j) ≡ Some c → Staged v false c x (seen j t) y → ⊥) (sym same) (λ b i. no_left t b l i) b i

-- where `=` comes, all that is read there begins with the pattern
first_pattern : {v : Surroundings} {x y z : Place} {c : Cover} {u : Tree} → IsPatternCover v x c y → is_literal (view_cover c) ≡ true → settled y ≡ true → IsTrue (is_found (forth (pun "=") y)) → BegunSo v x (view_cover c) y u z → Whole so_far v false (Expr 1) x u z → PatternFirst v x c y u z
first_pattern p l s f (so_opened o) w = absurd (literal_stuck l s f o w)
first_pattern {v} {x} {y} {z} {c} {u} p l s f (so_bracketed {k = k} {ts = ts} {p = q} b r o) w =
    let same = p.alone (node k ts) q (kind_bracketed ts b) (pattern_at b r) in
    record {
      pattern = node k ts;
      turned = same.0;
      bracketed = kind_bracketed ts b;
      reads = subst (λ a. Staged v false (Pat Assigns) x (node k ts) a) (sym same.1) (pattern_at b r);
      onward = subst (λ a. Onward so_far v x (node k ts) a u z) (sym same.1) o;
    }

pub apart_bracket : {v : Surroundings} {x y : Place} {c : Cover} (r : Rung) → is_rung r ≡ true → is_literal (view_cover c) ≡ true → IsPatternCover v x c y → Apart r (view_cover c) y → NoBracket v r x
apart_bracket r i l p (above h) = no_bracket_high r i h
apart_bracket {c = c} r i l p (unlike n) = absurd (clash (is_literal (view_cover c)) l n)
apart_bracket r i l p (unassigned n) = no_bracket_stuck r i (λ d k ts z b q. (p.alone (node k ts) z (kind_bracketed ts b) (pattern_at b q)).1) n

-- a literal behind its bracket
pub literal_begins : {v : Surroundings} {x a y : Place} {c : Cover} (k : Kind) → Listed k → grows_on k ≡ false → Moves (opening_sign k) x a → is_bracket_sign (opening_sign k) ≡ true → settled y ≡ true → OpensCover v (opening_sign k) c a y → BeginsCover v x c y
literal_begins {v} {x} {a} {y} {c} k l g m q s o = record { expr = at; none = none_at; assigned = assigned; pattern = o.pattern x m; may = o.may; unsettled = o.unsettled }
  where
    t : is_literal (view_cover c) ≡ true
    t = o.literal q

    at : c.is_expr ≡ true → (r : Rung) → is_rung r ≡ true → Apart r (view_cover c) y → BeginsAt v r x (view_cover c) y
    at e r i n =
        let b = bracket_rises r i k l g (apart_bracket r i t (o.pattern x m) n) m (o.expr e) s in
        record { climbs = λ f h. b.climbs h; blocked = λ f h. absurd (clash (is_blocked y) f (settled_open y s)); low = λ h. b.low h }

    none_at : c.is_expr ≡ false → (r : Rung) → is_rung r ≡ true → Apart r (view_cover c) y → Barred so_far v (Part (seat r)) x Unread
    none_at e r i n = unread_bracket r i k l g (deep_bracket (apart_bracket r i t (o.pattern x m) n)) m (o.none e)

    begun_by : (b : Bool) → c.is_expr ≡ b → {u : Tree} {z : Place} → Whole so_far v false (Expr 1) x u z → BegunSo v x (view_cover c) y u z
    begun_by true e w = opened_begun k l g m (o.expr e) (rung 1) refl w
    begun_by false e w = unopened_begun (view_cover c) y k l g m (o.none e) (rung 1) refl w tt

    assigned : is_literal (view_cover c) ≡ true → IsTrue (is_found (forth (pun "=") y)) → (u : Tree) (z : Place) → Whole so_far v false (Expr 1) x u z → PatternFirst v x c y u z
    assigned h f u z w = first_pattern (o.pattern x m) t s f (begun_by c.is_expr refl w) w

-- ---- all else that begins with a sign

neither : (a b : Bool) → (a || b) ≡ false → (not a && not b) ≡ true
neither true b e = cc
neither false true e = cc
neither false false e = refl

other_sign : (s : Sign) → is_bracket_sign s ≡ false → unbracketed s ≡ true
other_sign s e = neither (same_sign (pun "[") s) (same_sign (pun "{") s) e

or_first : (a b : Bool) → a ≡ true → (a || b) ≡ true
or_first a b e = ap (λ c. c || b) e

or_second : (a b : Bool) → b ≡ true → (a || b) ≡ true
or_second true b e = refl
or_second false b e = e

-- what begins with another sign is no literal
kind_other : (k : Kind) (ts : Forest) (s : Sign) → same_sign (opening_sign k) s ≡ true → is_bracket_sign s ≡ false → is_literal (node k ts) ≡ false
kind_other (expression Array) ts s e n = absurd (clash _ (or_first (same_sign (pun "[") s) (same_sign (pun "{") s) e) n)
kind_other (expression Object) ts s e n = absurd (clash _ (or_second (same_sign (pun "[") s) (same_sign (pun "{") s) e) n)
kind_other _ ts s e n = refl

pub opened_other : {v : Surroundings} {x y : Place} {t : Tree} (s : Sign) → OnlyOpened v s t x y → is_bracket_sign s ≡ false → is_literal t ≡ false
opened_other s o n = ap is_literal o.built.is ∙ kind_other o.kind o.built.parts s (and_right (in_homes (Expr 0) (homes o.kind)) _ (and_right (has_kind o.kind) _ o.begins)) n

no_pattern_by : {v : Surroundings} {x w : Place} {e : Fault} (k : Kind) → Listed k → grows_on k ≡ false → is_bracket_sign (opening_sign k) ≡ false → Moves (opening_sign k) w x → NoPatternCover v w e
no_pattern_by {v} {x} {w} {e = e} k l g n m = record { no = λ p z h r a. at p (bracket_of p h r) r a }
  where
    at : (p : Tree) → IsBracket p → {z : Place} → Staged v false (Pat Assigns) w p z → Shallow e (part_depth p) → ⊥
    at p (bracket_is b) r s = bracket_none (opener_of k l g) (other_sign (opening_sign k) n) (found_at (sym m.is) m.found) b r

-- behind its sign
pub opened_cover : {v : Surroundings} {x y : Place} (k : Kind) (c : Cover) (e : Box Code Global) → Listed k → grows_on k ≡ false → is_bracket_sign (opening_sign k) ≡ false → c.expr ≡ e → c.is_expr ≡ true → c.may_turn ≡ true → OnlyOpened v (opening_sign k) (view_expr e.value) x y → OpensCover v (opening_sign k) c x y
opened_cover {v} {x} {y} k c e l g n is i m o = record {
  expr = λ _. here;
  none = λ h. absurd (clash c.is_expr i h);
  pattern = λ w q. pattern_none (opened_other (opening_sign k) here n) (no_pattern_by k l g n q);
  literal = λ h. absurd (clash (is_bracket_sign (opening_sign k)) h n);
  other = λ h. opened_other (opening_sign k) here n;
  may = λ h. m;
  unsettled = λ h. absurd (clash c.is_expr i h);
}
  where
    here : OnlyOpened v (opening_sign k) (view_cover c) x y
    here = subst (λ b. OnlyOpened v (opening_sign k) (view_expr b.value) x y) (sym is) o

pub unopened_cover : {v : Surroundings} {x : Place} {e : Fault} (k : Kind) → Listed k → grows_on k ≡ false → is_bracket_sign (opening_sign k) ≡ false → NoneOpened v (opening_sign k) x e → NoCoverOpened v (opening_sign k) x e
unopened_cover k l g n b = record { none = b; pattern = λ w m. no_pattern_by k l g n m }

-- with it
pub opening_begins : {v : Surroundings} {x a y : Place} {c : Cover} (k : Kind) → Listed k → grows_on k ≡ false → Moves (opening_sign k) x a → is_bracket_sign (opening_sign k) ≡ false → closed y ≡ true → Settles (level (view_cover c)) y → OpensCover v (opening_sign k) c a y → BeginsCover v x c y
opening_begins {v} {x} {a} {y} {c} k l g m n s low o = record {
  expr = at;
  none = λ e. absurd (none e);
  assigned = λ h. absurd (clash (is_literal (view_cover c)) h (o.other n));
  pattern = o.pattern x m;
  may = o.may;
  unsettled = o.unsettled;
}
  where
    none : c.is_expr ≡ false → ⊥
    none e = clash (is_literal (view_cover c)) (o.unsettled e) (o.other n)

    by : c.is_expr ≡ true → (r : Rung) → is_rung r ≡ true → (b : Bool) → is_blocked y ≡ b → BeginsAt v r x (view_cover c) y
    by e r i false f = let q = signed_follows k l g (other_sign (opening_sign k) n) m (o.expr e) (closed_open y s f) in record { climbs = λ f h. q.on r i h; blocked = λ h. absurd (clash (is_blocked y) h f); low = λ h. q.low r i h }
    by e r i true f =
        let q = signed_blocked k l g (other_sign (opening_sign k) n) m (o.expr e) (subst (λ t. nat_le (level t) 2 ≡ true) (o.expr e).built.is (low_blocked low f)) f in
        record { climbs = λ h. absurd (clash (is_blocked y) f h); blocked = λ h j. q.whole r i j; low = λ h. q.low r i h }

    at : c.is_expr ≡ true → (r : Rung) → is_rung r ≡ true → Apart r (view_cover c) y → BeginsAt v r x (view_cover c) y
    at e r i w = by e r i (is_blocked y) refl

-- either of the two; what settles a literal is its level
bracket_cases : {A : Type 0} (s : Sign) → (is_bracket_sign s ≡ true → A) → (is_bracket_sign s ≡ false → A) → A
bracket_cases {A} s f g = by (is_bracket_sign s) refl
  where
    by : (b : Bool) → is_bracket_sign s ≡ b → A
    by true e = f e
    by false e = g e

pub literal_high : (t : Tree) → is_literal t ≡ true → nat_le 3 (level t) ≡ true
literal_high (node (expression Array) ts) l = refl
literal_high (node (expression Object) ts) l = refl
literal_high (node _ ts) l = cc
literal_high (leaf k t) l = cc
literal_high (list ts) l = cc

pub cover_begins : {v : Surroundings} {x a y : Place} {c : Cover} (k : Kind) → Listed k → grows_on k ≡ false → Moves (opening_sign k) x a → closed y ≡ true → Settles (level (view_cover c)) y → OpensCover v (opening_sign k) c a y → BeginsCover v x c y
cover_begins {c = c} k l g m s low o = bracket_cases (opening_sign k) (λ q. literal_begins k l g m q (low.on (literal_high (view_cover c) (o.literal q))) o) (λ n. opening_begins k l g m n s low o)

pub no_cover_begins : {v : Surroundings} {x a : Place} {e : Fault} (k : Kind) → Listed k → grows_on k ≡ false → Moves (opening_sign k) x a → NoCoverOpened v (opening_sign k) a e → NoCoverBegins v x (outer e)
no_cover_begins {x = x} {e = e} k l g m n = let p = n.pattern x m in record { none = unread_opening k l g (λ r i. no_bracket_at (outer e) p r) m n.none; pattern = p }

-- no level is left for what begins there
pub deep_cover_begins : {v : Surroundings} {x : Place} {e : Fault} → Below 0 e → NoCoverBegins v x e
deep_cover_begins {v} {x} {e = e} b = record { none = deep_begins b; pattern = record { no = λ p z h r s. at p (bracket_of p h r) r s } }
  where
    none : {n : ℕ} → suc n ≤ 0 → ⊥
    none h = omega (arith, h)

    at : (p : Tree) → IsBracket p → {z : Place} → Staged v false (Pat Assigns) x p z → Shallow e (part_depth p) → ⊥
    at p (bracket_is {ts = ts} in_array) r s = none (below_shallow 0 e (suc (deepest ts)) b (counted_shallow e (function (ArrayPat Assigns)) refl r s))
    at p (bracket_is {ts = ts} in_object) r s = none (below_shallow 0 e (suc (deepest ts)) b (counted_shallow e (function (ObjectPat Assigns)) refl r s))

-- ---- a template, and what is one token or an element

pub begins_at : {v : Surroundings} {x y : Place} {t : Tree} → Begins v x t y → (r : Rung) → is_rung r ≡ true → BeginsAt v r x t y
begins_at {y = y} b r i = record { climbs = λ f h. b.on r i h; blocked = λ f h. absurd (clash (is_blocked y) f (settled_open y b.ended)); low = λ h. b.low r i h }

literal_there : {v : Surroundings} {d : Nonterminal} {x y : Place} (t : Tree) → is_literal t ≡ true → NoBrackets x → Staged v false d x t y → ⊥
literal_there (node (expression Array) ts) l n r = n.array (opened_sign (expression Array) (listed (expression Array) refl refl refl) refl r)
literal_there (node (expression Object) ts) l n r = n.object (opened_sign (expression Object) (listed (expression Object) refl refl refl) refl r)
literal_there (node _ ts) l n r = cc
literal_there (leaf k t) l n r = cc
literal_there (list ts) l n r = cc

no_literal : {v : Surroundings} {x y : Place} (t : Tree) → NoBrackets x → Begins v x t y → (b : Bool) → is_literal t ≡ b → b ≡ false
no_literal t n q false e = refl
no_literal t n q true e = absurd (literal_there t e n (q.on (rung 1) refl (literal_level t e)).reads)

pub plain_begins : {v : Surroundings} {x y : Place} (c : Cover) (e : Box Code Global) → NoBrackets x → c.expr ≡ e → c.is_expr ≡ true → c.may_turn ≡ true → Begins v x (view_expr e.value) y → BeginsCover v x c y
plain_begins {v} {x} {y} c e n is i m q = record {
  expr = λ _ r j _. begins_at here r j;
  none = λ h. absurd (clash c.is_expr i h);
  assigned = λ h. absurd (clash (is_literal (view_cover c)) h unlike');
  pattern = pattern_none unlike' (no_pattern_there n);
  may = λ h. m;
  unsettled = λ h. absurd (clash c.is_expr i h);
}
  where
    here : Begins v x (view_cover c) y
    here = subst (λ b. Begins v x (view_expr b.value) y) (sym is) q

    unlike' : is_literal (view_cover c) ≡ false
    unlike' = no_literal (view_cover c) n here (is_literal (view_cover c)) refl

pub plain_unbegun : {v : Surroundings} {x : Place} {e : Fault} → NoBrackets x → NoneBegins v x e → NoCoverBegins v x e
plain_unbegun n b = record { none = b; pattern = no_pattern_there n }

pub plain_unlike : {v : Surroundings} {x y : Place} (t : Tree) → NoBrackets x → Begins v x t y → is_literal t ≡ false
plain_unlike t n q = no_literal t n q (is_literal t) refl

-- ---- what `new` stands before

high_of : (n : ℕ) → nat_le 17 n ≡ true → nat_le 3 n ≡ true
high_of n h = le-leb 3 n (omega (arith, leb-true 17 n h))

pub callee_high : (k : Kind) → reaches callee k ≡ true → nat_le 3 (level_of_kind k) ≡ true
callee_high k h = high_of (level_of_kind k) (and_left (nat_le 17 (level_of_kind k)) _ h)

at_callee : {v : Surroundings} {x y : Place} {c : Cover} {e : Box Code Global} → e ≡ c.expr → c.is_expr ≡ true → BeginsCover v x c y → BeginsAt v callee x (view_expr e.value) y
at_callee {v} {x} {y} is i b = subst (λ j. BeginsAt v callee x (view_expr j.value) y) (sym is) (b.expr i callee refl (above refl))

pub callee_begins : {v : Surroundings} {x y : Place} {c : Cover} {e : Box Code Global} → e ≡ c.expr → c.is_expr ≡ true → rises callee (view_expr e.value) ≡ true → Settles (level (view_cover c)) y → BeginsCover v x c y → Climbs v callee x (view_expr e.value) y
callee_begins {y = y} {c} {e} is i h s b = (at_callee is i b).climbs (settled_open y (s.on (ap (λ j. nat_le 3 (level (view_expr j.value))) (sym is) ∙ high_of (level (view_expr e.value)) (and_left (nat_le 17 (level (view_expr e.value))) _ h)))) h

pub callee_unfit : {v : Surroundings} {x y : Place} {c : Cover} {e : Box Code Global} {o : Fault} → e ≡ c.expr → c.is_expr ≡ true → rises callee (view_expr e.value) ≡ false → BeginsCover v x c y → Barred so_far v (Part NewCallee) x o
callee_unfit is i h b = any_barred ((at_callee is i b).low h)

pub callee_unsettled : {v : Surroundings} {x y : Place} {c : Cover} {e : Fault} → c.is_expr ≡ false → BeginsCover v x c y → Barred so_far v (Part NewCallee) x e
callee_unsettled i b = any_barred (b.none i callee refl (above refl))
