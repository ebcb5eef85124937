-- Directives, in a program or in the body of a function: the strings that come first, and what stands behind them. A string reads alike as a statement and as a directive, whatever it stands in.
use Rattle.std.proofs.Common.{◌≡◌, ◌≤◌, arith, Bool, true, false, not, refl, sym, ◌∙◌, ap, subst}
use Rattle.std.specs.Prelude.{IfNone, IfSome, IsTrue, None, Option, Some, codes}
use Rattle.jsx_base.specs.Token.{Text, Operator, Punctuator, IdentifierName, StringLiteral}
use Rattle.jsx_tree.specs.Signs.{Sign, Semicolon, Tok, Unless}
use Rattle.jsx_tree.specs.Kinds.{Directive, FunctionBody, ExprStmt, Kind, program, statement, function, expression, Tree, leaf, node, list, Forest, none, part, FunctionExpr, ClassExpr, Object}
use Rattle.jsx_tree.specs.Nonterminals.{Nonterminal, Body, Expr, Item, Stmt, DirectiveOnly, StringOnly}
use Rattle.jsx_tree.specs.Grammar.{Lines, TopLines, Part, heads, key, pun}
use Rattle.jsx_tree.specs.Form.{admits, is_leaf}
use Rattle.jsx_tree.specs.Reading.{Place, Lost, At, forth}
use Rattle.jsx_tree.specs.StaticRules.{Surroundings, first_of_list, is_string_stmt, rule}
use Rattle.jsx_tree.specs.Walk.{is_found, one, Given, Past, Items, nil, last, more, sign, tree, many, Walk, done, next, around, steady}
use Rattle.jsx_tree.specs.Language.{Whole}
use Rattle.jsx_tree.specs.Answers.{Moves, Only, OnlyRow, NoRow, Stuck}
use Rattle.jsx_tree.specs.Faults.{Fault, Unread, Shallow, given_depth, part_depth, deepest}
use Rattle.jsx_tree.proofs.Tokens.{and_left, and_both}
use Rattle.jsx_tree.proofs.Apart.{clash, never_both}
use Rattle.jsx_tree.proofs.Rows.Bridge.{found_at}
use Rattle.jsx_tree.proofs.Rows.Firsts.{kind_home}
use Rattle.jsx_tree.proofs.Rows.Guarded.{weaken_items, whole_items_found}
use Rattle.jsx_tree.proofs.Rows.Laws.{start_found}
use Rattle.jsx_tree.proofs.Rows.Steps.{both, only_sign}
use Rattle.jsx_tree.proofs.Rows.Stopping.{is_never, is_not, not_is, never_stops, sign_stops, stays}
use Rattle.jsx_tree.proofs.Rows.Turns.{early, item_of, no_rest, whole_of}
use Rattle.jsx_token.specs.declared.heading.Heading.TheVariants as heading
use Rattle.jsx_token.specs.Growths.{rung}
use Rattle.jsx_token.specs.Headings.{NoHeading, heading_sign}
use Rattle.jsx_token.specs.Here.{Here, place_of}
use Rattle.jsx_token.specs.Marks.{ends_so_far, row_so_far}
use Rattle.jsx_token.proofs.Headings.{of_heading}
use Rattle.jsx_token.proofs.Listed.{listed}
use Rattle.jsx_operand.specs.Around.{in_code}
use Rattle.jsx_operand.specs.Bodies.{body_row}
use Rattle.jsx_operand.specs.SoFar.{Staged, so_far}
use Rattle.jsx_operand.proofs.Climbing.{climb_only}
use Rattle.jsx_operand.proofs.OfSoFar.{of_so_far}
use Rattle.jsx_operand.proofs.Homes.{IsString, Taken, taken_by, home_of, no_list, strings}
use Rattle.jsx_operand.proofs.Standing.{standing}
use Rattle.jsx_operand.proofs.Values.{leaf_forth, literal_follows, literal_opening, opener_of, same_both}
use Rattle.jsx_operand.proofs.Headless.{no_heads}
use Rattle.jsx_member.proofs.Sequences.{closed_of, comma_goes, whole_only}
use Rattle.jsx_statement.specs.Directives.{IsDirective, NoDirective, NoPrologue, Prologue, begun, ended}
use Rattle.jsx_declaration.specs.Labels.{NoLabel}
use Rattle.jsx_statement.proofs.Blocks.{both_none, braced}
use Rattle.jsx_declaration.proofs.Heads.{behind_both}
use Rattle.jsx_declaration.proofs.Items.{statement_built}
use Rattle.jsx_declaration.proofs.Statements.{lost_there}
use Rattle.jsx_statement.proofs.Statements.{plain_only, stmts}
use Rattle.jsx_tree.proofs.Depth.Shallow.{below_shallow, shallow_first, shallow_head, shallow_rest}
use Rattle.jsx_tree.proofs.Rows.Placing.{flat_shallow}

-- what may stand behind directives: a statement, or an item
pub record Listing (c : Nonterminal) : Type 0 where
  pub never : is_never c ≡ true
  pub early : no_rest c ≡ true
  pub home : (ts : Forest) → admits c (node (statement ExprStmt) ts) ≡ true

pub items : Listing Item
items = record { never = refl; early = refl; home = λ ts. refl }

pub statements : Listing Stmt
statements = record { never = refl; early = refl; home = λ ts. refl }

pub never_whole : {v : Surroundings} {c : Nonterminal} {x y : Place} {t : Tree} → is_never c ≡ true → Staged v false c x t y → Whole so_far v false c x t y
never_whole {c = c} {y = y} n r = record { reads = r; ends_there = of_so_far.ends_there c y (never_stops c y n) }

-- ---- a directive, and the statement of the same string

abbrev pub as_statement : Tree → Tree
as_statement (node (program Directive) ts) = node (statement ExprStmt) ts
as_statement t = t

abbrev pub as_directive : Tree → Tree
as_directive (node (statement ExprStmt) ts) = node (program Directive) ts
as_directive t = t

abbrev alone : Tree → Bool
alone t = is_string_stmt (node (statement ExprStmt) (part t none))

-- a string as an expression, and as the text of a directive
to_text : {v : Surroundings} {x y : Place} (u : Tree) → alone u ≡ true → Staged v false (Expr 0) x u y → Staged v false StringOnly x u y
to_text (leaf StringLiteral t) h r = record { reads = record { is = r.reads.is; is_legal = r.reads.is_legal; scans = r.reads.scans; found = r.reads.found }; staged = refl }
to_text _ h r = cc

text_alone : {v : Surroundings} {x y : Place} (u : Tree) → Staged v false StringOnly x u y → alone u ≡ true
text_alone (leaf StringLiteral t) r = refl
text_alone (leaf _ t) r = let bad = r.staged in cc
text_alone (node k ts) r = absurd (strings.node k ts (taken_by r) (home_of r))
text_alone (list ts) r = absurd (no_list r)

to_expression : {v : Surroundings} {x y : Place} (u : Tree) → alone u ≡ true → Staged v false StringOnly x u y → Staged v false (Expr 0) x u y
to_expression (leaf StringLiteral t) h r = record { reads = record { is = r.reads.is; is_legal = r.reads.is_legal; scans = r.reads.scans; found = r.reads.found }; staged = refl }
to_expression _ h r = cc

text_keeps : (v : Surroundings) (u : Tree) → alone u ≡ true → so_far.keeps (program Directive) v (part u none) ≡ true
text_keeps v (leaf StringLiteral t) h = refl
text_keeps v _ h = cc

statement_keeps : (v : Surroundings) (u : Tree) → alone u ≡ true → so_far.keeps (statement ExprStmt) v (part u none) ≡ true
statement_keeps v (leaf StringLiteral t) h = refl
statement_keeps v _ h = cc

-- along the two rows
directive_walk : {v : Surroundings} {x y : Place} {ts : Forest} → is_string_stmt (node (statement ExprStmt) ts) ≡ true → Walk Staged (around v ts) (row_so_far (statement ExprStmt)) x ts y → Staged v false DirectiveOnly x (node (program Directive) ts) y
directive_walk {v} {x} h (next (sign e f) (next {y = z} (tree {t = u} q) (next (sign g i) (done k)))) =
    let there = sym e ∙ stays (Unless heads) x refl (found_at e f) in
    of_so_far.to_node (program Directive) refl (record { walk = next (tree (to_text u h (subst (λ p. Staged v false (Expr 0) p u z) there q))) (next (sign g i) (done k)); keeps = text_keeps v u h })

record StatementOf (v : Surroundings) (c : Nonterminal) (x : Place) (t : Tree) (y : Place) : Type 0 where
  reads : Staged v false c x (as_statement t) y
  is_string : is_string_stmt (as_statement t) ≡ true
  back : as_directive (as_statement t) ≡ t

lost_from : (x : Place) → (IsTrue (is_found x) → ⊥) → x ≡ Lost
lost_from Lost n = refl
lost_from (At q e text) n = absurd (n refl)

-- no brace and no word stands where a string does
brace_stuck : {v : Surroundings} {x y : Place} (u : Tree) → alone u ≡ true → Staged v false (Expr 0) x u y → Stuck (pun "{") x
brace_stuck {x = x} (leaf StringLiteral t) h r = record { is = lost_from (forth (pun "{") x) (λ f. literal_opening IsString t (pun "{") x (opener_of (expression Object) (listed (expression Object) refl refl refl) refl) refl (found_at r.reads.scans r.reads.found) f) }
brace_stuck _ h r = cc

word_stuck : {v : Surroundings} {x y : Place} (u : Tree) → alone u ≡ true → Staged v false (Expr 0) x u y → Stuck (key "function") x
word_stuck {x = x} (leaf StringLiteral t) h r = record { is = lost_from (forth (key "function") x) (λ f. literal_opening IsString t (key "function") x (opener_of (function FunctionExpr) (listed (function FunctionExpr) refl refl refl) refl) refl (found_at r.reads.scans r.reads.found) f) }
word_stuck _ h r = cc

class_stuck : {v : Surroundings} {x y : Place} (u : Tree) → alone u ≡ true → Staged v false (Expr 0) x u y → Stuck (key "class") x
class_stuck {x = x} (leaf StringLiteral t) h r = record { is = lost_from (forth (key "class") x) (λ f. literal_opening IsString t (key "class") x (opener_of (function ClassExpr) (listed (function ClassExpr) refl refl refl) refl) refl (found_at r.reads.scans r.reads.found) f) }
class_stuck _ h r = cc

statement_walk : {v : Surroundings} {c : Nonterminal} {x y : Place} {ts : Forest} → Listing c → Walk Staged (around v ts) (row_so_far (program Directive)) x ts y → StatementOf v c x (node (program Directive) ts) y
statement_walk {v} l (next (tree {t = u} q) (next (sign g i) (done k))) =
    let h = text_alone u q in
    let e = to_expression u h q in
    record { reads = of_so_far.to_node (statement ExprStmt) (l.home (part u none)) (record { walk = next (sign (no_heads (brace_stuck u h e) (word_stuck u h e) (class_stuck u h e) e) (start_found of_so_far e)) (next (tree e) (next (sign g i) (done k))); keeps = statement_keeps v u h }); is_string = h; back = refl }

directive_of : {v : Surroundings} {c : Nonterminal} {x y : Place} (s : Tree) → is_string_stmt s ≡ true → Staged v false c x s y → Staged v false DirectiveOnly x (as_directive s) y
directive_of (node (statement ExprStmt) ts) h r = directive_walk h (of_so_far.from_node (statement ExprStmt) r).walk
directive_of _ h r = cc

abbrev is_directive : Kind → Bool
is_directive (program Directive) = true
is_directive k = false

directive_is : (k : Kind) → is_directive k ≡ true → k ≡ program Directive
directive_is (program Directive) h = refl
directive_is _ h = cc

directive_kind : (l : Kind) (ts : Forest) → Taken l → admits DirectiveOnly (node l ts) ≡ true → l ≡ program Directive
directive_kind l ts t h = directive_is l (standing DirectiveOnly is_directive refl l t (kind_home DirectiveOnly l ts h))

statement_of : {v : Surroundings} {c : Nonterminal} {x y : Place} → Listing c → (t : Tree) → Staged v false DirectiveOnly x t y → StatementOf v c x t y
statement_of l (leaf k t) r = let bad = r.staged in cc
statement_of l (list ts) r = absurd (no_list r)
statement_of {v} {c} {x} {y} l (node k ts) r =
    let e = directive_kind k ts (taken_by r) (home_of r) in
    subst (λ j. StatementOf v c x (node j ts) y) (sym e) (statement_walk l (of_so_far.from_node (program Directive) (subst (λ j. Staged v false DirectiveOnly x (node j ts) y) e r)).walk)

-- ---- where a string stands no word and no mark does, and nothing else begins a statement

abbrev no_string : Sign → Bool
no_string (Tok Operator Punctuator t) = true
no_string (Tok Operator IdentifierName t) = true
no_string s = false

apart : (s : Sign) (u : Text) (x : Place) → no_string s ≡ true → IsTrue (is_found (forth s x)) → IsTrue (is_found (forth (Tok Operator StringLiteral u) x)) → ⊥
apart (Tok Operator Punctuator t) u x h f g = never_both Punctuator StringLiteral t u x refl f g
apart (Tok Operator IdentifierName t) u x h f g = never_both IdentifierName StringLiteral t u x refl f g
apart _ u x h f g = cc

string_heads : {x : Place} (u : Text) → IsTrue (is_found (forth (Tok Operator StringLiteral u) x)) → NoHeading x
string_heads {x} u g = record { on = λ h. lost_from (forth (heading_sign h) x) (λ f. apart (heading_sign h) u x (of_heading (λ j. no_string (heading_sign j)) refl h) f g) }

string_label : {x : Place} (u : Text) → IsTrue (is_found (forth (Tok Operator StringLiteral u) x)) → NoLabel x
string_label {x} u g = record { on = λ name i. ap (forth (pun ":")) (lost_from (forth (Tok Operator IdentifierName name) x) (λ f. never_both IdentifierName StringLiteral name u x refl f g)) }

abbrev pub string_of : Text → Tree
string_of t = node (statement ExprStmt) (part (leaf StringLiteral t) none)

-- a string with its semicolon is a statement, and no other begins there: what goes on with an expression isn't where a semicolon is, written or missing
pub string_only : {v : Surroundings} {x y z : Place} (t : Text) → is_leaf StringLiteral t ≡ true → Moves (Tok Operator StringLiteral t) x y → Moves Semicolon y z → Only so_far v (Part Stmt) x (one (string_of t)) z
string_only {v = v} {x} {y} t w s m =
    let g : IsTrue (is_found (forth (Tok Operator StringLiteral t) x)) = found_at (sym s.is) s.found in
    let h : IsTrue (is_found (forth Semicolon y)) = found_at (sym m.is) m.found in
    let n = string_heads t g in
    let c = (literal_follows {v = v} IsString t refl w s.is s.found).on (rung 1) refl refl in
    let e : ends_so_far (Expr 0) y ≡ true = of_so_far.ends_there (Expr 0) y (sign_stops (Expr 0) Semicolon y refl h) in
    let comma : forth (pun ",") y ≡ Lost = lost_from (forth (pun ",") y) (λ f. clash (ends_so_far (Expr 0) y) e (comma_goes y (closed_of y c.ended) f)) in
    plain_only stmts n (string_label t g)
    (statement_built (record { is = n.on heading.Block }) (record { is = n.on heading.Function }) (record { is = n.on heading.Class })
    (whole_only (climb_only (rung 1) refl c (of_so_far.ends_there (Expr 1) y (sign_stops (Expr 1) Semicolon y refl h))) (closed_of y c.ended) comma) (only_sign m) refl)

-- ---- a directive

pub at_directive : {v : Surroundings} {x y : Place} {t : Tree} → IsDirective x t y → Only so_far v (Part DirectiveOnly) x (one t) y
at_directive {v = v} {x} {y} {t} d = record { past = tree (never_whole refl (subst (λ u. Staged v false DirectiveOnly x u y) (sym d.is) (directive_of (string_of d.raw) refl (whole_of o.past).reads))); alone = at }
  where
    o : Only so_far v (Part Stmt) x (one (string_of d.raw)) y
    o = string_only d.raw d.whole d.string d.semicolon

    at : (g : Given) (z : Place) → Past (Whole so_far) v (Part DirectiveOnly) x g z → (one t ≡ g) × (y ≡ z)
    at g z (tree {t = u} q) =
        let s = statement_of statements u q.reads in
        let e = o.alone (one (as_statement u)) z (tree (never_whole refl s.reads)) in
        (ap one (d.is ∙ (ap (λ h. as_directive (item_of h)) e.0 ∙ s.back)), e.1)

-- what may stand behind directives is the string alone where one stands
pub record Strings (c : Nonterminal) : Type 0 where
  pub string : {v : Surroundings} {x y z : Place} {t u : Tree} → IsDirective x t y → Whole so_far v false c x u z → is_string_stmt u ≡ true

pub string_statements : Strings Stmt
string_statements = record { string = λ {v} {x} {y} {z} {t} {u} d w. ap (λ h. is_string_stmt (item_of h)) (sym ((string_only {v = v} d.raw d.whole d.string d.semicolon).alone (one u) z (tree w)).0) }

-- ---- where none stands

record StringThere (x : Place) : Type 0 where
  raw : Text
  found : IsTrue (is_found (forth (Tok Operator StringLiteral raw) x))
  ended : IsTrue (is_found (forth Semicolon (forth (Tok Operator StringLiteral raw) x)))

text_there : {v : Surroundings} {x y z : Place} (u : Tree) → Staged v false StringOnly x u y → forth Semicolon y ≡ z → IsTrue (is_found z) → StringThere x
text_there (leaf StringLiteral t) r e f = record { raw = t; found = found_at (leaf_forth IsString r) r.reads.found; ended = subst (λ p. IsTrue (is_found (forth Semicolon p))) (sym (leaf_forth IsString r)) (found_at e f) }
text_there (leaf _ t) r e f = let bad = r.staged in cc
text_there (node k ts) r e f = absurd (strings.node k ts (taken_by r) (home_of r))
text_there (list ts) r e f = absurd (no_list r)

directive_there : {v : Surroundings} {x y : Place} (t : Tree) → Staged v false DirectiveOnly x t y → StringThere x
directive_there (leaf k t) r = let bad = r.staged in cc
directive_there (list ts) r = absurd (no_list r)
directive_there {v} {x} {y} (node k ts) r = at (of_so_far.from_node (program Directive) (subst (λ j. Staged v false DirectiveOnly x (node j ts) y) (directive_kind k ts (taken_by r) (home_of r)) r)).walk
  where
    at : {V : _} {z : Place} {us : Forest} → Walk Staged V (row_so_far (program Directive)) x us z → StringThere x
    at (next (tree {t = u} q) (next (sign e f) (done h))) = text_there u q e f

none_there : {x : Place} {e : Fault} → (StringThere x → ⊥) → NoDirective x e
none_there {x} {e = e} n = record { on = λ v. record { no = λ g y p. at p } }
  where
    at : {v : Surroundings} {g : Given} {y : Place} → Past (Whole so_far) v (Part DirectiveOnly) x g y → Shallow e (given_depth g) → ⊥
    at (tree {t = t} q) s = n (directive_there t q.reads)

pub no_text : {h x : Here} {o : Fault} → h ≡ x → ((t : Text) → forth (Tok Operator StringLiteral t) (place_of h) ≡ Lost) → NoDirective (place_of x) o
no_text {h} {x} e n = none_there (λ s. lost_there (Tok Operator StringLiteral s.raw) (place_of x) (subst (λ k. forth (Tok Operator StringLiteral s.raw) (place_of k) ≡ Lost) e (n s.raw)) s.found)

pub no_end : {h x : Here} {o : Fault} (k : Here) (t : Text) → h ≡ x → place_of k ≡ forth (Tok Operator StringLiteral t) (place_of h) → forth Semicolon (place_of k) ≡ Lost → NoDirective (place_of x) o
no_end {h} {x} k t e s n = none_there (λ d. lost_there Semicolon (place_of k) n (subst (λ p. IsTrue (is_found (forth Semicolon p))) (there d) d.ended))
  where
    here : place_of k ≡ forth (Tok Operator StringLiteral t) (place_of x)
    here = subst (λ j. place_of k ≡ forth (Tok Operator StringLiteral t) (place_of j)) e s

    there : (d : StringThere (place_of x)) → forth (Tok Operator StringLiteral d.raw) (place_of x) ≡ place_of k
    there d = ap (λ u. forth (Tok Operator StringLiteral u) (place_of x)) (same_both IsString IsString d.raw t (place_of x) d.found (found_at (sym here) refl)).texts ∙ sym here

pub directive_there_is : {h x : Here} (k y : Here) (t : Text) → h ≡ x → is_leaf StringLiteral t ≡ true → place_of k ≡ forth (Tok Operator StringLiteral t) (place_of h) → place_of y ≡ forth Semicolon (place_of k) → IsDirective (place_of x) (node (program Directive) (part (leaf StringLiteral t) none)) (place_of y)
directive_there_is k y t e w s m = subst (λ j. IsDirective (place_of j) (node (program Directive) (part (leaf StringLiteral t) none)) (place_of y)) e (record { raw = t; is = refl; whole = w; behind = place_of k; string = record { is = s; found = refl }; semicolon = record { is = m; found = refl } })

-- ---- trees one behind another, with nothing between them that reading hears

pub data Run (v : Surroundings) (c : Nonterminal) : Place → Forest → Place → Type 0 where
  run_end : {x : Place} → IsTrue (is_found x) → Run v c x none x
  run_on : {x y z : Place} {t : Tree} {ts : Forest} → Whole so_far v false c x t y → Run v c y ts z → Run v c x (part t ts) z

ending : {v : Surroundings} {c : Nonterminal} {y z : Place} → y ≡ z → IsTrue (is_found z) → Run v c y none z
ending {v} {c} {z = z} e f = subst (λ p. Run v c p none z) (sym e) (run_end f)

-- on lines of their own, at the top and in braces
pub of_top : {v : Surroundings} {c : Nonterminal} {x z : Place} {ts : Forest} → Items (Whole so_far) v TopLines c x ts z → Run v c x ts z
of_top (nil f) = run_end f
of_top (last r e f) = run_on r (ending e f)
of_top {v} {c} {z = z} (more {u = u} {us = us} n r e all) = run_on r (subst (λ p. Run v c p (part u us) z) (sym e) (of_top all))

pub of_lines : {v : Surroundings} {c : Nonterminal} {x z : Place} {ts : Forest} → Items (Whole so_far) v Lines c x ts z → Run v c x ts z
of_lines (nil f) = run_end f
of_lines (last r e f) = run_on r (ending e f)
of_lines {v} {c} {z = z} (more {u = u} {us = us} n r e all) = run_on r (subst (λ p. Run v c p (part u us) z) (sym e) (of_lines all))

pub to_top : {v : Surroundings} {c : Nonterminal} {x z : Place} {ts : Forest} → no_rest c ≡ true → Run v c x ts z → Items (Whole so_far) v TopLines c x ts z
to_top n (run_end f) = nil f
to_top n (run_on r (run_end f)) = last r refl f
to_top {c = c} n (run_on {t = t} r (run_on q s)) = more (early c t n (of_so_far.is_read r.reads).is) r refl (to_top n (run_on q s))

pub to_lines : {v : Surroundings} {c : Nonterminal} {x z : Place} {ts : Forest} → no_rest c ≡ true → Run v c x ts z → Items (Whole so_far) v Lines c x ts z
to_lines n (run_end f) = nil f
to_lines n (run_on r (run_end f)) = last r refl f
to_lines {c = c} n (run_on {t = t} r (run_on q s)) = more (early c t n (of_so_far.is_read r.reads).is) r refl (to_lines n (run_on q s))

pub found_behind : {v : Surroundings} {c : Nonterminal} {x z : Place} {ts : Forest} → Run v c x ts z → IsTrue (is_found z)
found_behind (run_end f) = f
found_behind (run_on r s) = found_behind s

-- ---- directives up to where none stands

-- further ones
pub record Ahead (x : Place) (ds : Forest) (y : Place) : Type 0 where
  pub on : (es : Forest) (z : Place) → Prologue y es z → Prologue x (both ds es) z

pub ahead_none : {x : Place} (ds : Forest) → ds ≡ none → Ahead x ds x
ahead_none {x} ds e = subst (λ es. Ahead x es x) (sym e) (record { on = λ es z p. p })

pub ahead_more : {x y z : Place} {t : Tree} (ds es : Forest) → Ahead x ds y → IsDirective y t z → es ≡ both ds (part t none) → Ahead x es z
ahead_more {x} {z = z} {t = t} ds es a d e = subst (λ us. Ahead x us z) (sym e) (record { on = λ us w p. subst (λ vs. Prologue x vs w) (behind_both ds t us) (a.on (part t us) w (begun d p)) })

-- what is said of an answer that may be none, where it is known
pub of_some : {A : Type 0} (P : A → Type 0) {o : Option A} {a : A} → o ≡ Some a → IfSome o P → P a
of_some P e p = subst (λ q. IfSome q P) e p

pub of_none : {A P : Type 0} {o : Option A} → o ≡ None → IfNone o P → P
of_none {A} {P} e p = subst (λ q. IfNone q P) e p

-- and whatever stands behind them, the first of all stands there
pub record Led (x y : Place) : Type 0 where
  pub on : {e : Fault} → NoPrologue y e → NoPrologue x e

pub led_none : {x : Place} → Led x x
led_none = record { on = λ p. p }

pub led_more : {x y z : Place} {t : Tree} → Led x y → IsDirective y t z → Led x z
led_more l d = record { on = λ p. l.on (record { below = p.below; directive = _; behind = _; first = d }) }

pub ahead_end : {x y : Place} (ds : Forest) → Ahead x ds y → NoDirective y Unread → Prologue x ds y
ahead_end {x} {y} ds a n = subst (λ us. Prologue x us y) (both_none ds) (a.on none y (ended n))

pub prologue_end : {x m : Place} {ds : Forest} → Prologue x ds m → NoDirective m Unread
prologue_end (ended n) = n
prologue_end (begun d p) = prologue_end p

pub prologue_run : {v : Surroundings} {x m : Place} {ds : Forest} → Prologue x ds m → IsTrue (is_found m) → Run v DirectiveOnly x ds m
prologue_run (ended n) f = run_end f
prologue_run {v} (begun d p) f = run_on (whole_of (at_directive {v = v} d).past) (prologue_run p f)

-- no string stands where all has ended
pub record NoString (x : Place) : Type 0 where
  pub on : (t : Text) → is_leaf StringLiteral t ≡ true → IsTrue (is_found (forth (Tok Operator StringLiteral t) x)) → ⊥

pub no_string_at : {x : Place} → IsTrue (is_found (forth (pun "}") x)) → NoString x
no_string_at {x} f = record { on = λ t l g. never_both Punctuator StringLiteral (codes "}") t x refl f g }

-- so whatever is read there has the same directives
pub prologue_same : {v : Surroundings} {c : Nonterminal} {x m n y : Place} {ds es ts : Forest} → Strings c → Prologue x ds m → Run v DirectiveOnly x es n → Run v c n ts y → first_of_list is_string_stmt ts ≡ false → NoString y → (ds ≡ es) × (m ≡ n)
prologue_same k (ended n) (run_end f) rest h s = (refl, refl)
prologue_same {v} k (ended n) (run_on {t = t} r all) rest h s = absurd ((n.on v).no (one t) _ (tree r) tt)
prologue_same k (begun d p) (run_end f) (run_end g) h s = absurd (s.on d.raw d.whole (found_at (sym d.string.is) d.string.found))
prologue_same k (begun d p) (run_end f) (run_on {t = u} r all) h s = absurd (clash (is_string_stmt u) (k.string d r) h)
prologue_same {v} {n = n} k (begun d p) (run_on {y = b} {t = u} {ts = us} r all) rest h s =
    let e = (at_directive {v = v} d).alone (one u) b (tree r) in
    let q = prologue_same k p (subst (λ a. Run v DirectiveOnly a us n) (sym e.1) all) rest h s in
    (λ i. part (item_of (e.0 i)) (q.0 i), q.1)

-- and what stands behind them is no string first
pub behind_first : {v : Surroundings} {c : Nonterminal} {m y : Place} {ts : Forest} → NoDirective m Unread → Run v c m ts y → first_of_list is_string_stmt ts ≡ false
behind_first n (run_end f) = refl
behind_first {v} n (run_on {t = t} r all) = by (is_string_stmt t) refl
  where
    by : (b : Bool) → is_string_stmt t ≡ b → is_string_stmt t ≡ false
    by true e = absurd ((n.on v).no (one (as_directive t)) _ (tree (never_whole refl (directive_of t e r.reads))) tt)
    by false e = e

-- ---- where no level is left for a string

string_deep : (u : Tree) → is_string_stmt u ≡ true → 1 ≤ part_depth u
string_deep (node (statement ExprStmt) (part (leaf StringLiteral t) none)) h = let d : part_depth (node (statement ExprStmt) (part (leaf StringLiteral t) none)) ≡ 1 = refl in omega (arith, d)
string_deep _ h = cc

directive_deep : (t : Text) → 1 ≤ part_depth (node (program Directive) (part (leaf StringLiteral t) none))
directive_deep t = let d : part_depth (node (program Directive) (part (leaf StringLiteral t) none)) ≡ 1 = refl in omega (arith, d)

-- what is read where a directive stands has it first, or the statement of its string
pub deep_run : {v : Surroundings} {c : Nonterminal} {x n y : Place} {es ts : Forest} {o : Fault} → Strings c → NoPrologue x o → Run v DirectiveOnly x es n → Run v c n ts y → NoString y → Shallow o (deepest es) → Shallow o (deepest ts) → ⊥
deep_run k p (run_end f) (run_end g) h a b = h.on p.first.raw p.first.whole (found_at (sym p.first.string.is) p.first.string.found)
deep_run {o = o} k p (run_end f) (run_on {t = u} {ts = us} r all) h a b =
    let deep = string_deep u (k.string p.first r) in
    let low = below_shallow 0 o (part_depth u) p.below (shallow_head o u us b) in
    omega (arith, deep, low)
deep_run {v} {o = o} k p (run_on {y = z} {t = u} {ts = us} r all) rest h a b =
    let same : p.directive ≡ u = ap item_of ((at_directive {v = v} p.first).alone (one u) z (tree r)).0 in
    let deep = subst (λ t. 1 ≤ part_depth t) (sym p.first.is ∙ same) (directive_deep p.first.raw) in
    let low = below_shallow 0 o (part_depth u) p.below (shallow_head o u us a) in
    omega (arith, deep, low)

-- ---- the body of a function: its directives say what its statements stand in

abbrev pub body_of : Forest → Forest → Tree
body_of ds ts = node (program FunctionBody) (part (list ds) (part (list ts) none))

record Parts (v : Surroundings) (x : Place) (t : Tree) (y : Place) : Type 0 where
  directives : Forest
  rest : Forest
  middle : Place
  is : t ≡ body_of directives rest
  first : Run (in_code directives v) DirectiveOnly x directives middle
  second : Run (in_code directives v) Stmt middle rest y
  kept : first_of_list is_string_stmt rest ≡ false

whole_lines : {v : Surroundings} {c : Nonterminal} {x y : Place} {ts : Forest} → is_never c ≡ true → Items Staged v Lines c x ts y → Items (Whole so_far) v Lines c x ts y
whole_lines n (nil f) = nil f
whole_lines n (last r e f) = last (never_whole n r) e f
whole_lines n (more m r e all) = more m (never_whole n r) e (whole_lines n all)

parts_walk : {v : Surroundings} {x y : Place} {us : Forest} → Walk Staged (around v us) (row_so_far (program FunctionBody)) x us y → rule (program FunctionBody) us ≡ true → Parts v x (node (program FunctionBody) us) y
parts_walk (next {y = m} (many {ts = ds} e first) (next (many {ts = ts} e' lines) (done f))) k = record {
  directives = ds;
  rest = ts;
  middle = m;
  is = refl;
  first = of_lines (whole_lines refl first);
  second = of_lines (whole_lines refl lines);
  kept = is_not (first_of_list is_string_stmt ts) k;
}

abbrev is_body : Kind → Bool
is_body (program FunctionBody) = true
is_body k = false

body_is : (k : Kind) → is_body k ≡ true → k ≡ program FunctionBody
body_is (program FunctionBody) h = refl
body_is _ h = cc

body_kind : (l : Kind) (ts : Forest) → Taken l → admits Body (node l ts) ≡ true → l ≡ program FunctionBody
body_kind l ts t h = body_is l (standing Body is_body refl l t (kind_home Body l ts h))

parts_of : {v : Surroundings} {x y : Place} (t : Tree) → Staged v false Body x t y → Parts v x t y
parts_of (leaf k t) r = let bad = r.staged in cc
parts_of (list ts) r = absurd (no_list r)
parts_of {v} {x} {y} (node k ts) r =
    let e = body_kind k ts (taken_by r) (home_of r) in
    let n = of_so_far.from_node (program FunctionBody) (subst (λ j. Staged v false Body x (node j ts) y) e r) in
    subst (λ j. Parts v x (node j ts) y) (sym e) (parts_walk n.walk (and_left (rule (program FunctionBody) ts) true n.keeps))

body_whole : {v : Surroundings} {x m y : Place} {ds ts : Forest} → Run (in_code ds v) DirectiveOnly x ds m → Run (in_code ds v) Stmt m ts y → first_of_list is_string_stmt ts ≡ false → IsTrue (is_found y) → Whole so_far v false Body x (body_of ds ts) y
body_whole {ts = ts} first second n f = never_whole refl (of_so_far.to_node (program FunctionBody) refl (record {
  walk = next (many refl (weaken_items (λ v b c x t y r. r.reads) (to_lines refl first))) (next (many refl (weaken_items (λ v b c x t y r. r.reads) (to_lines refl second))) (done f));
  keeps = and_both (not (first_of_list is_string_stmt ts)) true (not_is _ n) refl;
}))

abbrev listed_first : Forest → Forest
listed_first (part (list ts) us) = ts
listed_first ts = ts

-- it is no less deep than its directives and its statements
body_shallow : {v : Surroundings} {x y : Place} {t : Tree} {ds ts : Forest} → Staged v false Body x t y → t ≡ body_of ds ts → (e : Fault) → Shallow e (part_depth t) → Shallow e (deepest (part (list ds) (part (list ts) none)))
body_shallow {v} {x} {y} r is e s = flat_shallow e of_so_far (subst (λ u. Staged v false Body x u y) is r) (subst (λ u. Shallow e (part_depth u)) is s)

-- what is read of a body and its brace, behind the directives that come first
record Behind (v : Surroundings) (ds : Forest) (m : Place) (us : Forest) (w : Place) : Type 0 where
  rest : Forest
  is : us ≡ part (body_of ds rest) none
  walk : Walk (Whole so_far) (steady (in_code ds v)) braced m (part (list rest) none) w
  shallow : (o : Fault) → Shallow o (deepest us) → Shallow o (deepest (part (list rest) none))

behind_prologue : {v : Surroundings} {x m w : Place} {ds us : Forest} → Prologue x ds m → Walk (Whole so_far) (steady v) body_row x us w → Behind v ds m us w
behind_prologue {v} {m = m} {w} {ds} p (next {y = z} (tree {t = t} q) (next (sign e f) (done g))) =
    let b = parts_of t q.reads in
    let s = prologue_same string_statements p b.first b.second b.kept (no_string_at (found_at e f)) in
    record {
      rest = b.rest;
      is = ap (λ u. part u none) (b.is ∙ ap (λ es. body_of es b.rest) (sym s.0));
      walk = subst (λ es. Walk (Whole so_far) (steady (in_code es v)) braced m (part (list b.rest) none) w) (sym s.0)
          (subst (λ a. Walk (Whole so_far) (steady (in_code b.directives v)) braced a (part (list b.rest) none) w) (sym s.1) (next (many refl (to_lines refl b.second)) (next (sign e f) (done g))));
      shallow = λ o a. shallow_rest o (one (list b.directives)) (part (list b.rest) none) (body_shallow q.reads b.is o (shallow_first o (one t) none a));
    }

pub body_only : {v : Surroundings} {x m y : Place} {ds ts : Forest} → Prologue x ds m → OnlyRow so_far (in_code ds v) braced m (part (list ts) none) y → OnlyRow so_far v body_row x (part (body_of ds ts) none) y
body_only {v} {x} {m} {y} {ds} {ts} p o = record { walk = to o.walk refl; alone = at }
  where
    to : {us : Forest} → Walk (Whole so_far) (steady (in_code ds v)) braced m us y → us ≡ part (list ts) none → Walk (Whole so_far) (steady v) body_row x (part (body_of ds ts) none) y
    to (next (many e lines) (next (sign e' f) (done g))) is =
        let all = of_lines lines in
        subst (λ vs. Walk (Whole so_far) (steady v) body_row x (part (body_of ds vs) none) y) (ap listed_first is)
        (next (tree (body_whole (prologue_run p (whole_items_found of_so_far lines)) all (behind_first (prologue_end p) all) (found_behind all))) (next (sign e' f) (done g)))

    at : (us : Forest) (w : Place) → Walk (Whole so_far) (steady v) body_row x us w → (part (body_of ds ts) none ≡ us) × (y ≡ w)
    at us w walk =
        let b = behind_prologue p walk in
        let same = o.alone (part (list b.rest) none) w b.walk in
        (ap (λ es. part (body_of ds (listed_first es)) none) same.0 ∙ sym b.is, same.1)

pub no_body : {v : Surroundings} {x m : Place} {ds : Forest} {e : Fault} → Prologue x ds m → NoRow so_far (in_code ds v) braced m e → NoRow so_far v body_row x e
no_body p n = record { no = λ us w walk s. let b = behind_prologue p walk in n.no (part (list b.rest) none) w b.walk (b.shallow _ s) }

-- where no level is left for the first
pub deep_body : {v : Surroundings} {x : Place} {e : Fault} → NoPrologue x e → NoRow so_far v body_row x e
deep_body {v} {x} {e} p = record { no = at }
  where
    at : (us : Forest) (w : Place) → Walk (Whole so_far) (steady v) body_row x us w → Shallow e (deepest us) → ⊥
    at us w (next (tree {t = t} q) (next (sign d f) (done g))) s =
        let b = parts_of t q.reads in
        let all = body_shallow q.reads b.is e (shallow_first e (one t) none s) in
        let rest = shallow_rest e (one (list b.directives)) (part (list b.rest) none) all in
        deep_run string_statements p b.first b.second (no_string_at (found_at d f)) (shallow_first e (one (list b.directives)) (part (list b.rest) none) all) (shallow_first e (one (list b.rest)) none rest)

-- where they say that
pub body_in : {u v : Surroundings} {x y : Place} {ts : Forest} → u ≡ v → OnlyRow so_far u braced x ts y → OnlyRow so_far v braced x ts y
body_in {x = x} {y} {ts} e o = subst (λ w. OnlyRow so_far w braced x ts y) e o

pub no_body_in : {u v : Surroundings} {x : Place} {o : Fault} → u ≡ v → NoRow so_far u braced x o → NoRow so_far v braced x o
no_body_in {x = x} {o = o} e n = subst (λ w. NoRow so_far w braced x o) e n
