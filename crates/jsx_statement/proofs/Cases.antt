-- The cases of a `switch`, as a loop reads them up to the brace.
use Rattle.std.proofs.Common.{◌≡◌, ◌≤◌, ◌+◌, ℕ, suc, arith, Bool, true, false, not, cond, List, [], ◌∷◌, refl, sym, ◌∙◌, ap, subst}
use Rattle.std.specs.Prelude.{IsTrue, codes, nat_le, ◌&&◌, ◌||◌}
use Rattle.std.proofs.lemmas.Bool.{leb-true}
use Rattle.jsx_base.specs.Token.{IdentifierName, Punctuator}
use Rattle.jsx_tree.specs.Signs.{Sign}
use Rattle.jsx_tree.specs.Kinds.{Case, Default, Label, Switch, Kind, statement, Tree, leaf, node, list, Forest, none, part}
use Rattle.jsx_tree.specs.Nonterminals.{Nonterminal, Expr, CaseClause, Stmt}
use Rattle.jsx_tree.specs.Grammar.{Context, InSwitch, Lines, Symbol, Many, Part, Fixed, key, pun}
use Rattle.jsx_tree.specs.Form.{admits}
use Rattle.jsx_tree.specs.Reading.{Place, Lost, forth}
use Rattle.jsx_tree.specs.StaticRules.{Surroundings, all_of, at_most, count_of, enter, is_default, is_function, list_rule, rule}
use Rattle.jsx_tree.specs.Walk.{is_found, nothing, one, Given, Piece, piece, Items, nil, last, more, Past, sign, tree, many, tail, with, Walk, done, next, around, steady}
use Rattle.jsx_tree.specs.Language.{Whole}
use Rattle.jsx_tree.specs.Answers.{Moves, Missed, Only, Barred, OnlyRow, NoRow, NoNode, BuiltNode}
use Rattle.jsx_tree.specs.Faults.{Fault, Shallow, deepest, given_depth, Unread, Below, outer, part_depth}
use Rattle.jsx_tree.proofs.Tokens.{and_left, and_right, and_both, found_first}
use Rattle.jsx_tree.proofs.Apart.{clash, never_both}
use Rattle.jsx_tree.proofs.Rows.Bodies.{plain}
use Rattle.jsx_tree.proofs.Rows.Bridge.{found_at}
use Rattle.jsx_tree.proofs.Rows.Closers.{closes}
use Rattle.jsx_tree.proofs.Rows.Guarded.{loosen, to_grammar, whole_items_found, whole_walk}
use Rattle.jsx_tree.proofs.Rows.Lists.{brace, closed}
use Rattle.jsx_tree.proofs.Rows.Placing.{no_node, node_shallow}
use Rattle.jsx_tree.proofs.Rows.Steps.{bar, both, on, only_sign, then', both_up}
use Rattle.jsx_declaration.proofs.Controls.{barred_in, only_in}
use Rattle.jsx_tree.proofs.Rows.Stopping.{is_not, never_stops, or_cases}
use Rattle.jsx_tree.proofs.Rows.Turns.{Turn, early, prepend, prepend_cons, turn_as, turn_both, turn_only, turn_symbol, whole_of, turn_shallow}
use Rattle.jsx_statement.specs.Cases.{IsBody, IsCase, IsDefault, MoreCases, NoCase, NoCases, body_row, cases_row, default_row, one_default, with_case}
use Rattle.jsx_token.specs.CaseEnds.{ends_case}
use Rattle.jsx_token.specs.Growths.{is_code, same_sign}
use Rattle.jsx_token.specs.Headings.{heading_sign}
use Rattle.jsx_token.specs.Here.{Here, place_of}
use Rattle.jsx_operand.specs.SoFar.{Staged, so_far}
use Rattle.jsx_token.specs.Marks.{row_so_far}
use Rattle.jsx_token.specs.Places.{Takes}
use Rattle.jsx_operand.proofs.OfSoFar.{of_so_far}
use Rattle.jsx_token.proofs.Headings.{headings, every_heading, of_heading}
use Rattle.jsx_token.proofs.Marks.{one_sign}
use Rattle.jsx_operand.proofs.Homes.{Taken, no_list, taken_by, home_of}
use Rattle.jsx_operand.proofs.Standing.{standing}
use Rattle.jsx_tree.proofs.Rows.Firsts.{kind_home}
use Rattle.jsx_tree.proofs.Depth.Shallow.{shallow_rest, shallow_first, shallow_head, shallow_nothing, shallow_up}
use Rattle.jsx_operand.proofs.Values.{led_sign}
use Rattle.jsx_statement.specs.Inners.{NoInner, NoInners, are_inner, first_inner, is_inner_list, first_depth}
use Rattle.jsx_statement.proofs.Inners.{first_line, next_inner, signed_inners, sign_inners}
use Rattle.jsx_statement.proofs.Blocks.{both_none, no_heading, turn_line, turn_none_left}
use Rattle.jsx_declaration.proofs.Heads.{as_front, as_turn, behind_both, head_of, items_of, rest_of}
use Rattle.jsx_declaration.proofs.Statements.{KeySign, Spot, coded, heading_stands, keyed, named, spot_kind, unlabelled_word, worded_evaluation}
use Rattle.jsx_statement.proofs.Statements.{none_begins, stmts}
use Rattle.jsx_tree.proofs.Depth.Nodes.{counts_as}
use Rattle.jsx_operand.proofs.Patterns.{deep_counted}

-- ---- the words of cases

or_left : (a b : Bool) → a ≡ true → (a || b) ≡ true
or_left a b h = ap (λ c. c || b) h

or_right : (a b : Bool) → b ≡ true → (a || b) ≡ true
or_right true b h = refl
or_right false b h = h

none_of : (a b : Bool) → (a || b) ≡ false → (a ≡ false) × (b ≡ false)
none_of true b h = cc
none_of false b h = (refl, h)

data ClauseKind : Kind → Type 0 where
  of_case : ClauseKind (statement Case)
  of_default : ClauseKind (statement Default)

abbrev is_clause : Kind → Bool
is_clause (statement Case) = true
is_clause (statement Default) = true
is_clause k = false

clause_is : (k : Kind) → is_clause k ≡ true → ClauseKind k
clause_is (statement Case) h = of_case
clause_is (statement Default) h = of_default
clause_is _ h = cc

clause_kind : (l : Kind) (ts : Forest) → Taken l → admits CaseClause (node l ts) ≡ true → ClauseKind l
clause_kind l ts t h = clause_is l (standing CaseClause is_clause refl l t (kind_home CaseClause l ts h))

-- what stands at a case's place
data Clause (v : Surroundings) (x : Place) : Tree → Place → Type 0 where
  a_case : {y : Place} (ts : Forest) → IsTrue (is_found (forth (key "case") x)) → Whole so_far v false CaseClause x (node (statement Case) ts) y → Clause v x (node (statement Case) ts) y
  a_default : {y : Place} (ts : Forest) → IsTrue (is_found (forth (key "default") x)) → Whole so_far v false CaseClause x (node (statement Default) ts) y → Clause v x (node (statement Default) ts) y

clause_by : {v : Surroundings} {x y : Place} {l : Kind} (ts : Forest) → ClauseKind l → Whole so_far v false CaseClause x (node l ts) y → Clause v x (node l ts) y
clause_by ts of_case w = a_case ts (led_sign (row_so_far (statement Case)) refl (of_so_far.from_node (statement Case) w.reads).walk) w
clause_by ts of_default w = a_default ts (led_sign (row_so_far (statement Default)) refl (of_so_far.from_node (statement Default) w.reads).walk) w

clause_of : {v : Surroundings} {x y : Place} (t : Tree) → Whole so_far v false CaseClause x t y → Clause v x t y
clause_of (leaf k r) w = let bad = w.reads.staged in cc
clause_of (list ts) w = absurd (no_list w.reads)
clause_of (node l ts) w = clause_by ts (clause_kind l ts (taken_by w.reads) (home_of w.reads)) w

abbrev has_word : Place → Bool
has_word x = is_found (forth (key "case") x) || is_found (forth (key "default") x)

clause_word : {v : Surroundings} {x y : Place} {t : Tree} → Clause v x t y → has_word x ≡ true
clause_word {x = x} (a_case ts f w) = or_left (is_found (forth (key "case") x)) (is_found (forth (key "default") x)) f
clause_word {x = x} (a_default ts f w) = or_right (is_found (forth (key "case") x)) (is_found (forth (key "default") x)) f

word_brace : (x : Place) → has_word x ≡ true → IsTrue (is_found (forth (pun "}") x)) → ⊥
word_brace x h f =
    or_cases (is_found (forth (key "case") x)) (is_found (forth (key "default") x)) h
    (λ g. never_both Punctuator IdentifierName (codes "}") (codes "case") x refl f g) (λ g. never_both Punctuator IdentifierName (codes "}") (codes "default") x refl f g)

-- ---- the first of some cases

record FirstCase (v : Surroundings) (x : Place) (t : Tree) (us vs : Forest) (w : Place) : Type 0 where
  end : Place
  whole : Whole so_far v false CaseClause x t end
  walk : Walk (Whole so_far) (steady v) cases_row end (part (list us) vs) w

first_of : {v : Surroundings} {x w : Place} {xs : Forest} (t : Tree) (us vs : Forest) → Walk (Whole so_far) (steady v) cases_row x xs w → xs ≡ part (list (part t us)) vs → FirstCase v x t us vs w
first_of t us vs (next (many n (nil f)) rest) q = cc
first_of {v} {x} {w} t us vs (next {y = z} (many n (last {y = y} r e f)) rest) q = record {
  end = y;
  whole = subst (λ u. Whole so_far v false CaseClause x u y) (λ i. head_of (items_of (head_of (q i)))) r;
  walk = subst (λ a. Walk (Whole so_far) (steady v) cases_row y a w) (λ i. part (list (rest_of (items_of (head_of (q i))))) (rest_of (q i))) (next (many refl (subst (λ p. Items (Whole so_far) v Lines CaseClause p none z) (sym e) (nil f))) rest);
}
first_of {v} {x} {w} t us vs (next {y = z} (many n (more {y = y} {u = u} {us = ws} m r e all)) rest) q = record {
  end = y;
  whole = subst (λ a. Whole so_far v false CaseClause x a y) (λ i. head_of (items_of (head_of (q i)))) r;
  walk = subst (λ a. Walk (Whole so_far) (steady v) cases_row y a w) (λ i. part (list (rest_of (items_of (head_of (q i))))) (rest_of (q i))) (next (many refl (subst (λ p. Items (Whole so_far) v Lines CaseClause p (part u ws) z) (sym e) all)) rest);
}

first_case : {v : Surroundings} {x w : Place} {t : Tree} {us vs : Forest} → Walk (Whole so_far) (steady v) cases_row x (part (list (part t us)) vs) w → FirstCase v x t us vs w
first_case {t = t} {us = us} {vs = vs} walk = first_of t us vs walk refl

no_cases_at : {v : Surroundings} {y : Place} {o : Fault} → ends_case y ≡ false → NoRow so_far v cases_row y o
no_cases_at {v} {y} {o = o} n = record { no = at }
  where
    split : (is_found (forth (pun "}") y) ≡ false) × (has_word y ≡ false)
    split = none_of _ _ n

    at : (us : Forest) (w : Place) → Walk (Whole so_far) (steady v) cases_row y us w → Shallow o (deepest us) → ⊥
    at us w (next (many m (nil f)) (next (sign e g) rest)) s = clash _ (found_at e g) split.0
    at us w (next (many m (last {t = t} r e f)) rest) s = clash _ (clause_word (clause_of t r)) split.1
    at us w (next (many m (more {t = t} p r e all)) rest) s = clash _ (clause_word (clause_of t r)) split.1

-- ---- no statement stands where a case ends

other_barred : {v : Surroundings} {c : Nonterminal} {x : Place} {s : Sign} {o : Fault} → Spot c → KeySign s → every_heading (λ h. not (same_sign (heading_sign h) s)) headings ≡ true → named s ≡ false → is_code s ≡ true → IsTrue (is_found (forth s x)) → Barred so_far v (Part c) x o
other_barred {v} {c} {x} {s} {o = o} spot k apart word code f = record { no = at }
  where
    at : (g : Given) (y : Place) → Past (Whole so_far) v (Part c) x g y → Shallow o (given_depth g) → ⊥
    at g y (tree {t = leaf j t} w) a = spot.leafless j t w.reads.staged
    at g y (tree {t = list ts} w) a = no_list w.reads
    at g y (tree {t = node l ts} w) a = spot_kind spot l ts (taken_by w.reads) (home_of w.reads)
        (λ h b. clash _ (one_sign (heading_sign h) s x (coded h) code (heading_stands b (of_so_far.from_node l w.reads).walk) f) (is_not _ (of_heading (λ j. not (same_sign (heading_sign j) s)) apart h)))
        (λ e. worded_evaluation k f (subst (λ j. Staged v false c x (node j ts) y) e w.reads))
        (λ e. unlabelled_word s code word f (of_so_far.from_node (statement Label) (subst (λ j. Staged v false c x (node j ts) y) e w.reads)).walk)

ended_barred : {v : Surroundings} {e : Fault} (y : Place) → ends_case y ≡ true → Barred so_far v (Part Stmt) y e
ended_barred y h =
    or_cases (is_found (forth (pun "}") y)) (has_word y) h
    (λ f. none_begins stmts (record { on = no_heading {y = y} {z = forth (pun "}") y} (record { is = refl; found = f }) }) (closes brace f))
    (λ g. or_cases (is_found (forth (key "case") y)) (is_found (forth (key "default") y)) g (λ f. other_barred stmts (keyed (key "case") refl) refl refl refl f) (λ f. other_barred stmts (keyed (key "default") refl) refl refl refl f))

-- ---- the statements of a case

pub record Ahead (v : Surroundings) (x : Place) (ts : Forest) (y : Place) : Type 0 where
  pub on : (us : Forest) (z : Place) → Items (Whole so_far) v Lines Stmt y us z → Items (Whole so_far) v Lines Stmt x (both ts us) z

pub ahead_none : {v : Surroundings} {x : Place} (ts : Forest) → ts ≡ none → Ahead v x ts x
ahead_none {v} {x} ts e = subst (λ us. Ahead v x us x) (sym e) (record { on = λ us z all. all })

line_before : {v : Surroundings} {x y : Place} {t : Tree} → Whole so_far v false Stmt x t y → (us : Forest) (z : Place) → Items (Whole so_far) v Lines Stmt y us z → Items (Whole so_far) v Lines Stmt x (part t us) z
line_before w none z (nil f) = last w refl f
line_before {t = t} w (part u us) z all = more (early Stmt t refl w.reads.reads.is) w refl all

pub ahead_more : {v : Surroundings} {x y z : Place} {t : Tree} (ts us : Forest) → Ahead v x ts y → Only so_far v (Part Stmt) y (one t) z → us ≡ both ts (part t none) → Ahead v x us z
ahead_more {v} {x} {z = z} {t = t} ts us a o e = subst (λ vs. Ahead v x vs z) (sym e) (record { on = λ vs p all. subst (λ ws. Items (Whole so_far) v Lines Stmt x ws p) (behind_both ts t vs) (a.on (part t vs) p (line_before (whole_of o.past) vs p all)) })

pub body_more : {v : Surroundings} {x y z : Place} {t : Tree} (ts us : Forest) → Turn so_far v body_row body_row x y (prepend ts) → ends_case y ≡ false → Only so_far v (Part Stmt) y (one t) z → us ≡ both ts (part t none) → Turn so_far v body_row body_row x z (prepend us)
body_more {t = t} ts us so n o e = turn_as (λ vs. prepend_cons ts t vs ∙ (λ i. prepend (sym e i) vs)) (turn_both so (turn_line of_so_far refl o (no_cases_at n)))

pub body_barred : {v : Surroundings} {x y : Place} {e : Fault} (ts : Forest) → Turn so_far v body_row body_row x y (prepend ts) → ends_case y ≡ false → NoInner v y e → NoInners v body_row x e
body_barred {v} {x} {y} {e = e} ts so n b = record { no = λ us w walk h a. let f = so.from us w walk in at f.parts w f.walk (subst (λ vs. first_inner v vs ≡ true) (sym f.is) h) (subst (λ vs. Shallow e (first_depth vs)) (sym f.is) a) }
  where
    at : (us : Forest) (w : Place) → Walk (Whole so_far) (steady v) body_row y us w → first_inner v (prepend ts us) ≡ true → Shallow e (first_depth (prepend ts us)) → ⊥
    at us w (next {ts = vs} (many m (nil f)) rest) h s = (no_cases_at {o = Unread} n).no vs w rest tt
    at us w (next {ts = vs} (many {ts = part t cs} m all) rest) h s = let r = first_line all in b.no t r.end r.whole (next_inner v ts t cs h) (shallow_head e t cs (shallow_up e (deepest (part t cs)) (deepest (both ts (part t cs))) (both_up ts (part t cs)) s))

pub body_ended : {v : Surroundings} {x y : Place} (ts : Forest) → are_inner v ts ≡ true → Ahead v x ts y → Turn so_far v body_row body_row x y (prepend ts) → ends_case y ≡ true → IsTrue (is_found y) → IsBody v x (list ts) y
body_ended {v} {x} {y} ts i a so e f = record {
  inner = i;
  stands = subst (λ us. Past (Whole so_far) v (Many Lines Stmt) x (one (list us)) y) (both_none ts) (many refl (a.on none y (nil f)));
  front = as_front (turn_as (λ us. ap (λ vs. part (list vs) us) (both_none ts)) (turn_both so (turn_none_left f (ended_barred y e))));
}

-- behind its word, where another didn't come
pub case_word : {h g k : Here} → g ≡ h → Takes (key "case") g k → Moves (key "case") (place_of h) (place_of k)
case_word e t = record { is = sym t.leads ∙ ap (λ q. forth (key "case") (place_of q)) e; found = refl }

-- ---- a case

abbrev pub case_row : List Piece
case_row = piece [] (Part (Expr 0)) ∷ piece [] (Fixed (pun ":")) ∷ body_row

-- its row and the cases behind it, behind its word
record CaseBehind (v : Surroundings) (x : Place) (ts us : Forest) (w : Place) : Type 0 where
  test : Tree
  body : Tree
  is : ts ≡ part test (part body none)
  inner : is_inner_list v body ≡ true
  walk : Walk (Whole so_far) (steady v) case_row x (part test (part body us)) w

-- the rule of its statements, of the rule of all its parts
of_rule : (a b c d : Bool) → (a || (b && (c && d))) ≡ true → (a || c) ≡ true
of_rule true b c d h = refl
of_rule false true true d h = refl
of_rule false true false d h = cc
of_rule false false c d h = cc

of_rules : (a b c : Bool) → (a || (b && c)) ≡ true → (a || b) ≡ true
of_rules true b c h = refl
of_rules false true c h = refl
of_rules false false c h = cc

case_behind : {v : Surroundings} {x x1 y w : Place} {ts us : Forest} → Moves (key "case") x x1 → Walk (Whole so_far) (around v ts) (row_so_far (statement Case)) x ts y → so_far.keeps (statement Case) v ts ≡ true → Walk (Whole so_far) (steady v) cases_row y us w → CaseBehind v x1 ts us w
case_behind {v} {w = w} {us = us} m (next (sign e f) (next {y = p} (tree {t = t} q) (next (sign d g) (next (many {ts = ss} n all) (done h))))) k rest = record {
  inner = of_rule v.strict (list_rule (at_most 0 is_function) t) (at_most 0 is_function ss) true (and_right (rule (statement Case) (part t (part (list ss) none))) _ k);
  test = t;
  body = list ss;
  is = refl;
  walk = subst (λ a. Walk (Whole so_far) (steady v) case_row a (part t (part (list ss) us)) w) (sym (m.is ∙ e)) (next (tree q) (next (sign d g) (next (many n all) rest)));
}

record DefaultBehind (v : Surroundings) (x : Place) (ts us : Forest) (w : Place) : Type 0 where
  body : Tree
  is : ts ≡ part body none
  inner : is_inner_list v body ≡ true
  walk : Walk (Whole so_far) (steady v) default_row x (part body us) w

default_behind : {v : Surroundings} {x x1 y w : Place} {ts us : Forest} → Moves (key "default") x x1 → Walk (Whole so_far) (around v ts) (row_so_far (statement Default)) x ts y → so_far.keeps (statement Default) v ts ≡ true → Walk (Whole so_far) (steady v) cases_row y us w → DefaultBehind v x1 ts us w
default_behind {v} {w = w} {us = us} m (next (sign e f) (next (sign d g) (next (many {ts = ss} n all) (done h)))) k rest = record {
  inner = of_rules v.strict (at_most 0 is_function ss) true (and_right (rule (statement Default) (part (list ss) none)) _ k);
  body = list ss;
  is = refl;
  walk = subst (λ a. Walk (Whole so_far) (steady v) default_row a (part (list ss) us) w) (sym (m.is ∙ e)) (next (sign d g) (next (many n all) rest));
}

-- the first case where one of the words stands
case_first : {v : Surroundings} {x x1 y w : Place} {t : Tree} (us vs : Forest) → Moves (key "case") x x1 → Clause v x t y → Walk (Whole so_far) (steady v) cases_row y (part (list us) vs) w → (ts : Forest) × ((t ≡ node (statement Case) ts) × CaseBehind v x1 ts (part (list us) vs) w)
case_first {x = x} us vs m (a_default ts f n) rest = absurd (never_both IdentifierName IdentifierName (codes "case") (codes "default") x refl (found_at (sym m.is) m.found) f)
case_first us vs m (a_case ts f n) rest = let r = of_so_far.from_node (statement Case) n.reads in (ts, (refl, case_behind m (whole_walk of_so_far CaseClause (row_so_far (statement Case)) refl n.ends_there r.walk) r.keeps rest))

default_first : {v : Surroundings} {x x1 y w : Place} {t : Tree} (us vs : Forest) → Moves (key "default") x x1 → Clause v x t y → Walk (Whole so_far) (steady v) cases_row y (part (list us) vs) w → (ts : Forest) × ((t ≡ node (statement Default) ts) × DefaultBehind v x1 ts (part (list us) vs) w)
default_first {x = x} us vs m (a_case ts f n) rest = absurd (never_both IdentifierName IdentifierName (codes "default") (codes "case") x refl (found_at (sym m.is) m.found) f)
default_first us vs m (a_default ts f n) rest = let r = of_so_far.from_node (statement Default) n.reads in (ts, (refl, default_behind m (whole_walk of_so_far CaseClause (row_so_far (statement Default)) refl n.ends_there r.walk) r.keeps rest))

-- no case is there behind its word, whatever stands behind it
pub record NoneBehind (v : Surroundings) (x : Place) (e : Fault) : Type 0 where
  pub no : (t : Tree) (us : Forest) (w : Place) → Walk (Whole so_far) (steady v) case_row x (part t us) w → first_inner v us ≡ true → Shallow e (part_depth t) → Shallow e (first_depth us) → ⊥

none_after : {v : Surroundings} {x y : Place} {e : Tree} {d : Fault} → Only so_far v (Part (Expr 0)) x (one e) y → NoInners v default_row y d → NoneBehind v x d
none_after {v} {x} {y} {e} {d = d} o n = record { no = λ t us w walk h s r. at walk t us refl h r }
  where
    at : {ts : Forest} {w : Place} → Walk (Whole so_far) (steady v) case_row x ts w → (t : Tree) (us : Forest) → ts ≡ part t us → first_inner v us ≡ true → Shallow d (first_depth us) → ⊥
    at {w = w} (next {y = y'} {ts = vs} (tree {t = u} q) walk) t us is h r =
        let same = sym (ap rest_of is) in
        n.no vs w (subst (λ p. Walk (Whole so_far) (steady v) default_row p vs w) (sym (o.alone (one u) y' (tree q)).1) walk) (subst (λ ws. first_inner v ws ≡ true) same h) (subst (λ ws. Shallow d (first_depth ws)) same r)

pub no_test : {v : Surroundings} {x : Place} {d : Fault} → Barred so_far v (Part (Expr 0)) x d → NoneBehind v x d
no_test {v} {x} {d} b = record { no = λ t us w walk h s r. at walk t us refl s }
  where
    at : {ts : Forest} {w : Place} → Walk (Whole so_far) (steady v) case_row x ts w → (t : Tree) (us : Forest) → ts ≡ part t us → Shallow d (part_depth t) → ⊥
    at (next {y = y} (tree {t = u} q) walk) t us is s = b.no (one u) y (tree q) (subst (λ a. Shallow d (part_depth a)) (sym (ap head_of is)) s)

pub no_colon : {v : Surroundings} {x y : Place} {e : Tree} {d : Fault} → Only so_far v (Part (Expr 0)) x (one e) y → Barred so_far v (Fixed (pun ":")) y d → NoneBehind v x d
no_colon o b = none_after o (sign_inners b)

pub none_inner : {v : Surroundings} {x y z : Place} {e : Tree} {d : Fault} → Only so_far v (Part (Expr 0)) x (one e) y → Only so_far v (Fixed (pun ":")) y nothing z → NoInners v body_row z d → NoneBehind v x d
none_inner o c n = none_after o (signed_inners c n)

-- the first case is as deep as all of them, and its parts are less deep
abbrev depth_first : Tree → Forest → Forest → ℕ
depth_first t us vs = deepest (part (list (part t us)) vs)

case_shallow : (e : Fault) (t : Tree) (us vs : Forest) → Shallow e (depth_first t us vs) → Shallow e (part_depth t)
case_shallow e t us vs s = shallow_head e t us (shallow_first e (one (list (part t us))) vs s)

clause_shallow : {v : Surroundings} {x y : Place} {t : Tree} (e : Fault) (k : Kind) (ts : Forest) → counts_as true k ≡ true → t ≡ node k ts → Whole so_far v false CaseClause x t y → Shallow (outer e) (part_depth t) → Shallow e (deepest ts)
clause_shallow {v} {x} {y} e k ts i is w s = node_shallow e true i of_so_far (subst (λ u. Staged v false CaseClause x u y) is w.reads) (subst (λ u. Shallow (outer e) (part_depth u)) is s)

pub no_case : {v : Surroundings} {x x1 : Place} {e : Fault} → Moves (key "case") x x1 → NoneBehind v x1 e → NoCase v x (outer e)
no_case {e = e} m n = record {
  no = λ t us vs w walk s.
      let f = first_case walk in
      let c = case_first us vs m (clause_of t f.whole) f.walk in
      let b = c.1.1 in
      let d = subst (λ ts. Shallow e (deepest ts)) b.is (clause_shallow e (statement Case) c.0 refl c.1.0 f.whole (case_shallow (outer e) t us vs s)) in
      n.no b.test (part b.body (part (list us) vs)) w b.walk b.inner (shallow_first e (one b.test) (part b.body none) d) (shallow_first e (one b.body) none (shallow_rest e (one b.test) (part b.body none) d));
}

pub no_default : {v : Surroundings} {x x1 : Place} {e : Fault} → Moves (key "default") x x1 → NoInners v default_row x1 e → NoCase v x (outer e)
no_default {e = e} m n = record {
  no = λ t us vs w walk s.
      let f = first_case walk in
      let c = default_first us vs m (clause_of t f.whole) f.walk in
      let b = c.1.1 in
      let d = subst (λ ts. Shallow e (deepest ts)) b.is (clause_shallow e (statement Default) c.0 refl c.1.0 f.whole (case_shallow (outer e) t us vs s)) in
      n.no (part b.body (part (list us) vs)) w b.walk b.inner (shallow_first e (one b.body) none d);
}

-- where no level is left
pub deep_case : {v : Surroundings} {x : Place} {e : Fault} → Below 0 e → NoCase v x e
deep_case {v} {x} {e} b = record { no = λ t us vs w walk s. let f = first_case walk in by (clause_of t f.whole) (case_shallow e t us vs s) }
  where
    by : {t : Tree} {y : Place} → Clause v x t y → Shallow e (part_depth t) → ⊥
    by (a_case ts f w) s = deep_counted e refl w.reads b s
    by (a_default ts f w) s = deep_counted e refl w.reads b s

-- neither of the words
pub no_clause : {v : Surroundings} {x : Place} {e : Fault} → forth (key "default") x ≡ Lost → Barred so_far v (Fixed (key "case")) x e → NoCase v x e
no_clause {v} {x} {e = e} d b = record { no = λ t us vs w walk s. let f = first_case walk in by (clause_of t f.whole) }
  where
    by : {t : Tree} {y : Place} → Clause v x t y → ⊥
    by (a_case ts f n) = b.no nothing _ (sign refl f) (shallow_nothing e)
    by (a_default ts f n) = let bad : IsTrue (is_found Lost) = subst (λ p. IsTrue (is_found p)) d f in cc

-- the cases behind one that was read
cases_before : {v : Surroundings} {x y w : Place} {t : Tree} → Whole so_far v false CaseClause x t y → (us : Forest) → Walk (Whole so_far) (steady v) cases_row y us w → Walk (Whole so_far) (steady v) cases_row x (with_case t us) w
cases_before {v} {x} {t = t} r us (next {ts = vs} (many {ts = cs} n all) rest) = next (many refl (before r cs _ all)) rest
  where
    before : {x y : Place} → Whole so_far v false CaseClause x t y → (cs : Forest) (z : Place) → Items (Whole so_far) v Lines CaseClause y cs z → Items (Whole so_far) v Lines CaseClause x (part t cs) z
    before r none z (nil f) = last r refl f
    before r (part u us) z all = more (early CaseClause t refl r.reads.reads.is) r refl all

list_end : {v : Surroundings} {x y : Place} {g : Given} → Past (Whole so_far) v (Many Lines Stmt) x g y → IsTrue (is_found y)
list_end (many n all) = at all
  where
    at : {v : Surroundings} {x y : Place} {ts : Forest} → Items (Whole so_far) v Lines Stmt x ts y → IsTrue (is_found y)
    at (nil f) = f
    at (last r e f) = f
    at (more m r e all) = at all

start_of : {v : Surroundings} {x y : Place} {g : Given} → Past (Whole so_far) v (Many Lines Stmt) x g y → IsTrue (is_found x)
start_of (many n all) = whole_items_found of_so_far all

case_ends : {v : Surroundings} {x y : Place} {k : Kind} {ts : Forest} → Staged v false CaseClause x (node k ts) y → Whole so_far v false CaseClause x (node k ts) y
case_ends {y = y} r = record { reads = r; ends_there = of_so_far.ends_there CaseClause y (never_stops CaseClause y refl) }

-- an expression is no list
rule_whole : (f : Forest → Bool) {v : Surroundings} {x y : Place} (t : Tree) → Staged v false (Expr 0) x t y → list_rule f t ≡ true
rule_whole f (leaf k r) q = refl
rule_whole f (node k ts) q = refl
rule_whole f (list ts) q = absurd (no_list q)

-- the rules of its parts, of that of its statements
to_rule : (a b c : Bool) → b ≡ true → (a || c) ≡ true → (a || (b && (c && true))) ≡ true
to_rule true b c g h = refl
to_rule false true true g h = refl
to_rule false true false g h = cc
to_rule false false c g h = cc

to_rules : (a b : Bool) → (a || b) ≡ true → (a || (b && true)) ≡ true
to_rules true b h = refl
to_rules false true h = refl
to_rules false false h = cc

-- the tokens and parts of a case, and then what the cases behind it are
pub case_is : {v : Surroundings} {x x1 x2 x3 y : Place} {e b t : Tree} → Moves (key "case") x x1 → Only so_far v (Part (Expr 0)) x1 (one e) x2 → Only so_far v (Fixed (pun ":")) x2 nothing x3 → IsBody v x3 b y → t ≡ node (statement Case) (part e (part b none)) → IsCase v x t y
case_is {v} {x} {x1} {y = y} {e = e} {b = b} {t} m o c s is = subst (λ u. IsCase v x u y) (sym is) (record { whole = whole; to = λ us w walk. cases_before whole us walk; from = from })
  where
    ts : Forest
    ts = part e (part b none)

    walk : Walk (Whole so_far) (around v ts) (row_so_far (statement Case)) x ts y
    walk = next (sign (sym m.is) m.found) (next o.past (next c.past (next s.stands (done (list_end s.stands)))))

    whole : Whole so_far v false CaseClause x (node (statement Case) ts) y
    whole = case_ends (of_so_far.to_node (statement Case) refl (record { walk = loosen walk; keeps = and_both _ _ (plain (row_so_far (statement Case)) refl (to_grammar of_so_far walk)) (to_rule v.strict (list_rule (at_most 0 is_function) e) (list_rule (at_most 0 is_function) b) (rule_whole (at_most 0 is_function) e (whole_of o.past).reads) s.inner) }))

    turn : Turn so_far v case_row cases_row x1 y (λ us. part e (part b us))
    turn = turn_both (turn_symbol o) (turn_both (turn_symbol c) (as_turn s.front))

    from : (us : Forest) (w : Place) → Walk (Whole so_far) (steady v) cases_row x us w → MoreCases v y (node (statement Case) ts) us w
    from us w (next (many n (nil f)) (next (sign d g) rest)) = absurd (word_brace x (or_left _ _ (found_at (sym m.is) m.found)) (found_at d g))
    from us w (next {ts = vs} (many {ts = part u cs} n all) rest) =
        let f = first_case (next (many n all) rest) in
        let k = case_first cs vs m (clause_of u f.whole) f.walk in
        let r = turn.from _ w k.1.1.walk in
        record {
          parts = r.parts;
          is = (λ i. with_case (node (statement Case) (part (head_of (r.is i)) (part (head_of (rest_of (r.is i))) none))) (rest_of (rest_of (r.is i))))
              ∙ (λ i. part (list (part (((λ j. node (statement Case) (sym k.1.1.is j)) ∙ sym k.1.0) i) cs)) vs);
          walk = r.walk;
        }

pub default_is : {v : Surroundings} {x x1 y : Place} {t : Tree} → Moves (key "default") x x1 → IsDefault v x1 t y → IsCase v x t y
default_is {v} {x} {x1} {y} {t} m d = subst (λ u. IsCase v x u y) (sym d.is) (record { whole = whole; to = λ us w walk. cases_before whole us walk; from = from })
  where
    ts : Forest
    ts = part d.body none

    colon : Past (Whole so_far) v (Fixed (pun ":")) x1 nothing d.begin
    colon = sign (sym d.colon) (start_of d.reads.stands)

    walk : Walk (Whole so_far) (around v ts) (row_so_far (statement Default)) x ts y
    walk = next (sign (sym m.is) m.found) (next colon (next d.reads.stands (done (list_end d.reads.stands))))

    whole : Whole so_far v false CaseClause x (node (statement Default) ts) y
    whole = case_ends (of_so_far.to_node (statement Default) refl (record { walk = loosen walk; keeps = and_both _ _ (plain (row_so_far (statement Default)) refl (to_grammar of_so_far walk)) (to_rules v.strict (list_rule (at_most 0 is_function) d.body) d.reads.inner) }))

    turn : Turn so_far v default_row cases_row x1 y (part d.body)
    turn = turn_both (turn_symbol (only_sign (record { is = d.colon; found = start_of d.reads.stands }))) (as_turn d.reads.front)

    from : (us : Forest) (w : Place) → Walk (Whole so_far) (steady v) cases_row x us w → MoreCases v y (node (statement Default) ts) us w
    from us w (next (many n (nil f)) (next (sign e g) rest)) = absurd (word_brace x (or_right _ _ (found_at (sym m.is) m.found)) (found_at e g))
    from us w (next {ts = vs} (many {ts = part u cs} n all) rest) =
        let f = first_case (next (many n all) rest) in
        let k = default_first cs vs m (clause_of u f.whole) f.walk in
        let r = turn.from _ w k.1.1.walk in
        record {
          parts = r.parts;
          is = (λ i. with_case (node (statement Default) (part (head_of (r.is i)) none)) (rest_of (r.is i)))
              ∙ (λ i. part (list (part (((λ j. node (statement Default) (sym k.1.1.is j)) ∙ sym k.1.0) i) cs)) vs);
          walk = r.walk;
        }

-- ---- the cases

prepend_case : (ts : Forest) (t : Tree) (us : Forest) → prepend ts (with_case t us) ≡ prepend (both ts (part t none)) us
prepend_case ts t none = refl
prepend_case ts t (part (leaf k r) vs) = refl
prepend_case ts t (part (node k us) vs) = refl
prepend_case ts t (part (list us) vs) = ap (λ ws. part (list ws) vs) (behind_both ts t us)

-- a case before others
case_up : (t : Tree) (us : Forest) → deepest us ≤ deepest (with_case t us)
case_up t none = omega arith
case_up t (part (list ts) us) = omega arith
case_up t (part (leaf k s) us) = omega arith
case_up t (part (node k ts) us) = omega arith

case_turn : {v : Surroundings} {x y : Place} {t : Tree} → IsCase v x t y → Turn so_far v cases_row cases_row x y (with_case t)
case_turn {t = t} c = record { to = c.to; from = λ us w walk. let f = c.from us w walk in record { parts = f.parts; is = f.is; walk = f.walk }; rises = case_up t }

pub cases_more : {v : Surroundings} {x y z : Place} {t : Tree} (ts us : Forest) → Turn so_far v cases_row cases_row x y (prepend ts) → IsCase v y t z → us ≡ both ts (part t none) → Turn so_far v cases_row cases_row x z (prepend us)
cases_more {t = t} ts us so c e = turn_as (λ vs. prepend_case ts t vs ∙ (λ i. prepend (sym e i) vs)) (turn_both so (case_turn c))

no_more : {v : Surroundings} {x : Place} {e : Fault} → IsTrue (is_found (forth (pun "}") x)) → Barred so_far v (Part CaseClause) x e
no_more {v} {x} {e = e} f = record { no = at }
  where
    at : (g : Given) (y : Place) → Past (Whole so_far) v (Part CaseClause) x g y → Shallow e (given_depth g) → ⊥
    at g y (tree {t = t} w) s = word_brace x (clause_word (clause_of t w)) f

pub cases_ended : {v : Surroundings} {x y z : Place} (ts : Forest) → Turn so_far v cases_row cases_row x y (prepend ts) → Moves (pun "}") y z → OnlyRow so_far v cases_row x (part (list ts) none) z
cases_ended {v} {x} {y} {z} ts so m =
    let there = found_at (sym m.is) m.found in
    subst (λ us. OnlyRow so_far v cases_row x (part (list us) none) z) (both_none ts) (turn_only so (turn_only (turn_none_left (found_first (pun "}" ∷ []) y there) (no_more there)) (closed m)))

pub cases_barred : {v : Surroundings} {x y y' : Place} {o : Fault} (ts : Forest) → Turn so_far v cases_row cases_row x y (prepend ts) → Missed (pun "}") y y' → NoCase v y' o → NoCases v x o
cases_barred {v} {x} {y} {o = o} ts so k n = record { no = λ us w walk h a. let f = so.from us w walk in at f.parts w f.walk (turn_shallow o so us w walk a) }
  where
    here : NoCase v y o
    here = subst (λ w. NoCase v w o) (sym k.same) n

    at : (us : Forest) (w : Place) → Walk (Whole so_far) (steady v) cases_row y us w → Shallow o (deepest us) → ⊥
    at us w (next (many m (nil f)) (next (sign e g) rest)) s = let bad : IsTrue (is_found Lost) = subst (λ p. IsTrue (is_found p)) k.stuck.is (found_at e g) in cc
    at us w (next {ts = vs} (many {ts = part t cs} m all) rest) s = here.no t cs vs w (next (many m all) rest) s

-- ---- of which one is `default`

abbrev pub defaults : Forest → ℕ
defaults ts = count_of is_default ts

pub more_defaults : (ts : Forest) (t : Tree) → defaults (both ts (part t none)) ≡ cond (is_default t) (suc (defaults ts)) (defaults ts)
more_defaults none t = refl
more_defaults (part u ts) t = by (is_default u) (is_default t) (more_defaults ts t)
  where
    by : (a b : Bool) → defaults (both ts (part t none)) ≡ cond b (suc (defaults ts)) (defaults ts) → cond a (suc (defaults (both ts (part t none)))) (defaults (both ts (part t none))) ≡ cond b (suc (cond a (suc (defaults ts)) (defaults ts))) (cond a (suc (defaults ts)) (defaults ts))
    by true true e = ap suc e
    by true false e = ap suc e
    by false true e = e
    by false false e = e

defaults_both : (ts us : Forest) → defaults (both ts us) ≡ defaults ts + defaults us
defaults_both none us = omega arith
defaults_both (part u ts) us = by (is_default u) (defaults_both ts us)
  where
    by : (a : Bool) → defaults (both ts us) ≡ defaults ts + defaults us → cond a (suc (defaults (both ts us))) (defaults (both ts us)) ≡ cond a (suc (defaults ts)) (defaults ts) + defaults us
    by true e = omega (arith, e)
    by false e = e

two_defaults : (ts : Forest) (t : Tree) (us : Forest) → defaults ts ≡ 1 → is_default t ≡ true → nat_le (defaults (both ts (part t us))) 1 ≡ true → ⊥
two_defaults ts t us n d h =
    let all = defaults_both ts (part t us) in
    let one : defaults (part t us) ≡ suc (defaults us) = ap (λ b. cond b (suc (defaults us)) (defaults us)) d in
    absurd (omega (arith, leb-true (defaults (both ts (part t us))) 1 h, all, one, n))

-- where the one that was read stands
pub case_at : {v : Surroundings} {h g : Here} {y : Place} {t : Tree} → g ≡ h → IsCase v (place_of g) t y → IsCase v (place_of h) t y
case_at {v} {y = y} {t = t} e c = subst (λ q. IsCase v (place_of q) t y) e c

both_true : (a b : Bool) → (a && b) ≡ true → (a ≡ true) × (b ≡ true)
both_true true true h = (refl, refl)
both_true true false h = cc
both_true false b h = cc

two_cases : {v : Surroundings} {x y z : Place} {t : Tree} {e : Fault} (ts : Forest) → Turn so_far v cases_row cases_row x y (prepend ts) → IsCase v y t z → defaults ts ≡ 1 → is_default t ≡ true → NoCases v x e
two_cases {v} {x} {z = z} {t = t} {e = e} ts so c n d = record { no = at }
  where
    by : (vs : Forest) (w : Place) → Walk (Whole so_far) (steady v) cases_row z vs w → one_default (prepend ts (with_case t vs)) ≡ true → ⊥
    by vs w (next (many {ts = cs} m all) rest) h = two_defaults ts t cs n d h

    at : (us : Forest) (w : Place) → Walk (Whole so_far) (steady v) cases_row x us w → one_default us ≡ true → Shallow e (deepest us) → ⊥
    at us w walk h s =
        let f = so.from us w walk in
        let g = c.from f.parts w f.walk in
        by g.parts w g.walk (subst (λ vs. one_default vs ≡ true) (sym f.is ∙ ap (prepend ts) (sym g.is)) h)

pub second_default : {v : Surroundings} {x y z : Place} {t : Tree} {e : Fault} (h : Bool) (ts : Forest) → Turn so_far v cases_row cases_row x y (prepend ts) → IsCase v y t z → defaults ts ≡ cond h 1 0 → (h && is_default t) ≡ true → NoCases v x e
second_default {t = t} h ts so c n b = let p = both_true h (is_default t) b in two_cases ts so c (n ∙ ap (λ a. cond a 1 0) p.0) p.1

pub defaults_next : (h d : Bool) (n m : ℕ) → n ≡ cond h 1 0 → (h && d) ≡ false → m ≡ cond d (suc n) n → m ≡ cond (h || d) 1 0
defaults_next true true n m e o k = cc
defaults_next true false n m e o k = k ∙ e
defaults_next false true n m e o k = k ∙ ap suc e
defaults_next false false n m e o k = k ∙ e

pub few_defaults : (h : Bool) (ts : Forest) → defaults ts ≡ cond h 1 0 → at_most 1 is_default ts ≡ true
few_defaults true ts e = subst (λ n. nat_le n 1 ≡ true) (sym e) refl
few_defaults false ts e = subst (λ n. nat_le n 1 ≡ true) (sym e) refl

-- ---- the statement

into_switch : {v u : Surroundings} {x y : Place} {ts : Forest} → u ≡ enter none InSwitch v → Walk (Whole so_far) (steady u) cases_row x ts y → Walk (Whole so_far) (steady v) (piece (InSwitch ∷ []) (Many Lines CaseClause) ∷ piece (InSwitch ∷ []) (Fixed (pun "}")) ∷ []) x ts y
into_switch {x = x} i (next {y = z} (many {ts = cs} n all) (next (sign e f) (done g))) = next (many n (subst (λ w. Items (Whole so_far) w Lines CaseClause x cs z) i all)) (next (sign e f) (done g))

of_switch : {v u : Surroundings} {x y : Place} {ts : Forest} → u ≡ enter none InSwitch v → Walk (Whole so_far) (steady v) (piece (InSwitch ∷ []) (Many Lines CaseClause) ∷ piece (InSwitch ∷ []) (Fixed (pun "}")) ∷ []) x ts y → Walk (Whole so_far) (steady u) cases_row x ts y
of_switch {x = x} i (next {y = z} (many {ts = cs} n all) (next (sign e f) (done g))) = next (many n (subst (λ w. Items (Whole so_far) w Lines CaseClause x cs z) (sym i) all)) (next (sign e f) (done g))

only_cases : {v u : Surroundings} {x y : Place} {ts : Forest} → u ≡ enter none InSwitch v → OnlyRow so_far u cases_row x ts y → OnlyRow so_far v (piece (InSwitch ∷ []) (Many Lines CaseClause) ∷ piece (InSwitch ∷ []) (Fixed (pun "}")) ∷ []) x ts y
only_cases i o = record { walk = into_switch i o.walk; alone = λ us z w. o.alone us z (of_switch i w) }

pub switch_built : {v u : Surroundings} {x x1 x2 x3 x4 z : Place} {e t : Tree} {cs : Forest} → u ≡ enter none InSwitch v → Only so_far v (Fixed (pun "(")) x nothing x1 → Only so_far v (Part (Expr 0)) x1 (one e) x2 → Only so_far v (Fixed (pun ")")) x2 nothing x3 → Only so_far u (Fixed (pun "{")) x3 nothing x4
    → OnlyRow so_far u cases_row x4 (part (list cs) none) z → at_most 1 is_default cs ≡ true → t ≡ node (statement Switch) (part e (part (list cs) none)) → BuiltNode so_far v (tail (row_so_far (statement Switch))) (statement Switch) t x z
switch_built i a b c d o k is = record { parts = _; is = is; row = then' a (then' b (then' c (then' (only_in i d) (only_cases i o)))); keeps = and_both _ _ (and_both _ _ (rule_whole _ _ (whole_of b.past).reads) (and_both _ _ k refl)) refl }

pub no_switch_brace : {v u : Surroundings} {x x1 x2 x3 : Place} {e : Tree} {o : Fault} → u ≡ enter none InSwitch v → Only so_far v (Fixed (pun "(")) x nothing x1 → Only so_far v (Part (Expr 0)) x1 (one e) x2 → Only so_far v (Fixed (pun ")")) x2 nothing x3 → Barred so_far u (Fixed (pun "{")) x3 o → NoNode so_far v (tail (row_so_far (statement Switch))) (statement Switch) x o
no_switch_brace i a b c n = no_node (on a (on b (on c (bar (barred_in i n)))))

-- no parts that pass a test stand there as the row says
record NoneIf (v : Surroundings) (ps : List Piece) (p : Forest → Bool) (x : Place) (e : Fault) : Type 0 where
  no : (ts : Forest) (y : Place) → Walk (Whole so_far) (steady v) ps x ts y → p ts ≡ true → Shallow e (deepest ts) → ⊥

on_if : {v : Surroundings} {a : List Context} {q : Symbol} {ps : List Piece} {p : Forest → Bool} {x y : Place} {g : Given} {e : Fault} → Only so_far (steady v a) q x g y → NoneIf v ps (λ ts. p (with g ts)) y e → NoneIf v (piece a q ∷ ps) p x e
on_if {v} {a} {q} {ps} {p} {x} {y} {g} {e = e} o n = record { no = at }
  where
    at : (ts : Forest) (z : Place) → Walk (Whole so_far) (steady v) (piece a q ∷ ps) x ts z → p ts ≡ true → Shallow e (deepest ts) → ⊥
    at ts z (next {g = h'} {ts = us} r w) k s =
        let same = o.alone _ _ r in
        n.no us z (subst (λ b. Walk (Whole so_far) (steady v) ps b us z) (sym same.1) w) (subst (λ h. p (with h us) ≡ true) (sym same.0) k) (shallow_rest e h' us s)

switch_keeps : (v : Surroundings) (e : Tree) (cs : Forest) → so_far.keeps (statement Switch) v (part e (part (list cs) none)) ≡ true → at_most 1 is_default cs ≡ true
switch_keeps v e cs k = and_left (at_most 1 is_default cs) _ (and_right (list_rule (at_most 1 is_default) e) _ (and_left (all_of (list_rule (at_most 1 is_default)) (part e (part (list cs) none))) _ k))

pub no_switch_cases : {v u : Surroundings} {x x1 x2 x3 x4 : Place} {e : Tree} {o : Fault} → u ≡ enter none InSwitch v → Only so_far v (Fixed (pun "(")) x nothing x1 → Only so_far v (Part (Expr 0)) x1 (one e) x2 → Only so_far v (Fixed (pun ")")) x2 nothing x3 → Only so_far u (Fixed (pun "{")) x3 nothing x4
    → NoCases u x4 o → NoNode so_far v (tail (row_so_far (statement Switch))) (statement Switch) x o
no_switch_cases {v} {u} {x4 = x4} {e = e} {o = o} i a b c d n =
    let all = on_if {p = so_far.keeps (statement Switch) v} a (on_if b (on_if c (on_if (only_in i d) (record { no = last })))) in
    record { no = all.no }
  where
    last : (us : Forest) (z : Place) → Walk (Whole so_far) (steady v) (piece (InSwitch ∷ []) (Many Lines CaseClause) ∷ piece (InSwitch ∷ []) (Fixed (pun "}")) ∷ []) x4 us z → so_far.keeps (statement Switch) v (part e us) ≡ true → Shallow o (deepest us) → ⊥
    last us z (next (many {ts = cs} m all) (next (sign f g) (done h))) k s = n.no (part (list cs) none) z (of_switch {v = v} {u = u} i (next (many m all) (next (sign f g) (done h)))) (switch_keeps v e cs k) s
