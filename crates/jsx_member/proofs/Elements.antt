-- What stands among arguments and in an array: an expression or a spread, told apart by its first token.
use Rattle.std.proofs.Common.{◌≡◌, Bool, true, false, not, refl, sym, ◌∙◌, ap, subst}
use Rattle.std.specs.Prelude.{IsTrue, ◌&&◌, ◌||◌}
use Rattle.jsx_base.specs.Token.{Text, TokenKind, IdentifierName, NumericLiteral, BigIntLiteral, StringLiteral, RegExpLiteral, Elision}
use Rattle.jsx_tree.specs.Signs.{Sign}
use Rattle.jsx_tree.specs.Kinds.{Kind, Module, ExprStmt, Label, Seq, Spread, ParenTarget, program, statement, function, expression, Tree, leaf, node, list, Forest}
use Rattle.jsx_tree.specs.Nonterminals.{Nonterminal, Expr, Argument, ArrayItem, homes, in_homes}
use Rattle.jsx_tree.specs.Grammar.{Part, pun}
use Rattle.jsx_tree.specs.Form.{admits}
use Rattle.jsx_tree.specs.Reading.{Place, Lost, At, forth}
use Rattle.jsx_tree.specs.StaticRules.{Surroundings}
use Rattle.jsx_tree.specs.Walk.{is_found, Given, one, Past, tree, Walk, done, next, steady, tail}
use Rattle.jsx_tree.specs.Language.{Whole}
use Rattle.jsx_tree.specs.Answers.{Moves, Stuck, Missed, Only, Barred, NoRow, Built}
use Rattle.jsx_tree.specs.Faults.{Fault, Shallow, part_depth, given_depth}
use Rattle.jsx_tree.proofs.Tokens.{and_both, and_left, and_right}
use Rattle.jsx_tree.proofs.Apart.{clash}
use Rattle.jsx_tree.proofs.Rows.Bridge.{found_at}
use Rattle.jsx_tree.proofs.Rows.Stopping.{is_not, or_cases}
use Rattle.jsx_tree.proofs.Rows.Firsts.{kind_home}
use Rattle.jsx_tree.proofs.Rows.Guarded.{whole_walk, loosen, to_grammar}
use Rattle.jsx_tree.proofs.Rows.Bodies.{plain as plain_row}
use Rattle.jsx_tree.proofs.Rows.Placing.{free_around, moved, node_shallow}
use Rattle.jsx_tree.proofs.Rows.Turns.{item_of, whole_of}
use Rattle.jsx_operand.specs.SoFar.{Staged, so_far}
use Rattle.jsx_member.specs.Elements.{OnlyItem}
use Rattle.jsx_function.specs.Elements.{NoItem, is_hole}
use Rattle.jsx_token.specs.Stage.{leaf_at, value_leaf}
use Rattle.jsx_token.specs.Marks.{ends_so_far, row_so_far}
use Rattle.jsx_token.specs.Growths.{opening_sign, same_sign}
use Rattle.jsx_token.proofs.Headings.{every_begun, of_begun}
use Rattle.jsx_token.proofs.Levels.{grows_on}
use Rattle.jsx_token.proofs.Listed.{kinds, every, of_each}
use Rattle.jsx_token.proofs.Lives.{lives}
use Rattle.jsx_operand.proofs.OfSoFar.{of_so_far}
use Rattle.jsx_operand.proofs.Inners.{inner_kind, every_inner, of_inner}
use Rattle.jsx_operand.proofs.Homes.{Literal, IsName, IsNumber, IsLong, IsString, IsPattern, token_kind, Taken, module', headed, inner, evaluation, labelled, sequence, aimed, operand, Value, literal, made, value_kind, value, taken_by, home_of, no_list}
use Rattle.jsx_operand.proofs.Homes as home
use Rattle.jsx_operand.proofs.Values.{is_opening, opener, one_opening, literal_opening, opener_of, opened_sign, led_sign, First, name, opened, quoted, piece_of, opener_piece, bracketed, literal_kind, literal_listed, literal_still, bracket_opener, bracket_sign, begun, Seat, at_one, at_argument, move}
use Rattle.jsx_operand.proofs.Climbing.{signed_built, signed_none}
use Rattle.jsx_operand.proofs.PlainKinds.{plain_kind}

-- ---- what stands there

pub data AtItem : Tree → Type 0 where
  empty : {t : Text} → AtItem (leaf Elision t)
  spread : {ts : Forest} → AtItem (node (expression Spread) ts)
  valued : {t : Tree} → Value t → AtItem t

item_leaf : (k : TokenKind) (t : Text) → leaf_at ArrayItem k t ≡ true → AtItem (leaf k t)
item_leaf Elision t h = empty
item_leaf IdentifierName t h = valued (literal IsName h)
item_leaf NumericLiteral t h = valued (literal IsNumber h)
item_leaf BigIntLiteral t h = valued (literal IsLong h)
item_leaf StringLiteral t h = valued (literal IsString h)
item_leaf RegExpLiteral t h = valued (literal IsPattern h)
item_leaf _ t h = cc

-- a place of items: where every expression but a sequence stands, and a spread, but no target in parentheses
pub record Slot (c : Nonterminal) : Type 0 where
  pub seat : Seat c
  pub ends : (y : Place) → ends_so_far c y ≡ ends_so_far (Expr 1) y
  pub spreads : (ts : Forest) → admits c (node (expression Spread) ts) ≡ true
  pub leaves : (k : TokenKind) (t : Text) → leaf_at c k t ≡ true → AtItem (leaf k t)
  pub no_module : lives c (program Module) ≡ false
  pub no_heading : every_begun (λ k. not (lives c k)) ≡ true
  pub no_inner : every_inner (λ i. not (lives c (inner_kind i))) ≡ true
  pub no_evaluation : (not (lives c (statement ExprStmt)) && not (lives c (statement Label))) ≡ true
  pub no_sequence : lives c (expression Seq) ≡ false
  pub no_target : lives c (function ParenTarget) ≡ false

argument_ends : (y : Place) → ends_so_far Argument y ≡ ends_so_far (Expr 1) y
argument_ends Lost = refl
argument_ends (At q e text) = refl

item_ends : (y : Place) → ends_so_far ArrayItem y ≡ ends_so_far (Expr 1) y
item_ends Lost = refl
item_ends (At q e text) = refl

item_literal : (l : Literal) (t : Text) → value_leaf (token_kind l) t ≡ true → leaf_at ArrayItem (token_kind l) t ≡ true
item_literal IsName t h = h
item_literal IsNumber t h = h
item_literal IsLong t h = h
item_literal IsString t h = h
item_literal IsPattern t h = h

at_item : Seat ArrayItem
at_item = record { word = λ t h. h; number = λ t. refl; long = λ t. refl; string = λ t. refl; pattern = λ t. refl; at = item_literal; node = λ k ts l. of_each (λ j. in_homes ArrayItem (homes j)) refl k l }

pub arguments : Slot Argument
arguments = record {
  seat = at_argument;
  ends = argument_ends;
  spreads = λ ts. refl;
  leaves = λ k t h. valued (value_kind k t h);
  no_module = refl;
  no_heading = refl;
  no_inner = refl;
  no_evaluation = refl;
  no_sequence = refl;
  no_target = refl;
}

pub items : Slot ArrayItem
items = record {
  seat = at_item;
  ends = item_ends;
  spreads = λ ts. refl;
  leaves = item_leaf;
  no_module = refl;
  no_heading = refl;
  no_inner = refl;
  no_evaluation = refl;
  no_sequence = refl;
  no_target = refl;
}

elsewhere : (c : Nonterminal) (k : Kind) (ts : Forest) {A : Type 0} → lives c k ≡ false → admits c (node k ts) ≡ true → A
elsewhere c k ts n h = absurd (clash _ (kind_home c k ts h) n)

item_kind : {c : Nonterminal} {k : Kind} {ts : Forest} → Slot c → Taken k → admits c (node k ts) ≡ true → AtItem (node k ts)
item_kind s (operand l) h = valued (made l)
item_kind s home.spread h = spread
item_kind {c} {ts = ts} s module' h = elsewhere c (program Module) ts s.no_module h
item_kind {c} {k} {ts} s (headed b) h = elsewhere c k ts (is_not _ (of_begun (λ j. not (lives c j)) s.no_heading b)) h
item_kind {c} {ts = ts} s (inner i) h = elsewhere c (inner_kind i) ts (is_not _ (of_inner (λ j. not (lives c (inner_kind j))) s.no_inner i)) h
item_kind {c} {ts = ts} s evaluation h = elsewhere c (statement ExprStmt) ts (is_not _ (and_left (not (lives c (statement ExprStmt))) _ s.no_evaluation)) h
item_kind {c} {ts = ts} s labelled h = elsewhere c (statement Label) ts (is_not _ (and_right (not (lives c (statement ExprStmt))) _ s.no_evaluation)) h
item_kind {c} {ts = ts} s sequence h = elsewhere c (expression Seq) ts s.no_sequence h
item_kind {c} {ts = ts} s aimed h = elsewhere c (function ParenTarget) ts s.no_target h

at_slot : {v : Surroundings} {c : Nonterminal} {x y : Place} → Slot c → (t : Tree) → Staged v false c x t y → AtItem t
at_slot s (leaf k t) r = s.leaves k t r.staged
at_slot s (node k ts) r = item_kind s (taken_by r) (home_of r)
at_slot s (list ts) r = absurd (no_list r)

value_filled : {t : Tree} → Value t → is_hole t ≡ false
value_filled (literal IsName h) = refl
value_filled (literal IsNumber h) = refl
value_filled (literal IsLong h) = refl
value_filled (literal IsString h) = refl
value_filled (literal IsPattern h) = refl
value_filled (made l) = refl

-- an expression here is one there
to_one : {v : Surroundings} {c : Nonterminal} {x y : Place} {t : Tree} → Slot c → Value t → Whole so_far v false c x t y → Whole so_far v false (Expr 1) x t y
to_one {y = y} s q w = record { reads = move at_one q w.reads; ends_there = sym (s.ends y) ∙ w.ends_there }

from_one : {v : Surroundings} {c : Nonterminal} {x y : Place} {t : Tree} → Slot c → Whole so_far v false (Expr 1) x t y → Whole so_far v false c x t y
from_one {y = y} {t = t} s w = record { reads = move s.seat (value t refl w.reads) w.reads; ends_there = s.ends y ∙ w.ends_there }

-- ---- the signs

stuck_not : {s : Sign} {x : Place} → Stuck s x → IsTrue (is_found (forth s x)) → ⊥
stuck_not k f = let bad : IsTrue (is_found Lost) = subst (λ p. IsTrue (is_found p)) k.is f in cc

pub dots_led : {v : Surroundings} {c : Nonterminal} {x z : Place} {ts : Forest} → Staged v false c x (node (expression Spread) ts) z → IsTrue (is_found (forth (pun "...") x))
dots_led r = led_sign (row_so_far (expression Spread)) refl (of_so_far.from_node (expression Spread) r).walk

abbrev pub begins_none : Sign → Kind → Bool
begins_none s k = grows_on k || not (same_sign (opening_sign k) s)

-- where the sign stands no expression does, if none begins with it
pub no_value_at : {v : Surroundings} {x z : Place} {u : Tree} (s : Sign) → is_opening s ≡ true → every (begins_none s) kinds ≡ true → IsTrue (is_found (forth s x)) → Staged v false (Expr 1) x u z → ⊥
no_value_at {v} {x} {u = u} s o e f r = at (begun refl u r).first
  where
    at : {g : Tree} {p : Place} → First v x g p → ⊥
    at (name l {t} h w g i) = literal_opening l t s x (opener s o) h (found_at g i) f
    at (quoted d q r) = opener_piece x (opener s o) f (piece_of q r)
    at (bracketed d b r) =
        clash _ (one_opening (opening_sign (literal_kind b)) s x (bracket_opener b) (opener s o) (bracket_sign b r) f)
        (is_not _ (or_cases (grows_on (literal_kind b)) _ (of_each (begins_none s) e (literal_kind b) (literal_listed b)) (λ h. absurd (clash _ h (literal_still b))) (λ n. n)))
    at (opened d {k} m g q) =
        clash _ (one_opening (opening_sign k) s x (opener_of k m g) (opener s o) (opened_sign k m g q) f)
        (is_not _ (or_cases (grows_on k) _ (of_each (begins_none s) e k m) (λ h. absurd (clash _ h g)) (λ n. n)))

-- ---- an expression

pub expression_item : {v : Surroundings} {c : Nonterminal} {x x' y : Place} {t : Tree} → Slot c → Missed (pun "...") x x' → Only so_far v (Part (Expr 1)) x' (one t) y → OnlyItem v c x t y
expression_item {v} {c} {x} {y = y} {t} s m given = record { reads = from_one s (whole_of o.past); filled = value_filled (value t refl (whole_of o.past).reads); alone = λ u z n w. at n w (at_slot s u w.reads) }
  where
    o : Only so_far v (Part (Expr 1)) x (one t) y
    o = subst (λ p. Only so_far v (Part (Expr 1)) p (one t) y) (sym m.same) given

    at : {u : Tree} {z : Place} → is_hole u ≡ false → Whole so_far v false c x u z → AtItem u → (t ≡ u) × (y ≡ z)
    at n w empty = cc
    at n w spread = absurd (stuck_not m.stuck (dots_led w.reads))
    at {u} {z} n w (valued q) = let e = o.alone (one u) z (tree (to_one s q w)) in (ap item_of e.0, e.1)

pub no_expression_item : {v : Surroundings} {c : Nonterminal} {x x' : Place} {e : Fault} → Slot c → Missed (pun "...") x x' → Barred so_far v (Part (Expr 1)) x' e → NoItem v c x e
no_expression_item {v} {c} {x} {e = e} s m given = record { no = λ u z n w a. at n w (at_slot s u w.reads) a }
  where
    b : Barred so_far v (Part (Expr 1)) x e
    b = subst (λ w. Barred so_far v (Part (Expr 1)) w e) (sym m.same) given

    at : {u : Tree} {z : Place} → is_hole u ≡ false → Whole so_far v false c x u z → AtItem u → Shallow e (part_depth u) → ⊥
    at n w empty h = cc
    at n w spread h = stuck_not m.stuck (dots_led w.reads)
    at {u} {z} n w (valued q) h = b.no (one u) z (tree (to_one s q w)) h

-- ---- a spread

pub spread_ends : {v : Surroundings} {a y : Place} {ts : Forest} → Walk (Whole so_far) (steady v) (tail (row_so_far (expression Spread))) a ts y → ends_so_far (Expr 1) y ≡ true
spread_ends (next (tree w) (done f)) = w.ends_there

-- its row, read to the end of its expression
pub spread_whole : {v : Surroundings} {c : Nonterminal} {x z : Place} {ts : Forest} → Staged v false c x (node (expression Spread) ts) z → ends_so_far (Expr 1) z ≡ true → Walk (Whole so_far) (steady v) (row_so_far (expression Spread)) x ts z
spread_whole {v} {ts = ts} r e = moved (λ a h. free_around a ts v h) refl (whole_walk of_so_far (Expr 1) (row_so_far (expression Spread)) refl e (of_so_far.from_node (expression Spread) r).walk)

pub spread_item : {v : Surroundings} {c : Nonterminal} {x a y : Place} {t : Tree} → Slot c → Moves (pun "...") x a → Built so_far v (tail (row_so_far (expression Spread))) (expression Spread) (λ ts. ts) t a y → OnlyItem v c x t y
spread_item {v} {c} {x} {a} {y} {t} s m b = record {
  reads = subst (λ u. Whole so_far v false c x u y) (sym w.is) (record { reads = of_so_far.to_node (expression Spread) (s.spreads w.parts) (record { walk = loosen (moved (λ a h. sym (free_around a w.parts v h)) refl w.row.walk); keeps = and_both _ _ refl (plain_kind (expression Spread) w.parts v refl refl refl (plain_row (row_so_far (expression Spread)) refl (to_grammar of_so_far w.row.walk))) }); ends_there = s.ends y ∙ spread_ends b.row.walk });
  filled = ap is_hole w.is;
  alone = λ u z n q. at n q (at_slot s u q.reads);
}
  where
    w : Built so_far v (row_so_far (expression Spread)) (expression Spread) (λ ts. ts) t x y
    w = signed_built (row_so_far (expression Spread)) refl m b

    there : IsTrue (is_found (forth (pun "...") x))
    there = found_at (sym m.is) m.found

    at : {u : Tree} {z : Place} → is_hole u ≡ false → Whole so_far v false c x u z → AtItem u → (t ≡ u) × (y ≡ z)
    at n q empty = cc
    at {z = z} n q (spread {ts}) = let e = w.row.alone ts z (spread_whole q.reads (sym (s.ends z) ∙ q.ends_there)) in (w.is ∙ ap (node (expression Spread)) e.0, e.1)
    at n q (valued p) = absurd (no_value_at (pun "...") refl refl there (to_one s p q).reads)

pub no_spread_item : {v : Surroundings} {c : Nonterminal} {x a : Place} {e : Fault} → Slot c → Moves (pun "...") x a → NoRow so_far v (tail (row_so_far (expression Spread))) a e → NoItem v c x e
no_spread_item {v} {c} {x} {e = e} s m b = record { no = λ u z n w a. at n w (at_slot s u w.reads) a }
  where
    at : {u : Tree} {z : Place} → is_hole u ≡ false → Whole so_far v false c x u z → AtItem u → Shallow e (part_depth u) → ⊥
    at n w empty h = cc
    at {z = z} n w (spread {ts}) h = (signed_none (row_so_far (expression Spread)) refl m b).no ts z (spread_whole w.reads (sym (s.ends z) ∙ w.ends_there)) (node_shallow e false refl of_so_far w.reads h)
    at n w (valued p) h = no_value_at (pun "...") refl refl (found_at (sym m.is) m.found) (to_one s p w).reads

-- ---- where another sign stands

no_item_at : {v : Surroundings} {c : Nonterminal} {x : Place} {q : Fault} (d : Sign) → is_opening d ≡ true → every (begins_none d) kinds ≡ true → same_sign (pun "...") d ≡ false → IsTrue (is_found (forth d x)) → Slot c → NoItem v c x q
no_item_at {v} {c} {x} {q = q} d o e a f s = record { no = λ u z n w s'. at n w (at_slot s u w.reads) s' }
  where
    at : {u : Tree} {z : Place} → is_hole u ≡ false → Whole so_far v false c x u z → AtItem u → Shallow q (part_depth u) → ⊥
    at n w empty h = cc
    at n w spread h = clash _ (one_opening (pun "...") d x (opener (pun "...") refl) (opener d o) (dots_led w.reads) f) a
    at n w (valued p) h = no_value_at d o e f (to_one s p w).reads

pub comma_no_item : {v : Surroundings} {x : Place} {e : Fault} → IsTrue (is_found (forth (pun ",") x)) → NoItem v ArrayItem x e
comma_no_item f = no_item_at (pun ",") refl refl refl f items

pub close_no_item : {v : Surroundings} {x : Place} {e : Fault} → IsTrue (is_found (forth (pun "]") x)) → NoItem v ArrayItem x e
close_no_item f = no_item_at (pun "]") refl refl refl f items

-- ---- among arguments there are no holes

argument_filled : {v : Surroundings} {x z : Place} (u : Tree) → Staged v false Argument x u z → is_hole u ≡ false
argument_filled (leaf Elision t) r = let bad = r.staged in cc
argument_filled (leaf _ t) r = refl
argument_filled (node k ts) r = refl
argument_filled (list ts) r = refl

pub argument_only : {v : Surroundings} {x y : Place} {t : Tree} → OnlyItem v Argument x t y → Only so_far v (Part Argument) x (one t) y
argument_only {v} {x} {y} {t} o = record { past = tree o.reads; alone = at }
  where
    at : (h : Given) (z : Place) → Past (Whole so_far) v (Part Argument) x h z → (one t ≡ h) × (y ≡ z)
    at h z (tree {t = u} w) = let e = o.alone u z (argument_filled u w.reads) w in (ap one e.0, e.1)

pub argument_barred : {v : Surroundings} {x : Place} {e : Fault} → NoItem v Argument x e → Barred so_far v (Part Argument) x e
argument_barred {v} {x} {e = e} n = record { no = at }
  where
    at : (h : Given) (z : Place) → Past (Whole so_far) v (Part Argument) x h z → Shallow e (given_depth h) → ⊥
    at h z (tree {t = u} w) s = n.no u z (argument_filled u w.reads) w s

pub argument_as : {v : Surroundings} {x y : Place} {t u : Tree} → u ≡ t → Only so_far v (Part Argument) x (one t) y → Only so_far v (Part Argument) x (one u) y
argument_as {v} {x} {y} e o = subst (λ w. Only so_far v (Part Argument) x (one w) y) (sym e) o
