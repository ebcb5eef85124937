-- An expression that grows to the right at some level: which step comes next, and where none does. Each fact on the kinds is one test of all of them.
use Rattle.std.proofs.Common.{◌≡◌, ℕ, nat_eq, nat_le, Bool, true, false, not, cond, List, [], ◌∷◌, refl, sym, ◌∙◌, ap, subst, arith}
use Rattle.std.specs.Prelude.{IsTrue, Some, codes, ◌&&◌, ◌||◌}
use Rattle.std.proofs.lemmas.Bool.{leb-true, le-leb}
use Rattle.jsx_base.specs.Token.{Lexeme, Text, Operator, IdentifierName, Punctuator, NumericLiteral, BigIntLiteral, StringLiteral, TokenKind, is_token, among, breaks, token, same, RegExpLiteral, NoSubstitution, TemplateHead}
use Rattle.jsx_tree.specs.Signs.{Ending, AfterBlock, AfterExpr, SameLine, Sign}
use Rattle.jsx_tree.specs.Kinds.{Assigns, BareArrow, BareArrowBlock, Call, Member, Index, Parenthesized, Kind, expression, Tree, leaf, node, Forest, part, PlainTemplate, SubstitutedTemplate, Tagged, Chain, NameLink, IndexLink, CallLink, list}
use Rattle.jsx_tree.specs.Nonterminals.{Nonterminal, Expr, NullishLeft, MemberObject, DotObject, SimpleTarget, Pat, homes, in_homes, leaf_in, is_value_word, TemplatePart, ChainLink, TagName}
use Rattle.jsx_tree.specs.Grammar.{Context, Fixed, Part, pun, OneOrMore}
use Rattle.jsx_tree.specs.Form.{admits, fits_below, enough}
use Rattle.jsx_tree.specs.Reading.{Place, Lost, At, forth, go_if, is_backquote}
use Rattle.jsx_tree.specs.StaticRules.{Surroundings, has_plain_params, first_of_list, is_optional}
use Rattle.jsx_token.specs.Stage.{leaf_at, value_leaf}
use Rattle.jsx_tree.specs.Walk.{is_found, one, Relation, IsRead, Piece, piece, tail, sign, tree, Walk, next, around, steady, Items, nil, last, more, many, done}
use Rattle.jsx_tree.specs.Language.{Whole}
use Rattle.jsx_tree.specs.Stops.{going, quotes, stops}
use Rattle.jsx_tree.specs.Answers.{Moves, Only, Barred, NoRow, NoNode, Built, BuiltNode, OnlyRow}
use Rattle.jsx_tree.specs.Grows.{starts, Follows, Onward, stay, step, Steps, Decides, Joins, Stays, takes_target, as_target, seen}
use Rattle.jsx_tree.specs.Faults.{Fault, Shallow, deepest, outer, inner}
use Rattle.jsx_tree.proofs.Rows.Targets.{left_simple, left_pattern}
use Rattle.jsx_operand.proofs.Aims.{is_pair, seen_plain, calm_of, aim_of, aim_is, aim_back, staged_target, target_reads, open_value}
use Rattle.jsx_operand.specs.SoFar.{Staged, so_far}
use Rattle.jsx_token.specs.Marks.{goes_on_so_far, marks, steps, is_sign, is_mark, ends_so_far, row_so_far, goers, goes_by_mark, goes_by_quote, is_quoted}
use Rattle.jsx_token.specs.Here.{Here, place_of}
use Rattle.jsx_tree.proofs.Tokens.{and_left, and_right, and_both}
use Rattle.jsx_tree.proofs.Apart.{clash}
use Rattle.jsx_tree.proofs.Rows.Bridge.{found_at, found_first}
use Rattle.jsx_tree.proofs.Rows.Stopping.{stays as stays_on, is_not, heeds, sign_stops, is_never, never_stops}
use Rattle.jsx_tree.proofs.Rows.Guarded.{whole_walk, loosen, to_grammar}
use Rattle.jsx_tree.proofs.Rows.Bodies.{plain}
use Rattle.jsx_tree.proofs.Rows.Firsts.{kind_home}
use Rattle.jsx_tree.proofs.Rows.Placing.{free_around, moved}
use Rattle.jsx_tree.proofs.Rows.Spines.{grows}
use Rattle.jsx_tree.proofs.Rows.Growing.{grown_only, step_barred, left_barred, steps_barred}
use Rattle.jsx_tree.proofs.Rows.Steps.{on, then', only_sign, outer_barred}
use Rattle.jsx_tree.proofs.Depth.Nodes.{counts_as}
use Rattle.jsx_operand.proofs.OfSoFar.{of_so_far}
use Rattle.jsx_operand.proofs.Outgrown.{left_outgrown}
use Rattle.jsx_token.specs.Growths.{Rung, asked, is_rung, least, reaches, seat, OnLine, begins_line, lead, mark, on_line, past_line, same_sign, level_of_kind, fits_by, is_blocked, settled, rung, callee, is_chain, is_code, growth_kind}
use Rattle.jsx_operand.proofs.Growing.{grown_follows}
use Rattle.jsx_token.specs.declared.growth.Growth.{Growth}
use Rattle.jsx_operand.specs.declared.link.Linking.{Linking}
use Rattle.jsx_operand.specs.declared.link.Linking.TheVariants as linking
use Rattle.jsx_operand.specs.Links.{link_sign}
use Rattle.jsx_operand.proofs.Standing.{standing}
use Rattle.jsx_operand.specs.Climbing.{behind, level, fits, is_target_kind, is_target, Climbs, Ended, Grown, NotGrown}
use Rattle.jsx_operand.specs.Templates.{NotTagged, outgrown, unread}
use Rattle.jsx_token.proofs.Listed.{Listed, code, every, kinds, of_each, every_two, of_two, one_place, implies, implied, agree, agreed, listed, of_level}
use Rattle.jsx_token.proofs.Marks.{by_sign, mark_by, seen_sign, one_sign}
use Rattle.jsx_operand.proofs.Homes.{Literal, IsName, IsNumber, IsLong, IsString, IsPattern, token_kind, Value, literal, made, value, taken_by, home_of, wholes, heads, no_list}
use Rattle.jsx_token.proofs.Levels.{signed, Fitting, Formed, Leaves, assigned, at_level, edge, fitting_in, formed, grows_on, is_left, is_side, mark_among, mark_is_code, seat_asks, side, side_of, Quoted, undivided, divided, is_template, quoted_kind, steps_on, Marked, is_named, is_tagged, marked, marks_on, tagged_kind, growth_listed, growth_marks}
use Rattle.jsx_operand.proofs.Rungs.{clear, clear_left, clear_node, leads_as, leads_on, leaf_seat, least_home, least_top, level_reaches, literal_seat, reaches_level, rung_single, seat_admits, staged_clear}
use Rattle.jsx_operand.proofs.Values.{front_of, lead_row, led_sign, node_to, leaf_to, or_right, listed_node, Quote}
use Rattle.jsx_operand.proofs.Tags.{quote_goes, sign_piece, sign_unquoted, tagged_walk}
use Rattle.jsx_operand.proofs.PlainKinds.{plain_kind}

-- of two: what may stand at the left of the first, which nothing of the level of a conditional may; and that with the mark of the first, behind the second, the second's last part has ended, as before the template of a tag
abbrev hears : Kind → Kind → Bool
hears l k = cond (is_tagged l) (is_never (edge k)) (heeds (edge k) (mark l))

abbrev sinks : Kind → Kind → Bool
sinks l k = implies (leads_on l && in_homes (side l) (homes k)) (steps_on l && (nat_le 3 (level_of_kind k) && (nat_le (level_of_kind l) (level_of_kind k) && hears l k)))

all_sink : every_two sinks ≡ true
all_sink = refl

abbrev apart : Kind → Kind → Bool
apart l k = implies (marks_on l && marks_on k) (implies (same_sign (mark l) (mark k)) (nat_eq (code l) (code k)))

all_apart : every_two apart ≡ true
all_apart = refl

-- nor is one the arrow of a function
abbrev arrowless : Kind → Bool
arrowless k = implies (marks_on k) (not (same_sign (mark k) (pun "=>")))

all_arrowless : every arrowless kinds ≡ true
all_arrowless = refl

abbrev fitting : Kind → Kind → Bool
fitting k l = implies (steps_on k) (agree (cond (takes_target k) (is_target_kind l) (fits_by k (level_of_kind l))) (in_homes (side k) (homes l)))

all_fitting : every_two fitting ≡ true
all_fitting = refl

record Sunk (l k : Kind) : Type 0 where
  goes_on : steps_on l ≡ true
  high : nat_le 3 (level_of_kind k) ≡ true
  below : nat_le (level_of_kind l) (level_of_kind k) ≡ true
  heard : hears l k ≡ true

sunk : (l k : Kind) → Listed l → Listed k → leads_on l ≡ true → in_homes (side l) (homes k) ≡ true → Sunk l k
sunk l k m n g h =
    let a = implied (leads_on l && in_homes (side l) (homes k)) _ (of_two sinks all_sink l k m n) (and_both _ _ g h) in
    let b = and_right (steps_on l) _ a in
    let d = and_right (nat_le 3 (level_of_kind k)) _ b in
    record {
      goes_on = and_left (steps_on l) _ a;
      high = and_left (nat_le 3 (level_of_kind k)) _ b;
      below = and_left (nat_le (level_of_kind l) (level_of_kind k)) _ d;
      heard = and_right (nat_le (level_of_kind l) (level_of_kind k)) _ d;
    }

-- ---- rows

pub begins_grows : (ps : List Piece) {c : Nonterminal} → starts ps ≡ Some c → grows ps ≡ true
begins_grows (piece [] (Part d) ∷ ps) e = refl
begins_grows _ e = cc

begins_side : (ps : List Piece) → grows ps ≡ true → starts ps ≡ Some (side_of (starts ps))
begins_side (piece [] (Part d) ∷ ps) g = refl
begins_side _ g = cc

led_row : (ps : List Piece) → grows ps ≡ true → piece [] (Part (side_of (starts ps))) ∷ tail ps ≡ ps
led_row (piece [] (Part d) ∷ ps) g = refl
led_row _ g = cc

-- a mark that stands on the line
line_place : (x : Place) → IsTrue (is_found (forth SameLine x)) → forth SameLine x ≡ x
line_place x f = stays_on SameLine x refl f

pub mark_found : {R : Relation} {V : List Context → Surroundings} (ps : List Piece) {a y : Place} {ts : Forest} → signed (past_line ps) ≡ true → Walk R V ps a ts y → IsTrue (is_found (forth (lead (past_line ps)) a))
mark_found (piece [] (Fixed SameLine) ∷ ps) {a} h (next (sign e f) w) = subst (λ p. IsTrue (is_found (forth (lead ps) p))) (sym e ∙ line_place a (found_at e f)) (led_sign ps h w)
mark_found ps h w = led_sign ps h w

line_kept : {R : Relation} {V : List Context → Surroundings} (ps : List Piece) {a y : Place} {ts : Forest} → begins_line ps ≡ true → Walk R V ps a ts y → forth SameLine a ≡ a
line_kept (piece [] (Fixed SameLine) ∷ ps) {a} h (next (sign e f) w) = line_place a (found_at e f)
line_kept _ h w = cc

-- ---- what stands at the left, as it is seen there

-- parentheses stand wherever an expression does
pair_level : (t : Tree) → is_pair t ≡ true → level t ≡ 18
pair_level (node (expression Parenthesized) ts) h = refl
pair_level (node _ ts) h = cc
pair_level _ h = cc

pair_edge : (k : Kind) (ts : Forest) → is_pair (node k ts) ≡ true → edge k ≡ TagName
pair_edge (expression Parenthesized) ts h = refl
pair_edge _ ts h = cc

pair_clear : (r : Rung) (t : Tree) → is_pair t ≡ true → clear r t ≡ true
pair_clear (rung n) t h = refl
pair_clear callee (node (expression Parenthesized) ts) h = refl
pair_clear callee (node _ ts) h = cc
pair_clear callee _ h = cc

target_clear : (r : Rung) (t : Tree) → is_pair t ≡ true → clear r (as_target t) ≡ true
target_clear (rung n) t h = refl
target_clear callee (node (expression Parenthesized) ts) h = refl
target_clear callee (node _ ts) h = cc
target_clear callee _ h = cc

-- so no call stands at its left end there either, and the other way round
pub seen_clear : (r : Rung) (k : Kind) (t : Tree) → clear r t ≡ true → clear r (seen k t) ≡ true
seen_clear r k t c = by (is_pair t) refl
  where
    in_pair : (b : Bool) → is_pair t ≡ true → clear r (cond b (as_target t) t) ≡ true
    in_pair true e = target_clear r t e
    in_pair false e = c

    by : (b : Bool) → is_pair t ≡ b → clear r (seen k t) ≡ true
    by true e = in_pair (takes_target k) e
    by false e = subst (λ u. clear r u ≡ true) (sym (seen_plain k t e)) c

clear_seen : (r : Rung) (k : Kind) (t : Tree) → clear r (seen k t) ≡ true → clear r t ≡ true
clear_seen r k t c = by (is_pair t) refl
  where
    by : (b : Bool) → is_pair t ≡ b → clear r t ≡ true
    by true e = pair_clear r t e
    by false e = subst (λ u. clear r u ≡ true) (seen_plain k t e) c

-- what goes on begins with a part
goes : (k : Kind) → steps_on k ≡ true → grows (row_so_far k) ≡ true
goes k g = and_left (grows_on k) _ g

steps_of : (k : Kind) → marks_on k ≡ true → steps_on k ≡ true
steps_of k g = and_left (steps_on k) _ g

-- ---- a step

pub node_home : {v : Surroundings} {c : Nonterminal} {k : Kind} {x y : Place} {ts : Forest} → Staged v false c x (node k ts) y → in_homes c (homes k) ≡ true
node_home {c = c} {k = k} {ts = ts} r = kind_home c k ts (and_left (admits c (node k ts)) (fits_below c (node k ts)) r.reads.is)

side_is : (k : Kind) {c : Nonterminal} → starts (row_so_far k) ≡ Some c → side k ≡ c
side_is k e = ap side_of e

pub step_listed : {v : Surroundings} {c : Nonterminal} {x a y : Place} {t : Tree} {l : Kind} {ts : Forest} → Steps so_far v c x t a l ts y → Listed l
step_listed p = listed_node p.operand p.begins p.reads

-- no value is the first piece of a template
no_whole : {v : Surroundings} {x y : Place} {t : Tree} → Value t → Staged v false (TemplatePart NoSubstitution) x t y → ⊥
no_whole (literal IsName h) r = let bad = r.staged in cc
no_whole (literal IsNumber h) r = let bad = r.staged in cc
no_whole (literal IsLong h) r = let bad = r.staged in cc
no_whole (literal IsString h) r = let bad = r.staged in cc
no_whole (literal IsPattern h) r = let bad = r.staged in cc
no_whole (made {k} {ts} m) r = wholes.node k ts (taken_by r) (home_of r)

no_head : {v : Surroundings} {x y : Place} {t : Tree} → Value t → Staged v false (TemplatePart TemplateHead) x t y → ⊥
no_head (literal IsName h) r = let bad = r.staged in cc
no_head (literal IsNumber h) r = let bad = r.staged in cc
no_head (literal IsLong h) r = let bad = r.staged in cc
no_head (literal IsString h) r = let bad = r.staged in cc
no_head (literal IsPattern h) r = let bad = r.staged in cc
no_head (made {k} {ts} m) r = heads.node k ts (taken_by r) (home_of r)

no_quoted : {v : Surroundings} {l : Kind} {c : Nonterminal} {x y : Place} {t : Tree} → Quoted l → starts (row_so_far l) ≡ Some c → Value t → Staged v false c x (seen l t) y → ⊥
no_quoted {v} {x = x} {y} {t} undivided b w r = no_whole w (subst (λ d. Staged v false d x t y) (sym (side_is (expression (PlainTemplate false)) b)) r)
no_quoted {v} {x = x} {y} {t} divided b w r = no_head w (subst (λ d. Staged v false d x t y) (sym (side_is (expression (SubstitutedTemplate false)) b)) r)

left_whole : {v : Surroundings} {c : Nonterminal} {x y : Place} {t : Tree} (l : Kind) → Listed l → starts (row_so_far l) ≡ Some c → Value t → Staged v false c x (seen l t) y → is_template l ≡ false
left_whole l m b w r = by (is_template l) refl
  where
    by : (q : Bool) → is_template l ≡ q → is_template l ≡ false
    by false e = e
    by true e = absurd (no_quoted (quoted_kind l m e) b w r)

-- so what a value stands at the left of begins with it
pub left_leads : {v : Surroundings} {c : Nonterminal} {x y : Place} {t : Tree} (l : Kind) → Listed l → starts (row_so_far l) ≡ Some c → Value t → Staged v false c x (seen l t) y → leads_on l ≡ true
left_leads l m b w r = and_both _ _ (begins_grows (row_so_far l) b) (ap not (left_whole l m b w r))

-- and goes on with it, but for an arrow function without parentheses
left_steps : {v : Surroundings} {c : Nonterminal} {x y : Place} {t : Tree} (l : Kind) → Listed l → starts (row_so_far l) ≡ Some c → Value t → Staged v false c x (seen l t) y → is_named l ≡ false → steps_on l ≡ true
left_steps l m b w r n = and_both _ _ (begins_grows (row_so_far l) b) (and_both _ _ (ap not (left_whole l m b w r)) (ap not n))

-- the kinds of links
abbrev pub is_link : Kind → Bool
is_link (expression (NameLink q)) = true
is_link (expression (IndexLink q)) = true
is_link (expression (CallLink q)) = true
is_link k = false

pub link_kind : {v : Surroundings} {a y : Place} {ts : Forest} (k : Kind) → Staged v false ChainLink a (node k ts) y → is_link k ≡ true
link_kind k r = standing ChainLink is_link refl k (taken_by r) (home_of r)

-- a chain begins with its mark, since its first link does
optional_found : {v : Surroundings} {a y : Place} (u : Tree) → is_optional u ≡ true → Staged v false ChainLink a u y → IsTrue (is_found (forth (pun "?.") a))
optional_found (node (expression (NameLink true)) ts) h r = led_sign (row_so_far (expression (NameLink true))) refl (of_so_far.from_node (expression (NameLink true)) r).walk
optional_found (node (expression (IndexLink true)) ts) h r = led_sign (row_so_far (expression (IndexLink true))) refl (of_so_far.from_node (expression (IndexLink true)) r).walk
optional_found (node (expression (CallLink true)) ts) h r = led_sign (row_so_far (expression (CallLink true))) refl (of_so_far.from_node (expression (CallLink true)) r).walk
optional_found u h r = cc

links_found : {v : Surroundings} {a y : Place} (us : Forest) → first_of_list is_optional us ≡ true → Items Staged v OneOrMore ChainLink a us y → IsTrue (is_found (forth (pun "?.") a))
links_found us h (nil f) = cc
links_found us h (last {t = u} r e f) = optional_found u h r
links_found us h (more {t = u} n r e all) = optional_found u h r

chain_found : {v w : Surroundings} {c : Nonterminal} {x a y z : Place} {t : Tree} {ts : Forest} → Staged v false c x (node (expression Chain) (part t ts)) z → Walk Staged (around w (part t ts)) (tail (row_so_far (expression Chain))) a ts y → IsTrue (is_found (forth (pun "?.") a))
chain_found {t = t} r (next (many {ts = us} e all) (done f)) = links_found us (and_left (first_of_list is_optional us) true (of_so_far.from_node (expression Chain) r).keeps) all

-- what stands behind its first part begins with the mark of a kind
pub next_mark : {v w : Surroundings} {c : Nonterminal} {x a y z : Place} {t : Tree} {ts : Forest} (l : Kind) → Marked l → Staged v false c x (node l (part t ts)) z → Walk Staged (around w (part t ts)) (tail (row_so_far l)) a ts y → IsTrue (is_found (forth (mark l) a))
next_mark (expression Chain) f r w = chain_found r w
next_mark {a = a} l f r w = by (is_chain l) refl
  where
    by : (b : Bool) → is_chain l ≡ b → IsTrue (is_found (forth (mark l) a))
    by false e = mark_found (tail (row_so_far l)) (f.led ∙ ap not e) w
    by true e = cc

pub step_sign : {v : Surroundings} {c : Nonterminal} {x a y : Place} {t : Tree} {l : Kind} {ts : Forest} → marks_on l ≡ true → Steps so_far v c x t a l ts y → IsTrue (is_found (forth (mark l) a))
step_sign {l = l} g p = next_mark l (marked l (step_listed p) g) p.reads p.walk

-- with a mark, with the piece with which a template begins, or with the arrow behind a name
pub data Going (a : Place) (l : Kind) : Type 0 where
  by_mark : marks_on l ≡ true → Going a l
  by_piece : is_tagged l ≡ true → Quote a → Going a l
  by_arrow : is_named l ≡ true → forth SameLine a ≡ a → IsTrue (is_found (forth (pun "=>") a)) → Going a l

tagged_walk_of : {v : Surroundings} {a y : Place} {t : Tree} {ts : Forest} (l : Kind) → is_tagged l ≡ true → Walk Staged (around v (part t ts)) (tail (row_so_far l)) a ts y → Quote a
tagged_walk_of (expression Tagged) e w = tagged_walk w
tagged_walk_of _ e w = cc

arrow_found : {v : Surroundings} {a y : Place} {t : Tree} {ts : Forest} (l : Kind) → is_named l ≡ true → Walk Staged (around v (part t ts)) (tail (row_so_far l)) a ts y → IsTrue (is_found (forth (pun "=>") a))
arrow_found (expression BareArrow) e w = mark_found (tail (row_so_far (expression BareArrow))) refl w
arrow_found (expression BareArrowBlock) e w = mark_found (tail (row_so_far (expression BareArrowBlock))) refl w
arrow_found _ e w = cc

arrow_line : {v : Surroundings} {a y : Place} {t : Tree} {ts : Forest} (l : Kind) → is_named l ≡ true → Walk Staged (around v (part t ts)) (tail (row_so_far l)) a ts y → forth SameLine a ≡ a
arrow_line (expression BareArrow) e w = line_kept (tail (row_so_far (expression BareArrow))) refl w
arrow_line (expression BareArrowBlock) e w = line_kept (tail (row_so_far (expression BareArrowBlock))) refl w
arrow_line _ e w = cc

pub goes_next : {v : Surroundings} {c : Nonterminal} {x a y : Place} {t : Tree} {ts : Forest} (l : Kind) → Listed l → starts (row_so_far l) ≡ Some c → Value t → Staged v false c x (seen l t) a → Walk Staged (around v (part (seen l t) ts)) (tail (row_so_far l)) a ts y → Going a l
goes_next {v} {a = a} {t = t} {ts} l m b w r walk = by (is_named l) (is_tagged l) refl refl
  where
    by : (n q : Bool) → is_named l ≡ n → is_tagged l ≡ q → Going a l
    by true q n e = by_arrow n (arrow_line {t = seen l t} l n walk) (arrow_found {t = seen l t} l n walk)
    by false false n e = by_mark (and_both _ _ (left_steps l m b w r n) (ap not e))
    by false true n e = by_piece e (tagged_walk_of {t = seen l t} l e walk)

pub step_next : {v : Surroundings} {c : Nonterminal} {x a y : Place} {t : Tree} {l : Kind} {ts : Forest} → Value t → Steps so_far v c x t a l ts y → Going a l
step_next {l = l} w p = goes_next l (step_listed p) p.begins w p.left p.walk

step_line : {v : Surroundings} {c : Nonterminal} {x a y : Place} {t : Tree} {l : Kind} {ts : Forest} → Steps so_far v c x t a l ts y → OnLine l a
step_line {l = l} p = record { stays = λ on. line_kept (tail (row_so_far l)) on p.walk }

-- ---- what stands at the left of a step may stand where the step does

pub below_level : (n m k : ℕ) → nat_le n m ≡ true → nat_le m k ≡ true → nat_le n k ≡ true
below_level n m k a b = le-leb n k (omega (arith, leb-true n m a, leb-true m k b))

pub value_low : {v : Surroundings} (r : Rung) {d : Nonterminal} {x y : Place} {t : Tree} → is_rung r ≡ true → Value t → nat_le (least r) (level t) ≡ true → clear r t ≡ true → Staged v false d x t y → Staged v false (seat r) x t y
value_low r h (literal l {t} w) e c q = leaf_to (seat r) l (literal_seat r l t h w) (leaf_seat r (token_kind l) t w) q
value_low r h (made {k} {ts} m) e c q = node_to (seat r) (seat_admits r k ts ((at_level {r = r} h k m).home ∙ e) c) q

value_level : (r : Rung) {t : Tree} → is_rung r ≡ true → Value t → ((k : Kind) (ts : Forest) → t ≡ node k ts → Listed k → nat_le (least r) (level_of_kind k) ≡ true) → nat_le (least r) (level t) ≡ true
value_level r h (literal l w) f = least_top r h
value_level r h (made {k} {ts} m) f = f k ts refl m

left_low : {v : Surroundings} (r : Rung) {l : Kind} {c d : Nonterminal} {x y : Place} {t : Tree} → is_rung r ≡ true → Listed l → starts (row_so_far l) ≡ Some c → nat_le (least r) (level_of_kind l) ≡ true → clear r t ≡ true → Value t → Staged v false d x t y → Staged v false c x (seen l t) y → Staged v false (seat r) x t y
left_low {v} r {l} {c} {d} {x} {y} {t} h m b e i w o p = by (is_pair t) refl
  where
    -- parentheses stand anywhere; all else is seen as it is
    by : (a : Bool) → is_pair t ≡ a → Staged v false (seat r) x t y
    by true a = value_low r h w (subst (λ n. nat_le (least r) n ≡ true) (sym (pair_level t a)) (least_top r h)) i o
    by false a =
        let g = left_leads l m b w p in
        let q : Staged v false (side l) x t y = subst (λ s. Staged v false s x t y) (sym (side_is l b)) (subst (λ u. Staged v false c x u y) (seen_plain l t a) p) in
        value_low r h w (value_level r h w (λ k ts is j. below_level (least r) (level_of_kind l) (level_of_kind k) e (sunk l k m j g (node_home (subst (λ u. Staged v false (side l) x u y) is q))).below)) i o

node_level : {v : Surroundings} (r : Rung) {k : Kind} {x y : Place} {ts : Forest} → is_rung r ≡ true → Listed k → Staged v false (seat r) x (node k ts) y → nat_le (least r) (level_of_kind k) ≡ true
node_level r {k} h m q = sym (at_level {r = r} h k m).home ∙ node_home q

pub node_reaches : {v : Surroundings} (r : Rung) {k : Kind} {x y : Place} {ts : Forest} → is_rung r ≡ true → Listed k → Staged v false (seat r) x (node k ts) y → reaches r k ≡ true
node_reaches r {k} {ts = ts} h m q = level_reaches r k ts (node_level r h m q) (staged_clear r (node k ts) q)

pub low : {v : Surroundings} (r : Rung) {x : Place} {d : Nonterminal} {y z : Place} {t u : Tree} → is_rung r ≡ true → Value t → Staged v false d x t y → Onward so_far v x t y u z → Staged v false (seat r) x u z → Staged v false (seat r) x t y
low r h w' s stay q = q
low r {t = t} h w' s (step k c d {ts = ts} b i w o p on) q =
    let m = listed_node o b p in
    let up = low r h (made m) p on q in
    let left = clear_seen r k t (clear_left r k (seen k t) ts (sym (leads_as k m) ∙ left_leads k m b w' i) (staged_clear r (node k (part (seen k t) ts)) up)) in
    left_low r h m b (node_level r h m up) left w' s i

pub step_low : {v : Surroundings} (r : Rung) {x a y : Place} {t : Tree} {l : Kind} {ts : Forest} → is_rung r ≡ true → Steps so_far v (seat r) x t a l ts y → reaches r l ≡ true
step_low r h p = node_reaches r h (step_listed p) (low r h (made (step_listed p)) p.reads p.onward p.whole.reads)

-- ---- what a step's row ends with has come to its end

pub edge_on : {v : Surroundings} (r : Rung) {x y z : Place} {u : Tree} {us : Forest} (k : Kind) (m : Tree) → is_rung r ≡ true → Listed k → m ≡ node k us → Onward so_far v x m y u z → Whole so_far v false (seat r) x u z → ends_so_far (edge k) y ≡ true
edge_on {v} r {x} {y} k m h j e stay w = of_so_far.covered (seat r) (edge k) y ((at_level {r = r} h k j).covered (node_reaches r h j (subst (λ p. Staged v false (seat r) x p y) e w.reads))) w.ends_there
edge_on {v} s {x} {y} {us = us} k m h j e (step l c d b i r o q on) w = by (is_pair m) refl
  where
    heard_on : {w : Surroundings} {e : Nonterminal} {p z : Place} {t : Tree} {ts : Forest} (b : Bool) → is_tagged l ≡ b → Listed l → steps_on l ≡ true → Staged v false e x (node l (part t ts)) p → Walk Staged (around w (part t ts)) (tail (row_so_far l)) y ts z → cond b (is_never (edge k)) (heeds (edge k) (mark l)) ≡ true → stops (edge k) y ≡ true
    heard_on true e m g q w h = never_stops (edge k) y h
    heard_on false e m g q w h = sign_stops (edge k) (mark l) y h (next_mark l (marked l m (and_both _ _ g (ap not e))) q w)

    -- behind parentheses anything may stand
    by : (a : Bool) → is_pair m ≡ a → ends_so_far (edge k) y ≡ true
    by true a = of_so_far.ends_there (edge k) y (never_stops (edge k) y (subst (λ n. is_never n ≡ true) (sym (pair_edge k us (subst (λ u. is_pair u ≡ true) e a))) refl))
    by false a =
        let n' = listed_node o b q in
        let g = left_leads l n' b (subst Value (sym e) (made j)) i in
        let home : in_homes (side l) (homes k) ≡ true = node_home (subst (λ p. Staged v false (side l) x p y) (seen_plain l m a ∙ e) (subst (λ s. Staged v false s x (seen l m) y) (sym (side_is l b)) i)) in
        let h = sunk l k n' j g home in
        of_so_far.ends_there (edge k) y (heard_on (is_tagged l) refl n' h.goes_on q r h.heard)

pub step_ends : {v : Surroundings} (r : Rung) {x a y : Place} {t : Tree} {k : Kind} {ts : Forest} → is_rung r ≡ true → steps_on k ≡ true → Steps so_far v (seat r) x t a k ts y → Walk (Whole so_far) (steady v) (tail (row_so_far k)) a ts y
step_ends {v} r {t = t} {k} {ts} h g p =
    let m = step_listed p in
    let f = formed k m g in
    moved (λ a i. free_around a (part (seen k t) ts) v i) f.freed (whole_walk of_so_far (edge k) (tail (row_so_far k)) f.closed (edge_on r k (node k (part (seen k t) ts)) h m refl p.onward p.whole) p.walk)

-- ---- the token that comes next

-- a mark and a piece don't stand at one place
mark_piece : (k : Kind) → Listed k → marks_on k ≡ true → (a : Place) → IsTrue (is_found (forth (mark k) a)) → Quote a → ⊥
mark_piece k m g a f q = let k' = marked k m g in sign_piece (mark k) a k'.coded k'.unquoted f q

-- nor do a mark and an arrow
pub mark_arrow : (k : Kind) → Listed k → marks_on k ≡ true → (a : Place) → IsTrue (is_found (forth (mark k) a)) → IsTrue (is_found (forth (pun "=>") a)) → ⊥
mark_arrow k m g a f q = clash (same_sign (mark k) (pun "=>")) (one_sign (mark k) (pun "=>") a (marked k m g).coded refl f q) (is_not _ (implied (marks_on k) _ (of_each arrowless all_arrowless k m) g))

pub step_kind : {v : Surroundings} {c : Nonterminal} {x a y : Place} {t : Tree} {k l : Kind} {ts : Forest} → Listed k → marks_on k ≡ true → IsTrue (is_found (forth (mark k) a)) → Value t → Steps so_far v c x t a l ts y → l ≡ k
step_kind {a = a} {k = k} {l = l} m g f w p = by (step_next w p)
  where
    by : Going a l → l ≡ k
    by (by_mark h) = let n = step_listed p in one_place l k n m (implied (same_sign (mark l) (mark k)) _ (implied (marks_on l && marks_on k) _ (of_two apart all_apart l k n m) (and_both _ _ h g)) (one_sign (mark l) (mark k) a (marked l n h).coded (marked k m g).coded (step_sign h p) f))
    by (by_piece h q) = absurd (mark_piece k m g a f q)
    by (by_arrow h o q) = absurd (mark_arrow k m g a f q)

pub mark_is_one : (k : Kind) → Listed k → marks_on k ≡ true → (x : Lexeme) → is_sign x (mark k) ≡ true → is_mark x marks ≡ true
mark_is_one k m g x e = mark_by (mark k) marks (marked k m g).listed_mark x e

and_false : (b : Bool) → (b && false) ≡ false
and_false true = refl
and_false false = refl

or_false : (b : Bool) → (b || false) ≡ b
or_false true = refl
or_false false = refl

unquoted : (n : ℕ) (x : Lexeme) → is_quoted x ≡ false → goes_by_quote n x ≡ false
unquoted n x e = (λ i. quotes n && (is_backquote x.raw && e i)) ∙ ((λ i. quotes n && and_false (is_backquote x.raw) i) ∙ and_false (quotes n))

and_true : (b : Bool) → (b && true) ≡ b
and_true true = refl
and_true false = refl

-- a mark that comes next goes on as its level says
no_break : (k : Kind) (q : Text) (e : Ending) (text : Text) → OnLine k (At q e text) → (on_line k && breaks text) ≡ false
no_break k q e text o = by_line (on_line k) refl
  where
    by_line : (b : Bool) → on_line k ≡ b → (b && breaks text) ≡ false
    by_line false i = refl
    by_line true i = kept (breaks text) (o.stays i)
      where
        kept : (b : Bool) → go_if (not b) (At q e text) ≡ At q e text → b ≡ false
        kept true f = let bad : false ≡ true = ap is_found f in cc
        kept false f = refl

pub mark_goes : (r : Rung) (k : Kind) (a : Place) → is_rung r ≡ true → Listed k → marks_on k ≡ true → settled a ≡ true → OnLine k a → IsTrue (is_found (forth (mark k) a)) → ends_so_far (seat r) a ≡ not (reaches r k)
mark_goes r k Lost h m g s o f = cc
mark_goes r k (At q AfterExpr text) h m g s o f =
    let i = seen_sign (mark k) q AfterExpr text (mark_is_code k m g) f in
    let raw = mark_among r k h m g (breaks text) (token Operator (same q []) text) i ∙ ((λ j. reaches r k && not (no_break k q AfterExpr text o j)) ∙ and_true (reaches r k)) in
    let none = sign_unquoted (mark k) (token Operator (same q []) text) (marked k m g).unquoted i in
    let there : is_mark (token Operator (same q []) text) goers ≡ true = or_right (is_sign (token Operator (same q []) text) (pun ",")) _ (or_right (is_sign (token Operator (same q []) text) (pun "=>")) _ (mark_is_one k m g (token Operator (same q []) text) i)) in
    ap (λ l. not (goes_on_so_far l AfterExpr (breaks text) (token Operator false text))) (seat_asks r)
    ∙ (ap (λ b. not (goes_by_mark (asked r) (breaks text) (token Operator b text) || goes_by_quote (asked r) (token Operator b text))) (sym (is_not (same q []) s))
    ∙ ((λ j. not ((raw j && there j) || unquoted (asked r) (token Operator (same q []) text) none j)) ∙ ((λ j. not (or_false (reaches r k && true) j)) ∙ ap not (and_true _))))
mark_goes r k (At q _ text) h m g s o f = cc

-- and so does the arrow of a function without parentheses that may stand there
arrow_level : (r : Rung) (l : Kind) → is_rung r ≡ true → is_named l ≡ true → reaches r l ≡ true → among (codes "=>") (going (asked r)) ≡ true
arrow_level (rung n) (expression BareArrow) h e i = implied (nat_le n 1) _ (of_level (λ m. implies (nat_le m 1) (among (codes "=>") (going m))) refl {n = n} h) i
arrow_level (rung n) (expression BareArrowBlock) h e i = implied (nat_le n 1) _ (of_level (λ m. implies (nat_le m 1) (among (codes "=>") (going m))) refl {n = n} h) i
arrow_level callee (expression BareArrow) h e i = cc
arrow_level callee (expression BareArrowBlock) h e i = cc
arrow_level r _ h e i = cc

single_level : (r : Rung) → is_rung r ≡ true → nat_eq (asked r) 0 ≡ false
single_level (rung n) h = is_not _ (of_level (λ m. not (nat_eq m 0)) refl {n = n} h)
single_level callee h = refl

pub arrow_goes : (r : Rung) (a : Place) → settled a ≡ true → among (codes "=>") (going (asked r)) ≡ true → IsTrue (is_found (forth (pun "=>") a)) → ends_so_far (seat r) a ≡ false
arrow_goes r Lost s g f = cc
arrow_goes r (At q AfterExpr text) s g f =
    let x = token Operator (same q []) text in
    let i = seen_sign (pun "=>") q AfterExpr text refl f in
    let raw : among x.raw (going (asked r)) ≡ true = by_sign (λ t. among t (going (asked r))) (pun "=>") x g i in
    let there : is_mark x goers ≡ true = or_right (is_sign x (pun ",")) _ (ap (λ b. b || is_mark x marks) i) in
    ap (λ l. not (goes_on_so_far l AfterExpr (breaks text) (token Operator false text))) (seat_asks r)
    ∙ (ap (λ b. not (goes_by_mark (asked r) (breaks text) (token Operator b text) || goes_by_quote (asked r) (token Operator b text))) (sym (is_not (same q []) s))
    ∙ (λ j. not (((raw j || (nat_le (asked r) 16 && (not (breaks text) && among x.raw steps))) && there j) || goes_by_quote (asked r) x)))
arrow_goes r (At q _ text) s g f = cc

-- ---- what the parser's loop says

-- neither a mark comes next that goes on there nor a piece
pub stays : {v : Surroundings} (r : Rung) {x a : Place} {t : Tree} → is_rung r ≡ true → Value t → settled a ≡ true → ends_so_far (seat r) a ≡ true → Stays so_far v (seat r) x t a
stays {v} r {x} {a} {t} h w s e = record {
  none_on = λ l ts y p. none (step_next w p) p;
}
  where
    none : {l : Kind} {ts : Forest} {y : Place} → Going a l → Steps so_far v (seat r) x t a l ts y → ⊥
    none {l} (by_mark g) p = let b : ends_so_far (seat r) a ≡ not (reaches r l) = mark_goes r l a h (step_listed p) g s (step_line p) (step_sign g p) in clash (reaches r l) (step_low r h p) (is_not _ (sym b ∙ e))
    none (by_piece g q) p = clash (ends_so_far (seat r) a) e (quote_goes r a h s q)
    none {l} (by_arrow g o q) p = clash (ends_so_far (seat r) a) e (arrow_goes r a s (arrow_level r l h g (step_low r h p)) q)

pub climb_only : {v : Surroundings} (r : Rung) {x a : Place} {t : Tree} → is_rung r ≡ true → Climbs v r x t a → ends_so_far (seat r) a ≡ true → Only so_far v (Part (seat r)) x (one t) a
climb_only r {t = t} h c e = grown_only c.follows (stays r h (value t (rung_single r h) c.reads) c.ended e) c.reads e

-- a mark that comes next and goes on there decides
pub decides : {v : Surroundings} (r : Rung) {x a : Place} {t : Tree} {k : Kind} → is_rung r ≡ true → Climbs v r x t a → Listed k → marks_on k ≡ true → reaches r k ≡ true → OnLine k a → IsTrue (is_found (forth (mark k) a)) → Decides so_far v (seat r) x t a k (tail (row_so_far k))
decides r {a = a} {t} {k} h c m g e o f =
    let w = value t (rung_single r h) c.reads in
    record {
      goes = λ i. clash (ends_so_far (seat r) a) i (mark_goes r k a h m g c.ended o f ∙ ap not e);
      kind = λ l ts y p. step_kind m g f w p;
      ends = λ ts y p. step_ends r h (steps_of k g) p;
    }

-- and so does a piece
decides_tagged : {v : Surroundings} (r : Rung) {x a : Place} {t : Tree} → is_rung r ≡ true → Climbs v r x t a → Quote a → Decides so_far v (seat r) x t a (expression Tagged) (tail (row_so_far (expression Tagged)))
decides_tagged {v} r {x} {a} {t} h c q = record {
  goes = λ i. clash (ends_so_far (seat r) a) i (quote_goes r a h c.ended q);
  kind = λ l ts y p. by (step_next w p) p;
  ends = λ ts y p. step_ends r h refl p;
}
  where
    w : Value t
    w = value t (rung_single r h) c.reads

    by : {l : Kind} {ts : Forest} {y : Place} → Going a l → Steps so_far v (seat r) x t a l ts y → l ≡ expression Tagged
    by {l} (by_mark g) p = absurd (mark_piece l (step_listed p) g a (step_sign g p) q)
    by {l} (by_piece g n) p = tagged_kind l g
    by {l} (by_arrow g o f) p = absurd (sign_piece (pun "=>") a refl refl f q)

-- what fits stands at the left of the kind; what doesn't, doesn't
side_admits : (c : Nonterminal) (l : Kind) (ts : Forest) → is_side c ≡ true → in_homes c (homes l) ≡ true → admits c (node l ts) ≡ true
side_admits (Expr n) l ts h i = i
side_admits NullishLeft l ts h i = i
side_admits MemberObject l ts h i = i
side_admits DotObject l ts h i = i
side_admits SimpleTarget l ts h i = i
side_admits (Pat Assigns) l ts h i = i
side_admits _ l ts h i = cc

side_word : (c : Nonterminal) (t : Text) → is_side c ≡ true → is_left c ≡ false → is_value_word t ≡ true → leaf_in c IdentifierName t ≡ true
side_word (Expr n) t h l w = and_both _ _ (and_left (nat_le n 18) _ h) w
side_word NullishLeft t h l w = w
side_word MemberObject t h l w = w
side_word DotObject t h l w = w
side_word SimpleTarget t h l w = cc
side_word (Pat Assigns) t h l w = cc
side_word _ t h l w = cc

side_leaf : (c : Nonterminal) (k : TokenKind) (t : Text) → is_side c ≡ true → is_left c ≡ false → leaf_at c k t ≡ value_leaf k t
side_leaf (Expr n) k t h l = refl
side_leaf NullishLeft k t h l = refl
side_leaf MemberObject k t h l = refl
side_leaf DotObject k t h l = refl
side_leaf SimpleTarget k t h l = cc
side_leaf (Pat Assigns) k t h l = cc
side_leaf _ k t h l = cc

by_fits : (k : Kind) (t : Tree) (b c : Bool) → takes_target k ≡ b → fits k t ≡ c → cond b (is_target t) (fits_by k (level t)) ≡ c
by_fits k t b c e f = subst (λ d. cond d (is_target t) (fits_by k (level t)) ≡ c) e f

literal_side : {v : Surroundings} {d : Nonterminal} {x y : Place} {t : Text} (k : Kind) (l : Literal) → Formed k → Fitting k → value_leaf (token_kind l) t ≡ true → Staged v false d x (leaf (token_kind l) t) y → Staged v false (side k) x (leaf (token_kind l) t) y
literal_side {t = t} k IsName fm fi w r = leaf_to (side k) IsName (side_word (side k) t fm.sided fi.beside w) (side_leaf (side k) IdentifierName t fm.sided fi.beside ∙ w) r
literal_side {t = t} k IsLong fm fi w r = leaf_to (side k) IsLong fi.longs (side_leaf (side k) BigIntLiteral t fm.sided fi.beside) r
literal_side {t = t} k IsString fm fi w r = leaf_to (side k) IsString fi.strings (side_leaf (side k) StringLiteral t fm.sided fi.beside) r
literal_side {t = t} k IsPattern fm fi w r = leaf_to (side k) IsPattern fi.patterns (side_leaf (side k) RegExpLiteral t fm.sided fi.beside) r
literal_side {t = t} k IsNumber fm fi w r = leaf_to (side k) IsNumber fi.numbers (side_leaf (side k) NumericLiteral t fm.sided fi.beside) r

-- an expression that may be assigned to is a target there
aim_side : {v : Surroundings} {d : Nonterminal} {x y : Place} {t : Tree} (k : Kind) → takes_target k ≡ true → is_left (side k) ≡ true → is_target t ≡ true → Staged v false d x t y → Staged v false (side k) x (seen k t) y
aim_side {v} {x = x} {y} {t} k e s h r = subst (λ b. Staged v false (side k) x (cond b (as_target t) t) y) (sym e) (at (side k) s)
  where
    at : (c : Nonterminal) → is_left c ≡ true → Staged v false c x (as_target t) y
    at SimpleTarget l = staged_target left_simple refl (aim_of t h) r
    at (Pat Assigns) l = staged_target left_pattern refl (aim_of t h) r
    at _ l = cc

plain_side : {v : Surroundings} {d : Nonterminal} {x y : Place} {t : Tree} (k : Kind) → Listed k → steps_on k ≡ true → Formed k → Fitting k → takes_target k ≡ false → Value t → fits_by k (level t) ≡ true → Staged v false d x t y → Staged v false (side k) x t y
plain_side k m g fm fi e (literal l {t} w) f r = literal_side k l fm fi w r
plain_side k m g fm fi e (made {k = l} {ts} j) f r =
    node_to (side k) (side_admits (side k) l ts fm.sided (sym (agreed (cond (takes_target k) (is_target_kind l) (fits_by k (level_of_kind l))) (in_homes (side k) (homes l)) (implied (steps_on k) _ (of_two fitting all_fitting k l m j) g)) ∙ (ap (λ b. cond b (is_target_kind l) (fits_by k (level_of_kind l))) e ∙ f))) r

value_side : {v : Surroundings} {d : Nonterminal} {x y : Place} {t : Tree} (k : Kind) → Listed k → steps_on k ≡ true → Value t → fits k t ≡ true → Staged v false d x t y → Staged v false (side k) x (seen k t) y
value_side {v} {x = x} {y} {t} k m g w f r = let fm = formed k m g in at fm fm.leaves
  where
    at : Formed k → Leaves k → Staged v false (side k) x (seen k t) y
    at fm (assigned e s) = aim_side k e s (by_fits k t true true e f) r
    at fm (fitting_in e fi) = subst (λ b. Staged v false (side k) x (cond b (as_target t) t) y) (sym e) (plain_side k m g fm fi e w (by_fits k t false true e f) r)

plain_unfit : {v : Surroundings} {x y : Place} {t : Tree} (k : Kind) → Listed k → steps_on k ≡ true → Fitting k → takes_target k ≡ false → Value t → fits_by k (level t) ≡ false → Staged v false (side k) x t y → ⊥
plain_unfit k m g fi e (literal l {t} w) f r = clash _ fi.leaves f
plain_unfit k m g fi e (made {k = l} {ts} j) f r =
    clash _ (agreed (cond (takes_target k) (is_target_kind l) (fits_by k (level_of_kind l))) (in_homes (side k) (homes l)) (implied (steps_on k) _ (of_two fitting all_fitting k l m j) g) ∙ node_home r) (ap (λ b. cond b (is_target_kind l) (fits_by k (level_of_kind l))) e ∙ f)

pub value_unfit : {v : Surroundings} {d : Nonterminal} {x y : Place} {t : Tree} (k : Kind) → Listed k → steps_on k ≡ true → Value t → fits k t ≡ false → Staged v false d x t y → Staged v false (side k) x (seen k t) y → ⊥
value_unfit {v} {d = d} {x = x} {y} {t} k m g w f o r = at (formed k m g).leaves
  where
    at : Leaves k → ⊥
    at (assigned e s) = clash (is_target t) (aim_is (aim_back d t (calm_of w) o.reads.is (target_reads (side k) s (as_target t) (open_value t w (is_pair t) refl) (subst (λ b. Staged v false (side k) x (cond b (as_target t) t) y) e r)))) (by_fits k t true false e f)
    at (fitting_in e fi) = plain_unfit k m g fi e w (by_fits k t false false e f) (subst (λ b. Staged v false (side k) x (cond b (as_target t) t) y) e r)

whole_row : {v : Surroundings} {x a y : Place} {t : Tree} {ts : Forest} (k : Kind) → Formed k → steps_on k ≡ true → Staged v false (side k) x t a → Walk (Whole so_far) (steady v) (tail (row_so_far k)) a ts y → Walk Staged (around v (part t ts)) (row_so_far k) x (part t ts) y
whole_row {v} {x} {y = y} {t} {ts} k fm g s w = subst (λ ps. Walk Staged (around v (part t ts)) ps x (part t ts) y) (led_row (row_so_far k) (goes k g)) (next (tree s) (loosen (moved (λ a h. sym (free_around a (part t ts) v h)) fm.freed w)))

grammar_row : {v : Surroundings} {x a y : Place} {t : Tree} {ts : Forest} (k : Kind) → Formed k → steps_on k ≡ true → Staged v false (side k) x t a → Walk (Whole so_far) (steady v) (tail (row_so_far k)) a ts y → has_plain_params (part t ts) ≡ true
grammar_row {v} {x} {y = y} {t} {ts} k fm g s w = plain (row_so_far k) fm.bare (subst (λ ps. Walk IsRead (around v (part t ts)) ps x (part t ts) y) (led_row (row_so_far k) (goes k g)) (next (tree s.reads) (to_grammar of_so_far (moved (λ a h. sym (free_around a (part t ts) v h)) fm.freed w))))

-- a link that begins with `?.`
unlike_mark : (s : Sign) (a : Place) → is_code s ≡ true → same_sign s (pun "?.") ≡ false → IsTrue (is_found (forth s a)) → IsTrue (is_found (forth (pun "?.") a)) → ⊥
unlike_mark s a c n f g = clash _ (one_sign s (pun "?.") a c refl f g) n

optional_by : {v : Surroundings} {a y : Place} (k : Kind) (ts : Forest) → is_link k ≡ true → Staged v false ChainLink a (node k ts) y → IsTrue (is_found (forth (pun "?.") a)) → is_optional (node k ts) ≡ true
optional_by (expression (NameLink true)) ts h r g = refl
optional_by (expression (IndexLink true)) ts h r g = refl
optional_by (expression (CallLink true)) ts h r g = refl
optional_by {a = a} (expression (NameLink false)) ts h r g = absurd (unlike_mark (pun ".") a refl refl (led_sign (row_so_far (expression (NameLink false))) refl (of_so_far.from_node (expression (NameLink false)) r).walk) g)
optional_by {a = a} (expression (IndexLink false)) ts h r g = absurd (unlike_mark (pun "[") a refl refl (led_sign (row_so_far (expression (IndexLink false))) refl (of_so_far.from_node (expression (IndexLink false)) r).walk) g)
optional_by {a = a} (expression (CallLink false)) ts h r g = absurd (unlike_mark (pun "(") a refl refl (led_sign (row_so_far (expression (CallLink false))) refl (of_so_far.from_node (expression (CallLink false)) r).walk) g)
optional_by _ ts h r g = cc

optional_there : {v : Surroundings} {a y : Place} (u : Tree) → Staged v false ChainLink a u y → IsTrue (is_found (forth (pun "?.") a)) → is_optional u ≡ true
optional_there (node k ts) r g = optional_by k ts (link_kind k r) r g
optional_there (leaf k t) r g = let bad = r.staged in cc
optional_there (list ts) r g = absurd (no_list r)

-- the links of a chain begin with one behind `?.` where such a mark stands
first_optional : {v : Surroundings} {a y : Place} (us : Forest) → enough OneOrMore us ≡ true → Items (Whole so_far) v OneOrMore ChainLink a us y → IsTrue (is_found (forth (pun "?.") a)) → first_of_list is_optional us ≡ true
first_optional us n (nil f) g = cc
first_optional us n (last {t = u} r e f) g = optional_there u r.reads g
first_optional us n (more {t = u} m r e all) g = optional_there u r.reads g

chain_keeps : {w : Surroundings} {a y : Place} {ts : Forest} (v : Surroundings) (t : Tree) → Walk (Whole so_far) (steady w) (tail (row_so_far (expression Chain))) a ts y → IsTrue (is_found (forth (pun "?.") a)) → so_far.keeps (expression Chain) v (part t ts) ≡ true
chain_keeps v t (next (many {ts = us} e all) (done f)) g = and_both _ _ (first_optional us e all g) refl

keeps : {v : Surroundings} {x a y : Place} {t : Tree} {ts : Forest} (k : Kind) → Formed k → steps_on k ≡ true → (is_chain k ≡ true → IsTrue (is_found (forth (mark k) a))) → Staged v false (side k) x t a → Walk (Whole so_far) (steady v) (tail (row_so_far k)) a ts y → so_far.keeps k v (part t ts) ≡ true
keeps {v} {t = t} (expression Chain) fm g f s w = chain_keeps v t w (f refl)
keeps {v} {t = t} {ts} k fm g f s w = by (is_chain k) refl
  where
    by : (b : Bool) → is_chain k ≡ b → so_far.keeps k v (part t ts) ≡ true
    by false e = and_both _ _ fm.taken (plain_kind k (part t ts) v (fm.unruled ∙ e) fm.taken fm.stood (grammar_row k fm g s w))
    by true e = cc

-- what goes on with a tree may stand where the tree does
grown_admits : (r : Rung) (t : Tree) (k : Kind) → is_rung r ≡ true → Listed k → reaches r k ≡ true → clear r t ≡ true → (ts : Forest) → admits (seat r) (node k (part (seen k t) ts)) ≡ true
grown_admits r t k h m e i ts = seat_admits r k (part (seen k t) ts) ((at_level {r = r} h k m).home ∙ reaches_level r k e) (clear_node r k (seen k t) ts e (seen_clear r k t i))

joins : (r : Rung) {v : Surroundings} {x a : Place} {t : Tree} {k : Kind} → is_rung r ≡ true → Listed k → steps_on k ≡ true → reaches r k ≡ true → (is_chain k ≡ true → IsTrue (is_found (forth (mark k) a))) → Staged v false (side k) x (seen k t) a → Joins so_far v x t a k (tail (row_so_far k))
joins r {v} {x} {a} {t} {k} h m g e f s =
    let fm = formed k m g in
    record {
      side = side k;
      begins = begins_side (row_so_far k) (goes k g);
      left = s;
      frees = λ ts y w. moved (λ b i. sym (free_around b (part (seen k t) ts) v i)) fm.freed w;
      home = Expr (least r);
      operand = refl;
      at_home = λ ts. least_home r k ((at_level {r = r} h k m).home ∙ reaches_level r k e);
      keeps = λ ts y w. keeps k fm g f s w;
    }

-- what stands behind the sign with which a row begins, with that sign
pub signed_built : {v : Surroundings} {k : Kind} {before : Forest → Forest} {w : Tree} {a b y : Place} (ps : List Piece) → signed ps ≡ true → Moves (lead ps) a b → Built so_far v (tail ps) k before w b y → Built so_far v ps k before w a y
signed_built {v} {k} {before} {w} {a} {y = y} ps l m b = subst (λ qs. Built so_far v qs k before w a y) (lead_row ps l) (record { parts = b.parts; is = b.is; row = then' (only_sign m) b.row })

pub signed_node : {v : Surroundings} {k : Kind} {w : Tree} {a b y : Place} (ps : List Piece) → signed ps ≡ true → Moves (lead ps) a b → BuiltNode so_far v (tail ps) k w b y → BuiltNode so_far v ps k w a y
signed_node {v} {k} {w} {a} {y = y} ps l m b = subst (λ qs. BuiltNode so_far v qs k w a y) (lead_row ps l) (record { parts = b.parts; is = b.is; row = then' (only_sign m) b.row; keeps = b.keeps })

pub signed_no_node : {v : Surroundings} {k : Kind} {a b : Place} {o : Fault} (ps : List Piece) → signed ps ≡ true → Moves (lead ps) a b → NoNode so_far v (tail ps) k b o → NoNode so_far v ps k a o
signed_no_node {v} {k} {a} {b} {o = o} ps l m n = subst (λ qs. NoNode so_far v qs k a o) (lead_row ps l) (record { no = at })
  where
    at : (us : Forest) (w : Place) → Walk (Whole so_far) (steady v) (piece (front_of ps) (Fixed (lead ps)) ∷ tail ps) a us w → so_far.keeps k v us ≡ true → Shallow o (deepest us) → ⊥
    at us w (next (sign e f) walk) h s = n.no us w (subst (λ p. Walk (Whole so_far) (steady v) (tail ps) p us w) (sym e ∙ sym m.is) walk) h s

pub signed_none : {v : Surroundings} {a b : Place} {e : Fault} (ps : List Piece) → signed ps ≡ true → Moves (lead ps) a b → NoRow so_far v (tail ps) b e → NoRow so_far v ps a e
signed_none {v} {a} {e = e} ps l m n = subst (λ qs. NoRow so_far v qs a e) (lead_row ps l) (on (only_sign m) n)

-- the same of a mark, which may have to stand on the line
signed_row : {v : Surroundings} {a b y : Place} {us : Forest} (ps : List Piece) → signed ps ≡ true → Moves (lead ps) a b → OnlyRow so_far v (tail ps) b us y → OnlyRow so_far v ps a us y
signed_row {v} {a} {y = y} {us} ps l m r = subst (λ qs. OnlyRow so_far v qs a us y) (lead_row ps l) (then' (only_sign m) r)

marked_row : {v : Surroundings} {a b y : Place} {us : Forest} (ps : List Piece) → signed (past_line ps) ≡ true → (begins_line ps ≡ true → forth SameLine a ≡ a) → Moves (lead (past_line ps)) a b → OnlyRow so_far v (tail (past_line ps)) b us y → OnlyRow so_far v ps a us y
marked_row {a = a} (piece [] (Fixed SameLine) ∷ ps) l o m r = then' (only_sign (record { is = sym (o refl); found = found_first (lead ps ∷ []) a (found_at (sym m.is) m.found) })) (signed_row ps l m r)
marked_row ps l o m r = signed_row ps l m r

marked_none : {v : Surroundings} {a b : Place} {e : Fault} (ps : List Piece) → signed (past_line ps) ≡ true → (begins_line ps ≡ true → forth SameLine a ≡ a) → Moves (lead (past_line ps)) a b → NoRow so_far v (tail (past_line ps)) b e → NoRow so_far v ps a e
marked_none {a = a} (piece [] (Fixed SameLine) ∷ ps) l o m n = on (only_sign (record { is = sym (o refl); found = found_first (lead ps ∷ []) a (found_at (sym m.is) m.found) })) (signed_none ps l m n)
marked_none ps l o m n = signed_none ps l m n

-- what is read behind a mark goes on by its kind
pub grown_by : {v : Surroundings} {k : Kind} {b y : Place} {t w : Tree} → signed (past_line (tail (row_so_far k))) ≡ true → Built so_far v (behind k) k (part (seen k t)) w b y → Grown v k t b w y
grown_by {k = k} l built = record {
  parts = built.parts;
  is = built.is;
  walk = λ a o m. (marked_row (tail (row_so_far k)) l o.stays m built.row).walk;
  alone = λ a o m us z w e. (marked_row (tail (row_so_far k)) l o.stays m built.row).alone us z w;
}

pub not_grown_by : {v : Surroundings} {k : Kind} {b : Place} {d : Fault} → signed (past_line (tail (row_so_far k))) ≡ true → NoRow so_far v (behind k) b d → NotGrown v k b d
not_grown_by {k = k} l n = record { no = λ a o m us z w e s. (marked_none (tail (row_so_far k)) l o.stays m n).no us z w s }

-- the same of what a token goes on by
growth_signed : (g : Growth) → is_chain (growth_kind g) ≡ false → signed (past_line (tail (row_so_far (growth_kind g)))) ≡ true
growth_signed g n = (marked (growth_kind g) (growth_listed g) (growth_marks g)).led ∙ ap not n

pub grown_as : {v : Surroundings} {b y : Place} {t w : Tree} (g h : Growth) → g ≡ h → Grown v (growth_kind h) t b w y → Grown v (growth_kind g) t b w y
grown_as {v} {b} {y} {t} {w} g h e n = subst (λ j. Grown v (growth_kind j) t b w y) (sym e) n

pub not_grown_as : {v : Surroundings} {b : Place} {o : Fault} (g h : Growth) → g ≡ h → NotGrown v (growth_kind h) b o → NotGrown v (growth_kind g) b o
not_grown_as {v} {b} {o = o} g h e n = subst (λ j. NotGrown v (growth_kind j) b o) (sym e) n

pub as_grown : {v : Surroundings} {b y : Place} {t w : Tree} (g h : Growth) → g ≡ h → is_chain (growth_kind h) ≡ false → Built so_far v (behind (growth_kind h)) (growth_kind h) (part (seen (growth_kind h) t)) w b y → Grown v (growth_kind g) t b w y
as_grown g h e n built = grown_as g h e (grown_by (growth_signed h n) built)

pub as_not_grown : {v : Surroundings} {b : Place} {o : Fault} (g h : Growth) → g ≡ h → is_chain (growth_kind h) ≡ false → NoRow so_far v (behind (growth_kind h)) b o → NotGrown v (growth_kind g) b o
as_not_grown g h e n m = not_grown_as g h e (not_grown_by (growth_signed h n) m)

-- ---- where a step has ended that no other goes on with

lost_by : (x : Place) → (IsTrue (is_found x) → ⊥) → x ≡ Lost
lost_by Lost n = refl
lost_by (At q e text) n = absurd (n refl)

-- what goes on with members and calls doesn't stand where an expression of their level has ended
none_there : (y : Place) (k : Kind) → Listed k → marks_on k ≡ true → on_line k ≡ false → reaches (rung 17) k ≡ true → settled y ≡ true → ends_so_far (Expr 17) y ≡ true → forth (mark k) y ≡ Lost
none_there y k m g n e s h = lost_by (forth (mark k) y) (λ f. clash (ends_so_far (Expr 17) y) h (mark_goes (rung 17) k y refl m g s (record { stays = λ o. absurd (clash (on_line k) o n) }) f ∙ ap not e))

chain_ended : (y : Place) → settled y ≡ true → ends_so_far (Expr 17) y ≡ true → (s : Linking) → forth (link_sign s) y ≡ Lost
chain_ended y s h linking.Optional = none_there y (expression Chain) (listed (expression Chain) refl refl refl) refl refl refl s h
chain_ended y s h linking.Name = none_there y (expression Member) (listed (expression Member) refl refl refl) refl refl refl s h
chain_ended y s h linking.Index = none_there y (expression Index) (listed (expression Index) refl refl refl) refl refl refl s h
chain_ended y s h linking.Call = none_there y (expression Call) (listed (expression Call) refl refl refl) refl refl refl s h

chain_edge : (k : Kind) → is_chain k ≡ true → edge k ≡ Expr 17
chain_edge (expression Chain) h = refl
chain_edge k h = cc

step_ended : {v : Surroundings} (r : Rung) {x a y : Place} {t : Tree} {k : Kind} {ts : Forest} → is_rung r ≡ true → Steps so_far v (seat r) x t a k ts y → Ended k y
step_ended r {y = y} {t} {k} {ts} h p = record {
  unlinked = λ c s. record { none = chain_ended y s (subst (λ d. ends_so_far d y ≡ true) (chain_edge k c) (edge_on r k (node k (part (seen k t) ts)) h (step_listed p) refl p.onward p.whole)) };
}

-- whatever is read there begins with the tree, which may stand there
pub record Climbed (v : Surroundings) (r : Rung) (x : Place) (t : Tree) (a : Place) : Type 0 where
  pub follows : Follows so_far v (seat r) x t a
  pub reads : Staged v false (seat r) x t a

-- the step is read
climbed : {v : Surroundings} (r : Rung) {x a y : Place} {t w : Tree} {us : Forest} (k : Kind) → is_rung r ≡ true → Listed k → steps_on k ≡ true → Climbs v r x t a → Decides so_far v (seat r) x t a k (tail (row_so_far k)) → reaches r k ≡ true → fits k t ≡ true → (is_chain k ≡ true → IsTrue (is_found (forth (mark k) a)))
    → w ≡ node k (part (seen k t) us) → Walk (Whole so_far) (steady v) (tail (row_so_far k)) a us y → ((ts : Forest) (z : Place) → Walk (Whole so_far) (steady v) (tail (row_so_far k)) a ts z → Ended k z → (us ≡ ts) × (y ≡ z)) → Climbed v r x w y
climbed {v} r {x} {a} {y} {t} {w} {us} k h m g c d e i f is walk alone =
    let fm = formed k m g in
    let left = value_side k m g (value t (rung_single r h) c.reads) i c.reads in
    let j = staged_clear r t c.reads in
    record {
      follows = grown_follows of_so_far c.follows d (joins r h m g e f left) is walk (λ ts z p. alone ts z (d.ends ts z p) (step_ended r h p));
      reads = subst (λ u. Staged v false (seat r) x u y) (sym is) (of_so_far.to_node k (grown_admits r t k h m e j us) (record { walk = whole_row k fm g left walk; keeps = keeps k fm g f left walk }));
    }

pub climb_step : {v : Surroundings} {r : Rung} {x y : Place} {w : Tree} → Climbed v r x w y → settled y ≡ true → Climbs v r x w y
climb_step q s = record { follows = q.follows; reads = q.reads; ended = s }

climbed_on : {v : Surroundings} (r : Rung) {x a b y : Place} {t w : Tree} (k : Kind) → is_rung r ≡ true → Listed k → marks_on k ≡ true → Climbs v r x t a → OnLine k a → Moves (mark k) a b → reaches r k ≡ true → fits k t ≡ true → Grown v k t b w y → Climbed v r x w y
climbed_on r {a = a} k h m g c o f e i n = let found = found_at (sym f.is) f.found in climbed r k h m (steps_of k g) c (decides r h c m g e o found) e i (λ q. found) n.is (n.walk a o f) (n.alone a o f)

unfit_step : {v : Surroundings} {e : Fault} (r : Rung) {x a : Place} {t : Tree} (k : Kind) → is_rung r ≡ true → Listed k → steps_on k ≡ true → Climbs v r x t a → Decides so_far v (seat r) x t a k (tail (row_so_far k)) → fits k t ≡ false → Barred so_far v (Part (seat r)) x e
unfit_step r {t = t} k h m g c d i = left_barred c.follows d (begins_side (row_so_far k) (goes k g)) (λ q. value_unfit k m g (value t (rung_single r h) c.reads) i c.reads q)

pub climb_on : {v : Surroundings} (r : Rung) {x a b y : Place} {t w : Tree} (k : Kind) → is_rung r ≡ true → Listed k → marks_on k ≡ true → Climbs v r x t a → OnLine k a → Moves (mark k) a b → reaches r k ≡ true → fits k t ≡ true → Grown v k t b w y → settled y ≡ true → Climbs v r x w y
climb_on r k h m g c o f e i n s = climb_step (climbed_on r k h m g c o f e i n) s

-- ---- of the level of a conditional, or below: it stands at the left of nothing

low_plain : (k : Kind) (us : Forest) → nat_le (level_of_kind k) 2 ≡ true → (b : Bool) → is_pair (node k us) ≡ b → b ≡ false
low_plain k us e false h = refl
low_plain k us e true h = absurd (clash (nat_le (level_of_kind k) 2) e (ap (λ n. nat_le n 2) (pair_level (node k us) h)))

pub stays_low : {v : Surroundings} {c : Nonterminal} {x a : Place} {us : Forest} (k : Kind) → Listed k → nat_le (level_of_kind k) 2 ≡ true → Stays so_far v c x (node k us) a
stays_low {v} {c} {x} {a} {us} k m e = record { none_on = λ l ts y p. none p }
  where
    none : {l : Kind} {ts : Forest} {y : Place} → Steps so_far v c x (node k us) a l ts y → ⊥
    none {l} p =
        let n = step_listed p in
        let here = subst (λ s. Staged v false s x (seen l (node k us)) a) (sym (side_is l p.begins)) p.left in
        let home = node_home (subst (λ u. Staged v false (side l) x u a) (seen_plain l (node k us) (low_plain k us e (is_pair (node k us)) refl)) here) in
        clash (nat_le 3 2) (below_level 3 (level_of_kind k) 2 (sunk l k n m (left_leads l n p.begins (made m) p.left) home).high e) refl

-- behind the block of an arrow function it has ended
pub blocked_ends : (r : Rung) (y : Place) → is_rung r ≡ true → is_blocked y ≡ true → ends_so_far (seat r) y ≡ true
blocked_ends r Lost h b = cc
blocked_ends r (At q AfterBlock text) h b =
    ap (λ l. not (goes_on_so_far l AfterBlock (breaks text) (token Operator false text))) (seat_asks r)
    ∙ ap (λ c. not (c && is_token (token Operator false text) Punctuator (codes ","))) (single_level r h)
blocked_ends r (At q _ text) h b = cc

pub climb_blocked : {v : Surroundings} (r : Rung) {x a b y : Place} {t w : Tree} (k : Kind) → is_rung r ≡ true → Listed k → marks_on k ≡ true → Climbs v r x t a → OnLine k a → Moves (mark k) a b → reaches r k ≡ true → fits k t ≡ true → Grown v k t b w y → nat_le (level_of_kind k) 2 ≡ true → is_blocked y ≡ true → Only so_far v (Part (seat r)) x (one w) y
climb_blocked {v} r {x} {y = y} k h m g c o f e i n low b = let q = climbed_on r k h m g c o f e i n in grown_only q.follows (subst (λ u. Stays so_far v (seat r) x u y) (sym n.is) (stays_low k m low)) q.reads (blocked_ends r y h b)

-- all kinds that stand where an expression does count
pub counts_listed : (k : Kind) → Listed k → counts_as true k ≡ true
counts_listed k l = of_each (counts_as true) refl k l

-- it can't be read, with a level for the step, or the tree may not stand at its left
pub climb_barred : {v : Surroundings} {q : Fault} (r : Rung) {x a b : Place} {t : Tree} (k : Kind) → is_rung r ≡ true → Listed k → marks_on k ≡ true → Climbs v r x t a → OnLine k a → Moves (mark k) a b → reaches r k ≡ true → NotGrown v k b q → Barred so_far v (Part (seat r)) x (outer q)
climb_barred {q = q} r {a = a} k h m g c o f e n = let d = decides r h c m g e o (found_at (sym f.is) f.found) in steps_barred q of_so_far (counts_listed k m) c.follows d (λ ts z p s. n.no a o f ts z (d.ends ts z p) (step_ended r h p) s)

pub climb_unfit : {v : Surroundings} {d : Fault} (r : Rung) {x a b : Place} {t : Tree} (k : Kind) → is_rung r ≡ true → Listed k → marks_on k ≡ true → Climbs v r x t a → OnLine k a → Moves (mark k) a b → reaches r k ≡ true → fits k t ≡ false → Barred so_far v (Part (seat r)) x d
climb_unfit r k h m g c o f e i = unfit_step r k h m (steps_of k g) c (decides r h c m g e o (found_at (sym f.is) f.found)) i

-- ---- a template behind its tag

tagged_listed : Listed (expression Tagged)
tagged_listed = listed (expression Tagged) refl refl refl

tagged_reaches : (r : Rung) → is_rung r ≡ true → reaches r (expression Tagged) ≡ true
tagged_reaches (rung n) h = of_level (λ m. nat_le m 18) refl {n = n} h
tagged_reaches callee h = refl

pub climb_tagged : {v : Surroundings} (r : Rung) {x a y : Place} {t w : Tree} → is_rung r ≡ true → Climbs v r x t a → Quote a → fits (expression Tagged) t ≡ true → Built so_far v (tail (row_so_far (expression Tagged))) (expression Tagged) (part t) w a y → settled y ≡ true → Climbs v r x w y
climb_tagged r h c q i built s = climb_step (climbed r (expression Tagged) h tagged_listed refl c (decides_tagged r h c q) (tagged_reaches r h) i (λ e. absurd (clash false e refl)) built.is built.row.walk (λ ts z walk e. built.row.alone ts z walk)) s

pub tagged_unread : {v : Surroundings} {o : Fault} (r : Rung) {x a : Place} {t : Tree} → is_rung r ≡ true → Climbs v r x t a → Quote a → NotTagged v t a o → Barred so_far v (Part (seat r)) x o
tagged_unread {o = o} r h c q (outgrown d) = left_outgrown o refl c.follows (decides_tagged r h c q) c.reads d
tagged_unread {v} {o = o} r {x} {t = t} h c q (unread n) = outer_barred (by (fits (expression Tagged) t) refl)
  where
    by : (b : Bool) → fits (expression Tagged) t ≡ b → Barred so_far v (Part (seat r)) x (outer (inner o))
    by true e = step_barred of_so_far refl c.follows (decides_tagged r h c q) (n e)
    by false e = unfit_step r (expression Tagged) h tagged_listed refl c (decides_tagged r h c q) e

-- ---- where the lexer stands

pub climbs_to : {v : Surroundings} {r : Rung} {x : Place} {t : Tree} {y z : Here} → z ≡ y → Climbs v r x t (place_of y) → Climbs v r x t (place_of z)
climbs_to {v} {r} {x} {t} e c = subst (λ h. Climbs v r x t (place_of h)) (sym e) c
