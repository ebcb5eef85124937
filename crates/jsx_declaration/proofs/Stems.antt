-- An expression with which a `for` begins, as far as an `in` outside of its operands, and what the token behind it tells.
use Rattle.std.proofs.Common.{◌≡◌, ℕ, nat_le, Bool, true, false, not, List, [], ◌∷◌, Box, Global, refl, sym, ◌∙◌, ap, subst}
use Rattle.std.specs.Prelude.{IsTrue, codes, ◌&&◌, ◌||◌}
use Rattle.jsx_base.specs.Token.{Operator, IdentifierName, Punctuator, same}
use Rattle.jsx_tree.specs.Kinds.{Assigns, Seq, Parenthesized, Member, Index, SuperMember, SuperIndex, Kind, expression, Tree, node, list, Forest, none, part, Tagged, Array, Object, leaf}
use Rattle.jsx_tree.specs.Nonterminals.{Expr, Pat}
use Rattle.jsx_tree.specs.Grammar.{NoTrailing, TwoOrMore, Part, key, pun}
use Rattle.jsx_tree.specs.Form.{Position, position, positions, enough}
use Rattle.jsx_tree.specs.Grows.{Onward, stay, step, seen}
use Rattle.jsx_tree.specs.Reading.{Place, forth}
use Rattle.jsx_tree.specs.StaticRules.{Surroundings, is_in_op, open_in, open_ins, any_open}
use Rattle.jsx_tree.specs.Spans.{Told}
use Rattle.jsx_tree.specs.Told.{told_expr}
use Rattle.jsx_tree.specs.View.{view_expr}
use Rattle.jsx_tree.specs.Walk.{is_found, one, Items, nil, last, more, tree, tail}
use Rattle.jsx_tree.specs.Language.{Whole}
use Rattle.jsx_tree.specs.Answers.{Moves, Stuck, Only, Barred, Built}
use Rattle.jsx_tree.specs.declared.tree.Expr.{Expr as Code}
use Rattle.jsx_tree.specs.Faults.{Fault, Unread, Shallow, part_depth, outer}
use Rattle.jsx_tree.proofs.Tokens.{and_left, and_right, and_both, one_text, same_self}
use Rattle.jsx_tree.proofs.Apart.{clash, never_both}
use Rattle.jsx_tree.proofs.Rows.Bridge.{found_at}
use Rattle.jsx_tree.proofs.Rows.Guarded.{whole_items_found}
use Rattle.jsx_tree.proofs.Rows.Stopping.{is_not, or_cases, sign_stops}
use Rattle.jsx_tree.proofs.Rows.Targets.{left_pattern}
use Rattle.jsx_tree.proofs.Rows.Turns.{whole_of}
use Rattle.jsx_tree.proofs.Rows.Steps.{any_barred}
use Rattle.jsx_token.specs.Here.{Here, place_of}
use Rattle.jsx_token.specs.Marks.{ends_so_far, row_so_far}
use Rattle.jsx_token.specs.Growths.{Rung, rung, is_rung, reaches, seat, OnLine, level_of_kind, mark, same_sign, closed, settled, is_blocked}
use Rattle.jsx_token.proofs.Listed.{Listed, kinds, every, of_each, implies, implied}
use Rattle.jsx_token.proofs.Levels.{grows_on, marked, marks_on}
use Rattle.jsx_token.proofs.Marks.{one_sign}
use Rattle.jsx_operand.specs.SoFar.{so_far, Staged}
use Rattle.jsx_operand.specs.Climbing.{Climbs, Grown, fits, is_target, level, NotGrown}
use Rattle.jsx_operand.specs.Covers.{IsTurned, view_cover}
use Rattle.jsx_operand.specs.Templates.{NotTagged}
use Rattle.jsx_operand.specs.Spans.{IsPlaced}
use Rattle.jsx_operand.specs.Turning.{turn_plain, is_bracketed, is_literal, retold}
use Rattle.jsx_operand.specs.declared.cover.Cover.{Cover}
use Rattle.jsx_operand.proofs.OfSoFar.{of_so_far}
use Rattle.jsx_operand.proofs.Turned.{bracketed_literal, turned_aims, turned_target}
use Rattle.jsx_operand.proofs.Aims.{aim_of, is_pair, seen_plain, staged_target, target_plain}
use Rattle.jsx_operand.proofs.Homes.{AtWhole, single, several, Value, at_whole, value}
use Rattle.jsx_operand.proofs.Rungs.{rung_single}
use Rattle.jsx_operand.proofs.Values.{at_one, listed_node, move, Quote}
use Rattle.jsx_operand.proofs.Tags.{sign_piece}
use Rattle.jsx_operand.specs.Outgrown.{Outgrown}
use Rattle.jsx_operand.proofs.Outgrowing.{climb_outgrown}
use Rattle.jsx_operand.proofs.Climbing.{begins_grows, below_level, climb_barred, climb_on, climb_only, climb_tagged, climb_unfit, next_mark, mark_goes, tagged_unread, Going, by_arrow, by_mark, by_piece, goes_next}
use Rattle.jsx_expression.specs.Covers.{above, BeginsAt, BeginsCover, BeforeSign, before_equals, before_arrow, Higher, as_begun, as_made, IsMade, IsOperand, LeadsTo, leads, leads_none, NoHigher, none_begun, none_made, NoOperand}
use Rattle.jsx_function.specs.Covers.{IsPlacedCover, Settles}
use Rattle.jsx_expression.proofs.CoverSteps.{cover_of, IsOngoing, ongoing, ongoing_arrow, ongoing_grown, ongoing_tagged}
use Rattle.jsx_member.proofs.Sequences.{closed_of, several_of, whole_only}
use Rattle.jsx_declaration.proofs.Statements.{lost_if}
use Rattle.jsx_declaration.specs.Heads.{IsInitial, IsPlacedStem, IsStem, Far, far_over, far_value, Near, near, near_whole, far, NoDeclaring, NoHead, NoStem, NotOver, Over, over_keys, over_items, Stopped, at_block, at_in}
use Rattle.jsx_declaration.proofs.Heads.{whole_value}
use Rattle.jsx_declaration.proofs.Overs.{none_over, passed_over, NoOver, pattern_is, pattern_there}

-- ---- an `in` that goes on with an expression stands outside of brackets

abbrev first_open : List Position → Bool
first_open (position f c g b a ∷ ss) = not b
first_open [] = false

abbrev leads_open : Kind → Bool
leads_open k = implies (grows_on k) (first_open (positions k) && implies (same_sign (mark k) (key "in")) (is_in_op k))

all_lead_open : every leads_open kinds ≡ true
all_lead_open = refl

or_right : (a b : Bool) → b ≡ true → (a || b) ≡ true
or_right true b h = refl
or_right false b h = h

or_left : (a b : Bool) → a ≡ true → (a || b) ≡ true
or_left true b h = refl
or_left false b h = cc

front_opens : (ss : List Position) (t : Tree) (ts : Forest) → first_open ss ≡ true → open_in t ≡ true → open_ins ss (part t ts) ≡ true
front_opens (position f c g b a ∷ ss) t ts h o = ap (λ d. d || open_ins ss ts) (and_both (not b) (open_in t) h o)
front_opens [] t ts h o = cc

node_opens : (k : Kind) (t : Tree) (ts : Forest) → Listed k → grows_on k ≡ true → open_in t ≡ true → open_in (node k (part t ts)) ≡ true
node_opens k t ts l g o = or_right (is_in_op k) _ (front_opens (positions k) t ts (and_left (first_open (positions k)) _ (implied (grows_on k) _ (of_each leads_open all_lead_open k l) g)) o)

-- parentheses enclose all that stands in them
pair_shut : (t : Tree) → is_pair t ≡ true → open_in t ≡ false
pair_shut (node (expression Parenthesized) none) h = refl
pair_shut (node (expression Parenthesized) (part t ts)) h = refl
pair_shut (node _ ts) h = cc
pair_shut _ h = cc

seen_opens : (k : Kind) (t : Tree) → open_in t ≡ true → open_in (seen k t) ≡ true
seen_opens k t h = by (is_pair t) refl
  where
    by : (b : Bool) → is_pair t ≡ b → open_in (seen k t) ≡ true
    by true e = absurd (clash _ h (pair_shut t e))
    by false e = ap open_in (seen_plain k t e) ∙ h

onward_opens : {v : Surroundings} {x y z : Place} {t u : Tree} → Onward so_far v x t y u z → open_in t ≡ true → open_in u ≡ true
onward_opens stay h = h
onward_opens (step {t = t} k c d {ts = ts} b i r o q on) h = onward_opens on (node_opens k (seen k t) ts (listed_node o b q) (begins_grows (row_so_far k) b) (seen_opens k t h))

in_or_stay : {v : Surroundings} {x y z : Place} {t u : Tree} {A : Type 0} → Value t → IsTrue (is_found (forth (key "in") y)) → Onward so_far v x t y u z → (t ≡ u → y ≡ z → A) → (open_in u ≡ true → A) → A
in_or_stay w f stay g h = g refl refl
in_or_stay {y = y} {A = A} w f (step {t = t} k c d {ts = ts} b i r o q on) g h = by (goes_next k listed b w i r)
  where
    listed : Listed k
    listed = listed_node o b q

    by : Going y k → A
    by (by_mark m) =
        let there = one_sign (mark k) (key "in") y (marked k listed m).coded refl (next_mark k (marked k listed m) q r) f in
        let j = and_right (first_open (positions k)) _ (implied (grows_on k) _ (of_each leads_open all_lead_open k listed) (begins_grows (row_so_far k) b)) in
        h (onward_opens on (ap (λ b. b || open_ins (positions k) (part (seen k t) ts)) (implied (same_sign (mark k) (key "in")) (is_in_op k) j there)))
    by (by_piece e p) = absurd (sign_piece (key "in") y refl refl f p)
    by (by_arrow e s a) = absurd (never_both Punctuator IdentifierName (codes "=>") (codes "in") y refl a f)

ends_one : (z : Place) → ends_so_far (Expr 0) z ≡ true → ends_so_far (Expr 1) z ≡ true
ends_one z e = of_so_far.covered (Expr 0) (Expr 1) z refl e

-- so no `for` stands there whose first part may have none
pub in_head : {v : Surroundings} {x y : Place} {t : Tree} {d : Fault} → NoDeclaring x → Climbs v (rung 1) x t y → IsTrue (is_found (forth (key "in") y)) → NoHead v x d
in_head {v} {x} {y} {t} {d = d} n c f = record { no = λ u z w m o s'. by u z (at_whole u (whole_value n w).reads) (whole_value n w) m o s' }
  where
    first : Value t
    first = value t (rung_single (rung 1) refl) c.reads

    items_open : {z : Place} (ts : Forest) → enough TwoOrMore ts ≡ true → Items (Whole so_far) v NoTrailing (Expr 1) x ts z → any_open ts ≡ true
    items_open ts e (nil g) = cc
    items_open ts e (last r g h) = cc
    items_open ts e (more {y = p} {t = u} {u = q} {us = us} m r g all) =
        in_or_stay first f (c.follows.all u p r)
        (λ a b. absurd (never_both Punctuator IdentifierName (codes ",") (codes "in") y refl (subst (λ h. IsTrue (is_found (forth (pun ",") h))) (sym b) (found_at g (whole_items_found of_so_far all))) f))
        (λ o. ap (λ b. b || any_open (part q us)) o)

    by : (u : Tree) (z : Place) → AtWhole u → Whole so_far v false (Expr 0) x u z → IsTrue (is_found (forth (pun ";") z)) → open_in u ≡ false → Shallow d (part_depth u) → ⊥
    by u z (single a) w m o s =
        in_or_stay first f (c.follows.all u z (record { reads = move at_one a w.reads; ends_there = ends_one z w.ends_there }))
        (λ a b. never_both Punctuator IdentifierName (codes ";") (codes "in") y refl (subst (λ p. IsTrue (is_found (forth (pun ";") p))) (sym b) m) f)
        (λ i. clash _ i o)
    by u z (several {ts = vs}) w m o s =
        let p = several_of w in
        clash _ (ap (λ b. b || false) (items_open p.parts p.two p.items)) (ap (λ ws. open_in (node (expression Seq) ws)) (sym p.is) ∙ o)

-- nor before `of`
pub of_head : {v : Surroundings} {x y : Place} {t : Tree} {e : Fault} → NoDeclaring x → Only so_far v (Part (Expr 1)) x (one t) y → closed y ≡ true → IsTrue (is_found (forth (key "of") y)) → NoHead v x e
of_head {v} {x} {y} {t} n o s f = record {
  no = λ u z w m c h.
      let same = (whole_only o s (lost_if (forth (pun ",") y) (λ g. never_both Punctuator IdentifierName (codes ",") (codes "of") y refl g f))).alone (one u) z (tree (whole_value n w)) in
      never_both Punctuator IdentifierName (codes ";") (codes "of") y refl (subst (λ p. IsTrue (is_found (forth (pun ";") p))) (sym same.1) m) f;
}

-- ---- what a `for` would go over: where the words stand

of_kind : (k : Kind) → Listed k → same_sign (mark k) (key "of") ≡ true → marks_on k ≡ true → ⊥
of_kind k l e g = clash _ e (is_not _ (implied (marks_on k) _ (of_each (λ j. implies (marks_on j) (not (same_sign (mark j) (key "of")))) refl k l) g))

-- a mark is no `of`
unlike_of : (y : Place) (k : Kind) → Listed k → marks_on k ≡ true → IsTrue (is_found (forth (mark k) y)) → IsTrue (is_found (forth (key "of") y)) → ⊥
unlike_of y k l g f h = of_kind k l (one_sign (mark k) (key "of") y (marked k l g).coded refl f h) g

-- where a pattern in brackets may have ended with `in` or `of` behind it
pub record PatternsAt (v : Surroundings) (x y : Place) : Type 0 where
  pub on : (p : Tree) (z : Place) → is_bracketed p ≡ true → Staged v false (Pat Assigns) x p z → Over z → y ≡ z

-- at no place
record NoneOver (v : Surroundings) (x : Place) (e : Fault) : Type 0 where
  no : (p : Tree) (z : Place) → is_bracketed p ≡ true → Staged v false (Pat Assigns) x p z → Over z → Shallow e (part_depth p) → ⊥

none_past : {v : Surroundings} {x : Place} {o : Fault} → NoneOver v x o → NoOver v x o
none_past {v} {x} n = record {
  keys = record { no = λ c k ts z e r f s. n.no (node k ts) z (pattern_is (node k ts) e) (pattern_there (node k ts) e r) (over_keys f) s };
  items = record { no = λ c k ts z e r f s. n.no (node k ts) z (pattern_is (node k ts) e) (pattern_there (node k ts) e r) (over_items f) s };
}

over_at : {y z : Place} → y ≡ z → Over z → (IsTrue (is_found (forth (key "in") y)) → ⊥) → (IsTrue (is_found (forth (key "of") y)) → ⊥) → ⊥
over_at e (over_keys f) a b = a (subst (λ q. IsTrue (is_found (forth (key "in") q))) (sym e) f)
over_at e (over_items f) a b = b (subst (λ q. IsTrue (is_found (forth (key "of") q))) (sym e) f)

-- no word stands at the one place where it may
none_over_at : {v : Surroundings} {x y : Place} {d : Fault} → PatternsAt v x y → (IsTrue (is_found (forth (key "in") y)) → ⊥) → (IsTrue (is_found (forth (key "of") y)) → ⊥) → NoneOver v x d
none_over_at n a b = record { no = λ p z e r o s. over_at (n.on p z e r o) o a b }

-- ---- whether a target is near

over_value : {v : Surroundings} {x : Place} {e : Fault} → NoDeclaring x → NoneOver v x e → Barred so_far v (Part (Expr 11)) x e → NotOver v x e
over_value n p b = let q = none_past p in none_over n q.keys q.items b

any_over : {v : Surroundings} {x : Place} {e : Fault} → NotOver v x Unread → NotOver v x e
any_over o = record { keys = record { no = λ ts y w s. o.keys.no ts y w tt }; items = record { no = λ ts y w s. o.items.no ts y w tt } }

over_far : {v : Surroundings} {x : Place} {e : Fault} → NoDeclaring x → NoneOver v x e → Far v x → NotOver v x e
over_far n p (far_value b) = over_value n p (any_barred b)
over_far n p (far_over o) = any_over o

-- where a mark other than `in` comes next, it goes on before an `in`, or no target ends there
on_or_over : {v : Surroundings} {x y : Place} {t : Tree} {A : Type 0} (k : Kind) → NoDeclaring x → NoneOver v x Unread → is_blocked y ≡ false → Near v x t y → Listed k → marks_on k ≡ true → OnLine k y → IsTrue (is_found (forth (mark k) y)) → (IsTrue (is_found (forth (key "in") y)) → ⊥) → (nat_le 11 (level_of_kind k) ≡ true → Climbs v (rung 11) x t y → A) → (Far v x → A) → A
on_or_over k n p s (far o) l g i f a on other = other o
on_or_over {y = y} k n p s (near_whole e o) l g i f a on other = absurd (clash (is_blocked y) e s)
on_or_over {v} {x} {y} {t} {A} k n p s (near c) l g i f a on other = by (nat_le 11 (level_of_kind k)) refl
  where
    by : (b : Bool) → nat_le 11 (level_of_kind k) ≡ b → A
    by true e = on e c
    by false e =
        let q = none_past p in
        other (far_over (passed_over n q.keys q.items (climb_only (rung 11) refl c (mark_goes (rung 11) k y refl l g c.ended i f ∙ ap not e)) a (unlike_of _ k l g f)))

-- what begins there so
near_begun : {v : Surroundings} {x y : Place} {t : Tree} → BeginsAt v (rung 11) x t y → Near v x t y
near_begun {v} {x} {y} {t} b = by (nat_le 11 (level t)) (is_blocked y) refl refl
  where
    by : (h e : Bool) → nat_le 11 (level t) ≡ h → is_blocked y ≡ e → Near v x t y
    by false e i j = far (far_value (b.low i))
    by true true i j = near_whole j (b.blocked j i)
    by true false i j = near (b.climbs j i)

-- an assignment to a pattern, or an arrow function of one name
made_in : {a : Place} → BeforeSign a → IsTrue (is_found (forth (key "in") a)) → ⊥
made_in {a} (before_equals f) g = never_both Punctuator IdentifierName (codes "=") (codes "in") a refl f g
made_in {a} (before_arrow f) g = never_both Punctuator IdentifierName (codes "=>") (codes "in") a refl f g

made_of : {a : Place} → BeforeSign a → IsTrue (is_found (forth (key "of") a)) → ⊥
made_of {a} (before_equals f) g = never_both Punctuator IdentifierName (codes "=") (codes "of") a refl f g
made_of {a} (before_arrow f) g = never_both Punctuator IdentifierName (codes "=>") (codes "of") a refl f g

made_ends : {a : Place} → BeforeSign a → ends_so_far (Expr 11) a ≡ true
made_ends {a} (before_equals f) = of_so_far.ends_there (Expr 11) a (sign_stops (Expr 11) (pun "=") a refl f)
made_ends {a} (before_arrow f) = of_so_far.ends_there (Expr 11) a (sign_stops (Expr 11) (pun "=>") a refl f)

made_none : {v : Surroundings} {x : Place} {d : Fault} → IsMade v x → NoneOver v x d
made_none m = record { no = λ p z e r o s. over_at (m.pattern p z e r) o (made_in m.sign) (made_of m.sign) }

made_over : {v : Surroundings} {x : Place} {e : Fault} → NoDeclaring x → IsMade v x → NotOver v x e
made_over {v} {x} {e = e} n m = by (m.higher (rung 11) refl refl)
  where
    past : NoOver v x e
    past = none_past (made_none m)

    by : LeadsTo v (rung 11) x m.place → NotOver v x e
    by (leads t c) = passed_over n past.keys past.items (climb_only (rung 11) refl c (made_ends m.sign)) (made_in m.sign) (made_of m.sign)
    by (leads_none b) = none_over n past.keys past.items (any_barred b)

higher_near : {v : Surroundings} {x y : Place} {c : Cover} → NoDeclaring x → Higher v x c y → c.is_expr ≡ true → Near v x (view_cover c) y
higher_near n (as_made m) e = far (far_over (made_over n m))
higher_near n (as_begun b) e = near_begun (b.expr e (rung 11) refl (above refl))

higher_far : {v : Surroundings} {x y : Place} {c : Cover} → NoDeclaring x → Higher v x c y → c.is_expr ≡ false → Far v x
higher_far n (as_made m) e = far_over (made_over n m)
higher_far n (as_begun b) e = far_value (b.none e (rung 11) refl (above refl))

pub stem_unbegun : {v : Surroundings} {x : Place} {f : Fault} → NoDeclaring x → NoOperand v 1 x f → NoStem v x f
stem_unbegun {v} {x} {f = f} n b = record { barred = b.whole.none; over = by (b.higher refl) }
  where
    by : NoHigher v x f → NotOver v x f
    by (none_begun d) = over_value n (record { no = λ p z e r o s. d.pattern.no p z e r s }) (d.none.on (rung 11) refl)
    by (none_made m) = made_over n m

-- ---- the loop

-- what was read so far, which is an expression
pub record Stem (v : Surroundings) (x : Place) (c : Cover) (y : Place) : Type 0 where
  pub so_far : IsOngoing v 1 x c y
  pub targets : Near v x (view_cover c) y
  pub reads : (p : Tree) → IsTurned c p → Staged v false (Pat Assigns) x p y
  pub patterns : (p : Tree) (z : Place) → is_bracketed p ≡ true → Staged v false (Pat Assigns) x p z → Over z → IsTurned c p × (y ≡ z)
  pub may : is_literal (view_cover c) ≡ false → c.may_turn ≡ true
  pub ended : closed y ≡ true

over_stuck : {z : Place} → Over z → Stuck (pun "=") z
over_stuck {z} (over_keys f) = record { is = lost_if (forth (pun "=") z) (λ g. never_both Punctuator IdentifierName (codes "=") (codes "in") z refl g f) }
over_stuck {z} (over_items f) = record { is = lost_if (forth (pun "=") z) (λ g. never_both Punctuator IdentifierName (codes "=") (codes "of") z refl g f) }

-- a literal binds as tightly as a name
literal_high : (t : Tree) → nat_le 1 (level t) ≡ false → is_literal t ≡ false
literal_high (node (expression Array) ts) e = cc
literal_high (node (expression Object) ts) e = cc
literal_high (node _ ts) e = refl
literal_high (leaf k t) e = refl
literal_high (list ts) e = refl

pub stem_first : {v : Surroundings} {x y : Place} {c : Cover} → NoDeclaring x → IsOperand v 1 x c y → c.is_expr ≡ true → nat_le 1 (level (view_cover c)) ≡ true → closed y ≡ true → Stem v x (cover_of c.expr c.may_turn) y
stem_first {c = c} n o e h s = record {
  so_far = ongoing 1 c.expr c.may_turn e refl refl h o;
  targets = higher_near n (o.higher refl) e;
  reads = λ p d. o.reads refl p (record { may = d.may; turns = d.turns });
  patterns = λ p z b r w. let q = o.pattern refl p z b r (over_stuck w) in (record { may = q.0.may; turns = q.0.turns }, q.1);
  may = o.may;
  ended = s;
}

-- no expression
pub stem_pattern : {v : Surroundings} {x y : Place} {c : Cover} → NoDeclaring x → IsOperand v 1 x c y → c.is_expr ≡ false → closed y ≡ true → IsStem v x c y
stem_pattern {c = c} n o e s = record {
  climbs = λ a b. absurd (clash c.is_expr a e);
  blocked = λ a b. absurd (clash c.is_expr a e);
  none = λ a. record { whole = o.none a; targets = higher_far n (o.higher refl) a };
  targets = λ a. absurd (clash c.is_expr a e);
  reads = o.reads refl;
  patterns = λ p z b r w. o.pattern refl p z b r (over_stuck w);
  may = o.may;
  stopped = λ a. absurd (clash c.is_expr a e);
  ended = s;
}

-- what may not stand there
pub stem_low : {v : Surroundings} {x y : Place} {c : Cover} {d : Fault} → NoDeclaring x → IsOperand v 1 x c y → nat_le 1 (level (view_cover c)) ≡ false → nat_le 11 (level (view_cover c)) ≡ false → NoStem v x d
stem_low {v} {x} {y} {c} {d = d} n o l h = record { barred = barred_by c.is_expr refl; over = by (o.higher refl) }
  where
    barred_by : (b : Bool) → c.is_expr ≡ b → Barred so_far v (Part (Expr 1)) x d
    barred_by true e = any_barred ((o.expr e).low l)
    barred_by false e = any_barred (o.none e)

    tight : BeginsCover v x c y → (b : Bool) → c.is_expr ≡ b → Barred so_far v (Part (Expr 11)) x d
    tight b true e = any_barred ((b.expr e (rung 11) refl (above refl)).low h)
    tight b false e = any_barred (b.none e (rung 11) refl (above refl))

    by : Higher v x c y → NotOver v x d
    by (as_made m) = made_over n m
    by (as_begun b) = over_value n (record { no = λ p z i r w s. clash (is_literal (view_cover c)) (bracketed_literal (b.pattern.alone p z i r).0.turns i) (literal_high (view_cover c) l) }) (tight b c.is_expr refl)

patterns_at : {v : Surroundings} {x y : Place} {c : Cover} → Stem v x c y → PatternsAt v x y
patterns_at s = record { on = λ p z e r o. (s.patterns p z e r o).1 }

-- what goes on with an expression is neither a literal nor in parentheses
abbrev is_shut : Kind → Bool
is_shut (expression Array) = true
is_shut (expression Object) = true
is_shut (expression Parenthesized) = true
is_shut k = false

shut_literal : (k : Kind) (ts : Forest) → is_shut k ≡ false → is_literal (node k ts) ≡ false
shut_literal (expression Array) ts h = cc
shut_literal (expression Object) ts h = cc
shut_literal _ ts h = refl

shut_pair : (k : Kind) (ts : Forest) → is_shut k ≡ false → is_pair (node k ts) ≡ false
shut_pair (expression Parenthesized) ts h = cc
shut_pair _ ts h = refl

grown_open : (k : Kind) → Listed k → marks_on k ≡ true → is_shut k ≡ false
grown_open k l g = is_not _ (implied (marks_on k) _ (of_each (λ j. implies (marks_on j) (not (is_shut j))) refl k l) g)

-- a tree that has grown
pub record IsGrown (t : Tree) : Type 0 where
  pub plain : is_literal t ≡ false
  pub bare : is_pair t ≡ false

pub grown_is : {v : Surroundings} {t w : Tree} {b y : Place} (k : Kind) → Listed k → marks_on k ≡ true → Grown v k t b w y → IsGrown w
grown_is {t = t} k l g n =
    let h = grown_open k l g in
    let ts = part (seen k t) n.parts in
    record { plain = ap is_literal n.is ∙ shut_literal k ts h; bare = ap is_pair n.is ∙ shut_pair k ts h }

pub tagged_is : {v : Surroundings} {t w : Tree} {a y : Place} → Built so_far v (tail (row_so_far (expression Tagged))) (expression Tagged) (part t) w a y → IsGrown w
tagged_is n = record { plain = ap is_literal n.is; bare = ap is_pair n.is }

stem_grown : {v : Surroundings} {x y : Place} {e : Box Code Global} → NoneOver v x Unread → IsGrown (view_expr e.value) → closed y ≡ true → IsOngoing v 1 x (cover_of e true) y → Near v x (view_expr e.value) y → Stem v x (cover_of e true) y
stem_grown {v} {x} {y} {e} n g s o h = record { so_far = o; targets = h; reads = reads_by; patterns = λ p z i r w. absurd (n.no p z i r w tt); may = λ h. refl; ended = s }
  where
    read : (i : Bool) → is_blocked y ≡ i → Staged v false (Expr 1) x (view_expr e.value) y
    read true h = (whole_of (o.blocked h).past).reads
    read false h = (o.climbs h).reads

    reads_by : (p : Tree) → IsTurned (cover_of e true) p → Staged v false (Pat Assigns) x p y
    reads_by p d = subst (λ u. Staged v false (Pat Assigns) x u y) (sym (turned_target d.turns g.plain)) (staged_target left_pattern refl (aim_of (view_expr e.value) (turned_aims d.turns g.plain)) (read (is_blocked y) refl))

near_more : {v : Surroundings} {x a b y : Place} {t w : Tree} (k : Kind) → NoDeclaring x → NoneOver v x Unread → is_blocked a ≡ false → Near v x t a → Listed k → marks_on k ≡ true → OnLine k a → Moves (mark k) a b → (IsTrue (is_found (forth (key "in") a)) → ⊥) → fits k t ≡ true → Grown v k t b w y → Settles (level_of_kind k) y → Near v x w y
near_more k n p e c l g o m i f built s = on_or_over k n p e c l g o (found_at (sym m.is) m.found) i (λ h d. near (climb_on (rung 11) k refl l g d o m h f built (s.on (tighter (level_of_kind k) h)))) (λ d. far d)
  where
    tighter : (n : ℕ) → nat_le 11 n ≡ true → nat_le 3 n ≡ true
    tighter n h = below_level 3 11 n refl h

pub stem_more : {v : Surroundings} {x a b y : Place} {c : Cover} {e : Box Code Global} (k : Kind) → NoDeclaring x → Stem v x c a → is_blocked a ≡ false → Listed k → marks_on k ≡ true → OnLine k a → Moves (mark k) a b → nat_le 1 (level_of_kind k) ≡ true → (IsTrue (is_found (forth (key "in") a)) → ⊥) → fits k (view_cover c) ≡ true → Grown v k (view_cover c) b (view_expr e.value) y → closed y ≡ true → Settles (level_of_kind k) y
    → Stem v x (cover_of e true) y
stem_more {e = e} k n st free l g o m h i f built s t =
    let p = none_over_at (patterns_at st) i (unlike_of _ k l g (found_at (sym m.is) m.found)) in
    stem_grown p (grown_is k l g built) s (ongoing_grown 1 k e refl l g free st.so_far o m h f built s t) (near_more k n p free st.targets l g o m i f built t)

-- a template goes on with it as all marks but `in` do
near_tagged : {v : Surroundings} {x a y : Place} {t w : Tree} → is_blocked a ≡ false → Near v x t a → Quote a → fits (expression Tagged) t ≡ true → Built so_far v (tail (row_so_far (expression Tagged))) (expression Tagged) (part t) w a y → settled y ≡ true → Near v x w y
near_tagged e (near c) q f built s = near (climb_tagged (rung 11) refl c q f built s)
near_tagged {a = a} e (near_whole b o) q f built s = absurd (clash (is_blocked a) b e)
near_tagged e (far o) q f built s = far o

quote_none : {v : Surroundings} {x a : Place} {c : Cover} {e : Fault} → Stem v x c a → Quote a → NoneOver v x e
quote_none st q = none_over_at (patterns_at st) (λ f. sign_piece (key "in") _ refl refl f q) (λ f. sign_piece (key "of") _ refl refl f q)

pub stem_tagged : {v : Surroundings} {x a y : Place} {c : Cover} {e : Box Code Global} → Stem v x c a → is_blocked a ≡ false → Quote a → fits (expression Tagged) (view_cover c) ≡ true → Built so_far v (tail (row_so_far (expression Tagged))) (expression Tagged) (part (view_cover c)) (view_expr e.value) a y → settled y ≡ true → Stem v x (cover_of e true) y
stem_tagged {y = y} {e = e} st free q f built s = stem_grown (quote_none st q) (tagged_is built) (closed_of y s) (ongoing_tagged 1 e refl free st.so_far q f built s) (near_tagged free st.targets q f built s)

-- ---- what can't be read

pub stem_untagged : {v : Surroundings} {x a : Place} {c : Cover} {d : Fault} → NoDeclaring x → Stem v x c a → is_blocked a ≡ false → Quote a → NotTagged v (view_cover c) a d → NoStem v x d
stem_untagged {v} {x} {a} {c} {d = d} n st free q u = record { barred = tagged_unread (rung 1) refl (st.so_far.climbs free) q u; over = by st.targets }
  where
    by : Near v x (view_cover c) a → NotOver v x d
    by (near e) = over_value n (quote_none st q) (tagged_unread (rung 11) refl e q u)
    by (near_whole b o) = absurd (clash (is_blocked a) b free)
    by (far o) = over_far n (quote_none st q) o

-- behind a mark that goes on, what bars it from the two levels
stem_marked : {v : Surroundings} {x a b : Place} {c : Cover} {d : Fault} (k : Kind) → NoDeclaring x → Stem v x c a → is_blocked a ≡ false → Listed k → marks_on k ≡ true → OnLine k a → Moves (mark k) a b → nat_le 1 (level_of_kind k) ≡ true → (IsTrue (is_found (forth (key "in") a)) → ⊥)
    → ((r : Rung) → is_rung r ≡ true → Climbs v r x (view_cover c) a → reaches r k ≡ true → Barred so_far v (Part (seat r)) x d) → NoStem v x d
stem_marked k n st free l g o m e i f =
    let there = found_at (sym m.is) m.found in
    let past = unlike_of _ k l g there in
    record {
      barred = f (rung 1) refl (st.so_far.climbs free) e;
      over = on_or_over k n (none_over_at (patterns_at st) i past) free st.targets l g o there i (λ h q. over_value n (none_over_at (patterns_at st) i past) (f (rung 11) refl q h)) (λ q. over_far n (none_over_at (patterns_at st) i past) q);
    }

pub stem_unfit : {v : Surroundings} {x a b : Place} {c : Cover} {d : Fault} (k : Kind) → NoDeclaring x → Stem v x c a → is_blocked a ≡ false → Listed k → marks_on k ≡ true → OnLine k a → Moves (mark k) a b → nat_le 1 (level_of_kind k) ≡ true → (IsTrue (is_found (forth (key "in") a)) → ⊥) → fits k (view_cover c) ≡ false → NoStem v x d
stem_unfit k n st free l g o m e i f = stem_marked k n st free l g o m e i (λ r h q j. climb_unfit r k h l g q o m j f)

pub stem_outgrown : {v : Surroundings} {x a b : Place} {c : Cover} {d : Fault} (k : Kind) → NoDeclaring x → Stem v x c a → is_blocked a ≡ false → Listed k → marks_on k ≡ true → OnLine k a → Moves (mark k) a b → nat_le 1 (level_of_kind k) ≡ true → (IsTrue (is_found (forth (key "in") a)) → ⊥) → Outgrown (view_cover c) d → NoStem v x d
stem_outgrown {d = d} k n st free l g o m e i u = stem_marked k n st free l g o m e i (λ r h q j. climb_outgrown r k d h l g q o m j u)

pub stem_barred : {v : Surroundings} {x a b : Place} {c : Cover} {d : Fault} (k : Kind) → NoDeclaring x → Stem v x c a → is_blocked a ≡ false → Listed k → marks_on k ≡ true → OnLine k a → Moves (mark k) a b → nat_le 1 (level_of_kind k) ≡ true → (IsTrue (is_found (forth (key "in") a)) → ⊥) → NotGrown v k b d → NoStem v x (outer d)
stem_barred k n st free l g o m e i u = stem_marked k n st free l g o m e i (λ r h q j. climb_barred r k h l g q o m j u)

-- before `=>`
pub stem_arrowed : {v : Surroundings} {x a : Place} {c : Cover} {d : Fault} → NoDeclaring x → Stem v x c a → is_blocked a ≡ false → IsTrue (is_found (forth (pun "=>") a)) → NoStem v x d
stem_arrowed {v} {x} {a} {c} {d = d} n st free f = record { barred = (ongoing_arrow 1 refl free st.so_far f).none; over = by st.targets }
  where
    past : NoneOver v x d
    past = none_over_at (patterns_at st) (λ g. never_both Punctuator IdentifierName (codes "=>") (codes "in") a refl f g) (λ g. never_both Punctuator IdentifierName (codes "=>") (codes "of") a refl f g)

    by : Near v x (view_cover c) a → NotOver v x d
    by (near e) = let q = none_past past in passed_over n q.keys q.items (climb_only (rung 11) refl e (of_so_far.ends_there (Expr 11) a (sign_stops (Expr 11) (pun "=>") a refl f))) (λ g. never_both Punctuator IdentifierName (codes "=>") (codes "in") a refl f g) (λ g. never_both Punctuator IdentifierName (codes "=>") (codes "of") a refl f g)
    by (near_whole e o) = absurd (clash (is_blocked a) e free)
    by (far o) = over_far n past o

-- ---- where it ends

pub stem_ends : {v : Surroundings} {x y : Place} {c : Cover} → Stem v x c y → c.is_expr ≡ true → Stopped y → IsStem v x c y
stem_ends {c = c} st e s = record { climbs = λ a b. st.so_far.climbs b; blocked = λ a b. st.so_far.blocked b; none = λ a. absurd (clash c.is_expr e a); targets = λ a. st.targets; reads = st.reads; patterns = st.patterns; may = st.may; stopped = λ a. s; ended = st.ended }

-- ---- the places of what it tells

retold_target : (t : Tree) (d : Told) → is_target t ≡ true → retold t d ≡ d
retold_target (leaf k t) d e = refl
retold_target (node (expression Parenthesized) ts) d e = refl
retold_target (node (expression Member) ts) d e = refl
retold_target (node (expression Index) ts) d e = refl
retold_target (node (expression SuperMember) ts) d e = refl
retold_target (node (expression SuperIndex) ts) d e = refl
retold_target (node _ ts) d e = cc
retold_target (list ts) d e = cc

pub placed_first : {c : Cover} {x y : Here} → IsPlacedCover c x y → IsPlacedStem c x y
placed_first p = record { expr = p.expr; pattern = λ q d. p.element q (record { may = d.may; turns = turn_plain d.turns }) }

pub placed_grown : {e : Box Code Global} {x y : Here} → IsGrown (view_expr e.value) → IsPlaced (told_expr e.value) (view_expr e.value) x y → IsPlacedStem (cover_of e true) x y
placed_grown {e} {x} {y} g p = record { expr = λ _. p; pattern = at }
  where
    at : (q : Tree) → IsTurned (cover_of e true) q → IsPlaced (retold (view_expr e.value) (told_expr e.value)) q x y
    at q d =
        subst (λ u. IsPlaced (retold (view_expr e.value) (told_expr e.value)) u x y) (sym (turned_target d.turns g.plain ∙ target_plain (view_expr e.value) g.bare))
        (subst (λ t. IsPlaced t (view_expr e.value) x y) (sym (retold_target (view_expr e.value) (told_expr e.value) (turned_aims d.turns g.plain))) p)

-- ---- where the lexer stands

pub placed_stem : {c : Cover} {x y z : Here} → z ≡ y → IsPlacedStem c x y → IsPlacedStem c x z
placed_stem {c} {x} e p = subst (λ h. IsPlacedStem c x h) (sym e) p

pub stem_to : {v : Surroundings} {x : Place} {c : Cover} {y z : Here} → z ≡ y → Stem v x c (place_of y) → Stem v x c (place_of z)
stem_to {v} {x} {c} e s = subst (λ h. Stem v x c (place_of h)) (sym e) s

pub stem_at : {v : Surroundings} {x : Place} {c : Cover} {y z : Here} → z ≡ y → IsStem v x c (place_of y) → IsStem v x c (place_of z)
stem_at {v} {x} {c} e s = subst (λ h. IsStem v x c (place_of h)) (sym e) s

-- where it has come to neither
pub record GoesOn (y : Place) : Type 0 where
  pub free : is_blocked y ≡ false
  pub none : IsTrue (is_found (forth (key "in") y)) → ⊥

pub goes_on : {y z : Here} {b : Bool} → z ≡ y → b ≡ (is_blocked (place_of y) || is_found (forth (key "in") (place_of y))) → b ≡ false → GoesOn (place_of z)
goes_on {y} e a n = subst (λ h. GoesOn (place_of h)) (sym e) (by (is_blocked (place_of y)) refl)
  where
    by : (d : Bool) → is_blocked (place_of y) ≡ d → GoesOn (place_of y)
    by true f = absurd (clash _ (or_left (is_blocked (place_of y)) _ f) (sym a ∙ n))
    by false f = record { free = f; none = λ h. clash _ (or_right (is_blocked (place_of y)) _ h) (sym a ∙ n) }

pub stopped : (y : Here) {b : Bool} → b ≡ (is_blocked (place_of y) || is_found (forth (key "in") (place_of y))) → b ≡ true → Stopped (place_of y)
stopped y a n = or_cases (is_blocked (place_of y)) (is_found (forth (key "in") (place_of y))) (sym a ∙ n) (λ f. at_block f) (λ f. at_in f)

-- ---- what the token behind it tells

pub two_words : (y : Place) → IsTrue (is_found (forth (key "in") y)) → IsTrue (is_found (forth (key "of") y)) → ⊥
two_words y f g = let bad : false ≡ true = subst (λ t. same (codes "in") t ≡ true) (one_text Operator IdentifierName (codes "in") (codes "of") y f g) (same_self (codes "in")) in cc

pub in_ends : (y : Place) → IsTrue (is_found (forth (key "in") y)) → ends_so_far (Expr 11) y ≡ true
in_ends y f = of_so_far.ends_there (Expr 11) y (sign_stops (Expr 11) (key "in") y refl f)

pub of_ends : (y : Place) → IsTrue (is_found (forth (key "of") y)) → ends_so_far (Expr 11) y ≡ true
of_ends y f = of_so_far.ends_there (Expr 11) y (sign_stops (Expr 11) (key "of") y refl f)

-- ---- the same of what is equal

pub initial_as : {v : Surroundings} {x y : Place} {t u : Tree} → t ≡ u → IsInitial v x (list (part u none)) y → IsInitial v x (list (part t none)) y
initial_as {v} {x} {y} e k = subst (λ w. IsInitial v x (list (part w none)) y) (sym e) k
