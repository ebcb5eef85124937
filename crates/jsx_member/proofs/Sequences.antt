-- Expressions with commas between: what is read where a sequence may stand.
use Rattle.std.proofs.Common.{◌≡◌, ◌≤◌, Bool, true, false, not, cond, [], ◌∷◌, refl, sym, ◌∙◌, ap, subst}
use Rattle.std.specs.Prelude.{IsTrue, codes, Some, ◌&&◌, ◌||◌}
use Rattle.jsx_base.specs.Token.{Operator, Lexeme, among, same, breaks, token}
use Rattle.jsx_tree.specs.Signs.{AfterExpr, AfterBlock}
use Rattle.jsx_tree.specs.Kinds.{Seq, expression, Tree, node, list, Forest, none, part}
use Rattle.jsx_tree.specs.Nonterminals.{Nonterminal, Expr}
use Rattle.jsx_tree.specs.Grammar.{NoTrailing, TwoOrMore, Part, pun}
use Rattle.jsx_tree.specs.Form.{enough}
use Rattle.jsx_tree.specs.Reading.{Place, Lost, At, forth}
use Rattle.jsx_tree.specs.StaticRules.{Surroundings}
use Rattle.jsx_tree.specs.Walk.{is_found, Relation, Given, one, Items, nil, last, more, Past, tree, many, Walk, done, next, around}
use Rattle.jsx_tree.specs.Stops.{going}
use Rattle.jsx_tree.specs.Language.{Whole}
use Rattle.jsx_tree.specs.Answers.{Moves, Only, Barred}
use Rattle.jsx_tree.specs.Faults.{Fault, Shallow, part_depth, given_depth, deepest}
use Rattle.jsx_tree.proofs.Tokens.{and_both}
use Rattle.jsx_tree.proofs.Apart.{clash}
use Rattle.jsx_tree.proofs.Rows.Bridge.{found_at}
use Rattle.jsx_tree.proofs.Rows.Stopping.{is_not}
use Rattle.jsx_tree.proofs.Rows.Laws.{start_found, end_found}
use Rattle.jsx_tree.proofs.Rows.Bodies.{plain}
use Rattle.jsx_tree.proofs.Rows.Guarded.{whole_walk, loosen, to_grammar}
use Rattle.jsx_tree.proofs.Rows.Steps.{both, both_up}
use Rattle.jsx_tree.proofs.Rows.Turns.{early, item_of, whole_of}
use Rattle.jsx_tree.proofs.Depth.Shallow.{shallow_head, shallow_up}
use Rattle.jsx_tree.proofs.Rows.Placing.{node_shallow}
use Rattle.jsx_operand.specs.SoFar.{so_far}
use Rattle.jsx_token.specs.Marks.{marks, goes_at, steps, is_sign, is_mark, goes_on_so_far, ends_so_far, row_so_far, goes_by_mark, goes_by_quote}
use Rattle.jsx_token.specs.Growths.{closed, settled}
use Rattle.jsx_operand.proofs.OfSoFar.{of_so_far}
use Rattle.jsx_token.proofs.Listed.{agree, agreed}
use Rattle.jsx_token.proofs.Marks.{every_text, of_sign, by_sign, seen_sign}
use Rattle.jsx_operand.proofs.Homes.{value, AtWhole, single, several, at_whole}
use Rattle.jsx_operand.proofs.Values.{at_any, at_one, move}

-- ---- whether a comma comes next

-- behind an expression of any level one of the level of assignments may end
pub closed_of : (y : Place) → settled y ≡ true → closed y ≡ true
closed_of Lost s = cc
closed_of (At q AfterExpr text) s = s
closed_of (At q _ text) s = cc

-- where one does, no expression has ended that may be a sequence
pub comma_goes : (y : Place) → closed y ≡ true → IsTrue (is_found (forth (pun ",") y)) → ends_so_far (Expr 0) y ≡ false
comma_goes Lost s f = cc
comma_goes (At q AfterExpr text) s f =
    let x = token Operator (same q []) text in
    let i : is_sign x (pun ",") ≡ true = seen_sign (pun ",") q AfterExpr text refl f in
    let raw : among x.raw (going 0) ≡ true = by_sign (λ t. among t (going 0)) (pun ",") x refl i in
    ap (λ b. not (goes_by_mark 0 (breaks text) (token Operator b text) || goes_by_quote 0 (token Operator b text))) (sym (is_not (same q []) s)) ∙ (λ j. not (((raw j || (not (breaks text) && among x.raw steps)) && (i j || is_mark x (pun "=>" ∷ marks))) || goes_by_quote 0 x))
comma_goes (At q AfterBlock text) s f = ap (λ b. not (is_sign (token Operator b text) (pun ","))) (sym (is_not (same q []) s)) ∙ ap not (seen_sign (pun ",") q AfterBlock text refl f)
comma_goes (At q _ text) s f = cc

-- the other signs go on with a sequence as with an assignment
all_marks : every_text (λ t. agree (among t (going 0)) (among t (going 1))) (pun "=>" ∷ marks) ≡ true
unfolding marks
all_marks = refl

pub and_equal : (m n b : Bool) → (b ≡ true → m ≡ n) → (m && b) ≡ (n && b)
and_equal m n true f = ap (λ c. c && true) (f refl)
and_equal true true false f = refl
and_equal true false false f = refl
and_equal false true false f = refl
and_equal false false false f = refl

goes_equal : (b : Bool) (x : Lexeme) → is_sign x (pun ",") ≡ false → goes_on_so_far (Some 0) AfterExpr b x ≡ goes_on_so_far (Some 1) AfterExpr b x
goes_equal b x n = ap (λ p. p || goes_by_quote 0 x)
    ((λ i. goes_at 0 b x.raw && (n i || is_mark x (pun "=>" ∷ marks)))
    ∙ (and_equal (goes_at 0 b x.raw) (goes_at 1 b x.raw) (is_mark x (pun "=>" ∷ marks)) (λ h. ap (λ p. p || (not b && among x.raw steps)) (agreed (among x.raw (going 0)) (among x.raw (going 1)) (of_sign (λ t. agree (among t (going 0)) (among t (going 1))) (pun "=>" ∷ marks) all_marks x h)))
    ∙ (λ i. goes_at 1 b x.raw && (sym n i || is_mark x (pun "=>" ∷ marks)))))

not_there : (b : Bool) (y : Place) → is_found y ≡ true → cond b y Lost ≡ Lost → b ≡ false
not_there true y f h = let bad : true ≡ false = sym f ∙ ap is_found h in cc
not_there false y f h = refl

pub no_comma_ends : (y : Place) → closed y ≡ true → forth (pun ",") y ≡ Lost → ends_so_far (Expr 1) y ≡ true → ends_so_far (Expr 0) y ≡ true
no_comma_ends Lost s l e = refl
no_comma_ends (At q AfterExpr text) s l e =
    let x = token Operator (same q []) text in
    let n : is_sign x (pun ",") ≡ false = not_there (is_sign x (pun ",")) (At (codes ",") AfterExpr x.rest) refl l in
    ap not (goes_equal (breaks text) (token Operator false text) (subst (λ b. is_sign (token Operator b text) (pun ",") ≡ false) (is_not (same q []) s) n)) ∙ e
no_comma_ends (At q AfterBlock text) s l e =
    let x = token Operator (same q []) text in
    let n : is_sign x (pun ",") ≡ false = not_there (is_sign x (pun ",")) (At (codes ",") AfterExpr x.rest) refl l in
    ap not (subst (λ b. is_sign (token Operator b text) (pun ",") ≡ false) (is_not (same q []) s) n)
no_comma_ends (At q _ text) s l e = cc

-- ---- the parts of a sequence, and those of one or more

some_of : {R : Relation} {v : Surroundings} {c : Nonterminal} {x z : Place} {ts : Forest} → Items R v TwoOrMore c x ts z → Items R v NoTrailing c x ts z
some_of (nil f) = nil f
some_of (last r e f) = last r e f
some_of (more n r e all) = more n r e (some_of all)

two_of : {R : Relation} {v : Surroundings} {c : Nonterminal} {x z : Place} {ts : Forest} → Items R v NoTrailing c x ts z → Items R v TwoOrMore c x ts z
two_of (nil f) = nil f
two_of (last r e f) = last r e f
two_of (more n r e all) = more n r e (two_of all)

any_enough : (ts : Forest) → enough TwoOrMore ts ≡ true → enough NoTrailing ts ≡ true
any_enough none n = cc
any_enough (part t ts) n = refl

-- the same as what is read from the place on, with those before
record Rest (v : Surroundings) (ts : Forest) (y : Place) (us : Forest) (z : Place) : Type 0 where
  parts : Forest
  is : us ≡ both ts parts
  some : enough NoTrailing parts ≡ true
  items : Items (Whole so_far) v NoTrailing (Expr 1) y parts z

pub record Listing (v : Surroundings) (x : Place) (ts : Forest) (y : Place) : Type 0 where
  to : (us : Forest) (z : Place) → enough NoTrailing us ≡ true → Items (Whole so_far) v NoTrailing (Expr 1) y us z → Items (Whole so_far) v NoTrailing (Expr 1) x (both ts us) z
  from : (us : Forest) (z : Place) → enough NoTrailing us ≡ true → Items (Whole so_far) v NoTrailing (Expr 1) x us z → ends_so_far (Expr 0) z ≡ true → Rest v ts y us z

-- a part with a comma behind it
pub listing_one : {v : Surroundings} {y z w : Place} {t : Tree} → Only so_far v (Part (Expr 1)) y (one t) z → closed z ≡ true → Moves (pun ",") z w → Listing v y (part t none) w
listing_one {v} {y} {z} {w} {t} o s m = record { to = ahead; from = back }
  where
    ahead : (us : Forest) (p : Place) → enough NoTrailing us ≡ true → Items (Whole so_far) v NoTrailing (Expr 1) w us p → Items (Whole so_far) v NoTrailing (Expr 1) y (part t us) p
    ahead none p n all = cc
    ahead (part u us) p n all = more (early (Expr 1) t refl (whole_of o.past).reads.reads.is) (whole_of o.past) (sym m.is) all

    back : (us : Forest) (p : Place) → enough NoTrailing us ≡ true → Items (Whole so_far) v NoTrailing (Expr 1) y us p → ends_so_far (Expr 0) p ≡ true → Rest v (part t none) w us p
    back us p n (nil f) e = cc
    back us p n (last {y = y'} {t = t'} r g f) e =
        let same = o.alone (one t') y' (tree r) in
        absurd (clash (ends_so_far (Expr 0) z) (subst (λ q. ends_so_far (Expr 0) q ≡ true) (sym (same.1 ∙ g)) e) (comma_goes z s (found_at (sym m.is) m.found)))
    back us p n (more {y = y'} {z = z'} {t = t'} {u = u} {us = vs} early' r g all) e =
        let same = o.alone (one t') y' (tree r) in
        let there : w ≡ z' = m.is ∙ (ap (forth (pun ",")) same.1 ∙ g) in
        record { parts = part u vs; is = λ i. part (item_of (sym same.0 i)) (part u vs); some = refl; items = subst (λ q. Items (Whole so_far) v NoTrailing (Expr 1) q (part u vs) p) (sym there) all }

both_snoc : (ts : Forest) (t : Tree) (us : Forest) → both ts (part t us) ≡ both (both ts (part t none)) us
both_snoc none t us = refl
both_snoc (part u ts) t us = ap (part u) (both_snoc ts t us)

-- one more behind those
pub listing_more : {v : Surroundings} {x y z w : Place} {ts us : Forest} {t : Tree} → Listing v x ts y → Only so_far v (Part (Expr 1)) y (one t) z → closed z ≡ true → Moves (pun ",") z w → us ≡ both ts (part t none) → Listing v x us w
listing_more {v} {x} {y} {z} {w} {ts} {us} {t} l o s m e = record {
  to = λ vs p n all. subst (λ ws. Items (Whole so_far) v NoTrailing (Expr 1) x ws p) (both_snoc ts t vs ∙ ap (λ r. both r vs) (sym e)) (l.to (part t vs) p refl (next_one.to vs p n all));
  from = λ vs p n all g.
      let r = l.from vs p n all g in
      let q = next_one.from r.parts p r.some r.items g in
      record { parts = q.parts; is = r.is ∙ (ap (both ts) q.is ∙ (both_snoc ts t q.parts ∙ ap (λ ws. both ws q.parts) (sym e))); some = q.some; items = q.items };
}
  where
    next_one : Listing v y (part t none) w
    next_one = listing_one o s m

-- ---- what is read where a sequence may stand

ends_one : (z : Place) → ends_so_far (Expr 0) z ≡ true → ends_so_far (Expr 1) z ≡ true
ends_one z e = of_so_far.covered (Expr 0) (Expr 1) z refl e

-- the parts of one, each read to its end
pub record Several (v : Surroundings) (x : Place) (vs : Forest) (z : Place) : Type 0 where
  pub parts : Forest
  pub is : vs ≡ part (list parts) none
  pub two : enough TwoOrMore parts ≡ true
  pub items : Items (Whole so_far) v NoTrailing (Expr 1) x parts z

several_walk : {v : Surroundings} (us : Forest) {x z : Place} {vs : Forest} → Walk (Whole so_far) (around v us) (row_so_far (expression Seq)) x vs z → Several v x vs z
several_walk us (next (many {ts = ts} e all) (done f)) = record { parts = ts; is = refl; two = e; items = some_of all }

pub several_of : {v : Surroundings} {x z : Place} {vs : Forest} → Whole so_far v false (Expr 0) x (node (expression Seq) vs) z → Several v x vs z
several_of {vs = vs} w = several_walk vs (whole_walk of_so_far (Expr 0) (row_so_far (expression Seq)) refl w.ends_there (of_so_far.from_node (expression Seq) w.reads).walk)

-- the first of them
record Head (v : Surroundings) (x : Place) : Type 0 where
  tree : Tree
  place : Place
  whole : Whole so_far v false (Expr 1) x tree place
  comma : IsTrue (is_found (forth (pun ",") place))

items_found : {v : Surroundings} {x z : Place} {ts : Forest} → Items (Whole so_far) v NoTrailing (Expr 1) x ts z → IsTrue (is_found x)
items_found (nil f) = f
items_found (last r e f) = start_found of_so_far r.reads
items_found (more n r e all) = start_found of_so_far r.reads

head_of : {v : Surroundings} {x z : Place} (ts : Forest) → enough TwoOrMore ts ≡ true → Items (Whole so_far) v NoTrailing (Expr 1) x ts z → Head v x
head_of ts n (nil f) = cc
head_of ts n (last r e f) = cc
head_of ts n (more {y = y} {t = t} m r e all) = record { tree = t; place = y; whole = r; comma = found_at e (items_found all) }

lost_comma : {y z : Place} → y ≡ z → forth (pun ",") y ≡ Lost → IsTrue (is_found (forth (pun ",") z)) → ⊥
lost_comma e l f = let bad : IsTrue (is_found Lost) = subst (λ p. IsTrue (is_found p)) (ap (forth (pun ",")) (sym e) ∙ l) f in cc

-- which is no deeper than all
head_shallow : {v : Surroundings} {x z : Place} (e : Fault) (ts : Forest) (n : enough TwoOrMore ts ≡ true) (items : Items (Whole so_far) v NoTrailing (Expr 1) x ts z) → Shallow e (deepest ts) → Shallow e (part_depth (head_of ts n items).tree)
unfolding head_of
head_shallow e ts n (nil f) s = cc
head_shallow e ts n (last r d f) s = cc
head_shallow e ts n (more {t = t} {u = u} {us = us} m r d all) s = shallow_head e t (part u us) s

-- one expression, with no comma behind it
pub whole_only : {v : Surroundings} {x y : Place} {t : Tree} → Only so_far v (Part (Expr 1)) x (one t) y → closed y ≡ true → forth (pun ",") y ≡ Lost → Only so_far v (Part (Expr 0)) x (one t) y
whole_only {v} {x} {y} {t} o s l = record {
  past = tree (record { reads = move at_any (value t refl (whole_of o.past).reads) (whole_of o.past).reads; ends_there = no_comma_ends y s l (whole_of o.past).ends_there });
  alone = at;
}
  where
    by : (u : Tree) (z : Place) → AtWhole u → Whole so_far v false (Expr 0) x u z → (one t ≡ one u) × (y ≡ z)
    by u z (single a) w = o.alone (one u) z (tree (record { reads = move at_one a w.reads; ends_there = ends_one z w.ends_there }))
    by u z (several {ts = vs}) w =
        let p = several_of w in
        let h = head_of p.parts p.two p.items in
        absurd (lost_comma (o.alone (one h.tree) h.place (tree h.whole)).1 l h.comma)

    at : (h : Given) (z : Place) → Past (Whole so_far) v (Part (Expr 0)) x h z → (one t ≡ h) × (y ≡ z)
    at h z (tree {t = u} w) = by u z (at_whole u w.reads) w

pub whole_barred : {v : Surroundings} {x : Place} {e : Fault} → Barred so_far v (Part (Expr 1)) x e → Barred so_far v (Part (Expr 0)) x e
whole_barred {v} {x} {e = e} b = record { no = at }
  where
    by : (u : Tree) (z : Place) → AtWhole u → Whole so_far v false (Expr 0) x u z → Shallow e (part_depth u) → ⊥
    by u z (single a) w s' = b.no (one u) z (tree (record { reads = move at_one a w.reads; ends_there = ends_one z w.ends_there })) s'
    by u z (several {ts = vs}) w s' =
        let p = several_of w in
        let h = head_of p.parts p.two p.items in
        b.no (one h.tree) h.place (tree h.whole) (head_shallow e p.parts p.two p.items (shallow_head e (list p.parts) none (subst (λ us. Shallow e (deepest us)) p.is (node_shallow e false refl of_so_far w.reads s'))))

    at : (h : Given) (z : Place) → Past (Whole so_far) v (Part (Expr 0)) x h z → Shallow e (given_depth h) → ⊥
    at h z (tree {t = u} w) s = by u z (at_whole u w.reads) w s

-- ---- a sequence

-- one part alone isn't those before a comma and one more
no_short : {a t : Tree} (bs parts : Forest) → enough NoTrailing parts ≡ true → part t none ≡ both (part a bs) parts → ⊥
no_short none none n e = cc
no_short none (part u us) n e = cc
no_short (part b bs) parts n e = cc

one_part : {v : Surroundings} {x z : Place} {u : Tree} → Whole so_far v false (Expr 1) x u z → Items (Whole so_far) v NoTrailing (Expr 1) x (part u none) z
one_part w = last w refl (end_found of_so_far w.reads)

no_single : {v : Surroundings} {x y z : Place} {a u : Tree} {bs : Forest} → Listing v x (part a bs) y → Whole so_far v false (Expr 1) x u z → ends_so_far (Expr 0) z ≡ true → ⊥
no_single {z = z} {u = u} {bs = bs} l w e = let r = l.from (part u none) z refl (one_part w) e in no_short bs r.parts r.some r.is

two_parts : (a t : Tree) (bs : Forest) → enough TwoOrMore (both (part a bs) (part t none)) ≡ true
two_parts a t none = refl
two_parts a t (part b bs) = refl

-- the last part
record Ended (t : Tree) (z : Place) (us : Forest) (p : Place) : Type 0 where
  is : us ≡ part t none
  place : z ≡ p

last_part : {v : Surroundings} {y z p : Place} {t : Tree} {us : Forest} → Only so_far v (Part (Expr 1)) y (one t) z → forth (pun ",") z ≡ Lost → enough NoTrailing us ≡ true → Items (Whole so_far) v NoTrailing (Expr 1) y us p → Ended t z us p
last_part o l n (nil f) = cc
last_part o l n (last {y = y'} {t = t'} r g f) = let same = o.alone (one t') y' (tree r) in record { is = λ i. part (item_of (sym same.0 i)) none; place = same.1 ∙ g }
last_part o l n (more {y = y'} {t = t'} m r g all) = absurd (lost_comma (o.alone (one t') y' (tree r)).1 l (found_at g (items_found all)))

pub sequence_only : {v : Surroundings} {x y z : Place} {a t w : Tree} {bs us : Forest} → Listing v x (part a bs) y → Only so_far v (Part (Expr 1)) y (one t) z → closed z ≡ true → forth (pun ",") z ≡ Lost → us ≡ both (part a bs) (part t none) → w ≡ node (expression Seq) (part (list us) none)
    → Only so_far v (Part (Expr 0)) x (one w) z
sequence_only {v} {x} {y} {z} {a} {t} {w} {bs} {us} l o s lost e is = subst (λ q. Only so_far v (Part (Expr 0)) x (one q) z) (sym (is ∙ ap (λ ws. node (expression Seq) (part (list ws) none)) e)) (record {
  past = tree (record { reads = of_so_far.to_node (expression Seq) refl (record { walk = loosen walk; keeps = and_both _ _ (plain (row_so_far (expression Seq)) refl (to_grammar of_so_far walk)) refl }); ends_there = no_comma_ends z s lost (whole_of o.past).ends_there });
  alone = at;
})
  where
    parts : Forest
    parts = both (part a bs) (part t none)

    walk : Walk (Whole so_far) (around v (part (list parts) none)) (row_so_far (expression Seq)) x (part (list parts) none) z
    walk = next (many (two_parts a t bs) (two_of (l.to (part t none) z refl (one_part (whole_of o.past))))) (done (end_found of_so_far (whole_of o.past).reads))

    by : (u : Tree) (p : Place) → AtWhole u → Whole so_far v false (Expr 0) x u p → (one (node (expression Seq) (part (list parts) none)) ≡ one u) × (z ≡ p)
    by u p (single b) q = absurd (no_single l (record { reads = move at_one b q.reads; ends_there = ends_one p q.ends_there }) q.ends_there)
    by u p (several {ts = vs}) q =
        let m = several_of q in
        let r = l.from m.parts p (any_enough m.parts m.two) m.items q.ends_there in
        let k = last_part o lost r.some r.items in
        (ap (λ ws. one (node (expression Seq) ws)) (sym (m.is ∙ ap (λ ws. part (list ws) none) (r.is ∙ ap (both (part a bs)) k.is))), k.place)

    at : (h : Given) (p : Place) → Past (Whole so_far) v (Part (Expr 0)) x h p → (one (node (expression Seq) (part (list parts) none)) ≡ h) × (z ≡ p)
    at h p (tree {t = u} q) = by u p (at_whole u q.reads) q

-- nothing behind a comma
first_barred : {v : Surroundings} {y p : Place} {e : Fault} (us : Forest) → Barred so_far v (Part (Expr 1)) y e → enough NoTrailing us ≡ true → Items (Whole so_far) v NoTrailing (Expr 1) y us p → Shallow e (deepest us) → ⊥
first_barred us b n (nil f) s = cc
first_barred {e = e} us b n (last {y = y'} {t = t'} r g f) s = b.no (one t') y' (tree r) (shallow_head e t' none s)
first_barred {e = e} us b n (more {y = y'} {t = t'} {u = u'} {us = us'} m r g all) s = b.no (one t') y' (tree r) (shallow_head e t' (part u' us') s)

pub sequence_barred : {v : Surroundings} {x y : Place} {a : Tree} {bs : Forest} {e : Fault} → Listing v x (part a bs) y → Barred so_far v (Part (Expr 1)) y e → Barred so_far v (Part (Expr 0)) x e
sequence_barred {v} {x} {a = a'} {bs = bs} {e = e} l b = record { no = at }
  where
    by : (u : Tree) (p : Place) → AtWhole u → Whole so_far v false (Expr 0) x u p → Shallow e (part_depth u) → ⊥
    by u p (single c) q a = no_single l (record { reads = move at_one c q.reads; ends_there = ends_one p q.ends_there }) q.ends_there
    by u p (several {ts = vs}) q a =
        let m = several_of q in
        let r = l.from m.parts p (any_enough m.parts m.two) m.items q.ends_there in
        let low : Shallow e (deepest m.parts) = shallow_head e (list m.parts) none (subst (λ us. Shallow e (deepest us)) m.is (node_shallow e false refl of_so_far q.reads a)) in
        first_barred r.parts b r.some r.items (shallow_up e (deepest r.parts) (deepest m.parts) (subst (λ us. deepest r.parts ≤ deepest us) (sym r.is) (both_up (part a' bs) r.parts)) low)

    at : (h : Given) (p : Place) → Past (Whole so_far) v (Part (Expr 0)) x h p → Shallow e (given_depth h) → ⊥
    at h p (tree {t = u} q) s = by u p (at_whole u q.reads) q s
