-- What stands among the parameters of a function, up to their `)`: as a loop of the parser reads it (ECMA-262 section 15.1). A name alone is read too before what goes on with an expression, so it is what stands behind a parameter that tells.
use Rattle.std.proofs.Common.{◌≡◌, nat_eq, Bool, List, [], ◌∷◌, true, false, not, refl, sym, ◌∙◌, ap, subst}
use Rattle.std.proofs.lemmas.Bool.{eqb-true, eq-eqb}
use Rattle.std.specs.Prelude.{IsTrue, codes, ◌&&◌, ◌||◌}
use Rattle.jsx_base.specs.Token.{Text, Lexeme, Operator, Punctuator, IdentifierName, Elision, among, at_front, breaks, first_is, is_token, same, skip, token}
use Rattle.jsx_base.proofs.Fronts.{other_ahead}
use Rattle.jsx_tree.specs.Signs.{AfterExpr, Sign, Tok, TrailingComma, Unless}
use Rattle.jsx_tree.specs.Kinds.{Binds, RestPat, WithInit, function, Tree, leaf, node, list, Forest, none, part}
use Rattle.jsx_tree.specs.Nonterminals.{Expr, Param, Pat, leaf_in}
use Rattle.jsx_tree.specs.Grammar.{Commas, Fixed, Many, Part, pun}
use Rattle.jsx_tree.specs.Form.{admits, is_last, is_leaf}
use Rattle.jsx_tree.specs.Reading.{Place, Lost, At, forth, go_if}
use Rattle.jsx_tree.specs.StaticRules.{Surroundings, is_word}
use Rattle.jsx_tree.specs.Walk.{is_found, Given, nothing, one, Piece, piece, Items, nil, last, more, Past, sign, tree, many, Walk, done, next, around, steady, tail}
use Rattle.jsx_tree.specs.Language.{Whole}
use Rattle.jsx_tree.specs.Answers.{Moves, Stuck, Missed, Only, Barred, OnlyRow, NoRow, Built}
use Rattle.jsx_tree.specs.Faults.{Fault, Shallow, part_depth, deepest, given_depth}
use Rattle.jsx_tree.proofs.Tokens.{and_both, and_left, and_right}
use Rattle.jsx_tree.proofs.Apart.{clash, never_both}
use Rattle.jsx_tree.proofs.Rows.Bridge.{found_first, found_at}
use Rattle.jsx_tree.proofs.Rows.Stopping.{stays, token_stops}
use Rattle.jsx_tree.proofs.Rows.Guarded.{whole_walk, whole_items_found, loosen, to_grammar}
use Rattle.jsx_tree.proofs.Rows.Bodies.{plain as plain_row}
use Rattle.jsx_tree.proofs.Rows.Laws.{end_found}
use Rattle.jsx_tree.proofs.Rows.Lists.{closed, ended_sign}
use Rattle.jsx_tree.proofs.Rows.Placing.{free_around, moved, node_shallow}
use Rattle.jsx_tree.proofs.Rows.Steps.{bar, both}
use Rattle.jsx_tree.proofs.Rows.Turns.{From, Turn, turn_only, turn_none, turn_as, turn_both, cons, item_of, whole_of, comma_trails, nothing_trails, prepend, prepend_cons, cons_up}
use Rattle.jsx_tree.proofs.Depth.Shallow.{shallow_first, shallow_rest, shallow_head, part_up}
use Rattle.jsx_function.proofs.Functions.{shallow_behind}
use Rattle.jsx_operand.specs.SoFar.{Staged, so_far}
use Rattle.jsx_token.specs.Marks.{ends_so_far, row_so_far}
use Rattle.jsx_operand.proofs.OfSoFar.{of_so_far}
use Rattle.jsx_operand.proofs.Climbing.{signed_built, signed_none}
use Rattle.jsx_operand.specs.Patterns.{is_compound}
use Rattle.jsx_operand.proofs.Patterns.{pattern_early, pattern_unmarked, pattern_word, unresting}
use Rattle.jsx_function.specs.Elements.{is_hole}
use Rattle.jsx_function.specs.Functions.{OnlyParam}
use Rattle.jsx_function.specs.Patterns.{IsElement, NoElement, OnlyFilled}
use Rattle.jsx_function.proofs.Defaults.{AtDefault, pattern, valued, rest, hole, at_default, rest_led, rest_row, unled, value_whole}

stuck_not : {s : Sign} {x : Place} → Stuck s x → IsTrue (is_found (forth s x)) → ⊥
stuck_not k f = let bad : IsTrue (is_found Lost) = subst (λ p. IsTrue (is_found p)) k.is f in cc

-- ---- a guard against a comma

abbrev is_comma : Lexeme → Bool
is_comma x = is_token x Punctuator (codes ",")

comma_front : (f : Bool) (s : Text) → is_comma (at_front Operator f (44 ∷ s)) ≡ true
comma_front true s = refl
comma_front false s = refl

-- a token that is spelled so is one, whether it is the first of the text or not
comma_there : (f g : Bool) (s : Text) → same (at_front Operator f s).raw (codes ",") ≡ true → is_comma (at_front Operator g s) ≡ true
comma_there f g s h = by (first_is (nat_eq 44) s) refl
  where
    begins : (t : Text) → first_is (nat_eq 44) t ≡ true → is_comma (at_front Operator g t) ≡ true
    begins [] e = cc
    begins (c ∷ t) e = subst (λ d. is_comma (at_front Operator g (d ∷ t)) ≡ true) (eqb-true 44 c e) (comma_front g t)

    by : (b : Bool) → first_is (nat_eq 44) s ≡ b → is_comma (at_front Operator g s) ≡ true
    by true e = begins s e
    by false e =
        let x = at_front Operator f s in
        absurd (clash (is_token x x.kind (codes ",")) (and_both _ _ (eq-eqb _ _ refl) h) ((other_ahead x.kind 44 [] Operator s e).not_it f))

or_false : (a : Bool) → (a || false) ≡ true → a ≡ true
or_false true e = refl
or_false false e = e

pub unless_comma : (x : Place) → is_found (forth (pun ",") x) ≡ false → IsTrue (is_found x) → forth (Unless (codes "," ∷ [])) x ≡ x
unless_comma Lost n f = refl
unless_comma (At q e text) n f = by (among (token Operator false text).raw (codes "," ∷ [])) refl
  where
    by : (b : Bool) → among (token Operator false text).raw (codes "," ∷ []) ≡ b → go_if (not b) (At q e text) ≡ At q e text
    by false h = refl
    by true h =
        let there = comma_there (breaks text) (same q [] || breaks text) (skip text) (or_false _ h) in
        let found : is_found (forth (pun ",") (At q e text)) ≡ true = ap (λ b. is_found (go_if b (At (codes ",") AfterExpr (token Operator (same q []) text).rest))) there in
        absurd (clash _ found n)

comma_lost : (b : Bool) (y : Place) → IsTrue (is_found (go_if b y)) → b ≡ true
comma_lost true y f = refl
comma_lost false y f = cc

pub comma_unless : (x : Place) → IsTrue (is_found (forth (pun ",") x)) → forth (Unless (codes "," ∷ [])) x ≡ Lost
comma_unless Lost f = refl
comma_unless (At q e text) f =
    let m = token Operator (same q []) text in
    let i : is_comma m ≡ true = comma_lost (is_comma m) (At (codes ",") AfterExpr m.rest) f in
    let j : is_comma (token Operator false text) ≡ true = comma_there (same q [] || breaks text) (breaks text) (skip text) (and_right _ _ i) in
    let raw : same (token Operator false text).raw (codes ",") ≡ true = and_right _ _ j in (λ k. go_if (not (raw k || false)) (At q e text))

-- ---- what stands there

unholed : {v : Surroundings} {x y : Place} (t : Tree) → Staged v false Param x t y → is_hole t ≡ false
unholed (leaf Elision t) r = let bad = r.staged in cc
unholed (leaf _ t) r = refl
unholed (node k ts) r = refl
unholed (list ts) r = refl

barred_by : {v : Surroundings} {x : Place} {e : Fault} → ((u : Tree) (z : Place) → AtDefault v x z u → Whole so_far v false Param x u z → Shallow e (part_depth u) → ⊥) → Barred so_far v (Part Param) x e
barred_by {v} {x} {e = e} f = record { no = at }
  where
    at : (g : Given) (z : Place) → Past (Whole so_far) v (Part Param) x g z → Shallow e (given_depth g) → ⊥
    at g z (tree {t = u} w) s = f u z (at_default Param u refl w.reads) w s

pub pattern_found : {v : Surroundings} {x y : Place} {t : Tree} → Only so_far v (Part (Pat Binds)) x (one t) y → IsTrue (is_found y)
pattern_found o = end_found of_so_far (whole_of o.past).reads

rest_whole : {v : Surroundings} {x z : Place} {ts : Forest} → Whole so_far v false Param x (node (function (RestPat Binds)) ts) z → Walk (Whole so_far) (steady v) rest_row x ts z
rest_whole {v} {ts = ts} w = moved (λ a h. free_around a ts v h) refl (whole_walk of_so_far Param rest_row refl w.ends_there (of_so_far.from_node (function (RestPat Binds)) w.reads).walk)

-- ---- a pattern, with a default or without one

pub element_param : {v : Surroundings} {x x' y : Place} {t : Tree} → Missed (pun "...") x x' → IsElement v x' t y → OnlyParam v x t y
element_param {v} {x} {y = y} {t} m given = record { reads = o.reads; alone = λ u z w. o.alone u z (unholed u w.reads) w }
  where
    o : OnlyFilled v Param x t y
    o = subst (λ p. OnlyFilled v Param p t y) (sym m.same) (given.on Param refl)

pub no_element : {v : Surroundings} {x x' : Place} {e : Fault} → Missed (pun "...") x x' → NoElement v x' e → Barred so_far v (Part Param) x e
no_element {v} {x} {e = e} m given = barred_by (λ u z p w s. at p w s)
  where
    n : NoElement v x e
    n = subst (λ w. NoElement v w e) (sym m.same) given

    at : {u : Tree} {z : Place} → AtDefault v x z u → Whole so_far v false Param x u z → Shallow e (part_depth u) → ⊥
    at {u} {z} (pattern r) w s = n.no Param refl u z (unholed u w.reads) (unresting u r) w s
    at {z = z} (valued {ts}) w s = n.no Param refl (node (function (WithInit Binds)) ts) z refl refl w s
    at rest w s = stuck_not m.stuck (rest_led w.reads)
    at hole w s = let bad = w.reads.staged in cc

-- whether it is a name alone
pub element_word : {v : Surroundings} {x y : Place} {t : Tree} → IsElement v x t y → is_word t ≡ not (is_compound t)
element_word {v} {x} {y} {t} o = at (at_default Param t refl (o.on Param refl).reads) (o.on Param refl).filled
  where
    at : {u : Tree} → AtDefault v x y u → is_hole u ≡ false → is_word u ≡ not (is_compound u)
    at {u} (pattern r) f = pattern_word u r
    at valued f = refl
    at rest f = refl
    at hole f = cc

-- ---- a rest

pub rest_param : {v : Surroundings} {x a y : Place} {t : Tree} → Moves (pun "...") x a → Built so_far v (tail rest_row) (function (RestPat Binds)) (λ ts. ts) t a y → OnlyParam v x t y
rest_param {v} {x} {a} {y} {t} m b = record {
  reads = subst (λ u. Staged v false Param x u y) (sym w.is) (of_so_far.to_node (function (RestPat Binds)) refl (record { walk = loosen (moved (λ c h. sym (free_around c w.parts v h)) refl w.row.walk); keeps = and_both _ _ (plain_row rest_row refl (to_grammar of_so_far w.row.walk)) refl }));
  alone = λ u p q. at (at_default Param u refl q.reads) q;
}
  where
    w : Built so_far v rest_row (function (RestPat Binds)) (λ ts. ts) t x y
    w = signed_built rest_row refl m b

    there : IsTrue (is_found (forth (pun "...") x))
    there = found_at (sym m.is) m.found

    at : {u : Tree} {p : Place} → AtDefault v x p u → Whole so_far v false Param x u p → (t ≡ u) × (y ≡ p)
    at {u} (pattern r) q = absurd (pattern_unmarked u (codes "...") refl refl r there)
    at valued q = absurd (unled (codes "...") refl refl (value_whole Param refl q) there)
    at {p = p} (rest {ts}) q = let e = w.row.alone ts p (rest_whole q) in (w.is ∙ ap (node (function (RestPat Binds))) e.0, e.1)
    at hole q = let bad = q.reads.staged in cc

pub no_rest_param : {v : Surroundings} {x a : Place} {e : Fault} → Moves (pun "...") x a → NoRow so_far v (tail rest_row) a e → Barred so_far v (Part Param) x e
no_rest_param {v} {x} {e = e} m n = barred_by (λ u z p w s. at p w s)
  where
    there : IsTrue (is_found (forth (pun "...") x))
    there = found_at (sym m.is) m.found

    at : {u : Tree} {p : Place} → AtDefault v x p u → Whole so_far v false Param x u p → Shallow e (part_depth u) → ⊥
    at {u} (pattern r) q s = pattern_unmarked u (codes "...") refl refl r there
    at valued q s = unled (codes "...") refl refl (value_whole Param refl q) there
    at {p = p} (rest {ts}) q s = (signed_none rest_row refl m n).no ts p (rest_whole q) (node_shallow e false refl of_so_far q.reads s)
    at hole q s = let bad = q.reads.staged in cc

-- ---- the list, and what closes it

abbrev closing : List Piece
closing = piece [] (Fixed (pun ")")) ∷ []

abbrev inside : List Piece
inside = piece [] (Many Commas Param) ∷ closing

closing_found : {v : Surroundings} {x w : Place} {us : Forest} → Walk (Whole so_far) (steady v) closing x us w → IsTrue (is_found (forth (pun ")") x))
closing_found (next (sign e f) walk) = found_at e f

-- where another mark stands, no parameter does
pub unmarked : {v : Surroundings} {x z : Place} {u : Tree} (d : Text) → same (codes "...") d ≡ false → same (codes "[") d ≡ false → same (codes "{") d ≡ false → IsTrue (is_found (forth (Tok Operator Punctuator d) x)) → Whole so_far v false Param x u z → ⊥
unmarked {v} {x} {z} {u} d m k l f w = at (at_default Param u refl w.reads) w
  where
    at : {t : Tree} → AtDefault v x z t → Whole so_far v false Param x t z → ⊥
    at {t} (pattern r) q = pattern_unmarked t d k l r f
    at valued q = unled d k l (value_whole Param refl q) f
    at rest q = never_both Punctuator Punctuator (codes "...") d x m (rest_led q.reads) f
    at hole q = let bad = q.reads.staged in cc

pub comma_ends : (y : Place) → IsTrue (is_found (forth (pun ",") y)) → ends_so_far Param y ≡ true
comma_ends y f = of_so_far.ends_there Param y (token_stops Param Punctuator 44 [] y refl f)

pub close_ends : (y : Place) → IsTrue (is_found (forth (pun ")") y)) → ends_so_far Param y ≡ true
close_ends y f = of_so_far.ends_there Param y (token_stops Param Punctuator 41 [] y refl f)

whole_before : {v : Surroundings} {x y : Place} {t : Tree} → OnlyParam v x t y → ends_so_far Param y ≡ true → Whole so_far v false Param x t y
whole_before o e = record { reads = o.reads; ends_there = e }

-- no comma stands behind a rest
pub rest_guard : {v : Surroundings} {x y : Place} {ts us : Forest} → Walk Staged (around v us) rest_row x ts y → IsTrue (is_found (forth (pun ",") y)) → ⊥
rest_guard (next d (next q (next {x = p} (sign e f) (done g)))) c =
    let there = sym e ∙ stays (Unless (codes "," ∷ [])) p refl (found_at e f) in
    let gone : forth (Unless (codes "," ∷ [])) p ≡ Lost = comma_unless p (subst (λ b. IsTrue (is_found (forth (pun ",") b))) there c) in
    let bad : IsTrue (is_found Lost) = subst (λ b. IsTrue (is_found b)) (sym e ∙ gone) f in cc

pub not_last : {v : Surroundings} {x y : Place} {t : Tree} → Staged v false Param x t y → IsTrue (is_found (forth (pun ",") y)) → is_last t ≡ false
not_last {v} {x} {y} {t} r c = at (at_default Param t refl r) r
  where
    at : {u : Tree} → AtDefault v x y u → Staged v false Param x u y → is_last u ≡ false
    at {u} (pattern r) q = pattern_early u r
    at valued q = refl
    at (rest {ts}) q = absurd (rest_guard {us = ts} (of_so_far.from_node (function (RestPat Binds)) q).walk c)
    at hole q = refl

-- ---- a parameter and a comma

turn_param : {v : Surroundings} {x y z : Place} {t : Tree} → OnlyParam v x t y → Stuck (pun ")") x → Moves (pun ",") y z → Turn so_far v inside inside x z (cons t)
turn_param {v} {x} {y} {z} {t} o c m = record { to = forward; from = back; rises = cons_up t }
  where
    there : IsTrue (is_found (forth (pun ",") y))
    there = found_at (sym m.is) m.found

    whole : Whole so_far v false Param x t y
    whole = whole_before o (comma_ends y there)

    ahead : (ts : Forest) (p : Place) → Items (Whole so_far) v Commas Param z ts p → Items (Whole so_far) v Commas Param x (part t ts) p
    ahead none p (nil f) = last whole (comma_trails m) m.found
    ahead (part u none) p all = more (not_last o.reads there) whole (sym m.is) all
    ahead (part u (part u' us)) p all = more (not_last o.reads there) whole (sym m.is) all

    forward : (ts : Forest) (w : Place) → Walk (Whole so_far) (steady v) inside z ts w → Walk (Whole so_far) (steady v) inside x (cons t ts) w
    forward ts w (next {ts = vs} (many {ts = us} e all) walk) = next (many refl (ahead us _ all)) walk

    inner : (ts : Forest) (p : Place) → Items (Whole so_far) v Commas Param x ts p → (us : Forest) (w : Place) → Walk (Whole so_far) (steady v) closing p us w → From so_far v inside z (cons t) (part (list ts) us) w
    inner ts p (nil f) us w walk = absurd (stuck_not c (closing_found walk))
    inner ts p (last {y = y'} {t = t'} r e f) us w walk =
        let s = o.alone t' y' r in
        let here : z ≡ p = sym (comma_trails m) ∙ (ap (forth TrailingComma) s.1 ∙ e) in
        record { parts = part (list none) us; is = λ i. part (list (part (s.0 i) none)) us; walk = next (many refl (nil m.found)) (subst (λ p. Walk (Whole so_far) (steady v) closing p us w) (sym here) walk) }
    inner ts p (more {y = y'} {z = z'} {t = t'} {u = u} {us = vs} n r e all) us w walk =
        let s = o.alone t' y' r in
        let here : z ≡ z' = m.is ∙ (ap (forth (pun ",")) s.1 ∙ e) in
        record { parts = part (list (part u vs)) us; is = λ i. part (list (part (s.0 i) (part u vs))) us; walk = next (many refl (subst (λ q. Items (Whole so_far) v Commas Param q (part u vs) p) (sym here) all)) walk }

    back : (us : Forest) (w : Place) → Walk (Whole so_far) (steady v) inside x us w → From so_far v inside z (cons t) us w
    back us w (next {ts = vs} (many {ts = ts} e all) walk) = inner ts _ all vs w walk

-- ---- the last parameter, with no comma behind it

-- whatever is read there is this one and the bracket
last_from : {v : Surroundings} {x y : Place} {t : Tree} → OnlyParam v x t y → Stuck (pun ")") x → Stuck (pun ",") y → (us : Forest) (w : Place) → Walk (Whole so_far) (steady v) inside x us w → From so_far v closing y (part (list (part t none))) us w
last_from {v} {x} {y} {t} o c n us w (next {ts = vs} (many {ts = ts} e all) walk) = inner ts _ all vs w walk
  where
    inner : (ts : Forest) (p : Place) → Items (Whole so_far) v Commas Param x ts p → (us : Forest) (w : Place) → Walk (Whole so_far) (steady v) closing p us w → From so_far v closing y (part (list (part t none))) (part (list ts) us) w
    inner ts p (nil f) us w walk = absurd (stuck_not c (closing_found walk))
    inner ts p (last {y = y'} {t = t'} r e f) us w walk =
        let s = o.alone t' y' r in
        let here : y ≡ p = sym (nothing_trails y n) ∙ (ap (forth TrailingComma) s.1 ∙ e) in
        record { parts = us; is = λ i. part (list (part (s.0 i) none)) us; walk = subst (λ p. Walk (Whole so_far) (steady v) closing p us w) (sym here) walk }
    inner ts p (more {y = y'} {z = z'} {t = t'} m r e all) us w walk =
        let s = o.alone t' y' r in
        absurd (stuck_not n (subst (λ q. IsTrue (is_found (forth (pun ",") q))) (sym s.1) (found_at e (whole_items_found of_so_far all))))

turn_end : {v : Surroundings} {x y : Place} {t : Tree} → OnlyParam v x t y → Stuck (pun ")") x → Stuck (pun ",") y → IsTrue (is_found (forth (pun ")") y)) → Turn so_far v inside closing x y (part (list (part t none)))
turn_end {y = y} {t = t} o c n f = record { to = λ ts w walk. next (many refl (last (whole_before o (close_ends y f)) (nothing_trails y n) (end_found of_so_far o.reads))) walk; from = last_from o c n; rises = part_up (list (part t none)) }

-- ---- where nothing more stands

turn_shut : {v : Surroundings} {x z : Place} → Moves (pun ")") x z → Turn so_far v inside closing x x (part (list none))
turn_shut {v} {x} {z} m = record { to = λ ts w walk. next (many refl (nil (found_first (pun ")" ∷ []) x there))) walk; from = back; rises = part_up (list none) }
  where
    there : IsTrue (is_found (forth (pun ")") x))
    there = found_at (sym m.is) m.found

    inner : (ts : Forest) (p : Place) → Items (Whole so_far) v Commas Param x ts p → (us : Forest) (w : Place) → Walk (Whole so_far) (steady v) closing p us w → From so_far v closing x (part (list none)) (part (list ts) us) w
    inner ts p (nil f) us w walk = record { parts = us; is = refl; walk = walk }
    inner ts p (last r e f) us w walk = absurd (unmarked (codes ")") refl refl refl there r)
    inner ts p (more n r e all) us w walk = absurd (unmarked (codes ")") refl refl refl there r)

    back : (us : Forest) (w : Place) → Walk (Whole so_far) (steady v) inside x us w → From so_far v closing x (part (list none)) us w
    back us w (next {ts = vs} (many {ts = ts} e all) walk) = inner ts _ all vs w walk

both_none : (ts : Forest) → both ts none ≡ ts
both_none none = refl
both_none (part t ts) = ap (part t) (both_none ts)

-- ---- the steps of the loop

pub shut : {v : Surroundings} {x y z : Place} (ts : Forest) → Turn so_far v inside inside x y (prepend ts) → Moves (pun ")") y z → OnlyRow so_far v inside x (part (list ts) none) z
shut {v} {x} {z = z} ts so m = subst (λ us. OnlyRow so_far v inside x (part (list us) none) z) (both_none ts) (turn_only so (turn_only (turn_shut m) (closed m)))

pub none_more : {v : Surroundings} {x y y' : Place} {o : Fault} (ts : Forest) → Turn so_far v inside inside x y (prepend ts) → Missed (pun ")") y y' → Barred so_far v (Part Param) y' o → NoRow so_far v inside x o
none_more {v} {y = y} {o = o} ts so m n = turn_none so (record { no = back })
  where
    here : Barred so_far v (Part Param) y o
    here = subst (λ w. Barred so_far v (Part Param) w o) (sym m.same) n

    inner : (ts : Forest) (p : Place) → Items (Whole so_far) v Commas Param y ts p → (us : Forest) (w : Place) → Walk (Whole so_far) (steady v) closing p us w → Shallow o (deepest ts) → Shallow o (deepest us) → ⊥
    inner ts p (nil f) us w walk h q' = stuck_not m.stuck (closing_found walk)
    inner ts p (last {t = t'} r e f) us w walk h q' = here.no _ _ (tree r) (shallow_head o t' none h)
    inner ts p (more {t = t'} {u = u'} {us = vs'} k r e all) us w walk h q' = here.no _ _ (tree r) (shallow_head o t' (part u' vs') h)

    back : (us : Forest) (w : Place) → Walk (Whole so_far) (steady v) inside y us w → Shallow o (deepest us) → ⊥
    back us w (next {ts = vs} (many {ts = ts} e all) walk) s = inner ts _ all vs w walk (shallow_first o (one (list ts)) vs s) (shallow_rest o (one (list ts)) vs s)

param_at : {v : Surroundings} {y y' z : Place} {t : Tree} → Missed (pun ")") y y' → OnlyParam v y' t z → OnlyParam v y t z
param_at {v} {z = z} {t} n o = subst (λ p. OnlyParam v p t z) (sym n.same) o

pub param_more : {v : Surroundings} {x y y' z w : Place} {t : Tree} (ts us : Forest) → Turn so_far v inside inside x y (prepend ts) → Missed (pun ")") y y' → OnlyParam v y' t z → Moves (pun ",") z w → us ≡ both ts (part t none) → Turn so_far v inside inside x w (prepend us)
param_more {t = t} ts us so n o m e = turn_as (λ vs. prepend_cons ts t vs ∙ (λ i. prepend (sym e i) vs)) (turn_both so (turn_param (param_at n o) n.stuck m))

pub shut_behind : {v : Surroundings} {x y y' z z' w : Place} {t : Tree} (ts us : Forest) → Turn so_far v inside inside x y (prepend ts) → Missed (pun ")") y y' → OnlyParam v y' t z → Missed (pun ",") z z' → Only so_far v (Fixed (pun ")")) z' nothing w → us ≡ both ts (part t none) → OnlyRow so_far v inside x (part (list us) none) w
shut_behind {v} {x} {z = z} {z'} {w} {t} ts us so n o m k e =
    subst (λ vs. OnlyRow so_far v inside x (part (list vs) none) w) (sym e)
    (turn_only so (turn_only (turn_end (param_at n o) n.stuck m.stuck (at here.past)) (ended_sign here)))
  where
    here : Only so_far v (Fixed (pun ")")) z nothing w
    here = subst (λ p. Only so_far v (Fixed (pun ")")) p nothing w) (sym m.same) k

    at : Past (Whole so_far) v (Fixed (pun ")")) z nothing w → IsTrue (is_found (forth (pun ")") z))
    at (sign e f) = found_at e f

pub unshut : {v : Surroundings} {x y y' z z' : Place} {t : Tree} {e : Fault} (ts : Forest) → Turn so_far v inside inside x y (prepend ts) → Missed (pun ")") y y' → OnlyParam v y' t z → Missed (pun ",") z z' → Barred so_far v (Fixed (pun ")")) z' e → NoRow so_far v inside x e
unshut {v} {y = y} {z = z} {t = t} {e = e} ts so n o m b = turn_none so (record { no = λ us w walk s. let f = last_from (param_at n o) n.stuck m.stuck us w walk in here.no f.parts w f.walk (shallow_behind e (list (part t none)) f.parts us f.is s) })
  where
    here : NoRow so_far v closing z e
    here = bar (subst (λ p. Barred so_far v (Fixed (pun ")")) p e) (sym m.same) b)
