-- Two readings of one list of declarators from one place are one.
use Rattle.std.proofs.Common.{◌≡◌, Bool, true, false, not, List, [], refl, sym, ◌∙◌, ap, subst}
use Rattle.std.specs.Prelude.{IsTrue, ◌&&◌, ◌||◌, nat_eq, codes}
use Rattle.jsx_base.specs.Token.{Punctuator, same, breaks}
use Rattle.jsx_tree.specs.Signs.{AfterBlock, Sign, Semicolon, Ends, AfterExpr, AfterBinding, Space, Unless}
use Rattle.jsx_tree.specs.Kinds.{Declarator, Kind, statement, Tree, leaf, node, list, Forest, none, part}
use Rattle.jsx_tree.specs.Nonterminals.{Expr, Declarators, homes, in_homes, leaf_in}
use Rattle.jsx_tree.specs.Grammar.{NoTrailing, Optional}
use Rattle.jsx_tree.specs.Form.{admits, fits_below, enough}
use Rattle.jsx_tree.specs.StaticRules.{Surroundings}
use Rattle.jsx_tree.specs.Spelling.{between}
use Rattle.jsx_tree.specs.Reading.{Place, Lost, At, forth, scan, continues}
use Rattle.jsx_tree.proofs.Tokens.{and_left, and_both}
use Rattle.jsx_tree.specs.Walk as W
use Rattle.jsx_tree.specs.Walk.{is_found, IsRead}
use Rattle.jsx_tree.proofs.OneTree.Statements.{place, stated_kinds, nth}
use Rattle.jsx_tree.proofs.OneTree.Readings.{kind_at, text_at, comma}
use Rattle.jsx_tree.proofs.OneTree.Checks.{every}
use Rattle.jsx_tree.proofs.OneTree.Facts.{never, or_else, Test, yes', no', test, eq_nat, Seen, seen}
use Rattle.jsx_tree.proofs.OneTree.Pairs.{two_tokens, no_comma}
use Rattle.jsx_tree.proofs.Rows.Bridge.{node_walk}
use Rattle.jsx_tree.proofs.OneTree.Fine.{at_sign, at_part, at_end}
use Rattle.jsx_tree.proofs.OneTree.Spines.{home_of}
use Rattle.jsx_tree.proofs.OneTree.Statements.{stated_nth, for_stated}
use Rattle.jsx_tree.proofs.OneTree.Endings.{past}
use Rattle.jsx_tree.proofs.OneTree.Missing.{at_semi}
use Rattle.jsx_tree.proofs.OneTree.Missing.{Behind, a_mark, a_brace, a_line, behind as behind_semi}
use Rattle.jsx_tree.proofs.OneTree.Afters.{after_tree}
use Rattle.jsx_tree.proofs.OneTree.Known.{stated}
use Rattle.jsx_tree.proofs.OneTree.Evidence.{Kept, Kepts, kept_left, kept_right, kept_listed, kept_kind, kept_parts}
use Rattle.jsx_tree.proofs.OneTree.Parts.{tame_of}
use Rattle.jsx_tree.proofs.OneTree.Wants.{bound, is_declared, mark, read_start, look_same, at_optional}
use Rattle.jsx_tree.proofs.OneTree.Rows.{All, all_parts, own_leaf, own_kind, own_same}
use Rattle.jsx_tree.proofs.OneTree.Lists.{SameRow}

declarator_kinds : every (λ k. not (in_homes Declarators (homes k)) || nat_eq (place k) (place (statement Declarator))) stated_kinds ≡ true
declarator_kinds = refl

pub declarator_kind : (k : Kind) → stated k ≡ true → in_homes Declarators (homes k) ≡ true → k ≡ statement Declarator
declarator_kind k t h =
    let e = or_else (not (in_homes Declarators (homes k))) _ (for_stated (λ k. not (in_homes Declarators (homes k)) || nat_eq (place k) (place (statement Declarator))) declarator_kinds k t) (ap not h) in
    sym (stated_nth k t) ∙ ap (nth stated_kinds) (eq_nat {a = place k} {b = place (statement Declarator)} e)

after_bound : (x : Place) → past x ≡ true → bound x ≡ true
after_bound (At q AfterExpr text) a = refl
after_bound (At q AfterBlock text) a = refl
after_bound _ a = cc

ends_bound : (x y : Place) → forth (Ends AfterBinding) x ≡ y → IsTrue (is_found y) → bound y ≡ true
ends_bound Lost y e f = absurd (never false (subst (λ p. is_found p ≡ true) (sym e) f) refl)
ends_bound (At q g text) y e f = subst (λ p. bound p ≡ true) e refl

init_bound : {v : Surroundings} {m : List Sign} {x y : Place} {t : Tree} → bound x ≡ true → Kept t → W.Past IsRead v (Optional m (Expr 1) [] []) x (W.one t) y → bound y ≡ true
init_bound b h (W.absent {x = x} {y = y} e f) = subst (λ z. bound z ≡ true) (look_same (Unless []) x y refl e f) b
init_bound b h (W.present {z = z} {t = t} e r g f) = subst (λ z. bound z ≡ true) g (after_bound z (after_tree t (Expr 1) (tame_of t (Expr 1) refl (kept_left (kept_listed h)) r.is) refl r))

-- a declarator ends behind its initialiser, or where it has none
bound_end : {v : Surroundings} {x y : Place} (t : Tree) → Kept t → IsRead v false Declarators x t y → bound y ≡ true
bound_end (leaf s t) h r = absurd (own_leaf Declarators s t refl (and_left (leaf_in Declarators s t) _ r.is))
bound_end (list ts) h r = let bad = r.is in cc
bound_end {v} {x} {y} (node k cs) h r =
    let i = home_of Declarators k cs (and_left (admits Declarators (node k cs)) (fits_below Declarators (node k cs)) r.is) in
    let e = declarator_kind k (own_kind Declarators k refl (kept_kind h) i) i in
    let p = at_part (node_walk false (statement Declarator) refl (subst (λ k. IsRead v false Declarators x (node k cs) y) e r)).walk in
    let s = at_sign p.walk in
    let o = at_optional s.walk in
    let g = kept_right (subst Kepts p.is (kept_parts h)) in
    subst (λ z. bound z ≡ true) (at_end o.walk).1 (init_bound (ends_bound p.next s.next s.moves s.found) (kept_left (subst Kepts o.is g)) o.past)

-- ---- what stands behind the last

-- a `;`, or a semicolon that is missing
abbrev pub ended_list : Place → Bool
ended_list x = is_found (forth (mark (codes ";")) x) || is_found (forth Semicolon x)

or_left : (a b : Bool) → a ≡ true → (a || b) ≡ true
or_left true b h = refl
or_left false b h = cc

or_right : (a b : Bool) → b ≡ true → (a || b) ≡ true
or_right true b h = refl
or_right false b h = h

end_declared : (x : Place) → bound x ≡ true → ended_list x ≡ true → is_declared x ≡ true
end_declared x b h = or_right (is_found (forth comma x)) _ (by_mark (test (is_found (forth (mark (codes ";")) x))))
  where
    by_mark : Test (is_found (forth (mark (codes ";")) x)) → (is_found (forth (mark (codes ";")) x) || (bound x && is_found (forth Semicolon x))) ≡ true
    by_mark (yes' f) = or_left _ _ f
    by_mark (no' n) = or_right (is_found (forth (mark (codes ";")) x)) _ (and_both (bound x) _ b (or_else (is_found (forth (mark (codes ";")) x)) _ h n))

bound_comma : (x : Place) → bound x ≡ true → IsTrue (is_found (forth Semicolon x)) → Seen x Punctuator (codes ",") → ⊥
bound_comma Lost b f s = cc
bound_comma (At q AfterExpr text) b f s = no_comma s (at_semi (At q AfterExpr text) refl f)
bound_comma (At q AfterBlock text) b f s = no_comma s (at_semi (At q AfterBlock text) refl f)
bound_comma (At q AfterBinding text) b f s = by_behind (behind_semi q AfterBinding text refl f (ap (λ k. nat_eq k 14) s.kind))
  where
    by_behind : Behind AfterBinding q (breaks text) (kind_at (At q AfterBinding text)) (text_at (At q AfterBinding text)) → ⊥
    by_behind (a_mark k t) = never (same (codes ",") (codes ";")) (ap (λ u. same u (codes ";")) (sym s.text ∙ t)) refl
    by_behind (a_brace k t) = never (same (codes ",") (codes "}")) (ap (λ u. same u (codes "}")) (sym s.text ∙ t)) refl
    by_behind (a_line b' c) = never (continues AfterBinding q (codes ",")) refl (ap (continues AfterBinding q) (sym s.text) ∙ c)
bound_comma (At q _ text) b f s = cc

end_comma : (x : Place) → bound x ≡ true → ended_list x ≡ true → IsTrue (is_found (forth comma x)) → ⊥
end_comma x b h g = by_mark (test (is_found (forth (mark (codes ";")) x)))
  where
    s : Seen x Punctuator (codes ",")
    s = seen Punctuator (codes ",") x g

    by_mark : Test (is_found (forth (mark (codes ";")) x)) → ⊥
    by_mark (yes' f) = two_tokens s (seen Punctuator (codes ";") x f) refl
    by_mark (no' n) = bound_comma x b (or_else (is_found (forth (mark (codes ";")) x)) _ h n) s

-- ---- the list

space_sign : (x : Place) → forth Space x ≡ x
space_sign Lost = refl
space_sign (At q e text) = refl

pub after_comma : (y : Place) {z : Place} → scan y (between NoTrailing) ≡ z → forth comma y ≡ z
after_comma y e = sym (space_sign (forth comma y)) ∙ e

pub items_start : {v : Surroundings} {x y : Place} {t : Tree} {ts : Forest} → W.Items IsRead v NoTrailing Declarators x (part t ts) y → IsTrue (is_found x)
items_start (W.last r e f) = read_start r
items_start (W.more n r e i) = read_start r

move_items : {v : Surroundings} {x x' y : Place} {ts : Forest} → x ≡ x' → W.Items IsRead v NoTrailing Declarators x' ts y → W.Items IsRead v NoTrailing Declarators x ts y
move_items {v} {y = y} {ts} e i = subst (λ x. W.Items IsRead v NoTrailing Declarators x ts y) (sym e) i

comma_found : (y : Place) {z : Place} → scan y (between NoTrailing) ≡ z → IsTrue (is_found z) → IsTrue (is_found (forth comma y))
comma_found y e f = subst (λ z. IsTrue (is_found z)) (sym (after_comma y e)) f

comma_declared : (y : Place) → IsTrue (is_found (forth comma y)) → is_declared y ≡ true
comma_declared y f = or_left (is_found (forth comma y)) _ f

last_declared : {v : Surroundings} {x y z : Place} (t : Tree) → Kept t → IsRead v false Declarators x t y → y ≡ z → ended_list z ≡ true → is_declared y ≡ true
last_declared {y = y} t h r e m = end_declared y (bound_end t h r) (subst (λ z. ended_list z ≡ true) (sym e) m)

pub declarators_same : {v w : Surroundings} {x y z : Place} (ts us : Forest) → enough NoTrailing ts ≡ true → enough NoTrailing us ≡ true → All ts → Kepts ts → Kepts us
    → W.Items IsRead v NoTrailing Declarators x ts y → W.Items IsRead w NoTrailing Declarators x us z → ended_list y ≡ true → ended_list z ≡ true → SameRow ts us y z
declarators_same none us g g' a h k i j m n = cc
declarators_same (part t ts) none g g' a h k i j m n = cc
declarators_same (part t none) (part u none) g g' a h k (W.last {y = p} r e f) (W.last {y = q} r' e' f') m n =
    let o = own_same Declarators t u refl (all_parts a).0 (kept_left h) (kept_left k) r r' (last_declared t (kept_left h) r e m) (last_declared u (kept_left k) r' e' n) in
    record { trees = ap (λ t. part t none) o.tree; place = sym e ∙ (o.place ∙ e') }
declarators_same (part t none) (part u (part u' us)) g g' a h k (W.last {y = p} r e f) (W.more {y = q} l r' e' j) m n =
    let c = comma_found q e' (items_start j) in
    let o = own_same Declarators t u refl (all_parts a).0 (kept_left h) (kept_left k) r r' (last_declared t (kept_left h) r e m) (comma_declared q c) in
    absurd (end_comma p (bound_end t (kept_left h) r) (subst (λ z. ended_list z ≡ true) (sym e) m) (subst (λ z. IsTrue (is_found (forth comma z))) (sym o.place) c))
declarators_same (part t (part t' ts)) (part u none) g g' a h k (W.more {y = p} l r e i) (W.last {y = q} r' e' f') m n =
    let c = comma_found p e (items_start i) in
    let o = own_same Declarators t u refl (all_parts a).0 (kept_left h) (kept_left k) r r' (comma_declared p c) (last_declared u (kept_left k) r' e' n) in
    absurd (end_comma q (bound_end u (kept_left k) r') (subst (λ z. ended_list z ≡ true) (sym e') n) (subst (λ z. IsTrue (is_found (forth comma z))) o.place c))
declarators_same (part t (part t' ts)) (part u (part u' us)) g g' a h k (W.more {y = p} l r e i) (W.more {y = q} l' r' e' j) m n =
    let as' = all_parts a in
    let o = own_same Declarators t u refl as'.0 (kept_left h) (kept_left k) r r' (comma_declared p (comma_found p e (items_start i))) (comma_declared q (comma_found q e' (items_start j))) in
    let d = declarators_same (part t' ts) (part u' us) refl refl as'.1 (kept_right h) (kept_right k) i (move_items (sym (after_comma p e) ∙ (ap (forth comma) o.place ∙ after_comma q e')) j) m n in
    record { trees = λ i. part (o.tree i) (d.trees i); place = d.place }
