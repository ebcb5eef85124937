-- Two readings of one list from one place are one: of statements and cases, of declarators, of parameters.
use Rattle.std.proofs.Common.{◌≡◌, Bool, true, false, not, [], refl, sym, ◌∙◌, ap, subst, arith}
use Rattle.std.specs.Prelude.{IsTrue, ◌&&◌, codes}
use Rattle.jsx_base.specs.Token.{Punctuator}
use Rattle.jsx_tree.specs.Signs.{Sign, TrailingComma, Line, Space}
use Rattle.jsx_tree.specs.Kinds.{Tree, leaf, node, list, Forest, none, part}
use Rattle.jsx_tree.specs.Nonterminals.{Nonterminal, Stmt, Item, CaseClause, ClassMember, Param, homes, in_homes, leaf_in}
use Rattle.jsx_tree.specs.Grammar.{ListShape, Commas, Lines, TopLines, production}
use Rattle.jsx_tree.specs.Form.{admits, fits_below}
use Rattle.jsx_tree.specs.StaticRules.{Surroundings}
use Rattle.jsx_tree.specs.Spelling.{spelled, between, behind}
use Rattle.jsx_tree.specs.Reading.{Place, Lost, At, forth, scan}
use Rattle.jsx_tree.proofs.Tokens.{and_left, and_right}
use Rattle.jsx_tree.specs.Walk as W
use Rattle.jsx_tree.specs.Walk.{is_found, IsRead}
use Rattle.jsx_tree.proofs.OneTree.Readings.{kind_at, text_at, comma}
use Rattle.jsx_tree.proofs.OneTree.Checks.{starts}
use Rattle.jsx_tree.proofs.OneTree.Facts.{never, or_else, not_is, Seen, took}
use Rattle.jsx_tree.proofs.OneTree.Pairs.{two_tokens}
use Rattle.jsx_tree.proofs.Rows.Bridge.{node_walk}
use Rattle.jsx_tree.proofs.OneTree.Spines.{home_of}
use Rattle.jsx_tree.proofs.OneTree.Placed.{Placed, Trail, with_comma, without, trail}
use Rattle.jsx_tree.proofs.OneTree.Statements.{for_stated}
use Rattle.jsx_tree.proofs.OneTree.Evidence.{Kept, Kepts, kept_left, kept_right, kept_kind, kept_parts}
use Rattle.jsx_tree.proofs.OneTree.Parts.{tame_of, SameAt, expr_same, expr_starts}
use Rattle.jsx_tree.proofs.OneTree.Wants.{ended, meets, is_look, look_met, implies, implied, is_calm, mark, read_start}
use Rattle.jsx_tree.proofs.OneTree.Begins.{is_own, want_of, stop_of, Front, front, fits, front_fits, front_stop, is_stop, front_stops, front_meets, is_listed, front_ok, fronts_ok, listed_fronts}
use Rattle.jsx_tree.proofs.OneTree.Rows.{All, all_parts, leafless, own_leaf, own_kind, own_same}

pub record SameRow (ts us : Forest) (y z : Place) : Type 0 where
  pub trees : ts ≡ us
  pub place : y ≡ z

-- ---- statements, items and cases

abbrev pub liney : ListShape → Bool
liney Lines = true
liney TopLines = true
liney s = false

line_sign : (x : Place) → forth Line x ≡ x
line_sign Lost = refl
line_sign (At q e text) = refl

pub line_behind : (s : ListShape) (t : Tree) {y z : Place} → liney s ≡ true → scan y (behind s (spelled t)) ≡ z → y ≡ z
line_behind Lines t l e = e
line_behind TopLines t {y} l e = sym (line_sign y) ∙ e
line_behind _ t l e = cc

pub line_between : (s : ListShape) {y z : Place} → liney s ≡ true → scan y (between s) ≡ z → y ≡ z
line_between Lines l e = e
line_between TopLines {y} l e = sym (line_sign y) ∙ e
line_between _ l e = cc

pub line_read : (s : ListShape) {v : Surroundings} {c : Nonterminal} {x y : Place} {t : Tree} → liney s ≡ true → IsRead v (W.is_text s) c x t y → IsRead v false c x t y
line_read Lines l r = r
line_read TopLines l r = r
line_read _ l r = cc

pub listed_own : (c : Nonterminal) → is_listed c ≡ true → is_own c ≡ true
listed_own Stmt l = refl
listed_own Item l = refl
listed_own CaseClause l = refl
listed_own ClassMember l = refl
listed_own _ l = cc

pub listed_leafless : (c : Nonterminal) → is_listed c ≡ true → leafless c ≡ true
listed_leafless Stmt l = refl
listed_leafless Item l = refl
listed_leafless CaseClause l = refl
listed_leafless ClassMember l = refl
listed_leafless _ l = cc

listed_wants : (c : Nonterminal) → is_listed c ≡ true → (implies (stop_of c) (want_of c) && (is_look (want_of c) && (is_stop (stop_of c) && not (is_calm (want_of c))))) ≡ true
listed_wants Stmt l = refl
listed_wants Item l = refl
listed_wants CaseClause l = refl
listed_wants ClassMember l = refl
listed_wants _ l = cc

pub stop_want : (c : Nonterminal) (x : Place) → is_listed c ≡ true → meets (stop_of c) x ≡ true → meets (want_of c) x ≡ true
stop_want c x l m =
    let h = listed_wants c l in
    let r = and_right (is_look (want_of c)) _ (and_right (implies (stop_of c) (want_of c)) _ h) in
    implied (stop_of c) (want_of c) x (and_left (implies (stop_of c) (want_of c)) _ h) (λ k. absurd (never (is_calm (want_of c)) k (not_is _ (and_right (is_stop (stop_of c)) _ r)))) m

pub record Begun (c : Nonterminal) (x : Place) : Type 0 where
  front : Front
  fit : fits front x ≡ true
  ok : front_ok c front ≡ true

pub item_begins : (c : Nonterminal) {v : Surroundings} {x y : Place} (t : Tree) → is_listed c ≡ true → Kept t → IsRead v false c x t y → meets (want_of c) y ≡ true → Begun c x
item_begins c (leaf s t) l h r m = absurd (own_leaf c s t (listed_leafless c l) (and_left (leaf_in c s t) _ r.is))
item_begins c (list ts) l h r m = let bad = r.is in cc
item_begins c (node k cs) l h r m =
    let i = home_of c k cs (and_left (admits c (node k cs)) (fits_below c (node k cs)) r.is) in
    let s = own_kind c k (listed_own c l) (kept_kind h) i in
    record {
      front = front (want_of c) (production k);
      fit = front_fits (want_of c) (production k) [] (node_walk false k refl r).walk (kept_parts h) m;
      ok = or_else (not (in_homes c (homes k))) _ (for_stated (fronts_ok c) (listed_fronts c l) k s) (ap not i);
    }

pub begun_want : (c : Nonterminal) {x : Place} → is_listed c ≡ true → Begun c x → meets (want_of c) x ≡ true
begun_want c {x} l b = front_meets (want_of c) b.front x (and_left (is_look (want_of c)) _ (and_right (implies (stop_of c) (want_of c)) _ (listed_wants c l))) (and_right (front_stop (stop_of c) b.front) _ b.ok) b.fit

begun_stop : (c : Nonterminal) {x : Place} → is_listed c ≡ true → Begun c x → meets (stop_of c) x ≡ true → ⊥
begun_stop c {x} l b m = front_stops (stop_of c) b.front x (and_left (is_stop (stop_of c)) _ (and_right (is_look (want_of c)) _ (and_right (implies (stop_of c) (want_of c)) _ (listed_wants c l)))) (and_left (front_stop (stop_of c) b.front) _ b.ok) b.fit m

pub items_begin : (s : ListShape) (c : Nonterminal) {v : Surroundings} {x y : Place} (t : Tree) (ts : Forest) → liney s ≡ true → is_listed c ≡ true → Kepts (part t ts) → W.Items IsRead v s c x (part t ts) y → meets (stop_of c) y ≡ true → Begun c x
items_begin s c t none li l h (W.last {y = y} r e f) m = item_begins c t l (kept_left h) (line_read s li r) (stop_want c y l (subst (λ z. meets (stop_of c) z ≡ true) (sym (line_behind s t li e)) m))
items_begin s c t (part u us) li l h (W.more {y = y} n r e i) m =
    let b = items_begin s c u us li l (kept_right h) i m in
    item_begins c t l (kept_left h) (line_read s li r) (subst (λ z. meets (want_of c) z ≡ true) (sym (line_between s li e)) (begun_want c l b))

pub move_items : {v : Surroundings} {s : ListShape} {c : Nonterminal} {x x' y : Place} {ts : Forest} → x ≡ x' → W.Items IsRead v s c x' ts y → W.Items IsRead v s c x ts y
move_items {v} {s} {c} {y = y} {ts} e i = subst (λ x. W.Items IsRead v s c x ts y) (sym e) i

-- the first item of a list, and the others
pub record First (v : Surroundings) (s : ListShape) (c : Nonterminal) (t : Tree) (ts : Forest) (x y : Place) : Type 0 where
  pub next : Place
  pub read : IsRead v false c x t next
  pub rest : W.Items IsRead v s c next ts y

pub first_item : (s : ListShape) {v : Surroundings} {c : Nonterminal} {x y : Place} {t : Tree} {ts : Forest} → liney s ≡ true → W.Items IsRead v s c x (part t ts) y → First v s c t ts x y
first_item s {t = t} li (W.last {y = y} r e f) = record { next = y; read = line_read s li r; rest = move_items (line_behind s t li e) (W.nil f) }
first_item s li (W.more {y = y} n r e i) = record { next = y; read = line_read s li r; rest = move_items (line_between s li e) i }

-- what stands behind the first
pub rest_want : (s : ListShape) (c : Nonterminal) {v : Surroundings} {x y : Place} (ts : Forest) → liney s ≡ true → is_listed c ≡ true → Kepts ts → W.Items IsRead v s c x ts y → meets (stop_of c) y ≡ true → meets (want_of c) x ≡ true
rest_want s c {x = x} none li l h (W.nil f) m = stop_want c x l m
rest_want s c (part t ts) li l h i m = begun_want c l (items_begin s c t ts li l h i m)

pub lines_same : (s : ListShape) (c : Nonterminal) {v w : Surroundings} {x y z : Place} (ts us : Forest) → liney s ≡ true → is_listed c ≡ true → All ts → Kepts ts → Kepts us
    → W.Items IsRead v s c x ts y → W.Items IsRead w s c x us z → meets (stop_of c) y ≡ true → meets (stop_of c) z ≡ true → SameRow ts us y z
lines_same s c none none li l a h k (W.nil f) (W.nil f') m n = record { trees = refl; place = refl }
lines_same s c none (part u us) li l a h k (W.nil f) j m n = absurd (begun_stop c l (items_begin s c u us li l k j n) m)
lines_same s c (part t ts) none li l a h k i (W.nil f) m n = absurd (begun_stop c l (items_begin s c t ts li l h i m) n)
lines_same s c (part t none) (part u none) li l a h k (W.last {y = p} r e f) (W.last {y = q} r' e' f') m n =
    let o = own_same c t u (listed_own c l) (all_parts a).0 (kept_left h) (kept_left k) (line_read s li r) (line_read s li r')
    (stop_want c p l (subst (λ z. meets (stop_of c) z ≡ true) (sym (line_behind s t li e)) m)) (stop_want c q l (subst (λ z. meets (stop_of c) z ≡ true) (sym (line_behind s u li e')) n)) in
    record { trees = ap (λ t. part t none) o.tree; place = sym (line_behind s t li e) ∙ (o.place ∙ line_behind s u li e') }
lines_same s c (part t none) (part u (part u' us)) li l a h k (W.last {y = p} r e f) (W.more {y = q} g r' e' j) m n =
    let b = items_begin s c u' us li l (kept_right k) j n in
    let m' = subst (λ z. meets (stop_of c) z ≡ true) (sym (line_behind s t li e)) m in
    let o = own_same c t u (listed_own c l) (all_parts a).0 (kept_left h) (kept_left k) (line_read s li r) (line_read s li r') (stop_want c p l m') (subst (λ z. meets (want_of c) z ≡ true) (sym (line_between s li e')) (begun_want c l b)) in
    absurd (begun_stop c l b (subst (λ z. meets (stop_of c) z ≡ true) (o.place ∙ line_between s li e') m'))
lines_same s c (part t (part t' ts)) (part u none) li l a h k (W.more {y = p} g r e i) (W.last {y = q} r' e' f') m n =
    let b = items_begin s c t' ts li l (kept_right h) i m in
    let n' = subst (λ z. meets (stop_of c) z ≡ true) (sym (line_behind s u li e')) n in
    let o = own_same c t u (listed_own c l) (all_parts a).0 (kept_left h) (kept_left k) (line_read s li r) (line_read s li r') (subst (λ z. meets (want_of c) z ≡ true) (sym (line_between s li e)) (begun_want c l b)) (stop_want c q l n') in
    absurd (begun_stop c l b (subst (λ z. meets (stop_of c) z ≡ true) (sym o.place ∙ line_between s li e) n'))
lines_same s c (part t (part t' ts)) (part u (part u' us)) li l a h k (W.more {y = p} g r e i) (W.more {y = q} g' r' e' j) m n =
    let b = items_begin s c t' ts li l (kept_right h) i m in
    let b' = items_begin s c u' us li l (kept_right k) j n in
    let as' = all_parts a in
    let o = own_same c t u (listed_own c l) as'.0 (kept_left h) (kept_left k) (line_read s li r) (line_read s li r')
    (subst (λ z. meets (want_of c) z ≡ true) (sym (line_between s li e)) (begun_want c l b)) (subst (λ z. meets (want_of c) z ≡ true) (sym (line_between s li e')) (begun_want c l b')) in
    let d = lines_same s c (part t' ts) (part u' us) li l as'.1 (kept_right h) (kept_right k) i (move_items (sym (line_between s li e) ∙ (o.place ∙ line_between s li e')) j) m n in
    record { trees = λ i. part (o.tree i) (d.trees i); place = d.place }

-- ---- parameters

close : Sign
close = mark (codes ")")

space_sign : (x : Place) → forth Space x ≡ x
space_sign Lost = refl
space_sign (At q e text) = refl

after_comma : (y : Place) {z : Place} → scan y (between Commas) ≡ z → forth comma y ≡ z
after_comma y e = sym (space_sign (forth comma y)) ∙ e

items_start : {v : Surroundings} {s : ListShape} {c : Nonterminal} {x y : Place} {ts : Forest} → W.Items IsRead v s c x ts y → IsTrue (is_found x)
items_start (W.nil f) = f
items_start (W.last r e f) = read_start r
items_start (W.more n r e i) = read_start r

param_placed : Placed 1 1 Param
param_placed = record { kin' = refl; home' = refl; ended' = refl; seq' = refl }

comma_seen : (x : Place) {y : Place} → forth comma x ≡ y → IsTrue (is_found y) → Seen x Punctuator (codes ",")
comma_seen x e f = took Punctuator (codes ",") x e f

comma_calm : (x : Place) {y : Place} → forth comma x ≡ y → IsTrue (is_found y) → meets (ended 1) x ≡ true
comma_calm x e f = look_met (ended 1) Punctuator (codes ",") x refl (comma_seen x e f) refl

close_calm : {x : Place} → Seen x Punctuator (codes ")") → meets (ended 1) x ≡ true
close_calm {x} s = look_met (ended 1) Punctuator (codes ")") x refl s refl

trail_calm : (x y : Place) → Trail x y → Seen y Punctuator (codes ")") → meets (ended 1) x ≡ true
trail_calm x y (with_comma e f) s = comma_calm x e f
trail_calm x y (without e) s = close_calm (subst (λ z. Seen z Punctuator (codes ")")) (sym e) s)

param_starts : {v : Surroundings} {x y : Place} (t : Tree) → Kept t → IsRead v false Param x t y → meets (ended 1) y ≡ true → starts (kind_at x) (text_at x) ≡ true
param_starts t h r m = expr_starts 1 1 Param t param_placed refl (tame_of t Param refl h r.is) r m

params_start : {v : Surroundings} {x y : Place} (t : Tree) (ts : Forest) → Kepts (part t ts) → W.Items IsRead v Commas Param x (part t ts) y → Seen y Punctuator (codes ")") → starts (kind_at x) (text_at x) ≡ true
params_start t none h (W.last {y = y} {z = z} r e f) s = param_starts t (kept_left h) r (trail_calm y z (trail y z e f) s)
params_start t (part u us) h (W.more {y = p} n r e i) s = param_starts t (kept_left h) r (comma_calm p (after_comma p e) (items_start i))

close_starts : {x : Place} → Seen x Punctuator (codes ")") → starts (kind_at x) (text_at x) ≡ true → ⊥
close_starts {x} s h = never (starts 1 (codes ")")) ((λ i. starts (sym s.kind i) (sym s.text i)) ∙ h) refl

pub param_same : {v w : Surroundings} {x y z : Place} (t u : Tree) → Kept t → Kept u → IsRead v false Param x t y → IsRead w false Param x u z → meets (ended 1) y ≡ true → meets (ended 1) z ≡ true → SameAt t u y z
param_same t u h k r s m n = expr_same 1 1 Param t u (omega arith) param_placed refl (tame_of t Param refl h r.is) (tame_of u Param refl k s.is) r s m n

trail_more : {p q y w : Place} → p ≡ q → Trail p y → Seen y Punctuator (codes ")") → forth comma q ≡ w → IsTrue (is_found w) → starts (kind_at w) (text_at w) ≡ true → ⊥
trail_more {w = w} o (with_comma e f) s g k b = close_starts (subst (λ z. Seen z Punctuator (codes ")")) (sym e ∙ (ap (forth comma) o ∙ g)) s) b
trail_more {p} {q} o (without e) s g k b = two_tokens (subst (λ z. Seen z Punctuator (codes ")")) (sym (sym o ∙ e)) s) (comma_seen q g k) refl

pub params_same : {v w : Surroundings} {x y z : Place} (ts us : Forest) → Kepts ts → Kepts us → W.Items IsRead v Commas Param x ts y → W.Items IsRead w Commas Param x us z
    → Seen y Punctuator (codes ")") → Seen z Punctuator (codes ")") → SameRow ts us y z
params_same none none h k (W.nil f) (W.nil f') m n = record { trees = refl; place = refl }
params_same none (part u us) h k (W.nil f) j m n = absurd (close_starts m (params_start u us k j n))
params_same (part t ts) none h k i (W.nil f) m n = absurd (close_starts n (params_start t ts h i m))
params_same (part t none) (part u none) h k (W.last {y = p} {z = y} r e f) (W.last {y = q} {z = z} r' e' f') m n =
    let o = param_same t u (kept_left h) (kept_left k) r r' (trail_calm p y (trail p y e f) m) (trail_calm q z (trail q z e' f') n) in
    record { trees = ap (λ t. part t none) o.tree; place = sym e ∙ (ap (forth TrailingComma) o.place ∙ e') }
params_same (part t none) (part u (part u' us)) h k (W.last {y = p} {z = y} r e f) (W.more {y = q} g r' e' j) m n =
    let o = param_same t u (kept_left h) (kept_left k) r r' (trail_calm p y (trail p y e f) m) (comma_calm q (after_comma q e') (items_start j)) in
    absurd (trail_more o.place (trail p y e f) m (after_comma q e') (items_start j) (params_start u' us (kept_right k) j n))
params_same (part t (part t' ts)) (part u none) h k (W.more {y = p} g r e i) (W.last {y = q} {z = z} r' e' f') m n =
    let o = param_same t u (kept_left h) (kept_left k) r r' (comma_calm p (after_comma p e) (items_start i)) (trail_calm q z (trail q z e' f') n) in
    absurd (trail_more (sym o.place) (trail q z e' f') n (after_comma p e) (items_start i) (params_start t' ts (kept_right h) i m))
params_same (part t (part t' ts)) (part u (part u' us)) h k (W.more {y = p} g r e i) (W.more {y = q} g' r' e' j) m n =
    let o = param_same t u (kept_left h) (kept_left k) r r' (comma_calm p (after_comma p e) (items_start i)) (comma_calm q (after_comma q e') (items_start j)) in
    let d = params_same (part t' ts) (part u' us) (kept_right h) (kept_right k) i (move_items (sym (after_comma p e) ∙ (ap (forth comma) o.place ∙ after_comma q e')) j) m n in
    record { trees = λ i. part (o.tree i) (d.trees i); place = d.place }
