-- What the definitions read, with what may stand behind each part: parts, lists and whole expressions.
use Rattle.jsx_tree.proofs.OneTree.Spines.{blocked_level, blocked_spine}
use Rattle.jsx_tree.proofs.OneTree.Fine.{fine_blocked}
use Rattle.jsx_tree.proofs.OneTree.Known.{taken, plain_leaf}
use Rattle.std.proofs.Common.{◌≡◌, ℕ, ◌≤◌, Bool, true, false, not, cond, [], ◌∷◌, refl, sym, ◌∙◌, ap, subst, arith}
use Rattle.std.specs.Prelude.{IsTrue, ◌&&◌, ◌||◌, nat_eq, nat_le, codes}
use Rattle.jsx_base.specs.Token.{Text, Operand, Operator, TokenKind, IdentifierName, Punctuator, NumericLiteral, BigIntLiteral, StringLiteral, RegExpLiteral, NoSubstitution, TemplateHead, TemplateMiddle, TemplateTail, Elision, Lexeme, kind_number, same, begins, state, lexed, no_token, at_front, token, skip, breaks, is_token}
use Rattle.jsx_tree.specs.Signs.{AfterExpr, Tok, TrailingComma, Space}
use Rattle.jsx_tree.specs.Kinds.{Seq, Kind, expression, Tree, leaf, node, list, Forest, none, part}
use Rattle.jsx_tree.specs.Nonterminals.{Nonterminal, Expr, Name, homes, in_homes, leaf_in, literal_homes}
use Rattle.jsx_tree.specs.Grammar.{ListShape, Commas, Elisions, TwoOrMore, Fixed, production}
use Rattle.jsx_tree.specs.Form.{admits, fits_below, enough}
use Rattle.jsx_tree.specs.StaticRules.{Surroundings}
use Rattle.jsx_tree.specs.Spelling.{spelled, behind}
use Rattle.jsx_tree.specs.Reading.{Place, Lost, At, forth, scan}
use Rattle.jsx_tree.specs.Walk as W
use Rattle.jsx_tree.specs.Walk.{is_found, IsRead}
use Rattle.jsx_tree.proofs.Tokens.{and_left, and_right, and_both, same_is}
use Rattle.jsx_tree.proofs.OneTree.Table.{scope}
use Rattle.jsx_tree.proofs.OneTree.Readings.{sealed, level, reach_of, calm, comma, Reads, regexp, Whole, single, several, Rest, final, also, Items, shut, gap, last, more}
use Rattle.jsx_tree.proofs.OneTree.Facts.{never, not_is, Test, yes', no', test, eq_nat, le_nat, kind_is, Seen, took}
use Rattle.jsx_tree.proofs.OneTree.Places.{ending, kin, is_prop, place_at, no_seq, no_hole, ended_at, ends_by, closes}
use Rattle.jsx_tree.proofs.Rows.Bridge.{node_walk}
use Rattle.jsx_tree.proofs.Laws.{scan_lost}
use Rattle.jsx_tree.proofs.OneTree.Fine.{at_many, at_end}
use Rattle.jsx_tree.proofs.OneTree.Fine.{tame, tames, tames_of, seq_tames, spine_ok, Good, Fine, fine_leaf, fine_regexp, fine_piece, fine_node, fine_prop, fine_seq, fine_sealed, fine_member, fine_list, Fines, fine_part, calm_more, one_sign, in_is, no_piece, kin_free, leaf_reads}
use Rattle.jsx_tree.proofs.OneTree.Spines.{kin_memberless, no_member, sealed_level, spine_level, home_of, at_kind, taken_scope, seq_is, node_spine, no_seq_here, home_spine, home_first}
use Rattle.jsx_tree.proofs.OneTree.Next.{reach_seen, calm_at}

-- ---- parts

-- a tree at its place, as far as it is read there
pub record Placed (n m : ℕ) (c : Nonterminal) : Type 0 where
  pub kin' : kin c ≡ true
  pub home' : place_at n c ≡ true
  pub ended' : ended_at c m ≡ true
  pub seq' : no_seq c ≡ true

abbrev pub is_hole : Tree → Bool
is_hole (leaf s t) = nat_eq (kind_number s) 13
is_hole t = false

pub elision : (s : TokenKind) → nat_eq (kind_number s) 13 ≡ true → s ≡ Elision
elision s h = kind_is s Elision (eq_nat h)

pub no_elision : (c : Nonterminal) (s : TokenKind) (t : Text) → no_hole c ≡ true → leaf_in c s t ≡ true → nat_eq (kind_number s) 13 ≡ false
no_elision c s t n h = by_case (test (nat_eq (kind_number s) 13))
  where
    by_case : Test (nat_eq (kind_number s) 13) → nat_eq (kind_number s) 13 ≡ false
    by_case (no' e) = e
    by_case (yes' e) = absurd (never (in_homes c (literal_homes Elision)) (subst (λ s. leaf_in c s t ≡ true) (elision s e) h) (not_is _ n))

pub hole_free : (t : Tree) (c : Nonterminal) {v : Surroundings} {x y : Place} → no_hole c ≡ true → IsRead v false c x t y → is_hole t ≡ false
hole_free (leaf s t) c n r = no_elision c s t n (in_is r)
hole_free (node k cs) c n r = refl
hole_free (list ts) c n r = refl

no_prop_here : (c : Nonterminal) (m : ℕ) (k : Kind) (cs : Forest) {v : Surroundings} {x y : Place} → ended_at c m ≡ true → taken k ≡ true → is_prop k ≡ true → IsRead v false c x (node k cs) y → ⊥
no_prop_here c m k cs d t p r =
    let i = home_of c k cs (and_left (admits c (node k cs)) (fits_below c (node k cs)) r.is) in
    never (is_prop k) p (not_is _ (and_left (not (is_prop k)) _ (at_kind c (ends_by m) k (and_right (nat_le m 99) _ d) (taken_scope k t) i)))

pub regexp_reads : (n : ℕ) (t : Text) {v : Surroundings} {c : Nonterminal} {x y : Place} → IsRead v false c x (leaf RegExpLiteral t) y → Reads n x (leaf RegExpLiteral t) y
regexp_reads n t {x = x} r = regexp (ap (forth (Tok Operand RegExpLiteral t)) (sym (one_sign x)) ∙ r.scans) r.found

pub tree_reads : (n m : ℕ) (c : Nonterminal) {v : Surroundings} {x y : Place} {t : Tree} → Fine t → tame t ≡ true → is_hole t ≡ false → IsRead v false c x t y → Placed n m c → calm m y ≡ true → Reads n x t y
tree_reads n m c (fine_leaf {s = s} {t = t} p) h o r l k = leaf_reads n s t r l.kin' p o
tree_reads n m c (fine_piece {s = s} {t = t} p) h o r l k = absurd (no_piece c s t (kin_free c l.kin') p (in_is r))
tree_reads n m c (fine_regexp {t = t}) h o r l k = regexp_reads n t r
tree_reads n m c (fine_prop {k = q} {cs = cs} t p f) h o r l k = absurd (no_prop_here c m q cs l.ended' t p r)
tree_reads n m c (fine_sealed {k = q} {cs = cs} s f) h o r l k = sealed (sealed_level n c q cs s l.home' r.is) (f.seals r)
tree_reads n m c (fine_blocked {k = q} {cs = cs} s b) h o r l k = b.blocks' (blocked_level n c q cs s l.home' r.is) r
tree_reads n m c (fine_member {k = q} {t = u} {ts = us} s f e g) h o r l k = absurd (no_member c q (part u us) s (kin_memberless c l.kin') r.is)
tree_reads n m c (fine_list f) h o r l k = let bad = r.is in cc
tree_reads n m c (fine_seq {k = q} {cs = cs} s f) h o r l k = absurd (no_seq_here c q cs s l.seq' r.is)
tree_reads n m c {v} {x} {y} (fine_node {k = q} {cs = cs} t np g) h o r l k =
    let i = home_of c q cs (and_left (admits c (node q cs)) (fits_below c (node q cs)) r.is) in
    let b : m ≤ ending q = le_nat (and_right (not (is_prop q)) _ (at_kind c (ends_by m) q (and_right (nat_le m 99) _ l.ended') (taken_scope q t) i)) in
    g.reads n v c x y r l.kin' (home_spine (node q cs) c n n (omega arith) l.home' l.seq' h r.is) (calm_more m (ending q) y b k)

-- ---- lists

space_sign : (x : Place) → forth Space x ≡ x
space_sign Lost = refl
space_sign (At q e text) = refl

pub comma_calm : (x : Place) {y : Place} → forth comma x ≡ y → IsTrue (is_found y) → calm 1 x ≡ true
comma_calm x e f = let s : Seen x Punctuator (codes ",") = took Punctuator (codes ",") x e f in reach_seen Punctuator (codes ",") 1 x s refl

-- the comma that may trail
pub data Trail (x y : Place) : Type 0 where
  with_comma : forth comma x ≡ y → IsTrue (is_found y) → Trail x y
  without : x ≡ y → Trail x y

dashes_at : (b : Bool) (r : Text) → is_token (at_front Operator b (45 ∷ 45 ∷ 62 ∷ r)) Punctuator (codes ",") ≡ false
dashes_at true r = refl
dashes_at false r = refl

dashes : (b : Bool) (s : Text) → begins (codes "-->") s ≡ true → is_token (at_front Operator b s) Punctuator (codes ",") ≡ true → ⊥
dashes b [] g h = cc
dashes b (c ∷ []) g h = let bad = and_right (nat_eq 45 c) false g in cc
dashes b (c ∷ d ∷ []) g h = let bad = and_right (nat_eq 45 d) false (and_right (nat_eq 45 c) (nat_eq 45 d && false) g) in cc
dashes b (c ∷ d ∷ f ∷ r) g h =
    let g1 = and_right (nat_eq 45 c) (nat_eq 45 d && (nat_eq 62 f && true)) g in
    let g2 = and_right (nat_eq 45 d) (nat_eq 62 f && true) g1 in
    let e1 : 45 ≡ c = eq_nat (and_left (nat_eq 45 c) (nat_eq 45 d && (nat_eq 62 f && true)) g) in
    let e2 : 45 ≡ d = eq_nat (and_left (nat_eq 45 d) (nat_eq 62 f && true) g1) in
    let e3 : 62 ≡ f = eq_nat (and_left (nat_eq 62 f) true g2) in
    never _ h ((λ i. is_token (at_front Operator b (sym e1 i ∷ sym e2 i ∷ sym e3 i ∷ r)) Punctuator (codes ",")) ∙ dashes_at b r)

same_front : (p q b : Bool) (n l : Lexeme) → q ≡ false → cond (p || q) n l ≡ cond (p || (b && q)) n l
same_front true q b n l e = refl
same_front false q true n l e = refl
same_front false q false n l e = ap (λ c. cond c n l) e

front_comma : (b : Bool) (s : Text) → is_token (at_front Operator b s) Punctuator (codes ",") ≡ true → at_front Operator true s ≡ at_front Operator b s
front_comma b [] h = refl
front_comma b (c ∷ s) h = by_dash (test (begins (codes "-->") (c ∷ s)))
  where
    by_dash : Test (begins (codes "-->") (c ∷ s)) → at_front Operator true (c ∷ s) ≡ at_front Operator b (c ∷ s)
    by_dash (yes' g) = absurd (dashes b (c ∷ s) g h)
    by_dash (no' g) = same_front (begins (codes "<!--") (c ∷ s)) (begins (codes "-->") (c ∷ s)) b (no_token (c ∷ s)) (lexed Operator (state Operator c s) c s) g

token_comma : (f : Bool) (text : Text) → is_token (token Operator false text) Punctuator (codes ",") ≡ true → token Operator f text ≡ token Operator false text
token_comma false text h = refl
token_comma true text h = front_comma (breaks text) (skip text) h

pub trail : (x y : Place) → forth TrailingComma x ≡ y → IsTrue (is_found y) → Trail x y
trail Lost y e f = without e
trail (At q e' text) y e f = by_comma (test (is_token (token Operator false text) Punctuator (codes ",")))
  where
    by_comma : Test (is_token (token Operator false text) Punctuator (codes ",")) → Trail (At q e' text) y
    by_comma (yes' b) =
        let l = token_comma (same q []) text b in
        with_comma
        ((λ i. cond (is_token (l i) Punctuator (codes ",")) (At (codes ",") AfterExpr (l i).rest) Lost)
        ∙ ((λ i. cond (b i) (At (codes ",") AfterExpr (token Operator false text).rest) Lost)
        ∙ ((λ i. cond (sym b i) (At (codes ",") AfterExpr (token Operator false text).rest) (At q e' text)) ∙ e))) f
    by_comma (no' b) = without ((λ i. cond (sym b i) (At (codes ",") AfterExpr (token Operator false text).rest) (At q e' text)) ∙ e)

-- a list up to and with the token that closes it
pub close_reach : (u : Text) (x : Place) {z : Place} → closes (Fixed (Tok Operator Punctuator u) ∷ []) ≡ true → forth (Tok Operator Punctuator u) x ≡ z → IsTrue (is_found z) → calm 1 x ≡ true
close_reach u x h e f =
    let r = and_right (nat_le (reach_of 1 u true) 1) _ h in
    reach_seen Punctuator u 1 x (took Punctuator u x e f) (and_both (nat_le (reach_of 1 u true) 1) (nat_le (reach_of 1 u false) 1) (and_left (nat_le (reach_of 1 u true) 1) _ h) (and_left (nat_le (reach_of 1 u false) 1) true r))

pub comma_space : (x y : Place) → forth Space (forth comma x) ≡ y → forth comma x ≡ y
comma_space x y e = sym (space_sign (forth comma x)) ∙ e

last_listed : (b : Bool) (u : Text) {x y w z : Place} {t : Tree} → ((n : calm 1 y ≡ true) → Reads 1 x t y) → closes (Fixed (Tok Operator Punctuator u) ∷ []) ≡ true → Trail y w → forth (Tok Operator Punctuator u) w ≡ z → IsTrue (is_found z) → Items b u x (part t none) z
last_listed b u {y = y} r h (with_comma g' k') e o = more (r (comma_calm y g' k')) (comma_calm y g' k') g' k' (shut e o)
last_listed b u {y = y} r h (without p) e o =
    let e' = ap (forth (Tok Operator Punctuator u)) p ∙ e in
    last (r (close_reach u y h e' o)) (close_reach u y h e' o) e' o

pub found_start : {s : ListShape} {c : Nonterminal} {v : Surroundings} {x y : Place} {ts : Forest} → W.Items IsRead v s c x ts y → IsTrue (is_found x)
found_start (W.nil g) = g
found_start (W.last {x = x} {t = t} r e f) = read_start x t r
  where
    read_start : (x : Place) (t : Tree) {v : Surroundings} {b : Bool} {c : Nonterminal} {y : Place} → IsRead v b c x t y → IsTrue (is_found x)
    read_start (At q e text) t r = refl
    read_start Lost t {b = b} r = subst (λ p. IsTrue (is_found p)) (sym r.scans ∙ scan_lost (W.front b (spelled t))) r.found
found_start (W.more {x = x} {t = t} n r g i) = read_start x t r
  where
    read_start : (x : Place) (t : Tree) {v : Surroundings} {b : Bool} {c : Nonterminal} {y : Place} → IsRead v b c x t y → IsTrue (is_found x)
    read_start (At q e text) t r = refl
    read_start Lost t {b = b} r = subst (λ p. IsTrue (is_found p)) (sym r.scans ∙ scan_lost (W.front b (spelled t))) r.found

pub commas_listed : (c : Nonterminal) (u : Text) {v : Surroundings} {x y z : Place} (ts : Forest) → Placed 1 1 c → no_hole c ≡ true → closes (Fixed (Tok Operator Punctuator u) ∷ []) ≡ true → Fines ts → tames ts ≡ true → W.Items IsRead v Commas c x ts y → forth (Tok Operator Punctuator u) y ≡ z → IsTrue (is_found z) → Items false u x ts z
commas_listed c u none l nh h f m (W.nil g) e o = shut e o
commas_listed c u (part t none) l nh h (fine_part f fs) m (W.last {y = y} {z = w} r g k) e o =
    last_listed false u (λ n. tree_reads 1 1 c f (and_left (tame t) true m) (hole_free t c nh r) r l n) h (trail y w g k) e o
commas_listed c u (part t (part t' ts)) l nh h (fine_part f fs) m (W.more {y = y} {z = w} n r g i) e o =
    let g' = comma_space y w g in
    let k' = found_start i in
    more (tree_reads 1 1 c f (and_left (tame t) _ m) (hole_free t c nh r) r l (comma_calm y g' k')) (comma_calm y g' k') g' k' (commas_listed c u (part t' ts) l nh h fs (and_right (tame t) _ m) i e o)

-- an array's place: a hole, or a tree
data Slot' (t : Tree) : Type 0 where
  a_hole : t ≡ leaf Elision [] → Slot' t
  a_tree : is_hole t ≡ false → behind Elisions (spelled t) ≡ TrailingComma ∷ [] → Slot' t

leaf_slot : (s : TokenKind) (t : Text) → plain_leaf s ≡ true → fits_below Name (leaf s t) ≡ true → Slot' (leaf s t)
leaf_slot IdentifierName t p i = a_tree refl refl
leaf_slot NumericLiteral t p i = a_tree refl refl
leaf_slot BigIntLiteral t p i = a_tree refl refl
leaf_slot StringLiteral t p i = a_tree refl refl
leaf_slot Elision t p i = a_hole (ap (leaf Elision) (same_is t [] i))
leaf_slot _ t p i = cc

slot_of : (c : Nonterminal) {v : Surroundings} {x y : Place} {t : Tree} → Fine t → IsRead v false c x t y → Slot' t
slot_of c (fine_leaf {s = s} {t = t} p) r = leaf_slot s t p (and_right (admits c (leaf s t)) _ r.is)
slot_of c (fine_regexp) r = a_tree refl refl
slot_of c (fine_piece {s = NoSubstitution} p) r = a_tree refl refl
slot_of c (fine_piece {s = TemplateHead} p) r = a_tree refl refl
slot_of c (fine_piece {s = TemplateMiddle} p) r = a_tree refl refl
slot_of c (fine_piece {s = TemplateTail} p) r = a_tree refl refl
slot_of c (fine_piece p) r = cc
slot_of c (fine_node t np g) r = a_tree refl refl
slot_of c (fine_seq t g) r = a_tree refl refl
slot_of c (fine_prop t p g) r = a_tree refl refl
slot_of c (fine_sealed s g) r = a_tree refl refl
slot_of c (fine_blocked s b) r = a_tree refl refl
slot_of c (fine_member s f m g) r = a_tree refl refl
slot_of c (fine_list f) r = let bad = r.is in cc

hole_place : {v : Surroundings} {c : Nonterminal} {x y : Place} {t : Tree} → t ≡ leaf Elision [] → IsRead v false c x t y → x ≡ y
hole_place {x = x} p r = ap (λ t. scan x (spelled t)) (sym p) ∙ r.scans

pub holes_listed : (c : Nonterminal) (u : Text) {v : Surroundings} {x y z : Place} (ts : Forest) → Placed 1 1 c → closes (Fixed (Tok Operator Punctuator u) ∷ []) ≡ true → Fines ts → tames ts ≡ true → W.Items IsRead v Elisions c x ts y → forth (Tok Operator Punctuator u) y ≡ z → IsTrue (is_found z) → Items true u x ts z
holes_listed c u none l h f m (W.nil g) e o = shut e o
holes_listed c u {x = x} {z = z} (part t none) l h (fine_part f fs) m (W.last {y = y} {z = w} r g k) e o = by_slot (slot_of c f r)
  where
    by_slot : Slot' t → Items true u x (part t none) z
    by_slot (a_hole p) =
        let g' : forth comma x ≡ w = ap (forth comma) (hole_place p r) ∙ (ap (λ t. scan y (behind Elisions (spelled t))) (sym p) ∙ g) in
        subst (λ t. Items true u x (part t none) z) (sym p) (gap g' k (shut e o))
    by_slot (a_tree n b) =
        last_listed true u (λ q. tree_reads 1 1 c f (and_left (tame t) true m) n r l q) h (trail y w (ap (scan y) (sym b) ∙ g) k) e o
holes_listed c u {x = x} {z = z} (part t (part t' ts)) l h (fine_part f fs) m (W.more {y = y} {z = w} n r g i) e o = by_slot (slot_of c f r) (holes_listed c u (part t' ts) l h fs (and_right (tame t) _ m) i e o)
  where
    by_slot : Slot' t → Items true u w (part t' ts) z → Items true u x (part t (part t' ts)) z
    by_slot (a_hole p) j = subst (λ t. Items true u x (part t (part t' ts)) z) (sym p) (gap (ap (forth comma) (hole_place p r) ∙ comma_space y w g) (found_start i) j)
    by_slot (a_tree nh b) j =
        let g' = comma_space y w g in
        let k' = found_start i in
        more (tree_reads 1 1 c f (and_left (tame t) _ m) nh r l (comma_calm y g' k')) (comma_calm y g' k') g' k' j

-- ---- an expression of any level

taken_reads : (n m : ℕ) (c : Nonterminal) (k : Kind) (cs : Forest) {v : Surroundings} {x y : Place} → taken k ≡ true → Good (node k cs) → tames cs ≡ true → IsRead v false c x (node k cs) y → place_at n c ≡ true → ended_at c m ≡ true → calm m y ≡ true → Reads n x (node k cs) y
taken_reads n m c k cs {v} {x} {y} t g h r p d q =
    let i = home_of c k cs (and_left (admits c (node k cs)) (fits_below c (node k cs)) r.is) in
    let b : m ≤ ending k = le_nat (and_right (not (is_prop k)) _ (at_kind c (ends_by m) k (and_right (nat_le m 99) _ d) (taken_scope k t) i)) in
    g.reads n v c x y r (and_left (kin c) _ p) (node_spine k cs c n n (omega arith) p t r.is (λ a b d l f. home_first cs (production k) n a b d h l f)) (calm_more m (ending k) y b q)

pub one_placed : Placed 1 1 (Expr 1)
one_placed = record { kin' = refl; home' = refl; ended' = refl; seq' = refl }

one_ended : Placed 1 0 (Expr 1)
one_ended = record { kin' = refl; home' = refl; ended' = refl; seq' = refl }

seq_rest : {v : Surroundings} {x y : Place} (t : Tree) (ts : Forest) → Fines (part t ts) → tames (part t ts) ≡ true → W.Items IsRead v TwoOrMore (Expr 1) x (part t ts) y → calm 0 y ≡ true → Rest x (part t ts) y
seq_rest {x = x} t none (fine_part f fs) m (W.last {y = w} r g k) q = subst (λ y. Rest x (part t none) y) g (final (tree_reads 1 0 (Expr 1) f (and_left (tame t) true m) (hole_free t (Expr 1) refl r) r one_ended (calm_at 0 g q)) (calm_at 0 g q))
seq_rest t (part t' ts) (fine_part f fs) m (W.more {y = y} {z = w} n r g i) q =
    let g' = comma_space y w g in
    let k' = found_start i in
    also (tree_reads 1 1 (Expr 1) f (and_left (tame t) _ m) (hole_free t (Expr 1) refl r) r one_placed (comma_calm y g' k')) (comma_calm y g' k') g' k' (seq_rest t' ts fs (and_right (tame t) _ m) i q)

seq_items : {v : Surroundings} {x y : Place} (ts : Forest) → Fines ts → tames ts ≡ true → enough TwoOrMore ts ≡ true → W.Items IsRead v TwoOrMore (Expr 1) x ts y → calm 0 y ≡ true → Whole x (node (expression Seq) (part (list ts) none)) y
seq_items none f m h i q = cc
seq_items (part t none) f m h i q = cc
seq_items (part t (part t' ts)) (fine_part f fs) m h (W.more {y = y} {z = w} n r g i) q =
    let g' = comma_space y w g in
    let k' = found_start i in
    several (tree_reads 1 1 (Expr 1) f (and_left (tame t) _ m) (hole_free t (Expr 1) refl r) r one_placed (comma_calm y g' k')) (comma_calm y g' k') g' k' (seq_rest t' ts fs (and_right (tame t) _ m) i q)

pub list_fines : {ts : Forest} {us : Forest} → Fines (part (list ts) us) → Fines ts
list_fines (fine_part (fine_list f) fs) = f

seq_reads : {v : Surroundings} {x y : Place} (cs : Forest) → Fines cs → tames cs ≡ true → IsRead v false (Expr 0) x (node (expression Seq) cs) y → calm 0 y ≡ true → Whole x (node (expression Seq) cs) y
seq_reads {v} {x} {y} cs f m r q =
    let n = node_walk false (expression Seq) refl r in
    let p = at_many n.walk in
    let d = at_end p.walk in
    let is : cs ≡ part (list p.trees) none = p.is ∙ ap (part (list p.trees)) d.0 in
    let fs = list_fines (subst Fines is f) in
    let ms = and_left (tames p.trees) _ (subst (λ cs. tames cs ≡ true) is m) in
    subst (λ cs. Whole x (node (expression Seq) cs) y) (sym is) (seq_items p.trees fs ms p.enough' (subst (λ z. W.Items IsRead (W.around v cs []) TwoOrMore (Expr 1) x p.trees z) d.1 p.read) q)

pub whole_reads : {v : Surroundings} {x y : Place} (t : Tree) → Fine t → tame t ≡ true → IsRead v false (Expr 0) x t y → calm 0 y ≡ true → Whole x t y
whole_reads t (fine_leaf {s = s} {t = u} p) h r q = single (leaf_reads 1 s u r refl p (no_elision (Expr 0) s u refl (in_is r))) q
whole_reads t (fine_piece {s = s} {t = u} p) h r q = absurd (no_piece (Expr 0) s u refl p (in_is r))
whole_reads t (fine_regexp {t = u}) h r q = single (regexp_reads 1 u r) q
whole_reads t (fine_prop {k = k} {cs = cs} tk p f) h r q = absurd (no_prop_here (Expr 0) 0 k cs refl tk p r)
whole_reads t (fine_sealed {k = k} {cs = cs} s f) h r q = single (sealed (omega arith) (f.seals r)) q
whole_reads t (fine_blocked s b) h r q = single (b.blocks' (omega arith) r) q
whole_reads t (fine_member {k = k} {t = u} {ts = us} s f m g) h r q = absurd (no_member (Expr 0) k (part u us) s refl r.is)
whole_reads t (fine_list f) h r q = let bad = r.is in cc
whole_reads t (fine_node {k = k} {cs = cs} tk np g) h r q = single (taken_reads 1 0 (Expr 0) k cs tk g (tames_of k cs tk h) r refl refl q) q
whole_reads {v} {x} {y} t (fine_seq {k = k} {cs = cs} s f) h r q =
    subst (λ k. Whole x (node k cs) y) (sym (seq_is k s)) (seq_reads cs f (seq_tames k cs s h) (subst (λ k. IsRead v false (Expr 0) x (node k cs) y) (seq_is k s) r) q)

-- a tree whose spine is known
pub spined_reads : (n m : ℕ) (c : Nonterminal) {v : Surroundings} {x y : Place} {t : Tree} → Fine t → is_hole t ≡ false → IsRead v false c x t y → kin c ≡ true
    → ((q : Kind) → scope q ≡ true → in_homes c (homes q) ≡ true → nat_le n (level q) ≡ true → ends_by m q ≡ true) → no_seq c ≡ true → spine_ok n t ≡ true → calm m y ≡ true → Reads n x t y
spined_reads n m c (fine_leaf {s = s} {t = t} p) o r l d z h k = leaf_reads n s t r l p o
spined_reads n m c (fine_piece {s = s} {t = t} p) o r l d z h k = absurd (no_piece c s t (kin_free c l) p (in_is r))
spined_reads n m c (fine_regexp {t = t}) o r l d z h k = regexp_reads n t r
spined_reads n m c (fine_prop {k = q} {cs = cs} t p f) o r l d z h k =
    let i = home_of c q cs (and_left (admits c (node q cs)) (fits_below c (node q cs)) r.is) in
    absurd (never (is_prop q) p (not_is _ (and_left (not (is_prop q)) _ (d q (taken_scope q t) i (and_left (nat_le n (level q)) _ h)))))
spined_reads n m c (fine_sealed {k = q} {cs = cs} s f) o r l d z h k = sealed (spine_level q cs n s h) (f.seals r)
spined_reads n m c (fine_blocked {k = q} {cs = cs} s b) o r l d z h k = b.blocks' (blocked_spine q cs n s h) r
spined_reads n m c (fine_member {k = q} {t = u} {ts = us} s f e g) o r l d z h k = absurd (no_member c q (part u us) s (kin_memberless c l) r.is)
spined_reads n m c (fine_list f) o r l d z h k = cc
spined_reads n m c (fine_seq {k = q} {cs = cs} s f) o r l d z h k = absurd (no_seq_here c q cs s z r.is)
spined_reads n m c {v} {x} {y} (fine_node {k = q} {cs = cs} t np g) o r l d z h k =
    let i = home_of c q cs (and_left (admits c (node q cs)) (fits_below c (node q cs)) r.is) in
    let b : m ≤ ending q = le_nat (and_right (not (is_prop q)) _ (d q (taken_scope q t) i (and_left (nat_le n (level q)) _ h))) in
    g.reads n v c x y r l h (calm_more m (ending q) y b k)
