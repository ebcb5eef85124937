-- A `for` with three parts, one over keys and one over values don't begin at one place.
use Rattle.std.proofs.Common.{◌≡◌, ℕ, ◌≤◌, Bool, true, false, not, List, [], ◌∷◌, refl, sym, ◌∙◌, ap, subst, arith}
use Rattle.std.specs.Prelude.{IsTrue, ◌&&◌, ◌||◌, nat_eq, nat_le, codes}
use Rattle.jsx_base.specs.Token.{Text, Operator, TokenKind, IdentifierName, Punctuator, kind_number}
use Rattle.jsx_tree.specs.Signs.{Sign, Tok, Ends, Unless, AfterBinding}
use Rattle.jsx_tree.specs.Kinds.{DeclareWord, Declarator, For, ForDeclaration, ForIn, ForOf, ForBinding, Binds, Assigns, Kind, statement, Tree, leaf, node, list, Forest, none, part}
use Rattle.jsx_tree.specs.Nonterminals.{Expr, Pat, Declarators, ForInit, ForHead, ForOfHead, leaf_in}
use Rattle.jsx_tree.specs.Grammar.{NoTrailing, Optional, vars}
use Rattle.jsx_tree.specs.Form.{admits, fits_below, enough}
use Rattle.jsx_tree.specs.StaticRules.{Surroundings}
use Rattle.jsx_tree.specs.Reading.{Place, Lost, At, forth}
use Rattle.jsx_tree.proofs.Tokens.{and_left, and_right, same_is}
use Rattle.jsx_tree.specs.Walk as W
use Rattle.jsx_tree.specs.Walk.{is_found, IsRead, IsNode}
use Rattle.jsx_tree.proofs.Rows.Bridge.{node_walk}
use Rattle.jsx_tree.proofs.OneTree.Next.{reach_seen}
use Rattle.jsx_tree.proofs.OneTree.Table.{kinds}
use Rattle.jsx_tree.proofs.OneTree.Readings.{Blocked, Step, tok, sub, tail, grows, calm, Flat, comma, Reads, Walk, done, take, under, Whole, single, several, Rest, final, also}
use Rattle.jsx_tree.proofs.OneTree.Checks.{every, same_token, apart}
use Rattle.jsx_tree.proofs.OneTree.Facts.{never, or_else, Test, yes', no', test, eq_nat, le_nat, kind_is, Seen, took, for_kind}
use Rattle.jsx_tree.proofs.OneTree.Starting.{no_growth}
use Rattle.jsx_tree.proofs.OneTree.Growths.{Through, here, step, block, calm_one, split}
use Rattle.jsx_tree.proofs.OneTree.Pairs.{two_tokens, move, ends, tail_only, no_arrow, tail_block, blocks_same}
use Rattle.jsx_tree.proofs.OneTree.Agreeing.{one_walk, no_walk, passes}
use Rattle.jsx_tree.proofs.OneTree.Fine.{at_sign, at_part, at_many, at_end}
use Rattle.jsx_tree.proofs.OneTree.Spines.{home_of}
use Rattle.jsx_tree.proofs.OneTree.Placed.{whole_reads, tree_reads, hole_free}
use Rattle.jsx_tree.proofs.OneTree.Chains.{fine}
use Rattle.jsx_tree.proofs.OneTree.Evidence.{Kept, Kepts, kept_left, kept_right, kept_list, kept_listed, kept_kind, kept_parts}
use Rattle.jsx_tree.proofs.OneTree.Parts.{tame_of}
use Rattle.jsx_tree.proofs.OneTree.Wants.{ended, mark, met, look_met, look_same, read_start, at_optional}
use Rattle.jsx_tree.proofs.OneTree.Rows.{own_leaf, own_kind, pattern_part}
use Rattle.jsx_tree.proofs.OneTree.Kinds.Declarators.{declarator_kind, after_comma, items_start}
use Rattle.jsx_tree.proofs.OneTree.Kinds.Inits.{Init, declares, expresses, Head, binds, targets, init_view, head_view, words_same, word_start, declares_word, binds_word, init_starts, target_placed, target_starts, head_mark, head_same}

-- ---- two growths from one place

through_place : {n : ℕ} {p q z w : Place} {f f' g g' : Flat} → Through n p f z g → Through n q f' w g' → p ≡ q → calm n z ≡ true → calm n w ≡ true → z ≡ w
through_place here here e c d = e
through_place {n} here (step k s d l b w th) e c c' = absurd (no_growth k s d l b w (subst (λ z. calm n z ≡ true) e c))
through_place {n} (step k s d l b w th) here e c c' = absurd (no_growth k s d l b w (subst (λ z. calm n z ≡ true) (sym e) c'))
through_place (step k {ts = ts} s d l b w th) (step k' {p = p} {ts = us} s' d' l' b' w' th') e c c' =
    let o = (tail_only k ts s d (λ qs us q hh v. one_walk hh w v) (λ qs us q hh v. no_walk hh w v)).only k' us p s' d' (move e w') in
    through_place th th' o.2 c c'
through_place {n} here (block l b a) e c c' = absurd (no_arrow l b a (subst (λ z. calm n z ≡ true) e c))
through_place {n} (block l b a) here e c c' = absurd (no_arrow l b a (subst (λ z. calm n z ≡ true) (sym e) c'))
through_place {z = z} (block {cs = cs} l b a) (step k s d l' b' w th) e c c' = absurd (tail_block k s d w (subst (λ p. Blocked p cs z) e a))
through_place {w = w} (step k s d l b v th) (block {cs = ds} l' b' a) e c c' = absurd (tail_block k s d v (subst (λ p. Blocked p ds w) (sym e) a))
through_place {w = w} (block l b a) (block {cs = ds} l' b' a') e c c' = (blocks_same a (subst (λ p. Blocked p ds w) (sym e) a')).1

reads_place : {x y z : Place} {t u : Tree} → Reads 1 x t y → Reads 1 x u z → calm 1 y ≡ true → calm 1 z ≡ true → y ≡ z
reads_place r s c d = (ends (passes {n = 1} r (omega arith) (split s (omega arith)) d) c).place

-- ---- an expression as its first and what the comma adds

data Others (y : Place) (u : Text) : Type 0 where
  alone : Seen y Punctuator u → Others y u
  joined : {z w : Place} {ts : Forest} → forth comma y ≡ z → IsTrue (is_found z) → Rest z ts w → Seen w Punctuator u → Others y u

record Lead (x : Place) (u : Text) : Type 0 where
  first : Tree
  next : Place
  reads : Reads 1 x first next
  quiet : calm 1 next ≡ true
  others : Others next u

lead : {x y : Place} {t : Tree} {u : Text} → Whole x t y → Seen y Punctuator u → Lead x u
lead (single {y = y} {t = t} r c) s = record { first = t; next = y; reads = r; quiet = calm_one y c; others = alone s }
lead (several {y = y} {t = t} r c e f d) s = record { first = t; next = y; reads = r; quiet = c; others = joined e f d s }

comma_seen : {x y : Place} → forth comma x ≡ y → IsTrue (is_found y) → Seen x Punctuator (codes ",")
comma_seen {x} e f = took Punctuator (codes ",") x e f

move_seen : {x y : Place} {k : TokenKind} {t : Text} → x ≡ y → Seen x k t → Seen y k t
move_seen {k = k} {t} e s = subst (λ z. Seen z k t) e s

rests_apart : {x p y z : Place} {ts us : Forest} → Rest x ts y → Rest p us z → x ≡ p → Seen y Punctuator (codes ";") → Seen z Punctuator (codes ")") → ⊥
rests_apart (final {y = y} {t = t} r c) (final {y = z} {t = u} s d) e m n =
    two_tokens (move_seen (reads_place r (subst (λ x. Reads 1 x u z) (sym e) s) (calm_one y c) (calm_one z d)) m) n refl
rests_apart (final {y = y} r c) (also {y = z} {t = u} s d g h i) e m n =
    two_tokens (move_seen (reads_place r (subst (λ x. Reads 1 x u z) (sym e) s) (calm_one y c) d) m) (comma_seen g h) refl
rests_apart (also {y = y} r c g h i) (final {y = z} {t = u} s d) e m n =
    two_tokens (move_seen (reads_place r (subst (λ x. Reads 1 x u z) (sym e) s) c (calm_one z d)) (comma_seen g h)) n refl
rests_apart (also {y = y} r c g h i) (also {y = z} {t = u} s d g' h' j) e m n =
    rests_apart i j (sym g ∙ (ap (forth comma) (reads_place r (subst (λ x. Reads 1 x u z) (sym e) s) c d) ∙ g')) m n

others_apart : {y z : Place} → Others y (codes ";") → Others z (codes ")") → y ≡ z → ⊥
others_apart (alone m) (alone n) e = two_tokens (move_seen e m) n refl
others_apart (alone m) (joined g h i n) e = two_tokens (move_seen e m) (comma_seen g h) refl
others_apart (joined g h i m) (alone n) e = two_tokens (move_seen e (comma_seen g h)) n refl
others_apart (joined g h i m) (joined g' h' j n) e = rests_apart i j (sym g ∙ (ap (forth comma) e ∙ g')) m n

others_word : {y : Place} {u v : Text} → Others y u → Seen y IdentifierName v → ⊥
others_word (alone m) s = two_tokens s m refl
others_word (joined g h i m) s = two_tokens s (comma_seen g h) refl

-- ---- behind `in`

abbrev pub in_word : Sign
in_word = Tok Operator IdentifierName (codes "in")

abbrev pub in_tail : List Step → Bool
in_tail (tok Operator k t ∷ sub n b ∷ []) = same_token k t IdentifierName (codes "in") && nat_le 1 b
in_tail ps = false

abbrev in_ok : Kind → Bool
in_ok k = not (grows k) || (in_tail (tail k) || apart (tail k) (tok Operator IdentifierName (codes "in") ∷ []))

in_ones : every in_ok kinds ≡ true
in_ones = refl

-- the right side of an `in`
record Right (x : Place) (y : Place) : Type 0 where
  level : ℕ
  tree : Tree
  next : Place
  moves : forth in_word x ≡ next
  enough' : 1 ≤ level
  reads : Reads level next tree y

right : {ps : List Step} {x y : Place} {ts : Forest} → Walk ps x ts y → in_tail ps ≡ true → Right x y
right (take {m = Operator} {k = k} {t = t} {x = x} {y = y} e f (under {b = b} {t = u} r c done)) h =
    let s = and_left (same_token k t IdentifierName (codes "in")) _ h in
    record {
      level = b;
      tree = u;
      next = y;
      moves = (λ i. forth (Tok Operator (sym (kind_is k IdentifierName (eq_nat (and_left (nat_eq (kind_number k) 0) _ s))) i) (sym (same_is t (codes "in") (and_right (nat_eq (kind_number k) 0) _ s)) i)) x) ∙ e;
      enough' = le_nat (and_right (same_token k t IdentifierName (codes "in")) _ h);
      reads = r;
    }
right _ h = cc

right_apart : {y p q z : Place} {g g' : Flat} → Right y q → Through 1 q g z g' → Others z (codes ";") → calm 1 z ≡ true → forth in_word y ≡ p → Lead p (codes ")") → ⊥
right_apart k th o c i l =
    let back = sym k.moves ∙ i in
    let th' = passes {n = 1} k.reads k.enough' (split (subst (λ p. Reads 1 p l.first l.next) (sym back) l.reads) (omega arith)) l.quiet in
    others_apart o l.others (through_place th th' refl c l.quiet)

in_through : {y p z : Place} {g g' : Flat} → Through 1 y g z g' → Others z (codes ";") → calm 1 z ≡ true → forth in_word y ≡ p → IsTrue (is_found p) → Lead p (codes ")") → ⊥
in_through {y} here o c i f l = others_word o (took IdentifierName (codes "in") y i f)
in_through {y} (block le b a) o c i f l = two_tokens (took IdentifierName (codes "in") y i f) (took Punctuator (codes "=>") y a.arrow' a.found_arrow) refl
in_through (step k s d le b w th) o c i f l = by_tail (test (in_tail (tail k)))
  where
    by_tail : Test (in_tail (tail k)) → ⊥
    by_tail (yes' h) = right_apart (right w h) th o c i l
    by_tail (no' h) = no_walk (or_else (in_tail (tail k)) _ (or_else (not (grows k)) _ (for_kind in_ok in_ones k s) (ap not d)) h) w (take i f done)

-- an expression that goes on from a head with `in`, and ends before a `;`, against what stands behind the `in` before a `)`
in_apart : {x y p z w : Place} {t h e : Tree} → Whole x t w → Seen w Punctuator (codes ";") → Reads 17 x h y → forth in_word y ≡ p → IsTrue (is_found p) → Whole p e z → Seen z Punctuator (codes ")") → ⊥
in_apart a m r i f b n =
    let l = lead a m in
    in_through (passes {n = 1} r (omega arith) (split l.reads (omega arith)) l.quiet) l.others l.quiet i f (lead b n)

of_through : {y z : Place} {g g' : Flat} → Through 1 y g z g' → Others z (codes ";") → Seen y IdentifierName (codes "of") → ⊥
of_through here o s = others_word o s
of_through {y} (block le b a) o s = two_tokens s (took Punctuator (codes "=>") y a.arrow' a.found_arrow) refl
of_through {y} (step k c d le b w th) o s = no_growth k c d le b w (reach_seen IdentifierName (codes "of") 1 y s refl)

-- nothing goes on with an expression before `of`
of_apart : {x y w : Place} {t h : Tree} → Whole x t w → Seen w Punctuator (codes ";") → Reads 17 x h y → Seen y IdentifierName (codes "of") → ⊥
of_apart a m r s =
    let l = lead a m in
    of_through (passes {n = 1} r (omega arith) (split l.reads (omega arith)) l.quiet) l.others s

-- ---- declarations, and a name that is bound

init_word : {v : Surroundings} {x y z : Place} {t : Tree} {d u : Text} → W.Past IsRead v (Optional (Tok Operator Punctuator (codes "=") ∷ []) (Expr 1) [] []) x (W.one t) y → y ≡ z → Seen z Punctuator d → Seen x IdentifierName u → ⊥
init_word (W.absent {x = x} {y = y} e f) b s r = two_tokens r (move_seen (sym (look_same (Unless []) x y refl e f ∙ b)) s) refl
init_word (W.present {x = x} {y = y} e i g f) b s r = two_tokens r (took Punctuator (codes "=") x e (read_start i)) refl

-- a declarator before a punctuator, and a pattern before a word
declarator_word : {v w : Surroundings} {x y z : Place} {d u : Text} (t p : Tree) → Kept t → Kept p → IsRead v false Declarators x t y → IsRead w false (Pat Binds) x p z → Seen y Punctuator d → Seen z IdentifierName u → ⊥
declarator_word (leaf s t) p h k r q m n = absurd (own_leaf Declarators s t refl (and_left (leaf_in Declarators s t) _ r.is))
declarator_word (list ts) p h k r q m n = let bad = r.is in cc
declarator_word {v} {x = x} {y} (node l cs) p h k r q m n =
    let i = home_of Declarators l cs (and_left (admits Declarators (node l cs)) (fits_below Declarators (node l cs)) r.is) in
    let e = declarator_kind l (own_kind Declarators l refl (kept_kind h) i) i in
    let b = at_part (node_walk false (statement Declarator) refl (subst (λ k. IsRead v false Declarators x (node k cs) y) e r)).walk in
    let s = at_sign b.walk in
    let o = at_optional s.walk in
    let g = subst Kepts b.is (kept_parts h) in
    let same' = pattern_part b.tree p (kept_left g) k b.read q in
    init_word o.past (at_end o.walk).1 m (by_ends b.next s.next s.moves s.found (move_seen (sym same'.place) n))
  where
    by_ends : {k : TokenKind} {t : Text} (x y : Place) → forth (Ends AfterBinding) x ≡ y → IsTrue (is_found y) → Seen x k t → Seen y k t
    by_ends Lost y e f s = absurd (never false (subst (λ p. is_found p ≡ true) (sym e) f) refl)
    by_ends {k} {t} (At q g text) y e f s = subst (λ y. Seen y k t) e (record { kind = s.kind; text = s.text })

list_word : {v w : Surroundings} {x y z : Place} {u : Text} (ts : Forest) (p : Tree) → enough NoTrailing ts ≡ true → Kepts ts → Kept p → W.Items IsRead v NoTrailing Declarators x ts y → IsRead w false (Pat Binds) x p z → Seen y Punctuator (codes ";") → Seen z IdentifierName u → ⊥
list_word none p g h k i r m n = cc
list_word (part t none) p g h k (W.last {y = y} q e f) r m n = declarator_word t p (kept_left h) k q r (move_seen (sym e) m) n
list_word (part t (part t' ts)) p g h k (W.more {y = y} l q e i) r m n =
    declarator_word t p (kept_left h) k q r (comma_seen (after_comma y e) (items_start i)) n

declares_binds : {v w : Surroundings} {x y z : Place} {cs ds : Forest} {u : Text} (a b : DeclareWord) → Kepts cs → Kepts ds → IsNode IsRead v false (statement (ForDeclaration a)) x cs y → IsNode IsRead w false (statement (ForBinding b)) x ds z
    → Seen y Punctuator (codes ";") → Seen z IdentifierName u → ⊥
declares_binds {w = w} {x = x} {ds = ds} a b g g' m n s r =
    let p = at_sign m.walk in
    let q = at_sign n.walk in
    let l = at_many p.walk in
    let o = at_part q.walk in
    let e = words_same a b (declares_word a m) (binds_word b n) in
    let back : p.next ≡ q.next = sym p.moves ∙ ((λ i. forth (Tok Operator IdentifierName (vars (e i))) x) ∙ q.moves) in
    list_word l.trees o.tree l.enough' (kept_list (subst Kepts l.is g)) (kept_left (subst Kepts o.is g')) l.read
    (subst (λ x. IsRead (W.around w ds []) false (Pat Binds) x o.tree o.next) (sym back) o.read) (move_seen (sym (at_end l.walk).1) s) (move_seen (sym (at_end o.walk).1) r)

-- ---- what begins a `for` with three parts, and a head

mark_calm : {y : Place} → Seen y Punctuator (codes ";") → calm 0 y ≡ true
mark_calm {y} s = look_met (ended 0) Punctuator (codes ";") y refl s refl

-- the rest of the argument is of two expressions
init_head : {v w : Surroundings} {x y z : Place} {t h : Tree} {u : Text} → Kept t → Kept h → Init v x t y → Head w x h z → Seen y Punctuator (codes ";") → Seen z IdentifierName u → calm 17 z ≡ true → (Whole x t y → Reads 17 x h z → ⊥) → ⊥
init_head f g (declares a k m) (binds b l n) s r c rest = declares_binds a b k l m n s r
init_head {x = x} f g (declares a k m) (targets {t = h} n) s r c rest = word_start a x (declares_word a m) (target_starts h g n c)
init_head {x = x} f g (expresses {t = t} m) (binds b l n) s r c rest = word_start b x (binds_word b n) (init_starts t f m (mark_calm s))
init_head f g (expresses {t = t} m) (targets {t = h} n) s r c rest =
    let i = tame_of t (Expr 0) refl f m.is in
    let j = tame_of h (Pat Assigns) refl g n.is in
    rest (whole_reads t (fine t i) i.tame' m (mark_calm s)) (tree_reads 17 17 (Pat Assigns) (fine h j) j.tame' (hole_free h (Pat Assigns) refl n) n target_placed c)

past_head : {v w : Surroundings} {x p y z : Place} {g h : Tree} {u : Text} → Kept g → Kept h → W.Past IsRead v (Optional [] ForInit [] []) x (W.one g) y → Head w p h z → x ≡ p → Seen y Punctuator (codes ";") → Seen z IdentifierName u → calm 17 z ≡ true
    → ((t : Tree) → Whole p t y → Reads 17 p h z → ⊥) → ⊥
past_head f k (W.absent {x = x} {y = y} e i) o b s r c rest = head_mark k o c refl (move_seen (sym (look_same (Unless []) x y refl e i) ∙ b) s)
past_head {v} {p = p} f k (W.present {x = x} {y = a} {z = q} {w = y} {t = t} e i g l) o b s r c rest =
    let i1 : IsRead v false ForInit a t y = subst (λ y. IsRead v false ForInit a t y) g i in
    let i2 : IsRead v false ForInit p t y = subst (λ x. IsRead v false ForInit x t y) (sym e ∙ b) i1 in
    init_head (kept_left (kept_listed f)) k (init_view t (kept_left (kept_listed f)) i2) o s r c (λ x y. rest t x y)

-- ---- the pairs

word_calm : {z : Place} {u : Text} → met (ended 17) IdentifierName u ≡ true → Seen z IdentifierName u → calm 17 z ≡ true
word_calm {z} {u} h s = look_met (ended 17) IdentifierName u z refl s h

pub for_in_apart : {v w : Surroundings} {x y z : Place} (cs ds : Forest) → Kepts cs → Kepts ds → IsNode IsRead v false (statement For) x cs y → IsNode IsRead w false (statement ForIn) x ds z → ⊥
for_in_apart {w = w} cs ds f k a b =
    let p1 = at_sign a.walk in
    let p2 = at_sign p1.walk in
    let o = at_optional p2.walk in
    let m = at_sign o.walk in
    let q1 = at_sign b.walk in
    let q2 = at_sign q1.walk in
    let h = at_part q2.walk in
    let n = at_sign h.walk in
    let e = at_part n.walk in
    let c = at_sign e.walk in
    let e1 : p1.next ≡ q1.next = sym p1.moves ∙ q1.moves in
    let e2 : p2.next ≡ q2.next = sym p2.moves ∙ (ap (forth (mark (codes "("))) e1 ∙ q2.moves) in
    let f' = kept_left (subst Kepts o.is f) in
    let k' = subst Kepts h.is k in
    let k2 = subst Kepts e.is (kept_right k') in
    let s = took Punctuator (codes ";") o.next m.moves m.found in
    let r = took IdentifierName (codes "in") h.next n.moves n.found in
    let d = took Punctuator (codes ")") e.next c.moves c.found in
    let i = tame_of e.tree (Expr 0) refl (kept_left k2) e.read.is in
    let whole = whole_reads e.tree (fine e.tree i) i.tame' e.read (look_met (ended 0) Punctuator (codes ")") e.next refl d refl) in
    past_head f' (kept_left k') o.past (head_view ForHead h.tree refl (kept_left k') h.read) e2 s r (word_calm refl r) (λ t x y. in_apart x s y n.moves n.found whole d)

pub for_of_apart : {v w : Surroundings} {x y z : Place} (cs ds : Forest) → Kepts cs → Kepts ds → IsNode IsRead v false (statement For) x cs y → IsNode IsRead w false (statement ForOf) x ds z → ⊥
for_of_apart {w = w} cs ds f k a b =
    let p1 = at_sign a.walk in
    let p2 = at_sign p1.walk in
    let o = at_optional p2.walk in
    let m = at_sign o.walk in
    let q1 = at_sign b.walk in
    let q2 = at_sign q1.walk in
    let h = at_part q2.walk in
    let n = at_sign h.walk in
    let e1 : p1.next ≡ q1.next = sym p1.moves ∙ q1.moves in
    let e2 : p2.next ≡ q2.next = sym p2.moves ∙ (ap (forth (mark (codes "("))) e1 ∙ q2.moves) in
    let f' = kept_left (subst Kepts o.is f) in
    let k' = subst Kepts h.is k in
    let s = took Punctuator (codes ";") o.next m.moves m.found in
    let r = took IdentifierName (codes "of") h.next n.moves n.found in
    past_head f' (kept_left k') o.past (head_view ForOfHead h.tree refl (kept_left k') h.read) e2 s r (word_calm refl r) (λ t x y. of_apart x s y r)

pub in_of_apart : {v w : Surroundings} {x y z : Place} (cs ds : Forest) → Kepts cs → Kepts ds → IsNode IsRead v false (statement ForIn) x cs y → IsNode IsRead w false (statement ForOf) x ds z → ⊥
in_of_apart {w = w} cs ds f k a b =
    let p1 = at_sign a.walk in
    let p2 = at_sign p1.walk in
    let g = at_part p2.walk in
    let m = at_sign g.walk in
    let q1 = at_sign b.walk in
    let q2 = at_sign q1.walk in
    let h = at_part q2.walk in
    let n = at_sign h.walk in
    let e1 : p1.next ≡ q1.next = sym p1.moves ∙ q1.moves in
    let e2 : p2.next ≡ q2.next = sym p2.moves ∙ (ap (forth (mark (codes "("))) e1 ∙ q2.moves) in
    let f' = kept_left (subst Kepts g.is f) in
    let k' = kept_left (subst Kepts h.is k) in
    let s = took IdentifierName (codes "in") g.next m.moves m.found in
    let r = took IdentifierName (codes "of") h.next n.moves n.found in
    let o = head_same f' k' (head_view ForHead g.tree refl f' g.read) (head_view ForOfHead h.tree refl k' (subst (λ x. IsRead (W.around w ds []) false ForOfHead x h.tree h.next) (sym e2) h.read)) (word_calm refl s) (word_calm refl r) in
    two_tokens (move_seen o.place s) r refl
