-- One `__proto__: a` at most stands in an object (ECMA-262 section 13.2.5.1).
use Rattle.std.proofs.Common.{◌≡◌, ◌+◌, ◌<◌, ◌≤◌, ℕ, zero, suc, nat_le, Bool, true, false, not, cond, List, [], ◌∷◌, length, map, get_or, arith, refl, sym, ◌∙◌, ap, subst}
use Rattle.std.specs.Prelude.{◌&&◌, ◌||◌}
use Rattle.std.proofs.lemmas.Bool.{le-leb, lt-leb}
use Rattle.std.proofs.lemmas.List.{length-map, get_or-map}
use Rattle.jsx_tree.specs.Kinds.{Object, expression, Tree, node, list, Forest, none, part}
use Rattle.jsx_tree.specs.Reading.{Place}
use Rattle.jsx_tree.specs.StaticRules.{Surroundings, at_most, count_of, is_proto}
use Rattle.jsx_tree.specs.View.{forest}
use Rattle.jsx_tree.specs.Walk.{tail}
use Rattle.jsx_tree.specs.Answers.{OnlyRow, NoNode, BuiltNode}
use Rattle.jsx_tree.specs.Faults.{Fault}
use Rattle.jsx_tree.proofs.Tokens.{and_left, and_both}
use Rattle.jsx_tree.proofs.Apart.{clash}
use Rattle.jsx_operand.specs.SoFar.{so_far}
use Rattle.jsx_token.specs.Marks.{row_so_far}

-- ---- the rule of an object

pub object_node : {v : Surroundings} {x y : Place} {t : Tree} {ms : Forest} → OnlyRow so_far v (tail (row_so_far (expression Object))) x (part (list ms) none) y → at_most 1 is_proto ms ≡ true → t ≡ node (expression Object) (part (list ms) none) → BuiltNode so_far v (tail (row_so_far (expression Object))) (expression Object) t x y
object_node {ms = ms} o h is = record { parts = part (list ms) none; is = is; row = o; keeps = and_both _ _ (and_both _ _ h refl) refl }

kept : (v : Surroundings) (ms : Forest) → so_far.keeps (expression Object) v (part (list ms) none) ≡ true → at_most 1 is_proto ms ≡ true
kept v ms k = and_left (at_most 1 is_proto ms) true (and_left (at_most 1 is_proto ms && true) true k)

pub two_protos : {v : Surroundings} {x y : Place} {ms : Forest} {e : Fault} → OnlyRow so_far v (tail (row_so_far (expression Object))) x (part (list ms) none) y → at_most 1 is_proto ms ≡ false → NoNode so_far v (tail (row_so_far (expression Object))) (expression Object) x e
two_protos {v} {ms = ms} o n = record { no = λ us z w k s. clash _ (kept v ms (subst (λ ts. so_far.keeps (expression Object) v ts ≡ true) (sym (o.alone us z w).0) k)) n }

pub not_false : (b : Bool) → not b ≡ false → b ≡ true
not_false true e = refl
not_false false e = cc

-- ---- how many of a list there are, from one of them on

abbrev pub count_from : (Tree → Bool) → ℕ → List Tree → ℕ
count_from f zero ts = count_of f (forest ts)
count_from f (suc n) [] = 0
count_from f (suc n) (t ∷ ts) = count_from f n ts

count_at : (f : Tree → Bool) (i : ℕ) (ts : List Tree) (t : Tree) → i < length ts → t ≡ get_or ts i t → count_from f i ts ≡ cond (f t) (suc (count_from f (suc i) ts)) (count_from f (suc i) ts)
count_at f i [] t w e = absurd (omega arith)
count_at f zero (u ∷ us) t w e = ap (λ v. cond (f v) (suc (count_of f (forest us))) (count_of f (forest us))) (sym e)
count_at f (suc i) (u ∷ us) t w e = count_at f i us t (omega arith) e

count_end : (f : Tree → Bool) (i : ℕ) (ts : List Tree) → length ts ≤ i → count_from f i ts ≡ 0
count_end f zero [] h = refl
count_end f (suc i) [] h = refl
count_end f zero (t ∷ ts) h = absurd (omega arith)
count_end f (suc i) (t ∷ ts) h = count_end f i ts (omega arith)

one_at : {A : Type 0} (f : Tree → Bool) (v : A → Tree) (xs : List A) (i : ℕ) (x : A) → i < length xs → x ≡ get_or xs i x → count_from f i (map v xs) ≡ cond (f (v x)) (suc (count_from f (i + 1) (map v xs))) (count_from f (i + 1) (map v xs))
one_at f v xs i x w is =
    let one : suc i ≡ i + 1 = omega arith in
    count_at f i (map v xs) (v x) (omega (arith, length-map xs v)) (ap v is ∙ sym (get_or-map v xs i x (v x) w)) ∙ ap (λ j. cond (f (v x)) (suc (count_from f j (map v xs))) (count_from f j (map v xs))) one

-- ---- the loop: whether there was one, and what is left

-- of a list's number: with one or none before the place, and the rest
abbrev pub Counts : {A : Type 0} → (Tree → Bool) → (A → Tree) → List A → Bool → ℕ → Type 0
Counts f v xs h i = count_of f (forest (map v xs)) ≡ cond h 1 0 + count_from f i (map v xs)

second : (h d : Bool) (n m r : ℕ) → n ≡ cond h 1 0 + m → m ≡ cond d (suc r) r → (h && d) ≡ true → nat_le n 1 ≡ false
second true true n m r k e o = lt-leb n 1 (omega (arith, k, e))
second true false n m r k e o = cc
second false d n m r k e o = cc

after : (h d : Bool) (n m r : ℕ) → n ≡ cond h 1 0 + m → m ≡ cond d (suc r) r → (h && d) ≡ false → n ≡ cond (h || d) 1 0 + r
after true true n m r k e o = cc
after true false n m r k e o = omega (arith, k, e)
after false true n m r k e o = omega (arith, k, e)
after false false n m r k e o = omega (arith, k, e)

few : (h : Bool) (n : ℕ) → n ≡ cond h 1 0 + 0 → nat_le n 1 ≡ true
few true n k = le-leb n 1 (omega (arith, k))
few false n k = le-leb n 1 (omega (arith, k))

pub counts_begin : {A : Type 0} (f : Tree → Bool) (v : A → Tree) (xs : List A) → Counts f v xs false 0
counts_begin f v xs = omega arith

pub counts_past : {A : Type 0} (f : Tree → Bool) (v : A → Tree) (xs : List A) (h : Bool) (i : ℕ) (x : A) → i < length xs → x ≡ get_or xs i x → (h && f (v x)) ≡ false → Counts f v xs h i → Counts f v xs (h || f (v x)) (i + 1)
counts_past f v xs h i x w is o k = after h (f (v x)) _ _ (count_from f (i + 1) (map v xs)) k (one_at f v xs i x w is) o

pub counts_two : {A : Type 0} (f : Tree → Bool) (v : A → Tree) (xs : List A) (h : Bool) (i : ℕ) (x : A) → i < length xs → x ≡ get_or xs i x → (h && f (v x)) ≡ true → Counts f v xs h i → true ≡ not (at_most 1 f (forest (map v xs)))
counts_two f v xs h i x w is o k = sym (ap not (second h (f (v x)) _ _ (count_from f (i + 1) (map v xs)) k (one_at f v xs i x w is) o))

pub counts_few : {A : Type 0} (f : Tree → Bool) (v : A → Tree) (xs : List A) (h : Bool) (i : ℕ) → length xs ≤ i → Counts f v xs h i → false ≡ not (at_most 1 f (forest (map v xs)))
counts_few f v xs h i w k = sym (ap not (few h _ (k ∙ ap (λ n. cond h 1 0 + n) (count_end f i (map v xs) (omega (arith, w, length-map xs v))))))
