-- What the lines of a span hold, and what two spans as one hold.
use Rattle.std.proofs.Common.{min, max, ◌&&◌, Some, None, append_assoc, append-nil, ◌≡◌, ℕ, zero, suc, ◌+◌, ◌-◌, ◌<◌, ◌≤◌, Bool, true, false, cond, nat_eq, nat_le, List, [], ◌∷◌, ◌++◌, length, map, take, drop, refl, sym, ap, ◌∙◌, subst, arith}
use Rattle.std.specs.Prelude.{slice_get}
use Rattle.std.specs.List.{range_with_len}
use Rattle.std.specs.Option.{unwrap_or}
use Rattle.std.specs.Char.{len_utf8}
use Rattle.std.proofs.lemmas.Bool.Decides.{Decides-eqb}
use Rattle.std.proofs.lemmas.Bool.{le-leb, lt-leb}
use borrow.Author.Tests.{leb-true}
use Rattle.std.proofs.lemmas.List.{drop-take, length-drop, length-take}
use Rattle.std.proofs.Math.Seq.{take-length}
use Rattle.jsx_base.specs.Lines.{before_first, lines, last_line, front, size, line_of}
use Rattle.jsx_base.specs.Files.{File, front_at, holds}
use Rattle.jsx_base.specs.declared.place.Span.{Span}
use Rattle.std.proofs.lemmas.Str.{len_utf8_bounds}
use Rattle.jsx_base.proofs.LineParts.{size-append, front_append}
use Rattle.jsx_base.specs.SpanPlaces.{low, high, begin_of, meets, HoldsBoth, MergedHoldBoth, LinesHoldText, line_between, line_col, held_by, joined}

-- a list of lines that has one
record Cons (ls : List (List ℕ)) : Type 0 where
  head : List ℕ
  tail : List (List ℕ)
  is : ls ≡ head ∷ tail

some_before : (b : Bool) (c : ℕ) (ls : List (List ℕ)) → Cons (cond b ([] ∷ ls) (before_first c ls))
some_before true c ls = record { head = []; tail = ls; is = refl }
some_before false c [] = record { head = c ∷ []; tail = []; is = refl }
some_before false c (l ∷ ls) = record { head = c ∷ l; tail = ls; is = refl }

some_line : (t : List ℕ) → Cons (lines t)
some_line [] = record { head = []; tail = []; is = refl }
some_line (c ∷ t) = some_before (nat_eq c 10) c (lines t)

-- the last of some lines up to a column, and the first from one on
abbrev cut_last : ℕ → List (List ℕ) → List (List ℕ)
cut_last e [] = []
cut_last e (l ∷ []) = take e l ∷ []
cut_last e (l ∷ m ∷ ls) = l ∷ cut_last e (m ∷ ls)

abbrev cut_first : ℕ → List (List ℕ) → List (List ℕ)
cut_first s [] = []
cut_first s (l ∷ ls) = drop s l ∷ ls

length-cut_last : (e : ℕ) (ls : List (List ℕ)) → length (cut_last e ls) ≡ length ls
length-cut_last e [] = refl
length-cut_last e (l ∷ []) = refl
length-cut_last e (l ∷ m ∷ ls) = ap suc (length-cut_last e (m ∷ ls))

length-cut_first : (s : ℕ) (ls : List (List ℕ)) → length (cut_first s ls) ≡ length ls
length-cut_first s [] = refl
length-cut_first s (l ∷ ls) = refl

drop-cut_last : (e a : ℕ) (ls : List (List ℕ)) → a < length ls → cut_last e (drop a ls) ≡ drop a (cut_last e ls)
drop-cut_last e a [] h = absurd (omega (arith, h))
drop-cut_last e zero (l ∷ ls) h = refl
drop-cut_last e (suc a) (l ∷ []) h = absurd (omega (arith, h))
drop-cut_last e (suc a) (l ∷ m ∷ ls) h = drop-cut_last e a (m ∷ ls) (omega (arith, h))

-- the lines of a front are the first lines of the text, of which the last ends with the front
first_step : (b : Bool) (c : ℕ) (ls ms : List (List ℕ)) → Cons ls → Cons ms → cut_last (length (last_line ls)) (take (length ls) ms) ≡ ls
    → cut_last (length (last_line (cond b ([] ∷ ls) (before_first c ls)))) (take (length (cond b ([] ∷ ls) (before_first c ls))) (cond b ([] ∷ ms) (before_first c ms))) ≡ cond b ([] ∷ ls) (before_first c ls)
first_step b c [] ms p q h = let e : [] ≡ p.head ∷ p.tail = p.is in cc
first_step b c (x ∷ xs) [] p q h = let e : [] ≡ q.head ∷ q.tail = q.is in cc
first_step true c (x ∷ xs) (y ∷ ys) p q h = ap (λ (ls : List (List ℕ)). [] ∷ ls) h
first_step false c (x ∷ []) (y ∷ ys) p q h = let e : take (length x) y ≡ x = cc in ap (λ (l : List ℕ). (c ∷ l) ∷ []) e
first_step false c (x ∷ x' ∷ xs) (y ∷ []) p q h = cc
first_step false c (x ∷ x' ∷ xs) (y ∷ y' ∷ ys) p q h = cc

front_lines : (q r : List ℕ) → cut_last (length (last_line (lines q))) (take (length (lines q)) (lines (q ++ r))) ≡ lines q
front_lines [] r = rw (some_line r).is refl
front_lines (c ∷ q) r = first_step (nat_eq c 10) c (lines q) (lines (q ++ r)) (some_line q) (some_line (q ++ r)) (front_lines q r)

-- how many lines are before the last
abbrev back : List (List ℕ) → ℕ
back [] = 0
back (l ∷ ls) = length ls

-- the lines behind a front are the lines from its last on, of which the first begins where the front ends
rest_step : (b : Bool) (c : ℕ) (ls ms ns : List (List ℕ)) → Cons ls → Cons ms → cut_first (length (last_line ls)) (drop (back ls) ms) ≡ ns
    → cut_first (length (last_line (cond b ([] ∷ ls) (before_first c ls)))) (drop (back (cond b ([] ∷ ls) (before_first c ls))) (cond b ([] ∷ ms) (before_first c ms))) ≡ ns
rest_step b c [] ms ns p q h = let e : [] ≡ p.head ∷ p.tail = p.is in cc
rest_step b c (x ∷ xs) [] ns p q h = let e : [] ≡ q.head ∷ q.tail = q.is in cc
rest_step true c (x ∷ xs) (y ∷ ys) ns p q h = h
rest_step false c (x ∷ []) (y ∷ ys) ns p q h = h
rest_step false c (x ∷ x' ∷ xs) (y ∷ ys) ns p q h = h

rest_lines : (p s : List ℕ) → cut_first (length (last_line (lines p))) (drop (back (lines p)) (lines (p ++ s))) ≡ lines s
rest_lines [] s = rw (some_line s).is refl
rest_lines (c ∷ p) s = rest_step (nat_eq c 10) c (lines p) (lines (p ++ s)) (lines s) (some_line p) (some_line (p ++ s)) (rest_lines p s)

-- a text is its lines with LF between
join_step : (c : ℕ) (ls : List (List ℕ)) (s : List ℕ) → Cons ls → joined ls ≡ s → (b : Bool) → nat_eq c 10 ≡ b → joined (cond b ([] ∷ ls) (before_first c ls)) ≡ c ∷ s
join_step c [] s p h b is = let e : [] ≡ p.head ∷ p.tail = p.is in cc
join_step c (x ∷ xs) s p h true is = let e : c ≡ 10 = (Decides-eqb c 10).0 is in rw e (ap (λ (t : List ℕ). 10 ∷ t) h)
join_step c (x ∷ []) s p h false is = ap (λ (t : List ℕ). c ∷ t) h
join_step c (x ∷ y ∷ xs) s p h false is = ap (λ (t : List ℕ). c ∷ t) h

joined-lines : (s : List ℕ) → joined (lines s) ≡ s
joined-lines [] = refl
joined-lines (c ∷ s) = join_step c (lines s) s (some_line s) (joined-lines s) (nat_eq c 10) refl

-- what is held of the i-th line
abbrev piece : List (List ℕ) → ℕ × ℕ → ℕ × ℕ → ℕ → List ℕ
piece ls f l i = drop (cond (nat_eq (i + 1) f.0) f.1 0) (take (cond (nat_eq (i + 1) l.0) l.1 (length (unwrap_or (slice_get ls i) []))) (unwrap_or (slice_get ls i) []))

record IsAt (ls : List (List ℕ)) (i : ℕ) (l : List ℕ) (more : List (List ℕ)) : Type 0 where
  here : unwrap_or (slice_get ls i) [] ≡ l
  next : drop (i + 1) ls ≡ more

is_at : (ls : List (List ℕ)) (i : ℕ) (l : List ℕ) (more : List (List ℕ)) → drop i ls ≡ l ∷ more → IsAt ls i l more
is_at [] zero l more e = cc
is_at [] (suc i) l more e = cc
is_at (x ∷ xs) zero l more e = record { here = cc; next = cc }
is_at (x ∷ xs) (suc i) l more e = let k = is_at xs i l more e in let f : suc (i + 1) ≡ suc i + 1 = omega arith in record { here = k.here; next = subst (λ (n : ℕ). drop n (x ∷ xs) ≡ more) f k.next }

eq-self : (i j : ℕ) → i ≡ j → nat_eq i j ≡ true
eq-self i j e = (Decides-eqb i j).1 e

eq-other : (i j : ℕ) → (i ≡ j → ⊥) → nat_eq i j ≡ false
eq-other i j h = go (nat_eq i j) refl
  where
    go : (b : Bool) → nat_eq i j ≡ b → b ≡ false
    go false q = refl
    go true q = absurd (h ((Decides-eqb i j).0 q))

-- the piece of a line that is neither, the last, the first, or both
piece_between : (ls : List (List ℕ)) (a s b e i : ℕ) (l : List ℕ) (more : List (List ℕ)) → IsAt ls i l more → a < i → i < b → piece ls (suc a, s) (suc b, e) i ≡ l
piece_between ls a s b e i l more at lo hi = rw (eq-other (i + 1) (suc a) (λ q. omega (arith, q, lo)), eq-other (i + 1) (suc b) (λ q. omega (arith, q, hi)), at.here) (take-length l)

piece_last : (ls : List (List ℕ)) (a s b e i : ℕ) (l : List ℕ) (more : List (List ℕ)) → IsAt ls i l more → a < i → i ≡ b → piece ls (suc a, s) (suc b, e) i ≡ take e l
piece_last ls a s b e i l more at lo is = rw (eq-other (i + 1) (suc a) (λ q. omega (arith, q, lo)), eq-self (i + 1) (suc b) (omega (arith, is)), at.here) refl

piece_first : (ls : List (List ℕ)) (a s b e i : ℕ) (l : List ℕ) (more : List (List ℕ)) → IsAt ls i l more → i ≡ a → i < b → piece ls (suc a, s) (suc b, e) i ≡ drop s l
piece_first ls a s b e i l more at is hi = rw (eq-self (i + 1) (suc a) (omega (arith, is)), eq-other (i + 1) (suc b) (λ q. omega (arith, q, hi)), at.here, take-length l) refl

piece_only : (ls : List (List ℕ)) (a s b e i : ℕ) (l : List ℕ) (more : List (List ℕ)) → IsAt ls i l more → i ≡ a → i ≡ b → piece ls (suc a, s) (suc b, e) i ≡ drop s (take e l)
piece_only ls a s b e i l more at is is' = rw (eq-self (i + 1) (suc a) (omega (arith, is)), eq-self (i + 1) (suc b) (omega (arith, is')), at.here) refl

cons : {A : Type 0} {x y : A} {xs ys : List A} → x ≡ y → xs ≡ ys → x ∷ xs ≡ y ∷ ys
cons e f = cc

-- the pieces of the lines behind the first
later : (ls : List (List ℕ)) (a s b e : ℕ) (rest : List (List ℕ)) (n i : ℕ) → drop i ls ≡ rest → a < i → i + n ≡ suc b → n ≤ length rest
    → map (piece ls (suc a, s) (suc b, e)) (range_with_len i n) ≡ cut_last e (take n rest)
later ls a s b e [] zero i at lo sum few = refl
later ls a s b e [] (suc n) i at lo sum few = absurd (omega (arith, few))
later ls a s b e (l ∷ more) zero i at lo sum few = refl
later ls a s b e (l ∷ more) (suc zero) i at lo sum few = cons (piece_last ls a s b e i l more (is_at ls i l more at) lo (omega (arith, sum))) refl
later ls a s b e (l ∷ []) (suc (suc n)) i at lo sum few = absurd (omega (arith, few))
later ls a s b e (l ∷ m ∷ more) (suc (suc n)) i at lo sum few =
    let k = is_at ls i l (m ∷ more) at in
    cons (piece_between ls a s b e i l (m ∷ more) k lo (omega (arith, sum))) (later ls a s b e (m ∷ more) (suc n) (i + 1) k.next (omega (arith, lo)) (omega (arith, sum)) (omega (arith, few)))

pieces : (ls : List (List ℕ)) (a s b e : ℕ) (rest : List (List ℕ)) (n : ℕ) → drop a ls ≡ rest → a + n ≡ b → n < length rest
    → map (piece ls (suc a, s) (suc b, e)) (range_with_len a (suc n)) ≡ cut_first s (cut_last e (take (suc n) rest))
pieces ls a s b e [] n at sum few = absurd (omega (arith, few))
pieces ls a s b e (l ∷ more) zero at sum few = cons (piece_only ls a s b e a l more (is_at ls a l more at) refl (omega (arith, sum))) refl
pieces ls a s b e (l ∷ []) (suc n) at sum few = absurd (omega (arith, few))
pieces ls a s b e (l ∷ m ∷ more) (suc n) at sum few =
    let k = is_at ls a l (m ∷ more) at in
    cons (piece_first ls a s b e a l (m ∷ more) k refl (omega (arith, sum))) (later ls a s b e (m ∷ more) (suc n) (a + 1) k.next (omega arith) (omega (arith, sum)) (omega (arith, few)))

suc_back : (ls : List (List ℕ)) → Cons ls → length ls ≡ suc (back ls)
suc_back [] h = let e : [] ≡ h.head ∷ h.tail = h.is in cc
suc_back (l ∷ ls) h = refl

-- the lines of a span between two fronts of a text, with LF between them, are what stands there
behind_first : (p s : List ℕ) → back (lines p) < length (lines (p ++ s))
behind_first p s =
    let a : ℕ = back (lines p) in
    let c : ℕ = length (last_line (lines p)) in
    omega (arith, suc_back (lines s) (some_line s), sym (length-cut_first c (drop a (lines (p ++ s)))) ∙ ap length (rest_lines p s), length-drop a (lines (p ++ s)))

enough : (q r : List ℕ) → length (take (length (lines q)) (lines (q ++ r))) ≡ length (lines q)
enough q r = sym (length-cut_last (length (last_line (lines q))) (take (length (lines q)) (lines (q ++ r)))) ∙ ap length (front_lines q r)

cut_out : (p s r : List ℕ) (n : ℕ) → back (lines p) + n ≡ back (lines (p ++ s)) → cut_first (length (last_line (lines p))) (cut_last (length (last_line (lines (p ++ s)))) (take (suc n) (drop (back (lines p)) (lines ((p ++ s) ++ r))))) ≡ lines s
cut_out p s r n sum =
    let ls : List (List ℕ) = lines ((p ++ s) ++ r) in
    let a : ℕ = back (lines p) in
    let c : ℕ = length (last_line (lines p)) in
    let e : ℕ = length (last_line (lines (p ++ s))) in
    let w : ℕ = length (lines (p ++ s)) in
    let whole : w ≡ a + suc n = omega (arith, suc_back (lines (p ++ s)) (some_line (p ++ s)), sum) in
    let taken : take (suc n) (drop a ls) ≡ drop a (take w ls) = sym (drop-take a (suc n) ls) ∙ ap (λ (k : ℕ). drop a (take k ls)) (sym whole) in
    let low : a < length (take w ls) = omega (arith, enough (p ++ s) r, behind_first p s) in
    ap (λ (xs : List (List ℕ)). cut_first c (cut_last e xs)) taken ∙ ap (cut_first c) (drop-cut_last e a (take w ls) low ∙ ap (λ (xs : List (List ℕ)). drop a xs) (front_lines (p ++ s) r)) ∙ rest_lines p s

between : (p s r : List ℕ) (n : ℕ) → back (lines p) + n ≡ back (lines (p ++ s)) → joined (map (piece (lines ((p ++ s) ++ r)) (suc (back (lines p)), length (last_line (lines p))) (suc (back (lines (p ++ s))), length (last_line (lines (p ++ s))))) (range_with_len (back (lines p)) (suc n))) ≡ s
between p s r n sum =
    let ls : List (List ℕ) = lines ((p ++ s) ++ r) in
    let a : ℕ = back (lines p) in
    let w : ℕ = length (lines (p ++ s)) in
    let many : n < length (drop a ls) = omega (arith, length-drop a ls, length-take w ls, enough (p ++ s) r, suc_back (lines (p ++ s)) (some_line (p ++ s)), sum) in
    ap joined (pieces ls a (length (last_line (lines p))) (back (lines (p ++ s))) (length (last_line (lines (p ++ s)))) (drop a ls) n refl sum many) ∙ ap joined (cut_out p s r n sum) ∙ joined-lines s

map-held : (file : File) (f l : ℕ × ℕ) (is : List ℕ) → map (held_by file) (map (line_between file f l) is) ≡ map (piece (lines file.text) f l) is
map-held file f l [] = refl
map-held file f l (i ∷ is) = ap (λ (xs : List (List ℕ)). piece (lines file.text) f l i ∷ xs) (map-held file f l is)

same_pieces : (ls : List (List ℕ)) (x x' y y' u u' v v' c e : ℕ) → x ≡ x' → y ≡ y' → u ≡ u' → v ≡ v' → map (piece ls (x, c) (y, e)) (range_with_len u v) ≡ map (piece ls (x', c) (y', e)) (range_with_len u' v')
same_pieces ls x x' y y' u u' v v' c e p q r t = rw (p, q, r, t) refl

held_between : (p s r : List ℕ) → joined (map (piece (lines ((p ++ s) ++ r)) (line_col p) (line_col (p ++ s))) (range_with_len (length (lines p) - 1) (length (lines (p ++ s)) - (length (lines p) - 1)))) ≡ s
held_between p s r =
    let text : List ℕ = (p ++ s) ++ r in
    let a : ℕ = back (lines p) in
    let b : ℕ = back (lines (p ++ s)) in
    let c : ℕ = length (last_line (lines p)) in
    let e : ℕ = length (last_line (lines (p ++ s))) in
    let first : length (lines p) ≡ suc a = suc_back (lines p) (some_line p) in
    let last : length (lines (p ++ s)) ≡ suc b = suc_back (lines (p ++ s)) (some_line (p ++ s)) in
    let low : a ≤ b = omega (arith, behind_first p s, last) in
    let from : length (lines p) - 1 ≡ a = omega (arith, first) in
    let many : length (lines (p ++ s)) - (length (lines p) - 1) ≡ suc (b - a) = omega (arith, first, last, low) in
    let same : map (piece (lines text) (line_col p) (line_col (p ++ s))) (range_with_len (length (lines p) - 1) (length (lines (p ++ s)) - (length (lines p) - 1))) ≡ map (piece (lines text) (suc a, c) (suc b, e)) (range_with_len a (suc (b - a))) = same_pieces (lines text) (length (lines p)) (suc a) (length (lines (p ++ s))) (suc b) (length (lines p) - 1) a (length (lines (p ++ s)) - (length (lines p) - 1)) (suc (b - a)) c e first last from many in
    ap joined same ∙ between p s r (b - a) (omega (arith, low))

-- a front is the front of a longer one, and of the text
front_step : (b d : Bool) (c : ℕ) (f g : List ℕ) → (b ≡ true → d ≡ true) → g ≡ f ++ drop (length f) g → cond d (c ∷ g) [] ≡ cond b (c ∷ f) [] ++ drop (length (cond b (c ∷ f) [])) (cond d (c ∷ g) [])
front_step true true c f g h e = ap (λ (t : List ℕ). c ∷ t) e
front_step true false c f g h e = let k : false ≡ true = h refl in cc
front_step false d c f g h e = refl

pub longer_front : (t : List ℕ) (n m : ℕ) → n ≤ m → front t m ≡ front t n ++ drop (length (front t n)) (front t m)
longer_front [] n m h = refl
longer_front (c ∷ t) n m h = front_step (nat_le (len_utf8 c) n) (nat_le (len_utf8 c) m) c (front t (n - len_utf8 c)) (front t (m - len_utf8 c)) (λ fits. le-leb (len_utf8 c) m (let k : len_utf8 c ≤ n = leb-true (len_utf8 c) n fits in omega (arith, k, h))) (longer_front t (n - len_utf8 c) (m - len_utf8 c) (omega (arith, h)))

pub front_of_text : (t : List ℕ) (n : ℕ) → t ≡ front t n ++ drop (length (front t n)) t
front_of_text [] n = refl
front_of_text (c ∷ t) n = go (nat_le (len_utf8 c) n) (front t (n - len_utf8 c)) (front_of_text t (n - len_utf8 c))
  where
    go : (b : Bool) (f : List ℕ) → t ≡ f ++ drop (length f) t → c ∷ t ≡ cond b (c ∷ f) [] ++ drop (length (cond b (c ∷ f) [])) (c ∷ t)
    go true f e = ap (λ (u : List ℕ). c ∷ u) e
    go false f e = refl

held_by_lines : (text : List ℕ) (n m : ℕ) → n ≤ m → joined (map (piece (lines text) (line_col (front text n)) (line_col (front text m))) (range_with_len (length (lines (front text n)) - 1) (length (lines (front text m)) - (length (lines (front text n)) - 1)))) ≡ drop (length (front text n)) (front text m)
held_by_lines text n m h =
    let p : List ℕ = front text n in
    let q : List ℕ = front text m in
    let s : List ℕ = drop (length p) q in
    let r : List ℕ = drop (length q) text in
    let q_is : p ++ s ≡ q = sym (longer_front text n m h) in
    let text_is : q ++ r ≡ text = sym (front_of_text text m) in
    subst (λ (t : List ℕ). joined (map (piece (lines t) (line_col p) (line_col q)) (range_with_len (length (lines p) - 1) (length (lines q) - (length (lines p) - 1)))) ≡ s) text_is (subst (λ (x : List ℕ). joined (map (piece (lines (x ++ r)) (line_col p) (line_col x)) (range_with_len (length (lines p) - 1) (length (lines x) - (length (lines p) - 1)))) ≡ s) q_is (held_between p s r))

pub lines_hold_text : LinesHoldText
lines_hold_text file sp =
    let p : List ℕ = front_at file (low sp) in
    let q : List ℕ = front_at file (high sp) in
    ap joined (map-held file (line_col p) (line_col q) (range_with_len (length (lines p) - 1) (length (lines q) - (length (lines p) - 1)))) ∙ held_by_lines file.text (low sp - file.start) (high sp - file.start) (omega arith)

front-none : (t : List ℕ) → front t 0 ≡ []
front-none [] = refl
front-none (c ∷ t) = ap (λ b. cond b (c ∷ front t (0 - len_utf8 c)) []) (lt-leb (len_utf8 c) 0 (let k : 1 ≤ len_utf8 c = (len_utf8_bounds c).0 in omega (arith, k)))

-- a front is found again by its size
front_by_size : (t : List ℕ) (n : ℕ) → front t (size (front t n)) ≡ front t n
front_by_size t n =
    let f : List ℕ = front t n in
    let r : List ℕ = drop (length f) t in
    let whole : t ≡ f ++ r = front_of_text t n in
    let none : front r (size f - size f) ≡ [] = (let z : size f - size f ≡ 0 = omega arith in ap (λ k. front r k) z ∙ front-none r) in
    ap (λ u. front u (size f)) whole ∙ front_append f r (size f) (omega arith) ∙ ap (λ u. f ++ u) none ∙ append-nil f

front_at_begin : (file : File) (pos : ℕ) → front_at file (begin_of file pos) ≡ front_at file pos
front_at_begin file pos =
    let z : file.start + size (front_at file pos) - file.start ≡ size (front_at file pos) = omega arith in
    ap (λ k. front file.text k) z ∙ front_by_size file.text (pos - file.start)

-- one front goes on with another that takes no fewer bytes
goes_on : (t : List ℕ) (n m : ℕ) → size (front t n) ≤ size (front t m) → front t m ≡ front t n ++ drop (length (front t n)) (front t m)
goes_on t n m h =
    let f : List ℕ = front t n in
    let g : List ℕ = front t m in
    let k : front t (size g) ≡ front t (size f) ++ drop (length (front t (size f))) (front t (size g)) = longer_front t (size f) (size g) h in
    let e : front t (size f) ≡ f = front_by_size t n in
    let d : front t (size g) ≡ g = front_by_size t m in
    cc

longer_size : (t : List ℕ) (n m : ℕ) → n ≤ m → size (front t n) ≤ size (front t m)
longer_size t n m h =
    let e : size (front t m) ≡ size (front t n) + size (drop (length (front t n)) (front t m)) = ap size (longer_front t n m h) ∙ size-append (front t n) (drop (length (front t n)) (front t m)) in
    omega (arith, e)

dropped : (a b : List ℕ) → drop (length a) (a ++ b) ≡ b
dropped [] b = refl
dropped (c ∷ a) b = dropped a b

one_line : (p s : List ℕ) → length (lines p) ≡ length (lines (p ++ s)) → length (lines s) ≡ 1
one_line p s h =
    let a : ℕ = back (lines p) in
    let c : ℕ = length (last_line (lines p)) in
    omega (arith, h, suc_back (lines p) (some_line p), sym (length-cut_first c (drop a (lines (p ++ s)))) ∙ ap length (rest_lines p s), length-drop a (lines (p ++ s)))

test_of : {A : Type 0} (b : Bool) (x y : A) → cond b (Some x) None ≡ Some y → b ≡ true
test_of true x y h = refl
test_of false x y h = cc

value_of : {A : Type 0} (b : Bool) (x y : A) → cond b (Some x) None ≡ Some y → x ≡ y
value_of true x y h = cc
value_of false x y h = cc

and_second : (a b : Bool) → (a && b) ≡ true → b ≡ true
and_second true b h = h
and_second false b h = cc

and_first : (a b : Bool) → (a && b) ≡ true → a ≡ true
and_first true b h = refl
and_first false b h = h

holds_both : (file : File) (left right : Span) → meets left right file ≡ true → HoldsBoth left right (record { lo = record { 0 = begin_of file (low left) }; hi = record { 0 = begin_of file (high right) } }) file
holds_both file left right met =
    let t : List ℕ = file.text in
    let a : List ℕ = front_at file (low left) in
    let b : List ℕ = front_at file (high left) in
    let c : List ℕ = front_at file (low right) in
    let d : List ℕ = front_at file (high right) in
    let lines_met : line_of b ≡ line_of c = (Decides-eqb (line_of b) (line_of c)).0 (and_first (nat_eq (line_of b) (line_of c)) (nat_le (begin_of file (high left)) (begin_of file (low right))) met) in
    let met_at : begin_of file (high left) ≤ begin_of file (low right) = leb-true (begin_of file (high left)) (begin_of file (low right)) (and_second (nat_eq (line_of b) (line_of c)) (nat_le (begin_of file (high left)) (begin_of file (low right))) met) in
    let b_is : b ≡ a ++ drop (length a) b = longer_front t (low left - file.start) (high left - file.start) (omega arith) in
    let c_is : c ≡ b ++ drop (length b) c = goes_on t (high left - file.start) (low right - file.start) (omega (arith, met_at)) in
    let d_is : d ≡ c ++ drop (length c) d = longer_front t (low right - file.start) (high right - file.start) (omega arith) in
    let up : size a ≤ size b = longer_size t (low left - file.start) (high left - file.start) (omega arith) in
    let down : size c ≤ size d = longer_size t (low right - file.start) (high right - file.start) (omega arith) in
    let lo_is : min (begin_of file (low left)) (begin_of file (high right)) ≡ begin_of file (low left) = omega (arith, met_at, up, down) in
    let hi_is : max (begin_of file (low left)) (begin_of file (high right)) ≡ begin_of file (high right) = omega (arith, met_at, up, down) in
    let lo_front : front_at file (min (begin_of file (low left)) (begin_of file (high right))) ≡ a = ap (λ k. front_at file k) lo_is ∙ front_at_begin file (low left) in
    let hi_front : front_at file (max (begin_of file (low left)) (begin_of file (high right))) ≡ d = ap (λ k. front_at file k) hi_is ∙ front_at_begin file (high right) in
    let whole : d ≡ a ++ (drop (length a) b ++ (drop (length b) c ++ drop (length c) d)) =
    d_is ∙ ap (λ u. u ++ drop (length c) d) c_is ∙ append_assoc b (drop (length b) c) (drop (length c) d) ∙ ap (λ u. u ++ (drop (length b) c ++ drop (length c) d)) b_is ∙ append_assoc a (drop (length a) b) (drop (length b) c ++ drop (length c) d) in
    record {
      between = drop (length b) c;
      on_one_line = one_line b (drop (length b) c) (lines_met ∙ ap line_of c_is);
      text = ap (λ u. drop (length u) (front_at file (max (begin_of file (low left)) (begin_of file (high right))))) lo_front ∙ ap (λ u. drop (length a) u) (hi_front ∙ whole) ∙ dropped a (drop (length a) b ++ (drop (length b) c ++ drop (length c) d));
    }

pub merged_hold_both : MergedHoldBoth
merged_hold_both file left right sp h =
    let one : Span = record { lo = record { 0 = begin_of file (low left) }; hi = record { 0 = begin_of file (high right) } } in
    let test : Bool = holds (low right) file && (holds (high right) file && meets left right file) in
    let met : meets left right file ≡ true = and_second (holds (high right) file) (meets left right file) (and_second (holds (low right) file) (holds (high right) file && meets left right file) (test_of test one sp h)) in
    subst (λ (s : Span). HoldsBoth left right s file) (value_of test one sp h) (holds_both file left right met)
