-- What the definitions find at a place is the answer there among those of all names.
use Rattle.std.proofs.Common.{◌≡◌, ℕ, suc, ◌<◌, List, [], ◌∷◌, ◌++◌, Bool, true, false, cond, nat_eq, ◌&&◌, refl, sym, ap, ◌∙◌, append_assoc, arith, Option, Some, None}
use Rattle.std.proofs.lemmas.Bool.{eqb-true, eq-eqb, ne_eqb}
use Rattle.jsx_base.specs.Token.{Text}
use Rattle.jsx_tree.specs.Kinds.{Script, program, Kind, Tree, leaf, node, list, Forest, none, part}
use Rattle.jsx_tree.specs.Nonterminals.{Nonterminal, WholeProgram}
use Rattle.jsx_tree.specs.Form.{Position, position, positions}
use Rattle.jsx_tree.specs.Scopes.{Path, below, Scope, Binding, lookup, inside, is_name_at, found, found_part, found_each, refers}
use Rattle.jsx_names.specs.Answers.{Answer, answer}
use Rattle.jsx_names.specs.Referred.{referred, referred_parts, referred_each, all_referred, same_path, answer_at}

-- whether the first path leads to the second
abbrev starts : Path → Path → Bool
starts [] q = true
starts (i ∷ is) [] = false
starts (i ∷ is) (j ∷ js) = nat_eq i j && starts is js

and_other : (b c d : Bool) → (c ≡ false → d ≡ false) → b && c ≡ false → b && d ≡ false
and_other true c d f h = f h
and_other false c d f h = refl

path_starts : (p q : Path) → starts p q ≡ false → same_path p q ≡ false
path_starts [] q h = cc
path_starts (i ∷ is) [] h = refl
path_starts (i ∷ is) (j ∷ js) h = and_other (nat_eq i j) (starts is js) (same_path is js) (path_starts is js) h

below_starts : (p : Path) (n : ℕ) (q : Path) → starts p q ≡ false → starts (below p n) q ≡ false
below_starts [] n q h = cc
below_starts (i ∷ is) n [] h = refl
below_starts (i ∷ is) n (j ∷ js) h = and_other (nat_eq i j) (starts is js) (starts (below is n) js) (below_starts is n js) h

and_true : (b : Bool) → b && true ≡ b
and_true true = refl
and_true false = refl

same_number : (i : ℕ) (b : Bool) → nat_eq i i && b ≡ b
same_number i b = ap (λ z. z && b) (eq-eqb i i refl)

child_starts : (p : Path) (n i : ℕ) (is : Path) → starts (below p n) (p ++ (i ∷ is)) ≡ nat_eq n i
child_starts [] n i is = and_true (nat_eq n i)
child_starts (j ∷ js) n i is = same_number j (starts (below js n) (js ++ (i ∷ is))) ∙ child_starts js n i is

short_starts : (p : Path) (n : ℕ) → starts (below p n) (p ++ []) ≡ false
short_starts [] n = refl
short_starts (j ∷ js) n = same_number j (starts (below js n) (js ++ [])) ∙ short_starts js n

same_itself : (p : Path) → same_path p (p ++ []) ≡ true
same_itself [] = refl
same_itself (j ∷ js) = same_number j (same_path js (js ++ [])) ∙ same_itself js

longer : (p : Path) (i : ℕ) (is : Path) → same_path p (p ++ (i ∷ is)) ≡ false
longer [] i is = refl
longer (j ∷ js) i is = same_number j (same_path js (js ++ (i ∷ is))) ∙ longer js i is

abbrev or_found : Option Binding → Option Binding → Option Binding
or_found None o = o
or_found (Some b) o = Some b

or_none : (o : Option Binding) → or_found o None ≡ o
or_none None = refl
or_none (Some b) = refl

or_step : (b : Bool) (x : Binding) (o r : Option Binding) → cond b (Some x) (or_found o r) ≡ or_found (cond b (Some x) o) r
or_step true x o r = refl
or_step false x o r = refl

at_append : (p : Path) (xs ys : List Answer) → answer_at p (xs ++ ys) ≡ or_found (answer_at p xs) (answer_at p ys)
at_append p [] ys = refl
at_append p (x ∷ xs) ys = ap (λ z. cond (same_path x.at p) (Some x.binding) z) (at_append p xs ys) ∙ or_step (same_path x.at p) x.binding (answer_at p xs) (answer_at p ys)

none_both : (p : Path) (xs ys : List Answer) → answer_at p xs ≡ None → answer_at p ys ≡ None → answer_at p (xs ++ ys) ≡ None
none_both p xs ys e f = at_append p xs ys ∙ ap (λ z. or_found z (answer_at p ys)) e ∙ f

-- where a tree doesn't stand it has no answer
miss_leaf : (b : Bool) (ss : List Scope) (t : Text) (p y : Path) → same_path p y ≡ false → answer_at y (cond b (answer ss t p ∷ []) []) ≡ None
miss_leaf true ss t p y h = ap (λ z. cond z (Some (lookup t ss)) None) h
miss_leaf false ss t p y h = refl

mutual
  miss_tree : (ss : List Scope) (q : Kind) (c : Nonterminal) (p : Path) (t : Tree) (y : Path) → starts p y ≡ false → answer_at y (referred ss q c p t) ≡ None
  miss_tree ss q c p (leaf s t) y h = miss_leaf (is_name_at q c s t) ss t p y (path_starts p y h)
  miss_tree ss q c p (node k cs) y h = miss_parts ss q k p cs 0 (positions k) cs y (λ m. below_starts p m y h)
  miss_tree ss q c p (list ts) y h = miss_each ss q c p 0 ts y (λ m. below_starts p m y h)

  miss_parts : (ss : List Scope) (q k : Kind) (p : Path) (all : Forest) (n : ℕ) (qs : List Position) (ts : Forest) (y : Path) → ((m : ℕ) → starts (below p m) y ≡ false) → answer_at y (referred_parts ss q k p all n qs ts) ≡ None
  miss_parts ss q k p all n [] ts y h = refl
  miss_parts ss q k p all n (s ∷ qs) none y h = refl
  miss_parts ss q k p all n (position f c g b a ∷ qs) (part t ts) y h =
      none_both y (referred (inside q k p all c ss) k c (below p n) t) (referred_parts ss q k p all (suc n) qs ts)
      (miss_tree (inside q k p all c ss) k c (below p n) t y (h n)) (miss_parts ss q k p all (suc n) qs ts y h)

  miss_each : (ss : List Scope) (q : Kind) (c : Nonterminal) (p : Path) (n : ℕ) (ts : Forest) (y : Path) → ((m : ℕ) → starts (below p m) y ≡ false) → answer_at y (referred_each ss q c p n ts) ≡ None
  miss_each ss q c p n none y h = refl
  miss_each ss q c p n (part t ts) y h = none_both y (referred ss q c (below p n) t) (referred_each ss q c p (suc n) ts) (miss_tree ss q c (below p n) t y (h n)) (miss_each ss q c p (suc n) ts y h)

other_number : (n i : ℕ) → i < n → nat_eq n i ≡ false
other_number n i h = ne_eqb n i (λ e. omega (arith, h, e))

next_number : (i n : ℕ) → i < n → i < suc n
next_number i n h = omega (arith, h)

this_number : (i : ℕ) → i < suc i
this_number i = omega arith

later_parts : (ss : List Scope) (q k : Kind) (p : Path) (all : Forest) (n : ℕ) (qs : List Position) (ts : Forest) (i : ℕ) (is : Path) → i < n → answer_at (p ++ (i ∷ is)) (referred_parts ss q k p all n qs ts) ≡ None
later_parts ss q k p all n [] ts i is h = refl
later_parts ss q k p all n (s ∷ qs) none i is h = refl
later_parts ss q k p all n (position f c g b a ∷ qs) (part t ts) i is h =
    none_both (p ++ (i ∷ is)) (referred (inside q k p all c ss) k c (below p n) t) (referred_parts ss q k p all (suc n) qs ts)
    (miss_tree (inside q k p all c ss) k c (below p n) t (p ++ (i ∷ is)) (child_starts p n i is ∙ other_number n i h)) (later_parts ss q k p all (suc n) qs ts i is (next_number i n h))

later_each : (ss : List Scope) (q : Kind) (c : Nonterminal) (p : Path) (n : ℕ) (ts : Forest) (i : ℕ) (is : Path) → i < n → answer_at (p ++ (i ∷ is)) (referred_each ss q c p n ts) ≡ None
later_each ss q c p n none i is h = refl
later_each ss q c p n (part t ts) i is h =
    none_both (p ++ (i ∷ is)) (referred ss q c (below p n) t) (referred_each ss q c p (suc n) ts)
    (miss_tree ss q c (below p n) t (p ++ (i ∷ is)) (child_starts p n i is ∙ other_number n i h)) (later_each ss q c p (suc n) ts i is (next_number i n h))

-- a place below the n-th part, as one below the node
along : (p : Path) (n i : ℕ) (is : Path) → n ≡ i → below p n ++ is ≡ p ++ (i ∷ is)
along p n i is e = append_assoc p (n ∷ []) is ∙ ap (λ z. p ++ (z ∷ is)) e

-- one part, and those behind it
here_or_behind : (b : Bool) (p : Path) (n i : ℕ) (is : Path) (xs ys : List Answer) (o r : Option Binding) → nat_eq n i ≡ b
    → (b ≡ true → o ≡ answer_at (below p n ++ is) xs) → (b ≡ true → answer_at (p ++ (i ∷ is)) ys ≡ None)
    → (b ≡ false → answer_at (p ++ (i ∷ is)) xs ≡ None) → (b ≡ false → r ≡ answer_at (p ++ (i ∷ is)) ys)
    → cond b o r ≡ answer_at (p ++ (i ∷ is)) (xs ++ ys)
here_or_behind true p n i is xs ys o r e f g x y =
    f refl
    ∙ ap (λ z. answer_at z xs) (along p n i is (eqb-true n i e))
    ∙ sym (or_none (answer_at (p ++ (i ∷ is)) xs))
    ∙ ap (λ z. or_found (answer_at (p ++ (i ∷ is)) xs) z) (sym (g refl))
    ∙ sym (at_append (p ++ (i ∷ is)) xs ys)
here_or_behind false p n i is xs ys o r e f g x y =
    y refl
    ∙ ap (λ z. or_found z (answer_at (p ++ (i ∷ is)) ys)) (sym (x refl))
    ∙ sym (at_append (p ++ (i ∷ is)) xs ys)

hit_leaf : (b : Bool) (ss : List Scope) (t : Text) (p : Path) → cond b (Some (lookup t ss)) None ≡ answer_at (p ++ []) (cond b (answer ss t p ∷ []) [])
hit_leaf true ss t p = ap (λ z. cond z (Some (lookup t ss)) None) (sym (same_itself p))
hit_leaf false ss t p = refl

number_true : (n i : ℕ) → nat_eq n i ≡ true → i < suc n
number_true n i e = omega (arith, eqb-true n i e)

mutual
  pub hit_tree : (ss : List Scope) (q : Kind) (c : Nonterminal) (p : Path) (t : Tree) (is : Path) → found ss q c p t is ≡ answer_at (p ++ is) (referred ss q c p t)
  hit_tree ss q c p (leaf s t) [] = hit_leaf (is_name_at q c s t) ss t p
  hit_tree ss q c p (leaf s t) (i ∷ is) = sym (miss_leaf (is_name_at q c s t) ss t p (p ++ (i ∷ is)) (longer p i is))
  hit_tree ss q c p (node k cs) [] = sym (miss_parts ss q k p cs 0 (positions k) cs (p ++ []) (λ m. short_starts p m))
  hit_tree ss q c p (node k cs) (i ∷ is) = hit_parts ss q k p cs 0 (positions k) cs i is
  hit_tree ss q c p (list ts) [] = sym (miss_each ss q c p 0 ts (p ++ []) (λ m. short_starts p m))
  hit_tree ss q c p (list ts) (i ∷ is) = hit_each ss q c p 0 ts i is

  hit_parts : (ss : List Scope) (q k : Kind) (p : Path) (all : Forest) (n : ℕ) (qs : List Position) (ts : Forest) (i : ℕ) (is : Path) → found_part ss q k p all n qs ts i is ≡ answer_at (p ++ (i ∷ is)) (referred_parts ss q k p all n qs ts)
  hit_parts ss q k p all n [] ts i is = refl
  hit_parts ss q k p all n (s ∷ qs) none i is = refl
  hit_parts ss q k p all n (position f c g b a ∷ qs) (part t ts) i is =
      here_or_behind (nat_eq n i) p n i is (referred (inside q k p all c ss) k c (below p n) t) (referred_parts ss q k p all (suc n) qs ts) _ _ refl
      (λ e. hit_tree (inside q k p all c ss) k c (below p n) t is)
      (λ e. later_parts ss q k p all (suc n) qs ts i is (number_true n i e))
      (λ e. miss_tree (inside q k p all c ss) k c (below p n) t (p ++ (i ∷ is)) (child_starts p n i is ∙ e))
      (λ e. hit_parts ss q k p all (suc n) qs ts i is)

  hit_each : (ss : List Scope) (q : Kind) (c : Nonterminal) (p : Path) (n : ℕ) (ts : Forest) (i : ℕ) (is : Path) → found_each ss q c p n ts i is ≡ answer_at (p ++ (i ∷ is)) (referred_each ss q c p n ts)
  hit_each ss q c p n none i is = refl
  hit_each ss q c p n (part t ts) i is =
      here_or_behind (nat_eq n i) p n i is (referred ss q c (below p n) t) (referred_each ss q c p (suc n) ts) _ _ refl
      (λ e. hit_tree ss q c (below p n) t is)
      (λ e. later_each ss q c p (suc n) ts i is (number_true n i e))
      (λ e. miss_tree ss q c (below p n) t (p ++ (i ∷ is)) (child_starts p n i is ∙ e))
      (λ e. hit_each ss q c p (suc n) ts i is)

-- what a name at a place of a program refers to
pub refers_answer : (t : Tree) (p : Path) → refers t p ≡ answer_at p (all_referred t)
refers_answer t p = hit_tree [] (program Script) WholeProgram [] t p
