-- Lists of trees: what is written of the first, and then what is left.
use Rattle.std.proofs.Common.{Box, Global, ◌≡◌, ℕ, zero, suc, List, [], ◌∷◌, true, false, cond, map, codes, length, get_or, refl, sym, ap, ◌∙◌, arith, append-nil}
use Rattle.jsx_tree.specs.Kinds.{Tree, Forest, none, part, Role}
use Rattle.jsx_tree.specs.Signs.{Sign, TrailingComma, Space, Line}
use Rattle.jsx_tree.specs.Grammar.{pun, Commas, Elisions, NoTrailing, TwoOrMore, Lines, TopLines, OneOrMore}
use Rattle.jsx_tree.specs.Spelling.{gathered}
use Rattle.jsx_tree.specs.Normal.{laid_tree, is_empty}
use Rattle.jsx_tree.specs.View.{forest, forest_at, inside}
use Rattle.jsx_tree.specs.declared.tree.Expr.{Expr}
use Rattle.jsx_tree.specs.declared.tree.Pat.{Pat}
use Rattle.jsx_plan.specs.Noted.{noted_expr, noted_pattern}
use Rattle.jsx_pen.specs.Pen.{State, raw, inked, lined, puts, signs, rows, later, ends_void, is_void}
use Rattle.jsx_pen.proofs.Writing.{puts_append, inked_raw}
use Rattle.jsx_plan.proofs.Noted.{solid_expr, solid_pattern}

-- ---- shapes that are laid alike

pub gathered_commas : (p : State) (xs : List (List Sign)) → puts p (gathered Commas xs) ≡ puts p (gathered NoTrailing xs)
gathered_commas p [] = refl
gathered_commas p (x ∷ []) = puts_append p x (TrailingComma ∷ []) ∙ ap (puts p) (sym (append-nil x))
gathered_commas p (x ∷ y ∷ ys) =
    puts_append p x (pun "," ∷ Space ∷ gathered Commas (y ∷ ys)) ∙ gathered_commas (raw (inked (puts p x) (codes ",")) (32 ∷ [])) (y ∷ ys) ∙ sym (puts_append p x (pun "," ∷ Space ∷ gathered NoTrailing (y ∷ ys)))

pub gathered_two : (p : State) (xs : List (List Sign)) → puts p (gathered TwoOrMore xs) ≡ puts p (gathered NoTrailing xs)
gathered_two p [] = refl
gathered_two p (x ∷ []) = refl
gathered_two p (x ∷ y ∷ ys) =
    puts_append p x (pun "," ∷ Space ∷ gathered TwoOrMore (y ∷ ys)) ∙ gathered_two (raw (inked (puts p x) (codes ",")) (32 ∷ [])) (y ∷ ys) ∙ sym (puts_append p x (pun "," ∷ Space ∷ gathered NoTrailing (y ∷ ys)))

last_one : (p : State) (x : List Sign) → puts p (gathered Elisions (x ∷ [])) ≡ cond (is_void x) (inked (puts p x) (codes ",")) (puts p (gathered NoTrailing (x ∷ [])))
last_one p [] = refl
last_one p (m ∷ ms) = puts_append p (m ∷ ms) (TrailingComma ∷ []) ∙ ap (puts p) (sym (append-nil (m ∷ ms)))

pub gathered_elisions : (p : State) (xs : List (List Sign)) → puts p (gathered Elisions xs) ≡ cond (ends_void xs) (inked (puts p (gathered NoTrailing xs)) (codes ",")) (puts p (gathered NoTrailing xs))
gathered_elisions p [] = refl
gathered_elisions p (x ∷ []) = last_one p x ∙ ap (λ q. cond (is_void x) (inked q (codes ",")) (puts p (gathered NoTrailing (x ∷ [])))) (ap (puts p) (sym (append-nil x)))
gathered_elisions p (x ∷ y ∷ ys) =
    let q = raw (inked (puts p x) (codes ",")) (32 ∷ []) in
    puts_append p x (pun "," ∷ Space ∷ gathered Elisions (y ∷ ys)) ∙ gathered_elisions q (y ∷ ys)
    ∙ ap (λ s. cond (ends_void (y ∷ ys)) (inked s (codes ",")) s) (sym (puts_append p x (pun "," ∷ Space ∷ gathered NoTrailing (y ∷ ys))))

-- ---- the first, and what is left

pub comma_first : (p : State) (x : List Sign) (xs : List (List Sign)) → puts p (gathered NoTrailing (x ∷ xs)) ≡ puts (puts p x) (later xs)
comma_first p x [] = puts_append p x []
comma_first p x (y ∷ ys) = puts_append p x (pun "," ∷ Space ∷ gathered NoTrailing (y ∷ ys))

pub comma_later : (p : State) (x : List Sign) (xs : List (List Sign)) → puts p (later (x ∷ xs)) ≡ puts (puts (inked p (codes ", ")) x) (later xs)
comma_later p x xs = ap (λ q. puts q (gathered NoTrailing (x ∷ xs))) (inked_raw p 44 [] (32 ∷ [])) ∙ comma_first (inked p (codes ", ")) x xs

pub adjacent_cons : (p : State) (x : List Sign) (xs : List (List Sign)) → puts p (gathered OneOrMore (x ∷ xs)) ≡ puts (puts p x) (gathered OneOrMore xs)
adjacent_cons p x [] = ap (puts p) (append-nil x)
adjacent_cons p x (y ∷ ys) = puts_append p x (gathered OneOrMore (y ∷ ys))

pub lines_cons : (p : State) (x : List Sign) (xs : List (List Sign)) → puts p (gathered Lines (x ∷ xs)) ≡ puts (puts (lined p) x) (gathered Lines xs)
lines_cons p x [] = puts_append (lined p) x []
lines_cons p x (y ∷ ys) = puts_append (lined p) x (gathered Lines (y ∷ ys))

pub top_cons : (p : State) (x : List Sign) (xs : List (List Sign)) → puts p (gathered TopLines (x ∷ xs)) ≡ puts (lined (puts p x)) (gathered TopLines xs)
top_cons p x [] = puts_append p x (Line ∷ [])
top_cons p x (y ∷ ys) = puts_append p x (Line ∷ gathered TopLines (y ∷ ys))

pub rows_cons : (t : Tree) (ts : Forest) → is_empty (laid_tree t) ≡ false → rows (part t ts) ≡ signs t ∷ rows ts
rows_cons t ts h = rw h refl

pub rows_empty : (t : Tree) (ts : Forest) → is_empty (laid_tree t) ≡ true → rows (part t ts) ≡ rows ts
rows_empty t ts h = rw h refl

-- a last hole
pub last_step : {A : Type 0} (all : List A → Forest) (f : A → Tree) → ((x : A) (xs : List A) → all (x ∷ xs) ≡ part (f x) (all xs)) → ((x : A) → is_empty (laid_tree (f x)) ≡ false) → all [] ≡ none
    → (xs : List A) (n : ℕ) (x : A) → length xs ≡ suc n → x ≡ get_or xs n x → is_void (signs (f x)) ≡ ends_void (rows (all xs))
last_step all f cons solid nil [] n x e h = absurd (omega (arith, e))
last_step all f cons solid nil (y ∷ []) zero x e h = ap (λ z. is_void (signs (f z))) h ∙ sym (ap ends_void (ap rows (cons y [] ∙ ap (part (f y)) nil) ∙ rows_cons (f y) none (solid y)))
last_step all f cons solid nil (y ∷ []) (suc n) x e h = absurd (omega (arith, e))
last_step all f cons solid nil (y ∷ z ∷ ys) zero x e h = absurd (omega (arith, e))
last_step all f cons solid nil (y ∷ z ∷ ys) (suc n) x e h =
    let ts = all ys in
    let later = ap rows (cons z ys) ∙ rows_cons (f z) ts (solid z) in
    last_step all f cons solid nil (z ∷ ys) n x (omega (arith, e)) h
    ∙ ap ends_void later
    ∙ sym (ap ends_void (ap rows (cons y (z ∷ ys)) ∙ rows_cons (f y) (all (z ∷ ys)) (solid y) ∙ ap (λ r. signs (f y) ∷ r) later))

pub ends_last : (xs : List (Box Expr Global)) (n : ℕ) (x : Box Expr Global) → length xs ≡ suc n → x ≡ get_or xs n x → is_void (signs (noted_expr x.value)) ≡ ends_void (rows (forest (map (inside noted_expr) xs)))
ends_last = last_step (λ ys. forest (map (inside noted_expr) ys)) (inside noted_expr) (λ x xs. refl) (λ x. solid_expr x.value) refl

pub ends_last_pat : (r : Role) (xs : List (Box Pat Global)) (n : ℕ) (x : Box Pat Global) → length xs ≡ suc n → x ≡ get_or xs n x → is_void (signs (noted_pattern x.value r)) ≡ ends_void (rows (forest_at r (map (inside noted_pattern) xs)))
ends_last_pat r = last_step (λ ys. forest_at r (map (inside noted_pattern) ys)) (λ x. noted_pattern x.value r) (λ x xs. refl) (λ x. solid_pattern x.value r) refl
