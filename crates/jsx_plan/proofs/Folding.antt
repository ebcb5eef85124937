-- The trees of one place, by what their first is.
use Rattle.std.proofs.Common.{Box, Global, ◌≡◌, ℕ, ◌+◌, ◌<◌, ◌≤◌, List, [], ◌∷◌, true, false, map, codes, drop, length, get_or, refl, ap, ◌∙◌, arith, add-one, drop-cons, length-drop, sym, suc}
use Rattle.jsx_tree.specs.Kinds.{Tree, Forest, part, Role, Side, Imported}
use Rattle.jsx_tree.specs.Grammar.{NoTrailing, Lines, TopLines, OneOrMore}
use Rattle.jsx_tree.specs.Normal.{laid_tree, is_empty}
use Rattle.jsx_tree.specs.Signs.{Sign}
use Rattle.jsx_tree.specs.Spelling.{gathered}
use Rattle.jsx_tree.specs.View.{OfClass, OfObject, directive, forest, forest_at, inside, members_of_class, members_of_object}
use Rattle.jsx_tree.specs.ViewProgram.{view_specifier}
use Rattle.jsx_tree.specs.declared.program.Item.{Item}
use Rattle.jsx_tree.specs.declared.program.Specifier.{Specifier}
use Rattle.jsx_tree.specs.declared.program.Specifier.TheVariants as specifier
use Rattle.jsx_tree.specs.declared.text.Text.{Text}
use Rattle.jsx_tree.specs.declared.tree.Control.{Control}
use Rattle.jsx_tree.specs.declared.tree.Expr.{Expr}
use Rattle.jsx_tree.specs.declared.tree.Link.{Link}
use Rattle.jsx_tree.specs.declared.tree.Pat.{Pat}
use Rattle.jsx_tree.specs.declared.tree.Prop.{Prop}
use Rattle.jsx_tree.specs.declared.tree.Stmt.{Stmt}
use Rattle.jsx_plan.specs.Noted.{noted_control, noted_expr, noted_item, noted_link, noted_member, noted_pattern, noted_stmt}
use Rattle.jsx_pen.specs.Pen.{State, inked, later, lined, puts, rows, signs}
use Rattle.jsx_plan.proofs.Gathering.{comma_first, comma_later, adjacent_cons, lines_cons, top_cons, rows_cons, rows_empty}
use Rattle.jsx_plan.proofs.Planning.{behind_pushed, behind_renamed, pen_pushed, pen_renamed}
use Rattle.jsx_plan.proofs.Noted.{solid_expr, solid_control, solid_link, solid_member, solid_pattern}
use Rattle.jsx_pen.proofs.Writing.{writing}

no_items : {A : Type 0} (xs : List A) → length xs ≡ 0 → xs ≡ []
no_items [] h = refl
no_items (x ∷ xs) h = absurd (omega (arith, h))

-- a first tree with signs, whatever the list is as a forest and however its trees stand
first_of : {A : Type 0} (writes : List (List Sign) → State) (all : List A → Forest) (f : A → Tree) → ((x : A) (xs : List A) → all (x ∷ xs) ≡ part (f x) (all xs))
    → (xs : List A) (x : A) (rest : List A) → xs ≡ x ∷ rest → is_empty (laid_tree (f x)) ≡ false → writes (rows (all xs)) ≡ writes (signs (f x) ∷ rows (all rest))
first_of writes all f cons xs x rest e h = ap (λ ys. writes (rows (all ys))) e ∙ ap writes (ap rows (cons x rest) ∙ rows_cons (f x) (all rest) h)

-- an empty statement
empty_of : {A : Type 0} (writes : List (List Sign) → State) (all : List A → Forest) (f : A → Tree) → ((x : A) (xs : List A) → all (x ∷ xs) ≡ part (f x) (all xs))
    → (xs : List A) (x : A) (rest : List A) → xs ≡ x ∷ rest → is_empty (laid_tree (f x)) ≡ true → writes (rows (all xs)) ≡ writes (rows (all rest))
empty_of writes all f cons xs x rest e h = ap (λ ys. writes (rows (all ys))) e ∙ ap writes (ap rows (cons x rest) ∙ rows_empty (f x) (all rest) h)

pub first_exprs : (xs : List (Box Expr Global)) (x : Box Expr Global) (rest : List (Box Expr Global)) (p : State) → xs ≡ x ∷ rest
    → puts p (gathered NoTrailing (rows (forest (map (inside noted_expr) xs)))) ≡ puts (puts p (signs (noted_expr x.value))) (later (rows (forest (map (inside noted_expr) rest))))
first_exprs xs x rest p e = first_of (λ rs. puts p (gathered NoTrailing rs)) (λ ys. forest (map (inside noted_expr) ys)) (inside noted_expr) (λ x xs. refl) xs x rest e (solid_expr x.value) ∙ comma_first p (signs (noted_expr x.value)) (rows (forest (map (inside noted_expr) rest)))

pub none_exprs : (xs : List (Box Expr Global)) (p : State) → length xs ≡ 0 → puts p (gathered NoTrailing (rows (forest (map (inside noted_expr) xs)))) ≡ p
none_exprs xs p h = ap (λ ys. puts p (gathered NoTrailing (rows (forest (map (inside noted_expr) ys))))) (no_items xs h)

pub ruleset exprs = (behind_pushed, pen_pushed, first_exprs, none_exprs)

pub first_more_exprs : (xs : List (Box Expr Global)) (x : Box Expr Global) (rest : List (Box Expr Global)) (p : State) → xs ≡ x ∷ rest
    → puts p (later (rows (forest (map (inside noted_expr) xs)))) ≡ puts (puts (inked p (codes ", ")) (signs (noted_expr x.value))) (later (rows (forest (map (inside noted_expr) rest))))
first_more_exprs xs x rest p e = first_of (λ rs. puts p (later rs)) (λ ys. forest (map (inside noted_expr) ys)) (inside noted_expr) (λ x xs. refl) xs x rest e (solid_expr x.value) ∙ comma_later p (signs (noted_expr x.value)) (rows (forest (map (inside noted_expr) rest)))

pub none_more_exprs : (xs : List (Box Expr Global)) (p : State) → length xs ≡ 0 → puts p (later (rows (forest (map (inside noted_expr) xs)))) ≡ p
none_more_exprs xs p h = ap (λ ys. puts p (later (rows (forest (map (inside noted_expr) ys))))) (no_items xs h)

pub ruleset more_exprs = (behind_pushed, pen_pushed, first_more_exprs, none_more_exprs)

pub first_pats : (r : Role) (xs : List (Box Pat Global)) (x : Box Pat Global) (rest : List (Box Pat Global)) (p : State) → xs ≡ x ∷ rest
    → puts p (gathered NoTrailing (rows (forest_at r (map (inside noted_pattern) xs)))) ≡ puts (puts p (signs (noted_pattern x.value r))) (later (rows (forest_at r (map (inside noted_pattern) rest))))
first_pats r xs x rest p e = first_of (λ rs. puts p (gathered NoTrailing rs)) (λ ys. forest_at r (map (inside noted_pattern) ys)) (λ x. noted_pattern x.value r) (λ x xs. refl) xs x rest e (solid_pattern x.value r) ∙ comma_first p (signs (noted_pattern x.value r)) (rows (forest_at r (map (inside noted_pattern) rest)))

pub none_pats : (r : Role) (xs : List (Box Pat Global)) (p : State) → length xs ≡ 0 → puts p (gathered NoTrailing (rows (forest_at r (map (inside noted_pattern) xs)))) ≡ p
none_pats r xs p h = ap (λ ys. puts p (gathered NoTrailing (rows (forest_at r (map (inside noted_pattern) ys))))) (no_items xs h)

pub ruleset pats = (behind_pushed, pen_pushed, first_pats, none_pats)

pub first_more_pats : (r : Role) (xs : List (Box Pat Global)) (x : Box Pat Global) (rest : List (Box Pat Global)) (p : State) → xs ≡ x ∷ rest
    → puts p (later (rows (forest_at r (map (inside noted_pattern) xs)))) ≡ puts (puts (inked p (codes ", ")) (signs (noted_pattern x.value r))) (later (rows (forest_at r (map (inside noted_pattern) rest))))
first_more_pats r xs x rest p e = first_of (λ rs. puts p (later rs)) (λ ys. forest_at r (map (inside noted_pattern) ys)) (λ x. noted_pattern x.value r) (λ x xs. refl) xs x rest e (solid_pattern x.value r) ∙ comma_later p (signs (noted_pattern x.value r)) (rows (forest_at r (map (inside noted_pattern) rest)))

pub none_more_pats : (r : Role) (xs : List (Box Pat Global)) (p : State) → length xs ≡ 0 → puts p (later (rows (forest_at r (map (inside noted_pattern) xs)))) ≡ p
none_more_pats r xs p h = ap (λ ys. puts p (later (rows (forest_at r (map (inside noted_pattern) ys))))) (no_items xs h)

pub ruleset more_pats = (behind_pushed, pen_pushed, first_more_pats, none_more_pats)

pub first_props : (xs : List (Box Prop Global)) (x : Box Prop Global) (rest : List (Box Prop Global)) (p : State) → xs ≡ x ∷ rest
    → puts p (gathered NoTrailing (rows (members_of_object (map (inside noted_member) xs)))) ≡ puts (puts p (signs (noted_member x.value OfObject))) (later (rows (members_of_object (map (inside noted_member) rest))))
first_props xs x rest p e = first_of (λ rs. puts p (gathered NoTrailing rs)) (λ ys. members_of_object (map (inside noted_member) ys)) (λ x. noted_member x.value OfObject) (λ x xs. refl) xs x rest e (solid_member x.value OfObject) ∙ comma_first p (signs (noted_member x.value OfObject)) (rows (members_of_object (map (inside noted_member) rest)))

pub none_props : (xs : List (Box Prop Global)) (p : State) → length xs ≡ 0 → puts p (gathered NoTrailing (rows (members_of_object (map (inside noted_member) xs)))) ≡ p
none_props xs p h = ap (λ ys. puts p (gathered NoTrailing (rows (members_of_object (map (inside noted_member) ys))))) (no_items xs h)

pub ruleset props = (behind_pushed, pen_pushed, first_props, none_props)

pub first_more_props : (xs : List (Box Prop Global)) (x : Box Prop Global) (rest : List (Box Prop Global)) (p : State) → xs ≡ x ∷ rest
    → puts p (later (rows (members_of_object (map (inside noted_member) xs)))) ≡ puts (puts (inked p (codes ", ")) (signs (noted_member x.value OfObject))) (later (rows (members_of_object (map (inside noted_member) rest))))
first_more_props xs x rest p e = first_of (λ rs. puts p (later rs)) (λ ys. members_of_object (map (inside noted_member) ys)) (λ x. noted_member x.value OfObject) (λ x xs. refl) xs x rest e (solid_member x.value OfObject) ∙ comma_later p (signs (noted_member x.value OfObject)) (rows (members_of_object (map (inside noted_member) rest)))

pub none_more_props : (xs : List (Box Prop Global)) (p : State) → length xs ≡ 0 → puts p (later (rows (members_of_object (map (inside noted_member) xs)))) ≡ p
none_more_props xs p h = ap (λ ys. puts p (later (rows (members_of_object (map (inside noted_member) ys))))) (no_items xs h)

pub ruleset more_props = (behind_pushed, pen_pushed, first_more_props, none_more_props)

pub first_members : (xs : List (Box Prop Global)) (x : Box Prop Global) (rest : List (Box Prop Global)) (p : State) → xs ≡ x ∷ rest
    → puts p (gathered Lines (rows (members_of_class (map (inside noted_member) xs)))) ≡ puts (puts (lined p) (signs (noted_member x.value OfClass))) (gathered Lines (rows (members_of_class (map (inside noted_member) rest))))
first_members xs x rest p e = first_of (λ rs. puts p (gathered Lines rs)) (λ ys. members_of_class (map (inside noted_member) ys)) (λ x. noted_member x.value OfClass) (λ x xs. refl) xs x rest e (solid_member x.value OfClass) ∙ lines_cons p (signs (noted_member x.value OfClass)) (rows (members_of_class (map (inside noted_member) rest)))

pub none_members : (xs : List (Box Prop Global)) (p : State) → length xs ≡ 0 → puts p (gathered Lines (rows (members_of_class (map (inside noted_member) xs)))) ≡ p
none_members xs p h = ap (λ ys. puts p (gathered Lines (rows (members_of_class (map (inside noted_member) ys))))) (no_items xs h)

pub ruleset members = (behind_pushed, pen_pushed, first_members, none_members)

pub first_stmts : (xs : List (Box Stmt Global)) (x : Box Stmt Global) (rest : List (Box Stmt Global)) (p : State) → xs ≡ x ∷ rest → is_empty (laid_tree (noted_stmt x.value)) ≡ false
    → puts p (gathered Lines (rows (forest (map (inside noted_stmt) xs)))) ≡ puts (puts (lined p) (signs (noted_stmt x.value))) (gathered Lines (rows (forest (map (inside noted_stmt) rest))))
first_stmts xs x rest p e h = first_of (λ rs. puts p (gathered Lines rs)) (λ ys. forest (map (inside noted_stmt) ys)) (inside noted_stmt) (λ x xs. refl) xs x rest e h ∙ lines_cons p (signs (noted_stmt x.value)) (rows (forest (map (inside noted_stmt) rest)))

pub empty_stmts : (xs : List (Box Stmt Global)) (x : Box Stmt Global) (rest : List (Box Stmt Global)) (p : State) → xs ≡ x ∷ rest → is_empty (laid_tree (noted_stmt x.value)) ≡ true → puts p (gathered Lines (rows (forest (map (inside noted_stmt) xs)))) ≡ puts p (gathered Lines (rows (forest (map (inside noted_stmt) rest))))
empty_stmts xs x rest p e h = empty_of (λ rs. puts p (gathered Lines rs)) (λ ys. forest (map (inside noted_stmt) ys)) (inside noted_stmt) (λ x xs. refl) xs x rest e h

pub none_stmts : (xs : List (Box Stmt Global)) (p : State) → length xs ≡ 0 → puts p (gathered Lines (rows (forest (map (inside noted_stmt) xs)))) ≡ p
none_stmts xs p h = ap (λ ys. puts p (gathered Lines (rows (forest (map (inside noted_stmt) ys))))) (no_items xs h)

pub ruleset stmts = (behind_pushed, pen_pushed, first_stmts, empty_stmts, none_stmts)

pub first_top_stmts : (xs : List (Box Stmt Global)) (x : Box Stmt Global) (rest : List (Box Stmt Global)) (p : State) → xs ≡ x ∷ rest → is_empty (laid_tree (noted_stmt x.value)) ≡ false
    → puts p (gathered TopLines (rows (forest (map (inside noted_stmt) xs)))) ≡ puts (lined (puts p (signs (noted_stmt x.value)))) (gathered TopLines (rows (forest (map (inside noted_stmt) rest))))
first_top_stmts xs x rest p e h = first_of (λ rs. puts p (gathered TopLines rs)) (λ ys. forest (map (inside noted_stmt) ys)) (inside noted_stmt) (λ x xs. refl) xs x rest e h ∙ top_cons p (signs (noted_stmt x.value)) (rows (forest (map (inside noted_stmt) rest)))

pub empty_top_stmts : (xs : List (Box Stmt Global)) (x : Box Stmt Global) (rest : List (Box Stmt Global)) (p : State) → xs ≡ x ∷ rest → is_empty (laid_tree (noted_stmt x.value)) ≡ true → puts p (gathered TopLines (rows (forest (map (inside noted_stmt) xs)))) ≡ puts p (gathered TopLines (rows (forest (map (inside noted_stmt) rest))))
empty_top_stmts xs x rest p e h = empty_of (λ rs. puts p (gathered TopLines rs)) (λ ys. forest (map (inside noted_stmt) ys)) (inside noted_stmt) (λ x xs. refl) xs x rest e h

pub none_top_stmts : (xs : List (Box Stmt Global)) (p : State) → length xs ≡ 0 → puts p (gathered TopLines (rows (forest (map (inside noted_stmt) xs)))) ≡ p
none_top_stmts xs p h = ap (λ ys. puts p (gathered TopLines (rows (forest (map (inside noted_stmt) ys))))) (no_items xs h)

pub ruleset top_stmts = (behind_pushed, pen_pushed, first_top_stmts, empty_top_stmts, none_top_stmts)

pub first_cases : (xs : List (Box Control Global)) (x : Box Control Global) (rest : List (Box Control Global)) (p : State) → xs ≡ x ∷ rest
    → puts p (gathered Lines (rows (forest (map (inside noted_control) xs)))) ≡ puts (puts (lined p) (signs (noted_control x.value))) (gathered Lines (rows (forest (map (inside noted_control) rest))))
first_cases xs x rest p e = first_of (λ rs. puts p (gathered Lines rs)) (λ ys. forest (map (inside noted_control) ys)) (inside noted_control) (λ x xs. refl) xs x rest e (solid_control x.value) ∙ lines_cons p (signs (noted_control x.value)) (rows (forest (map (inside noted_control) rest)))

pub none_cases : (xs : List (Box Control Global)) (p : State) → length xs ≡ 0 → puts p (gathered Lines (rows (forest (map (inside noted_control) xs)))) ≡ p
none_cases xs p h = ap (λ ys. puts p (gathered Lines (rows (forest (map (inside noted_control) ys))))) (no_items xs h)

pub ruleset cases = (behind_pushed, pen_pushed, first_cases, none_cases)

pub first_links : (xs : List (Box Link Global)) (x : Box Link Global) (rest : List (Box Link Global)) (p : State) → xs ≡ x ∷ rest
    → puts p (gathered OneOrMore (rows (forest (map (inside noted_link) xs)))) ≡ puts (puts p (signs (noted_link x.value))) (gathered OneOrMore (rows (forest (map (inside noted_link) rest))))
first_links xs x rest p e = first_of (λ rs. puts p (gathered OneOrMore rs)) (λ ys. forest (map (inside noted_link) ys)) (inside noted_link) (λ x xs. refl) xs x rest e (solid_link x.value) ∙ adjacent_cons p (signs (noted_link x.value)) (rows (forest (map (inside noted_link) rest)))

pub none_links : (xs : List (Box Link Global)) (p : State) → length xs ≡ 0 → puts p (gathered OneOrMore (rows (forest (map (inside noted_link) xs)))) ≡ p
none_links xs p h = ap (λ ys. puts p (gathered OneOrMore (rows (forest (map (inside noted_link) ys))))) (no_items xs h)

pub ruleset links = (behind_pushed, pen_pushed, first_links, none_links)

pub first_directives : (xs : List Text) (x : Text) (rest : List Text) (p : State) → xs ≡ x ∷ rest
    → puts p (gathered Lines (rows (forest (map directive xs)))) ≡ puts (puts (lined p) (signs (directive x))) (gathered Lines (rows (forest (map directive rest))))
first_directives xs x rest p e = first_of (λ rs. puts p (gathered Lines rs)) (λ ys. forest (map directive ys)) (directive) (λ x xs. refl) xs x rest e (refl) ∙ lines_cons p (signs (directive x)) (rows (forest (map directive rest)))

pub none_directives : (xs : List Text) (p : State) → length xs ≡ 0 → puts p (gathered Lines (rows (forest (map directive xs)))) ≡ p
none_directives xs p h = ap (λ ys. puts p (gathered Lines (rows (forest (map directive ys))))) (no_items xs h)

pub ruleset directives = (behind_pushed, pen_pushed, first_directives, none_directives, writing)

pub first_top_directives : (xs : List Text) (x : Text) (rest : List Text) (p : State) → xs ≡ x ∷ rest
    → puts p (gathered TopLines (rows (forest (map directive xs)))) ≡ puts (lined (puts p (signs (directive x)))) (gathered TopLines (rows (forest (map directive rest))))
first_top_directives xs x rest p e = first_of (λ rs. puts p (gathered TopLines rs)) (λ ys. forest (map directive ys)) (directive) (λ x xs. refl) xs x rest e (refl) ∙ top_cons p (signs (directive x)) (rows (forest (map directive rest)))

pub none_top_directives : (xs : List Text) (p : State) → length xs ≡ 0 → puts p (gathered TopLines (rows (forest (map directive xs)))) ≡ p
none_top_directives xs p h = ap (λ ys. puts p (gathered TopLines (rows (forest (map directive ys))))) (no_items xs h)

pub ruleset top_directives = (behind_pushed, pen_pushed, first_top_directives, none_top_directives, writing)

-- ---- the items of a module, by their number

pub next_at : {A : Type 0} (xs : List A) (i : ℕ) (x : A) → i < length xs → x ≡ get_or xs i x → drop i xs ≡ x ∷ drop (i + 1) xs
next_at xs i x lt e = rw add-one (drop-cons xs i x lt ∙ ap (λ y. y ∷ drop (suc i) xs) (sym e))

pub item_head : (xs : List Item) (i : ℕ) (x : Item) (p : State) → i < length xs → x ≡ get_or xs i x → is_empty (laid_tree (noted_item x)) ≡ false
    → puts p (gathered TopLines (rows (forest (map noted_item (drop i xs))))) ≡ puts (lined (puts p (signs (noted_item x)))) (gathered TopLines (rows (forest (map noted_item (drop (i + 1) xs)))))
item_head xs i x p lt e h = first_of (λ rs. puts p (gathered TopLines rs)) (λ ys. forest (map noted_item ys)) noted_item (λ x xs. refl) (drop i xs) x (drop (i + 1) xs) (next_at xs i x lt e) h ∙ top_cons p (signs (noted_item x)) (rows (forest (map noted_item (drop (i + 1) xs))))

pub item_empty : (xs : List Item) (i : ℕ) (x : Item) (p : State) → i < length xs → x ≡ get_or xs i x → is_empty (laid_tree (noted_item x)) ≡ true
    → puts p (gathered TopLines (rows (forest (map noted_item (drop i xs))))) ≡ puts p (gathered TopLines (rows (forest (map noted_item (drop (i + 1) xs)))))
item_empty xs i x p lt e h = empty_of (λ rs. puts p (gathered TopLines rs)) (λ ys. forest (map noted_item ys)) noted_item (λ x xs. refl) (drop i xs) x (drop (i + 1) xs) (next_at xs i x lt e) h

past_end : {A : Type 0} (xs : List A) (i : ℕ) → length xs ≤ i → drop i xs ≡ []
past_end {A = A} xs i h = no_items (drop i xs) (omega (arith, h, length-drop {A = A}))

pub item_none : (xs : List Item) (i : ℕ) (p : State) → length xs ≤ i → puts p (gathered TopLines (rows (forest (map noted_item (drop i xs))))) ≡ p
item_none xs i p h = ap (λ ys. puts p (gathered TopLines (rows (forest (map noted_item ys))))) (past_end xs i h)

pub ruleset items = (behind_pushed, pen_pushed, item_head, item_empty, item_none)

-- ---- specifiers, which are spelled alike on every side

solid_specifier : (s : Side) (x : Specifier) → is_empty (laid_tree (view_specifier s x)) ≡ false
solid_specifier s (specifier.Same at a) = refl
solid_specifier s (specifier.As at a b) = refl

alike : (s : Side) (x : Specifier) → signs (view_specifier s x) ≡ signs (view_specifier Imported x)
alike s (specifier.Same at a) = refl
alike s (specifier.As at a b) = refl

specifiers_at : (writes : List (List Sign) → State) (s : Side) (xs : List Specifier) (i : ℕ) (x : Specifier) → i < length xs → x ≡ get_or xs i x
    → writes (rows (forest (map (view_specifier s) (drop i xs)))) ≡ writes (signs (view_specifier Imported x) ∷ rows (forest (map (view_specifier s) (drop (i + 1) xs))))
specifiers_at writes s xs i x lt e =
    first_of writes (λ ys. forest (map (view_specifier s) ys)) (view_specifier s) (λ x xs. refl) (drop i xs) x (drop (i + 1) xs) (next_at xs i x lt e) (solid_specifier s x)
    ∙ ap (λ y. writes (y ∷ rows (forest (map (view_specifier s) (drop (i + 1) xs))))) (alike s x)

pub first_specifier : (s : Side) (xs : List Specifier) (i : ℕ) (x : Specifier) (p : State) → i < length xs → x ≡ get_or xs i x
    → puts p (gathered NoTrailing (rows (forest (map (view_specifier s) (drop i xs))))) ≡ puts (puts p (signs (view_specifier Imported x))) (later (rows (forest (map (view_specifier s) (drop (i + 1) xs)))))
first_specifier s xs i x p lt e = specifiers_at (λ rs. puts p (gathered NoTrailing rs)) s xs i x lt e ∙ comma_first p (signs (view_specifier Imported x)) (rows (forest (map (view_specifier s) (drop (i + 1) xs))))

pub later_specifier : (s : Side) (xs : List Specifier) (i : ℕ) (x : Specifier) (p : State) → i < length xs → x ≡ get_or xs i x
    → puts p (later (rows (forest (map (view_specifier s) (drop i xs))))) ≡ puts (puts (inked p (codes ", ")) (signs (view_specifier Imported x))) (later (rows (forest (map (view_specifier s) (drop (i + 1) xs)))))
later_specifier s xs i x p lt e = specifiers_at (λ rs. puts p (later rs)) s xs i x lt e ∙ comma_later p (signs (view_specifier Imported x)) (rows (forest (map (view_specifier s) (drop (i + 1) xs))))

pub no_first_specifier : (s : Side) (xs : List Specifier) (i : ℕ) (p : State) → length xs ≤ i → puts p (gathered NoTrailing (rows (forest (map (view_specifier s) (drop i xs))))) ≡ p
no_first_specifier s xs i p h = ap (λ ys. puts p (gathered NoTrailing (rows (forest (map (view_specifier s) ys))))) (past_end xs i h)

pub no_later_specifier : (s : Side) (xs : List Specifier) (i : ℕ) (p : State) → length xs ≤ i → puts p (later (rows (forest (map (view_specifier s) (drop i xs))))) ≡ p
no_later_specifier s xs i p h = ap (λ ys. puts p (later (rows (forest (map (view_specifier s) ys))))) (past_end xs i h)

pub ruleset specifiers = (behind_pushed, pen_pushed, behind_renamed, pen_renamed, first_specifier, no_first_specifier)

pub ruleset more_specifiers = (behind_pushed, pen_pushed, behind_renamed, pen_renamed, later_specifier, no_later_specifier)
