-- What the variants of the code's tree count.
use Rattle.std.proofs.Common.{◌≡◌, ℕ, zero, suc, Bool, true, false, cond, List, [], ◌∷◌, refl, sym, ◌∙◌, ap, map, Option, Some, None, Box, Vec, Global, ◌≤◌, ◌<◌, ◌-◌, arith}
use Rattle.std.specs.Prelude.{◌&&◌, ◌==◌, take, length}
use Rattle.std.proofs.lemmas.Bool.{false≢true}
use Rattle.jsx_base.specs.Token as token
use Rattle.jsx_tree.specs.Kinds.{Role, Binds, Side, Tree, leaf, node, list, Forest, none, part, expression}
use Rattle.jsx_tree.specs.declared.text.Text.{Text}
use Rattle.jsx_tree.specs.declared.text.Ident.{Ident}
use Rattle.jsx_tree.specs.declared.text.LiteralKind.{LiteralKind}
use Rattle.jsx_tree.specs.declared.text.LiteralKind.TheVariants as literal_kind
use Rattle.jsx_tree.specs.declared.text.Word.{Word}
use Rattle.jsx_tree.specs.declared.text.Word.TheVariants as words
use Rattle.jsx_tree.specs.declared.operator.UpdateOp.{UpdateOp}
use Rattle.jsx_tree.specs.declared.operator.UpdateSide.{UpdateSide}
use Rattle.jsx_tree.specs.declared.operator.UpdateSide.TheVariants as side
use Rattle.jsx_base.specs.declared.place.Span.{Span}
use Rattle.jsx_tree.specs.declared.text.Placement.{Placement}
use Rattle.jsx_tree.specs.declared.tree.Expr.{Expr}
use Rattle.jsx_tree.specs.declared.tree.Key.{Key}
use Rattle.jsx_tree.specs.declared.tree.Pat.{Pat}
use Rattle.jsx_tree.specs.declared.tree.Prop.{Prop}
use Rattle.jsx_tree.specs.declared.tree.Prop.TheVariants as prop
use Rattle.jsx_tree.specs.declared.tree.Stmt.{Stmt}
use Rattle.jsx_tree.specs.declared.tree.Tag.{Tag}
use Rattle.jsx_tree.specs.declared.tree.Tag.TheVariants as tag
use Rattle.jsx_tree.specs.declared.tree.AttrName.{AttrName}
use Rattle.jsx_tree.specs.declared.tree.AttrName.TheVariants as attr_name
use Rattle.jsx_tree.specs.View.{Owner, body, inside, view_key, view_member, view_pattern, view_stmt, name_of, view_word, kind_of_literal, template, middle, middles, closing, shorthand_of, clause_of, container_of, optional_of, view_expr, view_tag, view_attr_name, jsx_word, forest}
use Rattle.jsx_tree.specs.ViewOperators.{update_of}
use Rattle.jsx_tree.specs.ViewProgram.{view_specifier}
use Rattle.jsx_tree.specs.declared.program.Specifier.{Specifier}
use Rattle.jsx_tree.specs.declared.program.Specifier.TheVariants as specifier
use Rattle.jsx_tree.proofs.Views.{view-Prop-Setter, views}
use Rattle.jsx_tree.specs.Reach.{weighs, counts, counts_twice}
use Rattle.jsx_depth.specs.Fits.{level_in, is_left, at_level, at_second, fits, fits_each, counts_tree, fits_inside, short_inside, used}
use Rattle.jsx_depth.proofs.Each.{each_part}
use Rattle.jsx_depth.proofs.Lists.{each_left}

pub literal_weighs : (k : LiteralKind) → weighs (kind_of_literal k) ≡ true
literal_weighs literal_kind.Num = refl
literal_weighs literal_kind.BigInt = refl
literal_weighs literal_kind.Str = refl
literal_weighs literal_kind.RegExp = refl

pub literal_fits : (n : ℕ) (k : LiteralKind) (t : token.Text) → fits n (leaf (kind_of_literal k) t) ≡ is_left n
literal_fits n literal_kind.Num t = refl
literal_fits n literal_kind.BigInt t = refl
literal_fits n literal_kind.Str t = refl
literal_fits n literal_kind.RegExp t = refl

pub word_counts : (w : Word) → counts_tree (view_word w) ≡ true
word_counts words.This = refl
word_counts words.Null = refl
word_counts words.True = refl
word_counts words.False = refl
word_counts words.ImportMeta = refl
word_counts words.NewTarget = refl

pub word_inside : (n : ℕ) (w : Word) → fits_inside n (view_word w) ≡ true
word_inside n words.This = refl
word_inside n words.Null = refl
word_inside n words.True = refl
word_inside n words.False = refl
word_inside n words.ImportMeta = refl
word_inside n words.NewTarget = refl

pub template_counts : (b : Bool) (ps : List Text) (ts : List Tree) → counts_tree (template b ps ts) ≡ true
template_counts b [] ts = refl
template_counts b (p ∷ []) [] = refl
template_counts b (p ∷ []) (t ∷ ts) = refl
template_counts b (p ∷ q ∷ ps) [] = refl
template_counts b (p ∷ q ∷ ps) (t ∷ ts) = refl

pub update_counts : (o : UpdateOp) (s : UpdateSide) (ts : Forest) → counts_tree (node (expression (update_of o s)) ts) ≡ true
update_counts o side.Before ts = refl
update_counts o side.After ts = refl

pub update_inside : (n : ℕ) (o : UpdateOp) (s : UpdateSide) (t : Tree) → fits_inside n (node (expression (update_of o s)) (part t none)) ≡ fits n t
update_inside n o side.Before t = refl
update_inside n o side.After t = refl

pub short_counts : (r : Role) (a : Tree) (e : Option (Box Expr Global)) → counts_tree (shorthand_of view_expr r a e) ≡ true
short_counts r a None = refl
short_counts r a (Some e) = refl

pub short_fits : (n : ℕ) (r : Role) (a : Ident) (e : Option (Box Expr Global)) → fits_inside n (shorthand_of view_expr r (name_of a) e) ≡ short_inside n (optional_of view_expr e)
short_fits n r a None = refl
short_fits n r a (Some e) = refl

pub clause_counts : (e : Option (Box Expr Global)) (t : Tree) → counts_tree (clause_of view_expr e t) ≡ true
clause_counts None t = refl
clause_counts (Some e) t = refl

pub clause_inside : (n : ℕ) (e : Option (Box Expr Global)) (t : Tree) → fits_inside n (clause_of view_expr e t) ≡ (fits n (optional_of view_expr e) && fits n t)
clause_inside n None t = refl
clause_inside n (Some e) t = refl

pub container_counts : (e : Option (Box Expr Global)) → counts_tree (container_of view_expr e) ≡ true
container_counts None = refl
container_counts (Some e) = refl

and_same : (b : Bool) → (b && b) ≡ b
and_same true = refl
and_same false = refl

and_true : (b : Bool) → (b && true) ≡ b
and_true true = refl
and_true false = refl

pub tag_fits : (n : ℕ) (t : Tag) → fits n (view_tag t) ≡ is_left n
tag_fits n (tag.Name a) = refl
tag_fits n (tag.Namespaced at a b) = and_same (is_left n)
tag_fits n (tag.Member at a bs) = more bs.items
  where
    more : (ws : List Text) → (is_left n && fits_each n (forest (map jsx_word ws))) ≡ is_left n
    more [] = and_true (is_left n)
    more (w ∷ ws) = ap (λ b. is_left n && b) (each_left n jsx_word w ws (λ v. refl)) ∙ and_same (is_left n)

pub attr_fits : (n : ℕ) (a : AttrName) → fits n (view_attr_name a) ≡ is_left n
attr_fits n (attr_name.Name a) = refl
attr_fits n (attr_name.Namespaced at a b) = and_same (is_left n)

pub specifier_fits : (n : ℕ) (s : Side) (a : Specifier) → fits n (view_specifier s a) ≡ is_left n
specifier_fits n s (specifier.Same at a) = refl
specifier_fits n s (specifier.As at a b) = and_same (is_left n)

-- a setter, with its key and its parameter within
pub setter_fits : (n : ℕ) (at : Option Span) (p : Placement) (k : Key) (q : Box Pat Global) (ds : Vec Text Global) (ss : Vec (Box Stmt Global) Global) (o : Owner) (m : Prop) (q' : Pat) (es : List Text) (ts : List (Box Stmt Global)) (b : Bool)
    → m ≡ prop.Setter at p k q ds ss → fits n (view_key k) ≡ true → q' ≡ q.value → fits n (view_pattern q' Binds) ≡ true → es ≡ ds.items → ts ≡ ss.items → b ≡ fits n (body es (map (inside view_stmt) ts)) → b ≡ fits_inside n (view_member m o)
setter_fits n at p k q ds ss o m q' es ts b is key same fit e f g =
    let code : Tree = body ds.items (map (inside view_stmt) ss.items) in
    g ∙ (ap (λ xs. fits n (body xs (map (inside view_stmt) ts))) e
    ∙ (ap (λ xs. fits n (body ds.items (map (inside view_stmt) xs))) f
    ∙ (ap (λ c. c && fits n code) (sym fit ∙ ap (λ x. fits n (view_pattern x Binds)) same)
    ∙ (ap (λ c. c && (fits n (view_pattern q.value Binds) && fits n code)) (sym key)
    ∙ sym (ap (λ x. fits_inside n (view_member x o)) is ∙ ap (fits_inside n) (view-Prop-Setter at p k q ds ss o))))))

pub ruleset depths = (views, literal_weighs, literal_fits, word_counts, word_inside, template_counts, update_counts, update_inside, short_counts, short_fits, clause_counts, clause_inside, container_counts, tag_fits, attr_fits)

-- ---- a node: whether it counts, and its parts

pub fits_some : (n m : ℕ) (t : Tree) (b p : Bool) → b ≡ counts_tree t → Some m ≡ level_in b n → p ≡ fits_inside m t → p ≡ fits n t
fits_some n m t b p e f g = g ∙ at t (f ∙ ap (λ c. level_in c n) e)
  where
    left : (k : ℕ) → Some m ≡ level_in true k → true ≡ is_left k
    left zero h = cc
    left (suc k) h = refl

    same : {i j : ℕ} → Some i ≡ Some j → i ≡ j
    same h = cc

    weigh : (c : Bool) → Some m ≡ level_in c n → true ≡ cond c (is_left n) true
    weigh true h = left n h
    weigh false h = refl

    at : (u : Tree) → Some m ≡ level_in (counts_tree u) n → fits_inside m u ≡ fits n u
    at (leaf k s) h = weigh (weighs k) h
    at (node k ts) h = ap (λ o. at_level o (λ i. at_second (counts_twice k) i (λ j. fits_each j ts))) h
    at (list ts) h = ap (λ i. fits_each i ts) (same h)

pub fits_none : (n : ℕ) (t : Tree) (b : Bool) → b ≡ counts_tree t → None ≡ level_in b n → false ≡ fits n t
fits_none n t b e f = at t (f ∙ ap (λ c. level_in c n) e)
  where
    left : (k : ℕ) → None ≡ level_in true k → false ≡ is_left k
    left zero h = refl
    left (suc k) h = cc

    weigh : (c : Bool) → None ≡ level_in c n → false ≡ cond c (is_left n) true
    weigh true h = left n h
    weigh false h = cc

    at : (u : Tree) → None ≡ level_in (counts_tree u) n → false ≡ fits n u
    at (leaf k s) h = weigh (weighs k) h
    at (node k ts) h = ap (λ o. at_level o (λ i. at_second (counts_twice k) i (λ j. fits_each j ts))) h
    at (list ts) h = cc

pub ruleset nodes = (fits_some, fits_none)

-- ---- the pieces of a template

-- at most one piece less than there are, where there are fewer than expressions
pub used_fewer : (m n : ℕ) → m < n → m - 1 ≡ used m n
used_fewer m zero h = absurd (omega (arith, h))
used_fewer zero (suc n) h = refl
used_fewer (suc zero) (suc zero) h = absurd (omega (arith, h))
used_fewer (suc zero) (suc (suc n)) h = refl
used_fewer (suc (suc m)) (suc n) h =
    let rest : suc m - 1 ≡ used (suc m) n = used_fewer (suc m) n (omega (arith, h)) in
    omega (arith, rest)

pub used_all : (m n : ℕ) → n ≤ m → n ≡ used m n
used_all zero zero h = refl
used_all zero (suc n) h = absurd (omega (arith, h))
used_all (suc m) zero h = refl
used_all (suc zero) (suc zero) h = refl
used_all (suc zero) (suc (suc n)) h = absurd (omega (arith, h))
used_all (suc (suc m)) (suc n) h = ap suc (used_all (suc m) n (omega (arith, h)))

-- behind its first piece: the expressions that belong to it
parts_fit : (b : Bool) (n : ℕ) (ps : List Text) (ts : List Tree) → is_left n ≡ true → (fits_each n (middles b ps ts) && fits_each n (closing ps ts)) ≡ fits_each n (forest (take (used (length ps) (length ts)) ts))
parts_fit b n [] [] l = refl
parts_fit b n [] (t ∷ ts) l = refl
parts_fit b n (p ∷ []) [] l = refl
parts_fit b n (p ∷ []) (t ∷ []) l = ap (λ c. fits n t && c) l ∙ and_true (fits n t)
parts_fit b n (p ∷ []) (t ∷ u ∷ us) l = refl
parts_fit b n (p ∷ q ∷ ps) [] l = refl
parts_fit b n (p ∷ q ∷ ps) (t ∷ ts) l =
    let rest = parts_fit b n (q ∷ ps) ts l in
    ap (λ c. c && fits_each n (closing (q ∷ ps) ts)) (each_part n (middle b t p) (middles b (q ∷ ps) ts))
    ∙ (ap (λ c. (c && fits_each n (middles b (q ∷ ps) ts)) && fits_each n (closing (q ∷ ps) ts)) (ap (λ c. fits n t && c) l ∙ and_true (fits n t))
    ∙ (and_both (fits n t) (fits_each n (middles b (q ∷ ps) ts)) (fits_each n (closing (q ∷ ps) ts))
    ∙ (ap (λ c. fits n t && c) rest
    ∙ sym (each_part n t (forest (take (used (length (q ∷ ps)) (length ts)) ts))))))
  where
    and_both : (x y z : Bool) → ((x && y) && z) ≡ (x && (y && z))
    and_both true y z = refl
    and_both false y z = refl

behind_first : (p : Text) (ps : List Text) → length (p ∷ ps) - 1 ≡ length ps
behind_first p ps = omega arith

-- a template with a piece, of so many of its expressions
pub template_fits : (b : Bool) (n k : ℕ) (ps : List Text) (ts : List Tree) (r : Bool) → r ≡ (length ps == 0) → r ≡ false → k ≡ used (length ps - 1) (length ts) → is_left n ≡ true → fits_each n (forest (take k ts)) ≡ fits_inside n (template b ps ts)
template_fits b n k [] ts r e f c l = absurd (false≢true (sym f ∙ e))
template_fits b n k (p ∷ []) [] r e f c l = ap (λ i. fits_each n (forest (take i []))) c ∙ sym l
template_fits b n k (p ∷ []) (t ∷ ts) r e f c l =
    let c' : k ≡ used 0 (length (t ∷ ts)) = c ∙ ap (λ i. used i (length (t ∷ ts))) (behind_first p []) in
    ap (λ i. fits_each n (forest (take i (t ∷ ts)))) c' ∙ (sym (parts_fit b n [] (t ∷ ts) l) ∙ (sym (each_part n (list (middles b [] (t ∷ ts))) (closing [] (t ∷ ts))) ∙ ap (λ d. d && fits_each n (part (list (middles b [] (t ∷ ts))) (closing [] (t ∷ ts)))) (sym l)))
template_fits b n k (p ∷ q ∷ qs) ts r e f c l =
    let c' : k ≡ used (length (q ∷ qs)) (length ts) = c ∙ ap (λ i. used i (length ts)) (behind_first p (q ∷ qs)) in
    ap (λ i. fits_each n (forest (take i ts))) c' ∙ (sym (parts_fit b n (q ∷ qs) ts l) ∙ (sym (each_part n (list (middles b (q ∷ qs) ts)) (closing (q ∷ qs) ts)) ∙ ap (λ d. d && fits_each n (part (list (middles b (q ∷ qs) ts)) (closing (q ∷ qs) ts))) (sym l)))
