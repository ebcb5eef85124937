-- Templates: what is written of them, piece by piece.
use Rattle.std.proofs.Common.{Box, Global, ◌≡◌, List, [], ◌∷◌, ◌++◌, Bool, true, false, map, codes, length, refl, sym, ap, ◌∙◌, arith, append-nil}
use Rattle.std.proofs.lemmas.Bool.{false≢true}
use Rattle.jsx_base.specs.Token as token
use Rattle.jsx_tree.specs.Kinds.{Tree}
use Rattle.jsx_tree.specs.Nonterminals.{Expr, TemplatePart}
use Rattle.jsx_tree.specs.Signs.{Sign}
use Rattle.jsx_tree.specs.Grammar.{Adjacent, Part, p}
use Rattle.jsx_tree.specs.Form.{Single, position}
use Rattle.jsx_tree.specs.Spelling.{gathered, walk}
use Rattle.jsx_pen.specs.Calls.{saids}
use Rattle.jsx_tree.specs.Normal.{laid_node, mades}
use Rattle.jsx_tree.specs.View.{inside, middle, middles, closing, template, text_of}
use Rattle.jsx_tree.specs.declared.text.Text.{Text}
use Rattle.jsx_tree.specs.declared.tree.Expr as declared
use Rattle.jsx_plan.specs.Noted.{noted_expr}
use Rattle.jsx_pen.specs.Pen.{State, inked, piece, puts, signs, rows, goes_on, spanned, templated}
use Rattle.jsx_pen.proofs.Writing.{puts_append}

-- ---- the signs of a template

adjacent_first : (q : State) (x : List Sign) (xs : List (List Sign)) → puts q (gathered Adjacent (x ∷ xs)) ≡ puts (puts q x) (gathered Adjacent xs)
adjacent_first q x [] = ap (puts q) (append-nil x)
adjacent_first q x (y ∷ ys) = puts_append q x (gathered Adjacent (y ∷ ys))

-- what stands behind the spans that another follows
abbrev closed : List Text → List Tree → List Sign
closed as' ts = walk (Part (Expr 0) ∷ p "}" ∷ Part (TemplatePart token.TemplateTail) ∷ []) (saids (mades laid_node (position Single (Expr 0) [] true [] ∷ position Single (TemplatePart token.TemplateTail) [] false [] ∷ []) (closing as' ts)))

span_signs : (q : State) (b : Bool) (t : Tree) (a : Text) → puts q (signs (middle b t a)) ≡ piece (inked (puts q (signs t)) (codes "}")) (text_of a)
span_signs q b t a = puts_append q (signs t) _

spans_signs : (q : State) (b : Bool) (as' : List Text) (ts : List Tree) → puts q (gathered Adjacent (rows (middles b as' ts)) ++ closed as' ts) ≡ spanned q as' ts
spans_signs q b [] ts = refl
spans_signs q b (a ∷ []) [] = refl
spans_signs q b (a ∷ []) (t ∷ []) = puts_append q (signs t) _
spans_signs q b (a ∷ []) (t ∷ u ∷ us) = refl
spans_signs q b (a ∷ c ∷ as') [] = refl
spans_signs q b (a ∷ c ∷ as') (t ∷ ts) =
    let x = signs (middle b t a) in
    let xs = rows (middles b (c ∷ as') ts) in
    let z = closed (c ∷ as') ts in
    puts_append q (gathered Adjacent (x ∷ xs)) z ∙ ap (λ r. puts r z) (adjacent_first q x xs) ∙ sym (puts_append (puts q x) (gathered Adjacent xs) z)
    ∙ ap (λ r. puts r (gathered Adjacent xs ++ z)) (span_signs q b t a) ∙ spans_signs (piece (inked (puts q (signs t)) (codes "}")) (text_of a)) b (c ∷ as') ts

pub template_signs : (q : State) (b : Bool) (as' : List Text) (ts : List Tree) → puts q (signs (template b as' ts)) ≡ templated q as' ts
template_signs q b [] ts = refl
template_signs q b (a ∷ []) [] = refl
template_signs q b (a ∷ []) (t ∷ ts) = spans_signs (inked q (text_of a)) b [] (t ∷ ts)
template_signs q b (a ∷ c ∷ as') ts = spans_signs (inked q (text_of a)) b (c ∷ as') ts

-- ---- one after the other

pub no_pieces : (q : State) (as' : List Text) (ts : List Tree) → length as' ≡ 0 → templated q as' ts ≡ q
no_pieces q [] ts h = refl
no_pieces q (a ∷ as') ts h = absurd (omega (arith, h))

pub no_spans : (q : State) (as' : List Text) (ts : List Tree) → length as' ≡ 0 → spanned q as' ts ≡ q
no_spans q [] ts h = refl
no_spans q (a ∷ as') ts h = absurd (omega (arith, h))

pub no_exprs : (q : State) (a : Text) (as' : List Text) (xs : List (Box declared.Expr Global)) → length xs ≡ 0 → spanned q (a ∷ as') (map (inside noted_expr) xs) ≡ q
no_exprs q a [] [] h = refl
no_exprs q a (c ∷ as') [] h = refl
no_exprs q a as' (x ∷ xs) h = absurd (omega (arith, h))

pub span_more : (q : State) (a : Text) (as' : List Text) (t : Tree) (xs : List (Box declared.Expr Global)) → goes_on as' xs ≡ true → spanned q (a ∷ as') (t ∷ map (inside noted_expr) xs) ≡ spanned (piece (inked (puts q (signs t)) (codes "}")) (text_of a)) as' (map (inside noted_expr) xs)
span_more q a [] t [] h = refl
span_more q a (c ∷ as') t xs h = refl
span_more q a [] t (x ∷ xs) h = absurd (false≢true h)

pub span_over : (q : State) (a : Text) (as' : List Text) (t : Tree) (xs : List (Box declared.Expr Global)) → goes_on as' xs ≡ false → spanned q (a ∷ as') (t ∷ map (inside noted_expr) xs) ≡ q
span_over q a [] t [] h = absurd (false≢true (sym h))
span_over q a (c ∷ as') t xs h = absurd (false≢true (sym h))
span_over q a [] t (x ∷ xs) h = refl

pub goes_empty : (as' : List Text) (xs : List (Box declared.Expr Global)) → length as' ≡ 0 → length xs ≡ 0 → goes_on as' xs ≡ true
goes_empty [] [] h k = refl
goes_empty [] (x ∷ xs) h k = absurd (omega (arith, k))
goes_empty (a ∷ as') xs h k = absurd (omega (arith, h))

pub goes_over : (as' : List Text) (x : Box declared.Expr Global) (xs : List (Box declared.Expr Global)) → length as' ≡ 0 → goes_on as' (x ∷ xs) ≡ false
goes_over [] x xs h = refl
goes_over (a ∷ as') x xs h = absurd (omega (arith, h))

pub ruleset going = (goes_empty, goes_over)

pub ruleset spanning = (no_pieces, no_spans, no_exprs, span_more, span_over)
