-- What is told of an expression whose span is set anew.
use Rattle.std.proofs.Common.{◌≡◌, ◌<◌, List, [], ◌∷◌, Bool, false, cond, refl, ap, sym, ◌∙◌, subst, arith, Option, Box, Global}
use Rattle.jsx_base.specs.declared.place.Span.{Span}
use Rattle.jsx_tree.specs.Kinds.{Tree}
use Rattle.jsx_tree.specs.declared.text.Text.{Text}
use Rattle.jsx_tree.specs.declared.text.Word.{Word}
use Rattle.jsx_tree.specs.declared.tree.Access.{Access}
use Rattle.jsx_tree.specs.declared.tree.Expr.{Expr}
use Rattle.jsx_tree.specs.declared.tree.Expr.TheVariants as expr
use Rattle.jsx_tree.specs.declared.tree.Operation.{Operation}
use Rattle.jsx_tree.specs.declared.tree.Jsx.{Jsx}
use Rattle.jsx_tree.specs.Spans.{Told}
use Rattle.jsx_tree.specs.Told.{told_template}
use Rattle.jsx_tree.specs.View.{template, view_word, view_access, view_expr, view_jsx, view_operation}
use Rattle.jsx_tree.proofs.Views.{views, view-Expr-Paren}
use Rattle.jsx_tree.proofs.Telling.{telling}
use Rattle.jsx_operand.specs.Spans.{is_parens, pairs_round, spanned, as_argument}
use Rattle.jsx_make.proofs.NodeSpans.{node_spans}
use Rattle.jsx_operand.proofs.Pairs.{plain_bare, template_plain, word_plain, access_plain, operation_plain, jsx_plain}

-- ---- what is in no parentheses by itself

not_parens : (t : Tree) (at : Option Span) (d : Told) → is_parens t ≡ false → as_argument t at d ≡ d
not_parens t at d n = ap (λ b. cond b (spanned at d) d) n

pub template_own : (b : Bool) (ps : List Text) (ts : List Tree) (at : Option Span) (d : Told) → as_argument (template b ps ts) at d ≡ d
template_own b ps ts at d = not_parens (template b ps ts) at d (plain_bare (template b ps ts) (template_plain b ps ts))

pub word_own : (w : Word) (at : Option Span) (d : Told) → as_argument (view_word w) at d ≡ d
word_own w at d = not_parens (view_word w) at d (plain_bare (view_word w) (word_plain w))

pub access_own : (a : Access) (at : Option Span) (d : Told) → as_argument (view_access a) at d ≡ d
access_own a at d = not_parens (view_access a) at d (plain_bare (view_access a) (access_plain a))

pub operation_own : (a : Operation) (at : Option Span) (d : Told) → as_argument (view_operation a) at d ≡ d
operation_own a at d = not_parens (view_operation a) at d (plain_bare (view_operation a) (operation_plain a))

pub jsx_own : (a : Jsx) (at : Option Span) (d : Told) → as_argument (view_jsx a) at d ≡ d
jsx_own a at d = not_parens (view_jsx a) at d (plain_bare (view_jsx a) (jsx_plain a))

pub template_spanned : (at old : Option Span) (ps : List Text) (ds : List Told) → told_template at ps ds ≡ spanned at (told_template old ps ds)
template_spanned at old [] ds = refl
template_spanned at old (p ∷ []) [] = refl
template_spanned at old (p ∷ []) (d ∷ ds) = refl
template_spanned at old (p ∷ q ∷ ps) ds = refl

pub template_respanned : (at old : Option Span) (ps : List Text) (ds : List Told) → spanned at (told_template old ps ds) ≡ told_template at ps ds
template_respanned at old ps ds = sym (template_spanned at old ps ds)

-- what stands in parentheses has one pair less round it
pub fewer_pairs : {e : Expr} (at : Option Span) (inner : Box Expr Global) → e ≡ expr.Paren at inner → pairs_round (view_expr inner.value) < pairs_round (view_expr e)
fewer_pairs {e} at inner is = subst (λ n. pairs_round (view_expr inner.value) < n) (sym (ap (λ x. pairs_round (view_expr x)) is ∙ ap pairs_round (view-Expr-Paren at inner))) (omega arith)

pub ruleset spanning = (views, telling, node_spans, template_own, word_own, access_own, operation_own, jsx_own, template_respanned)
