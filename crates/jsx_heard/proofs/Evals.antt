-- Where `eval` is called: at its name, parentheses aside, and at no other expression.
use Rattle.std.proofs.Common.{◌≡◌, ℕ, Decides, List, [], ◌∷◌, Bool, true, false, cond, codes, refl, sym, ap, ◌∙◌, Option, Box, Global}
use Rattle.std.specs.Str.{chars, bytes_eq, IsUtf8}
use Rattle.std.proofs.lemmas.Slice.Eq.{bytes_eq-Decides}
use lib.Utf8.{encode}
use Rattle.jsx_base.specs.Token as token
use Rattle.jsx_base.specs.Token.{same, IdentifierName}
use Rattle.jsx_base.specs.declared.place.Span.{Span}
use Rattle.jsx_tree.specs.Kinds.{Parenthesized, expression, Tree, leaf, node, list, none, part}
use Rattle.jsx_tree.specs.Scopes.{Path}
use Rattle.jsx_tree.specs.Clashes.{eval_at}
use Rattle.jsx_tree.specs.Told.{told_expr}
use Rattle.jsx_tree.specs.View.{view_expr}
use Rattle.jsx_tree.specs.declared.tree.Expr.{Expr}
use Rattle.jsx_tree.specs.declared.tree.Expr.TheVariants as expr
use Rattle.jsx_tree.proofs.Views.{ap_2, view-Expr-Paren}
use Rattle.jsx_tree.proofs.Telling.{told-Expr-Paren}
use Rattle.jsx_names.specs.Events.{called}
use Rattle.jsx_names.specs.Heard.{bare_all}
use Rattle.jsx_heard.specs.Said.{Met, each_met, its}
use Rattle.jsx_token.proofs.Spellings.{by_both, same_bytes}

-- the word, as bytes and as characters
eval_bytes : (bs : List ℕ) → IsUtf8 bs → bytes_eq (codes "eval") bs ≡ same (chars bs) (codes "eval")
unfolding encode
eval_bytes bs u = same_bytes (codes "eval") bs u refl

pub same_eval : (bs : List ℕ) (t : token.Text) (b : Bool) → IsUtf8 bs → chars bs ≡ t → Decides b (bs ≡ codes "eval") → b ≡ same t (codes "eval")
same_eval bs t b u is d =
    by_both b (bytes_eq (codes "eval") bs) (λ h. (bytes_eq-Decides (codes "eval") bs).1 (sym (d.0 h))) (λ h. d.1 (sym ((bytes_eq-Decides (codes "eval") bs).0 h)))
    ∙ (eval_bytes bs u ∙ ap (λ s. same s (codes "eval")) is)

-- without its path it is the same wherever the tree stands
pub eval_bare : (p : Path) (t : Tree) → bare_all (called (eval_at p t)) ≡ bare_all (called (eval_at [] t))
eval_bare p (leaf IdentifierName t) = by_test (same t (codes "eval"))
  where
    by_test : (b : Bool) → bare_all (called (cond b (p ∷ []) [])) ≡ bare_all (called (cond b ([] ∷ []) []))
    by_test true = refl
    by_test false = refl
eval_bare p (leaf _ t) = refl
eval_bare p (node (expression Parenthesized) (part t none)) = eval_bare _ t ∙ sym (eval_bare _ t)
eval_bare p (node (expression Parenthesized) none) = refl
eval_bare p (node (expression Parenthesized) (part t (part u us))) = refl
eval_bare p (node k ts) = refl
eval_bare p (list ts) = refl

-- ---- what is said of a callee

abbrev pub called_by : Expr → List Met
called_by f = each_met (its (told_expr f)) (bare_all (called (eval_at [] (view_expr f))))

pub paren_called : (at : Option Span) (a : Box Expr Global) → called_by (expr.Paren at a) ≡ called_by a.value
paren_called at a = ap_2 (λ d t. each_met (its d) (bare_all (called (eval_at [] t)))) (told-Expr-Paren at a) (view-Expr-Paren at a) ∙ ap (each_met (its (told_expr a.value))) (eval_bare _ (view_expr a.value))
