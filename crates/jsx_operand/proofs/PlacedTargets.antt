-- What an expression tells of places, the target that it is tells too.
use Rattle.std.proofs.Common.{◌≡◌, ℕ, true, false, [], ◌∷◌, ◌++◌, refl, sym, ◌∙◌, subst}
use Rattle.std.specs.Prelude.{IsTrue}
use Rattle.jsx_tree.specs.Kinds.{program, function, expression, ExportDefaultFn, ExportDefaultClass, ExportDefaultExpr, ParenTarget, Parenthesized, Tree, leaf, node, list, none, part}
use Rattle.jsx_tree.specs.Nonterminals.{Nonterminal, Expr, SimpleTarget, Argument}
use Rattle.jsx_tree.specs.Spelling.{spelled}
use Rattle.jsx_tree.specs.Reading.{Place, scan}
use Rattle.jsx_tree.specs.Walk.{is_found}
use Rattle.jsx_base.specs.Token.{skip}
use Rattle.jsx_tree.specs.Spans.{Extent, extent, Placed, start, placed, from_first, within, in_parens, Told, IsTold}
use Rattle.jsx_tree.specs.Grows.{as_target}
use Rattle.jsx_tree.proofs.Rows.Targets.{spelled_target}
use Rattle.jsx_token.specs.Here.{Here, place_of}
use Rattle.jsx_operand.specs.Spans.{IsPlaced, is_argument, pairs_formed, spanned}

away : (c : Nonterminal) (e : Extent) (p : Placed) → is_argument c ≡ false → in_parens c e p ≡ p
away Argument e p h = cc
away _ e p h = refl

pub placed_same : (n : ℕ) (t : Tree) (c d : Nonterminal) (x : Place) → pairs_formed t ≡ true → is_argument c ≡ false → placed n (start d false (x ∷ [])) (as_target t) ≡ placed n (start c false (x ∷ [])) t
placed_same n (leaf k s) c d x f h = refl
placed_same n (node (expression Parenthesized) none) c d x f h = cc
placed_same n (node (expression Parenthesized) (part t none)) c d x f h = placed_same n t (Expr 0) SimpleTarget _ f refl ∙ sym (away c _ _ h)
placed_same n (node (expression Parenthesized) (part t (part u us))) c d x f h = cc
placed_same n (node (function ParenTarget) ts) c d x f h = cc
placed_same n (node (program ExportDefaultFn) ts) c d x f h = refl
placed_same n (node (program ExportDefaultClass) ts) c d x f h = refl
placed_same n (node (program ExportDefaultExpr) ts) c d x f h = refl
placed_same n (node _ ts) c d x f h = refl
placed_same n (list ts) c d x f h = cc

pub placed_target : {d : Told} {t : Tree} {x y : Here} → pairs_formed t ≡ true → IsPlaced d t x y → IsPlaced d (as_target t) x y
placed_target {d} {t} {x} {y} f p = record {
  same = p.same;
  begins = λ ms text. subst (λ ss. from_first (ss ++ ms) text ≡ skip text) (sym (spelled_target t)) (p.begins ms text);
  leads = λ h. subst (λ ss. scan (place_of x) ss ≡ place_of y) (sym (spelled_target t)) (p.leads (found h));
  told = λ h c a. subst (IsTold d) (sym (placed_same x.end t c c (place_of x) f a)) (p.told (found h) c a);
  moved = λ a h c b lo next hi at e. subst (λ q. IsTold (spanned at d) (within (extent lo next hi) q)) (sym (placed_same x.end t c c (place_of x) f b)) (p.moved a (found h) c b lo next hi at e);
}
  where
    found : IsTrue (is_found (scan (place_of x) (spelled (as_target t)))) → IsTrue (is_found (scan (place_of x) (spelled t)))
    found h = subst (λ ss. IsTrue (is_found (scan (place_of x) ss))) (spelled_target t) h
