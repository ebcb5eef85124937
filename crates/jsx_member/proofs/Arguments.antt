-- The places of arguments: one in parentheses stands where these do.
use Rattle.std.proofs.Common.{◌≡◌, ◌-◌, true, false, cond, [], ◌∷◌, refl, sym, ap, subst, Option, None}
use Rattle.jsx_base.specs.Lines.{size}
use Rattle.jsx_base.specs.declared.place.Span.{Span}
use Rattle.jsx_tree.specs.Kinds.{ExportDefaultFn, ExportDefaultClass, ExportDefaultExpr, Parenthesized, Spread, ParenTarget, Kind, program, expression, function, Tree, leaf, node, list, Forest}
use Rattle.jsx_tree.specs.Nonterminals.{Nonterminal, Argument, Expr}
use Rattle.jsx_tree.specs.Grammar.{production}
use Rattle.jsx_tree.specs.Spelling.{saids, spelled}
use Rattle.jsx_tree.specs.Reading.{scan}
use Rattle.jsx_tree.specs.Spans.{from_first, from_second, rest_at, Extent, settled, Places, end, and, starts, start, placed, places, within, Told, IsTold}
use Rattle.jsx_tree.specs.Walk.{is_found}
use Rattle.jsx_token.specs.Here.{Here, place_of}
use Rattle.jsx_operand.specs.Spans.{Spans, is_argument, is_parens, spanned, as_argument, IsPlaced, IsPlacedAs}
use Rattle.jsx_token.specs.Places.{next_of, end_of}
use Rattle.jsx_operand.proofs.Placing.{first_is, is_there}

argument_is : (c : Nonterminal) → is_argument c ≡ true → c ≡ Argument
argument_is Argument i = refl
argument_is _ i = cc

parens_within : (e : Extent) (ps : Places) → settled (expression Parenthesized) Argument e ps ≡ within e (settled (expression Parenthesized) (Expr 1) e ps)
parens_within e end = refl
parens_within e (and q end) = refl
parens_within e (and q (and r ps)) = refl

-- what is in no parentheses stands where it does
settled_alike : (k : Kind) (cs : Forest) (c : Nonterminal) (e : Extent) (ps : Places) → is_parens (node k cs) ≡ false → settled k c e ps ≡ settled k (Expr 1) e ps
settled_alike (expression Parenthesized) cs c e ps n = cc
settled_alike (function ParenTarget) cs c e end n = refl
settled_alike (function ParenTarget) cs c e (and q end) n = refl
settled_alike (function ParenTarget) cs c e (and q (and r ps)) n = refl
settled_alike (program ExportDefaultFn) cs c e ps n = refl
settled_alike (program ExportDefaultClass) cs c e ps n = refl
settled_alike (program ExportDefaultExpr) cs c e ps n = refl
settled_alike k cs c e ps n = refl

own_place : {d : Told} {k : Kind} {cs : Forest} {x y : Here} (at : Option Span) → is_parens (node k cs) ≡ false → IsPlaced d (node k cs) x y → IsPlacedAs true (as_argument (node k cs) at d) (node k cs) x y
own_place {d} {k} {cs} {x} {y} at n l = record {
  same = l.same;
  begins = l.begins;
  leads = l.leads;
  told = λ f c i. subst (λ q. IsTold q (placed x.end (start c false (place_of x ∷ [])) (node k cs))) (sym (ap (λ b. cond b (spanned at d) d) n))
      (subst (IsTold d) (sym (settled_alike k cs c _ (places x.end (starts (place_of x) (production k) (saids cs)) cs) n)) (l.told f (Expr 1) refl));
  moved = λ e. cc;
}

parens_place : {d : Told} {cs : Forest} {x y : Here} {at : Option Span} → IsPlaced d (node (expression Parenthesized) cs) x y → Spans at (next_of x) (end_of y) → IsPlacedAs true (spanned at d) (node (expression Parenthesized) cs) x y
parens_place {d} {cs} {x} {y} {at} l s =
    let t : Tree = node (expression Parenthesized) cs in
    let ms = spelled t in
    let lo : next_of x ≡ x.end - size (from_first ms x.rest) = ap (λ v. x.end - size v) (sym (first_is ms l.begins x.rest)) in
    let hi : is_found (scan (place_of x) ms) ≡ true → end_of y ≡ x.end - size (rest_at (scan (place_of x) ms)) = λ f. (λ i. l.same i - size (rest_at (sym (l.leads f) i))) in
    record {
      same = l.same;
      begins = l.begins;
      leads = l.leads;
      told = λ f c i. subst (λ q. IsTold (spanned at d) (placed x.end (start q false (place_of x ∷ [])) t)) (sym (argument_is c i))
          (subst (IsTold (spanned at d)) (sym (parens_within _ (places x.end (starts (place_of x) (production (expression Parenthesized)) (saids cs)) cs)))
          (l.moved refl f (Expr 1) refl _ _ _ at (is_there (x.end - size (from_first ms x.rest)) (x.end - size (from_second ms (place_of x))) s lo (hi f)).0));
      moved = λ e. cc;
    }

pub argument_placed : {d : Told} (t : Tree) {x y : Here} (at : Option Span) → ((ts : Forest) → t ≡ list ts → ⊥) → IsPlaced d t x y → Spans at (next_of x) (end_of y) → IsPlacedAs true (as_argument t at d) t x y
argument_placed (leaf k u) at n l s = record { same = l.same; begins = l.begins; leads = l.leads; told = λ f c i. l.told f (Expr 1) refl; moved = λ e. cc }
argument_placed (list ts) at n l s = absurd (n ts refl)
argument_placed (node (expression Parenthesized) cs) at n l s = parens_place l s
argument_placed (node k cs) at n l s = own_place at refl l

-- a spread stands where it stands elsewhere
pub spread_argument : {d : Told} {t : Tree} {ts : Forest} {x y : Here} → t ≡ node (expression Spread) ts → IsPlaced d t x y → IsPlacedAs true d t x y
spread_argument {d} {t} {ts} {x} {y} e l = subst (λ u. IsPlacedAs true d u x y) (sym e) (own_place None refl (subst (λ u. IsPlaced d u x y) e l))
