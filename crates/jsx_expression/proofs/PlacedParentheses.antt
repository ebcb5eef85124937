-- The places of parentheses.
use Rattle.std.proofs.Common.{◌≡◌, true, false, [], ◌∷◌, ◌++◌, refl, sym, subst}
use Rattle.std.specs.Prelude.{codes}
use Rattle.jsx_tree.specs.Signs.{Unless, End}
use Rattle.jsx_tree.specs.Kinds.{Parenthesized, expression, Tree, node, none, part}
use Rattle.jsx_tree.specs.Nonterminals.{Nonterminal, Argument, Expr}
use Rattle.jsx_tree.specs.Grammar.{pun, production}
use Rattle.jsx_tree.specs.Spelling.{spelled}
use Rattle.jsx_tree.specs.Reading.{forth, scan}
use Rattle.jsx_tree.specs.Spans.{Extent, extent, in_parens, Placed, start, placed, within, Told, no_tales, tale, IsTold}
use Rattle.jsx_tree.specs.Walk.{is_found}
use Rattle.jsx_tree.proofs.Laws.{scan_append}
use Rattle.jsx_tree.proofs.Tokens.{found_first}
use Rattle.jsx_token.specs.Here.{Here, place_of, sign_of}
use Rattle.jsx_token.specs.declared.lexer.Fixed.TheVariants as fixed
use Rattle.jsx_operand.specs.Spans.{is_argument, spanned, IsPlaced, IsPlacedRow}
use Rattle.jsx_token.specs.Places.{Takes}
use Rattle.jsx_operand.proofs.Placing.{row_end, row_sign, row_quiet, row_unless, row_part}

elsewhere : (c : Nonterminal) (e : Extent) (p : Placed) → is_argument c ≡ false → in_parens c e p ≡ p
elsewhere Argument e p i = cc
elsewhere c e p i = refl

paren_row : {d : Told} {u : Tree} {w x y z : Here} → Takes (pun "(") w x → IsPlaced d u x y → Takes (sign_of fixed.Close) y z → IsPlacedRow (production (expression Parenthesized)) (tale d no_tales) (part u none) w z
paren_row sign l close = row_quiet (λ q. refl) (row_sign sign (row_part l (row_sign close (row_unless row_end))))

-- what stands in them is told of them
pub paren_placed : {d : Told} {u : Tree} {w x y z : Here} → Takes (pun "(") w x → IsPlaced d u x y → Takes (sign_of fixed.Close) y z → IsPlaced d (node (expression Parenthesized) (part u none)) w z
paren_placed {d} {u} {w} {x} {y} {z} sign l close =
    let r = paren_row sign l close in
    let ms = pun ")" ∷ Unless (codes "=>" ∷ []) ∷ End ∷ [] in
    let inside : is_found (scan (forth (pun "(") (place_of w)) (spelled u ++ ms)) ≡ true → is_found (scan (place_of x) (spelled u)) ≡ true =
    λ f. found_first ms (scan (place_of x) (spelled u)) (subst (λ q. is_found q ≡ true) (scan_append (place_of x) (spelled u) ms) (subst (λ q. is_found (scan q (spelled u ++ ms)) ≡ true) sign.leads f)) in
    record {
      same = r.same;
      begins = λ ns text. refl;
      leads = r.leads;
      told = λ f c i. subst (IsTold d) (sym (elsewhere c _ _ i)) (r.told f).0;
      moved = λ e f c i lo next hi at h. subst (λ q. IsTold (spanned at d) (within (extent lo next hi) q)) (sym (elsewhere c _ _ i))
          (subst (λ n. IsTold (spanned at d) (within (extent lo next hi) (placed n (start (Expr 0) false (forth (pun "(") (place_of w) ∷ [])) u))) sign.same
          (subst (λ q. IsTold (spanned at d) (within (extent lo next hi) (placed x.end (start (Expr 0) false (q ∷ [])) u))) (sym sign.leads) (l.moved refl (inside f) (Expr 0) refl lo next hi at h)));
    }
