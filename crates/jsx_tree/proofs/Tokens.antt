-- Each token is read in one way.
use Rattle.std.proofs.Common.{◌≡◌, Bool, true, false, List, [], ◌∷◌, refl, sym, ◌∙◌, subst}
use Rattle.std.specs.Prelude.{◌&&◌, IsTrue}
use Rattle.std.proofs.lemmas.Bool.{eqb-true, eq-eqb}
use Rattle.jsx_base.specs.Token.{Text, Mode, TokenKind, token, same}
use Rattle.jsx_tree.specs.Signs.{Sign, Tok}
use Rattle.jsx_tree.specs.Reading.{Place, Lost, At, forth, scan, go_if}
use Rattle.jsx_tree.proofs.Laws.{scan_lost}
use Rattle.jsx_tree.specs.Walk.{is_found}

pub and_left : (a b : Bool) → (a && b) ≡ true → a ≡ true
and_left true b e = refl
and_left false b e = cc

pub and_right : (a b : Bool) → (a && b) ≡ true → b ≡ true
and_right true b e = e
and_right false b e = cc

pub and_both : (a b : Bool) → a ≡ true → b ≡ true → (a && b) ≡ true
and_both true b e f = f
and_both false b e f = cc

pub same_is : (s t : Text) → same s t ≡ true → s ≡ t
same_is [] [] e = refl
same_is [] (c ∷ t) e = cc
same_is (b ∷ s) [] e = cc
same_is (b ∷ s) (c ∷ t) e = (λ i. eqb-true b c (and_left _ _ e) i ∷ same_is s t (and_right _ _ e) i)

pub same_self : (t : Text) → same t t ≡ true
same_self [] = refl
same_self (c ∷ t) = and_both _ _ (eq-eqb c c refl) (same_self t)

found_if : (b : Bool) (x : Place) → IsTrue (is_found (go_if b x)) → b ≡ true
found_if true x e = refl
found_if false x e = cc

-- two texts of one kind of token at one place
pub one_text : (m : Mode) (k : TokenKind) (t u : Text) (x : Place) → IsTrue (is_found (forth (Tok m k t) x)) → IsTrue (is_found (forth (Tok m k u) x)) → t ≡ u
one_text m k t u Lost a b = cc
one_text m k t u (At q e text) a b =
    let l = token m (same q []) text in
    sym (same_is l.raw t (and_right _ _ (found_if _ _ a))) ∙ same_is l.raw u (and_right _ _ (found_if _ _ b))

-- what isn't found stays so
pub found_before : (s : Sign) (x : Place) → IsTrue (is_found (forth s x)) → IsTrue (is_found x)
found_before s (At q e text) f = refl
found_before s Lost f = subst (λ x. IsTrue (is_found x)) (scan_lost (s ∷ [])) f

pub found_first : (ms : List Sign) (x : Place) → IsTrue (is_found (scan x ms)) → IsTrue (is_found x)
found_first [] x f = f
found_first (m ∷ ms) x f = found_before m x (found_first ms (forth m x) f)
