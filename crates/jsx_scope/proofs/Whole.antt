-- What the walk of a program says of it.
use Rattle.std.proofs.Common.{◌≡◌, false, Result, sym, ap, ◌∙◌, subst}
use Rattle.std.specs.Prelude.{OnOk, IsTrue}
use Rattle.std.proofs.lemmas.Bool.{and_parts}
use Rattle.std.proofs.lemmas.Result.{on_ok_weaker}
use Rattle.jsx_tree.specs.declared.text.Goal.{Goal}
use Rattle.jsx_tree.specs.Kinds.{Tree}
use Rattle.jsx_tree.specs.Fits.{fits}
use Rattle.jsx_tree.specs.Normal.{nf, laid_tree}
use Rattle.jsx_tree.specs.Parentheses.{parenthesise}
use Rattle.jsx_tree.specs.Program.{is_goal}
use Rattle.jsx_tree.specs.Sound.{formed, lawful, is_sound}
use Rattle.jsx_tree.specs.StaticRules.{outside}
use Rattle.jsx_tree.proofs.Parentheses.Programs.{dressed_fits, dressed_goal}
use Rattle.jsx_tree.proofs.Parentheses.NormalForms.{parenthesise_same}
use Rattle.jsx_scope.specs.declared.place.Place.TheVariants as place
use Rattle.jsx_scope.specs.Walk.{walk}
use Rattle.jsx_scope.proofs.SameWalk.{walked_once}

pub walked_pairs : {T E : Type 0} (r : Result T E) (t u : Tree) → OnOk r (u ≡ walk (place.Level 0) false t) → IsTrue (formed t) → OnOk r (u ≡ parenthesise t)
walked_pairs r t u k h = on_ok_weaker {P = u ≡ walk (place.Level 0) false t} {Q = u ≡ parenthesise t} r (λ e. e ∙ sym (walked_once t h)) k

pub walked_fits : {T E : Type 0} (r : Result T E) (t u : Tree) → OnOk r (u ≡ walk (place.Level 0) false t) → IsTrue (is_sound t) → OnOk r (IsTrue (fits u))
walked_fits r t u k h =
    on_ok_weaker {P = u ≡ parenthesise t} {Q = IsTrue (fits u)} r (λ e. subst (λ x. IsTrue (fits x)) (sym e) (dressed_fits t h)) (walked_pairs r t u k (and_parts (formed t) (lawful outside (laid_tree t)) h).0)

pub walked_goal : {T E : Type 0} (r : Result T E) (g : Goal) (t u : Tree) → OnOk r (u ≡ walk (place.Level 0) false t) → IsTrue (formed t) → IsTrue (is_goal g t) → OnOk r (IsTrue (is_goal g u))
walked_goal r g t u k h i =
    on_ok_weaker {P = u ≡ parenthesise t} {Q = IsTrue (is_goal g u)} r (λ e. subst (λ x. IsTrue (is_goal g x)) (sym e) (dressed_goal g t i)) (walked_pairs r t u k h)

pub walked_same : {T E : Type 0} (r : Result T E) (t u : Tree) → OnOk r (u ≡ walk (place.Level 0) false t) → IsTrue (formed t) → OnOk r (nf u ≡ nf t)
walked_same r t u k h = on_ok_weaker {P = u ≡ parenthesise t} {Q = nf u ≡ nf t} r (λ e. ap nf e ∙ parenthesise_same t) (walked_pairs r t u k h)
