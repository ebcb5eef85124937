-- What the loops over a list of events keep.
use Rattle.std.proofs.Common.{◌≡◌, ◌<◌, ◌≤◌, ◌+◌, ℕ, suc, List, [], ◌∷◌, ◌++◌, length, drop, get_or, Bool, true, false, refl, sym, ap, ◌∙◌, arith, add-one, drop-cons, subst}
use Rattle.std.specs.Prelude.{cond, Some, None}
use Rattle.std.proofs.lemmas.Grind.{common_steps}
use Rattle.std.specs.BTreeSet.{BTreeSet, IsEmpty}
use denote.Ref.{Bor}
use Rattle.jsx_base.specs.Token.{Text}
use Rattle.jsx_names.specs.Code.{plain, plain_all}
use Rattle.jsx_names.specs.Faults.{again, exporting, is_again, first}
use Rattle.jsx_names.specs.Ends.{IsClosed, ends_of}
use Rattle.jsx_names.specs.Tables.{Has}
use Rattle.jsx_names.specs.declared.event.Event.{Event}

-- up to event i no name was exported again
pub record NoneAgain (es : List Event) (i : ℕ) (s : BTreeSet (Bor (List ℕ))) : Type 0 where
  pub names : List Text
  pub has : Has s names
  pub left : first (again 0 [] (plain_all es)) ≡ first (again i names (plain_all (drop i es)))

pub no_names : (s : BTreeSet (Bor (List ℕ))) → IsEmpty s → Has s []
no_names s e = λ w u. rw e refl

pub again_begins : (es : List Event) (s : BTreeSet (Bor (List ℕ))) → IsEmpty s → NoneAgain es 0 s
again_begins es s e = record { names = []; has = no_names s e; left = refl }

again_at : (es : List Event) (i : ℕ) (us : List Text) (d : Event) (b : Bool) → i < length es → b ≡ is_again us (plain (get_or es i d)) →
    again i us (plain_all (drop i es)) ≡ cond b (i ∷ []) [] ++ again (suc i) (exporting us (plain (get_or es i d))) (plain_all (drop (suc i) es))
again_at es i us d b l e = ap (λ z. again i us (plain_all z)) (drop-cons es i d l) ∙ ap (λ z. cond z (i ∷ []) [] ++ again (suc i) (exporting us (plain (get_or es i d))) (plain_all (drop (suc i) es))) (sym e)

pub again_goes_on : (es : List Event) (i : ℕ) (s t : BTreeSet (Bor (List ℕ))) (d : Event) (b : Bool) → i < length es → (h : NoneAgain es i s) →
    b ≡ is_again h.names (plain (get_or es i d)) → b ≡ false → Has t (exporting h.names (plain (get_or es i d))) → NoneAgain es (i + 1) t
again_goes_on es i s t d b l h e n k = subst (λ z. NoneAgain es z t) (sym (add-one i)) (record {
  names = exporting h.names (plain (get_or es i d));
  has = k;
  left = h.left ∙ ap first (again_at es i h.names d false l (sym n ∙ e));
})

pub again_found : (es : List Event) (i : ℕ) (s : BTreeSet (Bor (List ℕ))) (d : Event) (b : Bool) → i < length es → (h : NoneAgain es i s) →
    b ≡ is_again h.names (plain (get_or es i d)) → b ≡ true → Some i ≡ first (again 0 [] (plain_all es))
again_found es i s d b l h e n = sym (h.left ∙ ap first (again_at es i h.names d true l (sym n ∙ e)))

pub past_end : (es : List Event) (i : ℕ) → length es ≤ i → drop i es ≡ []
past_end es i l = grind (arith, common_steps)

pub again_ends : (es : List Event) (i : ℕ) (s : BTreeSet (Bor (List ℕ))) → length es ≤ i → NoneAgain es i s → None ≡ first (again 0 [] (plain_all es))
again_ends es i s l h = sym (h.left ∙ ap (λ z. first (again i h.names (plain_all z))) (past_end es i l))

-- the ends of the scopes that begin at event i or behind it, and of those around
pub record Ending (es : List Event) (i : ℕ) (ends closed : List ℕ) : Type 0 where
  pub most : i ≤ length es
  pub begun : ends ≡ ends_of i (plain_all (drop i es))
  pub around : IsClosed closed (length es) i (plain_all (drop i es))
