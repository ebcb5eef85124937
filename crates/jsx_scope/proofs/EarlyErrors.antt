-- What is found of the events of a program is what is said of its tree.
use Rattle.std.proofs.Common.{◌≡◌, ℕ, List, refl, sym, ap, ◌∙◌, subst}
use Rattle.std.specs.Prelude.{Result, Ok, Err}
use Rattle.std.specs.Result.{IsErrAnd}
use Rattle.std.proofs.lemmas.Result.{err_from_is_err_and}
use Rattle.jsx_base.specs.Token.{Text}
use Rattle.jsx_tree.specs.declared.text.Goal.{Goal}
use Rattle.jsx_tree.specs.declared.program.Program.{Program}
use Rattle.jsx_tree.specs.Kinds.{Tree}
use Rattle.jsx_tree.specs.Normal.{without_parentheses}
use Rattle.jsx_tree.specs.Spans.{Placed, placed_in}
use Rattle.jsx_tree.specs.Told.{told}
use Rattle.jsx_tree.specs.ViewProgram.{view}
use Rattle.jsx_names.specs.declared.event.Event.{Event}
use Rattle.jsx_names.specs.declared.event.EarlyError.{EarlyError}
use Rattle.jsx_names.specs.declared.event.EarlyError.TheVariants as event
use Rattle.jsx_names.specs.Code.{verdict}
use Rattle.jsx_heard.specs.Early.{Early, IsClean}
use Rattle.jsx_heard.specs.Said.{met_all, of_program}
use Rattle.jsx_heard.proofs.InPlace.{early_in_place}
use Rattle.jsx_scope.specs.declared.early_errors.ScopeError.{ScopeError}
use Rattle.jsx_scope.specs.Early.{IsReadAs, Says, scope_error}

found : {goal : Goal} {from : ℕ} {text : Text} {written : Tree} {program : Program} (es : List Event) → IsReadAs goal from text written program → met_all es ≡ of_program (view program) (told program)
    → Early (without_parentheses written) (placed_in from text written) (verdict es)
found {goal} {from} {text} {written} {program} es is heard =
    subst (λ t. Early t (placed_in from text written) (verdict es)) is.bare (early_in_place goal text from written program es is.reads is.bare is.placed heard)

-- where nothing is amiss
pub none_found : {goal : Goal} {from : ℕ} {text : Text} {written : Tree} {program : Program} (es : List Event) → IsReadAs goal from text written program → met_all es ≡ of_program (view program) (told program)
    → (u : Unit) → Ok u ≡ verdict es → IsClean (without_parentheses written)
none_found {from = from} {text = text} {written = written} es is heard u same = subst (λ r. Early (without_parentheses written) (placed_in from text written) r) (sym same) (found es is heard)

its_error : (t : Tree) (q : Placed) (e : EarlyError) → Early t q (Err e) → Says t q (Err (scope_error e))
its_error t q (event.Scope at) h = h
its_error t q (event.DirectEval at) h = h

-- where the exit of a `?` returns what is
pub one_found : {goal : Goal} {from : ℕ} {text : Text} {written : Tree} {program : Program} (r : Result Unit ScopeError) (e : EarlyError) (es : List Event) → IsReadAs goal from text written program → met_all es ≡ of_program (view program) (told program)
    → Err e ≡ verdict es → IsErrAnd r (λ y. y ≡ scope_error e) → Says (without_parentheses written) (placed_in from text written) r
one_found {goal} {from} {text} {written} {program} r e es is heard same returned =
    let p = err_from_is_err_and r returned in
    subst (λ x. Says (without_parentheses written) (placed_in from text written) x) (sym (p.1 ∙ ap Err p.2))
    (its_error (without_parentheses written) (placed_in from text written) e (subst (λ v. Early (without_parentheses written) (placed_in from text written) v) (sym same) (found es is heard)))
