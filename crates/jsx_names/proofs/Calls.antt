-- The direct calls of `eval` among the events of a tree.
use Rattle.std.proofs.Common.{◌≡◌, List, [], ◌∷◌, ◌++◌, Bool, true, false, refl, ap, ◌∙◌, append-nil}
use Rattle.jsx_tree.specs.Scopes.{Path}
use Rattle.jsx_tree.specs.Clashes.{Export}
use Rattle.jsx_names.specs.Events.{Frame, Event, Opens, Enters, Closes, Declares, Refers, Exports, Wants, Evals, around, exported, wanted, called}
use Rattle.jsx_names.specs.Answers.{evals_in}

pub evals_append : (es fs : List Event) → evals_in (es ++ fs) ≡ evals_in es ++ evals_in fs
evals_append [] fs = refl
evals_append (Evals p ∷ es) fs = ap (λ z. p ∷ z) (evals_append es fs)
evals_append (Opens f p ∷ es) fs = evals_append es fs
evals_append (Enters ∷ es) fs = evals_append es fs
evals_append (Closes ∷ es) fs = evals_append es fs
evals_append (Declares h r t p ∷ es) fs = evals_append es fs
evals_append (Refers t p ∷ es) fs = evals_append es fs
evals_append (Exports t a ∷ es) fs = evals_append es fs
evals_append (Wants t a ∷ es) fs = evals_append es fs

pub evals_around : (b : Bool) (f : Frame) (p : Path) (es : List Event) → evals_in (around b f p es) ≡ evals_in es
evals_around true f p es = evals_append es (Closes ∷ []) ∙ append-nil (evals_in es)
evals_around false f p es = refl

pub evals_wanted : (xs : List Export) → evals_in (wanted xs) ≡ []
evals_wanted [] = refl
evals_wanted (x ∷ xs) = evals_wanted xs

pub evals_exported : (xs : List Export) → evals_in (exported xs) ≡ []
evals_exported [] = refl
evals_exported (x ∷ xs) = evals_exported xs

pub evals_called : (ps : List Path) → evals_in (called ps) ≡ ps
evals_called [] = refl
evals_called (p ∷ ps) = ap (λ z. p ∷ z) (evals_called ps)
