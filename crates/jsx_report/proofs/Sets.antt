-- Putting a report or a code into a set, by what is seen of it.
use Rattle.std.proofs.Common.{◌≡◌, Bool, true, false, List, [], ◌∷◌, ◌++◌, map, refl, ap, ◌∙◌}
use Rattle.std.specs.Prelude.{if◌then◌else◌}
use Rattle.std.specs.List.{list_any}
use Rattle.std.proofs.lemmas.List.{map-append}
use Rattle.indexmap.specs.IndexSet.{insert_key}
use Rattle.jsx_diag.specs.declared.diagnostic.DiagnosticId.{DiagnosticId}
use Rattle.jsx_diag.specs.declared.diagnostic.Diagnostic.{Diagnostic}
use Rattle.jsx_diag.specs.Data.{code_of, report_of}
use Rattle.jsx_diag.specs.contracts.diagnostic.DiagnosticIdPartialEq.TheImpl as code
use Rattle.jsx_diag.specs.contracts.diagnostic.DiagnosticPartialEq.TheImpl as report
use Rattle.jsx_report.proofs.Equality.{any_report, any_code}
use Rattle.jsx_report.specs.Books.{knows_report, with_code}

map_added : {X Y : Type 0} (f : X → Y) (b : Bool) (xs : List X) (x : X) → map f (if b then xs else xs ++ x ∷ []) ≡ if b then map f xs else map f xs ++ f x ∷ []
map_added f true xs x = refl
map_added f false xs x = map-append f xs (x ∷ [])

pub new_report_added : (it : Diagnostic) (reports : List Diagnostic) → knows_report (map report_of reports) (report_of it) ≡ false → map report_of (insert_key report.eq-value.it reports it) ≡ map report_of reports ++ report_of it ∷ []
new_report_added it reports new =
    map_added report_of (list_any (report.eq-value.it it) reports) reports it
    ∙ ap (λ (b : Bool). if b then map report_of reports else map report_of reports ++ report_of it ∷ []) (any_report it reports ∙ new)

pub code_added : (it : DiagnosticId) (codes : List DiagnosticId) → map code_of (insert_key code.eq-value.it codes it) ≡ with_code (map code_of codes) (code_of it)
code_added it codes =
    map_added code_of (list_any (code.eq-value.it it) codes) codes it
    ∙ ap (λ (b : Bool). if b then map code_of codes else map code_of codes ++ code_of it ∷ []) (any_code it codes)
