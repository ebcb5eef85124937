-- What is said of a whole program.
use Rattle.std.proofs.Common.{◌≡◌, List, [], ◌∷◌, ◌++◌, map, ap, sym, ◌∙◌, append-nil, Box, Global}
use Rattle.jsx_tree.specs.declared.program.Item.{Item}
use Rattle.jsx_tree.specs.declared.program.Module as declared_module
use Rattle.jsx_tree.specs.declared.program.Script as declared_script
use Rattle.jsx_tree.specs.declared.program.Program.{Program}
use Rattle.jsx_tree.specs.declared.program.Program.TheVariants as programs
use Rattle.jsx_tree.specs.declared.tree.Stmt.{Stmt}
use Rattle.jsx_tree.specs.Told.{tales, told, told_item, told_stmt}
use Rattle.jsx_tree.specs.View.{inside, forest, view_stmt}
use Rattle.jsx_tree.specs.ViewProgram.{view, view_item}
use Rattle.jsx_names.specs.Events.{Plain, OfModule, OfScript}
use Rattle.jsx_names.specs.declared.event.Event.{Event}
use Rattle.jsx_names.specs.declared.event.Event.TheVariants.{Opens, Closes}
use Rattle.jsx_names.specs.declared.event.Frame.TheVariants as frame
use Rattle.jsx_heard.specs.Said.{Met, met_all, Unnamed, Elsewhere, said_each, of_program, opens, closes}
use Rattle.jsx_heard.proofs.Hearing.{pushed}
use Rattle.jsx_heard.proofs.Outcomes.{enclosed}
use Rattle.jsx_heard.proofs.Saying.{directives_said}

abbrev pub items_met : List Item → List Met
items_met xs = said_each Plain Unnamed Elsewhere (forest (map view_item xs)) (tales (map told_item xs))

abbrev pub stmts_met : List (Box Stmt Global) → List Met
stmts_met xs = said_each Plain Unnamed Elsewhere (forest (map (inside view_stmt) xs)) (tales (map (inside told_stmt) xs))

-- directives, and what is behind them
behind_directives : (a xs : List Met) → a ≡ [] → a ++ (xs ++ []) ≡ xs
behind_directives a xs e = ap (λ z. z ++ (xs ++ [])) e ∙ append-nil xs

pub module_said : (m : declared_module.Module) → of_program (view (programs.Module m)) (told (programs.Module m)) ≡ opens OfModule ∷ (items_met m.body.items ++ closes ∷ [])
module_said m = ap (λ z. opens OfModule ∷ (z ++ closes ∷ [])) (behind_directives _ (items_met m.body.items) (directives_said Plain Unnamed Elsewhere m.directives.items))

pub script_said : (m : declared_script.Script) → of_program (view (programs.Script m)) (told (programs.Script m)) ≡ opens OfScript ∷ (stmts_met m.body.items ++ closes ∷ [])
script_said m = ap (λ z. opens OfScript ∷ (z ++ closes ∷ [])) (behind_directives _ (stmts_met m.body.items) (directives_said Plain Unnamed Elsewhere m.directives.items))

pub module_there : (p : Program) (m : declared_module.Module) (is : List Item) (old a b new : List Event) → p ≡ programs.Module m → is ≡ m.body.items →
    a ≡ old ++ Opens frame.Module ∷ [] → met_all b ≡ met_all a ++ items_met is → new ≡ b ++ Closes ∷ [] → met_all new ≡ met_all old ++ of_program (view p) (told p)
module_there p m is old a b new at items begin within end =
    enclosed OfModule (met_all old) (met_all a) (met_all b) (met_all new) (items_met is) (pushed old a (Opens frame.Module) begin) within (pushed b new Closes end)
    ∙ ap (λ z. met_all old ++ z) (ap (λ xs. opens OfModule ∷ (items_met xs ++ closes ∷ [])) items ∙ sym (ap (λ q. of_program (view q) (told q)) at ∙ module_said m))

pub script_there : (p : Program) (m : declared_script.Script) (ss : List (Box Stmt Global)) (old a b new : List Event) → p ≡ programs.Script m → ss ≡ m.body.items →
    a ≡ old ++ Opens frame.Script ∷ [] → met_all b ≡ met_all a ++ stmts_met ss → new ≡ b ++ Closes ∷ [] → met_all new ≡ met_all old ++ of_program (view p) (told p)
script_there p m ss old a b new at items begin within end =
    enclosed OfScript (met_all old) (met_all a) (met_all b) (met_all new) (stmts_met ss) (pushed old a (Opens frame.Script) begin) within (pushed b new Closes end)
    ∙ ap (λ z. met_all old ++ z) (ap (λ xs. opens OfScript ∷ (stmts_met xs ++ closes ∷ [])) items ∙ sym (ap (λ q. of_program (view q) (told q)) at ∙ script_said m))
