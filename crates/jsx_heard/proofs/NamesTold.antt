-- A program tells the texts of the names that it exports.
use Rattle.std.proofs.Common.{◌≡◌, List, [], ◌∷◌, Bool, true, false, refl, sym, ap, ◌∙◌, map, Option, Some, None, Box, Global}
use Rattle.std.specs.Prelude.{not, ◌&&◌, ◌||◌}
use Rattle.jsx_tree.specs.Kinds.{Role, Exported, From, Tree, leaf, node, list}
use Rattle.jsx_tree.specs.Form.{positions}
use Rattle.jsx_tree.specs.Spans.{Told, tells}
use Rattle.jsx_tree.specs.Told.{tales, told_item, told_specifier, told_stmt, told}
use Rattle.jsx_tree.specs.View.{Owner, clause, forest, view_stmt, view_control, access_step, control_step, expr_step, jsx_step, key_step, link_step, operation_step, pat_step, prop_step, stmt_step}
use Rattle.jsx_tree.specs.ViewProgram.{view_specifier, view_item, view}
use Rattle.jsx_tree.specs.declared.program.Specifier.{Specifier}
use Rattle.jsx_tree.specs.declared.program.Specifier.TheVariants as specifier
use Rattle.jsx_tree.specs.declared.program.Item.{Item}
use Rattle.jsx_tree.specs.declared.program.Item.TheVariants as item
use Rattle.jsx_tree.specs.declared.program.Program.{Program}
use Rattle.jsx_tree.specs.declared.program.Program.TheVariants as programs
use Rattle.jsx_tree.specs.declared.tree.Expr.{Expr}
use Rattle.jsx_tree.specs.declared.tree.Operation.{Operation}
use Rattle.jsx_tree.specs.declared.tree.Access.{Access}
use Rattle.jsx_tree.specs.declared.tree.Jsx.{Jsx}
use Rattle.jsx_tree.specs.declared.tree.Key.{Key}
use Rattle.jsx_tree.specs.declared.tree.Link.{Link}
use Rattle.jsx_tree.specs.declared.tree.Pat.{Pat}
use Rattle.jsx_tree.specs.declared.tree.Prop.{Prop}
use Rattle.jsx_tree.specs.declared.tree.Stmt.{Stmt}
use Rattle.jsx_tree.specs.declared.tree.Stmt.TheVariants as stmt
use Rattle.jsx_tree.specs.declared.tree.Control.{Control}
use Rattle.jsx_tree.specs.declared.tree.Access.TheOpen.{Control-F, Stmt-F}
use Rattle.jsx_tree.specs.declared.tree.Access.TheViews.{roll-Stmt, out-Stmt, roll-out-Stmt}
use Rattle.jsx_tree.specs.declared.tree.Access.TheFolds.{fold_out-Control}
use Rattle.jsx_tree.proofs.Tokens.{and_both}
use Rattle.jsx_tree.proofs.Views.{view-Stmt-Block, view-Stmt-Var, view-Stmt-Empty, view-Stmt-Expr, view-Stmt-Control, view-Stmt-Continue, view-Stmt-Break, view-Stmt-Return, view-Stmt-Throw, view-Stmt-Debugger, view-Stmt-Function, view-Stmt-Class}
use Rattle.jsx_names.proofs.ScopeNames.{never}
use Rattle.jsx_heard.proofs.Shaped.{is_outer}
use Rattle.jsx_heard.proofs.ToldBytes.{own_told}
use Rattle.jsx_heard.proofs.InBytes.{names_told, parts_named, each_named}

-- a tree that exports nothing by itself
abbrev is_inner : Tree → Bool
is_inner (leaf s t) = true
is_inner (node k ts) = not (is_outer k)
is_inner (list ts) = false

inner_told : (t : Tree) (d : Told) → is_inner t ≡ true → names_told t d ≡ true
inner_told (leaf s t) d h = refl
inner_told (node k ts) (tells cs ds) h = by (not (is_outer k)) h
  where
    by : (b : Bool) → b ≡ true → b || (own_told k ds && parts_named (positions k) ts ds) ≡ true
    by true h = refl
    by false h = never h
inner_told (list ts) d h = never h

clause_inner : (e : Option (Box Tree Global)) (u : Tree) → is_inner (clause e u) ≡ true
clause_inner None u = refl
clause_inner (Some e) u = refl

control_step_inner : (x : Control-F Tree Tree Tree Tree Tree Tree Tree (Role → Tree) (Owner → Tree) Tree) → is_inner (control_step x) ≡ true
control_step_inner (Control-F.Case at e ss) = clause_inner e _
control_step_inner _ = refl

control_inner : (c : Control) → is_inner (view_control c) ≡ true
control_inner c = ap is_inner (fold_out-Control Tree Tree Tree Tree Tree Tree Tree (Role → Tree) (Owner → Tree) Tree access_step control_step expr_step jsx_step key_step link_step operation_step pat_step prop_step stmt_step c) ∙ control_step_inner _

rolled_inner : (y : Stmt-F Access Control Expr Jsx Key Link Operation Pat Prop Stmt) → is_inner (view_stmt (roll-Stmt y)) ≡ true
rolled_inner (Stmt-F.Block at ss) = ap (λ e. is_inner (view_stmt e)) (stmt.rolls-Block at ss) ∙ ap is_inner (view-Stmt-Block at ss)
rolled_inner (Stmt-F.Var at w ps) = ap (λ e. is_inner (view_stmt e)) (stmt.rolls-Var at w ps) ∙ ap is_inner (view-Stmt-Var at w ps)
rolled_inner (Stmt-F.Empty at) = ap (λ e. is_inner (view_stmt e)) (stmt.rolls-Empty at) ∙ ap is_inner (view-Stmt-Empty at)
rolled_inner (Stmt-F.Expr at e) = ap (λ e. is_inner (view_stmt e)) (stmt.rolls-Expr at e) ∙ ap is_inner (view-Stmt-Expr at e)
rolled_inner (Stmt-F.Control a) = ap (λ e. is_inner (view_stmt e)) (stmt.rolls-Control a) ∙ ap is_inner (view-Stmt-Control a) ∙ control_inner a
rolled_inner (Stmt-F.Continue at a) = ap (λ e. is_inner (view_stmt e)) (stmt.rolls-Continue at a) ∙ ap is_inner (view-Stmt-Continue at a)
rolled_inner (Stmt-F.Break at a) = ap (λ e. is_inner (view_stmt e)) (stmt.rolls-Break at a) ∙ ap is_inner (view-Stmt-Break at a)
rolled_inner (Stmt-F.Return at e) = ap (λ e. is_inner (view_stmt e)) (stmt.rolls-Return at e) ∙ ap is_inner (view-Stmt-Return at e)
rolled_inner (Stmt-F.Throw at e) = ap (λ e. is_inner (view_stmt e)) (stmt.rolls-Throw at e) ∙ ap is_inner (view-Stmt-Throw at e)
rolled_inner (Stmt-F.Debugger at) = ap (λ e. is_inner (view_stmt e)) (stmt.rolls-Debugger at) ∙ ap is_inner (view-Stmt-Debugger at)
rolled_inner (Stmt-F.«Stmt::Function» at a ps ds ss) = ap (λ e. is_inner (view_stmt e)) (stmt.rolls-Function at a ps ds ss) ∙ ap is_inner (view-Stmt-Function at a ps ds ss)
rolled_inner (Stmt-F.«Stmt::Class» at a e ms) = ap (λ e. is_inner (view_stmt e)) (stmt.rolls-Class at a e ms) ∙ ap is_inner (view-Stmt-Class at a e ms)

stmt_inner : (s : Stmt) → is_inner (view_stmt s) ≡ true
stmt_inner s = ap (λ e. is_inner (view_stmt e)) (sym (roll-out-Stmt s)) ∙ rolled_inner (out-Stmt s)

exported_told : (s : Specifier) → names_told (view_specifier Exported s) (told_specifier s) ≡ true
exported_told (specifier.Same at a) = refl
exported_told (specifier.As at a b) = refl

from_told : (s : Specifier) → names_told (view_specifier From s) (told_specifier s) ≡ true
from_told (specifier.Same at a) = refl
from_told (specifier.As at a b) = refl

all_exported : (ss : List Specifier) → each_named (forest (map (view_specifier Exported) ss)) (tales (map told_specifier ss)) ≡ true
all_exported [] = refl
all_exported (s ∷ ss) = and_both (names_told (view_specifier Exported s) (told_specifier s)) (each_named (forest (map (view_specifier Exported) ss)) (tales (map told_specifier ss))) (exported_told s) (all_exported ss)

all_from : (ss : List Specifier) → each_named (forest (map (view_specifier From) ss)) (tales (map told_specifier ss)) ≡ true
all_from [] = refl
all_from (s ∷ ss) = and_both (names_told (view_specifier From s) (told_specifier s)) (each_named (forest (map (view_specifier From) ss)) (tales (map told_specifier ss))) (from_told s) (all_from ss)

item_told : (i : Item) → names_told (view_item i) (told_item i) ≡ true
item_told (item.Stmt s) = inner_told (view_stmt s.value) (told_stmt s.value) (stmt_inner s.value)
item_told (item.ImportBare at a) = refl
item_told (item.Import at c a) = refl
item_told (item.ExportNames at ss) = ap (λ z. z && true) (all_exported ss.items)
item_told (item.ExportFrom at ss a) = ap (λ z. z && true) (all_from ss.items)
item_told (item.ExportAll at a) = refl
item_told (item.ExportAllAs at a b) = refl
item_told (item.ExportDecl at s) = refl
item_told (item.ExportDefaultFn at b a ps ds ss) = refl
item_told (item.ExportDefaultClass at b c) = refl
item_told (item.ExportDefaultExpr at b e) = refl

all_items : (is : List Item) → each_named (forest (map view_item is)) (tales (map told_item is)) ≡ true
all_items [] = refl
all_items (i ∷ is) = and_both (names_told (view_item i) (told_item i)) (each_named (forest (map view_item is)) (tales (map told_item is))) (item_told i) (all_items is)

pub program_told : (p : Program) → names_told (view p) (told p) ≡ true
program_told (programs.Module m) = ap (λ z. z && true) (all_items m.body.items)
program_told (programs.Script m) = refl
