-- The items of a module, walked.
use Rattle.std.proofs.Common.{◌≡◌, List, [], ◌∷◌, map, Bool, true, false, refl, ap, sym, ◌∙◌, subst, Option, Vec, Global, ◌⊎◌, inl, inr}
use Rattle.std.proofs.lemmas.Bool.{false≢true}
use Rattle.jsx_base.specs.declared.place.Span.{Span}
use Rattle.jsx_tree.specs.declared.program.Item.{Item}
use Rattle.jsx_tree.specs.declared.program.Item.TheVariants as item
use Rattle.jsx_tree.specs.declared.text.Text.{Text}
use Rattle.jsx_tree.specs.Kinds.{Import, ExportNames, ExportFrom, Side, Imported, Exported, From, ImportList, ImportBoth, ExportDefaultFn, Module, Script, FunctionBody, ForOf, Kind, program, statement, Tree, leaf, node, list, Forest, none, part}
use Rattle.jsx_tree.specs.Parentheses.{special}
use Rattle.jsx_tree.specs.declared.program.Specifier as declared
use Rattle.jsx_tree.specs.declared.program.Specifier.TheVariants as specifier
use Rattle.jsx_tree.specs.declared.program.ImportClause.{ImportClause}
use Rattle.jsx_tree.specs.declared.program.ImportClause.TheVariants as import_clause
use Rattle.jsx_tree.specs.declared.program.ImportNames.{ImportNames}
use Rattle.jsx_tree.specs.declared.program.ImportNames.TheVariants as import_names
use Rattle.jsx_tree.specs.declared.tree.Stmt.{Stmt}
use Rattle.jsx_tree.specs.View.{name_of, forest, view_stmt}
use Rattle.jsx_tree.specs.ViewProgram.{source_of, view_specifier, view_import_names, view_import_clause, view_item}
use Rattle.jsx_scope.specs.declared.place.Place.TheVariants as place
use Rattle.jsx_scope.specs.OneWalk.{paired, below}
use Rattle.jsx_scope.specs.Walk.{Enclosed, spots, due, walk, walks, walk_each, but_export, with_export}
use Rattle.jsx_scope.proofs.Inner.{code_row}
use Rattle.jsx_scope.proofs.Layers.{is_statement, stmt_root}
use Rattle.jsx_scope.proofs.Walks.{views, directives_stay}

specifier_stays : (s : Side) (x : declared.Specifier) → walk (place.Level 0) false (view_specifier s x) ≡ view_specifier s x
specifier_stays Imported (specifier.Same at a) = refl
specifier_stays Imported (specifier.As at a b) = refl
specifier_stays Exported (specifier.Same at a) = refl
specifier_stays Exported (specifier.As at a b) = refl
specifier_stays From (specifier.Same at a) = refl
specifier_stays From (specifier.As at a b) = refl

pub specifiers_stay : (s : Side) (xs : List declared.Specifier) → walk_each (place.Level 0) false (forest (map (view_specifier s) xs)) ≡ forest (map (view_specifier s) xs)
specifiers_stay s [] = refl
specifiers_stay s (x ∷ xs) =
    ap (λ t. part t (walk_each (place.Level 0) false (forest (map (view_specifier s) xs)))) (specifier_stays s x) ∙ ap (part (view_specifier s x)) (specifiers_stay s xs)

names_stay : (n : ImportNames) → walk (place.Level 0) false (view_import_names n) ≡ view_import_names n
names_stay (import_names.All at a) = refl
names_stay (import_names.List at ss) = ap (λ us. node (program ImportList) (part (list us) none)) (specifiers_stay Imported ss.items)

pub clause_stays : (c : ImportClause) → walk (place.Level 0) false (view_import_clause c) ≡ view_import_clause c
clause_stays (import_clause.Default a) = refl
clause_stays (import_clause.Names a) = names_stay a
clause_stays (import_clause.Both at a b) = ap (λ t. node (program ImportBoth) (part (name_of a) (part t none))) (names_stay b)

-- ---- a function that is the default export, whose parts are walked one by one

statement_but : (t : Tree) → is_statement t ≡ true → but_export t ≡ walk (place.Level 0) false t
statement_but (node (statement k) cs) h = refl
statement_but (node (program k) cs) h = absurd (false≢true h)
statement_but (node k cs) h = absurd (false≢true h)
statement_but (leaf s x) h = absurd (false≢true h)
statement_but (list ts) h = absurd (false≢true h)

statement_with : (t : Tree) → is_statement t ≡ true → with_export t ≡ t
statement_with (node (statement k) cs) h = refl
statement_with (node (program k) cs) h = absurd (false≢true h)
statement_with (node k cs) h = absurd (false≢true h)
statement_with (leaf s x) h = absurd (false≢true h)
statement_with (list ts) h = absurd (false≢true h)

pub stmt_but : (s : Stmt) → but_export (view_stmt s) ≡ walk (place.Level 0) false (view_stmt s)
stmt_but s = statement_but (view_stmt s) (stmt_root s)

pub stmt_with : (s : Stmt) → with_export (view_stmt s) ≡ view_stmt s
stmt_with s = statement_with (view_stmt s) (stmt_root s)

with_paired : (v : Bool) (k : Kind) (cs : Forest) → with_export (special k cs) ≡ special k cs → with_export (paired v (special k cs)) ≡ paired v (special k cs)
with_paired true k cs h = refl
with_paired false k cs h = h

with_walk : (k : Kind) (cs : Forest) → with_export (special k cs) ≡ special k cs → with_export (paired (due (place.Level 0) false (node k cs)) (special k cs)) ≡ paired (due (place.Level 0) false (node k cs)) (special k cs)
with_walk k cs h = with_paired (due (place.Level 0) false (node k cs)) k cs h

pub export_inner : (t : Tree) → with_export (but_export t) ≡ walk (place.Level 0) false t
export_inner (leaf s x) = refl
export_inner (list ts) = refl
export_inner (node (program ExportDefaultFn) cs) = ap (node (program ExportDefaultFn)) (code_row false (place.Level 0) (place.Level 0) Enclosed cs)
export_inner (node (program Module) cs) = with_paired (due (place.Level 0) false (node (program Module) cs)) (program Module) (walks (below (due (place.Level 0) false (node (program Module) cs)) false) (spots (program Module)) cs) refl
export_inner (node (program Script) cs) = with_paired (due (place.Level 0) false (node (program Script) cs)) (program Script) (walks (below (due (place.Level 0) false (node (program Script) cs)) false) (spots (program Script)) cs) refl
export_inner (node (program FunctionBody) cs) = with_paired (due (place.Level 0) false (node (program FunctionBody) cs)) (program FunctionBody) (walks (below (due (place.Level 0) false (node (program FunctionBody) cs)) false) (spots (program FunctionBody)) cs) refl
export_inner (node (statement ForOf) cs) = with_paired (due (place.Level 0) false (node (statement ForOf) cs)) (statement ForOf) (walks (below (due (place.Level 0) false (node (statement ForOf) cs)) false) (spots (statement ForOf)) cs) refl
export_inner (node k cs) = with_paired (due (place.Level 0) false (node k cs)) k (walks (below (due (place.Level 0) false (node k cs)) false) (spots k) cs) refl

-- items of specifiers stay
pub names_but : (i : Item) (at : Option Span) (ss : Vec declared.Specifier Global) → i ≡ item.ExportNames at ss → view_item i ≡ but_export (view_item i)
names_but i at ss is = subst (λ j. view_item j ≡ but_export (view_item j)) (sym is) (sym (ap (λ (us : Forest). node (program ExportNames) (part (list us) none)) (specifiers_stay Exported ss.items)))

pub from_but : (i : Item) (at : Option Span) (ss : Vec declared.Specifier Global) (a : Text) → i ≡ item.ExportFrom at ss a → view_item i ≡ but_export (view_item i)
from_but i at ss a is = subst (λ j. view_item j ≡ but_export (view_item j)) (sym is) (sym (ap (λ (us : Forest). node (program ExportFrom) (part (list us) (part (source_of a) none))) (specifiers_stay From ss.items)))

pub clause_but : (i : Item) (at : Option Span) (c : ImportClause) (a : Text) → i ≡ item.Import at c a → view_item i ≡ but_export (view_item i)
clause_but i at c a is = subst (λ j. view_item j ≡ but_export (view_item j)) (sym is) (sym (ap (λ (t : Tree). node (program Import) (part t (part (source_of a) none))) (clause_stays c)))

pub others_but : (i : Item) → ((at : Option Span) × (a : Text) × (i ≡ item.ImportBare at a)) ⊎ (((at : Option Span) × (c : ImportClause) × (a : Text) × (i ≡ item.Import at c a)) ⊎ (((at : Option Span) × (ss : Vec declared.Specifier Global) × (i ≡ item.ExportNames at ss)) ⊎ (((at : Option Span) × (ss : Vec declared.Specifier Global) × (a : Text) × (i ≡ item.ExportFrom at ss a)) ⊎ (((at : Option Span) × (a : Text) × (i ≡ item.ExportAll at a)) ⊎ ((at : Option Span) × (a : Text) × (b : Text) × (i ≡ item.ExportAllAs at a b)))))) → view_item i ≡ but_export (view_item i)
others_but i (inl h) = subst (λ j. view_item j ≡ but_export (view_item j)) (sym h.2) refl
others_but i (inr (inl h)) = clause_but i h.0 h.1 h.2 h.3
others_but i (inr (inr (inl h))) = names_but i h.0 h.1 h.2
others_but i (inr (inr (inr (inl h)))) = from_but i h.0 h.1 h.2 h.3
others_but i (inr (inr (inr (inr (inl h))))) = subst (λ j. view_item j ≡ but_export (view_item j)) (sym h.2) refl
others_but i (inr (inr (inr (inr (inr h))))) = subst (λ j. view_item j ≡ but_export (view_item j)) (sym h.3) refl

pub ruleset items = (views, directives_stay, specifiers_stay, clause_stays, stmt_but, stmt_with)
