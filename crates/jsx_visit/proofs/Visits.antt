-- The views of what a visit leaves.
use Rattle.std.proofs.Common.{◌≡◌, List, [], ◌∷◌, map, Bool, true, false, refl, ap, sym, ◌∙◌, subst, Option, Some, None, Box, Vec, Global}
use Rattle.jsx_base.specs.Token as token
use Rattle.jsx_base.specs.declared.place.Span.{Span}
use Rattle.std.proofs.lemmas.Bool.{false≢true}
use Rattle.jsx_tree.specs.Kinds.{Case, Default, ExportNames, ExportFrom, ImportList, ImportBoth, Side, Imported, Exported, From, Role, FunctionBody, SubstitutedTemplate, Kind, program, statement, function, expression, jsx, Tree, leaf, node, list, Forest, none, part}
use Rattle.jsx_tree.specs.View.{text_of, name_of, optional_of, optional_name, OfObject, OfClass, inside, forest, forest_at, body, directive, template, middle, middles, closing, members_of_object, members_of_class, clause_of, view_expr, view_pattern, view_member, view_stmt}
use Rattle.jsx_tree.specs.ViewProgram.{source_of, view_specifier, view_import_names, view_import_clause, view_item}
use Rattle.jsx_tree.specs.declared.text.Text.{Text}
use Rattle.jsx_tree.specs.declared.text.Ident.{Ident}
use Rattle.jsx_tree.specs.declared.tree.Expr.{Expr}
use Rattle.jsx_tree.specs.declared.tree.Pat.{Pat}
use Rattle.jsx_tree.specs.declared.tree.Prop.{Prop}
use Rattle.jsx_tree.specs.declared.tree.Stmt.{Stmt}
use Rattle.jsx_tree.specs.declared.program.Item.{Item}
use Rattle.jsx_tree.specs.declared.program.Item.TheVariants as item
use Rattle.jsx_tree.specs.declared.program.Specifier as declared
use Rattle.jsx_tree.specs.declared.program.Specifier.TheVariants as specifier
use Rattle.jsx_tree.specs.declared.program.ImportClause.{ImportClause}
use Rattle.jsx_tree.specs.declared.program.ImportClause.TheVariants as import_clause
use Rattle.jsx_tree.specs.declared.program.ImportNames.{ImportNames}
use Rattle.jsx_tree.specs.declared.program.ImportNames.TheVariants as import_names
use Rattle.jsx_tree.proofs.Views as all
use Rattle.jsx_tree.proofs.Telling.{telling}
use Rattle.jsx_visit.specs.Visit.{visited, visiteds, within, changed}
use Rattle.jsx_visit.specs.Parts.{seen_at, member_at, but_code, but_half, with_second, but_export, with_export}
use Rattle.jsx_visit.proofs.Layers.{codes_of, expr_root, root_first, is_statement, stmt_root}

pub visiteds_forest : (f : Kind → Forest → Tree) (ts : List Tree) → visiteds f (forest ts) ≡ forest (map (visited f) ts)
visiteds_forest f [] = refl
visiteds_forest f (t ∷ ts) = ap (part (visited f t)) (visiteds_forest f ts)

pub changed_within : (f : Kind → Forest → Tree) (t : Tree) → changed f (within f t) ≡ visited f t
changed_within f (leaf s t) = refl
changed_within f (node (program k) cs) = refl
changed_within f (node (statement k) cs) = refl
changed_within f (node (function k) cs) = refl
changed_within f (node (expression k) cs) = refl
changed_within f (node (jsx k) cs) = refl
changed_within f (list ts) = refl

pub forest_roles : (r : Role) (ps : List (Box Pat Global)) → forest_at r (map (inside view_pattern) ps) ≡ forest (map (seen_at r) ps)
forest_roles r [] = refl
forest_roles r (p ∷ ps) = ap (part (view_pattern p.value r)) (forest_roles r ps)

pub object_members : (ms : List (Box Prop Global)) → members_of_object (map (inside view_member) ms) ≡ forest (map (member_at OfObject) ms)
object_members [] = refl
object_members (m ∷ ms) = ap (part (view_member m.value OfObject)) (object_members ms)

pub class_members : (ms : List (Box Prop Global)) → members_of_class (map (inside view_member) ms) ≡ forest (map (member_at OfClass) ms)
class_members [] = refl
class_members (m ∷ ms) = ap (part (view_member m.value OfClass)) (class_members ms)

-- names and directives stay
pub name_stays : (f : Kind → Forest → Tree) (a : Option (Box Ident Global)) → visited f (optional_of name_of a) ≡ optional_of name_of a
name_stays f None = refl
name_stays f (Some a) = refl

pub optional_name_stays : (f : Kind → Forest → Tree) (a : Option Ident) → visited f (optional_name a) ≡ optional_name a
optional_name_stays f None = refl
optional_name_stays f (Some a) = refl

pub directives_stay : (f : Kind → Forest → Tree) (ds : List Text) → visiteds f (forest (map directive ds)) ≡ forest (map directive ds)
directives_stay f [] = refl
directives_stay f (d ∷ ds) = ap (part (directive d)) (directives_stay f ds)

pub body_visit : (f : Kind → Forest → Tree) (ds : List Text) (ss : List Tree) → visited f (body ds ss) ≡ body ds (map (visited f) ss)
body_visit f ds ss =
    ap (λ u. node (program FunctionBody) (part (list u) (part (list (visiteds f (forest ss))) none))) (directives_stay f ds)
    ∙ ap (λ u. node (program FunctionBody) (part (list (forest (map directive ds))) (part (list u) none))) (visiteds_forest f ss)

-- what stands in a template
middles_visit : (f : Kind → Forest → Tree) (b : Bool) (ps : List Text) (ts : List Tree) → visiteds f (middles b ps ts) ≡ middles b ps (map (visited f) ts)
middles_visit f b [] [] = refl
middles_visit f b [] (t ∷ ts) = refl
middles_visit f b (p ∷ []) [] = refl
middles_visit f b (p ∷ []) (t ∷ ts) = refl
middles_visit f b (p ∷ q ∷ ps) [] = refl
middles_visit f b (p ∷ q ∷ ps) (t ∷ ts) = ap (part (middle b (visited f t) p)) (middles_visit f b (q ∷ ps) ts)

closing_visit : (f : Kind → Forest → Tree) (ps : List Text) (ts : List Tree) → visiteds f (closing ps ts) ≡ closing ps (map (visited f) ts)
closing_visit f [] [] = refl
closing_visit f [] (t ∷ ts) = refl
closing_visit f (p ∷ []) [] = refl
closing_visit f (p ∷ []) (t ∷ []) = refl
closing_visit f (p ∷ []) (t ∷ u ∷ ts) = closing_visit f [] (u ∷ ts)
closing_visit f (p ∷ q ∷ ps) [] = refl
closing_visit f (p ∷ q ∷ ps) (t ∷ ts) = closing_visit f (q ∷ ps) ts

abbrev headed : Bool → Text → Forest → Tree
headed b p us = node (expression (SubstitutedTemplate b)) (part (leaf token.TemplateHead (text_of p)) us)

parts_visit : (f : Kind → Forest → Tree) (b : Bool) (ps : List Text) (ts : List Tree) → part (list (visiteds f (middles b ps ts))) (visiteds f (closing ps ts)) ≡ part (list (middles b ps (map (visited f) ts))) (closing ps (map (visited f) ts))
parts_visit f b ps ts = ap (λ us. part (list us) (visiteds f (closing ps ts))) (middles_visit f b ps ts) ∙ ap (part (list (middles b ps (map (visited f) ts)))) (closing_visit f ps ts)

pub template_but : (f : Kind → Forest → Tree) (ps : List Text) (ts : List Tree) → but_code f (template false ps ts) ≡ template false ps (map (visited f) ts)
template_but f [] ts = refl
template_but f (p ∷ []) [] = refl
template_but f (p ∷ []) (t ∷ ts) = ap (headed false p) (parts_visit f false [] (t ∷ ts))
template_but f (p ∷ q ∷ ps) ts = ap (headed false p) (parts_visit f false (q ∷ ps) ts)

pub tagged_visit : (f : Kind → Forest → Tree) (ps : List Text) (ts : List Tree) → visited f (template true ps ts) ≡ template true ps (map (visited f) ts)
tagged_visit f [] ts = refl
tagged_visit f (p ∷ []) [] = refl
tagged_visit f (p ∷ []) (t ∷ ts) = ap (headed true p) (parts_visit f true [] (t ∷ ts))
tagged_visit f (p ∷ q ∷ ps) ts = ap (headed true p) (parts_visit f true (q ∷ ps) ts)

pub target_first : (f : Kind → Forest → Tree) (e : Expr) → but_half f (view_expr e) ≡ visited f (view_expr e)
target_first f e = root_first f (view_expr e) (expr_root e)

pub clause_second : (f : Kind → Forest → Tree) (e : Option (Box Expr Global)) (us : List Tree) → with_second f (clause_of view_expr e (list (forest us))) ≡ clause_of view_expr e (list (forest (map (visited f) us)))
clause_second f None us = ap (λ ts. node (statement Default) (part (list ts) none)) (visiteds_forest f us)
clause_second f (Some e) us = ap (λ ts. node (statement Case) (part (view_expr e.value) (part (list ts) none))) (visiteds_forest f us)

pub ruleset visits = (all.views, telling, codes_of, visiteds_forest, changed_within, forest_roles, object_members, class_members, name_stays, optional_name_stays, body_visit, template_but, tagged_visit, target_first)

-- ---- items

specifier_stays : (f : Kind → Forest → Tree) (s : Side) (x : declared.Specifier) → visited f (view_specifier s x) ≡ view_specifier s x
specifier_stays f s (specifier.Same at a) = refl
specifier_stays f s (specifier.As at a b) = refl

pub specifiers_stay : (f : Kind → Forest → Tree) (s : Side) (xs : List declared.Specifier) → visiteds f (forest (map (view_specifier s) xs)) ≡ forest (map (view_specifier s) xs)
specifiers_stay f s [] = refl
specifiers_stay f s (x ∷ xs) =
    ap (λ t. part t (visiteds f (forest (map (view_specifier s) xs)))) (specifier_stays f s x) ∙ ap (part (view_specifier s x)) (specifiers_stay f s xs)

pub names_stay : (f : Kind → Forest → Tree) (n : ImportNames) → visited f (view_import_names n) ≡ view_import_names n
names_stay f (import_names.All at a) = refl
names_stay f (import_names.List at ss) = ap (λ us. node (program ImportList) (part (list us) none)) (specifiers_stay f Imported ss.items)

pub clause_stays : (f : Kind → Forest → Tree) (c : ImportClause) → visited f (view_import_clause c) ≡ view_import_clause c
clause_stays f (import_clause.Default a) = refl
clause_stays f (import_clause.Names a) = names_stay f a
clause_stays f (import_clause.Both at a b) = ap (λ t. node (program ImportBoth) (part (name_of a) (part t none))) (names_stay f b)

statement_but : (f : Kind → Forest → Tree) (t : Tree) → is_statement t ≡ true → but_export f t ≡ visited f t
statement_but f (node (statement k) cs) h = refl
statement_but f (node (program k) cs) h = absurd (false≢true h)
statement_but f (node (function k) cs) h = absurd (false≢true h)
statement_but f (node (expression k) cs) h = absurd (false≢true h)
statement_but f (node (jsx k) cs) h = absurd (false≢true h)
statement_but f (leaf s x) h = absurd (false≢true h)
statement_but f (list ts) h = absurd (false≢true h)

statement_with : (f : Kind → Forest → Tree) (t : Tree) → is_statement t ≡ true → with_export f t ≡ t
statement_with f (node (statement k) cs) h = refl
statement_with f (node (program k) cs) h = absurd (false≢true h)
statement_with f (node (function k) cs) h = absurd (false≢true h)
statement_with f (node (expression k) cs) h = absurd (false≢true h)
statement_with f (node (jsx k) cs) h = absurd (false≢true h)
statement_with f (leaf s x) h = absurd (false≢true h)
statement_with f (list ts) h = absurd (false≢true h)

pub stmt_but : (f : Kind → Forest → Tree) (s : Stmt) → but_export f (view_stmt s) ≡ visited f (view_stmt s)
stmt_but f s = statement_but f (view_stmt s) (stmt_root s)

pub stmt_with : (f : Kind → Forest → Tree) (s : Stmt) → with_export f (view_stmt s) ≡ view_stmt s
stmt_with f s = statement_with f (view_stmt s) (stmt_root s)

statement_all : (f : Kind → Forest → Tree) (t : Tree) → is_statement t ≡ true → with_export f (visited f t) ≡ visited f t
statement_all f (node (statement k) cs) h = refl
statement_all f (node (program k) cs) h = absurd (false≢true h)
statement_all f (node (function k) cs) h = absurd (false≢true h)
statement_all f (node (expression k) cs) h = absurd (false≢true h)
statement_all f (node (jsx k) cs) h = absurd (false≢true h)
statement_all f (leaf s x) h = absurd (false≢true h)
statement_all f (list ts) h = absurd (false≢true h)

pub item_all : (f : Kind → Forest → Tree) (i : Item) → with_export f (but_export f (view_item i)) ≡ visited f (view_item i)
item_all f (item.Stmt s) = ap (with_export f) (stmt_but f s.value) ∙ statement_all f (view_stmt s.value) (stmt_root s.value)
item_all f (item.ImportBare at a) = refl
item_all f (item.Import at c a) = refl
item_all f (item.ExportNames at ss) = refl
item_all f (item.ExportFrom at ss a) = refl
item_all f (item.ExportAll at a) = refl
item_all f (item.ExportAllAs at a b) = refl
item_all f (item.ExportDecl at s) = refl
item_all f (item.ExportDefaultFn at b a ps ds ss) = refl
item_all f (item.ExportDefaultClass at b c) = refl
item_all f (item.ExportDefaultExpr at b e) = refl

-- lists of specifiers stay
pub names_but : (f : Kind → Forest → Tree) (i : Item) (at : Option Span) (ss : Vec declared.Specifier Global) → i ≡ item.ExportNames at ss → view_item i ≡ but_export f (view_item i)
names_but f i at ss is = subst (λ j. view_item j ≡ but_export f (view_item j)) (sym is) (sym (ap (λ (us : Forest). node (program ExportNames) (part (list us) none)) (specifiers_stay f Exported ss.items)))

pub from_but : (f : Kind → Forest → Tree) (i : Item) (at : Option Span) (ss : Vec declared.Specifier Global) (a : Text) → i ≡ item.ExportFrom at ss a → view_item i ≡ but_export f (view_item i)
from_but f i at ss a is = subst (λ j. view_item j ≡ but_export f (view_item j)) (sym is) (sym (ap (λ (us : Forest). node (program ExportFrom) (part (list us) (part (source_of a) none))) (specifiers_stay f From ss.items)))

pub ruleset items = (all.views, telling, visiteds_forest, forest_roles, optional_name_stays, directives_stay, body_visit, specifiers_stay, clause_stays, stmt_but, stmt_with)
