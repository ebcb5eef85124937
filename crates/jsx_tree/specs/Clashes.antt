-- Early errors on names: declarations that clash (ECMA-262 sections 14.2.1, 14.7, 14.12.1, 14.15.1, 15.1.1, 15.2.1, 16.1.1 and 16.2.1), and direct calls of `eval` (section 13.3.6.1).
use Rattle.std.specs.Prelude.{ℕ, suc, List, [], ◌∷◌, ◌++◌, codes, Bool, true, false, cond, ◌&&◌, ◌||◌, nat_eq, nat_le, Option, Some, None}
use Rattle.jsx_base.specs.Token.{Text, IdentifierName, same}
use Rattle.jsx_tree.specs.Kinds.{Exported, Module, Script, Specifier, SpecifierAs, ExportNames, ExportFrom, ExportAllAs, ExportDecl, ExportDefaultFn, ExportDefaultClass, ExportDefaultExpr, Call, Parenthesized, Kind, program, expression, Tree, leaf, node, list, Forest, none, part}
use Rattle.jsx_tree.specs.Scopes.{Path, below, Sort, AsVar, AsParameter, AsFunction, Declaration, declares, declared, is_declared, is_function}

-- where an early error is: at a name, or at the `default` of an export
pub data Place : Type 0 where
  AtName : Path → Place
  AtDefault : Path → Place

-- whether two declarations of one name in one scope clash; `top` is a function's or a script's top list
abbrev pub clash : Bool → Sort → Sort → Bool
clash top AsVar AsVar = false
clash top AsVar AsParameter = false
clash top AsParameter AsVar = false
clash true AsFunction AsVar = false
clash true AsVar AsFunction = false
clash true AsFunction AsFunction = false
clash true AsFunction AsParameter = false
clash true AsParameter AsFunction = false
clash top s r = true

abbrev pub is_top : Kind → Bool
is_top (program Script) = true
is_top k = is_function k

abbrev pub clashes_with : Bool → Declaration → List Declaration → Bool
clashes_with top d [] = false
clashes_with top d (e ∷ es) = (same d.name e.name && clash top e.sort d.sort) || clashes_with top d es

-- the later of each two that clash
abbrev pub later : Bool → List Declaration → List Declaration → List Place
later top before [] = []
later top before (d ∷ ds) = cond (clashes_with top d before) (AtName d.at ∷ []) [] ++ later top (d ∷ before) ds

-- a name that a module exports, and where
pub record Export : Type 0 where
  pub name : Text
  pub place : Place

abbrev pub export : Text → Place → Export
export t a = record { name = t; place = a }

abbrev pub export_name : Path → Tree → List Export
export_name p (leaf IdentifierName t) = export t (AtName p) ∷ []
export_name p t = []

abbrev pub export_specifier : Path → Tree → List Export
export_specifier p (node (program (Specifier s)) (part n none)) = export_name (below p 0) n
export_specifier p (node (program (SpecifierAs s)) (part m (part n none))) = export_name (below p 1) n
export_specifier p t = []

abbrev pub export_specifiers : Path → ℕ → Forest → List Export
export_specifiers p i none = []
export_specifiers p i (part t ts) = export_specifier (below p i) t ++ export_specifiers p (suc i) ts

abbrev pub export_each : List Declaration → List Export
export_each [] = []
export_each (d ∷ ds) = export d.name (AtName d.at) ∷ export_each ds

abbrev pub export_default : Path → List Export
export_default p = export (codes "default") (AtDefault p) ∷ []

-- what an item exports (ECMA-262 section 16.2.3.4, ExportedNames)
abbrev pub exports : Path → Tree → List Export
exports p (node (program ExportNames) (part (list ts) none)) = export_specifiers (below p 0) 0 ts
exports p (node (program ExportFrom) (part (list ts) (part s none))) = export_specifiers (below p 0) 0 ts
exports p (node (program ExportAllAs) (part n (part s none))) = export_name (below p 0) n
exports p (node (program ExportDecl) cs) = export_each (declares p (node (program ExportDecl) cs))
exports p (node (program ExportDefaultFn) cs) = export_default p
exports p (node (program ExportDefaultClass) cs) = export_default p
exports p (node (program ExportDefaultExpr) cs) = export_default p
exports p t = []

abbrev pub exports_each : Path → ℕ → Forest → List Export
exports_each p i none = []
exports_each p i (part t ts) = exports (below p i) t ++ exports_each p (suc i) ts

abbrev pub is_exported : Text → List Export → Bool
is_exported t [] = false
is_exported t (e ∷ es) = same t e.name || is_exported t es

-- the later of two exports of one name
abbrev pub exported_twice : List Export → List Export → List Place
exported_twice before [] = []
exported_twice before (e ∷ es) = cond (is_exported e.name before) (e.place ∷ []) [] ++ exported_twice (e ∷ before) es

-- the names of `export { a }` that the module doesn't declare
abbrev pub undeclared : List Declaration → Path → Tree → List Place
undeclared ds p (leaf IdentifierName t) = cond (is_declared t ds) [] (AtName p ∷ [])
undeclared ds p (node (program (Specifier Exported)) (part n cs)) = undeclared ds (below p 0) n
undeclared ds p (node (program (SpecifierAs Exported)) (part n cs)) = undeclared ds (below p 0) n
undeclared ds p t = []

abbrev pub undeclared_each : List Declaration → Path → ℕ → Forest → List Place
undeclared_each ds p i none = []
undeclared_each ds p i (part t ts) = undeclared ds (below p i) t ++ undeclared_each ds p (suc i) ts

abbrev pub undeclared_in : List Declaration → Path → Tree → List Place
undeclared_in ds p (node (program ExportNames) (part (list ts) none)) = undeclared_each ds (below p 0) 0 ts
undeclared_in ds p t = []

abbrev pub undeclared_items : List Declaration → Path → ℕ → Forest → List Place
undeclared_items ds p i none = []
undeclared_items ds p i (part t ts) = undeclared_in ds (below p i) t ++ undeclared_items ds p (suc i) ts

-- the early errors of a node's own scope
abbrev pub own_clashes : Kind → Kind → Path → Forest → List Place
own_clashes q (program Module) p (part ds (part (list ts) none)) = later false [] (declared q (program Module) p (part ds (part (list ts) none))) ++ (exported_twice [] (exports_each (below p 1) 0 ts) ++ undeclared_items (declared q (program Module) p (part ds (part (list ts) none))) (below p 1) 0 ts)
own_clashes q k p cs = later (is_top k) [] (declared q k p cs)

abbrev mutual
  -- all of them
  pub clashes_below : Kind → Path → Tree → List Place
  clashes_below q p (leaf s t) = []
  clashes_below q p (node k cs) = own_clashes q k p cs ++ clashes_each k p 0 cs
  clashes_below q p (list ts) = clashes_each q p 0 ts

  pub clashes_each : Kind → Path → ℕ → Forest → List Place
  clashes_each q p i none = []
  clashes_each q p i (part t ts) = clashes_below q (below p i) t ++ clashes_each q p (suc i) ts

abbrev pub clashes : Tree → List Place
clashes t = clashes_below (program Script) [] t

-- the order of places in the text; the `default` of an export stands before what it exports
abbrev pub path_of : Place → Path
path_of (AtName p) = p
path_of (AtDefault p) = p

abbrev pub is_before : Path → Path → Bool
is_before [] [] = false
is_before [] (j ∷ js) = true
is_before (i ∷ is) [] = false
is_before (i ∷ is) (j ∷ js) = nat_le (suc i) j || (nat_eq i j && is_before is js)

abbrev pub least : Place → List Place → Place
least a [] = a
least a (b ∷ bs) = least (cond (is_before (path_of b) (path_of a)) b a) bs

abbrev pub first_of : List Place → Option Place
first_of [] = None
first_of (a ∷ as') = Some (least a as')

-- the first early error on names
abbrev pub first_clash : Tree → Option Place
first_clash t = first_of (clashes t)

-- the name `eval` where it is called, parentheses aside. `eval?.(a)` isn't a direct call.
abbrev pub eval_at : Path → Tree → List Path
eval_at p (leaf IdentifierName t) = cond (same t (codes "eval")) (p ∷ []) []
eval_at p (node (expression Parenthesized) (part t none)) = eval_at (below p 0) t
eval_at p t = []

abbrev pub evals_here : Kind → Path → Forest → List Path
evals_here (expression Call) p (part t ts) = eval_at (below p 0) t
evals_here k p cs = []

abbrev mutual
  -- the direct calls of `eval`, outer ones first
  pub direct_evals_below : Path → Tree → List Path
  direct_evals_below p (leaf s t) = []
  direct_evals_below p (node k cs) = evals_here k p cs ++ direct_evals_each p 0 cs
  direct_evals_below p (list ts) = direct_evals_each p 0 ts

  pub direct_evals_each : Path → ℕ → Forest → List Path
  direct_evals_each p i none = []
  direct_evals_each p i (part t ts) = direct_evals_below (below p i) t ++ direct_evals_each p (suc i) ts

abbrev pub direct_evals : Tree → List Path
direct_evals t = direct_evals_below [] t
