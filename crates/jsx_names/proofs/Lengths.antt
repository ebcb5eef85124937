-- What a module declares stands below its items, at paths that are longer than theirs.
use Rattle.std.proofs.Common.{◌≡◌, ℕ, suc, List, [], ◌∷◌, ◌++◌, Bool, true, false, cond, ◌&&◌, refl, sym, ap, ◌∙◌}
use Rattle.jsx_base.specs.Token.{IdentifierName}
use Rattle.jsx_tree.specs.Kinds.{VarWord, Import, ExportNames, ExportFrom, ExportAllAs, ExportDecl, ExportDefaultFn, ExportDefaultClass, ExportDefaultExpr, Exported, Specifier, SpecifierAs, Var, ForDeclaration, ForBinding, FunctionDecl, ClassDecl, program, statement, Tree, leaf, node, list, Forest, none, part}
use Rattle.jsx_tree.specs.Form.{Position, position, positions}
use Rattle.jsx_tree.specs.Scopes.{Path, below, Sort, AsVar, AsFunction, AsLexical, Declaration, sort_of, binds, bound, bound_parts, bound_each, in_statement, vars, vars_parts, vars_each, declares, declares_each, is_declared}
use Rattle.jsx_tree.specs.Clashes.{Place, AtName, AtDefault, path_of, clashes_with, later, Export, export_name, export_specifier, export_specifiers, export_each, export_default, exports, exports_each, is_exported, exported_twice, undeclared, undeclared_each, undeclared_in, undeclared_items}
use Rattle.jsx_names.proofs.ScopeNames.{never}
use Rattle.jsx_names.proofs.First.{each, each_append, Apart}

-- a path of two steps, one of two or more, and one of more
abbrev is_two : Path → Bool
is_two (i ∷ (j ∷ [])) = true
is_two p = false

abbrev is_long : Path → Bool
is_long (i ∷ (j ∷ js)) = true
is_long p = false

abbrev is_longer : Path → Bool
is_longer (i ∷ (j ∷ (k ∷ ks))) = true
is_longer p = false

long_below : (p : Path) (n : ℕ) → is_long p ≡ true → is_longer (below p n) ≡ true
long_below [] n h = never h
long_below (i ∷ []) n h = never h
long_below (i ∷ (j ∷ [])) n h = refl
long_below (i ∷ (j ∷ (k ∷ ks))) n h = refl

longer_long : (p : Path) → is_longer p ≡ true → is_long p ≡ true
longer_long [] h = never h
longer_long (i ∷ []) h = never h
longer_long (i ∷ (j ∷ js)) h = refl

still_long : (p : Path) (n : ℕ) → is_long p ≡ true → is_long (below p n) ≡ true
still_long p n h = longer_long (below p n) (long_below p n h)

-- ---- declarations

abbrev pub all_longer : List Declaration → Bool
all_longer [] = true
all_longer (d ∷ ds) = is_longer d.at && all_longer ds

longer_append : (ds es : List Declaration) → all_longer ds ≡ true → all_longer es ≡ true → all_longer (ds ++ es) ≡ true
longer_append [] es x y = y
longer_append (d ∷ ds) es x y = more (is_longer d.at) (all_longer ds) x (λ z. longer_append ds es z y)
  where
    more : (a b : Bool) → a && b ≡ true → (b ≡ true → all_longer (ds ++ es) ≡ true) → a && all_longer (ds ++ es) ≡ true
    more true b h f = f h
    more false b h f = h

longer_if : (b : Bool) (ds : List Declaration) → all_longer ds ≡ true → all_longer (cond b ds []) ≡ true
longer_if true ds h = h
longer_if false ds h = refl

one_longer : (b : Bool) → b ≡ true → b && true ≡ true
one_longer true h = refl
one_longer false h = h

mutual
  bound_longer : (s : Sort) (p : Path) (t : Tree) → is_longer p ≡ true → all_longer (bound s p t) ≡ true
  bound_longer s p (leaf IdentifierName x) h = one_longer (is_longer p) h
  bound_longer s p (leaf k x) h = refl
  bound_longer s p (node k cs) h = bound_parts_longer s p 0 (positions k) cs (longer_long p h)
  bound_longer s p (list ts) h = bound_each_longer s p 0 ts (longer_long p h)

  bound_parts_longer : (s : Sort) (p : Path) (i : ℕ) (ss : List Position) (cs : Forest) → is_long p ≡ true → all_longer (bound_parts s p i ss cs) ≡ true
  bound_parts_longer s p i [] cs h = refl
  bound_parts_longer s p i (x ∷ ss) none h = refl
  bound_parts_longer s p i (position f c g o a ∷ ss) (part t ts) h =
      longer_append (cond (binds c) (bound s (below p i) t) []) (bound_parts s p (suc i) ss ts)
      (longer_if (binds c) (bound s (below p i) t) (bound_longer s (below p i) t (long_below p i h)))
      (bound_parts_longer s p (suc i) ss ts h)

  bound_each_longer : (s : Sort) (p : Path) (i : ℕ) (ts : Forest) → is_long p ≡ true → all_longer (bound_each s p i ts) ≡ true
  bound_each_longer s p i none h = refl
  bound_each_longer s p i (part t ts) h = longer_append (bound s (below p i) t) (bound_each s p (suc i) ts) (bound_longer s (below p i) t (long_below p i h)) (bound_each_longer s p (suc i) ts h)

mutual
  vars_longer : (p : Path) (t : Tree) → is_long p ≡ true → all_longer (vars p t) ≡ true
  vars_longer p (leaf s x) h = refl
  vars_longer p (list ts) h = vars_each_longer p 0 ts h
  vars_longer p (node (statement (Var VarWord)) cs) h = bound_parts_longer AsVar p 0 (positions (statement (Var VarWord))) cs h
  vars_longer p (node (statement (ForDeclaration VarWord)) cs) h = bound_parts_longer AsVar p 0 (positions (statement (ForDeclaration VarWord))) cs h
  vars_longer p (node (statement (ForBinding VarWord)) cs) h = bound_parts_longer AsVar p 0 (positions (statement (ForBinding VarWord))) cs h
  vars_longer p (node k cs) h = vars_parts_longer p 0 (positions k) cs h

  vars_parts_longer : (p : Path) (i : ℕ) (ss : List Position) (cs : Forest) → is_long p ≡ true → all_longer (vars_parts p i ss cs) ≡ true
  vars_parts_longer p i [] cs h = refl
  vars_parts_longer p i (x ∷ ss) none h = refl
  vars_parts_longer p i (position f c g o a ∷ ss) (part t ts) h =
      longer_append (cond (in_statement c) (vars (below p i) t) []) (vars_parts p (suc i) ss ts)
      (longer_if (in_statement c) (vars (below p i) t) (vars_longer (below p i) t (still_long p i h)))
      (vars_parts_longer p (suc i) ss ts h)

  vars_each_longer : (p : Path) (i : ℕ) (ts : Forest) → is_long p ≡ true → all_longer (vars_each p i ts) ≡ true
  vars_each_longer p i none h = refl
  vars_each_longer p i (part t ts) h = longer_append (vars (below p i) t) (vars_each p (suc i) ts) (vars_longer (below p i) t (still_long p i h)) (vars_each_longer p (suc i) ts h)

declares_longer : (p : Path) (t : Tree) → is_long p ≡ true → all_longer (declares p t) ≡ true
declares_longer p (node (statement (Var v)) cs) h = bound_parts_longer (sort_of v) p 0 (positions (statement (Var v))) cs h
declares_longer p (node (statement FunctionDecl) (part n cs)) h = bound_longer AsFunction (below p 0) n (long_below p 0 h)
declares_longer p (node (statement ClassDecl) (part n cs)) h = bound_longer AsLexical (below p 0) n (long_below p 0 h)
declares_longer p (node (program Import) cs) h = bound_parts_longer AsLexical p 0 (positions (program Import)) cs h
declares_longer p (node (program ExportDecl) (part (node (statement (Var v)) ds) cs)) h = bound_parts_longer (sort_of v) (below p 0) 0 (positions (statement (Var v))) ds (still_long p 0 h)
declares_longer p (node (program ExportDecl) (part (node (statement FunctionDecl) (part n ds)) cs)) h = bound_longer AsFunction (below (below p 0) 0) n (long_below (below p 0) 0 (still_long p 0 h))
declares_longer p (node (program ExportDecl) (part (node (statement ClassDecl) (part n ds)) cs)) h = bound_longer AsLexical (below (below p 0) 0) n (long_below (below p 0) 0 (still_long p 0 h))
declares_longer p (node (program ExportDefaultFn) (part n cs)) h = bound_longer AsFunction (below p 0) n (long_below p 0 h)
declares_longer p (node (program ExportDefaultClass) (part (node k (part n ds)) cs)) h = bound_longer AsLexical (below (below p 0) 0) n (long_below (below p 0) 0 (still_long p 0 h))
declares_longer p t h = vars_longer p t h

pub list_longer : (j i : ℕ) (ts : Forest) → all_longer (declares_each (j ∷ []) i ts) ≡ true
list_longer j i none = refl
list_longer j i (part t ts) = longer_append (declares (j ∷ (i ∷ [])) t) (declares_each (j ∷ []) (suc i) ts) (declares_longer (j ∷ (i ∷ [])) t refl) (list_longer j (suc i) ts)

-- ---- places

abbrev pub is_inner_place : Place → Bool
is_inner_place (AtName p) = is_longer p
is_inner_place (AtDefault p) = false

abbrev pub is_item_place : Place → Bool
is_item_place (AtName p) = true
is_item_place (AtDefault p) = is_two p

two_longer : (p : Path) → is_two p ≡ true → is_longer p ≡ true → false ≡ true
two_longer [] a b = a
two_longer (i ∷ []) a b = a
two_longer (i ∷ (j ∷ [])) a b = b
two_longer (i ∷ (j ∷ (k ∷ ks))) a b = a

apart_places : (a b : Place) → is_item_place a ≡ true → is_inner_place b ≡ true → path_of a ≡ path_of b → a ≡ b
apart_places (AtName p) (AtName q) x y e = ap AtName e
apart_places (AtName p) (AtDefault q) x y e = never y
apart_places (AtDefault p) (AtName q) x y e = never (two_longer q (sym (ap is_two e) ∙ x) y)
apart_places (AtDefault p) (AtDefault q) x y e = never y

pub items_apart : Apart is_item_place is_inner_place
items_apart = record { same = apart_places }

both_left : (a b : Bool) → a && b ≡ true → a ≡ true
both_left true b h = refl
both_left false b h = h

both_right : (a b : Bool) → a && b ≡ true → b ≡ true
both_right true b h = h
both_right false b h = never h

inner_if : (b : Bool) (p : Path) → is_longer p ≡ true → each is_inner_place (cond b (AtName p ∷ []) []) ≡ true
inner_if true p h = one_longer (is_longer p) h
inner_if false p h = refl

pub later_inner : (top : Bool) (es ds : List Declaration) → all_longer ds ≡ true → each is_inner_place (later top es ds) ≡ true
later_inner top es [] h = refl
later_inner top es (d ∷ ds) h =
    each_append is_inner_place (cond (clashes_with top d es) (AtName d.at ∷ []) []) (later top (d ∷ es) ds)
    (inner_if (clashes_with top d es) d.at (both_left (is_longer d.at) (all_longer ds) h))
    (later_inner top (d ∷ es) ds (both_right (is_longer d.at) (all_longer ds) h))

-- ---- exports

abbrev pub item_places : List Export → Bool
item_places [] = true
item_places (e ∷ es) = is_item_place e.place && item_places es

places_append : (xs ys : List Export) → item_places xs ≡ true → item_places ys ≡ true → item_places (xs ++ ys) ≡ true
places_append [] ys a b = b
places_append (x ∷ xs) ys a b = more (is_item_place x.place) (item_places xs) a (λ z. places_append xs ys z b)
  where
    more : (c d : Bool) → c && d ≡ true → (d ≡ true → item_places (xs ++ ys) ≡ true) → c && item_places (xs ++ ys) ≡ true
    more true d h f = f h
    more false d h f = h

name_places : (p : Path) (t : Tree) → item_places (export_name p t) ≡ true
name_places p (leaf IdentifierName x) = refl
name_places p t = refl

specifier_places : (p : Path) (t : Tree) → item_places (export_specifier p t) ≡ true
specifier_places p (node (program (Specifier s)) (part n none)) = name_places (below p 0) n
specifier_places p (node (program (SpecifierAs s)) (part m (part n none))) = name_places (below p 1) n
specifier_places p t = refl

specifiers_places : (p : Path) (i : ℕ) (ts : Forest) → item_places (export_specifiers p i ts) ≡ true
specifiers_places p i none = refl
specifiers_places p i (part t ts) = places_append (export_specifier (below p i) t) (export_specifiers p (suc i) ts) (specifier_places (below p i) t) (specifiers_places p (suc i) ts)

each_places : (ds : List Declaration) → item_places (export_each ds) ≡ true
each_places [] = refl
each_places (d ∷ ds) = each_places ds

default_places : (p : Path) → is_two p ≡ true → item_places (export_default p) ≡ true
default_places p h = one_longer (is_two p) h

item_exports : (p : Path) (t : Tree) → is_two p ≡ true → item_places (exports p t) ≡ true
item_exports p (node (program ExportNames) (part (list ts) none)) h = specifiers_places (below p 0) 0 ts
item_exports p (node (program ExportFrom) (part (list ts) (part s none))) h = specifiers_places (below p 0) 0 ts
item_exports p (node (program ExportAllAs) (part n (part s none))) h = name_places (below p 0) n
item_exports p (node (program ExportDecl) cs) h = each_places (declares p (node (program ExportDecl) cs))
item_exports p (node (program ExportDefaultFn) cs) h = default_places p h
item_exports p (node (program ExportDefaultClass) cs) h = default_places p h
item_exports p (node (program ExportDefaultExpr) cs) h = default_places p h
item_exports p t h = refl

pub exports_places : (j i : ℕ) (ts : Forest) → item_places (exports_each (j ∷ []) i ts) ≡ true
exports_places j i none = refl
exports_places j i (part t ts) = places_append (exports (j ∷ (i ∷ [])) t) (exports_each (j ∷ []) (suc i) ts) (item_exports (j ∷ (i ∷ [])) t refl) (exports_places j (suc i) ts)

place_if : (b : Bool) (a : Place) → is_item_place a ≡ true → each is_item_place (cond b (a ∷ []) []) ≡ true
place_if true a h = one_longer (is_item_place a) h
place_if false a h = refl

place_unless : (b : Bool) (a : Place) → is_item_place a ≡ true → each is_item_place (cond b [] (a ∷ [])) ≡ true
place_unless true a h = refl
place_unless false a h = one_longer (is_item_place a) h

pub twice_places : (es xs : List Export) → item_places xs ≡ true → each is_item_place (exported_twice es xs) ≡ true
twice_places es [] h = refl
twice_places es (x ∷ xs) h =
    each_append is_item_place (cond (is_exported x.name es) (x.place ∷ []) []) (exported_twice (x ∷ es) xs)
    (place_if (is_exported x.name es) x.place (both_left (is_item_place x.place) (item_places xs) h))
    (twice_places (x ∷ es) xs (both_right (is_item_place x.place) (item_places xs) h))

wanting_places : (ds : List Declaration) (p : Path) (t : Tree) → each is_item_place (undeclared ds p t) ≡ true
wanting_places ds p (leaf IdentifierName x) = place_unless (is_declared x ds) (AtName p) refl
wanting_places ds p (node (program (Specifier Exported)) (part n cs)) = wanting_places ds (below p 0) n
wanting_places ds p (node (program (SpecifierAs Exported)) (part n cs)) = wanting_places ds (below p 0) n
wanting_places ds p t = refl

wanting_each : (ds : List Declaration) (p : Path) (i : ℕ) (ts : Forest) → each is_item_place (undeclared_each ds p i ts) ≡ true
wanting_each ds p i none = refl
wanting_each ds p i (part t ts) = each_append is_item_place (undeclared ds (below p i) t) (undeclared_each ds p (suc i) ts) (wanting_places ds (below p i) t) (wanting_each ds p (suc i) ts)

wanting_item : (ds : List Declaration) (p : Path) (t : Tree) → each is_item_place (undeclared_in ds p t) ≡ true
wanting_item ds p (node (program ExportNames) (part (list ts) none)) = wanting_each ds (below p 0) 0 ts
wanting_item ds p t = refl

pub wanting_items : (ds : List Declaration) (p : Path) (i : ℕ) (ts : Forest) → each is_item_place (undeclared_items ds p i ts) ≡ true
wanting_items ds p i none = refl
wanting_items ds p i (part t ts) = each_append is_item_place (undeclared_in ds (below p i) t) (undeclared_items ds p (suc i) ts) (wanting_item ds (below p i) t) (wanting_items ds p (suc i) ts)
