-- A statement or an item of a list gives what the definitions say that it declares.
use Rattle.std.proofs.Common.{◌≡◌, ℕ, suc, List, [], ◌∷◌, ◌++◌, Bool, true, false, cond, ◌&&◌, ◌||◌, not, refl, sym, ap, ◌∙◌, append-nil}
use Rattle.jsx_tree.specs.Kinds.{ProgramKind, DeclareWord, VarWord, ImportBare, Import, ExportNames, ExportFrom, ExportAll, ExportAllAs, ExportDecl, ExportDefaultFn, ExportDefaultClass, ExportDefaultExpr, StatementKind, Declarator, Var, FunctionDecl, ClassDecl, ClassExpr, Kind, program, statement, function, Tree, leaf, node, list, Forest, none, part}
use Rattle.jsx_tree.specs.Nonterminals.{BindingIdent, ImportClause, Stmt, Item}
use Rattle.jsx_tree.specs.Form.{Single, Maybe, Position, position, positions}
use Rattle.jsx_tree.specs.Sound.{each_node, each_nodes}
use Rattle.jsx_tree.specs.Scopes.{Path, below, Sort, AsFunction, AsLexical, sort_of, binds, bound, bound_parts, vars, declares, declares_each, is_catch}
use Rattle.jsx_tree.proofs.Tokens.{and_left, and_right}
use Rattle.jsx_names.specs.Events.{OfFunction, Way, Simply, way, Mode, Plain, Exporting, Binding, mode, is_inner}
use Rattle.jsx_names.specs.Answers.{Named, all_of}
use Rattle.jsx_names.specs.Given.{passing, given, given_parts, given_each}
use Rattle.jsx_names.specs.Proper.{is_statement, is_substatement, is_item, is_declaration, is_catching, stands, each_stands, has_form, fill, is_proper}
use Rattle.jsx_names.proofs.Quiet.{is_default, none_pass, quiet_inners}
use Rattle.jsx_names.proofs.Bound.{tied, form_tied, bound_tree, no_outer, not_so}
use Rattle.jsx_names.proofs.Vars.{all_append, all_flagged}
use Rattle.jsx_names.proofs.Stated.{is_stated, vars_tree, var_given, no_vars}
use Rattle.jsx_names.proofs.Steady.{is_steady, steady_tree}

-- names alone, where nothing else is given
pub only_first : (xs ys zs : List Named) → ys ≡ [] → zs ≡ [] → (xs ++ ys) ++ zs ≡ xs
only_first xs ys zs e f = ap (λ z. (xs ++ z) ++ zs) e ∙ ap (λ z. (xs ++ []) ++ z) f ∙ append-nil (xs ++ []) ∙ append-nil xs

pub bound_all : (w : Way) (s : Sort) (q : Kind) (p : Path) (t : Tree) → tied t ≡ true → each_node is_proper t ≡ true → all_of (given (Binding w s) q p t) ≡ bound s p t
bound_all w s q p t b h = ap all_of (bound_tree w s q p t b h) ∙ all_flagged w (bound s p t)

-- parts that are all inside
abbrev pub insides : Kind → List Position → Bool
insides k [] = true
insides k (position f c g o a ∷ ss) = is_inner k c && insides k ss

pub no_outers : (m : Mode) (k : Kind) (p : Path) (i : ℕ) (ss : List Position) (cs : Forest) → insides k ss ≡ true → given_parts false m k p i ss cs ≡ []
no_outers m k p i [] cs h = refl
no_outers m k p i (s ∷ ss) none h = refl
no_outers m k p i (position f c g o a ∷ ss) (part t ts) h = ap (λ b. cond b [] (given (mode m k c) k (below p i) t) ++ given_parts false m k p (suc i) ss ts) (and_left (is_inner k c) (insides k ss) h) ∙ no_outers m k p (suc i) ss ts (and_right (is_inner k c) (insides k ss) h)

abbrev pub tail_of : List Position → List Position
tail_of [] = []
tail_of (s ∷ ss) = ss

-- a function: its name
function_given : (m : Mode) (q : Kind) (p : Path) (n : Tree) (cs : Forest) → fill (positions (statement FunctionDecl)) (part n cs) ≡ true → each_nodes is_proper (part n cs) ≡ true → all_of (given m q p (node (statement FunctionDecl) (part n cs))) ≡ bound AsFunction (below p 0) n
function_given m q p n cs f h =
    ap all_of (only_first (given (Binding (way m) AsFunction) (statement FunctionDecl) (below p 0) n) (given_parts false m (statement FunctionDecl) p 1 (tail_of (positions (statement FunctionDecl))) cs) (passing (OfFunction ∷ []) (given_parts true m (statement FunctionDecl) p 0 (positions (statement FunctionDecl)) (part n cs)))
    (no_outers m (statement FunctionDecl) p 1 (tail_of (positions (statement FunctionDecl))) cs refl)
    (none_pass OfFunction (given_parts true m (statement FunctionDecl) p 0 (positions (statement FunctionDecl)) (part n cs)) refl))
    ∙ bound_all (way m) AsFunction (statement FunctionDecl) (below p 0) n (form_tied Single BindingIdent n refl (and_left (has_form Single BindingIdent n) (fill (tail_of (positions (statement FunctionDecl))) cs) f)) (and_left (each_node is_proper n) (each_nodes is_proper cs) h)

exported_function : (q : Kind) (p : Path) (n : Tree) (cs : Forest) → fill (positions (program ExportDefaultFn)) (part n cs) ≡ true → each_nodes is_proper (part n cs) ≡ true → all_of (given Plain q p (node (program ExportDefaultFn) (part n cs))) ≡ bound AsFunction (below p 0) n
exported_function q p n cs f h =
    ap all_of (only_first (given (Binding Simply AsFunction) (program ExportDefaultFn) (below p 0) n) (given_parts false Plain (program ExportDefaultFn) p 1 (tail_of (positions (program ExportDefaultFn))) cs) (passing (OfFunction ∷ []) (given_parts true Plain (program ExportDefaultFn) p 0 (positions (program ExportDefaultFn)) (part n cs)))
    (no_outers Plain (program ExportDefaultFn) p 1 (tail_of (positions (program ExportDefaultFn))) cs refl)
    (none_pass OfFunction (given_parts true Plain (program ExportDefaultFn) p 0 (positions (program ExportDefaultFn)) (part n cs)) refl))
    ∙ bound_all Simply AsFunction (program ExportDefaultFn) (below p 0) n (form_tied Maybe BindingIdent n refl (and_left (has_form Maybe BindingIdent n) (fill (tail_of (positions (program ExportDefaultFn))) cs) f)) (and_left (each_node is_proper n) (each_nodes is_proper cs) h)

-- a class: its name
pub first_given : (os xs ys : List Named) → os ≡ [] → ys ≡ [] → os ++ (xs ++ ys) ≡ xs
first_given os xs ys e f = ap (λ z. z ++ (xs ++ ys)) e ∙ ap (λ z. xs ++ z) f ∙ append-nil xs

class_given : (m : Mode) (q : Kind) (p : Path) (n : Tree) (cs : Forest) → fill (positions (statement ClassDecl)) (part n cs) ≡ true → each_nodes is_proper (part n cs) ≡ true → all_of (given m q p (node (statement ClassDecl) (part n cs))) ≡ bound AsLexical (below p 0) n
class_given m q p n cs f h =
    let k : Kind = statement ClassDecl in
    ap all_of (first_given (given_parts false m k p 0 (positions k) (part n cs)) (given (Binding (way m) AsLexical) k (below p 0) n) (given_parts true m k p 1 (tail_of (positions k)) cs)
    (no_outer m k p 0 (positions k) (part n cs) refl)
    (quiet_inners m k p 1 (tail_of (positions k)) cs refl refl (and_right (has_form Single BindingIdent n) (fill (tail_of (positions k)) cs) f) (and_right (each_node is_proper n) (each_nodes is_proper cs) h)))
    ∙ bound_all (way m) AsLexical k (below p 0) n (form_tied Single BindingIdent n refl (and_left (has_form Single BindingIdent n) (fill (tail_of (positions k)) cs) f)) (and_left (each_node is_proper n) (each_nodes is_proper cs) h)

-- one that is exported as the default
pub default_given : (p : Path) (n : Tree) (cs : Forest) → fill (positions (function ClassExpr)) (part n cs) ≡ true → each_nodes is_proper (part n cs) ≡ true → all_of (given Plain (program ExportDefaultClass) p (node (function ClassExpr) (part n cs))) ≡ bound AsLexical (below p 0) n
default_given p n cs f h =
    let k : Kind = function ClassExpr in
    ap all_of (first_given (given_parts false Plain k p 0 (positions k) (part n cs)) (given (Binding Simply AsLexical) k (below p 0) n) (given_parts true Plain k p 1 (tail_of (positions k)) cs)
    (no_outer Plain k p 0 (positions k) (part n cs) refl)
    (quiet_inners Plain k p 1 (tail_of (positions k)) cs refl refl (and_right (has_form Maybe BindingIdent n) (fill (tail_of (positions k)) cs) f) (and_right (each_node is_proper n) (each_nodes is_proper cs) h)))
    ∙ bound_all Simply AsLexical k (below p 0) n (form_tied Maybe BindingIdent n refl (and_left (has_form Maybe BindingIdent n) (fill (tail_of (positions k)) cs) f)) (and_left (each_node is_proper n) (each_nodes is_proper cs) h)

-- declarations of variables
variables_given : (m : Mode) (q : Kind) (p : Path) (v : DeclareWord) (cs : Forest) → fill (positions (statement (Var v))) cs ≡ true → each_nodes is_proper cs ≡ true → all_of (given m q p (node (statement (Var v)) cs)) ≡ bound (sort_of v) p (node (statement (Var v)) cs)
variables_given m q p v cs f h =
    let k : Kind = statement (Var v) in
    ap (λ z. all_of (z ++ given_parts true m k p 0 (positions k) cs)) (no_outer m k p 0 (positions k) cs refl)
    ∙ ap all_of (var_given m p v cs f h)
    ∙ all_flagged (way m) (bound (sort_of v) p (node k cs))

-- what may be declared behind `export`, or stands in a list
pub declared_tree : (m : Mode) (q k : Kind) (p : Path) (cs : Forest) → is_declaration k ≡ true → fill (positions k) cs ≡ true → each_nodes is_proper cs ≡ true → all_of (given m q p (node k cs)) ≡ declares p (node k cs)
declared_tree m q (statement (Var v)) p cs e f h = variables_given m q p v cs f h
declared_tree m q (statement FunctionDecl) p none e f h = cc
declared_tree m q (statement FunctionDecl) p (part n cs) e f h = function_given m q p n cs f h
declared_tree m q (statement ClassDecl) p none e f h = cc
declared_tree m q (statement ClassDecl) p (part n cs) e f h = class_given m q p n cs f h
declared_tree m q k p cs e f h = cc

-- statements that declare `var` names alone
pub vars_declared : (k : Kind) (p : Path) (cs : Forest) → is_substatement k ≡ true → vars p (node k cs) ≡ declares p (node k cs)
vars_declared (statement (Var VarWord)) p cs h = refl
vars_declared (statement (Var v)) p cs h = cc
vars_declared (statement FunctionDecl) p cs h = cc
vars_declared (statement ClassDecl) p cs h = cc
vars_declared (statement k) p cs h = refl
vars_declared k p cs h = cc

pub sub_stated : (k : Kind) → is_substatement k ≡ true → is_stated k ≡ true
sub_stated (statement Declarator) h = h
sub_stated (statement k) h = refl
sub_stated k h = cc

sub_steady : (k : Kind) → is_substatement k ≡ true → is_steady k ≡ true
sub_steady k h = ap (λ b. b || is_catching k) h

pub sub_tree : (q k : Kind) (p : Path) (cs : Forest) → is_default q ≡ false → is_catch q ≡ false → is_substatement k ≡ true → each_node is_proper (node k cs) ≡ true → all_of (given Plain q p (node k cs)) ≡ declares p (node k cs)
sub_tree q k p cs d n e h =
    ap all_of (sym (steady_tree q p (node k cs) n (sub_steady k e) h)) ∙ vars_tree q p (node k cs) d (sub_stated k e) h ∙ vars_declared k p cs e

-- a statement is one that declares by itself, or one that may stand below another
two_kinds : (k : Kind) → is_statement k ≡ true → is_declaration k || is_substatement k ≡ true
two_kinds (statement k) h = here k h
  where
    here : (k : StatementKind) → is_statement (statement k) ≡ true → is_declaration (statement k) || is_substatement (statement k) ≡ true
    here (Var v) h = refl
    here FunctionDecl h = refl
    here ClassDecl h = refl
    here k h = h
two_kinds k h = cc

or_other : (a b : Bool) → a ≡ false → a || b ≡ true → b ≡ true
or_other false b e h = h
or_other true b e h = cc

pub statement_tree : (q k : Kind) (p : Path) (cs : Forest) → is_default q ≡ false → is_catch q ≡ false → is_statement k ≡ true → each_node is_proper (node k cs) ≡ true → all_of (given Plain q p (node k cs)) ≡ declares p (node k cs)
statement_tree q k p cs d n e h = go (is_declaration k) refl
  where
    go : (b : Bool) → is_declaration k ≡ b → all_of (given Plain q p (node k cs)) ≡ declares p (node k cs)
    go true x = declared_tree Plain q k p cs x (and_left (fill (positions k) cs) (each_nodes is_proper cs) h) (and_right (fill (positions k) cs) (each_nodes is_proper cs) h)
    go false x = sub_tree q k p cs d n (or_other (is_declaration k) (is_substatement k) x (two_kinds k e)) h

pub statements_listed : (q : Kind) (p : Path) (i : ℕ) (ts : Forest) → is_default q ≡ false → is_catch q ≡ false → each_stands Stmt ts ≡ true → each_nodes is_proper ts ≡ true → all_of (given_each Plain q p i ts) ≡ declares_each p i ts
statements_listed q p i none d n e h = refl
statements_listed q p i (part t ts) d n e h =
    all_append (given Plain q (below p i) t) (given_each Plain q p (suc i) ts)
    ∙ ap (λ z. z ++ all_of (given_each Plain q p (suc i) ts)) (one t (and_left (stands Stmt t) (each_stands Stmt ts) e) (and_left (each_node is_proper t) (each_nodes is_proper ts) h))
    ∙ ap (λ z. declares (below p i) t ++ z) (statements_listed q p (suc i) ts d n (and_right (stands Stmt t) (each_stands Stmt ts) e) (and_right (each_node is_proper t) (each_nodes is_proper ts) h))
  where
    one : (t : Tree) → stands Stmt t ≡ true → each_node is_proper t ≡ true → all_of (given Plain q (below p i) t) ≡ declares (below p i) t
    one (leaf s x) e h = refl
    one (node k cs) e h = statement_tree q k (below p i) cs d n e h
    one (list ts) e h = cc

-- ---- the items of a module

abbrev unbound : List Position → Bool
unbound [] = true
unbound (position f c g o a ∷ ss) = not (binds c) && unbound ss

no_bounds : (s : Sort) (p : Path) (i : ℕ) (ss : List Position) (cs : Forest) → unbound ss ≡ true → bound_parts s p i ss cs ≡ []
no_bounds s p i [] cs h = refl
no_bounds s p i (x ∷ ss) none h = refl
no_bounds s p i (position f c g o a ∷ ss) (part t ts) h = ap (λ b. cond b (bound s (below p i) t) [] ++ bound_parts s p (suc i) ss ts) (not_so (binds c) (and_left (not (binds c)) (unbound ss) h)) ∙ no_bounds s p (suc i) ss ts (and_right (not (binds c)) (unbound ss) h)

import_given : (q : Kind) (p : Path) (c : Tree) (cs : Forest) → fill (positions (program Import)) (part c cs) ≡ true → each_nodes is_proper (part c cs) ≡ true → all_of (given Plain q p (node (program Import) (part c cs))) ≡ declares p (node (program Import) (part c cs))
import_given q p c cs f h =
    let k : Kind = program Import in
    ap all_of (first_given (given_parts false Plain k p 0 (positions k) (part c cs)) (given (Binding Simply AsLexical) k (below p 0) c) (given_parts true Plain k p 1 (tail_of (positions k)) cs)
    (no_outer Plain k p 0 (positions k) (part c cs) refl)
    (quiet_inners Plain k p 1 (tail_of (positions k)) cs refl refl (and_right (has_form Single ImportClause c) (fill (tail_of (positions k)) cs) f) (and_right (each_node is_proper c) (each_nodes is_proper cs) h)))
    ∙ bound_all Simply AsLexical k (below p 0) c (form_tied Single ImportClause c refl (and_left (has_form Single ImportClause c) (fill (tail_of (positions k)) cs) f)) (and_left (each_node is_proper c) (each_nodes is_proper cs) h)
    ∙ sym (append-nil (bound AsLexical (below p 0) c))
    ∙ ap (λ z. bound AsLexical (below p 0) c ++ z) (sym (no_bounds AsLexical p 1 (tail_of (positions k)) cs refl))

export_same : (k : Kind) (p : Path) (ds cs : Forest) → is_declaration k ≡ true → fill (positions k) ds ≡ true → declares (below p 0) (node k ds) ≡ declares p (node (program ExportDecl) (part (node k ds) cs))
export_same (statement (Var v)) p ds cs e f = refl
export_same (statement FunctionDecl) p none cs e f = cc
export_same (statement FunctionDecl) p (part n ds) cs e f = refl
export_same (statement ClassDecl) p none cs e f = cc
export_same (statement ClassDecl) p (part n ds) cs e f = refl
export_same k p ds cs e f = cc

alone : (os xs : List Named) → os ≡ [] → os ++ (xs ++ []) ≡ xs
alone os xs e = ap (λ z. z ++ (xs ++ [])) e ∙ append-nil xs

export_given : (q : Kind) (p : Path) (d : Tree) (cs : Forest) → fill (positions (program ExportDecl)) (part d cs) ≡ true → each_nodes is_proper (part d cs) ≡ true → all_of (given Plain q p (node (program ExportDecl) (part d cs))) ≡ declares p (node (program ExportDecl) (part d cs))
export_given q p (leaf s x) cs f h = ap all_of (no_outer Plain (program ExportDecl) p 0 (positions (program ExportDecl)) (part (leaf s x) cs) refl)
export_given q p (list ts) cs f h = cc
export_given q p (node k ds) cs f h =
    let e : Kind = program ExportDecl in
    let is : is_declaration k ≡ true = and_left (is_declaration k) (fill [] cs) f in
    let here : each_node is_proper (node k ds) ≡ true = and_left (each_node is_proper (node k ds)) (each_nodes is_proper cs) h in
    ap all_of (alone (given_parts false Plain e p 0 (positions e) (part (node k ds) cs)) (given Exporting e (below p 0) (node k ds)) (no_outer Plain e p 0 (positions e) (part (node k ds) cs) refl))
    ∙ declared_tree Exporting e k (below p 0) ds is (and_left (fill (positions k) ds) (each_nodes is_proper ds) here) (and_right (fill (positions k) ds) (each_nodes is_proper ds) here)
    ∙ export_same k p ds cs is (and_left (fill (positions k) ds) (each_nodes is_proper ds) here)

class_exported : (q : Kind) (p : Path) (d : Tree) (cs : Forest) → fill (positions (program ExportDefaultClass)) (part d cs) ≡ true → each_nodes is_proper (part d cs) ≡ true → all_of (given Plain q p (node (program ExportDefaultClass) (part d cs))) ≡ declares p (node (program ExportDefaultClass) (part d cs))
class_exported q p (leaf s x) cs f h = ap all_of (no_outer Plain (program ExportDefaultClass) p 0 (positions (program ExportDefaultClass)) (part (leaf s x) cs) refl)
class_exported q p (list ts) cs f h = cc
class_exported q p (node (function ClassExpr) none) cs f h = cc
class_exported q p (node (function ClassExpr) (part n ds)) cs f h =
    let e : Kind = program ExportDefaultClass in
    let k : Kind = function ClassExpr in
    let here : each_node is_proper (node k (part n ds)) ≡ true = and_left (each_node is_proper (node k (part n ds))) (each_nodes is_proper cs) h in
    ap all_of (alone (given_parts false Plain e p 0 (positions e) (part (node k (part n ds)) cs)) (given Plain e (below p 0) (node k (part n ds))) (no_outer Plain e p 0 (positions e) (part (node k (part n ds)) cs) refl))
    ∙ default_given (below p 0) n ds (and_left (fill (positions k) (part n ds)) (each_nodes is_proper (part n ds)) here) (and_right (fill (positions k) (part n ds)) (each_nodes is_proper (part n ds)) here)
class_exported q p (node k ds) cs f h = cc

-- items that declare nothing
abbrev is_mute : Kind → Bool
is_mute (program ImportBare) = true
is_mute (program ExportNames) = true
is_mute (program ExportFrom) = true
is_mute (program ExportAll) = true
is_mute (program ExportAllAs) = true
is_mute (program ExportDefaultExpr) = true
is_mute k = false

pub none_given : (os is : List Named) → os ≡ [] → is ≡ [] → all_of (os ++ is) ≡ []
none_given os is e f = ap (λ z. all_of (z ++ is)) e ∙ ap all_of f

mute_given : (q k : Kind) (p : Path) (cs : Forest) → is_mute k ≡ true → fill (positions k) cs ≡ true → each_nodes is_proper cs ≡ true → all_of (given Plain q p (node k cs)) ≡ declares p (node k cs)
mute_given q (program ImportBare) p cs e f h = none_given (given_parts false Plain (program ImportBare) p 0 (positions (program ImportBare)) cs) (given_parts true Plain (program ImportBare) p 0 (positions (program ImportBare)) cs) (no_outer Plain (program ImportBare) p 0 (positions (program ImportBare)) cs refl) (quiet_inners Plain (program ImportBare) p 0 (positions (program ImportBare)) cs refl refl f h) ∙ sym (no_vars p 0 (positions (program ImportBare)) cs refl)
mute_given q (program ExportNames) p cs e f h = none_given (given_parts false Plain (program ExportNames) p 0 (positions (program ExportNames)) cs) (given_parts true Plain (program ExportNames) p 0 (positions (program ExportNames)) cs) (no_outer Plain (program ExportNames) p 0 (positions (program ExportNames)) cs refl) (quiet_inners Plain (program ExportNames) p 0 (positions (program ExportNames)) cs refl refl f h) ∙ sym (no_vars p 0 (positions (program ExportNames)) cs refl)
mute_given q (program ExportFrom) p cs e f h = none_given (given_parts false Plain (program ExportFrom) p 0 (positions (program ExportFrom)) cs) (given_parts true Plain (program ExportFrom) p 0 (positions (program ExportFrom)) cs) (no_outer Plain (program ExportFrom) p 0 (positions (program ExportFrom)) cs refl) (quiet_inners Plain (program ExportFrom) p 0 (positions (program ExportFrom)) cs refl refl f h) ∙ sym (no_vars p 0 (positions (program ExportFrom)) cs refl)
mute_given q (program ExportAll) p cs e f h = none_given (given_parts false Plain (program ExportAll) p 0 (positions (program ExportAll)) cs) (given_parts true Plain (program ExportAll) p 0 (positions (program ExportAll)) cs) (no_outer Plain (program ExportAll) p 0 (positions (program ExportAll)) cs refl) (quiet_inners Plain (program ExportAll) p 0 (positions (program ExportAll)) cs refl refl f h) ∙ sym (no_vars p 0 (positions (program ExportAll)) cs refl)
mute_given q (program ExportAllAs) p cs e f h = none_given (given_parts false Plain (program ExportAllAs) p 0 (positions (program ExportAllAs)) cs) (given_parts true Plain (program ExportAllAs) p 0 (positions (program ExportAllAs)) cs) (no_outer Plain (program ExportAllAs) p 0 (positions (program ExportAllAs)) cs refl) (quiet_inners Plain (program ExportAllAs) p 0 (positions (program ExportAllAs)) cs refl refl f h) ∙ sym (no_vars p 0 (positions (program ExportAllAs)) cs refl)
mute_given q (program ExportDefaultExpr) p cs e f h = none_given (given_parts false Plain (program ExportDefaultExpr) p 0 (positions (program ExportDefaultExpr)) cs) (given_parts true Plain (program ExportDefaultExpr) p 0 (positions (program ExportDefaultExpr)) cs) (no_outer Plain (program ExportDefaultExpr) p 0 (positions (program ExportDefaultExpr)) cs refl) (quiet_inners Plain (program ExportDefaultExpr) p 0 (positions (program ExportDefaultExpr)) cs refl refl f h) ∙ sym (no_vars p 0 (positions (program ExportDefaultExpr)) cs refl)
mute_given q k p cs e f h = cc

program_item : (q : Kind) (k : ProgramKind) (p : Path) (cs : Forest) → is_item (program k) ≡ true → fill (positions (program k)) cs ≡ true → each_nodes is_proper cs ≡ true → all_of (given Plain q p (node (program k) cs)) ≡ declares p (node (program k) cs)
program_item q Import p none e f h = cc
program_item q Import p (part c cs) e f h = import_given q p c cs f h
program_item q ExportDecl p none e f h = cc
program_item q ExportDecl p (part d cs) e f h = export_given q p d cs f h
program_item q ExportDefaultFn p none e f h = cc
program_item q ExportDefaultFn p (part n cs) e f h = exported_function q p n cs f h
program_item q ExportDefaultClass p none e f h = cc
program_item q ExportDefaultClass p (part d cs) e f h = class_exported q p d cs f h
program_item q ImportBare p cs e f h = mute_given q (program ImportBare) p cs refl f h
program_item q ExportNames p cs e f h = mute_given q (program ExportNames) p cs refl f h
program_item q ExportFrom p cs e f h = mute_given q (program ExportFrom) p cs refl f h
program_item q ExportAll p cs e f h = mute_given q (program ExportAll) p cs refl f h
program_item q ExportAllAs p cs e f h = mute_given q (program ExportAllAs) p cs refl f h
program_item q ExportDefaultExpr p cs e f h = mute_given q (program ExportDefaultExpr) p cs refl f h
program_item q k p cs e f h = cc

pub item_tree : (q k : Kind) (p : Path) (cs : Forest) → is_default q ≡ false → is_catch q ≡ false → is_item k ≡ true → each_node is_proper (node k cs) ≡ true → all_of (given Plain q p (node k cs)) ≡ declares p (node k cs)
item_tree q (program k) p cs d n e h = program_item q k p cs e (and_left (fill (positions (program k)) cs) (each_nodes is_proper cs) h) (and_right (fill (positions (program k)) cs) (each_nodes is_proper cs) h)
item_tree q (statement k) p cs d n e h = statement_tree q (statement k) p cs d n e h
item_tree q k p cs d n e h = cc

pub items_listed : (q : Kind) (p : Path) (i : ℕ) (ts : Forest) → is_default q ≡ false → is_catch q ≡ false → each_stands Item ts ≡ true → each_nodes is_proper ts ≡ true → all_of (given_each Plain q p i ts) ≡ declares_each p i ts
items_listed q p i none d n e h = refl
items_listed q p i (part t ts) d n e h =
    all_append (given Plain q (below p i) t) (given_each Plain q p (suc i) ts)
    ∙ ap (λ z. z ++ all_of (given_each Plain q p (suc i) ts)) (one t (and_left (stands Item t) (each_stands Item ts) e) (and_left (each_node is_proper t) (each_nodes is_proper ts) h))
    ∙ ap (λ z. declares (below p i) t ++ z) (items_listed q p (suc i) ts d n (and_right (stands Item t) (each_stands Item ts) e) (and_right (each_node is_proper t) (each_nodes is_proper ts) h))
  where
    one : (t : Tree) → stands Item t ≡ true → each_node is_proper t ≡ true → all_of (given Plain q (below p i) t) ≡ declares (below p i) t
    one (leaf s x) e h = refl
    one (node k cs) e h = item_tree q k (below p i) cs d n e h
    one (list ts) e h = cc
