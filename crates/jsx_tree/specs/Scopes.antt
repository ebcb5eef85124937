-- Scopes: what is declared where, and which declaration a name refers to (ECMA-262 sections 8.2, scope analysis, 14.2, 14.3, 14.7, 14.12, 14.15, 15 and 16).
use Rattle.std.specs.Prelude.{ℕ, suc, List, [], ◌∷◌, ◌++◌, codes, Bool, true, false, cond, not, ◌&&◌, ◌||◌, nat_eq, nat_le, Option, Some, None}
use Rattle.jsx_base.specs.Token.{Text, TokenKind, IdentifierName, JsxName, same}
use Rattle.jsx_tree.specs.Kinds.{DeclareWord, VarWord, LetWord, ConstWord, Imported, Exported, Module, Script, Import, Specifier, SpecifierAs, ExportDecl, ExportDefaultFn, ExportDefaultClass, Block, Var, For, ForDeclaration, ForIn, ForOf, ForBinding, Switch, Catch, FunctionDecl, ClassDecl, FunctionExpr, ClassExpr, Method, Getter, Setter, Binds, Assigns, Arrow, ArrowBlock, BareArrow, BareArrowBlock, Shorthand, Kind, program, statement, function, expression, Tree, leaf, node, list, Forest, none, part}
use Rattle.jsx_tree.specs.Nonterminals.{Nonterminal, SimpleTarget, Ident, BindingIdent, Pat, Slot, PatProp, PatElement, Param, SetterParam, Declarators, Stmt, SubStmt, Item, Body, BlockOnly, CaseClause, CatchClause, ForInit, ForHead, ForOfHead, ImportClause, ImportBindings, Specifiers, TagName, MemberRoot, WholeProgram, is_ident, has_dash}
use Rattle.jsx_tree.specs.Form.{Position, position, positions}
use Rattle.jsx_tree.specs.Parentheses.{asks}

-- where a tree stands in a program: the number of each part, or of each tree of a list, from the program on
abbrev pub Path : Type 0
Path = List ℕ

abbrev pub below : Path → ℕ → Path
below p i = p ++ (i ∷ [])

-- as what a name is declared; `AsLexical` are `let`, `const`, classes, imports, names of a catch clause, own names
pub data Sort : Type 0 where
  AsVar : Sort
  AsParameter : Sort
  AsFunction : Sort
  AsLexical : Sort

pub record Declaration : Type 0 where
  pub sort : Sort
  pub name : Text
  pub at : Path

abbrev pub declaration : Sort → Text → Path → Declaration
declaration s t p = record { sort = s; name = t; at = p }

-- the places of what binds names: patterns and what they are made of, parameters, declarators, what an import binds
abbrev pub binds : Nonterminal → Bool
binds BindingIdent = true
binds (Pat Binds) = true
binds (PatElement Binds) = true
binds (Slot Binds) = true
binds (PatProp Binds) = true
binds Param = true
binds SetterParam = true
binds Declarators = true
binds ImportClause = true
binds ImportBindings = true
binds (Specifiers Imported) = true
binds c = false

abbrev mutual
  -- the names that a pattern, a declarator, a parameter or an import binds, in order (ECMA-262 section 8.2.1, BoundNames)
  pub bound : Sort → Path → Tree → List Declaration
  bound s p (leaf IdentifierName t) = declaration s t p ∷ []
  bound s p (leaf k t) = []
  bound s p (node k cs) = bound_parts s p 0 (positions k) cs
  bound s p (list ts) = bound_each s p 0 ts

  pub bound_parts : Sort → Path → ℕ → List Position → Forest → List Declaration
  bound_parts s p i [] ts = []
  bound_parts s p i (q ∷ qs) none = []
  bound_parts s p i (position f c g b a ∷ qs) (part t ts) = cond (binds c) (bound s (below p i) t) [] ++ bound_parts s p (suc i) qs ts

  pub bound_each : Sort → Path → ℕ → Forest → List Declaration
  bound_each s p i none = []
  bound_each s p i (part t ts) = bound s (below p i) t ++ bound_each s p (suc i) ts

-- the places of statements below a statement, and of the heads of `for`: a `var` there belongs to the function, or to the program
abbrev pub in_statement : Nonterminal → Bool
in_statement Stmt = true
in_statement SubStmt = true
in_statement BlockOnly = true
in_statement CaseClause = true
in_statement CatchClause = true
in_statement ForInit = true
in_statement ForHead = true
in_statement ForOfHead = true
in_statement c = false

abbrev mutual
  -- the `var` names of a statement, in order, also those below it (ECMA-262 section 8.2.6, VarDeclaredNames)
  pub vars : Path → Tree → List Declaration
  vars p (leaf k t) = []
  vars p (node (statement (Var VarWord)) cs) = bound AsVar p (node (statement (Var VarWord)) cs)
  vars p (node (statement (ForDeclaration VarWord)) cs) = bound AsVar p (node (statement (ForDeclaration VarWord)) cs)
  vars p (node (statement (ForBinding VarWord)) cs) = bound AsVar p (node (statement (ForBinding VarWord)) cs)
  vars p (node k cs) = vars_parts p 0 (positions k) cs
  vars p (list ts) = vars_each p 0 ts

  pub vars_parts : Path → ℕ → List Position → Forest → List Declaration
  vars_parts p i [] ts = []
  vars_parts p i (q ∷ qs) none = []
  vars_parts p i (position f c g b a ∷ qs) (part t ts) = cond (in_statement c) (vars (below p i) t) [] ++ vars_parts p (suc i) qs ts

  pub vars_each : Path → ℕ → Forest → List Declaration
  vars_each p i none = []
  vars_each p i (part t ts) = vars (below p i) t ++ vars_each p (suc i) ts

abbrev pub sort_of : DeclareWord → Sort
sort_of VarWord = AsVar
sort_of LetWord = AsLexical
sort_of ConstWord = AsLexical

-- what a statement or an item declares in the scope of its list, and the `var` names below it
abbrev pub declares : Path → Tree → List Declaration
declares p (node (statement (Var v)) cs) = bound (sort_of v) p (node (statement (Var v)) cs)
declares p (node (statement FunctionDecl) (part n cs)) = bound AsFunction (below p 0) n
declares p (node (statement ClassDecl) (part n cs)) = bound AsLexical (below p 0) n
declares p (node (program Import) cs) = bound AsLexical p (node (program Import) cs)
declares p (node (program ExportDecl) (part (node (statement (Var v)) ds) cs)) = bound (sort_of v) (below p 0) (node (statement (Var v)) ds)
declares p (node (program ExportDecl) (part (node (statement FunctionDecl) (part n ds)) cs)) = bound AsFunction (below (below p 0) 0) n
declares p (node (program ExportDecl) (part (node (statement ClassDecl) (part n ds)) cs)) = bound AsLexical (below (below p 0) 0) n
declares p (node (program ExportDefaultFn) (part n cs)) = bound AsFunction (below p 0) n
declares p (node (program ExportDefaultClass) (part (node k (part n ds)) cs)) = bound AsLexical (below (below p 0) 0) n
declares p t = vars p t

abbrev pub declares_each : Path → ℕ → Forest → List Declaration
declares_each p i none = []
declares_each p i (part t ts) = declares (below p i) t ++ declares_each p (suc i) ts

-- the declarations of the lists of statements of a node, in order
abbrev pub in_list : Nonterminal → Path → Tree → List Declaration
in_list Stmt p (list ts) = declares_each p 0 ts
in_list Item p (list ts) = declares_each p 0 ts
in_list c p t = []

abbrev pub listed : Path → ℕ → List Position → Forest → List Declaration
listed p i [] ts = []
listed p i (q ∷ qs) none = []
listed p i (position f c g b a ∷ qs) (part t ts) = in_list c (below p i) t ++ listed p (suc i) qs ts

-- those of the statements of a program, a block, a case or a function's body
abbrev pub listed_in : Path → Tree → List Declaration
listed_in p (node k cs) = listed p 0 (positions k) cs
listed_in p t = []

abbrev pub listed_cases : Path → ℕ → Forest → List Declaration
listed_cases p i none = []
listed_cases p i (part t ts) = listed_in (below p i) t ++ listed_cases p (suc i) ts

-- the kinds that are functions (ECMA-262 section 15)
abbrev pub is_function : Kind → Bool
is_function (statement FunctionDecl) = true
is_function (program ExportDefaultFn) = true
is_function (function FunctionExpr) = true
is_function (function (Method h)) = true
is_function (function (Getter h)) = true
is_function (function (Setter h)) = true
is_function (expression Arrow) = true
is_function (expression ArrowBlock) = true
is_function (expression BareArrow) = true
is_function (expression BareArrowBlock) = true
is_function k = false

-- the places of a function's parameters; an arrow may have one name without parentheses
abbrev pub is_parameter : Kind → Nonterminal → Bool
is_parameter k Param = true
is_parameter k SetterParam = true
is_parameter (expression BareArrow) BindingIdent = true
is_parameter (expression BareArrowBlock) BindingIdent = true
is_parameter k c = false

-- a function's parameters, and the names of its body: one scope
abbrev pub in_function : Kind → Nonterminal → Path → Tree → List Declaration
in_function k Body p t = listed_in p t
in_function k c p t = cond (is_parameter k c) (bound AsParameter p t) []

abbrev pub function_names : Kind → Path → ℕ → List Position → Forest → List Declaration
function_names k p i [] ts = []
function_names k p i (q ∷ qs) none = []
function_names k p i (position f c g b a ∷ qs) (part t ts) = in_function k c (below p i) t ++ function_names k p (suc i) qs ts

-- the names of a `for`'s head that are declared by `let` or `const`, for each turn anew (ECMA-262 section 14.7.4)
abbrev pub lexical_head : Path → Tree → List Declaration
lexical_head p (node (statement (ForDeclaration LetWord)) cs) = bound AsLexical p (node (statement (ForDeclaration LetWord)) cs)
lexical_head p (node (statement (ForDeclaration ConstWord)) cs) = bound AsLexical p (node (statement (ForDeclaration ConstWord)) cs)
lexical_head p (node (statement (ForBinding LetWord)) cs) = bound AsLexical p (node (statement (ForBinding LetWord)) cs)
lexical_head p (node (statement (ForBinding ConstWord)) cs) = bound AsLexical p (node (statement (ForBinding ConstWord)) cs)
lexical_head p (list (part t none)) = lexical_head (below p 0) t
lexical_head p t = []

-- with them the `var` names below, which go through the head's scope
abbrev pub behind_head : List Declaration → List Declaration → List Declaration
behind_head [] vs = []
behind_head (d ∷ ds) vs = (d ∷ ds) ++ vs

abbrev pub head_names : Kind → Path → Forest → List Declaration
head_names k p none = []
head_names k p (part t ts) = behind_head (lexical_head (below p 0) t) (vars p (node k (part t ts)))

-- a catch clause: its pattern and its block are one scope
abbrev pub catch_names : Path → Forest → List Declaration
catch_names p (part q (part b none)) = bound AsLexical (below p 0) q ++ listed_in (below p 1) b
catch_names p cs = []

abbrev pub is_catch : Kind → Bool
is_catch (statement Catch) = true
is_catch k = false

-- what the scope of a node declares, in order, and the `var` names that go through it; `q` is the kind of the node around. A class has a scope, in which nothing is declared.
abbrev pub declared : Kind → Kind → Path → Forest → List Declaration
declared q (program Module) p cs = listed p 0 (positions (program Module)) cs
declared q (program Script) p cs = listed p 0 (positions (program Script)) cs
declared q (statement Block) p cs = cond (is_catch q) [] (listed p 0 (positions (statement Block)) cs)
declared q (statement Switch) p (part e (part (list ts) none)) = listed_cases (below p 1) 0 ts
declared q (statement For) p cs = head_names (statement For) p cs
declared q (statement ForIn) p cs = head_names (statement ForIn) p cs
declared q (statement ForOf) p cs = head_names (statement ForOf) p cs
declared q (statement Catch) p cs = catch_names p cs
declared q k p cs = cond (is_function k) (function_names k p 0 (positions k) cs) []

-- the own name of a function or class expression, in a scope round it. The name behind `export default class` is the module's.
abbrev pub own_name : Kind → Kind → Path → Forest → List Declaration
own_name q (function FunctionExpr) p (part n cs) = bound AsLexical (below p 0) n
own_name (program ExportDefaultClass) (function ClassExpr) p cs = []
own_name q (function ClassExpr) p (part n cs) = bound AsLexical (below p 0) n
own_name q k p cs = []

abbrev pub is_var : Sort → Bool
is_var AsVar = true
is_var s = false

abbrev pub is_of_parameter : Sort → Bool
is_of_parameter AsParameter = true
is_of_parameter s = false

abbrev pub without_vars : List Declaration → List Declaration
without_vars [] = []
without_vars (d ∷ ds) = cond (is_var d.sort) (without_vars ds) (d ∷ without_vars ds)

abbrev pub parameters : List Declaration → List Declaration
parameters [] = []
parameters (d ∷ ds) = cond (is_of_parameter d.sort) (d ∷ parameters ds) (parameters ds)

-- what a function's part sees of it: its body and an arrow's expression all of it, its parameters no name that the body alone declares, its name and its key none
abbrev pub function_sees : Kind → Nonterminal → List Declaration → List Declaration
function_sees k Body ds = ds
function_sees (expression Arrow) c ds = cond (is_parameter (expression Arrow) c) (parameters ds) ds
function_sees (expression BareArrow) c ds = cond (is_parameter (expression BareArrow) c) (parameters ds) ds
function_sees k c ds = cond (is_parameter k c) (parameters ds) []

-- what the part at a place sees of what its node's scope declares. A switch's cases are in its scope, what it looks at isn't.
abbrev pub sees : Kind → Nonterminal → List Declaration → List Declaration
sees (program k) c ds = cond (is_function (program k)) (function_sees (program k) c ds) ds
sees (statement Switch) CaseClause ds = without_vars ds
sees (statement Switch) c ds = []
sees k c ds = cond (is_function k) (function_sees k c ds) (without_vars ds)

-- so for each node; the pattern of a catch clause sees its own names, and no name that the block alone declares
abbrev pub seen : Kind → Kind → Path → Forest → Nonterminal → List Declaration
seen q (statement Catch) p (part t ts) (Pat r) = bound AsLexical (below p 0) t
seen q k p cs c = sees k c (declared q k p cs)

-- a scope as a name in it sees it: the node whose it is, whether it holds the node's own name, and what is declared there
pub record Scope : Type 0 where
  pub node' : Path
  pub own : Bool
  pub names : List Declaration

-- what a name refers to: the declarations of this name in the scope of a node, which are one binding, or nothing in the program
pub data Binding : Type 0 where
  Bound : Path → Bool → Text → Binding
  Free : Text → Binding

abbrev pub is_declared : Text → List Declaration → Bool
is_declared t [] = false
is_declared t (d ∷ ds) = same t d.name || is_declared t ds

-- the innermost scope that declares a name
abbrev pub lookup : Text → List Scope → Binding
lookup t [] = Free t
lookup t (s ∷ ss) = cond (is_declared t s.names) (Bound s.node' s.own t) (lookup t ss)

-- the scopes round a part of a node, innermost first
abbrev pub inside : Kind → Kind → Path → Forest → Nonterminal → List Scope → List Scope
inside q k p cs c ss = record { node' = p; own = false; names = seen q k p cs c } ∷ (record { node' = p; own = true; names = own_name q k p cs } ∷ ss)

-- a tag that is a reference, and no string and no `this` (JSX specification; React's rule on names): `<Foo/>`
abbrev pub is_lower : Text → Bool
is_lower [] = false
is_lower (c ∷ t) = nat_le 97 c && nat_le c 122

abbrev pub is_component : Text → Bool
is_component t = not (is_lower t) && not (has_dash t)

-- the places of assignment targets
abbrev pub assigns : Nonterminal → Bool
assigns SimpleTarget = true
assigns (Pat Assigns) = true
assigns (PatElement Assigns) = true
assigns (Slot Assigns) = true
assigns ForHead = true
assigns ForOfHead = true
assigns c = false

-- the names of what is written short: `{ a }` in an object, `export { a }` and `export { a as b }`; a label's name is none
abbrev pub names_one : Kind → Bool
names_one (expression Shorthand) = true
names_one (program (Specifier Exported)) = true
names_one (program (SpecifierAs Exported)) = true
names_one k = false

abbrev pub is_short : Kind → Nonterminal → Bool
is_short q Ident = names_one q
is_short q c = false

-- the names that are declared or referred to, at a place of a node of kind `q`; names of properties and labels aren't
abbrev pub is_name_at : Kind → Nonterminal → TokenKind → Text → Bool
is_name_at q c IdentifierName t = is_ident t && (binds c || (asks c || (assigns c || is_short q c)))
is_name_at q TagName JsxName t = is_component t
is_name_at q MemberRoot JsxName t = not (same t (codes "this"))
is_name_at q c s t = false

abbrev mutual
  -- what the name at a place refers to, in the scopes round it; None where no name stands
  pub found : List Scope → Kind → Nonterminal → Path → Tree → Path → Option Binding
  found ss q c p (leaf s t) [] = cond (is_name_at q c s t) (Some (lookup t ss)) None
  found ss q c p (leaf s t) (i ∷ is) = None
  found ss q c p (node k cs) [] = None
  found ss q c p (node k cs) (i ∷ is) = found_part ss q k p cs 0 (positions k) cs i is
  found ss q c p (list ts) [] = None
  found ss q c p (list ts) (i ∷ is) = found_each ss q c p 0 ts i is

  pub found_part : List Scope → Kind → Kind → Path → Forest → ℕ → List Position → Forest → ℕ → Path → Option Binding
  found_part ss q k p all n [] ts i is = None
  found_part ss q k p all n (s ∷ qs) none i is = None
  found_part ss q k p all n (position f c g b a ∷ qs) (part t ts) i is = cond (nat_eq n i) (found (inside q k p all c ss) k c (below p n) t is) (found_part ss q k p all (suc n) qs ts i is)

  pub found_each : List Scope → Kind → Nonterminal → Path → ℕ → Forest → ℕ → Path → Option Binding
  found_each ss q c p n none i is = None
  found_each ss q c p n (part t ts) i is = cond (nat_eq n i) (found ss q c (below p n) t is) (found_each ss q c p (suc n) ts i is)

-- what the name at a place of a program refers to: the declarations of it in the innermost scope that has one. A name that is declared refers to itself.
abbrev pub refers : Tree → Path → Option Binding
refers t p = found [] (program Script) WholeProgram [] t p
