-- The events of programs say what the definitions on trees say: what each name refers to, which declaration clashes first, and the direct calls of `eval`. Each example is the tree of the text above it.
use Rattle.std.specs.Prelude.{◌≡◌, ℕ, suc, List, [], ◌∷◌, ◌++◌, codes, true, refl, Option, Some, None}
use Rattle.jsx_base.specs.Token.{IdentifierName, JsxName, NumericLiteral, StringLiteral}
use Rattle.jsx_tree.specs.Kinds.{VarWord, LetWord, ConstWord, Imported, Exported, From, Module, Script, FunctionBody, Import, ImportAll, ImportList, ImportBoth, Specifier, SpecifierAs, ExportNames, ExportFrom, ExportAllAs, ExportDecl, ExportDefaultClass, Block, Var, Declarator, ExprStmt, For, ForDeclaration, ForOf, ForBinding, Break, Label, Switch, Case, Default, Try, Catch, FunctionDecl, InObject, InClass, Binds, Assigns, FunctionExpr, ClassExpr, Method, Getter, Setter, ComputedKey, ArrayPat, ObjectPat, PropertyPat, ShorthandPat, ShorthandInit, WithInit, RestProperty, Less, Increment, Assign, Arrow, ArrowBlock, BareArrowBlock, Call, Member, Binary, PostfixUpdate, Chain, CallLink, Object, Shorthand, Parenthesized, Element, MemberName, Attribute, Container, program, statement, function, expression, jsx, Tree, leaf, node, list, Forest, none, part}
use Rattle.jsx_tree.specs.Scopes.{Path, below, Binding, refers}
use Rattle.jsx_tree.specs.Clashes.{first_clash, direct_evals}
use Rattle.jsx_tree.proofs.Samples.{l0, l1, l2, l3, n1, n2, n3, n4}
use Rattle.jsx_names.specs.Events.{events}
use Rattle.jsx_names.specs.Answers.{Answer, answers, first_fault, evals_in}

abbrev mutual
  leaves : Path → Tree → List Path
  leaves p (leaf s t) = p ∷ []
  leaves p (node k cs) = leaves_each p 0 cs
  leaves p (list ts) = leaves_each p 0 ts

  leaves_each : Path → ℕ → Forest → List Path
  leaves_each p i none = []
  leaves_each p i (part t ts) = leaves (below p i) t ++ leaves_each p (suc i) ts

abbrev given : Path → Option Binding → List Answer
given p None = []
given p (Some b) = record { at = p; binding = b } ∷ []

-- what the names among these leaves refer to
abbrev referred : Tree → List Path → List Answer
referred t [] = []
referred t (p ∷ ps) = given p (refers t p) ++ referred t ps

-- let x; { let x; var y; x; } y;
abbrev blocks_hide : Tree
blocks_hide = n2 (program Script) l0 (l3 (n1 (statement (Var LetWord)) (l1 (n2 (statement Declarator) (leaf IdentifierName (codes "x")) l0))) (n1 (statement Block) (l3 (n1 (statement (Var LetWord)) (l1 (n2 (statement Declarator) (leaf IdentifierName (codes "x")) l0))) (n1 (statement (Var VarWord)) (l1 (n2 (statement Declarator) (leaf IdentifierName (codes "y")) l0))) (n1 (statement ExprStmt) (leaf IdentifierName (codes "x"))))) (n1 (statement ExprStmt) (leaf IdentifierName (codes "y"))))

blocks_hide_names : referred blocks_hide (leaves [] blocks_hide) ≡ answers [] (events blocks_hide)
blocks_hide_names = refl

blocks_hide_faults : first_clash blocks_hide ≡ first_fault (events blocks_hide)
blocks_hide_faults = refl

blocks_hide_calls : direct_evals blocks_hide ≡ evals_in (events blocks_hide)
blocks_hide_calls = refl

-- function f(a = b) { var b; b; a; }
abbrev parameters_see_no_body : Tree
parameters_see_no_body = n2 (program Script) l0 (l1 (n3 (statement FunctionDecl) (leaf IdentifierName (codes "f")) (l1 (n2 (function (WithInit Binds)) (leaf IdentifierName (codes "a")) (leaf IdentifierName (codes "b")))) (n2 (program FunctionBody) l0 (l3 (n1 (statement (Var VarWord)) (l1 (n2 (statement Declarator) (leaf IdentifierName (codes "b")) l0))) (n1 (statement ExprStmt) (leaf IdentifierName (codes "b"))) (n1 (statement ExprStmt) (leaf IdentifierName (codes "a")))))))

parameters_see_no_body_names : referred parameters_see_no_body (leaves [] parameters_see_no_body) ≡ answers [] (events parameters_see_no_body)
parameters_see_no_body_names = refl

parameters_see_no_body_faults : first_clash parameters_see_no_body ≡ first_fault (events parameters_see_no_body)
parameters_see_no_body_faults = refl

parameters_see_no_body_calls : direct_evals parameters_see_no_body ≡ evals_in (events parameters_see_no_body)
parameters_see_no_body_calls = refl

-- (class B extends B { [B]() { B; } })
abbrev own_name_of_a_class : Tree
own_name_of_a_class = n2 (program Script) l0 (l1 (n1 (statement ExprStmt) (n1 (expression Parenthesized) (n3 (function ClassExpr) (l1 (leaf IdentifierName (codes "B"))) (l1 (leaf IdentifierName (codes "B"))) (l1 (n3 (function (Method InClass)) (n1 (function ComputedKey) (leaf IdentifierName (codes "B"))) l0 (n2 (program FunctionBody) l0 (l1 (n1 (statement ExprStmt) (leaf IdentifierName (codes "B")))))))))))

own_name_of_a_class_names : referred own_name_of_a_class (leaves [] own_name_of_a_class) ≡ answers [] (events own_name_of_a_class)
own_name_of_a_class_names = refl

own_name_of_a_class_faults : first_clash own_name_of_a_class ≡ first_fault (events own_name_of_a_class)
own_name_of_a_class_faults = refl

own_name_of_a_class_calls : direct_evals own_name_of_a_class ≡ evals_in (events own_name_of_a_class)
own_name_of_a_class_calls = refl

-- let f = function g(a) { g; a; var b; };
abbrev own_name_of_a_function : Tree
own_name_of_a_function = n2 (program Script) l0 (l1 (n1 (statement (Var LetWord)) (l1 (n2 (statement Declarator) (leaf IdentifierName (codes "f")) (l1 (n3 (function FunctionExpr) (l1 (leaf IdentifierName (codes "g"))) (l1 (leaf IdentifierName (codes "a"))) (n2 (program FunctionBody) l0 (l3 (n1 (statement ExprStmt) (leaf IdentifierName (codes "g"))) (n1 (statement ExprStmt) (leaf IdentifierName (codes "a"))) (n1 (statement (Var VarWord)) (l1 (n2 (statement Declarator) (leaf IdentifierName (codes "b")) l0)))))))))))

own_name_of_a_function_names : referred own_name_of_a_function (leaves [] own_name_of_a_function) ≡ answers [] (events own_name_of_a_function)
own_name_of_a_function_names = refl

own_name_of_a_function_faults : first_clash own_name_of_a_function ≡ first_fault (events own_name_of_a_function)
own_name_of_a_function_faults = refl

own_name_of_a_function_calls : direct_evals own_name_of_a_function ≡ evals_in (events own_name_of_a_function)
own_name_of_a_function_calls = refl

-- (function g(g) { g; });
abbrev parameter_hides_own_name : Tree
parameter_hides_own_name = n2 (program Script) l0 (l1 (n1 (statement ExprStmt) (n1 (expression Parenthesized) (n3 (function FunctionExpr) (l1 (leaf IdentifierName (codes "g"))) (l1 (leaf IdentifierName (codes "g"))) (n2 (program FunctionBody) l0 (l1 (n1 (statement ExprStmt) (leaf IdentifierName (codes "g")))))))))

parameter_hides_own_name_names : referred parameter_hides_own_name (leaves [] parameter_hides_own_name) ≡ answers [] (events parameter_hides_own_name)
parameter_hides_own_name_names = refl

parameter_hides_own_name_faults : first_clash parameter_hides_own_name ≡ first_fault (events parameter_hides_own_name)
parameter_hides_own_name_faults = refl

parameter_hides_own_name_calls : direct_evals parameter_hides_own_name ≡ evals_in (events parameter_hides_own_name)
parameter_hides_own_name_calls = refl

-- try {} catch ({ a = b }) { let b; b; a; }
abbrev catch_pattern_sees_no_block : Tree
catch_pattern_sees_no_block = n2 (program Script) l0 (l1 (n3 (statement Try) (n1 (statement Block) l0) (l1 (n2 (statement Catch) (l1 (n1 (function (ObjectPat Binds)) (l1 (n2 (function (ShorthandInit Binds)) (leaf IdentifierName (codes "a")) (leaf IdentifierName (codes "b")))))) (n1 (statement Block) (l3 (n1 (statement (Var LetWord)) (l1 (n2 (statement Declarator) (leaf IdentifierName (codes "b")) l0))) (n1 (statement ExprStmt) (leaf IdentifierName (codes "b"))) (n1 (statement ExprStmt) (leaf IdentifierName (codes "a"))))))) l0))

catch_pattern_sees_no_block_names : referred catch_pattern_sees_no_block (leaves [] catch_pattern_sees_no_block) ≡ answers [] (events catch_pattern_sees_no_block)
catch_pattern_sees_no_block_names = refl

catch_pattern_sees_no_block_faults : first_clash catch_pattern_sees_no_block ≡ first_fault (events catch_pattern_sees_no_block)
catch_pattern_sees_no_block_faults = refl

catch_pattern_sees_no_block_calls : direct_evals catch_pattern_sees_no_block ≡ evals_in (events catch_pattern_sees_no_block)
catch_pattern_sees_no_block_calls = refl

-- try {} catch (a) { let a; }
abbrev catch_name_and_block : Tree
catch_name_and_block = n2 (program Script) l0 (l1 (n3 (statement Try) (n1 (statement Block) l0) (l1 (n2 (statement Catch) (l1 (leaf IdentifierName (codes "a"))) (n1 (statement Block) (l1 (n1 (statement (Var LetWord)) (l1 (n2 (statement Declarator) (leaf IdentifierName (codes "a")) l0))))))) l0))

catch_name_and_block_names : referred catch_name_and_block (leaves [] catch_name_and_block) ≡ answers [] (events catch_name_and_block)
catch_name_and_block_names = refl

catch_name_and_block_faults : first_clash catch_name_and_block ≡ first_fault (events catch_name_and_block)
catch_name_and_block_faults = refl

catch_name_and_block_calls : direct_evals catch_name_and_block ≡ evals_in (events catch_name_and_block)
catch_name_and_block_calls = refl

-- try {} catch (a) { { var a; } }
abbrev catch_name_and_var : Tree
catch_name_and_var = n2 (program Script) l0 (l1 (n3 (statement Try) (n1 (statement Block) l0) (l1 (n2 (statement Catch) (l1 (leaf IdentifierName (codes "a"))) (n1 (statement Block) (l1 (n1 (statement Block) (l1 (n1 (statement (Var VarWord)) (l1 (n2 (statement Declarator) (leaf IdentifierName (codes "a")) l0))))))))) l0))

catch_name_and_var_names : referred catch_name_and_var (leaves [] catch_name_and_var) ≡ answers [] (events catch_name_and_var)
catch_name_and_var_names = refl

catch_name_and_var_faults : first_clash catch_name_and_var ≡ first_fault (events catch_name_and_var)
catch_name_and_var_faults = refl

catch_name_and_var_calls : direct_evals catch_name_and_var ≡ evals_in (events catch_name_and_var)
catch_name_and_var_calls = refl

-- try { a; } catch { let a; a; } finally { a; }
abbrev catch_without_a_name : Tree
catch_without_a_name = n2 (program Script) l0 (l1 (n3 (statement Try) (n1 (statement Block) (l1 (n1 (statement ExprStmt) (leaf IdentifierName (codes "a"))))) (l1 (n2 (statement Catch) l0 (n1 (statement Block) (l2 (n1 (statement (Var LetWord)) (l1 (n2 (statement Declarator) (leaf IdentifierName (codes "a")) l0))) (n1 (statement ExprStmt) (leaf IdentifierName (codes "a"))))))) (l1 (n1 (statement Block) (l1 (n1 (statement ExprStmt) (leaf IdentifierName (codes "a"))))))))

catch_without_a_name_names : referred catch_without_a_name (leaves [] catch_without_a_name) ≡ answers [] (events catch_without_a_name)
catch_without_a_name_names = refl

catch_without_a_name_faults : first_clash catch_without_a_name ≡ first_fault (events catch_without_a_name)
catch_without_a_name_faults = refl

catch_without_a_name_calls : direct_evals catch_without_a_name ≡ evals_in (events catch_without_a_name)
catch_without_a_name_calls = refl

-- { function f() {} f(); } f();
abbrev functions_in_blocks : Tree
functions_in_blocks = n2 (program Module) l0 (l2 (n1 (statement Block) (l2 (n3 (statement FunctionDecl) (leaf IdentifierName (codes "f")) l0 (n2 (program FunctionBody) l0 l0)) (n1 (statement ExprStmt) (n2 (expression Call) (leaf IdentifierName (codes "f")) l0)))) (n1 (statement ExprStmt) (n2 (expression Call) (leaf IdentifierName (codes "f")) l0)))

functions_in_blocks_names : referred functions_in_blocks (leaves [] functions_in_blocks) ≡ answers [] (events functions_in_blocks)
functions_in_blocks_names = refl

functions_in_blocks_faults : first_clash functions_in_blocks ≡ first_fault (events functions_in_blocks)
functions_in_blocks_faults = refl

functions_in_blocks_calls : direct_evals functions_in_blocks ≡ evals_in (events functions_in_blocks)
functions_in_blocks_calls = refl

-- function f(A) { <A b={c}/>; <A.b/>; <d/>; <this.e/>; }
abbrev tags : Tree
tags = n2 (program Script) l0 (l1 (n3 (statement FunctionDecl) (leaf IdentifierName (codes "f")) (l1 (leaf IdentifierName (codes "A"))) (n2 (program FunctionBody) l0 (list (part (n1 (statement ExprStmt) (n2 (jsx Element) (leaf JsxName (codes "A")) (l1 (n2 (jsx Attribute) (leaf JsxName (codes "b")) (l1 (n1 (jsx Container) (leaf IdentifierName (codes "c")))))))) (part (n1 (statement ExprStmt) (n2 (jsx Element) (n2 (jsx MemberName) (leaf JsxName (codes "A")) (l1 (leaf JsxName (codes "b")))) l0)) (part (n1 (statement ExprStmt) (n2 (jsx Element) (leaf JsxName (codes "d")) l0)) (part (n1 (statement ExprStmt) (n2 (jsx Element) (n2 (jsx MemberName) (leaf JsxName (codes "this")) (l1 (leaf JsxName (codes "e")))) l0)) none))))))))

tags_names : referred tags (leaves [] tags) ≡ answers [] (events tags)
tags_names = refl

tags_faults : first_clash tags ≡ first_fault (events tags)
tags_faults = refl

tags_calls : direct_evals tags ≡ evals_in (events tags)
tags_calls = refl

-- { let a; { var a; } }
abbrev let_before_a_var_that_passes : Tree
let_before_a_var_that_passes = n2 (program Script) l0 (l1 (n1 (statement Block) (l2 (n1 (statement (Var LetWord)) (l1 (n2 (statement Declarator) (leaf IdentifierName (codes "a")) l0))) (n1 (statement Block) (l1 (n1 (statement (Var VarWord)) (l1 (n2 (statement Declarator) (leaf IdentifierName (codes "a")) l0))))))))

let_before_a_var_that_passes_names : referred let_before_a_var_that_passes (leaves [] let_before_a_var_that_passes) ≡ answers [] (events let_before_a_var_that_passes)
let_before_a_var_that_passes_names = refl

let_before_a_var_that_passes_faults : first_clash let_before_a_var_that_passes ≡ first_fault (events let_before_a_var_that_passes)
let_before_a_var_that_passes_faults = refl

let_before_a_var_that_passes_calls : direct_evals let_before_a_var_that_passes ≡ evals_in (events let_before_a_var_that_passes)
let_before_a_var_that_passes_calls = refl

-- { { var a; } let a; }
abbrev let_behind_a_var_that_passed : Tree
let_behind_a_var_that_passed = n2 (program Script) l0 (l1 (n1 (statement Block) (l2 (n1 (statement Block) (l1 (n1 (statement (Var VarWord)) (l1 (n2 (statement Declarator) (leaf IdentifierName (codes "a")) l0))))) (n1 (statement (Var LetWord)) (l1 (n2 (statement Declarator) (leaf IdentifierName (codes "a")) l0))))))

let_behind_a_var_that_passed_names : referred let_behind_a_var_that_passed (leaves [] let_behind_a_var_that_passed) ≡ answers [] (events let_behind_a_var_that_passed)
let_behind_a_var_that_passed_names = refl

let_behind_a_var_that_passed_faults : first_clash let_behind_a_var_that_passed ≡ first_fault (events let_behind_a_var_that_passed)
let_behind_a_var_that_passed_faults = refl

let_behind_a_var_that_passed_calls : direct_evals let_behind_a_var_that_passed ≡ evals_in (events let_behind_a_var_that_passed)
let_behind_a_var_that_passed_calls = refl

-- { let a; (() => { var a; a; }); }
abbrev var_of_another_function : Tree
var_of_another_function = n2 (program Script) l0 (l1 (n1 (statement Block) (l2 (n1 (statement (Var LetWord)) (l1 (n2 (statement Declarator) (leaf IdentifierName (codes "a")) l0))) (n1 (statement ExprStmt) (n1 (expression Parenthesized) (n2 (expression ArrowBlock) l0 (n2 (program FunctionBody) l0 (l2 (n1 (statement (Var VarWord)) (l1 (n2 (statement Declarator) (leaf IdentifierName (codes "a")) l0))) (n1 (statement ExprStmt) (leaf IdentifierName (codes "a")))))))))))

var_of_another_function_names : referred var_of_another_function (leaves [] var_of_another_function) ≡ answers [] (events var_of_another_function)
var_of_another_function_names = refl

var_of_another_function_faults : first_clash var_of_another_function ≡ first_fault (events var_of_another_function)
var_of_another_function_faults = refl

var_of_another_function_calls : direct_evals var_of_another_function ≡ evals_in (events var_of_another_function)
var_of_another_function_calls = refl

-- switch (a) { case a: let a; default: { var b; } a; }
abbrev var_in_a_switch : Tree
var_in_a_switch = n2 (program Script) l0 (l1 (n2 (statement Switch) (leaf IdentifierName (codes "a")) (l2 (n2 (statement Case) (leaf IdentifierName (codes "a")) (l1 (n1 (statement (Var LetWord)) (l1 (n2 (statement Declarator) (leaf IdentifierName (codes "a")) l0))))) (n1 (statement Default) (l2 (n1 (statement Block) (l1 (n1 (statement (Var VarWord)) (l1 (n2 (statement Declarator) (leaf IdentifierName (codes "b")) l0))))) (n1 (statement ExprStmt) (leaf IdentifierName (codes "a"))))))))

var_in_a_switch_names : referred var_in_a_switch (leaves [] var_in_a_switch) ≡ answers [] (events var_in_a_switch)
var_in_a_switch_names = refl

var_in_a_switch_faults : first_clash var_in_a_switch ≡ first_fault (events var_in_a_switch)
var_in_a_switch_faults = refl

var_in_a_switch_calls : direct_evals var_in_a_switch ≡ evals_in (events var_in_a_switch)
var_in_a_switch_calls = refl

-- switch (a) { case 1: let b; case 2: let b; }
abbrev cases_are_one_scope : Tree
cases_are_one_scope = n2 (program Script) l0 (l1 (n2 (statement Switch) (leaf IdentifierName (codes "a")) (l2 (n2 (statement Case) (leaf NumericLiteral (codes "1")) (l1 (n1 (statement (Var LetWord)) (l1 (n2 (statement Declarator) (leaf IdentifierName (codes "b")) l0))))) (n2 (statement Case) (leaf NumericLiteral (codes "2")) (l1 (n1 (statement (Var LetWord)) (l1 (n2 (statement Declarator) (leaf IdentifierName (codes "b")) l0))))))))

cases_are_one_scope_names : referred cases_are_one_scope (leaves [] cases_are_one_scope) ≡ answers [] (events cases_are_one_scope)
cases_are_one_scope_names = refl

cases_are_one_scope_faults : first_clash cases_are_one_scope ≡ first_fault (events cases_are_one_scope)
cases_are_one_scope_faults = refl

cases_are_one_scope_calls : direct_evals cases_are_one_scope ≡ evals_in (events cases_are_one_scope)
cases_are_one_scope_calls = refl

-- for (const a of a) { let a; a; }
abbrev head_of_a_for : Tree
head_of_a_for = n2 (program Script) l0 (l1 (n3 (statement ForOf) (n1 (statement (ForBinding ConstWord)) (leaf IdentifierName (codes "a"))) (leaf IdentifierName (codes "a")) (n1 (statement Block) (l2 (n1 (statement (Var LetWord)) (l1 (n2 (statement Declarator) (leaf IdentifierName (codes "a")) l0))) (n1 (statement ExprStmt) (leaf IdentifierName (codes "a")))))))

head_of_a_for_names : referred head_of_a_for (leaves [] head_of_a_for) ≡ answers [] (events head_of_a_for)
head_of_a_for_names = refl

head_of_a_for_faults : first_clash head_of_a_for ≡ first_fault (events head_of_a_for)
head_of_a_for_faults = refl

head_of_a_for_calls : direct_evals head_of_a_for ≡ evals_in (events head_of_a_for)
head_of_a_for_calls = refl

-- for (let a of b) { var a; }
abbrev var_in_a_for : Tree
var_in_a_for = n2 (program Script) l0 (l1 (n3 (statement ForOf) (n1 (statement (ForBinding LetWord)) (leaf IdentifierName (codes "a"))) (leaf IdentifierName (codes "b")) (n1 (statement Block) (l1 (n1 (statement (Var VarWord)) (l1 (n2 (statement Declarator) (leaf IdentifierName (codes "a")) l0)))))))

var_in_a_for_names : referred var_in_a_for (leaves [] var_in_a_for) ≡ answers [] (events var_in_a_for)
var_in_a_for_names = refl

var_in_a_for_faults : first_clash var_in_a_for ≡ first_fault (events var_in_a_for)
var_in_a_for_faults = refl

var_in_a_for_calls : direct_evals var_in_a_for ≡ evals_in (events var_in_a_for)
var_in_a_for_calls = refl

-- for (var i = 0; i < n; i++) { i; }
abbrev var_head_of_a_for : Tree
var_head_of_a_for = n2 (program Script) l0 (l1 (n4 (statement For) (l1 (n1 (statement (ForDeclaration VarWord)) (l1 (n2 (statement Declarator) (leaf IdentifierName (codes "i")) (l1 (leaf NumericLiteral (codes "0"))))))) (l1 (n2 (expression (Binary Less)) (leaf IdentifierName (codes "i")) (leaf IdentifierName (codes "n")))) (l1 (n1 (expression (PostfixUpdate Increment)) (leaf IdentifierName (codes "i")))) (n1 (statement Block) (l1 (n1 (statement ExprStmt) (leaf IdentifierName (codes "i")))))))

var_head_of_a_for_names : referred var_head_of_a_for (leaves [] var_head_of_a_for) ≡ answers [] (events var_head_of_a_for)
var_head_of_a_for_names = refl

var_head_of_a_for_faults : first_clash var_head_of_a_for ≡ first_fault (events var_head_of_a_for)
var_head_of_a_for_faults = refl

var_head_of_a_for_calls : direct_evals var_head_of_a_for ≡ evals_in (events var_head_of_a_for)
var_head_of_a_for_calls = refl

-- [a, b.c] = d; ({ a, e: f = g, ...h } = i);
abbrev assigned_patterns : Tree
assigned_patterns = n2 (program Script) l0 (l2 (n1 (statement ExprStmt) (n2 (expression Assign) (n1 (function (ArrayPat Assigns)) (l2 (leaf IdentifierName (codes "a")) (n2 (expression Member) (leaf IdentifierName (codes "b")) (leaf IdentifierName (codes "c"))))) (leaf IdentifierName (codes "d")))) (n1 (statement ExprStmt) (n1 (expression Parenthesized) (n2 (expression Assign) (n1 (function (ObjectPat Assigns)) (l3 (n1 (function (ShorthandPat Assigns)) (leaf IdentifierName (codes "a"))) (n2 (function (PropertyPat Assigns)) (leaf IdentifierName (codes "e")) (n2 (function (WithInit Assigns)) (leaf IdentifierName (codes "f")) (leaf IdentifierName (codes "g")))) (n1 (function (RestProperty Assigns)) (leaf IdentifierName (codes "h"))))) (leaf IdentifierName (codes "i"))))))

assigned_patterns_names : referred assigned_patterns (leaves [] assigned_patterns) ≡ answers [] (events assigned_patterns)
assigned_patterns_names = refl

assigned_patterns_faults : first_clash assigned_patterns ≡ first_fault (events assigned_patterns)
assigned_patterns_faults = refl

assigned_patterns_calls : direct_evals assigned_patterns ≡ evals_in (events assigned_patterns)
assigned_patterns_calls = refl

-- let { a, b: [c, d = e], ...f } = g;
abbrev declared_patterns : Tree
declared_patterns = n2 (program Script) l0 (l1 (n1 (statement (Var LetWord)) (l1 (n2 (statement Declarator) (n1 (function (ObjectPat Binds)) (l3 (n1 (function (ShorthandPat Binds)) (leaf IdentifierName (codes "a"))) (n2 (function (PropertyPat Binds)) (leaf IdentifierName (codes "b")) (n1 (function (ArrayPat Binds)) (l2 (leaf IdentifierName (codes "c")) (n2 (function (WithInit Binds)) (leaf IdentifierName (codes "d")) (leaf IdentifierName (codes "e")))))) (n1 (function (RestProperty Binds)) (leaf IdentifierName (codes "f"))))) (l1 (leaf IdentifierName (codes "g")))))))

declared_patterns_names : referred declared_patterns (leaves [] declared_patterns) ≡ answers [] (events declared_patterns)
declared_patterns_names = refl

declared_patterns_faults : first_clash declared_patterns ≡ first_fault (events declared_patterns)
declared_patterns_faults = refl

declared_patterns_calls : direct_evals declared_patterns ≡ evals_in (events declared_patterns)
declared_patterns_calls = refl

-- ({ [m]() {}, get [x]() { var x; x; }, set y(z) { z; }, w });
abbrev methods : Tree
methods = n2 (program Script) l0 (l1 (n1 (statement ExprStmt) (n1 (expression Parenthesized) (n1 (expression Object) (list (part (n3 (function (Method InObject)) (n1 (function ComputedKey) (leaf IdentifierName (codes "m"))) l0 (n2 (program FunctionBody) l0 l0)) (part (n2 (function (Getter InObject)) (n1 (function ComputedKey) (leaf IdentifierName (codes "x"))) (n2 (program FunctionBody) l0 (l2 (n1 (statement (Var VarWord)) (l1 (n2 (statement Declarator) (leaf IdentifierName (codes "x")) l0))) (n1 (statement ExprStmt) (leaf IdentifierName (codes "x")))))) (part (n3 (function (Setter InObject)) (leaf IdentifierName (codes "y")) (leaf IdentifierName (codes "z")) (n2 (program FunctionBody) l0 (l1 (n1 (statement ExprStmt) (leaf IdentifierName (codes "z")))))) (part (n1 (expression Shorthand) (leaf IdentifierName (codes "w"))) none)))))))))

methods_names : referred methods (leaves [] methods) ≡ answers [] (events methods)
methods_names = refl

methods_faults : first_clash methods ≡ first_fault (events methods)
methods_faults = refl

methods_calls : direct_evals methods ≡ evals_in (events methods)
methods_calls = refl

-- l: for (;;) { break l; }
abbrev labels_are_no_names : Tree
labels_are_no_names = n2 (program Script) l0 (l1 (n2 (statement Label) (leaf IdentifierName (codes "l")) (n4 (statement For) l0 l0 l0 (n1 (statement Block) (l1 (n1 (statement Break) (l1 (leaf IdentifierName (codes "l")))))))))

labels_are_no_names_names : referred labels_are_no_names (leaves [] labels_are_no_names) ≡ answers [] (events labels_are_no_names)
labels_are_no_names_names = refl

labels_are_no_names_faults : first_clash labels_are_no_names ≡ first_fault (events labels_are_no_names)
labels_are_no_names_faults = refl

labels_are_no_names_calls : direct_evals labels_are_no_names ≡ evals_in (events labels_are_no_names)
labels_are_no_names_calls = refl

-- (a, [a]) => a;
abbrev equal_parameters : Tree
equal_parameters = n2 (program Script) l0 (l1 (n1 (statement ExprStmt) (n2 (expression Arrow) (l2 (leaf IdentifierName (codes "a")) (n1 (function (ArrayPat Binds)) (l1 (leaf IdentifierName (codes "a"))))) (leaf IdentifierName (codes "a")))))

equal_parameters_names : referred equal_parameters (leaves [] equal_parameters) ≡ answers [] (events equal_parameters)
equal_parameters_names = refl

equal_parameters_faults : first_clash equal_parameters ≡ first_fault (events equal_parameters)
equal_parameters_faults = refl

equal_parameters_calls : direct_evals equal_parameters ≡ evals_in (events equal_parameters)
equal_parameters_calls = refl

-- function f(a) { var a; function a() {} }
abbrev parameter_var_and_function : Tree
parameter_var_and_function = n2 (program Script) l0 (l1 (n3 (statement FunctionDecl) (leaf IdentifierName (codes "f")) (l1 (leaf IdentifierName (codes "a"))) (n2 (program FunctionBody) l0 (l2 (n1 (statement (Var VarWord)) (l1 (n2 (statement Declarator) (leaf IdentifierName (codes "a")) l0))) (n3 (statement FunctionDecl) (leaf IdentifierName (codes "a")) l0 (n2 (program FunctionBody) l0 l0))))))

parameter_var_and_function_names : referred parameter_var_and_function (leaves [] parameter_var_and_function) ≡ answers [] (events parameter_var_and_function)
parameter_var_and_function_names = refl

parameter_var_and_function_faults : first_clash parameter_var_and_function ≡ first_fault (events parameter_var_and_function)
parameter_var_and_function_faults = refl

parameter_var_and_function_calls : direct_evals parameter_var_and_function ≡ evals_in (events parameter_var_and_function)
parameter_var_and_function_calls = refl

-- function f(a) { let a; }
abbrev parameter_and_let : Tree
parameter_and_let = n2 (program Script) l0 (l1 (n3 (statement FunctionDecl) (leaf IdentifierName (codes "f")) (l1 (leaf IdentifierName (codes "a"))) (n2 (program FunctionBody) l0 (l1 (n1 (statement (Var LetWord)) (l1 (n2 (statement Declarator) (leaf IdentifierName (codes "a")) l0)))))))

parameter_and_let_names : referred parameter_and_let (leaves [] parameter_and_let) ≡ answers [] (events parameter_and_let)
parameter_and_let_names = refl

parameter_and_let_faults : first_clash parameter_and_let ≡ first_fault (events parameter_and_let)
parameter_and_let_faults = refl

parameter_and_let_calls : direct_evals parameter_and_let ≡ evals_in (events parameter_and_let)
parameter_and_let_calls = refl

-- function f() {} function f() {}
abbrev functions_in_a_module : Tree
functions_in_a_module = n2 (program Module) l0 (l2 (n3 (statement FunctionDecl) (leaf IdentifierName (codes "f")) l0 (n2 (program FunctionBody) l0 l0)) (n3 (statement FunctionDecl) (leaf IdentifierName (codes "f")) l0 (n2 (program FunctionBody) l0 l0)))

functions_in_a_module_names : referred functions_in_a_module (leaves [] functions_in_a_module) ≡ answers [] (events functions_in_a_module)
functions_in_a_module_names = refl

functions_in_a_module_faults : first_clash functions_in_a_module ≡ first_fault (events functions_in_a_module)
functions_in_a_module_faults = refl

functions_in_a_module_calls : direct_evals functions_in_a_module ≡ evals_in (events functions_in_a_module)
functions_in_a_module_calls = refl

-- import a, { b as c } from "m"; import * as b from "n"; a; b; c;
abbrev imports : Tree
imports = n2 (program Module) l0 (list (part (n2 (program Import) (n2 (program ImportBoth) (leaf IdentifierName (codes "a")) (n1 (program ImportList) (l1 (n2 (program (SpecifierAs Imported)) (leaf IdentifierName (codes "b")) (leaf IdentifierName (codes "c")))))) (leaf StringLiteral (codes "\"m\""))) (part (n2 (program Import) (n1 (program ImportAll) (leaf IdentifierName (codes "b"))) (leaf StringLiteral (codes "\"n\""))) (part (n1 (statement ExprStmt) (leaf IdentifierName (codes "a"))) (part (n1 (statement ExprStmt) (leaf IdentifierName (codes "b"))) (part (n1 (statement ExprStmt) (leaf IdentifierName (codes "c"))) none))))))

imports_names : referred imports (leaves [] imports) ≡ answers [] (events imports)
imports_names = refl

imports_faults : first_clash imports ≡ first_fault (events imports)
imports_faults = refl

imports_calls : direct_evals imports ≡ evals_in (events imports)
imports_calls = refl

-- export const a = 1; export { a };
abbrev exported_twice : Tree
exported_twice = n2 (program Module) l0 (l2 (n1 (program ExportDecl) (n1 (statement (Var ConstWord)) (l1 (n2 (statement Declarator) (leaf IdentifierName (codes "a")) (l1 (leaf NumericLiteral (codes "1"))))))) (n1 (program ExportNames) (l1 (n1 (program (Specifier Exported)) (leaf IdentifierName (codes "a"))))))

exported_twice_names : referred exported_twice (leaves [] exported_twice) ≡ answers [] (events exported_twice)
exported_twice_names = refl

exported_twice_faults : first_clash exported_twice ≡ first_fault (events exported_twice)
exported_twice_faults = refl

exported_twice_calls : direct_evals exported_twice ≡ evals_in (events exported_twice)
exported_twice_calls = refl

-- export { a, b as c }; let b;
abbrev exported_and_not_declared : Tree
exported_and_not_declared = n2 (program Module) l0 (l2 (n1 (program ExportNames) (l2 (n1 (program (Specifier Exported)) (leaf IdentifierName (codes "a"))) (n2 (program (SpecifierAs Exported)) (leaf IdentifierName (codes "b")) (leaf IdentifierName (codes "c"))))) (n1 (statement (Var LetWord)) (l1 (n2 (statement Declarator) (leaf IdentifierName (codes "b")) l0))))

exported_and_not_declared_names : referred exported_and_not_declared (leaves [] exported_and_not_declared) ≡ answers [] (events exported_and_not_declared)
exported_and_not_declared_names = refl

exported_and_not_declared_faults : first_clash exported_and_not_declared ≡ first_fault (events exported_and_not_declared)
exported_and_not_declared_faults = refl

exported_and_not_declared_calls : direct_evals exported_and_not_declared ≡ evals_in (events exported_and_not_declared)
exported_and_not_declared_calls = refl

-- let a; export { a as default }; export default class A {}
abbrev default_behind_a_name : Tree
default_behind_a_name = n2 (program Module) l0 (l3 (n1 (statement (Var LetWord)) (l1 (n2 (statement Declarator) (leaf IdentifierName (codes "a")) l0))) (n1 (program ExportNames) (l1 (n2 (program (SpecifierAs Exported)) (leaf IdentifierName (codes "a")) (leaf IdentifierName (codes "default"))))) (n1 (program ExportDefaultClass) (n3 (function ClassExpr) (l1 (leaf IdentifierName (codes "A"))) l0 l0)))

default_behind_a_name_names : referred default_behind_a_name (leaves [] default_behind_a_name) ≡ answers [] (events default_behind_a_name)
default_behind_a_name_names = refl

default_behind_a_name_faults : first_clash default_behind_a_name ≡ first_fault (events default_behind_a_name)
default_behind_a_name_faults = refl

default_behind_a_name_calls : direct_evals default_behind_a_name ≡ evals_in (events default_behind_a_name)
default_behind_a_name_calls = refl

-- export { a as b } from "m"; export * as b from "n"; a;
abbrev exported_from : Tree
exported_from = n2 (program Module) l0 (l3 (n2 (program ExportFrom) (l1 (n2 (program (SpecifierAs From)) (leaf IdentifierName (codes "a")) (leaf IdentifierName (codes "b")))) (leaf StringLiteral (codes "\"m\""))) (n2 (program ExportAllAs) (leaf IdentifierName (codes "b")) (leaf StringLiteral (codes "\"n\""))) (n1 (statement ExprStmt) (leaf IdentifierName (codes "a"))))

exported_from_names : referred exported_from (leaves [] exported_from) ≡ answers [] (events exported_from)
exported_from_names = refl

exported_from_faults : first_clash exported_from ≡ first_fault (events exported_from)
exported_from_faults = refl

exported_from_calls : direct_evals exported_from ≡ evals_in (events exported_from)
exported_from_calls = refl

-- a => { var b; a; b; c; };
abbrev arrow_of_one_name : Tree
arrow_of_one_name = n2 (program Script) l0 (l1 (n1 (statement ExprStmt) (n2 (expression BareArrowBlock) (leaf IdentifierName (codes "a")) (n2 (program FunctionBody) l0 (list (part (n1 (statement (Var VarWord)) (l1 (n2 (statement Declarator) (leaf IdentifierName (codes "b")) l0))) (part (n1 (statement ExprStmt) (leaf IdentifierName (codes "a"))) (part (n1 (statement ExprStmt) (leaf IdentifierName (codes "b"))) (part (n1 (statement ExprStmt) (leaf IdentifierName (codes "c"))) none)))))))))

arrow_of_one_name_names : referred arrow_of_one_name (leaves [] arrow_of_one_name) ≡ answers [] (events arrow_of_one_name)
arrow_of_one_name_names = refl

arrow_of_one_name_faults : first_clash arrow_of_one_name ≡ first_fault (events arrow_of_one_name)
arrow_of_one_name_faults = refl

arrow_of_one_name_calls : direct_evals arrow_of_one_name ≡ evals_in (events arrow_of_one_name)
arrow_of_one_name_calls = refl

-- (eval)(a); eval?.(b); (() => eval(eval(c)));
abbrev evals : Tree
evals = n2 (program Script) l0 (l3 (n1 (statement ExprStmt) (n2 (expression Call) (n1 (expression Parenthesized) (leaf IdentifierName (codes "eval"))) (l1 (leaf IdentifierName (codes "a"))))) (n1 (statement ExprStmt) (n2 (expression Chain) (leaf IdentifierName (codes "eval")) (l1 (n1 (expression (CallLink true)) (l1 (leaf IdentifierName (codes "b"))))))) (n1 (statement ExprStmt) (n1 (expression Parenthesized) (n2 (expression Arrow) l0 (n2 (expression Call) (leaf IdentifierName (codes "eval")) (l1 (n2 (expression Call) (leaf IdentifierName (codes "eval")) (l1 (leaf IdentifierName (codes "c"))))))))))

evals_names : referred evals (leaves [] evals) ≡ answers [] (events evals)
evals_names = refl

evals_faults : first_clash evals ≡ first_fault (events evals)
evals_faults = refl

evals_calls : direct_evals evals ≡ evals_in (events evals)
evals_calls = refl
