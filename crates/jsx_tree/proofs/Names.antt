-- Names and what they refer to, and declarations that clash, on examples. A path numbers the parts: of a program 0 its directives and 1 its statements.
use Rattle.std.specs.Prelude.{◌≡◌, [], ◌∷◌, codes, true, false, refl, Some}
use Rattle.jsx_base.specs.Token.{IdentifierName, JsxName, NumericLiteral}
use Rattle.jsx_tree.specs.Kinds.{VarWord, LetWord, Exported, Module, Script, FunctionBody, SpecifierAs, ExportNames, ExportDefaultExpr, Block, Var, Declarator, ExprStmt, Try, Catch, FunctionDecl, InClass, Binds, ClassExpr, Method, ComputedKey, ObjectPat, ShorthandInit, WithInit, Call, Chain, CallLink, Parenthesized, Element, program, statement, function, expression, jsx, Tree, leaf}
use Rattle.jsx_tree.specs.Scopes.{Bound, Free, refers}
use Rattle.jsx_tree.specs.Clashes.{AtName, AtDefault, clashes, direct_evals}
use Rattle.jsx_tree.proofs.Samples.{l0, l1, l2, l3, n1, n2, n3}

-- let x; { let x; var y; x; } y;
abbrev blocks_hide : Tree
blocks_hide = n2 (program Script) l0 (l3 (n1 (statement (Var LetWord)) (l1 (n2 (statement Declarator) (leaf IdentifierName (codes "x")) l0))) (n1 (statement Block) (l3 (n1 (statement (Var LetWord)) (l1 (n2 (statement Declarator) (leaf IdentifierName (codes "x")) l0))) (n1 (statement (Var VarWord)) (l1 (n2 (statement Declarator) (leaf IdentifierName (codes "y")) l0))) (n1 (statement ExprStmt) (leaf IdentifierName (codes "x"))))) (n1 (statement ExprStmt) (leaf IdentifierName (codes "y"))))

blocks_hide_1 : refers blocks_hide (1 ∷ 1 ∷ 0 ∷ 2 ∷ 0 ∷ []) ≡ Some (Bound (1 ∷ 1 ∷ []) false (codes "x"))
blocks_hide_1 = refl

-- function f(a = b) { var b; b; a; }
abbrev parameters_see_no_body : Tree
parameters_see_no_body = n2 (program Script) l0 (l1 (n3 (statement FunctionDecl) (leaf IdentifierName (codes "f")) (l1 (n2 (function (WithInit Binds)) (leaf IdentifierName (codes "a")) (leaf IdentifierName (codes "b")))) (n2 (program FunctionBody) l0 (l3 (n1 (statement (Var VarWord)) (l1 (n2 (statement Declarator) (leaf IdentifierName (codes "b")) l0))) (n1 (statement ExprStmt) (leaf IdentifierName (codes "b"))) (n1 (statement ExprStmt) (leaf IdentifierName (codes "a")))))))

parameters_see_no_body_1 : refers parameters_see_no_body (1 ∷ 0 ∷ 1 ∷ 0 ∷ 1 ∷ []) ≡ Some (Free (codes "b"))
parameters_see_no_body_1 = refl

parameters_see_no_body_2 : refers parameters_see_no_body (1 ∷ 0 ∷ 2 ∷ 1 ∷ 1 ∷ 0 ∷ []) ≡ Some (Bound (1 ∷ 0 ∷ []) false (codes "b"))
parameters_see_no_body_2 = refl

-- (class B extends B { [B]() { B; } })
abbrev own_name_of_a_class : Tree
own_name_of_a_class = n2 (program Script) l0 (l1 (n1 (statement ExprStmt) (n1 (expression Parenthesized) (n3 (function ClassExpr) (l1 (leaf IdentifierName (codes "B"))) (l1 (leaf IdentifierName (codes "B"))) (l1 (n3 (function (Method InClass)) (n1 (function ComputedKey) (leaf IdentifierName (codes "B"))) l0 (n2 (program FunctionBody) l0 (l1 (n1 (statement ExprStmt) (leaf IdentifierName (codes "B")))))))))))

own_name_of_a_class_1 : refers own_name_of_a_class (1 ∷ 0 ∷ 0 ∷ 0 ∷ 1 ∷ 0 ∷ []) ≡ Some (Bound (1 ∷ 0 ∷ 0 ∷ 0 ∷ []) true (codes "B"))
own_name_of_a_class_1 = refl

-- try {} catch ({ a = b }) { let b; }
abbrev catch_pattern_sees_no_block : Tree
catch_pattern_sees_no_block = n2 (program Script) l0 (l1 (n3 (statement Try) (n1 (statement Block) l0) (l1 (n2 (statement Catch) (l1 (n1 (function (ObjectPat Binds)) (l1 (n2 (function (ShorthandInit Binds)) (leaf IdentifierName (codes "a")) (leaf IdentifierName (codes "b")))))) (n1 (statement Block) (l1 (n1 (statement (Var LetWord)) (l1 (n2 (statement Declarator) (leaf IdentifierName (codes "b")) l0))))))) l0))

catch_pattern_sees_no_block_1 : refers catch_pattern_sees_no_block (1 ∷ 0 ∷ 1 ∷ 0 ∷ 0 ∷ 0 ∷ 0 ∷ 0 ∷ 1 ∷ []) ≡ Some (Free (codes "b"))
catch_pattern_sees_no_block_1 = refl

-- { function f() {} f(); } f();
abbrev functions_in_blocks : Tree
functions_in_blocks = n2 (program Module) l0 (l2 (n1 (statement Block) (l2 (n3 (statement FunctionDecl) (leaf IdentifierName (codes "f")) l0 (n2 (program FunctionBody) l0 l0)) (n1 (statement ExprStmt) (n2 (expression Call) (leaf IdentifierName (codes "f")) l0)))) (n1 (statement ExprStmt) (n2 (expression Call) (leaf IdentifierName (codes "f")) l0)))

functions_in_blocks_1 : refers functions_in_blocks (1 ∷ 1 ∷ 0 ∷ 0 ∷ []) ≡ Some (Free (codes "f"))
functions_in_blocks_1 = refl

-- function f(A) { <A/>; }
abbrev tag_of_a_parameter : Tree
tag_of_a_parameter = n2 (program Script) l0 (l1 (n3 (statement FunctionDecl) (leaf IdentifierName (codes "f")) (l1 (leaf IdentifierName (codes "A"))) (n2 (program FunctionBody) l0 (l1 (n1 (statement ExprStmt) (n2 (jsx Element) (leaf JsxName (codes "A")) l0))))))

tag_of_a_parameter_1 : refers tag_of_a_parameter (1 ∷ 0 ∷ 2 ∷ 1 ∷ 0 ∷ 0 ∷ 0 ∷ []) ≡ Some (Bound (1 ∷ 0 ∷ []) false (codes "A"))
tag_of_a_parameter_1 = refl

-- let a; var a;
let_and_var : clashes (n2 (program Script) l0 (l2 (n1 (statement (Var LetWord)) (l1 (n2 (statement Declarator) (leaf IdentifierName (codes "a")) l0))) (n1 (statement (Var VarWord)) (l1 (n2 (statement Declarator) (leaf IdentifierName (codes "a")) l0))))) ≡ AtName (1 ∷ 1 ∷ 0 ∷ 0 ∷ 0 ∷ []) ∷ []
let_and_var = refl

-- { let a; { var a; } }
let_before_a_var_that_passes : clashes (n2 (program Script) l0 (l1 (n1 (statement Block) (l2 (n1 (statement (Var LetWord)) (l1 (n2 (statement Declarator) (leaf IdentifierName (codes "a")) l0))) (n1 (statement Block) (l1 (n1 (statement (Var VarWord)) (l1 (n2 (statement Declarator) (leaf IdentifierName (codes "a")) l0))))))))) ≡ AtName (1 ∷ 0 ∷ 0 ∷ 1 ∷ 0 ∷ 0 ∷ 0 ∷ 0 ∷ 0 ∷ []) ∷ []
let_before_a_var_that_passes = refl

-- try {} catch (a) { var a; }
catch_name_and_var : clashes (n2 (program Script) l0 (l1 (n3 (statement Try) (n1 (statement Block) l0) (l1 (n2 (statement Catch) (l1 (leaf IdentifierName (codes "a"))) (n1 (statement Block) (l1 (n1 (statement (Var VarWord)) (l1 (n2 (statement Declarator) (leaf IdentifierName (codes "a")) l0))))))) l0))) ≡ AtName (1 ∷ 0 ∷ 1 ∷ 0 ∷ 1 ∷ 0 ∷ 0 ∷ 0 ∷ 0 ∷ 0 ∷ []) ∷ []
catch_name_and_var = refl

-- let a; export { a as default }; export default 1;
default_behind_a_name : clashes (n2 (program Module) l0 (l3 (n1 (statement (Var LetWord)) (l1 (n2 (statement Declarator) (leaf IdentifierName (codes "a")) l0))) (n1 (program ExportNames) (l1 (n2 (program (SpecifierAs Exported)) (leaf IdentifierName (codes "a")) (leaf IdentifierName (codes "default"))))) (n1 (program ExportDefaultExpr) (leaf NumericLiteral (codes "1"))))) ≡ AtDefault (1 ∷ 2 ∷ []) ∷ []
default_behind_a_name = refl

-- (eval)(a); eval?.(b);
evals : direct_evals (n2 (program Script) l0 (l2 (n1 (statement ExprStmt) (n2 (expression Call) (n1 (expression Parenthesized) (leaf IdentifierName (codes "eval"))) (l1 (leaf IdentifierName (codes "a"))))) (n1 (statement ExprStmt) (n2 (expression Chain) (leaf IdentifierName (codes "eval")) (l1 (n1 (expression (CallLink true)) (l1 (leaf IdentifierName (codes "b"))))))))) ≡ (1 ∷ 0 ∷ 0 ∷ 0 ∷ 0 ∷ []) ∷ []
evals = refl
