-- Static rules, computed.
use Rattle.std.specs.Prelude.{◌≡◌, codes, Bool, true, false, refl}
use Prim.Native.String.{String}
use Rattle.jsx_base.specs.Token.{NoSubstitution}
use Rattle.jsx_tree.specs.Kinds.{ConstWord, Module, Script, FunctionBody, Directive, Block, Var, Declarator, Empty, If, While, For, Continue, Break, Return, Label, FunctionDecl, ClassDecl, InClass, Method, ComputedKey, InOp, Delete, Arrow, Binary, Unary, Index, SuperCall, SuperMember, ImportMeta, Parenthesized, PlainTemplate, program, statement, function, expression, Tree, leaf}
use Rattle.jsx_tree.specs.StaticRules.{outside, legal}
use Rattle.jsx_tree.proofs.Samples.{n, str, n0, n1, n2, n3, n4, l0, l1, stmt, script}

abbrev ok : Tree → Bool
ok t = legal outside t

abbrev fn : Tree → Tree
fn s = script (l1 (n3 (statement FunctionDecl) (n "f") l0 (n2 (program FunctionBody) l0 (l1 s))))

r1 : ok (script (l1 (n1 (statement Return) l0))) ≡ false
r1 = refl

r2 : ok (fn (n1 (statement Return) l0)) ≡ true
r2 = refl

r3 : ok (fn (n1 (statement Break) l0)) ≡ false
r3 = refl

r4 : ok (fn (n2 (statement While) (n "a") (n1 (statement Block) (l1 (n1 (statement Continue) l0))))) ≡ true
r4 = refl

r5 : ok (fn (n2 (statement Label) (n "x") (n2 (statement While) (n "a") (n1 (statement Continue) (l1 (n "x")))))) ≡ true
r5 = refl

r6 : ok (fn (n2 (statement Label) (n "x") (n1 (statement Block) (l1 (n2 (statement While) (n "a") (n1 (statement Continue) (l1 (n "x")))))))) ≡ false
r6 = refl

r7 : ok (fn (n2 (statement Label) (n "x") (n2 (statement Label) (n "x") (n0 (statement Empty))))) ≡ false
r7 = refl

r8 : ok (script (l1 (stmt (n0 (expression ImportMeta))))) ≡ false
r8 = refl

r9 : ok (n2 (program Module) l0 (l1 (stmt (n0 (expression ImportMeta))))) ≡ true
r9 = refl

abbrev class_of_one : Tree → Tree → Tree
class_of_one x m = n2 (program Module) l0 (l1 (n3 (statement ClassDecl) (n "A") x (l1 m)))

abbrev method : String → Tree → Tree
method k s = n3 (function (Method InClass)) (n k) l0 (n2 (program FunctionBody) l0 (l1 s))

-- super() in the constructor of a class with `extends`, in an arrow of it too, and nowhere else
r10 : ok (class_of_one (l1 (n "b")) (method "constructor" (stmt (n1 (expression SuperCall) l0)))) ≡ true
r10 = refl

r11 : ok (class_of_one (l1 (n "b")) (method "constructor" (stmt (n2 (expression Arrow) l0 (n1 (expression SuperCall) l0))))) ≡ true
r11 = refl

r12 : ok (class_of_one l0 (method "constructor" (stmt (n1 (expression SuperCall) l0)))) ≡ false
r12 = refl

r13 : ok (class_of_one (l1 (n "b")) (method "other" (stmt (n1 (expression SuperCall) l0)))) ≡ false
r13 = refl

-- a computed key doesn't stand in its method
r14 : ok (class_of_one l0 (n3 (function (Method InClass)) (n1 (function ComputedKey) (n1 (expression SuperMember) (n "x"))) l0 (n2 (program FunctionBody) l0 l0))) ≡ false
r14 = refl

r15 : ok (class_of_one l0 (method "m" (stmt (n1 (expression SuperMember) (n "x"))))) ≡ true
r15 = refl

r16 : ok (script (l1 (stmt (n1 (expression (Unary Delete)) (n1 (expression Parenthesized) (n "a")))))) ≡ false
r16 = refl

r17 : ok (script (l1 (n1 (statement (Var ConstWord)) (l1 (n2 (statement Declarator) (n "a") l0))))) ≡ false
r17 = refl

-- a function in a block of sloppy and of strict code
r18 : ok (script (l1 (n1 (statement Block) (l1 (n3 (statement FunctionDecl) (n "f") l0 (n2 (program FunctionBody) l0 l0)))))) ≡ false
r18 = refl

r19 : ok (n2 (program Script) (l1 (n1 (program Directive) (str "'use strict'"))) (l1 (n1 (statement Block) (l1 (n3 (statement FunctionDecl) (n "f") l0 (n2 (program FunctionBody) l0 l0)))))) ≡ true
r19 = refl

r20 : ok (n4 (statement For) (l1 (n2 (expression (Binary InOp)) (n "a") (n "b"))) l0 l0 (n0 (statement Empty))) ≡ false
r20 = refl

r21 : ok (n4 (statement For) (l1 (n2 (expression Index) (n "a") (n2 (expression (Binary InOp)) (n "a") (n "b")))) l0 l0 (n0 (statement Empty))) ≡ true
r21 = refl

r22 : ok (n3 (statement If) (n "a") (n2 (statement While) (n "b") (n3 (statement If) (n "a") (n0 (statement Empty)) l0)) (l1 (n0 (statement Empty)))) ≡ false
r22 = refl

r23 : ok (n1 (expression (PlainTemplate false)) (leaf NoSubstitution (codes "`\\u{}`"))) ≡ false
r23 = refl

r24 : ok (n1 (expression (PlainTemplate true)) (leaf NoSubstitution (codes "`\\u{}`"))) ≡ true
r24 = refl

r25 : ok (n1 (expression (PlainTemplate false)) (leaf NoSubstitution (codes "`\n\\u{41}\\``"))) ≡ true
r25 = refl
