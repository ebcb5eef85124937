-- Depths, normal forms and parentheses, computed.
use Rattle.std.specs.Prelude.{◌≡◌, ℕ, codes, Bool, true, false, refl, ◌&&◌}
use Prim.Native.String.{String}
use Rattle.jsx_base.specs.Token.{NoSubstitution, JsxName, same}
use Rattle.jsx_tree.specs.Kinds.{VarWord, Imported, Module, FunctionBody, Specifier, SpecifierAs, Declarator, Empty, If, For, ForDeclaration, ForOf, InObject, Binds, Assigns, Method, ComputedKey, ArrayPat, ObjectPat, PropertyPat, ShorthandInit, WithInit, Nullish, Or, InOp, Add, Multiply, Exponentiate, Negative, Seq, Assign, Arrow, BareArrow, Binary, Unary, Call, Member, New, NewWithoutArguments, Chain, NameLink, Array, Object, Property, Shorthand, Parenthesized, PlainTemplate, Element, Fragment, program, statement, function, expression, jsx, Tree, leaf}
use Rattle.jsx_tree.specs.Spelling.{spelled}
use Rattle.jsx_tree.specs.Form.{is}
use Rattle.jsx_tree.specs.Nonterminals.{Expr}
use Rattle.jsx_tree.specs.Layout.{layout}
use Rattle.jsx_tree.specs.Reading.{reads}
use Rattle.jsx_tree.specs.Depth.{deep, depth, front}
use Rattle.jsx_tree.specs.Normal.{nf}
use Rattle.jsx_tree.specs.Parentheses.{parenthesise}
use Rattle.jsx_tree.proofs.Samples.{n, num, str, n0, n1, n2, n3, n4, l0, l1, l2, l3, short, stmt, script, sample_if}

-- a: 1, a + b: 2, (a): 2, a.b: 2, f(): 2, f(g(a)): 3, if (a) b; is 2, `x`: 2
d1 : depth (n "a") ≡ 1
d1 = refl

d2 : depth (n2 (expression (Binary Add)) (n2 (expression (Binary Add)) (n "a") (n "b")) (n "c")) ≡ 3
d2 = refl

d3 : depth (n2 (expression Call) (n "f") (l1 (n2 (expression Call) (n "g") (l1 (n "a"))))) ≡ 3
d3 = refl

d4 : depth sample_if ≡ 4
d4 = refl

d5 : depth (n1 (expression (PlainTemplate false)) (leaf NoSubstitution (codes "`x`"))) ≡ 2
d5 = refl

-- fronts of a + b: `a`, `a +`, `a + b`
d6 : deep (front 1 (spelled (n2 (expression (Binary Add)) (n "a") (n "b")))) ≡ 1
d6 = refl

d7 : deep (front 2 (spelled (n2 (expression (Binary Add)) (n "a") (n "b")))) ≡ 2
d7 = refl

-- `[ a` counts alike as a literal and as a pattern
d8 : deep (front 2 (spelled (n2 (expression Assign) (n1 (function (ArrayPat Assigns)) (l1 (n2 (function (WithInit Assigns)) (n "a") (n "b")))) (n "c")))) ≡ deep (front 2 (spelled (n1 (expression Array) (l1 (n2 (expression Assign) (n "a") (n "b"))))))
d8 = refl

d9 : deep (front 3 (spelled (n2 (expression Assign) (n1 (function (ArrayPat Assigns)) (l1 (n2 (function (WithInit Assigns)) (n "a") (n "b")))) (n "c")))) ≡ deep (front 3 (spelled (n1 (expression Array) (l1 (n2 (expression Assign) (n "a") (n "b"))))))
d9 = refl

-- normal forms
nf1 : nf (stmt (n1 (expression Parenthesized) (n1 (expression Object) (l2 (n1 (expression Shorthand) (n "a")) (n1 (expression Shorthand) (n "__proto__")))))) ≡ stmt (n1 (expression Object) (l2 (n2 (expression Property) (n "a") (n "a")) (n2 (expression Property) (n1 (function ComputedKey) (str "\"__proto__\"")) (n "__proto__"))))
nf1 = refl

nf2 : nf (script (l3 (n0 (statement Empty)) (stmt (n2 (expression BareArrow) (n "a") (n1 (expression NewWithoutArguments) (n "b")))) (n3 (statement If) (n "a") (n0 (statement Empty)) (l1 (n0 (statement Empty)))))) ≡ script (l2 (stmt (n2 (expression Arrow) (l1 (n "a")) (n2 (expression New) (n "b") l0))) (n3 (statement If) (n "a") (n0 (statement Empty)) (l1 (n0 (statement Empty)))))
nf2 = refl

nf3 : nf (n1 (function (ObjectPat Binds)) (l2 (short "a") (n2 (function (ShorthandInit Binds)) (n "b") (n "c")))) ≡ n1 (function (ObjectPat Binds)) (l2 (n2 (function (PropertyPat Binds)) (n "a") (n "a")) (n2 (function (PropertyPat Binds)) (n "b") (n2 (function (WithInit Binds)) (n "b") (n "c"))))
nf3 = refl

nf4 : nf (n1 (program (Specifier Imported)) (n "a")) ≡ n2 (program (SpecifierAs Imported)) (n "a") (n "a")
nf4 = refl

-- parentheses: the text, and that the tree then reads it
abbrev writes : Tree → String → Bool
writes t s = same (layout (parenthesise t)) (codes s) && reads (codes s) (parenthesise t)

abbrev one : Tree → Tree
one e = n2 (program Module) l0 (l1 (stmt e))

w1 : writes (one (n2 (expression (Binary Multiply)) (n2 (expression (Binary Add)) (n "a") (n "b")) (n "c"))) "(a + b) * c;\n" ≡ true
w1 = refl

w2 : writes (one (n2 (expression Member) (n1 (expression Object) l0) (n "a"))) "({}.a);\n" ≡ true
w2 = refl

w3 : writes (one (n2 (expression Arrow) l0 (n2 (expression Member) (n1 (expression Object) l0) (n "a")))) "() => ({}.a);\n" ≡ true
w3 = refl

w4 : writes (one (str "\"use strict\"")) "(\"use strict\");\n" ≡ true
w4 = refl

w5 : writes (one (n2 (expression New) (n2 (expression Member) (n2 (expression Call) (n "a") l0) (n "b")) l0)) "new (a().b)();\n" ≡ true
w5 = refl

w6 : writes (one (n2 (expression Member) (n2 (expression Chain) (n "a") (l1 (n1 (expression (NameLink true)) (n "b")))) (n "c"))) "(a?.b).c;\n" ≡ true
w6 = refl

w7 : writes (one (n2 (expression Member) (num "1") (n "c"))) "(1).c;\n" ≡ true
w7 = refl

w8 : writes (n2 (program Module) l0 (l1 (n3 (statement ForOf) (n "async") (n "b") (n0 (statement Empty))))) "for ((async) of b) ;\n" ≡ true
w8 = refl

w9 : writes (n2 (program Module) l0 (l1 (n4 (statement For) (l1 (n1 (statement (ForDeclaration VarWord)) (l1 (n2 (statement Declarator) (n "a") (l1 (n1 (expression Seq) (l2 (n2 (expression (Binary InOp)) (n "b") (n "c")) (n "d")))))))) l0 l0 (n0 (statement Empty))))) "for (var a = (b in c, d);;) ;\n" ≡ true
w9 = refl

w10 : writes (n2 (program Module) l0 (l1 (n4 (statement For) (l1 (n1 (statement (ForDeclaration VarWord)) (l1 (n2 (statement Declarator) (n "a") (l1 (n2 (expression (Binary Add)) (n1 (expression Array) (l1 (n2 (expression (Binary InOp)) (n "b") (n "c")))) (n2 (expression (Binary InOp)) (n "b") (n "c")))))))) l0 l0 (n0 (statement Empty))))) "for (var a = [b in c] + (b in c);;) ;\n" ≡ true
w10 = refl

w11 : writes (one (n2 (expression (Binary Nullish)) (n2 (expression (Binary Nullish)) (n "a") (n2 (expression (Binary Or)) (n "b") (n "c"))) (n "d"))) "a ?? (b || c) ?? d;\n" ≡ true
w11 = refl

w12 : writes (one (n2 (expression Assign) (n "a") (n2 (expression Call) (n1 (expression Seq) (l2 (n "a") (n "b"))) (l1 (n1 (expression Seq) (l2 (n "a") (n "b"))))))) "a = (a, b)((a, b));\n" ≡ true
w12 = refl

w13 : writes (one (n2 (expression (Binary Exponentiate)) (n1 (expression (Unary Negative)) (num "1")) (n1 (expression (Unary Negative)) (num "1")))) "(-1) ** -1;\n" ≡ true
w13 = refl

-- `{ a` counts alike as shorthand, pair, method and pattern, and `{ a =` alike in both patterns
abbrev front_of : ℕ → Tree → ℕ
front_of k t = deep (front k (spelled t))

f1 : front_of 2 (n1 (expression Object) (l1 (n1 (expression Shorthand) (n "a")))) ≡ 3
f1 = refl

f2 : front_of 2 (n1 (expression Object) (l1 (n2 (expression Property) (n "a") (n "b")))) ≡ 3
f2 = refl

f3 : front_of 2 (n1 (expression Object) (l1 (n3 (function (Method InObject)) (n "a") l0 (n2 (program FunctionBody) l0 l0)))) ≡ 3
f3 = refl

f4 : front_of 2 (n1 (function (ObjectPat Binds)) (l1 (n2 (function (ShorthandInit Binds)) (n "a") (n "b")))) ≡ 3
f4 = refl

f5 : front_of 4 (n1 (function (ObjectPat Binds)) (l1 (n2 (function (ShorthandInit Binds)) (n "a") (n "b")))) ≡ 4
f5 = refl

f6 : front_of 3 (n1 (jsx Fragment) (l1 (n2 (jsx Element) (leaf JsxName (codes "a")) l0))) ≡ 1
f6 = refl

f7 : is (Expr 0) (num "1_") ≡ false
f7 = refl
