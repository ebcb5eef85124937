-- Layout, computed: exact texts, with comments.
use Rattle.std.specs.Prelude.{◌≡◌, ℕ, List, [], ◌∷◌, codes, true, false, refl, cond, nat_eq}
use Prim.Native.String.{String}
use Rattle.jsx_base.specs.Token.{Text, same}
use Rattle.jsx_tree.specs.Kinds.{Tree, VarWord, LetWord, ConstWord, ExportDefaultExpr, Var, Declarator, If, While, Return, Switch, Default, ClassDecl, InObject, Binds, Assigns, Method, ObjectPat, PropertyPat, ShorthandInit, RestProperty, Less, Subtract, Delete, Void, TypeOf, Negative, Not, Decrement, Seq, ArrowBlock, BareArrow, BareArrowBlock, Cond, Binary, Unary, PrefixUpdate, PostfixUpdate, Property, Shorthand, Spread, program, statement, function, expression}
use Rattle.jsx_tree.specs.Spelling.{spelled}
use Rattle.jsx_tree.specs.Layout.{Note, laid, printed, Own, Beside}
use Rattle.jsx_tree.proofs.Samples.{n, num, str, n1, n2, n3, l0, l1, l2, l3, short, stmt, script, module_of, body_of, add, call, dot, set_to, object_of, arrow, block, empty, prints}

-- a comment on a line of its own before token k, one before the end
abbrev own_at : ℕ → String → ℕ → List Note
own_at k c i = cond (nat_eq k i) (Own (codes c) ∷ []) []

abbrev with_comment : ℕ → String → Tree → Text
with_comment k c t = laid (own_at k c) 0 [] [] false (spelled t)

-- the tokens are counted with their semicolons: a ; b ;
comment_first : same (with_comment 0 "// c" (script (l2 (stmt (n "a")) (stmt (n "b"))))) (codes "// c\na;\nb;\n") ≡ true
comment_first = refl

comment_second : same (with_comment 2 "// c" (script (l2 (stmt (n "a")) (stmt (n "b"))))) (codes "a;\n// c\nb;\n") ≡ true
comment_second = refl

comment_last : same (with_comment 4 "// c" (script (l2 (stmt (n "a")) (stmt (n "b"))))) (codes "a;\nb;\n// c\n") ≡ true
comment_last = refl

comment_alone : same (with_comment 0 "/* c */" (script l0)) (codes "/* c */\n") ≡ true
comment_alone = refl

comment_inside : same (with_comment 1 "// c" (script (l1 (block (l1 (stmt (n "a"))))))) (codes "{\n    // c\n    a;\n}\n") ≡ true
comment_inside = refl

comment_in_case : same (with_comment 7 "// c" (script (l1 (n2 (statement Switch) (n "a") (l1 (n1 (statement Default) (l1 (stmt (n "b"))))))))) (codes "switch (a) {\n    default:\n        // c\n        b;\n}\n") ≡ true
comment_in_case = refl

-- an own-line comment before a token that a mark leads
comment_and_mark : same (laid (λ i. cond (nat_eq 0 i) (Own (codes "// c") ∷ Beside (codes "/*#__PURE__*/") ∷ []) []) 0 [] [] false (spelled (script (l1 (stmt (call (n "f") l0)))))) (codes "// c\n/*#__PURE__*/ f();\n") ≡ true
comment_and_mark = refl

-- nothing at all
empty_text : printed (script l0) ≡ []
empty_text = refl

-- empty statements of lists are dropped, as a body they stay
empties : prints (script (l3 empty (n2 (statement While) (n "a") empty) (block (l2 empty (stmt (n "b")))))) "while (a) ;\n{\n    b;\n}\n" ≡ true
empties = refl

-- braces: a blank inside where something stands in them, nothing where nothing does
braces_texts : prints (script (l1 (stmt (set_to (n "a") (object_of (l2 (n2 (expression Property) (n "b") (object_of l0)) (n1 (expression Shorthand) (n "c")))))))) "a = { b: {}, c };\n" ≡ true
braces_texts = refl

pattern_texts : prints (script (l1 (n1 (statement (Var LetWord)) (l2 (n2 (statement Declarator) (n1 (function (ObjectPat Binds)) l0) (l1 (n "a"))) (n2 (statement Declarator) (n1 (function (ObjectPat Binds)) (l3 (short "b") (n2 (function (ShorthandInit Binds)) (n "c") (num "1")) (n1 (function (RestProperty Binds)) (n "d")))) (l1 (n "e"))))))) "let {} = a, { b, c = 1, ...d } = e;\n" ≡ true
pattern_texts = refl

-- an arrow's parameters stand in parentheses
bare_arrow : prints (script (l1 (stmt (n2 (expression BareArrowBlock) (n "a") (body_of l0))))) "(a) => {};\n" ≡ true
bare_arrow = refl

arrow_object : prints (script (l1 (stmt (n2 (expression BareArrow) (n "a") (object_of l0))))) "(a) => ({});\n" ≡ true
arrow_object = refl

arrow_seq : prints (script (l1 (stmt (arrow l0 (n1 (expression Seq) (l2 (n "a") (n "b"))))))) "() => (a, b);\n" ≡ true
arrow_seq = refl

-- signs: one blank where two equal ones would join
signs : prints (script (l1 (stmt (n2 (expression (Binary Subtract)) (n1 (expression (PostfixUpdate Decrement)) (n "a")) (n1 (expression (Unary Negative)) (n1 (expression (PrefixUpdate Decrement)) (n "b"))))))) "a-- - - --b;\n" ≡ true
signs = refl

words : prints (script (l1 (stmt (n1 (expression (Unary TypeOf)) (n1 (expression (Unary Void)) (n1 (expression (Unary Not)) (n1 (expression (Unary Delete)) (dot (n "a") "b")))))))) "typeof void !delete a.b;\n" ≡ true
words = refl

not_comment : prints (script (l1 (stmt (n2 (expression (Binary Less)) (n "a") (n1 (expression (Unary Not)) (n1 (expression (PrefixUpdate Decrement)) (n "b"))))))) "a < !--b;\n" ≡ true
not_comment = refl

-- parentheses
call_callee : prints (script (l1 (stmt (call (arrow l0 (n "a")) l0)))) "(() => a)();\n" ≡ true
call_callee = refl

cond_parts : prints (script (l1 (stmt (n3 (expression Cond) (n3 (expression Cond) (n "a") (n "b") (n "c")) (n1 (expression Seq) (l2 (n "d") (n "e"))) (set_to (n "f") (n "g")))))) "(a ? b : c) ? (d, e) : f = g;\n" ≡ true
cond_parts = refl

spread_seq : prints (script (l1 (stmt (call (n "f") (l1 (n1 (expression Spread) (n1 (expression Seq) (l2 (n "a") (n "b"))))))))) "f(...(a, b));\n" ≡ true
spread_seq = refl

assign_object : prints (script (l1 (stmt (set_to (n1 (function (ObjectPat Assigns)) l0) (n "a"))))) "({} = a);\n" ≡ true
assign_object = refl

heritage : prints (script (l1 (n3 (statement ClassDecl) (n "A") (l1 (add (n "a") (n "b"))) l0))) "class A extends (a + b) {}\n" ≡ true
heritage = refl

-- nested blocks, and a function as an argument
nested : prints (script (l1 (stmt (call (n "f") (l2 (n2 (expression ArrowBlock) l0 (body_of (l1 (n3 (statement If) (n "a") (block (l1 (n1 (statement Return) (l1 (n "b"))))) l0)))) (n "c")))))) "f(() => {\n    if (a) {\n        return b;\n    }\n}, c);\n" ≡ true
nested = refl

-- code that the compiler writes
handles : prints (module_of (l3 (stmt (set_to (n "_c") (n "App"))) (n1 (statement (Var VarWord)) (l1 (n2 (statement Declarator) (n "_c") l0))) (stmt (call (n "$RefreshReg$") (l2 (n "_c") (str "\"App\"")))))) "_c = App;\nvar _c;\n$RefreshReg$(_c, \"App\");\n" ≡ true
handles = refl

default_memo : prints (module_of (l1 (n1 (program ExportDefaultExpr) (set_to (n "_c") (call (n "memo") (l1 (set_to (n "_c1") (call (n "forwardRef") (l1 (set_to (n "_c2") (arrow l0 (n "null")))))))))))) "export default _c = memo(_c1 = forwardRef(_c2 = () => null));\n" ≡ true
default_memo = refl

require_statement : prints (script (l1 (n1 (statement (Var ConstWord)) (l1 (n2 (statement Declarator) (n1 (function (ObjectPat Binds)) (l1 (n2 (function (PropertyPat Binds)) (n "jsx") (n "_jsx")))) (l1 (call (n "require") (l1 (str "\"react/jsx-runtime\""))))))))) "const { jsx: _jsx } = require(\"react/jsx-runtime\");\n" ≡ true
require_statement = refl

display_name : prints (script (l1 (n1 (statement (Var ConstWord)) (l1 (n2 (statement Declarator) (n "A") (l1 (call (n "createReactClass") (l1 (object_of (l2 (n3 (function (Method InObject)) (n "render") l0 (body_of l0)) (n2 (expression Property) (n "displayName") (str "\"A\"")))))))))))) "const A = createReactClass({ render() {}, displayName: \"A\" });\n" ≡ true
display_name = refl
