-- Corners of the grammar and of parentheses (ECMA-262 sections 13 to 15), computed.
use Rattle.std.specs.Prelude.{◌≡◌, codes, true, false, refl}
use Rattle.jsx_base.specs.Token.{BigIntLiteral}
use Rattle.jsx_tree.specs.Kinds.{Import, ExportDefaultExpr, For, ForOf, Label, ClassDecl, InObject, InClass, Assigns, FunctionExpr, ClassExpr, Method, Getter, Field, ComputedKey, ArrayPat, ObjectPat, ShorthandInit, RestPat, ParenTarget, Or, Exponentiate, Increment, Seq, ArrowBlock, BareArrow, Cond, Binary, PostfixUpdate, NewWithoutArguments, Chain, NameLink, Property, Spread, Element, JsxSpread, program, statement, function, expression, jsx, leaf, list, none, part}
use Rattle.jsx_tree.proofs.Samples.{n, num, str, n1, n2, n3, n4, l0, l1, l2, l3, stmt, script, jn, module_of, body_of, add, in_op, dot, paren, set_to, object_of, array_of, arrow, block, empty, hole, reads_expr, reads_script, reads_module, keeps, prints}

-- a hole behind a spread
spread_then_hole : reads_expr "[...a, , b]" (array_of (l3 (n1 (expression Spread) (n "a")) hole (n "b"))) ≡ true
spread_then_hole = refl

-- `new B` as a heritage, which is written with its arguments
heritage_new : reads_script "class A extends new B {}" (l1 (n3 (statement ClassDecl) (n "A") (l1 (n1 (expression NewWithoutArguments) (n "B"))) l0)) ≡ true
heritage_new = refl

heritage_new_text : prints (script (l1 (n3 (statement ClassDecl) (n "A") (l1 (n1 (expression NewWithoutArguments) (n "B"))) l0))) "class A extends new B() {}\n" ≡ true
heritage_new_text = refl

-- a chain behind it
chain_of_new : prints (script (l1 (stmt (n2 (expression Chain) (n1 (expression NewWithoutArguments) (n "a")) (l1 (n1 (expression (NameLink true)) (n "b"))))))) "new a()?.b;\n" ≡ true
chain_of_new = refl

-- a blank may stand before a postfix `++`
update_of_parens : reads_expr "(a.b) ++" (n1 (expression (PostfixUpdate Increment)) (n1 (function ParenTarget) (dot (n "a") "b"))) ≡ true
update_of_parens = refl

-- an expression that ends with an arrow's block, from inside too
arrow_of_block_then_bracket : reads_script "a => () => {}\n[b]" (l2 (stmt (n2 (expression BareArrow) (n "a") (n2 (expression ArrowBlock) l0 (body_of l0)))) (stmt (array_of (l1 (n "b"))))) ≡ true
arrow_of_block_then_bracket = refl

branch_of_block_then_paren : reads_script "a ? b : () => {}\n(c)" (l2 (stmt (n3 (expression Cond) (n "a") (n "b") (n2 (expression ArrowBlock) l0 (body_of l0)))) (stmt (paren (n "c")))) ≡ true
branch_of_block_then_paren = refl

-- an `in` in braces, in the head of a `for`
in_of_field : keeps (script (l1 (n4 (statement For) (l1 (n3 (function ClassExpr) l0 l0 (l1 (n2 (function (Field InClass)) (n "a") (l1 (in_op (n "b") (n "c"))))))) l0 l0 empty))) ≡ true
in_of_field = refl

in_of_attribute : keeps (script (l1 (n4 (statement For) (l1 (n2 (jsx Element) (jn "a") (l1 (n1 (jsx JsxSpread) (in_op (n "b") (n "c")))))) l0 l0 empty))) ≡ true
in_of_attribute = refl

-- line ends between all words of an import
import_on_lines : reads_module "import\na\nfrom\n'm'" (l1 (n2 (program Import) (n "a") (str "'m'"))) ≡ true
import_on_lines = refl

-- the same label in a function inside
label_in_function : keeps (script (l1 (n2 (statement Label) (n "a") (block (l1 (stmt (n3 (function FunctionExpr) l0 l0 (body_of (l1 (n2 (statement Label) (n "a") empty)))))))))) ≡ true
label_in_function = refl

-- a shorthand with initialiser in the head of a `for`
for_of_shorthand_init : reads_script "for ({ a = 1 } of b);" (l1 (n3 (statement ForOf) (n1 (function (ObjectPat Assigns)) (l1 (n2 (function (ShorthandInit Assigns)) (n "a") (num "1")))) (n "b") empty)) ≡ true
for_of_shorthand_init = refl

-- the rest of an array may be a member
rest_of_member : reads_expr "[...a.b] = c" (set_to (n1 (function (ArrayPat Assigns)) (l1 (n1 (function (RestPat Assigns)) (dot (n "a") "b")))) (n "c")) ≡ true
rest_of_member = refl

-- a member of a chain in parentheses is a target
assign_behind_chain : reads_expr "(a?.b).c = d" (set_to (dot (paren (n2 (expression Chain) (n "a") (l1 (n1 (expression (NameLink true)) (n "b"))))) "c") (n "d")) ≡ true
assign_behind_chain = refl

-- keys
literal_keys : reads_expr "({ get 1() {}, 'a'() {}, 2n: b, [c]: d })" (paren (object_of (list (part (n2 (function (Getter InObject)) (num "1") (body_of l0)) (part (n3 (function (Method InObject)) (str "'a'") l0 (body_of l0)) (part (n2 (expression Property) (leaf BigIntLiteral (codes "2n")) (n "b")) (part (n2 (expression Property) (n1 (function ComputedKey) (n "c")) (n "d")) none))))))) ≡ true
literal_keys = refl

-- one pair round the outermost `in`
in_of_sequence : prints (script (l1 (n4 (statement For) (l1 (n1 (expression Seq) (l2 (n "a") (in_op (in_op (n "b") (n "c")) (n "d"))))) l0 l0 empty))) "for (a, (b in c in d);;) ;\n" ≡ true
in_of_sequence = refl

-- a comment that ends a line before `=>`
comment_before_arrow : reads_expr "a /*\n*/ => b" (n2 (expression BareArrow) (n "a") (n "b")) ≡ false
comment_before_arrow = refl

-- an object, a function or a class that would come first
object_begins_chain : prints (script (l1 (stmt (arrow l0 (n2 (expression Chain) (object_of l0) (l1 (n1 (expression (NameLink true)) (n "b")))))))) "() => ({}?.b);\n" ≡ true
object_begins_chain = refl

function_begins_or : prints (script (l1 (stmt (n2 (expression (Binary Or)) (n3 (function FunctionExpr) l0 l0 (body_of l0)) (n "a"))))) "(function () {} || a);\n" ≡ true
function_begins_or = refl

-- operands of a lower level
operands_below : prints (script (l1 (stmt (add (set_to (n "a") (n "b")) (arrow l0 (n "c")))))) "(a = b) + (() => c);\n" ≡ true
operands_below = refl

power_of_power : prints (script (l1 (stmt (n2 (expression (Binary Exponentiate)) (n2 (expression (Binary Exponentiate)) (n "a") (n "b")) (n "c"))))) "(a ** b) ** c;\n" ≡ true
power_of_power = refl

-- a class that would begin a default export
class_begins_default : prints (module_of (l1 (n1 (program ExportDefaultExpr) (dot (n3 (function ClassExpr) l0 l0 l0) "a")))) "export default (class {}.a);\n" ≡ true
class_begins_default = refl
