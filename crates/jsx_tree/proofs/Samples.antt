-- Trees written out.
use Rattle.std.specs.Prelude.{◌≡◌, [], codes, Bool, true, false, refl, ◌&&◌}
use Prim.Native.String.{String}
use Rattle.jsx_base.specs.Token.{IdentifierName, NumericLiteral, StringLiteral, TemplateHead, TemplateMiddle, TemplateTail, JsxName, JsxString, JsxText, Elision, same}
use Rattle.jsx_tree.specs.Kinds.{LetWord, ConstWord, Imported, Module, Script, FunctionBody, Import, ImportList, ImportBoth, Specifier, SpecifierAs, ExportDefaultExpr, Block, Var, Declarator, Empty, ExprStmt, If, For, ForDeclaration, Break, Return, Switch, Case, Default, Try, Catch, ClassDecl, InClass, Static, Binds, Getter, Field, ArrayPat, ObjectPat, PropertyPat, ShorthandPat, WithInit, RestPat, Nullish, Or, Less, Add, Multiply, InOp, Positive, Negative, Increment, Assign, Arrow, ArrowBlock, Call, Member, Binary, Unary, PrefixUpdate, PostfixUpdate, Tagged, ImportMeta, Chain, NameLink, Array, Object, Spread, Parenthesized, SubstitutedTemplate, TemplateSpan, Element, ElementWithChildren, Fragment, MemberName, Attribute, Container, JsxSpread, Kind, program, statement, function, expression, jsx, Tree, leaf, node, list, none, part}
use Rattle.jsx_tree.specs.Nonterminals.{Expr, Stmt, SubStmt, Item, WholeProgram}
use Rattle.jsx_tree.specs.Form.{is}
use Rattle.jsx_tree.specs.Layout.{layout, printed}
use Rattle.jsx_tree.specs.Reading.{reads}
use Rattle.jsx_tree.specs.Normal.{laid_tree}
use Rattle.jsx_tree.specs.Parentheses.{parenthesise}
use Rattle.jsx_tree.specs.StaticRules.{outside, legal}

abbrev pub n : String → Tree
n s = leaf IdentifierName (codes s)

abbrev pub num : String → Tree
num s = leaf NumericLiteral (codes s)

abbrev pub str : String → Tree
str s = leaf StringLiteral (codes s)

abbrev pub n0 : Kind → Tree
n0 k = node k none

abbrev pub n1 : Kind → Tree → Tree
n1 k a = node k (part a none)

abbrev pub n2 : Kind → Tree → Tree → Tree
n2 k a b = node k (part a (part b none))

abbrev pub n3 : Kind → Tree → Tree → Tree → Tree
n3 k a b c = node k (part a (part b (part c none)))

abbrev pub n4 : Kind → Tree → Tree → Tree → Tree → Tree
n4 k a b c d = node k (part a (part b (part c (part d none))))

abbrev pub l0 : Tree
l0 = list none

abbrev pub l1 : Tree → Tree
l1 a = list (part a none)

abbrev pub l2 : Tree → Tree → Tree
l2 a b = list (part a (part b none))

abbrev pub l3 : Tree → Tree → Tree → Tree
l3 a b c = list (part a (part b (part c none)))

abbrev pub short : String → Tree
short s = n1 (function (ShorthandPat Binds)) (n s)

abbrev pub stmt : Tree → Tree
stmt e = n1 (statement ExprStmt) e

abbrev pub script : Tree → Tree
script items = n2 (program Script) l0 items

-- if (a) b; else { c + 1; }
abbrev pub sample_if : Tree
sample_if = script (l1 (n3 (statement If) (n "a") (stmt (n "b")) (l1 (n1 (statement Block) (l1 (stmt (n2 (expression (Binary Add)) (n "c") (num "1"))))))))

if_text : layout sample_if ≡ codes "if (a) b; else {\n    c + 1;\n}\n"
if_text = refl

if_is : is WholeProgram sample_if ≡ true
if_is = refl

-- no expression is a statement by itself
bad_is : is WholeProgram (script (l1 (n "b"))) ≡ false
bad_is = refl

-- a sum is no operand of a product
low_is : is (Expr 0) (n2 (expression (Binary Multiply)) (n2 (expression (Binary Add)) (n "a") (n "b")) (n "c")) ≡ false
low_is = refl

paren_is : is (Expr 0) (n2 (expression (Binary Multiply)) (n1 (expression Parenthesized) (n2 (expression (Binary Add)) (n "a") (n "b"))) (n "c")) ≡ true
paren_is = refl

-- `or` with `??`, and `??` after `??`
mixed_is : is (Expr 0) (n2 (expression (Binary Nullish)) (n2 (expression (Binary Or)) (n "a") (n "b")) (n "c")) ≡ false
mixed_is = refl

nullish_is : is (Expr 0) (n2 (expression (Binary Nullish)) (n2 (expression (Binary Nullish)) (n "a") (n "b")) (n "c")) ≡ true
nullish_is = refl

-- [a, , ...b, ,]
holes_text : layout (n1 (expression Array) (list (part (n "a") (part (leaf Elision []) (part (n1 (expression Spread) (n "b")) (part (leaf Elision []) none)))))) ≡ codes "[a, , ...b, ,]"
holes_text = refl

-- const { a, b: [c = 1, ...d] } = {}, x
abbrev pub sample_const : Tree
sample_const =
    n1 (statement (Var ConstWord)) (l2
    (n2 (statement Declarator) (n1 (function (ObjectPat Binds)) (l2 (short "a") (n2 (function (PropertyPat Binds)) (n "b") (n1 (function (ArrayPat Binds)) (l2 (n2 (function (WithInit Binds)) (n "c") (num "1")) (n1 (function (RestPat Binds)) (n "d"))))))) (l1 (n1 (expression Object) l0)))
    (n2 (statement Declarator) (n "x") l0))

const_text : layout sample_const ≡ codes "const { a, b: [c = 1, ...d] } = {}, x;"
const_text = refl

const_is : is Stmt sample_const ≡ true
const_is = refl

const_no_sub : is SubStmt sample_const ≡ false
const_no_sub = refl

signs_text : layout (n1 (expression (Unary Negative)) (n1 (expression (Unary Negative)) (n1 (expression (Unary Positive)) (n1 (expression (PrefixUpdate Increment)) (n "a"))))) ≡ codes "- -+ ++a"
signs_text = refl

-- class A extends b { static get x() { return this?.y; } z = () => {}; }
abbrev pub sample_class : Tree
sample_class =
    n3 (statement ClassDecl) (n "A") (l1 (n "b")) (l2
    (n2 (function (Getter Static)) (n "x") (n2 (program FunctionBody) l0 (l1 (n1 (statement Return) (l1 (n2 (expression Chain) (n "this") (l1 (n1 (expression (NameLink true)) (n "y")))))))))
    (n2 (function (Field InClass)) (n "z") (l1 (n2 (expression ArrowBlock) l0 (n2 (program FunctionBody) l0 l0)))))

class_text : layout sample_class ≡ codes "class A extends b {\n    static get x() {\n        return this?.y;\n    }\n    z = () => {};\n}"
class_text = refl

class_is : is Item sample_class ≡ true
class_is = refl

-- <a.b c d="e" {...f}>x {g}<h/><></></a.b>
abbrev pub jn : String → Tree
jn s = leaf JsxName (codes s)

abbrev pub sample_jsx : Tree
sample_jsx =
    n4 (jsx ElementWithChildren) (n2 (jsx MemberName) (jn "a") (l1 (jn "b"))) (l3 (n2 (jsx Attribute) (jn "c") l0) (n2 (jsx Attribute) (jn "d") (l1 (leaf JsxString (codes "\"e\"")))) (n1 (jsx JsxSpread) (n "f")))
    (list (part (leaf JsxText (codes "x ")) (part (n1 (jsx Container) (n "g")) (part (n2 (jsx Element) (jn "h") l0) (part (n1 (jsx Fragment) l0) none)))))
    (n2 (jsx MemberName) (jn "a") (l1 (jn "b")))

jsx_text : layout sample_jsx ≡ codes "<a.b c d=\"e\" {...f}>x {g}<h/><></></a.b>"
jsx_text = refl

jsx_is : is (Expr 0) sample_jsx ≡ true
jsx_is = refl

switch_text : layout (n2 (statement Switch) (n "a") (l2 (n2 (statement Case) (num "1") (l1 (n1 (statement Break) l0))) (n1 (statement Default) (l1 (stmt (n "b")))))) ≡ codes "switch (a) {\n    case 1:\n        break;\n    default:\n        b;\n}"
switch_text = refl

import_text : layout (n2 (program Module) l0 (l2 (n2 (program Import) (n2 (program ImportBoth) (n "a") (n1 (program ImportList) (l2 (n1 (program (Specifier Imported)) (n "b")) (n2 (program (SpecifierAs Imported)) (n "c") (n "d"))))) (str "\"e\"")) (n1 (program ExportDefaultExpr) (n0 (expression ImportMeta))))) ≡ codes "import a, { b, c as d } from \"e\";\nexport default import.meta;\n"
import_text = refl

try_text : layout (n3 (statement Try) (n1 (statement Block) l0) (l1 (n2 (statement Catch) (l1 (n "e")) (n1 (statement Block) l0))) (l1 (n1 (statement Block) l0))) ≡ codes "try {} catch (e) {} finally {}"
try_text = refl

for_text : layout (n4 (statement For) (l1 (n1 (statement (ForDeclaration LetWord)) (l1 (n2 (statement Declarator) (n "i") (l1 (num "0")))))) (l1 (n2 (expression (Binary Less)) (n "i") (num "9"))) (l1 (n1 (expression (PostfixUpdate Increment)) (n "i"))) (n0 (statement Empty))) ≡ codes "for (let i = 0; i < 9; i++) ;"
for_text = refl

template_text : layout (n2 (expression Tagged) (n "a") (n4 (expression (SubstitutedTemplate true)) (leaf TemplateHead (codes "`x${")) (l1 (n2 (expression (TemplateSpan true)) (n "b") (leaf TemplateMiddle (codes "${")))) (n "c") (leaf TemplateTail (codes "`")))) ≡ codes "a`x${b}${c}`"
template_text = refl

-- short names for what the facts are written with

abbrev pub module_of : Tree → Tree
module_of items = n2 (program Module) l0 items

abbrev pub body_of : Tree → Tree
body_of items = n2 (program FunctionBody) l0 items

abbrev pub add : Tree → Tree → Tree
add a b = n2 (expression (Binary Add)) a b

abbrev pub in_op : Tree → Tree → Tree
in_op a b = n2 (expression (Binary InOp)) a b

abbrev pub call : Tree → Tree → Tree
call f as' = n2 (expression Call) f as'

abbrev pub dot : Tree → String → Tree
dot o x = n2 (expression Member) o (n x)

abbrev pub paren : Tree → Tree
paren e = n1 (expression Parenthesized) e

abbrev pub set_to : Tree → Tree → Tree
set_to a b = n2 (expression Assign) a b

abbrev pub object_of : Tree → Tree
object_of ps = n1 (expression Object) ps

abbrev pub array_of : Tree → Tree
array_of es = n1 (expression Array) es

abbrev pub arrow : Tree → Tree → Tree
arrow ps e = n2 (expression Arrow) ps e

abbrev pub block : Tree → Tree
block items = n1 (statement Block) items

abbrev pub empty : Tree
empty = n0 (statement Empty)

abbrev pub hole : Tree
hole = leaf Elision []

-- the text reads as this expression, as a statement of a script
abbrev pub reads_expr : String → Tree → Bool
reads_expr s e = reads (codes s) (script (l1 (stmt e)))

abbrev pub reads_script : String → Tree → Bool
reads_script s items = reads (codes s) (script items)

abbrev pub reads_module : String → Tree → Bool
reads_module s items = reads (codes s) (module_of items)

-- the tree keeps the static rules
abbrev pub keeps : Tree → Bool
keeps t = legal outside t

-- the tree is printed so, after parentheses are put, and reads from that text as what is laid
abbrev pub prints : Tree → String → Bool
prints t s = same (printed (parenthesise t)) (codes s) && reads (codes s) (laid_tree (parenthesise t))
