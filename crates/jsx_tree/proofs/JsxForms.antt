-- JSX (JSX specification), computed: what is read, and how it is written.
use Rattle.std.specs.Prelude.{◌≡◌, ℕ, List, [], ◌∷◌, codes, true, false, refl, cond, nat_eq}
use Prim.Native.String.{String}
use Rattle.jsx_base.specs.Token.{same, JsxString, JsxText}
use Rattle.jsx_tree.specs.Kinds.{Tree, ConstWord, Var, Declarator, InObject, Getter, ComputedKey, Less, Seq, Binary, Property, Spread, Element, ElementWithChildren, Fragment, NamespacedName, MemberName, Attribute, Container, EmptyContainer, JsxSpread, statement, function, expression, jsx, leaf, list, none, part}
use Rattle.jsx_tree.specs.Spelling.{spelled}
use Rattle.jsx_tree.specs.Layout.{Note, laid, Beside}
use Rattle.jsx_tree.proofs.Samples.{n, num, str, n0, n1, n2, n4, l0, l1, l2, l3, stmt, script, jn, module_of, body_of, call, dot, set_to, object_of, reads_expr, reads_module, keeps, prints}

abbrev text_of : String → Tree
text_of s = leaf JsxText (codes s)

abbrev element : String → Tree → Tree
element a as' = n2 (jsx Element) (jn a) as'

abbrev with_children : String → Tree → Tree
with_children a cs = n4 (jsx ElementWithChildren) (jn a) l0 cs (jn a)

abbrev const_x : Tree → Tree
const_x e = l1 (n1 (statement (Var ConstWord)) (l1 (n2 (statement Declarator) (n "x") (l1 e))))

-- `<div />` reads, an element that isn't closed doesn't
element_closed : reads_module "const x = <div />;\n" (const_x (element "div" l0)) ≡ true
element_closed = refl

element_open : reads_module "const x = <div>;\n" (const_x (element "div" l0)) ≡ false
element_open = refl

element_other_name : keeps (module_of (l1 (stmt (n4 (jsx ElementWithChildren) (jn "a") l0 l0 (jn "b"))))) ≡ false
element_other_name = refl

element_same_name : reads_expr "<a:b></ a : b>" (n4 (jsx ElementWithChildren) (n2 (jsx NamespacedName) (jn "a") (jn "b")) l0 l0 (n2 (jsx NamespacedName) (jn "a") (jn "b"))) ≡ true
element_same_name = refl

-- names: a dash in a plain name and a namespaced one, not in a member's; a member's root may be `this`
name_dash : reads_expr "<Foo-bar/>" (element "Foo-bar" l0) ≡ true
name_dash = refl

name_this : reads_expr "<this.x/>" (n2 (jsx Element) (n2 (jsx MemberName) (jn "this") (l1 (jn "x"))) l0) ≡ true
name_this = refl

name_member : reads_expr "<a.b.if/>" (n2 (jsx Element) (n2 (jsx MemberName) (jn "a") (l2 (jn "b") (jn "if"))) l0) ≡ true
name_member = refl

name_member_dash : reads_expr "<a.b-c/>" (n2 (jsx Element) (n2 (jsx MemberName) (jn "a") (l1 (jn "b-c"))) l0) ≡ false
name_member_dash = refl

name_reserved_root : reads_expr "<if.x/>" (n2 (jsx Element) (n2 (jsx MemberName) (jn "if") (l1 (jn "x"))) l0) ≡ false
name_reserved_root = refl

name_reserved : reads_expr "<if/>" (element "if" l0) ≡ true
name_reserved = refl

-- attributes
attribute_forms : reads_expr "<a b c-d='&' e={f, g} h=<></> {...i}/>" (element "a" (list
    (part (n2 (jsx Attribute) (jn "b") l0) (part (n2 (jsx Attribute) (jn "c-d") (l1 (leaf JsxString (codes "'&'")))) (part (n2 (jsx Attribute) (jn "e") (l1 (n1 (jsx Container) (n1 (expression Seq) (l2 (n "f") (n "g"))))))
    (part (n2 (jsx Attribute) (jn "h") (l1 (n1 (jsx Fragment) l0))) (part (n1 (jsx JsxSpread) (n "i")) none))))))) ≡ true
attribute_forms = refl

attribute_blanks : prints (script (l1 (stmt (element "a" (l2 (n2 (jsx Attribute) (jn "b") (l1 (leaf JsxString (codes "\"c\"")))) (n2 (jsx Attribute) (jn "d") l0)))))) "<a b=\"c\" d/>;\n" ≡ true
attribute_blanks = refl

attribute_empty : reads_expr "<a b={}/>" (element "a" (l1 (n2 (jsx Attribute) (jn "b") (l1 (n0 (jsx EmptyContainer)))))) ≡ false
attribute_empty = refl

attribute_number : reads_expr "<a b=1/>" (element "a" (l1 (n2 (jsx Attribute) (jn "b") (l1 (num "1"))))) ≡ false
attribute_number = refl

attribute_escape : reads_expr "<a b=\"\\\"/>" (element "a" (l1 (n2 (jsx Attribute) (jn "b") (l1 (leaf JsxString (codes "\"\\\"")))))) ≡ true
attribute_escape = refl

-- children: text is taken whole, blanks and line ends too
children_forms : reads_expr "<a> b\n{c}{}{/* d */}{...e}<f/>{'g'}</a>" (with_children "a" (list
    (part (text_of " b\n") (part (n1 (jsx Container) (n "c")) (part (n0 (jsx EmptyContainer)) (part (n0 (jsx EmptyContainer)) (part (n1 (jsx JsxSpread) (n "e")) (part (element "f" l0) (part (n1 (jsx Container) (str "'g'")) none))))))))) ≡ true
children_forms = refl

children_texts : keeps (script (l1 (stmt (with_children "a" (l2 (text_of "b") (text_of "c")))))) ≡ false
children_texts = refl

children_brace : reads_expr "<a>b}c</a>" (with_children "a" (l1 (text_of "b}c"))) ≡ false
children_brace = refl

children_comment : reads_expr "<a>/* b */ // c</a>" (with_children "a" (l1 (text_of "/* b */ // c"))) ≡ true
children_comment = refl

children_spread_fragment : reads_expr "<>\n{...xs}\n</>" (n1 (jsx Fragment) (l3 (text_of "\n") (n1 (jsx JsxSpread) (n "xs")) (text_of "\n"))) ≡ true
children_spread_fragment = refl

-- an attribute's element and a comparison
element_then_less : reads_expr "<a/> < b" (n2 (expression (Binary Less)) (element "a" l0) (n "b")) ≡ true
element_then_less = refl

elements_side_by_side : reads_expr "<a/><b/>" (n1 (expression Seq) (l2 (element "a" l0) (element "b" l0))) ≡ false
elements_side_by_side = refl

element_member : reads_expr "<a/>.b" (dot (element "a" l0) "b") ≡ true
element_member = refl

-- what the compiler writes for elements, with its mark before the call
abbrev mark_at : ℕ → ℕ → List Note
mark_at k i = cond (nat_eq k i) (Beside (codes "/*#__PURE__*/") ∷ []) []

abbrev create : Tree → Tree
create args = call (dot (n "React") "createElement") args

marked_const : same (laid (mark_at 3) 0 [] [] false (spelled (module_of (const_x (create (l2 (str "\"div\"") (n "null"))))))) (codes "const x = /*#__PURE__*/ React.createElement(\"div\", null);\n") ≡ true
marked_const = refl

marked_read : reads_module "const x = /*#__PURE__*/ React.createElement(\"div\", null);\n" (const_x (create (l2 (str "\"div\"") (n "null")))) ≡ true
marked_read = refl

arguments_read : reads_module "f(<a/>, <B/>, x.y);" (l1 (stmt (call (n "f") (l3 (element "a" l0) (element "B" l0) (dot (n "x") "y"))))) ≡ true
arguments_read = refl

arguments_written : reads_module "f(/*#__PURE__*/ React.createElement(\"a\", null), /*#__PURE__*/ React.createElement(B, null), x.y);" (l1 (stmt (call (n "f") (l3 (create (l2 (str "\"a\"") (n "null"))) (create (l2 (n "B") (n "null"))) (dot (n "x") "y"))))) ≡ true
arguments_written = refl

spread_getter : reads_expr "React.createElement(\"a\", { ...{ get b() {} } })" (create (l2 (str "\"a\"") (object_of (l1 (n1 (expression Spread) (object_of (l1 (n2 (function (Getter InObject)) (n "b") (body_of l0))))))))) ≡ true
spread_getter = refl

proto_attribute : prints (script (l1 (stmt (set_to (n "a") (object_of (l1 (n2 (expression Property) (n1 (function ComputedKey) (str "\"__proto__\"")) (n "x")))))))) "a = { [\"__proto__\"]: x };\n" ≡ true
proto_attribute = refl
