-- Small programs, computed: as they are read, and as they are printed.
use Rattle.std.specs.Prelude.{◌≡◌, codes, true, false, refl}
use Prim.Native.String.{String}
use Rattle.jsx_base.specs.Token.{TemplateHead, TemplateTail, JsxName, JsxText}
use Rattle.jsx_tree.specs.Kinds.{DeclareWord, Tree, VarWord, LetWord, ConstWord, Imported, Import, ImportList, SpecifierAs, ExportDefaultClass, Var, Declarator, For, ForDeclaration, Return, Switch, Case, FunctionDecl, InClass, Binds, FunctionExpr, ClassExpr, Method, Field, ObjectPat, ShorthandInit, RestProperty, Nullish, And, Void, ArrowBlock, BareArrowBlock, Binary, Unary, NewWithoutArguments, ImportCall, Chain, NameLink, Property, Spread, SubstitutedTemplate, Element, ElementWithChildren, Fragment, Attribute, Container, program, statement, function, expression, jsx, leaf, list, none, part}
use Rattle.jsx_tree.specs.Layout.{printed}
use Rattle.jsx_tree.specs.Depth.{depth}
use Rattle.jsx_tree.specs.Normal.{nf}
use Rattle.jsx_tree.proofs.Samples.{n, num, str, n1, n2, n3, n4, l0, l1, l2, l3, stmt, script, jn, module_of, body_of, call, dot, paren, set_to, object_of, array_of, arrow, block, reads_expr, reads_script, reads_module, prints}

abbrev declare : DeclareWord → Tree → Tree → Tree
declare v q e = n1 (statement (Var v)) (l1 (n2 (statement Declarator) q (l1 e)))

abbrev ret : Tree → Tree
ret e = n1 (statement Return) (l1 e)

abbrev fun : String → Tree → Tree → Tree
fun f ps items = n3 (statement FunctionDecl) (n f) ps (body_of items)

abbrev block_arrow : Tree → Tree → Tree
block_arrow ps items = n2 (expression ArrowBlock) ps (body_of items)

-- the empty text, and one of blanks and comments
nothing : reads_module "" l0 ≡ true
nothing = refl

only_comment : reads_module " // a\n /* b */ " l0 ≡ true
only_comment = refl

only_open_comment : reads_module " /* b" l0 ≡ false
only_open_comment = refl

-- parentheses of the source go, those that are needed come back
parens_off : prints (nf (script (l1 (stmt (paren (paren (n "a"))))))) "a;\n" ≡ true
parens_off = refl

parens_kept : prints (nf (script (l1 (stmt (dot (paren (n2 (expression Chain) (n "a") (l1 (n1 (expression (NameLink true)) (n "b"))))) "c"))))) "(a?.b).c;\n" ≡ true
parens_kept = refl

parens_of_new : prints (nf (script (l1 (stmt (dot (paren (n1 (expression NewWithoutArguments) (n "F"))) "x"))))) "new F().x;\n" ≡ true
parens_of_new = refl

-- both forms of an arrow are printed alike
arrow_forms : printed (script (l1 (stmt (n2 (expression BareArrowBlock) (n "a") (body_of l0))))) ≡ printed (script (l1 (stmt (block_arrow (l1 (n "a")) l0))))
arrow_forms = refl

-- what the rules on names refuse is read
names_read : reads_script "let a; let a; (eval)(x);" (l3 (n1 (statement (Var LetWord)) (l1 (n2 (statement Declarator) (n "a") l0))) (n1 (statement (Var LetWord)) (l1 (n2 (statement Declarator) (n "a") l0))) (stmt (call (paren (n "eval")) (l1 (n "x"))))) ≡ true
names_read = refl

-- imports of the runtime
runtime_import : prints (module_of (l1 (n2 (program Import) (n1 (program ImportList) (l2 (n2 (program (SpecifierAs Imported)) (n "jsxs") (n "_jsxs")) (n2 (program (SpecifierAs Imported)) (n "Fragment") (n "_Fragment")))) (str "\"react/jsx-runtime\"")))) "import { jsxs as _jsxs, Fragment as _Fragment } from \"react/jsx-runtime\";\n" ≡ true
runtime_import = refl

runtime_call : prints (script (l1 (stmt (call (n "_jsx") (l3 (str "\"div\"") (object_of (l2 (n2 (expression Property) (n "b") (str "\"c\"")) (n2 (expression Property) (n "children") (str "\"x\"")))) (str "\"a\"")))))) "_jsx(\"div\", { b: \"c\", children: \"x\" }, \"a\");\n" ≡ true
runtime_call = refl

spread_call : prints (script (l1 (stmt (call (n "_jsxs") (l2 (n "_Fragment") (object_of (l1 (n2 (expression Property) (n "children") (array_of (l1 (n1 (expression Spread) (n "xs")))))))))))) "_jsxs(_Fragment, { children: [...xs] });\n" ≡ true
spread_call = refl

void_argument : prints (script (l1 (stmt (call (n "f") (l3 (n1 (expression (Unary Void)) (num "0")) (n "false") (n "this")))))) "f(void 0, false, this);\n" ≡ true
void_argument = refl

-- a function around
component : prints (module_of (l1 (fun "f" (l1 (n "React1")) (l1 (ret (call (dot (n "React") "createElement") (l2 (str "\"a\"") (n "null")))))))) "function f(React1) {\n    return React.createElement(\"a\", null);\n}\n" ≡ true
component = refl

-- a signature with its hooks, and one round an arrow in a block
abbrev hooks : String → Tree
hooks h = n3 (function FunctionExpr) l0 l0 (body_of (l1 (ret (array_of (l1 (n h))))))

signature : prints (script (l1 (stmt (call (n "_s") (list (part (n "F") (part (str "\"useA{}\"") (part (n "false") (part (hooks "useA") none))))))))) "_s(F, \"useA{}\", false, function () {\n    return [useA];\n});\n" ≡ true
signature = refl

signature_inside : prints (script (l1 (fun "g" (l1 (n "useB")) (l2 (declare VarWord (n "_s2") (call (n "$RefreshSig$") l0)) (ret (call (n "_s2") (l3 (block_arrow l0 (l2 (stmt (call (n "_s2") l0)) (ret (call (n "useB") (l1 (num "1")))))) (str "\"useB{}\"") (n "false")))))))) "function g(useB) {\n    var _s2 = $RefreshSig$();\n    return _s2(() => {\n        _s2();\n        return useB(1);\n    }, \"useB{}\", false);\n}\n" ≡ true
signature_inside = refl

-- functions in the head of a `for` and in a case
for_arrow : prints (script (l1 (n4 (statement For) (l1 (n1 (statement (ForDeclaration LetWord)) (l1 (n2 (statement Declarator) (n "f") (l1 (block_arrow l0 (l1 (stmt (call (n "useA") l0))))))))) l0 l0 (block l0)))) "for (let f = () => {\n    useA();\n};;) {}\n" ≡ true
for_arrow = refl

case_arrow : reads_script "switch (x) { case 1: var f = () => { useA(); }; }" (l1 (n2 (statement Switch) (n "x") (l1 (n2 (statement Case) (num "1") (l1 (declare VarWord (n "f") (block_arrow l0 (l1 (stmt (call (n "useA") l0)))))))))) ≡ true
case_arrow = refl

-- a lazy import
lazy : prints (module_of (l1 (stmt (call (dot (n "React") "lazy") (l1 (arrow l0 (n1 (expression ImportCall) (str "'./S'")))))))) "React.lazy(() => import('./S'));\n" ≡ true
lazy = refl

-- a class with a field, a method, a pattern, a template and a condition
abbrev page : Tree
page = n1 (program ExportDefaultClass) (n3 (function ClassExpr) (l1 (n "Page")) (l1 (dot (n "React") "Component")) (l2
    (n2 (function (Field InClass)) (n "state") (l1 (object_of (l1 (n2 (expression Property) (n "shown") (n "true"))))))
    (n3 (function (Method InClass)) (n "render") l0 (body_of (l2
    (declare ConstWord (n1 (function (ObjectPat Binds)) (l2 (n2 (function (ShorthandInit Binds)) (n "title") (str "\"Items\"")) (n1 (function (RestProperty Binds)) (n "rest")))) (dot (n "this") "props"))
    (ret (call (n "h") (l2 (n4 (expression (SubstitutedTemplate false)) (leaf TemplateHead (codes "`${")) l0 (n "title") (leaf TemplateTail (codes "!`"))) (n2 (expression (Binary And)) (dot (dot (n "this") "state") "shown") (n "rest"))))))))))

page_printed : prints (module_of (l1 page)) "export default class Page extends React.Component {\n    state = { shown: true };\n    render() {\n        const { title = \"Items\", ...rest } = this.props;\n        return h(`${title}!`, this.state.shown && rest);\n    }\n}\n" ≡ true
page_printed = refl

page_free : reads_module "export default class Page extends React.Component\n{\n  state = {shown: true}\n  render() { const {title=\"Items\", ...rest} = this.props\nreturn h(`${ title }!`, this.state.shown&&rest,) } }" (l1 page) ≡ true
page_free = refl

-- this.state.shown is 3, then come the `&&`, the call, the return, the method, the class and the export
page_depth : depth (module_of (l1 page)) ≡ 9
page_depth = refl

-- an element over several lines
abbrev attribute : String → Tree → Tree
attribute a v = n2 (jsx Attribute) (leaf JsxName (codes a)) (l1 (n1 (jsx Container) v))

element_lines : reads_module "x = (\n  <>\n    <input\n      value={query}\n      disabled\n    />\n  </>\n);" (l1 (stmt (set_to (n "x") (paren (n1 (jsx Fragment) (l3 (leaf JsxText (codes "\n    ")) (n2 (jsx Element) (jn "input") (l2 (attribute "value" (n "query")) (n2 (jsx Attribute) (jn "disabled") l0))) (leaf JsxText (codes "\n  ")))))))) ≡ true
element_lines = refl

element_keys : reads_expr "items.map((it) => (<li key={it.id} data-id={it.id}>{f(it)}, <b>{it.n ?? 0}</b> left</li>))" (call (dot (n "items") "map") (l1 (arrow (l1 (n "it")) (paren (n4 (jsx ElementWithChildren) (jn "li") (l2 (attribute "key" (dot (n "it") "id")) (attribute "data-id" (dot (n "it") "id"))) (list
    (part (n1 (jsx Container) (call (n "f") (l1 (n "it")))) (part (leaf JsxText (codes ", ")) (part (n4 (jsx ElementWithChildren) (jn "b") l0 (l1 (n1 (jsx Container) (n2 (expression (Binary Nullish)) (dot (n "it") "n") (num "0")))) (jn "b")) (part (leaf JsxText (codes " left")) none))))) (jn "li")))))) ≡ true
element_keys = refl
