-- Texts that trees read, and texts that they don't.
use Rattle.std.specs.Prelude.{◌≡◌, [], codes, Bool, true, false, refl}
use Rattle.jsx_base.specs.Token.{Text, RegExpLiteral, NoSubstitution, TemplateHead, TemplateMiddle, TemplateTail, JsxString, JsxText, Elision}
use Rattle.jsx_tree.specs.Kinds.{VarWord, Exported, Module, Script, FunctionBody, Directive, Specifier, SpecifierAs, ExportNames, ExportAllAs, ExportDefaultFn, Block, Empty, If, Do, ForIn, ForOf, ForBinding, Return, Label, ClassDecl, InObject, InClass, Assigns, Getter, Setter, Field, ComputedKey, ArrayPat, ObjectPat, PropertyPat, WithInit, RestProperty, ParenTarget, Less, Add, Divide, Exponentiate, Positive, Negative, Increment, Seq, Assign, OpAssign, Arrow, ArrowBlock, BareArrow, Cond, Binary, Unary, PrefixUpdate, PostfixUpdate, Call, Member, Tagged, New, NewWithoutArguments, Chain, NameLink, IndexLink, CallLink, Array, Object, Property, Shorthand, Spread, Parenthesized, PlainTemplate, SubstitutedTemplate, TemplateSpan, Element, ElementWithChildren, NamespacedName, Attribute, Container, program, statement, function, expression, jsx, Tree, leaf, list, none, part}
use Rattle.jsx_tree.specs.Nonterminals.{Expr}
use Rattle.jsx_tree.specs.Form.{is}
use Rattle.jsx_tree.specs.Layout.{layout}
use Rattle.jsx_tree.specs.Reading.{reads}
use Rattle.jsx_tree.proofs.Samples.{n, num, str, n0, n1, n2, n3, n4, l0, l1, l2, l3, stmt, script, sample_if, sample_const, sample_class, jn, sample_jsx}

-- each sample reads its own layout
if_own : reads (layout sample_if) sample_if ≡ true
if_own = refl

if_free : reads (codes "/* x */if(a)\n b\nelse{c+1}// end") sample_if ≡ true
if_free = refl

-- without the line end the semicolon isn't missing
if_close : reads (codes "if(a) b else{c+1}") sample_if ≡ false
if_close = refl

-- a `;` on a new line belongs to the statement
if_semi : reads (codes "if(a) b\n; else{c+1}") sample_if ≡ true
if_semi = refl

abbrev items : Tree → Tree
items t = n2 (program Module) l0 (l1 t)

const_own : reads (layout (items sample_const)) (items sample_const) ≡ true
const_own = refl

const_free : reads (codes "const{a,b:[c=1,...d],}={},x\n") (items sample_const) ≡ true
const_free = refl

-- no comma stands behind a rest
const_rest : reads (codes "const{a,b:[c=1,...d,]}={},x") (items sample_const) ≡ false
const_rest = refl

class_own : reads (layout (items sample_class)) (items sample_class) ≡ true
class_own = refl

class_free : reads (codes "class A extends b{static get\nx(){return this?.y}z=()=>{}\n}") (items sample_class) ≡ true
class_free = refl

-- a line end behind `return` ends the statement
class_return : reads (codes "class A extends b{static get x(){return\nthis?.y}z=()=>{}}") (items sample_class) ≡ false
class_return = refl

jsx_own : reads (layout (items (stmt sample_jsx))) (items (stmt sample_jsx)) ≡ true
jsx_own = refl

jsx_free : reads (codes "< a . b c d = \"e\" { ...f } >x {/* no */ g /* y */}<h / >< ></ ></ a.b>\n;") (items (stmt sample_jsx)) ≡ true
jsx_free = refl

-- a blank between children is text
jsx_blank : reads (codes "<a.b c d=\"e\" {...f}>x {g} <h/><></></a.b>;") (items (stmt sample_jsx)) ≡ false
jsx_blank = refl

-- a += b\n++c is two statements, and so is () => {} before a bracket; a before a bracket isn't
abbrev two : Tree → Tree → Tree
two a b = n2 (program Script) l0 (l2 a b)

lines_1 : reads (codes "a += b\n++c") (two (stmt (n2 (expression (OpAssign Add)) (n "a") (n "b"))) (stmt (n1 (expression (PrefixUpdate Increment)) (n "c")))) ≡ true
lines_1 = refl

lines_2 : reads (codes "() => {}\n[a]") (two (stmt (n2 (expression ArrowBlock) l0 (n2 (program FunctionBody) l0 l0))) (stmt (n1 (expression Array) (l1 (n "a"))))) ≡ true
lines_2 = refl

lines_3 : reads (codes "b\n[a]") (two (stmt (n "b")) (stmt (n1 (expression Array) (l1 (n "a"))))) ≡ false
lines_3 = refl

lines_4 : reads (codes "do ; while (a) b") (two (n2 (statement Do) (n0 (statement Empty)) (n "a")) (stmt (n "b"))) ≡ true
lines_4 = refl

lines_5 : reads (codes "return\na") (two (n1 (statement Return) l0) (stmt (n "a"))) ≡ true
lines_5 = refl

-- a field named `get` needs its semicolon
abbrev fields : Tree → Tree → Tree
fields a b = items (n3 (statement ClassDecl) (n "A") l0 (l2 a b))

field_1 : reads (codes "class A { a\nb }") (fields (n2 (function (Field InClass)) (n "a") l0) (n2 (function (Field InClass)) (n "b") l0)) ≡ true
field_1 = refl

field_2 : reads (codes "class A { get\nb }") (fields (n2 (function (Field InClass)) (n "get") l0) (n2 (function (Field InClass)) (n "b") l0)) ≡ false
field_2 = refl

field_3 : reads (codes "class A { get;\nb }") (fields (n2 (function (Field InClass)) (n "get") l0) (n2 (function (Field InClass)) (n "b") l0)) ≡ true
field_3 = refl

-- an object begins no statement, and an `else` belongs to the nearest `if`
object_1 : reads (codes "{}") (script (l1 (stmt (n1 (expression Object) l0)))) ≡ false
object_1 = refl

object_2 : reads (codes "({})") (script (l1 (stmt (n1 (expression Parenthesized) (n1 (expression Object) l0))))) ≡ true
object_2 = refl

object_3 : reads (codes "{}") (script (l1 (n1 (statement Block) l0))) ≡ true
object_3 = refl

else_1 : reads (codes "if(a)if(b);else;") (script (l1 (n3 (statement If) (n "a") (n3 (statement If) (n "b") (n0 (statement Empty)) l0) (l1 (n0 (statement Empty)))))) ≡ false
else_1 = refl

else_2 : reads (codes "if(a)if(b);else;") (script (l1 (n3 (statement If) (n "a") (n3 (statement If) (n "b") (n0 (statement Empty)) (l1 (n0 (statement Empty)))) l0))) ≡ true
else_2 = refl

-- a regular expression and a division, templates, holes, a new without arguments
regex_1 : reads (codes "a=/b/g/c/d") (script (l1 (stmt (n2 (expression Assign) (n "a") (n2 (expression (Binary Divide)) (n2 (expression (Binary Divide)) (leaf RegExpLiteral (codes "/b/g")) (n "c")) (n "d")))))) ≡ true
regex_1 = refl

template_1 : reads (codes "a`x${ b }y${{}}`") (script (l1 (stmt (n2 (expression Tagged) (n "a") (n4 (expression (SubstitutedTemplate true)) (leaf TemplateHead (codes "`x${")) (l1 (n2 (expression (TemplateSpan true)) (n "b") (leaf TemplateMiddle (codes "y${")))) (n1 (expression Object) l0) (leaf TemplateTail (codes "`"))))))) ≡ true
template_1 = refl

holes_1 : reads (codes "[a,,]") (script (l1 (stmt (n1 (expression Array) (l2 (n "a") (leaf Elision [])))))) ≡ true
holes_1 = refl

holes_2 : reads (codes "[a,]") (script (l1 (stmt (n1 (expression Array) (l1 (n "a")))))) ≡ true
holes_2 = refl

holes_3 : reads (codes "[a,]") (script (l1 (stmt (n1 (expression Array) (l2 (n "a") (leaf Elision [])))))) ≡ false
holes_3 = refl

new_1 : reads (codes "new new a.b") (script (l1 (stmt (n1 (expression NewWithoutArguments) (n1 (expression NewWithoutArguments) (n2 (expression Member) (n "a") (n "b"))))))) ≡ true
new_1 = refl

new_2 : reads (codes "new new a()") (script (l1 (stmt (n1 (expression NewWithoutArguments) (n2 (expression New) (n "a") l0))))) ≡ true
new_2 = refl

new_3 : reads (codes "new new a()") (script (l1 (stmt (n2 (expression New) (n1 (expression NewWithoutArguments) (n "a")) l0)))) ≡ false
new_3 = refl

arrow_1 : reads (codes "a\n=>b") (script (l1 (stmt (n2 (expression BareArrow) (n "a") (n "b"))))) ≡ false
arrow_1 = refl

arrow_2 : reads (codes "(a,)=>b") (script (l1 (stmt (n2 (expression Arrow) (l1 (n "a")) (n "b"))))) ≡ true
arrow_2 = refl

-- -1 ** 2 isn't read
pow_1 : is (Expr 0) (n2 (expression (Binary Exponentiate)) (n1 (expression (Unary Negative)) (num "1")) (num "2")) ≡ false
pow_1 = refl

-- no chain is a target
chain_1 : is (Expr 0) (n2 (expression Assign) (n2 (expression Chain) (n "a") (l1 (n1 (expression (NameLink true)) (n "b")))) (n "c")) ≡ false
chain_1 = refl

abbrev expr_text : Text → Tree → Bool
expr_text text e = reads text (script (l1 (stmt e)))

-- a slash on a new line divides, a template tags, a `<` compares, a `++` begins a statement
slash_1 : expr_text (codes "a\n/b/g") (n2 (expression (Binary Divide)) (n2 (expression (Binary Divide)) (n "a") (n "b")) (n "g")) ≡ true
slash_1 = refl

slash_2 : reads (codes "a\n/b/g") (two (stmt (n "a")) (stmt (leaf RegExpLiteral (codes "/b/g")))) ≡ false
slash_2 = refl

tag_1 : expr_text (codes "a\n`x`") (n2 (expression Tagged) (n "a") (n1 (expression (PlainTemplate true)) (leaf NoSubstitution (codes "`x`")))) ≡ true
tag_1 = refl

less_1 : expr_text (codes "f(<a/>,b<c)") (n2 (expression Call) (n "f") (l2 (n2 (jsx Element) (jn "a") l0) (n2 (expression (Binary Less)) (n "b") (n "c")))) ≡ true
less_1 = refl

-- { a, "b": 1, get c() {}, [d]: 2, ...e, set f(g) {}, get: h }
object_4 : expr_text (codes "({a,'b':1,get c(){},[d]:2,...e,set f(g){},get:h,})") (n1 (expression Parenthesized) (n1 (expression Object) (list (part (n1 (expression Shorthand) (n "a")) (part (n2 (expression Property) (str "'b'") (num "1")) (part (n2 (function (Getter InObject)) (n "c") (n2 (program FunctionBody) l0 l0)) (part (n2 (expression Property) (n1 (function ComputedKey) (n "d")) (num "2")) (part (n1 (expression Spread) (n "e")) (part (n3 (function (Setter InObject)) (n "f") (n "g") (n2 (program FunctionBody) l0 l0)) (part (n2 (expression Property) (n "get") (n "h")) none)))))))))) ≡ true
object_4 = refl

-- ({ a: [b.c = 1], ...d } = e), with the pattern's targets
assign_1 : expr_text (codes "({a:[(b.c)=1],...d}=e)") (n1 (expression Parenthesized) (n2 (expression Assign) (n1 (function (ObjectPat Assigns)) (l2 (n2 (function (PropertyPat Assigns)) (n "a") (n1 (function (ArrayPat Assigns)) (l1 (n2 (function (WithInit Assigns)) (n1 (function ParenTarget) (n2 (expression Member) (n "b") (n "c"))) (num "1"))))) (n1 (function (RestProperty Assigns)) (n "d")))) (n "e"))) ≡ true
assign_1 = refl

-- the same text read as a literal is refused
assign_2 : is (Expr 0) (n2 (expression Assign) (n1 (expression Object) l0) (n "e")) ≡ false
assign_2 = refl

directive_1 : reads (codes "'use strict'\n+a") (n2 (program Script) (l1 (n1 (program Directive) (str "'use strict'"))) (l1 (stmt (n1 (expression (Unary Positive)) (n "a"))))) ≡ false
directive_1 = refl

directive_2 : reads (codes "'use strict'\na") (n2 (program Script) (l1 (n1 (program Directive) (str "'use strict'"))) (l1 (stmt (n "a")))) ≡ true
directive_2 = refl

for_1 : reads (codes "for(var a of b)x:for(c in d,e);") (script (l1 (n3 (statement ForOf) (n1 (statement (ForBinding VarWord)) (n "a")) (n "b") (n2 (statement Label) (n "x") (n3 (statement ForIn) (n "c") (n1 (expression Seq) (l2 (n "d") (n "e"))) (n0 (statement Empty))))))) ≡ true
for_1 = refl

for_2 : reads (codes "for(async of b);") (script (l1 (n3 (statement ForOf) (n "async") (n "b") (n0 (statement Empty))))) ≡ false
for_2 = refl

export_1 : reads (codes "export{a,b as default,}\nexport*as c from'd'\nexport default function(){}") (n2 (program Module) l0 (l3 (n1 (program ExportNames) (l2 (n1 (program (Specifier Exported)) (n "a")) (n2 (program (SpecifierAs Exported)) (n "b") (n "default")))) (n2 (program ExportAllAs) (n "c") (str "'d'")) (n3 (program ExportDefaultFn) l0 l0 (n2 (program FunctionBody) l0 l0)))) ≡ true
export_1 = refl

-- `from` on a new line goes on with a list of exports
export_2 : reads (codes "export{a}\nfrom") (n2 (program Module) l0 (l2 (n1 (program ExportNames) (l1 (n1 (program (Specifier Exported)) (n "a")))) (stmt (n "from")))) ≡ false
export_2 = refl

jsx_attr : expr_text (codes "<a b=<c/> d:e='<' f={g}/>") (n2 (jsx Element) (jn "a") (l3 (n2 (jsx Attribute) (jn "b") (l1 (n2 (jsx Element) (jn "c") l0))) (n2 (jsx Attribute) (n2 (jsx NamespacedName) (jn "d") (jn "e")) (l1 (leaf JsxString (codes "'<'")))) (n2 (jsx Attribute) (jn "f") (l1 (n1 (jsx Container) (n "g")))))) ≡ true
jsx_attr = refl

jsx_less : expr_text (codes "<a>b>c</a>") (n4 (jsx ElementWithChildren) (jn "a") l0 (l1 (leaf JsxText (codes "b>c"))) (jn "a")) ≡ false
jsx_less = refl

chain_2 : expr_text (codes "a?.b.c(d)?.[e].f") (n2 (expression Chain) (n "a") (list (part (n1 (expression (NameLink true)) (n "b")) (part (n1 (expression (NameLink false)) (n "c")) (part (n1 (expression (CallLink false)) (l1 (n "d"))) (part (n1 (expression (IndexLink true)) (n "e")) (part (n1 (expression (NameLink false)) (n "f")) none))))))) ≡ true
chain_2 = refl

cond_1 : expr_text (codes "a?.5:1") (n3 (expression Cond) (n "a") (num ".5") (num "1")) ≡ true
cond_1 = refl

comment_1 : expr_text (codes "a /* \n */ ++b") (n1 (expression (PostfixUpdate Increment)) (n "a")) ≡ false
comment_1 = refl

comment_2 : reads (codes "a /* \n */ ++b") (two (stmt (n "a")) (stmt (n1 (expression (PrefixUpdate Increment)) (n "b")))) ≡ true
comment_2 = refl
