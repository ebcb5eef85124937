-- Expressions (ECMA-262 section 13), computed: levels, guards, what is read and what isn't.
use Rattle.std.specs.Prelude.{◌≡◌, codes, true, false, refl}
use Rattle.jsx_base.specs.Token.{RegExpLiteral, NoSubstitution, TemplateHead, TemplateMiddle, TemplateTail}
use Rattle.jsx_tree.specs.Kinds.{ComputedKey, Nullish, Or, Divide, Exponentiate, Delete, Negative, Increment, Seq, ArrowBlock, BareArrow, Cond, Binary, Unary, PrefixUpdate, PostfixUpdate, Tagged, New, NewWithoutArguments, SuperMember, ImportCall, Chain, NameLink, IndexLink, CallLink, Property, Shorthand, Spread, PlainTemplate, SubstitutedTemplate, TemplateSpan, function, expression, leaf}
use Rattle.jsx_tree.specs.Nonterminals.{Expr}
use Rattle.jsx_tree.specs.Form.{is}
use Rattle.jsx_tree.proofs.Samples.{n, num, str, n1, n2, n3, n4, l0, l1, l2, l3, stmt, script, body_of, add, call, dot, paren, set_to, object_of, array_of, arrow, hole, reads_expr, reads_script, keeps, prints}

-- a ** b: a unary operand on the left isn't read
power_sign : reads_expr "-x ** y" (n2 (expression (Binary Exponentiate)) (n1 (expression (Unary Negative)) (n "x")) (n "y")) ≡ false
power_sign = refl

power_in_sign : reads_expr "-x ** y" (n1 (expression (Unary Negative)) (n2 (expression (Binary Exponentiate)) (n "x") (n "y"))) ≡ false
power_in_sign = refl

power_update : reads_expr "++x ** -y" (n2 (expression (Binary Exponentiate)) (n1 (expression (PrefixUpdate Increment)) (n "x")) (n1 (expression (Unary Negative)) (n "y"))) ≡ true
power_update = refl

power_right : reads_expr "a ** b ** c" (n2 (expression (Binary Exponentiate)) (n "a") (n2 (expression (Binary Exponentiate)) (n "b") (n "c"))) ≡ true
power_right = refl

sum_left : reads_expr "a + b + c" (add (add (n "a") (n "b")) (n "c")) ≡ true
sum_left = refl

sum_right : reads_expr "a + b + c" (add (n "a") (add (n "b") (n "c"))) ≡ false
sum_right = refl

-- ?? next to || or &&
nullish_or : reads_expr "a ?? b || c" (n2 (expression (Binary Or)) (n2 (expression (Binary Nullish)) (n "a") (n "b")) (n "c")) ≡ false
nullish_or = refl

or_nullish : reads_expr "a || b ?? c" (n2 (expression (Binary Nullish)) (n2 (expression (Binary Or)) (n "a") (n "b")) (n "c")) ≡ false
or_nullish = refl

nullish_paren : reads_expr "x = a ?? (b || c)" (set_to (n "x") (n2 (expression (Binary Nullish)) (n "a") (paren (n2 (expression (Binary Or)) (n "b") (n "c"))))) ≡ true
nullish_paren = refl

nullish_text : prints (script (l1 (stmt (set_to (n "x") (n2 (expression (Binary Nullish)) (n "a") (n2 (expression (Binary Or)) (n "b") (n "c"))))))) "x = a ?? (b || c);\n" ≡ true
nullish_text = refl

-- an arrow is no operand, and no test of a conditional
arrow_operand : reads_expr "a || () => b" (n2 (expression (Binary Or)) (n "a") (arrow l0 (n "b"))) ≡ false
arrow_operand = refl

arrow_test : is (Expr 0) (n3 (expression Cond) (arrow l0 (n "a")) (n "b") (n "c")) ≡ false
arrow_test = refl

arrow_branch : reads_expr "a ? (b) : c => d" (n3 (expression Cond) (n "a") (paren (n "b")) (n2 (expression BareArrow) (n "c") (n "d"))) ≡ true
arrow_branch = refl

arrow_in_branch : reads_expr "a ? (b) => c : d" (n3 (expression Cond) (n "a") (arrow (l1 (n "b")) (n "c")) (n "d")) ≡ true
arrow_in_branch = refl

-- no line end before `=>`
arrow_line : reads_expr "(a, b)\n=> {}" (n2 (expression ArrowBlock) (l2 (n "a") (n "b")) (body_of l0)) ≡ false
arrow_line = refl

arrow_line_behind : reads_expr "(a, b) =>\n{}" (n2 (expression ArrowBlock) (l2 (n "a") (n "b")) (body_of l0)) ≡ true
arrow_line_behind = refl

arrow_comment : reads_expr "(a /*\n*/) /* b */ => c" (arrow (l1 (n "a")) (n "c")) ≡ true
arrow_comment = refl

arrow_body_brace : reads_expr "() => {}" (arrow l0 (object_of l0)) ≡ false
arrow_body_brace = refl

-- an arrow's pair of parentheses belongs to it, a sequence has no trailing comma
seq_trailing : reads_expr "(a, b,)" (paren (n1 (expression Seq) (l2 (n "a") (n "b")))) ≡ false
seq_trailing = refl

empty_parens : reads_expr "()" (paren (n1 (expression Seq) l0)) ≡ false
empty_parens = refl

-- `async` is a name
async_arrow : reads_expr "async => a" (n2 (expression BareArrow) (n "async") (n "a")) ≡ true
async_arrow = refl

async_call : reads_expr "async(a)" (call (n "async") (l1 (n "a"))) ≡ true
async_call = refl

async_call_arrow : reads_script "async(a)\n=> b" (l2 (stmt (call (n "async") (l1 (n "a")))) (stmt (n "b"))) ≡ false
async_call_arrow = refl

async_lines : reads_script "async\na => b" (l2 (stmt (n "async")) (stmt (n2 (expression BareArrow) (n "a") (n "b")))) ≡ true
async_lines = refl

-- new: members belong to its callee, the first arguments to it
new_member : reads_expr "new a.b(c).d" (dot (n2 (expression New) (dot (n "a") "b") (l1 (n "c"))) "d") ≡ true
new_member = refl

new_call : reads_expr "new a()()" (call (n2 (expression New) (n "a") l0) l0) ≡ true
new_call = refl

new_tagged : reads_expr "new a`x`" (n1 (expression NewWithoutArguments) (n2 (expression Tagged) (n "a") (n1 (expression (PlainTemplate true)) (leaf NoSubstitution (codes "`x`"))))) ≡ true
new_tagged = refl

new_chain : reads_expr "new a?.b()" (n2 (expression New) (n2 (expression Chain) (n "a") (l1 (n1 (expression (NameLink true)) (n "b")))) l0) ≡ false
new_chain = refl

new_bare_chain : is (Expr 0) (n2 (expression Chain) (n1 (expression NewWithoutArguments) (n "a")) (l1 (n1 (expression (NameLink true)) (n "b")))) ≡ false
new_bare_chain = refl

new_import : is (Expr 0) (n2 (expression New) (n1 (expression ImportCall) (n "a")) l0) ≡ false
new_import = refl

-- `new F` is written with its arguments, and stands where a call does without a pair
new_bare_member : prints (script (l1 (stmt (dot (n1 (expression NewWithoutArguments) (n "F")) "x")))) "new F().x;\n" ≡ true
new_bare_member = refl

new_bare_callee : prints (script (l1 (stmt (n2 (expression New) (n1 (expression NewWithoutArguments) (n "F")) l0)))) "new new F()();\n" ≡ true
new_bare_callee = refl

new_call_pair : prints (script (l1 (stmt (n2 (expression New) (call (n "a") l0) l0)))) "new (a())();\n" ≡ true
new_call_pair = refl

-- chains: one node up to the last link, no template in it, no target
chain_member : reads_expr "(a?.b).c" (dot (paren (n2 (expression Chain) (n "a") (l1 (n1 (expression (NameLink true)) (n "b"))))) "c") ≡ true
chain_member = refl

chain_split : reads_expr "a?.b.c" (dot (n2 (expression Chain) (n "a") (l1 (n1 (expression (NameLink true)) (n "b")))) "c") ≡ false
chain_split = refl

chain_template : is (Expr 0) (n2 (expression Tagged) (n2 (expression Chain) (n "a") (l1 (n1 (expression (NameLink true)) (n "b")))) (n1 (expression (PlainTemplate true)) (leaf NoSubstitution (codes "`x`")))) ≡ false
chain_template = refl

chain_template_pair : prints (script (l1 (stmt (n2 (expression Tagged) (n2 (expression Chain) (n "a") (l1 (n1 (expression (NameLink true)) (n "b")))) (n1 (expression (PlainTemplate true)) (leaf NoSubstitution (codes "`x`"))))))) "(a?.b)`x`;\n" ≡ true
chain_template_pair = refl

chain_first : keeps (script (l1 (stmt (n2 (expression Chain) (n "a") (l1 (n1 (expression (NameLink false)) (n "b"))))))) ≡ false
chain_first = refl

chain_update : is (Expr 0) (n1 (expression (PostfixUpdate Increment)) (n2 (expression Chain) (n "a") (l1 (n1 (expression (NameLink true)) (n "b"))))) ≡ false
chain_update = refl

chain_super : reads_expr "super.a?.[b](c)" (n2 (expression Chain) (n1 (expression SuperMember) (n "a")) (l2 (n1 (expression (IndexLink true)) (n "b")) (n1 (expression (CallLink false)) (l1 (n "c"))))) ≡ true
chain_super = refl

-- a number takes the dot that follows: `1.x` is no member, `1..x` and `1 .x` are
number_dot : reads_expr "1.x" (dot (num "1") "x") ≡ false
number_dot = refl

number_dots : reads_expr "1..x" (dot (num "1.") "x") ≡ true
number_dots = refl

number_blank : reads_expr "1 .x" (dot (num "1") "x") ≡ true
number_blank = refl

number_text : prints (script (l1 (stmt (dot (num "1.5") "x")))) "(1.5).x;\n" ≡ true
number_text = refl

-- trailing commas: in arguments, not in import()
call_trailing : reads_expr "f(...a,)" (call (n "f") (l1 (n1 (expression Spread) (n "a")))) ≡ true
call_trailing = refl

call_comma : reads_expr "f(,)" (call (n "f") l0) ≡ false
call_comma = refl

import_trailing : reads_expr "import(a,)" (n1 (expression ImportCall) (n "a")) ≡ false
import_trailing = refl

-- literals
regexes : reads_expr "x = a / b / /[/]\\/c/g" (set_to (n "x") (n2 (expression (Binary Divide)) (n2 (expression (Binary Divide)) (n "a") (n "b")) (leaf RegExpLiteral (codes "/[/]\\/c/g")))) ≡ true
regexes = refl

regexes_text : prints (script (l1 (stmt (set_to (n "x") (n2 (expression (Binary Divide)) (n2 (expression (Binary Divide)) (n "a") (n "b")) (leaf RegExpLiteral (codes "/[/]\\/c/g"))))))) "x = a / b / /[/]\\/c/g;\n" ≡ true
regexes_text = refl

one_hole : reads_expr "[,]" (array_of (l1 hole)) ≡ true
one_hole = refl

hole_texts : prints (script (l1 (stmt (array_of (l3 hole (n "a") hole))))) "[, a, ,];\n" ≡ true
hole_texts = refl

template_brace : reads_expr "`${ {} }${`${a}`}`" (n4 (expression (SubstitutedTemplate false)) (leaf TemplateHead (codes "`${")) (l1 (n2 (expression (TemplateSpan false)) (object_of l0) (leaf TemplateMiddle (codes "${")))) (n4 (expression (SubstitutedTemplate false)) (leaf TemplateHead (codes "`${")) l0 (n "a") (leaf TemplateTail (codes "`"))) (leaf TemplateTail (codes "`"))) ≡ true
template_brace = refl

-- an escape that isn't whole, at a template's end too
template_escape : keeps (n1 (expression (PlainTemplate false)) (leaf NoSubstitution (codes "`\\x4`"))) ≡ false
template_escape = refl

template_escape_unicode : keeps (n1 (expression (PlainTemplate false)) (leaf NoSubstitution (codes "`\\u`"))) ≡ false
template_escape_unicode = refl

template_escape_octal : keeps (n1 (expression (PlainTemplate false)) (leaf NoSubstitution (codes "`\\1`"))) ≡ false
template_escape_octal = refl

template_escape_whole : keeps (n1 (expression (PlainTemplate false)) (leaf NoSubstitution (codes "`\\x41\\0\\u0041\\$`"))) ≡ true
template_escape_whole = refl

-- objects: one `__proto__: v`, shorthands, computed keys and methods aside
two_protos : keeps (script (l1 (stmt (paren (object_of (l2 (n2 (expression Property) (n "__proto__") (n "a")) (n2 (expression Property) (str "'__proto__'") (n "b")))))))) ≡ false
two_protos = refl

short_protos : keeps (script (l1 (stmt (paren (object_of (l3 (n2 (expression Property) (n "__proto__") (n "a")) (n1 (expression Shorthand) (n "__proto__")) (n2 (expression Property) (n1 (function ComputedKey) (str "'__proto__'")) (n "b")))))))) ≡ true
short_protos = refl

shorthand_word : reads_expr "({ this })" (paren (object_of (l1 (n1 (expression Shorthand) (n "this"))))) ≡ false
shorthand_word = refl

-- delete
delete_name : keeps (script (l1 (stmt (n1 (expression (Unary Delete)) (paren (paren (n "a"))))))) ≡ false
delete_name = refl

delete_this : keeps (script (l1 (stmt (n1 (expression (Unary Delete)) (n "this"))))) ≡ true
delete_this = refl
