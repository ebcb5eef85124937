-- Missing semicolons (ECMA-262 section 12.10), computed: each line of the table, from both sides.
use Rattle.std.specs.Prelude.{◌≡◌, [], ◌∷◌, codes, true, false, refl}
use Rattle.jsx_base.specs.Token.{NoSubstitution}
use Rattle.jsx_tree.specs.Kinds.{UnaryOp, Tree, VarWord, Script, Directive, ImportBare, ExportNames, ExportAll, ExportDefaultExpr, Var, Declarator, Do, While, Continue, Break, Return, Throw, Debugger, FunctionExpr, Negative, Not, Increment, Seq, ArrowBlock, Unary, PrefixUpdate, PostfixUpdate, Chain, NameLink, PlainTemplate, Element, program, statement, function, expression, jsx, leaf}
use Rattle.jsx_tree.specs.Reading.{reads}
use Rattle.jsx_tree.proofs.Samples.{n, str, n0, n1, n2, n3, l0, l1, l2, l3, stmt, script, jn, body_of, in_op, dot, paren, set_to, arrow, block, empty, reads_script, reads_module, prints}

abbrev unary_of : UnaryOp → Tree → Tree
unary_of o a = n1 (expression (Unary o)) a

abbrev var_line : Tree → Tree
var_line i = n1 (statement (Var VarWord)) (l1 (n2 (statement Declarator) (n "a") i))

-- `a` LF `++b` is two statements, `a ++` on one line is one
update_lines : reads_script "a\n++b" (l2 (stmt (n "a")) (stmt (n1 (expression (PrefixUpdate Increment)) (n "b")))) ≡ true
update_lines = refl

update_printed : prints (script (l2 (stmt (n "a")) (stmt (n1 (expression (PrefixUpdate Increment)) (n "b"))))) "a;\n++b;\n" ≡ true
update_printed = refl

update_three_lines : reads_script "a\n++\nb" (l2 (stmt (n "a")) (stmt (n1 (expression (PrefixUpdate Increment)) (n "b")))) ≡ true
update_three_lines = refl

update_three_lines_postfix : reads_script "a\n++\nb" (l2 (stmt (n1 (expression (PostfixUpdate Increment)) (n "a"))) (stmt (n "b"))) ≡ false
update_three_lines_postfix = refl

update_one_line : reads_script "a++\nb" (l2 (stmt (n1 (expression (PostfixUpdate Increment)) (n "a"))) (stmt (n "b"))) ≡ true
update_one_line = refl

-- after an expression
sign_goes_on : reads_script "a\n-b" (l2 (stmt (n "a")) (stmt (unary_of Negative (n "b")))) ≡ false
sign_goes_on = refl

not_begins : reads_script "a\n!b" (l2 (stmt (n "a")) (stmt (unary_of Not (n "b")))) ≡ true
not_begins = refl

paren_goes_on : reads_script "a\n(b)" (l2 (stmt (n "a")) (stmt (paren (n "b")))) ≡ false
paren_goes_on = refl

dot_goes_on : reads_script "a\n.b" (l1 (stmt (dot (n "a") "b"))) ≡ true
dot_goes_on = refl

chain_goes_on : reads_script "a\n?.b" (l1 (stmt (n2 (expression Chain) (n "a") (l1 (n1 (expression (NameLink true)) (n "b")))))) ≡ true
chain_goes_on = refl

in_goes_on : reads_script "a\nin b" (l1 (stmt (in_op (n "a") (n "b")))) ≡ true
in_goes_on = refl

element_goes_on : reads_script "a\n<b/>" (l2 (stmt (n "a")) (stmt (n2 (jsx Element) (jn "b") l0))) ≡ false
element_goes_on = refl

template_goes_on : reads_script "a\n`b`" (l2 (stmt (n "a")) (stmt (n1 (expression (PlainTemplate false)) (leaf NoSubstitution (codes "`b`"))))) ≡ false
template_goes_on = refl

word_begins : reads_script "a\nof\nb" (l3 (stmt (n "a")) (stmt (n "of")) (stmt (n "b"))) ≡ true
word_begins = refl

brace_begins : reads_script "a\n{}" (l2 (stmt (n "a")) (block l0)) ≡ true
brace_begins = refl

same_line : reads_script "a b" (l2 (stmt (n "a")) (stmt (n "b"))) ≡ false
same_line = refl

before_brace : reads_script "{ a }" (l1 (block (l1 (stmt (n "a"))))) ≡ true
before_brace = refl

-- a comment with a line end is a line end, one without isn't
comment_lines : reads_script "a /*\n*/ b" (l2 (stmt (n "a")) (stmt (n "b"))) ≡ true
comment_lines = refl

comment_line : reads_script "a /* */ b" (l2 (stmt (n "a")) (stmt (n "b"))) ≡ false
comment_line = refl

-- U+2028 and CR end a line too
separator_line : reads (40 ∷ 97 ∷ 41 ∷ 8232 ∷ 98 ∷ []) (script (l2 (stmt (paren (n "a"))) (stmt (n "b")))) ≡ true
separator_line = refl

return_line : reads (97 ∷ 13 ∷ 98 ∷ []) (script (l2 (stmt (n "a")) (stmt (n "b")))) ≡ true
return_line = refl

-- a `;` that comes next is taken, on a new line too; it is no empty statement
semicolon_line : reads_script "a\n;b" (l2 (stmt (n "a")) (stmt (n "b"))) ≡ true
semicolon_line = refl

semicolon_empty : reads_script "a\n;b" (l3 (stmt (n "a")) empty (stmt (n "b"))) ≡ false
semicolon_empty = refl

-- the semicolon of an empty statement is never missing
empty_missing : reads_script "while (a)" (l1 (n2 (statement While) (n "a") empty)) ≡ false
empty_missing = refl

-- an arrow's block body that ends the expression: only `,` goes on
block_then_paren : reads_script "a = () => {}\n(b)" (l2 (stmt (set_to (n "a") (n2 (expression ArrowBlock) l0 (body_of l0)))) (stmt (paren (n "b")))) ≡ true
block_then_paren = refl

block_then_comma : reads_script "() => {}\n, b" (l1 (stmt (n1 (expression Seq) (l2 (n2 (expression ArrowBlock) l0 (body_of l0)) (n "b"))))) ≡ true
block_then_comma = refl

block_in_parens : reads_script "(() => {})\n(b)" (l2 (stmt (paren (n2 (expression ArrowBlock) l0 (body_of l0)))) (stmt (paren (n "b")))) ≡ false
block_in_parens = refl

arrow_body_then_paren : reads_script "() => a\n(b)" (l2 (stmt (arrow l0 (n "a"))) (stmt (paren (n "b")))) ≡ false
arrow_body_then_paren = refl

function_then_paren : reads_script "a = function () {}\n(b)" (l2 (stmt (set_to (n "a") (n3 (function FunctionExpr) l0 l0 (body_of l0)))) (stmt (paren (n "b")))) ≡ false
function_then_paren = refl

-- return, break, continue, their labels, debugger: always missing at a line's end
return_then_paren : reads_script "return\n(b)" (l2 (n1 (statement Return) l0) (stmt (paren (n "b")))) ≡ true
return_then_paren = refl

return_value_line : reads_script "return a\n(b)" (l2 (n1 (statement Return) (l1 (n "a"))) (stmt (paren (n "b")))) ≡ false
return_value_line = refl

break_then_dot : reads_script "break\na" (l2 (n1 (statement Break) l0) (stmt (n "a"))) ≡ true
break_then_dot = refl

break_label_line : reads_script "break\na" (l1 (n1 (statement Break) (l1 (n "a")))) ≡ false
break_label_line = refl

label_then_paren : reads_script "continue a\n(b)" (l2 (n1 (statement Continue) (l1 (n "a"))) (stmt (paren (n "b")))) ≡ true
label_then_paren = refl

debugger_then_sign : reads_script "debugger\n-b" (l2 (n0 (statement Debugger)) (stmt (unary_of Negative (n "b")))) ≡ true
debugger_then_sign = refl

throw_line : reads_script "throw\na" (l1 (n1 (statement Throw) (n "a"))) ≡ false
throw_line = refl

-- a declarator without initialiser: only `=` and `,` go on
declarator_then_paren : reads_script "var a\n(b)" (l2 (var_line l0) (stmt (paren (n "b")))) ≡ true
declarator_then_paren = refl

declarator_then_equals : reads_script "var a\n= b" (l1 (var_line (l1 (n "b")))) ≡ true
declarator_then_equals = refl

declarator_value_then_paren : reads_script "var a = b\n(c)" (l2 (var_line (l1 (n "b"))) (stmt (paren (n "c")))) ≡ false
declarator_value_then_paren = refl

declarator_then_comma : reads_script "var a\n, b" (l1 (n1 (statement (Var VarWord)) (l2 (n2 (statement Declarator) (n "a") l0) (n2 (statement Declarator) (n "b") l0)))) ≡ true
declarator_then_comma = refl

-- do: missing behind its `)` also on the same line
do_line : reads_script "do a\nwhile (b) c" (l2 (n2 (statement Do) (stmt (n "a")) (n "b")) (stmt (n "c"))) ≡ true
do_line = refl

do_body : reads_script "do a while (b)" (l1 (n2 (statement Do) (stmt (n "a")) (n "b"))) ≡ false
do_body = refl

-- imports and exports
import_then_paren : reads_module "import 'a'\n(b)" (l2 (n1 (program ImportBare) (str "'a'")) (stmt (paren (n "b")))) ≡ true
import_then_paren = refl

export_all_then_paren : reads_module "export * from 'a'\n(b)" (l2 (n1 (program ExportAll) (str "'a'")) (stmt (paren (n "b")))) ≡ true
export_all_then_paren = refl

export_list_then_paren : reads_module "export {}\n(b)" (l2 (n1 (program ExportNames) l0) (stmt (paren (n "b")))) ≡ true
export_list_then_paren = refl

export_default_then_paren : reads_module "export default a\n(b)" (l2 (n1 (program ExportDefaultExpr) (n "a")) (stmt (paren (n "b")))) ≡ false
export_default_then_paren = refl

-- directives
directive_then_paren : reads (codes "'a'\n(b)") (n2 (program Script) (l1 (n1 (program Directive) (str "'a'"))) (l1 (stmt (paren (n "b"))))) ≡ false
directive_then_paren = refl

directives_lines : reads (codes "'a'\n'b'") (n2 (program Script) (l2 (n1 (program Directive) (str "'a'")) (n1 (program Directive) (str "'b'"))) l0) ≡ true
directives_lines = refl
