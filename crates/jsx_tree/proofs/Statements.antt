-- Statements (ECMA-262 section 14), computed: what is read, what is refused, how it is written.
use Rattle.std.specs.Prelude.{◌≡◌, codes, true, false, refl, ◌&&◌}
use Prim.Native.String.{String}
use Rattle.jsx_base.specs.Token.{TemplateHead, TemplateMiddle, TemplateTail}
use Rattle.jsx_tree.specs.Kinds.{DeclareWord, Tree, VarWord, LetWord, ConstWord, Script, Directive, Var, Declarator, If, Do, While, For, ForDeclaration, ForIn, ForOf, ForBinding, Continue, Break, Return, Throw, Debugger, Label, Switch, Case, Default, Try, Catch, FunctionDecl, Binds, Assigns, FunctionExpr, ClassExpr, ArrayPat, ObjectPat, ParenTarget, Seq, ArrowBlock, Cond, Index, SubstitutedTemplate, TemplateSpan, program, statement, function, expression, leaf}
use Rattle.jsx_tree.specs.Nonterminals.{Stmt, SubStmt}
use Rattle.jsx_tree.specs.Form.{is}
use Rattle.jsx_tree.proofs.Samples.{n, str, n0, n1, n2, n3, n4, l0, l1, l2, l3, short, stmt, script, module_of, body_of, in_op, call, dot, paren, arrow, block, empty, reads_script, reads_module, keeps, prints}

abbrev while' : Tree → Tree → Tree
while' e s = n2 (statement While) e s

abbrev if_of : Tree → Tree → Tree → Tree
if_of e s o = n3 (statement If) e s o

abbrev for_of : Tree → Tree → Tree → Tree
for_of i t u = n4 (statement For) i t u empty

abbrev fun : String → Tree → Tree
fun f items = n3 (statement FunctionDecl) (n f) l0 (body_of items)

abbrev var_of : DeclareWord → Tree → Tree → Tree
var_of v q i = n1 (statement (Var v)) (l1 (n2 (statement Declarator) q i))

-- if (a) b; else {c}
if_read : reads_script "if (a) b; else { c }" (l1 (if_of (n "a") (stmt (n "b")) (l1 (block (l1 (stmt (n "c"))))))) ≡ true
if_read = refl

if_printed : prints (script (l1 (if_of (n "a") (stmt (n "b")) (l1 (block (l1 (stmt (n "c")))))))) "if (a) b; else {\n    c;\n}\n" ≡ true
if_printed = refl

else_alone : reads_script "if (a) {}\nelse\nb" (l1 (if_of (n "a") (block l0) (l1 (stmt (n "b"))))) ≡ true
else_alone = refl

-- an `else` belongs to the nearest `if`, through loops and labels
else_loop : reads_script "if (a) while (b) x: if (c); else;" (l1 (if_of (n "a") (while' (n "b") (n2 (statement Label) (n "x") (if_of (n "c") empty (l1 empty)))) l0)) ≡ true
else_loop = refl

else_outer : reads_script "if (a) while (b) x: if (c); else;" (l1 (if_of (n "a") (while' (n "b") (n2 (statement Label) (n "x") (if_of (n "c") empty l0))) (l1 empty))) ≡ false
else_outer = refl

-- statements that are no sub-statements
sub_let : is SubStmt (var_of LetWord (n "a") l0) ≡ false
sub_let = refl

sub_var : is SubStmt (var_of VarWord (n "a") l0) ≡ true
sub_var = refl

sub_function : is SubStmt (fun "f" l0) ≡ false
sub_function = refl

-- for heads
for_empty : prints (script (l1 (for_of l0 l0 l0))) "for (;;) ;\n" ≡ true
for_empty = refl

for_test : prints (script (l1 (for_of l0 (l1 (n "a")) l0))) "for (; a;) ;\n" ≡ true
for_test = refl

for_update : prints (script (l1 (for_of (l1 (n "a")) l0 (l1 (n "b"))))) "for (a;; b) ;\n" ≡ true
for_update = refl

for_lines : reads_script "for (a\n;\n;b\n)\n;" (l1 (for_of (l1 (n "a")) l0 (l1 (n "b")))) ≡ true
for_lines = refl

for_no_semicolon : reads_script "for (a\nb;c);" (l1 (for_of (l1 (n "a")) (l1 (n "b")) (l1 (n "c")))) ≡ false
for_no_semicolon = refl

for_const : keeps (script (l1 (for_of (l1 (n1 (statement (ForDeclaration ConstWord)) (l1 (n2 (statement Declarator) (n "a") l0)))) l0 l0))) ≡ false
for_const = refl

for_const_of : reads_script "for (const { a } of b, c);" (l1 (n3 (statement ForOf) (n1 (statement (ForBinding ConstWord)) (n1 (function (ObjectPat Binds)) (l1 (short "a")))) (n1 (expression Seq) (l2 (n "b") (n "c"))) empty)) ≡ false
for_const_of = refl

for_in_seq : prints (script (l1 (n3 (statement ForIn) (n1 (statement (ForBinding ConstWord)) (n1 (function (ObjectPat Binds)) (l1 (short "a")))) (n1 (expression Seq) (l2 (n "b") (n "c"))) empty))) "for (const { a } in b, c) ;\n" ≡ true
for_in_seq = refl

for_in_init : is Stmt (n3 (statement ForIn) (n1 (statement (ForDeclaration VarWord)) (l1 (n2 (statement Declarator) (n "a") (l1 (n "b"))))) (n "c") empty) ≡ false
for_in_init = refl

for_member : reads_script "for (a.b[c in d] in e);" (l1 (n3 (statement ForIn) (n2 (expression Index) (dot (n "a") "b") (in_op (n "c") (n "d"))) (n "e") empty)) ≡ true
for_member = refl

for_pattern_of : reads_script "for ([a, b.c] of d);" (l1 (n3 (statement ForOf) (n1 (function (ArrayPat Assigns)) (l2 (n "a") (dot (n "b") "c"))) (n "d") empty)) ≡ true
for_pattern_of = refl

for_async_member : reads_script "for (async.a of b);" (l1 (n3 (statement ForOf) (dot (n "async") "a") (n "b") empty)) ≡ true
for_async_member = refl

for_async_paren : reads_script "for ((async) of b);" (l1 (n3 (statement ForOf) (n1 (function ParenTarget) (n "async")) (n "b") empty)) ≡ true
for_async_paren = refl

for_of_of : reads_script "for (var of of of);" (l1 (n3 (statement ForOf) (n1 (statement (ForBinding VarWord)) (n "of")) (n "of") empty)) ≡ true
for_of_of = refl

-- an `in` in the head of a `for`: refused when it stands open, also in an arrow's body and behind a `?`
for_in_arrow : keeps (script (l1 (for_of (l1 (arrow l0 (in_op (n "a") (n "b")))) l0 l0))) ≡ false
for_in_arrow = refl

for_in_block : keeps (script (l1 (for_of (l1 (n2 (expression ArrowBlock) l0 (body_of (l1 (stmt (in_op (n "a") (n "b"))))))) l0 l0))) ≡ true
for_in_block = refl

for_in_template : keeps (script (l1 (for_of (l1 (n4 (expression (SubstitutedTemplate false)) (leaf TemplateHead (codes "`${")) (l1 (n2 (expression (TemplateSpan false)) (in_op (n "a") (n "b")) (leaf TemplateMiddle (codes "${")))) (in_op (n "a") (n "b")) (leaf TemplateTail (codes "`")))) l0 l0))) ≡ true
for_in_template = refl

for_in_pair : prints (script (l1 (for_of (l1 (n3 (expression Cond) (n "a") (in_op (n "b") (n "c")) (n "d"))) (l1 (in_op (n "e") (n "f"))) l0))) "for (a ? (b in c) : d; e in f;) ;\n" ≡ true
for_in_pair = refl

-- switch
switch_printed : prints (script (l1 (n2 (statement Switch) (n "a") (l3 (n2 (statement Case) (n "b") l0) (n2 (statement Case) (n "c") (l2 (block l0) (n1 (statement Break) l0))) (n1 (statement Default) l0))))) "switch (a) {\n    case b:\n    case c:\n        {}\n        break;\n    default:\n}\n" ≡ true
switch_printed = refl

switch_empty : prints (script (l1 (n2 (statement Switch) (n "a") l0))) "switch (a) {}\n" ≡ true
switch_empty = refl

switch_defaults : keeps (script (l1 (n2 (statement Switch) (n "a") (l2 (n1 (statement Default) l0) (n1 (statement Default) l0))))) ≡ false
switch_defaults = refl

-- try
try_alone : keeps (script (l1 (n3 (statement Try) (block l0) l0 l0))) ≡ false
try_alone = refl

try_catch : prints (script (l1 (n3 (statement Try) (block (l1 (stmt (n "a")))) (l1 (n2 (statement Catch) l0 (block l0))) l0))) "try {\n    a;\n} catch {}\n" ≡ true
try_catch = refl

try_pattern : reads_script "try{}catch({a}){}finally{b}" (l1 (n3 (statement Try) (block l0) (l1 (n2 (statement Catch) (l1 (n1 (function (ObjectPat Binds)) (l1 (short "a")))) (block l0))) (l1 (block (l1 (stmt (n "b"))))))) ≡ true
try_pattern = refl

-- labels and jumps
label_break : keeps (script (l1 (n2 (statement Label) (n "x") (block (l1 (n1 (statement Break) (l1 (n "x")))))))) ≡ true
label_break = refl

label_function : keeps (script (l1 (n2 (statement Label) (n "x") (while' (n "a") (block (l1 (stmt (n3 (function FunctionExpr) l0 l0 (body_of (l1 (n1 (statement Continue) (l1 (n "x"))))))))))))) ≡ false
label_function = refl

labels_on_loop : keeps (script (l1 (n2 (statement Label) (n "x") (n2 (statement Label) (n "y") (while' (n "a") (n1 (statement Continue) (l1 (n "x")))))))) ≡ true
labels_on_loop = refl

continue_switch : keeps (script (l1 (n2 (statement Switch) (n "a") (l1 (n1 (statement Default) (l1 (n1 (statement Continue) l0))))))) ≡ false
continue_switch = refl

-- functions in blocks: in a module, not in a script
block_function_script : keeps (script (l1 (block (l1 (fun "f" l0))))) ≡ false
block_function_script = refl

block_function_module : reads_module "{ function f() {} }" (l1 (block (l1 (fun "f" l0)))) && keeps (module_of (l1 (block (l1 (fun "f" l0))))) ≡ true
block_function_module = refl

case_function_script : keeps (script (l1 (n2 (statement Switch) (n "a") (l1 (n1 (statement Default) (l1 (fun "f" l0))))))) ≡ false
case_function_script = refl

-- directives
directive_paren : prints (script (l2 (stmt (str "\"use x\"")) (stmt (n "y")))) "(\"use x\");\ny;\n" ≡ true
directive_paren = refl

directive_paren_read : reads_script "(\"use x\"); y" (l2 (stmt (paren (str "\"use x\""))) (stmt (n "y"))) ≡ true
directive_paren_read = refl

-- empty statements aren't written, so the string behind one would be a directive
directive_behind_empty : prints (script (l2 empty (stmt (str "\"use strict\"")))) "(\"use strict\");\n" ≡ true
directive_behind_empty = refl

directive_no_statement : keeps (script (l1 (stmt (str "'a'")))) ≡ false
directive_no_statement = refl

directive_second : prints (script (l2 (stmt (n "a")) (stmt (str "'b'")))) "a;\n'b';\n" ≡ true
directive_second = refl

directives_printed : prints (n2 (program Script) (l2 (n1 (program Directive) (str "'a'")) (n1 (program Directive) (str "'b'"))) (l1 (fun "f" (l1 (stmt (str "'c'")))))) "'a';\n'b';\nfunction f() {\n    ('c');\n}\n" ≡ true
directives_printed = refl

-- an expression statement doesn't begin with a brace, a function or a class
class_statement : prints (script (l1 (stmt (call (dot (n3 (function ClassExpr) l0 l0 l0) "a") l0)))) "(class {}.a());\n" ≡ true
class_statement = refl

function_statement : reads_script "function () {}()" (l1 (stmt (call (n3 (function FunctionExpr) l0 l0 (body_of l0)) l0))) ≡ false
function_statement = refl

-- return and new.target need a function
return_arrow : keeps (script (l1 (stmt (n2 (expression ArrowBlock) l0 (body_of (l1 (n1 (statement Return) l0))))))) ≡ true
return_arrow = refl

debugger_printed : prints (script (l2 (n0 (statement Debugger)) (n1 (statement Throw) (n "a")))) "debugger;\nthrow a;\n" ≡ true
debugger_printed = refl

do_printed : prints (script (l1 (n2 (statement Do) (block l0) (n "a")))) "do {} while (a);\n" ≡ true
do_printed = refl
