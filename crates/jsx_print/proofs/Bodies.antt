-- What is written of productions with a body or a list in braces, as it is planned.
use Rattle.std.proofs.Common.{Option, Some, None, Box, Global, ◌≡◌, List, [], ◌∷◌, ◌++◌, codes, map, sym, ap, ◌∙◌}
use Rattle.jsx_tree.specs.Kinds.{Holder, Getter, Setter, Method, FunctionExpr, ClassExpr, FunctionDecl, ClassDecl, Switch, Case, For, ArrowBlock, BareArrowBlock, ExportAllAs, ExportDefaultFn, ExportFrom, Assigns, program, statement, function, expression, Tree, node, list, Forest, none, part}
use Rattle.jsx_tree.specs.Grammar.{Commas, NoTrailing, Lines, pun, key}
use Rattle.jsx_tree.specs.Signs.{Sign, End, Outdent, Space, Indent}
use Rattle.jsx_tree.specs.Spelling.{gathered, maybe}
use Rattle.jsx_pen.specs.Calls.{said}
use Rattle.jsx_tree.specs.Normal.{laid_tree}
use Rattle.jsx_tree.specs.View.{body, directive, forest, name_of, optional_name, optional_of, optional_at_of, text_of, word}
use Rattle.jsx_tree.specs.ViewProgram.{source_of}
use Rattle.jsx_tree.specs.declared.text.Ident.{Ident}
use Rattle.jsx_tree.specs.declared.text.Text.{Text}
use Rattle.jsx_tree.specs.declared.tree.Expr.{Expr}
use Rattle.jsx_tree.specs.declared.tree.Pat.{Pat}
use Rattle.jsx_plan.specs.Noted.{noted_expr, noted_pattern}
use Rattle.jsx_pen.specs.Pen.{State, raw, inked, padded, indented, outdented, unindented, puts, signs, rows, opted, named, bodied, blocked, marked}
use Rattle.jsx_plan.proofs.Gathering.{gathered_commas}
use Rattle.jsx_plan.proofs.Printing.{extends_opt, for_opt, init_part, spaced_boxed_name_opt, spaced_is, tail_is, signs_getter, signs_setter, signs_method}
use Rattle.jsx_pen.proofs.Writing.{puts_append, inked_raw, inked_inked}

-- directives and statements in braces
abbrev pub in_braces : State → List Text → List Tree → State
in_braces p ds ss = inked (outdented (puts (puts (indented (inked p (codes "{"))) (gathered Lines (rows (forest (map directive ds))))) (gathered Lines (rows (forest ss))))) (codes "}")

in_braces_is : (p : State) (ds : List Text) (ss : List Tree) → in_braces p ds ss ≡ bodied p (body ds ss)
in_braces_is p ds ss =
    let q = indented (inked p (codes "{")) in
    ap (λ s. inked (outdented s) (codes "}")) (sym (puts_append q (gathered Lines (rows (forest (map directive ds)))) (gathered Lines (rows (forest ss)) ++ (End ∷ [])) ∙ puts_append (puts q (gathered Lines (rows (forest (map directive ds))))) (gathered Lines (rows (forest ss))) (End ∷ [])))

word_blank : (p : State) → raw (inked p (codes "function")) (codes " ") ≡ inked p (codes "function ")
word_blank p = inked_raw p 102 (codes "unction") (codes " ")

-- ---- functions

pub function_stmt_is : (p : State) (a : Ident) (ps : Forest) (ds : List Text) (ss : List Tree)
    → in_braces (inked (puts (inked (inked (inked p (codes "function ")) (text_of a.text)) (codes "(")) (gathered NoTrailing (rows ps))) (codes ") ")) ds ss ≡ puts p (signs (node (statement FunctionDecl) (part (name_of a) (part (list ps) (part (body ds ss) none)))))
function_stmt_is p a ps ds ss =
    in_braces_is _ ds ss ∙ ap (λ q. bodied (inked (puts (inked (inked q (text_of a.text)) (codes "(")) (gathered NoTrailing (rows ps))) (codes ") ")) (body ds ss)) (sym (word_blank p))
    ∙ sym (tail_is (inked (raw (inked p (codes "function")) (codes " ")) (text_of a.text)) ps (body ds ss))

pub function_expr_is : (p : State) (a : Option (Box Ident Global)) (ps : Forest) (ds : List Text) (ss : List Tree)
    → in_braces (inked (puts (inked (named (inked p (codes "function ")) (optional_of name_of a)) (codes "(")) (gathered NoTrailing (rows ps))) (codes ") ")) ds ss ≡ puts p (signs (node (function FunctionExpr) (part (optional_of name_of a) (part (list ps) (part (body ds ss) none)))))
function_expr_is p None ps ds ss =
    in_braces_is _ ds ss ∙ ap (λ q. bodied (inked (puts (inked q (codes "(")) (gathered NoTrailing (rows ps))) (codes ") ")) (body ds ss)) (sym (word_blank p))
    ∙ sym (tail_is (raw (inked p (codes "function")) (codes " ")) ps (body ds ss))
function_expr_is p (Some a) ps ds ss =
    in_braces_is _ ds ss ∙ ap (λ q. bodied (inked (puts (inked (inked q (text_of a.value.text)) (codes "(")) (gathered NoTrailing (rows ps))) (codes ") ")) (body ds ss)) (sym (word_blank p))
    ∙ sym (tail_is (inked (raw (inked p (codes "function")) (codes " ")) (text_of a.value.text)) ps (body ds ss))

export_words : (p : State) → raw (inked (raw (inked (raw (inked p (codes "export")) (codes " ")) (codes "default")) (codes " ")) (codes "function")) (codes " ") ≡ inked p (codes "export default function ")
export_words p =
    ap (λ q. raw (inked (raw (inked q (codes "default")) (codes " ")) (codes "function")) (codes " ")) (inked_raw p 101 (codes "xport") (codes " "))
    ∙ ap (λ q. raw (inked (raw q (codes " ")) (codes "function")) (codes " ")) (inked_inked p 101 (codes "xport ") (codes "default"))
    ∙ ap (λ q. raw (inked q (codes "function")) (codes " ")) (inked_raw p 101 (codes "xport default") (codes " "))
    ∙ ap (λ q. raw q (codes " ")) (inked_inked p 101 (codes "xport default ") (codes "function"))
    ∙ inked_raw p 101 (codes "xport default function") (codes " ")

pub export_default_fn_is : (p : State) (a : Option Ident) (ps : Forest) (ds : List Text) (ss : List Tree)
    → in_braces (inked (puts (inked (named (inked p (codes "export default function ")) (optional_name a)) (codes "(")) (gathered NoTrailing (rows ps))) (codes ") ")) ds ss ≡ puts p (signs (node (program ExportDefaultFn) (part (optional_name a) (part (list ps) (part (body ds ss) none)))))
export_default_fn_is p None ps ds ss =
    in_braces_is _ ds ss ∙ ap (λ q. bodied (inked (puts (inked q (codes "(")) (gathered NoTrailing (rows ps))) (codes ") ")) (body ds ss)) (sym (export_words p)) ∙ sym (tail_is _ ps (body ds ss))
export_default_fn_is p (Some a) ps ds ss =
    in_braces_is _ ds ss ∙ ap (λ q. bodied (inked (puts (inked (inked q (text_of a.text)) (codes "(")) (gathered NoTrailing (rows ps))) (codes ") ")) (body ds ss)) (sym (export_words p)) ∙ sym (tail_is _ ps (body ds ss))

arrow_words : (p : State) → raw (inked (raw (inked p (codes ")")) (codes " ")) (codes "=>")) (codes " ") ≡ inked p (codes ") => ")
arrow_words p = ap (λ q. raw (inked q (codes "=>")) (codes " ")) (inked_raw p 41 [] (codes " ")) ∙ ap (λ q. raw q (codes " ")) (inked_inked p 41 (codes " ") (codes "=>")) ∙ inked_raw p 41 (codes " =>") (codes " ")

pub arrow_block_is : (p : State) (ps : Forest) (ds : List Text) (ss : List Tree) → in_braces (inked (puts (inked p (codes "(")) (gathered NoTrailing (rows ps))) (codes ") => ")) ds ss ≡ puts p (signs (node (expression ArrowBlock) (part (list ps) (part (body ds ss) none))))
arrow_block_is p ps ds ss =
    let g = puts (inked p (codes "(")) (gathered Commas (rows ps)) in
    in_braces_is _ ds ss
    ∙ sym (puts_append (inked p (codes "(")) (gathered Commas (rows ps)) _ ∙ puts_append (indented (inked (raw (inked (raw (inked g (codes ")")) (codes " ")) (codes "=>")) (codes " ")) (codes "{"))) (signs (body ds ss)) _
    ∙ ap (λ q. bodied q (body ds ss)) (arrow_words g) ∙ ap (λ q. bodied (inked q (codes ") => ")) (body ds ss)) (gathered_commas (inked p (codes "(")) (rows ps)))

pub bare_arrow_block_is : (p : State) (a : Ident) (ds : List Text) (ss : List Tree) → in_braces (inked (inked (inked p (codes "(")) (text_of a.text)) (codes ") => ")) ds ss ≡ puts p (signs (node (expression BareArrowBlock) (part (name_of a) (part (body ds ss) none))))
bare_arrow_block_is p a ds ss =
    let g = inked (inked p (codes "(")) (text_of a.text) in
    in_braces_is _ ds ss
    ∙ sym (puts_append (indented (inked (raw (inked (raw (inked g (codes ")")) (codes " ")) (codes "=>")) (codes " ")) (codes "{"))) (signs (body ds ss)) _ ∙ ap (λ q. bodied q (body ds ss)) (arrow_words g))

pub getter_is : (p : State) (h : Holder) (k : Tree) (ds : List Text) (ss : List Tree) → in_braces (inked (puts (inked (marked p h) (codes "get ")) (signs k)) (codes "() ")) ds ss ≡ puts p (signs (node (function (Getter h)) (part k (part (body ds ss) none))))
getter_is p h k ds ss = in_braces_is _ ds ss ∙ sym (signs_getter p h k (body ds ss))

pub setter_is : (p : State) (h : Holder) (k : Tree) (a : Tree) (ds : List Text) (ss : List Tree) → in_braces (inked (puts (inked (puts (inked (marked p h) (codes "set ")) (signs k)) (codes "(")) (signs a)) (codes ") ")) ds ss ≡ puts p (signs (node (function (Setter h)) (part k (part a (part (body ds ss) none)))))
setter_is p h k a ds ss = in_braces_is _ ds ss ∙ sym (signs_setter p h k a (body ds ss))

pub method_is : (p : State) (h : Holder) (k : Tree) (ps : Forest) (ds : List Text) (ss : List Tree) → in_braces (inked (puts (inked (puts (marked p h) (signs k)) (codes "(")) (gathered NoTrailing (rows ps))) (codes ") ")) ds ss ≡ puts p (signs (node (function (Method h)) (part k (part (list ps) (part (body ds ss) none)))))
method_is p h k ps ds ss = in_braces_is _ ds ss ∙ sym (signs_method p h k ps (body ds ss))

-- ---- classes and cases

class_tail : (q : State) (x : List Sign) (ms : Forest) → puts q (x ++ (Space ∷ pun "{" ∷ Indent ∷ (gathered Lines (rows ms) ++ (Outdent ∷ pun "}" ∷ End ∷ [])))) ≡ blocked (raw (puts q x) (codes " ")) ms
class_tail q x ms = puts_append q x _ ∙ puts_append (indented (inked (raw (puts q x) (codes " ")) (codes "{"))) (gathered Lines (rows ms)) _

pub class_stmt_is : (p : State) (a : Ident) (e : Option (Box Expr Global)) (ms : Forest) → blocked (raw (opted (inked (inked p (codes "class ")) (text_of a.text)) (codes " extends ") (optional_of noted_expr e)) (codes " ")) ms ≡ puts p (signs (node (statement ClassDecl) (part (name_of a) (part (optional_of noted_expr e) (part (list ms) none)))))
class_stmt_is p a e ms =
    ap (λ q. blocked (raw (opted (inked q (text_of a.text)) (codes " extends ") (optional_of noted_expr e)) (codes " ")) ms) (sym (inked_raw p 99 (codes "lass") (codes " ")))
    ∙ sym (class_tail (inked (raw (inked p (codes "class")) (codes " ")) (text_of a.text)) (maybe (Space ∷ key "extends" ∷ Space ∷ []) [] [] (said (laid_tree (optional_of noted_expr e)))) ms ∙ ap (λ q. blocked (raw q (codes " ")) ms) (extends_opt (inked (raw (inked p (codes "class")) (codes " ")) (text_of a.text)) e))

pub class_expr_is : (p : State) (a : Option (Box Ident Global)) (e : Option (Box Expr Global)) (ms : Forest) → blocked (raw (opted (opted (inked p (codes "class")) (codes " ") (optional_of name_of a)) (codes " extends ") (optional_of noted_expr e)) (codes " ")) ms ≡ puts p (signs (node (function ClassExpr) (part (optional_of name_of a) (part (optional_of noted_expr e) (part (list ms) none)))))
class_expr_is p a e ms =
    let q = inked p (codes "class") in
    let x = maybe (Space ∷ []) [] [] (said (laid_tree (optional_of name_of a))) in
    sym (puts_append q x _ ∙ class_tail (puts q x) (maybe (Space ∷ key "extends" ∷ Space ∷ []) [] [] (said (laid_tree (optional_of noted_expr e)))) ms ∙ ap (λ r. blocked (raw r (codes " ")) ms) (extends_opt (puts q x) e) ∙ ap (λ r. blocked (raw (opted r (codes " extends ") (optional_of noted_expr e)) (codes " ")) ms) (spaced_boxed_name_opt q a))

pub switch_is : (p : State) (t : Tree) (cs : Forest) → blocked (inked (puts (inked p (codes "switch (")) (signs t)) (codes ") ")) cs ≡ puts p (signs (node (statement Switch) (part t (part (list cs) none))))
switch_is p t cs =
    let q = inked (raw (inked p (codes "switch")) (codes " ")) (codes "(") in
    sym (puts_append q (signs t) _ ∙ puts_append (indented (inked (raw (inked (puts q (signs t)) (codes ")")) (codes " ")) (codes "{"))) (gathered Lines (rows cs)) _ ∙ ap (λ s. blocked s cs) (inked_raw (puts q (signs t)) 41 [] (codes " "))
    ∙ ap (λ s. blocked (inked (puts s (signs t)) (codes ") ")) cs) (ap (λ s. inked s (codes "(")) (inked_raw p 115 (codes "witch") (codes " ")) ∙ inked_inked p 115 (codes "witch ") (codes "(")))

pub test_case_is : (p : State) (t : Tree) (ts : Forest) → unindented (puts (indented (inked (puts (inked p (codes "case ")) (signs t)) (codes ":"))) (gathered Lines (rows ts))) ≡ puts p (signs (node (statement Case) (part t (part (list ts) none))))
test_case_is p t ts =
    let q = raw (inked p (codes "case")) (codes " ") in
    sym (puts_append q (signs t) _ ∙ puts_append (indented (inked (puts q (signs t)) (codes ":"))) (gathered Lines (rows ts)) _ ∙ ap (λ s. unindented (puts (indented (inked (puts s (signs t)) (codes ":"))) (gathered Lines (rows ts)))) (inked_raw p 99 (codes "ase") (codes " ")))

-- ---- heads of loops, and exports

pub for_loop_is : (p : State) (i : Option (Box Pat Global)) (e : Option (Box Expr Global)) (u : Option (Box Expr Global)) (b : Tree)
    → puts (inked (opted (inked (opted (inked (named (inked p (codes "for (")) (optional_at_of Assigns noted_pattern i)) (codes ";")) (codes " ") (optional_of noted_expr e)) (codes ";")) (codes " ") (optional_of noted_expr u)) (codes ") ")) (signs b)
    ≡ puts p (signs (node (statement For) (part (optional_at_of Assigns noted_pattern i) (part (optional_of noted_expr e) (part (optional_of noted_expr u) (part b none))))))
for_loop_is p i e u b =
    let q = inked (raw (inked p (codes "for")) (codes " ")) (codes "(") in
    let x = maybe [] [] [] (said (laid_tree (optional_at_of Assigns noted_pattern i))) in
    let y = maybe (Space ∷ []) [] [] (said (laid_tree (optional_of noted_expr e))) in
    let z = maybe (Space ∷ []) [] [] (said (laid_tree (optional_of noted_expr u))) in
    let q1 = inked (puts q x) (codes ";") in
    let q2 = inked (puts q1 y) (codes ";") in
    let rest : State → State = λ s. puts (inked (opted (inked (opted (inked (named s (optional_at_of Assigns noted_pattern i)) (codes ";")) (codes " ") (optional_of noted_expr e)) (codes ";")) (codes " ") (optional_of noted_expr u)) (codes ") ")) (signs b) in
    sym (puts_append q x _ ∙ puts_append q1 y _ ∙ puts_append q2 z _ ∙ puts_append (raw (inked (puts q2 z) (codes ")")) (codes " ")) (signs b) _ ∙ ap (λ s. puts s (signs b)) (inked_raw (puts q2 z) 41 [] (codes " "))
    ∙ ap (λ s. puts (inked s (codes ") ")) (signs b)) (for_opt q2 u)
    ∙ ap (λ s. puts (inked (opted (inked s (codes ";")) (codes " ") (optional_of noted_expr u)) (codes ") ")) (signs b)) (for_opt q1 e)
    ∙ ap (λ s. puts (inked (opted (inked (opted (inked s (codes ";")) (codes " ") (optional_of noted_expr e)) (codes ";")) (codes " ") (optional_of noted_expr u)) (codes ") ")) (signs b)) (init_part q i)
    ∙ ap rest (ap (λ s. inked s (codes "(")) (inked_raw p 102 (codes "or") (codes " ")) ∙ inked_inked p 102 (codes "or ") (codes "(")))

from_words : (p : State) → raw (inked (raw (inked p (codes "}")) (codes " ")) (codes "from")) (codes " ") ≡ inked p (codes "} from ")
from_words p = ap (λ q. raw (inked q (codes "from")) (codes " ")) (inked_raw p 125 [] (codes " ")) ∙ ap (λ q. raw q (codes " ")) (inked_inked p 125 (codes " ") (codes "from")) ∙ inked_raw p 125 (codes " from") (codes " ")

pub export_from_is : (p : State) (xs : Forest) (a : Text) → inked (inked (inked (padded (puts (padded (inked p (codes "export {"))) (gathered NoTrailing (rows xs)))) (codes "} from ")) (text_of a)) (codes ";") ≡ puts p (signs (node (program ExportFrom) (part (list xs) (part (source_of a) none))))
export_from_is p xs a =
    let q = padded (inked (raw (inked p (codes "export")) (codes " ")) (codes "{")) in
    sym (puts_append q (gathered Commas (rows xs)) _ ∙ ap (λ s. inked (inked s (text_of a)) (codes ";")) (from_words (padded (puts q (gathered Commas (rows xs)))))
    ∙ ap (λ s. inked (inked (inked (padded s) (codes "} from ")) (text_of a)) (codes ";")) (gathered_commas q (rows xs))
    ∙ ap (λ s. inked (inked (inked (padded (puts (padded s) (gathered NoTrailing (rows xs)))) (codes "} from ")) (text_of a)) (codes ";")) (ap (λ s. inked s (codes "{")) (inked_raw p 101 (codes "xport") (codes " ")) ∙ inked_inked p 101 (codes "xport ") (codes "{")))

all_words : (p : State) → raw (inked (raw (inked (raw (inked p (codes "export")) (codes " ")) (codes "*")) (codes " ")) (codes "as")) (codes " ") ≡ inked p (codes "export * as ")
all_words p =
    ap (λ q. raw (inked (raw (inked q (codes "*")) (codes " ")) (codes "as")) (codes " ")) (inked_raw p 101 (codes "xport") (codes " "))
    ∙ ap (λ q. raw (inked (raw q (codes " ")) (codes "as")) (codes " ")) (inked_inked p 101 (codes "xport ") (codes "*"))
    ∙ ap (λ q. raw (inked q (codes "as")) (codes " ")) (inked_raw p 101 (codes "xport *") (codes " "))
    ∙ ap (λ q. raw q (codes " ")) (inked_inked p 101 (codes "xport * ") (codes "as"))
    ∙ inked_raw p 101 (codes "xport * as") (codes " ")

pub export_all_as_is : (p : State) (a b : Text) → inked (inked (raw (inked (inked p (codes "export * as ")) (text_of a)) (codes " from ")) (text_of b)) (codes ";") ≡ puts p (signs (node (program ExportAllAs) (part (word a) (part (source_of b) none))))
export_all_as_is p a b =
    sym (ap (λ q. inked (inked (raw (inked (raw (inked q (text_of a)) (codes " ")) (codes "from")) (codes " ")) (text_of b)) (codes ";")) (all_words p)
    ∙ ap (λ q. inked (inked q (text_of b)) (codes ";")) (spaced_is (inked (inked p (codes "export * as ")) (text_of a)) (codes "from")))
