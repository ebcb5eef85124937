-- Depths, computed: of whole trees, and of fronts, given by the number of their tokens.
use Rattle.std.specs.Prelude.{◌≡◌, ℕ, codes, true, false, refl}
use Rattle.jsx_base.specs.Token.{NoSubstitution, TemplateHead, TemplateTail}
use Rattle.jsx_tree.specs.Kinds.{Tree, VarWord, Imported, Import, ImportList, SpecifierAs, Var, Declarator, Empty, If, For, ForDeclaration, Return, Debugger, Label, InClass, Static, Binds, Method, Getter, Field, ComputedKey, WithInit, Seq, BareArrow, Tagged, ImportMeta, Chain, NameLink, CallLink, Spread, PlainTemplate, SubstitutedTemplate, Element, Attribute, Container, program, statement, function, expression, jsx, leaf, list, none, part}
use Rattle.jsx_tree.specs.Spelling.{spelled}
use Rattle.jsx_tree.specs.Depth.{deep, depth, front}
use Rattle.jsx_tree.proofs.Samples.{n, str, n0, n1, n2, n3, n4, l0, l1, l2, l3, stmt, script, jn, body_of, call, dot, paren, set_to, object_of, arrow, block}

abbrev front_of : ℕ → Tree → ℕ
front_of k t = deep (front k (spelled t))

-- `((a));` is deeper than 2 from its third token on
parens : depth (stmt (paren (paren (n "a")))) ≡ 3
parens = refl

parens_2 : front_of 2 (stmt (paren (paren (n "a")))) ≡ 2
parens_2 = refl

parens_3 : front_of 3 (stmt (paren (paren (n "a")))) ≡ 3
parens_3 = refl

-- what counts nothing of its own: a sequence, a spread, a declarator without `=`, a clause, a specifier
seq : depth (n1 (expression Seq) (l2 (n "a") (n "b"))) ≡ 1
seq = refl

spread : depth (call (n "f") (l1 (n1 (expression Spread) (n "a")))) ≡ 2
spread = refl

declarator : depth (n1 (statement (Var VarWord)) (l1 (n2 (statement Declarator) (n "a") l0))) ≡ 2
declarator = refl

declarator_value : depth (n1 (statement (Var VarWord)) (l1 (n2 (statement Declarator) (n "a") (l1 (n "b"))))) ≡ 3
declarator_value = refl

head : depth (n4 (statement For) (l1 (n1 (statement (ForDeclaration VarWord)) (l1 (n2 (statement Declarator) (n "a") (l1 (n "b")))))) l0 l0 (n0 (statement Empty))) ≡ 3
head = refl

import_specifiers : depth (n2 (program Import) (n1 (program ImportList) (l1 (n2 (program (SpecifierAs Imported)) (n "a") (n "b")))) (str "'m'")) ≡ 2
import_specifiers = refl

computed_key : depth (n2 (function (Field InClass)) (n1 (function ComputedKey) (n "a")) l0) ≡ 2
computed_key = refl

-- constructs without parts
alone : depth (script (list (part (n0 (statement Empty)) (part (n0 (statement Debugger)) (part (n1 (statement Return) l0) (part (stmt (object_of l0)) (part (stmt (n0 (expression ImportMeta))) none))))))) ≡ 1
alone = refl

-- the words `static` and `get` have a depth, and a member counts from its first token
static_get : front_of 1 (n2 (function (Getter Static)) (n "a") (body_of l0)) ≡ 2
static_get = refl

method_body : depth (n3 (function (Method InClass)) (n "a") (l1 (n "b")) (body_of (l1 (stmt (n "c"))))) ≡ 2
method_body = refl

-- a binary expression from its operator, a member from its dot, a call from its parenthesis
member_1 : front_of 1 (dot (n "a") "b") ≡ 1
member_1 = refl

member_2 : front_of 2 (dot (n "a") "b") ≡ 2
member_2 = refl

call_2 : front_of 2 (call (n "f") l0) ≡ 2
call_2 = refl

-- an arrow from its `(`, a pair of parentheses alike; without one from the `=>`
arrow_2 : front_of 2 (arrow (l1 (n "a")) (n "b")) ≡ 2
arrow_2 = refl

paren_2 : front_of 2 (paren (n "a")) ≡ 2
paren_2 = refl

arrow_init : front_of 3 (arrow (l1 (n2 (function (WithInit Binds)) (n "a") (n "b"))) (n "c")) ≡ front_of 3 (paren (set_to (n "a") (n "b")))
arrow_init = refl

bare_1 : front_of 1 (n2 (expression BareArrow) (n "a") (n "b")) ≡ 1
bare_1 = refl

bare_2 : front_of 2 (n2 (expression BareArrow) (n "a") (n "b")) ≡ 2
bare_2 = refl

-- a label from its colon
label_2 : front_of 2 (n2 (statement Label) (n "a") (n0 (statement Empty))) ≡ 2
label_2 = refl

-- a template and a tagged one from the first piece
tagged : depth (n2 (expression Tagged) (n "a") (n1 (expression (PlainTemplate true)) (leaf NoSubstitution (codes "`x`")))) ≡ 3
tagged = refl

tagged_2 : front_of 2 (n2 (expression Tagged) (n "a") (n4 (expression (SubstitutedTemplate true)) (leaf TemplateHead (codes "`x${")) l0 (n "b") (leaf TemplateTail (codes "`")))) ≡ 3
tagged_2 = refl

-- an element from the token behind its `<`; its attributes from their first token
element_1 : front_of 1 (n2 (jsx Element) (jn "a") (l1 (n2 (jsx Attribute) (jn "b") l0))) ≡ 0
element_1 = refl

element_2 : front_of 2 (n2 (jsx Element) (jn "a") (l1 (n2 (jsx Attribute) (jn "b") l0))) ≡ 2
element_2 = refl

element_3 : front_of 3 (n2 (jsx Element) (jn "a") (l1 (n2 (jsx Attribute) (jn "b") l0))) ≡ 3
element_3 = refl

container_1 : front_of 1 (n1 (jsx Container) (n "a")) ≡ 1
container_1 = refl

container_2 : front_of 2 (n1 (jsx Container) (n "a")) ≡ 2
container_2 = refl

-- a chain is one node, its links are parts
chain : depth (n2 (expression Chain) (n "a") (l3 (n1 (expression (NameLink true)) (n "b")) (n1 (expression (CallLink false)) (l1 (paren (n "c")))) (n1 (expression (NameLink false)) (n "d")))) ≡ 3
chain = refl

-- if (a) b; else {c}: the fronts up to `if`, `a`, the brace and `c`
abbrev if_else : Tree
if_else = n3 (statement If) (n "a") (stmt (n "b")) (l1 (block (l1 (stmt (n "c")))))

if_1 : front_of 1 if_else ≡ 1
if_1 = refl

if_3 : front_of 3 if_else ≡ 2
if_3 = refl

if_7 : front_of 7 if_else ≡ 2
if_7 = refl

if_8 : front_of 8 if_else ≡ 3
if_8 = refl
