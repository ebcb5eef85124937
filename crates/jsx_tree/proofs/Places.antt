-- Where the parts of trees stand, computed: the piece of the source from each node's begin to its end, an outer node before an inner one. A leaf's is its token, and behind `in` its span where that takes parentheses along. Behind the export of a default stands, behind `by`, the word at the place that it has for that.
use Rattle.std.proofs.Common.{◌≡◌, ◌+◌, ◌-◌, ℕ, [], ◌∷◌, ◌++◌, codes, true, false, true≢false, cond, nat_eq, refl, sym, ap, Some}
use Rattle.std.specs.Char.{len_utf8}
use Prim.Native.String.{String}
use lib.Utf8.{encode}
use Rattle.jsx_base.specs.Token.{Text, IdentifierName, Elision, TemplateHead, TemplateTail, JsxText}
use Rattle.jsx_base.specs.Lines as base
use Rattle.jsx_base.specs.Lines.{size}
use Rattle.jsx_base.specs.declared.place.BytePos.{BytePos}
use Rattle.jsx_base.specs.declared.place.Span.{Span}
use Rattle.jsx_tree.specs.declared.text.Text.{Text as TreeText}
use Rattle.jsx_tree.specs.Kinds.{Tree, Module, Script, ExportDefaultFn, ExportDefaultClass, ExportDefaultExpr, ExprStmt, VarWord, Var, Declarator, If, Do, Return, Block, Assigns, ArrayPat, ArrowBlock, ParenTarget, InClass, Static, Getter, Field, ClassDecl, ClassExpr, Multiply, Binary, Chain, NameLink, New, Index, Spread, SubstitutedTemplate, Element, ElementWithChildren, Container, program, statement, function, expression, jsx, leaf, list, none, part}
use Rattle.jsx_tree.specs.Spans.{Extent, extent, Placed, leaf_at, node_at, default_at, list_at, Places, end, and, placed_in, Told, tells, no_tales, spans, Comes, IsTold}
use Rattle.jsx_tree.specs.Told.{tales, told_list, told_text, told_leaf, told_node, told_default}
use Rattle.jsx_tree.proofs.Samples.{n, str, n1, n2, n3, n4, l0, l1, l2, l3, stmt, script, jn, body_of, add, call, dot, paren, set_to}

abbrev behind : Text → ℕ → Text
behind [] k = []
behind (c ∷ text) k = cond (nat_eq k 0) (c ∷ text) (behind text (k - len_utf8 c))

abbrev piece : Text → ℕ → ℕ → Text
piece text lo hi = base.front (behind text lo) (hi - lo)

abbrev leaf_piece : Text → ℕ → Extent → Text → Text
leaf_piece text at (extent lo next hi) t = piece text at (at + size t) ++ cond (nat_eq at lo) [] (codes " in " ++ piece text lo hi)

abbrev node_piece : Text → Extent → Text
node_piece text (extent lo next hi) = piece text lo hi

abbrev mutual
  shown : Text → Placed → Text
  shown text (leaf_at at e k t) = codes " | " ++ leaf_piece text at e t
  shown text (node_at e k ps) = codes " | " ++ (node_piece text e ++ shown_each text ps)
  shown text (default_at at e k ps) = codes " | " ++ (node_piece text e ++ (codes " by " ++ (piece text at (at + 7) ++ shown_each text ps)))
  shown text (list_at ps) = shown_each text ps

  shown_each : Text → Places → Text
  shown_each text end = []
  shown_each text (and p ps) = shown text p ++ shown_each text ps

abbrev pieces_below : Text → Placed → Text
pieces_below text (node_at e k ps) = shown_each text ps
pieces_below text p = shown text p

-- of a script
abbrev pieces : String → Tree → Text
pieces s t = pieces_below (codes s) (placed_in 0 (codes s) (script t))

-- of a module with one item
abbrev only_item : Tree → Tree
only_item t = n2 (program Module) l0 (l1 t)

abbrev item_pieces : String → Tree → Text
item_pieces s t = pieces_below (codes s) (placed_in 0 (codes s) (only_item t))

calls_in_calls : pieces "f(g(a), b).c;" (l1 (stmt (dot (call (n "f") (l2 (call (n "g") (l1 (n "a"))) (n "b"))) "c"))) ≡
    codes " | f(g(a), b).c; | f(g(a), b).c | f(g(a), b) | f | g(a) | g | a | b | c"
unfolding encode
calls_in_calls = refl

-- neither blanks nor comments belong to a node
gaps : pieces "/* a */ f /* b */ (\n  x /* c */ , // d\n y ,) /* e */ ; // g" (l1 (stmt (call (n "f") (l2 (n "x") (n "y"))))) ≡
    codes " | f /* b */ (\n  x /* c */ , // d\n y ,) /* e */ ; | f /* b */ (\n  x /* c */ , // d\n y ,) | f | x | y"
unfolding encode
gaps = refl

-- places are bytes
bytes : pieces "/* é */ a = '😀' ; 'à'.b;" (l2 (stmt (set_to (n "a") (str "'😀'"))) (stmt (dot (str "'à'") "b"))) ≡ codes " | a = '😀' ; | a = '😀' | a | '😀' | 'à'.b; | 'à'.b | 'à' | b"
unfolding encode
bytes = refl

-- parentheses don't belong to what they enclose, and belong to what the whole is a part of
parens : pieces "( a ) + ((b * c));" (l1 (stmt (add (paren (n "a")) (paren (paren (n2 (expression (Binary Multiply)) (n "b") (n "c"))))))) ≡
    codes " | ( a ) + ((b * c)); | ( a ) + ((b * c)) | a | b * c | b | c"
unfolding encode
parens = refl

-- an argument's span has them, its token's place hasn't
argument : pieces "f( (a) , (( b.c )), ...(d));" (l1 (stmt (call (n "f") (l3 (paren (n "a")) (paren (paren (dot (n "b") "c"))) (n1 (expression Spread) (paren (n "d"))))))) ≡
    codes " | f( (a) , (( b.c )), ...(d)); | f( (a) , (( b.c )), ...(d)) | f | a in (a) | (( b.c )) | b | c | ...(d) | d"
unfolding encode
argument = refl

new_argument : pieces "new (F)((a));" (l1 (stmt (n2 (expression New) (paren (n "F")) (l1 (paren (n "a")))))) ≡ codes " | new (F)((a)); | new (F)((a)) | F | a in (a)"
unfolding encode
new_argument = refl

index : pieces "a[(b)];" (l1 (stmt (n2 (expression Index) (n "a") (paren (n "b"))))) ≡ codes " | a[(b)]; | a[(b)] | a | b"
unfolding encode
index = refl

target : pieces "[(a.b)] = c;" (l1 (stmt (set_to (n1 (function (ArrayPat Assigns)) (l1 (n1 (function ParenTarget) (dot (n "a") "b")))) (n "c")))) ≡ codes " | [(a.b)] = c; | [(a.b)] = c | [(a.b)] | a.b | a | b | c"
unfolding encode
target = refl

-- a semicolon belongs to its statement; one that is missing leaves the statement with its last token
missing_semicolon : pieces "a // b\n\nc" (l2 (stmt (n "a")) (stmt (n "c"))) ≡ codes " | a | a | c | c"
unfolding encode
missing_semicolon = refl

missing_in_block : pieces "if (a) { b } else c\n;" (l1 (n3 (statement If) (n "a") (n1 (statement Block) (l1 (stmt (n "b")))) (l1 (stmt (n "c"))))) ≡
    codes " | if (a) { b } else c\n; | a | { b } | b | b | c\n; | c"
unfolding encode
missing_in_block = refl

do_without : pieces "do a; while (b) c" (l2 (n2 (statement Do) (stmt (n "a")) (n "b")) (stmt (n "c"))) ≡ codes " | do a; while (b) | a; | a | b | c | c"
unfolding encode
do_without = refl

return_line : pieces "() => { return\na }" (l1 (stmt (n2 (expression ArrowBlock) l0 (body_of (l2 (n1 (statement Return) l0) (stmt (n "a"))))))) ≡ codes " | () => { return\na } | () => { return\na } | return\na | return | a | a"
unfolding encode
return_line = refl

-- a declarator without its comma and its semicolon
declarators : pieces "var a , b = c ;" (l1 (n1 (statement (Var VarWord)) (l2 (n2 (statement Declarator) (n "a") l0) (n2 (statement Declarator) (n "b") (l1 (n "c")))))) ≡ codes " | var a , b = c ; | a | a | b = c | b | c"
unfolding encode
declarators = refl

-- a part of a template begins behind the brace, with no blank skipped
template : pieces "` ${ a } `;" (l1 (stmt (n4 (expression (SubstitutedTemplate false)) (leaf TemplateHead (codes "` ${")) l0 (n "a") (leaf TemplateTail (codes " `"))))) ≡ codes " | ` ${ a } `; | ` ${ a } ` | ` ${ | a |  `"
unfolding encode
template = refl

-- JSX text with its blanks; an element among text begins at its `<`
children : pieces "<a> b <c/> {d}</a>;" (l1 (stmt (n4 (jsx ElementWithChildren) (jn "a") l0
    (list (part (leaf JsxText (codes " b ")) (part (n2 (jsx Element) (jn "c") l0) (part (leaf JsxText (codes " ")) (part (n1 (jsx Container) (n "d")) none))))) (jn "a")))) ≡
    codes " | <a> b <c/> {d}</a>; | <a> b <c/> {d}</a> | a |  b  | <c/> | c |   | {d} | d | a"
unfolding encode
children = refl

-- the links of a chain, a member of a class with its words
chain : pieces "a?.b .c;" (l1 (stmt (n2 (expression Chain) (n "a") (l2 (n1 (expression (NameLink true)) (n "b")) (n1 (expression (NameLink false)) (n "c")))))) ≡ codes " | a?.b .c; | a?.b .c | a | ?.b | b | .c | c"
unfolding encode
chain = refl

class_members : pieces "class A { static get a() {} b\n}" (l1 (n3 (statement ClassDecl) (n "A") l0 (l2 (n2 (function (Getter Static)) (n "a") (body_of l0)) (n2 (function (Field InClass)) (n "b") l0)))) ≡
    codes " | class A { static get a() {} b\n} | A | static get a() {} | a |  | b | b"
unfolding encode
class_members = refl

-- ---- an export of the default has the place of that word too

default_value : item_pieces "export /* c */ default a;" (n1 (program ExportDefaultExpr) (n "a")) ≡ codes " | export /* c */ default a; by default | a"
unfolding encode
default_value = refl

default_lines : item_pieces "// default\nexport // é\n  default\n(a)" (n1 (program ExportDefaultExpr) (paren (n "a"))) ≡ codes " | export // é\n  default\n(a) by default | a"
unfolding encode
default_lines = refl

default_function : item_pieces "export default function f() {}" (n3 (program ExportDefaultFn) (l1 (n "f")) l0 (body_of l0)) ≡ codes " | export default function f() {} by default | f | "
unfolding encode
default_function = refl

default_class : item_pieces "export\tdefault class {};" (n1 (program ExportDefaultClass) (n3 (function ClassExpr) l0 l0 l0)) ≡ codes " | export\tdefault class {} by default | class {}"
unfolding encode
default_class = refl

-- ---- places begin with that of the text's first byte

from_100 : placed_in 100 (codes "/*é*/a; b") (script (l2 (stmt (n "a")) (stmt (n "b")))) ≡ node_at (extent 106 107 110) (program Script) (and (list_at end) (and (list_at
    (and (node_at (extent 106 107 108) (statement ExprStmt) (and (leaf_at 106 (extent 106 107 107) IdentifierName (codes "a")) end))
    (and (node_at (extent 109 110 110) (statement ExprStmt) (and (leaf_at 109 (extent 109 110 110) IdentifierName (codes "b")) end)) end))) end))
unfolding encode
from_100 = refl

-- ---- what is told, and what isn't

abbrev place : ℕ → BytePos
place n = record { 0 = n }

abbrev span : ℕ → ℕ → Span
span lo hi = record { lo = place lo; hi = place hi }

-- of `export default a;`, by the span, the place of `default`, and what is told of the value
abbrev default_told : Span → ℕ → Told → Told
default_told at b d = tells [] (tales (told_list [] ∷ told_list (told_default (Some at) (place b) (d ∷ []) ∷ []) ∷ []))

abbrev default_placed : Placed
default_placed = placed_in 0 (codes "export default a;") (only_item (n1 (program ExportDefaultExpr) (n "a")))

told_whole : (name : TreeText) → Comes name 15 → IsTold (default_told (span 0 17) 7 (told_leaf (Some (span 15 16)) name)) default_placed
unfolding encode
told_whole name c = (tt, ((refl, tt), ((refl, ((((refl, refl), (refl, tt)), (refl, ((((refl, refl), (c, tt)), (refl, refl)), tt))), tt)), tt)))

-- another place of `default`
elsewhere : (name : TreeText) → IsTold (default_told (span 0 17) 0 (told_leaf (Some (span 15 16)) name)) default_placed → ⊥
unfolding encode
elsewhere name (a, (b, ((c, (((d, (e, f)), g), h)), i))) = true≢false (ap (λ k. nat_eq k 0) e)

-- the place of `default` missing, or the value, or its text
unplaced : (name : TreeText) → IsTold (tells [] (tales (told_list [] ∷ told_list (told_node (Some (span 0 17)) (told_leaf (Some (span 15 16)) name ∷ []) ∷ []) ∷ []))) default_placed → ⊥
unfolding encode
unplaced name (a, (b, ((c, ((d, (e, f)), g)), h))) = true≢false (sym e)

valueless : IsTold (tells [] (tales (told_list [] ∷ told_list (told_default (Some (span 0 17)) (place 7) [] ∷ []) ∷ []))) default_placed → ⊥
unfolding encode
valueless (a, (b, ((c, ((d, (e, f)), g)), h))) = f

unread : IsTold (default_told (span 0 17) 7 (tells (spans (Some (span 15 16)) ∷ []) no_tales)) default_placed → ⊥
unfolding encode
unread (a, (b, ((c, ((d, (e, ((f, (g, h)), i))), j)), k))) = true≢false (sym g)

-- parts that a node hasn't
overtold : (name : TreeText) → IsTold (tells [] (tales (told_list [] ∷ told_list (told_default (Some (span 0 17)) (place 7) (told_text name ∷ told_text name ∷ []) ∷ []) ∷ []))) default_placed → ⊥
unfolding encode
overtold name (a, (b, ((c, ((d, (e, (f, g))), h)), i))) = g

-- neither a hole nor `this` has a text in the code's tree
hole : IsTold (tells [] no_tales) (leaf_at 1 (extent 1 1 1) Elision [])
hole = (tt, (refl, refl))

this_word : IsTold (told_node (Some (span 0 4)) []) (leaf_at 0 (extent 0 4 4) IdentifierName (codes "this"))
this_word = (((refl, refl), tt), (refl, refl))
