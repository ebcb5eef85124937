-- The definitions on examples, and what each condition of `fits` is for.
use Rattle.std.specs.Prelude.{Bool, ◌≡◌, codes, true, false, refl, ◌&&◌, ℕ, nat_eq, ◌||◌, []}
use Rattle.jsx_base.specs.Token.{RegExpLiteral, same}
use Rattle.jsx_tree.specs.Kinds.{If, Arrow, BareArrow, NewWithoutArguments, Chain, NameLink, Cond, Less, PrefixUpdate, Decrement, Unary, Negative, Not, Binary, Divide, Spread, statement, expression, leaf, Tree}
use Rattle.jsx_tree.specs.Nonterminals.{WholeProgram}
use Rattle.jsx_tree.specs.Form.{is}
use Rattle.jsx_tree.specs.Layout.{layout, laid}
use Rattle.jsx_tree.specs.Normal.{laid_tree, nf}
use Rattle.jsx_tree.specs.Parentheses.{parenthesise}
use Rattle.jsx_tree.specs.Reading.{reads}
use Rattle.jsx_tree.specs.Spelling.{spelled}
use Rattle.jsx_tree.specs.StaticRules.{outside, legal}
use Rattle.jsx_tree.specs.Notes.{at_code, marks}
use Rattle.jsx_tree.specs.Fits.{fits}
use Rattle.jsx_tree.proofs.Samples.{call, n, num, str, n1, n2, n3, l0, l1, l2, l3, stmt, script, dot, object_of, array_of, empty, sample_if}
use Rattle.jsx_tree.proofs.ReadBack.Joins.{joins}

if_joins : joins (spelled sample_if) ≡ true
if_joins = refl

if_fits : fits sample_if ≡ true
if_fits = refl

-- without its pair, an object at a statement's front reads as a block; `is` and `legal` hold of it
object_front : (is WholeProgram (script (l1 (stmt (object_of l0)))) && legal outside (script (l1 (stmt (object_of l0))))) ≡ true
object_front = refl

object_unread : reads (layout (script (l1 (stmt (object_of l0))))) (script (l1 (stmt (object_of l0)))) ≡ false
object_unread = refl

object_no_fit : fits (script (l1 (stmt (object_of l0)))) ≡ false
object_no_fit = refl

object_fits : fits (parenthesise (script (l1 (stmt (object_of l0))))) ≡ true
object_fits = refl

-- a number before a dot
dotted : (is WholeProgram (script (l1 (stmt (dot (num "1") "a")))) && legal outside (script (l1 (stmt (dot (num "1") "a"))))) ≡ true
dotted = refl

dotted_unread : reads (layout (script (l1 (stmt (dot (num "1") "a"))))) (script (l1 (stmt (dot (num "1") "a")))) ≡ false
dotted_unread = refl

dotted_fits : fits (parenthesise (script (l1 (stmt (dot (num "1") "a"))))) ≡ true
dotted_fits = refl

-- a string behind an empty statement: the tree keeps the rules, its laid tree doesn't
string_legal : legal outside (script (l2 empty (stmt (str "'a'")))) ≡ true
string_legal = refl

string_laid : legal outside (laid_tree (script (l2 empty (stmt (str "'a'"))))) ≡ false
string_laid = refl

string_no_fit : fits (script (l2 empty (stmt (str "'a'")))) ≡ false
string_no_fit = refl

string_fits : fits (parenthesise (script (l2 empty (stmt (str "'a'"))))) ≡ true
string_fits = refl

-- `new a` as an object: no tree of the grammar before it is laid, and put no pair round
bare_new : is WholeProgram (parenthesise (script (l1 (stmt (dot (n1 (expression NewWithoutArguments) (n "a")) "b"))))) ≡ false
bare_new = refl

bare_new_fits : fits (parenthesise (script (l1 (stmt (dot (n1 (expression NewWithoutArguments) (n "a")) "b"))))) ≡ true
bare_new_fits = refl

-- the joints
signs_fit : fits (script (l3 (stmt (n1 (expression (Unary Negative)) (n1 (expression (Unary Negative)) (n1 (expression (PrefixUpdate Decrement)) (n "a"))))) (stmt (n2 (expression (Binary Less)) (n "a") (n1 (expression (Unary Not)) (n1 (expression (PrefixUpdate Decrement)) (n "b"))))) (stmt (n2 (expression (Binary Divide)) (n "a") (leaf RegExpLiteral (codes "/re/g")))))) ≡ true
signs_fit = refl

point_fits : fits (script (l3 (stmt (n3 (expression Cond) (n "a") (num ".5") (n "b"))) (stmt (n2 (expression Chain) (num "1") (l1 (n1 (expression (NameLink true)) (n "a"))))) (stmt (array_of (l1 (n1 (expression Spread) (num ".5"))))))) ≡ true
point_fits = refl

-- an `if` without `else` before an `else`
open_if_no_fit : fits (script (l1 (n3 (statement If) (n "a") (n3 (statement If) (n "b") (stmt (n "c")) l0) (l1 (stmt (n "d")))))) ≡ false
open_if_no_fit = refl

-- marks: `f(/*#__PURE__*/ a(b), !/*#__PURE__*/ c());`
abbrev marked : Tree
marked = script (l1 (stmt (call (n "f") (l2 (call (n "a") (l1 (n "b"))) (n1 (expression (Unary Not)) (call (n "c") l0))))))

abbrev at_calls : ℕ → Bool
at_calls i = nat_eq i 2 || nat_eq i 8

marked_text : same (laid (marks at_calls) 0 [] [] false (spelled marked)) (codes "f(/*#__PURE__*/ a(b), !/*#__PURE__*/ c());\n") ≡ true
marked_text = refl

marked_noted : at_code at_calls 0 (spelled marked) ≡ true
marked_noted = refl

marked_read : reads (laid (marks at_calls) 0 [] [] false (spelled marked)) marked ≡ true
marked_read = refl

-- an empty statement as an arrow's parameter, which no grammar has: kept by the first normal form, dropped by the second
abbrev odd_arrow : Tree
odd_arrow = n2 (expression BareArrow) empty (n "a")

odd_arrow_once : nf odd_arrow ≡ n2 (expression Arrow) (l1 empty) (n "a")
odd_arrow_once = refl

odd_arrow_twice : nf (nf odd_arrow) ≡ n2 (expression Arrow) l0 (n "a")
odd_arrow_twice = refl
