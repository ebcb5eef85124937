-- Levels, computed.
use Rattle.std.proofs.Common.{◌≡◌, ℕ, zero, suc, Bool, true, not, refl}
use Rattle.std.specs.Prelude.{◌&&◌, codes}
use Rattle.jsx_base.specs.Token.{TemplateHead}
use Rattle.jsx_tree.specs.Kinds.{Tree, LetWord, Imported, Import, ImportList, Specifier, Directive, Module, Var, Declarator, If, Binds, ObjectPat, ShorthandInit, Chain, NameLink, Seq, Spread, SubstitutedTemplate, program, statement, function, expression, leaf}
use Rattle.jsx_tree.proofs.Samples.{n, str, n1, n2, n3, l0, l1, l2, stmt, add, call, paren, array_of, block, hole}
use Rattle.jsx_depth.specs.Fits.{fits}

-- within so many levels, and within no fewer
abbrev wants : ℕ → Tree → Bool
wants zero t = fits 0 t
wants (suc k) t = fits (suc k) t && not (fits k t)

-- a
name : wants 1 (n "a") ≡ true
name = refl

-- a + b
sum : wants 2 (add (n "a") (n "b")) ≡ true
sum = refl

-- (a + b) + c, without its parentheses and with them
chain_of_sums : wants 3 (add (add (n "a") (n "b")) (n "c")) ≡ true
chain_of_sums = refl

sum_in_parentheses : wants 4 (add (paren (add (n "a") (n "b"))) (n "c")) ≡ true
sum_in_parentheses = refl

-- f(...[a, b]): the spread counts nothing
spread : wants 3 (call (n "f") (l1 (n1 (expression Spread) (array_of (l2 (n "a") (n "b")))))) ≡ true
spread = refl

-- [,]: a hole is no token
lone_hole : wants 1 (array_of (l1 hole)) ≡ true
lone_hole = refl

-- a?.b.c: all links are one chain
links : wants 2 (n2 (expression Chain) (n "a") (l2 (n1 (expression (NameLink true)) (n "b")) (n1 (expression (NameLink true)) (n "c")))) ≡ true
links = refl

-- `x${a}y`
template : wants 2 (n3 (expression (SubstitutedTemplate true)) (leaf TemplateHead (codes "`x${")) l0 (n "a")) ≡ true
template = refl

-- { a = b } that binds: the object, the property, the name with its default
default : wants 4 (n1 (function (ObjectPat Binds)) (l1 (n2 (function (ShorthandInit Binds)) (n "a") (n "b")))) ≡ true
default = refl

-- let a, b = c;: a declarator counts from its `=`
declarators : wants 3 (n1 (statement (Var LetWord)) (l2 (n2 (statement Declarator) (n "a") l0) (n2 (statement Declarator) (n "b") (l1 (n "c"))))) ≡ true
declarators = refl

-- if (a) { b, c; }
block_of_if : wants 3 (n3 (statement If) (n "a") (block (l1 (stmt (n1 (expression Seq) (l2 (n "b") (n "c")))))) l0) ≡ true
block_of_if = refl

-- 'use strict'; import { a } from 'm';
program_of_import : wants 2 (n2 (program Module) (l1 (n1 (program Directive) (str "'use strict'"))) (l1 (n2 (program Import) (n1 (program ImportList) (l1 (n1 (program (Specifier Imported)) (n "a")))) (str "'m'")))) ≡ true
program_of_import = refl
