-- Modules (ECMA-262 section 16.2), computed.
use Rattle.std.specs.Prelude.{◌≡◌, codes, true, false, refl}
use Prim.Native.String.{String}
use Rattle.jsx_tree.specs.Kinds.{Side, Tree, LetWord, Imported, Exported, From, ImportBare, Import, ImportAll, ImportList, ImportBoth, Specifier, SpecifierAs, ExportNames, ExportFrom, ExportAll, ExportAllAs, ExportDecl, ExportDefaultFn, ExportDefaultClass, ExportDefaultExpr, Var, Declarator, ClassDecl, FunctionExpr, ClassExpr, Seq, BareArrowBlock, ImportCall, ImportMeta, program, statement, function, expression, list, none, part}
use Rattle.jsx_tree.specs.Nonterminals.{Stmt, ImportClause}
use Rattle.jsx_tree.specs.Form.{is}
use Rattle.jsx_tree.specs.Reading.{reads}
use Rattle.jsx_tree.proofs.Samples.{n, str, n0, n1, n2, n3, l0, l1, l2, stmt, script, module_of, body_of, dot, paren, reads_module, prints}

abbrev spec : Side → String → Tree
spec s a = n1 (program (Specifier s)) (n a)

abbrev spec_as : Side → String → String → Tree
spec_as s a b = n2 (program (SpecifierAs s)) (n a) (n b)

abbrev import_of : Tree → Tree
import_of c = l1 (n2 (program Import) c (str "'m'"))

-- each form of import, as it is written
import_default : prints (module_of (import_of (n "a"))) "import a from 'm';\n" ≡ true
import_default = refl

import_all : prints (module_of (import_of (n1 (program ImportAll) (n "a")))) "import * as a from 'm';\n" ≡ true
import_all = refl

import_both_all : prints (module_of (import_of (n2 (program ImportBoth) (n "a") (n1 (program ImportAll) (n "b"))))) "import a, * as b from 'm';\n" ≡ true
import_both_all = refl

import_none : prints (module_of (import_of (n1 (program ImportList) l0))) "import {} from 'm';\n" ≡ true
import_none = refl

import_bare : prints (module_of (l1 (n1 (program ImportBare) (str "'m'")))) "import 'm';\n" ≡ true
import_bare = refl

import_words : reads_module "import{default as a,as as b,as,from,}from'm'" (import_of (n1 (program ImportList) (list (part (spec_as Imported "default" "a") (part (spec_as Imported "as" "b") (part (spec Imported "as") (part (spec Imported "from") none))))))) ≡ true
import_words = refl

import_from : reads_module "import from from 'm'" (import_of (n "from")) ≡ true
import_from = refl

import_reserved : reads_module "import { default } from 'm'" (import_of (n1 (program ImportList) (l1 (spec Imported "default")))) ≡ false
import_reserved = refl

import_eval : reads_module "import { a as eval } from 'm'" (import_of (n1 (program ImportList) (l1 (spec_as Imported "a" "eval")))) ≡ false
import_eval = refl

import_twice : is ImportClause (n2 (program ImportBoth) (n "a") (n "b")) ≡ false
import_twice = refl

-- import() and import.meta are expressions
import_call : reads_module "import('a').b; import.meta.c" (l2 (stmt (dot (n1 (expression ImportCall) (str "'a'")) "b")) (stmt (dot (n0 (expression ImportMeta)) "c"))) ≡ true
import_call = refl

-- imports and exports are a module's alone
import_script : reads (codes "import 'm'") (script (l1 (n1 (program ImportBare) (str "'m'")))) ≡ false
import_script = refl

import_block : is Stmt (n1 (program ImportBare) (str "'m'")) ≡ false
import_block = refl

-- exports
export_names : prints (module_of (l1 (n1 (program ExportNames) (l2 (spec Exported "a") (spec_as Exported "b" "default"))))) "export { a, b as default };\n" ≡ true
export_names = refl

export_names_reserved : reads_module "export { default }" (l1 (n1 (program ExportNames) (l1 (spec Exported "default")))) ≡ false
export_names_reserved = refl

export_from : prints (module_of (l1 (n2 (program ExportFrom) (l2 (spec From "default") (spec_as From "if" "else")) (str "'m'")))) "export { default, if as else } from 'm';\n" ≡ true
export_from = refl

export_none : prints (module_of (l2 (n1 (program ExportNames) l0) (n2 (program ExportFrom) l0 (str "'m'")))) "export {};\nexport {} from 'm';\n" ≡ true
export_none = refl

export_alls : prints (module_of (l2 (n1 (program ExportAll) (str "'m'")) (n2 (program ExportAllAs) (n "default") (str "'m'")))) "export * from 'm';\nexport * as default from 'm';\n" ≡ true
export_alls = refl

export_declarations : prints (module_of (l2 (n1 (program ExportDecl) (n1 (statement (Var LetWord)) (l1 (n2 (statement Declarator) (n "a") l0)))) (n1 (program ExportDecl) (n3 (statement ClassDecl) (n "A") l0 l0)))) "export let a;\nexport class A {}\n" ≡ true
export_declarations = refl

-- a function or a class behind `default` is a declaration, in parentheses an expression
export_function : prints (module_of (l1 (n3 (program ExportDefaultFn) l0 l0 (body_of l0)))) "export default function () {}\n" ≡ true
export_function = refl

export_named_function : prints (module_of (l1 (n3 (program ExportDefaultFn) (l1 (n "f")) l0 (body_of l0)))) "export default function f() {}\n" ≡ true
export_named_function = refl

export_class : prints (module_of (l1 (n1 (program ExportDefaultClass) (n3 (function ClassExpr) l0 l0 l0)))) "export default class {}\n" ≡ true
export_class = refl

export_paren_function : prints (module_of (l1 (n1 (program ExportDefaultExpr) (n3 (function FunctionExpr) l0 l0 (body_of l0))))) "export default (function () {});\n" ≡ true
export_paren_function = refl

export_paren_read : reads_module "export default (function () {});" (l1 (n1 (program ExportDefaultExpr) (paren (n3 (function FunctionExpr) l0 l0 (body_of l0))))) ≡ true
export_paren_read = refl

export_function_expression : reads_module "export default function () {};" (l1 (n1 (program ExportDefaultExpr) (n3 (function FunctionExpr) l0 l0 (body_of l0)))) ≡ false
export_function_expression = refl

export_function_then_call : reads_module "export default function () {}\n(a)" (l2 (n3 (program ExportDefaultFn) l0 l0 (body_of l0)) (stmt (paren (n "a")))) ≡ true
export_function_then_call = refl

export_seq : prints (module_of (l1 (n1 (program ExportDefaultExpr) (n1 (expression Seq) (l2 (n "a") (n "b")))))) "export default (a, b);\n" ≡ true
export_seq = refl

export_arrow : prints (module_of (l1 (n1 (program ExportDefaultExpr) (n2 (expression BareArrowBlock) (n "a") (body_of l0))))) "export default (a) => {};\n" ≡ true
export_arrow = refl
