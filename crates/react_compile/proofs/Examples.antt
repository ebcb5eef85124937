-- Made texts, written and called elements, and what stands for what, computed.
use Rattle.std.specs.Prelude.{◌≡◌, [], ◌∷◌, codes, true, false, refl, Some, None}
use Prim.Native.String.{String}
use Rattle.jsx_base.specs.Token.{IdentifierName, StringLiteral, JsxName}
use Rattle.jsx_tree.specs.Kinds.{ConstWord, Module, Var, Declarator, Call, Member, Spread, Element, program, statement, expression, jsx, Tree, leaf, node, list, none, part}
use Rattle.jsx_tree.specs.Normal.{nf}
use Rattle.react_compile.specs.Made.{quoted}
use Rattle.react_compile.specs.Element.{expr, text, spread, plain, spread_child, default_settings, bare_element, written, called}
use Rattle.react_compile.specs.StandsFor.{has_jsx, StandsFor, same_leaf, same_list, same_node, lowered, no_more, next_stands, makes, literal_for, no_entries, no_children}

-- ---- made texts

plain_text : quoted (codes "div") ≡ codes "\"div\""
plain_text = refl

quotes : quoted (codes "a\"b\\c") ≡ codes "\"a\\\"b\\\\c\""
quotes = refl

line_ends : quoted (codes "\n\r\t") ≡ codes "\"\\n\\r\\t\""
line_ends = refl

separators : quoted (8232 ∷ 8233 ∷ []) ≡ codes "\"\\u2028\\u2029\""
separators = refl

controls : quoted (0 ∷ 31 ∷ 127 ∷ 128 ∷ []) ≡ 34 ∷ 92 ∷ 120 ∷ 48 ∷ 48 ∷ 92 ∷ 120 ∷ 49 ∷ 102 ∷ 92 ∷ 120 ∷ 55 ∷ 102 ∷ 128 ∷ 34 ∷ []
controls = refl

-- ---- elements

abbrev element : String → Tree
element tag = node (jsx Element) (part (leaf JsxName (codes tag)) (part (list none) none))

abbrev name : String → Tree
name s = leaf IdentifierName (codes s)

abbrev create : Tree
create = node (expression Member) (part (name "React") (part (name "createElement") none))

abbrev call : Tree → Tree → Tree
call type properties = node (expression Call) (part create (part (list (part type (part properties none))) none))

written_string : written default_settings (element "div") ≡ Some (bare_element (text (codes "div")))
written_string = refl

written_dash : written default_settings (element "Foo-bar") ≡ Some (bare_element (text (codes "Foo-bar")))
written_dash = refl

written_name : written default_settings (element "Foo") ≡ Some (bare_element (expr (name "Foo")))
written_name = refl

written_this : written default_settings (element "this") ≡ Some (bare_element (expr (name "this")))
written_this = refl

written_no_element : written default_settings (name "a") ≡ None
written_no_element = refl

called_string : called default_settings (call (leaf StringLiteral (codes "\"div\"")) (name "null")) ≡ Some (bare_element (expr (leaf StringLiteral (codes "\"div\""))))
called_string = refl

-- another callee makes no element, nor do too few arguments
called_other : called default_settings (node (expression Call) (part (name "f") (part (list (part (name "a") (part (name "null") none))) none))) ≡ None
called_other = refl

called_alone : called default_settings (node (expression Call) (part create (part (list (part (name "a") none)) none))) ≡ None
called_alone = refl

-- properties that are no literal are a spread
called_spread : called default_settings (call (name "Foo") (name "p")) ≡ Some (record (bare_element (expr (name "Foo"))) { entries = spread (expr (name "p")) ∷ [] })
called_spread = refl

called_children : called default_settings (node (expression Call) (part create (part (list (part (name "Foo") (part (name "null") (part (name "a") (part (node (expression Spread) (part (name "b") none)) none))))) none))) ≡ Some (record (bare_element (expr (name "Foo"))) { children = plain (expr (name "a")) ∷ spread_child (expr (name "b")) ∷ [] })
called_children = refl

-- ---- a program

abbrev constant : Tree → Tree
constant value = node (program Module) (part (list none) (part (list (part (node (statement (Var ConstWord)) (part (list (part (node (statement Declarator) (part (name "x") (part (list (part value none)) none))) none)) none)) none)) none))

source_has_jsx : has_jsx (constant (element "div")) ≡ true
source_has_jsx = refl

code_has_none : has_jsx (constant (call (leaf StringLiteral (codes "\"div\"")) (name "null"))) ≡ false
code_has_none = refl

normal_already : nf (constant (element "div")) ≡ constant (element "div")
normal_already = refl

value_stands : StandsFor default_settings (element "div") (call (leaf StringLiteral (codes "\"div\"")) (name "null")) []
value_stands = lowered refl refl (makes (literal_for (codes "div")) no_entries no_children refl refl refl refl refl refl refl)

program_stands : StandsFor default_settings (constant (element "div")) (constant (call (leaf StringLiteral (codes "\"div\"")) (name "null"))) []
program_stands = same_node (program Module) refl (next_stands (same_list no_more) (next_stands (same_list (next_stands (same_node (statement (Var ConstWord)) refl (next_stands (same_list (next_stands (same_node (statement Declarator) refl (next_stands (same_leaf IdentifierName (codes "x")) (next_stands (same_list (next_stands value_stands no_more)) no_more))) no_more)) no_more)) no_more)) no_more))
