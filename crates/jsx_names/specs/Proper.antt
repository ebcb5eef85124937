-- Trees whose statements stand where statements do, each node with a part at each of its places. So do those of programs, with parentheses and without.
use Rattle.std.specs.Prelude.{List, [], ◌∷◌, Bool, true, false, ◌&&◌, ◌||◌, not}
use Rattle.jsx_tree.specs.Kinds.{VarWord, Imported, Exported, From, Side, Module, Script, FunctionBody, Directive, ImportAll, ImportList, ImportBoth, Specifier, SpecifierAs, Block, Var, Declarator, ForDeclaration, ForBinding, Case, Default, Catch, FunctionDecl, ClassDecl, Binds, FunctionExpr, ClassExpr, Method, Getter, Setter, Field, ComputedKey, ParenTarget, Kind, program, statement, function, Tree, leaf, node, list, Forest, none, part}
use Rattle.jsx_tree.specs.Nonterminals.{Nonterminal, Ident, BindingIdent, Name, StringOnly, Pat, Slot, PatProp, PatElement, Param, SetterParam, Declarators, Stmt, SubStmt, Item, DirectiveOnly, Body, BlockOnly, CaseClause, CatchClause, Declaration, ClassOnly, ForInit, ForHead, ForOfHead, ImportClause, ImportBindings, Specifiers, WholeProgram}
use Rattle.jsx_tree.specs.Form.{Form, Single, Maybe, Several, Position, position, positions, at_most_one}
use Rattle.jsx_tree.specs.Sound.{each_node}

-- expressions, functions, patterns, JSX, and specifiers of an import or an export
abbrev pub is_value : Kind → Bool
is_value (program (Specifier s)) = true
is_value (program (SpecifierAs s)) = true
is_value (program k) = false
is_value (statement k) = false
is_value k = true

-- statements by themselves, and those that may stand below another (ECMA-262 section 14)
abbrev pub is_statement : Kind → Bool
is_statement (statement Declarator) = false
is_statement (statement (ForDeclaration v)) = false
is_statement (statement (ForBinding v)) = false
is_statement (statement Case) = false
is_statement (statement Default) = false
is_statement (statement Catch) = false
is_statement (statement k) = true
is_statement k = false

abbrev pub is_substatement : Kind → Bool
is_substatement (statement (Var VarWord)) = true
is_substatement (statement (Var v)) = false
is_substatement (statement FunctionDecl) = false
is_substatement (statement ClassDecl) = false
is_substatement k = is_statement k

abbrev pub is_import : Kind → Bool
is_import (program ImportAll) = true
is_import (program ImportList) = true
is_import (program ImportBoth) = true
is_import k = false

abbrev pub is_specifier : Kind → Bool
is_specifier (program (Specifier s)) = true
is_specifier (program (SpecifierAs s)) = true
is_specifier k = false

abbrev pub is_directive : Kind → Bool
is_directive (program Directive) = true
is_directive k = false

abbrev pub is_body : Kind → Bool
is_body (program FunctionBody) = true
is_body k = false

abbrev pub is_program : Kind → Bool
is_program (program Module) = true
is_program (program Script) = true
is_program k = false

-- imports, exports and statements (ECMA-262 section 16)
abbrev pub is_item : Kind → Bool
is_item (program Module) = false
is_item (program Script) = false
is_item (program FunctionBody) = false
is_item (program Directive) = false
is_item (program (Specifier s)) = false
is_item (program (SpecifierAs s)) = false
is_item (program ImportAll) = false
is_item (program ImportList) = false
is_item (program ImportBoth) = false
is_item (program k) = true
is_item k = is_statement k

abbrev pub is_declaration : Kind → Bool
is_declaration (statement (Var v)) = true
is_declaration (statement FunctionDecl) = true
is_declaration (statement ClassDecl) = true
is_declaration k = false

abbrev pub is_block : Kind → Bool
is_block (statement Block) = true
is_block k = false

abbrev pub is_clause : Kind → Bool
is_clause (statement Case) = true
is_clause (statement Default) = true
is_clause k = false

abbrev pub is_catching : Kind → Bool
is_catching (statement Catch) = true
is_catching k = false

abbrev pub is_class : Kind → Bool
is_class (function ClassExpr) = true
is_class k = false

abbrev pub is_declarator : Kind → Bool
is_declarator (statement Declarator) = true
is_declarator k = false

-- what a `for` begins with, if it declares
abbrev pub is_declaring : Kind → Bool
is_declaring (statement (ForDeclaration v)) = true
is_declaring k = false

abbrev pub is_heading : Kind → Bool
is_heading (statement (ForBinding v)) = true
is_heading k = false

-- patterns and what they are made of: no function, no class, no member of one
abbrev pub is_pattern : Kind → Bool
is_pattern (function FunctionExpr) = false
is_pattern (function ClassExpr) = false
is_pattern (function (Method h)) = false
is_pattern (function (Getter h)) = false
is_pattern (function (Setter h)) = false
is_pattern (function (Field h)) = false
is_pattern (function ComputedKey) = false
is_pattern (function ParenTarget) = false
is_pattern (function k) = true
is_pattern k = false

-- the kinds that may stand at a place
abbrev pub fits : Nonterminal → Kind → Bool
fits WholeProgram k = is_program k
fits Stmt k = is_statement k
fits SubStmt k = is_substatement k
fits Item k = is_item k
fits Declaration k = is_declaration k
fits BlockOnly k = is_block k
fits CaseClause k = is_clause k
fits CatchClause k = is_catching k
fits Body k = is_body k
fits ClassOnly k = is_class k
fits ForInit k = is_declaring k || is_value k
fits ForHead k = is_heading k || is_value k
fits ForOfHead k = is_heading k || is_value k
fits DirectiveOnly k = is_directive k
fits Declarators k = is_declarator k
fits ImportClause k = is_import k
fits ImportBindings k = is_import k
fits (Specifiers s) k = is_specifier k
fits Ident k = false
fits BindingIdent k = false
fits Name k = false
fits StringOnly k = false
fits (Pat Binds) k = is_pattern k
fits (Slot Binds) k = is_pattern k
fits (PatElement Binds) k = is_pattern k
fits (PatProp Binds) k = is_pattern k
fits Param k = is_pattern k
fits SetterParam k = is_pattern k
fits c k = is_value k

abbrev pub stands : Nonterminal → Tree → Bool
stands c (leaf s t) = true
stands c (node k cs) = fits c k
stands c (list ts) = false

abbrev pub each_stands : Nonterminal → Forest → Bool
each_stands c none = true
each_stands c (part t ts) = stands c t && each_stands c ts

abbrev pub has_form : Form → Nonterminal → Tree → Bool
has_form Single c t = stands c t
has_form Maybe c (list ts) = at_most_one ts && each_stands c ts
has_form (Several s) c (list ts) = each_stands c ts
has_form f c t = false

abbrev pub fill : List Position → Forest → Bool
fill [] none = true
fill (position f c g o a ∷ ss) (part t ts) = has_form f c t && fill ss ts
fill ss ts = false

abbrev pub is_proper : Kind → Forest → Bool
is_proper k cs = fill (positions k) cs

-- specifiers of one side
abbrev pub is_specifier_of : Side → Kind → Bool
is_specifier_of Imported (program (Specifier Imported)) = true
is_specifier_of Imported (program (SpecifierAs Imported)) = true
is_specifier_of Exported (program (Specifier Exported)) = true
is_specifier_of Exported (program (SpecifierAs Exported)) = true
is_specifier_of From (program (Specifier From)) = true
is_specifier_of From (program (SpecifierAs From)) = true
is_specifier_of s k = false

-- in a list of specifiers stand those of its side, and elsewhere none (ECMA-262 sections 16.2.2 and 16.2.3)
abbrev pub sided : Nonterminal → Tree → Bool
sided (Specifiers s) (node k cs) = is_specifier_of s k
sided (Specifiers s) t = false
sided c (node k cs) = not (is_specifier k)
sided c t = true

abbrev pub each_sided : Nonterminal → Forest → Bool
each_sided c none = true
each_sided c (part t ts) = sided c t && each_sided c ts

abbrev pub has_sides : Nonterminal → Tree → Bool
has_sides c (list ts) = each_sided c ts
has_sides c t = sided c t

abbrev pub sides : List Position → Forest → Bool
sides (position f c g o a ∷ ss) (part t ts) = has_sides c t && sides ss ts
sides ss ts = true

abbrev pub is_sided : Kind → Forest → Bool
is_sided k cs = sides (positions k) cs

abbrev pub proper : Tree → Bool
proper t = stands WholeProgram t && (each_node is_proper t && each_node is_sided t)
