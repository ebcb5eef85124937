-- The trees that the law is proved of, and how large they are.
use Rattle.jsx_tree.specs.Kinds.{ArrowBlock, BareArrowBlock}
use Rattle.std.specs.Prelude.{ℕ, suc, ◌+◌, nat_eq, Bool, true, false, ◌&&◌, ◌||◌}
use Rattle.jsx_base.specs.Token.{TokenKind, NoSubstitution, TemplateHead, TemplateMiddle, TemplateTail, RegExpLiteral, JsxName, JsxString, JsxText, kind_number}
use Rattle.jsx_tree.specs.Kinds.{Seq, Script, Module, FunctionBody, Directive, ImportBare, Import, ImportAll, ImportList, ImportBoth, ExportAll, ExportAllAs, ExportDecl, ExportDefaultFn, ExportDefaultClass, ExportDefaultExpr, ExportNames, ExportFrom, Specifier, SpecifierAs, Imported, Exported, From, Var, VarWord, LetWord, ConstWord, Block, Declarator, Empty, ExprStmt, If, Do, While, For, ForDeclaration, ForIn, ForOf, ForBinding, Continue, Break, Return, Throw, Debugger, Label, Switch, Case, Default, Try, Catch, FunctionDecl, ClassDecl, FunctionExpr, ClassExpr, InObject, InClass, Static, Method, Getter, Setter, Field, Kind, program, statement, function, expression, jsx, Tree, leaf, node, list, Forest, none, part}
use Rattle.jsx_tree.proofs.OneTree.Table.{scope}

abbrev pub is_seq : Kind → Bool
is_seq (expression Seq) = true
is_seq k = false

-- arrows with a block
abbrev pub is_blocked : Kind → Bool
is_blocked (expression ArrowBlock) = true
is_blocked (expression BareArrowBlock) = true
is_blocked k = false

-- elements, and what stands in them
abbrev pub is_jsx : Kind → Bool
is_jsx (jsx k) = true
is_jsx k = false

-- the leaves that stand in elements alone
abbrev pub jsx_leaf : TokenKind → Bool
jsx_leaf JsxName = true
jsx_leaf JsxString = true
jsx_leaf JsxText = true
jsx_leaf s = false

-- the kinds whose rows are read here
abbrev pub taken : Kind → Bool
taken k = scope k

abbrev pub plain_leaf : TokenKind → Bool
plain_leaf s = nat_eq (kind_number s) 0 || (nat_eq (kind_number s) 2 || (nat_eq (kind_number s) 3 || (nat_eq (kind_number s) 4 || nat_eq (kind_number s) 13)))

abbrev pub is_piece : TokenKind → Bool
is_piece NoSubstitution = true
is_piece TemplateHead = true
is_piece TemplateMiddle = true
is_piece TemplateTail = true
is_piece s = false

abbrev pub is_regexp : TokenKind → Bool
is_regexp RegExpLiteral = true
is_regexp s = false

-- statements, what stands in them, and what holds some
abbrev pub stated : Kind → Bool
stated (program Script) = true
stated (program Module) = true
stated (program FunctionBody) = true
stated (program Directive) = true
stated (program ImportBare) = true
stated (program Import) = true
stated (program ImportAll) = true
stated (program ImportList) = true
stated (program ImportBoth) = true
stated (program ExportAll) = true
stated (program ExportAllAs) = true
stated (program ExportDecl) = true
stated (program ExportDefaultFn) = true
stated (program ExportDefaultClass) = true
stated (program ExportDefaultExpr) = true
stated (program ExportNames) = true
stated (program ExportFrom) = true
stated (program (Specifier Imported)) = true
stated (program (Specifier Exported)) = true
stated (program (Specifier From)) = true
stated (program (SpecifierAs Imported)) = true
stated (program (SpecifierAs Exported)) = true
stated (program (SpecifierAs From)) = true
stated (statement Block) = true
stated (statement (Var VarWord)) = true
stated (statement (Var LetWord)) = true
stated (statement (Var ConstWord)) = true
stated (statement Declarator) = true
stated (statement Empty) = true
stated (statement ExprStmt) = true
stated (statement If) = true
stated (statement Do) = true
stated (statement While) = true
stated (statement Continue) = true
stated (statement Break) = true
stated (statement Return) = true
stated (statement Throw) = true
stated (statement Debugger) = true
stated (statement Label) = true
stated (statement Switch) = true
stated (statement Case) = true
stated (statement Default) = true
stated (statement Try) = true
stated (statement Catch) = true
stated (statement FunctionDecl) = true
stated (statement For) = true
stated (statement (ForDeclaration VarWord)) = true
stated (statement (ForDeclaration LetWord)) = true
stated (statement (ForDeclaration ConstWord)) = true
stated (statement ForIn) = true
stated (statement ForOf) = true
stated (statement (ForBinding VarWord)) = true
stated (statement (ForBinding LetWord)) = true
stated (statement (ForBinding ConstWord)) = true
stated (statement ClassDecl) = true
stated (function FunctionExpr) = true
stated (function ClassExpr) = true
stated (function (Method InObject)) = true
stated (function (Getter InObject)) = true
stated (function (Setter InObject)) = true
stated (function (Method InClass)) = true
stated (function (Method Static)) = true
stated (function (Getter InClass)) = true
stated (function (Getter Static)) = true
stated (function (Setter InClass)) = true
stated (function (Setter Static)) = true
stated (function (Field InClass)) = true
stated (function (Field Static)) = true
stated k = false

-- the kinds that are taken
abbrev pub known : Kind → Bool
known k = (taken k || is_seq k) || (stated k || (is_blocked k || is_jsx k))

abbrev mutual
  pub kept : Tree → Bool
  kept (leaf s t) = (plain_leaf s || (is_piece s || is_regexp s)) || jsx_leaf s
  kept (node k cs) = known k && kepts cs
  kept (list ts) = kepts ts

  pub kepts : Forest → Bool
  kepts none = true
  kepts (part t ts) = kept t && kepts ts

abbrev mutual
  pub size : Tree → ℕ
  size (leaf s t) = 1
  size (node k cs) = suc (sizes cs)
  size (list ts) = sizes ts

  pub sizes : Forest → ℕ
  sizes none = 0
  sizes (part t ts) = size t + sizes ts
