-- What of the language the compiler takes so far: a table over kinds and leaves. Widening the language widens this table.
use Rattle.std.specs.Prelude.{List, [], ◌∷◌, codes, Bool, true, false, IsTrue, not, ◌&&◌}
use Rattle.std.specs.Char.{is_ascii_alphabetic}
use Rattle.jsx_base.specs.Token.{Text, TokenKind, IdentifierName, NumericLiteral, BigIntLiteral, StringLiteral, RegExpLiteral, NoSubstitution, TemplateHead, TemplateMiddle, TemplateTail, JsxName, Elision, same, first_is}
use Rattle.jsx_tree.specs.Kinds.{Module, Directive, FunctionBody, ImportBare, Import, ImportAll, ImportList, ImportBoth, Specifier, SpecifierAs, ExportNames, ExportFrom, ExportAll, ExportAllAs, ExportDecl, ExportDefaultFn, ExportDefaultExpr, FunctionDecl, Return, Arrow, ArrowBlock, BareArrow, BareArrowBlock, FunctionExpr, WithInit, RestPat, ArrayPat, ObjectPat, PropertyPat, ShorthandPat, ShorthandInit, RestProperty, Block, Var, Declarator, Empty, ExprStmt, If, Do, While, Continue, Break, Throw, Debugger, Assign, OpAssign, Void, TypeOf, Positive, Negative, Complement, Not, Unary, Binary, Cond, Call, Member, Index, Chain, NameLink, IndexLink, CallLink, ImportCall, Parenthesized, Element, Kind, program, statement, expression, jsx, Tree, leaf, node, list, Forest, none, part, Delete, PrefixUpdate, PostfixUpdate, Seq, For, ForDeclaration, Switch, Case, Default, Array, Spread, Try, Catch, Object, Property, Shorthand, ComputedKey, ParenTarget, function, Label, New, NewWithoutArguments, NewTarget, ImportMeta, ForIn, ForOf, ForBinding, PlainTemplate, SubstitutedTemplate, TemplateSpan, Tagged, ExportDefaultClass, ClassDecl, InClass, Static, ClassExpr, Method, Getter, Setter, Field, SuperCall, SuperMember, SuperIndex, Script}
use Rattle.jsx_tree.specs.declared.text.Goal.{Goal}
use Rattle.jsx_tree.specs.Nonterminals.{Nonterminal, Expr, MemberObject, NullishLeft, Name, StringOnly, Pat, Slot, PatElement, SimpleTarget, Argument, TagName, WholeProgram, DotObject, assigns, is_value_word, has_dash, ForInit, ArrayItem, Ident, BindingIdent, Param, ImportClause, Key, NewCallee, ForHead, ForOfHead, TemplatePart, SetterParam}
use Rattle.jsx_tree.specs.Form.{Position, position, positions}
use Rattle.jsx_tree.specs.Program.{Reads}

abbrev pub has_kind : Kind → Bool
has_kind (program Module) = true
has_kind (program Script) = true
has_kind (program Directive) = true
has_kind (program FunctionBody) = true
has_kind (program ImportBare) = true
has_kind (program Import) = true
has_kind (program ImportAll) = true
has_kind (program ImportList) = true
has_kind (program ImportBoth) = true
has_kind (program (Specifier s)) = true
has_kind (program (SpecifierAs s)) = true
has_kind (program ExportNames) = true
has_kind (program ExportFrom) = true
has_kind (program ExportAll) = true
has_kind (program ExportAllAs) = true
has_kind (program ExportDecl) = true
has_kind (program ExportDefaultFn) = true
has_kind (program ExportDefaultClass) = true
has_kind (program ExportDefaultExpr) = true
has_kind (statement Block) = true
has_kind (statement (Var v)) = true
has_kind (statement Declarator) = true
has_kind (statement Empty) = true
has_kind (statement ExprStmt) = true
has_kind (statement If) = true
has_kind (statement Do) = true
has_kind (statement While) = true
has_kind (statement For) = true
has_kind (statement (ForDeclaration v)) = true
has_kind (statement ForIn) = true
has_kind (statement ForOf) = true
has_kind (statement (ForBinding v)) = true
has_kind (statement Switch) = true
has_kind (statement Case) = true
has_kind (statement Default) = true
has_kind (statement Continue) = true
has_kind (statement Break) = true
has_kind (statement Return) = true
has_kind (statement Label) = true
has_kind (statement Throw) = true
has_kind (statement Try) = true
has_kind (statement Catch) = true
has_kind (statement Debugger) = true
has_kind (statement FunctionDecl) = true
has_kind (statement ClassDecl) = true
has_kind (expression Seq) = true
has_kind (expression (Binary o)) = true
has_kind (expression Assign) = true
has_kind (expression (OpAssign o)) = assigns o
has_kind (expression Cond) = true
has_kind (expression Arrow) = true
has_kind (expression ArrowBlock) = true
has_kind (expression BareArrow) = true
has_kind (expression BareArrowBlock) = true
has_kind (expression (Unary Delete)) = true
has_kind (expression (Unary Void)) = true
has_kind (expression (Unary TypeOf)) = true
has_kind (expression (Unary Positive)) = true
has_kind (expression (Unary Negative)) = true
has_kind (expression (Unary Complement)) = true
has_kind (expression (Unary Not)) = true
has_kind (expression (PrefixUpdate o)) = true
has_kind (expression (PostfixUpdate o)) = true
has_kind (expression ImportCall) = true
has_kind (expression ImportMeta) = true
has_kind (expression New) = true
has_kind (expression NewWithoutArguments) = true
has_kind (expression NewTarget) = true
has_kind (expression SuperCall) = true
has_kind (expression SuperMember) = true
has_kind (expression SuperIndex) = true
has_kind (function FunctionExpr) = true
has_kind (function ClassExpr) = true
has_kind (function (Method h)) = true
has_kind (function (Getter h)) = true
has_kind (function (Setter h)) = true
has_kind (function (Field InClass)) = true
has_kind (function (Field Static)) = true
has_kind (function (WithInit r)) = true
has_kind (function (RestPat r)) = true
has_kind (function (ArrayPat r)) = true
has_kind (function (ObjectPat r)) = true
has_kind (function (PropertyPat r)) = true
has_kind (function (ShorthandPat r)) = true
has_kind (function (ShorthandInit r)) = true
has_kind (function (RestProperty r)) = true
has_kind (function ComputedKey) = true
has_kind (function ParenTarget) = true
has_kind (expression Array) = true
has_kind (expression Object) = true
has_kind (expression Property) = true
has_kind (expression Shorthand) = true
has_kind (expression Spread) = true
has_kind (expression Parenthesized) = true
has_kind (expression (PlainTemplate b)) = true
has_kind (expression (SubstitutedTemplate b)) = true
has_kind (expression (TemplateSpan b)) = true
has_kind (expression Call) = true
has_kind (expression Member) = true
has_kind (expression Index) = true
has_kind (expression Chain) = true
has_kind (expression (NameLink q)) = true
has_kind (expression (IndexLink q)) = true
has_kind (expression (CallLink q)) = true
has_kind (expression Tagged) = true
has_kind (jsx Element) = true
has_kind k = false

-- a tag that is one plain name, begins with an ASCII letter and isn't `this`
abbrev pub is_plain_tag : Text → Bool
is_plain_tag t = first_is is_ascii_alphabetic t && (not (has_dash t) && not (same t (codes "this")))

-- an expression that is one token: a name or `this`, `null`, `true` and `false`, a number, a long number, a string, or a regular expression
abbrev pub value_leaf : TokenKind → Text → Bool
value_leaf IdentifierName t = is_value_word t
value_leaf NumericLiteral t = true
value_leaf BigIntLiteral t = true
value_leaf StringLiteral t = true
value_leaf RegExpLiteral t = true
value_leaf k t = false

-- a key that is one token
abbrev pub key_leaf : TokenKind → Bool
key_leaf IdentifierName = true
key_leaf NumericLiteral = true
key_leaf BigIntLiteral = true
key_leaf StringLiteral = true
key_leaf k = false

-- which leaves may stand at a place
abbrev pub leaf_at : Nonterminal → TokenKind → Text → Bool
leaf_at (Pat r) IdentifierName t = true
leaf_at SimpleTarget IdentifierName t = true
leaf_at Ident IdentifierName t = true
leaf_at BindingIdent IdentifierName t = true
leaf_at Param IdentifierName t = true
leaf_at (PatElement r) IdentifierName t = true
leaf_at (Slot r) IdentifierName t = true
leaf_at (Slot r) Elision t = true
leaf_at SetterParam IdentifierName t = true
leaf_at ImportClause IdentifierName t = true
leaf_at Name IdentifierName t = true
leaf_at StringOnly StringLiteral t = true
leaf_at Key k t = key_leaf k
leaf_at TagName JsxName t = is_plain_tag t
leaf_at (TemplatePart NoSubstitution) NoSubstitution t = true
leaf_at (TemplatePart TemplateHead) TemplateHead t = true
leaf_at (TemplatePart TemplateMiddle) TemplateMiddle t = true
leaf_at (TemplatePart TemplateTail) TemplateTail t = true
leaf_at (Expr n) k t = value_leaf k t
leaf_at NullishLeft k t = value_leaf k t
leaf_at MemberObject k t = value_leaf k t
leaf_at NewCallee k t = value_leaf k t
leaf_at DotObject k t = value_leaf k t
leaf_at Argument k t = value_leaf k t
leaf_at ForInit k t = value_leaf k t
leaf_at ForHead IdentifierName t = true
leaf_at ForOfHead IdentifierName t = true
leaf_at ArrayItem Elision t = true
leaf_at ArrayItem k t = value_leaf k t
leaf_at c k t = false

abbrev mutual
  pub in_stage : Nonterminal → Tree → Bool
  in_stage c (leaf k t) = leaf_at c k t
  in_stage c (node k cs) = has_kind k && in_stages (positions k) cs
  in_stage c (list ts) = each_in_stage c ts

  pub in_stages : List Position → Forest → Bool
  in_stages [] ts = true
  in_stages (s ∷ ss) none = true
  in_stages (position f c g b a ∷ ss) (part t ts) = in_stage c t && in_stages ss ts

  pub each_in_stage : Nonterminal → Forest → Bool
  each_in_stage c none = true
  each_in_stage c (part t ts) = in_stage c t && each_in_stage c ts

-- the text reads as this module or script, which the compiler takes so far
pub record ReadsSoFar (goal : Goal) (text : Text) (t : Tree) : Type 0 where
  pub reads : Reads goal text t
  pub staged : IsTrue (in_stage WholeProgram t)
