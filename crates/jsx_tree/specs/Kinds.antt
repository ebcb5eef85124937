-- The kinds of node, in groups: one for each production of ECMA-262 sections 13 (expressions), 14 (statements), 15 (functions and classes) and 16 (scripts and modules), and of the JSX specification.
use Rattle.std.specs.Prelude.{Bool}
use Rattle.jsx_base.specs.Token.{Text, TokenKind}

pub data DeclareWord : Type 0 where
  VarWord : DeclareWord
  LetWord : DeclareWord
  ConstWord : DeclareWord

-- the lists of specifiers: `import { a }`, `export { a }`, `export { a } from "m"`
pub data Side : Type 0 where
  Imported : Side
  Exported : Side
  From : Side

-- scripts and modules (ECMA-262 section 16), and the body of a function
pub data ProgramKind : Type 0 where
  Module : ProgramKind
  Script : ProgramKind
  FunctionBody : ProgramKind
  Directive : ProgramKind
  ImportBare : ProgramKind
  Import : ProgramKind
  ImportAll : ProgramKind
  ImportList : ProgramKind
  ImportBoth : ProgramKind
  Specifier : Side → ProgramKind
  SpecifierAs : Side → ProgramKind
  ExportNames : ProgramKind
  ExportFrom : ProgramKind
  ExportAll : ProgramKind
  ExportAllAs : ProgramKind
  ExportDecl : ProgramKind
  ExportDefaultFn : ProgramKind
  ExportDefaultClass : ProgramKind
  ExportDefaultExpr : ProgramKind

-- statements and declarations (ECMA-262 section 14; functions and classes 15.2 and 15.7)
pub data StatementKind : Type 0 where
  Block : StatementKind
  Var : DeclareWord → StatementKind
  Declarator : StatementKind
  Empty : StatementKind
  ExprStmt : StatementKind
  If : StatementKind
  Do : StatementKind
  While : StatementKind
  For : StatementKind
  ForDeclaration : DeclareWord → StatementKind
  ForIn : StatementKind
  ForOf : StatementKind
  ForBinding : DeclareWord → StatementKind
  Continue : StatementKind
  Break : StatementKind
  Return : StatementKind
  Throw : StatementKind
  Debugger : StatementKind
  Label : StatementKind
  Switch : StatementKind
  Case : StatementKind
  Default : StatementKind
  Try : StatementKind
  Catch : StatementKind
  FunctionDecl : StatementKind
  ClassDecl : StatementKind

-- what a method stands in
pub data Holder : Type 0 where
  InObject : Holder
  InClass : Holder
  Static : Holder

-- whether a pattern binds names or assigns to targets
pub data Role : Type 0 where
  Binds : Role
  Assigns : Role

-- functions, classes and their members (ECMA-262 section 15), and patterns (sections 13.15.5 and 14.3.3)
pub data FunctionKind : Type 0 where
  FunctionExpr : FunctionKind
  ClassExpr : FunctionKind
  Method : Holder → FunctionKind
  Getter : Holder → FunctionKind
  Setter : Holder → FunctionKind
  Field : Holder → FunctionKind
  ComputedKey : FunctionKind
  ArrayPat : Role → FunctionKind
  ObjectPat : Role → FunctionKind
  PropertyPat : Role → FunctionKind
  ShorthandPat : Role → FunctionKind
  ShorthandInit : Role → FunctionKind
  WithInit : Role → FunctionKind
  RestPat : Role → FunctionKind
  RestProperty : Role → FunctionKind
  -- parentheses round a target
  ParenTarget : FunctionKind

-- binary operators (ECMA-262 sections 13.6 to 13.13)
pub data BinaryOp : Type 0 where
  Nullish : BinaryOp
  Or : BinaryOp
  And : BinaryOp
  BitOr : BinaryOp
  BitXor : BinaryOp
  BitAnd : BinaryOp
  Equal : BinaryOp
  Unequal : BinaryOp
  StrictEqual : BinaryOp
  StrictUnequal : BinaryOp
  Less : BinaryOp
  Greater : BinaryOp
  AtMost : BinaryOp
  AtLeast : BinaryOp
  InOp : BinaryOp
  InstanceOf : BinaryOp
  ShiftLeft : BinaryOp
  ShiftRight : BinaryOp
  ShiftOut : BinaryOp
  Add : BinaryOp
  Subtract : BinaryOp
  Multiply : BinaryOp
  Divide : BinaryOp
  Remainder : BinaryOp
  Exponentiate : BinaryOp

pub data UnaryOp : Type 0 where
  Delete : UnaryOp
  Void : UnaryOp
  TypeOf : UnaryOp
  Positive : UnaryOp
  Negative : UnaryOp
  Complement : UnaryOp
  Not : UnaryOp

pub data UpdateOp : Type 0 where
  Increment : UpdateOp
  Decrement : UpdateOp

-- expressions (ECMA-262 section 13). An assignment with an operator has it without its `=`: `a += b` is `OpAssign Add`.
pub data ExpressionKind : Type 0 where
  Seq : ExpressionKind
  Assign : ExpressionKind
  OpAssign : BinaryOp → ExpressionKind
  Arrow : ExpressionKind
  ArrowBlock : ExpressionKind
  BareArrow : ExpressionKind
  BareArrowBlock : ExpressionKind
  Cond : ExpressionKind
  Binary : BinaryOp → ExpressionKind
  Unary : UnaryOp → ExpressionKind
  PrefixUpdate : UpdateOp → ExpressionKind
  PostfixUpdate : UpdateOp → ExpressionKind
  Call : ExpressionKind
  Member : ExpressionKind
  Index : ExpressionKind
  Tagged : ExpressionKind
  New : ExpressionKind
  NewWithoutArguments : ExpressionKind
  SuperCall : ExpressionKind
  SuperMember : ExpressionKind
  SuperIndex : ExpressionKind
  ImportCall : ExpressionKind
  ImportMeta : ExpressionKind
  NewTarget : ExpressionKind
  Chain : ExpressionKind
  -- a link of a chain, with `?.` or not
  NameLink : Bool → ExpressionKind
  IndexLink : Bool → ExpressionKind
  CallLink : Bool → ExpressionKind
  Array : ExpressionKind
  Object : ExpressionKind
  Property : ExpressionKind
  Shorthand : ExpressionKind
  Spread : ExpressionKind
  Parenthesized : ExpressionKind
  -- a template that is tagged, or not
  PlainTemplate : Bool → ExpressionKind
  SubstitutedTemplate : Bool → ExpressionKind
  TemplateSpan : Bool → ExpressionKind

-- JSX (JSX specification, sections on elements, attributes and children)
pub data JsxKind : Type 0 where
  Element : JsxKind
  ElementWithChildren : JsxKind
  Fragment : JsxKind
  NamespacedName : JsxKind
  MemberName : JsxKind
  Attribute : JsxKind
  Container : JsxKind
  EmptyContainer : JsxKind
  JsxSpread : JsxKind

pub data Kind : Type 0 where
  program : ProgramKind → Kind
  statement : StatementKind → Kind
  function : FunctionKind → Kind
  expression : ExpressionKind → Kind
  jsx : JsxKind → Kind

mutual
  -- `a` is a leaf, `a + b` a node with two parts, and the arguments of `f(a, b)` are one part, a list
  pub data Tree : Type 0 where
    -- one token whose text matters: a name, a literal, a template's piece, JSX text
    leaf : TokenKind → Text → Tree
    node : Kind → Forest → Tree
    -- the trees of one place that may hold none, or many
    list : Forest → Tree

  pub data Forest : Type 0 where
    none : Forest
    part : Tree → Forest → Forest
