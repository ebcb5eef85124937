-- The grammar (ECMA-262 sections 13 to 16; JSX specification): one row a production, as it is read and as it is written.
use Rattle.std.specs.Prelude.{ℕ, List, [], ◌∷◌, ◌++◌, codes, Bool, true, false}
use Prim.Native.String.{String}
use Rattle.jsx_base.specs.Token.{Text, Operand, Operator, Tag, Children, IdentifierName, Punctuator, NoSubstitution, TemplateHead, TemplateMiddle, TemplateTail}
use Rattle.jsx_tree.specs.Signs.{Ending, AfterBlock, AfterWord, AfterList, AfterBinding, AfterKey, AfterDo, Sign, Tok, Semicolon, Unless, SameLine, Ends, Space, Pad, Indent, Outdent, Unindent, Apart, Begin, Count, One, End}
use Rattle.jsx_tree.specs.Kinds.{DeclareWord, VarWord, LetWord, ConstWord, Side, Imported, Exported, From, ProgramKind, Module, Script, FunctionBody, Directive, ImportBare, Import, ImportAll, ImportList, ImportBoth, Specifier, SpecifierAs, ExportNames, ExportFrom, ExportAll, ExportAllAs, ExportDecl, ExportDefaultFn, ExportDefaultClass, ExportDefaultExpr, StatementKind, Block, Var, Declarator, Empty, ExprStmt, If, Do, While, For, ForDeclaration, ForIn, ForOf, ForBinding, Continue, Break, Return, Throw, Debugger, Label, Switch, Case, Default, Try, Catch, FunctionDecl, ClassDecl, Holder, Static, Binds, Assigns, FunctionKind, FunctionExpr, ClassExpr, Method, Getter, Setter, Field, ComputedKey, ArrayPat, ObjectPat, PropertyPat, ShorthandPat, ShorthandInit, WithInit, RestPat, RestProperty, ParenTarget, BinaryOp, Nullish, Or, And, BitOr, BitXor, BitAnd, Equal, Unequal, StrictEqual, StrictUnequal, InOp, InstanceOf, ShiftLeft, ShiftRight, ShiftOut, Add, Subtract, Multiply, Divide, Remainder, Exponentiate, UnaryOp, Positive, Negative, Complement, Not, ExpressionKind, Seq, Assign, OpAssign, Arrow, ArrowBlock, BareArrow, BareArrowBlock, Cond, Binary, Unary, PrefixUpdate, PostfixUpdate, Call, Member, Index, Tagged, New, NewWithoutArguments, SuperCall, SuperMember, SuperIndex, ImportCall, ImportMeta, NewTarget, Chain, NameLink, IndexLink, CallLink, Array, Object, Property, Shorthand, Spread, Parenthesized, PlainTemplate, SubstitutedTemplate, TemplateSpan, JsxKind, Element, ElementWithChildren, Fragment, NamespacedName, MemberName, Attribute, Container, EmptyContainer, JsxSpread, Kind, program, statement, function, expression, jsx}
use Rattle.jsx_tree.specs.Nonterminals.{Nonterminal, Expr, MemberObject, SimpleTarget, Ident, BindingIdent, Name, StringOnly, Pat, Slot, PatProp, PatElement, Param, Declarators, Key, ClassMember, ObjectMember, Argument, ArrayItem, ChainLink, TemplateOf, TemplatePart, TemplateSpans, Stmt, SubStmt, Item, DirectiveOnly, Body, BlockOnly, CaseClause, CatchClause, Declaration, ClassOnly, ForInit, ForHead, ImportClause, ImportBindings, Specifiers, TagName, Attributes, AttributeName, AttributeValue, Child, MemberRoot, MemberPart, JsxWord, NullishLeft, NewCallee, DotObject, ForOfHead, SetterParam, level_of, binary, unary, update}

-- how the trees of one place stand together
pub data ListShape : Type 0 where
  -- joined by `, `, and a trailing comma may be read: `f(a, b,)`
  Commas : ListShape
  -- the same with holes, where a last hole has a comma behind it: `[a, ,]`
  Elisions : ListShape
  -- joined by `, `, with no trailing comma: at least one, as `var a, b`; at least two, as `a, b`
  NoTrailing : ListShape
  TwoOrMore : ListShape
  -- each on a line of its own, inside of braces and at the top
  Lines : ListShape
  TopLines : ListShape
  -- with nothing between: the spans of a template; at least one: the links of a chain
  Adjacent : ListShape
  OneOrMore : ListShape
  -- a blank before each: JSX attributes; a dot between: the parts of a JSX member name
  Spaced : ListShape
  Dotted : ListShape
  -- where JSX text is read
  JsxChildren : ListShape

-- what the parts behind this stand in, for the static rules
pub data Context : Type 0 where
  InFunction : Context
  InArrow : Context
  InMethod : Holder → Context
  InField : Context
  -- a class, and its members
  InClassCode : Context
  InMembers : Context
  InLoop : Context
  InSwitch : Context
  InLabel : Context
  InCode : Context
  InModuleCode : Context

-- one symbol of a production's right side
pub data Symbol : Type 0 where
  -- a token, or what only reading, layout or depth looks at
  Fixed : Sign → Symbol
  -- one part
  Part : Nonterminal → Symbol
  -- a part that may be absent, and what stands before and behind it; where it is absent no such token may come next
  Optional : List Sign → Nonterminal → List Sign → List Text → Symbol
  Many : ListShape → Nonterminal → Symbol
  Within : Context → Symbol

abbrev pub Production : Type 0
Production = List Symbol

abbrev pub pun : String → Sign
pun s = Tok Operator Punctuator (codes s)

abbrev pub key : String → Sign
key s = Tok Operator IdentifierName (codes s)

abbrev pub tag : String → Sign
tag s = Tok Tag Punctuator (codes s)

-- a punctuator of code, a word, and a punctuator of a tag
abbrev pub p : String → Symbol
p s = Fixed (pun s)

abbrev pub w : String → Symbol
w s = Fixed (key s)

abbrev pub j : String → Symbol
j s = Fixed (tag s)

abbrev pub sp : Symbol
sp = Fixed Space

abbrev pub semi : Symbol
semi = Fixed Semicolon

abbrev pub count : Symbol
count = Fixed Count

abbrev pub unless : List Text → Symbol
unless ts = Fixed (Unless ts)

abbrev pub fixed : List Sign → Production
fixed [] = []
fixed (m ∷ ms) = Fixed m ∷ fixed ms

-- a word that may end its statement at a line's end
abbrev pub after : String → Ending → Production
after s e = w s ∷ Fixed (Ends e) ∷ []

-- `, `-lists in brackets
abbrev pub parens : Nonterminal → Production
parens c = p "(" ∷ Many Commas c ∷ p ")" ∷ []

abbrev pub braces : Nonterminal → Production
braces c = p "{" ∷ Fixed Pad ∷ Many Commas c ∷ Fixed Pad ∷ p "}" ∷ []

abbrev pub braced_lines : Nonterminal → Production
braced_lines c = p "{" ∷ Fixed Indent ∷ Many Lines c ∷ Fixed Outdent ∷ p "}" ∷ []

abbrev pub body : Production
body = p "{" ∷ Fixed Indent ∷ Part Body ∷ Fixed Outdent ∷ p "}" ∷ []

-- ` = E1`
abbrev pub opt_init : Symbol
opt_init = Optional (Count ∷ Space ∷ pun "=" ∷ Space ∷ []) (Expr 1) [] []

abbrev pub vars : DeclareWord → Text
vars VarWord = codes "var"
vars LetWord = codes "let"
vars ConstWord = codes "const"

abbrev pub word : Text → Symbol
word s = Fixed (Tok Operator IdentifierName s)

-- what an expression statement doesn't begin with (ECMA-262 section 14.5)
abbrev pub heads : List Text
heads = codes "{" ∷ codes "function" ∷ codes "class" ∷ []

-- a specifier `outer as inner`, and one that is a single name
abbrev pub outer : Side → Nonterminal
outer Imported = Name
outer Exported = Ident
outer From = Name

abbrev pub inner : Side → Nonterminal
inner Imported = BindingIdent
inner Exported = Name
inner From = Name

abbrev pub only : Side → Nonterminal
only Imported = BindingIdent
only Exported = Ident
only From = Name

-- scripts and modules (ECMA-262 section 16), directives (section 11.2.1)
abbrev pub program_production : ProgramKind → Production
program_production Module = Within InModuleCode ∷ Many TopLines DirectiveOnly ∷ Many TopLines Item ∷ []
program_production Script = Within InCode ∷ Many TopLines DirectiveOnly ∷ Many TopLines Stmt ∷ []
program_production FunctionBody = Within InCode ∷ Many Lines DirectiveOnly ∷ Many Lines Stmt ∷ []
program_production Directive = Part StringOnly ∷ semi ∷ []
program_production ImportBare = count ∷ w "import" ∷ sp ∷ Part StringOnly ∷ Fixed (Ends AfterWord) ∷ semi ∷ []
program_production Import = count ∷ w "import" ∷ sp ∷ Part ImportClause ∷ sp ∷ w "from" ∷ sp ∷ Part StringOnly ∷ Fixed (Ends AfterWord) ∷ semi ∷ []
program_production ImportAll = p "*" ∷ sp ∷ w "as" ∷ sp ∷ Part BindingIdent ∷ []
program_production ImportList = braces (Specifiers Imported)
program_production ImportBoth = Part BindingIdent ∷ p "," ∷ sp ∷ Part ImportBindings ∷ []
program_production (Specifier s) = Part (only s) ∷ []
program_production (SpecifierAs s) = Part (outer s) ∷ sp ∷ w "as" ∷ sp ∷ Part (inner s) ∷ []
program_production ExportNames = count ∷ w "export" ∷ sp ∷ braces (Specifiers Exported) ++ Fixed (Ends AfterList) ∷ semi ∷ []
program_production ExportFrom = count ∷ w "export" ∷ sp ∷ braces (Specifiers From) ++ sp ∷ w "from" ∷ sp ∷ Part StringOnly ∷ Fixed (Ends AfterWord) ∷ semi ∷ []
program_production ExportAll = count ∷ w "export" ∷ sp ∷ p "*" ∷ sp ∷ w "from" ∷ sp ∷ Part StringOnly ∷ Fixed (Ends AfterWord) ∷ semi ∷ []
program_production ExportAllAs = count ∷ w "export" ∷ sp ∷ p "*" ∷ sp ∷ w "as" ∷ sp ∷ Part Name ∷ sp ∷ w "from" ∷ sp ∷ Part StringOnly ∷ Fixed (Ends AfterWord) ∷ semi ∷ []
program_production ExportDecl = count ∷ w "export" ∷ sp ∷ Part Declaration ∷ []
program_production ExportDefaultFn = count ∷ w "export" ∷ sp ∷ w "default" ∷ sp ∷ w "function" ∷ sp ∷ Optional [] BindingIdent [] [] ∷ Within InFunction ∷ parens Param ++ sp ∷ body
program_production ExportDefaultClass = count ∷ w "export" ∷ sp ∷ w "default" ∷ sp ∷ Part ClassOnly ∷ []
program_production ExportDefaultExpr = count ∷ w "export" ∷ sp ∷ w "default" ∷ sp ∷ unless (codes "function" ∷ codes "class" ∷ []) ∷ Part (Expr 1) ∷ semi ∷ []

-- statements (ECMA-262 section 14), function and class declarations (sections 15.2 and 15.7). `count` stands where the construct begins to count for depth.
abbrev pub statement_production : StatementKind → Production
statement_production Block = count ∷ braced_lines Stmt
statement_production (Var v) = count ∷ word (vars v) ∷ sp ∷ Many NoTrailing Declarators ∷ semi ∷ []
statement_production Declarator = Part (Pat Binds) ∷ Fixed (Ends AfterBinding) ∷ opt_init ∷ []
statement_production Empty = count ∷ p ";" ∷ []
statement_production ExprStmt = unless heads ∷ Part (Expr 0) ∷ semi ∷ []
statement_production If = count ∷ w "if" ∷ sp ∷ p "(" ∷ Part (Expr 0) ∷ p ")" ∷ sp ∷ Part SubStmt ∷ Optional (Space ∷ key "else" ∷ Space ∷ []) SubStmt [] (codes "else" ∷ []) ∷ []
statement_production Do = count ∷ w "do" ∷ sp ∷ Within InLoop ∷ Part SubStmt ∷ sp ∷ w "while" ∷ sp ∷ p "(" ∷ Part (Expr 0) ∷ p ")" ∷ Fixed (Ends AfterDo) ∷ semi ∷ []
statement_production While = count ∷ w "while" ∷ sp ∷ p "(" ∷ Part (Expr 0) ∷ p ")" ∷ sp ∷ Within InLoop ∷ Part SubStmt ∷ []
statement_production For =
    count ∷ w "for" ∷ sp ∷ p "(" ∷ Optional [] ForInit [] [] ∷ p ";" ∷ Optional (Space ∷ []) (Expr 0) [] [] ∷ p ";" ∷ Optional (Space ∷ []) (Expr 0) [] [] ∷ p ")" ∷ sp ∷ Within InLoop ∷ Part SubStmt ∷ []
statement_production (ForDeclaration v) = word (vars v) ∷ sp ∷ Many NoTrailing Declarators ∷ []
statement_production ForIn = count ∷ w "for" ∷ sp ∷ p "(" ∷ Part ForHead ∷ sp ∷ w "in" ∷ sp ∷ Part (Expr 0) ∷ p ")" ∷ sp ∷ Within InLoop ∷ Part SubStmt ∷ []
statement_production ForOf = count ∷ w "for" ∷ sp ∷ p "(" ∷ Part ForOfHead ∷ sp ∷ w "of" ∷ sp ∷ Part (Expr 1) ∷ p ")" ∷ sp ∷ Within InLoop ∷ Part SubStmt ∷ []
statement_production (ForBinding v) = word (vars v) ∷ sp ∷ Part (Pat Binds) ∷ []
statement_production Continue = count ∷ after "continue" AfterWord ++ Optional (SameLine ∷ Space ∷ []) Ident (Ends AfterWord ∷ []) [] ∷ semi ∷ []
statement_production Break = count ∷ after "break" AfterWord ++ Optional (SameLine ∷ Space ∷ []) Ident (Ends AfterWord ∷ []) [] ∷ semi ∷ []
statement_production Return = count ∷ after "return" AfterWord ++ Optional (SameLine ∷ Space ∷ []) (Expr 0) [] [] ∷ semi ∷ []
statement_production Throw = count ∷ w "throw" ∷ Fixed SameLine ∷ sp ∷ Part (Expr 0) ∷ semi ∷ []
statement_production Debugger = count ∷ after "debugger" AfterWord ++ semi ∷ []
statement_production Label = Part Ident ∷ count ∷ p ":" ∷ sp ∷ Within InLabel ∷ Part SubStmt ∷ []
statement_production Switch = count ∷ w "switch" ∷ sp ∷ p "(" ∷ Part (Expr 0) ∷ p ")" ∷ sp ∷ Within InSwitch ∷ braced_lines CaseClause
statement_production Case = count ∷ w "case" ∷ sp ∷ Part (Expr 0) ∷ p ":" ∷ Fixed Indent ∷ Many Lines Stmt ∷ Fixed Unindent ∷ []
statement_production Default = count ∷ w "default" ∷ p ":" ∷ Fixed Indent ∷ Many Lines Stmt ∷ Fixed Unindent ∷ []
statement_production Try = count ∷ w "try" ∷ sp ∷ Part BlockOnly ∷ Optional (Space ∷ key "catch" ∷ Space ∷ []) CatchClause [] (codes "catch" ∷ []) ∷ Optional (Space ∷ key "finally" ∷ Space ∷ []) BlockOnly [] (codes "finally" ∷ []) ∷ []
statement_production Catch = Optional (pun "(" ∷ []) (Pat Binds) (pun ")" ∷ Space ∷ []) [] ∷ Part BlockOnly ∷ []
statement_production FunctionDecl = count ∷ w "function" ∷ sp ∷ Part BindingIdent ∷ Within InFunction ∷ parens Param ++ sp ∷ body
statement_production ClassDecl = count ∷ w "class" ∷ sp ∷ Within InClassCode ∷ Part BindingIdent ∷ Optional (Space ∷ key "extends" ∷ Space ∷ []) (Expr 17) [] [] ∷ sp ∷ Within InMembers ∷ braced_lines ClassMember

-- a member, with `static` before it or not
abbrev pub prefixed : Holder → Production → Production
prefixed Static r = count ∷ Fixed One ∷ w "static" ∷ sp ∷ r
prefixed h r = count ∷ r

-- functions, classes and members (ECMA-262 section 15), patterns (sections 13.15.5 and 14.3.3). No comma follows a rest: `[...a,]` is a literal alone.
abbrev pub function_production : FunctionKind → Production
function_production FunctionExpr = count ∷ w "function" ∷ sp ∷ Optional [] BindingIdent [] [] ∷ Within InFunction ∷ parens Param ++ sp ∷ body
function_production ClassExpr = count ∷ w "class" ∷ Within InClassCode ∷ Optional (Space ∷ []) BindingIdent [] [] ∷ Optional (Space ∷ key "extends" ∷ Space ∷ []) (Expr 17) [] [] ∷ sp ∷ Within InMembers ∷ braced_lines ClassMember
function_production (Method h) = prefixed h (Part Key ∷ Within (InMethod h) ∷ parens Param ++ sp ∷ body)
function_production (Getter h) = prefixed h (Fixed One ∷ w "get" ∷ sp ∷ Part Key ∷ Within (InMethod h) ∷ p "(" ∷ p ")" ∷ sp ∷ body)
function_production (Setter h) = prefixed h (Fixed One ∷ w "set" ∷ sp ∷ Part Key ∷ Within (InMethod h) ∷ p "(" ∷ Part SetterParam ∷ p ")" ∷ sp ∷ body)
function_production (Field h) = prefixed h (Part Key ∷ Within InField ∷ Fixed (Ends AfterKey) ∷ Optional (Space ∷ pun "=" ∷ Space ∷ []) (Expr 1) [] [] ∷ semi ∷ [])
function_production ComputedKey = p "[" ∷ Part (Expr 1) ∷ p "]" ∷ []
function_production (ArrayPat r) = count ∷ p "[" ∷ Many Elisions (Slot r) ∷ p "]" ∷ []
function_production (ObjectPat r) = count ∷ braces (PatProp r)
function_production (PropertyPat r) = count ∷ Part Key ∷ p ":" ∷ sp ∷ Part (PatElement r) ∷ []
function_production (ShorthandPat r) = count ∷ Part BindingIdent ∷ []
function_production (ShorthandInit r) = count ∷ Fixed Begin ∷ Part BindingIdent ∷ sp ∷ count ∷ p "=" ∷ sp ∷ Part (Expr 1) ∷ Fixed End ∷ []
function_production (WithInit r) = Part (Pat r) ∷ sp ∷ count ∷ p "=" ∷ sp ∷ Part (Expr 1) ∷ []
function_production (RestPat r) = p "..." ∷ Part (Pat r) ∷ unless (codes "," ∷ []) ∷ []
function_production (RestProperty r) = p "..." ∷ Part BindingIdent ∷ unless (codes "," ∷ []) ∷ []
function_production ParenTarget = count ∷ p "(" ∷ Part SimpleTarget ∷ p ")" ∷ unless (codes "=>" ∷ []) ∷ []

-- `?.` of a chain's link, or nothing
abbrev pub optional : Bool → Production → Production
optional true r = p "?." ∷ r
optional false r = r

abbrev pub dotted : Bool → Production
dotted true = p "?." ∷ []
dotted false = p "." ∷ []

-- the left side's level and the right side's
abbrev pub left_of : BinaryOp → Nonterminal
left_of Nullish = NullishLeft
left_of Exponentiate = Expr 16
left_of o = Expr (level_of o)

abbrev pub right_of : BinaryOp → ℕ
right_of Nullish = 6
right_of Or = 5
right_of And = 6
right_of BitOr = 7
right_of BitXor = 8
right_of BitAnd = 9
right_of Equal = 10
right_of Unequal = 10
right_of StrictEqual = 10
right_of StrictUnequal = 10
right_of ShiftLeft = 12
right_of ShiftRight = 12
right_of ShiftOut = 12
right_of Add = 13
right_of Subtract = 13
right_of Multiply = 14
right_of Divide = 14
right_of Remainder = 14
right_of Exponentiate = 14
right_of _ = 11

abbrev pub operator : BinaryOp → Symbol
operator InOp = w "in"
operator InstanceOf = w "instanceof"
operator o = Fixed (Tok Operator Punctuator (binary o))

-- `typeof a`, `!a`, `- -a`
abbrev pub prefix : UnaryOp → Production
prefix Positive = p "+" ∷ Fixed Apart ∷ []
prefix Negative = p "-" ∷ Fixed Apart ∷ []
prefix Complement = p "~" ∷ []
prefix Not = p "!" ∷ []
prefix o = word (unary o) ∷ sp ∷ []

-- expressions (ECMA-262 section 13). `unless` keeps two productions apart by the token behind: `(a)` before `=>` is no expression in parentheses.
abbrev pub expression_production : ExpressionKind → Production
expression_production Seq = Many TwoOrMore (Expr 1) ∷ []
expression_production Assign = Part (Pat Assigns) ∷ sp ∷ count ∷ p "=" ∷ sp ∷ Part (Expr 1) ∷ []
expression_production (OpAssign o) = Part SimpleTarget ∷ sp ∷ count ∷ Fixed (Tok Operator Punctuator (binary o ++ codes "=")) ∷ sp ∷ Part (Expr 1) ∷ []
expression_production Arrow = count ∷ Within InArrow ∷ parens Param ++ Fixed SameLine ∷ sp ∷ p "=>" ∷ sp ∷ unless (codes "{" ∷ []) ∷ Part (Expr 1) ∷ []
expression_production ArrowBlock = count ∷ Within InArrow ∷ parens Param ++ Fixed SameLine ∷ sp ∷ p "=>" ∷ sp ∷ body ++ Fixed (Ends AfterBlock) ∷ []
expression_production BareArrow = Part BindingIdent ∷ Fixed SameLine ∷ sp ∷ count ∷ p "=>" ∷ sp ∷ Within InArrow ∷ unless (codes "{" ∷ []) ∷ Part (Expr 1) ∷ []
expression_production BareArrowBlock = Part BindingIdent ∷ Fixed SameLine ∷ sp ∷ count ∷ p "=>" ∷ sp ∷ Within InArrow ∷ body ++ Fixed (Ends AfterBlock) ∷ []
expression_production Cond = Part (Expr 3) ∷ sp ∷ count ∷ p "?" ∷ sp ∷ Part (Expr 1) ∷ sp ∷ p ":" ∷ sp ∷ Part (Expr 1) ∷ []
expression_production (Binary o) = Part (left_of o) ∷ sp ∷ count ∷ operator o ∷ sp ∷ Part (Expr (right_of o)) ∷ []
expression_production (Unary o) = count ∷ prefix o ++ Part (Expr 15) ∷ []
expression_production (PrefixUpdate o) = count ∷ Fixed (Tok Operator Punctuator (update o)) ∷ Part SimpleTarget ∷ []
expression_production (PostfixUpdate o) = Part SimpleTarget ∷ Fixed SameLine ∷ count ∷ Fixed (Tok Operator Punctuator (update o)) ∷ []
expression_production Call = Part MemberObject ∷ count ∷ parens Argument
expression_production Member = Part DotObject ∷ count ∷ p "." ∷ Part Name ∷ []
expression_production Index = Part MemberObject ∷ count ∷ p "[" ∷ Part (Expr 0) ∷ p "]" ∷ []
expression_production Tagged = Part MemberObject ∷ count ∷ Part TemplateOf ∷ []
expression_production New = count ∷ w "new" ∷ sp ∷ Part NewCallee ∷ parens Argument
expression_production NewWithoutArguments = count ∷ w "new" ∷ sp ∷ Part NewCallee ∷ unless (codes "(" ∷ []) ∷ []
expression_production SuperCall = count ∷ w "super" ∷ parens Argument
expression_production SuperMember = count ∷ w "super" ∷ p "." ∷ Part Name ∷ []
expression_production SuperIndex = count ∷ w "super" ∷ p "[" ∷ Part (Expr 0) ∷ p "]" ∷ []
expression_production ImportCall = count ∷ w "import" ∷ p "(" ∷ Part (Expr 1) ∷ p ")" ∷ []
expression_production ImportMeta = count ∷ w "import" ∷ p "." ∷ w "meta" ∷ []
expression_production NewTarget = count ∷ w "new" ∷ p "." ∷ w "target" ∷ []
expression_production Chain = Part MemberObject ∷ count ∷ Many OneOrMore ChainLink ∷ []
expression_production (NameLink q) = dotted q ++ Part Name ∷ []
expression_production (IndexLink q) = optional q (p "[" ∷ Part (Expr 0) ∷ p "]" ∷ [])
expression_production (CallLink q) = optional q (parens Argument)
expression_production Array = count ∷ p "[" ∷ Many Elisions ArrayItem ∷ p "]" ∷ []
expression_production Object = count ∷ braces ObjectMember
expression_production Property = count ∷ Part Key ∷ p ":" ∷ sp ∷ Part (Expr 1) ∷ []
expression_production Shorthand = count ∷ Part Ident ∷ []
expression_production Spread = p "..." ∷ Part (Expr 1) ∷ []
expression_production Parenthesized = count ∷ p "(" ∷ Part (Expr 0) ∷ p ")" ∷ unless (codes "=>" ∷ []) ∷ []
expression_production (PlainTemplate b) = count ∷ Part (TemplatePart NoSubstitution) ∷ []
expression_production (SubstitutedTemplate b) = count ∷ Part (TemplatePart TemplateHead) ∷ Many Adjacent (TemplateSpans b) ∷ Part (Expr 0) ∷ p "}" ∷ Part (TemplatePart TemplateTail) ∷ []
expression_production (TemplateSpan b) = Part (Expr 0) ∷ p "}" ∷ Part (TemplatePart TemplateMiddle) ∷ []

-- elements (JSX specification). The `<` is read where an expression may begin, or among the children of another element; the tag behind it in the mode of tags.
abbrev pub jsx_production : JsxKind → Production
jsx_production Element = Fixed (Tok Operand Punctuator (codes "<")) ∷ count ∷ Part TagName ∷ Many Spaced Attributes ∷ j "/" ∷ j ">" ∷ []
jsx_production ElementWithChildren =
    Fixed (Tok Operand Punctuator (codes "<")) ∷ count ∷ Part TagName ∷ Many Spaced Attributes ∷ j ">" ∷ Many JsxChildren Child ∷ Fixed (Tok Children Punctuator (codes "<")) ∷ j "/" ∷ Part TagName ∷ j ">" ∷ []
jsx_production Fragment = Fixed (Tok Operand Punctuator (codes "<")) ∷ count ∷ j ">" ∷ Many JsxChildren Child ∷ Fixed (Tok Children Punctuator (codes "<")) ∷ j "/" ∷ j ">" ∷ []
jsx_production NamespacedName = Part JsxWord ∷ j ":" ∷ Part JsxWord ∷ []
jsx_production MemberName = Part MemberRoot ∷ j "." ∷ Many Dotted MemberPart ∷ []
jsx_production Attribute = count ∷ Part AttributeName ∷ Optional (tag "=" ∷ []) AttributeValue [] [] ∷ []
jsx_production Container = count ∷ j "{" ∷ Part (Expr 0) ∷ p "}" ∷ []
jsx_production EmptyContainer = count ∷ j "{" ∷ p "}" ∷ []
jsx_production JsxSpread = count ∷ j "{" ∷ p "..." ∷ Part (Expr 1) ∷ p "}" ∷ []

abbrev pub production : Kind → Production
production (program k) = program_production k
production (statement k) = statement_production k
production (function k) = function_production k
production (expression k) = expression_production k
production (jsx k) = jsx_production k
