-- What may stand at a place: the nonterminals of ECMA-262 sections 13 to 16 and of the JSX specification. Each kind of node has the list of its homes, the nonterminals that it is one of.
use Rattle.std.specs.Prelude.{ℕ, List, [], ◌∷◌, codes, Bool, true, false, nat_eq, nat_le, cond, not, ◌&&◌, ◌||◌}
use Rattle.jsx_base.specs.Token.{Text, TokenKind, IdentifierName, NumericLiteral, BigIntLiteral, StringLiteral, RegExpLiteral, NoSubstitution, TemplateHead, TemplateMiddle, TemplateTail, JsxName, JsxString, JsxText, Elision, same, among}
use Rattle.jsx_tree.specs.Kinds.{VarWord, Side, Imported, Exported, From, ProgramKind, Module, Script, FunctionBody, Directive, ImportAll, ImportList, ImportBoth, Specifier, SpecifierAs, StatementKind, Block, Var, Declarator, ForDeclaration, ForBinding, Case, Default, Catch, FunctionDecl, ClassDecl, Holder, InObject, InClass, Static, Role, Binds, Assigns, FunctionKind, FunctionExpr, ClassExpr, Method, Getter, Setter, Field, ComputedKey, ArrayPat, ObjectPat, PropertyPat, ShorthandPat, ShorthandInit, WithInit, RestPat, RestProperty, ParenTarget, BinaryOp, Nullish, Or, And, BitOr, BitXor, BitAnd, Equal, Unequal, StrictEqual, StrictUnequal, Less, Greater, AtMost, AtLeast, InOp, InstanceOf, ShiftLeft, ShiftRight, ShiftOut, Add, Subtract, Multiply, Divide, Remainder, Exponentiate, UnaryOp, Delete, Void, TypeOf, Positive, Negative, Complement, Not, UpdateOp, Increment, Decrement, ExpressionKind, Seq, Assign, OpAssign, Arrow, ArrowBlock, BareArrow, BareArrowBlock, Cond, Binary, Unary, PrefixUpdate, PostfixUpdate, Call, Member, Index, Tagged, New, NewWithoutArguments, SuperCall, SuperMember, SuperIndex, ImportCall, ImportMeta, NewTarget, Chain, NameLink, IndexLink, CallLink, Array, Object, Property, Shorthand, Spread, Parenthesized, PlainTemplate, SubstitutedTemplate, TemplateSpan, JsxKind, Element, ElementWithChildren, Fragment, NamespacedName, MemberName, Attribute, Container, EmptyContainer, JsxSpread, Kind, program, statement, function, expression, jsx}

pub data Nonterminal : Type 0 where
  -- an expression of this level or more: 0 a sequence, 1 an assignment or an arrow, 2 a conditional, 3 `??`, 4 `||` .. 14 `**`, 15 unary, 16 update, 17 calls and members, 18 primary
  Expr : ℕ → Nonterminal
  -- what a member, a call or a tagged template may be of
  MemberObject : Nonterminal
  SimpleTarget : Nonterminal
  Ident : Nonterminal
  BindingIdent : Nonterminal
  Name : Nonterminal
  StringOnly : Nonterminal
  Pat : Role → Nonterminal
  Slot : Role → Nonterminal
  PatProp : Role → Nonterminal
  -- the value of a pattern's property: a pattern with an initialiser or without, as a slot but never a hole or a rest
  PatElement : Role → Nonterminal
  Param : Nonterminal
  Declarators : Nonterminal
  Key : Nonterminal
  ClassMember : Nonterminal
  ObjectMember : Nonterminal
  Argument : Nonterminal
  ArrayItem : Nonterminal
  ChainLink : Nonterminal
  TemplateOf : Nonterminal
  TemplatePart : TokenKind → Nonterminal
  TemplateSpans : Bool → Nonterminal
  Stmt : Nonterminal
  SubStmt : Nonterminal
  Item : Nonterminal
  DirectiveOnly : Nonterminal
  Body : Nonterminal
  BlockOnly : Nonterminal
  CaseClause : Nonterminal
  CatchClause : Nonterminal
  Declaration : Nonterminal
  FunctionOnly : Nonterminal
  ClassOnly : Nonterminal
  ForInit : Nonterminal
  ForHead : Nonterminal
  ImportClause : Nonterminal
  ImportBindings : Nonterminal
  Specifiers : Side → Nonterminal
  TagName : Nonterminal
  Attributes : Nonterminal
  AttributeName : Nonterminal
  AttributeValue : Nonterminal
  Child : Nonterminal
  MemberRoot : Nonterminal
  MemberPart : Nonterminal
  JsxWord : Nonterminal
  WholeProgram : Nonterminal
  -- the left side of `??`, which is a `??` or has level 6, and a `??` as one: `a ?? b ?? c`, not `a || b ?? c`
  NullishLeft : Nonterminal
  NullishOnly : Nonterminal
  -- what `new` stands before, what a `.` stands behind, and the head of a `for`-`of`: as an expression of level 17, a `MemberObject` and a `ForHead`, with less
  NewCallee : Nonterminal
  DotObject : Nonterminal
  ForOfHead : Nonterminal
  -- the parameter of a setter
  SetterParam : Nonterminal

abbrev pub role : Role → ℕ
role Binds = 0
role Assigns = 1

abbrev pub side : Side → ℕ
side Imported = 0
side Exported = 1
side From = 2

abbrev pub truth : Bool → ℕ
truth false = 0
truth true = 1

-- a number for each nonterminal but for its level
abbrev pub number : Nonterminal → ℕ
number (Expr n) = 0
number MemberObject = 1
number SimpleTarget = 2
number Ident = 3
number BindingIdent = 4
number Name = 5
number StringOnly = 6
number (Pat Binds) = 7
number (Pat Assigns) = 8
number (Slot Binds) = 9
number (Slot Assigns) = 10
number (PatProp Binds) = 11
number (PatProp Assigns) = 12
number Param = 13
number Declarators = 14
number Key = 15
number ClassMember = 16
number ObjectMember = 17
number Argument = 18
number ArrayItem = 19
number ChainLink = 20
number TemplateOf = 21
number (TemplatePart NoSubstitution) = 22
number (TemplatePart TemplateHead) = 23
number (TemplatePart TemplateMiddle) = 24
number (TemplatePart TemplateTail) = 25
number (TemplatePart _) = 26
number (TemplateSpans false) = 27
number (TemplateSpans true) = 28
number Stmt = 29
number SubStmt = 30
number Item = 31
number DirectiveOnly = 32
number Body = 33
number BlockOnly = 34
number CaseClause = 35
number CatchClause = 36
number Declaration = 37
number FunctionOnly = 38
number ClassOnly = 39
number ForInit = 40
number ForHead = 41
number ImportClause = 42
number ImportBindings = 43
number (Specifiers Imported) = 44
number (Specifiers Exported) = 45
number (Specifiers From) = 46
number TagName = 47
number Attributes = 48
number AttributeName = 49
number AttributeValue = 50
number Child = 51
number MemberRoot = 52
number MemberPart = 53
number JsxWord = 54
number WholeProgram = 55
number NullishLeft = 56
number NullishOnly = 57
number NewCallee = 58
number DotObject = 59
number ForOfHead = 60
number SetterParam = 61
number (PatElement Binds) = 62
number (PatElement Assigns) = 63

abbrev pub floor : Nonterminal → ℕ
floor (Expr n) = n
floor _ = 0

-- whether a place of the first takes a home of the second: `Expr 12` takes what is at home in `Expr 17`
abbrev pub takes : Nonterminal → Nonterminal → Bool
takes c d = nat_eq (number c) (number d) && nat_le (floor c) (floor d)

abbrev pub in_list : Nonterminal → List Nonterminal → Bool
in_list c [] = false
in_list c (d ∷ ds) = takes c d || in_list c ds

abbrev pub in_homes : Nonterminal → List Nonterminal → Bool
in_homes NullishLeft ds = in_list (Expr 6) ds || in_list NullishOnly ds
in_homes NewCallee ds = in_list (Expr 17) ds
in_homes DotObject ds = in_list MemberObject ds
in_homes ForOfHead ds = in_list ForHead ds
in_homes c ds = in_list c ds

-- binary operators: their levels and texts (ECMA-262 sections 13.6 to 13.13)
abbrev pub level_of : BinaryOp → ℕ
level_of Nullish = 3
level_of Or = 4
level_of And = 5
level_of BitOr = 6
level_of BitXor = 7
level_of BitAnd = 8
level_of Equal = 9
level_of Unequal = 9
level_of StrictEqual = 9
level_of StrictUnequal = 9
level_of Less = 10
level_of Greater = 10
level_of AtMost = 10
level_of AtLeast = 10
level_of InOp = 10
level_of InstanceOf = 10
level_of ShiftLeft = 11
level_of ShiftRight = 11
level_of ShiftOut = 11
level_of Add = 12
level_of Subtract = 12
level_of Multiply = 13
level_of Divide = 13
level_of Remainder = 13
level_of Exponentiate = 14

abbrev pub binary : BinaryOp → Text
binary Nullish = codes "??"
binary Or = codes "||"
binary And = codes "&&"
binary BitOr = codes "|"
binary BitXor = codes "^"
binary BitAnd = codes "&"
binary Equal = codes "=="
binary Unequal = codes "!="
binary StrictEqual = codes "==="
binary StrictUnequal = codes "!=="
binary Less = codes "<"
binary Greater = codes ">"
binary AtMost = codes "<="
binary AtLeast = codes ">="
binary InOp = codes "in"
binary InstanceOf = codes "instanceof"
binary ShiftLeft = codes "<<"
binary ShiftRight = codes ">>"
binary ShiftOut = codes ">>>"
binary Add = codes "+"
binary Subtract = codes "-"
binary Multiply = codes "*"
binary Divide = codes "/"
binary Remainder = codes "%"
binary Exponentiate = codes "**"

-- the operators that have an assignment of their own
abbrev pub assigns : BinaryOp → Bool
assigns Equal = false
assigns Unequal = false
assigns StrictEqual = false
assigns StrictUnequal = false
assigns Less = false
assigns Greater = false
assigns AtMost = false
assigns AtLeast = false
assigns InOp = false
assigns InstanceOf = false
assigns _ = true

abbrev pub unary : UnaryOp → Text
unary Delete = codes "delete"
unary Void = codes "void"
unary TypeOf = codes "typeof"
unary Positive = codes "+"
unary Negative = codes "-"
unary Complement = codes "~"
unary Not = codes "!"

abbrev pub update : UpdateOp → Text
update Increment = codes "++"
update Decrement = codes "--"

-- the places of an expression of level n, as operand, argument, item, body ..
abbrev pub expr : ℕ → List Nonterminal
expr n = Expr n ∷ Argument ∷ ArrayItem ∷ ForInit ∷ []

-- what may be called or have members: not a chain, whose own links do that, and not `new F`, which would take the arguments
abbrev pub object : List Nonterminal
object = Expr 17 ∷ MemberObject ∷ Argument ∷ ArrayItem ∷ ForInit ∷ []

-- what may be assigned to besides
abbrev pub target : List Nonterminal
target = SimpleTarget ∷ Pat Assigns ∷ PatElement Assigns ∷ Slot Assigns ∷ ForHead ∷ object

abbrev pub primary : List Nonterminal
primary = Expr 18 ∷ MemberObject ∷ Argument ∷ ArrayItem ∷ ForInit ∷ []

abbrev pub statement_places : List Nonterminal
statement_places = SubStmt ∷ Stmt ∷ Item ∷ []

abbrev pub holder : Holder → List Nonterminal
holder InObject = ObjectMember ∷ []
holder InClass = ClassMember ∷ []
holder Static = ClassMember ∷ []

abbrev pub homes_of_program : ProgramKind → List Nonterminal
homes_of_program Module = WholeProgram ∷ []
homes_of_program Script = WholeProgram ∷ []
homes_of_program FunctionBody = Body ∷ []
homes_of_program Directive = DirectiveOnly ∷ []
homes_of_program ImportAll = ImportClause ∷ ImportBindings ∷ []
homes_of_program ImportList = ImportClause ∷ ImportBindings ∷ []
homes_of_program ImportBoth = ImportClause ∷ []
homes_of_program (Specifier s) = Specifiers s ∷ []
homes_of_program (SpecifierAs s) = Specifiers s ∷ []
homes_of_program _ = Item ∷ []

abbrev pub homes_of_statement : StatementKind → List Nonterminal
homes_of_statement Block = BlockOnly ∷ statement_places
homes_of_statement (Var VarWord) = Declaration ∷ statement_places
homes_of_statement (Var _) = Declaration ∷ Stmt ∷ Item ∷ []
homes_of_statement FunctionDecl = Declaration ∷ Stmt ∷ Item ∷ []
homes_of_statement ClassDecl = Declaration ∷ Stmt ∷ Item ∷ []
homes_of_statement Declarator = Declarators ∷ []
homes_of_statement (ForDeclaration v) = ForInit ∷ []
homes_of_statement (ForBinding v) = ForHead ∷ []
homes_of_statement Case = CaseClause ∷ []
homes_of_statement Default = CaseClause ∷ []
homes_of_statement Catch = CatchClause ∷ []
homes_of_statement _ = statement_places

abbrev pub homes_of_function : FunctionKind → List Nonterminal
homes_of_function FunctionExpr = FunctionOnly ∷ primary
homes_of_function ClassExpr = ClassOnly ∷ primary
homes_of_function (Method h) = holder h
homes_of_function (Getter h) = holder h
homes_of_function (Setter h) = holder h
homes_of_function (Field InObject) = []
homes_of_function (Field h) = ClassMember ∷ []
homes_of_function ComputedKey = Key ∷ []
homes_of_function (ArrayPat Binds) = SetterParam ∷ Pat Binds ∷ PatElement Binds ∷ Slot Binds ∷ Param ∷ []
homes_of_function (ObjectPat Binds) = SetterParam ∷ Pat Binds ∷ PatElement Binds ∷ Slot Binds ∷ Param ∷ []
homes_of_function (ArrayPat Assigns) = Pat Assigns ∷ PatElement Assigns ∷ Slot Assigns ∷ ForHead ∷ []
homes_of_function (ObjectPat Assigns) = Pat Assigns ∷ PatElement Assigns ∷ Slot Assigns ∷ ForHead ∷ []
homes_of_function (PropertyPat r) = PatProp r ∷ []
homes_of_function (ShorthandPat r) = PatProp r ∷ []
homes_of_function (ShorthandInit r) = PatProp r ∷ []
homes_of_function (WithInit Binds) = SetterParam ∷ PatElement Binds ∷ Slot Binds ∷ Param ∷ []
homes_of_function (WithInit Assigns) = PatElement Assigns ∷ Slot Assigns ∷ []
homes_of_function (RestPat Binds) = Slot Binds ∷ Param ∷ []
homes_of_function (RestPat Assigns) = Slot Assigns ∷ []
homes_of_function (RestProperty r) = PatProp r ∷ []
homes_of_function ParenTarget = SimpleTarget ∷ Pat Assigns ∷ PatElement Assigns ∷ Slot Assigns ∷ ForHead ∷ []

abbrev pub homes_of_expression : ExpressionKind → List Nonterminal
homes_of_expression Seq = Expr 0 ∷ ForInit ∷ []
homes_of_expression Assign = expr 1
homes_of_expression (OpAssign o) = cond (assigns o) (expr 1) []
homes_of_expression Arrow = expr 1
homes_of_expression ArrowBlock = expr 1
homes_of_expression BareArrow = expr 1
homes_of_expression BareArrowBlock = expr 1
homes_of_expression Cond = expr 2
homes_of_expression (Binary Nullish) = NullishOnly ∷ expr 3
homes_of_expression (Binary o) = expr (level_of o)
homes_of_expression (Unary o) = expr 15
homes_of_expression (PrefixUpdate o) = expr 16
homes_of_expression (PostfixUpdate o) = expr 16
homes_of_expression Call = object
homes_of_expression Member = target
homes_of_expression Index = target
homes_of_expression Tagged = object
homes_of_expression New = object
homes_of_expression NewWithoutArguments = expr 17
homes_of_expression SuperCall = object
homes_of_expression SuperMember = target
homes_of_expression SuperIndex = target
homes_of_expression ImportCall = object
homes_of_expression ImportMeta = object
homes_of_expression NewTarget = object
homes_of_expression Chain = expr 17
homes_of_expression (NameLink q) = ChainLink ∷ []
homes_of_expression (IndexLink q) = ChainLink ∷ []
homes_of_expression (CallLink q) = ChainLink ∷ []
homes_of_expression Array = primary
homes_of_expression Object = primary
homes_of_expression Property = ObjectMember ∷ []
homes_of_expression Shorthand = ObjectMember ∷ []
homes_of_expression Spread = Argument ∷ ArrayItem ∷ ObjectMember ∷ []
homes_of_expression Parenthesized = primary
homes_of_expression (PlainTemplate false) = primary
homes_of_expression (SubstitutedTemplate false) = primary
homes_of_expression (PlainTemplate true) = TemplateOf ∷ []
homes_of_expression (SubstitutedTemplate true) = TemplateOf ∷ []
homes_of_expression (TemplateSpan b) = TemplateSpans b ∷ []

abbrev pub homes_of_jsx : JsxKind → List Nonterminal
homes_of_jsx Element = AttributeValue ∷ Child ∷ primary
homes_of_jsx ElementWithChildren = AttributeValue ∷ Child ∷ primary
homes_of_jsx Fragment = AttributeValue ∷ Child ∷ primary
homes_of_jsx NamespacedName = TagName ∷ AttributeName ∷ []
homes_of_jsx MemberName = TagName ∷ []
homes_of_jsx Attribute = Attributes ∷ []
homes_of_jsx Container = AttributeValue ∷ Child ∷ []
homes_of_jsx EmptyContainer = Child ∷ []
homes_of_jsx JsxSpread = Attributes ∷ Child ∷ []

abbrev pub homes : Kind → List Nonterminal
homes (program k) = homes_of_program k
homes (statement k) = homes_of_statement k
homes (function k) = homes_of_function k
homes (expression k) = homes_of_expression k
homes (jsx k) = homes_of_jsx k

-- reserved words (ECMA-262 section 12.7.2), with those of strict code and modules, for scripts too
abbrev pub reserved : List Text
reserved =
    codes "break" ∷ codes "case" ∷ codes "catch" ∷ codes "class" ∷ codes "const" ∷ codes "continue" ∷ codes "debugger" ∷ codes "default" ∷ codes "delete" ∷ codes "do" ∷ codes "else" ∷ codes "enum" ∷ codes "export" ∷ codes "extends" ∷ codes "false" ∷ codes "finally" ∷ codes "for" ∷ codes "function" ∷ codes "if" ∷ codes "import" ∷ codes "in" ∷ codes "instanceof" ∷ codes "new" ∷ codes "null" ∷ codes "return" ∷ codes "super" ∷ codes "switch" ∷ codes "this" ∷ codes "throw" ∷ codes "true" ∷ codes "try" ∷ codes "typeof" ∷ codes "var" ∷ codes "void" ∷ codes "while" ∷ codes "with" ∷ codes "implements" ∷ codes "interface" ∷ codes "let" ∷ codes "package" ∷ codes "private" ∷ codes "protected" ∷ codes "public" ∷ codes "static" ∷ codes "yield" ∷ codes "await" ∷ []

abbrev pub is_ident : Text → Bool
is_ident t = not (among t reserved)

-- `eval` and `arguments` can be referred to, never bound or assigned (ECMA-262 section 13.1.1)
abbrev pub is_bound : Text → Bool
is_bound t = is_ident t && not (among t (codes "eval" ∷ codes "arguments" ∷ []))

-- the words that are expressions
abbrev pub is_value_word : Text → Bool
is_value_word t = is_ident t || among t (codes "this" ∷ codes "null" ∷ codes "true" ∷ codes "false" ∷ [])

abbrev pub has_dash : Text → Bool
has_dash [] = false
has_dash (c ∷ t) = nat_eq c 45 || has_dash t

-- where a word may stand
abbrev pub word_in : Nonterminal → Text → Bool
word_in (Expr n) t = nat_le n 18 && is_value_word t
word_in MemberObject t = is_value_word t
word_in NullishLeft t = is_value_word t
word_in NewCallee t = is_value_word t
word_in DotObject t = is_value_word t
word_in ForOfHead t = is_bound t && not (same t (codes "async"))
word_in Argument t = is_value_word t
word_in ArrayItem t = is_value_word t
word_in ForInit t = is_value_word t
word_in Ident t = is_ident t
word_in BindingIdent t = is_bound t
word_in SimpleTarget t = is_bound t
word_in (Pat r) t = is_bound t
word_in (PatElement r) t = is_bound t
word_in (Slot r) t = is_bound t
word_in Param t = is_bound t
word_in SetterParam t = is_bound t
word_in ForHead t = is_bound t
word_in ImportClause t = is_bound t
word_in Name t = true
word_in Key t = true
word_in _ t = false

-- where a literal may stand
abbrev pub literal_homes : TokenKind → List Nonterminal
literal_homes StringLiteral = StringOnly ∷ Key ∷ primary
literal_homes NumericLiteral = Key ∷ primary
literal_homes BigIntLiteral = Key ∷ primary
literal_homes RegExpLiteral = primary
literal_homes NoSubstitution = TemplatePart NoSubstitution ∷ []
literal_homes TemplateHead = TemplatePart TemplateHead ∷ []
literal_homes TemplateMiddle = TemplatePart TemplateMiddle ∷ []
literal_homes TemplateTail = TemplatePart TemplateTail ∷ []
literal_homes JsxName = TagName ∷ AttributeName ∷ JsxWord ∷ []
literal_homes JsxString = AttributeValue ∷ []
literal_homes JsxText = Child ∷ []
literal_homes Elision = ArrayItem ∷ Slot Binds ∷ Slot Assigns ∷ []
literal_homes _ = []

-- a member name has no dashes, and its root is `this` or not reserved: `<this.a/>`, not `<a.b-c/>` and not `<if.a/>`
abbrev pub jsx_name_in : Nonterminal → Text → Bool
jsx_name_in MemberRoot t = not (has_dash t) && (is_ident t || same t (codes "this"))
jsx_name_in MemberPart t = not (has_dash t)
jsx_name_in c t = in_homes c (literal_homes JsxName)

abbrev pub leaf_in : Nonterminal → TokenKind → Text → Bool
leaf_in c IdentifierName t = word_in c t
leaf_in c JsxName t = jsx_name_in c t
leaf_in c s t = in_homes c (literal_homes s)
