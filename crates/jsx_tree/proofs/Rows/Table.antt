-- The rows that are guarded, by computation.
use Rattle.std.proofs.Common.{cond, ◌≡◌, Bool, true, false, not, List, [], ◌∷◌, refl}
use Rattle.std.specs.Prelude.{◌&&◌}
use Rattle.jsx_tree.specs.Kinds.{Kind, VarWord, LetWord, ConstWord, Imported, Exported, From, Specifier, SpecifierAs, Var, InObject, InClass, Static, Binds, Assigns, Method, Getter, Setter, Field, ArrayPat, ObjectPat, PropertyPat, ShorthandPat, ShorthandInit, WithInit, RestPat, RestProperty, Nullish, Equal, Delete, Seq, OpAssign, Binary, Unary, PlainTemplate, SubstitutedTemplate, TemplateSpan, Element, program, statement, function, expression, jsx, Call, Member, Index, Tagged, Chain, NameLink, IndexLink, CallLink, PostfixUpdate, Increment, Decrement}
use Rattle.jsx_tree.specs.Nonterminals.{Nonterminal, Expr, SimpleTarget, Pat, Slot, PatProp, PatElement, Param, Declarators, Key, ClassMember, ObjectMember, Argument, ArrayItem, ChainLink, TemplateOf, TemplateSpans, Stmt, SubStmt, Item, DirectiveOnly, Body, BlockOnly, CaseClause, CatchClause, Declaration, ClassOnly, ForInit, ForHead, ImportClause, ImportBindings, Specifiers, TagName, Attributes, AttributeName, AttributeValue, Child, WholeProgram, NewCallee, ForOfHead, SetterParam, in_homes, homes}
use Rattle.jsx_tree.specs.Walk.{row, tail}
use Rattle.jsx_tree.proofs.Rows.Guarded.{guarded}

-- what the rows ask
abbrev asked : List Nonterminal
asked =
    Expr 0 ∷ Expr 1 ∷ Expr 3 ∷ Expr 4 ∷ Expr 5 ∷ Expr 6 ∷ Expr 7 ∷ Expr 8 ∷ Expr 9 ∷ Expr 10 ∷ Expr 11 ∷ Expr 14 ∷ Expr 18 ∷ Expr 12 ∷ Expr 13 ∷ Expr 15 ∷ Expr 16 ∷ Expr 17 ∷ SimpleTarget ∷ Pat Binds ∷ Pat Assigns ∷ Slot Binds ∷ Slot Assigns ∷ PatProp Binds ∷ PatProp Assigns ∷ PatElement Binds ∷ PatElement Assigns ∷ Param ∷ Declarators ∷ Key ∷ ClassMember ∷ ObjectMember ∷ Argument ∷ ArrayItem
    ∷ ChainLink ∷ TemplateOf ∷ TemplateSpans true ∷ TemplateSpans false ∷ Stmt ∷ SubStmt ∷ Item ∷ DirectiveOnly ∷ Body ∷ BlockOnly ∷ CaseClause ∷ CatchClause ∷ Declaration ∷ ClassOnly ∷ ForInit ∷ ForHead ∷ ImportClause ∷ ImportBindings ∷ Specifiers Imported ∷ Specifiers Exported ∷ Specifiers From
    ∷ TagName ∷ Attributes ∷ AttributeName ∷ AttributeValue ∷ Child ∷ WholeProgram ∷ NewCallee ∷ ForOfHead ∷ SetterParam ∷ []

abbrev keep_if : Bool → Nonterminal → List Nonterminal → List Nonterminal
keep_if true c cs = c ∷ cs
keep_if false c cs = cs

abbrev places : List Nonterminal → Kind → List Nonterminal
places [] k = []
places (c ∷ cs) k = keep_if (in_homes c (homes k) && not (guarded c (row false k))) c (places cs k)

-- those that grow to the right of an expression, without that one
abbrev tails : List Nonterminal → Kind → List Nonterminal
tails [] k = []
tails (c ∷ cs) k = keep_if (in_homes c (homes k) && not (guarded c (tail (row false k)))) c (tails cs k)

abbrev is_none : List Nonterminal → Bool
is_none [] = true
is_none (c ∷ cs) = false

-- growths to the right of an expression that the parser's loop reads
abbrev pub is_growth : Kind → Bool
is_growth (expression (Binary o)) = true
is_growth (expression Call) = true
is_growth (expression Member) = true
is_growth (expression Index) = true
is_growth (expression Tagged) = true
is_growth (expression Chain) = true
is_growth k = false

abbrev safe : Kind → Bool
safe k = cond (is_growth k) (is_none (tails asked k)) (is_none (places asked k))

-- every row is guarded wherever a row asks for its kind; of a growth, what stands behind its first part
all_safe : (k : Kind) → safe k ≡ true
all_safe (program (Specifier Imported)) = refl
all_safe (program (Specifier Exported)) = refl
all_safe (program (Specifier From)) = refl
all_safe (program (SpecifierAs Imported)) = refl
all_safe (program (SpecifierAs Exported)) = refl
all_safe (program (SpecifierAs From)) = refl
all_safe (program _) = refl
all_safe (statement (Var VarWord)) = refl
all_safe (statement (Var LetWord)) = refl
all_safe (statement (Var ConstWord)) = refl
all_safe (statement _) = refl
all_safe (function (Method InObject)) = refl
all_safe (function (Method InClass)) = refl
all_safe (function (Method Static)) = refl
all_safe (function (Getter InObject)) = refl
all_safe (function (Getter InClass)) = refl
all_safe (function (Getter Static)) = refl
all_safe (function (Setter InObject)) = refl
all_safe (function (Setter InClass)) = refl
all_safe (function (Setter Static)) = refl
all_safe (function (Field InObject)) = refl
all_safe (function (Field InClass)) = refl
all_safe (function (Field Static)) = refl
all_safe (function (ArrayPat Binds)) = refl
all_safe (function (ArrayPat Assigns)) = refl
all_safe (function (ObjectPat Binds)) = refl
all_safe (function (ObjectPat Assigns)) = refl
all_safe (function (PropertyPat Binds)) = refl
all_safe (function (PropertyPat Assigns)) = refl
all_safe (function (ShorthandPat Binds)) = refl
all_safe (function (ShorthandPat Assigns)) = refl
all_safe (function (ShorthandInit Binds)) = refl
all_safe (function (ShorthandInit Assigns)) = refl
all_safe (function (WithInit Binds)) = refl
all_safe (function (WithInit Assigns)) = refl
all_safe (function (RestPat Binds)) = refl
all_safe (function (RestPat Assigns)) = refl
all_safe (function (RestProperty Binds)) = refl
all_safe (function (RestProperty Assigns)) = refl
all_safe (function _) = refl
all_safe (expression (OpAssign Equal)) = refl
all_safe (expression (OpAssign _)) = refl
all_safe (expression (Binary Nullish)) = refl
all_safe (expression (Binary _)) = refl
all_safe (expression (Unary Delete)) = refl
all_safe (expression (Unary _)) = refl
all_safe (expression (PlainTemplate true)) = refl
all_safe (expression (PlainTemplate false)) = refl
all_safe (expression (SubstitutedTemplate true)) = refl
all_safe (expression (SubstitutedTemplate false)) = refl
all_safe (expression (TemplateSpan true)) = refl
all_safe (expression (TemplateSpan false)) = refl
all_safe (expression (PostfixUpdate Increment)) = refl
all_safe (expression (PostfixUpdate Decrement)) = refl
all_safe (expression (NameLink true)) = refl
all_safe (expression (NameLink false)) = refl
all_safe (expression (IndexLink true)) = refl
all_safe (expression (IndexLink false)) = refl
all_safe (expression (CallLink true)) = refl
all_safe (expression (CallLink false)) = refl
all_safe (expression Seq) = refl
all_safe (expression _) = refl
all_safe (jsx Element) = refl
all_safe (jsx _) = refl
