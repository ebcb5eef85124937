-- Lists from which empty statements may be dropped, and that no kind is a name that is bound: computed for each kind, as in `RowTable`.
use Rattle.std.proofs.Common.{◌≡◌, List, [], ◌∷◌, Bool, true, false, refl}
use Rattle.std.specs.Prelude.{◌&&◌, ◌||◌, not}
use Rattle.jsx_tree.specs.Kinds.{ArrayPat, Binary, Binds, Block, CallLink, Delete, Element, Empty, Field, ForBinding, ForDeclaration, FunctionExpr, Getter, Imported, InObject, Increment, IndexLink, Kind, Method, Module, NameLink, Nullish, ObjectPat, OpAssign, PlainTemplate, PostfixUpdate, PrefixUpdate, PropertyPat, RestPat, RestProperty, Seq, Setter, ShorthandInit, ShorthandPat, Specifier, SpecifierAs, SubstitutedTemplate, TemplateSpan, Unary, Var, VarWord, WithInit, expression, function, jsx, program, statement}
use Rattle.jsx_tree.specs.Nonterminals.{Nonterminal, BindingIdent, in_homes, homes}
use Rattle.jsx_tree.specs.Grammar.{ListShape, NoTrailing, TwoOrMore, OneOrMore, Dotted}
use Rattle.jsx_tree.specs.Form.{Form, Several, Position, position, positions}

-- lists that ask no items
abbrev pub is_free : ListShape → Bool
is_free NoTrailing = false
is_free TwoOrMore = false
is_free OneOrMore = false
is_free Dotted = false
is_free s = true

abbrev pub may_drop : Form → Nonterminal → Bool
may_drop (Several s) c = is_free s || not (in_homes c (homes (statement Empty)))
may_drop f c = true

abbrev pub drops : List Position → Bool
drops [] = true
drops (position f c g b a ∷ ss) = may_drop f c && drops ss

pub all_drops : (k : Kind) → (drops (positions k) && not (in_homes BindingIdent (homes k))) ≡ true
all_drops (program Module) = refl
all_drops (program (Specifier Imported)) = refl
all_drops (program (SpecifierAs Imported)) = refl
all_drops (statement Block) = refl
all_drops (statement (Var VarWord)) = refl
all_drops (statement (ForDeclaration VarWord)) = refl
all_drops (statement (ForBinding VarWord)) = refl
all_drops (function FunctionExpr) = refl
all_drops (function (Method InObject)) = refl
all_drops (function (Getter InObject)) = refl
all_drops (function (Setter InObject)) = refl
all_drops (function (Field InObject)) = refl
all_drops (function (ArrayPat Binds)) = refl
all_drops (function (ObjectPat Binds)) = refl
all_drops (function (PropertyPat Binds)) = refl
all_drops (function (ShorthandPat Binds)) = refl
all_drops (function (ShorthandInit Binds)) = refl
all_drops (function (WithInit Binds)) = refl
all_drops (function (RestPat Binds)) = refl
all_drops (function (RestProperty Binds)) = refl
all_drops (expression Seq) = refl
all_drops (expression (Binary Nullish)) = refl
all_drops (expression (OpAssign Nullish)) = refl
all_drops (expression (Unary Delete)) = refl
all_drops (expression (PrefixUpdate Increment)) = refl
all_drops (expression (PostfixUpdate Increment)) = refl
all_drops (expression (NameLink true)) = refl
all_drops (expression (IndexLink true)) = refl
all_drops (expression (CallLink true)) = refl
all_drops (expression (PlainTemplate true)) = refl
all_drops (expression (SubstitutedTemplate true)) = refl
all_drops (expression (TemplateSpan true)) = refl
all_drops (jsx Element) = refl
all_drops _ = refl
