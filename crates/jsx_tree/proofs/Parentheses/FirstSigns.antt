-- What the rows begin with, and where tokens may not come first: computed for each kind, as in `RowTable`.
use Rattle.std.proofs.Common.{◌≡◌, List, [], ◌∷◌, Bool, true, false, refl}
use Rattle.std.specs.Prelude.{codes, ◌&&◌, ◌||◌, not}
use Rattle.jsx_base.specs.Token.{Text, Elision, among}
use Rattle.jsx_tree.specs.Signs.{Tok}
use Rattle.jsx_tree.specs.Kinds.{ArrayPat, Binary, Binds, Block, CallLink, Catch, Delete, Element, Field, ForBinding, ForDeclaration, FunctionBody, FunctionExpr, Getter, Imported, InObject, Increment, IndexLink, Kind, Method, Module, NameLink, Nullish, ObjectPat, OpAssign, PlainTemplate, PostfixUpdate, PrefixUpdate, PropertyPat, RestPat, RestProperty, Script, Seq, Setter, ShorthandInit, ShorthandPat, Specifier, SpecifierAs, SubstitutedTemplate, TemplateSpan, Unary, Var, VarWord, WithInit, expression, function, jsx, program, statement}
use Rattle.jsx_tree.specs.Nonterminals.{Nonterminal, Expr, DotObject, in_homes, homes, literal_homes}
use Rattle.jsx_tree.specs.Grammar.{TwoOrMore, Fixed, Part, Optional, Many, Within, Production, production}
use Rattle.jsx_tree.specs.Form.{Single, Several, Position, position, positions}
use Rattle.jsx_tree.specs.Sound.{lax}
use Rattle.jsx_tree.proofs.ReadBack.RowChecks.{is_none}
use Rattle.jsx_tree.proofs.Parentheses.EmptyStatements.{is_free}

-- the kinds that may begin with no token
abbrev pub is_open_kind : Kind → Bool
is_open_kind (program Module) = true
is_open_kind (program Script) = true
is_open_kind (program FunctionBody) = true
is_open_kind (statement Catch) = true
is_open_kind k = false

-- a place of what begins with a token
abbrev pub safe : Nonterminal → Bool
safe c = not (in_homes c (literal_homes Elision)) && ((not (in_homes c (homes (program Module))) && not (in_homes c (homes (program Script)))) && (not (in_homes c (homes (program FunctionBody))) && not (in_homes c (homes (statement Catch)))))

abbrev pub row_leads : Production → Bool
row_leads [] = false
row_leads (Fixed (Tok m s t) ∷ ps) = true
row_leads (Fixed m ∷ ps) = row_leads ps
row_leads (Within a ∷ ps) = row_leads ps
row_leads (Part c ∷ ps) = safe (lax c)
row_leads (Optional a c b r ∷ ps) = false
row_leads (Many TwoOrMore c ∷ ps) = safe (lax c)
row_leads (Many s c ∷ ps) = false

-- a row whose first token no part has
abbrev pub row_const : Production → Bool
row_const [] = true
row_const (Fixed (Tok m s t) ∷ ps) = true
row_const (Fixed m ∷ ps) = row_const ps
row_const (Within a ∷ ps) = row_const ps
row_const (Part c ∷ ps) = false
row_const (Optional a c b r ∷ ps) = true
row_const (Many TwoOrMore c ∷ ps) = false
row_const (Many s c ∷ ps) = true

abbrev pub firm_first : List Position → Bool
firm_first (position (Several s) c g b a ∷ ss) = not (is_free s)
firm_first ss = true

abbrev pub is_level : Nonterminal → Bool
is_level (Expr n) = true
is_level c = false

abbrev pub is_dot : Nonterminal → Bool
is_dot DotObject = true
is_dot c = false

abbrev pub guarded_at : Nonterminal → List Text → Bool
guarded_at c g = is_none g || (is_level c && (safe (lax c) && not (among (codes "(") g)))

abbrev pub guarded : List Position → Bool
guarded [] = true
guarded (position Single c g b a ∷ ss) = guarded_at c g && guarded ss
guarded (position f c g b a ∷ ss) = (is_none g && not (is_dot c)) && guarded ss

pub all_leads : (k : Kind) → ((is_open_kind k || row_leads (production k)) && ((firm_first (positions k) || row_const (production k)) && guarded (positions k))) ≡ true
all_leads (program Module) = refl
all_leads (program (Specifier Imported)) = refl
all_leads (program (SpecifierAs Imported)) = refl
all_leads (statement Block) = refl
all_leads (statement (Var VarWord)) = refl
all_leads (statement (ForDeclaration VarWord)) = refl
all_leads (statement (ForBinding VarWord)) = refl
all_leads (function FunctionExpr) = refl
all_leads (function (Method InObject)) = refl
all_leads (function (Getter InObject)) = refl
all_leads (function (Setter InObject)) = refl
all_leads (function (Field InObject)) = refl
all_leads (function (ArrayPat Binds)) = refl
all_leads (function (ObjectPat Binds)) = refl
all_leads (function (PropertyPat Binds)) = refl
all_leads (function (ShorthandPat Binds)) = refl
all_leads (function (ShorthandInit Binds)) = refl
all_leads (function (WithInit Binds)) = refl
all_leads (function (RestPat Binds)) = refl
all_leads (function (RestProperty Binds)) = refl
all_leads (expression Seq) = refl
all_leads (expression (Binary Nullish)) = refl
all_leads (expression (OpAssign Nullish)) = refl
all_leads (expression (Unary Delete)) = refl
all_leads (expression (PrefixUpdate Increment)) = refl
all_leads (expression (PostfixUpdate Increment)) = refl
all_leads (expression (NameLink true)) = refl
all_leads (expression (IndexLink true)) = refl
all_leads (expression (CallLink true)) = refl
all_leads (expression (PlainTemplate true)) = refl
all_leads (expression (SubstitutedTemplate true)) = refl
all_leads (expression (TemplateSpan true)) = refl
all_leads (jsx Element) = refl
all_leads _ = refl
