-- Where pairs stand, and what else may stand there; and which places only JSX has: computed for each place and kind, as in `RowTable`.
use Rattle.std.proofs.Common.{◌≡◌, List, [], ◌∷◌, Bool, true, false, refl}
use Rattle.std.proofs.lemmas.Bool.{and_parts, false≢true}
use Rattle.std.specs.Prelude.{not, ◌&&◌, ◌||◌}
use Rattle.jsx_base.specs.Token.{NoSubstitution, TemplateHead, TemplateMiddle, TemplateTail, JsxName, JsxString, JsxText, Punctuator}
use Rattle.jsx_tree.specs.Kinds.{Kind, program, statement, function, expression, jsx, ArrayPat, Assigns, Binary, Binds, Block, CallLink, Delete, Element, Exported, Field, ForBinding, ForDeclaration, From, FunctionExpr, Getter, Imported, InObject, Increment, IndexLink, Method, Module, NameLink, Nullish, ObjectPat, OpAssign, ParenTarget, Parenthesized, PlainTemplate, PostfixUpdate, PrefixUpdate, PropertyPat, RestPat, RestProperty, Seq, Setter, ShorthandInit, ShorthandPat, Specifier, SpecifierAs, SubstitutedTemplate, TemplateSpan, Unary, Var, VarWord, WithInit}
use Rattle.jsx_tree.specs.Nonterminals.{Nonterminal, SimpleTarget, Pat, PatElement, PatProp, Slot, TemplatePart, TemplateSpans, Specifiers, ForHead, ForOfHead, MemberRoot, MemberPart, in_homes, homes, literal_homes}
use Rattle.jsx_tree.specs.Form.{Position, position, positions}
use Rattle.jsx_tree.specs.Parentheses.{asks}
use Rattle.jsx_tree.specs.Sound.{lax, is_no_jsx}

-- the places of targets
abbrev pub is_target : Nonterminal → Bool
is_target SimpleTarget = true
is_target (Pat Assigns) = true
is_target (PatElement Assigns) = true
is_target (Slot Assigns) = true
is_target ForHead = true
is_target ForOfHead = true
is_target c = false

-- a pair of an expression stands only where an expression is asked, a pair of a target only at the places of targets
abbrev place_pairs : Nonterminal → Bool
place_pairs c = (asks c || not (in_homes (lax c) (homes (expression Parenthesized)))) && (is_target c || not (in_homes (lax c) (homes (function ParenTarget))))

all_places : (c : Nonterminal) → place_pairs c ≡ true
all_places (TemplatePart NoSubstitution) = refl
all_places (TemplatePart TemplateHead) = refl
all_places (TemplatePart TemplateMiddle) = refl
all_places (TemplatePart TemplateTail) = refl
all_places (TemplatePart s) = refl
all_places (Pat Binds) = refl
all_places (Pat Assigns) = refl
all_places (Slot Binds) = refl
all_places (Slot Assigns) = refl
all_places (PatProp Binds) = refl
all_places (PatProp Assigns) = refl
all_places (PatElement Binds) = refl
all_places (PatElement Assigns) = refl
all_places (TemplateSpans true) = refl
all_places (TemplateSpans false) = refl
all_places (Specifiers Imported) = refl
all_places (Specifiers Exported) = refl
all_places (Specifiers From) = refl
all_places _ = refl

pub record PlacePairs (c : Nonterminal) : Type 0 where
  pub expressions : (asks c || not (in_homes (lax c) (homes (expression Parenthesized)))) ≡ true
  pub targets : (is_target c || not (in_homes (lax c) (homes (function ParenTarget)))) ≡ true

pub place_facts : (c : Nonterminal) → PlacePairs c
place_facts c = let p = and_parts (asks c || not (in_homes (lax c) (homes (expression Parenthesized)))) _ (all_places c) in record { expressions = p.0; targets = p.1 }

-- what is a target stands at each place of targets
abbrev pub spreads : Kind → Bool
spreads k = in_homes (Pat Assigns) (homes k) && (in_homes (PatElement Assigns) (homes k) && (in_homes (Slot Assigns) (homes k) && in_homes ForHead (homes k)))

abbrev pub is_member_place : Nonterminal → Bool
is_member_place MemberRoot = true
is_member_place MemberPart = true
is_member_place c = false

-- a place where no leaf of JSX stands, nor one that no production has, and an element only as an expression
abbrev pub is_code : Nonterminal → Bool
is_code c =
    not (is_member_place c) && (not (in_homes c (literal_homes JsxName)) && (not (in_homes c (literal_homes JsxString)) && (not (in_homes c (literal_homes JsxText)) && (not (in_homes c (literal_homes Punctuator))
    && (asks c || not (in_homes c (homes (jsx Element))))))))

abbrev pub all_code : List Position → Bool
all_code [] = true
all_code (position f c g b a ∷ ss) = is_code c && all_code ss

abbrev kind_unwraps : Kind → Bool
kind_unwraps k = (not (in_homes SimpleTarget (homes k)) || spreads k) && (not (is_no_jsx k) || all_code (positions k))

all_unwrap : (k : Kind) → kind_unwraps k ≡ true
all_unwrap (program Module) = refl
all_unwrap (program (Specifier Imported)) = refl
all_unwrap (program (SpecifierAs Imported)) = refl
all_unwrap (statement Block) = refl
all_unwrap (statement (Var VarWord)) = refl
all_unwrap (statement (ForDeclaration VarWord)) = refl
all_unwrap (statement (ForBinding VarWord)) = refl
all_unwrap (function FunctionExpr) = refl
all_unwrap (function (Method InObject)) = refl
all_unwrap (function (Getter InObject)) = refl
all_unwrap (function (Setter InObject)) = refl
all_unwrap (function (Field InObject)) = refl
all_unwrap (function (ArrayPat Binds)) = refl
all_unwrap (function (ObjectPat Binds)) = refl
all_unwrap (function (PropertyPat Binds)) = refl
all_unwrap (function (ShorthandPat Binds)) = refl
all_unwrap (function (ShorthandInit Binds)) = refl
all_unwrap (function (WithInit Binds)) = refl
all_unwrap (function (RestPat Binds)) = refl
all_unwrap (function (RestProperty Binds)) = refl
all_unwrap (expression Seq) = refl
all_unwrap (expression (Binary Nullish)) = refl
all_unwrap (expression (OpAssign Nullish)) = refl
all_unwrap (expression (Unary Delete)) = refl
all_unwrap (expression (PrefixUpdate Increment)) = refl
all_unwrap (expression (PostfixUpdate Increment)) = refl
all_unwrap (expression (NameLink true)) = refl
all_unwrap (expression (IndexLink true)) = refl
all_unwrap (expression (CallLink true)) = refl
all_unwrap (expression (PlainTemplate true)) = refl
all_unwrap (expression (SubstitutedTemplate true)) = refl
all_unwrap (expression (TemplateSpan true)) = refl
all_unwrap (jsx Element) = refl
all_unwrap _ = refl

pub record KindUnwraps (k : Kind) : Type 0 where
  pub targets : (not (in_homes SimpleTarget (homes k)) || spreads k) ≡ true
  pub code : (not (is_no_jsx k) || all_code (positions k)) ≡ true

pub kind_unwrapped : (k : Kind) → KindUnwraps k
kind_unwrapped k = let p = and_parts (not (in_homes SimpleTarget (homes k)) || spreads k) _ (all_unwrap k) in record { targets = p.0; code = p.1 }

pub if_so : (a b : Bool) → (not a || b) ≡ true → a ≡ true → b ≡ true
if_so true b h p = h
if_so false b h p = absurd (false≢true p)
