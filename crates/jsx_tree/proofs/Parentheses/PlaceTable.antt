-- Each row passes the tests of its places: computed for each kind, as in `RowTable`.
use Rattle.std.proofs.Common.{◌≡◌, true, refl}
use Rattle.std.proofs.lemmas.Bool.{and_parts}
use Rattle.std.specs.Prelude.{not, ◌||◌}
use Rattle.jsx_tree.specs.Kinds.{Kind, program, statement, function, expression, jsx, ArrayPat, Binary, Binds, Block, CallLink, Delete, Element, Field, ForBinding, ForDeclaration, FunctionExpr, Getter, Imported, InObject, Increment, IndexLink, Method, Module, NameLink, Nullish, ObjectPat, OpAssign, PlainTemplate, PostfixUpdate, PrefixUpdate, PropertyPat, RestPat, RestProperty, Seq, Setter, ShorthandInit, ShorthandPat, Specifier, SpecifierAs, SubstitutedTemplate, TemplateSpan, Unary, Var, VarWord, WithInit}
use Rattle.jsx_tree.specs.Grammar.{production}
use Rattle.jsx_tree.specs.Form.{positions}
use Rattle.jsx_tree.specs.StaticRules.{trails}
use Rattle.jsx_tree.proofs.ReadBack.RowChecks.{is_tail}
use Rattle.jsx_tree.proofs.Parentheses.PlaceTests.{last_shut, last_one, no_bodies, all_firm, knowns, is_for, no_inits, row_kept}

all_kept : (k : Kind) → row_kept k ≡ true
all_kept (program Module) = refl
all_kept (program (Specifier Imported)) = refl
all_kept (program (SpecifierAs Imported)) = refl
all_kept (statement Block) = refl
all_kept (statement (Var VarWord)) = refl
all_kept (statement (ForDeclaration VarWord)) = refl
all_kept (statement (ForBinding VarWord)) = refl
all_kept (function FunctionExpr) = refl
all_kept (function (Method InObject)) = refl
all_kept (function (Getter InObject)) = refl
all_kept (function (Setter InObject)) = refl
all_kept (function (Field InObject)) = refl
all_kept (function (ArrayPat Binds)) = refl
all_kept (function (ObjectPat Binds)) = refl
all_kept (function (PropertyPat Binds)) = refl
all_kept (function (ShorthandPat Binds)) = refl
all_kept (function (ShorthandInit Binds)) = refl
all_kept (function (WithInit Binds)) = refl
all_kept (function (RestPat Binds)) = refl
all_kept (function (RestProperty Binds)) = refl
all_kept (expression Seq) = refl
all_kept (expression (Binary Nullish)) = refl
all_kept (expression (OpAssign Nullish)) = refl
all_kept (expression (Unary Delete)) = refl
all_kept (expression (PrefixUpdate Increment)) = refl
all_kept (expression (PostfixUpdate Increment)) = refl
all_kept (expression (NameLink true)) = refl
all_kept (expression (IndexLink true)) = refl
all_kept (expression (CallLink true)) = refl
all_kept (expression (PlainTemplate true)) = refl
all_kept (expression (SubstitutedTemplate true)) = refl
all_kept (expression (TemplateSpan true)) = refl
all_kept (jsx Element) = refl
all_kept _ = refl

pub record RowKept (k : Kind) : Type 0 where
  pub shut_end : (is_tail k || (not (trails (production k)) || last_shut (positions k))) ≡ true
  pub one_end : (not (trails (production k)) || last_one (positions k)) ≡ true
  pub bodies : (no_bodies (positions k) || all_firm (positions k)) ≡ true
  pub contexts : knowns k (positions k) ≡ true
  pub inits : (is_for k || no_inits (positions k)) ≡ true

pub row_facts : (k : Kind) → RowKept k
row_facts k =
    let a = and_parts (is_tail k || (not (trails (production k)) || last_shut (positions k))) _ (all_kept k) in
    let b = and_parts (not (trails (production k)) || last_one (positions k)) _ a.1 in
    let c = and_parts (no_bodies (positions k) || all_firm (positions k)) _ b.1 in
    let d = and_parts (knowns k (positions k)) (is_for k || no_inits (positions k)) c.1 in
    record { shut_end = a.0; one_end = b.0; bodies = c.0; contexts = d.0; inits = d.1 }
