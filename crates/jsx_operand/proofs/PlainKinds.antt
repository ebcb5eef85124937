-- The rules of a kind of expression ask nothing of its parts but that parameters are plain, except for kinds with a rule of their own.
use Rattle.std.proofs.Common.{◌≡◌, true, false, refl}
use Rattle.std.specs.Prelude.{◌&&◌}
use Rattle.jsx_tree.specs.Kinds.{Imported, Exported, From, Specifier, SpecifierAs, Script, FunctionBody, FunctionExpr, ClassExpr, InObject, InClass, Static, Method, Getter, Setter, Field, SuperCall, SuperMember, SuperIndex, Binds, WithInit, RestPat, ArrayPat, ObjectPat, PropertyPat, ShorthandPat, ShorthandInit, RestProperty, Module, Var, ConstWord, Declarator, ExprStmt, Assigns, Arrow, BareArrow, BareArrowBlock, Assign, OpAssign, Delete, Void, TypeOf, Positive, Negative, Complement, Not, Unary, Binary, Cond, Call, Member, Index, New, NewWithoutArguments, ImportCall, Parenthesized, Element, Kind, program, statement, expression, jsx, Forest, PrefixUpdate, PostfixUpdate, Seq, Spread, Array, ComputedKey, function, TemplateSpan, Tagged}
use Rattle.jsx_tree.specs.Nonterminals.{homes}
use Rattle.jsx_tree.specs.StaticRules.{Surroundings, rule, stands, has_plain_params}
use Rattle.jsx_token.specs.Stage.{has_kind}
use Rattle.jsx_tree.proofs.Tokens.{and_both}
use Rattle.jsx_tree.proofs.Rows.Closers.{any_operand}
use Rattle.jsx_token.proofs.Levels.{is_ruled}

pub plain_kind : (k : Kind) (ts : Forest) (v : Surroundings) → is_ruled k ≡ false → has_kind k ≡ true → any_operand (homes k) ≡ true → has_plain_params ts ≡ true → (rule k ts && stands k ts v) ≡ true
plain_kind (expression Seq) ts v n h a p = and_both _ _ p refl
plain_kind (expression (Binary o)) ts v n h a p = and_both _ _ p refl
plain_kind (expression Assign) ts v n h a p = and_both _ _ p refl
plain_kind (expression (OpAssign o)) ts v n h a p = and_both _ _ p refl
plain_kind (expression Cond) ts v n h a p = and_both _ _ p refl
plain_kind (expression (Unary Delete)) ts v n h a p = cc
plain_kind (expression (Unary Void)) ts v n h a p = and_both _ _ p refl
plain_kind (expression (Unary TypeOf)) ts v n h a p = and_both _ _ p refl
plain_kind (expression (Unary Positive)) ts v n h a p = and_both _ _ p refl
plain_kind (expression (Unary Negative)) ts v n h a p = and_both _ _ p refl
plain_kind (expression (Unary Complement)) ts v n h a p = and_both _ _ p refl
plain_kind (expression (Unary Not)) ts v n h a p = and_both _ _ p refl
plain_kind (expression Call) ts v n h a p = and_both _ _ p refl
plain_kind (expression Member) ts v n h a p = and_both _ _ p refl
plain_kind (expression Index) ts v n h a p = and_both _ _ p refl
plain_kind (expression Tagged) ts v n h a p = and_both _ _ p refl
plain_kind (expression (PostfixUpdate o)) ts v n h a p = and_both _ _ p refl
plain_kind (expression (PrefixUpdate o)) ts v n h a p = and_both _ _ p refl
plain_kind (expression ImportCall) ts v n h a p = and_both _ _ p refl
plain_kind (expression New) ts v n h a p = and_both _ _ p refl
plain_kind (expression NewWithoutArguments) ts v n h a p = and_both _ _ p refl
plain_kind (expression Parenthesized) ts v n h a p = and_both _ _ p refl
plain_kind (expression Array) ts v n h a p = and_both _ _ p refl
plain_kind (expression Spread) ts v n h a p = and_both _ _ p refl
plain_kind (expression Arrow) ts v n h a p = and_both _ _ p refl
plain_kind (expression BareArrow) ts v n h a p = and_both _ _ p refl
plain_kind (expression BareArrowBlock) ts v n h a p = and_both _ _ p refl
plain_kind (function (ArrayPat Assigns)) ts v n h a p = and_both _ _ p refl
plain_kind (function (ObjectPat Assigns)) ts v n h a p = and_both _ _ p refl
plain_kind (jsx Element) ts v n h a p = and_both _ _ p refl
plain_kind (program Module) ts v n h a p = cc
plain_kind (program Script) ts v n h a p = cc
plain_kind (program FunctionBody) ts v n h a p = cc
plain_kind (program (Specifier Imported)) ts v n h a p = cc
plain_kind (program (Specifier Exported)) ts v n h a p = cc
plain_kind (program (Specifier From)) ts v n h a p = cc
plain_kind (program (SpecifierAs Imported)) ts v n h a p = cc
plain_kind (program (SpecifierAs Exported)) ts v n h a p = cc
plain_kind (program (SpecifierAs From)) ts v n h a p = cc
plain_kind (function FunctionExpr) ts v n h a p = cc
plain_kind (function ClassExpr) ts v n h a p = cc
plain_kind (function (Method InObject)) ts v n h a p = cc
plain_kind (function (Method InClass)) ts v n h a p = cc
plain_kind (function (Method Static)) ts v n h a p = cc
plain_kind (function (Getter InObject)) ts v n h a p = cc
plain_kind (function (Getter InClass)) ts v n h a p = cc
plain_kind (function (Getter Static)) ts v n h a p = cc
plain_kind (function (Setter InObject)) ts v n h a p = cc
plain_kind (function (Setter InClass)) ts v n h a p = cc
plain_kind (function (Setter Static)) ts v n h a p = cc
plain_kind (function (Field InObject)) ts v n h a p = cc
plain_kind (function (Field InClass)) ts v n h a p = cc
plain_kind (function (Field Static)) ts v n h a p = cc
plain_kind (expression SuperCall) ts v n h a p = cc
plain_kind (expression SuperMember) ts v n h a p = cc
plain_kind (expression SuperIndex) ts v n h a p = cc
plain_kind (function (WithInit Binds)) ts v n h a p = cc
plain_kind (function (RestPat Binds)) ts v n h a p = cc
plain_kind (function (ArrayPat Binds)) ts v n h a p = cc
plain_kind (function (ObjectPat Binds)) ts v n h a p = cc
plain_kind (function (PropertyPat Binds)) ts v n h a p = cc
plain_kind (function (ShorthandPat Binds)) ts v n h a p = cc
plain_kind (function (ShorthandInit Binds)) ts v n h a p = cc
plain_kind (function (RestProperty Binds)) ts v n h a p = cc
plain_kind (function (WithInit Assigns)) ts v n h a p = cc
plain_kind (function (RestPat Assigns)) ts v n h a p = cc
plain_kind (function (PropertyPat Assigns)) ts v n h a p = cc
plain_kind (function (ShorthandPat Assigns)) ts v n h a p = cc
plain_kind (function (ShorthandInit Assigns)) ts v n h a p = cc
plain_kind (function (RestProperty Assigns)) ts v n h a p = cc
plain_kind (function ComputedKey) ts v n h a p = cc
plain_kind (statement ExprStmt) ts v n h a p = cc
plain_kind (statement Declarator) ts v n h a p = cc
plain_kind (statement (Var ConstWord)) ts v n h a p = cc
plain_kind (expression (TemplateSpan true)) ts v n h a p = cc
plain_kind (expression (TemplateSpan false)) ts v n h a p = cc
plain_kind _ ts v n h a p = cc
