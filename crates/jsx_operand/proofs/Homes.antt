-- Which trees of the language so far stand where.
use Rattle.std.proofs.Common.{◌≡◌, Bool, true, false, not, refl, sym, ◌∙◌, ap, subst, arith}
use Rattle.std.specs.Prelude.{IsTrue, codes, [], ◌∷◌, ◌&&◌, ◌||◌}
use Rattle.jsx_base.specs.Token.{Text, Operator, TokenKind, IdentifierName, NumericLiteral, BigIntLiteral, StringLiteral, NoSubstitution, TemplateHead, TemplateMiddle, TemplateTail, JsxName, Elision, RegExpLiteral, among}
use Rattle.jsx_tree.specs.Signs.{Tok}
use Rattle.jsx_tree.specs.Kinds.{VarWord, LetWord, ConstWord, FunctionBody, ImportBare, Import, ImportAll, ImportList, ImportBoth, Specifier, SpecifierAs, ExportNames, ExportFrom, ExportAll, ExportAllAs, ExportDecl, ExportDefaultFn, ExportDefaultExpr, Return, FunctionDecl, FunctionExpr, WithInit, RestPat, ArrayPat, ObjectPat, PropertyPat, ShorthandPat, ShorthandInit, RestProperty, Block, Empty, If, Do, While, Continue, Break, Label, Throw, Debugger, Module, Directive, Var, Declarator, ExprStmt, Binds, Assigns, Assign, OpAssign, Nullish, Or, And, BitOr, BitXor, BitAnd, ShiftLeft, ShiftRight, ShiftOut, Add, Subtract, Multiply, Divide, Remainder, Exponentiate, Void, TypeOf, Positive, Negative, Complement, Not, Unary, Binary, Cond, Call, Member, Index, ImportCall, Parenthesized, Element, Kind, program, statement, expression, jsx, Tree, leaf, node, list, Forest, Delete, PrefixUpdate, PostfixUpdate, Increment, Decrement, Seq, For, ForDeclaration, Switch, Case, Default, Array, Spread, Try, Catch, Object, Property, Shorthand, ComputedKey, function, New, NewWithoutArguments, NewTarget, ImportMeta, ForIn, ForOf, ForBinding, PlainTemplate, SubstitutedTemplate, TemplateSpan, Tagged, Chain, NameLink, IndexLink, CallLink, ParenTarget, ExportDefaultClass, ClassDecl, ClassExpr, InClass, Static, Method, Getter, Setter, Field, SuperCall, SuperMember, SuperIndex, Arrow, ArrowBlock, BareArrow, BareArrowBlock, Script}
use Rattle.jsx_tree.specs.Nonterminals.{Nonterminal, Expr, NullishLeft, MemberObject, DotObject, SimpleTarget, Argument, Ident, BindingIdent, Param, Name, StringOnly, Pat, PatElement, Slot, TagName, Attributes, is_ident, is_bound, is_value_word, leaf_in, homes, takes, ForOfHead, NewCallee, TemplatePart}
use Rattle.jsx_tree.specs.Grammar.{Part}
use Rattle.jsx_tree.specs.Form.{admits, fits_below, is_leaf}
use Rattle.jsx_tree.specs.Spelling.{mode_of, spelled}
use Rattle.jsx_tree.specs.Reading.{Place, Lost, forth, scan}
use Rattle.jsx_tree.specs.StaticRules.{Surroundings}
use Rattle.jsx_token.specs.Stage.{has_kind, leaf_at, value_leaf}
use Rattle.jsx_tree.specs.Walk.{is_found, Given, one, Past, tree}
use Rattle.jsx_tree.specs.Language.{Whole}
use Rattle.jsx_tree.specs.Answers.{Only, Barred}
use Rattle.jsx_operand.specs.SoFar.{Staged, so_far}
use Rattle.jsx_tree.specs.Grows.{is_operand, is_aim}
use Rattle.jsx_tree.proofs.Tokens.{and_left, and_right, and_both, one_text}
use Rattle.jsx_tree.proofs.Apart.{clash}
use Rattle.jsx_tree.proofs.Rows.Bridge.{found_at}
use Rattle.jsx_tree.proofs.Rows.Texts.{has_token, leaf_read}
use Rattle.jsx_tree.proofs.Rows.Stopping.{is_never, never_stops, is_not, or_cases}
use Rattle.jsx_tree.proofs.Rows.Firsts.{kind_home}
use Rattle.jsx_tree.proofs.Rows.Closers.{any_operand, homes_operand}
use Rattle.jsx_operand.proofs.OfSoFar.{of_so_far}
use Rattle.jsx_tree.specs.declared.text.DeclareWord.TheVariants as declare_word
use Rattle.jsx_tree.specs.Faults.{Fault, Shallow, given_depth, Below, part_depth}
use Rattle.jsx_tree.proofs.Depth.Shallow.{below_shallow}
use Rattle.jsx_token.specs.declared.heading.Heading.{Heading}
use Rattle.jsx_token.specs.declared.heading.Heading.TheVariants as heading
use Rattle.jsx_token.specs.Headings.{Begins, own, over_keys, over_items}
use Rattle.jsx_token.proofs.Headings.{every_begun, of_begun}
use Rattle.jsx_operand.proofs.Inners.{Inner, import_bare, import_from, export_names, export_from, export_all, export_all_as, export_declared, export_function, export_value, script, function_body, with_init, rest_part, array_pattern, object_pattern, pair_pattern, short_pattern, short_default, rest_property, import_all, import_list, import_both, specifier, specifier_as, portal, directive, declarator, declaration, binding, case', default', inner_kind, every_inner, of_inner, catch', property, shorthand, computed, span, tagged_plain, tagged_substituted, name_link, index_link, call_link, export_class, method, getter, setter, field, static_field}
use Rattle.jsx_token.proofs.Listed.{Listed, listed, listed_binary, kinds, every, of_each}
use Rattle.jsx_token.proofs.Lives.{is_lone, is_single, lives}

-- the kinds: those of expressions, and the others
pub data Taken : Kind → Type 0 where
  module' : Taken (program Module)
  headed : {h : Heading} {k : Kind} → Begins h k → Taken k
  inner : (i : Inner) → Taken (inner_kind i)
  evaluation : Taken (statement ExprStmt)
  labelled : Taken (statement Label)
  sequence : Taken (expression Seq)
  spread : Taken (expression Spread)
  aimed : Taken (function ParenTarget)
  operand : {k : Kind} → Listed k → Taken k

pub taken : (k : Kind) → has_kind k ≡ true → Taken k
taken (program Module) h = module'
taken (program Directive) h = inner directive
taken (program Script) h = inner script
taken (program FunctionBody) h = inner function_body
taken (program ImportBare) h = inner (portal import_bare)
taken (program Import) h = inner (portal import_from)
taken (program ImportAll) h = inner import_all
taken (program ImportList) h = inner import_list
taken (program ImportBoth) h = inner import_both
taken (program (Specifier s)) h = inner (specifier s)
taken (program (SpecifierAs s)) h = inner (specifier_as s)
taken (program ExportNames) h = inner (portal export_names)
taken (program ExportFrom) h = inner (portal export_from)
taken (program ExportAll) h = inner (portal export_all)
taken (program ExportAllAs) h = inner (portal export_all_as)
taken (program ExportDecl) h = inner (portal export_declared)
taken (program ExportDefaultFn) h = inner (portal export_function)
taken (program ExportDefaultClass) h = inner (portal export_class)
taken (program ExportDefaultExpr) h = inner (portal export_value)
taken (statement (Var VarWord)) h = headed (own (heading.Var declare_word.Var))
taken (statement (Var LetWord)) h = headed (own (heading.Var declare_word.Let))
taken (statement (Var ConstWord)) h = headed (own (heading.Var declare_word.Const))
taken (statement Block) h = headed (own heading.Block)
taken (statement Empty) h = headed (own heading.Empty)
taken (statement If) h = headed (own heading.If)
taken (statement Do) h = headed (own heading.Do)
taken (statement While) h = headed (own heading.While)
taken (statement For) h = headed (own heading.For)
taken (statement ForIn) h = headed over_keys
taken (statement ForOf) h = headed over_items
taken (statement Switch) h = headed (own heading.Switch)
taken (statement Continue) h = headed (own heading.Continue)
taken (statement Break) h = headed (own heading.Break)
taken (statement Throw) h = headed (own heading.Throw)
taken (statement Try) h = headed (own heading.Try)
taken (statement Debugger) h = headed (own heading.Debugger)
taken (statement Return) h = headed (own heading.Return)
taken (statement FunctionDecl) h = headed (own heading.Function)
taken (statement ClassDecl) h = headed (own heading.Class)
taken (statement Declarator) h = inner declarator
taken (statement (ForDeclaration w)) h = inner (declaration w)
taken (statement (ForBinding w)) h = inner (binding w)
taken (statement Case) h = inner case'
taken (statement Default) h = inner default'
taken (statement Catch) h = inner catch'
taken (statement ExprStmt) h = evaluation
taken (statement Label) h = labelled
taken (expression Seq) h = sequence
taken (expression Spread) h = spread
taken (function ParenTarget) h = aimed
taken (function FunctionExpr) h = operand (listed (function FunctionExpr) refl refl refl)
taken (function ClassExpr) h = operand (listed (function ClassExpr) refl refl refl)
taken (function (Method o)) h = inner (method o)
taken (function (Getter o)) h = inner (getter o)
taken (function (Setter o)) h = inner (setter o)
taken (function (Field InClass)) h = inner field
taken (function (Field Static)) h = inner static_field
taken (expression SuperCall) h = operand (listed (expression SuperCall) refl refl refl)
taken (expression SuperMember) h = operand (listed (expression SuperMember) refl refl refl)
taken (expression SuperIndex) h = operand (listed (expression SuperIndex) refl refl refl)
taken (function (WithInit r)) h = inner (with_init r)
taken (function (RestPat r)) h = inner (rest_part r)
taken (function (ArrayPat r)) h = inner (array_pattern r)
taken (function (ObjectPat r)) h = inner (object_pattern r)
taken (function (PropertyPat r)) h = inner (pair_pattern r)
taken (function (ShorthandPat r)) h = inner (short_pattern r)
taken (function (ShorthandInit r)) h = inner (short_default r)
taken (function (RestProperty r)) h = inner (rest_property r)
taken (expression (Binary o)) h = operand (listed_binary o)
taken (expression Assign) h = operand (listed (expression Assign) refl refl refl)
taken (expression Arrow) h = operand (listed (expression Arrow) refl refl refl)
taken (expression ArrowBlock) h = operand (listed (expression ArrowBlock) refl refl refl)
taken (expression BareArrow) h = operand (listed (expression BareArrow) refl refl refl)
taken (expression BareArrowBlock) h = operand (listed (expression BareArrowBlock) refl refl refl)
taken (expression (OpAssign Nullish)) h = operand (listed (expression (OpAssign Nullish)) refl refl refl)
taken (expression (OpAssign Or)) h = operand (listed (expression (OpAssign Or)) refl refl refl)
taken (expression (OpAssign And)) h = operand (listed (expression (OpAssign And)) refl refl refl)
taken (expression (OpAssign BitOr)) h = operand (listed (expression (OpAssign BitOr)) refl refl refl)
taken (expression (OpAssign BitXor)) h = operand (listed (expression (OpAssign BitXor)) refl refl refl)
taken (expression (OpAssign BitAnd)) h = operand (listed (expression (OpAssign BitAnd)) refl refl refl)
taken (expression (OpAssign ShiftLeft)) h = operand (listed (expression (OpAssign ShiftLeft)) refl refl refl)
taken (expression (OpAssign ShiftRight)) h = operand (listed (expression (OpAssign ShiftRight)) refl refl refl)
taken (expression (OpAssign ShiftOut)) h = operand (listed (expression (OpAssign ShiftOut)) refl refl refl)
taken (expression (OpAssign Add)) h = operand (listed (expression (OpAssign Add)) refl refl refl)
taken (expression (OpAssign Subtract)) h = operand (listed (expression (OpAssign Subtract)) refl refl refl)
taken (expression (OpAssign Multiply)) h = operand (listed (expression (OpAssign Multiply)) refl refl refl)
taken (expression (OpAssign Divide)) h = operand (listed (expression (OpAssign Divide)) refl refl refl)
taken (expression (OpAssign Remainder)) h = operand (listed (expression (OpAssign Remainder)) refl refl refl)
taken (expression (OpAssign Exponentiate)) h = operand (listed (expression (OpAssign Exponentiate)) refl refl refl)
taken (expression Cond) h = operand (listed (expression Cond) refl refl refl)
taken (expression Call) h = operand (listed (expression Call) refl refl refl)
taken (expression Member) h = operand (listed (expression Member) refl refl refl)
taken (expression Index) h = operand (listed (expression Index) refl refl refl)
taken (expression Tagged) h = operand (listed (expression Tagged) refl refl refl)
taken (expression (Unary Delete)) h = operand (listed (expression (Unary Delete)) refl refl refl)
taken (expression (Unary Void)) h = operand (listed (expression (Unary Void)) refl refl refl)
taken (expression (Unary TypeOf)) h = operand (listed (expression (Unary TypeOf)) refl refl refl)
taken (expression (Unary Positive)) h = operand (listed (expression (Unary Positive)) refl refl refl)
taken (expression (Unary Negative)) h = operand (listed (expression (Unary Negative)) refl refl refl)
taken (expression (Unary Complement)) h = operand (listed (expression (Unary Complement)) refl refl refl)
taken (expression (Unary Not)) h = operand (listed (expression (Unary Not)) refl refl refl)
taken (expression ImportCall) h = operand (listed (expression ImportCall) refl refl refl)
taken (expression ImportMeta) h = operand (listed (expression ImportMeta) refl refl refl)
taken (expression New) h = operand (listed (expression New) refl refl refl)
taken (expression NewWithoutArguments) h = operand (listed (expression NewWithoutArguments) refl refl refl)
taken (expression NewTarget) h = operand (listed (expression NewTarget) refl refl refl)
taken (expression Parenthesized) h = operand (listed (expression Parenthesized) refl refl refl)
taken (expression Array) h = operand (listed (expression Array) refl refl refl)
taken (expression Object) h = operand (listed (expression Object) refl refl refl)
taken (expression Property) h = inner property
taken (expression Shorthand) h = inner shorthand
taken (function ComputedKey) h = inner computed
taken (expression (PlainTemplate false)) h = operand (listed (expression (PlainTemplate false)) refl refl refl)
taken (expression (SubstitutedTemplate false)) h = operand (listed (expression (SubstitutedTemplate false)) refl refl refl)
taken (expression (PlainTemplate true)) h = inner tagged_plain
taken (expression (SubstitutedTemplate true)) h = inner tagged_substituted
taken (expression (TemplateSpan b)) h = inner (span b)
taken (expression Chain) h = operand (listed (expression Chain) refl refl refl)
taken (expression (NameLink q)) h = inner (name_link q)
taken (expression (IndexLink q)) h = inner (index_link q)
taken (expression (CallLink q)) h = inner (call_link q)
taken (expression (PrefixUpdate Increment)) h = operand (listed (expression (PrefixUpdate Increment)) refl refl refl)
taken (expression (PrefixUpdate Decrement)) h = operand (listed (expression (PrefixUpdate Decrement)) refl refl refl)
taken (expression (PostfixUpdate Increment)) h = operand (listed (expression (PostfixUpdate Increment)) refl refl refl)
taken (expression (PostfixUpdate Decrement)) h = operand (listed (expression (PostfixUpdate Decrement)) refl refl refl)
taken (jsx Element) h = operand (listed (jsx Element) refl refl refl)
taken _ h = cc

pub taken_by : {v : Surroundings} {c : Nonterminal} {k : Kind} {x y : Place} {ts : Forest} → Staged v false c x (node k ts) y → Taken k
taken_by {k = k} {ts = ts} r = taken k (and_left (has_kind k) _ r.staged)

-- at places where no more than in_homes is asked of a node
pub home_of : {v : Surroundings} {c : Nonterminal} {k : Kind} {x y : Place} {ts : Forest} → Staged v false c x (node k ts) y → admits c (node k ts) ≡ true
home_of {c = c} {k = k} {ts = ts} r = and_left (admits c (node k ts)) (fits_below c (node k ts)) r.reads.is

pub no_list : {v : Surroundings} {c : Nonterminal} {x y : Place} {ts : Forest} → Staged v false c x (list ts) y → ⊥
no_list {c = c} {ts = ts} r = let bad = and_left (admits c (list ts)) (fits_below c (list ts)) r.reads.is in cc

pub never_list : {v : Surroundings} {c : Nonterminal} {x y : Place} {t : Tree} → Only so_far v (Part c) x (one t) y → (ts : Forest) → t ≡ list ts → ⊥
never_list {v} {c} {x} {y} {t} o ts e = at o.past
  where
    at : Past (Whole so_far) v (Part c) x (one t) y → ⊥
    at (tree q) = no_list (subst (λ u. Staged v false c x u y) e q.reads)

-- where no expression is at home
pub no_operand_at : (c : Nonterminal) {k : Kind} → every (λ j. not (lives c j)) kinds ≡ true → Listed k → lives c k ≡ true → ⊥
no_operand_at c {k} e l h = clash _ h (is_not _ (of_each (λ j. not (lives c j)) e k l))

no_left : (a b : Bool) → (a || b) ≡ false → a ≡ false
no_left true b e = cc
no_left false b e = refl

no_right : (a b : Bool) → (a || b) ≡ false → b ≡ false
no_right true b e = cc
no_right false b e = e

-- where none of them is at home
pub nowhere : (c : Nonterminal) {k : Kind} → lives c (program Module) ≡ false → every_begun (λ k. not (lives c k)) ≡ true → every_inner (λ i. not (lives c (inner_kind i))) ≡ true → (not (lives c (statement ExprStmt)) && not (lives c (statement Label))) ≡ true → (lives c (expression Seq) || lives c (function ParenTarget)) ≡ false → lives c (expression Spread) ≡ false → every (λ j. not (lives c j)) kinds ≡ true → Taken k → lives c k ≡ true → ⊥
nowhere c a1 a2 a3 a4 a5 a6 e module' h = clash _ h a1
nowhere c a1 a2 a3 a4 a5 a6 e (headed b) h = clash _ h (is_not _ (of_begun (λ j. not (lives c j)) a2 b))
nowhere c a1 a2 a3 a4 a5 a6 e (inner i) h = clash _ h (is_not _ (of_inner (λ j. not (lives c (inner_kind j))) a3 i))
nowhere c a1 a2 a3 a4 a5 a6 e evaluation h = clash _ h (is_not _ (and_left (not (lives c (statement ExprStmt))) _ a4))
nowhere c a1 a2 a3 a4 a5 a6 e labelled h = clash _ h (is_not _ (and_right (not (lives c (statement ExprStmt))) _ a4))
nowhere c a1 a2 a3 a4 a5 a6 e sequence h = clash _ h (no_left (lives c (expression Seq)) (lives c (function ParenTarget)) a5)
nowhere c a1 a2 a3 a4 a5 a6 e aimed h = clash _ h (no_right (lives c (expression Seq)) (lives c (function ParenTarget)) a5)
nowhere c a1 a2 a3 a4 a5 a6 e spread h = clash _ h a6
nowhere c a1 a2 a3 a4 a5 a6 e (operand l) h = no_operand_at c e l h

-- ---- leaves

-- where leaves of one kind stand alone
pub record LeafOnly (c : Nonterminal) (k : TokenKind) : Type 0 where
  pub token : has_token k ≡ true
  pub never : is_never c ≡ true
  pub node : (l : Kind) (ts : Forest) → Taken l → admits c (node l ts) ≡ true → ⊥
  pub kind : (l : TokenKind) (t : Text) → leaf_at c l t ≡ true → l ≡ k

pub record Told (c : Nonterminal) (k : TokenKind) (x : Place) (u : Tree) (y : Place) : Type 0 where
  pub text : Text
  pub is : u ≡ leaf k text
  pub there : forth (Tok (mode_of k) k text) x ≡ y
  pub found : IsTrue (is_found y)
  pub member : leaf_in c k text ≡ true
  pub at : leaf_at c k text ≡ true
  pub whole : is_leaf k text ≡ true

leaf_scan : (k : TokenKind) (t : Text) (x : Place) → has_token k ≡ true → scan x (spelled (leaf k t)) ≡ forth (Tok (mode_of k) k t) x
leaf_scan Elision t x e = cc
leaf_scan RegExpLiteral t x e = refl
leaf_scan _ t x e = refl

leaf_told : {v : Surroundings} {c : Nonterminal} {k : TokenKind} {x y : Place} (l : TokenKind) (t : Text) → has_token k ≡ true → l ≡ k → Staged v false c x (leaf l t) y → Told c k x (leaf l t) y
leaf_told {v} {c} {k} {x} {y} l t h e r =
    let q : Staged v false c x (leaf k t) y = subst (λ m. Staged v false c x (leaf m t) y) e r in
    record { text = t; is = ap (λ m. leaf m t) e; there = sym (leaf_scan k t x h) ∙ q.reads.scans; found = q.reads.found; member = and_left (leaf_in c k t) (is_leaf k t) q.reads.is; at = q.staged; whole = and_right (leaf_in c k t) (is_leaf k t) q.reads.is }

pub leaf_one : (k : TokenKind) (t : Text) → has_token k ≡ true → part_depth (leaf k t) ≡ 1
leaf_one Elision t e = cc
leaf_one RegExpLiteral t e = refl
leaf_one _ t e = refl

pub told : {v : Surroundings} {c : Nonterminal} {k : TokenKind} {x y : Place} → LeafOnly c k → (u : Tree) → Staged v false c x u y → Told c k x u y
told o (leaf l t) r = leaf_told l t o.token (o.kind l t r.staged) r
told o (node l ts) r = absurd (o.node l ts (taken_by r) (home_of r))
told o (list ts) r = absurd (no_list r)

pub staged_leaf : {v : Surroundings} {c : Nonterminal} {k : TokenKind} {t : Text} {x y : Place} → has_token k ≡ true → leaf_in c k t ≡ true → leaf_at c k t ≡ true → is_leaf k t ≡ true → y ≡ forth (Tok (mode_of k) k t) x → IsTrue (is_found y) → Staged v false c x (leaf k t) y
staged_leaf h i a w e f = record { reads = leaf_read h i w (sym e) f; staged = a }

pub only_leaf : {v : Surroundings} {c : Nonterminal} {k : TokenKind} {t : Text} {x y : Place} → LeafOnly c k → leaf_in c k t ≡ true → leaf_at c k t ≡ true → is_leaf k t ≡ true → y ≡ forth (Tok (mode_of k) k t) x → IsTrue (is_found y) → Only so_far v (Part c) x (one (leaf k t)) y
only_leaf {v} {c} {k} {t} {x} {y} o i a w e f = record { past = tree (record { reads = staged_leaf o.token i a w e f; ends_there = of_so_far.ends_there c y (never_stops c y o.never) }); alone = at }
  where
    at : (h : Given) (z : Place) → Past (Whole so_far) v (Part c) x h z → (one (leaf k t) ≡ h) × (y ≡ z)
    at h z (tree {t = u} q) =
        let m = told o u q.reads in
        let same : t ≡ m.text = one_text (mode_of k) k t m.text x (found_at (sym e) f) (found_at m.there m.found) in
        (ap one (ap (leaf k) same ∙ sym m.is), e ∙ (ap (λ s. forth (Tok (mode_of k) k s) x) same ∙ m.there))

-- what stands there is the one thing that does
pub only_tree : {v : Surroundings} {c : Nonterminal} {k : TokenKind} {x y : Place} → LeafOnly c k → (t : Tree) → Staged v false c x t y → Only so_far v (Part c) x (one t) y
only_tree {v} {c} {x = x} {y = y} o t r = let m = told o t r in subst (λ u. Only so_far v (Part c) x (one u) y) (sym m.is) (only_leaf o m.member m.at m.whole (sym m.there) m.found)

lost_not : {x y : Place} → x ≡ Lost → x ≡ y → IsTrue (is_found y) → ⊥
lost_not l e f = let bad : IsTrue (is_found Lost) = subst (λ p. IsTrue (is_found p)) l (found_at e f) in cc

-- no such token stands there
pub no_leaf : {v : Surroundings} {c : Nonterminal} {k : TokenKind} {x : Place} {e : Fault} → LeafOnly c k → ((t : Text) → forth (Tok (mode_of k) k t) x ≡ Lost) → Barred so_far v (Part c) x e
no_leaf {v} {c} {k} {x} {e = e} o n = record { no = at }
  where
    at : (h : Given) (z : Place) → Past (Whole so_far) v (Part c) x h z → Shallow e (given_depth h) → ⊥
    at h z (tree {t = u} q) s = let m = told o u q.reads in lost_not (n m.text) m.there m.found

-- where no level is left none may
pub deep_leaf : {v : Surroundings} {c : Nonterminal} {k : TokenKind} {x : Place} {e : Fault} → LeafOnly c k → Below 0 e → Barred so_far v (Part c) x e
deep_leaf {v} {c} {k} {x} {e} o b = record { no = at }
  where
    at : (h : Given) (z : Place) → Past (Whole so_far) v (Part c) x h z → Shallow e (given_depth h) → ⊥
    at h z (tree {t = u} q) s =
        let m = told o u q.reads in
        let d = ap part_depth m.is ∙ leaf_one k m.text o.token in
        let w = below_shallow 0 e (part_depth u) b s in
        omega (arith, d, w)

-- the one that stands there may not
pub unfit_leaf : {v : Surroundings} {c : Nonterminal} {k : TokenKind} {x y : Place} {d : Fault} (t : Text) → LeafOnly c k → y ≡ forth (Tok (mode_of k) k t) x → IsTrue (is_found y) → (leaf_in c k t && leaf_at c k t) ≡ false → Barred so_far v (Part c) x d
unfit_leaf {v} {c} {k} {x} {y} {d = d} t o e f n = record { no = at }
  where
    at : (h : Given) (z : Place) → Past (Whole so_far) v (Part c) x h z → Shallow d (given_depth h) → ⊥
    at h z (tree {t = u} q) a =
        let m = told o u q.reads in
        let same : m.text ≡ t = one_text (mode_of k) k m.text t x (found_at m.there m.found) (found_at (sym e) f) in
        let bad : true ≡ false = sym (and_both _ _ m.member m.at) ∙ (ap (λ s. leaf_in c k s && leaf_at c k s) same ∙ n) in cc

tag_kind : (l : TokenKind) (t : Text) → leaf_at TagName l t ≡ true → l ≡ JsxName
tag_kind JsxName t h = refl
tag_kind _ t h = cc

name_kind : (l : TokenKind) (t : Text) → leaf_at Name l t ≡ true → l ≡ IdentifierName
name_kind IdentifierName t h = refl
name_kind _ t h = cc

string_kind : (l : TokenKind) (t : Text) → leaf_at StringOnly l t ≡ true → l ≡ StringLiteral
string_kind StringLiteral t h = refl
string_kind _ t h = cc

ident_kind : (l : TokenKind) (t : Text) → leaf_at Ident l t ≡ true → l ≡ IdentifierName
ident_kind IdentifierName t h = refl
ident_kind _ t h = cc

binding_kind : (l : TokenKind) (t : Text) → leaf_at BindingIdent l t ≡ true → l ≡ IdentifierName
binding_kind IdentifierName t h = refl
binding_kind _ t h = cc

pub tags : LeafOnly TagName JsxName
tags = record { token = refl; never = refl; node = λ l ts. nowhere TagName refl refl refl refl refl refl refl; kind = tag_kind }

pub bindings : LeafOnly BindingIdent IdentifierName
bindings = record { token = refl; never = refl; node = λ l ts. nowhere BindingIdent refl refl refl refl refl refl refl; kind = binding_kind }

pub strings : LeafOnly StringOnly StringLiteral
strings = record { token = refl; never = refl; node = λ l ts. nowhere StringOnly refl refl refl refl refl refl refl; kind = string_kind }

pub names : LeafOnly Name IdentifierName
names = record { token = refl; never = refl; node = λ l ts. nowhere Name refl refl refl refl refl refl refl; kind = name_kind }

-- a name that was read has its token
pub record NameThere (x : Place) : Type 0 where
  pub text : Text
  pub found : IsTrue (is_found (forth (Tok Operator IdentifierName text) x))

pub name_there : {v : Surroundings} {x y : Place} (u : Tree) → Staged v false Name x u y → NameThere x
name_there u r = let m = told names u r in record { text = m.text; found = found_at m.there m.found }

pub idents : LeafOnly Ident IdentifierName
idents = record { token = refl; never = refl; node = λ l ts. nowhere Ident refl refl refl refl refl refl refl; kind = ident_kind }

-- the pieces of templates

whole_kind' : (l : TokenKind) (t : Text) → leaf_at (TemplatePart NoSubstitution) l t ≡ true → l ≡ NoSubstitution
whole_kind' NoSubstitution t h = refl
whole_kind' _ t h = cc

head_kind : (l : TokenKind) (t : Text) → leaf_at (TemplatePart TemplateHead) l t ≡ true → l ≡ TemplateHead
head_kind TemplateHead t h = refl
head_kind _ t h = cc

middle_kind : (l : TokenKind) (t : Text) → leaf_at (TemplatePart TemplateMiddle) l t ≡ true → l ≡ TemplateMiddle
middle_kind TemplateMiddle t h = refl
middle_kind _ t h = cc

tail_kind : (l : TokenKind) (t : Text) → leaf_at (TemplatePart TemplateTail) l t ≡ true → l ≡ TemplateTail
tail_kind TemplateTail t h = refl
tail_kind _ t h = cc

pub wholes : LeafOnly (TemplatePart NoSubstitution) NoSubstitution
wholes = record { token = refl; never = refl; node = λ l ts. nowhere (TemplatePart NoSubstitution) refl refl refl refl refl refl refl; kind = whole_kind' }

pub heads : LeafOnly (TemplatePart TemplateHead) TemplateHead
heads = record { token = refl; never = refl; node = λ l ts. nowhere (TemplatePart TemplateHead) refl refl refl refl refl refl refl; kind = head_kind }

pub middles : LeafOnly (TemplatePart TemplateMiddle) TemplateMiddle
middles = record { token = refl; never = refl; node = λ l ts. nowhere (TemplatePart TemplateMiddle) refl refl refl refl refl refl refl; kind = middle_kind }

pub tails : LeafOnly (TemplatePart TemplateTail) TemplateTail
tails = record { token = refl; never = refl; node = λ l ts. nowhere (TemplatePart TemplateTail) refl refl refl refl refl refl refl; kind = tail_kind }

-- ---- where nothing stands

none_there : {v : Surroundings} {c : Nonterminal} {x : Place} {e : Fault} → ((l : TokenKind) (t : Text) → leaf_at c l t ≡ true → ⊥) → ((l : Kind) (ts : Forest) → Taken l → admits c (node l ts) ≡ true → ⊥) → Barred so_far v (Part c) x e
none_there {v} {c} {x} {e = e} f g = record { no = at }
  where
    at : (h : Given) (z : Place) → Past (Whole so_far) v (Part c) x h z → Shallow e (given_depth h) → ⊥
    at h z (tree {t = leaf l t} q) s = f l t q.reads.staged
    at h z (tree {t = node l ts} q) s = g l ts (taken_by q.reads) (home_of q.reads)
    at h z (tree {t = list ts} q) s = no_list q.reads

pub no_attributes : {v : Surroundings} {x : Place} {e : Fault} → Barred so_far v (Part Attributes) x e
no_attributes = none_there (λ l t h. cc) (λ l ts. nowhere Attributes refl refl refl refl refl refl refl)

-- ---- values

pub data Literal : Type 0 where
  IsName : Literal
  IsNumber : Literal
  IsLong : Literal
  IsString : Literal
  IsPattern : Literal

abbrev pub token_kind : Literal → TokenKind
token_kind IsName = IdentifierName
token_kind IsNumber = NumericLiteral
token_kind IsLong = BigIntLiteral
token_kind IsString = StringLiteral
token_kind IsPattern = RegExpLiteral

pub data Value : Tree → Type 0 where
  literal : (l : Literal) {t : Text} → value_leaf (token_kind l) t ≡ true → Value (leaf (token_kind l) t)
  made : {k : Kind} {ts : Forest} → Listed k → Value (node k ts)

pub value_kind : (k : TokenKind) (t : Text) → value_leaf k t ≡ true → Value (leaf k t)
value_kind IdentifierName t h = literal IsName h
value_kind NumericLiteral t h = literal IsNumber h
value_kind BigIntLiteral t h = literal IsLong h
value_kind StringLiteral t h = literal IsString h
value_kind RegExpLiteral t h = literal IsPattern h
value_kind _ t h = cc

pub bound_word : (t : Text) → is_bound t ≡ true → is_value_word t ≡ true
bound_word t h = ap (λ b. b || among t (codes "this" ∷ codes "null" ∷ codes "true" ∷ codes "false" ∷ [])) (and_left (is_ident t) _ h)

no_piece : (j : TokenKind) → is_lone (TemplatePart j) ≡ true → ⊥
no_piece j o = let bad : false ≡ true = and_right (not (lives (TemplatePart j) (expression Spread))) _ (and_right (not (lives (TemplatePart j) (expression Seq))) _ (and_right (is_operand (TemplatePart j)) _ o)) in cc

operand_leaf : (d : Nonterminal) (k : TokenKind) (t : Text) → is_lone d ≡ true → leaf_in d k t ≡ true → leaf_at d k t ≡ true → value_leaf k t ≡ true
operand_leaf (Expr n) k t o i h = h
operand_leaf MemberObject k t o i h = h
operand_leaf NullishLeft k t o i h = h
operand_leaf Argument k t o i h = h
operand_leaf NewCallee k t o i h = h
operand_leaf DotObject k t o i h = h
operand_leaf (Pat Assigns) IdentifierName t o i h = bound_word t i
operand_leaf SimpleTarget IdentifierName t o i h = bound_word t i
operand_leaf BindingIdent IdentifierName t o i h = bound_word t i
operand_leaf Ident IdentifierName t o i h = ap (λ b. b || among t (codes "this" ∷ codes "null" ∷ codes "true" ∷ codes "false" ∷ [])) i
operand_leaf (TemplatePart j) k t o i h = absurd (no_piece j o)
operand_leaf (Pat Binds) k t o i h = cc
operand_leaf Param k t o i h = cc
operand_leaf (PatElement Binds) k t o i h = cc
operand_leaf (Slot Binds) k t o i h = cc
operand_leaf Name k t o i h = cc
operand_leaf StringOnly k t o i h = cc
operand_leaf TagName k t o i h = cc
operand_leaf _ k t o i h = cc

pub no_operand : (d : Nonterminal) (k : Kind) (ts : Forest) → is_operand d ≡ true → any_operand (homes k) ≡ false → admits d (node k ts) ≡ true → ⊥
no_operand d k ts o n h = clash _ (homes_operand d (homes k) o (kind_home d k ts h)) n

-- a pattern in brackets that assigns, which stands where a target does
abbrev pub is_bracket : Kind → Bool
is_bracket (function (ArrayPat Assigns)) = true
is_bracket (function (ObjectPat Assigns)) = true
is_bracket k = false

abbrev pub in_brackets : Tree → Bool
in_brackets (node k ts) = is_bracket k
in_brackets t = false

-- of the other parts none stands where an operand does
no_inner : (d : Nonterminal) (i : Inner) (ts : Forest) → is_operand d ≡ true → is_bracket (inner_kind i) ≡ false → admits d (node (inner_kind i) ts) ≡ true → ⊥
no_inner d i ts o b h = no_operand d (inner_kind i) ts o (is_not _ (or_cases (is_bracket (inner_kind i)) (not (any_operand (homes (inner_kind i)))) (of_inner (λ j. is_bracket (inner_kind j) || not (any_operand (homes (inner_kind j)))) refl i) (λ e. absurd (clash _ e b)) (λ e. e))) h

pub operand_kind : (d : Nonterminal) {k : Kind} {ts : Forest} → is_lone d ≡ true → is_aim (node k ts) ≡ false → is_bracket k ≡ false → Taken k → admits d (node k ts) ≡ true → Value (node k ts)
operand_kind d o a b (operand l) h = made l
operand_kind d o a b module' h = absurd (no_operand d _ _ (and_left (is_operand d) _ o) refl h)
operand_kind d o a b (headed g) h = absurd (no_operand d _ _ (and_left (is_operand d) _ o) (is_not _ (of_begun (λ j. not (any_operand (homes j))) refl g)) h)
operand_kind d {ts = ts} o a b (inner i) h = absurd (no_inner d i ts (and_left (is_operand d) _ o) b h)
operand_kind d o a b evaluation h = absurd (no_operand d _ _ (and_left (is_operand d) _ o) refl h)
operand_kind d o a b labelled h = absurd (no_operand d _ _ (and_left (is_operand d) _ o) refl h)
operand_kind d {ts = ts} o a b sequence h = absurd (clash _ (kind_home d (expression Seq) ts h) (is_not _ (and_left (not (lives d (expression Seq))) _ (and_right (is_operand d) _ o))))
operand_kind d {ts = ts} o a b spread h = absurd (clash _ (kind_home d (expression Spread) ts h) (is_not _ (and_left (not (lives d (expression Spread))) _ (and_right (not (lives d (expression Seq))) _ (and_right (is_operand d) _ o)))))
operand_kind d {ts = ts} o a b aimed h = cc

-- what stands where an expression does that is no sequence, no target in parentheses and no pattern in brackets
pub lone_value : {v : Surroundings} {d : Nonterminal} {x y : Place} (t : Tree) → is_lone d ≡ true → is_aim t ≡ false → in_brackets t ≡ false → Staged v false d x t y → Value t
lone_value {d = d} (leaf k t) o a b r = value_kind k t (operand_leaf d k t o (and_left (leaf_in d k t) (is_leaf k t) r.reads.is) r.staged)
lone_value {d = d} (node k ts) o a b r = operand_kind d o a b (taken_by r) (home_of r)
lone_value (list ts) o a b r = absurd (no_list r)

-- where no target stands
no_aim : (d : Nonterminal) (k : Kind) (ts : Forest) → lives d (function ParenTarget) ≡ false → lives d k ≡ true → (b : Bool) → is_aim (node k ts) ≡ b → b ≡ false
no_aim d k ts n h false e = refl
no_aim d (function ParenTarget) ts n h true e = absurd (clash _ h n)
no_aim d _ ts n h true e = cc

-- where a pattern in brackets stands a target in parentheses may
aim_too : (c : Nonterminal) → lives c (function (ArrayPat Assigns)) ≡ true → lives c (function ParenTarget) ≡ true
aim_too NullishLeft h = cc
aim_too NewCallee h = cc
aim_too DotObject h = cc
aim_too ForOfHead h = refl
aim_too (Expr n) h = cc
aim_too c h = or_second (takes c SimpleTarget) h
  where
    or_second : (a : Bool) {b : Bool} → b ≡ true → (a || b) ≡ true
    or_second true e = refl
    or_second false e = e

no_bracket : (d : Nonterminal) (k : Kind) → is_single d ≡ true → lives d k ≡ true → (b : Bool) → is_bracket k ≡ b → b ≡ false
no_bracket d k o h false e = refl
no_bracket d (function (ArrayPat Assigns)) o h true e = absurd (clash _ (aim_too d h) (is_not _ (and_right (is_lone d) _ o)))
no_bracket d (function (ObjectPat Assigns)) o h true e = absurd (clash _ (aim_too d h) (is_not _ (and_right (is_lone d) _ o)))
no_bracket d _ o h true e = cc

pub value : {v : Surroundings} {d : Nonterminal} {x y : Place} (t : Tree) → is_single d ≡ true → Staged v false d x t y → Value t
value {d = d} (leaf k t) o r = lone_value (leaf k t) (and_left (is_lone d) _ o) refl refl r
value {d = d} (node k ts) o r = lone_value (node k ts) (and_left (is_lone d) _ o) (no_aim d k ts (is_not _ (and_right (is_lone d) _ o)) (kind_home d k ts (home_of r)) (is_aim (node k ts)) refl) (no_bracket d k o (kind_home d k ts (home_of r)) (is_bracket k) refl) r
value (list ts) o r = absurd (no_list r)

-- what stands where a sequence may
pub data AtWhole : Tree → Type 0 where
  single : {t : Tree} → Value t → AtWhole t
  several : {ts : Forest} → AtWhole (node (expression Seq) ts)

whole_kind : {k : Kind} {ts : Forest} → Taken k → admits (Expr 0) (node k ts) ≡ true → AtWhole (node k ts)
whole_kind (operand l) h = single (made l)
whole_kind sequence h = several
whole_kind {ts = ts} spread h = absurd (clash _ (kind_home (Expr 0) (expression Spread) ts h) refl)
whole_kind {ts = ts} aimed h = absurd (clash _ (kind_home (Expr 0) (function ParenTarget) ts h) refl)
whole_kind {ts = ts} module' h = absurd (no_operand (Expr 0) (program Module) ts refl refl h)
whole_kind {k} {ts} (headed b) h = absurd (no_operand (Expr 0) k ts refl (is_not _ (of_begun (λ j. not (any_operand (homes j))) refl b)) h)
whole_kind {ts = ts} (inner i) h = absurd (clash (lives (Expr 0) (inner_kind i)) (kind_home (Expr 0) (inner_kind i) ts h) (is_not _ (of_inner (λ j. not (lives (Expr 0) (inner_kind j))) refl i)))
whole_kind {ts = ts} evaluation h = absurd (no_operand (Expr 0) (statement ExprStmt) ts refl refl h)
whole_kind {ts = ts} labelled h = absurd (no_operand (Expr 0) (statement Label) ts refl refl h)

pub at_whole : {v : Surroundings} {x y : Place} (t : Tree) → Staged v false (Expr 0) x t y → AtWhole t
at_whole (leaf k t) r = single (value_kind k t r.staged)
at_whole (node k ts) r = whole_kind (taken_by r) (home_of r)
at_whole (list ts) r = absurd (no_list r)
