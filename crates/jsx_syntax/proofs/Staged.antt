-- The trees that are taken so far: each of their elements is one name alone.
use Rattle.std.proofs.Common.{◌≡◌, List, [], ◌∷◌, Bool, true, false, cond, sym, refl, ◌∙◌}
use Rattle.std.proofs.lemmas.Bool.{and_parts, and_from, false≢true}
use Rattle.std.specs.Prelude.{◌&&◌}
use Rattle.jsx_base.specs.Token.{Text, TokenKind, JsxName}
use Rattle.jsx_tree.specs.declared.text.Goal.{Goal}
use Rattle.jsx_tree.specs.Kinds.{BinaryOp, Nullish, Kind, program, statement, function, expression, jsx, Module, Directive, Block, Var, VarWord, LetWord, ConstWord, Declarator, Empty, ExprStmt, If, Do, While, Continue, Break, Label, Throw, Debugger, Seq, Assign, OpAssign, Binary, Unary, Cond, ImportCall, Call, Member, Index, Parenthesized, ParenTarget, Element, Arrow, ArrowBlock, BareArrow, BareArrowBlock, Assigns, Tree, leaf, node, list, Forest, none, part, PrefixUpdate, PostfixUpdate, For, ForDeclaration, Switch, Case, Default, Array, Spread, Try, Catch, Object, Property, Shorthand, ComputedKey, ImportMeta, New, NewWithoutArguments, NewTarget, ForIn, ForOf, ForBinding, PlainTemplate, SubstitutedTemplate, TemplateSpan, Tagged, Chain, NameLink, IndexLink, CallLink, Imported, Exported, From, Script, FunctionBody, ImportBare, Import, ImportAll, ImportList, ImportBoth, Specifier, SpecifierAs, ExportNames, ExportFrom, ExportAll, ExportAllAs, ExportDecl, ExportDefaultFn, ExportDefaultClass, ExportDefaultExpr, Return, FunctionDecl, ClassDecl, FunctionExpr, ClassExpr, InObject, InClass, Static, Method, Getter, Setter, Field, SuperCall, SuperMember, SuperIndex, Binds, WithInit, RestPat, ArrayPat, ObjectPat, PropertyPat, ShorthandPat, ShorthandInit, RestProperty}
use Rattle.jsx_tree.specs.Nonterminals.{Nonterminal, TagName, Attributes, WholeProgram, assigns, expr, in_homes, homes}
use Rattle.jsx_tree.specs.Form.{Position, position, positions, shaped, last_only, admits, fits_below, fit_slots, fit_each, is}
use Rattle.jsx_tree.specs.Sound.{each_node, each_nodes}
use Rattle.jsx_token.specs.Stage.{has_kind, leaf_at, in_stage, in_stages, each_in_stage, ReadsSoFar}

-- a node that isn't JSX, or an element whose tag is one name and that has no attributes
abbrev pub is_simple : Kind → Forest → Bool
is_simple (jsx Element) (part (leaf JsxName t) (part (list none) none)) = true
is_simple (jsx k) cs = false
is_simple k cs = true

-- no kind that is taken is a tag's name or an attribute
record NoTag (k : Kind) : Type 0 where
  name : in_homes TagName (homes k) ≡ false
  attribute : in_homes Attributes (homes k) ≡ false

binary_no_tag : (o : BinaryOp) → NoTag (expression (Binary o))
binary_no_tag Nullish = record { name = refl; attribute = refl }
binary_no_tag _ = record { name = refl; attribute = refl }

-- an operator that assigns, or none
assign_no_tag : (b : Bool) → (in_homes TagName (cond b (expr 1) []) ≡ false) × (in_homes Attributes (cond b (expr 1) []) ≡ false)
assign_no_tag true = (refl, refl)
assign_no_tag false = (refl, refl)

no_tag : (k : Kind) → has_kind k ≡ true → NoTag k
no_tag (program Module) h = record { name = refl; attribute = refl }
no_tag (program Directive) h = record { name = refl; attribute = refl }
no_tag (program Script) h = record { name = refl; attribute = refl }
no_tag (program FunctionBody) h = record { name = refl; attribute = refl }
no_tag (program ImportBare) h = record { name = refl; attribute = refl }
no_tag (program Import) h = record { name = refl; attribute = refl }
no_tag (program ImportAll) h = record { name = refl; attribute = refl }
no_tag (program ImportList) h = record { name = refl; attribute = refl }
no_tag (program ImportBoth) h = record { name = refl; attribute = refl }
no_tag (program (Specifier Imported)) h = record { name = refl; attribute = refl }
no_tag (program (Specifier Exported)) h = record { name = refl; attribute = refl }
no_tag (program (Specifier From)) h = record { name = refl; attribute = refl }
no_tag (program (SpecifierAs Imported)) h = record { name = refl; attribute = refl }
no_tag (program (SpecifierAs Exported)) h = record { name = refl; attribute = refl }
no_tag (program (SpecifierAs From)) h = record { name = refl; attribute = refl }
no_tag (program ExportNames) h = record { name = refl; attribute = refl }
no_tag (program ExportFrom) h = record { name = refl; attribute = refl }
no_tag (program ExportAll) h = record { name = refl; attribute = refl }
no_tag (program ExportAllAs) h = record { name = refl; attribute = refl }
no_tag (program ExportDecl) h = record { name = refl; attribute = refl }
no_tag (program ExportDefaultFn) h = record { name = refl; attribute = refl }
no_tag (program ExportDefaultClass) h = record { name = refl; attribute = refl }
no_tag (program ExportDefaultExpr) h = record { name = refl; attribute = refl }
no_tag (statement Block) h = record { name = refl; attribute = refl }
no_tag (statement (Var VarWord)) h = record { name = refl; attribute = refl }
no_tag (statement (Var LetWord)) h = record { name = refl; attribute = refl }
no_tag (statement (Var ConstWord)) h = record { name = refl; attribute = refl }
no_tag (statement Empty) h = record { name = refl; attribute = refl }
no_tag (statement If) h = record { name = refl; attribute = refl }
no_tag (statement Do) h = record { name = refl; attribute = refl }
no_tag (statement While) h = record { name = refl; attribute = refl }
no_tag (statement For) h = record { name = refl; attribute = refl }
no_tag (statement ForIn) h = record { name = refl; attribute = refl }
no_tag (statement ForOf) h = record { name = refl; attribute = refl }
no_tag (statement (ForBinding VarWord)) h = record { name = refl; attribute = refl }
no_tag (statement (ForBinding LetWord)) h = record { name = refl; attribute = refl }
no_tag (statement (ForBinding ConstWord)) h = record { name = refl; attribute = refl }
no_tag (statement Switch) h = record { name = refl; attribute = refl }
no_tag (statement Case) h = record { name = refl; attribute = refl }
no_tag (statement Default) h = record { name = refl; attribute = refl }
no_tag (statement (ForDeclaration VarWord)) h = record { name = refl; attribute = refl }
no_tag (statement (ForDeclaration LetWord)) h = record { name = refl; attribute = refl }
no_tag (statement (ForDeclaration ConstWord)) h = record { name = refl; attribute = refl }
no_tag (statement Continue) h = record { name = refl; attribute = refl }
no_tag (statement Break) h = record { name = refl; attribute = refl }
no_tag (statement Label) h = record { name = refl; attribute = refl }
no_tag (statement Throw) h = record { name = refl; attribute = refl }
no_tag (statement Try) h = record { name = refl; attribute = refl }
no_tag (statement Catch) h = record { name = refl; attribute = refl }
no_tag (statement Debugger) h = record { name = refl; attribute = refl }
no_tag (statement Return) h = record { name = refl; attribute = refl }
no_tag (statement FunctionDecl) h = record { name = refl; attribute = refl }
no_tag (statement ClassDecl) h = record { name = refl; attribute = refl }
no_tag (statement Declarator) h = record { name = refl; attribute = refl }
no_tag (statement ExprStmt) h = record { name = refl; attribute = refl }
no_tag (expression Seq) h = record { name = refl; attribute = refl }
no_tag (expression (Binary o)) h = binary_no_tag o
no_tag (expression Assign) h = record { name = refl; attribute = refl }
no_tag (expression (OpAssign o)) h = let p = assign_no_tag (assigns o) in record { name = p.0; attribute = p.1 }
no_tag (expression Cond) h = record { name = refl; attribute = refl }
no_tag (expression Arrow) h = record { name = refl; attribute = refl }
no_tag (expression ArrowBlock) h = record { name = refl; attribute = refl }
no_tag (expression BareArrow) h = record { name = refl; attribute = refl }
no_tag (expression BareArrowBlock) h = record { name = refl; attribute = refl }
no_tag (expression (Unary o)) h = record { name = refl; attribute = refl }
no_tag (expression (PrefixUpdate o)) h = record { name = refl; attribute = refl }
no_tag (expression (PostfixUpdate o)) h = record { name = refl; attribute = refl }
no_tag (expression ImportCall) h = record { name = refl; attribute = refl }
no_tag (expression ImportMeta) h = record { name = refl; attribute = refl }
no_tag (expression New) h = record { name = refl; attribute = refl }
no_tag (expression NewWithoutArguments) h = record { name = refl; attribute = refl }
no_tag (expression NewTarget) h = record { name = refl; attribute = refl }
no_tag (expression Parenthesized) h = record { name = refl; attribute = refl }
no_tag (expression Array) h = record { name = refl; attribute = refl }
no_tag (expression Object) h = record { name = refl; attribute = refl }
no_tag (expression Property) h = record { name = refl; attribute = refl }
no_tag (expression Shorthand) h = record { name = refl; attribute = refl }
no_tag (function ComputedKey) h = record { name = refl; attribute = refl }
no_tag (function ParenTarget) h = record { name = refl; attribute = refl }
no_tag (function FunctionExpr) h = record { name = refl; attribute = refl }
no_tag (function ClassExpr) h = record { name = refl; attribute = refl }
no_tag (function (Method InObject)) h = record { name = refl; attribute = refl }
no_tag (function (Method InClass)) h = record { name = refl; attribute = refl }
no_tag (function (Method Static)) h = record { name = refl; attribute = refl }
no_tag (function (Getter InObject)) h = record { name = refl; attribute = refl }
no_tag (function (Getter InClass)) h = record { name = refl; attribute = refl }
no_tag (function (Getter Static)) h = record { name = refl; attribute = refl }
no_tag (function (Setter InObject)) h = record { name = refl; attribute = refl }
no_tag (function (Setter InClass)) h = record { name = refl; attribute = refl }
no_tag (function (Setter Static)) h = record { name = refl; attribute = refl }
no_tag (function (Field InClass)) h = record { name = refl; attribute = refl }
no_tag (function (Field Static)) h = record { name = refl; attribute = refl }
no_tag (expression SuperCall) h = record { name = refl; attribute = refl }
no_tag (expression SuperMember) h = record { name = refl; attribute = refl }
no_tag (expression SuperIndex) h = record { name = refl; attribute = refl }
no_tag (function (WithInit Binds)) h = record { name = refl; attribute = refl }
no_tag (function (WithInit Assigns)) h = record { name = refl; attribute = refl }
no_tag (function (RestPat Binds)) h = record { name = refl; attribute = refl }
no_tag (function (RestPat Assigns)) h = record { name = refl; attribute = refl }
no_tag (function (ArrayPat Binds)) h = record { name = refl; attribute = refl }
no_tag (function (ArrayPat Assigns)) h = record { name = refl; attribute = refl }
no_tag (function (ObjectPat Binds)) h = record { name = refl; attribute = refl }
no_tag (function (ObjectPat Assigns)) h = record { name = refl; attribute = refl }
no_tag (function (PropertyPat Binds)) h = record { name = refl; attribute = refl }
no_tag (function (PropertyPat Assigns)) h = record { name = refl; attribute = refl }
no_tag (function (ShorthandPat Binds)) h = record { name = refl; attribute = refl }
no_tag (function (ShorthandPat Assigns)) h = record { name = refl; attribute = refl }
no_tag (function (ShorthandInit Binds)) h = record { name = refl; attribute = refl }
no_tag (function (ShorthandInit Assigns)) h = record { name = refl; attribute = refl }
no_tag (function (RestProperty Binds)) h = record { name = refl; attribute = refl }
no_tag (function (RestProperty Assigns)) h = record { name = refl; attribute = refl }
no_tag (expression (PlainTemplate true)) h = record { name = refl; attribute = refl }
no_tag (expression (PlainTemplate false)) h = record { name = refl; attribute = refl }
no_tag (expression (SubstitutedTemplate true)) h = record { name = refl; attribute = refl }
no_tag (expression (SubstitutedTemplate false)) h = record { name = refl; attribute = refl }
no_tag (expression (TemplateSpan true)) h = record { name = refl; attribute = refl }
no_tag (expression (TemplateSpan false)) h = record { name = refl; attribute = refl }
no_tag (expression Spread) h = record { name = refl; attribute = refl }
no_tag (expression Call) h = record { name = refl; attribute = refl }
no_tag (expression Member) h = record { name = refl; attribute = refl }
no_tag (expression Index) h = record { name = refl; attribute = refl }
no_tag (expression Tagged) h = record { name = refl; attribute = refl }
no_tag (expression Chain) h = record { name = refl; attribute = refl }
no_tag (expression (NameLink true)) h = record { name = refl; attribute = refl }
no_tag (expression (NameLink false)) h = record { name = refl; attribute = refl }
no_tag (expression (IndexLink true)) h = record { name = refl; attribute = refl }
no_tag (expression (IndexLink false)) h = record { name = refl; attribute = refl }
no_tag (expression (CallLink true)) h = record { name = refl; attribute = refl }
no_tag (expression (CallLink false)) h = record { name = refl; attribute = refl }
no_tag (jsx Element) h = record { name = refl; attribute = refl }
no_tag _ h = absurd (false≢true h)

no_attribute : {A : Type 0} (t : Tree) → admits Attributes t ≡ true → in_stage Attributes t ≡ true → A
no_attribute (leaf k x) a s = absurd (false≢true s)
no_attribute (list ts) a s = absurd (false≢true a)
no_attribute (node k cs) a s = absurd (false≢true (sym (no_tag k (and_parts (has_kind k) _ s).0).attribute ∙ a))

tag_simple : (k : TokenKind) (x : Text) (ts : Forest) → leaf_at TagName k x ≡ true → fit_each Attributes ts ≡ true → each_in_stage Attributes ts ≡ true → is_simple (jsx Element) (part (leaf k x) (part (list ts) none)) ≡ true
tag_simple JsxName x none h f s = refl
tag_simple JsxName x (part u us) h f s = no_attribute u (and_parts (admits Attributes u) _ f).0 (and_parts (in_stage Attributes u) (each_in_stage Attributes us) s).0
tag_simple _ x ts h f s = absurd (false≢true h)

behind : (a b rest : Bool) → (a && (b && rest)) ≡ true → rest ≡ true
behind a b rest f = (and_parts b rest (and_parts a (b && rest) f).1).1

node_simple : (k : Kind) (cs : Forest) → has_kind k ≡ true → fit_slots (positions k) cs ≡ true → in_stages (positions k) cs ≡ true → is_simple k cs ≡ true
node_simple (jsx Element) (part (leaf k x) (part (list ts) none)) h f s =
    let p = and_parts (leaf_at TagName k x) (each_in_stage Attributes ts && true) s in
    let q = behind (admits TagName (leaf k x)) (fits_below TagName (leaf k x)) (last_only ts && (fit_each Attributes ts && true)) f in
    tag_simple k x ts p.0 (and_parts (fit_each Attributes ts) true (and_parts (last_only ts) (fit_each Attributes ts && true) q).1).0 (and_parts (each_in_stage Attributes ts) true p.1).0
node_simple (jsx Element) none h f s = absurd (false≢true f)
node_simple (jsx Element) (part t none) h f s = absurd (false≢true (behind (admits TagName t) (fits_below TagName t) false f))
node_simple (jsx Element) (part (leaf k x) (part (leaf j y) us)) h f s = absurd (false≢true (behind (admits TagName (leaf k x)) (fits_below TagName (leaf k x)) false f))
node_simple (jsx Element) (part (leaf k x) (part (node j cs) us)) h f s = absurd (false≢true (behind (admits TagName (leaf k x)) (fits_below TagName (leaf k x)) false f))
node_simple (jsx Element) (part (leaf k x) (part (list ts) (part u us))) h f s =
    absurd (false≢true (behind (last_only ts) (fit_each Attributes ts) false (behind (admits TagName (leaf k x)) (fits_below TagName (leaf k x)) (last_only ts && (fit_each Attributes ts && false)) f)))
node_simple (jsx Element) (part (node k cs) us) h f s = absurd (false≢true (sym (no_tag k (and_parts (has_kind k) _ (and_parts (in_stage TagName (node k cs)) _ s).0).0).name ∙ (and_parts (in_homes TagName (homes k)) _ f).0))
node_simple (jsx Element) (part (list ts) us) h f s = absurd (false≢true f)
node_simple (jsx j) cs h f s = absurd (false≢true h)
node_simple k cs h f s = refl

-- a test that all nodes of the kinds that are taken pass
record Passes (p : Kind → Forest → Bool) : Type 0 where
  on : (k : Kind) (cs : Forest) → has_kind k ≡ true → fit_slots (positions k) cs ≡ true → in_stages (positions k) cs ≡ true → p k cs ≡ true

mutual
  staged_pass : (p : Kind → Forest → Bool) → Passes p → (c : Nonterminal) (t : Tree) → fits_below c t ≡ true → in_stage c t ≡ true → each_node p t ≡ true
  staged_pass p h c (leaf k x) f s = refl
  staged_pass p h c (list ts) f s = each_pass p h c ts f s
  staged_pass p h c (node k cs) f s =
      let a = and_parts (has_kind k) (in_stages (positions k) cs) s in
      and_from _ _ (h.on k cs a.0 f a.1) (slots_pass p h (positions k) cs f a.1)

  slots_pass : (p : Kind → Forest → Bool) → Passes p → (ss : List Position) (cs : Forest) → fit_slots ss cs ≡ true → in_stages ss cs ≡ true → each_nodes p cs ≡ true
  slots_pass p h ss none f s = refl
  slots_pass p h [] (part t ts) f s = absurd (false≢true f)
  slots_pass p h (position d c g b a ∷ ss) (part t ts) f s =
      let q = and_parts (fits_below c t) (fit_slots ss ts) (and_parts (shaped d c t) (fits_below c t && fit_slots ss ts) f).1 in
      let r = and_parts (in_stage c t) (in_stages ss ts) s in
      and_from _ _ (staged_pass p h c t q.0 r.0) (slots_pass p h ss ts q.1 r.1)

  each_pass : (p : Kind → Forest → Bool) → Passes p → (c : Nonterminal) (ts : Forest) → fit_each c ts ≡ true → each_in_stage c ts ≡ true → each_nodes p ts ≡ true
  each_pass p h c none f s = refl
  each_pass p h c (part t ts) f s =
      let q = and_parts (fits_below c t) (fit_each c ts) (and_parts (admits c t) (fits_below c t && fit_each c ts) f).1 in
      let r = and_parts (in_stage c t) (each_in_stage c ts) s in
      and_from _ _ (staged_pass p h c t q.0 r.0) (each_pass p h c ts q.1 r.1)

so_far_pass : (p : Kind → Forest → Bool) → Passes p → (goal : Goal) (text : Text) (t : Tree) → ReadsSoFar goal text t → each_node p t ≡ true
so_far_pass p h goal text t r = staged_pass p h WholeProgram t (and_parts (admits WholeProgram t) (fits_below WholeProgram t) (and_parts (is WholeProgram t) _ r.reads.read).0).1 r.staged

pub so_far_simple : (goal : Goal) (text : Text) (t : Tree) → ReadsSoFar goal text t → each_node is_simple t ≡ true
so_far_simple goal text t r = so_far_pass is_simple (record { on = node_simple }) goal text t r
