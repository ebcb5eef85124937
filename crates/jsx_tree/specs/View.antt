-- The tree of the code as a tree of the grammar: one line a variant.
use Rattle.std.specs.Prelude.{List, [], ◌∷◌, map, codes, string_bytes, Bool, true, false, Option, Some, None, Box}
use Rattle.std.specs.Str.{chars}
use Rattle.std.specs.Global.{Global}
use Rattle.jsx_base.specs.Token as token
use Rattle.jsx_tree.specs.Kinds.{DeclareWord, VarWord, LetWord, ConstWord, Directive, FunctionBody, Block, Var, Declarator, Empty, ExprStmt, If, Do, While, For, ForDeclaration, ForIn, ForOf, ForBinding, Continue, Break, Return, Throw, Debugger, Label, Switch, Case, Default, Try, Catch, FunctionDecl, ClassDecl, Holder, InObject, InClass, Static, Role, Binds, Assigns, FunctionExpr, ClassExpr, Method, Getter, Setter, Field, ComputedKey, ArrayPat, ObjectPat, PropertyPat, ShorthandPat, ShorthandInit, WithInit, RestPat, RestProperty, ParenTarget, Seq, Assign, OpAssign, Arrow, ArrowBlock, BareArrow, BareArrowBlock, Cond, Binary, Unary, Call, Member, Index, Tagged, New, NewWithoutArguments, SuperCall, SuperMember, SuperIndex, ImportCall, ImportMeta, NewTarget, Chain, NameLink, IndexLink, CallLink, Array, Object, Property, Shorthand, Spread, Parenthesized, PlainTemplate, SubstitutedTemplate, TemplateSpan, Element, ElementWithChildren, Fragment, NamespacedName, MemberName, Attribute, Container, EmptyContainer, JsxSpread, program, statement, function, expression, jsx, Tree, leaf, node, list, Forest, none, part}
use Rattle.jsx_tree.specs.declared.text.Text.{Text}
use Rattle.jsx_tree.specs.declared.text.Text.TheVariants.{Read, Made}
use Rattle.jsx_tree.specs.declared.text.Ident.{Ident}
use Rattle.jsx_tree.specs.declared.text.LiteralKind.{LiteralKind}
use Rattle.jsx_tree.specs.declared.text.LiteralKind.TheVariants as literal_kind
use Rattle.jsx_tree.specs.declared.text.Word.{Word}
use Rattle.jsx_tree.specs.declared.text.Word.TheVariants as words
use Rattle.jsx_tree.specs.declared.text.DeclareWord as declared
use Rattle.jsx_tree.specs.declared.text.DeclareWord.TheVariants as declare_word
use Rattle.jsx_tree.specs.declared.text.LinkForm.{LinkForm}
use Rattle.jsx_tree.specs.declared.text.LinkForm.TheVariants as link_form
use Rattle.jsx_tree.specs.declared.text.Placement.{Placement}
use Rattle.jsx_tree.specs.declared.text.Placement.TheVariants as placement
use Rattle.jsx_tree.specs.ViewOperators.{binary_of, assign_of, unary_of, update_of}
use Rattle.jsx_tree.specs.declared.tree.Expr.{Expr}
use Rattle.jsx_tree.specs.declared.tree.Operation.{Operation}
use Rattle.jsx_tree.specs.declared.tree.Access.{Access}
use Rattle.jsx_tree.specs.declared.tree.Link.{Link}
use Rattle.jsx_tree.specs.declared.tree.Prop.{Prop}
use Rattle.jsx_tree.specs.declared.tree.Key.{Key}
use Rattle.jsx_tree.specs.declared.tree.Pat.{Pat}
use Rattle.jsx_tree.specs.declared.tree.Stmt.{Stmt}
use Rattle.jsx_tree.specs.declared.tree.Control.{Control}
use Rattle.jsx_tree.specs.declared.tree.Jsx.{Jsx}
use Rattle.jsx_tree.specs.declared.tree.Tag.{Tag}
use Rattle.jsx_tree.specs.declared.tree.Tag.TheVariants as tag
use Rattle.jsx_tree.specs.declared.tree.AttrName.{AttrName}
use Rattle.jsx_tree.specs.declared.tree.AttrName.TheVariants as attr_name
use Rattle.jsx_tree.specs.declared.tree.Access.TheOpen.{Access-F, Control-F, Expr-F, Jsx-F, Key-F, Link-F, Operation-F, Pat-F, Prop-F, Stmt-F}
use Rattle.jsx_tree.specs.declared.tree.Access.TheFolds.{fold-Access, fold-Control, fold-Expr, fold-Jsx, fold-Key, fold-Link, fold-Operation, fold-Pat, fold-Prop, fold-Stmt}

-- the characters of a text
abbrev pub text_of : Text → token.Text
text_of (Read s at) = chars s.now
text_of (Made s at) = chars (string_bytes s)

-- a name as a property or a word, and one that is declared or referred to
abbrev pub word : Text → Tree
word a = leaf token.IdentifierName (text_of a)

abbrev pub name_of : Ident → Tree
name_of i = leaf token.IdentifierName (text_of i.text)

abbrev pub kind_of_literal : LiteralKind → token.TokenKind
kind_of_literal literal_kind.Num = token.NumericLiteral
kind_of_literal literal_kind.BigInt = token.BigIntLiteral
kind_of_literal literal_kind.Str = token.StringLiteral
kind_of_literal literal_kind.RegExp = token.RegExpLiteral

abbrev pub view_word : Word → Tree
view_word words.This = leaf token.IdentifierName (codes "this")
view_word words.Null = leaf token.IdentifierName (codes "null")
view_word words.True = leaf token.IdentifierName (codes "true")
view_word words.False = leaf token.IdentifierName (codes "false")
view_word words.ImportMeta = node (expression ImportMeta) none
view_word words.NewTarget = node (expression NewTarget) none

abbrev pub word_of : declared.DeclareWord → DeclareWord
word_of declare_word.Var = VarWord
word_of declare_word.Let = LetWord
word_of declare_word.Const = ConstWord

abbrev pub is_optional : LinkForm → Bool
is_optional link_form.Optional = true
is_optional link_form.Plain = false

-- whose member it is
pub data Owner : Type 0 where
  OfObject : Owner
  OfClass : Owner

abbrev pub holder_of : Owner → Placement → Holder
holder_of OfObject p = InObject
holder_of OfClass placement.Instance = InClass
holder_of OfClass placement.Static = Static

-- what a box holds, as it is seen, and what boxes hold
abbrev pub inside : {A B : Type 0} → (A → B) → Box A Global → B
inside f b = f b.value

abbrev pub contents : {A : Type 0} → List (Box A Global) → List A
contents bs = map (λ b. b.value) bs

abbrev pub forest : List Tree → Forest
forest [] = none
forest (t ∷ ts) = part t (forest ts)

-- patterns, which bind or assign
abbrev pub forest_at : Role → List (Role → Tree) → Forest
forest_at r [] = none
forest_at r (t ∷ ts) = part (t r) (forest_at r ts)

abbrev pub optional : Option (Box Tree Global) → Tree
optional None = list none
optional (Some t) = list (part t.value none)

abbrev pub optional_of : {A : Type 0} → (A → Tree) → Option (Box A Global) → Tree
optional_of f None = list none
optional_of f (Some x) = list (part (f x.value) none)

abbrev pub optional_at : Role → Option (Box (Role → Tree) Global) → Tree
optional_at r None = list none
optional_at r (Some t) = list (part (t.value r) none)

abbrev pub optional_at_of : {A : Type 0} → Role → (A → Role → Tree) → Option (Box A Global) → Tree
optional_at_of r f None = list none
optional_at_of r f (Some x) = list (part (f x.value r) none)

abbrev pub optional_name : Option Ident → Tree
optional_name None = list none
optional_name (Some a) = list (part (name_of a) none)

abbrev pub directive : Text → Tree
directive a = node (program Directive) (part (leaf token.StringLiteral (text_of a)) none)

-- a span of a template that another follows: an expression, and the piece behind it
abbrev pub middle : Bool → Tree → Text → Tree
middle b t p = node (expression (TemplateSpan b)) (part t (part (leaf token.TemplateMiddle (text_of p)) none))

abbrev pub middles : Bool → List Text → List Tree → Forest
middles b (p ∷ q ∷ ps) (t ∷ ts) = part (middle b t p) (middles b (q ∷ ps) ts)
middles b ps ts = none

-- the last expression, and the piece behind it
abbrev pub closing : List Text → List Tree → Forest
closing (p ∷ []) (t ∷ []) = part t (part (leaf token.TemplateTail (text_of p)) none)
closing (p ∷ ps) (t ∷ ts) = closing ps ts
closing ps ts = none

-- a template of its pieces and the expressions between them, tagged or not
abbrev pub template : Bool → List Text → List Tree → Tree
template b (p ∷ []) [] = node (expression (PlainTemplate b)) (part (leaf token.NoSubstitution (text_of p)) none)
template b (p ∷ ps) ts = node (expression (SubstitutedTemplate b)) (part (leaf token.TemplateHead (text_of p)) (part (list (middles b ps ts)) (closing ps ts)))
template b [] ts = node (expression (PlainTemplate b)) none

-- the body of a function: its directives and its statements
abbrev pub body : List Text → List Tree → Tree
body ds ss = node (program FunctionBody) (part (list (forest (map directive ds))) (part (list (forest ss)) none))

-- members of an object and of a class
abbrev pub members_of_object : List (Owner → Tree) → Forest
members_of_object [] = none
members_of_object (t ∷ ts) = part (t OfObject) (members_of_object ts)

abbrev pub members_of_class : List (Owner → Tree) → Forest
members_of_class [] = none
members_of_class (t ∷ ts) = part (t OfClass) (members_of_class ts)

-- a shorthand of an object pattern, with an initialiser or without
abbrev pub shorthand : Role → Tree → Option (Box Tree Global) → Tree
shorthand r a None = node (function (ShorthandPat r)) (part a none)
shorthand r a (Some e) = node (function (ShorthandInit r)) (part a (part e.value none))

abbrev pub shorthand_of : {A : Type 0} → (A → Tree) → Role → Tree → Option (Box A Global) → Tree
shorthand_of f r a None = node (function (ShorthandPat r)) (part a none)
shorthand_of f r a (Some e) = node (function (ShorthandInit r)) (part a (part (f e.value) none))

abbrev pub clause : Option (Box Tree Global) → Tree → Tree
clause None ss = node (statement Default) (part ss none)
clause (Some e) ss = node (statement Case) (part e.value (part ss none))

abbrev pub clause_of : {A : Type 0} → (A → Tree) → Option (Box A Global) → Tree → Tree
clause_of f None ss = node (statement Default) (part ss none)
clause_of f (Some e) ss = node (statement Case) (part (f e.value) (part ss none))

abbrev pub container : Option (Box Tree Global) → Tree
container None = node (jsx EmptyContainer) none
container (Some e) = node (jsx Container) (part e.value none)

abbrev pub container_of : {A : Type 0} → (A → Tree) → Option (Box A Global) → Tree
container_of f None = node (jsx EmptyContainer) none
container_of f (Some e) = node (jsx Container) (part (f e.value) none)

abbrev pub jsx_word : Text → Tree
jsx_word a = leaf token.JsxName (text_of a)

abbrev pub view_tag : Tag → Tree
view_tag (tag.Name a) = jsx_word a
view_tag (tag.Namespaced at a b) = node (jsx NamespacedName) (part (jsx_word a) (part (jsx_word b) none))
view_tag (tag.Member at a bs) = node (jsx MemberName) (part (jsx_word a) (part (list (forest (map jsx_word bs.items))) none))

abbrev pub view_attr_name : AttrName → Tree
view_attr_name (attr_name.Name a) = jsx_word a
view_attr_name (attr_name.Namespaced at a b) = node (jsx NamespacedName) (part (jsx_word a) (part (jsx_word b) none))

abbrev pub expr_step : Expr-F Tree Tree Tree Tree Tree Tree Tree (Role → Tree) (Owner → Tree) Tree → Tree
expr_step (Expr-F.«Expr::Ident» at a) = name_of a
expr_step (Expr-F.«Expr::Literal» at k a) = leaf (kind_of_literal k) (text_of a)
expr_step (Expr-F.Word at w) = view_word w
expr_step (Expr-F.Operation a) = a
expr_step (Expr-F.Access a) = a
expr_step (Expr-F.«Expr::Array» at xs) = node (expression Array) (part (list (forest (contents xs.items))) none)
expr_step (Expr-F.«Expr::Object» at xs) = node (expression Object) (part (list (members_of_object (contents xs.items))) none)
expr_step (Expr-F.Template at ps xs) = template false ps.items (contents xs.items)
expr_step (Expr-F.«Expr::Function» at a ps ds ss) = node (function FunctionExpr) (part (optional_of name_of a) (part (list (forest_at Binds (contents ps.items))) (part (body ds.items (contents ss.items)) none)))
expr_step (Expr-F.«Expr::Class» at a e ms) = node (function ClassExpr) (part (optional_of name_of a) (part (optional e) (part (list (members_of_class (contents ms.items))) none)))
expr_step (Expr-F.Jsx a) = a.value
expr_step (Expr-F.«Expr::Paren» at a) = node (expression Parenthesized) (part a.value none)

abbrev pub operation_step : Operation-F Tree Tree Tree Tree Tree Tree Tree (Role → Tree) (Owner → Tree) Tree → Tree
operation_step (Operation-F.Seq at xs) = node (expression Seq) (part (list (forest (contents xs.items))) none)
operation_step (Operation-F.Assign at p a) = node (expression Assign) (part (p.value Assigns) (part a.value none))
operation_step (Operation-F.OpAssign at o p a) = node (expression (OpAssign (assign_of o))) (part (p.value Assigns) (part a.value none))
operation_step (Operation-F.Arrow at ps b) = node (expression Arrow) (part (list (forest_at Binds (contents ps.items))) (part b.value none))
operation_step (Operation-F.ArrowBlock at ps ds ss) = node (expression ArrowBlock) (part (list (forest_at Binds (contents ps.items))) (part (body ds.items (contents ss.items)) none))
operation_step (Operation-F.BareArrow at a b) = node (expression BareArrow) (part (name_of a) (part b.value none))
operation_step (Operation-F.BareArrowBlock at a ds ss) = node (expression BareArrowBlock) (part (name_of a) (part (body ds.items (contents ss.items)) none))
operation_step (Operation-F.Cond at a b c) = node (expression Cond) (part a.value (part b.value (part c.value none)))
operation_step (Operation-F.Binary at o a b) = node (expression (Binary (binary_of o))) (part a.value (part b.value none))
operation_step (Operation-F.Unary at o a) = node (expression (Unary (unary_of o))) (part a.value none)
operation_step (Operation-F.Update at o s p) = node (expression (update_of o s)) (part (p.value Assigns) none)
operation_step (Operation-F.«Operation::Spread» at a) = node (expression Spread) (part a.value none)
operation_step Operation-F.«Operation::Hole» = leaf token.Elision []

abbrev pub access_step : Access-F Tree Tree Tree Tree Tree Tree Tree (Role → Tree) (Owner → Tree) Tree → Tree
access_step (Access-F.«Access::Call» at f xs) = node (expression Call) (part f.value (part (list (forest (contents xs.items))) none))
access_step (Access-F.«Access::Member» at a b) = node (expression Member) (part a.value (part (word b) none))
access_step (Access-F.«Access::Index» at a b) = node (expression Index) (part a.value (part b.value none))
access_step (Access-F.Tagged at a here ps xs) = node (expression Tagged) (part a.value (part (template true ps.items (contents xs.items)) none))
access_step (Access-F.New at f xs) = node (expression New) (part f.value (part (list (forest (contents xs.items))) none))
access_step (Access-F.NewWithoutArguments at f) = node (expression NewWithoutArguments) (part f.value none)
access_step (Access-F.SuperCall at xs) = node (expression SuperCall) (part (list (forest (contents xs.items))) none)
access_step (Access-F.SuperMember at b) = node (expression SuperMember) (part (word b) none)
access_step (Access-F.SuperIndex at b) = node (expression SuperIndex) (part b.value none)
access_step (Access-F.ImportCall at a) = node (expression ImportCall) (part a.value none)
access_step (Access-F.Chain at a xs) = node (expression Chain) (part a.value (part (list (forest (contents xs.items))) none))

abbrev pub link_step : Link-F Tree Tree Tree Tree Tree Tree Tree (Role → Tree) (Owner → Tree) Tree → Tree
link_step (Link-F.«Link::Member» at q b) = node (expression (NameLink (is_optional q))) (part (word b) none)
link_step (Link-F.«Link::Index» at q b) = node (expression (IndexLink (is_optional q))) (part b.value none)
link_step (Link-F.«Link::Call» at q xs) = node (expression (CallLink (is_optional q))) (part (list (forest (contents xs.items))) none)

abbrev pub prop_step : Prop-F Tree Tree Tree Tree Tree Tree Tree (Role → Tree) (Owner → Tree) Tree → Owner → Tree
prop_step (Prop-F.«Prop::Pair» at k a) o = node (expression Property) (part k (part a.value none))
prop_step (Prop-F.«Prop::Shorthand» at a) o = node (expression Shorthand) (part (name_of a) none)
prop_step (Prop-F.«Prop::Spread» at a) o = node (expression Spread) (part a.value none)
prop_step (Prop-F.Method at p k ps ds ss) o = node (function (Method (holder_of o p))) (part k (part (list (forest_at Binds (contents ps.items))) (part (body ds.items (contents ss.items)) none)))
prop_step (Prop-F.Getter at p k ds ss) o = node (function (Getter (holder_of o p))) (part k (part (body ds.items (contents ss.items)) none))
prop_step (Prop-F.Setter at p k q ds ss) o = node (function (Setter (holder_of o p))) (part k (part (q.value Binds) (part (body ds.items (contents ss.items)) none)))
prop_step (Prop-F.Field at p k e) o = node (function (Field (holder_of o p))) (part k (part (optional e) none))

abbrev pub key_step : Key-F Tree Tree Tree Tree Tree Tree Tree (Role → Tree) (Owner → Tree) Tree → Tree
key_step (Key-F.Name a) = word a
key_step (Key-F.«Key::Literal» k a) = leaf (kind_of_literal k) (text_of a)
key_step (Key-F.Computed at a) = node (function ComputedKey) (part a.value none)

abbrev pub pat_step : Pat-F Tree Tree Tree Tree Tree Tree Tree (Role → Tree) (Owner → Tree) Tree → Role → Tree
pat_step (Pat-F.«Pat::Ident» at a) r = name_of a
pat_step (Pat-F.«Pat::Array» at xs) r = node (function (ArrayPat r)) (part (list (forest_at r (contents xs.items))) none)
pat_step (Pat-F.«Pat::Object» at xs) r = node (function (ObjectPat r)) (part (list (forest_at r (contents xs.items))) none)
pat_step (Pat-F.Target a) r = a.value
pat_step (Pat-F.«Pat::Paren» at p) r = node (function ParenTarget) (part (p.value r) none)
pat_step (Pat-F.Binding at p i) r = node (statement Declarator) (part (p.value r) (part (optional i) none))
pat_step (Pat-F.WithInit at p a) r = node (function (WithInit r)) (part (p.value r) (part a.value none))
pat_step (Pat-F.Rest at p) r = node (function (RestPat r)) (part (p.value r) none)
pat_step Pat-F.«Pat::Hole» r = leaf token.Elision []
pat_step (Pat-F.«Pat::Pair» at k p) r = node (function (PropertyPat r)) (part k (part (p.value r) none))
pat_step (Pat-F.«Pat::Shorthand» at a e) r = shorthand r (name_of a) e
pat_step (Pat-F.RestProperty at a) r = node (function (RestProperty r)) (part (name_of a) none)
pat_step (Pat-F.Declaration at w ps) r = node (statement (ForDeclaration (word_of w))) (part (list (forest_at Binds (contents ps.items))) none)
pat_step (Pat-F.Head at w p) r = node (statement (ForBinding (word_of w))) (part (p.value Binds) none)

abbrev pub stmt_step : Stmt-F Tree Tree Tree Tree Tree Tree Tree (Role → Tree) (Owner → Tree) Tree → Tree
stmt_step (Stmt-F.Block at ss) = node (statement Block) (part (list (forest (contents ss.items))) none)
stmt_step (Stmt-F.Var at w ps) = node (statement (Var (word_of w))) (part (list (forest_at Binds (contents ps.items))) none)
stmt_step (Stmt-F.Empty at) = node (statement Empty) none
stmt_step (Stmt-F.Expr at e) = node (statement ExprStmt) (part e.value none)
stmt_step (Stmt-F.Control a) = a
stmt_step (Stmt-F.Continue at a) = node (statement Continue) (part (optional_name a) none)
stmt_step (Stmt-F.Break at a) = node (statement Break) (part (optional_name a) none)
stmt_step (Stmt-F.Return at e) = node (statement Return) (part (optional e) none)
stmt_step (Stmt-F.Throw at e) = node (statement Throw) (part e.value none)
stmt_step (Stmt-F.Debugger at) = node (statement Debugger) none
stmt_step (Stmt-F.«Stmt::Function» at a ps ds ss) = node (statement FunctionDecl) (part (name_of a) (part (list (forest_at Binds (contents ps.items))) (part (body ds.items (contents ss.items)) none)))
stmt_step (Stmt-F.«Stmt::Class» at a e ms) = node (statement ClassDecl) (part (name_of a) (part (optional e) (part (list (members_of_class (contents ms.items))) none)))

abbrev pub control_step : Control-F Tree Tree Tree Tree Tree Tree Tree (Role → Tree) (Owner → Tree) Tree → Tree
control_step (Control-F.If at e s o) = node (statement If) (part e.value (part s.value (part (optional o) none)))
control_step (Control-F.Do at s e) = node (statement Do) (part s.value (part e.value none))
control_step (Control-F.While at e s) = node (statement While) (part e.value (part s.value none))
control_step (Control-F.For at i e u s) = node (statement For) (part (optional_at Assigns i) (part (optional e) (part (optional u) (part s.value none))))
control_step (Control-F.ForIn at h e s) = node (statement ForIn) (part (h.value Assigns) (part e.value (part s.value none)))
control_step (Control-F.ForOf at h e s) = node (statement ForOf) (part (h.value Assigns) (part e.value (part s.value none)))
control_step (Control-F.Label at a s) = node (statement Label) (part (name_of a) (part s.value none))
control_step (Control-F.Switch at e cs) = node (statement Switch) (part e.value (part (list (forest (contents cs.items))) none))
control_step (Control-F.Case at e ss) = clause e (list (forest (contents ss.items)))
control_step (Control-F.Try at b c f) = node (statement Try) (part b.value (part (optional c) (part (optional f) none)))
control_step (Control-F.Catch at p s) = node (statement Catch) (part (optional_at Binds p) (part s.value none))

abbrev pub jsx_step : Jsx-F Tree Tree Tree Tree Tree Tree Tree (Role → Tree) (Owner → Tree) Tree → Tree
jsx_step (Jsx-F.Element at t as') = node (jsx Element) (part (view_tag t) (part (list (forest (contents as'.items))) none))
jsx_step (Jsx-F.ElementWithChildren at t as' xs u) = node (jsx ElementWithChildren) (part (view_tag t) (part (list (forest (contents as'.items))) (part (list (forest (contents xs.items))) (part (view_tag u.value) none))))
jsx_step (Jsx-F.Fragment at xs) = node (jsx Fragment) (part (list (forest (contents xs.items))) none)
jsx_step (Jsx-F.Text at a) = leaf token.JsxText (text_of a)
jsx_step (Jsx-F.Str at a) = leaf token.JsxString (text_of a)
jsx_step (Jsx-F.Container at e) = container e
jsx_step (Jsx-F.«Jsx::Spread» at e) = node (jsx JsxSpread) (part e.value none)
jsx_step (Jsx-F.Attribute at a v) = node (jsx Attribute) (part (view_attr_name a) (part (optional v) none))

abbrev pub view_expr : Expr → Tree
view_expr = fold-Expr Tree Tree Tree Tree Tree Tree Tree (Role → Tree) (Owner → Tree) Tree access_step control_step expr_step jsx_step key_step link_step operation_step pat_step prop_step stmt_step

abbrev pub view_operation : Operation → Tree
view_operation = fold-Operation Tree Tree Tree Tree Tree Tree Tree (Role → Tree) (Owner → Tree) Tree access_step control_step expr_step jsx_step key_step link_step operation_step pat_step prop_step stmt_step

abbrev pub view_access : Access → Tree
view_access = fold-Access Tree Tree Tree Tree Tree Tree Tree (Role → Tree) (Owner → Tree) Tree access_step control_step expr_step jsx_step key_step link_step operation_step pat_step prop_step stmt_step

abbrev pub view_link : Link → Tree
view_link = fold-Link Tree Tree Tree Tree Tree Tree Tree (Role → Tree) (Owner → Tree) Tree access_step control_step expr_step jsx_step key_step link_step operation_step pat_step prop_step stmt_step

abbrev pub view_member : Prop → Owner → Tree
view_member = fold-Prop Tree Tree Tree Tree Tree Tree Tree (Role → Tree) (Owner → Tree) Tree access_step control_step expr_step jsx_step key_step link_step operation_step pat_step prop_step stmt_step

abbrev pub view_key : Key → Tree
view_key = fold-Key Tree Tree Tree Tree Tree Tree Tree (Role → Tree) (Owner → Tree) Tree access_step control_step expr_step jsx_step key_step link_step operation_step pat_step prop_step stmt_step

abbrev pub view_pattern : Pat → Role → Tree
view_pattern = fold-Pat Tree Tree Tree Tree Tree Tree Tree (Role → Tree) (Owner → Tree) Tree access_step control_step expr_step jsx_step key_step link_step operation_step pat_step prop_step stmt_step

abbrev pub view_stmt : Stmt → Tree
view_stmt = fold-Stmt Tree Tree Tree Tree Tree Tree Tree (Role → Tree) (Owner → Tree) Tree access_step control_step expr_step jsx_step key_step link_step operation_step pat_step prop_step stmt_step

abbrev pub view_control : Control → Tree
view_control = fold-Control Tree Tree Tree Tree Tree Tree Tree (Role → Tree) (Owner → Tree) Tree access_step control_step expr_step jsx_step key_step link_step operation_step pat_step prop_step stmt_step

abbrev pub view_jsx : Jsx → Tree
view_jsx = fold-Jsx Tree Tree Tree Tree Tree Tree Tree (Role → Tree) (Owner → Tree) Tree access_step control_step expr_step jsx_step key_step link_step operation_step pat_step prop_step stmt_step

-- a pattern that binds, and one that assigns
abbrev pub view_pat : Pat → Tree
view_pat p = view_pattern p Binds

abbrev pub view_target : Pat → Tree
view_target p = view_pattern p Assigns
