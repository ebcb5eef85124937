-- The code's tree with the places of its calls: one equation for each variant.
use Rattle.std.proofs.Common.{◌≡◌, ◌∙◌, refl, sym, ap, map, List, [], ◌∷◌, Bool, true, false, ◌&&◌, Option, Some, None, Box, Vec, Global}
use Rattle.jsx_base.specs.Token as token
use Rattle.jsx_base.specs.declared.place.BytePos.{BytePos}
use Rattle.jsx_base.specs.declared.place.Span.{Span}
use Rattle.jsx_tree.specs.declared.text.Text.{Text}
use Rattle.jsx_tree.specs.declared.text.Ident.{Ident}
use Rattle.jsx_tree.specs.declared.text.LiteralKind.{LiteralKind}
use Rattle.jsx_tree.specs.declared.text.Word.{Word}
use Rattle.jsx_tree.specs.declared.text.DeclareWord as declared
use Rattle.jsx_tree.specs.declared.text.LinkForm.{LinkForm}
use Rattle.jsx_tree.specs.declared.text.Placement.{Placement}
use Rattle.jsx_tree.specs.declared.operator.BinaryOp as code_binary
use Rattle.jsx_tree.specs.declared.operator.AssignOp.{AssignOp}
use Rattle.jsx_tree.specs.declared.operator.UnaryOp as code_unary
use Rattle.jsx_tree.specs.declared.operator.UpdateOp as code_update
use Rattle.jsx_tree.specs.declared.operator.UpdateSide.{UpdateSide}
use Rattle.jsx_tree.specs.ViewOperators.{binary_of, assign_of, unary_of, update_of}
use Rattle.jsx_tree.specs.declared.tree.Expr.{Expr}
use Rattle.jsx_tree.specs.declared.tree.Operation.{Operation}
use Rattle.jsx_tree.specs.declared.tree.Access.{Access}
use Rattle.jsx_tree.specs.declared.tree.Link.{Link}
use Rattle.jsx_tree.specs.declared.tree.Prop.{Prop}
use Rattle.jsx_tree.specs.declared.tree.Key.{Key}
use Rattle.jsx_tree.specs.declared.tree.Pat.{Pat}
use Rattle.jsx_tree.specs.declared.tree.Stmt.{Stmt}
use Rattle.jsx_tree.specs.declared.tree.Control.{Control}
use Rattle.jsx_tree.specs.declared.tree.Expr.TheVariants as expr
use Rattle.jsx_tree.specs.declared.tree.Operation.TheVariants as operation
use Rattle.jsx_tree.specs.declared.tree.Access.TheVariants as access
use Rattle.jsx_tree.specs.declared.tree.Link.TheVariants as link
use Rattle.jsx_tree.specs.declared.tree.Prop.TheVariants as prop
use Rattle.jsx_tree.specs.declared.tree.Key.TheVariants as key
use Rattle.jsx_tree.specs.declared.tree.Pat.TheVariants as pat
use Rattle.jsx_tree.specs.declared.tree.Stmt.TheVariants as stmt
use Rattle.jsx_tree.specs.declared.tree.Control.TheVariants as control
use Rattle.jsx_tree.specs.Kinds.{Kind, Block, Var, Declarator, Empty, ExprStmt, If, Do, While, For, ForDeclaration, ForIn, ForOf, ForBinding, Continue, Break, Return, Throw, Debugger, Label, Switch, Try, Catch, FunctionDecl, ClassDecl, Role, Binds, Assigns, FunctionExpr, ClassExpr, Method, Getter, Setter, Field, ComputedKey, ArrayPat, ObjectPat, PropertyPat, WithInit, RestPat, RestProperty, ParenTarget, Seq, Assign, OpAssign, Arrow, ArrowBlock, BareArrow, BareArrowBlock, Cond, Binary, Unary, Call, Member, Index, Tagged, New, NewWithoutArguments, SuperCall, SuperMember, SuperIndex, ImportCall, Chain, NameLink, IndexLink, CallLink, Array, Object, Property, Shorthand, Spread, Parenthesized, statement, function, expression, Tree, leaf, node, list, none, part, program, Module, Script, FunctionBody, ImportBare, Import, ImportList, ImportBoth, ExportNames, ExportFrom, ExportAll, ExportAllAs, ExportDecl, ExportDefaultFn, ExportDefaultClass, ExportDefaultExpr, Side, Imported, Exported, From, Forest, SubstitutedTemplate, Case, Default}
use Rattle.jsx_tree.specs.View.{Owner, OfObject, OfClass, inside, text_of, word, name_of, kind_of_literal, view_word, word_of, is_optional, holder_of, forest, forest_at, optional_of, optional_at_of, optional_name, directive, middle, middles, closing, template, body, members_of_object, members_of_class, shorthand_of, clause_of, view_access, view_control, view_expr, view_link, view_member, view_pattern, view_stmt}
use Rattle.jsx_tree.specs.ViewProgram.{source_of, view_import_clause, view_import_names, view_item, view_specifier}
use Rattle.jsx_tree.specs.Spans.{Told, tells, Tales}
use Rattle.jsx_tree.specs.Told.{tales, told_list, told_optional, led_by, told_text, told_node, told_ident, told_name, told_body, told_directive, told_middles, told_closing, told_template, told_access, told_control, told_expr, told_link, told_pat, told_prop, told_stmt, told_specifier, told_import_names, told_import_clause, told_item}
use Rattle.jsx_tree.specs.declared.text.Word.TheVariants as words
use Rattle.jsx_tree.specs.declared.operator.UpdateSide.TheVariants as side
use Rattle.jsx_tree.specs.declared.program.Module as declared_module
use Rattle.jsx_tree.specs.declared.program.Script as declared_script
use Rattle.jsx_tree.specs.declared.program.Program.TheVariants as programs
use Rattle.jsx_tree.specs.declared.program.Item.{Item}
use Rattle.jsx_tree.specs.declared.program.Item.TheVariants as item
use Rattle.jsx_tree.specs.declared.program.ImportClause.{ImportClause}
use Rattle.jsx_tree.specs.declared.program.ImportClause.TheVariants as import_clause
use Rattle.jsx_tree.specs.declared.program.ImportNames.{ImportNames}
use Rattle.jsx_tree.specs.declared.program.ImportNames.TheVariants as import_names
use Rattle.jsx_tree.specs.declared.program.Specifier.{Specifier}
use Rattle.jsx_tree.specs.declared.program.Specifier.TheVariants as specifier
use Rattle.jsx_tree.specs.Form.{positions}
use Rattle.jsx_tree.specs.Normal.{is_empty, laid_node, laid_tree, mades}
use Rattle.jsx_tree.proofs.Views.{ap_2, view-Expr-Jsx, view-Expr-Ident, view-Expr-Literal, view-Expr-Word, view-Expr-Operation, view-Expr-Access, view-Expr-Array, view-Expr-Object, view-Expr-Template, view-Expr-Function, view-Expr-Class, view-Expr-Paren, view-Operation-Seq, view-Operation-Assign, view-Operation-OpAssign, view-Operation-Arrow, view-Operation-ArrowBlock, view-Operation-BareArrow, view-Operation-BareArrowBlock, view-Operation-Cond, view-Operation-Binary, view-Operation-Unary, view-Operation-Update, view-Operation-Spread, view-Operation-Hole, view-Access-Call, view-Access-Member, view-Access-Index, view-Access-Tagged, view-Access-New, view-Access-NewWithoutArguments, view-Access-SuperCall, view-Access-SuperMember, view-Access-SuperIndex, view-Access-ImportCall, view-Access-Chain, view-Link-Member, view-Link-Index, view-Link-Call, view-Prop-Pair, view-Prop-Shorthand, view-Prop-Spread, view-Prop-Method, view-Prop-Getter, view-Prop-Setter, view-Prop-Field, view-Key-Name, view-Key-Literal, view-Key-Computed, view-Pat-Ident, view-Pat-Array, view-Pat-Object, view-Pat-Target, view-Pat-Paren, view-Pat-Binding, view-Pat-WithInit, view-Pat-Rest, view-Pat-Hole, view-Pat-Pair, view-Pat-Shorthand, view-Pat-RestProperty, view-Pat-Declaration, view-Pat-Head, view-Stmt-Block, view-Stmt-Var, view-Stmt-Empty, view-Stmt-Expr, view-Stmt-Control, view-Stmt-Continue, view-Stmt-Break, view-Stmt-Return, view-Stmt-Throw, view-Stmt-Debugger, view-Stmt-Function, view-Stmt-Class, view-Control-If, view-Control-Do, view-Control-While, view-Control-For, view-Control-ForIn, view-Control-ForOf, view-Control-Label, view-Control-Switch, view-Control-Case, view-Control-Try, view-Control-Catch}
use Rattle.jsx_tree.proofs.Telling.{told-Expr-Ident, told-Expr-Literal, told-Expr-Word, told-Expr-Operation, told-Expr-Access, told-Expr-Array, told-Expr-Object, told-Expr-Template, told-Expr-Function, told-Expr-Class, told-Expr-Paren, told-Operation-Seq, told-Operation-Assign, told-Operation-OpAssign, told-Operation-Arrow, told-Operation-ArrowBlock, told-Operation-BareArrow, told-Operation-BareArrowBlock, told-Operation-Cond, told-Operation-Binary, told-Operation-Unary, told-Operation-Update, told-Operation-Spread, told-Operation-Hole, told-Access-Call, told-Access-Member, told-Access-Index, told-Access-Tagged, told-Access-New, told-Access-NewWithoutArguments, told-Access-SuperCall, told-Access-SuperMember, told-Access-SuperIndex, told-Access-ImportCall, told-Access-Chain, told-Link-Member, told-Link-Index, told-Link-Call, told-Prop-Pair, told-Prop-Shorthand, told-Prop-Spread, told-Prop-Method, told-Prop-Getter, told-Prop-Setter, told-Prop-Field, told-Key-Name, told-Key-Literal, told-Key-Computed, told-Pat-Ident, told-Pat-Array, told-Pat-Object, told-Pat-Target, told-Pat-Paren, told-Pat-Binding, told-Pat-WithInit, told-Pat-Rest, told-Pat-Hole, told-Pat-Pair, told-Pat-Shorthand, told-Pat-RestProperty, told-Pat-Declaration, told-Pat-Head, told-Stmt-Block, told-Stmt-Var, told-Stmt-Empty, told-Stmt-Expr, told-Stmt-Control, told-Stmt-Continue, told-Stmt-Break, told-Stmt-Return, told-Stmt-Throw, told-Stmt-Debugger, told-Stmt-Function, told-Stmt-Class, told-Control-If, told-Control-Do, told-Control-While, told-Control-For, told-Control-ForIn, told-Control-ForOf, told-Control-Label, told-Control-Switch, told-Control-Case, told-Control-Try, told-Control-Catch}
use Rattle.jsx_tree.specs.declared.tree.Jsx.{Jsx}
use Rattle.jsx_tree.specs.Spelling.{joined}
use Rattle.jsx_tree.specs.Normal.{each_made}
use Rattle.jsx_pen.specs.Pen.{is_void, signs}
use Rattle.jsx_pen.proofs.Noting.{void_append}
use Rattle.jsx_pen.specs.Calls.{said, each_said, first_of, others, from_call, noted, noteds, parts_of, with_place}
use Rattle.jsx_plan.specs.Noted.{noted_access, noted_control, noted_expr, noted_item, noted_key, noted_link, noted_member, noted_operation, noted_pattern, noted_program, noted_stmt}
use Rattle.jsx_plan.proofs.Solid as bare
use Rattle.jsx_plan.proofs.Solid.{void_literal, void_word, void_template}

-- ---- the trees of one place

forest_noted : {A : Type 0} (f : A → Tree) (g : A → Told) (xs : List (Box A Global)) → noteds (forest (map (inside f) xs)) (tales (map (inside g) xs)) ≡ forest (map (inside (λ x. noted (f x) (g x))) xs)
forest_noted f g [] = refl
forest_noted f g (x ∷ xs) = ap (part (noted (f x.value) (g x.value))) (forest_noted f g xs)

patterns_noted : (r : Role) (xs : List (Box Pat Global)) → noteds (forest_at r (map (inside view_pattern) xs)) (tales (map (inside told_pat) xs)) ≡ forest_at r (map (inside noted_pattern) xs)
unfolding noted_pattern
patterns_noted r [] = refl
patterns_noted r (x ∷ xs) = ap (part (noted (view_pattern x.value r) (told_pat x.value))) (patterns_noted r xs)

object_noted : (xs : List (Box Prop Global)) → noteds (members_of_object (map (inside view_member) xs)) (tales (map (inside told_prop) xs)) ≡ members_of_object (map (inside noted_member) xs)
unfolding noted_member
object_noted [] = refl
object_noted (x ∷ xs) = ap (part (noted (view_member x.value OfObject) (told_prop x.value))) (object_noted xs)

class_noted : (xs : List (Box Prop Global)) → noteds (members_of_class (map (inside view_member) xs)) (tales (map (inside told_prop) xs)) ≡ members_of_class (map (inside noted_member) xs)
unfolding noted_member
class_noted [] = refl
class_noted (x ∷ xs) = ap (part (noted (view_member x.value OfClass) (told_prop x.value))) (class_noted xs)

directives_noted : (ds : List Text) → noteds (forest (map directive ds)) (tales (map told_directive ds)) ≡ forest (map directive ds)
directives_noted [] = refl
directives_noted (d ∷ ds) = ap (part (directive d)) (directives_noted ds)

body_noted : (ds : List Text) (ss : List (Box Stmt Global)) → noted (body ds (map (inside view_stmt) ss)) (told_body ds (map (inside told_stmt) ss)) ≡ body ds (map (inside noted_stmt) ss)
unfolding noted_stmt
body_noted ds ss = ap_2 (λ u v. node (program FunctionBody) (part (list u) (part (list v) none))) (directives_noted ds) (forest_noted view_stmt told_stmt ss)

-- ---- parts that may be absent

option_noted : {A : Type 0} (f : A → Tree) (g : A → Told) (e : Option (Box A Global)) → noted (optional_of f e) (told_optional g e) ≡ optional_of (λ x. noted (f x) (g x)) e
option_noted f g None = refl
option_noted f g (Some x) = refl

boxed_noted : (a : Option (Box Ident Global)) → noted (optional_of name_of a) (told_optional told_ident a) ≡ optional_of name_of a
boxed_noted None = refl
boxed_noted (Some a) = refl

name_noted : (a : Option Ident) → noted (optional_name a) (told_name a) ≡ optional_name a
name_noted None = refl
name_noted (Some a) = refl

pattern_noted : (r : Role) (e : Option (Box Pat Global)) → noted (optional_at_of r view_pattern e) (told_optional told_pat e) ≡ optional_at_of r noted_pattern e
unfolding noted_pattern
pattern_noted r None = refl
pattern_noted r (Some x) = refl

-- ---- words, templates, and what an optional part makes another node

word_noted : (at : Option Span) (w : Word) → noted (view_word w) (told_node at []) ≡ view_word w
word_noted at words.ImportMeta = refl
word_noted at words.NewTarget = refl
word_noted at _ = refl

middles_noted : (b : Bool) (ps : List Text) (xs : List (Box Expr Global)) → noteds (middles b ps (map (inside view_expr) xs)) (tales (told_middles ps (map (inside told_expr) xs))) ≡ middles b ps (map (inside noted_expr) xs)
unfolding noted_expr
middles_noted b [] xs = refl
middles_noted b (p ∷ []) xs = refl
middles_noted b (p ∷ q ∷ ps) [] = refl
middles_noted b (p ∷ q ∷ ps) (x ∷ xs) = ap (part (middle b (noted (view_expr x.value) (told_expr x.value)) p)) (middles_noted b (q ∷ ps) xs)

closing_noted : (ps : List Text) (xs : List (Box Expr Global)) → noteds (closing ps (map (inside view_expr) xs)) (tales (told_closing ps (map (inside told_expr) xs))) ≡ closing ps (map (inside noted_expr) xs)
unfolding noted_expr
closing_noted [] xs = refl
closing_noted (p ∷ []) [] = refl
closing_noted (p ∷ []) (x ∷ []) = refl
closing_noted (p ∷ []) (x ∷ y ∷ xs) = refl
closing_noted (p ∷ q ∷ ps) [] = refl
closing_noted (p ∷ q ∷ ps) (x ∷ xs) = closing_noted (q ∷ ps) xs

template_noted : (at : Option Span) (b : Bool) (ps : List Text) (xs : List (Box Expr Global)) → noted (template b ps (map (inside view_expr) xs)) (told_template at ps (map (inside told_expr) xs)) ≡ template b ps (map (inside noted_expr) xs)
template_noted at b [] xs = refl
template_noted at b (p ∷ []) [] = refl
template_noted at b (p ∷ []) (x ∷ xs) = ap_2 (λ u v. node (expression (SubstitutedTemplate b)) (part (leaf token.TemplateHead (text_of p)) (part (list u) v))) (middles_noted b [] (x ∷ xs)) (closing_noted [] (x ∷ xs))
template_noted at b (p ∷ q ∷ ps) xs = ap_2 (λ u v. node (expression (SubstitutedTemplate b)) (part (leaf token.TemplateHead (text_of p)) (part (list u) v))) (middles_noted b (q ∷ ps) xs) (closing_noted (q ∷ ps) xs)

shorthand_noted : (at : Option Span) (r : Role) (a : Ident) (e : Option (Box Expr Global)) → noted (shorthand_of view_expr r (name_of a) e) (told_node at (told_text a.text ∷ led_by told_expr e [])) ≡ shorthand_of noted_expr r (name_of a) e
unfolding noted_expr
shorthand_noted at r a None = refl
shorthand_noted at r a (Some x) = refl

clause_noted : (at : Option Span) (e : Option (Box Expr Global)) (ss : List (Box Stmt Global)) → noted (clause_of view_expr e (list (forest (map (inside view_stmt) ss)))) (told_node at (led_by told_expr e (told_list (map (inside told_stmt) ss) ∷ []))) ≡ clause_of noted_expr e (list (forest (map (inside noted_stmt) ss)))
unfolding noted_expr noted_stmt
clause_noted at None ss = ap (λ u. node (statement Default) (part (list u) none)) (forest_noted view_stmt told_stmt ss)
clause_noted at (Some e) ss = ap (λ u. node (statement Case) (part (noted (view_expr e.value) (told_expr e.value)) (part (list u) none))) (forest_noted view_stmt told_stmt ss)

-- ---- each variant

pub noted-Expr-Ident : (at : Option Span) (a : Ident) → noted_expr (expr.Ident at a) ≡ name_of a
unfolding noted_expr
noted-Expr-Ident at a = ap_2 noted (view-Expr-Ident at a) (told-Expr-Ident at a)

pub noted-Expr-Literal : (at : Option Span) (k : LiteralKind) (a : Text) → noted_expr (expr.Literal at k a) ≡ leaf (kind_of_literal k) (text_of a)
unfolding noted_expr
noted-Expr-Literal at k a = ap_2 noted (view-Expr-Literal at k a) (told-Expr-Literal at k a)

pub noted-Expr-Word : (at : Option Span) (w : Word) → noted_expr (expr.Word at w) ≡ view_word w
unfolding noted_expr
noted-Expr-Word at w = ap_2 noted (view-Expr-Word at w) (told-Expr-Word at w) ∙ word_noted at w

pub noted-Expr-Operation : (a : Operation) → noted_expr (expr.Operation a) ≡ (noted_operation a)
unfolding noted_expr noted_operation
noted-Expr-Operation a = ap_2 noted (view-Expr-Operation a) (told-Expr-Operation a)

pub noted-Expr-Access : (a : Access) → noted_expr (expr.Access a) ≡ (noted_access a)
unfolding noted_access noted_expr
noted-Expr-Access a = ap_2 noted (view-Expr-Access a) (told-Expr-Access a)

pub noted-Expr-Array : (at : Option Span) (xs : Vec (Box Expr Global) Global) → noted_expr (expr.Array at xs) ≡ node (expression Array) (part (list (forest (map (inside noted_expr) xs.items))) none)
unfolding noted_expr
noted-Expr-Array at xs = ap_2 noted (view-Expr-Array at xs) (told-Expr-Array at xs)
    ∙ ap (λ u. node (expression Array) (part (list u) none)) (forest_noted view_expr told_expr xs.items)

pub noted-Expr-Object : (at : Option Span) (xs : Vec (Box Prop Global) Global) → noted_expr (expr.Object at xs) ≡ node (expression Object) (part (list (members_of_object (map (inside noted_member) xs.items))) none)
unfolding noted_expr noted_member
noted-Expr-Object at xs = ap_2 noted (view-Expr-Object at xs) (told-Expr-Object at xs)
    ∙ ap (λ u. node (expression Object) (part (list u) none)) (object_noted xs.items)

pub noted-Expr-Template : (at : Option Span) (ps : Vec Text Global) (xs : Vec (Box Expr Global) Global) → noted_expr (expr.Template at ps xs) ≡ template false ps.items (map (inside noted_expr) xs.items)
unfolding noted_expr
noted-Expr-Template at ps xs = ap_2 noted (view-Expr-Template at ps xs) (told-Expr-Template at ps xs) ∙ template_noted at false ps.items xs.items

pub noted-Expr-Function : (at : Option Span) (a : Option (Box Ident Global)) (ps : Vec (Box Pat Global) Global) (ds : Vec Text Global) (ss : Vec (Box Stmt Global) Global) → noted_expr (expr.Function at a ps ds ss) ≡ node (function FunctionExpr) (part (optional_of name_of a) (part (list (forest_at Binds (map (inside noted_pattern) ps.items))) (part (body ds.items (map (inside noted_stmt) ss.items)) none)))
unfolding noted_expr noted_pattern noted_stmt
noted-Expr-Function at a ps ds ss = ap_2 noted (view-Expr-Function at a ps ds ss) (told-Expr-Function at a ps ds ss)
    ∙ ap (λ u. node (function FunctionExpr) (part u (part (list (noteds (forest_at Binds (map (inside view_pattern) ps.items)) (tales (map (inside told_pat) ps.items)))) (part (noted (body ds.items (map (inside view_stmt) ss.items)) (told_body ds.items (map (inside told_stmt) ss.items))) none)))) (boxed_noted a)
    ∙ ap (λ u. node (function FunctionExpr) (part (optional_of name_of a) (part (list u) (part (noted (body ds.items (map (inside view_stmt) ss.items)) (told_body ds.items (map (inside told_stmt) ss.items))) none)))) (patterns_noted Binds ps.items)
    ∙ ap (λ u. node (function FunctionExpr) (part (optional_of name_of a) (part (list (forest_at Binds (map (inside noted_pattern) ps.items))) (part u none)))) (body_noted ds.items ss.items)

pub noted-Expr-Class : (at : Option Span) (a : Option (Box Ident Global)) (e : Option (Box Expr Global)) (ms : Vec (Box Prop Global) Global) → noted_expr (expr.Class at a e ms) ≡ node (function ClassExpr) (part (optional_of name_of a) (part (optional_of noted_expr e) (part (list (members_of_class (map (inside noted_member) ms.items))) none)))
unfolding noted_expr noted_member
noted-Expr-Class at a e ms = ap_2 noted (view-Expr-Class at a e ms) (told-Expr-Class at a e ms)
    ∙ ap (λ u. node (function ClassExpr) (part u (part (noted (optional_of view_expr e) (told_optional told_expr e)) (part (list (noteds (members_of_class (map (inside view_member) ms.items)) (tales (map (inside told_prop) ms.items)))) none)))) (boxed_noted a)
    ∙ ap (λ u. node (function ClassExpr) (part (optional_of name_of a) (part u (part (list (noteds (members_of_class (map (inside view_member) ms.items)) (tales (map (inside told_prop) ms.items)))) none)))) (option_noted view_expr told_expr e)
    ∙ ap (λ u. node (function ClassExpr) (part (optional_of name_of a) (part (optional_of noted_expr e) (part (list u) none)))) (class_noted ms.items)

pub noted-Expr-Paren : (at : Option Span) (a : Box Expr Global) → noted_expr (expr.Paren at a) ≡ node (expression Parenthesized) (part (noted_expr a.value) none)
unfolding noted_expr
noted-Expr-Paren at a = ap_2 noted (view-Expr-Paren at a) (told-Expr-Paren at a)

pub noted-Operation-Seq : (at : Option Span) (xs : Vec (Box Expr Global) Global) → noted_operation (operation.Seq at xs) ≡ node (expression Seq) (part (list (forest (map (inside noted_expr) xs.items))) none)
unfolding noted_expr noted_operation
noted-Operation-Seq at xs = ap_2 noted (view-Operation-Seq at xs) (told-Operation-Seq at xs)
    ∙ ap (λ u. node (expression Seq) (part (list u) none)) (forest_noted view_expr told_expr xs.items)

pub noted-Operation-Assign : (at : Option Span) (p : Box Pat Global) (a : Box Expr Global) → noted_operation (operation.Assign at p a) ≡ node (expression Assign) (part ((noted_pattern p.value) Assigns) (part (noted_expr a.value) none))
unfolding noted_expr noted_operation noted_pattern
noted-Operation-Assign at p a = ap_2 noted (view-Operation-Assign at p a) (told-Operation-Assign at p a)

pub noted-Operation-OpAssign : (at : Option Span) (o : AssignOp) (p : Box Pat Global) (a : Box Expr Global) → noted_operation (operation.OpAssign at o p a) ≡ node (expression (OpAssign (assign_of o))) (part ((noted_pattern p.value) Assigns) (part (noted_expr a.value) none))
unfolding noted_expr noted_operation noted_pattern
noted-Operation-OpAssign at o p a = ap_2 noted (view-Operation-OpAssign at o p a) (told-Operation-OpAssign at o p a)

pub noted-Operation-Arrow : (at : Option Span) (ps : Vec (Box Pat Global) Global) (b : Box Expr Global) → noted_operation (operation.Arrow at ps b) ≡ node (expression Arrow) (part (list (forest_at Binds (map (inside noted_pattern) ps.items))) (part (noted_expr b.value) none))
unfolding noted_expr noted_operation noted_pattern
noted-Operation-Arrow at ps b = ap_2 noted (view-Operation-Arrow at ps b) (told-Operation-Arrow at ps b)
    ∙ ap (λ u. node (expression Arrow) (part (list u) (part (noted_expr b.value) none))) (patterns_noted Binds ps.items)

pub noted-Operation-ArrowBlock : (at : Option Span) (ps : Vec (Box Pat Global) Global) (ds : Vec Text Global) (ss : Vec (Box Stmt Global) Global) → noted_operation (operation.ArrowBlock at ps ds ss) ≡ node (expression ArrowBlock) (part (list (forest_at Binds (map (inside noted_pattern) ps.items))) (part (body ds.items (map (inside noted_stmt) ss.items)) none))
unfolding noted_operation noted_pattern noted_stmt
noted-Operation-ArrowBlock at ps ds ss = ap_2 noted (view-Operation-ArrowBlock at ps ds ss) (told-Operation-ArrowBlock at ps ds ss)
    ∙ ap (λ u. node (expression ArrowBlock) (part (list u) (part (noted (body ds.items (map (inside view_stmt) ss.items)) (told_body ds.items (map (inside told_stmt) ss.items))) none))) (patterns_noted Binds ps.items)
    ∙ ap (λ u. node (expression ArrowBlock) (part (list (forest_at Binds (map (inside noted_pattern) ps.items))) (part u none))) (body_noted ds.items ss.items)

pub noted-Operation-BareArrow : (at : Option Span) (a : Ident) (b : Box Expr Global) → noted_operation (operation.BareArrow at a b) ≡ node (expression BareArrow) (part (name_of a) (part (noted_expr b.value) none))
unfolding noted_expr noted_operation
noted-Operation-BareArrow at a b = ap_2 noted (view-Operation-BareArrow at a b) (told-Operation-BareArrow at a b)

pub noted-Operation-BareArrowBlock : (at : Option Span) (a : Ident) (ds : Vec Text Global) (ss : Vec (Box Stmt Global) Global) → noted_operation (operation.BareArrowBlock at a ds ss) ≡ node (expression BareArrowBlock) (part (name_of a) (part (body ds.items (map (inside noted_stmt) ss.items)) none))
unfolding noted_operation noted_stmt
noted-Operation-BareArrowBlock at a ds ss = ap_2 noted (view-Operation-BareArrowBlock at a ds ss) (told-Operation-BareArrowBlock at a ds ss)
    ∙ ap (λ u. node (expression BareArrowBlock) (part (name_of a) (part u none))) (body_noted ds.items ss.items)

pub noted-Operation-Cond : (at : Option Span) (a : Box Expr Global) (b : Box Expr Global) (c : Box Expr Global) → noted_operation (operation.Cond at a b c) ≡ node (expression Cond) (part (noted_expr a.value) (part (noted_expr b.value) (part (noted_expr c.value) none)))
unfolding noted_expr noted_operation
noted-Operation-Cond at a b c = ap_2 noted (view-Operation-Cond at a b c) (told-Operation-Cond at a b c)

pub noted-Operation-Binary : (at : Option Span) (o : code_binary.BinaryOp) (a : Box Expr Global) (b : Box Expr Global) → noted_operation (operation.Binary at o a b) ≡ node (expression (Binary (binary_of o))) (part (noted_expr a.value) (part (noted_expr b.value) none))
unfolding noted_expr noted_operation
noted-Operation-Binary at o a b = ap_2 noted (view-Operation-Binary at o a b) (told-Operation-Binary at o a b)

pub noted-Operation-Unary : (at : Option Span) (o : code_unary.UnaryOp) (a : Box Expr Global) → noted_operation (operation.Unary at o a) ≡ node (expression (Unary (unary_of o))) (part (noted_expr a.value) none)
unfolding noted_expr noted_operation
noted-Operation-Unary at o a = ap_2 noted (view-Operation-Unary at o a) (told-Operation-Unary at o a)

pub noted-Operation-Update : (at : Option Span) (o : code_update.UpdateOp) (s : UpdateSide) (p : Box Pat Global) → noted_operation (operation.Update at o s p) ≡ node (expression (update_of o s)) (part ((noted_pattern p.value) Assigns) none)
unfolding noted_operation noted_pattern
noted-Operation-Update at o side.Before p = ap_2 noted (view-Operation-Update at o side.Before p) (told-Operation-Update at o side.Before p)
noted-Operation-Update at o side.After p = ap_2 noted (view-Operation-Update at o side.After p) (told-Operation-Update at o side.After p)

pub noted-Operation-Spread : (at : Option Span) (a : Box Expr Global) → noted_operation (operation.Spread at a) ≡ node (expression Spread) (part (noted_expr a.value) none)
unfolding noted_expr noted_operation
noted-Operation-Spread at a = ap_2 noted (view-Operation-Spread at a) (told-Operation-Spread at a)

pub noted-Operation-Hole : noted_operation operation.Hole ≡ leaf token.Elision []
unfolding noted_operation
noted-Operation-Hole = ap_2 noted (view-Operation-Hole) (told-Operation-Hole)

pub noted-Access-Call : (at : Option Span) (f : Box Expr Global) (xs : Vec (Box Expr Global) Global) → noted_access (access.Call at f xs) ≡ node (expression Call) (part (from_call at (noted_expr f.value)) (part (list (forest (map (inside noted_expr) xs.items))) none))
unfolding noted_access noted_expr
noted-Access-Call at f xs = ap_2 noted (view-Access-Call at f xs) (told-Access-Call at f xs)
    ∙ ap (λ u. node (expression Call) (part (from_call at (noted_expr f.value)) (part (list u) none))) (forest_noted view_expr told_expr xs.items)

pub noted-Access-Member : (at : Option Span) (a : Box Expr Global) (b : Text) → noted_access (access.Member at a b) ≡ node (expression Member) (part (noted_expr a.value) (part (word b) none))
unfolding noted_access noted_expr
noted-Access-Member at a b = ap_2 noted (view-Access-Member at a b) (told-Access-Member at a b)

pub noted-Access-Index : (at : Option Span) (a : Box Expr Global) (b : Box Expr Global) → noted_access (access.Index at a b) ≡ node (expression Index) (part (noted_expr a.value) (part (noted_expr b.value) none))
unfolding noted_access noted_expr
noted-Access-Index at a b = ap_2 noted (view-Access-Index at a b) (told-Access-Index at a b)

pub noted-Access-Tagged : (at : Option Span) (a : Box Expr Global) (here : Option Span) (ps : Vec Text Global) (xs : Vec (Box Expr Global) Global) → noted_access (access.Tagged at a here ps xs) ≡ node (expression Tagged) (part (noted_expr a.value) (part (template true ps.items (map (inside noted_expr) xs.items)) none))
unfolding noted_access noted_expr
noted-Access-Tagged at a here ps xs = ap_2 noted (view-Access-Tagged at a here ps xs) (told-Access-Tagged at a here ps xs)
    ∙ ap (λ u. node (expression Tagged) (part (noted_expr a.value) (part u none))) (template_noted here true ps.items xs.items)

pub noted-Access-New : (at : Option Span) (f : Box Expr Global) (xs : Vec (Box Expr Global) Global) → noted_access (access.New at f xs) ≡ node (expression New) (part (noted_expr f.value) (part (list (forest (map (inside noted_expr) xs.items))) none))
unfolding noted_access noted_expr
noted-Access-New at f xs = ap_2 noted (view-Access-New at f xs) (told-Access-New at f xs)
    ∙ ap (λ u. node (expression New) (part (noted_expr f.value) (part (list u) none))) (forest_noted view_expr told_expr xs.items)

pub noted-Access-NewWithoutArguments : (at : Option Span) (f : Box Expr Global) → noted_access (access.NewWithoutArguments at f) ≡ node (expression NewWithoutArguments) (part (noted_expr f.value) none)
unfolding noted_access noted_expr
noted-Access-NewWithoutArguments at f = ap_2 noted (view-Access-NewWithoutArguments at f) (told-Access-NewWithoutArguments at f)

pub noted-Access-SuperCall : (at : Option Span) (xs : Vec (Box Expr Global) Global) → noted_access (access.SuperCall at xs) ≡ node (expression SuperCall) (part (list (forest (map (inside noted_expr) xs.items))) none)
unfolding noted_access noted_expr
noted-Access-SuperCall at xs = ap_2 noted (view-Access-SuperCall at xs) (told-Access-SuperCall at xs)
    ∙ ap (λ u. node (expression SuperCall) (part (list u) none)) (forest_noted view_expr told_expr xs.items)

pub noted-Access-SuperMember : (at : Option Span) (b : Text) → noted_access (access.SuperMember at b) ≡ node (expression SuperMember) (part (word b) none)
unfolding noted_access
noted-Access-SuperMember at b = ap_2 noted (view-Access-SuperMember at b) (told-Access-SuperMember at b)

pub noted-Access-SuperIndex : (at : Option Span) (b : Box Expr Global) → noted_access (access.SuperIndex at b) ≡ node (expression SuperIndex) (part (noted_expr b.value) none)
unfolding noted_access noted_expr
noted-Access-SuperIndex at b = ap_2 noted (view-Access-SuperIndex at b) (told-Access-SuperIndex at b)

pub noted-Access-ImportCall : (at : Option Span) (a : Box Expr Global) → noted_access (access.ImportCall at a) ≡ node (expression ImportCall) (part (noted_expr a.value) none)
unfolding noted_access noted_expr
noted-Access-ImportCall at a = ap_2 noted (view-Access-ImportCall at a) (told-Access-ImportCall at a)

pub noted-Access-Chain : (at : Option Span) (a : Box Expr Global) (xs : Vec (Box Link Global) Global) → noted_access (access.Chain at a xs) ≡ node (expression Chain) (part (noted_expr a.value) (part (list (forest (map (inside noted_link) xs.items))) none))
unfolding noted_access noted_expr noted_link
noted-Access-Chain at a xs = ap_2 noted (view-Access-Chain at a xs) (told-Access-Chain at a xs)
    ∙ ap (λ u. node (expression Chain) (part (noted_expr a.value) (part (list u) none))) (forest_noted view_link told_link xs.items)

pub noted-Link-Member : (at : Option Span) (q : LinkForm) (b : Text) → noted_link (link.Member at q b) ≡ node (expression (NameLink (is_optional q))) (part (word b) none)
unfolding noted_link
noted-Link-Member at q b = ap_2 noted (view-Link-Member at q b) (told-Link-Member at q b)

pub noted-Link-Index : (at : Option Span) (q : LinkForm) (b : Box Expr Global) → noted_link (link.Index at q b) ≡ node (expression (IndexLink (is_optional q))) (part (noted_expr b.value) none)
unfolding noted_expr noted_link
noted-Link-Index at q b = ap_2 noted (view-Link-Index at q b) (told-Link-Index at q b)

pub noted-Link-Call : (at : Option Span) (q : LinkForm) (xs : Vec (Box Expr Global) Global) → noted_link (link.Call at q xs) ≡ node (expression (CallLink (is_optional q))) (part (list (forest (map (inside noted_expr) xs.items))) none)
unfolding noted_expr noted_link
noted-Link-Call at q xs = ap_2 noted (view-Link-Call at q xs) (told-Link-Call at q xs)
    ∙ ap (λ u. node (expression (CallLink (is_optional q))) (part (list u) none)) (forest_noted view_expr told_expr xs.items)

pub noted-Prop-Pair : (at : Option Span) (k : Key) (a : Box Expr Global) (o : Owner) → noted_member (prop.Pair at k a) o ≡ node (expression Property) (part (noted_key k) (part (noted_expr a.value) none))
unfolding noted_expr noted_key noted_member
noted-Prop-Pair at k a o = ap_2 noted (view-Prop-Pair at k a o) (told-Prop-Pair at k a)

pub noted-Prop-Shorthand : (at : Option Span) (a : Ident) (o : Owner) → noted_member (prop.Shorthand at a) o ≡ node (expression Shorthand) (part (name_of a) none)
unfolding noted_member
noted-Prop-Shorthand at a o = ap_2 noted (view-Prop-Shorthand at a o) (told-Prop-Shorthand at a)

pub noted-Prop-Spread : (at : Option Span) (a : Box Expr Global) (o : Owner) → noted_member (prop.Spread at a) o ≡ node (expression Spread) (part (noted_expr a.value) none)
unfolding noted_expr noted_member
noted-Prop-Spread at a o = ap_2 noted (view-Prop-Spread at a o) (told-Prop-Spread at a)

pub noted-Prop-Method : (at : Option Span) (p : Placement) (k : Key) (ps : Vec (Box Pat Global) Global) (ds : Vec Text Global) (ss : Vec (Box Stmt Global) Global) (o : Owner) → noted_member (prop.Method at p k ps ds ss) o ≡ node (function (Method (holder_of o p))) (part (noted_key k) (part (list (forest_at Binds (map (inside noted_pattern) ps.items))) (part (body ds.items (map (inside noted_stmt) ss.items)) none)))
unfolding noted_key noted_member noted_pattern noted_stmt
noted-Prop-Method at p k ps ds ss o = ap_2 noted (view-Prop-Method at p k ps ds ss o) (told-Prop-Method at p k ps ds ss)
    ∙ ap (λ u. node (function (Method (holder_of o p))) (part (noted_key k) (part (list u) (part (noted (body ds.items (map (inside view_stmt) ss.items)) (told_body ds.items (map (inside told_stmt) ss.items))) none)))) (patterns_noted Binds ps.items)
    ∙ ap (λ u. node (function (Method (holder_of o p))) (part (noted_key k) (part (list (forest_at Binds (map (inside noted_pattern) ps.items))) (part u none)))) (body_noted ds.items ss.items)

pub noted-Prop-Getter : (at : Option Span) (p : Placement) (k : Key) (ds : Vec Text Global) (ss : Vec (Box Stmt Global) Global) (o : Owner) → noted_member (prop.Getter at p k ds ss) o ≡ node (function (Getter (holder_of o p))) (part (noted_key k) (part (body ds.items (map (inside noted_stmt) ss.items)) none))
unfolding noted_key noted_member noted_stmt
noted-Prop-Getter at p k ds ss o = ap_2 noted (view-Prop-Getter at p k ds ss o) (told-Prop-Getter at p k ds ss)
    ∙ ap (λ u. node (function (Getter (holder_of o p))) (part (noted_key k) (part u none))) (body_noted ds.items ss.items)

pub noted-Prop-Setter : (at : Option Span) (p : Placement) (k : Key) (q : Box Pat Global) (ds : Vec Text Global) (ss : Vec (Box Stmt Global) Global) (o : Owner) → noted_member (prop.Setter at p k q ds ss) o ≡ node (function (Setter (holder_of o p))) (part (noted_key k) (part ((noted_pattern q.value) Binds) (part (body ds.items (map (inside noted_stmt) ss.items)) none)))
unfolding noted_key noted_member noted_pattern noted_stmt
noted-Prop-Setter at p k q ds ss o = ap_2 noted (view-Prop-Setter at p k q ds ss o) (told-Prop-Setter at p k q ds ss)
    ∙ ap (λ u. node (function (Setter (holder_of o p))) (part (noted_key k) (part ((noted_pattern q.value) Binds) (part u none)))) (body_noted ds.items ss.items)

pub noted-Prop-Field : (at : Option Span) (p : Placement) (k : Key) (e : Option (Box Expr Global)) (o : Owner) → noted_member (prop.Field at p k e) o ≡ node (function (Field (holder_of o p))) (part (noted_key k) (part (optional_of noted_expr e) none))
unfolding noted_expr noted_key noted_member
noted-Prop-Field at p k e o = ap_2 noted (view-Prop-Field at p k e o) (told-Prop-Field at p k e)
    ∙ ap (λ u. node (function (Field (holder_of o p))) (part (noted_key k) (part u none))) (option_noted view_expr told_expr e)

pub noted-Key-Name : (a : Text) → noted_key (key.Name a) ≡ word a
unfolding noted_key
noted-Key-Name a = ap_2 noted (view-Key-Name a) (told-Key-Name a)

pub noted-Key-Literal : (k : LiteralKind) (a : Text) → noted_key (key.Literal k a) ≡ leaf (kind_of_literal k) (text_of a)
unfolding noted_key
noted-Key-Literal k a = ap_2 noted (view-Key-Literal k a) (told-Key-Literal k a)

pub noted-Key-Computed : (at : Option Span) (a : Box Expr Global) → noted_key (key.Computed at a) ≡ node (function ComputedKey) (part (noted_expr a.value) none)
unfolding noted_expr noted_key
noted-Key-Computed at a = ap_2 noted (view-Key-Computed at a) (told-Key-Computed at a)

pub noted-Pat-Ident : (at : Option Span) (a : Ident) (r : Role) → noted_pattern (pat.Ident at a) r ≡ name_of a
unfolding noted_pattern
noted-Pat-Ident at a r = ap_2 noted (view-Pat-Ident at a r) (told-Pat-Ident at a)

pub noted-Pat-Array : (at : Option Span) (xs : Vec (Box Pat Global) Global) (r : Role) → noted_pattern (pat.Array at xs) r ≡ node (function (ArrayPat r)) (part (list (forest_at r (map (inside noted_pattern) xs.items))) none)
unfolding noted_pattern
noted-Pat-Array at xs r = ap_2 noted (view-Pat-Array at xs r) (told-Pat-Array at xs)
    ∙ ap (λ u. node (function (ArrayPat r)) (part (list u) none)) (patterns_noted r xs.items)

pub noted-Pat-Object : (at : Option Span) (xs : Vec (Box Pat Global) Global) (r : Role) → noted_pattern (pat.Object at xs) r ≡ node (function (ObjectPat r)) (part (list (forest_at r (map (inside noted_pattern) xs.items))) none)
unfolding noted_pattern
noted-Pat-Object at xs r = ap_2 noted (view-Pat-Object at xs r) (told-Pat-Object at xs)
    ∙ ap (λ u. node (function (ObjectPat r)) (part (list u) none)) (patterns_noted r xs.items)

pub noted-Pat-Target : (a : Box Expr Global) (r : Role) → noted_pattern (pat.Target a) r ≡ (noted_expr a.value)
unfolding noted_expr noted_pattern
noted-Pat-Target a r = ap_2 noted (view-Pat-Target a r) (told-Pat-Target a)

pub noted-Pat-Paren : (at : Option Span) (p : Box Pat Global) (r : Role) → noted_pattern (pat.Paren at p) r ≡ node (function ParenTarget) (part ((noted_pattern p.value) r) none)
unfolding noted_pattern
noted-Pat-Paren at p r = ap_2 noted (view-Pat-Paren at p r) (told-Pat-Paren at p)

pub noted-Pat-Binding : (at : Option Span) (p : Box Pat Global) (i : Option (Box Expr Global)) (r : Role) → noted_pattern (pat.Binding at p i) r ≡ node (statement Declarator) (part ((noted_pattern p.value) r) (part (optional_of noted_expr i) none))
unfolding noted_expr noted_pattern
noted-Pat-Binding at p i r = ap_2 noted (view-Pat-Binding at p i r) (told-Pat-Binding at p i)
    ∙ ap (λ u. node (statement Declarator) (part ((noted_pattern p.value) r) (part u none))) (option_noted view_expr told_expr i)

pub noted-Pat-WithInit : (at : Option Span) (p : Box Pat Global) (a : Box Expr Global) (r : Role) → noted_pattern (pat.WithInit at p a) r ≡ node (function (WithInit r)) (part ((noted_pattern p.value) r) (part (noted_expr a.value) none))
unfolding noted_expr noted_pattern
noted-Pat-WithInit at p a r = ap_2 noted (view-Pat-WithInit at p a r) (told-Pat-WithInit at p a)

pub noted-Pat-Rest : (at : Option Span) (p : Box Pat Global) (r : Role) → noted_pattern (pat.Rest at p) r ≡ node (function (RestPat r)) (part ((noted_pattern p.value) r) none)
unfolding noted_pattern
noted-Pat-Rest at p r = ap_2 noted (view-Pat-Rest at p r) (told-Pat-Rest at p)

pub noted-Pat-Hole : (r : Role) → noted_pattern pat.Hole r ≡ leaf token.Elision []
unfolding noted_pattern
noted-Pat-Hole r = ap_2 noted (view-Pat-Hole r) (told-Pat-Hole)

pub noted-Pat-Pair : (at : Option Span) (k : Key) (p : Box Pat Global) (r : Role) → noted_pattern (pat.Pair at k p) r ≡ node (function (PropertyPat r)) (part (noted_key k) (part ((noted_pattern p.value) r) none))
unfolding noted_key noted_pattern
noted-Pat-Pair at k p r = ap_2 noted (view-Pat-Pair at k p r) (told-Pat-Pair at k p)

pub noted-Pat-Shorthand : (at : Option Span) (a : Ident) (e : Option (Box Expr Global)) (r : Role) → noted_pattern (pat.Shorthand at a e) r ≡ shorthand_of noted_expr r (name_of a) e
unfolding noted_expr noted_pattern
noted-Pat-Shorthand at a e r = ap_2 noted (view-Pat-Shorthand at a e r) (told-Pat-Shorthand at a e) ∙ shorthand_noted at r a e

pub noted-Pat-RestProperty : (at : Option Span) (a : Ident) (r : Role) → noted_pattern (pat.RestProperty at a) r ≡ node (function (RestProperty r)) (part (name_of a) none)
unfolding noted_pattern
noted-Pat-RestProperty at a r = ap_2 noted (view-Pat-RestProperty at a r) (told-Pat-RestProperty at a)

pub noted-Pat-Declaration : (at : Option Span) (w : declared.DeclareWord) (ps : Vec (Box Pat Global) Global) (r : Role) → noted_pattern (pat.Declaration at w ps) r ≡ node (statement (ForDeclaration (word_of w))) (part (list (forest_at Binds (map (inside noted_pattern) ps.items))) none)
unfolding noted_pattern
noted-Pat-Declaration at w ps r = ap_2 noted (view-Pat-Declaration at w ps r) (told-Pat-Declaration at w ps)
    ∙ ap (λ u. node (statement (ForDeclaration (word_of w))) (part (list u) none)) (patterns_noted Binds ps.items)

pub noted-Pat-Head : (at : Option Span) (w : declared.DeclareWord) (p : Box Pat Global) (r : Role) → noted_pattern (pat.Head at w p) r ≡ node (statement (ForBinding (word_of w))) (part ((noted_pattern p.value) Binds) none)
unfolding noted_pattern
noted-Pat-Head at w p r = ap_2 noted (view-Pat-Head at w p r) (told-Pat-Head at w p)

pub noted-Stmt-Block : (at : Option Span) (ss : Vec (Box Stmt Global) Global) → noted_stmt (stmt.Block at ss) ≡ node (statement Block) (part (list (forest (map (inside noted_stmt) ss.items))) none)
unfolding noted_stmt
noted-Stmt-Block at ss = ap_2 noted (view-Stmt-Block at ss) (told-Stmt-Block at ss)
    ∙ ap (λ u. node (statement Block) (part (list u) none)) (forest_noted view_stmt told_stmt ss.items)

pub noted-Stmt-Var : (at : Option Span) (w : declared.DeclareWord) (ps : Vec (Box Pat Global) Global) → noted_stmt (stmt.Var at w ps) ≡ node (statement (Var (word_of w))) (part (list (forest_at Binds (map (inside noted_pattern) ps.items))) none)
unfolding noted_pattern noted_stmt
noted-Stmt-Var at w ps = ap_2 noted (view-Stmt-Var at w ps) (told-Stmt-Var at w ps)
    ∙ ap (λ u. node (statement (Var (word_of w))) (part (list u) none)) (patterns_noted Binds ps.items)

pub noted-Stmt-Empty : (at : Option Span) → noted_stmt (stmt.Empty at) ≡ node (statement Empty) none
unfolding noted_stmt
noted-Stmt-Empty at = ap_2 noted (view-Stmt-Empty at) (told-Stmt-Empty at)

pub noted-Stmt-Expr : (at : Option Span) (e : Box Expr Global) → noted_stmt (stmt.Expr at e) ≡ node (statement ExprStmt) (part (noted_expr e.value) none)
unfolding noted_expr noted_stmt
noted-Stmt-Expr at e = ap_2 noted (view-Stmt-Expr at e) (told-Stmt-Expr at e)

pub noted-Stmt-Control : (a : Control) → noted_stmt (stmt.Control a) ≡ (noted_control a)
unfolding noted_control noted_stmt
noted-Stmt-Control a = ap_2 noted (view-Stmt-Control a) (told-Stmt-Control a)

pub noted-Stmt-Continue : (at : Option Span) (a : Option Ident) → noted_stmt (stmt.Continue at a) ≡ node (statement Continue) (part (optional_name a) none)
unfolding noted_stmt
noted-Stmt-Continue at a = ap_2 noted (view-Stmt-Continue at a) (told-Stmt-Continue at a)
    ∙ ap (λ u. node (statement Continue) (part u none)) (name_noted a)

pub noted-Stmt-Break : (at : Option Span) (a : Option Ident) → noted_stmt (stmt.Break at a) ≡ node (statement Break) (part (optional_name a) none)
unfolding noted_stmt
noted-Stmt-Break at a = ap_2 noted (view-Stmt-Break at a) (told-Stmt-Break at a)
    ∙ ap (λ u. node (statement Break) (part u none)) (name_noted a)

pub noted-Stmt-Return : (at : Option Span) (e : Option (Box Expr Global)) → noted_stmt (stmt.Return at e) ≡ node (statement Return) (part (optional_of noted_expr e) none)
unfolding noted_expr noted_stmt
noted-Stmt-Return at e = ap_2 noted (view-Stmt-Return at e) (told-Stmt-Return at e)
    ∙ ap (λ u. node (statement Return) (part u none)) (option_noted view_expr told_expr e)

pub noted-Stmt-Throw : (at : Option Span) (e : Box Expr Global) → noted_stmt (stmt.Throw at e) ≡ node (statement Throw) (part (noted_expr e.value) none)
unfolding noted_expr noted_stmt
noted-Stmt-Throw at e = ap_2 noted (view-Stmt-Throw at e) (told-Stmt-Throw at e)

pub noted-Stmt-Debugger : (at : Option Span) → noted_stmt (stmt.Debugger at) ≡ node (statement Debugger) none
unfolding noted_stmt
noted-Stmt-Debugger at = ap_2 noted (view-Stmt-Debugger at) (told-Stmt-Debugger at)

pub noted-Stmt-Function : (at : Option Span) (a : Ident) (ps : Vec (Box Pat Global) Global) (ds : Vec Text Global) (ss : Vec (Box Stmt Global) Global) → noted_stmt (stmt.Function at a ps ds ss) ≡ node (statement FunctionDecl) (part (name_of a) (part (list (forest_at Binds (map (inside noted_pattern) ps.items))) (part (body ds.items (map (inside noted_stmt) ss.items)) none)))
unfolding noted_pattern noted_stmt
noted-Stmt-Function at a ps ds ss = ap_2 noted (view-Stmt-Function at a ps ds ss) (told-Stmt-Function at a ps ds ss)
    ∙ ap (λ u. node (statement FunctionDecl) (part (name_of a) (part (list u) (part (noted (body ds.items (map (inside view_stmt) ss.items)) (told_body ds.items (map (inside told_stmt) ss.items))) none)))) (patterns_noted Binds ps.items)
    ∙ ap (λ u. node (statement FunctionDecl) (part (name_of a) (part (list (forest_at Binds (map (inside noted_pattern) ps.items))) (part u none)))) (body_noted ds.items ss.items)

pub noted-Stmt-Class : (at : Option Span) (a : Ident) (e : Option (Box Expr Global)) (ms : Vec (Box Prop Global) Global) → noted_stmt (stmt.Class at a e ms) ≡ node (statement ClassDecl) (part (name_of a) (part (optional_of noted_expr e) (part (list (members_of_class (map (inside noted_member) ms.items))) none)))
unfolding noted_expr noted_member noted_stmt
noted-Stmt-Class at a e ms = ap_2 noted (view-Stmt-Class at a e ms) (told-Stmt-Class at a e ms)
    ∙ ap (λ u. node (statement ClassDecl) (part (name_of a) (part u (part (list (noteds (members_of_class (map (inside view_member) ms.items)) (tales (map (inside told_prop) ms.items)))) none)))) (option_noted view_expr told_expr e)
    ∙ ap (λ u. node (statement ClassDecl) (part (name_of a) (part (optional_of noted_expr e) (part (list u) none)))) (class_noted ms.items)

pub noted-Control-If : (at : Option Span) (e : Box Expr Global) (s : Box Stmt Global) (o : Option (Box Stmt Global)) → noted_control (control.If at e s o) ≡ node (statement If) (part (noted_expr e.value) (part (noted_stmt s.value) (part (optional_of noted_stmt o) none)))
unfolding noted_control noted_expr noted_stmt
noted-Control-If at e s o = ap_2 noted (view-Control-If at e s o) (told-Control-If at e s o)
    ∙ ap (λ u. node (statement If) (part (noted_expr e.value) (part (noted_stmt s.value) (part u none)))) (option_noted view_stmt told_stmt o)

pub noted-Control-Do : (at : Option Span) (s : Box Stmt Global) (e : Box Expr Global) → noted_control (control.Do at s e) ≡ node (statement Do) (part (noted_stmt s.value) (part (noted_expr e.value) none))
unfolding noted_control noted_expr noted_stmt
noted-Control-Do at s e = ap_2 noted (view-Control-Do at s e) (told-Control-Do at s e)

pub noted-Control-While : (at : Option Span) (e : Box Expr Global) (s : Box Stmt Global) → noted_control (control.While at e s) ≡ node (statement While) (part (noted_expr e.value) (part (noted_stmt s.value) none))
unfolding noted_control noted_expr noted_stmt
noted-Control-While at e s = ap_2 noted (view-Control-While at e s) (told-Control-While at e s)

pub noted-Control-For : (at : Option Span) (i : Option (Box Pat Global)) (e : Option (Box Expr Global)) (u : Option (Box Expr Global)) (s : Box Stmt Global) → noted_control (control.For at i e u s) ≡ node (statement For) (part (optional_at_of Assigns noted_pattern i) (part (optional_of noted_expr e) (part (optional_of noted_expr u) (part (noted_stmt s.value) none))))
unfolding noted_control noted_expr noted_pattern noted_stmt
noted-Control-For at i e u s = ap_2 noted (view-Control-For at i e u s) (told-Control-For at i e u s)
    ∙ ap (λ x. node (statement For) (part x (part (noted (optional_of view_expr e) (told_optional told_expr e)) (part (noted (optional_of view_expr u) (told_optional told_expr u)) (part (noted_stmt s.value) none))))) (pattern_noted Assigns i)
    ∙ ap (λ x. node (statement For) (part (optional_at_of Assigns noted_pattern i) (part x (part (noted (optional_of view_expr u) (told_optional told_expr u)) (part (noted_stmt s.value) none))))) (option_noted view_expr told_expr e)
    ∙ ap (λ x. node (statement For) (part (optional_at_of Assigns noted_pattern i) (part (optional_of noted_expr e) (part x (part (noted_stmt s.value) none))))) (option_noted view_expr told_expr u)

pub noted-Control-ForIn : (at : Option Span) (h : Box Pat Global) (e : Box Expr Global) (s : Box Stmt Global) → noted_control (control.ForIn at h e s) ≡ node (statement ForIn) (part ((noted_pattern h.value) Assigns) (part (noted_expr e.value) (part (noted_stmt s.value) none)))
unfolding noted_control noted_expr noted_pattern noted_stmt
noted-Control-ForIn at h e s = ap_2 noted (view-Control-ForIn at h e s) (told-Control-ForIn at h e s)

pub noted-Control-ForOf : (at : Option Span) (h : Box Pat Global) (e : Box Expr Global) (s : Box Stmt Global) → noted_control (control.ForOf at h e s) ≡ node (statement ForOf) (part ((noted_pattern h.value) Assigns) (part (noted_expr e.value) (part (noted_stmt s.value) none)))
unfolding noted_control noted_expr noted_pattern noted_stmt
noted-Control-ForOf at h e s = ap_2 noted (view-Control-ForOf at h e s) (told-Control-ForOf at h e s)

pub noted-Control-Label : (at : Option Span) (a : Ident) (s : Box Stmt Global) → noted_control (control.Label at a s) ≡ node (statement Label) (part (name_of a) (part (noted_stmt s.value) none))
unfolding noted_control noted_stmt
noted-Control-Label at a s = ap_2 noted (view-Control-Label at a s) (told-Control-Label at a s)

pub noted-Control-Switch : (at : Option Span) (e : Box Expr Global) (cs : Vec (Box Control Global) Global) → noted_control (control.Switch at e cs) ≡ node (statement Switch) (part (noted_expr e.value) (part (list (forest (map (inside noted_control) cs.items))) none))
unfolding noted_control noted_expr
noted-Control-Switch at e cs = ap_2 noted (view-Control-Switch at e cs) (told-Control-Switch at e cs)
    ∙ ap (λ u. node (statement Switch) (part (noted_expr e.value) (part (list u) none))) (forest_noted view_control told_control cs.items)

pub noted-Control-Case : (at : Option Span) (e : Option (Box Expr Global)) (ss : Vec (Box Stmt Global) Global) → noted_control (control.Case at e ss) ≡ clause_of noted_expr e (list (forest (map (inside noted_stmt) ss.items)))
unfolding noted_control noted_expr noted_stmt
noted-Control-Case at e ss = ap_2 noted (view-Control-Case at e ss) (told-Control-Case at e ss) ∙ clause_noted at e ss.items

pub noted-Control-Try : (at : Option Span) (b : Box Stmt Global) (c : Option (Box Control Global)) (f : Option (Box Stmt Global)) → noted_control (control.Try at b c f) ≡ node (statement Try) (part (noted_stmt b.value) (part (optional_of noted_control c) (part (optional_of noted_stmt f) none)))
unfolding noted_control noted_stmt
noted-Control-Try at b c f = ap_2 noted (view-Control-Try at b c f) (told-Control-Try at b c f)
    ∙ ap (λ u. node (statement Try) (part (noted_stmt b.value) (part u (part (noted (optional_of view_stmt f) (told_optional told_stmt f)) none)))) (option_noted view_control told_control c)
    ∙ ap (λ u. node (statement Try) (part (noted_stmt b.value) (part (optional_of noted_control c) (part u none)))) (option_noted view_stmt told_stmt f)

pub noted-Control-Catch : (at : Option Span) (p : Option (Box Pat Global)) (s : Box Stmt Global) → noted_control (control.Catch at p s) ≡ node (statement Catch) (part (optional_at_of Binds noted_pattern p) (part (noted_stmt s.value) none))
unfolding noted_control noted_pattern noted_stmt
noted-Control-Catch at p s = ap_2 noted (view-Control-Catch at p s) (told-Control-Catch at p s)
    ∙ ap (λ u. node (statement Catch) (part u (part (noted_stmt s.value) none))) (pattern_noted Binds p)

-- ---- items and programs

specifier_kept : (s : Side) (x : Specifier) → noted (view_specifier s x) (told_specifier x) ≡ view_specifier s x
specifier_kept s (specifier.Same at a) = refl
specifier_kept s (specifier.As at a b) = refl

specifiers_kept : (s : Side) (xs : List Specifier) → noteds (forest (map (view_specifier s) xs)) (tales (map told_specifier xs)) ≡ forest (map (view_specifier s) xs)
specifiers_kept s [] = refl
specifiers_kept s (x ∷ xs) = ap_2 part (specifier_kept s x) (specifiers_kept s xs)

names_kept : (x : ImportNames) → noted (view_import_names x) (told_import_names x) ≡ view_import_names x
names_kept (import_names.All at a) = refl
names_kept (import_names.List at ss) = ap (λ u. node (program ImportList) (part (list u) none)) (specifiers_kept Imported ss.items)

clause_kept : (x : ImportClause) → noted (view_import_clause x) (told_import_clause x) ≡ view_import_clause x
clause_kept (import_clause.Default a) = refl
clause_kept (import_clause.Names ns) = names_kept ns
clause_kept (import_clause.Both at a ns) = ap (λ u. node (program ImportBoth) (part (name_of a) (part u none))) (names_kept ns)

pub noted-Item-Stmt : (s : Box Stmt Global) → noted_item (item.Stmt s) ≡ noted_stmt s.value
unfolding noted_item noted_stmt
noted-Item-Stmt s = refl

pub noted-Item-ImportBare : (at : Option Span) (a : Text) → noted_item (item.ImportBare at a) ≡ node (program ImportBare) (part (source_of a) none)
unfolding noted_item
noted-Item-ImportBare at a = refl

pub noted-Item-Import : (at : Option Span) (c : ImportClause) (a : Text) → noted_item (item.Import at c a) ≡ node (program Import) (part (view_import_clause c) (part (source_of a) none))
unfolding noted_item
noted-Item-Import at c a = ap (λ u. node (program Import) (part u (part (source_of a) none))) (clause_kept c)

pub noted-Item-ExportNames : (at : Option Span) (ss : Vec Specifier Global) → noted_item (item.ExportNames at ss) ≡ node (program ExportNames) (part (list (forest (map (view_specifier Exported) ss.items))) none)
unfolding noted_item
noted-Item-ExportNames at ss = ap (λ u. node (program ExportNames) (part (list u) none)) (specifiers_kept Exported ss.items)

pub noted-Item-ExportFrom : (at : Option Span) (ss : Vec Specifier Global) (a : Text) → noted_item (item.ExportFrom at ss a) ≡ node (program ExportFrom) (part (list (forest (map (view_specifier From) ss.items))) (part (source_of a) none))
unfolding noted_item
noted-Item-ExportFrom at ss a = ap (λ u. node (program ExportFrom) (part (list u) (part (source_of a) none))) (specifiers_kept From ss.items)

pub noted-Item-ExportAll : (at : Option Span) (a : Text) → noted_item (item.ExportAll at a) ≡ node (program ExportAll) (part (source_of a) none)
unfolding noted_item
noted-Item-ExportAll at a = refl

pub noted-Item-ExportAllAs : (at : Option Span) (a : Text) (b : Text) → noted_item (item.ExportAllAs at a b) ≡ node (program ExportAllAs) (part (word a) (part (source_of b) none))
unfolding noted_item
noted-Item-ExportAllAs at a b = refl

pub noted-Item-ExportDecl : (at : Option Span) (s : Box Stmt Global) → noted_item (item.ExportDecl at s) ≡ node (program ExportDecl) (part (noted_stmt s.value) none)
unfolding noted_item noted_stmt
noted-Item-ExportDecl at s = refl

pub noted-Item-ExportDefaultFn : (at : Option Span) (b : BytePos) (a : Option Ident) (ps : Vec (Box Pat Global) Global) (ds : Vec Text Global) (ss : Vec (Box Stmt Global) Global) → noted_item (item.ExportDefaultFn at b a ps ds ss) ≡ node (program ExportDefaultFn) (part (optional_name a) (part (list (forest_at Binds (map (inside noted_pattern) ps.items))) (part (body ds.items (map (inside noted_stmt) ss.items)) none)))
unfolding noted_item
noted-Item-ExportDefaultFn at b a ps ds ss =
    ap (λ u. node (program ExportDefaultFn) (part u (part (list (noteds (forest_at Binds (map (inside view_pattern) ps.items)) (tales (map (inside told_pat) ps.items)))) (part (noted (body ds.items (map (inside view_stmt) ss.items)) (told_body ds.items (map (inside told_stmt) ss.items))) none)))) (name_noted a)
    ∙ ap_2 (λ u v. node (program ExportDefaultFn) (part (optional_name a) (part (list u) (part v none)))) (patterns_noted Binds ps.items) (body_noted ds.items ss.items)

pub noted-Item-ExportDefaultClass : (at : Option Span) (b : BytePos) (e : Box Expr Global) → noted_item (item.ExportDefaultClass at b e) ≡ node (program ExportDefaultClass) (part (noted_expr e.value) none)
unfolding noted_item noted_expr
noted-Item-ExportDefaultClass at b e = refl

pub noted-Item-ExportDefaultExpr : (at : Option Span) (b : BytePos) (e : Box Expr Global) → noted_item (item.ExportDefaultExpr at b e) ≡ node (program ExportDefaultExpr) (part (noted_expr e.value) none)
unfolding noted_item noted_expr
noted-Item-ExportDefaultExpr at b e = refl

items_noted : (xs : List Item) → noteds (forest (map view_item xs)) (tales (map told_item xs)) ≡ forest (map noted_item xs)
unfolding noted_item
items_noted [] = refl
items_noted (x ∷ xs) = ap (part (noted (view_item x) (told_item x))) (items_noted xs)

pub noted-Program-Module : (m : declared_module.Module) → noted_program (programs.Module m) ≡ node (program Module) (part (list (forest (map directive m.directives.items))) (part (list (forest (map noted_item m.body.items))) none))
unfolding noted_program
noted-Program-Module m = ap_2 (λ u v. node (program Module) (part (list u) (part (list v) none))) (directives_noted m.directives.items) (items_noted m.body.items)

pub noted-Program-Script : (m : declared_script.Script) → noted_program (programs.Script m) ≡ node (program Script) (part (list (forest (map directive m.directives.items))) (part (list (forest (map (inside noted_stmt) m.body.items))) none))
unfolding noted_program noted_stmt
noted-Program-Script m = ap_2 (λ u v. node (program Script) (part (list u) (part (list v) none))) (directives_noted m.directives.items) (forest_noted view_stmt told_stmt m.body.items)

pub ruleset noted_views = (noted-Expr-Ident, noted-Expr-Literal, noted-Expr-Word, noted-Expr-Operation, noted-Expr-Access, noted-Expr-Array, noted-Expr-Object, noted-Expr-Template, noted-Expr-Function, noted-Expr-Class, noted-Expr-Paren, noted-Operation-Seq, noted-Operation-Assign, noted-Operation-OpAssign, noted-Operation-Arrow, noted-Operation-ArrowBlock, noted-Operation-BareArrow, noted-Operation-BareArrowBlock, noted-Operation-Cond, noted-Operation-Binary, noted-Operation-Unary, noted-Operation-Update, noted-Operation-Spread, noted-Operation-Hole, noted-Access-Call, noted-Access-Member, noted-Access-Index, noted-Access-Tagged, noted-Access-New, noted-Access-NewWithoutArguments, noted-Access-SuperCall, noted-Access-SuperMember, noted-Access-SuperIndex, noted-Access-ImportCall, noted-Access-Chain, noted-Link-Member, noted-Link-Index, noted-Link-Call, noted-Prop-Pair, noted-Prop-Shorthand, noted-Prop-Spread, noted-Prop-Method, noted-Prop-Getter, noted-Prop-Setter, noted-Prop-Field, noted-Key-Name, noted-Key-Literal, noted-Key-Computed, noted-Pat-Ident, noted-Pat-Array, noted-Pat-Object, noted-Pat-Target, noted-Pat-Paren, noted-Pat-Binding, noted-Pat-WithInit, noted-Pat-Rest, noted-Pat-Hole, noted-Pat-Pair, noted-Pat-Shorthand, noted-Pat-RestProperty, noted-Pat-Declaration, noted-Pat-Head, noted-Stmt-Block, noted-Stmt-Var, noted-Stmt-Empty, noted-Stmt-Expr, noted-Stmt-Control, noted-Stmt-Continue, noted-Stmt-Break, noted-Stmt-Return, noted-Stmt-Throw, noted-Stmt-Debugger, noted-Stmt-Function, noted-Stmt-Class, noted-Control-If, noted-Control-Do, noted-Control-While, noted-Control-For, noted-Control-ForIn, noted-Control-ForOf, noted-Control-Label, noted-Control-Switch, noted-Control-Case, noted-Control-Try, noted-Control-Catch, noted-Item-Stmt, noted-Item-ImportBare, noted-Item-Import, noted-Item-ExportNames, noted-Item-ExportFrom, noted-Item-ExportAll, noted-Item-ExportAllAs, noted-Item-ExportDecl, noted-Item-ExportDefaultFn, noted-Item-ExportDefaultClass, noted-Item-ExportDefaultExpr, noted-Program-Module, noted-Program-Script)

-- ---- what is an empty statement, and what has no signs

kind_empty : (k : Kind) (us ts : Forest) → is_empty (laid_node k us) ≡ is_empty (laid_node k ts)
kind_empty (expression BareArrow) none none = refl
kind_empty (expression BareArrow) none (part a b) = refl
kind_empty (expression BareArrow) (part a b) none = refl
kind_empty (expression BareArrow) (part a b) (part c d) = refl
kind_empty (expression BareArrowBlock) none none = refl
kind_empty (expression BareArrowBlock) none (part a b) = refl
kind_empty (expression BareArrowBlock) (part a b) none = refl
kind_empty (expression BareArrowBlock) (part a b) (part c d) = refl
kind_empty (expression NewWithoutArguments) us ts = not_empty us ∙ sym (not_empty ts)
  where
    not_empty : (us : Forest) → is_empty (laid_node (expression NewWithoutArguments) us) ≡ false
    not_empty none = refl
    not_empty (part a none) = refl
    not_empty (part a (part b bs)) = refl
kind_empty (statement Empty) us ts = refl
kind_empty _ us ts = refl

pub empty_noted : (t : Tree) (d : Told) → is_empty (laid_tree (noted t d)) ≡ is_empty (laid_tree t)
empty_noted (leaf k t) d = refl
empty_noted (node k cs) d = kind_empty k (mades laid_node (positions k) (with_place k d (noteds cs (parts_of k d)))) (mades laid_node (positions k) cs)
empty_noted (list ts) (tells c ds) = refl

pub solid_expr : (x : Expr) → is_empty (laid_tree (noted_expr x)) ≡ false
unfolding noted_expr
solid_expr x = empty_noted (view_expr x) (told_expr x) ∙ bare.solid_expr x

pub solid_link : (x : Link) → is_empty (laid_tree (noted_link x)) ≡ false
unfolding noted_link
solid_link x = empty_noted (view_link x) (told_link x) ∙ bare.solid_link x

pub solid_member : (x : Prop) (o : Owner) → is_empty (laid_tree (noted_member x o)) ≡ false
unfolding noted_member
solid_member x o = empty_noted (view_member x o) (told_prop x) ∙ bare.solid_member x o

pub solid_pattern : (x : Pat) (r : Role) → is_empty (laid_tree (noted_pattern x r)) ≡ false
unfolding noted_pattern
solid_pattern x r = empty_noted (view_pattern x r) (told_pat x) ∙ bare.solid_pattern x r

pub solid_control : (x : Control) → is_empty (laid_tree (noted_control x)) ≡ false
unfolding noted_control
solid_control x = empty_noted (view_control x) (told_control x) ∙ bare.solid_control x

node_void : (k : Kind) (us : Forest) → is_void (joined (said (laid_node k us))) ≡ false
node_void (expression BareArrow) none = refl
node_void (expression BareArrow) (part a b) = refl
node_void (expression BareArrowBlock) none = refl
node_void (expression BareArrowBlock) (part a b) = refl
node_void (expression NewWithoutArguments) none = refl
node_void (expression NewWithoutArguments) (part a none) = refl
node_void (expression NewWithoutArguments) (part a (part b bs)) = refl
node_void _ us = refl

mutual
  pub void_noted : (t : Tree) (d : Told) → is_void (signs (noted t d)) ≡ is_void (signs t)
  void_noted (leaf k t) d = refl
  void_noted (node k cs) d = node_void k (mades laid_node (positions k) (with_place k d (noteds cs (parts_of k d)))) ∙ sym (node_void k (mades laid_node (positions k) cs))
  void_noted (list ts) (tells c ds) = voids_noted ts ds

  voids_noted : (ts : Forest) (ds : Tales) → is_void (joined (each_said (each_made laid_node (noteds ts ds)))) ≡ is_void (joined (each_said (each_made laid_node ts)))
  voids_noted none ds = refl
  voids_noted (part t none) ds = void_noted t (first_of ds)
  voids_noted (part t (part u us)) ds =
      void_append (signs (noted t (first_of ds))) _ ∙ ap (λ b. b && is_void (joined (each_said (each_made laid_node (noteds (part u us) (others ds)))))) (void_noted t (first_of ds)) ∙ ap (λ b. is_void (signs t) && b) (voids_noted (part u us) (others ds)) ∙ sym (void_append (signs t) _)

pub void_jsx : (a : Box Jsx Global) → is_void (signs (noted_expr (expr.Jsx a))) ≡ false
unfolding noted_expr
void_jsx a = void_noted (view_expr (expr.Jsx a)) (told_expr (expr.Jsx a)) ∙ ap (λ t. is_void (signs t)) (view-Expr-Jsx a) ∙ bare.void_jsx a.value

pub void_access : (x : Access) → is_void (signs (noted_access x)) ≡ false
unfolding noted_access
void_access x = void_noted (view_access x) (told_access x) ∙ bare.void_access x

pub void_shorthand : (r : Role) (a : Tree) (e : Option (Box Expr Global)) → is_void (signs (shorthand_of noted_expr r a e)) ≡ false
void_shorthand r a None = refl
void_shorthand r a (Some e) = refl

pub ruleset voids = (noted_views, void_literal, void_word, void_template, void_shorthand, void_jsx, void_access)

pub ruleset empties = (noted_views, solid_control)
