-- What a walk leaves of the nodes with lists, bodies and parts that may be absent: one lemma an arm of the code.
use Rattle.std.proofs.Common.{◌≡◌, refl, ap, sym, ◌∙◌, map, List, Bool, true, false, Option, Some, None, Box, Vec, Global, Result, subst}
use Rattle.std.specs.Prelude.{OnOk}
use Rattle.std.proofs.lemmas.Bool.{false≢true}
use Rattle.std.proofs.lemmas.Result.{on_ok_weaker}
use Rattle.jsx_base.specs.declared.place.Span.{Span}
use Rattle.jsx_tree.specs.Kinds.{DeclareWord, VarWord, LetWord, ConstWord, FunctionBody, Var, ForDeclaration, Switch, Catch, FunctionDecl, ClassDecl, Role, Binds, FunctionExpr, ClassExpr, Method, Getter, Setter, Arrow, ArrowBlock, BareArrowBlock, Call, Tagged, New, Chain, CallLink, program, statement, function, expression, jsx, Tree, leaf, node, list, Forest, none, part}
use Rattle.jsx_tree.specs.Parentheses.{first_no_directive}
use Rattle.jsx_tree.specs.declared.text.Text.{Text}
use Rattle.jsx_tree.specs.declared.text.Ident.{Ident}
use Rattle.jsx_tree.specs.declared.text.DeclareWord as declared
use Rattle.jsx_tree.specs.declared.text.LinkForm.{LinkForm}
use Rattle.jsx_tree.specs.declared.text.Placement.{Placement}
use Rattle.jsx_tree.specs.declared.tree.Expr.{Expr}
use Rattle.jsx_tree.specs.declared.tree.Operation.{Operation}
use Rattle.jsx_tree.specs.declared.tree.Access.{Access}
use Rattle.jsx_tree.specs.declared.tree.Link.{Link}
use Rattle.jsx_tree.specs.declared.tree.Prop.{Prop}
use Rattle.jsx_tree.specs.declared.tree.Key.{Key}
use Rattle.jsx_tree.specs.declared.tree.Pat.{Pat}
use Rattle.jsx_tree.specs.declared.tree.Stmt.{Stmt}
use Rattle.jsx_tree.specs.declared.tree.Control.{Control}
use Rattle.jsx_tree.specs.declared.tree.Expr.TheVariants as expr
use Rattle.jsx_tree.specs.declared.tree.Operation.TheVariants as operation
use Rattle.jsx_tree.specs.declared.tree.Access.TheVariants as access
use Rattle.jsx_tree.specs.declared.tree.Link.TheVariants as link
use Rattle.jsx_tree.specs.declared.tree.Prop.TheVariants as prop
use Rattle.jsx_tree.specs.declared.tree.Pat.TheVariants as pat
use Rattle.jsx_tree.specs.declared.tree.Stmt.TheVariants as stmt
use Rattle.jsx_tree.specs.declared.tree.Control.TheVariants as control
use Rattle.jsx_tree.specs.View.{Owner, OfClass, inside, name_of, word_of, is_optional, holder_of, forest, forest_at, optional_of, optional_at_of, template, directive, clause_of, view_expr, view_operation, view_access, view_link, view_key, view_member, view_pattern, view_stmt, view_control}
use Rattle.jsx_tree.proofs.Views.{view-Control-Catch, view-Expr-Template, view-Operation-Arrow, view-Operation-ArrowBlock, view-Pat-Declaration, view-Pat-Target, view-Stmt-Var, view-Link-Call, view-Access-Call, view-Access-Chain, view-Access-New, view-Access-Tagged, view-Control-Case, view-Control-Switch, view-Expr-Function, view-Prop-Getter, view-Prop-Method, view-Operation-BareArrowBlock, view-Stmt-Function, view-Expr-Class, view-Prop-Setter, view-Stmt-Class, view-Pat-Ident, view-Pat-Array, view-Pat-Object, view-Pat-Paren, view-Pat-Rest, view-Pat-Hole, view-Pat-RestProperty, view-Pat-Head}
use Rattle.jsx_tree.specs.declared.tree.Jsx.{Jsx}
use Rattle.jsx_tree.specs.declared.tree.Access.TheOpen.{Pat-F}
use Rattle.jsx_tree.specs.declared.tree.Access.TheViews.{roll-Pat, out-Pat, roll-out-Pat}
use Rattle.jsx_scope.specs.declared.place.Place.TheVariants as place
use Rattle.jsx_scope.specs.Walk.{walk, walk_each, inner, with_part, with_code, but_code, with_half, but_half, with_test, with_second, seen_at, member_at}
use Rattle.jsx_scope.proofs.Layers.{is_root, expr_root, control_root, statement_walk}
use Rattle.jsx_scope.proofs.Walks.{walk_forest, forest_roles, class_members, directives_stay, template_but, template_there}

-- a node that changes in one place
arm : {T E A : Type 0} (r : Result T E) (f : Tree → Tree) (make : A → Tree) (u v : Tree) (x y z : A) → u ≡ make y → v ≡ make x → f (make x) ≡ make z → OnOk r (y ≡ z) → OnOk r (u ≡ f v)
arm r f make u v x y z p q s k = on_ok_weaker {P = y ≡ z} {Q = u ≡ f v} r (λ e. p ∙ (ap make e ∙ (sym s ∙ sym (ap f q)))) k

abbrev body_with : List Text → Forest → Tree
body_with ds us = node (program FunctionBody) (part (list (forest (map directive ds))) (part (list us) none))

body_goes : (ds : List Text) (us : Forest) → walk (place.Level 0) false (body_with ds us) ≡ body_with ds (first_no_directive (walk_each (place.Level 0) false us))
body_goes ds us = ap (λ v. node (program FunctionBody) (part (list v) (part (list (first_no_directive (walk_each (place.Level 0) false us))) none))) (directives_stay ds)

head_goes : (w : DeclareWord) (bare : Bool) (us : Forest) → but_half bare (node (statement (ForDeclaration w)) (part (list us) none)) ≡ node (statement (ForDeclaration w)) (part (list (walk_each (place.Level 0) bare us)) none)
head_goes VarWord bare us = refl
head_goes LetWord bare us = refl
head_goes ConstWord bare us = refl

var_goes : (w : DeclareWord) (bare : Bool) (us : Forest) → but_code bare (node (statement (Var w)) (part (list us) none)) ≡ node (statement (Var w)) (part (list (walk_each (place.Level 0) bare us)) none)
var_goes VarWord bare us = refl
var_goes LetWord bare us = refl
var_goes ConstWord bare us = refl

clause_goes : (bare : Bool) (e : Option (Box Expr Global)) (us : Forest) → with_second bare (clause_of view_expr e (list us)) ≡ clause_of view_expr e (list (walk_each (place.Level 0) bare us))
clause_goes bare None us = refl
clause_goes bare (Some e) us = refl

root_goes : (bare : Bool) (t : Tree) → is_root t ≡ true → but_half bare t ≡ walk (place.Level 0) bare t
root_goes bare (leaf s x) h = refl
root_goes bare (node (expression k) cs) h = refl
root_goes bare (node (function FunctionExpr) cs) h = refl
root_goes bare (node (function ClassExpr) cs) h = refl
root_goes bare (node (jsx k) cs) h = refl
root_goes bare (node (program k) cs) h = absurd (false≢true h)
root_goes bare (node (statement k) cs) h = absurd (false≢true h)
root_goes bare (node (function k) cs) h = absurd (false≢true h)
root_goes bare (list ts) h = absurd (false≢true h)

pub link_call : {T E : Type 0} (r : Result T E) (bare : Bool) (at : Option Span) (q : LinkForm) (xs ys zs : Vec (Box Expr Global) Global) (old : Link) → old ≡ link.Call at q xs → zs ≡ xs → OnOk r ((map (inside view_expr) ys.items) ≡ (map (walk (place.Level 1) false) (map (inside view_expr) zs.items))) → OnOk r (view_link (link.Call at q ys) ≡ walk (place.Level 0) bare (view_link old))
link_call r bare at q xs ys zs old is same k =
    arm r (walk (place.Level 0) bare) (λ (us : List Tree). node (expression (CallLink (is_optional q))) (part (list (forest us)) none))
    (view_link (link.Call at q ys)) (view_link old) (map (inside view_expr) xs.items) (map (inside view_expr) ys.items) (map (walk (place.Level 1) false) (map (inside view_expr) xs.items))
    (view-Link-Call at q ys) (ap (λ (q : Link). view_link q) is ∙ (view-Link-Call at q xs))
    (ap (λ (us : Forest). node (expression (CallLink (is_optional q))) (part (list us) none)) (walk_forest (place.Level 1) false (map (inside view_expr) xs.items))) (subst (λ (v : Vec (Box Expr Global) Global). OnOk r ((map (inside view_expr) ys.items) ≡ (map (walk (place.Level 1) false) (map (inside view_expr) v.items)))) same k)

pub access_call : {T E : Type 0} (r : Result T E) (bare : Bool) (at : Option Span) (a : Box Expr Global) (xs ys zs : Vec (Box Expr Global) Global) (old : Access) → old ≡ access.Call at a xs → zs ≡ xs → OnOk r ((map (inside view_expr) ys.items) ≡ (map (walk (place.Level 1) false) (map (inside view_expr) zs.items))) → OnOk r (view_access (access.Call at a ys) ≡ with_part 1 bare (view_access old))
access_call r bare at a xs ys zs old is same k =
    arm r (with_part 1 bare) (λ (us : List Tree). node (expression Call) (part (view_expr a.value) (part (list (forest us)) none)))
    (view_access (access.Call at a ys)) (view_access old) (map (inside view_expr) xs.items) (map (inside view_expr) ys.items) (map (walk (place.Level 1) false) (map (inside view_expr) xs.items))
    (view-Access-Call at a ys) (ap (λ (q : Access). view_access q) is ∙ (view-Access-Call at a xs))
    (ap (λ (us : Forest). node (expression Call) (part (view_expr a.value) (part (list us) none))) (walk_forest (place.Level 1) false (map (inside view_expr) xs.items))) (subst (λ (v : Vec (Box Expr Global) Global). OnOk r ((map (inside view_expr) ys.items) ≡ (map (walk (place.Level 1) false) (map (inside view_expr) v.items)))) same k)

pub access_new : {T E : Type 0} (r : Result T E) (bare : Bool) (at : Option Span) (a : Box Expr Global) (xs ys zs : Vec (Box Expr Global) Global) (old : Access) → old ≡ access.New at a xs → zs ≡ xs → OnOk r ((map (inside view_expr) ys.items) ≡ (map (walk (place.Level 1) false) (map (inside view_expr) zs.items))) → OnOk r (view_access (access.New at a ys) ≡ with_part 1 bare (view_access old))
access_new r bare at a xs ys zs old is same k =
    arm r (with_part 1 bare) (λ (us : List Tree). node (expression New) (part (view_expr a.value) (part (list (forest us)) none)))
    (view_access (access.New at a ys)) (view_access old) (map (inside view_expr) xs.items) (map (inside view_expr) ys.items) (map (walk (place.Level 1) false) (map (inside view_expr) xs.items))
    (view-Access-New at a ys) (ap (λ (q : Access). view_access q) is ∙ (view-Access-New at a xs))
    (ap (λ (us : Forest). node (expression New) (part (view_expr a.value) (part (list us) none))) (walk_forest (place.Level 1) false (map (inside view_expr) xs.items))) (subst (λ (v : Vec (Box Expr Global) Global). OnOk r ((map (inside view_expr) ys.items) ≡ (map (walk (place.Level 1) false) (map (inside view_expr) v.items)))) same k)

pub access_chain : {T E : Type 0} (r : Result T E) (bare : Bool) (at : Option Span) (a : Box Expr Global) (xs ys zs : Vec (Box Link Global) Global) (old : Access) → old ≡ access.Chain at a xs → zs ≡ xs → OnOk r ((map (inside view_link) ys.items) ≡ (map (walk (place.Level 0) bare) (map (inside view_link) zs.items))) → OnOk r (view_access (access.Chain at a ys) ≡ with_part 1 bare (view_access old))
access_chain r bare at a xs ys zs old is same k =
    arm r (with_part 1 bare) (λ (us : List Tree). node (expression Chain) (part (view_expr a.value) (part (list (forest us)) none)))
    (view_access (access.Chain at a ys)) (view_access old) (map (inside view_link) xs.items) (map (inside view_link) ys.items) (map (walk (place.Level 0) bare) (map (inside view_link) xs.items))
    (view-Access-Chain at a ys) (ap (λ (q : Access). view_access q) is ∙ (view-Access-Chain at a xs))
    (ap (λ (us : Forest). node (expression Chain) (part (view_expr a.value) (part (list us) none))) (walk_forest (place.Level 0) bare (map (inside view_link) xs.items))) (subst (λ (v : Vec (Box Link Global) Global). OnOk r ((map (inside view_link) ys.items) ≡ (map (walk (place.Level 0) bare) (map (inside view_link) v.items)))) same k)

pub control_case : {T E : Type 0} (r : Result T E) (bare : Bool) (at : Option Span) (e : Option (Box Expr Global)) (xs ys zs : Vec (Box Stmt Global) Global) (old : Control) → old ≡ control.Case at e xs → zs ≡ xs → OnOk r ((map (inside view_stmt) ys.items) ≡ (map (walk (place.Level 0) bare) (map (inside view_stmt) zs.items))) → OnOk r (view_control (control.Case at e ys) ≡ with_second bare (view_control old))
control_case r bare at e xs ys zs old is same k =
    arm r (with_second bare) (λ (us : List Tree). clause_of view_expr e (list (forest us)))
    (view_control (control.Case at e ys)) (view_control old) (map (inside view_stmt) xs.items) (map (inside view_stmt) ys.items) (map (walk (place.Level 0) bare) (map (inside view_stmt) xs.items))
    (view-Control-Case at e ys) (ap (λ (q : Control). view_control q) is ∙ (view-Control-Case at e xs))
    (clause_goes bare e (forest (map (inside view_stmt) xs.items)) ∙ ap (λ (us : Forest). clause_of view_expr e (list us)) (walk_forest (place.Level 0) bare (map (inside view_stmt) xs.items))) (subst (λ (v : Vec (Box Stmt Global) Global). OnOk r ((map (inside view_stmt) ys.items) ≡ (map (walk (place.Level 0) bare) (map (inside view_stmt) v.items)))) same k)

pub control_switch : {T E : Type 0} (r : Result T E) (bare : Bool) (at : Option Span) (e : Box Expr Global) (xs ys zs : Vec (Box Control Global) Global) (old : Control) → old ≡ control.Switch at e xs → zs ≡ xs → OnOk r ((map (inside view_control) ys.items) ≡ (map (walk (place.Level 0) false) (map (inside view_control) zs.items))) → OnOk r (view_control (control.Switch at e ys) ≡ with_second bare (view_control old))
control_switch r bare at e xs ys zs old is same k =
    arm r (with_second bare) (λ (us : List Tree). node (statement Switch) (part (view_expr e.value) (part (list (forest us)) none)))
    (view_control (control.Switch at e ys)) (view_control old) (map (inside view_control) xs.items) (map (inside view_control) ys.items) (map (walk (place.Level 0) false) (map (inside view_control) xs.items))
    (view-Control-Switch at e ys) (ap (λ (q : Control). view_control q) is ∙ (view-Control-Switch at e xs))
    (ap (λ (us : Forest). node (statement Switch) (part (view_expr e.value) (part (list us) none))) (walk_forest (place.Level 0) false (map (inside view_control) xs.items))) (subst (λ (v : Vec (Box Control Global) Global). OnOk r ((map (inside view_control) ys.items) ≡ (map (walk (place.Level 0) false) (map (inside view_control) v.items)))) same k)

pub arrow_first : {T E : Type 0} (r : Result T E) (bare : Bool) (at : Option Span) (b : Box Expr Global) (xs ys zs : Vec (Box Pat Global) Global) (old : Operation) → old ≡ operation.Arrow at xs b → zs ≡ xs → OnOk r ((map (seen_at Binds) ys.items) ≡ (map (walk (place.Level 0) false) (map (seen_at Binds) zs.items))) → OnOk r (view_operation (operation.Arrow at ys b) ≡ with_part 0 bare (view_operation old))
arrow_first r bare at b xs ys zs old is same k =
    arm r (with_part 0 bare) (λ (us : List Tree). node (expression Arrow) (part (list (forest us)) (part (view_expr b.value) none)))
    (view_operation (operation.Arrow at ys b)) (view_operation old) (map (seen_at Binds) xs.items) (map (seen_at Binds) ys.items) (map (walk (place.Level 0) false) (map (seen_at Binds) xs.items))
    (view-Operation-Arrow at ys b ∙ ap (λ (us : Forest). node (expression Arrow) (part (list us) (part (view_expr b.value) none))) (forest_roles Binds ys.items)) (ap (λ (q : Operation). view_operation q) is ∙ (view-Operation-Arrow at xs b ∙ ap (λ (us : Forest). node (expression Arrow) (part (list us) (part (view_expr b.value) none))) (forest_roles Binds xs.items)))
    (ap (λ (us : Forest). node (expression Arrow) (part (list us) (part (view_expr b.value) none))) (walk_forest (place.Level 0) false (map (seen_at Binds) xs.items))) (subst (λ (v : Vec (Box Pat Global) Global). OnOk r ((map (seen_at Binds) ys.items) ≡ (map (walk (place.Level 0) false) (map (seen_at Binds) v.items)))) same k)

pub arrow_block_first : {T E : Type 0} (r : Result T E) (bare : Bool) (at : Option Span) (ds : Vec Text Global) (ss : Vec (Box Stmt Global) Global) (xs ys zs : Vec (Box Pat Global) Global) (old : Operation) → old ≡ operation.ArrowBlock at xs ds ss → zs ≡ xs → OnOk r ((map (seen_at Binds) ys.items) ≡ (map (walk (place.Level 0) false) (map (seen_at Binds) zs.items))) → OnOk r (view_operation (operation.ArrowBlock at ys ds ss) ≡ with_part 0 bare (view_operation old))
arrow_block_first r bare at ds ss xs ys zs old is same k =
    arm r (with_part 0 bare) (λ (us : List Tree). node (expression ArrowBlock) (part (list (forest us)) (part (body_with ds.items (forest (map (inside view_stmt) ss.items))) none)))
    (view_operation (operation.ArrowBlock at ys ds ss)) (view_operation old) (map (seen_at Binds) xs.items) (map (seen_at Binds) ys.items) (map (walk (place.Level 0) false) (map (seen_at Binds) xs.items))
    (view-Operation-ArrowBlock at ys ds ss ∙ ap (λ (us : Forest). node (expression ArrowBlock) (part (list us) (part (body_with ds.items (forest (map (inside view_stmt) ss.items))) none))) (forest_roles Binds ys.items)) (ap (λ (q : Operation). view_operation q) is ∙ (view-Operation-ArrowBlock at xs ds ss ∙ ap (λ (us : Forest). node (expression ArrowBlock) (part (list us) (part (body_with ds.items (forest (map (inside view_stmt) ss.items))) none))) (forest_roles Binds xs.items)))
    (ap (λ (us : Forest). node (expression ArrowBlock) (part (list us) (part (body_with ds.items (forest (map (inside view_stmt) ss.items))) none))) (walk_forest (place.Level 0) false (map (seen_at Binds) xs.items))) (subst (λ (v : Vec (Box Pat Global) Global). OnOk r ((map (seen_at Binds) ys.items) ≡ (map (walk (place.Level 0) false) (map (seen_at Binds) v.items)))) same k)

pub stmt_var : {T E : Type 0} (r : Result T E) (bare : Bool) (at : Option Span) (w : declared.DeclareWord) (xs ys zs : Vec (Box Pat Global) Global) (old : Stmt) → old ≡ stmt.Var at w xs → zs ≡ xs → OnOk r ((map (seen_at Binds) ys.items) ≡ (map (walk (place.Level 0) bare) (map (seen_at Binds) zs.items))) → OnOk r (view_stmt (stmt.Var at w ys) ≡ but_code bare (view_stmt old))
stmt_var r bare at w xs ys zs old is same k =
    arm r (but_code bare) (λ (us : List Tree). node (statement (Var (word_of w))) (part (list (forest us)) none))
    (view_stmt (stmt.Var at w ys)) (view_stmt old) (map (seen_at Binds) xs.items) (map (seen_at Binds) ys.items) (map (walk (place.Level 0) bare) (map (seen_at Binds) xs.items))
    (view-Stmt-Var at w ys ∙ ap (λ (us : Forest). node (statement (Var (word_of w))) (part (list us) none)) (forest_roles Binds ys.items)) (ap (λ (q : Stmt). view_stmt q) is ∙ (view-Stmt-Var at w xs ∙ ap (λ (us : Forest). node (statement (Var (word_of w))) (part (list us) none)) (forest_roles Binds xs.items)))
    (var_goes (word_of w) bare (forest (map (seen_at Binds) xs.items)) ∙ ap (λ (us : Forest). node (statement (Var (word_of w))) (part (list us) none)) (walk_forest (place.Level 0) bare (map (seen_at Binds) xs.items))) (subst (λ (v : Vec (Box Pat Global) Global). OnOk r ((map (seen_at Binds) ys.items) ≡ (map (walk (place.Level 0) bare) (map (seen_at Binds) v.items)))) same k)

pub pattern_declaration : {T E : Type 0} (r : Result T E) (bare : Bool) (rr : Role) (at : Option Span) (w : declared.DeclareWord) (xs ys zs : Vec (Box Pat Global) Global) (old : Pat) → old ≡ pat.Declaration at w xs → zs ≡ xs → OnOk r ((map (seen_at Binds) ys.items) ≡ (map (walk (place.Level 0) bare) (map (seen_at Binds) zs.items))) → OnOk r (view_pattern (pat.Declaration at w ys) rr ≡ but_half bare (view_pattern old rr))
pattern_declaration r bare rr at w xs ys zs old is same k =
    arm r (but_half bare) (λ (us : List Tree). node (statement (ForDeclaration (word_of w))) (part (list (forest us)) none))
    (view_pattern (pat.Declaration at w ys) rr) (view_pattern old rr) (map (seen_at Binds) xs.items) (map (seen_at Binds) ys.items) (map (walk (place.Level 0) bare) (map (seen_at Binds) xs.items))
    (view-Pat-Declaration at w ys rr ∙ ap (λ (us : Forest). node (statement (ForDeclaration (word_of w))) (part (list us) none)) (forest_roles Binds ys.items)) (ap (λ (q : Pat). view_pattern q rr) is ∙ (view-Pat-Declaration at w xs rr ∙ ap (λ (us : Forest). node (statement (ForDeclaration (word_of w))) (part (list us) none)) (forest_roles Binds xs.items)))
    (head_goes (word_of w) bare (forest (map (seen_at Binds) xs.items)) ∙ ap (λ (us : Forest). node (statement (ForDeclaration (word_of w))) (part (list us) none)) (walk_forest (place.Level 0) bare (map (seen_at Binds) xs.items))) (subst (λ (v : Vec (Box Pat Global) Global). OnOk r ((map (seen_at Binds) ys.items) ≡ (map (walk (place.Level 0) bare) (map (seen_at Binds) v.items)))) same k)

pub function_second : {T E : Type 0} (r : Result T E) (bare : Bool) (at : Option Span) (a : Option (Box Ident Global)) (ds : Vec Text Global) (ss : Vec (Box Stmt Global) Global) (xs ys zs : Vec (Box Pat Global) Global) (old : Expr) → old ≡ expr.Function at a xs ds ss → zs ≡ xs → OnOk r ((map (seen_at Binds) ys.items) ≡ (map (walk (place.Level 0) false) (map (seen_at Binds) zs.items))) → OnOk r (view_expr (expr.Function at a ys ds ss) ≡ with_code 1 bare (view_expr old))
function_second r bare at a ds ss xs ys zs old is same k =
    arm r (with_code 1 bare) (λ (us : List Tree). node (function FunctionExpr) (part (optional_of name_of a) (part (list (forest us)) (part (body_with ds.items (forest (map (inside view_stmt) ss.items))) none))))
    (view_expr (expr.Function at a ys ds ss)) (view_expr old) (map (seen_at Binds) xs.items) (map (seen_at Binds) ys.items) (map (walk (place.Level 0) false) (map (seen_at Binds) xs.items))
    (view-Expr-Function at a ys ds ss ∙ ap (λ (us : Forest). node (function FunctionExpr) (part (optional_of name_of a) (part (list us) (part (body_with ds.items (forest (map (inside view_stmt) ss.items))) none)))) (forest_roles Binds ys.items)) (ap (λ (q : Expr). view_expr q) is ∙ (view-Expr-Function at a xs ds ss ∙ ap (λ (us : Forest). node (function FunctionExpr) (part (optional_of name_of a) (part (list us) (part (body_with ds.items (forest (map (inside view_stmt) ss.items))) none)))) (forest_roles Binds xs.items)))
    (ap (λ (us : Forest). node (function FunctionExpr) (part (optional_of name_of a) (part (list us) (part (body_with ds.items (forest (map (inside view_stmt) ss.items))) none)))) (walk_forest (place.Level 0) false (map (seen_at Binds) xs.items))) (subst (λ (v : Vec (Box Pat Global) Global). OnOk r ((map (seen_at Binds) ys.items) ≡ (map (walk (place.Level 0) false) (map (seen_at Binds) v.items)))) same k)

pub function_decl_second : {T E : Type 0} (r : Result T E) (bare : Bool) (at : Option Span) (a : Ident) (ds : Vec Text Global) (ss : Vec (Box Stmt Global) Global) (xs ys zs : Vec (Box Pat Global) Global) (old : Stmt) → old ≡ stmt.Function at a xs ds ss → zs ≡ xs → OnOk r ((map (seen_at Binds) ys.items) ≡ (map (walk (place.Level 0) false) (map (seen_at Binds) zs.items))) → OnOk r (view_stmt (stmt.Function at a ys ds ss) ≡ with_code 1 bare (view_stmt old))
function_decl_second r bare at a ds ss xs ys zs old is same k =
    arm r (with_code 1 bare) (λ (us : List Tree). node (statement FunctionDecl) (part (name_of a) (part (list (forest us)) (part (body_with ds.items (forest (map (inside view_stmt) ss.items))) none))))
    (view_stmt (stmt.Function at a ys ds ss)) (view_stmt old) (map (seen_at Binds) xs.items) (map (seen_at Binds) ys.items) (map (walk (place.Level 0) false) (map (seen_at Binds) xs.items))
    (view-Stmt-Function at a ys ds ss ∙ ap (λ (us : Forest). node (statement FunctionDecl) (part (name_of a) (part (list us) (part (body_with ds.items (forest (map (inside view_stmt) ss.items))) none)))) (forest_roles Binds ys.items)) (ap (λ (q : Stmt). view_stmt q) is ∙ (view-Stmt-Function at a xs ds ss ∙ ap (λ (us : Forest). node (statement FunctionDecl) (part (name_of a) (part (list us) (part (body_with ds.items (forest (map (inside view_stmt) ss.items))) none)))) (forest_roles Binds xs.items)))
    (ap (λ (us : Forest). node (statement FunctionDecl) (part (name_of a) (part (list us) (part (body_with ds.items (forest (map (inside view_stmt) ss.items))) none)))) (walk_forest (place.Level 0) false (map (seen_at Binds) xs.items))) (subst (λ (v : Vec (Box Pat Global) Global). OnOk r ((map (seen_at Binds) ys.items) ≡ (map (walk (place.Level 0) false) (map (seen_at Binds) v.items)))) same k)

pub method_second : {T E : Type 0} (r : Result T E) (bare : Bool) (o : Owner) (at : Option Span) (p : Placement) (i : Key) (ds : Vec Text Global) (ss : Vec (Box Stmt Global) Global) (xs ys zs : Vec (Box Pat Global) Global) (old : Prop) → old ≡ prop.Method at p i xs ds ss → zs ≡ xs → OnOk r ((map (seen_at Binds) ys.items) ≡ (map (walk (place.Level 0) false) (map (seen_at Binds) zs.items))) → OnOk r (view_member (prop.Method at p i ys ds ss) o ≡ with_part 1 false (view_member old o))
method_second r bare o at p i ds ss xs ys zs old is same k =
    arm r (with_part 1 false) (λ (us : List Tree). node (function (Method (holder_of o p))) (part (view_key i) (part (list (forest us)) (part (body_with ds.items (forest (map (inside view_stmt) ss.items))) none))))
    (view_member (prop.Method at p i ys ds ss) o) (view_member old o) (map (seen_at Binds) xs.items) (map (seen_at Binds) ys.items) (map (walk (place.Level 0) false) (map (seen_at Binds) xs.items))
    (view-Prop-Method at p i ys ds ss o ∙ ap (λ (us : Forest). node (function (Method (holder_of o p))) (part (view_key i) (part (list us) (part (body_with ds.items (forest (map (inside view_stmt) ss.items))) none)))) (forest_roles Binds ys.items)) (ap (λ (q : Prop). view_member q o) is ∙ (view-Prop-Method at p i xs ds ss o ∙ ap (λ (us : Forest). node (function (Method (holder_of o p))) (part (view_key i) (part (list us) (part (body_with ds.items (forest (map (inside view_stmt) ss.items))) none)))) (forest_roles Binds xs.items)))
    (ap (λ (us : Forest). node (function (Method (holder_of o p))) (part (view_key i) (part (list us) (part (body_with ds.items (forest (map (inside view_stmt) ss.items))) none)))) (walk_forest (place.Level 0) false (map (seen_at Binds) xs.items))) (subst (λ (v : Vec (Box Pat Global) Global). OnOk r ((map (seen_at Binds) ys.items) ≡ (map (walk (place.Level 0) false) (map (seen_at Binds) v.items)))) same k)

pub class_third : {T E : Type 0} (r : Result T E) (bare : Bool) (at : Option Span) (a : Option (Box Ident Global)) (e : Option (Box Expr Global)) (xs ys zs : Vec (Box Prop Global) Global) (old : Expr) → old ≡ expr.Class at a e xs → zs ≡ xs → OnOk r ((map (member_at OfClass) ys.items) ≡ (map (walk (place.Level 0) false) (map (member_at OfClass) zs.items))) → OnOk r (view_expr (expr.Class at a e ys) ≡ with_code 2 false (view_expr old))
class_third r bare at a e xs ys zs old is same k =
    arm r (with_code 2 false) (λ (us : List Tree). node (function ClassExpr) (part (optional_of name_of a) (part (optional_of view_expr e) (part (list (forest us)) none))))
    (view_expr (expr.Class at a e ys)) (view_expr old) (map (member_at OfClass) xs.items) (map (member_at OfClass) ys.items) (map (walk (place.Level 0) false) (map (member_at OfClass) xs.items))
    (view-Expr-Class at a e ys ∙ ap (λ (us : Forest). node (function ClassExpr) (part (optional_of name_of a) (part (optional_of view_expr e) (part (list us) none)))) (class_members ys.items)) (ap (λ (q : Expr). view_expr q) is ∙ (view-Expr-Class at a e xs ∙ ap (λ (us : Forest). node (function ClassExpr) (part (optional_of name_of a) (part (optional_of view_expr e) (part (list us) none)))) (class_members xs.items)))
    (ap (λ (us : Forest). node (function ClassExpr) (part (optional_of name_of a) (part (optional_of view_expr e) (part (list us) none)))) (walk_forest (place.Level 0) false (map (member_at OfClass) xs.items))) (subst (λ (v : Vec (Box Prop Global) Global). OnOk r ((map (member_at OfClass) ys.items) ≡ (map (walk (place.Level 0) false) (map (member_at OfClass) v.items)))) same k)

pub class_decl_third : {T E : Type 0} (r : Result T E) (bare : Bool) (at : Option Span) (a : Ident) (e : Option (Box Expr Global)) (xs ys zs : Vec (Box Prop Global) Global) (old : Stmt) → old ≡ stmt.Class at a e xs → zs ≡ xs → OnOk r ((map (member_at OfClass) ys.items) ≡ (map (walk (place.Level 0) false) (map (member_at OfClass) zs.items))) → OnOk r (view_stmt (stmt.Class at a e ys) ≡ with_code 2 false (view_stmt old))
class_decl_third r bare at a e xs ys zs old is same k =
    arm r (with_code 2 false) (λ (us : List Tree). node (statement ClassDecl) (part (name_of a) (part (optional_of view_expr e) (part (list (forest us)) none))))
    (view_stmt (stmt.Class at a e ys)) (view_stmt old) (map (member_at OfClass) xs.items) (map (member_at OfClass) ys.items) (map (walk (place.Level 0) false) (map (member_at OfClass) xs.items))
    (view-Stmt-Class at a e ys ∙ ap (λ (us : Forest). node (statement ClassDecl) (part (name_of a) (part (optional_of view_expr e) (part (list us) none)))) (class_members ys.items)) (ap (λ (q : Stmt). view_stmt q) is ∙ (view-Stmt-Class at a e xs ∙ ap (λ (us : Forest). node (statement ClassDecl) (part (name_of a) (part (optional_of view_expr e) (part (list us) none)))) (class_members xs.items)))
    (ap (λ (us : Forest). node (statement ClassDecl) (part (name_of a) (part (optional_of view_expr e) (part (list us) none)))) (walk_forest (place.Level 0) false (map (member_at OfClass) xs.items))) (subst (λ (v : Vec (Box Prop Global) Global). OnOk r ((map (member_at OfClass) ys.items) ≡ (map (walk (place.Level 0) false) (map (member_at OfClass) v.items)))) same k)

pub getter_second : {T E : Type 0} (r : Result T E) (bare : Bool) (o : Owner) (at : Option Span) (p : Placement) (i : Key) (ds : Vec Text Global) (xs ys zs : Vec (Box Stmt Global) Global) (old : Prop) → old ≡ prop.Getter at p i ds xs → zs ≡ xs → OnOk r ((forest (map (inside view_stmt) ys.items)) ≡ (first_no_directive (walk_each (place.Level 0) false (forest (map (inside view_stmt) zs.items))))) → OnOk r (view_member (prop.Getter at p i ds ys) o ≡ with_part 1 false (view_member old o))
getter_second r bare o at p i ds xs ys zs old is same k =
    arm r (with_part 1 false) (λ (us : Forest). node (function (Getter (holder_of o p))) (part (view_key i) (part (body_with ds.items us) none)))
    (view_member (prop.Getter at p i ds ys) o) (view_member old o) (forest (map (inside view_stmt) xs.items)) (forest (map (inside view_stmt) ys.items)) (first_no_directive (walk_each (place.Level 0) false (forest (map (inside view_stmt) xs.items))))
    (view-Prop-Getter at p i ds ys o) (ap (λ (q : Prop). view_member q o) is ∙ (view-Prop-Getter at p i ds xs o))
    (ap (λ (t : Tree). node (function (Getter (holder_of o p))) (part (view_key i) (part t none))) (body_goes ds.items (forest (map (inside view_stmt) xs.items)))) (subst (λ (v : Vec (Box Stmt Global) Global). OnOk r ((forest (map (inside view_stmt) ys.items)) ≡ (first_no_directive (walk_each (place.Level 0) false (forest (map (inside view_stmt) v.items)))))) same k)

pub arrow_block_second : {T E : Type 0} (r : Result T E) (bare : Bool) (at : Option Span) (ps : Vec (Box Pat Global) Global) (ds : Vec Text Global) (xs ys zs : Vec (Box Stmt Global) Global) (old : Operation) → old ≡ operation.ArrowBlock at ps ds xs → zs ≡ xs → OnOk r ((forest (map (inside view_stmt) ys.items)) ≡ (first_no_directive (walk_each (place.Level 0) false (forest (map (inside view_stmt) zs.items))))) → OnOk r (view_operation (operation.ArrowBlock at ps ds ys) ≡ with_part 1 bare (view_operation old))
arrow_block_second r bare at ps ds xs ys zs old is same k =
    arm r (with_part 1 bare) (λ (us : Forest). node (expression ArrowBlock) (part (list (forest_at Binds (map (inside view_pattern) ps.items))) (part (body_with ds.items us) none)))
    (view_operation (operation.ArrowBlock at ps ds ys)) (view_operation old) (forest (map (inside view_stmt) xs.items)) (forest (map (inside view_stmt) ys.items)) (first_no_directive (walk_each (place.Level 0) false (forest (map (inside view_stmt) xs.items))))
    (view-Operation-ArrowBlock at ps ds ys) (ap (λ (q : Operation). view_operation q) is ∙ (view-Operation-ArrowBlock at ps ds xs))
    (ap (λ (t : Tree). node (expression ArrowBlock) (part (list (forest_at Binds (map (inside view_pattern) ps.items))) (part t none))) (body_goes ds.items (forest (map (inside view_stmt) xs.items)))) (subst (λ (v : Vec (Box Stmt Global) Global). OnOk r ((forest (map (inside view_stmt) ys.items)) ≡ (first_no_directive (walk_each (place.Level 0) false (forest (map (inside view_stmt) v.items)))))) same k)

pub bare_arrow_block_second : {T E : Type 0} (r : Result T E) (bare : Bool) (at : Option Span) (a : Ident) (ds : Vec Text Global) (xs ys zs : Vec (Box Stmt Global) Global) (old : Operation) → old ≡ operation.BareArrowBlock at a ds xs → zs ≡ xs → OnOk r ((forest (map (inside view_stmt) ys.items)) ≡ (first_no_directive (walk_each (place.Level 0) false (forest (map (inside view_stmt) zs.items))))) → OnOk r (view_operation (operation.BareArrowBlock at a ds ys) ≡ with_part 1 bare (view_operation old))
bare_arrow_block_second r bare at a ds xs ys zs old is same k =
    arm r (with_part 1 bare) (λ (us : Forest). node (expression BareArrowBlock) (part (name_of a) (part (body_with ds.items us) none)))
    (view_operation (operation.BareArrowBlock at a ds ys)) (view_operation old) (forest (map (inside view_stmt) xs.items)) (forest (map (inside view_stmt) ys.items)) (first_no_directive (walk_each (place.Level 0) false (forest (map (inside view_stmt) xs.items))))
    (view-Operation-BareArrowBlock at a ds ys) (ap (λ (q : Operation). view_operation q) is ∙ (view-Operation-BareArrowBlock at a ds xs))
    (ap (λ (t : Tree). node (expression BareArrowBlock) (part (name_of a) (part t none))) (body_goes ds.items (forest (map (inside view_stmt) xs.items)))) (subst (λ (v : Vec (Box Stmt Global) Global). OnOk r ((forest (map (inside view_stmt) ys.items)) ≡ (first_no_directive (walk_each (place.Level 0) false (forest (map (inside view_stmt) v.items)))))) same k)

pub function_third : {T E : Type 0} (r : Result T E) (bare : Bool) (at : Option Span) (a : Option (Box Ident Global)) (ps : Vec (Box Pat Global) Global) (ds : Vec Text Global) (xs ys zs : Vec (Box Stmt Global) Global) (old : Expr) → old ≡ expr.Function at a ps ds xs → zs ≡ xs → OnOk r ((forest (map (inside view_stmt) ys.items)) ≡ (first_no_directive (walk_each (place.Level 0) false (forest (map (inside view_stmt) zs.items))))) → OnOk r (view_expr (expr.Function at a ps ds ys) ≡ with_code 2 false (view_expr old))
function_third r bare at a ps ds xs ys zs old is same k =
    arm r (with_code 2 false) (λ (us : Forest). node (function FunctionExpr) (part (optional_of name_of a) (part (list (forest_at Binds (map (inside view_pattern) ps.items))) (part (body_with ds.items us) none))))
    (view_expr (expr.Function at a ps ds ys)) (view_expr old) (forest (map (inside view_stmt) xs.items)) (forest (map (inside view_stmt) ys.items)) (first_no_directive (walk_each (place.Level 0) false (forest (map (inside view_stmt) xs.items))))
    (view-Expr-Function at a ps ds ys) (ap (λ (q : Expr). view_expr q) is ∙ (view-Expr-Function at a ps ds xs))
    (ap (λ (t : Tree). node (function FunctionExpr) (part (optional_of name_of a) (part (list (forest_at Binds (map (inside view_pattern) ps.items))) (part t none)))) (body_goes ds.items (forest (map (inside view_stmt) xs.items)))) (subst (λ (v : Vec (Box Stmt Global) Global). OnOk r ((forest (map (inside view_stmt) ys.items)) ≡ (first_no_directive (walk_each (place.Level 0) false (forest (map (inside view_stmt) v.items)))))) same k)

pub function_decl_third : {T E : Type 0} (r : Result T E) (bare : Bool) (at : Option Span) (a : Ident) (ps : Vec (Box Pat Global) Global) (ds : Vec Text Global) (xs ys zs : Vec (Box Stmt Global) Global) (old : Stmt) → old ≡ stmt.Function at a ps ds xs → zs ≡ xs → OnOk r ((forest (map (inside view_stmt) ys.items)) ≡ (first_no_directive (walk_each (place.Level 0) false (forest (map (inside view_stmt) zs.items))))) → OnOk r (view_stmt (stmt.Function at a ps ds ys) ≡ with_code 2 false (view_stmt old))
function_decl_third r bare at a ps ds xs ys zs old is same k =
    arm r (with_code 2 false) (λ (us : Forest). node (statement FunctionDecl) (part (name_of a) (part (list (forest_at Binds (map (inside view_pattern) ps.items))) (part (body_with ds.items us) none))))
    (view_stmt (stmt.Function at a ps ds ys)) (view_stmt old) (forest (map (inside view_stmt) xs.items)) (forest (map (inside view_stmt) ys.items)) (first_no_directive (walk_each (place.Level 0) false (forest (map (inside view_stmt) xs.items))))
    (view-Stmt-Function at a ps ds ys) (ap (λ (q : Stmt). view_stmt q) is ∙ (view-Stmt-Function at a ps ds xs))
    (ap (λ (t : Tree). node (statement FunctionDecl) (part (name_of a) (part (list (forest_at Binds (map (inside view_pattern) ps.items))) (part t none)))) (body_goes ds.items (forest (map (inside view_stmt) xs.items)))) (subst (λ (v : Vec (Box Stmt Global) Global). OnOk r ((forest (map (inside view_stmt) ys.items)) ≡ (first_no_directive (walk_each (place.Level 0) false (forest (map (inside view_stmt) v.items)))))) same k)

pub method_third : {T E : Type 0} (r : Result T E) (bare : Bool) (o : Owner) (at : Option Span) (p : Placement) (i : Key) (ps : Vec (Box Pat Global) Global) (ds : Vec Text Global) (xs ys zs : Vec (Box Stmt Global) Global) (old : Prop) → old ≡ prop.Method at p i ps ds xs → zs ≡ xs → OnOk r ((forest (map (inside view_stmt) ys.items)) ≡ (first_no_directive (walk_each (place.Level 0) false (forest (map (inside view_stmt) zs.items))))) → OnOk r (view_member (prop.Method at p i ps ds ys) o ≡ with_part 2 false (view_member old o))
method_third r bare o at p i ps ds xs ys zs old is same k =
    arm r (with_part 2 false) (λ (us : Forest). node (function (Method (holder_of o p))) (part (view_key i) (part (list (forest_at Binds (map (inside view_pattern) ps.items))) (part (body_with ds.items us) none))))
    (view_member (prop.Method at p i ps ds ys) o) (view_member old o) (forest (map (inside view_stmt) xs.items)) (forest (map (inside view_stmt) ys.items)) (first_no_directive (walk_each (place.Level 0) false (forest (map (inside view_stmt) xs.items))))
    (view-Prop-Method at p i ps ds ys o) (ap (λ (q : Prop). view_member q o) is ∙ (view-Prop-Method at p i ps ds xs o))
    (ap (λ (t : Tree). node (function (Method (holder_of o p))) (part (view_key i) (part (list (forest_at Binds (map (inside view_pattern) ps.items))) (part t none)))) (body_goes ds.items (forest (map (inside view_stmt) xs.items)))) (subst (λ (v : Vec (Box Stmt Global) Global). OnOk r ((forest (map (inside view_stmt) ys.items)) ≡ (first_no_directive (walk_each (place.Level 0) false (forest (map (inside view_stmt) v.items)))))) same k)

pub setter_third : {T E : Type 0} (r : Result T E) (bare : Bool) (o : Owner) (at : Option Span) (p : Placement) (i : Key) (q1 : Box Pat Global) (ds : Vec Text Global) (xs ys zs : Vec (Box Stmt Global) Global) (old : Prop) → old ≡ prop.Setter at p i q1 ds xs → zs ≡ xs → OnOk r ((forest (map (inside view_stmt) ys.items)) ≡ (first_no_directive (walk_each (place.Level 0) false (forest (map (inside view_stmt) zs.items))))) → OnOk r (view_member (prop.Setter at p i q1 ds ys) o ≡ with_part 2 false (view_member old o))
setter_third r bare o at p i q1 ds xs ys zs old is same k =
    arm r (with_part 2 false) (λ (us : Forest). node (function (Setter (holder_of o p))) (part (view_key i) (part (view_pattern q1.value Binds) (part (body_with ds.items us) none))))
    (view_member (prop.Setter at p i q1 ds ys) o) (view_member old o) (forest (map (inside view_stmt) xs.items)) (forest (map (inside view_stmt) ys.items)) (first_no_directive (walk_each (place.Level 0) false (forest (map (inside view_stmt) xs.items))))
    (view-Prop-Setter at p i q1 ds ys o) (ap (λ (q : Prop). view_member q o) is ∙ (view-Prop-Setter at p i q1 ds xs o))
    (ap (λ (t : Tree). node (function (Setter (holder_of o p))) (part (view_key i) (part (view_pattern q1.value Binds) (part t none)))) (body_goes ds.items (forest (map (inside view_stmt) xs.items)))) (subst (λ (v : Vec (Box Stmt Global) Global). OnOk r ((forest (map (inside view_stmt) ys.items)) ≡ (first_no_directive (walk_each (place.Level 0) false (forest (map (inside view_stmt) v.items)))))) same k)

pub template_first : {T E : Type 0} (r : Result T E) (bare : Bool) (at : Option Span) (ps : Vec Text Global) (xs ys zs : Vec (Box Expr Global) Global) (old : Expr) → old ≡ expr.Template at ps xs → zs ≡ xs → OnOk r (map (inside view_expr) ys.items ≡ map (walk (place.Level 0) false) (map (inside view_expr) zs.items)) → OnOk r (view_expr (expr.Template at ps ys) ≡ but_code bare (view_expr old))
template_first r bare at ps xs ys zs old is same k =
    arm r (but_code bare) (template false ps.items) (view_expr (expr.Template at ps ys)) (view_expr old) (map (inside view_expr) xs.items) (map (inside view_expr) ys.items) (map (walk (place.Level 0) false) (map (inside view_expr) xs.items))
    (view-Expr-Template at ps ys) (ap view_expr is ∙ view-Expr-Template at ps xs) (template_but bare ps.items (map (inside view_expr) xs.items)) (subst (λ (v : Vec (Box Expr Global) Global). OnOk r (map (inside view_expr) ys.items ≡ map (walk (place.Level 0) false) (map (inside view_expr) v.items))) same k)

pub tagged_second : {T E : Type 0} (r : Result T E) (bare : Bool) (at : Option Span) (a : Box Expr Global) (here : Option Span) (ps : Vec Text Global) (xs ys zs : Vec (Box Expr Global) Global) (old : Access) → old ≡ access.Tagged at a here ps xs → zs ≡ xs → OnOk r (map (inside view_expr) ys.items ≡ map (walk (place.Level 0) false) (map (inside view_expr) zs.items)) → OnOk r (view_access (access.Tagged at a here ps ys) ≡ with_part 1 bare (view_access old))
tagged_second r bare at a here ps xs ys zs old is same k =
    arm r (with_part 1 bare) (λ (us : List Tree). node (expression Tagged) (part (view_expr a.value) (part (template true ps.items us) none))) (view_access (access.Tagged at a here ps ys)) (view_access old) (map (inside view_expr) xs.items) (map (inside view_expr) ys.items) (map (walk (place.Level 0) false) (map (inside view_expr) xs.items))
    (view-Access-Tagged at a here ps ys) (ap view_access is ∙ view-Access-Tagged at a here ps xs) (ap (λ (t : Tree). node (expression Tagged) (part (view_expr a.value) (part t none))) (template_there bare true ps.items (map (inside view_expr) xs.items))) (subst (λ (v : Vec (Box Expr Global) Global). OnOk r (map (inside view_expr) ys.items ≡ map (walk (place.Level 0) false) (map (inside view_expr) v.items))) same k)

pub catch_first : {T E : Type 0} (r : Result T E) (bare : Bool) (at : Option Span) (s : Box Stmt Global) (p q o : Option (Box Pat Global)) (old : Control) → old ≡ control.Catch at p s → o ≡ p → OnOk r (optional_at_of Binds view_pattern q ≡ walk (place.Level 0) bare (optional_at_of Binds view_pattern o)) → OnOk r (view_control (control.Catch at q s) ≡ with_test bare (view_control old))
catch_first r bare at s p q o old is same k =
    arm r (with_test bare) (λ (t : Tree). node (statement Catch) (part t (part (view_stmt s.value) none))) (view_control (control.Catch at q s)) (view_control old) (optional_at_of Binds view_pattern p) (optional_at_of Binds view_pattern q) (walk (place.Level 0) bare (optional_at_of Binds view_pattern p))
    (view-Control-Catch at q s) (ap view_control is ∙ view-Control-Catch at p s) refl (subst (λ (v : Option (Box Pat Global)). OnOk r (optional_at_of Binds view_pattern q ≡ walk (place.Level 0) bare (optional_at_of Binds view_pattern v))) same k)

pub target_first : {T E : Type 0} (r : Result T E) (bare : Bool) (rr : Role) (a b o : Box Expr Global) (old : Pat) → old ≡ pat.Target a → o ≡ a → OnOk r (view_expr b.value ≡ walk (place.Level 0) bare (view_expr o.value)) → OnOk r (view_pattern (pat.Target b) rr ≡ but_half bare (view_pattern old rr))
target_first r bare rr a b o old is same k =
    arm r (but_half bare) (λ (t : Tree). t) (view_pattern (pat.Target b) rr) (view_pattern old rr) (view_expr a.value) (view_expr b.value) (walk (place.Level 0) bare (view_expr a.value))
    (view-Pat-Target b rr) (ap (λ (q : Pat). view_pattern q rr) is ∙ view-Pat-Target a rr) (root_goes bare (view_expr a.value) (expr_root a.value))
    (subst (λ (v : Box Expr Global). OnOk r (view_expr b.value ≡ walk (place.Level 0) bare (view_expr v.value))) same k)

pub some_control : {T E : Type 0} (r : Result T E) (bare : Bool) (new mid : Control) (b : Box Control Global) (old : Option (Box Control Global)) → old ≡ Some b → mid ≡ b.value → OnOk r (view_control new ≡ inner bare (view_control mid)) → OnOk r (list (part (view_control new) none) ≡ walk (place.Level 0) bare (optional_of view_control old))
some_control r bare new mid b old is same k =
    on_ok_weaker {P = view_control new ≡ inner bare (view_control mid)} {Q = list (part (view_control new) none) ≡ walk (place.Level 0) bare (optional_of view_control old)} r
    (λ e. ap (λ (t : Tree). list (part t none)) (e ∙ (ap (λ (c : Control). inner bare (view_control c)) same ∙ statement_walk bare (view_control b.value) (control_root b.value))) ∙ ap (λ (o : Option (Box Control Global)). walk (place.Level 0) bare (optional_of view_control o)) (sym is)) k

-- what has no second part that is walked
still_half : (bare : Bool) (u v : Tree) → u ≡ v → v ≡ with_half bare v → u ≡ with_half bare u
still_half bare u v p q = subst (λ t. t ≡ with_half bare t) (sym p) q

root_half : (bare : Bool) (t : Tree) → is_root t ≡ true → t ≡ with_half bare t
root_half bare (leaf s x) h = refl
root_half bare (node (expression k) cs) h = refl
root_half bare (node (function FunctionExpr) cs) h = refl
root_half bare (node (function ClassExpr) cs) h = refl
root_half bare (node (jsx k) cs) h = refl
root_half bare (node (program k) cs) h = absurd (false≢true h)
root_half bare (node (statement k) cs) h = absurd (false≢true h)
root_half bare (node (function k) cs) h = absurd (false≢true h)
root_half bare (list ts) h = absurd (false≢true h)

abbrev IsOther : Pat → Type 0
IsOther p = ((at : Option Span) (q : Box Pat Global) (e : Option (Box Expr Global)) → p ≡ pat.Binding at q e → ⊥) × (((at : Option Span) (q : Box Pat Global) (e : Box Expr Global) → p ≡ pat.WithInit at q e → ⊥) × (((at : Option Span) (k : Key) (q : Box Pat Global) → p ≡ pat.Pair at k q → ⊥) × ((at : Option Span) (a : Ident) (e : Option (Box Expr Global)) → p ≡ pat.Shorthand at a e → ⊥)))

half_rolled : (bare : Bool) (y : Pat-F Access Control Expr Jsx Key Link Operation Pat Prop Stmt) (r : Role) → IsOther (roll-Pat y) → view_pattern (roll-Pat y) r ≡ with_half bare (view_pattern (roll-Pat y) r)
half_rolled bare (Pat-F.«Pat::Ident» at a) r h = still_half bare _ _ (ap (λ (q : Pat). view_pattern q r) (pat.rolls-Ident at a) ∙ view-Pat-Ident at a r) refl
half_rolled bare (Pat-F.«Pat::Array» at xs) r h = still_half bare _ _ (ap (λ (q : Pat). view_pattern q r) (pat.rolls-Array at xs) ∙ view-Pat-Array at xs r) refl
half_rolled bare (Pat-F.«Pat::Object» at xs) r h = still_half bare _ _ (ap (λ (q : Pat). view_pattern q r) (pat.rolls-Object at xs) ∙ view-Pat-Object at xs r) refl
half_rolled bare (Pat-F.Target a) r h = still_half bare _ _ (ap (λ (q : Pat). view_pattern q r) (pat.rolls-Target a) ∙ view-Pat-Target a r) (root_half bare (view_expr a.value) (expr_root a.value))
half_rolled bare (Pat-F.«Pat::Paren» at p) r h = still_half bare _ _ (ap (λ (q : Pat). view_pattern q r) (pat.rolls-Paren at p) ∙ view-Pat-Paren at p r) refl
half_rolled bare (Pat-F.Binding at q e) r h = absurd (h.0 at q e (pat.rolls-Binding at q e))
half_rolled bare (Pat-F.WithInit at q e) r h = absurd (h.1.0 at q e (pat.rolls-WithInit at q e))
half_rolled bare (Pat-F.Rest at p) r h = still_half bare _ _ (ap (λ (q : Pat). view_pattern q r) (pat.rolls-Rest at p) ∙ view-Pat-Rest at p r) refl
half_rolled bare Pat-F.«Pat::Hole» r h = still_half bare _ _ (ap (λ (q : Pat). view_pattern q r) pat.rolls-Hole ∙ view-Pat-Hole r) refl
half_rolled bare (Pat-F.«Pat::Pair» at k q) r h = absurd (h.1.1.0 at k q (pat.rolls-Pair at k q))
half_rolled bare (Pat-F.«Pat::Shorthand» at a e) r h = absurd (h.1.1.1 at a e (pat.rolls-Shorthand at a e))
half_rolled bare (Pat-F.RestProperty at a) r h = still_half bare _ _ (ap (λ (q : Pat). view_pattern q r) (pat.rolls-RestProperty at a) ∙ view-Pat-RestProperty at a r) refl
half_rolled bare (Pat-F.Declaration at w ps) r h = still_half bare _ _ (ap (λ (q : Pat). view_pattern q r) (pat.rolls-Declaration at w ps) ∙ view-Pat-Declaration at w ps r) refl
half_rolled bare (Pat-F.Head at w p) r h = still_half bare _ _ (ap (λ (q : Pat). view_pattern q r) (pat.rolls-Head at w p) ∙ view-Pat-Head at w p r) refl

pub half_stays : (bare : Bool) (p : Pat) (r : Role) → IsOther p → view_pattern p r ≡ with_half bare (view_pattern p r)
half_stays bare p r h = subst (λ q. view_pattern q r ≡ with_half bare (view_pattern q r)) (roll-out-Pat p) (half_rolled bare (out-Pat p) r (subst IsOther (sym (roll-out-Pat p)) h))
