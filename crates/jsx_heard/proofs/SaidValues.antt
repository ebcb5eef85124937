-- What is said of expressions: one equation for each variant that an answer cites.
use Rattle.std.proofs.Common.{◌≡◌, List, [], ◌∷◌, ◌++◌, map, Bool, true, false, sym, ap, ◌∙◌, append_assoc, append-nil, Option, Box, Vec, Global, Result}
use Rattle.std.specs.Prelude.{OnOk}
use Rattle.std.proofs.lemmas.Result.{on_ok_weaker}
use Rattle.jsx_base.specs.declared.place.Span.{Span}
use Rattle.jsx_tree.specs.Kinds.{BinaryOp, Nullish, Assigns, Binds, Binary, CallLink, expression, Tree, node, list, none, part}
use Rattle.jsx_tree.specs.Scopes.{AsParameter}
use Rattle.jsx_tree.specs.Spans.{Told}
use Rattle.jsx_tree.specs.Told.{tales, told_list, told_node, told_ident, told_body, told_template, told_access, told_expr, told_jsx, told_link, told_operation, told_pat, told_prop, told_stmt}
use Rattle.jsx_tree.specs.View.{inside, name_of, is_optional, forest, forest_at, members_of_object, body, template, view_access, view_expr, view_jsx, view_link, view_member, view_operation, view_pattern, view_stmt}
use Rattle.jsx_tree.specs.ViewOperators.{binary_of}
use Rattle.jsx_tree.specs.declared.text.Text.{Text}
use Rattle.jsx_tree.specs.declared.text.Ident.{Ident}
use Rattle.jsx_tree.specs.declared.text.LinkForm.{LinkForm}
use Rattle.jsx_tree.specs.declared.operator.BinaryOp as code_binary
use Rattle.jsx_tree.specs.declared.tree.Expr.{Expr}
use Rattle.jsx_tree.specs.declared.tree.Link.{Link}
use Rattle.jsx_tree.specs.declared.tree.Prop.{Prop}
use Rattle.jsx_tree.specs.declared.tree.Pat.{Pat}
use Rattle.jsx_tree.specs.declared.tree.Stmt.{Stmt}
use Rattle.jsx_tree.specs.declared.tree.Jsx.{Jsx}
use Rattle.jsx_tree.specs.declared.tree.Expr.TheVariants as expr
use Rattle.jsx_tree.specs.declared.tree.Operation.TheVariants as operation
use Rattle.jsx_tree.specs.declared.tree.Access.TheVariants as access
use Rattle.jsx_tree.specs.declared.tree.Link.TheVariants as link
use Rattle.jsx_tree.proofs.Views.{ap_2, view-Expr-Array, view-Expr-Object, view-Expr-Template, view-Expr-Jsx, view-Expr-Paren, view-Operation-Seq, view-Operation-Arrow, view-Operation-ArrowBlock, view-Operation-BareArrowBlock, view-Operation-Cond, view-Operation-Binary, view-Access-Call, view-Access-Index, view-Access-Tagged, view-Access-New, view-Access-SuperCall, view-Access-Chain, view-Link-Call}
use Rattle.jsx_tree.proofs.Telling.{told-Expr-Array, told-Expr-Object, told-Expr-Template, told-Expr-Jsx, told-Expr-Paren, told-Operation-Seq, told-Operation-Arrow, told-Operation-ArrowBlock, told-Operation-BareArrowBlock, told-Operation-Cond, told-Operation-Binary, told-Access-Call, told-Access-Index, told-Access-Tagged, told-Access-New, told-Access-SuperCall, told-Access-Chain, told-Link-Call}
use Rattle.jsx_names.specs.Events.{Plain, Binding, InHead, OfFunction}
use Rattle.jsx_heard.specs.Said.{Idents, Unnamed, Elsewhere, Met, each_met, its, opens, enters, closes, said, said_each, of_value}
use Rattle.jsx_heard.proofs.Evals.{called_by, eval_bare}
use Rattle.jsx_heard.proofs.Saying.{body_said}
use Rattle.jsx_heard.proofs.Templates.{template_there}

-- ---- the parts of the code's nodes

abbrev pub value : Expr → List Met
value x = of_value (view_expr x) (told_expr x)

abbrev pub values : List (Box Expr Global) → List Met
values xs = said_each Plain Idents Elsewhere (forest (map (inside view_expr) xs)) (tales (map (inside told_expr) xs))

abbrev pub target : Pat → List Met
target p = of_value (view_pattern p Assigns) (told_pat p)

abbrev pub parameters : List (Box Pat Global) → List Met
parameters ps = said_each (Binding InHead AsParameter) Idents Elsewhere (forest_at Binds (map (inside view_pattern) ps)) (tales (map (inside told_pat) ps))

abbrev pub parameter : Ident → List Met
parameter a = said (Binding InHead AsParameter) Idents Elsewhere (name_of a) (told_ident a)

abbrev pub statements : List (Box Stmt Global) → List Met
statements ss = said_each Plain Unnamed Elsewhere (forest (map (inside view_stmt) ss)) (tales (map (inside told_stmt) ss))

abbrev pub object_members : List (Box Prop Global) → List Met
object_members ms = said_each Plain Unnamed Elsewhere (members_of_object (map (inside view_member) ms)) (tales (map (inside told_prop) ms))

abbrev pub links : List (Box Link Global) → List Met
links xs = said_each Plain Unnamed Elsewhere (forest (map (inside view_link) xs)) (tales (map (inside told_link) xs))

-- the scope of a function
abbrev pub code_met : List Met → List Met → List Met
code_met xs ys = opens OfFunction ∷ (xs ++ enters ∷ (ys ++ closes ∷ []))

-- ---- nothing behind the last part

pub last_two : (xs ys : List Met) → xs ++ (ys ++ []) ≡ xs ++ ys
last_two xs ys = ap (λ z. xs ++ z) (append-nil ys)

last_three : (xs ys zs : List Met) → xs ++ (ys ++ (zs ++ [])) ≡ xs ++ (ys ++ zs)
last_three xs ys zs = ap (λ z. xs ++ z) (last_two ys zs)

pub code_ends : (xs ys : List Met) → (xs ++ (enters ∷ (ys ++ []))) ++ closes ∷ [] ≡ xs ++ enters ∷ (ys ++ closes ∷ [])
code_ends xs ys = append_assoc xs (enters ∷ (ys ++ [])) (closes ∷ []) ∙ ap (λ z. xs ++ enters ∷ (z ++ closes ∷ [])) (append-nil ys)

-- ---- nodes that hang on an operator

binary_node : (o : BinaryOp) (at : Option Span) (a b : Tree) (d e : Told) → of_value (node (expression (Binary o)) (part a (part b none))) (told_node at (d ∷ e ∷ [])) ≡ of_value a d ++ of_value b e
binary_node Nullish at a b d e = last_two (of_value a d) (of_value b e)
binary_node _ at a b d e = last_two (of_value a d) (of_value b e)

-- ---- the body of a function

pub code_said : (ds : List Text) (ss : List (Box Stmt Global)) → said Plain Unnamed Elsewhere (body ds (map (inside view_stmt) ss)) (told_body ds (map (inside told_stmt) ss)) ≡ statements ss
code_said ds ss = body_said Plain Unnamed Elsewhere ds (map (inside view_stmt) ss) (map (inside told_stmt) ss)

pub in_scope : (xs : List Met) (ds : List Text) (ss : List (Box Stmt Global)) →
    opens OfFunction ∷ ((xs ++ (enters ∷ (said Plain Unnamed Elsewhere (body ds (map (inside view_stmt) ss)) (told_body ds (map (inside told_stmt) ss)) ++ []))) ++ closes ∷ []) ≡ code_met xs (statements ss)
in_scope xs ds ss =
    ap (λ z. opens OfFunction ∷ z) (code_ends xs (said Plain Unnamed Elsewhere (body ds (map (inside view_stmt) ss)) (told_body ds (map (inside told_stmt) ss))))
    ∙ ap (λ z. opens OfFunction ∷ (xs ++ enters ∷ (z ++ closes ∷ []))) (code_said ds ss)

-- ---- expressions

pub said-Expr-Array : (at : Option Span) (xs : Vec (Box Expr Global) Global) → value (expr.Array at xs) ≡ values xs.items
said-Expr-Array at xs = ap_2 of_value (view-Expr-Array at xs) (told-Expr-Array at xs) ∙ append-nil (values xs.items)

pub said-Expr-Object : (at : Option Span) (xs : Vec (Box Prop Global) Global) → value (expr.Object at xs) ≡ said_each Plain Unnamed Elsewhere (members_of_object (map (inside view_member) xs.items)) (tales (map (inside told_prop) xs.items))
said-Expr-Object at xs = ap_2 of_value (view-Expr-Object at xs) (told-Expr-Object at xs) ∙ append-nil _

pub said-Expr-Template : (at : Option Span) (ps : Vec Text Global) (xs : Vec (Box Expr Global) Global) → value (expr.Template at ps xs) ≡ of_value (template false ps.items (map (inside view_expr) xs.items)) (told_template at ps.items (map (inside told_expr) xs.items))
said-Expr-Template at ps xs = ap_2 of_value (view-Expr-Template at ps xs) (told-Expr-Template at ps xs)

pub said-Expr-Jsx : (a : Box Jsx Global) → value (expr.Jsx a) ≡ of_value (view_jsx a.value) (told_jsx a.value)
said-Expr-Jsx a = ap_2 of_value (view-Expr-Jsx a) (told-Expr-Jsx a)

pub said-Expr-Paren : (at : Option Span) (a : Box Expr Global) → value (expr.Paren at a) ≡ value a.value
said-Expr-Paren at a = ap_2 of_value (view-Expr-Paren at a) (told-Expr-Paren at a)

-- ---- operators

pub said-Operation-Seq : (at : Option Span) (xs : Vec (Box Expr Global) Global) → of_value (view_operation (operation.Seq at xs)) (told_operation (operation.Seq at xs)) ≡ values xs.items
said-Operation-Seq at xs = ap_2 of_value (view-Operation-Seq at xs) (told-Operation-Seq at xs) ∙ append-nil (values xs.items)

pub said-Operation-Arrow : (at : Option Span) (ps : Vec (Box Pat Global) Global) (b : Box Expr Global) → of_value (view_operation (operation.Arrow at ps b)) (told_operation (operation.Arrow at ps b)) ≡ code_met (parameters ps.items) (value b.value)
said-Operation-Arrow at ps b = ap_2 of_value (view-Operation-Arrow at ps b) (told-Operation-Arrow at ps b) ∙ ap (λ z. opens OfFunction ∷ z) (code_ends (parameters ps.items) (value b.value))

pub said-Operation-ArrowBlock : (at : Option Span) (ps : Vec (Box Pat Global) Global) (ds : Vec Text Global) (ss : Vec (Box Stmt Global) Global) → of_value (view_operation (operation.ArrowBlock at ps ds ss)) (told_operation (operation.ArrowBlock at ps ds ss)) ≡ code_met (parameters ps.items) (statements ss.items)
said-Operation-ArrowBlock at ps ds ss = ap_2 of_value (view-Operation-ArrowBlock at ps ds ss) (told-Operation-ArrowBlock at ps ds ss) ∙ in_scope (parameters ps.items) ds.items ss.items

pub said-Operation-BareArrowBlock : (at : Option Span) (a : Ident) (ds : Vec Text Global) (ss : Vec (Box Stmt Global) Global) → of_value (view_operation (operation.BareArrowBlock at a ds ss)) (told_operation (operation.BareArrowBlock at a ds ss)) ≡ code_met (parameter a) (statements ss.items)
said-Operation-BareArrowBlock at a ds ss = ap_2 of_value (view-Operation-BareArrowBlock at a ds ss) (told-Operation-BareArrowBlock at a ds ss) ∙ in_scope (parameter a) ds.items ss.items

pub said-Operation-Cond : (at : Option Span) (a : Box Expr Global) (b : Box Expr Global) (c : Box Expr Global) → of_value (view_operation (operation.Cond at a b c)) (told_operation (operation.Cond at a b c)) ≡ value a.value ++ (value b.value ++ value c.value)
said-Operation-Cond at a b c = ap_2 of_value (view-Operation-Cond at a b c) (told-Operation-Cond at a b c) ∙ last_three (value a.value) (value b.value) (value c.value)

pub said-Operation-Binary : (at : Option Span) (o : code_binary.BinaryOp) (a : Box Expr Global) (b : Box Expr Global) → of_value (view_operation (operation.Binary at o a b)) (told_operation (operation.Binary at o a b)) ≡ value a.value ++ value b.value
said-Operation-Binary at o a b = ap_2 of_value (view-Operation-Binary at o a b) (told-Operation-Binary at o a b) ∙ binary_node (binary_of o) at (view_expr a.value) (view_expr b.value) (told_expr a.value) (told_expr b.value)

-- ---- what goes on with an expression

pub said-Access-Call : (at : Option Span) (f : Box Expr Global) (xs : Vec (Box Expr Global) Global) → of_value (view_access (access.Call at f xs)) (told_access (access.Call at f xs)) ≡ called_by f.value ++ (value f.value ++ values xs.items)
said-Access-Call at f xs =
    ap_2 of_value (view-Access-Call at f xs) (told-Access-Call at f xs)
    ∙ ap (λ z. each_met (its (told_expr f.value)) z ++ (value f.value ++ (values xs.items ++ []))) (eval_bare _ (view_expr f.value))
    ∙ last_three (called_by f.value) (value f.value) (values xs.items)

pub said-Access-Index : (at : Option Span) (a : Box Expr Global) (b : Box Expr Global) → of_value (view_access (access.Index at a b)) (told_access (access.Index at a b)) ≡ value a.value ++ value b.value
said-Access-Index at a b = ap_2 of_value (view-Access-Index at a b) (told-Access-Index at a b) ∙ last_two (value a.value) (value b.value)

pub said-Access-Tagged : (at : Option Span) (a : Box Expr Global) (here : Option Span) (ps : Vec Text Global) (xs : Vec (Box Expr Global) Global) → of_value (view_access (access.Tagged at a here ps xs)) (told_access (access.Tagged at a here ps xs)) ≡ value a.value ++ of_value (template true ps.items (map (inside view_expr) xs.items)) (told_template here ps.items (map (inside told_expr) xs.items))
said-Access-Tagged at a here ps xs =
    ap_2 of_value (view-Access-Tagged at a here ps xs) (told-Access-Tagged at a here ps xs)
    ∙ last_two (value a.value) (said Plain Unnamed Elsewhere (template true ps.items (map (inside view_expr) xs.items)) (told_template here ps.items (map (inside told_expr) xs.items)))
    ∙ ap (λ z. value a.value ++ z) (template_there Elsewhere true here ps.items (map (inside view_expr) xs.items) (map (inside told_expr) xs.items))

-- a template with its span, tagged or not
abbrev pub template_met : Bool → Option Span → List Text → List (Box Expr Global) → List Met
template_met b at ps xs = of_value (template b ps (map (inside view_expr) xs)) (told_template at ps (map (inside told_expr) xs))

pub templated : {T E : Type 0} (r : Result T E) (old new : List Met) (ps : List Text) (xs ys : List (Box Expr Global)) →
    ((b : Bool) (at : Option Span) → of_value (template b ps (map (inside view_expr) xs)) (told_template at ps (map (inside told_expr) xs)) ≡ values ys) → OnOk r (new ≡ old ++ values ys) →
    OnOk r ((b : Bool) (at : Option Span) → new ≡ old ++ of_value (template b ps (map (inside view_expr) xs)) (told_template at ps (map (inside told_expr) xs)))
templated r old new ps xs ys shown k =
    on_ok_weaker {P = new ≡ old ++ values ys} {Q = (b : Bool) (at : Option Span) → new ≡ old ++ of_value (template b ps (map (inside view_expr) xs)) (told_template at ps (map (inside told_expr) xs))} r (λ e b at. e ∙ ap (λ z. old ++ z) (sym (shown b at))) k

pub said-Access-New : (at : Option Span) (f : Box Expr Global) (xs : Vec (Box Expr Global) Global) → of_value (view_access (access.New at f xs)) (told_access (access.New at f xs)) ≡ value f.value ++ values xs.items
said-Access-New at f xs = ap_2 of_value (view-Access-New at f xs) (told-Access-New at f xs) ∙ last_two (value f.value) (values xs.items)

pub said-Access-SuperCall : (at : Option Span) (xs : Vec (Box Expr Global) Global) → of_value (view_access (access.SuperCall at xs)) (told_access (access.SuperCall at xs)) ≡ values xs.items
said-Access-SuperCall at xs = ap_2 of_value (view-Access-SuperCall at xs) (told-Access-SuperCall at xs) ∙ append-nil (values xs.items)

pub said-Access-Chain : (at : Option Span) (a : Box Expr Global) (xs : Vec (Box Link Global) Global) → of_value (view_access (access.Chain at a xs)) (told_access (access.Chain at a xs)) ≡ value a.value ++ links xs.items
said-Access-Chain at a xs = ap_2 of_value (view-Access-Chain at a xs) (told-Access-Chain at a xs) ∙ last_two (value a.value) (links xs.items)

-- ---- the links of a chain

call_link : (q : Bool) (at : Option Span) (xs : List (Box Expr Global)) → said Plain Unnamed Elsewhere (node (expression (CallLink q)) (part (list (forest (map (inside view_expr) xs))) none)) (told_node at (told_list (map (inside told_expr) xs) ∷ [])) ≡ values xs
call_link true at xs = append-nil (values xs)
call_link false at xs = append-nil (values xs)

pub said-Link-Call : (at : Option Span) (q : LinkForm) (xs : Vec (Box Expr Global) Global) → said Plain Unnamed Elsewhere (view_link (link.Call at q xs)) (told_link (link.Call at q xs)) ≡ values xs.items
said-Link-Call at q xs = ap_2 (said Plain Unnamed Elsewhere) (view-Link-Call at q xs) (told-Link-Call at q xs) ∙ call_link (is_optional q) at xs.items
