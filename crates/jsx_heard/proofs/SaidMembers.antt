-- What is said of members, functions and classes: one equation for each variant that an answer cites.
use Rattle.std.proofs.Common.{◌≡◌, List, [], ◌∷◌, ◌++◌, map, ap, ◌∙◌, append-nil, Option, Box, Vec, Global}
use Rattle.jsx_base.specs.declared.place.Span.{Span}
use Rattle.jsx_tree.specs.Kinds.{Holder, InObject, Binds, FunctionExpr, ClassExpr, Method, Getter, Setter, Field, function, node, list, none, part}
use Rattle.jsx_tree.specs.Scopes.{AsParameter, AsLexical}
use Rattle.jsx_tree.specs.Told.{tales, told_list, told_node, told_optional, told_ident, told_body, told_expr, told_key, told_pat, told_prop, told_stmt}
use Rattle.jsx_tree.specs.View.{Owner, inside, name_of, holder_of, forest_at, members_of_class, optional_of, body, view_expr, view_key, view_member, view_pattern, view_stmt}
use Rattle.jsx_tree.specs.declared.text.Text.{Text}
use Rattle.jsx_tree.specs.declared.text.Ident.{Ident}
use Rattle.jsx_tree.specs.declared.text.Placement.{Placement}
use Rattle.jsx_tree.specs.declared.tree.Expr.{Expr}
use Rattle.jsx_tree.specs.declared.tree.Key.{Key}
use Rattle.jsx_tree.specs.declared.tree.Prop.{Prop}
use Rattle.jsx_tree.specs.declared.tree.Pat.{Pat}
use Rattle.jsx_tree.specs.declared.tree.Stmt.{Stmt}
use Rattle.jsx_tree.specs.declared.tree.Expr.TheVariants as expr
use Rattle.jsx_tree.specs.declared.tree.Prop.TheVariants as prop
use Rattle.jsx_tree.proofs.Views.{ap_2, view-Expr-Function, view-Expr-Class, view-Prop-Method, view-Prop-Getter, view-Prop-Setter, view-Prop-Field}
use Rattle.jsx_tree.proofs.Telling.{told-Expr-Function, told-Expr-Class, told-Prop-Method, told-Prop-Getter, told-Prop-Setter, told-Prop-Field}
use Rattle.jsx_names.specs.Events.{Plain, Binding, Simply, InHead, OfFunction, OfName}
use Rattle.jsx_heard.specs.Said.{Idents, Unnamed, Elsewhere, InDefault, Met, opens, enters, closes, said, said_each, of_value}
use Rattle.jsx_heard.proofs.SaidValues.{value, parameters, statements, code_met, last_two, in_scope}

-- ---- the parts of members

abbrev pub key_met : Key → List Met
key_met k = said Plain Unnamed Elsewhere (view_key k) (told_key k)

abbrev pub setter_met : Pat → List Met
setter_met q = said (Binding InHead AsParameter) Idents Elsewhere (view_pattern q Binds) (told_pat q)

abbrev pub optional_met : Option (Box Expr Global) → List Met
optional_met e = of_value (optional_of view_expr e) (told_optional told_expr e)

abbrev pub members : List (Box Prop Global) → List Met
members ms = said_each Plain Unnamed Elsewhere (members_of_class (map (inside view_member) ms)) (tales (map (inside told_prop) ms))

-- the name of a function or class expression
abbrev pub own_met : Option (Box Ident Global) → List Met
own_met a = said (Binding Simply AsLexical) Idents Elsewhere (optional_of name_of a) (told_optional told_ident a)

-- ---- keys

-- ---- members, whosever they are

-- the key stands outside of the scope
behind_key : (xs ys : List Met) (ds : List Text) (ss : List (Box Stmt Global)) →
    (xs ++ []) ++ opens OfFunction ∷ ((ys ++ (enters ∷ (said Plain Unnamed Elsewhere (body ds (map (inside view_stmt) ss)) (told_body ds (map (inside told_stmt) ss)) ++ []))) ++ closes ∷ []) ≡ xs ++ code_met ys (statements ss)
behind_key xs ys ds ss =
    ap (λ z. z ++ opens OfFunction ∷ ((ys ++ (enters ∷ (said Plain Unnamed Elsewhere (body ds (map (inside view_stmt) ss)) (told_body ds (map (inside told_stmt) ss)) ++ []))) ++ closes ∷ [])) (append-nil xs)
    ∙ ap (λ z. xs ++ z) (in_scope ys ds ss)

method_node : (h : Holder) (at : Option Span) (k : Key) (ps : List (Box Pat Global)) (ds : List Text) (ss : List (Box Stmt Global)) →
    said Plain Unnamed Elsewhere (node (function (Method h)) (part (view_key k) (part (list (forest_at Binds (map (inside view_pattern) ps))) (part (body ds (map (inside view_stmt) ss)) none)))) (told_node at (told_key k ∷ told_list (map (inside told_pat) ps) ∷ told_body ds (map (inside told_stmt) ss) ∷ []))
    ≡ key_met k ++ code_met (parameters ps) (statements ss)
method_node InObject at k ps ds ss = behind_key (key_met k) (parameters ps) ds ss
method_node _ at k ps ds ss = behind_key (key_met k) (parameters ps) ds ss

getter_node : (h : Holder) (at : Option Span) (k : Key) (ds : List Text) (ss : List (Box Stmt Global)) →
    said Plain Unnamed Elsewhere (node (function (Getter h)) (part (view_key k) (part (body ds (map (inside view_stmt) ss)) none))) (told_node at (told_key k ∷ told_body ds (map (inside told_stmt) ss) ∷ []))
    ≡ key_met k ++ code_met [] (statements ss)
getter_node InObject at k ds ss = behind_key (key_met k) [] ds ss
getter_node _ at k ds ss = behind_key (key_met k) [] ds ss

setter_node : (h : Holder) (at : Option Span) (k : Key) (q : Pat) (ds : List Text) (ss : List (Box Stmt Global)) →
    said Plain Unnamed Elsewhere (node (function (Setter h)) (part (view_key k) (part (view_pattern q Binds) (part (body ds (map (inside view_stmt) ss)) none)))) (told_node at (told_key k ∷ told_pat q ∷ told_body ds (map (inside told_stmt) ss) ∷ []))
    ≡ key_met k ++ code_met (setter_met q) (statements ss)
setter_node InObject at k q ds ss = behind_key (key_met k) (setter_met q) ds ss
setter_node _ at k q ds ss = behind_key (key_met k) (setter_met q) ds ss

field_node : (h : Holder) (at : Option Span) (k : Key) (e : Option (Box Expr Global)) →
    said Plain Unnamed Elsewhere (node (function (Field h)) (part (view_key k) (part (optional_of view_expr e) none))) (told_node at (told_key k ∷ told_optional told_expr e ∷ []))
    ≡ key_met k ++ optional_met e
field_node InObject at k e = last_two (key_met k) (optional_met e)
field_node _ at k e = last_two (key_met k) (optional_met e)

pub said-Prop-Method : (at : Option Span) (p : Placement) (k : Key) (ps : Vec (Box Pat Global) Global) (ds : Vec Text Global) (ss : Vec (Box Stmt Global) Global) (o : Owner) → said Plain Unnamed Elsewhere (view_member (prop.Method at p k ps ds ss) o) (told_prop (prop.Method at p k ps ds ss)) ≡ key_met k ++ code_met (parameters ps.items) (statements ss.items)
said-Prop-Method at p k ps ds ss o = ap_2 (said Plain Unnamed Elsewhere) (view-Prop-Method at p k ps ds ss o) (told-Prop-Method at p k ps ds ss) ∙ method_node (holder_of o p) at k ps.items ds.items ss.items

pub said-Prop-Getter : (at : Option Span) (p : Placement) (k : Key) (ds : Vec Text Global) (ss : Vec (Box Stmt Global) Global) (o : Owner) → said Plain Unnamed Elsewhere (view_member (prop.Getter at p k ds ss) o) (told_prop (prop.Getter at p k ds ss)) ≡ key_met k ++ code_met [] (statements ss.items)
said-Prop-Getter at p k ds ss o = ap_2 (said Plain Unnamed Elsewhere) (view-Prop-Getter at p k ds ss o) (told-Prop-Getter at p k ds ss) ∙ getter_node (holder_of o p) at k ds.items ss.items

pub said-Prop-Setter : (at : Option Span) (p : Placement) (k : Key) (q : Box Pat Global) (ds : Vec Text Global) (ss : Vec (Box Stmt Global) Global) (o : Owner) → said Plain Unnamed Elsewhere (view_member (prop.Setter at p k q ds ss) o) (told_prop (prop.Setter at p k q ds ss)) ≡ key_met k ++ code_met (setter_met q.value) (statements ss.items)
said-Prop-Setter at p k q ds ss o = ap_2 (said Plain Unnamed Elsewhere) (view-Prop-Setter at p k q ds ss o) (told-Prop-Setter at p k q ds ss) ∙ setter_node (holder_of o p) at k q.value ds.items ss.items

pub said-Prop-Field : (at : Option Span) (p : Placement) (k : Key) (e : Option (Box Expr Global)) (o : Owner) → said Plain Unnamed Elsewhere (view_member (prop.Field at p k e) o) (told_prop (prop.Field at p k e)) ≡ key_met k ++ optional_met e
said-Prop-Field at p k e o = ap_2 (said Plain Unnamed Elsewhere) (view-Prop-Field at p k e o) (told-Prop-Field at p k e) ∙ field_node (holder_of o p) at k e

-- ---- function and class expressions, with their names

abbrev pub function_at : Option Span → Option (Box Ident Global) → List (Box Pat Global) → List Text → List (Box Stmt Global) → List Met
function_at at a ps ds ss = of_value (node (function FunctionExpr) (part (optional_of name_of a) (part (list (forest_at Binds (map (inside view_pattern) ps))) (part (body ds (map (inside view_stmt) ss)) none)))) (told_node at (told_optional told_ident a ∷ told_list (map (inside told_pat) ps) ∷ told_body ds (map (inside told_stmt) ss) ∷ []))

abbrev pub class_at : Option Span → Option (Box Ident Global) → Option (Box Expr Global) → List (Box Prop Global) → List Met
class_at at a e ms = of_value (node (function ClassExpr) (part (optional_of name_of a) (part (optional_of view_expr e) (part (list (members_of_class (map (inside view_member) ms))) none)))) (told_node at (told_optional told_ident a ∷ told_optional told_expr e ∷ told_list (map (inside told_prop) ms) ∷ []))

abbrev pub default_class_at : Option Span → Option (Box Ident Global) → Option (Box Expr Global) → List (Box Prop Global) → List Met
default_class_at at a e ms = said Plain Unnamed InDefault (node (function ClassExpr) (part (optional_of name_of a) (part (optional_of view_expr e) (part (list (members_of_class (map (inside view_member) ms))) none)))) (told_node at (told_optional told_ident a ∷ told_optional told_expr e ∷ told_list (map (inside told_prop) ms) ∷ []))

pub said-Expr-Function : (at : Option Span) (a : Option (Box Ident Global)) (ps : Vec (Box Pat Global) Global) (ds : Vec Text Global) (ss : Vec (Box Stmt Global) Global) → value (expr.Function at a ps ds ss) ≡ function_at at a ps.items ds.items ss.items
said-Expr-Function at a ps ds ss = ap_2 of_value (view-Expr-Function at a ps ds ss) (told-Expr-Function at a ps ds ss)

pub said-Expr-Class : (at : Option Span) (a : Option (Box Ident Global)) (e : Option (Box Expr Global)) (ms : Vec (Box Prop Global) Global) → value (expr.Class at a e ms) ≡ class_at at a e ms.items
said-Expr-Class at a e ms = ap_2 of_value (view-Expr-Class at a e ms) (told-Expr-Class at a e ms)

pub function_said : (at : Option Span) (a : Option (Box Ident Global)) (ps : List (Box Pat Global)) (ds : List Text) (ss : List (Box Stmt Global)) → function_at at a ps ds ss ≡ opens OfName ∷ ((own_met a ++ code_met (parameters ps) (statements ss)) ++ closes ∷ [])
function_said at a ps ds ss = ap (λ z. opens OfName ∷ (z ++ closes ∷ [])) (behind_key (own_met a) (parameters ps) ds ss)

pub class_said : (at : Option Span) (a : Option (Box Ident Global)) (e : Option (Box Expr Global)) (ms : List (Box Prop Global)) → class_at at a e ms ≡ opens OfName ∷ ((own_met a ++ (optional_met e ++ members ms)) ++ closes ∷ [])
class_said at a e ms = ap (λ z. opens OfName ∷ ((own_met a ++ z) ++ closes ∷ [])) (last_two (optional_met e) (members ms))

-- behind `export default` the name is the module's
pub default_class_said : (at : Option Span) (a : Option (Box Ident Global)) (e : Option (Box Expr Global)) (ms : List (Box Prop Global)) → default_class_at at a e ms ≡ own_met a ++ (optional_met e ++ members ms)
default_class_said at a e ms = ap (λ z. own_met a ++ z) (last_two (optional_met e) (members ms))
