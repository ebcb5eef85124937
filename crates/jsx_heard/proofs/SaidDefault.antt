-- What is said of an expression behind `export default`: but for a class, and for a name, what is said of it elsewhere.
use Rattle.std.proofs.Common.{◌≡◌, List, [], ◌∷◌, ◌++◌, map, refl, sym, ap, ◌∙◌, Option, Box, Vec, Global, Result}
use Rattle.std.specs.Prelude.{OnOk}
use Rattle.std.proofs.lemmas.Result.{on_ok_weaker}
use Rattle.jsx_base.specs.declared.place.Span.{Span}
use Rattle.jsx_tree.specs.declared.text.Ident.{Ident}
use Rattle.jsx_tree.specs.declared.text.Word.{Word}
use Rattle.jsx_tree.specs.declared.text.Word.TheVariants as words
use Rattle.jsx_tree.specs.declared.tree.Expr.{Expr}
use Rattle.jsx_tree.specs.declared.tree.Operation.{Operation}
use Rattle.jsx_tree.specs.declared.tree.Access.{Access}
use Rattle.jsx_tree.specs.declared.tree.Link.{Link}
use Rattle.jsx_tree.specs.declared.tree.Prop.{Prop}
use Rattle.jsx_tree.specs.declared.tree.Key.{Key}
use Rattle.jsx_tree.specs.declared.tree.Pat.{Pat}
use Rattle.jsx_tree.specs.declared.tree.Stmt.{Stmt}
use Rattle.jsx_tree.specs.declared.tree.Control.{Control}
use Rattle.jsx_tree.specs.declared.tree.Jsx.{Jsx}
use Rattle.jsx_tree.specs.declared.tree.Expr.TheVariants as expr
use Rattle.jsx_tree.specs.declared.tree.Access.TheOpen.{Expr-F}
use Rattle.jsx_tree.specs.declared.tree.Access.TheViews.{roll-Expr, out-Expr, roll-out-Expr}
use Rattle.jsx_tree.specs.Spans.{Told, tells, Claim, Tales}
use Rattle.jsx_tree.specs.Kinds.{ClassExpr, function, node, list, none, part}
use Rattle.jsx_tree.specs.Told.{told_expr, told_ident, told_list, told_node, told_optional, told_prop}
use Rattle.jsx_tree.specs.View.{inside, members_of_class, name_of, optional_of, text_of, view_expr, view_member, view_word}
use Rattle.jsx_tree.proofs.Views.{view-Expr-Literal, view-Expr-Word, view-Expr-Operation, view-Expr-Access, view-Expr-Array, view-Expr-Object, view-Expr-Template, view-Expr-Function, view-Expr-Class, view-Expr-Jsx, view-Expr-Paren}
use Rattle.jsx_tree.proofs.Telling.{told-Expr-Class}
use Rattle.jsx_names.specs.Events.{Plain}
use Rattle.jsx_heard.specs.Said.{Met, Unnamed, InDefault, said, of_value}
use Rattle.jsx_heard.proofs.Anywhere.{by_view, literal_anywhere, template_anywhere, operation_anywhere, access_anywhere, jsx_anywhere}

default_word : (w : Word) (cs : List Claim) (ds : Tales) → said Plain Unnamed InDefault (view_word w) (tells cs ds) ≡ of_value (view_word w) (tells cs ds)
default_word words.This cs ds = refl
default_word words.Null cs ds = refl
default_word words.True cs ds = refl
default_word words.False cs ds = refl
default_word words.ImportMeta cs ds = refl
default_word words.NewTarget cs ds = refl

rolled_default : (y : Expr-F Access Control Expr Jsx Key Link Operation Pat Prop Stmt) (d : Told) → ((at : Option Span) (a : Ident) → roll-Expr y ≡ expr.Ident at a → ⊥)
    → ((at : Option Span) (a : Option (Box Ident Global)) (e : Option (Box Expr Global)) (ms : Vec (Box Prop Global) Global) → roll-Expr y ≡ expr.Class at a e ms → ⊥)
    → said Plain Unnamed InDefault (view_expr (roll-Expr y)) d ≡ of_value (view_expr (roll-Expr y)) d
rolled_default (Expr-F.«Expr::Ident» at a) d i c = absurd (i at a (expr.rolls-Ident at a))
rolled_default (Expr-F.Word at w) (tells cs ds) i c = by_view Plain Unnamed InDefault _ _ (tells cs ds) (ap view_expr (expr.rolls-Word at w) ∙ view-Expr-Word at w) (default_word w cs ds)
rolled_default (Expr-F.«Expr::Literal» at k a) d i c = by_view Plain Unnamed InDefault _ _ d (ap view_expr (expr.rolls-Literal at k a) ∙ view-Expr-Literal at k a) (literal_anywhere Plain Unnamed InDefault k (text_of a) d)
rolled_default (Expr-F.Operation a) d i c = by_view Plain Unnamed InDefault _ _ d (ap view_expr (expr.rolls-Operation a) ∙ view-Expr-Operation a) (operation_anywhere Plain Unnamed InDefault a d)
rolled_default (Expr-F.Access a) d i c = by_view Plain Unnamed InDefault _ _ d (ap view_expr (expr.rolls-Access a) ∙ view-Expr-Access a) (access_anywhere Plain Unnamed InDefault a d)
rolled_default (Expr-F.«Expr::Array» at xs) (tells cs ds) i c = by_view Plain Unnamed InDefault _ _ (tells cs ds) (ap view_expr (expr.rolls-Array at xs) ∙ view-Expr-Array at xs) refl
rolled_default (Expr-F.«Expr::Object» at xs) (tells cs ds) i c = by_view Plain Unnamed InDefault _ _ (tells cs ds) (ap view_expr (expr.rolls-Object at xs) ∙ view-Expr-Object at xs) refl
rolled_default (Expr-F.Template at ps xs) (tells cs ds) i c = by_view Plain Unnamed InDefault _ _ (tells cs ds) (ap view_expr (expr.rolls-Template at ps xs) ∙ view-Expr-Template at ps xs) (template_anywhere Plain Unnamed InDefault ps.items (map (inside view_expr) xs.items) cs ds)
rolled_default (Expr-F.«Expr::Function» at a ps ds ss) (tells cs us) i c = by_view Plain Unnamed InDefault _ _ (tells cs us) (ap view_expr (expr.rolls-Function at a ps ds ss) ∙ view-Expr-Function at a ps ds ss) refl
rolled_default (Expr-F.«Expr::Class» at a e ms) d i c = absurd (c at a e ms (expr.rolls-Class at a e ms))
rolled_default (Expr-F.Jsx a) d i c = by_view Plain Unnamed InDefault _ _ d (ap view_expr (expr.rolls-Jsx a) ∙ view-Expr-Jsx a) (jsx_anywhere Plain Unnamed InDefault a.value d)
rolled_default (Expr-F.«Expr::Paren» at a) (tells cs ds) i c = by_view Plain Unnamed InDefault _ _ (tells cs ds) (ap view_expr (expr.rolls-Paren at a) ∙ view-Expr-Paren at a) refl

default_said : (e : Expr) (d : Told) → ((at : Option Span) (a : Ident) → e ≡ expr.Ident at a → ⊥)
    → ((at : Option Span) (a : Option (Box Ident Global)) (f : Option (Box Expr Global)) (ms : Vec (Box Prop Global) Global) → e ≡ expr.Class at a f ms → ⊥)
    → said Plain Unnamed InDefault (view_expr e) d ≡ of_value (view_expr e) d
default_said e d i c =
    by_view Plain Unnamed InDefault _ _ d (ap view_expr (sym (roll-out-Expr e)))
    (rolled_default (out-Expr e) d (λ at a is. i at a (sym (roll-out-Expr e) ∙ is)) (λ at a f ms is. c at a f ms (sym (roll-out-Expr e) ∙ is)))

pub default_there : {T E : Type 0} (r : Result T E) (e : Expr) (old new : List Met) → ((at : Option Span) (a : Ident) → e ≡ expr.Ident at a → ⊥)
    → ((at : Option Span) (a : Option (Box Ident Global)) (f : Option (Box Expr Global)) (ms : Vec (Box Prop Global) Global) → e ≡ expr.Class at a f ms → ⊥)
    → OnOk r (new ≡ old ++ of_value (view_expr e) (told_expr e)) → OnOk r (new ≡ old ++ said Plain Unnamed InDefault (view_expr e) (told_expr e))
default_there r e old new i c k =
    on_ok_weaker {P = new ≡ old ++ of_value (view_expr e) (told_expr e)} {Q = new ≡ old ++ said Plain Unnamed InDefault (view_expr e) (told_expr e)} r (λ x. x ∙ ap (λ z. old ++ z) (sym (default_said e (told_expr e) i c))) k

-- a class, whose name the module declares
abbrev pub class_met : Option Span → Option (Box Ident Global) → Option (Box Expr Global) → List (Box Prop Global) → List Met
class_met at a f xs = said Plain Unnamed InDefault (node (function ClassExpr) (part (optional_of name_of a) (part (optional_of view_expr f) (part (list (members_of_class (map (inside view_member) xs))) none)))) (told_node at (told_optional told_ident a ∷ told_optional told_expr f ∷ told_list (map (inside told_prop) xs) ∷ []))

class_alike : (at : Option Span) (a : Option (Box Ident Global)) (f : Option (Box Expr Global)) (ms : Vec (Box Prop Global) Global) → said Plain Unnamed InDefault (view_expr (expr.Class at a f ms)) (told_expr (expr.Class at a f ms)) ≡ class_met at a f ms.items
class_alike at a f ms = rw (view-Expr-Class, told-Expr-Class)

pub class_there : {T E : Type 0} (r : Result T E) (e : Expr) (at : Option Span) (a : Option (Box Ident Global)) (f : Option (Box Expr Global)) (ms : Vec (Box Prop Global) Global) (xs : List (Box Prop Global)) (old new : List Met)
    → e ≡ expr.Class at a f ms → xs ≡ ms.items → OnOk r ((here : Option Span) → new ≡ old ++ class_met here a f xs) → OnOk r (new ≡ old ++ said Plain Unnamed InDefault (view_expr e) (told_expr e))
class_there r e at a f ms xs old new is items k =
    on_ok_weaker {P = (here : Option Span) → new ≡ old ++ class_met here a f xs} {Q = new ≡ old ++ said Plain Unnamed InDefault (view_expr e) (told_expr e)} r
    (λ x. x at ∙ ap (λ z. old ++ z) (ap (class_met at a f) items ∙ (sym (class_alike at a f ms) ∙ sym (ap (λ u. said Plain Unnamed InDefault (view_expr u) (told_expr u)) is)))) k
