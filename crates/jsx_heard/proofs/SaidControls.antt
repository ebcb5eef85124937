-- What is said of a statement that holds others, and of its clauses: one equation for each variant that an answer cites.
use Rattle.std.proofs.Common.{◌≡◌, List, [], ◌∷◌, ◌++◌, map, sym, ap, ◌∙◌, append_assoc, append-nil, Option, Box, Vec, Global}
use Rattle.jsx_base.specs.declared.place.Span.{Span}
use Rattle.jsx_tree.specs.declared.tree.Expr.{Expr}
use Rattle.jsx_tree.specs.declared.tree.Pat.{Pat}
use Rattle.jsx_tree.specs.declared.tree.Stmt.{Stmt}
use Rattle.jsx_tree.specs.declared.tree.Control.{Control}
use Rattle.jsx_tree.specs.declared.tree.Control.TheVariants as control
use Rattle.jsx_tree.specs.Scopes.{AsLexical}
use Rattle.jsx_tree.specs.Kinds.{Assigns, Binds}
use Rattle.jsx_tree.specs.Told.{tales, told_control, told_list, told_optional, told_pat, told_stmt}
use Rattle.jsx_tree.specs.View.{inside, forest, optional_at_of, view_control, view_pattern, view_stmt}
use Rattle.jsx_tree.specs.Kinds.{list}
use Rattle.jsx_tree.proofs.Views.{ap_2, view-Control-For, view-Control-ForIn, view-Control-ForOf, view-Control-Switch, view-Control-Case, view-Control-Catch}
use Rattle.jsx_tree.proofs.Telling.{told-Control-For, told-Control-ForIn, told-Control-ForOf, told-Control-Switch, told-Control-Case, told-Control-Catch}
use Rattle.jsx_names.specs.Events.{Plain, Binding, InHead, OfBlock, OfCatch}
use Rattle.jsx_heard.specs.Said.{Met, Idents, Unnamed, Round, Elsewhere, InCatch, opens, enters, closes, said, said_each, of_value, of_statement}
use Rattle.jsx_heard.proofs.Saying.{test_said}
use Rattle.jsx_heard.proofs.SaidMembers.{optional_met}
use Rattle.jsx_heard.proofs.SaidPatterns.{optional_caught}
use Rattle.jsx_heard.proofs.SaidStatements.{block_met, caught_met, last_three, statement_met}
use Rattle.jsx_heard.proofs.SaidValues.{value, target, statements}

abbrev pub control_met : Control → List Met
control_met c = of_statement Plain (view_control c) (told_control c)

abbrev pub controls_met : List (Box Control Global) → List Met
controls_met cs = said_each Plain Unnamed Elsewhere (forest (map (inside view_control) cs)) (tales (map (inside told_control) cs))

abbrev pub init_met : Option (Box Pat Global) → List Met
init_met p = of_value (optional_at_of Assigns view_pattern p) (told_optional told_pat p)

-- what a catch clause declares
abbrev pub caught_names : Round → Option (Box Pat Global) → List Met
caught_names r p = said (Binding InHead AsLexical) Idents r (optional_at_of Binds view_pattern p) (told_optional told_pat p)

-- a loop, and the clause that catches
abbrev pub loop_met : Option (Box Pat Global) → Option (Box Expr Global) → Option (Box Expr Global) → Stmt → List Met
loop_met i e u s = opens OfBlock ∷ (init_met i ++ (optional_met e ++ (optional_met u ++ (statement_met Plain s ++ closes ∷ []))))

abbrev pub each_met : Pat → Expr → Stmt → List Met
each_met h e s = opens OfBlock ∷ (target h ++ (value e ++ (statement_met Plain s ++ closes ∷ [])))

abbrev pub clause_met : Option (Box Pat Global) → Stmt → List Met
clause_met p s = opens OfCatch ∷ (caught_names Elsewhere p ++ enters ∷ (caught_met s ++ closes ∷ []))

pub each_same : {g h : Pat} {d e : Expr} {s u : Stmt} → g ≡ h → d ≡ e → s ≡ u → each_met h e u ≡ each_met g d s
each_same x y z = ap_2 (λ a b. opens OfBlock ∷ (target a ++ b)) (sym x) (ap_2 (λ a b. value a ++ (statement_met Plain b ++ closes ∷ [])) (sym y) (sym z))

-- ---- nothing behind the last part, but the end of a scope

three_closed : (xs ys zs us : List Met) → (xs ++ (ys ++ (zs ++ []))) ++ us ≡ xs ++ (ys ++ (zs ++ us))
three_closed xs ys zs us = ap (λ w. w ++ us) (last_three xs ys zs) ∙ (append_assoc xs (ys ++ zs) us ∙ ap (λ w. xs ++ w) (append_assoc ys zs us))

four_closed : (xs ys zs vs us : List Met) → (xs ++ (ys ++ (zs ++ (vs ++ [])))) ++ us ≡ xs ++ (ys ++ (zs ++ (vs ++ us)))
four_closed xs ys zs vs us = append_assoc xs (ys ++ (zs ++ (vs ++ []))) us ∙ ap (λ w. xs ++ w) (three_closed ys zs vs us)

head_closed : (xs ys us : List Met) → (xs ++ (enters ∷ (ys ++ []))) ++ us ≡ xs ++ enters ∷ (ys ++ us)
head_closed xs ys us = append_assoc xs (enters ∷ (ys ++ [])) us ∙ ap (λ w. xs ++ enters ∷ (w ++ us)) (append-nil ys)

pub said-Control-For : (at : Option Span) (i : Option (Box Pat Global)) (e : Option (Box Expr Global)) (u : Option (Box Expr Global)) (s : Box Stmt Global) → control_met (control.For at i e u s) ≡ loop_met i e u s.value
said-Control-For at i e u s = ap_2 (of_statement Plain) (view-Control-For at i e u s) (told-Control-For at i e u s) ∙ ap (λ z. opens OfBlock ∷ z) (four_closed (init_met i) (optional_met e) (optional_met u) (statement_met Plain s.value) (closes ∷ []))

pub said-Control-ForIn : (at : Option Span) (h : Box Pat Global) (e : Box Expr Global) (s : Box Stmt Global) → control_met (control.ForIn at h e s) ≡ each_met h.value e.value s.value
said-Control-ForIn at h e s = ap_2 (of_statement Plain) (view-Control-ForIn at h e s) (told-Control-ForIn at h e s) ∙ ap (λ z. opens OfBlock ∷ z) (three_closed (target h.value) (value e.value) (statement_met Plain s.value) (closes ∷ []))

pub said-Control-ForOf : (at : Option Span) (h : Box Pat Global) (e : Box Expr Global) (s : Box Stmt Global) → control_met (control.ForOf at h e s) ≡ each_met h.value e.value s.value
said-Control-ForOf at h e s = ap_2 (of_statement Plain) (view-Control-ForOf at h e s) (told-Control-ForOf at h e s) ∙ ap (λ z. opens OfBlock ∷ z) (three_closed (target h.value) (value e.value) (statement_met Plain s.value) (closes ∷ []))

pub said-Control-Switch : (at : Option Span) (e : Box Expr Global) (cs : Vec (Box Control Global) Global) → control_met (control.Switch at e cs) ≡ value e.value ++ block_met (controls_met cs.items)
said-Control-Switch at e cs = ap_2 (of_statement Plain) (view-Control-Switch at e cs) (told-Control-Switch at e cs) ∙ ap_2 (λ (x y : List Met). x ++ block_met y) (append-nil (value e.value)) (append-nil (controls_met cs.items))

pub said-Control-Case : (at : Option Span) (e : Option (Box Expr Global)) (ss : Vec (Box Stmt Global) Global) → control_met (control.Case at e ss) ≡ optional_met e ++ statements ss.items
said-Control-Case at e ss = ap_2 (of_statement Plain) (view-Control-Case at e ss) (told-Control-Case at e ss) ∙ test_said at e (list (forest (map (inside view_stmt) ss.items))) (told_list (map (inside told_stmt) ss.items))

pub said-Control-Catch : (at : Option Span) (p : Option (Box Pat Global)) (s : Box Stmt Global) → control_met (control.Catch at p s) ≡ clause_met p s.value
said-Control-Catch at p s = ap_2 (of_statement Plain) (view-Control-Catch at p s) (told-Control-Catch at p s) ∙
    ap (λ z. opens OfCatch ∷ z) (head_closed (caught_names InCatch p) (caught_met s.value) (closes ∷ []) ∙ ap (λ z. z ++ enters ∷ (caught_met s.value ++ closes ∷ [])) (optional_caught (Binding InHead AsLexical) Binds p))
