-- What is said of a statement: one equation for each variant that an answer cites.
use Rattle.std.proofs.Common.{◌≡◌, List, [], ◌∷◌, ◌++◌, map, refl, sym, ap, ◌∙◌, append-nil, Option, Box, Vec, Global}
use Rattle.jsx_base.specs.declared.place.Span.{Span}
use Rattle.jsx_tree.specs.declared.text.Text.{Text}
use Rattle.jsx_tree.specs.declared.text.Ident.{Ident}
use Rattle.jsx_tree.specs.declared.text.DeclareWord as declared
use Rattle.jsx_tree.specs.declared.tree.Expr.{Expr}
use Rattle.jsx_tree.specs.declared.tree.Prop.{Prop}
use Rattle.jsx_tree.specs.declared.tree.Pat.{Pat}
use Rattle.jsx_tree.specs.declared.tree.Stmt.{Stmt}
use Rattle.jsx_tree.specs.declared.tree.Control.{Control}
use Rattle.jsx_tree.specs.declared.tree.Stmt.TheVariants as stmt
use Rattle.jsx_tree.specs.declared.tree.Access.{Access}
use Rattle.jsx_tree.specs.declared.tree.Jsx.{Jsx}
use Rattle.jsx_tree.specs.declared.tree.Key.{Key}
use Rattle.jsx_tree.specs.declared.tree.Link.{Link}
use Rattle.jsx_tree.specs.declared.tree.Operation.{Operation}
use Rattle.jsx_tree.specs.declared.tree.Access.TheOpen.{Stmt-F}
use Rattle.jsx_tree.specs.declared.tree.Access.TheViews.{roll-Stmt, out-Stmt, roll-out-Stmt}
use Rattle.jsx_tree.specs.Spans.{Told, tells}
use Rattle.jsx_tree.specs.Scopes.{sort_of, AsFunction, AsLexical}
use Rattle.jsx_tree.specs.Told.{tales, told_body, told_control, told_ident, told_pat, told_stmt}
use Rattle.jsx_tree.specs.View.{inside, body, forest_at, name_of, word_of, view_control, view_pattern, view_stmt}
use Rattle.jsx_tree.specs.Kinds.{Binds}
use Rattle.jsx_tree.proofs.Views.{ap_2, view-Stmt-Block, view-Stmt-Var, view-Stmt-Empty, view-Stmt-Expr, view-Stmt-Control, view-Stmt-Continue, view-Stmt-Break, view-Stmt-Return, view-Stmt-Throw, view-Stmt-Debugger, view-Stmt-Function, view-Stmt-Class}
use Rattle.jsx_tree.proofs.Telling.{told-Stmt-Block, told-Stmt-Var, told-Stmt-Control, told-Stmt-Function, told-Stmt-Class}
use Rattle.jsx_names.specs.Events.{Mode, Plain, Binding, way, OfBlock, OfFunction}
use Rattle.jsx_heard.specs.Said.{Met, Idents, Unnamed, Elsewhere, InCatch, opens, enters, closes, said, said_each, of_statement}
use Rattle.jsx_heard.proofs.Anywhere.{by_caught, control_anywhere}
use Rattle.jsx_heard.proofs.SaidMembers.{members, optional_met}
use Rattle.jsx_heard.proofs.SaidValues.{parameters, statements, code_met, in_scope, last_two}

pub last_three : (xs ys zs : List Met) → xs ++ (ys ++ (zs ++ [])) ≡ xs ++ (ys ++ zs)
last_three xs ys zs = ap (λ w. xs ++ w) (last_two ys zs)

abbrev pub statement_met : Mode → Stmt → List Met
statement_met m s = of_statement m (view_stmt s) (told_stmt s)

-- of a block of a catch clause, and of other statements there
abbrev pub caught_met : Stmt → List Met
caught_met s = said Plain Unnamed InCatch (view_stmt s) (told_stmt s)

-- in a scope of its own
abbrev pub block_met : List Met → List Met
block_met xs = opens OfBlock ∷ (xs ++ closes ∷ [])

abbrev pub name_met : Mode → Ident → List Met
name_met m a = said m Idents Elsewhere (name_of a) (told_ident a)

abbrev pub patterns_met : Mode → List (Box Pat Global) → List Met
patterns_met m ps = said_each m Idents Elsewhere (forest_at Binds (map (inside view_pattern) ps)) (tales (map (inside told_pat) ps))

pub said-Stmt-Block : (m : Mode) (at : Option Span) (ss : Vec (Box Stmt Global) Global) → statement_met m (stmt.Block at ss) ≡ block_met (statements ss.items)
said-Stmt-Block m at ss = ap_2 (of_statement m) (view-Stmt-Block at ss) (told-Stmt-Block at ss) ∙ ap block_met (append-nil (statements ss.items))

pub said-Stmt-Var : (m : Mode) (at : Option Span) (w : declared.DeclareWord) (ps : Vec (Box Pat Global) Global) → statement_met m (stmt.Var at w ps) ≡ patterns_met (Binding (way m) (sort_of (word_of w))) ps.items
said-Stmt-Var m at w ps = ap_2 (of_statement m) (view-Stmt-Var at w ps) (told-Stmt-Var at w ps) ∙ append-nil (patterns_met (Binding (way m) (sort_of (word_of w))) ps.items)

pub said-Stmt-Control : (m : Mode) (a : Control) → statement_met m (stmt.Control a) ≡ of_statement Plain (view_control a) (told_control a)
said-Stmt-Control m a = ap_2 (of_statement m) (view-Stmt-Control a) (told-Stmt-Control a) ∙ control_anywhere m Elsewhere a (told_control a)

-- the name of a function stands outside of its scope
function_ends : (xs ys : List Met) (ds : List Text) (ss : List (Box Stmt Global)) →
    (xs ++ []) ++ opens OfFunction ∷ ((ys ++ (enters ∷ (said Plain Unnamed Elsewhere (body ds (map (inside view_stmt) ss)) (told_body ds (map (inside told_stmt) ss)) ++ []))) ++ closes ∷ []) ≡ xs ++ code_met ys (statements ss)
function_ends xs ys ds ss = ap_2 (λ (a b : List Met). a ++ b) (append-nil xs) (in_scope ys ds ss)

pub said-Stmt-Function : (m : Mode) (at : Option Span) (a : Ident) (ps : Vec (Box Pat Global) Global) (ds : Vec Text Global) (ss : Vec (Box Stmt Global) Global) → statement_met m (stmt.Function at a ps ds ss) ≡ name_met (Binding (way m) AsFunction) a ++ code_met (parameters ps.items) (statements ss.items)
said-Stmt-Function m at a ps ds ss = ap_2 (of_statement m) (view-Stmt-Function at a ps ds ss) (told-Stmt-Function at a ps ds ss) ∙ function_ends (name_met (Binding (way m) AsFunction) a) (parameters ps.items) ds.items ss.items

pub said-Stmt-Class : (m : Mode) (at : Option Span) (a : Ident) (e : Option (Box Expr Global)) (ms : Vec (Box Prop Global) Global) → statement_met m (stmt.Class at a e ms) ≡ name_met (Binding (way m) AsLexical) a ++ (optional_met e ++ members ms.items)
said-Stmt-Class m at a e ms = ap_2 (of_statement m) (view-Stmt-Class at a e ms) (told-Stmt-Class at a e ms) ∙ last_three (name_met (Binding (way m) AsLexical) a) (optional_met e) (members ms.items)

-- ---- what calls add

pub nothing_said : (old all : List Met) → all ≡ [] → old ≡ old ++ all
nothing_said old all is = sym (append-nil old) ∙ ap (λ z. old ++ z) (sym is)

-- ---- below a catch clause, whose block is no scope of its own

pub caught-Stmt-Block : (at : Option Span) (ss : Vec (Box Stmt Global) Global) → caught_met (stmt.Block at ss) ≡ statements ss.items
caught-Stmt-Block at ss = ap_2 (said Plain Unnamed InCatch) (view-Stmt-Block at ss) (told-Stmt-Block at ss) ∙ append-nil (statements ss.items)

rolled_caught : (y : Stmt-F Access Control Expr Jsx Key Link Operation Pat Prop Stmt) (d : Told) → ((at : Option Span) (ss : Vec (Box Stmt Global) Global) → roll-Stmt y ≡ stmt.Block at ss → ⊥)
    → said Plain Unnamed InCatch (view_stmt (roll-Stmt y)) d ≡ of_statement Plain (view_stmt (roll-Stmt y)) d
rolled_caught (Stmt-F.Block at ss) d h = absurd (h at ss (stmt.rolls-Block at ss))
rolled_caught (Stmt-F.Var at w ps) (tells cs us) h = by_caught Plain Unnamed _ _ (tells cs us) (ap view_stmt (stmt.rolls-Var at w ps) ∙ view-Stmt-Var at w ps) refl
rolled_caught (Stmt-F.Empty at) (tells cs us) h = by_caught Plain Unnamed _ _ (tells cs us) (ap view_stmt (stmt.rolls-Empty at) ∙ view-Stmt-Empty at) refl
rolled_caught (Stmt-F.Expr at e) (tells cs us) h = by_caught Plain Unnamed _ _ (tells cs us) (ap view_stmt (stmt.rolls-Expr at e) ∙ view-Stmt-Expr at e) refl
rolled_caught (Stmt-F.Control a) d h = by_caught Plain Unnamed _ _ d (ap view_stmt (stmt.rolls-Control a) ∙ view-Stmt-Control a) (control_anywhere Plain InCatch a d)
rolled_caught (Stmt-F.Continue at a) (tells cs us) h = by_caught Plain Unnamed _ _ (tells cs us) (ap view_stmt (stmt.rolls-Continue at a) ∙ view-Stmt-Continue at a) refl
rolled_caught (Stmt-F.Break at a) (tells cs us) h = by_caught Plain Unnamed _ _ (tells cs us) (ap view_stmt (stmt.rolls-Break at a) ∙ view-Stmt-Break at a) refl
rolled_caught (Stmt-F.Return at e) (tells cs us) h = by_caught Plain Unnamed _ _ (tells cs us) (ap view_stmt (stmt.rolls-Return at e) ∙ view-Stmt-Return at e) refl
rolled_caught (Stmt-F.Throw at e) (tells cs us) h = by_caught Plain Unnamed _ _ (tells cs us) (ap view_stmt (stmt.rolls-Throw at e) ∙ view-Stmt-Throw at e) refl
rolled_caught (Stmt-F.Debugger at) (tells cs us) h = by_caught Plain Unnamed _ _ (tells cs us) (ap view_stmt (stmt.rolls-Debugger at) ∙ view-Stmt-Debugger at) refl
rolled_caught (Stmt-F.«Stmt::Function» at a ps ds ss) (tells cs us) h = by_caught Plain Unnamed _ _ (tells cs us) (ap view_stmt (stmt.rolls-Function at a ps ds ss) ∙ view-Stmt-Function at a ps ds ss) refl
rolled_caught (Stmt-F.«Stmt::Class» at a e ms) (tells cs us) h = by_caught Plain Unnamed _ _ (tells cs us) (ap view_stmt (stmt.rolls-Class at a e ms) ∙ view-Stmt-Class at a e ms) refl

pub caught_other : (s : Stmt) (d : Told) → ((at : Option Span) (ss : Vec (Box Stmt Global) Global) → s ≡ stmt.Block at ss → ⊥) → said Plain Unnamed InCatch (view_stmt s) d ≡ of_statement Plain (view_stmt s) d
caught_other s d h = by_caught Plain Unnamed _ _ d (ap view_stmt (sym (roll-out-Stmt s))) (rolled_caught (out-Stmt s) d (λ at ss is. h at ss (sym (roll-out-Stmt s) ∙ is)))
