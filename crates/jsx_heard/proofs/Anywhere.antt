-- What is said of most of the code's nodes hangs neither on what is asked of their place nor on the node round them.
use Rattle.std.proofs.Common.{◌≡◌, List, [], ◌∷◌, ◌++◌, map, Bool, true, false, cond, true≢false, refl, sym, ap, ◌∙◌, Option, Some, None, Box, Global}
use Rattle.jsx_base.specs.Token.{TokenKind, Text as Code, IdentifierName, JsxName, Elision, JsxText, JsxString, TemplateHead}
use Rattle.jsx_base.specs.declared.place.Span.{Span}
use Rattle.jsx_tree.specs.Kinds.{Role, BinaryOp, Nullish, UnaryOp, Delete, ClassExpr, Binary, Unary, SubstitutedTemplate, Kind, expression, function, Tree, leaf, node, list, none, part}
use Rattle.jsx_tree.specs.ViewOperators.{binary_of, unary_of, update_of}
use Rattle.jsx_tree.specs.declared.operator.UpdateOp as code_update
use Rattle.jsx_tree.specs.declared.operator.UpdateOp.TheVariants as update
use Rattle.jsx_tree.specs.declared.operator.UpdateSide.{UpdateSide}
use Rattle.jsx_tree.specs.declared.operator.UpdateSide.TheVariants as side
use Rattle.jsx_tree.specs.declared.text.Text.{Text}
use Rattle.jsx_tree.specs.declared.text.Ident.{Ident}
use Rattle.jsx_tree.specs.declared.text.LiteralKind.{LiteralKind}
use Rattle.jsx_tree.specs.declared.text.LiteralKind.TheVariants as literal_kind
use Rattle.jsx_tree.specs.declared.text.Word.{Word}
use Rattle.jsx_tree.specs.declared.text.Word.TheVariants as words
use Rattle.jsx_tree.specs.declared.tree.Expr.{Expr}
use Rattle.jsx_tree.specs.declared.tree.Operation.{Operation}
use Rattle.jsx_tree.specs.declared.tree.Access.{Access}
use Rattle.jsx_tree.specs.declared.tree.Link.{Link}
use Rattle.jsx_tree.specs.declared.tree.Prop.{Prop}
use Rattle.jsx_tree.specs.declared.tree.Key.{Key}
use Rattle.jsx_tree.specs.declared.tree.Pat.{Pat}
use Rattle.jsx_tree.specs.declared.tree.Stmt.{Stmt}
use Rattle.jsx_tree.specs.declared.tree.Control.{Control}
use Rattle.jsx_tree.specs.declared.tree.Jsx.{Jsx}
use Rattle.jsx_tree.specs.declared.tree.Expr.TheVariants as expr
use Rattle.jsx_tree.specs.declared.tree.Access.TheOpen.{Access-F, Control-F, Expr-F, Jsx-F, Operation-F}
use Rattle.jsx_tree.specs.declared.tree.Access.TheFolds.{fold_out-Access, fold_out-Control, fold_out-Jsx, fold_out-Operation}
use Rattle.jsx_tree.specs.declared.tree.Access.TheViews.{roll-Expr, out-Expr, roll-out-Expr}
use Rattle.jsx_tree.specs.Form.{Position, positions}
use Rattle.jsx_tree.specs.Spans.{Told, tells, Claim, Tales}
use Rattle.jsx_tree.specs.View.{clause, container, template, middles, closing, kind_of_literal, members_of_class, name_of, optional_of, view_member, text_of, view_word, inside, Owner, access_step, control_step, expr_step, jsx_step, key_step, link_step, operation_step, pat_step, prop_step, stmt_step, view_access, view_control, view_expr, view_jsx, view_operation}
use Rattle.jsx_tree.proofs.Views.{ap_2, view-Expr-Ident, view-Expr-Literal, view-Expr-Word, view-Expr-Operation, view-Expr-Access, view-Expr-Array, view-Expr-Object, view-Expr-Template, view-Expr-Function, view-Expr-Class, view-Expr-Jsx, view-Expr-Paren}
use Rattle.jsx_names.specs.Events.{Refers, Mode, Plain, Binding}
use Rattle.jsx_heard.specs.Said.{Naming, Idents, Tags, Roots, Unnamed, Round, Elsewhere, InCatch, InDefault, is_told, is_default, leaf_said, its, each_met, head_tale, tail_tales, node_said, Met, said, said_parts, of_value, of_statement}

-- ---- leaves

abbrev is_word : TokenKind → Bool
is_word IdentifierName = true
is_word JsxName = true
is_word s = false

quiet_there : (n : Naming) (s : TokenKind) (t : Code) → is_word s ≡ false → is_told n s t ≡ false
quiet_there Idents IdentifierName t e = absurd (true≢false e)
quiet_there Idents s t e = refl
quiet_there Tags JsxName t e = absurd (true≢false e)
quiet_there Tags s t e = refl
quiet_there Roots JsxName t e = absurd (true≢false e)
quiet_there Roots s t e = refl
quiet_there Unnamed s t e = refl

quiet : (m : Mode) (n : Naming) (s : TokenKind) (t : Code) → is_word s ≡ false → leaf_said m n s t ≡ []
quiet (Binding w r) n IdentifierName t e = absurd (true≢false e)
quiet m n s t e = ap (λ b. cond b (Refers t [] ∷ []) []) (quiet_there n s t e)

pub leaf_anywhere : (m : Mode) (n : Naming) (r : Round) (s : TokenKind) (t : Code) (d : Told) → is_word s ≡ false → said m n r (leaf s t) d ≡ of_value (leaf s t) d
leaf_anywhere m n r s t d e = ap (each_met (its d)) (quiet m n s t e ∙ sym (quiet Plain Idents s t e))

-- ---- operations, accesses, elements and clauses

pub by_view : (m : Mode) (n : Naming) (r : Round) (t u : Tree) (d : Told) → t ≡ u → said m n r u d ≡ of_value u d → said m n r t d ≡ of_value t d
by_view m n r t u d e k = ap (λ x. said m n r x d) e ∙ (k ∙ sym (ap (λ x. of_value x d) e))

binary_anywhere : (m : Mode) (n : Naming) (r : Round) (o : BinaryOp) (a b : Tree) (cs : List Claim) (ds : Tales) → said m n r (node (expression (Binary o)) (part a (part b none))) (tells cs ds) ≡ of_value (node (expression (Binary o)) (part a (part b none))) (tells cs ds)
binary_anywhere m n r Nullish a b cs ds = refl
binary_anywhere m n r _ a b cs ds = refl

unary_anywhere : (m : Mode) (n : Naming) (r : Round) (o : UnaryOp) (a : Tree) (cs : List Claim) (ds : Tales) → said m n r (node (expression (Unary o)) (part a none)) (tells cs ds) ≡ of_value (node (expression (Unary o)) (part a none)) (tells cs ds)
unary_anywhere m n r Delete a cs ds = refl
unary_anywhere m n r _ a cs ds = refl

update_anywhere : (m : Mode) (n : Naming) (r : Round) (o : code_update.UpdateOp) (s : UpdateSide) (a : Tree) (cs : List Claim) (ds : Tales) → said m n r (node (expression (update_of o s)) (part a none)) (tells cs ds) ≡ of_value (node (expression (update_of o s)) (part a none)) (tells cs ds)
update_anywhere m n r update.Increment side.Before a cs ds = refl
update_anywhere m n r update.Increment side.After a cs ds = refl
update_anywhere m n r update.Decrement side.Before a cs ds = refl
update_anywhere m n r update.Decrement side.After a cs ds = refl

container_anywhere : (m : Mode) (n : Naming) (r : Round) (e : Option (Box Tree Global)) (cs : List Claim) (ds : Tales) → said m n r (container e) (tells cs ds) ≡ of_value (container e) (tells cs ds)
container_anywhere m n r None cs ds = refl
container_anywhere m n r (Some e) cs ds = refl

clause_anywhere : (m : Mode) (r : Round) (e : Option (Box Tree Global)) (ss : Tree) (cs : List Claim) (ds : Tales) → said m Unnamed r (clause e ss) (tells cs ds) ≡ of_statement Plain (clause e ss) (tells cs ds)
clause_anywhere m r None ss cs ds = refl
clause_anywhere m r (Some e) ss cs ds = refl

-- the last parts of a template
abbrev spliced : Kind
spliced = expression (SubstitutedTemplate false)

abbrev behind_two : List Position → List Position
behind_two (a ∷ b ∷ ss) = ss
behind_two ss = []

closing_anywhere : (b : Bool) (m : Mode) (ps : List Text) (ts : List Tree) (ds : Tales) → said_parts b m spliced (behind_two (positions spliced)) (closing ps ts) ds ≡ said_parts b Plain spliced (behind_two (positions spliced)) (closing ps ts) ds
closing_anywhere true m [] ts ds = refl
closing_anywhere false m [] ts ds = refl
closing_anywhere true m (p ∷ []) [] ds = refl
closing_anywhere false m (p ∷ []) [] ds = refl
closing_anywhere true m (p ∷ []) (t ∷ []) ds = refl
closing_anywhere false m (p ∷ []) (t ∷ []) ds = refl
closing_anywhere true m (p ∷ []) (t ∷ u ∷ ts) ds = refl
closing_anywhere false m (p ∷ []) (t ∷ u ∷ ts) ds = refl
closing_anywhere true m (p ∷ q ∷ ps) [] ds = refl
closing_anywhere false m (p ∷ q ∷ ps) [] ds = refl
closing_anywhere b m (p ∷ q ∷ ps) (t ∷ ts) ds = closing_anywhere b m (q ∷ ps) ts ds

pub template_anywhere : (m : Mode) (n : Naming) (r : Round) (ps : List Text) (ts : List Tree) (cs : List Claim) (ds : Tales) → said m n r (template false ps ts) (tells cs ds) ≡ of_value (template false ps ts) (tells cs ds)
template_anywhere m n r [] ts cs ds = refl
template_anywhere m n r (p ∷ []) [] cs ds = refl
template_anywhere m n r (p ∷ []) (t ∷ ts) cs ds = refl
template_anywhere m n r (p ∷ q ∷ ps) ts cs ds =
    let inner = list (middles false (q ∷ ps) ts) in
    let us = part (leaf TemplateHead (text_of p)) (part inner (closing (q ∷ ps) ts)) in
    ap_2 (λ (x y : List Met). node_said spliced us cs ds ++ (x ++ y))
    (closing_anywhere false m (q ∷ ps) ts (tail_tales (tail_tales ds)))
    (ap (λ z. said Plain Unnamed Elsewhere inner (head_tale (tail_tales ds)) ++ z) (closing_anywhere true m (q ∷ ps) ts (tail_tales (tail_tales ds))))

operation_step_anywhere : (m : Mode) (n : Naming) (r : Round) (x : Operation-F Tree Tree Tree Tree Tree Tree Tree (Role → Tree) (Owner → Tree) Tree) (d : Told) → said m n r (operation_step x) d ≡ of_value (operation_step x) d
operation_step_anywhere m n r (Operation-F.Binary at o a b) (tells cs ds) = binary_anywhere m n r (binary_of o) a.value b.value cs ds
operation_step_anywhere m n r (Operation-F.Unary at o a) (tells cs ds) = unary_anywhere m n r (unary_of o) a.value cs ds
operation_step_anywhere m n r (Operation-F.Update at o s p) (tells cs ds) = update_anywhere m n r o s _ cs ds
operation_step_anywhere m n r Operation-F.«Operation::Hole» d = leaf_anywhere m n r Elision [] d refl
operation_step_anywhere m n r _ (tells cs ds) = refl

pub operation_anywhere : (m : Mode) (n : Naming) (r : Round) (x : Operation) (d : Told) → said m n r (view_operation x) d ≡ of_value (view_operation x) d
operation_anywhere m n r x d =
    let e = fold_out-Operation Tree Tree Tree Tree Tree Tree Tree (Role → Tree) (Owner → Tree) Tree access_step control_step expr_step jsx_step key_step link_step operation_step pat_step prop_step stmt_step x in
    ap (λ t. said m n r t d) e ∙ (operation_step_anywhere m n r _ d ∙ sym (ap (λ t. of_value t d) e))

access_step_anywhere : (m : Mode) (n : Naming) (r : Round) (x : Access-F Tree Tree Tree Tree Tree Tree Tree (Role → Tree) (Owner → Tree) Tree) (d : Told) → said m n r (access_step x) d ≡ of_value (access_step x) d
access_step_anywhere m n r (Access-F.«Access::Call» at f xs) (tells cs ds) = refl
access_step_anywhere m n r _ (tells cs ds) = refl

pub access_anywhere : (m : Mode) (n : Naming) (r : Round) (x : Access) (d : Told) → said m n r (view_access x) d ≡ of_value (view_access x) d
access_anywhere m n r x d =
    let e = fold_out-Access Tree Tree Tree Tree Tree Tree Tree (Role → Tree) (Owner → Tree) Tree access_step control_step expr_step jsx_step key_step link_step operation_step pat_step prop_step stmt_step x in
    ap (λ t. said m n r t d) e ∙ (access_step_anywhere m n r _ d ∙ sym (ap (λ t. of_value t d) e))

jsx_step_anywhere : (m : Mode) (n : Naming) (r : Round) (x : Jsx-F Tree Tree Tree Tree Tree Tree Tree (Role → Tree) (Owner → Tree) Tree) (d : Told) → said m n r (jsx_step x) d ≡ of_value (jsx_step x) d
jsx_step_anywhere m n r (Jsx-F.Text at a) d = leaf_anywhere m n r JsxText (text_of a) d refl
jsx_step_anywhere m n r (Jsx-F.Str at a) d = leaf_anywhere m n r JsxString (text_of a) d refl
jsx_step_anywhere m n r (Jsx-F.Container at e) (tells cs ds) = container_anywhere m n r e cs ds
jsx_step_anywhere m n r _ (tells cs ds) = refl

pub jsx_anywhere : (m : Mode) (n : Naming) (r : Round) (x : Jsx) (d : Told) → said m n r (view_jsx x) d ≡ of_value (view_jsx x) d
jsx_anywhere m n r x d =
    let e = fold_out-Jsx Tree Tree Tree Tree Tree Tree Tree (Role → Tree) (Owner → Tree) Tree access_step control_step expr_step jsx_step key_step link_step operation_step pat_step prop_step stmt_step x in
    ap (λ t. said m n r t d) e ∙ (jsx_step_anywhere m n r _ d ∙ sym (ap (λ t. of_value t d) e))

control_step_anywhere : (m : Mode) (r : Round) (x : Control-F Tree Tree Tree Tree Tree Tree Tree (Role → Tree) (Owner → Tree) Tree) (d : Told) → said m Unnamed r (control_step x) d ≡ of_statement Plain (control_step x) d
control_step_anywhere m r (Control-F.Case at e ss) (tells cs ds) = clause_anywhere m r e _ cs ds
control_step_anywhere m r _ (tells cs ds) = refl

pub control_anywhere : (m : Mode) (r : Round) (x : Control) (d : Told) → said m Unnamed r (view_control x) d ≡ of_statement Plain (view_control x) d
control_anywhere m r x d =
    let e = fold_out-Control Tree Tree Tree Tree Tree Tree Tree (Role → Tree) (Owner → Tree) Tree access_step control_step expr_step jsx_step key_step link_step operation_step pat_step prop_step stmt_step x in
    ap (λ t. said m Unnamed r t d) e ∙ (control_step_anywhere m r _ d ∙ sym (ap (λ t. of_statement Plain t d) e))

-- ---- expressions but names and words

pub literal_anywhere : (m : Mode) (n : Naming) (r : Round) (k : LiteralKind) (t : Code) (d : Told) → said m n r (leaf (kind_of_literal k) t) d ≡ of_value (leaf (kind_of_literal k) t) d
literal_anywhere m n r literal_kind.Num t d = leaf_anywhere m n r _ t d refl
literal_anywhere m n r literal_kind.BigInt t d = leaf_anywhere m n r _ t d refl
literal_anywhere m n r literal_kind.Str t d = leaf_anywhere m n r _ t d refl
literal_anywhere m n r literal_kind.RegExp t d = leaf_anywhere m n r _ t d refl

-- a class is no scope of its own behind `export default` alone
class_anywhere : (m : Mode) (n : Naming) (r : Round) (a b c : Tree) (cs : List Claim) (ds : Tales) → is_default r ≡ false →
    said m n r (node (function ClassExpr) (part a (part b (part c none)))) (tells cs ds) ≡ of_value (node (function ClassExpr) (part a (part b (part c none)))) (tells cs ds)
class_anywhere m n Elsewhere a b c cs ds h = refl
class_anywhere m n InCatch a b c cs ds h = refl
class_anywhere m n InDefault a b c cs ds h = absurd (true≢false h)

rolled_anywhere : (m : Mode) (n : Naming) (r : Round) (y : Expr-F Access Control Expr Jsx Key Link Operation Pat Prop Stmt) (d : Told) → is_default r ≡ false
    → ((at : Option Span) (a : Ident) → roll-Expr y ≡ expr.Ident at a → ⊥) → ((at : Option Span) (w : Word) → roll-Expr y ≡ expr.Word at w → ⊥)
    → said m n r (view_expr (roll-Expr y)) d ≡ of_value (view_expr (roll-Expr y)) d
rolled_anywhere m n r (Expr-F.«Expr::Ident» at a) d h i w = absurd (i at a (expr.rolls-Ident at a))
rolled_anywhere m n r (Expr-F.Word at v) d h i w = absurd (w at v (expr.rolls-Word at v))
rolled_anywhere m n r (Expr-F.«Expr::Literal» at k a) d h i w = by_view m n r _ _ d (ap view_expr (expr.rolls-Literal at k a) ∙ view-Expr-Literal at k a) (literal_anywhere m n r k (text_of a) d)
rolled_anywhere m n r (Expr-F.Operation a) d h i w = by_view m n r _ _ d (ap view_expr (expr.rolls-Operation a) ∙ view-Expr-Operation a) (operation_anywhere m n r a d)
rolled_anywhere m n r (Expr-F.Access a) d h i w = by_view m n r _ _ d (ap view_expr (expr.rolls-Access a) ∙ view-Expr-Access a) (access_anywhere m n r a d)
rolled_anywhere m n r (Expr-F.«Expr::Array» at xs) (tells cs ds) h i w = by_view m n r _ _ (tells cs ds) (ap view_expr (expr.rolls-Array at xs) ∙ view-Expr-Array at xs) refl
rolled_anywhere m n r (Expr-F.«Expr::Object» at xs) (tells cs ds) h i w = by_view m n r _ _ (tells cs ds) (ap view_expr (expr.rolls-Object at xs) ∙ view-Expr-Object at xs) refl
rolled_anywhere m n r (Expr-F.Template at ps xs) (tells cs ds) h i w = by_view m n r _ _ (tells cs ds) (ap view_expr (expr.rolls-Template at ps xs) ∙ view-Expr-Template at ps xs) (template_anywhere m n r ps.items (map (inside view_expr) xs.items) cs ds)
rolled_anywhere m n r (Expr-F.«Expr::Function» at a ps ds ss) (tells cs us) h i w = by_view m n r _ _ (tells cs us) (ap view_expr (expr.rolls-Function at a ps ds ss) ∙ view-Expr-Function at a ps ds ss) refl
rolled_anywhere m n r (Expr-F.«Expr::Class» at a e ms) (tells cs ds) h i w = by_view m n r _ _ (tells cs ds) (ap view_expr (expr.rolls-Class at a e ms) ∙ view-Expr-Class at a e ms) (class_anywhere m n r (optional_of name_of a) (optional_of view_expr e) (list (members_of_class (map (inside view_member) ms.items))) cs ds h)
rolled_anywhere m n r (Expr-F.Jsx a) d h i w = by_view m n r _ _ d (ap view_expr (expr.rolls-Jsx a) ∙ view-Expr-Jsx a) (jsx_anywhere m n r a.value d)
rolled_anywhere m n r (Expr-F.«Expr::Paren» at a) (tells cs ds) h i w = by_view m n r _ _ (tells cs ds) (ap view_expr (expr.rolls-Paren at a) ∙ view-Expr-Paren at a) refl

-- where an expression is neither a name nor a word
pub expr_anywhere : (m : Mode) (n : Naming) (r : Round) (e : Expr) (d : Told) → is_default r ≡ false
    → ((at : Option Span) (a : Ident) → e ≡ expr.Ident at a → ⊥) → ((at : Option Span) (w : Word) → e ≡ expr.Word at w → ⊥)
    → said m n r (view_expr e) d ≡ of_value (view_expr e) d
expr_anywhere m n r e d h i w =
    by_view m n r _ _ d (ap view_expr (sym (roll-out-Expr e)))
    (rolled_anywhere m n r (out-Expr e) d h (λ at a is. i at a (sym (roll-out-Expr e) ∙ is)) (λ at v is. w at v (sym (roll-out-Expr e) ∙ is)))

unnamed_word : (w : Word) (cs : List Claim) (ds : Tales) → said Plain Unnamed Elsewhere (view_word w) (tells cs ds) ≡ of_value (view_word w) (tells cs ds)
unnamed_word words.This cs ds = refl
unnamed_word words.Null cs ds = refl
unnamed_word words.True cs ds = refl
unnamed_word words.False cs ds = refl
unnamed_word words.ImportMeta cs ds = refl
unnamed_word words.NewTarget cs ds = refl

rolled_unnamed : (y : Expr-F Access Control Expr Jsx Key Link Operation Pat Prop Stmt) (d : Told) → ((at : Option Span) (a : Ident) → roll-Expr y ≡ expr.Ident at a → ⊥) → said Plain Unnamed Elsewhere (view_expr (roll-Expr y)) d ≡ of_value (view_expr (roll-Expr y)) d
rolled_unnamed (Expr-F.«Expr::Ident» at a) d i = absurd (i at a (expr.rolls-Ident at a))
rolled_unnamed (Expr-F.Word at w) (tells cs ds) i = by_view Plain Unnamed Elsewhere _ _ (tells cs ds) (ap view_expr (expr.rolls-Word at w) ∙ view-Expr-Word at w) (unnamed_word w cs ds)
rolled_unnamed (Expr-F.«Expr::Literal» at k a) d i = by_view Plain Unnamed Elsewhere _ _ d (ap view_expr (expr.rolls-Literal at k a) ∙ view-Expr-Literal at k a) (literal_anywhere Plain Unnamed Elsewhere k (text_of a) d)
rolled_unnamed (Expr-F.Operation a) d i = by_view Plain Unnamed Elsewhere _ _ d (ap view_expr (expr.rolls-Operation a) ∙ view-Expr-Operation a) (operation_anywhere Plain Unnamed Elsewhere a d)
rolled_unnamed (Expr-F.Access a) d i = by_view Plain Unnamed Elsewhere _ _ d (ap view_expr (expr.rolls-Access a) ∙ view-Expr-Access a) (access_anywhere Plain Unnamed Elsewhere a d)
rolled_unnamed (Expr-F.«Expr::Array» at xs) (tells cs ds) i = by_view Plain Unnamed Elsewhere _ _ (tells cs ds) (ap view_expr (expr.rolls-Array at xs) ∙ view-Expr-Array at xs) refl
rolled_unnamed (Expr-F.«Expr::Object» at xs) (tells cs ds) i = by_view Plain Unnamed Elsewhere _ _ (tells cs ds) (ap view_expr (expr.rolls-Object at xs) ∙ view-Expr-Object at xs) refl
rolled_unnamed (Expr-F.Template at ps xs) (tells cs ds) i = by_view Plain Unnamed Elsewhere _ _ (tells cs ds) (ap view_expr (expr.rolls-Template at ps xs) ∙ view-Expr-Template at ps xs) (template_anywhere Plain Unnamed Elsewhere ps.items (map (inside view_expr) xs.items) cs ds)
rolled_unnamed (Expr-F.«Expr::Function» at a ps ds ss) (tells cs us) i = by_view Plain Unnamed Elsewhere _ _ (tells cs us) (ap view_expr (expr.rolls-Function at a ps ds ss) ∙ view-Expr-Function at a ps ds ss) refl
rolled_unnamed (Expr-F.«Expr::Class» at a e ms) (tells cs ds) i = by_view Plain Unnamed Elsewhere _ _ (tells cs ds) (ap view_expr (expr.rolls-Class at a e ms) ∙ view-Expr-Class at a e ms) refl
rolled_unnamed (Expr-F.Jsx a) d i = by_view Plain Unnamed Elsewhere _ _ d (ap view_expr (expr.rolls-Jsx a) ∙ view-Expr-Jsx a) (jsx_anywhere Plain Unnamed Elsewhere a.value d)
rolled_unnamed (Expr-F.«Expr::Paren» at a) (tells cs ds) i = by_view Plain Unnamed Elsewhere _ _ (tells cs ds) (ap view_expr (expr.rolls-Paren at a) ∙ view-Expr-Paren at a) refl

-- a word is none where names aren't told either
pub expr_unnamed : (e : Expr) (d : Told) → ((at : Option Span) (a : Ident) → e ≡ expr.Ident at a → ⊥) → said Plain Unnamed Elsewhere (view_expr e) d ≡ of_value (view_expr e) d
expr_unnamed e d i =
    by_view Plain Unnamed Elsewhere _ _ d (ap view_expr (sym (roll-out-Expr e))) (rolled_unnamed (out-Expr e) d (λ at a is. i at a (sym (roll-out-Expr e) ∙ is)))

-- ---- what stands below a catch clause

pub by_caught : (m : Mode) (n : Naming) (t u : Tree) (d : Told) → t ≡ u → said m n InCatch u d ≡ said m n Elsewhere u d → said m n InCatch t d ≡ said m n Elsewhere t d
by_caught m n t u d e k = ap (λ x. said m n InCatch x d) e ∙ (k ∙ sym (ap (λ x. said m n Elsewhere x d) e))

caught_word : (m : Mode) (n : Naming) (w : Word) (cs : List Claim) (ds : Tales) → said m n InCatch (view_word w) (tells cs ds) ≡ said m n Elsewhere (view_word w) (tells cs ds)
caught_word m n words.This cs ds = refl
caught_word m n words.Null cs ds = refl
caught_word m n words.True cs ds = refl
caught_word m n words.False cs ds = refl
caught_word m n words.ImportMeta cs ds = refl
caught_word m n words.NewTarget cs ds = refl

rolled_caught : (m : Mode) (n : Naming) (y : Expr-F Access Control Expr Jsx Key Link Operation Pat Prop Stmt) (d : Told) → said m n InCatch (view_expr (roll-Expr y)) d ≡ said m n Elsewhere (view_expr (roll-Expr y)) d
rolled_caught m n (Expr-F.«Expr::Ident» at a) d = by_caught m n _ _ d (ap view_expr (expr.rolls-Ident at a) ∙ view-Expr-Ident at a) refl
rolled_caught m n (Expr-F.Word at w) (tells cs ds) = by_caught m n _ _ (tells cs ds) (ap view_expr (expr.rolls-Word at w) ∙ view-Expr-Word at w) (caught_word m n w cs ds)
rolled_caught m n (Expr-F.«Expr::Literal» at k a) d = by_caught m n _ _ d (ap view_expr (expr.rolls-Literal at k a) ∙ view-Expr-Literal at k a) refl
rolled_caught m n (Expr-F.Operation a) d = by_caught m n _ _ d (ap view_expr (expr.rolls-Operation a) ∙ view-Expr-Operation a) (operation_anywhere m n InCatch a d ∙ sym (operation_anywhere m n Elsewhere a d))
rolled_caught m n (Expr-F.Access a) d = by_caught m n _ _ d (ap view_expr (expr.rolls-Access a) ∙ view-Expr-Access a) (access_anywhere m n InCatch a d ∙ sym (access_anywhere m n Elsewhere a d))
rolled_caught m n (Expr-F.«Expr::Array» at xs) (tells cs ds) = by_caught m n _ _ (tells cs ds) (ap view_expr (expr.rolls-Array at xs) ∙ view-Expr-Array at xs) refl
rolled_caught m n (Expr-F.«Expr::Object» at xs) (tells cs ds) = by_caught m n _ _ (tells cs ds) (ap view_expr (expr.rolls-Object at xs) ∙ view-Expr-Object at xs) refl
rolled_caught m n (Expr-F.Template at ps xs) (tells cs ds) = by_caught m n _ _ (tells cs ds) (ap view_expr (expr.rolls-Template at ps xs) ∙ view-Expr-Template at ps xs) (template_anywhere m n InCatch ps.items (map (inside view_expr) xs.items) cs ds ∙ sym (template_anywhere m n Elsewhere ps.items (map (inside view_expr) xs.items) cs ds))
rolled_caught m n (Expr-F.«Expr::Function» at a ps ds ss) (tells cs us) = by_caught m n _ _ (tells cs us) (ap view_expr (expr.rolls-Function at a ps ds ss) ∙ view-Expr-Function at a ps ds ss) refl
rolled_caught m n (Expr-F.«Expr::Class» at a e ms) (tells cs ds) = by_caught m n _ _ (tells cs ds) (ap view_expr (expr.rolls-Class at a e ms) ∙ view-Expr-Class at a e ms) refl
rolled_caught m n (Expr-F.Jsx a) d = by_caught m n _ _ d (ap view_expr (expr.rolls-Jsx a) ∙ view-Expr-Jsx a) (jsx_anywhere m n InCatch a.value d ∙ sym (jsx_anywhere m n Elsewhere a.value d))
rolled_caught m n (Expr-F.«Expr::Paren» at a) (tells cs ds) = by_caught m n _ _ (tells cs ds) (ap view_expr (expr.rolls-Paren at a) ∙ view-Expr-Paren at a) refl

pub expr_caught : (m : Mode) (n : Naming) (e : Expr) (d : Told) → said m n InCatch (view_expr e) d ≡ said m n Elsewhere (view_expr e) d
expr_caught m n e d = by_caught m n _ _ d (ap view_expr (sym (roll-out-Expr e))) (rolled_caught m n (out-Expr e) d)
