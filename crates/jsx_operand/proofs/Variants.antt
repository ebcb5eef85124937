-- Which variants of the code's tree are an array, an object, a spread, an assignment, a hole or a name.
use Rattle.std.proofs.Common.{◌≡◌, List, [], ◌∷◌, Bool, true, false, Some, None, refl, ap, sym, ◌∙◌}
use Rattle.jsx_tree.specs.Kinds.{Role, expression, Tree, leaf, node, list, Forest}
use Rattle.jsx_base.specs.Token as token
use Rattle.jsx_tree.specs.declared.text.LiteralKind.{LiteralKind}
use Rattle.jsx_tree.specs.declared.text.LiteralKind.TheVariants as literal_kind
use Rattle.jsx_tree.specs.declared.text.Text.{Text}
use Rattle.jsx_tree.specs.declared.text.Word.{Word}
use Rattle.jsx_tree.specs.declared.text.Word.TheVariants as words
use Rattle.jsx_tree.specs.declared.operator.UpdateOp.{UpdateOp}
use Rattle.jsx_tree.specs.declared.operator.UpdateSide.{UpdateSide}
use Rattle.jsx_tree.specs.declared.operator.UpdateSide.TheVariants as side
use Rattle.jsx_tree.specs.declared.tree.Access.{Access}
use Rattle.jsx_tree.specs.declared.tree.Operation.{Operation}
use Rattle.jsx_tree.specs.declared.tree.Jsx.{Jsx}
use Rattle.jsx_tree.specs.declared.tree.Access.TheOpen.{Access-F, Jsx-F, Operation-F}
use Rattle.jsx_tree.specs.declared.tree.Access.TheFolds.{fold_out-Access, fold_out-Jsx, fold_out-Operation}
use Rattle.jsx_tree.specs.View.{kind_of_literal, template, view_word, Owner, access_step, control_step, expr_step, jsx_step, key_step, link_step, operation_step, pat_step, prop_step, stmt_step, view_access, view_jsx, view_operation}
use Rattle.jsx_tree.specs.ViewOperators.{update_of}
use Rattle.jsx_tree.proofs.Views.{views}
use Rattle.jsx_tree.proofs.Telling.{telling}
use Rattle.jsx_make.proofs.Making.{members_forest}
use Rattle.jsx_make.proofs.NodeSpans.{node_spans}
use Rattle.jsx_operand.specs.Taken.{is_word}
use Rattle.jsx_operand.specs.Turning.{Suits, suits_name, suits_hole, binding, is_array, is_assign, is_bound_name, is_elision, is_literal, is_object, is_spread}

-- ---- arrays

pub array_template : (b : Bool) (ps : List Text) (ts : List Tree) → is_array (template b ps ts) ≡ false
array_template b [] ts = refl
array_template b (p ∷ []) [] = refl
array_template b (p ∷ []) (t ∷ ts) = refl
array_template b (p ∷ q ∷ ps) [] = refl
array_template b (p ∷ q ∷ ps) (t ∷ ts) = refl

pub array_word : (w : Word) → is_array (view_word w) ≡ false
array_word words.This = refl
array_word words.Null = refl
array_word words.True = refl
array_word words.False = refl
array_word words.ImportMeta = refl
array_word words.NewTarget = refl

array_access_step : (x : Access-F Tree Tree Tree Tree Tree Tree Tree (Role → Tree) (Owner → Tree) Tree) → is_array (access_step x) ≡ false
array_access_step (Access-F.New at o as') = refl
array_access_step _ = refl

pub array_access : (a : Access) → is_array (view_access a) ≡ false
array_access a = ap is_array (fold_out-Access Tree Tree Tree Tree Tree Tree Tree (Role → Tree) (Owner → Tree) Tree access_step control_step expr_step jsx_step key_step link_step operation_step pat_step prop_step stmt_step a) ∙ array_access_step _

array_operation_step : (x : Operation-F Tree Tree Tree Tree Tree Tree Tree (Role → Tree) (Owner → Tree) Tree) → is_array (operation_step x) ≡ false
array_operation_step (Operation-F.Update at o side.Before a) = refl
array_operation_step (Operation-F.Update at o side.After a) = refl
array_operation_step _ = refl

pub array_operation : (a : Operation) → is_array (view_operation a) ≡ false
array_operation a = ap is_array (fold_out-Operation Tree Tree Tree Tree Tree Tree Tree (Role → Tree) (Owner → Tree) Tree access_step control_step expr_step jsx_step key_step link_step operation_step pat_step prop_step stmt_step a) ∙ array_operation_step _

array_jsx_step : (x : Jsx-F Tree Tree Tree Tree Tree Tree Tree (Role → Tree) (Owner → Tree) Tree) → is_array (jsx_step x) ≡ false
array_jsx_step (Jsx-F.Container at None) = refl
array_jsx_step (Jsx-F.Container at (Some e)) = refl
array_jsx_step _ = refl

pub array_jsx : (a : Jsx) → is_array (view_jsx a) ≡ false
array_jsx a = ap is_array (fold_out-Jsx Tree Tree Tree Tree Tree Tree Tree (Role → Tree) (Owner → Tree) Tree access_step control_step expr_step jsx_step key_step link_step operation_step pat_step prop_step stmt_step a) ∙ array_jsx_step _

pub ruleset unarray = (views, telling, node_spans, array_template, array_word, array_access, array_operation, array_jsx)

-- ---- objects

pub object_template : (b : Bool) (ps : List Text) (ts : List Tree) → is_object (template b ps ts) ≡ false
object_template b [] ts = refl
object_template b (p ∷ []) [] = refl
object_template b (p ∷ []) (t ∷ ts) = refl
object_template b (p ∷ q ∷ ps) [] = refl
object_template b (p ∷ q ∷ ps) (t ∷ ts) = refl

pub object_word : (w : Word) → is_object (view_word w) ≡ false
object_word words.This = refl
object_word words.Null = refl
object_word words.True = refl
object_word words.False = refl
object_word words.ImportMeta = refl
object_word words.NewTarget = refl

object_access_step : (x : Access-F Tree Tree Tree Tree Tree Tree Tree (Role → Tree) (Owner → Tree) Tree) → is_object (access_step x) ≡ false
object_access_step (Access-F.New at o as') = refl
object_access_step _ = refl

pub object_access : (a : Access) → is_object (view_access a) ≡ false
object_access a = ap is_object (fold_out-Access Tree Tree Tree Tree Tree Tree Tree (Role → Tree) (Owner → Tree) Tree access_step control_step expr_step jsx_step key_step link_step operation_step pat_step prop_step stmt_step a) ∙ object_access_step _

object_operation_step : (x : Operation-F Tree Tree Tree Tree Tree Tree Tree (Role → Tree) (Owner → Tree) Tree) → is_object (operation_step x) ≡ false
object_operation_step (Operation-F.Update at o side.Before a) = refl
object_operation_step (Operation-F.Update at o side.After a) = refl
object_operation_step _ = refl

pub object_operation : (a : Operation) → is_object (view_operation a) ≡ false
object_operation a = ap is_object (fold_out-Operation Tree Tree Tree Tree Tree Tree Tree (Role → Tree) (Owner → Tree) Tree access_step control_step expr_step jsx_step key_step link_step operation_step pat_step prop_step stmt_step a) ∙ object_operation_step _

object_jsx_step : (x : Jsx-F Tree Tree Tree Tree Tree Tree Tree (Role → Tree) (Owner → Tree) Tree) → is_object (jsx_step x) ≡ false
object_jsx_step (Jsx-F.Container at None) = refl
object_jsx_step (Jsx-F.Container at (Some e)) = refl
object_jsx_step _ = refl

pub object_jsx : (a : Jsx) → is_object (view_jsx a) ≡ false
object_jsx a = ap is_object (fold_out-Jsx Tree Tree Tree Tree Tree Tree Tree (Role → Tree) (Owner → Tree) Tree access_step control_step expr_step jsx_step key_step link_step operation_step pat_step prop_step stmt_step a) ∙ object_jsx_step _

pub ruleset unobject = (views, telling, node_spans, members_forest, object_template, object_word, object_access, object_operation, object_jsx)

-- ---- one of the two

pub either_template : (b : Bool) (ps : List Text) (ts : List Tree) → is_literal (template b ps ts) ≡ false
either_template b [] ts = refl
either_template b (p ∷ []) [] = refl
either_template b (p ∷ []) (t ∷ ts) = refl
either_template b (p ∷ q ∷ ps) [] = refl
either_template b (p ∷ q ∷ ps) (t ∷ ts) = refl

pub either_word : (w : Word) → is_literal (view_word w) ≡ false
either_word words.This = refl
either_word words.Null = refl
either_word words.True = refl
either_word words.False = refl
either_word words.ImportMeta = refl
either_word words.NewTarget = refl

either_access_step : (x : Access-F Tree Tree Tree Tree Tree Tree Tree (Role → Tree) (Owner → Tree) Tree) → is_literal (access_step x) ≡ false
either_access_step (Access-F.New at o as') = refl
either_access_step _ = refl

pub either_access : (a : Access) → is_literal (view_access a) ≡ false
either_access a = ap is_literal (fold_out-Access Tree Tree Tree Tree Tree Tree Tree (Role → Tree) (Owner → Tree) Tree access_step control_step expr_step jsx_step key_step link_step operation_step pat_step prop_step stmt_step a) ∙ either_access_step _

either_operation_step : (x : Operation-F Tree Tree Tree Tree Tree Tree Tree (Role → Tree) (Owner → Tree) Tree) → is_literal (operation_step x) ≡ false
either_operation_step (Operation-F.Update at o side.Before a) = refl
either_operation_step (Operation-F.Update at o side.After a) = refl
either_operation_step _ = refl

pub either_operation : (a : Operation) → is_literal (view_operation a) ≡ false
either_operation a = ap is_literal (fold_out-Operation Tree Tree Tree Tree Tree Tree Tree (Role → Tree) (Owner → Tree) Tree access_step control_step expr_step jsx_step key_step link_step operation_step pat_step prop_step stmt_step a) ∙ either_operation_step _

either_jsx_step : (x : Jsx-F Tree Tree Tree Tree Tree Tree Tree (Role → Tree) (Owner → Tree) Tree) → is_literal (jsx_step x) ≡ false
either_jsx_step (Jsx-F.Container at None) = refl
either_jsx_step (Jsx-F.Container at (Some e)) = refl
either_jsx_step _ = refl

pub either_jsx : (a : Jsx) → is_literal (view_jsx a) ≡ false
either_jsx a = ap is_literal (fold_out-Jsx Tree Tree Tree Tree Tree Tree Tree (Role → Tree) (Owner → Tree) Tree access_step control_step expr_step jsx_step key_step link_step operation_step pat_step prop_step stmt_step a) ∙ either_jsx_step _

pub ruleset unliteral = (views, telling, either_template, either_word, either_access, either_operation, either_jsx)

-- ---- spreads

pub spread_template : (b : Bool) (ps : List Text) (ts : List Tree) → is_spread (template b ps ts) ≡ false
spread_template b [] ts = refl
spread_template b (p ∷ []) [] = refl
spread_template b (p ∷ []) (t ∷ ts) = refl
spread_template b (p ∷ q ∷ ps) [] = refl
spread_template b (p ∷ q ∷ ps) (t ∷ ts) = refl

pub spread_word : (w : Word) → is_spread (view_word w) ≡ false
spread_word words.This = refl
spread_word words.Null = refl
spread_word words.True = refl
spread_word words.False = refl
spread_word words.ImportMeta = refl
spread_word words.NewTarget = refl

spread_access_step : (x : Access-F Tree Tree Tree Tree Tree Tree Tree (Role → Tree) (Owner → Tree) Tree) → is_spread (access_step x) ≡ false
spread_access_step (Access-F.New at o as') = refl
spread_access_step _ = refl

pub spread_access : (a : Access) → is_spread (view_access a) ≡ false
spread_access a = ap is_spread (fold_out-Access Tree Tree Tree Tree Tree Tree Tree (Role → Tree) (Owner → Tree) Tree access_step control_step expr_step jsx_step key_step link_step operation_step pat_step prop_step stmt_step a) ∙ spread_access_step _

pub spread_update : (o : UpdateOp) (s : UpdateSide) (ts : Forest) → is_spread (node (expression (update_of o s)) ts) ≡ false
spread_update o side.Before ts = refl
spread_update o side.After ts = refl

spread_jsx_step : (x : Jsx-F Tree Tree Tree Tree Tree Tree Tree (Role → Tree) (Owner → Tree) Tree) → is_spread (jsx_step x) ≡ false
spread_jsx_step (Jsx-F.Container at None) = refl
spread_jsx_step (Jsx-F.Container at (Some e)) = refl
spread_jsx_step _ = refl

pub spread_jsx : (a : Jsx) → is_spread (view_jsx a) ≡ false
spread_jsx a = ap is_spread (fold_out-Jsx Tree Tree Tree Tree Tree Tree Tree (Role → Tree) (Owner → Tree) Tree access_step control_step expr_step jsx_step key_step link_step operation_step pat_step prop_step stmt_step a) ∙ spread_jsx_step _

pub ruleset unspread = (views, telling, spread_template, spread_word, spread_access, spread_update, spread_jsx)

-- ---- assignments

pub assign_template : (b : Bool) (ps : List Text) (ts : List Tree) → is_assign (template b ps ts) ≡ false
assign_template b [] ts = refl
assign_template b (p ∷ []) [] = refl
assign_template b (p ∷ []) (t ∷ ts) = refl
assign_template b (p ∷ q ∷ ps) [] = refl
assign_template b (p ∷ q ∷ ps) (t ∷ ts) = refl

pub assign_word : (w : Word) → is_assign (view_word w) ≡ false
assign_word words.This = refl
assign_word words.Null = refl
assign_word words.True = refl
assign_word words.False = refl
assign_word words.ImportMeta = refl
assign_word words.NewTarget = refl

assign_access_step : (x : Access-F Tree Tree Tree Tree Tree Tree Tree (Role → Tree) (Owner → Tree) Tree) → is_assign (access_step x) ≡ false
assign_access_step (Access-F.New at o as') = refl
assign_access_step _ = refl

pub assign_access : (a : Access) → is_assign (view_access a) ≡ false
assign_access a = ap is_assign (fold_out-Access Tree Tree Tree Tree Tree Tree Tree (Role → Tree) (Owner → Tree) Tree access_step control_step expr_step jsx_step key_step link_step operation_step pat_step prop_step stmt_step a) ∙ assign_access_step _

pub assign_update : (o : UpdateOp) (s : UpdateSide) (ts : Forest) → is_assign (node (expression (update_of o s)) ts) ≡ false
assign_update o side.Before ts = refl
assign_update o side.After ts = refl

assign_jsx_step : (x : Jsx-F Tree Tree Tree Tree Tree Tree Tree (Role → Tree) (Owner → Tree) Tree) → is_assign (jsx_step x) ≡ false
assign_jsx_step (Jsx-F.Container at None) = refl
assign_jsx_step (Jsx-F.Container at (Some e)) = refl
assign_jsx_step _ = refl

pub assign_jsx : (a : Jsx) → is_assign (view_jsx a) ≡ false
assign_jsx a = ap is_assign (fold_out-Jsx Tree Tree Tree Tree Tree Tree Tree (Role → Tree) (Owner → Tree) Tree access_step control_step expr_step jsx_step key_step link_step operation_step pat_step prop_step stmt_step a) ∙ assign_jsx_step _

pub ruleset unassigned = (views, telling, assign_template, assign_word, assign_access, assign_update, assign_jsx)

-- ---- holes

pub hole_template : (b : Bool) (ps : List Text) (ts : List Tree) → is_elision (template b ps ts) ≡ false
hole_template b [] ts = refl
hole_template b (p ∷ []) [] = refl
hole_template b (p ∷ []) (t ∷ ts) = refl
hole_template b (p ∷ q ∷ ps) [] = refl
hole_template b (p ∷ q ∷ ps) (t ∷ ts) = refl

pub hole_word : (w : Word) → is_elision (view_word w) ≡ false
hole_word words.This = refl
hole_word words.Null = refl
hole_word words.True = refl
hole_word words.False = refl
hole_word words.ImportMeta = refl
hole_word words.NewTarget = refl

pub hole_literal : (k : LiteralKind) (s : token.Text) → is_elision (leaf (kind_of_literal k) s) ≡ false
hole_literal literal_kind.Num s = refl
hole_literal literal_kind.BigInt s = refl
hole_literal literal_kind.Str s = refl
hole_literal literal_kind.RegExp s = refl

hole_access_step : (x : Access-F Tree Tree Tree Tree Tree Tree Tree (Role → Tree) (Owner → Tree) Tree) → is_elision (access_step x) ≡ false
hole_access_step (Access-F.New at o as') = refl
hole_access_step _ = refl

pub hole_access : (a : Access) → is_elision (view_access a) ≡ false
hole_access a = ap is_elision (fold_out-Access Tree Tree Tree Tree Tree Tree Tree (Role → Tree) (Owner → Tree) Tree access_step control_step expr_step jsx_step key_step link_step operation_step pat_step prop_step stmt_step a) ∙ hole_access_step _

pub hole_update : (o : UpdateOp) (s : UpdateSide) (ts : Forest) → is_elision (node (expression (update_of o s)) ts) ≡ false
hole_update o side.Before ts = refl
hole_update o side.After ts = refl

hole_jsx_step : (x : Jsx-F Tree Tree Tree Tree Tree Tree Tree (Role → Tree) (Owner → Tree) Tree) → is_elision (jsx_step x) ≡ false
hole_jsx_step (Jsx-F.Container at None) = refl
hole_jsx_step (Jsx-F.Container at (Some e)) = refl
hole_jsx_step _ = refl

pub hole_jsx : (a : Jsx) → is_elision (view_jsx a) ≡ false
hole_jsx a = ap is_elision (fold_out-Jsx Tree Tree Tree Tree Tree Tree Tree (Role → Tree) (Owner → Tree) Tree access_step control_step expr_step jsx_step key_step link_step operation_step pat_step prop_step stmt_step a) ∙ hole_jsx_step _

pub ruleset unheld = (views, telling, hole_template, hole_word, hole_literal, hole_access, hole_update, hole_jsx)

-- ---- names that may be bound

pub name_template : (b : Bool) (ps : List Text) (ts : List Tree) → is_bound_name (template b ps ts) ≡ false
name_template b [] ts = refl
name_template b (p ∷ []) [] = refl
name_template b (p ∷ []) (t ∷ ts) = refl
name_template b (p ∷ q ∷ ps) [] = refl
name_template b (p ∷ q ∷ ps) (t ∷ ts) = refl

pub name_word : (w : Word) → is_bound_name (view_word w) ≡ false
name_word words.This = refl
name_word words.Null = refl
name_word words.True = refl
name_word words.False = refl
name_word words.ImportMeta = refl
name_word words.NewTarget = refl

pub name_literal : (k : LiteralKind) (s : token.Text) → is_bound_name (leaf (kind_of_literal k) s) ≡ false
name_literal literal_kind.Num s = refl
name_literal literal_kind.BigInt s = refl
name_literal literal_kind.Str s = refl
name_literal literal_kind.RegExp s = refl

name_access_step : (x : Access-F Tree Tree Tree Tree Tree Tree Tree (Role → Tree) (Owner → Tree) Tree) → is_bound_name (access_step x) ≡ false
name_access_step (Access-F.New at o as') = refl
name_access_step _ = refl

pub name_access : (a : Access) → is_bound_name (view_access a) ≡ false
name_access a = ap is_bound_name (fold_out-Access Tree Tree Tree Tree Tree Tree Tree (Role → Tree) (Owner → Tree) Tree access_step control_step expr_step jsx_step key_step link_step operation_step pat_step prop_step stmt_step a) ∙ name_access_step _

name_operation_step : (x : Operation-F Tree Tree Tree Tree Tree Tree Tree (Role → Tree) (Owner → Tree) Tree) → is_bound_name (operation_step x) ≡ false
name_operation_step (Operation-F.Update at o side.Before a) = refl
name_operation_step (Operation-F.Update at o side.After a) = refl
name_operation_step _ = refl

pub name_operation : (a : Operation) → is_bound_name (view_operation a) ≡ false
name_operation a = ap is_bound_name (fold_out-Operation Tree Tree Tree Tree Tree Tree Tree (Role → Tree) (Owner → Tree) Tree access_step control_step expr_step jsx_step key_step link_step operation_step pat_step prop_step stmt_step a) ∙ name_operation_step _

name_jsx_step : (x : Jsx-F Tree Tree Tree Tree Tree Tree Tree (Role → Tree) (Owner → Tree) Tree) → is_bound_name (jsx_step x) ≡ false
name_jsx_step (Jsx-F.Container at None) = refl
name_jsx_step (Jsx-F.Container at (Some e)) = refl
name_jsx_step _ = refl

pub name_jsx : (a : Jsx) → is_bound_name (view_jsx a) ≡ false
name_jsx a = ap is_bound_name (fold_out-Jsx Tree Tree Tree Tree Tree Tree Tree (Role → Tree) (Owner → Tree) Tree access_step control_step expr_step jsx_step key_step link_step operation_step pat_step prop_step stmt_step a) ∙ name_jsx_step _

pub ruleset unnamed = (views, telling, name_template, name_word, name_literal, name_access, name_operation, name_jsx)

-- ---- what binds by itself

pub bare_template : (b : Bool) (ps : List Text) (ts : List Tree) → binding (template b ps ts) ≡ false
bare_template b [] ts = refl
bare_template b (p ∷ []) [] = refl
bare_template b (p ∷ []) (t ∷ ts) = refl
bare_template b (p ∷ q ∷ ps) [] = refl
bare_template b (p ∷ q ∷ ps) (t ∷ ts) = refl

pub bare_literal : (k : LiteralKind) (s : token.Text) → binding (leaf (kind_of_literal k) s) ≡ false
bare_literal literal_kind.Num s = refl
bare_literal literal_kind.BigInt s = refl
bare_literal literal_kind.Str s = refl
bare_literal literal_kind.RegExp s = refl

bare_access_step : (x : Access-F Tree Tree Tree Tree Tree Tree Tree (Role → Tree) (Owner → Tree) Tree) → binding (access_step x) ≡ false
bare_access_step (Access-F.New at o as') = refl
bare_access_step _ = refl

pub bare_access : (a : Access) → binding (view_access a) ≡ false
bare_access a = ap binding (fold_out-Access Tree Tree Tree Tree Tree Tree Tree (Role → Tree) (Owner → Tree) Tree access_step control_step expr_step jsx_step key_step link_step operation_step pat_step prop_step stmt_step a) ∙ bare_access_step _

bare_operation_step : (x : Operation-F Tree Tree Tree Tree Tree Tree Tree (Role → Tree) (Owner → Tree) Tree) → binding (operation_step x) ≡ is_elision (operation_step x)
bare_operation_step (Operation-F.Update at o side.Before a) = refl
bare_operation_step (Operation-F.Update at o side.After a) = refl
bare_operation_step _ = refl

pub bare_operation : (a : Operation) → binding (view_operation a) ≡ is_elision (view_operation a)
bare_operation a = ap binding (fold_out-Operation Tree Tree Tree Tree Tree Tree Tree (Role → Tree) (Owner → Tree) Tree access_step control_step expr_step jsx_step key_step link_step operation_step pat_step prop_step stmt_step a) ∙ bare_operation_step _ ∙ sym (ap is_elision (fold_out-Operation Tree Tree Tree Tree Tree Tree Tree (Role → Tree) (Owner → Tree) Tree access_step control_step expr_step jsx_step key_step link_step operation_step pat_step prop_step stmt_step a))

bare_jsx_step : (x : Jsx-F Tree Tree Tree Tree Tree Tree Tree (Role → Tree) (Owner → Tree) Tree) → binding (jsx_step x) ≡ false
bare_jsx_step (Jsx-F.Container at None) = refl
bare_jsx_step (Jsx-F.Container at (Some e)) = refl
bare_jsx_step _ = refl

pub bare_jsx : (a : Jsx) → binding (view_jsx a) ≡ false
bare_jsx a = ap binding (fold_out-Jsx Tree Tree Tree Tree Tree Tree Tree (Role → Tree) (Owner → Tree) Tree access_step control_step expr_step jsx_step key_step link_step operation_step pat_step prop_step stmt_step a) ∙ bare_jsx_step _

pub hole_suits : (t : Tree) → is_elision t ≡ true → Suits t t
hole_suits (leaf token.Elision s) h = suits_hole
hole_suits (leaf _ s) h = cc
hole_suits (node k cs) h = cc
hole_suits (list ts) h = cc

pub ruleset unbinding = (views, telling, suits_name, bare_template, bare_literal, bare_access, bare_operation, bare_jsx)

-- ---- names as keys

pub worded_literal : (k : LiteralKind) (s : token.Text) → is_word (leaf (kind_of_literal k) s) ≡ false
worded_literal literal_kind.Num s = refl
worded_literal literal_kind.BigInt s = refl
worded_literal literal_kind.Str s = refl
worded_literal literal_kind.RegExp s = refl

pub ruleset unworded = (views, telling, worded_literal)
