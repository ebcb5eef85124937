-- What a cover tells of places, as an expression and as the element that it turns into.
use Rattle.std.proofs.Common.{◌≡◌, ℕ, Bool, true, false, Box, Global, Option, refl, sym, ◌∙◌, ap, subst}
use Rattle.jsx_base.specs.Token.{IdentifierName}
use Rattle.jsx_base.specs.declared.place.Span.{Span}
use Rattle.jsx_tree.specs.Signs.{Sign}
use Rattle.jsx_tree.specs.Kinds.{Assign, Assigns, Index, Member, Parenthesized, SuperIndex, SuperMember, WithInit, expression, function, Tree, leaf, node, list, Forest, none, part}
use Rattle.jsx_tree.specs.Spans.{Told, tells}
use Rattle.jsx_tree.specs.Told.{told_expr, told_leaf, told_text}
use Rattle.jsx_tree.specs.Grows.{as_target}
use Rattle.jsx_tree.specs.Grammar.{pun}
use Rattle.jsx_tree.specs.Reading.{Place}
use Rattle.jsx_tree.specs.StaticRules.{Surroundings}
use Rattle.jsx_tree.specs.declared.text.Ident.{Ident}
use Rattle.jsx_tree.specs.declared.tree.Expr.{Expr as Code}
use Rattle.jsx_make.specs.NodeSpans.{expr_at}
use Rattle.jsx_tree.specs.View.{name_of, view_expr}
use Rattle.jsx_tree.specs.declared.text.Text.{Text}
use Rattle.jsx_token.specs.Here.{Here}
use Rattle.jsx_token.specs.Places.{Takes, end_of, next_of}
use Rattle.jsx_operand.specs.Climbing.{is_target}
use Rattle.jsx_operand.specs.Covers.{view_cover}
use Rattle.jsx_operand.specs.Spans.{IsPlaced, IsPlacedBehind, IsPlacedPast, Spans, pairs_formed}
use Rattle.jsx_operand.specs.Turning.{TurnsElement, turn_filled, turn_plain, is_literal, retold}
use Rattle.jsx_operand.specs.declared.cover.Cover.{Cover}
use Rattle.jsx_operand.proofs.Placing.{placed_as}
use Rattle.jsx_operand.proofs.PlacedTargets.{placed_target}
use Rattle.jsx_operand.proofs.Turned.{turned_aims, turned_target}
use Rattle.jsx_expression.specs.Arrows.{BareEnds, bare_kind}
use Rattle.jsx_member.specs.Covers.{IsPlacedCoverBehind}
use Rattle.jsx_expression.specs.Covers.{IsAssigned, IsPlacedAssigned}
use Rattle.jsx_function.specs.Covers.{IsPlacedCover, told_cover}

target_formed : (t : Tree) → is_target t ≡ true → pairs_formed t ≡ true
target_formed (leaf k t) h = refl
target_formed (node (expression Parenthesized) (part t none)) h = target_formed t h
target_formed (node (expression Member) ts) h = refl
target_formed (node (expression Index) ts) h = refl
target_formed (node (expression SuperMember) ts) h = refl
target_formed (node (expression SuperIndex) ts) h = refl
target_formed (node _ ts) h = cc
target_formed (list ts) h = cc

-- a target tells what it told
retold_target : (t : Tree) (d : Told) → is_target t ≡ true → retold t d ≡ d
retold_target (leaf k t) d h = refl
retold_target (node (expression Parenthesized) ts) d h = refl
retold_target (node (expression Member) ts) d h = refl
retold_target (node (expression Index) ts) d h = refl
retold_target (node (expression SuperMember) ts) d h = refl
retold_target (node (expression SuperIndex) ts) d h = refl
retold_target (node _ ts) d h = cc
retold_target (list ts) d h = cc

-- an assignment has the signs of the pattern with that default
placed_filled : (d : Told) {ts : Forest} {x y : Here} → IsPlaced d (node (expression Assign) ts) x y → IsPlaced d (node (function (WithInit Assigns)) ts) x y
placed_filled (tells cs ds) p = record { same = p.same; begins = p.begins; leads = p.leads; told = p.told; moved = p.moved }

placed_element : {d : Told} {t q : Tree} {x y : Here} → is_literal t ≡ false → IsPlaced d t x y → TurnsElement t q → IsPlaced (retold t d) q x y
placed_element {d} {t} {q} {x} {y} l p (turn_plain e) =
    let h = turned_aims e l in
    subst (λ u. IsPlaced (retold t d) u x y) (sym (turned_target e l)) (subst (λ c. IsPlaced c (as_target t) x y) (sym (retold_target t d h)) (placed_target (target_formed t h) p))
placed_element {d} l p turn_filled = placed_filled d p

pub placed_cover : {c : Cover} {x y : Here} → is_literal (view_cover c) ≡ false → IsPlaced (told_cover c) (view_cover c) x y → IsPlacedCover c x y
placed_cover l p = record { expr = λ _. p; element = λ q d. placed_element l p d.turns }

pub placed_cover_behind : {s : Sign} {c : Cover} {x y : Here} → is_literal (view_cover c) ≡ false → IsPlacedBehind s x (told_cover c) (view_cover c) y → IsPlacedCoverBehind s x c y
placed_cover_behind l p = record { on = λ w t b. placed_cover l (p.on w t b) }

pub cover_placed_to : {c : Cover} {x y z : Here} → z ≡ y → IsPlacedCover c x y → IsPlacedCover c x z
cover_placed_to {c} {x} e p = subst (λ h. IsPlacedCover c x h) (sym e) p

-- a name tells of its text alone
pub placed_name : {at : Option Span} {a : Text} {t : _} {x y : Here} → IsPlaced (told_leaf at a) (leaf IdentifierName t) x y → IsPlaced (told_text a) (leaf IdentifierName t) x y
placed_name p = record {
  same = p.same;
  begins = p.begins;
  leads = p.leads;
  told = λ f c h. let q = p.told f c h in (q.0.1, q.1);
  moved = λ a f c h lo next hi at e. let q = p.moved a f c h lo next hi at e in (q.0.1, q.1);
}

-- ---- an assignment to a pattern, and an arrow function of one name

pub assigned_placed : {v : Surroundings} {a z : Place} {x y b w : Here} {c d : Cover} (e : Box Code Global) → d.expr ≡ e → IsAssigned v c (view_expr e.value) a z → Spans (expr_at c.expr.value) (next_of x) (end_of y) → IsPlacedCover c x y → Takes (pun "=") y b → IsPlacedAssigned c b e.value w → IsPlacedCover d x w
assigned_placed {x = x} {y} {w = w} e is n s p t q = placed_cover (ap (λ j. is_literal (view_expr j.value)) is ∙ ap is_literal n.is) (subst (λ j. IsPlaced (told_expr j.value) (view_expr j.value) x w) (sym is) (q.on x y s p t))

bare_literal : (b : Bool) (ts : Forest) → is_literal (node (bare_kind b) ts) ≡ false
bare_literal true ts = refl
bare_literal false ts = refl

pub bare_placed : {v : Surroundings} {a z : Place} {x y w : Here} {t : Tree} {d : Cover} {at : Option Span} {lo : ℕ} (f : Code) (n : Ident) (e : Box Code Global) → d.expr ≡ e → BareEnds v t (view_expr e.value) a z → told_expr f ≡ told_leaf at n.text → view_expr f ≡ name_of n → IsPlaced (told_expr f) (view_expr f) x y → lo ≡ next_of x → IsPlacedPast lo (told_text n.text) (name_of n) y (told_expr e.value) (view_expr e.value) w → IsPlacedCover d x w
bare_placed {x = x} {y} {w} {at = at} f n e is b told view p l q =
    placed_cover (ap (λ j. is_literal (view_expr j.value)) is ∙ (ap is_literal b.is ∙ bare_literal b.block (part _ (part b.end' none))))
    (subst (λ j. IsPlaced (told_expr j.value) (view_expr j.value) x w) (sym is) (q.on x l (placed_name {at = at} {a = n.text} (placed_as (sym told) (sym view) p))))
