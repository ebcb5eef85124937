-- The places of what stands in an object, as a member of it and as a part of the pattern that assigns (ECMA-262 sections 13.2.5 and 13.15.5).
use Rattle.std.proofs.Common.{◌≡◌, ℕ, false, [], ◌∷◌, refl, sym, ◌∙◌, ap, subst, Option, Box, Global}
use Rattle.jsx_base.specs.Token.{Text, Operator, IdentifierName}
use Rattle.jsx_base.specs.declared.place.Span.{Span}
use Rattle.jsx_tree.specs.declared.text.Text.{Text as TreeText}
use Rattle.jsx_tree.specs.Signs.{Tok}
use Rattle.jsx_tree.specs.Kinds.{Property, Shorthand, Spread, expression, Tree, leaf, node, none, part}
use Rattle.jsx_tree.specs.Grammar.{pun}
use Rattle.jsx_tree.specs.Spans.{spans, comes, default_is, Comes, Told, tells}
use Rattle.jsx_tree.specs.Answers.{Built}
use Rattle.jsx_tree.specs.StaticRules.{Surroundings}
use Rattle.jsx_tree.specs.Walk.{tail}
use Rattle.jsx_tree.specs.declared.tree.Prop.{Prop}
use Rattle.jsx_tree.specs.Told.{told_key, told_prop, told_list, told_node, told_text}
use Rattle.jsx_tree.specs.View.{text_of, view_key}
use Rattle.jsx_tree.specs.declared.tree.Key.{Key as Code}
use Rattle.jsx_tree.proofs.Apart.{clash}
use Rattle.jsx_token.specs.Here.{Here, place_of, sign_of}
use Rattle.jsx_token.specs.Marks.{row_so_far}
use Rattle.jsx_token.specs.Places.{Takes, begin_of, end_of, next_of}
use Rattle.jsx_token.specs.declared.lexer.Fixed.TheVariants as fixed
use Rattle.jsx_make.specs.Members.{view_prop}
use Rattle.jsx_operand.specs.Covers.{view_cover}
use Rattle.jsx_operand.specs.SoFar.{so_far}
use Rattle.jsx_operand.specs.Spans.{IsPlaced, Spans}
use Rattle.jsx_operand.specs.Turning.{preset, retold_part}
use Rattle.jsx_operand.specs.declared.cover.Cover.{Cover}
use Rattle.jsx_operand.proofs.Placing.{placed_as, placed_to}
use Rattle.jsx_operand.proofs.PlacedExpressions.{name_placed, pair_pattern_placed, property_row, rest_property_placed, short_default_placed, short_pattern_placed, shorthand_row}
use Rattle.jsx_member.specs.Covers.{IsPlacedMember, IsPlacedPair, IsPlacedRest, IsPlacedShort, told_member}
use Rattle.jsx_function.specs.Covers.{IsPlacedCover, told_cover}
use Rattle.jsx_member.specs.declared.literals.Member.{Member}
use Rattle.jsx_member.proofs.MemberCovers.{pair_of, preset_of, rest_of, short_of, spread_parts, turns_so, turns_tree}

-- ---- one that is no part

pub plain_placed : {m : Member} {x y : Here} → turns_tree (view_prop m.prop.value) ≡ false → IsPlaced (told_member m) (view_prop m.prop.value) x y → IsPlacedMember m x y
plain_placed n l = record { expr = λ e. l; part' = λ p q. absurd (clash _ (turns_so q.turns) n) }

pub member_from : {m : Member} {x y z : Here} → x ≡ y → IsPlacedMember m x z → IsPlacedMember m y z
member_from {m} {z = z} e k = subst (λ h. IsPlacedMember m h z) e k

-- ---- a property

pub pair_placed : {lo : ℕ} (k : Code) {x a y : Here} {at : Option Span} {i : Cover} {m : Member} → Takes (sign_of fixed.Colon) x a → IsPlacedCover i a y → view_prop m.prop.value ≡ node (expression Property) (part (view_key k) (part (view_cover i) none)) → told_member m ≡ told_node at (told_key k ∷ told_cover i ∷ []) → ((w : Here) → lo ≡ next_of w → Spans at (next_of w) (end_of y)) → m.is_expr ≡ i.is_expr → m.may_turn ≡ i.may_turn
    → IsPlacedPair lo (told_key k) (view_key k) x m y
pair_placed {lo} k {x} {a} {y} {at} {i} {m} colon o is told spanned e f = record {
  on = λ w b l. record {
    expr = λ g. placed_as told is (property_row l colon (o.expr (sym e ∙ g)) (spanned w b));
    part' = λ p q.
        let r = pair_of q.turns is in
        placed_as (λ j. retold_part (is j) (told j)) r.is (pair_pattern_placed l colon (o.element r.value (record { may = sym f ∙ q.may; turns = r.turns })) (spanned w b));
  };
}

-- ---- a name, alone or with its default

pub short_placed : {lo : ℕ} {n : Text} {a : TreeText} {x y : Here} {at : Option Span} {m : Member} → y ≡ x → n ≡ text_of a → view_prop m.prop.value ≡ node (expression Shorthand) (part (leaf IdentifierName (text_of a)) none) → told_member m ≡ told_node at (told_text a ∷ []) → ((p : ℕ) → lo ≡ p → Comes a p) → ((w : Here) → lo ≡ next_of w → Spans at (next_of w) (end_of x))
    → IsPlacedShort lo n x m y
short_placed {lo} {n} {a} {x} {y} {at} {m} same text is told begun spanned = record {
  on = λ w b l.
      let k : Takes (Tok Operator IdentifierName (text_of a)) w x = subst (λ s. Takes (Tok Operator IdentifierName s) w x) text l in
      record {
        expr = λ g. placed_to same (placed_as told is (shorthand_row {a = a} k (begun (next_of w) b) (spanned w b)));
        part' = λ p q.
            let r = short_of q.turns is in
            placed_to same (placed_as (λ j. retold_part (is j) (told j)) r.is (short_pattern_placed (name_placed {a = a} k (begun (next_of w) b)) (spanned w b)));
      };
}

pub preset_placed : {lo : ℕ} {n : Text} {a : TreeText} {x z y : Here} {at : Option Span} {d : Told} {t : Tree} {m : Member} → n ≡ text_of a → m.is_expr ≡ false → view_prop m.prop.value ≡ preset (text_of a) t → told_member m ≡ told_node at (told_text a ∷ told_list (d ∷ []) ∷ []) → Takes (sign_of fixed.Equals) x z → IsPlaced d t z y → ((p : ℕ) → lo ≡ p → Comes a p) → ((w : Here) → lo ≡ next_of w → Spans at (next_of w) (end_of y))
    → IsPlacedShort lo n x m y
preset_placed {lo} {n} {a} {x} {z} {y} {at} {d} {t} {m} text e is told equals value begun spanned = record {
  on = λ w b l.
      let k : Takes (Tok Operator IdentifierName (text_of a)) w x = subst (λ s. Takes (Tok Operator IdentifierName s) w x) text l in
      record {
        expr = λ g. absurd (clash _ g e);
        part' = λ p q. placed_as (λ j. retold_part (is j) (told j)) (preset_of q.turns is) (short_default_placed (name_placed {a = a} k (begun (next_of w) b)) equals value (spanned w b));
      };
}

-- ---- a spread

-- what is told of a name, without a span that comes first
abbrev dropped : Told → Told
dropped (tells (spans at ∷ cs) es) = tells cs es
dropped d = d

dropped_part : (at : Option Span) (t : Tree) (d : Told) → retold_part (node (expression Spread) (part t none)) (told_node at (d ∷ [])) ≡ told_node at (dropped d ∷ [])
dropped_part at t (tells [] es) = refl
dropped_part at t (tells (spans s ∷ cs) es) = refl
dropped_part at t (tells (comes a ∷ cs) es) = refl
dropped_part at t (tells (default_is b ∷ cs) es) = refl

drop_placed : {n : Text} {x y : Here} (d : Told) → IsPlaced d (leaf IdentifierName n) x y → IsPlaced (dropped d) (leaf IdentifierName n) x y
drop_placed (tells [] es) l = l
drop_placed (tells (spans s ∷ cs) es) l = record { same = l.same; begins = l.begins; leads = l.leads; told = λ f c e. let h = l.told f c e in (h.0.1, h.1); moved = λ e f c g lo next hi at i. let h = l.moved e f c g lo next hi at i in (h.0.1, h.1) }
drop_placed (tells (comes a ∷ cs) es) l = l
drop_placed (tells (default_is b ∷ cs) es) l = l

name_of : {a : Tree} {n : Text} → node (expression Spread) (part a none) ≡ node (expression Spread) (part (leaf IdentifierName n) none) → a ≡ leaf IdentifierName n
name_of e = cc

pub rest_placed : {x y : Here} {at : Option Span} {d e : Told} {s t : Tree} → IsPlaced d s x y → t ≡ node (expression Spread) (part s none) → e ≡ told_node at (d ∷ []) → ((w : Here) → begin_of x ≡ next_of w → Spans at (next_of w) (end_of y)) → IsPlacedRest x e t y
rest_placed {x} {y} {at} {d} {e} {s} {t} l is told spanned = record {
  on = λ w k b n q.
      let name : IsPlaced d (leaf IdentifierName n) x y = subst (λ u. IsPlaced d u x y) (name_of (sym is ∙ q)) l in
      placed_as ((λ j. retold_part (is j) (told j)) ∙ dropped_part at s d) refl (rest_property_placed k (drop_placed d name) (spanned w b));
}

pub spread_placed : {v : Surroundings} {x w y : Here} {m : Member} → Takes (pun "...") w x → begin_of x ≡ next_of w → Built so_far v (tail (row_so_far (expression Spread))) (expression Spread) (λ ts. ts) (view_prop m.prop.value) (place_of x) (place_of y) → IsPlaced (told_member m) (view_prop m.prop.value) w y → IsPlacedRest x (told_member m) (view_prop m.prop.value) y → IsPlacedMember m w y
spread_placed {x = x} {w} {y} {m} k begins b l o = record {
  expr = λ e. l;
  part' = λ p q.
      let s = spread_parts b.row.walk in
      let is = b.is ∙ ap (node (expression Spread)) s.is in
      let r = rest_of q.turns is in
      placed_as refl r.is (o.on w k begins r.name (is ∙ ap (λ u. node (expression Spread) (part u none)) r.from));
}

-- ---- from a place that is another

pub settled_placed : {m : Member} {q : Box Prop Global} {x y : Here} → m.prop ≡ q → turns_tree (view_prop q.value) ≡ false → IsPlaced (told_prop q.value) (view_prop q.value) x y → IsPlacedMember m x y
settled_placed e n l = plain_placed (ap (λ b. turns_tree (view_prop b.value)) e ∙ n) (placed_as (ap (λ b. told_prop b.value) e) (ap (λ b. view_prop b.value) e) l)

pub member_to : {m : Member} {x y z : Here} → z ≡ y → IsPlacedMember m x y → IsPlacedMember m x z
member_to {m} {x} e k = subst (IsPlacedMember m x) (sym e) k

pub pair_from : {lo : ℕ} {d : Told} {k : Tree} {x y z : Here} {m : Member} → x ≡ y → IsPlacedPair lo d k x m z → IsPlacedPair lo d k y m z
pair_from {lo} {d} {k} {z = z} {m} e o = subst (λ h. IsPlacedPair lo d k h m z) e o

pub takes_to : {s : _} {x y z : Here} → z ≡ y → Takes s x y → Takes s x z
takes_to {s} {x} e k = subst (Takes s x) (sym e) k
