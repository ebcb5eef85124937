-- The loop over an object's members up to its `}`, before it is known whether they are members of a literal or parts of a pattern: what it keeps of both rows, step by step (ECMA-262 sections 13.2.5 and 13.15.5).
use Rattle.std.proofs.Common.{◌≡◌, Bool, true, false, List, [], ◌∷◌, ◌++◌, map, refl, sym, ap, subst, Box, Vec, Global}
use Rattle.std.specs.Prelude.{◌&&◌}
use Rattle.jsx_tree.specs.Signs.{Pad}
use Rattle.jsx_tree.specs.Kinds.{Assigns, Tree, list, none, part}
use Rattle.jsx_tree.specs.Nonterminals.{ObjectMember, PatProp}
use Rattle.jsx_tree.specs.Grammar.{Commas, Fixed, Many, p, pun}
use Rattle.jsx_tree.specs.Reading.{Lost, forth}
use Rattle.jsx_tree.specs.StaticRules.{Surroundings}
use Rattle.jsx_tree.specs.Spans.{Told, tells, tale, no_tales}
use Rattle.jsx_tree.specs.Told.{told_prop, tales}
use Rattle.jsx_tree.specs.View.{forest, inside}
use Rattle.jsx_tree.specs.declared.tree.Prop.{Prop}
use Rattle.jsx_tree.specs.Walk.{nothing}
use Rattle.jsx_tree.specs.Answers.{Moves, Missed, Only, Barred}
use Rattle.jsx_tree.specs.Faults.{Fault}
use Rattle.jsx_token.specs.Here.{Here, place_of, sign_of}
use Rattle.jsx_token.specs.Places.{Takes}
use Rattle.jsx_token.specs.declared.lexer.Fixed.TheVariants as fixed
use Rattle.jsx_make.specs.Members.{view_prop}
use Rattle.jsx_operand.specs.SoFar.{so_far}
use Rattle.jsx_operand.specs.Spans.{IsPlacedRow}
use Rattle.jsx_operand.specs.Turning.{retold_part, retold_parts}
use Rattle.jsx_operand.proofs.Placing.{IsItem as Lies, map_pushed, plain_commas, row_end, row_list, row_quiet, row_sign}
use Rattle.jsx_operand.proofs.PlacedExpressions.{no_trailing, takes_trailing}
use Rattle.jsx_operand.proofs.Trees.{pushed}
use Rattle.jsx_member.specs.Covers.{CoversMembers, IsMemberCover, IsPlacedMember, IsPlacedMembers, IsTurnedPart, NoMemberCover, NoMembers, told_member}
use Rattle.jsx_member.specs.declared.literals.Member.{Member}
use Rattle.jsx_member.specs.declared.literals.Members.{Members}
use Rattle.jsx_member.proofs.CoverItems.{Kept, kept_none}
use Rattle.jsx_member.proofs.CoverMembers.{inside as within, member_more, none_more, shut, shut_behind, unshut}
use Rattle.jsx_member.proofs.ItemCovers.{AreAll, all_none, none_all}
use Rattle.jsx_member.proofs.MemberCovers.{IsMember, PartInto, member_fills, members_cover, members_longer, no_member, no_turned_part, none_parted, part_fills, parted_none, parts_longer}
use Rattle.jsx_member.proofs.Parted.{literal_members, pattern_parts}
use Rattle.jsx_member.proofs.PlacedRows.{ClosedAll, PlacedAll, all_last, all_more, closed_all, front_all, item_of}

-- what is told of a member as a part
abbrev pub retold_member : Box Prop Global → Told
retold_member b = retold_part (inside view_prop b) (inside told_prop b)

pub record MembersRead (v : Surroundings) (xs : List (Box Prop Global)) (e m : Bool) (x y : Here) : Type 0 where
  pub exprs : Kept v (within ObjectMember) (place_of x) (AreAll e (forest (map (inside view_prop) xs))) (place_of y)
  pub parts : Kept v (within (PatProp Assigns)) (place_of x) (PartInto m (forest (map (inside view_prop) xs))) (place_of y)
  pub placed_exprs : PlacedAll Commas (map (inside told_prop) xs) (AreAll e (forest (map (inside view_prop) xs))) x y
  pub placed_parts : PlacedAll Commas (map retold_member xs) (PartInto m (forest (map (inside view_prop) xs))) x y
  pub closed_exprs : ClosedAll Commas (map (inside told_prop) xs) (AreAll e (forest (map (inside view_prop) xs))) x y
  pub closed_parts : ClosedAll Commas (map retold_member xs) (PartInto m (forest (map (inside view_prop) xs))) x y

pub members_none : {v : Surroundings} {xs : List (Box Prop Global)} {x : Here} → xs ≡ [] → MembersRead v xs true true x x
members_none {v} {xs} {x} e = subst (λ ys. MembersRead v ys true true x x) (sym e) (record {
  exprs = kept_none (none_all refl) all_none;
  parts = kept_none (none_parted refl) parted_none;
  placed_exprs = front_all all_none;
  placed_parts = front_all parted_none;
  closed_exprs = closed_all all_none;
  closed_parts = closed_all parted_none;
})

missed : {y y' : Here} {s : _} → y' ≡ y → forth s (place_of y) ≡ Lost → Missed s (place_of y) (place_of y')
missed e n = record { same = sym (ap place_of e); stuck = record { is = n } }

-- a member, where no `}` comes first
pub record MemberRead (v : Surroundings) (m : Member) (y z : Here) : Type 0 where
  pub member : IsMemberCover v (place_of y) m (place_of z)
  pub placed : IsPlacedMember m y z
  pub no_close : forth (pun "}") (place_of y) ≡ Lost

pub member_read : {v : Surroundings} {m : Member} {y y' z : Here} → y' ≡ y → forth (pun "}") (place_of y) ≡ Lost → IsMemberCover v (place_of y') m (place_of z) → IsPlacedMember m y' z → MemberRead v m y z
member_read {v} {m} {y} {y'} {z} e close o k = record { member = subst (λ h. IsMemberCover v (place_of h) m (place_of z)) e o; placed = subst (λ h. IsPlacedMember m h z) e k; no_close = close }

expr_lies : {v : Surroundings} {m : Member} {y z : Here} → MemberRead v m y z → (t : Tree) → IsMember m t → Lies false (told_member m) t y z
expr_lies {m = m} {y} {z} o t q = subst (λ u. Lies false (told_member m) u y z) q.is (item_of (o.placed.expr q.settled))

part_lies : {v : Surroundings} {m : Member} {y z : Here} → MemberRead v m y z → (t : Tree) → IsTurnedPart m t → Lies false (retold_part (view_prop m.prop.value) (told_member m)) t y z
part_lies o t q = item_of (o.placed.part' t q)

-- and its comma
pub members_more : {v : Surroundings} {xs ys : List (Box Prop Global)} {k : Member} {e m f n : Bool} {x y z w : Here} → MembersRead v xs e m x y → ys ≡ xs ++ k.prop ∷ [] → MemberRead v k y z → place_of w ≡ forth (pun ",") (place_of z) → Takes (sign_of fixed.Comma) z w → f ≡ (e && k.is_expr) → n ≡ (m && k.may_turn) → MembersRead v ys f n x w
members_more {v} {xs} {ys} {k} {e} {m} {f} {n} {x} {y} {z} {w} r is o comma takes settles turns =
    let grown = pushed (inside view_prop) xs ys k.prop is in
    let tolds = map_pushed (inside told_prop) xs ys k.prop (told_member k) is refl in
    let retolds = map_pushed retold_member xs ys k.prop (retold_part (view_prop k.prop.value) (told_member k)) is refl in
    let moves : Moves (pun ",") (place_of z) (place_of w) = record { is = comma; found = refl } in
    record {
      exprs = member_more literal_members (members_longer settles grown) r.exprs (missed {y = y} {y' = y} refl o.no_close) (member_fills o.member) moves;
      parts = member_more pattern_parts (parts_longer turns grown) r.parts (missed {y = y} {y' = y} refl o.no_close) (part_fills o.member) moves;
      placed_exprs = all_more plain_commas (members_longer settles grown) r.placed_exprs (expr_lies o) takes.same takes.leads tolds;
      placed_parts = all_more plain_commas (parts_longer turns grown) r.placed_parts (part_lies o) takes.same takes.leads retolds;
      closed_exprs = all_last plain_commas (members_longer settles grown) r.placed_exprs (expr_lies o) takes.same (λ t q. takes_trailing takes) tolds;
      closed_parts = all_last plain_commas (parts_longer turns grown) r.placed_parts (part_lies o) takes.same (λ t q. takes_trailing takes) retolds;
    }

-- ---- up to the `}`

retold_all : (xs : List (Box Prop Global)) → retold_parts (forest (map (inside view_prop) xs)) (tales (map (inside told_prop) xs)) ≡ tales (map retold_member xs)
retold_all [] = refl
retold_all (b ∷ xs) = ap (tale (retold_member b)) (retold_all xs)

both_placed : {all : Vec (Box Prop Global) Global} {e m : Bool} {x y z : Here} (q : Members) → q ≡ record { all = all; are_exprs = e; may_turn = m } → ClosedAll Commas (map (inside told_prop) all.items) (AreAll e (forest (map (inside view_prop) all.items))) x y → ClosedAll Commas (map retold_member all.items) (PartInto m (forest (map (inside view_prop) all.items))) x y → Takes (sign_of fixed.CloseBrace) y z → IsPlacedMembers q x z
both_placed {all} {e} {m} {x} {y} {z} q is r s k = subst (λ o. IsPlacedMembers o x z) (sym is) (record {
  expr = λ f. row_list (r.on _ (record { settled = f; is = refl })) (row_quiet (λ q. refl) (row_sign k row_end));
  parts = λ ts a. subst (λ us. IsPlacedRow (Many Commas (PatProp Assigns) ∷ Fixed Pad ∷ p "}" ∷ []) (tale (tells [] (retold_parts (forest (map (inside view_prop) all.items)) (tales (map (inside told_prop) all.items)))) no_tales) us x z) (sym a.is)
      (subst (λ es. IsPlacedRow (Many Commas (PatProp Assigns) ∷ Fixed Pad ∷ p "}" ∷ []) (tale (tells [] es) no_tales) (part (list a.parts) none) x z) (sym (retold_all all.items)) (row_list (s.on a.parts (record { may = a.may; turns = a.turns })) (row_quiet (λ q. refl) (row_sign k row_end))));
})

-- nothing more stands there
pub members_shut : {v : Surroundings} {all : Vec (Box Prop Global) Global} {e m : Bool} {x y : Here} (z : Here) (q : Members) → q ≡ record { all = all; are_exprs = e; may_turn = m } → MembersRead v all.items e m x y → place_of z ≡ forth (pun "}") (place_of y) → CoversMembers v (place_of x) q (place_of z)
members_shut z q is r close = members_cover q is (shut literal_members r.exprs (record { is = close; found = refl })) (shut pattern_parts r.parts (record { is = close; found = refl }))

pub members_shut_placed : {v : Surroundings} {all : Vec (Box Prop Global) Global} {e m : Bool} {x y z : Here} (q : Members) → q ≡ record { all = all; are_exprs = e; may_turn = m } → MembersRead v all.items e m x y → Takes (sign_of fixed.CloseBrace) y z → IsPlacedMembers q x z
members_shut_placed q is r k = both_placed q is r.closed_exprs r.closed_parts k

-- or the last member with no comma behind it
pub members_last : {v : Surroundings} {xs : List (Box Prop Global)} {all : Vec (Box Prop Global) Global} {k : Member} {e m f n : Bool} {x y z z' : Here} (w : Here) (q : Members) → q ≡ record { all = all; are_exprs = f; may_turn = n } → MembersRead v xs e m x y → all.items ≡ xs ++ k.prop ∷ [] → MemberRead v k y z → z' ≡ z → forth (pun ",") (place_of z) ≡ Lost → Only so_far v (Fixed (pun "}")) (place_of z') nothing (place_of w) → f ≡ (e && k.is_expr) → n ≡ (m && k.may_turn) → CoversMembers v (place_of x) q (place_of w)
members_last {xs = xs} {all} {k} {y = y} w q is r grown o same comma close settles turns =
    let longer = pushed (inside view_prop) xs all.items k.prop grown in
    members_cover q is (shut_behind literal_members (members_longer settles longer) r.exprs (missed {y = y} {y' = y} refl o.no_close) (member_fills o.member) (missed same comma) close) (shut_behind pattern_parts (parts_longer turns longer) r.parts (missed {y = y} {y' = y} refl o.no_close) (part_fills o.member) (missed same comma) close)

pub members_last_placed : {v : Surroundings} {xs : List (Box Prop Global)} {all : Vec (Box Prop Global) Global} {k : Member} {e m f n : Bool} {x y z z' w : Here} (q : Members) → q ≡ record { all = all; are_exprs = f; may_turn = n } → MembersRead v xs e m x y → all.items ≡ xs ++ k.prop ∷ [] → MemberRead v k y z → z' ≡ z → forth (pun ",") (place_of z) ≡ Lost → Takes (sign_of fixed.CloseBrace) z' w → f ≡ (e && k.is_expr) → n ≡ (m && k.may_turn) → IsPlacedMembers q x w
members_last_placed {xs = xs} {all} {k} {z = z} {z'} {w} q is r grown o same comma close settles turns =
    let longer = pushed (inside view_prop) xs all.items k.prop grown in
    let takes : Takes (sign_of fixed.CloseBrace) z w = subst (λ h. Takes (sign_of fixed.CloseBrace) h w) same close in
    both_placed q is
    (all_last plain_commas (members_longer settles longer) r.placed_exprs (expr_lies o) refl (λ t g. no_trailing (place_of z) comma) (map_pushed (inside told_prop) xs all.items k.prop (told_member k) grown refl))
    (all_last plain_commas (parts_longer turns longer) r.placed_parts (part_lies o) refl (λ t g. no_trailing (place_of z) comma) (map_pushed retold_member xs all.items k.prop (retold_part (view_prop k.prop.value) (told_member k)) grown refl))
    takes

-- ---- what doesn't belong there

pub members_none_here : {v : Surroundings} {xs : List (Box Prop Global)} {e m : Bool} {x y y' : Here} {o : Fault} → MembersRead v xs e m x y → y' ≡ y → forth (pun "}") (place_of y) ≡ Lost → NoMemberCover v (place_of y') o → NoMembers v (place_of x) o
members_none_here r e close n = record { members = none_more r.exprs (missed e close) (no_member n); parts = none_more r.parts (missed e close) (no_turned_part n) }

pub members_unshut : {v : Surroundings} {xs : List (Box Prop Global)} {k : Member} {e m : Bool} {x y z z' : Here} {d : Fault} → MembersRead v xs e m x y → MemberRead v k y z → z' ≡ z → forth (pun ",") (place_of z) ≡ Lost → Barred so_far v (Fixed (pun "}")) (place_of z') d → NoMembers v (place_of x) d
members_unshut {y = y} r o same comma n = record { members = unshut r.exprs (missed {y = y} {y' = y} refl o.no_close) (member_fills o.member) (missed same comma) n; parts = unshut r.parts (missed {y = y} {y' = y} refl o.no_close) (part_fills o.member) (missed same comma) n }
