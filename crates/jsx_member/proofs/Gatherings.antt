-- What a loop reads of a sequence behind its first expression, wherever that was read from.
use Rattle.std.proofs.Common.{◌≡◌, ◌++◌, ℕ, true, false, map, List, [], ◌∷◌, refl, sym, ◌∙◌, ap, subst, Box, Global}
use Rattle.jsx_base.specs.declared.place.BytePos.{BytePos}
use Rattle.jsx_tree.specs.Kinds.{Seq, expression, Tree, node, list, none, part}
use Rattle.jsx_tree.specs.Nonterminals.{Expr}
use Rattle.jsx_tree.specs.Grammar.{TwoOrMore, Part, pun}
use Rattle.jsx_tree.specs.Reading.{Place, Lost, forth}
use Rattle.jsx_tree.specs.StaticRules.{Surroundings}
use Rattle.jsx_tree.specs.Walk.{one}
use Rattle.jsx_tree.specs.Answers.{Only, Barred, Moves}
use Rattle.jsx_tree.specs.View.{forest, inside, view_expr}
use Rattle.jsx_tree.specs.Spans.{spans, tells, no_tales, tale}
use Rattle.jsx_tree.specs.Told.{tales, told_expr}
use Rattle.jsx_tree.specs.declared.tree.Expr.{Expr as Code}
use Rattle.jsx_tree.specs.Faults.{Fault}
use Rattle.jsx_tree.proofs.Rows.Steps.{both}
use Rattle.jsx_token.specs.Here.{Here, place_of}
use Rattle.jsx_token.specs.Growths.{closed}
use Rattle.jsx_token.specs.Places.{Takes, end_of, next_of}
use Rattle.jsx_make.specs.NodeSpans.{At, expr_at}
use Rattle.jsx_operand.specs.SoFar.{so_far}
use Rattle.jsx_operand.specs.Spans.{IsPlaced, Spans}
use Rattle.jsx_member.specs.Gathering.{IsGathered, NotGathered}
use Rattle.jsx_operand.proofs.Placing.{PlacedFront, plain_two, front_last, front_more, front_none, map_pushed, placed_as, placed_to}
use Rattle.jsx_operand.proofs.PlacedExpressions.{sequence_row}
use Rattle.jsx_operand.proofs.Places.{spans_from}
use Rattle.jsx_operand.proofs.Trees.{pushed}
use Rattle.jsx_member.proofs.Sequences.{Listing, whole_only, listing_one, listing_more, sequence_only, sequence_barred}

abbrev Boxes : Type 0
Boxes = List (Box Code Global)

-- the expressions so far, of which the first stood there before, with a comma behind each
pub record Gathers (v : Surroundings) (first : Code) (y : Here) (es : List (Box Code Global)) (lo : BytePos) (z : Here) : Type 0 where
  pub reads : (x : Place) → Only so_far v (Part (Expr 1)) x (one (view_expr first)) (place_of y) → Listing v x (forest (map (inside view_expr) es)) (place_of z)
  pub rest : List Tree
  pub is : map (inside view_expr) es ≡ view_expr first ∷ rest
  pub from : (n : ℕ) → Spans (expr_at first) n (end_of y) → lo.0 ≡ n
  pub placed : (w : Here) → IsPlaced (told_expr first) (view_expr first) w y → PlacedFront false TwoOrMore (map (inside told_expr) es) (map (inside view_expr) es) w z

-- no comma behind it
pub gathered_alone : {v : Surroundings} {first : Code} {y z : Here} → z ≡ y → closed (place_of y) ≡ true → forth (pun ",") (place_of y) ≡ Lost → IsGathered v first y first z
gathered_alone {v} {first} {y} {z} e s l = record {
  reads = λ x o. subst (λ h. Only so_far v (Part (Expr 0)) x (one (view_expr first)) (place_of h)) (sym e) (whole_only o s l);
  spans = λ lo q. spans_from q refl refl (sym (ap end_of e));
  placed = λ w q p. placed_to e p;
}

pub gathers_one : {v : Surroundings} {y z : Here} {es : List (Box Code Global)} {lo : BytePos} (first : Box Code Global) → es ≡ first ∷ [] → ((n : ℕ) → Spans (expr_at first.value) n (end_of y) → lo.0 ≡ n) → closed (place_of y) ≡ true → Moves (pun ",") (place_of y) (place_of z) → Takes (pun ",") y z
    → Gathers v first.value y es lo z
gathers_one {v} {y} {z} first e f s m comma = record {
  reads = λ x o. subst (λ xs. Listing v x (forest (map (inside view_expr) xs)) (place_of z)) (sym e) (listing_one o s m);
  rest = [];
  is = ap (map (inside view_expr)) e;
  from = f;
  placed = λ w p. front_more plain_two front_none p comma.same comma.leads (ap (map (inside told_expr)) e) (ap (map (inside view_expr)) e);
}

pub gathers_more : {v : Surroundings} {first : Code} {y z u w : Here} {es fs : List (Box Code Global)} {lo : BytePos} (next : Box Code Global) → Gathers v first y es lo z → fs ≡ es ++ next ∷ [] → Only so_far v (Part (Expr 1)) (place_of z) (one (view_expr next.value)) (place_of u) → closed (place_of u) ≡ true
    → IsPlaced (told_expr next.value) (view_expr next.value) z u → Moves (pun ",") (place_of u) (place_of w) → Takes (pun ",") u w → Gathers v first y fs lo w
gathers_more {es = es} {fs} next g e o s p m comma =
    let views = map_pushed (inside view_expr) es fs next (view_expr next.value) e refl in
    record {
      reads = λ x q. listing_more (g.reads x q) o s m (pushed (inside view_expr) _ _ _ e);
      rest = g.rest ++ view_expr next.value ∷ [];
      is = views ∙ ap (λ ts. ts ++ view_expr next.value ∷ []) g.is;
      from = g.from;
      placed = λ x q. front_more plain_two (g.placed x q) p comma.same comma.leads (map_pushed (inside told_expr) es fs next (told_expr next.value) e refl) views;
    }

pub gathered_all : {v : Surroundings} {first whole : Code} {y z u w : Here} {es fs : List (Box Code Global)} {lo : BytePos} {at : At} (next : Box Code Global) → Gathers v first y es lo z → fs ≡ es ++ next ∷ [] → Only so_far v (Part (Expr 1)) (place_of z) (one (view_expr next.value)) (place_of u) → closed (place_of u) ≡ true
    → IsPlaced (told_expr next.value) (view_expr next.value) z u → forth (pun ",") (place_of u) ≡ Lost → w ≡ u → view_expr whole ≡ node (expression Seq) (part (list (forest (map (inside view_expr) fs))) none)
    → told_expr whole ≡ tells (spans at ∷ []) (tale (tells [] (tales (map (inside told_expr) fs))) no_tales) → expr_at whole ≡ at → Spans at lo.0 (end_of w) → IsGathered v first y whole w
gathered_all {v} {first} {whole} {y} {z} {u} {w} {es} {fs} {lo} {at} next g e o s p l same view told span q =
    let views = map_pushed (inside view_expr) es fs next (view_expr next.value) e refl in
    record {
      reads = λ x f. subst (λ h. Only so_far v (Part (Expr 0)) x (one (view_expr whole)) (place_of h)) (sym same)
          (sequence_only (subst (λ ts. Listing v x (forest ts) (place_of z)) g.is (g.reads x f)) o s l (pushed (inside view_expr) _ _ _ e ∙ ap (λ ts. both (forest ts) (part (view_expr next.value) none)) g.is) view);
      spans = λ n r. spans_from q span (g.from n r) refl;
      placed = λ x r f.
          placed_to same (placed_as told view
          (sequence_row (view_expr next.value) (record { first = view_expr first; rest = g.rest; is = g.is; begins = f.begins }) views
          (front_last plain_two (g.placed x f) p refl refl (map_pushed (inside told_expr) es fs next (told_expr next.value) e refl) views)
          (spans_from q refl (g.from (next_of x) r) (ap end_of same))));
    }

pub gathered_none : {v : Surroundings} {first : Code} {y z : Here} {es : List (Box Code Global)} {lo : BytePos} {e : Fault} → Gathers v first y es lo z → Barred so_far v (Part (Expr 1)) (place_of z) e → NotGathered v (view_expr first) (place_of y) e
gathered_none {v} {z = z} g b = record { no = λ x o. sequence_barred (subst (λ ts. Listing v x (forest ts) (place_of z)) g.is (g.reads x o)) b }
