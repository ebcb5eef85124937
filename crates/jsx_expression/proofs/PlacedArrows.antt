-- The places of arrow functions, and of what stands in their parentheses.
use Rattle.std.proofs.Common.{◌≡◌, Bool, true, false, List, [], ◌∷◌, ◌++◌, append-nil, map, refl, sym, ◌∙◌, ap, subst, Option, None, Some, Box, Global}
use Rattle.std.specs.Prelude.{IsTrue, ◌&&◌}
use Rattle.jsx_base.specs.Token.{Text, skip}
use Rattle.jsx_base.specs.declared.place.Span.{Span}
use Rattle.jsx_tree.specs.Signs.{AfterBlock, End, Ends, Outdent, Sign}
use Rattle.jsx_tree.specs.Kinds.{Seq, expression, Tree, node, list, Forest, none, part}
use Rattle.jsx_tree.specs.Grammar.{Commas, TwoOrMore, Fixed, Production, pun}
use Rattle.jsx_tree.specs.Reading.{Place, Lost, At, forth, scan}
use Rattle.jsx_tree.specs.Spans.{Tales, Told, from_first, no_tales, tale}
use Rattle.jsx_tree.specs.Spelling.{saids, spelled, walk}
use Rattle.jsx_tree.specs.Told.{tales, told_list, told_node, told_pat}
use Rattle.jsx_tree.specs.View.{forest, inside, view_pat}
use Rattle.jsx_tree.specs.Walk.{is_found}
use Rattle.jsx_tree.specs.declared.tree.Pat.{Pat}
use Rattle.jsx_tree.proofs.Laws.{scan_append}
use Rattle.jsx_tree.proofs.Tokens.{and_left, and_right}
use Rattle.jsx_token.specs.Here.{Here, place_of}
use Rattle.jsx_token.specs.Places.{Takes, end_of, next_of}
use Rattle.jsx_operand.specs.Bodies.{body_symbols}
use Rattle.jsx_operand.specs.Covers.{IsParameter, view_cover}
use Rattle.jsx_operand.specs.Spans.{IsPlaced, IsPlacedFront, IsPlacedListAs, IsPlacedRow, Spans}
use Rattle.jsx_operand.specs.declared.cover.Cover.{Cover}
use Rattle.jsx_operand.proofs.Placing.{PlacedFront, front_last, front_more, front_none, led, map_pushed, node_is, placed_from, plain_commas, plain_two, row_end, row_line, row_list, row_part, row_quiet, row_sign, row_unless, row_within}
use Rattle.jsx_operand.proofs.PlacedExpressions.{no_trailing, sequence_row, takes_trailing}
use Rattle.jsx_expression.specs.Arrows.{TurnCovers, covers_none, covers_more, PlacedGroup, are_exprs, arrow_kind, bare_kind, end_symbols, has_rest, inner_symbols, retold_cover, retold_covers, told_covers, told_group, told_rest, view_rest}
use Rattle.jsx_function.specs.Covers.{IsPlacedCover, told_cover}
use Rattle.jsx_function.specs.Functions.{params_symbols}
use Rattle.jsx_expression.specs.declared.arrow.Group.{Group}
use Rattle.jsx_expression.proofs.ArrowOpenings.{rest_unread, trails_unread}
use Rattle.jsx_expression.proofs.CoverParams.{close_stuck}
use Rattle.jsx_expression.proofs.SuitsPlaced.{suits_placed}

-- ---- what an arrow function does

pub value_placed : {d : Told} {t : Tree} {x x' y : Here} → x' ≡ x → IsPlaced d t x' y → IsPlacedRow (inner_symbols false) (tale d no_tales) (part t none) x y
value_placed e l = row_unless (row_part (placed_from e l) row_end)

found_before : (p : Place) → is_found (forth (Ends AfterBlock) p) ≡ true → is_found p ≡ true
found_before Lost f = f
found_before (At q e text) f = refl

ends_behind : {d : Told} {t : Tree} {x y z : Here} → IsPlacedRow body_symbols (tale d no_tales) (part t none) x y → z ≡ record y { ending = AfterBlock } → IsPlacedRow (body_symbols ++ Fixed (Ends AfterBlock) ∷ []) (tale d no_tales) (part t none) x z
ends_behind {d} {t} {x} {y} {z} r e =
    let short = walk body_symbols (saids (part t none)) in
    let long = walk (body_symbols ++ Fixed (Ends AfterBlock) ∷ []) (saids (part t none)) in
    let same : scan (place_of x) long ≡ forth (Ends AfterBlock) (scan (place_of x) short) =
    scan_append (place_of x) (spelled t) (Outdent ∷ pun "}" ∷ Ends AfterBlock ∷ End ∷ []) ∙ sym (ap (forth (Ends AfterBlock)) (scan_append (place_of x) (spelled t) (Outdent ∷ pun "}" ∷ End ∷ []))) in
    let goes : is_found (scan (place_of x) long) ≡ true → is_found (scan (place_of x) short) ≡ true = λ f. found_before (scan (place_of x) short) (subst (λ p. is_found p ≡ true) same f) in
    record {
      same = ap (λ h. h.end) e ∙ r.same;
      leads = λ f. same ∙ (ap (forth (Ends AfterBlock)) (r.leads (goes f)) ∙ sym (ap place_of e));
      told = λ f. r.told (goes f);
    }

pub block_placed : {d : Told} {t : Tree} {x a y z : Here} → Takes (pun "{") x a → IsPlacedRow body_symbols (tale d no_tales) (part t none) a y → z ≡ record y { ending = AfterBlock } → IsPlacedRow (inner_symbols true) (tale d no_tales) (part t none) x z
block_placed m r e = row_sign m (ends_behind r e)

pub end_placed : {ds : Tales} {ts : Forest} {x y z : Here} (b : Bool) → Takes (pun "=>") x y → IsPlacedRow (inner_symbols b) ds ts y z → IsPlacedRow (end_symbols b) ds ts x z
end_placed true m r = row_line (row_quiet (λ q. refl) (row_sign m (row_quiet (λ q. refl) r)))
end_placed false m r = row_line (row_quiet (λ q. refl) (row_sign m (row_quiet (λ q. refl) r)))

-- ---- the functions

pub arrow_placed : {at : Option Span} {d e : Told} {ps : Forest} {t : Tree} {w a x y : Here} (b : Bool) → Takes (pun "(") w a → IsPlacedFront params_symbols d (list ps) a x → IsPlacedRow (end_symbols b) (tale e no_tales) (part t none) x y → Spans at (next_of w) (end_of y)
    → IsPlaced (told_node at (d ∷ e ∷ [])) (node (arrow_kind b) (part (list ps) (part t none))) w y
arrow_placed true m f r s = node_is (λ c e ps. refl) (λ ms text. refl) s (row_quiet (λ q. refl) (row_within (row_sign m (f.on _ _ _ _ r))))
arrow_placed false m f r s = node_is (λ c e ps. refl) (λ ms text. refl) s (row_quiet (λ q. refl) (row_within (row_sign m (f.on _ _ _ _ r))))

pub bare_placed : {at : Option Span} {d e : Told} {n t : Tree} {w x y : Here} (b : Bool) → IsPlaced d n w x → IsPlacedRow (end_symbols b) (tale e no_tales) (part t none) x y → Spans at (next_of w) (end_of y) → IsPlaced (told_node at (d ∷ e ∷ [])) (node (bare_kind b) (part n (part t none))) w y
bare_placed true l r s = node_is (λ c e ps. refl) (led l _) s (row_part l (record { same = r.same; leads = r.leads; told = r.told }))
bare_placed false l r s = node_is (λ c e ps. refl) (led l _) s (row_part l (record { same = r.same; leads = r.leads; told = r.told }))

-- ---- a cover as a parameter

pub param_placed : {c : Cover} {q : Tree} {x y : Here} → IsPlacedCover c x y → IsParameter c q → IsPlaced (retold_cover c) q x y
param_placed l p = suits_placed p.suits (l.element p.pattern p.turned)

-- covers and their parameters, one by one
pub data AreTurned : List Cover → List Tree → Type 0 where
  turned_none : AreTurned [] []
  turned_more : {c : Cover} {cs : List Cover} {q : Tree} {qs : List Tree} → IsParameter c q → AreTurned cs qs → AreTurned (c ∷ cs) (q ∷ qs)

pub record TurnedList (cs : List Cover) (us : List Tree) (ps : Forest) : Type 0 where
  pub trees : List Tree
  pub turned : AreTurned cs trees
  pub is : ps ≡ forest (trees ++ us)

pub turned_list : {cs : List Cover} {rs ps : Forest} (us : List Tree) → rs ≡ forest us → TurnCovers cs rs ps → TurnedList cs us ps
turned_list us e covers_none = record { trees = []; turned = turned_none; is = e }
turned_list us e (covers_more {q = q} i t) = let r = turned_list us e t in record { trees = q ∷ r.trees; turned = turned_more i r.turned; is = ap (part q) r.is }

record LastTurned (cs : List Cover) (c : Cover) (qs : List Tree) : Type 0 where
  front : List Tree
  tree : Tree
  is : qs ≡ front ++ tree ∷ []
  turned : AreTurned cs front
  last : IsParameter c tree

last_turned : (cs : List Cover) {c : Cover} {qs : List Tree} → AreTurned (cs ++ c ∷ []) qs → LastTurned cs c qs
last_turned [] (turned_more {q = q} i turned_none) = record { front = []; tree = q; is = refl; turned = turned_none; last = i }
last_turned (d ∷ cs) (turned_more {q = q} i t) = let r = last_turned cs t in record { front = q ∷ r.front; tree = r.tree; is = ap (λ qs. q ∷ qs) r.is; turned = turned_more i r.turned; last = r.last }

-- ---- covers with commas behind them

pub record PlacedCovers (cs : List Cover) (a y : Here) : Type 0 where
  pub first : Cover
  pub others : List Cover
  pub is : cs ≡ first ∷ others
  pub begins : are_exprs cs ≡ true → (ms : List Sign) (text : Text) → from_first (spelled (view_cover first) ++ ms) text ≡ skip text
  pub exprs : are_exprs cs ≡ true → PlacedFront false TwoOrMore (told_covers cs) (map view_cover cs) a y
  pub params : (qs : List Tree) → AreTurned cs qs → PlacedFront false Commas (retold_covers cs) qs a y
  pub closed : (qs : List Tree) → AreTurned cs qs → IsPlacedListAs false Commas (tales (retold_covers cs)) (forest qs) a y

alone_true : (b : Bool) → (b && true) ≡ true → b ≡ true
alone_true true h = refl
alone_true false h = cc

all_front : (cs : List Cover) (c : Cover) → are_exprs (cs ++ c ∷ []) ≡ true → are_exprs cs ≡ true
all_front [] c h = refl
all_front (d ∷ cs) c h = and_both_of d.is_expr (are_exprs cs) (and_left d.is_expr _ h) (all_front cs c (and_right d.is_expr _ h))
  where
    and_both_of : (a b : Bool) → a ≡ true → b ≡ true → (a && b) ≡ true
    and_both_of true b h k = k
    and_both_of false b h k = cc

last_is : (cs : List Cover) (c : Cover) → are_exprs (cs ++ c ∷ []) ≡ true → c.is_expr ≡ true
last_is [] c h = alone_true c.is_expr h
last_is (d ∷ cs) c h = last_is cs c (and_right d.is_expr _ h)

one_turned : (P : List Tree → Type 0) {c : Cover} {qs : List Tree} → AreTurned (c ∷ []) qs → ((q : Tree) → IsParameter c q → P (q ∷ [])) → P qs
one_turned P (turned_more {q = q} i turned_none) f = f q i

pub covers_one : {c : Cover} {cs : List Cover} {a z y : Here} → cs ≡ c ∷ [] → IsPlacedCover c a z → Takes (pun ",") z y → PlacedCovers cs a y
covers_one {c} {cs} {a} {z} {y} e l comma = subst (λ es. PlacedCovers es a y) (sym e) (record {
  first = c;
  others = [];
  is = refl;
  begins = λ h. (l.expr (alone_true c.is_expr h)).begins;
  exprs = λ h. front_more plain_two front_none (l.expr (alone_true c.is_expr h)) comma.same comma.leads refl refl;
  params = λ qs t. one_turned (λ rs. PlacedFront false Commas (retold_covers (c ∷ [])) rs a y) t (λ q i. front_more plain_commas front_none (param_placed l i) comma.same comma.leads refl refl);
  closed = λ qs t. one_turned (λ rs. IsPlacedListAs false Commas (tales (retold_covers (c ∷ []))) (forest rs) a y) t (λ q i. front_last plain_commas front_none (param_placed l i) comma.same (takes_trailing comma) refl refl);
})

pub covers_next : {c : Cover} {cs ds : List Cover} {a y z w : Here} → PlacedCovers cs a y → IsPlacedCover c y z → Takes (pun ",") z w → ds ≡ cs ++ c ∷ [] → PlacedCovers ds a w
covers_next {c} {cs} {ds} {a} {y} {z} {w} p l comma e = subst (λ es. PlacedCovers es a w) (sym e) (record {
  first = p.first;
  others = p.others ++ c ∷ [];
  is = ap (λ es. es ++ c ∷ []) p.is;
  begins = λ h. p.begins (all_front cs c h);
  exprs = λ h. front_more plain_two (p.exprs (all_front cs c h)) (l.expr (last_is cs c h)) comma.same comma.leads (map_pushed told_cover cs (cs ++ c ∷ []) c (told_cover c) refl refl) (map_pushed view_cover cs (cs ++ c ∷ []) c (view_cover c) refl refl);
  params = λ qs t. let r = last_turned cs t in front_more plain_commas (p.params r.front r.turned) (param_placed l r.last) comma.same comma.leads (map_pushed retold_cover cs (cs ++ c ∷ []) c (retold_cover c) refl refl) r.is;
  closed = λ qs t. let r = last_turned cs t in front_last plain_commas (p.params r.front r.turned) (param_placed l r.last) comma.same (takes_trailing comma) (map_pushed retold_cover cs (cs ++ c ∷ []) c (retold_cover c) refl refl) r.is;
})

-- ---- the parameters, with the `)`

close_lost : {y b : Here} → Takes (pun ")") y b → forth (pun ",") (place_of y) ≡ Lost
close_lost {y} m = (close_stuck {y = place_of y} (subst (λ p. IsTrue (is_found p)) (sym m.leads) refl)).is

listed_front : (ds : List Told) {ps : Forest} {a y b : Here} → IsPlacedListAs false Commas (tales ds) ps a y → Takes (pun ")") y b → IsPlacedFront params_symbols (told_list ds) (list ps) a b
listed_front ds l close = record { on = λ ps ds ts z r. row_list l (row_sign close r) }

as_list : {ds es : List Told} (qs : List Tree) {ps : Forest} {a y : Here} → es ≡ ds → ps ≡ forest qs → IsPlacedListAs false Commas (tales ds) (forest qs) a y → IsPlacedListAs false Commas (tales es) ps a y
as_list {ds} {es} qs {ps} {a} {y} e f l = subst (λ gs. IsPlacedListAs false Commas (tales gs) ps a y) (sym e) (subst (λ us. IsPlacedListAs false Commas (tales ds) us a y) (sym f) l)

-- of one cover
pub one_front : {c : Cover} {q : Tree} {a z b : Here} → IsPlacedCover c a z → IsParameter c q → Takes (pun ")") z b → IsPlacedFront params_symbols (told_list (retold_cover c ∷ [])) (list (part q none)) a b
one_front {c} {q} {z = z} l i close = listed_front (retold_cover c ∷ []) (as_list {ds = retold_cover c ∷ []} (q ∷ []) refl refl (front_last plain_commas front_none (param_placed l i) refl (no_trailing (place_of z) (close_lost close)) refl refl)) close

-- a comma at the end
pub trailing_placed : {a y : Here} (q : Group) → PlacedCovers q.all.items a y → q.rest ≡ None → q.trails ≡ true → PlacedGroup q a y
trailing_placed {a} {y} q p r n = record {
  sequence = λ h at s. absurd (true_false (sym h ∙ trails_unread q n));
  params = λ ps b t close.
      let l = turned_list [] (ap view_rest r) t in
      listed_front (told_group q) (as_list (l.trees) (ap (λ o. retold_covers q.all.items ++ told_rest o) r ∙ append-nil (retold_covers q.all.items)) (l.is ∙ ap forest (append-nil l.trees)) (p.closed l.trees l.turned)) close;
}
  where
    true_false : true ≡ false → ⊥
    true_false e = cc

-- a rest at the end
pub rest_placed : {a y z : Here} (q : Group) (t : Box Pat Global) → PlacedCovers q.all.items a y → IsPlaced (told_pat t.value) (view_pat t.value) y z → q.rest ≡ Some t → PlacedGroup q a z
rest_placed {a} {y} {z} q t p m r = record {
  sequence = λ h at s. absurd (true_false (sym h ∙ rest_unread q (ap has_rest r)));
  params = λ ps b k close.
      let l = turned_list (view_pat t.value ∷ []) (ap view_rest r) k in
      listed_front (told_group q) (as_list (l.trees ++ view_pat t.value ∷ []) (ap (λ o. retold_covers q.all.items ++ told_rest o) r) l.is (front_last plain_commas (p.params l.trees l.turned) m refl (no_trailing (place_of z) (close_lost close)) refl refl)) close;
}
  where
    true_false : true ≡ false → ⊥
    true_false e = cc

-- a cover at the end
pub last_placed : {c : Cover} {cs : List Cover} {a y z : Here} (q : Group) → PlacedCovers cs a y → IsPlacedCover c y z → q.all.items ≡ cs ++ c ∷ [] → q.rest ≡ None → PlacedGroup q a z
last_placed {c} {cs} {a} {y} {z} q p l e r = record {
  sequence = λ h at s.
      let b : are_exprs (cs ++ c ∷ []) ≡ true = sym (ap are_exprs e) ∙ and_left (are_exprs q.all.items) _ h in
      subst (λ es. IsPlaced (told_node at (told_list (told_covers es) ∷ [])) (node (expression Seq) (part (list (forest (map view_cover es))) none)) a z) (sym e)
      (sequence_row (view_cover c) (record { first = view_cover p.first; rest = map view_cover p.others; is = ap (map view_cover) p.is; begins = p.begins (all_front cs c b) }) (map_pushed view_cover cs (cs ++ c ∷ []) c (view_cover c) refl refl)
      (front_last plain_two (p.exprs (all_front cs c b)) (l.expr (last_is cs c b)) refl refl (map_pushed told_cover cs (cs ++ c ∷ []) c (told_cover c) refl refl) (map_pushed view_cover cs (cs ++ c ∷ []) c (view_cover c) refl refl)) s);
  params = λ ps b k close.
      let m = turned_list [] (ap view_rest r) (subst (λ es. TurnCovers es (view_rest q.rest) ps) e k) in
      let f = last_turned cs m.turned in
      listed_front (told_group q) (as_list (m.trees) (ap (λ o. retold_covers q.all.items ++ told_rest o) r ∙ (append-nil (retold_covers q.all.items) ∙ ap retold_covers e)) (m.is ∙ ap forest (append-nil m.trees))
      (front_last plain_commas (p.params f.front f.turned) (param_placed l f.last) refl (no_trailing (place_of z) (close_lost close)) (map_pushed retold_cover cs (cs ++ c ∷ []) c (retold_cover c) refl refl) f.is)) close;
}

-- the parameters that they turn into
pub one_param_front : {c : Cover} {p : Box Pat Global} {xs : List (Box Pat Global)} {a z b : Here} → xs ≡ p ∷ [] → told_pat p.value ≡ retold_cover c → IsPlacedCover c a z → IsParameter c (view_pat p.value) → Takes (pun ")") z b
    → IsPlacedFront params_symbols (told_list (map (inside told_pat) xs)) (list (forest (map (inside view_pat) xs))) a b
one_param_front {c} {p} {a = a} {b = b} e t l i close =
    subst (λ ys. IsPlacedFront params_symbols (told_list (map (inside told_pat) ys)) (list (forest (map (inside view_pat) ys))) a b) (sym e)
    (subst (λ d. IsPlacedFront params_symbols (told_list (d ∷ [])) (list (part (view_pat p.value) none)) a b) (sym t) (one_front l i close))

-- ---- from and to equal places

pub front_from : {ss : Production} {d : Told} {t : Tree} {x x' y : Here} → x' ≡ x → IsPlacedFront ss d t x' y → IsPlacedFront ss d t x y
front_from {ss} {d} {t} {y = y} e l = subst (λ h. IsPlacedFront ss d t h y) e l

pub cover_from : {c : Cover} {x x' y : Here} → x' ≡ x → IsPlacedCover c x' y → IsPlacedCover c x y
cover_from {c} {y = y} e l = subst (λ h. IsPlacedCover c h y) e l

pub cover_to : {c : Cover} {x y y' : Here} → y' ≡ y → IsPlacedCover c x y → IsPlacedCover c x y'
cover_to {c} {x} e l = subst (λ h. IsPlacedCover c x h) (sym e) l

pub takes_to : {s : Sign} {x y y' : Here} → y' ≡ y → Takes s x y → Takes s x y'
takes_to {s} {x} e l = subst (λ h. Takes s x h) (sym e) l

pub as_told : {ds es : List Told} {t : Tree} {x y : Here} → ds ≡ es → IsPlacedFront params_symbols (told_list es) t x y → IsPlacedFront params_symbols (told_list ds) t x y
as_told {t = t} {x} {y} e l = subst (λ gs. IsPlacedFront params_symbols (told_list gs) t x y) (sym e) l

-- ---- as the loop reads them, wherever the first was read from

pub record PlacedFrom (first : Cover) (x : Here) (cs : List Cover) (y : Here) : Type 0 where
  pub on : (a z : Here) → IsPlacedCover first a z → Takes (pun ",") z x → PlacedCovers cs a y

pub covers_to : {cs : List Cover} {a y y' : Here} → y' ≡ y → PlacedCovers cs a y → PlacedCovers cs a y'
covers_to {cs} {a} e p = subst (λ h. PlacedCovers cs a h) (sym e) p
