-- What stands behind the parameters of an arrow function: `=>`, and a value or a block (ECMA-262 section 15.3).
use Rattle.std.proofs.Common.{◌≡◌, nat_eq, Bool, true, false, cond, not, List, [], ◌∷◌, ◌++◌, refl, sym, ◌∙◌, ap, subst}
use Rattle.std.specs.Prelude.{IsTrue, codes, ◌||◌, ◌&&◌}
use Rattle.jsx_base.specs.Token.{breaks}
use Rattle.jsx_tree.specs.Signs.{AfterBlock, AfterExpr, Ends, SameLine, Sign, Unless}
use Rattle.jsx_tree.specs.Kinds.{FunctionBody, program, Tree, leaf, node, list, Forest, none, part}
use Rattle.jsx_tree.specs.Nonterminals.{Expr}
use Rattle.jsx_tree.specs.Grammar.{InArrow, Fixed, Part, pun}
use Rattle.jsx_tree.specs.Reading.{Place, Lost, At, forth, go_if}
use Rattle.jsx_tree.specs.StaticRules.{Surroundings, all_of, enter, has_plain_params, is_strict_body, is_word}
use Rattle.jsx_tree.specs.Walk.{is_found, nothing, one, Given, Piece, piece, Past, sign, tree, Walk, done, next, steady}
use Rattle.jsx_tree.specs.Language.{Whole}
use Rattle.jsx_tree.specs.Answers.{Moves, Missed, Stuck, Only, Barred, OnlyRow, NoRow}
use Rattle.jsx_tree.specs.Faults.{Fault, Unread, Shallow, deepest, given_depth}
use Rattle.jsx_tree.proofs.Apart.{clash}
use Rattle.jsx_tree.proofs.Rows.Bridge.{found_at}
use Rattle.jsx_tree.proofs.Rows.Laws.{start_found, end_found}
use Rattle.jsx_tree.proofs.Rows.Stopping.{stays}
use Rattle.jsx_tree.proofs.Rows.Steps.{bar, end as ended, no_sign, on, only_sign, then', then_row}
use Rattle.jsx_tree.proofs.Rows.Turns.{whole_of}
use Rattle.jsx_tree.proofs.Depth.Shallow.{shallow_first, shallow_alone}
use Rattle.jsx_token.specs.Growths.{closed, settled}
use Rattle.jsx_token.specs.Here.{Here, place_of}
use Rattle.jsx_operand.specs.SoFar.{Staged, so_far}
use Rattle.jsx_operand.specs.Bodies.{body_row, view_body}
use Rattle.jsx_operand.proofs.Bodies.{body_ended}
use Rattle.jsx_operand.proofs.Entering.{deeper, enters_deeper, row_out, walk_in}
use Rattle.jsx_operand.proofs.OfSoFar.{of_so_far}
use Rattle.jsx_expression.specs.Arrows.{NoArrowBody, NoArrowEnd, NoEnd, OnlyArrowEnd, OnlyEnd, end_row, inner_row, is_block, view_end}
use Rattle.jsx_expression.specs.declared.arrow.ArrowBody.{ArrowBody}
use Rattle.jsx_expression.specs.declared.arrow.ArrowBody.TheVariants as end
use Rattle.jsx_expression.proofs.Braces.{brace_unless, unless_brace}

-- ---- signs, in any surroundings

pub moves_of : {v : Surroundings} {s : Sign} {x y : Place} → Only so_far v (Fixed s) x nothing y → Moves s x y
moves_of {s = s} {x} {y} o = at o.past
  where
    at : {v : Surroundings} → Past (Whole so_far) v (Fixed s) x nothing y → Moves s x y
    at (sign e f) = record { is = sym e; found = f }

barred_in : {v w : Surroundings} {s : Sign} {x : Place} {o : Fault} → Barred so_far v (Fixed s) x o → Barred so_far w (Fixed s) x o
barred_in {v} {w} {s} {x} {o = o} b = record { no = at }
  where
    at : (g : Given) (y : Place) → Past (Whole so_far) w (Fixed s) x g y → Shallow o (given_depth g) → ⊥
    at g y (sign e f) h = b.no nothing y (sign e f) h

-- ---- behind the `=>`, in what the function does

abbrev block_rest : List Piece
block_rest = body_row ++ piece [] (Fixed (Ends AfterBlock)) ∷ []

-- the rows as the function has them
abbrev outer_row : Bool → List Piece
outer_row c = deeper (InArrow ∷ []) (inner_row c)

-- no block stands where no `{` does, and no value where one does
no_block : {w : Surroundings} {x : Place} {e : Fault} → Stuck (pun "{") x → NoRow so_far w (inner_row true) x e
no_block n = bar (no_sign n)

no_value : {w : Surroundings} {x a : Place} {e : Fault} → Moves (pun "{") x a → NoRow so_far w (inner_row false) x e
no_value {x = x} m = bar (no_sign (record { is = brace_unless x (found_at (sym m.is) m.found) }))

pub value_only : {w : Surroundings} {x x' y : Place} {t : Tree} → Missed (pun "{") x x' → Only so_far w (Part (Expr 1)) x' (one t) y → OnlyRow so_far w (inner_row false) x (part t none) y
value_only {w} {x} {x'} {y} {t} m o = then' guard (then' here (ended (end_found of_so_far (whole_of here.past).reads)))
  where
    here : Only so_far w (Part (Expr 1)) x (one t) y
    here = subst (λ p. Only so_far w (Part (Expr 1)) p (one t) y) (sym m.same) o

    guard : Only so_far w (Fixed (Unless (codes "{" ∷ []))) x nothing x
    guard = let f = start_found of_so_far (whole_of here.past).reads in only_sign (record { is = sym (unless_brace x m.stuck.is f); found = f })

pub value_unblocked : {w : Surroundings} {x x' : Place} {e : Fault} → Missed (pun "{") x x' → NoRow so_far w (inner_row true) x e
value_unblocked m = no_block m.stuck

-- a guard that holds leaves the place as it is
behind_guard : {w : Surroundings} {x z : Place} {us : Forest} {o : Fault} → Barred so_far w (Part (Expr 1)) x o → Walk (Whole so_far) (steady w) (inner_row false) x us z → Shallow o (deepest us) → ⊥
behind_guard {w} {x} {o = o} b (next {y = p} (sign e f) (next {y = z'} {ts = us'} (tree {t = t} q) r)) s =
    let there : p ≡ x = sym e ∙ stays (Unless (codes "{" ∷ [])) x refl (found_at e f) in
    b.no (one t) z' (tree (subst (λ y. Whole so_far w false (Expr 1) y t z') there q)) (shallow_first o (one t) us' s)

pub no_inner_value : {w : Surroundings} {x x' : Place} {e : Fault} → Missed (pun "{") x x' → Barred so_far w (Part (Expr 1)) x' e → NoArrowBody w x e
no_inner_value {w} {x} {e = e} m b = record { no = at }
  where
    here : Barred so_far w (Part (Expr 1)) x e
    here = subst (λ p. Barred so_far w (Part (Expr 1)) p e) (sym m.same) b

    at : (c : Bool) → NoRow so_far w (inner_row c) x e
    at true = no_block m.stuck
    at false = record { no = λ us z walk. behind_guard here walk }

-- the block, with what a missing semicolon would stand behind
settled_found : (y : Place) → settled y ≡ true → IsTrue (is_found (forth (Ends AfterBlock) y))
settled_found Lost s = cc
settled_found (At q e text) s = refl

ended_so : (y : Place) → settled y ≡ true → closed (forth (Ends AfterBlock) y) ≡ true
ended_so Lost s = cc
ended_so (At q AfterExpr text) s = s
ended_so (At q _ text) s = cc

pub block_ended : {w : Surroundings} {x y z : Place} {ts : Forest} → OnlyRow so_far w body_row x ts y → z ≡ forth (Ends AfterBlock) y → closed z ≡ true
block_ended {y = y} o e = subst (λ p. closed p ≡ true) (sym e) (ended_so y (body_ended o))

pub block_only : {w : Surroundings} {x a y z : Place} {t : Tree} → Moves (pun "{") x a → OnlyRow so_far w body_row a (part t none) y → settled y ≡ true → z ≡ forth (Ends AfterBlock) y → OnlyRow so_far w (inner_row true) x (part t none) z
block_only {w} {x} {a} {y} {z} {t} m o s e = then' (only_sign m) (then_row of_so_far body_row o (then' (only_sign ends) (ended ends.found)))
  where
    ends : Moves (Ends AfterBlock) y z
    ends = record { is = e; found = subst (λ p. IsTrue (is_found p)) (sym e) (settled_found y s) }

pub block_unvalued : {w : Surroundings} {x a : Place} {e : Fault} → Moves (pun "{") x a → NoRow so_far w (inner_row false) x e
block_unvalued m = no_value m

behind_no_body : {w : Surroundings} {x z : Place} {us : Forest} {o : Fault} → NoRow so_far w body_row x o → Walk (Whole so_far) (steady w) block_rest x us z → Shallow o (deepest us) → ⊥
behind_no_body {o = o} n (next {g = g} {ts = vs} q (next (sign e f) r)) s = n.no _ _ (next q (next (sign e f) (done f))) (shallow_alone o g (shallow_first o g vs s))

pub no_inner_block : {w : Surroundings} {x a : Place} {e : Fault} → Moves (pun "{") x a → NoRow so_far w body_row a e → NoArrowBody w x e
no_inner_block {w} {x} {a} {e = e} m n = record { no = at }
  where
    unread : NoRow so_far w block_rest a e
    unread = record { no = λ us z walk. behind_no_body n walk }

    at : (c : Bool) → NoRow so_far w (inner_row c) x e
    at true = on (only_sign m) unread
    at false = no_value m

-- ---- with the `=>`, in what is outside of the function

row_none_out : {w v : Surroundings} {x : Place} {o : Fault} (c : Bool) → w ≡ enter none InArrow v → NoRow so_far w (inner_row c) x o → NoRow so_far v (outer_row c) x o
row_none_out {w} {v} {x} {o = o} c e n = record { no = λ us z walk s. inner.no us z (at c walk) s }
  where
    inner : NoRow so_far (enter none InArrow v) (inner_row c) x o
    inner = subst (λ u. NoRow so_far u (inner_row c) x o) e n

    at : {us : Forest} {z : Place} (b : Bool) → Walk (Whole so_far) (steady v) (outer_row b) x us z → Walk (Whole so_far) (steady (enter none InArrow v)) (inner_row b) x us z
    at true walk = walk_in {V = steady v} {W = steady (enter none InArrow v)} (InArrow ∷ []) (λ a. enters_deeper none a (InArrow ∷ []) v) (inner_row true) walk
    at false walk = walk_in {V = steady v} {W = steady (enter none InArrow v)} (InArrow ∷ []) (λ a. enters_deeper none a (InArrow ∷ []) v) (inner_row false) walk

row_only_out : {w v : Surroundings} {x y : Place} {ts : Forest} (c : Bool) → w ≡ enter none InArrow v → OnlyRow so_far w (inner_row c) x ts y → OnlyRow so_far v (outer_row c) x ts y
row_only_out {w} {v} {x} {y} {ts} true e o = row_out (InArrow ∷ []) v (inner_row true) (subst (λ u. OnlyRow so_far u (inner_row true) x ts y) e o)
row_only_out {w} {v} {x} {y} {ts} false e o = row_out (InArrow ∷ []) v (inner_row false) (subst (λ u. OnlyRow so_far u (inner_row false) x ts y) e o)

-- the `=>` stands on the line of what is before it
pub on_line : (h : Here) → not (breaks h.rest) ≡ true → Moves SameLine (place_of h) (place_of h)
on_line h n = record { is = sym (ap (λ b. go_if b (place_of h)) n); found = refl }

pub off_line : (h : Here) → not (breaks h.rest) ≡ false → Stuck SameLine (place_of h)
off_line h n = record { is = ap (λ b. go_if b (place_of h)) n }

from_line : {v : Surroundings} {x y : Place} {ts : Forest} (c : Bool) → Moves SameLine x x → Moves (pun "=>") x y → {z : Place} → OnlyRow so_far v (outer_row c) y ts z → OnlyRow so_far v (end_row c) x ts z
from_line true l m o = then' (only_sign l) (then' (only_sign m) o)
from_line false l m o = then' (only_sign l) (then' (only_sign m) o)

none_from_line : {v : Surroundings} {x y : Place} {e : Fault} (c : Bool) → Moves SameLine x x → Moves (pun "=>") x y → NoRow so_far v (outer_row c) y e → NoRow so_far v (end_row c) x e
none_from_line true l m n = on (only_sign l) (on (only_sign m) n)
none_from_line false l m n = on (only_sign l) (on (only_sign m) n)

pub end_only : {v w : Surroundings} {x y z : Place} {t : Tree} (c : Bool) → w ≡ enter none InArrow v → Moves SameLine x x → Moves (pun "=>") x y → OnlyRow so_far w (inner_row c) y (part t none) z → NoRow so_far w (inner_row (not c)) y Unread → OnlyEnd v c t x z
end_only c e l m o n = record { only = from_line c l m (row_only_out c e o); other = none_from_line (not c) l m (row_none_out (not c) e n) }

pub end_off_line : {v : Surroundings} {x : Place} {e : Fault} → Stuck SameLine x → NoEnd v x e
end_off_line {v} {x} {e = e} n = record { no = at }
  where
    at : (c : Bool) → NoRow so_far v (end_row c) x e
    at true = bar (no_sign n)
    at false = bar (no_sign n)

pub end_no_arrow : {v w : Surroundings} {x : Place} {e : Fault} → Moves SameLine x x → Barred so_far w (Fixed (pun "=>")) x e → NoEnd v x e
end_no_arrow {v} {w} {x} {e = e} l b = record { no = at }
  where
    at : (c : Bool) → NoRow so_far v (end_row c) x e
    at true = on (only_sign l) (bar (barred_in b))
    at false = on (only_sign l) (bar (barred_in b))

pub end_no_body : {v w : Surroundings} {x y : Place} {o : Fault} → w ≡ enter none InArrow v → Moves SameLine x x → Moves (pun "=>") x y → NoArrowBody w y o → NoEnd v x o
end_no_body e l m n = record { no = λ c. none_from_line c l m (row_none_out c e (n.no c)) }

-- ---- the rule on parameters

no_body : {v : Surroundings} {x y : Place} (t : Tree) → Staged v false (Expr 1) x t y → is_strict_body t ≡ false
no_body (leaf k s) r = refl
no_body (list ts) r = refl
no_body (node (program FunctionBody) ts) r = let bad = r.reads.is in cc
no_body (node _ ts) r = refl

plain_value : (s b : Bool) → s ≡ false → (nat_eq (cond s 1 0) 0 || b) ≡ true
plain_value true b e = cc
plain_value false b e = refl

-- before a value any parameters may stand
pub value_plain : {v : Surroundings} {x y : Place} {t : Tree} (ps : Forest) → OnlyEnd v false t x y → has_plain_params (part (list ps) (part t none)) ≡ true
value_plain {v} {x} {y} {t} ps o = at o.only.walk
  where
    at : {us : Forest} → Walk (Whole so_far) (steady v) (end_row false) x us y → has_plain_params (part (list ps) us) ≡ true
    at (next (sign d e) (next (sign f g) (next (sign h i) (next (tree {t = u} q) (done r))))) = plain_value (is_strict_body u) _ (no_body u q.reads)

pub no_end : {v : Surroundings} {x : Place} {e : Fault} (ps : Forest) → NoEnd v x e → NoArrowEnd v ps x e
no_end ps n = record { no = λ c ts y walk h s. (n.no c).no ts y walk s }

by_strict : (s w : Bool) → (nat_eq (cond s 1 0) 0 || (w && true)) ≡ (w || not s)
by_strict true true = refl
by_strict true false = refl
by_strict false true = refl
by_strict false false = refl

-- a strict block wants plain ones
pub agreed_plain : {v : Surroundings} {x y : Place} {s r : Bool} (ps : Forest) (b : ArrowBody) → s ≡ all_of is_word ps → r ≡ (not (is_block b) || (s || not (is_strict_body (view_end b)))) → r ≡ true → OnlyArrowEnd v b x y → has_plain_params (part (list ps) (part (view_end b) none)) ≡ true
agreed_plain ps (end.Block b) e f g o = by_strict (is_strict_body (view_body b)) (all_of is_word ps) ∙ (ap (λ w. w || not (is_strict_body (view_body b))) (sym e) ∙ (sym f ∙ g))
agreed_plain ps (end.Value a) e f g o = value_plain ps o

unplain_block : {v : Surroundings} {x y : Place} {t : Tree} {e : Fault} (ps : Forest) → OnlyEnd v true t x y → has_plain_params (part (list ps) (part t none)) ≡ false → NoArrowEnd v ps x e
unplain_block {v} {x} {y} {t} {e = e} ps o h = record { no = at }
  where
    at : (c : Bool) (ts : Forest) (z : Place) → Walk (Whole so_far) (steady v) (end_row c) x ts z → has_plain_params (part (list ps) ts) ≡ true → Shallow e (deepest ts) → ⊥
    at true ts z walk k s = clash _ k (ap (λ us. has_plain_params (part (list ps) us)) (sym (o.only.alone ts z walk).0) ∙ h)
    at false ts z walk k s = o.other.no ts z walk tt

pub unagreed : {v : Surroundings} {x y : Place} {s r : Bool} {d : Fault} (ps : Forest) (b : ArrowBody) → s ≡ all_of is_word ps → r ≡ (not (is_block b) || (s || not (is_strict_body (view_end b)))) → r ≡ false → OnlyArrowEnd v b x y → NoArrowEnd v ps x d
unagreed ps (end.Block b) e f g o = unplain_block ps o (by_strict (is_strict_body (view_body b)) (all_of is_word ps) ∙ (ap (λ w. w || not (is_strict_body (view_body b))) (sym e) ∙ (sym f ∙ g)))
unagreed {r = r} ps (end.Value a) e f g o = absurd (clash r f g)
