-- A pattern with a default or without one, where both may stand: among parameters, in an array's pattern, and as the value of a property (ECMA-262 sections 14.3.3 and 15.1). One without a default is read too before what goes on with an expression, so it is what stands behind that tells.
use Rattle.std.proofs.Common.{◌≡◌, Bool, List, [], ◌∷◌, true, false, refl, sym, ◌∙◌, ap, subst, ◌≤◌, suc, arith}
use Rattle.std.specs.Prelude.{IsTrue, codes}
use Rattle.jsx_base.specs.Token.{Text, TokenKind, Operator, Punctuator, IdentifierName, Elision, same}
use Rattle.jsx_tree.specs.Signs.{Sign, Tok}
use Rattle.jsx_tree.specs.Kinds.{ArrayPat, Assign, Binds, Kind, ObjectPat, RestPat, WithInit, expression, function, Tree, leaf, node, list, Forest, none, part}
use Rattle.jsx_tree.specs.Nonterminals.{Nonterminal, Expr, Param, Pat, PatElement, SetterParam, Slot, leaf_in}
use Rattle.jsx_tree.specs.Grammar.{Part, pun}
use Rattle.jsx_tree.specs.Form.{admits, is_leaf, fits_below}
use Rattle.jsx_tree.specs.Reading.{Place, Lost, At, forth}
use Rattle.jsx_tree.specs.StaticRules.{Surroundings}
use Rattle.jsx_tree.specs.Walk.{is_found, one, Piece, sign, tree, Walk, next, steady}
use Rattle.jsx_tree.specs.Language.{Whole}
use Rattle.jsx_tree.specs.Answers.{Moves, Stuck, Missed, Only, Barred, OnlyRow}
use Rattle.jsx_tree.specs.Faults.{Fault, Shallow, part_depth, deepest, outer}
use Rattle.jsx_tree.proofs.Tokens.{and_both, and_left, and_right}
use Rattle.jsx_tree.proofs.Apart.{clash}
use Rattle.jsx_tree.proofs.Rows.Bridge.{found_at}
use Rattle.jsx_tree.proofs.Rows.Firsts.{kind_home}
use Rattle.jsx_tree.proofs.Rows.Guarded.{whole_walk, loosen, to_grammar}
use Rattle.jsx_tree.proofs.Rows.Bodies.{plain as plain_row}
use Rattle.jsx_tree.proofs.Rows.Laws.{end_found}
use Rattle.jsx_tree.proofs.Rows.Placing.{free_around, moved, flat_shallow, node_shallow}
use Rattle.jsx_tree.proofs.Rows.Steps.{end, only_sign, then'}
use Rattle.jsx_tree.proofs.Rows.Turns.{item_of, whole_of}
use Rattle.jsx_tree.proofs.Depth.Shallow.{shallow_first, shallow_rest, shallow_up}
use Rattle.jsx_tree.proofs.Depth.Nodes.{depth_told}
use Rattle.jsx_operand.proofs.Outgrown.{outgrown_deep}
use Rattle.jsx_operand.specs.Outgrown.{Outgrown}
use Rattle.jsx_operand.specs.Patterns.{is_rest}
use Rattle.jsx_operand.specs.SoFar.{Staged, so_far}
use Rattle.jsx_token.specs.Growths.{on_line, rung, settled}
use Rattle.jsx_token.specs.Marks.{ends_so_far, row_so_far}
use Rattle.jsx_token.proofs.Listed.{listed}
use Rattle.jsx_operand.proofs.OfSoFar.{of_so_far}
use Rattle.jsx_operand.proofs.Standing.{standing}
use Rattle.jsx_operand.proofs.Homes.{IsName, Taken, taken_by, home_of, no_list}
use Rattle.jsx_operand.proofs.Values.{leaf_to, led_sign}
use Rattle.jsx_operand.proofs.Climbing.{mark_goes}
use Rattle.jsx_operand.proofs.Patterns.{AtPattern, named, array, object, at_pattern, pattern_settled, pattern_unmarked, pattern_whole}
use Rattle.jsx_function.specs.Elements.{is_hole}
use Rattle.jsx_function.specs.Patterns.{IsElement, NoElement, OnlyFilled, takes_default}

stuck_not : {s : Sign} {x : Place} → Stuck s x → IsTrue (is_found (forth s x)) → ⊥
stuck_not k f = let bad : IsTrue (is_found Lost) = subst (λ p. IsTrue (is_found p)) k.is f in cc

abbrev pub value_row : List Piece
value_row = row_so_far (function (WithInit Binds))

abbrev pub rest_row : List Piece
rest_row = row_so_far (function (RestPat Binds))

-- ---- what stands there

pub data AtDefault (v : Surroundings) (x y : Place) : Tree → Type 0 where
  pattern : {t : Tree} → Staged v false (Pat Binds) x t y → AtDefault v x y t
  valued : {ts : Forest} → AtDefault v x y (node (function (WithInit Binds)) ts)
  rest : {ts : Forest} → AtDefault v x y (node (function (RestPat Binds)) ts)
  hole : {t : Text} → AtDefault v x y (leaf Elision t)

abbrev is_default_kind : Kind → Bool
is_default_kind (function (ArrayPat Binds)) = true
is_default_kind (function (ObjectPat Binds)) = true
is_default_kind (function (WithInit Binds)) = true
is_default_kind (function (RestPat Binds)) = true
is_default_kind k = false

place_kind : (c : Nonterminal) (k : Kind) (ts : Forest) → takes_default c ≡ true → Taken k → admits c (node k ts) ≡ true → is_default_kind k ≡ true
place_kind Param k ts h t a = standing Param is_default_kind refl k t (kind_home Param k ts a)
place_kind (PatElement Binds) k ts h t a = standing (PatElement Binds) is_default_kind refl k t (kind_home (PatElement Binds) k ts a)
place_kind (Slot Binds) k ts h t a = standing (Slot Binds) is_default_kind refl k t (kind_home (Slot Binds) k ts a)
place_kind SetterParam k ts h t a = standing SetterParam is_default_kind refl k t (kind_home SetterParam k ts a)
place_kind _ k ts h t a = cc

node_default : {v : Surroundings} {c : Nonterminal} {x y : Place} (k : Kind) (ts : Forest) → is_default_kind k ≡ true → Staged v false c x (node k ts) y → AtDefault v x y (node k ts)
node_default (function (ArrayPat Binds)) ts h r = pattern (of_so_far.to_node (function (ArrayPat Binds)) refl (of_so_far.from_node (function (ArrayPat Binds)) r))
node_default (function (ObjectPat Binds)) ts h r = pattern (of_so_far.to_node (function (ObjectPat Binds)) refl (of_so_far.from_node (function (ObjectPat Binds)) r))
node_default (function (WithInit Binds)) ts h r = valued
node_default (function (RestPat Binds)) ts h r = rest
node_default _ ts h r = cc

leaf_default : {v : Surroundings} {x y : Place} (c : Nonterminal) (k : TokenKind) (t : Text) → takes_default c ≡ true → Staged v false c x (leaf k t) y → AtDefault v x y (leaf k t)
leaf_default Param IdentifierName t h r = pattern (leaf_to (Pat Binds) IsName (and_left (leaf_in Param IdentifierName t) (is_leaf IdentifierName t) r.reads.is) refl r)
leaf_default (PatElement Binds) IdentifierName t h r = pattern (leaf_to (Pat Binds) IsName (and_left (leaf_in (PatElement Binds) IdentifierName t) (is_leaf IdentifierName t) r.reads.is) refl r)
leaf_default (Slot Binds) IdentifierName t h r = pattern (leaf_to (Pat Binds) IsName (and_left (leaf_in (Slot Binds) IdentifierName t) (is_leaf IdentifierName t) r.reads.is) refl r)
leaf_default (Slot Binds) Elision t h r = hole
leaf_default SetterParam IdentifierName t h r = pattern (leaf_to (Pat Binds) IsName (and_left (leaf_in SetterParam IdentifierName t) (is_leaf IdentifierName t) r.reads.is) refl r)
leaf_default Param _ t h r = let bad = r.staged in cc
leaf_default (PatElement Binds) _ t h r = let bad = r.staged in cc
leaf_default (Slot Binds) _ t h r = let bad = r.staged in cc
leaf_default SetterParam _ t h r = let bad = r.staged in cc
leaf_default _ k t h r = cc

pub at_default : {v : Surroundings} {x y : Place} (c : Nonterminal) (t : Tree) → takes_default c ≡ true → Staged v false c x t y → AtDefault v x y t
at_default c (leaf k t) h r = leaf_default c k t h r
at_default c (node k ts) h r = node_default k ts (place_kind c k ts h (taken_by r) (home_of r)) r
at_default c (list ts) h r = absurd (no_list r)

-- ---- a pattern, there too

named_there : {v : Surroundings} {x y : Place} {t : Text} (c : Nonterminal) → takes_default c ≡ true → Staged v false (Pat Binds) x (leaf IdentifierName t) y → Staged v false c x (leaf IdentifierName t) y
named_there {t = t} Param h r = leaf_to Param IsName (and_left (leaf_in (Pat Binds) IdentifierName t) (is_leaf IdentifierName t) r.reads.is) refl r
named_there {t = t} (PatElement Binds) h r = leaf_to (PatElement Binds) IsName (and_left (leaf_in (Pat Binds) IdentifierName t) (is_leaf IdentifierName t) r.reads.is) refl r
named_there {t = t} (Slot Binds) h r = leaf_to (Slot Binds) IsName (and_left (leaf_in (Pat Binds) IdentifierName t) (is_leaf IdentifierName t) r.reads.is) refl r
named_there {t = t} SetterParam h r = leaf_to SetterParam IsName (and_left (leaf_in (Pat Binds) IdentifierName t) (is_leaf IdentifierName t) r.reads.is) refl r
named_there _ h r = cc

array_home : (c : Nonterminal) (ts : Forest) → takes_default c ≡ true → admits c (node (function (ArrayPat Binds)) ts) ≡ true
array_home Param ts h = refl
array_home (PatElement Binds) ts h = refl
array_home (Slot Binds) ts h = refl
array_home SetterParam ts h = refl
array_home _ ts h = cc

object_home : (c : Nonterminal) (ts : Forest) → takes_default c ≡ true → admits c (node (function (ObjectPat Binds)) ts) ≡ true
object_home Param ts h = refl
object_home (PatElement Binds) ts h = refl
object_home (Slot Binds) ts h = refl
object_home SetterParam ts h = refl
object_home _ ts h = cc

value_home : (c : Nonterminal) (ts : Forest) → takes_default c ≡ true → admits c (node (function (WithInit Binds)) ts) ≡ true
value_home Param ts h = refl
value_home (PatElement Binds) ts h = refl
value_home (Slot Binds) ts h = refl
value_home SetterParam ts h = refl
value_home _ ts h = cc

pub pattern_there : {v : Surroundings} {x y : Place} (c : Nonterminal) (t : Tree) → takes_default c ≡ true → Staged v false (Pat Binds) x t y → Staged v false c x t y
pattern_there {v} {x} {y} c t h r = at (at_pattern t r) r
  where
    at : {u : Tree} → AtPattern u → Staged v false (Pat Binds) x u y → Staged v false c x u y
    at named q = named_there c h q
    at (array {ts}) q = of_so_far.to_node (function (ArrayPat Binds)) (array_home c ts h) (of_so_far.from_node (function (ArrayPat Binds)) q)
    at (object {ts}) q = of_so_far.to_node (function (ObjectPat Binds)) (object_home c ts h) (of_so_far.from_node (function (ObjectPat Binds)) q)

pattern_filled : {v : Surroundings} {x y : Place} (t : Tree) → Staged v false (Pat Binds) x t y → is_hole t ≡ false
pattern_filled {v} {x} {y} t r = at (at_pattern t r)
  where
    at : {u : Tree} → AtPattern u → is_hole u ≡ false
    at named = refl
    at array = refl
    at object = refl

-- ---- one with a default, along its row

pub value_whole : {v : Surroundings} {x z : Place} {ts : Forest} (c : Nonterminal) → takes_default c ≡ true → Whole so_far v false c x (node (function (WithInit Binds)) ts) z → Walk (Whole so_far) (steady v) value_row x ts z
value_whole {v} {ts = ts} Param h w = moved (λ a g. free_around a ts v g) refl (whole_walk of_so_far Param value_row refl w.ends_there (of_so_far.from_node (function (WithInit Binds)) w.reads).walk)
value_whole {v} {ts = ts} (PatElement Binds) h w = moved (λ a g. free_around a ts v g) refl (whole_walk of_so_far (PatElement Binds) value_row refl w.ends_there (of_so_far.from_node (function (WithInit Binds)) w.reads).walk)
value_whole {v} {ts = ts} (Slot Binds) h w = moved (λ a g. free_around a ts v g) refl (whole_walk of_so_far (Slot Binds) value_row refl w.ends_there (of_so_far.from_node (function (WithInit Binds)) w.reads).walk)
value_whole {v} {ts = ts} SetterParam h w = moved (λ a g. free_around a ts v g) refl (whole_walk of_so_far SetterParam value_row refl w.ends_there (of_so_far.from_node (function (WithInit Binds)) w.reads).walk)
value_whole _ h w = cc

pub rest_led : {v : Surroundings} {c : Nonterminal} {x z : Place} {ts : Forest} → Staged v false c x (node (function (RestPat Binds)) ts) z → IsTrue (is_found (forth (pun "...") x))
rest_led r = led_sign rest_row refl (of_so_far.from_node (function (RestPat Binds)) r).walk

-- before its default a pattern has not come to its end
default_ends : (c : Nonterminal) (y : Place) → takes_default c ≡ true → ends_so_far c y ≡ ends_so_far (Expr 1) y
default_ends Param Lost h = refl
default_ends Param (At q e text) h = refl
default_ends (PatElement Binds) Lost h = refl
default_ends (PatElement Binds) (At q e text) h = refl
default_ends (Slot Binds) Lost h = refl
default_ends (Slot Binds) (At q e text) h = refl
default_ends SetterParam Lost h = refl
default_ends SetterParam (At q e text) h = refl
default_ends _ y h = cc

value_on : (c : Nonterminal) (y : Place) → takes_default c ≡ true → settled y ≡ true → IsTrue (is_found (forth (pun "=") y)) → ends_so_far c y ≡ false
value_on c y h s f = default_ends c y h ∙ mark_goes (rung 1) (expression Assign) y refl (listed (expression Assign) refl refl refl) refl s (record { stays = λ o. absurd (clash (on_line (expression Assign)) o refl) }) f

-- no mark but the brackets stands where one with a default does
pub unled : {v : Surroundings} {x z : Place} {ts : Forest} (d : Text) → same (codes "[") d ≡ false → same (codes "{") d ≡ false → Walk (Whole so_far) (steady v) value_row x ts z → IsTrue (is_found (forth (Tok Operator Punctuator d) x)) → ⊥
unled d m n (next (tree {t = t} q) w) f = pattern_unmarked t d m n q.reads f

-- ---- one that was read without a default

pub bare_element : {v : Surroundings} {x y y' : Place} {t : Tree} → Only so_far v (Part (Pat Binds)) x (one t) y → Missed (pun "=") y y' → IsElement v x t y'
bare_element {v} {x} {y} {y'} {t} o k = record {
  on = λ c h. record {
    reads = subst (Staged v false c x t) k.same (pattern_there c t h (whole_of o.past).reads);
    filled = pattern_filled t (whole_of o.past).reads;
    alone = λ u z f w. at c h f (at_default c u h w.reads) w;
  };
}
  where
    unvalued : {us : Forest} {z : Place} → Walk (Whole so_far) (steady v) value_row x us z → ⊥
    unvalued (next q (next (sign e f) w)) = let s = o.alone _ _ q in stuck_not k.stuck (subst (λ p. IsTrue (is_found (forth (pun "=") p))) (sym s.1) (found_at e f))

    at : (c : Nonterminal) → takes_default c ≡ true → {u : Tree} {z : Place} → is_hole u ≡ false → AtDefault v x z u → Whole so_far v false c x u z → (t ≡ u) × (y' ≡ z)
    at c h {u} {z} f (pattern r) w = let e = o.alone (one u) z (tree (pattern_whole r)) in (ap item_of e.0, sym k.same ∙ e.1)
    at c h f valued w = absurd (unvalued (value_whole c h w))
    at c h f rest w = absurd (pattern_unmarked t (codes "...") refl refl (whole_of o.past).reads (rest_led w.reads))
    at c h f hole w = cc

pub no_pattern : {v : Surroundings} {x : Place} {e : Fault} → Barred so_far v (Part (Pat Binds)) x e → NoElement v x e
no_pattern {v} {x} {e = e} b = record { no = λ c h u z f g w s'. at c h f g (at_default c u h w.reads) w s' }
  where
    unvalued : {us : Forest} {z : Place} → Walk (Whole so_far) (steady v) value_row x us z → Shallow e (deepest us) → ⊥
    unvalued (next {g = g'} {ts = us'} q w) a = b.no _ _ q (shallow_first e g' us' a)

    at : (c : Nonterminal) → takes_default c ≡ true → {u : Tree} {z : Place} → is_hole u ≡ false → is_rest u ≡ false → AtDefault v x z u → Whole so_far v false c x u z → Shallow e (part_depth u) → ⊥
    at c h {u} {z} f g (pattern r) w s = b.no (one u) z (tree (pattern_whole r)) s
    at c h f g valued w s = unvalued (value_whole c h w) (flat_shallow e of_so_far w.reads s)
    at c h f g rest w s = cc
    at c h f g hole w s = cc

-- ---- one with its default

pub valued_element : {v : Surroundings} {x y a z : Place} {t e w : Tree} → Only so_far v (Part (Pat Binds)) x (one t) y → Moves (pun "=") y a → Only so_far v (Part (Expr 1)) a (one e) z → w ≡ node (function (WithInit Binds)) (part t (part e none)) → IsElement v x w z
valued_element {v} {x} {y} {a} {z} {t} {e} {w} o k value is = record {
  on = λ c h. record {
    reads = subst (λ u. Staged v false c x u z) (sym is) (of_so_far.to_node (function (WithInit Binds)) (value_home c _ h) (record { walk = loosen (moved (λ b g. sym (free_around b (part t (part e none)) v g)) refl row.walk); keeps = and_both _ _ (plain_row value_row refl (to_grammar of_so_far row.walk)) refl }));
    filled = ap is_hole is;
    alone = λ u p f q. at c h f (at_default c u h q.reads) q;
  };
}
  where
    row : OnlyRow so_far v value_row x (part t (part e none)) z
    row = then' o (then' (only_sign k) (then' value (end (end_found of_so_far (whole_of value.past).reads))))

    at : (c : Nonterminal) → takes_default c ≡ true → {u : Tree} {p : Place} → is_hole u ≡ false → AtDefault v x p u → Whole so_far v false c x u p → (w ≡ u) × (z ≡ p)
    at c h {u} {p} f (pattern r) q =
        let s = o.alone (one u) p (tree (pattern_whole r)) in
        absurd (clash _ (subst (λ b. ends_so_far c b ≡ true) (sym s.1) q.ends_there) (value_on c y h (pattern_settled t (whole_of o.past).reads) (found_at (sym k.is) k.found)))
    at c h {p = p} f (valued {ts = us}) q = let s = row.alone us p (value_whole c h q) in (is ∙ ap (node (function (WithInit Binds))) s.0, s.1)
    at c h f rest q = absurd (pattern_unmarked t (codes "...") refl refl (whole_of o.past).reads (rest_led q.reads))
    at c h f hole q = cc

pub no_default : {v : Surroundings} {x y a : Place} {t : Tree} {d : Fault} → Only so_far v (Part (Pat Binds)) x (one t) y → Moves (pun "=") y a → Barred so_far v (Part (Expr 1)) a d → NoElement v x (outer d)
no_default {v} {x} {y} {a} {t} {d = d} o k b = record { no = λ c h u p f g q h'. at c h f g (at_default c u h q.reads) q h' }
  where
    unvalued : {us : Forest} {z : Place} → Walk (Whole so_far) (steady v) value_row x us z → Shallow d (deepest us) → ⊥
    unvalued (next {g = g'} {ts = us'} q (next (sign e f) (next {g = h''} {ts = vs'} r w))) s' =
        let s = o.alone _ _ q in
        (subst (λ w. Barred so_far v (Part (Expr 1)) w d) (k.is ∙ (ap (forth (pun "=")) s.1 ∙ e)) b).no _ _ r (shallow_first d h'' vs' (shallow_rest d g' us' s'))

    at : (c : Nonterminal) → takes_default c ≡ true → {u : Tree} {p : Place} → is_hole u ≡ false → is_rest u ≡ false → AtDefault v x p u → Whole so_far v false c x u p → Shallow (outer d) (part_depth u) → ⊥
    at c h {u} {p} f g (pattern r) q a =
        let s = o.alone (one u) p (tree (pattern_whole r)) in
        clash _ (subst (λ b. ends_so_far c b ≡ true) (sym s.1) q.ends_there) (value_on c y h (pattern_settled t (whole_of o.past).reads) (found_at (sym k.is) k.found))
    at c h f g valued q a = unvalued (value_whole c h q) (node_shallow d true refl of_so_far q.reads a)
    at c h f g rest q a = cc
    at c h f g hole q a = cc

-- with a default behind it a pattern is one deeper, which is too deep
pub outgrown_element : {v : Surroundings} {x y a : Place} {t : Tree} {e : Fault} → Only so_far v (Part (Pat Binds)) x (one t) y → Moves (pun "=") y a → Outgrown t e → NoElement v x e
outgrown_element {v} {x} {y} {t = t} {e} o k b = record { no = λ c h u p f g q s. at c h f g (at_default c u h q.reads) q s }
  where
    formed : fits_below (Pat Binds) t ≡ true
    formed = and_right (admits (Pat Binds) t) (fits_below (Pat Binds) t) (whole_of o.past).reads.reads.is

    deeper : {us : Forest} {z : Place} → Walk (Whole so_far) (steady v) value_row x us z → part_depth t ≤ deepest us
    deeper (next (tree {t = w} q) r) =
        let s = o.alone (one w) _ (tree q) in
        let same : part_depth t ≡ part_depth w = ap part_depth (ap item_of s.0) in
        omega (arith, same)

    at : (c : Nonterminal) → takes_default c ≡ true → {u : Tree} {p : Place} → is_hole u ≡ false → is_rest u ≡ false → AtDefault v x p u → Whole so_far v false c x u p → Shallow e (part_depth u) → ⊥
    at c h {u} {p} f g (pattern r) q s =
        let w = o.alone (one u) p (tree (pattern_whole r)) in
        clash _ (subst (λ b. ends_so_far c b ≡ true) (sym w.1) q.ends_there) (value_on c y h (pattern_settled t (whole_of o.past).reads) (found_at (sym k.is) k.found))
    at c h f g (valued {ts}) q s =
        let d = depth_told true c (function (WithInit Binds)) ts refl (and_right (admits c (node (function (WithInit Binds)) ts)) (fits_below c (node (function (WithInit Binds)) ts)) q.reads.reads.is) in
        outgrown_deep (Pat Binds) e t formed b (shallow_up e (suc (part_depth t)) (part_depth (node (function (WithInit Binds)) ts)) (omega (arith, d, deeper (value_whole c h q))) s)
    at c h f g rest q s = cc
    at c h f g hole q s = cc
