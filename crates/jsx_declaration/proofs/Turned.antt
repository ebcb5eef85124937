-- What a `for` goes over, turned from what was read as a cover.
use Rattle.std.proofs.Common.{◌≡◌, Bool, true, false, not, Box, Global, refl, sym, ◌∙◌, ap, subst}
use Rattle.std.specs.Prelude.{IsTrue, codes}
use Rattle.jsx_base.specs.Token.{IdentifierName, Punctuator}
use Rattle.jsx_tree.specs.Signs.{AfterBlock, Sign}
use Rattle.jsx_tree.specs.Kinds.{Assigns, ArrayPat, ObjectPat, ParenTarget, function, Tree, leaf, node, list, Forest, none, part}
use Rattle.jsx_tree.specs.Nonterminals.{Nonterminal, Expr, Pat}
use Rattle.jsx_tree.specs.Grammar.{Part, key, pun}
use Rattle.jsx_tree.specs.Grammar as symbol
use Rattle.jsx_tree.specs.Grows.{as_target}
use Rattle.jsx_tree.specs.Reading.{Place, Lost, At, forth}
use Rattle.jsx_tree.specs.StaticRules.{Surroundings}
use Rattle.jsx_tree.specs.View.{view_expr}
use Rattle.jsx_tree.specs.declared.tree.Expr.{Expr as Code}
use Rattle.jsx_token.specs.Here.{Here, place_of}
use Rattle.jsx_tree.specs.Walk.{is_found, nothing, one, sign, tree, Walk, done, next, steady}
use Rattle.jsx_tree.specs.Language.{Whole}
use Rattle.jsx_tree.specs.Answers.{Moves, Stuck, Only, Barred, NoRow}
use Rattle.jsx_tree.specs.Faults.{Fault, Unread, Shallow, deepest}
use Rattle.jsx_tree.proofs.Tokens.{and_both, and_right}
use Rattle.jsx_tree.proofs.Apart.{clash, never_both}
use Rattle.jsx_tree.proofs.Rows.Bridge.{found_at}
use Rattle.jsx_tree.proofs.Rows.Targets.{as_value, Aim, named, member, paired, Target, value_aims, target_back}
use Rattle.jsx_token.specs.Marks.{ends_so_far}
use Rattle.jsx_token.specs.Growths.{is_blocked, rung}
use Rattle.jsx_operand.specs.SoFar.{Staged, so_far}
use Rattle.jsx_operand.specs.Climbing.{is_target}
use Rattle.jsx_operand.specs.Covers.{IsTurned, view_cover}
use Rattle.jsx_operand.specs.Turning.{Turns, turn_target, turn_array, turn_object, is_bracketed, is_literal}
use Rattle.jsx_tree.proofs.Rows.Stopping.{is_not}
use Rattle.jsx_tree.proofs.Rows.Steps.{any_barred}
use Rattle.jsx_operand.specs.declared.cover.Cover.{Cover}
use Rattle.jsx_operand.proofs.OfSoFar.{of_so_far}
use Rattle.jsx_operand.proofs.Aims.{aim_of, aim_is}
use Rattle.jsx_operand.proofs.Climbing.{climb_only}
use Rattle.jsx_operand.proofs.Homes.{IsName, in_brackets}
use Rattle.jsx_operand.proofs.Turned.{bracketed_literal, target_unlike, turned_target}
use Rattle.jsx_operand.proofs.Turning.{turns_once}
use Rattle.jsx_operand.proofs.Values.{leaf_to, node_to}
use Rattle.jsx_member.specs.Gathering.{NotGathered}
use Rattle.jsx_member.proofs.Sequences.{whole_barred, whole_only}
use Rattle.jsx_declaration.specs.Heads.{IsInitial, IsItems, IsKeys, IsStem, Far, far_over, far_value, Near, near, near_whole, far, NoDeclaring, NoHead, NoHeads, NoInitial, NoStem, NotOver, Over, over_keys, over_items, Stopped, at_in, at_end, at_block, is_async, items_row, keys_row, over_row}
use Rattle.jsx_declaration.specs.OpenIn.{opens_whole}
use Rattle.jsx_declaration.proofs.Heads.{initial_closed, lost_there, no_value_head, none_initial, open_head, some_initial, unended_initial, value_head, whole_value}
use Rattle.jsx_declaration.proofs.Overs.{Header, aimed_whole, head_cases, head_ended, items, keys, member_kept, no_binding_there, pattern_is, pattern_there}
use Rattle.jsx_declaration.proofs.Statements.{lost_if}
use Rattle.jsx_declaration.proofs.Stems.{in_ends, in_head, of_ends, of_head, two_words}

-- ---- what is assigned to stands there as it does at the left of `=`

head_from : {v : Surroundings} {c : Nonterminal} {s : Sign} {x y : Place} {t : Tree} (h : Header c s) → Aim t → h.fits t ≡ true → Staged v false (Pat Assigns) x (as_target t) y → Staged v false c x (as_target t) y
head_from {c = c} h (named {t} b) i r = leaf_to c IsName (h.name t ∙ i) (h.stays t) r
head_from {v} {c} {x = x} {y} h (member {k} {ts} m) i r =
    let q = member_kept k ts m in
    subst (λ u. Staged v false c x u y) (sym q.target) (node_to c (h.home k ts ∙ q.home) (subst (λ u. Staged v false (Pat Assigns) x u y) q.target r))
head_from {c = c} h (paired {t} p) i r = node_to c (h.home (function ParenTarget) (part (as_target t) none)) r

pub over_turned : {v : Surroundings} {c : Nonterminal} {s : Sign} {x y : Place} {t p : Tree} (h : Header c s) → Turns t p → (is_target t ≡ true → h.fits t ≡ true) → Staged v false (Pat Assigns) x p y → Staged v false c x p y
over_turned h (turn_target {t = t} e) f r = head_from h (aim_of t e) (f e) r
over_turned {c = c} h (turn_array {us = us} l) f r = node_to c (h.home (function (ArrayPat Assigns)) (part (list us) none)) r
over_turned {c = c} h (turn_object {us = us} l) f r = node_to c (h.home (function (ObjectPat Assigns)) (part (list us) none)) r

-- ---- and the other way

-- what stands there with the word behind it is what the cover turns into
data HeadAt {n : Nonterminal} {s : Sign} (h : Header n s) (c : Cover) (u : Tree) (y z : Place) : Type 0 where
  at_pattern : is_bracketed u ≡ true → IsTurned c u → y ≡ z → HeadAt h c u y z
  at_target : Target u → h.fits (view_cover c) ≡ true → view_cover c ≡ as_value u → y ≡ z → HeadAt h c u y z

one_is : {t u : Tree} → one t ≡ one u → t ≡ u
one_is e = cc

head_at : {v : Surroundings} {n : Nonterminal} {s : Sign} {x y z : Place} {c : Cover} (h : Header n s) → NoDeclaring x → IsStem v x c y → (c.is_expr ≡ true → ends_so_far (Expr 11) y ≡ true) → (IsTrue (is_found (forth s z)) → Over z) → (NotOver v x Unread → NoRow so_far v (over_row n s) x Unread) → (u : Tree) → Staged v false n x u z → IsTrue (is_found (forth s z)) → HeadAt h c u y z
head_at {v} {n} {s} {x} {y} {z} {c} h d st e o rows u r f = by (in_brackets u) refl
  where
    at : Target u → h.fits (as_value u) ≡ true → Only so_far v (Part (Expr 11)) x (one (view_cover c)) y → HeadAt h c u y z
    at p i b =
        let same = b.alone (one (as_value u)) z (tree (aimed_whole h p r f)) in
        let is = one_is same.0 in
        at_target p (ap h.fits is ∙ i) is same.1

    distant : Target u → Far v x → ⊥
    distant p (far_value b) = b.no (one (as_value u)) z (tree (aimed_whole h p r f)) tt
    distant p (far_over a) = (rows a).no (part u none) (forth s z) (next (tree (head_ended h r f)) (next (sign refl f) (done f))) tt

    near_at : Target u → h.fits (as_value u) ≡ true → c.is_expr ≡ true → Near v x (view_cover c) y → HeadAt h c u y z
    near_at p i k (near b) = at p i (climb_only (rung 11) refl b (e k))
    near_at p i k (near_whole l b) = at p i b
    near_at p i k (far a) = absurd (distant p a)

    aimed : Target u → h.fits (as_value u) ≡ true → (b : Bool) → c.is_expr ≡ b → HeadAt h c u y z
    aimed p i true k = near_at p i k (st.targets k)
    aimed p i false k = absurd (distant p (st.none k).targets)

    by : (b : Bool) → in_brackets u ≡ b → HeadAt h c u y z
    by true a = let q = st.patterns u z (pattern_is u a) (pattern_there u a r) (o f) in at_pattern (pattern_is u a) q.0 q.1
    by false a = head_cases h u a r (λ p i. aimed p i c.is_expr refl) (λ w ts b. absurd (no_binding_there d (subst (λ q. Staged v false n x q z) b r)))

turned_as : {n : Nonterminal} {s : Sign} {h : Header n s} {c : Cover} {p u : Tree} {y z : Place} → IsTurned c p → HeadAt h c u y z → (p ≡ u) × (y ≡ z)
turned_as d (at_pattern b e g) = (turns_once d.turns e.turns, g)
turned_as d (at_target p i e g) = (turned_target d.turns (target_unlike _ (ap is_target e ∙ aim_is (value_aims p))) ∙ (ap as_target e ∙ target_back p), g)

place_as : {n : Nonterminal} {s : Sign} {h : Header n s} {c : Cover} {u : Tree} {y z : Place} → HeadAt h c u y z → y ≡ z
place_as (at_pattern b e g) = g
place_as (at_target p i e g) = g

turns_none : {v : Surroundings} {n : Nonterminal} {s : Sign} {h : Header n s} {x y z : Place} {c : Cover} {u : Tree} → IsStem v x c y → ((p : Tree) → IsTurned c p → ⊥) → HeadAt h c u y z → ⊥
turns_none st d (at_pattern b e g) = d _ e
turns_none {c = c} st d (at_target p i e g) = let b = ap is_target e ∙ aim_is (value_aims p) in d _ (record { may = st.may (target_unlike (view_cover c) b); turns = turn_target b })

-- the name `async` stands before no `of`
async_plain : (t : Tree) → is_async t ≡ true → is_literal t ≡ false
async_plain (leaf IdentifierName t) e = refl
async_plain (leaf _ t) e = refl
async_plain (node k ts) e = cc
async_plain (list ts) e = refl

async_none : {c : Cover} {u : Tree} {y z : Place} → is_async (view_cover c) ≡ true → HeadAt items c u y z → ⊥
async_none {c} a (at_pattern b e g) = clash (is_literal (view_cover c)) (bracketed_literal e.turns b) (async_plain (view_cover c) a)
async_none {c} a (at_target p i e g) = clash (is_async (view_cover c)) a (is_not _ (and_right (is_target (view_cover c)) _ i))

-- ---- where the first expression ended

block_ends : (y : Place) → is_blocked y ≡ true → ends_so_far (Expr 11) y ≡ true
block_ends Lost b = cc
block_ends (At q AfterBlock text) b = refl
block_ends (At q _ text) b = cc

stopped_high : {y : Place} → Stopped y → (IsTrue (is_found (forth (key "in") y)) → ⊥) → ends_so_far (Expr 11) y ≡ true
stopped_high (at_in f) n = absurd (n f)
stopped_high {y} (at_end e) n = of_so_far.covered (Expr 1) (Expr 11) y refl e
stopped_high {y} (at_block b) n = block_ends y b

stopped_open : {y : Place} → Stopped y → (IsTrue (is_found (forth (key "in") y)) → ⊥) → is_blocked y ≡ false → ends_so_far (Expr 1) y ≡ true
stopped_open (at_in f) n a = absurd (n f)
stopped_open (at_end e) n a = e
stopped_open {y} (at_block b) n a = absurd (clash (is_blocked y) b a)

-- where no `in` does, the expression has come to its end
stem_whole : {v : Surroundings} {x y : Place} {c : Cover} → IsStem v x c y → (IsTrue (is_found (forth (key "in") y)) → ⊥) → c.is_expr ≡ true → Only so_far v (Part (Expr 1)) x (one (view_cover c)) y
stem_whole {v} {x} {y} {c} st n e = by (is_blocked y) refl
  where
    by : (b : Bool) → is_blocked y ≡ b → Only so_far v (Part (Expr 1)) x (one (view_cover c)) y
    by true a = st.blocked e a
    by false a = climb_only (rung 1) refl (st.climbs e a) (stopped_open (st.stopped e) n a)

-- ---- no `for` with three parts stands there

no_first : {v : Surroundings} {x y : Place} {c : Cover} {d : Fault} → NoDeclaring x → IsStem v x c y → (IsTrue (is_found (forth (pun ";") y)) → ⊥) → (IsTrue (is_found (forth (pun ",") y)) → ⊥) → c.is_expr ≡ true → is_blocked y ≡ true → NoHead v x d
no_first {v} {x} {y} {c} n st a b i e = record {
  no = λ u z w m o s. a (subst (λ p. IsTrue (is_found (forth (pun ";") p))) (sym ((whole_only (st.blocked i e) st.ended (lost_if (forth (pun ",") y) b)).alone (one u) z (tree (whole_value n w))).1) m);
}

stem_initial_in : {v : Surroundings} {x y : Place} {c : Cover} {e : Fault} → Stuck (pun ";") x → NoDeclaring x → IsStem v x c y → IsTrue (is_found (forth (key "in") y)) → NoInitial v x e
stem_initial_in {v} {x} {y} {c} {e = e} k n st f = none_initial k (by c.is_expr (is_blocked y) refl refl)
  where
    by : (a b : Bool) → c.is_expr ≡ a → is_blocked y ≡ b → NoHead v x e
    by false b p q = no_value_head n (whole_barred (any_barred (st.none p).whole))
    by true false p q = in_head n (st.climbs p q) f
    by true true p q = no_first n st (λ g. never_both Punctuator IdentifierName (codes ";") (codes "in") y refl g f) (λ g. never_both Punctuator IdentifierName (codes ",") (codes "in") y refl g f) p q

-- ---- the two kinds

pub stem_keys : {v : Surroundings} {x y y' : Place} {c : Cover} {p : Tree} → Stuck (pun ";") x → NoDeclaring x → IsStem v x c y → Moves (key "in") y y' → IsTurned c p → IsKeys v x p y'
stem_keys {v} {x} {y} {y'} {c} {p} k n st m d = record {
  keys = record { walk = next (tree (head_ended keys (over_turned keys d.turns (λ e. e) (st.reads p d)) f)) (next (sign (sym m.is) m.found) (done m.found)); alone = at };
  items = record { no = none_at };
  initial = stem_initial_in k n st f;
}
  where
    f : IsTrue (is_found (forth (key "in") y))
    f = found_at (sym m.is) m.found

    at : (us : Forest) (w : Place) → Walk (Whole so_far) (steady v) keys_row x us w → (part p none ≡ us) × (y' ≡ w)
    at us w (next {y = z} (tree {t = u} q) (next (sign e g) (done h))) =
        let same = turned_as d (head_at keys n st (λ k. in_ends y f) over_keys (λ o. o.keys) u q.reads (found_at e g)) in
        (ap (λ a. part a none) same.0, m.is ∙ (ap (forth (key "in")) same.1 ∙ e))

    none_at : (us : Forest) (w : Place) → Walk (Whole so_far) (steady v) items_row x us w → Shallow Unread (deepest us) → ⊥
    none_at us w (next {y = z} (tree {t = u} q) (next (sign e g) (done h))) s =
        let same = place_as (head_at items n st (λ k. in_ends y f) over_items (λ o. o.items) u q.reads (found_at e g)) in
        two_words y f (subst (λ a. IsTrue (is_found (forth (key "of") a))) (sym same) (found_at e g))

-- what doesn't turn is gone over by none
pub stem_no_keys : {v : Surroundings} {x y y' : Place} {c : Cover} {b : Fault} → Stuck (pun ";") x → NoDeclaring x → IsStem v x c y → Moves (key "in") y y' → ((p : Tree) → IsTurned c p → ⊥) → NoHeads v x b
stem_no_keys {v} {x} {y} {y'} {c} {b = b} k n st m d = record { initial = stem_initial_in k n st f; over = record { keys = record { no = at }; items = record { no = none_at } } }
  where
    f : IsTrue (is_found (forth (key "in") y))
    f = found_at (sym m.is) m.found

    at : (us : Forest) (w : Place) → Walk (Whole so_far) (steady v) keys_row x us w → Shallow b (deepest us) → ⊥
    at us w (next {y = z} (tree {t = u} q) (next (sign e g) (done h))) s' = turns_none st d (head_at keys n st (λ k. in_ends y f) over_keys (λ o. o.keys) u q.reads (found_at e g))

    none_at : (us : Forest) (w : Place) → Walk (Whole so_far) (steady v) items_row x us w → Shallow b (deepest us) → ⊥
    none_at us w (next {y = z} (tree {t = u} q) (next (sign e g) (done h))) s =
        let same = place_as (head_at items n st (λ k. in_ends y f) over_items (λ o. o.items) u q.reads (found_at e g)) in
        two_words y f (subst (λ a. IsTrue (is_found (forth (key "of") a))) (sym same) (found_at e g))

stem_initial_of : {v : Surroundings} {x y : Place} {c : Cover} {e : Fault} → Stuck (pun ";") x → NoDeclaring x → IsStem v x c y → (IsTrue (is_found (forth (key "in") y)) → ⊥) → IsTrue (is_found (forth (key "of") y)) → NoInitial v x e
stem_initial_of {v} {x} {y} {c} {e = e} k n st a f = none_initial k (by c.is_expr refl)
  where
    by : (b : Bool) → c.is_expr ≡ b → NoHead v x e
    by false p = no_value_head n (whole_barred (any_barred (st.none p).whole))
    by true p = of_head n (stem_whole st a p) st.ended f

pub stem_items : {v : Surroundings} {x y y' : Place} {c : Cover} {p : Tree} → Stuck (pun ";") x → NoDeclaring x → IsStem v x c y → forth (key "in") y ≡ Lost → Moves (key "of") y y' → is_async (view_cover c) ≡ false → IsTurned c p → IsItems v x p y'
stem_items {v} {x} {y} {y'} {c} {p} k n st l m a d = record {
  items = record { walk = next (tree (head_ended items (over_turned items d.turns (λ e. and_both (is_target (view_cover c)) (not (is_async (view_cover c))) e (ap not a)) (st.reads p d)) f)) (next (sign (sym m.is) m.found) (done m.found)); alone = at };
  keys = record { no = none_at };
  initial = stem_initial_of k n st (lost_there (key "in") y l) f;
}
  where
    f : IsTrue (is_found (forth (key "of") y))
    f = found_at (sym m.is) m.found

    at : (us : Forest) (w : Place) → Walk (Whole so_far) (steady v) items_row x us w → (part p none ≡ us) × (y' ≡ w)
    at us w (next {y = z} (tree {t = u} q) (next (sign e g) (done h))) =
        let same = turned_as d (head_at items n st (λ k. of_ends y f) over_items (λ o. o.items) u q.reads (found_at e g)) in
        (ap (λ b. part b none) same.0, m.is ∙ (ap (forth (key "of")) same.1 ∙ e))

    none_at : (us : Forest) (w : Place) → Walk (Whole so_far) (steady v) keys_row x us w → Shallow Unread (deepest us) → ⊥
    none_at us w (next {y = z} (tree {t = u} q) (next (sign e g) (done h))) s =
        let same = place_as (head_at keys n st (λ k. of_ends y f) over_keys (λ o. o.keys) u q.reads (found_at e g)) in
        two_words y (subst (λ b. IsTrue (is_found (forth (key "in") b))) (sym same) (found_at e g)) f

pub stem_async : {v : Surroundings} {x y y' : Place} {c : Cover} {fault : Fault} → Stuck (pun ";") x → NoDeclaring x → IsStem v x c y → forth (key "in") y ≡ Lost → Moves (key "of") y y' → is_async (view_cover c) ≡ true → NoHeads v x fault
stem_async {v} {x} {y} {y'} {c} {fault = fault} k n st l m d = record { initial = stem_initial_of k n st (lost_there (key "in") y l) f; over = record { keys = record { no = none_at }; items = record { no = at } } }
  where
    f : IsTrue (is_found (forth (key "of") y))
    f = found_at (sym m.is) m.found

    at : (us : Forest) (w : Place) → Walk (Whole so_far) (steady v) items_row x us w → Shallow fault (deepest us) → ⊥
    at us w (next {y = z} (tree {t = u} q) (next (sign e g) (done h))) a = async_none d (head_at items n st (λ k. of_ends y f) over_items (λ o. o.items) u q.reads (found_at e g))

    none_at : (us : Forest) (w : Place) → Walk (Whole so_far) (steady v) keys_row x us w → Shallow fault (deepest us) → ⊥
    none_at us w (next {y = z} (tree {t = u} q) (next (sign e g) (done h))) s =
        let same = place_as (head_at keys n st (λ k. of_ends y f) over_keys (λ o. o.keys) u q.reads (found_at e g)) in
        two_words y (subst (λ b. IsTrue (is_found (forth (key "in") b))) (sym same) (found_at e g)) f

pub stem_no_items : {v : Surroundings} {x y y' : Place} {c : Cover} {fault : Fault} → Stuck (pun ";") x → NoDeclaring x → IsStem v x c y → forth (key "in") y ≡ Lost → Moves (key "of") y y' → ((p : Tree) → IsTurned c p → ⊥) → NoHeads v x fault
stem_no_items {v} {x} {y} {y'} {c} {fault = fault} k n st l m d = record { initial = stem_initial_of k n st (lost_there (key "in") y l) f; over = record { keys = record { no = none_at }; items = record { no = at } } }
  where
    f : IsTrue (is_found (forth (key "of") y))
    f = found_at (sym m.is) m.found

    at : (us : Forest) (w : Place) → Walk (Whole so_far) (steady v) items_row x us w → Shallow fault (deepest us) → ⊥
    at us w (next {y = z} (tree {t = u} q) (next (sign e g) (done h))) a = turns_none st d (head_at items n st (λ k. of_ends y f) over_items (λ o. o.items) u q.reads (found_at e g))

    none_at : (us : Forest) (w : Place) → Walk (Whole so_far) (steady v) keys_row x us w → Shallow fault (deepest us) → ⊥
    none_at us w (next {y = z} (tree {t = u} q) (next (sign e g) (done h))) s =
        let same = place_as (head_at keys n st (λ k. of_ends y f) over_keys (λ o. o.keys) u q.reads (found_at e g)) in
        two_words y (subst (λ b. IsTrue (is_found (forth (key "in") b))) (sym same) (found_at e g)) f

-- ---- neither of them

stem_over : {v : Surroundings} {x y : Place} {c : Cover} {d : Fault} → NoDeclaring x → IsStem v x c y → forth (key "in") y ≡ Lost → forth (key "of") y ≡ Lost → NotOver v x d
stem_over {v} {x} {y} {c} {d = d} n st a b = record { keys = record { no = keys_at }; items = record { no = items_at } }
  where
    high : c.is_expr ≡ true → ends_so_far (Expr 11) y ≡ true
    high e = stopped_high (st.stopped e) (lost_there (key "in") y a)

    keys_at : (us : Forest) (w : Place) → Walk (Whole so_far) (steady v) keys_row x us w → Shallow d (deepest us) → ⊥
    keys_at us w (next {y = z} (tree {t = u} q) (next (sign e g) (done h))) s' =
        let same = place_as (head_at keys n st high over_keys (λ o. o.keys) u q.reads (found_at e g)) in
        lost_there (key "in") y a (subst (λ p. IsTrue (is_found (forth (key "in") p))) (sym same) (found_at e g))

    items_at : (us : Forest) (w : Place) → Walk (Whole so_far) (steady v) items_row x us w → Shallow d (deepest us) → ⊥
    items_at us w (next {y = z} (tree {t = u} q) (next (sign e g) (done h))) s =
        let same = place_as (head_at items n st high over_items (λ o. o.items) u q.reads (found_at e g)) in
        lost_there (key "of") y b (subst (λ p. IsTrue (is_found (forth (key "of") p))) (sym same) (found_at e g))

pub stem_first : {v : Surroundings} {x y : Place} {c : Cover} → IsStem v x c y → forth (key "in") y ≡ Lost → c.is_expr ≡ true → Only so_far v (Part (Expr 1)) x (one (view_cover c)) y
stem_first {y = y} st a e = stem_whole st (lost_there (key "in") y a) e

-- a cover that is no expression
pub stem_unsettled : {v : Surroundings} {x y : Place} {c : Cover} {o : Fault} → Stuck (pun ";") x → NoDeclaring x → IsStem v x c y → forth (key "in") y ≡ Lost → forth (key "of") y ≡ Lost → c.is_expr ≡ false → NoHeads v x o
stem_unsettled k n st a b e = record { initial = none_initial k (no_value_head n (whole_barred (any_barred (st.none e).whole))); over = stem_over n st a b }

pub stem_initial : {v : Surroundings} {x y z w : Place} {c : Cover} {u : Tree} → NoDeclaring x → IsStem v x c y → forth (key "in") y ≡ Lost → forth (key "of") y ≡ Lost → Only so_far v (Part (Expr 0)) x (one u) z → opens_whole u ≡ false → Only so_far v (symbol.Fixed (pun ";")) z nothing w → IsInitial v x (list (part u none)) w
stem_initial {u = u} n st a b o e m = let h = value_head n o e in record { initial = some_initial h m; closed = initial_closed u h.closed; over = stem_over n st a b }

pub stem_no_more : {v : Surroundings} {x y : Place} {c : Cover} {o : Fault} → Stuck (pun ";") x → NoDeclaring x → IsStem v x c y → forth (key "in") y ≡ Lost → forth (key "of") y ≡ Lost → c.is_expr ≡ true → NotGathered v (view_cover c) y o → NoHeads v x o
stem_no_more k n st a b e g = record { initial = none_initial k (no_value_head n (g.no _ (stem_first st a e))); over = stem_over n st a b }

pub stem_open : {v : Surroundings} {x y z : Place} {c : Cover} {u : Tree} {d : Fault} → Stuck (pun ";") x → NoDeclaring x → IsStem v x c y → forth (key "in") y ≡ Lost → forth (key "of") y ≡ Lost → Only so_far v (Part (Expr 0)) x (one u) z → opens_whole u ≡ true → NoHeads v x d
stem_open k n st a b o e = record { initial = none_initial k (open_head n o e); over = stem_over n st a b }

pub stem_unended : {v : Surroundings} {x y z : Place} {c : Cover} {u : Tree} {d : Fault} → NoDeclaring x → IsStem v x c y → forth (key "in") y ≡ Lost → forth (key "of") y ≡ Lost → Only so_far v (Part (Expr 0)) x (one u) z → opens_whole u ≡ false → Barred so_far v (symbol.Fixed (pun ";")) z d → NoHeads v x d
stem_unended n st a b o e m = record { initial = unended_initial (value_head n o e) m; over = stem_over n st a b }

pub stem_none : {v : Surroundings} {x : Place} {e : Fault} → Stuck (pun ";") x → NoDeclaring x → NoStem v x e → NoHeads v x e
stem_none k n s = record { initial = none_initial k (no_value_head n (whole_barred s.barred)); over = s.over }

-- ---- where the lexer stands behind it

pub stem_expr : {v : Surroundings} {x : Place} {c : Cover} {e : Box Code Global} {y z : Here} → e ≡ c.expr → z ≡ y → IsStem v x c (place_of y) → forth (key "in") (place_of y) ≡ Lost → c.is_expr ≡ true → Only so_far v (Part (Expr 1)) x (one (view_expr e.value)) (place_of z)
stem_expr {v} {x} {c} {e} {y} {z} is at st a i =
    subst (λ q. Only so_far v (Part (Expr 1)) x (one (view_expr q.value)) (place_of z)) (sym is)
    (subst (λ h. Only so_far v (Part (Expr 1)) x (one (view_cover c)) (place_of h)) (sym at) (stem_first st a i))

pub not_gathered : {v : Surroundings} {o : Fault} (c : Cover) {e : Box Code Global} {y z : Here} → e ≡ c.expr → z ≡ y → NotGathered v (view_expr e.value) (place_of z) o → NotGathered v (view_cover c) (place_of y) o
not_gathered {v} {o = o} c {e} {y} {z} is at n = subst (λ q. NotGathered v (view_expr q.value) (place_of y) o) is (subst (λ h. NotGathered v (view_expr e.value) (place_of h) o) at n)
