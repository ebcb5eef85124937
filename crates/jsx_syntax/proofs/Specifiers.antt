-- What stands in a list of specifiers, up to its `}`, with names as they are written: as a loop of the parser reads it. A name alone begins a name with another, so it is `as` behind it that tells.
use Rattle.std.proofs.Common.{◌≡◌, Bool, List, [], ◌∷◌, true, false, refl, sym, ◌∙◌, ap, subst}
use Rattle.std.specs.Prelude.{IsTrue, codes}
use Rattle.jsx_base.specs.Token.{Text, Operator, Punctuator}
use Rattle.jsx_tree.specs.Signs.{Sign, Tok, TrailingComma}
use Rattle.jsx_tree.specs.Kinds.{Kind, From, Specifier, SpecifierAs, program, Tree, leaf, node, list, Forest, none, part}
use Rattle.jsx_tree.specs.Nonterminals.{Name, Specifiers}
use Rattle.jsx_tree.specs.Grammar.{Commas, Fixed, Part, key, pun}
use Rattle.jsx_tree.specs.Form.{admits}
use Rattle.jsx_tree.specs.Reading.{Place, Lost, At, forth}
use Rattle.jsx_tree.specs.StaticRules.{Surroundings}
use Rattle.jsx_tree.specs.Walk.{is_found, nothing, one, Piece, piece, Items, nil, last, more, sign, tree, many, Walk, done, next, steady}
use Rattle.jsx_tree.specs.Language.{Whole}
use Rattle.jsx_tree.specs.Answers.{Moves, Stuck, Missed, Only, Barred, OnlyRow, NoRow}
use Rattle.jsx_tree.specs.Faults.{Fault, Shallow, part_depth, deepest}
use Rattle.jsx_tree.proofs.Tokens.{and_both}
use Rattle.jsx_tree.proofs.Apart.{clash}
use Rattle.jsx_tree.proofs.Rows.Bridge.{found_first, found_at}
use Rattle.jsx_tree.proofs.Rows.Stopping.{never_stops}
use Rattle.jsx_tree.proofs.Rows.Guarded.{whole_walk, whole_items_found, loosen, to_grammar}
use Rattle.jsx_tree.proofs.Rows.Bodies.{plain as plain_row}
use Rattle.jsx_tree.proofs.Rows.Firsts.{kind_home}
use Rattle.jsx_tree.proofs.Rows.Laws.{end_found}
use Rattle.jsx_tree.proofs.Rows.Lists.{closed, ended_sign}
use Rattle.jsx_tree.proofs.Rows.Placing.{free_around, moved, flat_shallow}
use Rattle.jsx_tree.proofs.Rows.Steps.{bar, both}
use Rattle.jsx_tree.proofs.Rows.Turns.{From as Behind, Turn, turn_only, turn_none, turn_as, turn_both, cons, early, item_of, whole_of, comma_trails, nothing_trails, prepend, prepend_cons, cons_up}
use Rattle.jsx_tree.proofs.Depth.Shallow.{shallow_first, shallow_rest, shallow_head, shallow_tail, part_up}
use Rattle.jsx_function.proofs.Functions.{shallow_behind}
use Rattle.jsx_token.specs.Marks.{ends_so_far, row_so_far}
use Rattle.jsx_operand.specs.SoFar.{Staged, so_far}
use Rattle.jsx_operand.proofs.OfSoFar.{of_so_far}
use Rattle.jsx_operand.proofs.Standing.{standing}
use Rattle.jsx_operand.proofs.Homes.{IsName, Taken, taken_by, home_of, name_there, no_list}
use Rattle.jsx_operand.proofs.Keys.{mark_none}
use Rattle.jsx_syntax.specs.Specifiers.{NoSpecifier, OnlySpecifier, specifier_row}

stuck_not : {s : Sign} {x : Place} → Stuck s x → IsTrue (is_found (forth s x)) → ⊥
stuck_not k f = let bad : IsTrue (is_found Lost) = subst (λ p. IsTrue (is_found p)) k.is f in cc

lost_from : (x : Place) → (IsTrue (is_found x) → ⊥) → x ≡ Lost
lost_from Lost n = refl
lost_from (At q e text) n = absurd (n refl)

-- ---- what stands there

data AtSpecifier : Tree → Type 0 where
  single : {ts : Forest} → AtSpecifier (node (program (Specifier From)) ts)
  renamed : {ts : Forest} → AtSpecifier (node (program (SpecifierAs From)) ts)

abbrev is_specifier : Kind → Bool
is_specifier (program (Specifier From)) = true
is_specifier (program (SpecifierAs From)) = true
is_specifier k = false

specifier_is : (k : Kind) (ts : Forest) → is_specifier k ≡ true → AtSpecifier (node k ts)
specifier_is (program (Specifier From)) ts h = single
specifier_is (program (SpecifierAs From)) ts h = renamed
specifier_is (program (Specifier _)) ts h = cc
specifier_is (program (SpecifierAs _)) ts h = cc
specifier_is (program _) ts h = cc
specifier_is _ ts h = cc

specifier_kind : (k : Kind) (ts : Forest) → Taken k → admits (Specifiers From) (node k ts) ≡ true → AtSpecifier (node k ts)
specifier_kind k ts t h = specifier_is k ts (standing (Specifiers From) is_specifier refl k t (kind_home (Specifiers From) k ts h))

at_specifier : {v : Surroundings} {x y : Place} (t : Tree) → Staged v false (Specifiers From) x t y → AtSpecifier t
at_specifier (leaf k t) r = let bad = r.staged in cc
at_specifier (node k ts) r = specifier_kind k ts (taken_by r) (home_of r)
at_specifier (list ts) r = absurd (no_list r)

specifier_ends : (y : Place) → ends_so_far (Specifiers From) y ≡ true
specifier_ends y = of_so_far.ends_there (Specifiers From) y (never_stops (Specifiers From) y refl)

-- ---- along the rows

single_walk : {v : Surroundings} {x z : Place} {ts : Forest} → Staged v false (Specifiers From) x (node (program (Specifier From)) ts) z → Walk (Whole so_far) (steady v) (row_so_far (program (Specifier From))) x ts z
single_walk {v} {z = z} {ts} r = moved (λ a h. free_around a ts v h) refl (whole_walk of_so_far (Specifiers From) (row_so_far (program (Specifier From))) refl (specifier_ends z) (of_so_far.from_node (program (Specifier From)) r).walk)

renamed_walk : {v : Surroundings} {x z : Place} {ts : Forest} → Staged v false (Specifiers From) x (node (program (SpecifierAs From)) ts) z → Walk (Whole so_far) (steady v) (row_so_far (program (SpecifierAs From))) x ts z
renamed_walk {v} {z = z} {ts} r = moved (λ a h. free_around a ts v h) refl (whole_walk of_so_far (Specifiers From) (row_so_far (program (SpecifierAs From))) refl (specifier_ends z) (of_so_far.from_node (program (SpecifierAs From)) r).walk)

single_staged : {v : Surroundings} {x z : Place} {ts : Forest} → Walk (Whole so_far) (steady v) (row_so_far (program (Specifier From))) x ts z → Staged v false (Specifiers From) x (node (program (Specifier From)) ts) z
single_staged {v} {ts = ts} w = of_so_far.to_node (program (Specifier From)) refl (record { walk = loosen (moved (λ a h. sym (free_around a ts v h)) refl w); keeps = and_both _ _ (plain_row (row_so_far (program (Specifier From))) refl (to_grammar of_so_far w)) refl })

renamed_staged : {v : Surroundings} {x z : Place} {ts : Forest} → Walk (Whole so_far) (steady v) (row_so_far (program (SpecifierAs From))) x ts z → Staged v false (Specifiers From) x (node (program (SpecifierAs From)) ts) z
renamed_staged {v} {ts = ts} w = of_so_far.to_node (program (SpecifierAs From)) refl (record { walk = loosen (moved (λ a h. sym (free_around a ts v h)) refl w); keeps = and_both _ _ (plain_row (row_so_far (program (SpecifierAs From))) refl (to_grammar of_so_far w)) refl })

-- ---- a name alone, and one with another

-- what begins with a name that was read: it is alone, or goes on with `as`
data Begun (v : Surroundings) (y : Place) (n : Tree) : Tree → Place → Type 0 where
  alone' : Begun v y n (node (program (Specifier From)) (part n none)) y
  goes : {a z : Place} {m : Tree} → forth (key "as") y ≡ a → IsTrue (is_found a) → Whole so_far v false Name a m z → Begun v y n (node (program (SpecifierAs From)) (part n (part m none))) z

begun : {v : Surroundings} {x y z : Place} {n u : Tree} → Only so_far v (Part Name) x (one n) y → Staged v false (Specifiers From) x u z → Begun v y n u z
begun {v} {x} {y} {z} {n} {u} o r = at (at_specifier u r) r
  where
    of_single : {ts : Forest} {p : Place} → Walk (Whole so_far) (steady v) (row_so_far (program (Specifier From))) x ts p → Begun v y n (node (program (Specifier From)) ts) p
    of_single (next (tree {t = t} q) (done f)) =
        let same' = o.alone (one t) _ (tree q) in
        subst (λ p. Begun v y n (node (program (Specifier From)) (part t none)) p) same'.1 (subst (λ m. Begun v y n (node (program (Specifier From)) (part m none)) y) (ap item_of same'.0) alone')

    of_renamed : {ts : Forest} {p : Place} → Walk (Whole so_far) (steady v) (row_so_far (program (SpecifierAs From))) x ts p → Begun v y n (node (program (SpecifierAs From)) ts) p
    of_renamed {p = p} (next (tree {t = t} q) (next (sign e f) (next (tree {t = m} b) (done g)))) =
        let same' = o.alone (one t) _ (tree q) in
        subst (λ k. Begun v y n (node (program (SpecifierAs From)) (part k (part m none))) p) (ap item_of same'.0) (goes (ap (forth (key "as")) same'.1 ∙ e) f b)

    at : {w : Tree} {p : Place} → AtSpecifier w → Staged v false (Specifiers From) x w p → Begun v y n w p
    at single q = of_single (single_walk q)
    at renamed q = of_renamed (renamed_walk q)

pub single_read : {v : Surroundings} {x y : Place} {n t : Tree} → Only so_far v (Part Name) x (one n) y → Stuck (key "as") y → t ≡ node (program (Specifier From)) (part n none) → OnlySpecifier v x t y
single_read {v} {x} {y} {n} {t} o s is = record {
  reads = subst (λ w. Staged v false (Specifiers From) x w y) (sym is) (single_staged (next o.past (done (end_found of_so_far (whole_of o.past).reads))));
  alone = λ u z k q. at (begun o q.reads);
}
  where
    at : {u : Tree} {z : Place} → Begun v y n u z → (t ≡ u) × (y ≡ z)
    at alone' = (is, refl)
    at (goes e f q) = absurd (stuck_not s (found_at e f))

pub renamed_read : {v : Surroundings} {x y a z : Place} {n m t : Tree} → Only so_far v (Part Name) x (one n) y → Moves (key "as") y a → Only so_far v (Part Name) a (one m) z → t ≡ node (program (SpecifierAs From)) (part n (part m none)) → OnlySpecifier v x t z
renamed_read {v} {x} {y} {a} {z} {n} {m} {t} o k p is = record {
  reads = subst (λ w. Staged v false (Specifiers From) x w z) (sym is) (renamed_staged (next o.past (next (sign (sym k.is) k.found) (next p.past (done (end_found of_so_far (whole_of p.past).reads))))));
  alone = λ u w s q. at s (begun o q.reads);
}
  where
    at : {u : Tree} {w : Place} → Stuck (key "as") w → Begun v y n u w → (t ≡ u) × (z ≡ w)
    at s alone' = absurd (stuck_not s (found_at (sym k.is) k.found))
    at {w = w} s (goes {m = u} e f q) =
        let same' = p.alone (one u) w (tree (subst (λ b. Whole so_far v false Name b u w) (sym e ∙ sym k.is) q)) in
        (is ∙ (λ i. node (program (SpecifierAs From)) (part n (part (item_of (same'.0 i)) none))), same'.1)

-- no name stands behind `as`, or before it
pub no_second : {v : Surroundings} {x y a : Place} {n : Tree} {d : Fault} → Only so_far v (Part Name) x (one n) y → Moves (key "as") y a → Barred so_far v (Part Name) a d → NoSpecifier v x d
no_second {v} {x} {y} {a} {n} {d} o k b = record { no = λ u z s q h. at s (begun o q.reads) q.reads h }
  where
    at : {u : Tree} {w : Place} → Stuck (key "as") w → Begun v y n u w → Staged v false (Specifiers From) x u w → Shallow d (part_depth u) → ⊥
    at s alone' r h = stuck_not s (found_at (sym k.is) k.found)
    at {w = w} s (goes {m = u} e f q) r h = b.no (one u) w (tree (subst (λ b. Whole so_far v false Name b u w) (sym e ∙ sym k.is) q)) (shallow_head d u none (shallow_tail d n (part u none) (flat_shallow d of_so_far r h)))

pub no_name : {v : Surroundings} {x : Place} {e : Fault} → Barred so_far v (Part Name) x e → NoSpecifier v x e
no_name {v} {x} {e = e} b = record { no = λ u z s q a. at (at_specifier u q.reads) q.reads a }
  where
    first : {ps : List Piece} {ts : Forest} {z : Place} → Walk (Whole so_far) (steady v) (piece [] (Part Name) ∷ ps) x ts z → Shallow e (deepest ts) → ⊥
    first (next {g = g'} {ts = us'} q w) h = b.no _ _ q (shallow_first e g' us' h)

    at : {u : Tree} {w : Place} → AtSpecifier u → Staged v false (Specifiers From) x u w → Shallow e (part_depth u) → ⊥
    at single q s = first (single_walk q) (flat_shallow e of_so_far q s)
    at renamed q s = first (renamed_walk q) (flat_shallow e of_so_far q s)

-- ---- the list, and what closes it

abbrev closing : List Piece
closing = piece [] (Fixed (pun "}")) ∷ []

abbrev inside : List Piece
inside = specifier_row From

closing_found : {v : Surroundings} {x w : Place} {us : Forest} → Walk (Whole so_far) (steady v) closing x us w → IsTrue (is_found (forth (pun "}") x))
closing_found (next (sign e f) walk) = found_at e f

-- where a mark stands, no specifier does
unmarked : {v : Surroundings} {x z : Place} {u : Tree} (d : Text) → IsTrue (is_found (forth (Tok Operator Punctuator d) x)) → Whole so_far v false (Specifiers From) x u z → ⊥
unmarked {v} {x} {u = u} d f w = at (at_specifier u w.reads) w.reads
  where
    first : {ps : List Piece} {ts : Forest} {z : Place} → Walk (Whole so_far) (steady v) (piece [] (Part Name) ∷ ps) x ts z → ⊥
    first (next (tree {t = t} q) w) = let n = name_there t q.reads in mark_none IsName n.text d x refl n.found f

    at : {t : Tree} {p : Place} → AtSpecifier t → Staged v false (Specifiers From) x t p → ⊥
    at single q = first (single_walk q)
    at renamed q = first (renamed_walk q)

-- nor does `as`: behind a specifier of the list none stands
unworded : (d : Text) (x : Place) → IsTrue (is_found (forth (Tok Operator Punctuator d) x)) → Stuck (key "as") x
unworded d x f = record { is = lost_from (forth (key "as") x) (λ g. mark_none IsName (codes "as") d x refl g f) }

before_comma : {x z : Place} → forth (pun ",") x ≡ z → IsTrue (is_found z) → Stuck (key "as") x
before_comma {x} e f = unworded (codes ",") x (found_at e f)

before_close : {y p : Place} → forth TrailingComma y ≡ p → IsTrue (is_found (forth (pun "}") p)) → Stuck (key "as") y
before_close {y} {p} e f = by (is_found (forth (pun ",") y)) refl
  where
    by : (b : Bool) → is_found (forth (pun ",") y) ≡ b → Stuck (key "as") y
    by true h = unworded (codes ",") y h
    by false h = unworded (codes "}") y (subst (λ q. IsTrue (is_found (forth (pun "}") q))) (sym e ∙ nothing_trails y (record { is = lost_from _ (λ g. clash _ g h) })) f)

whole_before : {v : Surroundings} {x y : Place} {t : Tree} → OnlySpecifier v x t y → Whole so_far v false (Specifiers From) x t y
whole_before {y = y} o = record { reads = o.reads; ends_there = specifier_ends y }

-- ---- a specifier and a comma

turn_specifier : {v : Surroundings} {x y z : Place} {t : Tree} → OnlySpecifier v x t y → Stuck (pun "}") x → Moves (pun ",") y z → Turn so_far v inside inside x z (cons t)
turn_specifier {v} {x} {y} {z} {t} o c m = record { to = forward; from = back; rises = cons_up t }
  where
    ahead : (ts : Forest) (p : Place) → Items (Whole so_far) v Commas (Specifiers From) z ts p → Items (Whole so_far) v Commas (Specifiers From) x (part t ts) p
    ahead none p (nil f) = last (whole_before o) (comma_trails m) m.found
    ahead (part u none) p all = more (early (Specifiers From) t refl o.reads.reads.is) (whole_before o) (sym m.is) all
    ahead (part u (part u' us)) p all = more (early (Specifiers From) t refl o.reads.reads.is) (whole_before o) (sym m.is) all

    forward : (ts : Forest) (w : Place) → Walk (Whole so_far) (steady v) inside z ts w → Walk (Whole so_far) (steady v) inside x (cons t ts) w
    forward ts w (next {ts = vs} (many {ts = us} e all) walk) = next (many refl (ahead us _ all)) walk

    inner : (ts : Forest) (p : Place) → Items (Whole so_far) v Commas (Specifiers From) x ts p → (us : Forest) (w : Place) → Walk (Whole so_far) (steady v) closing p us w → Behind so_far v inside z (cons t) (part (list ts) us) w
    inner ts p (nil f) us w walk = absurd (stuck_not c (closing_found walk))
    inner ts p (last {y = y'} {t = t'} r e f) us w walk =
        let s = o.alone t' y' (before_close e (closing_found walk)) r in
        let there : z ≡ p = sym (comma_trails m) ∙ (ap (forth TrailingComma) s.1 ∙ e) in
        record { parts = part (list none) us; is = λ i. part (list (part (s.0 i) none)) us; walk = next (many refl (nil m.found)) (subst (λ p. Walk (Whole so_far) (steady v) closing p us w) (sym there) walk) }
    inner ts p (more {y = y'} {z = z'} {t = t'} {u = u} {us = vs} n r e all) us w walk =
        let s = o.alone t' y' (before_comma e (whole_items_found of_so_far all)) r in
        let there : z ≡ z' = m.is ∙ (ap (forth (pun ",")) s.1 ∙ e) in
        record { parts = part (list (part u vs)) us; is = λ i. part (list (part (s.0 i) (part u vs))) us; walk = next (many refl (subst (λ q. Items (Whole so_far) v Commas (Specifiers From) q (part u vs) p) (sym there) all)) walk }

    back : (us : Forest) (w : Place) → Walk (Whole so_far) (steady v) inside x us w → Behind so_far v inside z (cons t) us w
    back us w (next {ts = vs} (many {ts = ts} e all) walk) = inner ts _ all vs w walk

-- ---- the last specifier, with no comma behind it

-- whatever is read there is this one and the bracket
last_from : {v : Surroundings} {x y : Place} {t : Tree} → OnlySpecifier v x t y → Stuck (pun "}") x → Stuck (pun ",") y → (us : Forest) (w : Place) → Walk (Whole so_far) (steady v) inside x us w → Behind so_far v closing y (part (list (part t none))) us w
last_from {v} {x} {y} {t} o c n us w (next {ts = vs} (many {ts = ts} e all) walk) = inner ts _ all vs w walk
  where
    inner : (ts : Forest) (p : Place) → Items (Whole so_far) v Commas (Specifiers From) x ts p → (us : Forest) (w : Place) → Walk (Whole so_far) (steady v) closing p us w → Behind so_far v closing y (part (list (part t none))) (part (list ts) us) w
    inner ts p (nil f) us w walk = absurd (stuck_not c (closing_found walk))
    inner ts p (last {y = y'} {t = t'} r e f) us w walk =
        let s = o.alone t' y' (before_close e (closing_found walk)) r in
        let there : y ≡ p = sym (nothing_trails y n) ∙ (ap (forth TrailingComma) s.1 ∙ e) in
        record { parts = us; is = λ i. part (list (part (s.0 i) none)) us; walk = subst (λ p. Walk (Whole so_far) (steady v) closing p us w) (sym there) walk }
    inner ts p (more {y = y'} {z = z'} {t = t'} m r e all) us w walk =
        let s = o.alone t' y' (before_comma e (whole_items_found of_so_far all)) r in
        absurd (stuck_not n (subst (λ q. IsTrue (is_found (forth (pun ",") q))) (sym s.1) (found_at e (whole_items_found of_so_far all))))

turn_end : {v : Surroundings} {x y : Place} {t : Tree} → OnlySpecifier v x t y → Stuck (pun "}") x → Stuck (pun ",") y → Turn so_far v inside closing x y (part (list (part t none)))
turn_end {y = y} {t = t} o c n = record { to = λ ts w walk. next (many refl (last (whole_before o) (nothing_trails y n) (end_found of_so_far o.reads))) walk; from = last_from o c n; rises = part_up (list (part t none)) }

-- ---- where nothing more stands

turn_shut : {v : Surroundings} {x z : Place} → Moves (pun "}") x z → Turn so_far v inside closing x x (part (list none))
turn_shut {v} {x} {z} m = record { to = λ ts w walk. next (many refl (nil (found_first (pun "}" ∷ []) x there))) walk; from = back; rises = part_up (list none) }
  where
    there : IsTrue (is_found (forth (pun "}") x))
    there = found_at (sym m.is) m.found

    inner : (ts : Forest) (p : Place) → Items (Whole so_far) v Commas (Specifiers From) x ts p → (us : Forest) (w : Place) → Walk (Whole so_far) (steady v) closing p us w → Behind so_far v closing x (part (list none)) (part (list ts) us) w
    inner ts p (nil f) us w walk = record { parts = us; is = refl; walk = walk }
    inner ts p (last r e f) us w walk = absurd (unmarked (codes "}") there r)
    inner ts p (more n r e all) us w walk = absurd (unmarked (codes "}") there r)

    back : (us : Forest) (w : Place) → Walk (Whole so_far) (steady v) inside x us w → Behind so_far v closing x (part (list none)) us w
    back us w (next {ts = vs} (many {ts = ts} e all) walk) = inner ts _ all vs w walk

both_none : (ts : Forest) → both ts none ≡ ts
both_none none = refl
both_none (part t ts) = ap (part t) (both_none ts)

-- ---- the steps of the loop

pub shut : {v : Surroundings} {x y z : Place} (ts : Forest) → Turn so_far v inside inside x y (prepend ts) → Moves (pun "}") y z → OnlyRow so_far v inside x (part (list ts) none) z
shut {v} {x} {z = z} ts so m = subst (λ us. OnlyRow so_far v inside x (part (list us) none) z) (both_none ts) (turn_only so (turn_only (turn_shut m) (closed m)))

pub none_more : {v : Surroundings} {x y y' : Place} {o : Fault} (ts : Forest) → Turn so_far v inside inside x y (prepend ts) → Missed (pun "}") y y' → NoSpecifier v y' o → NoRow so_far v inside x o
none_more {v} {y = y} {o = o} ts so m n = turn_none so (record { no = back })
  where
    here : NoSpecifier v y o
    here = subst (λ w. NoSpecifier v w o) (sym m.same) n

    inner : (ts : Forest) (p : Place) → Items (Whole so_far) v Commas (Specifiers From) y ts p → (us : Forest) (w : Place) → Walk (Whole so_far) (steady v) closing p us w → Shallow o (deepest ts) → Shallow o (deepest us) → ⊥
    inner ts p (nil f) us w walk h q' = stuck_not m.stuck (closing_found walk)
    inner ts p (last {y = y'} {t = t'} r e f) us w walk h q' = here.no t' y' (before_close e (closing_found walk)) r (shallow_head o t' none h)
    inner ts p (more {y = y'} {t = t'} {u = u'} {us = vs'} k r e all) us w walk h q' = here.no t' y' (before_comma e (whole_items_found of_so_far all)) r (shallow_head o t' (part u' vs') h)

    back : (us : Forest) (w : Place) → Walk (Whole so_far) (steady v) inside y us w → Shallow o (deepest us) → ⊥
    back us w (next {ts = vs} (many {ts = ts} e all) walk) s = inner ts _ all vs w walk (shallow_first o (one (list ts)) vs s) (shallow_rest o (one (list ts)) vs s)

specifier_at : {v : Surroundings} {y y' z : Place} {t : Tree} → Missed (pun "}") y y' → OnlySpecifier v y' t z → OnlySpecifier v y t z
specifier_at {v} {z = z} {t} n o = subst (λ p. OnlySpecifier v p t z) (sym n.same) o

pub one_more : {v : Surroundings} {x y y' z w : Place} {t : Tree} (ts us : Forest) → Turn so_far v inside inside x y (prepend ts) → Missed (pun "}") y y' → OnlySpecifier v y' t z → Moves (pun ",") z w → us ≡ both ts (part t none) → Turn so_far v inside inside x w (prepend us)
one_more {t = t} ts us so n o m e = turn_as (λ vs. prepend_cons ts t vs ∙ (λ i. prepend (sym e i) vs)) (turn_both so (turn_specifier (specifier_at n o) n.stuck m))

pub shut_behind : {v : Surroundings} {x y y' z z' w : Place} {t : Tree} (ts us : Forest) → Turn so_far v inside inside x y (prepend ts) → Missed (pun "}") y y' → OnlySpecifier v y' t z → Missed (pun ",") z z' → Only so_far v (Fixed (pun "}")) z' nothing w → us ≡ both ts (part t none) → OnlyRow so_far v inside x (part (list us) none) w
shut_behind {v} {x} {z = z} {z'} {w} {t} ts us so n o m k e =
    subst (λ vs. OnlyRow so_far v inside x (part (list vs) none) w) (sym e)
    (turn_only so (turn_only (turn_end (specifier_at n o) n.stuck m.stuck) (ended_sign here)))
  where
    here : Only so_far v (Fixed (pun "}")) z nothing w
    here = subst (λ p. Only so_far v (Fixed (pun "}")) p nothing w) (sym m.same) k

pub unshut : {v : Surroundings} {x y y' z z' : Place} {t : Tree} {e : Fault} (ts : Forest) → Turn so_far v inside inside x y (prepend ts) → Missed (pun "}") y y' → OnlySpecifier v y' t z → Missed (pun ",") z z' → Barred so_far v (Fixed (pun "}")) z' e → NoRow so_far v inside x e
unshut {v} {y = y} {z = z} {t = t} {e = e} ts so n o m b = turn_none so (record { no = λ us w walk s. let f = last_from (specifier_at n o) n.stuck m.stuck us w walk in here.no f.parts w f.walk (shallow_behind e (list (part t none)) f.parts us f.is s) })
  where
    here : NoRow so_far v closing z e
    here = bar (subst (λ p. Barred so_far v (Fixed (pun "}")) p e) (sym m.same) b)
