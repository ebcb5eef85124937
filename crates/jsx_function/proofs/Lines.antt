-- Trees on lines of their own, up to a sign: as a loop reads them.
use Rattle.std.proofs.Common.{◌≡◌, true, List, [], ◌∷◌, refl, sym, ◌∙◌, subst}
use Rattle.std.specs.Prelude.{IsTrue}
use Rattle.jsx_tree.specs.Kinds.{Tree, list, Forest, none, part}
use Rattle.jsx_tree.specs.Nonterminals.{Nonterminal}
use Rattle.jsx_tree.specs.Grammar.{Context, Lines, Many, Part}
use Rattle.jsx_tree.specs.Reading.{Place}
use Rattle.jsx_tree.specs.StaticRules.{Surroundings}
use Rattle.jsx_tree.specs.Walk.{is_found, one, Piece, piece, Items, nil, last, more, many, tree, Walk, next, steady}
use Rattle.jsx_tree.specs.Language.{Language, Whole}
use Rattle.jsx_tree.specs.Answers.{Only, Barred, NoRow}
use Rattle.jsx_tree.specs.Faults.{Unread}
use Rattle.jsx_tree.proofs.Rows.Laws.{Lawful, end_found}
use Rattle.jsx_tree.proofs.Rows.Turns.{From, Turn, cons, early, item_of, no_rest, whole_of, cons_up}
use Rattle.jsx_tree.proofs.Depth.Shallow.{part_up}

-- one more of them: what stands behind it is such a list again
pub turn_line : {L : Language} {v : Surroundings} {a : List Context} {c : Nonterminal} {ps : List Piece} {x y : Place} {t : Tree} → Lawful L → no_rest c ≡ true → Only L (steady v a) (Part c) x (one t) y → NoRow L v ps x Unread → Turn L v (piece a (Many Lines c) ∷ ps) (piece a (Many Lines c) ∷ ps) x y (cons t)
turn_line {L} {v} {a} {c} {ps} {x} {y} {t} l early_c o n = record { to = forward; from = back; rises = cons_up t }
  where
    ahead : (ts : Forest) (p : Place) → Items (Whole L) (steady v a) Lines c y ts p → Items (Whole L) (steady v a) Lines c x (part t ts) p
    ahead none p (nil f) = last (whole_of o.past) refl f
    ahead (part u us) p all = more (early c t early_c (l.is_read (whole_of o.past).reads).is) (whole_of o.past) refl all

    forward : (ts : Forest) (w : Place) → Walk (Whole L) (steady v) (piece a (Many Lines c) ∷ ps) y ts w → Walk (Whole L) (steady v) (piece a (Many Lines c) ∷ ps) x (cons t ts) w
    forward ts w (next {ts = vs} (many {ts = us} e all) walk) = next (many refl (ahead us _ all)) walk

    inner : (ts : Forest) (p : Place) → Items (Whole L) (steady v a) Lines c x ts p → (us : Forest) (w : Place) → Walk (Whole L) (steady v) ps p us w → From L v (piece a (Many Lines c) ∷ ps) y (cons t) (part (list ts) us) w
    inner ts p (nil f) us w walk = absurd (n.no us w walk tt)
    inner ts p (last {y = y'} {t = t'} r e f) us w walk =
        let same = o.alone (one t') y' (tree r) in
        let there : y ≡ p = same.1 ∙ e in
        record { parts = part (list none) us; is = λ i. part (list (part (item_of (same.0 i)) none)) us; walk = next (many refl (nil (end_found l (whole_of o.past).reads))) (subst (λ q. Walk (Whole L) (steady v) ps q us w) (sym there) walk) }
    inner ts p (more {y = y'} {z = z'} {t = t'} {u = u} {us = vs} early' r e all) us w walk =
        let same = o.alone (one t') y' (tree r) in
        let there : y ≡ z' = same.1 ∙ e in
        record { parts = part (list (part u vs)) us; is = λ i. part (list (part (item_of (same.0 i)) (part u vs))) us; walk = next (many refl (subst (λ q. Items (Whole L) (steady v a) Lines c q (part u vs) p) (sym there) all)) walk }

    back : (us : Forest) (w : Place) → Walk (Whole L) (steady v) (piece a (Many Lines c) ∷ ps) x us w → From L v (piece a (Many Lines c) ∷ ps) y (cons t) us w
    back us w (next {ts = vs} (many {ts = ts} e all) walk) = inner ts _ all vs w walk

-- nothing stands in it
pub turn_none_left : {L : Language} {v : Surroundings} {a : List Context} {c : Nonterminal} {ps : List Piece} {x : Place} → IsTrue (is_found x) → Barred L (steady v a) (Part c) x Unread → Turn L v (piece a (Many Lines c) ∷ ps) ps x x (part (list none))
turn_none_left {L} {v} {a} {c} {ps} {x} f b = record { to = λ ts w walk. next (many refl (nil f)) walk; from = back; rises = part_up (list none) }
  where
    inner : (ts : Forest) (y : Place) → Items (Whole L) (steady v a) Lines c x ts y → (us : Forest) (w : Place) → Walk (Whole L) (steady v) ps y us w → From L v ps x (part (list none)) (part (list ts) us) w
    inner ts y (nil g) us w walk = record { parts = us; is = refl; walk = walk }
    inner ts y (last r e g) us w walk = absurd (b.no _ _ (tree r) tt)
    inner ts y (more n r e all) us w walk = absurd (b.no _ _ (tree r) tt)

    back : (us : Forest) (w : Place) → Walk (Whole L) (steady v) (piece a (Many Lines c) ∷ ps) x us w → From L v ps x (part (list none)) us w
    back us w (next {ts = vs} (many {ts = ts} e all) walk) = inner ts _ all vs w walk
