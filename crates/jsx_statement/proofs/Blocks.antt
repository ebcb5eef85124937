-- The statements of a block, up to its brace.
use Rattle.std.proofs.Common.{◌≡◌, true, not, List, [], ◌∷◌, refl, sym, ◌∙◌, ap, subst}
use Rattle.std.specs.Prelude.{IsTrue}
use Rattle.jsx_tree.specs.Kinds.{Block, statement, Tree, list, Forest, none, part}
use Rattle.jsx_tree.specs.Nonterminals.{Nonterminal, Stmt}
use Rattle.jsx_tree.specs.Grammar.{Context, Lines, Many, Part, Fixed, pun}
use Rattle.jsx_tree.specs.Reading.{Place, Lost, forth}
use Rattle.jsx_tree.specs.StaticRules.{Surroundings}
use Rattle.jsx_tree.specs.Walk.{is_found, one, Piece, piece, tail, Items, nil, last, more, many, tree, Walk, next, steady}
use Rattle.jsx_tree.specs.Language.{Language, Whole}
use Rattle.jsx_tree.specs.Answers.{Moves, Stuck, Missed, Only, Barred, OnlyRow, NoRow}
use Rattle.jsx_tree.specs.Faults.{Fault, Unread, Shallow, deepest}
use Rattle.jsx_tree.proofs.Tokens.{found_first}
use Rattle.jsx_tree.proofs.Apart.{clash}
use Rattle.jsx_tree.proofs.Rows.Stopping.{is_not}
use Rattle.jsx_tree.proofs.Rows.Bridge.{found_at}
use Rattle.jsx_tree.proofs.Rows.Laws.{Lawful, end_found}
use Rattle.jsx_tree.proofs.Rows.Closers.{closes}
use Rattle.jsx_tree.proofs.Rows.Lists.{brace, closed}
use Rattle.jsx_tree.proofs.Rows.Steps.{bar, both, no_sign}
use Rattle.jsx_tree.proofs.Rows.Turns.{From, Turn, cons, early, item_of, no_rest, prepend, prepend_cons, turn_as, turn_both, turn_none, turn_only, whole_of, cons_up}
use Rattle.jsx_tree.proofs.Depth.Shallow.{shallow_first, shallow_rest, shallow_head, part_up}
use Rattle.jsx_operand.specs.SoFar.{so_far}
use Rattle.jsx_token.specs.Marks.{row_so_far}
use Rattle.jsx_token.specs.Growths.{same_sign}
use Rattle.jsx_token.specs.Headings.{heading_sign}
use Rattle.jsx_token.specs.declared.heading.Heading.{Heading}
use Rattle.jsx_operand.proofs.OfSoFar.{of_so_far}
use Rattle.jsx_token.proofs.Headings.{of_heading}
use Rattle.jsx_token.proofs.Marks.{one_sign}
use Rattle.jsx_declaration.proofs.Statements.{coded, lost_if}
use Rattle.jsx_statement.proofs.Statements.{none_begins, stmts}

-- ---- the steps of the loop

-- one more statement: what stands behind it is such a list again
pub turn_line : {L : Language} {v : Surroundings} {a : List Context} {c : Nonterminal} {ps : List Piece} {x y : Place} {t : Tree} → Lawful L → no_rest c ≡ true → Only L (steady v a) (Part c) x (one t) y → NoRow L v ps x Unread → Turn L v (piece a (Many Lines c) ∷ ps) (piece a (Many Lines c) ∷ ps) x y (cons t)
turn_line {L} {v} {a} {c} {ps} {x} {y} {t} l early_c o n = record { to = forward; from = back; rises = cons_up t }
  where
    ahead : (ts : Forest) (p : Place) → Items (Whole L) (steady v a) Lines c y ts p → Items (Whole L) (steady v a) Lines c x (part t ts) p
    ahead none p (nil f) = last (whole_of o.past) refl f
    ahead (part u us) p all = more (early c t early_c (l.is_read (whole_of o.past).reads).is) (whole_of o.past) refl all

    forward : (ts : Forest) (w : Place) → Walk (Whole L) (steady v) (piece a (Many Lines c) ∷ ps) y ts w → Walk (Whole L) (steady v) (piece a (Many Lines c) ∷ ps) x (cons t ts) w
    forward ts w (next {ts = vs} (many {ts = us} e all) walk) = next (many refl (ahead us _ all)) walk

    inner : (ts : Forest) (p : Place) → Items (Whole L) (steady v a) Lines c x ts p → (us : Forest) (w : Place) → Walk (Whole L) (steady v) ps p us w → From L v (piece a (Many Lines c) ∷ ps) y (cons t) (part (list ts) us) w
    inner ts p (nil f) us w walk = absurd (n.no us w walk tt)
    inner ts p (last {y = y'} {t = t'} r e f) us w walk =
        let same = o.alone (one t') y' (tree r) in
        let there : y ≡ p = same.1 ∙ e in
        record { parts = part (list none) us; is = λ i. part (list (part (item_of (same.0 i)) none)) us; walk = next (many refl (nil (end_found l (whole_of o.past).reads))) (subst (λ q. Walk (Whole L) (steady v) ps q us w) (sym there) walk) }
    inner ts p (more {y = y'} {z = z'} {t = t'} {u = u} {us = vs} early' r e all) us w walk =
        let same = o.alone (one t') y' (tree r) in
        let there : y ≡ z' = same.1 ∙ e in
        record { parts = part (list (part u vs)) us; is = λ i. part (list (part (item_of (same.0 i)) (part u vs))) us; walk = next (many refl (subst (λ q. Items (Whole L) (steady v a) Lines c q (part u vs) p) (sym there) all)) walk }

    back : (us : Forest) (w : Place) → Walk (Whole L) (steady v) (piece a (Many Lines c) ∷ ps) x us w → From L v (piece a (Many Lines c) ∷ ps) y (cons t) us w
    back us w (next {ts = vs} (many {ts = ts} e all) walk) = inner ts _ all vs w walk

-- nothing stands in it
pub turn_none_left : {L : Language} {v : Surroundings} {a : List Context} {c : Nonterminal} {ps : List Piece} {x : Place} → IsTrue (is_found x) → Barred L (steady v a) (Part c) x Unread → Turn L v (piece a (Many Lines c) ∷ ps) ps x x (part (list none))
turn_none_left {L} {v} {a} {c} {ps} {x} f b = record { to = λ ts w walk. next (many refl (nil f)) walk; from = back; rises = part_up (list none) }
  where
    inner : (ts : Forest) (y : Place) → Items (Whole L) (steady v a) Lines c x ts y → (us : Forest) (w : Place) → Walk (Whole L) (steady v) ps y us w → From L v ps x (part (list none)) (part (list ts) us) w
    inner ts y (nil g) us w walk = record { parts = us; is = refl; walk = walk }
    inner ts y (last r e g) us w walk = absurd (b.no _ _ (tree r) tt)
    inner ts y (more n r e all) us w walk = absurd (b.no _ _ (tree r) tt)

    back : (us : Forest) (w : Place) → Walk (Whole L) (steady v) (piece a (Many Lines c) ∷ ps) x us w → From L v ps x (part (list none)) us w
    back us w (next {ts = vs} (many {ts = ts} e all) walk) = inner ts _ all vs w walk

abbrev pub braced : List Piece
braced = tail (row_so_far (statement Block))

unbraced : {v : Surroundings} {x : Place} {e : Fault} → Stuck (pun "}") x → NoRow so_far v (piece [] (Fixed (pun "}")) ∷ []) x e
unbraced n = bar (no_sign n)

pub line_more : {v : Surroundings} {x y y' z : Place} {t : Tree} (ts us : Forest) → Turn so_far v braced braced x y (prepend ts) → Missed (pun "}") y y' → Only so_far v (Part Stmt) y' (one t) z → us ≡ both ts (part t none) → Turn so_far v braced braced x z (prepend us)
line_more {v} {z = z} {t = t} ts us so n o e = turn_as (λ vs. prepend_cons ts t vs ∙ (λ i. prepend (sym e i) vs)) (turn_both so (turn_line of_so_far refl (subst (λ p. Only so_far v (Part Stmt) p (one t) z) (sym n.same) o) (unbraced n.stuck)))

no_lines : {v : Surroundings} {x : Place} {o : Fault} → Barred so_far v (Part Stmt) x o → Stuck (pun "}") x → NoRow so_far v braced x o
no_lines {v} {x} {o = o} b n = record { no = back }
  where
    inner : (ts : Forest) (y : Place) → Items (Whole so_far) v Lines Stmt x ts y → (us : Forest) (w : Place) → Walk (Whole so_far) (steady v) (piece [] (Fixed (pun "}")) ∷ []) y us w → Shallow o (deepest ts) → Shallow o (deepest us) → ⊥
    inner ts y (nil f) us w walk h q' = (unbraced n).no us w walk q'
    inner ts y (last {t = t'} r e f) us w walk h q' = b.no _ _ (tree r) (shallow_head o t' none h)
    inner ts y (more {t = t'} {u = u'} {us = vs'} m r e all) us w walk h q' = b.no _ _ (tree r) (shallow_head o t' (part u' vs') h)

    back : (us : Forest) (w : Place) → Walk (Whole so_far) (steady v) braced x us w → Shallow o (deepest us) → ⊥
    back us w (next {ts = vs} (many {ts = ts} e all) walk) s = inner ts _ all vs w walk (shallow_first o (one (list ts)) vs s) (shallow_rest o (one (list ts)) vs s)

pub line_barred : {v : Surroundings} {x y y' : Place} {e : Fault} (ts : Forest) → Turn so_far v braced braced x y (prepend ts) → Missed (pun "}") y y' → Barred so_far v (Part Stmt) y' e → NoRow so_far v braced x e
line_barred {v} {e = e} ts so n b = turn_none so (no_lines (subst (λ p. Barred so_far v (Part Stmt) p e) (sym n.same) b) n.stuck)

-- ---- the brace

pub no_heading : {y z : Place} → Moves (pun "}") y z → (h : Heading) → forth (heading_sign h) y ≡ Lost
no_heading {y} m h = lost_if (forth (heading_sign h) y) (λ f. at h (one_sign (heading_sign h) (pun "}") y (coded h) refl f (found_at (sym m.is) m.found)))
  where
    at : (h : Heading) → same_sign (heading_sign h) (pun "}") ≡ true → ⊥
    at h e = clash _ e (is_not _ (of_heading (λ j. not (same_sign (heading_sign j) (pun "}"))) refl h))

pub both_none : (ts : Forest) → both ts none ≡ ts
both_none none = refl
both_none (part t ts) = ap (part t) (both_none ts)

pub line_ended : {v : Surroundings} {x y z : Place} (ts : Forest) → Turn so_far v braced braced x y (prepend ts) → Moves (pun "}") y z → OnlyRow so_far v braced x (part (list ts) none) z
line_ended {v} {x} {y} {z} ts so m =
    let there = found_at (sym m.is) m.found in
    subst (λ us. OnlyRow so_far v braced x (part (list us) none) z) (both_none ts)
    (turn_only so (turn_only (turn_none_left (found_first (pun "}" ∷ []) y there) (none_begins stmts (record { on = no_heading m }) (closes brace there))) (closed m)))
