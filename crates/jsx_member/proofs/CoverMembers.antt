-- What stands in an object up to its `}`, of a literal's row and of that of the pattern that assigns: as a loop reads both (ECMA-262 sections 13.2.5 and 13.15.5). It is what stands behind a member that tells, so all is said of what ends before a comma or the brace.
use Rattle.std.proofs.Common.{◌≡◌, Bool, true, false, List, [], ◌∷◌, refl, sym, ◌∙◌, ap, subst}
use Rattle.std.specs.Prelude.{IsTrue}
use Rattle.jsx_tree.specs.Signs.{Sign, TrailingComma}
use Rattle.jsx_tree.specs.Kinds.{Tree, list, Forest, none, part}
use Rattle.jsx_tree.specs.Nonterminals.{Nonterminal}
use Rattle.jsx_tree.specs.Grammar.{Commas, Fixed, Many, pun}
use Rattle.jsx_tree.specs.Form.{is_last}
use Rattle.jsx_tree.specs.Reading.{Place, Lost, At, forth}
use Rattle.jsx_tree.specs.StaticRules.{Surroundings}
use Rattle.jsx_tree.specs.Walk.{is_found, nothing, one, Piece, piece, Items, nil, last, more, sign, many, Walk, done, next, steady, Past}
use Rattle.jsx_tree.specs.Language.{Whole}
use Rattle.jsx_tree.specs.Answers.{Moves, Stuck, Missed, Only, Barred, OnlyRow, NoRow}
use Rattle.jsx_tree.specs.Faults.{Fault, Shallow, part_depth, deepest}
use Rattle.jsx_tree.proofs.Apart.{clash}
use Rattle.jsx_tree.proofs.Rows.Bridge.{found_first, found_at}
use Rattle.jsx_tree.proofs.Rows.Guarded.{whole_items_found}
use Rattle.jsx_tree.proofs.Rows.Laws.{end_found}
use Rattle.jsx_tree.proofs.Rows.Turns.{cons, comma_trails, nothing_trails}
use Rattle.jsx_tree.proofs.Depth.Shallow.{shallow_first, shallow_rest, shallow_head, shallow_tail}
use Rattle.jsx_operand.specs.Members.{Closed, by_brace, by_comma}
use Rattle.jsx_operand.specs.SoFar.{Staged, so_far}
use Rattle.jsx_token.specs.Marks.{ends_so_far}
use Rattle.jsx_operand.proofs.OfSoFar.{of_so_far}
use Rattle.jsx_member.proofs.CoverItems.{Ends, Kept, Lasts, Longer, Step, StepFrom, kept_last, kept_row, kept_shut, kept_step}

-- what closes an object, and what stands behind its `{`
abbrev pub closing : List Piece
closing = piece [] (Fixed (pun "}")) ∷ []

abbrev pub inside : Nonterminal → List Piece
inside c = piece [] (Many Commas c) ∷ closing

stuck_not : {s : Sign} {x : Place} → Stuck s x → IsTrue (is_found (forth s x)) → ⊥
stuck_not k f = let bad : IsTrue (is_found Lost) = subst (λ p. IsTrue (is_found p)) k.is f in cc

lost_from : (x : Place) → (IsTrue (is_found x) → ⊥) → x ≡ Lost
lost_from Lost n = refl
lost_from (At q e text) n = absurd (n refl)

closing_found : {v : Surroundings} {x w : Place} {us : Forest} → Walk (Whole so_far) (steady v) closing x us w → IsTrue (is_found (forth (pun "}") x))
closing_found (next (sign e f) walk) = found_at e f

-- ---- a place of members: what is so of both

pub record Braced (c : Nonterminal) : Type 0 where
  pub none : {v : Surroundings} {x z : Place} (u : Tree) → IsTrue (is_found (forth (pun "}") x)) → Whole so_far v false c x u z → ⊥
  -- what only stands last has no comma behind it
  pub early : {v : Surroundings} {x y : Place} (t : Tree) → Staged v false c x t y → IsTrue (is_found (forth (pun ",") y)) → is_last t ≡ false
  pub comma_ends : (y : Place) → IsTrue (is_found (forth (pun ",") y)) → ends_so_far c y ≡ true
  pub close_ends : (y : Place) → IsTrue (is_found (forth (pun "}") y)) → ends_so_far c y ≡ true

-- of a place these trees stand there, and no others that end where a member may
pub record FillsClosed (v : Surroundings) (c : Nonterminal) (x : Place) (P : Tree → Type 0) (y : Place) : Type 0 where
  pub reads : (t : Tree) → P t → Staged v false c x t y
  pub alone : (u : Tree) (z : Place) → Closed z → Whole so_far v false c x u z → P u × (y ≡ z)

pub record NoneCloses (v : Surroundings) (c : Nonterminal) (x : Place) (e : Fault) : Type 0 where
  pub no : (u : Tree) (z : Place) → Closed z → Whole so_far v false c x u z → Shallow e (part_depth u) → ⊥

-- behind a member of the list stands a comma, or the brace
before_comma : {x z : Place} → forth (pun ",") x ≡ z → IsTrue (is_found z) → Closed x
before_comma e f = by_comma (found_at e f)

before_close : {y p : Place} → forth TrailingComma y ≡ p → IsTrue (is_found (forth (pun "}") p)) → Closed y
before_close {y} {p} e f = by (is_found (forth (pun ",") y)) refl
  where
    by : (b : Bool) → is_found (forth (pun ",") y) ≡ b → Closed y
    by true h = by_comma h
    by false h = by_brace (subst (λ q. IsTrue (is_found (forth (pun "}") q))) (sym e ∙ nothing_trails y (record { is = lost_from _ (λ g. clash _ g h) })) f)

-- ---- a member and a comma

member_step : {v : Surroundings} {c : Nonterminal} {x y z : Place} {P : Tree → Type 0} → Braced c → FillsClosed v c x P y → Stuck (pun "}") x → Moves (pun ",") y z → Step v (inside c) x P z
member_step {v} {c} {x} {y} {z} {P} h o s m = record { to = forward; from = back }
  where
    there : IsTrue (is_found (forth (pun ",") y))
    there = found_at (sym m.is) m.found

    whole : (t : Tree) → P t → Whole so_far v false c x t y
    whole t q = record { reads = o.reads t q; ends_there = h.comma_ends y there }

    ahead : (t : Tree) → P t → (ts : Forest) (p : Place) → Items (Whole so_far) v Commas c z ts p → Items (Whole so_far) v Commas c x (part t ts) p
    ahead t q none p (nil f) = last (whole t q) (comma_trails m) m.found
    ahead t q (part u none) p all = more (h.early t (o.reads t q) there) (whole t q) (sym m.is) all
    ahead t q (part u (part u' us)) p all = more (h.early t (o.reads t q) there) (whole t q) (sym m.is) all

    forward : (t : Tree) (ts : Forest) (w : Place) → P t → Walk (Whole so_far) (steady v) (inside c) z ts w → Walk (Whole so_far) (steady v) (inside c) x (cons t ts) w
    forward t ts w q (next {ts = vs} (many {ts = us} e all) walk) = next (many refl (ahead t q us _ all)) walk

    inner : (ts : Forest) (p : Place) → Items (Whole so_far) v Commas c x ts p → (us : Forest) (w : Place) → Walk (Whole so_far) (steady v) closing p us w → StepFrom v (inside c) z P (part (list ts) us) w
    inner ts p (nil f) us w walk = absurd (stuck_not s (closing_found walk))
    inner ts p (last {y = y'} {t = t'} r e f) us w walk =
        let k = o.alone t' y' (before_close e (closing_found walk)) r in
        let place : z ≡ p = sym (comma_trails m) ∙ (ap (forth TrailingComma) k.1 ∙ e) in
        record { item = t'; among = k.0; rest = part (list none) us; is = refl; walk = next (many refl (nil m.found)) (subst (λ p. Walk (Whole so_far) (steady v) closing p us w) (sym place) walk) }
    inner ts p (more {y = y'} {z = z'} {t = t'} {u = u} {us = vs} n r e all) us w walk =
        let k = o.alone t' y' (before_comma e (whole_items_found of_so_far all)) r in
        let place : z ≡ z' = m.is ∙ (ap (forth (pun ",")) k.1 ∙ e) in
        record { item = t'; among = k.0; rest = part (list (part u vs)) us; is = refl; walk = next (many refl (subst (λ q. Items (Whole so_far) v Commas c q (part u vs) p) (sym place) all)) walk }

    back : (us : Forest) (w : Place) → Walk (Whole so_far) (steady v) (inside c) x us w → StepFrom v (inside c) z P us w
    back us w (next {ts = vs} (many {ts = ts} e all) walk) = inner ts _ all vs w walk

-- ---- the last member, with no comma behind it

record EndFrom (v : Surroundings) (y : Place) (P : Tree → Type 0) (us : Forest) (w : Place) : Type 0 where
  item : Tree
  among : P item
  rest : Forest
  is : us ≡ part (list (part item none)) rest
  walk : Walk (Whole so_far) (steady v) closing y rest w

-- whatever is read there is this one and the brace
end_from : {v : Surroundings} {c : Nonterminal} {x y : Place} {P : Tree → Type 0} → FillsClosed v c x P y → Stuck (pun "}") x → Stuck (pun ",") y → (us : Forest) (w : Place) → Walk (Whole so_far) (steady v) (inside c) x us w → EndFrom v y P us w
end_from {v} {c} {x} {y} {P} o s n us w (next {ts = vs} (many {ts = ts} e all) walk) = inner ts _ all vs w walk
  where
    inner : (ts : Forest) (p : Place) → Items (Whole so_far) v Commas c x ts p → (us : Forest) (w : Place) → Walk (Whole so_far) (steady v) closing p us w → EndFrom v y P (part (list ts) us) w
    inner ts p (nil f) us w walk = absurd (stuck_not s (closing_found walk))
    inner ts p (last {y = y'} {t = t'} r e f) us w walk =
        let k = o.alone t' y' (before_close e (closing_found walk)) r in
        let place : y ≡ p = sym (nothing_trails y n) ∙ (ap (forth TrailingComma) k.1 ∙ e) in
        record { item = t'; among = k.0; rest = us; is = refl; walk = subst (λ p. Walk (Whole so_far) (steady v) closing p us w) (sym place) walk }
    inner ts p (more {y = y'} {z = z'} {t = t'} m r e all) us w walk =
        let k = o.alone t' y' (before_comma e (whole_items_found of_so_far all)) r in
        absurd (stuck_not n (subst (λ q. IsTrue (is_found (forth (pun ",") q))) (sym k.1) (found_at e (whole_items_found of_so_far all))))

closed_only : {v : Surroundings} {x w : Place} {us : Forest} {z : Place} → Moves (pun "}") x z → Walk (Whole so_far) (steady v) closing x us w → (us ≡ none) × (z ≡ w)
closed_only m (next (sign e f) (done g)) = (refl, m.is ∙ e)

member_last : {v : Surroundings} {c : Nonterminal} {x y z : Place} {P : Tree → Type 0} → Braced c → FillsClosed v c x P y → Stuck (pun "}") x → Stuck (pun ",") y → Moves (pun "}") y z → Lasts v (inside c) x P z
member_last {v} {c} {x} {y} {z} {P} h o s n m = record {
  reads = λ t q. next (many refl (last (record { reads = o.reads t q; ends_there = h.close_ends y (found_at (sym m.is) m.found) }) (nothing_trails y n) (end_found of_so_far (o.reads t q)))) (next (sign (sym m.is) m.found) (done m.found));
  alone = λ us w walk.
      let f = end_from o s n us w walk in
      let e = closed_only m f.walk in
      (record { item = f.item; among = f.among; is = f.is ∙ ap (part (list (part f.item none))) e.0 }, e.1);
}

-- ---- where nothing more stands

shut_only : {v : Surroundings} {c : Nonterminal} {x z : Place} → Braced c → Moves (pun "}") x z → OnlyRow so_far v (inside c) x (part (list none) none) z
shut_only {v} {c} {x} {z} h m = record { walk = next (many refl (nil (found_first (pun "}" ∷ []) x there))) (next (sign (sym m.is) m.found) (done m.found)); alone = back }
  where
    there : IsTrue (is_found (forth (pun "}") x))
    there = found_at (sym m.is) m.found

    inner : (ts : Forest) (p : Place) → Items (Whole so_far) v Commas c x ts p → (us : Forest) (w : Place) → Walk (Whole so_far) (steady v) closing p us w → (part (list none) none ≡ part (list ts) us) × (z ≡ w)
    inner ts p (nil f) us w walk = let e = closed_only m walk in (ap (part (list none)) (sym e.0), e.1)
    inner ts p (last {t = t} r e f) us w walk = absurd (h.none t there r)
    inner ts p (more {t = t} n r e all) us w walk = absurd (h.none t there r)

    back : (us : Forest) (w : Place) → Walk (Whole so_far) (steady v) (inside c) x us w → (part (list none) none ≡ us) × (z ≡ w)
    back us w (next {ts = vs} (many {ts = ts} e all) walk) = inner ts _ all vs w walk

-- ---- the steps of the loop

filled_at : {v : Surroundings} {c : Nonterminal} {x x' y : Place} {P : Tree → Type 0} → Missed (pun "}") x x' → FillsClosed v c x' P y → FillsClosed v c x P y
filled_at {v} {c} {y = y} {P} m o = subst (λ p. FillsClosed v c p P y) (sym m.same) o

pub member_more : {v : Surroundings} {c : Nonterminal} {x y y' z w : Place} {Q R : Forest → Type 0} {P : Tree → Type 0} → Braced c → Longer Q P R → Kept v (inside c) x Q y → Missed (pun "}") y y' → FillsClosed v c y' P z → Moves (pun ",") z w → Kept v (inside c) x R w
member_more h l k n o m = kept_step l k (member_step h (filled_at n o) n.stuck m)

pub shut : {v : Surroundings} {c : Nonterminal} {x y z : Place} {Q : Forest → Type 0} → Braced c → Kept v (inside c) x Q y → Moves (pun "}") y z → Ends v (inside c) x Q z
shut h k m = kept_shut k (shut_only h m)

pub none_more : {v : Surroundings} {c : Nonterminal} {x y y' : Place} {Q : Forest → Type 0} {o : Fault} → Kept v (inside c) x Q y → Missed (pun "}") y y' → NoneCloses v c y' o → NoRow so_far v (inside c) x o
none_more {v} {c} {y = y} {o = o} k m n = kept_row k (record { no = back })
  where
    here : NoneCloses v c y o
    here = subst (λ w. NoneCloses v c w o) (sym m.same) n

    inner : (ts : Forest) (p : Place) → Items (Whole so_far) v Commas c y ts p → (us : Forest) (w : Place) → Walk (Whole so_far) (steady v) closing p us w → Shallow o (deepest ts) → Shallow o (deepest us) → ⊥
    inner ts p (nil f) us w walk h q' = stuck_not m.stuck (closing_found walk)
    inner ts p (last {y = y'} {t = t'} r e f) us w walk h q' = here.no t' y' (before_close e (closing_found walk)) r (shallow_head o t' none h)
    inner ts p (more {y = y'} {t = t'} {u = u'} {us = vs'} k r e all) us w walk h q' = here.no t' y' (before_comma e (whole_items_found of_so_far all)) r (shallow_head o t' (part u' vs') h)

    back : (us : Forest) (w : Place) → Walk (Whole so_far) (steady v) (inside c) y us w → Shallow o (deepest us) → ⊥
    back us w (next {ts = vs} (many {ts = ts} e all) walk) s = inner ts _ all vs w walk (shallow_first o (one (list ts)) vs s) (shallow_rest o (one (list ts)) vs s)

pub shut_behind : {v : Surroundings} {c : Nonterminal} {x y y' z z' w : Place} {Q R : Forest → Type 0} {P : Tree → Type 0} → Braced c → Longer Q P R → Kept v (inside c) x Q y → Missed (pun "}") y y' → FillsClosed v c y' P z → Missed (pun ",") z z' → Only so_far v (Fixed (pun "}")) z' nothing w → Ends v (inside c) x R w
shut_behind {v} {z = z} {z'} {w} h l k n o m e = kept_last l k (member_last h (filled_at n o) n.stuck m.stuck (subst (λ p. Moves (pun "}") p w) (sym m.same) (at e.past)))
  where
    at : {p : Place} → Past (Whole so_far) v (Fixed (pun "}")) p nothing w → Moves (pun "}") p w
    at (sign e f) = record { is = sym e; found = f }

pub unshut : {v : Surroundings} {c : Nonterminal} {x y y' z z' : Place} {Q : Forest → Type 0} {P : Tree → Type 0} {e : Fault} → Kept v (inside c) x Q y → Missed (pun "}") y y' → FillsClosed v c y' P z → Missed (pun ",") z z' → Barred so_far v (Fixed (pun "}")) z' e → NoRow so_far v (inside c) x e
unshut {v} {z = z} {e = e} k n o m s = kept_row k (record { no = λ us w walk h. let f = end_from (filled_at n o) n.stuck m.stuck us w walk in at f.walk (shallow_tail e (list (part f.item none)) f.rest (subst (λ ts. Shallow e (deepest ts)) f.is h)) })
  where
    here : Barred so_far v (Fixed (pun "}")) z e
    here = subst (λ w. Barred so_far v (Fixed (pun "}")) w e) (sym m.same) s

    at : {us : Forest} {w : Place} → Walk (Whole so_far) (steady v) closing z us w → Shallow e (deepest us) → ⊥
    at (next {g = g'} {ts = us'} q walk) s = here.no _ _ q (shallow_first e g' us' s)
