-- What a row reads from one place is what another reads from a later one, with more in front.
use Rattle.std.proofs.Common.{◌≡◌, ◌≤◌, nat_eq, Bool, true, false, cond, not, List, [], ◌∷◌, refl, sym, ◌∙◌, ap, subst, arith}
use Rattle.std.proofs.lemmas.Bool.{eqb-true}
use Rattle.std.specs.Prelude.{IsTrue, codes, ◌||◌}
use Rattle.jsx_base.specs.Token.{Text, Operator, Punctuator, is_token, at_front, breaks, skip, token, same, first_is}
use Rattle.jsx_tree.specs.Signs.{TrailingComma, AfterExpr}
use Rattle.jsx_tree.specs.Kinds.{Tree, leaf, node, list, Kind, RestPat, RestProperty, Binds, Assigns, program, statement, function, expression, jsx, Forest, none, part}
use Rattle.jsx_tree.specs.Nonterminals.{Nonterminal, in_homes, homes}
use Rattle.jsx_tree.specs.Grammar.{Commas, NoTrailing, Context, Symbol, Part, Many, pun}
use Rattle.jsx_tree.specs.Form.{admits, enough, fits_below, is, is_last, last_kind}
use Rattle.jsx_tree.specs.Reading.{Place, Lost, At, forth, go_if}
use Rattle.jsx_tree.specs.StaticRules.{Surroundings}
use Rattle.jsx_tree.proofs.Tokens.{and_left}
use Rattle.jsx_tree.proofs.Apart.{clash}
use Rattle.jsx_tree.proofs.Signs.{comma_too}
use Rattle.jsx_tree.specs.Walk.{is_found, Given, nothing, one, with, Piece, piece, Items, nil, last, more, Past, tree, many, Walk, next, steady}
use Rattle.jsx_tree.specs.Language.{Language, Whole}
use Rattle.jsx_tree.specs.Answers.{Moves, Stuck, Only, Barred, OnlyRow, NoRow}
use Rattle.jsx_tree.specs.Faults.{Fault, Unread, Shallow, deepest}
use Rattle.jsx_tree.proofs.Rows.Bridge.{found_at}
use Rattle.jsx_tree.proofs.Rows.Guarded.{whole_items_found}
use Rattle.jsx_tree.proofs.Rows.Laws.{Lawful, end_found}
use Rattle.jsx_tree.proofs.Rows.Stopping.{is_not}
use Rattle.jsx_tree.proofs.Rows.Firsts.{kind_home}
use Rattle.jsx_tree.proofs.Rows.Closers.{starts_with}
use Rattle.jsx_tree.proofs.Rows.Steps.{both, both_up}
use Rattle.jsx_tree.proofs.Depth.Shallow.{shallow_up, with_up, part_up}

-- the row ps from x gives f of what the row qs gives from y, which is no deeper
pub record From (L : Language) (v : Surroundings) (qs : List Piece) (y : Place) (f : Forest → Forest) (us : Forest) (w : Place) : Type 0 where
  pub parts : Forest
  pub is : f parts ≡ us
  pub walk : Walk (Whole L) (steady v) qs y parts w

pub record Turn (L : Language) (v : Surroundings) (ps qs : List Piece) (x y : Place) (f : Forest → Forest) : Type 0 where
  pub to : (ts : Forest) (w : Place) → Walk (Whole L) (steady v) qs y ts w → Walk (Whole L) (steady v) ps x (f ts) w
  pub from : (us : Forest) (w : Place) → Walk (Whole L) (steady v) ps x us w → From L v qs y f us w
  pub rises : (us : Forest) → deepest us ≤ deepest (f us)

pub turn_only : {L : Language} {v : Surroundings} {ps qs : List Piece} {x y : Place} {f : Forest → Forest} {ts : Forest} {w : Place} → Turn L v ps qs x y f → OnlyRow L v qs y ts w → OnlyRow L v ps x (f ts) w
turn_only {L} {v} {ps} {x = x} {f = f} {ts = ts} {w = w} t o = record { walk = t.to ts w o.walk; alone = at }
  where
    at : (us : Forest) (z : Place) → Walk (Whole L) (steady v) ps x us z → (f ts ≡ us) × (w ≡ z)
    at us z walk = let r = t.from us z walk in let s = o.alone r.parts z r.walk in (ap f s.0 ∙ r.is, s.1)

-- what is left to read is no deeper than all of it
pub turn_shallow : {L : Language} {v : Surroundings} {ps qs : List Piece} {x y : Place} {f : Forest → Forest} (e : Fault) (t : Turn L v ps qs x y f) (us : Forest) (w : Place) (walk : Walk (Whole L) (steady v) ps x us w) → Shallow e (deepest us) → Shallow e (deepest (t.from us w walk).parts)
turn_shallow e t us w walk s = let r = t.from us w walk in shallow_up e (deepest r.parts) (deepest us) (subst (λ ts. deepest r.parts ≤ deepest ts) r.is (t.rises r.parts)) s

pub turn_none : {L : Language} {v : Surroundings} {ps qs : List Piece} {x y : Place} {f : Forest → Forest} {e : Fault} → Turn L v ps qs x y f → NoRow L v qs y e → NoRow L v ps x e
turn_none {e = e} t n = record { no = λ us w walk s. let r = t.from us w walk in n.no r.parts w r.walk (turn_shallow e t us w walk s) }

pub turn_same : {L : Language} {v : Surroundings} {ps : List Piece} {x : Place} → Turn L v ps ps x x (λ ts. ts)
turn_same = record { to = λ ts w walk. walk; from = λ us w walk. record { parts = us; is = refl; walk = walk }; rises = same }
  where
    same : (us : Forest) → deepest us ≤ deepest us
    same us = omega arith

pub turn_both : {L : Language} {v : Surroundings} {ps qs rs : List Piece} {x y z : Place} {f g : Forest → Forest} → Turn L v ps qs x y f → Turn L v qs rs y z g → Turn L v ps rs x z (λ ts. f (g ts))
turn_both {f = f} {g = g} t u = record {
  to = λ ts w walk. t.to (g ts) w (u.to ts w walk);
  from = λ us w walk. let r = t.from us w walk in let s = u.from r.parts w r.walk in record { parts = s.parts; is = ap f s.is ∙ r.is; walk = s.walk };
  rises = λ us. let p = u.rises us in let q = t.rises (g us) in omega (arith, p, q);
}

pub turn_as : {L : Language} {v : Surroundings} {ps qs : List Piece} {x y : Place} {f g : Forest → Forest} → ((ts : Forest) → f ts ≡ g ts) → Turn L v ps qs x y f → Turn L v ps qs x y g
turn_as {L} {v} {ps} {x = x} e t = record {
  to = λ ts w walk. subst (λ us. Walk (Whole L) (steady v) ps x us w) (e ts) (t.to ts w walk);
  from = λ us w walk. let r = t.from us w walk in record { parts = r.parts; is = sym (e r.parts) ∙ r.is; walk = r.walk };
  rises = λ us. subst (λ ts. deepest us ≤ deepest ts) (e us) (t.rises us);
}

-- ---- one symbol

pub turn_symbol : {L : Language} {v : Surroundings} {a : List Context} {p : Symbol} {ps : List Piece} {x y : Place} {g : Given} → Only L (steady v a) p x g y → Turn L v (piece a p ∷ ps) ps x y (with g)
turn_symbol {L} {v} {a} {p} {ps} {x} {y} {g} o = record { to = λ ts w walk. next o.past walk; from = back; rises = with_up g }
  where
    back : (us : Forest) (w : Place) → Walk (Whole L) (steady v) (piece a p ∷ ps) x us w → From L v ps y (with g) us w
    back us w (next {z = z} {ts = ts} q walk) =
        let same = o.alone _ _ q in
        record { parts = ts; is = λ i. with (same.0 i) ts; walk = subst (λ y. Walk (Whole L) (steady v) ps y ts w) (sym same.1) walk }

-- ---- lists with commas: what only stands last isn't at home there

abbrev pub no_rest : Nonterminal → Bool
no_rest c = not (in_homes c (homes (function (RestPat Binds))) || (in_homes c (homes (function (RestPat Assigns))) || (in_homes c (homes (function (RestProperty Binds))) || in_homes c (homes (function (RestProperty Assigns))))))

none_left : (a b : Bool) → not (a || b) ≡ true → a ≡ false
none_left true b n = cc
none_left false b n = refl

none_right : (a b : Bool) → not (a || b) ≡ true → not b ≡ true
none_right true b n = cc
none_right false b n = n

early_kind : (c : Nonterminal) (k : Kind) → no_rest c ≡ true → in_homes c (homes k) ≡ true → last_kind k ≡ false
early_kind c (function (RestPat Binds)) n h = absurd (clash _ h (none_left _ _ n))
early_kind c (function (RestPat Assigns)) n h = absurd (clash _ h (none_left _ _ (none_right (in_homes c (homes (function (RestPat Binds)))) _ n)))
early_kind c (function (RestProperty Binds)) n h = absurd (clash _ h (none_left _ _ (none_right (in_homes c (homes (function (RestPat Assigns)))) _ (none_right (in_homes c (homes (function (RestPat Binds)))) _ n))))
early_kind c (function (RestProperty Assigns)) n h = absurd (clash _ h (is_not _ (none_right (in_homes c (homes (function (RestProperty Binds)))) _ (none_right (in_homes c (homes (function (RestPat Assigns)))) _ (none_right (in_homes c (homes (function (RestPat Binds)))) _ n)))))
early_kind c (function _) n h = refl
early_kind c (program _) n h = refl
early_kind c (statement _) n h = refl
early_kind c (expression _) n h = refl
early_kind c (jsx _) n h = refl

pub early : (c : Nonterminal) (t : Tree) → no_rest c ≡ true → is c t ≡ true → is_last t ≡ false
early c (leaf k r) n e = refl
early c (list ts) n e = refl
early c (node k ts) n e = early_kind c k n (kind_home c k ts (and_left (admits c (node k ts)) (fits_below c (node k ts)) e))

-- ---- the comma that may trail

pub comma_trails : {y z : Place} → Moves (pun ",") y z → forth TrailingComma y ≡ z
comma_trails {y} {z} m = comma_too y ((found_at (sym m.is) m.found)) ∙ sym m.is

at44 : (f g : Bool) (s : Text) → at_front Operator f (44 ∷ s) ≡ at_front Operator g (44 ∷ s)
at44 true true s = refl
at44 true false s = refl
at44 false true s = refl
at44 false false s = refl

same_comma : (f g : Bool) (s : Text) → first_is (nat_eq 44) s ≡ true → at_front Operator f s ≡ at_front Operator g s
same_comma f g [] h = cc
same_comma f g (c ∷ s) h = subst (λ d. at_front Operator f (d ∷ s) ≡ at_front Operator g (d ∷ s)) (eqb-true 44 c h) (at44 f g s)

no_comma : (q : Text) (e : _) (text : Text) → is_token (token Operator false text) Punctuator (codes ",") ≡ true → forth (pun ",") (At q e text) ≡ Lost → ⊥
no_comma q e text h s =
    let front = starts_with 44 [] (breaks text) (skip text) h _ refl in
    let is : is_token (token Operator (same q []) text) Punctuator (codes ",") ≡ true = ap (λ x. is_token x Punctuator (codes ",")) (same_comma (same q [] || breaks text) (breaks text) (skip text) front) ∙ h in
    let there : IsTrue (is_found (forth (pun ",") (At q e text))) = subst (λ b. IsTrue (is_found (go_if b (At (codes ",") AfterExpr (token Operator (same q []) text).rest)))) (sym is) refl in
    let bad : IsTrue (is_found Lost) = subst (λ p. IsTrue (is_found p)) s there in cc

pub nothing_trails : (y : Place) → Stuck (pun ",") y → forth TrailingComma y ≡ y
nothing_trails Lost s = refl
nothing_trails (At q e text) s = by_comma (is_token (token Operator false text) Punctuator (codes ",")) (λ h. no_comma q e text h s.is)
  where
    by_comma : (b : Bool) → (b ≡ true → ⊥) → cond b (At (codes ",") AfterExpr (token Operator false text).rest) (At q e text) ≡ At q e text
    by_comma true f = absurd (f refl)
    by_comma false f = refl

-- ---- lists with commas, and what stands behind them

abbrev pub cons : Tree → Forest → Forest
cons t (part (list us) vs) = part (list (part t us)) vs
cons t ts = ts

pub cons_up : (t : Tree) (us : Forest) → deepest us ≤ deepest (cons t us)
cons_up t none = omega arith
cons_up t (part (leaf k s) vs) = omega arith
cons_up t (part (node k cs) vs) = omega arith
cons_up t (part (list us) vs) = omega arith

abbrev pub item_of : Given → Tree
item_of nothing = list none
item_of (one t) = t

pub whole_of : {L : Language} {v : Surroundings} {c : Nonterminal} {x y : Place} {t : Tree} → Past (Whole L) v (Part c) x (one t) y → Whole L v false c x t y
whole_of (tree r) = r

-- nothing stands in it
pub turn_empty : {L : Language} {v : Surroundings} {a : List Context} {c : Nonterminal} {ps : List Piece} {x : Place} → IsTrue (is_found x) → Barred L (steady v a) (Part c) x Unread → Turn L v (piece a (Many Commas c) ∷ ps) ps x x (part (list none))
turn_empty {L} {v} {a} {c} {ps} {x} f b = record { to = λ ts w walk. next (many refl (nil f)) walk; from = back; rises = part_up (list none) }
  where
    inner : (ts : Forest) (y : Place) → Items (Whole L) (steady v a) Commas c x ts y → (us : Forest) (w : Place) → Walk (Whole L) (steady v) ps y us w → From L v ps x (part (list none)) (part (list ts) us) w
    inner ts y (nil f) us w walk = record { parts = us; is = refl; walk = walk }
    inner ts y (last r e f) us w walk = absurd (b.no _ _ (tree r) tt)
    inner ts y (more n r e all) us w walk = absurd (b.no _ _ (tree r) tt)

    back : (us : Forest) (w : Place) → Walk (Whole L) (steady v) (piece a (Many Commas c) ∷ ps) x us w → From L v ps x (part (list none)) us w
    back us w (next {z = z} {ts = vs} (many {ts = ts} e all) walk) = inner ts _ all vs w walk

-- a last part, with no comma behind it
pub turn_last : {L : Language} {v : Surroundings} {a : List Context} {c : Nonterminal} {ps : List Piece} {x y : Place} {t : Tree} → Lawful L → Only L (steady v a) (Part c) x (one t) y → Stuck (pun ",") y → NoRow L v ps x Unread → Turn L v (piece a (Many Commas c) ∷ ps) ps x y (part (list (part t none)))
turn_last {L} {v} {a} {c} {ps} {x} {y} {t} l o s n = record { to = λ ts w walk. next (many refl (last (whole_of o.past) (nothing_trails y s) (end_found l (whole_of o.past).reads))) walk; from = back; rises = part_up (list (part t none)) }
  where
    inner : (ts : Forest) (z : Place) → Items (Whole L) (steady v a) Commas c x ts z → (us : Forest) (w : Place) → Walk (Whole L) (steady v) ps z us w → From L v ps y (part (list (part t none))) (part (list ts) us) w
    inner ts z (nil f) us w walk = absurd (n.no us w walk tt)
    inner ts z (last {y = y'} {t = t'} r e f) us w walk =
        let same = o.alone (one t') y' (tree r) in
        let there : y ≡ z = sym (nothing_trails y s) ∙ (ap (forth TrailingComma) same.1 ∙ e) in
        record { parts = us; is = λ i. part (list (part (item_of (same.0 i)) none)) us; walk = subst (λ p. Walk (Whole L) (steady v) ps p us w) (sym there) walk }
    inner ts z (more {y = y'} {z = z'} {t = t'} m r e all) us w walk =
        let same = o.alone (one t') y' (tree r) in
        let bad : IsTrue (is_found Lost) = subst (λ p. IsTrue (is_found p)) (sym e ∙ (ap (forth (pun ",")) (sym same.1) ∙ s.is)) (whole_items_found l all) in cc

    back : (us : Forest) (w : Place) → Walk (Whole L) (steady v) (piece a (Many Commas c) ∷ ps) x us w → From L v ps y (part (list (part t none))) us w
    back us w (next {ts = vs} (many {ts = ts} e all) walk) = inner ts _ all vs w walk

-- a part and a comma: what stands behind it is such a list again
pub turn_item : {L : Language} {v : Surroundings} {a : List Context} {c : Nonterminal} {ps : List Piece} {x y z : Place} {t : Tree} → Lawful L → no_rest c ≡ true → Only L (steady v a) (Part c) x (one t) y → Moves (pun ",") y z → NoRow L v ps x Unread → Turn L v (piece a (Many Commas c) ∷ ps) (piece a (Many Commas c) ∷ ps) x z (cons t)
turn_item {L} {v} {a} {c} {ps} {x} {y} {z} {t} l early_c o m n = record { to = forward; from = back; rises = cons_up t }
  where
    ahead : (ts : Forest) (p : Place) → Items (Whole L) (steady v a) Commas c z ts p → Items (Whole L) (steady v a) Commas c x (part t ts) p
    ahead none p (nil f) = last (whole_of o.past) (comma_trails m) m.found
    ahead (part u none) p all = more (early c t early_c (l.is_read (whole_of o.past).reads).is) (whole_of o.past) (sym m.is) all
    ahead (part u (part u' us)) p all = more (early c t early_c (l.is_read (whole_of o.past).reads).is) (whole_of o.past) (sym m.is) all

    forward : (ts : Forest) (w : Place) → Walk (Whole L) (steady v) (piece a (Many Commas c) ∷ ps) z ts w → Walk (Whole L) (steady v) (piece a (Many Commas c) ∷ ps) x (cons t ts) w
    forward ts w (next {ts = vs} (many {ts = us} e all) walk) = next (many refl (ahead us _ all)) walk

    inner : (ts : Forest) (p : Place) → Items (Whole L) (steady v a) Commas c x ts p → (us : Forest) (w : Place) → Walk (Whole L) (steady v) ps p us w → From L v (piece a (Many Commas c) ∷ ps) z (cons t) (part (list ts) us) w
    inner ts p (nil f) us w walk = absurd (n.no us w walk tt)
    inner ts p (last {y = y'} {t = t'} r e f) us w walk =
        let same = o.alone (one t') y' (tree r) in
        let there : z ≡ p = sym (comma_trails m) ∙ (ap (forth TrailingComma) same.1 ∙ e) in
        record { parts = part (list none) us; is = λ i. part (list (part (item_of (same.0 i)) none)) us; walk = next (many refl (nil m.found)) (subst (λ p. Walk (Whole L) (steady v) ps p us w) (sym there) walk) }
    inner ts p (more {y = y'} {z = z'} {t = t'} {u = u} {us = vs} early' r e all) us w walk =
        let same = o.alone (one t') y' (tree r) in
        let there : z ≡ z' = m.is ∙ (ap (forth (pun ",")) same.1 ∙ e) in
        record { parts = part (list (part u vs)) us; is = λ i. part (list (part (item_of (same.0 i)) (part u vs))) us; walk = next (many refl (subst (λ q. Items (Whole L) (steady v a) Commas c q (part u vs) p) (sym there) all)) walk }

    back : (us : Forest) (w : Place) → Walk (Whole L) (steady v) (piece a (Many Commas c) ∷ ps) x us w → From L v (piece a (Many Commas c) ∷ ps) z (cons t) us w
    back us w (next {ts = vs} (many {ts = ts} e all) walk) = inner ts _ all vs w walk

-- the same where no comma may trail
pub turn_final : {L : Language} {v : Surroundings} {a : List Context} {c : Nonterminal} {ps : List Piece} {x y : Place} {t : Tree} → Lawful L → Only L (steady v a) (Part c) x (one t) y → Stuck (pun ",") y → Turn L v (piece a (Many NoTrailing c) ∷ ps) ps x y (part (list (part t none)))
turn_final {L} {v} {a} {c} {ps} {x} {y} {t} l o s = record { to = λ ts w walk. next (many refl (last (whole_of o.past) refl (end_found l (whole_of o.past).reads))) walk; from = back; rises = part_up (list (part t none)) }
  where
    inner : (ts : Forest) (z : Place) → enough NoTrailing ts ≡ true → Items (Whole L) (steady v a) NoTrailing c x ts z → (us : Forest) (w : Place) → Walk (Whole L) (steady v) ps z us w → From L v ps y (part (list (part t none))) (part (list ts) us) w
    inner ts z n (nil f) us w walk = cc
    inner ts z n (last {y = y'} {t = t'} r e f) us w walk =
        let same = o.alone (one t') y' (tree r) in
        record { parts = us; is = λ i. part (list (part (item_of (same.0 i)) none)) us; walk = subst (λ p. Walk (Whole L) (steady v) ps p us w) (sym (same.1 ∙ e)) walk }
    inner ts z n (more {y = y'} {z = z'} {t = t'} m r e all) us w walk =
        let same = o.alone (one t') y' (tree r) in
        let bad : IsTrue (is_found Lost) = subst (λ p. IsTrue (is_found p)) (sym e ∙ (ap (forth (pun ",")) (sym same.1) ∙ s.is)) (whole_items_found l all) in cc

    back : (us : Forest) (w : Place) → Walk (Whole L) (steady v) (piece a (Many NoTrailing c) ∷ ps) x us w → From L v ps y (part (list (part t none))) us w
    back us w (next {ts = vs} (many {ts = ts} e all) walk) = inner ts _ e all vs w walk

pub turn_next : {L : Language} {v : Surroundings} {a : List Context} {c : Nonterminal} {ps : List Piece} {x y z : Place} {t : Tree} → Lawful L → no_rest c ≡ true → Only L (steady v a) (Part c) x (one t) y → Moves (pun ",") y z → NoRow L v ps y Unread → Turn L v (piece a (Many NoTrailing c) ∷ ps) (piece a (Many NoTrailing c) ∷ ps) x z (cons t)
turn_next {L} {v} {a} {c} {ps} {x} {y} {z} {t} l early_c o m n = record { to = forward; from = back; rises = cons_up t }
  where
    ahead : (ts : Forest) (p : Place) → enough NoTrailing ts ≡ true → Items (Whole L) (steady v a) NoTrailing c z ts p → Items (Whole L) (steady v a) NoTrailing c x (part t ts) p
    ahead none p e all = cc
    ahead (part u us) p e all = more (early c t early_c (l.is_read (whole_of o.past).reads).is) (whole_of o.past) (sym m.is) all

    forward : (ts : Forest) (w : Place) → Walk (Whole L) (steady v) (piece a (Many NoTrailing c) ∷ ps) z ts w → Walk (Whole L) (steady v) (piece a (Many NoTrailing c) ∷ ps) x (cons t ts) w
    forward ts w (next {ts = vs} (many {ts = us} e all) walk) = next (many refl (ahead us _ e all)) walk

    inner : (ts : Forest) (p : Place) → enough NoTrailing ts ≡ true → Items (Whole L) (steady v a) NoTrailing c x ts p → (us : Forest) (w : Place) → Walk (Whole L) (steady v) ps p us w → From L v (piece a (Many NoTrailing c) ∷ ps) z (cons t) (part (list ts) us) w
    inner ts p n' (nil f) us w walk = cc
    inner ts p n' (last {y = y'} {t = t'} r e f) us w walk =
        let same = o.alone (one t') y' (tree r) in
        absurd (n.no us w (subst (λ q. Walk (Whole L) (steady v) ps q us w) (sym (same.1 ∙ e)) walk) tt)
    inner ts p n' (more {y = y'} {z = z'} {t = t'} {u = u} {us = vs} early' r e all) us w walk =
        let same = o.alone (one t') y' (tree r) in
        let there : z ≡ z' = m.is ∙ (ap (forth (pun ",")) same.1 ∙ e) in
        record { parts = part (list (part u vs)) us; is = λ i. part (list (part (item_of (same.0 i)) (part u vs))) us; walk = next (many refl (subst (λ q. Items (Whole L) (steady v a) NoTrailing c q (part u vs) p) (sym there) all)) walk }

    back : (us : Forest) (w : Place) → Walk (Whole L) (steady v) (piece a (Many NoTrailing c) ∷ ps) x us w → From L v (piece a (Many NoTrailing c) ∷ ps) z (cons t) us w
    back us w (next {ts = vs} (many {ts = ts} e all) walk) = inner ts _ e all vs w walk

-- ---- the parts that were read before

abbrev pub prepend : Forest → Forest → Forest
prepend ts (part (list us) vs) = part (list (both ts us)) vs
prepend ts us = us

pub prepend_up : (ts us : Forest) → deepest us ≤ deepest (prepend ts us)
prepend_up ts none = omega arith
prepend_up ts (part (leaf k s) vs) = omega arith
prepend_up ts (part (node k cs) vs) = omega arith
prepend_up ts (part (list us) vs) = let h = both_up ts us in omega (arith, h)

both_snoc : (ts : Forest) (t : Tree) (us : Forest) → both ts (part t us) ≡ both (both ts (part t none)) us
both_snoc none t us = refl
both_snoc (part u ts) t us = ap (part u) (both_snoc ts t us)

pub prepend_none : (ts : Forest) → ts ≡ prepend none ts
prepend_none none = refl
prepend_none (part (leaf k t) vs) = refl
prepend_none (part (node k ts) vs) = refl
prepend_none (part (list us) vs) = refl

pub prepend_cons : (ts : Forest) (t : Tree) (us : Forest) → prepend ts (cons t us) ≡ prepend (both ts (part t none)) us
prepend_cons ts t none = refl
prepend_cons ts t (part (leaf k r) vs) = refl
prepend_cons ts t (part (node k us) vs) = refl
prepend_cons ts t (part (list us) vs) = ap (λ ws. part (list ws) vs) (both_snoc ts t us)
