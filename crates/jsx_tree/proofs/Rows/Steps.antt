-- The steps of a parser along a row.
use Rattle.std.proofs.Common.{◌≡◌, ◌≤◌, List, [], ◌∷◌, ◌++◌, refl, sym, ◌∙◌, ap, subst, arith}
use Rattle.std.specs.Prelude.{IsTrue}
use Rattle.jsx_tree.specs.Signs.{Sign}
use Rattle.jsx_tree.specs.Kinds.{Kind, Tree, Forest, node, none, part}
use Rattle.jsx_tree.specs.Grammar.{Context, Symbol, Fixed}
use Rattle.jsx_tree.specs.Reading.{Place, Lost}
use Rattle.jsx_tree.specs.StaticRules.{Surroundings}
use Rattle.jsx_tree.specs.Walk.{is_found, Given, nothing, one, with, Piece, piece, Past, sign, Walk, done, next, steady}
use Rattle.jsx_tree.specs.Language.{Language, Whole}
use Rattle.jsx_tree.specs.Spelling.{walk, saids}
use Rattle.jsx_tree.proofs.Rows.Bridge.{fit, symbols, found_first, found_at}
use Rattle.jsx_tree.proofs.Rows.Guarded.{to_grammar}
use Rattle.jsx_tree.proofs.Rows.Laws.{Lawful}
use Rattle.jsx_tree.specs.Answers.{Moves, Stuck, Only, Barred, OnlyRow, NoRow, Built}
use Rattle.jsx_tree.specs.Faults.{Fault, Unread, outer, inner, Shallow, deepest, given_depth}
use Rattle.jsx_tree.proofs.Depth.Shallow.{shallow_first, shallow_rest, shallow_up, shallow_inner, shallow_outer}

-- ---- signs

pub only_sign : {L : Language} {v : Surroundings} {s : Sign} {x y : Place} → Moves s x y → Only L v (Fixed s) x nothing y
only_sign {L} {v} {s} {x} {y} m = record { past = sign (sym m.is) m.found; alone = at }
  where
    at : (h : Given) (z : Place) → Past (Whole L) v (Fixed s) x h z → (nothing ≡ h) × (y ≡ z)
    at h z (sign e f) = (refl, m.is ∙ e)

-- one that doesn't stand there is no question of depth
pub no_sign : {L : Language} {v : Surroundings} {s : Sign} {x : Place} {e : Fault} → Stuck s x → Barred L v (Fixed s) x e
no_sign {L} {v} {s} {x} {e} n = record { no = at }
  where
    at : (h : Given) (z : Place) → Past (Whole L) v (Fixed s) x h z → Shallow e (given_depth h) → ⊥
    at h z (sign q f) a = let bad : IsTrue (is_found Lost) = subst (λ p. IsTrue (is_found p)) (sym q ∙ n.is) f in cc

-- ---- a symbol, and the rest of its row

pub bar : {L : Language} {v : Surroundings} {a : List Context} {p : Symbol} {ps : List Piece} {x : Place} {e : Fault} → Barred L (steady v a) p x e → NoRow L v (piece a p ∷ ps) x e
bar {L} {v} {a} {p} {ps} {x} {e} b = record { no = at }
  where
    at : (ts : Forest) (y : Place) → Walk (Whole L) (steady v) (piece a p ∷ ps) x ts y → Shallow e (deepest ts) → ⊥
    at ts y (next {g = g} {ts = us} q w) s = b.no _ _ q (shallow_first e g us s)

pub on : {L : Language} {v : Surroundings} {a : List Context} {p : Symbol} {ps : List Piece} {x y : Place} {g : Given} {e : Fault} → Only L (steady v a) p x g y → NoRow L v ps y e → NoRow L v (piece a p ∷ ps) x e
on {L} {v} {a} {p} {ps} {x} {y} {g} {e} o n = record { no = at }
  where
    at : (ts : Forest) (r : Place) → Walk (Whole L) (steady v) (piece a p ∷ ps) x ts r → Shallow e (deepest ts) → ⊥
    at ts r (next {z = z} {g = h} {ts = us} q w) s = n.no us z (subst (λ y. Walk (Whole L) (steady v) ps y us z) (sym (o.alone _ _ q).1) w) (shallow_rest e h us s)

-- nor with fewer levels
pub inner_row : {L : Language} {v : Surroundings} {ps : List Piece} {x : Place} {e : Fault} → NoRow L v ps x e → NoRow L v ps x (inner e)
inner_row {e = e} n = record { no = λ ts y w s. n.no ts y w (shallow_inner e (deepest ts) s) }

pub outer_barred : {L : Language} {v : Surroundings} {p : Symbol} {x : Place} {e : Fault} → Barred L v p x (outer (inner e)) → Barred L v p x e
outer_barred {e = e} b = record { no = λ g y q s. b.no g y q (shallow_outer e (given_depth g) s) }

-- what can't be read at all can't be read that shallow
pub any_barred : {L : Language} {v : Surroundings} {p : Symbol} {x : Place} {e : Fault} → Barred L v p x Unread → Barred L v p x e
any_barred b = record { no = λ g y q s. b.no g y q tt }

pub end : {L : Language} {v : Surroundings} {x : Place} → IsTrue (is_found x) → OnlyRow L v [] x none x
end {L} {v} {x} f = record { walk = done f; alone = at }
  where
    at : (us : Forest) (z : Place) → Walk (Whole L) (steady v) [] x us z → (none ≡ us) × (x ≡ z)
    at us z (done g) = (refl, refl)

pub then' : {L : Language} {v : Surroundings} {a : List Context} {p : Symbol} {ps : List Piece} {x y z : Place} {g : Given} {ts : Forest} → Only L (steady v a) p x g y → OnlyRow L v ps y ts z → OnlyRow L v (piece a p ∷ ps) x (with g ts) z
then' {L} {v} {a} {p} {ps} {x} {y} {z} {g} {ts} o r = record { walk = next o.past r.walk; alone = at }
  where
    at : (us : Forest) (w : Place) → Walk (Whole L) (steady v) (piece a p ∷ ps) x us w → (with g ts ≡ us) × (z ≡ w)
    at us w (next {z = z'} {ts = us'} q w') =
        let same = o.alone _ _ q in
        let rest = r.alone us' z' (subst (λ y. Walk (Whole L) (steady v) ps y us' z') (sym same.1) w') in
        (λ i. with (same.0 i) (rest.0 i), rest.1)

-- ---- a node with all its pieces

pub built_1 : {L : Language} {v : Surroundings} {k : Kind} {before : Forest → Forest} {t : Tree} {a1 : List Context} {p1 : Symbol} {x0 x1 : Place} {g1 : Given}
    → IsTrue (is_found x1) → Only L (steady v a1) p1 x0 g1 x1 → t ≡ node k (before (with g1 none)) → Built L v (piece a1 p1 ∷ []) k before t x0 x1
built_1 {g1 = g1} f q1 is = record { parts = with g1 none; is = is; row = then' q1 (end f) }

pub built_2 : {L : Language} {v : Surroundings} {k : Kind} {before : Forest → Forest} {t : Tree} {a1 a2 : List Context} {p1 p2 : Symbol} {x0 x1 x2 : Place} {g1 g2 : Given}
    → IsTrue (is_found x2) → Only L (steady v a1) p1 x0 g1 x1 → Only L (steady v a2) p2 x1 g2 x2 → t ≡ node k (before (with g1 (with g2 none))) → Built L v (piece a1 p1 ∷ piece a2 p2 ∷ []) k before t x0 x2
built_2 {g1 = g1} {g2 = g2} f q1 q2 is = record { parts = with g1 (with g2 none); is = is; row = then' q1 (then' q2 (end f)) }

pub built_3 : {L : Language} {v : Surroundings} {k : Kind} {before : Forest → Forest} {t : Tree} {a1 a2 a3 : List Context} {p1 p2 p3 : Symbol} {x0 x1 x2 x3 : Place} {g1 g2 g3 : Given}
    → IsTrue (is_found x3) → Only L (steady v a1) p1 x0 g1 x1 → Only L (steady v a2) p2 x1 g2 x2 → Only L (steady v a3) p3 x2 g3 x3 → t ≡ node k (before (with g1 (with g2 (with g3 none)))) → Built L v (piece a1 p1 ∷ piece a2 p2 ∷ piece a3 p3 ∷ []) k before t x0 x3
built_3 {g1 = g1} {g2 = g2} {g3 = g3} f q1 q2 q3 is = record { parts = with g1 (with g2 (with g3 none)); is = is; row = then' q1 (then' q2 (then' q3 (end f))) }

pub built_4 : {L : Language} {v : Surroundings} {k : Kind} {before : Forest → Forest} {t : Tree} {a1 a2 a3 a4 : List Context} {p1 p2 p3 p4 : Symbol} {x0 x1 x2 x3 x4 : Place} {g1 g2 g3 g4 : Given}
    → IsTrue (is_found x4) → Only L (steady v a1) p1 x0 g1 x1 → Only L (steady v a2) p2 x1 g2 x2 → Only L (steady v a3) p3 x2 g3 x3 → Only L (steady v a4) p4 x3 g4 x4 → t ≡ node k (before (with g1 (with g2 (with g3 (with g4 none))))) → Built L v (piece a1 p1 ∷ piece a2 p2 ∷ piece a3 p3 ∷ piece a4 p4 ∷ []) k before t x0 x4
built_4 {g1 = g1} {g2 = g2} {g3 = g3} {g4 = g4} f q1 q2 q3 q4 is = record { parts = with g1 (with g2 (with g3 (with g4 none))); is = is; row = then' q1 (then' q2 (then' q3 (then' q4 (end f)))) }

pub built_5 : {L : Language} {v : Surroundings} {k : Kind} {before : Forest → Forest} {t : Tree} {a1 a2 a3 a4 a5 : List Context} {p1 p2 p3 p4 p5 : Symbol} {x0 x1 x2 x3 x4 x5 : Place} {g1 g2 g3 g4 g5 : Given}
    → IsTrue (is_found x5) → Only L (steady v a1) p1 x0 g1 x1 → Only L (steady v a2) p2 x1 g2 x2 → Only L (steady v a3) p3 x2 g3 x3 → Only L (steady v a4) p4 x3 g4 x4 → Only L (steady v a5) p5 x4 g5 x5 → t ≡ node k (before (with g1 (with g2 (with g3 (with g4 (with g5 none)))))) → Built L v (piece a1 p1 ∷ piece a2 p2 ∷ piece a3 p3 ∷ piece a4 p4 ∷ piece a5 p5 ∷ []) k before t x0 x5
built_5 {g1 = g1} {g2 = g2} {g3 = g3} {g4 = g4} {g5 = g5} f q1 q2 q3 q4 q5 is = record { parts = with g1 (with g2 (with g3 (with g4 (with g5 none)))); is = is; row = then' q1 (then' q2 (then' q3 (then' q4 (then' q5 (end f))))) }

pub built_6 : {L : Language} {v : Surroundings} {k : Kind} {before : Forest → Forest} {t : Tree} {a1 a2 a3 a4 a5 a6 : List Context} {p1 p2 p3 p4 p5 p6 : Symbol} {x0 x1 x2 x3 x4 x5 x6 : Place} {g1 g2 g3 g4 g5 g6 : Given}
    → IsTrue (is_found x6) → Only L (steady v a1) p1 x0 g1 x1 → Only L (steady v a2) p2 x1 g2 x2 → Only L (steady v a3) p3 x2 g3 x3 → Only L (steady v a4) p4 x3 g4 x4 → Only L (steady v a5) p5 x4 g5 x5 → Only L (steady v a6) p6 x5 g6 x6 → t ≡ node k (before (with g1 (with g2 (with g3 (with g4 (with g5 (with g6 none))))))) → Built L v (piece a1 p1 ∷ piece a2 p2 ∷ piece a3 p3 ∷ piece a4 p4 ∷ piece a5 p5 ∷ piece a6 p6 ∷ []) k before t x0 x6
built_6 {g1 = g1} {g2 = g2} {g3 = g3} {g4 = g4} {g5 = g5} {g6 = g6} f q1 q2 q3 q4 q5 q6 is = record { parts = with g1 (with g2 (with g3 (with g4 (with g5 (with g6 none))))); is = is; row = then' q1 (then' q2 (then' q3 (then' q4 (then' q5 (then' q6 (end f)))))) }

pub built_7 : {L : Language} {v : Surroundings} {k : Kind} {before : Forest → Forest} {t : Tree} {a1 a2 a3 a4 a5 a6 a7 : List Context} {p1 p2 p3 p4 p5 p6 p7 : Symbol} {x0 x1 x2 x3 x4 x5 x6 x7 : Place} {g1 g2 g3 g4 g5 g6 g7 : Given}
    → IsTrue (is_found x7) → Only L (steady v a1) p1 x0 g1 x1 → Only L (steady v a2) p2 x1 g2 x2 → Only L (steady v a3) p3 x2 g3 x3 → Only L (steady v a4) p4 x3 g4 x4 → Only L (steady v a5) p5 x4 g5 x5 → Only L (steady v a6) p6 x5 g6 x6 → Only L (steady v a7) p7 x6 g7 x7 → t ≡ node k (before (with g1 (with g2 (with g3 (with g4 (with g5 (with g6 (with g7 none)))))))) → Built L v (piece a1 p1 ∷ piece a2 p2 ∷ piece a3 p3 ∷ piece a4 p4 ∷ piece a5 p5 ∷ piece a6 p6 ∷ piece a7 p7 ∷ []) k before t x0 x7
built_7 {g1 = g1} {g2 = g2} {g3 = g3} {g4 = g4} {g5 = g5} {g6 = g6} {g7 = g7} f q1 q2 q3 q4 q5 q6 q7 is = record { parts = with g1 (with g2 (with g3 (with g4 (with g5 (with g6 (with g7 none)))))); is = is; row = then' q1 (then' q2 (then' q3 (then' q4 (then' q5 (then' q6 (then' q7 (end f))))))) }

pub ruleset built = (built_1, built_2, built_3, built_4, built_5, built_6, built_7)

-- ---- the same, one piece after another

pub built_end : {L : Language} {v : Surroundings} {k : Kind} {before : Forest → Forest} {t : Tree} {x : Place} → IsTrue (is_found x) → t ≡ node k (before none) → Built L v [] k before t x x
built_end f e = record { parts = none; is = e; row = end f }

pub built_sign : {L : Language} {v : Surroundings} {a : List Context} {s : Sign} {ps : List Piece} {k : Kind} {before : Forest → Forest} {t : Tree} {x y z : Place} → Moves s x y → Built L v ps k before t y z → Built L v (piece a (Fixed s) ∷ ps) k before t x z
built_sign m b = record { parts = b.parts; is = b.is; row = then' (only_sign m) b.row }

pub built_part : {L : Language} {v : Surroundings} {a : List Context} {p : Symbol} {ps : List Piece} {k : Kind} {before : Forest → Forest} {t u : Tree} {x y z : Place} → Only L (steady v a) p x (one u) y → Built L v ps k (λ ts. before (part u ts)) t y z → Built L v (piece a p ∷ ps) k before t x z
built_part {u = u} o b = record { parts = part u b.parts; is = b.is; row = then' o b.row }

-- ---- several symbols at once, as a list and the bracket behind it

abbrev pub both : Forest → Forest → Forest
both none us = us
both (part t ts) us = part t (both ts us)

pub both_up : (ts us : Forest) → deepest us ≤ deepest (both ts us)
both_up none us = omega arith
both_up (part t ts) us = let h = both_up ts us in omega (arith, h)

record Parted (L : Language) (v : Surroundings) (ps qs : List Piece) (x : Place) (ts : Forest) (y : Place) : Type 0 where
  front : Forest
  back : Forest
  place : Place
  is : both front back ≡ ts
  first : Walk (Whole L) (steady v) ps x front place
  second : Walk (Whole L) (steady v) qs place back y

with_both : (g : Given) (ts us : Forest) → both (with g ts) us ≡ with g (both ts us)
with_both nothing ts us = refl
with_both (one t) ts us = refl

joined : {L : Language} {v : Surroundings} {ps qs : List Piece} {x y z : Place} {ts us : Forest} → Walk (Whole L) (steady v) ps x ts y → Walk (Whole L) (steady v) qs y us z → Walk (Whole L) (steady v) (ps ++ qs) x (both ts us) z
joined (done f) w = w
joined {L} {v} {qs = qs} {z = z} {us = us} (next {a = a} {p = p} {ps = ps} {x = x} {g = g} {ts = ts} q r) w = subst (λ vs. Walk (Whole L) (steady v) (piece a p ∷ (ps ++ qs)) x vs z) (sym (with_both g ts us)) (next q (joined r w))

walk_found : {L : Language} {v : Surroundings} {ps : List Piece} {x y : Place} {ts : Forest} → Lawful L → Walk (Whole L) (steady v) ps x ts y → IsTrue (is_found x)
walk_found {ps = ps} {ts = ts} l w = let m = fit (to_grammar l w) in found_first (walk (symbols ps) (saids ts)) _ (found_at m.scans m.found)

parted : {L : Language} {v : Surroundings} → Lawful L → (ps : List Piece) {qs : List Piece} {x y : Place} {ts : Forest} → Walk (Whole L) (steady v) (ps ++ qs) x ts y → Parted L v ps qs x ts y
parted l [] {x = x} {ts = ts} w = record { front = none; back = ts; place = x; is = refl; first = done (walk_found l w); second = w }
parted l (piece a p ∷ ps) (next {g = g} q w) = let s = parted l ps w in record { front = with g s.front; back = s.back; place = s.place; is = with_both g s.front s.back ∙ ap (with g) s.is; first = next q s.first; second = s.second }

pub on_row : {L : Language} {v : Surroundings} → Lawful L → (ps : List Piece) {qs : List Piece} {x y : Place} {ts : Forest} {e : Fault} → OnlyRow L v ps x ts y → NoRow L v qs y e → NoRow L v (ps ++ qs) x e
on_row {L} {v} l ps {qs} {x} {y} {ts} {e} o n = record {
  no = λ us z w a.
      let s = parted l ps w in
      n.no s.back z (subst (λ p. Walk (Whole L) (steady v) qs p s.back z) (sym (o.alone s.front s.place s.first).1) s.second)
      (shallow_up e (deepest s.back) (deepest us) (subst (λ ts. deepest s.back ≤ deepest ts) s.is (both_up s.front s.back)) a);
}

pub then_row : {L : Language} {v : Surroundings} → Lawful L → (ps : List Piece) {qs : List Piece} {x y z : Place} {ts us : Forest} → OnlyRow L v ps x ts y → OnlyRow L v qs y us z → OnlyRow L v (ps ++ qs) x (both ts us) z
then_row {L} {v} l ps {qs} {x} {y} {z} {ts} {us} o r = record { walk = joined o.walk r.walk; alone = at }
  where
    at : (vs : Forest) (w : Place) → Walk (Whole L) (steady v) (ps ++ qs) x vs w → (both ts us ≡ vs) × (z ≡ w)
    at vs w walk =
        let s = parted l ps walk in
        let one = o.alone s.front s.place s.first in
        let two = r.alone s.back w (subst (λ p. Walk (Whole L) (steady v) qs p s.back w) (sym one.1) s.second) in
        ((λ i. both (one.0 i) (two.0 i)) ∙ s.is, two.1)
