-- A step of an expression that grows, where what is read of it is told by more than its row.
use Rattle.std.proofs.Common.{◌≡◌, true, false, List, [], ◌∷◌, refl, sym, subst}
use Rattle.std.specs.Prelude.{Some}
use Rattle.jsx_tree.specs.Kinds.{Kind, Tree, node, Forest, part}
use Rattle.jsx_tree.specs.Nonterminals.{Nonterminal}
use Rattle.jsx_tree.specs.Grammar.{Part}
use Rattle.jsx_tree.specs.Reading.{Place}
use Rattle.jsx_tree.specs.StaticRules.{Surroundings}
use Rattle.jsx_tree.specs.Walk.{Piece, piece, tail, tree, Walk, next, around, steady}
use Rattle.jsx_tree.specs.Language.{Language, Whole}
use Rattle.jsx_tree.specs.Grows.{starts, seen, Onward, stay, step, Follows, Steps, Decides, Joins}
use Rattle.jsx_tree.proofs.Rows.Laws.{Lawful}
use Rattle.jsx_tree.proofs.Rows.Guarded.{loosen}

-- ---- the cases of what goes on

no_stay : {L : Language} {v : Surroundings} {c : Nonterminal} {x a : Place} {t : Tree} {A : Type 0} → (t' : Tree) (a' : Place) → t ≡ t' → a ≡ a' → (u : Tree) (z : Place) → Onward L v x t' a' u z → Whole L v false c x u z → (t ≡ u → a ≡ z → A)
    → ((l : Kind) (ts : Forest) (y : Place) (p : Steps L v c x t a l ts y) → p.end ≡ u → p.place ≡ z → A) → A
no_stay t' a' e g u z stay w h f = h e g
no_stay {L} {v} {c} {x} {a} {t} t' a' e g u z (step {y = a''} {z = y} k s d {ts = ts} b i r o q on) w h f = f k ts y (record {
  side = s;
  begins = b;
  left = subst (λ p. L.reads v false s x (seen k t) p) (sym g) (subst (λ p. L.reads v false s x (seen k p) a') (sym e) i);
  walk = subst (λ p. Walk L.reads (around v (part (seen k t) ts)) (tail (L.rows k)) p ts y) (sym g) (subst (λ p. Walk L.reads (around v (part (seen k p) ts)) (tail (L.rows k)) a' ts y) (sym e) r);
  home = d;
  operand = o;
  reads = subst (λ p. L.reads v false d x (node k (part (seen k p) ts)) y) (sym e) q;
  end = u;
  place = z;
  onward = subst (λ p. Onward L v x (node k (part (seen k p) ts)) y u z) (sym e) on;
  whole = w;
}) refl refl

cases : {L : Language} {v : Surroundings} {c : Nonterminal} {x a : Place} {t : Tree} {A : Type 0} → Follows L v c x t a → (u : Tree) (z : Place) → Whole L v false c x u z → (t ≡ u → a ≡ z → A) → ((l : Kind) (ts : Forest) (y : Place) (p : Steps L v c x t a l ts y) → p.end ≡ u → p.place ≡ z → A) → A
cases {a = a} {t = t} fs u z w h f = no_stay t a refl refl u z (fs.all u z w) w h f

led_row : (ps : List Piece) (c : Nonterminal) → starts ps ≡ Some c → piece [] (Part c) ∷ tail ps ≡ ps
led_row (piece [] (Part d) ∷ ps) c e = cc
led_row _ c e = cc

-- one is taken, and no other: what it gives is what everything begins with
pub grown_follows : {L : Language} {v : Surroundings} {c : Nonterminal} {x a b : Place} {t u : Tree} {k : Kind} {us : Forest} → Lawful L → Follows L v c x t a → Decides L v c x t a k (tail (L.rows k)) → Joins L v x t a k (tail (L.rows k)) → u ≡ node k (part (seen k t) us) → Walk (Whole L) (steady v) (tail (L.rows k)) a us b
    → ((ts : Forest) (y : Place) → Steps L v c x t a k ts y → (us ≡ ts) × (b ≡ y)) → Follows L v c x u b
grown_follows {L} {v} {c} {x} {a} {b} {t} {u} {k} {us} law fs d j is w alone = record { home = j.home; operand = j.operand; reads = subst (λ p. L.reads v false j.home x p b) (sym is) read; all = at }
  where
    walk : Walk L.reads (around v (part (seen k t) us)) (L.rows k) x (part (seen k t) us) b
    walk = subst (λ ps. Walk L.reads (around v (part (seen k t) us)) ps x (part (seen k t) us) b) (led_row (L.rows k) j.side j.begins) (next (tree j.left) (loosen (j.frees us b w)))

    read : L.reads v false j.home x (node k (part (seen k t) us)) b
    read = law.to_node k (j.at_home (part (seen k t) us)) (record { walk = walk; keeps = j.keeps us b w })

    on : (l : Kind) (ts : Forest) (y : Place) (w : Tree) (z : Place) (p : Steps L v c x t a l ts y) → p.end ≡ w → p.place ≡ z → Onward L v x u b w z
    on l ts y w z p e f =
        let q = subst (λ m. Steps L v c x t a m ts y) (d.kind l ts y p) p in
        let same = alone ts y q in
        let step' : Onward L v x (node k (part (seen k t) ts)) y p.end p.place = subst (λ m. Onward L v x (node m (part (seen m t) ts)) y p.end p.place) (d.kind l ts y p) p.onward in
        let here : Onward L v x (node k (part (seen k t) us)) b p.end p.place = subst (λ q. Onward L v x (node k (part (seen k t) us)) q p.end p.place) (sym same.1) (subst (λ vs. Onward L v x (node k (part (seen k t) vs)) y p.end p.place) (sym same.0) step') in
        subst (λ q. Onward L v x u b w q) f (subst (λ p'. Onward L v x u b p' p.place) e (subst (λ p'. Onward L v x p' b p.end p.place) (sym is) here))

    at : (w : Tree) (z : Place) → Whole L v false c x w z → Onward L v x u b w z
    at w z h = cases fs w z h (λ e g. absurd (d.goes (subst (λ q. L.ends c q ≡ true) (sym g) h.ends_there))) (λ l ts y p e g. on l ts y w z p e g)
