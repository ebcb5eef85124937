-- An expression that grows to the right, for every kind at once.
use Rattle.std.proofs.Common.{◌≡◌, ◌≤◌, ℕ, suc, max, Bool, true, false, not, cond, List, [], ◌∷◌, refl, sym, ◌∙◌, ap, subst, arith}
use Rattle.std.specs.Prelude.{Some}
use Rattle.jsx_tree.specs.Kinds.{Kind, Tree, node, Forest, part}
use Rattle.jsx_tree.specs.Nonterminals.{Nonterminal}
use Rattle.jsx_tree.specs.Grammar.{Part, production}
use Rattle.jsx_tree.specs.Form.{admits, fits_below}
use Rattle.jsx_tree.specs.Reading.{Place}
use Rattle.jsx_tree.specs.StaticRules.{Surroundings}
use Rattle.jsx_tree.specs.Depth.{deep, depth}
use Rattle.jsx_tree.specs.Walk.{Piece, piece, tail, Given, one, Past, tree, Walk, next, around}
use Rattle.jsx_tree.specs.Language.{Language, Whole}
use Rattle.jsx_tree.specs.Answers.{Only, Barred, NoRow, Built}
use Rattle.jsx_tree.specs.Faults.{Fault, Unread, Deep, outer, Shallow, part_depth, deepest, given_depth}
use Rattle.jsx_tree.proofs.Tokens.{and_left, and_right}
use Rattle.jsx_tree.specs.Grows.{starts, takes_target, as_target, seen, Onward, stay, step, Follows, Steps, Decides, Joins, Stays}
use Rattle.jsx_tree.proofs.Rows.Laws.{Lawful}
use Rattle.jsx_tree.proofs.Rows.Guarded.{loosen}
use Rattle.jsx_tree.proofs.Rows.Targets.{spelled_target}
use Rattle.jsx_tree.proofs.Depth.Flat.{is_nested}
use Rattle.jsx_tree.proofs.Depth.Nodes.{counted, counts_as, not_true, depth_counted, parts_up, read_depth}

-- ---- the cases of what goes on

no_stay : {L : Language} {v : Surroundings} {c : Nonterminal} {x a : Place} {t : Tree} {A : Type 0} → (t' : Tree) (a' : Place) → t ≡ t' → a ≡ a' → (u : Tree) (z : Place) → Onward L v x t' a' u z → Whole L v false c x u z → (t ≡ u → a ≡ z → A)
    → ((l : Kind) (ts : Forest) (y : Place) (p : Steps L v c x t a l ts y) → p.end ≡ u → p.place ≡ z → A) → A
no_stay t' a' e g u z stay w h f = h e g
no_stay {L} {v} {c} {x} {a} {t} t' a' e g u z (step {y = a''} {z = y} k s d {ts = ts} b i r o q on) w h f = f k ts y (record {
  side = s;
  begins = b;
  left = subst (λ p. L.reads v false s x (seen k t) p) (sym g) (subst (λ p. L.reads v false s x (seen k p) a') (sym e) i);
  walk = subst (λ p. Walk L.reads (around v (part (seen k t) ts)) (tail (L.rows k)) p ts y) (sym g) (subst (λ p. Walk L.reads (around v (part (seen k p) ts)) (tail (L.rows k)) a' ts y) (sym e) r);
  home = d;
  operand = o;
  reads = subst (λ p. L.reads v false d x (node k (part (seen k p) ts)) y) (sym e) q;
  end = u;
  place = z;
  onward = subst (λ p. Onward L v x (node k (part (seen k p) ts)) y u z) (sym e) on;
  whole = w;
}) refl refl

cases : {L : Language} {v : Surroundings} {c : Nonterminal} {x a : Place} {t : Tree} {A : Type 0} → Follows L v c x t a → (u : Tree) (z : Place) → Whole L v false c x u z → (t ≡ u → a ≡ z → A) → ((l : Kind) (ts : Forest) (y : Place) (p : Steps L v c x t a l ts y) → p.end ≡ u → p.place ≡ z → A) → A
cases {a = a} {t = t} fs u z w h f = no_stay t a refl refl u z (fs.all u z w) w h f

-- ---- depths

-- a target is as deep as the expression that it was read as
depth_seen : (k : Kind) (t : Tree) → depth (seen k t) ≡ depth t
depth_seen k t = go (takes_target k)
  where
    go : (b : Bool) → depth (cond b (as_target t) t) ≡ depth t
    go true = ap deep (spelled_target t)
    go false = refl

read_form : {L : Language} {v : Surroundings} {c : Nonterminal} {x y : Place} {t : Tree} → Lawful L → L.reads v false c x t y → fits_below c t ≡ true
read_form {c = c} {t = t} law q = and_right (admits c t) (fits_below c t) (law.is_read q).is

-- what goes on only gets deeper
pub onward_up : {L : Language} {v : Surroundings} {x : Place} {t : Tree} {y : Place} {u : Tree} {z : Place} → Lawful L → Onward L v x t y u z → depth t ≤ depth u
onward_up law stay = omega arith
onward_up {t = t} {u = u} law (step k s d {ts = ts} b i w o q on) =
    let h = onward_up law on in
    let p = parts_up d k (part (seen k t) ts) (read_form law q) in
    let e = depth_seen k t in
    let r = read_depth s (seen k t) (read_form law i) in
    omega (arith, h, p, e, r)

-- the parts of a node that counts are less deep than all that begins with it
pub inside_shallow : {L : Language} {v : Surroundings} {c d : Nonterminal} {x p z : Place} {k : Kind} {ts : Forest} {u : Tree} (e : Fault) → Lawful L → counts_as true k ≡ true → L.reads v false d x (node k ts) p → Onward L v x (node k ts) p u z → L.reads v false c x u z → Shallow (outer e) (part_depth u) → Shallow e (deepest ts)
inside_shallow Unread law n q o r s = tt
inside_shallow {c = c} {d = d} {k = k} {ts} {u} (Deep m) law n q o r s =
    let e = depth_counted d k ts (not_true (is_nested k) (and_left (not (is_nested k)) (counted (production k)) n)) (and_right (not (is_nested k)) (counted (production k)) n) (read_form law q) in
    let f = onward_up law o in
    let g = read_depth c u (read_form law r) in
    omega (arith, e, f, g, s)

-- a step of a kind that counts makes it deeper by one than what stands at its left, and than its other parts
stepped : {L : Language} {v : Surroundings} {c : Nonterminal} {x a : Place} {t : Tree} {k : Kind} {ts : Forest} {y : Place} → Lawful L → counts_as true k ≡ true → (p : Steps L v c x t a k ts y) → suc (max (depth t) (deepest ts)) ≤ depth p.end
stepped {t = t} {k} {ts} law n p =
    let e = depth_counted p.home k (part (seen k t) ts) (not_true (is_nested k) (and_left (not (is_nested k)) (counted (production k)) n)) (and_right (not (is_nested k)) (counted (production k)) n) (read_form law p.reads) in
    let f = depth_seen k t in
    let r = read_depth p.side (seen k t) (read_form law p.left) in
    let g = onward_up law p.onward in
    omega (arith, e, f, g, r)

-- ---- no step more

pub grown_only : {L : Language} {v : Surroundings} {c : Nonterminal} {x a : Place} {t : Tree} → Follows L v c x t a → Stays L v c x t a → L.reads v false c x t a → L.ends c a ≡ true → Only L v (Part c) x (one t) a
grown_only {L} {v} {c} {x} {a} {t} fs s r st = record { past = tree (record { reads = r; ends_there = st }); alone = at }
  where
    at : (h : Given) (z : Place) → Past (Whole L) v (Part c) x h z → (one t ≡ h) × (a ≡ z)
    at h z (tree {t = u} w) = cases fs u z w (λ e g. (ap one e, g)) (λ l ts y p e g. absurd (s.none_on l ts y p))

-- what was read may not stand there alone, and nothing goes on with it
pub low_barred : {L : Language} {v : Surroundings} {c : Nonterminal} {x a : Place} {t : Tree} {e : Fault} → Follows L v c x t a → Stays L v c x t a → (L.reads v false c x t a → ⊥) → Barred L v (Part c) x e
low_barred {L} {v} {c} {x} {a} {t} {e = b} fs s i = record { no = at }
  where
    at : (h : Given) (z : Place) → Past (Whole L) v (Part c) x h z → Shallow b (given_depth h) → ⊥
    at h z (tree {t = u} w) q = cases fs u z w (λ e g. i (subst (λ p. L.reads v false c x t p) (sym g) (subst (λ p. L.reads v false c x p z) (sym e) w.reads))) (λ l ts y p e g. s.none_on l ts y p)

-- ---- one step

-- it can't be read, or not that shallow: one more than its parts
pub steps_barred : {L : Language} {v : Surroundings} {c : Nonterminal} {x a : Place} {t : Tree} {k : Kind} {qs : List Piece} (e : Fault) → Lawful L → counts_as true k ≡ true → Follows L v c x t a → Decides L v c x t a k qs → ((ts : Forest) (y : Place) → Steps L v c x t a k ts y → Shallow e (deepest ts) → ⊥) → Barred L v (Part c) x (outer e)
steps_barred {L} {v} {c} {x} {a} {t} {k} e law n fs d b = record { no = at }
  where
    within : (e : Fault) (l : Kind) (ts : Forest) (y : Place) (p : Steps L v c x t a l ts y) → l ≡ k → Shallow (outer e) (depth p.end) → Shallow e (deepest ts)
    within Unread l ts y p is s = tt
    within (Deep m) l ts y p is s = let q = stepped law (subst (λ o. counts_as true o ≡ true) (sym is) n) p in omega (arith, q, s)

    at : (h : Given) (z : Place) → Past (Whole L) v (Part c) x h z → Shallow (outer e) (given_depth h) → ⊥
    at h z (tree {t = u} w) s = cases fs u z w (λ i g. d.goes (subst (λ q. L.ends c q ≡ true) (sym g) w.ends_there))
        (λ l ts y p i g.
        let o = d.kind l ts y p in
        b ts y (subst (λ m. Steps L v c x t a m ts y) o p)
        (within e l ts y p o (subst (λ o. Shallow (outer e) (depth o)) (sym i) (subst (Shallow (outer e)) (sym (read_depth c u (read_form law w.reads))) s))))

pub step_barred : {L : Language} {v : Surroundings} {c : Nonterminal} {x a : Place} {t : Tree} {k : Kind} {qs : List Piece} {e : Fault} → Lawful L → counts_as true k ≡ true → Follows L v c x t a → Decides L v c x t a k qs → NoRow L v qs a e → Barred L v (Part c) x (outer e)
step_barred {e = e} law n fs d b = steps_barred e law n fs d (λ ts y p s. b.no ts y (d.ends ts y p) s)

-- what was read is too deep for the step that the token tells
pub left_deep : {L : Language} {v : Surroundings} {c : Nonterminal} {x a : Place} {t : Tree} {k : Kind} {qs : List Piece} {m : ℕ} → Lawful L → counts_as true k ≡ true → Follows L v c x t a → Decides L v c x t a k qs → m ≤ depth t → Barred L v (Part c) x (Deep m)
left_deep {L} {v} {c} {x} {a} {t} {k} {m = m} law n fs d le = record { no = at }
  where
    at : (h : Given) (z : Place) → Past (Whole L) v (Part c) x h z → Shallow (Deep m) (given_depth h) → ⊥
    at h z (tree {t = u} w) s = cases fs u z w (λ i g. d.goes (subst (λ q. L.ends c q ≡ true) (sym g) w.ends_there))
        (λ l ts y p i g.
        let q = stepped law (subst (λ o. counts_as true o ≡ true) (sym (d.kind l ts y p)) n) p in
        let r = ap depth i in
        let f = read_depth c u (read_form law w.reads) in
        omega (arith, q, r, s, le, f))

-- the tree at its left may not stand there
pub left_barred : {L : Language} {v : Surroundings} {c s : Nonterminal} {x a : Place} {t : Tree} {k : Kind} {qs : List Piece} {e : Fault} → Follows L v c x t a → Decides L v c x t a k qs → starts (L.rows k) ≡ Some s → (L.reads v false s x (seen k t) a → ⊥) → Barred L v (Part c) x e
left_barred {L} {v} {c} {s} {x} {a} {t} {k} {e = o} fs d b i = record { no = at }
  where
    some_is : {A : Type 0} {p q : A} → Some p ≡ Some q → p ≡ q
    some_is e = cc

    at : (h : Given) (z : Place) → Past (Whole L) v (Part c) x h z → Shallow o (given_depth h) → ⊥
    at h z (tree {t = u} w) s' = cases fs u z w (λ e g. d.goes (subst (λ q. L.ends c q ≡ true) (sym g) w.ends_there))
        (λ l ts y p e g. let q = subst (λ m. Steps L v c x t a m ts y) (d.kind l ts y p) p in i (subst (λ n. L.reads v false n x (seen k t) a) (some_is (sym q.begins ∙ b)) q.left))

led_row : (ps : List Piece) (c : Nonterminal) → starts ps ≡ Some c → piece [] (Part c) ∷ tail ps ≡ ps
led_row (piece [] (Part d) ∷ ps) c e = cc
led_row _ c e = cc

-- it is read: what it gives is what everything begins with
pub step_follows : {L : Language} {v : Surroundings} {c : Nonterminal} {x a b : Place} {t u : Tree} {k : Kind} {qs : List Piece} → Lawful L → Follows L v c x t a → Decides L v c x t a k qs → Joins L v x t a k qs → Built L v qs k (part (seen k t)) u a b → Follows L v c x u b
step_follows {L} {v} {c} {x} {a} {b} {t} {u} {k} law fs d j built = record { home = j.home; operand = j.operand; reads = subst (λ p. L.reads v false j.home x p b) (sym built.is) read; all = at }
  where
    walk : Walk L.reads (around v (part (seen k t) built.parts)) (L.rows k) x (part (seen k t) built.parts) b
    walk = subst (λ ps. Walk L.reads (around v (part (seen k t) built.parts)) ps x (part (seen k t) built.parts) b) (led_row (L.rows k) j.side j.begins) (next (tree j.left) (loosen (j.frees built.parts b built.row.walk)))

    read : L.reads v false j.home x (node k (part (seen k t) built.parts)) b
    read = law.to_node k (j.at_home (part (seen k t) built.parts)) (record { walk = walk; keeps = j.keeps built.parts b built.row.walk })

    on : (l : Kind) (ts : Forest) (y : Place) (w : Tree) (z : Place) (p : Steps L v c x t a l ts y) → p.end ≡ w → p.place ≡ z → Onward L v x u b w z
    on l ts y w z p e f =
        let q = subst (λ m. Steps L v c x t a m ts y) (d.kind l ts y p) p in
        let same = built.row.alone ts y (d.ends ts y q) in
        let step' : Onward L v x (node k (part (seen k t) ts)) y p.end p.place = subst (λ m. Onward L v x (node m (part (seen m t) ts)) y p.end p.place) (d.kind l ts y p) p.onward in
        let here : Onward L v x (node k (part (seen k t) built.parts)) b p.end p.place = subst (λ q. Onward L v x (node k (part (seen k t) built.parts)) q p.end p.place) (sym same.1) (subst (λ us. Onward L v x (node k (part (seen k t) us)) y p.end p.place) (sym same.0) step') in
        subst (λ q. Onward L v x u b w q) f (subst (λ p'. Onward L v x u b p' p.place) e (subst (λ p'. Onward L v x p' b p.end p.place) (sym built.is) here))

    at : (w : Tree) (z : Place) → Whole L v false c x w z → Onward L v x u b w z
    at w z h = cases fs w z h (λ e g. absurd (d.goes (subst (λ q. L.ends c q ≡ true) (sym g) h.ends_there))) (λ l ts y p e g. on l ts y w z p e g)
