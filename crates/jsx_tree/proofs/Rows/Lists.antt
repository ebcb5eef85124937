-- Lists with commas, as a loop of the parser reads them.
use Rattle.std.proofs.Common.{◌≡◌, true, false, List, [], ◌∷◌, refl, sym, ◌∙◌, ap, subst}
use Rattle.std.specs.Prelude.{ℕ, IsTrue, codes}
use Rattle.jsx_base.specs.Token.{Text, Operator, Punctuator, same}
use Rattle.jsx_tree.specs.Signs.{Sign, Tok}
use Rattle.jsx_tree.specs.Kinds.{Tree, list, Forest, none, part}
use Rattle.jsx_tree.specs.Nonterminals.{Nonterminal}
use Rattle.jsx_tree.specs.Grammar.{ListShape, Commas, NoTrailing, Context, Fixed, Part, Many, pun}
use Rattle.jsx_tree.specs.Form.{enough}
use Rattle.jsx_tree.specs.Reading.{Place}
use Rattle.jsx_tree.specs.StaticRules.{Surroundings}
use Rattle.jsx_base.proofs.Fronts.{none_ahead}
use Rattle.jsx_base.specs.Token.{Operand, RegExpLiteral}
use Rattle.jsx_tree.specs.Walk.{is_found, is_text, Given, nothing, one, Piece, piece, Items, nil, last, more, Past, sign, tree, many, Walk, next, steady}
use Rattle.jsx_tree.specs.Language.{Language, Whole}
use Rattle.jsx_tree.specs.Answers.{Moves, Stuck, Missed, Only, Barred, OnlyRow, NoRow}
use Rattle.jsx_tree.specs.Faults.{Fault, Unread, Shallow, deepest}
use Rattle.jsx_tree.proofs.Depth.Shallow.{shallow_first, shallow_rest, shallow_head}
use Rattle.jsx_tree.proofs.Apart.{never_both}
use Rattle.jsx_tree.proofs.Rows.Bridge.{found_first, found_at}
use Rattle.jsx_tree.specs.Grows.{is_operand}
use Rattle.jsx_tree.proofs.Rows.Laws.{Lawful, shut_out}
use Rattle.jsx_tree.proofs.Rows.Closers.{Closer, closes}
use Rattle.jsx_tree.proofs.Rows.Steps.{bar, end, then', only_sign, no_sign, both}
use Rattle.jsx_tree.proofs.Rows.Turns.{item_of, Turn, turn_final, turn_next, turn_only, turn_none, turn_both, turn_as, turn_empty, turn_last, turn_item, turn_same, prepend, prepend_none, prepend_cons, no_rest}

-- ---- what closes a list

pub round : Closer 41 []
round = record { no_less = refl; no_slash = λ s. none_ahead RegExpLiteral Operand 41 s refl refl refl; no_opener = refl }

pub square : Closer 93 []
square = record { no_less = refl; no_slash = λ s. none_ahead RegExpLiteral Operand 93 s refl refl refl; no_opener = refl }

pub brace : Closer 125 []
brace = record { no_less = refl; no_slash = λ s. none_ahead RegExpLiteral Operand 125 s refl refl refl; no_opener = refl }

behind : {s : Sign} {x y : Place} → Moves s x y → IsTrue (is_found x)
behind {s} {x} m = found_first (s ∷ []) x (found_at (sym m.is) m.found)

sign_found : {L : Language} {v : Surroundings} {s : Sign} {x y : Place} {g : Given} → Past (Whole L) v (Fixed s) x g y → IsTrue (is_found y)
sign_found (sign e f) = f

pub closed : {L : Language} {v : Surroundings} {b : List Context} {s : Sign} {x y : Place} → Moves s x y → OnlyRow L v (piece b (Fixed s) ∷ []) x none y
closed m = then' (only_sign m) (end m.found)

pub ended_sign : {L : Language} {v : Surroundings} {b : List Context} {s : Sign} {x y : Place} → Only L (steady v b) (Fixed s) x nothing y → OnlyRow L v (piece b (Fixed s) ∷ []) x none y
ended_sign o = then' o (end (sign_found o.past))

unclosed : {L : Language} {v : Surroundings} {b : List Context} {s : Sign} {x : Place} {e : Fault} → Stuck s x → NoRow L v (piece b (Fixed s) ∷ []) x e
unclosed n = bar (no_sign n)

none_behind : {L : Language} {v : Surroundings} {b : List Context} {s : Sign} {x : Place} {e : Fault} → Barred L (steady v b) (Fixed s) x e → NoRow L v (piece b (Fixed s) ∷ []) x e
none_behind n = bar n

-- of a list that may be empty neither its first tree nor what stands behind it
pub no_items : {L : Language} {v : Surroundings} {a : List Context} {s : ListShape} {c : Nonterminal} {ps : List Piece} {x : Place} {e : Fault} → ((t : Tree) (y : Place) → Whole L (steady v a) (is_text s) c x t y → Whole L (steady v a) false c x t y) → Barred L (steady v a) (Part c) x e → NoRow L v ps x e → NoRow L v (piece a (Many s c) ∷ ps) x e
no_items {L} {v} {a} {s = shape} {c} {ps} {x} {e} g b n = record { no = back }
  where
    inner : (ts : Forest) (y : Place) → Items (Whole L) (steady v a) shape c x ts y → (us : Forest) (w : Place) → Walk (Whole L) (steady v) ps y us w → Shallow e (deepest ts) → Shallow e (deepest us) → ⊥
    inner ts y (nil f) us w walk s q = n.no us w walk q
    inner ts y (last {t = t} r d f) us w walk s q = b.no _ _ (tree (g t _ r)) (shallow_head e t none s)
    inner ts y (more {t = t} {u = u} {us = vs} m r d all) us w walk s q = b.no _ _ (tree (g t _ r)) (shallow_head e t (part u vs) s)

    back : (us : Forest) (w : Place) → Walk (Whole L) (steady v) (piece a (Many shape c) ∷ ps) x us w → Shallow e (deepest us) → ⊥
    back us w (next {ts = vs} (many {ts = ts} n all) walk) s = inner ts _ all vs w walk (shallow_first e (one (list ts)) vs s) (shallow_rest e (one (list ts)) vs s)

no_list : {L : Language} {v : Surroundings} {a : List Context} {c : Nonterminal} {ps : List Piece} {x : Place} {e : Fault} → Barred L (steady v a) (Part c) x e → NoRow L v ps x e → NoRow L v (piece a (Many Commas c) ∷ ps) x e
no_list b n = no_items (λ t y r. r) b n

both_none : (ts : Forest) → both ts none ≡ ts
both_none none = refl
both_none (part t ts) = ap (part t) (both_none ts)

-- ---- the steps of the loop; `R` is the list and what closes it

pub begun : {L : Language} {v : Surroundings} {ps : List Piece} {x : Place} (ts : Forest) → ts ≡ none → Turn L v ps ps x x (prepend ts)
begun {L} {v} {ps} {x} ts e = subst (λ ts. Turn L v ps ps x x (prepend ts)) (sym e) (turn_as prepend_none turn_same)

-- nothing more stands in it, or what doesn't belong there
pub ended : {L : Language} {v : Surroundings} {a b : List Context} {c : Nonterminal} {d : ℕ} {t : Text} {x y z : Place} (ts : Forest) → Lawful L → is_operand c ≡ true → Closer d t
    → Turn L v (piece a (Many Commas c) ∷ piece b (Fixed (Tok Operator Punctuator (d ∷ t))) ∷ []) (piece a (Many Commas c) ∷ piece b (Fixed (Tok Operator Punctuator (d ∷ t))) ∷ []) x y (prepend ts)
    → Moves (Tok Operator Punctuator (d ∷ t)) y z → OnlyRow L v (piece a (Many Commas c) ∷ piece b (Fixed (Tok Operator Punctuator (d ∷ t))) ∷ []) x (part (list ts) none) z
ended {L} {v} {a} {b} {c} {d} {t} {x} {y} {z} ts l f k so m =
    subst (λ us. OnlyRow L v (piece a (Many Commas c) ∷ piece b (Fixed (Tok Operator Punctuator (d ∷ t))) ∷ []) x (part (list us) none) z) (both_none ts)
    (turn_only so (turn_only (turn_empty (behind m) (shut_out l f (closes k (found_at (sym m.is) m.found)))) (closed m)))

pub no_more : {L : Language} {v : Surroundings} {a b : List Context} {c : Nonterminal} {s : Sign} {x y z : Place} {e : Fault} (ts : Forest) → Turn L v (piece a (Many Commas c) ∷ piece b (Fixed s) ∷ []) (piece a (Many Commas c) ∷ piece b (Fixed s) ∷ []) x y (prepend ts) → Missed s y z → Barred L (steady v a) (Part c) z e → NoRow L v (piece a (Many Commas c) ∷ piece b (Fixed s) ∷ []) x e
no_more {L} {v} {a} {c = c} {e = e} ts so m b = turn_none so (no_list (subst (λ p. Barred L (steady v a) (Part c) p e) (sym m.same) b) (unclosed m.stuck))

-- a part with no comma behind it
last_part : {L : Language} {v : Surroundings} {a b : List Context} {c : Nonterminal} {s : Sign} {x x' y z : Place} {t : Tree} → Lawful L → Missed s x x' → Only L (steady v a) (Part c) x' (one t) y → Missed (pun ",") y z → Turn L v (piece a (Many Commas c) ∷ piece b (Fixed s) ∷ []) (piece b (Fixed s) ∷ []) x z (part (list (part t none)))
last_part {L} {v} {a} {b} {c} {s} {x} {y = y} {t = t} l n o m =
    subst (λ p. Turn L v (piece a (Many Commas c) ∷ piece b (Fixed s) ∷ []) (piece b (Fixed s) ∷ []) x p (part (list (part t none)))) m.same
    (turn_last l (subst (λ p. Only L (steady v a) (Part c) p (one t) y) (sym n.same) o) m.stuck (unclosed n.stuck))

pub ended_behind : {L : Language} {v : Surroundings} {a b : List Context} {c : Nonterminal} {s : Sign} {x y y' z z' w : Place} {t : Tree} (ts us : Forest) → Lawful L → Turn L v (piece a (Many Commas c) ∷ piece b (Fixed s) ∷ []) (piece a (Many Commas c) ∷ piece b (Fixed s) ∷ []) x y (prepend ts)
    → Missed s y y' → Only L (steady v a) (Part c) y' (one t) z → Missed (pun ",") z z' → Only L (steady v b) (Fixed s) z' nothing w → us ≡ both ts (part t none) → OnlyRow L v (piece a (Many Commas c) ∷ piece b (Fixed s) ∷ []) x (part (list us) none) w
ended_behind {L} {v} {a} {b} {c} {s} {x} {w = w} ts us l so n o m k e = subst (λ vs. OnlyRow L v (piece a (Many Commas c) ∷ piece b (Fixed s) ∷ []) x (part (list vs) none) w) (sym e) (turn_only so (turn_only (last_part l n o m) (then' k (end (sign_found k.past)))))

pub not_closed : {L : Language} {v : Surroundings} {a b : List Context} {c : Nonterminal} {s : Sign} {x y y' z z' : Place} {t : Tree} {e : Fault} (ts : Forest) → Lawful L → Turn L v (piece a (Many Commas c) ∷ piece b (Fixed s) ∷ []) (piece a (Many Commas c) ∷ piece b (Fixed s) ∷ []) x y (prepend ts)
    → Missed s y y' → Only L (steady v a) (Part c) y' (one t) z → Missed (pun ",") z z' → Barred L (steady v b) (Fixed s) z' e → NoRow L v (piece a (Many Commas c) ∷ piece b (Fixed s) ∷ []) x e
not_closed ts l so n o m k = turn_none so (turn_none (last_part l n o m) (bar k))

-- a part and a comma
pub item_more : {L : Language} {v : Surroundings} {a b : List Context} {c : Nonterminal} {s : Sign} {x y y' z w : Place} {t : Tree} (ts us : Forest) → Lawful L → no_rest c ≡ true → Turn L v (piece a (Many Commas c) ∷ piece b (Fixed s) ∷ []) (piece a (Many Commas c) ∷ piece b (Fixed s) ∷ []) x y (prepend ts)
    → Missed s y y' → Only L (steady v a) (Part c) y' (one t) z → Moves (pun ",") z w → us ≡ both ts (part t none) → Turn L v (piece a (Many Commas c) ∷ piece b (Fixed s) ∷ []) (piece a (Many Commas c) ∷ piece b (Fixed s) ∷ []) x w (prepend us)
item_more {L} {v} {a} {c = c} {z = z} {t = t} ts us l r so n o m e = turn_as (λ vs. prepend_cons ts t vs ∙ (λ i. prepend (sym e i) vs)) (turn_both so (turn_item l r (subst (λ p. Only L (steady v a) (Part c) p (one t) z) (sym n.same) o) m (unclosed n.stuck)))

-- ---- the same where no comma may trail and one part at least stands

no_first : {L : Language} {v : Surroundings} {a : List Context} {c : Nonterminal} {ps : List Piece} {x : Place} {e : Fault} → Barred L (steady v a) (Part c) x e → NoRow L v (piece a (Many NoTrailing c) ∷ ps) x e
no_first {L} {v} {a} {c} {ps} {x} {e} b = record { no = back }
  where
    inner : (ts : Forest) (y : Place) → enough NoTrailing ts ≡ true → Items (Whole L) (steady v a) NoTrailing c x ts y → Shallow e (deepest ts) → ⊥
    inner ts y n (nil f) s = cc
    inner ts y n (last {t = t} r g f) s = b.no _ _ (tree r) (shallow_head e t none s)
    inner ts y n (more {t = t} {u = u} {us = vs} m r g all) s = b.no _ _ (tree r) (shallow_head e t (part u vs) s)

    back : (us : Forest) (w : Place) → Walk (Whole L) (steady v) (piece a (Many NoTrailing c) ∷ ps) x us w → Shallow e (deepest us) → ⊥
    back us w (next {ts = vs} (many {ts = ts} n all) walk) s = inner ts _ n all (shallow_first e (one (list ts)) vs s)

pub none_next : {L : Language} {v : Surroundings} {a : List Context} {c : Nonterminal} {ps : List Piece} {x y : Place} {e : Fault} (ts : Forest) → Turn L v (piece a (Many NoTrailing c) ∷ ps) (piece a (Many NoTrailing c) ∷ ps) x y (prepend ts) → Barred L (steady v a) (Part c) y e → NoRow L v (piece a (Many NoTrailing c) ∷ ps) x e
none_next ts so b = turn_none so (no_first b)

pub not_shut : {L : Language} {v : Surroundings} {a b : List Context} {c : Nonterminal} {s : Sign} {x y z z' : Place} {t : Tree} {e : Fault} (ts : Forest) → Lawful L → Turn L v (piece a (Many NoTrailing c) ∷ piece b (Fixed s) ∷ []) (piece a (Many NoTrailing c) ∷ piece b (Fixed s) ∷ []) x y (prepend ts)
    → Only L (steady v a) (Part c) y (one t) z → Missed (pun ",") z z' → Barred L (steady v b) (Fixed s) z' e → NoRow L v (piece a (Many NoTrailing c) ∷ piece b (Fixed s) ∷ []) x e
not_shut {L} {v} {b = b} {s = s} {e = e} ts l so o m k = turn_none so (turn_none (turn_final l o m.stuck) (bar (subst (λ p. Barred L (steady v b) (Fixed s) p e) (sym m.same) k)))

pub shut : {L : Language} {v : Surroundings} {a b : List Context} {c : Nonterminal} {s : Sign} {x y z z' w : Place} {t : Tree} (ts us : Forest) → Lawful L → Turn L v (piece a (Many NoTrailing c) ∷ piece b (Fixed s) ∷ []) (piece a (Many NoTrailing c) ∷ piece b (Fixed s) ∷ []) x y (prepend ts)
    → Only L (steady v a) (Part c) y (one t) z → Missed (pun ",") z z' → Only L (steady v b) (Fixed s) z' nothing w → us ≡ both ts (part t none) → OnlyRow L v (piece a (Many NoTrailing c) ∷ piece b (Fixed s) ∷ []) x (part (list us) none) w
shut {L} {v} {a} {b} {c} {s} {x} {w = w} ts us l so o m k e = subst (λ vs. OnlyRow L v (piece a (Many NoTrailing c) ∷ piece b (Fixed s) ∷ []) x (part (list vs) none) w) (sym e)
    (turn_only so (turn_only (turn_final l o m.stuck) (subst (λ p. OnlyRow L v (piece b (Fixed s) ∷ []) p none w) (sym m.same) (then' k (end (sign_found k.past))))))

pub one_next : {L : Language} {v : Surroundings} {a b : List Context} {c : Nonterminal} {d : ℕ} {r : Text} {x y z w : Place} {t : Tree} (ts us : Forest) → Lawful L → no_rest c ≡ true → same (codes ",") (d ∷ r) ≡ false
    → Turn L v (piece a (Many NoTrailing c) ∷ piece b (Fixed (Tok Operator Punctuator (d ∷ r))) ∷ []) (piece a (Many NoTrailing c) ∷ piece b (Fixed (Tok Operator Punctuator (d ∷ r))) ∷ []) x y (prepend ts)
    → Only L (steady v a) (Part c) y (one t) z → Moves (pun ",") z w → us ≡ both ts (part t none) → Turn L v (piece a (Many NoTrailing c) ∷ piece b (Fixed (Tok Operator Punctuator (d ∷ r))) ∷ []) (piece a (Many NoTrailing c) ∷ piece b (Fixed (Tok Operator Punctuator (d ∷ r))) ∷ []) x w (prepend us)
one_next {L} {v} {a} {b} {c = c} {d = d} {r = r} {z = z} {t = t} ts us l n ne so o m e = turn_as (λ vs. prepend_cons ts t vs ∙ (λ i. prepend (sym e i) vs)) (turn_both so (turn_next l n o m (record { no = at })))
  where
    at : (us : Forest) (w : Place) → Walk (Whole L) (steady v) (piece b (Fixed (Tok Operator Punctuator (d ∷ r))) ∷ []) z us w → Shallow Unread (deepest us) → ⊥
    at us w (next (sign g f) walk) s = never_both Punctuator Punctuator (codes ",") (d ∷ r) z ne (found_at (sym m.is) m.found) (found_at g f)

-- what is said of the next part alone is said of every list that begins with those before
pub all_with : {L : Language} {v : Surroundings} {a : List Context} {c : Nonterminal} {ps : List Piece} {x y z : Place} {t : Tree} (ts : Forest) → Turn L v (piece a (Many NoTrailing c) ∷ ps) (piece a (Many NoTrailing c) ∷ ps) x y (prepend ts) → Only L (steady v a) (Part c) y (one t) z
    → (us : Forest) (w : Place) → Walk (Whole L) (steady v) (piece a (Many NoTrailing c) ∷ ps) x us w → (vs : Forest) × ((ws : Forest) × (us ≡ part (list (both ts (part t vs))) ws))
all_with {L} {v} {a} {c} {ps} {x} {y} {z} {t} ts so o us w walk =
    let f = so.from us w walk in
    let g = back f.parts w f.walk in
    (g.0, (g.1.0, sym f.is ∙ ap (prepend ts) g.1.1))
  where
    inner : (vs : Forest) (p : Place) (ws : Forest) → enough NoTrailing vs ≡ true → Items (Whole L) (steady v a) NoTrailing c y vs p → (qs : Forest) × ((rs : Forest) × (part (list vs) ws ≡ part (list (part t qs)) rs))
    inner vs p ws e (nil f) = cc
    inner vs p ws e (last {y = y'} {t = t'} r g f) = let same = o.alone (one t') y' (tree r) in (none, (ws, λ i. part (list (part (item_of (sym same.0 i)) none)) ws))
    inner vs p ws e (more {y = y'} {t = t'} {u = u} {us = qs} m r g all) = let same = o.alone (one t') y' (tree r) in (part u qs, (ws, λ i. part (list (part (item_of (sym same.0 i)) (part u qs))) ws))

    back : (vs : Forest) (p : Place) → Walk (Whole L) (steady v) (piece a (Many NoTrailing c) ∷ ps) y vs p → (qs : Forest) × ((rs : Forest) × (vs ≡ part (list (part t qs)) rs))
    back vs p (next {ts = ws} (many {ts = ts'} e all) walk) = inner ts' _ ws e all

-- no part can stand in it
pub only_none : {L : Language} {v : Surroundings} {s : ListShape} {c : Nonterminal} {x : Place} → enough s none ≡ true → IsTrue (is_found x) → Barred L v (Part c) x Unread → ((t : Tree) (y : Place) → Whole L v (is_text s) c x t y → Whole L v false c x t y) → Only L v (Many s c) x (one (list none)) x
only_none {L} {v} {s} {c} {x} n f b g = record { past = many n (nil f); alone = at }
  where
    inner : (ts : Forest) (y : Place) → Items (Whole L) v s c x ts y → (one (list none) ≡ one (list ts)) × (x ≡ y)
    inner ts y (nil f) = (refl, refl)
    inner ts y (last {t = t} r e f) = absurd (b.no _ _ (tree (g t _ r)) tt)
    inner ts y (more {t = t} m r e all) = absurd (b.no _ _ (tree (g t _ r)) tt)

    at : (h : Given) (z : Place) → Past (Whole L) v (Many s c) x h z → (one (list none) ≡ h) × (x ≡ z)
    at h z (many {ts = ts} e all) = inner ts z all
