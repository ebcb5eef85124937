-- A row that is broken off in a part behind what makes it count: the node is begun there, and one deeper than the part.
use Rattle.std.proofs.Common.{◌≡◌, ◌≤◌, ◌<◌, ℕ, suc, Bool, true, false, List, [], ◌∷◌, ◌++◌, refl, sym, ◌∙◌, subst, arith}
use Rattle.std.specs.Prelude.{IsTrue, ◌&&◌}
use Rattle.jsx_base.specs.Token.{Text}
use Rattle.jsx_tree.specs.Signs.{Sign, Tok, Semicolon, TrailingComma, Unless, SameLine, Ends, Count, One}
use Rattle.jsx_tree.specs.Kinds.{If, Kind, statement, Tree, node, list, Forest, none, part}
use Rattle.jsx_tree.specs.Nonterminals.{Nonterminal, SubStmt, in_homes, homes}
use Rattle.jsx_tree.specs.Grammar.{ListShape, Context, Symbol, Fixed, Part, Optional, Many, Within, Production, fixed, production}
use Rattle.jsx_tree.specs.Form.{admits, fits_below, fit_each}
use Rattle.jsx_tree.specs.Reading.{Place, forth, scan}
use Rattle.jsx_tree.specs.Spelling.{maybe, gathered, said}
use Rattle.jsx_tree.specs.StaticRules.{Surroundings}
use Rattle.jsx_tree.specs.Depth.{Frame, frame, height, depth}
use Rattle.jsx_tree.specs.Walk.{is_found, around, steady, row, heard, pieces, IsRead, Given, nothing, with, Piece, piece, Past, sign, tree, absent, present, many, within, Items, nil, last, more as further}
use Rattle.jsx_tree.specs.Language.{Language, Whole}
use Rattle.jsx_tree.specs.Fronts.{says, behind, Open, inside, OpenRow, whole, at_part, at_optional, at_list, OpenPast, in_part, in_optional, in_list, OpenWalk, here, later, DeeperPast, DeeperWalk}
use Rattle.jsx_tree.specs.Answers.{Only}
use Rattle.jsx_tree.proofs.Tokens.{and_left, and_right, and_both}
use Rattle.jsx_tree.proofs.Rows.Bridge.{scan_heard, found_first, found_at}
use Rattle.jsx_tree.proofs.Rows.Guarded.{weaken_items}
use Rattle.jsx_tree.proofs.Rows.Laws.{Lawful}
use Rattle.jsx_tree.proofs.Rows.Placing.{are_free, free, free_around}
use Rattle.jsx_tree.proofs.Depth.Flat.{Acts, acts_none, acts_maybe, acts_list, acts_absent, acted, act, lift, is_level, are_level, level_row, ends_maybe, step_level, tree_acts, more_max, AllFlat, all_none, all_more, flat_joined, flat_tree}

-- ---- what was read stands in the grammar, from one place of a text to another

as_read : {L : Language} {v : Surroundings} {p : Symbol} {x y : Place} {g : Given} → Lawful L → Past (Whole L) v p x g y → Past IsRead v p x g y
as_read law (sign e f) = sign e f
as_read law (within f) = within f
as_read law (tree r) = tree (law.is_read r.reads)
as_read law (absent e f) = absent e f
as_read law (present d r e f) = present d (law.is_read r.reads) e f
as_read law (many e all) = many e (weaken_items (λ v b c x t y r. law.is_read r.reads) all)

items_end : {v : Surroundings} {s : ListShape} {c : Nonterminal} {x y : Place} {ts : Forest} → Items IsRead v s c x ts y → IsTrue (is_found y)
items_end (nil f) = f
items_end (last r e f) = f
items_end (further n r e all) = items_end all

past_end : {v : Surroundings} {p : Symbol} {x y : Place} {g : Given} → Past IsRead v p x g y → IsTrue (is_found y)
past_end (sign e f) = f
past_end (within f) = f
past_end (tree r) = r.found
past_end (absent e f) = f
past_end (present d r e f) = f
past_end (many e all) = items_end all

-- ---- a node that counts goes on counting

abbrev pub is_counted : Frame → Bool
is_counted (frame b d) = b

counted_act : (m : Sign) (f : Frame) → is_counted f ≡ true → is_counted (act m f) ≡ true
counted_act Count (frame b d) e = refl
counted_act One (frame b d) e = e
counted_act _ f e = e

counted_acted : (ms : List Sign) (f : Frame) → is_counted f ≡ true → is_counted (acted ms f) ≡ true
counted_acted [] f e = e
counted_acted (m ∷ ms) f e = counted_acted ms (act m f) (counted_act m f e)

counted_lift : (d : ℕ) (f : Frame) → is_counted f ≡ true → is_counted (lift d f) ≡ true
counted_lift d (frame b e) h = h

record Keeps (ms : List Sign) : Type 0 where
  does : Frame → Frame
  acts : Acts ms does
  keeps : (f : Frame) → is_counted f ≡ true → is_counted (does f) ≡ true

abbrev level_symbol : Symbol → Bool
level_symbol (Fixed m) = is_level m
level_symbol (Optional a c b r) = are_level a && are_level b
level_symbol p = true

listed_form : {v : Surroundings} {s : ListShape} {c : Nonterminal} {x y : Place} {ts : Forest} → Items IsRead v s c x ts y → fit_each c ts ≡ true
listed_form (nil f) = refl
listed_form {c = c} (last {t = t} r e f) = and_both _ _ (and_left (admits c t) (fits_below c t) r.is) (and_both _ _ (and_right (admits c t) (fits_below c t) r.is) refl)
listed_form {c = c} (further {t = t} n r e all) = and_both _ _ (and_left (admits c t) (fits_below c t) r.is) (and_both _ _ (and_right (admits c t) (fits_below c t) r.is) (listed_form all))

keeps_list : (s : ListShape) (c : Nonterminal) (ts : Forest) → fit_each c ts ≡ true → Keeps (gathered s (said (list ts)))
keeps_list s c ts e = record { does = lift (depth (list ts)); acts = acts_list s (list ts) (flat_tree c (list ts) e); keeps = counted_lift (depth (list ts)) }

keeps_maybe : (a b : List Sign) (r : List Text) (c : Nonterminal) (t : Tree) → (are_level a && are_level b) ≡ true → fits_below c t ≡ true → Keeps (maybe a b r (said (list (part t none))))
keeps_maybe a b r c t l e = record {
  does = ends_maybe a b (list (part t none));
  acts = acts_maybe a b r (list (part t none)) (and_left (are_level a) (are_level b) l) (and_right (are_level a) (are_level b) l) (flat_one c t e);
  keeps = λ f h. counted_acted b (lift (depth t) (acted a f)) (counted_lift (depth t) (acted a f) (counted_acted a f h));
}
  where
    flat_one : (c : Nonterminal) (t : Tree) → fits_below c t ≡ true → AllFlat (said (list (part t none)))
    flat_one c t e = all_more (flat_joined (said t) (flat_tree c t e)) all_none

keeps_past : {v : Surroundings} {p : Symbol} {x y : Place} {g : Given} → level_symbol p ≡ true → Past IsRead v p x g y → Keeps (says p g)
keeps_past l (sign {s = m} e f) = record { does = act m; acts = record { on = λ g gs. step_level m g gs l }; keeps = counted_act m }
keeps_past l (within f) = record { does = λ f. f; acts = acts_none; keeps = λ f h. h }
keeps_past l (tree {c = c} {t = t} r) = record { does = lift (depth t); acts = tree_acts c t (and_right (admits c t) (fits_below c t) r.is); keeps = counted_lift (depth t) }
keeps_past l (absent {a = a} {b = b} {r = r} e f) = record { does = λ f. f; acts = acts_absent a b r; keeps = λ f h. h }
keeps_past l (present {a = a} {b = b} {c = c} {r = r} {t = t} d q e f) = keeps_maybe a b r c t l (and_right (admits c t) (fits_below c t) q.is)
keeps_past l (many {s = s} {c = c} {ts = ts} e all) = keeps_list s c ts (listed_form all)

over_counted : (d : ℕ) (f : Frame) → is_counted f ≡ true → suc d ≤ height d (f ∷ [])
over_counted d (frame true e) h = let m = more_max d e in omega (arith, m)
over_counted d (frame false e) h = cc

-- ---- along the row

record Opened (V : List Context → Surroundings) (a : List Context) (ps : Production) (f : Frame) (x : Place) (ts : Forest) (d : ℕ) (y : Place) : Type 0 where
  deep : ℕ
  row : OpenRow V a ps (f ∷ []) x ts deep y
  over : suc d ≤ deep

onward : {V : List Context → Surroundings} {a : List Context} {p : Symbol} {ps : Production} {f : Frame} {x y z : Place} {g : Given} {ts : Forest} {d : ℕ} → Past IsRead (V a) p x g y → (k : Keeps (says p g)) → Opened V (behind p a) ps (k.does f) y ts d z → Opened V a (p ∷ ps) f x (with g ts) d z
onward {V} {a} {p} {ps} {f} {y = y} {z = z} {ts = ts} q k o = record { deep = o.deep; row = whole q (subst (λ fs. OpenRow V (behind p a) ps fs y ts o.deep z) (sym (k.acts.on f [])) o.row); over = o.over }

-- no symbol but a part is broken off, and no row without symbols
abbrev is_parted : Symbol → Bool
is_parted (Fixed m) = false
is_parted (Within a) = false
is_parted p = true

has_part : {v : Surroundings} {p : Symbol} {x y : Place} {d : ℕ} → OpenPast v p x d y → is_parted p ≡ true
has_part (in_part o) = refl
has_part (in_optional e i o) = refl
has_part (in_list o) = refl

abbrev is_row : List Piece → Bool
is_row [] = false
is_row (p ∷ ps) = true

has_row : {L : Language} {V : List Context → Surroundings} {ps : List Piece} {x y : Place} {ts : Forest} {d : ℕ} → OpenWalk L V ps x ts d y → is_row ps ≡ true
has_row (here o) = refl
has_row (later q w) = refl

-- behind the signs that lead to a part
behind_signs : {V : List Context → Surroundings} {a : List Context} (m : List Sign) (c : Nonterminal) (b : List Sign) (f : Frame) (x : Place) {y : Place} {d : ℕ} → are_level m ≡ true → is_counted f ≡ true → IsTrue (is_found (scan x m)) → Open (V a) false c (scan x m) d y → Opened V a (fixed m ++ (Part c ∷ fixed b)) f x none d y
behind_signs [] c b f x {d = d} l h i o = record { deep = height d (f ∷ []); row = at_part o; over = over_counted d f h }
behind_signs {V} {a} (n ∷ m) c b f x l h i o =
    onward {V = V} {a = a} {p = Fixed n} {g = nothing} (sign refl (found_first m (forth n x) i)) (record { does = act n; acts = record { on = λ g gs. step_level n g gs (and_left (is_level n) (are_level m) l) }; keeps = counted_act n })
    (behind_signs m c b (act n f) (forth n x) (and_right (is_level n) (are_level m) l) (counted_act n f h) i o)

-- the part that is broken off
at_here : {V : List Context → Surroundings} {a : List Context} (p : Symbol) (ps : Production) {f : Frame} {x y : Place} {ts : Forest} {d : ℕ} → level_symbol p ≡ true → IsTrue (is_found x) → is_counted f ≡ true → OpenPast (V a) p x d y → Opened V a (p ∷ ps) f x ts d y
at_here (Part c) ps {f} {d = d} l i h (in_part o) = record { deep = height d (f ∷ []); row = at_part o; over = over_counted d f h }
at_here {V} {a} (Optional m c b r) ps {f} {x} {y} {ts} {d} l i h (in_optional {y = z} e g o) =
    let q = behind_signs m c b f x (and_left (are_level m) (are_level b) l) h (found_at e g) (subst (λ w. Open (V a) false c w d y) (sym e) o) in
    record { deep = q.deep; row = at_optional q.row; over = q.over }
at_here (Many s c) ps {f} {d = d} l i h (in_list o) = record { deep = height d (f ∷ []); row = at_list o; over = over_counted d f h }
at_here (Fixed m) ps l i h o = let bad = has_part o in cc
at_here (Within m) ps l i h o = let bad = has_part o in cc

-- a row without what reading doesn't hear
unheard_past : {v : Surroundings} (m b : List Sign) (c : Nonterminal) (r : List Text) {x y : Place} {g : Given} → Past IsRead v (Optional (heard m) c (heard b) r) x g y → Past IsRead v (Optional m c b r) x g y
unheard_past m b c r (absent e f) = absent e f
unheard_past m b c r {x} (present {z = z} d q e f) = present (sym (scan_heard x m) ∙ d) q (sym (scan_heard z b) ∙ e) f

unheard_part : {v : Surroundings} (m b : List Sign) (c : Nonterminal) (r : List Text) {x y : Place} {d : ℕ} → OpenPast v (Optional (heard m) c (heard b) r) x d y → OpenPast v (Optional m c b r) x d y
unheard_part m b c r {x} (in_optional e f o) = in_optional (sym (scan_heard x m) ∙ e) f o

sign_keeps : (m : Sign) → is_level m ≡ true → Keeps (m ∷ [])
sign_keeps m l = record { does = act m; acts = record { on = λ g gs. step_level m g gs l }; keeps = counted_act m }

opened : {L : Language} {V : List Context → Surroundings} {x y : Place} {ts : Forest} {d : ℕ} → Lawful L → (a : List Context) (ps : Production) (f : Frame) → level_row ps ≡ true → is_counted f ≡ true → IsTrue (is_found x) → OpenWalk L V (pieces a ps) x ts d y → Opened V a ps f x ts d y
opened law a [] f l h i w = let bad = has_row w in cc
opened law a (Fixed (Tok m k t) ∷ ps) f l h i (here o) = let bad = has_part o in cc
opened law a (Fixed (Tok m k t) ∷ ps) f l h i (later (sign e j) w) = let s = sign_keeps (Tok m k t) refl in onward {p = Fixed (Tok m k t)} {g = nothing} (sign e j) s (opened law a ps (s.does f) l (s.keeps f h) j w)
opened law a (Fixed Semicolon ∷ ps) f l h i (here o) = let bad = has_part o in cc
opened law a (Fixed Semicolon ∷ ps) f l h i (later (sign e j) w) = let s = sign_keeps Semicolon refl in onward {p = Fixed Semicolon} {g = nothing} (sign e j) s (opened law a ps (s.does f) l (s.keeps f h) j w)
opened law a (Fixed TrailingComma ∷ ps) f l h i (here o) = let bad = has_part o in cc
opened law a (Fixed TrailingComma ∷ ps) f l h i (later (sign e j) w) = let s = sign_keeps TrailingComma refl in onward {p = Fixed TrailingComma} {g = nothing} (sign e j) s (opened law a ps (s.does f) l (s.keeps f h) j w)
opened law a (Fixed (Unless us) ∷ ps) f l h i (here o) = let bad = has_part o in cc
opened law a (Fixed (Unless us) ∷ ps) f l h i (later (sign e j) w) = let s = sign_keeps (Unless us) refl in onward {p = Fixed (Unless us)} {g = nothing} (sign e j) s (opened law a ps (s.does f) l (s.keeps f h) j w)
opened law a (Fixed SameLine ∷ ps) f l h i (here o) = let bad = has_part o in cc
opened law a (Fixed SameLine ∷ ps) f l h i (later (sign e j) w) = let s = sign_keeps SameLine refl in onward {p = Fixed SameLine} {g = nothing} (sign e j) s (opened law a ps (s.does f) l (s.keeps f h) j w)
opened law a (Fixed (Ends e) ∷ ps) f l h i (here o) = let bad = has_part o in cc
opened law a (Fixed (Ends e) ∷ ps) f l h i (later (sign q j) w) = let s = sign_keeps (Ends e) refl in onward {p = Fixed (Ends e)} {g = nothing} (sign q j) s (opened law a ps (s.does f) l (s.keeps f h) j w)
opened law a (Fixed s ∷ ps) f l h i w = let k = sign_keeps s (and_left (is_level s) (level_row ps) l) in onward {p = Fixed s} {g = nothing} (sign refl i) k (opened law a ps (k.does f) (and_right (is_level s) (level_row ps) l) (k.keeps f h) i w)
opened law a (Within e ∷ ps) f l h i w = onward {p = Within e} {g = nothing} (within i) (record { does = λ g. g; acts = acts_none; keeps = λ g k. k }) (opened law (e ∷ a) ps f l h i w)
opened law a (Part c ∷ ps) f l h i (here o) = at_here (Part c) ps refl i h o
opened law a (Part c ∷ ps) f l h i (later q w) = let p = as_read law q in let k = keeps_past refl p in onward p k (opened law a ps (k.does f) l (k.keeps f h) (past_end p) w)
opened law a (Optional m c b r ∷ ps) f l h i (here o) = at_here (Optional m c b r) ps (and_left (are_level m && are_level b) (level_row ps) l) i h (unheard_part m b c r o)
opened law a (Optional m c b r ∷ ps) f l h i (later q w) =
    let p = unheard_past m b c r (as_read law q) in
    let k = keeps_past (and_left (are_level m && are_level b) (level_row ps) l) p in
    onward p k (opened law a ps (k.does f) (and_right (are_level m && are_level b) (level_row ps) l) (k.keeps f h) (past_end p) w)
opened law a (Many s c ∷ ps) f l h i (here o) = at_here (Many s c) ps refl i h o
opened law a (Many s c ∷ ps) f l h i (later q w) = let p = as_read law q in let k = keeps_past refl p in onward p k (opened law a ps (k.does f) l (k.keeps f h) (past_end p) w)

-- a node that counts from its first sign on is begun where a part is, and is one deeper
pub record Begun (v : Surroundings) (c : Nonterminal) (x : Place) (d : ℕ) (y : Place) : Type 0 where
  pub deep : ℕ
  pub node : Open v false c x deep y
  pub over : suc d ≤ deep

pub open_part : {L : Language} {v : Surroundings} {c : Nonterminal} {x y : Place} {ts : Forest} {d : ℕ} → Lawful L → (k : Kind) (ps : Production) → Fixed Count ∷ ps ≡ production k → level_row ps ≡ true → in_homes c (homes k) ≡ true → IsTrue (is_found x) → OpenWalk L (around v ts) (pieces [] ps) x ts d y → Begun v c x d y
open_part {v = v} {x = x} {y} {ts} law k ps is l home i w =
    let o = opened law [] ps (frame true 0) l refl i w in
    let row : OpenRow (around v ts) [] (Fixed Count ∷ ps) (frame false 0 ∷ []) x ts o.deep y = whole {g = nothing} (sign refl i) o.row in
    record { deep = o.deep; node = inside k ts home (subst (λ qs. OpenRow (around v ts) [] qs (frame false 0 ∷ []) x ts o.deep y) is row); over = o.over }

-- ---- beside `bar`, `on` and `barred_node`: what is begun there, and is deeper

pub deep_bar : {L : Language} {v : Surroundings} {a : List Context} {p : Symbol} {ps : List Piece} {x : Place} {n : ℕ} → DeeperPast (steady v a) p x n → DeeperWalk L (steady v) (piece a p ∷ ps) x n
deep_bar d = record { parts = none; deep = d.deep; place = d.place; front = here d.front; deeper = d.deeper }

pub deep_on : {L : Language} {v : Surroundings} {a : List Context} {p : Symbol} {ps : List Piece} {x y : Place} {g : Given} {n : ℕ} → Only L (steady v a) p x g y → DeeperWalk L (steady v) ps y n → DeeperWalk L (steady v) (piece a p ∷ ps) x n
deep_on {g = g} o d = record { parts = with g d.parts; deep = d.deep; place = d.place; front = later o.past d.front; deeper = d.deeper }

moved_walk : {L : Language} {V W : List Context → Surroundings} {ps : List Piece} {x y : Place} {ts : Forest} {d : ℕ} → ((a : List Context) → are_free a ≡ true → V a ≡ W a) → free ps ≡ true → OpenWalk L V ps x ts d y → OpenWalk L W ps x ts d y
moved_walk e f (here {a = a} {p = p} {ps = ps} {x = x} {y = y} {d = d} o) = here (subst (λ v. OpenPast v p x d y) (e a (and_left (are_free a) (free ps) f)) o)
moved_walk {L} e f (later {a = a} {p = p} {ps = ps} {x = x} {y = y} {g = g} q w) = later (subst (λ v. Past (Whole L) v p x g y) (e a (and_left (are_free a) (free ps) f)) q) (moved_walk e (and_right (are_free a) (free ps) f) w)

-- a kind that counts from its first sign on, in a row that doesn't hang on its parts
pub deep_node : {L : Language} {v : Surroundings} {c : Nonterminal} {x : Place} {n : ℕ} → Lawful L → (k : Kind) (ps : Production) → Fixed Count ∷ ps ≡ production k → level_row ps ≡ true → free (pieces [] ps) ≡ true → in_homes c (homes k) ≡ true → IsTrue (is_found x) → DeeperWalk L (steady v) (pieces [] ps) x n → DeeperPast v (Part c) x (suc n)
deep_node {v = v} law k ps is l fr home i w =
    let o = open_part law k ps is l home i (moved_walk (λ a h. sym (free_around a w.parts v h)) fr w.front) in
    record { deep = o.deep; place = w.place; front = in_part o.node; deeper = below w.deeper o.over }
  where
    below : {n d e : ℕ} → n < d → suc d ≤ e → suc n < e
    below p q = omega (arith, p, q)

-- `if`, `while` and the like: one line a kind
if_deep : {L : Language} {v : Surroundings} {x : Place} {n : ℕ} → Lawful L → IsTrue (is_found x) → DeeperWalk L (steady v) (row false (statement If)) x n → DeeperPast v (Part SubStmt) x (suc n)
if_deep law i w = deep_node law (statement If) _ refl refl refl refl i w
