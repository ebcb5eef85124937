-- The depth of a node is that of its deepest part, and one more where it counts: by a computed test of each row.
use Rattle.std.proofs.Common.{◌≡◌, ◌≤◌, ℕ, suc, max, Bool, true, false, not, List, [], ◌∷◌, refl, ◌∙◌, ap, arith}
use Rattle.std.specs.Prelude.{◌&&◌, ◌||◌}
use Rattle.jsx_base.specs.Token.{Text, Punctuator}
use Rattle.jsx_tree.specs.Signs.{Sign, Tok, Unless, Count, One}
use Rattle.jsx_tree.specs.Kinds.{Role, Module, Block, Declarator, Static, Method, Getter, Setter, Field, ShorthandInit, Nullish, Delete, Binary, Unary, NameLink, IndexLink, CallLink, Element, Kind, program, statement, function, expression, jsx, Tree, leaf, node, list, Forest, none, part}
use Rattle.jsx_tree.specs.Nonterminals.{Nonterminal, Expr, BindingIdent}
use Rattle.jsx_tree.specs.Grammar.{Context, Fixed, Part, Optional, Many, Within, Production, production}
use Rattle.jsx_tree.specs.Form.{positions, admits, shaped, Single, Several, at_most_one, inside, is_piece, slots, fits_below, fit_slots, fit_each, Position, position}
use Rattle.jsx_tree.specs.Spelling.{spelled}
use Rattle.jsx_tree.specs.Depth.{frame, depth_of, depth}
use Rattle.jsx_tree.specs.Faults.{part_depth, deepest}
use Rattle.jsx_tree.proofs.Tokens.{and_left, and_right}
use Rattle.jsx_tree.proofs.Depth.Flat.{lift, acted, ends, is_nested, node_ends, nested_depth, Flat, tree_acts, both_deep}
use Rattle.jsx_tree.specs.Reach.{ones}

-- ---- the parts of a node, each with its signs

abbrev sum_of : Forest → ℕ
sum_of none = 0
sum_of (part t ts) = max (depth t) (sum_of ts)

-- of a list, those of its trees
depth_more : (c : Nonterminal) (t : Tree) (ts : Forest) → fits_below c t ≡ true → fit_each c ts ≡ true → depth (list (part t ts)) ≡ max (depth t) (depth (list ts))
depth_more c t none e f = let same : depth t ≡ max (depth t) 0 = omega arith in same
depth_more c t (part u us) e f =
    let a : Flat (spelled t) = record { weight = depth t; acts = tree_acts c t e } in
    let b : Flat (spelled (list (part u us))) = record { weight = depth (list (part u us)); acts = tree_acts c (list (part u us)) f } in
    both_deep (spelled t) (spelled (list (part u us))) a b

max_both : {a b c d : ℕ} → a ≡ c → b ≡ d → max a b ≡ max c d
max_both p q = λ i. max (p i) (q i)

mutual
  pub read_depth : (c : Nonterminal) (t : Tree) → fits_below c t ≡ true → depth t ≡ part_depth t
  read_depth c (leaf s t) e = refl
  read_depth c (node k cs) e = refl
  read_depth c (list ts) e = list_depth c ts e

  list_depth : (c : Nonterminal) (ts : Forest) → fit_each c ts ≡ true → depth (list ts) ≡ deepest ts
  list_depth c none e = refl
  list_depth c (part t ts) e =
      let below = and_right (admits c t) (fits_below c t && fit_each c ts) e in
      let f = and_left (fits_below c t) (fit_each c ts) below in
      let g = and_right (fits_below c t) (fit_each c ts) below in
      depth_more c t ts f g ∙ max_both (read_depth c t f) (list_depth c ts g)

sum_is : (ss : List Position) (ts : Forest) → fit_slots ss ts ≡ true → sum_of ts ≡ deepest ts
sum_is [] none e = refl
sum_is [] (part t ts) e = cc
sum_is (position f c g b a ∷ ss) none e = cc
sum_is (position f c g b a ∷ ss) (part t ts) e =
    let below = and_right (shaped f c t) (fits_below c t && fit_slots ss ts) e in
    max_both (read_depth c t (and_left (fits_below c t) (fit_slots ss ts) below)) (sum_is ss ts (and_right (fits_below c t) (fit_slots ss ts) below))

-- ---- a part at each place of a row

abbrev pub full : Production → Forest → Bool
full [] none = true
full [] (part t ts) = false
full (Fixed m ∷ ps) ts = full ps ts
full (Within a ∷ ps) ts = full ps ts
full (Part c ∷ ps) none = false
full (Part c ∷ ps) (part t ts) = full ps ts
full (Optional a c b r ∷ ps) none = false
full (Optional a c b r ∷ ps) (part (list us) ts) = at_most_one us && full ps ts
full (Optional a c b r ∷ ps) (part t ts) = false
full (Many s c ∷ ps) none = false
full (Many s c ∷ ps) (part t ts) = full ps ts

past_two : (p q r : Bool) → (p && (q && r)) ≡ true → r ≡ true
past_two p q r e = and_right q r (and_right p (q && r) e)

pub full_of : (g : List Text) (b : Bool) (a : List Context) (ps : Production) (ts : Forest) → fit_slots (slots g b a ps) ts ≡ true → full ps ts ≡ true
full_of g b a [] none e = refl
full_of g b a [] (part t ts) e = e
full_of g b a (Fixed (Tok m Punctuator t) ∷ ps) ts e = full_of [] (inside t b) a ps ts e
full_of g b a (Fixed (Unless us) ∷ ps) ts e = full_of us b a ps ts e
full_of g b a (Fixed (Tok m k t) ∷ ps) ts e = full_of g b a ps ts e
full_of g b a (Fixed s ∷ ps) ts e = full_of g b a ps ts e
full_of g b a (Within x ∷ ps) ts e = full_of g b (x ∷ a) ps ts e
full_of g b a (Part c ∷ ps) none e = e
full_of g b a (Part c ∷ ps) (part t ts) e = full_of [] (b || is_piece c) a ps ts (past_two (shaped Single c t) (fits_below c t) (fit_slots (slots [] (b || is_piece c) a ps) ts) e)
full_of g b a (Optional x c y r ∷ ps) none e = e
full_of g b a (Optional x c y r ∷ ps) (part (leaf k t) ts) e = cc
full_of g b a (Optional x c y r ∷ ps) (part (node k us) ts) e = cc
full_of g b a (Optional x c y r ∷ ps) (part (list none) ts) e = full_of [] b a ps ts (past_two true true (fit_slots (slots [] b a ps) ts) e)
full_of g b a (Optional x c y r ∷ ps) (part (list (part u none)) ts) e = full_of [] b a ps ts (past_two true (fits_below c (list (part u none))) (fit_slots (slots [] b a ps) ts) e)
full_of g b a (Optional x c y r ∷ ps) (part (list (part u (part w us))) ts) e = cc
full_of g b a (Many s c ∷ ps) none e = e
full_of g b a (Many s c ∷ ps) (part t ts) e = full_of [] b a ps ts (past_two (shaped (Several s) c t) (fits_below c t) (fit_slots (slots [] b a ps) ts) e)

-- ---- what a row counts

abbrev pub has_count : List Sign → Bool
has_count [] = false
has_count (Count ∷ ms) = true
has_count (m ∷ ms) = has_count ms

abbrev pub has_one : List Sign → Bool
has_one [] = false
has_one (One ∷ ms) = true
has_one (m ∷ ms) = has_one ms

-- whether a node with these parts counts
abbrev pub flagged : List Sign → List Sign → Forest → Bool
flagged a b none = false
flagged a b (part u us) = has_count a || has_count b

abbrev pub flag : Production → Forest → Bool
flag [] ts = false
flag (Fixed Count ∷ ps) ts = true
flag (Fixed m ∷ ps) ts = flag ps ts
flag (Within a ∷ ps) ts = flag ps ts
flag (Part c ∷ ps) none = false
flag (Part c ∷ ps) (part t ts) = flag ps ts
flag (Optional a c b r ∷ ps) none = false
flag (Optional a c b r ∷ ps) (part (list us) ts) = flagged a b us || flag ps ts
flag (Optional a c b r ∷ ps) (part t ts) = flag ps ts
flag (Many s c ∷ ps) none = false
flag (Many s c ∷ ps) (part t ts) = flag ps ts

abbrev pub quiet : Production → Bool
quiet [] = true
quiet (Optional a c b r ∷ ps) = (not (has_one a) && not (has_one b)) && quiet ps
quiet (_ ∷ ps) = quiet ps

-- ---- the node that a row leaves

both : {b c : Bool} {d e : ℕ} → b ≡ c → d ≡ e → frame b d ≡ frame c e
both p q = λ i. frame (p i) (q i)

or_false : (b : Bool) → b ≡ (b || false)
or_false true = refl
or_false false = refl

or_true : (b c : Bool) → (true || c) ≡ (b || true)
or_true true c = refl
or_true false c = refl

or_both : (b c d : Bool) → ((b || c) || d) ≡ (b || (c || d))
or_both true c d = refl
or_both false c d = refl

or_swap : (b c d e : Bool) → (((b || c) || d) || e) ≡ (b || ((c || d) || e))
or_swap true c d e = refl
or_swap false c d e = refl

acted_frame : (ms : List Sign) (b : Bool) (e : ℕ) → not (has_one ms) ≡ true → acted ms (frame b e) ≡ frame (b || has_count ms) e
acted_frame [] b e n = both (or_false b) refl
acted_frame (One ∷ ms) b e n = cc
acted_frame (Count ∷ ms) b e n = acted_counted ms e n ∙ both (or_true b (has_count ms)) refl
  where
    acted_counted : (ms : List Sign) (e : ℕ) → not (has_one ms) ≡ true → acted ms (frame true e) ≡ frame true e
    acted_counted [] e n = refl
    acted_counted (One ∷ ms) e n = cc
    acted_counted (Count ∷ ms) e n = acted_counted ms e n
    acted_counted (_ ∷ ms) e n = acted_counted ms e n
acted_frame (_ ∷ ms) b e n = acted_frame ms b e n

order_part : (w o d e : ℕ) → max (max o d) (max w e) ≡ max (max o (max w d)) e
order_part w o d e = omega arith

order_one : (o d e : ℕ) → max (max o d) (max 1 e) ≡ max (max (max 1 o) d) e
order_one o d e = omega arith

order_none : (o d e : ℕ) → max (max o d) e ≡ max (max o (max 0 d)) e
order_none o d e = omega arith

order_empty : (e : ℕ) → e ≡ max (max 0 0) e
order_empty e = omega arith

present : (a b : List Sign) (w : ℕ) (f : Bool) (e : ℕ) → not (has_one a) ≡ true → not (has_one b) ≡ true → acted b (lift w (acted a (frame f e))) ≡ frame ((f || has_count a) || has_count b) (max w e)
present a b w f e na nb = ap (λ g. acted b (lift w g)) (acted_frame a f e na) ∙ acted_frame b (f || has_count a) (max w e) nb

pub row_frame : (ps : Production) (ts : Forest) → full ps ts ≡ true → quiet ps ≡ true → (b : Bool) (e : ℕ) → ends ps ts (frame b e) ≡ frame (b || flag ps ts) (max (max (ones ps) (sum_of ts)) e)
row_frame [] none h q b e = both (or_false b) (order_empty e)
row_frame [] (part t ts) h q b e = cc
row_frame (Fixed Count ∷ ps) ts h q b e = row_frame ps ts h q true e ∙ both (or_true b (flag ps ts)) refl
row_frame (Fixed One ∷ ps) ts h q b e = row_frame ps ts h q b (max 1 e) ∙ both refl (order_one (ones ps) (sum_of ts) e)
row_frame (Fixed _ ∷ ps) ts h q b e = row_frame ps ts h q b e
row_frame (Within a ∷ ps) ts h q b e = row_frame ps ts h q b e
row_frame (Part c ∷ ps) none h q b e = cc
row_frame (Part c ∷ ps) (part t ts) h q b e = row_frame ps ts h q b (max (depth t) e) ∙ both refl (order_part (depth t) (ones ps) (sum_of ts) e)
row_frame (Optional a c r s ∷ ps) none h q b e = cc
row_frame (Optional a c r s ∷ ps) (part (leaf k t) ts) h q b e = cc
row_frame (Optional a c r s ∷ ps) (part (node k us) ts) h q b e = cc
row_frame (Optional a c r s ∷ ps) (part (list none) ts) h q b e = row_frame ps ts h (and_right (not (has_one a) && not (has_one r)) (quiet ps) q) b e ∙ both refl (order_none (ones ps) (sum_of ts) e)
row_frame (Optional a c r s ∷ ps) (part (list (part u none)) ts) h q b e =
    let two = and_left (not (has_one a) && not (has_one r)) (quiet ps) q in
    ap (ends ps ts) (present a r (depth u) b e (and_left (not (has_one a)) (not (has_one r)) two) (and_right (not (has_one a)) (not (has_one r)) two))
    ∙ (row_frame ps ts h (and_right (not (has_one a) && not (has_one r)) (quiet ps) q) ((b || has_count a) || has_count r) (max (depth u) e)
    ∙ both (or_swap b (has_count a) (has_count r) (flag ps ts)) (order_part (depth u) (ones ps) (sum_of ts) e))
row_frame (Optional a c r s ∷ ps) (part (list (part u (part w us))) ts) h q b e = cc
row_frame (Many s c ∷ ps) none h q b e = cc
row_frame (Many s c ∷ ps) (part t ts) h q b e = row_frame ps ts h q b (max (depth t) e) ∙ both refl (order_part (depth t) (ones ps) (sum_of ts) e)

-- ---- the table

-- what counts with any parts, and what never does
abbrev pub counted : Production → Bool
counted [] = false
counted (Fixed Count ∷ ps) = true
counted (_ ∷ ps) = counted ps

abbrev pub uncounted : Production → Bool
uncounted [] = true
uncounted (Fixed Count ∷ ps) = false
uncounted (Optional a c b r ∷ ps) = (not (has_count a) && not (has_count b)) && uncounted ps
uncounted (_ ∷ ps) = uncounted ps

-- a declarator counts where it has a value
abbrev pub is_declarator : Kind → Bool
is_declarator (statement Declarator) = true
is_declarator k = false

pub told_by_row : (k : Kind) → is_nested k ≡ false → (counted (production k) || (uncounted (production k) || is_declarator k)) ≡ true
told_by_row (program Module) e = refl
told_by_row (program _) e = refl
told_by_row (statement Declarator) e = refl
told_by_row (statement _) e = refl
told_by_row (function (ShorthandInit r)) e = cc
told_by_row (function (Method Static)) e = refl
told_by_row (function (Getter Static)) e = refl
told_by_row (function (Setter Static)) e = refl
told_by_row (function (Field Static)) e = refl
told_by_row (function _) e = refl
told_by_row (expression (Binary Nullish)) e = refl
told_by_row (expression (Unary Delete)) e = refl
told_by_row (expression (NameLink true)) e = refl
told_by_row (expression (IndexLink true)) e = refl
told_by_row (expression (CallLink true)) e = refl
told_by_row (expression _) e = refl
told_by_row (jsx Element) e = refl
told_by_row (jsx _) e = refl

pub quiet_row : (k : Kind) → is_nested k ≡ false → quiet (production k) ≡ true
quiet_row (program Module) e = refl
quiet_row (program _) e = refl
quiet_row (statement Block) e = refl
quiet_row (statement _) e = refl
quiet_row (function (ShorthandInit r)) e = cc
quiet_row (function (Method Static)) e = refl
quiet_row (function (Getter Static)) e = refl
quiet_row (function (Setter Static)) e = refl
quiet_row (function (Field Static)) e = refl
quiet_row (function _) e = refl
quiet_row (expression (Binary Nullish)) e = refl
quiet_row (expression (Unary Delete)) e = refl
quiet_row (expression (NameLink true)) e = refl
quiet_row (expression (IndexLink true)) e = refl
quiet_row (expression (CallLink true)) e = refl
quiet_row (expression _) e = refl
quiet_row (jsx Element) e = refl
quiet_row (jsx _) e = refl

pub flag_counted : (ps : Production) (ts : Forest) → full ps ts ≡ true → counted ps ≡ true → flag ps ts ≡ true
flag_counted [] ts h c = cc
flag_counted (Fixed Count ∷ ps) ts h c = refl
flag_counted (Fixed _ ∷ ps) ts h c = flag_counted ps ts h c
flag_counted (Within a ∷ ps) ts h c = flag_counted ps ts h c
flag_counted (Part n ∷ ps) none h c = cc
flag_counted (Part n ∷ ps) (part t ts) h c = flag_counted ps ts h c
flag_counted (Optional a n b r ∷ ps) none h c = cc
flag_counted (Optional a n b r ∷ ps) (part (leaf k t) ts) h c = cc
flag_counted (Optional a n b r ∷ ps) (part (node k us) ts) h c = cc
flag_counted (Optional a n b r ∷ ps) (part (list us) ts) h c = or_right (flagged a b us) (flag ps ts) (flag_counted ps ts (and_right (at_most_one us) (full ps ts) h) c)
  where
    or_right : (p q : Bool) → q ≡ true → (p || q) ≡ true
    or_right true q e = refl
    or_right false q e = e
flag_counted (Many s n ∷ ps) none h c = cc
flag_counted (Many s n ∷ ps) (part t ts) h c = flag_counted ps ts h c

pub flag_uncounted : (ps : Production) (ts : Forest) → uncounted ps ≡ true → flag ps ts ≡ false
flag_uncounted [] ts c = refl
flag_uncounted (Fixed Count ∷ ps) ts c = cc
flag_uncounted (Fixed _ ∷ ps) ts c = flag_uncounted ps ts c
flag_uncounted (Within a ∷ ps) ts c = flag_uncounted ps ts c
flag_uncounted (Part n ∷ ps) none c = refl
flag_uncounted (Part n ∷ ps) (part t ts) c = flag_uncounted ps ts c
flag_uncounted (Optional a n b r ∷ ps) none c = refl
flag_uncounted (Optional a n b r ∷ ps) (part (leaf k t) ts) c = flag_uncounted ps ts (and_right (not (has_count a) && not (has_count b)) (uncounted ps) c)
flag_uncounted (Optional a n b r ∷ ps) (part (node k us) ts) c = flag_uncounted ps ts (and_right (not (has_count a) && not (has_count b)) (uncounted ps) c)
flag_uncounted (Optional a n b r ∷ ps) (part (list none) ts) c = flag_uncounted ps ts (and_right (not (has_count a) && not (has_count b)) (uncounted ps) c)
flag_uncounted (Optional a n b r ∷ ps) (part (list (part u us)) ts) c =
    let two = and_left (not (has_count a) && not (has_count b)) (uncounted ps) c in
    none_of (has_count a) (has_count b) (flag ps ts) (and_left (not (has_count a)) (not (has_count b)) two) (and_right (not (has_count a)) (not (has_count b)) two) (flag_uncounted ps ts (and_right (not (has_count a) && not (has_count b)) (uncounted ps) c))
  where
    none_of : (p q r : Bool) → not p ≡ true → not q ≡ true → r ≡ false → ((p || q) || r) ≡ false
    none_of true q r e f g = cc
    none_of false true r e f g = cc
    none_of false false r e f g = g
flag_uncounted (Many s n ∷ ps) none c = refl
flag_uncounted (Many s n ∷ ps) (part t ts) c = flag_uncounted ps ts c

-- ---- the laws

pub depth_node : (c : Nonterminal) (k : Kind) (cs : Forest) → is_nested k ≡ false → fits_below c (node k cs) ≡ true → depth (node k cs) ≡ depth_of (frame (flag (production k) cs) (max (ones (production k)) (deepest cs)))
depth_node c k cs n e =
    let same : max (max (ones (production k)) (sum_of cs)) 0 ≡ max (ones (production k)) (sum_of cs) = omega arith in
    node_ends c k cs n e ∙ (ap depth_of (row_frame (production k) cs (full_of [] false [] (production k) cs e) (quiet_row k n) false 0) ∙ ap (λ d. depth_of (frame (flag (production k) cs) d)) (same ∙ ap (λ d. max (ones (production k)) d) (sum_is (positions k) cs e)))

-- one more than its deepest part
pub depth_counted : (c : Nonterminal) (k : Kind) (cs : Forest) → is_nested k ≡ false → counted (production k) ≡ true → fits_below c (node k cs) ≡ true → depth (node k cs) ≡ suc (max (ones (production k)) (deepest cs))
depth_counted c k cs n h e = depth_node c k cs n e ∙ ap (λ b. depth_of (frame b (max (ones (production k)) (deepest cs)))) (flag_counted (production k) cs (full_of [] false [] (production k) cs e) h)

-- as deep as its deepest part
pub depth_uncounted : (c : Nonterminal) (k : Kind) (cs : Forest) → is_nested k ≡ false → uncounted (production k) ≡ true → fits_below c (node k cs) ≡ true → depth (node k cs) ≡ max (ones (production k)) (deepest cs)
depth_uncounted c k cs n h e = depth_node c k cs n e ∙ ap (λ b. depth_of (frame b (max (ones (production k)) (deepest cs)))) (flag_uncounted (production k) cs h)

-- whether a kind always counts, or never does: by its row
abbrev pub counts_as : Bool → Kind → Bool
counts_as true k = not (is_nested k) && counted (production k)
counts_as false k = not (is_nested k) && uncounted (production k)

pub not_true : (b : Bool) → not b ≡ true → b ≡ false
not_true true e = cc
not_true false e = refl

pub depth_told : (b : Bool) (c : Nonterminal) (k : Kind) (cs : Forest) → counts_as b k ≡ true → fits_below c (node k cs) ≡ true → depth (node k cs) ≡ depth_of (frame b (max (ones (production k)) (deepest cs)))
depth_told true c k cs h e = depth_counted c k cs (not_true (is_nested k) (and_left (not (is_nested k)) (counted (production k)) h)) (and_right (not (is_nested k)) (counted (production k)) h) e
depth_told false c k cs h e = depth_uncounted c k cs (not_true (is_nested k) (and_left (not (is_nested k)) (uncounted (production k)) h)) (and_right (not (is_nested k)) (uncounted (production k)) h) e

-- ---- a node is as deep as its parts, whatever its kind

depth_of_up : (b : Bool) (o d : ℕ) → d ≤ depth_of (frame b (max o d))
depth_of_up true o d = omega arith
depth_of_up false o d = omega arith

up_by : (d e f : ℕ) → e ≡ f → d ≤ f → d ≤ e
up_by d e f p q = omega (arith, p, q)

-- `{ a = b }` counts twice
pub nested_up : (r : Role) (cs : Forest) → fit_slots (positions (function (ShorthandInit r))) cs ≡ true → suc (suc (deepest cs)) ≤ depth (node (function (ShorthandInit r)) cs)
nested_up r none e = cc
nested_up r (part a none) e = let bad = and_right (fits_below BindingIdent a) false (and_right (admits BindingIdent a) (fits_below BindingIdent a && false) e) in cc
nested_up r (part a (part b none)) e =
    let below = and_right (admits BindingIdent a) (fits_below BindingIdent a && (admits (Expr 1) b && (fits_below (Expr 1) b && true))) e in
    let second = and_right (admits (Expr 1) b) (fits_below (Expr 1) b && true) (and_right (fits_below BindingIdent a) (admits (Expr 1) b && (fits_below (Expr 1) b && true)) below) in
    let same = nested_depth (Expr 0) r a b (and_left (fits_below BindingIdent a) (admits (Expr 1) b && (fits_below (Expr 1) b && true)) below) (and_left (fits_below (Expr 1) b) true second) in
    let p = read_depth BindingIdent a (and_left (fits_below BindingIdent a) (admits (Expr 1) b && (fits_below (Expr 1) b && true)) below) in
    let q = read_depth (Expr 1) b (and_left (fits_below (Expr 1) b) true second) in
    omega (arith, same, p, q)
nested_up r (part a (part b (part c cs))) e =
    let one = and_right (fits_below BindingIdent a) (admits (Expr 1) b && (fits_below (Expr 1) b && false)) (and_right (admits BindingIdent a) (fits_below BindingIdent a && (admits (Expr 1) b && (fits_below (Expr 1) b && false))) e) in
    let bad = and_right (fits_below (Expr 1) b) false (and_right (admits (Expr 1) b) (fits_below (Expr 1) b && false) one) in cc

plain_up : (c : Nonterminal) (k : Kind) (cs : Forest) → is_nested k ≡ false → fits_below c (node k cs) ≡ true → deepest cs ≤ depth (node k cs)
plain_up c k cs n e = up_by (deepest cs) (depth (node k cs)) (depth_of (frame (flag (production k) cs) (max (ones (production k)) (deepest cs)))) (depth_node c k cs n e) (depth_of_up (flag (production k) cs) (ones (production k)) (deepest cs))

pub parts_up : (c : Nonterminal) (k : Kind) (cs : Forest) → fits_below c (node k cs) ≡ true → deepest cs ≤ depth (node k cs)
parts_up c (function (ShorthandInit r)) cs e = let h = nested_up r cs e in omega (arith, h)
parts_up c k cs e = plain_up c k cs refl e
