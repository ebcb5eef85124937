-- The signs of a tree add its depth to the node that is open round it, and do nothing outside of that.
use Rattle.std.proofs.Common.{◌≡◌, ℕ, suc, max, Bool, true, false, cond, List, [], ◌∷◌, ◌++◌, refl, sym, ◌∙◌, ap, arith}
use Rattle.std.specs.Prelude.{nat_le, ◌&&◌}
use Rattle.std.proofs.lemmas.Bool.{leb-true, leb-false}
use Rattle.jsx_base.specs.Token.{Text, TokenKind, Elision}
use Rattle.jsx_tree.specs.Signs.{Sign, Tok, Space, Begin, Count, One, End}
use Rattle.jsx_tree.specs.Kinds.{Module, Block, Static, Method, Getter, Setter, Field, Role, ShorthandInit, Nullish, Delete, Binary, Unary, NameLink, IndexLink, CallLink, Element, Kind, program, statement, function, expression, jsx, Tree, leaf, node, list, Forest, none, part}
use Rattle.jsx_tree.specs.Nonterminals.{Nonterminal, Expr, BindingIdent}
use Rattle.jsx_tree.specs.Grammar.{ListShape, Commas, Elisions, Lines, Spaced, JsxChildren, Fixed, Part, Optional, Many, Within, Production, pun, production}
use Rattle.jsx_tree.specs.Form.{Position, position, positions, shaped, admits, fits_below, fit_slots, fit_each}
use Rattle.jsx_tree.specs.Spelling.{leaf_signs, among_text, before, between, behind, gathered, joined, maybe, walk, said, saids, each_said, spelled}
use Rattle.jsx_tree.specs.Depth.{Frame, frame, more, depth_of, raise, close, depth_step, height, deep_from, deep, depth}
use Rattle.jsx_tree.specs.Fronts.{steps}
use Rattle.jsx_tree.proofs.Tokens.{and_left, and_right}

-- ---- the greater of two

pub more_max : (a b : ℕ) → more a b ≡ max a b
more_max a b = go (nat_le a b) refl
  where
    go : (t : Bool) → nat_le a b ≡ t → cond t b a ≡ max a b
    go true e = let h = leb-true a b e in omega (arith, h)
    go false e = let h = leb-false a b e in omega (arith, h)

-- ---- what signs do to the nodes that are open

pub steps_append : (fs : List Frame) (ms ns : List Sign) → steps fs (ms ++ ns) ≡ steps (steps fs ms) ns
steps_append fs [] ns = refl
steps_append fs (m ∷ ms) ns = steps_append (depth_step m fs) ms ns

pub deep_steps : (fs : List Frame) (ms : List Sign) → deep_from fs ms ≡ height 0 (steps fs ms)
deep_steps fs [] = refl
deep_steps fs (m ∷ ms) = deep_steps (depth_step m fs) ms

-- signs that do this to the innermost one, and nothing to the others
pub record Acts (ms : List Sign) (g : Frame → Frame) : Type 0 where
  pub on : (f : Frame) (fs : List Frame) → steps (f ∷ fs) ms ≡ g f ∷ fs

abbrev pub lift : ℕ → Frame → Frame
lift d (frame b e) = frame b (max d e)

pub raise_lift : (d : ℕ) (f : Frame) (fs : List Frame) → raise d (f ∷ fs) ≡ lift d f ∷ fs
raise_lift d (frame b e) fs = ap (λ n. frame b n ∷ fs) (more_max d e)

pub lift_zero : (f : Frame) → f ≡ lift 0 f
lift_zero (frame b e) = let same : e ≡ max 0 e = omega arith in ap (λ n. frame b n) same

pub lift_lift : (c d : ℕ) (f : Frame) → lift c (lift d f) ≡ lift (max d c) f
lift_lift c d (frame b e) = let same : max c (max d e) ≡ max (max d c) e = omega arith in ap (λ n. frame b n) same

pub acts_none : Acts [] (λ f. f)
acts_none = record { on = λ f fs. refl }

pub acts_both : {ms ns : List Sign} {g h : Frame → Frame} → Acts ms g → Acts ns h → Acts (ms ++ ns) (λ f. h (g f))
acts_both {ms} {ns} {g} {h} a b = record { on = λ f fs. steps_append (f ∷ fs) ms ns ∙ (ap (λ es. steps es ns) (a.on f fs) ∙ b.on (g f) fs) }

pub acts_as : {ms : List Sign} {g h : Frame → Frame} → Acts ms g → ((f : Frame) → g f ≡ h f) → Acts ms h
acts_as a same = record { on = λ f fs. a.on f fs ∙ ap (λ e. e ∷ fs) (same f) }

-- signs that count for so much as a part
pub record Flat (ms : List Sign) : Type 0 where
  pub weight : ℕ
  pub acts : Acts ms (lift weight)

pub deep_acts : (ms : List Sign) (d : ℕ) → Acts ms (lift d) → deep ms ≡ d
deep_acts ms d a =
    let same : max 0 (max d 0) ≡ d = omega arith in
    deep_steps (frame false 0 ∷ []) ms ∙ (ap (height 0) (a.on (frame false 0) []) ∙ (more_max 0 (max d 0) ∙ same))

-- their weight is their depth
pub flat_acts : {ms : List Sign} → Flat ms → Acts ms (lift (deep ms))
flat_acts {ms} f = acts_as f.acts (λ g. ap (λ d. lift d g) (sym (deep_acts ms f.weight f.acts)))

pub flat_none : Flat []
flat_none = record { weight = 0; acts = acts_as acts_none lift_zero }

pub flat_both : {ms ns : List Sign} → Flat ms → Flat ns → Flat (ms ++ ns)
flat_both a b = record { weight = max a.weight b.weight; acts = acts_as (acts_both a.acts b.acts) (λ f. lift_lift b.weight a.weight f) }

-- signs without depth
pub acts_before : {ms ns : List Sign} {g : Frame → Frame} → Acts ms (λ f. f) → Acts ns g → Acts (ms ++ ns) g
acts_before a b = acts_both a b

pub acts_behind : {ms ns : List Sign} {g : Frame → Frame} → Acts ms g → Acts ns (λ f. f) → Acts (ms ++ ns) g
acts_behind a b = acts_both a b

-- ---- a node in its row

-- a node that ends counts as a part of the one round it
pub acts_node : {ms : List Sign} (d : ℕ) → ((f : Frame) (fs : List Frame) → steps (frame false 0 ∷ f ∷ fs) ms ≡ raise d (f ∷ fs)) → Acts (Begin ∷ ms) (lift d)
acts_node {ms} d on = record { on = λ f fs. on f fs ∙ raise_lift d f fs }

-- ---- leaves

abbrev pub leaf_depth : TokenKind → ℕ
leaf_depth Elision = 0
leaf_depth s = 1

acts_leaf : (s : TokenKind) (t : Text) → Acts (leaf_signs s t) (lift (leaf_depth s))
acts_leaf Elision t = acts_as acts_none lift_zero
acts_leaf _ t = record { on = λ f fs. raise_lift 1 f fs }

-- ---- signs that neither begin nor end a node

abbrev pub counts : Frame → Frame
counts (frame b d) = frame true d

abbrev pub act : Sign → Frame → Frame
act Count f = counts f
act One f = lift 1 f
act m f = f

abbrev pub is_level : Sign → Bool
is_level Begin = false
is_level End = false
is_level m = true

abbrev pub are_level : List Sign → Bool
are_level [] = true
are_level (m ∷ ms) = is_level m && are_level ms

abbrev pub acted : List Sign → Frame → Frame
acted [] f = f
acted (m ∷ ms) f = acted ms (act m f)

pub step_level : (m : Sign) (f : Frame) (fs : List Frame) → is_level m ≡ true → depth_step m (f ∷ fs) ≡ act m f ∷ fs
step_level Begin f fs e = cc
step_level End f fs e = cc
step_level Count (frame b d) fs e = refl
step_level One f fs e = raise_lift 1 f fs
step_level _ f fs e = refl

pub acts_level : (ms : List Sign) → are_level ms ≡ true → Acts ms (acted ms)
acts_level [] e = acts_none
acts_level (m ∷ ms) e = record {
  on = λ f fs. ap (λ es. steps es ms) (step_level m f fs (and_left (is_level m) (are_level ms) e)) ∙ (acts_level ms (and_right (is_level m) (are_level ms) e)).on (act m f) fs;
}

-- ---- lists

pub data AllFlat : List (List Sign) → Type 0 where
  all_none : AllFlat []
  all_more : {x : List Sign} {xs : List (List Sign)} → Flat x → AllFlat xs → AllFlat (x ∷ xs)

acts_among : (ms : List Sign) (fs : List Frame) → steps fs (among_text ms) ≡ steps fs ms
acts_among [] fs = refl
acts_among (Tok m k t ∷ ms) fs = refl
acts_among (m ∷ ms) fs = acts_among ms (depth_step m fs)

acts_in_list : (s : ListShape) {ms : List Sign} {g : Frame → Frame} → Acts ms g → Acts (before s ms) g
acts_in_list JsxChildren {ms} a = record { on = λ f fs. acts_among ms (f ∷ fs) ∙ a.on f fs }
acts_in_list Lines a = record { on = λ f fs. a.on f fs }
acts_in_list Spaced a = record { on = λ f fs. a.on f fs }
acts_in_list _ a = a

acts_between : (s : ListShape) → Acts (between s) (λ f. f)
acts_between Commas = record { on = λ f fs. refl }
acts_between _ = record { on = λ f fs. refl }

acts_last : (s : ListShape) (ms : List Sign) → Acts (behind s ms) (λ f. f)
acts_last Elisions [] = record { on = λ f fs. refl }
acts_last Elisions (m ∷ ms) = record { on = λ f fs. refl }
acts_last _ ms = record { on = λ f fs. refl }

pub flat_joined : (xs : List (List Sign)) → AllFlat xs → Flat (joined xs)
flat_joined [] all_none = flat_none
flat_joined (x ∷ []) (all_more f fs) = f
flat_joined (x ∷ y ∷ ys) (all_more f fs) = flat_both f (flat_joined (y ∷ ys) fs)

-- what stands between and behind them adds nothing
pub acts_gathered : (s : ListShape) (xs : List (List Sign)) (f : AllFlat xs) → Acts (gathered s xs) (lift (flat_joined xs f).weight)
unfolding flat_joined flat_none flat_both
acts_gathered s [] all_none = flat_none.acts
acts_gathered s (x ∷ []) (all_more f fs) = acts_behind (acts_in_list s f.acts) (acts_last s x)
acts_gathered s (x ∷ y ∷ ys) (all_more f fs) =
    let rest = flat_joined (y ∷ ys) fs in
    acts_as (acts_both (acts_in_list s f.acts) (acts_before (acts_between s) (acts_gathered s (y ∷ ys) fs))) (λ g. lift_lift rest.weight f.weight g)

-- ---- rows

abbrev pub level_row : Production → Bool
level_row [] = true
level_row (Fixed m ∷ ps) = is_level m && level_row ps
level_row (Optional a c b r ∷ ps) = (are_level a && are_level b) && level_row ps
level_row (_ ∷ ps) = level_row ps

-- an optional part, which may be absent
abbrev pub ends_maybe : List Sign → List Sign → Tree → Frame → Frame
ends_maybe a b (list none) f = f
ends_maybe a b (list (part t ts)) f = acted b (lift (depth t) (acted a f))
ends_maybe a b t f = acted b (lift (depth t) (acted a f))

-- a node behind all the parts of its row
abbrev pub ends : Production → Forest → Frame → Frame
ends [] ts f = f
ends (Fixed m ∷ ps) ts f = ends ps ts (act m f)
ends (Within a ∷ ps) ts f = ends ps ts f
ends (Part c ∷ ps) none f = f
ends (Part c ∷ ps) (part t ts) f = ends ps ts (lift (depth t) f)
ends (Optional a c b r ∷ ps) none f = f
ends (Optional a c b r ∷ ps) (part t ts) f = ends ps ts (ends_maybe a b t f)
ends (Many s c ∷ ps) none f = f
ends (Many s c ∷ ps) (part t ts) f = ends ps ts (lift (depth t) f)

pub data AllParts : Forest → Type 0 where
  parts_none : AllParts none
  parts_more : {t : Tree} {ts : Forest} → AllFlat (said t) → AllParts ts → AllParts (part t ts)

one_flat : {x : List Sign} {xs : List (List Sign)} → AllFlat (x ∷ xs) → Flat x
one_flat (all_more f fs) = f

pub acts_given : (a b : List Sign) (r : List Text) (x : List Sign) (xs : List (List Sign)) (d : ℕ) → are_level a ≡ true → are_level b ≡ true → Acts x (lift d) → Acts (maybe a b r (x ∷ xs)) (λ f. acted b (lift d (acted a f)))
acts_given a b [] x xs d la lb f = acts_both (acts_level a la) (acts_both f (acts_level b lb))
acts_given a b (r ∷ rs) x xs d la lb f = acts_both (acts_level a la) (acts_both f (acts_level b lb))

pub acts_absent : (a b : List Sign) (r : List Text) → Acts (maybe a b r []) (λ f. f)
acts_absent a b [] = acts_none
acts_absent a b (r ∷ rs) = record { on = λ f fs. refl }

pub acts_maybe : (a b : List Sign) (r : List Text) (t : Tree) → are_level a ≡ true → are_level b ≡ true → AllFlat (said t) → Acts (maybe a b r (said t)) (ends_maybe a b t)
acts_maybe a b r (leaf s t) la lb f = acts_given a b r (leaf_signs s t) [] (depth (leaf s t)) la lb (flat_acts (one_flat f))
acts_maybe a b r (node k cs) la lb f = acts_given a b r (Begin ∷ walk (production k) (saids cs)) [] (depth (node k cs)) la lb (flat_acts (one_flat f))
acts_maybe a b r (list none) la lb f = acts_absent a b r
acts_maybe a b r (list (part t ts)) la lb f = acts_given a b r (joined (said t)) (each_said ts) (depth t) la lb (flat_acts (one_flat f))

pub acts_list : (s : ListShape) (t : Tree) → AllFlat (said t) → Acts (gathered s (said t)) (lift (depth t))
acts_list s t f = acts_as (acts_gathered s (said t) f) (λ g. ap (λ d. lift d g) (sym (deep_acts (joined (said t)) (flat_joined (said t) f).weight (flat_joined (said t) f).acts)))

-- one part, and the rest of the row
ends_part : {x : List Sign} {g : Frame → Frame} (ps : Production) (ts : Forest) → Acts x g → ((f : Frame) (fs : List Frame) → steps (f ∷ fs) (walk ps (saids ts)) ≡ close (ends ps ts f ∷ fs)) → (f : Frame) (fs : List Frame) → steps (f ∷ fs) (x ++ walk ps (saids ts)) ≡ close (ends ps ts (g f) ∷ fs)
ends_part {x} {g} ps ts a on f fs = steps_append (f ∷ fs) x (walk ps (saids ts)) ∙ (ap (λ es. steps es (walk ps (saids ts))) (a.on f fs) ∙ on (g f) fs)

pub row_ends : (ps : Production) (ts : Forest) → level_row ps ≡ true → AllParts ts → (f : Frame) (fs : List Frame) → steps (f ∷ fs) (walk ps (saids ts)) ≡ close (ends ps ts f ∷ fs)
row_ends [] ts l p f fs = refl
row_ends (Fixed m ∷ ps) ts l p f fs = ap (λ es. steps es (walk ps (saids ts))) (step_level m f fs (and_left (is_level m) (level_row ps) l)) ∙ row_ends ps ts (and_right (is_level m) (level_row ps) l) p (act m f) fs
row_ends (Within a ∷ ps) ts l p f fs = row_ends ps ts l p f fs
row_ends (Part c ∷ ps) none l p f fs = refl
row_ends (Part c ∷ ps) (part t ts) l (parts_more q p) f fs = ends_part ps ts (flat_acts (flat_joined (said t) q)) (λ g gs. row_ends ps ts l p g gs) f fs
row_ends (Optional a c b r ∷ ps) none l p f fs = refl
row_ends (Optional a c b r ∷ ps) (part t ts) l (parts_more q p) f fs =
    let two = and_left (are_level a && are_level b) (level_row ps) l in
    ends_part ps ts (acts_maybe a b r t (and_left (are_level a) (are_level b) two) (and_right (are_level a) (are_level b) two) q) (λ g gs. row_ends ps ts (and_right (are_level a && are_level b) (level_row ps) l) p g gs) f fs
row_ends (Many s c ∷ ps) none l p f fs = refl
row_ends (Many s c ∷ ps) (part t ts) l (parts_more q p) f fs = ends_part ps ts (acts_list s t q) (λ g gs. row_ends ps ts l p g gs) f fs

-- ---- every kind but one has such a row

abbrev pub is_nested : Kind → Bool
is_nested (function (ShorthandInit r)) = true
is_nested k = false

pub levels_of : (k : Kind) → is_nested k ≡ false → level_row (production k) ≡ true
levels_of (program Module) e = refl
levels_of (program _) e = refl
levels_of (statement Block) e = refl
levels_of (statement _) e = refl
levels_of (function (ShorthandInit r)) e = cc
levels_of (function (Method Static)) e = refl
levels_of (function (Getter Static)) e = refl
levels_of (function (Setter Static)) e = refl
levels_of (function (Field Static)) e = refl
levels_of (function _) e = refl
levels_of (expression (Binary Nullish)) e = refl
levels_of (expression (Unary Delete)) e = refl
levels_of (expression (NameLink true)) e = refl
levels_of (expression (IndexLink true)) e = refl
levels_of (expression (CallLink true)) e = refl
levels_of (expression _) e = refl
levels_of (jsx Element) e = refl
levels_of (jsx _) e = refl

flat_level : (k : Kind) (cs : Forest) → is_nested k ≡ false → AllParts cs → Flat (Begin ∷ walk (production k) (saids cs))
flat_level k cs n p = record { weight = depth_of (ends (production k) cs (frame false 0)); acts = acts_node (depth_of (ends (production k) cs (frame false 0))) (λ f fs. row_ends (production k) cs (levels_of k n) p (frame false 0) (f ∷ fs)) }

-- `a = b` in `{ a = b }`: a property round what counts from its `=`
pub nested_flat : (x y : List Sign) → Flat x → Flat y → Flat (Begin ∷ Count ∷ Begin ∷ (x ++ (Space ∷ Count ∷ pun "=" ∷ Space ∷ (y ++ (End ∷ End ∷ [])))))
nested_flat x y p q =
    let rest : List Sign = Space ∷ Count ∷ pun "=" ∷ Space ∷ (y ++ (End ∷ End ∷ [])) in
    record {
      weight = suc (more (suc (max q.weight (max p.weight 0))) 0);
      acts = record {
        on = λ f fs. steps_append (frame false 0 ∷ frame true 0 ∷ f ∷ fs) x rest
            ∙ (ap (λ es. steps es rest) (p.acts.on (frame false 0) (frame true 0 ∷ f ∷ fs))
            ∙ (steps_append (frame true (max p.weight 0) ∷ frame true 0 ∷ f ∷ fs) y (End ∷ End ∷ [])
            ∙ (ap (λ es. steps es (End ∷ End ∷ [])) (q.acts.on (frame true (max p.weight 0)) (frame true 0 ∷ f ∷ fs))
            ∙ raise_lift (suc (more (suc (max q.weight (max p.weight 0))) 0)) f fs)));
      };
    }

flat_nested : (r : Role) (cs : Forest) → fit_slots (positions (function (ShorthandInit r))) cs ≡ true → AllParts cs → Flat (Begin ∷ walk (production (function (ShorthandInit r))) (saids cs))
flat_nested r none e p = cc
flat_nested r (part a none) e p = let bad = and_right (fits_below BindingIdent a) false (and_right (admits BindingIdent a) (fits_below BindingIdent a && false) e) in cc
flat_nested r (part a (part b none)) e (parts_more f (parts_more g parts_none)) = nested_flat (joined (said a)) (joined (said b)) (flat_joined (said a) f) (flat_joined (said b) g)
flat_nested r (part a (part b (part c cs))) e p =
    let one = and_right (fits_below BindingIdent a) (admits (Expr 1) b && (fits_below (Expr 1) b && false)) (and_right (admits BindingIdent a) (fits_below BindingIdent a && (admits (Expr 1) b && (fits_below (Expr 1) b && false))) e) in
    let bad = and_right (fits_below (Expr 1) b) false (and_right (admits (Expr 1) b) (fits_below (Expr 1) b && false) one) in cc

flat_node : (k : Kind) (cs : Forest) → fit_slots (positions k) cs ≡ true → AllParts cs → Flat (Begin ∷ walk (production k) (saids cs))
flat_node (function (ShorthandInit r)) cs e p = flat_nested r cs e p
flat_node k cs e p = flat_level k cs refl p

-- ---- every tree that has its form

mutual
  pub flat_tree : (c : Nonterminal) (t : Tree) → fits_below c t ≡ true → AllFlat (said t)
  flat_tree c (leaf s t) e = all_more (record { weight = leaf_depth s; acts = acts_leaf s t }) all_none
  flat_tree c (node k cs) e = all_more (flat_node k cs e (flat_parts (positions k) cs e)) all_none
  flat_tree c (list ts) e = flat_each c ts e

  pub flat_parts : (ss : List Position) (ts : Forest) → fit_slots ss ts ≡ true → AllParts ts
  flat_parts [] none e = parts_none
  flat_parts [] (part t ts) e = cc
  flat_parts (position f c g b a ∷ ss) none e = cc
  flat_parts (position f c g b a ∷ ss) (part t ts) e =
      let below = and_right (shaped f c t) (fits_below c t && fit_slots ss ts) e in
      parts_more (flat_tree c t (and_left (fits_below c t) (fit_slots ss ts) below)) (flat_parts ss ts (and_right (fits_below c t) (fit_slots ss ts) below))

  pub flat_each : (c : Nonterminal) (ts : Forest) → fit_each c ts ≡ true → AllFlat (each_said ts)
  flat_each c none e = all_none
  flat_each c (part t ts) e =
      let below = and_right (admits c t) (fits_below c t && fit_each c ts) e in
      all_more (flat_joined (said t) (flat_tree c t (and_left (fits_below c t) (fit_each c ts) below))) (flat_each c ts (and_right (fits_below c t) (fit_each c ts) below))

pub tree_acts : (c : Nonterminal) (t : Tree) → fits_below c t ≡ true → Acts (spelled t) (lift (depth t))
tree_acts c t e = flat_acts (flat_joined (said t) (flat_tree c t e))

-- a tree that is closed raises the node round it by its depth
pub raised : (c : Nonterminal) (t : Tree) → fits_below c t ≡ true → (b : Bool) (d : ℕ) (fs : List Frame) (ms : List Sign) → deep_from (frame b d ∷ fs) (spelled t ++ ms) ≡ deep_from (frame b (more d (depth t)) ∷ fs) ms
raised c t e b d fs ms =
    let same : max (depth t) d ≡ max d (depth t) = omega arith in
    deep_steps (frame b d ∷ fs) (spelled t ++ ms)
    ∙ (ap (height 0) (steps_append (frame b d ∷ fs) (spelled t) ms)
    ∙ (ap (λ es. height 0 (steps es ms)) ((tree_acts c t e).on (frame b d) fs)
    ∙ (ap (λ n. height 0 (steps (frame b n ∷ fs) ms)) (same ∙ sym (more_max d (depth t)))
    ∙ sym (deep_steps (frame b (more d (depth t)) ∷ fs) ms))))

-- the depth of a node is told by its row
pub node_ends : (c : Nonterminal) (k : Kind) (cs : Forest) → is_nested k ≡ false → fits_below c (node k cs) ≡ true → depth (node k cs) ≡ depth_of (ends (production k) cs (frame false 0))
unfolding flat_level
node_ends c k cs n e = let f = flat_level k cs n (flat_parts (positions k) cs e) in deep_acts (spelled (node k cs)) f.weight f.acts

-- and of the one that has another within its row
pub nested_depth : (c : Nonterminal) (r : Role) (a b : Tree) → fits_below BindingIdent a ≡ true → fits_below (Expr 1) b ≡ true → depth (node (function (ShorthandInit r)) (part a (part b none))) ≡ suc (suc (max (depth a) (depth b)))
unfolding nested_flat
nested_depth c r a b e f =
    let n = nested_flat (spelled a) (spelled b) (record { weight = depth a; acts = tree_acts BindingIdent a e }) (record { weight = depth b; acts = tree_acts (Expr 1) b f }) in
    let m = more_max (suc (max (depth b) (max (depth a) 0))) 0 in
    let same : suc (more (suc (max (depth b) (max (depth a) 0))) 0) ≡ suc (suc (max (depth a) (depth b))) = omega (arith, m) in
    deep_acts (spelled (node (function (ShorthandInit r)) (part a (part b none)))) n.weight n.acts ∙ same

pub both_deep : (ms ns : List Sign) (a : Flat ms) (b : Flat ns) → deep (ms ++ ns) ≡ max a.weight b.weight
both_deep ms ns a b = deep_acts (ms ++ ns) (max a.weight b.weight) (acts_as (acts_both a.acts b.acts) (λ f. lift_lift b.weight a.weight f))
