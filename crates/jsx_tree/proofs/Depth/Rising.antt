-- No front of a tree is deeper than the tree: a tree's signs never end a node that they didn't begin, and what is open only gets deeper.
use Rattle.std.proofs.Common.{◌≡◌, ◌≤◌, ℕ, zero, suc, Bool, true, false, List, [], ◌∷◌, ◌++◌, refl, ◌∙◌, ap, arith, append_assoc}
use Rattle.std.specs.Prelude.{◌&&◌}
use Rattle.jsx_base.specs.Token.{Text, TokenKind, Elision}
use Rattle.jsx_tree.specs.Signs.{Sign, Tok, Space, Begin, Count, One, End}
use Rattle.jsx_tree.specs.Kinds.{Role, ShorthandInit, Kind, function, Tree, leaf, node, list, Forest, none, part}
use Rattle.jsx_tree.specs.Nonterminals.{Nonterminal, Expr, BindingIdent}
use Rattle.jsx_tree.specs.Grammar.{ListShape, Commas, Elisions, Lines, Spaced, JsxChildren, Fixed, Part, Optional, Many, Within, Production, pun, production}
use Rattle.jsx_tree.specs.Form.{Position, position, positions, shaped, admits, fits_below, fit_slots, fit_each}
use Rattle.jsx_tree.specs.Spelling.{leaf_signs, among_text, before, between, behind, gathered, joined, maybe, walk, said, saids, each_said, spelled}
use Rattle.jsx_tree.specs.Depth.{Frame, frame, more, depth_of, raise, counted, height, deep, depth, front}
use Rattle.jsx_tree.specs.Fronts.{steps}
use Rattle.jsx_tree.proofs.Tokens.{and_left, and_right}
use Rattle.jsx_tree.proofs.Depth.Flat.{more_max, deep_steps, is_level, are_level, level_row, is_nested, levels_of}
use Rattle.jsx_tree.proofs.Depth.Parts.{Below, below_none, below_more, rise}

-- ---- signs that end no node that they didn't begin, n nodes being open

abbrev pub stays : ℕ → List Sign → Bool
stays n [] = true
stays n (Begin ∷ ms) = stays (suc n) ms
stays zero (End ∷ ms) = false
stays (suc n) (End ∷ ms) = stays n ms
stays n (_ ∷ ms) = stays n ms

abbrev pub tall : ℕ → List Frame → Bool
tall n [] = false
tall zero (f ∷ fs) = true
tall (suc n) (f ∷ fs) = tall n fs

tall_raise : (n d : ℕ) (fs : List Frame) → tall n fs ≡ true → tall n (raise d fs) ≡ true
tall_raise n d [] t = t
tall_raise zero d (frame b e ∷ fs) t = refl
tall_raise (suc n) d (frame b e ∷ fs) t = t

tall_counted : (n : ℕ) (fs : List Frame) → tall n fs ≡ true → tall n (counted fs) ≡ true
tall_counted n [] t = t
tall_counted zero (frame b e ∷ fs) t = refl
tall_counted (suc n) (frame b e ∷ fs) t = t

below_same : (fs : List Frame) → Below fs fs
below_same [] = below_none
below_same (frame b d ∷ fs) = below_more (λ e. e) (omega arith) (below_same fs)

-- ---- what is open only gets deeper

one_up : (e : ℕ) → e ≤ more 1 e
one_up e = let m = more_max 1 e in omega (arith, m)

up_one : (fs : List Frame) → height 0 fs ≤ height 0 (raise 1 fs)
up_one [] = omega arith
up_one (frame b e ∷ fs) = rise 0 0 (below_more {b = b} {c = b} {d = e} {e = more 1 e} {fs = fs} {gs = fs} (λ h. h) (one_up e) (below_same fs)) (omega arith)

up_count : (fs : List Frame) → height 0 fs ≤ height 0 (counted fs)
up_count [] = omega arith
up_count (frame b e ∷ fs) = rise 0 0 (below_more {b = b} {c = true} {d = e} {e = e} {fs = fs} {gs = fs} (λ h. refl) (omega arith) (below_same fs)) (omega arith)

up_begin : (fs : List Frame) → height 0 fs ≤ height 0 (frame false 0 ∷ fs)
up_begin fs = rise 0 (more 0 0) (below_same fs) (omega arith)

up_close : (f : Frame) (fs : List Frame) → tall 0 fs ≡ true → height 0 (f ∷ fs) ≤ height 0 (raise (depth_of f) fs)
up_close f [] t = cc
up_close (frame b e) (frame c d ∷ fs) t = rise (depth_of (frame c (more (depth_of (frame b (more 0 e))) d))) (depth_of (frame c (more 0 (more (depth_of (frame b e)) d)))) (below_same fs) (ends_as b c e d)
  where
    inner : (b : Bool) (e : ℕ) → depth_of (frame b (more 0 e)) ≤ depth_of (frame b e)
    inner true e = let m = more_max 0 e in omega (arith, m)
    inner false e = let m = more_max 0 e in omega (arith, m)

    ends_as : (b c : Bool) (e d : ℕ) → depth_of (frame c (more (depth_of (frame b (more 0 e))) d)) ≤ depth_of (frame c (more 0 (more (depth_of (frame b e)) d)))
    ends_as b true e d = let h = inner b e in let m = more_max (depth_of (frame b (more 0 e))) d in let k = more_max (depth_of (frame b e)) d in let l = more_max 0 (more (depth_of (frame b e)) d) in omega (arith, h, m, k, l)
    ends_as b false e d = let h = inner b e in let m = more_max (depth_of (frame b (more 0 e))) d in let k = more_max (depth_of (frame b e)) d in let l = more_max 0 (more (depth_of (frame b e)) d) in omega (arith, h, m, k, l)

le_both : (a b c : ℕ) → a ≤ b → b ≤ c → a ≤ c
le_both a b c p q = omega (arith, p, q)

pub rises : (n : ℕ) (fs : List Frame) (ms : List Sign) → stays n ms ≡ true → tall n fs ≡ true → height 0 fs ≤ height 0 (steps fs ms)
rises n fs [] s t = omega arith
rises n fs (Begin ∷ ms) s t = le_both (height 0 fs) (height 0 (frame false 0 ∷ fs)) (height 0 (steps (frame false 0 ∷ fs) ms)) (up_begin fs) (rises (suc n) (frame false 0 ∷ fs) ms s t)
rises zero fs (End ∷ ms) s t = cc
rises (suc n) [] (End ∷ ms) s t = cc
rises (suc n) (f ∷ fs) (End ∷ ms) s t = le_both (height 0 (f ∷ fs)) (height 0 (raise (depth_of f) fs)) (height 0 (steps (raise (depth_of f) fs) ms)) (up_close f fs (some n fs t)) (rises n (raise (depth_of f) fs) ms s (tall_raise n (depth_of f) fs t))
  where
    some : (n : ℕ) (fs : List Frame) → tall n fs ≡ true → tall 0 fs ≡ true
    some n [] t = cc
    some n (f ∷ fs) t = refl
rises n fs (Count ∷ ms) s t = le_both (height 0 fs) (height 0 (counted fs)) (height 0 (steps (counted fs) ms)) (up_count fs) (rises n (counted fs) ms s (tall_counted n fs t))
rises n fs (One ∷ ms) s t = le_both (height 0 fs) (height 0 (raise 1 fs)) (height 0 (steps (raise 1 fs) ms)) (up_one fs) (rises n (raise 1 fs) ms s (tall_raise n 1 fs t))
rises n fs (_ ∷ ms) s t = rises n fs ms s t

pub front_rises : (k n : ℕ) (fs : List Frame) (ms : List Sign) → stays n ms ≡ true → tall n fs ≡ true → height 0 (steps fs (front k ms)) ≤ height 0 (steps fs ms)
front_rises k n fs [] s t = omega arith
front_rises zero n fs (m ∷ ms) s t = rises n fs (m ∷ ms) s t
front_rises (suc k) n fs (Tok m j u ∷ ms) s t = front_rises k n fs ms s t
front_rises (suc k) n fs (Begin ∷ ms) s t = front_rises (suc k) (suc n) (frame false 0 ∷ fs) ms s t
front_rises (suc k) zero fs (End ∷ ms) s t = cc
front_rises (suc k) (suc n) [] (End ∷ ms) s t = cc
front_rises (suc k) (suc n) (f ∷ fs) (End ∷ ms) s t = front_rises (suc k) n (raise (depth_of f) fs) ms s (tall_raise n (depth_of f) fs t)
front_rises (suc k) n fs (Count ∷ ms) s t = front_rises (suc k) n (counted fs) ms s (tall_counted n fs t)
front_rises (suc k) n fs (One ∷ ms) s t = front_rises (suc k) n (raise 1 fs) ms s (tall_raise n 1 fs t)
front_rises (suc k) n fs (_ ∷ ms) s t = front_rises (suc k) n fs ms s t

-- ---- a tree's signs are such

record Calm (ms : List Sign) : Type 0 where
  on : (n : ℕ) (ns : List Sign) → stays n (ms ++ ns) ≡ stays n ns

calm_none : Calm []
calm_none = record { on = λ n ns. refl }

calm_both : {ms ns : List Sign} → Calm ms → Calm ns → Calm (ms ++ ns)
calm_both {ms} {ns} a b = record { on = λ n os. ap (stays n) (append_assoc ms ns os) ∙ (a.on n (ns ++ os) ∙ b.on n os) }

calm_sign : (m : Sign) (n : ℕ) (ms : List Sign) → is_level m ≡ true → stays n (m ∷ ms) ≡ stays n ms
calm_sign Begin n ms e = cc
calm_sign End n ms e = cc
calm_sign _ n ms e = refl

calm_level : (ms : List Sign) → are_level ms ≡ true → Calm ms
calm_level [] e = calm_none
calm_level (m ∷ ms) e = record { on = λ n ns. calm_sign m n (ms ++ ns) (and_left (is_level m) (are_level ms) e) ∙ (calm_level ms (and_right (is_level m) (are_level ms) e)).on n ns }

calm_leaf : (s : TokenKind) (t : Text) → Calm (leaf_signs s t)
calm_leaf Elision t = calm_none
calm_leaf _ t = record { on = λ n ns. refl }

data AllCalm : List (List Sign) → Type 0 where
  no_calm : AllCalm []
  calm_more : {x : List Sign} {xs : List (List Sign)} → Calm x → AllCalm xs → AllCalm (x ∷ xs)

calm_first : {x : List Sign} {xs : List (List Sign)} → AllCalm (x ∷ xs) → Calm x
calm_first (calm_more f fs) = f

among_stays : (n : ℕ) (ms ns : List Sign) → stays n (among_text ms ++ ns) ≡ stays n (ms ++ ns)
among_stays n [] ns = refl
among_stays n (Tok m k t ∷ ms) ns = refl
among_stays n (Begin ∷ ms) ns = among_stays (suc n) ms ns
among_stays zero (End ∷ ms) ns = refl
among_stays (suc n) (End ∷ ms) ns = among_stays n ms ns
among_stays n (_ ∷ ms) ns = among_stays n ms ns

calm_before : (s : ListShape) {ms : List Sign} → Calm ms → Calm (before s ms)
calm_before JsxChildren {ms} a = record { on = λ n ns. among_stays n ms ns ∙ a.on n ns }
calm_before Lines a = record { on = λ n ns. a.on n ns }
calm_before Spaced a = record { on = λ n ns. a.on n ns }
calm_before _ a = a

calm_between : (s : ListShape) → Calm (between s)
calm_between Commas = record { on = λ n ns. refl }
calm_between _ = record { on = λ n ns. refl }

calm_behind : (s : ListShape) (ms : List Sign) → Calm (behind s ms)
calm_behind Elisions [] = record { on = λ n ns. refl }
calm_behind Elisions (m ∷ ms) = record { on = λ n ns. refl }
calm_behind _ ms = record { on = λ n ns. refl }

calm_joined : (xs : List (List Sign)) → AllCalm xs → Calm (joined xs)
calm_joined [] no_calm = calm_none
calm_joined (x ∷ []) (calm_more f fs) = f
calm_joined (x ∷ y ∷ ys) (calm_more f fs) = calm_both f (calm_joined (y ∷ ys) fs)

calm_gathered : (s : ListShape) (xs : List (List Sign)) → AllCalm xs → Calm (gathered s xs)
calm_gathered s [] no_calm = calm_none
calm_gathered s (x ∷ []) (calm_more f fs) = calm_both (calm_before s f) (calm_behind s x)
calm_gathered s (x ∷ y ∷ ys) (calm_more f fs) = calm_both (calm_before s f) (calm_both (calm_between s) (calm_gathered s (y ∷ ys) fs))

calm_maybe : (a b : List Sign) (r : List Text) (xs : List (List Sign)) → are_level a ≡ true → are_level b ≡ true → AllCalm xs → Calm (maybe a b r xs)
calm_maybe a b [] [] la lb f = calm_none
calm_maybe a b (r ∷ rs) [] la lb f = record { on = λ n ns. refl }
calm_maybe a b [] (x ∷ xs) la lb f = calm_both (calm_level a la) (calm_both (calm_first f) (calm_level b lb))
calm_maybe a b (r ∷ rs) (x ∷ xs) la lb f = calm_both (calm_level a la) (calm_both (calm_first f) (calm_level b lb))

data CalmParts : Forest → Type 0 where
  no_parts : CalmParts none
  more_parts : {t : Tree} {ts : Forest} → AllCalm (said t) → CalmParts ts → CalmParts (part t ts)

row_part : {x : List Sign} (ps : Production) (ts : Forest) (n : ℕ) (ns : List Sign) → Calm x → stays (suc n) (walk ps (saids ts) ++ ns) ≡ stays n ns → stays (suc n) ((x ++ walk ps (saids ts)) ++ ns) ≡ stays n ns
row_part {x} ps ts n ns a e = ap (stays (suc n)) (append_assoc x (walk ps (saids ts)) ns) ∙ (a.on (suc n) (walk ps (saids ts) ++ ns) ∙ e)

row_calm : (ps : Production) (ts : Forest) → level_row ps ≡ true → CalmParts ts → (n : ℕ) (ns : List Sign) → stays (suc n) (walk ps (saids ts) ++ ns) ≡ stays n ns
row_calm [] ts l p n ns = refl
row_calm (Fixed m ∷ ps) ts l p n ns = calm_sign m (suc n) (walk ps (saids ts) ++ ns) (and_left (is_level m) (level_row ps) l) ∙ row_calm ps ts (and_right (is_level m) (level_row ps) l) p n ns
row_calm (Within a ∷ ps) ts l p n ns = row_calm ps ts l p n ns
row_calm (Part c ∷ ps) none l p n ns = refl
row_calm (Part c ∷ ps) (part t ts) l (more_parts q p) n ns = row_part ps ts n ns (calm_joined (said t) q) (row_calm ps ts l p n ns)
row_calm (Optional a c b r ∷ ps) none l p n ns = refl
row_calm (Optional a c b r ∷ ps) (part t ts) l (more_parts q p) n ns =
    let two = and_left (are_level a && are_level b) (level_row ps) l in
    row_part ps ts n ns (calm_maybe a b r (said t) (and_left (are_level a) (are_level b) two) (and_right (are_level a) (are_level b) two) q) (row_calm ps ts (and_right (are_level a && are_level b) (level_row ps) l) p n ns)
row_calm (Many s c ∷ ps) none l p n ns = refl
row_calm (Many s c ∷ ps) (part t ts) l (more_parts q p) n ns = row_part ps ts n ns (calm_gathered s (said t) q) (row_calm ps ts l p n ns)

nested_calm : (x y : List Sign) → Calm x → Calm y → Calm (Begin ∷ Count ∷ Begin ∷ (x ++ (Space ∷ Count ∷ pun "=" ∷ Space ∷ (y ++ (End ∷ End ∷ [])))))
nested_calm x y a b = record {
  on = λ n ns. ap (stays (suc (suc n))) (append_assoc x (Space ∷ Count ∷ pun "=" ∷ Space ∷ (y ++ (End ∷ End ∷ []))) ns)
      ∙ (a.on (suc (suc n)) (Space ∷ Count ∷ pun "=" ∷ Space ∷ ((y ++ (End ∷ End ∷ [])) ++ ns))
      ∙ (ap (stays (suc (suc n))) (append_assoc y (End ∷ End ∷ []) ns) ∙ b.on (suc (suc n)) (End ∷ End ∷ ns)));
}

calm_nested : (r : Role) (cs : Forest) → fit_slots (positions (function (ShorthandInit r))) cs ≡ true → CalmParts cs → Calm (Begin ∷ walk (production (function (ShorthandInit r))) (saids cs))
calm_nested r none e p = cc
calm_nested r (part a none) e p = let bad = and_right (fits_below BindingIdent a) false (and_right (admits BindingIdent a) (fits_below BindingIdent a && false) e) in cc
calm_nested r (part a (part b none)) e (more_parts f (more_parts g no_parts)) = nested_calm (joined (said a)) (joined (said b)) (calm_joined (said a) f) (calm_joined (said b) g)
calm_nested r (part a (part b (part c cs))) e p =
    let one = and_right (fits_below BindingIdent a) (admits (Expr 1) b && (fits_below (Expr 1) b && false)) (and_right (admits BindingIdent a) (fits_below BindingIdent a && (admits (Expr 1) b && (fits_below (Expr 1) b && false))) e) in
    let bad = and_right (fits_below (Expr 1) b) false (and_right (admits (Expr 1) b) (fits_below (Expr 1) b && false) one) in cc

calm_kind : (k : Kind) (cs : Forest) → is_nested k ≡ false → CalmParts cs → Calm (Begin ∷ walk (production k) (saids cs))
calm_kind k cs e p = record { on = λ n ns. row_calm (production k) cs (levels_of k e) p n ns }

calm_node : (k : Kind) (cs : Forest) → fit_slots (positions k) cs ≡ true → CalmParts cs → Calm (Begin ∷ walk (production k) (saids cs))
calm_node (function (ShorthandInit r)) cs e p = calm_nested r cs e p
calm_node k cs e p = calm_kind k cs refl p

mutual
  calm_tree : (c : Nonterminal) (t : Tree) → fits_below c t ≡ true → AllCalm (said t)
  calm_tree c (leaf s t) e = calm_more (calm_leaf s t) no_calm
  calm_tree c (node k cs) e = calm_more (calm_node k cs e (calm_parts (positions k) cs e)) no_calm
  calm_tree c (list ts) e = calm_each c ts e

  calm_parts : (ss : List Position) (ts : Forest) → fit_slots ss ts ≡ true → CalmParts ts
  calm_parts [] none e = no_parts
  calm_parts [] (part t ts) e = cc
  calm_parts (position f c g b a ∷ ss) none e = cc
  calm_parts (position f c g b a ∷ ss) (part t ts) e =
      let below = and_right (shaped f c t) (fits_below c t && fit_slots ss ts) e in
      more_parts (calm_tree c t (and_left (fits_below c t) (fit_slots ss ts) below)) (calm_parts ss ts (and_right (fits_below c t) (fit_slots ss ts) below))

  calm_each : (c : Nonterminal) (ts : Forest) → fit_each c ts ≡ true → AllCalm (each_said ts)
  calm_each c none e = no_calm
  calm_each c (part t ts) e =
      let below = and_right (admits c t) (fits_below c t && fit_each c ts) e in
      calm_more (calm_joined (said t) (calm_tree c t (and_left (fits_below c t) (fit_each c ts) below))) (calm_each c ts (and_right (fits_below c t) (fit_each c ts) below))

append_nil : (ms : List Sign) → ms ≡ ms ++ []
append_nil [] = refl
append_nil (m ∷ ms) = ap (λ ns. m ∷ ns) (append_nil ms)

-- a tree within a depth has all its fronts within it
pub fronts_within : (c : Nonterminal) (t : Tree) → fits_below c t ≡ true → (k : ℕ) → deep (front k (spelled t)) ≤ depth t
fronts_within c t e k =
    let calm = calm_joined (said t) (calm_tree c t e) in
    let still : stays 0 (spelled t) ≡ true = ap (stays 0) (append_nil (spelled t)) ∙ calm.on 0 [] in
    let h = front_rises k 0 (frame false 0 ∷ []) (spelled t) still refl in
    let p = deep_steps (frame false 0 ∷ []) (front k (spelled t)) in
    let q = deep_steps (frame false 0 ∷ []) (spelled t) in
    omega (arith, h, p, q)
