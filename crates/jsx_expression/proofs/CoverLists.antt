-- Covers one behind another: the expressions that they are, and the parameters that they turn into.
use Rattle.std.proofs.Common.{◌≡◌, Bool, true, false, not, List, [], ◌∷◌, ◌++◌, length, map, refl, sym, ◌∙◌, ap, subst, arith, append-nil, Box, Global}
use Rattle.std.specs.Prelude.{◌&&◌}
use Rattle.std.proofs.lemmas.List.{map-append}
use Rattle.jsx_tree.specs.Kinds.{Tree, Forest, none, part}
use Rattle.jsx_tree.specs.StaticRules.{all_of, is_word}
use Rattle.jsx_tree.specs.View.{forest, inside, view_pat}
use Rattle.jsx_tree.specs.declared.tree.Pat.{Pat}
use Rattle.jsx_tree.proofs.Tokens.{and_left, and_right}
use Rattle.jsx_tree.proofs.Rows.Steps.{both}
use Rattle.jsx_operand.specs.Covers.{IsParameter}
use Rattle.jsx_operand.specs.Patterns.{is_compound}
use Rattle.jsx_operand.specs.declared.cover.Cover.{Cover}
use Rattle.jsx_operand.proofs.Turners.{forest_more}
use Rattle.jsx_expression.specs.Arrows.{TurnCovers, covers_none, covers_more, are_exprs}
use Rattle.jsx_expression.proofs.CoverParams.{param_word}

-- ---- a list that is gone through

pub none_left : {A : Type 0} (xs : List A) → length xs ≡ 0 → xs ≡ []
none_left [] e = refl
none_left (x ∷ xs) e = absurd (omega arith)

-- all that was there has been yielded
pub all_yielded : {A : Type 0} {xs all : List A} (rest : List A) → xs ++ rest ≡ all → length rest ≡ 0 → xs ≡ all
all_yielded {xs = xs} rest e n = sym (append-nil xs) ∙ (ap (λ ys. xs ++ ys) (sym (none_left rest n)) ∙ e)

pub mapped_past : {A B C : Type 0} (h : B → C) (f : A → C) (xs : List A) (x : A) (ys : List B) (y : B) → map h ys ≡ map f xs → h y ≡ f x → map h (ys ++ y ∷ []) ≡ map f (xs ++ x ∷ [])
mapped_past h f xs x ys y e i = map-append h ys (y ∷ []) ∙ ((λ n. e n ++ i n ∷ []) ∙ sym (map-append f xs (x ∷ [])))

-- ---- as expressions

pub exprs_past : (cs : List Cover) (c : Cover) → are_exprs cs ≡ true → c.is_expr ≡ true → are_exprs (cs ++ c ∷ []) ≡ true
exprs_past [] c e i = ap (λ b. b && true) i
exprs_past (d ∷ cs) c e i = (λ n. and_left d.is_expr (are_exprs cs) e n && exprs_past cs c (and_right d.is_expr (are_exprs cs) e) i n)

pub exprs_refused : {all : List Cover} (cs : List Cover) (c : Cover) (rest : List Cover) → cs ++ c ∷ rest ≡ all → c.is_expr ≡ false → are_exprs all ≡ false
exprs_refused cs c rest e i = ap are_exprs (sym e) ∙ at cs
  where
    at : (ds : List Cover) → are_exprs (ds ++ c ∷ rest) ≡ false
    at [] = ap (λ b. b && are_exprs rest) i
    at (d ∷ ds) = by d.is_expr (at ds)
      where
        by : (b : Bool) {e : Bool} → e ≡ false → (b && e) ≡ false
        by true h = h
        by false h = refl

-- ---- as parameters

abbrev pub patterns : List (Box Pat Global) → Forest
patterns ps = forest (map (inside view_pat) ps)

-- the parameters that they are so far, whatever stands behind these
pub record TurnSoFar (cs : List Cover) (ps : List (Box Pat Global)) : Type 0 where
  pub on : (rs : Forest) → TurnCovers cs rs (both (patterns ps) rs)

both_none : (ts : Forest) → both ts none ≡ ts
both_none none = refl
both_none (part t ts) = ap (part t) (both_none ts)

both_past : (ts us rs : Forest) → both ts (both us rs) ≡ both (both ts us) rs
both_past none us rs = refl
both_past (part t ts) us rs = ap (part t) (both_past ts us rs)

patterns_past : (ps : List (Box Pat Global)) (p : Box Pat Global) → patterns (ps ++ p ∷ []) ≡ both (patterns ps) (part (view_pat p.value) none)
patterns_past ps p = ap forest (map-append (inside view_pat) ps (p ∷ [])) ∙ forest_more (map (inside view_pat) ps) (view_pat p.value ∷ [])

pub turn_none : {ps : List (Box Pat Global)} → ps ≡ [] → TurnSoFar [] ps
turn_none e = record { on = λ rs. subst (λ qs. TurnCovers [] rs (both (patterns qs) rs)) (sym e) covers_none }

covers_past : {cs : List Cover} {c : Cover} {rs us : Forest} (q : Tree) → IsParameter c q → TurnCovers cs (part q rs) us → TurnCovers (cs ++ c ∷ []) rs us
covers_past q i covers_none = covers_more i covers_none
covers_past q i (covers_more j t) = covers_more j (covers_past q i t)

pub turn_past : {cs : List Cover} {c : Cover} {ps qs : List (Box Pat Global)} (p : Box Pat Global) → TurnSoFar cs ps → IsParameter c (view_pat p.value) → qs ≡ ps ++ p ∷ [] → TurnSoFar (cs ++ c ∷ []) qs
turn_past {cs} {c} {ps} {qs} p t i e = record {
  on = λ rs. subst (λ us. TurnCovers (cs ++ c ∷ []) rs us) (both_past (patterns ps) (part (view_pat p.value) none) rs ∙ ap (λ us. both us rs) (sym (patterns_past ps p) ∙ ap patterns (sym e))) (covers_past (view_pat p.value) i (t.on (part (view_pat p.value) rs)));
}

-- with nothing behind them, and with a rest
pub turn_all : {cs ds : List Cover} {ps : List (Box Pat Global)} → cs ≡ ds → TurnSoFar cs ps → TurnCovers ds none (patterns ps)
turn_all {cs} {ps = ps} e t = subst (λ xs. TurnCovers xs none (patterns ps)) e (subst (λ us. TurnCovers cs none us) (both_none (patterns ps)) (t.on none))

pub turn_rest : {cs ds : List Cover} {ps qs : List (Box Pat Global)} (p : Box Pat Global) → cs ≡ ds → TurnSoFar cs ps → qs ≡ ps ++ p ∷ [] → TurnCovers ds (part (view_pat p.value) none) (patterns qs)
turn_rest {cs} {ds} {ps} {qs} p e t f = subst (λ xs. TurnCovers xs (part (view_pat p.value) none) (patterns qs)) e (subst (λ us. TurnCovers cs (part (view_pat p.value) none) us) (sym (patterns_past ps p) ∙ ap patterns (sym f)) (t.on (part (view_pat p.value) none)))

covers_refused : (cs : List Cover) (c : Cover) (rest : List Cover) {rs us : Forest} → ((q : Tree) → IsParameter c q → ⊥) → TurnCovers (cs ++ c ∷ rest) rs us → ⊥
covers_refused [] c rest n (covers_more i t) = n _ i
covers_refused (d ∷ cs) c rest n (covers_more i t) = covers_refused cs c rest n t

pub turn_refused : {all : List Cover} {rs : Forest} (cs : List Cover) (c : Cover) (rest : List Cover) → cs ++ c ∷ rest ≡ all → ((q : Tree) → IsParameter c q → ⊥) → (us : Forest) → TurnCovers all rs us → ⊥
turn_refused {rs = rs} cs c rest e n us t = covers_refused cs c rest n (subst (λ xs. TurnCovers xs rs us) (sym e) t)

-- whether all of them are names
all_past : (f : Tree → Bool) (ts us : Forest) → all_of f (both ts us) ≡ (all_of f ts && all_of f us)
all_past f none us = refl
all_past f (part t ts) us = ap (λ b. f t && b) (all_past f ts us) ∙ and_past (f t) (all_of f ts) (all_of f us)
  where
    and_past : (a b c : Bool) → (a && (b && c)) ≡ ((a && b) && c)
    and_past true b c = refl
    and_past false b c = refl

and_true : (a b : Bool) → (a && (b && true)) ≡ (a && b)
and_true a true = refl
and_true a false = refl

pub simple_past : {a s b : Bool} {c : Cover} (ps : List (Box Pat Global)) {qs : List (Box Pat Global)} (p : Box Pat Global) → a ≡ all_of is_word (patterns ps) → IsParameter c (view_pat p.value) → s ≡ not (is_compound (view_pat p.value)) → b ≡ (a && s) → qs ≡ ps ++ p ∷ [] → b ≡ all_of is_word (patterns qs)
simple_past ps p h i e f g =
    f ∙ ((λ n. h n && (e ∙ sym (param_word i)) n) ∙ (sym (and_true (all_of is_word (patterns ps)) (is_word (view_pat p.value))) ∙ (sym (all_past is_word (patterns ps) (part (view_pat p.value) none)) ∙ ap (all_of is_word) (sym (patterns_past ps p) ∙ ap patterns (sym g)))))

pub simple_rest : (ps : List (Box Pat Global)) {qs : List (Box Pat Global)} (p : Box Pat Global) → is_word (view_pat p.value) ≡ false → qs ≡ ps ++ p ∷ [] → false ≡ all_of is_word (patterns qs)
simple_rest ps p n g =
    sym (ap (all_of is_word) (ap patterns g ∙ patterns_past ps p) ∙ (all_past is_word (patterns ps) (part (view_pat p.value) none) ∙ (ap (λ b. all_of is_word (patterns ps) && (b && true)) n ∙ and_none (all_of is_word (patterns ps)))))
  where
    and_none : (b : Bool) → (b && false) ≡ false
    and_none true = refl
    and_none false = refl
