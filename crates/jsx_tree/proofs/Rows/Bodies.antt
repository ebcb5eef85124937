-- A row of which no part is a function's body, so that no directive asks anything of parameters.
use Rattle.std.proofs.Common.{◌≡◌, nat_eq, Bool, true, false, not, cond, List, [], ◌∷◌, refl, sym, ◌∙◌, ap}
use Rattle.std.specs.Prelude.{suc, ◌&&◌, ◌||◌}
use Rattle.jsx_tree.specs.Kinds.{Tree, leaf, node, list, Forest, Kind, FunctionBody, program, statement, function, expression, jsx}
use Rattle.jsx_tree.specs.Nonterminals.{Nonterminal, in_homes, homes}
use Rattle.jsx_tree.specs.Grammar.{Context, Fixed, Part, Optional, Many, Within}
use Rattle.jsx_tree.specs.Form.{admits, fits_below}
use Rattle.jsx_tree.specs.Reading.{Place}
use Rattle.jsx_tree.specs.StaticRules.{Surroundings, is_strict_body, count_of, all_of, is_plain_list, has_plain_params}
use Rattle.jsx_tree.specs.Walk.{Piece, piece, IsRead, sign, tree, absent, present, many, within, Walk, done, next}
use Rattle.jsx_tree.proofs.Tokens.{and_left, and_right}
use Rattle.jsx_tree.proofs.Rows.Firsts.{kind_home}

abbrev pub takes_body : Nonterminal → Bool
takes_body c = in_homes c (homes (program FunctionBody))

abbrev pub bodiless : List Piece → Bool
bodiless [] = true
bodiless (piece a (Part c) ∷ ps) = not (takes_body c) && bodiless ps
bodiless (piece a p ∷ ps) = bodiless ps

kind_not : (c : Nonterminal) (k : Kind) (us : Forest) → not (in_homes c (homes (program FunctionBody))) ≡ true → in_homes c (homes k) ≡ true → is_strict_body (node k us) ≡ false
kind_not c (program FunctionBody) us n h = let bad : false ≡ true = ap not (sym h) ∙ n in cc
kind_not c (program k) us n h = refl
kind_not c (statement k) us n h = refl
kind_not c (function k) us n h = refl
kind_not c (expression k) us n h = refl
kind_not c (jsx k) us n h = refl

tree_not : {v : Surroundings} {b : Bool} {c : Nonterminal} {x y : Place} (t : Tree) → not (takes_body c) ≡ true → IsRead v b c x t y → is_strict_body t ≡ false
tree_not (leaf k r) n q = refl
tree_not (list ts) n q = refl
tree_not {c = c} (node k us) n q = kind_not c k us n (kind_home c k us (and_left (admits c (node k us)) (fits_below c (node k us)) q.is))

no_count : {V : List Context → Surroundings} (ps : List Piece) {x y : Place} {ts : Forest} → bodiless ps ≡ true → Walk IsRead V ps x ts y → count_of is_strict_body ts ≡ 0
no_count [] b (done f) = refl
no_count (piece a (Fixed s) ∷ ps) b (next (sign e f) w) = no_count ps b w
no_count (piece a (Within s) ∷ ps) b (next (within f) w) = no_count ps b w
no_count (piece a (Optional s c t r) ∷ ps) b (next (absent e f) w) = no_count ps b w
no_count (piece a (Optional s c t r) ∷ ps) b (next (present d q e f) w) = no_count ps b w
no_count (piece a (Many s c) ∷ ps) b (next (many e all) w) = no_count ps b w
no_count (piece a (Part c) ∷ ps) b (next {ts = ts} (tree {t = t} q) w) =
    ap (λ h. cond h (suc (count_of is_strict_body ts)) (count_of is_strict_body ts)) (tree_not t (and_left (not (takes_body c)) (bodiless ps) b) q) ∙ no_count ps (and_right (not (takes_body c)) (bodiless ps) b) w

pub plain : {V : List Context → Surroundings} (ps : List Piece) {x y : Place} {ts : Forest} → bodiless ps ≡ true → Walk IsRead V ps x ts y → has_plain_params ts ≡ true
plain ps {ts = ts} b w = ap (λ n. nat_eq n 0 || all_of is_plain_list ts) (no_count ps b w)
