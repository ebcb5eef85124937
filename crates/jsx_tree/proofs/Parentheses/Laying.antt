-- The last of the passes: a tree whose parts are at home as they are laid has the form of the productions, once it is laid.
use Rattle.std.proofs.Common.{◌≡◌, List, [], ◌∷◌, Bool, true, false, refl, ap, ◌∙◌, ⊎_elim}
use Rattle.std.proofs.lemmas.Bool.{and_parts, and_from, or_cases, both_ways, false≢true, not-true}
use Rattle.std.specs.Prelude.{not, ◌&&◌, ◌||◌}
use Rattle.jsx_base.specs.Token.{Text, TokenKind, IdentifierName, JsxName}
use Rattle.jsx_tree.specs.Kinds.{Kind, statement, expression, Empty, BareArrow, BareArrowBlock, NewWithoutArguments, Tree, leaf, node, list, Forest, none, part}
use Rattle.jsx_tree.specs.Nonterminals.{Nonterminal, BindingIdent, Param, NewCallee, in_homes, homes, leaf_in}
use Rattle.jsx_tree.specs.Grammar.{ListShape, NoTrailing, TwoOrMore, OneOrMore, Dotted}
use Rattle.jsx_tree.specs.Normal.{is_empty, unless_empty, without_empty, laid_node, of_list, made, mades, each_made, laid_tree}
use Rattle.jsx_tree.specs.Form.{Form, Single, Maybe, Several, Position, position, positions, enough, at_most_one, last_kind, is_last, last_only, admits, is_leaf, fits_below, fit_slots, fit_each, is, spine_calls, first_calls}
use Rattle.jsx_tree.specs.Parentheses.{as_laid}
use Rattle.jsx_tree.specs.Fits.{is_solid}
use Rattle.jsx_tree.specs.Sound.{is_no_jsx}
use Rattle.jsx_tree.proofs.Parentheses.EmptyStatements.{is_free, drops, all_drops}
use Rattle.jsx_tree.proofs.Parentheses.FirstPass.{home, fine, fine_slots, fine_each}
use Rattle.jsx_tree.proofs.Parentheses.SecondPass.{alike, spine_less, laid_kept}

-- ---- homes

laid_spine : (k : Kind) (ds : Forest) → spine_calls (laid_node k ds) ≡ true → spine_calls (node k ds) ≡ true
laid_spine (expression BareArrow) (part a b) h = absurd (false≢true h)
laid_spine (expression BareArrowBlock) (part a b) h = absurd (false≢true h)
laid_spine (expression NewWithoutArguments) (part a none) h = absurd (false≢true h)
laid_spine k ds h = h

of_list_spine : (o : Form) (u : Tree) → spine_calls (of_list o u) ≡ true → spine_calls u ≡ true
of_list_spine (Several s) (list ts) h = h
of_list_spine o u h = h

mades_alike : (ss : List Position) (cs : Forest) → alike cs (mades laid_node ss cs) ≡ true
mades_alike ss none = refl
mades_alike [] (part t ts) = mades_alike [] ts
mades_alike (position o c g b a ∷ ss) (part t ts) = mades_alike ss ts

mutual
  spine_kept : (t : Tree) → spine_calls (laid_tree t) ≡ true → spine_calls t ≡ true
  spine_kept (leaf s x) h = h
  spine_kept (list ts) h = h
  spine_kept (node k cs) h = spine_less k cs (mades laid_node (positions k) cs) (λ l p. first_kept (positions k) cs p) (laid_spine k (mades laid_node (positions k) cs) h)

  first_kept : (ss : List Position) (cs : Forest) → first_calls (mades laid_node ss cs) ≡ true → first_calls cs ≡ true
  first_kept ss none h = h
  first_kept [] (part t ts) h = spine_kept t h
  first_kept (position o c g b a ∷ ss) (part t ts) h = spine_kept t (of_list_spine o (made laid_node t) h)

pub laid_admits : (c : Nonterminal) (t : Tree) → admits c (as_laid t) ≡ true → admits c (laid_tree t) ≡ true
laid_admits c (leaf s x) h = h
laid_admits c (list ts) h = h
laid_admits c (node k cs) h = laid_kept c k cs (mades laid_node (positions k) cs) (mades_alike (positions k) cs) (λ l p. first_kept (positions k) cs p) h

-- ---- lists, without their empty statements

laid_node_last : (k : Kind) (ds : Forest) → is_last (laid_node k ds) ≡ last_kind k
laid_node_last (expression BareArrow) (part a b) = refl
laid_node_last (expression BareArrowBlock) (part a b) = refl
laid_node_last (expression NewWithoutArguments) (part a none) = refl
laid_node_last k ds = refl

laid_last : (t : Tree) → is_last (laid_tree t) ≡ is_last t
laid_last (leaf s x) = refl
laid_last (list ts) = refl
laid_last (node k cs) = laid_node_last k (mades laid_node (positions k) cs)

each_one : (ts : Forest) → at_most_one (each_made laid_node ts) ≡ at_most_one ts
each_one none = refl
each_one (part t none) = refl
each_one (part t (part u us)) = refl

each_enough : (s : ListShape) (ts : Forest) → enough s (each_made laid_node ts) ≡ enough s ts
each_enough TwoOrMore none = refl
each_enough TwoOrMore (part t none) = refl
each_enough TwoOrMore (part t (part u us)) = refl
each_enough _ none = refl
each_enough _ (part t ts) = refl

each_last : (ts : Forest) → last_only (each_made laid_node ts) ≡ last_only ts
each_last none = refl
each_last (part t none) = refl
each_last (part t (part u us)) =
    ap (λ b. not b && last_only (each_made laid_node (part u us))) (laid_last t) ∙ ap (λ b. not (is_last t) && b) (each_last (part u us))

abbrev is_some : Forest → Bool
is_some none = false
is_some (part t ts) = true

some_before : (ts : Forest) → is_some (without_empty ts) ≡ true → is_some ts ≡ true
some_before none h = h
some_before (part t ts) h = refl

last_less : (t : Tree) (ts ws : Forest) → (is_some ws ≡ true → is_some ts ≡ true) → last_only (part t ts) ≡ true → last_only ws ≡ true → last_only (part t ws) ≡ true
last_less t ts none f h w = refl
last_less t none (part x xs) f h w = absurd (false≢true (f refl))
last_less t (part y ys) (part x xs) f h w = and_from (not (is_last t)) _ (and_parts (not (is_last t)) (last_only (part y ys)) h).0 w

last_tail : (t : Tree) (ts : Forest) → last_only (part t ts) ≡ true → last_only ts ≡ true
last_tail t none h = refl
last_tail t (part u us) h = (and_parts (not (is_last t)) (last_only (part u us)) h).1

dropped_last : (v : Bool) (t : Tree) (ts : Forest) → last_only (part t ts) ≡ true → last_only (without_empty ts) ≡ true → last_only (unless_empty v t (without_empty ts)) ≡ true
dropped_last true t ts h w = w
dropped_last false t ts h w = last_less t ts (without_empty ts) (some_before ts) h w

without_last : (ts : Forest) → last_only ts ≡ true → last_only (without_empty ts) ≡ true
without_last none h = refl
without_last (part t ts) h = dropped_last (is_empty t) t ts h (without_last ts (last_tail t ts h))

dropped_fit : (v : Bool) (c : Nonterminal) (t : Tree) (ws : Forest) → admits c t ≡ true → fits_below c t ≡ true → fit_each c ws ≡ true → fit_each c (unless_empty v t ws) ≡ true
dropped_fit true c t ws a f w = w
dropped_fit false c t ws a f w = and_from _ _ a (and_from _ _ f w)

without_fit : (c : Nonterminal) (ts : Forest) → fit_each c ts ≡ true → fit_each c (without_empty ts) ≡ true
without_fit c none h = refl
without_fit c (part t ts) h =
    let p = and_parts (admits c t) (fits_below c t && fit_each c ts) h in
    let q = and_parts (fits_below c t) (fit_each c ts) p.1 in
    dropped_fit (is_empty t) c t (without_empty ts) p.0 q.0 (without_fit c ts q.1)

pub admits_in : (c : Nonterminal) (k : Kind) (cs : Forest) → admits c (node k cs) ≡ true → in_homes c (homes k) ≡ true
admits_in NewCallee k cs h = (and_parts (in_homes NewCallee (homes k)) _ h).0
admits_in _ k cs h = h

empty_in : (c : Nonterminal) (t : Tree) → is_empty t ≡ true → admits c t ≡ true → in_homes c (homes (statement Empty)) ≡ true
empty_in c (node (statement Empty) cs) e h = admits_in c (statement Empty) cs h
empty_in c _ e h = absurd (false≢true e)

unless_not : (c : Nonterminal) (v : Bool) (t : Tree) (ts : Forest) → is_empty t ≡ v → admits c t ≡ true → not (in_homes c (homes (statement Empty))) ≡ true → unless_empty v t ts ≡ part t ts
unless_not c true t ts e h n = absurd (both_ways (in_homes c (homes (statement Empty))) (not-true (in_homes c (homes (statement Empty))) n) (empty_in c t e h))
unless_not c false t ts e h n = refl

pub without_none : (c : Nonterminal) (ts : Forest) → not (in_homes c (homes (statement Empty))) ≡ true → fit_each c ts ≡ true → without_empty ts ≡ ts
without_none c none n h = refl
without_none c (part t ts) n h =
    let p = and_parts (admits c t) (fits_below c t && fit_each c ts) h in
    let q = and_parts (fits_below c t) (fit_each c ts) p.1 in
    unless_not c (is_empty t) t (without_empty ts) refl p.0 n ∙ ap (part t) (without_none c ts n q.1)

free_enough : (s : ListShape) (ts : Forest) → is_free s ≡ true → enough s ts ≡ true
free_enough NoTrailing ts h = absurd (false≢true h)
free_enough TwoOrMore ts h = absurd (false≢true h)
free_enough OneOrMore ts h = absurd (false≢true h)
free_enough Dotted ts h = absurd (false≢true h)
free_enough _ ts h = refl

without_enough : (s : ListShape) (c : Nonterminal) (ts : Forest) → (is_free s || not (in_homes c (homes (statement Empty)))) ≡ true → fit_each c ts ≡ true → enough s ts ≡ true → enough s (without_empty ts) ≡ true
without_enough s c ts d f h = ⊎_elim (λ p. free_enough s (without_empty ts) p) (λ n. ap (enough s) (without_none c ts n f) ∙ h) (or_cases (is_free s) _ d)

-- ---- the kinds that are written in another form

pub param_leaf : (s : TokenKind) (x : Text) → leaf_in BindingIdent s x ≡ true → leaf_in Param s x ≡ true
param_leaf IdentifierName x h = h
param_leaf JsxName x h = absurd (false≢true h)
param_leaf _ x h = absurd (false≢true h)

param_in : (a : Tree) → admits BindingIdent a ≡ true → fits_below BindingIdent a ≡ true → (admits Param a && (fits_below Param a && true)) ≡ true
param_in (leaf s x) h f = and_from _ _ (param_leaf s x h) (and_from _ true f refl)
param_in (list ts) h f = absurd (false≢true h)
param_in (node k cs) h f =
    absurd (both_ways (in_homes BindingIdent (homes k)) (not-true (in_homes BindingIdent (homes k)) (and_parts (drops (positions k)) (not (in_homes BindingIdent (homes k))) (all_drops k)).1) h)

laid_fits : (c : Nonterminal) (k : Kind) (ds : Forest) → fit_slots (positions k) ds ≡ true → fits_below c (laid_node k ds) ≡ true
laid_fits c (expression BareArrow) (part a b) h =
    let p = and_parts (admits BindingIdent a) _ h in
    let q = and_parts (fits_below BindingIdent a) _ p.1 in
    and_from _ _ (param_in a p.0 q.0) q.1
laid_fits c (expression BareArrowBlock) (part a b) h =
    let p = and_parts (admits BindingIdent a) _ h in
    let q = and_parts (fits_below BindingIdent a) _ p.1 in
    and_from _ _ (param_in a p.0 q.0) q.1
laid_fits c (expression NewWithoutArguments) (part a none) h =
    let p = and_parts (admits NewCallee a) (fits_below NewCallee a && true) h in
    let q = and_parts (fits_below NewCallee a) true p.1 in
    and_from _ _ p.0 (and_from _ true q.0 refl)
laid_fits c k ds h = h

-- ---- all trees

mutual
  laid_below : (c : Nonterminal) (t : Tree) → fine false c t ≡ true → fits_below c (laid_tree t) ≡ true
  laid_below c (leaf s x) h = (and_parts (is_leaf s x) (is_solid s) h).0
  laid_below c (list ts) h = each_laid c ts h
  laid_below c (node k cs) h =
      laid_fits c k (mades laid_node (positions k) cs)
      (slots_laid (positions k) cs (and_parts (drops (positions k)) (not (in_homes BindingIdent (homes k))) (all_drops k)).0 (and_parts (is_no_jsx k) (fine_slots false (positions k) cs) h).1)

  pub slots_laid : (ss : List Position) (cs : Forest) → drops ss ≡ true → fine_slots false ss cs ≡ true → fit_slots ss (mades laid_node ss cs) ≡ true
  slots_laid [] none l h = refl
  slots_laid [] (part t ts) l h = absurd (false≢true h)
  slots_laid (s ∷ ss) none l h = absurd (false≢true h)
  slots_laid (position Single c g b a ∷ ss) (part t ts) l h =
      let x = and_parts (home false c t) (fine false c t && fine_slots false ss ts) h in
      let y = and_parts (fine false c t) (fine_slots false ss ts) x.1 in
      and_from _ _ (laid_admits c t x.0) (and_from _ _ (laid_below c t y.0) (slots_laid ss ts l y.1))
  slots_laid (position Maybe c g b a ∷ ss) (part (list us) ts) l h =
      let x = and_parts (at_most_one us) (fine_each false c us && fine_slots false ss ts) h in
      let y = and_parts (fine_each false c us) (fine_slots false ss ts) x.1 in
      and_from _ _ (each_one us ∙ x.0) (and_from _ _ (each_laid c us y.0) (slots_laid ss ts l y.1))
  slots_laid (position (Several s) c g b a ∷ ss) (part (list us) ts) l h =
      let x = and_parts (enough s us && last_only us) (fine_each false c us && fine_slots false ss ts) h in
      let w = and_parts (enough s us) (last_only us) x.0 in
      let y = and_parts (fine_each false c us) (fine_slots false ss ts) x.1 in
      let z = and_parts (is_free s || not (in_homes c (homes (statement Empty)))) (drops ss) l in
      let e : fit_each c (each_made laid_node us) ≡ true = each_laid c us y.0 in
      and_from _ _ (and_from _ _ (without_enough s c (each_made laid_node us) z.0 e (each_enough s us ∙ w.0)) (without_last (each_made laid_node us) (each_last us ∙ w.1)))
      (and_from _ _ (without_fit c (each_made laid_node us) e) (slots_laid ss ts z.1 y.1))
  slots_laid (position Maybe c g b a ∷ ss) (part (leaf s t) ts) l h = absurd (false≢true h)
  slots_laid (position Maybe c g b a ∷ ss) (part (node k cs) ts) l h = absurd (false≢true h)
  slots_laid (position (Several s) c g b a ∷ ss) (part (leaf s' t) ts) l h = absurd (false≢true h)
  slots_laid (position (Several s) c g b a ∷ ss) (part (node k cs) ts) l h = absurd (false≢true h)

  pub each_laid : (c : Nonterminal) (ts : Forest) → fine_each false c ts ≡ true → fit_each c (each_made laid_node ts) ≡ true
  each_laid c none h = refl
  each_laid c (part t ts) h =
      let x = and_parts (home false c t) (fine false c t && fine_each false c ts) h in
      let y = and_parts (fine false c t) (fine_each false c ts) x.1 in
      and_from _ _ (laid_admits c t x.0) (and_from _ _ (laid_below c t y.0) (each_laid c ts y.1))

pub laid_is : (c : Nonterminal) (t : Tree) → home false c t ≡ true → fine false c t ≡ true → is c (laid_tree t) ≡ true
laid_is c t m h = and_from _ _ (laid_admits c t m) (laid_below c t h)
