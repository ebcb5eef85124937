-- Whether an `if` without `else` stands open at the end is the same with pairs and without: none does in an expression.
use Rattle.std.proofs.Common.{◌≡◌, List, [], ◌∷◌, Bool, true, false, sym, refl, ap, ◌∙◌, ⊎_elim}
use Rattle.std.proofs.lemmas.Bool.{and_parts, or_cases, true≢false, false≢true}
use Rattle.std.specs.Prelude.{not, ◌&&◌, ◌||◌}
use Rattle.jsx_tree.specs.Kinds.{Kind, statement, function, expression, If, While, For, ForIn, ForOf, Label, ParenTarget, BareArrow, BareArrowBlock, NewWithoutArguments, Parenthesized, Tree, leaf, node, list, Forest, none, part}
use Rattle.jsx_tree.specs.Nonterminals.{Nonterminal}
use Rattle.jsx_tree.specs.Grammar.{production}
use Rattle.jsx_tree.specs.Normal.{laid_node, made, mades, each_made, laid_tree}
use Rattle.jsx_tree.specs.Form.{Single, Maybe, Several, Position, position, positions, at_most_one}
use Rattle.jsx_tree.specs.Parentheses.{asks}
use Rattle.jsx_tree.specs.StaticRules.{is_here, trails, is_if, open_if, last_open}
use Rattle.jsx_tree.specs.Sound.{may_stand, may_shape, loose, loose_slots, loose_each}
use Rattle.jsx_tree.proofs.ReadBack.Basics.{clash}
use Rattle.jsx_tree.proofs.Parentheses.Bare.{bare_node, bare, lays, bares, turns, laid_stays, bare_stays, firm, clear, all_clear, nowhere, no_list}
use Rattle.jsx_tree.proofs.Parentheses.Seen.{At, Same, firm_by, first_at, rest_at, each_at, no_more, slots_of, one_of, rest_of, here_same, here_list}
use Rattle.jsx_tree.proofs.ReadBack.RowChecks.{is_tail}
use Rattle.jsx_tree.proofs.Parentheses.PlaceTests.{shut, last_one, last_shut}
use Rattle.jsx_tree.proofs.Parentheses.PlaceTable.{row_facts}

-- laid, or with the pairs off
abbrev form : Bool → Kind → Forest → Tree
form false k cs = laid_node k cs
form true k cs = bare_node k cs

form_stays : (w : Bool) (k : Kind) (cs : Forest) → turns k ≡ false → form w k cs ≡ node k cs
form_stays false k cs o = laid_stays k cs o
form_stays true k cs o = bare_stays k cs o

not_open : (c : Nonterminal) (k : Kind) (cs : Forest) → shut c ≡ true → may_stand c (node k cs) ≡ true → is_tail k ≡ false
not_open c (statement If) cs s m = nowhere (asks c) _ s m
not_open c (statement While) cs s m = nowhere (asks c) _ s m
not_open c (statement For) cs s m = nowhere (asks c) _ s m
not_open c (statement ForIn) cs s m = nowhere (asks c) _ s m
not_open c (statement ForOf) cs s m = nowhere (asks c) _ s m
not_open c (statement Label) cs s m = nowhere (asks c) _ s m
not_open c k cs s m = refl

no_if : (k : Kind) → is_tail k ≡ false → is_if k ≡ false
no_if (statement If) h = absurd (true≢false h)
no_if k h = refl

ends_shut : (k : Kind) → is_tail k ≡ false → (not (trails (production k)) || last_shut (positions k)) ≡ true
ends_shut k e =
    ⊎_elim (λ p. clash (is_tail k) p e) (λ p. p)
    (or_cases (is_tail k) (not (trails (production k)) || last_shut (positions k)) (row_facts k).shut_end)

trailing : (b l : Bool) (i : Bool) (ds : Forest) → (not b || l) ≡ true → i ≡ false → (l ≡ true → last_open false ds ≡ false) → (b && last_open i ds) ≡ false
trailing false l i ds h e f = refl
trailing true l i ds h e f = ap (λ j. last_open j ds) e ∙ f h

plain_end : (k : Kind) (ds : Forest) → is_tail k ≡ false → (last_shut (positions k) ≡ true → last_open false ds ≡ false) → open_if (node k ds) ≡ false
plain_end k ds e f = trailing (trails (production k)) (last_shut (positions k)) (is_if k) ds (ends_shut k e) (no_if k e) f

end_node : (w : Bool) (k : Kind) (cs : Forest) → is_tail k ≡ false → (last_shut (positions k) ≡ true → last_open false (mades (form w) (positions k) cs) ≡ false) → open_if (form w k (mades (form w) (positions k) cs)) ≡ false
end_node false (expression Parenthesized) cs e f = refl
end_node true (expression Parenthesized) none e f = refl
end_node true (expression Parenthesized) (part t none) e f = f refl
end_node true (expression Parenthesized) (part t (part x xs)) e f = refl
end_node false (function ParenTarget) cs e f = refl
end_node true (function ParenTarget) none e f = refl
end_node true (function ParenTarget) (part t none) e f = f refl
end_node true (function ParenTarget) (part t (part x xs)) e f = refl
end_node false (expression BareArrow) none e f = f refl
end_node false (expression BareArrow) (part a none) e f = f refl
end_node false (expression BareArrow) (part a (part b bs)) e f = f refl
end_node true (expression BareArrow) none e f = f refl
end_node true (expression BareArrow) (part a none) e f = f refl
end_node true (expression BareArrow) (part a (part b bs)) e f = f refl
end_node false (expression BareArrowBlock) none e f = refl
end_node false (expression BareArrowBlock) (part a b) e f = refl
end_node true (expression BareArrowBlock) none e f = refl
end_node true (expression BareArrowBlock) (part a b) e f = refl
end_node false (expression NewWithoutArguments) none e f = refl
end_node false (expression NewWithoutArguments) (part a none) e f = refl
end_node false (expression NewWithoutArguments) (part a (part b bs)) e f = refl
end_node true (expression NewWithoutArguments) none e f = refl
end_node true (expression NewWithoutArguments) (part a none) e f = refl
end_node true (expression NewWithoutArguments) (part a (part b bs)) e f = refl
end_node false k cs e f = plain_end k (mades (form false) (positions k) cs) e f
end_node true k cs e f = plain_end k (mades (form true) (positions k) cs) e f

mutual
  closed : (w : Bool) (c : Nonterminal) (t : Tree) → shut c ≡ true → At c t → open_if (made (form w) t) ≡ false
  closed w c (leaf s x) p a = refl
  closed w c (list ts) p a = no_list c ts a.may
  closed w c (node k cs) p a = end_node w k cs (not_open c k cs p a.may) (λ l. closes w (positions k) cs l (slots_of c k cs a))

  closes : (w : Bool) (ss : List Position) (cs : Forest) → last_shut ss ≡ true → loose_slots ss cs ≡ true → last_open false (mades (form w) ss cs) ≡ false
  closes w [] none l h = refl
  closes w [] (part t ts) l h = absurd (false≢true h)
  closes w (s ∷ ss) none l h = absurd (false≢true h)
  closes w (position Single c g b a ∷ []) (part t none) l h = closed w c t l (first_at c t true h)
  closes w (position Maybe c g b a ∷ []) (part (list us) none) l h = closes_each w c us l (each_at (at_most_one us) (loose_each c us) true h)
  closes w (position Maybe c g b a ∷ []) (part (leaf s x) none) l h = absurd (false≢true h)
  closes w (position Maybe c g b a ∷ []) (part (node k cs) none) l h = absurd (false≢true h)
  closes w (position (Several s) c g b a ∷ []) (part t none) l h = absurd (false≢true l)
  closes w (position f c g b a ∷ []) (part t (part u us)) l h = no_more (may_shape f c t) (loose c t) h
  closes w (position f c g b a ∷ q ∷ ss) (part t none) l h = no_more (may_shape f c t) (loose c t) h
  closes w (position f c g b a ∷ position f' c' g' b' a' ∷ ss) (part t (part u us)) l h = closes w (position f' c' g' b' a' ∷ ss) (part u us) l (rest_at (may_shape f c t) (loose c t) _ h)

  closes_each : (w : Bool) (c : Nonterminal) (ts : Forest) → shut c ≡ true → loose_each c ts ≡ true → last_open false (each_made (form w) ts) ≡ false
  closes_each w c none p h = refl
  closes_each w c (part t none) p h = closed w c t p (one_of c t none h)
  closes_each w c (part t (part u us)) p h = closes_each w c (part u us) p (rest_of c t (part u us) h)

-- ---- and at the places of statements it is the same

firm_where : (c : Nonterminal) → shut c ≡ false → firm c ≡ true
firm_where c n =
    ⊎_elim (λ p. p) (λ p. clash (shut c) (and_parts (shut c) _ p).0 n) (or_cases (firm c) (clear c) (all_clear c))

same_end : (b l i : Bool) (ds es : Forest) → (not b || l) ≡ true → (l ≡ true → last_open i ds ≡ last_open i es) → (b && last_open i ds) ≡ (b && last_open i es)
same_end false l i ds es h f = refl
same_end true l i ds es h f = f h

mutual
  pub open_same : (c : Nonterminal) (t : Tree) → At c t → Same open_if t
  open_same c (leaf s x) a = refl
  open_same c (list ts) a = no_list c ts a.may
  open_same c (node k cs) a = at (shut c) refl (λ l. opens_same (is_if k) (positions k) cs l (slots_of c k cs a))
    where
      at : (b : Bool) → shut c ≡ b → (last_one (positions k) ≡ true → last_open (is_if k) (lays k cs) ≡ last_open (is_if k) (bares k cs)) → Same open_if (node k cs)
      at true p f = closed false c (node k cs) p a ∙ sym (closed true c (node k cs) p a)
      at false n f = firm_by open_if c k cs (firm_where c n) a.may (same_end (trails (production k)) (last_one (positions k)) (is_if k) (lays k cs) (bares k cs) (row_facts k).one_end f)

  opens_same : (i : Bool) (ss : List Position) (cs : Forest) → last_one ss ≡ true → loose_slots ss cs ≡ true → last_open i (mades laid_node ss cs) ≡ last_open i (mades bare_node ss cs)
  opens_same i [] none l h = refl
  opens_same i [] (part t ts) l h = absurd (false≢true h)
  opens_same i (s ∷ ss) none l h = absurd (false≢true h)
  opens_same i (position Single c g b a ∷ []) (part t none) l h =
      let at = first_at c t true h in
      ap (λ d. (i && not d) || open_if (laid_tree t)) (here_same c t at) ∙ ap (λ d. (i && not (is_here (bare t))) || d) (open_same c t at)
  opens_same i (position Maybe c g b a ∷ []) (part (list us) none) l h =
      ap (λ d. (i && not d) || open_if (list (each_made laid_node us))) (here_list us)
      ∙ ap (λ d. (i && not (is_here (list (each_made bare_node us)))) || d) (opens_each c us (each_at (at_most_one us) (loose_each c us) true h))
  opens_same i (position Maybe c g b a ∷ []) (part (leaf s x) none) l h = absurd (false≢true h)
  opens_same i (position Maybe c g b a ∷ []) (part (node k cs) none) l h = absurd (false≢true h)
  opens_same i (position (Several s) c g b a ∷ []) (part t none) l h = absurd (false≢true l)
  opens_same i (position f c g b a ∷ []) (part t (part u us)) l h = no_more (may_shape f c t) (loose c t) h
  opens_same i (position f c g b a ∷ q ∷ ss) (part t none) l h = no_more (may_shape f c t) (loose c t) h
  opens_same i (position f c g b a ∷ position f' c' g' b' a' ∷ ss) (part t (part u us)) l h = opens_same i (position f' c' g' b' a' ∷ ss) (part u us) l (rest_at (may_shape f c t) (loose c t) _ h)

  opens_each : (c : Nonterminal) (ts : Forest) → loose_each c ts ≡ true → last_open false (each_made laid_node ts) ≡ last_open false (each_made bare_node ts)
  opens_each c none h = refl
  opens_each c (part t none) h = open_same c t (one_of c t none h)
  opens_each c (part t (part u us)) h = opens_each c (part u us) (rest_of c t (part u us) h)
