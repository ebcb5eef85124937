-- A tree whose parts are at home as they are laid is loose: each part may stand where it does.
use Rattle.std.proofs.Common.{◌≡◌, List, [], ◌∷◌, true, false, refl, ⊎_elim}
use Rattle.std.proofs.lemmas.Bool.{and_parts, and_from, or_cases, or_left, or_right, both_ways, false≢true, not-true}
use Rattle.std.specs.Prelude.{not, ◌&&◌, ◌||◌}
use Rattle.jsx_base.specs.Token.{Text, TokenKind, IdentifierName, JsxName, NoSubstitution, TemplateHead, TemplateMiddle, TemplateTail}
use Rattle.jsx_tree.specs.Kinds.{Binds, Assigns, Imported, Exported, From, Kind, expression, New, BareArrow, BareArrowBlock, Arrow, ArrowBlock, NewWithoutArguments, Tree, leaf, node, list, Forest, none, part}
use Rattle.jsx_tree.specs.Nonterminals.{Nonterminal, ForOfHead, TemplatePart, TemplateSpans, Specifiers, Pat, PatElement, PatProp, Slot, in_homes, homes, object, leaf_in, is_bound}
use Rattle.jsx_tree.specs.Normal.{laid_node}
use Rattle.jsx_tree.specs.Form.{Single, Maybe, Several, Position, position, positions, at_most_one, enough, last_only, admits}
use Rattle.jsx_tree.specs.Parentheses.{asks}
use Rattle.jsx_tree.specs.Sound.{lax, may_stand, is_no_jsx, loose, loose_slots, loose_each}
use Rattle.jsx_tree.proofs.Parentheses.FirstPass.{home, fine, fine_slots, fine_each}
use Rattle.jsx_tree.proofs.Parentheses.Laying.{admits_in}

lax_home : (c : Nonterminal) (ds : List Nonterminal) → in_homes c ds ≡ true → in_homes (lax c) ds ≡ true
lax_home ForOfHead ds h = h
lax_home _ ds h = h

lax_leaf : (c : Nonterminal) (s : TokenKind) (x : Text) → leaf_in c s x ≡ true → leaf_in (lax c) s x ≡ true
lax_leaf ForOfHead IdentifierName x h = (and_parts (is_bound x) _ h).0
lax_leaf ForOfHead JsxName x h = h
lax_leaf ForOfHead s x h = h
lax_leaf _ s x h = h

-- only places of expressions take a `new F()`
new_places : (c : Nonterminal) → (asks c || not (in_homes c object)) ≡ true
new_places (TemplatePart NoSubstitution) = refl
new_places (TemplatePart TemplateHead) = refl
new_places (TemplatePart TemplateMiddle) = refl
new_places (TemplatePart TemplateTail) = refl
new_places (TemplatePart s) = refl
new_places (Pat Binds) = refl
new_places (Pat Assigns) = refl
new_places (Slot Binds) = refl
new_places (Slot Assigns) = refl
new_places (PatProp Binds) = refl
new_places (PatProp Assigns) = refl
new_places (PatElement Binds) = refl
new_places (PatElement Assigns) = refl
new_places (TemplateSpans true) = refl
new_places (TemplateSpans false) = refl
new_places (Specifiers Imported) = refl
new_places (Specifiers Exported) = refl
new_places (Specifiers From) = refl
new_places _ = refl

new_asks : (c : Nonterminal) → in_homes c object ≡ true → asks c ≡ true
new_asks c h = ⊎_elim (λ p. p) (λ p. absurd (both_ways (in_homes c object) (not-true (in_homes c object) p) h)) (or_cases (asks c) (not (in_homes c object)) (new_places c))

may_node : (c : Nonterminal) (k : Kind) (cs : Forest) → admits c (laid_node k cs) ≡ true → may_stand c (node k cs) ≡ true
may_node c (expression BareArrow) (part a b) h = or_right _ _ (lax_home c (homes (expression Arrow)) (admits_in c (expression Arrow) _ h))
may_node c (expression BareArrow) none h = or_right _ _ (lax_home c (homes (expression BareArrow)) (admits_in c (expression BareArrow) _ h))
may_node c (expression BareArrowBlock) (part a b) h = or_right _ _ (lax_home c (homes (expression ArrowBlock)) (admits_in c (expression ArrowBlock) _ h))
may_node c (expression BareArrowBlock) none h = or_right _ _ (lax_home c (homes (expression BareArrowBlock)) (admits_in c (expression BareArrowBlock) _ h))
may_node c (expression NewWithoutArguments) (part a none) h = or_left _ _ (and_from _ _ (new_asks c (admits_in c (expression New) _ h)) refl)
may_node c (expression NewWithoutArguments) (part a (part b bs)) h = or_right _ _ (lax_home c (homes (expression NewWithoutArguments)) (admits_in c (expression NewWithoutArguments) _ h))
may_node c (expression NewWithoutArguments) none h = or_right _ _ (lax_home c (homes (expression NewWithoutArguments)) (admits_in c (expression NewWithoutArguments) none h))
may_node c k cs h = or_right _ _ (lax_home c (homes k) (admits_in c k cs h))

pub may_of : (c : Nonterminal) (t : Tree) → home false c t ≡ true → may_stand c t ≡ true
may_of c (leaf s x) h = or_right _ _ (lax_leaf c s x h)
may_of c (node k cs) h = may_node c k cs h
may_of c (list ts) h = absurd (false≢true h)

mutual
  pub loose_of : (c : Nonterminal) (t : Tree) → fine false c t ≡ true → loose c t ≡ true
  loose_of c (leaf s x) f = f
  loose_of c (list ts) f = each_loose c ts f
  loose_of c (node k cs) f = let p = and_parts (is_no_jsx k) (fine_slots false (positions k) cs) f in and_from _ _ p.0 (slots_loose (positions k) cs p.1)

  slots_loose : (ss : List Position) (cs : Forest) → fine_slots false ss cs ≡ true → loose_slots ss cs ≡ true
  slots_loose [] none f = refl
  slots_loose [] (part t ts) f = absurd (false≢true f)
  slots_loose (s ∷ ss) none f = absurd (false≢true f)
  slots_loose (position Single c g b a ∷ ss) (part t ts) f =
      let x = and_parts (home false c t) (fine false c t && fine_slots false ss ts) f in
      let y = and_parts (fine false c t) (fine_slots false ss ts) x.1 in
      and_from _ _ (may_of c t x.0) (and_from _ _ (loose_of c t y.0) (slots_loose ss ts y.1))
  slots_loose (position Maybe c g b a ∷ ss) (part (list us) ts) f =
      let x = and_parts (at_most_one us) (fine_each false c us && fine_slots false ss ts) f in
      let y = and_parts (fine_each false c us) (fine_slots false ss ts) x.1 in
      and_from _ _ x.0 (and_from _ _ (each_loose c us y.0) (slots_loose ss ts y.1))
  slots_loose (position (Several s) c g b a ∷ ss) (part (list us) ts) f =
      let x = and_parts (enough s us && last_only us) (fine_each false c us && fine_slots false ss ts) f in
      let y = and_parts (fine_each false c us) (fine_slots false ss ts) x.1 in
      and_from _ _ x.0 (and_from _ _ (each_loose c us y.0) (slots_loose ss ts y.1))
  slots_loose (position Maybe c g b a ∷ ss) (part (leaf s t) ts) f = absurd (false≢true f)
  slots_loose (position Maybe c g b a ∷ ss) (part (node k cs) ts) f = absurd (false≢true f)
  slots_loose (position (Several s) c g b a ∷ ss) (part (leaf s' t) ts) f = absurd (false≢true f)
  slots_loose (position (Several s) c g b a ∷ ss) (part (node k cs) ts) f = absurd (false≢true f)

  each_loose : (c : Nonterminal) (ts : Forest) → fine_each false c ts ≡ true → loose_each c ts ≡ true
  each_loose c none f = refl
  each_loose c (part t ts) f =
      let x = and_parts (home false c t) (fine false c t && fine_each false c ts) f in
      let y = and_parts (fine false c t) (fine_each false c ts) x.1 in
      and_from _ _ (may_of c t x.0) (and_from _ _ (loose_of c t y.0) (each_loose c ts y.1))
