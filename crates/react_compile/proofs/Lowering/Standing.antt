-- What is lowered stands for its source: each node for itself, in normal form, and each call for its element.
use Rattle.std.proofs.Common.{◌≡◌, List, [], ◌∷◌, Bool, true, false, cond, Some, refl, sym, ap, ◌∙◌, subst}
use Rattle.std.proofs.lemmas.Bool.{and_parts, true≢false, false≢true}
use Rattle.std.specs.Prelude.{codes, not, ◌&&◌, ◌||◌}
use Rattle.jsx_base.specs.Token.{Text, IdentifierName, StringLiteral, JsxName, same, first_is}
use Rattle.jsx_tree.specs.Kinds.{Binds, Assigns, Role, Kind, program, statement, function, expression, jsx, Empty, SpecifierAs, Specifier, ComputedKey, ObjectPat, PropertyPat, ShorthandPat, ShorthandInit, WithInit, ParenTarget, Arrow, ArrowBlock, BareArrow, BareArrowBlock, New, NewWithoutArguments, Object, Property, Shorthand, Parenthesized, Element, Tree, leaf, node, list, Forest, none, part}
use Rattle.jsx_tree.specs.Nonterminals.{Nonterminal, Expr, SimpleTarget, BindingIdent, Ident, NewCallee, ObjectMember, PatProp, WholeProgram, has_dash}
use Rattle.jsx_tree.specs.Grammar.{only}
use Rattle.jsx_tree.specs.Normal.{long_prop, long_pat, each, is_empty, unless_empty, without_empty, plain_node, mades, each_made, remades, nf, without_parentheses}
use Rattle.jsx_tree.specs.Form.{Single, Maybe, Several, Position, position, positions, at_most_one, enough, last_only, admits, fits_below, fit_slots, fit_each, is}
use Rattle.jsx_tree.specs.StaticRules.{is_word}
use Rattle.jsx_tree.specs.Sound.{each_nodes}
use Rattle.jsx_tree.proofs.Parentheses.Bare.{turns, firm, no_turn}
use Rattle.jsx_tree.proofs.Parentheses.Unwrapped.{unwrapped_nf}
use Rattle.react_compile.specs.Made.{quoted}
use Rattle.react_compile.specs.Element as element
use Rattle.react_compile.specs.Element.{is_lower, default_settings, expr, text}
use Rattle.react_compile.specs.StandsFor.{StandsFor, same_leaf, same_list, same_node, lowered as by_call, InOrder, no_more, next_stands, makes, expression_for, literal_for, no_entries, no_children}
use Rattle.react_compile.specs.Lowering.{is_string_tag, element_call, name, lower_node, lower, is_lowerable, can_lower}
use Rattle.react_compile.proofs.Tests.{cond_true, cond_false}
use Rattle.react_compile.proofs.Lowering.Types.{with_type, TagCase, as_string, as_name, tag_case}
use Rattle.react_compile.proofs.Lowering.Calls.{swapped}

-- ---- an element for its call

string_type : (t : Text) → is_string_tag t ≡ true → element.tag_type t ≡ text t
string_type t h = go (same t (codes "this")) (first_is is_lower t || has_dash t) h
  where
    go : (b d : Bool) → (not b && d) ≡ true → cond b (expr (leaf IdentifierName t)) (cond d (text t) (expr (leaf IdentifierName t))) ≡ text t
    go true d e = cc
    go false true e = refl
    go false false e = cc

reference_type : (t : Text) → is_string_tag t ≡ false → element.tag_type t ≡ expr (leaf IdentifierName t)
reference_type t h = go (same t (codes "this")) (first_is is_lower t || has_dash t) h
  where
    go : (b d : Bool) → (not b && d) ≡ false → cond b (expr (leaf IdentifierName t)) (cond d (text t) (expr (leaf IdentifierName t))) ≡ expr (leaf IdentifierName t)
    go true d e = refl
    go false true e = cc
    go false false e = refl

abbrev element_of : Text → Tree
element_of t = node (jsx Element) (part (leaf JsxName t) (part (list none) none))

stands_element : (t : Text) → StandsFor default_settings (element_of t) (nf (element_call t)) []
stands_element t = go (tag_case t)
  where
    go : TagCase t → StandsFor default_settings (element_of t) (nf (element_call t)) []
    go (as_string h) =
        subst (λ y. StandsFor default_settings (element_of t) (nf (with_type y)) []) (sym (cond_true (is_string_tag t) (leaf StringLiteral (quoted t)) (name t) h))
        (by_call (ap (λ p. Some (element.bare_element p)) (string_type t h)) refl (makes (literal_for t) no_entries no_children refl refl refl refl refl refl refl))
    go (as_name h) =
        subst (λ y. StandsFor default_settings (element_of t) (nf (with_type y)) []) (sym (cond_false (is_string_tag t) (leaf StringLiteral (quoted t)) (name t) h))
        (by_call (ap (λ p. Some (element.bare_element p)) (reference_type t h)) refl (makes (expression_for (same_leaf IdentifierName t)) no_entries no_children refl refl refl refl refl refl refl))

-- ---- empty statements, which the normal form drops from lists

abbrev is_pair : Kind → Bool
is_pair (expression Parenthesized) = true
is_pair (function ParenTarget) = true
is_pair k = false

empty_plain : (k : Kind) (ds es : Forest) → is_pair k ≡ false → is_empty (plain_node k ds) ≡ is_empty (node k es)
empty_plain (expression Parenthesized) ds es p = absurd (true≢false p)
empty_plain (function ParenTarget) ds es p = absurd (true≢false p)
empty_plain (expression Object) (part (list ts) none) es p = refl
empty_plain (function (ObjectPat r)) (part (list ts) none) es p = refl
empty_plain (program (Specifier s)) (part a none) es p = refl
empty_plain (expression BareArrow) (part a b) es p = refl
empty_plain (expression BareArrowBlock) (part a b) es p = refl
empty_plain (expression NewWithoutArguments) (part a none) es p = refl
empty_plain (statement Empty) ds es p = refl
empty_plain k ds es p = refl

empty_as : (k : Kind) (ds es : Forest) → is_pair k ≡ false → is_empty (plain_node k ds) ≡ is_empty (plain_node k es)
empty_as k ds es p = empty_plain k ds none p ∙ sym (empty_plain k es none p)

mutual
  empties_same : (t : Tree) → can_lower t ≡ true → is_empty (nf (lower t)) ≡ is_empty (nf t)
  empties_same (leaf s x) o = refl
  empties_same (list ts) o = refl
  empties_same (node k cs) o = let p = and_parts (is_lowerable k cs) (each_nodes is_lowerable cs) o in node_empty k cs p.0 p.1

  node_empty : (k : Kind) (cs : Forest) → is_lowerable k cs ≡ true → each_nodes is_lowerable cs ≡ true → is_empty (nf (lower_node k (remades lower_node cs))) ≡ is_empty (nf (node k cs))
  node_empty (expression Parenthesized) (part e none) o l = empties_same e (and_parts (can_lower e) true l).0
  node_empty (expression Parenthesized) none o l = refl
  node_empty (expression Parenthesized) (part e (part x xs)) o l = refl
  node_empty (function ParenTarget) (part e none) o l = empties_same e (and_parts (can_lower e) true l).0
  node_empty (function ParenTarget) none o l = refl
  node_empty (function ParenTarget) (part e (part x xs)) o l = refl
  node_empty (jsx Element) (part (leaf JsxName t) (part (list none) none)) o l = refl
  node_empty (jsx j) cs o l = absurd (false≢true o)
  node_empty k cs o l = empty_as k (mades plain_node (positions k) (remades lower_node cs)) (mades plain_node (positions k) cs) refl

drop_order : {t u : Tree} {ts us : Forest} (b d : Bool) → d ≡ b → StandsFor default_settings t u [] → InOrder default_settings ts us [] → InOrder default_settings (unless_empty b t ts) (unless_empty d u us) []
drop_order true true e s h = h
drop_order false false e s h = next_stands s h
drop_order true false e s h = absurd (true≢false (sym e))
drop_order false true e s h = absurd (true≢false e)

drop_each : (f : Tree → Tree) (t u : Tree) (ts us : Forest) (b d : Bool) → d ≡ b → StandsFor default_settings (f t) (f u) [] → InOrder default_settings (each f ts) (each f us) [] → InOrder default_settings (each f (unless_empty b t ts)) (each f (unless_empty d u us)) []
drop_each f t u ts us true true e s h = h
drop_each f t u ts us false false e s h = next_stands s h
drop_each f t u ts us true false e s h = absurd (true≢false (sym e))
drop_each f t u ts us false true e s h = absurd (true≢false e)

-- ---- shorthands, which the normal form writes out

key_same : (b : Bool) (x : Text) → let k : Tree = cond b (node (function ComputedKey) (part (leaf StringLiteral (codes "\"__proto__\"")) none)) (leaf IdentifierName x) in StandsFor default_settings k k []
key_same true x = same_node (function ComputedKey) refl (next_stands (same_leaf StringLiteral (codes "\"__proto__\"")) no_more)
key_same false x = same_leaf IdentifierName x

word_plain : (k : Kind) (ds : Forest) → turns k ≡ false → is_word (plain_node k ds) ≡ false
word_plain (expression Parenthesized) ds p = absurd (true≢false p)
word_plain (function ParenTarget) ds p = absurd (true≢false p)
word_plain (expression Object) (part (list ts) none) p = refl
word_plain (function (ObjectPat r)) (part (list ts) none) p = refl
word_plain (program (Specifier s)) (part a none) p = refl
word_plain (expression BareArrow) ds p = absurd (true≢false p)
word_plain (expression BareArrowBlock) ds p = absurd (true≢false p)
word_plain (expression NewWithoutArguments) ds p = absurd (true≢false p)
word_plain k ds p = refl

word_lowered : (k : Kind) (ds : Forest) → turns k ≡ false → is_word (nf (lower_node k ds)) ≡ false
word_lowered (jsx Element) (part (leaf JsxName t) as') p = refl
word_lowered k ds p = word_plain k (mades plain_node (positions k) ds) p

-- of no name a shorthand stays as it is
short_other : (u : Tree) → is_word u ≡ false → long_prop (node (expression Shorthand) (part u none)) ≡ node (expression Shorthand) (part u none)
short_other (leaf IdentifierName x) h = absurd (true≢false h)
short_other (leaf s x) h = refl
short_other (node k cs) h = refl
short_other (list ts) h = refl

abbrev is_short : Kind → Bool
is_short (expression Shorthand) = true
is_short k = false

prop_same : (k : Kind) (ds : Forest) → turns k ≡ false → is_short k ≡ false → long_prop (plain_node k ds) ≡ plain_node k ds
prop_same (expression Parenthesized) ds p n = absurd (true≢false p)
prop_same (function ParenTarget) ds p n = absurd (true≢false p)
prop_same (expression BareArrow) ds p n = absurd (true≢false p)
prop_same (expression BareArrowBlock) ds p n = absurd (true≢false p)
prop_same (expression NewWithoutArguments) ds p n = absurd (true≢false p)
prop_same (expression Shorthand) ds p n = absurd (true≢false n)
prop_same (expression Object) (part (list ts) none) p n = refl
prop_same (function (ObjectPat r)) (part (list ts) none) p n = refl
prop_same (program (Specifier s)) (part a none) p n = refl
prop_same k ds p n = refl

abbrev is_short_pat : Kind → Bool
is_short_pat (function (ShorthandPat q)) = true
is_short_pat (function (ShorthandInit q)) = true
is_short_pat k = false

pat_same : (r : Role) (k : Kind) (ds : Forest) → turns k ≡ false → is_short_pat k ≡ false → long_pat r (plain_node k ds) ≡ plain_node k ds
pat_same r (expression Parenthesized) ds p n = absurd (true≢false p)
pat_same r (function ParenTarget) ds p n = absurd (true≢false p)
pat_same r (expression BareArrow) ds p n = absurd (true≢false p)
pat_same r (expression BareArrowBlock) ds p n = absurd (true≢false p)
pat_same r (expression NewWithoutArguments) ds p n = absurd (true≢false p)
pat_same r (function (ShorthandPat q)) ds p n = absurd (true≢false n)
pat_same r (function (ShorthandInit q)) ds p n = absurd (true≢false n)
pat_same r (expression Object) (part (list ts) none) p n = refl
pat_same r (function (ObjectPat q)) (part (list ts) none) p n = refl
pat_same r (program (Specifier s)) (part a none) p n = refl
pat_same r k ds p n = refl

firm_pat : (r : Role) → firm (PatProp r) ≡ true
firm_pat Binds = refl
firm_pat Assigns = refl

-- what stays as it is under a map stands as it did
mapped : (f : Tree → Tree) (t u : Tree) → f t ≡ t → f u ≡ u → StandsFor default_settings t u [] → StandsFor default_settings (f t) (f u) []
mapped f t u p q s = subst (λ x. StandsFor default_settings x (f u) []) (sym p) (subst (λ x. StandsFor default_settings t x []) (sym q) s)

-- ---- all trees

-- what stands at a place has its form, and is lowered
record Here (c : Nonterminal) (t : Tree) : Type 0 where
  pub home : admits c t ≡ true
  pub below : fits_below c t ≡ true
  pub taken : can_lower t ≡ true

first_here : (c : Nonterminal) (t : Tree) (ts : Forest) (rest : Bool) → (admits c t && (fits_below c t && rest)) ≡ true → each_nodes is_lowerable (part t ts) ≡ true → Here c t
first_here c t ts rest f l =
    let p = and_parts (admits c t) (fits_below c t && rest) f in
    record { home = p.0; below = (and_parts (fits_below c t) rest p.1).0; taken = (and_parts (can_lower t) (each_nodes is_lowerable ts) l).0 }

rest_fits : (a b rest : Bool) → (a && (b && rest)) ≡ true → rest ≡ true
rest_fits a b rest f = (and_parts b rest (and_parts a (b && rest) f).1).1

rest_taken : (t : Tree) (ts : Forest) → each_nodes is_lowerable (part t ts) ≡ true → each_nodes is_lowerable ts ≡ true
rest_taken t ts l = (and_parts (can_lower t) (each_nodes is_lowerable ts) l).1

abbrev rest : List Position → List Position
rest [] = []
rest (s ∷ ss) = ss

mutual
  stands : (c : Nonterminal) (t : Tree) → Here c t → StandsFor default_settings (nf t) (nf (lower t)) []
  stands c (leaf s x) h = same_leaf s x
  stands c (list ts) h = absurd (false≢true h.home)
  stands c (node k cs) h = let p = and_parts (is_lowerable k cs) (each_nodes is_lowerable cs) h.taken in node_stands k cs h.below p.0 p.1 (slots_stand (positions k) cs h.below p.1)

  node_stands : (k : Kind) (cs : Forest) → fit_slots (positions k) cs ≡ true → is_lowerable k cs ≡ true → each_nodes is_lowerable cs ≡ true → InOrder default_settings (mades plain_node (positions k) cs) (mades plain_node (positions k) (remades lower_node cs)) [] → StandsFor default_settings (nf (node k cs)) (nf (lower_node k (remades lower_node cs))) []
  node_stands (expression Parenthesized) (part e none) f o l p = stands (Expr 0) e (first_here (Expr 0) e none true f l)
  node_stands (function ParenTarget) (part e none) f o l p = stands SimpleTarget e (first_here SimpleTarget e none true f l)
  node_stands (expression Object) (part (list ts) none) f o l p =
      same_node (expression Object) refl (next_stands (same_list (props_stand ts (and_parts (fit_each ObjectMember ts) true (and_parts (last_only ts) (fit_each ObjectMember ts && true) f).1).0 (and_parts (each_nodes is_lowerable ts) true l).0)) no_more)
  node_stands (expression Object) (part (leaf s x) us) f o l p = absurd (false≢true f)
  node_stands (expression Object) (part (node k cs) us) f o l p = absurd (false≢true f)
  node_stands (function (ObjectPat r)) (part (list ts) none) f o l p =
      same_node (function (ObjectPat r)) refl (next_stands (same_list (pats_stand r ts (and_parts (fit_each (PatProp r) ts) true (and_parts (last_only ts) (fit_each (PatProp r) ts && true) f).1).0 (and_parts (each_nodes is_lowerable ts) true l).0)) no_more)
  node_stands (function (ObjectPat r)) (part (leaf s x) us) f o l p = absurd (false≢true f)
  node_stands (function (ObjectPat r)) (part (node k cs) us) f o l p = absurd (false≢true f)
  node_stands (program (Specifier s)) (part a none) f o l p =
      let h = stands (only s) a (first_here (only s) a none true f l) in same_node (program (SpecifierAs s)) refl (next_stands h (next_stands h no_more))
  node_stands (expression BareArrow) (part a es) f o l p =
      same_node (expression Arrow) refl
      (next_stands (same_list (next_stands (stands BindingIdent a (first_here BindingIdent a es (fit_slots (rest (positions (expression BareArrow))) es) f l)) no_more))
      (slots_stand (rest (positions (expression BareArrow))) es (rest_fits (admits BindingIdent a) (fits_below BindingIdent a) (fit_slots (rest (positions (expression BareArrow))) es) f) (rest_taken a es l)))
  node_stands (expression BareArrowBlock) (part a es) f o l p =
      same_node (expression ArrowBlock) refl
      (next_stands (same_list (next_stands (stands BindingIdent a (first_here BindingIdent a es (fit_slots (rest (positions (expression BareArrowBlock))) es) f l)) no_more))
      (slots_stand (rest (positions (expression BareArrowBlock))) es (rest_fits (admits BindingIdent a) (fits_below BindingIdent a) (fit_slots (rest (positions (expression BareArrowBlock))) es) f) (rest_taken a es l)))
  node_stands (expression NewWithoutArguments) (part a none) f o l p = same_node (expression New) refl (next_stands (stands NewCallee a (first_here NewCallee a none true f l)) (next_stands (same_list no_more) no_more))
  node_stands (jsx Element) (part (leaf JsxName t) (part (list none) none)) f o l p = stands_element t
  node_stands (jsx j) cs f o l p = absurd (false≢true o)
  node_stands k cs f o l p = same_node k refl p

  slots_stand : (ss : List Position) (cs : Forest) → fit_slots ss cs ≡ true → each_nodes is_lowerable cs ≡ true → InOrder default_settings (mades plain_node ss cs) (mades plain_node ss (remades lower_node cs)) []
  slots_stand [] none f l = no_more
  slots_stand [] (part t ts) f l = absurd (false≢true f)
  slots_stand (s ∷ ss) none f l = absurd (false≢true f)
  slots_stand (position Single c g b a ∷ ss) (part t ts) f l =
      next_stands (stands c t (first_here c t ts (fit_slots ss ts) f l)) (slots_stand ss ts (rest_fits (admits c t) (fits_below c t) (fit_slots ss ts) f) (rest_taken t ts l))
  slots_stand (position Maybe c g b a ∷ ss) (part (list us) ts) f l =
      let p = and_parts (fit_each c us) (fit_slots ss ts) (and_parts (at_most_one us) (fit_each c us && fit_slots ss ts) f).1 in
      let q = and_parts (each_nodes is_lowerable us) (each_nodes is_lowerable ts) l in
      next_stands (same_list (each_stand c us p.0 q.0)) (slots_stand ss ts p.1 q.1)
  slots_stand (position (Several s) c g b a ∷ ss) (part (list us) ts) f l =
      let p = and_parts (fit_each c us) (fit_slots ss ts) (and_parts (enough s us && last_only us) (fit_each c us && fit_slots ss ts) f).1 in
      let q = and_parts (each_nodes is_lowerable us) (each_nodes is_lowerable ts) l in
      next_stands (same_list (items_stand c us p.0 q.0)) (slots_stand ss ts p.1 q.1)
  slots_stand (position Maybe c g b a ∷ ss) (part (leaf s x) ts) f l = absurd (false≢true f)
  slots_stand (position Maybe c g b a ∷ ss) (part (node k cs) ts) f l = absurd (false≢true f)
  slots_stand (position (Several s') c g b a ∷ ss) (part (leaf s x) ts) f l = absurd (false≢true f)
  slots_stand (position (Several s') c g b a ∷ ss) (part (node k cs) ts) f l = absurd (false≢true f)

  each_stand : (c : Nonterminal) (ts : Forest) → fit_each c ts ≡ true → each_nodes is_lowerable ts ≡ true → InOrder default_settings (each_made plain_node ts) (each_made plain_node (remades lower_node ts)) []
  each_stand c none f l = no_more
  each_stand c (part t ts) f l = next_stands (stands c t (first_here c t ts (fit_each c ts) f l)) (each_stand c ts (rest_fits (admits c t) (fits_below c t) (fit_each c ts) f) (rest_taken t ts l))

  items_stand : (c : Nonterminal) (ts : Forest) → fit_each c ts ≡ true → each_nodes is_lowerable ts ≡ true → InOrder default_settings (without_empty (each_made plain_node ts)) (without_empty (each_made plain_node (remades lower_node ts))) []
  items_stand c none f l = no_more
  items_stand c (part t ts) f l =
      let h = first_here c t ts (fit_each c ts) f l in
      drop_order (is_empty (nf t)) (is_empty (nf (lower t))) (empties_same t h.taken) (stands c t h) (items_stand c ts (rest_fits (admits c t) (fits_below c t) (fit_each c ts) f) (rest_taken t ts l))

  props_stand : (ts : Forest) → fit_each ObjectMember ts ≡ true → each_nodes is_lowerable ts ≡ true → InOrder default_settings (each long_prop (without_empty (each_made plain_node ts))) (each long_prop (without_empty (each_made plain_node (remades lower_node ts)))) []
  props_stand none f l = no_more
  props_stand (part t ts) f l =
      let h = first_here ObjectMember t ts (fit_each ObjectMember ts) f l in
      drop_each long_prop (nf t) (nf (lower t)) (without_empty (each_made plain_node ts)) (without_empty (each_made plain_node (remades lower_node ts))) (is_empty (nf t)) (is_empty (nf (lower t))) (empties_same t h.taken) (prop_stands t h) (props_stand ts (rest_fits (admits ObjectMember t) (fits_below ObjectMember t) (fit_each ObjectMember ts) f) (rest_taken t ts l))

  prop_stands : (t : Tree) → Here ObjectMember t → StandsFor default_settings (long_prop (nf t)) (long_prop (nf (lower t))) []
  prop_stands (leaf s x) h = same_leaf s x
  prop_stands (list ts) h = absurd (false≢true h.home)
  prop_stands (node (expression Shorthand) cs) h = short_stands cs h.below h.taken
  prop_stands (node (jsx Element) (part (leaf JsxName t) (part (list none) none))) h = stands_element t
  prop_stands (node (jsx j) cs) h = absurd (false≢true h.taken)
  prop_stands (node k cs) h =
      let p = no_turn ObjectMember k cs refl h.home in
      let s = and_parts (is_lowerable k cs) (each_nodes is_lowerable cs) h.taken in
      mapped long_prop (nf (node k cs)) (nf (node k (remades lower_node cs))) (prop_same k (mades plain_node (positions k) cs) p refl) (prop_same k (mades plain_node (positions k) (remades lower_node cs)) p refl)
      (node_stands k cs h.below s.0 s.1 (slots_stand (positions k) cs h.below s.1))

  short_stands : (cs : Forest) → fit_slots (positions (expression Shorthand)) cs ≡ true → each_nodes is_lowerable cs ≡ true → StandsFor default_settings (long_prop (nf (node (expression Shorthand) cs))) (long_prop (nf (node (expression Shorthand) (remades lower_node cs)))) []
  short_stands none f l = absurd (false≢true f)
  short_stands (part (leaf IdentifierName x) none) f l = same_node (expression Property) refl (next_stands (key_same (same x (codes "__proto__")) x) (next_stands (same_leaf IdentifierName x) no_more))
  short_stands (part (leaf s x) none) f l = same_node (expression Shorthand) refl (next_stands (same_leaf s x) no_more)
  short_stands (part (list ts) none) f l = absurd (false≢true f)
  short_stands (part (node k cs) none) f l =
      let h = first_here Ident (node k cs) none true f l in
      let p = no_turn Ident k cs refl h.home in
      let s = and_parts (is_lowerable k cs) (each_nodes is_lowerable cs) h.taken in
      mapped long_prop (node (expression Shorthand) (part (nf (node k cs)) none)) (node (expression Shorthand) (part (nf (lower (node k cs))) none))
      (short_other (nf (node k cs)) (word_plain k (mades plain_node (positions k) cs) p)) (short_other (nf (lower (node k cs))) (word_lowered k (remades lower_node cs) p))
      (same_node (expression Shorthand) refl (next_stands (node_stands k cs h.below s.0 s.1 (slots_stand (positions k) cs h.below s.1)) no_more))
  short_stands (part a (part b bs)) f l = absurd (false≢true (rest_fits (admits Ident a) (fits_below Ident a) false f))

  pats_stand : (r : Role) (ts : Forest) → fit_each (PatProp r) ts ≡ true → each_nodes is_lowerable ts ≡ true → InOrder default_settings (each (long_pat r) (without_empty (each_made plain_node ts))) (each (long_pat r) (without_empty (each_made plain_node (remades lower_node ts)))) []
  pats_stand r none f l = no_more
  pats_stand r (part t ts) f l =
      let h = first_here (PatProp r) t ts (fit_each (PatProp r) ts) f l in
      drop_each (long_pat r) (nf t) (nf (lower t)) (without_empty (each_made plain_node ts)) (without_empty (each_made plain_node (remades lower_node ts))) (is_empty (nf t)) (is_empty (nf (lower t))) (empties_same t h.taken) (pat_stands r t h) (pats_stand r ts (rest_fits (admits (PatProp r) t) (fits_below (PatProp r) t) (fit_each (PatProp r) ts) f) (rest_taken t ts l))

  pat_stands : (r : Role) (t : Tree) → Here (PatProp r) t → StandsFor default_settings (long_pat r (nf t)) (long_pat r (nf (lower t))) []
  pat_stands r (leaf s x) h = same_leaf s x
  pat_stands r (list ts) h = absurd (false≢true h.home)
  pat_stands r (node (function (ShorthandPat q)) (part a none)) h =
      let s = stands BindingIdent a (first_here BindingIdent a none true h.below h.taken) in same_node (function (PropertyPat r)) refl (next_stands s (next_stands s no_more))
  pat_stands r (node (function (ShorthandPat q)) none) h = absurd (false≢true h.below)
  pat_stands r (node (function (ShorthandPat q)) (part a (part b bs))) h = absurd (false≢true (rest_fits (admits BindingIdent a) (fits_below BindingIdent a) false h.below))
  pat_stands r (node (function (ShorthandInit q)) (part a (part e none))) h =
      let s = stands BindingIdent a (first_here BindingIdent a (part e none) (admits (Expr 1) e && (fits_below (Expr 1) e && true)) h.below h.taken) in
      let v = stands (Expr 1) e (first_here (Expr 1) e none true (rest_fits (admits BindingIdent a) (fits_below BindingIdent a) (admits (Expr 1) e && (fits_below (Expr 1) e && true)) h.below) (rest_taken a (part e none) h.taken)) in
      same_node (function (PropertyPat r)) refl (next_stands s (next_stands (same_node (function (WithInit r)) refl (next_stands s (next_stands v no_more))) no_more))
  pat_stands r (node (function (ShorthandInit q)) none) h = absurd (false≢true h.below)
  pat_stands r (node (function (ShorthandInit q)) (part a none)) h = absurd (false≢true (rest_fits (admits BindingIdent a) (fits_below BindingIdent a) false h.below))
  pat_stands r (node (function (ShorthandInit q)) (part a (part e (part b bs)))) h =
      absurd (false≢true (rest_fits (admits (Expr 1) e) (fits_below (Expr 1) e) false (rest_fits (admits BindingIdent a) (fits_below BindingIdent a) (admits (Expr 1) e && (fits_below (Expr 1) e && false)) h.below)))
  pat_stands r (node (jsx Element) (part (leaf JsxName t) (part (list none) none))) h = stands_element t
  pat_stands r (node (jsx j) cs) h = absurd (false≢true h.taken)
  pat_stands r (node k cs) h =
      let p = no_turn (PatProp r) k cs (firm_pat r) h.home in
      let s = and_parts (is_lowerable k cs) (each_nodes is_lowerable cs) h.taken in
      mapped (long_pat r) (nf (node k cs)) (nf (node k (remades lower_node cs))) (pat_same r k (mades plain_node (positions k) cs) p refl) (pat_same r k (mades plain_node (positions k) (remades lower_node cs)) p refl)
      (node_stands k cs h.below s.0 s.1 (slots_stand (positions k) cs h.below s.1))

-- ---- the law

pub lowered_stands : (t : Tree) → is WholeProgram t ≡ true → can_lower t ≡ true → StandsFor default_settings (nf t) (nf (lower (without_parentheses t))) []
lowered_stands t f o =
    let p = and_parts (admits WholeProgram t) (fits_below WholeProgram t) f in
    subst (λ u. StandsFor default_settings (nf t) u []) (sym (ap nf (swapped t o) ∙ unwrapped_nf (lower t))) (stands WholeProgram t (record { home = p.0; below = p.1; taken = o }))
