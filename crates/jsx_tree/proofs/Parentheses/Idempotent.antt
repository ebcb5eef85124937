-- The normal form of a normal form is itself, where the parameter of an arrow without parentheses is a name.
use Rattle.std.proofs.Common.{◌≡◌, List, [], ◌∷◌, Bool, true, false, cond, refl, ap, ◌∙◌}
use Rattle.std.proofs.lemmas.Bool.{and_parts, and_from, both_ways, false≢true, not-true}
use Rattle.std.specs.Prelude.{codes, not, ◌&&◌}
use Rattle.jsx_base.specs.Token.{Text, IdentifierName, StringLiteral, same}
use Rattle.jsx_tree.specs.Kinds.{Specifier, SpecifierAs, Role, ComputedKey, ObjectPat, PropertyPat, ShorthandPat, ShorthandInit, WithInit, ParenTarget, Arrow, ArrowBlock, BareArrow, BareArrowBlock, New, NewWithoutArguments, Object, Property, Shorthand, Parenthesized, Kind, program, function, expression, Tree, leaf, node, list, Forest, none, part}
use Rattle.jsx_tree.specs.Nonterminals.{Nonterminal, BindingIdent, in_homes, homes}
use Rattle.jsx_tree.specs.Normal.{pair, long_prop, long_pat, each, is_empty, unless_empty, without_empty, plain_node, of_list, mades, each_made, nf}
use Rattle.jsx_tree.specs.Form.{Form, Single, Maybe, Several, Position, position, positions, shaped, admits, fits_below, fit_slots, fit_each}
use Rattle.jsx_tree.specs.Sound.{may_stand, may_shape, is_no_jsx, loose, loose_slots, loose_each}
use Rattle.jsx_tree.proofs.Parentheses.EmptyStatements.{drops, all_drops}

-- ---- a bare arrow's parameter is a name

abbrev pub has_name : Kind → Forest → Bool
has_name (expression BareArrow) (part (leaf s x) cs) = true
has_name (expression BareArrow) cs = false
has_name (expression BareArrowBlock) (part (leaf s x) cs) = true
has_name (expression BareArrowBlock) cs = false
has_name k cs = true

abbrev mutual
  pub named : Tree → Bool
  named (leaf s x) = true
  named (node k cs) = has_name k cs && all_named cs
  named (list ts) = all_named ts

  pub all_named : Forest → Bool
  all_named none = true
  all_named (part t ts) = named t && all_named ts

-- ---- forests

first : Tree → Forest → Tree
first d none = d
first d (part t ts) = t

behind : Forest → Forest
behind none = none
behind (part t ts) = ts

in_list : Tree → Forest
in_list (list ts) = ts
in_list t = none

in_node : Tree → Forest
in_node (node k cs) = cs
in_node t = none

pub head_is : (t u : Tree) (ts us : Forest) → part t ts ≡ part u us → t ≡ u
unfolding first
head_is t u ts us h = ap (first t) h

pub tail_is : (t u : Tree) (ts us : Forest) → part t ts ≡ part u us → ts ≡ us
unfolding behind
tail_is t u ts us h = ap behind h

items_are : (ts us : Forest) → list ts ≡ list us → ts ≡ us
unfolding in_list
items_are ts us h = ap in_list h

parts_are : (k : Kind) (cs ds : Forest) → node k cs ≡ node k ds → cs ≡ ds
unfolding in_node
parts_are k cs ds h = ap in_node h

-- ---- lists without empty statements

abbrev pub filled : Forest → Bool
filled none = true
filled (part t ts) = not (is_empty t) && filled ts

filled_unless : (v : Bool) (t : Tree) (ts : Forest) → is_empty t ≡ v → filled ts ≡ true → filled (unless_empty v t ts) ≡ true
filled_unless true t ts e h = h
filled_unless false t ts e h = and_from _ _ (ap not e) h

pub without_filled : (ts : Forest) → filled (without_empty ts) ≡ true
without_filled none = refl
without_filled (part t ts) = filled_unless (is_empty t) t (without_empty ts) refl (without_filled ts)

filled_stays : (ts : Forest) → filled ts ≡ true → without_empty ts ≡ ts
filled_stays none h = refl
filled_stays (part t ts) h = let p = and_parts (not (is_empty t)) (filled ts) h in ap (λ v. unless_empty v t (without_empty ts)) (not-true (is_empty t) p.0) ∙ ap (part t) (filled_stays ts p.1)

normal_unless : (v : Bool) (t : Tree) (ts : Forest) → nf t ≡ t → each_made plain_node ts ≡ ts → each_made plain_node (unless_empty v t ts) ≡ unless_empty v t ts
normal_unless true t ts e h = h
normal_unless false t ts e h = ap (λ u. part u (each_made plain_node ts)) e ∙ ap (part t) h

without_normal : (ts : Forest) → each_made plain_node ts ≡ ts → each_made plain_node (without_empty ts) ≡ without_empty ts
without_normal none h = refl
without_normal (part t ts) h = normal_unless (is_empty t) t (without_empty ts) (head_is _ _ _ _ h) (without_normal ts (tail_is _ _ _ _ h))

-- ---- parts that are normal

abbrev full : Form → Tree → Bool
full (Several s) (list ts) = filled ts
full o t = true

record Stays (o : Form) (t : Tree) : Type 0 where
  pub normal : nf t ≡ t
  pub is_full : full o t ≡ true

abbrev AllStay : List Position → Forest → Type 0
AllStay ss none = Unit {0}
AllStay [] (part t ts) = (nf t ≡ t) × AllStay [] ts
AllStay (position o c g b a ∷ ss) (part t ts) = Stays o t × AllStay ss ts

full_stays : (o : Form) (t : Tree) → full o t ≡ true → of_list o t ≡ t
full_stays (Several s) (list ts) h = ap list (filled_stays ts h)
full_stays (Several s) (leaf k x) h = refl
full_stays (Several s) (node k cs) h = refl
full_stays Single t h = refl
full_stays Maybe t h = refl

of_list_stays : (o : Form) (t : Tree) → nf t ≡ t → Stays o (of_list o t)
of_list_stays (Several s) (list ts) h = record { normal = ap list (without_normal ts (items_are _ _ h)); is_full = without_filled ts }
of_list_stays (Several s) (leaf k x) h = record { normal = h; is_full = refl }
of_list_stays (Several s) (node k cs) h = record { normal = h; is_full = refl }
of_list_stays Single t h = record { normal = h; is_full = refl }
of_list_stays Maybe t h = record { normal = h; is_full = refl }

stay : (ss : List Position) (ds : Forest) → AllStay ss ds → mades plain_node ss ds ≡ ds
stay ss none h = refl
stay [] (part t ts) h = ap (λ u. part u (mades plain_node [] ts)) h.0 ∙ ap (part t) (stay [] ts h.1)
stay (position o c g b a ∷ ss) (part t ts) h = ap (λ u. part (of_list o u) (mades plain_node ss ts)) h.0.normal ∙ ap (λ u. part u (mades plain_node ss ts)) (full_stays o t h.0.is_full) ∙ ap (part t) (stay ss ts h.1)

-- ---- shorthands

proto_key : (v : Bool) (x : Text) → let k : Tree = cond v (node (function ComputedKey) (part (leaf StringLiteral (codes "\"__proto__\"")) none)) (leaf IdentifierName x) in nf (node (expression Property) (pair k (leaf IdentifierName x))) ≡ node (expression Property) (pair k (leaf IdentifierName x))
proto_key true x = refl
proto_key false x = refl

prop_normal : (t : Tree) → nf t ≡ t → nf (long_prop t) ≡ long_prop t
prop_normal (node (expression Shorthand) (part (leaf IdentifierName x) none)) h = proto_key (same x (codes "__proto__")) x
prop_normal t h = h

prop_full : (t : Tree) → is_empty (long_prop t) ≡ is_empty t
prop_full (node (expression Shorthand) (part (leaf IdentifierName x) none)) = refl
prop_full t = refl

prop_again : (t : Tree) → long_prop (long_prop t) ≡ long_prop t
prop_again (node (expression Shorthand) (part (leaf IdentifierName x) none)) = refl
prop_again t = refl

pat_normal : (r : Role) (t : Tree) → nf t ≡ t → nf (long_pat r t) ≡ long_pat r t
pat_normal r (node (function (ShorthandPat q)) (part a none)) h = ap (λ u. node (function (PropertyPat r)) (pair u u)) (head_is _ _ _ _ (parts_are _ _ _ h))
pat_normal r (node (function (ShorthandInit q)) (part a (part e none))) h =
    let p = parts_are _ _ _ h in
    ap (λ u. node (function (PropertyPat r)) (pair u (node (function (WithInit r)) (pair u (nf e))))) (head_is _ _ _ _ p)
    ∙ ap (λ u. node (function (PropertyPat r)) (pair a (node (function (WithInit r)) (pair a u)))) (head_is _ _ _ _ (tail_is _ _ _ _ p))
pat_normal r t h = h

pat_full : (r : Role) (t : Tree) → is_empty (long_pat r t) ≡ is_empty t
pat_full r (node (function (ShorthandPat q)) (part a none)) = refl
pat_full r (node (function (ShorthandInit q)) (part a (part e none))) = refl
pat_full r t = refl

pat_again : (r : Role) (t : Tree) → long_pat r (long_pat r t) ≡ long_pat r t
pat_again r (node (function (ShorthandPat q)) (part a none)) = refl
pat_again r (node (function (ShorthandInit q)) (part a (part e none))) = refl
pat_again r t = refl

each_again : (f : Tree → Tree) → ((t : Tree) → nf t ≡ t → nf (f t) ≡ f t) → ((t : Tree) → is_empty (f t) ≡ is_empty t) → ((t : Tree) → f (f t) ≡ f t) → (ts : Forest) → each_made plain_node ts ≡ ts → filled ts ≡ true
    → each f (without_empty (each_made plain_node (each f ts))) ≡ each f ts
each_again f n e g ts h i = ap (λ us. each f (without_empty us)) (normal ts h) ∙ (ap (each f) (filled_stays (each f ts) (full_each ts i)) ∙ twice ts)
  where
    normal : (ts : Forest) → each_made plain_node ts ≡ ts → each_made plain_node (each f ts) ≡ each f ts
    normal none h = refl
    normal (part t ts) h = ap (λ u. part u (each_made plain_node (each f ts))) (n t (head_is _ _ _ _ h)) ∙ ap (part (f t)) (normal ts (tail_is _ _ _ _ h))

    full_each : (ts : Forest) → filled ts ≡ true → filled (each f ts) ≡ true
    full_each none i = refl
    full_each (part t ts) i = let p = and_parts (not (is_empty t)) (filled ts) i in and_from _ _ (ap not (e t) ∙ p.0) (full_each ts p.1)

    twice : (ts : Forest) → each f (each f ts) ≡ each f ts
    twice none = refl
    twice (part t ts) = ap (λ u. part u (each f (each f ts))) (g t) ∙ ap (part (f t)) (twice ts)

-- ---- nodes

abbrev pub nfs : Kind → Forest → Forest
nfs k cs = mades plain_node (positions k) cs

node_stays : (k : Kind) (ds : Forest) → AllStay (positions k) ds → plain_node k ds ≡ node k ds → nf (node k ds) ≡ node k ds
node_stays k ds h e = ap (plain_node k) (stay (positions k) ds h) ∙ e

abbrev pub rest : List Position → List Position
rest [] = []
rest (s ∷ ss) = ss

plain_again : (k : Kind) (ds : Forest) → has_name k ds ≡ true → AllStay (positions k) ds → nf (plain_node k ds) ≡ plain_node k ds
plain_again (expression Parenthesized) (part e none) n h = h.0.normal
plain_again (function ParenTarget) (part e none) n h = h.0.normal
plain_again (expression Object) (part (list ts) none) n h =
    ap (λ us. node (expression Object) (part (list us) none)) (each_again long_prop prop_normal prop_full prop_again ts (items_are _ _ h.0.normal) h.0.is_full)
plain_again (function (ObjectPat r)) (part (list ts) none) n h =
    ap (λ us. node (function (ObjectPat r)) (part (list us) none)) (each_again (long_pat r) (pat_normal r) (pat_full r) (pat_again r) ts (items_are _ _ h.0.normal) h.0.is_full)
plain_again (program (Specifier s)) (part a none) n h = ap (λ u. node (program (SpecifierAs s)) (pair u u)) h.0.normal
plain_again (expression BareArrow) (part (leaf s x) none) n h = refl
plain_again (expression BareArrow) (part (leaf s x) (part e es)) n h = ap (λ us. node (expression Arrow) (part (list (part (leaf s x) none)) us)) (stay (rest (positions (expression Arrow))) (part e es) h.1)
plain_again (expression BareArrow) none n h = absurd (false≢true n)
plain_again (expression BareArrow) (part (node k cs) es) n h = absurd (false≢true n)
plain_again (expression BareArrow) (part (list ts) es) n h = absurd (false≢true n)
plain_again (expression BareArrowBlock) (part (leaf s x) none) n h = refl
plain_again (expression BareArrowBlock) (part (leaf s x) (part e es)) n h = ap (λ us. node (expression ArrowBlock) (part (list (part (leaf s x) none)) us)) (stay (rest (positions (expression ArrowBlock))) (part e es) h.1)
plain_again (expression BareArrowBlock) none n h = absurd (false≢true n)
plain_again (expression BareArrowBlock) (part (node k cs) es) n h = absurd (false≢true n)
plain_again (expression BareArrowBlock) (part (list ts) es) n h = absurd (false≢true n)
plain_again (expression NewWithoutArguments) (part a none) n h = ap (λ u. node (expression New) (pair u (list none))) h.0.normal
plain_again k ds n h = node_stays k ds h refl

name_stays : (k : Kind) (cs : Forest) → has_name k cs ≡ true → has_name k (nfs k cs) ≡ true
name_stays (expression BareArrow) (part (leaf s x) cs) h = refl
name_stays (expression BareArrow) none h = h
name_stays (expression BareArrow) (part (node k cs) es) h = absurd (false≢true h)
name_stays (expression BareArrow) (part (list ts) es) h = absurd (false≢true h)
name_stays (expression BareArrowBlock) (part (leaf s x) cs) h = refl
name_stays (expression BareArrowBlock) none h = h
name_stays (expression BareArrowBlock) (part (node k cs) es) h = absurd (false≢true h)
name_stays (expression BareArrowBlock) (part (list ts) es) h = absurd (false≢true h)
name_stays k cs h = refl

mutual
  pub nf_again : (t : Tree) → named t ≡ true → nf (nf t) ≡ nf t
  nf_again (leaf s x) h = refl
  nf_again (list ts) h = ap list (each_made_again ts h)
  nf_again (node k cs) h = let p = and_parts (has_name k cs) (all_named cs) h in plain_again k (nfs k cs) (name_stays k cs p.0) (parts_stay (positions k) cs p.1)

  parts_stay : (ss : List Position) (cs : Forest) → all_named cs ≡ true → AllStay ss (mades plain_node ss cs)
  parts_stay ss none h = tt
  parts_stay [] (part t ts) h = let p = and_parts (named t) (all_named ts) h in (nf_again t p.0, parts_stay [] ts p.1)
  parts_stay (position o c g b a ∷ ss) (part t ts) h = let p = and_parts (named t) (all_named ts) h in (of_list_stays o (nf t) (nf_again t p.0), parts_stay ss ts p.1)

  each_made_again : (ts : Forest) → all_named ts ≡ true → each_made plain_node (each_made plain_node ts) ≡ each_made plain_node ts
  each_made_again none h = refl
  each_made_again (part t ts) h =
      let p = and_parts (named t) (all_named ts) h in
      ap (λ u. part u (each_made plain_node (each_made plain_node ts))) (nf_again t p.0) ∙ ap (part (nf t)) (each_made_again ts p.1)

-- ---- which trees have such arrows alone: those of the form of the productions, and those that have it but for pairs

no_node : {A : Type 0} (k : Kind) → in_homes BindingIdent (homes k) ≡ true → A
no_node k m = absurd (both_ways (in_homes BindingIdent (homes k)) (not-true (in_homes BindingIdent (homes k)) (and_parts (drops (positions k)) (not (in_homes BindingIdent (homes k))) (all_drops k)).1) m)

fit_name : (k : Kind) (cs : Forest) → fit_slots (positions k) cs ≡ true → has_name k cs ≡ true
fit_name (expression BareArrow) (part (leaf s x) cs) h = refl
fit_name (expression BareArrow) none h = h
fit_name (expression BareArrow) (part (node k cs) es) h = no_node k (and_parts (in_homes BindingIdent (homes k)) _ h).0
fit_name (expression BareArrow) (part (list ts) es) h = h
fit_name (expression BareArrowBlock) (part (leaf s x) cs) h = refl
fit_name (expression BareArrowBlock) none h = h
fit_name (expression BareArrowBlock) (part (node k cs) es) h = no_node k (and_parts (in_homes BindingIdent (homes k)) _ h).0
fit_name (expression BareArrowBlock) (part (list ts) es) h = h
fit_name k cs h = refl

mutual
  pub fit_named : (c : Nonterminal) (t : Tree) → fits_below c t ≡ true → named t ≡ true
  fit_named c (leaf s x) h = refl
  fit_named c (list ts) h = fit_all c ts h
  fit_named c (node k cs) h = and_from _ _ (fit_name k cs h) (fit_parts (positions k) cs h)

  fit_parts : (ss : List Position) (cs : Forest) → fit_slots ss cs ≡ true → all_named cs ≡ true
  fit_parts ss none h = refl
  fit_parts [] (part t ts) h = absurd (false≢true h)
  fit_parts (position o c g b a ∷ ss) (part t ts) h =
      let p = and_parts (shaped o c t) (fits_below c t && fit_slots ss ts) h in
      let q = and_parts (fits_below c t) (fit_slots ss ts) p.1 in
      and_from _ _ (fit_named c t q.0) (fit_parts ss ts q.1)

  fit_all : (c : Nonterminal) (ts : Forest) → fit_each c ts ≡ true → all_named ts ≡ true
  fit_all c none h = refl
  fit_all c (part t ts) h =
      let p = and_parts (admits c t) (fits_below c t && fit_each c ts) h in
      let q = and_parts (fits_below c t) (fit_each c ts) p.1 in
      and_from _ _ (fit_named c t q.0) (fit_all c ts q.1)

loose_name : (k : Kind) (cs : Forest) → loose_slots (positions k) cs ≡ true → has_name k cs ≡ true
loose_name (expression BareArrow) (part (leaf s x) cs) h = refl
loose_name (expression BareArrow) none h = h
loose_name (expression BareArrow) (part (node k cs) es) h = no_node k (and_parts (in_homes BindingIdent (homes k)) _ h).0
loose_name (expression BareArrow) (part (list ts) es) h = h
loose_name (expression BareArrowBlock) (part (leaf s x) cs) h = refl
loose_name (expression BareArrowBlock) none h = h
loose_name (expression BareArrowBlock) (part (node k cs) es) h = no_node k (and_parts (in_homes BindingIdent (homes k)) _ h).0
loose_name (expression BareArrowBlock) (part (list ts) es) h = h
loose_name k cs h = refl

mutual
  pub loose_named : (c : Nonterminal) (t : Tree) → loose c t ≡ true → named t ≡ true
  loose_named c (leaf s x) h = refl
  loose_named c (list ts) h = loose_all c ts h
  loose_named c (node k cs) h = let p = and_parts (is_no_jsx k) (loose_slots (positions k) cs) h in and_from _ _ (loose_name k cs p.1) (loose_parts (positions k) cs p.1)

  loose_parts : (ss : List Position) (cs : Forest) → loose_slots ss cs ≡ true → all_named cs ≡ true
  loose_parts ss none h = refl
  loose_parts [] (part t ts) h = absurd (false≢true h)
  loose_parts (position o c g b a ∷ ss) (part t ts) h =
      let p = and_parts (may_shape o c t) (loose c t && loose_slots ss ts) h in
      let q = and_parts (loose c t) (loose_slots ss ts) p.1 in
      and_from _ _ (loose_named c t q.0) (loose_parts ss ts q.1)

  loose_all : (c : Nonterminal) (ts : Forest) → loose_each c ts ≡ true → all_named ts ≡ true
  loose_all c none h = refl
  loose_all c (part t ts) h =
      let p = and_parts (may_stand c t) (loose c t && loose_each c ts) h in
      let q = and_parts (loose c t) (loose_each c ts) p.1 in
      and_from _ _ (loose_named c t q.0) (loose_all c ts q.1)
