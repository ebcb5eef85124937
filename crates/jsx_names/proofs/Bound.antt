-- Where names are bound a tree gives the names that it binds.
use Rattle.std.proofs.Common.{◌≡◌, ℕ, suc, List, [], ◌∷◌, ◌++◌, Bool, true, false, cond, ◌&&◌, ◌||◌, not, refl, sym, ap, ◌∙◌}
use Rattle.jsx_base.specs.Token.{IdentifierName}
use Rattle.jsx_tree.specs.Kinds.{Imported, ImportAll, ImportList, ImportBoth, Specifier, SpecifierAs, Declarator, Switch, Binds, ArrayPat, ObjectPat, PropertyPat, ShorthandPat, ShorthandInit, WithInit, RestPat, RestProperty, ParenTarget, Kind, program, statement, function, Tree, leaf, node, list, Forest, none, part}
use Rattle.jsx_tree.specs.Nonterminals.{Nonterminal, Pat, Slot, PatProp, PatElement, Param, SetterParam, Declarators, ImportClause, ImportBindings, Specifiers}
use Rattle.jsx_tree.specs.Form.{Form, Single, Maybe, Several, Position, position, positions, at_most_one}
use Rattle.jsx_tree.specs.Sound.{each_node, each_nodes}
use Rattle.jsx_tree.specs.Scopes.{Path, below, Sort, AsParameter, Declaration, binds, bound, bound_parts, bound_each, is_parameter}
use Rattle.jsx_tree.proofs.Tokens.{and_left, and_right, and_both}
use Rattle.jsx_names.specs.Events.{Way, InHead, is_head, Mode, Plain, Binding, inherited, mode, is_scope, frame, has_scope, inner, is_code, is_inner}
use Rattle.jsx_names.specs.Answers.{Named}
use Rattle.jsx_names.specs.Given.{held, given, given_parts, given_each}
use Rattle.jsx_names.specs.Proper.{is_import, is_specifier, is_declarator, is_pattern, fits, stands, each_stands, has_form, fill, is_proper}
use Rattle.jsx_names.proofs.Quiet.{is_quiet, is_default, form_valued, of_parts, quiet_tree}

-- the kinds that stand where names are bound
abbrev pub ties : Kind → Bool
ties k = is_pattern k || (is_declarator k || (is_import k || is_specifier k))

abbrev mutual
  pub tied : Tree → Bool
  tied (leaf s t) = true
  tied (node k cs) = ties k
  tied (list ts) = each_tied ts

  pub each_tied : Forest → Bool
  each_tied none = true
  each_tied (part t ts) = tied t && each_tied ts

or_one : (a b : Bool) → a ≡ true → a || b ≡ true
or_one true b h = refl
or_one false b h = cc

or_two : (a b : Bool) → b ≡ true → a || b ≡ true
or_two true b h = refl
or_two false b h = h

of_pattern : (k : Kind) → is_pattern k ≡ true → ties k ≡ true
of_pattern k h = or_one (is_pattern k) _ h

of_declarator : (k : Kind) → is_declarator k ≡ true → ties k ≡ true
of_declarator k h = or_two (is_pattern k) _ (or_one (is_declarator k) _ h)

of_import : (k : Kind) → is_import k ≡ true → ties k ≡ true
of_import k h = or_two (is_pattern k) _ (or_two (is_declarator k) _ (or_one (is_import k) _ h))

of_specifier : (k : Kind) → is_specifier k ≡ true → ties k ≡ true
of_specifier k h = or_two (is_pattern k) _ (or_two (is_declarator k) _ (or_two (is_import k) _ h))

fits_ties : (c : Nonterminal) (k : Kind) → binds c ≡ true → fits c k ≡ true → ties k ≡ true
fits_ties (Pat Binds) k b h = of_pattern k h
fits_ties (PatElement Binds) k b h = of_pattern k h
fits_ties (Slot Binds) k b h = of_pattern k h
fits_ties (PatProp Binds) k b h = of_pattern k h
fits_ties Param k b h = of_pattern k h
fits_ties SetterParam k b h = of_pattern k h
fits_ties Declarators k b h = of_declarator k h
fits_ties ImportClause k b h = of_import k h
fits_ties ImportBindings k b h = of_import k h
fits_ties (Specifiers s) k b h = of_specifier k h
fits_ties c k b h = cc

stands_tied : (c : Nonterminal) (t : Tree) → binds c ≡ true → stands c t ≡ true → tied t ≡ true
stands_tied c (leaf s x) b h = refl
stands_tied c (node k cs) b h = fits_ties c k b h
stands_tied c (list ts) b h = cc

each_stands_tied : (c : Nonterminal) (ts : Forest) → binds c ≡ true → each_stands c ts ≡ true → each_tied ts ≡ true
each_stands_tied c none b h = refl
each_stands_tied c (part t ts) b h = and_both _ _ (stands_tied c t b (and_left (stands c t) (each_stands c ts) h)) (each_stands_tied c ts b (and_right (stands c t) (each_stands c ts) h))

pub form_tied : (f : Form) (c : Nonterminal) (t : Tree) → binds c ≡ true → has_form f c t ≡ true → tied t ≡ true
form_tied Single c t b h = stands_tied c t b h
form_tied Maybe c (list ts) b h = each_stands_tied c ts b (and_right (at_most_one ts) (each_stands c ts) h)
form_tied Maybe c (leaf s x) b h = refl
form_tied Maybe c (node k cs) b h = cc
form_tied (Several s) c (list ts) b h = each_stands_tied c ts b h
form_tied (Several s) c (leaf a x) b h = refl
form_tied (Several s) c (node k cs) b h = cc

-- declarations that are made in one way
abbrev pub flagged : Way → List Declaration → List Named
flagged w [] = []
flagged w (d ∷ ds) = record { head = is_head w; is = d } ∷ flagged w ds

pub flagged_append : (w : Way) (ds es : List Declaration) → flagged w (ds ++ es) ≡ flagged w ds ++ flagged w es
flagged_append w [] es = refl
flagged_append w (d ∷ ds) es = ap (λ z. record { head = is_head w; is = d } ∷ z) (flagged_append w ds es)

-- a name is bound at each part, or an expression stands there
abbrev pub tied_row : Kind → List Position → Bool
tied_row k [] = true
tied_row k (position f c g o a ∷ ss) = (not (is_parameter k c) && (binds c || is_quiet c)) && tied_row k ss

pub all_tied : (k : Kind) → ties k ≡ true → tied_row k (positions k) ≡ true
all_tied (function (ArrayPat Binds)) h = refl
all_tied (function (ObjectPat Binds)) h = refl
all_tied (function (PropertyPat Binds)) h = refl
all_tied (function (ShorthandPat Binds)) h = refl
all_tied (function (ShorthandInit Binds)) h = refl
all_tied (function (WithInit Binds)) h = refl
all_tied (function (RestPat Binds)) h = refl
all_tied (function (RestProperty Binds)) h = refl
all_tied (function ParenTarget) h = refl
all_tied (program ImportAll) h = refl
all_tied (program ImportList) h = refl
all_tied (program ImportBoth) h = refl
all_tied (program (Specifier Imported)) h = refl
all_tied (program (SpecifierAs Imported)) h = refl
all_tied (program (Specifier s)) h = refl
all_tied (program (SpecifierAs s)) h = refl
all_tied (statement Declarator) h = refl
all_tied (function (ArrayPat r)) h = refl
all_tied (function (ObjectPat r)) h = refl
all_tied (function (PropertyPat r)) h = refl
all_tied (function (ShorthandPat r)) h = refl
all_tied (function (ShorthandInit r)) h = refl
all_tied (function (WithInit r)) h = refl
all_tied (function (RestPat r)) h = refl
all_tied (function (RestProperty r)) h = refl
all_tied k h = cc

pub tie_mode : (k : Kind) (m : Mode) (c : Nonterminal) → ties k ≡ true → mode m k c ≡ cond (is_parameter k c) (Binding InHead AsParameter) (inherited c m)
tie_mode (program ImportAll) m c h = refl
tie_mode (program ImportList) m c h = refl
tie_mode (program ImportBoth) m c h = refl
tie_mode (program (Specifier s)) m c h = refl
tie_mode (program (SpecifierAs s)) m c h = refl
tie_mode (statement Declarator) m c h = refl
tie_mode (function (ArrayPat r)) m c h = refl
tie_mode (function (ObjectPat r)) m c h = refl
tie_mode (function (PropertyPat r)) m c h = refl
tie_mode (function (ShorthandPat r)) m c h = refl
tie_mode (function (ShorthandInit r)) m c h = refl
tie_mode (function (WithInit r)) m c h = refl
tie_mode (function (RestPat r)) m c h = refl
tie_mode (function (RestProperty r)) m c h = refl
tie_mode (function ParenTarget) m c h = refl
tie_mode k m c h = cc

pub tie_open : (q k : Kind) → ties k ≡ true → is_scope q k ≡ false
tie_open q (program ImportAll) h = refl
tie_open q (program ImportList) h = refl
tie_open q (program ImportBoth) h = refl
tie_open q (program (Specifier s)) h = refl
tie_open q (program (SpecifierAs s)) h = refl
tie_open q (statement Declarator) h = refl
tie_open q (function (ArrayPat r)) h = refl
tie_open q (function (ObjectPat r)) h = refl
tie_open q (function (PropertyPat r)) h = refl
tie_open q (function (ShorthandPat r)) h = refl
tie_open q (function (ShorthandInit r)) h = refl
tie_open q (function (WithInit r)) h = refl
tie_open q (function (RestPat r)) h = refl
tie_open q (function (RestProperty r)) h = refl
tie_open q (function ParenTarget) h = refl
tie_open q k h = cc

pub tie_bare : (k : Kind) → ties k ≡ true → has_scope k ≡ false
tie_bare (program ImportAll) h = refl
tie_bare (program ImportList) h = refl
tie_bare (program ImportBoth) h = refl
tie_bare (program (Specifier s)) h = refl
tie_bare (program (SpecifierAs s)) h = refl
tie_bare (statement Declarator) h = refl
tie_bare (function (ArrayPat r)) h = refl
tie_bare (function (ObjectPat r)) h = refl
tie_bare (function (PropertyPat r)) h = refl
tie_bare (function (ShorthandPat r)) h = refl
tie_bare (function (ShorthandInit r)) h = refl
tie_bare (function (WithInit r)) h = refl
tie_bare (function (RestPat r)) h = refl
tie_bare (function (RestProperty r)) h = refl
tie_bare (function ParenTarget) h = refl
tie_bare k h = cc

tie_default : (k : Kind) → ties k ≡ true → is_default k ≡ false
tie_default (program ImportAll) h = refl
tie_default (program ImportList) h = refl
tie_default (program ImportBoth) h = refl
tie_default (program (Specifier s)) h = refl
tie_default (program (SpecifierAs s)) h = refl
tie_default (program k) h = cc
tie_default k h = refl

-- a node without an inner scope has inner parts alone
pub all_inner : (k : Kind) (c : Nonterminal) → has_scope k ≡ false → is_inner k c ≡ true
all_inner (statement Switch) c h = cc
all_inner k c h = ap (λ b. not b || (is_parameter k c || is_code k c)) h

pub no_outer : (m : Mode) (k : Kind) (p : Path) (i : ℕ) (ss : List Position) (cs : Forest) → has_scope k ≡ false → given_parts false m k p i ss cs ≡ []
no_outer m k p i [] cs h = refl
no_outer m k p i (s ∷ ss) none h = refl
no_outer m k p i (position f c g o a ∷ ss) (part t ts) h = ap (λ b. cond b [] (given (mode m k c) k (below p i) t) ++ given_parts false m k p (suc i) ss ts) (all_inner k c h) ∙ no_outer m k p (suc i) ss ts h

-- a node without a scope gives what its parts do
pub open_parts : (q k : Kind) (is os : List Named) → is_scope q k ≡ false → has_scope k ≡ false → os ≡ [] → of_parts q k os is ≡ is
open_parts q k is os a b e =
    ap (λ z. held z (frame k) (os ++ held (has_scope k) (inner k) is)) a
    ∙ ap (λ z. os ++ held z (inner k) is) b
    ∙ ap (λ z. z ++ is) e

pub not_so : (b : Bool) → not b ≡ true → b ≡ false
not_so true h = sym h
not_so false h = refl

-- one part, where a name is bound or an expression stands
bound_part : (w : Way) (s : Sort) (k : Kind) (c : Nonterminal) (q : Kind) (p : Path) (t : Tree) → mode (Binding w s) k c ≡ inherited c (Binding w s) → (b : Bool) → binds c ≡ b → (b ≡ true → given (Binding w s) q p t ≡ flagged w (bound s p t)) → (b ≡ false → given Plain q p t ≡ []) → given (mode (Binding w s) k c) q p t ≡ flagged w (cond b (bound s p t) [])
bound_part w s k c q p t e true x f g = ap (λ z. given z q p t) (e ∙ ap (λ b. cond b (Binding w s) Plain) x) ∙ f refl
bound_part w s k c q p t e false x f g = ap (λ z. given z q p t) (e ∙ ap (λ b. cond b (Binding w s) Plain) x) ∙ g refl

or_else : (a b : Bool) → a ≡ false → a || b ≡ true → b ≡ true
or_else false b e h = h
or_else true b e h = cc

mutual
  pub bound_tree : (w : Way) (s : Sort) (q : Kind) (p : Path) (t : Tree) → tied t ≡ true → each_node is_proper t ≡ true → given (Binding w s) q p t ≡ flagged w (bound s p t)
  bound_tree w s q p (leaf IdentifierName x) b h = refl
  bound_tree w s q p (leaf k x) b h = refl
  bound_tree w s q p (list ts) b h = bounds_each w s q p 0 ts b h
  bound_tree w s q p (node k cs) b h =
      open_parts q k (given_parts true (Binding w s) k p 0 (positions k) cs) (given_parts false (Binding w s) k p 0 (positions k) cs) (tie_open q k b) (tie_bare k b) (no_outer (Binding w s) k p 0 (positions k) cs (tie_bare k b))
      ∙ bounds_parts w s k p 0 (positions k) cs b (all_tied k b) (and_left (fill (positions k) cs) (each_nodes is_proper cs) h) (and_right (fill (positions k) cs) (each_nodes is_proper cs) h)

  bounds_parts : (w : Way) (s : Sort) (k : Kind) (p : Path) (i : ℕ) (ss : List Position) (cs : Forest) → ties k ≡ true → tied_row k ss ≡ true → fill ss cs ≡ true → each_nodes is_proper cs ≡ true → given_parts true (Binding w s) k p i ss cs ≡ flagged w (bound_parts s p i ss cs)
  bounds_parts w s k p i [] cs b e f h = refl
  bounds_parts w s k p i (x ∷ ss) none b e f h = refl
  bounds_parts w s k p i (position f c g o a ∷ ss) (part t ts) b e v h =
      let here : (not (is_parameter k c) && (binds c || is_quiet c)) ≡ true = and_left (not (is_parameter k c) && (binds c || is_quiet c)) _ e in
      ap (λ z. cond z (given (mode (Binding w s) k c) k (below p i) t) [] ++ given_parts true (Binding w s) k p (suc i) ss ts) (all_inner k c (tie_bare k b))
      ∙ ap (λ z. z ++ given_parts true (Binding w s) k p (suc i) ss ts)
      (bound_part w s k c k (below p i) t
      (tie_mode k (Binding w s) c b ∙ ap (λ z. cond z (Binding InHead AsParameter) (inherited c (Binding w s))) (not_so (is_parameter k c) (and_left _ _ here)))
      (binds c) refl
      (λ x. bound_tree w s k (below p i) t (form_tied f c t x (and_left _ _ v)) (and_left _ _ h))
      (λ x. quiet_tree k (below p i) t (tie_default k b) (form_valued f c t (or_else (binds c) _ x (and_right (not (is_parameter k c)) _ here)) (and_left _ _ v)) (and_left _ _ h)))
      ∙ ap (λ z. flagged w (cond (binds c) (bound s (below p i) t) []) ++ z) (bounds_parts w s k p (suc i) ss ts b (and_right (not (is_parameter k c) && (binds c || is_quiet c)) _ e) (and_right (has_form f c t) _ v) (and_right (each_node is_proper t) _ h))
      ∙ sym (flagged_append w (cond (binds c) (bound s (below p i) t) []) (bound_parts s p (suc i) ss ts))

  bounds_each : (w : Way) (s : Sort) (q : Kind) (p : Path) (i : ℕ) (ts : Forest) → each_tied ts ≡ true → each_nodes is_proper ts ≡ true → given_each (Binding w s) q p i ts ≡ flagged w (bound_each s p i ts)
  bounds_each w s q p i none b h = refl
  bounds_each w s q p i (part t ts) b h =
      ap (λ z. z ++ given_each (Binding w s) q p (suc i) ts) (bound_tree w s q (below p i) t (and_left (tied t) (each_tied ts) b) (and_left _ _ h))
      ∙ ap (λ z. flagged w (bound s (below p i) t) ++ z) (bounds_each w s q p (suc i) ts (and_right (tied t) (each_tied ts) b) (and_right (each_node is_proper t) _ h))
      ∙ sym (flagged_append w (bound s (below p i) t) (bound_each s p (suc i) ts))
