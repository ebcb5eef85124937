-- The places of a tree that was read have the form of the tree without its parentheses, part by part.
use Rattle.std.proofs.Common.{◌≡◌, ◌+◌, ℕ, List, [], ◌∷◌, ◌++◌, Bool, true, false, refl, sym, ap, ◌∙◌, subst}
use Rattle.std.specs.Prelude.{⊤, not, ◌&&◌, ◌||◌, nat_eq, nat_le}
use Rattle.std.proofs.lemmas.Bool.{eqb-true}
use Rattle.jsx_base.specs.Token.{Text, Children, TokenKind, IdentifierName, Punctuator}
use Rattle.jsx_base.specs.Lines.{size}
use Rattle.jsx_tree.specs.Signs.{Tok, Unless, AfterExpr}
use Rattle.jsx_tree.specs.Kinds.{Imported, Exported, From, Module, Specifier, SpecifierAs, ExportNames, ExportFrom, ExportAllAs, ExportDefaultFn, ExportDefaultClass, ExportDefaultExpr, Binds, ParenTarget, Parenthesized, Kind, program, function, expression, Tree, leaf, node, list, Forest, none, part}
use Rattle.jsx_tree.specs.Nonterminals.{Nonterminal, Expr, MemberObject, SimpleTarget, BindingIdent, Pat, Slot, PatProp, PatElement, Param, SetterParam, Declarators, Argument, ImportClause, ImportBindings, Specifiers, Item, WholeProgram, NullishLeft, NullishOnly, NewCallee, DotObject, ForHead, ForOfHead, number, floor, takes, in_homes, homes, leaf_in, is_ident}
use Rattle.jsx_tree.specs.Grammar.{ListShape, Context, Fixed, Part, Optional, Many, Within, Production, production}
use Rattle.jsx_tree.specs.Spelling.{before, between, joined, maybe, gathered, said, saids, each_said, spelled}
use Rattle.jsx_tree.specs.Reading.{Place, At, forth, scan}
use Rattle.jsx_tree.specs.Form.{Form, Single, Maybe, Several, Position, position, positions, slots, inside, is_piece, spine_calls, admits_node, admits, shaped, fits_below, fit_slots, fit_each, is}
use Rattle.jsx_tree.specs.Normal.{remade, remades, unwrapped_node, without_parentheses}
use Rattle.jsx_tree.specs.Scopes.{binds}
use Rattle.jsx_tree.specs.Spans.{Extent, extent_of, second_byte, front, Placed, leaf_at, node_at, default_at, list_at, Places, end, and, Start, start, starts, list_starts, in_text, row, within, in_parens, settled, placed, places, each_placed, placed_in}
use Rattle.jsx_tree.proofs.Tokens.{and_left, and_right}
use Rattle.jsx_names.proofs.ScopeNames.{never}

abbrev pub is_paired : Kind → Bool
is_paired (expression Parenthesized) = true
is_paired (function ParenTarget) = true
is_paired k = false

abbrev pub is_default : Kind → Bool
is_default (program ExportDefaultFn) = true
is_default (program ExportDefaultClass) = true
is_default (program ExportDefaultExpr) = true
is_default k = false

-- what exports names by themselves, and what holds it; and the places below which none of these stands
abbrev pub is_outer : Kind → Bool
is_outer (program Module) = true
is_outer (program ExportNames) = true
is_outer (program ExportFrom) = true
is_outer (program ExportAllAs) = true
is_outer (program (Specifier Exported)) = true
is_outer (program (Specifier From)) = true
is_outer (program (SpecifierAs Exported)) = true
is_outer (program (SpecifierAs From)) = true
is_outer k = false

abbrev is_outer_place : ℕ → Bool
is_outer_place n = nat_eq n 31 || (nat_eq n 45 || (nat_eq n 46 || nat_eq n 55))

abbrev pub is_deep : Nonterminal → Bool
is_deep c = not (is_outer_place (number c))

abbrev pub is_seated : Nonterminal → Kind → Bool
is_seated c k = not (is_deep c) || not (is_outer k)

-- a name that is bound is an identifier
abbrev pub is_named : Nonterminal → TokenKind → Text → Bool
is_named c IdentifierName t = not (binds c) || is_ident t
is_named c s t = true

abbrev mutual
  pub IsShaped : Nonterminal → Tree → Placed → Type 0
  IsShaped c (leaf s t) (leaf_at at e k u) = (k ≡ s) × ((u ≡ t) × (is_named c s t ≡ true))
  IsShaped c (node k ts) (node_at e l ps) = (is_paired k ≡ false) × ((is_default k ≡ false) × ((is_seated c k ≡ true) × AreShaped (positions k) ts ps))
  IsShaped c (node k ts) (default_at at e l ps) = (is_paired k ≡ false) × ((is_default k ≡ true) × ((is_seated c k ≡ true) × AreShaped (positions k) ts ps))
  IsShaped c (list ts) (list_at ps) = EachShaped c ts ps
  IsShaped c t p = ⊥

  pub AreShaped : List Position → Forest → Places → Type 0
  AreShaped [] none end = ⊤
  AreShaped (position f c g b a ∷ ss) (part t ts) (and p ps) = IsShaped c t p × AreShaped ss ts ps
  AreShaped ss ts ps = ⊥

  pub EachShaped : Nonterminal → Forest → Places → Type 0
  EachShaped c none end = ⊤
  EachShaped c (part t ts) (and p ps) = IsShaped c t p × EachShaped c ts ps
  EachShaped c ts ps = ⊥

-- ---- the places from which the parts are read

abbrev suffices : Forest → List Place → Bool
suffices none xs = true
suffices (part t ts) [] = false
suffices (part t ts) (x ∷ xs) = suffices ts xs

abbrev is_placeable : Tree → List Place → Bool
is_placeable (list ts) xs = suffices ts xs
is_placeable t [] = false
is_placeable t (x ∷ xs) = true

abbrev StartsFit : List Position → Forest → List Start → Type 0
StartsFit [] none zs = ⊤
StartsFit (position f c g b a ∷ ss) (part t ts) (start d e xs ∷ zs) = (d ≡ c) × ((is_placeable t xs ≡ true) × StartsFit ss ts zs)
StartsFit ss ts zs = ⊥

single_placeable : (c : Nonterminal) (t : Tree) (x : Place) → admits c t ≡ true → is_placeable t (x ∷ []) ≡ true
single_placeable c (leaf s y) x h = refl
single_placeable c (node k cs) x h = refl
single_placeable c (list ts) x h = never h

maybe_placeable : (c : Nonterminal) (t : Tree) (x : Place) → shaped Maybe c t ≡ true → is_placeable t (x ∷ []) ≡ true
maybe_placeable c (leaf s y) x h = never h
maybe_placeable c (node k cs) x h = never h
maybe_placeable c (list none) x h = refl
maybe_placeable c (list (part t none)) x h = refl
maybe_placeable c (list (part t (part u us))) x h = never h

list_suffices : (s : ListShape) (x : Place) (ts : Forest) → suffices ts (list_starts s x (each_said ts)) ≡ true
list_suffices s x none = refl
list_suffices s x (part t ts) = list_suffices s (scan x (before s (joined (said t)) ++ between s)) ts

many_placeable : (s : ListShape) (c : Nonterminal) (t : Tree) (x : Place) → shaped (Several s) c t ≡ true → is_placeable t (list_starts s x (said t)) ≡ true
many_placeable s c (leaf k y) x h = never h
many_placeable s c (node k cs) x h = never h
many_placeable s c (list ts) x h = list_suffices s x ts

starts_fit : (g : List Text) (b : Bool) (a : List Context) (x : Place) (ps : Production) (cs : Forest) → fit_slots (slots g b a ps) cs ≡ true → StartsFit (slots g b a ps) cs (starts x ps (saids cs))
starts_fit g b a x [] none h = tt
starts_fit g b a x [] (part t ts) h = never h
starts_fit g b a x (Fixed (Tok m Punctuator t) ∷ ps) cs h = starts_fit [] (inside t b) a (forth (Tok m Punctuator t) x) ps cs h
starts_fit g b a x (Fixed (Unless us) ∷ ps) cs h = starts_fit us b a (forth (Unless us) x) ps cs h
starts_fit g b a x (Fixed m ∷ ps) cs h = starts_fit g b a (forth m x) ps cs h
starts_fit g b a x (Within y ∷ ps) cs h = starts_fit g b (y ∷ a) x ps cs h
starts_fit g b a x (Part c ∷ ps) none h = never h
starts_fit g b a x (Optional u c v r ∷ ps) none h = never h
starts_fit g b a x (Many s c ∷ ps) none h = never h
starts_fit g b a x (Part c ∷ ps) (part t ts) h =
    let r = and_right (admits c t) (fits_below c t && fit_slots (slots [] (b || is_piece c) a ps) ts) h in
    (refl, (single_placeable c t x (and_left (admits c t) (fits_below c t && fit_slots (slots [] (b || is_piece c) a ps) ts) h), starts_fit [] (b || is_piece c) a (scan x (joined (said t))) ps ts (and_right (fits_below c t) (fit_slots (slots [] (b || is_piece c) a ps) ts) r)))
starts_fit g b a x (Optional u c v r ∷ ps) (part t ts) h =
    let i = and_right (shaped Maybe c t) (fits_below c t && fit_slots (slots [] b a ps) ts) h in
    (refl, (maybe_placeable c t (scan x u) (and_left (shaped Maybe c t) (fits_below c t && fit_slots (slots [] b a ps) ts) h), starts_fit [] b a (scan x (maybe u v r (said t))) ps ts (and_right (fits_below c t) (fit_slots (slots [] b a ps) ts) i)))
starts_fit g b a x (Many s c ∷ ps) (part t ts) h =
    let i = and_right (shaped (Several s) c t) (fits_below c t && fit_slots (slots [] b a ps) ts) h in
    (refl, (many_placeable s c t x (and_left (shaped (Several s) c t) (fits_below c t && fit_slots (slots [] b a ps) ts) h), starts_fit [] b a (scan x (gathered s (said t))) ps ts (and_right (fits_below c t) (fit_slots (slots [] b a ps) ts) i)))

-- the same of a node among JSX children
text_starts : (g : List Text) (b : Bool) (a : List Context) (x : Place) (ps : Production) (cs : Forest) → fit_slots (slots g b a ps) cs ≡ true → StartsFit (slots g b a ps) cs (starts x (in_text ps) (saids cs))
text_starts g b a x [] cs h = starts_fit g b a x [] cs h
text_starts g b a x (Fixed (Tok m Punctuator t) ∷ ps) cs h = starts_fit [] (inside t b) a (forth (Tok Children Punctuator t) x) ps cs h
text_starts g b a x (Fixed (Tok m k t) ∷ ps) cs h = starts_fit g b a (forth (Tok Children k t) x) ps cs h
text_starts g b a x (Fixed (Unless us) ∷ ps) cs h = text_starts us b a (forth (Unless us) x) ps cs h
text_starts g b a x (Fixed m ∷ ps) cs h = text_starts g b a (forth m x) ps cs h
text_starts g b a x (Within y ∷ ps) cs h = starts_fit g b a x (Within y ∷ ps) cs h
text_starts g b a x (Part c ∷ ps) cs h = starts_fit g b a x (Part c ∷ ps) cs h
text_starts g b a x (Optional u c v r ∷ ps) cs h = starts_fit g b a x (Optional u c v r ∷ ps) cs h
text_starts g b a x (Many s c ∷ ps) cs h = starts_fit g b a x (Many s c ∷ ps) cs h

row_starts : (b : Bool) (x : Place) (k : Kind) (cs : Forest) → fit_slots (positions k) cs ≡ true → StartsFit (positions k) cs (starts x (row b k) (saids cs))
row_starts true x k cs h = text_starts [] false [] x (production k) cs h
row_starts false x k cs h = starts_fit [] false [] x (production k) cs h

-- ---- leaves, and where kinds are at home

named_leaf : (c : Nonterminal) (s : TokenKind) (t : Text) → leaf_in c s t ≡ true → is_named c s t ≡ true
named_leaf BindingIdent IdentifierName t h = and_left (is_ident t) _ h
named_leaf (Pat Binds) IdentifierName t h = and_left (is_ident t) _ h
named_leaf (PatElement Binds) IdentifierName t h = and_left (is_ident t) _ h
named_leaf (Slot Binds) IdentifierName t h = and_left (is_ident t) _ h
named_leaf (PatProp Binds) IdentifierName t h = never h
named_leaf Param IdentifierName t h = and_left (is_ident t) _ h
named_leaf SetterParam IdentifierName t h = and_left (is_ident t) _ h
named_leaf Declarators IdentifierName t h = never h
named_leaf ImportClause IdentifierName t h = and_left (is_ident t) _ h
named_leaf ImportBindings IdentifierName t h = never h
named_leaf (Specifiers Imported) IdentifierName t h = never h
named_leaf c IdentifierName t h = refl
named_leaf c s t h = refl

in_home : (c : Nonterminal) (t : Tree) (k : Kind) → admits_node c t k ≡ true → in_homes c (homes k) ≡ true
in_home NewCallee t k h = and_left (in_homes NewCallee (homes k)) (not (spine_calls t)) h
in_home c t k h = h

pair_unbound : (c : Nonterminal) → in_homes c (homes (expression Parenthesized)) ≡ true → binds c ≡ false
pair_unbound BindingIdent h = never h
pair_unbound (Pat Binds) h = never h
pair_unbound (PatElement Binds) h = never h
pair_unbound (Slot Binds) h = never h
pair_unbound (PatProp Binds) h = never h
pair_unbound Param h = never h
pair_unbound SetterParam h = never h
pair_unbound Declarators h = never h
pair_unbound ImportClause h = never h
pair_unbound ImportBindings h = never h
pair_unbound (Specifiers Imported) h = never h
pair_unbound c h = refl

target_unbound : (c : Nonterminal) → in_homes c (homes (function ParenTarget)) ≡ true → binds c ≡ false
target_unbound BindingIdent h = never h
target_unbound (Pat Binds) h = never h
target_unbound (PatElement Binds) h = never h
target_unbound (Slot Binds) h = never h
target_unbound (PatProp Binds) h = never h
target_unbound Param h = never h
target_unbound SetterParam h = never h
target_unbound Declarators h = never h
target_unbound ImportClause h = never h
target_unbound ImportBindings h = never h
target_unbound (Specifiers Imported) h = never h
target_unbound c h = refl

-- where a kind with one home stands
number_taken : (c d : Nonterminal) → takes c d || false ≡ true → number c ≡ number d
number_taken c d h = eqb-true (number c) (number d) (and_left (nat_eq (number c) (number d)) (nat_le (floor c) (floor d)) (one (takes c d) h))
  where
    one : (a : Bool) → a || false ≡ true → a ≡ true
    one true h = refl
    one false h = never h

taken_outer : (c d : Nonterminal) → is_outer_place (number d) ≡ true → takes c d || false ≡ true → is_outer_place (number c) ≡ true
taken_outer c d o h = ap is_outer_place (number_taken c d h) ∙ o

either_outer : (a b z : Bool) → (a ≡ true → z ≡ true) → (b ≡ true → z ≡ true) → a || b ≡ true → z ≡ true
either_outer true b z f g h = f refl
either_outer false b z f g h = g h

only_outer : (c d : Nonterminal) → is_outer_place (number d) ≡ true → in_homes c (d ∷ []) ≡ true → is_outer_place (number c) ≡ true
only_outer NullishLeft d o h = either_outer (takes (Expr 6) d || false) (takes NullishOnly d || false) (is_outer_place (number NullishLeft)) (λ e. never (taken_outer (Expr 6) d o e)) (λ e. never (taken_outer NullishOnly d o e)) h
only_outer NewCallee d o h = never (taken_outer (Expr 17) d o h)
only_outer DotObject d o h = never (taken_outer MemberObject d o h)
only_outer ForOfHead d o h = never (taken_outer ForHead d o h)
only_outer c d o h = taken_outer c d o h

outer_home : (c : Nonterminal) (k : Kind) → is_outer k ≡ true → in_homes c (homes k) ≡ true → is_outer_place (number c) ≡ true
outer_home c (program Module) o h = only_outer c WholeProgram refl h
outer_home c (program ExportNames) o h = only_outer c Item refl h
outer_home c (program ExportFrom) o h = only_outer c Item refl h
outer_home c (program ExportAllAs) o h = only_outer c Item refl h
outer_home c (program (Specifier Exported)) o h = only_outer c (Specifiers Exported) refl h
outer_home c (program (Specifier From)) o h = only_outer c (Specifiers From) refl h
outer_home c (program (SpecifierAs Exported)) o h = only_outer c (Specifiers Exported) refl h
outer_home c (program (SpecifierAs From)) o h = only_outer c (Specifiers From) refl h
outer_home c k o h = never o

seated : (c : Nonterminal) (k : Kind) → in_homes c (homes k) ≡ true → is_seated c k ≡ true
seated c k h = by (is_outer_place (number c)) (is_outer k) (λ o. outer_home c k o h)
  where
    by : (a b : Bool) → (b ≡ true → a ≡ true) → not (not a) || not b ≡ true
    by true b f = refl
    by false true f = never (f refl)
    by false false f = refl

-- ---- at another place

other_named : (c : Nonterminal) (s : TokenKind) (t : Text) → binds c ≡ false → is_named c s t ≡ true
other_named c IdentifierName t u = ap (λ b. not b || is_ident t) u
other_named c s t u = refl

other_seated : (c d : Nonterminal) (k : Kind) → is_deep d ≡ true → is_seated d k ≡ true → is_seated c k ≡ true
other_seated c d k e h = by (is_deep c) (is_deep d) (not (is_outer k)) e h
  where
    by : (a b z : Bool) → b ≡ true → not b || z ≡ true → not a || z ≡ true
    by false b z e h = refl
    by true true z e h = h
    by true false z e h = never e

mutual
  elsewhere : (c d : Nonterminal) (t : Tree) (p : Placed) → binds c ≡ false → is_deep d ≡ true → IsShaped d t p → IsShaped c t p
  elsewhere c d (leaf s t) (leaf_at at e k u) b z h = (h.0, (h.1.0, other_named c s t b))
  elsewhere c d (node k ts) (node_at e l ps) b z h = (h.0, (h.1.0, (other_seated c d k z h.1.1.0, h.1.1.1)))
  elsewhere c d (node k ts) (default_at at e l ps) b z h = (h.0, (h.1.0, (other_seated c d k z h.1.1.0, h.1.1.1)))
  elsewhere c d (list ts) (list_at ps) b z h = each_elsewhere c d ts ps b z h
  elsewhere c d t p b z h = absurd h

  each_elsewhere : (c d : Nonterminal) (ts : Forest) (ps : Places) → binds c ≡ false → is_deep d ≡ true → EachShaped d ts ps → EachShaped c ts ps
  each_elsewhere c d none end b z h = tt
  each_elsewhere c d (part t ts) (and p ps) b z h = (elsewhere c d t p b z h.0, each_elsewhere c d ts ps b z h.1)
  each_elsewhere c d ts ps b z h = absurd h

-- with the extent of its parentheses
within_shaped : (c : Nonterminal) (e : Extent) (t : Tree) (p : Placed) → IsShaped c t p → IsShaped c t (within e p)
within_shaped c e (leaf s t) (leaf_at at f k u) h = h
within_shaped c e (node k ts) (node_at f l ps) h = h
within_shaped c e (node k ts) (default_at at f l ps) h = h
within_shaped c e (list ts) (list_at ps) h = h
within_shaped c e t p h = absurd h

parens_shaped : (c : Nonterminal) (e : Extent) (t : Tree) (p : Placed) → IsShaped c t p → IsShaped c t (in_parens c e p)
parens_shaped Argument e t p h = within_shaped Argument e t p h
parens_shaped c e t p h = h

-- ---- nodes

kept_node : (k : Kind) (cs : Forest) → is_paired k ≡ false → unwrapped_node k cs ≡ node k cs
kept_node (expression Parenthesized) cs e = never (sym e)
kept_node (function ParenTarget) cs e = never (sym e)
kept_node k cs e = refl

settled_node : (k : Kind) (c : Nonterminal) (e : Extent) (ps : Places) → is_paired k ≡ false → is_default k ≡ false → settled k c e ps ≡ node_at e k ps
settled_node (expression Parenthesized) c e ps u d = never (sym u)
settled_node (function ParenTarget) c e ps u d = never (sym u)
settled_node (program ExportDefaultFn) c e ps u d = never (sym d)
settled_node (program ExportDefaultClass) c e ps u d = never (sym d)
settled_node (program ExportDefaultExpr) c e ps u d = never (sym d)
settled_node k c e ps u d = refl

settled_default : (k : Kind) (c : Nonterminal) (e : Extent) (ps : Places) → is_default k ≡ true → settled k c e ps ≡ default_at (second_byte e) e k ps
settled_default (program ExportDefaultFn) c e ps d = refl
settled_default (program ExportDefaultClass) c e ps d = refl
settled_default (program ExportDefaultExpr) c e ps d = refl
settled_default k c e ps d = never d

plain_shaped : (c : Nonterminal) (k : Kind) (e : Extent) (us : Forest) (ps : Places) (b : Bool) → is_paired k ≡ false → is_default k ≡ b → is_seated c k ≡ true → AreShaped (positions k) us ps → IsShaped c (node k us) (settled k c e ps)
plain_shaped c k e us ps false u d s a = subst (λ z. IsShaped c (node k us) z) (sym (settled_node k c e ps u d)) (u, (d, (s, a)))
plain_shaped c k e us ps true u d s a = subst (λ z. IsShaped c (node k us) z) (sym (settled_default k c e ps d)) (u, (d, (s, a)))

node_shaped : (c : Nonterminal) (k : Kind) (e : Extent) (us : Forest) (ps : Places) (b : Bool) → is_paired k ≡ b → in_homes c (homes k) ≡ true → AreShaped (positions k) us ps → IsShaped c (unwrapped_node k us) (settled k c e ps)
node_shaped c k e us ps false u h a = subst (λ z. IsShaped c z (settled k c e ps)) (sym (kept_node k us u)) (plain_shaped c k e us ps (is_default k) u refl (seated c k h) a)
node_shaped c (expression Parenthesized) e (part t none) (and p end) true u h a = parens_shaped c e t p (elsewhere c (Expr 0) t p (pair_unbound c h) refl a.0)
node_shaped c (function ParenTarget) e (part t none) (and p end) true u h a = elsewhere c SimpleTarget t p (target_unbound c h) refl a.0
node_shaped c (expression Parenthesized) e none ps true u h a = absurd a
node_shaped c (expression Parenthesized) e (part t ts) end true u h a = absurd a
node_shaped c (expression Parenthesized) e (part t none) (and p (and q ps)) true u h a = absurd a.1
node_shaped c (expression Parenthesized) e (part t (part v ts)) (and p ps) true u h a = absurd a.1
node_shaped c (function ParenTarget) e none ps true u h a = absurd a
node_shaped c (function ParenTarget) e (part t ts) end true u h a = absurd a
node_shaped c (function ParenTarget) e (part t none) (and p (and q ps)) true u h a = absurd a.1
node_shaped c (function ParenTarget) e (part t (part v ts)) (and p ps) true u h a = absurd a.1
node_shaped c k e us ps true u h a = never u

-- ---- trees

abbrev bare : Tree → Tree
bare t = remade unwrapped_node t

abbrev bares : Forest → Forest
bares ts = remades unwrapped_node ts

mutual
  shape : (n : ℕ) (f : Form) (c : Nonterminal) (b : Bool) (xs : List Place) (w : Tree) → shaped f c w ≡ true → fits_below c w ≡ true → is_placeable w xs ≡ true → IsShaped c (bare w) (placed n (start c b xs) w)
  shape n Single c b (x ∷ xs) (leaf s t) h f z = (refl, (refl, named_leaf c s t h))
  shape n Single c b (x ∷ xs) (node k cs) h f z =
      node_shaped c k (extent_of n x (front b (spelled (node k cs)))) (bares cs) (places n (starts x (row b k) (saids cs)) cs) (is_paired k) refl (in_home c (node k cs) k h)
      (parts_shape n (positions k) cs (starts x (row b k) (saids cs)) f (row_starts b x k cs f))
  shape n Single c b [] (leaf s t) h f z = never z
  shape n Single c b [] (node k cs) h f z = never z
  shape n Single c b xs (list ts) h f z = never h
  shape n Maybe c b xs (list ts) h f z = each_shape n c b xs ts f z
  shape n (Several s) c b xs (list ts) h f z = each_shape n c b xs ts f z
  shape n Maybe c b xs (leaf s t) h f z = never h
  shape n Maybe c b xs (node k cs) h f z = never h
  shape n (Several s) c b xs (leaf k t) h f z = never h
  shape n (Several s) c b xs (node k cs) h f z = never h

  parts_shape : (n : ℕ) (ss : List Position) (cs : Forest) (zs : List Start) → fit_slots ss cs ≡ true → StartsFit ss cs zs → AreShaped ss (bares cs) (places n zs cs)
  parts_shape n [] none [] h z = tt
  parts_shape n [] none (y ∷ zs) h z = tt
  parts_shape n [] (part t ts) zs h z = never h
  parts_shape n (s ∷ ss) none zs h z = never h
  parts_shape n (position f c g o a ∷ ss) (part t ts) [] h z = absurd z
  parts_shape n (position f c g o a ∷ ss) (part t ts) (start d e xs ∷ zs) h z =
      let r = and_right (shaped f c t) (fits_below c t && fit_slots ss ts) h in (
        subst (λ i. IsShaped c (bare t) (placed n (start i e xs) t)) (sym z.0) (shape n f c e xs t (and_left (shaped f c t) (fits_below c t && fit_slots ss ts) h) (and_left (fits_below c t) (fit_slots ss ts) r) z.1.0),
        parts_shape n ss ts zs (and_right (fits_below c t) (fit_slots ss ts) r) z.1.1,
      )

  each_shape : (n : ℕ) (c : Nonterminal) (b : Bool) (xs : List Place) (ts : Forest) → fit_each c ts ≡ true → suffices ts xs ≡ true → EachShaped c (bares ts) (each_placed n c b xs ts)
  each_shape n c b [] none h z = tt
  each_shape n c b (x ∷ xs) none h z = tt
  each_shape n c b [] (part t ts) h z = never z
  each_shape n c b (x ∷ xs) (part t ts) h z =
      let r = and_right (admits c t) (fits_below c t && fit_each c ts) h in
      (shape n Single c b (x ∷ []) t (and_left (admits c t) (fits_below c t && fit_each c ts) h) (and_left (fits_below c t) (fit_each c ts) r) (single_placeable c t x (and_left (admits c t) (fits_below c t && fit_each c ts) h)), each_shape n c b xs ts (and_right (fits_below c t) (fit_each c ts) r) z)

-- a whole program
pub program_shaped : (from : ℕ) (text : Text) (w : Tree) → is WholeProgram w ≡ true → IsShaped WholeProgram (without_parentheses w) (placed_in from text w)
program_shaped from text w h =
    let a = and_left (admits WholeProgram w) (fits_below WholeProgram w) h in
    shape (from + size text) Single WholeProgram false (At [] AfterExpr text ∷ []) w a (and_right (admits WholeProgram w) (fits_below WholeProgram w) h) (single_placeable WholeProgram w (At [] AfterExpr text) a)
