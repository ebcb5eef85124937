-- What is read in parentheses is read alike within the arrow function whose parameters it turns into: loops, labels and what returns don't tell on an expression, since each statement within it stands in a function, which sets them anew.
use Rattle.std.proofs.Common.{◌≡◌, ℕ, Bool, true, false, not, List, [], ◌∷◌, refl, sym, ◌∙◌, ap, subst}
use Rattle.std.proofs.lemmas.Bool.{eqb-true}
use Rattle.std.specs.Prelude.{◌&&◌, ◌||◌, nat_eq}
use Rattle.jsx_tree.specs.Kinds.{InObject, Binds, Method, Getter, Setter, Field, ArrayPat, ObjectPat, PropertyPat, ShorthandPat, ShorthandInit, WithInit, RestPat, RestProperty, Nullish, Delete, Increment, OpAssign, Binary, Unary, PrefixUpdate, PostfixUpdate, NameLink, IndexLink, CallLink, PlainTemplate, SubstitutedTemplate, TemplateSpan, NewTarget, ImportMeta, SuperMember, SuperIndex, SuperCall, Var, VarWord, ForDeclaration, ForBinding, Specifier, SpecifierAs, Imported, Element, ProgramKind, StatementKind, FunctionKind, ExpressionKind, JsxKind, Kind, program, statement, function, expression, jsx, Tree, leaf, node, list, Forest, none, part}
use Rattle.jsx_tree.specs.Nonterminals.{Nonterminal, Expr, NullishLeft, NullishOnly, NewCallee, DotObject, MemberObject, ForOfHead, number, takes, in_list, homes, in_homes}
use Rattle.jsx_tree.specs.Grammar.{Context, InFunction, InArrow, InMethod, InField, InClassCode, InMembers, InLoop, InSwitch, InLabel, InCode, InModuleCode}
use Rattle.jsx_tree.specs.Form.{Form, Single, Position, position, positions, shaped, admits, is, fits_below, fit_slots, fit_each}
use Rattle.jsx_tree.specs.Grows.{any_of}
use Rattle.jsx_tree.specs.StaticRules.{Surroundings, enter, enters, rule, stands, legal, legals, each_legal, has_strict, first_is_constructor}
use Rattle.jsx_tree.specs.Reading.{Place}
use Rattle.jsx_tree.specs.Walk.{IsRead}
use Rattle.jsx_tree.proofs.Tokens.{and_left, and_right, and_both}

-- ---- surroundings that differ in loops, labels and what returns alone

pub record Alike (v w : Surroundings) : Type 0 where
  pub module_same : v.module' ≡ w.module'
  pub strict_same : v.strict ≡ w.strict
  pub target_same : v.target' ≡ w.target'
  pub super_same : v.super' ≡ w.super'
  pub call_same : v.super_call ≡ w.super_call
  pub derived_same : v.derived ≡ w.derived

-- in an arrow function
pub alike_arrow : (v : Surroundings) → Alike v (enter none InArrow v)
alike_arrow v = record { module_same = refl; strict_same = refl; target_same = refl; super_same = refl; call_same = refl; derived_same = refl }

abbrev is_barrier : Context → Bool
is_barrier InFunction = true
is_barrier InArrow = true
is_barrier (InMethod h) = true
is_barrier InField = true
is_barrier a = false

abbrev equalizes : List Context → Bool
equalizes [] = false
equalizes (a ∷ as') = is_barrier a || equalizes as'

barrier_same : (cs : Forest) (a : Context) {v w : Surroundings} → is_barrier a ≡ true → Alike v w → enter cs a v ≡ enter cs a w
barrier_same cs InFunction h e = λ i. record { module' = e.module_same i; strict = e.strict_same i; returns = true; target' = true; super' = false; super_call = false; derived = e.derived_same i; loop = false; breakable = false; labels = [] }
barrier_same cs InArrow h e = λ i. record { module' = e.module_same i; strict = e.strict_same i; returns = true; target' = e.target_same i; super' = e.super_same i; super_call = e.call_same i; derived = e.derived_same i; loop = false; breakable = false; labels = [] }
barrier_same cs (InMethod h) f e = λ i. record { module' = e.module_same i; strict = e.strict_same i; returns = true; target' = true; super' = true; super_call = e.derived_same i && first_is_constructor h cs; derived = e.derived_same i; loop = false; breakable = false; labels = [] }
barrier_same cs InField h e = λ i. record { module' = e.module_same i; strict = e.strict_same i; returns = false; target' = true; super' = true; super_call = false; derived = e.derived_same i; loop = false; breakable = false; labels = [] }
barrier_same cs _ h e = cc

alike_enter : (cs : Forest) (a : Context) {v w : Surroundings} → Alike v w → Alike (enter cs a v) (enter cs a w)
alike_enter cs InFunction e = record { module_same = e.module_same; strict_same = e.strict_same; target_same = refl; super_same = refl; call_same = refl; derived_same = e.derived_same }
alike_enter cs InArrow e = record { module_same = e.module_same; strict_same = e.strict_same; target_same = e.target_same; super_same = e.super_same; call_same = e.call_same; derived_same = e.derived_same }
alike_enter cs (InMethod h) e = record { module_same = e.module_same; strict_same = e.strict_same; target_same = refl; super_same = refl; call_same = ap (λ b. b && first_is_constructor h cs) e.derived_same; derived_same = e.derived_same }
alike_enter cs InField e = record { module_same = e.module_same; strict_same = e.strict_same; target_same = refl; super_same = refl; call_same = refl; derived_same = e.derived_same }
alike_enter cs InClassCode e = record { module_same = e.module_same; strict_same = refl; target_same = e.target_same; super_same = e.super_same; call_same = e.call_same; derived_same = e.derived_same }
alike_enter cs InMembers e = record { module_same = e.module_same; strict_same = e.strict_same; target_same = e.target_same; super_same = e.super_same; call_same = e.call_same; derived_same = refl }
alike_enter cs InLoop e = record { module_same = e.module_same; strict_same = e.strict_same; target_same = e.target_same; super_same = e.super_same; call_same = e.call_same; derived_same = e.derived_same }
alike_enter cs InSwitch e = record { module_same = e.module_same; strict_same = e.strict_same; target_same = e.target_same; super_same = e.super_same; call_same = e.call_same; derived_same = e.derived_same }
alike_enter cs InLabel e = record { module_same = e.module_same; strict_same = e.strict_same; target_same = e.target_same; super_same = e.super_same; call_same = e.call_same; derived_same = e.derived_same }
alike_enter cs InCode e = record { module_same = e.module_same; strict_same = ap (λ b. b || has_strict cs) e.strict_same; target_same = e.target_same; super_same = e.super_same; call_same = e.call_same; derived_same = e.derived_same }
alike_enter cs InModuleCode e = record { module_same = refl; strict_same = refl; target_same = e.target_same; super_same = e.super_same; call_same = e.call_same; derived_same = e.derived_same }

alike_enters : (cs : Forest) (a : List Context) {v w : Surroundings} → Alike v w → Alike (enters cs a v) (enters cs a w)
alike_enters cs [] e = e
alike_enters cs (a ∷ as') e = alike_enter cs a (alike_enters cs as' e)

data Either' (b : Bool) : Type 0 where
  so : b ≡ true → Either' b
  not_so : b ≡ false → Either' b

either : (b : Bool) → Either' b
either true = so refl
either false = not_so refl

or_right : (a b : Bool) → (a || b) ≡ true → a ≡ false → b ≡ true
or_right true b h e = cc
or_right false b h e = h

enters_same : (cs : Forest) (a : List Context) {v w : Surroundings} → equalizes a ≡ true → Alike v w → enters cs a v ≡ enters cs a w
enters_same cs [] h e = cc
enters_same cs (a ∷ as') {v} {w} h e = by_barrier (either (is_barrier a)) (λ k. enters_same cs as' k e)
  where
    by_barrier : Either' (is_barrier a) → (equalizes as' ≡ true → enters cs as' v ≡ enters cs as' w) → enter cs a (enters cs as' v) ≡ enter cs a (enters cs as' w)
    by_barrier (so b) r = barrier_same cs a b (alike_enters cs as' e)
    by_barrier (not_so b) r = ap (enter cs a) (r (or_right (is_barrier a) (equalizes as') h b))

-- ---- trees in which each statement stands in a function

abbrev pub is_inner : Kind → Bool
is_inner (program k) = false
is_inner (statement k) = false
is_inner k = true

abbrev mutual
  pub free : Tree → Bool
  free (leaf s t) = true
  free (node k cs) = is_inner k && free_slots (positions k) cs
  free (list ts) = free_each ts

  pub free_slots : List Position → Forest → Bool
  free_slots [] ts = true
  free_slots (s ∷ ss) none = true
  free_slots (position f c g b a ∷ ss) (part t ts) = (equalizes a || free t) && free_slots ss ts

  pub free_each : Forest → Bool
  free_each none = true
  free_each (part t ts) = free t && free_each ts

stands_same : (k : Kind) (cs : Forest) {v w : Surroundings} → is_inner k ≡ true → Alike v w → stands k cs v ≡ stands k cs w
stands_same (program k) cs h e = cc
stands_same (statement k) cs h e = cc
stands_same (function k) cs h e = refl
stands_same (jsx k) cs h e = refl
stands_same (expression NewTarget) cs h e = e.target_same
stands_same (expression ImportMeta) cs h e = e.module_same
stands_same (expression SuperMember) cs h e = e.super_same
stands_same (expression SuperIndex) cs h e = e.super_same
stands_same (expression SuperCall) cs h e = e.call_same
stands_same (expression _) cs h e = refl

one_legal : (all : Forest) (a : List Context) (t : Tree) {v w : Surroundings} → (equalizes a || free t) ≡ true → Alike v w
    → (free t ≡ true → Alike (enters all a v) (enters all a w) → legal (enters all a v) t ≡ legal (enters all a w) t) → legal (enters all a v) t ≡ legal (enters all a w) t
one_legal all a t {v} {w} h e r = by_context (either (equalizes a))
  where
    by_context : Either' (equalizes a) → legal (enters all a v) t ≡ legal (enters all a w) t
    by_context (so b) = ap (λ u. legal u t) (enters_same all a b e)
    by_context (not_so b) = r (or_right (equalizes a) (free t) h b) (alike_enters all a e)

mutual
  pub free_legal : (t : Tree) {v w : Surroundings} → free t ≡ true → Alike v w → legal v t ≡ legal w t
  free_legal (leaf s t) f e = refl
  free_legal (node k cs) f e =
      let i = and_left (is_inner k) _ f in
      let l = slots_legal cs cs (positions k) (and_right (is_inner k) _ f) e in
      let s = stands_same k cs i e in
      λ j. rule k cs && (s j && l j)
  free_legal (list ts) f e = each_same ts f e

  slots_legal : (ts all : Forest) (ss : List Position) {v w : Surroundings} → free_slots ss ts ≡ true → Alike v w → legals all v ss ts ≡ legals all w ss ts
  slots_legal none all [] f e = refl
  slots_legal none all (s ∷ ss) f e = refl
  slots_legal (part t ts) all [] f e = refl
  slots_legal (part t ts) all (position o c g b a ∷ ss) f e =
      let x = one_legal all a t (and_left (equalizes a || free t) _ f) e (λ g h. free_legal t g h) in
      let y = slots_legal ts all ss (and_right (equalizes a || free t) _ f) e in
      λ j. x j && y j

  each_same : (ts : Forest) {v w : Surroundings} → free_each ts ≡ true → Alike v w → each_legal v ts ≡ each_legal w ts
  each_same none f e = refl
  each_same (part t ts) f e =
      let x = free_legal t (and_left (free t) _ f) e in
      let y = each_same ts (and_right (free t) _ f) e in
      λ j. x j && y j

-- ---- where no statement stands

-- the places of statements, of what is declared, of heads and of what modules are made of, by their numbers
abbrev pub stated_numbers : List ℕ
stated_numbers = 14 ∷ 29 ∷ 30 ∷ 31 ∷ 32 ∷ 33 ∷ 34 ∷ 35 ∷ 36 ∷ 37 ∷ 40 ∷ 41 ∷ 42 ∷ 43 ∷ 44 ∷ 45 ∷ 46 ∷ 55 ∷ 60 ∷ []

abbrev pub is_stated : Nonterminal → Bool
is_stated c = any_of (number c) stated_numbers

abbrev all_stated : List Nonterminal → Bool
all_stated [] = true
all_stated (d ∷ ds) = is_stated d && all_stated ds

program_stated : (k : ProgramKind) → all_stated (homes (program k)) ≡ true
program_stated (Specifier Imported) = refl
program_stated (Specifier _) = refl
program_stated (SpecifierAs Imported) = refl
program_stated (SpecifierAs _) = refl
program_stated _ = refl

statement_stated : (k : StatementKind) → all_stated (homes (statement k)) ≡ true
statement_stated (Var VarWord) = refl
statement_stated (Var _) = refl
statement_stated (ForDeclaration v) = refl
statement_stated (ForBinding v) = refl
statement_stated _ = refl

in_stated : (c : Nonterminal) (ds : List Nonterminal) → all_stated ds ≡ true → in_list c ds ≡ true → is_stated c ≡ true
in_stated c [] a h = cc
in_stated c (d ∷ ds) a h = by_first (either (takes c d)) (in_stated c ds)
  where
    by_first : Either' (takes c d) → (all_stated ds ≡ true → in_list c ds ≡ true → is_stated c ≡ true) → is_stated c ≡ true
    by_first (so t) r = subst (λ n. any_of n stated_numbers ≡ true) (sym (eqb-true (number c) (number d) (and_left (nat_eq (number c) (number d)) _ t))) (and_left (is_stated d) (all_stated ds) a)
    by_first (not_so t) r = r (and_right (is_stated d) (all_stated ds) a) (or_right (takes c d) (in_list c ds) h t)

clash : (b : Bool) → b ≡ true → b ≡ false → ⊥
clash true h e = cc
clash false h e = cc

not_stated : (c : Nonterminal) (ds : List Nonterminal) → is_stated c ≡ false → all_stated ds ≡ true → in_homes c ds ≡ true → ⊥
not_stated NullishLeft ds p a h = by_first (either (in_list (Expr 6) ds))
  where
    by_first : Either' (in_list (Expr 6) ds) → ⊥
    by_first (so t) = clash (is_stated (Expr 6)) (in_stated (Expr 6) ds a t) refl
    by_first (not_so t) = clash (is_stated NullishOnly) (in_stated NullishOnly ds a (or_right (in_list (Expr 6) ds) (in_list NullishOnly ds) h t)) refl
not_stated NewCallee ds p a h = clash (is_stated (Expr 17)) (in_stated (Expr 17) ds a h) refl
not_stated DotObject ds p a h = clash (is_stated MemberObject) (in_stated MemberObject ds a h) refl
not_stated ForOfHead ds p a h = cc
not_stated (Expr n) ds p a h = clash (is_stated (Expr n)) (in_stated (Expr n) ds a h) p
not_stated c ds p a h = clash (is_stated c) (in_stated c ds a h) p

kind_inner : (c : Nonterminal) (k : Kind) → is_stated c ≡ false → in_homes c (homes k) ≡ true → is_inner k ≡ true
kind_inner c (program k) p h = absurd (not_stated c (homes (program k)) p (program_stated k) h)
kind_inner c (statement k) p h = absurd (not_stated c (homes (statement k)) p (statement_stated k) h)
kind_inner c (function k) p h = refl
kind_inner c (expression k) p h = refl
kind_inner c (jsx k) p h = refl

-- ---- what stands in such a node stands at such a place too, or in a function

abbrev place_ok : Nonterminal → List Context → Bool
place_ok c a = equalizes a || not (is_stated c)

abbrev all_ok : List Position → Bool
all_ok [] = true
all_ok (position o c g b a ∷ ss) = place_ok c a && all_ok ss

function_ok : (k : FunctionKind) → all_ok (positions (function k)) ≡ true
function_ok (Method InObject) = refl
function_ok (Method _) = refl
function_ok (Getter InObject) = refl
function_ok (Getter _) = refl
function_ok (Setter InObject) = refl
function_ok (Setter _) = refl
function_ok (Field InObject) = refl
function_ok (Field _) = refl
function_ok (ArrayPat Binds) = refl
function_ok (ArrayPat _) = refl
function_ok (ObjectPat Binds) = refl
function_ok (ObjectPat _) = refl
function_ok (PropertyPat Binds) = refl
function_ok (PropertyPat _) = refl
function_ok (ShorthandPat Binds) = refl
function_ok (ShorthandPat _) = refl
function_ok (ShorthandInit Binds) = refl
function_ok (ShorthandInit _) = refl
function_ok (WithInit Binds) = refl
function_ok (WithInit _) = refl
function_ok (RestPat Binds) = refl
function_ok (RestPat _) = refl
function_ok (RestProperty Binds) = refl
function_ok (RestProperty _) = refl
function_ok _ = refl

expression_ok : (k : ExpressionKind) → all_ok (positions (expression k)) ≡ true
expression_ok (OpAssign Nullish) = refl
expression_ok (OpAssign _) = refl
expression_ok (Binary Nullish) = refl
expression_ok (Binary _) = refl
expression_ok (Unary Delete) = refl
expression_ok (Unary _) = refl
expression_ok (PrefixUpdate Increment) = refl
expression_ok (PrefixUpdate _) = refl
expression_ok (PostfixUpdate Increment) = refl
expression_ok (PostfixUpdate _) = refl
expression_ok (NameLink true) = refl
expression_ok (NameLink _) = refl
expression_ok (IndexLink true) = refl
expression_ok (IndexLink _) = refl
expression_ok (CallLink true) = refl
expression_ok (CallLink _) = refl
expression_ok (PlainTemplate true) = refl
expression_ok (PlainTemplate _) = refl
expression_ok (SubstitutedTemplate true) = refl
expression_ok (SubstitutedTemplate _) = refl
expression_ok (TemplateSpan true) = refl
expression_ok (TemplateSpan _) = refl
expression_ok _ = refl

jsx_ok : (k : JsxKind) → all_ok (positions (jsx k)) ≡ true
jsx_ok Element = refl
jsx_ok _ = refl

inner_ok : (k : Kind) → is_inner k ≡ true → all_ok (positions k) ≡ true
inner_ok (program k) h = cc
inner_ok (statement k) h = cc
inner_ok (function k) h = function_ok k
inner_ok (expression k) h = expression_ok k
inner_ok (jsx k) h = jsx_ok k

home_of : (c : Nonterminal) (k : Kind) (cs : Forest) → admits c (node k cs) ≡ true → in_homes c (homes k) ≡ true
home_of NewCallee k cs h = and_left (in_homes NewCallee (homes k)) _ h
home_of (Expr n) k cs h = h
home_of _ k cs h = h

node_home : (o : Form) (c : Nonterminal) (k : Kind) (cs : Forest) → shaped o c (node k cs) ≡ true → in_homes c (homes k) ≡ true
node_home Single c k cs h = home_of c k cs h
node_home _ c k cs h = cc

not_false : (b : Bool) → not b ≡ true → b ≡ false
not_false true h = cc
not_false false h = refl

one_free : (c : Nonterminal) (a : List Context) (t : Tree) → place_ok c a ≡ true → (is_stated c ≡ false → free t ≡ true) → (equalizes a || free t) ≡ true
one_free c a t p r = by_context (either (equalizes a))
  where
    by_context : Either' (equalizes a) → (equalizes a || free t) ≡ true
    by_context (so b) = subst (λ d. (d || free t) ≡ true) (sym b) refl
    by_context (not_so b) = subst (λ d. (d || free t) ≡ true) (sym b) (r (not_false (is_stated c) (or_right (equalizes a) _ p b)))

mutual
  free_tree : (t : Tree) (o : Form) (c : Nonterminal) → is_stated c ≡ false → shaped o c t ≡ true → fits_below c t ≡ true → free t ≡ true
  free_tree (leaf s t) o c p a f = refl
  free_tree (list ts) o c p a f = free_all ts c p f
  free_tree (node k cs) o c p a f =
      let i = kind_inner c k p (node_home o c k cs a) in
      and_both (is_inner k) _ i (free_parts cs (positions k) (inner_ok k i) f)

  free_parts : (ts : Forest) (ss : List Position) → all_ok ss ≡ true → fit_slots ss ts ≡ true → free_slots ss ts ≡ true
  free_parts none [] p f = refl
  free_parts none (s ∷ ss) p f = refl
  free_parts (part t ts) [] p f = refl
  free_parts (part t ts) (position o c g b a ∷ ss) p f =
      let r = and_right (shaped o c t) _ f in
      and_both (equalizes a || free t) _
      (one_free c a t (and_left (place_ok c a) (all_ok ss) p) (λ q. free_tree t o c q (and_left (shaped o c t) _ f) (and_left (fits_below c t) _ r)))
      (free_parts ts ss (and_right (place_ok c a) (all_ok ss) p) (and_right (fits_below c t) _ r))

  free_all : (ts : Forest) (c : Nonterminal) → is_stated c ≡ false → fit_each c ts ≡ true → free_each ts ≡ true
  free_all none c p f = refl
  free_all (part t ts) c p f =
      let r = and_right (admits c t) _ f in
      and_both (free t) (free_each ts)
      (free_tree t Single c p (and_left (admits c t) _ f) (and_left (fits_below c t) _ r))
      (free_all ts c p (and_right (fits_below c t) _ r))

-- ---- so what stands at such a place is read alike in the arrow function that is around it

pub arrow_legal : (c : Nonterminal) (t : Tree) (v : Surroundings) → is_stated c ≡ false → is c t ≡ true → legal v t ≡ legal (enter none InArrow v) t
arrow_legal c t v p h = free_legal t (free_tree t Single c p (and_left (admits c t) _ h) (and_right (admits c t) _ h)) (alike_arrow v)

pub arrow_read : {v : Surroundings} {b : Bool} {c : Nonterminal} {x y : Place} {t : Tree} → is_stated c ≡ false → IsRead v b c x t y → IsRead (enter none InArrow v) b c x t y
arrow_read {v} {c = c} {t = t} p r = record { is = r.is; is_legal = sym (arrow_legal c t v p r.is) ∙ r.is_legal; scans = r.scans; found = r.found }

pub arrow_back : {v : Surroundings} {b : Bool} {c : Nonterminal} {x y : Place} {t : Tree} → is_stated c ≡ false → IsRead (enter none InArrow v) b c x t y → IsRead v b c x t y
arrow_back {v} {c = c} {t = t} p r = record { is = r.is; is_legal = arrow_legal c t v p r.is ∙ r.is_legal; scans = r.scans; found = r.found }
