-- What goes through a block of what is given at the place of a statement are the `var` names of the definitions.
use Rattle.std.proofs.Common.{◌≡◌, ℕ, suc, List, [], ◌∷◌, ◌++◌, Bool, true, false, cond, ◌&&◌, not, refl, sym, ap, ◌∙◌}
use Rattle.std.proofs.lemmas.Bool.{false≢true}
use Rattle.jsx_tree.specs.Kinds.{DeclareWord, VarWord, Imported, Specifier, SpecifierAs, Var, Declarator, ForDeclaration, ForBinding, Switch, Catch, InObject, Binds, Method, Getter, Setter, Field, ArrayPat, ObjectPat, PropertyPat, ShorthandPat, ShorthandInit, WithInit, RestPat, RestProperty, Nullish, Delete, Increment, OpAssign, Binary, Unary, PrefixUpdate, PostfixUpdate, NameLink, IndexLink, CallLink, PlainTemplate, SubstitutedTemplate, TemplateSpan, Element, Kind, program, statement, function, expression, jsx, Tree, leaf, node, list, Forest, none, part}
use Rattle.jsx_tree.specs.Nonterminals.{Nonterminal, Pat, Declarators, Stmt, SubStmt, BlockOnly, CaseClause, CatchClause, ForInit, ForHead, ForOfHead}
use Rattle.jsx_tree.specs.Grammar.{NoTrailing}
use Rattle.jsx_tree.specs.Form.{Form, Single, Maybe, Several, Position, position, positions, at_most_one}
use Rattle.jsx_tree.specs.Sound.{each_node, each_nodes}
use Rattle.jsx_tree.specs.Scopes.{Path, below, AsVar, Declaration, sort_of, binds, bound, bound_parts, in_statement, vars, vars_parts, vars_each, is_function, is_var}
use Rattle.jsx_tree.proofs.Tokens.{and_left, and_right, and_both}
use Rattle.jsx_names.specs.Events.{Frame, Way, Simply, way, Mode, Plain, Exporting, Binding, mode, is_scope, frame, has_scope, inner, is_inner}
use Rattle.jsx_names.specs.Answers.{Named, all_of, is_passed}
use Rattle.jsx_names.specs.Given.{held, given, given_parts, given_each}
use Rattle.jsx_names.specs.Proper.{is_value, fits, stands, each_stands, has_form, fill, is_proper}
use Rattle.jsx_names.proofs.Quiet.{is_quiet, is_plain, plain_is, is_default, none_pass, of_parts, form_valued, quiet_tree}
use Rattle.jsx_names.proofs.Bound.{tied, form_tied, flagged, flagged_append, bound_tree, not_so}
use Rattle.jsx_names.proofs.Vars.{all_append, all_flagged, through, through_append, through_one, through_bound}

never : {A : Type 0} → false ≡ true → A
never e = absurd (false≢true e)

-- statements, their clauses and heads, and expressions
abbrev pub is_stated : Kind → Bool
is_stated (statement Declarator) = false
is_stated (statement k) = true
is_stated k = is_value k

abbrev mutual
  pub stated : Tree → Bool
  stated (leaf s t) = true
  stated (node k cs) = is_stated k
  stated (list ts) = each_stated ts

  pub each_stated : Forest → Bool
  each_stated none = true
  each_stated (part t ts) = stated t && each_stated ts

fits_stated : (k : Kind) (c : Nonterminal) → in_statement c ≡ true → fits c k ≡ true → is_stated k ≡ true
fits_stated (statement Declarator) Stmt i h = h
fits_stated (statement Declarator) SubStmt i h = h
fits_stated (statement Declarator) BlockOnly i h = h
fits_stated (statement Declarator) CaseClause i h = h
fits_stated (statement Declarator) CatchClause i h = h
fits_stated (statement Declarator) ForInit i h = h
fits_stated (statement Declarator) ForHead i h = h
fits_stated (statement Declarator) ForOfHead i h = h
fits_stated (statement Declarator) c i h = i
fits_stated (statement k) c i h = refl
fits_stated (program k) ForInit i h = h
fits_stated (program k) ForHead i h = h
fits_stated (program k) ForOfHead i h = h
fits_stated (program k) Stmt i h = never h
fits_stated (program k) SubStmt i h = never h
fits_stated (program k) BlockOnly i h = never h
fits_stated (program k) CaseClause i h = never h
fits_stated (program k) CatchClause i h = never h
fits_stated (program k) c i h = never i
fits_stated k c i h = refl

stands_stated : (c : Nonterminal) (t : Tree) → in_statement c ≡ true → stands c t ≡ true → stated t ≡ true
stands_stated c (leaf s x) i h = refl
stands_stated c (node k cs) i h = fits_stated k c i h
stands_stated c (list ts) i h = never h

each_stands_stated : (c : Nonterminal) (ts : Forest) → in_statement c ≡ true → each_stands c ts ≡ true → each_stated ts ≡ true
each_stands_stated c none i h = refl
each_stands_stated c (part t ts) i h = and_both _ _ (stands_stated c t i (and_left (stands c t) (each_stands c ts) h)) (each_stands_stated c ts i (and_right (stands c t) (each_stands c ts) h))

pub form_stated : (f : Form) (c : Nonterminal) (t : Tree) → in_statement c ≡ true → has_form f c t ≡ true → stated t ≡ true
form_stated Single c t i h = stands_stated c t i h
form_stated Maybe c (list ts) i h = each_stands_stated c ts i (and_right (at_most_one ts) (each_stands c ts) h)
form_stated Maybe c (leaf s x) i h = refl
form_stated Maybe c (node k cs) i h = never h
form_stated (Several s) c (list ts) i h = each_stands_stated c ts i h
form_stated (Several s) c (leaf a x) i h = refl
form_stated (Several s) c (node k cs) i h = never h

-- what goes through a block, as declarations
abbrev pub tally : List Named → List Declaration
tally ns = all_of (through ns)

pub tally_append : (ns ms : List Named) → tally (ns ++ ms) ≡ tally ns ++ tally ms
tally_append ns ms = ap all_of (through_append ns ms) ∙ all_append (through ns) (through ms)

pub tally_held : (b : Bool) (f : Frame) (ns : List Named) → (b ≡ true → is_passed f ≡ true) → tally (held b f ns) ≡ tally ns
tally_held true f ns h = ap all_of (through_one f ns (h refl))
tally_held false f ns h = refl

-- names that are bound otherwise than by `var`
abbrev is_lasting : Mode → Bool
is_lasting (Binding w s) = not (is_var s)
is_lasting m = false

lasting_none : (m : Mode) (q : Kind) (p : Path) (t : Tree) → is_lasting m ≡ true → tied t ≡ true → each_node is_proper t ≡ true → through (given m q p t) ≡ []
lasting_none Plain q p t e b h = never e
lasting_none Exporting q p t e b h = never e
lasting_none (Binding w s) q p t e b h = ap through (bound_tree w s q p t b h) ∙ through_bound w s p t ∙ ap (λ z. cond z (flagged w (bound s p t)) []) (not_so (is_var s) e)

-- a place of statements, of names that are bound otherwise, or of expressions
abbrev is_calm : Kind → Nonterminal → Bool
is_calm k c = cond (in_statement c) (is_plain (mode Plain k c)) (cond (is_lasting (mode Plain k c)) (binds c) (is_plain (mode Plain k c) && is_quiet c))

abbrev calm_inner : Kind → List Position → Bool
calm_inner k [] = true
calm_inner k (position f c g o a ∷ ss) = cond (is_inner k c) (is_calm k c) (not (in_statement c)) && calm_inner k ss

abbrev calm_outer : Kind → List Position → Bool
calm_outer k [] = true
calm_outer k (position f c g o a ∷ ss) = cond (is_inner k c) true (not (in_statement c) && is_calm k c) && calm_outer k ss

abbrev no_statement : List Position → Bool
no_statement [] = true
no_statement (position f c g o a ∷ ss) = not (in_statement c) && no_statement ss

abbrev is_vars : Kind → Bool
is_vars (statement (Var VarWord)) = true
is_vars (statement (ForDeclaration VarWord)) = true
is_vars (statement (ForBinding VarWord)) = true
is_vars k = false

abbrev calm_row : Kind → Bool
calm_row k = calm_outer k (positions k) && cond (is_function k) (no_statement (positions k)) (calm_inner k (positions k))

all_calm : (k : Kind) → is_stated k ≡ true → is_value k ≡ false → is_vars k ≡ false → calm_row k ≡ true
all_calm (statement Declarator) h v w = never h
all_calm (statement (Var VarWord)) h v w = never (sym w)
all_calm (statement (ForDeclaration VarWord)) h v w = never (sym w)
all_calm (statement (ForBinding VarWord)) h v w = never (sym w)
all_calm (statement k) h v w = refl
all_calm k h v w = never (sym v ∙ h)

abbrev silent_row : Kind → Bool
silent_row k = no_statement (positions k)

all_silent : (k : Kind) → is_value k ≡ true → silent_row k ≡ true
all_silent (program (Specifier Imported)) h = refl
all_silent (program (Specifier s)) h = refl
all_silent (program (SpecifierAs Imported)) h = refl
all_silent (program (SpecifierAs s)) h = refl
all_silent (program k) h = never h
all_silent (statement k) h = never h
all_silent (function (Method InObject)) h = refl
all_silent (function (Getter InObject)) h = refl
all_silent (function (Setter InObject)) h = refl
all_silent (function (Field InObject)) h = refl
all_silent (function (ArrayPat Binds)) h = refl
all_silent (function (ObjectPat Binds)) h = refl
all_silent (function (PropertyPat Binds)) h = refl
all_silent (function (ShorthandPat Binds)) h = refl
all_silent (function (ShorthandInit Binds)) h = refl
all_silent (function (WithInit Binds)) h = refl
all_silent (function (RestPat Binds)) h = refl
all_silent (function (RestProperty Binds)) h = refl
all_silent (expression (Binary Nullish)) h = refl
all_silent (expression (OpAssign Nullish)) h = refl
all_silent (expression (Unary Delete)) h = refl
all_silent (expression (PrefixUpdate Increment)) h = refl
all_silent (expression (PostfixUpdate Increment)) h = refl
all_silent (expression (NameLink true)) h = refl
all_silent (expression (IndexLink true)) h = refl
all_silent (expression (CallLink true)) h = refl
all_silent (expression (PlainTemplate true)) h = refl
all_silent (expression (SubstitutedTemplate true)) h = refl
all_silent (expression (TemplateSpan true)) h = refl
all_silent (jsx Element) h = refl
all_silent k h = refl

pub no_vars : (p : Path) (i : ℕ) (ss : List Position) (cs : Forest) → no_statement ss ≡ true → vars_parts p i ss cs ≡ []
no_vars p i [] cs h = refl
no_vars p i (s ∷ ss) none h = refl
no_vars p i (position f c g o a ∷ ss) (part t ts) h = ap (λ b. cond b (vars (below p i) t) [] ++ vars_parts p (suc i) ss ts) (not_so (in_statement c) (and_left (not (in_statement c)) (no_statement ss) h)) ∙ no_vars p (suc i) ss ts (and_right (not (in_statement c)) (no_statement ss) h)

vars_row : (k : Kind) (p : Path) (cs : Forest) → is_vars k ≡ false → vars p (node k cs) ≡ vars_parts p 0 (positions k) cs
vars_row (statement (Var VarWord)) p cs h = never (sym h)
vars_row (statement (ForDeclaration VarWord)) p cs h = never (sym h)
vars_row (statement (ForBinding VarWord)) p cs h = never (sym h)
vars_row k p cs h = refl

value_vars : (k : Kind) → is_value k ≡ true → is_vars k ≡ false
value_vars (statement k) h = never h
value_vars k h = refl

pub vars_of_value : (k : Kind) (p : Path) (cs : Forest) → is_value k ≡ true → vars p (node k cs) ≡ []
vars_of_value k p cs h = vars_row k p cs (value_vars k h) ∙ no_vars p 0 (positions k) cs (all_silent k h)

-- what declarators and the heads of `for` give
more_none : (w : Way) (ds : List Declaration) → flagged w ds ++ [] ≡ flagged w (ds ++ [])
more_none w ds = sym (flagged_append w ds [])

pub var_given : (m : Mode) (p : Path) (v : DeclareWord) (cs : Forest) → fill (positions (statement (Var v))) cs ≡ true → each_nodes is_proper cs ≡ true → given_parts true m (statement (Var v)) p 0 (positions (statement (Var v))) cs ≡ flagged (way m) (bound_parts (sort_of v) p 0 (positions (statement (Var v))) cs)
var_given m p v none f h = refl
var_given m p v (part t ts) f h = ap (λ z. z ++ []) (bound_tree (way m) (sort_of v) (statement (Var v)) (below p 0) t (form_tied (Several NoTrailing) Declarators t refl (and_left (has_form (Several NoTrailing) Declarators t) (fill [] ts) f)) (and_left _ _ h)) ∙ more_none (way m) (bound (sort_of v) (below p 0) t)

pub declaration_given : (m : Mode) (p : Path) (v : DeclareWord) (cs : Forest) → fill (positions (statement (ForDeclaration v))) cs ≡ true → each_nodes is_proper cs ≡ true → given_parts true m (statement (ForDeclaration v)) p 0 (positions (statement (ForDeclaration v))) cs ≡ flagged Simply (bound_parts (sort_of v) p 0 (positions (statement (ForDeclaration v))) cs)
declaration_given m p v none f h = refl
declaration_given m p v (part t ts) f h = ap (λ z. z ++ []) (bound_tree Simply (sort_of v) (statement (ForDeclaration v)) (below p 0) t (form_tied (Several NoTrailing) Declarators t refl (and_left (has_form (Several NoTrailing) Declarators t) (fill [] ts) f)) (and_left _ _ h)) ∙ more_none Simply (bound (sort_of v) (below p 0) t)

pub binding_given : (m : Mode) (p : Path) (v : DeclareWord) (cs : Forest) → fill (positions (statement (ForBinding v))) cs ≡ true → each_nodes is_proper cs ≡ true → given_parts true m (statement (ForBinding v)) p 0 (positions (statement (ForBinding v))) cs ≡ flagged Simply (bound_parts (sort_of v) p 0 (positions (statement (ForBinding v))) cs)
binding_given m p v none f h = refl
binding_given m p v (part t ts) f h = ap (λ z. z ++ []) (bound_tree Simply (sort_of v) (statement (ForBinding v)) (below p 0) t (form_tied Single (Pat Binds) t refl (and_left (has_form Single (Pat Binds) t) (fill [] ts) f)) (and_left _ _ h)) ∙ more_none Simply (bound (sort_of v) (below p 0) t)

-- a part of a statement
calm_part : (k : Kind) (c : Nonterminal) (f : Form) (p : Path) (t : Tree) → is_default k ≡ false → is_calm k c ≡ true → has_form f c t ≡ true → each_node is_proper t ≡ true → (in_statement c ≡ true → tally (given Plain k p t) ≡ vars p t) → tally (given (mode Plain k c) k p t) ≡ cond (in_statement c) (vars p t) []
calm_part k c f p t d e w h r = go (in_statement c) refl
  where
    there : (b : Bool) → is_lasting (mode Plain k c) ≡ b → cond b (binds c) (is_plain (mode Plain k c) && is_quiet c) ≡ true → tally (given (mode Plain k c) k p t) ≡ []
    there true x y = ap all_of (lasting_none (mode Plain k c) k p t x (form_tied f c t y w) h)
    there false x y = ap (λ z. tally (given z k p t)) (plain_is (mode Plain k c) (and_left _ _ y)) ∙ ap tally (quiet_tree k p t d (form_valued f c t (and_right (is_plain (mode Plain k c)) (is_quiet c) y) w) h)

    go : (b : Bool) → in_statement c ≡ b → tally (given (mode Plain k c) k p t) ≡ cond b (vars p t) []
    go true x = ap (λ z. tally (given z k p t)) (plain_is (mode Plain k c) (sym (ap (λ z. cond z (is_plain (mode Plain k c)) (cond (is_lasting (mode Plain k c)) (binds c) (is_plain (mode Plain k c) && is_quiet c))) x) ∙ e)) ∙ r x
    go false x = there (is_lasting (mode Plain k c)) refl (sym (ap (λ z. cond z (is_plain (mode Plain k c)) (cond (is_lasting (mode Plain k c)) (binds c) (is_plain (mode Plain k c) && is_quiet c))) x) ∙ e)

inner_part : (b : Bool) (k : Kind) (c : Nonterminal) (f : Form) (p : Path) (t : Tree) → is_default k ≡ false → cond b (is_calm k c) (not (in_statement c)) ≡ true → has_form f c t ≡ true → each_node is_proper t ≡ true → (in_statement c ≡ true → tally (given Plain k p t) ≡ vars p t) → tally (cond b (given (mode Plain k c) k p t) []) ≡ cond (in_statement c) (vars p t) []
inner_part true k c f p t d e w h r = calm_part k c f p t d e w h r
inner_part false k c f p t d e w h r = ap (λ z. cond z (vars p t) []) (sym (not_so (in_statement c) e))

outer_part : (b : Bool) (k : Kind) (c : Nonterminal) (f : Form) (p : Path) (t : Tree) → is_default k ≡ false → cond b true (not (in_statement c) && is_calm k c) ≡ true → has_form f c t ≡ true → each_node is_proper t ≡ true → tally (cond b [] (given (mode Plain k c) k p t)) ≡ []
outer_part true k c f p t d e w h = refl
outer_part false k c f p t d e w h =
    let off : in_statement c ≡ false = not_so (in_statement c) (and_left (not (in_statement c)) (is_calm k c) e) in
    calm_part k c f p t d (and_right (not (in_statement c)) (is_calm k c) e) w h (λ x. none_there x off) ∙ ap (λ z. cond z (vars p t) []) off
  where
    none_there : in_statement c ≡ true → in_statement c ≡ false → tally (given Plain k p t) ≡ vars p t
    none_there x y = never (sym y ∙ x)

statement_frame : (k : Kind) → is_stated k ≡ true → is_value k ≡ false → is_passed (frame k) ≡ true
statement_frame (statement Catch) h v = refl
statement_frame (statement k) h v = refl
statement_frame k h v = never (sym v ∙ h)

inner_passed : (k : Kind) → is_function k ≡ false → has_scope k ≡ true → is_passed (inner k) ≡ true
inner_passed (statement Switch) f h = refl
inner_passed k f h = never (sym f ∙ h)

function_shut : (k : Kind) → is_function k ≡ true → (has_scope k ≡ true)
function_shut (statement Switch) f = refl
function_shut k f = f

function_inner : (k : Kind) → is_function k ≡ true → is_passed (inner k) ≡ false
function_inner (statement Switch) f = never f
function_inner k f = refl

stated_default : (k : Kind) → is_stated k ≡ true → is_default k ≡ false
stated_default (program (Specifier s)) h = refl
stated_default (program (SpecifierAs s)) h = refl
stated_default (program k) h = never h
stated_default k h = refl

vars_case : (q k : Kind) (p : Path) (cs : Forest) → is_vars k ≡ true → fill (positions k) cs ≡ true → each_nodes is_proper cs ≡ true → tally (given Plain q p (node k cs)) ≡ vars p (node k cs)
vars_case q (statement (Var VarWord)) p none e f h = never f
vars_case q (statement (Var VarWord)) p (part t ts) e f h =
    let ds : List Declaration = bound_parts AsVar p 0 (positions (statement (Var VarWord))) (part t ts) in
    ap tally (var_given Plain p VarWord (part t ts) f h) ∙ ap all_of (through_bound Simply AsVar p (node (statement (Var VarWord)) (part t ts))) ∙ all_flagged Simply ds
vars_case q (statement (ForDeclaration VarWord)) p none e f h = never f
vars_case q (statement (ForDeclaration VarWord)) p (part t ts) e f h =
    let ds : List Declaration = bound_parts AsVar p 0 (positions (statement (ForDeclaration VarWord))) (part t ts) in
    ap tally (declaration_given Plain p VarWord (part t ts) f h) ∙ ap all_of (through_bound Simply AsVar p (node (statement (ForDeclaration VarWord)) (part t ts))) ∙ all_flagged Simply ds
vars_case q (statement (ForBinding VarWord)) p none e f h = never f
vars_case q (statement (ForBinding VarWord)) p (part t ts) e f h =
    let ds : List Declaration = bound_parts AsVar p 0 (positions (statement (ForBinding VarWord))) (part t ts) in
    ap tally (binding_given Plain p VarWord (part t ts) f h) ∙ ap all_of (through_bound Simply AsVar p (node (statement (ForBinding VarWord)) (part t ts))) ∙ all_flagged Simply ds
vars_case q k p cs e f h = never e

-- a statement whose parts are compared
vars_of_node : (q k : Kind) (p : Path) (cs : Forest) (os is : List Named) → is_stated k ≡ true → is_value k ≡ false → is_vars k ≡ false
    → tally os ≡ [] → (calm_inner k (positions k) ≡ true → tally is ≡ vars_parts p 0 (positions k) cs) → tally (of_parts q k os is) ≡ vars p (node k cs)
vars_of_node q k p cs os is e v w x y =
    tally_held (is_scope q k) (frame k) (os ++ held (has_scope k) (inner k) is) (λ z. statement_frame k e v)
    ∙ tally_append os (held (has_scope k) (inner k) is)
    ∙ ap (λ z. z ++ tally (held (has_scope k) (inner k) is)) x
    ∙ go (is_function k) refl (and_right (calm_outer k (positions k)) _ (all_calm k e v w))
    ∙ sym (vars_row k p cs w)
  where
    go : (b : Bool) → is_function k ≡ b → cond b (no_statement (positions k)) (calm_inner k (positions k)) ≡ true → tally (held (has_scope k) (inner k) is) ≡ vars_parts p 0 (positions k) cs
    go true f r = ap (λ z. tally (held z (inner k) is)) (function_shut k f) ∙ ap tally (none_pass (inner k) is (function_inner k f)) ∙ sym (no_vars p 0 (positions k) cs r)
    go false f r = tally_held (has_scope k) (inner k) is (inner_passed k f) ∙ y r

outer_calm : (k : Kind) → is_stated k ≡ true → is_value k ≡ false → is_vars k ≡ false → calm_outer k (positions k) ≡ true
outer_calm k e v w = and_left _ (cond (is_function k) (no_statement (positions k)) (calm_inner k (positions k))) (all_calm k e v w)

-- by what kind of node it is
vars_by : (q k : Kind) (p : Path) (cs : Forest) → is_stated k ≡ true → fill (positions k) cs ≡ true → each_nodes is_proper cs ≡ true
    → (is_value k ≡ true → given Plain q p (node k cs) ≡ [])
    → (is_value k ≡ false → is_vars k ≡ false → tally (given Plain q p (node k cs)) ≡ vars p (node k cs))
    → tally (given Plain q p (node k cs)) ≡ vars p (node k cs)
vars_by q k p cs e f h x y = go (is_value k) refl
  where
    also : (b : Bool) → is_vars k ≡ b → is_value k ≡ false → tally (given Plain q p (node k cs)) ≡ vars p (node k cs)
    also true w v = vars_case q k p cs w f h
    also false w v = y v w

    go : (b : Bool) → is_value k ≡ b → tally (given Plain q p (node k cs)) ≡ vars p (node k cs)
    go true v = ap tally (x v) ∙ sym (vars_of_value k p cs v)
    go false v = also (is_vars k) refl v

mutual
  pub vars_tree : (q : Kind) (p : Path) (t : Tree) → is_default q ≡ false → stated t ≡ true → each_node is_proper t ≡ true → tally (given Plain q p t) ≡ vars p t
  vars_tree q p (leaf s x) d e h = refl
  vars_tree q p (list ts) d e h = vars_list q p 0 ts d e h
  vars_tree q p (node k cs) d e h =
      let filled : fill (positions k) cs ≡ true = and_left (fill (positions k) cs) (each_nodes is_proper cs) h in
      let below' : each_nodes is_proper cs ≡ true = and_right (fill (positions k) cs) (each_nodes is_proper cs) h in
      vars_by q k p cs e filled below'
      (λ v. quiet_tree q p (node k cs) d v h)
      (λ v w. vars_of_node q k p cs (given_parts false Plain k p 0 (positions k) cs) (given_parts true Plain k p 0 (positions k) cs) e v w
      (vars_outers k p 0 (positions k) cs (stated_default k e) (outer_calm k e v w) filled below')
      (λ r. vars_inners k p 0 (positions k) cs (stated_default k e) r filled below'))

  vars_outers : (k : Kind) (p : Path) (i : ℕ) (ss : List Position) (cs : Forest) → is_default k ≡ false → calm_outer k ss ≡ true → fill ss cs ≡ true → each_nodes is_proper cs ≡ true → tally (given_parts false Plain k p i ss cs) ≡ []
  vars_outers k p i [] cs d e f h = refl
  vars_outers k p i (s ∷ ss) none d e f h = refl
  vars_outers k p i (position f c g o a ∷ ss) (part t ts) d e w h =
      tally_append (cond (is_inner k c) [] (given (mode Plain k c) k (below p i) t)) (given_parts false Plain k p (suc i) ss ts)
      ∙ ap (λ z. z ++ tally (given_parts false Plain k p (suc i) ss ts)) (outer_part (is_inner k c) k c f (below p i) t d (and_left (cond (is_inner k c) true (not (in_statement c) && is_calm k c)) (calm_outer k ss) e) (and_left (has_form f c t) (fill ss ts) w) (and_left (each_node is_proper t) (each_nodes is_proper ts) h))
      ∙ vars_outers k p (suc i) ss ts d (and_right (cond (is_inner k c) true (not (in_statement c) && is_calm k c)) (calm_outer k ss) e) (and_right (has_form f c t) (fill ss ts) w) (and_right (each_node is_proper t) (each_nodes is_proper ts) h)

  vars_inners : (k : Kind) (p : Path) (i : ℕ) (ss : List Position) (cs : Forest) → is_default k ≡ false → calm_inner k ss ≡ true → fill ss cs ≡ true → each_nodes is_proper cs ≡ true → tally (given_parts true Plain k p i ss cs) ≡ vars_parts p i ss cs
  vars_inners k p i [] cs d e f h = refl
  vars_inners k p i (s ∷ ss) none d e f h = refl
  vars_inners k p i (position f c g o a ∷ ss) (part t ts) d e w h =
      tally_append (cond (is_inner k c) (given (mode Plain k c) k (below p i) t) []) (given_parts true Plain k p (suc i) ss ts)
      ∙ ap (λ z. z ++ tally (given_parts true Plain k p (suc i) ss ts)) (inner_part (is_inner k c) k c f (below p i) t d (and_left (cond (is_inner k c) (is_calm k c) (not (in_statement c))) (calm_inner k ss) e) (and_left (has_form f c t) (fill ss ts) w) (and_left (each_node is_proper t) (each_nodes is_proper ts) h)
      (λ x. vars_tree k (below p i) t d (form_stated f c t x (and_left (has_form f c t) (fill ss ts) w)) (and_left (each_node is_proper t) (each_nodes is_proper ts) h)))
      ∙ ap (λ z. cond (in_statement c) (vars (below p i) t) [] ++ z) (vars_inners k p (suc i) ss ts d (and_right (cond (is_inner k c) (is_calm k c) (not (in_statement c))) (calm_inner k ss) e) (and_right (has_form f c t) (fill ss ts) w) (and_right (each_node is_proper t) (each_nodes is_proper ts) h))

  vars_list : (q : Kind) (p : Path) (i : ℕ) (ts : Forest) → is_default q ≡ false → each_stated ts ≡ true → each_nodes is_proper ts ≡ true → tally (given_each Plain q p i ts) ≡ vars_each p i ts
  vars_list q p i none d e h = refl
  vars_list q p i (part t ts) d e h =
      tally_append (given Plain q (below p i) t) (given_each Plain q p (suc i) ts)
      ∙ ap (λ z. z ++ tally (given_each Plain q p (suc i) ts)) (vars_tree q (below p i) t d (and_left (stated t) (each_stated ts) e) (and_left (each_node is_proper t) (each_nodes is_proper ts) h))
      ∙ ap (λ z. vars (below p i) t ++ z) (vars_list q p (suc i) ts d (and_right (stated t) (each_stated ts) e) (and_right (each_node is_proper t) (each_nodes is_proper ts) h))
