-- A statement that may stand below another gives `var` names alone.
use Rattle.std.proofs.Common.{◌≡◌, ℕ, suc, List, [], ◌∷◌, ◌++◌, Bool, true, false, cond, ◌&&◌, ◌||◌, not, refl, sym, ap, ◌∙◌}
use Rattle.jsx_tree.specs.Kinds.{VarWord, Block, Var, For, ForIn, ForOf, ForDeclaration, ForBinding, Catch, FunctionDecl, ClassDecl, Declarator, Case, Default, Kind, program, statement, Tree, leaf, node, list, Forest, none, part}
use Rattle.jsx_tree.specs.Nonterminals.{Nonterminal, SubStmt, BlockOnly, CatchClause}
use Rattle.jsx_tree.specs.Form.{Form, Single, Maybe, Several, Position, position, positions, at_most_one}
use Rattle.jsx_tree.specs.Sound.{each_node, each_nodes}
use Rattle.jsx_tree.specs.Scopes.{Path, below, AsVar, is_catch}
use Rattle.jsx_tree.proofs.Tokens.{and_left, and_right, and_both}
use Rattle.jsx_names.specs.Events.{Simply, Plain, mode, is_scope, frame, has_scope, inner, is_inner}
use Rattle.jsx_names.specs.Answers.{Named}
use Rattle.jsx_names.specs.Given.{passing, held, given, given_parts, given_each}
use Rattle.jsx_names.specs.Proper.{is_substatement, is_catching, fits, stands, each_stands, has_form, fill, is_proper}
use Rattle.jsx_names.proofs.Quiet.{is_quiet, is_plain, plain_is, is_default, of_parts, form_valued, quiet_outer, quiet_tree, quiet_outers}
use Rattle.jsx_names.proofs.Bound.{all_inner, no_outer}
use Rattle.jsx_names.proofs.Vars.{through, through_append, through_same, through_bound}
use Rattle.jsx_names.proofs.Stated.{var_given}

-- the places of statements below others
abbrev pub is_sub : Nonterminal → Bool
is_sub SubStmt = true
is_sub BlockOnly = true
is_sub CatchClause = true
is_sub c = false

abbrev pub is_steady : Kind → Bool
is_steady k = is_substatement k || is_catching k

abbrev mutual
  pub steady : Tree → Bool
  steady (leaf s t) = true
  steady (node k cs) = is_steady k
  steady (list ts) = each_steady ts

  pub each_steady : Forest → Bool
  each_steady none = true
  each_steady (part t ts) = steady t && each_steady ts

by_sub : (k : Kind) → is_substatement k ≡ true → is_steady k ≡ true
by_sub k h = ap (λ b. b || is_catching k) h

by_block : (k : Kind) → fits BlockOnly k ≡ true → is_steady k ≡ true
by_block (statement Block) h = refl
by_block k h = cc

by_catch : (k : Kind) → is_catching k ≡ true → is_steady k ≡ true
by_catch (statement Catch) h = refl
by_catch k h = cc

fits_steady : (k : Kind) (c : Nonterminal) → is_sub c ≡ true → fits c k ≡ true → is_steady k ≡ true
fits_steady k SubStmt i h = by_sub k h
fits_steady k BlockOnly i h = by_block k h
fits_steady k CatchClause i h = by_catch k h
fits_steady k c i h = cc

stands_steady : (c : Nonterminal) (t : Tree) → is_sub c ≡ true → stands c t ≡ true → steady t ≡ true
stands_steady c (leaf s x) i h = refl
stands_steady c (node k cs) i h = fits_steady k c i h
stands_steady c (list ts) i h = cc

each_stands_steady : (c : Nonterminal) (ts : Forest) → is_sub c ≡ true → each_stands c ts ≡ true → each_steady ts ≡ true
each_stands_steady c none i h = refl
each_stands_steady c (part t ts) i h = and_both _ _ (stands_steady c t i (and_left (stands c t) (each_stands c ts) h)) (each_stands_steady c ts i (and_right (stands c t) (each_stands c ts) h))

form_steady : (f : Form) (c : Nonterminal) (t : Tree) → is_sub c ≡ true → has_form f c t ≡ true → steady t ≡ true
form_steady Single c t i h = stands_steady c t i h
form_steady Maybe c (list ts) i h = each_stands_steady c ts i (and_right (at_most_one ts) (each_stands c ts) h)
form_steady Maybe c (leaf s x) i h = refl
form_steady Maybe c (node k cs) i h = cc
form_steady (Several s) c (list ts) i h = each_stands_steady c ts i h
form_steady (Several s) c (leaf a x) i h = refl
form_steady (Several s) c (node k cs) i h = cc

-- places of statements below others, and of expressions
abbrev mild : Kind → List Position → Bool
mild k [] = true
mild k (position f c g o a ∷ ss) = (is_plain (mode Plain k c) && (is_sub c || is_quiet c)) && mild k ss

abbrev is_var_statement : Kind → Bool
is_var_statement (statement (Var VarWord)) = true
is_var_statement k = false

abbrev steady_row : Kind → Bool
steady_row k = cond (has_scope k) (quiet_outer Plain k (positions k)) (mild k (positions k))

all_mild : (q k : Kind) → is_catch q ≡ false → is_steady k ≡ true → is_scope q k ≡ false → is_var_statement k ≡ false → steady_row k ≡ true
all_mild q (statement (Var VarWord)) d h i v = cc
all_mild q (statement Block) d h i v = steady_block (is_catch q) d i
  where
    steady_block : (b : Bool) → b ≡ false → not b ≡ false → steady_row (statement Block) ≡ true
    steady_block false e f = cc
    steady_block true e f = cc
all_mild q (statement For) d h i v = cc
all_mild q (statement ForIn) d h i v = cc
all_mild q (statement ForOf) d h i v = cc
all_mild q (statement Catch) d h i v = cc
all_mild q (statement (Var w)) d h i v = cc
all_mild q (statement FunctionDecl) d h i v = cc
all_mild q (statement ClassDecl) d h i v = cc
all_mild q (statement Declarator) d h i v = cc
all_mild q (statement (ForDeclaration w)) d h i v = cc
all_mild q (statement (ForBinding w)) d h i v = cc
all_mild q (statement Case) d h i v = cc
all_mild q (statement Default) d h i v = cc
all_mild q (statement k) d h i v = refl
all_mild q k d h i v = cc

steady_default : (k : Kind) → is_steady k ≡ true → is_default k ≡ false
steady_default (program k) h = cc
steady_default k h = refl

steady_no_catch : (q k : Kind) → is_steady k ≡ true → is_scope q k ≡ false → is_catch k ≡ false
steady_no_catch q (statement Catch) h i = i
steady_no_catch q k h i = refl

or_next : (a b : Bool) → a ≡ false → a || b ≡ true → b ≡ true
or_next false b e h = h
or_next true b e h = cc

mild_part : (k : Kind) (c : Nonterminal) (f : Form) (p : Path) (t : Tree) → is_default k ≡ false → (is_plain (mode Plain k c) && (is_sub c || is_quiet c)) ≡ true → has_form f c t ≡ true → each_node is_proper t ≡ true → (is_sub c ≡ true → through (given Plain k p t) ≡ given Plain k p t) → through (given (mode Plain k c) k p t) ≡ given (mode Plain k c) k p t
mild_part k c f p t d e w h r =
    ap (λ z. through (given z k p t)) plain ∙ go (is_sub c) refl ∙ ap (λ z. given z k p t) (sym plain)
  where
    plain : mode Plain k c ≡ Plain
    plain = plain_is (mode Plain k c) (and_left (is_plain (mode Plain k c)) (is_sub c || is_quiet c) e)

    go : (b : Bool) → is_sub c ≡ b → through (given Plain k p t) ≡ given Plain k p t
    go true x = r x
    go false x =
        let none : given Plain k p t ≡ [] = quiet_tree k p t d (form_valued f c t (or_next (is_sub c) (is_quiet c) x (and_right (is_plain (mode Plain k c)) (is_sub c || is_quiet c) e)) w) h in
        ap through none ∙ sym none

both_same : (xs ys : List Named) → through xs ≡ xs → through ys ≡ ys → through (xs ++ ys) ≡ xs ++ ys
both_same xs ys e f = through_append xs ys ∙ ap (λ z. z ++ through ys) e ∙ ap (λ z. xs ++ z) f

-- a node whose parts are compared
steady_node : (q k : Kind) (os is : List Named) → (has_scope k ≡ true → is_scope q k ≡ false → os ≡ []) → (has_scope k ≡ false → os ≡ []) → (is_scope q k ≡ false → has_scope k ≡ false → through is ≡ is) → through (of_parts q k os is) ≡ of_parts q k os is
steady_node q k os is x y z = go (is_scope q k) refl
  where
    rest : (b : Bool) → has_scope k ≡ b → is_scope q k ≡ false → through (os ++ held b (inner k) is) ≡ os ++ held b (inner k) is
    rest true e s = both_same os (passing (inner k ∷ []) is) (ap through (x e s) ∙ sym (x e s)) (through_same (inner k) is)
    rest false e s = both_same os is (ap through (y e) ∙ sym (y e)) (z s e)

    go : (b : Bool) → is_scope q k ≡ b → through (held b (frame k) (os ++ held (has_scope k) (inner k) is)) ≡ held b (frame k) (os ++ held (has_scope k) (inner k) is)
    go true e = through_same (frame k) (os ++ held (has_scope k) (inner k) is)
    go false e = rest (has_scope k) refl e

steady_var : (k : Kind) (p : Path) (cs : Forest) → is_var_statement k ≡ true → fill (positions k) cs ≡ true → each_nodes is_proper cs ≡ true → through (given_parts true Plain k p 0 (positions k) cs) ≡ given_parts true Plain k p 0 (positions k) cs
steady_var (statement (Var VarWord)) p cs e f h =
    ap through (var_given Plain p VarWord cs f h) ∙ through_bound Simply AsVar p (node (statement (Var VarWord)) cs) ∙ sym (var_given Plain p VarWord cs f h)
steady_var k p cs e f h = cc

steady_by : (k : Kind) (p : Path) (cs : Forest) → fill (positions k) cs ≡ true → each_nodes is_proper cs ≡ true → (is_var_statement k ≡ false → through (given_parts true Plain k p 0 (positions k) cs) ≡ given_parts true Plain k p 0 (positions k) cs) → through (given_parts true Plain k p 0 (positions k) cs) ≡ given_parts true Plain k p 0 (positions k) cs
steady_by k p cs f h x = go (is_var_statement k) refl
  where
    go : (b : Bool) → is_var_statement k ≡ b → through (given_parts true Plain k p 0 (positions k) cs) ≡ given_parts true Plain k p 0 (positions k) cs
    go true e = steady_var k p cs e f h
    go false e = x e

scoped_no_var : (k : Kind) → has_scope k ≡ true → is_var_statement k ≡ false
scoped_no_var (statement (Var VarWord)) h = sym h
scoped_no_var k h = refl

mutual
  pub steady_tree : (q : Kind) (p : Path) (t : Tree) → is_catch q ≡ false → steady t ≡ true → each_node is_proper t ≡ true → through (given Plain q p t) ≡ given Plain q p t
  steady_tree q p (leaf s x) d e h = refl
  steady_tree q p (list ts) d e h = steady_each q p 0 ts d e h
  steady_tree q p (node k cs) d e h =
      let filled : fill (positions k) cs ≡ true = and_left (fill (positions k) cs) (each_nodes is_proper cs) h in
      let below' : each_nodes is_proper cs ≡ true = and_right (fill (positions k) cs) (each_nodes is_proper cs) h in
      steady_node q k (given_parts false Plain k p 0 (positions k) cs) (given_parts true Plain k p 0 (positions k) cs)
      (λ x s. quiet_outers Plain k p 0 (positions k) cs (steady_default k e) (sym (ap (λ z. cond z (quiet_outer Plain k (positions k)) (mild k (positions k))) x) ∙ all_mild q k d e s (scoped_no_var k x)) filled below')
      (λ x. no_outer Plain k p 0 (positions k) cs x)
      (λ s x. steady_by k p cs filled below' (λ v.
      steadies k p 0 (positions k) cs (steady_default k e) (steady_no_catch q k e s) x (sym (ap (λ z. cond z (quiet_outer Plain k (positions k)) (mild k (positions k))) x) ∙ all_mild q k d e s v) filled below'))

  steadies : (k : Kind) (p : Path) (i : ℕ) (ss : List Position) (cs : Forest) → is_default k ≡ false → is_catch k ≡ false → has_scope k ≡ false → mild k ss ≡ true → fill ss cs ≡ true → each_nodes is_proper cs ≡ true → through (given_parts true Plain k p i ss cs) ≡ given_parts true Plain k p i ss cs
  steadies k p i [] cs d n b e w h = refl
  steadies k p i (s ∷ ss) none d n b e w h = refl
  steadies k p i (position f c g o a ∷ ss) (part t ts) d n b e w h =
      let it : is_inner k c ≡ true = all_inner k c b in
      both_same (cond (is_inner k c) (given (mode Plain k c) k (below p i) t) []) (given_parts true Plain k p (suc i) ss ts)
      (ap (λ z. through (cond z (given (mode Plain k c) k (below p i) t) [])) it
      ∙ mild_part k c f (below p i) t d (and_left (is_plain (mode Plain k c) && (is_sub c || is_quiet c)) (mild k ss) e) (and_left (has_form f c t) (fill ss ts) w) (and_left (each_node is_proper t) (each_nodes is_proper ts) h)
      (λ x. steady_tree k (below p i) t n (form_steady f c t x (and_left (has_form f c t) (fill ss ts) w)) (and_left (each_node is_proper t) (each_nodes is_proper ts) h))
      ∙ ap (λ z. cond z (given (mode Plain k c) k (below p i) t) []) (sym it))
      (steadies k p (suc i) ss ts d n b (and_right (is_plain (mode Plain k c) && (is_sub c || is_quiet c)) (mild k ss) e) (and_right (has_form f c t) (fill ss ts) w) (and_right (each_node is_proper t) (each_nodes is_proper ts) h))

  steady_each : (q : Kind) (p : Path) (i : ℕ) (ts : Forest) → is_catch q ≡ false → each_steady ts ≡ true → each_nodes is_proper ts ≡ true → through (given_each Plain q p i ts) ≡ given_each Plain q p i ts
  steady_each q p i none d e h = refl
  steady_each q p i (part t ts) d e h =
      both_same (given Plain q (below p i) t) (given_each Plain q p (suc i) ts)
      (steady_tree q (below p i) t d (and_left (steady t) (each_steady ts) e) (and_left (each_node is_proper t) (each_nodes is_proper ts) h))
      (steady_each q p (suc i) ts d (and_right (steady t) (each_steady ts) e) (and_right (each_node is_proper t) (each_nodes is_proper ts) h))
