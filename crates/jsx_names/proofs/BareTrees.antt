-- A proper program is proper with its parentheses off.
use Rattle.std.proofs.Common.{◌≡◌, List, [], ◌∷◌, Bool, true, false, ◌&&◌, ◌||◌, not, refl, sym, ap, ◌∙◌}
use Rattle.std.specs.Prelude.{IsTrue}
use Rattle.jsx_tree.specs.Kinds.{Imported, Exported, From, Binds, ParenTarget, Parenthesized, Kind, function, expression, Tree, leaf, node, list, Forest, none, part}
use Rattle.jsx_tree.specs.Nonterminals.{Nonterminal, Expr, SimpleTarget, Ident, BindingIdent, Name, StringOnly, Pat, Slot, PatProp, PatElement, Param, SetterParam, Declarators, Stmt, SubStmt, Item, DirectiveOnly, Body, BlockOnly, CaseClause, CatchClause, Declaration, ClassOnly, ForInit, ForHead, ForOfHead, ImportClause, ImportBindings, Specifiers, WholeProgram}
use Rattle.jsx_tree.specs.Form.{Form, Single, Maybe, Several, Position, position, positions, at_most_one}
use Rattle.jsx_base.specs.Token.{Text}
use Rattle.jsx_tree.specs.Form.{is}
use Rattle.jsx_tree.specs.Signs.{AfterExpr}
use Rattle.jsx_tree.specs.Spelling.{spelled}
use Rattle.jsx_tree.specs.Reading.{At, ended_at, scan, reads}
use Rattle.jsx_tree.specs.declared.text.Goal.{Goal}
use Rattle.jsx_tree.specs.Program.{Reads}
use Rattle.jsx_names.proofs.Homes.{is_proper_program}
use Rattle.jsx_tree.specs.Sound.{each_node, each_nodes}
use Rattle.jsx_tree.specs.Normal.{remade, remades, unwrapped_node, without_parentheses}
use Rattle.jsx_tree.proofs.Tokens.{and_left, and_right, and_both}
use Rattle.jsx_names.specs.Proper.{is_value, is_specifier, is_declaring, is_heading, fits, stands, each_stands, has_form, fill, is_proper, sided, each_sided, has_sides, sides, is_sided, proper}
use Rattle.jsx_names.proofs.ScopeNames.{never}

-- what stands in a pair
abbrev is_paired : Kind → Bool
is_paired (expression Parenthesized) = true
is_paired (function ParenTarget) = true
is_paired k = false

-- an expression, and no specifier
abbrev worth : Tree → Bool
worth (leaf s x) = true
worth (node k cs) = is_value k && not (is_specifier k)
worth (list ts) = false

abbrev bare : Tree → Tree
bare t = remade unwrapped_node t

abbrev bares : Forest → Forest
bares ts = remades unwrapped_node ts

kept_node : (k : Kind) (cs : Forest) → is_paired k ≡ false → unwrapped_node k cs ≡ node k cs
kept_node (expression Parenthesized) cs e = never (sym e)
kept_node (function ParenTarget) cs e = never (sym e)
kept_node k cs e = refl

-- where a pair stands, an expression does
or_second : (a b : Bool) → b ≡ true → a || b ≡ true
or_second true b h = refl
or_second false b h = h

expression_fits : (c : Nonterminal) (k : Kind) → fits c (expression Parenthesized) ≡ true → is_value k ≡ true → fits c k ≡ true
expression_fits WholeProgram k h v = never h
expression_fits Stmt k h v = never h
expression_fits SubStmt k h v = never h
expression_fits Item k h v = never h
expression_fits Declaration k h v = never h
expression_fits BlockOnly k h v = never h
expression_fits CaseClause k h v = never h
expression_fits CatchClause k h v = never h
expression_fits Body k h v = never h
expression_fits ClassOnly k h v = never h
expression_fits DirectiveOnly k h v = never h
expression_fits Declarators k h v = never h
expression_fits ImportClause k h v = never h
expression_fits ImportBindings k h v = never h
expression_fits Ident k h v = never h
expression_fits BindingIdent k h v = never h
expression_fits Name k h v = never h
expression_fits StringOnly k h v = never h
expression_fits Param k h v = never h
expression_fits SetterParam k h v = never h
expression_fits (Specifiers s) k h v = never h
expression_fits (Pat Binds) k h v = never h
expression_fits (Slot Binds) k h v = never h
expression_fits (PatElement Binds) k h v = never h
expression_fits (PatProp Binds) k h v = never h
expression_fits ForInit k h v = or_second (is_declaring k) (is_value k) v
expression_fits ForHead k h v = or_second (is_heading k) (is_value k) v
expression_fits ForOfHead k h v = or_second (is_heading k) (is_value k) v
expression_fits c k h v = v

target_fits : (c : Nonterminal) → fits c (function ParenTarget) ≡ true → fits c (expression Parenthesized) ≡ true
target_fits (Pat Binds) h = h
target_fits (Slot Binds) h = h
target_fits (PatElement Binds) h = h
target_fits (PatProp Binds) h = h
target_fits c h = h

paired_fits : (c : Nonterminal) (l k : Kind) → is_paired l ≡ true → fits c l ≡ true → is_value k ≡ true → fits c k ≡ true
paired_fits c (expression Parenthesized) k p h v = expression_fits c k h v
paired_fits c (function ParenTarget) k p h v = expression_fits c k (target_fits c h) v
paired_fits c l k p h v = never p

paired_value : (l : Kind) → is_paired l ≡ true → is_value l && not (is_specifier l) ≡ true
paired_value (expression Parenthesized) p = refl
paired_value (function ParenTarget) p = refl
paired_value l p = never p

-- no specifier stands where a pair does
paired_sided : (c : Nonterminal) (l k : Kind) (ls cs : Forest) → is_paired l ≡ true → sided c (node l ls) ≡ true → not (is_specifier k) ≡ true → sided c (node k cs) ≡ true
paired_sided (Specifiers Imported) (expression Parenthesized) k ls cs p h v = never h
paired_sided (Specifiers Exported) (expression Parenthesized) k ls cs p h v = never h
paired_sided (Specifiers From) (expression Parenthesized) k ls cs p h v = never h
paired_sided (Specifiers Imported) (function ParenTarget) k ls cs p h v = never h
paired_sided (Specifiers Exported) (function ParenTarget) k ls cs p h v = never h
paired_sided (Specifiers From) (function ParenTarget) k ls cs p h v = never h
paired_sided (Specifiers s) l k ls cs p h v = never p
paired_sided c l k ls cs p h v = v

abbrev is_worth_place : Nonterminal → Bool
is_worth_place (Expr n) = true
is_worth_place SimpleTarget = true
is_worth_place c = false

part_worth : (c : Nonterminal) (e : Tree) → is_worth_place c ≡ true → stands c e ≡ true → has_sides c e ≡ true → worth e ≡ true
part_worth c (leaf s x) p w h = refl
part_worth (Expr n) (node k cs) p w h = and_both (is_value k) (not (is_specifier k)) w h
part_worth SimpleTarget (node k cs) p w h = and_both (is_value k) (not (is_specifier k)) w h
part_worth c (node k cs) p w h = never p
part_worth c (list ts) p w h = never w

-- the part in a pair
paired_part : (l : Kind) (e : Tree) → is_paired l ≡ true → fill (positions l) (part e none) ≡ true → sides (positions l) (part e none) ≡ true → worth e ≡ true
paired_part (expression Parenthesized) e p w s = part_worth (Expr 0) e refl (and_left (stands (Expr 0) e) true w) (and_left (has_sides (Expr 0) e) true s)
paired_part (function ParenTarget) e p w s = part_worth SimpleTarget e refl (and_left (stands SimpleTarget e) true w) (and_left (has_sides SimpleTarget e) true s)
paired_part l e p w s = never p

no_part : (k : Kind) → is_paired k ≡ true → fill (positions k) none ≡ true → false ≡ true
no_part (expression Parenthesized) p w = w
no_part (function ParenTarget) p w = w
no_part k p w = never p

two_parts : (k : Kind) (e u : Tree) (us : Forest) → is_paired k ≡ true → fill (positions k) (part e (part u us)) ≡ true → false ≡ true
two_parts (expression Parenthesized) e u us p w = and_right (stands (Expr 0) e) false w
two_parts (function ParenTarget) e u us p w = and_right (stands SimpleTarget e) false w
two_parts k e u us p w = never p

off_node : (k : Kind) (e : Tree) → is_paired k ≡ true → unwrapped_node k (part e none) ≡ e
off_node (expression Parenthesized) e p = refl
off_node (function ParenTarget) e p = refl
off_node k e p = never p

-- ---- what is in a pair, all pairs off, is an expression still

mutual
  bare_worth : (t : Tree) → worth t ≡ true → each_node is_proper t ≡ true → each_node is_sided t ≡ true → worth (bare t) ≡ true
  bare_worth (leaf s x) v h z = refl
  bare_worth (list ts) v h z = never v
  bare_worth (node k cs) v h z = node_worth k cs (is_paired k) refl v (and_left (fill (positions k) cs) (each_nodes is_proper cs) h) (and_left (sides (positions k) cs) (each_nodes is_sided cs) z) (and_right (fill (positions k) cs) (each_nodes is_proper cs) h) (and_right (sides (positions k) cs) (each_nodes is_sided cs) z)

  node_worth : (k : Kind) (cs : Forest) (b : Bool) → is_paired k ≡ b → is_value k && not (is_specifier k) ≡ true → fill (positions k) cs ≡ true → sides (positions k) cs ≡ true → each_nodes is_proper cs ≡ true → each_nodes is_sided cs ≡ true → worth (unwrapped_node k (bares cs)) ≡ true
  node_worth k cs false p v w s h z = ap worth (kept_node k (bares cs) p) ∙ v
  node_worth k none true p v w s h z = never (no_part k p w)
  node_worth k (part e (part u us)) true p v w s h z = never (two_parts k e u us p w)
  node_worth k (part e none) true p v w s h z = ap worth (off_node k (bare e) p) ∙ bare_worth e (paired_part k e p w s) (and_left (each_node is_proper e) true h) (and_left (each_node is_sided e) true z)

-- ---- each place takes what is left there

worth_stands : (c : Nonterminal) (k : Kind) (u : Tree) → is_paired k ≡ true → fits c k ≡ true → worth u ≡ true → stands c u ≡ true
worth_stands c k (leaf s x) p h v = refl
worth_stands c k (node l cs) p h v = paired_fits c k l p h (and_left (is_value l) (not (is_specifier l)) v)
worth_stands c k (list ts) p h v = never v

paired_leaf : (c : Nonterminal) (k : Kind) (cs : Forest) (u : Tree) → is_paired k ≡ true → sided c (node k cs) ≡ true → worth u ≡ true → has_sides c u ≡ true
paired_leaf (Specifiers Imported) (expression Parenthesized) cs u p h v = never h
paired_leaf (Specifiers Exported) (expression Parenthesized) cs u p h v = never h
paired_leaf (Specifiers From) (expression Parenthesized) cs u p h v = never h
paired_leaf (Specifiers Imported) (function ParenTarget) cs u p h v = never h
paired_leaf (Specifiers Exported) (function ParenTarget) cs u p h v = never h
paired_leaf (Specifiers From) (function ParenTarget) cs u p h v = never h
paired_leaf (Specifiers s) k cs u p h v = never p
paired_leaf c k cs (list ts) p h v = never v
paired_leaf c k cs (node l ls) p h v = and_right (is_value l) (not (is_specifier l)) v
paired_leaf c k cs (leaf s x) p h v = refl

stands_node : (c : Nonterminal) (k : Kind) (cs : Forest) (b : Bool) → is_paired k ≡ b → fits c k ≡ true → (is_paired k ≡ true → worth (unwrapped_node k (bares cs)) ≡ true) → stands c (unwrapped_node k (bares cs)) ≡ true
stands_node c k cs true p h v = worth_stands c k (unwrapped_node k (bares cs)) p h (v p)
stands_node c k cs false p h v = ap (stands c) (kept_node k (bares cs) p) ∙ h

sided_part : (c : Nonterminal) (k : Kind) (cs ds : Forest) → sided c (node k cs) ≡ true → has_sides c (node k ds) ≡ true
sided_part (Specifiers s) k cs ds h = h
sided_part c k cs ds h = h

sided_node : (c : Nonterminal) (k : Kind) (cs : Forest) (b : Bool) → is_paired k ≡ b → sided c (node k cs) ≡ true → (is_paired k ≡ true → worth (unwrapped_node k (bares cs)) ≡ true) → has_sides c (unwrapped_node k (bares cs)) ≡ true
sided_node c k cs true p h v = paired_leaf c k cs (unwrapped_node k (bares cs)) p h (v p)
sided_node c k cs false p h v = ap (has_sides c) (kept_node k (bares cs) p) ∙ sided_part c k cs (bares cs) h

stands_bare : (c : Nonterminal) (t : Tree) → stands c t ≡ true → each_node is_proper t ≡ true → each_node is_sided t ≡ true → stands c (bare t) ≡ true
stands_bare c (leaf s x) w h z = refl
stands_bare c (list ts) w h z = never w
stands_bare c (node k cs) w h z = stands_node c k cs (is_paired k) refl w (λ p. bare_worth (node k cs) (paired_value k p) h z)

each_stands_bare : (c : Nonterminal) (ts : Forest) → each_stands c ts ≡ true → each_nodes is_proper ts ≡ true → each_nodes is_sided ts ≡ true → each_stands c (bares ts) ≡ true
each_stands_bare c none w h z = refl
each_stands_bare c (part t ts) w h z =
    and_both (stands c (bare t)) (each_stands c (bares ts))
    (stands_bare c t (and_left (stands c t) (each_stands c ts) w) (and_left (each_node is_proper t) (each_nodes is_proper ts) h) (and_left (each_node is_sided t) (each_nodes is_sided ts) z))
    (each_stands_bare c ts (and_right (stands c t) (each_stands c ts) w) (and_right (each_node is_proper t) (each_nodes is_proper ts) h) (and_right (each_node is_sided t) (each_nodes is_sided ts) z))

one_bare : (ts : Forest) → at_most_one ts ≡ true → at_most_one (bares ts) ≡ true
one_bare none h = refl
one_bare (part t none) h = refl
one_bare (part t (part u us)) h = never h

form_bare : (f : Form) (c : Nonterminal) (t : Tree) → has_form f c t ≡ true → each_node is_proper t ≡ true → each_node is_sided t ≡ true → has_form f c (bare t) ≡ true
form_bare Single c t w h z = stands_bare c t w h z
form_bare Maybe c (list ts) w h z = and_both (at_most_one (bares ts)) (each_stands c (bares ts)) (one_bare ts (and_left (at_most_one ts) (each_stands c ts) w)) (each_stands_bare c ts (and_right (at_most_one ts) (each_stands c ts) w) h z)
form_bare Maybe c (leaf s x) w h z = never w
form_bare Maybe c (node k cs) w h z = never w
form_bare (Several l) c (list ts) w h z = each_stands_bare c ts w h z
form_bare (Several l) c (leaf s x) w h z = never w
form_bare (Several l) c (node k cs) w h z = never w

sides_bare : (c : Nonterminal) (t : Tree) → stands c t ≡ true → sided c t ≡ true → each_node is_proper t ≡ true → each_node is_sided t ≡ true → has_sides c (bare t) ≡ true
sides_bare c (leaf a x) w s h z = s
sides_bare c (node k cs) w s h z = sided_node c k cs (is_paired k) refl s (λ p. bare_worth (node k cs) (paired_value k p) h z)
sides_bare c (list ts) w s h z = never w

-- what stands in a list is no list
sided_tree : (c : Nonterminal) (u : Tree) → stands c u ≡ true → has_sides c u ≡ true → sided c u ≡ true
sided_tree c (leaf s x) w h = h
sided_tree c (node k cs) w h = h
sided_tree c (list ts) w h = never w

each_sided_bare : (c : Nonterminal) (ts : Forest) → each_stands c ts ≡ true → each_sided c ts ≡ true → each_nodes is_proper ts ≡ true → each_nodes is_sided ts ≡ true → each_sided c (bares ts) ≡ true
each_sided_bare c none w s h z = refl
each_sided_bare c (part t ts) w s h z =
    and_both (sided c (bare t)) (each_sided c (bares ts))
    (sided_tree c (bare t)
    (stands_bare c t (and_left (stands c t) (each_stands c ts) w) (and_left (each_node is_proper t) (each_nodes is_proper ts) h) (and_left (each_node is_sided t) (each_nodes is_sided ts) z))
    (sides_bare c t (and_left (stands c t) (each_stands c ts) w) (and_left (sided c t) (each_sided c ts) s) (and_left (each_node is_proper t) (each_nodes is_proper ts) h) (and_left (each_node is_sided t) (each_nodes is_sided ts) z)))
    (each_sided_bare c ts (and_right (stands c t) (each_stands c ts) w) (and_right (sided c t) (each_sided c ts) s) (and_right (each_node is_proper t) (each_nodes is_proper ts) h) (and_right (each_node is_sided t) (each_nodes is_sided ts) z))

form_sided : (f : Form) (c : Nonterminal) (t : Tree) → has_form f c t ≡ true → has_sides c t ≡ true → each_node is_proper t ≡ true → each_node is_sided t ≡ true → has_sides c (bare t) ≡ true
form_sided Single c (leaf a x) w s h z = s
form_sided Single c (node k cs) w s h z = sides_bare c (node k cs) w s h z
form_sided Single c (list ts) w s h z = never w
form_sided Maybe c (list ts) w s h z = each_sided_bare c ts (and_right (at_most_one ts) (each_stands c ts) w) s h z
form_sided Maybe c (leaf a x) w s h z = never w
form_sided Maybe c (node k cs) w s h z = never w
form_sided (Several l) c (list ts) w s h z = each_sided_bare c ts w s h z
form_sided (Several l) c (leaf a x) w s h z = never w
form_sided (Several l) c (node k cs) w s h z = never w

fill_bare : (ss : List Position) (cs : Forest) → fill ss cs ≡ true → each_nodes is_proper cs ≡ true → each_nodes is_sided cs ≡ true → fill ss (bares cs) ≡ true
fill_bare [] none w h z = refl
fill_bare [] (part t ts) w h z = never w
fill_bare (position f c g o a ∷ ss) none w h z = never w
fill_bare (position f c g o a ∷ ss) (part t ts) w h z =
    and_both (has_form f c (bare t)) (fill ss (bares ts))
    (form_bare f c t (and_left (has_form f c t) (fill ss ts) w) (and_left (each_node is_proper t) (each_nodes is_proper ts) h) (and_left (each_node is_sided t) (each_nodes is_sided ts) z))
    (fill_bare ss ts (and_right (has_form f c t) (fill ss ts) w) (and_right (each_node is_proper t) (each_nodes is_proper ts) h) (and_right (each_node is_sided t) (each_nodes is_sided ts) z))

sides_of_bare : (ss : List Position) (cs : Forest) → fill ss cs ≡ true → sides ss cs ≡ true → each_nodes is_proper cs ≡ true → each_nodes is_sided cs ≡ true → sides ss (bares cs) ≡ true
sides_of_bare [] none w s h z = refl
sides_of_bare [] (part t ts) w s h z = never w
sides_of_bare (position f c g o a ∷ ss) none w s h z = never w
sides_of_bare (position f c g o a ∷ ss) (part t ts) w s h z =
    and_both (has_sides c (bare t)) (sides ss (bares ts))
    (form_sided f c t (and_left (has_form f c t) (fill ss ts) w) (and_left (has_sides c t) (sides ss ts) s) (and_left (each_node is_proper t) (each_nodes is_proper ts) h) (and_left (each_node is_sided t) (each_nodes is_sided ts) z))
    (sides_of_bare ss ts (and_right (has_form f c t) (fill ss ts) w) (and_right (has_sides c t) (sides ss ts) s) (and_right (each_node is_proper t) (each_nodes is_proper ts) h) (and_right (each_node is_sided t) (each_nodes is_sided ts) z))

-- ---- the tests of all nodes

node_bare : (f : Kind → Forest → Bool) (k : Kind) (cs : Forest) (b : Bool) → is_paired k ≡ b → fill (positions k) cs ≡ true → (is_paired k ≡ false → f k (bares cs) ≡ true) → each_nodes f (bares cs) ≡ true → each_node f (unwrapped_node k (bares cs)) ≡ true
node_bare f k cs false p w g r = ap (each_node f) (kept_node k (bares cs) p) ∙ and_both (f k (bares cs)) (each_nodes f (bares cs)) (g p) r
node_bare f k none true p w g r = never (no_part k p w)
node_bare f k (part e (part u us)) true p w g r = never (two_parts k e u us p w)
node_bare f k (part e none) true p w g r = ap (each_node f) (off_node k (bare e) p) ∙ and_left (each_node f (bare e)) true r

mutual
  bare_proper : (t : Tree) → each_node is_proper t ≡ true → each_node is_sided t ≡ true → each_node is_proper (bare t) ≡ true
  bare_proper (leaf s x) h z = refl
  bare_proper (list ts) h z = bares_proper ts h z
  bare_proper (node k cs) h z =
      node_bare is_proper k cs (is_paired k) refl (and_left (fill (positions k) cs) (each_nodes is_proper cs) h)
      (λ p. fill_bare (positions k) cs (and_left (fill (positions k) cs) (each_nodes is_proper cs) h) (and_right (fill (positions k) cs) (each_nodes is_proper cs) h) (and_right (sides (positions k) cs) (each_nodes is_sided cs) z))
      (bares_proper cs (and_right (fill (positions k) cs) (each_nodes is_proper cs) h) (and_right (sides (positions k) cs) (each_nodes is_sided cs) z))

  bares_proper : (ts : Forest) → each_nodes is_proper ts ≡ true → each_nodes is_sided ts ≡ true → each_nodes is_proper (bares ts) ≡ true
  bares_proper none h z = refl
  bares_proper (part t ts) h z =
      and_both (each_node is_proper (bare t)) (each_nodes is_proper (bares ts))
      (bare_proper t (and_left (each_node is_proper t) (each_nodes is_proper ts) h) (and_left (each_node is_sided t) (each_nodes is_sided ts) z))
      (bares_proper ts (and_right (each_node is_proper t) (each_nodes is_proper ts) h) (and_right (each_node is_sided t) (each_nodes is_sided ts) z))

mutual
  bare_sided : (t : Tree) → each_node is_proper t ≡ true → each_node is_sided t ≡ true → each_node is_sided (bare t) ≡ true
  bare_sided (leaf s x) h z = refl
  bare_sided (list ts) h z = bares_sided ts h z
  bare_sided (node k cs) h z =
      node_bare is_sided k cs (is_paired k) refl (and_left (fill (positions k) cs) (each_nodes is_proper cs) h)
      (λ p. sides_of_bare (positions k) cs (and_left (fill (positions k) cs) (each_nodes is_proper cs) h) (and_left (sides (positions k) cs) (each_nodes is_sided cs) z) (and_right (fill (positions k) cs) (each_nodes is_proper cs) h) (and_right (sides (positions k) cs) (each_nodes is_sided cs) z))
      (bares_sided cs (and_right (fill (positions k) cs) (each_nodes is_proper cs) h) (and_right (sides (positions k) cs) (each_nodes is_sided cs) z))

  bares_sided : (ts : Forest) → each_nodes is_proper ts ≡ true → each_nodes is_sided ts ≡ true → each_nodes is_sided (bares ts) ≡ true
  bares_sided none h z = refl
  bares_sided (part t ts) h z =
      and_both (each_node is_sided (bare t)) (each_nodes is_sided (bares ts))
      (bare_sided t (and_left (each_node is_proper t) (each_nodes is_proper ts) h) (and_left (each_node is_sided t) (each_nodes is_sided ts) z))
      (bares_sided ts (and_right (each_node is_proper t) (each_nodes is_proper ts) h) (and_right (each_node is_sided t) (each_nodes is_sided ts) z))

pub bare_program : (t : Tree) → proper t ≡ true → proper (without_parentheses t) ≡ true
bare_program t e =
    let w : stands WholeProgram t ≡ true = and_left (stands WholeProgram t) (each_node is_proper t && each_node is_sided t) e in
    let r = and_right (stands WholeProgram t) (each_node is_proper t && each_node is_sided t) e in
    let h : each_node is_proper t ≡ true = and_left (each_node is_proper t) (each_node is_sided t) r in
    let z : each_node is_sided t ≡ true = and_right (each_node is_proper t) (each_node is_sided t) r in
    and_both (stands WholeProgram (bare t)) (each_node is_proper (bare t) && each_node is_sided (bare t)) (stands_bare WholeProgram t w h z)
    (and_both (each_node is_proper (bare t)) (each_node is_sided (bare t)) (bare_proper t h z) (bare_sided t h z))

-- the tree that a text reads as
is_so : (b : Bool) → IsTrue b → b ≡ true
is_so true h = refl
is_so false h = cc

pub read_proper : (goal : Goal) (text : Text) (t : Tree) → Reads goal text t → proper t ≡ true
read_proper goal text t r = is_proper_program t (and_left (is WholeProgram t) (ended_at (scan (At [] AfterExpr text) (spelled t))) (is_so (reads text t) r.read))

pub read_bare : (goal : Goal) (text : Text) (t : Tree) → Reads goal text t → proper (without_parentheses t) ≡ true
read_bare goal text t r = bare_program t (read_proper goal text t r)
