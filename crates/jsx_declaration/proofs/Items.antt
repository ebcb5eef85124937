-- Statements of the language so far.
use Rattle.std.proofs.Common.{◌≡◌, ◌≤◌, ℕ, suc, max, arith, Bool, true, false, not, cond, List, [], ◌∷◌, refl, sym, ◌∙◌, ap, subst}
use Rattle.std.specs.Prelude.{IsTrue, codes, ◌&&◌}
use Rattle.jsx_base.specs.Token.{Operator, Punctuator, is_token, among, token, same}
use Rattle.jsx_tree.specs.Signs.{AfterExpr, AfterBinding, Sign, Unless, Ends}
use Rattle.jsx_tree.specs.Kinds.{DeclareWord, VarWord, LetWord, ConstWord, Var, Declarator, ForDeclaration, ExprStmt, Binds, Kind, statement, Tree, leaf, node, list, Forest, none, part}
use Rattle.jsx_tree.specs.Nonterminals.{Nonterminal, Expr, Pat, Declarators}
use Rattle.jsx_tree.specs.Grammar.{NoTrailing, Part, Fixed, Many, key, pun, heads, semi}
use Rattle.jsx_tree.specs.Form.{admits, fits_below}
use Rattle.jsx_tree.specs.Reading.{Place, Lost, At, forth}
use Rattle.jsx_tree.specs.StaticRules.{Surroundings, all_of, list_rule, has_init}
use Rattle.jsx_tree.specs.Walk.{is_found, nothing, one, Piece, piece, Given, Past, sign, tree, absent, present, Walk, done, next, around, steady}
use Rattle.jsx_tree.specs.Stops.{going}
use Rattle.jsx_tree.specs.Language.{Language, Whole}
use Rattle.jsx_tree.specs.Answers.{Moves, Stuck, Only, Barred, OnlyRow, NoRow, NoNode, BuiltNode}
use Rattle.jsx_tree.specs.Faults.{Fault, Unread, Deep, outer, Shallow, part_depth, deepest, given_depth}
use Rattle.jsx_operand.specs.SoFar.{Staged, so_far}
use Rattle.jsx_token.specs.Marks.{ends_so_far, row_so_far}
use Rattle.jsx_tree.proofs.Tokens.{and_left, and_right, and_both}
use Rattle.jsx_tree.proofs.Apart.{clash}
use Rattle.jsx_tree.proofs.Rows.Bridge.{found_at}
use Rattle.jsx_tree.proofs.Rows.Stopping.{raw_of, not_is, is_not, stays}
use Rattle.jsx_tree.proofs.Rows.Guarded.{to_grammar, whole_walk}
use Rattle.jsx_tree.proofs.Rows.Bodies.{plain}
use Rattle.jsx_tree.proofs.Rows.Steps.{bar, on, then', end, only_sign, both}
use Rattle.jsx_tree.proofs.Rows.Turns.{Turn, prepend, turn_only, whole_of}
use Rattle.jsx_tree.proofs.Rows.Lists.{all_with}
use Rattle.jsx_tree.proofs.Rows.Optionals.{turn_absent, present_last}
use Rattle.jsx_tree.proofs.Rows.Laws.{lost_barred, end_found, start_found}
use Rattle.jsx_tree.proofs.Rows.Placing.{Chosen, OnlyAt, NoneAt, then_at, only_at, barred_flat, free_around, moved}
use Rattle.jsx_operand.proofs.OfSoFar.{of_so_far}
use Rattle.jsx_operand.proofs.Patterns.{AtPattern, named, array, object, at_pattern, pattern_settled}
use Rattle.jsx_operand.proofs.Homes.{no_list, Taken, taken_by, home_of}
use Rattle.jsx_declaration.specs.Initials.{has_value}
use Rattle.jsx_operand.proofs.Standing.{standing}
use Rattle.jsx_tree.proofs.Rows.Firsts.{kind_home}
use Rattle.jsx_tree.proofs.Depth.Shallow.{shallow_first, shallow_up}
use Rattle.jsx_tree.proofs.Depth.Nodes.{depth_node}
use Rattle.jsx_token.specs.Growths.{settled}
use Rattle.jsx_operand.proofs.Values.{is_next, found_next}
use Rattle.jsx_operand.proofs.Headless.{no_heads}
use Rattle.jsx_operand.specs.Outgrown.{Outgrown}
use Rattle.jsx_operand.proofs.Outgrown.{outgrown_deep}

-- ---- a variable and its initializer

abbrev is_declarator : Kind → Bool
is_declarator (statement Declarator) = true
is_declarator k = false

declarator_is : (k : Kind) → is_declarator k ≡ true → k ≡ statement Declarator
declarator_is (statement Declarator) h = refl
declarator_is _ h = cc

pub bound_kind : (l : Kind) (ts : Forest) → Taken l → admits Declarators (node l ts) ≡ true → l ≡ statement Declarator
bound_kind l ts t h = declarator_is l (standing Declarators is_declarator refl l t (kind_home Declarators l ts h))

bound_chosen : {v : Surroundings} {x : Place} → Chosen so_far v Declarators (statement Declarator) x
bound_chosen = record { no_leaf = λ s t y w. let bad = w.reads.staged in cc; kind = λ l ts y w. bound_kind l ts (taken_by w.reads) (home_of w.reads) }

-- where a name that is bound ended, an initializer goes on with it
pub bound_next : (a : Place) {b : Place} → settled a ≡ true → b ≡ forth (Ends AfterBinding) a → is_next (codes "=") b ≡ true → ends_so_far Declarators b ≡ false
bound_next (At q AfterExpr text) s e h = subst (λ p. ends_so_far Declarators p ≡ false) (sym e) (stop (subst (λ p. is_next (codes "=") p ≡ true) e h))
  where
    stop : is_next (codes "=") (At q AfterBinding text) ≡ true → ends_so_far Declarators (At q AfterBinding text) ≡ false
    stop h = let x = token Operator false text in (λ i. not (among (raw_of Punctuator (codes "=") x h i) (going 1) && h i))
bound_next Lost s e h = cc
bound_next (At q _ text) s e h = cc

not_lost : (b : Bool) (y : Place) → IsTrue (is_found y) → cond b y Lost ≡ Lost → b ≡ false
not_lost true y f e = let bad : IsTrue (is_found Lost) = subst (λ p. IsTrue (is_found p)) e f in cc
not_lost false y f e = refl

bound_ends : (a : Place) {b : Place} → settled a ≡ true → b ≡ forth (Ends AfterBinding) a → Stuck (pun "=") b → ends_so_far Declarators b ≡ true
bound_ends (At q AfterExpr text) s e k = subst (λ p. ends_so_far Declarators p ≡ true) (sym e) (stop (subst (λ p. forth (pun "=") p ≡ Lost) e k.is))
  where
    and_false : (a : Bool) → (a && false) ≡ false
    and_false true = refl
    and_false false = refl

    stop : forth (pun "=") (At q AfterBinding text) ≡ Lost → ends_so_far Declarators (At q AfterBinding text) ≡ true
    stop h =
        let same' : token Operator (same q []) text ≡ token Operator false text = ap (λ v. token Operator v text) (is_not _ s) in
        let n = ap (λ x. is_token x Punctuator (codes "=")) (sym same') ∙ not_lost _ (At (codes "=") AfterExpr (token Operator (same q []) text).rest) refl h in
        not_is _ (ap (λ b. among (token Operator false text).raw (going 1) && b) n ∙ and_false _)
bound_ends Lost s e k = cc
bound_ends (At q _ text) s e k = cc

pub name_ended : {v : Surroundings} {x y : Place} {p : Tree} → Only so_far v (Part (Pat Binds)) x (one p) y → settled y ≡ true
name_ended {p = p} o = pattern_settled p (whole_of o.past).reads

abbrev bound_keeps : Surroundings → Forest → Type 0
bound_keeps v ts = so_far.keeps (statement Declarator) v ts ≡ true

kept : {v : Surroundings} {x y : Place} {ts : Forest} → Walk (Whole so_far) (steady v) (row_so_far (statement Declarator)) x ts y → bound_keeps v ts
kept w = and_both _ _ (plain (row_so_far (statement Declarator)) refl (to_grammar of_so_far w)) refl

one_bound : {v : Surroundings} {x z : Place} {ts : Forest} → OnlyAt so_far v Declarators (row_so_far (statement Declarator)) x ts z → ends_so_far Declarators z ≡ true → Only so_far v (Part Declarators) x (one (node (statement Declarator) ts)) z
one_bound o e = only_at of_so_far bound_chosen refl refl refl o (kept o.walk) e

pub initialized : {v : Surroundings} {x y y1 y2 z : Place} {p u w : Tree} → Only so_far v (Part (Pat Binds)) x (one p) y → Moves (Ends AfterBinding) y y1 → Moves (pun "=") y1 y2 → Only so_far v (Part (Expr 1)) y2 (one u) z → w ≡ node (statement Declarator) (part p (part (list (part u none)) none)) → Only so_far v (Part Declarators) x (one w) z
initialized {v} {x} {y} {y1} {z = z} {u = u} o m q r is = subst (λ t. Only so_far v (Part Declarators) x (one t) z) (sym is)
    (one_bound (then_at o (then_at (only_sign m) (present_last (bound_next y (name_ended o) m.is (found_next 61 [] y1 (found_at (sym q.is) q.found))) (sym q.is) r refl (end_found of_so_far (whole_of r.past).reads)))) (ends (whole_of r.past).ends_there))
  where
    same_ends : (p : Place) → ends_so_far (Expr 1) p ≡ ends_so_far Declarators p
    same_ends Lost = refl
    same_ends (At q e text) = refl

    ends : ends_so_far (Expr 1) z ≡ true → ends_so_far Declarators z ≡ true
    ends h = sym (same_ends z) ∙ h

of_row : {L : Language} {v : Surroundings} {c : Nonterminal} {ps : List Piece} {x y : Place} {ts : Forest} → OnlyRow L v ps x ts y → OnlyAt L v c ps x ts y
of_row o = record { walk = o.walk; alone = λ us z w e. o.alone us z w }

pub unless_none : (x : Place) → IsTrue (is_found x) → forth (Unless []) x ≡ x
unless_none Lost f = refl
unless_none (At q e text) f = refl

pub uninitialized : {v : Surroundings} {x y y1 : Place} {p w : Tree} → Only so_far v (Part (Pat Binds)) x (one p) y → Moves (Ends AfterBinding) y y1 → Stuck (pun "=") y1 → w ≡ node (statement Declarator) (part p (part (list none) none)) → Only so_far v (Part Declarators) x (one w) y1
uninitialized {v} {x} {y} {y1} o m k is = subst (λ t. Only so_far v (Part Declarators) x (one t) y1) (sym is)
    (one_bound (of_row (then' o (then' (only_sign m) (turn_only (turn_absent (unless_none y1 m.found) m.found (lost_barred of_so_far k.is)) (end m.found))))) (bound_ends y (name_ended o) m.is k))

none_bound : {v : Surroundings} {x : Place} {e : Fault} → NoneAt so_far v Declarators (row_so_far (statement Declarator)) (statement Declarator) x e → Barred so_far v (Part Declarators) x e
none_bound n = barred_flat of_so_far bound_chosen refl refl n

pub no_binding : {v : Surroundings} {x : Place} {o : Fault} → Barred so_far v (Part (Pat Binds)) x o → Barred so_far v (Part Declarators) x o
no_binding b = none_bound (record { no = λ ts y w k e s. (bar b).no ts y w s })

-- behind `=` stands a value
record Valued (v : Surroundings) (p : Tree) (a : Place) (ts : Forest) : Type 0 where
  value : Tree
  is : ts ≡ part p (part (list (part value none)) none)
  place : Place
  reads : Whole so_far v false (Expr 1) a value place

one_is : {t u : Tree} → one t ≡ one u → t ≡ u
one_is e = cc

valued_row : {v : Surroundings} {x y y1 y2 z : Place} {p : Tree} {ts : Forest} → Only so_far v (Part (Pat Binds)) x (one p) y → Moves (Ends AfterBinding) y y1 → Moves (pun "=") y1 y2 → Walk (Whole so_far) (steady v) (row_so_far (statement Declarator)) x ts z → ends_so_far Declarators z ≡ true → Valued v p y2 ts
valued_row {y = y} {y1} o m q (next {y = a} (tree {t = u} r) (next {y = b} (sign e f) (next (absent d g) (done k)))) h =
    let same = o.alone (one u) a (tree r) in
    let here : b ≡ y1 = sym e ∙ (ap (forth (Ends AfterBinding)) (sym same.1) ∙ sym m.is) in
    absurd (clash _ (subst (λ c. ends_so_far Declarators c ≡ true) (sym d ∙ (unless_none b f ∙ here)) h) (bound_next y (name_ended o) m.is (found_next 61 [] y1 (found_at (sym q.is) q.found))))
valued_row {v} {y1 = y1} o m q (next {y = a} (tree {t = u} r) (next {y = b} (sign e f) (next (present {y = c} {z = i} {t = w} d g k l) (done n)))) h =
    let same = o.alone (one u) a (tree r) in
    let here : b ≡ y1 = sym e ∙ (ap (forth (Ends AfterBinding)) (sym same.1) ∙ sym m.is) in
    record { value = w; is = ap (λ t. part t (part (list (part w none)) none)) (sym (one_is same.0)); place = i; reads = subst (λ s. Whole so_far v false (Expr 1) s w i) (sym d ∙ (ap (forth (pun "=")) here ∙ sym q.is)) g }

-- so it is one deeper than the pattern, and than its value
barred_valued : {v : Surroundings} {x y y1 y2 : Place} {p : Tree} {e : Fault} → Only so_far v (Part (Pat Binds)) x (one p) y → Moves (Ends AfterBinding) y y1 → Moves (pun "=") y1 y2 → ((t : Tree) (z : Place) → Whole so_far v false (Expr 1) y2 t z → Shallow e (suc (max (part_depth p) (part_depth t))) → ⊥) → Barred so_far v (Part Declarators) x e
barred_valued {v} {x} {p = p} {e} o m q f = record { no = at }
  where
    deep : (t : Tree) → fits_below Declarators (node (statement Declarator) (part p (part (list (part t none)) none))) ≡ true → suc (max (part_depth p) (part_depth t)) ≤ part_depth (node (statement Declarator) (part p (part (list (part t none)) none)))
    deep t h =
        let d : part_depth (node (statement Declarator) (part p (part (list (part t none)) none))) ≡ suc (max 0 (max (part_depth p) (max (max (part_depth t) 0) 0))) = depth_node Declarators (statement Declarator) (part p (part (list (part t none)) none)) refl h in
        omega (arith, d)

    by : (u : Tree) (z : Place) → Whole so_far v false Declarators x u z → Shallow e (part_depth u) → ⊥
    by (leaf s t) z w a = bound_chosen.no_leaf s t z w
    by (list ts) z w a = no_list w.reads
    by (node l us) z w a =
        let i = bound_kind l us (taken_by w.reads) (home_of w.reads) in
        let w' : Whole so_far v false Declarators x (node (statement Declarator) us) z = subst (λ k. Whole so_far v false Declarators x (node k us) z) i w in
        let row = moved (λ c h. free_around c us v h) refl (whole_walk of_so_far Declarators (row_so_far (statement Declarator)) refl w'.ends_there (of_so_far.from_node (statement Declarator) w'.reads).walk) in
        let n = valued_row o m q row w'.ends_there in
        let formed = and_right (admits Declarators (node (statement Declarator) us)) (fits_below Declarators (node (statement Declarator) us)) w'.reads.reads.is in
        let le = deep n.value (subst (λ ts. fits_below Declarators (node (statement Declarator) ts) ≡ true) n.is formed) in
        let same : part_depth (node l us) ≡ part_depth (node (statement Declarator) (part p (part (list (part n.value none)) none))) = ap part_depth (ap (λ k. node k us) i ∙ ap (node (statement Declarator)) n.is) in
        f n.value n.place n.reads (shallow_up e (suc (max (part_depth p) (part_depth n.value))) (part_depth (node l us)) (omega (arith, le, same)) a)

    at : (h : Given) (z : Place) → Past (Whole so_far) v (Part Declarators) x h z → Shallow e (given_depth h) → ⊥
    at h z (tree {t = u} w) a = by u z w a

-- no value stands there, within what is left for it
pub no_initializer : {v : Surroundings} {x y y1 y2 : Place} {p : Tree} {d : Fault} → Only so_far v (Part (Pat Binds)) x (one p) y → Moves (Ends AfterBinding) y y1 → Moves (pun "=") y1 y2 → Barred so_far v (Part (Expr 1)) y2 d → Barred so_far v (Part Declarators) x (outer d)
no_initializer {p = p} {d = d} o m q b = barred_valued o m q (λ t z r a. b.no (one t) z (tree r) (less d (part_depth p) (part_depth t) a))
  where
    less : (d : Fault) (m n : ℕ) → Shallow (outer d) (suc (max m n)) → Shallow d n
    less Unread m n a = tt
    less (Deep k) m n a = omega (arith, a)

-- or the pattern is too deep for one
pub outgrown_initializer : {v : Surroundings} {x y y1 y2 : Place} {p : Tree} {e : Fault} → Only so_far v (Part (Pat Binds)) x (one p) y → Moves (Ends AfterBinding) y y1 → Moves (pun "=") y1 y2 → Outgrown p e → Barred so_far v (Part Declarators) x e
outgrown_initializer {p = p} {e = e} o m q b = barred_valued o m q (λ t z r a. outgrown_deep (Pat Binds) e p (and_right (admits (Pat Binds) p) (fits_below (Pat Binds) p) (whole_of o.past).reads.reads.is) b (shallow_up e (suc (part_depth p)) (suc (max (part_depth p) (part_depth t))) (omega arith) a))

-- ---- a declaration of variables, behind its word

abbrev pub inits : DeclareWord → Forest → Bool
inits w = all_of (has_init w)

pub inits_more : (w : DeclareWord) (ts : Forest) (t : Tree) → inits w ts ≡ true → has_init w t ≡ true → inits w (both ts (part t none)) ≡ true
inits_more w none t a b = and_both _ _ b refl
inits_more w (part u ts) t a b = and_both _ _ (and_left (has_init w u) _ a) (inits_more w ts t (and_right (has_init w u) _ a) b)

without : (w : DeclareWord) (ts : Forest) (t : Tree) (us : Forest) → has_init w t ≡ false → inits w (both ts (part t us)) ≡ true → ⊥
without w none t us n h = clash _ (and_left (has_init w t) _ h) n
without w (part u ts) t us n h = without w ts t us n (and_right (has_init w u) _ h)

pub declared_keeps : (w : DeclareWord) (v : Surroundings) (ts : Forest) → inits w ts ≡ true → so_far.keeps (statement (Var w)) v (part (list ts) none) ≡ true
declared_keeps w v ts i = and_both _ _ (and_both _ _ i refl) refl

pub list_inits : (w : DeclareWord) (v : Surroundings) (ts us : Forest) → so_far.keeps (statement (Var w)) v (part (list ts) us) ≡ true → inits w ts ≡ true
list_inits w v ts us k = and_left (inits w ts) _ (and_left (all_of (list_rule (inits w)) (part (list ts) us)) _ k)

-- the same of what a `for` begins with
pub head_keeps : (w : DeclareWord) (v : Surroundings) (ts : Forest) → inits w ts ≡ true → so_far.keeps (statement (ForDeclaration w)) v (part (list ts) none) ≡ true
head_keeps w v ts i = and_both _ _ (and_both _ _ i refl) refl

pub head_inits : (w : DeclareWord) (v : Surroundings) (ts us : Forest) → so_far.keeps (statement (ForDeclaration w)) v (part (list ts) us) ≡ true → inits w ts ≡ true
head_inits w v ts us k = and_left (inits w ts) _ (and_left (all_of (list_rule (inits w)) (part (list ts) us)) _ k)

-- one without an initializer, whatever stands behind the list
pub no_init : {v : Surroundings} {ps : List Piece} {x y z : Place} {t : Tree} {e : Fault} (w : DeclareWord) (k : Kind) (ts : Forest) → ((us ws : Forest) → so_far.keeps k v (part (list us) ws) ≡ true → inits w us ≡ true)
    → Turn so_far v (piece [] (Many NoTrailing Declarators) ∷ ps) (piece [] (Many NoTrailing Declarators) ∷ ps) x y (prepend ts) → Only so_far v (Part Declarators) y (one t) z → has_init w t ≡ false → NoNode so_far v (piece [] (Many NoTrailing Declarators) ∷ ps) k x e
no_init {v} {ps} {x} {t = t} {e = e} w k ts asks so o n = record { no = at }
  where
    at : (us : Forest) (z : Place) → Walk (Whole so_far) (steady v) (piece [] (Many NoTrailing Declarators) ∷ ps) x us z → so_far.keeps k v us ≡ true → Shallow e (deepest us) → ⊥
    at us z walk h s =
        let a = all_with ts so o us z walk in
        without w ts t a.0 n (asks (both ts (part t a.0)) a.1.0 (subst (λ vs. so_far.keeps k v vs ≡ true) a.1.1 h))

-- only `const` asks a value of a name that is bound, and all words do of a pattern in brackets
bare_value : (w : DeclareWord) {q : Tree} → AtPattern q → has_init w (node (statement Declarator) (part q (part (list none) none))) ≡ has_value w (node (statement Declarator) (part q (part (list none) none)))
bare_value ConstWord a = refl
bare_value VarWord named = refl
bare_value VarWord array = refl
bare_value VarWord object = refl
bare_value LetWord named = refl
bare_value LetWord array = refl
bare_value LetWord object = refl

given_value : (w : DeclareWord) {q : Tree} (u : Tree) → AtPattern q → has_init w (node (statement Declarator) (part q (part (list (part u none)) none))) ≡ true
given_value ConstWord u a = refl
given_value VarWord u named = refl
given_value VarWord u array = refl
given_value VarWord u object = refl
given_value LetWord u named = refl
given_value LetWord u array = refl
given_value LetWord u object = refl

walk_value : (w : DeclareWord) {v : Surroundings} {us : Forest} {x y : Place} {ts : Forest} → Walk Staged (around v us) (row_so_far (statement Declarator)) x ts y → has_init w (node (statement Declarator) ts) ≡ has_value w (node (statement Declarator) ts)
walk_value w (next (tree {t = q} r) (next (sign e f) (next (absent d g) (done h)))) = bare_value w (at_pattern q r)
walk_value w (next (tree {t = q} r) (next (sign e f) (next (present {t = u} d s g h) (done k)))) = given_value w u (at_pattern q r)

tree_value : (w : DeclareWord) {v : Surroundings} {x y : Place} (t : Tree) → Staged v false Declarators x t y → has_init w t ≡ has_value w t
tree_value w (leaf s t) r = let bad = r.staged in cc
tree_value w (list ts) r = absurd (no_list r)
tree_value w {v} {x} {y} (node l ts) r =
    let e = bound_kind l ts (taken_by r) (home_of r) in
    subst (λ k. has_init w (node k ts) ≡ has_value w (node k ts)) (sym e) (walk_value w {us = ts} (of_so_far.from_node (statement Declarator) (subst (λ k. Staged v false Declarators x (node k ts) y) e r)).walk)

pub read_value : (w : DeclareWord) {v : Surroundings} {x y : Place} {t : Tree} → Only so_far v (Part Declarators) x (one t) y → has_init w t ≡ has_value w t
read_value w {t = t} o = tree_value w t (whole_of o.past).reads

-- ---- an expression statement

heads_only : {v : Surroundings} {x : Place} → IsTrue (is_found x) → forth (Unless heads) x ≡ x → Only so_far v (Fixed (Unless heads)) x nothing x
heads_only f e = only_sign (record { is = sym e; found = f })

statement_row : {v : Surroundings} {x y z : Place} {t : Tree} → Stuck (pun "{") x → Stuck (key "function") x → Stuck (key "class") x → Only so_far v (Part (Expr 0)) x (one t) y → Only so_far v semi y nothing z → OnlyRow so_far v (row_so_far (statement ExprStmt)) x (part t none) z
statement_row k f c o s = then' (heads_only (start_found of_so_far (whole_of o.past).reads) (no_heads k f c (whole_of o.past).reads)) (then' o (then' s (end (sign_found s.past))))
  where
    sign_found : {v : Surroundings} {s : Sign} {x y : Place} {g : Given} → Past (Whole so_far) v (Fixed s) x g y → IsTrue (is_found y)
    sign_found (sign e f) = f

pub statement_built : {v : Surroundings} {x y z : Place} {t w : Tree} → Stuck (pun "{") x → Stuck (key "function") x → Stuck (key "class") x → Only so_far v (Part (Expr 0)) x (one t) y → Only so_far v semi y nothing z → w ≡ node (statement ExprStmt) (part t none) → BuiltNode so_far v (row_so_far (statement ExprStmt)) (statement ExprStmt) w x z
statement_built {v} {t = t} k f c o s is =
    let r = statement_row k f c o s in
    record { parts = part t none; is = is; row = r; keeps = and_both _ _ (plain (row_so_far (statement ExprStmt)) refl (to_grammar of_so_far r.walk)) refl }

pub no_value_statement : {v : Surroundings} {x : Place} {o : Fault} → Barred so_far v (Part (Expr 0)) x o → NoRow so_far v (row_so_far (statement ExprStmt)) x o
no_value_statement {v} {x} {o = o} b = record { no = at }
  where
    at : (us : Forest) (w : Place) → Walk (Whole so_far) (steady v) (row_so_far (statement ExprStmt)) x us w → Shallow o (deepest us) → ⊥
    at us w (next (sign e f) (next {y = z} {g = g} {ts = vs} q walk)) s = b.no g z (subst (λ p. Past (Whole so_far) v (Part (Expr 0)) p g z) (sym e ∙ stays (Unless heads) x refl (found_at e f)) q) (shallow_first o g vs s)

pub unfinished : {v : Surroundings} {x y : Place} {t : Tree} {e : Fault} → Stuck (pun "{") x → Stuck (key "function") x → Stuck (key "class") x → Only so_far v (Part (Expr 0)) x (one t) y → Barred so_far v semi y e → NoRow so_far v (row_so_far (statement ExprStmt)) x e
unfinished k f c o s = on (heads_only (start_found of_so_far (whole_of o.past).reads) (no_heads k f c (whole_of o.past).reads)) (on o (bar s))
