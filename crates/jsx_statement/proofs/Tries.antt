-- A `try` behind its word: its block, what is caught and what is done last.
use Rattle.std.proofs.Common.{◌≡◌, List, true, false, [], ◌∷◌, refl, sym, ◌∙◌, ap, subst, Option, Some, None, Box, Global}
use Rattle.std.proofs.lemmas.Bool.{false≢true}
use Rattle.std.specs.Prelude.{Bool, IsTrue, codes, ◌||◌}
use Rattle.jsx_base.specs.Token.{Punctuator}
use Rattle.jsx_tree.specs.Signs.{Unless}
use Rattle.jsx_tree.specs.Kinds.{Binds, Block, Try, Catch, Kind, statement, Tree, leaf, node, list, Forest, none, part}
use Rattle.jsx_tree.specs.Nonterminals.{Nonterminal, BlockOnly, CatchClause, Pat}
use Rattle.jsx_tree.specs.Grammar.{Context, Fixed, Optional, Part, pun}
use Rattle.jsx_tree.specs.Form.{admits}
use Rattle.jsx_tree.specs.Reading.{Place, Lost, At, forth, scan}
use Rattle.jsx_tree.specs.StaticRules.{Surroundings, is_here, open_if}
use Rattle.jsx_tree.specs.View.{optional_of, view_control, view_stmt}
use Rattle.jsx_tree.specs.declared.tree.Control.{Control}
use Rattle.jsx_tree.specs.declared.tree.Stmt.{Stmt}
use Rattle.jsx_tree.specs.Walk.{Given, is_found, nothing, one, Past, sign, tree, absent, present, tail, Walk, done, next, steady}
use Rattle.jsx_tree.specs.Language.{Whole}
use Rattle.jsx_tree.specs.Answers.{Moves, Only, Barred, OnlyRow, NoRow, NoNode, BuiltNode}
use Rattle.jsx_tree.specs.Faults.{Fault, Unread, Shallow, deepest, given_depth, outer, Below}
use Rattle.jsx_tree.proofs.Apart.{never_both}
use Rattle.jsx_tree.proofs.Rows.Bodies.{plain}
use Rattle.jsx_tree.proofs.Rows.Guarded.{to_grammar}
use Rattle.jsx_tree.proofs.Tokens.{and_both}
use Rattle.jsx_tree.proofs.Rows.Bridge.{found_at}
use Rattle.jsx_tree.proofs.Rows.Firsts.{kind_home}
use Rattle.jsx_tree.proofs.Rows.Laws.{end_found, lost_barred, start_found}
use Rattle.jsx_tree.proofs.Rows.Optionals.{turn_absent, turn_present}
use Rattle.jsx_tree.proofs.Rows.Placing.{Chosen, only_node, barred_node}
use Rattle.jsx_tree.proofs.Rows.Steps.{bar, end, then'}
use Rattle.jsx_tree.proofs.Rows.Turns.{turn_only, whole_of}
use Rattle.jsx_token.specs.Here.{Here, place_of}
use Rattle.jsx_token.specs.Marks.{ends_so_far, row_so_far}
use Rattle.jsx_token.specs.Places.{Takes}
use Rattle.jsx_operand.specs.SoFar.{Staged, so_far}
use Rattle.jsx_operand.proofs.Homes.{Taken, no_list, taken_by, home_of}
use Rattle.jsx_operand.proofs.OfSoFar.{of_so_far}
use Rattle.jsx_operand.proofs.Values.{led_sign}
use Rattle.jsx_statement.specs.Tries.{IsCatch, catch_row, catch_symbol, finally_symbol}
use Rattle.jsx_operand.proofs.Standing.{standing}
use Rattle.jsx_declaration.proofs.Items.{unless_none}
use Rattle.jsx_statement.proofs.Statements.{signed_none, signed_row, deep_chosen}
use Rattle.jsx_tree.proofs.Rows.Stopping.{stays}
use Rattle.jsx_tree.proofs.Depth.Shallow.{shallow_first, shallow_nothing, shallow_rest, shallow_opened}

-- ---- a block where nothing else may stand

abbrev is_block : Kind → Bool
is_block (statement Block) = true
is_block k = false

block_is : (k : Kind) → is_block k ≡ true → k ≡ statement Block
block_is (statement Block) e = refl
block_is _ e = cc

body_kind : (l : Kind) (ts : Forest) → Taken l → admits BlockOnly (node l ts) ≡ true → l ≡ statement Block
body_kind l ts t h = block_is l (standing BlockOnly is_block refl l t (kind_home BlockOnly l ts h))

body_chosen : {v : Surroundings} {x : Place} → Chosen so_far v BlockOnly (statement Block) x
body_chosen = record { no_leaf = λ s t y w. let bad = w.reads.staged in cc; kind = λ l ts y w. body_kind l ts (taken_by w.reads) (home_of w.reads) }

body_ends : (y : Place) → ends_so_far BlockOnly y ≡ true
body_ends Lost = refl
body_ends (At q e text) = refl

pub block_only : {v : Surroundings} {x y z : Place} {t : Tree} → Moves (pun "{") x y → BuiltNode so_far v (tail (row_so_far (statement Block))) (statement Block) t y z → Only so_far v (Part BlockOnly) x (one t) z
block_only {z = z} m b = only_node of_so_far body_chosen refl refl (λ ts. refl) (record { parts = b.parts; is = b.is; row = signed_row (row_so_far (statement Block)) refl m b.row }) b.keeps (body_ends z)

pub block_barred : {v : Surroundings} {x y : Place} {e : Fault} → Moves (pun "{") x y → NoNode so_far v (tail (row_so_far (statement Block))) (statement Block) y e → Barred so_far v (Part BlockOnly) x (outer e)
block_barred m n = barred_node true refl of_so_far body_chosen refl refl (signed_none (statement Block) (row_so_far (statement Block)) refl m n)

-- where no level is left
pub block_deep : {v : Surroundings} {x : Place} {e : Fault} → Below 0 e → Barred so_far v (Part BlockOnly) x e
block_deep l = deep_chosen refl body_chosen l

body_sign : {v : Surroundings} {x y : Place} (t : Tree) → Staged v false BlockOnly x t y → IsTrue (is_found (forth (pun "{") x))
body_sign (leaf k s) r = let bad = r.staged in cc
body_sign (list ts) r = absurd (no_list r)
body_sign {v} {x} {y} (node l ts) r =
    let r' : Staged v false BlockOnly x (node (statement Block) ts) y = subst (λ k. Staged v false BlockOnly x (node k ts) y) (body_kind l ts (taken_by r) (home_of r)) r in
    led_sign (row_so_far (statement Block)) refl (of_so_far.from_node (statement Block) r').walk

pub no_body : {v : Surroundings} {x : Place} {e : Fault} → Barred so_far v (Fixed (pun "{")) x e → Barred so_far v (Part BlockOnly) x e
no_body {v} {x} {e} b = record { no = at }
  where
    at : (g : Given) (y : Place) → Past (Whole so_far) v (Part BlockOnly) x g y → Shallow e (given_depth g) → ⊥
    at g y (tree {t = t} w) s = b.no nothing (forth (pun "{") x) (sign refl (body_sign t w.reads)) (shallow_nothing e)

-- it ends with no `if` that an `else` could belong to
body_closed : {v : Surroundings} {x y : Place} (t : Tree) → Staged v false BlockOnly x t y → open_if t ≡ false
body_closed (leaf k s) r = refl
body_closed (list ts) r = absurd (no_list r)
body_closed (node l ts) r = ap (λ k. open_if (node k ts)) (body_kind l ts (taken_by r) (home_of r))

-- no block begins with a bracket
no_body_there : {v : Surroundings} {x : Place} {e : Fault} → IsTrue (is_found (forth (pun "(") x)) → Barred so_far v (Part BlockOnly) x e
no_body_there {v} {x} {e = e} f = record { no = at }
  where
    at : (g : Given) (y : Place) → Past (Whole so_far) v (Part BlockOnly) x g y → Shallow e (given_depth g) → ⊥
    at g y (tree {t = t} w) s = never_both Punctuator Punctuator (codes "(") (codes "{") x refl f (body_sign t w.reads)

-- ---- what is caught

part_found : {v : Surroundings} {s : _} {c : Nonterminal} {r : _} {x y : Place} {g : Given} → Past (Whole so_far) v (Optional s c [] r) x g y → IsTrue (is_found y)
part_found (absent e f) = f
part_found (present p q e f) = f

abbrev is_catch : Kind → Bool
is_catch (statement Catch) = true
is_catch k = false

catch_is : (k : Kind) → is_catch k ≡ true → k ≡ statement Catch
catch_is (statement Catch) e = refl
catch_is _ e = cc

caught_kind : (l : Kind) (ts : Forest) → Taken l → admits CatchClause (node l ts) ≡ true → l ≡ statement Catch
caught_kind l ts t h = catch_is l (standing CatchClause is_catch refl l t (kind_home CatchClause l ts h))

caught_chosen : {v : Surroundings} {x : Place} → Chosen so_far v CatchClause (statement Catch) x
caught_chosen = record { no_leaf = λ s t y w. let bad = w.reads.staged in cc; kind = λ l ts y w. caught_kind l ts (taken_by w.reads) (home_of w.reads) }

caught_ends : (y : Place) → ends_so_far CatchClause y ≡ true
caught_ends Lost = refl
caught_ends (At q e text) = refl

only_caught : {v : Surroundings} {x y : Place} {b : Tree} {n : Forest} → OnlyRow so_far v (row_so_far (statement Catch)) x (part (list n) (part b none)) y → Only so_far v (Part CatchClause) x (one (node (statement Catch) (part (list n) (part b none)))) y
only_caught {y = y} r = only_node of_so_far caught_chosen refl refl (λ ts. refl) (record { parts = _; is = refl; row = r }) (and_both _ _ (plain (row_so_far (statement Catch)) refl (to_grammar of_so_far r.walk)) refl) (caught_ends y)

sign_leads : {v : Surroundings} {x y : Place} → Past (Whole so_far) v (Fixed (pun ")")) x nothing y → (scan x (pun ")" ∷ []) ≡ y) × IsTrue (is_found y)
sign_leads (sign e f) = (e, f)

found_before : (x : Place) {y : Place} → forth (Unless []) x ≡ y → IsTrue (is_found y) → y ≡ x
found_before x e f = sym e ∙ stays (Unless []) x refl (found_at e f)

moved_from : {x y : Place} → Moves (pun "(") x y → IsTrue (is_found x)
moved_from {x = Lost} m = let bad : IsTrue (is_found Lost) = subst (λ p. IsTrue (is_found p)) m.is m.found in cc
moved_from {x = At q e text} m = refl

pub caught_named : {v : Surroundings} {x x1 y : Place} {t : Tree} → Moves (pun "(") x x1 → IsCatch v x1 t y → Only so_far v (Part CatchClause) x (one t) y
caught_named {v} {x} {y = y} m c =
    let close = sign_leads c.closed.past in
    let none_there : NoRow so_far v (tail (row_so_far (statement Catch))) x Unread = bar (no_body_there (found_at (sym m.is) m.found)) in
    let rest : OnlyRow so_far v (tail (row_so_far (statement Catch))) c.brace (part c.body none) y = then' c.block (end (end_found of_so_far (whole_of c.block.past).reads)) in
    let row : OnlyRow so_far v (row_so_far (statement Catch)) x (part (list (part c.name none)) (part c.body none)) y = turn_only (turn_present (sym m.is) c.named close.0 close.1 (subst (λ p. NoRow so_far v (tail (row_so_far (statement Catch))) p Unread) (sym (unless_none x (moved_from m))) none_there)) rest in
    subst (λ t. Only so_far v (Part CatchClause) x (one t) y) (sym c.is) (only_caught row)

pub caught_bare : {v : Surroundings} {x y : Place} {b t : Tree} → forth (pun "(") x ≡ Lost → Only so_far v (Part BlockOnly) x (one b) y → t ≡ node (statement Catch) (part (list none) (part b none)) → Only so_far v (Part CatchClause) x (one t) y
caught_bare {v} {x} {y} {b = t} n b is =
    let w = whole_of b.past in
    let f = start_found of_so_far w.reads in
    let rest : OnlyRow so_far v (tail (row_so_far (statement Catch))) x (part t none) y = then' b (end (end_found of_so_far w.reads)) in
    let row : OnlyRow so_far v (row_so_far (statement Catch)) x (part (list none) (part t none)) y = turn_only (turn_absent (unless_none x f) f (lost_barred of_so_far n)) rest in
    subst (λ t. Only so_far v (Part CatchClause) x (one t) y) (sym is) (only_caught row)

pub no_caught : {v : Surroundings} {x x1 : Place} {o : Fault} → Moves (pun "(") x x1 → NoRow so_far v catch_row x1 o → Barred so_far v (Part CatchClause) x o
no_caught {v} {x} {o = o} m n = barred_node false refl of_so_far caught_chosen refl refl (record { no = at })
  where
    at : (ts : Forest) (y : Place) → Walk (Whole so_far) (steady v) (row_so_far (statement Catch)) x ts y → so_far.keeps (statement Catch) v ts ≡ true → Shallow o (deepest ts) → ⊥
    at ts y (next (absent e f) (next {y = z} {ts = vs} (tree {t = t} q) w)) h s =
        (no_body_there (found_at (sym m.is) m.found)).no (one t) z (tree (subst (λ p. Whole so_far v false BlockOnly p t z) (found_before x e f) q)) (shallow_first o (one t) vs (shallow_rest o (one (list none)) (part t vs) s))
    at ts y (next (present {z = z} {t = t} p q e f) (next (tree {t = u} b) (done g))) h s =
        n.no (part t (part u none)) y (next (tree (subst (λ a. Whole so_far v false (Pat Binds) a t z) (sym p ∙ sym m.is) q)) (next (sign e f) (next (tree b) (done g)))) (shallow_opened o t (part u none) s)

pub no_caught_bare : {v : Surroundings} {x : Place} {o : Fault} → forth (pun "(") x ≡ Lost → Barred so_far v (Part BlockOnly) x o → Barred so_far v (Part CatchClause) x o
no_caught_bare {v} {x} {o = o} n b = barred_node false refl of_so_far caught_chosen refl refl (record { no = at })
  where
    at : (ts : Forest) (y : Place) → Walk (Whole so_far) (steady v) (row_so_far (statement Catch)) x ts y → so_far.keeps (statement Catch) v ts ≡ true → Shallow o (deepest ts) → ⊥
    at ts y (next (absent e f) (next {y = z} {ts = vs} (tree {t = t} q) w)) h s = b.no (one t) z (tree (subst (λ p. Whole so_far v false BlockOnly p t z) (found_before x e f) q)) (shallow_first o (one t) vs (shallow_rest o (one (list none)) (part t vs) s))
    at ts y (next (present {z = z} {t = t} p q e f) w) h s = (lost_barred {e = Unread} of_so_far (sym p ∙ n)).no (one t) z (tree q) tt

-- ---- a `try` behind its word

try_keeps : (v : Surroundings) (b : Tree) (h : Option (Box Control Global)) (f : Option (Box Stmt Global)) → (is_here (optional_of view_control h) || is_here (optional_of view_stmt f)) ≡ true → so_far.keeps (statement Try) v (part b (part (optional_of view_control h) (part (optional_of view_stmt f) none))) ≡ true
try_keeps v b None None e = absurd (false≢true e)
try_keeps v b (Some h) None e = refl
try_keeps v b None (Some f) e = refl
try_keeps v b (Some h) (Some f) e = refl

pub try_built : {v : Surroundings} {x x1 x2 z : Place} {b t : Tree} (h : Option (Box Control Global)) (f : Option (Box Stmt Global)) → Only so_far v (Part BlockOnly) x (one b) x1 → Only so_far v catch_symbol x1 (one (optional_of view_control h)) x2 → Only so_far v finally_symbol x2 (one (optional_of view_stmt f)) z
    → (is_here (optional_of view_control h) || is_here (optional_of view_stmt f)) ≡ true → t ≡ node (statement Try) (part b (part (optional_of view_control h) (part (optional_of view_stmt f) none))) → BuiltNode so_far v (tail (row_so_far (statement Try))) (statement Try) t x z
try_built {v} {b = b} h f o c d e is = record { parts = _; is = is; row = then' o (then' c (then' d (end (part_found d.past)))); keeps = try_keeps v b h f e }

-- with neither part
pub no_try : {v : Surroundings} {x x1 x2 z : Place} {b : Tree} {q : Fault} (h : Option (Box Control Global)) (f : Option (Box Stmt Global)) → Only so_far v (Part BlockOnly) x (one b) x1 → Only so_far v catch_symbol x1 (one (optional_of view_control h)) x2 → Only so_far v finally_symbol x2 (one (optional_of view_stmt f)) z
    → (is_here (optional_of view_control h) || is_here (optional_of view_stmt f)) ≡ false → NoNode so_far v (tail (row_so_far (statement Try))) (statement Try) x q
no_try {v} {x} {z = z} {b} {q = q} h f o c d e = record { no = at }
  where
    bad : (h : Option (Box Control Global)) (f : Option (Box Stmt Global)) → (is_here (optional_of view_control h) || is_here (optional_of view_stmt f)) ≡ false → so_far.keeps (statement Try) v (part b (part (optional_of view_control h) (part (optional_of view_stmt f) none))) ≡ true → ⊥
    bad None None e k = false≢true k
    bad (Some h) f e k = false≢true (sym e)
    bad None (Some f) e k = false≢true (sym e)

    row : OnlyRow so_far v (tail (row_so_far (statement Try))) x (part b (part (optional_of view_control h) (part (optional_of view_stmt f) none))) z
    row = then' o (then' c (then' d (end (part_found d.past))))

    at : (us : Forest) (w : Place) → Walk (Whole so_far) (steady v) (tail (row_so_far (statement Try))) x us w → so_far.keeps (statement Try) v us ≡ true → Shallow q (deepest us) → ⊥
    at us w r k s = bad h f e (subst (λ ts. so_far.keeps (statement Try) v ts ≡ true) (sym (row.alone us w r).0) k)

-- a `try` ends with a block, so with no `if` that an `else` could belong to
pub try_closed : {V : List Context → Surroundings} {x y : Place} {us : Forest} → Walk Staged V (row_so_far (statement Try)) x us y → open_if (node (statement Try) us) ≡ false
try_closed (next (sign e f) (next (tree a) (next (absent e1 f1) (next (absent e2 f2) (done g))))) = refl
try_closed (next (sign e f) (next (tree a) (next (absent e1 f1) (next (present {t = u} d q e2 f2) (done g))))) = body_closed u q
try_closed (next (sign e f) (next (tree a) (next (present d r e1 f1) (next (absent e2 f2) (done g))))) = refl
try_closed (next (sign e f) (next (tree a) (next (present d r e1 f1) (next (present {t = u} d2 q e2 f2) (done g))))) = body_closed u q

-- ---- what the code has of them

pub taken_on : {s : _} {x x' y : Here} → x' ≡ x → Takes s x' y → Moves s (place_of x) (place_of y)
taken_on {s} e t = record { is = sym (sym (ap (λ h. forth s (place_of h)) e) ∙ t.leads); found = refl }
