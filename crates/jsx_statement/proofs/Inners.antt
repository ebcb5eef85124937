-- The statements of blocks and of cases: a function stands among them in strict code alone.
use Rattle.std.proofs.Common.{◌≡◌, ℕ, Bool, true, false, not, cond, suc, arith, [], ◌∷◌, List, refl, sym, ◌∙◌, ap, subst}
use Rattle.std.specs.Prelude.{IsTrue, nat_le, ◌&&◌, ◌||◌}
use Rattle.std.proofs.lemmas.Bool.{leb-true}
use Rattle.jsx_tree.specs.Kinds.{Block, FunctionDecl, statement, Tree, leaf, node, list, Forest, none, part}
use Rattle.jsx_tree.specs.Nonterminals.{Stmt}
use Rattle.jsx_tree.specs.Grammar.{Fixed, Lines, Part, key, pun}
use Rattle.jsx_tree.specs.Reading.{Place, Lost, forth}
use Rattle.jsx_tree.specs.StaticRules.{Surroundings, all_of, at_most, count_of, is_function, list_rule, rule}
use Rattle.jsx_tree.specs.Signs.{Sign}
use Rattle.jsx_tree.specs.Walk.{is_found, nothing, one, Piece, piece, Items, nil, last, more, many, sign, tree, Walk, next, steady}
use Rattle.jsx_tree.specs.Language.{Whole}
use Rattle.jsx_tree.specs.Answers.{Missed, Only, Barred, OnlyRow, NoNode, BuiltNode}
use Rattle.jsx_tree.specs.Faults.{Fault, Shallow, deepest}
use Rattle.jsx_tree.proofs.Tokens.{and_both, and_right}
use Rattle.jsx_tree.proofs.Apart.{clash}
use Rattle.jsx_tree.proofs.Rows.Bodies.{plain}
use Rattle.jsx_tree.proofs.Rows.Bridge.{found_at}
use Rattle.jsx_tree.proofs.Rows.Guarded.{to_grammar}
use Rattle.jsx_tree.proofs.Rows.Steps.{both}
use Rattle.jsx_tree.proofs.Rows.Stopping.{is_not}
use Rattle.jsx_tree.proofs.Rows.Turns.{Turn, prepend, whole_of, turn_shallow}
use Rattle.jsx_tree.proofs.Depth.Shallow.{shallow_first, shallow_head, shallow_nothing}
use Rattle.jsx_token.specs.declared.heading.Heading.TheVariants as heading
use Rattle.jsx_token.specs.Headings.{own}
use Rattle.jsx_token.proofs.Headings.{its_kind}
use Rattle.jsx_operand.specs.SoFar.{Staged, so_far}
use Rattle.jsx_operand.proofs.Homes.{no_list}
use Rattle.jsx_operand.proofs.OfSoFar.{of_so_far}
use Rattle.jsx_statement.specs.Inners.{NoInner, NoInners, are_inner, first_depth, first_inner, is_inner}
use Rattle.jsx_statement.proofs.Blocks.{braced}
use Rattle.jsx_declaration.proofs.Statements.{headed_kind, heading_stands, lost_there}
use Rattle.jsx_statement.proofs.Statements.{stmts}
use Rattle.jsx_token.specs.Here.{Here, place_of}

-- ---- a function begins with its word, and nothing else does

record IsFunction (t : Tree) : Type 0 where
  parts : Forest
  is : t ≡ node (statement FunctionDecl) parts

function_is : (t : Tree) → is_function t ≡ true → IsFunction t
function_is (node (statement FunctionDecl) cs) h = record { parts = cs; is = refl }
function_is _ h = cc

no_function : {v : Surroundings} {x y : Place} {t : Tree} → forth (key "function") x ≡ Lost → Whole so_far v false Stmt x t y → is_function t ≡ false
no_function {v} {x} {y} {t} n w = by (is_function t) refl
  where
    by : (b : Bool) → is_function t ≡ b → is_function t ≡ false
    by true e =
        let f = function_is t e in
        absurd (lost_there (key "function") x n (heading_stands (own heading.Function) (of_so_far.from_node (statement FunctionDecl) (subst (λ u. Staged v false Stmt x u y) f.is w.reads)).walk))
    by false e = e

function_there : {v : Surroundings} {x y : Place} (t : Tree) → IsTrue (is_found (forth (key "function") x)) → Whole so_far v false Stmt x t y → is_function t ≡ true
function_there (leaf k r) f w = absurd (stmts.leafless k r w.reads.staged)
function_there (list ts) f w = absurd (no_list w.reads)
function_there (node k ts) f w = ap (λ j. is_function (node j ts)) (its_kind refl (headed_kind stmts heading.Function f k ts w))

-- ---- whether a statement may stand there

in_strict : (a b : Bool) → a ≡ true → (a || b) ≡ true
in_strict a b e = ap (λ c. c || b) e

in_any : (a b : Bool) → b ≡ true → (a || b) ≡ true
in_any true b e = refl
in_any false b e = e

pub strict_inner : (v : Surroundings) (t : Tree) → v.strict ≡ true → is_inner v t ≡ true
strict_inner v t s = in_strict v.strict (not (is_function t)) s

pub other_inner : {v : Surroundings} {x y : Place} {t : Tree} → forth (key "function") x ≡ Lost → Only so_far v (Part Stmt) x (one t) y → is_inner v t ≡ true
other_inner {v} {t = t} n o = in_any v.strict (not (is_function t)) (ap not (no_function n (whole_of o.past)))

pub no_inner : {v : Surroundings} {x : Place} {e : Fault} → v.strict ≡ false → IsTrue (is_found (forth (key "function") x)) → NoInner v x e
no_inner {v} s f = record { no = λ t z w h a. clash (is_inner v t) h (ap (λ b. b || not (is_function t)) s ∙ ap not (function_there t f w)) }

pub barred_inner : {v : Surroundings} {x : Place} {e : Fault} → Barred so_far v (Part Stmt) x e → NoInner v x e
barred_inner b = record { no = λ t z w h s. b.no (one t) z (tree w) s }

pub inner_from : {v : Surroundings} {h g : Here} {e : Fault} → g ≡ h → NoInner v (place_of g) e → NoInner v (place_of h) e
inner_from {v} {e = e} s n = subst (λ k. NoInner v (place_of k) e) s n

-- ---- of some statements

pub inner_none : (v : Surroundings) (ts : Forest) → ts ≡ none → are_inner v ts ≡ true
inner_none v ts e = ap (are_inner v) e ∙ in_any v.strict true refl

too_many : (n : ℕ) → nat_le (suc n) 0 ≡ true → ⊥
too_many n h = omega (arith, leb-true (suc n) 0 h)

none_more : (ts : Forest) (t : Tree) → at_most 0 is_function ts ≡ true → not (is_function t) ≡ true → at_most 0 is_function (both ts (part t none)) ≡ true
none_more none t h k = ap (λ b. nat_le (cond b 1 0) 0) (is_not (is_function t) k)
none_more (part u ts) t h k = by (is_function u) (λ g. none_more ts t g k) h
  where
    by : (b : Bool) → (at_most 0 is_function ts ≡ true → at_most 0 is_function (both ts (part t none)) ≡ true) → nat_le (cond b (suc (count_of is_function ts)) (count_of is_function ts)) 0 ≡ true → nat_le (cond b (suc (count_of is_function (both ts (part t none)))) (count_of is_function (both ts (part t none)))) 0 ≡ true
    by true n g = absurd (too_many (count_of is_function ts) g)
    by false n g = n g

last_none : (ts : Forest) (t : Tree) (us : Forest) → at_most 0 is_function (both ts (part t us)) ≡ true → not (is_function t) ≡ true
last_none none t us h = by (is_function t) h
  where
    by : (b : Bool) → nat_le (cond b (suc (count_of is_function us)) (count_of is_function us)) 0 ≡ true → not b ≡ true
    by true g = absurd (too_many (count_of is_function us) g)
    by false g = refl
last_none (part u ts) t us h = by (is_function u) (λ g. last_none ts t us g) h
  where
    by : (b : Bool) → (at_most 0 is_function (both ts (part t us)) ≡ true → not (is_function t) ≡ true) → nat_le (cond b (suc (count_of is_function (both ts (part t us)))) (count_of is_function (both ts (part t us)))) 0 ≡ true → not (is_function t) ≡ true
    by true n g = absurd (too_many (count_of is_function (both ts (part t us))) g)
    by false n g = n g

pub inner_more : (v : Surroundings) (ts us : Forest) (t : Tree) → are_inner v ts ≡ true → is_inner v t ≡ true → us ≡ both ts (part t none) → are_inner v us ≡ true
inner_more v ts us t h k e = ap (are_inner v) e ∙ by v.strict h k
  where
    by : (b : Bool) → (b || at_most 0 is_function ts) ≡ true → (b || not (is_function t)) ≡ true → (b || at_most 0 is_function (both ts (part t none))) ≡ true
    by true g i = refl
    by false g i = none_more ts t g i

pub next_inner : (v : Surroundings) (ts : Forest) (t : Tree) (us : Forest) → are_inner v (both ts (part t us)) ≡ true → is_inner v t ≡ true
next_inner v ts t us h = by v.strict h
  where
    by : (b : Bool) → (b || at_most 0 is_function (both ts (part t us))) ≡ true → (b || not (is_function t)) ≡ true
    by true g = refl
    by false g = last_none ts t us g

-- ---- the first of a list that was read

pub record FirstLine (v : Surroundings) (x : Place) (t : Tree) : Type 0 where
  pub end : Place
  pub whole : Whole so_far v false Stmt x t end

pub first_line : {v : Surroundings} {x y : Place} {t : Tree} {us : Forest} → Items (Whole so_far) v Lines Stmt x (part t us) y → FirstLine v x t
first_line (last r e f) = record { end = _; whole = r }
first_line (more n r e all) = record { end = _; whole = r }

-- ---- a block

-- a rule of a list in strict code or any, without what is joined to it
of_list : (a b c : Bool) → (a || (b && c)) ≡ true → (a || b) ≡ true
of_list true b c h = refl
of_list false true c h = refl
of_list false false c h = cc

to_list : (a b : Bool) → (a || b) ≡ true → (a || (b && true)) ≡ true
to_list true b h = refl
to_list false true h = refl
to_list false false h = cc

block_inner : (v : Surroundings) (us vs : Forest) → so_far.keeps (statement Block) v (part (list us) vs) ≡ true → are_inner v us ≡ true
block_inner v us vs h = of_list v.strict (at_most 0 is_function us) (all_of (list_rule (at_most 0 is_function)) vs) (and_right (rule (statement Block) (part (list us) vs)) _ h)

pub block_built : {v : Surroundings} {x y : Place} {ts : Forest} {t : Tree} → are_inner v ts ≡ true → OnlyRow so_far v braced x (part (list ts) none) y → t ≡ node (statement Block) (part (list ts) none) → BuiltNode so_far v braced (statement Block) t x y
block_built {v} {ts = ts} i o is = record { parts = _; is = is; row = o; keeps = and_both _ _ (plain braced refl (to_grammar of_so_far o.walk)) (to_list v.strict (at_most 0 is_function ts) i) }

-- a statement that may not stand there
pub block_barred : {v : Surroundings} {x y y' : Place} {o : Fault} (ts : Forest) → Turn so_far v braced braced x y (prepend ts) → Missed (pun "}") y y' → NoInner v y' o → NoNode so_far v braced (statement Block) x o
block_barred {v} {x} {y} {o = o} ts so k n = record { no = λ us w walk h a. let f = so.from us w walk in at f.parts w f.walk (subst (λ vs. so_far.keeps (statement Block) v vs ≡ true) (sym f.is) h) (turn_shallow o so us w walk a) }
  where
    here : NoInner v y o
    here = subst (λ w. NoInner v w o) (sym k.same) n

    at : (us : Forest) (w : Place) → Walk (Whole so_far) (steady v) braced y us w → so_far.keeps (statement Block) v (prepend ts us) ≡ true → Shallow o (deepest us) → ⊥
    at us w (next (many m (nil f)) (next (sign e g) rest)) h s = let bad : IsTrue (is_found Lost) = subst (λ p. IsTrue (is_found p)) k.stuck.is (found_at e g) in cc
    at us w (next {ts = vs} (many {ts = part t cs} m all) rest) h s = let r = first_line all in here.no t r.end r.whole (next_inner v ts t cs (block_inner v (both ts (part t cs)) vs h)) (shallow_head o t cs (shallow_first o (one (list (part t cs))) vs s))

-- ---- rows that begin with such statements

pub sign_inners : {v : Surroundings} {ps : List Piece} {s : Sign} {x : Place} {e : Fault} → Barred so_far v (Fixed s) x e → NoInners v (piece [] (Fixed s) ∷ ps) x e
sign_inners {v} {ps} {s} {x} {e = e} b = record { no = at }
  where
    at : (ts : Forest) (z : Place) → Walk (Whole so_far) (steady v) (piece [] (Fixed s) ∷ ps) x ts z → first_inner v ts ≡ true → Shallow e (first_depth ts) → ⊥
    at ts z (next {y = w} (sign f g) walk) h a = b.no nothing w (sign f g) (shallow_nothing e)

-- behind a sign
pub signed_inners : {v : Surroundings} {ps : List Piece} {s : Sign} {x y : Place} {d : Fault} → Only so_far v (Fixed s) x nothing y → NoInners v ps y d → NoInners v (piece [] (Fixed s) ∷ ps) x d
signed_inners {v} {ps} {s} {x} {y} {d = d} o n = record { no = at }
  where
    at : (ts : Forest) (z : Place) → Walk (Whole so_far) (steady v) (piece [] (Fixed s) ∷ ps) x ts z → first_inner v ts ≡ true → Shallow d (first_depth ts) → ⊥
    at ts z (next {ts = us} (sign {y = w} e f) walk) h a = n.no us z (subst (λ p. Walk (Whole so_far) (steady v) ps p us z) (sym (o.alone nothing w (sign e f)).1) walk) h a
