-- What begins with `new`: kinds that begin with one sign, told apart by what stands behind it.
use Rattle.std.proofs.Common.{◌≡◌, nat_eq, Bool, true, false, not, [], ◌∷◌, refl, sym, ◌∙◌, ap, subst}
use Rattle.std.specs.Prelude.{IsTrue, codes, ◌||◌}
use Rattle.std.proofs.lemmas.Bool.{eqb-true, eq-eqb}
use Rattle.jsx_base.specs.Token.{Text, Operator, Punctuator, Lexeme, among, at_front, breaks, first_is, is_token, kind_number, same, skip, token}
use Rattle.jsx_base.proofs.Fronts.{other_ahead}
use Rattle.jsx_tree.specs.Signs.{AfterExpr, Unless}
use Rattle.jsx_tree.specs.Kinds.{Call, New, NewWithoutArguments, NewTarget, Kind, expression, Tree, node, Forest, none, part}
use Rattle.jsx_tree.specs.Nonterminals.{NewCallee}
use Rattle.jsx_tree.specs.Grammar.{Fixed, Part, key, pun}
use Rattle.jsx_tree.specs.Reading.{Place, Lost, At, forth, go_if}
use Rattle.jsx_tree.specs.StaticRules.{Surroundings, rule}
use Rattle.jsx_tree.specs.Walk.{is_found, Given, Past, nothing, one, tail, tree}
use Rattle.jsx_tree.specs.Language.{Whole}
use Rattle.jsx_tree.specs.Answers.{Moves, Missed, Only, Barred, OnlyRow, NoRow, NoNode, Built, BuiltNode}
use Rattle.jsx_tree.specs.Faults.{Fault, Shallow, given_depth}
use Rattle.jsx_tree.proofs.Tokens.{and_right, and_both}
use Rattle.jsx_tree.proofs.Apart.{clash}
use Rattle.jsx_tree.proofs.Rows.Bridge.{found_at}
use Rattle.jsx_tree.proofs.Rows.Laws.{end_found}
use Rattle.jsx_tree.proofs.Rows.Placing.{no_node}
use Rattle.jsx_tree.proofs.Rows.Steps.{bar, built_2, end, no_sign, on, only_sign, then'}
use Rattle.jsx_tree.proofs.Rows.Stopping.{is_not, or_cases}
use Rattle.jsx_tree.proofs.Rows.Turns.{whole_of}
use Rattle.jsx_token.specs.Marks.{row_so_far}
use Rattle.jsx_token.specs.Growths.{opening_sign, same_sign}
use Rattle.jsx_token.proofs.Listed.{listed, code, kinds, every, of_each, one_place, implies, implied}
use Rattle.jsx_operand.specs.SoFar.{so_far}
use Rattle.jsx_operand.specs.Openings.{opens_with, NoParts, OnlyOpened, NoneOpened}
use Rattle.jsx_operand.proofs.OfSoFar.{of_so_far}
use Rattle.jsx_token.proofs.Levels.{grows_on}
use Rattle.jsx_operand.proofs.Values.{First, name, opened, begun, literal_opening, one_opening, opened_sign, opener, opener_of, quoted, piece_of, opener_piece, bracketed, bracket_none}
use Rattle.jsx_operand.proofs.Openings.{Other, itself, barred, free_none, kept_behind, opened_by, opens_listed}

abbrev news : Kind → Bool
news j = implies (opens_with (key "new") j) (nat_eq (code j) (code (expression New)) || (nat_eq (code j) (code (expression NewWithoutArguments)) || nat_eq (code j) (code (expression NewTarget))))

all_news : every news kinds ≡ true
all_news = refl

of_new : (P : Kind → Type 0) → P (expression New) → P (expression NewWithoutArguments) → P (expression NewTarget) → (j : Kind) → opens_with (key "new") j ≡ true → P j
of_new P p q r j o =
    let m = opens_listed (key "new") j o in
    or_cases (nat_eq (code j) (code (expression New))) _ (implied (opens_with (key "new") j) _ (of_each news all_news j m) o)
    (λ e. subst P (sym (one_place j (expression New) m (listed (expression New) refl refl refl) e)) p)
    (λ s. or_cases (nat_eq (code j) (code (expression NewWithoutArguments))) (nat_eq (code j) (code (expression NewTarget))) s
    (λ e. subst P (sym (one_place j (expression NewWithoutArguments) m (listed (expression NewWithoutArguments) refl refl refl) e)) q)
    (λ e. subst P (sym (one_place j (expression NewTarget) m (listed (expression NewTarget) refl refl refl) e)) r))

untargeted : {v : Surroundings} {a : Place} {e : Fault} → forth (pun ".") a ≡ Lost → NoRow so_far v (tail (row_so_far (expression NewTarget))) a e
untargeted n = bar (no_sign (record { is = n }))

-- ---- what stands before `(`, or not

abbrev is_paren : Lexeme → Bool
is_paren x = is_token x Punctuator (codes "(")

paren_front : (f : Bool) (s : Text) → is_paren (at_front Operator f (40 ∷ s)) ≡ true
paren_front true s = refl
paren_front false s = refl

-- a token that is spelled so is one, whether it is the first of the text or not
paren_there : (f g : Bool) (s : Text) → same (at_front Operator f s).raw (codes "(") ≡ true → is_paren (at_front Operator g s) ≡ true
paren_there f g s h = by (first_is (nat_eq 40) s) refl
  where
    begins : (t : Text) → first_is (nat_eq 40) t ≡ true → is_paren (at_front Operator g t) ≡ true
    begins [] e = cc
    begins (c ∷ t) e = subst (λ d. is_paren (at_front Operator g (d ∷ t)) ≡ true) (eqb-true 40 c e) (paren_front g t)

    by : (b : Bool) → first_is (nat_eq 40) s ≡ b → is_paren (at_front Operator g s) ≡ true
    by true e = begins s e
    by false e =
        let x = at_front Operator f s in
        absurd (clash (is_token x x.kind (codes "(")) (and_both _ _ (eq-eqb (kind_number x.kind) (kind_number x.kind) refl) h) ((other_ahead x.kind 40 [] Operator s e).not_it f))

or_false : (a : Bool) → (a || false) ≡ true → a ≡ true
or_false true e = refl
or_false false e = e

unless_paren : (x : Place) → forth (pun "(") x ≡ Lost → IsTrue (is_found x) → forth (Unless (codes "(" ∷ [])) x ≡ x
unless_paren Lost n f = cc
unless_paren (At q e text) n f = by (among (token Operator false text).raw (codes "(" ∷ [])) refl
  where
    by : (b : Bool) → among (token Operator false text).raw (codes "(" ∷ []) ≡ b → go_if (not b) (At q e text) ≡ At q e text
    by false h = refl
    by true h =
        let there = paren_there (breaks text) (same q [] || breaks text) (skip text) (or_false _ h) in
        let gone : At (codes "(") AfterExpr (token Operator (same q []) text).rest ≡ Lost = ap (λ b. go_if b (At (codes "(") AfterExpr (token Operator (same q []) text).rest)) (sym there) ∙ n in cc

paren_lost : (b : Bool) (y : Place) → IsTrue (is_found (go_if b y)) → b ≡ true
paren_lost true y f = refl
paren_lost false y f = cc

paren_unless : (x : Place) → IsTrue (is_found (forth (pun "(") x)) → forth (Unless (codes "(" ∷ [])) x ≡ Lost
paren_unless Lost f = refl
paren_unless (At q e text) f =
    let m = token Operator (same q []) text in
    let i : is_paren m ≡ true = paren_lost (is_paren m) (At (codes "(") AfterExpr m.rest) f in
    let j : is_paren (token Operator false text) ≡ true = paren_there (same q [] || breaks text) (breaks text) (skip text) (and_right _ _ i) in
    let raw : same (token Operator false text).raw (codes "(") ≡ true = and_right _ _ j in (λ k. go_if (not (raw k || false)) (At q e text))

-- ---- `new`

-- no expression begins with a dot
abbrev undotted_opening : Kind → Bool
undotted_opening k = grows_on k || not (same_sign (opening_sign k) (pun "."))

all_undotted : every undotted_opening kinds ≡ true
all_undotted = refl

dotted_first : {v : Surroundings} {x p : Place} {f : Tree} → IsTrue (is_found (forth (pun ".") x)) → First v x f p → ⊥
dotted_first {x = x} there (name l {t} h w g i) = literal_opening l t (pun ".") x (opener (pun ".") refl) h (found_at g i) there
dotted_first there (bracketed d b r) = bracket_none (opener (pun ".") refl) refl there b r
dotted_first {x = x} there (quoted d q r) = opener_piece x (opener (pun ".") refl) there (piece_of q r)
dotted_first {x = x} there (opened d {k} m g q) =
    clash _ (one_opening (opening_sign k) (pun ".") x (opener_of k m g) (opener (pun ".") refl) (opened_sign k m g q) there)
    (is_not _ (or_cases (grows_on k) _ (of_each undotted_opening all_undotted k m) (λ h. absurd (clash _ h g)) (λ n. n)))

dotted_callee : {v : Surroundings} {a b : Place} {e : Fault} → Moves (pun ".") a b → Barred so_far v (Part NewCallee) a e
dotted_callee {v} {a} {e = e} m = record { no = at }
  where
    at : (h : Given) (z : Place) → Past (Whole so_far) v (Part NewCallee) a h z → Shallow e (given_depth h) → ⊥
    at h z (tree {t = u} q) s = dotted_first (found_at (sym m.is) m.found) (begun {c = NewCallee} refl u q.reads).first

pub target_opened : {v : Surroundings} {a b y : Place} {t : Tree} → v.target' ≡ true → Moves (pun ".") a b → Only so_far v (Fixed (key "target")) b nothing y → IsTrue (is_found y) → t ≡ node (expression NewTarget) none → OnlyOpened v (key "new") t a y
target_opened {v} {a} {y = y} {t} h m o f e = opened_by (expression NewTarget) refl refl built (of_new (Other v a (expression NewTarget)) (barred refl (no_node (bar (dotted_callee m)))) (barred refl (no_node (bar (dotted_callee m)))) itself)
  where
    built : BuiltNode so_far v (tail (row_so_far (expression NewTarget))) (expression NewTarget) t a y
    built = record { parts = none; is = e; row = then' (only_sign m) (then' o (end f)); keeps = h }

none_new : {v : Surroundings} {a : Place} {e : Fault} → NoNode so_far v (tail (row_so_far (expression New))) (expression New) a e → NoNode so_far v (tail (row_so_far (expression NewWithoutArguments))) (expression NewWithoutArguments) a e → NoNode so_far v (tail (row_so_far (expression NewTarget))) (expression NewTarget) a e → NoneOpened v (key "new") a e
none_new {v} {a} {e = e} p q r = record { no = of_new (λ j. NoParts v j a e) (free_none (expression New) refl p) (free_none (expression NewWithoutArguments) refl q) (free_none (expression NewTarget) refl r) }

pub target_unread : {v : Surroundings} {a b : Place} {e : Fault} → Moves (pun ".") a b → Barred so_far v (Fixed (key "target")) b e → NoneOpened v (key "new") a e
target_unread m n = none_new (no_node (bar (dotted_callee m))) (no_node (bar (dotted_callee m))) (no_node (on (only_sign m) (bar n)))

pub target_outside : {v : Surroundings} {a b : Place} {e : Fault} → v.target' ≡ false → Moves (pun ".") a b → NoneOpened v (key "new") a e
target_outside h m = none_new (no_node (bar (dotted_callee m))) (no_node (bar (dotted_callee m))) (record { no = λ ts y w k _. clash _ (and_right (rule (expression NewTarget) ts) _ k) h })

pub callee_unread : {v : Surroundings} {a a' : Place} {e : Fault} → Missed (pun ".") a a' → Barred so_far v (Part NewCallee) a' e → NoneOpened v (key "new") a e
callee_unread {v} {a} {e = e} m given = let n : Barred so_far v (Part NewCallee) a e = subst (λ w. Barred so_far v (Part NewCallee) w e) (sym m.same) given in none_new (no_node (bar n)) (no_node (bar n)) (no_node (untargeted m.stuck.is))

callee_here : {v : Surroundings} {a a' b : Place} {t : Tree} → Missed (pun ".") a a' → Only so_far v (Part NewCallee) a' (one t) b → Only so_far v (Part NewCallee) a (one t) b
callee_here {v} {b = b} {t} m o = subst (λ p. Only so_far v (Part NewCallee) p (one t) b) (sym m.same) o

-- the callee alone
pub without_opened : {v : Surroundings} {a a' b b' : Place} {t u : Tree} → Missed (pun ".") a a' → Only so_far v (Part NewCallee) a' (one t) b → Missed (pun "(") b b' → u ≡ node (expression NewWithoutArguments) (part t none) → OnlyOpened v (key "new") u a b'
without_opened {v} {a} {b = b} {t = t} {u} m given p e =
    subst (OnlyOpened v (key "new") u a) p.same
    (opened_by (expression NewWithoutArguments) refl refl (kept_behind (expression NewWithoutArguments) (listed (expression NewWithoutArguments) refl refl refl) refl refl (built_2 here callee (only_sign (record { is = sym (unless_paren b p.stuck.is here); found = here })) e))
    (of_new (Other v a (expression NewWithoutArguments)) (barred refl (no_node (on callee (bar (no_sign p.stuck))))) itself (barred refl (no_node (untargeted m.stuck.is)))))
  where
    callee : Only so_far v (Part NewCallee) a (one t) b
    callee = callee_here m given

    here : IsTrue (is_found b)
    here = end_found of_so_far (whole_of callee.past).reads

unguarded : {v : Surroundings} {a b c : Place} {t : Tree} {e : Fault} → Only so_far v (Part NewCallee) a (one t) b → Moves (pun "(") b c → NoRow so_far v (tail (row_so_far (expression NewWithoutArguments))) a e
unguarded {b = b} o p = on o (bar (no_sign (record { is = paren_unless b (found_at (sym p.is) p.found) })))

-- with its arguments
pub with_opened : {v : Surroundings} {a a' b c y : Place} {t u : Tree} {us : Forest} → Missed (pun ".") a a' → Only so_far v (Part NewCallee) a' (one t) b → Moves (pun "(") b c → OnlyRow so_far v (tail (tail (row_so_far (expression Call)))) c us y → u ≡ node (expression New) (part t us) → OnlyOpened v (key "new") u a y
with_opened {v} {a} {b = b} {y = y} {t = t} {u} {us} m given p r e =
    opened_by (expression New) refl refl (kept_behind (expression New) (listed (expression New) refl refl refl) refl refl built)
    (of_new (Other v a (expression New)) itself (barred refl (no_node (unguarded callee p))) (barred refl (no_node (untargeted m.stuck.is))))
  where
    callee : Only so_far v (Part NewCallee) a (one t) b
    callee = callee_here m given

    built : Built so_far v (tail (row_so_far (expression New))) (expression New) (λ ts. ts) u a y
    built = record { parts = part t us; is = e; row = then' callee (then' (only_sign p) r) }

pub arguments_unread : {v : Surroundings} {a a' b c : Place} {t : Tree} {e : Fault} → Missed (pun ".") a a' → Only so_far v (Part NewCallee) a' (one t) b → Moves (pun "(") b c → NoRow so_far v (tail (tail (row_so_far (expression Call)))) c e → NoneOpened v (key "new") a e
arguments_unread m given p n = let callee = callee_here m given in none_new (no_node (on callee (on (only_sign p) n))) (no_node (unguarded callee p)) (no_node (untargeted m.stuck.is))
