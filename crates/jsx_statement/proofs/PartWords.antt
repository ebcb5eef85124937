-- A part that a word begins, and that isn't absent before that word: `else a` of an `if`, what is caught and what is done last of a `try`.
use Rattle.std.proofs.Common.{◌≡◌, nat_eq, Bool, true, false, not, cond, ℕ, [], ◌∷◌, refl, sym, ◌∙◌, ap, subst}
use Rattle.std.proofs.lemmas.Bool.{eqb-true, eq-eqb}
use Rattle.std.specs.Prelude.{IsTrue, codes, ◌||◌}
use Rattle.jsx_base.specs.Token.{Text, Operator, IdentifierName, InName, Dead, accepts, ended, is_dead, is_kind, is_part, is_token, last_state, among, at_front, breaks, skip, token, same, first_is}
use Rattle.jsx_base.proofs.Fronts.{other_ahead}
use Rattle.jsx_tree.specs.Signs.{AfterExpr, Tok, Unless}
use Rattle.jsx_tree.specs.Kinds.{Tree, list, none, part}
use Rattle.jsx_tree.specs.Nonterminals.{Nonterminal}
use Rattle.jsx_tree.specs.Grammar.{Part, Optional, Symbol}
use Rattle.jsx_tree.specs.Reading.{Place, Lost, At, forth, go_if}
use Rattle.jsx_tree.specs.StaticRules.{Surroundings}
use Rattle.jsx_tree.specs.Walk.{Given, Past, is_found, one, tree, absent, present}
use Rattle.jsx_tree.specs.Language.{Whole}
use Rattle.jsx_tree.specs.Answers.{Moves, Only, Barred}
use Rattle.jsx_tree.specs.Faults.{Fault, Shallow, given_depth, Unread}
use Rattle.jsx_tree.proofs.Tokens.{and_both, same_is, same_self}
use Rattle.jsx_tree.proofs.Apart.{by_not, clash}
use Rattle.jsx_tree.proofs.Rows.Bridge.{found_at}
use Rattle.jsx_tree.proofs.Rows.Laws.{end_found, lost_barred}
use Rattle.jsx_tree.proofs.Rows.Turns.{item_of, whole_of}
use Rattle.jsx_tree.proofs.Depth.Shallow.{shallow_head}
use Rattle.jsx_operand.specs.SoFar.{so_far}
use Rattle.jsx_operand.proofs.OfSoFar.{of_so_far}
use Rattle.jsx_declaration.proofs.Statements.{unless_lost}

-- ---- a token that is spelled as a word is that word

letters : (text : Text) → is_kind (accepts (last_state InName text)) IdentifierName ≡ true
letters [] = refl
letters (c ∷ text) = by (is_part c) (letters text)
  where
    by : (b : Bool) → is_kind (accepts (last_state InName text)) IdentifierName ≡ true → is_kind (accepts (cond (is_dead (cond b InName Dead)) InName (last_state (cond b InName Dead) text))) IdentifierName ≡ true
    by true h = h
    by false h = refl

ended_name : (k : _) (raw rest : Text) → is_kind k IdentifierName ≡ true → is_kind (ended k raw rest).kind IdentifierName ≡ true
ended_name IdentifierName raw rest h = refl
ended_name _ raw rest h = cc

-- a letter: whatever begins with it is a name, on a new line or not
pub record Letter (d : ℕ) : Type 0 where
  pub name : (f : Bool) (s : Text) → is_kind (at_front Operator f (d ∷ s)).kind IdentifierName ≡ true
  pub either : (f g : Bool) (s : Text) → at_front Operator f (d ∷ s) ≡ at_front Operator g (d ∷ s)

name_c : (f : Bool) (s : Text) → is_kind (at_front Operator f (99 ∷ s)).kind IdentifierName ≡ true
name_c true s = ended_name (accepts (last_state InName s)) _ _ (letters s)
name_c false s = ended_name (accepts (last_state InName s)) _ _ (letters s)

either_c : (f g : Bool) (s : Text) → at_front Operator f (99 ∷ s) ≡ at_front Operator g (99 ∷ s)
either_c true true s = refl
either_c true false s = refl
either_c false true s = refl
either_c false false s = refl

name_e : (f : Bool) (s : Text) → is_kind (at_front Operator f (101 ∷ s)).kind IdentifierName ≡ true
name_e true s = ended_name (accepts (last_state InName s)) _ _ (letters s)
name_e false s = ended_name (accepts (last_state InName s)) _ _ (letters s)

either_e : (f g : Bool) (s : Text) → at_front Operator f (101 ∷ s) ≡ at_front Operator g (101 ∷ s)
either_e true true s = refl
either_e true false s = refl
either_e false true s = refl
either_e false false s = refl

name_f : (f : Bool) (s : Text) → is_kind (at_front Operator f (102 ∷ s)).kind IdentifierName ≡ true
name_f true s = ended_name (accepts (last_state InName s)) _ _ (letters s)
name_f false s = ended_name (accepts (last_state InName s)) _ _ (letters s)

either_f : (f g : Bool) (s : Text) → at_front Operator f (102 ∷ s) ≡ at_front Operator g (102 ∷ s)
either_f true true s = refl
either_f true false s = refl
either_f false true s = refl
either_f false false s = refl

-- a word with which a statement goes on
pub record PartWord (d : ℕ) (t : Text) : Type 0 where
  pub letter : Letter d
  pub itself : among (d ∷ t) ((d ∷ t) ∷ []) ≡ true

pub of_else : PartWord 101 (codes "lse")
of_else = record { letter = record { name = name_e; either = either_e }; itself = refl }

pub of_catch : PartWord 99 (codes "atch")
of_catch = record { letter = record { name = name_c; either = either_c }; itself = refl }

pub of_finally : PartWord 102 (codes "inally")
of_finally = record { letter = record { name = name_f; either = either_f }; itself = refl }

raw_first : (d : ℕ) (t : Text) (f : Bool) (s : Text) → (at_front Operator f s).raw ≡ d ∷ t → first_is (nat_eq d) s ≡ true
raw_first d t f s e = by (first_is (nat_eq d) s) refl
  where
    by : (b : Bool) → first_is (nat_eq d) s ≡ b → first_is (nat_eq d) s ≡ true
    by true h = h
    by false h =
        let x = at_front Operator f s in
        absurd (clash (is_token x x.kind (d ∷ t)) (and_both _ _ (eq-eqb _ _ refl) (subst (λ r. same r (d ∷ t) ≡ true) (sym e) (same_self (d ∷ t)))) ((other_ahead x.kind d t Operator s h).not_it f))

front_name : {d : ℕ} → Letter d → (f : Bool) (s : Text) → first_is (nat_eq d) s ≡ true → is_kind (at_front Operator f s).kind IdentifierName ≡ true
front_name l f [] h = cc
front_name {d} l f (c ∷ s) h = subst (λ b. is_kind (at_front Operator f (b ∷ s)).kind IdentifierName ≡ true) (eqb-true d c h) (l.name f s)

same_front : {d : ℕ} → Letter d → (f g : Bool) (s : Text) → first_is (nat_eq d) s ≡ true → at_front Operator f s ≡ at_front Operator g s
same_front l f g [] h = cc
same_front {d} l f g (c ∷ s) h = subst (λ b. at_front Operator f (b ∷ s) ≡ at_front Operator g (b ∷ s)) (eqb-true d c h) (l.either f g s)

word_there : {d : ℕ} (t : Text) → Letter d → (q text : Text) → same (token Operator false text).raw (d ∷ t) ≡ true → is_token (token Operator (same q []) text) IdentifierName (d ∷ t) ≡ true
word_there {d} t l q text h =
    let first = raw_first d t (breaks text) (skip text) (same_is (token Operator false text).raw (d ∷ t) h) in
    ap (λ x. is_token x IdentifierName (d ∷ t)) (same_front l (same q [] || breaks text) (breaks text) (skip text) first) ∙ and_both _ _ (front_name l (breaks text) (skip text) first) h

or_false : (a : Bool) → (a || false) ≡ true → a ≡ true
or_false true e = refl
or_false false e = e

unless_word : {d : ℕ} {t : Text} → PartWord d t → (x : Place) → forth (Tok Operator IdentifierName (d ∷ t)) x ≡ Lost → IsTrue (is_found x) → forth (Unless ((d ∷ t) ∷ [])) x ≡ x
unless_word w Lost n f = cc
unless_word {d} {t} w (At q e text) n f = ap (λ b. go_if (not b) (At q e text)) (by_not _ bad)
  where
    bad : among (token Operator false text).raw ((d ∷ t) ∷ []) ≡ true → ⊥
    bad h =
        let there = word_there t w.letter q text (or_false _ h) in
        let gone : At (d ∷ t) AfterExpr (token Operator (same q []) text).rest ≡ Lost = ap (λ b. go_if b (At (d ∷ t) AfterExpr (token Operator (same q []) text).rest)) (sym there) ∙ n in cc

-- ---- the part

-- a word, and what it begins
abbrev pub led_by : ℕ → Text → Nonterminal → Symbol
led_by d t c = Optional (Tok Operator IdentifierName (d ∷ t) ∷ []) c [] ((d ∷ t) ∷ [])

pub absent_word : {v : Surroundings} {c : Nonterminal} {d : ℕ} {t : Text} {x : Place} → PartWord d t → forth (Tok Operator IdentifierName (d ∷ t)) x ≡ Lost → IsTrue (is_found x) → Only so_far v (led_by d t c) x (one (list none)) x
absent_word {v} {c} {d} {t} {x} w n f = record { past = absent (unless_word w x n f) f; alone = at }
  where
    at : (g : Given) (y : Place) → Past (Whole so_far) v (led_by d t c) x g y → (one (list none) ≡ g) × (x ≡ y)
    at g y (absent e h) = (refl, sym (unless_word w x n f) ∙ e)
    at g y (present {t = u} p q e h) = absurd ((lost_barred {e = Unread} of_so_far (sym p ∙ n)).no (one u) _ (tree q) tt)

no_absent : {d : ℕ} {t : Text} {x y z : Place} → PartWord d t → Moves (Tok Operator IdentifierName (d ∷ t)) x y → forth (Unless ((d ∷ t) ∷ [])) x ≡ z → IsTrue (is_found z) → ⊥
no_absent {d} {t} {x} w m e f =
    let bad : IsTrue (is_found Lost) = subst (λ p. IsTrue (is_found p)) (sym e ∙ unless_lost ((d ∷ t) ∷ []) IdentifierName d t x refl w.itself (found_at (sym m.is) m.found)) f in cc

pub present_word : {v : Surroundings} {c : Nonterminal} {d : ℕ} {t : Text} {x y z : Place} {b : Tree} → PartWord d t → Moves (Tok Operator IdentifierName (d ∷ t)) x y → Only so_far v (Part c) y (one b) z → Only so_far v (led_by d t c) x (one (list (part b none))) z
present_word {v} {c} {d} {t} {x} {y} {z} {b} w m o = record { past = present (sym m.is) (whole_of o.past) refl (end_found of_so_far (whole_of o.past).reads); alone = at }
  where
    at : (g : Given) (p : Place) → Past (Whole so_far) v (led_by d t c) x g p → (one (list (part b none)) ≡ g) × (z ≡ p)
    at g p (absent e h) = absurd (no_absent w m e h)
    at g p (present {z = z'} {t = u} a q e h) =
        let same' = o.alone (one u) z' (tree (subst (λ s. Whole so_far v false c s u z') (sym a ∙ sym m.is) q)) in
        ((λ i. one (list (part (item_of (same'.0 i)) none))), same'.1 ∙ e)

pub barred_word : {v : Surroundings} {c : Nonterminal} {d : ℕ} {t : Text} {x y : Place} {o : Fault} → PartWord d t → Moves (Tok Operator IdentifierName (d ∷ t)) x y → Barred so_far v (Part c) y o → Barred so_far v (led_by d t c) x o
barred_word {v} {c} {d} {t} {x} {y} {o = o} w m b = record { no = at }
  where
    at : (g : Given) (p : Place) → Past (Whole so_far) v (led_by d t c) x g p → Shallow o (given_depth g) → ⊥
    at g p (absent e h) s' = no_absent w m e h
    at g p (present {z = z} {t = u} a q e h) s' = b.no (one u) z (tree (subst (λ s. Whole so_far v false c s u z) (sym a ∙ sym m.is) q)) (shallow_head o u none s')
