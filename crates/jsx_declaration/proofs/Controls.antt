-- Statements of a word or a mark, and what stands behind some of them.
use Rattle.std.proofs.Common.{◌≡◌, ℕ, true, false, not, refl, sym, ap, subst}
use Rattle.std.specs.Prelude.{IsTrue, Result}
use Rattle.jsx_tree.specs.Signs.{SameLine, AfterWord, Ends}
use Rattle.jsx_tree.specs.Kinds.{Empty, Throw, Debugger, statement, Tree, node, none, part}
use Rattle.jsx_tree.specs.Nonterminals.{Expr}
use Rattle.jsx_tree.specs.Grammar.{Symbol, Part, semi}
use Rattle.jsx_tree.specs.Reading.{Place, go_if}
use Rattle.jsx_tree.specs.StaticRules.{Surroundings}
use Rattle.jsx_tree.specs.Walk.{is_found, one, nothing, Given, tail}
use Rattle.jsx_tree.specs.Answers.{Moves, Only, Barred, NoNode, BuiltNode}
use Rattle.jsx_tree.specs.Faults.{Fault}
use Rattle.jsx_tree.proofs.Tokens.{and_both}
use Rattle.jsx_tree.proofs.Rows.Placing.{no_node}
use Rattle.jsx_tree.proofs.Rows.Steps.{bar, no_sign, only_sign, built_2, built_3, built_end}
use Rattle.jsx_base.specs.Token.{breaks}
use Rattle.jsx_token.specs.Here.{Here, place_of}
use Rattle.jsx_token.specs.Marks.{row_so_far}
use Rattle.jsx_operand.specs.SoFar.{so_far}
use Rattle.jsx_operand.specs.declared.error.ParseError.{ParseError}
use Rattle.jsx_operand.specs.Answers.{Refused}
use Rattle.jsx_operand.specs.Outgrown.{Outgrown}
use Rattle.jsx_declaration.proofs.Statements.{plain_node}

-- ---- in other surroundings that are the same

pub only_in : {u v : Surroundings} {p : Symbol} {x y : Place} {g : Given} → u ≡ v → Only so_far u p x g y → Only so_far v p x g y
only_in {p = p} {x} {y} {g} e o = subst (λ w. Only so_far w p x g y) e o

pub barred_in : {u v : Surroundings} {p : Symbol} {x : Place} {o : Fault} → u ≡ v → Barred so_far u p x o → Barred so_far v p x o
barred_in {p = p} {x} {o = o} e b = subst (λ w. Barred so_far w p x o) e b

-- a first part that is too deep, by what it is equal to
pub outgrown_as : {T : Type 0} {n : ℕ} {r : Result T ParseError} {t u : Tree} → t ≡ u → Refused n r (Outgrown t) → Refused n r (Outgrown u)
outgrown_as {n = n} {r} e b = subst (λ w. Refused n r (Outgrown w)) e b

-- ---- the plain ones

pub empty_built : {v : Surroundings} {x : Place} {t : Tree} → IsTrue (is_found x) → t ≡ node (statement Empty) none → BuiltNode so_far v (tail (row_so_far (statement Empty))) (statement Empty) t x x
empty_built f is = plain_node refl (λ ts h. and_both _ _ h refl) (built_end f is)

pub debugger_built : {v : Surroundings} {x y z : Place} {t : Tree} → Moves (Ends AfterWord) x y → Only so_far v semi y nothing z → IsTrue (is_found z) → t ≡ node (statement Debugger) none → BuiltNode so_far v (tail (row_so_far (statement Debugger))) (statement Debugger) t x z
debugger_built m o f is = plain_node refl (λ ts h. and_both _ _ h refl) (built_2 f (only_sign m) o is)

-- on the line of its word
pub on_line : (h : Here) → not (breaks h.rest) ≡ true → Moves SameLine (place_of h) (place_of h)
on_line h n = record { is = sym (ap (λ b. go_if b (place_of h)) n); found = refl }

pub throw_built : {v : Surroundings} {x y z : Place} {e t : Tree} → Moves SameLine x x → Only so_far v (Part (Expr 0)) x (one e) y → Only so_far v semi y nothing z → IsTrue (is_found z) → t ≡ node (statement Throw) (part e none) → BuiltNode so_far v (tail (row_so_far (statement Throw))) (statement Throw) t x z
throw_built m o s f is = plain_node refl (λ ts h. and_both _ _ h refl) (built_3 f (only_sign m) o s is)

pub no_throw : {v : Surroundings} {e : Fault} (h : Here) → not (breaks h.rest) ≡ false → NoNode so_far v (tail (row_so_far (statement Throw))) (statement Throw) (place_of h) e
no_throw h n = no_node (bar (no_sign (record { is = ap (λ b. go_if b (place_of h)) n })))
