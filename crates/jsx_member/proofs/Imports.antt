-- What begins with `import`: a call and `import.meta`, told apart by what stands behind it.
use Rattle.std.proofs.Common.{◌≡◌, nat_eq, Bool, true, false, refl, sym, subst}
use Rattle.std.specs.Prelude.{IsTrue, codes, ◌||◌}
use Rattle.jsx_base.specs.Token.{Punctuator, kind_number, same}
use Rattle.jsx_tree.specs.Kinds.{ImportCall, ImportMeta, Kind, expression, Tree, node, none}
use Rattle.jsx_tree.specs.Grammar.{Fixed, key, pun}
use Rattle.jsx_tree.specs.Reading.{Place, Lost, forth}
use Rattle.jsx_tree.specs.StaticRules.{Surroundings, rule}
use Rattle.jsx_tree.specs.Walk.{is_found, nothing, tail}
use Rattle.jsx_tree.specs.Answers.{Moves, Missed, Only, Barred, NoRow, NoNode, Built, BuiltNode}
use Rattle.jsx_tree.specs.Faults.{Fault}
use Rattle.jsx_tree.proofs.Tokens.{and_right}
use Rattle.jsx_tree.proofs.Apart.{clash, one_token}
use Rattle.jsx_tree.proofs.Rows.Bridge.{found_at}
use Rattle.jsx_tree.proofs.Rows.Placing.{no_node}
use Rattle.jsx_tree.proofs.Rows.Steps.{bar, end, no_sign, on, only_sign, then'}
use Rattle.jsx_tree.proofs.Rows.Stopping.{or_cases}
use Rattle.jsx_token.specs.Marks.{row_so_far}
use Rattle.jsx_token.proofs.Listed.{listed, code, kinds, every, of_each, one_place, implies, implied}
use Rattle.jsx_operand.specs.SoFar.{so_far}
use Rattle.jsx_operand.specs.Openings.{opens_with, NoParts, OnlyOpened, NoneOpened}
use Rattle.jsx_operand.proofs.Values.{led_sign}
use Rattle.jsx_operand.proofs.Openings.{Other, itself, barred, free_none, kept_behind, opened_by, opens_listed}

abbrev imports : Kind → Bool
imports j = implies (opens_with (key "import") j) (nat_eq (code j) (code (expression ImportCall)) || nat_eq (code j) (code (expression ImportMeta)))

all_imports : every imports kinds ≡ true
all_imports = refl

of_import : (P : Kind → Type 0) → P (expression ImportCall) → P (expression ImportMeta) → (j : Kind) → opens_with (key "import") j ≡ true → P j
of_import P p q j o =
    let m = opens_listed (key "import") j o in
    or_cases (nat_eq (code j) (code (expression ImportCall))) (nat_eq (code j) (code (expression ImportMeta))) (implied (opens_with (key "import") j) _ (of_each imports all_imports j m) o)
    (λ e. subst P (sym (one_place j (expression ImportCall) m (listed (expression ImportCall) refl refl refl) e)) p)
    (λ e. subst P (sym (one_place j (expression ImportMeta) m (listed (expression ImportMeta) refl refl refl) e)) q)

paren_dot : (x : Place) → IsTrue (is_found (forth (pun "(") x)) → IsTrue (is_found (forth (pun ".") x)) → ⊥
paren_dot x f g = let bad : (same (codes "(") (codes ".")) ≡ true = and_right (nat_eq (kind_number Punctuator) (kind_number Punctuator)) _ (one_token Punctuator Punctuator (codes "(") (codes ".") x f g) in cc

-- no `.` behind the word
undotted : {v : Surroundings} {a : Place} {e : Fault} → forth (pun ".") a ≡ Lost → NoRow so_far v (tail (row_so_far (expression ImportMeta))) a e
undotted n = bar (no_sign (record { is = n }))

none_import : {v : Surroundings} {a : Place} {e : Fault} → NoNode so_far v (tail (row_so_far (expression ImportCall))) (expression ImportCall) a e → NoNode so_far v (tail (row_so_far (expression ImportMeta))) (expression ImportMeta) a e → NoneOpened v (key "import") a e
none_import {v} {a} {e = e} p q = record { no = of_import (λ j. NoParts v j a e) (free_none (expression ImportCall) refl p) (free_none (expression ImportMeta) refl q) }

pub import_called : {v : Surroundings} {a a' y : Place} {t : Tree} → Missed (pun ".") a a' → Built so_far v (tail (row_so_far (expression ImportCall))) (expression ImportCall) (λ ts. ts) t a' y → OnlyOpened v (key "import") t a y
import_called {v} {a} {y = y} {t} m given =
    let b = subst (λ p. Built so_far v (tail (row_so_far (expression ImportCall))) (expression ImportCall) (λ ts. ts) t p y) (sym m.same) given in
    opened_by (expression ImportCall) refl refl (kept_behind (expression ImportCall) (listed (expression ImportCall) refl refl refl) refl refl b)
    (of_import (Other v a (expression ImportCall)) itself (barred refl (no_node (undotted m.stuck.is))))

pub import_uncalled : {v : Surroundings} {a a' : Place} {e : Fault} → Missed (pun ".") a a' → NoRow so_far v (tail (row_so_far (expression ImportCall))) a' e → NoneOpened v (key "import") a e
import_uncalled {v} {a} {e = e} m n = none_import (no_node (subst (λ w. NoRow so_far v (tail (row_so_far (expression ImportCall))) w e) (sym m.same) n)) (no_node (undotted m.stuck.is))

dotted_call : {v : Surroundings} {a b : Place} {e : Fault} → Moves (pun ".") a b → NoRow so_far v (tail (row_so_far (expression ImportCall))) a e
dotted_call {a = a} m = record { no = λ ts y w s. paren_dot a (led_sign (tail (row_so_far (expression ImportCall))) refl w) (found_at (sym m.is) m.found) }

pub meta_opened : {v : Surroundings} {a b y : Place} {t : Tree} → v.module' ≡ true → Moves (pun ".") a b → Only so_far v (Fixed (key "meta")) b nothing y → IsTrue (is_found y) → t ≡ node (expression ImportMeta) none → OnlyOpened v (key "import") t a y
meta_opened {v} {a} {y = y} {t} h m o f e = opened_by (expression ImportMeta) refl refl built (of_import (Other v a (expression ImportMeta)) (barred refl (no_node (dotted_call m))) itself)
  where
    built : BuiltNode so_far v (tail (row_so_far (expression ImportMeta))) (expression ImportMeta) t a y
    built = record { parts = none; is = e; row = then' (only_sign m) (then' o (end f)); keeps = h }

pub meta_unread : {v : Surroundings} {a b : Place} {e : Fault} → Moves (pun ".") a b → Barred so_far v (Fixed (key "meta")) b e → NoneOpened v (key "import") a e
meta_unread {v} {a} m n = none_import (no_node (dotted_call m)) (no_node (on (only_sign m) (bar n)))

pub meta_outside : {v : Surroundings} {a b : Place} {e : Fault} → v.module' ≡ false → Moves (pun ".") a b → NoneOpened v (key "import") a e
meta_outside {v} {a} h m = none_import (no_node (dotted_call m)) (record { no = λ ts y w k s. clash _ (and_right (rule (expression ImportMeta) ts) _ k) h })
