-- A first part that is too deep for what stands behind it.
use Rattle.std.proofs.Common.{◌≡◌, ◌≤◌, ℕ, zero, suc, true, false, List, sym, ◌∙◌, arith}
use Rattle.std.proofs.lemmas.Bool.{leb-false}
use Rattle.jsx_tree.specs.Kinds.{Kind, Tree}
use Rattle.jsx_tree.specs.Nonterminals.{Nonterminal}
use Rattle.jsx_tree.specs.Grammar.{Part}
use Rattle.jsx_tree.specs.Form.{admits, fits_below}
use Rattle.jsx_tree.specs.Reading.{Place}
use Rattle.jsx_tree.specs.StaticRules.{Surroundings}
use Rattle.jsx_tree.specs.Walk.{Piece}
use Rattle.jsx_tree.specs.Answers.{Barred}
use Rattle.jsx_tree.specs.Depth.{depth}
use Rattle.jsx_tree.specs.Grows.{Follows, Decides}
use Rattle.jsx_tree.specs.Faults.{Fault, Unread, Deep, Shallow, part_depth}
use Rattle.jsx_tree.proofs.Tokens.{and_right}
use Rattle.jsx_tree.proofs.Depth.Nodes.{counts_as, read_depth}
use Rattle.jsx_tree.proofs.Rows.Growing.{left_deep}
use Rattle.jsx_depth.specs.Fits.{fits}
use Rattle.jsx_depth.proofs.Laws.{fits_depth}
use Rattle.jsx_operand.specs.Outgrown.{Outgrown}
use Rattle.jsx_operand.specs.SoFar.{Staged, so_far}
use Rattle.jsx_operand.proofs.OfSoFar.{of_so_far}

-- nothing is as shallow that is one deeper
pub outgrown_deep : (c : Nonterminal) (e : Fault) (t : Tree) → fits_below c t ≡ true → Outgrown t e → Shallow e (suc (part_depth t)) → ⊥
outgrown_deep c Unread t f o s = o
outgrown_deep c (Deep zero) t f o s = omega (arith, s)
outgrown_deep c (Deep (suc n)) t f o s = omega (arith, leb-false (part_depth t) n (sym (fits_depth c n t f) ∙ o), s)

fits_less : (c : Nonterminal) (t : Tree) (n : ℕ) → fits_below c t ≡ true → fits n t ≡ false → suc n ≤ depth t
fits_less c t n f o =
    let d = read_depth c t f in
    let l = leb-false _ n (sym (fits_depth c n t f) ∙ o) in
    omega (arith, d, l)

-- a token goes on with it there, so whatever is read is one deeper
pub left_outgrown : {v : Surroundings} {c : Nonterminal} {x a : Place} {t : Tree} {k : Kind} {qs : List Piece} (e : Fault) → counts_as true k ≡ true → Follows so_far v c x t a → Decides so_far v c x t a k qs → Staged v false c x t a → Outgrown t e → Barred so_far v (Part c) x e
left_outgrown Unread n fs d r o = absurd o
left_outgrown (Deep zero) n fs d r o = left_deep of_so_far n fs d (omega arith)
left_outgrown {c = c} {t = t} (Deep (suc m)) n fs d r o = left_deep of_so_far n fs d (fits_less c t m (and_right (admits c t) (fits_below c t) (of_so_far.is_read r).is) o)
