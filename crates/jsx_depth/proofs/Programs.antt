-- Whether a program is within so many levels is whether the tree that a text reads as is no deeper.
use Rattle.std.proofs.Common.{◌≡◌, ◌<◌, ◌≤◌, ℕ, true, false, sym, ◌∙◌}
use Rattle.std.specs.Prelude.{nat_le}
use Rattle.std.proofs.lemmas.Bool.{leb-true, leb-false}
use Rattle.jsx_base.specs.Token.{Text}
use Rattle.jsx_tree.specs.declared.text.Goal.{Goal}
use Rattle.jsx_tree.specs.Kinds.{Tree, leaf, node, list}
use Rattle.jsx_tree.specs.Nonterminals.{WholeProgram}
use Rattle.jsx_tree.specs.Form.{admits, fits_below, is}
use Rattle.jsx_tree.specs.Spelling.{spelled}
use Rattle.jsx_tree.specs.Reading.{ended_at, scan}
use Rattle.jsx_tree.specs.Texts.{start}
use Rattle.jsx_tree.specs.Program.{Reads}
use Rattle.jsx_tree.specs.Depth.{depth}
use Rattle.jsx_tree.proofs.Tokens.{and_left, and_right}
use Rattle.jsx_depth.specs.Fits.{fits}
use Rattle.jsx_depth.proofs.Laws.{fits_depth}

is_program : {goal : Goal} {text : Text} (t : Tree) → Reads goal text t → is WholeProgram t ≡ true
is_program {text = text} t r = and_left (is WholeProgram t) (ended_at (scan (start text) (spelled t))) r.read

program_fits : {goal : Goal} {text : Text} (n : ℕ) (t : Tree) → Reads goal text t → fits n t ≡ nat_le (depth t) n
program_fits n (leaf k s) r = fits_depth WholeProgram n (leaf k s) (and_right (admits WholeProgram (leaf k s)) (fits_below WholeProgram (leaf k s)) (is_program (leaf k s) r))
program_fits n (node k ts) r = fits_depth WholeProgram n (node k ts) (and_right (admits WholeProgram (node k ts)) (fits_below WholeProgram (node k ts)) (is_program (node k ts) r))
program_fits n (list ts) r = let bad = and_left false (fits_below WholeProgram (list ts)) (is_program (list ts) r) in cc

pub program_within : {goal : Goal} {text : Text} {n : ℕ} {t : Tree} → Reads goal text t → fits n t ≡ true → depth t ≤ n
program_within {n = n} {t} r e = leb-true (depth t) n (sym (program_fits n t r) ∙ e)

pub program_deeper : {goal : Goal} {text : Text} {n : ℕ} {t : Tree} → Reads goal text t → fits n t ≡ false → n < depth t
program_deeper {n = n} {t} r e = leb-false (depth t) n (sym (program_fits n t r) ∙ e)
