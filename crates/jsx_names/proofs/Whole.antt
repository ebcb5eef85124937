-- The laws on the events of whole programs.
use Rattle.std.proofs.Common.{◌≡◌, [], true, sym, ap, ◌∙◌, append-nil}
use Rattle.std.specs.Prelude.{◌&&◌}
use Rattle.jsx_tree.specs.Kinds.{Script, program, Tree}
use Rattle.jsx_tree.specs.Nonterminals.{WholeProgram}
use Rattle.jsx_tree.specs.Sound.{each_node}
use Rattle.jsx_tree.specs.Clashes.{direct_evals}
use Rattle.jsx_tree.proofs.Tokens.{and_left, and_right}
use Rattle.jsx_names.specs.Events.{Plain, events}
use Rattle.jsx_names.specs.Answers.{answers, clashing, evals_in}
use Rattle.jsx_names.specs.Resolved.{resolved, clashed}
use Rattle.jsx_names.specs.Proper.{stands, is_proper, is_sided, proper}
use Rattle.jsx_names.proofs.Leads.{leads_tree}
use Rattle.jsx_names.proofs.Shows.{shows_tree}
use Rattle.jsx_names.proofs.Evals.{evals_tree}

pub answers_resolved : (t : Tree) → answers [] (events t) ≡ resolved [] Plain (program Script) WholeProgram [] t
answers_resolved t =
    ap (answers []) (sym (append-nil (events t)))
    ∙ (leads_tree Plain (program Script) WholeProgram [] t []).leads []
    ∙ append-nil (resolved [] Plain (program Script) WholeProgram [] t)

pub clashes_shown : (t : Tree) → clashing (events t) ≡ clashed Plain (program Script) [] t
clashes_shown t =
    ap clashing (sym (append-nil (events t)))
    ∙ (shows_tree Plain (program Script) WholeProgram [] t).shows []
    ∙ append-nil (clashed Plain (program Script) [] t)

pub calls_told : (t : Tree) → proper t ≡ true → evals_in (events t) ≡ direct_evals t
calls_told t h = evals_tree Plain (program Script) WholeProgram [] t (and_left (each_node is_proper t) (each_node is_sided t) (and_right (stands WholeProgram t) (each_node is_proper t && each_node is_sided t) h))
