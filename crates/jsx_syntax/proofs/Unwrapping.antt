-- A visit that takes off parentheses leaves the tree without them, of all trees that are taken so far.
use Rattle.std.proofs.Common.{◌≡◌, true, false, refl, Option, Box, Global}
use Rattle.std.proofs.lemmas.Bool.{true≢false, false≢true}
use Rattle.jsx_base.specs.Token.{Text, JsxName}
use Rattle.jsx_base.specs.declared.place.Span.{Span}
use Rattle.jsx_tree.specs.declared.program.Program.{Program}
use Rattle.jsx_tree.specs.declared.program.Program.TheVariants as programs
use Rattle.jsx_tree.specs.declared.text.Goal.{Goal}
use Rattle.jsx_tree.specs.declared.tree.Pat.{Pat}
use Rattle.jsx_tree.specs.declared.tree.Pat.TheVariants as pat
use Rattle.jsx_tree.specs.Kinds.{Role, Kind, function, expression, jsx, ParenTarget, Parenthesized, Element, Tree, leaf, node, list, Forest, none, part}
use Rattle.jsx_tree.specs.Normal.{unwrapped_node, without_parentheses}
use Rattle.jsx_tree.specs.View.{view_pattern}
use Rattle.jsx_tree.proofs.Views.{views}
use Rattle.jsx_tree.proofs.Telling.{telling}
use Rattle.jsx_token.specs.Stage.{ReadsSoFar}
use Rattle.jsx_visit.specs.Visit.{is_handed, visited, changed_target, span_of}
use Rattle.jsx_visit.specs.Parts.{is_pair}
use Rattle.jsx_visit.proofs.Pairs.{stands_alone}
use Rattle.jsx_visit.proofs.Remade.{is_bare, visited_remade, each_weaker}
use Rattle.jsx_operand.specs.Spans.{program_at}
use Rattle.jsx_syntax.proofs.Staged.{is_simple, so_far_simple}

-- what each node of the code is, and what it tells of places
pub ruleset nodes = (views, telling)

-- a pattern that is no target in parentheses is left
left_alone : (t : Tree) → false ≡ is_pair t → changed_target unwrapped_node t ≡ t
left_alone (node (function ParenTarget) cs) h = absurd (false≢true h)
left_alone t h = refl

pub pattern_left : (p : Pat) (r : Role) → ((at : Option Span) (q : Box Pat Global) → p ≡ pat.Paren at q → ⊥) → changed_target unwrapped_node (view_pattern p r) ≡ view_pattern p r
pattern_left p r h = left_alone (view_pattern p r) (stands_alone p r h)

others_stay : (k : Kind) (cs : Forest) → is_handed k ≡ false → unwrapped_node k cs ≡ node k cs
others_stay (expression Parenthesized) cs h = absurd (true≢false h)
others_stay (function ParenTarget) cs h = absurd (true≢false h)
others_stay k cs h = refl

of_tokens : (k : Kind) (cs : Forest) → is_simple k cs ≡ true → is_bare k cs ≡ true
of_tokens (jsx Element) (part (leaf JsxName t) (part (list none) none)) o = refl
of_tokens (jsx j) cs o = absurd (false≢true o)
of_tokens k cs o = refl

pub visited_bare : (goal : Goal) (text : Text) (t : Tree) → ReadsSoFar goal text t → visited unwrapped_node t ≡ without_parentheses t
visited_bare goal text t r = visited_remade unwrapped_node (record { keeps = others_stay }) t (each_weaker is_simple is_bare of_tokens t (so_far_simple goal text t r))

-- the span of a program, under its two names
pub same_span : (p : Program) → program_at p ≡ span_of p
same_span (programs.Module m) = refl
same_span (programs.Script m) = refl
