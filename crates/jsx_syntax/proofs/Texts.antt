-- From the parser's begin.
use Rattle.std.proofs.Common.{◌≡◌, ◌<◌, ◌≤◌, ℕ, arith, sym, subst}
use Rattle.std.specs.Prelude.{Result, Err}
use Rattle.jsx_base.specs.Token.{Text}
use Rattle.jsx_tree.specs.declared.text.Goal.{Goal}
use Rattle.jsx_tree.specs.declared.text.Goal.TheVariants as goals
use Rattle.jsx_tree.specs.Kinds.{Module, Script, program, Tree, Forest, node}
use Rattle.jsx_tree.specs.Depth.{depth}
use Rattle.jsx_tree.specs.Nonterminals.{Item, Stmt}
use Rattle.jsx_tree.specs.Reading.{Place}
use Rattle.jsx_tree.specs.StaticRules.{Surroundings, outside}
use Rattle.jsx_tree.specs.Texts.{start}
use Rattle.jsx_tree.specs.Faults.{Deep, Fault, Shallow, deepest}
use Rattle.jsx_tree.proofs.OneTree.Whole.{one_tree}
use Rattle.jsx_token.specs.Stage.{ReadsSoFar}
use Rattle.jsx_operand.specs.Around.{in_code}
use Rattle.jsx_operand.specs.SoFar.{in_module}
use Rattle.jsx_operand.specs.Answers.{NoTree, Refused, fault_of}
use Rattle.jsx_operand.specs.declared.error.ParseError.{ParseError}
use Rattle.jsx_syntax.specs.Programs.{IsProgram, NoProgram, OnlyProgram, program_parts}
use Rattle.jsx_syntax.proofs.Programs.{module_read, module_reads, script_read, script_reads, text_shallow}

pub whole_module : {v : Surroundings} {text : Text} {x : Place} {ds ts : Forest} → v ≡ in_module → x ≡ start text → OnlyProgram Item (λ ds. v) x ds ts → ReadsSoFar goals.Module text (node (program Module) (program_parts ds ts))
whole_module {v} {text} {ds = ds} {ts} stands same o = module_reads (subst (λ u. IsProgram Item (λ ds. u) (start text) ds ts) stands (subst (λ p. IsProgram Item (λ ds. v) p ds ts) same o.leads))

pub no_module : {v : Surroundings} {text : Text} {x : Place} {e : Fault} → v ≡ in_module → x ≡ start text → NoProgram Item (λ ds. v) x e → NoTree goals.Module text e
no_module {v} {text} {e = e} stands same n = record {
  no = λ t r h.
      let s = module_read r in
      n.no s.directives s.rest (subst (λ p. IsProgram Item (λ ds. v) p s.directives s.rest) (sym same) (subst (λ u. IsProgram Item (λ ds. u) (start text) s.directives s.rest) (sym stands) s.leads)) (subst (λ us. Shallow e (deepest us)) s.is (text_shallow t e r h));
}

pub whole_script : {v : Surroundings} {text : Text} {x : Place} {ds ts : Forest} → v ≡ outside → x ≡ start text → OnlyProgram Stmt (λ ds. in_code ds v) x ds ts → ReadsSoFar goals.Script text (node (program Script) (program_parts ds ts))
whole_script {v} {text} {ds = ds} {ts} stands same o = script_reads (subst (λ u. IsProgram Stmt (λ ds. in_code ds u) (start text) ds ts) stands (subst (λ p. IsProgram Stmt (λ ds. in_code ds v) p ds ts) same o.leads))

pub no_script : {v : Surroundings} {text : Text} {x : Place} {e : Fault} → v ≡ outside → x ≡ start text → NoProgram Stmt (λ ds. in_code ds v) x e → NoTree goals.Script text e
no_script {v} {text} {e = e} stands same n = record {
  no = λ t r h.
      let s = script_read r in
      n.no s.directives s.rest (subst (λ p. IsProgram Stmt (λ ds. in_code ds v) p s.directives s.rest) (sym same) (subst (λ u. IsProgram Stmt (λ ds. in_code ds u) (start text) s.directives s.rest) (sym stands) s.leads)) (subst (λ us. Shallow e (deepest us)) s.is (text_shallow t e r h));
}

-- where the tree that reads is deeper than it may be, none is as shallow
pub deeper_tree : {goal : Goal} {text : Text} {n : ℕ} {t : Tree} → ReadsSoFar goal text t → n < depth t → NoTree goal text (Deep n)
deeper_tree {goal} {text} {n} {t} r d = record { no = λ u s h. let w = subst (λ k. depth k ≤ n) (one_tree goal text u t s.reads r.reads) h in omega (arith, d, w) }

-- an error whose fault is known
pub refused_as : {T : Type 0} (r : Result T ParseError) {n : ℕ} {B : Fault → Type 0} (x : ParseError) → r ≡ Err x → B (fault_of n x) → Refused n r B
refused_as r {n} {B} x is b = record { bars = λ y e w. let same : x ≡ y = cc in subst (λ z. B (fault_of n z)) same b }
