-- A program that is read is sound with its parentheses off, where it has no JSX or its elements are replaced by calls.
use Rattle.std.proofs.Common.{◌≡◌, true, refl, sym, ap, ◌∙◌, subst}
use Rattle.std.proofs.lemmas.Bool.{and_parts, and_from, false≢true}
use Rattle.jsx_base.specs.Token.{Text}
use Rattle.jsx_tree.specs.declared.text.Goal.{Goal}
use Rattle.jsx_tree.specs.Kinds.{Tree, leaf, node, list, Forest, none, part}
use Rattle.jsx_tree.specs.Nonterminals.{WholeProgram}
use Rattle.jsx_tree.specs.Form.{admits, fits_below, is}
use Rattle.jsx_tree.specs.Normal.{laid_tree, remade, remades, without_parentheses}
use Rattle.jsx_tree.specs.StaticRules.{outside}
use Rattle.jsx_tree.specs.Program.{Reads}
use Rattle.jsx_tree.specs.Sound.{lawful, is_sound, each_node, no_jsx_node, has_no_jsx}
use Rattle.jsx_tree.proofs.Parentheses.Seen.{At}
use Rattle.jsx_tree.proofs.Parentheses.LawsKept.{lawful_same}
use Rattle.jsx_tree.proofs.Parentheses.Replaced.{Replacing, kept, out}
use Rattle.jsx_tree.proofs.Parentheses.Formed.{formed_out}
use Rattle.jsx_tree.proofs.Parentheses.Unwrapped.{unwrapped_at, unwrapped_bare}
use Rattle.jsx_tree.proofs.Parentheses.RulesLaid.{lawful_laid}

-- a program whose parts may stand where they do, and that is lawful as it is laid, is sound with its parentheses off
unwrapped_sound : (t : Tree) → At WholeProgram t → lawful outside (laid_tree t) ≡ true → is_sound (without_parentheses t) ≡ true
unwrapped_sound t a l =
    let u = unwrapped_at WholeProgram t a in
    and_from _ _ (and_from _ _ u.may u.below) (ap (lawful outside) (unwrapped_bare t) ∙ (sym (lawful_same WholeProgram t a outside) ∙ l))

pub replaced_sound : (r : Replacing) (goal : Goal) (text : Text) (t : Tree) → each_node r.ok t ≡ true → Reads goal text t → is_sound (without_parentheses (out r t)) ≡ true
replaced_sound r goal text t o h =
    let f = and_parts (admits WholeProgram t) (fits_below WholeProgram t) (and_parts (is WholeProgram t) _ h.read).0 in
    unwrapped_sound (out r t) (formed_out r WholeProgram t refl f.0 f.1 o) (lawful_laid r WholeProgram t (record { home = f.0; below = f.1 }) o outside h.is_legal)

-- nothing is replaced
nothing : Replacing
nothing = record {
  ok = no_jsx_node;
  make = node;
  stays = λ k ds n. refl;
  image = λ j ds. kept;
  elements = λ j cs o. absurd (false≢true o);
  formed = λ j cs o f. absurd (false≢true o);
  keeps = λ j cs o v. absurd (false≢true o);
}

mutual
  remade_same : (t : Tree) → remade node t ≡ t
  remade_same (leaf s x) = refl
  remade_same (node k cs) = ap (node k) (remades_same cs)
  remade_same (list ts) = ap list (remades_same ts)

  remades_same : (ts : Forest) → remades node ts ≡ ts
  remades_same none = refl
  remades_same (part t ts) = ap (λ u. part u (remades node ts)) (remade_same t) ∙ ap (part t) (remades_same ts)

pub read_sound : (goal : Goal) (text : Text) (t : Tree) → has_no_jsx t ≡ true → Reads goal text t → is_sound (without_parentheses t) ≡ true
unfolding nothing
read_sound goal text t n h = subst (λ u. is_sound (without_parentheses u) ≡ true) (remade_same t) (replaced_sound nothing goal text t n h)
