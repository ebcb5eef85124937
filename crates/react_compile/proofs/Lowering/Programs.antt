-- What is printed of a program whose elements are lowered is code for it.
use Rattle.std.proofs.Common.{◌≡◌, ℕ, List, [], Bool, true, sym, ap, ◌∙◌, subst}
use Rattle.std.proofs.lemmas.Bool.{and_parts}
use Rattle.std.specs.Prelude.{IsTrue}
use Rattle.std.specs.Str.{IsUtf8, chars}
use Rattle.jsx_base.specs.Token.{Text}
use Rattle.jsx_tree.specs.declared.text.Goal.{Goal}
use Rattle.jsx_tree.specs.Kinds.{Tree}
use Rattle.jsx_tree.specs.Nonterminals.{WholeProgram}
use Rattle.jsx_tree.specs.Spelling.{spelled}
use Rattle.jsx_tree.specs.Normal.{without_parentheses, nf, laid_tree}
use Rattle.jsx_tree.specs.Notes.{at_code, marks, noted_layout}
use Rattle.jsx_tree.specs.Form.{is}
use Rattle.jsx_tree.specs.Parentheses.{parenthesise}
use Rattle.jsx_tree.specs.StaticRules.{outside}
use Rattle.jsx_tree.specs.Fits.{fits}
use Rattle.jsx_tree.specs.Program.{Reads}
use Rattle.jsx_tree.specs.Sound.{formed, lawful, is_sound}
use Rattle.jsx_token.specs.Stage.{ReadsSoFar}
use Rattle.jsx_tree.proofs.ReadBack.Programs.{marked_is}
use Rattle.jsx_tree.proofs.Parentheses.Programs.{dressed_fits, dressed_goal, dressed_same}
use Rattle.jsx_tree.proofs.Parentheses.Unwrapped.{unwrapped_goal}
use Rattle.jsx_print.specs.Printing.{IsPrinted}
use Rattle.react_compile.specs.Element.{default_settings}
use Rattle.react_compile.specs.StandsFor.{StandsFor}
use Rattle.react_compile.specs.Compiles.{IsCodeFor}
use Rattle.react_compile.specs.Lowering.{lower, can_lower, prepared, IsPrepared}
use Rattle.react_compile.proofs.Lowering.Calls.{lowered_sound, lowered_goal}
use Rattle.react_compile.proofs.Lowering.Free.{fits_free}
use Rattle.react_compile.proofs.Lowering.Standing.{lowered_stands}
use Rattle.react_compile.proofs.Lowering.Visiting.{so_far_lowers, bare_lowers}

pub is_prepared : (goal : Goal) (text : Text) (t : Tree) → IsTrue (can_lower t) → Reads goal text t → IsPrepared goal t
is_prepared goal text t o h =
    let u : Tree = lower (without_parentheses t) in
    let s : is_sound u ≡ true = lowered_sound goal text t o h in
    record {
      of_goal = dressed_goal goal u (lowered_goal goal (without_parentheses t) (unwrapped_goal goal t h.of_goal));
      can_print = dressed_fits u s;
      jsx_free = fits_free (parenthesise u) (dressed_fits u s);
      stands_for = subst (λ x. StandsFor default_settings (nf t) x []) (sym (dressed_same u (and_parts (formed u) (lawful outside (laid_tree u)) s).0)) (lowered_stands t (and_parts (is WholeProgram t) _ h.read).0 o);
    }

-- so bytes that are its layout, with pure marks before tokens of code, are code for the program
pub is_code_for : (goal : Goal) (source : Text) (t : Tree) (bytes : List ℕ) (at : ℕ → Bool) → ReadsSoFar goal source t → IsUtf8 bytes → IsTrue (at_code at 0 (spelled (laid_tree (prepared t)))) → chars bytes ≡ noted_layout (marks at) (prepared t) → IsCodeFor goal t bytes
is_code_for goal source t bytes at h u w e =
    let p : IsPrepared goal t = is_prepared goal source t (so_far_lowers goal source t h) h.reads in
    record {
      utf8 = u;
      printed = laid_tree (prepared t);
      reads = subst (λ x. Reads goal x (laid_tree (prepared t))) (sym e) (marked_is goal at (prepared t) w p.of_goal p.can_print);
      jsx_free = p.jsx_free;
      stands_for = p.stands_for;
    }

-- the passes, one after the other: what was read without its parentheses, and then lowered, parenthesised and printed
pub passes_code : (goal : Goal) (source : Text) (t bare lowered paired : Tree) (bytes : List ℕ) → ReadsSoFar goal source t → bare ≡ without_parentheses t → (IsTrue (can_lower bare) → lowered ≡ lower bare) → (IsTrue (formed lowered) → paired ≡ parenthesise lowered)
    → (IsTrue (fits paired) → IsPrinted paired (chars bytes)) → IsUtf8 bytes → IsCodeFor goal t bytes
passes_code goal source t bare lowered paired bytes h off lowers pairs prints u =
    let o : can_lower t ≡ true = so_far_lowers goal source t h in
    let low : lowered ≡ lower (without_parentheses t) = lowers (ap can_lower off ∙ bare_lowers t o) ∙ ap lower off in
    let s : is_sound lowered ≡ true = ap is_sound low ∙ lowered_sound goal source t o h.reads in
    let p : paired ≡ prepared t = pairs (and_parts (formed lowered) (lawful outside (laid_tree lowered)) s).0 ∙ ap parenthesise low in
    let k : IsPrinted (prepared t) (chars bytes) = subst (λ x. IsPrinted x (chars bytes)) p (prints (ap fits p ∙ (is_prepared goal source t o h.reads).can_print)) in
    is_code_for goal source t bytes k.marked h u k.in_code k.is_layout
