-- The text of a whole program.
use Rattle.std.proofs.Common.{◌≡◌, ℕ, ◌+◌, ◌<◌, List, [], ◌∷◌, ◌++◌, Bool, true, false, length, get_or, take, map, refl, sym, ap, subst, ◌∙◌, string_bytes, String}
use Rattle.std.proofs.lemmas.List.{map-append, take_more}
use Rattle.std.proofs.lemmas.Str.{chars-nil}
use Rattle.std.specs.Prelude.{IsTrue}
use Rattle.std.specs.List.{list_any}
use Rattle.jsx_base.specs.Token as token
use Rattle.jsx_tree.specs.Fits.{fits}
use Rattle.jsx_tree.specs.Normal.{laid_tree}
use Rattle.jsx_tree.specs.Notes.{at_code}
use Rattle.jsx_tree.specs.Program.{is_goal, Reads}
use Rattle.jsx_tree.specs.Told.{told}
use Rattle.jsx_tree.specs.ViewProgram.{view}
use Rattle.jsx_tree.specs.declared.text.Goal.{Goal}
use Rattle.jsx_tree.specs.declared.program.Program.{Program}
use Rattle.jsx_tree.specs.declared.program.Program.TheVariants as programs
use Rattle.jsx_tree.proofs.ReadBack.Programs.{marked_is}
use Rattle.jsx_pen.specs.Calls.{begun, noted}
use Rattle.jsx_pen.specs.Pen.{begin, joint, mark, portion_of, puts, signs, whole}
use Rattle.jsx_pen.specs.declared.pen.Stretch.{Stretch}
use Rattle.jsx_pen.proofs.Laid.{joint_end}
use Rattle.jsx_pen.proofs.Marking.{begun_code}
use Rattle.jsx_pen.proofs.Fitting.{is_top, pen_lays, signs_bare}
use Rattle.jsx_plan.specs.Noted.{noted_program}
use Rattle.jsx_print.specs.Printing.{IsPrinted, marked_text}
use Rattle.jsx_plan.proofs.Planning.{job_is, pen_is, behind_is}

view_top : (p : Program) → is_top (view p) ≡ true
view_top (programs.Module m) = refl
view_top (programs.Script m) = refl

-- ---- the text

pub exact : (p : Program) (t : token.Text) (f : ℕ → Bool) → t ≡ whole f (puts begin (signs (noted_program p))) → IsTrue (fits (view p)) → t ≡ marked_text f (view p) (told p)
unfolding noted_program
exact p t f e h = e ∙ pen_lays f (view p) (told p) (view_top p) h

pub is_printed : (p : Program) (t : token.Text) (f : ℕ → Bool) → IsTrue (fits (view p)) → t ≡ marked_text f (view p) (told p) → IsPrinted (view p) t
is_printed p t f h e =
    let ms = signs (noted (view p) (told p)) in
    record { marked = begun f 0 false ms; in_code = subst (λ xs. IsTrue (at_code (begun f 0 false ms) 0 xs)) (signs_bare (view p) (told p) h) (begun_code f 0 false ms); is_layout = e }

pub text_reads : (p : Program) (t : token.Text) (f : ℕ → Bool) (goal : Goal) → t ≡ marked_text f (view p) (told p) → IsTrue (is_goal goal (view p)) → IsTrue (fits (view p)) → Reads goal t (laid_tree (view p))
text_reads p t f goal e g h =
    let i : IsPrinted (view p) t = is_printed p t f h e in
    subst (λ x. Reads goal x (laid_tree (view p))) (sym i.is_layout) (marked_is goal i.marked (view p) i.in_code g h)

-- ---- the stretches

-- one more stretch
pub next_joint : (f : ℕ → Bool) (xs : List Stretch) (i : ℕ) (s : Stretch) (t u : token.Text) → i < length xs → s ≡ get_or xs i s → u ≡ t ++ ((portion_of s).0 ++ mark (list_any f (portion_of s).1)) → t ≡ joint f (map portion_of (take i xs)) → u ≡ joint f (map portion_of (take (i + 1) xs))
next_joint f xs i s t u h q e k =
    let p = portion_of s in
    e ∙ ap (λ x. x ++ (p.0 ++ mark (list_any f p.1))) k
    ∙ sym (ap (λ ys. joint f (map portion_of ys)) (take_more xs i s h ∙ ap (λ x. take i xs ++ (x ∷ [])) (sym q)) ∙ ap (joint f) (map-append portion_of (take i xs) (s ∷ [])) ∙ joint_end f (map portion_of (take i xs)) p)

pub ruleset nothing = (chars-nil)

pub ruleset drafting = (job_is, pen_is, behind_is)
