-- The layout of a tree that fits reads as its laid tree.
use Rattle.std.proofs.Common.{◌≡◌, ℕ, List, [], ◌∷◌, Bool, true, false, not, ◌&&◌, refl, inr}
use Rattle.std.proofs.lemmas.Bool.{false≢true, and_parts, and_from}
use Rattle.std.specs.Prelude.{IsTrue}
use Rattle.jsx_base.specs.Token.{Text, among}
use Rattle.jsx_tree.specs.Signs.{AfterExpr}
use Rattle.jsx_tree.specs.Kinds.{Kind, program, statement, expression, Module, Script, If, Chain, Tree, leaf, node, list, Forest, none, part}
use Rattle.jsx_tree.specs.Nonterminals.{Nonterminal, WholeProgram, leaf_in}
use Rattle.jsx_tree.specs.Grammar.{production}
use Rattle.jsx_tree.specs.Layout.{Note, laid, first_token, layout, printed}
use Rattle.jsx_tree.specs.Normal.{laid_tree}
use Rattle.jsx_tree.specs.Spelling.{saids, walk, spelled}
use Rattle.jsx_tree.specs.Form.{Form, Single, Maybe, Several, Position, position, positions, shaped, admits, is_leaf, fits_below, fit_slots, fit_each, is}
use Rattle.jsx_tree.specs.Parentheses.{is_dotted_number}
use Rattle.jsx_tree.specs.Reading.{At, scan, ended_at, reads}
use Rattle.jsx_tree.specs.StaticRules.{Surroundings, outside, rule, stands, legal, legals, each_legal, enters}
use Rattle.jsx_tree.specs.Fits.{is_plain, is_solid, may_begin, held, helds, held_each, fits_laid, fits}
use Rattle.jsx_tree.specs.declared.text.Goal.{Goal}
use Rattle.jsx_tree.specs.Notes.{all_notes, noted_layout, noted, at_code, marks}
use Rattle.jsx_tree.specs.Program.{is_goal, Reads}
use Rattle.jsx_tree.proofs.ReadBack.Joins.{ahead, open_gap, at_end, good, joins}
use Rattle.jsx_tree.proofs.ReadBack.RowChecks.{Even, outs, is_program, link_ok, sound, sounds, sound_each, is_formed}
use Rattle.jsx_tree.proofs.ReadBack.KeptComments.{comments_are}
use Rattle.jsx_tree.proofs.ReadBack.CommentGaps.{Comments, marks_are, marks_noted}
use Rattle.jsx_tree.proofs.ReadBack.WithComments.{scans_noted}
use Rattle.jsx_tree.proofs.ReadBack.Signs.{scans_layout}
use Rattle.jsx_tree.proofs.ReadBack.NextTokens.{even_gap, Outside}
use Rattle.jsx_tree.proofs.ReadBack.NextInRow.{see}
use Rattle.jsx_tree.proofs.ReadBack.Rows.{GoodOf, GoodsOf}
use Rattle.jsx_tree.proofs.ReadBack.Trees.{tree_good_leaf, rowed_of}
use Rattle.jsx_tree.proofs.ReadBack.Nodes.{SoundNode, sound_node, node_good}
use Rattle.jsx_tree.proofs.ReadBack.Fronts.{all_fronts}
use Rattle.jsx_tree.specs.declared.text.Goal.TheVariants as goals

mutual
  all_good : (t : Tree) → GoodOf t
  all_good (leaf s x) = tree_good_leaf s x
  all_good (node k cs) = node_good k cs (all_fronts cs) (all_goods cs)
  all_good (list us) = all_goods us

  all_goods : (ts : Forest) → GoodsOf ts
  all_goods none = tt
  all_goods (part t ts) = (all_good t, all_goods ts)

-- ---- programs

at_end_outside : (k : Kind) → Outside (outs k false) at_end
at_end_outside k = record { calm_out = λ _. refl; comma_out = λ _. refl; part_out = λ _. refl; even_out = refl; end_out = λ _. refl }

program_good : (k : Kind) (cs : Forest) → sound WholeProgram [] (node k cs) ≡ true → good (spelled (node k cs)) at_end ≡ true
program_good k cs h = all_good (node k cs) WholeProgram [] false at_end h (record { needs = refl; no_open = λ e. absurd (false≢true e); els = λ e. absurd (false≢true e); comma = λ _. refl; part = λ _. refl; ends = inr refl })

program_gap : (k : Kind) (cs : Forest) → is_program k ≡ true → sound WholeProgram [] (node k cs) ≡ true → open_gap [] (ahead (spelled (node k cs)) at_end) ≡ true
program_gap (program Module) cs p h =
    let n : SoundNode WholeProgram (program Module) cs = sound_node WholeProgram [] (program Module) cs h in
    even_gap (ahead (walk (production (program Module)) (saids cs)) at_end)
    (see Even (outs (program Module) false) at_end (at_end_outside (program Module)) (production (program Module)) [] cs [] refl (rowed_of (production (program Module)) [] false [] cs n.parts) (all_fronts cs) refl)
program_gap (program Script) cs p h =
    let n : SoundNode WholeProgram (program Script) cs = sound_node WholeProgram [] (program Script) cs h in
    even_gap (ahead (walk (production (program Script)) (saids cs)) at_end)
    (see Even (outs (program Script) false) at_end (at_end_outside (program Script)) (production (program Script)) [] cs [] refl (rowed_of (production (program Script)) [] false [] cs n.parts) (all_fronts cs) refl)
program_gap _ cs p h = absurd (false≢true p)

-- the signs of a program that is sound join
pub sound_joins : (k : Kind) (cs : Forest) → is_program k ≡ true → sound WholeProgram [] (node k cs) ≡ true → joins (spelled (node k cs)) ≡ true
sound_joins k cs p h = and_from (open_gap [] (ahead (spelled (node k cs)) at_end)) (good (spelled (node k cs)) at_end) (program_gap k cs p h) (program_good k cs h)

-- ---- a tree that fits is sound

links_of : (k : Kind) (cs : Forest) → rule k cs ≡ true → link_ok k cs ≡ true
links_of (expression Chain) cs h = h
links_of (statement If) cs h = h
links_of _ cs h = refl

formed_of : (f : Form) (c : Nonterminal) (t : Tree) → shaped f c t ≡ true → is_formed f t ≡ true
formed_of Single c (leaf s x) h = refl
formed_of Single c (node k cs) h = refl
formed_of Single c (list us) h = h
formed_of Maybe c (leaf s x) h = h
formed_of Maybe c (node k cs) h = h
formed_of Maybe c (list us) h = h
formed_of (Several s) c (leaf k x) h = h
formed_of (Several s) c (node k cs) h = h
formed_of (Several s) c (list us) h = h

-- whether the place of a tree takes it, a list being taken by its items
abbrev taken : (c : Nonterminal) (t : Tree) → Bool
taken c (leaf s x) = admits c (leaf s x)
taken c (node k cs) = admits c (node k cs)
taken c (list us) = true

taken_of : (f : Form) (c : Nonterminal) (t : Tree) → shaped f c t ≡ true → taken c t ≡ true
taken_of Single c (leaf s x) h = h
taken_of Single c (node k cs) h = h
taken_of f c (list us) h = refl
taken_of Maybe c (leaf s x) h = absurd (false≢true h)
taken_of Maybe c (node k cs) h = absurd (false≢true h)
taken_of (Several s) c (leaf k x) h = absurd (false≢true h)
taken_of (Several s) c (node k cs) h = absurd (false≢true h)

one_taken : (c : Nonterminal) (t : Tree) → admits c t ≡ true → taken c t ≡ true
one_taken c (leaf s x) h = h
one_taken c (node k cs) h = h
one_taken c (list us) h = refl

one_formed : (c : Nonterminal) (t : Tree) → admits c t ≡ true → is_formed Single t ≡ true
one_formed c (leaf s x) h = refl
one_formed c (node k cs) h = refl
one_formed c (list us) h = h

mutual
  sound_of : (c : Nonterminal) (g : List Text) (v : Surroundings) (t : Tree) → taken c t ≡ true → fits_below c t ≡ true → legal v t ≡ true → held c g t ≡ true → sound c g t ≡ true
  sound_of c g v (leaf s x) a f l h =
      let p = and_parts (may_begin c g (leaf s x)) (is_solid s) h in
      let q = and_parts (not (among (first_token (spelled (leaf s x))) g)) (not (is_dotted_number c (leaf s x))) p.0 in
      and_from (leaf_in c s x && not (among (first_token (spelled (leaf s x))) g)) ((is_leaf s x && is_solid s) && not (is_dotted_number c (leaf s x))) (and_from (leaf_in c s x) (not (among (first_token (spelled (leaf s x))) g)) a q.0)
      (and_from (is_leaf s x && is_solid s) (not (is_dotted_number c (leaf s x))) (and_from (is_leaf s x) (is_solid s) f p.1) q.1)
  sound_of c g v (node k cs) a f l h =
      let p = and_parts (may_begin c g (node k cs)) (is_plain k && helds (positions k) cs) h in
      let q = and_parts (not (among (first_token (spelled (node k cs))) g)) (not (is_dotted_number c (node k cs))) p.0 in
      let r = and_parts (is_plain k) (helds (positions k) cs) p.1 in
      let m = and_parts (rule k cs) (stands k cs v && legals cs v (positions k) cs) l in
      let n = and_parts (stands k cs v) (legals cs v (positions k) cs) m.1 in
      and_from (admits c (node k cs) && not (among (first_token (spelled (node k cs))) g)) ((is_plain k && link_ok k cs) && sounds (positions k) cs) (and_from (admits c (node k cs)) (not (among (first_token (spelled (node k cs))) g)) a q.0)
      (and_from (is_plain k && link_ok k cs) (sounds (positions k) cs) (and_from (is_plain k) (link_ok k cs) r.0 (links_of k cs m.0)) (sounds_of (positions k) cs v cs f n.1 r.1))
  sound_of c g v (list us) a f l h = each_sound c v us f l h

  sounds_of : (ss : List Position) (all : Forest) (v : Surroundings) (cs : Forest) → fit_slots ss cs ≡ true → legals all v ss cs ≡ true → helds ss cs ≡ true → sounds ss cs ≡ true
  sounds_of [] all v none f l h = refl
  sounds_of [] all v (part t ts) f l h = f
  sounds_of (s ∷ ss) all v none f l h = f
  sounds_of (position o c g b a ∷ ss) all v (part t ts) f l h =
      let p = and_parts (shaped o c t) (fits_below c t && fit_slots ss ts) f in
      let q = and_parts (fits_below c t) (fit_slots ss ts) p.1 in
      let m = and_parts (legal (enters all a v) t) (legals all v ss ts) l in
      let r = and_parts (held c g t) (helds ss ts) h in
      and_from (is_formed o t) (sound c g t && sounds ss ts) (formed_of o c t p.0) (and_from (sound c g t) (sounds ss ts) (sound_of c g (enters all a v) t (taken_of o c t p.0) q.0 m.0 r.0) (sounds_of ss all v ts q.1 m.1 r.1))

  each_sound : (c : Nonterminal) (v : Surroundings) (us : Forest) → fit_each c us ≡ true → each_legal v us ≡ true → held_each c us ≡ true → sound_each c us ≡ true
  each_sound c v none f l h = refl
  each_sound c v (part t ts) f l h =
      let p = and_parts (admits c t) (fits_below c t && fit_each c ts) f in
      let q = and_parts (fits_below c t) (fit_each c ts) p.1 in
      let m = and_parts (legal v t) (each_legal v ts) l in
      let r = and_parts (held c [] t) (held_each c ts) h in
      and_from (is_formed Single t) (sound c [] t && sound_each c ts) (one_formed c t p.0) (and_from (sound c [] t) (sound_each c ts) (sound_of c [] v t (one_taken c t p.0) q.0 m.0 r.0) (each_sound c v ts q.1 m.1 r.1))

-- ---- so a program reads back

abbrev pub is_program_tree : Tree → Bool
is_program_tree (leaf s x) = false
is_program_tree (node k cs) = is_program k
is_program_tree (list us) = false

laid_reads : (t : Tree) → is_program_tree t ≡ true → fits_laid t ≡ true → reads (layout t) t ≡ true
laid_reads (leaf s x) p h = absurd (false≢true p)
laid_reads (list us) p h = absurd (false≢true p)
laid_reads (node k cs) p h =
    let t : Tree = node k cs in
    let a = and_parts (is WholeProgram t) (legal outside t && held WholeProgram [] t) h in
    let b = and_parts (admits WholeProgram t) (fits_below WholeProgram t) a.0 in
    let d = and_parts (legal outside t) (held WholeProgram [] t) a.1 in
    let s : sound WholeProgram [] t ≡ true = sound_of WholeProgram [] outside t (one_taken WholeProgram t b.0) b.1 d.0 d.1 in
    and_from (is WholeProgram t) (ended_at (scan (At [] AfterExpr (layout t)) (spelled t))) a.0 (scans_layout t (sound_joins k cs p s))

-- ---- under the goal of the tree

goal_program : (goal : Goal) (t : Tree) → IsTrue (is_goal goal t) → (is_program_tree (laid_tree t) ≡ true) × IsTrue (is_goal goal (laid_tree t))
goal_program goals.Module (node (program Module) cs) g = (refl, refl)
goal_program goals.Script (node (program Script) cs) g = (refl, refl)
goal_program goals.Module _ g = absurd (false≢true g)
goal_program goals.Script _ g = absurd (false≢true g)

-- the text that is printed of a tree that fits reads as its laid tree
pub printed_is : (goal : Goal) (t : Tree) → IsTrue (is_goal goal t) → IsTrue (fits t) → Reads goal (printed t) (laid_tree t)
printed_is goal t g h =
    let u : Tree = laid_tree t in
    let p = goal_program goal t g in
    let a = and_parts (is WholeProgram u) (legal outside u && held WholeProgram [] u) h in
    record { of_goal = p.1; read = laid_reads u p.0 h; is_legal = (and_parts (legal outside u) (held WholeProgram [] u) a.1).0 }

noted_reads : (f : ℕ → List Note) → Comments f → (u : Tree) → is_program_tree u ≡ true → fits_laid u ≡ true → noted f 0 (spelled u) ≡ true → reads (laid f 0 [] [] false (spelled u)) u ≡ true
noted_reads f c (leaf s x) p h w = absurd (false≢true p)
noted_reads f c (list us) p h w = absurd (false≢true p)
noted_reads f c (node k cs) p h w =
    let u : Tree = node k cs in
    let a = and_parts (is WholeProgram u) (legal outside u && held WholeProgram [] u) h in
    let b = and_parts (admits WholeProgram u) (fits_below WholeProgram u) a.0 in
    let d = and_parts (legal outside u) (held WholeProgram [] u) a.1 in
    let s : sound WholeProgram [] u ≡ true = sound_of WholeProgram [] outside u (one_taken WholeProgram u b.0) b.1 d.0 d.1 in
    and_from (is WholeProgram u) (ended_at (scan (At [] AfterExpr (laid f 0 [] [] false (spelled u))) (spelled u))) a.0 (scans_noted f c u (sound_joins k cs p s) w)

noted_gaps : (f : ℕ → List Note) → Comments f → (goal : Goal) (t : Tree) → IsTrue (noted f 0 (spelled (laid_tree t))) → IsTrue (is_goal goal t) → IsTrue (fits t) → Reads goal (noted_layout f t) (laid_tree t)
noted_gaps f c goal t w g h =
    let u : Tree = laid_tree t in
    let p = goal_program goal t g in
    let a = and_parts (is WholeProgram u) (legal outside u && held WholeProgram [] u) h in
    record { of_goal = p.1; read = noted_reads f c u p.0 h w; is_legal = (and_parts (legal outside u) (held WholeProgram [] u) a.1).0 }

-- the same with comments before tokens
pub noted_is : (goal : Goal) (f : ℕ → List Note) (t : Tree) → ((i : ℕ) → IsTrue (all_notes (f i))) → IsTrue (noted f 0 (spelled (laid_tree t))) → IsTrue (is_goal goal t) → IsTrue (fits t) → Reads goal (noted_layout f t) (laid_tree t)
noted_is goal f t n w g h = noted_gaps f (comments_are f n) goal t w g h

-- and with pure marks before tokens of code
pub marked_is : (goal : Goal) (at : ℕ → Bool) (t : Tree) → IsTrue (at_code at 0 (spelled (laid_tree t))) → IsTrue (is_goal goal t) → IsTrue (fits t) → Reads goal (noted_layout (marks at) t) (laid_tree t)
marked_is goal at t w g h = noted_gaps (marks at) (marks_are at) goal t (marks_noted at (spelled (laid_tree t)) 0 w) g h
