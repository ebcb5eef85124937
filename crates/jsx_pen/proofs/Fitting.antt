-- The text that a pen writes of a program that fits is the one that is printed of it.
use Rattle.std.proofs.Common.{◌≡◌, ◌∙◌, ℕ, List, [], ◌∷◌, Bool, true, false, not, ◌&&◌, refl, ap}
use Rattle.std.proofs.lemmas.Bool.{false≢true, and_parts, and_from}
use Rattle.std.specs.Prelude.{IsTrue}
use Rattle.jsx_base.specs.Token.{Text, among}
use Rattle.jsx_tree.specs.Kinds.{Kind, program, statement, expression, Module, Script, If, Chain, Tree, leaf, node, list, Forest, none, part}
use Rattle.jsx_tree.specs.Nonterminals.{Nonterminal, WholeProgram, leaf_in}
use Rattle.jsx_tree.specs.Layout.{first_token}
use Rattle.jsx_tree.specs.Notes.{marks, noted_layout}
use Rattle.jsx_tree.specs.Normal.{laid_node, laid_tree, mades}
use Rattle.jsx_tree.specs.Spelling.{spelled}
use Rattle.jsx_tree.specs.Form.{Form, Single, Maybe, Several, Position, position, positions, shaped, admits, is_leaf, fits_below, fit_slots, fit_each, is}
use Rattle.jsx_tree.specs.Parentheses.{is_dotted_number}
use Rattle.jsx_tree.specs.StaticRules.{Surroundings, outside, rule, stands, legal, legals, each_legal, enters}
use Rattle.jsx_tree.specs.Fits.{is_plain, is_solid, may_begin, held, helds, held_each, fits_laid, fits}
use Rattle.jsx_tree.proofs.ReadBack.RowChecks.{link_ok, sound, sounds, sound_each, is_formed}
use Rattle.jsx_tree.specs.Layout.{laid}
use Rattle.jsx_tree.specs.Spans.{Told}
use Rattle.jsx_pen.specs.Calls.{noted, bare, begun}
use Rattle.jsx_pen.specs.Pen.{begin, puts, signs, whole}
use Rattle.jsx_pen.proofs.Phases.{Free, run, is_fine, bare_run}
use Rattle.jsx_pen.proofs.Laid.{puts_lay}
use Rattle.jsx_pen.proofs.Noting.{sound_tidy, bare_signs_of}
use Rattle.jsx_pen.proofs.Rows.{module_runs, script_runs}

-- ---- a tree that fits is sound

links_of : (k : Kind) (cs : Forest) → rule k cs ≡ true → link_ok k cs ≡ true
links_of (expression Chain) cs h = h
links_of (statement If) cs h = h
links_of _ cs h = refl

formed_of : (f : Form) (c : Nonterminal) (t : Tree) → shaped f c t ≡ true → is_formed f t ≡ true
formed_of Single c (leaf s x) h = refl
formed_of Single c (node k cs) h = refl
formed_of Single c (list us) h = h
formed_of Maybe c (leaf s x) h = h
formed_of Maybe c (node k cs) h = h
formed_of Maybe c (list us) h = h
formed_of (Several s) c (leaf k x) h = h
formed_of (Several s) c (node k cs) h = h
formed_of (Several s) c (list us) h = h

-- whether the place of a tree takes it, a list being taken by its items
abbrev taken : (c : Nonterminal) (t : Tree) → Bool
taken c (leaf s x) = admits c (leaf s x)
taken c (node k cs) = admits c (node k cs)
taken c (list us) = true

taken_of : (f : Form) (c : Nonterminal) (t : Tree) → shaped f c t ≡ true → taken c t ≡ true
taken_of Single c (leaf s x) h = h
taken_of Single c (node k cs) h = h
taken_of f c (list us) h = refl
taken_of Maybe c (leaf s x) h = absurd (false≢true h)
taken_of Maybe c (node k cs) h = absurd (false≢true h)
taken_of (Several s) c (leaf k x) h = absurd (false≢true h)
taken_of (Several s) c (node k cs) h = absurd (false≢true h)

one_taken : (c : Nonterminal) (t : Tree) → admits c t ≡ true → taken c t ≡ true
one_taken c (leaf s x) h = h
one_taken c (node k cs) h = h
one_taken c (list us) h = refl

one_formed : (c : Nonterminal) (t : Tree) → admits c t ≡ true → is_formed Single t ≡ true
one_formed c (leaf s x) h = refl
one_formed c (node k cs) h = refl
one_formed c (list us) h = h

mutual
  sound_of : (c : Nonterminal) (g : List Text) (v : Surroundings) (t : Tree) → taken c t ≡ true → fits_below c t ≡ true → legal v t ≡ true → held c g t ≡ true → sound c g t ≡ true
  sound_of c g v (leaf s x) a f l h =
      let p = and_parts (may_begin c g (leaf s x)) (is_solid s) h in
      let q = and_parts (not (among (first_token (spelled (leaf s x))) g)) (not (is_dotted_number c (leaf s x))) p.0 in
      and_from (leaf_in c s x && not (among (first_token (spelled (leaf s x))) g)) ((is_leaf s x && is_solid s) && not (is_dotted_number c (leaf s x))) (and_from (leaf_in c s x) (not (among (first_token (spelled (leaf s x))) g)) a q.0)
      (and_from (is_leaf s x && is_solid s) (not (is_dotted_number c (leaf s x))) (and_from (is_leaf s x) (is_solid s) f p.1) q.1)
  sound_of c g v (node k cs) a f l h =
      let p = and_parts (may_begin c g (node k cs)) (is_plain k && helds (positions k) cs) h in
      let q = and_parts (not (among (first_token (spelled (node k cs))) g)) (not (is_dotted_number c (node k cs))) p.0 in
      let r = and_parts (is_plain k) (helds (positions k) cs) p.1 in
      let m = and_parts (rule k cs) (stands k cs v && legals cs v (positions k) cs) l in
      let n = and_parts (stands k cs v) (legals cs v (positions k) cs) m.1 in
      and_from (admits c (node k cs) && not (among (first_token (spelled (node k cs))) g)) ((is_plain k && link_ok k cs) && sounds (positions k) cs) (and_from (admits c (node k cs)) (not (among (first_token (spelled (node k cs))) g)) a q.0)
      (and_from (is_plain k && link_ok k cs) (sounds (positions k) cs) (and_from (is_plain k) (link_ok k cs) r.0 (links_of k cs m.0)) (sounds_of (positions k) cs v cs f n.1 r.1))
  sound_of c g v (list us) a f l h = each_sound c v us f l h

  sounds_of : (ss : List Position) (all : Forest) (v : Surroundings) (cs : Forest) → fit_slots ss cs ≡ true → legals all v ss cs ≡ true → helds ss cs ≡ true → sounds ss cs ≡ true
  sounds_of [] all v none f l h = refl
  sounds_of [] all v (part t ts) f l h = f
  sounds_of (s ∷ ss) all v none f l h = f
  sounds_of (position o c g b a ∷ ss) all v (part t ts) f l h =
      let p = and_parts (shaped o c t) (fits_below c t && fit_slots ss ts) f in
      let q = and_parts (fits_below c t) (fit_slots ss ts) p.1 in
      let m = and_parts (legal (enters all a v) t) (legals all v ss ts) l in
      let r = and_parts (held c g t) (helds ss ts) h in
      and_from (is_formed o t) (sound c g t && sounds ss ts) (formed_of o c t p.0) (and_from (sound c g t) (sounds ss ts) (sound_of c g (enters all a v) t (taken_of o c t p.0) q.0 m.0 r.0) (sounds_of ss all v ts q.1 m.1 r.1))

  each_sound : (c : Nonterminal) (v : Surroundings) (us : Forest) → fit_each c us ≡ true → each_legal v us ≡ true → held_each c us ≡ true → sound_each c us ≡ true
  each_sound c v none f l h = refl
  each_sound c v (part t ts) f l h =
      let p = and_parts (admits c t) (fits_below c t && fit_each c ts) f in
      let q = and_parts (fits_below c t) (fit_each c ts) p.1 in
      let m = and_parts (legal v t) (each_legal v ts) l in
      let r = and_parts (held c [] t) (held_each c ts) h in
      and_from (is_formed Single t) (sound c [] t && sound_each c ts) (one_formed c t p.0) (and_from (sound c [] t) (sound_each c ts) (sound_of c [] v t (one_taken c t p.0) q.0 m.0 r.0) (each_sound c v ts q.1 m.1 r.1))

-- ---- programs

abbrev pub is_top : Tree → Bool
is_top (node (program Module) cs) = true
is_top (node (program Script) cs) = true
is_top t = false

top_sound : (t : Tree) → fits_laid t ≡ true → sound WholeProgram [] t ≡ true
top_sound t h =
    let a = and_parts (is WholeProgram t) (legal outside t && held WholeProgram [] t) h in
    let b = and_parts (admits WholeProgram t) (fits_below WholeProgram t) a.0 in
    let d = and_parts (legal outside t) (held WholeProgram [] t) a.1 in
    sound_of WholeProgram [] outside t (one_taken WholeProgram t b.0) b.1 d.0 d.1

top_runs : (t : Tree) → is_top t ≡ true → IsTrue (fits t) → is_fine (run Free (spelled (laid_tree t))) ≡ true
top_runs (node (program Module) cs) p h = ap is_fine (module_runs (mades laid_node (positions (program Module)) cs) (top_sound (laid_tree (node (program Module) cs)) h))
top_runs (node (program Script) cs) p h = ap is_fine (script_runs (mades laid_node (positions (program Script)) cs) (top_sound (laid_tree (node (program Script) cs)) h))
top_runs _ p h = absurd (false≢true p)

-- the signs of a program that fits, with the places of its calls and without
pub signs_bare : (t : Tree) (d : Told) → IsTrue (fits t) → bare (signs (noted t d)) ≡ spelled (laid_tree t)
signs_bare t d h = bare_signs_of t d (sound_tidy WholeProgram [] (laid_tree t) (top_sound (laid_tree t) h))

-- what a pen writes of a program that fits is its layout, with a mark before each call whose place has one
pub pen_lays : (mk : ℕ → Bool) (t : Tree) (d : Told) → is_top t ≡ true → IsTrue (fits t) → whole mk (puts begin (signs (noted t d))) ≡ noted_layout (marks (begun mk 0 false (signs (noted t d)))) t
pen_lays mk t d p h =
    let e : bare (signs (noted t d)) ≡ spelled (laid_tree t) = signs_bare t d h in
    puts_lay mk (signs (noted t d)) (ap is_fine (bare_run Free (signs (noted t d)) ∙ ap (run Free) e) ∙ top_runs t p h) ∙ ap (laid (marks (begun mk 0 false (signs (noted t d)))) 0 [] [] false) e
