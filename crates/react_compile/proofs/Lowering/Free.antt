-- No JSX is left where none may stand.
use Rattle.std.proofs.Common.{◌≡◌, List, [], ◌∷◌, true, false, refl}
use Rattle.std.proofs.lemmas.Bool.{and_parts, or_from, false≢true}
use Rattle.std.specs.Prelude.{◌&&◌}
use Rattle.jsx_base.specs.Token.{Text, TokenKind, JsxName, JsxString, JsxText}
use Rattle.jsx_tree.specs.Kinds.{Kind, jsx, Tree, leaf, node, list, Forest, none, part}
use Rattle.jsx_tree.specs.Nonterminals.{Nonterminal, WholeProgram}
use Rattle.jsx_tree.specs.Normal.{laid_tree}
use Rattle.jsx_tree.specs.Form.{Position, position, positions, shaped, admits, is_leaf, fits_below, fit_slots, fit_each, is}
use Rattle.jsx_tree.specs.StaticRules.{outside, legal}
use Rattle.jsx_tree.specs.Fits.{is_solid, is_plain, may_begin, held, helds, held_each, fits}
use Rattle.jsx_tree.specs.Sound.{may_stand, may_shape, is_no_jsx, loose, loose_slots, loose_each, formed, lawful, is_sound}
use Rattle.react_compile.specs.StandsFor.{is_jsx, is_jsx_leaf, has_jsx, have_jsx}

solid_leaf : (s : TokenKind) → is_solid s ≡ true → is_jsx_leaf s ≡ false
solid_leaf JsxName h = absurd (false≢true h)
solid_leaf JsxString h = absurd (false≢true h)
solid_leaf JsxText h = absurd (false≢true h)
solid_leaf _ h = refl

code_kind : (k : Kind) → is_no_jsx k ≡ true → is_jsx k ≡ false
code_kind (jsx j) h = absurd (false≢true h)
code_kind _ h = refl

mutual
  loose_free : (c : Nonterminal) (t : Tree) → loose c t ≡ true → has_jsx t ≡ false
  loose_free c (leaf s x) h = solid_leaf s (and_parts (is_leaf s x) (is_solid s) h).1
  loose_free c (list ts) h = each_free c ts h
  loose_free c (node k cs) h = let p = and_parts (is_no_jsx k) (loose_slots (positions k) cs) h in or_from _ _ (code_kind k p.0) (slots_free (positions k) cs p.1)

  slots_free : (ss : List Position) (cs : Forest) → loose_slots ss cs ≡ true → have_jsx cs ≡ false
  slots_free ss none h = refl
  slots_free [] (part t ts) h = absurd (false≢true h)
  slots_free (position f c g b a ∷ ss) (part t ts) h =
      let p = and_parts (loose c t) (loose_slots ss ts) (and_parts (may_shape f c t) (loose c t && loose_slots ss ts) h).1 in
      or_from _ _ (loose_free c t p.0) (slots_free ss ts p.1)

  each_free : (c : Nonterminal) (ts : Forest) → loose_each c ts ≡ true → have_jsx ts ≡ false
  each_free c none h = refl
  each_free c (part t ts) h =
      let p = and_parts (loose c t) (loose_each c ts) (and_parts (may_stand c t) (loose c t && loose_each c ts) h).1 in
      or_from _ _ (loose_free c t p.0) (each_free c ts p.1)

-- no JSX is in a sound tree
pub sound_free : (t : Tree) → is_sound t ≡ true → has_jsx t ≡ false
sound_free t h = loose_free WholeProgram t (and_parts (may_stand WholeProgram t) (loose WholeProgram t) (and_parts (formed t) (lawful outside (laid_tree t)) h).0).1

-- ---- nor in a tree that is laid and fits

plain_kind : (k : Kind) → is_plain k ≡ true → is_jsx k ≡ false
plain_kind (jsx j) h = absurd (false≢true h)
plain_kind _ h = refl

mutual
  held_free : (c : Nonterminal) (g : List Text) (t : Tree) → fits_below c t ≡ true → held c g t ≡ true → has_jsx t ≡ false
  held_free c g (leaf s x) f h = solid_leaf s (and_parts (may_begin c g (leaf s x)) (is_solid s) h).1
  held_free c g (list ts) f h = held_each_free c ts f h
  held_free c g (node k cs) f h =
      let p = and_parts (is_plain k) (helds (positions k) cs) (and_parts (may_begin c g (node k cs)) (is_plain k && helds (positions k) cs) h).1 in
      or_from _ _ (plain_kind k p.0) (held_slots_free (positions k) cs f p.1)

  held_slots_free : (ss : List Position) (cs : Forest) → fit_slots ss cs ≡ true → helds ss cs ≡ true → have_jsx cs ≡ false
  held_slots_free ss none f h = refl
  held_slots_free [] (part t ts) f h = absurd (false≢true f)
  held_slots_free (position d c g b a ∷ ss) (part t ts) f h =
      let p = and_parts (fits_below c t) (fit_slots ss ts) (and_parts (shaped d c t) (fits_below c t && fit_slots ss ts) f).1 in
      let q = and_parts (held c g t) (helds ss ts) h in
      or_from _ _ (held_free c g t p.0 q.0) (held_slots_free ss ts p.1 q.1)

  held_each_free : (c : Nonterminal) (ts : Forest) → fit_each c ts ≡ true → held_each c ts ≡ true → have_jsx ts ≡ false
  held_each_free c none f h = refl
  held_each_free c (part t ts) f h =
      let p = and_parts (fits_below c t) (fit_each c ts) (and_parts (admits c t) (fits_below c t && fit_each c ts) f).1 in
      let q = and_parts (held c [] t) (held_each c ts) h in
      or_from _ _ (held_free c [] t p.0 q.0) (held_each_free c ts p.1 q.1)

pub fits_free : (t : Tree) → fits t ≡ true → has_jsx (laid_tree t) ≡ false
fits_free t h =
    let p = and_parts (is WholeProgram (laid_tree t)) (legal outside (laid_tree t) && held WholeProgram [] (laid_tree t)) h in
    held_free WholeProgram [] (laid_tree t) (and_parts (admits WholeProgram (laid_tree t)) (fits_below WholeProgram (laid_tree t)) p.0).1 (and_parts (legal outside (laid_tree t)) _ p.1).1
