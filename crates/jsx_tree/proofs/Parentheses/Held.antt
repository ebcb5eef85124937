-- A laid tree is held: nothing but what is laid stands in it, and each part begins as it may.
use Rattle.std.proofs.Common.{◌≡◌, List, [], ◌∷◌, Bool, true, false, cond, sym, refl, ap, ◌∙◌, subst, inl, inr, ⊎_elim}
use Rattle.std.proofs.lemmas.Bool.{and_parts, and_from, or_cases, both_ways, true≢false, false≢true, not-true}
use Rattle.std.specs.Prelude.{not, ◌&&◌, ◌||◌}
use Rattle.jsx_base.specs.Token.{Text, among}
use Rattle.jsx_tree.specs.Signs.{Tok}
use Rattle.jsx_tree.specs.Kinds.{Kind, statement, function, expression, jsx, Empty, Field, InObject, OpAssign, BareArrow, BareArrowBlock, NewWithoutArguments, Tree, leaf, node, list, Forest, none, part}
use Rattle.jsx_tree.specs.Nonterminals.{Nonterminal, BindingIdent, Param, NewCallee, NullishLeft, DotObject, ForOfHead, in_homes, homes, assigns, expr}
use Rattle.jsx_tree.specs.Grammar.{ListShape, TwoOrMore, Fixed, Part, Optional, Many, Within, Production, production}
use Rattle.jsx_tree.specs.Normal.{is_empty, unless_empty, without_empty, laid_node, mades, each_made, laid_tree}
use Rattle.jsx_tree.specs.Form.{Single, Maybe, Several, Position, position, positions, enough, at_most_one, last_only, admits, fits_below, fit_slots}
use Rattle.jsx_tree.specs.Parentheses.{is_dotted_number}
use Rattle.jsx_tree.specs.Fits.{is_solid, is_plain, may_begin, held, helds, held_each}
use Rattle.jsx_tree.specs.Sound.{is_no_jsx}
use Rattle.jsx_tree.proofs.ReadBack.RowChecks.{is_none}
use Rattle.jsx_tree.proofs.Parentheses.EmptyStatements.{is_free, drops, all_drops}
use Rattle.jsx_tree.proofs.Parentheses.FirstPass.{home, fine, fine_slots, fine_each}
use Rattle.jsx_tree.proofs.Parentheses.Laying.{admits_in, without_none, each_laid, slots_laid, laid_admits}
use Rattle.jsx_tree.proofs.Parentheses.Starts.{row_start, row_or, starts, first_starts, row_led, row_led_more, led, first_led, starts_are, Begun}
use Rattle.jsx_tree.proofs.Parentheses.FirstSigns.{is_open_kind, row_leads, row_const, firm_first, is_dot, guarded_at, guarded, all_leads}
use Rattle.jsx_tree.proofs.Parentheses.Begins.{begins, begun, begun_slots, begun_all, dotted_node, dotted_not}
use Rattle.jsx_tree.proofs.Parentheses.BeginsKept.{all_guarded, begins_kept}

-- ---- what a laid tree begins with

const_start : (ps : Production) (x y : Text) → row_const ps ≡ true → row_start ps x ≡ row_start ps y
const_start [] x y h = refl
const_start (Fixed (Tok m s t) ∷ ps) x y h = refl
const_start (Fixed m ∷ ps) x y h = const_start ps x y h
const_start (Within a ∷ ps) x y h = const_start ps x y h
const_start (Part c ∷ ps) x y h = absurd (false≢true h)
const_start (Optional a c b r ∷ ps) x y h = refl
const_start (Many TwoOrMore c ∷ ps) x y h = absurd (false≢true h)
const_start (Many s c ∷ ps) x y h = refl

const_led : (ps : Production) (x y : Bool) → row_const ps ≡ true → row_led ps x ≡ true → row_led ps y ≡ true
const_led [] x y h l = l
const_led (Fixed (Tok m s t) ∷ ps) x y h l = refl
const_led (Fixed m ∷ ps) x y h l = const_led ps x y h l
const_led (Within a ∷ ps) x y h l = const_led ps x y h l
const_led (Part c ∷ ps) x y h l = absurd (false≢true h)
const_led (Optional a c b r ∷ ps) x y h l = l
const_led (Many TwoOrMore c ∷ ps) x y h l = absurd (false≢true h)
const_led (Many s c ∷ ps) x y h l = l

abbrev As : Text → Text → Bool → Bool → Type 0
As x y a b = Begun x y × (a ≡ true → b ≡ true)

laid_node_as : (k : Kind) (cs ds : Forest) → As (row_start (production k) (first_starts cs)) (row_start (production k) (first_starts ds)) (row_led (production k) (first_led cs)) (row_led (production k) (first_led ds))
    → As (starts (node k cs)) (starts (laid_node k ds)) (led (node k cs)) (led (laid_node k ds))
laid_node_as (expression BareArrow) cs (part a b) r = (inr refl, λ h. refl)
laid_node_as (expression BareArrowBlock) cs (part a b) r = (inr refl, λ h. refl)
laid_node_as (expression NewWithoutArguments) cs (part a none) r = (inl refl, λ h. refl)
laid_node_as k cs ds r = r

row_as : (k : Kind) (cs ds : Forest) → (firm_first (positions k) ≡ true → As (first_starts cs) (first_starts ds) (first_led cs) (first_led ds))
    → As (row_start (production k) (first_starts cs)) (row_start (production k) (first_starts ds)) (row_led (production k) (first_led cs)) (row_led (production k) (first_led ds))
row_as k cs ds f =
    ⊎_elim (λ p. let r = f p in (row_or (production k) (first_starts cs) (first_starts ds) r.0, λ h. row_led_more (production k) (first_led cs) (first_led ds) r.1 h))
    (λ p. (inl (const_start (production k) (first_starts ds) (first_starts cs) p), λ h. const_led (production k) (first_led cs) (first_led ds) p h))
    (or_cases (firm_first (positions k)) (row_const (production k)) (and_parts (firm_first (positions k) || row_const (production k)) (guarded (positions k)) (and_parts (is_open_kind k || row_leads (production k)) _ (all_leads k)).1).0)

not_free : (s : ListShape) (b : Bool) → (is_free s || b) ≡ true → not (is_free s) ≡ true → b ≡ true
not_free s b h n = ⊎_elim (λ p. absurd (both_ways (is_free s) (not-true (is_free s) n) p)) (λ p. p) (or_cases (is_free s) b h)

mutual
  laid_as : (c : Nonterminal) (t : Tree) → fine false c t ≡ true → As (starts t) (starts (laid_tree t)) (led t) (led (laid_tree t))
  laid_as c (leaf s x) h = (inl refl, λ p. p)
  laid_as c (list ts) h = each_as c ts h
  laid_as c (node k cs) h =
      laid_node_as k cs (mades laid_node (positions k) cs)
      (row_as k cs (mades laid_node (positions k) cs) (λ p. slots_as (positions k) cs p (and_parts (drops (positions k)) (not (in_homes BindingIdent (homes k))) (all_drops k)).0 (and_parts (is_no_jsx k) (fine_slots false (positions k) cs) h).1))

  slots_as : (ss : List Position) (cs : Forest) → firm_first ss ≡ true → drops ss ≡ true → fine_slots false ss cs ≡ true → As (first_starts cs) (first_starts (mades laid_node ss cs)) (first_led cs) (first_led (mades laid_node ss cs))
  slots_as [] none d l h = (inl refl, λ p. p)
  slots_as [] (part t ts) d l h = absurd (false≢true h)
  slots_as (s ∷ ss) none d l h = absurd (false≢true h)
  slots_as (position Single c g b a ∷ ss) (part t ts) d l h =
      let x = and_parts (home false c t) (fine false c t && fine_slots false ss ts) h in
      laid_as c t (and_parts (fine false c t) (fine_slots false ss ts) x.1).0
  slots_as (position Maybe c g b a ∷ ss) (part (list us) ts) d l h =
      let x = and_parts (at_most_one us) (fine_each false c us && fine_slots false ss ts) h in
      each_as c us (and_parts (fine_each false c us) (fine_slots false ss ts) x.1).0
  slots_as (position (Several s) c g b a ∷ ss) (part (list us) ts) d l h =
      let x = and_parts (enough s us && last_only us) (fine_each false c us && fine_slots false ss ts) h in
      let y = and_parts (fine_each false c us) (fine_slots false ss ts) x.1 in
      let z = and_parts (is_free s || not (in_homes c (homes (statement Empty)))) (drops ss) l in
      subst (λ w. As (first_starts us) (first_starts w) (first_led us) (first_led w)) (sym (without_none c (each_made laid_node us) (not_free s _ z.0 d) (each_laid c us y.0))) (each_as c us y.0)
  slots_as (position Maybe c g b a ∷ ss) (part (leaf s t) ts) d l h = absurd (false≢true h)
  slots_as (position Maybe c g b a ∷ ss) (part (node k cs) ts) d l h = absurd (false≢true h)
  slots_as (position (Several s) c g b a ∷ ss) (part (leaf s' t) ts) d l h = absurd (false≢true h)
  slots_as (position (Several s) c g b a ∷ ss) (part (node k cs) ts) d l h = absurd (false≢true h)

  each_as : (c : Nonterminal) (ts : Forest) → fine_each false c ts ≡ true → As (first_starts ts) (first_starts (each_made laid_node ts)) (first_led ts) (first_led (each_made laid_node ts))
  each_as c none h = (inl refl, λ p. p)
  each_as c (part t ts) h =
      let x = and_parts (home false c t) (fine false c t && fine_each false c ts) h in
      laid_as c t (and_parts (fine false c t) (fine_each false c ts) x.1).0

-- ---- which kinds are laid

no_homes : (c : Nonterminal) → in_homes c [] ≡ true → ⊥
no_homes NullishLeft h = false≢true h
no_homes NewCallee h = false≢true h
no_homes DotObject h = false≢true h
no_homes ForOfHead h = false≢true h
no_homes _ h = false≢true h

assign_home : (c : Nonterminal) (v : Bool) → in_homes c (cond v (expr 1) []) ≡ true → v ≡ true
assign_home c true h = refl
assign_home c false h = absurd (no_homes c h)

abbrev is_bare : Kind → Bool
is_bare (expression BareArrow) = true
is_bare (expression BareArrowBlock) = true
is_bare (expression NewWithoutArguments) = true
is_bare k = false

plain_of : (c : Nonterminal) (k : Kind) → is_no_jsx k ≡ true → is_bare k ≡ false → in_homes c (homes k) ≡ true → is_plain k ≡ true
plain_of c (jsx k) i b h = absurd (false≢true i)
plain_of c (expression BareArrow) i b h = absurd (true≢false b)
plain_of c (expression BareArrowBlock) i b h = absurd (true≢false b)
plain_of c (expression NewWithoutArguments) i b h = absurd (true≢false b)
plain_of c (function (Field InObject)) i b h = absurd (no_homes c h)
plain_of c (expression (OpAssign o)) i b h = assign_home c (assigns o) h
plain_of c _ i b h = refl

binding_held : (a : Tree) → admits BindingIdent a ≡ true → held BindingIdent [] a ≡ true → held Param [] a ≡ true
binding_held (leaf s x) m h = h
binding_held (node k cs) m h = h
binding_held (list ts) m h = absurd (false≢true m)

node_held : (c : Nonterminal) (g : List Text) (k : Kind) (ds : Forest) → is_no_jsx k ≡ true → may_begin c g (laid_node k ds) ≡ true → admits c (laid_node k ds) ≡ true → fit_slots (positions k) ds ≡ true → helds (positions k) ds ≡ true → held c g (laid_node k ds) ≡ true
node_held c g (expression BareArrow) (part a b) i m n f h =
    let p = and_parts (held BindingIdent [] a) _ h in
    and_from _ _ m (and_from _ _ (and_from (held Param [] a) true (binding_held a (and_parts (admits BindingIdent a) _ f).0 p.0) refl) p.1)
node_held c g (expression BareArrowBlock) (part a b) i m n f h =
    let p = and_parts (held BindingIdent [] a) _ h in
    and_from _ _ m (and_from _ _ (and_from (held Param [] a) true (binding_held a (and_parts (admits BindingIdent a) _ f).0 p.0) refl) p.1)
node_held c g (expression NewWithoutArguments) (part a none) i m n f h = and_from _ _ m h
node_held c g (expression BareArrow) none i m n f h = absurd (false≢true f)
node_held c g (expression BareArrowBlock) none i m n f h = absurd (false≢true f)
node_held c g (expression NewWithoutArguments) none i m n f h = absurd (false≢true f)
node_held c g (expression NewWithoutArguments) (part a (part b bs)) i m n f h = absurd (false≢true (and_parts (fits_below NewCallee a) false (and_parts (admits NewCallee a) _ f).1).1)
node_held c g k ds i m n f h = and_from _ _ m (and_from _ _ (plain_of c k i refl (admits_in c k ds n)) h)

may_of : (c : Nonterminal) (g : List Text) (t : Tree) → begins g t ≡ true → not (is_dotted_number c t) ≡ true → may_begin c g t ≡ true
may_of c [] t b d = d
may_of c (x ∷ g) t b d =
    let q = and_parts (led t) (not (among (starts t) (x ∷ g))) b in
    and_from _ _ (ap (λ y. not (among y (x ∷ g))) (starts_are t q.0) ∙ q.1) d

laid_node_dotted : (c : Nonterminal) (k : Kind) (ds : Forest) → is_dotted_number c (laid_node k ds) ≡ false
laid_node_dotted c (expression BareArrow) (part a b) = dotted_node c _ _
laid_node_dotted c (expression BareArrowBlock) (part a b) = dotted_node c _ _
laid_node_dotted c (expression NewWithoutArguments) (part a none) = dotted_node c _ _
laid_node_dotted c k ds = dotted_node c k ds

dropped_held : (v : Bool) (c : Nonterminal) (t : Tree) (ws : Forest) → held c [] t ≡ true → held_each c ws ≡ true → held_each c (unless_empty v t ws) ≡ true
dropped_held true c t ws a w = w
dropped_held false c t ws a w = and_from _ _ a w

without_held : (c : Nonterminal) (ts : Forest) → held_each c ts ≡ true → held_each c (without_empty ts) ≡ true
without_held c none h = refl
without_held c (part t ts) h = let p = and_parts (held c [] t) (held_each c ts) h in dropped_held (is_empty t) c t (without_empty ts) p.0 (without_held c ts p.1)

mutual
  pub laid_held : (c : Nonterminal) (g : List Text) (t : Tree) → home false c t ≡ true → fine false c t ≡ true → begins g (laid_tree t) ≡ true → not (is_dotted_number c t) ≡ true → begun t ≡ true → held c g (laid_tree t) ≡ true
  laid_held c g (leaf s x) m h b d n = and_from _ _ (may_of c g (leaf s x) b d) (and_parts _ (is_solid s) h).1
  laid_held c g (list ts) m h b d n = absurd (false≢true m)
  laid_held c g (node k cs) m h b d n =
      let q = and_parts (is_no_jsx k) (fine_slots false (positions k) cs) h in
      let ds : Forest = mades laid_node (positions k) cs in
      let l : drops (positions k) ≡ true = (and_parts (drops (positions k)) (not (in_homes BindingIdent (homes k))) (all_drops k)).0 in
      node_held c g k ds q.0 (may_of c g (laid_node k ds) b (ap not (laid_node_dotted c k ds))) (laid_admits c (node k cs) m) (slots_laid (positions k) cs l q.1) (slots_held (positions k) cs (all_guarded k) q.1 n)

  slots_held : (ss : List Position) (cs : Forest) → guarded ss ≡ true → fine_slots false ss cs ≡ true → begun_slots ss cs ≡ true → helds ss (mades laid_node ss cs) ≡ true
  slots_held [] none d h n = refl
  slots_held [] (part t ts) d h n = absurd (false≢true h)
  slots_held (s ∷ ss) none d h n = refl
  slots_held (position Single c g b a ∷ ss) (part t ts) d h n =
      let x = and_parts (home false c t) (fine false c t && fine_slots false ss ts) h in
      let y = and_parts (fine false c t) (fine_slots false ss ts) x.1 in
      let e = and_parts (guarded_at c g) (guarded ss) d in
      let w = and_parts (begins g t && not (is_dotted_number c t)) (begun t && begun_slots ss ts) n in
      let v = and_parts (begins g t) (not (is_dotted_number c t)) w.0 in
      let z = and_parts (begun t) (begun_slots ss ts) w.1 in
      let r = laid_as c t y.0 in
      and_from _ _ (laid_held c g t x.0 y.0 (begins_kept c g t (laid_tree t) e.0 r.1 r.0 v.0) v.1 z.0) (slots_held ss ts e.1 y.1 z.1)
  slots_held (position Maybe c g b a ∷ ss) (part (list us) ts) d h n =
      let x = and_parts (at_most_one us) (fine_each false c us && fine_slots false ss ts) h in
      let y = and_parts (fine_each false c us) (fine_slots false ss ts) x.1 in
      let e = and_parts (is_none g && not (is_dot c)) (guarded ss) d in
      let w = and_parts (begins g (list us) && not (is_dotted_number c (list us))) (begun_all us && begun_slots ss ts) n in
      let z = and_parts (begun_all us) (begun_slots ss ts) w.1 in
      and_from _ _ (each_held c us (and_parts (is_none g) (not (is_dot c)) e.0).1 y.0 z.0) (slots_held ss ts e.1 y.1 z.1)
  slots_held (position (Several s) c g b a ∷ ss) (part (list us) ts) d h n =
      let x = and_parts (enough s us && last_only us) (fine_each false c us && fine_slots false ss ts) h in
      let y = and_parts (fine_each false c us) (fine_slots false ss ts) x.1 in
      let e = and_parts (is_none g && not (is_dot c)) (guarded ss) d in
      let w = and_parts (begins g (list us) && not (is_dotted_number c (list us))) (begun_all us && begun_slots ss ts) n in
      let z = and_parts (begun_all us) (begun_slots ss ts) w.1 in
      and_from _ _ (without_held c (each_made laid_node us) (each_held c us (and_parts (is_none g) (not (is_dot c)) e.0).1 y.0 z.0)) (slots_held ss ts e.1 y.1 z.1)
  slots_held (position Maybe c g b a ∷ ss) (part (leaf s t) ts) d h n = absurd (false≢true h)
  slots_held (position Maybe c g b a ∷ ss) (part (node k cs) ts) d h n = absurd (false≢true h)
  slots_held (position (Several s) c g b a ∷ ss) (part (leaf s' t) ts) d h n = absurd (false≢true h)
  slots_held (position (Several s) c g b a ∷ ss) (part (node k cs) ts) d h n = absurd (false≢true h)

  each_held : (c : Nonterminal) (ts : Forest) → not (is_dot c) ≡ true → fine_each false c ts ≡ true → begun_all ts ≡ true → held_each c (each_made laid_node ts) ≡ true
  each_held c none d h n = refl
  each_held c (part t ts) d h n =
      let x = and_parts (home false c t) (fine false c t && fine_each false c ts) h in
      let y = and_parts (fine false c t) (fine_each false c ts) x.1 in
      let z = and_parts (begun t) (begun_all ts) n in
      and_from _ _ (laid_held c [] t x.0 y.0 refl (ap not (dotted_not c t (not-true (is_dot c) d))) z.0) (each_held c ts d y.1 z.1)
