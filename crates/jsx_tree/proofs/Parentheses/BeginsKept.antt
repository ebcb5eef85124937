-- The later passes keep what stands at each place from beginning as it may not.
use Rattle.std.proofs.Common.{◌≡◌, List, [], ◌∷◌, Bool, true, false, cond, sym, refl, ap, ◌∙◌, subst, ⊎_elim}
use Rattle.std.proofs.lemmas.Bool.{and_parts, and_from, or_cases, or_left, or_right}
use Rattle.std.specs.Prelude.{codes, not, ◌&&◌, ◌||◌}
use Rattle.jsx_base.specs.Token.{Text, StringLiteral, IdentifierName, same, among}
use Rattle.jsx_tree.specs.Kinds.{Kind, program, statement, function, Module, Script, FunctionBody, ExprStmt, ForOf, ParenTarget, Tree, leaf, node, list, Forest, none, part}
use Rattle.jsx_tree.specs.Nonterminals.{Nonterminal}
use Rattle.jsx_tree.specs.Grammar.{ListShape, Context, production}
use Rattle.jsx_tree.specs.Normal.{is_empty, remade, remades}
use Rattle.jsx_tree.specs.Form.{Form, Single, Maybe, Several, Position, position, positions}
use Rattle.jsx_tree.specs.Parentheses.{parens_of, is_dotted_number, no_directive, first_no_directive, behind_directives, special, is_in, is_init, shield, shields, shield_each}
use Rattle.jsx_tree.proofs.ReadBack.RowChecks.{is_none}
use Rattle.jsx_tree.proofs.Parentheses.SecondPass.{mend, mend_is}
use Rattle.jsx_tree.proofs.Parentheses.Starts.{starts, led, first_led, row_led, row_led_more, Begun, special_starts, shield_starts}
use Rattle.jsx_tree.proofs.Parentheses.FirstSigns.{is_open_kind, row_leads, is_dot, guarded_at, guarded, all_leads}
use Rattle.jsx_tree.proofs.Parentheses.Begins.{begins, begun, begun_slots, begun_all, dotted_node, dotted_list, begins_paren}

pub all_guarded : (k : Kind) → guarded (positions k) ≡ true
all_guarded k = (and_parts _ (guarded (positions k)) (and_parts (is_open_kind k || row_leads (production k)) _ (all_leads k)).1).1

-- ---- special

mend_led : (k : Kind) (cs : Forest) → row_led (production k) (first_led (mend k cs)) ≡ row_led (production k) (first_led cs)
mend_led (program Module) cs = refl
mend_led (program Script) cs = refl
mend_led (program FunctionBody) cs = refl
mend_led (statement ForOf) cs = refl
mend_led k cs = refl

mutual
  special_led : (t : Tree) → led (remade special t) ≡ led t
  special_led (leaf s x) = refl
  special_led (list ts) = specials_led ts
  special_led (node k cs) = ap led (sym (mend_is k (remades special cs))) ∙ (mend_led k (remades special cs) ∙ ap (row_led (production k)) (specials_led cs))

  specials_led : (ts : Forest) → first_led (remades special ts) ≡ first_led ts
  specials_led none = refl
  specials_led (part t ts) = special_led t

special_begins : (g : List Text) (t : Tree) → begins g (remade special t) ≡ begins g t
special_begins g t = ap (λ b. is_none g || (b && not (among (starts (remade special t)) g))) (special_led t) ∙ ap (λ x. is_none g || (led t && not (among x g))) (special_starts t)

special_dotted : (c : Nonterminal) (t : Tree) → is_dotted_number c (remade special t) ≡ is_dotted_number c t
special_dotted c (leaf s x) = refl
special_dotted c (list ts) = dotted_list c _ ∙ sym (dotted_list c ts)
special_dotted c (node k cs) = ap (is_dotted_number c) (sym (mend_is k (remades special cs))) ∙ (dotted_node c k _ ∙ sym (dotted_node c k cs))

no_directive_begun : (t : Tree) → begun t ≡ true → begun (no_directive t) ≡ true
no_directive_begun (node (statement ExprStmt) (part (leaf StringLiteral x) none)) h = refl
no_directive_begun t h = h

first_at : (t : Tree) (ts : Forest) (v : Bool) → (begun_all ts ≡ true → begun_all (first_no_directive ts) ≡ true) → begun_all (part t ts) ≡ true → begun_all (cond v (part t (first_no_directive ts)) (part (no_directive t) ts)) ≡ true
first_at t ts true f h = let p = and_parts (begun t) (begun_all ts) h in and_from _ _ p.0 (f p.1)
first_at t ts false f h = let p = and_parts (begun t) (begun_all ts) h in and_from _ _ (no_directive_begun t p.0) p.1

first_begun : (ts : Forest) → begun_all ts ≡ true → begun_all (first_no_directive ts) ≡ true
first_begun none h = refl
first_begun (part t ts) h = first_at t ts (is_empty t) (first_begun ts) h

behind_begun : (o : Form) (d : Nonterminal) (g' : List Text) (b' : Bool) (a' : List Context) (s : ListShape) (c : Nonterminal) (b : Bool) (a : List Context) (cs : Forest)
    → begun_slots (position o d g' b' a' ∷ position (Several s) c [] b a ∷ []) cs ≡ true → begun_slots (position o d g' b' a' ∷ position (Several s) c [] b a ∷ []) (behind_directives cs) ≡ true
behind_begun o d g' b' a' s c b a (part x (part (list ts) none)) h =
    let p = and_parts (begins g' x && not (is_dotted_number d x)) _ h in
    let q = and_parts (begun x) _ p.1 in
    let r = and_parts (true && not (is_dotted_number c (list ts))) (begun_all ts && true) q.1 in
    let w = and_parts (begun_all ts) true r.1 in
    and_from _ _ p.0 (and_from _ _ q.0 (and_from _ _ (ap not (dotted_list c _)) (and_from _ true (first_begun ts w.0) refl)))
behind_begun o d g' b' a' s c b a cs h = h

held_at : (x : Text) (us : Forest) (v : Bool) → begun_slots (positions (statement ForOf)) (part (leaf IdentifierName x) us) ≡ true → begun_slots (positions (statement ForOf)) (part (cond v (node (function ParenTarget) (part (leaf IdentifierName x) none)) (leaf IdentifierName x)) us) ≡ true
held_at x us true h = h
held_at x us false h = h

mend_begun : (k : Kind) (cs : Forest) → begun_slots (positions k) cs ≡ true → begun_slots (positions k) (mend k cs) ≡ true
mend_begun (program Module) cs h = behind_begun _ _ _ _ _ _ _ _ _ cs h
mend_begun (program Script) cs h = behind_begun _ _ _ _ _ _ _ _ _ cs h
mend_begun (program FunctionBody) cs h = behind_begun _ _ _ _ _ _ _ _ _ cs h
mend_begun (statement ForOf) (part (leaf IdentifierName x) us) h = held_at x us (same x (codes "async")) h
mend_begun (statement ForOf) cs h = h
mend_begun k cs h = h

mutual
  pub special_begun : (t : Tree) → begun t ≡ true → begun (remade special t) ≡ true
  special_begun (leaf s x) h = h
  special_begun (list ts) h = each_special ts h
  special_begun (node k cs) h = subst (λ u. begun u ≡ true) (mend_is k (remades special cs)) (mend_begun k (remades special cs) (slots_special (positions k) cs h))

  slots_special : (ss : List Position) (cs : Forest) → begun_slots ss cs ≡ true → begun_slots ss (remades special cs) ≡ true
  slots_special [] none h = refl
  slots_special [] (part t ts) h = refl
  slots_special (s ∷ ss) none h = refl
  slots_special (position f c g b a ∷ ss) (part t ts) h =
      let x = and_parts (begins g t && not (is_dotted_number c t)) (begun t && begun_slots ss ts) h in
      let w = and_parts (begins g t) (not (is_dotted_number c t)) x.0 in
      let y = and_parts (begun t) (begun_slots ss ts) x.1 in
      and_from _ _ (and_from _ _ (special_begins g t ∙ w.0) (ap not (special_dotted c t) ∙ w.1)) (and_from _ _ (special_begun t y.0) (slots_special ss ts y.1))

  each_special : (ts : Forest) → begun_all ts ≡ true → begun_all (remades special ts) ≡ true
  each_special none h = refl
  each_special (part t ts) h = let y = and_parts (begun t) (begun_all ts) h in and_from _ _ (special_begun t y.0) (each_special ts y.1)

-- ---- shield

wrap_led : (k : Kind) (cs ds : Forest) (v : Bool) → (first_led cs ≡ true → first_led ds ≡ true) → led (node k cs) ≡ true → led (cond v (parens_of (node k ds)) (node k ds)) ≡ true
wrap_led k cs ds true f h = refl
wrap_led k cs ds false f h = row_led_more (production k) (first_led cs) (first_led ds) f h

mutual
  shield_led : (shut : Bool) (t : Tree) → led t ≡ true → led (shield shut t) ≡ true
  shield_led shut (leaf s x) h = h
  shield_led shut (list ts) h = each_led shut ts h
  shield_led shut (node k cs) h =
      let ds : Forest = shields (shut && not (is_in (node k cs))) (positions k) cs in
      wrap_led k cs ds (shut && is_in (node k ds)) (λ p. shields_led (shut && not (is_in (node k cs))) (positions k) cs p) h

  shields_led : (shut : Bool) (ss : List Position) (ts : Forest) → first_led ts ≡ true → first_led (shields shut ss ts) ≡ true
  shields_led shut [] none h = h
  shields_led shut (s ∷ ss) none h = h
  shields_led shut [] (part t ts) h = h
  shields_led shut (position f c g b a ∷ ss) (part t ts) h = shield_led (is_init c || (shut && not b)) t h

  each_led : (shut : Bool) (ts : Forest) → first_led ts ≡ true → first_led (shield_each shut ts) ≡ true
  each_led shut none h = h
  each_led shut (part t ts) h = shield_led shut t h

-- what begins as before, or with a `(`, begins as it may
pub begins_kept : (c : Nonterminal) (g : List Text) (t u : Tree) → guarded_at c g ≡ true → (led t ≡ true → led u ≡ true) → Begun (starts t) (starts u) → begins g t ≡ true → begins g u ≡ true
begins_kept c g t u d f r h =
    ⊎_elim (λ p. or_left (is_none g) _ p)
    (λ p. let q = and_parts (led t) (not (among (starts t) g)) p in
    ⊎_elim (λ e. or_right (is_none g) _ (and_from (led u) _ (f q.0) (ap (λ x. not (among x g)) e ∙ q.1))) (λ e. begins_paren c g u d (f q.0) e) r)
    (or_cases (is_none g) (led t && not (among (starts t) g)) h)

wrap_dotted : (c : Nonterminal) (k : Kind) (ds : Forest) (v : Bool) → not (is_dotted_number c (cond v (parens_of (node k ds)) (node k ds))) ≡ true
wrap_dotted c k ds true = ap not (dotted_node c _ _)
wrap_dotted c k ds false = ap not (dotted_node c k ds)

shield_dotted : (shut : Bool) (c : Nonterminal) (t : Tree) → not (is_dotted_number c t) ≡ true → not (is_dotted_number c (shield shut t)) ≡ true
shield_dotted shut c (leaf s x) h = h
shield_dotted shut c (list ts) h = ap not (dotted_list c _)
shield_dotted shut c (node k cs) h = wrap_dotted c k _ _

wrap_begun : (k : Kind) (ds : Forest) (v : Bool) → begun (node k ds) ≡ true → begun (cond v (parens_of (node k ds)) (node k ds)) ≡ true
wrap_begun k ds true h = and_from (begun (node k ds)) true h refl
wrap_begun k ds false h = h

pub guarded_place : (f : Form) (c : Nonterminal) (g : List Text) (b : Bool) (a : List Context) (ss : List Position) → guarded (position f c g b a ∷ ss) ≡ true → (guarded_at c g ≡ true) × (guarded ss ≡ true)
guarded_place Single c g b a ss h = and_parts (guarded_at c g) (guarded ss) h
guarded_place Maybe c g b a ss h = let e = and_parts (is_none g && not (is_dot c)) (guarded ss) h in (or_left (is_none g) _ (and_parts (is_none g) (not (is_dot c)) e.0).0, e.1)
guarded_place (Several s) c g b a ss h = let e = and_parts (is_none g && not (is_dot c)) (guarded ss) h in (or_left (is_none g) _ (and_parts (is_none g) (not (is_dot c)) e.0).0, e.1)

mutual
  pub shield_begun : (shut : Bool) (t : Tree) → begun t ≡ true → begun (shield shut t) ≡ true
  shield_begun shut (leaf s x) h = h
  shield_begun shut (list ts) h = each_shield shut ts h
  shield_begun shut (node k cs) h = wrap_begun k _ _ (slots_shield (shut && not (is_in (node k cs))) (positions k) cs (all_guarded k) h)

  slots_shield : (shut : Bool) (ss : List Position) (cs : Forest) → guarded ss ≡ true → begun_slots ss cs ≡ true → begun_slots ss (shields shut ss cs) ≡ true
  slots_shield shut [] none d h = refl
  slots_shield shut [] (part t ts) d h = refl
  slots_shield shut (s ∷ ss) none d h = refl
  slots_shield shut (position f c g b a ∷ ss) (part t ts) d h =
      let x = and_parts (begins g t && not (is_dotted_number c t)) (begun t && begun_slots ss ts) h in
      let w = and_parts (begins g t) (not (is_dotted_number c t)) x.0 in
      let y = and_parts (begun t) (begun_slots ss ts) x.1 in
      let e = guarded_place f c g b a ss d in
      let v : Bool = is_init c || (shut && not b) in
      and_from _ _ (and_from _ _ (begins_kept c g t (shield v t) e.0 (λ p. shield_led v t p) (shield_starts v t) w.0) (shield_dotted v c t w.1)) (and_from _ _ (shield_begun v t y.0) (slots_shield shut ss ts e.1 y.1))

  each_shield : (shut : Bool) (ts : Forest) → begun_all ts ≡ true → begun_all (shield_each shut ts) ≡ true
  each_shield shut none h = refl
  each_shield shut (part t ts) h = let y = and_parts (begun t) (begun_all ts) h in and_from _ _ (shield_begun shut t y.0) (each_shield shut ts y.1)
