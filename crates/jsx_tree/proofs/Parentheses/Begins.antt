-- No part begins with a token that may not come first there.
use Rattle.std.proofs.Common.{◌≡◌, ℕ, List, [], ◌∷◌, Bool, true, false, cond, sym, refl, ap, ◌∙◌, subst, ⊎_elim}
use Rattle.std.proofs.lemmas.Bool.{and_parts, and_from, or_cases, or_left, or_right, both_ways, true≢false, false≢true, not-true}
use Rattle.std.specs.Prelude.{⊤, codes, not, ◌&&◌, ◌||◌}
use Rattle.jsx_base.specs.Token.{Text, TokenKind, Elision, NumericLiteral, IdentifierName, JsxName, among}
use Rattle.jsx_tree.specs.Signs.{Tok, Unless}
use Rattle.jsx_tree.specs.Kinds.{Kind, program, statement, Module, Script, FunctionBody, Catch, Tree, leaf, node, list, Forest, none, part}
use Rattle.jsx_tree.specs.Nonterminals.{Nonterminal, Expr, DotObject, in_homes, homes, leaf_in, literal_homes}
use Rattle.jsx_tree.specs.Grammar.{TwoOrMore, Context, Fixed, Part, Optional, Many, Within, Production, production}
use Rattle.jsx_tree.specs.Normal.{laid_node}
use Rattle.jsx_tree.specs.Form.{Single, Maybe, Several, Position, position, positions, slots, enough, last_only, at_most_one, admits}
use Rattle.jsx_tree.specs.Spelling.{spelled}
use Rattle.jsx_tree.specs.Layout.{first_token}
use Rattle.jsx_tree.specs.Parentheses.{asks, is_expression, parens_of, is_dotted_number, as_laid, wants, dress, dresses, dress_each}
use Rattle.jsx_tree.specs.Sound.{lax, at_home, may_stand, is_no_jsx, loose, loose_slots, loose_each}
use Rattle.jsx_tree.proofs.ReadBack.RowChecks.{is_none}
use Rattle.jsx_tree.proofs.Parentheses.Levels.{low, lows, all_lows}
use Rattle.jsx_tree.proofs.Parentheses.FirstPass.{home, fine, fine_slots, fine_each, home_where, slots_fine, in_expr}
use Rattle.jsx_tree.proofs.Parentheses.Laying.{admits_in}
use Rattle.jsx_tree.proofs.Parentheses.Starts.{is_hole, starts, led, first_led, row_led, starts_are}
use Rattle.jsx_tree.proofs.Parentheses.FirstSigns.{is_open_kind, safe, row_leads, is_level, is_dot, guarded_at, guarded, all_leads}

-- ---- a tree at a place of what begins with a token begins with one

abbrev LedOf : Tree → Type 0
LedOf t = (c : Nonterminal) → safe (lax c) ≡ true → home true c t ≡ true → fine true c t ≡ true → led t ≡ true

abbrev LedsOf : Forest → Type 0
LedsOf none = ⊤
LedsOf (part t ts) = LedOf t

abbrev LedIn : Tree → Type 0
LedIn (list ts) = LedsOf ts
LedIn t = ⊤

led_leaf : (c : Nonterminal) (s : TokenKind) (x : Text) → not (in_homes c (literal_homes Elision)) ≡ true → leaf_in c s x ≡ true → not (is_hole s) ≡ true
led_leaf c Elision x n h = absurd (both_ways (in_homes c (literal_homes Elision)) (not-true (in_homes c (literal_homes Elision)) n) h)
led_leaf c _ x n h = refl

no_open : (c : Nonterminal) (k : Kind) (cs : Forest) → safe c ≡ true → admits c (laid_node k cs) ≡ true → is_open_kind k ≡ true → ⊥
no_open c (program Module) cs s h o =
    let p = and_parts (not (in_homes c (literal_homes Elision))) _ s in let q = and_parts (not (in_homes c (homes (program Module))) && not (in_homes c (homes (program Script)))) _ p.1 in let r = and_parts (not (in_homes c (homes (program Module)))) _ q.0 in
    both_ways (in_homes c (homes (program Module))) (not-true (in_homes c (homes (program Module))) r.0) (admits_in c (program Module) cs h)
no_open c (program Script) cs s h o =
    let p = and_parts (not (in_homes c (literal_homes Elision))) _ s in let q = and_parts (not (in_homes c (homes (program Module))) && not (in_homes c (homes (program Script)))) _ p.1 in let r = and_parts (not (in_homes c (homes (program Module)))) _ q.0 in
    both_ways (in_homes c (homes (program Script))) (not-true (in_homes c (homes (program Script))) r.1) (admits_in c (program Script) cs h)
no_open c (program FunctionBody) cs s h o =
    let p = and_parts (not (in_homes c (literal_homes Elision))) _ s in let q = and_parts (not (in_homes c (homes (program Module))) && not (in_homes c (homes (program Script)))) _ p.1 in let r = and_parts (not (in_homes c (homes (program FunctionBody)))) _ q.1 in
    both_ways (in_homes c (homes (program FunctionBody))) (not-true (in_homes c (homes (program FunctionBody))) r.0) (admits_in c (program FunctionBody) cs h)
no_open c (statement Catch) cs s h o =
    let p = and_parts (not (in_homes c (literal_homes Elision))) _ s in let q = and_parts (not (in_homes c (homes (program Module))) && not (in_homes c (homes (program Script)))) _ p.1 in let r = and_parts (not (in_homes c (homes (program FunctionBody)))) _ q.1 in
    both_ways (in_homes c (homes (statement Catch))) (not-true (in_homes c (homes (statement Catch))) r.1) (admits_in c (statement Catch) cs h)
no_open c k cs s h o = false≢true o

led_two : (c : Nonterminal) (t : Tree) → LedIn t → safe (lax c) ≡ true → (us : Forest) → t ≡ list us → enough TwoOrMore us ≡ true → fine_each true c us ≡ true → first_led us ≡ true
led_two c t i s none e n h = absurd (false≢true n)
led_two c t i s (part u us) e n h =
    let x = and_parts (home true c u) (fine true c u && fine_each true c us) h in
    let y = and_parts (fine true c u) (fine_each true c us) x.1 in
    (subst LedIn e i) c s x.0 y.0

led_row : (g : List Text) (b : Bool) (a : List Context) (ps : Production) (t : Tree) (ts : Forest) → LedOf t → LedIn t → row_leads ps ≡ true → fine_slots true (slots g b a ps) (part t ts) ≡ true → row_led ps (led t) ≡ true
led_row g b a [] t ts f i l h = absurd (false≢true l)
led_row g b a (Fixed (Tok m s x) ∷ ps) t ts f i l h = refl
led_row g b a (Fixed (Unless us) ∷ ps) t ts f i l h = led_row us b a ps t ts f i l h
led_row g b a (Fixed m ∷ ps) t ts f i l h = led_row g b a ps t ts f i l h
led_row g b a (Within x ∷ ps) t ts f i l h = led_row g b (x ∷ a) ps t ts f i l h
led_row g b a (Part c ∷ ps) t ts f i l h =
    let x = and_parts (home true c t) _ h in
    let y = and_parts (fine true c t) _ x.1 in
    f c l x.0 y.0
led_row g b a (Optional x c y r ∷ ps) t ts f i l h = absurd (false≢true l)
led_row g b a (Many TwoOrMore c ∷ ps) (list us) ts f i l h =
    let x = and_parts (enough TwoOrMore us && last_only us) _ h in
    let w = and_parts (enough TwoOrMore us) (last_only us) x.0 in
    let y = and_parts (fine_each true c us) _ x.1 in
    led_two c (list us) i l us refl w.0 y.0
led_row g b a (Many TwoOrMore c ∷ ps) (leaf s x) ts f i l h = absurd (false≢true h)
led_row g b a (Many TwoOrMore c ∷ ps) (node k cs) ts f i l h = absurd (false≢true h)
led_row g b a (Many s c ∷ ps) t ts f i l h = absurd (false≢true l)

led_none : (g : List Text) (b : Bool) (a : List Context) (ps : Production) → row_leads ps ≡ true → fine_slots true (slots g b a ps) none ≡ true → row_led ps false ≡ true
led_none g b a [] l h = absurd (false≢true l)
led_none g b a (Fixed (Tok m s x) ∷ ps) l h = refl
led_none g b a (Fixed (Unless us) ∷ ps) l h = led_none us b a ps l h
led_none g b a (Fixed m ∷ ps) l h = led_none g b a ps l h
led_none g b a (Within x ∷ ps) l h = led_none g b (x ∷ a) ps l h
led_none g b a (Part c ∷ ps) l h = absurd (false≢true h)
led_none g b a (Optional x c y r ∷ ps) l h = absurd (false≢true l)
led_none g b a (Many TwoOrMore c ∷ ps) l h = absurd (false≢true h)
led_none g b a (Many s c ∷ ps) l h = absurd (false≢true l)

leads_of : (c : Nonterminal) (k : Kind) (cs : Forest) → safe (lax c) ≡ true → home true c (node k cs) ≡ true → row_leads (production k) ≡ true
leads_of c k cs s h =
    ⊎_elim (λ o. absurd (no_open (lax c) k cs s h o)) (λ l. l)
    (or_cases (is_open_kind k) (row_leads (production k)) (and_parts (is_open_kind k || row_leads (production k)) _ (all_leads k)).0)

mutual
  led_of : (t : Tree) → LedOf t
  led_of (leaf s x) c f m h = led_leaf (lax c) s x (and_parts (not (in_homes (lax c) (literal_homes Elision))) _ f).0 m
  led_of (list ts) c f m h = absurd (false≢true m)
  led_of (node k none) c f m h = led_none [] false [] (production k) (leads_of c k none f m) (and_parts (is_no_jsx k) (fine_slots true (positions k) none) h).1
  led_of (node k (part t ts)) c f m h = led_row [] false [] (production k) t ts (led_of t) (led_in t) (leads_of c k (part t ts) f m) (and_parts (is_no_jsx k) (fine_slots true (positions k) (part t ts)) h).1

  led_in : (t : Tree) → LedIn t
  led_in (leaf s x) = tt
  led_in (node k cs) = tt
  led_in (list ts) = leds_of ts

  leds_of : (ts : Forest) → LedsOf ts
  leds_of none = tt
  leds_of (part t ts) = led_of t

-- ---- what stands at each place begins as it may

abbrev pub begins : List Text → Tree → Bool
begins g t = is_none g || (led t && not (among (starts t) g))

abbrev mutual
  pub begun : Tree → Bool
  begun (leaf s x) = true
  begun (node k cs) = begun_slots (positions k) cs
  begun (list ts) = begun_all ts

  pub begun_slots : List Position → Forest → Bool
  begun_slots [] ts = true
  begun_slots (s ∷ ss) none = true
  begun_slots (position f c g b a ∷ ss) (part t ts) = (begins g t && not (is_dotted_number c t)) && (begun t && begun_slots ss ts)

  pub begun_all : Forest → Bool
  begun_all none = true
  begun_all (part t ts) = begun t && begun_all ts

pub dotted_node : (c : Nonterminal) (k : Kind) (cs : Forest) → is_dotted_number c (node k cs) ≡ false
dotted_node DotObject k cs = refl
dotted_node _ k cs = refl

pub dotted_list : (c : Nonterminal) (ts : Forest) → is_dotted_number c (list ts) ≡ false
dotted_list DotObject ts = refl
dotted_list _ ts = refl

pub dotted_not : (c : Nonterminal) (t : Tree) → is_dot c ≡ false → is_dotted_number c t ≡ false
dotted_not DotObject t h = absurd (true≢false h)
dotted_not _ t h = refl

dotted_wants : (c : Nonterminal) (g : List Text) (t : Tree) → is_dotted_number c t ≡ true → wants c g t ≡ true
dotted_wants DotObject g (leaf NumericLiteral x) h = or_right (among x g) true refl
dotted_wants DotObject g (leaf _ x) h = absurd (false≢true h)
dotted_wants DotObject g (node k cs) h = absurd (false≢true h)
dotted_wants DotObject g (list ts) h = absurd (false≢true h)
dotted_wants _ g t h = absurd (false≢true h)

not_dotted : (c : Nonterminal) (g : List Text) (t : Tree) (v : Bool) → is_dotted_number c t ≡ v → wants c g t ≡ false → not (is_dotted_number c t) ≡ true
not_dotted c g t true e w = absurd (both_ways (wants c g t) w (dotted_wants c g t e))
not_dotted c g t false e w = ap not e

level_asks : (c : Nonterminal) → is_level c ≡ true → asks c ≡ true
level_asks (Expr n) h = refl
level_asks _ h = absurd (false≢true h)

-- at a level's place only expressions may stand
level_leaf : (n : ℕ) (s : TokenKind) (x : Text) → leaf_in (Expr n) s x ≡ true → leaf_in (Expr 0) s x ≡ true
level_leaf n IdentifierName x h = (and_parts _ _ h).1
level_leaf n JsxName x h = absurd (false≢true h)
level_leaf n s x h = in_expr n (literal_homes s) h

level_expression : (c : Nonterminal) (t : Tree) → is_level c ≡ true → may_stand c t ≡ true → is_expression t ≡ true
level_expression (Expr n) t l m = ⊎_elim (λ p. p) (λ p. at t p) (or_cases (is_expression t) (at_home (Expr n) t) m)
  where
    at : (u : Tree) → at_home (Expr n) u ≡ true → is_expression u ≡ true
    at (leaf s x) p = level_leaf n s x p
    at (node k cs) p = in_expr n (homes k) p
    at (list ts) p = p
level_expression _ t l m = absurd (false≢true l)

guard_where : (c : Nonterminal) (g : List Text) (t : Tree) (v : Bool) → among (first_token (spelled t)) g ≡ v → asks c ≡ true → is_expression t ≡ true → wants c g t ≡ false → not (among (first_token (spelled t)) g) ≡ true
guard_where c g t true e a i w = absurd (both_ways (wants c g t) w (and_from _ _ a (and_from _ _ i (or_right (not (admits c (as_laid t))) _ (or_left (among (first_token (spelled t)) g) _ e)))))
guard_where c g t false e a i w = ap not e

begins_where : (c : Nonterminal) (g : List Text) (t : Tree) → guarded_at c g ≡ true → wants c g t ≡ false → may_stand c t ≡ true → fine true c t ≡ true → begins g t ≡ true
begins_where c g t d w m h =
    ⊎_elim (λ p. or_left (is_none g) _ p)
    (λ p.
    let q = and_parts (is_level c) (safe (lax c) && not (among (codes "(") g)) p in
    let r = and_parts (safe (lax c)) (not (among (codes "(") g)) q.1 in
    let l : led t ≡ true = led_of t c r.0 (home_where c g t w m) h in
    or_right (is_none g) _ (and_from (led t) _ l (ap (λ x. not (among x g)) (sym (starts_are t l)) ∙ guard_where c g t (among (first_token (spelled t)) g) refl (level_asks c q.0) (level_expression c t q.0 m) w)))
    (or_cases (is_none g) _ d)

pub begins_paren : (c : Nonterminal) (g : List Text) (t : Tree) → guarded_at c g ≡ true → led t ≡ true → starts t ≡ codes "(" → begins g t ≡ true
begins_paren c g t d l e =
    ⊎_elim (λ p. or_left (is_none g) _ p)
    (λ p.
    let q = and_parts (is_level c) (safe (lax c) && not (among (codes "(") g)) p in
    let r = and_parts (safe (lax c)) (not (among (codes "(") g)) q.1 in
    or_right (is_none g) _ (and_from (led t) _ l (ap (λ x. not (among x g)) e ∙ r.1)))
    (or_cases (is_none g) _ d)

wrap_begun : (c : Nonterminal) (g : List Text) (t : Tree) (v : Bool) → wants c g t ≡ v → guarded_at c g ≡ true → may_stand c t ≡ true → fine true c t ≡ true → begun t ≡ true
    → ((begins g (cond v (parens_of t) t) && not (is_dotted_number c (cond v (parens_of t) t))) ≡ true) × (begun (cond v (parens_of t) t) ≡ true)
wrap_begun c g t true w d m h b = (and_from _ _ (begins_paren c g (parens_of t) d refl refl) (ap not (dotted_node c _ _)), and_from (begun t) true b refl)
wrap_begun c g t false w d m h b = (and_from _ _ (begins_where c g t d w m h) (not_dotted c g t (is_dotted_number c t) refl w), b)

mutual
  pub dress_begun : (c : Nonterminal) (g : List Text) (t : Tree) → low c ≡ true → guarded_at c g ≡ true → may_stand c t ≡ true → loose c t ≡ true → ((begins g (dress c g t) && not (is_dotted_number c (dress c g t))) ≡ true) × (begun (dress c g t) ≡ true)
  dress_begun c g (leaf s x) l d m h = wrap_begun c g (leaf s x) (wants c g (leaf s x)) refl d m h refl
  dress_begun c g (list ts) l d m h = ⊎_elim (λ p. absurd (false≢true (and_parts (asks c) false p).1)) (λ p. absurd (false≢true p)) (or_cases (asks c && false) false m)
  dress_begun c g (node k cs) l d m h =
      let q = and_parts (is_no_jsx k) (loose_slots (positions k) cs) h in
      let u : Tree = node k (dresses (positions k) cs) in
      let r = and_parts (is_open_kind k || row_leads (production k)) _ (all_leads k) in
      wrap_begun c g u (wants c g u) refl d m (and_from (is_no_jsx k) _ q.0 (slots_fine (positions k) cs (all_lows k) q.1)) (slots_begun (positions k) cs (all_lows k) (and_parts _ (guarded (positions k)) r.1).1 q.1)

  slots_begun : (ss : List Position) (cs : Forest) → lows ss ≡ true → guarded ss ≡ true → loose_slots ss cs ≡ true → begun_slots ss (dresses ss cs) ≡ true
  slots_begun [] none l d h = refl
  slots_begun [] (part t ts) l d h = refl
  slots_begun (s ∷ ss) none l d h = refl
  slots_begun (position Single c g b a ∷ ss) (part t ts) l d h =
      let x = and_parts (may_stand c t) (loose c t && loose_slots ss ts) h in
      let y = and_parts (loose c t) (loose_slots ss ts) x.1 in
      let z = and_parts (low c) (lows ss) l in
      let e = and_parts (guarded_at c g) (guarded ss) d in
      let r = dress_begun c g t z.0 e.0 x.0 y.0 in
      and_from _ _ r.0 (and_from _ _ r.1 (slots_begun ss ts z.1 e.1 y.1))
  slots_begun (position Maybe c g b a ∷ ss) (part (list us) ts) l d h =
      let x = and_parts (at_most_one us) (loose_each c us && loose_slots ss ts) h in
      let y = and_parts (loose_each c us) (loose_slots ss ts) x.1 in
      let z = and_parts (low c) (lows ss) l in
      let e = and_parts (is_none g && not (is_dot c)) (guarded ss) d in
      let n = and_parts (is_none g) (not (is_dot c)) e.0 in
      and_from _ _ (and_from _ _ (or_left (is_none g) _ n.0) (ap not (dotted_list c _))) (and_from _ _ (each_begun c us z.0 y.0) (slots_begun ss ts z.1 e.1 y.1))
  slots_begun (position (Several s) c g b a ∷ ss) (part (list us) ts) l d h =
      let x = and_parts (enough s us && last_only us) (loose_each c us && loose_slots ss ts) h in
      let y = and_parts (loose_each c us) (loose_slots ss ts) x.1 in
      let z = and_parts (low c) (lows ss) l in
      let e = and_parts (is_none g && not (is_dot c)) (guarded ss) d in
      let n = and_parts (is_none g) (not (is_dot c)) e.0 in
      and_from _ _ (and_from _ _ (or_left (is_none g) _ n.0) (ap not (dotted_list c _))) (and_from _ _ (each_begun c us z.0 y.0) (slots_begun ss ts z.1 e.1 y.1))
  slots_begun (position Maybe c g b a ∷ ss) (part (leaf s t) ts) l d h = absurd (false≢true h)
  slots_begun (position Maybe c g b a ∷ ss) (part (node k cs) ts) l d h = absurd (false≢true h)
  slots_begun (position (Several s) c g b a ∷ ss) (part (leaf s' t) ts) l d h = absurd (false≢true h)
  slots_begun (position (Several s) c g b a ∷ ss) (part (node k cs) ts) l d h = absurd (false≢true h)

  each_begun : (c : Nonterminal) (ts : Forest) → low c ≡ true → loose_each c ts ≡ true → begun_all (dress_each c ts) ≡ true
  each_begun c none l h = refl
  each_begun c (part t ts) l h =
      let x = and_parts (may_stand c t) (loose c t && loose_each c ts) h in
      let y = and_parts (loose c t) (loose_each c ts) x.1 in
      and_from _ _ (dress_begun c [] t l refl x.0 y.0).1 (each_begun c ts l y.1)
