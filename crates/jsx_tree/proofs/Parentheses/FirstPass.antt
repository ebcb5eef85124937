-- What parentheses give fits its places: the first of the passes, `dress`.
use Rattle.std.proofs.Common.{◌≡◌, ◌⊎◌, ℕ, List, [], ◌∷◌, Bool, true, false, cond, sym, refl, ap, ◌∙◌, inl, inr, ⊎_elim}
use Rattle.std.proofs.Math.Dec.{leb-zero}
use Rattle.std.proofs.lemmas.Bool.{and_parts, and_from, or_cases, or_left, or_right, both_ways, true≢false, false≢true, not_from_false}
use Rattle.std.specs.Prelude.{not, ◌&&◌, ◌||◌, nat_le, nat_eq}
use Rattle.jsx_base.specs.Token.{Text, among, IdentifierName, JsxName}
use Rattle.jsx_tree.specs.Kinds.{Kind, function, expression, BareArrow, BareArrowBlock, NewWithoutArguments, Arrow, ArrowBlock, New, RestPat, RestProperty, Binds, Assigns, Tree, leaf, node, list, Forest, none, part}
use Rattle.jsx_tree.specs.Nonterminals.{Nonterminal, Expr, MemberObject, Argument, ArrayItem, ForInit, NullishLeft, NewCallee, DotObject, ForOfHead, in_homes, in_list, takes, number, floor, homes, literal_homes, expr, object}
use Rattle.jsx_tree.specs.Grammar.{ListShape, TwoOrMore}
use Rattle.jsx_tree.specs.Normal.{laid_node}
use Rattle.jsx_tree.specs.Form.{Form, Single, Maybe, Several, Position, position, positions, enough, at_most_one, last_kind, is_last, last_only, admits, admits_node, is_leaf}
use Rattle.jsx_tree.specs.Spelling.{spelled}
use Rattle.jsx_tree.specs.Layout.{first_token}
use Rattle.jsx_tree.specs.Parentheses.{asks, is_expression, parens_of, is_dotted_number, as_laid, wants, dress, dresses, dress_each}
use Rattle.jsx_tree.specs.Fits.{is_solid}
use Rattle.jsx_tree.specs.Sound.{lax, at_home, may_stand, is_no_jsx, loose, loose_slots, loose_each}
use Rattle.jsx_tree.proofs.Parentheses.Levels.{low, lows, all_lows}

-- the places as they are asked before the last pairs and behind them
abbrev pub soft : Bool → Nonterminal → Nonterminal
soft true c = lax c
soft false c = c

abbrev pub home : Bool → Nonterminal → Tree → Bool
home e c t = admits (soft e c) (as_laid t)

abbrev pub home_shape : Bool → Form → Nonterminal → Tree → Bool
home_shape e Single c t = home e c t
home_shape e Maybe c (list ts) = at_most_one ts
home_shape e (Several s) c (list ts) = enough s ts && last_only ts
home_shape e f c t = false

abbrev mutual
  -- each part is at home, as it is laid
  pub fine : Bool → Nonterminal → Tree → Bool
  fine e c (leaf s x) = is_leaf s x && is_solid s
  fine e c (node k cs) = is_no_jsx k && fine_slots e (positions k) cs
  fine e c (list ts) = fine_each e c ts

  pub fine_slots : Bool → List Position → Forest → Bool
  fine_slots e [] none = true
  fine_slots e [] (part t ts) = false
  fine_slots e (s ∷ ss) none = false
  fine_slots e (position f c g b a ∷ ss) (part t ts) = home_shape e f c t && (fine e c t && fine_slots e ss ts)

  pub fine_each : Bool → Nonterminal → Forest → Bool
  fine_each e c none = true
  fine_each e c (part t ts) = home e c t && (fine e c t && fine_each e c ts)

abbrev is_new : Nonterminal → Bool
is_new NewCallee = true
is_new c = false

admits_of : (c : Nonterminal) (t : Tree) (k : Kind) → is_new c ≡ false → admits_node c t k ≡ in_homes c (homes k)
admits_of NewCallee t k h = absurd (true≢false h)
admits_of _ t k h = refl

pub in_expr : (n : ℕ) (ds : List Nonterminal) → in_list (Expr n) ds ≡ true → in_list (Expr 0) ds ≡ true
in_expr n [] h = h
in_expr n (d ∷ ds) h =
    ⊎_elim (λ p. or_left (takes (Expr 0) d) _ (and_from (nat_eq 0 (number d)) (nat_le 0 (floor d)) (and_parts (nat_eq 0 (number d)) (nat_le n (floor d)) p).0 (leb-zero (floor d))))
    (λ p. or_right (takes (Expr 0) d) _ (in_expr n ds p)) (or_cases (takes (Expr n) d) (in_list (Expr n) ds) h)

one_in : (c : Nonterminal) (ds : List Nonterminal) → in_list c (Expr 17 ∷ ds) ≡ true → in_list c (Expr 17 ∷ MemberObject ∷ ds) ≡ true
one_in c ds h = ⊎_elim (λ p. or_left (takes c (Expr 17)) _ p) (λ p. or_right (takes c (Expr 17)) _ (or_right (takes c MemberObject) _ p)) (or_cases (takes c (Expr 17)) _ h)

object_in : (c : Nonterminal) → in_homes c (expr 17) ≡ true → in_homes c object ≡ true
object_in NullishLeft h = refl
object_in MemberObject h = refl
object_in NewCallee h = refl
object_in DotObject h = refl
object_in ForOfHead h = absurd (false≢true h)
object_in c h = one_in c (Argument ∷ ArrayItem ∷ ForInit ∷ []) h

laid_home : (c : Nonterminal) (k : Kind) (cs : Forest) → is_new c ≡ false → in_homes c (homes k) ≡ true → admits c (laid_node k cs) ≡ true
laid_home c (expression BareArrow) (part a b) n h = admits_of c _ (expression Arrow) n ∙ h
laid_home c (expression BareArrow) none n h = admits_of c _ (expression BareArrow) n ∙ h
laid_home c (expression BareArrowBlock) (part a b) n h = admits_of c _ (expression ArrowBlock) n ∙ h
laid_home c (expression BareArrowBlock) none n h = admits_of c _ (expression BareArrowBlock) n ∙ h
laid_home c (expression NewWithoutArguments) (part a none) n h = admits_of c _ (expression New) n ∙ object_in c h
laid_home c (expression NewWithoutArguments) (part a (part b bs)) n h = admits_of c _ (expression NewWithoutArguments) n ∙ h
laid_home c (expression NewWithoutArguments) none n h = admits_of c _ (expression NewWithoutArguments) n ∙ h
laid_home c k cs n h = admits_of c (node k cs) k n ∙ h

-- parentheses fit each place of an expression: by the classes
parens_in : (c : Nonterminal) (t : Tree) → asks c ≡ true → low c ≡ true → admits (lax c) (parens_of t) ≡ true
parens_in (Expr n) t a l = or_left (nat_le n 18) false l
parens_in MemberObject t a l = refl
parens_in NullishLeft t a l = refl
parens_in NewCallee t a l = refl
parens_in DotObject t a l = refl
parens_in Argument t a l = refl
parens_in ArrayItem t a l = refl
parens_in ForInit t a l = refl
parens_in _ t a l = absurd (false≢true a)

lax_asks : (c : Nonterminal) → asks c ≡ true → lax c ≡ c
lax_asks ForOfHead h = absurd (false≢true h)
lax_asks _ h = refl

-- what is at home at a place fits it, as it is laid; at `new`'s place it is an expression at least
home_of : (c : Nonterminal) (t : Tree) → is_new c ≡ false → at_home c t ≡ true → admits c (as_laid t) ≡ true
home_of c (leaf s x) n h = h
home_of c (node k cs) n h = laid_home c k cs n h
home_of c (list ts) n h = absurd (false≢true h)

lax_new : (c : Nonterminal) → is_new (lax c) ≡ is_new c
lax_new ForOfHead = refl
lax_new _ = refl

new_asks : (c : Nonterminal) → is_new c ≡ true → asks c ≡ true
new_asks NewCallee h = refl
new_asks _ h = absurd (false≢true h)

low_home : (t : Tree) → is_expression t ≡ true → admits (Expr 0) (as_laid t) ≡ true
low_home (leaf s x) h = h
low_home (node k cs) h = laid_home (Expr 0) k cs refl h
low_home (list ts) h = absurd (false≢true h)

at_lowest : (e : Bool) (c : Nonterminal) (t : Tree) → is_expression t ≡ true → fine e c t ≡ true → fine e (Expr 0) t ≡ true
at_lowest e c (leaf s x) i h = h
at_lowest e c (node k cs) i h = h
at_lowest e c (list ts) i h = absurd (false≢true i)

soft_low : (e : Bool) (t : Tree) → is_expression t ≡ true → home e (Expr 0) t ≡ true
soft_low true t h = low_home t h
soft_low false t h = low_home t h

pub parens_fine : (e : Bool) (c : Nonterminal) (t : Tree) → is_expression t ≡ true → fine e c t ≡ true → fine e c (parens_of t) ≡ true
parens_fine e c t i h = and_from (home e (Expr 0) t) _ (soft_low e t i) (and_from (fine e (Expr 0) t) true (at_lowest e c t i h) refl)

wants_where : (c : Nonterminal) (g : List Text) (t : Tree) → asks c ≡ true → is_expression t ≡ true → admits c (as_laid t) ≡ false → wants c g t ≡ true
wants_where c g t a i h = and_from _ _ a (and_from _ _ i (or_left _ _ (not_from_false _ h)))

new_leaf : (c : Nonterminal) (t : Tree) → is_new c ≡ true → at_home (lax c) t ≡ true → is_expression t ≡ true
new_leaf NewCallee (leaf IdentifierName x) n h = h
new_leaf NewCallee (leaf JsxName x) n h = absurd (false≢true h)
new_leaf NewCallee (leaf s x) n h = in_expr 17 (literal_homes s) h
new_leaf NewCallee (node k cs) n h = in_expr 17 (homes k) h
new_leaf NewCallee (list ts) n h = h
new_leaf _ t n h = absurd (false≢true n)

new_or_not : (c : Nonterminal) (b : Bool) → is_new c ≡ b → (is_new c ≡ true) ⊎ (is_new c ≡ false)
new_or_not c true h = inl h
new_or_not c false h = inr h

-- where no pair is wanted, what may stand is at home
home_asked : (c : Nonterminal) (g : List Text) (t : Tree) (u : Bool) → admits c (as_laid t) ≡ u → wants c g t ≡ false → asks c ≡ true → is_expression t ≡ true → home true c t ≡ true
home_asked c g t true h w a i = ap (λ d. admits d (as_laid t)) (lax_asks c a) ∙ h
home_asked c g t false h w a i = absurd (both_ways (wants c g t) w (wants_where c g t a i h))

pub home_where : (c : Nonterminal) (g : List Text) (t : Tree) → wants c g t ≡ false → may_stand c t ≡ true → home true c t ≡ true
home_where c g t w m =
    ⊎_elim (λ p. home_asked c g t (admits c (as_laid t)) refl w (and_parts _ _ p).0 (and_parts _ _ p).1)
    (λ p. ⊎_elim (λ n. home_asked c g t (admits c (as_laid t)) refl w (new_asks c n) (new_leaf c t n p)) (λ n. home_of (lax c) t (lax_new c ∙ n) p) (new_or_not c (is_new c) refl))
    (or_cases (asks c && is_expression t) (at_home (lax c) t) m)

wrap_fine : (c : Nonterminal) (g : List Text) (t : Tree) (v : Bool) → wants c g t ≡ v → low c ≡ true → may_stand c t ≡ true → fine true c t ≡ true → (home true c (cond v (parens_of t) t) ≡ true) × (fine true c (cond v (parens_of t) t) ≡ true)
wrap_fine c g t true w l m h =
    let p = and_parts (asks c) (is_expression t && (not (admits c (as_laid t)) || (among (first_token (spelled t)) g || is_dotted_number c t))) w in
    let q = and_parts (is_expression t) (not (admits c (as_laid t)) || (among (first_token (spelled t)) g || is_dotted_number c t)) p.1 in
    (parens_in c t p.0 l, parens_fine true c t q.0 h)
wrap_fine c g t false w l m h = (home_where c g t w m, h)

-- no expression is one that only stands last
no_last : (k : Kind) → in_homes (Expr 0) (homes k) ≡ true → last_kind k ≡ false
no_last (function (RestPat Binds)) h = absurd (false≢true h)
no_last (function (RestPat Assigns)) h = absurd (false≢true h)
no_last (function (RestProperty Binds)) h = absurd (false≢true h)
no_last (function (RestProperty Assigns)) h = absurd (false≢true h)
no_last _ h = refl

no_last_tree : (t : Tree) → is_expression t ≡ true → is_last t ≡ false
no_last_tree (leaf s t) h = refl
no_last_tree (node k cs) h = no_last k h
no_last_tree (list ts) h = refl

last_wrap : (v : Bool) (t : Tree) → (v ≡ true → is_expression t ≡ true) → is_last (cond v (parens_of t) t) ≡ is_last t
last_wrap true t h = sym (no_last_tree t (h refl))
last_wrap false t h = refl

wanted : (c : Nonterminal) (g : List Text) (t : Tree) → wants c g t ≡ true → is_expression t ≡ true
wanted c g t w = (and_parts _ _ (and_parts _ _ w).1).0

dress_last : (c : Nonterminal) (g : List Text) (t : Tree) → is_last (dress c g t) ≡ is_last t
dress_last c g (leaf s t) = last_wrap (wants c g (leaf s t)) (leaf s t) (wanted c g (leaf s t))
dress_last c g (node k cs) = last_wrap (wants c g (node k (dresses (positions k) cs))) (node k (dresses (positions k) cs)) (wanted c g (node k (dresses (positions k) cs)))
dress_last c g (list ts) = refl

each_one : (c : Nonterminal) (ts : Forest) → at_most_one (dress_each c ts) ≡ at_most_one ts
each_one c none = refl
each_one c (part t none) = refl
each_one c (part t (part u us)) = refl

each_enough : (s : ListShape) (c : Nonterminal) (ts : Forest) → enough s (dress_each c ts) ≡ enough s ts
each_enough TwoOrMore c none = refl
each_enough TwoOrMore c (part t none) = refl
each_enough TwoOrMore c (part t (part u us)) = refl
each_enough _ c none = refl
each_enough _ c (part t ts) = refl

each_last : (c : Nonterminal) (ts : Forest) → last_only (dress_each c ts) ≡ last_only ts
each_last c none = refl
each_last c (part t none) = refl
each_last c (part t (part u us)) =
    ap (λ b. not b && last_only (dress_each c (part u us))) (dress_last c [] t) ∙ ap (λ b. not (is_last t) && b) (each_last c (part u us))

mutual
  pub dress_fine : (c : Nonterminal) (g : List Text) (t : Tree) → low c ≡ true → may_stand c t ≡ true → loose c t ≡ true → (home true c (dress c g t) ≡ true) × (fine true c (dress c g t) ≡ true)
  dress_fine c g (leaf s x) l m h = wrap_fine c g (leaf s x) (wants c g (leaf s x)) refl l m h
  dress_fine c g (node k cs) l m h =
      let q = and_parts (is_no_jsx k) (loose_slots (positions k) cs) h in
      let u : Tree = node k (dresses (positions k) cs) in
      wrap_fine c g u (wants c g u) refl l m (and_from (is_no_jsx k) _ q.0 (slots_fine (positions k) cs (all_lows k) q.1))
  dress_fine c g (list ts) l m h = ⊎_elim (λ p. absurd (false≢true (and_parts (asks c) false p).1)) (λ p. absurd (false≢true p)) (or_cases (asks c && false) false m)

  pub slots_fine : (ss : List Position) (cs : Forest) → lows ss ≡ true → loose_slots ss cs ≡ true → fine_slots true ss (dresses ss cs) ≡ true
  slots_fine [] none l h = refl
  slots_fine [] (part t ts) l h = absurd (false≢true h)
  slots_fine (s ∷ ss) none l h = absurd (false≢true h)
  slots_fine (position Single c g b a ∷ ss) (part t ts) l h =
      let x = and_parts (may_stand c t) (loose c t && loose_slots ss ts) h in
      let y = and_parts (loose c t) (loose_slots ss ts) x.1 in
      let z = and_parts (low c) (lows ss) l in
      let d = dress_fine c g t z.0 x.0 y.0 in
      and_from _ _ d.0 (and_from _ _ d.1 (slots_fine ss ts z.1 y.1))
  slots_fine (position Maybe c g b a ∷ ss) (part (list us) ts) l h =
      let x = and_parts (at_most_one us) (loose_each c us && loose_slots ss ts) h in
      let y = and_parts (loose_each c us) (loose_slots ss ts) x.1 in
      let z = and_parts (low c) (lows ss) l in
      and_from _ _ (each_one c us ∙ x.0) (and_from _ _ (each_fine c us z.0 y.0) (slots_fine ss ts z.1 y.1))
  slots_fine (position (Several s) c g b a ∷ ss) (part (list us) ts) l h =
      let x = and_parts (enough s us && last_only us) (loose_each c us && loose_slots ss ts) h in
      let w = and_parts (enough s us) (last_only us) x.0 in
      let y = and_parts (loose_each c us) (loose_slots ss ts) x.1 in
      let z = and_parts (low c) (lows ss) l in
      and_from _ _ (and_from _ _ (each_enough s c us ∙ w.0) (each_last c us ∙ w.1)) (and_from _ _ (each_fine c us z.0 y.0) (slots_fine ss ts z.1 y.1))
  slots_fine (position Maybe c g b a ∷ ss) (part (leaf s t) ts) l h = absurd (false≢true h)
  slots_fine (position Maybe c g b a ∷ ss) (part (node k cs) ts) l h = absurd (false≢true h)
  slots_fine (position (Several s) c g b a ∷ ss) (part (leaf s' t) ts) l h = absurd (false≢true h)
  slots_fine (position (Several s) c g b a ∷ ss) (part (node k cs) ts) l h = absurd (false≢true h)

  each_fine : (c : Nonterminal) (ts : Forest) → low c ≡ true → loose_each c ts ≡ true → fine_each true c (dress_each c ts) ≡ true
  each_fine c none l h = refl
  each_fine c (part t ts) l h =
      let x = and_parts (may_stand c t) (loose c t && loose_each c ts) h in
      let y = and_parts (loose c t) (loose_each c ts) x.1 in
      let d = dress_fine c [] t l x.0 y.0 in
      and_from _ _ d.0 (and_from _ _ d.1 (each_fine c ts l y.1))
