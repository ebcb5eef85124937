-- The second of the passes: strings that would be directives, and the name `async` as a head.
use Rattle.std.proofs.Common.{◌≡◌, List, [], ◌∷◌, Bool, true, false, cond, sym, refl, ap, ◌∙◌, subst, ⊎_elim}
use Rattle.std.proofs.lemmas.Bool.{and_parts, and_from, or_cases, or_left, or_right, true≢false, false≢true}
use Rattle.std.specs.Prelude.{codes, not, ◌&&◌, ◌||◌}
use Rattle.jsx_base.specs.Token.{Text, same, IdentifierName, StringLiteral, JsxName}
use Rattle.jsx_tree.specs.Kinds.{Kind, program, statement, function, expression, Module, Script, FunctionBody, ExprStmt, ForOf, ParenTarget, BareArrow, BareArrowBlock, NewWithoutArguments, Arrow, ArrowBlock, New, Tree, leaf, node, list, Forest, none, part}
use Rattle.jsx_tree.specs.Nonterminals.{Nonterminal, Expr, SubStmt, NewCallee, ForHead, ForOfHead, in_homes, homes, is_bound}
use Rattle.jsx_tree.specs.Grammar.{ListShape, TwoOrMore, Lines, TopLines, InLoop, production}
use Rattle.jsx_tree.specs.Normal.{is_empty, laid_node, remade, remades}
use Rattle.jsx_tree.specs.Form.{Form, Single, Maybe, Several, Position, position, positions, enough, at_most_one, is_last, last_only, admits, is_leaf, calls, leads, spine_calls, first_calls}
use Rattle.jsx_tree.specs.Parentheses.{parens_of, as_laid, no_directive, first_no_directive, behind_directives, held_async, special}
use Rattle.jsx_tree.specs.Sound.{lax, is_no_jsx}
use Rattle.jsx_tree.proofs.Parentheses.OfHeads.{is_of, no_heads, tame, is_for_of, all_heads}
use Rattle.jsx_tree.proofs.Parentheses.FirstPass.{home, home_shape, fine, fine_slots, fine_each}

-- ---- a node whose parts change keeps its home, where no call comes to stand on its left spine

abbrev pub alike : Forest → Forest → Bool
alike none none = true
alike none (part t ts) = false
alike (part t ts) none = false
alike (part t ts) (part u us) = alike ts us

pub alike_with : (as' bs cs : Forest) → alike as' bs ≡ true → alike bs cs ≡ true → alike as' cs ≡ true
alike_with none none cs h i = i
alike_with none (part b bs) cs h i = absurd (false≢true h)
alike_with (part a as') none cs h i = absurd (false≢true h)
alike_with (part a as') (part b bs) none h i = i
alike_with (part a as') (part b bs) (part c cs) h i = alike_with as' bs cs h i

pub alike_self : (ts : Forest) → alike ts ts ≡ true
alike_self none = refl
alike_self (part t ts) = alike_self ts

not_less : (a b : Bool) → (b ≡ true → a ≡ true) → not a ≡ true → not b ≡ true
not_less a false f h = refl
not_less false true f h = absurd (false≢true (f refl))
not_less true true f h = h

pub node_kept : (c : Nonterminal) (k : Kind) (cs ds : Forest) → (spine_calls (node k ds) ≡ true → spine_calls (node k cs) ≡ true) → admits c (node k cs) ≡ true → admits c (node k ds) ≡ true
node_kept NewCallee k cs ds f h =
    let p = and_parts (in_homes NewCallee (homes k)) (not (spine_calls (node k cs))) h in
    and_from _ _ p.0 (not_less (spine_calls (node k cs)) (spine_calls (node k ds)) f p.1)
node_kept _ k cs ds f h = h

pub spine_less : (k : Kind) (cs ds : Forest) → (leads (production k) ≡ true → first_calls ds ≡ true → first_calls cs ≡ true) → spine_calls (node k ds) ≡ true → spine_calls (node k cs) ≡ true
spine_less k cs ds f h =
    ⊎_elim (λ p. or_left (calls k) _ p) (λ p. or_right (calls k) _ (let q = and_parts (leads (production k)) (first_calls ds) p in and_from _ _ q.0 (f q.0 q.1))) (or_cases (calls k) (leads (production k) && first_calls ds) h)

pub laid_kept : (c : Nonterminal) (k : Kind) (cs ds : Forest) → alike cs ds ≡ true → (leads (production k) ≡ true → first_calls ds ≡ true → first_calls cs ≡ true) → admits c (laid_node k cs) ≡ true → admits c (laid_node k ds) ≡ true
laid_kept c (expression BareArrow) (part a b) (part x y) l f h = node_kept c (expression Arrow) _ _ (λ p. absurd (false≢true p)) h
laid_kept c (expression BareArrow) none none l f h = h
laid_kept c (expression BareArrow) none (part x y) l f h = absurd (false≢true l)
laid_kept c (expression BareArrow) (part x y) none l f h = absurd (false≢true l)
laid_kept c (expression BareArrowBlock) (part a b) (part x y) l f h = node_kept c (expression ArrowBlock) _ _ (λ p. absurd (false≢true p)) h
laid_kept c (expression BareArrowBlock) none none l f h = h
laid_kept c (expression BareArrowBlock) none (part x y) l f h = absurd (false≢true l)
laid_kept c (expression BareArrowBlock) (part x y) none l f h = absurd (false≢true l)
laid_kept c (expression NewWithoutArguments) (part a none) (part x none) l f h = node_kept c (expression New) _ _ (λ p. absurd (false≢true p)) h
laid_kept c (expression NewWithoutArguments) (part a (part b bs)) (part x (part y ys)) l f h = node_kept c (expression NewWithoutArguments) _ _ (λ p. absurd (false≢true p)) h
laid_kept c (expression NewWithoutArguments) none none l f h = h
laid_kept c (expression NewWithoutArguments) none (part x y) l f h = absurd (false≢true l)
laid_kept c (expression NewWithoutArguments) (part x y) none l f h = absurd (false≢true l)
laid_kept c (expression NewWithoutArguments) (part a none) (part x (part y ys)) l f h = absurd (false≢true l)
laid_kept c (expression NewWithoutArguments) (part a (part b bs)) (part x none) l f h = absurd (false≢true l)
laid_kept c k cs ds l f h = node_kept c k cs ds (spine_less k cs ds f) h

-- ---- the mended parts of a node

abbrev pub mend : Kind → Forest → Forest
mend (program Module) cs = behind_directives cs
mend (program Script) cs = behind_directives cs
mend (program FunctionBody) cs = behind_directives cs
mend (statement ForOf) cs = held_async cs
mend k cs = cs

pub mend_is : (k : Kind) (cs : Forest) → node k (mend k cs) ≡ special k cs
mend_is (program Module) cs = refl
mend_is (program Script) cs = refl
mend_is (program FunctionBody) cs = refl
mend_is (statement ForOf) cs = refl
mend_is k cs = refl

mend_first : (k : Kind) (cs : Forest) → leads (production k) ≡ true → first_calls (mend k cs) ≡ true → first_calls cs ≡ true
mend_first (program Module) cs l h = absurd (false≢true l)
mend_first (program Script) cs l h = absurd (false≢true l)
mend_first (program FunctionBody) cs l h = absurd (false≢true l)
mend_first (statement ForOf) cs l h = absurd (false≢true l)
mend_first k cs l h = h

behind_alike : (cs : Forest) → alike cs (behind_directives cs) ≡ true
behind_alike none = refl
behind_alike (part d none) = refl
behind_alike (part d (part (list ts) none)) = refl
behind_alike (part d (part (list ts) (part u us))) = alike_self us
behind_alike (part d (part (leaf s x) us)) = alike_self us
behind_alike (part d (part (node k cs) us)) = alike_self us

held_alike : (cs : Forest) → alike cs (held_async cs) ≡ true
held_alike none = refl
held_alike (part (leaf IdentifierName x) us) = alike_self us
held_alike (part (leaf s x) us) = alike_self us
held_alike (part (node k cs) us) = alike_self us
held_alike (part (list ts) us) = alike_self us

mend_alike : (k : Kind) (cs : Forest) → alike cs (mend k cs) ≡ true
mend_alike (program Module) cs = behind_alike cs
mend_alike (program Script) cs = behind_alike cs
mend_alike (program FunctionBody) cs = behind_alike cs
mend_alike (statement ForOf) cs = held_alike cs
mend_alike k cs = alike_self cs

remades_alike : (cs : Forest) → alike cs (remades special cs) ≡ true
remades_alike none = refl
remades_alike (part t ts) = remades_alike ts

-- ---- homes are kept

mutual
  spine_kept : (t : Tree) → spine_calls (remade special t) ≡ true → spine_calls t ≡ true
  spine_kept (leaf s x) h = h
  spine_kept (list ts) h = h
  spine_kept (node k cs) h = spine_less k cs (mend k (remades special cs)) (λ l p. first_kept cs (mend_first k (remades special cs) l p)) (ap spine_calls (mend_is k (remades special cs)) ∙ h)

  first_kept : (cs : Forest) → first_calls (remades special cs) ≡ true → first_calls cs ≡ true
  first_kept none h = h
  first_kept (part t ts) h = spine_kept t h

special_home : (c : Nonterminal) (t : Tree) → admits c (as_laid t) ≡ true → admits c (as_laid (remade special t)) ≡ true
special_home c (leaf s x) h = h
special_home c (list ts) h = h
special_home c (node k cs) h =
    ap (λ u. admits c (as_laid u)) (sym (mend_is k (remades special cs)))
    ∙ laid_kept c k cs (mend k (remades special cs)) (alike_with cs (remades special cs) _ (remades_alike cs) (mend_alike k (remades special cs))) (λ l p. first_kept cs (mend_first k (remades special cs) l p)) h

special_last : (t : Tree) → is_last (remade special t) ≡ is_last t
special_last (leaf s x) = refl
special_last (list ts) = refl
special_last (node k cs) = ap is_last (sym (mend_is k (remades special cs)))

each_one : (ts : Forest) → at_most_one (remades special ts) ≡ at_most_one ts
each_one none = refl
each_one (part t none) = refl
each_one (part t (part u us)) = refl

each_enough : (s : ListShape) (ts : Forest) → enough s (remades special ts) ≡ enough s ts
each_enough TwoOrMore none = refl
each_enough TwoOrMore (part t none) = refl
each_enough TwoOrMore (part t (part u us)) = refl
each_enough _ none = refl
each_enough _ (part t ts) = refl

each_last : (ts : Forest) → last_only (remades special ts) ≡ last_only ts
each_last none = refl
each_last (part t none) = refl
each_last (part t (part u us)) =
    ap (λ b. not b && last_only (remades special (part u us))) (special_last t) ∙ ap (λ b. not (is_last t) && b) (each_last (part u us))

hard : (c : Nonterminal) → not (is_of c) ≡ true → lax c ≡ c
hard ForOfHead h = absurd (false≢true h)
hard _ h = refl

-- ---- strings that would be directives

no_directive_home : (c : Nonterminal) (t : Tree) → home false c t ≡ true → home false c (no_directive t) ≡ true
no_directive_home c (node (statement ExprStmt) (part (leaf StringLiteral x) none)) h = node_kept c (statement ExprStmt) (part (leaf StringLiteral x) none) (part (parens_of (leaf StringLiteral x)) none) (λ p. absurd (false≢true p)) h
no_directive_home c t h = h

no_directive_fine : (c : Nonterminal) (t : Tree) → fine false c t ≡ true → fine false c (no_directive t) ≡ true
no_directive_fine c (node (statement ExprStmt) (part (leaf StringLiteral x) none)) h =
    let p = and_parts (is_leaf StringLiteral x && true) true h in
    and_from _ true (and_from _ true p.0 refl) refl
no_directive_fine c t h = h

no_directive_last : (t : Tree) → is_last (no_directive t) ≡ is_last t
no_directive_last (node (statement ExprStmt) (part (leaf StringLiteral x) none)) = refl
no_directive_last t = refl

first_at : (c : Nonterminal) (t : Tree) (ts : Forest) (v : Bool) → (fine_each false c ts ≡ true → fine_each false c (first_no_directive ts) ≡ true) → fine_each false c (part t ts) ≡ true → fine_each false c (cond v (part t (first_no_directive ts)) (part (no_directive t) ts)) ≡ true
first_at c t ts true f h =
    let p = and_parts (home false c t) (fine false c t && fine_each false c ts) h in
    let q = and_parts (fine false c t) (fine_each false c ts) p.1 in
    and_from _ _ p.0 (and_from _ _ q.0 (f q.1))
first_at c t ts false f h =
    let p = and_parts (home false c t) (fine false c t && fine_each false c ts) h in
    let q = and_parts (fine false c t) (fine_each false c ts) p.1 in
    and_from _ _ (no_directive_home c t p.0) (and_from _ _ (no_directive_fine c t q.0) q.1)

first_fine : (c : Nonterminal) (ts : Forest) → fine_each false c ts ≡ true → fine_each false c (first_no_directive ts) ≡ true
first_fine c none h = refl
first_fine c (part t ts) h = first_at c t ts (is_empty t) (first_fine c ts) h

-- a list with an item put first: only whether one follows matters
lasts_first : (t u : Tree) (ts us : Forest) → is_last u ≡ is_last t → alike ts us ≡ true → last_only (part t ts) ≡ true → (last_only ts ≡ true → last_only us ≡ true) → last_only (part u us) ≡ true
lasts_first t u none none e l h f = refl
lasts_first t u none (part x xs) e l h f = absurd (false≢true l)
lasts_first t u (part x xs) none e l h f = refl
lasts_first t u (part x xs) (part y ys) e l h f =
    let p = and_parts (not (is_last t)) (last_only (part x xs)) h in
    and_from (not (is_last u)) _ (ap not e ∙ p.0) (f p.1)

last_tail : (t : Tree) (ts : Forest) → last_only (part t ts) ≡ true → last_only ts ≡ true
last_tail t none h = refl
last_tail t (part u us) h = (and_parts (not (is_last t)) (last_only (part u us)) h).1

alike_at : (t : Tree) (ts : Forest) (v : Bool) → alike ts (first_no_directive ts) ≡ true → alike (part t ts) (cond v (part t (first_no_directive ts)) (part (no_directive t) ts)) ≡ true
alike_at t ts true f = f
alike_at t ts false f = alike_self ts

first_alike : (ts : Forest) → alike ts (first_no_directive ts) ≡ true
first_alike none = refl
first_alike (part t ts) = alike_at t ts (is_empty t) (first_alike ts)

last_at : (t : Tree) (ts : Forest) (v : Bool) → (last_only ts ≡ true → last_only (first_no_directive ts) ≡ true) → last_only (part t ts) ≡ true → last_only (cond v (part t (first_no_directive ts)) (part (no_directive t) ts)) ≡ true
last_at t ts true f h = lasts_first t t ts (first_no_directive ts) refl (first_alike ts) h f
last_at t ts false f h = lasts_first t (no_directive t) ts ts (no_directive_last t) (alike_self ts) h (λ p. p)

first_last : (ts : Forest) → last_only ts ≡ true → last_only (first_no_directive ts) ≡ true
first_last none h = refl
first_last (part t ts) h = last_at t ts (is_empty t) (first_last ts) h

behind_fine : (o : Form) (d : Nonterminal) (g' : List Text) (b' : Bool) (a' : _) (s : ListShape) (c : Nonterminal) (g : List Text) (b : Bool) (a : _) → ((ts : Forest) → enough s ts ≡ true) → (cs : Forest)
    → fine_slots false (position o d g' b' a' ∷ position (Several s) c g b a ∷ []) cs ≡ true → fine_slots false (position o d g' b' a' ∷ position (Several s) c g b a ∷ []) (behind_directives cs) ≡ true
behind_fine o d g' b' a' s c g b a en (part x (part (list ts) none)) h =
    let p = and_parts (home_shape false o d x) (fine false d x && ((enough s ts && last_only ts) && (fine_each false c ts && true))) h in
    let q = and_parts (fine false d x) ((enough s ts && last_only ts) && (fine_each false c ts && true)) p.1 in
    let r = and_parts (enough s ts && last_only ts) (fine_each false c ts && true) q.1 in
    let w = and_parts (fine_each false c ts) true r.1 in
    and_from _ _ p.0 (and_from _ _ q.0 (and_from _ _ (and_from _ _ (en (first_no_directive ts)) (first_last ts (and_parts (enough s ts) (last_only ts) r.0).1)) (and_from _ true (first_fine c ts w.0) refl)))
behind_fine o d g' b' a' s c g b a en cs h = h

mend_fine : (k : Kind) (cs : Forest) → is_for_of k ≡ false → fine_slots false (positions k) cs ≡ true → fine_slots false (positions k) (mend k cs) ≡ true
mend_fine (program Module) cs i h = behind_fine _ _ _ _ _ TopLines _ _ _ _ (λ ts. refl) cs h
mend_fine (program Script) cs i h = behind_fine _ _ _ _ _ TopLines _ _ _ _ (λ ts. refl) cs h
mend_fine (program FunctionBody) cs i h = behind_fine _ _ _ _ _ Lines _ _ _ _ (λ ts. refl) cs h
mend_fine (statement ForOf) cs i h = absurd (true≢false i)
mend_fine k cs i h = h

-- ---- the head of a `for`-`of`

of_laid : (k : Kind) (cs : Forest) → admits ForHead (laid_node k cs) ≡ true → admits ForOfHead (laid_node k cs) ≡ true
of_laid (expression BareArrow) (part a b) h = h
of_laid (expression BareArrowBlock) (part a b) h = h
of_laid (expression NewWithoutArguments) (part a none) h = h
of_laid k cs h = h

of_word : (x : Text) (v : Bool) (us : Forest) → same x (codes "async") ≡ v → is_bound x ≡ true → fine false ForOfHead (leaf IdentifierName x) ≡ true → fine_slots false (position Single (Expr 1) [] true [] ∷ position Single SubStmt [] false (InLoop ∷ []) ∷ []) us ≡ true
    → fine_slots false (positions (statement ForOf)) (part (cond v (node (function ParenTarget) (part (leaf IdentifierName x) none)) (leaf IdentifierName x)) us) ≡ true
of_word x true us e b f h = and_from _ _ (and_from (is_bound x) _ b (and_from _ true f refl)) h
of_word x false us e b f h = and_from (is_bound x && not (same x (codes "async"))) _ (and_from (is_bound x) _ b (ap not e)) (and_from _ _ f h)

abbrev pub of_rest : List Position
of_rest = position Single (Expr 1) [] true [] ∷ position Single SubStmt [] false (InLoop ∷ []) ∷ []

of_head : (t : Tree) (us : Forest) → home true ForOfHead t ≡ true → fine false ForOfHead t ≡ true → fine_slots false of_rest us ≡ true → fine_slots false (positions (statement ForOf)) (held_async (part t us)) ≡ true
of_head (leaf IdentifierName x) us h f r = of_word x (same x (codes "async")) us refl h f r
of_head (leaf JsxName x) us h f r = absurd (false≢true h)
of_head (leaf s x) us h f r = and_from _ _ h (and_from _ _ f r)
of_head (list ts) us h f r = absurd (false≢true h)
of_head (node k cs) us h f r = and_from _ _ (of_laid k cs h) (and_from _ _ f r)

-- ---- all trees

hard_home : (c : Nonterminal) (t : Tree) → not (is_of c) ≡ true → home true c t ≡ true → home false c t ≡ true
hard_home c t n h = ap (λ d. admits d (as_laid t)) (sym (hard c n)) ∙ h

special_soft : (c : Nonterminal) (t : Tree) → home true c t ≡ true → home true c (remade special t) ≡ true
special_soft c t h = special_home (lax c) t h

-- parts of which only the head isn't mended yet
abbrev half_slots : List Position → Forest → Bool
half_slots [] none = true
half_slots [] (part t ts) = false
half_slots (s ∷ ss) none = false
half_slots (position f c g b a ∷ ss) (part t ts) = home_shape true f c t && (fine false c t && half_slots ss ts)

hard_shape : (f : Form) (c : Nonterminal) (t : Tree) → not (is_of c) ≡ true → home_shape true f c t ≡ true → home_shape false f c t ≡ true
hard_shape Single c t n h = hard_home c t n h
hard_shape Maybe c (list ts) n h = h
hard_shape (Several s) c (list ts) n h = h
hard_shape Maybe c (leaf s x) n h = h
hard_shape (Several s) c (leaf k x) n h = h
hard_shape Maybe c (node k cs) n h = h
hard_shape (Several s) c (node k cs) n h = h

firm : (ss : List Position) (cs : Forest) → no_heads ss ≡ true → half_slots ss cs ≡ true → fine_slots false ss cs ≡ true
firm [] none l h = h
firm [] (part t ts) l h = h
firm (s ∷ ss) none l h = absurd (false≢true h)
firm (position f c g b a ∷ ss) (part t ts) l h =
    let x = and_parts (home_shape true f c t) (fine false c t && half_slots ss ts) h in
    let y = and_parts (fine false c t) (half_slots ss ts) x.1 in
    let z = and_parts (not (is_of c)) (no_heads ss) l in
    and_from _ _ (hard_shape f c t z.0 x.0) (and_from _ _ y.0 (firm ss ts z.1 y.1))

mended_fine : (k : Kind) (cs : Forest) → (is_for_of k || no_heads (positions k)) ≡ true → half_slots (positions k) cs ≡ true → fine_slots false (positions k) (mend k cs) ≡ true
mended_fine (statement ForOf) none l h = absurd (false≢true h)
mended_fine (statement ForOf) (part t ts) l h =
    let p = and_parts (home true ForOfHead t) (fine false ForOfHead t && half_slots of_rest ts) h in
    let q = and_parts (fine false ForOfHead t) (half_slots of_rest ts) p.1 in
    of_head t ts p.0 q.0 (firm of_rest ts refl q.1)
mended_fine k cs l h = mend_fine k cs refl (firm (positions k) cs l h)

mutual
  pub special_fine : (c : Nonterminal) (t : Tree) → home true c t ≡ true → fine true c t ≡ true → fine false c (remade special t) ≡ true
  special_fine c (leaf s x) m h = h
  special_fine c (list ts) m h = absurd (false≢true m)
  special_fine c (node k cs) m h =
      let q = and_parts (is_no_jsx k) (fine_slots true (positions k) cs) h in
      let r = and_parts (is_for_of k || no_heads (positions k)) (tame (positions k)) (all_heads k) in
      subst (λ u. fine false c u ≡ true) (mend_is k (remades special cs)) (and_from (is_no_jsx k) _ q.0 (mended_fine k (remades special cs) r.0 (slots_special (positions k) cs r.1 q.1)))

  slots_special : (ss : List Position) (cs : Forest) → tame ss ≡ true → fine_slots true ss cs ≡ true → half_slots ss (remades special cs) ≡ true
  slots_special [] none l h = refl
  slots_special [] (part t ts) l h = absurd (false≢true h)
  slots_special (s ∷ ss) none l h = absurd (false≢true h)
  slots_special (position Single c g b a ∷ ss) (part t ts) l h =
      let x = and_parts (home true c t) (fine true c t && fine_slots true ss ts) h in
      let y = and_parts (fine true c t) (fine_slots true ss ts) x.1 in
      and_from _ _ (special_soft c t x.0) (and_from _ _ (special_fine c t x.0 y.0) (slots_special ss ts l y.1))
  slots_special (position Maybe c g b a ∷ ss) (part (list us) ts) l h =
      let x = and_parts (at_most_one us) (fine_each true c us && fine_slots true ss ts) h in
      let y = and_parts (fine_each true c us) (fine_slots true ss ts) x.1 in
      let z = and_parts (not (is_of c)) (tame ss) l in
      and_from _ _ (each_one us ∙ x.0) (and_from _ _ (each_special c us z.0 y.0) (slots_special ss ts z.1 y.1))
  slots_special (position (Several s) c g b a ∷ ss) (part (list us) ts) l h =
      let x = and_parts (enough s us && last_only us) (fine_each true c us && fine_slots true ss ts) h in
      let w = and_parts (enough s us) (last_only us) x.0 in
      let y = and_parts (fine_each true c us) (fine_slots true ss ts) x.1 in
      let z = and_parts (not (is_of c)) (tame ss) l in
      and_from _ _ (and_from _ _ (each_enough s us ∙ w.0) (each_last us ∙ w.1)) (and_from _ _ (each_special c us z.0 y.0) (slots_special ss ts z.1 y.1))
  slots_special (position Maybe c g b a ∷ ss) (part (leaf s t) ts) l h = absurd (false≢true h)
  slots_special (position Maybe c g b a ∷ ss) (part (node k cs) ts) l h = absurd (false≢true h)
  slots_special (position (Several s) c g b a ∷ ss) (part (leaf s' t) ts) l h = absurd (false≢true h)
  slots_special (position (Several s) c g b a ∷ ss) (part (node k cs) ts) l h = absurd (false≢true h)

  each_special : (c : Nonterminal) (ts : Forest) → not (is_of c) ≡ true → fine_each true c ts ≡ true → fine_each false c (remades special ts) ≡ true
  each_special c none l h = refl
  each_special c (part t ts) l h =
      let x = and_parts (home true c t) (fine true c t && fine_each true c ts) h in
      let y = and_parts (fine true c t) (fine_each true c ts) x.1 in
      and_from _ _ (special_home c t (hard_home c t l x.0)) (and_from _ _ (special_fine c t x.0 y.0) (each_special c ts l y.1))

-- both together
pub special_at : (c : Nonterminal) (t : Tree) → not (is_of c) ≡ true → home true c t ≡ true → fine true c t ≡ true → (home false c (remade special t) ≡ true) × (fine false c (remade special t) ≡ true)
special_at c t n m h = (special_home c t (hard_home c t n m), special_fine c t m h)
