-- No pair is put on a laid tree that fits.
use Rattle.std.proofs.Common.{◌≡◌, List, [], ◌∷◌, Bool, true, false, cond, refl, ap, ◌∙◌, ⊎_elim}
use Rattle.std.proofs.lemmas.Bool.{and_parts, and_from, or_cases, or_parts, true≢false, false≢true, not-true}
use Rattle.std.specs.Prelude.{codes, not, ◌&&◌, ◌||◌}
use Rattle.jsx_base.specs.Token.{Text, IdentifierName, StringLiteral, same}
use Rattle.jsx_tree.specs.Kinds.{Kind, program, statement, function, expression, Module, Script, FunctionBody, ExprStmt, For, ForOf, ParenTarget, BareArrow, BareArrowBlock, NewWithoutArguments, Tree, leaf, node, list, Forest, none, part}
use Rattle.jsx_tree.specs.Nonterminals.{Nonterminal, ForOfHead, WholeProgram, leaf_in, is_bound}
use Rattle.jsx_tree.specs.Normal.{is_empty, unless_empty, without_empty, laid_node, of_list, mades, each_made, laid_tree, remade, remades}
use Rattle.jsx_tree.specs.Form.{Form, Single, Maybe, Several, Position, position, positions, shaped, admits, fits_below, fit_slots, fit_each, is}
use Rattle.jsx_tree.specs.Parentheses.{parens_of, no_directive, first_no_directive, held_async, special, is_in, is_init, if_in, shield, shields, shield_each, parenthesise}
use Rattle.jsx_tree.specs.StaticRules.{Surroundings, outside, rule, stands, enters, legal, legals, each_legal, is_string_stmt, first_of_list, is_in_op, open_in, open_ins, any_open}
use Rattle.jsx_tree.specs.Fits.{held, fits}
use Rattle.jsx_tree.specs.Sound.{is_mended}
use Rattle.jsx_tree.proofs.Parentheses.Needed.{dress_none}
use Rattle.jsx_tree.proofs.Parentheses.MendedRules.{mended, mendeds, in_kind}
use Rattle.jsx_tree.proofs.Parentheses.Idempotent.{filled, without_filled}
use Rattle.jsx_tree.proofs.Parentheses.PlaceTests.{is_for, no_inits}
use Rattle.jsx_tree.proofs.Parentheses.PlaceTable.{row_facts}

-- ---- the rules that pairs mend hold of what is lawful

rule_or : (a b : Bool) → b ≡ true → (a || b) ≡ true
rule_or true b h = refl
rule_or false b h = h

mutual
  legal_mended : (v : Surroundings) (c : Nonterminal) (t : Tree) → fits_below c t ≡ true → legal v t ≡ true → mended t ≡ true
  legal_mended v c (leaf s x) f l = refl
  legal_mended v c (list ts) f l = each_mended v c ts f l
  legal_mended v c (node k cs) f l =
      let p = and_parts (rule k cs) (stands k cs v && legals cs v (positions k) cs) l in
      let q = and_parts (stands k cs v) (legals cs v (positions k) cs) p.1 in
      and_from _ _ (rule_or (not (is_mended k)) (rule k cs) p.0) (slots_mended cs v (positions k) cs f q.1)

  slots_mended : (all : Forest) (v : Surroundings) (ss : List Position) (cs : Forest) → fit_slots ss cs ≡ true → legals all v ss cs ≡ true → mendeds cs ≡ true
  slots_mended all v ss none f l = refl
  slots_mended all v [] (part t ts) f l = absurd (false≢true f)
  slots_mended all v (position o c g b a ∷ ss) (part t ts) f l =
      let p = and_parts (shaped o c t) (fits_below c t && fit_slots ss ts) f in
      let q = and_parts (fits_below c t) (fit_slots ss ts) p.1 in
      let r = and_parts (legal (enters all a v) t) (legals all v ss ts) l in
      and_from _ _ (legal_mended (enters all a v) c t q.0 r.0) (slots_mended all v ss ts q.1 r.1)

  each_mended : (v : Surroundings) (c : Nonterminal) (ts : Forest) → fit_each c ts ≡ true → each_legal v ts ≡ true → mendeds ts ≡ true
  each_mended v c none f l = refl
  each_mended v c (part t ts) f l =
      let p = and_parts (admits c t) (fits_below c t && fit_each c ts) f in
      let q = and_parts (fits_below c t) (fit_each c ts) p.1 in
      let r = and_parts (legal v t) (each_legal v ts) l in
      and_from _ _ (legal_mended v c t q.0 r.0) (each_mended v c ts q.1 r.1)

-- ---- a laid tree's bodies have no empty statements

abbrev second_filled : Forest → Bool
second_filled (part x (part (list ts) none)) = filled ts
second_filled cs = true

abbrev trimmed_node : Kind → Forest → Bool
trimmed_node (program Module) cs = second_filled cs
trimmed_node (program Script) cs = second_filled cs
trimmed_node (program FunctionBody) cs = second_filled cs
trimmed_node k cs = true

abbrev mutual
  trimmed : Tree → Bool
  trimmed (leaf s x) = true
  trimmed (node k cs) = trimmed_node k cs && all_trimmed cs
  trimmed (list ts) = all_trimmed ts

  all_trimmed : Forest → Bool
  all_trimmed none = true
  all_trimmed (part t ts) = trimmed t && all_trimmed ts

trimmed_unless : (v : Bool) (t : Tree) (ts : Forest) → trimmed t ≡ true → all_trimmed ts ≡ true → all_trimmed (unless_empty v t ts) ≡ true
trimmed_unless true t ts e h = h
trimmed_unless false t ts e h = and_from _ _ e h

without_trimmed : (ts : Forest) → all_trimmed ts ≡ true → all_trimmed (without_empty ts) ≡ true
without_trimmed none h = refl
without_trimmed (part t ts) h = let p = and_parts (trimmed t) (all_trimmed ts) h in trimmed_unless (is_empty t) t (without_empty ts) p.0 (without_trimmed ts p.1)

of_list_trimmed : (o : Form) (t : Tree) → trimmed t ≡ true → trimmed (of_list o t) ≡ true
of_list_trimmed (Several s) (list ts) h = without_trimmed ts h
of_list_trimmed (Several s) (leaf k x) h = h
of_list_trimmed (Several s) (node k cs) h = h
of_list_trimmed Single t h = h
of_list_trimmed Maybe t h = h

second_node : (x : Tree) (f : Form) (k : Kind) (ds us : Forest) → second_filled (part x (part (of_list f (laid_node k ds)) us)) ≡ true
second_node x (Several s) (expression BareArrow) (part a b) us = refl
second_node x (Several s) (expression BareArrow) none us = refl
second_node x (Several s) (expression BareArrowBlock) (part a b) us = refl
second_node x (Several s) (expression BareArrowBlock) none us = refl
second_node x (Several s) (expression NewWithoutArguments) none us = refl
second_node x (Several s) (expression NewWithoutArguments) (part a none) us = refl
second_node x (Several s) (expression NewWithoutArguments) (part a (part b bs)) us = refl
second_node x (Several s) k ds us = refl
second_node x Single (expression BareArrow) (part a b) us = refl
second_node x Single (expression BareArrow) none us = refl
second_node x Single (expression BareArrowBlock) (part a b) us = refl
second_node x Single (expression BareArrowBlock) none us = refl
second_node x Single (expression NewWithoutArguments) none us = refl
second_node x Single (expression NewWithoutArguments) (part a none) us = refl
second_node x Single (expression NewWithoutArguments) (part a (part b bs)) us = refl
second_node x Single k ds us = refl
second_node x Maybe (expression BareArrow) (part a b) us = refl
second_node x Maybe (expression BareArrow) none us = refl
second_node x Maybe (expression BareArrowBlock) (part a b) us = refl
second_node x Maybe (expression BareArrowBlock) none us = refl
second_node x Maybe (expression NewWithoutArguments) none us = refl
second_node x Maybe (expression NewWithoutArguments) (part a none) us = refl
second_node x Maybe (expression NewWithoutArguments) (part a (part b bs)) us = refl
second_node x Maybe k ds us = refl

abbrev second_several : List Position → Bool
second_several (p ∷ position (Several s) c g b a ∷ ss) = true
second_several ss = false

second_of : (ss : List Position) (cs : Forest) → second_several ss ≡ true → second_filled (mades laid_node ss cs) ≡ true
second_of [] cs h = absurd (false≢true h)
second_of (p ∷ []) cs h = absurd (false≢true h)
second_of (p ∷ position Single c g b a ∷ ss) cs h = absurd (false≢true h)
second_of (p ∷ position Maybe c g b a ∷ ss) cs h = absurd (false≢true h)
second_of (p ∷ position (Several s) c g b a ∷ ss) none h = refl
second_of (position o d g' b' a' ∷ position (Several s) c g b a ∷ ss) (part x none) h = refl
second_of (position o d g' b' a' ∷ position (Several s) c g b a ∷ ss) (part x (part (leaf k y) us)) h = refl
second_of (position o d g' b' a' ∷ position (Several s) c g b a ∷ ss) (part x (part (list ts) us)) h = at (mades laid_node ss us)
  where
    at : (us : Forest) → second_filled (part (of_list o (laid_tree x)) (part (list (without_empty (each_made laid_node ts))) us)) ≡ true
    at none = without_filled (each_made laid_node ts)
    at (part u us) = refl
second_of (position o d g' b' a' ∷ position (Several s) c g b a ∷ ss) (part x (part (node k cs) us)) h = second_node (of_list o (laid_tree x)) (Several s) k (mades laid_node (positions k) cs) (mades laid_node ss us)

trimmed_by : (k : Kind) (cs : Forest) → trimmed_node k (mades laid_node (positions k) cs) ≡ true
trimmed_by (program Module) cs = second_of (positions (program Module)) cs refl
trimmed_by (program Script) cs = second_of (positions (program Script)) cs refl
trimmed_by (program FunctionBody) cs = second_of (positions (program FunctionBody)) cs refl
trimmed_by k cs = refl

node_trimmed : (k : Kind) (ds : Forest) → trimmed_node k ds ≡ true → all_trimmed ds ≡ true → trimmed (laid_node k ds) ≡ true
node_trimmed (expression BareArrow) (part a b) n h = let p = and_parts (trimmed a) (all_trimmed b) h in and_from _ _ (and_from _ true p.0 refl) p.1
node_trimmed (expression BareArrowBlock) (part a b) n h = let p = and_parts (trimmed a) (all_trimmed b) h in and_from _ _ (and_from _ true p.0 refl) p.1
node_trimmed (expression NewWithoutArguments) (part a none) n h = let p = and_parts (trimmed a) true h in and_from _ true p.0 refl
node_trimmed k ds n h = and_from _ _ n h

mutual
  laid_trimmed : (t : Tree) → trimmed (laid_tree t) ≡ true
  laid_trimmed (leaf s x) = refl
  laid_trimmed (list ts) = each_trimmed ts
  laid_trimmed (node k cs) = node_trimmed k (mades laid_node (positions k) cs) (trimmed_by k cs) (slots_trimmed (positions k) cs)

  slots_trimmed : (ss : List Position) (cs : Forest) → all_trimmed (mades laid_node ss cs) ≡ true
  slots_trimmed ss none = refl
  slots_trimmed [] (part t ts) = and_from _ _ (laid_trimmed t) (slots_trimmed [] ts)
  slots_trimmed (position o c g b a ∷ ss) (part t ts) = and_from _ _ (of_list_trimmed o (laid_tree t) (laid_trimmed t)) (slots_trimmed ss ts)

  each_trimmed : (ts : Forest) → all_trimmed (each_made laid_node ts) ≡ true
  each_trimmed none = refl
  each_trimmed (part t ts) = and_from _ _ (laid_trimmed t) (each_trimmed ts)

-- ---- no directive, and no head that is `async`

no_directive_stays : (t : Tree) → is_string_stmt t ≡ false → no_directive t ≡ t
no_directive_stays (node (statement ExprStmt) (part (leaf StringLiteral x) none)) h = absurd (true≢false h)
no_directive_stays t h = refl

first_stays : (ts : Forest) → not (first_of_list is_string_stmt ts) ≡ true → filled ts ≡ true → first_no_directive ts ≡ ts
first_stays none r h = refl
first_stays (part t ts) r h =
    ap (λ v. cond v (part t (first_no_directive ts)) (part (no_directive t) ts)) (not-true (is_empty t) (and_parts (not (is_empty t)) (filled ts) h).0)
    ∙ ap (λ u. part u ts) (no_directive_stays t (not-true (is_string_stmt t) r))

async_stays : (x : Text) (us : Forest) → leaf_in ForOfHead IdentifierName x ≡ true → held_async (part (leaf IdentifierName x) us) ≡ part (leaf IdentifierName x) us
async_stays x us h = ap (λ v. part (cond v (node (function ParenTarget) (part (leaf IdentifierName x) none)) (leaf IdentifierName x)) us) (not-true (same x (codes "async")) (and_parts (is_bound x) (not (same x (codes "async"))) h).1)

special_stays : (k : Kind) (cs : Forest) → fit_slots (positions k) cs ≡ true → (not (is_mended k) || rule k cs) ≡ true → trimmed_node k cs ≡ true → special k cs ≡ node k cs
special_stays (program Module) (part x (part (list ts) none)) f r h = ap (λ us. node (program Module) (part x (part (list us) none))) (first_stays ts r h)
special_stays (program Script) (part x (part (list ts) none)) f r h = ap (λ us. node (program Script) (part x (part (list us) none))) (first_stays ts r h)
special_stays (program FunctionBody) (part x (part (list ts) none)) f r h = ap (λ us. node (program FunctionBody) (part x (part (list us) none))) (first_stays ts r h)
special_stays (statement ForOf) (part (leaf IdentifierName x) us) f r h = ap (node (statement ForOf)) (async_stays x us (and_parts (leaf_in ForOfHead IdentifierName x) _ f).0)
special_stays k cs f r h = refl

mutual
  special_none : (c : Nonterminal) (t : Tree) → fits_below c t ≡ true → mended t ≡ true → trimmed t ≡ true → remade special t ≡ t
  special_none c (leaf s x) f m h = refl
  special_none c (list ts) f m h = ap list (each_special c ts f m h)
  special_none c (node k cs) f m h =
      let p = and_parts (not (is_mended k) || rule k cs) (mendeds cs) m in
      let q = and_parts (trimmed_node k cs) (all_trimmed cs) h in
      ap (special k) (slots_special (positions k) cs f p.1 q.1) ∙ special_stays k cs f p.0 q.0

  slots_special : (ss : List Position) (cs : Forest) → fit_slots ss cs ≡ true → mendeds cs ≡ true → all_trimmed cs ≡ true → remades special cs ≡ cs
  slots_special ss none f m h = refl
  slots_special [] (part t ts) f m h = absurd (false≢true f)
  slots_special (position o c g b a ∷ ss) (part t ts) f m h =
      let p = and_parts (shaped o c t) (fits_below c t && fit_slots ss ts) f in
      let q = and_parts (fits_below c t) (fit_slots ss ts) p.1 in
      let r = and_parts (mended t) (mendeds ts) m in
      let s = and_parts (trimmed t) (all_trimmed ts) h in
      ap (λ u. part u (remades special ts)) (special_none c t q.0 r.0 s.0) ∙ ap (part t) (slots_special ss ts q.1 r.1 s.1)

  each_special : (c : Nonterminal) (ts : Forest) → fit_each c ts ≡ true → mendeds ts ≡ true → all_trimmed ts ≡ true → remades special ts ≡ ts
  each_special c none f m h = refl
  each_special c (part t ts) f m h =
      let p = and_parts (admits c t) (fits_below c t && fit_each c ts) f in
      let q = and_parts (fits_below c t) (fit_each c ts) p.1 in
      let r = and_parts (mended t) (mendeds ts) m in
      let s = and_parts (trimmed t) (all_trimmed ts) h in
      ap (λ u. part u (remades special ts)) (special_none c t q.0 r.0 s.0) ∙ ap (part t) (each_special c ts q.1 r.1 s.1)

-- ---- no open `in`

abbrev shut_inits : List Position → Forest → Bool
shut_inits [] ts = true
shut_inits (s ∷ ss) none = true
shut_inits (position f c g b a ∷ ss) (part t ts) = (not (is_init c) || not (open_in t)) && shut_inits ss ts

no_inits_shut : (ss : List Position) (cs : Forest) → no_inits ss ≡ true → shut_inits ss cs ≡ true
no_inits_shut [] ts h = refl
no_inits_shut (s ∷ ss) none h = refl
no_inits_shut (position f c g b a ∷ ss) (part t ts) h =
    let p = and_parts (not (is_init c)) (no_inits ss) h in
    and_from _ _ (ap (λ v. not v || not (open_in t)) (not-true (is_init c) p.0)) (no_inits_shut ss ts p.1)

for_inits : (cs : Forest) → rule (statement For) cs ≡ true → shut_inits (positions (statement For)) cs ≡ true
for_inits none h = refl
for_inits (part i none) h = and_from _ _ h refl
for_inits (part i (part t none)) h = and_from _ _ h refl
for_inits (part i (part t (part u none))) h = and_from _ _ h refl
for_inits (part i (part t (part u (part w ws)))) h = and_from _ _ h refl

inits_of : (k : Kind) (cs : Forest) → (not (is_mended k) || rule k cs) ≡ true → shut_inits (positions k) cs ≡ true
inits_of k cs m = ⊎_elim (λ p. for_case k cs p m) (λ p. no_inits_shut (positions k) cs p) (or_cases (is_for k) (no_inits (positions k)) (row_facts k).inits)
  where
    for_case : (k : Kind) (cs : Forest) → is_for k ≡ true → (not (is_mended k) || rule k cs) ≡ true → shut_inits (positions k) cs ≡ true
    for_case (statement For) cs p m = for_inits cs m
    for_case _ cs p m = absurd (false≢true p)

-- whether a part is shut, and whether nothing stands open in it where it is
shut_part : (shut b i : Bool) (o : Bool) → (not i || not o) ≡ true → (shut ≡ true → (not b && o) ≡ false) → (i || (shut && not b)) ≡ true → o ≡ false
shut_part shut b true o h f s = not-true o h
shut_part true false false o h f s = f refl
shut_part true true false o h f s = absurd (false≢true s)
shut_part false b false o h f s = absurd (false≢true s)

kept_shut : (shut : Bool) (k : Kind) (cs : Forest) → (shut ≡ true → open_in (node k cs) ≡ false) → (shut && not (is_in (node k cs))) ≡ true → open_ins (positions k) cs ≡ false
kept_shut shut k cs f s = (or_parts (is_in_op k) (open_ins (positions k) cs) (f (and_parts shut (not (is_in (node k cs))) s).0)).1

if_in_stays : (shut : Bool) (k : Kind) (cs : Forest) → (shut ≡ true → open_in (node k cs) ≡ false) → if_in shut (node k cs) ≡ node k cs
if_in_stays false k cs f = refl
if_in_stays true k cs f = ap (λ v. cond v (parens_of (node k cs)) (node k cs)) (in_kind k cs ∙ (or_parts (is_in_op k) (open_ins (positions k) cs) (f refl)).0)

mutual
  shield_none : (shut : Bool) (t : Tree) → (shut ≡ true → open_in t ≡ false) → mended t ≡ true → shield shut t ≡ t
  shield_none shut (leaf s x) f m = refl
  shield_none shut (list ts) f m = ap list (each_shield shut ts f m)
  shield_none shut (node k cs) f m =
      let p = and_parts (not (is_mended k) || rule k cs) (mendeds cs) m in
      let d : Bool = shut && not (is_in (node k cs)) in
      ap (λ ds. if_in shut (node k ds)) (shields_none d (positions k) cs (inits_of k cs p.0) (kept_shut shut k cs f) p.1) ∙ if_in_stays shut k cs f

  shields_none : (shut : Bool) (ss : List Position) (cs : Forest) → shut_inits ss cs ≡ true → (shut ≡ true → open_ins ss cs ≡ false) → mendeds cs ≡ true → shields shut ss cs ≡ cs
  shields_none shut [] none i f m = refl
  shields_none shut (s ∷ ss) none i f m = refl
  shields_none shut [] (part t ts) i f m = refl
  shields_none shut (position o c g b a ∷ ss) (part t ts) i f m =
      let p = and_parts (not (is_init c) || not (open_in t)) (shut_inits ss ts) i in
      let q = and_parts (mended t) (mendeds ts) m in
      ap (λ u. part u (shields shut ss ts)) (shield_none (is_init c || (shut && not b)) t (shut_part shut b (is_init c) (open_in t) p.0 (λ s. (or_parts (not b && open_in t) (open_ins ss ts) (f s)).0)) q.0)
      ∙ ap (part t) (shields_none shut ss ts p.1 (λ s. (or_parts (not b && open_in t) (open_ins ss ts) (f s)).1) q.1)

  each_shield : (shut : Bool) (ts : Forest) → (shut ≡ true → any_open ts ≡ false) → mendeds ts ≡ true → shield_each shut ts ≡ ts
  each_shield shut none f m = refl
  each_shield shut (part t ts) f m =
      let q = and_parts (mended t) (mendeds ts) m in
      ap (λ u. part u (shield_each shut ts)) (shield_none shut t (λ s. (or_parts (open_in t) (any_open ts) (f s)).0) q.0) ∙ ap (part t) (each_shield shut ts (λ s. (or_parts (open_in t) (any_open ts) (f s)).1) q.1)

-- so nothing changes
pub parenthesise_none : (t : Tree) → fits t ≡ true → parenthesise (laid_tree t) ≡ laid_tree t
parenthesise_none t h =
    let u : Tree = laid_tree t in
    let a = and_parts (is WholeProgram u) (legal outside u && held WholeProgram [] u) h in
    let b = and_parts (admits WholeProgram u) (fits_below WholeProgram u) a.0 in
    let d = and_parts (legal outside u) (held WholeProgram [] u) a.1 in
    let m : mended u ≡ true = legal_mended outside WholeProgram u b.1 d.0 in
    ap (λ w. shield false (remade special w)) (dress_none WholeProgram [] u b.0 b.1 d.1)
    ∙ (ap (shield false) (special_none WholeProgram u b.1 m (laid_trimmed t)) ∙ shield_none false u (λ s. absurd (false≢true s)) m)
