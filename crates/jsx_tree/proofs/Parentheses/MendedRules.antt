-- What the pairs mend: no string is read as a directive, and no `in` stands open in the head of a `for`.
use Rattle.std.proofs.Common.{◌≡◌, List, [], ◌∷◌, Bool, true, false, cond, sym, refl, ap, ◌∙◌, ⊎_elim}
use Rattle.std.proofs.lemmas.Bool.{and_parts, and_from, or_cases, or_left, or_right, or_from, false≢true}
use Rattle.std.specs.Prelude.{codes, not, ◌&&◌, ◌||◌}
use Rattle.jsx_base.specs.Token.{Text, StringLiteral, IdentifierName, same}
use Rattle.jsx_tree.specs.Kinds.{Kind, program, statement, function, expression, Module, Script, FunctionBody, ExprStmt, Empty, For, ForOf, ParenTarget, InOp, Binary, BareArrow, BareArrowBlock, NewWithoutArguments, Tree, leaf, node, list, Forest, none, part}
use Rattle.jsx_tree.specs.Nonterminals.{Nonterminal}
use Rattle.jsx_tree.specs.Grammar.{ListShape, Context}
use Rattle.jsx_tree.specs.Normal.{is_empty, unless_empty, without_empty, laid_node, of_list, mades, each_made, laid_tree, remade, remades}
use Rattle.jsx_tree.specs.Form.{Form, Single, Maybe, Several, Position, position, positions, enough, at_most_one, last_only}
use Rattle.jsx_tree.specs.Parentheses.{parens_of, no_directive, first_no_directive, behind_directives, special, is_in, is_init, shield, shields, shield_each}
use Rattle.jsx_tree.specs.StaticRules.{Surroundings, rule, stands, enters, legal, legals, each_legal, is_string_stmt, first_of_list, is_in_op, open_in, open_ins, any_open}
use Rattle.jsx_tree.specs.Sound.{is_no_jsx, is_mended, lawful, lawfuls, each_lawful}
use Rattle.jsx_tree.proofs.Parentheses.FirstPass.{home, home_shape, fine, fine_slots, fine_each}
use Rattle.jsx_tree.proofs.Parentheses.SecondPass.{mend, mend_is}

-- ---- the rules that are left, and those that pairs mend, are all

abbrev mutual
  pub mended : Tree → Bool
  mended (leaf s x) = true
  mended (node k cs) = (not (is_mended k) || rule k cs) && mendeds cs
  mended (list ts) = mendeds ts

  pub mendeds : Forest → Bool
  mendeds none = true
  mendeds (part t ts) = mended t && mendeds ts

both_rules : (a b : Bool) → (a || b) ≡ true → (not a || b) ≡ true → b ≡ true
both_rules true b h i = i
both_rules false b h i = h

mutual
  pub legal_of : (v : Surroundings) (t : Tree) → lawful v t ≡ true → mended t ≡ true → legal v t ≡ true
  legal_of v (leaf s x) h m = refl
  legal_of v (list ts) h m = each_legal_of v ts h m
  legal_of v (node k cs) h m =
      let p = and_parts (is_mended k || rule k cs) (stands k cs v && lawfuls cs v (positions k) cs) h in
      let q = and_parts (stands k cs v) (lawfuls cs v (positions k) cs) p.1 in
      let r = and_parts (not (is_mended k) || rule k cs) (mendeds cs) m in
      and_from _ _ (both_rules (is_mended k) (rule k cs) p.0 r.0) (and_from _ _ q.0 (legals_of cs v (positions k) cs q.1 r.1))

  legals_of : (all : Forest) (v : Surroundings) (ss : List Position) (cs : Forest) → lawfuls all v ss cs ≡ true → mendeds cs ≡ true → legals all v ss cs ≡ true
  legals_of all v [] none h m = refl
  legals_of all v [] (part t ts) h m = refl
  legals_of all v (s ∷ ss) none h m = refl
  legals_of all v (position f c g b a ∷ ss) (part t ts) h m =
      let p = and_parts (lawful (enters all a v) t) (lawfuls all v ss ts) h in
      let q = and_parts (mended t) (mendeds ts) m in
      and_from _ _ (legal_of (enters all a v) t p.0 q.0) (legals_of all v ss ts p.1 q.1)

  each_legal_of : (v : Surroundings) (ts : Forest) → each_lawful v ts ≡ true → mendeds ts ≡ true → each_legal v ts ≡ true
  each_legal_of v none h m = refl
  each_legal_of v (part t ts) h m =
      let p = and_parts (lawful v t) (each_lawful v ts) h in
      let q = and_parts (mended t) (mendeds ts) m in
      and_from _ _ (legal_of v t p.0 q.0) (each_legal_of v ts p.1 q.1)

-- ---- directives

abbrev pub quiet : Forest → Bool
quiet none = true
quiet (part t ts) = cond (is_empty t) (quiet ts) (not (is_string_stmt t))

abbrev pub quiet_second : Forest → Bool
quiet_second (part x (part (list ts) none)) = quiet ts
quiet_second cs = true

abbrev pub quiet_node : Kind → Forest → Bool
quiet_node (program Module) cs = quiet_second cs
quiet_node (program Script) cs = quiet_second cs
quiet_node (program FunctionBody) cs = quiet_second cs
quiet_node k cs = true

abbrev mutual
  pub calm : Tree → Bool
  calm (leaf s x) = true
  calm (node k cs) = quiet_node k cs && calms cs
  calm (list ts) = calms ts

  pub calms : Forest → Bool
  calms none = true
  calms (part t ts) = calm t && calms ts

no_string : (t : Tree) → not (is_string_stmt (no_directive t)) ≡ true
no_string (node (statement ExprStmt) (part (leaf StringLiteral x) none)) = refl
no_string t = refl

still_empty : (t : Tree) → is_empty (no_directive t) ≡ is_empty t
still_empty (node (statement ExprStmt) (part (leaf StringLiteral x) none)) = refl
still_empty t = refl

quiet_at : (t : Tree) (ts : Forest) (v : Bool) → is_empty t ≡ v → quiet (first_no_directive ts) ≡ true → quiet (cond v (part t (first_no_directive ts)) (part (no_directive t) ts)) ≡ true
quiet_at t ts true e f = ap (λ b. cond b (quiet (first_no_directive ts)) (not (is_string_stmt t))) e ∙ f
quiet_at t ts false e f = ap (λ b. cond b (quiet ts) (not (is_string_stmt (no_directive t)))) (still_empty t ∙ e) ∙ no_string t

first_quiet : (ts : Forest) → quiet (first_no_directive ts) ≡ true
first_quiet none = refl
first_quiet (part t ts) = quiet_at t ts (is_empty t) refl (first_quiet ts)

behind_quiet : (cs : Forest) → quiet_second (behind_directives cs) ≡ true
behind_quiet (part x (part (list ts) none)) = first_quiet ts
behind_quiet cs = refl

mend_quiet : (k : Kind) (cs : Forest) → quiet_node k (mend k cs) ≡ true
mend_quiet (program Module) cs = behind_quiet cs
mend_quiet (program Script) cs = behind_quiet cs
mend_quiet (program FunctionBody) cs = behind_quiet cs
mend_quiet k cs = refl

no_directive_calm : (t : Tree) → calm t ≡ true → calm (no_directive t) ≡ true
no_directive_calm (node (statement ExprStmt) (part (leaf StringLiteral x) none)) h = refl
no_directive_calm t h = h

calm_at : (t : Tree) (ts : Forest) (v : Bool) → (calms ts ≡ true → calms (first_no_directive ts) ≡ true) → calms (part t ts) ≡ true → calms (cond v (part t (first_no_directive ts)) (part (no_directive t) ts)) ≡ true
calm_at t ts true f h = let p = and_parts (calm t) (calms ts) h in and_from _ _ p.0 (f p.1)
calm_at t ts false f h = let p = and_parts (calm t) (calms ts) h in and_from _ _ (no_directive_calm t p.0) p.1

first_calm : (ts : Forest) → calms ts ≡ true → calms (first_no_directive ts) ≡ true
first_calm none h = refl
first_calm (part t ts) h = calm_at t ts (is_empty t) (first_calm ts) h

behind_calm : (cs : Forest) → calms cs ≡ true → calms (behind_directives cs) ≡ true
behind_calm (part x (part (list ts) none)) h =
    let p = and_parts (calm x) (calms ts && true) h in
    let q = and_parts (calms ts) true p.1 in
    and_from _ _ p.0 (and_from _ true (first_calm ts q.0) refl)
behind_calm cs h = h

async_calm : (x : Text) (us : Forest) (v : Bool) → calms us ≡ true → calms (part (cond v (node (function ParenTarget) (part (leaf IdentifierName x) none)) (leaf IdentifierName x)) us) ≡ true
async_calm x us true h = h
async_calm x us false h = h

mend_calm : (k : Kind) (cs : Forest) → calms cs ≡ true → calms (mend k cs) ≡ true
mend_calm (program Module) cs h = behind_calm cs h
mend_calm (program Script) cs h = behind_calm cs h
mend_calm (program FunctionBody) cs h = behind_calm cs h
mend_calm (statement ForOf) (part (leaf IdentifierName x) us) h = async_calm x us (same x (codes "async")) h
mend_calm (statement ForOf) cs h = h
mend_calm k cs h = h

mutual
  pub special_calm : (t : Tree) → calm (remade special t) ≡ true
  special_calm (leaf s x) = refl
  special_calm (list ts) = specials_calm ts
  special_calm (node k cs) = ap calm (sym (mend_is k (remades special cs))) ∙ and_from _ _ (mend_quiet k (remades special cs)) (mend_calm k (remades special cs) (specials_calm cs))

  specials_calm : (ts : Forest) → calms (remades special ts) ≡ true
  specials_calm none = refl
  specials_calm (part t ts) = and_from _ _ (special_calm t) (specials_calm ts)

-- ---- an `in` that stands open

pub in_kind : (k : Kind) (ds : Forest) → is_in (node k ds) ≡ is_in_op k
in_kind (expression (Binary InOp)) ds = refl
in_kind _ ds = refl

wrap_closed : (k : Kind) (ds : Forest) (v : Bool) → is_in (node k ds) ≡ v → (v ≡ false → open_ins (positions k) ds ≡ false) → open_in (cond v (parens_of (node k ds)) (node k ds)) ≡ false
wrap_closed k ds true e h = refl
wrap_closed k ds false e h = or_from _ _ (sym (in_kind k ds) ∙ e) (h refl)

or_true : (b : Bool) → (b || true) ≡ true
or_true true = refl
or_true false = refl

one_closed : (b : Bool) (c : Nonterminal) (t : Tree) → open_in (shield true t) ≡ false → (not b && open_in (shield (is_init c || (true && not b)) t)) ≡ false
one_closed true c t h = refl
one_closed false c t h = ap (λ d. open_in (shield d t)) (or_true (is_init c)) ∙ h

mutual
  shield_closed : (t : Tree) → open_in (shield true t) ≡ false
  shield_closed (leaf s x) = refl
  shield_closed (list ts) = each_closed ts
  shield_closed (node k cs) =
      let ds : Forest = shields (not (is_in (node k cs))) (positions k) cs in
      wrap_closed k ds (is_in (node k ds)) refl
      (λ e. ap (λ d. open_ins (positions k) (shields d (positions k) cs)) (ap not (in_kind k cs ∙ (sym (in_kind k ds) ∙ e))) ∙ slots_closed (positions k) cs)

  slots_closed : (ss : List Position) (cs : Forest) → open_ins ss (shields true ss cs) ≡ false
  slots_closed [] none = refl
  slots_closed [] (part t ts) = refl
  slots_closed (s ∷ ss) none = refl
  slots_closed (position f c g b a ∷ ss) (part t ts) = or_from _ _ (one_closed b c t (shield_closed t)) (slots_closed ss ts)

  each_closed : (ts : Forest) → any_open (shield_each true ts) ≡ false
  each_closed none = refl
  each_closed (part t ts) = or_from _ _ (shield_closed t) (each_closed ts)

-- ---- both, once all pairs stand

abbrev pub closed_node : Kind → Forest → Bool
closed_node (statement For) (part i cs) = not (open_in i)
closed_node k cs = true

abbrev mutual
  pub ready : Tree → Bool
  ready (leaf s x) = true
  ready (node k cs) = (quiet_node k cs && closed_node k cs) && readies cs
  ready (list ts) = readies ts

  pub readies : Forest → Bool
  readies none = true
  readies (part t ts) = ready t && readies ts

shield_empty : (shut : Bool) (t : Tree) → is_empty (shield shut t) ≡ is_empty t
shield_empty shut (leaf s x) = refl
shield_empty shut (list ts) = refl
shield_empty shut (node k cs) = at k _ _ (λ p. (and_parts shut _ p).1)
  where
    at : (k : Kind) (ds : Forest) (v : Bool) → (v ≡ true → is_in (node k ds) ≡ true) → is_empty (cond v (parens_of (node k ds)) (node k ds)) ≡ is_empty (node k cs)
    at (statement Empty) ds true f = absurd (false≢true (f refl))
    at (statement Empty) ds false f = refl
    at _ ds true f = refl
    at _ ds false f = refl

not_less : (a b : Bool) → (b ≡ true → a ≡ true) → not a ≡ true → not b ≡ true
not_less a false f h = refl
not_less false true f h = absurd (false≢true (f refl))
not_less true true f h = h

no_node_string : (k : Kind) (ds : Forest) (v : Bool) (us : Forest) → is_string_stmt (node (statement ExprStmt) (part (cond v (parens_of (node k ds)) (node k ds)) us)) ≡ true → false ≡ true
no_node_string k ds true us h = h
no_node_string k ds false us h = h

string_parts : (shut : Bool) (cs : Forest) → is_string_stmt (node (statement ExprStmt) (shields shut (positions (statement ExprStmt)) cs)) ≡ true → is_string_stmt (node (statement ExprStmt) cs) ≡ true
string_parts shut none h = h
string_parts shut (part (leaf StringLiteral x) none) h = refl
string_parts shut (part (leaf StringLiteral x) (part u us)) h = h
string_parts shut (part (leaf s x) none) h = h
string_parts shut (part (leaf s x) (part u us)) h = h
string_parts shut (part (list ts) us) h = h
string_parts shut (part (node k cs) us) h = absurd (false≢true (no_node_string k _ _ _ h))

string_wrap : (shut : Bool) (k : Kind) (cs : Forest) (v : Bool) → is_string_stmt (cond v (parens_of (node k (shields shut (positions k) cs))) (node k (shields shut (positions k) cs))) ≡ true → is_string_stmt (node k cs) ≡ true
string_wrap shut k cs true h = absurd (false≢true h)
string_wrap shut (statement ExprStmt) cs false h = string_parts shut cs h
string_wrap shut _ cs false h = absurd (false≢true h)

string_kept : (shut : Bool) (t : Tree) → is_string_stmt (shield shut t) ≡ true → is_string_stmt t ≡ true
string_kept shut (leaf s x) h = h
string_kept shut (list ts) h = h
string_kept shut (node k cs) h = string_wrap (shut && not (is_in (node k cs))) k cs (shut && is_in (node k (shields (shut && not (is_in (node k cs))) (positions k) cs))) h

quiet_one : (t u : Tree) (ts us : Forest) (v : Bool) → is_empty t ≡ v → is_empty u ≡ v → (is_string_stmt u ≡ true → is_string_stmt t ≡ true) → (quiet ts ≡ true → quiet us ≡ true) → quiet (part t ts) ≡ true → quiet (part u us) ≡ true
quiet_one t u ts us true e i f g h = ap (λ b. cond b (quiet us) (not (is_string_stmt u))) i ∙ g (ap (λ b. cond b (quiet ts) (not (is_string_stmt t))) (sym e) ∙ h)
quiet_one t u ts us false e i f g h = ap (λ b. cond b (quiet us) (not (is_string_stmt u))) i ∙ not_less (is_string_stmt t) (is_string_stmt u) f (ap (λ b. cond b (quiet ts) (not (is_string_stmt t))) (sym e) ∙ h)

quiet_shield : (shut : Bool) (ts : Forest) → quiet ts ≡ true → quiet (shield_each shut ts) ≡ true
quiet_shield shut none h = refl
quiet_shield shut (part t ts) h = quiet_one t (shield shut t) ts (shield_each shut ts) (is_empty t) refl (shield_empty shut t) (string_kept shut t) (quiet_shield shut ts) h

quiet_node_wrap : (x : Tree) (k : Kind) (ds : Forest) (v : Bool) (us : Forest) → quiet_second (part x (part (cond v (parens_of (node k ds)) (node k ds)) us)) ≡ true
quiet_node_wrap x k ds true us = refl
quiet_node_wrap x k ds false us = refl

quiet_parts : (p q : Position) (shut : Bool) (cs : Forest) → quiet_second cs ≡ true → quiet_second (shields shut (p ∷ q ∷ []) cs) ≡ true
quiet_parts p q shut none h = refl
quiet_parts (position o d g' b' a') q shut (part x none) h = refl
quiet_parts (position o d g' b' a') (position f c g b a) shut (part x (part (list ts) none)) h = quiet_shield (is_init c || (shut && not b)) ts h
quiet_parts (position o d g' b' a') (position f c g b a) shut (part x (part (list ts) (part u us))) h = refl
quiet_parts (position o d g' b' a') (position f c g b a) shut (part x (part (leaf s y) us)) h = refl
quiet_parts (position o d g' b' a') (position f c g b a) shut (part x (part (node k cs) us)) h = quiet_node_wrap (shield (is_init d || (shut && not b')) x) k _ _ _

quiet_kind : (k : Kind) (shut : Bool) (cs : Forest) → quiet_node k cs ≡ true → quiet_node k (shields shut (positions k) cs) ≡ true
quiet_kind (program Module) shut cs h = quiet_parts _ _ shut cs h
quiet_kind (program Script) shut cs h = quiet_parts _ _ shut cs h
quiet_kind (program FunctionBody) shut cs h = quiet_parts _ _ shut cs h
quiet_kind k shut cs h = refl

closed_kind : (k : Kind) (shut : Bool) (cs : Forest) → closed_node k (shields shut (positions k) cs) ≡ true
closed_kind (statement For) shut none = refl
closed_kind (statement For) shut (part i us) = ap not (shield_closed i)
closed_kind k shut cs = refl

ready_wrap : (t : Tree) (v : Bool) → ready t ≡ true → ready (cond v (parens_of t) t) ≡ true
ready_wrap t true h = and_from (ready t) true h refl
ready_wrap t false h = h

-- parts that no place has are left as they are: a tree that fits has none
abbrev mutual
  pub placed : Tree → Bool
  placed (leaf s x) = true
  placed (node k cs) = placeds (positions k) cs
  placed (list ts) = placed_all ts

  pub placeds : List Position → Forest → Bool
  placeds ss none = true
  placeds [] (part t ts) = false
  placeds (position f c g b a ∷ ss) (part t ts) = placed t && placeds ss ts

  pub placed_all : Forest → Bool
  placed_all none = true
  placed_all (part t ts) = placed t && placed_all ts

mutual
  pub shield_ready : (shut : Bool) (t : Tree) → placed t ≡ true → calm t ≡ true → ready (shield shut t) ≡ true
  shield_ready shut (leaf s x) p h = refl
  shield_ready shut (list ts) p h = each_ready shut ts p h
  shield_ready shut (node k cs) p h =
      let d : Bool = shut && not (is_in (node k cs)) in
      let q = and_parts (quiet_node k cs) (calms cs) h in
      ready_wrap (node k (shields d (positions k) cs)) _ (and_from _ _ (and_from _ _ (quiet_kind k d cs q.0) (closed_kind k d cs)) (slots_ready d (positions k) cs p q.1))

  slots_ready : (shut : Bool) (ss : List Position) (cs : Forest) → placeds ss cs ≡ true → calms cs ≡ true → readies (shields shut ss cs) ≡ true
  slots_ready shut [] none p h = refl
  slots_ready shut (s ∷ ss) none p h = refl
  slots_ready shut [] (part t ts) p h = absurd (false≢true p)
  slots_ready shut (position f c g b a ∷ ss) (part t ts) p h =
      let q = and_parts (calm t) (calms ts) h in
      let r = and_parts (placed t) (placeds ss ts) p in
      and_from _ _ (shield_ready (is_init c || (shut && not b)) t r.0 q.0) (slots_ready shut ss ts r.1 q.1)

  each_ready : (shut : Bool) (ts : Forest) → placed_all ts ≡ true → calms ts ≡ true → readies (shield_each shut ts) ≡ true
  each_ready shut none p h = refl
  each_ready shut (part t ts) p h =
      let q = and_parts (calm t) (calms ts) h in
      let r = and_parts (placed t) (placed_all ts) p in
      and_from _ _ (shield_ready shut t r.0 q.0) (each_ready shut ts r.1 q.1)

-- ---- once it is laid

of_list_open : (o : Form) (u : Tree) → open_in (of_list o u) ≡ true → open_in u ≡ true
of_list_open (Several s) (list ts) h = without_open ts h
  where
    dropped : (v : Bool) (t : Tree) (ts ws : Forest) → (any_open ws ≡ true → any_open ts ≡ true) → any_open (unless_empty v t ws) ≡ true → any_open (part t ts) ≡ true
    dropped true t ts ws f h = or_right (open_in t) _ (f h)
    dropped false t ts ws f h = ⊎_elim (λ p. or_left (open_in t) _ p) (λ p. or_right (open_in t) _ (f p)) (or_cases (open_in t) (any_open ws) h)

    without_open : (ts : Forest) → any_open (without_empty ts) ≡ true → any_open ts ≡ true
    without_open none h = h
    without_open (part t ts) h = dropped (is_empty t) t ts (without_empty ts) (without_open ts) h
of_list_open o u h = h

laid_node_open : (k : Kind) (ds : Forest) → open_in (laid_node k ds) ≡ true → open_in (node k ds) ≡ true
laid_node_open (expression BareArrow) (part a b) h = or_right (open_in a) _ h
laid_node_open (expression BareArrowBlock) (part a b) h = or_right (open_in a) _ h
laid_node_open (expression NewWithoutArguments) (part a none) h = ⊎_elim (λ p. or_left (open_in a) _ p) (λ p. absurd (false≢true p)) (or_cases (open_in a) _ h)
laid_node_open k ds h = h

mutual
  laid_open : (t : Tree) → open_in (laid_tree t) ≡ true → open_in t ≡ true
  laid_open (leaf s x) h = h
  laid_open (list ts) h = each_open ts h
  laid_open (node k cs) h =
      ⊎_elim (λ p. or_left (is_in_op k) _ p) (λ p. or_right (is_in_op k) _ (slots_open (positions k) cs p)) (or_cases (is_in_op k) (open_ins (positions k) (mades laid_node (positions k) cs)) (laid_node_open k (mades laid_node (positions k) cs) h))

  slots_open : (ss : List Position) (cs : Forest) → open_ins ss (mades laid_node ss cs) ≡ true → open_ins ss cs ≡ true
  slots_open [] cs h = absurd (false≢true h)
  slots_open (s ∷ ss) none h = h
  slots_open (position f c g b a ∷ ss) (part t ts) h =
      ⊎_elim (λ p. let q = and_parts (not b) (open_in (of_list f (laid_tree t))) p in or_left (not b && open_in t) _ (and_from _ _ q.0 (laid_open t (of_list_open f (laid_tree t) q.1))))
      (λ p. or_right (not b && open_in t) _ (slots_open ss ts p)) (or_cases (not b && open_in (of_list f (laid_tree t))) (open_ins ss (mades laid_node ss ts)) h)

  each_open : (ts : Forest) → any_open (each_made laid_node ts) ≡ true → any_open ts ≡ true
  each_open none h = h
  each_open (part t ts) h = ⊎_elim (λ p. or_left (open_in t) _ (laid_open t p)) (λ p. or_right (open_in t) _ (each_open ts p)) (or_cases (open_in (laid_tree t)) (any_open (each_made laid_node ts)) h)

laid_node_empty : (k : Kind) (ds cs : Forest) → is_empty (laid_node k ds) ≡ is_empty (node k cs)
laid_node_empty (expression BareArrow) (part a b) cs = refl
laid_node_empty (expression BareArrowBlock) (part a b) cs = refl
laid_node_empty (expression NewWithoutArguments) (part a none) cs = refl
laid_node_empty (statement Empty) ds cs = refl
laid_node_empty _ ds cs = refl

laid_empty : (t : Tree) → is_empty (laid_tree t) ≡ is_empty t
laid_empty (leaf s x) = refl
laid_empty (list ts) = refl
laid_empty (node k cs) = laid_node_empty k (mades laid_node (positions k) cs) cs

no_leaf : (k : Kind) (ds : Forest) (us : Forest) → is_string_stmt (node (statement ExprStmt) (part (laid_node k ds) us)) ≡ true → false ≡ true
no_leaf (expression BareArrow) (part a b) us h = h
no_leaf (expression BareArrowBlock) (part a b) us h = h
no_leaf (expression NewWithoutArguments) (part a none) us h = h
no_leaf k ds us h = h

laid_string_parts : (cs : Forest) → is_string_stmt (node (statement ExprStmt) (mades laid_node (positions (statement ExprStmt)) cs)) ≡ true → is_string_stmt (node (statement ExprStmt) cs) ≡ true
laid_string_parts none h = h
laid_string_parts (part (leaf StringLiteral x) none) h = refl
laid_string_parts (part (leaf StringLiteral x) (part u us)) h = h
laid_string_parts (part (leaf s x) none) h = h
laid_string_parts (part (leaf s x) (part u us)) h = h
laid_string_parts (part (list ts) us) h = h
laid_string_parts (part (node k cs) us) h = absurd (false≢true (no_leaf k (mades laid_node (positions k) cs) _ h))

laid_string_at : (k : Kind) (cs : Forest) → is_string_stmt (laid_node k (mades laid_node (positions k) cs)) ≡ true → is_string_stmt (node k cs) ≡ true
laid_string_at (expression BareArrow) none h = h
laid_string_at (expression BareArrow) (part a b) h = h
laid_string_at (expression BareArrowBlock) none h = h
laid_string_at (expression BareArrowBlock) (part a b) h = h
laid_string_at (expression NewWithoutArguments) none h = h
laid_string_at (expression NewWithoutArguments) (part a none) h = h
laid_string_at (expression NewWithoutArguments) (part a (part b bs)) h = h
laid_string_at (statement ExprStmt) cs h = laid_string_parts cs h
laid_string_at _ cs h = absurd (false≢true h)

laid_string : (t : Tree) → is_string_stmt (laid_tree t) ≡ true → is_string_stmt t ≡ true
laid_string (leaf s x) h = h
laid_string (list ts) h = h
laid_string (node k cs) h = laid_string_at k cs h

-- the first statement that is written
first_one : (t u : Tree) (ts ws : Forest) (v : Bool) → is_empty t ≡ v → is_empty u ≡ v → (is_string_stmt u ≡ true → is_string_stmt t ≡ true) → (quiet ts ≡ true → not (first_of_list is_string_stmt ws) ≡ true) → quiet (part t ts) ≡ true → not (first_of_list is_string_stmt (unless_empty (is_empty u) u ws)) ≡ true
first_one t u ts ws true e i f g h = ap (λ b. not (first_of_list is_string_stmt (unless_empty b u ws))) i ∙ g (ap (λ b. cond b (quiet ts) (not (is_string_stmt t))) (sym e) ∙ h)
first_one t u ts ws false e i f g h = ap (λ b. not (first_of_list is_string_stmt (unless_empty b u ws))) i ∙ not_less (is_string_stmt t) (is_string_stmt u) f (ap (λ b. cond b (quiet ts) (not (is_string_stmt t))) (sym e) ∙ h)

first_laid : (ts : Forest) → quiet ts ≡ true → not (first_of_list is_string_stmt (without_empty (each_made laid_node ts))) ≡ true
first_laid none h = refl
first_laid (part t ts) h = first_one t (laid_tree t) ts (without_empty (each_made laid_node ts)) (is_empty t) refl (laid_empty t) (laid_string t) (first_laid ts) h

abbrev no_first : Forest → Bool
no_first (part x (part (list ts) none)) = not (first_of_list is_string_stmt ts)
no_first cs = false

parts_first : (o : Form) (d : Nonterminal) (g' : List Text) (b' : Bool) (a' : List Context) (s : ListShape) (c : Nonterminal) (g : List Text) (b : Bool) (a : List Context) (cs : Forest)
    → fine_slots false (position o d g' b' a' ∷ position (Several s) c g b a ∷ []) cs ≡ true → quiet_second cs ≡ true → no_first (mades laid_node (position o d g' b' a' ∷ position (Several s) c g b a ∷ []) cs) ≡ true
parts_first o d g' b' a' s c g b a none f h = absurd (false≢true f)
parts_first o d g' b' a' s c g b a (part x none) f h = absurd (false≢true (and_parts (fine false d x) false (and_parts (home_shape false o d x) _ f).1).1)
parts_first o d g' b' a' s c g b a (part x (part (list ts) none)) f h = first_laid ts h
parts_first o d g' b' a' s c g b a (part x (part (list ts) (part u us))) f h =
    absurd (false≢true (and_parts (fine_each false c ts) false (and_parts (enough s ts && last_only ts) _ (and_parts (fine false d x) _ (and_parts (home_shape false o d x) _ f).1).1).1).1)
parts_first o d g' b' a' s c g b a (part x (part (leaf k y) us)) f h = absurd (false≢true (and_parts (fine false d x) false (and_parts (home_shape false o d x) _ f).1).1)
parts_first o d g' b' a' s c g b a (part x (part (node k cs) us)) f h = absurd (false≢true (and_parts (fine false d x) false (and_parts (home_shape false o d x) _ f).1).1)

rule_module : (cs : Forest) → no_first cs ≡ true → rule (program Module) cs ≡ true
rule_module (part x (part (list ts) none)) h = h
rule_module _ h = absurd (false≢true h)

rule_script : (cs : Forest) → no_first cs ≡ true → rule (program Script) cs ≡ true
rule_script (part x (part (list ts) none)) h = h
rule_script _ h = absurd (false≢true h)

rule_body : (cs : Forest) → no_first cs ≡ true → rule (program FunctionBody) cs ≡ true
rule_body (part x (part (list ts) none)) h = h
rule_body _ h = absurd (false≢true h)

rule_for : (cs : Forest) → fine_slots false (positions (statement For)) cs ≡ true → closed_node (statement For) cs ≡ true → rule (statement For) (mades laid_node (positions (statement For)) cs) ≡ true
rule_for none f h = absurd (false≢true f)
rule_for (part i us) f h = not_less (open_in i) (open_in (laid_tree i)) (laid_open i) h

rule_mended : (k : Kind) (cs : Forest) → fine_slots false (positions k) cs ≡ true → quiet_node k cs ≡ true → closed_node k cs ≡ true → (not (is_mended k) || rule k (mades laid_node (positions k) cs)) ≡ true
rule_mended (program Module) cs f q c = rule_module (mades laid_node (positions (program Module)) cs) (parts_first _ _ _ _ _ _ _ _ _ _ cs f q)
rule_mended (program Script) cs f q c = rule_script (mades laid_node (positions (program Script)) cs) (parts_first _ _ _ _ _ _ _ _ _ _ cs f q)
rule_mended (program FunctionBody) cs f q c = rule_body (mades laid_node (positions (program FunctionBody)) cs) (parts_first _ _ _ _ _ _ _ _ _ _ cs f q)
rule_mended (statement For) cs f q c = rule_for cs f c
rule_mended k cs f q c = refl

node_mended : (k : Kind) (ds : Forest) → (not (is_mended k) || rule k ds) ≡ true → mendeds ds ≡ true → mended (laid_node k ds) ≡ true
node_mended (expression BareArrow) (part a b) r h = let p = and_parts (mended a) (mendeds b) h in and_from _ _ (and_from (mended a) true p.0 refl) p.1
node_mended (expression BareArrowBlock) (part a b) r h = let p = and_parts (mended a) (mendeds b) h in and_from _ _ (and_from (mended a) true p.0 refl) p.1
node_mended (expression NewWithoutArguments) (part a none) r h = let p = and_parts (mended a) true h in and_from (mended a) _ p.0 refl
node_mended k ds r h = and_from _ _ r h

dropped_mended : (v : Bool) (t : Tree) (ws : Forest) → mended t ≡ true → mendeds ws ≡ true → mendeds (unless_empty v t ws) ≡ true
dropped_mended true t ws a w = w
dropped_mended false t ws a w = and_from _ _ a w

without_mended : (ts : Forest) → mendeds ts ≡ true → mendeds (without_empty ts) ≡ true
without_mended none h = refl
without_mended (part t ts) h = let p = and_parts (mended t) (mendeds ts) h in dropped_mended (is_empty t) t (without_empty ts) p.0 (without_mended ts p.1)

mutual
  pub laid_mended : (c : Nonterminal) (t : Tree) → fine false c t ≡ true → ready t ≡ true → mended (laid_tree t) ≡ true
  laid_mended c (leaf s x) f h = refl
  laid_mended c (list ts) f h = each_mended c ts f h
  laid_mended c (node k cs) f h =
      let p = and_parts (is_no_jsx k) (fine_slots false (positions k) cs) f in
      let q = and_parts (quiet_node k cs && closed_node k cs) (readies cs) h in
      let r = and_parts (quiet_node k cs) (closed_node k cs) q.0 in
      node_mended k (mades laid_node (positions k) cs) (rule_mended k cs p.1 r.0 r.1) (slots_mended (positions k) cs p.1 q.1)

  slots_mended : (ss : List Position) (cs : Forest) → fine_slots false ss cs ≡ true → readies cs ≡ true → mendeds (mades laid_node ss cs) ≡ true
  slots_mended [] none f h = refl
  slots_mended [] (part t ts) f h = absurd (false≢true f)
  slots_mended (s ∷ ss) none f h = refl
  slots_mended (position Single c g b a ∷ ss) (part t ts) f h =
      let x = and_parts (home false c t) (fine false c t && fine_slots false ss ts) f in
      let y = and_parts (fine false c t) (fine_slots false ss ts) x.1 in
      let q = and_parts (ready t) (readies ts) h in
      and_from _ _ (laid_mended c t y.0 q.0) (slots_mended ss ts y.1 q.1)
  slots_mended (position Maybe c g b a ∷ ss) (part (list us) ts) f h =
      let x = and_parts (at_most_one us) (fine_each false c us && fine_slots false ss ts) f in
      let y = and_parts (fine_each false c us) (fine_slots false ss ts) x.1 in
      let q = and_parts (readies us) (readies ts) h in
      and_from _ _ (each_mended c us y.0 q.0) (slots_mended ss ts y.1 q.1)
  slots_mended (position (Several s) c g b a ∷ ss) (part (list us) ts) f h =
      let x = and_parts (enough s us && last_only us) (fine_each false c us && fine_slots false ss ts) f in
      let y = and_parts (fine_each false c us) (fine_slots false ss ts) x.1 in
      let q = and_parts (readies us) (readies ts) h in
      and_from _ _ (without_mended (each_made laid_node us) (each_mended c us y.0 q.0)) (slots_mended ss ts y.1 q.1)
  slots_mended (position Maybe c g b a ∷ ss) (part (leaf s t) ts) f h = absurd (false≢true f)
  slots_mended (position Maybe c g b a ∷ ss) (part (node k cs) ts) f h = absurd (false≢true f)
  slots_mended (position (Several s) c g b a ∷ ss) (part (leaf s' t) ts) f h = absurd (false≢true f)
  slots_mended (position (Several s) c g b a ∷ ss) (part (node k cs) ts) f h = absurd (false≢true f)

  each_mended : (c : Nonterminal) (ts : Forest) → fine_each false c ts ≡ true → readies ts ≡ true → mendeds (each_made laid_node ts) ≡ true
  each_mended c none f h = refl
  each_mended c (part t ts) f h =
      let x = and_parts (home false c t) (fine false c t && fine_each false c ts) f in
      let y = and_parts (fine false c t) (fine_each false c ts) x.1 in
      let q = and_parts (ready t) (readies ts) h in
      and_from _ _ (laid_mended c t y.0 q.0) (each_mended c ts y.1 q.1)

mutual
  pub placed_of : (c : Nonterminal) (t : Tree) → fine false c t ≡ true → placed t ≡ true
  placed_of c (leaf s x) f = refl
  placed_of c (list ts) f = each_placed c ts f
  placed_of c (node k cs) f = slots_placed (positions k) cs (and_parts (is_no_jsx k) (fine_slots false (positions k) cs) f).1

  slots_placed : (ss : List Position) (cs : Forest) → fine_slots false ss cs ≡ true → placeds ss cs ≡ true
  slots_placed [] none f = refl
  slots_placed [] (part t ts) f = f
  slots_placed (s ∷ ss) none f = refl
  slots_placed (position o c g b a ∷ ss) (part t ts) f =
      let x = and_parts (home_shape false o c t) (fine false c t && fine_slots false ss ts) f in
      let y = and_parts (fine false c t) (fine_slots false ss ts) x.1 in
      and_from _ _ (placed_of c t y.0) (slots_placed ss ts y.1)

  each_placed : (c : Nonterminal) (ts : Forest) → fine_each false c ts ≡ true → placed_all ts ≡ true
  each_placed c none f = refl
  each_placed c (part t ts) f =
      let x = and_parts (home false c t) (fine false c t && fine_each false c ts) f in
      let y = and_parts (fine false c t) (fine_each false c ts) x.1 in
      and_from _ _ (placed_of c t y.0) (each_placed c ts y.1)
