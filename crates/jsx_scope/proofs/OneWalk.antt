-- One walk puts the pairs that the definition's three put.
use Rattle.std.proofs.Common.{◌≡◌, List, [], ◌∷◌, Bool, true, false, cond, refl, ap, sym, ◌∙◌}
use Rattle.std.specs.Prelude.{codes, not, ◌&&◌, ◌||◌}
use Rattle.jsx_base.specs.Token.{Text, StringLiteral, IdentifierName, same}
use Rattle.jsx_tree.specs.Kinds.{Kind, program, statement, function, expression, Module, Script, FunctionBody, Empty, ExprStmt, ForOf, ParenTarget, Binary, InOp, ExpressionKind, Tree, leaf, node, list, Forest, none, part}
use Rattle.jsx_tree.specs.Nonterminals.{Nonterminal, WholeProgram}
use Rattle.jsx_tree.specs.Normal.{is_empty, remade, remades}
use Rattle.jsx_tree.specs.Form.{Position, position, positions}
use Rattle.jsx_tree.specs.Parentheses.{parens_of, wants, dress, dresses, dress_each, no_directive, first_no_directive, behind_directives, held_async, special, is_in, is_init, if_in, shield, shields, shield_each, parenthesise}
use Rattle.jsx_scope.specs.OneWalk.{paired, below, opened, walk, walks, walk_each}

-- which parts an `in` stands open at
opened_is : (i b bare : Bool) → i || (bare && not b) ≡ opened i b bare
opened_is true b bare = refl
opened_is false true true = refl
opened_is false true false = refl
opened_is false false true = refl
opened_is false false false = refl

parens_shielded : (bare : Bool) (t : Tree) → shield bare (parens_of t) ≡ parens_of (shield false t)
parens_shielded true t = refl
parens_shielded false t = refl

-- `in` and the empty statement are told by the kind alone
in_kind : (k : Kind) (cs ds : Forest) → is_in (node k cs) ≡ is_in (node k ds)
in_kind (expression (Binary InOp)) cs ds = refl
in_kind k cs ds = refl

in_special : (k : Kind) (cs : Forest) → is_in (special k cs) ≡ is_in (node k cs)
in_special (program Module) cs = refl
in_special (program Script) cs = refl
in_special (program FunctionBody) cs = refl
in_special (statement ForOf) cs = refl
in_special k cs = refl

empty_kind : (k : Kind) (cs ds : Forest) → is_empty (node k cs) ≡ is_empty (node k ds)
empty_kind (statement Empty) cs ds = refl
empty_kind k cs ds = refl

empty_shield : (bare : Bool) (t : Tree) → is_empty (shield bare t) ≡ is_empty t
empty_shield bare (leaf s x) = refl
empty_shield bare (list ts) = refl
empty_shield true (node (expression (Binary InOp)) cs) = refl
empty_shield false (node (expression (Binary InOp)) cs) = refl
empty_shield true (node k cs) = empty_kind k (shields (true && not (is_in (node k cs))) (positions k) cs) cs
empty_shield false (node k cs) = empty_kind k (shields (false && not (is_in (node k cs))) (positions k) cs) cs

abbrev below_in : Bool → Kind → Forest → Forest
below_in bare k cs = shields (bare && not (is_in (node k cs))) (positions k) cs

-- a pair round a node, or none, is a node
is_no_string : (v : Bool) (k : Kind) (cs us : Forest) → no_directive (node (statement ExprStmt) (part (cond v (parens_of (node k cs)) (node k cs)) us)) ≡ node (statement ExprStmt) (part (cond v (parens_of (node k cs)) (node k cs)) us)
is_no_string true k cs us = refl
is_no_string false k cs us = refl

is_no_statement : (v : Bool) (k : ExpressionKind) (cs : Forest) → no_directive (cond v (parens_of (node (expression k) cs)) (node (expression k) cs)) ≡ cond v (parens_of (node (expression k) cs)) (node (expression k) cs)
is_no_statement true k cs = refl
is_no_statement false k cs = refl

no_directive_shield : (bare : Bool) (t : Tree) → no_directive (shield bare t) ≡ shield bare (no_directive t)
no_directive_shield true (node (statement ExprStmt) (part (leaf StringLiteral x) none)) = refl
no_directive_shield false (node (statement ExprStmt) (part (leaf StringLiteral x) none)) = refl
no_directive_shield true (node (statement ExprStmt) (part (node k cs) us)) = is_no_string (true && is_in (node k (below_in true k cs))) k (below_in true k cs) (shields true [] us)
no_directive_shield false (node (statement ExprStmt) (part (node k cs) us)) = is_no_string false k (below_in false k cs) (shields false [] us)
no_directive_shield true (node (expression k) cs) = is_no_statement (is_in (node (expression k) (below_in true (expression k) cs))) k (below_in true (expression k) cs)
no_directive_shield true t = refl
no_directive_shield false t = refl

first_at : (bare : Bool) (t : Tree) (ts : Forest) → shield_each bare (first_no_directive ts) ≡ first_no_directive (shield_each bare ts) → (v : Bool)
    → cond v (part (shield bare t) (first_no_directive (shield_each bare ts))) (part (no_directive (shield bare t)) (shield_each bare ts)) ≡ shield_each bare (cond v (part t (first_no_directive ts)) (part (no_directive t) ts))
first_at bare t ts h true = ap (part (shield bare t)) (sym h)
first_at bare t ts h false = ap (λ u. part u (shield_each bare ts)) (no_directive_shield bare t)

first_shield : (bare : Bool) (ts : Forest) → shield_each bare (first_no_directive ts) ≡ first_no_directive (shield_each bare ts)
first_shield bare none = refl
first_shield bare (part t ts) =
    sym (first_at bare t ts (first_shield bare ts) (is_empty t))
    ∙ ap (λ v. cond v (part (shield bare t) (first_no_directive (shield_each bare ts))) (part (no_directive (shield bare t)) (shield_each bare ts))) (sym (empty_shield bare t))

is_no_list : (x : Tree) (v : Bool) (k : Kind) (cs us : Forest) → behind_directives (part x (part (cond v (parens_of (node k cs)) (node k cs)) us)) ≡ part x (part (cond v (parens_of (node k cs)) (node k cs)) us)
is_no_list x true k cs us = refl
is_no_list x false k cs us = refl

behind_shield : (bare : Bool) (p q : Position) (cs : Forest) → shields bare (p ∷ q ∷ []) (behind_directives cs) ≡ behind_directives (shields bare (p ∷ q ∷ []) cs)
behind_shield bare p q none = refl
behind_shield bare (position l d g' b' a') q (part x none) = refl
behind_shield bare (position l d g' b' a') (position m c g b a) (part x (part (list ts) none)) = ap (λ us. part (shield (is_init d || (bare && not b')) x) (part (list us) none)) (first_shield (is_init c || (bare && not b)) ts)
behind_shield bare (position l d g' b' a') (position m c g b a) (part x (part (list ts) (part y ys))) = refl
behind_shield bare (position l d g' b' a') (position m c g b a) (part x (part (leaf s u) us)) = refl
behind_shield bare (position l d g' b' a') (position m c g b a) (part x (part (node k ds) us)) =
    sym (is_no_list (shield (is_init d || (bare && not b')) x) ((is_init c || (bare && not b)) && is_in (node k (below_in (is_init c || (bare && not b)) k ds))) k (below_in (is_init c || (bare && not b)) k ds) (shields bare [] us))

async_shield : (bare v : Bool) (x : Text) → shield bare (cond v (node (function ParenTarget) (part (leaf IdentifierName x) none)) (leaf IdentifierName x)) ≡ cond v (node (function ParenTarget) (part (leaf IdentifierName x) none)) (leaf IdentifierName x)
async_shield true true x = refl
async_shield false true x = refl
async_shield bare false x = refl

is_no_name : (v : Bool) (k : Kind) (cs us : Forest) → held_async (part (cond v (parens_of (node k cs)) (node k cs)) us) ≡ part (cond v (parens_of (node k cs)) (node k cs)) us
is_no_name true k cs us = refl
is_no_name false k cs us = refl

held_shield : (bare : Bool) (p : Position) (ss : List Position) (cs : Forest) → shields bare (p ∷ ss) (held_async cs) ≡ held_async (shields bare (p ∷ ss) cs)
held_shield bare p ss none = refl
held_shield bare (position l c g b a) ss (part (leaf IdentifierName x) cs) = ap (λ u. part u (shields bare ss cs)) (async_shield (is_init c || (bare && not b)) (same x (codes "async")) x)
held_shield bare (position l c g b a) ss (part (node k ds) cs) =
    sym (is_no_name ((is_init c || (bare && not b)) && is_in (node k (below_in (is_init c || (bare && not b)) k ds))) k (below_in (is_init c || (bare && not b)) k ds) (shields bare ss cs))
held_shield bare (position l c g b a) ss (part t cs) = refl

-- no pair of the second pass is one that the third asks
unpaired : (bare : Bool) (t : Tree) → cond (bare && false) (parens_of t) t ≡ t
unpaired true t = refl
unpaired false t = refl

shield_special : (bare : Bool) (k : Kind) (cs : Forest) → shield bare (special k cs) ≡ if_in bare (special k (shields (bare && not (is_in (node k cs))) (positions k) cs))
shield_special bare (program Module) cs = ap (if_in bare) (ap (node (program Module)) (behind_shield (bare && true) _ _ cs))
shield_special bare (program Script) cs = ap (if_in bare) (ap (node (program Script)) (behind_shield (bare && true) _ _ cs))
shield_special bare (program FunctionBody) cs = ap (if_in bare) (ap (node (program FunctionBody)) (behind_shield (bare && true) _ _ cs))
shield_special bare (statement ForOf) cs = ap (if_in bare) (ap (node (statement ForOf)) (held_shield (bare && true) _ _ cs))
shield_special bare k cs = refl

remade_of : Kind → Forest → Tree
remade_of k cs = special k (remades special (dresses (positions k) cs))

leaf_one : (s : _) (x : Text) (w bare : Bool) → shield bare (remade special (cond w (parens_of (leaf s x)) (leaf s x))) ≡ paired (w || (bare && false)) (leaf s x)
leaf_one s x true true = refl
leaf_one s x true false = refl
leaf_one s x false true = refl
leaf_one s x false false = refl

-- a pair of the third pass round a node whose parts were walked
in_one : (bare i : Bool) (k : Kind) (cs : Forest) (ds : Bool → Forest) → is_in (node k cs) ≡ i
    → if_in bare (special k (ds (bare && not i))) ≡ paired (bare && i) (special k (ds (below (bare && i) bare)))
in_one true true k cs ds e = ap (λ v. cond v (parens_of (special k (ds false))) (special k (ds false))) (in_special k (ds false) ∙ in_kind k (ds false) cs ∙ e)
in_one true false k cs ds e = ap (λ v. cond v (parens_of (special k (ds true))) (special k (ds true))) (in_special k (ds true) ∙ in_kind k (ds true) cs ∙ e)
in_one false i k cs ds e = refl

node_one : (bare w : Bool) (k : Kind) (cs : Forest) → ((b : Bool) → shields b (positions k) (remades special (dresses (positions k) cs)) ≡ walks b (positions k) cs)
    → shield bare (remade special (cond w (parens_of (node k (dresses (positions k) cs))) (node k (dresses (positions k) cs)))) ≡ paired (w || (bare && is_in (node k cs))) (special k (walks (below (w || (bare && is_in (node k cs))) bare) (positions k) cs))
node_one bare true k cs h =
    parens_shielded bare (special k (remades special (dresses (positions k) cs)))
    ∙ ap parens_of (shield_special false k (remades special (dresses (positions k) cs)) ∙ ap (special k) (h false))
node_one bare false k cs h =
    shield_special bare k (remades special (dresses (positions k) cs))
    ∙ ap (λ i. if_in bare (special k (shields (bare && not i) (positions k) (remades special (dresses (positions k) cs))))) (in_kind k (remades special (dresses (positions k) cs)) cs)
    ∙ ap (λ ds. if_in bare (special k ds)) (h (bare && not (is_in (node k cs))))
    ∙ in_one bare (is_in (node k cs)) k cs (λ b. walks b (positions k) cs) refl

mutual
  pub one : (c : Nonterminal) (g : List Text) (bare : Bool) (t : Tree) → shield bare (remade special (dress c g t)) ≡ walk c g bare t
  one c g bare (leaf s x) = leaf_one s x (wants c g (leaf s x)) bare
  one c g bare (node k cs) = node_one bare (wants c g (node k (dresses (positions k) cs))) k cs (λ b. ones b (positions k) cs)
  one c g bare (list ts) = ap list (one_each c bare ts)

  ones : (bare : Bool) (ss : List Position) (cs : Forest) → shields bare ss (remades special (dresses ss cs)) ≡ walks bare ss cs
  ones bare [] none = refl
  ones bare (s ∷ ss) none = refl
  ones bare [] (part t ts) = refl
  ones bare (position f c g b a ∷ ss) (part t ts) =
      ap (λ v. part (shield v (remade special (dress c g t))) (shields bare ss (remades special (dresses ss ts)))) (opened_is (is_init c) b bare)
      ∙ ap (λ u. part u (shields bare ss (remades special (dresses ss ts)))) (one c g (opened (is_init c) b bare) t)
      ∙ ap (part (walk c g (opened (is_init c) b bare) t)) (ones bare ss ts)

  one_each : (c : Nonterminal) (bare : Bool) (ts : Forest) → shield_each bare (remades special (dress_each c ts)) ≡ walk_each c bare ts
  one_each c bare none = refl
  one_each c bare (part t ts) = ap (λ u. part u (shield_each bare (remades special (dress_each c ts)))) (one c [] bare t) ∙ ap (part (walk c [] bare t)) (one_each c bare ts)

pub one_walk : (t : Tree) → parenthesise t ≡ walk WholeProgram [] false t
one_walk t = one WholeProgram [] false t
