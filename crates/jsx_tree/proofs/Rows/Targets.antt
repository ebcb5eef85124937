-- A target in parentheses is an expression in parentheses before it is assigned to: the same signs, the same rules.
use Rattle.std.proofs.Common.{◌≡◌, ℕ, Bool, true, false, refl, sym, ◌∙◌, ap, subst, [], ◌∷◌}
use Rattle.std.specs.Prelude.{codes, nat_le, ◌&&◌, ◌||◌}
use Rattle.jsx_base.specs.Token.{Text, IdentifierName, among}
use Rattle.jsx_tree.specs.Signs.{Begin}
use Rattle.jsx_tree.specs.Kinds.{Kind, function, expression, Assigns, Member, Index, SuperMember, SuperIndex, ParenTarget, Parenthesized, Tree, leaf, node, list, Forest, none, part}
use Rattle.jsx_tree.specs.Nonterminals.{Nonterminal, Expr, SimpleTarget, Pat, ForHead, homes, in_homes, leaf_in, target, primary, is_bound, is_ident, is_value_word}
use Rattle.jsx_tree.specs.Grammar.{production}
use Rattle.jsx_tree.specs.Form.{is, is_leaf, admits, fits_below}
use Rattle.jsx_tree.specs.Spelling.{said, saids, walk, joined, spelled}
use Rattle.jsx_tree.specs.Reading.{Place, scan}
use Rattle.jsx_tree.specs.StaticRules.{Surroundings, legal, has_plain_params}
use Rattle.jsx_tree.specs.Walk.{IsRead}
use Rattle.jsx_tree.specs.Grows.{as_target, is_aim}
use Rattle.jsx_tree.proofs.Tokens.{and_left, and_right, and_both}

-- the expression that a target is
abbrev pub as_value : Tree → Tree
as_value (leaf s t) = leaf s t
as_value (node (function ParenTarget) none) = node (expression Parenthesized) none
as_value (node (function ParenTarget) (part t ts)) = node (expression Parenthesized) (part (as_value t) ts)
as_value (node k cs) = node k cs
as_value (list ts) = list ts

-- ---- signs

pub said_value : (t : Tree) → said (as_value t) ≡ said t
said_value (leaf s t) = refl
said_value (node (function ParenTarget) none) = refl
said_value (node (function ParenTarget) (part t ts)) = ap (λ x. (Begin ∷ walk (production (function ParenTarget)) (x ∷ saids ts)) ∷ []) (said_value t)
said_value (node _ cs) = refl
said_value (list ts) = refl

pub said_target : (t : Tree) → said (as_target t) ≡ said t
said_target (leaf s t) = refl
said_target (node (expression Parenthesized) none) = refl
said_target (node (expression Parenthesized) (part t ts)) = ap (λ x. (Begin ∷ walk (production (expression Parenthesized)) (x ∷ saids ts)) ∷ []) (said_target t)
said_target (node _ cs) = refl
said_target (list ts) = refl

pub spelled_value : (t : Tree) → spelled (as_value t) ≡ spelled t
spelled_value t = ap joined (said_value t)

pub spelled_target : (t : Tree) → spelled (as_target t) ≡ spelled t
spelled_target t = ap joined (said_target t)

-- ---- rules

pub plain_value : (t : Tree) → has_plain_params (part (as_value t) none) ≡ has_plain_params (part t none)
plain_value (leaf s t) = refl
plain_value (node (function ParenTarget) none) = refl
plain_value (node (function ParenTarget) (part t ts)) = refl
plain_value (node _ cs) = refl
plain_value (list ts) = refl

pub plain_target : (t : Tree) → has_plain_params (part (as_target t) none) ≡ has_plain_params (part t none)
plain_target (leaf s t) = refl
plain_target (node (expression Parenthesized) none) = refl
plain_target (node (expression Parenthesized) (part t ts)) = refl
plain_target (node _ cs) = refl
plain_target (list ts) = refl

-- ---- what may be assigned to

abbrev pub is_member : Kind → Bool
is_member (expression Member) = true
is_member (expression Index) = true
is_member (expression SuperMember) = true
is_member (expression SuperIndex) = true
is_member k = false

-- an expression that may be, in parentheses or not
pub data Aim : Tree → Type 0 where
  named : {t : Text} → is_bound t ≡ true → Aim (leaf IdentifierName t)
  member : {k : Kind} {ts : Forest} → is_member k ≡ true → Aim (node k ts)
  paired : {t : Tree} → Aim t → Aim (node (expression Parenthesized) (part t none))

-- and a target
pub data Target : Tree → Type 0 where
  name_target : {t : Text} → is_bound t ≡ true → Target (leaf IdentifierName t)
  member_target : {k : Kind} {ts : Forest} → is_member k ≡ true → Target (node k ts)
  pair_target : {t : Tree} → Target t → Target (node (function ParenTarget) (part t none))

member_value : (k : Kind) (ts : Forest) → is_member k ≡ true → as_value (node k ts) ≡ node k ts
member_value (expression Member) ts h = refl
member_value (expression Index) ts h = refl
member_value (expression SuperMember) ts h = refl
member_value (expression SuperIndex) ts h = refl
member_value _ ts h = cc

member_same : (k : Kind) (ts : Forest) → is_member k ≡ true → as_target (node k ts) ≡ node k ts
member_same (expression Member) ts h = refl
member_same (expression Index) ts h = refl
member_same (expression SuperMember) ts h = refl
member_same (expression SuperIndex) ts h = refl
member_same _ ts h = cc

member_homes : (k : Kind) → is_member k ≡ true → homes k ≡ target
member_homes (expression Member) h = refl
member_homes (expression Index) h = refl
member_homes (expression SuperMember) h = refl
member_homes (expression SuperIndex) h = refl
member_homes _ h = cc

-- each is the other
pub value_aims : {t : Tree} → Target t → Aim (as_value t)
value_aims (name_target b) = named b
value_aims (member_target {k} {ts} m) = subst Aim (sym (member_value k ts m)) (member m)
value_aims (pair_target p) = paired (value_aims p)

pub target_aims : {t : Tree} → Aim t → Target (as_target t)
target_aims (named b) = name_target b
target_aims (member {k} {ts} m) = subst Target (sym (member_same k ts m)) (member_target m)
target_aims (paired p) = pair_target (target_aims p)

pub target_back : {t : Tree} → Target t → as_target (as_value t) ≡ t
target_back (name_target b) = refl
target_back (member_target {k} {ts} m) = ap as_target (member_value k ts m) ∙ member_same k ts m
target_back (pair_target p) = ap (λ u. node (function ParenTarget) (part u none)) (target_back p)

-- no target in parentheses is an expression
pub calm_value : {t : Tree} → Target t → is_aim (as_value t) ≡ false
calm_value (name_target b) = refl
calm_value (member_target {k} {ts} m) = subst (λ u. is_aim u ≡ false) (sym (member_value k ts m)) (no_aim k ts m)
  where
    no_aim : (k : Kind) (ts : Forest) → is_member k ≡ true → is_aim (node k ts) ≡ false
    no_aim (expression Member) ts h = refl
    no_aim (expression Index) ts h = refl
    no_aim (expression SuperMember) ts h = refl
    no_aim (expression SuperIndex) ts h = refl
    no_aim _ ts h = cc
calm_value (pair_target p) = refl

-- ---- where they stand

-- a level of expressions at which all of these are at home
pub record Level (n : ℕ) : Type 0 where
  pub low : nat_le n 18 ≡ true
  pub members : in_homes (Expr n) target ≡ true
  pub pairs : in_homes (Expr n) primary ≡ true

pub level_0 : Level 0
level_0 = record { low = refl; members = refl; pairs = refl }

pub level_17 : Level 17
level_17 = record { low = refl; members = refl; pairs = refl }

-- a place of targets
pub record Left (c : Nonterminal) : Type 0 where
  pub word : (t : Text) → is_bound t ≡ true → leaf_in c IdentifierName t ≡ true
  pub members : in_homes c target ≡ true
  pub pairs : in_homes c (homes (function ParenTarget)) ≡ true
  pub node' : (k : Kind) (ts : Forest) → in_homes c (homes k) ≡ true → admits c (node k ts) ≡ true

pub left_simple : Left SimpleTarget
left_simple = record { word = λ t h. h; members = refl; pairs = refl; node' = λ k ts h. h }

pub left_pattern : Left (Pat Assigns)
left_pattern = record { word = λ t h. h; members = refl; pairs = refl; node' = λ k ts h. h }

pub left_head : Left ForHead
left_head = record { word = λ t h. h; members = refl; pairs = refl; node' = λ k ts h. h }

bound_value : (t : Text) → is_bound t ≡ true → is_value_word t ≡ true
bound_value t h = ap (λ b. b || among t (codes "this" ∷ codes "null" ∷ codes "true" ∷ codes "false" ∷ [])) (and_left (is_ident t) _ h)

-- what stands in the parentheses has the form that it had
pub value_is : {n : ℕ} (d : Nonterminal) {t : Tree} → Level n → Target t → is d t ≡ true → is (Expr n) (as_value t) ≡ true
value_is {n} d l (name_target {t} b) h = and_both _ _ (and_both _ _ l.low (bound_value t b)) (and_right (leaf_in d IdentifierName t) (is_leaf IdentifierName t) h)
value_is {n} d l (member_target {k} {ts} m) h = subst (λ u. is (Expr n) u ≡ true) (sym (member_value k ts m)) (and_both _ _ (subst (λ hs. in_homes (Expr n) hs ≡ true) (sym (member_homes k m)) l.members) (and_right (admits d (node k ts)) (fits_below d (node k ts)) h))
value_is {n} d l (pair_target {t} p) h =
    let f : (admits SimpleTarget t && (fits_below SimpleTarget t && true)) ≡ true = and_right (admits d (node (function ParenTarget) (part t none))) _ h in
    let i : is (Expr 0) (as_value t) ≡ true = value_is SimpleTarget level_0 p (and_both _ _ (and_left (admits SimpleTarget t) _ f) (and_left (fits_below SimpleTarget t) true (and_right (admits SimpleTarget t) _ f))) in
    and_both _ _ l.pairs (and_both _ _ (and_left (admits (Expr 0) (as_value t)) _ i) (and_both _ _ (and_right (admits (Expr 0) (as_value t)) _ i) refl))

pub target_is : {c : Nonterminal} (d : Nonterminal) {t : Tree} → Left c → Aim t → is d t ≡ true → is c (as_target t) ≡ true
target_is {c} d l (named {t} b) h = and_both _ _ (l.word t b) (and_right (leaf_in d IdentifierName t) (is_leaf IdentifierName t) h)
target_is {c} d l (member {k} {ts} m) h = subst (λ u. is c u ≡ true) (sym (member_same k ts m)) (and_both _ _ (l.node' k ts (subst (λ hs. in_homes c hs ≡ true) (sym (member_homes k m)) l.members)) (and_right (admits d (node k ts)) (fits_below d (node k ts)) h))
target_is {c} d l (paired {t} p) h =
    let f : (admits (Expr 0) t && (fits_below (Expr 0) t && true)) ≡ true = and_right (admits d (node (expression Parenthesized) (part t none))) _ h in
    let i : is SimpleTarget (as_target t) ≡ true = target_is (Expr 0) left_simple p (and_both _ _ (and_left (admits (Expr 0) t) _ f) (and_left (fits_below (Expr 0) t) true (and_right (admits (Expr 0) t) _ f))) in
    and_both _ _ (l.node' (function ParenTarget) (part (as_target t) none) l.pairs) (and_both _ _ (and_left (admits SimpleTarget (as_target t)) _ i) (and_both _ _ (and_right (admits SimpleTarget (as_target t)) _ i) refl))

pub value_legal : (v : Surroundings) {t : Tree} → Target t → legal v t ≡ true → legal v (as_value t) ≡ true
value_legal v (name_target b) h = refl
value_legal v (member_target {k} {ts} m) h = subst (λ u. legal v u ≡ true) (sym (member_value k ts m)) h
value_legal v (pair_target {t} p) h =
    let l : (has_plain_params (part t none) && (true && (legal v t && true))) ≡ true = h in
    and_both _ _ (plain_value t ∙ and_left (has_plain_params (part t none)) _ l) (and_both true _ refl (and_both _ _ (value_legal v p (and_left (legal v t) true (and_right true (legal v t && true) (and_right (has_plain_params (part t none)) _ l)))) refl))

pub target_legal : (v : Surroundings) {t : Tree} → Aim t → legal v t ≡ true → legal v (as_target t) ≡ true
target_legal v (named b) h = refl
target_legal v (member {k} {ts} m) h = subst (λ u. legal v u ≡ true) (sym (member_same k ts m)) h
target_legal v (paired {t} p) h =
    let l : (has_plain_params (part t none) && (true && (legal v t && true))) ≡ true = h in
    and_both _ _ (plain_target t ∙ and_left (has_plain_params (part t none)) _ l) (and_both true _ refl (and_both _ _ (target_legal v p (and_left (legal v t) true (and_right true (legal v t && true) (and_right (has_plain_params (part t none)) _ l)))) refl))

-- a target reads as the expression that it is, and an expression that may be assigned to as the target
pub value_read : {v : Surroundings} {n : ℕ} {d : Nonterminal} {x y : Place} {t : Tree} → Level n → Target t → IsRead v false d x t y → IsRead v false (Expr n) x (as_value t) y
value_read {v} {d = d} {x = x} {t = t} l p r = record { is = value_is d l p r.is; is_legal = value_legal v p r.is_legal; scans = ap (scan x) (spelled_value t) ∙ r.scans; found = r.found }

pub target_read : {v : Surroundings} {c d : Nonterminal} {x y : Place} {t : Tree} → Left c → Aim t → IsRead v false d x t y → IsRead v false c x (as_target t) y
target_read {v} {d = d} {x = x} {t = t} l p r = record { is = target_is d l p r.is; is_legal = target_legal v p r.is_legal; scans = ap (scan x) (spelled_target t) ∙ r.scans; found = r.found }
