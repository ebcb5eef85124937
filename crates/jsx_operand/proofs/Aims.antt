-- What may be assigned to, in the language so far: an expression, and the target that it is.
use Rattle.std.proofs.Common.{◌≡◌, ℕ, Bool, true, false, not, cond, refl, sym, ◌∙◌, ap, subst}
use Rattle.std.specs.Prelude.{◌&&◌, ◌||◌}
use Rattle.jsx_base.specs.Token.{Text, TokenKind, IdentifierName}
use Rattle.jsx_tree.specs.Kinds.{Assigns, ArrayPat, ObjectPat, Member, Index, SuperMember, SuperIndex, ParenTarget, Parenthesized, Kind, function, expression, Tree, leaf, node, list, Forest, none, part}
use Rattle.jsx_tree.specs.Nonterminals.{Nonterminal, Expr, SimpleTarget, Pat, homes, in_homes, leaf_in, is_bound, is_value_word}
use Rattle.jsx_tree.specs.Form.{is, is_leaf, admits, fits_below}
use Rattle.jsx_tree.specs.Reading.{Place}
use Rattle.jsx_tree.specs.StaticRules.{Surroundings}
use Rattle.jsx_tree.specs.Grows.{takes_target, as_target, seen, is_aim}
use Rattle.jsx_tree.proofs.Tokens.{and_left, and_right, and_both}
use Rattle.jsx_tree.proofs.Apart.{clash}
use Rattle.jsx_tree.proofs.Rows.Firsts.{kind_home}
use Rattle.jsx_tree.proofs.Rows.Stopping.{is_not, or_cases}
use Rattle.jsx_tree.proofs.Rows.Targets.{as_value, is_member, Aim, named, member, paired, Target, name_target, member_target, pair_target, Level, Left, value_read, target_read}
use Rattle.jsx_token.specs.Stage.{has_kind, leaf_at, in_stage}
use Rattle.jsx_token.proofs.Levels.{is_left}
use Rattle.jsx_operand.specs.SoFar.{Staged}
use Rattle.jsx_operand.specs.Climbing.{is_target}
use Rattle.jsx_token.proofs.Listed.{Listed, of_each}
use Rattle.jsx_operand.proofs.Homes.{Taken, taken, Value, literal, made, is_bracket, in_brackets}
use Rattle.jsx_operand.proofs.Standing.{standing}

-- ---- what stands at the left, as it is seen there

abbrev pub is_pair : Tree → Bool
is_pair (node (expression Parenthesized) ts) = true
is_pair t = false

-- but for parentheses it is the same
pub target_plain : (t : Tree) → is_pair t ≡ false → as_target t ≡ t
target_plain (leaf k t) h = refl
target_plain (node (expression Parenthesized) ts) h = cc
target_plain (node _ ts) h = refl
target_plain (list ts) h = refl

seen_by : (b : Bool) (t : Tree) → is_pair t ≡ false → cond b (as_target t) t ≡ t
seen_by true t h = target_plain t h
seen_by false t h = refl

pub seen_plain : (k : Kind) (t : Tree) → is_pair t ≡ false → seen k t ≡ t
seen_plain k t h = seen_by (takes_target k) t h

-- no value is a target in parentheses
calm_kind : (k : Kind) (ts : Forest) → Listed k → (b : Bool) → is_aim (node k ts) ≡ b → b ≡ false
calm_kind k ts m false e = refl
calm_kind (function ParenTarget) ts m true e = let bad = m.is in cc
calm_kind _ ts m true e = cc

pub calm_of : {t : Tree} → Value t → is_aim t ≡ false
calm_of (literal l w) = refl
calm_of (made {k} {ts} m) = calm_kind k ts m (is_aim (node k ts)) refl

-- ---- as the test says

pub aim_of : (t : Tree) → is_target t ≡ true → Aim t
aim_of (leaf IdentifierName t) h = named h
aim_of (leaf _ t) h = cc
aim_of (node (expression Parenthesized) (part t none)) h = paired (aim_of t h)
aim_of (node (expression Member) ts) h = member refl
aim_of (node (expression Index) ts) h = member refl
aim_of (node (expression SuperMember) ts) h = member refl
aim_of (node (expression SuperIndex) ts) h = member refl
aim_of (node _ ts) h = cc
aim_of (list ts) h = cc

member_is : (k : Kind) (ts : Forest) → is_member k ≡ true → is_target (node k ts) ≡ true
member_is (expression Member) ts h = refl
member_is (expression Index) ts h = refl
member_is (expression SuperMember) ts h = refl
member_is (expression SuperIndex) ts h = refl
member_is _ ts h = cc

pub aim_is : {t : Tree} → Aim t → is_target t ≡ true
aim_is (named b) = b
aim_is (member {k} {ts} m) = member_is k ts m
aim_is (paired p) = aim_is p

-- a member is the same either way
member_value : (k : Kind) (ts : Forest) → is_member k ≡ true → as_value (node k ts) ≡ node k ts
member_value (expression Member) ts h = refl
member_value (expression Index) ts h = refl
member_value (expression SuperMember) ts h = refl
member_value (expression SuperIndex) ts h = refl
member_value _ ts h = cc

member_same : (k : Kind) (ts : Forest) → is_member k ≡ true → as_target (node k ts) ≡ node k ts
member_same (expression Member) ts h = refl
member_same (expression Index) ts h = refl
member_same (expression SuperMember) ts h = refl
member_same (expression SuperIndex) ts h = refl
member_same _ ts h = cc

-- ---- in the stage

name_at : (c : Nonterminal) (t : Text) → is_left c ≡ true → leaf_at c IdentifierName t ≡ true
name_at SimpleTarget t h = refl
name_at (Pat Assigns) t h = refl
name_at _ t h = cc

target_staged : (c d : Nonterminal) {t : Tree} → is_left c ≡ true → Aim t → in_stage d t ≡ true → in_stage c (as_target t) ≡ true
target_staged c d l (named {t} b) s = name_at c t l
target_staged c d l (member {k} {ts} m) s = subst (λ u. in_stage c u ≡ true) (sym (member_same k ts m)) s
target_staged c d l (paired {t} p) s =
    let inner : (in_stage (Expr 0) t && true) ≡ true = s in
    and_both true _ refl (and_both _ _ (target_staged SimpleTarget (Expr 0) refl p (and_left (in_stage (Expr 0) t) true inner)) refl)

value_staged : (d : Nonterminal) {t : Tree} (n : ℕ) → ((t : Text) → is_bound t ≡ true → is_value_word t ≡ true) → Target t → in_stage d t ≡ true → in_stage (Expr n) (as_value t) ≡ true
value_staged d n w (name_target {t} b) s = w t b
value_staged d n w (member_target {k} {ts} m) s = subst (λ u. in_stage (Expr n) u ≡ true) (sym (member_value k ts m)) s
value_staged d n w (pair_target {t} p) s =
    let inner : (in_stage SimpleTarget t && true) ≡ true = s in
    and_both true _ refl (and_both _ _ (value_staged SimpleTarget 0 w p (and_left (in_stage SimpleTarget t) true inner)) refl)

-- ---- read

pub staged_target : {v : Surroundings} {c d : Nonterminal} {x y : Place} {t : Tree} → Left c → is_left c ≡ true → Aim t → Staged v false d x t y → Staged v false c x (as_target t) y
staged_target {c = c} {d = d} l h p r = record { reads = target_read l p r.reads; staged = target_staged c d h p r.staged }

pub staged_value : {v : Surroundings} {n : ℕ} {d : Nonterminal} {x y : Place} {t : Tree} → Level n → ((t : Text) → is_bound t ≡ true → is_value_word t ≡ true) → Target t → Staged v false d x t y → Staged v false (Expr n) x (as_value t) y
staged_value {n = n} {d = d} l w p r = record { reads = value_read l p r.reads; staged = value_staged d n w p r.staged }

-- ---- what stands at a place of targets

abbrev is_pair_target : Kind → Bool
is_pair_target (function ParenTarget) = true
is_pair_target k = false

leaf_target : (c : Nonterminal) → is_left c ≡ true → (k : TokenKind) (t : Text) → leaf_in c k t ≡ true → leaf_at c k t ≡ true → Target (leaf k t)
leaf_target SimpleTarget l IdentifierName t i s = name_target i
leaf_target SimpleTarget l _ t i s = cc
leaf_target (Pat Assigns) l IdentifierName t i s = name_target i
leaf_target (Pat Assigns) l _ t i s = cc
leaf_target _ l k t i s = cc

target_kind : (c : Nonterminal) → is_left c ≡ true → (k : Kind) → Taken k → in_homes c (homes k) ≡ true → (is_bracket k || (is_member k || is_pair_target k)) ≡ true
target_kind SimpleTarget l k t h = standing SimpleTarget (λ j. is_bracket j || (is_member j || is_pair_target j)) refl k t h
target_kind (Pat Assigns) l k t h = standing (Pat Assigns) (λ j. is_bracket j || (is_member j || is_pair_target j)) refl k t h
target_kind _ l k t h = cc

no_pair : (c : Nonterminal) (t u : Tree) (us : Forest) → is c (node (function ParenTarget) (part t (part u us))) ≡ true → ⊥
no_pair c t u us h =
    let f : (admits SimpleTarget t && (fits_below SimpleTarget t && false)) ≡ true = and_right (admits c (node (function ParenTarget) (part t (part u us)))) _ h in
    let bad : false ≡ true = and_right (fits_below SimpleTarget t) false (and_right (admits SimpleTarget t) _ f) in cc

-- a kind that stands there and is neither a pattern in brackets nor a pair of parentheses is that of a member
member_there : (c : Nonterminal) → is_left c ≡ true → (k : Kind) (ts : Forest) → is c (node k ts) ≡ true → in_stage c (node k ts) ≡ true → is_bracket k ≡ false → is_pair_target k ≡ false → Target (node k ts)
member_there c l k ts i s b e =
    or_cases (is_bracket k) (is_member k || is_pair_target k) (target_kind c l k (taken k (and_left (has_kind k) _ s)) (kind_home c k ts (and_left (admits c (node k ts)) (fits_below c (node k ts)) i))) (λ h. absurd (clash (is_bracket k) h b))
    (λ o. or_cases (is_member k) (is_pair_target k) o (λ m. member_target m) (λ p. absurd (clash (is_pair_target k) p e)))

none_there : (c : Nonterminal) → is_left c ≡ true → (k : Kind) → is c (node k none) ≡ true → in_stage c (node k none) ≡ true → is_bracket k ≡ false → (b : Bool) → is_pair_target k ≡ b → Target (node k none)
none_there c l k i s n false e = member_there c l k none i s n e
none_there c l (function ParenTarget) i s n true e = let bad : false ≡ true = and_right (admits c (node (function ParenTarget) none)) false i in cc
none_there c l _ i s n true e = cc

one_there : (c : Nonterminal) → is_left c ≡ true → (k : Kind) (t : Tree) → is c (node k (part t none)) ≡ true → in_stage c (node k (part t none)) ≡ true → (is SimpleTarget t ≡ true → in_stage SimpleTarget t ≡ true → Target t) → is_bracket k ≡ false → (b : Bool) → is_pair_target k ≡ b → Target (node k (part t none))
one_there c l k t i s within n false e = member_there c l k (part t none) i s n e
one_there c l (function ParenTarget) t i s within n true e =
    let f : (admits SimpleTarget t && (fits_below SimpleTarget t && true)) ≡ true = and_right (admits c (node (function ParenTarget) (part t none))) _ i in
    let g : (in_stage SimpleTarget t && true) ≡ true = s in
    pair_target (within (and_both _ _ (and_left (admits SimpleTarget t) _ f) (and_left (fits_below SimpleTarget t) true (and_right (admits SimpleTarget t) _ f))) (and_left (in_stage SimpleTarget t) true g))
one_there c l _ t i s within n true e = cc

more_there : (c : Nonterminal) → is_left c ≡ true → (k : Kind) (t u : Tree) (us : Forest) → is c (node k (part t (part u us))) ≡ true → in_stage c (node k (part t (part u us))) ≡ true → is_bracket k ≡ false → (b : Bool) → is_pair_target k ≡ b → Target (node k (part t (part u us)))
more_there c l k t u us i s n false e = member_there c l k (part t (part u us)) i s n e
more_there c l (function ParenTarget) t u us i s n true e = absurd (no_pair c t u us i)
more_there c l _ t u us i s n true e = cc

-- in parentheses no pattern in brackets stands
pub bare_target : (t : Tree) → is SimpleTarget t ≡ true → (b : Bool) → in_brackets t ≡ b → b ≡ false
bare_target t i false e = refl
bare_target (node (function (ArrayPat Assigns)) ts) i true e = absurd (clash (in_homes SimpleTarget (homes (function (ArrayPat Assigns)))) (kind_home SimpleTarget (function (ArrayPat Assigns)) ts (and_left (admits SimpleTarget (node (function (ArrayPat Assigns)) ts)) (fits_below SimpleTarget (node (function (ArrayPat Assigns)) ts)) i)) refl)
bare_target (node (function (ObjectPat Assigns)) ts) i true e = absurd (clash (in_homes SimpleTarget (homes (function (ObjectPat Assigns)))) (kind_home SimpleTarget (function (ObjectPat Assigns)) ts (and_left (admits SimpleTarget (node (function (ObjectPat Assigns)) ts)) (fits_below SimpleTarget (node (function (ObjectPat Assigns)) ts)) i)) refl)
bare_target (node _ ts) i true e = cc
bare_target _ i true e = cc

pub target_there : (c : Nonterminal) → is_left c ≡ true → (u : Tree) → in_brackets u ≡ false → is c u ≡ true → in_stage c u ≡ true → Target u
target_there c l (leaf k t) n i s = leaf_target c l k t (and_left (leaf_in c k t) (is_leaf k t) i) s
target_there c l (node k none) n i s = none_there c l k i s n (is_pair_target k) refl
target_there c l (node k (part t none)) n i s = one_there c l k t i s (λ j r. target_there SimpleTarget refl t (bare_target t j (in_brackets t) refl) j r) n (is_pair_target k) refl
target_there c l (node k (part t (part u us))) n i s = more_there c l k t u us i s n (is_pair_target k) refl
target_there c l (list ts) n i s = let bad : false ≡ true = and_left (admits c (list ts)) (fits_below c (list ts)) i in cc

pub target_reads : {v : Surroundings} {x y : Place} (c : Nonterminal) → is_left c ≡ true → (u : Tree) → in_brackets u ≡ false → Staged v false c x u y → Target u
target_reads c l u n r = target_there c l u n r.reads.is r.staged

pub simple_reads : {v : Surroundings} {x y : Place} (u : Tree) → Staged v false SimpleTarget x u y → Target u
simple_reads u r = target_reads SimpleTarget refl u (bare_target u r.reads.is (in_brackets u) refl) r

-- ---- a pattern in brackets, which is no expression

pub bracket_plain : (t : Tree) → in_brackets t ≡ true → is_pair t ≡ false
bracket_plain (node (function (ArrayPat Assigns)) ts) h = refl
bracket_plain (node (function (ObjectPat Assigns)) ts) h = refl
bracket_plain (node _ ts) h = cc
bracket_plain _ h = cc

pub bracket_calm : (t : Tree) → in_brackets t ≡ true → is_aim t ≡ false
bracket_calm (node (function (ArrayPat Assigns)) ts) h = refl
bracket_calm (node (function (ObjectPat Assigns)) ts) h = refl
bracket_calm (node _ ts) h = cc
bracket_calm _ h = cc

pub value_open : {t : Tree} → Value t → in_brackets t ≡ false
value_open (literal l w) = refl
value_open (made {k} {ts} m) = is_not _ (of_each (λ j. not (is_bracket j)) refl k m)

-- nor is a value one as it is seen where it is assigned to
pub open_value : (t : Tree) → Value t → (b : Bool) → is_pair t ≡ b → in_brackets (as_target t) ≡ false
open_value t w false e = ap in_brackets (target_plain t e) ∙ value_open w
open_value (node (expression Parenthesized) ts) w true e = refl
open_value _ w true e = cc

-- ---- an expression that is a target once it is assigned to may be

kind_is : {k l : Kind} {ts us : Forest} → node k ts ≡ node l us → k ≡ l
kind_is e = cc

part_is : {k l : Kind} {t u : Tree} {ts us : Forest} → node k (part t ts) ≡ node l (part u us) → t ≡ u
part_is e = cc

rest_is : {k l : Kind} {t u : Tree} {ts us : Forest} → node k (part t ts) ≡ node l (part u us) → ts ≡ us
rest_is e = cc

record Inner (u : Tree) (us : Forest) : Type 0 where
  within : Target u
  alone : us ≡ none

pair_inner : (w u : Tree) (us : Forest) → Target w → w ≡ node (function ParenTarget) (part u us) → Inner u us
pair_inner w u us (name_target b) e = cc
pair_inner w u us (member_target {k} m) e = absurd (clash (is_member k) m (ap is_member (kind_is e)))
pair_inner w u us (pair_target p) e = record { within = subst Target (part_is e) p; alone = sym (rest_is e) }

no_empty : (w : Tree) → Target w → w ≡ node (function ParenTarget) none → ⊥
no_empty w (name_target b) e = cc
no_empty w (member_target {k} m) e = clash (is_member k) m (ap is_member (kind_is e))
no_empty w (pair_target p) e = cc

leaf_aim : (w : Tree) (k : TokenKind) (s : Text) → Target w → w ≡ leaf k s → Aim w
leaf_aim w k s (name_target b) e = named b
leaf_aim w k s (member_target m) e = cc
leaf_aim w k s (pair_target p) e = cc

member_aim : (w : Tree) (k : Kind) (ts : Forest) → Target w → w ≡ node k ts → is_pair_target k ≡ false → Aim w
member_aim w k ts (name_target b) e n = cc
member_aim w k ts (member_target m) e n = member m
member_aim w k ts (pair_target p) e n = absurd (clash (is_pair_target k) (ap is_pair_target (sym (kind_is e))) n)

list_aim : (w : Tree) (ts : Forest) → Target w → w ≡ list ts → Aim w
list_aim w ts (name_target b) e = cc
list_aim w ts (member_target m) e = cc
list_aim w ts (pair_target p) e = cc

-- no target in parentheses stands where any expression does
calm_there : (t : Tree) → is (Expr 0) t ≡ true → is_aim t ≡ false
calm_there (leaf k s) i = refl
calm_there (node (function ParenTarget) ts) i = cc
calm_there (node _ ts) i = refl
calm_there (list ts) i = refl

pub aim_back : (d : Nonterminal) (t : Tree) → is_aim t ≡ false → is d t ≡ true → Target (as_target t) → Aim t
aim_back d (leaf k s) a i p = leaf_aim (leaf k s) k s p refl
aim_back d (node (expression Parenthesized) none) a i p = absurd (no_empty _ p refl)
aim_back d (node (expression Parenthesized) (part t none)) a i p =
    let f : (admits (Expr 0) t && (fits_below (Expr 0) t && true)) ≡ true = and_right (admits d (node (expression Parenthesized) (part t none))) _ i in
    let j : is (Expr 0) t ≡ true = and_both _ _ (and_left (admits (Expr 0) t) _ f) (and_left (fits_below (Expr 0) t) true (and_right (admits (Expr 0) t) _ f)) in
    paired (aim_back (Expr 0) t (calm_there t j) j (pair_inner _ (as_target t) none p refl).within)
aim_back d (node (expression Parenthesized) (part t (part u us))) a i p = let q = (pair_inner _ (as_target t) (part u us) p refl).alone in cc
aim_back d (node (function ParenTarget) ts) a i p = cc
aim_back d (node _ ts) a i p = member_aim _ _ ts p refl refl
aim_back d (list ts) a i p = list_aim (list ts) ts p refl
