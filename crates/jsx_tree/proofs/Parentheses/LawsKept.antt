-- The static rules, but for those that pairs mend, hold of a tree with pairs where they hold of it without.
use Rattle.std.proofs.Common.{◌≡◌, List, [], ◌∷◌, Bool, true, false, cond, suc, sym, refl, ap, ◌∙◌}
use Rattle.std.proofs.lemmas.Bool.{and_parts, and_from, both_ways, false≢true, not-true}
use Rattle.std.specs.Prelude.{not, ◌&&◌, ◌||◌, nat_eq}
use Rattle.jsx_base.specs.Token.{Text, TokenKind}
use Rattle.jsx_tree.specs.Kinds.{Kind, function, expression, Arrow, ArrowBlock, BareArrow, BareArrowBlock, New, NewWithoutArguments, ParenTarget, Parenthesized, Tree, leaf, node, list, Forest, none, part}
use Rattle.jsx_tree.specs.Nonterminals.{Nonterminal, Expr, SimpleTarget, BindingIdent, Param, NewCallee, Body, in_homes, homes}
use Rattle.jsx_tree.specs.Grammar.{Context, InFunction, InArrow, InMethod, InField, InClassCode, InMembers, InLoop, InSwitch, InLabel, InCode, InModuleCode}
use Rattle.jsx_tree.specs.Normal.{is_empty, unless_empty, without_empty, laid_node, mades, each_made, laid_tree}
use Rattle.jsx_tree.specs.Form.{Single, Maybe, Several, Position, position, positions, at_most_one, enough, last_only}
use Rattle.jsx_tree.specs.StaticRules.{Surroundings, rule, stands, enters, is_strict_body, has_plain_params, all_of, is_plain_list}
use Rattle.jsx_tree.specs.Sound.{may_stand, is_no_jsx, is_mended, loose, loose_slots, loose_each, lawful, lawfuls, each_lawful}
use Rattle.jsx_tree.proofs.Parentheses.EmptyStatements.{drops, all_drops}
use Rattle.jsx_tree.proofs.Parentheses.Laying.{param_leaf}
use Rattle.jsx_tree.proofs.Parentheses.Bare.{bare_node, bare, lays, bares, no_list}
use Rattle.jsx_tree.proofs.Parentheses.Seen.{At, one_of, rest_of, empty_same, no_more, slots_of, rest_at}
use Rattle.jsx_tree.proofs.Parentheses.PlaceTests.{is_method, is_class, is_label, is_code_kind, known, all_known, knowns}
use Rattle.jsx_tree.proofs.Parentheses.PlaceTable.{row_facts}
use Rattle.jsx_tree.proofs.Parentheses.RulesKept.{no_body, rule_same, stands_same, enters_same}

-- the parts of a node stand in the same
abbrev Enters : Kind → Forest → Forest → Type 0
Enters k ds es = (a : List Context) (v : Surroundings) → all_known k a ≡ true → enters ds a v ≡ enters es a v

-- the rules hold alike of the parts
abbrev Parts : Kind → Forest → Type 0
Parts k cs = (ds es : Forest) → Enters k ds es → (v : Surroundings) → lawfuls ds v (positions k) (lays k cs) ≡ lawfuls es v (positions k) (bares k cs)

kind_kept : (k : Kind) (cs : Forest) → is_no_jsx k ≡ true → loose_slots (positions k) cs ≡ true → Parts k cs → (v : Surroundings) → lawful v (node k (lays k cs)) ≡ lawful v (node k (bares k cs))
kind_kept k cs n h r v =
    let ds : Forest = lays k cs in
    let es : Forest = bares k cs in
    ap (λ b. b && (stands k ds v && lawfuls ds v (positions k) ds)) (rule_same k cs n h)
    ∙ ap (λ b. (is_mended k || rule k es) && (b && lawfuls ds v (positions k) ds)) (stands_same k cs v h)
    ∙ ap (λ b. (is_mended k || rule k es) && (stands k es v && b)) (r ds es (λ a w i. enters_same k cs a w i h) v)

and_true : (b : Bool) → (b && true) ≡ b
and_true true = refl
and_true false = refl

plain_one : (u : Tree) → is_strict_body u ≡ false → has_plain_params (part u none) ≡ true
plain_one u e = ap (λ b. nat_eq (cond b (suc 0) 0) 0 || all_of is_plain_list (part u none)) e

pair_kept : (v : Surroundings) (d e : Tree) → is_strict_body d ≡ false → (lawful v d && true) ≡ (lawful v e && true) → (has_plain_params (part d none) && (lawful v d && true)) ≡ lawful v e
pair_kept v d e n h = ap (λ b. b && (lawful v d && true)) (plain_one d n) ∙ (h ∙ and_true (lawful v e))

-- two kinds whose contexts don't look at their parts
record Alike (k j : Kind) : Type 0 where
  pub methods : is_method k ≡ is_method j
  pub classes : is_class k ≡ is_class j
  pub labels : is_label k ≡ is_label j
  pub codes : is_code_kind k ≡ is_code_kind j

known_as : (k j : Kind) → Alike k j → (a : List Context) → all_known k a ≡ all_known j a
known_as k j l [] = refl
known_as k j l (a ∷ as') = ap (λ b. b && all_known k as') (one a) ∙ ap (λ b. known j a && b) (known_as k j l as')
  where
    one : (a : Context) → known k a ≡ known j a
    one (InMethod h) = l.methods
    one InMembers = l.classes
    one InLabel = l.labels
    one InCode = l.codes
    one InFunction = refl
    one InArrow = refl
    one InField = refl
    one InClassCode = refl
    one InLoop = refl
    one InSwitch = refl
    one InModuleCode = refl

entered : (k j : Kind) → Alike k j → (ds es : Forest) → Enters j ds es → Enters k ds es
entered k j l ds es h a v i = h a v (sym (known_as k j l a) ∙ i)

-- `a => b` is laid as `(a) => b`, and `new F` as `new F()`
param_loose : (s : TokenKind) (x : Text) (b r : Bool) → (may_stand BindingIdent (leaf s x) && (loose BindingIdent (leaf s x) && r)) ≡ true → (loose_each Param (part (leaf s x) none) && r) ≡ true
param_loose s x b r h =
    let p = and_parts (may_stand BindingIdent (leaf s x)) (loose BindingIdent (leaf s x) && r) h in
    let q = and_parts (loose BindingIdent (leaf s x)) r p.1 in
    and_from _ _ (and_from _ _ (param_leaf s x p.0) (and_from _ _ q.0 refl)) q.1

arrow_kept : (s : TokenKind) (x : Text) (e : Tree) → loose_slots (positions (expression BareArrow)) (part (leaf s x) (part e none)) ≡ true → Parts (expression BareArrow) (part (leaf s x) (part e none)) → (v : Surroundings)
    → lawful v (laid_node (expression BareArrow) (lays (expression BareArrow) (part (leaf s x) (part e none)))) ≡ lawful v (bare_node (expression BareArrow) (bares (expression BareArrow) (part (leaf s x) (part e none))))
arrow_kept s x e h r v =
    kind_kept (expression Arrow) (part (list (part (leaf s x) none)) (part e none)) refl (param_loose s x true _ h)
    (λ ds es i w. r ds es (entered (expression BareArrow) (expression Arrow) (record { methods = refl; classes = refl; labels = refl; codes = refl }) ds es i) w) v

block_kept : (s : TokenKind) (x : Text) (e : Tree) → loose_slots (positions (expression BareArrowBlock)) (part (leaf s x) (part e none)) ≡ true → Parts (expression BareArrowBlock) (part (leaf s x) (part e none)) → (v : Surroundings)
    → lawful v (laid_node (expression BareArrowBlock) (lays (expression BareArrowBlock) (part (leaf s x) (part e none)))) ≡ lawful v (bare_node (expression BareArrowBlock) (bares (expression BareArrowBlock) (part (leaf s x) (part e none))))
block_kept s x e h r v =
    kind_kept (expression ArrowBlock) (part (list (part (leaf s x) none)) (part e none)) refl (param_loose s x true _ h)
    (λ ds es i w. r ds es (entered (expression BareArrowBlock) (expression ArrowBlock) (record { methods = refl; classes = refl; labels = refl; codes = refl }) ds es i) w) v

new_kept : (e : Tree) → loose_slots (positions (expression NewWithoutArguments)) (part e none) ≡ true → Parts (expression NewWithoutArguments) (part e none) → (v : Surroundings)
    → lawful v (laid_node (expression NewWithoutArguments) (lays (expression NewWithoutArguments) (part e none))) ≡ lawful v (bare_node (expression NewWithoutArguments) (bares (expression NewWithoutArguments) (part e none)))
new_kept e h r v =
    kind_kept (expression New) (part e (part (list none) none)) refl h
    (λ ds es i w. r ds es (entered (expression NewWithoutArguments) (expression New) (record { methods = refl; classes = refl; labels = refl; codes = refl }) ds es i) w) v

-- no node is a name that is bound
no_node : {A : Type 0} (k : Kind) (cs : Forest) → may_stand BindingIdent (node k cs) ≡ true → A
no_node k cs m = absurd (both_ways (in_homes BindingIdent (homes k)) (not-true (in_homes BindingIdent (homes k)) (and_parts (drops (positions k)) (not (in_homes BindingIdent (homes k))) (all_drops k)).1) m)

node_kept : (k : Kind) (cs : Forest) → is_no_jsx k ≡ true → loose_slots (positions k) cs ≡ true → Parts k cs → (v : Surroundings) → lawful v (laid_node k (lays k cs)) ≡ lawful v (bare_node k (bares k cs))
node_kept (expression Parenthesized) (part e none) n h r v =
    pair_kept v (laid_tree e) (bare e) (no_body (Expr 0) e refl (and_parts (may_stand (Expr 0) e) (loose (Expr 0) e && true) h).0)
    (r (lays (expression Parenthesized) (part e none)) (bares (expression Parenthesized) (part e none)) (λ a w i. enters_same (expression Parenthesized) (part e none) a w i h) v)
node_kept (expression Parenthesized) none n h r v = absurd (false≢true h)
node_kept (expression Parenthesized) (part e (part x xs)) n h r v = no_more (may_stand (Expr 0) e) (loose (Expr 0) e) h
node_kept (function ParenTarget) (part e none) n h r v =
    pair_kept v (laid_tree e) (bare e) (no_body SimpleTarget e refl (and_parts (may_stand SimpleTarget e) (loose SimpleTarget e && true) h).0)
    (r (lays (function ParenTarget) (part e none)) (bares (function ParenTarget) (part e none)) (λ a w i. enters_same (function ParenTarget) (part e none) a w i h) v)
node_kept (function ParenTarget) none n h r v = absurd (false≢true h)
node_kept (function ParenTarget) (part e (part x xs)) n h r v = no_more (may_stand SimpleTarget e) (loose SimpleTarget e) h
node_kept (expression BareArrow) (part (leaf s x) (part e none)) n h r v = arrow_kept s x e h r v
node_kept (expression BareArrow) none n h r v = absurd (false≢true h)
node_kept (expression BareArrow) (part t none) n h r v = no_more (may_stand BindingIdent t) (loose BindingIdent t) h
node_kept (expression BareArrow) (part t (part e (part x xs))) n h r v = no_more (may_stand (Expr 1) e) (loose (Expr 1) e) (rest_at (may_stand BindingIdent t) (loose BindingIdent t) (may_stand (Expr 1) e && (loose (Expr 1) e && false)) h)
node_kept (expression BareArrow) (part (node k cs) (part e none)) n h r v = no_node k cs (and_parts (may_stand BindingIdent (node k cs)) _ h).0
node_kept (expression BareArrow) (part (list ts) (part e none)) n h r v = absurd (false≢true h)
node_kept (expression BareArrowBlock) (part (leaf s x) (part e none)) n h r v = block_kept s x e h r v
node_kept (expression BareArrowBlock) none n h r v = absurd (false≢true h)
node_kept (expression BareArrowBlock) (part t none) n h r v = no_more (may_stand BindingIdent t) (loose BindingIdent t) h
node_kept (expression BareArrowBlock) (part t (part e (part x xs))) n h r v = no_more (may_stand Body e) (loose Body e) (rest_at (may_stand BindingIdent t) (loose BindingIdent t) (may_stand Body e && (loose Body e && false)) h)
node_kept (expression BareArrowBlock) (part (node k cs) (part e none)) n h r v = no_node k cs (and_parts (may_stand BindingIdent (node k cs)) _ h).0
node_kept (expression BareArrowBlock) (part (list ts) (part e none)) n h r v = absurd (false≢true h)
node_kept (expression NewWithoutArguments) (part e none) n h r v = new_kept e h r v
node_kept (expression NewWithoutArguments) none n h r v = absurd (false≢true h)
node_kept (expression NewWithoutArguments) (part e (part x xs)) n h r v = no_more (may_stand NewCallee e) (loose NewCallee e) h
node_kept k cs n h r v = kind_kept k cs n h r v

-- ---- all trees

both : (a b c d : Bool) → a ≡ c → b ≡ d → (a && b) ≡ (c && d)
both a b c d e f = ap (λ x. x && b) e ∙ ap (λ x. c && x) f

each_dropped : (v : Surroundings) (w : Bool) (t u : Tree) (ts us : Forest) → lawful v t ≡ lawful v u → each_lawful v ts ≡ each_lawful v us → each_lawful v (unless_empty w t ts) ≡ each_lawful v (unless_empty w u us)
each_dropped v true t u ts us p q = q
each_dropped v false t u ts us p q = both (lawful v t) (each_lawful v ts) (lawful v u) (each_lawful v us) p q

part_same : (ds es : Forest) (a : List Context) (v : Surroundings) (t u : Tree) {l m : Bool} → enters ds a v ≡ enters es a v → lawful (enters es a v) t ≡ lawful (enters es a v) u → l ≡ m → (lawful (enters ds a v) t && l) ≡ (lawful (enters es a v) u && m)
part_same ds es a v t u {l} {m} e f g = both (lawful (enters ds a v) t) l (lawful (enters es a v) u) m (ap (λ w. lawful w t) e ∙ f) g

mutual
  pub lawful_same : (c : Nonterminal) (t : Tree) → At c t → (v : Surroundings) → lawful v (laid_tree t) ≡ lawful v (bare t)
  lawful_same c (leaf s x) a v = refl
  lawful_same c (list ts) a v = no_list c ts a.may
  lawful_same c (node k cs) a v =
      node_kept k cs (and_parts (is_no_jsx k) (loose_slots (positions k) cs) a.below).0 (slots_of c k cs a) (λ ds es h w. lawfuls_same k ds es h (positions k) cs (row_facts k).contexts (slots_of c k cs a) w) v

  lawfuls_same : (k : Kind) (ds es : Forest) → Enters k ds es → (ss : List Position) (cs : Forest) → knowns k ss ≡ true → loose_slots ss cs ≡ true → (v : Surroundings) → lawfuls ds v ss (mades laid_node ss cs) ≡ lawfuls es v ss (mades bare_node ss cs)
  lawfuls_same k ds es i [] none n h v = refl
  lawfuls_same k ds es i [] (part t ts) n h v = absurd (false≢true h)
  lawfuls_same k ds es i (s ∷ ss) none n h v = absurd (false≢true h)
  lawfuls_same k ds es i (position Single c g b a ∷ ss) (part t ts) n h v =
      let p = and_parts (may_stand c t) (loose c t && loose_slots ss ts) h in
      let q = and_parts (loose c t) (loose_slots ss ts) p.1 in
      let r = and_parts (all_known k a) (knowns k ss) n in
      part_same ds es a v (laid_tree t) (bare t) (i a v r.0) (lawful_same c t (record { may = p.0; below = q.0 }) (enters es a v)) (lawfuls_same k ds es i ss ts r.1 q.1 v)
  lawfuls_same k ds es i (position Maybe c g b a ∷ ss) (part (list us) ts) n h v =
      let p = and_parts (at_most_one us) (loose c (list us) && loose_slots ss ts) h in
      let q = and_parts (loose c (list us)) (loose_slots ss ts) p.1 in
      let r = and_parts (all_known k a) (knowns k ss) n in
      part_same ds es a v (list (each_made laid_node us)) (list (each_made bare_node us)) (i a v r.0) (eaches c us q.0 (enters es a v)) (lawfuls_same k ds es i ss ts r.1 q.1 v)
  lawfuls_same k ds es i (position (Several s) c g b a ∷ ss) (part (list us) ts) n h v =
      let p = and_parts (enough s us && last_only us) (loose c (list us) && loose_slots ss ts) h in
      let q = and_parts (loose c (list us)) (loose_slots ss ts) p.1 in
      let r = and_parts (all_known k a) (knowns k ss) n in
      part_same ds es a v (list (without_empty (each_made laid_node us))) (list (without_empty (each_made bare_node us))) (i a v r.0) (somes c us q.0 (enters es a v)) (lawfuls_same k ds es i ss ts r.1 q.1 v)
  lawfuls_same k ds es i (position Maybe c g b a ∷ ss) (part (leaf s x) ts) n h v = absurd (false≢true h)
  lawfuls_same k ds es i (position Maybe c g b a ∷ ss) (part (node j cs) ts) n h v = absurd (false≢true h)
  lawfuls_same k ds es i (position (Several s') c g b a ∷ ss) (part (leaf s x) ts) n h v = absurd (false≢true h)
  lawfuls_same k ds es i (position (Several s') c g b a ∷ ss) (part (node j cs) ts) n h v = absurd (false≢true h)

  eaches : (c : Nonterminal) (ts : Forest) → loose_each c ts ≡ true → (v : Surroundings) → each_lawful v (each_made laid_node ts) ≡ each_lawful v (each_made bare_node ts)
  eaches c none h v = refl
  eaches c (part t ts) h v =
      both (lawful v (laid_tree t)) (each_lawful v (each_made laid_node ts)) (lawful v (bare t)) (each_lawful v (each_made bare_node ts)) (lawful_same c t (one_of c t ts h) v) (eaches c ts (rest_of c t ts h) v)

  somes : (c : Nonterminal) (ts : Forest) → loose_each c ts ≡ true → (v : Surroundings) → each_lawful v (without_empty (each_made laid_node ts)) ≡ each_lawful v (without_empty (each_made bare_node ts))
  somes c none h v = refl
  somes c (part t ts) h v =
      ap (λ w. each_lawful v (unless_empty w (laid_tree t) (without_empty (each_made laid_node ts)))) (empty_same c t (one_of c t ts h))
      ∙ each_dropped v (is_empty (bare t)) (laid_tree t) (bare t) (without_empty (each_made laid_node ts)) (without_empty (each_made bare_node ts)) (lawful_same c t (one_of c t ts h) v) (somes c ts (rest_of c t ts h) v)
