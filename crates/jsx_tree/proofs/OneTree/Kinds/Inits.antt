-- What a `for` begins with: declarations, or an expression; a name that is bound, or a target.
use Rattle.jsx_tree.proofs.OneTree.Known.{is_blocked}
use Rattle.jsx_tree.proofs.OneTree.Spines.{blocked_home, blockless}
use Rattle.jsx_tree.proofs.OneTree.Kept.{a_blocked, a_jsx}
use Rattle.jsx_tree.proofs.OneTree.Tags.{jsx_kinds, for_jsx, tagless, no_jsx}
use Rattle.jsx_tree.specs.Kinds.{Arrow, ArrowBlock, BareArrowBlock}
use Rattle.jsx_tree.proofs.OneTree.Evidence.{Kept, Kepts, kept_left, kept_list, kept_kind, kept_parts}
use Rattle.std.proofs.Common.{◌≡◌, Bool, true, false, not, List, [], ◌∷◌, refl, sym, ◌∙◌, ap, subst, arith}
use Rattle.std.specs.Prelude.{IsTrue, ◌&&◌, ◌||◌, codes}
use Rattle.jsx_base.specs.Token.{Text, Operator, TokenKind, IdentifierName, NumericLiteral, BigIntLiteral, StringLiteral, RegExpLiteral, Punctuator, same}
use Rattle.jsx_tree.specs.Signs.{Sign, Tok}
use Rattle.jsx_tree.specs.Kinds.{DeclareWord, VarWord, LetWord, ConstWord, ForDeclaration, ForBinding, Seq, Binds, Assigns, Kind, statement, expression, Tree, leaf, node, list, Forest, none, part}
use Rattle.jsx_tree.specs.Nonterminals.{Nonterminal, Expr, Pat, ForInit, ForHead, ForOfHead, homes, in_homes, leaf_in, is_bound}
use Rattle.jsx_tree.specs.Grammar.{Context, Fixed, Production, vars}
use Rattle.jsx_tree.specs.Form.{admits, fits_below}
use Rattle.jsx_tree.specs.StaticRules.{Surroundings}
use Rattle.jsx_tree.specs.Reading.{Place, forth, scan}
use Rattle.jsx_tree.proofs.Tokens.{and_left, and_right, same_is}
use Rattle.jsx_tree.specs.Walk as W
use Rattle.jsx_tree.specs.Walk.{is_found, pieces, IsRead, IsNode}
use Rattle.jsx_tree.proofs.Rows.Bridge.{node_walk}
use Rattle.jsx_tree.proofs.OneTree.Table.{kinds}
use Rattle.jsx_tree.proofs.OneTree.Statements.{stated_kinds, for_stated}
use Rattle.jsx_tree.proofs.OneTree.Readings.{kind_at, text_at, calm}
use Rattle.jsx_tree.proofs.OneTree.Checks.{every, starts}
use Rattle.jsx_tree.proofs.OneTree.Facts.{never, or_else, not_is, Test, yes', no', test, for_kind, Seen, took}
use Rattle.jsx_tree.proofs.OneTree.Pairs.{two_tokens}
use Rattle.jsx_tree.proofs.OneTree.Fine.{re_home, at_sign, at_part, at_many, at_end}
use Rattle.jsx_tree.proofs.OneTree.Spines.{home_of}
use Rattle.jsx_tree.proofs.OneTree.Placed.{Placed}
use Rattle.jsx_tree.proofs.OneTree.Kept.{Which, a_statement, a_taken, a_seq, which}
use Rattle.jsx_tree.proofs.OneTree.Parts.{tame_of, SameAt, expr_same, expr_starts, whole_same, whole_starts}
use Rattle.jsx_tree.proofs.OneTree.Wants.{Want, mark, signed, calm_next, next_calm}
use Rattle.jsx_tree.proofs.OneTree.Rows.{Each, each_all, All, all_parts, Rest, is_whole, whole_is, pattern_part, part_good, part_same}
use Rattle.jsx_tree.proofs.OneTree.Lists.{move_items}
use Rattle.jsx_tree.proofs.OneTree.Kinds.Members.{member_good, member_same}
use Rattle.jsx_tree.proofs.OneTree.Kinds.Declarators.{ended_list, declarators_same}

abbrev pub is_init : Nonterminal → Bool
is_init ForInit = true
is_init c = false

abbrev pub is_head : Nonterminal → Bool
is_head ForHead = true
is_head ForOfHead = true
is_head c = false

init_is : (c : Nonterminal) → is_init c ≡ true → c ≡ ForInit
init_is ForInit h = refl
init_is _ h = cc

-- ---- declarations

abbrev pub is_declaration : Kind → Bool
is_declaration (statement (ForDeclaration w)) = true
is_declaration k = false

abbrev pub is_binding : Kind → Bool
is_binding (statement (ForBinding w)) = true
is_binding k = false

word_of : Kind → DeclareWord
word_of (statement (ForDeclaration w)) = w
word_of (statement (ForBinding w)) = w
word_of k = VarWord

declaration_is : (k : Kind) → is_declaration k ≡ true → k ≡ statement (ForDeclaration (word_of k))
unfolding word_of
declaration_is (statement (ForDeclaration w)) h = refl
declaration_is (statement _) h = cc
declaration_is _ h = cc

binding_is : (k : Kind) → is_binding k ≡ true → k ≡ statement (ForBinding (word_of k))
unfolding word_of
binding_is (statement (ForBinding w)) h = refl
binding_is (statement _) h = cc
binding_is _ h = cc

pub words_same : {x : Place} (w u : DeclareWord) → Seen x IdentifierName (vars w) → Seen x IdentifierName (vars u) → w ≡ u
words_same VarWord VarWord s r = refl
words_same VarWord LetWord s r = absurd (two_tokens s r refl)
words_same VarWord ConstWord s r = absurd (two_tokens s r refl)
words_same LetWord VarWord s r = absurd (two_tokens s r refl)
words_same LetWord LetWord s r = refl
words_same LetWord ConstWord s r = absurd (two_tokens s r refl)
words_same ConstWord VarWord s r = absurd (two_tokens s r refl)
words_same ConstWord LetWord s r = absurd (two_tokens s r refl)
words_same ConstWord ConstWord s r = refl

word_off : (w : DeclareWord) → starts 0 (vars w) ≡ false
word_off VarWord = refl
word_off LetWord = refl
word_off ConstWord = refl

-- no expression begins with the word of a declaration
pub word_start : (w : DeclareWord) (x : Place) → Seen x IdentifierName (vars w) → starts (kind_at x) (text_at x) ≡ true → ⊥
word_start w x s h = never (starts 0 (vars w)) ((λ i. starts (sym s.kind i) (sym s.text i)) ∙ h) (word_off w)

-- declarations, or an expression
pub data Init (v : Surroundings) (x : Place) : Tree → Place → Type 0 where
  declares : {y : Place} {cs : Forest} (w : DeclareWord) → Kepts cs → IsNode IsRead v false (statement (ForDeclaration w)) x cs y → Init v x (node (statement (ForDeclaration w)) cs) y
  expresses : {y : Place} {t : Tree} → IsRead v false (Expr 0) x t y → Init v x t y

-- a name that is bound, or a target
pub data Head (v : Surroundings) (x : Place) : Tree → Place → Type 0 where
  binds : {y : Place} {cs : Forest} (w : DeclareWord) → Kepts cs → IsNode IsRead v false (statement (ForBinding w)) x cs y → Head v x (node (statement (ForBinding w)) cs) y
  targets : {y : Place} {t : Tree} → IsRead v false (Pat Assigns) x t y → Head v x t y

init_leaf : (s : TokenKind) (t : Text) → leaf_in ForInit s t ≡ true → leaf_in (Expr 0) s t ≡ true
init_leaf IdentifierName t h = h
init_leaf NumericLiteral t h = refl
init_leaf BigIntLiteral t h = refl
init_leaf StringLiteral t h = refl
init_leaf RegExpLiteral t h = refl
init_leaf _ t h = cc

abbrev init_stated_ok : Kind → Bool
init_stated_ok k = not (in_homes ForInit (homes k)) || (is_declaration k || in_homes (Expr 0) (homes k))

abbrev init_taken_ok : Kind → Bool
init_taken_ok k = not (in_homes ForInit (homes k)) || in_homes (Expr 0) (homes k)

init_stated : every init_stated_ok stated_kinds ≡ true
init_stated = refl

init_taken : every init_taken_ok kinds ≡ true
init_taken = refl

init_jsx : every init_taken_ok jsx_kinds ≡ true
init_jsx = refl

blocked_zero : (k : Kind) → is_blocked k ≡ true → in_homes (Expr 0) (homes k) ≡ true
blocked_zero (expression ArrowBlock) s = refl
blocked_zero (expression BareArrowBlock) s = refl
blocked_zero (expression _) s = cc
blocked_zero _ s = cc

pub init_view : {v : Surroundings} {x y : Place} (t : Tree) → Kept t → IsRead v false ForInit x t y → Init v x t y
init_view (leaf s u) h r = expresses (re_home ForInit (Expr 0) (leaf s u) (init_leaf s u (and_left (leaf_in ForInit s u) _ r.is)) r)
init_view (list ts) h r = let bad = r.is in cc
init_view {v} {x} {y} (node k cs) h r = by_which (which k (kept_kind h))
  where
    i : in_homes ForInit (homes k) ≡ true
    i = home_of ForInit k cs (and_left (admits ForInit (node k cs)) (fits_below ForInit (node k cs)) r.is)

    by_declaration : Test (is_declaration k) → (is_declaration k || in_homes (Expr 0) (homes k)) ≡ true → Init v x (node k cs) y
    by_declaration (no' n) o = expresses (re_home ForInit (Expr 0) (node k cs) (or_else (is_declaration k) _ o n) r)
    by_declaration (yes' d) o =
        let e = declaration_is k d in
        subst (λ k. Init v x (node k cs) y) (sym e) (declares (word_of k) (kept_parts h) (node_walk false (statement (ForDeclaration (word_of k))) refl (subst (λ k. IsRead v false ForInit x (node k cs) y) e r)))

    by_which : Which k → Init v x (node k cs) y
    by_which (a_statement s) = by_declaration (test (is_declaration k)) (or_else (not (in_homes ForInit (homes k))) _ (for_stated init_stated_ok init_stated k s) (ap not i))
    by_which (a_blocked s) = expresses (re_home ForInit (Expr 0) (node k cs) (blocked_zero k s) r)
    by_which (a_jsx j) = expresses (re_home ForInit (Expr 0) (node k cs) (or_else (not (in_homes ForInit (homes k))) _ (for_jsx init_taken_ok init_jsx k j) (ap not i)) r)
    by_which (a_taken s) = expresses (re_home ForInit (Expr 0) (node k cs) (or_else (not (in_homes ForInit (homes k))) _ (for_kind init_taken_ok init_taken k s) (ap not i)) r)
    by_which (a_seq e) = expresses (re_home ForInit (Expr 0) (node k cs) (ap (λ k. in_homes (Expr 0) (homes k)) e) r)

head_leaf : (c : Nonterminal) (s : TokenKind) (t : Text) → is_head c ≡ true → leaf_in c s t ≡ true → leaf_in (Pat Assigns) s t ≡ true
head_leaf ForHead IdentifierName t o h = h
head_leaf ForHead _ t o h = cc
head_leaf ForOfHead IdentifierName t o h = and_left (is_bound t) _ h
head_leaf ForOfHead _ t o h = cc
head_leaf _ s t o h = cc

abbrev head_stated_ok : Nonterminal → Kind → Bool
head_stated_ok c k = not (in_homes c (homes k)) || is_binding k

abbrev head_taken_ok : Nonterminal → Kind → Bool
head_taken_ok c k = not (in_homes c (homes k)) || in_homes (Pat Assigns) (homes k)

head_stated : (c : Nonterminal) → is_head c ≡ true → every (head_stated_ok c) stated_kinds ≡ true
head_stated ForHead o = refl
head_stated ForOfHead o = refl
head_stated _ o = cc

head_taken : (c : Nonterminal) → is_head c ≡ true → every (head_taken_ok c) kinds ≡ true
head_taken ForHead o = refl
head_taken ForOfHead o = refl
head_taken _ o = cc

head_seq : (c : Nonterminal) → is_head c ≡ true → in_homes c (homes (expression Seq)) ≡ false
head_seq ForHead o = refl
head_seq ForOfHead o = refl
head_seq _ o = cc

head_tagless : (c : Nonterminal) → is_head c ≡ true → tagless c ≡ true
head_tagless ForHead o = refl
head_tagless ForOfHead o = refl
head_tagless _ o = cc

head_blockless : (c : Nonterminal) → is_head c ≡ true → blockless c ≡ true
head_blockless ForHead o = refl
head_blockless ForOfHead o = refl
head_blockless _ o = cc

pub head_view : (c : Nonterminal) {v : Surroundings} {x y : Place} (t : Tree) → is_head c ≡ true → Kept t → IsRead v false c x t y → Head v x t y
head_view c (leaf s u) o h r = targets (re_home c (Pat Assigns) (leaf s u) (head_leaf c s u o (and_left (leaf_in c s u) _ r.is)) r)
head_view c (list ts) o h r = let bad = r.is in cc
head_view c {v} {x} {y} (node k cs) o h r = by_which (which k (kept_kind h))
  where
    i : in_homes c (homes k) ≡ true
    i = home_of c k cs (and_left (admits c (node k cs)) (fits_below c (node k cs)) r.is)

    by_which : Which k → Head v x (node k cs) y
    by_which (a_statement s) =
        let e = binding_is k (or_else (not (in_homes c (homes k))) _ (for_stated (head_stated_ok c) (head_stated c o) k s) (ap not i)) in
        subst (λ k. Head v x (node k cs) y) (sym e) (binds (word_of k) (kept_parts h) (node_walk false (statement (ForBinding (word_of k))) refl (subst (λ k. IsRead v false c x (node k cs) y) e r)))
    by_which (a_jsx j) = absurd (no_jsx c k j (head_tagless c o) i)
    by_which (a_blocked s) = absurd (never (in_homes c (homes (expression Arrow))) (blocked_home c k s i) (not_is _ (head_blockless c o)))
    by_which (a_taken s) = targets (re_home c (Pat Assigns) (node k cs) (or_else (not (in_homes c (homes k))) _ (for_kind (head_taken_ok c) (head_taken c o) k s) (ap not i)) r)
    by_which (a_seq e) = absurd (never (in_homes c (homes k)) i (ap (λ k. in_homes c (homes k)) e ∙ head_seq c o))

-- ---- what it begins with

pub declares_word : {v : Surroundings} {x y : Place} {cs : Forest} (w : DeclareWord) → IsNode IsRead v false (statement (ForDeclaration w)) x cs y → Seen x IdentifierName (vars w)
declares_word {x = x} w n = let s = at_sign n.walk in took IdentifierName (vars w) x s.moves s.found

pub binds_word : {v : Surroundings} {x y : Place} {cs : Forest} (w : DeclareWord) → IsNode IsRead v false (statement (ForBinding w)) x cs y → Seen x IdentifierName (vars w)
binds_word {x = x} w n = let s = at_sign n.walk in took IdentifierName (vars w) x s.moves s.found

pub init_starts : {v : Surroundings} {x y : Place} (t : Tree) → Kept t → IsRead v false (Expr 0) x t y → calm 0 y ≡ true → starts (kind_at x) (text_at x) ≡ true
init_starts t h r c = whole_starts t (tame_of t (Expr 0) refl h r.is) r c

pub target_placed : Placed 17 17 (Pat Assigns)
target_placed = record { kin' = refl; home' = refl; ended' = refl; seq' = refl }

pub target_starts : {v : Surroundings} {x y : Place} (t : Tree) → Kept t → IsRead v false (Pat Assigns) x t y → calm 17 y ≡ true → starts (kind_at x) (text_at x) ≡ true
target_starts t h r c = expr_starts 17 17 (Pat Assigns) t target_placed refl (tame_of t (Pat Assigns) refl h r.is) r c

-- a punctuator with which no expression begins
pub mark_start : {t : Text} (x : Place) → starts 1 t ≡ false → Seen x Punctuator t → starts (kind_at x) (text_at x) ≡ true → ⊥
mark_start {t} x n s h = never (starts 1 t) ((λ i. starts (sym s.kind i) (sym s.text i)) ∙ h) n

pub init_mark : {v : Surroundings} {x y : Place} {t : Tree} {u : Text} → Kept t → Init v x t y → calm 0 y ≡ true → starts 1 u ≡ false → Seen x Punctuator u → ⊥
init_mark h (declares w g n) c o s = two_tokens (declares_word w n) s refl
init_mark {x = x} h (expresses {t = t} r) c o s = mark_start x o s (init_starts t h r c)

pub head_mark : {v : Surroundings} {x y : Place} {t : Tree} {u : Text} → Kept t → Head v x t y → calm 17 y ≡ true → starts 1 u ≡ false → Seen x Punctuator u → ⊥
head_mark h (binds w g n) c o s = two_tokens (binds_word w n) s refl
head_mark {x = x} h (targets {t = t} r) c o s = mark_start x o s (target_starts t h r c)

-- ---- two of them

init_same : {v w : Surroundings} {x y z : Place} {t u : Tree} → Each t → Kept t → Kept u → Init v x t y → Init w x u z → calm 0 y ≡ true → calm 0 z ≡ true → ended_list y ≡ true → ended_list z ≡ true → SameAt t u y z
init_same {x = x} {y} {z} o h k (declares {cs = cs} a g m) (declares {cs = ds} b g' n) c d e f =
    let p = at_sign m.walk in
    let q = at_sign n.walk in
    let l = at_many p.walk in
    let r = at_many q.walk in
    let s = words_same a b (declares_word a m) (declares_word b n) in
    let back : p.next ≡ q.next = sym p.moves ∙ ((λ i. forth (Tok Operator IdentifierName (vars (s i))) x) ∙ q.moves) in
    let i = at_end l.walk in
    let j = at_end r.walk in
    let same' = declarators_same l.trees r.trees l.enough' r.enough' (all_parts (subst All l.is (each_all o))).0 (kept_list (subst Kepts l.is g)) (kept_list (subst Kepts r.is g'))
    l.read (move_items back r.read) (subst (λ z. ended_list z ≡ true) (sym i.1) e) (subst (λ z. ended_list z ≡ true) (sym j.1) f) in
    let forests : cs ≡ ds = (l.is ∙ ap (part (list l.trees)) i.0) ∙ ((λ i. part (list (same'.trees i)) none) ∙ sym (r.is ∙ ap (part (list r.trees)) j.0)) in
    record { tree = λ i. node (statement (ForDeclaration (s i))) (forests i); place = sym i.1 ∙ (same'.place ∙ j.1) }
init_same {x = x} o h k (declares a g m) (expresses {t = u} r) c d e f = absurd (word_start a x (declares_word a m) (init_starts u k r d))
init_same {x = x} o h k (expresses {t = t} r) (declares b g n) c d e f = absurd (word_start b x (declares_word b n) (init_starts t h r c))
init_same o h k (expresses {t = t} r) (expresses {t = u} s) c d e f = whole_same t u (tame_of t (Expr 0) refl h r.is) (tame_of u (Expr 0) refl k s.is) r s c d

pub head_same : {v w : Surroundings} {x y z : Place} {t u : Tree} → Kept t → Kept u → Head v x t y → Head w x u z → calm 17 y ≡ true → calm 17 z ≡ true → SameAt t u y z
head_same {w = w} {x = x} {y} {z} h k (binds {cs = cs} a g m) (binds {cs = ds} b g' n) c d =
    let p = at_sign m.walk in
    let q = at_sign n.walk in
    let l = at_part p.walk in
    let r = at_part q.walk in
    let s = words_same a b (binds_word a m) (binds_word b n) in
    let back : p.next ≡ q.next = sym p.moves ∙ ((λ i. forth (Tok Operator IdentifierName (vars (s i))) x) ∙ q.moves) in
    let i = at_end l.walk in
    let j = at_end r.walk in
    let same' = pattern_part l.tree r.tree (kept_left (subst Kepts l.is g)) (kept_left (subst Kepts r.is g')) l.read (subst (λ x. IsRead (W.around w ds []) false (Pat Binds) x r.tree r.next) (sym back) r.read) in
    let forests : cs ≡ ds = (l.is ∙ ap (part l.tree) i.0) ∙ ((λ i. part (same'.tree i) none) ∙ sym (r.is ∙ ap (part r.tree) j.0)) in
    record { tree = λ i. node (statement (ForBinding (s i))) (forests i); place = sym i.1 ∙ (same'.place ∙ j.1) }
head_same {x = x} h k (binds a g m) (targets {t = u} r) c d = absurd (word_start a x (binds_word a m) (target_starts u k r d))
head_same {x = x} h k (targets {t = t} r) (binds b g n) c d = absurd (word_start b x (binds_word b n) (target_starts t h r c))
head_same h k (targets {t = t} r) (targets {t = u} s) c d = expr_same 17 17 (Pat Assigns) t u (omega arith) target_placed refl (tame_of t (Pat Assigns) refl h r.is) (tame_of u (Pat Assigns) refl k s.is) r s c d

-- ---- what the row reads next

abbrev pub mark_next : Text → Production → Bool
mark_next t (Fixed (Tok Operator Punctuator u) ∷ ps) = same u t
mark_next t ps = false

-- a punctuator with which no expression begins
abbrev pub mark_off : Production → Bool
mark_off (Fixed (Tok Operator Punctuator u) ∷ ps) = not (starts 1 u)
mark_off ps = false

mark_found : {V : List Context → Surroundings} (a : List Context) (t : Text) (ps : Production) {x z : Place} {ts : Forest} → mark_next t ps ≡ true → W.Walk IsRead V (pieces a ps) x ts z → IsTrue (is_found (forth (mark t) x))
mark_found a t (Fixed (Tok Operator Punctuator u) ∷ ps) {x} h w =
    let s = signed (Tok Operator Punctuator u) ps a w in
    subst (λ u. is_found (forth (mark u) x) ≡ true) (same_is u t h) (subst (λ z. IsTrue (is_found z)) (sym s.moves) (s.found refl))
mark_found a t (Fixed (Tok Operator _ u) ∷ ps) h w = cc
mark_found a t (Fixed (Tok _ k u) ∷ ps) h w = cc
mark_found a t (Fixed _ ∷ ps) h w = cc
mark_found a t (_ ∷ ps) h w = cc
mark_found a t [] h w = cc

-- ---- a part of a row

abbrev pub begins_good : Production → Nonterminal → Bool
begins_good ps c = (is_init c && (mark_next (codes ";") ps && calm_next 0 ps)) || (is_head c && calm_next 17 ps)

or_left : (a b : Bool) → a ≡ true → (a || b) ≡ true
or_left true b h = refl
or_left false b h = cc

begins_same : {V V' : List Context → Surroundings} {v v' : Surroundings} {a : List Context} {e : Want} {ps : Production} (c : Nonterminal) {x y z : Place} (t u : Tree) → begins_good ps c ≡ true → Each t → Kept t → Kept u
    → IsRead v false c x t y → IsRead v' false c x u z → Rest V a e ps y → Rest V' a e ps z → SameAt t u y z
begins_same {v = v} {v'} {a} {ps = ps} c {x} {y} {z} t u h o k l r s p q = by_init (test (is_init c && (mark_next (codes ";") ps && calm_next 0 ps)))
  where
    by_init : Test (is_init c && (mark_next (codes ";") ps && calm_next 0 ps)) → SameAt t u y z
    by_init (yes' g) =
        let i = init_is c (and_left (is_init c) _ g) in
        let m = and_right (is_init c) _ g in
        let n = and_right (mark_next (codes ";") ps) _ m in
        let f = and_left (mark_next (codes ";") ps) _ m in
        init_same o k l (init_view t k (subst (λ c. IsRead v false c x t y) i r)) (init_view u l (subst (λ c. IsRead v' false c x u z) i s)) (next_calm 0 a ps n p.walk) (next_calm 0 a ps n q.walk)
        (or_left _ _ (mark_found a (codes ";") ps f p.walk)) (or_left _ _ (mark_found a (codes ";") ps f q.walk))
    by_init (no' g) =
        let m = or_else (is_init c && (mark_next (codes ";") ps && calm_next 0 ps)) _ h g in
        let i = and_left (is_head c) _ m in
        let n = and_right (is_head c) _ m in
        head_same k l (head_view c t i k r) (head_view c u i l s) (next_calm 17 a ps n p.walk) (next_calm 17 a ps n q.walk)

abbrev pub any_good : Want → Production → Nonterminal → Bool
any_good e ps c = part_good e ps c || (begins_good ps c || member_good ps c)

pub any_same : {V V' : List Context → Surroundings} {v v' : Surroundings} {a : List Context} {e : Want} {ps : Production} (c : Nonterminal) {x y z : Place} (t u : Tree) → any_good e ps c ≡ true → Each t → Kept t → Kept u
    → IsRead v false c x t y → IsRead v' false c x u z → Rest V a e ps y → Rest V' a e ps z → SameAt t u y z
any_same {e = e} {ps} c {x} {y} {z} t u h o k l r s p q = by_part (test (part_good e ps c))
  where
    by_begins : Test (begins_good ps c) → (begins_good ps c || member_good ps c) ≡ true → SameAt t u y z
    by_begins (yes' g) f = begins_same c t u g o k l r s p q
    by_begins (no' g) f = member_same c t u (or_else (begins_good ps c) _ f g) k l r s p q

    by_part : Test (part_good e ps c) → SameAt t u y z
    by_part (yes' g) = part_same c t u g o k l r s p q
    by_part (no' g) = by_begins (test (begins_good ps c)) (or_else (part_good e ps c) _ h g)

-- ---- an expression that may be absent before a punctuator

abbrev pub no_signs : List Sign → Bool
no_signs [] = true
no_signs ms = false

-- what stands behind the part where it is there, and in place of it where it isn't
abbrev pub head_starts : List Sign → Nonterminal → Production → Production → Bool
head_starts ms c qs ps = no_signs ms && ((is_whole c || is_init c) && (calm_next 0 qs && mark_off ps))

pub none_is : (ms : List Sign) → no_signs ms ≡ true → ms ≡ []
none_is [] h = refl
none_is (m ∷ ms) h = cc

off_seen : {V : List Context → Surroundings} {P : Type 0} (a : List Context) (ps : Production) {x z : Place} {ts : Forest} → mark_off ps ≡ true → W.Walk IsRead V (pieces a ps) x ts z → ((u : Text) → starts 1 u ≡ false → Seen x Punctuator u → P) → P
off_seen a (Fixed (Tok Operator Punctuator u) ∷ ps) {x} h w rest =
    let s = signed (Tok Operator Punctuator u) ps a w in
    rest u (not_is _ h) (took Punctuator u x s.moves (s.found refl))
off_seen a (Fixed (Tok Operator _ u) ∷ ps) h w rest = cc
off_seen a (Fixed (Tok _ k u) ∷ ps) h w rest = cc
off_seen a (Fixed _ ∷ ps) h w rest = cc
off_seen a (_ ∷ ps) h w rest = cc
off_seen a [] h w rest = cc

pub starts_apart : {V V' : List Context → Surroundings} {v : Surroundings} (a : List Context) (ms : List Sign) (c : Nonterminal) (qs ps : Production) (x : Place) {y z w w' : Place} {ts us : Forest} (t : Tree) → head_starts ms c qs ps ≡ true
    → W.Walk IsRead V (pieces a ps) x ts w → W.Walk IsRead V' (pieces a qs) z us w' → scan x ms ≡ y → Kept t → IsRead v false c y t z → ⊥
starts_apart {v = v} a ms c qs ps x {y} {z} t h i j e k r = off_seen a ps off i by_seen
  where
    o : ((is_whole c || is_init c) && (calm_next 0 qs && mark_off ps)) ≡ true
    o = and_right (no_signs ms) _ h

    off : mark_off ps ≡ true
    off = and_right (calm_next 0 qs) _ (and_right (is_whole c || is_init c) _ o)

    quiet : calm 0 z ≡ true
    quiet = next_calm 0 a qs (and_left (calm_next 0 qs) _ (and_right (is_whole c || is_init c) _ o)) j

    back : x ≡ y
    back = ap (scan x) (sym (none_is ms (and_left (no_signs ms) _ h))) ∙ e

    by_whole : (u : Text) → starts 1 u ≡ false → Seen y Punctuator u → Test (is_whole c) → ⊥
    by_whole u n s (yes' g) = mark_start y n s (init_starts t k (subst (λ c. IsRead v false c y t z) (whole_is c g) r) quiet)
    by_whole u n s (no' g) =
        let f = init_is c (or_else (is_whole c) _ (and_left (is_whole c || is_init c) _ o) g) in
        init_mark k (init_view t k (subst (λ c. IsRead v false c y t z) f r)) quiet n s

    by_seen : (u : Text) → starts 1 u ≡ false → Seen x Punctuator u → ⊥
    by_seen u n s = by_whole u n (subst (λ z. Seen z Punctuator u) back s) (test (is_whole c))
