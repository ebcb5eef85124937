-- Names in tags: two that begin at one place are one, where nothing that goes on with them stands behind.
use Rattle.std.proofs.Common.{◌≡◌, Bool, true, false, not, List, refl, sym, ◌∙◌, ap, subst}
use Rattle.std.specs.Prelude.{IsTrue, ◌||◌, codes}
use Rattle.jsx_base.specs.Token.{Text, Tag, TokenKind, IdentifierName, Punctuator, JsxName}
use Rattle.jsx_tree.specs.Signs.{Tok}
use Rattle.jsx_tree.specs.Kinds.{NamespacedName, MemberName, Kind, jsx, Tree, leaf, node, list, Forest, none, part}
use Rattle.jsx_tree.specs.Nonterminals.{Nonterminal, TagName, AttributeName, MemberRoot, MemberPart, JsxWord, homes, in_homes, leaf_in}
use Rattle.jsx_tree.specs.Grammar.{Dotted, Context, tag}
use Rattle.jsx_tree.specs.Form.{enough}
use Rattle.jsx_tree.specs.StaticRules.{Surroundings}
use Rattle.jsx_tree.specs.Spelling.{spelled}
use Rattle.jsx_tree.specs.Reading.{Place, forth}
use Rattle.jsx_tree.specs.Walk as W
use Rattle.jsx_tree.specs.Walk.{is_found, IsRead}
use Rattle.jsx_tree.proofs.Tokens.{and_left}
use Rattle.jsx_tree.proofs.Rows.Bridge.{node_walk}
use Rattle.jsx_tree.proofs.OneTree.Fine.{one_sign}
use Rattle.jsx_tree.proofs.OneTree.Checks.{every, same_token}
use Rattle.jsx_tree.proofs.OneTree.Facts.{never, not_is, found_at}
use Rattle.jsx_tree.proofs.OneTree.Evidence.{Kept, Kepts, kept_left, kept_right, kept_list, kept_parts}
use Rattle.jsx_tree.proofs.OneTree.Tags.{jsx_kinds, for_jsx}
use Rattle.jsx_tree.proofs.OneTree.Parts.{SameAt}
use Rattle.jsx_tree.proofs.OneTree.Endings.{found_first}
use Rattle.jsx_tree.proofs.OneTree.Lists.{SameRow}
use Rattle.jsx_tree.proofs.OneTree.Ahead.{Ahead, ahead, widen, unlike, tokens_same, signs_same, tokens_clash}
use Rattle.jsx_tree.proofs.OneTree.Tags.{TagKind, tag_kind_at, in_tag}

-- where a word stands
abbrev wordy : Nonterminal → Bool
wordy MemberRoot = true
wordy MemberPart = true
wordy JsxWord = true
wordy c = false

-- where a name stands: a word, or more
abbrev namely : Nonterminal → Bool
namely TagName = true
namely AttributeName = true
namely c = wordy c

name_leaf : (c : Nonterminal) (s : TokenKind) (t : Text) → namely c ≡ true → leaf_in c s t ≡ true → s ≡ JsxName
name_leaf c JsxName t o h = refl
name_leaf TagName IdentifierName t o h = cc
name_leaf TagName _ t o h = cc
name_leaf AttributeName IdentifierName t o h = cc
name_leaf AttributeName _ t o h = cc
name_leaf MemberRoot IdentifierName t o h = cc
name_leaf MemberRoot _ t o h = cc
name_leaf MemberPart IdentifierName t o h = cc
name_leaf MemberPart _ t o h = cc
name_leaf JsxWord IdentifierName t o h = cc
name_leaf JsxWord _ t o h = cc
name_leaf _ s t o h = cc

wordy_tag : (c : Nonterminal) → wordy c ≡ true → (in_tag c ≡ true) × ((namely c ≡ true) × (every (λ k. not (in_homes c (homes k))) jsx_kinds ≡ true))
wordy_tag MemberRoot o = (refl, (refl, refl))
wordy_tag MemberPart o = (refl, (refl, refl))
wordy_tag JsxWord o = (refl, (refl, refl))
wordy_tag _ o = cc

-- one token of a name
pub record Word (x : Place) (t : Tree) (y : Place) : Type 0 where
  pub text : Text
  pub is_leaf : t ≡ leaf JsxName text
  pub moves : forth (Tok Tag JsxName text) x ≡ y
  pub found : IsTrue (is_found y)

leaf_word : (c : Nonterminal) (s : TokenKind) (t : Text) {v : Surroundings} {x y : Place} → namely c ≡ true → IsRead v false c x (leaf s t) y → Word x (leaf s t) y
leaf_word c s t {v} {x} {y} o r =
    let e = name_leaf c s t o (and_left (leaf_in c s t) _ r.is) in
    let q : IsRead v false c x (leaf JsxName t) y = subst (λ s. IsRead v false c x (leaf s t) y) e r in
    record { text = t; is_leaf = (λ i. leaf (e i) t); moves = ap (forth (Tok Tag JsxName t)) (sym (one_sign x)) ∙ q.scans; found = r.found }

word_at : (c : Nonterminal) {v : Surroundings} {x y : Place} (t : Tree) → wordy c ≡ true → Kept t → IsRead v false c x t y → Word x t y
word_at c (leaf s u) o h r = leaf_word c s u (wordy_tag c o).1.0 r
word_at c (list ts) o h r = let bad = r.is in cc
word_at c (node k cs) o h r =
    let i = tag_kind_at c false k cs (wordy_tag c o).0 h r in
    absurd (never (in_homes c (homes k)) i.at_home (not_is _ (for_jsx (λ k. not (in_homes c (homes k))) (wordy_tag c o).1.1 k i.of_jsx)))

-- the parts of a member's name behind its first dot
pub data Dots : Place → Forest → Place → Type 0 where
  dot_last : {x y : Place} {t : Tree} → Word x t y → Dots x (part t none) y
  dot_more : {x y z w : Place} {t : Tree} {ts : Forest} → Word x t y → forth (tag ".") y ≡ z → IsTrue (is_found z) → Dots z ts w → Dots x (part t ts) w

-- a name: a word, `a:b`, or `a.b.c`
pub data Named : Place → Tree → Place → Type 0 where
  plain : {x y : Place} {t : Tree} → Word x t y → Named x t y
  namespaced : {x p q y : Place} {t u : Tree} → Word x t p → forth (tag ":") p ≡ q → IsTrue (is_found q) → Word q u y → Named x (node (jsx NamespacedName) (part t (part u none))) y
  dotted : {x p q y : Place} {t : Tree} {ts : Forest} → Word x t p → forth (tag ".") p ≡ q → IsTrue (is_found q) → Dots q ts y → Named x (node (jsx MemberName) (part t (part (list ts) none))) y

dots_first : {v : Surroundings} {x y : Place} {ts : Forest} → W.Items IsRead v Dotted MemberPart x ts y → IsTrue (is_found x)
dots_first (W.nil f) = f
dots_first (W.last {y = y} {t = t} r e f) = found_first (spelled t) _ (found_at r.scans r.found)
dots_first (W.more {y = y} {t = t} n r e i) = found_first (spelled t) _ (found_at r.scans r.found)

dots_at : {v : Surroundings} {x y : Place} {ts : Forest} → enough Dotted ts ≡ true → W.Items IsRead v Dotted MemberPart x ts y → Kepts ts → Dots x ts y
dots_at n (W.nil f) h = cc
dots_at {x = x} n (W.last {t = t} r e f) h = subst (λ y. Dots x (part t none) y) e (dot_last (word_at MemberPart t refl (kept_left h) r))
dots_at n (W.more {t = t} m r e i) h = dot_more (word_at MemberPart t refl (kept_left h) r) e (dots_first i) (dots_at refl i (kept_right h))

namespaced_row : {V : List Context → Surroundings} {x y : Place} {cs : Forest} → W.Walk IsRead V (W.row false (jsx NamespacedName)) x cs y → Kepts cs → Named x (node (jsx NamespacedName) cs) y
namespaced_row (W.next (W.tree {t = t} r) (W.next (W.sign e f) (W.next (W.tree {t = u} q) (W.done g)))) h =
    namespaced (word_at JsxWord t refl (kept_left h) r) e f (word_at JsxWord u refl (kept_left (kept_right h)) q)

dotted_row : {V : List Context → Surroundings} {x y : Place} {cs : Forest} → W.Walk IsRead V (W.row false (jsx MemberName)) x cs y → Kepts cs → Named x (node (jsx MemberName) cs) y
dotted_row (W.next (W.tree {t = t} r) (W.next (W.sign e f) (W.next (W.many n i) (W.done g)))) h =
    dotted (word_at MemberRoot t refl (kept_left h) r) e f (dots_at n i (kept_list (kept_right h)))

tag_name_node : (k : Kind) (cs : Forest) {v : Surroundings} {x y : Place} → TagKind TagName k → Kepts cs → IsRead v false TagName x (node k cs) y → Named x (node k cs) y
tag_name_node (jsx NamespacedName) cs i h r = namespaced_row (node_walk false (jsx NamespacedName) refl r).walk h
tag_name_node (jsx MemberName) cs i h r = dotted_row (node_walk false (jsx MemberName) refl r).walk h
tag_name_node (jsx _) cs i h r = let bad = i.at_home in cc
tag_name_node _ cs i h r = let bad = i.of_jsx in cc

pub tag_name : {v : Surroundings} {x y : Place} (t : Tree) → Kept t → IsRead v false TagName x t y → Named x t y
tag_name (leaf s u) h r = plain (leaf_word TagName s u refl r)
tag_name (list ts) h r = let bad = r.is in cc
tag_name (node k cs) h r = tag_name_node k cs (tag_kind_at TagName false k cs refl h r) (kept_parts h) r

attribute_name_node : (k : Kind) (cs : Forest) {v : Surroundings} {x y : Place} → TagKind AttributeName k → Kepts cs → IsRead v false AttributeName x (node k cs) y → Named x (node k cs) y
attribute_name_node (jsx NamespacedName) cs i h r = namespaced_row (node_walk false (jsx NamespacedName) refl r).walk h
attribute_name_node (jsx _) cs i h r = let bad = i.at_home in cc
attribute_name_node _ cs i h r = let bad = i.of_jsx in cc

pub attribute_name : {v : Surroundings} {x y : Place} (t : Tree) → Kept t → IsRead v false AttributeName x t y → Named x t y
attribute_name (leaf s u) h r = plain (leaf_word AttributeName s u refl r)
attribute_name (list ts) h r = let bad = r.is in cc
attribute_name (node k cs) h r = attribute_name_node k cs (tag_kind_at AttributeName false k cs refl h r) (kept_parts h) r

-- what a name begins with, what ends a tag, and what stands behind an attribute and behind a name
abbrev pub is_name : TokenKind → Text → Bool
is_name JsxName t = true
is_name k t = false

abbrev pub closing : TokenKind → Text → Bool
closing k t = same_token k t Punctuator (codes "/") || same_token k t Punctuator (codes ">")

abbrev pub behind_attribute : TokenKind → Text → Bool
behind_attribute k t = is_name k t || (same_token k t Punctuator (codes "{") || closing k t)

abbrev pub behind_name : TokenKind → Text → Bool
behind_name k t = behind_attribute k t || same_token k t Punctuator (codes "=")

pub or_left : (a b : Bool) → a ≡ true → (a || b) ≡ true
or_left true b h = refl
or_left false b h = cc

or_right : (a b : Bool) → b ≡ true → (a || b) ≡ true
or_right true b h = refl
or_right false b h = h

-- each of these tests holds wherever the one before it does
pub named_behind : {x : Place} → Ahead Tag is_name x → Ahead Tag behind_attribute x
named_behind a = widen (λ k t h. or_left (is_name k t) _ h) a

pub closed_behind : {x : Place} → Ahead Tag closing x → Ahead Tag behind_attribute x
closed_behind a = widen (λ k t h. or_right (is_name k t) _ (or_right (same_token k t Punctuator (codes "{")) _ h)) a

pub to_name : {x : Place} → Ahead Tag behind_attribute x → Ahead Tag behind_name x
to_name a = widen (λ k t h. or_left (behind_attribute k t) _ h) a

word_here : {x y : Place} {t : Tree} → Word x t y → Ahead Tag is_name x
word_here a = ahead Tag is_name JsxName a.text a.moves a.found refl

pub name_here : {x y : Place} {t : Tree} → Named x t y → Ahead Tag is_name x
name_here (plain a) = word_here a
name_here (namespaced a e f b) = word_here a
name_here (dotted a e f d) = word_here a

words_same : {x x' y z : Place} {t u : Tree} → x ≡ x' → Word x t y → Word x' u z → SameAt t u y z
words_same o a b =
    let q = tokens_same Tag JsxName a.text b.text o a.moves a.found b.moves b.found in
    record { tree = a.is_leaf ∙ (ap (leaf JsxName) q.text ∙ sym b.is_leaf); place = q.place }

dots_same : {x x' y z : Place} {ts us : Forest} → x ≡ x' → Dots x ts y → Dots x' us z → Ahead Tag behind_name y → Ahead Tag behind_name z → SameRow ts us y z
dots_same o (dot_last a) (dot_last b) m n = let p = words_same o a b in record { trees = ap (λ t. part t none) p.tree; place = p.place }
dots_same o (dot_last a) (dot_more b e f d) m n = absurd (unlike m (words_same o a b).place Punctuator (codes ".") e f refl)
dots_same o (dot_more a e f d) (dot_last b) m n = absurd (unlike n (sym (words_same o a b).place) Punctuator (codes ".") e f refl)
dots_same o (dot_more a e f d) (dot_more b e' f' d') m n =
    let p = words_same o a b in
    let q = dots_same (signs_same (tag ".") p.place e e') d d' m n in
    record { trees = λ i. part (p.tree i) (q.trees i); place = q.place }

pub named_same : {x x' y z : Place} {t u : Tree} → x ≡ x' → Named x t y → Named x' u z → Ahead Tag behind_name y → Ahead Tag behind_name z → SameAt t u y z
named_same o (plain a) (plain b) m n = words_same o a b
named_same o (plain a) (namespaced b e f d) m n = absurd (unlike m (words_same o a b).place Punctuator (codes ":") e f refl)
named_same o (plain a) (dotted b e f d) m n = absurd (unlike m (words_same o a b).place Punctuator (codes ".") e f refl)
named_same o (namespaced a e f d) (plain b) m n = absurd (unlike n (sym (words_same o a b).place) Punctuator (codes ":") e f refl)
named_same o (dotted a e f d) (plain b) m n = absurd (unlike n (sym (words_same o a b).place) Punctuator (codes ".") e f refl)
named_same o (namespaced a e f d) (dotted b e' f' d') m n = absurd (tokens_clash Tag Punctuator Punctuator (codes ":") (codes ".") (words_same o a b).place e f e' f' refl)
named_same o (dotted a e f d) (namespaced b e' f' d') m n = absurd (tokens_clash Tag Punctuator Punctuator (codes ".") (codes ":") (words_same o a b).place e f e' f' refl)
named_same o (namespaced a e f d) (namespaced b e' f' d') m n =
    let p = words_same o a b in
    let q = words_same (signs_same (tag ":") p.place e e') d d' in
    record { tree = λ i. node (jsx NamespacedName) (part (p.tree i) (part (q.tree i) none)); place = q.place }
named_same o (dotted a e f d) (dotted b e' f' d') m n =
    let p = words_same o a b in
    let q = dots_same (signs_same (tag ".") p.place e e') d d' m n in
    record { tree = λ i. node (jsx MemberName) (part (p.tree i) (part (list (q.trees i)) none)); place = q.place }
