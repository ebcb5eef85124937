-- The attributes of a tag: two that begin at one place are one, where no value can stand behind.
use Rattle.std.proofs.Common.{◌≡◌, true, false, List, [], refl, sym, ◌∙◌, ap, subst}
use Rattle.std.specs.Prelude.{IsTrue, codes}
use Rattle.jsx_base.specs.Token.{Text, Tag, TokenKind, IdentifierName, Punctuator, JsxName, JsxString}
use Rattle.jsx_tree.specs.Signs.{Tok, Unless}
use Rattle.jsx_tree.specs.Kinds.{Element, ElementWithChildren, Fragment, Attribute, Container, JsxSpread, Kind, jsx, Tree, leaf, node, list, Forest, none, part}
use Rattle.jsx_tree.specs.Nonterminals.{Attributes, AttributeValue, leaf_in}
use Rattle.jsx_tree.specs.Grammar.{Context, tag}
use Rattle.jsx_tree.specs.StaticRules.{Surroundings}
use Rattle.jsx_tree.specs.Spelling.{spelled}
use Rattle.jsx_tree.specs.Reading.{Place, forth}
use Rattle.jsx_tree.specs.Walk as W
use Rattle.jsx_tree.specs.Walk.{is_found, IsRead}
use Rattle.jsx_tree.proofs.Tokens.{and_left}
use Rattle.jsx_tree.proofs.Rows.Bridge.{node_walk}
use Rattle.jsx_tree.proofs.OneTree.Facts.{found_at}
use Rattle.jsx_tree.proofs.OneTree.Angles.{angle_in_tag}
use Rattle.jsx_tree.proofs.OneTree.Sealed.{is_sealed, is_element, Sealed, sealed_same}
use Rattle.jsx_tree.proofs.OneTree.Evidence.{Kept, Kepts, kept_left, kept_right, kept_list, kept_parts}
use Rattle.jsx_tree.proofs.OneTree.Chains.{seals, element_first}
use Rattle.jsx_tree.proofs.OneTree.Parts.{SameAt}
use Rattle.jsx_tree.proofs.OneTree.Wants.{look_same}
use Rattle.jsx_tree.proofs.OneTree.Endings.{found_first}
use Rattle.jsx_tree.proofs.OneTree.Ahead.{Ahead, ahead, unlike, tokens_same, signs_same, tokens_clash, Listing, Reader}
use Rattle.jsx_tree.proofs.OneTree.Tags.{TagKind, tag_kind_at}
use Rattle.jsx_tree.proofs.OneTree.TagNames.{Named, attribute_name, is_name, closing, behind_attribute, behind_name, named_behind, closed_behind, to_name, name_here, named_same}
use Rattle.jsx_tree.proofs.OneTree.Fine.{one_sign}
use Rattle.jsx_tree.proofs.OneTree.InBraces.{Braced, brace_here, braced_same, braced_at}

-- an attribute's value: a string, what stands in braces, or an element
pub data Valued : Place → Tree → Place → Type 0 where
  quoted : {x y : Place} (t : Text) → forth (Tok Tag JsxString t) x ≡ y → IsTrue (is_found y) → Valued x (leaf JsxString t) y
  held : {x y : Place} {t : Tree} → Braced Tag x t y → Valued x t y
  element : {x y : Place} {k : Kind} {cs : Forest} → IsTrue (is_found (forth (tag "<") x)) → Sealed x k cs y → Valued x (node k cs) y

valued_same : {x x' y z : Place} {t u : Tree} → x ≡ x' → Valued x t y → Valued x' u z → SameAt t u y z
valued_same o (quoted t e f) (quoted u e' f') = let q = tokens_same Tag JsxString t u o e f e' f' in record { tree = ap (leaf JsxString) q.text; place = q.place }
valued_same o (held a) (held b) = braced_same o a b
valued_same {z = z} o (element f a) (element {k = k} {cs = cs} g b) = let q = sealed_same a (subst (λ x. Sealed x k cs z) (sym o) b) in record { tree = q.0; place = q.1 }
valued_same o (quoted t e f) (held b) = absurd (tokens_clash Tag JsxString Punctuator t (codes "{") o e f refl (brace_here b) refl)
valued_same o (held a) (quoted u e f) = absurd (tokens_clash Tag Punctuator JsxString (codes "{") u o refl (brace_here a) e f refl)
valued_same o (quoted t e f) (element g b) = absurd (tokens_clash Tag JsxString Punctuator t (codes "<") o e f refl g refl)
valued_same o (element g a) (quoted u e f) = absurd (tokens_clash Tag Punctuator JsxString (codes "<") u o refl g e f refl)
valued_same o (held a) (element g b) = absurd (tokens_clash Tag Punctuator Punctuator (codes "{") (codes "<") o refl (brace_here a) refl g refl)
valued_same o (element g a) (held b) = absurd (tokens_clash Tag Punctuator Punctuator (codes "<") (codes "{") o refl g refl (brace_here b) refl)

value_leaf : (s : TokenKind) (t : Text) → leaf_in AttributeValue s t ≡ true → s ≡ JsxString
value_leaf JsxString t h = refl
value_leaf IdentifierName t h = cc
value_leaf JsxName t h = cc
value_leaf _ t h = cc

value_element : (k : Kind) (cs : Forest) {v : Surroundings} {x y : Place} → is_element k ≡ true → is_sealed k ≡ true → Kept (node k cs) → IsRead v false AttributeValue x (node k cs) y → Valued x (node k cs) y
value_element k cs {x = x} s p h r = element (angle_in_tag x (element_first k cs s r)) ((seals k cs p h).seals r)

value_node : (k : Kind) (cs : Forest) {v : Surroundings} {x y : Place} → TagKind AttributeValue k → Kept (node k cs) → IsRead v false AttributeValue x (node k cs) y → Valued x (node k cs) y
value_node (jsx Element) cs i h r = value_element (jsx Element) cs refl refl h r
value_node (jsx ElementWithChildren) cs i h r = value_element (jsx ElementWithChildren) cs refl refl h r
value_node (jsx Fragment) cs i h r = value_element (jsx Fragment) cs refl refl h r
value_node (jsx Container) cs i h r = held (braced_at false (jsx Container) cs refl (kept_parts h) r)
value_node (jsx _) cs i h r = let bad = i.at_home in cc
value_node _ cs i h r = let bad = i.of_jsx in cc

value_at : {v : Surroundings} {x y : Place} (t : Tree) → Kept t → IsRead v false AttributeValue x t y → Valued x t y
value_at (list ts) h r = let bad = r.is in cc
value_at (node k cs) h r = value_node k cs (tag_kind_at AttributeValue false k cs refl h r) h r
value_at {v} {x} {y} (leaf s u) h r =
    let e = value_leaf s u (and_left (leaf_in AttributeValue s u) _ r.is) in
    let q : IsRead v false AttributeValue x (leaf JsxString u) y = subst (λ s. IsRead v false AttributeValue x (leaf s u) y) e r in
    subst (λ s. Valued x (leaf s u) y) (sym e) (quoted u (ap (forth (Tok Tag JsxString u)) (sym (one_sign x)) ∙ q.scans) q.found)

-- an attribute: `a`, `a="b"` and the like, or a spread
pub data Attr : Place → Tree → Place → Type 0 where
  bare : {x y : Place} {t : Tree} → Named x t y → Attr x (node (jsx Attribute) (part t (part (list none) none))) y
  given : {x p q y : Place} {t u : Tree} → Named x t p → forth (tag "=") p ≡ q → IsTrue (is_found q) → Valued q u y → Attr x (node (jsx Attribute) (part t (part (list (part u none)) none))) y
  spread : {x y : Place} {t : Tree} → Braced Tag x t y → Attr x t y

attr_first : {x y : Place} {t : Tree} → Attr x t y → Ahead Tag behind_attribute x
attr_first (bare n) = named_behind (name_here n)
attr_first (given n e f v) = named_behind (name_here n)
attr_first (spread b) = ahead Tag behind_attribute Punctuator (codes "{") refl (brace_here b) refl

-- a name doesn't end a tag
named_apart : {x : Place} → Ahead Tag closing x → Ahead Tag is_name x → ⊥
named_apart a b = unlike a refl b.kind b.text refl b.here (not_closing b.kind b.text b.holds)
  where
    not_closing : (k : TokenKind) (t : Text) → is_name k t ≡ true → closing k t ≡ false
    not_closing JsxName t h = refl
    not_closing _ t h = cc

attr_apart : {x y : Place} {t : Tree} → Ahead Tag closing x → Attr x t y → ⊥
attr_apart a (bare n) = named_apart a (name_here n)
attr_apart a (given n e f v) = named_apart a (name_here n)
attr_apart a (spread b) = unlike a refl Punctuator (codes "{") refl (brace_here b) refl

attr_same : {x y z : Place} {t u : Tree} → Attr x t y → Attr x u z → Ahead Tag behind_attribute y → Ahead Tag behind_attribute z → SameAt t u y z
attr_same {x} (bare a) (bare b) m n = let s = named_same {x = x} refl a b (to_name m) (to_name n) in record { tree = ap (λ t. node (jsx Attribute) (part t (part (list none) none))) s.tree; place = s.place }
attr_same {x} (bare a) (given b e f v) m n = let s = named_same {x = x} refl a b (to_name m) (ahead Tag behind_name Punctuator (codes "=") e f refl) in absurd (unlike m s.place Punctuator (codes "=") e f refl)
attr_same {x} (given a e f v) (bare b) m n = let s = named_same {x = x} refl a b (ahead Tag behind_name Punctuator (codes "=") e f refl) (to_name n) in absurd (unlike n (sym s.place) Punctuator (codes "=") e f refl)
attr_same {x} (given a e f v) (given b e' f' v') m n =
    let s = named_same {x = x} refl a b (ahead Tag behind_name Punctuator (codes "=") e f refl) (ahead Tag behind_name Punctuator (codes "=") e' f' refl) in
    let q = valued_same (signs_same (tag "=") s.place e e') v v' in
    record { tree = λ i. node (jsx Attribute) (part (s.tree i) (part (list (part (q.tree i) none)) none)); place = q.place }
attr_same (spread a) (spread b) m n = braced_same refl a b
attr_same (bare a) (spread b) m n = absurd (unlike (name_here a) refl Punctuator (codes "{") refl (brace_here b) refl)
attr_same (given a e f v) (spread b) m n = absurd (unlike (name_here a) refl Punctuator (codes "{") refl (brace_here b) refl)
attr_same (spread a) (bare b) m n = absurd (unlike (name_here b) refl Punctuator (codes "{") refl (brace_here a) refl)
attr_same (spread a) (given b e f v) m n = absurd (unlike (name_here b) refl Punctuator (codes "{") refl (brace_here a) refl)

pub attributes : Listing Attr (Ahead Tag closing) (Ahead Tag behind_attribute)
attributes = record { one = λ r s m n. attr_same r s m n; first = λ r. attr_first r; ended = λ e. closed_behind e; apart = λ e r. attr_apart e r }

attribute_row : {V : List Context → Surroundings} {x y : Place} {cs : Forest} → W.Walk IsRead V (W.row false (jsx Attribute)) x cs y → Kepts cs → Attr x (node (jsx Attribute) cs) y
attribute_row {x = x} (W.next (W.tree {t = t} r) (W.next (W.absent {x = p} {y = q} e f) (W.done g))) h =
    subst (λ y. Attr x (node (jsx Attribute) (part t (part (list none) none))) y) (look_same (Unless []) p q refl e f) (bare (attribute_name t (kept_left h) r))
attribute_row {x = x} (W.next (W.tree {t = t} r) (W.next (W.present {y = p} {t = u} a s b f) (W.done g))) h =
    subst (λ y. Attr x (node (jsx Attribute) (part t (part (list (part u none)) none))) y) b
    (given (attribute_name t (kept_left h) r) a (found_first (spelled u) p (found_at s.scans s.found)) (value_at u (kept_left (kept_list (kept_right h))) s))

attr_node : (k : Kind) (cs : Forest) {v : Surroundings} {x y : Place} → TagKind Attributes k → Kepts cs → IsRead v false Attributes x (node k cs) y → Attr x (node k cs) y
attr_node (jsx Attribute) cs i h r = attribute_row (node_walk false (jsx Attribute) refl r).walk h
attr_node (jsx JsxSpread) cs i h r = spread (braced_at false (jsx JsxSpread) cs refl h r)
attr_node (jsx _) cs i h r = let bad = i.at_home in cc
attr_node _ cs i h r = let bad = i.of_jsx in cc

attr_leaf : (s : TokenKind) (t : Text) → leaf_in Attributes s t ≡ true → ⊥
attr_leaf IdentifierName t h = cc
attr_leaf JsxName t h = cc
attr_leaf _ t h = cc

attr_at : {v : Surroundings} {x y : Place} (t : Tree) → Kept t → IsRead v false Attributes x t y → Attr x t y
attr_at (leaf s u) h r = absurd (attr_leaf s u (and_left (leaf_in Attributes s u) _ r.is))
attr_at (list ts) h r = let bad = r.is in cc
attr_at (node k cs) h r = attr_node k cs (tag_kind_at Attributes false k cs refl h r) (kept_parts h) r

pub attr_reader : {v : Surroundings} → Reader Attr v false Attributes
attr_reader = record { reads = λ x y t h r. attr_at t h r }
