-- What stands between tags: text, braces and elements, up to the tag that ends them.
use Rattle.std.proofs.Common.{◌≡◌, Bool, true, List, refl, sym, ◌∙◌, ap, subst}
use Rattle.std.specs.Prelude.{IsTrue, ◌||◌, codes}
use Rattle.jsx_base.specs.Token.{Text, Tag, Children, TokenKind, IdentifierName, Punctuator, JsxName, JsxText}
use Rattle.jsx_tree.specs.Signs.{Tok}
use Rattle.jsx_tree.specs.Kinds.{Element, ElementWithChildren, Fragment, Container, EmptyContainer, JsxSpread, Kind, jsx, Tree, leaf, node, list, Forest}
use Rattle.jsx_tree.specs.Nonterminals.{Child, leaf_in}
use Rattle.jsx_tree.specs.Grammar.{Context, tag}
use Rattle.jsx_tree.specs.StaticRules.{Surroundings}
use Rattle.jsx_tree.specs.Reading.{Place, forth}
use Rattle.jsx_tree.specs.Walk as W
use Rattle.jsx_tree.specs.Walk.{is_found, IsRead}
use Rattle.jsx_tree.proofs.Tokens.{and_left}
use Rattle.jsx_tree.proofs.Rows.Bridge.{node_walk}
use Rattle.jsx_tree.proofs.OneTree.Checks.{same_token}
use Rattle.jsx_tree.proofs.OneTree.Sealed.{is_element, Closed, closed_same}
use Rattle.jsx_tree.proofs.OneTree.Evidence.{Kept, Kepts, kept_left, kept_parts}
use Rattle.jsx_tree.proofs.OneTree.Parts.{SameAt}
use Rattle.jsx_tree.proofs.OneTree.Ahead.{Ahead, ahead, widen, unlike, tokens_same, signs_same, tokens_clash, Listing, Reader}
use Rattle.jsx_tree.proofs.OneTree.Tags.{TagKind, tag_kind_at}
use Rattle.jsx_tree.proofs.OneTree.TagNames.{tag_name, is_name, or_left, name_here}
use Rattle.jsx_tree.proofs.OneTree.Fine.{one_sign}
use Rattle.jsx_tree.proofs.OneTree.InBraces.{Braced, brace_here, braced_same, braced_at}

abbrev tag_first : TokenKind → Text → Bool
tag_first k t = is_name k t || same_token k t Punctuator (codes ">")

-- an element among text
pub record Inner (x : Place) : Type 0 where
  pub inside : Place
  pub moves : forth (Tok Children Punctuator (codes "<")) x ≡ inside
  pub found : IsTrue (is_found inside)
  pub begins : Ahead Tag tag_first inside

-- the tag that ends an element, to its slash
pub record Shut (x : Place) (y : Place) : Type 0 where
  pub inside : Place
  pub moves : forth (Tok Children Punctuator (codes "<")) x ≡ inside
  pub found : IsTrue (is_found inside)
  pub slash : forth (tag "/") inside ≡ y
  pub found' : IsTrue (is_found y)

pub record Ends (x : Place) : Type 0 where
  pub behind : Place
  pub shut : Shut x behind

-- what stands among text
pub data Held : Place → Tree → Place → Type 0 where
  said : {x y : Place} (t : Text) → forth (Tok Children JsxText t) x ≡ y → IsTrue (is_found y) → Held x (leaf JsxText t) y
  held : {x y : Place} {t : Tree} → Braced Children x t y → Held x t y
  inner : {x y : Place} {k : Kind} {cs : Forest} → Closed is_element true Child x k cs y → Inner x → Held x (node k cs) y

held_same : {x y z : Place} {t u : Tree} → Held x t y → Held x u z → SameAt t u y z
held_same {x} (said t e f) (said u e' f') = let q = tokens_same Children JsxText t u {x = x} refl e f e' f' in record { tree = ap (leaf JsxText) q.text; place = q.place }
held_same (held a) (held b) = braced_same refl a b
held_same (inner a i) (inner b j) = let q = closed_same a b in record { tree = q.0; place = q.1 }
held_same {x} (said t e f) (held b) = absurd (tokens_clash Children JsxText Punctuator t (codes "{") {x = x} refl e f refl (brace_here b) refl)
held_same {x} (held a) (said u e f) = absurd (tokens_clash Children Punctuator JsxText (codes "{") u {x = x} refl refl (brace_here a) e f refl)
held_same {x} (said t e f) (inner b j) = absurd (tokens_clash Children JsxText Punctuator t (codes "<") {x = x} refl e f j.moves j.found refl)
held_same {x} (inner a i) (said u e f) = absurd (tokens_clash Children Punctuator JsxText (codes "<") u {x = x} refl i.moves i.found e f refl)
held_same {x} (held a) (inner b j) = absurd (tokens_clash Children Punctuator Punctuator (codes "{") (codes "<") {x = x} refl refl (brace_here a) j.moves j.found refl)
held_same {x} (inner a i) (held b) = absurd (tokens_clash Children Punctuator Punctuator (codes "<") (codes "{") {x = x} refl i.moves i.found refl (brace_here b) refl)

held_apart : {x y : Place} {t : Tree} → Ends x → Held x t y → ⊥
held_apart {x} s (said t e f) = tokens_clash Children Punctuator JsxText (codes "<") t {x = x} refl s.shut.moves s.shut.found e f refl
held_apart {x} s (held b) = tokens_clash Children Punctuator Punctuator (codes "<") (codes "{") {x = x} refl s.shut.moves s.shut.found refl (brace_here b) refl
held_apart {x} s (inner a i) = unlike i.begins (signs_same (Tok Children Punctuator (codes "<")) {x = x} refl i.moves s.shut.moves) Punctuator (codes "/") s.shut.slash s.shut.found' refl

pub children : Listing Held Ends (λ x. Unit {0})
children = record { one = λ r s m n. held_same r s; first = λ r. tt; ended = λ e. tt; apart = λ e r. held_apart e r }

named_first : {x : Place} → Ahead Tag is_name x → Ahead Tag tag_first x
named_first a = widen (λ k t h. or_left (is_name k t) _ h) a

inner_at : (k : Kind) {V : List Context → Surroundings} {x y : Place} {cs : Forest} → is_element k ≡ true → W.Walk IsRead V (W.row true k) x cs y → Kepts cs → Inner x
inner_at (jsx Element) s (W.next (W.sign e f) (W.next (W.tree {t = t} r) w)) h = record { inside = _; moves = e; found = f; begins = named_first (name_here (tag_name t (kept_left h) r)) }
inner_at (jsx ElementWithChildren) s (W.next (W.sign e f) (W.next (W.tree {t = t} r) w)) h = record { inside = _; moves = e; found = f; begins = named_first (name_here (tag_name t (kept_left h) r)) }
inner_at (jsx Fragment) s (W.next (W.sign e f) (W.next (W.sign g i) w)) h = record { inside = _; moves = e; found = f; begins = ahead Tag tag_first Punctuator (codes ">") g i refl }
inner_at (jsx _) s w h = cc
inner_at _ s w h = cc

child_element : (k : Kind) (cs : Forest) {v : Surroundings} {x y : Place} → is_element k ≡ true → W.Walk IsRead (W.around v cs) (W.row true k) x cs y → Kept (node k cs) → IsRead v true Child x (node k cs) y → Held x (node k cs) y
child_element k cs {v} s w e r =
    inner (record { kind' = s; bound = e.bound; small = e.small; good = e.good; surroundings = v; read = r; law = λ l ds t m g q. e.law.of_children.one k l cs ds s t e.small m e.good g r q }) (inner_at k s w (kept_parts e))

child_node : (k : Kind) (cs : Forest) {v : Surroundings} {x y : Place} → TagKind Child k → Kept (node k cs) → IsRead v true Child x (node k cs) y → Held x (node k cs) y
child_node (jsx Element) cs i h r = child_element (jsx Element) cs refl (node_walk true (jsx Element) refl r).walk h r
child_node (jsx ElementWithChildren) cs i h r = child_element (jsx ElementWithChildren) cs refl (node_walk true (jsx ElementWithChildren) refl r).walk h r
child_node (jsx Fragment) cs i h r = child_element (jsx Fragment) cs refl (node_walk true (jsx Fragment) refl r).walk h r
child_node (jsx Container) cs i h r = held (braced_at true (jsx Container) cs refl (kept_parts h) r)
child_node (jsx EmptyContainer) cs i h r = held (braced_at true (jsx EmptyContainer) cs refl (kept_parts h) r)
child_node (jsx JsxSpread) cs i h r = held (braced_at true (jsx JsxSpread) cs refl (kept_parts h) r)
child_node (jsx _) cs i h r = let bad = i.at_home in cc
child_node _ cs i h r = let bad = i.of_jsx in cc

child_leaf : (s : TokenKind) (t : Text) → leaf_in Child s t ≡ true → s ≡ JsxText
child_leaf JsxText t h = refl
child_leaf IdentifierName t h = cc
child_leaf JsxName t h = cc
child_leaf _ t h = cc

child_at : {v : Surroundings} {x y : Place} (t : Tree) → Kept t → IsRead v true Child x t y → Held x t y
child_at (list ts) h r = let bad = r.is in cc
child_at (node k cs) h r = child_node k cs (tag_kind_at Child true k cs refl h r) h r
child_at {v} {x} {y} (leaf s u) h r =
    let e = child_leaf s u (and_left (leaf_in Child s u) _ r.is) in
    let q : IsRead v true Child x (leaf JsxText u) y = subst (λ s. IsRead v true Child x (leaf s u) y) e r in
    subst (λ s. Held x (leaf s u) y) (sym e) (said u (ap (forth (Tok Children JsxText u)) (sym (one_sign x)) ∙ q.scans) q.found)

pub child_reader : {v : Surroundings} → Reader Held v true Child
child_reader = record { reads = λ x y t h r. child_at t h r }
