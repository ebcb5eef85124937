-- What stands next, read in any mode, and trees one behind another.
use Rattle.std.proofs.Common.{◌≡◌, Bool, true, false, refl, sym, ◌∙◌, ap, subst}
use Rattle.std.specs.Prelude.{IsTrue}
use Rattle.std.proofs.lemmas.Bool.{eq-eqb}
use Rattle.jsx_base.specs.Token.{Text, Mode, TokenKind}
use Rattle.jsx_tree.specs.Signs.{Sign, Tok}
use Rattle.jsx_tree.specs.Kinds.{Tree, Forest, none, part}
use Rattle.jsx_tree.specs.Nonterminals.{Nonterminal}
use Rattle.jsx_tree.specs.Grammar.{ListShape, Spaced, JsxChildren}
use Rattle.jsx_tree.specs.StaticRules.{Surroundings}
use Rattle.jsx_tree.specs.Spelling.{between, behind, spelled}
use Rattle.jsx_tree.specs.Reading.{Place, forth, scan}
use Rattle.jsx_tree.specs.Walk as W
use Rattle.jsx_tree.specs.Walk.{is_found, IsRead}
use Rattle.jsx_tree.proofs.Tokens.{and_both, same_self}
use Rattle.jsx_tree.proofs.OneTree.Checks.{same_token}
use Rattle.jsx_tree.proofs.OneTree.Facts.{never, kind_is, found_at}
use Rattle.jsx_tree.proofs.OneTree.Pairs.{one_token}
use Rattle.jsx_tree.proofs.OneTree.Evidence.{Kept, Kepts, kept_left, kept_right}
use Rattle.jsx_tree.proofs.OneTree.Parts.{SameAt}
use Rattle.jsx_tree.proofs.OneTree.Lists.{SameRow}

-- ---- what stands next, read in a mode

-- a token that the test holds of
pub record Ahead (m : Mode) (p : TokenKind → Text → Bool) (x : Place) : Type 0 where
  pub kind : TokenKind
  pub text : Text
  pub here : IsTrue (is_found (forth (Tok m kind text) x))
  pub holds : p kind text ≡ true

pub ahead : (m : Mode) (p : TokenKind → Text → Bool) (k : TokenKind) (t : Text) {x y : Place} → forth (Tok m k t) x ≡ y → IsTrue (is_found y) → p k t ≡ true → Ahead m p x
ahead m p k t e f h = record { kind = k; text = t; here = found_at e f; holds = h }

pub widen : {m : Mode} {p q : TokenKind → Text → Bool} {x : Place} → ((k : TokenKind) (t : Text) → p k t ≡ true → q k t ≡ true) → Ahead m p x → Ahead m q x
widen f a = record { kind = a.kind; text = a.text; here = a.here; holds = f a.kind a.text a.holds }

-- a token that it doesn't hold of doesn't stand there
pub unlike : {m : Mode} {p : TokenKind → Text → Bool} {x x' y : Place} → Ahead m p x → x ≡ x' → (k : TokenKind) (t : Text) → forth (Tok m k t) x' ≡ y → IsTrue (is_found y) → p k t ≡ false → ⊥
unlike {m} {p} {x} a o k t e f n =
    let q = one_token m a.kind k a.text t x a.here (found_at (ap (forth (Tok m k t)) o ∙ e) f) in
    let r = kind_is a.kind k q.0 in
    never (p k t) ((λ i. p (sym r i) (sym q.1 i)) ∙ a.holds) n

-- two readings of one symbol lead to one place
pub record SameToken (t u : Text) (y z : Place) : Type 0 where
  pub text : t ≡ u
  pub place : y ≡ z

pub tokens_same : (m : Mode) (k : TokenKind) (t u : Text) {x x' y z : Place} → x ≡ x' → forth (Tok m k t) x ≡ y → IsTrue (is_found y) → forth (Tok m k u) x' ≡ z → IsTrue (is_found z) → SameToken t u y z
tokens_same m k t u {x} o e f e' f' =
    let q = one_token m k k t u x (found_at e f) (found_at (ap (forth (Tok m k u)) o ∙ e') f') in
    record { text = q.1; place = sym e ∙ ((λ i. forth (Tok m k (q.1 i)) (o i)) ∙ e') }

pub signs_same : (s : Sign) {x x' y z : Place} → x ≡ x' → forth s x ≡ y → forth s x' ≡ z → y ≡ z
signs_same s o e e' = sym e ∙ (ap (forth s) o ∙ e')

-- two tokens that differ don't stand at one place
pub tokens_clash : (m : Mode) (k l : TokenKind) (t u : Text) {x x' y z : Place} → x ≡ x' → forth (Tok m k t) x ≡ y → IsTrue (is_found y) → forth (Tok m l u) x' ≡ z → IsTrue (is_found z) → same_token l u k t ≡ false → ⊥
tokens_clash m k l t u {x} o e f e' f' n = unlike (ahead m (λ l u. same_token l u k t) k t e f (and_both _ _ (eq-eqb _ _ refl) (same_self t))) o l u e' f' n

-- ---- trees one behind another

pub data Run (R : Place → Tree → Place → Type 0) : Place → Forest → Place → Type 0 where
  stop : {x : Place} → Run R x none x
  go : {x y z : Place} {t : Tree} {ts : Forest} → R x t y → Run R y ts z → Run R x (part t ts) z

-- what ends such a run, and what stands behind each tree of it
pub record Listing (R : Place → Tree → Place → Type 0) (E F : Place → Type 0) : Type 0 where
  pub one : {x y z : Place} {t u : Tree} → R x t y → R x u z → F y → F z → SameAt t u y z
  pub first : {x y : Place} {t : Tree} → R x t y → F x
  pub ended : {x : Place} → E x → F x
  pub apart : {x y : Place} {t : Tree} → E x → R x t y → ⊥

pub run_first : {R : Place → Tree → Place → Type 0} {E F : Place → Type 0} {x y : Place} {ts : Forest} → Listing R E F → Run R x ts y → E y → F x
run_first l stop e = l.ended e
run_first l (go r q) e = l.first r

pub runs_same : {R : Place → Tree → Place → Type 0} {E F : Place → Type 0} {x y z : Place} {ts us : Forest} → Listing R E F → Run R x ts y → Run R x us z → E y → E z → SameRow ts us y z
runs_same l stop stop e f = record { trees = refl; place = refl }
runs_same l stop (go r q) e f = absurd (l.apart e r)
runs_same l (go r q) stop e f = absurd (l.apart f r)
runs_same {R} {z = z} l (go r q) (go {ts = us} r' q') e f =
    let s = l.one r r' (run_first l q e) (run_first l q' f) in
    let o = runs_same l q (subst (λ p. Run R p us z) (sym s.place) q') e f in
    record { trees = λ i. part (s.tree i) (o.trees i); place = o.place }

-- lists with nothing between
abbrev packed : ListShape → Bool
packed Spaced = true
packed JsxChildren = true
packed s = false

packed_behind : (s : ListShape) (t : Tree) {y z : Place} → packed s ≡ true → scan y (behind s (spelled t)) ≡ z → y ≡ z
packed_behind Spaced t p e = e
packed_behind JsxChildren t p e = e
packed_behind _ t p e = cc

packed_between : (s : ListShape) {y z : Place} → packed s ≡ true → scan y (between s) ≡ z → y ≡ z
packed_between Spaced p e = e
packed_between JsxChildren p e = e
packed_between _ p e = cc

-- how the trees of a list are read
pub record Reader (R : Place → Tree → Place → Type 0) (v : Surroundings) (b : Bool) (c : Nonterminal) : Type 0 where
  pub reads : (x y : Place) (t : Tree) → Kept t → IsRead v b c x t y → R x t y

pub run_of : {R : Place → Tree → Place → Type 0} {v : Surroundings} (s : ListShape) {c : Nonterminal} {x y : Place} {ts : Forest} → packed s ≡ true → Reader R v (W.is_text s) c → W.Items IsRead v s c x ts y → Kepts ts → Run R x ts y
run_of s p f (W.nil g) h = stop
run_of {R} s {x = x} p f (W.last {y = y} {t = t} r e g) h = subst (λ z. Run R x (part t none) z) (packed_behind s t p e) (go (f.reads x y t (kept_left h) r) stop)
run_of {R} s {x = x} p f (W.more {y = y} {w = w} {t = t} {u = u} {us = us} n r e i) h = go (f.reads x y t (kept_left h) r) (subst (λ z. Run R z (part u us) w) (sym (packed_between s p e)) (run_of s p f i (kept_right h)))
