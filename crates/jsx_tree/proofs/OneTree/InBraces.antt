-- What stands in braces in a tag or among text: an expression, nothing, or a spread.
use Rattle.std.proofs.Common.{◌≡◌, Bool, true, false, List, [], ◌∷◌, refl, sym, ◌∙◌, ap, subst, arith}
use Rattle.std.specs.Prelude.{IsTrue, codes}
use Rattle.jsx_base.specs.Token.{Mode, Operator, Tag, Children, Punctuator}
use Rattle.jsx_tree.specs.Signs.{Tok}
use Rattle.jsx_tree.specs.Kinds.{Spread, Container, EmptyContainer, JsxSpread, Kind, expression, jsx, Tree, node, Forest, none, part}
use Rattle.jsx_tree.specs.Nonterminals.{Nonterminal, Expr}
use Rattle.jsx_tree.specs.Grammar.{Context, Fixed, Part, pun}
use Rattle.jsx_tree.specs.StaticRules.{Surroundings}
use Rattle.jsx_tree.specs.Reading.{Place, forth}
use Rattle.jsx_tree.specs.Walk as W
use Rattle.jsx_tree.specs.Walk.{is_found, IsRead}
use Rattle.jsx_tree.proofs.Rows.Bridge.{node_walk}
use Rattle.jsx_tree.proofs.OneTree.Readings.{brace, calm, kind_at, text_at, single, head, take, under, done}
use Rattle.jsx_tree.proofs.OneTree.Checks.{starts}
use Rattle.jsx_tree.proofs.OneTree.Facts.{never, Seen, took, found_at}
use Rattle.jsx_tree.proofs.OneTree.Next.{reach_seen}
use Rattle.jsx_tree.proofs.OneTree.Evidence.{Kepts, kept_left, Tame}
use Rattle.jsx_tree.proofs.OneTree.Growths.{calm_one}
use Rattle.jsx_tree.proofs.OneTree.Agreeing.{one_whole}
use Rattle.jsx_tree.proofs.OneTree.Placed.{whole_reads, one_placed}
use Rattle.jsx_tree.proofs.OneTree.Chains.{fine, expression_reads}
use Rattle.jsx_tree.proofs.OneTree.Turn.{not_spread}
use Rattle.jsx_tree.proofs.OneTree.Parts.{tame_of, SameAt, expr_same, whole_same, whole_starts}
use Rattle.jsx_tree.proofs.OneTree.Ahead.{signs_same, tokens_clash}

-- `{a}`, `{}` and `{...a}`, where the first brace is read in this mode
pub data Braced (m : Mode) : Place → Tree → Place → Type 0 where
  holds_one : {x p q y : Place} {v : Surroundings} {t : Tree} → forth (Tok m Punctuator (codes "{")) x ≡ p → IsTrue (is_found p) → Tame t → IsRead v false (Expr 0) p t q → forth brace q ≡ y → IsTrue (is_found y) → Braced m x (node (jsx Container) (part t none)) y
  holds_none : {x p y : Place} → forth (Tok m Punctuator (codes "{")) x ≡ p → IsTrue (is_found p) → forth brace p ≡ y → IsTrue (is_found y) → Braced m x (node (jsx EmptyContainer) none) y
  spreads : {x p q r y : Place} {v : Surroundings} {t : Tree} → forth (Tok m Punctuator (codes "{")) x ≡ p → IsTrue (is_found p) → forth (pun "...") p ≡ q → IsTrue (is_found q) → Tame t → IsRead v false (Expr 1) q t r → forth brace r ≡ y → IsTrue (is_found y) → Braced m x (node (jsx JsxSpread) (part t none)) y

pub brace_here : {m : Mode} {x y : Place} {t : Tree} → Braced m x t y → IsTrue (is_found (forth (Tok m Punctuator (codes "{")) x))
brace_here (holds_one e f i r g h) = found_at e f
brace_here (holds_none e f g h) = found_at e f
brace_here (spreads e f c d i r g h) = found_at e f

calm_brace : (x : Place) {y : Place} → forth brace x ≡ y → IsTrue (is_found y) → calm 0 x ≡ true
calm_brace x e f = reach_seen Punctuator (codes "}") 0 x (took Punctuator (codes "}") x e f) refl

-- no expression begins with a brace that ends, or with the dots of a spread
no_brace : {v : Surroundings} {x y z : Place} (t : Tree) → Tame t → IsRead v false (Expr 0) x t y → calm 0 y ≡ true → forth brace x ≡ z → IsTrue (is_found z) → ⊥
no_brace {x = x} t i r c e f =
    let s : Seen x Punctuator (codes "}") = took Punctuator (codes "}") x e f in
    never (starts (kind_at x) (text_at x)) (whole_starts t i r c) (λ i. starts (s.kind i) (s.text i))

no_spread : {v w : Surroundings} {x p y z : Place} (t u : Tree) → Tame t → Tame u → IsRead v false (Expr 0) x t y → calm 0 y ≡ true → forth (pun "...") x ≡ p → IsTrue (is_found p) → IsRead w false (Expr 1) p u z → calm 0 z ≡ true → ⊥
no_spread {z = z} t u i j r c e f s d =
    let one = calm_one z d in
    let o = one_whole (whole_reads t (fine t i) i.tame' r c) (single (head {k = expression Spread} refl refl refl (omega arith) refl (take e f (under (expression_reads u j s one) one done))) d) in
    not_spread t u i.kept'.good r.is o.tree

read_from : {v : Surroundings} {b : Bool} {c : Nonterminal} {x x' y : Place} {t : Tree} → x ≡ x' → IsRead v b c x' t y → IsRead v b c x t y
read_from {v} {b} {c} {y = y} {t} o r = subst (λ x. IsRead v b c x t y) (sym o) r

pub braced_same : {m : Mode} {x x' y z : Place} {t u : Tree} → x ≡ x' → Braced m x t y → Braced m x' u z → SameAt t u y z
braced_same {m} o (holds_one {q = n} {t = t} e f i r g h) (holds_one {q = n'} {t = u} e' f' i' r' g' h') =
    let s = whole_same t u i i' r (read_from (signs_same (Tok m Punctuator (codes "{")) o e e') r') (calm_brace n g h) (calm_brace n' g' h') in
    record { tree = ap (λ t. node (jsx Container) (part t none)) s.tree; place = signs_same brace s.place g g' }
braced_same {m} o (holds_none e f g h) (holds_none e' f' g' h') = record { tree = refl; place = signs_same brace (signs_same (Tok m Punctuator (codes "{")) o e e') g g' }
braced_same {m} o (spreads {r = n} {t = t} e f c d i r g h) (spreads {r = n'} {t = u} e' f' c' d' i' r' g' h') =
    let q = signs_same (pun "...") (signs_same (Tok m Punctuator (codes "{")) o e e') c c' in
    let s = expr_same 1 1 (Expr 1) t u (omega arith) one_placed refl i i' r (read_from q r') (calm_one n (calm_brace n g h)) (calm_one n' (calm_brace n' g' h')) in
    record { tree = ap (λ t. node (jsx JsxSpread) (part t none)) s.tree; place = signs_same brace s.place g g' }
braced_same {m} o (holds_one {q = n} {t = t} e f i r g h) (holds_none e' f' g' h') =
    absurd (no_brace t i r (calm_brace n g h) (ap (forth brace) (signs_same (Tok m Punctuator (codes "{")) o e e') ∙ g') h')
braced_same {m} o (holds_none e f g h) (holds_one {q = n'} {t = u} e' f' i' r' g' h') =
    absurd (no_brace u i' r' (calm_brace n' g' h') (ap (forth brace) (sym (signs_same (Tok m Punctuator (codes "{")) o e e')) ∙ g) h)
braced_same {m} o (holds_one {q = n} {t = t} e f i r g h) (spreads {r = n'} {t = u} e' f' c' d' i' r' g' h') =
    absurd (no_spread t u i i' r (calm_brace n g h) (ap (forth (pun "...")) (signs_same (Tok m Punctuator (codes "{")) o e e') ∙ c') d' r' (calm_brace n' g' h'))
braced_same {m} o (spreads {r = n} {t = t} e f c d i r g h) (holds_one {q = n'} {t = u} e' f' i' r' g' h') =
    absurd (no_spread u t i' i r' (calm_brace n' g' h') (ap (forth (pun "...")) (sym (signs_same (Tok m Punctuator (codes "{")) o e e')) ∙ c) d r (calm_brace n g h))
braced_same {m} o (holds_none e f g h) (spreads e' f' c' d' i' r' g' h') = absurd (tokens_clash Operator Punctuator Punctuator (codes "}") (codes "...") (signs_same (Tok m Punctuator (codes "{")) o e e') g h c' d' refl)
braced_same {m} o (spreads e f c d i r g h) (holds_none e' f' g' h') = absurd (tokens_clash Operator Punctuator Punctuator (codes "...") (codes "}") (signs_same (Tok m Punctuator (codes "{")) o e e') c d g' h' refl)

abbrev brace_mode : Bool → Mode
brace_mode true = Children
brace_mode false = Tag

-- their rows, with the brace read in a tag or among text
container_row : {m : Mode} {V : List Context → Surroundings} {x y : Place} {cs : Forest} → W.Walk IsRead V (W.piece [] (Fixed (Tok m Punctuator (codes "{"))) ∷ W.piece [] (Part (Expr 0)) ∷ W.piece [] (Fixed brace) ∷ []) x cs y → Kepts cs → Braced m x (node (jsx Container) cs) y
container_row (W.next (W.sign e f) (W.next (W.tree {t = t} r) (W.next (W.sign g h) (W.done n)))) k = holds_one e f (tame_of t (Expr 0) refl (kept_left k) r.is) r g h

empty_row : {m : Mode} {V : List Context → Surroundings} {x y : Place} {cs : Forest} → W.Walk IsRead V (W.piece [] (Fixed (Tok m Punctuator (codes "{"))) ∷ W.piece [] (Fixed brace) ∷ []) x cs y → Braced m x (node (jsx EmptyContainer) cs) y
empty_row (W.next (W.sign e f) (W.next (W.sign g h) (W.done n))) = holds_none e f g h

spread_row : {m : Mode} {V : List Context → Surroundings} {x y : Place} {cs : Forest} → W.Walk IsRead V (W.piece [] (Fixed (Tok m Punctuator (codes "{"))) ∷ W.piece [] (Fixed (pun "...")) ∷ W.piece [] (Part (Expr 1)) ∷ W.piece [] (Fixed brace) ∷ []) x cs y → Kepts cs → Braced m x (node (jsx JsxSpread) cs) y
spread_row (W.next (W.sign e f) (W.next (W.sign c d) (W.next (W.tree {t = t} r) (W.next (W.sign g h) (W.done n))))) k = spreads e f c d (tame_of t (Expr 1) refl (kept_left k) r.is) r g h

abbrev is_holder : Kind → Bool
is_holder (jsx Container) = true
is_holder (jsx EmptyContainer) = true
is_holder (jsx JsxSpread) = true
is_holder k = false

pub braced_at : (b : Bool) (k : Kind) (cs : Forest) {v : Surroundings} {c : Nonterminal} {x y : Place} → is_holder k ≡ true → Kepts cs → IsRead v b c x (node k cs) y → Braced (brace_mode b) x (node k cs) y
braced_at true (jsx Container) cs s h r = container_row (node_walk true (jsx Container) refl r).walk h
braced_at false (jsx Container) cs s h r = container_row (node_walk false (jsx Container) refl r).walk h
braced_at true (jsx EmptyContainer) cs s h r = empty_row (node_walk true (jsx EmptyContainer) refl r).walk
braced_at false (jsx EmptyContainer) cs s h r = empty_row (node_walk false (jsx EmptyContainer) refl r).walk
braced_at true (jsx JsxSpread) cs s h r = spread_row (node_walk true (jsx JsxSpread) refl r).walk h
braced_at false (jsx JsxSpread) cs s h r = spread_row (node_walk false (jsx JsxSpread) refl r).walk h
braced_at b (jsx _) cs s h r = cc
braced_at b _ cs s h r = cc
