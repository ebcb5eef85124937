-- Two readings of one list of specifiers from one place are one.
use Rattle.std.proofs.Common.{◌≡◌, Bool, true, false, not, List, [], ◌∷◌, refl, sym, ◌∙◌, ap, subst}
use Rattle.std.specs.Prelude.{IsTrue, ◌||◌, nat_eq, codes}
use Rattle.jsx_base.specs.Token.{Text, TokenKind, IdentifierName, Punctuator, kind_number}
use Rattle.jsx_tree.specs.Signs.{TrailingComma, Space}
use Rattle.jsx_tree.specs.Kinds.{Side, Imported, Exported, From, Tree, leaf, node, list, Forest, none, part}
use Rattle.jsx_tree.specs.Nonterminals.{Nonterminal, Ident, BindingIdent, Name, Specifiers, homes, in_homes, leaf_in}
use Rattle.jsx_tree.specs.Grammar.{Commas, Context, Part, Production, production}
use Rattle.jsx_tree.specs.Form.{admits, is, fits_below}
use Rattle.jsx_tree.specs.StaticRules.{Surroundings}
use Rattle.jsx_tree.specs.Spelling.{between}
use Rattle.jsx_tree.specs.Reading.{Place, Lost, At, forth, scan}
use Rattle.jsx_tree.proofs.Tokens.{and_left}
use Rattle.jsx_tree.specs.Walk as W
use Rattle.jsx_tree.specs.Walk.{is_found, pieces, IsRead}
use Rattle.jsx_tree.proofs.Rows.Bridge.{node_walk}
use Rattle.jsx_tree.proofs.OneTree.Statements.{stated_kinds}
use Rattle.jsx_tree.proofs.OneTree.Statements.{for_stated}
use Rattle.jsx_tree.proofs.OneTree.Readings.{kind_at, comma}
use Rattle.jsx_tree.proofs.OneTree.Checks.{every}
use Rattle.jsx_tree.proofs.OneTree.Facts.{never, or_else, Seen, took}
use Rattle.jsx_tree.proofs.OneTree.Pairs.{two_tokens}
use Rattle.jsx_tree.proofs.OneTree.Fine.{at_part}
use Rattle.jsx_tree.proofs.OneTree.Spines.{home_of}
use Rattle.jsx_tree.proofs.OneTree.Placed.{Trail, with_comma, without, trail}
use Rattle.jsx_tree.proofs.OneTree.Evidence.{Kept, Kepts, kept_left, kept_right, kept_kind, kept_parts}
use Rattle.jsx_tree.proofs.OneTree.Parts.{wordy, word_read}
use Rattle.jsx_tree.proofs.OneTree.Wants.{parted, meets, look_met, read_start}
use Rattle.jsx_tree.proofs.OneTree.Rows.{All, all_parts, own_leaf, own_kind, own_same}
use Rattle.jsx_tree.proofs.OneTree.Lists.{SameRow, move_items}

-- a row that begins with a name
abbrev pub named : Nonterminal → Bool
named Ident = true
named BindingIdent = true
named Name = true
named c = false

abbrev pub word_first : Production → Bool
word_first (Part c ∷ ps) = named c
word_first ps = false

named_leaf : (c : Nonterminal) (s : TokenKind) (t : Text) → named c ≡ true → leaf_in c s t ≡ true → kind_number s ≡ 0
named_leaf Ident IdentifierName t n h = refl
named_leaf Ident _ t n h = cc
named_leaf BindingIdent IdentifierName t n h = refl
named_leaf BindingIdent _ t n h = cc
named_leaf Name IdentifierName t n h = refl
named_leaf Name _ t n h = cc
named_leaf _ s t n h = cc

named_wordy : (c : Nonterminal) → named c ≡ true → wordy c ≡ true
named_wordy Ident n = refl
named_wordy BindingIdent n = refl
named_wordy Name n = refl
named_wordy _ n = cc

pub named_kind : (c : Nonterminal) {v : Surroundings} {x y : Place} (t : Tree) → named c ≡ true → Kept t → IsRead v false c x t y → kind_at x ≡ 0
named_kind c {x = x} t n h r =
    let w = word_read c t (named_wordy c n) h r in
    let s : Seen x w.kind w.text = took w.kind w.text x w.moves w.found in
    s.kind ∙ named_leaf c w.kind w.text n (and_left (leaf_in c w.kind w.text) _ (subst (λ t. is c t ≡ true) w.is_leaf r.is))

first_kind : {V : List Context → Surroundings} (ps : Production) (a : List Context) {x z : Place} {ts : Forest} → word_first ps ≡ true → Kepts ts → W.Walk IsRead V (pieces a ps) x ts z → kind_at x ≡ 0
first_kind (Part c ∷ ps) a n h w = let p = at_part w in named_kind c p.tree n (kept_left (subst Kepts p.is h)) p.read
first_kind _ a n h w = cc

specifier_rows : (s : Side) → every (λ k. not (in_homes (Specifiers s) (homes k)) || word_first (production k)) stated_kinds ≡ true
specifier_rows Imported = refl
specifier_rows Exported = refl
specifier_rows From = refl

-- a specifier begins with a word
pub specifier_kind : (s : Side) {v : Surroundings} {x y : Place} (t : Tree) → Kept t → IsRead v false (Specifiers s) x t y → kind_at x ≡ 0
specifier_kind s (leaf k t) h r = absurd (own_leaf (Specifiers s) k t refl (and_left (leaf_in (Specifiers s) k t) _ r.is))
specifier_kind s (list ts) h r = let bad = r.is in cc
specifier_kind s (node k cs) h r =
    let i = home_of (Specifiers s) k cs (and_left (admits (Specifiers s) (node k cs)) (fits_below (Specifiers s) (node k cs)) r.is) in
    let o = own_kind (Specifiers s) k refl (kept_kind h) i in
    first_kind (production k) [] (or_else (not (in_homes (Specifiers s) (homes k))) _ (for_stated (λ k. not (in_homes (Specifiers s) (homes k)) || word_first (production k)) (specifier_rows s) k o) (ap not i)) (kept_parts h) (node_walk false k refl r).walk

-- ---- lists in braces

space_sign : (x : Place) → forth Space x ≡ x
space_sign Lost = refl
space_sign (At q e text) = refl

pub after_comma : (y : Place) {z : Place} → scan y (between Commas) ≡ z → forth comma y ≡ z
after_comma y e = sym (space_sign (forth comma y)) ∙ e

pub items_start : {v : Surroundings} {c : Nonterminal} {x y : Place} {t : Tree} {ts : Forest} → W.Items IsRead v Commas c x (part t ts) y → IsTrue (is_found x)
items_start (W.last r e f) = read_start r
items_start (W.more n r e i) = read_start r

first_read : {v : Surroundings} {c : Nonterminal} {x y : Place} (t : Tree) (ts : Forest) → W.Items IsRead v Commas c x (part t ts) y → (P : Type 0) → ((z : Place) → IsRead v false c x t z → P) → P
first_read t none (W.last {y = z} r e f) P k = k z r
first_read t (part u us) (W.more {y = z} n r e i) P k = k z r

pub comma_parted : (x : Place) {y : Place} → forth comma x ≡ y → IsTrue (is_found y) → meets parted x ≡ true
comma_parted x e f = look_met parted Punctuator (codes ",") x refl (took Punctuator (codes ",") x e f) refl

brace_parted : (x : Place) → Seen x Punctuator (codes "}") → meets parted x ≡ true
brace_parted x s = look_met parted Punctuator (codes "}") x refl s refl

pub trail_parted : (x y : Place) → Trail x y → Seen y Punctuator (codes "}") → meets parted x ≡ true
trail_parted x y (with_comma e f) s = comma_parted x e f
trail_parted x y (without e) s = brace_parted x (subst (λ z. Seen z Punctuator (codes "}")) (sym e) s)

pub no_item : (s : Side) {v : Surroundings} {x y : Place} (t : Tree) (ts : Forest) → Kepts (part t ts) → W.Items IsRead v Commas (Specifiers s) x (part t ts) y → Seen x Punctuator (codes "}") → ⊥
no_item s {x = x} t ts h i b = first_read t ts i ⊥ (λ z r. never (nat_eq (kind_at x) 0) (ap (λ n. nat_eq n 0) (specifier_kind s t (kept_left h) r)) (ap (λ n. nat_eq n 0) b.kind))

-- one list ends behind an item where the other goes on
pub trail_more : (s : Side) {v : Surroundings} {p q y w z : Place} (t : Tree) (ts : Forest) → p ≡ q → Trail p y → Seen y Punctuator (codes "}") → forth comma q ≡ w → IsTrue (is_found w) → Kepts (part t ts) → W.Items IsRead v Commas (Specifiers s) w (part t ts) z → ⊥
trail_more s t ts o (with_comma e f) b g k h i = no_item s t ts h i (subst (λ z. Seen z Punctuator (codes "}")) (sym e ∙ (ap (forth comma) o ∙ g)) b)
trail_more s {p = p} {q = q} t ts o (without e) b g k h i = two_tokens (subst (λ z. Seen z Punctuator (codes "}")) (sym (sym o ∙ e)) b) (took Punctuator (codes ",") q g k) refl

pub specifiers_same : (s : Side) {v w : Surroundings} {x y z : Place} (ts us : Forest) → All ts → Kepts ts → Kepts us → W.Items IsRead v Commas (Specifiers s) x ts y → W.Items IsRead w Commas (Specifiers s) x us z
    → Seen y Punctuator (codes "}") → Seen z Punctuator (codes "}") → SameRow ts us y z
specifiers_same s none none a h k (W.nil f) (W.nil f') m n = record { trees = refl; place = refl }
specifiers_same s none (part u us) a h k (W.nil f) j m n = absurd (no_item s u us k j m)
specifiers_same s (part t ts) none a h k i (W.nil f) m n = absurd (no_item s t ts h i n)
specifiers_same s (part t none) (part u none) a h k (W.last {y = p} {z = y} r e f) (W.last {y = q} {z = z} r' e' f') m n =
    let o = own_same (Specifiers s) t u refl (all_parts a).0 (kept_left h) (kept_left k) r r' (trail_parted p y (trail p y e f) m) (trail_parted q z (trail q z e' f') n) in
    record { trees = ap (λ t. part t none) o.tree; place = sym e ∙ (ap (forth TrailingComma) o.place ∙ e') }
specifiers_same s (part t none) (part u (part u' us)) a h k (W.last {y = p} {z = y} r e f) (W.more {y = q} g r' e' j) m n =
    let c = after_comma q e' in
    let o = own_same (Specifiers s) t u refl (all_parts a).0 (kept_left h) (kept_left k) r r' (trail_parted p y (trail p y e f) m) (comma_parted q c (items_start j)) in
    absurd (trail_more s u' us o.place (trail p y e f) m c (items_start j) (kept_right k) j)
specifiers_same s (part t (part t' ts)) (part u none) a h k (W.more {y = p} g r e i) (W.last {y = q} {z = z} r' e' f') m n =
    let c = after_comma p e in
    let o = own_same (Specifiers s) t u refl (all_parts a).0 (kept_left h) (kept_left k) r r' (comma_parted p c (items_start i)) (trail_parted q z (trail q z e' f') n) in
    absurd (trail_more s t' ts (sym o.place) (trail q z e' f') n c (items_start i) (kept_right h) i)
specifiers_same s (part t (part t' ts)) (part u (part u' us)) a h k (W.more {y = p} g r e i) (W.more {y = q} g' r' e' j) m n =
    let as' = all_parts a in
    let o = own_same (Specifiers s) t u refl as'.0 (kept_left h) (kept_left k) r r' (comma_parted p (after_comma p e) (items_start i)) (comma_parted q (after_comma q e') (items_start j)) in
    let d = specifiers_same s (part t' ts) (part u' us) as'.1 (kept_right h) (kept_right k) i (move_items (sym (after_comma p e) ∙ (ap (forth comma) o.place ∙ after_comma q e')) j) m n in
    record { trees = λ i. part (o.tree i) (d.trees i); place = d.place }
