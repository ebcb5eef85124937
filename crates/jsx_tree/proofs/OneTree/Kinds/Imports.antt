-- An expression that begins with the word `import` goes on as no declaration of imports does.
use Rattle.jsx_tree.proofs.OneTree.Readings.{blocked, bare_blocked}
use Rattle.std.proofs.Common.{◌≡◌, ℕ, Bool, true, false, not, List, ◌∷◌, refl, sym, ◌∙◌, ap, subst}
use Rattle.std.specs.Prelude.{IsTrue, ◌&&◌, ◌||◌, nat_eq, codes}
use Rattle.jsx_base.specs.Token.{Text, Operator, TokenKind, IdentifierName, Punctuator, StringLiteral, NumericLiteral, BigIntLiteral, kind_number, same}
use Rattle.jsx_tree.specs.Signs.{Tok, Unless}
use Rattle.jsx_tree.specs.Kinds.{ExprStmt, Kind, statement, Tree, Forest}
use Rattle.jsx_tree.specs.Nonterminals.{Expr, StringOnly, ImportClause, leaf_in, is_value_word}
use Rattle.jsx_tree.specs.Grammar.{heads, Context, Fixed, Part}
use Rattle.jsx_tree.specs.Form.{is}
use Rattle.jsx_tree.specs.Spelling.{mode_of}
use Rattle.jsx_tree.specs.StaticRules.{Surroundings}
use Rattle.jsx_tree.specs.Reading.{Place, forth}
use Rattle.jsx_tree.proofs.Tokens.{and_left, and_right, same_is}
use Rattle.jsx_tree.specs.Walk as W
use Rattle.jsx_tree.specs.Walk.{is_found, IsRead, IsNode}
use Rattle.jsx_tree.proofs.OneTree.Table.{kinds}
use Rattle.jsx_tree.proofs.OneTree.Readings.{Step, tok, lit, row, grows, is_arrow, is_paren, is_quote, may_be, kind_at, text_at, Reads, word, regexp, head, paren, target, grow, arrow, sealed, braces, Walk, take, literal, Whole, single, several}
use Rattle.jsx_tree.proofs.OneTree.Sealed.{Opener, of_function, of_class}
use Rattle.jsx_tree.proofs.OneTree.Starting.{Opened, a_word, a_tag, opened_at}
use Rattle.jsx_tree.proofs.OneTree.Checks.{every, is_op, same_token}
use Rattle.jsx_tree.proofs.OneTree.Facts.{never, or_else, eq_nat, kind_is, Seen, took, took_in, same_seen, for_kind, found_at}
use Rattle.jsx_tree.proofs.OneTree.Slashes.{regexp_slash}
use Rattle.jsx_tree.proofs.OneTree.Pairs.{two_tokens}
use Rattle.jsx_tree.proofs.OneTree.Fine.{at_sign, at_part}
use Rattle.jsx_tree.proofs.OneTree.Placed.{whole_reads}
use Rattle.jsx_tree.proofs.OneTree.Chains.{fine}
use Rattle.jsx_tree.proofs.OneTree.Missing.{at_semi}
use Rattle.jsx_tree.proofs.OneTree.Afters.{after_tree}
use Rattle.jsx_tree.proofs.OneTree.Evidence.{Kept, Kepts, kept_left}
use Rattle.jsx_tree.proofs.OneTree.Parts.{tame_of, word_read}
use Rattle.jsx_tree.proofs.OneTree.Wants.{look_same}
use Rattle.jsx_tree.proofs.OneTree.Rows.{calls_on, clause_first}

abbrev pub second_calls : List Step → Bool
second_calls (tok Operator k t ∷ ps) = nat_eq (kind_number k) 1 && (same t (codes "(") || same t (codes "."))
second_calls ps = false

abbrev pub import_calls : List Step → Bool
import_calls (tok Operator k t ∷ ps) = not (same_token k t IdentifierName (codes "import")) || second_calls ps
import_calls (lit s ∷ ps) = is_op (mode_of s) && is_quote s
import_calls ps = false

abbrev imports_ok : Kind → Bool
imports_ok k = grows k || (is_arrow k || (is_paren k || import_calls (row k)))

import_rows : every imports_ok kinds ≡ true
import_rows = refl

-- the word, and the place behind it
record Import (x p : Place) : Type 0 where
  moves : forth (Tok Operator IdentifierName (codes "import")) x ≡ p
  found : IsTrue (is_found p)

import_seen : {x p : Place} → Import x p → Seen x IdentifierName (codes "import")
import_seen {x} i = took IdentifierName (codes "import") x i.moves i.found

second_walk : {ps : List Step} {x y : Place} {ts : Forest} → Walk ps x ts y → second_calls ps ≡ true → calls_on x ≡ true
second_walk (take {m = Operator} {k = k} {t = t} {x = x} e f w) h = let s : Seen x k t = took k t x e f in (λ i. nat_eq (s.kind i) 1 && (same (s.text i) (codes "(") || same (s.text i) (codes "."))) ∙ h
second_walk _ h = cc

quote_word : (s : TokenKind) → is_quote s ≡ true → kind_number s ≡ kind_number IdentifierName → ⊥
quote_word s q e = never (is_quote IdentifierName) (subst (λ s. is_quote s ≡ true) (kind_is s IdentifierName e) q) refl

row_calls : {ps : List Step} {x y p : Place} {ts : Forest} → Walk ps x ts y → import_calls ps ≡ true → Import x p → calls_on p ≡ true
row_calls {p = p} (take {m = Operator} {k = k} {t = t} {ps = ps} {x = x} {y = y} {z = z} {ts = ts} e f w) h i =
    let s : Seen x k t = took k t x e f in
    let same' : same_token k t IdentifierName (codes "import") ≡ true = same_seen s (import_seen i) in
    let next : p ≡ y = sym i.moves ∙ ((λ j. forth (Tok Operator (sym (kind_is k IdentifierName (eq_nat (and_left (nat_eq (kind_number k) 0) _ same'))) j) (sym (same_is t (codes "import") (and_right (nat_eq (kind_number k) 0) _ same')) j)) x) ∙ e) in
    second_walk (subst (λ y. Walk ps y ts z) (sym next) w) (or_else (not (same_token k t IdentifierName (codes "import"))) (second_calls ps) h (ap not same'))
row_calls (literal {s = s} {t = t} {x = x} e f w) h i =
    absurd (quote_word s (and_right (is_op (mode_of s)) (is_quote s) h) (sym (took_in (mode_of s) s t x (and_left (is_op (mode_of s)) (is_quote s) h) e f).kind ∙ (import_seen i).kind))
row_calls _ h i = cc

no_import : {x p : Place} {k : TokenKind} {t : Text} → Seen x k t → same_token k t IdentifierName (codes "import") ≡ false → Import x p → ⊥
no_import s n i = two_tokens s (import_seen i) n

word_import : (s : TokenKind) (t : Text) → may_be s t ≡ true → kind_number s ≡ 0 → t ≡ codes "import" → ⊥
word_import IdentifierName t a k e = never (is_value_word t) a (ap is_value_word e)
word_import NumericLiteral t a k e = never (nat_eq 2 0) (ap (λ n. nat_eq n 0) k) refl
word_import BigIntLiteral t a k e = never (nat_eq 3 0) (ap (λ n. nat_eq n 0) k) refl
word_import StringLiteral t a k e = never (nat_eq 4 0) (ap (λ n. nat_eq n 0) k) refl
word_import _ t a k e = cc

opener_import : {x p : Place} {w : Text} → Opener w → Seen x IdentifierName w → Import x p → ⊥
opener_import of_function s i = no_import s refl i
opener_import of_class s i = no_import s refl i

-- an expression that begins with the word
reads_calls : {n : ℕ} {x y p : Place} {t : Tree} → Reads n x t y → Import x p → calls_on p ≡ true
reads_calls (word {s = s} {t = t} {x = x} a e f) i =
    let r : Seen x s t = took s t x e f in
    absurd (word_import s t a (sym r.kind ∙ (import_seen i).kind) (sym r.text ∙ (import_seen i).text))
reads_calls (regexp {t = t} {x = x} e f) i = absurd (never (nat_eq 1 0) (ap (λ n. nat_eq n 0) (sym (regexp_slash t x (found_at e f)).kind ∙ (import_seen i).kind)) refl)
reads_calls (head {k = k} s a q l d w) i = row_calls w (or_else (is_paren k) _ (or_else (is_arrow k) _ (or_else (grows k) _ (for_kind imports_ok import_rows k s) d) a) q) i
reads_calls (sealed {x = x} l s) i = absurd (by_opened (opened_at x s.opener))
  where
    by_opened : Opened x → ⊥
    by_opened (a_word w o v) = opener_import o v i
    by_opened (a_tag a) = never (nat_eq 1 0) (ap (λ n. nat_eq n 0) (sym a.kind ∙ (import_seen i).kind)) refl
reads_calls (braces {x = x} l c a e f p) i = absurd (no_import (took Punctuator (codes "{") x e f) refl i)
reads_calls (paren {x = x} l e f a g h) i = absurd (no_import (took Punctuator (codes "(") x e f) refl i)
reads_calls (target {x = x} l e f r c g h) i = absurd (no_import (took Punctuator (codes "(") x e f) refl i)
reads_calls (grow s d l b r w) i = reads_calls r i
reads_calls (blocked {x = x} l e f p b) i = absurd (no_import (took Punctuator (codes "(") x e f) refl i)
reads_calls (bare_blocked {x = x} {t = t} l a e f b) i =
    let r : Seen x IdentifierName t = took IdentifierName t x e f in
    absurd (word_import IdentifierName t a (sym r.kind ∙ (import_seen i).kind) (sym r.text ∙ (import_seen i).text))
reads_calls (arrow {x = x} l (take {m = Operator} {k = k} {t = t} e f p) w) i = absurd (no_import (took Punctuator (codes "(") x e f) refl i)

whole_calls : {x y p : Place} {t : Tree} → Whole x t y → Import x p → calls_on p ≡ true
whole_calls (single r c) i = reads_calls r i
whole_calls (several r c e f d) i = reads_calls r i

-- ---- a declaration of imports, and an expression

abbrev pub import_row : List W.Piece → Bool
import_row (W.piece a (Fixed (Tok Operator IdentifierName t)) ∷ W.piece b (Part StringOnly) ∷ ps) = same t (codes "import")
import_row (W.piece a (Fixed (Tok Operator IdentifierName t)) ∷ W.piece b (Part ImportClause) ∷ ps) = same t (codes "import")
import_row ps = false

string_calls : (s : TokenKind) (t : Text) → leaf_in StringOnly s t ≡ true → kind_number s ≡ 4
string_calls StringLiteral t h = refl
string_calls _ t h = cc

pub string_first : {v : Surroundings} {x y : Place} (t : Tree) → Kept t → IsRead v false StringOnly x t y → kind_at x ≡ 4
string_first {x = x} t h r =
    let w = word_read StringOnly t refl h r in
    let s : Seen x w.kind w.text = took w.kind w.text x w.moves w.found in
    s.kind ∙ string_calls w.kind w.text (and_left (leaf_in StringOnly w.kind w.text) _ (subst (λ t. is StringOnly t ≡ true) w.is_leaf r.is))

import_walk : {V : List Context → Surroundings} (ps : List W.Piece) {x z : Place} {us : Forest} (P : Type 0) → import_row ps ≡ true → Kepts us → W.Walk IsRead V ps x us z → ((p : Place) → Import x p → calls_on p ≡ false → P) → P
import_walk (W.piece a (Fixed (Tok Operator IdentifierName t)) ∷ W.piece b (Part StringOnly) ∷ ps) {x} P h k w rest =
    let s = at_sign w in
    let p = at_part s.walk in
    let e = string_first p.tree (kept_left (subst Kepts p.is k)) p.read in
    rest s.next (record { moves = (λ i. forth (Tok Operator IdentifierName (sym (same_is t (codes "import") h) i)) x) ∙ s.moves; found = s.found }) (λ i. nat_eq (e i) 1 && (same (text_at s.next) (codes "(") || same (text_at s.next) (codes ".")))
import_walk (W.piece a (Fixed (Tok Operator IdentifierName t)) ∷ W.piece b (Part ImportClause) ∷ ps) {x} P h k w rest =
    let s = at_sign w in
    let p = at_part s.walk in
    rest s.next (record { moves = (λ i. forth (Tok Operator IdentifierName (sym (same_is t (codes "import") h) i)) x) ∙ s.moves; found = s.found }) (clause_first p.tree (kept_left (subst Kepts p.is k)) p.read).0
import_walk _ P h k w rest = cc

-- a declaration of imports is no expression statement
pub import_clash : {V : List Context → Surroundings} {w : Surroundings} (ps : List W.Piece) {x y z : Place} {us : Forest} (ds : Forest) → import_row ps ≡ true → Kepts us → Kepts ds → W.Walk IsRead V ps x us y → IsNode IsRead w false (statement ExprStmt) x ds z → ⊥
import_clash ps {x} ds h f k i b =
    let s = at_sign b.walk in
    let e = at_part s.walk in
    let o = tame_of e.tree (Expr 0) refl (kept_left (subst Kepts e.is k)) e.read.is in
    let m = at_sign e.walk in
    let g = subst (λ z. IsTrue (is_found z)) (sym m.moves) m.found in
    let whole = whole_reads e.tree (fine e.tree o) o.tame' e.read (at_semi e.next (after_tree e.tree (Expr 0) o refl e.read) g) in
    let back = look_same (Unless heads) x s.next refl s.moves s.found in
    import_walk ps ⊥ h f i (λ p j n. never (calls_on p) (whole_calls (subst (λ z. Whole z e.tree e.next) (sym back) whole) j) n)
