-- Two readings of one key from one place are one.
use Rattle.jsx_tree.proofs.OneTree.Spines.{blocked_home}
use Rattle.jsx_tree.proofs.OneTree.Kept.{a_blocked, a_jsx}
use Rattle.jsx_tree.proofs.OneTree.Tags.{no_jsx}
use Rattle.jsx_tree.specs.Kinds.{Arrow}
use Rattle.jsx_tree.proofs.OneTree.Next.{reach_seen}
use Rattle.jsx_tree.proofs.OneTree.Evidence.{Kept, Kepts, kept_left, kept_kind, kept_parts}
use Rattle.std.proofs.Common.{◌≡◌, true, false, not, [], ◌∷◌, refl, sym, ◌∙◌, ap, subst, arith}
use Rattle.std.specs.Prelude.{IsTrue, ◌||◌, codes}
use Rattle.jsx_base.specs.Token.{Text, Operator, TokenKind, IdentifierName, NumericLiteral, BigIntLiteral, StringLiteral, Punctuator, kind_number}
use Rattle.jsx_tree.specs.Signs.{Tok, One}
use Rattle.jsx_tree.specs.Kinds.{Seq, ComputedKey, Kind, function, expression, Tree, leaf, node, list, Forest, none, part}
use Rattle.jsx_tree.specs.Nonterminals.{Expr, Key, homes, in_homes, leaf_in}
use Rattle.jsx_tree.specs.Form.{admits, fits_below}
use Rattle.jsx_tree.specs.StaticRules.{Surroundings}
use Rattle.jsx_tree.specs.Spelling.{spelled}
use Rattle.jsx_tree.specs.Reading.{Place, forth, scan}
use Rattle.jsx_tree.proofs.Tokens.{and_left}
use Rattle.jsx_tree.specs.Walk as W
use Rattle.jsx_tree.specs.Walk.{is_found, IsRead, IsNode}
use Rattle.jsx_tree.proofs.Rows.Bridge.{node_walk}
use Rattle.jsx_tree.proofs.OneTree.Table.{kinds}
use Rattle.jsx_tree.proofs.OneTree.Readings.{key_start, kind_at, text_at, calm, may_key}
use Rattle.jsx_tree.proofs.OneTree.Checks.{every, same_token}
use Rattle.jsx_tree.proofs.OneTree.Facts.{never, or_else, for_kind, Seen, took}
use Rattle.jsx_tree.proofs.OneTree.Pairs.{two_tokens}
use Rattle.jsx_tree.proofs.OneTree.Places.{is_key}
use Rattle.jsx_tree.proofs.OneTree.Fine.{one_sign, at_sign, at_part, at_end}
use Rattle.jsx_tree.proofs.OneTree.Spines.{home_of}
use Rattle.jsx_tree.proofs.OneTree.Placed.{one_placed}
use Rattle.jsx_tree.proofs.OneTree.Kept.{Which, a_statement, a_taken, a_seq, which}
use Rattle.jsx_tree.proofs.OneTree.Parts.{tame_of, stated_home, SameAt, expr_same, word_same}

-- a token, or an expression in brackets
pub data Keyed (v : Surroundings) (x : Place) : Tree → Place → Type 0 where
  named : {y : Place} (s : TokenKind) (t : Text) → may_key s ≡ true → forth (Tok Operator s t) x ≡ y → IsTrue (is_found y) → Keyed v x (leaf s t) y
  bracketed : {y : Place} {cs : Forest} → Kepts cs → IsNode IsRead v false (function ComputedKey) x cs y → Keyed v x (node (function ComputedKey) cs) y

key_kind : (s : TokenKind) (t : Text) → leaf_in Key s t ≡ true → may_key s ≡ true
key_kind IdentifierName t h = refl
key_kind NumericLiteral t h = refl
key_kind BigIntLiteral t h = refl
key_kind StringLiteral t h = refl
key_kind _ t h = cc

key_signs : (s : TokenKind) (t : Text) → may_key s ≡ true → spelled (leaf s t) ≡ One ∷ Tok Operator s t ∷ []
key_signs IdentifierName t h = refl
key_signs NumericLiteral t h = refl
key_signs BigIntLiteral t h = refl
key_signs StringLiteral t h = refl
key_signs _ t h = cc

key_taken : every (λ k. not (in_homes Key (homes k)) || is_key k) kinds ≡ true
key_taken = refl

key_seq : in_homes Key (homes (expression Seq)) ≡ false
key_seq = refl

key_is : (k : Kind) → is_key k ≡ true → k ≡ function ComputedKey
key_is (function ComputedKey) h = refl
key_is (function _) h = cc
key_is _ h = cc

pub key_view : {v : Surroundings} {x y : Place} (t : Tree) → Kept t → IsRead v false Key x t y → Keyed v x t y
key_view {x = x} (leaf s t) h r =
    let m = key_kind s t (and_left (leaf_in Key s t) _ r.is) in
    named s t m (ap (forth (Tok Operator s t)) (sym (one_sign x)) ∙ (ap (scan x) (sym (key_signs s t m)) ∙ r.scans)) r.found
key_view (list ts) h r = let bad = r.is in cc
key_view {v} {x} {y} (node k cs) h r = by_which (which k (kept_kind h))
  where
    i : in_homes Key (homes k) ≡ true
    i = home_of Key k cs (and_left (admits Key (node k cs)) (fits_below Key (node k cs)) r.is)

    by_which : Which k → Keyed v x (node k cs) y
    by_which (a_statement s) = absurd (stated_home Key k refl s i)
    by_which (a_seq e) = absurd (never (in_homes Key (homes k)) i (ap (λ k. in_homes Key (homes k)) e ∙ key_seq))
    by_which (a_jsx j) = absurd (no_jsx Key k j refl i)
    by_which (a_blocked s) = absurd (never (in_homes Key (homes (expression Arrow))) (blocked_home Key k s i) refl)
    by_which (a_taken s) =
        let e = key_is k (or_else (not (in_homes Key (homes k))) _ (for_kind (λ k. not (in_homes Key (homes k)) || is_key k) key_taken k s) (ap not i)) in
        subst (λ k. Keyed v x (node k cs) y) (sym e) (bracketed (kept_parts h) (node_walk false (function ComputedKey) refl (subst (λ k. IsRead v false Key x (node k cs) y) e r)))

bracket_seen : {v : Surroundings} {x y : Place} {cs : Forest} → IsNode IsRead v false (function ComputedKey) x cs y → Seen x Punctuator (codes "[")
bracket_seen {x = x} n = let s = at_sign n.walk in took Punctuator (codes "[") x s.moves s.found

named_at : (s : TokenKind) (t : Text) → may_key s ≡ true → key_start (kind_number s) t ≡ true
named_at IdentifierName t h = refl
named_at NumericLiteral t h = refl
named_at BigIntLiteral t h = refl
named_at StringLiteral t h = refl
named_at _ t h = cc

named_mark : (s : TokenKind) (t u : Text) → may_key s ≡ true → same_token s t Punctuator u ≡ false
named_mark IdentifierName t u h = refl
named_mark NumericLiteral t u h = refl
named_mark BigIntLiteral t u h = refl
named_mark StringLiteral t u h = refl
named_mark _ t u h = cc

pub key_first : {v : Surroundings} {x y : Place} {t : Tree} → Keyed v x t y → key_start (kind_at x) (text_at x) ≡ true
key_first {x = x} (named s t m e f) = let r : Seen x s t = took s t x e f in (λ i. key_start (r.kind i) (r.text i)) ∙ named_at s t m
key_first (bracketed g n) = let r = bracket_seen n in (λ i. key_start (r.kind i) (r.text i))

pub key_same : {v w : Surroundings} {x y z : Place} {t u : Tree} → Keyed v x t y → Keyed w x u z → SameAt t u y z
key_same (named s t m e f) (named r u n g h) = word_same (record { kind = s; text = t; is_leaf = refl; moves = e; found = f }) (record { kind = r; text = u; is_leaf = refl; moves = g; found = h })
key_same {x = x} (named s t m e f) (bracketed g n) = absurd (two_tokens (took s t x e f) (bracket_seen n) (named_mark s t (codes "[") m))
key_same {x = x} (bracketed g n) (named s t m e f) = absurd (two_tokens (took s t x e f) (bracket_seen n) (named_mark s t (codes "[") m))
key_same {w = w} {x = x} {y} {z} (bracketed {cs = cs} g m) (bracketed {cs = ds} h n) =
    let p = at_sign m.walk in
    let q = at_sign n.walk in
    let l = at_part p.walk in
    let r = at_part q.walk in
    let c = at_sign l.walk in
    let d = at_sign r.walk in
    let i = at_end c.walk in
    let j = at_end d.walk in
    let read' = subst (λ x. IsRead (W.around w ds []) false (Expr 1) x r.tree r.next) (sym (sym p.moves ∙ q.moves)) r.read in
    let o = expr_same 1 1 (Expr 1) l.tree r.tree (omega arith) one_placed refl (tame_of l.tree (Expr 1) refl (kept_left (subst Kepts l.is g)) l.read.is) (tame_of r.tree (Expr 1) refl (kept_left (subst Kepts r.is h)) r.read.is)
    l.read read' (close (took Punctuator (codes "]") l.next c.moves c.found)) (close (took Punctuator (codes "]") r.next d.moves d.found)) in
    let forests : cs ≡ ds = (l.is ∙ ap (part l.tree) i.0) ∙ ((λ i. part (o.tree i) none) ∙ sym (r.is ∙ ap (part r.tree) j.0)) in
    record { tree = ap (node (function ComputedKey)) forests; place = sym i.1 ∙ ((sym c.moves ∙ (ap (forth (Tok Operator Punctuator (codes "]"))) o.place ∙ d.moves)) ∙ j.1) }
  where
    close : {x : Place} → Seen x Punctuator (codes "]") → calm 1 x ≡ true
    close {x} s = reach_seen Punctuator (codes "]") 1 x s refl
