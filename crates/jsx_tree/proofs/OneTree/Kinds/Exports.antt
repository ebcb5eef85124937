-- A list of what is exported here, and one of what another module exports, don't begin at one place.
use Rattle.std.proofs.Common.{◌≡◌, Bool, true, false, not, List, [], ◌∷◌, refl, sym, ◌∙◌, ap, subst}
use Rattle.std.specs.Prelude.{IsTrue, ◌&&◌, ◌||◌, nat_eq, codes}
use Rattle.jsx_base.specs.Token.{Text, Operator, TokenKind, IdentifierName, Punctuator, kind_number, same, breaks}
use Rattle.jsx_tree.specs.Signs.{Tok, Semicolon, TrailingComma, Ends, AfterList}
use Rattle.jsx_tree.specs.Kinds.{Side, Exported, From, ExportNames, ExportFrom, Kind, program, Tree, leaf, node, list, Forest, none, part}
use Rattle.jsx_tree.specs.Nonterminals.{Specifiers, homes, in_homes, leaf_in}
use Rattle.jsx_tree.specs.Grammar.{Commas, Context, Fixed, Part}
use Rattle.jsx_tree.specs.Form.{admits, fits_below}
use Rattle.jsx_tree.specs.StaticRules.{Surroundings}
use Rattle.jsx_tree.specs.Reading.{Place, Lost, At, forth, continues}
use Rattle.jsx_tree.proofs.Tokens.{and_left, and_right}
use Rattle.jsx_tree.specs.Walk as W
use Rattle.jsx_tree.specs.Walk.{is_found, IsRead, IsNode}
use Rattle.jsx_tree.proofs.Rows.Bridge.{node_walk}
use Rattle.jsx_tree.proofs.OneTree.Statements.{stated_kinds, for_stated}
use Rattle.jsx_tree.proofs.OneTree.Readings.{kind_at, text_at, comma}
use Rattle.jsx_tree.proofs.OneTree.Checks.{every, same_token}
use Rattle.jsx_tree.proofs.OneTree.Facts.{never, or_else, eq_nat, Seen, took}
use Rattle.jsx_tree.proofs.OneTree.Fine.{at_sign, at_part, at_many, at_end}
use Rattle.jsx_tree.proofs.OneTree.Spines.{home_of}
use Rattle.jsx_tree.proofs.OneTree.Placed.{trail}
use Rattle.jsx_tree.proofs.OneTree.Missing.{Behind, a_mark, a_brace, a_line, behind}
use Rattle.jsx_tree.proofs.OneTree.Known.{stated}
use Rattle.jsx_tree.proofs.OneTree.Evidence.{Kept, Kepts, kept_left, kept_right, kept_list, kept_kind, kept_parts}
use Rattle.jsx_tree.proofs.OneTree.Parts.{wordy, word_read, word_same}
use Rattle.jsx_tree.proofs.OneTree.Wants.{parted, meets}
use Rattle.jsx_tree.proofs.OneTree.Rows.{own_leaf, own_kind}
use Rattle.jsx_tree.proofs.OneTree.Lists.{move_items}
use Rattle.jsx_tree.proofs.OneTree.Prefixes.{same_next, move_walk}
use Rattle.jsx_tree.proofs.OneTree.Kinds.Specifiers.{after_comma, items_start, comma_parted, trail_parted, no_item, trail_more}

-- ---- two specifiers

-- rows of words that end at one place, where a comma or a brace stands behind both
abbrev pub level_rows : List W.Piece → List W.Piece → Bool
level_rows [] [] = true
level_rows [] (W.piece b (Fixed (Tok Operator l u)) ∷ qs) = nat_eq (kind_number l) 0
level_rows (W.piece a (Fixed (Tok Operator k t)) ∷ ps) [] = nat_eq (kind_number k) 0
level_rows (W.piece a (Fixed (Tok Operator k t)) ∷ ps) (W.piece b (Fixed (Tok Operator l u)) ∷ qs) = same_token k t l u && level_rows ps qs
level_rows (W.piece a (Part c) ∷ ps) (W.piece b (Part d) ∷ qs) = wordy c && (wordy d && level_rows ps qs)
level_rows ps qs = false

parted_word : {x : Place} {k : TokenKind} {t : Text} → Seen x k t → nat_eq (kind_number k) 0 ≡ true → meets parted x ≡ true → ⊥
parted_word {x} {k} s h m = never (nat_eq (kind_at x) 1) (and_left (nat_eq (kind_at x) 1) _ m) (ap (λ n. nat_eq n 1) (s.kind ∙ eq_nat {a = kind_number k} {b = 0} h))

level_walk : {V V' : List Context → Surroundings} (ps qs : List W.Piece) {x y z : Place} {ts us : Forest} → level_rows ps qs ≡ true → Kepts ts → Kepts us → W.Walk IsRead V ps x ts y → W.Walk IsRead V' qs x us z → meets parted y ≡ true → meets parted z ≡ true → y ≡ z
level_walk [] [] h f g i j m n = sym (at_end i).1 ∙ (at_end j).1
level_walk [] (W.piece b (Fixed (Tok Operator l u)) ∷ qs) {x} h f g i j m n =
    let q = at_sign j in
    absurd (parted_word {x = x} (took l u x q.moves q.found) h (subst (λ y. meets parted y ≡ true) (sym (at_end i).1) m))
level_walk (W.piece a (Fixed (Tok Operator k t)) ∷ ps) [] {x} h f g i j m n =
    let p = at_sign i in
    absurd (parted_word {x = x} (took k t x p.moves p.found) h (subst (λ z. meets parted z ≡ true) (sym (at_end j).1) n))
level_walk (W.piece a (Fixed (Tok Operator k t)) ∷ ps) (W.piece b (Fixed (Tok Operator l u)) ∷ qs) {x} h f g i j m n =
    let p = at_sign i in
    let q = at_sign j in
    level_walk ps qs (and_right (same_token k t l u) _ h) f g p.walk (move_walk (same_next x k l t u (and_left (same_token k t l u) _ h) p.moves q.moves) q.walk) m n
level_walk (W.piece a (Part c) ∷ ps) (W.piece b (Part d) ∷ qs) h f g i j m n =
    let p = at_part i in
    let q = at_part j in
    let o = and_right (wordy c) _ h in
    let f' = subst Kepts p.is f in
    let g' = subst Kepts q.is g in
    let w = word_same (word_read c p.tree (and_left (wordy c) _ h) (kept_left f') p.read) (word_read d q.tree (and_left (wordy d) _ o) (kept_left g') q.read) in
    level_walk ps qs (and_right (wordy d) _ o) (kept_right f') (kept_right g') p.walk (move_walk w.place q.walk) m n
level_walk _ _ h f g i j m n = cc

abbrev pub level_pair : Kind → Kind → Bool
level_pair k l = not (in_homes (Specifiers Exported) (homes k)) || (not (in_homes (Specifiers From) (homes l)) || level_rows (W.row false k) (W.row false l))

level_pairs : every (λ k. every (level_pair k) stated_kinds) stated_kinds ≡ true
level_pairs = refl

-- a specifier is a node of a kind that is read as a row
record Specified (s : Side) (v : Surroundings) (x : Place) (t : Tree) (y : Place) : Type 0 where
  kind : Kind
  parts : Forest
  home : in_homes (Specifiers s) (homes kind) ≡ true
  stands : stated kind ≡ true
  good : Kepts parts
  walk : W.Walk IsRead (W.around v parts) (W.row false kind) x parts y

specified : (s : Side) {v : Surroundings} {x y : Place} (t : Tree) → Kept t → IsRead v false (Specifiers s) x t y → Specified s v x t y
specified s (leaf k t) h r = absurd (own_leaf (Specifiers s) k t refl (and_left (leaf_in (Specifiers s) k t) _ r.is))
specified s (list ts) h r = let bad = r.is in cc
specified s (node k cs) h r =
    let i = home_of (Specifiers s) k cs (and_left (admits (Specifiers s) (node k cs)) (fits_below (Specifiers s) (node k cs)) r.is) in
    record { kind = k; parts = cs; home = i; stands = own_kind (Specifiers s) k refl (kept_kind h) i; good = kept_parts h; walk = (node_walk false k refl r).walk }

specifier_place : {v w : Surroundings} {x y z : Place} (t u : Tree) → Kept t → Kept u → IsRead v false (Specifiers Exported) x t y → IsRead w false (Specifiers From) x u z → meets parted y ≡ true → meets parted z ≡ true → y ≡ z
specifier_place t u h k r r' m n =
    let p = specified Exported t h r in
    let q = specified From u k r' in
    let told : level_pair p.kind q.kind ≡ true = for_stated (level_pair p.kind) (for_stated (λ k. every (level_pair k) stated_kinds) level_pairs p.kind p.stands) q.kind q.stands in
    let o = or_else (not (in_homes (Specifiers From) (homes q.kind))) _ (or_else (not (in_homes (Specifiers Exported) (homes p.kind))) _ told (ap not p.home)) (ap not q.home) in
    level_walk (W.row false p.kind) (W.row false q.kind) o p.good q.good p.walk q.walk m n

-- ---- two lists

lists_place : {v w : Surroundings} {x y z : Place} (ts us : Forest) → Kepts ts → Kepts us → W.Items IsRead v Commas (Specifiers Exported) x ts y → W.Items IsRead w Commas (Specifiers From) x us z
    → Seen y Punctuator (codes "}") → Seen z Punctuator (codes "}") → y ≡ z
lists_place none none h k (W.nil f) (W.nil f') m n = refl
lists_place none (part u us) h k (W.nil f) j m n = absurd (no_item From u us k j m)
lists_place (part t ts) none h k i (W.nil f) m n = absurd (no_item Exported t ts h i n)
lists_place (part t none) (part u none) h k (W.last {y = p} {z = y} r e f) (W.last {y = q} {z = z} r' e' f') m n =
    let o = specifier_place t u (kept_left h) (kept_left k) r r' (trail_parted p y (trail p y e f) m) (trail_parted q z (trail q z e' f') n) in
    sym e ∙ (ap (forth TrailingComma) o ∙ e')
lists_place (part t none) (part u (part u' us)) h k (W.last {y = p} {z = y} r e f) (W.more {y = q} g r' e' j) m n =
    let c = after_comma q e' in
    let o = specifier_place t u (kept_left h) (kept_left k) r r' (trail_parted p y (trail p y e f) m) (comma_parted q c (items_start j)) in
    absurd (trail_more From u' us o (trail p y e f) m c (items_start j) (kept_right k) j)
lists_place (part t (part t' ts)) (part u none) h k (W.more {y = p} g r e i) (W.last {y = q} {z = z} r' e' f') m n =
    let c = after_comma p e in
    let o = specifier_place t u (kept_left h) (kept_left k) r r' (comma_parted p c (items_start i)) (trail_parted q z (trail q z e' f') n) in
    absurd (trail_more Exported t' ts (sym o) (trail q z e' f') n c (items_start i) (kept_right h) i)
lists_place (part t (part t' ts)) (part u (part u' us)) h k (W.more {y = p} g r e i) (W.more {y = q} g' r' e' j) m n =
    let o = specifier_place t u (kept_left h) (kept_left k) r r' (comma_parted p (after_comma p e) (items_start i)) (comma_parted q (after_comma q e') (items_start j)) in
    lists_place (part t' ts) (part u' us) (kept_right h) (kept_right k) i (move_items (sym (after_comma p e) ∙ (ap (forth comma) o ∙ after_comma q e')) j) m n

-- ---- behind the lists

-- no semicolon is missing behind a list before `from`
from_semi : (x y : Place) → Seen x IdentifierName (codes "from") → forth (Ends AfterList) x ≡ y → IsTrue (is_found y) → IsTrue (is_found (forth Semicolon y)) → ⊥
from_semi Lost y s e f g = absurd (never false (subst (λ p. is_found p ≡ true) (sym e) f) refl)
from_semi (At q d text) y s e f g = by_behind (behind q AfterList text refl (subst (λ y. IsTrue (is_found (forth Semicolon y))) (sym e) g) (ap (λ k. nat_eq k 14) s.kind))
  where
    by_behind : Behind AfterList q (breaks text) (kind_at (At q AfterList text)) (text_at (At q AfterList text)) → ⊥
    by_behind (a_mark k t) = never (same (codes "from") (codes ";")) (ap (λ u. same u (codes ";")) (sym s.text ∙ t)) refl
    by_behind (a_brace k t) = never (same (codes "from") (codes "}")) (ap (λ u. same u (codes "}")) (sym s.text ∙ t)) refl
    by_behind (a_line b c) = never (continues AfterList q (codes "from")) refl (ap (continues AfterList q) (sym s.text) ∙ c)

pub exports_apart : {v w : Surroundings} {x y z : Place} (cs ds : Forest) → Kepts cs → Kepts ds → IsNode IsRead v false (program ExportNames) x cs y → IsNode IsRead w false (program ExportFrom) x ds z → ⊥
exports_apart cs ds h k a b =
    let p1 = at_sign a.walk in
    let p2 = at_sign p1.walk in
    let p3 = at_many p2.walk in
    let p4 = at_sign p3.walk in
    let p5 = at_sign p4.walk in
    let p6 = at_sign p5.walk in
    let q1 = at_sign b.walk in
    let q2 = at_sign q1.walk in
    let q3 = at_many q2.walk in
    let q4 = at_sign q3.walk in
    let q5 = at_sign q4.walk in
    let e1 : p1.next ≡ q1.next = sym p1.moves ∙ q1.moves in
    let e2 : p2.next ≡ q2.next = sym p2.moves ∙ (ap (forth (Tok Operator Punctuator (codes "{"))) e1 ∙ q2.moves) in
    let e3 = lists_place p3.trees q3.trees (kept_list (subst Kepts p3.is h)) (kept_list (subst Kepts q3.is k)) p3.read (move_items e2 q3.read)
    (took Punctuator (codes "}") p3.next p4.moves p4.found) (took Punctuator (codes "}") q3.next q4.moves q4.found) in
    let e4 : p4.next ≡ q4.next = sym p4.moves ∙ (ap (forth (Tok Operator Punctuator (codes "}"))) e3 ∙ q4.moves) in
    from_semi p4.next p5.next (subst (λ z. Seen z IdentifierName (codes "from")) (sym e4) (took IdentifierName (codes "from") q4.next q5.moves q5.found)) p5.moves p5.found (subst (λ z. IsTrue (is_found z)) (sym p6.moves) p6.found)
