-- Two rows of which the first tokens differ don't stand at one place.
use Rattle.jsx_tree.proofs.OneTree.Kinds.Imports.{string_first}
use Rattle.jsx_tree.proofs.OneTree.Rows.{clause_first}
use Rattle.jsx_tree.specs.Nonterminals.{ImportClause, ClassOnly}
use Rattle.jsx_tree.proofs.OneTree.Kinds.Alone.{class_first}
use Rattle.std.proofs.Common.{◌≡◌, Bool, true, false, not, List, [], ◌∷◌, refl, sym, ◌∙◌, ap, subst}
use Rattle.std.specs.Prelude.{◌&&◌, ◌||◌, nat_eq, codes}
use Rattle.jsx_base.specs.Token.{Text, Operator, TokenKind, IdentifierName, StringLiteral, kind_number, among}
use Rattle.jsx_tree.specs.Signs.{Tok, Unless}
use Rattle.jsx_tree.specs.Kinds.{Tree, leaf, node, list, Forest}
use Rattle.jsx_tree.specs.Nonterminals.{Nonterminal, StringOnly, Declaration, homes, in_homes, leaf_in, is_ident}
use Rattle.jsx_tree.specs.Grammar.{Context, Fixed, Part, production}
use Rattle.jsx_tree.specs.Form.{admits, is, fits_below}
use Rattle.jsx_tree.specs.StaticRules.{Surroundings}
use Rattle.jsx_tree.specs.Reading.{Place, forth}
use Rattle.jsx_tree.proofs.Tokens.{and_left, and_right, same_is}
use Rattle.jsx_tree.specs.Walk as W
use Rattle.jsx_tree.specs.Walk.{is_found, IsRead}
use Rattle.jsx_tree.proofs.Rows.Bridge.{node_walk}
use Rattle.jsx_tree.proofs.OneTree.Statements.{stated_kinds}
use Rattle.jsx_tree.proofs.OneTree.Readings.{kind_at, text_at}
use Rattle.jsx_tree.proofs.OneTree.Checks.{every, starts, same_token}
use Rattle.jsx_tree.proofs.OneTree.Facts.{kind_is, never, or_else, not_is, Test, yes', no', test, eq_nat, Seen, took, same_seen}
use Rattle.jsx_tree.proofs.OneTree.Pairs.{two_tokens}
use Rattle.jsx_tree.proofs.OneTree.Fine.{at_sign, at_part, at_end}
use Rattle.jsx_tree.proofs.OneTree.Next.{unless_kept}
use Rattle.jsx_tree.proofs.OneTree.Spines.{home_of}
use Rattle.jsx_tree.proofs.OneTree.Statements.{for_stated}
use Rattle.jsx_tree.proofs.OneTree.Evidence.{Kept, Kepts, kept_left, kept_kind, kept_parts}
use Rattle.jsx_tree.proofs.OneTree.Parts.{wordy, word_read, word_same}
use Rattle.jsx_tree.proofs.OneTree.Wants.{Want, still, other, is_calm, implies, implied, meets, is_at, is_seen}
use Rattle.jsx_tree.proofs.OneTree.Begins.{Front, token', expr', name', front, fits, front_fits, at_seen}
use Rattle.jsx_tree.proofs.OneTree.Rows.{own_leaf, own_kind}

-- ---- fronts that differ

abbrev pub front_apart : Front → Front → Bool
front_apart (token' k t) (token' l u) = not (same_token k t l u)
front_apart (token' k t) (expr' ts) = not (starts (kind_number k) t) || among t ts
front_apart (expr' ts) (token' k t) = not (starts (kind_number k) t) || among t ts
front_apart (token' k t) name' = not (nat_eq (kind_number k) 0 && is_ident t)
front_apart name' (token' k t) = not (nat_eq (kind_number k) 0 && is_ident t)
front_apart f g = false

token_expr : (k : TokenKind) (t : Text) (ts : List Text) (x : Place) → (not (starts (kind_number k) t) || among t ts) ≡ true → fits (token' k t) x ≡ true → fits (expr' ts) x ≡ true → ⊥
token_expr k t ts x h f g = by_start (test (not (starts (kind_number k) t)))
  where
    s : Seen x k t
    s = is_seen x k t f

    by_start : Test (not (starts (kind_number k) t)) → ⊥
    by_start (yes' n) = never (starts (kind_number k) t) ((λ i. starts (sym s.kind i) (sym s.text i)) ∙ and_left (starts (kind_at x) (text_at x)) _ g) (not_is _ n)
    by_start (no' n) = never (among t ts) (or_else (not (starts (kind_number k) t)) _ h n) (ap (λ u. among u ts) (sym s.text) ∙ not_is _ (and_right (starts (kind_at x) (text_at x)) _ g))

token_name : (k : TokenKind) (t : Text) (x : Place) → not (nat_eq (kind_number k) 0 && is_ident t) ≡ true → fits (token' k t) x ≡ true → fits name' x ≡ true → ⊥
token_name k t x h f g =
    let s = is_seen x k t f in
    never (nat_eq (kind_number k) 0 && is_ident t) ((λ i. nat_eq (sym s.kind i) 0 && is_ident (sym s.text i)) ∙ g) (not_is _ h)

pub fronts_apart : (f g : Front) (x : Place) → front_apart f g ≡ true → fits f x ≡ true → fits g x ≡ true → ⊥
fronts_apart (token' k t) (token' l u) x h f g = two_tokens (is_seen x k t f) (is_seen x l u g) (not_is _ h)
fronts_apart (token' k t) (expr' ts) x h f g = token_expr k t ts x h f g
fronts_apart (expr' ts) (token' k t) x h f g = token_expr k t ts x h g f
fronts_apart (token' k t) name' x h f g = token_name k t x h f g
fronts_apart name' (token' k t) x h f g = token_name k t x h g f
fronts_apart _ _ x h f g = cc

-- ---- rows that begin with the same token

-- a token against what a part begins with
abbrev pub part_apart : TokenKind → Text → Nonterminal → Bool
part_apart k t StringOnly = not (nat_eq (kind_number k) 4)
part_apart k t Declaration = every (λ l. not (in_homes Declaration (homes l)) || front_apart (token' k t) (front still (production l))) stated_kinds
part_apart k t ClassOnly = not (same_token k t IdentifierName (codes "class"))
part_apart k t c = false

abbrev pub rows_apart : List W.Piece → List W.Piece → Bool
rows_apart (W.piece a (Fixed (Tok Operator k t)) ∷ ps) (W.piece b (Fixed (Tok Operator l u)) ∷ qs) = not (same_token k t l u) || rows_apart ps qs
rows_apart (W.piece a (Fixed (Tok Operator k t)) ∷ ps) (W.piece b (Fixed (Unless ts)) ∷ qs) = among t ts && not (among [] ts)
rows_apart (W.piece a (Fixed (Tok Operator k t)) ∷ ps) (W.piece b (Part c) ∷ []) = part_apart k t c
rows_apart (W.piece a (Part StringOnly) ∷ ps) (W.piece b (Part ImportClause) ∷ qs) = true
rows_apart (W.piece a (Fixed (Unless ts)) ∷ ps) (W.piece b (Part ClassOnly) ∷ qs) = among (codes "class") ts && not (among [] ts)
rows_apart ps qs = false

string_leaf : (s : TokenKind) (t : Text) → leaf_in StringOnly s t ≡ true → kind_number s ≡ 4
string_leaf StringLiteral t h = refl
string_leaf _ t h = cc

part_clash : {v : Surroundings} {x y : Place} (k : TokenKind) (t : Text) (c : Nonterminal) (u : Tree) → part_apart k t c ≡ true → Seen x k t → Kept u → IsRead v false c x u y → meets still y ≡ true → ⊥
part_clash {x = x} k t StringOnly u h s g r m =
    let w = word_read StringOnly u refl g r in
    let o : Seen x w.kind w.text = took w.kind w.text x w.moves w.found in
    let e = string_leaf w.kind w.text (and_left (leaf_in StringOnly w.kind w.text) _ (subst (λ t. is StringOnly t ≡ true) w.is_leaf r.is)) in
    never (nat_eq (kind_number k) 4) (ap (λ n. nat_eq n 4) (sym s.kind ∙ (o.kind ∙ e))) (not_is _ h)
part_clash k t Declaration (leaf s u) h o g r m = own_leaf Declaration s u refl (and_left (leaf_in Declaration s u) _ r.is)
part_clash k t Declaration (list us) h o g r m = let bad = r.is in cc
part_clash {x = x} k t Declaration (node l cs) h o g r m =
    let i = home_of Declaration l cs (and_left (admits Declaration (node l cs)) (fits_below Declaration (node l cs)) r.is) in
    let s = own_kind Declaration l refl (kept_kind g) i in
    let a = or_else (not (in_homes Declaration (homes l))) _ (for_stated (λ l. not (in_homes Declaration (homes l)) || front_apart (token' k t) (front still (production l))) h l s) (ap not i) in
    fronts_apart (token' k t) (front still (production l)) x a (at_seen o) (front_fits still (production l) [] (node_walk false l refl r).walk (kept_parts g) m)
part_clash k t ClassOnly u h s g r m = two_tokens s (class_first u g r) (not_is _ h)
part_clash k t _ u h s g r m = cc

pub same_next : (x : Place) (k l : TokenKind) (t u : Text) {y z : Place} → same_token k t l u ≡ true → forth (Tok Operator k t) x ≡ y → forth (Tok Operator l u) x ≡ z → y ≡ z
same_next x k l t u h e f = sym e ∙ ((λ i. forth (Tok Operator (kind_is k l (eq_nat (and_left (nat_eq (kind_number k) (kind_number l)) _ h)) i) (same_is t u (and_right (nat_eq (kind_number k) (kind_number l)) _ h) i)) x) ∙ f)

pub move_walk : {V : List Context → Surroundings} {ps : List W.Piece} {x y z : Place} {ts : Forest} → x ≡ y → W.Walk IsRead V ps y ts z → W.Walk IsRead V ps x ts z
move_walk {V} {ps} {z = z} {ts} e w = subst (λ x. W.Walk IsRead V ps x ts z) (sym e) w

pub token_clash : (k l : TokenKind) (t u : Text) (x : Place) {b : Bool} → Seen x k t → Seen x l u → (not (same_token k t l u) || b) ≡ true → (same_token k t l u ≡ true → b ≡ true → ⊥) → ⊥
token_clash k l t u x {b} p q h rest = rest (same_seen p q) (by_not (same_token k t l u) (same_seen p q) h)
  where
    by_not : (a : Bool) → a ≡ true → (not a || b) ≡ true → b ≡ true
    by_not true e h = h
    by_not false e h = cc

pub rows_clash : {V V' : List Context → Surroundings} (ps qs : List W.Piece) {x y z : Place} {ts us : Forest} → rows_apart ps qs ≡ true → Kepts ts → Kepts us → W.Walk IsRead V ps x ts y → W.Walk IsRead V' qs x us z → meets still z ≡ true → ⊥
rows_clash (W.piece a (Fixed (Tok Operator k t)) ∷ ps) (W.piece b (Fixed (Tok Operator l u)) ∷ qs) {x} h f g i j m =
    let p = at_sign i in
    let q = at_sign j in
    token_clash k l t u x (took k t x p.moves p.found) (took l u x q.moves q.found) h (λ s o. rows_clash ps qs o f g p.walk (move_walk (same_next x k l t u s p.moves q.moves) q.walk) m)
rows_clash (W.piece a (Fixed (Tok Operator k t)) ∷ ps) (W.piece b (Fixed (Unless ts)) ∷ qs) {x} h f g i j m =
    let p = at_sign i in
    let q = at_sign j in
    let s : Seen x k t = took k t x p.moves p.found in
    let r = unless_kept ts x q.next (not_is _ (and_right (among t ts) _ h)) q.moves q.found in
    never (among t ts) (and_left (among t ts) _ h) (subst (λ u. among u ts ≡ false) s.text (not_is (among (text_at x) ts) r.held))
rows_clash (W.piece a (Fixed (Tok Operator k t)) ∷ ps) (W.piece b (Part c) ∷ []) {x} h f g i j m =
    let p = at_sign i in
    let q = at_part j in
    part_clash k t c q.tree h (took k t x p.moves p.found) (kept_left (subst Kepts q.is g)) q.read (subst (λ z. meets still z ≡ true) (sym (at_end q.walk).1) m)
rows_clash (W.piece a (Part StringOnly) ∷ ps) (W.piece b (Part ImportClause) ∷ qs) {x} h f g i j m =
    let p = at_part i in
    let q = at_part j in
    never (nat_eq (kind_at x) 4) (ap (λ n. nat_eq n 4) (string_first p.tree (kept_left (subst Kepts p.is f)) p.read)) (clause_first q.tree (kept_left (subst Kepts q.is g)) q.read).1
rows_clash (W.piece a (Fixed (Unless ts)) ∷ ps) (W.piece b (Part ClassOnly) ∷ qs) {x} h f g i j m =
    let p = at_sign i in
    let q = at_part j in
    let s = class_first q.tree (kept_left (subst Kepts q.is g)) q.read in
    let r = unless_kept ts x p.next (not_is _ (and_right (among (codes "class") ts) _ h)) p.moves p.found in
    never (among (codes "class") ts) (and_left (among (codes "class") ts) _ h) (subst (λ u. among u ts ≡ false) s.text (not_is (among (text_at x) ts) r.held))
rows_clash _ _ h f g i j m = cc

-- ---- a word that ends its row, and one that goes on

abbrev pub words_apart : Want → List W.Piece → List W.Piece → Bool
words_apart e (W.piece a (Part c) ∷ []) (W.piece b (Part d) ∷ W.piece g (Fixed (Tok Operator k t)) ∷ qs) = wordy c && (wordy d && (implies e (other k t) && not (is_calm (other k t))))
words_apart e ps qs = false

pub words_clash : {V V' : List Context → Surroundings} (e : Want) (ps qs : List W.Piece) {x y z : Place} {ts us : Forest} → words_apart e ps qs ≡ true → Kepts ts → Kepts us → W.Walk IsRead V ps x ts y → W.Walk IsRead V' qs x us z → meets e y ≡ true → ⊥
words_clash e (W.piece a (Part c) ∷ []) (W.piece b (Part d) ∷ W.piece g (Fixed (Tok Operator k t)) ∷ qs) h f f' i j m =
    let p = at_part i in
    let n = at_end p.walk in
    let q = at_part j in
    let s = at_sign q.walk in
    let o = and_right (wordy c) _ h in
    let w = word_same (word_read c p.tree (and_left (wordy c) _ h) (kept_left (subst Kepts p.is f)) p.read) (word_read d q.tree (and_left (wordy d) _ o) (kept_left (subst Kepts q.is f')) q.read) in
    let r = implied e (other k t) p.next (and_left (implies e (other k t)) _ (and_right (wordy d) _ o)) no_calm (subst (λ z. meets e z ≡ true) (sym n.1) m) in
    never (is_at p.next k t) (at_seen (subst (λ z. Seen z k t) (sym w.place) (took k t q.next s.moves s.found))) (not_is _ r)
  where
    no_calm : {P : Type 0} → false ≡ true → P
    no_calm h = cc
words_clash e _ _ h f f' i j m = cc
