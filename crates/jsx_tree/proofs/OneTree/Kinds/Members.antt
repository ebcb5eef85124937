-- Members of a class: the words `static`, `get` and `set` stand before a key, or are one.
use Rattle.jsx_tree.proofs.OneTree.Spines.{blocked_home}
use Rattle.jsx_tree.proofs.OneTree.Kept.{a_blocked, a_jsx}
use Rattle.jsx_tree.proofs.OneTree.Tags.{no_jsx}
use Rattle.jsx_tree.specs.Kinds.{Arrow}
use Rattle.jsx_tree.proofs.OneTree.Evidence.{Kept, Kepts, kept_left, kept_kind}
use Rattle.std.proofs.Common.{◌≡◌, ℕ, Bool, true, false, not, List, [], ◌∷◌, refl, sym, ◌∙◌, ap, subst, arith}
use Rattle.std.specs.Prelude.{IsTrue, ◌&&◌, ◌||◌, nat_eq, codes}
use Rattle.jsx_base.specs.Token.{Text, Operator, Mode, TokenKind, IdentifierName, Punctuator, same, among, breaks, is_token, token}
use Rattle.jsx_tree.specs.Signs.{Tok, Semicolon, Ends, Unless, AfterExpr, AfterKey}
use Rattle.jsx_tree.specs.Kinds.{Seq, expression, Tree, leaf, node, list, Forest}
use Rattle.jsx_tree.specs.Nonterminals.{Nonterminal, Expr, Key, Param, SetterParam, homes, in_homes, leaf_in}
use Rattle.jsx_tree.specs.Grammar.{Context, Fixed, Part, Optional, Production}
use Rattle.jsx_tree.specs.Form.{admits, fits_below}
use Rattle.jsx_tree.specs.StaticRules.{Surroundings}
use Rattle.jsx_tree.specs.Reading.{Place, Lost, At, forth, go_if, continues, prefix_words}
use Rattle.jsx_tree.proofs.Tokens.{and_left, and_right, same_is}
use Rattle.jsx_tree.specs.Walk as W
use Rattle.jsx_tree.specs.Walk.{is_found, pieces, IsRead}
use Rattle.jsx_tree.proofs.OneTree.Table.{kinds}
use Rattle.jsx_tree.proofs.OneTree.Readings.{kind_at, text_at}
use Rattle.jsx_tree.proofs.OneTree.Checks.{every, same_token}
use Rattle.jsx_tree.proofs.OneTree.Facts.{never, or_else, not_is, Test, yes', no', test, eq_nat, for_kind, Seen, took, same_seen}
use Rattle.jsx_tree.proofs.OneTree.Pairs.{two_tokens}
use Rattle.jsx_tree.proofs.OneTree.Fine.{re_home, at_sign, at_part}
use Rattle.jsx_tree.proofs.OneTree.Spines.{home_of}
use Rattle.jsx_tree.proofs.OneTree.Placed.{Placed}
use Rattle.jsx_tree.proofs.OneTree.Missing.{Behind, a_mark, a_brace, a_line, behind}
use Rattle.jsx_tree.proofs.OneTree.Kept.{Which, a_statement, a_taken, a_seq, which}
use Rattle.jsx_tree.proofs.OneTree.Parts.{tame_of, stated_home, SameAt, expr_same}
use Rattle.jsx_tree.proofs.OneTree.Wants.{Want, look_same, read_start, at_optional, calm_next, next_calm}
use Rattle.jsx_tree.proofs.OneTree.Rows.{Rest}
use Rattle.jsx_tree.proofs.OneTree.Lists.{param_same}
use Rattle.jsx_tree.proofs.OneTree.Readings.{key_start}
use Rattle.jsx_tree.proofs.OneTree.Kinds.Keys.{Keyed, named, bracketed, key_view, key_first, key_same}
use Rattle.jsx_tree.proofs.OneTree.Prefixes.{same_next, move_walk, token_clash}

-- ---- parts of members, and what a class extends

abbrev pub is_key_place : Nonterminal → Bool
is_key_place Key = true
is_key_place c = false

abbrev pub is_setter : Nonterminal → Bool
is_setter SetterParam = true
is_setter c = false

abbrev pub is_heritage : Nonterminal → Bool
is_heritage (Expr n) = nat_eq n 17
is_heritage c = false

key_place_is : (c : Nonterminal) → is_key_place c ≡ true → c ≡ Key
key_place_is Key h = refl
key_place_is _ h = cc

setter_is : (c : Nonterminal) → is_setter c ≡ true → c ≡ SetterParam
setter_is SetterParam h = refl
setter_is _ h = cc

heritage_is : (c : Nonterminal) → is_heritage c ≡ true → c ≡ Expr 17
heritage_is (Expr n) h = ap Expr (eq_nat {a = n} {b = 17} h)
heritage_is _ h = cc

setter_leaf : (s : TokenKind) (t : Text) → leaf_in SetterParam s t ≡ true → leaf_in Param s t ≡ true
setter_leaf IdentifierName t h = h
setter_leaf _ t h = cc

setter_taken : every (λ k. not (in_homes SetterParam (homes k)) || in_homes Param (homes k)) kinds ≡ true
setter_taken = refl

setter_seq : in_homes SetterParam (homes (expression Seq)) ≡ false
setter_seq = refl

-- what a setter takes is a parameter
setter_param : {v : Surroundings} {x y : Place} (t : Tree) → Kept t → IsRead v false SetterParam x t y → IsRead v false Param x t y
setter_param (leaf s t) h r = re_home SetterParam Param (leaf s t) (setter_leaf s t (and_left (leaf_in SetterParam s t) _ r.is)) r
setter_param (list ts) h r = let bad = r.is in cc
setter_param {v} {x} {y} (node k cs) h r = by_which (which k (kept_kind h))
  where
    i : in_homes SetterParam (homes k) ≡ true
    i = home_of SetterParam k cs (and_left (admits SetterParam (node k cs)) (fits_below SetterParam (node k cs)) r.is)

    by_which : Which k → IsRead v false Param x (node k cs) y
    by_which (a_statement s) = absurd (stated_home SetterParam k refl s i)
    by_which (a_seq e) = absurd (never (in_homes SetterParam (homes k)) i (ap (λ k. in_homes SetterParam (homes k)) e ∙ setter_seq))
    by_which (a_jsx j) = absurd (no_jsx SetterParam k j refl i)
    by_which (a_blocked s) = absurd (never (in_homes SetterParam (homes (expression Arrow))) (blocked_home SetterParam k s i) refl)
    by_which (a_taken s) = re_home SetterParam Param (node k cs) (or_else (not (in_homes SetterParam (homes k))) _ (for_kind (λ k. not (in_homes SetterParam (homes k)) || in_homes Param (homes k)) setter_taken k s) (ap not i)) r

heritage_placed : Placed 17 17 (Expr 17)
heritage_placed = record { kin' = refl; home' = refl; ended' = refl; seq' = refl }

abbrev pub member_good : Production → Nonterminal → Bool
member_good ps c = is_key_place c || ((is_setter c && calm_next 1 ps) || (is_heritage c && calm_next 17 ps))

pub member_same : {V V' : List Context → Surroundings} {v v' : Surroundings} {a : List Context} {e : Want} {ps : Production} (c : Nonterminal) {x y z : Place} (t u : Tree) → member_good ps c ≡ true → Kept t → Kept u
    → IsRead v false c x t y → IsRead v' false c x u z → Rest V a e ps y → Rest V' a e ps z → SameAt t u y z
member_same {v = v} {v'} {a} {ps = ps} c {x} {y} {z} t u h k l r s p q = by_key (test (is_key_place c))
  where
    at : {w : Surroundings} {y : Place} {t : Tree} {d : Nonterminal} → c ≡ d → IsRead w false c x t y → IsRead w false d x t y
    at {w} {y} {t} e r = subst (λ c. IsRead w false c x t y) e r

    by_setter : Test (is_setter c && calm_next 1 ps) → ((is_setter c && calm_next 1 ps) || (is_heritage c && calm_next 17 ps)) ≡ true → SameAt t u y z
    by_setter (yes' g) f =
        let e = setter_is c (and_left (is_setter c) _ g) in
        let n = and_right (is_setter c) _ g in
        param_same t u k l (setter_param t k (at e r)) (setter_param u l (at e s)) (next_calm 1 a ps n p.walk) (next_calm 1 a ps n q.walk)
    by_setter (no' g) f =
        let m = or_else (is_setter c && calm_next 1 ps) _ f g in
        let e = heritage_is c (and_left (is_heritage c) _ m) in
        let n = and_right (is_heritage c) _ m in
        let r' = at e r in
        let s' = at e s in
        expr_same 17 17 (Expr 17) t u (omega arith) heritage_placed refl (tame_of t (Expr 17) refl k r'.is) (tame_of u (Expr 17) refl l s'.is) r' s' (next_calm 17 a ps n p.walk) (next_calm 17 a ps n q.walk)

    by_key : Test (is_key_place c) → SameAt t u y z
    by_key (yes' g) = let e = key_place_is c g in key_same (key_view t k (at e r)) (key_view u l (at e s))
    by_key (no' g) = by_setter (test (is_setter c && calm_next 1 ps)) (or_else (is_key_place c) _ h g)

-- ---- what stands behind a key

-- where a token has led to
record Taken (t : Text) (y : Place) : Type 0 where
  text : Text
  is : y ≡ At t AfterExpr text

took_at : (m : Mode) (k : TokenKind) (t : Text) (x : Place) {y : Place} → forth (Tok m k t) x ≡ y → IsTrue (is_found y) → Taken t y
took_at m k t Lost e f = absurd (never false (subst (λ p. is_found p ≡ true) (sym e) f) refl)
took_at m k t (At q g text) {y} e f = by_if (is_token (token m (same q []) text) k t) (token m (same q []) text).rest e
  where
    by_if : (b : Bool) (r : Text) → go_if b (At t AfterExpr r) ≡ y → Taken t y
    by_if true r e = record { text = r; is = sym e }
    by_if false r e = absurd (never false (subst (λ p. is_found p ≡ true) (sym e) f) refl)

-- a field behind its key: its initialiser, or what is seen where a semicolon stands or is missing
data AfterField (q text t : Text) : Type 0 where
  preset : Seen (At q AfterKey text) Punctuator t → AfterField q text t
  closed : Behind AfterKey q (breaks text) (kind_at (At q AfterKey text)) (text_at (At q AfterKey text)) → AfterField q text t

field_past : {v : Surroundings} {c : Nonterminal} {t : Text} (q text : Text) {x y : Place} {g : Tree} → W.Past IsRead v (Optional (Tok Operator Punctuator t ∷ []) c [] []) x (W.one g) y → At q AfterKey text ≡ x → IsTrue (is_found (forth Semicolon y)) → nat_eq (kind_at (At q AfterKey text)) 14 ≡ false → AfterField q text t
field_past q text (W.absent {x = x} {y = y} e f) b s n = closed (behind q AfterKey text refl (subst (λ z. IsTrue (is_found (forth Semicolon z))) (sym (b ∙ look_same (Unless []) x y refl e f)) s) n)
field_past {t = t} q text (W.present {x = x} e i g f) b s n = preset (subst (λ z. Seen z Punctuator t) (sym b) (took Punctuator t x e (read_start i)))

abbrev pub is_field : Text → List W.Piece → Bool
is_field u (W.piece a (Fixed (Ends AfterKey)) ∷ W.piece b (Optional (Tok Operator Punctuator t ∷ []) c [] []) ∷ W.piece d (Fixed Semicolon) ∷ ps) = not (same t u)
is_field u ps = false

-- the initialiser's token is another
field_next : {V : List Context → Surroundings} {P : Type 0} (u : Text) (ps : List W.Piece) (q text : Text) {e : _} {y : Place} {ts : Forest} → is_field u ps ≡ true → W.Walk IsRead V ps (At q e text) ts y → nat_eq (kind_at (At q AfterKey text)) 14 ≡ false
    → ((t : Text) → same t u ≡ false → AfterField q text t → P) → P
field_next u (W.piece a (Fixed (Ends AfterKey)) ∷ W.piece b (Optional (Tok Operator Punctuator t ∷ []) c [] []) ∷ W.piece d (Fixed Semicolon) ∷ ps) q text h w n rest =
    let s = at_sign w in
    let o = at_optional s.walk in
    let m = at_sign o.walk in
    rest t (not_is _ h) (field_past q text o.past s.moves (subst (λ z. IsTrue (is_found z)) (sym m.moves) m.found) n)
field_next u _ q text h w n rest = cc

-- no key begins at the end of a text, or with another punctuator than `[`
key_end : (k : ℕ) (t : Text) → key_start k t ≡ true → nat_eq k 14 ≡ false
key_end k t h = by_end (test (nat_eq k 14))
  where
    by_end : Test (nat_eq k 14) → nat_eq k 14 ≡ false
    by_end (no' n) = n
    by_end (yes' e) = absurd (never (key_start 14 t) ((λ i. key_start (sym (eq_nat {a = k} {b = 14} e) i) t) ∙ h) refl)

key_mark : {x : Place} {t : Text} → same t (codes "[") ≡ false → Seen x Punctuator t → key_start (kind_at x) (text_at x) ≡ true → ⊥
key_mark {t = t} n s h = never (key_start 1 t) ((λ i. key_start (sym s.kind i) (sym s.text i)) ∙ h) n

abbrev pub stops_key : Text → List W.Piece → Bool
stops_key u (W.piece a (Fixed (Tok Operator Punctuator t)) ∷ ps) = not (same t (codes "["))
stops_key u ps = is_field (codes "[") ps && among u prefix_words

or_right : (a b : Bool) → b ≡ true → (a || b) ≡ true
or_right true b h = refl
or_right false b h = h

stops_field : {V : List Context → Surroundings} (u : Text) (ps : List W.Piece) (text : Text) {y : Place} {ts : Forest} → (is_field (codes "[") ps && among u prefix_words) ≡ true → W.Walk IsRead V ps (At u AfterExpr text) ts y → key_start (kind_at (At u AfterExpr text)) (text_at (At u AfterExpr text)) ≡ true → ⊥
stops_field u ps text h w b = field_next (codes "[") ps u text (and_left (is_field (codes "[") ps) _ h) w (key_end (kind_at (At u AfterExpr text)) (text_at (At u AfterExpr text)) b) by_after
  where
    mark_off : (k : ℕ) (t v : Text) → k ≡ 1 → t ≡ v → same v (codes "[") ≡ false → key_start k t ≡ true → ⊥
    mark_off k t v e f n g = never (key_start 1 v) ((λ i. key_start (sym e i) (sym f i)) ∙ g) n

    by_after : (t : Text) → same t (codes "[") ≡ false → AfterField u text t → ⊥
    by_after t n (preset s) = mark_off (kind_at (At u AfterExpr text)) (text_at (At u AfterExpr text)) t s.kind s.text n b
    by_after t n (closed (a_mark k e)) = mark_off (kind_at (At u AfterExpr text)) (text_at (At u AfterExpr text)) (codes ";") k e refl b
    by_after t n (closed (a_brace k e)) = mark_off (kind_at (At u AfterExpr text)) (text_at (At u AfterExpr text)) (codes "}") k e refl b
    by_after t n (closed (a_line l c)) = never (continues AfterKey u (text_at (At u AfterKey text))) (or_right (among (text_at (At u AfterKey text)) (codes "=" ∷ codes "(" ∷ [])) _ (and_right (is_field (codes "[") ps) _ h)) c

-- behind a word that is a key no key begins
stops_clash : {V : List Context → Surroundings} (u : Text) (ps : List W.Piece) (text : Text) {y : Place} {ts : Forest} → stops_key u ps ≡ true → W.Walk IsRead V ps (At u AfterExpr text) ts y → key_start (kind_at (At u AfterExpr text)) (text_at (At u AfterExpr text)) ≡ true → ⊥
stops_clash u (W.piece a (Fixed (Tok Operator Punctuator t)) ∷ ps) text h w b = let s = at_sign w in key_mark {x = At u AfterExpr text} (not_is _ h) (took Punctuator t (At u AfterExpr text) s.moves s.found) b
stops_clash u (W.piece a (Fixed (Ends e)) ∷ ps) text h w b = stops_field u (W.piece a (Fixed (Ends e)) ∷ ps) text h w b
stops_clash u _ text h w b = cc

-- ---- two members

abbrev pub begins_key : List W.Piece → Bool
begins_key (W.piece a (Part Key) ∷ ps) = true
begins_key (W.piece a (Fixed (Tok Operator IdentifierName t)) ∷ ps) = true
begins_key ps = false

begun_key : {V : List Context → Surroundings} (ps : List W.Piece) {x y : Place} {ts : Forest} → begins_key ps ≡ true → Kepts ts → W.Walk IsRead V ps x ts y → key_start (kind_at x) (text_at x) ≡ true
begun_key (W.piece a (Part Key) ∷ ps) h k w = let p = at_part w in key_first (key_view p.tree (kept_left (subst Kepts p.is k)) p.read)
begun_key (W.piece a (Fixed (Tok Operator IdentifierName t)) ∷ ps) {x} h k w = let s = at_sign w in let r : Seen x IdentifierName t = took IdentifierName t x s.moves s.found in (λ i. key_start (r.kind i) (r.text i))
begun_key _ h k w = cc

abbrev pub is_open : List W.Piece → Bool
is_open (W.piece a (Fixed (Tok Operator Punctuator t)) ∷ ps) = same t (codes "(")
is_open ps = false

open_seen : {V : List Context → Surroundings} (ps : List W.Piece) {x y : Place} {ts : Forest} → is_open ps ≡ true → W.Walk IsRead V ps x ts y → Seen x Punctuator (codes "(")
open_seen (W.piece a (Fixed (Tok Operator Punctuator t)) ∷ ps) {x} h w =
    let s = at_sign w in
    let r : Seen x Punctuator t = took Punctuator t x s.moves s.found in
    record { kind = r.kind; text = r.text ∙ same_is t (codes "(") h }
open_seen _ h w = cc

-- a method and a field
open_field : {V : List Context → Surroundings} (ps : List W.Piece) (x : Place) {y : Place} {ts : Forest} → is_field (codes "(") ps ≡ true → W.Walk IsRead V ps x ts y → Seen x Punctuator (codes "(") → ⊥
open_field ps Lost h w s = never (nat_eq 14 1) (ap (λ n. nat_eq n 1) s.kind) refl
open_field ps (At q e text) h w s = field_next (codes "(") ps q text h w (ap (λ n. nat_eq n 14) s.kind) by_after
  where
    by_after : (t : Text) → same t (codes "(") ≡ false → AfterField q text t → ⊥
    by_after t n (preset r) = never (same t (codes "(")) (ap (λ u. same u (codes "(")) (sym r.text ∙ s.text)) n
    by_after t n (closed (a_mark k f)) = never (same (codes "(") (codes ";")) (ap (λ u. same u (codes ";")) (sym s.text ∙ f)) refl
    by_after t n (closed (a_brace k f)) = never (same (codes "(") (codes "}")) (ap (λ u. same u (codes "}")) (sym s.text ∙ f)) refl
    by_after t n (closed (a_line l c)) = never (continues AfterKey q (codes "(")) refl (ap (continues AfterKey q) (sym s.text) ∙ c)

abbrev pub members_apart : List W.Piece → List W.Piece → Bool
members_apart (W.piece a (Fixed (Tok Operator k t)) ∷ ps) (W.piece b (Fixed (Tok Operator l u)) ∷ qs) = not (same_token k t l u) || members_apart ps qs
members_apart (W.piece a (Part Key) ∷ ps) (W.piece b (Fixed (Tok Operator IdentifierName u)) ∷ qs) = stops_key u ps && begins_key qs
members_apart (W.piece a (Part Key) ∷ ps) (W.piece b (Part Key) ∷ qs) = is_open ps && is_field (codes "(") qs
members_apart ps qs = false

-- a word that is a key, and one that stands before a key
word_clash : {V V' : List Context → Surroundings} {v : Surroundings} (u : Text) (ps qs : List W.Piece) {x p q y z : Place} {t : Tree} {ts us : Forest} → stops_key u ps ≡ true → begins_key qs ≡ true → Keyed v x t p → W.Walk IsRead V ps p ts y → forth (Tok Operator IdentifierName u) x ≡ q → IsTrue (is_found q) → Kepts us → W.Walk IsRead V' qs q us z → ⊥
word_clash u ps qs {x} h o (bracketed k n) i m f g j = let s = at_sign n.walk in two_tokens (took IdentifierName u x m f) (took Punctuator (codes "[") x s.moves s.found) refl
word_clash u ps qs {x} h o (named s t a e k) i m f g j =
    let back = same_next x s IdentifierName t u (same_seen (took s t x e k) (took IdentifierName u x m f)) e m in
    let r = took_at Operator IdentifierName u x m f in
    stops_clash u ps r.text h (move_walk (sym (back ∙ r.is)) i) (subst (λ z. key_start (kind_at z) (text_at z) ≡ true) r.is (begun_key qs o g j))

pub members_clash : {V V' : List Context → Surroundings} (ps qs : List W.Piece) {x y z : Place} {ts us : Forest} → members_apart ps qs ≡ true → Kepts ts → Kepts us → W.Walk IsRead V ps x ts y → W.Walk IsRead V' qs x us z → ⊥
members_clash (W.piece a (Fixed (Tok Operator k t)) ∷ ps) (W.piece b (Fixed (Tok Operator l u)) ∷ qs) {x} h f g i j =
    let p = at_sign i in
    let q = at_sign j in
    token_clash k l t u x (took k t x p.moves p.found) (took l u x q.moves q.found) h (λ s o. members_clash ps qs o f g p.walk (move_walk (same_next x k l t u s p.moves q.moves) q.walk))
members_clash (W.piece a (Part Key) ∷ ps) (W.piece b (Fixed (Tok Operator IdentifierName u)) ∷ qs) h f g i j =
    let p = at_part i in
    let q = at_sign j in
    word_clash u ps qs (and_left (stops_key u ps) _ h) (and_right (stops_key u ps) _ h) (key_view p.tree (kept_left (subst Kepts p.is f)) p.read) p.walk q.moves q.found g q.walk
members_clash (W.piece a (Part Key) ∷ ps) (W.piece b (Part Key) ∷ qs) h f g i j =
    let p = at_part i in
    let q = at_part j in
    let o = key_same (key_view p.tree (kept_left (subst Kepts p.is f)) p.read) (key_view q.tree (kept_left (subst Kepts q.is g)) q.read) in
    open_field qs q.next (and_right (is_open ps) _ h) q.walk (subst (λ z. Seen z Punctuator (codes "(")) o.place (open_seen ps (and_left (is_open ps) _ h) p.walk))
members_clash _ _ h f g i j = cc
