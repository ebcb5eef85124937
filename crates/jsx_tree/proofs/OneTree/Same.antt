-- Two readings of one row from one place are one: its signs, its parts, those that may be absent, and its lists.
use Rattle.std.proofs.Common.{◌≡◌, ℕ, Bool, true, false, not, cond, List, [], ◌∷◌, ◌++◌, refl, sym, ◌∙◌, ap, subst}
use Rattle.std.specs.Prelude.{IsTrue, ◌&&◌, ◌||◌, nat_eq, codes}
use Rattle.jsx_base.specs.Token.{Text, Operator, TokenKind, Punctuator, among, same, breaks}
use Rattle.jsx_base.specs.Token.{kind_number, IdentifierName}
use Rattle.jsx_tree.specs.Form.{is}
use Rattle.jsx_tree.specs.Nonterminals.{leaf_in}
use Rattle.jsx_tree.proofs.OneTree.Parts.{word_read}
use Rattle.jsx_tree.specs.Signs.{Sign, Tok, Semicolon, Space, TrailingComma, Unless, SameLine, Ends, AfterWord, AfterKey, AfterBinding}
use Rattle.jsx_tree.specs.Kinds.{Tree, list, Forest, none, part}
use Rattle.jsx_tree.specs.Nonterminals.{Nonterminal, Expr, Ident, BindingIdent, Declarators, Param, CaseClause, ClassMember, is_ident}
use Rattle.jsx_tree.specs.Grammar.{ListShape, Commas, NoTrailing, Context, Fixed, Part, Optional, Many, Within, Production, fixed}
use Rattle.jsx_tree.specs.Form.{enough}
use Rattle.jsx_tree.specs.StaticRules.{Surroundings}
use Rattle.jsx_tree.specs.Reading.{Place, Lost, At, forth, scan, continues}
use Rattle.jsx_tree.proofs.Tokens.{and_left, and_right, same_is}
use Rattle.jsx_tree.specs.Signs.{Pad}
use Rattle.jsx_tree.specs.Kinds.{Side, Imported}
use Rattle.jsx_tree.specs.Nonterminals.{Specifiers}
use Rattle.jsx_tree.proofs.OneTree.Kinds.Specifiers.{specifiers_same}
use Rattle.jsx_tree.specs.Walk as W
use Rattle.jsx_tree.specs.Walk.{is_found, is_heard, heard, keep, pieces, IsRead}
use Rattle.jsx_tree.proofs.OneTree.Readings.{kind_at, text_at, broken}
use Rattle.jsx_tree.proofs.OneTree.Checks.{starts}
use Rattle.jsx_tree.proofs.OneTree.Facts.{never, or_else, not_is, Test, yes', no', test, eq_nat, Seen, took, seen}
use Rattle.jsx_tree.proofs.OneTree.Fine.{at_part, at_many, at_end}
use Rattle.jsx_tree.proofs.OneTree.Next.{unless_kept}
use Rattle.jsx_tree.proofs.OneTree.Missing.{Behind, a_mark, a_brace, a_line, behind}
use Rattle.jsx_tree.proofs.OneTree.Endings.{found_first}
use Rattle.jsx_tree.proofs.OneTree.Afters.{after_tree}
use Rattle.jsx_tree.proofs.OneTree.Evidence.{Kept, Kepts, kept_left, kept_right, kept_list}
use Rattle.jsx_tree.proofs.OneTree.Parts.{tame_of, whole_starts}
use Rattle.jsx_tree.proofs.OneTree.Wants.{declared, at_binding, is_declared, declared_equals, Want, ended, other, is_calm, meets, is_at, looks, look_same, signed, follow, at_optional, read_start, mark}
use Rattle.jsx_tree.proofs.OneTree.Begins.{fits, name', at_seen, ident_fits, is_listed, stop_of}
use Rattle.jsx_tree.proofs.OneTree.Rows.{All, all_parts, Rest, rest_meets, is_whole, whole_is}
use Rattle.jsx_tree.proofs.OneTree.Kinds.Inits.{any_good, any_same, no_signs, none_is, head_starts, starts_apart}
use Rattle.jsx_tree.proofs.OneTree.Lists.{SameRow, liney, lines_same, params_same}
use Rattle.jsx_tree.proofs.OneTree.Kinds.Declarators.{ended_list, declarators_same}

-- ---- what a row has said that a missing semicolon would stand after

pub data Said : Type 0 where
  no_ending : Said
  -- behind `return`, `break` and the like
  word_ending : Said
  -- behind the key of a field
  key_ending : Said
  -- behind what a declarator binds
  binding_ending : Said

abbrev pub said_at : Said → Place → Bool
said_at no_ending x = true
said_at word_ending (At q AfterWord text) = true
said_at key_ending (At q AfterKey text) = true
said_at binding_ending x = at_binding x
said_at d x = false

abbrev pub still_said : Said → Sign → Said
still_said d (Ends AfterWord) = word_ending
still_said d (Ends AfterKey) = key_ending
still_said d (Ends AfterBinding) = binding_ending
still_said d s = cond (looks s) d no_ending

ends_word : (x y : Place) → forth (Ends AfterWord) x ≡ y → IsTrue (is_found y) → said_at word_ending y ≡ true
ends_word Lost y e f = absurd (never false (subst (λ p. is_found p ≡ true) (sym e) f) refl)
ends_word (At q g text) y e f = subst (λ p. said_at word_ending p ≡ true) e refl

ends_key : (x y : Place) → forth (Ends AfterKey) x ≡ y → IsTrue (is_found y) → said_at key_ending y ≡ true
ends_key Lost y e f = absurd (never false (subst (λ p. is_found p ≡ true) (sym e) f) refl)
ends_key (At q g text) y e f = subst (λ p. said_at key_ending p ≡ true) e refl

ends_binding : (x y : Place) → forth (Ends AfterBinding) x ≡ y → IsTrue (is_found y) → said_at binding_ending y ≡ true
ends_binding Lost y e f = absurd (never false (subst (λ p. is_found p ≡ true) (sym e) f) refl)
ends_binding (At q g text) y e f = subst (λ p. said_at binding_ending p ≡ true) e refl

keeps_said : (d : Said) (s : Sign) {x y : Place} → said_at d x ≡ true → forth s x ≡ y → (is_heard s ≡ true → IsTrue (is_found y)) → (looks s ≡ true → x ≡ y) → said_at (still_said d s) y ≡ true
keeps_said d (Ends AfterWord) {x} {y} w e f l = ends_word x y e (f refl)
keeps_said d (Ends AfterKey) {x} {y} w e f l = ends_key x y e (f refl)
keeps_said d (Ends AfterBinding) {x} {y} w e f l = ends_binding x y e (f refl)
keeps_said d (Ends _) w e f l = refl
keeps_said d (Tok m k t) w e f l = refl
keeps_said d Semicolon w e f l = refl
keeps_said d TrailingComma w e f l = refl
keeps_said d (Unless ts) w e f l = subst (λ z. said_at d z ≡ true) (l refl) w
keeps_said d SameLine w e f l = subst (λ z. said_at d z ≡ true) (l refl) w
keeps_said d _ w e f l = subst (λ z. said_at d z ≡ true) (l refl) w

abbrev pub is_word : Said → Bool
is_word word_ending = true
is_word d = false

abbrev pub is_binding : Said → Bool
is_binding binding_ending = true
is_binding d = false

binding_said : (d : Said) (x : Place) → is_binding d ≡ true → said_at d x ≡ true → at_binding x ≡ true
binding_said binding_ending x h w = w
binding_said _ x h w = cc

-- the end of a declarator
abbrev pub ends_declared : Want → Production → Bool
ends_declared declared [] = true
ends_declared e ps = false

abbrev pub is_keyed : Said → Bool
is_keyed key_ending = true
is_keyed d = false

word_said : (d : Said) (x : Place) → is_word d ≡ true → said_at d x ≡ true → said_at word_ending x ≡ true
word_said word_ending x h w = w
word_said _ x h w = cc

key_said : (d : Said) (x : Place) → is_keyed d ≡ true → said_at d x ≡ true → said_at key_ending x ≡ true
key_said key_ending x h w = w
key_said _ x h w = cc

-- ---- a part that may be absent

abbrev pub head_in : List Text → List Sign → Bool
head_in r (Tok Operator k t ∷ ms) = among t r && not (among [] r)
head_in r ms = false

abbrev pub head_other : Want → Production → List Sign → Bool
head_other e ps (Tok Operator k t ∷ ms) = follow e ps (other k t)
head_other e ps ms = false

abbrev pub head_line : List Sign → Bool
head_line (SameLine ∷ []) = true
head_line ms = false

abbrev pub head_equals : List Sign → Bool
head_equals (Tok Operator Punctuator t ∷ ms) = same t (codes "=")
head_equals ms = false

abbrev pub semi_first : Production → Bool
semi_first (Fixed Semicolon ∷ ps) = true
semi_first ps = false

abbrev pub is_ident_place : Nonterminal → Bool
is_ident_place Ident = true
is_ident_place c = false

abbrev pub starty : Want → Production → Nonterminal → Bool
starty e ps c = (is_whole c && follow e ps (ended 0)) || is_ident_place c

-- a name that may be absent before what is none
abbrev pub off_first : List Sign → Bool
off_first (Tok Operator k t ∷ ms) = not (nat_eq (kind_number k) 0 && is_ident t)
off_first ms = false

abbrev pub mark_first : Production → Bool
mark_first (Fixed (Tok Operator k t) ∷ ps) = not (nat_eq (kind_number k) 0 && is_ident t)
mark_first (Fixed Space ∷ ps) = mark_first ps
mark_first (Within a ∷ ps) = mark_first ps
mark_first (Optional m c b r ∷ ps) = off_first (heard m) && mark_first ps
mark_first ps = false

abbrev pub is_name_place : Nonterminal → Bool
is_name_place BindingIdent = true
is_name_place c = false

abbrev pub head_name : List Sign → Nonterminal → Production → Bool
head_name ms c ps = no_signs ms && (is_name_place c && mark_first ps)

-- why it isn't both absent and present
abbrev pub tells : Said → Want → List Sign → Nonterminal → List Sign → List Text → Production → Bool
tells d e m c b r ps = head_starts (heard m) c (fixed b ++ ps) ps || (head_name (heard m) c ps || (head_in r (heard m) || (head_other e ps (heard m) || ((is_word d && (head_line (heard m) && (semi_first ps && starty e (fixed b ++ ps) c))) || ((is_keyed d && (head_equals (heard m) && semi_first ps)) || (is_binding d && (head_equals (heard m) && ends_declared e ps)))))))

ident_is : (c : Nonterminal) → is_ident_place c ≡ true → c ≡ Ident
ident_is Ident h = refl
ident_is _ h = cc

head_seen : {x y : Place} (k : TokenKind) (t : Text) (ms : List Sign) → scan x (Tok Operator k t ∷ ms) ≡ y → IsTrue (is_found y) → Seen x k t
head_seen {x} k t ms e f = seen k t x (found_first ms (forth (Tok Operator k t) x) (subst (λ z. IsTrue (is_found z)) (sym e) f))

in_apart : (r : List Text) (ms : List Sign) (x n y : Place) → head_in r ms ≡ true → forth (Unless r) x ≡ n → IsTrue (is_found n) → scan x ms ≡ y → IsTrue (is_found y) → ⊥
in_apart r (Tok Operator k t ∷ ms) x n y h e f g i =
    let s = head_seen {x = x} {y = y} k t ms g i in
    let q = unless_kept r x n (not_is _ (and_right (among t r) _ h)) e f in
    never (among t r) (and_left (among t r) _ h) (subst (λ u. among u r ≡ false) s.text (not_is (among (text_at x) r) q.held))
in_apart r (Tok _ k t ∷ ms) x n y h e f g i = cc
in_apart r (_ ∷ ms) x n y h e f g i = cc
in_apart r [] x n y h e f g i = cc

other_apart : {V : List Context → Surroundings} {a : List Context} (e : Want) (ps : Production) (ms : List Sign) (x y : Place) → head_other e ps ms ≡ true → Rest V a e ps x → scan x ms ≡ y → IsTrue (is_found y) → ⊥
other_apart e ps (Tok Operator k t ∷ ms) x y h r g i = never (is_at x k t) (at_seen (head_seen {x = x} {y = y} k t ms g i)) (not_is _ (rest_meets (other k t) r h (λ z. no_calm z)))
  where
    no_calm : {P : Type 0} → false ≡ true → P
    no_calm h = cc
other_apart e ps (Tok _ k t ∷ ms) x y h r g i = cc
other_apart e ps (_ ∷ ms) x y h r g i = cc
other_apart e ps [] x y h r g i = cc

line_is : (ms : List Sign) → head_line ms ≡ true → ms ≡ SameLine ∷ []
line_is (SameLine ∷ []) h = refl
line_is (SameLine ∷ s ∷ ms) h = cc
line_is (_ ∷ ms) h = cc
line_is [] h = cc

semi_found : {V : List Context → Surroundings} (a : List Context) {x z : Place} {ts : Forest} (ps : Production) → semi_first ps ≡ true → W.Walk IsRead V (pieces a ps) x ts z → IsTrue (is_found (forth Semicolon x))
semi_found a (Fixed Semicolon ∷ ps) h w = let s = signed Semicolon ps a w in subst (λ z. IsTrue (is_found z)) (sym s.moves) (s.found refl)
semi_found a (Fixed _ ∷ ps) h w = cc
semi_found a (_ ∷ ps) h w = cc
semi_found a [] h w = cc

not_broken : (x y : Place) → forth SameLine x ≡ y → IsTrue (is_found y) → broken x ≡ false
not_broken Lost y e f = refl
not_broken (At q g text) y e f = by_line (breaks text) refl
  where
    by_line : (b : Bool) → breaks text ≡ b → b ≡ false
    by_line false h = refl
    by_line true h = absurd (never false (subst (λ p. is_found p ≡ true) (sym e ∙ (λ i. cond (not (h i)) (At q g text) Lost)) f) refl)

word_start : (x : Place) → fits name' x ≡ true → starts (kind_at x) (text_at x) ≡ true
word_start x h = (λ i. starts (zero_kind (kind_at x) (and_left (nat_eq (kind_at x) 0) _ h) i) (text_at x)) ∙ by_ident (is_ident (text_at x)) _ _ (and_right (nat_eq (kind_at x) 0) _ h)
  where
    zero_kind : (k : ℕ) → nat_eq k 0 ≡ true → k ≡ 0
    zero_kind k h = eq_nat {a = k} {b = 0} h

    by_ident : (a b c : Bool) → a ≡ true → ((a || b) || c) ≡ true
    by_ident true b c h = refl
    by_ident false b c h = cc

worded_apart : (x : Place) → said_at word_ending x ≡ true → IsTrue (is_found (forth Semicolon x)) → broken x ≡ false → starts (kind_at x) (text_at x) ≡ true → ⊥
worded_apart (At q AfterWord text) w f b s = by_end (test (nat_eq (kind_at (At q AfterWord text)) 14))
  where
    by_behind : Behind AfterWord q (breaks text) (kind_at (At q AfterWord text)) (text_at (At q AfterWord text)) → ⊥
    by_behind (a_mark k t) = never (starts 1 (codes ";")) ((λ i. starts (sym k i) (sym t i)) ∙ s) refl
    by_behind (a_brace k t) = never (starts 1 (codes "}")) ((λ i. starts (sym k i) (sym t i)) ∙ s) refl
    by_behind (a_line c d) = never (breaks text) c b

    by_end : Test (nat_eq (kind_at (At q AfterWord text)) 14) → ⊥
    by_end (yes' n) = never (starts 14 (text_at (At q AfterWord text))) ((λ i. starts (sym (end_is (kind_at (At q AfterWord text)) n) i) (text_at (At q AfterWord text))) ∙ s) refl
      where
        end_is : (k : ℕ) → nat_eq k 14 ≡ true → k ≡ 14
        end_is k h = eq_nat {a = k} {b = 14} h
    by_end (no' n) = by_behind (behind q AfterWord text refl f n)
worded_apart _ w f b s = cc

-- the key of a field, and an initialiser
keyed_apart : (x : Place) → said_at key_ending x ≡ true → IsTrue (is_found (forth Semicolon x)) → Seen x Punctuator (codes "=") → ⊥
keyed_apart (At q AfterKey text) w f s = by_behind (behind q AfterKey text refl f (ap (λ k. nat_eq k 14) s.kind))
  where
    by_behind : Behind AfterKey q (breaks text) (kind_at (At q AfterKey text)) (text_at (At q AfterKey text)) → ⊥
    by_behind (a_mark k t) = never (same (codes "=") (codes ";")) (ap (λ u. same u (codes ";")) (sym s.text ∙ t)) refl
    by_behind (a_brace k t) = never (same (codes "=") (codes "}")) (ap (λ u. same u (codes "}")) (sym s.text ∙ t)) refl
    by_behind (a_line b c) = never (continues AfterKey q (codes "=")) refl (ap (continues AfterKey q) (sym s.text) ∙ c)
keyed_apart _ w f s = cc

equals_seen : (ms : List Sign) (x y : Place) → head_equals ms ≡ true → scan x ms ≡ y → IsTrue (is_found y) → Seen x Punctuator (codes "=")
equals_seen (Tok Operator Punctuator t ∷ ms) x y h e f =
    let s = head_seen {x = x} {y = y} Punctuator t ms e f in
    record { kind = s.kind; text = s.text ∙ same_is t (codes "=") h }
equals_seen (Tok Operator _ t ∷ ms) x y h e f = cc
equals_seen (Tok _ k t ∷ ms) x y h e f = cc
equals_seen (_ ∷ ms) x y h e f = cc
equals_seen [] x y h e f = cc

starty_starts : {V : List Context → Surroundings} {v : Surroundings} {a : List Context} {e : Want} {ps : Production} (c : Nonterminal) {x y : Place} (t : Tree) → starty e ps c ≡ true → Kept t → IsRead v false c x t y → Rest V a e ps y → starts (kind_at x) (text_at x) ≡ true
starty_starts {v = v} {e = e} {ps} c {x} {y} t h k r p = by_whole (test (is_whole c && follow e ps (ended 0)))
  where
    by_whole : Test (is_whole c && follow e ps (ended 0)) → starts (kind_at x) (text_at x) ≡ true
    by_whole (yes' w) =
        let r' = subst (λ c. IsRead v false c x t y) (whole_is c (and_left (is_whole c) _ w)) r in
        let i = tame_of t (Expr 0) refl k r'.is in
        whole_starts t i r' (rest_meets (ended 0) p (and_right (is_whole c) _ w) (λ _. after_tree t (Expr 0) i refl r'))
    by_whole (no' n) = word_start x (ident_fits t k (subst (λ c. IsRead v false c x t y) (ident_is c (or_else (is_whole c && follow e ps (ended 0)) _ h n)) r))

-- signs that were scanned, as the row that they make
unscan : {V : List Context → Surroundings} (a : List Context) (b : List Sign) (ps : Production) {x y z : Place} {ts : Forest} → scan x (heard b) ≡ y → IsTrue (is_found y) → W.Walk IsRead V (pieces a ps) y ts z → W.Walk IsRead V (pieces a (fixed b ++ ps)) x ts z
unscan {V} a [] ps {z = z} {ts} e f w = subst (λ y. W.Walk IsRead V (pieces a ps) y ts z) (sym e) w
unscan {V} a (s ∷ b) ps {x} {y} {z} {ts} e f w = by_heard (test (is_heard s)) (λ x e. unscan {V = V} a b ps {x = x} {y = y} {z = z} {ts = ts} e f w)
  where
    by_heard : Test (is_heard s) → ((x : Place) → scan x (heard b) ≡ y → W.Walk IsRead V (pieces a (fixed b ++ ps)) x ts z) → W.Walk IsRead V (keep (is_heard s) (W.piece a (Fixed s)) (pieces a (fixed b ++ ps))) x ts z
    by_heard (yes' h) rest =
        let g : scan (forth s x) (heard b) ≡ y = (λ i. scan x (keep (sym h i) s (heard b))) ∙ e in
        subst (λ c. W.Walk IsRead V (keep c (W.piece a (Fixed s)) (pieces a (fixed b ++ ps))) x ts z) (sym h)
        (W.next (W.sign refl (found_first (heard b) (forth s x) (subst (λ z. IsTrue (is_found z)) (sym g) f))) (rest (forth s x) g))
    by_heard (no' h) rest =
        subst (λ c. W.Walk IsRead V (keep c (W.piece a (Fixed s)) (pieces a (fixed b ++ ps))) x ts z) (sym h) (rest x ((λ i. scan x (keep (sym h i) s (heard b))) ∙ e))

name_is : (c : Nonterminal) → is_name_place c ≡ true → c ≡ BindingIdent
name_is BindingIdent h = refl
name_is _ h = cc

name_leaf : (s : TokenKind) (t : Text) → leaf_in BindingIdent s t ≡ true → (nat_eq (kind_number s) 0 && is_ident t) ≡ true
name_leaf IdentifierName t h = and_left (is_ident t) _ h
name_leaf _ t h = cc

seen_off : (k : TokenKind) (t : Text) (x : Place) → not (nat_eq (kind_number k) 0 && is_ident t) ≡ true → Seen x k t → fits name' x ≡ false
seen_off k t x h r = (λ i. nat_eq (r.kind i) 0 && is_ident (r.text i)) ∙ not_is _ h

scan_off : (ms : List Sign) (x : Place) {y : Place} → off_first ms ≡ true → scan x ms ≡ y → IsTrue (is_found y) → fits name' x ≡ false
scan_off (Tok Operator k t ∷ ms) x {y} h e f = seen_off k t x h (head_seen {x = x} {y = y} k t ms e f)
scan_off (Tok _ k t ∷ ms) x h e f = cc
scan_off (_ ∷ ms) x h e f = cc
scan_off [] x h e f = cc

past_off : {v : Surroundings} (ms : List Sign) (c : Nonterminal) (b : List Sign) (r : List Text) (x : Place) {n : Place} (ts : Forest) → off_first ms ≡ true → W.Past IsRead v (Optional ms c b r) x (W.one (list ts)) n → fits name' n ≡ false → fits name' x ≡ false
past_off ms c b r x {n} _ h (W.absent i f) g = subst (λ z. fits name' z ≡ false) (sym (look_same (Unless r) x n refl i f)) g
past_off ms c b r x _ h (W.present i q s f) g = scan_off ms x h i (read_start q)

-- no name stands where this does
mark_kind : {V : List Context → Surroundings} (a : List Context) (ps : Production) {x z : Place} {ts : Forest} → mark_first ps ≡ true → W.Walk IsRead V (pieces a ps) x ts z → fits name' x ≡ false
mark_kind a (Fixed (Tok Operator k t) ∷ ps) {x} h w =
    let s = signed (Tok Operator k t) ps a w in
    seen_off k t x h (took k t x s.moves (s.found refl))
mark_kind a (Fixed Space ∷ ps) h w = mark_kind a ps h w
mark_kind a (Within b ∷ ps) h w = mark_kind (b ∷ a) ps h w
mark_kind a (Optional m c b r ∷ ps) {x} h w =
    let p = at_optional w in
    past_off (heard m) c (heard b) r x p.trees (and_left (off_first (heard m)) _ h) p.past (mark_kind a ps (and_right (off_first (heard m)) _ h) p.walk)
mark_kind a (Fixed (Tok _ k t) ∷ ps) h w = cc
mark_kind a (Fixed _ ∷ ps) h w = cc
mark_kind a (_ ∷ ps) h w = cc
mark_kind a [] h w = cc

name_apart : {V : List Context → Surroundings} {v : Surroundings} (a : List Context) (ms : List Sign) (c : Nonterminal) (ps : Production) (x : Place) {y z w : Place} {ts : Forest} (t : Tree) → head_name ms c ps ≡ true → W.Walk IsRead V (pieces a ps) x ts w → scan x ms ≡ y → Kept t → IsRead v false c y t z → ⊥
name_apart {v = v} a ms c ps x {y} {z} t h w e k r =
    let o = and_right (no_signs ms) _ h in
    let back : x ≡ y = ap (scan x) (sym (none_is ms (and_left (no_signs ms) _ h))) ∙ e in
    let r' = subst (λ c. IsRead v false c y t z) (name_is c (and_left (is_name_place c) _ o)) r in
    let n = word_read BindingIdent t refl k r' in
    let s : Seen y n.kind n.text = took n.kind n.text y n.moves n.found in
    let d = name_leaf n.kind n.text (and_left (leaf_in BindingIdent n.kind n.text) _ (subst (λ t. is BindingIdent t ≡ true) n.is_leaf r'.is)) in
    never (fits name' x) (ap (fits name') back ∙ ((λ i. nat_eq (s.kind i) 0 && is_ident (s.text i)) ∙ d)) (mark_kind a ps (and_right (is_name_place c) _ o) w)

declared_end : {V : List Context → Surroundings} {a : List Context} (e : Want) (ps : Production) {x : Place} → ends_declared e ps ≡ true → Rest V a e ps x → is_declared x ≡ true
declared_end declared [] h r = subst (λ z. is_declared z ≡ true) (sym (at_end r.walk).1) r.ends
declared_end _ _ h r = cc

absent_present : {V V' : List Context → Surroundings} {v : Surroundings} {a : List Context} (d : Said) (e : Want) (m : List Sign) (c : Nonterminal) (b : List Sign) (r : List Text) (ps : Production) (x : Place) {n y z : Place} (t : Tree) → tells d e m c b r ps ≡ true
    → said_at d x ≡ true → forth (Unless r) x ≡ n → IsTrue (is_found n) → Rest V a e ps n → scan x (heard m) ≡ y → Kept t → IsRead v false c y t z → Rest V' a e (fixed b ++ ps) z → ⊥
absent_present {V = V} {a = a} d e m c b r ps x {n} {y} {z} t h w f g p i k j q = by_starts (test (head_starts (heard m) c (fixed b ++ ps) ps))
  where
    same' : x ≡ n
    same' = look_same (Unless r) x n refl f g

    rest : Rest V a e ps x
    rest = subst (Rest V a e ps) (sym same') p

    by_line : (is_word d && (head_line (heard m) && (semi_first ps && starty e (fixed b ++ ps) c))) ≡ true → ⊥
    by_line o =
        let o1 = and_right (is_word d) _ o in
        let o2 = and_right (head_line (heard m)) _ o1 in
        let l : forth SameLine x ≡ y = ap (scan x) (sym (line_is (heard m) (and_left (head_line (heard m)) _ o1))) ∙ i in
        let s = starty_starts c t (and_right (semi_first ps) _ o2) k j q in
        let back = look_same SameLine x y refl l (read_start j) in
        worded_apart x (word_said d x (and_left (is_word d) _ o) w) (semi_found a ps (and_left (semi_first ps) _ o2) rest.walk) (not_broken x y l (read_start j)) (subst (λ z. starts (kind_at z) (text_at z) ≡ true) (sym back) s)

    by_keyed : Test (is_keyed d && (head_equals (heard m) && semi_first ps)) → ((is_keyed d && (head_equals (heard m) && semi_first ps)) || (is_binding d && (head_equals (heard m) && ends_declared e ps))) ≡ true → ⊥
    by_keyed (yes' o1) u =
        let o2 = and_right (is_keyed d) _ o1 in
        keyed_apart x (key_said d x (and_left (is_keyed d) _ o1) w) (semi_found a ps (and_right (head_equals (heard m)) _ o2) rest.walk) (equals_seen (heard m) x y (and_left (head_equals (heard m)) _ o2) i (read_start j))
    by_keyed (no' n) u =
        let o1 = or_else (is_keyed d && (head_equals (heard m) && semi_first ps)) _ u n in
        let o2 = and_right (is_binding d) _ o1 in
        declared_equals x (binding_said d x (and_left (is_binding d) _ o1) w) (declared_end e ps (and_right (head_equals (heard m)) _ o2) rest) (equals_seen (heard m) x y (and_left (head_equals (heard m)) _ o2) i (read_start j))

    by_said : Test (is_word d && (head_line (heard m) && (semi_first ps && starty e (fixed b ++ ps) c))) → ((is_word d && (head_line (heard m) && (semi_first ps && starty e (fixed b ++ ps) c))) || ((is_keyed d && (head_equals (heard m) && semi_first ps)) || (is_binding d && (head_equals (heard m) && ends_declared e ps)))) ≡ true → ⊥
    by_said (yes' o) u = by_line o
    by_said (no' o) u =
        by_keyed (test (is_keyed d && (head_equals (heard m) && semi_first ps))) (or_else (is_word d && (head_line (heard m) && (semi_first ps && starty e (fixed b ++ ps) c))) _ u o)

    by_other : Test (head_other e ps (heard m)) → (head_other e ps (heard m) || ((is_word d && (head_line (heard m) && (semi_first ps && starty e (fixed b ++ ps) c))) || ((is_keyed d && (head_equals (heard m) && semi_first ps)) || (is_binding d && (head_equals (heard m) && ends_declared e ps))))) ≡ true → ⊥
    by_other (yes' o) u = other_apart e ps (heard m) x y o rest i (read_start j)
    by_other (no' o) u = by_said (test (is_word d && (head_line (heard m) && (semi_first ps && starty e (fixed b ++ ps) c)))) (or_else (head_other e ps (heard m)) _ u o)

    by_in : Test (head_in r (heard m)) → (head_in r (heard m) || (head_other e ps (heard m) || ((is_word d && (head_line (heard m) && (semi_first ps && starty e (fixed b ++ ps) c))) || ((is_keyed d && (head_equals (heard m) && semi_first ps)) || (is_binding d && (head_equals (heard m) && ends_declared e ps)))))) ≡ true → ⊥
    by_in (yes' o) u = in_apart r (heard m) x n y o f g i (read_start j)
    by_in (no' o) u = by_other (test (head_other e ps (heard m))) (or_else (head_in r (heard m)) _ u o)

    by_name : Test (head_name (heard m) c ps) → (head_name (heard m) c ps || (head_in r (heard m) || (head_other e ps (heard m) || ((is_word d && (head_line (heard m) && (semi_first ps && starty e (fixed b ++ ps) c))) || ((is_keyed d && (head_equals (heard m) && semi_first ps)) || (is_binding d && (head_equals (heard m) && ends_declared e ps))))))) ≡ true → ⊥
    by_name (yes' o) u = name_apart a (heard m) c ps x t o rest.walk i k j
    by_name (no' o) u = by_in (test (head_in r (heard m))) (or_else (head_name (heard m) c ps) _ u o)

    by_starts : Test (head_starts (heard m) c (fixed b ++ ps) ps) → ⊥
    by_starts (yes' o) = starts_apart a (heard m) c (fixed b ++ ps) ps x t o rest.walk q.walk i k j
    by_starts (no' o) = by_name (test (head_name (heard m) c ps)) (or_else (head_starts (heard m) c (fixed b ++ ps) ps) _ h o)

unscanned : {V : List Context → Surroundings} {a : List Context} {e : Want} (b : List Sign) (ps : Production) (x : Place) {y : Place} → scan x (heard b) ≡ y → IsTrue (is_found y) → Rest V a e ps y → Rest V a e (fixed b ++ ps) x
unscanned {a = a} b ps x g f r = record { trees = r.trees; end = r.end; walk = unscan a b ps {x = x} g f r.walk; good = r.good; ends = r.ends }

optional_same : {V V' : List Context → Surroundings} {v v' : Surroundings} {a : List Context} (d : Said) (e : Want) (m : List Sign) (c : Nonterminal) (b : List Sign) (r : List Text) (ps : Production) (x : Place) {n n' : Place} (ts us : Forest) → any_good e (fixed b ++ ps) c ≡ true → tells d e m c b r ps ≡ true → said_at d x ≡ true
    → W.Past IsRead v (Optional (heard m) c (heard b) r) x (W.one (list ts)) n → W.Past IsRead v' (Optional (heard m) c (heard b) r) x (W.one (list us)) n' → All ts → Kepts ts → Kepts us → Rest V a e ps n → Rest V' a e ps n' → SameRow ts us n n'
optional_same d e m c b r ps x _ _ g h w (W.absent i f) (W.absent i' f') o k l p q = record { trees = refl; place = sym i ∙ i' }
optional_same d e m c b r ps x _ _ g h w (W.absent i f) (W.present {z = z} {t = u} i' r' s' f') o k l p q =
    absurd (absent_present d e m c b r ps x u h w i f p i' (kept_left l) r' (unscanned b ps z s' f' q))
optional_same d e m c b r ps x _ _ g h w (W.present {z = z} {t = t} i r' s f) (W.absent i' f') o k l p q =
    absurd (absent_present d e m c b r ps x t h w i' f' q i (kept_left k) r' (unscanned b ps z s f p))
optional_same {v' = v'} d e m c b r ps x _ _ g h w (W.present {y = y} {z = z} {t = t} i r1 s f) (W.present {y = y'} {z = z'} {t = u} i' r2 s' f') o k l p q =
    let back : y ≡ y' = sym i ∙ i' in
    let s1 = any_same c t u g (all_parts o).0 (kept_left k) (kept_left l) r1 (subst (λ y. IsRead v' false c y u z') (sym back) r2) (unscanned b ps z s f p) (unscanned b ps z' s' f' q) in
    record { trees = ap (λ t. part t none) s1.tree; place = sym s ∙ (ap (λ z. scan z (heard b)) s1.place ∙ s') }

-- ---- lists

abbrev pub is_commas : ListShape → Bool
is_commas Commas = true
is_commas s = false

abbrev pub is_dense : ListShape → Bool
is_dense NoTrailing = true
is_dense s = false

abbrev pub is_param : Nonterminal → Bool
is_param Param = true
is_param c = false

abbrev pub is_declarators : Nonterminal → Bool
is_declarators Declarators = true
is_declarators c = false

abbrev pub shuts : Production → Bool
shuts (Fixed (Tok Operator Punctuator u) ∷ ps) = same u (codes ")")
shuts ps = false

abbrev pub is_specifiers : Nonterminal → Bool
is_specifiers (Specifiers s) = true
is_specifiers c = false

abbrev pub braces_shut : Production → Bool
braces_shut (Fixed (Tok Operator Punctuator u) ∷ ps) = same u (codes "}")
braces_shut (Fixed Pad ∷ ps) = braces_shut ps
braces_shut ps = false

abbrev pub list_ends : Production → Bool
list_ends (Fixed (Tok Operator Punctuator u) ∷ ps) = same u (codes ";")
list_ends (Fixed Semicolon ∷ ps) = true
list_ends ps = false

abbrev pub many_good : Want → ListShape → Nonterminal → Production → Bool
many_good e s c ps =
    (liney s && (is_listed c && follow e ps (stop_of c)))
    || ((is_commas s && (is_param c && shuts ps)) || ((is_commas s && (is_specifiers c && braces_shut ps)) || (is_dense s && (is_declarators c && list_ends ps))))

commas_is : (s : ListShape) → is_commas s ≡ true → s ≡ Commas
commas_is Commas h = refl
commas_is _ h = cc

dense_is : (s : ListShape) → is_dense s ≡ true → s ≡ NoTrailing
dense_is NoTrailing h = refl
dense_is _ h = cc

param_is : (c : Nonterminal) → is_param c ≡ true → c ≡ Param
param_is Param h = refl
param_is _ h = cc

declarators_is : (c : Nonterminal) → is_declarators c ≡ true → c ≡ Declarators
declarators_is Declarators h = refl
declarators_is _ h = cc

side_of : Nonterminal → Side
side_of (Specifiers s) = s
side_of c = Imported

specifiers_is : (c : Nonterminal) → is_specifiers c ≡ true → c ≡ Specifiers (side_of c)
unfolding side_of
specifiers_is (Specifiers s) h = refl
specifiers_is _ h = cc

brace_seen : {V : List Context → Surroundings} (a : List Context) {x z : Place} {ts : Forest} (ps : Production) → braces_shut ps ≡ true → W.Walk IsRead V (pieces a ps) x ts z → Seen x Punctuator (codes "}")
brace_seen a {x} (Fixed (Tok Operator Punctuator u) ∷ ps) h w =
    let s = signed (Tok Operator Punctuator u) ps a w in
    let r : Seen x Punctuator u = took Punctuator u x s.moves (s.found refl) in
    record { kind = r.kind; text = r.text ∙ same_is u (codes "}") h }
brace_seen a (Fixed Pad ∷ ps) h w = brace_seen a ps h w
brace_seen a (Fixed (Tok Operator _ u) ∷ ps) h w = cc
brace_seen a (Fixed (Tok _ k u) ∷ ps) h w = cc
brace_seen a (Fixed _ ∷ ps) h w = cc
brace_seen a (_ ∷ ps) h w = cc
brace_seen a [] h w = cc

shut_seen : {V : List Context → Surroundings} (a : List Context) {x z : Place} {ts : Forest} (ps : Production) → shuts ps ≡ true → W.Walk IsRead V (pieces a ps) x ts z → Seen x Punctuator (codes ")")
shut_seen a {x} (Fixed (Tok Operator Punctuator u) ∷ ps) h w =
    let s = signed (Tok Operator Punctuator u) ps a w in
    let r : Seen x Punctuator u = took Punctuator u x s.moves (s.found refl) in
    record { kind = r.kind; text = r.text ∙ same_is u (codes ")") h }
shut_seen a (Fixed (Tok Operator _ u) ∷ ps) h w = cc
shut_seen a (Fixed (Tok _ k u) ∷ ps) h w = cc
shut_seen a (Fixed _ ∷ ps) h w = cc
shut_seen a (_ ∷ ps) h w = cc
shut_seen a [] h w = cc

or_left : (a b : Bool) → a ≡ true → (a || b) ≡ true
or_left true b h = refl
or_left false b h = cc

or_right : (a b : Bool) → b ≡ true → (a || b) ≡ true
or_right true b h = refl
or_right false b h = h

list_end : {V : List Context → Surroundings} (a : List Context) {x z : Place} {ts : Forest} (ps : Production) → list_ends ps ≡ true → W.Walk IsRead V (pieces a ps) x ts z → ended_list x ≡ true
list_end a {x} (Fixed (Tok Operator Punctuator u) ∷ ps) h w =
    let s = signed (Tok Operator Punctuator u) ps a w in
    or_left (is_found (forth (mark (codes ";")) x)) _ (subst (λ u. is_found (forth (mark u) x) ≡ true) (same_is u (codes ";") h) (subst (λ z. IsTrue (is_found z)) (sym s.moves) (s.found refl)))
list_end a {x} (Fixed Semicolon ∷ ps) h w =
    let s = signed Semicolon ps a w in
    or_right (is_found (forth (mark (codes ";")) x)) _ (subst (λ z. IsTrue (is_found z)) (sym s.moves) (s.found refl))
list_end a (Fixed (Tok Operator _ u) ∷ ps) h w = cc
list_end a (Fixed (Tok _ k u) ∷ ps) h w = cc
list_end a (Fixed _ ∷ ps) h w = cc
list_end a (_ ∷ ps) h w = cc
list_end a [] h w = cc

move_shape : {v : Surroundings} {s s' : ListShape} {c c' : Nonterminal} {x y : Place} {ts : Forest} → s ≡ s' → c ≡ c' → W.Items IsRead v s c x ts y → W.Items IsRead v s' c' x ts y
move_shape {v} {s} {s'} {c} {c'} {x} {y} {ts} p q i = subst (λ s. W.Items IsRead v s c' x ts y) p (subst (λ c. W.Items IsRead v s c x ts y) q i)

many_same : {V V' : List Context → Surroundings} {v v' : Surroundings} {a : List Context} (e : Want) (s : ListShape) (c : Nonterminal) (ps : Production) {x y z : Place} (ts us : Forest) → many_good e s c ps ≡ true → All ts → Kepts ts → Kepts us → enough s ts ≡ true → enough s us ≡ true
    → W.Items IsRead v s c x ts y → W.Items IsRead v' s c x us z → Rest V a e ps y → Rest V' a e ps z → SameRow ts us y z
many_same {a = a} e s c ps {x} {y} {z} ts us h o k l g g' i j p q = by_lines (test (liney s && (is_listed c && follow e ps (stop_of c))))
  where
    by_dense : (is_dense s && (is_declarators c && list_ends ps)) ≡ true → SameRow ts us y z
    by_dense b =
        let t = and_right (is_dense s) _ b in
        let s' = dense_is s (and_left (is_dense s) _ b) in
        let c' = declarators_is c (and_left (is_declarators c) _ t) in
        declarators_same ts us (subst (λ s. enough s ts ≡ true) s' g) (subst (λ s. enough s us ≡ true) s' g') o k l (move_shape s' c' i) (move_shape s' c' j) (list_end a ps (and_right (is_declarators c) _ t) p.walk) (list_end a ps (and_right (is_declarators c) _ t) q.walk)

    by_specifiers : Test (is_commas s && (is_specifiers c && braces_shut ps)) → ((is_commas s && (is_specifiers c && braces_shut ps)) || (is_dense s && (is_declarators c && list_ends ps))) ≡ true → SameRow ts us y z
    by_specifiers (yes' b) r =
        let t = and_right (is_commas s) _ b in
        let s' = commas_is s (and_left (is_commas s) _ b) in
        let c' = specifiers_is c (and_left (is_specifiers c) _ t) in
        specifiers_same (side_of c) ts us o k l (move_shape s' c' i) (move_shape s' c' j) (brace_seen a ps (and_right (is_specifiers c) _ t) p.walk) (brace_seen a ps (and_right (is_specifiers c) _ t) q.walk)
    by_specifiers (no' b) r = by_dense (or_else (is_commas s && (is_specifiers c && braces_shut ps)) _ r b)

    by_commas : Test (is_commas s && (is_param c && shuts ps)) → ((is_commas s && (is_param c && shuts ps)) || ((is_commas s && (is_specifiers c && braces_shut ps)) || (is_dense s && (is_declarators c && list_ends ps)))) ≡ true → SameRow ts us y z
    by_commas (yes' b) r =
        let t = and_right (is_commas s) _ b in
        let s' = commas_is s (and_left (is_commas s) _ b) in
        let c' = param_is c (and_left (is_param c) _ t) in
        params_same ts us k l (move_shape s' c' i) (move_shape s' c' j) (shut_seen a ps (and_right (is_param c) _ t) p.walk) (shut_seen a ps (and_right (is_param c) _ t) q.walk)
    by_commas (no' b) r = by_specifiers (test (is_commas s && (is_specifiers c && braces_shut ps))) (or_else (is_commas s && (is_param c && shuts ps)) _ r b)

    by_lines : Test (liney s && (is_listed c && follow e ps (stop_of c))) → SameRow ts us y z
    by_lines (yes' b) =
        let t = and_right (liney s) _ b in
        let n = and_right (is_listed c) _ t in
        lines_same s c ts us (and_left (liney s) _ b) (and_left (is_listed c) _ t) o k l i j (rest_meets (stop_of c) p n (no_calm c)) (rest_meets (stop_of c) q n (no_calm c))
      where
        no_calm : (c : Nonterminal) {P : Type 0} → is_calm (stop_of c) ≡ true → P
        no_calm CaseClause h = cc
        no_calm ClassMember h = cc
        no_calm _ h = cc
    by_lines (no' b) = by_commas (test (is_commas s && (is_param c && shuts ps))) (or_else (liney s && (is_listed c && follow e ps (stop_of c))) _ h b)

-- ---- a row

abbrev pub row_good : Said → Want → Production → Bool
row_good d e [] = true
row_good d e (Fixed s ∷ ps) = row_good (still_said d s) e ps
row_good d e (Within a ∷ ps) = row_good d e ps
row_good d e (Part c ∷ ps) = any_good e ps c && row_good no_ending e ps
row_good d e (Optional m c b r ∷ ps) = (any_good e (fixed b ++ ps) c && tells d e m c b r ps) && row_good no_ending e ps
row_good d e (Many s c ∷ ps) = many_good e s c ps && row_good no_ending e ps

move_walk : {V : List Context → Surroundings} {ps : List W.Piece} {x y z : Place} {ts : Forest} → x ≡ y → W.Walk IsRead V ps y ts z → W.Walk IsRead V ps x ts z
move_walk {V} {ps} {z = z} {ts} e w = subst (λ x. W.Walk IsRead V ps x ts z) (sym e) w

pub row_same : {V V' : List Context → Surroundings} (d : Said) (e : Want) (ps : Production) (a : List Context) {x y z : Place} (ts us : Forest) → row_good d e ps ≡ true → said_at d x ≡ true
    → W.Walk IsRead V (pieces a ps) x ts y → W.Walk IsRead V' (pieces a ps) x us z → All ts → Kepts ts → Kepts us → meets e y ≡ true → meets e z ≡ true → SameRow ts us y z
row_same d e [] a ts us g w i j o k l m n = record { trees = (at_end i).0 ∙ sym (at_end j).0; place = sym (at_end i).1 ∙ (at_end j).1 }
row_same d e (Fixed s ∷ ps) a ts us g w i j o k l m n =
    let p = signed s ps a i in
    let q = signed s ps a j in
    row_same (still_said d s) e ps a ts us g (keeps_said d s w p.moves p.found p.looked) p.walk (move_walk (sym p.moves ∙ q.moves) q.walk) o k l m n
row_same d e (Within b ∷ ps) a ts us g w i j o k l m n = row_same d e ps (b ∷ a) ts us g w i j o k l m n
row_same {V} {V'} d e (Part c ∷ ps) a {x} {y} {z} ts us g w i j o k l m n =
    let p = at_part i in
    let q = at_part j in
    let o' = all_parts (subst All p.is o) in
    let k' = subst Kepts p.is k in
    let l' = subst Kepts q.is l in
    let s = any_same {e = e} {ps = ps} c p.tree q.tree (and_left (any_good e ps c) _ g) o'.0 (kept_left k') (kept_left l') p.read q.read
    (record { trees = p.others; end = y; walk = p.walk; good = kept_right k'; ends = m }) (record { trees = q.others; end = z; walk = q.walk; good = kept_right l'; ends = n }) in
    let r = row_same no_ending e ps a p.others q.others (and_right (any_good e ps c) _ g) refl p.walk (move_walk s.place q.walk) o'.1 (kept_right k') (kept_right l') m n in
    record { trees = p.is ∙ ((λ i. part (s.tree i) (r.trees i)) ∙ sym q.is); place = r.place }
row_same {V} {V'} d e (Optional x' c b t ∷ ps) a {x} {y} {z} ts us g w i j o k l m n =
    let p = at_optional i in
    let q = at_optional j in
    let o' = all_parts (subst All p.is o) in
    let k' = subst Kepts p.is k in
    let l' = subst Kepts q.is l in
    let h = and_left (any_good e (fixed b ++ ps) c && tells d e x' c b t ps) _ g in
    let s = optional_same d e x' c b t ps x p.trees q.trees (and_left (any_good e (fixed b ++ ps) c) _ h) (and_right (any_good e (fixed b ++ ps) c) _ h) w p.past q.past o'.0 (kept_list k') (kept_list l')
    (record { trees = p.others; end = y; walk = p.walk; good = kept_right k'; ends = m }) (record { trees = q.others; end = z; walk = q.walk; good = kept_right l'; ends = n }) in
    let r = row_same no_ending e ps a p.others q.others (and_right (any_good e (fixed b ++ ps) c && tells d e x' c b t ps) _ g) refl p.walk (move_walk s.place q.walk) o'.1 (kept_right k') (kept_right l') m n in
    record { trees = p.is ∙ ((λ i. part (list (s.trees i)) (r.trees i)) ∙ sym q.is); place = r.place }
row_same {V} {V'} d e (Many s c ∷ ps) a {x} {y} {z} ts us g w i j o k l m n =
    let p = at_many i in
    let q = at_many j in
    let o' = all_parts (subst All p.is o) in
    let k' = subst Kepts p.is k in
    let l' = subst Kepts q.is l in
    let s' = many_same e s c ps p.trees q.trees (and_left (many_good e s c ps) _ g) o'.0 (kept_list k') (kept_list l') p.enough' q.enough' p.read q.read
    (record { trees = p.others; end = y; walk = p.walk; good = kept_right k'; ends = m }) (record { trees = q.others; end = z; walk = q.walk; good = kept_right l'; ends = n }) in
    let r = row_same no_ending e ps a p.others q.others (and_right (many_good e s c ps) _ g) refl p.walk (move_walk s'.place q.walk) o'.1 (kept_right k') (kept_right l') m n in
    record { trees = p.is ∙ ((λ i. part (list (s'.trees i)) (r.trees i)) ∙ sym q.is); place = r.place }
