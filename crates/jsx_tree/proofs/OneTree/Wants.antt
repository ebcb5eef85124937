-- What is known of a place behind a part, by what its row reads next.
use Rattle.jsx_tree.proofs.OneTree.Spines.{blocked_home}
use Rattle.jsx_tree.proofs.OneTree.Kept.{Which, a_statement, a_taken, a_blocked, a_seq, which, a_jsx}
use Rattle.jsx_tree.proofs.OneTree.Tags.{no_jsx}
use Rattle.jsx_tree.specs.Kinds.{Arrow, expression}
use Rattle.std.proofs.Common.{◌≡◌, ℕ, Bool, true, false, not, List, [], ◌∷◌, refl, sym, ◌∙◌, ap, subst, arith}
use Rattle.std.specs.Prelude.{IsTrue, ◌&&◌, ◌||◌, nat_eq, nat_le, codes}
use Rattle.jsx_base.specs.Token.{Text, Operator, TokenKind, IdentifierName, Punctuator, kind_number, among, same, breaks}
use Rattle.jsx_tree.specs.Signs.{AfterBlock, Sign, Space, Tok, Semicolon, TrailingComma, Unless, SameLine, Ends, AfterExpr, AfterBinding}
use Rattle.jsx_tree.specs.Kinds.{Block, Kind, statement, Tree, leaf, node, list, Forest, none, part}
use Rattle.jsx_tree.specs.Grammar.{Context, Fixed, Part, Optional, Many, Within, Production}
use Rattle.jsx_tree.specs.StaticRules.{Surroundings}
use Rattle.jsx_tree.specs.Reading.{Place, Lost, At, forth, scan, go_if, continues}
use Rattle.jsx_tree.proofs.Tokens.{and_left, and_right, same_is, same_self}
use Rattle.jsx_tree.specs.Walk as W
use Rattle.jsx_tree.specs.Walk.{is_found, is_heard, heard, keep, pieces, IsRead}
use Rattle.jsx_tree.proofs.OneTree.Next.{reach_seen}
use Rattle.jsx_tree.proofs.OneTree.Readings.{calm, reach_of, kind_at, text_at, comma}
use Rattle.jsx_tree.proofs.OneTree.Checks.{every, same_token}
use Rattle.jsx_tree.proofs.OneTree.Facts.{for_kind, never, or_else, not_is, Test, yes', no', test, eq_nat, le_nat, kind_is, Seen, seen, took}
use Rattle.jsx_tree.proofs.OneTree.Fine.{at_sign, at_part, at_end}
use Rattle.jsx_tree.proofs.OneTree.Fine.{calm_more}
use Rattle.jsx_tree.proofs.OneTree.Missing.{Behind, a_mark, a_brace, a_line, behind}
use Rattle.jsx_tree.proofs.OneTree.Endings.{past, found_first}
use Rattle.jsx_tree.proofs.OneTree.Missing.{at_semi}
use Rattle.jsx_tree.proofs.Laws.{scan_lost}
use Rattle.jsx_tree.specs.Nonterminals.{Nonterminal, BlockOnly, homes, in_homes, leaf_in}
use Rattle.jsx_tree.proofs.Rows.Bridge.{node_walk}
use Rattle.jsx_tree.proofs.OneTree.Table.{kinds}
use Rattle.jsx_tree.proofs.OneTree.Statements.{place, stated_kinds, nth}
use Rattle.jsx_tree.proofs.OneTree.Statements.{stated_nth, for_stated}
use Rattle.jsx_tree.proofs.OneTree.Known.{known}
use Rattle.jsx_tree.proofs.OneTree.Evidence.{Kept, Kepts, kept_left, kept_right, kept_kind}
use Rattle.jsx_tree.specs.Spelling.{spelled}

abbrev pub mark : Text → Sign
mark t = Tok Operator Punctuator t

pub data Want : Type 0 where
  anything : Want
  -- what goes on with an expression has this level or less
  ended : ℕ → Want
  -- behind a statement: neither `catch` nor `finally`
  still : Want
  -- behind a list of statements, or of cases
  idle : Want
  shutting : Want
  -- behind a declarator
  declared : Want
  -- behind an item of a list in braces
  parted : Want
  -- not this token
  other : TokenKind → Text → Want

abbrev pub still_at : ℕ → Text → Bool
still_at k t = not (nat_eq k 0 && among t (codes "catch" ∷ codes "finally" ∷ []))

abbrev pub shutting_at : ℕ → Text → Bool
shutting_at k t = nat_eq k 1 && same t (codes "}")

abbrev pub parted_at : ℕ → Text → Bool
parted_at k t = nat_eq k 1 && (same t (codes ",") || same t (codes "}"))

abbrev pub idle_at : ℕ → Text → Bool
idle_at k t = shutting_at k t || (nat_eq k 14 || (nat_eq k 0 && (same t (codes "case") || same t (codes "default"))))

-- what a declarator ends behind: its initialiser, or nothing
abbrev pub bound : Place → Bool
bound (At q AfterExpr text) = true
bound (At q AfterBlock text) = true
bound (At q AfterBinding text) = true
bound x = false

abbrev pub at_binding : Place → Bool
at_binding (At q AfterBinding text) = true
at_binding x = false

abbrev pub is_declared : Place → Bool
is_declared x = is_found (forth comma x) || (is_found (forth (mark (codes ";")) x) || (bound x && is_found (forth Semicolon x)))

abbrev pub is_at : Place → TokenKind → Text → Bool
is_at x k t = nat_eq (kind_at x) (kind_number k) && same (text_at x) t

abbrev pub meets : Want → Place → Bool
meets anything x = true
meets (ended n) x = calm n x
meets still x = still_at (kind_at x) (text_at x)
meets idle x = idle_at (kind_at x) (text_at x)
meets shutting x = shutting_at (kind_at x) (text_at x)
meets declared x = is_declared x
meets parted x = parted_at (kind_at x) (text_at x)
meets (other k t) x = not (is_at x k t)

-- the same of a token that is read
abbrev pub met : Want → TokenKind → Text → Bool
met anything k t = true
met (ended n) k t = nat_le (reach_of (kind_number k) t true) n && nat_le (reach_of (kind_number k) t false) n
met still k t = still_at (kind_number k) t
met idle k t = idle_at (kind_number k) t
met shutting k t = shutting_at (kind_number k) t
met declared k t = same_token k t Punctuator (codes ",") || same_token k t Punctuator (codes ";")
met parted k t = parted_at (kind_number k) t
met (other l u) k t = not (same_token k t l u)

or_left : (a b : Bool) → a ≡ true → (a || b) ≡ true
or_left true b h = refl
or_left false b h = cc

or_right : (a b : Bool) → b ≡ true → (a || b) ≡ true
or_right true b h = refl
or_right false b h = h

same_sign : (k : TokenKind) (t : Text) (l : TokenKind) (u : Text) → same_token k t l u ≡ true → Tok Operator k t ≡ Tok Operator l u
same_sign k t l u h = λ i. Tok Operator (kind_is k l (eq_nat (and_left (nat_eq (kind_number k) (kind_number l)) (same t u) h)) i) (same_is t u (and_right (nat_eq (kind_number k) (kind_number l)) (same t u) h) i)

abbrev pub is_look : Want → Bool
is_look declared = false
is_look w = true

-- the same of a token that is looked at
pub look_met : (w : Want) (k : TokenKind) (t : Text) (x : Place) → is_look w ≡ true → Seen x k t → met w k t ≡ true → meets w x ≡ true
look_met anything k t x l s h = refl
look_met (ended n) k t x l s h = reach_seen k t n x s h
look_met still k t x l s h = (λ i. still_at (s.kind i) (s.text i)) ∙ h
look_met idle k t x l s h = (λ i. idle_at (s.kind i) (s.text i)) ∙ h
look_met shutting k t x l s h = (λ i. shutting_at (s.kind i) (s.text i)) ∙ h
look_met (other l' u) k t x l s h = (λ i. not (nat_eq (s.kind i) (kind_number l') && same (s.text i) u)) ∙ h
look_met parted k t x l s h = (λ i. parted_at (s.kind i) (s.text i)) ∙ h
look_met declared k t x l s h = cc

pub seen_met : (w : Want) (k : TokenKind) (t : Text) (x : Place) → IsTrue (is_found (forth (Tok Operator k t) x)) → met w k t ≡ true → meets w x ≡ true
seen_met anything k t x f h = refl
seen_met (ended n) k t x f h = look_met (ended n) k t x refl (seen k t x f) h
seen_met still k t x f h = look_met still k t x refl (seen k t x f) h
seen_met idle k t x f h = look_met idle k t x refl (seen k t x f) h
seen_met shutting k t x f h = look_met shutting k t x refl (seen k t x f) h
seen_met parted k t x f h = look_met parted k t x refl (seen k t x f) h
seen_met (other l u) k t x f h = look_met (other l u) k t x refl (seen k t x f) h
seen_met declared k t x f h = by_comma (test (same_token k t Punctuator (codes ",")))
  where
    by_comma : Test (same_token k t Punctuator (codes ",")) → is_declared x ≡ true
    by_comma (yes' c) = or_left (is_found (forth comma x)) _ (subst (λ s. is_found (forth s x) ≡ true) (same_sign k t Punctuator (codes ",") c) f)
    by_comma (no' n) =
        let c = or_else (same_token k t Punctuator (codes ",")) _ h n in
        or_right (is_found (forth comma x)) _ (or_left (is_found (forth (mark (codes ";")) x)) _ (subst (λ s. is_found (forth s x) ≡ true) (same_sign k t Punctuator (codes ";") c) f))

-- ---- what one want says of another

abbrev pub implies : Want → Want → Bool
implies e anything = true
implies (ended n) (ended m) = nat_le n m
implies still still = true
implies idle idle = true
implies idle still = true
implies shutting shutting = true
implies shutting idle = true
implies shutting still = true
implies declared declared = true
implies declared (ended n) = nat_le 1 n
implies still (other k t) = nat_eq (kind_number k) 0 && among t (codes "catch" ∷ codes "finally" ∷ [])
implies parted parted = true
implies parted (other k t) = nat_eq (kind_number k) 0
implies e w = false

shut_still : (k : ℕ) (t : Text) → shutting_at k t ≡ true → still_at k t ≡ true
shut_still k t h = (λ i. still_at (eq_nat {a = k} {b = 1} (and_left (nat_eq k 1) _ h) i) t)

idle_still : (k : ℕ) (t : Text) → idle_at k t ≡ true → still_at k t ≡ true
idle_still k t h = by_shut (test (shutting_at k t))
  where
    by_shut : Test (shutting_at k t) → still_at k t ≡ true
    by_shut (yes' s) = shut_still k t s
    by_shut (no' n) = by_end (test (nat_eq k 14)) (or_else (shutting_at k t) _ h n)
      where
        by_end : Test (nat_eq k 14) → (nat_eq k 14 || (nat_eq k 0 && (same t (codes "case") || same t (codes "default")))) ≡ true → still_at k t ≡ true
        by_end (yes' e) r = (λ i. still_at (eq_nat {a = k} {b = 14} e i) t)
        by_end (no' e) r = by_case (test (same t (codes "case"))) (and_right (nat_eq k 0) _ (or_else (nat_eq k 14) _ r e))
          where
            no_word : (b : Bool) → not (b && false) ≡ true
            no_word true = refl
            no_word false = refl

            by_case : Test (same t (codes "case")) → (same t (codes "case") || same t (codes "default")) ≡ true → still_at k t ≡ true
            by_case (yes' c) q = (λ i. still_at k (same_is t (codes "case") c i)) ∙ no_word (nat_eq k 0)
            by_case (no' c) q = (λ i. still_at k (same_is t (codes "default") (or_else (same t (codes "case")) _ q c) i)) ∙ no_word (nat_eq k 0)

-- the token is seen, or another is there
pub is_seen : (x : Place) (k : TokenKind) (t : Text) → is_at x k t ≡ true → Seen x k t
is_seen x k t h = record { kind = eq_nat {a = kind_at x} {b = kind_number k} (and_left (nat_eq (kind_at x) (kind_number k)) _ h); text = same_is (text_at x) t (and_right (nat_eq (kind_at x) (kind_number k)) _ h) }

still_other : (x : Place) (k : TokenKind) (t : Text) → (nat_eq (kind_number k) 0 && among t (codes "catch" ∷ codes "finally" ∷ [])) ≡ true → still_at (kind_at x) (text_at x) ≡ true → not (is_at x k t) ≡ true
still_other x k t h m = by_at (test (is_at x k t))
  where
    by_at : Test (is_at x k t) → not (is_at x k t) ≡ true
    by_at (no' n) = ap not n
    by_at (yes' a) =
        let s = is_seen x k t a in
        absurd (never (nat_eq (kind_number k) 0 && among t (codes "catch" ∷ codes "finally" ∷ [])) h (not_is _ ((λ i. still_at (sym s.kind i) (sym s.text i)) ∙ m)))

parted_other : (x : Place) (k : TokenKind) (t : Text) → nat_eq (kind_number k) 0 ≡ true → parted_at (kind_at x) (text_at x) ≡ true → not (is_at x k t) ≡ true
parted_other x k t h m = by_at (test (is_at x k t))
  where
    by_at : Test (is_at x k t) → not (is_at x k t) ≡ true
    by_at (no' n) = ap not n
    by_at (yes' a) =
        let s = is_seen x k t a in
        absurd (never (nat_eq (kind_at x) 1) (and_left (nat_eq (kind_at x) 1) _ m) (ap (λ n. nat_eq n 1) (s.kind ∙ eq_nat {a = kind_number k} {b = 0} h)))

declared_calm : (x : Place) → past x ≡ true → is_declared x ≡ true → calm 1 x ≡ true
declared_calm x a h = by_comma (test (is_found (forth comma x)))
  where
    by_comma : Test (is_found (forth comma x)) → calm 1 x ≡ true
    by_comma (yes' f) = seen_met (ended 1) Punctuator (codes ",") x f refl
    by_comma (no' n) = by_mark (test (is_found (forth (mark (codes ";")) x))) (or_else (is_found (forth comma x)) _ h n)
      where
        by_mark : Test (is_found (forth (mark (codes ";")) x)) → (is_found (forth (mark (codes ";")) x) || (bound x && is_found (forth Semicolon x))) ≡ true → calm 1 x ≡ true
        by_mark (yes' f) g = seen_met (ended 1) Punctuator (codes ";") x f refl
        by_mark (no' f) g = calm_more 0 1 x (omega arith) (at_semi x a (and_right (bound x) _ (or_else (is_found (forth (mark (codes ";")) x)) _ g f)))

bound_equals : (x : Place) → at_binding x ≡ true → IsTrue (is_found (forth Semicolon x)) → Seen x Punctuator (codes "=") → ⊥
bound_equals Lost b f s = cc
bound_equals (At q AfterBinding text) b f s = by_behind (behind q AfterBinding text refl f (ap (λ k. nat_eq k 14) s.kind))
  where
    by_behind : Behind AfterBinding q (breaks text) (kind_at (At q AfterBinding text)) (text_at (At q AfterBinding text)) → ⊥
    by_behind (a_mark k t) = never (same (codes "=") (codes ";")) (ap (λ u. same u (codes ";")) (sym s.text ∙ t)) refl
    by_behind (a_brace k t) = never (same (codes "=") (codes "}")) (ap (λ u. same u (codes "}")) (sym s.text ∙ t)) refl
    by_behind (a_line b' c) = never (continues AfterBinding q (codes "=")) refl (ap (continues AfterBinding q) (sym s.text) ∙ c)
bound_equals (At q _ text) b f s = cc

-- a declarator with no initialiser ends before no `=`
pub declared_equals : (x : Place) → at_binding x ≡ true → is_declared x ≡ true → Seen x Punctuator (codes "=") → ⊥
declared_equals x a h s = by_comma (test (is_found (forth comma x)))
  where
    apart : (u : Text) → same (codes "=") u ≡ false → IsTrue (is_found (forth (mark u) x)) → ⊥
    apart u n f = never (same (codes "=") u) (ap (λ v. same v u) (sym s.text ∙ (seen Punctuator u x f).text) ∙ same_self u) n

    by_comma : Test (is_found (forth comma x)) → ⊥
    by_comma (yes' f) = apart (codes ",") refl f
    by_comma (no' n) = by_mark (test (is_found (forth (mark (codes ";")) x))) (or_else (is_found (forth comma x)) _ h n)
      where
        by_mark : Test (is_found (forth (mark (codes ";")) x)) → (is_found (forth (mark (codes ";")) x) || (bound x && is_found (forth Semicolon x))) ≡ true → ⊥
        by_mark (yes' f) g = apart (codes ";") refl f
        by_mark (no' f) g =
            let r = or_else (is_found (forth (mark (codes ";")) x)) _ g f in
            bound_equals x a (and_right (bound x) _ r) s

abbrev pub is_calm : Want → Bool
is_calm (ended n) = true
is_calm w = false

pub implied : (e w : Want) (x : Place) → implies e w ≡ true → (is_calm w ≡ true → past x ≡ true) → meets e x ≡ true → meets w x ≡ true
implied e anything x h a m = refl
implied (ended n) (ended m') x h a m = calm_more n m' x (le_nat h) m
implied still still x h a m = m
implied still (other k t) x h a m = still_other x k t h m
implied idle idle x h a m = m
implied idle still x h a m = idle_still (kind_at x) (text_at x) m
implied shutting shutting x h a m = m
implied shutting idle x h a m = or_left (shutting_at (kind_at x) (text_at x)) _ m
implied shutting still x h a m = shut_still (kind_at x) (text_at x) m
implied declared declared x h a m = m
implied declared (ended n) x h a m = calm_more 1 n x (le_nat h) (declared_calm x (a refl) m)
implied parted parted x h a m = m
implied parted (other k t) x h a m = parted_other x k t h m
implied _ _ x h a m = cc

-- ---- signs

unheard_same : (s : Sign) (x : Place) → is_heard s ≡ false → forth s x ≡ x
unheard_same s Lost h = scan_lost (s ∷ [])
unheard_same (Tok m k t) (At q e text) h = cc
unheard_same Semicolon (At q e text) h = cc
unheard_same TrailingComma (At q e text) h = cc
unheard_same (Unless ts) (At q e text) h = cc
unheard_same SameLine (At q e text) h = cc
unheard_same (Ends f) (At q e text) h = cc
unheard_same _ (At q e text) h = refl

-- a sign that looks ahead, or isn't heard
abbrev pub looks : Sign → Bool
looks (Tok m k t) = false
looks Semicolon = false
looks TrailingComma = false
looks (Ends e) = false
looks s = true

place_if : (b : Bool) (x y : Place) → go_if b x ≡ y → IsTrue (is_found y) → x ≡ y
place_if true x y e f = e
place_if false x y e f = absurd (never false (subst (λ p. is_found p ≡ true) (sym e) f) refl)

pub look_same : (s : Sign) (x y : Place) → looks s ≡ true → forth s x ≡ y → IsTrue (is_found y) → x ≡ y
look_same s Lost y o e f = absurd (never false (subst (λ p. is_found p ≡ true) (sym (sym (scan_lost (s ∷ [])) ∙ e)) f) refl)
look_same (Tok m k t) (At q g text) y o e f = cc
look_same Semicolon (At q g text) y o e f = cc
look_same TrailingComma (At q g text) y o e f = cc
look_same (Ends h) (At q g text) y o e f = cc
look_same (Unless ts) (At q g text) y o e f = place_if _ (At q g text) y e f
look_same SameLine (At q g text) y o e f = place_if _ (At q g text) y e f
look_same _ (At q g text) y o e f = e

pub record Signed (V : List Context → Surroundings) (a : List Context) (s : Sign) (ps : Production) (x : Place) (ts : Forest) (z : Place) : Type 0 where
  pub next : Place
  pub moves : forth s x ≡ next
  pub found : is_heard s ≡ true → IsTrue (is_found next)
  pub looked : looks s ≡ true → x ≡ next
  pub walk : W.Walk IsRead V (pieces a ps) next ts z

-- a sign of a row, whether reading hears it or not
pub signed : {V : List Context → Surroundings} (s : Sign) (ps : Production) (a : List Context) {x z : Place} {ts : Forest} → W.Walk IsRead V (pieces a (Fixed s ∷ ps)) x ts z → Signed V a s ps x ts z
signed {V} s ps a {x} {z} {ts} w = by_heard (test (is_heard s))
  where
    by_heard : Test (is_heard s) → Signed V a s ps x ts z
    by_heard (yes' h) =
        let p = at_sign (subst (λ b. W.Walk IsRead V (keep b (W.piece a (Fixed s)) (pieces a ps)) x ts z) h w) in
        record { next = p.next; moves = p.moves; found = λ _. p.found; looked = λ o. look_same s x p.next o p.moves p.found; walk = p.walk }
    by_heard (no' h) =
        record { next = x; moves = unheard_same s x h; found = λ g. absurd (never (is_heard s) g h); looked = λ _. refl; walk = subst (λ b. W.Walk IsRead V (keep b (W.piece a (Fixed s)) (pieces a ps)) x ts z) h w }

-- ---- what stands behind a part

abbrev pub met_tok : Want → Sign → Bool
met_tok w (Tok Operator k t) = met w k t
met_tok w s = false

abbrev pub met_by : Want → Sign → Bool
met_by w Semicolon = is_calm w
met_by w s = met_tok w s

abbrev pub met_first : Want → List Sign → Bool
met_first w [] = false
met_first w (s ∷ ss) = met_tok w s

abbrev pub follow : Want → Production → Want → Bool
follow e ps anything = true
follow e [] w = implies e w
follow e (Fixed s ∷ ps) w = met_by w s || (looks s && follow e ps w)
follow e (Within d ∷ ps) w = follow e ps w
follow e (Optional a c b r ∷ ps) w = met_first w (heard a) && follow e ps w
follow e (Part BlockOnly ∷ ps) w = met w Punctuator (codes "{")
follow e ps w = false

tok_back : (w : Want) (s : Sign) (x : Place) → met_tok w s ≡ true → IsTrue (is_found (forth s x)) → meets w x ≡ true
tok_back w (Tok Operator k t) x h f = seen_met w k t x f h
tok_back w (Tok _ k t) x h f = cc
tok_back w _ x h f = cc

tok_heard : (w : Want) (s : Sign) → met_tok w s ≡ true → is_heard s ≡ true
tok_heard w (Tok Operator k t) h = refl
tok_heard w (Tok _ k t) h = cc
tok_heard w _ h = cc

met_heard : (w : Want) (s : Sign) → met_by w s ≡ true → is_heard s ≡ true
met_heard w Semicolon h = refl
met_heard w (Tok m k t) h = tok_heard w (Tok m k t) h
met_heard w _ h = cc

met_back : (w : Want) (s : Sign) (x : Place) → met_by w s ≡ true → (is_calm w ≡ true → past x ≡ true) → IsTrue (is_found (forth s x)) → meets w x ≡ true
met_back (ended n) Semicolon x h a f = calm_more 0 n x (omega arith) (at_semi x (a refl) f)
met_back w (Tok m k t) x h a f = tok_back w (Tok m k t) x h f
met_back w _ x h a f = cc

first_back : (w : Want) (ms : List Sign) (x : Place) → met_first w ms ≡ true → IsTrue (is_found (scan x ms)) → meets w x ≡ true
first_back w [] x h f = cc
first_back w (s ∷ ss) x h f = tok_back w s x h (found_first ss (forth s x) f)

pub read_start : {v : Surroundings} {b : Bool} {c : Nonterminal} {x y : Place} {t : Tree} → IsRead v b c x t y → IsTrue (is_found x)
read_start {b = b} {x = x} {t = t} r = found_first (W.front b (spelled t)) x (subst (λ z. IsTrue (is_found z)) (sym r.scans) r.found)

pub record AtOptional (V : List Context → Surroundings) (a : List Context) (x' : List Sign) (c : Nonterminal) (y' : List Sign) (r : List Text) (ps : List W.Piece) (x : Place) (ts : Forest) (z : Place) : Type 0 where
  pub trees : Forest
  pub others : Forest
  pub next : Place
  pub is : ts ≡ part (list trees) others
  pub past : W.Past IsRead (V a) (Optional x' c y' r) x (W.one (list trees)) next
  pub walk : W.Walk IsRead V ps next others z

pub at_optional : {V : List Context → Surroundings} {a : List Context} {m : List Sign} {c : Nonterminal} {n : List Sign} {r : List Text} {ps : List W.Piece} {x z : Place} {ts : Forest} → W.Walk IsRead V (W.piece a (Optional m c n r) ∷ ps) x ts z → AtOptional V a m c n r ps x ts z
at_optional (W.next {ts = us} (W.absent {y = y} e f) w) = record { trees = none; others = us; next = y; is = refl; past = W.absent e f; walk = w }
at_optional (W.next {ts = us} (W.present {w = y} {t = t} e r g f) w) = record { trees = part t none; others = us; next = y; is = refl; past = W.present e r g f; walk = w }

optional_back : {v : Surroundings} (w : Want) (m : List Sign) (c : Nonterminal) (n : List Sign) (r : List Text) {x y : Place} {t : Tree} → met_first w m ≡ true → (x ≡ y → meets w x ≡ true) → W.Past IsRead v (Optional m c n r) x (W.one t) y → meets w x ≡ true
optional_back w m c n r h rest (W.absent {x = x} {y = y} e f) = rest (look_same (Unless r) x y refl e f)
optional_back w m c n r h rest (W.present {x = x} e i g f) = first_back w m x h (subst (λ z. IsTrue (is_found z)) (sym e) (read_start i))

block_kinds : every (λ k. not (in_homes BlockOnly (homes k)) || nat_eq (place k) (place (statement Block))) stated_kinds ≡ true
block_kinds = refl

block_clean : every (λ k. not (in_homes BlockOnly (homes k))) kinds ≡ true
block_clean = refl

block_kind : (k : Kind) → known k ≡ true → in_homes BlockOnly (homes k) ≡ true → k ≡ statement Block
block_kind k s h = by_which (which k s)
  where
    by_which : Which k → k ≡ statement Block
    by_which (a_statement t) =
        let e = or_else (not (in_homes BlockOnly (homes k))) _ (for_stated (λ k. not (in_homes BlockOnly (homes k)) || nat_eq (place k) (place (statement Block))) block_kinds k t) (ap not h) in
        sym (stated_nth k t) ∙ ap (nth stated_kinds) (eq_nat {a = place k} {b = place (statement Block)} e)
    by_which (a_jsx j) = absurd (no_jsx BlockOnly k j refl h)
    by_which (a_taken t) = absurd (never (in_homes BlockOnly (homes k)) h (not_is _ (for_kind (λ k. not (in_homes BlockOnly (homes k))) block_clean k t)))
    by_which (a_blocked b) = absurd (never (in_homes BlockOnly (homes (expression Arrow))) (blocked_home BlockOnly k b h) refl)
    by_which (a_seq e) = absurd (never (in_homes BlockOnly (homes k)) h (ap (λ k. in_homes BlockOnly (homes k)) e))

block_first : {v : Surroundings} {x y : Place} (t : Tree) → Kept t → IsRead v false BlockOnly x t y → IsTrue (is_found (forth (mark (codes "{")) x))
block_first (leaf s t) h r = absurd (no_leaf s (and_left (leaf_in BlockOnly s t) _ r.is))
  where
    no_leaf : (s : TokenKind) → leaf_in BlockOnly s t ≡ true → ⊥
    no_leaf IdentifierName h = cc
    no_leaf _ h = cc
block_first (list ts) h r = let bad = r.is in cc
block_first {v} {x} {y} (node k cs) h r =
    let e = block_kind k (kept_kind h) (and_left (in_homes BlockOnly (homes k)) _ r.is) in
    let s = at_sign (node_walk false (statement Block) refl (subst (λ k. IsRead v false BlockOnly x (node k cs) y) e r)).walk in
    subst (λ z. IsTrue (is_found z)) (sym s.moves) s.found

sign_follow : {V : List Context → Surroundings} {a : List Context} {s : Sign} {ps : Production} {x z : Place} {ts : Forest} (e w : Want) → Signed V a s ps x ts z → (met_by w s || (looks s && follow e ps w)) ≡ true → (is_calm w ≡ true → past x ≡ true)
    → (follow e ps w ≡ true → (y : Place) → (is_calm w ≡ true → past y ≡ true) → W.Walk IsRead V (pieces a ps) y ts z → meets w y ≡ true) → meets w x ≡ true
sign_follow {s = s} {ps = ps} {x = x} e w p h c rest = by_met (test (met_by w s))
  where
    by_met : Test (met_by w s) → meets w x ≡ true
    by_met (yes' g) = met_back w s x g c (subst (λ z. IsTrue (is_found z)) (sym p.moves) (p.found (met_heard w s g)))
    by_met (no' g) =
        let o = or_else (met_by w s) _ h g in
        let q = p.looked (and_left (looks s) _ o) in
        subst (λ z. meets w z ≡ true) (sym q) (rest (and_right (looks s) _ o) p.next (λ n. subst (λ z. past z ≡ true) q (c n)) p.walk)

pub follow_meets : {V : List Context → Surroundings} (e : Want) (ps : Production) (w : Want) (a : List Context) {y z : Place} {ts : Forest} → follow e ps w ≡ true → (is_calm w ≡ true → past y ≡ true) → W.Walk IsRead V (pieces a ps) y ts z → Kepts ts → meets e z ≡ true → meets w y ≡ true
follow_meets e ps anything a h c k g m = refl
follow_meets e [] w a {y} {z} h c k g m = subst (λ z. meets w z ≡ true) (sym (at_end k).1) (implied e w z h (λ n. subst (λ z. past z ≡ true) (at_end k).1 (c n)) m)
follow_meets e (Fixed s ∷ ps) w a h c k g m = sign_follow e w (signed s ps a k) h c (λ o y c' k'. follow_meets e ps w a o c' k' g m)
follow_meets e (Within d ∷ ps) w a h c k g m = follow_meets e ps w (d ∷ a) h c k g m
follow_meets e (Optional x d b r ∷ ps) w a {y} h c k g m =
    let p = at_optional k in
    let o = kept_right (subst Kepts p.is g) in
    optional_back w (heard x) d (heard b) r (and_left (met_first w (heard x)) _ h)
    (λ q. subst (λ z. meets w z ≡ true) (sym q) (follow_meets e ps w a (and_right (met_first w (heard x)) _ h) (λ n. subst (λ z. past z ≡ true) q (c n)) p.walk o m)) p.past
follow_meets e (Part BlockOnly ∷ ps) w a {y} h c k g m =
    let p = at_part k in
    seen_met w Punctuator (codes "{") y (block_first p.tree (kept_left (subst Kepts p.is g)) p.read) h
follow_meets e (Part _ ∷ ps) w a h c k g m = cc
follow_meets e (Many s d ∷ ps) w a h c k g m = cc

-- ---- a token that ends an expression of this level

abbrev pub calm_next : ℕ → Production → Bool
calm_next n (Fixed (Tok Operator k t) ∷ ps) = met (ended n) k t
calm_next n (Fixed Space ∷ ps) = calm_next n ps
calm_next n (Within d ∷ ps) = calm_next n ps
calm_next n ps = false

pub next_calm : {V : List Context → Surroundings} (n : ℕ) (a : List Context) (ps : Production) {x z : Place} {ts : Forest} → calm_next n ps ≡ true → W.Walk IsRead V (pieces a ps) x ts z → calm n x ≡ true
next_calm n a (Fixed (Tok Operator k t) ∷ ps) {x} h w =
    let s = signed (Tok Operator k t) ps a w in
    look_met (ended n) k t x refl (took k t x s.moves (s.found refl)) h
next_calm n a (Fixed Space ∷ ps) h w = next_calm n a ps h w
next_calm n a (Within d ∷ ps) h w = next_calm n (d ∷ a) ps h w
next_calm n a (Fixed (Tok _ k u) ∷ ps) h w = cc
next_calm n a (Fixed _ ∷ ps) h w = cc
next_calm n a (_ ∷ ps) h w = cc
next_calm n a [] h w = cc
