-- Optional parts, with what stands before and behind them.
use Rattle.std.proofs.Common.{◌≡◌, ℕ, nat_eq, Bool, true, false, not, cond, List, [], ◌∷◌, refl, sym, ◌∙◌, ap, subst}
use Rattle.std.proofs.lemmas.Bool.{eqb-true, eq-eqb}
use Rattle.std.specs.Prelude.{IsTrue, codes, ◌&&◌, ◌||◌}
use Rattle.jsx_base.specs.Token.{Text, Mode, Operand, Operator, TokenKind, IdentifierName, Punctuator, NumericLiteral, BigIntLiteral, StringLiteral, RegExpLiteral, NoSubstitution, TemplateHead, is_kind, is_token, is_end, at_front, breaks, skip, token, same, among, first_is}
use Rattle.jsx_tree.specs.Signs.{Sign, Tok, Semicolon, Unless, SameLine, Ends, Ending, AfterWord, AfterExpr}
use Rattle.jsx_tree.specs.Kinds.{Tree, list, Forest, none, part}
use Rattle.jsx_tree.specs.Nonterminals.{Nonterminal}
use Rattle.jsx_tree.specs.Grammar.{Context, Fixed, Part, Optional}
use Rattle.jsx_tree.specs.Reading.{ended_at, Place, Lost, At, forth, scan, go_if, may_lack, is_do, continues}
use Rattle.jsx_tree.specs.StaticRules.{Surroundings}
use Rattle.jsx_base.proofs.Fronts.{NoneAhead}
use Rattle.jsx_tree.proofs.Tokens.{and_left, and_right, and_both, same_is, same_self}
use Rattle.jsx_tree.proofs.Apart.{clash, less_first}
use Rattle.jsx_base.proofs.Fronts.{none_ahead, other_ahead}
use Rattle.jsx_tree.specs.Walk.{is_found, Given, nothing, one, Piece, piece, Past, sign, tree, absent, present, Walk, done, next, steady}
use Rattle.jsx_tree.specs.Language.{Language, Whole}
use Rattle.jsx_tree.specs.Answers.{Moves, Stuck, Missed, Only, Barred, NoRow}
use Rattle.jsx_tree.specs.Faults.{Fault, Unread, Shallow, deepest}
use Rattle.jsx_tree.proofs.Depth.Shallow.{shallow_first, shallow_rest, shallow_head, part_up}
use Rattle.jsx_tree.proofs.Rows.Bridge.{found_first, found_at}
use Rattle.jsx_tree.proofs.Rows.Stopping.{or_cases, found_if, is_not, semi_cases, raw_of, stays}
use Rattle.jsx_tree.specs.Grows.{is_operand}
use Rattle.jsx_tree.proofs.Rows.Laws.{Lawful, shut_out, lost_barred, start_found, end_found}
use Rattle.jsx_tree.proofs.Rows.Closers.{opens, openers, Shut}
use Rattle.jsx_tree.proofs.Rows.Steps.{bar, no_sign}
use Rattle.jsx_tree.proofs.Rows.Placing.{OnlyAt}
use Rattle.jsx_tree.proofs.Rows.Turns.{Turn, From, whole_of, item_of}

unless_none : (x : Place) → IsTrue (is_found x) → forth (Unless []) x ≡ x
unless_none Lost f = refl
unless_none (At q e text) f = refl

unless_found : (x : Place) (r : List Text) → IsTrue (is_found (forth (Unless r) x)) → IsTrue (is_found x)
unless_found x r f = found_first (Unless r ∷ []) x f

-- ---- an optional part is absent, or present

pub turn_absent : {L : Language} {v : Surroundings} {a : List Context} {c : Nonterminal} {l m : List Sign} {r : List Text} {ps : List Piece} {x y : Place} → forth (Unless r) x ≡ y → IsTrue (is_found y) → Barred L (steady v a) (Part c) (scan x l) Unread → Turn L v (piece a (Optional l c m r) ∷ ps) ps x y (part (list none))
turn_absent {L} {v} {a} {c} {l} {m} {r} {ps} {x} {y} e f b = record { to = λ ts w walk. next (absent e f) walk; from = back; rises = part_up (list none) }
  where
    back : (us : Forest) (w : Place) → Walk (Whole L) (steady v) (piece a (Optional l c m r) ∷ ps) x us w → From L v ps y (part (list none)) us w
    back us w (next {z = z} {ts = vs} (absent e' f') walk) = record { parts = vs; is = refl; walk = subst (λ p. Walk (Whole L) (steady v) ps p vs w) (sym e' ∙ e) walk }
    back us w (next (present {y = y'} d q e' f') walk) = absurd ((subst (λ p. Barred L (steady v a) (Part c) p Unread) d b).no _ _ (tree q) tt)

pub turn_present : {L : Language} {v : Surroundings} {a : List Context} {c : Nonterminal} {l m : List Sign} {r : List Text} {ps : List Piece} {x y z w : Place} {t : Tree} → scan x l ≡ y → Only L (steady v a) (Part c) y (one t) z → scan z m ≡ w → IsTrue (is_found w) → NoRow L v ps (forth (Unless r) x) Unread → Turn L v (piece a (Optional l c m r) ∷ ps) ps x w (part (list (part t none)))
turn_present {L} {v} {a} {c} {l} {m} {r} {ps} {x} {y} {z} {w} {t} d o e f n = record { to = λ ts u walk. next (present d (whole_of o.past) e f) walk; from = back; rises = part_up (list (part t none)) }
  where
    back : (us : Forest) (u : Place) → Walk (Whole L) (steady v) (piece a (Optional l c m r) ∷ ps) x us u → From L v ps w (part (list (part t none))) us u
    back us u (next {ts = vs} (absent e' f') walk) = absurd (n.no vs u (subst (λ p. Walk (Whole L) (steady v) ps p vs u) (sym e') walk) tt)
    back us u (next {z = w'} {ts = vs} (present {y = y'} {z = z'} {t = t'} d' q e' f') walk) =
        let same = o.alone (one t') z' (tree (subst (λ p. Whole L (steady v a) false c p t' z') (sym d' ∙ d) q)) in
        record { parts = vs; is = λ i. part (list (part (item_of (same.0 i)) none)) vs; walk = subst (λ p. Walk (Whole L) (steady v) ps p vs u) (sym e' ∙ (ap (λ p. scan p m) (sym same.1) ∙ e)) walk }

-- a part that is the last of its row and is there: where the row could end before it, what is at home there doesn't
pub present_last : {L : Language} {v : Surroundings} {o : Nonterminal} {a : List Context} {c : Nonterminal} {l m : List Sign} {x y z w : Place} {t : Tree} → L.ends o x ≡ false → scan x l ≡ y → Only L (steady v a) (Part c) y (one t) z → scan z m ≡ w → IsTrue (is_found w) → OnlyAt L v o (piece a (Optional l c m []) ∷ []) x (part (list (part t none)) none) w
present_last {L} {v} {o} {a} {c} {l} {m} {x} {y} {z} {w} {t} n d q e f = record { walk = next (present d (whole_of q.past) e f) (done f); alone = at }
  where
    at : (us : Forest) (u : Place) → Walk (Whole L) (steady v) (piece a (Optional l c m []) ∷ []) x us u → L.ends o u ≡ true → (part (list (part t none)) none ≡ us) × (w ≡ u)
    at us u (next {ts = vs} (absent e' f') (done g)) h = absurd (clash _ (subst (λ p. L.ends o p ≡ true) (sym e' ∙ unless_none x (unless_found x [] (found_at e' f'))) h) n)
    at us u (next {z = w'} {ts = vs} (present {y = y'} {z = z'} {t = t'} d' r e' f') (done g)) h =
        let same = q.alone (one t') z' (tree (subst (λ p. Whole L (steady v a) false c p t' z') (sym d' ∙ d) r)) in
        ((λ i. part (list (part (item_of (same.0 i)) none)) none), sym e ∙ (ap (λ p. scan p m) same.1 ∙ e'))

-- and one that can't be read
pub none_last : {L : Language} {v : Surroundings} {o : Nonterminal} {a : List Context} {c : Nonterminal} {l m : List Sign} {x y : Place} {e : Fault} → L.ends o x ≡ false → scan x l ≡ y → Barred L (steady v a) (Part c) y e → (us : Forest) (u : Place) → Walk (Whole L) (steady v) (piece a (Optional l c m []) ∷ []) x us u → L.ends o u ≡ true → Shallow e (deepest us) → ⊥
none_last {L} {v} {o} {a} {c} {l} {m} {x} {y} n d b us u (next (absent e' f') (done g)) h s = clash _ (subst (λ p. L.ends o p ≡ true) (sym e' ∙ unless_none x (unless_found x [] (found_at e' f'))) h) n
none_last {L} {v} {o} {a} {c} {l} {m} {x} {y} {e} n d b us u (next {ts = vs} (present {t = t} d' r e' f') w) h s = (subst (λ p. Barred L (steady v a) (Part c) p e) (sym d ∙ d') b).no _ _ (tree r) (shallow_head e t none (shallow_head e (list (part t none)) vs s))

-- ---- a place before a character with which no expression begins

pub record Ender (d : ℕ) : Type 0 where
  pub none : (m : Mode) (k : TokenKind) (t s : Text) (f : Bool) → opens m k t ≡ true → is_token (at_front m f (d ∷ s)) k t ≡ true → ⊥

raw_front : (d : ℕ) (t : Text) (f : Bool) (s : Text) → (at_front Operator f s).raw ≡ d ∷ t → first_is (nat_eq d) s ≡ true
raw_front d t f s e = by (first_is (nat_eq d) s) refl
  where
    by : (b : Bool) → first_is (nat_eq d) s ≡ b → first_is (nat_eq d) s ≡ true
    by true h = h
    by false h =
        let x = at_front Operator f s in
        absurd (clash (is_token x x.kind (d ∷ t)) (and_both _ _ (eq-eqb _ _ refl) (subst (λ r. same r (d ∷ t) ≡ true) (sym e) (same_self (d ∷ t)))) ((other_ahead x.kind d t Operator s h).not_it f))

found_token : (m : Mode) (k : TokenKind) (t q : Text) (e : Ending) (text : Text) → IsTrue (is_found (forth (Tok m k t) (At q e text))) → is_token (token m (same q []) text) k t ≡ true
found_token m k t q e text f = found_if _ (At t AfterExpr (token m (same q []) text).rest) f

-- no mark of those begins with the character
abbrev apart_from : ℕ → List Text → Bool
apart_from d [] = true
apart_from d ([] ∷ ts) = false
apart_from d ((c ∷ u) ∷ ts) = not (nat_eq c d) && apart_from d ts

other_marks : (d : ℕ) (t s : Text) (f : Bool) (ts : List Text) → apart_from d ts ≡ true → among t ts ≡ true → is_token (at_front Operator f (d ∷ s)) Punctuator t ≡ true → ⊥
other_marks d t s f [] a m h = cc
other_marks d t s f ([] ∷ ts) a m h = cc
other_marks d t s f ((c ∷ u) ∷ ts) a m h = or_cases (same t (c ∷ u)) (among t ts) m
    (λ e. clash _ (subst (λ r. is_token (at_front Operator f (d ∷ s)) Punctuator r ≡ true) (same_is t (c ∷ u) e) h) ((other_ahead Punctuator c u Operator (d ∷ s) (is_not _ (and_left (not (nat_eq c d)) (apart_from d ts) a))).not_it f))
    (λ m. other_marks d t s f ts (and_right (not (nat_eq c d)) (apart_from d ts) a) m h)

no_one : (m : Mode) (k : TokenKind) (d : ℕ) (t s : Text) (f : Bool) → NoneAhead m k (d ∷ s) → is_token (at_front m f (d ∷ s)) k t ≡ true → ⊥
no_one m k d t s f n h = clash _ (and_left (is_kind (at_front m f (d ∷ s)).kind k) _ h) (n.none f)

at_semicolon : Ender 59
at_semicolon = record { none = at }
  where
    at : (m : Mode) (k : TokenKind) (t s : Text) (f : Bool) → opens m k t ≡ true → is_token (at_front m f (59 ∷ s)) k t ≡ true → ⊥
    at Operator Punctuator t s f o h = other_marks 59 t s f openers refl o h
    at Operator IdentifierName t s f o h = no_one Operator IdentifierName 59 t s f (none_ahead IdentifierName Operator 59 s refl refl refl) h
    at Operator NumericLiteral t s f o h = no_one Operator NumericLiteral 59 t s f (none_ahead NumericLiteral Operator 59 s refl refl refl) h
    at Operator BigIntLiteral t s f o h = no_one Operator BigIntLiteral 59 t s f (none_ahead BigIntLiteral Operator 59 s refl refl refl) h
    at Operator StringLiteral t s f o h = no_one Operator StringLiteral 59 t s f (none_ahead StringLiteral Operator 59 s refl refl refl) h
    at Operator NoSubstitution t s f o h = no_one Operator NoSubstitution 59 t s f (none_ahead NoSubstitution Operator 59 s refl refl refl) h
    at Operator TemplateHead t s f o h = no_one Operator TemplateHead 59 t s f (none_ahead TemplateHead Operator 59 s refl refl refl) h
    at Operand Punctuator t s f o h = let bad : first_is (nat_eq 60) (59 ∷ s) ≡ true = less_first f (59 ∷ s) (subst (λ r. is_token (at_front Operand f (59 ∷ s)) Punctuator r ≡ true) (same_is t (codes "<") o) h) in cc
    at Operand RegExpLiteral t s f o h = no_one Operand RegExpLiteral 59 t s f (none_ahead RegExpLiteral Operand 59 s refl refl refl) h
    at _ _ t s f o h = cc

at_brace : Ender 125
at_brace = record { none = at }
  where
    at : (m : Mode) (k : TokenKind) (t s : Text) (f : Bool) → opens m k t ≡ true → is_token (at_front m f (125 ∷ s)) k t ≡ true → ⊥
    at Operator Punctuator t s f o h = other_marks 125 t s f openers refl o h
    at Operator IdentifierName t s f o h = no_one Operator IdentifierName 125 t s f (none_ahead IdentifierName Operator 125 s refl refl refl) h
    at Operator NumericLiteral t s f o h = no_one Operator NumericLiteral 125 t s f (none_ahead NumericLiteral Operator 125 s refl refl refl) h
    at Operator BigIntLiteral t s f o h = no_one Operator BigIntLiteral 125 t s f (none_ahead BigIntLiteral Operator 125 s refl refl refl) h
    at Operator StringLiteral t s f o h = no_one Operator StringLiteral 125 t s f (none_ahead StringLiteral Operator 125 s refl refl refl) h
    at Operator NoSubstitution t s f o h = no_one Operator NoSubstitution 125 t s f (none_ahead NoSubstitution Operator 125 s refl refl refl) h
    at Operator TemplateHead t s f o h = no_one Operator TemplateHead 125 t s f (none_ahead TemplateHead Operator 125 s refl refl refl) h
    at Operand Punctuator t s f o h = let bad : first_is (nat_eq 60) (125 ∷ s) ≡ true = less_first f (125 ∷ s) (subst (λ r. is_token (at_front Operand f (125 ∷ s)) Punctuator r ≡ true) (same_is t (codes "<") o) h) in cc
    at Operand RegExpLiteral t s f o h = no_one Operand RegExpLiteral 125 t s f (none_ahead RegExpLiteral Operand 125 s refl refl refl) h
    at _ _ t s f o h = cc

front_none : (d : ℕ) (m : Mode) (k : TokenKind) (t : Text) (f : Bool) (s : Text) → Ender d → first_is (nat_eq d) s ≡ true → opens m k t ≡ true → is_token (at_front m f s) k t ≡ true → ⊥
front_none d m k t f [] n h o e = cc
front_none d m k t f (c ∷ s) n h o e = n.none m k t s f o (subst (λ b. is_token (at_front m f (b ∷ s)) k t ≡ true) (sym (eqb-true d c h)) e)

end_none : (m : Mode) (k : TokenKind) (t : Text) (f : Bool) (s : Text) → s ≡ [] → opens m k t ≡ true → is_token (at_front m f s) k t ≡ true → ⊥
end_none Operator Punctuator t f [] e o h = cc
end_none Operator IdentifierName t f [] e o h = cc
end_none Operator NumericLiteral t f [] e o h = cc
end_none Operator BigIntLiteral t f [] e o h = cc
end_none Operator StringLiteral t f [] e o h = cc
end_none Operator NoSubstitution t f [] e o h = cc
end_none Operator TemplateHead t f [] e o h = cc
end_none Operand Punctuator t f [] e o h = cc
end_none Operand RegExpLiteral t f [] e o h = cc
end_none m k t f (c ∷ s) e o h = cc
end_none _ _ t f [] e o h = cc

-- nothing of what an expression begins with
by_front : (q : Text) (e : Ending) (text : Text) → ((m : Mode) (k : TokenKind) (t : Text) (f : Bool) → opens m k t ≡ true → is_token (at_front m f (skip text)) k t ≡ true → ⊥) → Shut (At q e text)
by_front q e text n = record { no = at }
  where
    at : (m : Mode) (k : TokenKind) (t : Text) → opens m k t ≡ true → IsTrue (is_found (forth (Tok m k t) (At q e text))) → ⊥
    at Operator k t o g = n Operator k t (same q [] || breaks text) o (found_token Operator k t q e text g)
    at Operand k t o g = n Operand k t (same q [] || breaks text) o (found_token Operand k t q e text g)
    at _ k t o g = cc

-- the end of the text
pub end_shut : (x : Place) → ended_at x ≡ true → Shut x
end_shut (At q e text) h = by_front q e text (λ m k t g. end_none m k t g (skip text) (same_is (skip text) [] (and_left (same (skip text) []) _ h)))
end_shut Lost h = cc

-- a semicolon or where one is missing, on the line
pub semicolon_shut : (q : Text) (e : Ending) (text : Text) → is_do e ≡ false → breaks text ≡ false → IsTrue (is_found (forth Semicolon (At q e text))) → Shut (At q e text)
semicolon_shut q e text d b f =
    let x = token Operator false text in
    let ends = is_do e || is_end text in
    let on_line = breaks text && not (continues e q x.raw) in
    semi_cases (is_token x Punctuator (codes ";")) (may_lack e q text) (At (codes ";") AfterExpr x.rest) (At q e text) f
    (λ h. by_front q e text (λ m k t g. front_none 59 m k t g (skip text) at_semicolon (raw_front 59 [] (breaks text) (skip text) (raw_of Punctuator (codes ";") x h))))
    (λ l. or_cases (ends || same x.raw (codes "}")) on_line (and_right (not (same x.raw (codes ";"))) ((ends || same x.raw (codes "}")) || on_line) l)
    (λ r. or_cases ends (same x.raw (codes "}")) r
    (λ r. or_cases (is_do e) (is_end text) r (λ h. absurd (clash _ h d)) (λ h. by_front q e text (λ m k t g. end_none m k t g (skip text) (same_is (skip text) [] (and_left (same (skip text) []) _ h)))))
    (λ h. by_front q e text (λ m k t g. front_none 125 m k t g (skip text) at_brace (raw_front 125 [] (breaks text) (skip text) (same_is x.raw (codes "}") h)))))
    (λ r. absurd (clash _ (and_left (breaks text) _ r) b)))

-- ---- behind a word whose statement ends at a line's end: `return`, `break`, `continue`

abbrev word_row : List Context → Nonterminal → List Piece
word_row a c = piece a (Fixed (Ends AfterWord)) ∷ piece a (Optional (SameLine ∷ []) c [] []) ∷ piece a (Fixed Semicolon) ∷ []

-- behind such a word, where a semicolon stands or is missing, no expression stands on the line; where none is missing, no line ends
word_end : {c : Nonterminal} {L : Language} {v : Surroundings} {e : Fault} (x : Place) → Lawful L → is_operand c ≡ true → IsTrue (is_found (forth Semicolon (forth (Ends AfterWord) x))) → Barred L v (Part c) (forth SameLine (forth (Ends AfterWord) x)) e
word_end Lost l k f = lost_barred l refl
word_end {c} {L} {v} {e = g} (At q e text) l k f = by (breaks text) refl
  where
    by : (b : Bool) → breaks text ≡ b → Barred L v (Part c) (go_if (not (breaks text)) (At q AfterWord text)) g
    by true h = lost_barred l (ap (λ b. go_if (not b) (At q AfterWord text)) h)
    by false h = subst (λ b. Barred L v (Part c) (go_if (not b) (At q AfterWord text)) g) (sym h) (shut_out l k (semicolon_shut q AfterWord text refl h f))

found_sign : {L : Language} {v : Surroundings} {s : Sign} {x y : Place} {g : Given} → Past (Whole L) v (Fixed s) x g y → IsTrue (is_found y)
found_sign (sign e f) = f

ends_at : {L : Language} {v : Surroundings} {x y : Place} {g : Given} → Past (Whole L) v (Fixed (Ends AfterWord)) x g y → forth (Ends AfterWord) x ≡ y
ends_at (sign e f) = e

pub word_absent : {L : Language} {v : Surroundings} {c : Nonterminal} {x y z : Place} → Lawful L → is_operand c ≡ true → Only L v (Fixed (Ends AfterWord)) x nothing y → Moves Semicolon y z → Turn L v (piece [] (Optional (SameLine ∷ []) c [] []) ∷ piece [] (Fixed Semicolon) ∷ []) (piece [] (Fixed Semicolon) ∷ []) y y (part (list none))
word_absent {L} {v} {c} {x} {y} l k o m =
    let f = found_first (Semicolon ∷ []) y (found_at (sym m.is) m.found) in
    turn_absent (unless_none y f) f (subst (λ p. Barred L v (Part c) (forth SameLine p) Unread) (ends_at o.past) (word_end x l k (subst (λ p. IsTrue (is_found (forth Semicolon p))) (sym (ends_at o.past)) (found_at (sym m.is) m.found))))

-- where none is missing, no line ends
found_not : {x y : Place} → x ≡ y → is_found x ≡ true → y ≡ Lost → ⊥
found_not e f g = let bad : false ≡ true = sym (ap is_found (e ∙ g)) ∙ f in cc

semi_stuck : (b l : Bool) (q : Text) (e : Ending) (r s : Text) (f : Ending) (t : Text) → cond b (At q e r) (cond l (At s f t) Lost) ≡ Lost → l ≡ false
semi_stuck true l q e r s f t h = absurd (found_not refl refl h)
semi_stuck false true q e r s f t h = absurd (found_not refl refl h)
semi_stuck false false q e r s f t h = refl

or_true : (a : Bool) → (a || true) ≡ true
or_true true = refl
or_true false = refl

lack : (m a b : Bool) → m ≡ false → b ≡ true → (not m && (a || (b && true))) ≡ true
lack m a b e f = (λ i. not (e i) && (a || (f i && true))) ∙ or_true a

word_line : {L : Language} {v : Surroundings} {c : Nonterminal} (x : Place) {y z : Place} {t : Tree} → Lawful L → is_operand c ≡ true → forth (Ends AfterWord) x ≡ y → Stuck Semicolon y → Only L v (Part c) y (one t) z → forth SameLine y ≡ y
word_line {L} {v} {c} Lost {y} {z} {t} l k e s o = ap (forth SameLine) (sym e) ∙ e
word_line {L} {v} {c} (At q g text) {y} {z} {t} l k e s o = ap (forth SameLine) (sym e) ∙ (by (breaks text) refl ∙ e)
  where
    apart : (b : Bool) → same (token Operator false text).raw (codes ";") ≡ b → same (token Operator false text).raw (codes ";") ≡ false
    apart false h = h
    apart true h =
        let shut = by_front q AfterWord text (λ m k t g. front_none 59 m k t g (skip text) at_semicolon (raw_front 59 [] (breaks text) (skip text) (same_is (token Operator false text).raw (codes ";") h))) in
        absurd ((shut_out {e = Unread} l k (subst (λ p. Shut p) e shut)).no (one t) z o.past tt)

    by : (b : Bool) → breaks text ≡ b → go_if (not (breaks text)) (At q AfterWord text) ≡ At q AfterWord text
    by false h = ap (λ b. go_if (not b) (At q AfterWord text)) h
    by true h = absurd (clash (may_lack AfterWord q text) (lack (same (token Operator false text).raw (codes ";")) ((is_end text) || same (token Operator false text).raw (codes "}")) (breaks text) (apart _ refl) h)
        (semi_stuck (is_token (token Operator false text) Punctuator (codes ";")) (may_lack AfterWord q text) (codes ";") AfterExpr (token Operator false text).rest q AfterWord text (ap (forth Semicolon) e ∙ s.is)))

pub word_present : {L : Language} {v : Surroundings} {c : Nonterminal} {x y y' z : Place} {t : Tree} → Lawful L → is_operand c ≡ true → Only L v (Fixed (Ends AfterWord)) x nothing y → Missed Semicolon y y' → Only L v (Part c) y' (one t) z → Turn L v (piece [] (Optional (SameLine ∷ []) c [] []) ∷ piece [] (Fixed Semicolon) ∷ []) (piece [] (Fixed Semicolon) ∷ []) y z (part (list (part t none)))
word_present {L} {v} {c} {x} {y} {z = z} {t = t} l k o m p =
    let p' : Only L v (Part c) y (one t) z = subst (λ q. Only L v (Part c) q (one t) z) (sym m.same) p in
    turn_present (word_line x l k (ends_at o.past) m.stuck p') p' refl (end_found l (whole_of p.past).reads) (subst (λ q. NoRow L v (piece [] (Fixed Semicolon) ∷ []) q Unread) (sym (unless_none y (found_sign o.past))) (bar (no_sign m.stuck)))

pub word_none : {L : Language} {v : Surroundings} {c : Nonterminal} {x y y' : Place} {e : Fault} → Lawful L → Only L v (Fixed (Ends AfterWord)) x nothing y → Missed Semicolon y y' → Barred L v (Part c) y' e → NoRow L v (piece [] (Optional (SameLine ∷ []) c [] []) ∷ piece [] (Fixed Semicolon) ∷ []) y e
word_none {L} {v} {c} {x} {y} {e = e} l o m b = record { no = at }
  where
    semi : NoRow L v (piece [] (Fixed Semicolon) ∷ []) y e
    semi = bar (no_sign m.stuck)

    here : Barred L v (Part c) y e
    here = subst (λ q. Barred L v (Part c) q e) (sym m.same) b

    at : (us : Forest) (w : Place) → Walk (Whole L) (steady v) (piece [] (Optional (SameLine ∷ []) c [] []) ∷ piece [] (Fixed Semicolon) ∷ []) y us w → Shallow e (deepest us) → ⊥
    at us w (next {ts = vs} (absent i f) walk) s = semi.no vs w (subst (λ p. Walk (Whole L) (steady v) (piece [] (Fixed Semicolon) ∷ []) p vs w) (sym i ∙ unless_none y (found_sign o.past)) walk) (shallow_rest e (one (list none)) vs s)
    at us w (next {ts = vs} (present {y = y1} {z = z1} {t = t} d q i f) walk) s =
        let g = found_at d (start_found l q.reads) in
        here.no (one t) z1 (tree (subst (λ p. Whole L v false c p t z1) (sym d ∙ stays SameLine y refl g) q)) (shallow_head e t none (shallow_first e (one (list (part t none))) vs s))
