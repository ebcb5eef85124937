-- A list of signs that joins scans what it lays with comments before its tokens.
use Rattle.std.proofs.Common.{◌≡◌, ℕ, suc, List, [], ◌∷◌, ◌++◌, Bool, true, false, not, ◌||◌, ◌&&◌, codes, refl, sym, ap, ◌∙◌, subst}
use Rattle.std.specs.Prelude.{nat_eq}
use Rattle.std.proofs.lemmas.Bool.{false≢true, and_parts, eqb-true, or_left, not-true, or_right, or_from}
use Rattle.jsx_base.specs.Token.{Text, Mode, Operand, Operator, Piece, Tag, Children, TokenKind, IdentifierName, Punctuator, NumericLiteral, BigIntLiteral, StringLiteral, RegExpLiteral, NoSubstitution, TemplateHead, TemplateMiddle, TemplateTail, JsxName, JsxString, JsxText, Elision, NoToken, same, among, first_is, skip, skips, breaks, at_front, token}
use Rattle.jsx_tree.specs.Signs.{Ending, AfterExpr, Sign, Tok, Semicolon, TrailingComma, Unless, SameLine, Ends, Space, Pad, Line, Indent, Outdent, Unindent, Apart, Begin, Count, One, End}
use Rattle.jsx_tree.specs.Layout.{Note, notes_text, laid, line, pull, is_out, is_pad, last, first_char, first_token}
use Rattle.jsx_tree.specs.Reading.{At, scan, ended_at, go_if, semi_at, token_at}
use Rattle.jsx_tree.specs.Kinds.{Tree}
use Rattle.jsx_tree.specs.Spelling.{spelled}
use Rattle.jsx_tree.specs.Notes.{no_note, all_beside, noted}
use Rattle.jsx_tree.proofs.ReadBack.Joins.{Ahead, sign_ahead, ahead, follows, is_mode, is_mark, stands, skips_next, open_gap, head_ok, no_slash, is_none_of, sign_good, good, at_end, joins}
use Rattle.jsx_tree.proofs.ReadBack.Punctuators.{mark_slash}
use Rattle.jsx_tree.proofs.ReadBack.CommentGaps.{Gap, Comments, gap_pad, gap_nil, gap_blank, gap_more, gap_end}
use Rattle.jsx_tree.proofs.ReadBack.Signs.{append, append_nil, indent_pad, Gaps, gaps_follow, found, Found, first_next, either_way, apart_head, head_char, slash_raw, operand_slash, not_among, taken, comma_no, all_follow_semi, it}
use Rattle.jsx_tree.proofs.ReadBack.Basics.{all_first, clash}

-- ---- a token is read behind any gap

or_nothing : (b : Bool) → (b || false) ≡ b
or_nothing true = refl
or_nothing false = refl

-- a token behind any gap
any_gap : (m : Mode) (s : TokenKind) (t rest : Text) → Found m s t rest → (g : Text) (l : Bool) (f : Bool) → Gap l g → (skips m ≡ false → g ≡ []) → token m f (g ++ (t ++ rest)) ≡ it s t rest
any_gap Operand s t rest q g l f p e =
    let x : Text = t ++ rest in
    let b : Bool = f || breaks (g ++ x) in
    ap (at_front Operand b) (p.skipped x) ∙ ap (λ z. at_front Operand z (skip x)) (sym (or_nothing b)) ∙ ap (λ z. at_front Operand (b || z) (skip x)) (sym (q.unbroken refl)) ∙ q.read [] b refl (λ i. refl)
any_gap Operator s t rest q g l f p e =
    let x : Text = t ++ rest in
    let b : Bool = f || breaks (g ++ x) in
    ap (at_front Operator b) (p.skipped x) ∙ ap (λ z. at_front Operator z (skip x)) (sym (or_nothing b)) ∙ ap (λ z. at_front Operator (b || z) (skip x)) (sym (q.unbroken refl)) ∙ q.read [] b refl (λ i. refl)
any_gap Tag s t rest q g l f p e =
    let x : Text = t ++ rest in
    let b : Bool = f || breaks (g ++ x) in
    ap (at_front Tag b) (p.skipped x) ∙ ap (λ z. at_front Tag z (skip x)) (sym (or_nothing b)) ∙ ap (λ z. at_front Tag (b || z) (skip x)) (sym (q.unbroken refl)) ∙ q.read [] b refl (λ i. refl)
any_gap Piece s t rest q g l f p e = ap (λ z. token Piece f (z ++ (t ++ rest))) (e refl) ∙ q.read [] f refl (λ i. refl)
any_gap Children s t rest q g l f p e = ap (λ z. token Children f (z ++ (t ++ rest))) (e refl) ∙ q.read [] f refl (λ i. refl)

any_semi : (y g : Text) (l : Bool) (f : Bool) → Gap l g → token Operator f (g ++ (59 ∷ y)) ≡ it Punctuator (codes ";") y
any_semi y g l f p = any_gap Operator Punctuator (codes ";") y (found Operator Punctuator (codes ";") y refl (all_follow_semi y)) g l f p (λ e. absurd (false≢true (sym e)))

-- ---- what is laid begins with

no_notes_text : (n : List Bool) (ns : List Note) → no_note ns ≡ true → notes_text n ns ≡ []
no_notes_text n [] h = refl
no_notes_text n (x ∷ xs) h = absurd (false≢true h)

first_all : (p : ℕ → Bool) (y : Text) → first_is (nat_eq 47) y ≡ true → p 47 ≡ true → all_first p y ≡ true
first_all p [] h e = refl
first_all p (c ∷ y) h e = subst (λ z. p z ≡ true) (eqb-true 47 c h) e

-- the token i of the list begins so, or its notes, which begin with a slash
token_head : (p : ℕ → Bool) (f : ℕ → List Note) → Comments f → (i : ℕ) (n : List Bool) (m : Mode) (s : TokenKind) (t y : Text) → stands m s t ≡ true → p (first_char t) ≡ true → (no_note (f i) || p 47) ≡ true → all_first p (notes_text n (f i) ++ (t ++ y)) ≡ true
token_head p f c i n m s t y h e k = go (no_note (f i)) refl k
  where
    go : (b : Bool) → no_note (f i) ≡ b → (b || p 47) ≡ true → all_first p (notes_text n (f i) ++ (t ++ y)) ≡ true
    go true z w = subst (λ x. all_first p (x ++ (t ++ y)) ≡ true) (sym (no_notes_text n (f i) z)) (head_char p m s t y h e)
    go false z w = first_all p (notes_text n (f i) ++ (t ++ y)) (c.slash i n (t ++ y) z) w

end_head : (p : ℕ → Bool) (f : ℕ → List Note) → Comments f → (i : ℕ) (n : List Bool) → (no_note (f i) || p 47) ≡ true → all_first p (notes_text n (f i)) ≡ true
end_head p f c i n k = go (no_note (f i)) refl k
  where
    go : (b : Bool) → no_note (f i) ≡ b → (b || p 47) ≡ true → all_first p (notes_text n (f i)) ≡ true
    go true z w = subst (λ x. all_first p x ≡ true) (sym (no_notes_text n (f i) z)) refl
    go false z w = subst (λ x. all_first p x ≡ true) (append_nil (notes_text n (f i))) (first_all p (notes_text n (f i) ++ []) (c.slash i n [] z) w)

-- a slash may come, or nothing noted does, or a blank stands between
abbrev Slash : (ℕ → Bool) → (ℕ → List Note) → ℕ → Ahead → Bool
Slash p f i v = v.sure || (no_note (f i) || p 47)

head : (p : ℕ → Bool) → p 32 ≡ true → p 10 ≡ true → (f : ℕ → List Note) → Comments f → (ms : List Sign) (i : ℕ) (n : List Bool) (q : Text) (bare : Bool) → good ms at_end ≡ true → head_ok p q (ahead ms at_end) ≡ true → Slash p f i (ahead ms at_end) ≡ true → all_first p (laid f i n q bare ms) ≡ true
head p b l f c [] i n q bare g h k = end_head p f c i n k
head p b l f c (Tok m s t ∷ ms) i n q bare g h k =
    let a = and_parts (sign_good (Tok m s t) (ahead ms at_end)) (good ms at_end) g in
    token_head p f c i n m s t (laid f (suc i) n t false ms) ((and_parts (stands m s t) ((open_gap [] (ahead ms at_end) && (not (same t (codes "/")) || (ahead ms at_end).sure)) && head_ok (follows s t) t (ahead ms at_end)) a.0).0) h k
head p b l f c (Semicolon ∷ ms) i n q bare g h k = h
head p b l f c (Space ∷ ms) i n q bare g h k = b
head p b l f c (Pad ∷ ms) i n q bare g h k = either_way (λ x. all_first p x ≡ true) (bare || is_pad ms) [] (32 ∷ []) _ (head p b l f c ms i n q (is_pad ms) g h k) b
head p b l f c (Line ∷ ms) i n q bare g h k = l
head p b l f c (Indent ∷ ms) i n q bare g h k = head p b l f c ms i (true ∷ n) q (is_out ms) g h k
head p b l f c (Outdent ∷ ms) i n q bare g h k = either_way (λ x. all_first p x ≡ true) bare [] (line (pull n)) _ (head p b l f c ms i (pull n) q false g h k) l
head p b l f c (Unindent ∷ ms) i n q bare g h k = head p b l f c ms i (pull n) q false g h k
head p b l f c (Apart ∷ ms) i n q bare g h k = apart_head p q (first_token ms) (laid f i n q false ms) (ahead ms at_end) (first_next ms) b h (λ e. head p b l f c ms i n q false g e k)
head p b l f c (TrailingComma ∷ ms) i n q bare g h k = head p b l f c ms i n q bare ((and_parts (sign_good TrailingComma (ahead ms at_end)) (good ms at_end) g).1) h k
head p b l f c (Unless ts ∷ ms) i n q bare g h k = head p b l f c ms i n q bare ((and_parts (sign_good (Unless ts) (ahead ms at_end)) (good ms at_end) g).1) h k
head p b l f c (SameLine ∷ ms) i n q bare g h k = head p b l f c ms i n q bare ((and_parts (sign_good SameLine (ahead ms at_end)) (good ms at_end) g).1) h k
head p b l f c (Ends e ∷ ms) i n q bare g h k = head p b l f c ms i n q bare g h k
head p b l f c (Begin ∷ ms) i n q bare g h k = head p b l f c ms i n q bare g h k
head p b l f c (Count ∷ ms) i n q bare g h k = head p b l f c ms i n q bare g h k
head p b l f c (One ∷ ms) i n q bare g h k = head p b l f c ms i n q bare g h k
head p b l f c (End ∷ ms) i n q bare g h k = head p b l f c ms i n q bare g h k

-- ---- a token at the front of a list

-- a slash may follow each token but `/`
slash_follows : (m : Mode) (s : TokenKind) (t : Text) → stands m s t ≡ true → same t (codes "/") ≡ false → follows s t 47 ≡ true
slash_follows m Punctuator t h n = mark_slash t ((and_parts (is_mode m Operator) (is_mark t) h).1) n
slash_follows m IdentifierName t h n = refl
slash_follows m NumericLiteral t h n = refl
slash_follows m BigIntLiteral t h n = refl
slash_follows m StringLiteral t h n = refl
slash_follows m RegExpLiteral t h n = refl
slash_follows m NoSubstitution t h n = refl
slash_follows m TemplateHead t h n = refl
slash_follows m TemplateMiddle t h n = refl
slash_follows m TemplateTail t h n = refl
slash_follows m Elision t h n = absurd (false≢true h)
slash_follows m NoToken t h n = absurd (false≢true h)
slash_follows m JsxName t h n = absurd (false≢true h)
slash_follows m JsxString t h n = absurd (false≢true h)
slash_follows m JsxText t h n = absurd (false≢true h)

record Front (f : ℕ → List Note) (i : ℕ) (m : Mode) (k : TokenKind) (t : Text) (ms : List Sign) (y : Text) : Type 0 where
  pub stood : stands m k t ≡ true
  pub gap : open_gap [] (ahead ms at_end) ≡ true
  pub others : good ms at_end ≡ true
  pub it : Found m k t y
  pub noteless : (no_note (f i) || skips m) ≡ true
  pub more : noted f (suc i) ms ≡ true

front : (f : ℕ → List Note) → Comments f → (m : Mode) (k : TokenKind) (t : Text) (ms : List Sign) (i : ℕ) (n : List Bool) → good (Tok m k t ∷ ms) at_end ≡ true → noted f i (Tok m k t ∷ ms) ≡ true → Front f i m k t ms (laid f (suc i) n t false ms)
front f c m k t ms i n g w =
    let v : Ahead = ahead ms at_end in
    let a = and_parts (sign_good (Tok m k t) v) (good ms at_end) g in
    let one = not (same t (codes "/")) || v.sure in
    let b = and_parts (stands m k t) ((open_gap [] v && one) && head_ok (follows k t) t v) a.0 in
    let d = and_parts (open_gap [] v && one) (head_ok (follows k t) t v) b.1 in
    let u = and_parts (open_gap [] v) one d.0 in
    let r = and_parts (no_note (f i) || skips m) (noted f (suc i) ms) w in
    let p : Gaps k t = gaps_follow m k t b.0 in
    record { stood = b.0; gap = u.0; others = a.1; noteless = r.0; more = r.1; it = found m k t (laid f (suc i) n t false ms) b.0 (head (follows k t) p.0 p.1 f c ms (suc i) n t false a.1 d.1 (slash (same t (codes "/")) refl b.0 u.1)) }
  where
    slash : (z : Bool) → same t (codes "/") ≡ z → stands m k t ≡ true → (not z || (ahead ms at_end).sure) ≡ true → Slash (follows k t) f (suc i) (ahead ms at_end) ≡ true
    slash true e h j = or_left (ahead ms at_end).sure (no_note (f (suc i)) || follows k t 47) j
    slash false e h j = or_right (ahead ms at_end).sure _ (or_right (no_note (f (suc i))) (follows k t 47) (slash_follows m k t h e))

-- ---- no line end before the next token

beside : (f : ℕ → List Note) → Comments f → (i : ℕ) (n : List Bool) (y : Text) → all_beside (f i) ≡ true → breaks (notes_text n (f i) ++ y) ≡ breaks y
beside f c i n y h = (c.gap i n).unbroken (ap not h) y

unbroken : (f : ℕ → List Note) → Comments f → (ms : List Sign) (i : ℕ) (n : List Bool) (q : Text) (bare : Bool) → good ms at_end ≡ true → noted f i ms ≡ true → all_beside (f i) ≡ true → skips_next (ahead ms at_end).next ≡ true → (ahead ms at_end).line ≡ false → breaks (laid f i n q bare ms) ≡ false
unbroken f c [] i n q bare g w b s h = ap breaks (sym (append_nil (notes_text n (f i)))) ∙ beside f c i n [] b
unbroken f c (Tok m k t ∷ ms) i n q bare g w b s h = beside f c i n (t ++ laid f (suc i) n t false ms) b ∙ (front f c m k t ms i n g w).it.unbroken s
unbroken f c (Semicolon ∷ ms) i n q bare g w b s h = refl
unbroken f c (Space ∷ ms) i n q bare g w b s h = unbroken f c ms i n q false g w b s h
unbroken f c (Pad ∷ ms) i n q bare g w b s h = either_way (λ x. breaks x ≡ false) (bare || is_pad ms) [] (32 ∷ []) _ (unbroken f c ms i n q (is_pad ms) g w b s h) (unbroken f c ms i n q (is_pad ms) g w b s h)
unbroken f c (Line ∷ ms) i n q bare g w b s h = absurd (false≢true (sym h))
unbroken f c (Indent ∷ ms) i n q bare g w b s h = unbroken f c ms i (true ∷ n) q (is_out ms) g w b s h
unbroken f c (Outdent ∷ ms) i n q bare g w b s h = absurd (false≢true (sym h))
unbroken f c (Unindent ∷ ms) i n q bare g w b s h = unbroken f c ms i (pull n) q false g w b s h
unbroken f c (Apart ∷ ms) i n q bare g w b s h = either_way (λ x. breaks x ≡ false) (nat_eq (last q) (first_char (first_token ms))) (32 ∷ []) [] _ (unbroken f c ms i n q false g w b s h) (unbroken f c ms i n q false g w b s h)
unbroken f c (TrailingComma ∷ ms) i n q bare g w b s h = unbroken f c ms i n q bare ((and_parts (sign_good TrailingComma (ahead ms at_end)) (good ms at_end) g).1) w b s h
unbroken f c (Unless ts ∷ ms) i n q bare g w b s h = unbroken f c ms i n q bare ((and_parts (sign_good (Unless ts) (ahead ms at_end)) (good ms at_end) g).1) w b s h
unbroken f c (SameLine ∷ ms) i n q bare g w b s h = unbroken f c ms i n q bare ((and_parts (sign_good SameLine (ahead ms at_end)) (good ms at_end) g).1) ((and_parts (all_beside (f i)) (noted f i ms) w).1) b s h
unbroken f c (Ends e ∷ ms) i n q bare g w b s h = unbroken f c ms i n q bare g w b s h
unbroken f c (Begin ∷ ms) i n q bare g w b s h = unbroken f c ms i n q bare g w b s h
unbroken f c (Count ∷ ms) i n q bare g w b s h = unbroken f c ms i n q bare g w b s h
unbroken f c (One ∷ ms) i n q bare g w b s h = unbroken f c ms i n q bare g w b s h
unbroken f c (End ∷ ms) i n q bare g w b s h = unbroken f c ms i n q bare g w b s h

-- ---- none of some tokens comes next

slash_none : (t y g : Text) (l : Bool) (ts : List Text) → first_is (λ c. nat_eq c 47) t ≡ true → Gap l g → skip (t ++ y) ≡ t ++ y → no_slash ts ≡ true → among (token Operator false (g ++ (t ++ y))).raw ts ≡ false
slash_none [] y g l ts s p k h = absurd (false≢true s)
slash_none (c ∷ t) y g l ts s p k h =
    let e : token Operator false (g ++ (c ∷ (t ++ y))) ≡ at_front Operator (breaks (g ++ (c ∷ (t ++ y)))) (c ∷ (t ++ y)) = ap (at_front Operator (breaks (g ++ (c ∷ (t ++ y))))) (p.skipped (c ∷ (t ++ y)) ∙ k) in
    ap (λ x. among x.raw ts) e ∙ subst (λ x. among (at_front Operator (breaks (g ++ (c ∷ (t ++ y)))) (x ∷ (t ++ y))).raw ts ≡ false) (sym (eqb-true c 47 s)) (slash_raw (t ++ y) (breaks (g ++ (c ∷ (t ++ y)))) ts h)

abbrev Unseen : List Text → Text → Type 0
Unseen ts text = among (token Operator false text).raw ts ≡ false

abbrev wide : (ℕ → List Note) → ℕ → Bool
wide f i = not (all_beside (f i))

none_ahead : (f : ℕ → List Note) → Comments f → (ms : List Sign) (i : ℕ) (n : List Bool) (q : Text) (bare : Bool) (g : Text) (l : Bool) (ts : List Text) → good ms at_end ≡ true → noted f i ms ≡ true → Gap l g → is_none_of (ahead ms at_end).next ts ≡ true → Unseen ts (g ++ laid f i n q bare ms)
none_ahead f c [] i n q bare g l ts h w p o =
    let z : Text = g ++ notes_text n (f i) in
    let r : Gap (l || wide f i) z = gap_more l (wide f i) g (notes_text n (f i)) p (c.gap i n) in
    ap (λ x. among (at_front Operator (breaks z) x).raw ts) (ap skip (sym (append_nil z)) ∙ r.skipped []) ∙ not_among ts o
none_ahead f c (Tok Operator k t ∷ ms) i n q bare g l ts h w p o =
    let y : Text = laid f (suc i) n t false ms in
    let r : Gap (l || wide f i) (g ++ notes_text n (f i)) = gap_more l (wide f i) g (notes_text n (f i)) p (c.gap i n) in
    subst (Unseen ts) (append g (notes_text n (f i)) (t ++ y)) (ap (λ x. among x.raw ts) (any_gap Operator k t y (front f c Operator k t ms i n h w).it (g ++ notes_text n (f i)) (l || wide f i) false r (λ e. absurd (false≢true (sym e)))) ∙ not-true _ o)
none_ahead f c (Tok Operand k t ∷ ms) i n q bare g l ts h w p o =
    let y : Text = laid f (suc i) n t false ms in
    let r : Gap (l || wide f i) (g ++ notes_text n (f i)) = gap_more l (wide f i) g (notes_text n (f i)) p (c.gap i n) in
    let z = front f c Operand k t ms i n h w in
    subst (Unseen ts) (append g (notes_text n (f i)) (t ++ y)) (slash_none t y (g ++ notes_text n (f i)) (l || wide f i) ts (operand_slash k t z.stood) r (z.it.skipped refl) o)
none_ahead f c (Tok Piece k t ∷ ms) i n q bare g l ts h w p o = absurd (false≢true o)
none_ahead f c (Tok Tag k t ∷ ms) i n q bare g l ts h w p o = absurd (false≢true o)
none_ahead f c (Tok Children k t ∷ ms) i n q bare g l ts h w p o = absurd (false≢true o)
none_ahead f c (Semicolon ∷ ms) i n q bare g l ts h w p o = ap (λ x. among x.raw ts) (any_semi (laid f (suc i) n q false ms) g l false p) ∙ not-true _ o
none_ahead f c (Space ∷ ms) i n q bare g l ts h w p o = subst (Unseen ts) (append g (32 ∷ []) (laid f i n q false ms)) (none_ahead f c ms i n q false (g ++ (32 ∷ [])) (l || false) ts h w (gap_more l false g (32 ∷ []) p gap_blank) o)
none_ahead f c (Pad ∷ ms) i n q bare g l ts h w p o =
    either_way (λ x. Unseen ts (g ++ x)) (bare || is_pad ms) [] (32 ∷ []) (laid f i n q (is_pad ms) ms) (none_ahead f c ms i n q (is_pad ms) g l ts h w p o)
    (subst (Unseen ts) (append g (32 ∷ []) (laid f i n q (is_pad ms) ms)) (none_ahead f c ms i n q (is_pad ms) (g ++ (32 ∷ [])) (l || false) ts h w (gap_more l false g (32 ∷ []) p gap_blank) o))
none_ahead f c (Line ∷ ms) i n q bare g l ts h w p o = subst (Unseen ts) (append g (line n) (laid f i n q false ms)) (none_ahead f c ms i n q false (g ++ line n) (l || true) ts h w (gap_more l true g (line n) p (gap_pad (line n) (indent_pad n))) o)
none_ahead f c (Indent ∷ ms) i n q bare g l ts h w p o = none_ahead f c ms i (true ∷ n) q (is_out ms) g l ts h w p o
none_ahead f c (Outdent ∷ ms) i n q bare g l ts h w p o =
    either_way (λ x. Unseen ts (g ++ x)) bare [] (line (pull n)) (laid f i (pull n) q false ms) (none_ahead f c ms i (pull n) q false g l ts h w p o)
    (subst (Unseen ts) (append g (line (pull n)) (laid f i (pull n) q false ms)) (none_ahead f c ms i (pull n) q false (g ++ line (pull n)) (l || true) ts h w (gap_more l true g (line (pull n)) p (gap_pad (line (pull n)) (indent_pad (pull n)))) o))
none_ahead f c (Unindent ∷ ms) i n q bare g l ts h w p o = none_ahead f c ms i (pull n) q false g l ts h w p o
none_ahead f c (Apart ∷ ms) i n q bare g l ts h w p o =
    either_way (λ x. Unseen ts (g ++ x)) (nat_eq (last q) (first_char (first_token ms))) (32 ∷ []) [] (laid f i n q false ms)
    (subst (Unseen ts) (append g (32 ∷ []) (laid f i n q false ms)) (none_ahead f c ms i n q false (g ++ (32 ∷ [])) (l || false) ts h w (gap_more l false g (32 ∷ []) p gap_blank) o)) (none_ahead f c ms i n q false g l ts h w p o)
none_ahead f c (TrailingComma ∷ ms) i n q bare g l ts h w p o = none_ahead f c ms i n q bare g l ts ((and_parts (sign_good TrailingComma (ahead ms at_end)) (good ms at_end) h).1) w p o
none_ahead f c (Unless us ∷ ms) i n q bare g l ts h w p o = none_ahead f c ms i n q bare g l ts ((and_parts (sign_good (Unless us) (ahead ms at_end)) (good ms at_end) h).1) w p o
none_ahead f c (SameLine ∷ ms) i n q bare g l ts h w p o = none_ahead f c ms i n q bare g l ts ((and_parts (sign_good SameLine (ahead ms at_end)) (good ms at_end) h).1) ((and_parts (all_beside (f i)) (noted f i ms) w).1) p o
none_ahead f c (Ends e ∷ ms) i n q bare g l ts h w p o = none_ahead f c ms i n q bare g l ts h w p o
none_ahead f c (Begin ∷ ms) i n q bare g l ts h w p o = none_ahead f c ms i n q bare g l ts h w p o
none_ahead f c (Count ∷ ms) i n q bare g l ts h w p o = none_ahead f c ms i n q bare g l ts h w p o
none_ahead f c (One ∷ ms) i n q bare g l ts h w p o = none_ahead f c ms i n q bare g l ts h w p o
none_ahead f c (End ∷ ms) i n q bare g l ts h w p o = none_ahead f c ms i n q bare g l ts h w p o

-- ---- lists of signs

abbrev Done : Text → Ending → List Sign → Text → Type 0
Done q e ms text = ended_at (scan (At q e text) ms) ≡ true

record Open (l : Bool) (g : Text) (v : Ahead) : Type 0 where
  pub gap : Gap l g
  pub lines : v.same_line ≡ true → (l ≡ false) × (v.line ≡ false)
  pub modes : skips_next v.next ≡ false → (g ≡ []) × (v.void ≡ true)

open_nil : (v : Ahead) → open_gap [] v ≡ true → Open false [] v
open_nil v h =
    let b = and_parts (not (v.same_line && v.line)) (skips_next v.next || v.void) h in
    record { gap = gap_nil; lines = λ e. (refl, go v.same_line v.line e b.0); modes = λ e. (refl, two (skips_next v.next) e b.1) }
  where
    go : (x y : Bool) → x ≡ true → not (x && y) ≡ true → y ≡ false
    go true y e f = not-true y f
    go false y e f = absurd (false≢true e)

    two : (x : Bool) {y : Bool} → x ≡ false → (x || y) ≡ true → y ≡ true
    two true e f = absurd (false≢true (sym e))
    two false e f = f

or_no : (a b : Bool) → a ≡ false → b ≡ false → (a || b) ≡ false
or_no a b p q = or_from a b p q

more_gap : (l k : Bool) (g h : Text) (v w : Ahead) → Open l g v → Gap k h → v.void ≡ false → w.next ≡ v.next → w.same_line ≡ v.same_line → (v.line ≡ false → (k ≡ false) × (w.line ≡ false)) → Open (l || k) (g ++ h) w
more_gap l k g h v w o p d e f m = record {
  gap = gap_more l k g h o.gap p;
  lines = λ s. let a = o.lines (sym f ∙ s) in let b = m a.1 in (or_no l k a.0 b.0, b.1);
  modes = λ s. clash v.void ((o.modes (ap skips_next (sym e) ∙ s)).1) d;
}

less_gap : (l : Bool) (g : Text) (v w : Ahead) → Open l g v → v.void ≡ false → w.next ≡ v.next → w.same_line ≡ v.same_line → (v.line ≡ false → w.line ≡ false) → Open l g w
less_gap l g v w o d e f m = record {
  gap = o.gap;
  lines = λ s. let a = o.lines (sym f ∙ s) in (a.0, m a.1);
  modes = λ s. clash v.void ((o.modes (ap skips_next (sym e) ∙ s)).1) d;
}

-- nothing stands before what skips nothing
nothing_before : (f : ℕ → List Note) (i : ℕ) (m : Mode) (n : List Bool) (g : Text) → (no_note (f i) || skips m) ≡ true → (skips m ≡ false → g ≡ []) → skips m ≡ false → g ++ notes_text n (f i) ≡ []
nothing_before f i m n g h e s = ap (λ x. x ++ notes_text n (f i)) (e s) ∙ no_notes_text n (f i) (go (no_note (f i)) (skips m) s h)
  where
    go : (x y : Bool) → y ≡ false → (x || y) ≡ true → x ≡ true
    go true y s h = refl
    go false y s h = absurd (false≢true (sym s ∙ h))

scans : (f : ℕ → List Note) → Comments f → (ms : List Sign) (i : ℕ) (n : List Bool) (q : Text) (bare : Bool) (p : Text) (e : Ending) (g : Text) (l : Bool) → good ms at_end ≡ true → noted f i ms ≡ true → Open l g (ahead ms at_end) → Done p e ms (g ++ laid f i n q bare ms)
scans f c [] i n q bare p e g l h w o = gap_end (l || wide f i) (g ++ notes_text n (f i)) (gap_more l (wide f i) g (notes_text n (f i)) o.gap (c.gap i n))
scans f c (Tok m k t ∷ ms) i n q bare p e g l h w o =
    let z = front f c m k t ms i n h w in
    let y : Text = laid f (suc i) n t false ms in
    let x : Text = g ++ notes_text n (f i) in
    subst (Done p e (Tok m k t ∷ ms)) (append g (notes_text n (f i)) (t ++ y))
    (ap (λ u. ended_at (scan (token_at u k t) ms)) (any_gap m k t y z.it x (l || wide f i) (same p []) (gap_more l (wide f i) g (notes_text n (f i)) o.gap (c.gap i n)) (nothing_before f i m n g z.noteless (λ s. (o.modes s).0)))
    ∙ ap (λ u. ended_at (scan u ms)) (taken k t y) ∙ scans f c ms (suc i) n t false t AfterExpr [] false z.others z.more (open_nil (ahead ms at_end) z.gap))
scans f c (Semicolon ∷ ms) i n q bare p e g l h w o =
    let a = and_parts (open_gap [] (ahead ms at_end)) (good ms at_end) h in
    let y : Text = laid f (suc i) n q false ms in
    ap (λ x. ended_at (scan (semi_at x p e (g ++ (59 ∷ y))) ms)) (any_semi y g l false o.gap) ∙ scans f c ms (suc i) n q false (codes ";") AfterExpr [] false a.1 w (open_nil (ahead ms at_end) a.0)
scans f c (Space ∷ ms) i n q bare p e g l h w o =
    let v : Ahead = ahead ms at_end in
    subst (Done p e ms) (append g (32 ∷ []) (laid f i n q false ms)) (scans f c ms i n q false p e (g ++ (32 ∷ [])) (l || false) h w (more_gap l false g (32 ∷ []) (sign_ahead Space v) v o gap_blank refl refl refl (λ z. (refl, z))))
scans f c (Pad ∷ ms) i n q bare p e g l h w o =
    let v : Ahead = ahead ms at_end in
    either_way (λ x. Done p e ms (g ++ x)) (bare || is_pad ms) [] (32 ∷ []) (laid f i n q (is_pad ms) ms) (scans f c ms i n q (is_pad ms) p e g l h w (less_gap l g (sign_ahead Pad v) v o refl refl refl (λ z. z)))
    (subst (Done p e ms) (append g (32 ∷ []) (laid f i n q (is_pad ms) ms)) (scans f c ms i n q (is_pad ms) p e (g ++ (32 ∷ [])) (l || false) h w (more_gap l false g (32 ∷ []) (sign_ahead Pad v) v o gap_blank refl refl refl (λ z. (refl, z)))))
scans f c (Line ∷ ms) i n q bare p e g l h w o =
    let v : Ahead = ahead ms at_end in
    subst (Done p e ms) (append g (line n) (laid f i n q false ms)) (scans f c ms i n q false p e (g ++ line n) (l || true) h w (more_gap l true g (line n) (sign_ahead Line v) v o (gap_pad (line n) (indent_pad n)) refl refl refl (λ z. absurd (false≢true (sym z)))))
scans f c (Indent ∷ ms) i n q bare p e g l h w o = scans f c ms i (true ∷ n) q (is_out ms) p e g l h w o
scans f c (Outdent ∷ ms) i n q bare p e g l h w o =
    let v : Ahead = ahead ms at_end in
    either_way (λ x. Done p e ms (g ++ x)) bare [] (line (pull n)) (laid f i (pull n) q false ms) (scans f c ms i (pull n) q false p e g l h w (less_gap l g (sign_ahead Outdent v) v o refl refl refl (λ z. absurd (false≢true (sym z)))))
    (subst (Done p e ms) (append g (line (pull n)) (laid f i (pull n) q false ms)) (scans f c ms i (pull n) q false p e (g ++ line (pull n)) (l || true) h w (more_gap l true g (line (pull n)) (sign_ahead Outdent v) v o (gap_pad (line (pull n)) (indent_pad (pull n))) refl refl refl (λ z. absurd (false≢true (sym z))))))
scans f c (Unindent ∷ ms) i n q bare p e g l h w o = scans f c ms i (pull n) q false p e g l h w o
scans f c (Apart ∷ ms) i n q bare p e g l h w o =
    let v : Ahead = ahead ms at_end in
    either_way (λ x. Done p e ms (g ++ x)) (nat_eq (last q) (first_char (first_token ms))) (32 ∷ []) [] (laid f i n q false ms)
    (subst (Done p e ms) (append g (32 ∷ []) (laid f i n q false ms)) (scans f c ms i n q false p e (g ++ (32 ∷ [])) (l || false) h w (more_gap l false g (32 ∷ []) (sign_ahead Apart v) v o gap_blank refl refl refl (λ z. (refl, z)))))
    (scans f c ms i n q false p e g l h w (less_gap l g (sign_ahead Apart v) v o refl refl refl (λ z. z)))
scans f c (TrailingComma ∷ ms) i n q bare p e g l h w o =
    let a = and_parts (sign_good TrailingComma (ahead ms at_end)) (good ms at_end) h in
    let text : Text = g ++ laid f i n q bare ms in
    ap (λ x. ended_at (scan x ms)) (comma_no (token Operator false text) p e text (none_ahead f c ms i n q bare g l (codes "," ∷ []) a.1 w o.gap a.0)) ∙ scans f c ms i n q bare p e g l a.1 w o
scans f c (Unless ts ∷ ms) i n q bare p e g l h w o =
    let a = and_parts (sign_good (Unless ts) (ahead ms at_end)) (good ms at_end) h in
    let text : Text = g ++ laid f i n q bare ms in
    ap (λ b. ended_at (scan (go_if (not b) (At p e text)) ms)) (none_ahead f c ms i n q bare g l ts a.1 w o.gap a.0) ∙ scans f c ms i n q bare p e g l a.1 w o
scans f c (SameLine ∷ ms) i n q bare p e g l h w o =
    let v : Ahead = ahead ms at_end in
    let a = and_parts (sign_good SameLine v) (good ms at_end) h in
    let b = and_parts (all_beside (f i)) (noted f i ms) w in
    let z = o.lines refl in
    let text : Text = g ++ laid f i n q bare ms in
    ap (λ b. ended_at (scan (go_if (not b) (At p e text)) ms)) (o.gap.unbroken z.0 (laid f i n q bare ms) ∙ unbroken f c ms i n q bare a.1 b.1 b.0 a.0 z.1)
    ∙ scans f c ms i n q bare p e g l a.1 b.1 (record { gap = o.gap; lines = λ _. z; modes = o.modes })
scans f c (Ends x ∷ ms) i n q bare p e g l h w o = scans f c ms i n q bare p x g l h w o
scans f c (Begin ∷ ms) i n q bare p e g l h w o = scans f c ms i n q bare p e g l h w o
scans f c (Count ∷ ms) i n q bare p e g l h w o = scans f c ms i n q bare p e g l h w o
scans f c (One ∷ ms) i n q bare p e g l h w o = scans f c ms i n q bare p e g l h w o
scans f c (End ∷ ms) i n q bare p e g l h w o = scans f c ms i n q bare p e g l h w o

-- the text with its notes is scanned by the signs
pub scans_noted : (f : ℕ → List Note) → Comments f → (t : Tree) → joins (spelled t) ≡ true → noted f 0 (spelled t) ≡ true → ended_at (scan (At [] AfterExpr (laid f 0 [] [] false (spelled t))) (spelled t)) ≡ true
scans_noted f c t h w =
    let a = and_parts (open_gap [] (ahead (spelled t) at_end)) (good (spelled t) at_end) h in
    scans f c (spelled t) 0 [] [] false [] AfterExpr [] false a.1 w (open_nil (ahead (spelled t) at_end) a.0)
