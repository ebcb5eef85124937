-- A list of signs that joins scans what it lays: each token is read as that token, and so the list to its end.
use Rattle.std.proofs.Common.{◌≡◌, ℕ, suc, List, [], ◌∷◌, ◌++◌, Bool, true, false, cond, not, ◌||◌, ◌&&◌, codes, refl, sym, ap, ◌∙◌, subst}
use Rattle.std.specs.Prelude.{nat_eq}
use Rattle.std.proofs.lemmas.Bool.{false≢true, and_parts, and_from, or_parts, eqb-true, eq-eqb, false_from_ne_true, not-true, or_from, and_left, and_right}
use Rattle.jsx_base.specs.Token.{Text, Mode, Operand, Operator, Piece, Tag, Children, TokenKind, IdentifierName, Punctuator, NumericLiteral, BigIntLiteral, StringLiteral, RegExpLiteral, NoSubstitution, TemplateHead, TemplateMiddle, TemplateTail, JsxName, JsxString, JsxText, Elision, NoToken, kind_number, is_kind, same, among, begins, first_is, longest, punctuators, punct, Blank, is_cut, skip, skips, breaks, at_front, Lexeme, is_token, is_end, token}
use Rattle.jsx_tree.specs.Signs.{Ending, AfterExpr, Sign, Tok, Semicolon, TrailingComma, Unless, SameLine, Ends, Space, Pad, Line, Indent, Outdent, Unindent, Apart, Begin, Count, One, End}
use Rattle.jsx_tree.specs.Layout.{laid, no_notes, line, indent, pull, is_out, is_pad, last, first_char, first_token, layout}
use Rattle.jsx_tree.specs.Reading.{At, scan, ended_at, go_if, semi_at, comma_at, token_at}
use Rattle.jsx_tree.specs.Kinds.{Tree}
use Rattle.jsx_tree.specs.Spelling.{spelled}
use Rattle.jsx_tree.specs.Form.{is_leaf}
use Rattle.jsx_base.proofs.Longest.{same_is, begins_longest}
use Rattle.jsx_tree.proofs.ReadBack.Joins.{Next, Nothing, Semi, Token, Ahead, sign_ahead, ahead, follows, is_mode, is_mark, stands, skips_next, pad, has_line, open_gap, next_ok, head_ok, no_slash, is_none_of, sign_good, good, at_end, joins}
use Rattle.jsx_tree.proofs.ReadBack.Punctuators.{Reads, mark_reads, mark_gap}
use Rattle.jsx_tree.proofs.ReadBack.Leaves.{operator_reads, operand_reads, piece_reads, slash_first}
use Rattle.jsx_tree.proofs.ReadBack.Basics.{same_self, all_first, clash, if_false}

-- ---- gaps

pub append : (g h y : Text) → (g ++ h) ++ y ≡ g ++ (h ++ y)
append [] h y = refl
append (c ∷ g) h y = ap (λ x. c ∷ x) (append g h y)

pub append_nil : (t : Text) → t ++ [] ≡ t
append_nil [] = refl
append_nil (c ∷ t) = ap (λ x. c ∷ x) (append_nil t)

pub by_pad : (P : ℕ → Type 0) (c : ℕ) → (nat_eq c 32 || nat_eq c 10) ≡ true → P 32 → P 10 → P c
by_pad P c h p q = go (nat_eq c 32) refl h
  where
    go : (b : Bool) → nat_eq c 32 ≡ b → (b || nat_eq c 10) ≡ true → P c
    go true e f = subst P (sym (eqb-true c 32 e)) p
    go false e f = subst P (sym (eqb-true c 10 f)) q

pub skip_pad : (g y : Text) → pad g ≡ true → skip (g ++ y) ≡ skip y
skip_pad [] y h = refl
skip_pad (c ∷ g) y h =
    let a = and_parts (nat_eq c 32 || nat_eq c 10) (pad g) h in
    by_pad (λ x. skip (x ∷ (g ++ y)) ≡ skip y) c a.0 (skip_pad g y a.1) (skip_pad g y a.1)

pub breaks_pad : (g y : Text) → pad g ≡ true → has_line g ≡ false → breaks (g ++ y) ≡ breaks y
breaks_pad [] y h n = refl
breaks_pad (c ∷ g) y h n =
    let a = and_parts (nat_eq c 32 || nat_eq c 10) (pad g) h in
    let b = or_parts (nat_eq c 10) (has_line g) n in
    by_pad (λ x. nat_eq x 10 ≡ false → breaks (x ∷ (g ++ y)) ≡ breaks y) c a.0 (λ _. breaks_pad g y a.1 b.1) (λ f. absurd (false≢true (sym f))) b.0

cut_pad : (g : Text) → pad g ≡ true → is_cut Blank g ≡ false
cut_pad [] h = refl
cut_pad (c ∷ g) h =
    let a = and_parts (nat_eq c 32 || nat_eq c 10) (pad g) h in
    by_pad (λ x. is_cut Blank (x ∷ g) ≡ false) c a.0 (cut_pad g a.1) (cut_pad g a.1)

end_pad : (g : Text) → pad g ≡ true → is_end g ≡ true
end_pad g h =
    let s : skip g ≡ [] = ap skip (sym (append_nil g)) ∙ skip_pad g [] h in
    and_from (same (skip g) []) (not (is_cut Blank g)) (ap (λ x. same x []) s) (ap not (cut_pad g h))

pad_more : (g h : Text) → pad g ≡ true → pad h ≡ true → pad (g ++ h) ≡ true
pad_more [] h p q = q
pad_more (c ∷ g) h p q =
    let a = and_parts (nat_eq c 32 || nat_eq c 10) (pad g) p in
    and_from (nat_eq c 32 || nat_eq c 10) (pad (g ++ h)) a.0 (pad_more g h a.1 q)

no_line_more : (g h : Text) → has_line g ≡ false → has_line h ≡ false → has_line (g ++ h) ≡ false
no_line_more [] h p q = q
no_line_more (c ∷ g) h p q =
    let a = or_parts (nat_eq c 10) (has_line g) p in
    or_from (nat_eq c 10) (has_line (g ++ h)) a.0 (no_line_more g h a.1 q)

pub indent_pad : (n : List Bool) → pad (indent n) ≡ true
indent_pad [] = refl
indent_pad (b ∷ n) = indent_pad n

-- what stands before the next token, taken apart
record Open (g : Text) (v : Ahead) : Type 0 where
  pub pads : pad g ≡ true
  pub lines : v.same_line ≡ true → (has_line g ≡ false) × (v.line ≡ false)
  pub modes : (skips_next v.next ≡ false) → (g ≡ []) × (v.void ≡ true)

open_of : (g : Text) (v : Ahead) → open_gap g v ≡ true → Open g v
open_of g v h =
    let a = and_parts (pad g) _ h in
    let b = and_parts (not (v.same_line && (has_line g || v.line))) (skips_next v.next || (same g [] && v.void)) a.1 in
    record { pads = a.0; lines = λ e. or_parts (has_line g) v.line (go v.same_line _ e b.0); modes = λ e. two (skips_next v.next) e b.1 }
  where
    go : (x y : Bool) → x ≡ true → not (x && y) ≡ true → y ≡ false
    go true y e f = not-true y f
    go false y e f = absurd (false≢true e)

    two : (x : Bool) → x ≡ false → (x || (same g [] && v.void)) ≡ true → (g ≡ []) × (v.void ≡ true)
    two true e f = absurd (false≢true (sym e))
    two false e f = let p = and_parts (same g []) v.void f in (same_is g [] p.0, p.1)

-- ---- a token is read behind its gap, before what may follow it

mode_is : (m n : Mode) → is_mode m n ≡ true → m ≡ n
mode_is Operand Operand h = refl
mode_is Operator Operator h = refl
mode_is Piece Piece h = refl
mode_is _ _ h = absurd (false≢true h)

abbrev pub it : TokenKind → Text → Text → Lexeme
it s t rest = record { kind = s; raw = t; rest = rest }

at_operator : (s : TokenKind) (t rest g : Text) (f : Bool) → Reads Operator s t rest → pad g ≡ true → token Operator f (g ++ (t ++ rest)) ≡ it s t rest
at_operator s t rest g f r h = ap (at_front Operator (f || breaks (g ++ (t ++ rest)))) (skip_pad g (t ++ rest) h ∙ r.skipped) ∙ r.read (f || breaks (g ++ (t ++ rest)))

at_operand : (s : TokenKind) (t rest g : Text) (f : Bool) → Reads Operand s t rest → pad g ≡ true → token Operand f (g ++ (t ++ rest)) ≡ it s t rest
at_operand s t rest g f r h = ap (at_front Operand (f || breaks (g ++ (t ++ rest)))) (skip_pad g (t ++ rest) h ∙ r.skipped) ∙ r.read (f || breaks (g ++ (t ++ rest)))

at_piece : (s : TokenKind) (t rest g : Text) (f : Bool) → (NoToken ≡ s → ⊥) → (Punctuator ≡ s → ⊥) → (is_token (token Piece false t) s t && same (token Piece false t).rest []) ≡ true → all_first (follows s t) rest ≡ true → g ≡ [] → token Piece f (g ++ (t ++ rest)) ≡ it s t rest
at_piece s t rest g f n p w h e = subst (λ x. token Piece f (x ++ (t ++ rest)) ≡ it s t rest) (sym e) (piece_reads s t rest f n p w h)

-- what a token of code is, however it is read
pub record Found (m : Mode) (s : TokenKind) (t rest : Text) : Type 0 where
  pub read : (g : Text) (f : Bool) → pad g ≡ true → (skips m ≡ false → g ≡ []) → token m f (g ++ (t ++ rest)) ≡ it s t rest
  pub unbroken : skips m ≡ true → breaks (t ++ rest) ≡ false
  pub skipped : skips m ≡ true → skip (t ++ rest) ≡ t ++ rest

in_operator : (m : Mode) (s : TokenKind) (t rest : Text) → is_mode m Operator ≡ true → Reads Operator s t rest → Found m s t rest
in_operator m s t rest e r = subst (λ x. Found x s t rest) (sym (mode_is m Operator e)) (record { read = λ g f h i. at_operator s t rest g f r h; unbroken = λ _. r.unbroken; skipped = λ _. r.skipped })

in_operand : (m : Mode) (s : TokenKind) (t rest : Text) → is_mode m Operand ≡ true → Reads Operand s t rest → Found m s t rest
in_operand m s t rest e r = subst (λ x. Found x s t rest) (sym (mode_is m Operand e)) (record { read = λ g f h i. at_operand s t rest g f r h; unbroken = λ _. r.unbroken; skipped = λ _. r.skipped })

in_piece : (m : Mode) (s : TokenKind) (t rest : Text) → is_mode m Piece ≡ true → (NoToken ≡ s → ⊥) → (Punctuator ≡ s → ⊥) → (is_token (token Piece false t) s t && same (token Piece false t).rest []) ≡ true → all_first (follows s t) rest ≡ true → Found m s t rest
in_piece m s t rest e n p w h = subst (λ x. Found x s t rest) (sym (mode_is m Piece e)) (record { read = λ g f _ i. at_piece s t rest g f n p w h (i refl); unbroken = λ i. absurd (false≢true i); skipped = λ i. absurd (false≢true i) })

pub found : (m : Mode) (s : TokenKind) (t rest : Text) → stands m s t ≡ true → all_first (follows s t) rest ≡ true → Found m s t rest
found m Punctuator t rest h n = let a = and_parts (is_mode m Operator) (is_mark t) h in in_operator m Punctuator t rest a.0 (mark_reads t rest a.1 n)
found m IdentifierName t rest h n = let a = and_parts (is_mode m Operator) (is_leaf IdentifierName t) h in in_operator m IdentifierName t rest a.0 (operator_reads IdentifierName t rest (λ e. cc) (λ e. cc) a.1 n)
found m NumericLiteral t rest h n = let a = and_parts (is_mode m Operator) (is_leaf NumericLiteral t) h in in_operator m NumericLiteral t rest a.0 (operator_reads NumericLiteral t rest (λ e. cc) (λ e. cc) a.1 n)
found m BigIntLiteral t rest h n = let a = and_parts (is_mode m Operator) (is_leaf BigIntLiteral t) h in in_operator m BigIntLiteral t rest a.0 (operator_reads BigIntLiteral t rest (λ e. cc) (λ e. cc) a.1 n)
found m StringLiteral t rest h n = let a = and_parts (is_mode m Operator) (is_leaf StringLiteral t) h in in_operator m StringLiteral t rest a.0 (operator_reads StringLiteral t rest (λ e. cc) (λ e. cc) a.1 n)
found m RegExpLiteral t rest h n = let a = and_parts (is_mode m Operand) (is_leaf RegExpLiteral t) h in in_operand m RegExpLiteral t rest a.0 (operand_reads RegExpLiteral t rest (λ e. cc) (λ e. cc) a.1 n)
found m NoSubstitution t rest h n = let a = and_parts (is_mode m Operator) (is_leaf NoSubstitution t) h in in_operator m NoSubstitution t rest a.0 (operator_reads NoSubstitution t rest (λ e. cc) (λ e. cc) a.1 n)
found m TemplateHead t rest h n = let a = and_parts (is_mode m Operator) (is_leaf TemplateHead t) h in in_operator m TemplateHead t rest a.0 (operator_reads TemplateHead t rest (λ e. cc) (λ e. cc) a.1 n)
found m TemplateMiddle t rest h n = let a = and_parts (is_mode m Piece) (is_leaf TemplateMiddle t) h in in_piece m TemplateMiddle t rest a.0 (λ e. cc) (λ e. cc) a.1 n
found m TemplateTail t rest h n = let a = and_parts (is_mode m Piece) (is_leaf TemplateTail t) h in in_piece m TemplateTail t rest a.0 (λ e. cc) (λ e. cc) a.1 n
found m Elision t rest h n = absurd (false≢true h)
found m NoToken t rest h n = absurd (false≢true h)
found m JsxName t rest h n = absurd (false≢true h)
found m JsxString t rest h n = absurd (false≢true h)
found m JsxText t rest h n = absurd (false≢true h)

-- a token has a character
some_char : (m : Mode) (s : TokenKind) → stands m s [] ≡ true → ⊥
some_char m Punctuator h = false≢true ((and_parts (is_mode m Operator) false h).1)
some_char m IdentifierName h = false≢true ((and_parts (is_mode m Operator) false h).1)
some_char m NumericLiteral h = false≢true ((and_parts (is_mode m Operator) false h).1)
some_char m BigIntLiteral h = false≢true ((and_parts (is_mode m Operator) false h).1)
some_char m StringLiteral h = false≢true ((and_parts (is_mode m Operator) false h).1)
some_char m RegExpLiteral h = false≢true ((and_parts (is_mode m Operand) false h).1)
some_char m NoSubstitution h = false≢true ((and_parts (is_mode m Operator) false h).1)
some_char m TemplateHead h = false≢true ((and_parts (is_mode m Operator) false h).1)
some_char m TemplateMiddle h = false≢true ((and_parts (is_mode m Piece) false h).1)
some_char m TemplateTail h = false≢true ((and_parts (is_mode m Piece) false h).1)
some_char m Elision h = false≢true h
some_char m NoToken h = false≢true h
some_char m JsxName h = false≢true h
some_char m JsxString h = false≢true h
some_char m JsxText h = false≢true h

-- ---- what is laid begins with the next token, or with what is surely laid before it

abbrev pub is_some : Next → Bool
is_some (Token m s t) = true
is_some x = false

abbrev pub text_of : Next → Text
text_of (Token m s t) = t
text_of x = []

pub first_next : (ms : List Sign) → is_some (ahead ms at_end).next ≡ true → first_token ms ≡ text_of (ahead ms at_end).next
first_next [] h = absurd (false≢true h)
first_next (Tok m s t ∷ ms) h = refl
first_next (Semicolon ∷ ms) h = absurd (false≢true h)
first_next (TrailingComma ∷ ms) h = first_next ms h
first_next (Unless ts ∷ ms) h = first_next ms h
first_next (SameLine ∷ ms) h = first_next ms h
first_next (Ends e ∷ ms) h = first_next ms h
first_next (Space ∷ ms) h = first_next ms h
first_next (Pad ∷ ms) h = first_next ms h
first_next (Line ∷ ms) h = first_next ms h
first_next (Indent ∷ ms) h = first_next ms h
first_next (Outdent ∷ ms) h = first_next ms h
first_next (Unindent ∷ ms) h = first_next ms h
first_next (Apart ∷ ms) h = first_next ms h
first_next (Begin ∷ ms) h = first_next ms h
first_next (Count ∷ ms) h = first_next ms h
first_next (One ∷ ms) h = first_next ms h
first_next (End ∷ ms) h = first_next ms h

pub head_char : (p : ℕ → Bool) (m : Mode) (s : TokenKind) (t y : Text) → stands m s t ≡ true → p (first_char t) ≡ true → all_first p (t ++ y) ≡ true
head_char p m s [] y h e = absurd (some_char m s h)
head_char p m s (c ∷ t) y h e = e

-- where a blank stands or nothing does
pub either_way : (P : Text → Type 0) (b : Bool) (x y z : Text) → P (x ++ z) → P (y ++ z) → P (cond b x y ++ z)
either_way P true x y z p q = p
either_way P false x y z p q = q

pub apart_head : (p : ℕ → Bool) (q u y : Text) (x : Ahead) → (is_some x.next ≡ true → u ≡ text_of x.next) → p 32 ≡ true → head_ok p q (record x { void = false; apart = true }) ≡ true → (head_ok p q x ≡ true → all_first p y ≡ true) → all_first p (cond (nat_eq (last q) (first_char u)) (32 ∷ []) [] ++ y) ≡ true
apart_head p q u y x f b h r = go (nat_eq (last q) (first_char u)) refl
  where
    to : (s : Bool) (n : Next) (a : Bool) → (is_some n ≡ true → u ≡ text_of n) → nat_eq (last q) (first_char u) ≡ false → (s || next_ok p q true n) ≡ true → (s || next_ok p q a n) ≡ true
    to true n a f e h = refl
    to false Nothing a f e h = refl
    to false Semi a f e h = h
    to false (Token m k t) a f e h = let k : nat_eq (last q) (first_char t) ≡ false = subst (λ z. nat_eq (last q) (first_char z) ≡ false) (f refl) e in drop (nat_eq (last q) (first_char t)) k a h
      where
        drop : (b : Bool) → b ≡ false → (a : Bool) → (b || p (first_char t)) ≡ true → ((a && b) || p (first_char t)) ≡ true
        drop true k a h = absurd (false≢true (sym k))
        drop false k true h = h
        drop false k false h = h

    go : (e : Bool) → nat_eq (last q) (first_char u) ≡ e → all_first p (cond e (32 ∷ []) [] ++ y) ≡ true
    go true e = b
    go false e = r (to x.sure x.next x.apart f e h)

head : (p : ℕ → Bool) → p 32 ≡ true → p 10 ≡ true → (ms : List Sign) (i : ℕ) (n : List Bool) (q : Text) (bare : Bool) → good ms at_end ≡ true → head_ok p q (ahead ms at_end) ≡ true → all_first p (laid no_notes i n q bare ms) ≡ true
head p b l [] i n q bare g h = refl
head p b l (Tok m s t ∷ ms) i n q bare g h =
    let a = and_parts (sign_good (Tok m s t) (ahead ms at_end)) (good ms at_end) g in
    head_char p m s t (laid no_notes (suc i) n t false ms) ((and_parts (stands m s t) ((open_gap [] (ahead ms at_end) && (not (same t (codes "/")) || (ahead ms at_end).sure)) && head_ok (follows s t) t (ahead ms at_end)) a.0).0) h
head p b l (Semicolon ∷ ms) i n q bare g h = h
head p b l (Space ∷ ms) i n q bare g h = b
head p b l (Pad ∷ ms) i n q bare g h = either_way (λ x. all_first p x ≡ true) (bare || is_pad ms) [] (32 ∷ []) _ (head p b l ms i n q (is_pad ms) g h) b
head p b l (Line ∷ ms) i n q bare g h = l
head p b l (Indent ∷ ms) i n q bare g h = head p b l ms i (true ∷ n) q (is_out ms) g h
head p b l (Outdent ∷ ms) i n q bare g h = either_way (λ x. all_first p x ≡ true) bare [] (line (pull n)) _ (head p b l ms i (pull n) q false g h) l
head p b l (Unindent ∷ ms) i n q bare g h = head p b l ms i (pull n) q false g h
head p b l (Apart ∷ ms) i n q bare g h = apart_head p q (first_token ms) (laid no_notes i n q false ms) (ahead ms at_end) (first_next ms) b h (head p b l ms i n q false g)
head p b l (TrailingComma ∷ ms) i n q bare g h = head p b l ms i n q bare ((and_parts (sign_good TrailingComma (ahead ms at_end)) (good ms at_end) g).1) h
head p b l (Unless ts ∷ ms) i n q bare g h = head p b l ms i n q bare ((and_parts (sign_good (Unless ts) (ahead ms at_end)) (good ms at_end) g).1) h
head p b l (SameLine ∷ ms) i n q bare g h = head p b l ms i n q bare ((and_parts (sign_good SameLine (ahead ms at_end)) (good ms at_end) g).1) h
head p b l (Ends e ∷ ms) i n q bare g h = head p b l ms i n q bare g h
head p b l (Begin ∷ ms) i n q bare g h = head p b l ms i n q bare g h
head p b l (Count ∷ ms) i n q bare g h = head p b l ms i n q bare g h
head p b l (One ∷ ms) i n q bare g h = head p b l ms i n q bare g h
head p b l (End ∷ ms) i n q bare g h = head p b l ms i n q bare g h

abbrev pub Gaps : TokenKind → Text → Type 0
Gaps k t = (follows k t 32 ≡ true) × (follows k t 10 ≡ true)

pub gaps_follow : (m : Mode) (k : TokenKind) (t : Text) → stands m k t ≡ true → Gaps k t
gaps_follow m Punctuator t h = mark_gap t ((and_parts (is_mode m Operator) (is_mark t) h).1)
gaps_follow m IdentifierName t h = (refl, refl)
gaps_follow m NumericLiteral t h = (refl, refl)
gaps_follow m BigIntLiteral t h = (refl, refl)
gaps_follow m StringLiteral t h = (refl, refl)
gaps_follow m RegExpLiteral t h = (refl, refl)
gaps_follow m NoSubstitution t h = (refl, refl)
gaps_follow m TemplateHead t h = (refl, refl)
gaps_follow m TemplateMiddle t h = (refl, refl)
gaps_follow m TemplateTail t h = (refl, refl)
gaps_follow m Elision t h = absurd (false≢true h)
gaps_follow m NoToken t h = absurd (false≢true h)
gaps_follow m JsxName t h = absurd (false≢true h)
gaps_follow m JsxString t h = absurd (false≢true h)
gaps_follow m JsxText t h = absurd (false≢true h)

-- a token at the front of a list of signs
record Front (m : Mode) (k : TokenKind) (t : Text) (ms : List Sign) (y : Text) : Type 0 where
  pub stood : stands m k t ≡ true
  pub gap : open_gap [] (ahead ms at_end) ≡ true
  pub others : good ms at_end ≡ true
  pub it : Found m k t y

front : (m : Mode) (k : TokenKind) (t : Text) (ms : List Sign) (i : ℕ) (n : List Bool) → good (Tok m k t ∷ ms) at_end ≡ true → Front m k t ms (laid no_notes i n t false ms)
front m k t ms i n g =
    let a = and_parts (sign_good (Tok m k t) (ahead ms at_end)) (good ms at_end) g in
    let slash = not (same t (codes "/")) || (ahead ms at_end).sure in
    let b = and_parts (stands m k t) ((open_gap [] (ahead ms at_end) && slash) && head_ok (follows k t) t (ahead ms at_end)) a.0 in
    let c = and_parts (open_gap [] (ahead ms at_end) && slash) (head_ok (follows k t) t (ahead ms at_end)) b.1 in
    let d = and_parts (open_gap [] (ahead ms at_end)) slash c.0 in
    let f : Gaps k t = gaps_follow m k t b.0 in
    record { stood = b.0; gap = d.0; others = a.1; it = found m k t (laid no_notes i n t false ms) b.0 (head (follows k t) f.0 f.1 ms i n t false a.1 c.1) }

-- ---- no line end before the next token

unbroken : (ms : List Sign) (i : ℕ) (n : List Bool) (q : Text) (bare : Bool) → good ms at_end ≡ true → skips_next (ahead ms at_end).next ≡ true → (ahead ms at_end).line ≡ false → breaks (laid no_notes i n q bare ms) ≡ false
unbroken [] i n q bare g s h = refl
unbroken (Tok m k t ∷ ms) i n q bare g s h =
    (front m k t ms (suc i) n g).it.unbroken s
unbroken (Semicolon ∷ ms) i n q bare g s h = refl
unbroken (Space ∷ ms) i n q bare g s h = unbroken ms i n q false g s h
unbroken (Pad ∷ ms) i n q bare g s h = either_way (λ x. breaks x ≡ false) (bare || is_pad ms) [] (32 ∷ []) _ (unbroken ms i n q (is_pad ms) g s h) (unbroken ms i n q (is_pad ms) g s h)
unbroken (Line ∷ ms) i n q bare g s h = absurd (false≢true (sym h))
unbroken (Indent ∷ ms) i n q bare g s h = unbroken ms i (true ∷ n) q (is_out ms) g s h
unbroken (Outdent ∷ ms) i n q bare g s h = absurd (false≢true (sym h))
unbroken (Unindent ∷ ms) i n q bare g s h = unbroken ms i (pull n) q false g s h
unbroken (Apart ∷ ms) i n q bare g s h = either_way (λ x. breaks x ≡ false) (nat_eq (last q) (first_char (first_token ms))) (32 ∷ []) [] _ (unbroken ms i n q false g s h) (unbroken ms i n q false g s h)
unbroken (TrailingComma ∷ ms) i n q bare g s h = unbroken ms i n q bare ((and_parts (sign_good TrailingComma (ahead ms at_end)) (good ms at_end) g).1) s h
unbroken (Unless ts ∷ ms) i n q bare g s h = unbroken ms i n q bare ((and_parts (sign_good (Unless ts) (ahead ms at_end)) (good ms at_end) g).1) s h
unbroken (SameLine ∷ ms) i n q bare g s h = unbroken ms i n q bare ((and_parts (sign_good SameLine (ahead ms at_end)) (good ms at_end) g).1) s h
unbroken (Ends e ∷ ms) i n q bare g s h = unbroken ms i n q bare g s h
unbroken (Begin ∷ ms) i n q bare g s h = unbroken ms i n q bare g s h
unbroken (Count ∷ ms) i n q bare g s h = unbroken ms i n q bare g s h
unbroken (One ∷ ms) i n q bare g s h = unbroken ms i n q bare g s h
unbroken (End ∷ ms) i n q bare g s h = unbroken ms i n q bare g s h

-- ---- none of some tokens comes next

pub not_among : (ts : List Text) → no_slash ts ≡ true → among [] ts ≡ false
not_among [] h = refl
not_among ([] ∷ ts) h = absurd (false≢true h)
not_among ((c ∷ t) ∷ ts) h = not_among ts ((and_parts (not (nat_eq c 47)) (no_slash ts) h).1)

abbrev begins_slash : Text → Text → Bool
begins_slash q y = begins q (47 ∷ y)

slash_not_among : (q y : Text) (ts : List Text) → begins_slash q y ≡ true → no_slash ts ≡ true → among q ts ≡ false
slash_not_among [] y ts b h = not_among ts h
slash_not_among (d ∷ q) y ts b h = go ts (sym (eqb-true d 47 ((and_parts (nat_eq d 47) _ b).0))) h
  where
    go : (ts : List Text) → 47 ≡ d → no_slash ts ≡ true → among (d ∷ q) ts ≡ false
    go [] e h = refl
    go ([] ∷ ts) e h = absurd (false≢true h)
    go ((c ∷ t) ∷ ts) e h =
        let a = and_parts (not (nat_eq c 47)) (no_slash ts) h in
        or_from (nat_eq d c && same q t) (among (d ∷ q) ts) (and_left (nat_eq d c) (same q t) (false_from_ne_true (nat_eq d c) (λ f. clash _ (eq-eqb c 47 (sym (eqb-true d c f) ∙ sym e)) (not-true _ a.0)))) (go ts e a.1)

raw_punct : (q x : Text) → (punct q x).raw ≡ q
raw_punct [] x = refl
raw_punct (c ∷ q) x = refl

-- a regular expression's slash, read where an operator may stand
pub slash_raw : (y : Text) (f : Bool) (ts : List Text) → no_slash ts ≡ true → among (at_front Operator f (47 ∷ y)).raw ts ≡ false
slash_raw y f ts h =
    let e : (at_front Operator f (47 ∷ y)).raw ≡ longest punctuators (47 ∷ y) = ap (λ b. (cond b (record { kind = NoToken; raw = []; rest = 47 ∷ y }) (punct (longest punctuators (47 ∷ y)) (47 ∷ y))).raw) (and_right f false refl) ∙ raw_punct (longest punctuators (47 ∷ y)) (47 ∷ y) in
    ap (λ x. among x ts) e ∙ slash_not_among (longest punctuators (47 ∷ y)) y ts (begins_longest punctuators (47 ∷ y)) h

slash_none : (t y g : Text) (ts : List Text) → first_is (λ c. nat_eq c 47) t ≡ true → pad g ≡ true → skip (t ++ y) ≡ t ++ y → no_slash ts ≡ true → among (token Operator false (g ++ (t ++ y))).raw ts ≡ false
slash_none [] y g ts s p k h = absurd (false≢true s)
slash_none (c ∷ t) y g ts s p k h =
    let e : token Operator false (g ++ (c ∷ (t ++ y))) ≡ at_front Operator (breaks (g ++ (c ∷ (t ++ y)))) (c ∷ (t ++ y)) = ap (at_front Operator (breaks (g ++ (c ∷ (t ++ y))))) (skip_pad g (c ∷ (t ++ y)) p ∙ k) in
    ap (λ x. among x.raw ts) e ∙ subst (λ x. among (at_front Operator (breaks (g ++ (c ∷ (t ++ y)))) (x ∷ (t ++ y))).raw ts ≡ false) (sym (eqb-true c 47 s)) (slash_raw (t ++ y) (breaks (g ++ (c ∷ (t ++ y)))) ts h)

pub operand_slash : (k : TokenKind) (t : Text) → stands Operand k t ≡ true → first_is (λ c. nat_eq c 47) t ≡ true
operand_slash RegExpLiteral t h = slash_first t h
operand_slash Punctuator t h = absurd (false≢true h)
operand_slash IdentifierName t h = absurd (false≢true h)
operand_slash NumericLiteral t h = absurd (false≢true h)
operand_slash BigIntLiteral t h = absurd (false≢true h)
operand_slash StringLiteral t h = absurd (false≢true h)
operand_slash NoSubstitution t h = absurd (false≢true h)
operand_slash TemplateHead t h = absurd (false≢true h)
operand_slash TemplateMiddle t h = absurd (false≢true h)
operand_slash TemplateTail t h = absurd (false≢true h)
operand_slash Elision t h = absurd (false≢true h)
operand_slash NoToken t h = absurd (false≢true h)
operand_slash JsxName t h = absurd (false≢true h)
operand_slash JsxString t h = absurd (false≢true h)
operand_slash JsxText t h = absurd (false≢true h)

pub all_follow_semi : (y : Text) → all_first (follows Punctuator (codes ";")) y ≡ true
all_follow_semi [] = refl
all_follow_semi (c ∷ y) = refl

semi_read : (y g : Text) (f : Bool) → pad g ≡ true → token Operator f (g ++ (59 ∷ y)) ≡ it Punctuator (codes ";") y
semi_read y g f p = at_operator Punctuator (codes ";") y g f (mark_reads (codes ";") y refl (all_follow_semi y)) p

-- a text behind a gap, with more of the gap
abbrev Unseen : List Text → Text → Type 0
Unseen ts text = among (token Operator false text).raw ts ≡ false

none_ahead : (ms : List Sign) (i : ℕ) (n : List Bool) (q : Text) (bare : Bool) (g : Text) (ts : List Text) → good ms at_end ≡ true → pad g ≡ true → is_none_of (ahead ms at_end).next ts ≡ true → Unseen ts (g ++ laid no_notes i n q bare ms)
none_ahead [] i n q bare g ts h p o = ap (λ x. among (at_front Operator (breaks (g ++ [])) x).raw ts) (skip_pad g [] p) ∙ not_among ts o
none_ahead (Tok Operator k t ∷ ms) i n q bare g ts h p o = ap (λ x. among x.raw ts) ((front Operator k t ms (suc i) n h).it.read g false p (λ e. absurd (false≢true (sym e)))) ∙ not-true _ o
none_ahead (Tok Operand k t ∷ ms) i n q bare g ts h p o =
    let f = front Operand k t ms (suc i) n h in
    slash_none t (laid no_notes (suc i) n t false ms) g ts (operand_slash k t f.stood) p (f.it.skipped refl) o
none_ahead (Tok Piece k t ∷ ms) i n q bare g ts h p o = absurd (false≢true o)
none_ahead (Tok Tag k t ∷ ms) i n q bare g ts h p o = absurd (false≢true o)
none_ahead (Tok Children k t ∷ ms) i n q bare g ts h p o = absurd (false≢true o)
none_ahead (Semicolon ∷ ms) i n q bare g ts h p o = ap (λ x. among x.raw ts) (semi_read (laid no_notes (suc i) n q false ms) g false p) ∙ not-true _ o
none_ahead (Space ∷ ms) i n q bare g ts h p o = subst (Unseen ts) (append g (32 ∷ []) (laid no_notes i n q false ms)) (none_ahead ms i n q false (g ++ (32 ∷ [])) ts h (pad_more g (32 ∷ []) p refl) o)
none_ahead (Pad ∷ ms) i n q bare g ts h p o =
    either_way (λ x. Unseen ts (g ++ x)) (bare || is_pad ms) [] (32 ∷ []) (laid no_notes i n q (is_pad ms) ms) (none_ahead ms i n q (is_pad ms) g ts h p o)
    (subst (Unseen ts) (append g (32 ∷ []) (laid no_notes i n q (is_pad ms) ms)) (none_ahead ms i n q (is_pad ms) (g ++ (32 ∷ [])) ts h (pad_more g (32 ∷ []) p refl) o))
none_ahead (Line ∷ ms) i n q bare g ts h p o = subst (Unseen ts) (append g (line n) (laid no_notes i n q false ms)) (none_ahead ms i n q false (g ++ line n) ts h (pad_more g (line n) p (indent_pad n)) o)
none_ahead (Indent ∷ ms) i n q bare g ts h p o = none_ahead ms i (true ∷ n) q (is_out ms) g ts h p o
none_ahead (Outdent ∷ ms) i n q bare g ts h p o =
    either_way (λ x. Unseen ts (g ++ x)) bare [] (line (pull n)) (laid no_notes i (pull n) q false ms) (none_ahead ms i (pull n) q false g ts h p o)
    (subst (Unseen ts) (append g (line (pull n)) (laid no_notes i (pull n) q false ms)) (none_ahead ms i (pull n) q false (g ++ line (pull n)) ts h (pad_more g (line (pull n)) p (indent_pad (pull n))) o))
none_ahead (Unindent ∷ ms) i n q bare g ts h p o = none_ahead ms i (pull n) q false g ts h p o
none_ahead (Apart ∷ ms) i n q bare g ts h p o =
    either_way (λ x. Unseen ts (g ++ x)) (nat_eq (last q) (first_char (first_token ms))) (32 ∷ []) [] (laid no_notes i n q false ms)
    (subst (Unseen ts) (append g (32 ∷ []) (laid no_notes i n q false ms)) (none_ahead ms i n q false (g ++ (32 ∷ [])) ts h (pad_more g (32 ∷ []) p refl) o)) (none_ahead ms i n q false g ts h p o)
none_ahead (TrailingComma ∷ ms) i n q bare g ts h p o = none_ahead ms i n q bare g ts ((and_parts (sign_good TrailingComma (ahead ms at_end)) (good ms at_end) h).1) p o
none_ahead (Unless us ∷ ms) i n q bare g ts h p o = none_ahead ms i n q bare g ts ((and_parts (sign_good (Unless us) (ahead ms at_end)) (good ms at_end) h).1) p o
none_ahead (SameLine ∷ ms) i n q bare g ts h p o = none_ahead ms i n q bare g ts ((and_parts (sign_good SameLine (ahead ms at_end)) (good ms at_end) h).1) p o
none_ahead (Ends e ∷ ms) i n q bare g ts h p o = none_ahead ms i n q bare g ts h p o
none_ahead (Begin ∷ ms) i n q bare g ts h p o = none_ahead ms i n q bare g ts h p o
none_ahead (Count ∷ ms) i n q bare g ts h p o = none_ahead ms i n q bare g ts h p o
none_ahead (One ∷ ms) i n q bare g ts h p o = none_ahead ms i n q bare g ts h p o
none_ahead (End ∷ ms) i n q bare g ts h p o = none_ahead ms i n q bare g ts h p o

-- ---- lists of signs

pub taken : (s : TokenKind) (t rest : Text) → token_at (it s t rest) s t ≡ At t AfterExpr rest
taken s t rest = ap (λ b. go_if b (At t AfterExpr rest)) (and_from (is_kind s s) (same t t) (eq-eqb (kind_number s) (kind_number s) refl) (same_self t))

-- the signs scan the text to its end
abbrev Done : Text → Ending → List Sign → Text → Type 0
Done q e ms text = ended_at (scan (At q e text) ms) ≡ true

more_gap : (g h : Text) (v w : Ahead) → Open g v → pad h ≡ true → v.void ≡ false → w.next ≡ v.next → w.same_line ≡ v.same_line → (v.line ≡ false → (has_line h ≡ false) × (w.line ≡ false)) → Open (g ++ h) w
more_gap g h v w o p d e f l = record {
  pads = pad_more g h o.pads p;
  lines = λ s. let a = o.lines (sym f ∙ s) in let b = l a.1 in (no_line_more g h a.0 b.0, b.1);
  modes = λ s. clash v.void ((o.modes (ap skips_next (sym e) ∙ s)).1) d;
}

less_gap : (g : Text) (v w : Ahead) → Open g v → v.void ≡ false → w.next ≡ v.next → w.same_line ≡ v.same_line → (v.line ≡ false → w.line ≡ false) → Open g w
less_gap g v w o d e f l = record {
  pads = o.pads;
  lines = λ s. let a = o.lines (sym f ∙ s) in (a.0, l a.1);
  modes = λ s. clash v.void ((o.modes (ap skips_next (sym e) ∙ s)).1) d;
}

pub comma_no : (x : Lexeme) (q : Text) (e : Ending) (text : Text) → among x.raw (codes "," ∷ []) ≡ false → comma_at x q e text ≡ At q e text
comma_no x q e text h = if_false (is_token x Punctuator (codes ",")) (At (codes ",") AfterExpr x.rest) (At q e text) (and_right (is_kind x.kind Punctuator) (same x.raw (codes ",")) ((or_parts (same x.raw (codes ",")) false h).0))

scans : (ms : List Sign) (i : ℕ) (n : List Bool) (q : Text) (bare : Bool) (p : Text) (e : Ending) (g : Text) → good ms at_end ≡ true → Open g (ahead ms at_end) → Done p e ms (g ++ laid no_notes i n q bare ms)
scans [] i n q bare p e g h o = ap is_end (append_nil g) ∙ end_pad g o.pads
scans (Tok m k t ∷ ms) i n q bare p e g h o =
    let f = front m k t ms (suc i) n h in
    let y : Text = laid no_notes (suc i) n t false ms in
    ap (λ x. ended_at (scan (token_at x k t) ms)) (f.it.read g (same p []) o.pads (λ s. (o.modes s).0)) ∙ ap (λ x. ended_at (scan x ms)) (taken k t y) ∙ scans ms (suc i) n t false t AfterExpr [] f.others (open_of [] (ahead ms at_end) f.gap)
scans (Semicolon ∷ ms) i n q bare p e g h o =
    let a = and_parts (open_gap [] (ahead ms at_end)) (good ms at_end) h in
    let y : Text = laid no_notes (suc i) n q false ms in
    ap (λ x. ended_at (scan (semi_at x p e (g ++ (59 ∷ y))) ms)) (semi_read y g false o.pads) ∙ scans ms (suc i) n q false (codes ";") AfterExpr [] a.1 (open_of [] (ahead ms at_end) a.0)
scans (Space ∷ ms) i n q bare p e g h o =
    let v : Ahead = ahead ms at_end in
    subst (Done p e ms) (append g (32 ∷ []) (laid no_notes i n q false ms)) (scans ms i n q false p e (g ++ (32 ∷ [])) h (more_gap g (32 ∷ []) (sign_ahead Space v) v o refl refl refl refl (λ l. (refl, l))))
scans (Pad ∷ ms) i n q bare p e g h o =
    let v : Ahead = ahead ms at_end in
    either_way (λ x. Done p e ms (g ++ x)) (bare || is_pad ms) [] (32 ∷ []) (laid no_notes i n q (is_pad ms) ms) (scans ms i n q (is_pad ms) p e g h (less_gap g (sign_ahead Pad v) v o refl refl refl (λ l. l)))
    (subst (Done p e ms) (append g (32 ∷ []) (laid no_notes i n q (is_pad ms) ms)) (scans ms i n q (is_pad ms) p e (g ++ (32 ∷ [])) h (more_gap g (32 ∷ []) (sign_ahead Pad v) v o refl refl refl refl (λ l. (refl, l)))))
scans (Line ∷ ms) i n q bare p e g h o =
    let v : Ahead = ahead ms at_end in
    subst (Done p e ms) (append g (line n) (laid no_notes i n q false ms)) (scans ms i n q false p e (g ++ line n) h (more_gap g (line n) (sign_ahead Line v) v o (indent_pad n) refl refl refl (λ l. absurd (false≢true (sym l)))))
scans (Indent ∷ ms) i n q bare p e g h o = scans ms i (true ∷ n) q (is_out ms) p e g h o
scans (Outdent ∷ ms) i n q bare p e g h o =
    let v : Ahead = ahead ms at_end in
    either_way (λ x. Done p e ms (g ++ x)) bare [] (line (pull n)) (laid no_notes i (pull n) q false ms) (scans ms i (pull n) q false p e g h (less_gap g (sign_ahead Outdent v) v o refl refl refl (λ l. absurd (false≢true (sym l)))))
    (subst (Done p e ms) (append g (line (pull n)) (laid no_notes i (pull n) q false ms)) (scans ms i (pull n) q false p e (g ++ line (pull n)) h (more_gap g (line (pull n)) (sign_ahead Outdent v) v o (indent_pad (pull n)) refl refl refl (λ l. absurd (false≢true (sym l))))))
scans (Unindent ∷ ms) i n q bare p e g h o = scans ms i (pull n) q false p e g h o
scans (Apart ∷ ms) i n q bare p e g h o =
    let v : Ahead = ahead ms at_end in
    either_way (λ x. Done p e ms (g ++ x)) (nat_eq (last q) (first_char (first_token ms))) (32 ∷ []) [] (laid no_notes i n q false ms)
    (subst (Done p e ms) (append g (32 ∷ []) (laid no_notes i n q false ms)) (scans ms i n q false p e (g ++ (32 ∷ [])) h (more_gap g (32 ∷ []) (sign_ahead Apart v) v o refl refl refl refl (λ l. (refl, l)))))
    (scans ms i n q false p e g h (less_gap g (sign_ahead Apart v) v o refl refl refl (λ l. l)))
scans (TrailingComma ∷ ms) i n q bare p e g h o =
    let a = and_parts (sign_good TrailingComma (ahead ms at_end)) (good ms at_end) h in
    let text : Text = g ++ laid no_notes i n q bare ms in
    ap (λ x. ended_at (scan x ms)) (comma_no (token Operator false text) p e text (none_ahead ms i n q bare g (codes "," ∷ []) a.1 o.pads a.0)) ∙ scans ms i n q bare p e g a.1 o
scans (Unless ts ∷ ms) i n q bare p e g h o =
    let a = and_parts (sign_good (Unless ts) (ahead ms at_end)) (good ms at_end) h in
    let text : Text = g ++ laid no_notes i n q bare ms in
    ap (λ b. ended_at (scan (go_if (not b) (At p e text)) ms)) (none_ahead ms i n q bare g ts a.1 o.pads a.0) ∙ scans ms i n q bare p e g a.1 o
scans (SameLine ∷ ms) i n q bare p e g h o =
    let v : Ahead = ahead ms at_end in
    let a = and_parts (sign_good SameLine v) (good ms at_end) h in
    let l = o.lines refl in
    let text : Text = g ++ laid no_notes i n q bare ms in
    ap (λ b. ended_at (scan (go_if (not b) (At p e text)) ms)) (breaks_pad g (laid no_notes i n q bare ms) o.pads l.0 ∙ unbroken ms i n q bare a.1 a.0 l.1)
    ∙ scans ms i n q bare p e g a.1 (record { pads = o.pads; lines = λ _. l; modes = o.modes })
scans (Ends f ∷ ms) i n q bare p e g h o = scans ms i n q bare p f g h o
scans (Begin ∷ ms) i n q bare p e g h o = scans ms i n q bare p e g h o
scans (Count ∷ ms) i n q bare p e g h o = scans ms i n q bare p e g h o
scans (One ∷ ms) i n q bare p e g h o = scans ms i n q bare p e g h o
scans (End ∷ ms) i n q bare p e g h o = scans ms i n q bare p e g h o

-- the layout of a tree whose signs join is scanned by them
pub scans_layout : (t : Tree) → joins (spelled t) ≡ true → ended_at (scan (At [] AfterExpr (layout t)) (spelled t)) ≡ true
scans_layout t h =
    let a = and_parts (open_gap [] (ahead (spelled t) at_end)) (good (spelled t) at_end) h in
    scans (spelled t) 0 [] [] false [] AfterExpr [] a.1 (open_of [] (ahead (spelled t) at_end) a.0)
