-- The text of a name or literal is that token also alone.
use Rattle.std.proofs.Common.{◌≡◌, ℕ, [], ◌∷◌, Bool, true, false, cond, not, ◌||◌, ◌&&◌, codes, refl, sym, ap, ◌∙◌, subst}
use Rattle.std.specs.Prelude.{nat_eq}
use Rattle.std.proofs.lemmas.Bool.{false≢true, and_parts, and_from, eqb-true}
use Rattle.jsx_base.specs.Token.{Text, Mode, Operand, Operator, Piece, Tag, Children, TokenKind, IdentifierName, Punctuator, NumericLiteral, BigIntLiteral, StringLiteral, RegExpLiteral, NoSubstitution, TemplateHead, TemplateMiddle, TemplateTail, JsxName, JsxString, JsxText, Elision, NoToken, is_kind}
use Rattle.jsx_base.specs.Token.{State, Dead, Done, InName, BehindZero, InDigits, BehindPoint, InFraction, BehindE, BehindSign, InExponent, InBase, BehindN, InString, InEscape, InHex, InUnicode, InBraces, BehindNul, BehindCr, AtRegExp, InRegExp, InRegExpEscape, InFlags, InPiece, InPieceEscape, BehindDollar, InJsxName, InJsxString, InJsxText}
use Rattle.jsx_base.specs.Token.{Blank, InLineComment, Opening, BehindGap, gap_after_blank, is_over, is_blank, is_line_end, breaks, breaks_in, skip, skips}
use Rattle.jsx_base.specs.Token.{same, first_is, is_digit, is_start, begins, step, is_dead, accepts, taken, left, last_state, code_state, state, is_code, Lexeme, is_token, no_token, ended, punct, punctuator, lexed, at_front, token}
use Rattle.jsx_token.specs.Gaps.{IsBehind}
use Rattle.jsx_token.proofs.Gaps.{stays}
use Rattle.jsx_tree.proofs.Tokens.{same_self}

-- ---- what an automaton takes, it takes again, and whole

record TakesAll (s : State) (text : Text) (last : State) : Type 0 where
  pub takes : taken s text ≡ text
  pub leaves : left s text ≡ []
  pub ends : last_state s text ≡ last

again_at : (s : State) (c : ℕ) (text : Text) (b : Bool) → is_dead (step s c) ≡ b → TakesAll (step s c) (taken (step s c) text) (last_state (step s c) text) → TakesAll s (cond b [] (c ∷ taken (step s c) text)) (cond b s (last_state (step s c) text))
again_at s c text true e r = record { takes = refl; leaves = refl; ends = refl }
again_at s c text false e r = record {
  takes = ap (λ b. cond b [] (c ∷ taken (step s c) (taken (step s c) text))) e ∙ ap (λ t. c ∷ t) r.takes;
  leaves = ap (λ b. cond b (c ∷ taken (step s c) text) (left (step s c) (taken (step s c) text))) e ∙ r.leaves;
  ends = ap (λ b. cond b s (last_state (step s c) (taken (step s c) text))) e ∙ r.ends;
}

again : (s : State) (text : Text) → TakesAll s (taken s text) (last_state s text)
again s [] = record { takes = refl; leaves = refl; ends = refl }
again s (c ∷ text) = again_at s c text (is_dead (step s c)) refl (again (step s c) text)

-- ---- what it takes begins as the text does

begun : (b : ℕ) (q : Text) (c : ℕ) (text x : Text) (d : Bool) → (begins q x ≡ true → begins q text ≡ true) → begins (b ∷ q) (cond d [] (c ∷ x)) ≡ true → begins (b ∷ q) (c ∷ text) ≡ true
begun b q c text x true p h = absurd (false≢true h)
begun b q c text x false p h =
    let e = and_parts (nat_eq b c) (begins q x) h in
    and_from (nat_eq b c) (begins q text) e.0 (p e.1)

begins_taken : (q : Text) (s : State) (text : Text) → begins q (taken s text) ≡ true → begins q text ≡ true
begins_taken [] s text h = refl
begins_taken (b ∷ q) s [] h = h
begins_taken (b ∷ q) s (c ∷ text) h = begun b q c text (taken (step s c) text) (is_dead (step s c)) (begins_taken q (step s c) text) h

begins_front : (q : Text) (s : State) (c : ℕ) (text : Text) → begins q (c ∷ taken s text) ≡ true → begins q (c ∷ text) ≡ true
begins_front [] s c text h = refl
begins_front (b ∷ q) s c text h =
    let e = and_parts (nat_eq b c) (begins q (taken s text)) h in
    and_from (nat_eq b c) (begins q text) e.0 (begins_taken q s text e.1)

-- ---- so it stands behind no gap, and is no comment of HTML

over_less : (a b e b' e' : Bool) → (b' ≡ true → b ≡ true) → (e' ≡ true → e ≡ true) → is_over (cond a Blank (cond b InLineComment (cond e (Opening 1) BehindGap))) ≡ true → is_over (cond a Blank (cond b' InLineComment (cond e' (Opening 1) BehindGap))) ≡ true
over_less true b e b' e' p q h = absurd (false≢true h)
over_less false true e b' e' p q h = absurd (false≢true h)
over_less false false true b' e' p q h = absurd (false≢true h)
over_less false false false true e' p q h = absurd (false≢true (p refl))
over_less false false false false true p q h = absurd (false≢true (q refl))
over_less false false false false false p q h = refl

still_behind : (s : State) (c : ℕ) (text : Text) → is_over (gap_after_blank c text) ≡ true → is_over (gap_after_blank c (taken s text)) ≡ true
still_behind s c text h = over_less (is_blank c || is_line_end c) _ _ _ _ (begins_front (codes "//") s c text) (begins_front (codes "/*") s c text) h

unbroken : (c : ℕ) (text : Text) → is_over (gap_after_blank c text) ≡ true → breaks (c ∷ text) ≡ false
unbroken c text h = ap (λ b. not b && (is_line_end c || breaks_in (gap_after_blank c text) text)) h

plain : (i a b a' : Bool) → (a' ≡ true → a ≡ true) → (i && (a || b)) ≡ false → (i && (a' || false)) ≡ false
plain false a b a' p h = refl
plain true true b a' p h = absurd (false≢true (sym h))
plain true false b true p h = absurd (false≢true (p refl))
plain true false b false p h = refl

-- ---- and its first state is the same: only a point looks at what follows, and takes it

abbrev code_with : Bool → ℕ → Bool → State
code_with operand c b =
    cond (is_start c) InName (cond (nat_eq c 48) BehindZero (cond (is_digit c) (InDigits true) (cond b (InFraction false)
    (cond (nat_eq c 34 || nat_eq c 39) (InString c) (cond (nat_eq c 96) (InPiece NoSubstitution TemplateHead) (cond (operand && nat_eq c 47) AtRegExp (cond (operand && nat_eq c 60) (Done Punctuator) Dead)))))))

at_digits : (text : Text) (b : Bool) → first_is is_digit text ≡ b → is_dead (cond b (InFraction false) Dead) ≡ false → first_is is_digit (taken (cond b (InFraction false) Dead) text) ≡ b
at_digits text false e n = absurd (false≢true (sym n))
at_digits [] true e n = absurd (false≢true e)
at_digits (d ∷ text) true e n =
    let a : is_dead (step (InFraction false) d) ≡ false = ap (λ b. is_dead (cond b (InFraction true) Dead)) e in
    ap (λ b. first_is is_digit (cond b [] (d ∷ taken (step (InFraction false) d) text))) a ∙ e

at_point : (operand : Bool) (text : Text) → is_dead (code_state operand 46 text) ≡ false → first_is is_digit (taken (code_state operand 46 text) text) ≡ first_is is_digit text
at_point true text n = at_digits text (first_is is_digit text) refl n
at_point false text n = at_digits text (first_is is_digit text) refl n

point_alone : (operand : Bool) (c : ℕ) (text : Text) (b : Bool) → nat_eq c 46 ≡ b → is_dead (code_state operand c text) ≡ false → (nat_eq c 46 && first_is is_digit (taken (code_state operand c text) text)) ≡ (nat_eq c 46 && first_is is_digit text)
point_alone operand c text false e n =
    ap (λ b. b && first_is is_digit (taken (code_state operand c text) text)) e ∙ sym (ap (λ b. b && first_is is_digit text) e)
point_alone operand c text true e n =
    ap (λ b. b && first_is is_digit (taken (code_state operand c text) text)) e
    ∙ subst (λ d. is_dead (code_state operand d text) ≡ false → first_is is_digit (taken (code_state operand d text) text) ≡ first_is is_digit text) (sym (eqb-true c 46 e)) (at_point operand text) n
    ∙ sym (ap (λ b. b && first_is is_digit text) e)

code_alone : (operand : Bool) (c : ℕ) (text : Text) → is_dead (code_state operand c text) ≡ false → code_state operand c (taken (code_state operand c text) text) ≡ code_state operand c text
code_alone operand c text n = ap (code_with operand c) (point_alone operand c text (nat_eq c 46) refl n)

state_alone : (m : Mode) (c : ℕ) (text : Text) → is_dead (state m c text) ≡ false → state m c (taken (state m c text) text) ≡ state m c text
state_alone Operand c text n = code_alone true c text n
state_alone Operator c text n = code_alone false c text n
state_alone Piece c text n = refl
state_alone Tag c text n = refl
state_alone Children c text n = refl

-- ---- the token that a state makes

abbrev pub made : State → ℕ → Text → Lexeme
made s c text = ended (accepts (last_state s text)) (c ∷ taken s text) (left s text)

pub lexed_by : (P : Lexeme → Type 0) (m : Mode) (s : State) (c : ℕ) (text : Text) → (is_dead s ≡ true → P (lexed m Dead c text)) → (is_dead s ≡ false → P (made s c text)) → P (lexed m s c text)
lexed_by P m Dead c text p q = p refl
lexed_by P m (Done j) c text p q = q refl
lexed_by P m InName c text p q = q refl
lexed_by P m BehindZero c text p q = q refl
lexed_by P m (InDigits b) c text p q = q refl
lexed_by P m BehindPoint c text p q = q refl
lexed_by P m (InFraction b) c text p q = q refl
lexed_by P m BehindE c text p q = q refl
lexed_by P m BehindSign c text p q = q refl
lexed_by P m (InExponent b) c text p q = q refl
lexed_by P m (InBase d b) c text p q = q refl
lexed_by P m BehindN c text p q = q refl
lexed_by P m (InString d) c text p q = q refl
lexed_by P m (InEscape d) c text p q = q refl
lexed_by P m (InHex d n) c text p q = q refl
lexed_by P m (InUnicode d) c text p q = q refl
lexed_by P m (InBraces d b v) c text p q = q refl
lexed_by P m (BehindNul d) c text p q = q refl
lexed_by P m (BehindCr d) c text p q = q refl
lexed_by P m AtRegExp c text p q = q refl
lexed_by P m (InRegExp b) c text p q = q refl
lexed_by P m (InRegExpEscape b) c text p q = q refl
lexed_by P m InFlags c text p q = q refl
lexed_by P m (InPiece a b) c text p q = q refl
lexed_by P m (InPieceEscape a b) c text p q = q refl
lexed_by P m (BehindDollar a b) c text p q = q refl
lexed_by P m InJsxName c text p q = q refl
lexed_by P m (InJsxString d) c text p q = q refl
lexed_by P m InJsxText c text p q = q refl

pub alive : (m : Mode) (s : State) (c : ℕ) (text : Text) → is_dead s ≡ false → lexed m s c text ≡ made s c text
alive m s c text n = lexed_by (λ x. x ≡ made s c text) m s c text (λ d. absurd (false≢true (sym n ∙ d))) (λ _. refl)

-- a punctuator, or none, is of no other kind
mark_or_none : (k : TokenKind) (b : Bool) (q text : Text) → is_kind NoToken k ≡ false → is_kind Punctuator k ≡ false → is_kind (cond b (punct q text) (no_token text)).kind k ≡ true → ⊥
mark_or_none k true [] text n p h = false≢true (sym n ∙ h)
mark_or_none k true (c ∷ q) text n p h = false≢true (sym p ∙ h)
mark_or_none k false q text n p h = false≢true (sym n ∙ h)

-- a token of the kind k is also one where nothing follows
record EndsAlone (k j : TokenKind) (raw rest : Text) : Type 0 where
  pub kind : is_kind j k ≡ true
  pub raw_is : (ended j raw rest).raw ≡ raw
  pub alone : ended j raw [] ≡ record { kind = j; raw = raw; rest = [] }

abbrev unless : Bool → TokenKind → Text → Text → Lexeme
unless b j raw rest = cond b (no_token rest) (record { kind = j; raw = raw; rest = rest })

unless_kind : (k j : TokenKind) (raw rest : Text) (b : Bool) → is_kind NoToken k ≡ false → is_kind (unless b j raw rest).kind k ≡ true → is_kind j k ≡ true
unless_kind k j raw rest true n h = absurd (false≢true (sym n ∙ h))
unless_kind k j raw rest false n h = h

unless_raw : (k j : TokenKind) (raw rest : Text) (b : Bool) → is_kind NoToken k ≡ false → is_kind (unless b j raw rest).kind k ≡ true → (unless b j raw rest).raw ≡ raw
unless_raw k j raw rest true n h = absurd (false≢true (sym n ∙ h))
unless_raw k j raw rest false n h = refl

abbrev joins : Text → Bool
joins rest = first_is is_start rest || first_is is_digit rest

ends_alone : (k j : TokenKind) (raw rest : Text) → is_kind NoToken k ≡ false → is_kind (ended j raw rest).kind k ≡ true → EndsAlone k j raw rest
ends_alone k NoToken raw rest n h = absurd (false≢true (sym n ∙ h))
ends_alone k NumericLiteral raw rest n h = record { kind = unless_kind k NumericLiteral raw rest (joins rest) n h; raw_is = unless_raw k NumericLiteral raw rest (joins rest) n h; alone = refl }
ends_alone k BigIntLiteral raw rest n h = record { kind = unless_kind k BigIntLiteral raw rest (joins rest) n h; raw_is = unless_raw k BigIntLiteral raw rest (joins rest) n h; alone = refl }
ends_alone k IdentifierName raw rest n h = record { kind = h; raw_is = refl; alone = refl }
ends_alone k Punctuator raw rest n h = record { kind = h; raw_is = refl; alone = refl }
ends_alone k StringLiteral raw rest n h = record { kind = h; raw_is = refl; alone = refl }
ends_alone k RegExpLiteral raw rest n h = record { kind = h; raw_is = refl; alone = refl }
ends_alone k NoSubstitution raw rest n h = record { kind = h; raw_is = refl; alone = refl }
ends_alone k TemplateHead raw rest n h = record { kind = h; raw_is = refl; alone = refl }
ends_alone k TemplateMiddle raw rest n h = record { kind = h; raw_is = refl; alone = refl }
ends_alone k TemplateTail raw rest n h = record { kind = h; raw_is = refl; alone = refl }
ends_alone k JsxName raw rest n h = record { kind = h; raw_is = refl; alone = refl }
ends_alone k JsxString raw rest n h = record { kind = h; raw_is = refl; alone = refl }
ends_alone k JsxText raw rest n h = record { kind = h; raw_is = refl; alone = refl }
ends_alone k Elision raw rest n h = record { kind = h; raw_is = refl; alone = refl }

-- ---- the law

-- the text is the token of this kind, and nothing else
pub record IsAlone (m : Mode) (k : TokenKind) (raw : Text) : Type 0 where
  pub it : is_token (token m false raw) k raw ≡ true
  pub ends : same (token m false raw).rest [] ≡ true

abbrev is_html : Mode → Bool → ℕ → Text → Bool
is_html m f c text = is_code m && (begins (codes "<!--") (c ∷ text) || (f && begins (codes "-->") (c ∷ text)))

made_alone : (m : Mode) (k : TokenKind) (f : Bool) (c : ℕ) (text : Text) → skips m ≡ true → is_kind NoToken k ≡ false → is_over (gap_after_blank c text) ≡ true → is_html m f c text ≡ false → is_dead (state m c text) ≡ false → is_kind (made (state m c text) c text).kind k ≡ true → IsAlone m k (made (state m c text) c text).raw
made_alone m k f c text q n o g d h =
    let s : State = state m c text in
    let raw : Text = taken s text in
    let a : TakesAll s raw (last_state s text) = again s text in
    let x : EndsAlone k (accepts (last_state s text)) (c ∷ raw) (left s text) = ends_alone k (accepts (last_state s text)) (c ∷ raw) (left s text) n h in
    let b : is_over (gap_after_blank c raw) ≡ true = still_behind s c text o in
    let e : token m false (c ∷ raw) ≡ record { kind = accepts (last_state s text); raw = c ∷ raw; rest = [] } =
    ap (λ y. cond y (at_front m (breaks (c ∷ raw)) (skip (c ∷ raw))) (at_front m false (c ∷ raw))) q
    ∙ ap (at_front m (breaks (c ∷ raw))) (stays c raw b)
    ∙ ap (λ y. at_front m y (c ∷ raw)) (unbroken c raw b)
    ∙ ap (λ y. cond y (no_token (c ∷ raw)) (lexed m (state m c raw) c raw)) (plain (is_code m) (begins (codes "<!--") (c ∷ text)) (f && begins (codes "-->") (c ∷ text)) (begins (codes "<!--") (c ∷ raw)) (begins_front (codes "<!--") s c text) g)
    ∙ ap (λ y. lexed m y c raw) (state_alone m c text d)
    ∙ alive m s c raw d
    ∙ ap (λ y. ended (accepts y) (c ∷ taken s raw) (left s raw)) a.ends
    ∙ ap (λ y. ended (accepts (last_state s text)) (c ∷ y) (left s raw)) a.takes
    ∙ ap (λ y. ended (accepts (last_state s text)) (c ∷ raw) y) a.leaves
    ∙ x.alone in
    subst (IsAlone m k) (sym x.raw_is)
    (record { it = ap (λ y. is_token y k (c ∷ raw)) e ∙ and_from _ _ x.kind (same_self (c ∷ raw)); ends = ap (λ y. same y.rest []) e })

unless_html : (m : Mode) (k : TokenKind) (f : Bool) (c : ℕ) (text : Text) (b : Bool) → is_html m f c text ≡ b → skips m ≡ true → is_kind NoToken k ≡ false → is_kind Punctuator k ≡ false → is_over (gap_after_blank c text) ≡ true → is_kind (cond b (no_token (c ∷ text)) (lexed m (state m c text) c text)).kind k ≡ true → IsAlone m k (cond b (no_token (c ∷ text)) (lexed m (state m c text) c text)).raw
unless_html m k f c text true g q n p o h = absurd (false≢true (sym n ∙ h))
unless_html m k f c text false g q n p o h =
    lexed_by (λ x. is_kind x.kind k ≡ true → IsAlone m k x.raw) m (state m c text) c text
    (λ _ i. absurd (mark_or_none k (is_code m) (punctuator (c ∷ text)) (c ∷ text) n p i)) (made_alone m k f c text q n o g) h

-- in a mode that skips a gap, and behind the gap
pub alone : (m : Mode) (k : TokenKind) (f : Bool) (text : Text) → skips m ≡ true → is_kind NoToken k ≡ false → is_kind Punctuator k ≡ false → IsBehind text → is_kind (at_front m f text).kind k ≡ true → IsAlone m k (at_front m f text).raw
alone m k f [] q n p o h = absurd (false≢true (sym n ∙ h))
alone m k f (c ∷ text) q n p o h = unless_html m k f c text (is_html m f c text) refl q n p o h

-- ---- the same of a template's piece, before which no gap is skipped

piece_made : (k : TokenKind) (c : ℕ) (text : Text) → is_kind NoToken k ≡ false → is_dead (state Piece c text) ≡ false → is_kind (made (state Piece c text) c text).kind k ≡ true → IsAlone Piece k (made (state Piece c text) c text).raw
piece_made k c text n d h =
    let s : State = state Piece c text in
    let raw : Text = taken s text in
    let a : TakesAll s raw (last_state s text) = again s text in
    let x : EndsAlone k (accepts (last_state s text)) (c ∷ raw) (left s text) = ends_alone k (accepts (last_state s text)) (c ∷ raw) (left s text) n h in
    let e : token Piece false (c ∷ raw) ≡ record { kind = accepts (last_state s text); raw = c ∷ raw; rest = [] } =
    alive Piece s c raw d
    ∙ ap (λ y. ended (accepts y) (c ∷ taken s raw) (left s raw)) a.ends
    ∙ ap (λ y. ended (accepts (last_state s text)) (c ∷ y) (left s raw)) a.takes
    ∙ ap (λ y. ended (accepts (last_state s text)) (c ∷ raw) y) a.leaves
    ∙ x.alone in
    subst (IsAlone Piece k) (sym x.raw_is)
    (record { it = ap (λ y. is_token y k (c ∷ raw)) e ∙ and_from _ _ x.kind (same_self (c ∷ raw)); ends = ap (λ y. same y.rest []) e })

pub piece_alone : (k : TokenKind) (text : Text) → is_kind NoToken k ≡ false → is_kind (at_front Piece false text).kind k ≡ true → IsAlone Piece k (at_front Piece false text).raw
piece_alone k [] n h = absurd (false≢true (sym n ∙ h))
piece_alone k (c ∷ text) n h =
    lexed_by (λ x. is_kind x.kind k ≡ true → IsAlone Piece k x.raw) Piece (state Piece c text) c text
    (λ _ i. absurd (false≢true (sym n ∙ i))) (piece_made k c text n) h
