-- The kinds that a token may still have in a state.
use Rattle.std.proofs.Common.{◌≡◌, ℕ, zero, suc, ◌+◌, ◌*◌, [], ◌∷◌, Bool, true, false, cond, not, ◌||◌, ◌&&◌, codes, refl, sym}
use Rattle.std.specs.Prelude.{nat_eq, nat_le}
use Rattle.std.proofs.lemmas.Bool.{false≢true, or_parts}
use Rattle.jsx_base.specs.Token.{Text, TokenKind, IdentifierName, NumericLiteral, BigIntLiteral, StringLiteral, RegExpLiteral, JsxName, JsxString, JsxText, NoToken}
use Rattle.jsx_base.specs.Token.{is_kind, State, Dead, Done, InName, BehindZero, InDigits, BehindPoint, InFraction, BehindE, BehindSign, InExponent, InBase, BehindN, InString, InEscape, InHex, InUnicode, InBraces, BehindNul, BehindCr, AtRegExp, InRegExp, InRegExpEscape, InFlags, InPiece, InPieceEscape, BehindDollar, InJsxName, InJsxString, InJsxText}
use Rattle.jsx_base.specs.Token.{step, digit_step, is_dead, last_state, accepts, is_digit, is_letter, is_hex, hex_value, is_base_digit, is_line_end, is_part, is_one_of}

abbrev pub is_number : TokenKind → Bool
is_number k = is_kind NumericLiteral k || is_kind BigIntLiteral k

abbrev pub may_be : State → TokenKind → Bool
may_be Dead k = false
may_be (Done j) k = is_kind j k
may_be InName k = is_kind IdentifierName k
may_be BehindZero k = is_number k
may_be (InDigits b) k = is_number k
may_be BehindPoint k = is_number k
may_be (InFraction b) k = is_number k
may_be BehindE k = is_number k
may_be BehindSign k = is_number k
may_be (InExponent b) k = is_number k
may_be (InBase d b) k = is_number k
may_be BehindN k = is_number k
may_be (InString q) k = is_kind StringLiteral k
may_be (InEscape q) k = is_kind StringLiteral k
may_be (InHex q n) k = is_kind StringLiteral k
may_be (InUnicode q) k = is_kind StringLiteral k
may_be (InBraces q b v) k = is_kind StringLiteral k
may_be (BehindNul q) k = is_kind StringLiteral k
may_be (BehindCr q) k = is_kind StringLiteral k
may_be AtRegExp k = is_kind RegExpLiteral k
may_be (InRegExp b) k = is_kind RegExpLiteral k
may_be (InRegExpEscape b) k = is_kind RegExpLiteral k
may_be InFlags k = is_kind RegExpLiteral k
may_be (InPiece a b) k = is_kind a k || is_kind b k
may_be (InPieceEscape a b) k = is_kind a k || is_kind b k
may_be (BehindDollar a b) k = is_kind a k || is_kind b k
may_be InJsxName k = is_kind JsxName k
may_be (InJsxString q) k = is_kind JsxString k
may_be InJsxText k = is_kind JsxText k

abbrev pub Not : TokenKind → State → Type 0
Not k s = may_be s k ≡ false

pub either : (k : TokenKind) (b : Bool) (x y : State) → Not k x → Not k y → Not k (cond b x y)
either k true x y p q = p
either k false x y p q = q

digits : (k : TokenKind) (f : Bool → State) (more : Bool) (c : ℕ) (other : State) → Not k (f true) → Not k (f false) → Not k other → Not k (digit_step f more c other)
digits k f more c other p q r = either k (is_digit c) _ _ p (either k (more && nat_eq c 95) _ _ q r)

in_string : (k : TokenKind) (q c : ℕ) → Not k (InString q) → Not k (step (InString q) c)
in_string k q c h = either k (nat_eq c q) _ _ h (either k (nat_eq c 92) _ _ h (either k (nat_eq c 10 || nat_eq c 13) _ _ refl h))

in_piece : (k a b : TokenKind) (c : ℕ) → Not k (InPiece a b) → Not k (step (InPiece a b) c)
in_piece k a b c h = either k (nat_eq c 96) _ _ ((or_parts (is_kind a k) (is_kind b k) h).0) (either k (nat_eq c 92) _ _ h (either k (nat_eq c 36) _ _ h h))

in_regexp : (k : TokenKind) (b : Bool) (c : ℕ) → is_kind RegExpLiteral k ≡ false → Not k (step (InRegExp b) c)
in_regexp k b c h =
    either k (is_line_end c) _ _ refl (either k (nat_eq c 92) _ _ h (either k (nat_eq c 91) _ _ h (either k (nat_eq c 93) _ _ h (either k (nat_eq c 47 && not b) _ _ h h))))

-- where the test fails
pub only : (k : TokenKind) (b : Bool) (x y : State) → b ≡ false → Not k y → Not k (cond b x y)
only k true x y e p = absurd (false≢true (sym e))
only k false x y e p = p

-- a character further
not_step : (k : TokenKind) (s : State) (c : ℕ) → Not k s → Not k (step s c)
not_step k Dead c h = refl
not_step k (Done j) c h = refl
not_step k InName c h = either k (is_part c) InName Dead h refl
not_step k BehindZero c h =
    either k (nat_eq c 46) _ _ h (either k (is_letter 101 c) _ _ h (either k (nat_eq c 110) _ _ h
    (either k (is_letter 120 c) _ _ h (either k (is_letter 111 c) _ _ h (either k (is_letter 98 c) _ _ h refl)))))
not_step k (InDigits b) c h =
    digits k InDigits b c _ h h (either k b _ _ (either k (nat_eq c 46) _ _ h (either k (is_letter 101 c) _ _ h (either k (nat_eq c 110) _ _ h refl))) refl)
not_step k BehindPoint c h = digits k InFraction false c _ h h (either k (is_letter 101 c) _ _ h refl)
not_step k (InFraction b) c h = digits k InFraction b c _ h h (either k (b && is_letter 101 c) _ _ h refl)
not_step k BehindE c h = digits k InExponent false c _ h h (either k (nat_eq c 43 || nat_eq c 45) _ _ h refl)
not_step k BehindSign c h = digits k InExponent false c Dead h h refl
not_step k (InExponent b) c h = digits k InExponent b c Dead h h refl
not_step k (InBase d b) c h =
    either k (is_base_digit d c) _ _ h (either k (b && nat_eq c 95) _ _ h (either k (b && nat_eq c 110) _ _ h refl))
not_step k BehindN c h = refl
not_step k (InString q) c h = in_string k q c h
not_step k (InEscape q) c h =
    either k (nat_eq c 120) _ _ h (either k (nat_eq c 117) _ _ h (either k (nat_eq c 48) _ _ h (either k (is_digit c) _ _ refl (either k (nat_eq c 13) _ _ h h))))
not_step k (InHex q zero) c h = refl
not_step k (InHex q (suc zero)) c h = either k (is_hex c) (InString q) Dead h refl
not_step k (InHex q (suc (suc n))) c h = either k (is_hex c) (InHex q (suc n)) Dead h refl
not_step k (InUnicode q) c h = either k (is_hex c) _ _ h (either k (nat_eq c 123) _ _ h refl)
not_step k (InBraces q b v) c h =
    either k (is_hex c && nat_le (v * 16 + hex_value c) 1114111) _ _ h (either k (b && nat_eq c 125) _ _ h refl)
not_step k (BehindNul q) c h = either k (is_digit c) _ _ refl (in_string k q c h)
not_step k (BehindCr q) c h = either k (nat_eq c 10) _ _ h (in_string k q c h)
not_step k AtRegExp c h = either k (nat_eq c 47 || nat_eq c 42) _ _ refl (in_regexp k false c h)
not_step k (InRegExp b) c h = in_regexp k b c h
not_step k (InRegExpEscape b) c h = either k (is_line_end c) _ _ refl h
not_step k InFlags c h = either k (is_part c) _ _ h refl
not_step k (InPiece a b) c h = in_piece k a b c h
not_step k (InPieceEscape a b) c h = h
not_step k (BehindDollar a b) c h = either k (nat_eq c 123) _ _ ((or_parts (is_kind a k) (is_kind b k) h).1) (in_piece k a b c h)
not_step k InJsxName c h = either k (is_part c || nat_eq c 45) _ _ h refl
not_step k (InJsxString q) c h = either k (nat_eq c q) _ _ h h
not_step k InJsxText c h = either k (is_one_of c (codes "{}<>")) Dead InJsxText refl h

last_by : (k : TokenKind) (b : Bool) (s : State) (x : State) → Not k s → Not k x → Not k (cond b s x)
last_by k true s x p q = p
last_by k false s x p q = q

not_last : (k : TokenKind) (s : State) (text : Text) → Not k s → Not k (last_state s text)
not_last k s [] h = h
not_last k s (c ∷ text) h = last_by k (is_dead (step s c)) s _ h (not_last k (step s c) text (not_step k s c h))

-- the kind of what is complete in a state
not_accepts : (k : TokenKind) (s : State) → is_kind NoToken k ≡ false → Not k s → is_kind (accepts s) k ≡ false
not_accepts k Dead n h = n
not_accepts k (Done j) n h = h
not_accepts k InName n h = h
not_accepts k BehindZero n h = (or_parts (is_kind NumericLiteral k) (is_kind BigIntLiteral k) h).0
not_accepts k (InDigits true) n h = (or_parts (is_kind NumericLiteral k) (is_kind BigIntLiteral k) h).0
not_accepts k (InDigits false) n h = n
not_accepts k BehindPoint n h = (or_parts (is_kind NumericLiteral k) (is_kind BigIntLiteral k) h).0
not_accepts k (InFraction true) n h = (or_parts (is_kind NumericLiteral k) (is_kind BigIntLiteral k) h).0
not_accepts k (InFraction false) n h = n
not_accepts k BehindE n h = n
not_accepts k BehindSign n h = n
not_accepts k (InExponent true) n h = (or_parts (is_kind NumericLiteral k) (is_kind BigIntLiteral k) h).0
not_accepts k (InExponent false) n h = n
not_accepts k (InBase d true) n h = (or_parts (is_kind NumericLiteral k) (is_kind BigIntLiteral k) h).0
not_accepts k (InBase d false) n h = n
not_accepts k BehindN n h = (or_parts (is_kind NumericLiteral k) (is_kind BigIntLiteral k) h).1
not_accepts k (InString q) n h = n
not_accepts k (InEscape q) n h = n
not_accepts k (InHex q m) n h = n
not_accepts k (InUnicode q) n h = n
not_accepts k (InBraces q b v) n h = n
not_accepts k (BehindNul q) n h = n
not_accepts k (BehindCr q) n h = n
not_accepts k AtRegExp n h = n
not_accepts k (InRegExp b) n h = n
not_accepts k (InRegExpEscape b) n h = n
not_accepts k InFlags n h = h
not_accepts k (InPiece a b) n h = n
not_accepts k (InPieceEscape a b) n h = n
not_accepts k (BehindDollar a b) n h = n
not_accepts k InJsxName n h = h
not_accepts k (InJsxString q) n h = n
not_accepts k InJsxText n h = h

pub not_kind : (k : TokenKind) (s : State) (text : Text) → is_kind NoToken k ≡ false → may_be s k ≡ false → is_kind (accepts (last_state s text)) k ≡ false
not_kind k s text n h = not_accepts k (last_state s text) n (not_last k s text h)
