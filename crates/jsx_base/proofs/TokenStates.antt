-- What kind of token a state of the automata can't become.
use Rattle.std.proofs.Common.{◌≡◌, ℕ, zero, suc, ◌*◌, ◌+◌, [], ◌∷◌, Bool, true, false, cond, not, ◌&&◌, refl, sym}
use Rattle.std.proofs.lemmas.Bool.{and_parts}
use Rattle.jsx_base.specs.Token.{Text, TokenKind, IdentifierName, NumericLiteral, BigIntLiteral, StringLiteral, RegExpLiteral, JsxName, JsxString, JsxText, NoToken, is_kind, hex_value, Hexadecimal, Octal, BinaryDigits, State, Dead, Done, InName, BehindZero, InDigits, BehindPoint, InFraction, BehindE, BehindSign, InExponent, InBase, BehindN, InString, InEscape, InHex, InUnicode, InBraces, BehindNul, BehindCr, AtRegExp, InRegExp, InRegExpEscape, InFlags, InPiece, InPieceEscape, BehindDollar, InJsxName, InJsxString, InJsxText, step, digit_step, accepts, last_state}

-- the parts of a test
here : (b c : Bool) → (b && c) ≡ true → b ≡ true
here b c h = (and_parts b c h).0

there : (b c : Bool) → (b && c) ≡ true → c ≡ true
there b c h = (and_parts b c h).1

abbrev pub no_number : TokenKind → Bool
no_number k = not (is_kind NumericLiteral k) && not (is_kind BigIntLiteral k)

-- no token of the kind is complete in the state or behind it
abbrev pub never : TokenKind → State → Bool
never k Dead = true
never k (Done j) = not (is_kind j k)
never k InName = not (is_kind IdentifierName k)
never k BehindZero = no_number k
never k (InDigits b) = no_number k
never k BehindPoint = no_number k
never k (InFraction b) = no_number k
never k BehindE = no_number k
never k BehindSign = no_number k
never k (InExponent b) = no_number k
never k (InBase d b) = no_number k
never k BehindN = no_number k
never k (InString q) = not (is_kind StringLiteral k)
never k (InEscape q) = not (is_kind StringLiteral k)
never k (InHex q n) = not (is_kind StringLiteral k)
never k (InUnicode q) = not (is_kind StringLiteral k)
never k (InBraces q b v) = not (is_kind StringLiteral k)
never k (BehindNul q) = not (is_kind StringLiteral k)
never k (BehindCr q) = not (is_kind StringLiteral k)
never k AtRegExp = not (is_kind RegExpLiteral k)
never k (InRegExp b) = not (is_kind RegExpLiteral k)
never k (InRegExpEscape b) = not (is_kind RegExpLiteral k)
never k InFlags = not (is_kind RegExpLiteral k)
never k (InPiece a b) = not (is_kind a k) && not (is_kind b k)
never k (InPieceEscape a b) = not (is_kind a k) && not (is_kind b k)
never k (BehindDollar a b) = not (is_kind a k) && not (is_kind b k)
never k InJsxName = not (is_kind JsxName k)
never k (InJsxString q) = not (is_kind JsxString k)
never k InJsxText = not (is_kind JsxText k)

pub record Never (k : TokenKind) (s : State) : Type 0 where
  pub says : never k s ≡ true

pub either : {k : TokenKind} (b : Bool) {x y : State} → Never k x → Never k y → Never k (cond b x y)
either true h j = h
either false h j = j

pub to : {k : TokenKind} (s : State) → never k s ≡ true → Never k s
to s h = record { says = h }

pub dead : {k : TokenKind} → Never k Dead
dead = record { says = refl }

in_string_never : (k : TokenKind) (q c : ℕ) → not (is_kind StringLiteral k) ≡ true → Never k (step (InString q) c)
in_string_never k q c h = either _ (to (Done StringLiteral) h) (either _ (to (InEscape q) h) (either _ dead (to (InString q) h)))

in_piece_never : (k a b : TokenKind) (c : ℕ) → never k (InPiece a b) ≡ true → Never k (step (InPiece a b) c)
in_piece_never k a b c h = either _ (to (Done a) (here _ _ h)) (either _ (to (InPieceEscape a b) h) (either _ (to (BehindDollar a b) h) (to (InPiece a b) h)))

regex_never : (k : TokenKind) (b : Bool) (c : ℕ) → not (is_kind RegExpLiteral k) ≡ true → Never k (step (InRegExp b) c)
regex_never k b c h = either _ dead (either _ (to (InRegExpEscape b) h) (either _ (to (InRegExp true) h) (either _ (to (InRegExp false) h) (either _ (to InFlags h) (to (InRegExp b) h)))))

digit_never : {k : TokenKind} (s : Bool → State) (more : Bool) (c : ℕ) {other : State} → Never k (s true) → Never k (s false) → Never k other → Never k (digit_step s more c other)
digit_never s more c h i j = either _ h (either _ i j)

step_never : (k : TokenKind) (s : State) (c : ℕ) → never k s ≡ true → Never k (step s c)
step_never k Dead c h = dead
step_never k (Done j) c h = dead
step_never k InName c h = either _ (to InName h) dead
step_never k BehindZero c h = either _ (to BehindPoint h) (either _ (to BehindE h) (either _ (to BehindN h) (either _ (to (InBase Hexadecimal false) h) (either _ (to (InBase Octal false) h) (either _ (to (InBase BinaryDigits false) h) dead)))))
step_never k (InDigits b) c h = digit_never InDigits b c (to (InDigits true) h) (to (InDigits false) h) (either _ (either _ (to BehindPoint h) (either _ (to BehindE h) (either _ (to BehindN h) dead))) dead)
step_never k BehindPoint c h = digit_never InFraction false c (to (InFraction true) h) (to (InFraction false) h) (either _ (to BehindE h) dead)
step_never k (InFraction b) c h = digit_never InFraction b c (to (InFraction true) h) (to (InFraction false) h) (either _ (to BehindE h) dead)
step_never k BehindE c h = digit_never InExponent false c (to (InExponent true) h) (to (InExponent false) h) (either _ (to BehindSign h) dead)
step_never k BehindSign c h = digit_never InExponent false c (to (InExponent true) h) (to (InExponent false) h) dead
step_never k (InExponent b) c h = digit_never InExponent b c (to (InExponent true) h) (to (InExponent false) h) dead
step_never k (InBase d b) c h = either _ (to (InBase d true) h) (either _ (to (InBase d false) h) (either _ (to BehindN h) dead))
step_never k BehindN c h = dead
step_never k (InString q) c h = in_string_never k q c h
step_never k (InEscape q) c h = either _ (to (InHex q 2) h) (either _ (to (InUnicode q) h) (either _ (to (BehindNul q) h) (either _ dead (either _ (to (BehindCr q) h) (to (InString q) h)))))
step_never k (InHex q zero) c h = dead
step_never k (InHex q (suc zero)) c h = either _ (to (InString q) h) dead
step_never k (InHex q (suc (suc n))) c h = either _ (to (InHex q (suc n)) h) dead
step_never k (InUnicode q) c h = either _ (to (InHex q 3) h) (either _ (to (InBraces q false 0) h) dead)
step_never k (InBraces q b v) c h = either _ (to (InBraces q true (v * 16 + hex_value c)) h) (either _ (to (InString q) h) dead)
step_never k (BehindNul q) c h = either _ dead (in_string_never k q c h)
step_never k (BehindCr q) c h = either _ (to (InString q) h) (in_string_never k q c h)
step_never k AtRegExp c h = either _ dead (regex_never k false c h)
step_never k (InRegExp b) c h = regex_never k b c h
step_never k (InRegExpEscape b) c h = either _ dead (to (InRegExp b) h)
step_never k InFlags c h = either _ (to InFlags h) dead
step_never k (InPiece a b) c h = in_piece_never k a b c h
step_never k (InPieceEscape a b) c h = to (InPiece a b) h
step_never k (BehindDollar a b) c h = either _ (to (Done b) (there _ _ h)) (in_piece_never k a b c h)
step_never k InJsxName c h = either _ (to InJsxName h) dead
step_never k (InJsxString q) c h = either _ (to (Done JsxString) h) (to (InJsxString q) h)
step_never k InJsxText c h = either _ dead (to InJsxText h)

pub last_never : (k : TokenKind) (s : State) (t : Text) → Never k s → Never k (last_state s t)
last_never k s [] h = h
last_never k s (c ∷ t) h = either _ h (last_never k (step s c) t (step_never k s c h.says))

flip : (b : Bool) → not b ≡ true → b ≡ false
flip true h = sym h
flip false h = refl

-- so what is accepted is of another kind
pub accepts_never : (k : TokenKind) (s : State) → is_kind NoToken k ≡ false → never k s ≡ true → is_kind (accepts s) k ≡ false
accepts_never k Dead n h = n
accepts_never k (Done j) n h = flip _ h
accepts_never k InName n h = flip _ h
accepts_never k BehindZero n h = flip _ (here _ _ h)
accepts_never k (InDigits true) n h = flip _ (here _ _ h)
accepts_never k (InDigits false) n h = n
accepts_never k BehindPoint n h = flip _ (here _ _ h)
accepts_never k (InFraction true) n h = flip _ (here _ _ h)
accepts_never k (InFraction false) n h = n
accepts_never k BehindE n h = n
accepts_never k BehindSign n h = n
accepts_never k (InExponent true) n h = flip _ (here _ _ h)
accepts_never k (InExponent false) n h = n
accepts_never k (InBase d true) n h = flip _ (here _ _ h)
accepts_never k (InBase d false) n h = n
accepts_never k BehindN n h = flip _ (there _ _ h)
accepts_never k (InString q) n h = n
accepts_never k (InEscape q) n h = n
accepts_never k (InHex q m) n h = n
accepts_never k (InUnicode q) n h = n
accepts_never k (InBraces q b v) n h = n
accepts_never k (BehindNul q) n h = n
accepts_never k (BehindCr q) n h = n
accepts_never k AtRegExp n h = n
accepts_never k (InRegExp b) n h = n
accepts_never k (InRegExpEscape b) n h = n
accepts_never k InFlags n h = flip _ h
accepts_never k (InPiece a b) n h = n
accepts_never k (InPieceEscape a b) n h = n
accepts_never k (BehindDollar a b) n h = n
accepts_never k InJsxName n h = flip _ h
accepts_never k (InJsxString q) n h = n
accepts_never k InJsxText n h = flip _ h
