-- A token's raw text and what it leaves are the text, and which token a state makes.
use Rattle.std.proofs.Common.{◌≡◌, ℕ, [], ◌∷◌, ◌++◌, Bool, true, false, cond, ◌||◌, ◌&&◌, codes, refl, sym, ap, ◌∙◌}
use Rattle.std.specs.Prelude.{nat_eq}
use Rattle.std.proofs.lemmas.Bool.{false≢true, and_parts, eqb-true}
use Rattle.jsx_base.specs.Token.{Text, Mode, TokenKind as Kind, IdentifierName, Punctuator, NumericLiteral, BigIntLiteral, StringLiteral, RegExpLiteral, NoSubstitution, TemplateHead, TemplateMiddle, TemplateTail, JsxName, JsxString, JsxText, Elision, NoToken, is_kind, State, Dead, Done, InName, BehindZero, InDigits, BehindPoint, InFraction, BehindE, BehindSign, InExponent, InBase, BehindN, InString, InEscape, InHex, InUnicode, InBraces, BehindNul, BehindCr, AtRegExp, InRegExp, InRegExpEscape, InFlags, InPiece, InPieceEscape, BehindDollar, InJsxName, InJsxString, InJsxText, Lexeme, is_dead, step, is_start, is_digit, first_is, is_code, begins, drop_as, longest, punctuators, punctuator, punct, ended, no_token, lexed, state, at_front, accepts, last_state, taken, left}
use Rattle.jsx_base.proofs.Longest.{begins_longest}

abbrev Whole : Text → Lexeme → Type 0
Whole text x = is_kind x.kind NoToken ≡ false → x.raw ++ x.rest ≡ text

either : (P : Lexeme → Type 0) (b : Bool) (x y : Lexeme) → P x → P y → P (cond b x y)
either P true x y p q = p
either P false x y p q = q

nothing : (text rest : Text) → Whole text (no_token rest)
nothing text rest h = absurd (false≢true (sym h))

joined : (b : Bool) (c : ℕ) (x y text : Text) → x ++ y ≡ text → cond b [] (c ∷ x) ++ cond b (c ∷ text) y ≡ c ∷ text
joined true c x y text e = refl
joined false c x y text e = ap (λ t. c ∷ t) e

split : (s : State) (text : Text) → taken s text ++ left s text ≡ text
split s [] = refl
split s (c ∷ text) = joined (is_dead (step s c)) c (taken (step s c) text) (left (step s c) text) text (split (step s c) text)

whole_ended : (j : Kind) (text raw rest : Text) → raw ++ rest ≡ text → Whole text (ended j raw rest)
whole_ended IdentifierName text raw rest e = λ _. e
whole_ended Punctuator text raw rest e = λ _. e
whole_ended NumericLiteral text raw rest e = either (Whole text) (first_is is_start rest || first_is is_digit rest) _ _ (nothing text rest) (λ _. e)
whole_ended BigIntLiteral text raw rest e = either (Whole text) (first_is is_start rest || first_is is_digit rest) _ _ (nothing text rest) (λ _. e)
whole_ended StringLiteral text raw rest e = λ _. e
whole_ended RegExpLiteral text raw rest e = λ _. e
whole_ended NoSubstitution text raw rest e = λ _. e
whole_ended TemplateHead text raw rest e = λ _. e
whole_ended TemplateMiddle text raw rest e = λ _. e
whole_ended TemplateTail text raw rest e = λ _. e
whole_ended JsxName text raw rest e = λ _. e
whole_ended JsxString text raw rest e = λ _. e
whole_ended JsxText text raw rest e = λ _. e
whole_ended Elision text raw rest e = λ _. e
whole_ended NoToken text raw rest e = nothing text rest

whole_by : (s : State) (c : ℕ) (text : Text) → Whole (c ∷ text) (ended (accepts (last_state s text)) (c ∷ taken s text) (left s text))
whole_by s c text = whole_ended (accepts (last_state s text)) (c ∷ text) (c ∷ taken s text) (left s text) (ap (λ t. c ∷ t) (split s text))

pub dropped : (p text : Text) → begins p text ≡ true → p ++ drop_as p text ≡ text
dropped [] text h = refl
dropped (b ∷ p) [] h = absurd (false≢true h)
dropped (b ∷ p) (c ∷ text) h =
    let e = and_parts (nat_eq b c) (begins p text) h in
    let f : b ≡ c = eqb-true b c e.0 in
    let g : p ++ drop_as p text ≡ text = dropped p text e.1 in
    ap (λ x. x ∷ (p ++ drop_as p text)) f ∙ ap (λ x. c ∷ x) g

whole_punct : (q text : Text) → begins q text ≡ true → Whole text (punct q text)
whole_punct [] text b = nothing text text
whole_punct (c ∷ q) text b = λ _. dropped (c ∷ q) text b

choice : (text : Text) (b : Bool) (x y : Text) → (b ≡ true → begins x text ≡ true) → begins y text ≡ true → begins (cond b x y) text ≡ true
choice text true x y p q = p refl
choice text false x y p q = q

one_of_two : (a b : ℕ) (text : Text) → begins (a ∷ b ∷ []) text ≡ true → begins (a ∷ []) text ≡ true
one_of_two a b [] h = h
one_of_two a b (c ∷ text) h = ap (λ x. x && true) ((and_parts (nat_eq a c) (begins (b ∷ []) text) h).0)

begins_punctuator : (text : Text) → begins (punctuator text) text ≡ true
begins_punctuator text =
    choice text (begins (codes "?.") text && first_is is_digit (drop_as (codes "?.") text)) (codes "?") (longest punctuators text)
    (λ h. one_of_two 63 46 text ((and_parts (begins (codes "?.") text) (first_is is_digit (drop_as (codes "?.") text)) h).0)) (begins_longest punctuators text)

whole_lexed : (m : Mode) (s : State) (c : ℕ) (text : Text) → Whole (c ∷ text) (lexed m s c text)
whole_lexed m Dead c text = either (Whole (c ∷ text)) (is_code m) _ _ (whole_punct (punctuator (c ∷ text)) (c ∷ text) (begins_punctuator (c ∷ text))) (nothing (c ∷ text) (c ∷ text))
whole_lexed m (Done j) c text = whole_by (Done j) c text
whole_lexed m InName c text = whole_by InName c text
whole_lexed m BehindZero c text = whole_by BehindZero c text
whole_lexed m (InDigits b) c text = whole_by (InDigits b) c text
whole_lexed m BehindPoint c text = whole_by BehindPoint c text
whole_lexed m (InFraction b) c text = whole_by (InFraction b) c text
whole_lexed m BehindE c text = whole_by BehindE c text
whole_lexed m BehindSign c text = whole_by BehindSign c text
whole_lexed m (InExponent b) c text = whole_by (InExponent b) c text
whole_lexed m (InBase y b) c text = whole_by (InBase y b) c text
whole_lexed m BehindN c text = whole_by BehindN c text
whole_lexed m (InString q) c text = whole_by (InString q) c text
whole_lexed m (InEscape q) c text = whole_by (InEscape q) c text
whole_lexed m (InHex q z) c text = whole_by (InHex q z) c text
whole_lexed m (InUnicode q) c text = whole_by (InUnicode q) c text
whole_lexed m (InBraces q b v) c text = whole_by (InBraces q b v) c text
whole_lexed m (BehindNul q) c text = whole_by (BehindNul q) c text
whole_lexed m (BehindCr q) c text = whole_by (BehindCr q) c text
whole_lexed m AtRegExp c text = whole_by AtRegExp c text
whole_lexed m (InRegExp b) c text = whole_by (InRegExp b) c text
whole_lexed m (InRegExpEscape b) c text = whole_by (InRegExpEscape b) c text
whole_lexed m InFlags c text = whole_by InFlags c text
whole_lexed m (InPiece a b) c text = whole_by (InPiece a b) c text
whole_lexed m (InPieceEscape a b) c text = whole_by (InPieceEscape a b) c text
whole_lexed m (BehindDollar a b) c text = whole_by (BehindDollar a b) c text
whole_lexed m InJsxName c text = whole_by InJsxName c text
whole_lexed m (InJsxString q) c text = whole_by (InJsxString q) c text
whole_lexed m InJsxText c text = whole_by InJsxText c text

pub whole : (m : Mode) (f : Bool) (text : Text) → Whole text (at_front m f text)
whole m f [] = nothing [] []
whole m f (c ∷ text) = either (Whole (c ∷ text)) (is_code m && (begins (codes "<!--") (c ∷ text) || (f && begins (codes "-->") (c ∷ text)))) _ _ (nothing (c ∷ text) (c ∷ text)) (whole_lexed m (state m c text) c text)

-- ---- the token that a state makes

abbrev pub made : State → ℕ → Text → Lexeme
made s c text = ended (accepts (last_state s text)) (c ∷ taken s text) (left s text)

pub lexed_by : (P : Lexeme → Type 0) (m : Mode) (s : State) (c : ℕ) (text : Text) → (is_dead s ≡ true → P (lexed m Dead c text)) → (is_dead s ≡ false → P (made s c text)) → P (lexed m s c text)
lexed_by P m Dead c text p q = p refl
lexed_by P m (Done j) c text p q = q refl
lexed_by P m InName c text p q = q refl
lexed_by P m BehindZero c text p q = q refl
lexed_by P m (InDigits b) c text p q = q refl
lexed_by P m BehindPoint c text p q = q refl
lexed_by P m (InFraction b) c text p q = q refl
lexed_by P m BehindE c text p q = q refl
lexed_by P m BehindSign c text p q = q refl
lexed_by P m (InExponent b) c text p q = q refl
lexed_by P m (InBase d b) c text p q = q refl
lexed_by P m BehindN c text p q = q refl
lexed_by P m (InString d) c text p q = q refl
lexed_by P m (InEscape d) c text p q = q refl
lexed_by P m (InHex d n) c text p q = q refl
lexed_by P m (InUnicode d) c text p q = q refl
lexed_by P m (InBraces d b v) c text p q = q refl
lexed_by P m (BehindNul d) c text p q = q refl
lexed_by P m (BehindCr d) c text p q = q refl
lexed_by P m AtRegExp c text p q = q refl
lexed_by P m (InRegExp b) c text p q = q refl
lexed_by P m (InRegExpEscape b) c text p q = q refl
lexed_by P m InFlags c text p q = q refl
lexed_by P m (InPiece a b) c text p q = q refl
lexed_by P m (InPieceEscape a b) c text p q = q refl
lexed_by P m (BehindDollar a b) c text p q = q refl
lexed_by P m InJsxName c text p q = q refl
lexed_by P m (InJsxString d) c text p q = q refl
lexed_by P m InJsxText c text p q = q refl

pub alive : (m : Mode) (s : State) (c : ℕ) (text : Text) → is_dead s ≡ false → lexed m s c text ≡ made s c text
alive m s c text n = lexed_by (λ x. x ≡ made s c text) m s c text (λ d. absurd (false≢true (sym n ∙ d))) (λ _. refl)
