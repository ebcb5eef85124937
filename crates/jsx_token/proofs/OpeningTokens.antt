-- A token with which an expression begins has the sign of what it begins, and no other token has such a sign.
use Rattle.std.proofs.Common.{◌≡◌, Bool, true, false, cond, refl, sym, ◌∙◌, ap, subst}
use Rattle.std.specs.Prelude.{codes, Some, None, ◌||◌}
use Rattle.jsx_base.specs.Token.{Text, same}
use Rattle.jsx_lex.specs.declared.token.TokenKind.{TokenKind}
use Rattle.jsx_lex.specs.declared.token.TokenKind.TheVariants as token
use Rattle.jsx_lex.specs.Kinds.{is_punctuator, spelling}
use Rattle.jsx_tree.specs.declared.operator.UnaryOp.TheVariants as unary
use Rattle.jsx_tree.specs.declared.operator.UpdateOp.TheVariants as update
use Rattle.jsx_token.specs.Stage.{has_kind}
use Rattle.jsx_token.specs.Marks.{is_sign, is_mark}
use Rattle.jsx_tree.proofs.Tokens.{same_is}
use Rattle.jsx_token.specs.declared.opening.Opening.{Opening}
use Rattle.jsx_token.specs.declared.opening.Opening.TheVariants as opening
use Rattle.jsx_token.specs.Growths.{opening_kind, opening_sign, opening_signs}
use Rattle.jsx_token.specs.GrowthTokens.{opening_by}
use Rattle.jsx_token.proofs.GrowthTokens.{lexeme}

some_is : {g h : Opening} → Some g ≡ Some h → g ≡ h
some_is e = cc

none_some : {A : Type 0} {g : Opening} → None ≡ Some g → A
none_some e = cc

some_none : {A : Type 0} {g : Opening} → Some g ≡ None → A
some_none e = cc

-- what is known of a token and what it begins
pub record Fits (k : TokenKind) (t r : Text) (g : Opening) : Type 0 where
  pub sign : is_sign (lexeme k t r) (opening_sign (opening_kind g)) ≡ true
  pub taken : has_kind (opening_kind g) ≡ true

by : (k : TokenKind) (u r : Text) (h g : Opening) (t : Text) → Some h ≡ Some g → t ≡ u → Fits k u r h → Fits k t r g
by k u r h g t e s i = subst (λ w. Fits k w r g) (sym s) (subst (λ f. Fits k u r f) (some_is e) i)

by_word : (a b d f n u k l : Bool) (g : Opening) (t r : Text) → same t (codes "void") ≡ a → same t (codes "typeof") ≡ b → same t (codes "import") ≡ d → same t (codes "delete") ≡ f → same t (codes "new") ≡ n → same t (codes "function") ≡ u → same t (codes "class") ≡ k → same t (codes "super") ≡ l → cond a (Some (opening.Unary unary.Void)) (cond b (Some (opening.Unary unary.TypeOf)) (cond d (Some opening.Import) (cond f (Some (opening.Unary unary.Delete)) (cond n (Some opening.New) (cond u (Some opening.Function) (cond k (Some opening.Class) (cond l (Some opening.Super) None))))))) ≡ Some g → Fits token.IdentifierName t r g
by_word true b d f n u k l g t r x y z o w q i j e = by token.IdentifierName (codes "void") r (opening.Unary unary.Void) g t e (same_is t (codes "void") x) (record { sign = refl; taken = refl })
by_word false true d f n u k l g t r x y z o w q i j e = by token.IdentifierName (codes "typeof") r (opening.Unary unary.TypeOf) g t e (same_is t (codes "typeof") y) (record { sign = refl; taken = refl })
by_word false false true f n u k l g t r x y z o w q i j e = by token.IdentifierName (codes "import") r opening.Import g t e (same_is t (codes "import") z) (record { sign = refl; taken = refl })
by_word false false false true n u k l g t r x y z o w q i j e = by token.IdentifierName (codes "delete") r (opening.Unary unary.Delete) g t e (same_is t (codes "delete") o) (record { sign = refl; taken = refl })
by_word false false false false true u k l g t r x y z o w q i j e = by token.IdentifierName (codes "new") r opening.New g t e (same_is t (codes "new") w) (record { sign = refl; taken = refl })
by_word false false false false false true k l g t r x y z o w q i j e = by token.IdentifierName (codes "function") r opening.Function g t e (same_is t (codes "function") q) (record { sign = refl; taken = refl })
by_word false false false false false false true l g t r x y z o w q i j e = by token.IdentifierName (codes "class") r opening.Class g t e (same_is t (codes "class") i) (record { sign = refl; taken = refl })
by_word false false false false false false false true g t r x y z o w q i j e = by token.IdentifierName (codes "super") r opening.Super g t e (same_is t (codes "super") j) (record { sign = refl; taken = refl })
by_word false false false false false false false false g t r x y z o w q i j e = none_some e

pub opening_fits : (k : TokenKind) (t r : Text) (g : Opening) → (is_punctuator k ≡ true → t ≡ spelling k) → opening_by k t ≡ Some g → Fits k t r g
opening_fits token.Plus t r g s e = by token.Plus (spelling token.Plus) r (opening.Unary unary.Positive) g t e (s refl) (record { sign = refl; taken = refl })
opening_fits token.Minus t r g s e = by token.Minus (spelling token.Minus) r (opening.Unary unary.Negative) g t e (s refl) (record { sign = refl; taken = refl })
opening_fits token.Tilde t r g s e = by token.Tilde (spelling token.Tilde) r (opening.Unary unary.Complement) g t e (s refl) (record { sign = refl; taken = refl })
opening_fits token.Not t r g s e = by token.Not (spelling token.Not) r (opening.Unary unary.Not) g t e (s refl) (record { sign = refl; taken = refl })
opening_fits token.LeftParen t r g s e = by token.LeftParen (spelling token.LeftParen) r opening.Paren g t e (s refl) (record { sign = refl; taken = refl })
opening_fits token.LeftBracket t r g s e = by token.LeftBracket (spelling token.LeftBracket) r opening.Array g t e (s refl) (record { sign = refl; taken = refl })
opening_fits token.LeftBrace t r g s e = by token.LeftBrace (spelling token.LeftBrace) r opening.Object g t e (s refl) (record { sign = refl; taken = refl })
opening_fits token.PlusPlus t r g s e = by token.PlusPlus (spelling token.PlusPlus) r (opening.Update update.Increment) g t e (s refl) (record { sign = refl; taken = refl })
opening_fits token.MinusMinus t r g s e = by token.MinusMinus (spelling token.MinusMinus) r (opening.Update update.Decrement) g t e (s refl) (record { sign = refl; taken = refl })
opening_fits token.IdentifierName t r g s e = by_word (same t (codes "void")) (same t (codes "typeof")) (same t (codes "import")) (same t (codes "delete")) (same t (codes "new")) (same t (codes "function")) (same t (codes "class")) (same t (codes "super")) g t r refl refl refl refl refl refl refl refl e
opening_fits _ t r g s e = none_some e

no_word : (a b d f n u k l : Bool) → cond a (Some (opening.Unary unary.Void)) (cond b (Some (opening.Unary unary.TypeOf)) (cond d (Some opening.Import) (cond f (Some (opening.Unary unary.Delete)) (cond n (Some opening.New) (cond u (Some opening.Function) (cond k (Some opening.Class) (cond l (Some opening.Super) None))))))) ≡ None → (a ≡ false) × ((b ≡ false) × ((d ≡ false) × ((f ≡ false) × ((n ≡ false) × ((u ≡ false) × ((k ≡ false) × (l ≡ false)))))))
no_word true b d f n u k l e = some_none e
no_word false true d f n u k l e = some_none e
no_word false false true f n u k l e = some_none e
no_word false false false true n u k l e = some_none e
no_word false false false false true u k l e = some_none e
no_word false false false false false true k l e = some_none e
no_word false false false false false false true l e = some_none e
no_word false false false false false false false true e = some_none e
no_word false false false false false false false false e = (refl, (refl, (refl, (refl, (refl, (refl, (refl, refl)))))))

no_mark : (k : TokenKind) (r : Text) → is_punctuator k ≡ true → opening_by k (spelling k) ≡ None → is_mark (lexeme k (spelling k) r) opening_signs ≡ false
unfolding opening_signs
no_mark token.Dot r p e = refl
no_mark token.LeftParen r p e = some_none e
no_mark token.LeftBracket r p e = some_none e
no_mark token.Question r p e = refl
no_mark token.QuestionQuestion r p e = refl
no_mark token.OrOr r p e = refl
no_mark token.AndAnd r p e = refl
no_mark token.Or r p e = refl
no_mark token.Caret r p e = refl
no_mark token.And r p e = refl
no_mark token.EqualEqual r p e = refl
no_mark token.NotEqual r p e = refl
no_mark token.EqualEqualEqual r p e = refl
no_mark token.NotEqualEqual r p e = refl
no_mark token.Less r p e = refl
no_mark token.Greater r p e = refl
no_mark token.LessEqual r p e = refl
no_mark token.GreaterEqual r p e = refl
no_mark token.LessLess r p e = refl
no_mark token.GreaterGreater r p e = refl
no_mark token.GreaterGreaterGreater r p e = refl
no_mark token.Plus r p e = some_none e
no_mark token.Minus r p e = some_none e
no_mark token.Star r p e = refl
no_mark token.Slash r p e = refl
no_mark token.Percent r p e = refl
no_mark token.StarStar r p e = refl
no_mark token.LeftBrace r p e = some_none e
no_mark token.RightBrace r p e = refl
no_mark token.RightParen r p e = refl
no_mark token.RightBracket r p e = refl
no_mark token.Semicolon r p e = refl
no_mark token.Comma r p e = refl
no_mark token.PlusPlus r p e = some_none e
no_mark token.MinusMinus r p e = some_none e
no_mark token.Not r p e = some_none e
no_mark token.Tilde r p e = some_none e
no_mark token.QuestionDot r p e = refl
no_mark token.Colon r p e = refl
no_mark token.Equal r p e = refl
no_mark token.PlusEqual r p e = refl
no_mark token.MinusEqual r p e = refl
no_mark token.StarEqual r p e = refl
no_mark token.SlashEqual r p e = refl
no_mark token.PercentEqual r p e = refl
no_mark token.StarStarEqual r p e = refl
no_mark token.LessLessEqual r p e = refl
no_mark token.GreaterGreaterEqual r p e = refl
no_mark token.GreaterGreaterGreaterEqual r p e = refl
no_mark token.AndEqual r p e = refl
no_mark token.OrEqual r p e = refl
no_mark token.CaretEqual r p e = refl
no_mark token.AndAndEqual r p e = refl
no_mark token.OrOrEqual r p e = refl
no_mark token.QuestionQuestionEqual r p e = refl
no_mark token.Arrow r p e = refl
no_mark token.Ellipsis r p e = refl
no_mark _ r p e = cc

plain_mark : (k : TokenKind) (t r : Text) → is_punctuator k ≡ false → opening_by k t ≡ None → is_mark (lexeme k t r) opening_signs ≡ false
unfolding opening_signs
plain_mark token.IdentifierName t r p e = let n = no_word (same t (codes "void")) (same t (codes "typeof")) (same t (codes "import")) (same t (codes "delete")) (same t (codes "new")) (same t (codes "function")) (same t (codes "class")) (same t (codes "super")) e in (λ i. n.1.1.1.1.1.1.0 i || (n.1.1.1.1.1.1.1 i || (n.1.1.1.1.1.0 i || (n.1.1.1.1.0 i || (n.1.1.0 i || (n.1.1.1.0 i || (n.0 i || (n.1.0 i || false))))))))
plain_mark token.NumericLiteral t r p e = refl
plain_mark token.BigIntLiteral t r p e = refl
plain_mark token.StringLiteral t r p e = refl
plain_mark token.RegExpLiteral t r p e = refl
plain_mark token.NoSubstitution t r p e = refl
plain_mark token.TemplateHead t r p e = refl
plain_mark token.TemplateMiddle t r p e = refl
plain_mark token.TemplateTail t r p e = refl
plain_mark token.JsxName t r p e = refl
plain_mark token.JsxString t r p e = refl
plain_mark token.JsxText t r p e = refl
plain_mark token.End t r p e = refl
plain_mark _ t r p e = cc

pub opening_none : (k : TokenKind) (t r : Text) → (is_punctuator k ≡ true → t ≡ spelling k) → opening_by k t ≡ None → is_mark (lexeme k t r) opening_signs ≡ false
opening_none k t r s e = elim (is_punctuator k) as (λ b. is_punctuator k ≡ b → is_mark (lexeme k t r) opening_signs ≡ false)
    [ true ↦ λ p. subst (λ u. is_mark (lexeme k u r) opening_signs ≡ false) (sym (s p)) (no_mark k r p (ap (opening_by k) (sym (s p)) ∙ e)) | false ↦ λ p. plain_mark k t r p e ] refl

-- the arm of the code that takes what is left
pub opening_left : (k : TokenKind) (t : Text) → (k ≡ token.Plus → ⊥) → (k ≡ token.Minus → ⊥) → (k ≡ token.Tilde → ⊥) → (k ≡ token.Not → ⊥) → (k ≡ token.PlusPlus → ⊥) → (k ≡ token.MinusMinus → ⊥) → (k ≡ token.LeftParen → ⊥) → (k ≡ token.LeftBracket → ⊥) → (k ≡ token.LeftBrace → ⊥) → (k ≡ token.IdentifierName → ⊥) → opening_by k t ≡ None
opening_left token.Plus t n0 n1 n2 n3 n4 n5 n6 n7 n8 n9 = absurd (n0 refl)
opening_left token.Minus t n0 n1 n2 n3 n4 n5 n6 n7 n8 n9 = absurd (n1 refl)
opening_left token.Tilde t n0 n1 n2 n3 n4 n5 n6 n7 n8 n9 = absurd (n2 refl)
opening_left token.Not t n0 n1 n2 n3 n4 n5 n6 n7 n8 n9 = absurd (n3 refl)
opening_left token.PlusPlus t n0 n1 n2 n3 n4 n5 n6 n7 n8 n9 = absurd (n4 refl)
opening_left token.MinusMinus t n0 n1 n2 n3 n4 n5 n6 n7 n8 n9 = absurd (n5 refl)
opening_left token.LeftParen t n0 n1 n2 n3 n4 n5 n6 n7 n8 n9 = absurd (n6 refl)
opening_left token.LeftBracket t n0 n1 n2 n3 n4 n5 n6 n7 n8 n9 = absurd (n7 refl)
opening_left token.LeftBrace t n0 n1 n2 n3 n4 n5 n6 n7 n8 n9 = absurd (n8 refl)
opening_left token.IdentifierName t n0 n1 n2 n3 n4 n5 n6 n7 n8 n9 = absurd (n9 refl)
opening_left _ t n0 n1 n2 n3 n4 n5 n6 n7 n8 n9 = refl
