-- A token that goes on with an expression has the sign of what it goes on by, and no other token has such a sign.
use Rattle.std.proofs.Common.{◌≡◌, Bool, true, false, cond, refl, sym, ◌∙◌, ap, subst}
use Rattle.std.specs.Prelude.{codes, Some, None, ◌||◌}
use Rattle.jsx_base.specs.Token.{Text, Lexeme, same}
use Rattle.jsx_lex.specs.declared.token.TokenKind.{TokenKind}
use Rattle.jsx_lex.specs.declared.token.TokenKind.TheVariants as token
use Rattle.jsx_lex.specs.Kinds.{kind_of, is_punctuator, spelling}
use Rattle.jsx_tree.specs.declared.operator.BinaryOp.TheVariants as binary
use Rattle.jsx_tree.specs.declared.operator.BitOp.TheVariants as bit
use Rattle.jsx_tree.specs.declared.operator.EqualityOp.TheVariants as equality
use Rattle.jsx_tree.specs.declared.operator.RelationOp.TheVariants as relation
use Rattle.jsx_tree.specs.declared.operator.ShiftOp.TheVariants as shift
use Rattle.jsx_tree.specs.declared.operator.SumOp.TheVariants as sum
use Rattle.jsx_tree.specs.declared.operator.ProductOp.TheVariants as product
use Rattle.jsx_tree.specs.declared.operator.AssignOp.TheVariants as assign
use Rattle.jsx_tree.specs.declared.operator.UpdateOp.TheVariants as update
use Rattle.jsx_token.specs.Marks.{marks, is_sign, is_mark}
use Rattle.jsx_tree.proofs.Tokens.{same_is}
use Rattle.jsx_token.specs.declared.growth.Growth.{Growth}
use Rattle.jsx_token.specs.declared.growth.Growth.TheVariants as growth
use Rattle.jsx_token.specs.Growths.{growth_kind, mark}
use Rattle.jsx_token.specs.GrowthTokens.{binary_by, assign_by, with_operator, growth_by}

abbrev pub lexeme : TokenKind → Text → Text → Lexeme
lexeme k t r = record { kind = kind_of k; raw = t; rest = r }

some_is : {g h : Growth} → Some g ≡ Some h → g ≡ h
some_is e = cc

none_some : {A : Type 0} {g : Growth} → None ≡ Some g → A
none_some e = cc

some_none : {A : Type 0} {g : Growth} → Some g ≡ None → A
some_none e = cc

by : (k : TokenKind) (u r : Text) (h g : Growth) (t : Text) → Some h ≡ Some g → t ≡ u → is_sign (lexeme k u r) (mark (growth_kind h)) ≡ true → is_sign (lexeme k t r) (mark (growth_kind g)) ≡ true
by k u r h g t e s i = subst (λ w. is_sign (lexeme k w r) (mark (growth_kind g)) ≡ true) (sym s) (subst (λ f. is_sign (lexeme k u r) (mark (growth_kind f)) ≡ true) (some_is e) i)

by_word : (a b : Bool) (g : Growth) (t r : Text) → same t (codes "in") ≡ a → same t (codes "instanceof") ≡ b → cond a (Some (growth.Binary (binary.Relation relation.In))) (cond b (Some (growth.Binary (binary.Relation relation.InstanceOf))) None) ≡ Some g → is_sign (lexeme token.IdentifierName t r) (mark (growth_kind g)) ≡ true
by_word true b g t r x y e = by token.IdentifierName (codes "in") r (growth.Binary (binary.Relation relation.In)) g t e (same_is t (codes "in") x) refl
by_word false true g t r x y e = by token.IdentifierName (codes "instanceof") r (growth.Binary (binary.Relation relation.InstanceOf)) g t e (same_is t (codes "instanceof") y) refl
by_word false false g t r x y e = none_some e

pub growth_mark : (k : TokenKind) (t r : Text) (g : Growth) → (is_punctuator k ≡ true → t ≡ spelling k) → growth_by k t ≡ Some g → is_sign (lexeme k t r) (mark (growth_kind g)) ≡ true
growth_mark token.Dot t r g s e = by token.Dot (spelling token.Dot) r (growth.Member) g t e (s refl) refl
growth_mark token.LeftParen t r g s e = by token.LeftParen (spelling token.LeftParen) r (growth.Call) g t e (s refl) refl
growth_mark token.LeftBracket t r g s e = by token.LeftBracket (spelling token.LeftBracket) r (growth.Index) g t e (s refl) refl
growth_mark token.QuestionDot t r g s e = by token.QuestionDot (spelling token.QuestionDot) r (growth.Chain) g t e (s refl) refl
growth_mark token.Question t r g s e = by token.Question (spelling token.Question) r (growth.Cond) g t e (s refl) refl
growth_mark token.QuestionQuestion t r g s e = by token.QuestionQuestion (spelling token.QuestionQuestion) r (growth.Binary binary.Nullish) g t e (s refl) refl
growth_mark token.OrOr t r g s e = by token.OrOr (spelling token.OrOr) r (growth.Binary binary.Or) g t e (s refl) refl
growth_mark token.AndAnd t r g s e = by token.AndAnd (spelling token.AndAnd) r (growth.Binary binary.And) g t e (s refl) refl
growth_mark token.Or t r g s e = by token.Or (spelling token.Or) r (growth.Binary (binary.Bit bit.Or)) g t e (s refl) refl
growth_mark token.Caret t r g s e = by token.Caret (spelling token.Caret) r (growth.Binary (binary.Bit bit.Xor)) g t e (s refl) refl
growth_mark token.And t r g s e = by token.And (spelling token.And) r (growth.Binary (binary.Bit bit.And)) g t e (s refl) refl
growth_mark token.EqualEqual t r g s e = by token.EqualEqual (spelling token.EqualEqual) r (growth.Binary (binary.Equality equality.Equal)) g t e (s refl) refl
growth_mark token.NotEqual t r g s e = by token.NotEqual (spelling token.NotEqual) r (growth.Binary (binary.Equality equality.Unequal)) g t e (s refl) refl
growth_mark token.EqualEqualEqual t r g s e = by token.EqualEqualEqual (spelling token.EqualEqualEqual) r (growth.Binary (binary.Equality equality.StrictEqual)) g t e (s refl) refl
growth_mark token.NotEqualEqual t r g s e = by token.NotEqualEqual (spelling token.NotEqualEqual) r (growth.Binary (binary.Equality equality.StrictUnequal)) g t e (s refl) refl
growth_mark token.Less t r g s e = by token.Less (spelling token.Less) r (growth.Binary (binary.Relation relation.Less)) g t e (s refl) refl
growth_mark token.Greater t r g s e = by token.Greater (spelling token.Greater) r (growth.Binary (binary.Relation relation.Greater)) g t e (s refl) refl
growth_mark token.LessEqual t r g s e = by token.LessEqual (spelling token.LessEqual) r (growth.Binary (binary.Relation relation.AtMost)) g t e (s refl) refl
growth_mark token.GreaterEqual t r g s e = by token.GreaterEqual (spelling token.GreaterEqual) r (growth.Binary (binary.Relation relation.AtLeast)) g t e (s refl) refl
growth_mark token.LessLess t r g s e = by token.LessLess (spelling token.LessLess) r (growth.Binary (binary.Shift shift.Left)) g t e (s refl) refl
growth_mark token.GreaterGreater t r g s e = by token.GreaterGreater (spelling token.GreaterGreater) r (growth.Binary (binary.Shift shift.Right)) g t e (s refl) refl
growth_mark token.GreaterGreaterGreater t r g s e = by token.GreaterGreaterGreater (spelling token.GreaterGreaterGreater) r (growth.Binary (binary.Shift shift.Out)) g t e (s refl) refl
growth_mark token.Plus t r g s e = by token.Plus (spelling token.Plus) r (growth.Binary (binary.Sum sum.Add)) g t e (s refl) refl
growth_mark token.Minus t r g s e = by token.Minus (spelling token.Minus) r (growth.Binary (binary.Sum sum.Subtract)) g t e (s refl) refl
growth_mark token.Star t r g s e = by token.Star (spelling token.Star) r (growth.Binary (binary.Product product.Multiply)) g t e (s refl) refl
growth_mark token.Slash t r g s e = by token.Slash (spelling token.Slash) r (growth.Binary (binary.Product product.Divide)) g t e (s refl) refl
growth_mark token.Percent t r g s e = by token.Percent (spelling token.Percent) r (growth.Binary (binary.Product product.Remainder)) g t e (s refl) refl
growth_mark token.StarStar t r g s e = by token.StarStar (spelling token.StarStar) r (growth.Binary binary.Exponentiate) g t e (s refl) refl
growth_mark token.Equal t r g s e = by token.Equal (spelling token.Equal) r growth.Assign g t e (s refl) refl
growth_mark token.QuestionQuestionEqual t r g s e = by token.QuestionQuestionEqual (spelling token.QuestionQuestionEqual) r (growth.OpAssign assign.Nullish) g t e (s refl) refl
growth_mark token.OrOrEqual t r g s e = by token.OrOrEqual (spelling token.OrOrEqual) r (growth.OpAssign assign.Or) g t e (s refl) refl
growth_mark token.AndAndEqual t r g s e = by token.AndAndEqual (spelling token.AndAndEqual) r (growth.OpAssign assign.And) g t e (s refl) refl
growth_mark token.OrEqual t r g s e = by token.OrEqual (spelling token.OrEqual) r (growth.OpAssign (assign.Bit bit.Or)) g t e (s refl) refl
growth_mark token.CaretEqual t r g s e = by token.CaretEqual (spelling token.CaretEqual) r (growth.OpAssign (assign.Bit bit.Xor)) g t e (s refl) refl
growth_mark token.AndEqual t r g s e = by token.AndEqual (spelling token.AndEqual) r (growth.OpAssign (assign.Bit bit.And)) g t e (s refl) refl
growth_mark token.LessLessEqual t r g s e = by token.LessLessEqual (spelling token.LessLessEqual) r (growth.OpAssign (assign.Shift shift.Left)) g t e (s refl) refl
growth_mark token.GreaterGreaterEqual t r g s e = by token.GreaterGreaterEqual (spelling token.GreaterGreaterEqual) r (growth.OpAssign (assign.Shift shift.Right)) g t e (s refl) refl
growth_mark token.GreaterGreaterGreaterEqual t r g s e = by token.GreaterGreaterGreaterEqual (spelling token.GreaterGreaterGreaterEqual) r (growth.OpAssign (assign.Shift shift.Out)) g t e (s refl) refl
growth_mark token.PlusEqual t r g s e = by token.PlusEqual (spelling token.PlusEqual) r (growth.OpAssign (assign.Sum sum.Add)) g t e (s refl) refl
growth_mark token.MinusEqual t r g s e = by token.MinusEqual (spelling token.MinusEqual) r (growth.OpAssign (assign.Sum sum.Subtract)) g t e (s refl) refl
growth_mark token.StarEqual t r g s e = by token.StarEqual (spelling token.StarEqual) r (growth.OpAssign (assign.Product product.Multiply)) g t e (s refl) refl
growth_mark token.SlashEqual t r g s e = by token.SlashEqual (spelling token.SlashEqual) r (growth.OpAssign (assign.Product product.Divide)) g t e (s refl) refl
growth_mark token.PercentEqual t r g s e = by token.PercentEqual (spelling token.PercentEqual) r (growth.OpAssign (assign.Product product.Remainder)) g t e (s refl) refl
growth_mark token.StarStarEqual t r g s e = by token.StarStarEqual (spelling token.StarStarEqual) r (growth.OpAssign assign.Exponentiate) g t e (s refl) refl
growth_mark token.PlusPlus t r g s e = by token.PlusPlus (spelling token.PlusPlus) r (growth.Update update.Increment) g t e (s refl) refl
growth_mark token.MinusMinus t r g s e = by token.MinusMinus (spelling token.MinusMinus) r (growth.Update update.Decrement) g t e (s refl) refl
growth_mark token.IdentifierName t r g s e = by_word (same t (codes "in")) (same t (codes "instanceof")) g t r refl refl e
growth_mark _ t r g s e = none_some e

no_word : (a b : Bool) → cond a (Some (growth.Binary (binary.Relation relation.In))) (cond b (Some (growth.Binary (binary.Relation relation.InstanceOf))) None) ≡ None → (a ≡ false) × (b ≡ false)
no_word true b e = some_none e
no_word false true e = some_none e
no_word false false e = (refl, refl)

no_mark : (k : TokenKind) (r : Text) → is_punctuator k ≡ true → growth_by k (spelling k) ≡ None → is_mark (lexeme k (spelling k) r) marks ≡ false
unfolding marks
no_mark token.Dot r p e = some_none e
no_mark token.LeftParen r p e = some_none e
no_mark token.LeftBracket r p e = some_none e
no_mark token.Question r p e = some_none e
no_mark token.QuestionQuestion r p e = some_none e
no_mark token.OrOr r p e = some_none e
no_mark token.AndAnd r p e = some_none e
no_mark token.Or r p e = some_none e
no_mark token.Caret r p e = some_none e
no_mark token.And r p e = some_none e
no_mark token.EqualEqual r p e = some_none e
no_mark token.NotEqual r p e = some_none e
no_mark token.EqualEqualEqual r p e = some_none e
no_mark token.NotEqualEqual r p e = some_none e
no_mark token.Less r p e = some_none e
no_mark token.Greater r p e = some_none e
no_mark token.LessEqual r p e = some_none e
no_mark token.GreaterEqual r p e = some_none e
no_mark token.LessLess r p e = some_none e
no_mark token.GreaterGreater r p e = some_none e
no_mark token.GreaterGreaterGreater r p e = some_none e
no_mark token.Plus r p e = some_none e
no_mark token.Minus r p e = some_none e
no_mark token.Star r p e = some_none e
no_mark token.Slash r p e = some_none e
no_mark token.Percent r p e = some_none e
no_mark token.StarStar r p e = some_none e
no_mark token.LeftBrace r p e = refl
no_mark token.RightBrace r p e = refl
no_mark token.RightParen r p e = refl
no_mark token.RightBracket r p e = refl
no_mark token.Semicolon r p e = refl
no_mark token.Comma r p e = refl
no_mark token.PlusPlus r p e = some_none e
no_mark token.MinusMinus r p e = some_none e
no_mark token.Not r p e = refl
no_mark token.Tilde r p e = refl
no_mark token.QuestionDot r p e = some_none e
no_mark token.Colon r p e = refl
no_mark token.Equal r p e = some_none e
no_mark token.PlusEqual r p e = some_none e
no_mark token.MinusEqual r p e = some_none e
no_mark token.StarEqual r p e = some_none e
no_mark token.SlashEqual r p e = some_none e
no_mark token.PercentEqual r p e = some_none e
no_mark token.StarStarEqual r p e = some_none e
no_mark token.LessLessEqual r p e = some_none e
no_mark token.GreaterGreaterEqual r p e = some_none e
no_mark token.GreaterGreaterGreaterEqual r p e = some_none e
no_mark token.AndEqual r p e = some_none e
no_mark token.OrEqual r p e = some_none e
no_mark token.CaretEqual r p e = some_none e
no_mark token.AndAndEqual r p e = some_none e
no_mark token.OrOrEqual r p e = some_none e
no_mark token.QuestionQuestionEqual r p e = some_none e
no_mark token.Arrow r p e = refl
no_mark token.Ellipsis r p e = refl
no_mark _ r p e = cc

plain_mark : (k : TokenKind) (t r : Text) → is_punctuator k ≡ false → growth_by k t ≡ None → is_mark (lexeme k t r) marks ≡ false
unfolding marks
plain_mark token.IdentifierName t r p e = let n = no_word (same t (codes "in")) (same t (codes "instanceof")) e in (λ i. n.0 i || (n.1 i || false))
plain_mark token.NumericLiteral t r p e = refl
plain_mark token.BigIntLiteral t r p e = refl
plain_mark token.StringLiteral t r p e = refl
plain_mark token.RegExpLiteral t r p e = refl
plain_mark token.NoSubstitution t r p e = refl
plain_mark token.TemplateHead t r p e = refl
plain_mark token.TemplateMiddle t r p e = refl
plain_mark token.TemplateTail t r p e = refl
plain_mark token.JsxName t r p e = refl
plain_mark token.JsxString t r p e = refl
plain_mark token.JsxText t r p e = refl
plain_mark token.End t r p e = refl
plain_mark _ t r p e = cc

pub growth_none : (k : TokenKind) (t r : Text) → (is_punctuator k ≡ true → t ≡ spelling k) → growth_by k t ≡ None → is_mark (lexeme k t r) marks ≡ false
growth_none k t r s e = elim (is_punctuator k) as (λ b. is_punctuator k ≡ b → is_mark (lexeme k t r) marks ≡ false)
    [ true ↦ λ p. subst (λ u. is_mark (lexeme k u r) marks ≡ false) (sym (s p)) (no_mark k r p (ap (growth_by k) (sym (s p)) ∙ e)) | false ↦ λ p. plain_mark k t r p e ] refl

-- ---- the arms of the code that take what is left

pub mark_left : (k : TokenKind) → (k ≡ token.QuestionQuestion → ⊥) → (k ≡ token.OrOr → ⊥) → (k ≡ token.AndAnd → ⊥) → (k ≡ token.Or → ⊥) → (k ≡ token.Caret → ⊥) → (k ≡ token.And → ⊥) → (k ≡ token.EqualEqual → ⊥) → (k ≡ token.NotEqual → ⊥) → (k ≡ token.EqualEqualEqual → ⊥) → (k ≡ token.NotEqualEqual → ⊥) → (k ≡ token.Less → ⊥) → (k ≡ token.Greater → ⊥) → (k ≡ token.LessEqual → ⊥) → (k ≡ token.GreaterEqual → ⊥) → (k ≡ token.LessLess → ⊥) → (k ≡ token.GreaterGreater → ⊥) → (k ≡ token.GreaterGreaterGreater → ⊥) → (k ≡ token.Plus → ⊥) → (k ≡ token.Minus → ⊥) → (k ≡ token.Star → ⊥) → (k ≡ token.Slash → ⊥) → (k ≡ token.Percent → ⊥) → (k ≡ token.StarStar → ⊥) → binary_by k ≡ None
mark_left token.QuestionQuestion n0 n1 n2 n3 n4 n5 n6 n7 n8 n9 n10 n11 n12 n13 n14 n15 n16 n17 n18 n19 n20 n21 n22 = absurd (n0 refl)
mark_left token.OrOr n0 n1 n2 n3 n4 n5 n6 n7 n8 n9 n10 n11 n12 n13 n14 n15 n16 n17 n18 n19 n20 n21 n22 = absurd (n1 refl)
mark_left token.AndAnd n0 n1 n2 n3 n4 n5 n6 n7 n8 n9 n10 n11 n12 n13 n14 n15 n16 n17 n18 n19 n20 n21 n22 = absurd (n2 refl)
mark_left token.Or n0 n1 n2 n3 n4 n5 n6 n7 n8 n9 n10 n11 n12 n13 n14 n15 n16 n17 n18 n19 n20 n21 n22 = absurd (n3 refl)
mark_left token.Caret n0 n1 n2 n3 n4 n5 n6 n7 n8 n9 n10 n11 n12 n13 n14 n15 n16 n17 n18 n19 n20 n21 n22 = absurd (n4 refl)
mark_left token.And n0 n1 n2 n3 n4 n5 n6 n7 n8 n9 n10 n11 n12 n13 n14 n15 n16 n17 n18 n19 n20 n21 n22 = absurd (n5 refl)
mark_left token.EqualEqual n0 n1 n2 n3 n4 n5 n6 n7 n8 n9 n10 n11 n12 n13 n14 n15 n16 n17 n18 n19 n20 n21 n22 = absurd (n6 refl)
mark_left token.NotEqual n0 n1 n2 n3 n4 n5 n6 n7 n8 n9 n10 n11 n12 n13 n14 n15 n16 n17 n18 n19 n20 n21 n22 = absurd (n7 refl)
mark_left token.EqualEqualEqual n0 n1 n2 n3 n4 n5 n6 n7 n8 n9 n10 n11 n12 n13 n14 n15 n16 n17 n18 n19 n20 n21 n22 = absurd (n8 refl)
mark_left token.NotEqualEqual n0 n1 n2 n3 n4 n5 n6 n7 n8 n9 n10 n11 n12 n13 n14 n15 n16 n17 n18 n19 n20 n21 n22 = absurd (n9 refl)
mark_left token.Less n0 n1 n2 n3 n4 n5 n6 n7 n8 n9 n10 n11 n12 n13 n14 n15 n16 n17 n18 n19 n20 n21 n22 = absurd (n10 refl)
mark_left token.Greater n0 n1 n2 n3 n4 n5 n6 n7 n8 n9 n10 n11 n12 n13 n14 n15 n16 n17 n18 n19 n20 n21 n22 = absurd (n11 refl)
mark_left token.LessEqual n0 n1 n2 n3 n4 n5 n6 n7 n8 n9 n10 n11 n12 n13 n14 n15 n16 n17 n18 n19 n20 n21 n22 = absurd (n12 refl)
mark_left token.GreaterEqual n0 n1 n2 n3 n4 n5 n6 n7 n8 n9 n10 n11 n12 n13 n14 n15 n16 n17 n18 n19 n20 n21 n22 = absurd (n13 refl)
mark_left token.LessLess n0 n1 n2 n3 n4 n5 n6 n7 n8 n9 n10 n11 n12 n13 n14 n15 n16 n17 n18 n19 n20 n21 n22 = absurd (n14 refl)
mark_left token.GreaterGreater n0 n1 n2 n3 n4 n5 n6 n7 n8 n9 n10 n11 n12 n13 n14 n15 n16 n17 n18 n19 n20 n21 n22 = absurd (n15 refl)
mark_left token.GreaterGreaterGreater n0 n1 n2 n3 n4 n5 n6 n7 n8 n9 n10 n11 n12 n13 n14 n15 n16 n17 n18 n19 n20 n21 n22 = absurd (n16 refl)
mark_left token.Plus n0 n1 n2 n3 n4 n5 n6 n7 n8 n9 n10 n11 n12 n13 n14 n15 n16 n17 n18 n19 n20 n21 n22 = absurd (n17 refl)
mark_left token.Minus n0 n1 n2 n3 n4 n5 n6 n7 n8 n9 n10 n11 n12 n13 n14 n15 n16 n17 n18 n19 n20 n21 n22 = absurd (n18 refl)
mark_left token.Star n0 n1 n2 n3 n4 n5 n6 n7 n8 n9 n10 n11 n12 n13 n14 n15 n16 n17 n18 n19 n20 n21 n22 = absurd (n19 refl)
mark_left token.Slash n0 n1 n2 n3 n4 n5 n6 n7 n8 n9 n10 n11 n12 n13 n14 n15 n16 n17 n18 n19 n20 n21 n22 = absurd (n20 refl)
mark_left token.Percent n0 n1 n2 n3 n4 n5 n6 n7 n8 n9 n10 n11 n12 n13 n14 n15 n16 n17 n18 n19 n20 n21 n22 = absurd (n21 refl)
mark_left token.StarStar n0 n1 n2 n3 n4 n5 n6 n7 n8 n9 n10 n11 n12 n13 n14 n15 n16 n17 n18 n19 n20 n21 n22 = absurd (n22 refl)
mark_left _ n0 n1 n2 n3 n4 n5 n6 n7 n8 n9 n10 n11 n12 n13 n14 n15 n16 n17 n18 n19 n20 n21 n22 = refl

pub growth_left : (k : TokenKind) (t : Text) → (k ≡ token.Dot → ⊥) → (k ≡ token.LeftParen → ⊥) → (k ≡ token.LeftBracket → ⊥) → (k ≡ token.QuestionDot → ⊥) → (k ≡ token.Question → ⊥) → (k ≡ token.Equal → ⊥) → (k ≡ token.PlusPlus → ⊥) → (k ≡ token.MinusMinus → ⊥) → (k ≡ token.IdentifierName → ⊥) → growth_by k t ≡ with_operator (binary_by k) (assign_by k)
growth_left token.Dot t n0 n1 n2 n3 n4 n5 n6 n7 n8 = absurd (n0 refl)
growth_left token.LeftParen t n0 n1 n2 n3 n4 n5 n6 n7 n8 = absurd (n1 refl)
growth_left token.LeftBracket t n0 n1 n2 n3 n4 n5 n6 n7 n8 = absurd (n2 refl)
growth_left token.QuestionDot t n0 n1 n2 n3 n4 n5 n6 n7 n8 = absurd (n3 refl)
growth_left token.Question t n0 n1 n2 n3 n4 n5 n6 n7 n8 = absurd (n4 refl)
growth_left token.Equal t n0 n1 n2 n3 n4 n5 n6 n7 n8 = absurd (n5 refl)
growth_left token.PlusPlus t n0 n1 n2 n3 n4 n5 n6 n7 n8 = absurd (n6 refl)
growth_left token.MinusMinus t n0 n1 n2 n3 n4 n5 n6 n7 n8 = absurd (n7 refl)
growth_left token.IdentifierName t n0 n1 n2 n3 n4 n5 n6 n7 n8 = absurd (n8 refl)
growth_left _ t n0 n1 n2 n3 n4 n5 n6 n7 n8 = refl

pub assign_left : (k : TokenKind) → (k ≡ token.QuestionQuestionEqual → ⊥) → (k ≡ token.OrOrEqual → ⊥) → (k ≡ token.AndAndEqual → ⊥) → (k ≡ token.OrEqual → ⊥) → (k ≡ token.CaretEqual → ⊥) → (k ≡ token.AndEqual → ⊥) → (k ≡ token.LessLessEqual → ⊥) → (k ≡ token.GreaterGreaterEqual → ⊥) → (k ≡ token.GreaterGreaterGreaterEqual → ⊥) → (k ≡ token.PlusEqual → ⊥) → (k ≡ token.MinusEqual → ⊥) → (k ≡ token.StarEqual → ⊥) → (k ≡ token.SlashEqual → ⊥) → (k ≡ token.PercentEqual → ⊥) → (k ≡ token.StarStarEqual → ⊥) → assign_by k ≡ None
assign_left token.QuestionQuestionEqual n0 n1 n2 n3 n4 n5 n6 n7 n8 n9 n10 n11 n12 n13 n14 = absurd (n0 refl)
assign_left token.OrOrEqual n0 n1 n2 n3 n4 n5 n6 n7 n8 n9 n10 n11 n12 n13 n14 = absurd (n1 refl)
assign_left token.AndAndEqual n0 n1 n2 n3 n4 n5 n6 n7 n8 n9 n10 n11 n12 n13 n14 = absurd (n2 refl)
assign_left token.OrEqual n0 n1 n2 n3 n4 n5 n6 n7 n8 n9 n10 n11 n12 n13 n14 = absurd (n3 refl)
assign_left token.CaretEqual n0 n1 n2 n3 n4 n5 n6 n7 n8 n9 n10 n11 n12 n13 n14 = absurd (n4 refl)
assign_left token.AndEqual n0 n1 n2 n3 n4 n5 n6 n7 n8 n9 n10 n11 n12 n13 n14 = absurd (n5 refl)
assign_left token.LessLessEqual n0 n1 n2 n3 n4 n5 n6 n7 n8 n9 n10 n11 n12 n13 n14 = absurd (n6 refl)
assign_left token.GreaterGreaterEqual n0 n1 n2 n3 n4 n5 n6 n7 n8 n9 n10 n11 n12 n13 n14 = absurd (n7 refl)
assign_left token.GreaterGreaterGreaterEqual n0 n1 n2 n3 n4 n5 n6 n7 n8 n9 n10 n11 n12 n13 n14 = absurd (n8 refl)
assign_left token.PlusEqual n0 n1 n2 n3 n4 n5 n6 n7 n8 n9 n10 n11 n12 n13 n14 = absurd (n9 refl)
assign_left token.MinusEqual n0 n1 n2 n3 n4 n5 n6 n7 n8 n9 n10 n11 n12 n13 n14 = absurd (n10 refl)
assign_left token.StarEqual n0 n1 n2 n3 n4 n5 n6 n7 n8 n9 n10 n11 n12 n13 n14 = absurd (n11 refl)
assign_left token.SlashEqual n0 n1 n2 n3 n4 n5 n6 n7 n8 n9 n10 n11 n12 n13 n14 = absurd (n12 refl)
assign_left token.PercentEqual n0 n1 n2 n3 n4 n5 n6 n7 n8 n9 n10 n11 n12 n13 n14 = absurd (n13 refl)
assign_left token.StarStarEqual n0 n1 n2 n3 n4 n5 n6 n7 n8 n9 n10 n11 n12 n13 n14 = absurd (n14 refl)
assign_left _ n0 n1 n2 n3 n4 n5 n6 n7 n8 n9 n10 n11 n12 n13 n14 = refl
