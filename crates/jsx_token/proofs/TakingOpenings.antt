-- A token with which an expression begins, taken, and what is known where none is.
use Rattle.std.proofs.Common.{◌≡◌, true, false, cond, [], ◌∷◌, refl, ap, subst}
use Rattle.std.specs.Prelude.{Some, None}
use Rattle.std.specs.Str.{chars}
use Rattle.jsx_base.specs.Token.{Text, Operator, token, same}
use Rattle.jsx_tree.specs.Signs.{AfterExpr, Sign, Tok}
use Rattle.jsx_tree.specs.Reading.{Lost, At, forth}
use Rattle.jsx_token.specs.Stage.{has_kind}
use Rattle.jsx_token.specs.Marks.{is_sign, is_mark}
use Rattle.jsx_tree.proofs.Apart.{by_not, clash}
use Rattle.jsx_lex.specs.declared.lexer.Lexer.{Lexer as Tokens}
use Rattle.jsx_lex.specs.declared.token.Token.{Token}
use Rattle.jsx_token.specs.Here.{Here, place_of}
use Rattle.jsx_token.specs.Seen.{IsNext, NoNext, next_token}
use Rattle.jsx_token.specs.declared.opening.Opening.{Opening}
use Rattle.jsx_token.specs.declared.opening.Opening.TheVariants as opening
use Rattle.jsx_tree.specs.ViewOperators.{unary_of, step_of}
use Rattle.jsx_tree.specs.declared.operator.UnaryOp.{UnaryOp}
use Rattle.jsx_tree.specs.declared.operator.UnaryOp.TheVariants as unary
use Rattle.jsx_tree.specs.Kinds.{Unary, ImportCall, New, Array, Object, Parenthesized, SuperCall, FunctionExpr, ClassExpr, function, expression, PrefixUpdate}
use Rattle.jsx_token.specs.Growths.{opening_kind, opening_sign, opening_signs, is_code, NoOpening}
use Rattle.jsx_tree.specs.declared.operator.UpdateOp.TheVariants as update
use Rattle.jsx_token.specs.GrowthTokens.{opening_by}
use Rattle.jsx_token.proofs.Listed.{Listed, listed}
use Rattle.jsx_token.proofs.Marks.{mark_by}
use Rattle.jsx_token.proofs.Levels.{grows_on}
use Rattle.jsx_token.proofs.OpeningTokens.{opening_fits, opening_none}
use Rattle.jsx_token.proofs.TakingGrowths.{Took, took, every_code, no_marks, lexeme_is}

-- ---- where none is

all_code : every_code opening_signs ≡ true
unfolding opening_signs
all_code = refl

-- a sign that the next token isn't
sign_lost : (s : Sign) (q : Text) (e : _) (text : Text) → is_code s ≡ true → is_sign (token Operator (same q []) text) s ≡ false → forth s (At q e text) ≡ Lost
sign_lost (Tok Operator k (d ∷ t)) q e text c n = ap (λ b. cond b (At (d ∷ t) AfterExpr (token Operator (same q []) text).rest) Lost) n
sign_lost _ q e text c n = cc

no_signs : (h : Here) → is_mark (next_token Operator h) opening_signs ≡ false → NoOpening (place_of h)
no_signs h n = record { on = λ s c i. sign_lost s h.last h.ending h.rest c (by_not _ (λ e. clash _ (mark_by s opening_signs i (next_token Operator h) e) n)) }

pub none_opens : {h : Here} → NoNext Operator h → NoOpening (place_of h)
none_opens {h} e = no_signs h (no_marks (next_token Operator h) opening_signs all_code e.none)

pub other_opens : {h : Here} {t : Token} {b : Tokens} → IsNext Operator h t b → opening_by t.kind (chars t.raw.now) ≡ None → NoOpening (place_of h)
other_opens {h} {t} e g = no_signs h (subst (λ x. is_mark x opening_signs ≡ false) (lexeme_is e) (opening_none t.kind (chars t.raw.now) (next_token Operator h).rest e.spelled g))

-- ---- where one is

pub opening_taken : {h : Here} {t : Token} {b : Tokens} (g : Opening) → IsNext Operator h t b → opening_by t.kind (chars t.raw.now) ≡ Some g → has_kind (opening_kind g) ≡ true
opening_taken {h} {t} g e is = (opening_fits t.kind (chars t.raw.now) (next_token Operator h).rest g e.spelled is).taken

pub unary_listed : (o : UnaryOp) → has_kind (expression (Unary (unary_of o))) ≡ true → Listed (expression (Unary (unary_of o)))
unary_listed unary.Delete h = listed (expression (Unary (unary_of unary.Delete))) refl refl refl
unary_listed unary.Void h = listed (expression (Unary (unary_of unary.Void))) refl refl refl
unary_listed unary.TypeOf h = listed (expression (Unary (unary_of unary.TypeOf))) refl refl refl
unary_listed unary.Positive h = listed (expression (Unary (unary_of unary.Positive))) refl refl refl
unary_listed unary.Negative h = listed (expression (Unary (unary_of unary.Negative))) refl refl refl
unary_listed unary.Complement h = listed (expression (Unary (unary_of unary.Complement))) refl refl refl
unary_listed unary.Not h = listed (expression (Unary (unary_of unary.Not))) refl refl refl

unary_staged : (o : UnaryOp) → has_kind (expression (Unary (unary_of o))) ≡ true
unary_staged unary.Delete = refl
unary_staged unary.Void = refl
unary_staged unary.TypeOf = refl
unary_staged unary.Positive = refl
unary_staged unary.Negative = refl
unary_staged unary.Complement = refl
unary_staged unary.Not = refl

pub opening_staged : (g : Opening) → has_kind (opening_kind g) ≡ true
opening_staged opening.Import = refl
opening_staged opening.New = refl
opening_staged opening.Paren = refl
opening_staged opening.Array = refl
opening_staged opening.Object = refl
opening_staged opening.Function = refl
opening_staged opening.Class = refl
opening_staged opening.Super = refl
opening_staged (opening.Unary o) = unary_staged o
opening_staged (opening.Update o) = refl

pub opening_listed : (g : Opening) → has_kind (opening_kind g) ≡ true → Listed (opening_kind g)
opening_listed opening.Import h = listed (expression ImportCall) refl refl refl
opening_listed opening.New h = listed (expression New) refl refl refl
opening_listed opening.Paren h = listed (expression Parenthesized) refl refl refl
opening_listed opening.Array h = listed (expression Array) refl refl refl
opening_listed opening.Object h = listed (expression Object) refl refl refl
opening_listed opening.Function h = listed (function FunctionExpr) refl refl refl
opening_listed opening.Class h = listed (function ClassExpr) refl refl refl
opening_listed opening.Super h = listed (expression SuperCall) refl refl refl
opening_listed (opening.Unary o) h = unary_listed o h
opening_listed (opening.Update update.Increment) h = listed (expression (PrefixUpdate (step_of update.Increment))) refl refl refl
opening_listed (opening.Update update.Decrement) h = listed (expression (PrefixUpdate (step_of update.Decrement))) refl refl refl

unary_opens : (o : UnaryOp) → grows_on (expression (Unary (unary_of o))) ≡ false
unary_opens unary.Delete = refl
unary_opens unary.Void = refl
unary_opens unary.TypeOf = refl
unary_opens unary.Positive = refl
unary_opens unary.Negative = refl
unary_opens unary.Complement = refl
unary_opens unary.Not = refl

pub opening_opens : (g : Opening) → grows_on (opening_kind g) ≡ false
opening_opens opening.Import = refl
opening_opens opening.New = refl
opening_opens opening.Paren = refl
opening_opens opening.Array = refl
opening_opens opening.Object = refl
opening_opens opening.Function = refl
opening_opens opening.Class = refl
opening_opens opening.Super = refl
opening_opens (opening.Unary o) = unary_opens o
opening_opens (opening.Update o) = refl

sign_code : (g : Opening) → is_code (opening_sign (opening_kind g)) ≡ true
sign_code opening.Import = refl
sign_code opening.New = refl
sign_code opening.Paren = refl
sign_code opening.Array = refl
sign_code opening.Object = refl
sign_code opening.Function = refl
sign_code opening.Class = refl
sign_code opening.Super = refl
sign_code (opening.Unary unary.Delete) = refl
sign_code (opening.Unary unary.Void) = refl
sign_code (opening.Unary unary.TypeOf) = refl
sign_code (opening.Unary unary.Positive) = refl
sign_code (opening.Unary unary.Negative) = refl
sign_code (opening.Unary unary.Complement) = refl
sign_code (opening.Unary unary.Not) = refl
sign_code (opening.Update update.Increment) = refl
sign_code (opening.Update update.Decrement) = refl

pub opening_took : {h : Here} {t : Token} {b : Tokens} (g : Opening) → IsNext Operator h t b → opening_by t.kind (chars t.raw.now) ≡ Some g → Took h (opening_sign (opening_kind g)) t b
opening_took {h} {t} g e is = took (next_token Operator h).rest (opening_sign (opening_kind g)) (sign_code g) e (opening_fits t.kind (chars t.raw.now) (next_token Operator h).rest g e.spelled is).sign
