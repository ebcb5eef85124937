-- A guard before a token: whether `=>` comes next.
use Rattle.std.proofs.Common.{◌≡◌, ℕ, Bool, true, false, cond, not, [], ◌∷◌, refl, sym, ◌∙◌, ap}
use Rattle.std.specs.Prelude.{codes, ◌||◌, ◌&&◌}
use Rattle.std.specs.Str.{chars}
use Rattle.jsx_base.specs.Token.{Text, Operator, TokenKind, NoToken, NumericLiteral, BigIntLiteral, Lexeme, State, Dead, accepts, last_state, taken, left, no_token, ended, punct, punctuator, lexed, at_front, token, same, begins, first_is, is_start, is_digit, skip, breaks, state}
use Rattle.jsx_tree.specs.Signs.{Ending, AfterExpr, Unless}
use Rattle.jsx_tree.specs.Reading.{Lost, At, forth}
use Rattle.jsx_lex.specs.declared.lexer.Lexer.{Lexer as Tokens}
use Rattle.jsx_lex.specs.declared.token.Token.{Token}
use Rattle.jsx_token.specs.Here.{Here, place_of}
use Rattle.jsx_token.specs.Seen.{IsNext, NoNext, next_token}
use Rattle.jsx_token.specs.Growths.{settled}
use Rattle.jsx_tree.proofs.Rows.Stopping.{is_not}

-- ---- what is no token has no text

abbrev Bare : Lexeme → Type 0
Bare x = x.kind ≡ NoToken → x.raw ≡ []

cond_bare : (b : Bool) (x y : Lexeme) → Bare x → Bare y → Bare (cond b x y)
cond_bare true x y a b = a
cond_bare false x y a b = b

ended_bare : (k : TokenKind) (raw rest : Text) → Bare (ended k raw rest)
ended_bare NoToken raw rest = λ e. refl
ended_bare NumericLiteral raw rest = cond_bare (first_is is_start rest || first_is is_digit rest) (no_token rest) (record { kind = NumericLiteral; raw = raw; rest = rest }) (λ e. refl) (λ e. cc)
ended_bare BigIntLiteral raw rest = cond_bare (first_is is_start rest || first_is is_digit rest) (no_token rest) (record { kind = BigIntLiteral; raw = raw; rest = rest }) (λ e. refl) (λ e. cc)
ended_bare _ raw rest = λ e. cc

punct_bare : (q text : Text) → Bare (punct q text)
punct_bare [] text = λ e. refl
punct_bare (c ∷ q) text = λ e. cc

lexed_bare : (s : State) (c : ℕ) (text : Text) → Bare (lexed Operator s c text)
lexed_bare Dead c text = punct_bare (punctuator (c ∷ text)) (c ∷ text)
lexed_bare s c text = ended_bare (accepts (last_state s text)) (c ∷ taken s text) (left s text)

front_bare : (f : Bool) (text : Text) → Bare (at_front Operator f text)
front_bare f [] = λ e. refl
front_bare f (c ∷ text) = cond_bare (begins (codes "<!--") (c ∷ text) || (f && begins (codes "-->") (c ∷ text))) (no_token (c ∷ text)) (lexed Operator (state Operator c text) c text) (λ e. refl) (lexed_bare (state Operator c text) c text)

pub none_ahead : {h : Here} → NoNext Operator h → false ≡ same (next_token Operator h).raw (codes "=>")
none_ahead {h} n = ap (λ t. same t (codes "=>")) (sym (front_bare (same h.last [] || breaks h.rest) (skip h.rest) n.none))

pub one_ahead : {h : Here} {t : Token} {b : Tokens} → IsNext Operator h t b → same (chars t.raw.now) (codes "=>") ≡ same (next_token Operator h).raw (codes "=>")
one_ahead n = ap (λ t. same t (codes "=>")) n.raw

-- ---- the guard

not_first : (h : Here) → settled (place_of h) ≡ true → false ≡ same h.last []
not_first h s = at h.last h.ending s
  where
    at : (q : Text) (e : Ending) → settled (At q e h.rest) ≡ true → false ≡ same q []
    at q AfterExpr s = sym (is_not (same q []) s)
    at q _ s = cc

guarded : (h : Here) → settled (place_of h) ≡ true → (b : Bool) → same (next_token Operator h).raw (codes "=>") ≡ b → forth (Unless (codes "=>" ∷ [])) (place_of h) ≡ cond (not (b || false)) (place_of h) Lost
guarded h s b e = ap (λ f. cond (not (same (token Operator f h.rest).raw (codes "=>") || false)) (place_of h) Lost) (not_first h s) ∙ ap (λ c. cond (not (c || false)) (place_of h) Lost) e

pub an_arrow : (h : Here) → settled (place_of h) ≡ true → same (next_token Operator h).raw (codes "=>") ≡ true → forth (Unless (codes "=>" ∷ [])) (place_of h) ≡ Lost
an_arrow h s e = guarded h s true e

pub no_arrow : (h : Here) → settled (place_of h) ≡ true → same (next_token Operator h).raw (codes "=>") ≡ false → forth (Unless (codes "=>" ∷ [])) (place_of h) ≡ place_of h
no_arrow h s e = guarded h s false e
