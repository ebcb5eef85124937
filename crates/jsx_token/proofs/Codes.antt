-- A token of code that begins with neither `/` nor `<` is the same where an expression may begin, and so is `<` alone.
use Rattle.std.proofs.Common.{◌≡◌, ℕ, [], ◌∷◌, ◌++◌, Bool, true, false, cond, ◌||◌, ◌&&◌, codes, refl, sym, ap, ◌∙◌, subst}
use Rattle.std.specs.Prelude.{nat_eq}
use Rattle.std.specs.Str.{chars}
use Rattle.std.proofs.lemmas.Bool.{false≢true, and_from, eqb-true, eq-eqb, true_from_ne_false}
use Rattle.jsx_base.specs.Token.{Text, Operand, Operator, Punctuator, NoToken, NoSubstitution, TemplateHead, is_kind, kind_number, State, Dead, Done, InName, BehindZero, InDigits, InFraction, InString, InPiece, AtRegExp, first_is, is_start, is_digit, is_dead, is_token, begins, same, skip, breaks, code_state, Lexeme, no_token, lexed, at_front}
use Rattle.jsx_lex.specs.declared.lexer.Lexer.{Lexer as Tokens}
use Rattle.jsx_lex.specs.declared.token.Token.{Token}
use Rattle.jsx_lex.specs.declared.token.TokenKind.TheVariants as token_kind
use Rattle.jsx_lex.specs.Kinds.{kind_of, is_punctuator, spelling}
use Rattle.jsx_lex.proofs.Raws.{whole}
use Rattle.jsx_token.specs.Here.{Here}
use Rattle.jsx_token.specs.Seen.{IsNext, next_token}
use Rattle.jsx_token.proofs.Alone.{lexed_by, alive}
use Rattle.jsx_base.proofs.Fronts.{other_ahead}
use Rattle.jsx_tree.proofs.Tokens.{same_self}

-- ---- the same state, and the same token

abbrev with_marks : ℕ → Text → Bool → Bool → State
with_marks c text slash less =
    cond (is_start c) InName (cond (nat_eq c 48) BehindZero (cond (is_digit c) (InDigits true) (cond (nat_eq c 46 && first_is is_digit text) (InFraction false)
    (cond (nat_eq c 34 || nat_eq c 39) (InString c) (cond (nat_eq c 96) (InPiece NoSubstitution TemplateHead) (cond slash AtRegExp (cond less (Done Punctuator) Dead)))))))

same_state : (c : ℕ) (text : Text) → nat_eq c 47 ≡ false → nat_eq c 60 ≡ false → code_state true c text ≡ code_state false c text
same_state c text s l = ap (λ b. with_marks c text b (nat_eq c 60)) s ∙ ap (λ b. with_marks c text false b) l

same_dead : (s : State) (c : ℕ) (text : Text) → is_dead s ≡ true → lexed Operand Dead c text ≡ lexed Operator s c text
same_dead s c text d = lexed_by (λ y. lexed Operand Dead c text ≡ y) Operator s c text (λ _. refl) (λ n. absurd (false≢true (sym n ∙ d)))

same_lexed : (s : State) (c : ℕ) (text : Text) → lexed Operand s c text ≡ lexed Operator s c text
same_lexed s c text = lexed_by (λ y. y ≡ lexed Operator s c text) Operand s c text (same_dead s c text) (λ n. sym (alive Operator s c text n))

abbrev is_html : Bool → ℕ → Text → Bool
is_html f c text = begins (codes "<!--") (c ∷ text) || (f && begins (codes "-->") (c ∷ text))

same_front : (f : Bool) (c : ℕ) (text : Text) → nat_eq c 47 ≡ false → nat_eq c 60 ≡ false → at_front Operand f (c ∷ text) ≡ at_front Operator f (c ∷ text)
same_front f c text s l =
    ap (λ z. cond (is_html f c text) (no_token (c ∷ text)) (lexed Operand z c text)) (same_state c text s l)
    ∙ ap (λ x. cond (is_html f c text) (no_token (c ∷ text)) x) (same_lexed (code_state false c text) c text)

-- ---- `<` alone

abbrev less : Text → Lexeme
less text = record { kind = Punctuator; raw = 60 ∷ []; rest = text }

done_less : (text : Text) → lexed Operand (Done Punctuator) 60 text ≡ less text
done_less [] = refl
done_less (c ∷ text) = refl

abbrev behind : Text → Text
behind [] = []
behind (c ∷ text) = text

less_front : (f : Bool) (text : Text) (b : Bool) → is_html f 60 text ≡ b → cond b NoToken Punctuator ≡ Punctuator → at_front Operand f (60 ∷ text) ≡ less text
less_front f text true e k = absurd (false≢true (ap (λ j. is_kind j NoToken) (sym k)))
less_front f text false e k = ap (λ b. cond b (no_token (60 ∷ text)) (lexed Operand (Done Punctuator) 60 text)) e ∙ done_less text

html_kind : (f : Bool) (text : Text) (b : Bool) → is_html f 60 text ≡ b → (at_front Operator f (60 ∷ text)).kind ≡ Punctuator → cond b NoToken Punctuator ≡ Punctuator
html_kind f text true e k = sym (ap (λ b. (cond b (no_token (60 ∷ text)) (lexed Operator Dead 60 text)).kind) e) ∙ k
html_kind f text false e k = refl

less_parts : (x : Lexeme) (text : Text) → x.kind ≡ Punctuator → x.raw ≡ 60 ∷ [] → x.raw ++ x.rest ≡ 60 ∷ text → x ≡ less text
less_parts x text k r e =
    let rest : x.rest ≡ text = ap behind (ap (λ t. t ++ x.rest) (sym r) ∙ e) in
    λ i. record { kind = k i; raw = r i; rest = rest i }

same_less : (f : Bool) (text : Text) → (at_front Operator f (60 ∷ text)).kind ≡ Punctuator → (at_front Operator f (60 ∷ text)).raw ≡ 60 ∷ [] → at_front Operand f (60 ∷ text) ≡ at_front Operator f (60 ∷ text)
same_less f text k r =
    less_front f text (is_html f 60 text) refl (html_kind f text (is_html f 60 text) refl k)
    ∙ sym (less_parts (at_front Operator f (60 ∷ text)) text k r (whole Operator f (60 ∷ text) (ap (λ j. is_kind j NoToken) k)))

-- ---- for what comes next

-- the first character of a token's text is its text's
begins_so : (f : Bool) (text t : Text) (d : ℕ) → first_is (nat_eq d) t ≡ true → (at_front Operator f text).raw ≡ t → first_is (nat_eq d) text ≡ true
begins_so f text [] d h r = absurd (false≢true h)
begins_so f text (e ∷ t) d h r = true_from_ne_false (first_is (nat_eq d) text) (λ n.
    let x : Lexeme = at_front Operator f text in
    let is : is_token x x.kind (d ∷ t) ≡ true =
    and_from _ _ (eq-eqb (kind_number x.kind) (kind_number x.kind) refl) (subst (λ u. same u (d ∷ t) ≡ true) (sym (r ∙ ap (λ y. y ∷ t) (sym (eqb-true d e h)))) (same_self (d ∷ t))) in
    false≢true (sym ((other_ahead x.kind d t Operator text n).not_it f) ∙ is))

alike_at : (f : Bool) (text : Text) (c : ℕ) → first_is (nat_eq c) text ≡ true → nat_eq c 47 ≡ false → nat_eq c 60 ≡ false → at_front Operand f text ≡ at_front Operator f text
alike_at f [] c h s l = absurd (false≢true h)
alike_at f (d ∷ text) c h s l =
    let e : c ≡ d = eqb-true c d h in
    same_front f d text (subst (λ x. nat_eq x 47 ≡ false) e s) (subst (λ x. nat_eq x 60 ≡ false) e l)

less_at : (f : Bool) (text : Text) → first_is (nat_eq 60) text ≡ true → (at_front Operator f text).kind ≡ Punctuator → (at_front Operator f text).raw ≡ 60 ∷ [] → at_front Operand f text ≡ at_front Operator f text
less_at f [] h k r = absurd (false≢true h)
less_at f (d ∷ text) h k r =
    subst (λ x. (at_front Operator f (x ∷ text)).kind ≡ Punctuator → (at_front Operator f (x ∷ text)).raw ≡ 60 ∷ [] → at_front Operand f (x ∷ text) ≡ at_front Operator f (x ∷ text)) (eqb-true 60 d h) (same_less f text) k r

serves_by : {h : Here} {t : Token} {b : Tokens} → IsNext Operator h t b → next_token Operand h ≡ next_token Operator h → IsNext Operand h t b
serves_by n e = record {
  kind = n.kind ∙ ap (λ x. x.kind) (sym e);
  raw = n.raw ∙ ap (λ x. x.raw) (sym e);
  spelled = n.spelled;
  rest = n.rest ∙ ap (λ x. x.rest) (sym e);
  line = λ s. n.line refl;
  end = λ s. n.end refl;
  read = n.read;
  unsettled = n.unsettled;
}

pub serves_code : {h : Here} {t : Token} {b : Tokens} (c : ℕ) → first_is (nat_eq c) (chars t.raw.now) ≡ true → nat_eq c 47 ≡ false → nat_eq c 60 ≡ false → IsNext Operator h t b → IsNext Operand h t b
serves_code {h} {t} c i s l n =
    let f : Bool = same h.last [] || breaks h.rest in
    serves_by n (alike_at f (skip h.rest) c (begins_so f (skip h.rest) (chars t.raw.now) c i (sym n.raw)) s l)

pub serves_less : {h : Here} {t : Token} {b : Tokens} → t.kind ≡ token_kind.Less → IsNext Operator h t b → IsNext Operand h t b
serves_less {h} {t} k n =
    let f : Bool = same h.last [] || breaks h.rest in
    let raw : chars t.raw.now ≡ 60 ∷ [] = n.spelled (ap is_punctuator k) ∙ ap spelling k in
    serves_by n (less_at f (skip h.rest) (begins_so f (skip h.rest) (chars t.raw.now) 60 (ap (first_is (nat_eq 60)) raw) (sym n.raw)) (sym n.kind ∙ ap kind_of k) (sym n.raw ∙ raw))
