-- Where a lexer stands before and behind a gap and a token.
use Rattle.std.proofs.Common.{◌≡◌, ℕ, [], ◌∷◌, ◌++◌, Bool, true, false, cond, not, ◌||◌, ◌&&◌, refl, sym, ap, ◌∙◌}
use Rattle.std.specs.Prelude.{IsTrue}
use Rattle.std.proofs.lemmas.Bool.{false≢true}
use Rattle.std.proofs.lemmas.List.{append_cancel_right}
use Rattle.jsx_base.specs.Token.{Text, Mode, Lexeme, Gap, Blank, gap_next, is_over, behind_gap, is_cut, skip, breaks, skips, token, at_front, is_end, same}
use Rattle.jsx_lex.specs.declared.token.TokenKind.{TokenKind}
use Rattle.jsx_lex.specs.declared.lexer.Lexer.{Lexer}
use Rattle.jsx_lex.specs.Front.{IsNext}
use Rattle.jsx_lex.specs.Gaps.{IsBehind}
use Rattle.jsx_lex.specs.Kinds.{is_punctuator, spelling}
use Rattle.jsx_lex.specs.Stand.{rest_of, is_fresh, IsNothing}
use Rattle.jsx_lex.proofs.Gaps.{without_gap, not_cut, over_is}

-- a gap that isn't closed goes to the text's end

cut_at : (b : Bool) (g : Gap) (c : ℕ) (text : Text) → is_over g ≡ b → is_cut g text ≡ true → behind_gap g text ≡ [] → cond b (c ∷ text) (behind_gap g text) ≡ []
cut_at true g c text o h e = absurd (false≢true (sym (ap (λ x. is_cut x text) (over_is g o) ∙ not_cut text) ∙ h))
cut_at false g c text o h e = e

cut_over : (g : Gap) (text : Text) → is_cut g text ≡ true → behind_gap g text ≡ []
cut_over g [] h = refl
cut_over g (c ∷ text) h = cut_at (is_over (gap_next g c text)) (gap_next g c text) c text refl h (cut_over (gap_next g c text) text h)

by_skipping : (m : Mode) (f : Bool) (text : Text) → skips m ≡ true → token m f text ≡ at_front m (f || breaks text) (skip text)
by_skipping m f text h = ap (λ b. cond b (at_front m (f || breaks text) (skip text)) (at_front m false text)) h

and_false : (b : Bool) → (b && not true) ≡ false
and_false true = refl
and_false false = refl

pub nothing_is : (m : Mode) (l : Lexer) → skips m ≡ true → is_cut Blank (rest_of l) ≡ true → IsNothing m l
nothing_is m l h c = record {
  none = ap (λ x. x.kind) (by_skipping m (is_fresh l) (rest_of l) h ∙ ap (at_front m (is_fresh l || breaks (rest_of l))) (cut_over Blank (rest_of l) c));
  more = ap (λ b. cond b (is_end (rest_of l)) (same (rest_of l) [])) h ∙ (ap (λ b. same (skip (rest_of l)) [] && not b) c ∙ and_false (same (skip (rest_of l)) []));
}

-- what was settled

pub or_then : (a b c : Bool) → a ≡ true → c ≡ true → c ≡ (a || b)
or_then a b c h k = k ∙ ap (λ x. x || b) (sym h)

pub or_else : (a b c : Bool) → a ≡ false → c ≡ b → c ≡ (a || b)
or_else a b c h k = k ∙ ap (λ x. x || b) (sym h)

or_false : (b : Bool) → (b || false) ≡ b
or_false true = refl
or_false false = refl

or_assoc : (a b c : Bool) → (a || (b || c)) ≡ ((a || b) || c)
or_assoc true b c = refl
or_assoc false b c = refl

pub same_token : (m : Mode) (a b c : Bool) (text rest : Text) → IsTrue (skips m) → rest ≡ skip text → IsBehind rest → c ≡ (b || breaks text) → token m (a || c) rest ≡ token m (a || b) text
same_token m a b c text rest h e w k =
    let n = without_gap rest w in
    let flag : ((a || c) || breaks rest) ≡ ((a || b) || breaks text) =
    ap (λ x. (a || c) || x) n.breaks_are ∙ (or_false (a || c) ∙ (ap (λ x. a || x) k ∙ or_assoc a b (breaks text))) in
    by_skipping m (a || c) rest h ∙ (ap (λ x. at_front m x (skip rest)) flag ∙ (ap (at_front m ((a || b) || breaks text)) (n.rest_is ∙ e) ∙ sym (by_skipping m (a || b) text h)))

-- what was read

pub raw_is : (m : Mode) (f : Bool) (text : Text) (k : TokenKind) (rest raw : Text) (x : Lexeme) → IsNext m f text k rest → text ≡ raw ++ rest → x ≡ at_front m f text → raw ≡ x.raw
raw_is m f text k rest raw x n e h = append_cancel_right raw (at_front m f text).raw rest (sym e ∙ n.raw_is) ∙ sym (ap (λ y. y.raw) h)

pub spelled : (m : Mode) (f : Bool) (text : Text) (k : TokenKind) (rest raw : Text) → IsNext m f text k rest → text ≡ raw ++ rest → IsTrue (is_punctuator k) → raw ≡ spelling k
spelled m f text k rest raw n e h = append_cancel_right raw (at_front m f text).raw rest (sym e ∙ n.raw_is) ∙ n.spelled h
