-- The code's states and the automata's.
use Rattle.std.proofs.Common.{◌≡◌, ℕ, ◌∷◌, Bool, false, cond, refl, sym, ap, subst}
use Rattle.jsx_base.specs.Token.{Text, State as Taken, step, is_dead, left, last_state}
use Rattle.jsx_lex.specs.declared.automaton.Number.{Number}
use Rattle.jsx_lex.specs.declared.automaton.Number.TheVariants as number
use Rattle.jsx_lex.specs.declared.automaton.Quoted.{Quoted}
use Rattle.jsx_lex.specs.declared.automaton.Quoted.TheVariants as quoted
use Rattle.jsx_lex.specs.declared.automaton.RegExp.{RegExp}
use Rattle.jsx_lex.specs.declared.automaton.RegExp.TheVariants as regexp
use Rattle.jsx_lex.specs.declared.automaton.Template.{Template}
use Rattle.jsx_lex.specs.declared.automaton.Template.TheVariants as template
use Rattle.jsx_lex.specs.declared.automaton.State.{State}
use Rattle.jsx_lex.specs.declared.automaton.State.TheVariants as state
use Rattle.jsx_lex.specs.Automaton.{state_of, number_state, quoted_state, regexp_state, template_state}

number_lives : (n : Number) → is_dead (number_state n) ≡ false
number_lives number.BehindZero = refl
number_lives (number.InDigits b) = refl
number_lives number.BehindPoint = refl
number_lives (number.InFraction b) = refl
number_lives number.BehindE = refl
number_lives number.BehindSign = refl
number_lives (number.InExponent b) = refl
number_lives (number.InBase d b) = refl
number_lives number.BehindN = refl

quoted_lives : (q : ℕ) (s : Quoted) → is_dead (quoted_state q s) ≡ false
quoted_lives q quoted.InBody = refl
quoted_lives q quoted.InEscape = refl
quoted_lives q (quoted.InHex n) = refl
quoted_lives q quoted.InUnicode = refl
quoted_lives q (quoted.InBraces b v) = refl
quoted_lives q quoted.BehindNul = refl
quoted_lives q quoted.BehindCr = refl
quoted_lives q quoted.Closed = refl

regexp_lives : (r : RegExp) → is_dead (regexp_state r) ≡ false
regexp_lives regexp.AtStart = refl
regexp_lives (regexp.InBody b) = refl
regexp_lives (regexp.InEscape b) = refl
regexp_lives regexp.InFlags = refl

template_lives : (b : Bool) (t : Template) → is_dead (template_state b t) ≡ false
template_lives b template.InBody = refl
template_lives b template.InEscape = refl
template_lives b template.BehindDollar = refl
template_lives b template.Closed = refl
template_lives b template.Substituted = refl

pub lives : (s : State) → (s ≡ state.Dead → ⊥) → is_dead (state_of s) ≡ false
lives state.Dead n = absurd (n refl)
lives (state.Number x) n = number_lives x
lives (state.Quoted q s) n = quoted_lives q s
lives (state.RegExp r) n = regexp_lives r
lives (state.Template b t) n = template_lives b t

pub record Runs (s t : Taken) (whole text : Text) : Type 0 where
  pub rest_is : left t text ≡ left s whole
  pub last_is : last_state t text ≡ last_state s whole

-- a character further
pub further : (s t : Taken) (c : ℕ) (whole text : Text) → whole ≡ c ∷ text → t ≡ step s c → is_dead t ≡ false → Runs s t whole text
further s t c whole text w e n =
    let m : is_dead (step s c) ≡ false = subst (λ x. is_dead x ≡ false) e n in
    subst (λ x. Runs s t x text) (sym w)
    (subst (λ x. Runs s x (c ∷ text) text) (sym e)
    (record {
      rest_is = sym (ap (λ b. cond b (c ∷ text) (left (step s c) text)) m);
      last_is = sym (ap (λ b. cond b s (last_state (step s c) text)) m);
    }))
