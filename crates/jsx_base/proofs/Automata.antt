-- A token is read again where what follows doesn't go on with it: one law for all kinds of token.
use Rattle.std.proofs.Common.{◌≡◌, [], ◌∷◌, ◌++◌, Bool, true, false, cond, sym, refl, ap, ◌∙◌, subst}
use Rattle.std.proofs.lemmas.Bool.{false≢true}
use Rattle.jsx_base.specs.Token.{Text}
use Rattle.jsx_base.specs.Token.{State, step, is_dead, taken, left, last_state}

-- the state takes every character of the text
abbrev pub runs : State → Text → Bool
runs s [] = true
runs s (c ∷ text) = cond (is_dead (step s c)) false (runs (step s c) text)

abbrev pub stops : State → Text → Bool
stops s [] = true
stops s (c ∷ text) = is_dead (step s c)

pub record Read (s : State) (raw rest : Text) : Type 0 where
  pub takes_it : taken s (raw ++ rest) ≡ raw
  pub leaves : left s (raw ++ rest) ≡ rest
  pub state_is : last_state s (raw ++ rest) ≡ last_state s raw

stopped : (s : State) (rest : Text) → stops s rest ≡ true → Read s [] rest
stopped s [] h = record { takes_it = refl; leaves = refl; state_is = refl }
stopped s (c ∷ rest) h = record {
  takes_it = ap (λ b. cond b [] (c ∷ taken (step s c) rest)) h;
  leaves = ap (λ b. cond b (c ∷ rest) (left (step s c) rest)) h;
  state_is = ap (λ b. cond b s (last_state (step s c) rest)) h;
}

-- what `runs` says at a character
alive : (b : Bool) (r : Bool) → cond b false r ≡ true → b ≡ false
alive true r h = absurd (false≢true h)
alive false r h = refl

goes : (b : Bool) (r : Bool) → cond b false r ≡ true → r ≡ true
goes true r h = absurd (false≢true h)
goes false r h = h

pub read_on : (s : State) (raw rest : Text) → runs s raw ≡ true → stops (last_state s raw) rest ≡ true → Read s raw rest
read_on s [] rest h e = stopped s rest e
read_on s (c ∷ raw) rest h e =
    let a : is_dead (step s c) ≡ false = alive _ _ h in
    let f : last_state s (c ∷ raw) ≡ last_state (step s c) raw = ap (λ b. cond b s (last_state (step s c) raw)) a in
    let r : Read (step s c) raw rest = read_on (step s c) raw rest (goes _ _ h) (subst (λ x. stops x rest ≡ true) f e) in
    record {
      takes_it = ap (λ b. cond b [] (c ∷ taken (step s c) (raw ++ rest))) a ∙ ap (λ x. c ∷ x) r.takes_it;
      leaves = ap (λ b. cond b (c ∷ (raw ++ rest)) (left (step s c) (raw ++ rest))) a ∙ r.leaves;
      state_is = ap (λ b. cond b s (last_state (step s c) (raw ++ rest))) a ∙ (r.state_is ∙ sym f);
    }
