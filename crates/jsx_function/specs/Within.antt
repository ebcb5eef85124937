-- What the function keeps that reads what stands within an expression, before it is known whether it is one: it may be called where less than a bound is left.
use Rattle.std.specs.Prelude.{◌≡◌, ◌<◌, ℕ, Result, IfOk, OnOk, IsTrue}
use denote.Ref.{MutBor}
use Rattle.jsx_token.specs.Here.{Here, left, place_of}
use Rattle.jsx_token.specs.Growths.{closed, is_level}
use Rattle.jsx_token.specs.Places.{end_of, next_of}
use Rattle.jsx_make.specs.NodeSpans.{expr_at}
use Rattle.jsx_operand.specs.declared.around.Context.{Context}
use Rattle.jsx_operand.specs.declared.error.ParseError.{ParseError}
use Rattle.jsx_operand.specs.Answers.{Refused}
use Rattle.jsx_operand.specs.Around.{around_of}
use Rattle.jsx_operand.specs.Spans.{Spans}
use Rattle.jsx_operand.specs.declared.cover.Cover.{Cover}
use Rattle.jsx_function.specs.Covers.{IsCover, IsPlacedCover, NoCover, Settles}

pub record ReadsWithin {B : Type 0} (bound : ℕ) (pre : Context → MutBor Here → ℕ → B → Type 0)
    (post : Context → MutBor Here → ℕ → B → Result Cover ParseError → MutBor Here → Type 0) (body : B) : Type 0 where
  pub callable : (c : Context) (x : MutBor Here) (level : ℕ) → left x.now < bound → IsTrue (is_level level) → pre c x level body
  pub read : (c : Context) (x y : MutBor Here) (level : ℕ) (r : Result Cover ParseError) → post c x level body r y
      → IfOk r (λ e. IsCover (around_of c.around) level (place_of x.now) e (place_of y.now))
  pub span : (c : Context) (x y : MutBor Here) (level : ℕ) (r : Result Cover ParseError) → post c x level body r y
      → IfOk r (λ e. Spans (expr_at e.expr.value) (next_of x.now) (end_of y.now))
  pub placed : (c : Context) (x y : MutBor Here) (level : ℕ) (r : Result Cover ParseError) → post c x level body r y
      → IfOk r (λ e. IsPlacedCover e x.now y.now)
  pub shorter : (c : Context) (x y : MutBor Here) (level : ℕ) (r : Result Cover ParseError) → post c x level body r y
      → OnOk r (left y.now < left x.now)
  pub ended : (c : Context) (x y : MutBor Here) (level : ℕ) (r : Result Cover ParseError) → post c x level body r y
      → OnOk r (IsTrue (closed (place_of y.now)))
  pub settles : (c : Context) (x y : MutBor Here) (level : ℕ) (r : Result Cover ParseError) → post c x level body r y
      → OnOk r (Settles level (place_of y.now))
  pub refused : (c : Context) (x y : MutBor Here) (level : ℕ) (r : Result Cover ParseError) → post c x level body r y
      → Refused c.levels r (NoCover (around_of c.around) level (place_of x.now))
