-- What the function keeps that reads the statements within another: it may be called where less than a bound is left.
use Rattle.std.specs.Prelude.{◌<◌, ℕ, Result, Box, IfOk, OnOk}
use Rattle.std.specs.Global.{Global}
use denote.Ref.{MutBor}
use Rattle.jsx_tree.specs.Grammar.{Part}
use Rattle.jsx_tree.specs.Walk.{one}
use Rattle.jsx_tree.specs.Answers.{Only, Barred}
use Rattle.jsx_tree.specs.View.{view_stmt}
use Rattle.jsx_tree.specs.Told.{told_stmt}
use Rattle.jsx_tree.specs.declared.tree.Stmt.{Stmt}
use Rattle.jsx_token.specs.Here.{Here, left, place_of}
use Rattle.jsx_token.specs.Places.{end_of, next_of}
use Rattle.jsx_make.specs.NodeSpans.{stmt_at}
use Rattle.jsx_operand.specs.declared.around.Context.{Context}
use Rattle.jsx_operand.specs.declared.error.ParseError.{ParseError}
use Rattle.jsx_operand.specs.Answers.{Refused}
use Rattle.jsx_operand.specs.Around.{around_of}
use Rattle.jsx_operand.specs.SoFar.{so_far}
use Rattle.jsx_operand.specs.Spans.{IsPlaced, Spans}
use Rattle.jsx_statement.specs.declared.statement.Seat.{Seat}
use Rattle.jsx_statement.specs.Seats.{symbol_of}

pub record ReadsStatements (bound : ℕ) (pre : Context → MutBor Here → Seat → Type 0)
    (post : Context → MutBor Here → Seat → Result (Box Stmt Global) ParseError → MutBor Here → Type 0) : Type 0 where
  pub callable : (c : Context) (x : MutBor Here) (seat : Seat) → left x.now < bound → pre c x seat
  pub read : (c : Context) (x y : MutBor Here) (seat : Seat) (r : Result (Box Stmt Global) ParseError) → post c x seat r y
      → IfOk r (λ s. Only so_far (around_of c.around) (Part (symbol_of seat)) (place_of x.now) (one (view_stmt s.value)) (place_of y.now))
  pub span : (c : Context) (x y : MutBor Here) (seat : Seat) (r : Result (Box Stmt Global) ParseError) → post c x seat r y
      → IfOk r (λ s. Spans (stmt_at s.value) (next_of x.now) (end_of y.now))
  pub placed : (c : Context) (x y : MutBor Here) (seat : Seat) (r : Result (Box Stmt Global) ParseError) → post c x seat r y
      → IfOk r (λ s. IsPlaced (told_stmt s.value) (view_stmt s.value) x.now y.now)
  pub shorter : (c : Context) (x y : MutBor Here) (seat : Seat) (r : Result (Box Stmt Global) ParseError) → post c x seat r y
      → OnOk r (left y.now < left x.now)
  pub refused : (c : Context) (x y : MutBor Here) (seat : Seat) (r : Result (Box Stmt Global) ParseError) → post c x seat r y
      → Refused c.levels r (Barred so_far (around_of c.around) (Part (symbol_of seat)) (place_of x.now))
