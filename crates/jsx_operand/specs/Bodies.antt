-- The body of a function, and what the function keeps that reads the bodies within an expression: it may be called where less than a bound is left.
use Rattle.std.specs.Prelude.{◌<◌, ◌≤◌, ℕ, List, [], ◌∷◌, Result, IfOk, OnOk, map}
use denote.Ref.{MutBor}
use Rattle.jsx_tree.specs.Signs.{Indent, Outdent}
use Rattle.jsx_tree.specs.Kinds.{Tree, none, part}
use Rattle.jsx_tree.specs.Nonterminals as grammar
use Rattle.jsx_tree.specs.Grammar.{Part, Production, p}
use Rattle.jsx_tree.specs.Grammar as symbol
use Rattle.jsx_tree.specs.Walk.{Piece, pieces}
use Rattle.jsx_tree.specs.Answers.{OnlyRow, NoRow}
use Rattle.jsx_tree.specs.View.{body, inside, view_stmt}
use Rattle.jsx_tree.specs.Spans.{Told, no_tales, tale}
use Rattle.jsx_tree.specs.Told.{told_body, told_stmt}
use Rattle.jsx_token.specs.Here.{Here, left, place_of}
use Rattle.jsx_operand.specs.declared.around.Context.{Context}
use Rattle.jsx_operand.specs.declared.body.Body.{Body}
use Rattle.jsx_operand.specs.declared.error.ParseError.{ParseError}
use Rattle.jsx_operand.specs.Answers.{Refused}
use Rattle.jsx_operand.specs.Around.{around_of}
use Rattle.jsx_operand.specs.SoFar.{so_far}
use Rattle.jsx_operand.specs.Spans.{IsPlacedRow}

abbrev pub view_body : Body → Tree
view_body b = body b.directives.items (map (inside view_stmt) b.statements.items)

abbrev pub told_of : Body → Told
told_of b = told_body b.directives.items (map (inside told_stmt) b.statements.items)

-- the row of a body, behind its `{`
abbrev pub body_symbols : Production
body_symbols = symbol.Fixed Indent ∷ Part grammar.Body ∷ symbol.Fixed Outdent ∷ p "}" ∷ []

abbrev pub body_row : List Piece
body_row = pieces [] body_symbols

-- It reads a body behind its `{`, with its `}`: only that token tells where it ends.
pub record ReadsBodies (bound : ℕ) (pre : Context → MutBor Here → Type 0)
    (post : Context → MutBor Here → Result Body ParseError → MutBor Here → Type 0) : Type 0 where
  pub callable : (c : Context) (x : MutBor Here) → left x.now < bound → pre c x
  pub read : (c : Context) (x y : MutBor Here) (r : Result Body ParseError) → post c x r y
      → IfOk r (λ b. OnlyRow so_far (around_of c.around) body_row (place_of x.now) (part (view_body b) none) (place_of y.now))
  pub placed : (c : Context) (x y : MutBor Here) (r : Result Body ParseError) → post c x r y
      → IfOk r (λ b. IsPlacedRow body_symbols (tale (told_of b) no_tales) (part (view_body b) none) x.now y.now)
  pub within : (c : Context) (x y : MutBor Here) (r : Result Body ParseError) → post c x r y
      → OnOk r (left y.now ≤ left x.now)
  pub refused : (c : Context) (x y : MutBor Here) (r : Result Body ParseError) → post c x r y
      → Refused c.levels r (NoRow so_far (around_of c.around) body_row (place_of x.now))
