-- What a tree declares in the scopes around it, as its events say: no scope is looked for, and none is left.
use Rattle.std.specs.Prelude.{ℕ, suc, List, [], ◌∷◌, ◌++◌, Bool, true, false, cond}
use Rattle.jsx_base.specs.Token.{TokenKind, Text, IdentifierName}
use Rattle.jsx_tree.specs.Kinds.{Kind, Tree, leaf, node, list, Forest, none, part}
use Rattle.jsx_tree.specs.Form.{Position, position, positions}
use Rattle.jsx_tree.specs.Scopes.{Path, below}
use Rattle.jsx_names.specs.Events.{Frame, Mode, Binding, is_head, mode, is_scope, frame, has_scope, inner, is_inner}
use Rattle.jsx_names.specs.Answers.{reaches, Named, named}

-- those that are declared outside of these scopes too
abbrev pub passing : List Frame → List Named → List Named
passing fs [] = []
passing fs (d ∷ ds) = cond (reaches d.is.sort fs) (d ∷ []) [] ++ passing fs ds

-- what is declared in a scope, as the scopes around it have it
abbrev pub held : Bool → Frame → List Named → List Named
held b f ds = cond b (passing (f ∷ []) ds) ds

abbrev pub given_leaf : Mode → Path → TokenKind → Text → List Named
given_leaf (Binding w r) p IdentifierName t = named (is_head w) r t p ∷ []
given_leaf m p s t = []

abbrev mutual
  pub given : Mode → Kind → Path → Tree → List Named
  given m q p (leaf s t) = given_leaf m p s t
  given m q p (node k cs) = held (is_scope q k) (frame k) (given_parts false m k p 0 (positions k) cs ++ held (has_scope k) (inner k) (given_parts true m k p 0 (positions k) cs))
  given m q p (list ts) = given_each m q p 0 ts

  pub given_parts : Bool → Mode → Kind → Path → ℕ → List Position → Forest → List Named
  given_parts b m k p i [] ts = []
  given_parts b m k p i (s ∷ ss) none = []
  given_parts true m k p i (position f c g o a ∷ ss) (part t ts) = cond (is_inner k c) (given (mode m k c) k (below p i) t) [] ++ given_parts true m k p (suc i) ss ts
  given_parts false m k p i (position f c g o a ∷ ss) (part t ts) = cond (is_inner k c) [] (given (mode m k c) k (below p i) t) ++ given_parts false m k p (suc i) ss ts

  pub given_each : Mode → Kind → Path → ℕ → Forest → List Named
  given_each m q p i none = []
  given_each m q p i (part t ts) = given m q (below p i) t ++ given_each m q p (suc i) ts
