-- What each name of a tree refers to, and which declarations of it clash, by what its nodes give to the scopes: as the answers to its events, and with no list of events.
use Rattle.std.specs.Prelude.{ℕ, suc, List, [], ◌∷◌, ◌++◌, Bool, true, false, cond}
use Rattle.jsx_base.specs.Token.{TokenKind, Text, IdentifierName}
use Rattle.jsx_tree.specs.Kinds.{Kind, Tree, leaf, node, list, Forest, none, part}
use Rattle.jsx_tree.specs.Nonterminals.{Nonterminal, is_ident}
use Rattle.jsx_tree.specs.Form.{Position, position, positions}
use Rattle.jsx_tree.specs.Scopes.{Path, below, is_name_at}
use Rattle.jsx_tree.specs.Clashes.{Place, later}
use Rattle.jsx_names.specs.Events.{Frame, Mode, Binding, mode, is_scope, frame, has_scope, inner, is_inner, is_behind}
use Rattle.jsx_names.specs.Answers.{Named, all_of, Standing, opened, entered, scopes, Answer, answer, is_wide}
use Rattle.jsx_names.specs.Given.{held, given_parts}

-- what a node declares in its inner scope, and in the scope that it is itself
abbrev pub inner_names : Mode → Kind → Path → Forest → List Named
inner_names m k p cs = given_parts true m k p 0 (positions k) cs

abbrev pub outer_names : Mode → Kind → Path → Forest → List Named
outer_names m k p cs = given_parts false m k p 0 (positions k) cs ++ held (has_scope k) (inner k) (inner_names m k p cs)

-- with a scope more
abbrev pub stand : Bool → Frame → Path → List Named → List Standing → List Standing
stand b f p ns st = cond b (opened f p ns ∷ st) st

abbrev pub enter : Bool → List Standing → List Standing
enter b st = cond b (entered st) st

abbrev pub in_node : List Standing → Mode → Kind → Kind → Path → Forest → List Standing
in_node st m q k p cs = stand (is_scope q k) (frame k) p (outer_names m k p cs) st

abbrev pub answer_if : Bool → List Standing → Text → Path → List Answer
answer_if b st t p = cond b (answer (scopes st) t p ∷ []) []

abbrev pub resolved_leaf : List Standing → Mode → Kind → Nonterminal → Path → TokenKind → Text → List Answer
resolved_leaf st (Binding w r) q c p IdentifierName t = answer_if (is_ident t) st t p
resolved_leaf st m q c p s t = answer_if (is_name_at q c s t) st t p

abbrev mutual
  pub resolved : List Standing → Mode → Kind → Nonterminal → Path → Tree → List Answer
  resolved st m q c p (leaf s t) = resolved_leaf st m q c p s t
  resolved st m q c p (node k cs) =
      resolved_parts false (in_node st m q k p cs) m k p 0 (positions k) cs ++ resolved_parts true (stand (has_scope k) (inner k) p (inner_names m k p cs) (in_node st m q k p cs)) m k p 0 (positions k) cs
  resolved st m q c p (list ts) = resolved_each st m q c p 0 ts

  pub resolved_parts : Bool → List Standing → Mode → Kind → Path → ℕ → List Position → Forest → List Answer
  resolved_parts b st m k p i [] ts = []
  resolved_parts b st m k p i (s ∷ ss) none = []
  resolved_parts true st m k p i (position f c g o a ∷ ss) (part t ts) =
      cond (is_inner k c) (resolved (enter (is_behind k c) st) (mode m k c) k c (below p i) t) [] ++ resolved_parts true (enter (is_behind k c) st) m k p (suc i) ss ts
  resolved_parts false st m k p i (position f c g o a ∷ ss) (part t ts) =
      cond (is_inner k c) [] (resolved st (mode m k c) k c (below p i) t) ++ resolved_parts false st m k p (suc i) ss ts

  pub resolved_each : List Standing → Mode → Kind → Nonterminal → Path → ℕ → Forest → List Answer
  resolved_each st m q c p i none = []
  resolved_each st m q c p i (part t ts) = resolved st m q c (below p i) t ++ resolved_each st m q c p (suc i) ts

-- the clashes in one scope
abbrev pub within : Bool → Frame → List Named → List Place
within b f ns = cond b (later (is_wide f) [] (all_of ns)) []

abbrev mutual
  pub clashed : Mode → Kind → Path → Tree → List Place
  clashed m q p (leaf s t) = []
  clashed m q p (node k cs) =
      within (is_scope q k) (frame k) (outer_names m k p cs) ++ (clashed_parts false m k p 0 (positions k) cs ++ (within (has_scope k) (inner k) (inner_names m k p cs) ++ clashed_parts true m k p 0 (positions k) cs))
  clashed m q p (list ts) = clashed_each m q p 0 ts

  pub clashed_parts : Bool → Mode → Kind → Path → ℕ → List Position → Forest → List Place
  clashed_parts b m k p i [] ts = []
  clashed_parts b m k p i (s ∷ ss) none = []
  clashed_parts true m k p i (position f c g o a ∷ ss) (part t ts) = cond (is_inner k c) (clashed (mode m k c) k (below p i) t) [] ++ clashed_parts true m k p (suc i) ss ts
  clashed_parts false m k p i (position f c g o a ∷ ss) (part t ts) = cond (is_inner k c) [] (clashed (mode m k c) k (below p i) t) ++ clashed_parts false m k p (suc i) ss ts

  pub clashed_each : Mode → Kind → Path → ℕ → Forest → List Place
  clashed_each m q p i none = []
  clashed_each m q p i (part t ts) = clashed m q (below p i) t ++ clashed_each m q p (suc i) ts
