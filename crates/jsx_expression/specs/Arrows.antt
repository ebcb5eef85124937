-- Arrow functions, and what stands in parentheses (ECMA-262 sections 13.2.9 and 15.3).
use Rattle.std.specs.Prelude.{◌≡◌, ℕ, suc, max, List, [], ◌∷◌, ◌++◌, codes, Bool, true, false, not, Box, Option, Some, None, is_some, map, ◌&&◌}
use Rattle.std.specs.Global.{Global}
use Rattle.jsx_tree.specs.Signs.{AfterBlock, Ends, SameLine, Sign, Unless}
use Rattle.jsx_tree.specs.Kinds.{Arrow, ArrowBlock, BareArrow, BareArrowBlock, Kind, Parenthesized, Seq, expression, Tree, node, list, Forest, none, part}
use Rattle.jsx_tree.specs.Nonterminals.{Expr}
use Rattle.jsx_tree.specs.Grammar.{InArrow, Part, Production, body, p, pun, sp, unless}
use Rattle.jsx_tree.specs.Grammar as symbol
use Rattle.jsx_tree.specs.Reading.{Place}
use Rattle.jsx_tree.specs.StaticRules.{Surroundings, has_plain_params}
use Rattle.jsx_tree.specs.Spans.{Told, no_tales, tale}
use Rattle.jsx_tree.specs.Told.{told_expr, told_list, told_node, told_pat}
use Rattle.jsx_tree.specs.View.{forest, inside, view_expr, view_pat}
use Rattle.jsx_tree.specs.Walk.{Piece, Walk, one, pieces, steady}
use Rattle.jsx_tree.specs.Language.{Whole}
use Rattle.jsx_tree.specs.Answers.{Barred, Moves, NoRow, Only, OnlyRow, Stuck}
use Rattle.jsx_tree.specs.declared.tree.Expr.{Expr as Code}
use Rattle.jsx_tree.specs.declared.tree.Pat.{Pat}
use Rattle.jsx_tree.specs.Faults.{Fault, Unread, Shallow, deepest, part_depth}
use Rattle.jsx_token.specs.Here.{Here}
use Rattle.jsx_token.specs.Places.{Takes, end_of, next_of}
use Rattle.jsx_make.specs.NodeSpans.{expr_at}
use Rattle.jsx_base.specs.declared.place.Span.{Span}
use Rattle.jsx_token.specs.Growths.{closed, opening_sign}
use Rattle.jsx_operand.specs.SoFar.{so_far}
use Rattle.jsx_operand.specs.Bodies.{told_of, view_body}
use Rattle.jsx_operand.specs.Covers.{IsParameter, view_cover}
use Rattle.jsx_operand.specs.Openings.{NoneOpened, OnlyOpened}
use Rattle.jsx_operand.specs.Spans.{IsPlaced, IsPlacedFront, IsPlacedRow, Spans}
use Rattle.jsx_operand.specs.Turning.{retold}
use Rattle.jsx_operand.specs.declared.cover.Cover.{Cover}
use Rattle.jsx_function.specs.Covers.{IsCover, IsPlacedCover, told_cover}
use Rattle.jsx_function.specs.Functions.{params_row, params_symbols}
use Rattle.jsx_expression.specs.declared.arrow.ArrowBody.{ArrowBody}
use Rattle.jsx_expression.specs.declared.arrow.ArrowBody.TheVariants as end
use Rattle.jsx_expression.specs.declared.arrow.Group.{Group}
use Rattle.jsx_function.specs.declared.function.Parameters.{Parameters}

-- ---- behind the parameters

-- the two rows from the `=>` on, in the surroundings of the function itself
abbrev pub value_symbols : Production
value_symbols = symbol.Fixed SameLine ∷ sp ∷ p "=>" ∷ sp ∷ unless (codes "{" ∷ []) ∷ Part (Expr 1) ∷ []

abbrev pub block_symbols : Production
block_symbols = symbol.Fixed SameLine ∷ sp ∷ p "=>" ∷ sp ∷ body ++ symbol.Fixed (Ends AfterBlock) ∷ []

abbrev pub value_row : List Piece
value_row = pieces (InArrow ∷ []) value_symbols

abbrev pub block_row : List Piece
block_row = pieces (InArrow ∷ []) block_symbols

-- the row that is read there, of a block or of a value
abbrev pub end_row : Bool → List Piece
end_row true = block_row
end_row false = value_row

abbrev pub arrow_kind : Bool → Kind
arrow_kind true = expression ArrowBlock
arrow_kind false = expression Arrow

abbrev pub bare_kind : Bool → Kind
bare_kind true = expression BareArrowBlock
bare_kind false = expression BareArrow

abbrev pub view_end : ArrowBody → Tree
view_end (end.Value e) = view_expr e.value
view_end (end.Block b) = view_body b

abbrev pub is_block : ArrowBody → Bool
is_block (end.Value e) = false
is_block (end.Block b) = true

-- the text is the one row, in this way alone, and not the other; it is neither
pub record OnlyEnd (v : Surroundings) (b : Bool) (t : Tree) (x y : Place) : Type 0 where
  pub only : OnlyRow so_far v (end_row b) x (part t none) y
  pub other : NoRow so_far v (end_row (not b)) x Unread

abbrev pub OnlyArrowEnd : Surroundings → ArrowBody → Place → Place → Type 0
OnlyArrowEnd v b x y = OnlyEnd v (is_block b) (view_end b) x y

pub record NoEnd (v : Surroundings) (x : Place) (e : Fault) : Type 0 where
  pub no : (b : Bool) → NoRow so_far v (end_row b) x e

-- the same behind the `=>`, in the surroundings of the function
abbrev pub inner_row : Bool → List Piece
inner_row true = pieces [] (body ++ symbol.Fixed (Ends AfterBlock) ∷ [])
inner_row false = pieces [] (unless (codes "{" ∷ []) ∷ Part (Expr 1) ∷ [])

pub record OnlyArrowBody (v : Surroundings) (b : ArrowBody) (x y : Place) : Type 0 where
  pub only : OnlyRow so_far v (inner_row (is_block b)) x (part (view_end b) none) y
  pub other : NoRow so_far v (inner_row (not (is_block b))) x Unread

pub record NoArrowBody (v : Surroundings) (x : Place) (e : Fault) : Type 0 where
  pub no : (b : Bool) → NoRow so_far v (inner_row b) x e

abbrev pub told_end : ArrowBody → Told
told_end (end.Value e) = told_expr e.value
told_end (end.Block b) = told_of b

abbrev pub inner_symbols : Bool → Production
inner_symbols true = body ++ symbol.Fixed (Ends AfterBlock) ∷ []
inner_symbols false = unless (codes "{" ∷ []) ∷ Part (Expr 1) ∷ []

pub record IsPlacedArrowBody (b : ArrowBody) (x y : Here) : Type 0 where
  pub row : IsPlacedRow (inner_symbols (is_block b)) (tale (told_end b) no_tales) (part (view_end b) none) x y

abbrev pub end_symbols : Bool → Production
end_symbols true = block_symbols
end_symbols false = value_symbols

pub record IsPlacedArrowEnd (b : ArrowBody) (x y : Here) : Type 0 where
  pub row : IsPlacedRow (end_symbols (is_block b)) (tale (told_end b) no_tales) (part (view_end b) none) x y

-- ---- an arrow function behind its parameters, which those of a strict body are plain

pub record ArrowEnds (v : Surroundings) (ps : Forest) (t : Tree) (x y : Place) : Type 0 where
  pub block : Bool
  pub end' : Tree
  pub is : t ≡ node (arrow_kind block) (part (list ps) (part end' none))
  pub read : OnlyEnd v block end' x y
  pub plain : has_plain_params (part (list ps) (part end' none)) ≡ true

pub record NoArrowEnd (v : Surroundings) (ps : Forest) (x : Place) (e : Fault) : Type 0 where
  pub no : (b : Bool) (ts : Forest) (y : Place) → Walk (Whole so_far) (steady v) (end_row b) x ts y → has_plain_params (part (list ps) ts) ≡ true → Shallow e (deepest ts) → ⊥

abbrev pub view_params : Parameters → Forest
view_params q = forest (map (inside view_pat) q.all.items)

abbrev pub told_params : Parameters → Told
told_params q = told_list (map (inside told_pat) q.all.items)

pub record IsPlacedArrow (lo : ℕ) (q : Parameters) (x : Here) (d : Told) (t : Tree) (y : Here) : Type 0 where
  pub on : (w a : Here) → Takes (pun "(") w a → lo ≡ next_of w → IsPlacedFront params_symbols (told_params q) (list (view_params q)) a x → IsPlaced d t w y

-- and behind the one name that it has without parentheses
pub record BareEnds (v : Surroundings) (n : Tree) (t : Tree) (x y : Place) : Type 0 where
  pub block : Bool
  pub end' : Tree
  pub is : t ≡ node (bare_kind block) (part n (part end' none))
  pub read : OnlyEnd v block end' x y

pub record NoBareEnd (v : Surroundings) (n : Tree) (x : Place) (e : Fault) : Type 0 where
  pub no : (b : Bool) (ts : Forest) (y : Place) → Walk (Whole so_far) (steady v) (end_row b) x ts y → Shallow e (suc (max (part_depth n) (deepest ts))) → ⊥

-- ---- what begins with a `(`, behind what was read in the parentheses, wherever that was read from

abbrev pub paren_sign : Sign
paren_sign = opening_sign (expression Parenthesized)

-- no `=>` comes next, which parentheses ask of what stands behind them
abbrev pub unless_arrow : Sign
unless_arrow = Unless (codes "=>" ∷ [])

-- a cover that was read in parentheses, where neither `)` nor `...` stands
pub record IsInside (v : Surroundings) (w : Place) (c : Cover) (z : Place) : Type 0 where
  pub cover : IsCover v 1 w c z
  pub ended : closed z ≡ true
  pub not_shut : Stuck (pun ")") w
  pub not_rest : Stuck (pun "...") w

-- one cover, with the `)` behind it, before `=>`
pub record OneEnds (v : Surroundings) (c : Cover) (t : Tree) (x y : Place) : Type 0 where
  pub on : (w z : Place) → IsInside v w c z → Moves (pun ")") z x → Stuck unless_arrow x → OnlyOpened v paren_sign t w y

pub record NoOneEnd (v : Surroundings) (c : Cover) (x : Place) (e : Fault) : Type 0 where
  pub no : (w z : Place) → IsInside v w c z → Moves (pun ")") z x → Stuck unless_arrow x → NoneOpened v paren_sign w e

-- the first of several, with the comma behind it
pub record SeveralEnd (v : Surroundings) (c : Cover) (t : Tree) (x y : Place) : Type 0 where
  pub on : (w z : Place) → IsInside v w c z → Moves (pun ",") z x → OnlyOpened v paren_sign t w y

pub record NoSeveralEnd (v : Surroundings) (c : Cover) (x : Place) (e : Fault) : Type 0 where
  pub no : (w z : Place) → IsInside v w c z → Moves (pun ",") z x → NoneOpened v paren_sign w e

-- ---- what stands in parentheses, up to the `)`

abbrev pub view_covers : List Cover → Forest
view_covers cs = forest (map view_cover cs)

abbrev pub are_exprs : List Cover → Bool
are_exprs [] = true
are_exprs (c ∷ cs) = c.is_expr && are_exprs cs

abbrev pub has_rest : Option (Box Pat Global) → Bool
has_rest o = is_some o

-- they are expressions, and nothing stands behind them
abbrev pub is_sequence : Group → Bool
is_sequence q = are_exprs q.all.items && (not (has_rest q.rest) && not q.trails)

abbrev pub sequence_of : Group → Tree
sequence_of q = node (expression Seq) (part (list (view_covers q.all.items)) none)

-- they turn into these parameters, with others behind them
pub data TurnCovers : List Cover → Forest → Forest → Type 0 where
  covers_none : {rs : Forest} → TurnCovers [] rs rs
  covers_more : {c : Cover} {cs : List Cover} {q : Tree} {qs rs : Forest} → IsParameter c q → TurnCovers cs rs qs → TurnCovers (c ∷ cs) rs (part q qs)

abbrev pub view_rest : Option (Box Pat Global) → Forest
view_rest None = none
view_rest (Some p) = part (view_pat p.value) none

abbrev pub TurnsGroup : Group → Forest → Type 0
TurnsGroup q ps = TurnCovers q.all.items (view_rest q.rest) ps

-- the parameters and where they end
pub record AreParams (cs : List Cover) (rs ts : Forest) (y z : Place) : Type 0 where
  pub params : Forest
  pub is : ts ≡ part (list params) none
  pub turns : TurnCovers cs rs params
  pub closes : Moves (pun ")") y z

-- It is read as an expression where it is one, as the parameters that it turns into, with the `)`, and as nothing else of either
pub record Contents (v : Surroundings) (b : Bool) (t : Tree) (cs : List Cover) (rs : Forest) (x y : Place) : Type 0 where
  pub expr : b ≡ true → Only so_far v (Part (Expr 0)) x (one t) y
  pub barred : b ≡ false → Barred so_far v (Part (Expr 0)) x Unread
  pub reads : (ps : Forest) (z : Place) → TurnCovers cs rs ps → Moves (pun ")") y z → Walk (Whole so_far) (steady v) params_row x (part (list ps) none) z
  pub alone : (ts : Forest) (z : Place) → Walk (Whole so_far) (steady v) params_row x ts z → AreParams cs rs ts y z

pub record OnlyGroup (v : Surroundings) (c : Cover) (q : Group) (x y : Place) : Type 0 where
  pub on : (w z : Place) → IsInside v w c z → Moves (pun ",") z x → Contents v (is_sequence q) (sequence_of q) q.all.items (view_rest q.rest) w y

pub record NoGroup (v : Surroundings) (c : Cover) (x : Place) (e : Fault) : Type 0 where
  pub no : (w z : Place) → IsInside v w c z → Moves (pun ",") z x → NoneOpened v paren_sign w e

-- the expressions that they are
pub record AreExprs (cs : List Cover) (es : List (Box Code Global)) : Type 0 where
  pub are : are_exprs cs ≡ true
  pub views : forest (map (inside view_expr) es) ≡ view_covers cs

-- ---- the places of what they tell

abbrev pub told_covers : List Cover → List Told
told_covers cs = map told_cover cs

-- as parameters
abbrev pub retold_cover : Cover → Told
retold_cover c = retold (view_cover c) (told_cover c)

abbrev pub retold_covers : List Cover → List Told
retold_covers cs = map retold_cover cs

abbrev pub told_rest : Option (Box Pat Global) → List Told
told_rest None = []
told_rest (Some p) = told_pat p.value ∷ []

abbrev pub told_group : Group → List Told
told_group q = retold_covers q.all.items ++ told_rest q.rest

-- an arrow function of one cover that was read behind its `(`, and has the `)` behind it
pub record IsPlacedOne (lo : ℕ) (c : Cover) (x : Here) (d : Told) (t : Tree) (y : Here) : Type 0 where
  pub on : (w a z : Here) → Takes (pun "(") w a → lo ≡ next_of w → IsPlacedCover c a z → Takes (pun ")") z x → IsPlaced d t w y

-- what begins with the first of several, with the comma behind it
pub record IsPlacedSeveral (lo : ℕ) (c : Cover) (x : Here) (d : Told) (t : Tree) (y : Here) : Type 0 where
  pub on : (w a z : Here) → Takes (pun "(") w a → lo ≡ next_of w → Spans (expr_at c.expr.value) (next_of a) (end_of z) → IsPlacedCover c a z → Takes (pun ",") z x → IsPlaced d t w y

pub record PlacedGroup (q : Group) (a y : Here) : Type 0 where
  pub sequence : is_sequence q ≡ true → (at : Option Span) → Spans at (next_of a) (end_of y) → IsPlaced (told_node at (told_list (told_covers q.all.items) ∷ [])) (sequence_of q) a y
  pub params : (ps : Forest) (b : Here) → TurnsGroup q ps → Takes (pun ")") y b → IsPlacedFront params_symbols (told_list (told_group q)) (list ps) a b

pub record IsPlacedGroup (c : Cover) (q : Group) (x y : Here) : Type 0 where
  pub on : (a z : Here) → IsPlacedCover c a z → Takes (pun ",") z x → PlacedGroup q a y
