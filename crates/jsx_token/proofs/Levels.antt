-- Of what goes on with an expression: its row, its mark, and at which levels it does.
use Rattle.std.proofs.Common.{Bool, true, false, ◌∷◌, List, ◌≡◌, nat_le, not, cond, refl, ◌∙◌}
use Rattle.jsx_tree.specs.Grammar.{Fixed, right_of}
use Rattle.jsx_tree.specs.Walk.{Piece, piece, tail}
use Rattle.std.specs.Prelude.{Option, Some, None, ◌&&◌, ◌||◌}
use Rattle.jsx_base.specs.Token.{Lexeme, NumericLiteral, BigIntLiteral, StringLiteral, RegExpLiteral, NoSubstitution, TemplateHead, is_kind}
use Rattle.jsx_tree.specs.Kinds.{Assigns, Arrow, ArrowBlock, BareArrow, BareArrowBlock, Assign, OpAssign, Delete, Unary, Binary, Cond, FunctionExpr, ClassExpr, SuperCall, SuperMember, SuperIndex, Kind, function, expression, PrefixUpdate, Call, Member, Index, NewWithoutArguments, NewTarget, ImportMeta, Object, PostfixUpdate, Increment, Decrement, PlainTemplate, SubstitutedTemplate, Tagged, Chain}
use Rattle.jsx_tree.specs.Signs.{Sign, Tok}
use Rattle.jsx_tree.specs.Nonterminals.{Nonterminal, Expr, NullishLeft, MemberObject, DotObject, SimpleTarget, Pat, TagName, NewCallee, homes, in_homes, literal_homes}
use Rattle.jsx_token.specs.Stage.{has_kind}
use Rattle.jsx_tree.specs.Stops.{level_asked}
use Rattle.jsx_tree.specs.Grows.{starts, takes_target}
use Rattle.jsx_token.specs.Marks.{goes_at, marks, is_sign, row_so_far}
use Rattle.jsx_tree.proofs.Tokens.{and_left, and_right, and_both}
use Rattle.jsx_tree.proofs.Rows.Stopping.{is_not, covers}
use Rattle.jsx_tree.proofs.Rows.Guarded.{guarded}
use Rattle.jsx_tree.proofs.Rows.Bodies.{bodiless}
use Rattle.jsx_tree.proofs.Rows.Closers.{any_operand}
use Rattle.jsx_tree.proofs.Rows.Placing.{free}
use Rattle.jsx_tree.proofs.Rows.Spines.{grows}
use Rattle.jsx_token.specs.Growths.{Rung, rung, callee, asked, is_chain, is_rung, least, reaches, seat, mark, on_line, past_line, has_sign, is_code, levels, level_of_kind, fits_by, growth_kind}
use Rattle.jsx_token.proofs.Listed.{Listed, kinds, every, of_each, every_level, of_level_kind, implies, implied, agree, agreed, listed, listed_binary}
use Rattle.jsx_token.proofs.Marks.{text_of_sign, by_sign}
use Rattle.jsx_token.proofs.Lives.{is_single}
use Rattle.jsx_token.specs.declared.growth.Growth.{Growth}
use Rattle.jsx_token.specs.declared.growth.Growth.TheVariants as growth
use Rattle.jsx_tree.specs.declared.operator.AssignOp.{AssignOp}
use Rattle.jsx_tree.specs.declared.operator.AssignOp.TheVariants as assign
use Rattle.jsx_tree.specs.declared.operator.UpdateOp.TheVariants as update
use Rattle.jsx_tree.specs.declared.operator.BitOp.TheVariants as bit
use Rattle.jsx_tree.specs.declared.operator.ShiftOp.TheVariants as shift
use Rattle.jsx_tree.specs.declared.operator.SumOp.TheVariants as sum
use Rattle.jsx_tree.specs.declared.operator.ProductOp.TheVariants as product
use Rattle.jsx_tree.specs.ViewOperators.{assign_of, binary_of}

abbrev pub signed : List Piece → Bool
signed (piece a (Fixed s) ∷ ps) = true
signed ps = false

-- ---- of each kind

-- with a static rule of its own
abbrev pub is_ruled : Kind → Bool
is_ruled (expression (Unary Delete)) = true
is_ruled (expression Object) = true
is_ruled (expression ImportMeta) = true
is_ruled (expression NewTarget) = true
is_ruled (expression (PlainTemplate b)) = true
is_ruled (expression (SubstitutedTemplate b)) = true
is_ruled (expression Chain) = true
is_ruled (function FunctionExpr) = true
is_ruled (expression ArrowBlock) = true
is_ruled (function ClassExpr) = true
is_ruled (expression SuperCall) = true
is_ruled (expression SuperMember) = true
is_ruled (expression SuperIndex) = true
is_ruled k = false

abbrev pub grows_on : Kind → Bool
grows_on k = grows (row_so_far k)

-- a template, whose row begins with its first piece
abbrev pub is_template : Kind → Bool
is_template (expression (PlainTemplate b)) = true
is_template (expression (SubstitutedTemplate b)) = true
is_template k = false

-- an arrow function without parentheses, whose row begins with its name: it is read with that, and is no step
abbrev pub is_named : Kind → Bool
is_named (expression BareArrow) = true
is_named (expression BareArrowBlock) = true
is_named k = false

-- the others of them go on with an expression
abbrev pub steps_on : Kind → Bool
steps_on k = grows_on k && (not (is_template k) && not (is_named k))

-- a tag with its template, which goes on by a piece
abbrev pub is_tagged : Kind → Bool
is_tagged (expression Tagged) = true
is_tagged k = false

-- the others of these by a sign, their mark
abbrev pub marks_on : Kind → Bool
marks_on k = steps_on k && not (is_tagged k)

pub tagged_kind : (k : Kind) → is_tagged k ≡ true → k ≡ expression Tagged
tagged_kind (expression Tagged) h = refl
tagged_kind _ h = cc

-- those that stand where an expression does
pub data Quoted : Kind → Type 0 where
  undivided : Quoted (expression (PlainTemplate false))
  divided : Quoted (expression (SubstitutedTemplate false))

pub quoted_kind : (k : Kind) → Listed k → is_template k ≡ true → Quoted k
quoted_kind (expression (PlainTemplate false)) l h = undivided
quoted_kind (expression (SubstitutedTemplate false)) l h = divided
quoted_kind (expression (PlainTemplate true)) l h = let bad = l.is in cc
quoted_kind (expression (SubstitutedTemplate true)) l h = let bad = l.is in cc
quoted_kind _ l h = cc

-- what stands at its left, and what its row ends with where no bracket does
abbrev pub side_of : Option Nonterminal → Nonterminal
side_of (Some c) = c
side_of None = TagName

abbrev pub side : Kind → Nonterminal
side k = side_of (starts (row_so_far k))

abbrev pub edge : Kind → Nonterminal
edge (expression (Binary o)) = Expr (right_of o)
edge (expression Cond) = Expr 1
edge (expression Assign) = Expr 1
edge (expression Arrow) = Expr 1
edge (expression BareArrow) = Expr 1
edge (expression (OpAssign o)) = Expr 1
edge (expression (Unary o)) = Expr 15
edge (expression (PrefixUpdate o)) = Expr 17
edge (expression NewWithoutArguments) = NewCallee
edge (expression Chain) = Expr 17
edge k = TagName

-- the places at the left of a step
abbrev pub is_side : Nonterminal → Bool
is_side (Expr n) = nat_le n 18 && is_single (Expr n)
is_side NullishLeft = true
is_side MemberObject = true
is_side DotObject = true
is_side SimpleTarget = true
is_side (Pat Assigns) = true
is_side c = false

-- those of an assignment
abbrev pub is_left : Nonterminal → Bool
is_left SimpleTarget = true
is_left (Pat Assigns) = true
is_left c = false

abbrev pub taken_literals : Nonterminal → Bool
taken_literals c = in_homes c (literal_homes NumericLiteral) && (in_homes c (literal_homes BigIntLiteral) && (in_homes c (literal_homes StringLiteral) && in_homes c (literal_homes RegExpLiteral)))

-- which leaves stand at the left
abbrev pub leaves_fit : Kind → Bool
leaves_fit k = cond (takes_target k) (is_left (side k)) (not (is_left (side k)) && (taken_literals (side k) && fits_by k 18))

-- its row begins with a part at such a place, and each part of the rest is ended by what stands behind it
abbrev pub well_formed : Kind → Bool
well_formed k =
    implies (steps_on k)
    ((is_side (side k) && (agree (is_ruled k) (is_chain k) && leaves_fit k))
    && ((guarded (edge k) (tail (row_so_far k)) && free (tail (row_so_far k))) && (bodiless (row_so_far k) && (has_kind k && any_operand (homes k)))))

pub all_well_formed : every well_formed kinds ≡ true
all_well_formed = refl

-- no piece of a template
abbrev pub is_unquoted : Sign → Bool
is_unquoted (Tok m k t) = not (is_kind k NoSubstitution || is_kind k TemplateHead)
is_unquoted s = false

-- it goes on by a mark, with which a chain's links begin and the rest of all other rows
abbrev pub well_marked : Kind → Bool
well_marked k = implies (marks_on k) ((is_code (mark k) && is_unquoted (mark k)) && (agree (signed (past_line (tail (row_so_far k)))) (not (is_chain k)) && has_sign (mark k) marks))

pub all_well_marked : every well_marked kinds ≡ true
unfolding marks
all_well_marked = refl

-- of a place and a kind, with a line end before the mark or without: whether the mark goes on there
abbrev pub goes_as : Rung → Kind → Bool → Bool
goes_as r k b = agree (goes_at (asked r) b (text_of_sign (mark k))) (reaches r k && not (on_line k && b))

-- whether the kind is at home there is told by its level
abbrev pub placed : Rung → Kind → Bool
placed r k = agree (in_homes (seat r) (homes k)) (nat_le (least r) (level_of_kind k)) && (implies (marks_on k) (goes_as r k true && goes_as r k false) && implies (reaches r k) (covers (level_asked (seat r)) (level_asked (edge k))))

pub all_placed : every_level (λ n. every (placed (rung n)) kinds) levels ≡ true
all_placed = refl

all_called : every (placed callee) kinds ≡ true
all_called = refl

placed_at : (r : Rung) → is_rung r ≡ true → (k : Kind) → Listed k → placed r k ≡ true
placed_at (rung n) h k m = of_level_kind (λ i. placed (rung i)) all_placed {n = n} h k m
placed_at callee h k m = of_each (placed callee) all_called k m

-- ---- what these say

-- what is so of the leaves at the left of what is no assignment
pub record Fitting (k : Kind) : Type 0 where
  pub beside : is_left (side k) ≡ false
  pub numbers : in_homes (side k) (literal_homes NumericLiteral) ≡ true
  pub longs : in_homes (side k) (literal_homes BigIntLiteral) ≡ true
  pub strings : in_homes (side k) (literal_homes StringLiteral) ≡ true
  pub patterns : in_homes (side k) (literal_homes RegExpLiteral) ≡ true
  pub leaves : fits_by k 18 ≡ true

pub data Leaves (k : Kind) : Type 0 where
  assigned : takes_target k ≡ true → is_left (side k) ≡ true → Leaves k
  fitting_in : takes_target k ≡ false → Fitting k → Leaves k

pub leaves_of : (k : Kind) (b : Bool) → takes_target k ≡ b → cond b (is_left (side k)) (not (is_left (side k)) && (taken_literals (side k) && fits_by k 18)) ≡ true → Leaves k
leaves_of k true e h = assigned e h
leaves_of k false e h =
    let a = and_right (not (is_left (side k))) _ h in
    let b = and_left (taken_literals (side k)) _ a in
    let d = and_right (in_homes (side k) (literal_homes NumericLiteral)) _ b in
    let e' = and_right (in_homes (side k) (literal_homes BigIntLiteral)) _ d in
    fitting_in e (record {
      beside = is_not _ (and_left (not (is_left (side k))) _ h);
      numbers = and_left (in_homes (side k) (literal_homes NumericLiteral)) _ b;
      longs = and_left (in_homes (side k) (literal_homes BigIntLiteral)) _ d;
      strings = and_left (in_homes (side k) (literal_homes StringLiteral)) _ e';
      patterns = and_right (in_homes (side k) (literal_homes StringLiteral)) _ e';
      leaves = and_right (taken_literals (side k)) _ a;
    })

pub record Formed (k : Kind) : Type 0 where
  pub sided : is_side (side k) ≡ true
  pub unruled : is_ruled k ≡ is_chain k
  pub leaves : Leaves k
  pub closed : guarded (edge k) (tail (row_so_far k)) ≡ true
  pub freed : free (tail (row_so_far k)) ≡ true
  pub bare : bodiless (row_so_far k) ≡ true
  pub taken : has_kind k ≡ true
  pub stood : any_operand (homes k) ≡ true

pub formed : (k : Kind) → Listed k → steps_on k ≡ true → Formed k
formed k m g =
    let a = implied (steps_on k) _ (of_each well_formed all_well_formed k m) g in
    let ruled = agree (is_ruled k) (is_chain k) in
    let b = and_left (is_side (side k) && (ruled && leaves_fit k)) _ a in
    let c = and_right (is_side (side k) && (ruled && leaves_fit k)) _ a in
    let c4 = and_left (guarded (edge k) (tail (row_so_far k)) && free (tail (row_so_far k))) _ c in
    let c5 = and_right (guarded (edge k) (tail (row_so_far k)) && free (tail (row_so_far k))) _ c in
    let c6 = and_right (bodiless (row_so_far k)) _ c5 in
    record {
      sided = and_left (is_side (side k)) _ b;
      unruled = agreed (is_ruled k) (is_chain k) (and_left ruled _ (and_right (is_side (side k)) _ b));
      leaves = leaves_of k (takes_target k) refl (and_right ruled _ (and_right (is_side (side k)) _ b));
      closed = and_left (guarded (edge k) (tail (row_so_far k))) _ c4;
      freed = and_right (guarded (edge k) (tail (row_so_far k))) _ c4;
      bare = and_left (bodiless (row_so_far k)) _ c5;
      taken = and_left (has_kind k) _ c6;
      stood = and_right (has_kind k) _ c6;
    }

pub record Marked (k : Kind) : Type 0 where
  pub coded : is_code (mark k) ≡ true
  pub unquoted : is_unquoted (mark k) ≡ true
  pub led : signed (past_line (tail (row_so_far k))) ≡ not (is_chain k)
  pub listed_mark : has_sign (mark k) marks ≡ true

pub marked : (k : Kind) → Listed k → marks_on k ≡ true → Marked k
marked k m g =
    let a = implied (marks_on k) _ (of_each well_marked all_well_marked k m) g in
    let b = and_left (is_code (mark k) && is_unquoted (mark k)) _ a in
    let c = and_right (is_code (mark k) && is_unquoted (mark k)) _ a in
    record {
      coded = and_left (is_code (mark k)) _ b;
      unquoted = and_right (is_code (mark k)) _ b;
      led = agreed (signed (past_line (tail (row_so_far k)))) (not (is_chain k)) (and_left (agree (signed (past_line (tail (row_so_far k)))) (not (is_chain k))) _ c);
      listed_mark = and_right (agree (signed (past_line (tail (row_so_far k)))) (not (is_chain k))) _ c;
    }

pub record Level (r : Rung) (k : Kind) : Type 0 where
  pub home : in_homes (seat r) (homes k) ≡ nat_le (least r) (level_of_kind k)
  pub goes : marks_on k ≡ true → (b : Bool) → goes_at (asked r) b (text_of_sign (mark k)) ≡ (reaches r k && not (on_line k && b))
  pub covered : reaches r k ≡ true → covers (level_asked (seat r)) (level_asked (edge k)) ≡ true

pub either_way : (p : Bool → Bool) → (p true && p false) ≡ true → (b : Bool) → p b ≡ true
either_way p e true = and_left (p true) (p false) e
either_way p e false = and_right (p true) (p false) e

pub at_level : {r : Rung} → is_rung r ≡ true → (k : Kind) → Listed k → Level r k
at_level {r} h k m =
    let a = placed_at r h k m in
    let p = agree (in_homes (seat r) (homes k)) (nat_le (least r) (level_of_kind k)) in
    let q = implies (marks_on k) (goes_as r k true && goes_as r k false) in
    let b = and_right p _ a in
    record {
      home = agreed (in_homes (seat r) (homes k)) (nat_le (least r) (level_of_kind k)) (and_left p _ a);
      goes = λ g c. agreed (goes_at (asked r) c (text_of_sign (mark k))) (reaches r k && not (on_line k && c)) (either_way (goes_as r k) (implied (marks_on k) _ (and_left q _ b) g) c);
      covered = λ e. implied (reaches r k) _ (and_right q _ b) e;
    }

pub seat_asks : (r : Rung) → level_asked (seat r) ≡ Some (asked r)
seat_asks (rung n) = refl
seat_asks callee = refl

-- what goes on with what `new` stands before may stand on a new line
abbrev called_anywhere : Kind → Bool
called_anywhere k = implies (marks_on k && reaches callee k) (not (on_line k))

all_called_anywhere : every called_anywhere kinds ≡ true
all_called_anywhere = refl

pub called_line : (k : Kind) → Listed k → marks_on k ≡ true → reaches callee k ≡ true → on_line k ≡ false
called_line k m g e = is_not _ (implied (marks_on k && reaches callee k) _ (of_each called_anywhere all_called_anywhere k m) (and_both _ _ g e))

pub agree_self : (b : Bool) → agree b b ≡ true
agree_self true = refl
agree_self false = refl

pub mark_among : (r : Rung) (k : Kind) → is_rung r ≡ true → Listed k → marks_on k ≡ true → (b : Bool) (x : Lexeme) → is_sign x (mark k) ≡ true → goes_at (asked r) b x.raw ≡ (reaches r k && not (on_line k && b))
mark_among r k h m g b x e =
    let u = goes_at (asked r) b (text_of_sign (mark k)) in
    agreed (goes_at (asked r) b x.raw) u (by_sign (λ t. agree (goes_at (asked r) b t) u) (mark k) x (agree_self u) e) ∙ (at_level {r = r} h k m).goes g b

pub mark_is_code : (k : Kind) → Listed k → marks_on k ≡ true → is_code (mark k) ≡ true
mark_is_code k m g = (marked k m g).coded

assign_listed : (o : AssignOp) → Listed (expression (OpAssign (assign_of o)))
assign_listed assign.Nullish = listed (expression (OpAssign (assign_of assign.Nullish))) refl refl refl
assign_listed assign.Or = listed (expression (OpAssign (assign_of assign.Or))) refl refl refl
assign_listed assign.And = listed (expression (OpAssign (assign_of assign.And))) refl refl refl
assign_listed (assign.Bit bit.Or) = listed (expression (OpAssign (assign_of (assign.Bit bit.Or)))) refl refl refl
assign_listed (assign.Bit bit.Xor) = listed (expression (OpAssign (assign_of (assign.Bit bit.Xor)))) refl refl refl
assign_listed (assign.Bit bit.And) = listed (expression (OpAssign (assign_of (assign.Bit bit.And)))) refl refl refl
assign_listed (assign.Shift shift.Left) = listed (expression (OpAssign (assign_of (assign.Shift shift.Left)))) refl refl refl
assign_listed (assign.Shift shift.Right) = listed (expression (OpAssign (assign_of (assign.Shift shift.Right)))) refl refl refl
assign_listed (assign.Shift shift.Out) = listed (expression (OpAssign (assign_of (assign.Shift shift.Out)))) refl refl refl
assign_listed (assign.Sum sum.Add) = listed (expression (OpAssign (assign_of (assign.Sum sum.Add)))) refl refl refl
assign_listed (assign.Sum sum.Subtract) = listed (expression (OpAssign (assign_of (assign.Sum sum.Subtract)))) refl refl refl
assign_listed (assign.Product product.Multiply) = listed (expression (OpAssign (assign_of (assign.Product product.Multiply)))) refl refl refl
assign_listed (assign.Product product.Divide) = listed (expression (OpAssign (assign_of (assign.Product product.Divide)))) refl refl refl
assign_listed (assign.Product product.Remainder) = listed (expression (OpAssign (assign_of (assign.Product product.Remainder)))) refl refl refl
assign_listed assign.Exponentiate = listed (expression (OpAssign (assign_of assign.Exponentiate))) refl refl refl

-- each of them is in the list, and goes on by a mark
pub growth_listed : (g : Growth) → Listed (growth_kind g)
growth_listed (growth.Binary o) = listed_binary (binary_of o)
growth_listed growth.Assign = listed (expression Assign) refl refl refl
growth_listed (growth.OpAssign o) = assign_listed o
growth_listed growth.Cond = listed (expression Cond) refl refl refl
growth_listed growth.Call = listed (expression Call) refl refl refl
growth_listed growth.Member = listed (expression Member) refl refl refl
growth_listed growth.Index = listed (expression Index) refl refl refl
growth_listed growth.Chain = listed (expression Chain) refl refl refl
growth_listed (growth.Update update.Increment) = listed (expression (PostfixUpdate Increment)) refl refl refl
growth_listed (growth.Update update.Decrement) = listed (expression (PostfixUpdate Decrement)) refl refl refl

pub growth_marks : (g : Growth) → marks_on (growth_kind g) ≡ true
growth_marks (growth.Binary o) = refl
growth_marks growth.Assign = refl
growth_marks (growth.OpAssign o) = refl
growth_marks growth.Cond = refl
growth_marks growth.Call = refl
growth_marks growth.Member = refl
growth_marks growth.Index = refl
growth_marks growth.Chain = refl
growth_marks (growth.Update o) = refl
