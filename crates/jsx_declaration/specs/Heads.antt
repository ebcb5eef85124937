-- What stands in the parentheses of a `for`.
use Rattle.jsx_token.specs.Growths.{closed, is_blocked, rung}
use Rattle.std.specs.Prelude.{◌≡◌, List, [], ◌∷◌, Bool, true, false, IsTrue, codes, map, Box}
use Rattle.std.specs.Global.{Global}
use Rattle.jsx_base.specs.Token.{IdentifierName, same}
use Rattle.jsx_tree.specs.Signs.{Sign, Space}
use Rattle.jsx_tree.specs.Kinds.{DeclareWord, Assigns, Binds, Var, ForDeclaration, statement, Tree, leaf, node, list, Forest, none, part}
use Rattle.jsx_tree.specs.Nonterminals.{Nonterminal}
use Rattle.jsx_tree.specs.Nonterminals as grammar
use Rattle.jsx_tree.specs.Grammar.{Many, NoTrailing, Optional, Part, Production, key, p, pun, semi, sp, w}
use Rattle.jsx_tree.specs.Grammar as symbol
use Rattle.jsx_tree.specs.Reading.{Place, Lost, forth}
use Rattle.jsx_tree.specs.StaticRules.{Surroundings, all_of, has_init, open_in}
use Rattle.jsx_tree.specs.Walk.{Piece, piece, pieces, is_found, one, Past, Walk, steady}
use Rattle.jsx_tree.specs.Language.{Whole}
use Rattle.jsx_tree.specs.Answers.{Moves, Stuck, Only, Barred, OnlyRow, NoRow, NoNode}
use Rattle.jsx_tree.specs.View.{forest, inside, optional_at_of, view_pat, view_pattern, view_target}
use Rattle.jsx_tree.specs.Told.{tales, told_expr, told_optional, told_pat}
use Rattle.jsx_tree.specs.declared.text.DeclareWord as code
use Rattle.jsx_tree.specs.declared.tree.Pat.{Pat}
use Rattle.jsx_tree.specs.Faults.{Fault, Unread, Shallow, part_depth, deepest}
use Rattle.jsx_token.specs.declared.lexer.Fixed.{Fixed}
use Rattle.jsx_token.specs.declared.lexer.Fixed.TheVariants as fixed
use Rattle.jsx_token.specs.Here.{Here, place_of, sign_of}
use Rattle.jsx_token.specs.Marks.{ends_so_far}
use Rattle.jsx_token.specs.Places.{Takes, begin_of, next_of}
use Rattle.jsx_operand.specs.SoFar.{Staged, so_far}
use Rattle.jsx_operand.specs.Climbing.{Climbs}
use Rattle.jsx_operand.specs.Covers.{IsTurned, view_cover}
use Rattle.jsx_operand.specs.Turning.{is_bracketed, is_literal, retold}
use Rattle.jsx_operand.specs.declared.cover.Cover.{Cover}
use Rattle.jsx_operand.specs.Spans.{IsPlaced, IsPlacedFront, IsPlacedList}
use Rattle.jsx_token.specs.Headings.{declaring}
use Rattle.jsx_declaration.specs.declared.for_head.ForHead.{ForHead}
use Rattle.jsx_declaration.specs.declared.for_head.ForHead.TheVariants as head

-- ---- a row begins with a part, and goes on as another does

pub record Rest (v : Surroundings) (qs : List Piece) (y : Place) (t : Tree) (us : Forest) (w : Place) : Type 0 where
  pub parts : Forest
  pub is : part t parts ≡ us
  pub walk : Walk (Whole so_far) (steady v) qs y parts w

pub record Front (v : Surroundings) (ps qs : List Piece) (x : Place) (t : Tree) (y : Place) : Type 0 where
  pub to : (ts : Forest) (w : Place) → Walk (Whole so_far) (steady v) qs y ts w → Walk (Whole so_far) (steady v) ps x (part t ts) w
  pub from : (us : Forest) (w : Place) → Walk (Whole so_far) (steady v) ps x us w → Rest v qs y t us w

-- ---- declarators: before a semicolon that may be missing, and before one that may not

abbrev pub free_end : List Piece
free_end = pieces [] (semi ∷ [])

abbrev pub marked_end : List Piece
marked_end = pieces [] (p ";" ∷ [])

abbrev pub free_row : List Piece
free_row = pieces [] (Many NoTrailing grammar.Declarators ∷ semi ∷ [])

abbrev pub marked_row : List Piece
marked_row = pieces [] (Many NoTrailing grammar.Declarators ∷ p ";" ∷ [])

pub record Declares (v : Surroundings) (x : Place) (t : Tree) (y : Place) : Type 0 where
  pub stands : Past (Whole so_far) v (Many NoTrailing grammar.Declarators) x (one t) y
  pub free : Front v free_row free_end x t y
  pub marked : Front v marked_row marked_end x t y
  pub ended : ends_so_far (grammar.Expr 0) y ≡ true

pub record NotDeclared (v : Surroundings) (w : DeclareWord) (x : Place) (e : Fault) : Type 0 where
  pub free : NoNode so_far v free_row (statement (Var w)) x e
  pub marked : NoNode so_far v marked_row (statement (ForDeclaration w)) x e

-- a declaration of them with its word, as what a `for` begins with, of which none has an `in` outside of brackets; the place is behind the word
pub record IsDeclared (v : Surroundings) (w : DeclareWord) (x : Place) (t : Tree) (y : Place) : Type 0 where
  pub all : Tree
  pub is : t ≡ node (statement (ForDeclaration w)) (part all none)
  pub declares : Declares v x all y
  pub keeps : so_far.keeps (statement (ForDeclaration w)) v (part all none) ≡ true
  pub closed : open_in t ≡ false

pub record NotHeaded (v : Surroundings) (w : DeclareWord) (x : Place) (e : Fault) : Type 0 where
  pub no : (ts : Forest) (y : Place) → Walk (Whole so_far) (steady v) marked_row x ts y → so_far.keeps (statement (ForDeclaration w)) v ts ≡ true → open_in (node (statement (ForDeclaration w)) ts) ≡ false → Shallow e (deepest ts) → ⊥

-- a declarator behind its name, wherever that was read from
pub record Initializes (v : Surroundings) (n : Tree) (y : Place) (t : Tree) (z : Place) : Type 0 where
  pub on : (x : Place) → Only so_far v (Part (grammar.Pat Binds)) x (one n) y → Only so_far v (Part grammar.Declarators) x (one t) z

pub record NotInitialized (v : Surroundings) (n : Tree) (y : Place) (e : Fault) : Type 0 where
  pub no : (x : Place) → Only so_far v (Part (grammar.Pat Binds)) x (one n) y → Barred so_far v (Part grammar.Declarators) x e

-- a declarator that was read, and what is declared with it behind it
pub record IsFirst (v : Surroundings) (p : Pat) (w y : Here) : Type 0 where
  pub only : Only so_far v (Part grammar.Declarators) (place_of w) (one (view_pat p)) (place_of y)
  pub placed : IsPlaced (told_pat p) (view_pat p) w y

pub record Declared (v : Surroundings) (w : DeclareWord) (ps : List (Box Pat Global)) (x z : Here) : Type 0 where
  pub declares : Declares v (place_of x) (list (forest (map (inside view_pat) ps))) (place_of z)
  pub initialized : IsTrue (all_of (has_init w) (forest (map (inside view_pat) ps)))
  pub placed : IsPlacedList NoTrailing (tales (map (inside told_pat) ps)) (forest (map (inside view_pat) ps)) x z

pub record AllDeclare (v : Surroundings) (w : DeclareWord) (p : Pat) (y : Here) (ps : List (Box Pat Global)) (z : Here) : Type 0 where
  pub on : (x : Here) → IsFirst v p x y → Declared v w ps x z

pub record NoneDeclare (v : Surroundings) (w : DeclareWord) (p : Pat) (y : Here) (e : Fault) : Type 0 where
  pub no : (x : Here) → IsFirst v p x y → NotDeclared v w (place_of x) e

-- ---- the word of a declaration

abbrev pub declare_sign : code.DeclareWord → Sign
declare_sign w = sign_of (fixed.Word (declaring w))

pub record NoDeclaring (x : Place) : Type 0 where
  pub on : (w : code.DeclareWord) → forth (declare_sign w) x ≡ Lost

-- where neither that nor a `;` stands
pub record AtValue (x : Place) : Type 0 where
  pub undeclared : NoDeclaring x
  pub unmarked : Stuck (pun ";") x

-- ---- what stands before the first `;`, which has no `in` outside of brackets

abbrev pub initial_symbols : Production
initial_symbols = Optional [] grammar.ForInit [] [] ∷ p ";" ∷ []

abbrev pub initial_row : List Piece
initial_row = pieces [] initial_symbols

pub record IsHead (v : Surroundings) (x : Place) (t : Tree) (y : Place) : Type 0 where
  pub front : Front v initial_row marked_end x (list (part t none)) y
  pub closed : open_in t ≡ false

pub record NoHead (v : Surroundings) (x : Place) (e : Fault) : Type 0 where
  pub no : (t : Tree) (y : Place) → Whole so_far v false grammar.ForInit x t y → IsTrue (is_found (forth (pun ";") y)) → open_in t ≡ false → Shallow e (part_depth t) → ⊥

abbrev pub first_opens : Forest → Bool
first_opens none = false
first_opens (part t ts) = open_in t

pub record NoInitial (v : Surroundings) (x : Place) (e : Fault) : Type 0 where
  pub no : (ts : Forest) (y : Place) → Walk (Whole so_far) (steady v) initial_row x ts y → first_opens ts ≡ false → Shallow e (deepest ts) → ⊥

-- ---- a target or what is bound, with the `in` or the `of` behind it

abbrev pub over_row : Nonterminal → Sign → List Piece
over_row c s = piece [] (Part c) ∷ piece [] (symbol.Fixed s) ∷ []

abbrev pub keys_row : List Piece
keys_row = over_row grammar.ForHead (key "in")

abbrev pub items_row : List Piece
items_row = over_row grammar.ForOfHead (key "of")

-- neither stands there
pub record NotOver (v : Surroundings) (x : Place) (e : Fault) : Type 0 where
  pub keys : NoRow so_far v keys_row x e
  pub items : NoRow so_far v items_row x e

-- ---- what stands in the parentheses up to the token that tells what it is, and nothing of the other two kinds

pub record IsInitial (v : Surroundings) (x : Place) (i : Tree) (y : Place) : Type 0 where
  pub initial : OnlyRow so_far v initial_row x (part i none) y
  pub closed : open_in i ≡ false
  pub over : NotOver v x Unread

pub record IsKeys (v : Surroundings) (x : Place) (t : Tree) (y : Place) : Type 0 where
  pub keys : OnlyRow so_far v keys_row x (part t none) y
  pub items : NoRow so_far v items_row x Unread
  pub initial : NoInitial v x Unread

pub record IsItems (v : Surroundings) (x : Place) (t : Tree) (y : Place) : Type 0 where
  pub items : OnlyRow so_far v items_row x (part t none) y
  pub keys : NoRow so_far v keys_row x Unread
  pub initial : NoInitial v x Unread

abbrev pub Heads : Surroundings → Place → ForHead → Place → Type 0
Heads v x (head.Initial i) y = IsInitial v x (optional_at_of Assigns view_pattern i) y
Heads v x (head.Keys p) y = IsKeys v x (view_target p.value) y
Heads v x (head.Items p) y = IsItems v x (view_target p.value) y

pub record NoHeads (v : Surroundings) (x : Place) (e : Fault) : Type 0 where
  pub initial : NoInitial v x e
  pub over : NotOver v x e

abbrev pub keys_symbols : Production
keys_symbols = Part grammar.ForHead ∷ sp ∷ w "in" ∷ []

abbrev pub items_symbols : Production
items_symbols = Part grammar.ForOfHead ∷ sp ∷ w "of" ∷ []

abbrev pub IsPlacedHead : ForHead → Here → Here → Type 0
IsPlacedHead (head.Initial i) x y = IsPlacedFront initial_symbols (told_optional told_pat i) (optional_at_of Assigns view_pattern i) x y
IsPlacedHead (head.Keys p) x y = IsPlacedFront keys_symbols (told_pat p.value) (view_target p.value) x y
IsPlacedHead (head.Items p) x y = IsPlacedFront items_symbols (told_pat p.value) (view_target p.value) x y

-- the same behind the word of a declaration
pub record DeclaresHead (v : Surroundings) (d : code.DeclareWord) (y : Place) (h : ForHead) (z : Place) : Type 0 where
  pub on : (x : Place) → Moves (declare_sign d) x y → Heads v x h z

pub record DeclaresNoHead (v : Surroundings) (d : code.DeclareWord) (y : Place) (e : Fault) : Type 0 where
  pub no : (x : Place) → Moves (declare_sign d) x y → NoHeads v x e

pub record IsPlacedHeadBehind (s : Sign) (y : Here) (h : ForHead) (z : Here) : Type 0 where
  pub on : (x : Here) → Takes s x y → begin_of y ≡ next_of x → IsPlacedHead h x z

-- ---- an expression that no comma goes on with, as far as an `in` outside of its operands

-- no expression of operators that bind more tightly than `in` stands there, or no target does with `in` or `of` behind it
pub data Far (v : Surroundings) (x : Place) : Type 0 where
  far_value : Barred so_far v (Part (grammar.Expr 11)) x Unread → Far v x
  far_over : NotOver v x Unread → Far v x

-- whether a target may stand there with the word behind it: what is read of those operators begins with the tree, or is it
pub data Near (v : Surroundings) (x : Place) (t : Tree) (y : Place) : Type 0 where
  near : Climbs v (rung 11) x t y → Near v x t y
  near_whole : is_blocked y ≡ true → Only so_far v (Part (grammar.Expr 11)) x (one t) y → Near v x t y
  far : Far v x → Near v x t y

-- what a `for` goes over stands behind there
pub data Over (y : Place) : Type 0 where
  over_keys : IsTrue (is_found (forth (key "in") y)) → Over y
  over_items : IsTrue (is_found (forth (key "of") y)) → Over y

pub data Stopped (y : Place) : Type 0 where
  at_in : IsTrue (is_found (forth (key "in") y)) → Stopped y
  at_end : ends_so_far (grammar.Expr 1) y ≡ true → Stopped y
  at_block : is_blocked y ≡ true → Stopped y

-- no expression stands there
pub record NoValue (v : Surroundings) (x : Place) (e : Fault) : Type 0 where
  pub whole : Barred so_far v (Part (grammar.Expr 1)) x e
  pub targets : Far v x

pub record IsStem (v : Surroundings) (x : Place) (c : Cover) (y : Place) : Type 0 where
  pub climbs : c.is_expr ≡ true → is_blocked y ≡ false → Climbs v (rung 1) x (view_cover c) y
  pub blocked : c.is_expr ≡ true → is_blocked y ≡ true → Only so_far v (Part (grammar.Expr 1)) x (one (view_cover c)) y
  pub none : c.is_expr ≡ false → NoValue v x Unread
  pub targets : c.is_expr ≡ true → Near v x (view_cover c) y
  pub reads : (p : Tree) → IsTurned c p → Staged v false (grammar.Pat Assigns) x p y
  pub patterns : (p : Tree) (z : Place) → is_bracketed p ≡ true → Staged v false (grammar.Pat Assigns) x p z → Over z → IsTurned c p × (y ≡ z)
  pub may : is_literal (view_cover c) ≡ false → c.may_turn ≡ true
  pub stopped : c.is_expr ≡ true → Stopped y
  pub ended : closed y ≡ true

-- the places of what it tells, as an expression and as what a `for` goes over
pub record IsPlacedStem (c : Cover) (x y : Here) : Type 0 where
  pub expr : c.is_expr ≡ true → IsPlaced (told_expr c.expr.value) (view_cover c) x y
  pub pattern : (p : Tree) → IsTurned c p → IsPlaced (retold (view_cover c) (told_expr c.expr.value)) p x y

pub record NoStem (v : Surroundings) (x : Place) (e : Fault) : Type 0 where
  pub barred : Barred so_far v (Part (grammar.Expr 1)) x e
  pub over : NotOver v x e

-- `async` before `of` would begin an arrow
abbrev pub is_async : Tree → Bool
is_async (leaf IdentifierName t) = same t (codes "async")
is_async t = false

-- ---- its other two parts, each with the token behind it

abbrev pub clause_symbols : Fixed → Production
clause_symbols f = Optional (Space ∷ []) (grammar.Expr 0) [] [] ∷ symbol.Fixed (sign_of f) ∷ []

abbrev pub clause_row : Fixed → List Piece
clause_row f = piece [] (Optional [] (grammar.Expr 0) [] []) ∷ piece [] (symbol.Fixed (sign_of f)) ∷ []

-- no expression begins with them
abbrev pub is_closer : Fixed → Bool
is_closer fixed.Semicolon = true
is_closer fixed.Close = true
is_closer f = false
