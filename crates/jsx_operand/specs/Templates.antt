-- Templates: pieces with expressions between them, tagged or not (ECMA-262 sections 13.2.8 and 13.3.11).
use Rattle.std.specs.Prelude.{◌≡◌, ℕ, List, [], ◌∷◌, Bool, true, false, map, Option, Box}
use Rattle.std.specs.Global.{Global}
use Rattle.jsx_base.specs.Token.{Text, Piece as Piece', InString, TemplateHead, TemplateMiddle, TemplateTail}
use Rattle.jsx_base.specs.declared.place.Span.{Span}
use Rattle.jsx_tree.specs.declared.text.Text.{Text as TreeText}
use Rattle.jsx_tree.specs.declared.tree.Expr.{Expr}
use Rattle.jsx_tree.specs.Kinds.{PlainTemplate, SubstitutedTemplate, Kind, expression, Tree, leaf, node, Forest, list, part, Tagged}
use Rattle.jsx_tree.specs.Nonterminals as grammar
use Rattle.jsx_tree.specs.Grammar.{Adjacent, Many, Part, Production, p}
use Rattle.jsx_tree.specs.Reading.{Place, Lost, forth}
use Rattle.jsx_tree.specs.Spans.{Comes, Told, Tales, spans, tale, tells}
use Rattle.jsx_tree.specs.Signs.{Tok}
use Rattle.jsx_tree.specs.StaticRules.{Surroundings, escapes}
use Rattle.jsx_tree.specs.Told.{tales, told_expr, told_list, told_text, told_middles, told_closing, told_template}
use Rattle.jsx_tree.specs.View.{closing, inside, middles, template, text_of, view_expr}
use Rattle.jsx_tree.specs.Walk.{Piece, Walk, steady, tail}
use Rattle.jsx_tree.specs.Language.{Whole}
use Rattle.jsx_tree.specs.Answers.{BuiltNode, NoNode, OnlyRow, NoRow}
use Rattle.jsx_tree.specs.Faults.{Fault, Shallow, deepest, inner}
use Rattle.jsx_token.specs.Here.{Here}
use Rattle.jsx_token.specs.Marks.{row_so_far}
use Rattle.jsx_token.specs.Places.{end_of, next_of}
use Rattle.jsx_make.specs.NodeSpans.{expr_at}
use Rattle.jsx_operand.specs.SoFar.{so_far}
use Rattle.jsx_operand.specs.Climbing.{fits}
use Rattle.jsx_operand.specs.Outgrown.{Outgrown}
use Rattle.jsx_operand.specs.Spans.{IsPlaced, Spans}

-- whether a piece may be one of a template, which is tagged or not
abbrev pub fits_tag : Bool → Text → Bool
fits_tag true t = true
fits_tag false t = escapes (InString 96) t

-- what stands behind the first piece: spans, and a last expression with the last piece
abbrev pub behind_head : Bool → List Piece
behind_head b = tail (row_so_far (expression (SubstitutedTemplate b)))

abbrev pub rest_production : Bool → Production
rest_production b = Many Adjacent (grammar.TemplateSpans b) ∷ Part (grammar.Expr 0) ∷ p "}" ∷ Part (grammar.TemplatePart TemplateTail) ∷ []

-- all pieces but the first
abbrev pub behind_first : List TreeText → List TreeText
behind_first [] = []
behind_first (p ∷ ps) = ps

-- the parts of a template behind its first piece, and what is told of them
abbrev pub rest_of : Bool → List TreeText → List Tree → Forest
rest_of b ps ts = part (list (middles b ps ts)) (closing ps ts)

abbrev pub told_rest : List TreeText → List Told → Tales
told_rest ps ds = tales (told_list (told_middles ps ds) ∷ told_closing ps ds)

-- what stands behind the first piece in one way alone; with that piece it keeps the rules of a template
pub record IsRest (v : Surroundings) (b : Bool) (head : Text) (x : Place) (ts : Forest) (y : Place) : Type 0 where
  pub row : OnlyRow so_far v (behind_head b) x ts y
  pub keeps : so_far.keeps (expression (SubstitutedTemplate b)) v (part (leaf TemplateHead head) ts) ≡ true

-- nothing does
pub record NoRest (v : Surroundings) (b : Bool) (head : Text) (x : Place) (e : Fault) : Type 0 where
  pub no : (ts : Forest) (y : Place) → Walk (Whole so_far) (steady v) (behind_head b) x ts y → so_far.keeps (expression (SubstitutedTemplate b)) v (part (leaf TemplateHead head) ts) ≡ true → Shallow e (deepest ts) → ⊥

-- no piece stands there that may be one and that another follows
pub record NoMiddle (b : Bool) (x : Place) (e : Fault) : Type 0 where
  pub no : (t : Text) → fits_tag b t ≡ true → Shallow e 1 → forth (Tok Piece' TemplateMiddle t) x ≡ Lost

-- pieces of which this is the first and another follows, with these expressions
pub record IsDivided (b : Bool) (head : TreeText) (ps : List TreeText) (xs : List (Box Expr Global)) : Type 0 where
  pub view : template b ps (map (inside view_expr) xs) ≡ node (expression (SubstitutedTemplate b)) (part (leaf TemplateHead (text_of head)) (rest_of b (behind_first ps) (map (inside view_expr) xs)))
  pub told : (at : Option Span) → told_template at ps (map (inside told_expr) xs) ≡ tells (spans at ∷ []) (tale (told_text head) (told_rest (behind_first ps) (map (inside told_expr) xs)))

-- one piece alone, with its place
pub record IsPiece (ps : List TreeText) (t : Text) (place : ℕ) : Type 0 where
  pub piece : TreeText
  pub is : ps ≡ piece ∷ []
  pub text : text_of piece ≡ t
  pub comes : Comes piece place

-- the two kinds of template
pub data IsOf (b : Bool) : Kind → Type 0 where
  plain : IsOf b (expression (PlainTemplate b))
  substituted : IsOf b (expression (SubstitutedTemplate b))

-- the text is this template and no other; it is none
pub record IsTemplate (v : Surroundings) (b : Bool) (x : Place) (t : Tree) (y : Place) : Type 0 where
  pub kind : Kind
  pub of : IsOf b kind
  pub built : BuiltNode so_far v (row_so_far kind) kind t x y

pub record NoTemplate (v : Surroundings) (b : Bool) (x : Place) (e : Fault) : Type 0 where
  pub no : (k : Kind) → IsOf b k → NoNode so_far v (row_so_far k) k x e

-- its places, with a span from its begin to its end
pub record IsPlacedTemplate (b : Bool) (ps : List TreeText) (xs : List (Box Expr Global)) (x y : Here) : Type 0 where
  pub on : (at : Option Span) → Spans at (next_of x) (end_of y) → IsPlaced (told_template at ps (map (inside told_expr) xs)) (template b ps (map (inside view_expr) xs)) x y

-- a template stands behind a tag that may not be one or is too deep for it, or none does that may stand there
pub data NotTagged (v : Surroundings) (t : Tree) (x : Place) (e : Fault) : Type 0 where
  outgrown : Outgrown t e → NotTagged v t x e
  unread : (fits (expression Tagged) t ≡ true → NoRow so_far v (tail (row_so_far (expression Tagged))) x (inner e)) → NotTagged v t x e

-- a tag that stands before a place, with its template
pub record IsPlacedTag (tag : Expr) (x : Here) (whole : Expr) (y : Here) : Type 0 where
  pub on : (w : Here) → Spans (expr_at tag) (next_of w) (end_of x) → IsPlaced (told_expr tag) (view_expr tag) w x → IsPlaced (told_expr whole) (view_expr whole) w y
