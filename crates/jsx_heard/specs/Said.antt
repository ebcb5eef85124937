-- The events of a tree without their paths, each with where it is in bytes, by what is asked of its place and what is told of places: as a walk over the code's tree meets them.
use Rattle.std.specs.Prelude.{List, [], ◌∷◌, ◌++◌, map, codes, Bool, true, false, cond, not, ◌||◌, Some, None}
use Rattle.jsx_base.specs.declared.place.BytePos.{BytePos}
use Rattle.jsx_tree.specs.declared.text.Text.{Text as TreeText}
use Rattle.jsx_tree.specs.declared.text.Text.TheVariants.{Read, Made}
use Rattle.jsx_tree.specs.Spans.{Claim, comes, default_is, Told, tells, Tales, no_tales, tale}
use Rattle.jsx_names.specs.declared.event.Event as code
use Rattle.jsx_names.specs.Code.{plain, place_of}
use Rattle.jsx_base.specs.Token.{TokenKind, Text, IdentifierName, JsxName, same}
use Rattle.jsx_tree.specs.Kinds.{SpecifierAs, ExportDefaultFn, ExportDefaultClass, ExportDefaultExpr, Script, Block, Catch, ParenTarget, ClassExpr, Parenthesized, Kind, program, statement, function, expression, Tree, leaf, node, list, Forest, none, part}
use Rattle.jsx_tree.specs.Nonterminals.{Nonterminal, TagName, MemberRoot, is_ident}
use Rattle.jsx_tree.specs.Form.{Position, position, positions}
use Rattle.jsx_tree.specs.Parentheses.{asks}
use Rattle.jsx_tree.specs.Clashes.{evals_here}
use Rattle.jsx_tree.specs.Scopes.{binds, assigns, is_short, is_component}
use Rattle.jsx_names.specs.Events.{Frame, Event, Opens, Enters, Closes, Refers, Declares, Mode, Plain, Binding, is_head, mode, is_scope, frame, has_scope, inner, is_inner, is_behind, wanted_here, wanted, exported_here, exported, called, exporting}
use Rattle.jsx_names.specs.Heard.{bare_all}

-- which names are told at a place that declares none: identifiers, the tags of components, what a tag is a member of, or none
pub data Naming : Type 0 where
  Idents : Naming
  Tags : Naming
  Roots : Naming
  Unnamed : Naming

abbrev pub naming : Kind → Nonterminal → Naming
naming q TagName = Tags
naming q MemberRoot = Roots
naming q c = cond (binds c || (asks c || (assigns c || is_short q c))) Idents Unnamed

abbrev pub is_told : Naming → TokenKind → Text → Bool
is_told Idents IdentifierName t = is_ident t
is_told Tags JsxName t = is_component t
is_told Roots JsxName t = not (same t (codes "this"))
is_told n s t = false

-- the nodes round a tree that say whether it is a scope of its own: a catch clause of its block, and `export default` of its class
pub data Round : Type 0 where
  Elsewhere : Round
  InCatch : Round
  InDefault : Round

abbrev pub round : Kind → Round
round (statement Catch) = InCatch
round (program ExportDefaultClass) = InDefault
round q = Elsewhere

abbrev pub is_caught : Round → Bool
is_caught InCatch = true
is_caught r = false

abbrev pub is_default : Round → Bool
is_default InDefault = true
is_default r = false

abbrev pub scoped : Round → Kind → Bool
scoped r (statement Block) = not (is_caught r)
scoped r (function ClassExpr) = not (is_default r)
scoped r k = is_scope (program Script) k

abbrev pub leaf_said : Mode → Naming → TokenKind → Text → List Event
leaf_said (Binding w r) n IdentifierName t = Declares (is_head w) r t [] ∷ exporting w t []
leaf_said m n s t = cond (is_told n s t) (Refers t [] ∷ []) []

-- ---- where they are

-- an event, and where it is in bytes; what begins or ends a scope is nowhere
pub record Met : Type 0 where
  pub event : Event
  pub at : BytePos

abbrev pub met : Event → BytePos → Met
met e b = record { event = e; at = b }

abbrev pub nowhere : BytePos
nowhere = record { 0 = 0 }

-- those of the code
abbrev pub met_one : code.Event → Met
met_one e = met (plain e) (place_of e)

abbrev pub met_all : List code.Event → List Met
met_all es = map met_one es

-- all at one place
abbrev pub each_met : BytePos → List Event → List Met
each_met b [] = []
each_met b (e ∷ es) = met e b ∷ each_met b es

-- where a text was read, or what it was made of
abbrev pub byte_of : TreeText → BytePos
byte_of (Read s b) = b
byte_of (Made s (Some b)) = b
byte_of (Made s None) = nowhere

-- where a leaf's text is, and the `default` of an export
abbrev pub text_at : List Claim → BytePos
text_at [] = nowhere
text_at (comes a ∷ cs) = byte_of a
text_at (c ∷ cs) = text_at cs

abbrev pub default_in : List Claim → BytePos
default_in [] = nowhere
default_in (default_is b ∷ cs) = b
default_in (c ∷ cs) = default_in cs

abbrev pub its : Told → BytePos
its (tells cs ds) = text_at cs

-- what is told of a first part, and of those behind it
abbrev pub head_tale : Tales → Told
head_tale no_tales = tells [] no_tales
head_tale (tale d ds) = d

abbrev pub tail_tales : Tales → Tales
tail_tales no_tales = no_tales
tail_tales (tale d ds) = ds

-- the name by which a node exports: that of a specifier is its last
abbrev pub exported_at : Kind → List Claim → Tales → BytePos
exported_at (program (SpecifierAs s)) cs ds = its (head_tale (tail_tales ds))
exported_at (program ExportDefaultFn) cs ds = default_in cs
exported_at (program ExportDefaultClass) cs ds = default_in cs
exported_at (program ExportDefaultExpr) cs ds = default_in cs
exported_at k cs ds = its (head_tale ds)

-- what a node wants, exports and calls
abbrev pub node_said : Kind → Forest → List Claim → Tales → List Met
node_said k ts cs ds =
    each_met (its (head_tale ds)) (bare_all (wanted (wanted_here k [] ts)))
    ++ (each_met (exported_at k cs ds) (bare_all (exported (exported_here k [] ts))) ++ each_met (its (head_tale ds)) (bare_all (called (evals_here k [] ts))))

abbrev pub opens : Frame → Met
opens f = met (Opens f []) nowhere

abbrev pub enters : Met
enters = met Enters nowhere

abbrev pub closes : Met
closes = met Closes nowhere

abbrev pub entering : Bool → List Met
entering b = cond b (enters ∷ []) []

abbrev pub around : Bool → Frame → List Met → List Met
around b f ms = cond b (opens f ∷ (ms ++ closes ∷ [])) ms

abbrev mutual
  -- parentheses tell what stands in them
  pub said : Mode → Naming → Round → Tree → Told → List Met
  said m n r (leaf s t) d = each_met (its d) (leaf_said m n s t)
  said m n r (node (expression Parenthesized) (part t none)) d = said Plain Idents Elsewhere t d
  said m n r (node (function ParenTarget) (part t none)) d = said Plain Idents Elsewhere t d
  said m n r (node k ts) (tells cs ds) =
      around (scoped r k) (frame k) (node_said k ts cs ds ++ (said_parts false m k (positions k) ts ds ++ around (has_scope k) (inner k) (said_parts true m k (positions k) ts ds)))
  said m n r (list ts) (tells cs ds) = said_each m n r ts ds

  -- of the parts inside of a node's inner scope, or outside of it
  pub said_parts : Bool → Mode → Kind → List Position → Forest → Tales → List Met
  said_parts b m k [] ts ds = []
  said_parts b m k (s ∷ ss) none ds = []
  said_parts true m k (position f c g o a ∷ ss) (part t ts) ds =
      entering (is_behind k c) ++ (cond (is_inner k c) (said (mode m k c) (naming k c) (round k) t (head_tale ds)) [] ++ said_parts true m k ss ts (tail_tales ds))
  said_parts false m k (position f c g o a ∷ ss) (part t ts) ds = cond (is_inner k c) [] (said (mode m k c) (naming k c) (round k) t (head_tale ds)) ++ said_parts false m k ss ts (tail_tales ds)

  pub said_each : Mode → Naming → Round → Forest → Tales → List Met
  said_each m n r none ds = []
  said_each m n r (part t ts) ds = said m n r t (head_tale ds) ++ said_each m n r ts (tail_tales ds)

-- of an expression, of a statement, and of a whole program
abbrev pub of_value : Tree → Told → List Met
of_value t d = said Plain Idents Elsewhere t d

abbrev pub of_statement : Mode → Tree → Told → List Met
of_statement m t d = said m Unnamed Elsewhere t d

abbrev pub of_program : Tree → Told → List Met
of_program t d = said Plain Unnamed Elsewhere t d
