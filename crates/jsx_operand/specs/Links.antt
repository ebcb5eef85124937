-- The links of optional chains (ECMA-262 section 13.3.9).
use Rattle.std.specs.Prelude.{◌≡◌, ℕ, codes}
use Rattle.jsx_base.specs.Token.{Text, Operator, Punctuator}
use Rattle.jsx_tree.specs.Signs.{Sign, Tok}
use Rattle.jsx_tree.specs.Kinds.{Tree}
use Rattle.jsx_tree.specs.Nonterminals.{ChainLink}
use Rattle.jsx_tree.specs.Grammar.{Part, pun}
use Rattle.jsx_tree.specs.Reading.{Place, Lost, forth}
use Rattle.jsx_tree.specs.Spans.{Told}
use Rattle.jsx_tree.specs.StaticRules.{Surroundings}
use Rattle.jsx_tree.specs.Walk.{one}
use Rattle.jsx_tree.specs.Answers.{Moves, Only, Barred}
use Rattle.jsx_tree.specs.declared.text.LinkForm.{LinkForm}
use Rattle.jsx_tree.specs.declared.text.LinkForm.TheVariants as form
use Rattle.jsx_tree.specs.Faults.{Fault}
use Rattle.jsx_token.specs.Here.{Here}
use Rattle.jsx_token.specs.Places.{Takes, next_of}
use Rattle.jsx_operand.specs.SoFar.{so_far}
use Rattle.jsx_operand.specs.Spans.{IsPlaced}
use Rattle.jsx_operand.specs.declared.link.Linking.{Linking}
use Rattle.jsx_operand.specs.declared.link.Linking.TheVariants as linking

-- the sign with which a link begins
abbrev pub link_text : Linking → Text
link_text linking.Optional = codes "?."
link_text linking.Name = codes "."
link_text linking.Index = codes "["
link_text linking.Call = codes "("

abbrev pub link_sign : Linking → Sign
link_sign s = Tok Operator Punctuator (link_text s)

-- none comes next
pub record NoLink (y : Place) : Type 0 where
  pub none : (s : Linking) → forth (link_sign s) y ≡ Lost

-- behind the sign with which it begins, the text is this link and no other; it is none
pub record OnlyLink (v : Surroundings) (s : Sign) (b : Place) (t : Tree) (y : Place) : Type 0 where
  pub on : (a : Place) → Moves s a b → Only so_far v (Part ChainLink) a (one t) y

pub record NoneLinked (v : Surroundings) (s : Sign) (b : Place) (e : Fault) : Type 0 where
  pub no : (a : Place) → Moves s a b → Barred so_far v (Part ChainLink) a e

-- from a sign on, or from the `?.` before it
pub data Leads : LinkForm → Sign → Here → Here → Type 0 where
  plainly : {s : Sign} {w x : Here} → Takes s w x → Leads form.Plain s w x
  optionally : {s : Sign} {w u x : Here} → Takes (pun "?.") w u → Takes s u x → Leads form.Optional s w x

-- a link that begins at a place, behind a sign
pub record IsPlacedLink (lo : ℕ) (q : LinkForm) (s : Sign) (x : Here) (d : Told) (t : Tree) (y : Here) : Type 0 where
  pub on : (w : Here) → lo ≡ next_of w → Leads q s w x → IsPlaced d t w y
