-- What is taken out of an expression or of a member, of what it was and what is left of it.
use Rattle.std.specs.Prelude.{◌≡◌, [], ◌∷◌, Bool, true, false, Option}
use Rattle.jsx_base.specs.Token.{IdentifierName}
use Rattle.jsx_base.specs.declared.place.Span.{Span}
use Rattle.jsx_tree.specs.Kinds.{InObject, Field, Property, Shorthand, Spread, expression, function, Tree, leaf, node, list, Forest, none, part}
use Rattle.jsx_tree.specs.Spans.{Told, Tales, no_tales, tale, tells, spans}
use Rattle.jsx_operand.specs.Turning.{is_bound_name}

-- a property, its value, and the same property with another key
abbrev pub is_pair : Tree → Bool
is_pair (node (expression Property) ts) = true
is_pair t = false

abbrev pub paired : Tree → Forest
paired (node (expression Property) (part k ts)) = ts
paired t = none

pub record IsPairOf (k t u : Tree) : Type 0 where
  pub is : t ≡ node (expression Property) (part k (paired t))
  pub still : is_pair u ≡ true
  pub same : paired u ≡ paired t

-- a name that may be bound, spread or by itself
abbrev pub is_rest : Tree → Bool
is_rest (node (expression Spread) (part t none)) = is_bound_name t
is_rest t = false

abbrev pub is_short : Tree → Bool
is_short (node (expression Shorthand) (part t none)) = is_bound_name t
is_short t = false

-- a name with a default, its default, and the same with another name
abbrev pub is_word : Tree → Bool
is_word (leaf IdentifierName n) = true
is_word t = false

abbrev pub is_preset : Tree → Bool
is_preset (node (function (Field InObject)) (part k ts)) = is_word k
is_preset t = false

abbrev pub held : Tree → Forest
held (node (function (Field InObject)) (part k (part (list ts) none))) = ts
held t = none

pub record IsPresetOf (n t u : Tree) : Type 0 where
  pub is : t ≡ node (function (Field InObject)) (part n (part (list (held t)) none))
  pub same : held u ≡ held t

-- what is told behind the first part, and the same with another first part
abbrev pub behind_first : Told → Tales
behind_first (tells cs (tale d ds)) = ds
behind_first d = no_tales

pub record IsToldOf (d : Told) (at : Option Span) (e f : Told) : Type 0 where
  pub is : e ≡ tells (spans at ∷ []) (tale d (behind_first e))
  pub same : behind_first f ≡ behind_first e
