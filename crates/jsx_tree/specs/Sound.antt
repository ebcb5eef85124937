-- Which trees are sound: those that fit once parentheses are put. Each part is of a kind that its place has, and the static rules hold, but for what parentheses mend.
use Rattle.std.specs.Prelude.{List, [], ◌∷◌, Bool, true, false, ◌&&◌, ◌||◌}
use Rattle.jsx_tree.specs.Kinds.{Module, Script, FunctionBody, For, Kind, program, statement, jsx, Tree, leaf, node, list, Forest, none, part}
use Rattle.jsx_tree.specs.Nonterminals.{Nonterminal, ForHead, ForOfHead, WholeProgram, in_homes, homes, leaf_in}
use Rattle.jsx_tree.specs.Form.{Form, Single, Maybe, Several, Position, position, positions, enough, at_most_one, last_only, is_leaf}
use Rattle.jsx_tree.specs.Parentheses.{asks, is_expression}
use Rattle.jsx_tree.specs.Normal.{laid_tree}
use Rattle.jsx_tree.specs.StaticRules.{Surroundings, outside, rule, stands, enters}
use Rattle.jsx_tree.specs.Fits.{is_solid}

-- the head of a `for`-`of` may be the name `async`, which gets a pair
abbrev pub lax : Nonterminal → Nonterminal
lax ForOfHead = ForHead
lax c = c

abbrev pub at_home : Nonterminal → Tree → Bool
at_home c (leaf s x) = leaf_in c s x
at_home c (node k cs) = in_homes c (homes k)
at_home c (list ts) = false

-- what may stand at a place, in a pair or not: an expression of any level where one is asked, else what is at home there
abbrev pub may_stand : Nonterminal → Tree → Bool
may_stand c t = (asks c && is_expression t) || at_home (lax c) t

abbrev pub may_shape : Form → Nonterminal → Tree → Bool
may_shape Single c t = may_stand c t
may_shape Maybe c (list ts) = at_most_one ts
may_shape (Several s) c (list ts) = enough s ts && last_only ts
may_shape f c t = false

abbrev pub is_no_jsx : Kind → Bool
is_no_jsx (jsx k) = false
is_no_jsx k = true

abbrev mutual
  -- below a tree each text is a token of its place, no JSX node stands, and each part is one that may stand where it does
  pub loose : Nonterminal → Tree → Bool
  loose c (leaf s x) = is_leaf s x && is_solid s
  loose c (node k cs) = is_no_jsx k && loose_slots (positions k) cs
  loose c (list ts) = loose_each c ts

  pub loose_slots : List Position → Forest → Bool
  loose_slots [] none = true
  loose_slots [] (part t ts) = false
  loose_slots (s ∷ ss) none = false
  loose_slots (position f c g b a ∷ ss) (part t ts) = may_shape f c t && (loose c t && loose_slots ss ts)

  pub loose_each : Nonterminal → Forest → Bool
  loose_each c none = true
  loose_each c (part t ts) = may_stand c t && (loose c t && loose_each c ts)

-- a program whose parts may stand where they do
abbrev pub formed : Tree → Bool
formed t = may_stand WholeProgram t && loose WholeProgram t

-- the kinds whose own rule pairs mend: no string is read as a directive, no `in` stands open in a For's Init
abbrev pub is_mended : Kind → Bool
is_mended (program Module) = true
is_mended (program Script) = true
is_mended (program FunctionBody) = true
is_mended (statement For) = true
is_mended k = false

abbrev mutual
  -- the static rules, but for what pairs mend
  pub lawful : Surroundings → Tree → Bool
  lawful v (leaf s x) = true
  lawful v (node k cs) = (is_mended k || rule k cs) && (stands k cs v && lawfuls cs v (positions k) cs)
  lawful v (list ts) = each_lawful v ts

  pub lawfuls : Forest → Surroundings → List Position → Forest → Bool
  lawfuls all v [] ts = true
  lawfuls all v (s ∷ ss) none = true
  lawfuls all v (position f c g b a ∷ ss) (part t ts) = lawful (enters all a v) t && lawfuls all v ss ts

  pub each_lawful : Surroundings → Forest → Bool
  each_lawful v none = true
  each_lawful v (part t ts) = lawful v t && each_lawful v ts

-- a program that is sound: formed, but for pairs, and lawful as it is laid, which has no empty statements in lists
abbrev pub is_sound : Tree → Bool
is_sound t = formed t && lawful outside (laid_tree t)

abbrev mutual
  -- whether each node of a tree passes a test
  pub each_node : (Kind → Forest → Bool) → Tree → Bool
  each_node f (leaf s x) = true
  each_node f (node k cs) = f k cs && each_nodes f cs
  each_node f (list ts) = each_nodes f ts

  pub each_nodes : (Kind → Forest → Bool) → Forest → Bool
  each_nodes f none = true
  each_nodes f (part t ts) = each_node f t && each_nodes f ts

abbrev pub no_jsx_node : Kind → Forest → Bool
no_jsx_node k cs = is_no_jsx k

-- a tree in which no node is JSX
abbrev pub has_no_jsx : Tree → Bool
has_no_jsx t = each_node no_jsx_node t
