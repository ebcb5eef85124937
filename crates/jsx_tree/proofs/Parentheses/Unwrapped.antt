-- A tree with its parentheses off: it says the same, it is laid as the bare tree, and its parts may stand where they do.
use Rattle.std.proofs.Common.{◌≡◌, List, [], ◌∷◌, Bool, true, false, sym, refl, ap, ◌∙◌}
use Rattle.std.proofs.lemmas.Bool.{and_parts, and_from, or_left, or_right, true≢false, false≢true}
use Rattle.std.specs.Prelude.{IsTrue, not, ◌&&◌, ◌||◌}
use Rattle.jsx_base.specs.Token.{Text, TokenKind, IdentifierName, JsxName}
use Rattle.jsx_tree.specs.declared.text.Goal.{Goal}
use Rattle.jsx_tree.specs.declared.text.Goal.TheVariants as goals
use Rattle.jsx_tree.specs.Program.{is_goal}
use Rattle.jsx_tree.specs.Kinds.{Binds, Assigns, Kind, program, function, expression, Module, Script, RestPat, RestProperty, ParenTarget, Parenthesized, Tree, leaf, node, list, Forest, none, part}
use Rattle.jsx_tree.specs.Nonterminals.{Nonterminal, Expr, SimpleTarget, Pat, PatElement, Slot, ForHead, ForOfHead, in_homes, homes, leaf_in, word_in}
use Rattle.jsx_tree.specs.Grammar.{ListShape, TwoOrMore}
use Rattle.jsx_tree.specs.Normal.{laid_node, plain_node, of_list, made, mades, each_made, remades, unwrapped_node, without_parentheses, nf, laid_tree}
use Rattle.jsx_tree.specs.Form.{Single, Maybe, Several, Position, position, positions, enough, at_most_one, last_kind, is_last, last_only}
use Rattle.jsx_tree.specs.Parentheses.{asks, is_expression}
use Rattle.jsx_tree.specs.Sound.{lax, at_home, may_stand, is_no_jsx, loose, loose_slots, loose_each}
use Rattle.jsx_tree.proofs.Parentheses.Bare.{bare_node, bare, no_list}
use Rattle.jsx_tree.proofs.Parentheses.Idempotent.{head_is}
use Rattle.jsx_tree.proofs.Parentheses.UnwrapTable.{is_target, spreads, place_facts, kind_unwrapped, if_so}
use Rattle.jsx_tree.proofs.Parentheses.Seen.{At, one_of, rest_of, first_at, rest_at, slots_of}

-- ---- what is made of it

abbrev is_pair : Kind → Forest → Bool
is_pair (expression Parenthesized) (part e none) = true
is_pair (function ParenTarget) (part e none) = true
is_pair k cs = false

-- a way to make nodes anew, and one that does the same and takes pairs off
record Unwraps (f g : Kind → Forest → Tree) : Type 0 where
  pub pair_off : (e : Tree) → g (expression Parenthesized) (part e none) ≡ e
  pub target_off : (e : Tree) → g (function ParenTarget) (part e none) ≡ e
  pub others : (k : Kind) (cs : Forest) → is_pair k cs ≡ false → f k cs ≡ g k cs

other_same : (f g : Kind → Forest → Tree) → Unwraps f g → (k : Kind) (ds es : Forest) → is_pair k es ≡ false → ds ≡ es → f k ds ≡ g k es
other_same f g o k ds es p e = ap (f k) e ∙ o.others k es p

node_same : (f g : Kind → Forest → Tree) → Unwraps f g → (k : Kind) (cs : Forest) → mades f (positions k) (remades unwrapped_node cs) ≡ mades g (positions k) cs
    → made f (unwrapped_node k (remades unwrapped_node cs)) ≡ g k (mades g (positions k) cs)
node_same f g o (expression Parenthesized) (part e none) h = head_is _ _ _ _ h ∙ sym (o.pair_off (made g e))
node_same f g o (function ParenTarget) (part e none) h = head_is _ _ _ _ h ∙ sym (o.target_off (made g e))
node_same f g o k cs h = other_same f g o k _ _ refl h

mutual
  made_same : (f g : Kind → Forest → Tree) → Unwraps f g → (t : Tree) → made f (without_parentheses t) ≡ made g t
  made_same f g o (leaf s x) = refl
  made_same f g o (list ts) = ap list (each_same f g o ts)
  made_same f g o (node k cs) = node_same f g o k cs (slots_same f g o (positions k) cs)

  slots_same : (f g : Kind → Forest → Tree) → Unwraps f g → (ss : List Position) (cs : Forest) → mades f ss (remades unwrapped_node cs) ≡ mades g ss cs
  slots_same f g o ss none = refl
  slots_same f g o [] (part t ts) = ap (λ u. part u (mades f [] (remades unwrapped_node ts))) (made_same f g o t) ∙ ap (part (made g t)) (slots_same f g o [] ts)
  slots_same f g o (position l c g' b a ∷ ss) (part t ts) = ap (λ u. part (of_list l u) (mades f ss (remades unwrapped_node ts))) (made_same f g o t) ∙ ap (part (of_list l (made g t))) (slots_same f g o ss ts)

  each_same : (f g : Kind → Forest → Tree) → Unwraps f g → (ts : Forest) → each_made f (remades unwrapped_node ts) ≡ each_made g ts
  each_same f g o none = refl
  each_same f g o (part t ts) = ap (λ u. part u (each_made f (remades unwrapped_node ts))) (made_same f g o t) ∙ ap (part (made g t)) (each_same f g o ts)

laid_others : (k : Kind) (cs : Forest) → is_pair k cs ≡ false → laid_node k cs ≡ bare_node k cs
laid_others (expression Parenthesized) (part e none) p = absurd (true≢false p)
laid_others (function ParenTarget) (part e none) p = absurd (true≢false p)
laid_others k cs p = refl

-- laid, it is the bare tree
pub unwrapped_bare : (t : Tree) → laid_tree (without_parentheses t) ≡ bare t
unwrapped_bare t = made_same laid_node bare_node (record { pair_off = λ e. refl; target_off = λ e. refl; others = laid_others }) t

-- it says the same
pub unwrapped_nf : (t : Tree) → nf (without_parentheses t) ≡ nf t
unwrapped_nf t = made_same plain_node plain_node (record { pair_off = λ e. refl; target_off = λ e. refl; others = λ k cs p. refl }) t

-- and is under the same goal
pub unwrapped_goal : (goal : Goal) (t : Tree) → IsTrue (is_goal goal t) → IsTrue (is_goal goal (without_parentheses t))
unwrapped_goal goals.Module (node (program Module) cs) g = refl
unwrapped_goal goals.Script (node (program Script) cs) g = refl
unwrapped_goal goals.Module _ g = absurd (false≢true g)
unwrapped_goal goals.Script _ g = absurd (false≢true g)

-- ---- what stands in a pair may stand where the pair does

asked : (a b : Bool) → (a || not b) ≡ true → ((a && true) || b) ≡ true → a ≡ true
asked true b p m = refl
asked false true p m = absurd (false≢true p)
asked false false p m = absurd (false≢true m)

twice : (a : Bool) → (a || a) ≡ true → a ≡ true
twice true h = refl
twice false h = h

expression_of : (u : Tree) → may_stand (Expr 0) u ≡ true → is_expression u ≡ true
expression_of (leaf s x) h = twice (leaf_in (Expr 0) s x) h
expression_of (node k cs) h = twice (in_homes (Expr 0) (homes k)) h
expression_of (list ts) h = absurd (false≢true h)

loose_anywhere : (c d : Nonterminal) (u : Tree) → At d u → loose c u ≡ true
loose_anywhere c d (leaf s x) a = a.below
loose_anywhere c d (node k cs) a = a.below
loose_anywhere c d (list ts) a = no_list d ts a.may

-- an expression may stand where one is asked
pub where_asked : (c : Nonterminal) (u : Tree) → asks c ≡ true → At (Expr 0) u → At c u
where_asked c u h a = record { may = or_left (asks c && is_expression u) _ (and_from _ _ h (expression_of u a.may)); below = loose_anywhere c (Expr 0) u a }

in_pair : (c : Nonterminal) (u : Tree) → may_stand c (node (expression Parenthesized) none) ≡ true → At (Expr 0) u → At c u
in_pair c u m a = where_asked c u (asked (asks c) _ (place_facts c).expressions m) a

-- and so for a target
word_there : (c : Nonterminal) (x : Text) → is_target c ≡ true → word_in SimpleTarget x ≡ true → word_in (lax c) x ≡ true
word_there SimpleTarget x i h = h
word_there (Pat Assigns) x i h = h
word_there (PatElement Assigns) x i h = h
word_there (Slot Assigns) x i h = h
word_there ForHead x i h = h
word_there ForOfHead x i h = h
word_there _ x i h = absurd (false≢true i)

leaf_there : (c : Nonterminal) (s : TokenKind) (x : Text) → is_target c ≡ true → leaf_in SimpleTarget s x ≡ true → leaf_in (lax c) s x ≡ true
leaf_there c IdentifierName x i h = word_there c x i h
leaf_there c JsxName x i h = absurd (false≢true h)
leaf_there c _ x i h = absurd (false≢true h)

last_two : (k : Kind) → spreads k ≡ true → (in_homes (Slot Assigns) (homes k) && in_homes ForHead (homes k)) ≡ true
last_two k s = (and_parts (in_homes (PatElement Assigns) (homes k)) _ (and_parts (in_homes (Pat Assigns) (homes k)) _ s).1).1

spread_there : (c : Nonterminal) (k : Kind) → is_target c ≡ true → in_homes SimpleTarget (homes k) ≡ true → spreads k ≡ true → in_homes (lax c) (homes k) ≡ true
spread_there SimpleTarget k i h s = h
spread_there (Pat Assigns) k i h s = (and_parts (in_homes (Pat Assigns) (homes k)) _ s).0
spread_there (PatElement Assigns) k i h s = (and_parts (in_homes (PatElement Assigns) (homes k)) _ (and_parts (in_homes (Pat Assigns) (homes k)) _ s).1).0
spread_there (Slot Assigns) k i h s = (and_parts (in_homes (Slot Assigns) (homes k)) _ (last_two k s)).0
spread_there ForHead k i h s = (and_parts (in_homes (Slot Assigns) (homes k)) _ (last_two k s)).1
spread_there ForOfHead k i h s = (and_parts (in_homes (Slot Assigns) (homes k)) _ (last_two k s)).1
spread_there _ k i h s = absurd (false≢true i)

home_there : (c : Nonterminal) (u : Tree) → is_target c ≡ true → may_stand SimpleTarget u ≡ true → at_home (lax c) u ≡ true
home_there c (leaf s x) i h = leaf_there c s x i h
home_there c (node k cs) i h = spread_there c k i h (if_so (in_homes SimpleTarget (homes k)) (spreads k) (kind_unwrapped k).targets h)
home_there c (list ts) i h = absurd (false≢true h)

targeted : (a b t : Bool) → (t || not b) ≡ true → ((a && false) || b) ≡ true → t ≡ true
targeted a b true p m = refl
targeted a true false p m = absurd (false≢true p)
targeted true false false p m = absurd (false≢true m)
targeted false false false p m = absurd (false≢true m)

in_target : (c : Nonterminal) (u : Tree) → may_stand c (node (function ParenTarget) none) ≡ true → At SimpleTarget u → At c u
in_target c u m a = record { may = or_right (asks c && is_expression u) _ (home_there c u (targeted (asks c) _ (is_target c) (place_facts c).targets m) a.may); below = loose_anywhere c SimpleTarget u a }

-- ---- so each part may stand where it does

node_at : (c : Nonterminal) (k : Kind) (cs : Forest) → may_stand c (node k cs) ≡ true → is_no_jsx k ≡ true → loose_slots (positions k) (remades unwrapped_node cs) ≡ true → At c (unwrapped_node k (remades unwrapped_node cs))
node_at c (expression Parenthesized) (part e none) m n h = in_pair c (without_parentheses e) m (first_at (Expr 0) (without_parentheses e) true h)
node_at c (function ParenTarget) (part e none) m n h = in_target c (without_parentheses e) m (first_at SimpleTarget (without_parentheses e) true h)
node_at c k cs m n h = record { may = m; below = and_from _ _ n h }

-- what stands last in a list is no expression or target
not_last_kind : (k : Kind) → (in_homes (Expr 0) (homes k) || in_homes SimpleTarget (homes k)) ≡ true → last_kind k ≡ false
not_last_kind (function (RestPat Binds)) h = absurd (false≢true h)
not_last_kind (function (RestPat Assigns)) h = absurd (false≢true h)
not_last_kind (function (RestProperty Binds)) h = absurd (false≢true h)
not_last_kind (function (RestProperty Assigns)) h = absurd (false≢true h)
not_last_kind k h = refl

expression_last : (u : Tree) → may_stand (Expr 0) u ≡ true → is_last u ≡ false
expression_last (leaf s x) h = refl
expression_last (list ts) h = refl
expression_last (node k cs) h = not_last_kind k (or_left (in_homes (Expr 0) (homes k)) _ (twice (in_homes (Expr 0) (homes k)) h))

target_last : (u : Tree) → may_stand SimpleTarget u ≡ true → is_last u ≡ false
target_last (leaf s x) h = refl
target_last (list ts) h = refl
target_last (node k cs) h = not_last_kind k (or_right (in_homes (Expr 0) (homes k)) _ h)

last_node : (k : Kind) (cs : Forest) → loose_slots (positions k) (remades unwrapped_node cs) ≡ true → is_last (unwrapped_node k (remades unwrapped_node cs)) ≡ is_last (node k cs)
last_node (expression Parenthesized) (part e none) h = expression_last (without_parentheses e) (first_at (Expr 0) (without_parentheses e) true h).may
last_node (function ParenTarget) (part e none) h = target_last (without_parentheses e) (first_at SimpleTarget (without_parentheses e) true h).may
last_node k cs h = refl

pub one_same : (f : Kind → Forest → Tree) (ts : Forest) → at_most_one (remades f ts) ≡ at_most_one ts
one_same f none = refl
one_same f (part t none) = refl
one_same f (part t (part u us)) = refl

pub enough_same : (f : Kind → Forest → Tree) (s : ListShape) (ts : Forest) → enough s (remades f ts) ≡ enough s ts
enough_same f TwoOrMore none = refl
enough_same f TwoOrMore (part t none) = refl
enough_same f TwoOrMore (part t (part u us)) = refl
enough_same f _ none = refl
enough_same f _ (part t ts) = refl

mutual
  pub unwrapped_at : (c : Nonterminal) (t : Tree) → At c t → At c (without_parentheses t)
  unwrapped_at c (leaf s x) a = a
  unwrapped_at c (list ts) a = no_list c ts a.may
  unwrapped_at c (node k cs) a = node_at c k cs a.may (and_parts (is_no_jsx k) (loose_slots (positions k) cs) a.below).0 (slots_at (positions k) cs (slots_of c k cs a))

  slots_at : (ss : List Position) (cs : Forest) → loose_slots ss cs ≡ true → loose_slots ss (remades unwrapped_node cs) ≡ true
  slots_at [] none h = refl
  slots_at [] (part t ts) h = absurd (false≢true h)
  slots_at (s ∷ ss) none h = absurd (false≢true h)
  slots_at (position Single c g b a ∷ ss) (part t ts) h =
      let u = unwrapped_at c t (first_at c t (loose_slots ss ts) h) in
      and_from _ _ u.may (and_from _ _ u.below (slots_at ss ts (rest_at (may_stand c t) (loose c t) (loose_slots ss ts) h)))
  slots_at (position Maybe c g b a ∷ ss) (part (list us) ts) h =
      let p = and_parts (at_most_one us) (loose_each c us && loose_slots ss ts) h in
      let q = and_parts (loose_each c us) (loose_slots ss ts) p.1 in
      and_from _ _ (one_same unwrapped_node us ∙ p.0) (and_from _ _ (items_at c us q.0) (slots_at ss ts q.1))
  slots_at (position (Several s) c g b a ∷ ss) (part (list us) ts) h =
      let p = and_parts (enough s us && last_only us) (loose_each c us && loose_slots ss ts) h in
      let q = and_parts (loose_each c us) (loose_slots ss ts) p.1 in
      let r = and_parts (enough s us) (last_only us) p.0 in
      and_from _ _ (and_from _ _ (enough_same unwrapped_node s us ∙ r.0) (lasts_same c us q.0 ∙ r.1)) (and_from _ _ (items_at c us q.0) (slots_at ss ts q.1))
  slots_at (position Maybe c g b a ∷ ss) (part (leaf s x) ts) h = absurd (false≢true h)
  slots_at (position Maybe c g b a ∷ ss) (part (node k cs) ts) h = absurd (false≢true h)
  slots_at (position (Several s') c g b a ∷ ss) (part (leaf s x) ts) h = absurd (false≢true h)
  slots_at (position (Several s') c g b a ∷ ss) (part (node k cs) ts) h = absurd (false≢true h)

  items_at : (c : Nonterminal) (ts : Forest) → loose_each c ts ≡ true → loose_each c (remades unwrapped_node ts) ≡ true
  items_at c none h = refl
  items_at c (part t ts) h = let u = unwrapped_at c t (one_of c t ts h) in and_from _ _ u.may (and_from _ _ u.below (items_at c ts (rest_of c t ts h)))

  last_same : (c : Nonterminal) (t : Tree) → At c t → is_last (without_parentheses t) ≡ is_last t
  last_same c (leaf s x) a = refl
  last_same c (list ts) a = refl
  last_same c (node k cs) a = last_node k cs (slots_at (positions k) cs (slots_of c k cs a))

  lasts_same : (c : Nonterminal) (ts : Forest) → loose_each c ts ≡ true → last_only (remades unwrapped_node ts) ≡ last_only ts
  lasts_same c none h = refl
  lasts_same c (part t none) h = refl
  lasts_same c (part t (part u us)) h =
      ap (λ b. not b && last_only (remades unwrapped_node (part u us))) (last_same c t (one_of c t (part u us) h))
      ∙ ap (λ b. not (is_last t) && b) (lasts_same c (part u us) (rest_of c t (part u us) h))
