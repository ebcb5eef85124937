-- A name in parentheses is one without them, and what is made of an expression is no piece of a template.
use Rattle.std.proofs.Common.{◌≡◌, ℕ, List, [], ◌∷◌, Bool, true, false, sym, refl, ◌∙◌}
use Rattle.std.proofs.lemmas.Bool.{false≢true}
use Rattle.jsx_base.specs.Token.{Text, TokenKind, NoSubstitution, TemplateHead, TemplateMiddle, TemplateTail}
use Rattle.jsx_tree.specs.Kinds.{Kind, function, expression, ParenTarget, BareArrow, BareArrowBlock, NewWithoutArguments, Parenthesized, Tree, leaf, node, list, Forest, none, part}
use Rattle.jsx_tree.specs.Nonterminals.{Nonterminal, Expr}
use Rattle.jsx_tree.specs.Normal.{laid_node, mades}
use Rattle.jsx_tree.specs.Form.{Single, Position, position, positions}
use Rattle.jsx_tree.specs.StaticRules.{is_name, is_names, is_cooked}
use Rattle.jsx_tree.specs.Sound.{may_stand, loose_slots}
use Rattle.jsx_tree.proofs.Parentheses.Bare.{bare_node, bare, lays, bares, firm}
use Rattle.jsx_tree.proofs.Parentheses.Seen.{At, Same, firm_by, first_at, slots_of}

abbrev expr_first : List Position → Bool
expr_first (position Single (Expr n) g b a ∷ ss) = true
expr_first ss = false

bare_name : (es : Forest) → is_name (bare_node (expression Parenthesized) es) ≡ is_names es
bare_name none = refl
bare_name (part e none) = refl
bare_name (part e (part x xs)) = refl

name_node : (n : ℕ) (k : Kind) (cs : Forest) → may_stand (Expr n) (node k cs) ≡ true → (expr_first (positions k) ≡ true → is_names (lays k cs) ≡ is_names (bares k cs)) → is_name (laid_node k (lays k cs)) ≡ is_name (bare_node k (bares k cs))
name_node n (expression Parenthesized) cs m f = f refl ∙ sym (bare_name (bares (expression Parenthesized) cs))
name_node n (function ParenTarget) cs m f = absurd (false≢true m)
name_node n (expression BareArrow) none m f = refl
name_node n (expression BareArrow) (part a b) m f = refl
name_node n (expression BareArrowBlock) none m f = refl
name_node n (expression BareArrowBlock) (part a b) m f = refl
name_node n (expression NewWithoutArguments) none m f = refl
name_node n (expression NewWithoutArguments) (part a none) m f = refl
name_node n (expression NewWithoutArguments) (part a (part b bs)) m f = refl
name_node n k cs m f = refl

mutual
  pub name_same : (n : ℕ) (t : Tree) → At (Expr n) t → Same is_name t
  name_same n (leaf s x) a = refl
  name_same n (list ts) a = refl
  name_same n (node k cs) a = name_node n k cs a.may (λ e. names_same (positions k) cs e (slots_of (Expr n) k cs a))

  names_same : (ss : List Position) (cs : Forest) → expr_first ss ≡ true → loose_slots ss cs ≡ true → is_names (mades laid_node ss cs) ≡ is_names (mades bare_node ss cs)
  names_same [] cs e h = absurd (false≢true e)
  names_same (s ∷ ss) none e h = absurd (false≢true h)
  names_same (position Single (Expr n) g b a ∷ ss) (part t ts) e h = name_same n t (first_at (Expr n) t (loose_slots ss ts) h)
  names_same (position _ _ g b a ∷ ss) (part t ts) e h = absurd (false≢true e)

-- ---- pieces of templates

leaf_cooked : (n : ℕ) (s : TokenKind) (x : Text) → may_stand (Expr n) (leaf s x) ≡ true → is_cooked (leaf s x) ≡ true
leaf_cooked n NoSubstitution x m = absurd (false≢true m)
leaf_cooked n TemplateHead x m = absurd (false≢true m)
leaf_cooked n TemplateMiddle x m = absurd (false≢true m)
leaf_cooked n TemplateTail x m = absurd (false≢true m)
leaf_cooked n s x m = refl

abbrev cooked_first : Forest → Bool
cooked_first none = true
cooked_first (part t ts) = is_cooked t

cooked_node : (n : ℕ) (k : Kind) (cs : Forest) → may_stand (Expr n) (node k cs) ≡ true → (expr_first (positions k) ≡ true → cooked_first (bares k cs) ≡ true) → is_cooked (bare_node k (bares k cs)) ≡ true
cooked_node n (expression Parenthesized) none m f = refl
cooked_node n (expression Parenthesized) (part e none) m f = f refl
cooked_node n (expression Parenthesized) (part e (part x xs)) m f = refl
cooked_node n (function ParenTarget) cs m f = absurd (false≢true m)
cooked_node n (expression BareArrow) none m f = refl
cooked_node n (expression BareArrow) (part a b) m f = refl
cooked_node n (expression BareArrowBlock) none m f = refl
cooked_node n (expression BareArrowBlock) (part a b) m f = refl
cooked_node n (expression NewWithoutArguments) none m f = refl
cooked_node n (expression NewWithoutArguments) (part a none) m f = refl
cooked_node n (expression NewWithoutArguments) (part a (part b bs)) m f = refl
cooked_node n k cs m f = refl

mutual
  bare_cooked : (n : ℕ) (t : Tree) → At (Expr n) t → is_cooked (bare t) ≡ true
  bare_cooked n (leaf s x) a = leaf_cooked n s x a.may
  bare_cooked n (list ts) a = refl
  bare_cooked n (node k cs) a = cooked_node n k cs a.may (λ e. bares_cooked (positions k) cs e (slots_of (Expr n) k cs a))

  bares_cooked : (ss : List Position) (cs : Forest) → expr_first ss ≡ true → loose_slots ss cs ≡ true → cooked_first (mades bare_node ss cs) ≡ true
  bares_cooked [] cs e h = absurd (false≢true e)
  bares_cooked (s ∷ ss) none e h = absurd (false≢true h)
  bares_cooked (position Single (Expr n) g b a ∷ ss) (part t ts) e h = bare_cooked n t (first_at (Expr n) t (loose_slots ss ts) h)
  bares_cooked (position _ _ g b a ∷ ss) (part t ts) e h = absurd (false≢true e)

laid_cooked_node : (k : Kind) (cs : Forest) → is_cooked (laid_node k (lays k cs)) ≡ true
laid_cooked_node (expression BareArrow) none = refl
laid_cooked_node (expression BareArrow) (part a b) = refl
laid_cooked_node (expression BareArrowBlock) none = refl
laid_cooked_node (expression BareArrowBlock) (part a b) = refl
laid_cooked_node (expression NewWithoutArguments) none = refl
laid_cooked_node (expression NewWithoutArguments) (part a none) = refl
laid_cooked_node (expression NewWithoutArguments) (part a (part b bs)) = refl
laid_cooked_node k cs = refl

pub expr_cooked : (n : ℕ) (t : Tree) → At (Expr n) t → Same is_cooked t
expr_cooked n (leaf s x) a = refl
expr_cooked n (list ts) a = refl
expr_cooked n (node k cs) a = laid_cooked_node k cs ∙ sym (bare_cooked n (node k cs) a)

pub piece_cooked : (c : Nonterminal) (t : Tree) → firm c ≡ true → At c t → Same is_cooked t
piece_cooked c (leaf s x) p a = refl
piece_cooked c (list ts) p a = refl
piece_cooked c (node k cs) p a = firm_by is_cooked c k cs p a.may refl
