-- Fronts of a text: a derivation that is broken off behind a token (ECMA-262 sections 13 to 16). What comes behind isn't looked at.
use Rattle.std.specs.Prelude.{◌≡◌, ◌<◌, ℕ, max, List, [], ◌∷◌, ◌++◌, Bool, true, false, IsTrue}
use Rattle.jsx_base.specs.Token.{Text, Mode, TokenKind}
use Rattle.jsx_tree.specs.declared.text.Goal.{Goal}
use Rattle.jsx_tree.specs.Signs.{Sign, Tok}
use Rattle.jsx_tree.specs.Kinds.{Kind, Tree, leaf, Forest}
use Rattle.jsx_tree.specs.Nonterminals.{Nonterminal, in_homes, homes}
use Rattle.jsx_tree.specs.Grammar.{ListShape, Context, Symbol, Fixed, Part, Optional, Many, Within, Production, fixed, production}
use Rattle.jsx_tree.specs.Form.{is_last}
use Rattle.jsx_tree.specs.Spelling.{between, gathered, maybe, said, spelled}
use Rattle.jsx_tree.specs.Reading.{Place, Lost, At, forth, scan}
use Rattle.jsx_tree.specs.StaticRules.{Surroundings, outside}
use Rattle.jsx_tree.specs.Walk.{is_found, in_text, is_text, IsRead, Given, nothing, one, with, Piece, piece, Past, around}
use Rattle.jsx_tree.specs.Language.{Language, Whole}
use Rattle.jsx_tree.specs.Texts.{goal_kind, start}
use Rattle.jsx_tree.specs.Depth.{Frame, frame, depth_step, height, depth}

-- the nodes that are open behind some signs
abbrev pub steps : List Frame → List Sign → List Frame
steps fs [] = fs
steps fs (m ∷ ms) = steps (depth_step m fs) ms

-- the signs of a symbol, with what it gives to the tree
abbrev pub says : Symbol → Given → List Sign
says (Fixed s) g = s ∷ []
says (Within a) g = []
says (Part c) nothing = []
says (Part c) (one t) = spelled t
says (Optional a c b r) nothing = []
says (Optional a c b r) (one t) = maybe a b r (said t)
says (Many s c) nothing = []
says (Many s c) (one t) = gathered s (said t)

abbrev pub behind : Symbol → List Context → List Context
behind (Within x) a = x ∷ a
behind p a = a

abbrev pub row_of : Bool → Kind → Production
row_of true k = in_text (production k)
row_of false k = production k

mutual
  -- What may stand at a nonterminal, broken off behind a token, and its depth there. The parts before the one that is broken off are whole, and those behind it are any.
  pub data Open : Surroundings → Bool → Nonterminal → Place → ℕ → Place → Type 0 where
    alone : {v : Surroundings} {b : Bool} {c : Nonterminal} {s : TokenKind} {t : Text} {x y : Place} → IsRead v b c x (leaf s t) y → Open v b c x (depth (leaf s t)) y
    inside : {v : Surroundings} {b : Bool} {c : Nonterminal} {x y : Place} {d : ℕ} (k : Kind) (ts : Forest) → in_homes c (homes k) ≡ true → OpenRow (around v ts) [] (row_of b k) (frame false 0 ∷ []) x ts d y → Open v b c x d y

  -- a row, whose nodes are open so far: the token is its own, or that of a part
  pub data OpenRow : (List Context → Surroundings) → List Context → Production → List Frame → Place → Forest → ℕ → Place → Type 0 where
    at_token : {V : List Context → Surroundings} {a : List Context} {ps : Production} {fs : List Frame} {m : Mode} {k : TokenKind} {t : Text} {x y : Place} {ts : Forest} → forth (Tok m k t) x ≡ y → IsTrue (is_found y) → OpenRow V a (Fixed (Tok m k t) ∷ ps) fs x ts (height 0 fs) y
    whole : {V : List Context → Surroundings} {a : List Context} {p : Symbol} {ps : Production} {fs : List Frame} {x y z : Place} {g : Given} {ts : Forest} {d : ℕ} → Past IsRead (V a) p x g y → OpenRow V (behind p a) ps (steps fs (says p g)) y ts d z → OpenRow V a (p ∷ ps) fs x (with g ts) d z
    at_part : {V : List Context → Surroundings} {a : List Context} {c : Nonterminal} {ps : Production} {fs : List Frame} {x y : Place} {ts : Forest} {d : ℕ} → Open (V a) false c x d y → OpenRow V a (Part c ∷ ps) fs x ts (height d fs) y
    at_optional : {V : List Context → Surroundings} {a : List Context} {l r : List Sign} {c : Nonterminal} {q : List Text} {ps : Production} {fs : List Frame} {x y : Place} {ts us : Forest} {d : ℕ} → OpenRow V a (fixed l ++ (Part c ∷ fixed r)) fs x us d y → OpenRow V a (Optional l c r q ∷ ps) fs x ts d y
    at_list : {V : List Context → Surroundings} {a : List Context} {s : ListShape} {c : Nonterminal} {ps : Production} {fs : List Frame} {x y : Place} {ts : Forest} {d : ℕ} → OpenList (V a) s c x d y → OpenRow V a (Many s c ∷ ps) fs x ts (height d fs) y

  -- the trees of a list. Nothing is deeper at a comma than before it, nor at a semicolon, so these are no last tokens here.
  pub data OpenList : Surroundings → ListShape → Nonterminal → Place → ℕ → Place → Type 0 where
    at_item : {v : Surroundings} {s : ListShape} {c : Nonterminal} {x y : Place} {d : ℕ} → Open v (is_text s) c x d y → OpenList v s c x d y
    behind_item : {v : Surroundings} {s : ListShape} {c : Nonterminal} {x y z w : Place} {t : Tree} {d : ℕ} → is_last t ≡ false → IsRead v (is_text s) c x t y → scan y (between s) ≡ z → OpenList v s c z d w → OpenList v s c x (max (depth t) d) w

-- a symbol that is broken off in its part
pub data OpenPast : Surroundings → Symbol → Place → ℕ → Place → Type 0 where
  in_part : {v : Surroundings} {c : Nonterminal} {x y : Place} {d : ℕ} → Open v false c x d y → OpenPast v (Part c) x d y
  in_optional : {v : Surroundings} {l r : List Sign} {c : Nonterminal} {q : _} {x y z : Place} {d : ℕ} → scan x l ≡ y → IsTrue (is_found y) → Open v false c y d z → OpenPast v (Optional l c r q) x d z
  in_list : {v : Surroundings} {s : ListShape} {c : Nonterminal} {x y : Place} {d : ℕ} → OpenList v s c x d y → OpenPast v (Many s c) x d y

-- the text goes along a row to such a one
pub data OpenWalk (L : Language) (V : List Context → Surroundings) : List Piece → Place → Forest → ℕ → Place → Type 0 where
  here : {a : List Context} {p : Symbol} {ps : List Piece} {x y : Place} {ts : Forest} {d : ℕ} → OpenPast (V a) p x d y → OpenWalk L V (piece a p ∷ ps) x ts d y
  later : {a : List Context} {p : Symbol} {ps : List Piece} {x y z : Place} {g : Given} {ts : Forest} {d : ℕ} → Past (Whole L) (V a) p x g y → OpenWalk L V ps y ts d z → OpenWalk L V (piece a p ∷ ps) x (with g ts) d z

pub record DeeperPast (v : Surroundings) (p : Symbol) (x : Place) (n : ℕ) : Type 0 where
  pub deep : ℕ
  pub place : Place
  pub front : OpenPast v p x deep place
  pub deeper : n < deep

pub record DeeperWalk (L : Language) (V : List Context → Surroundings) (ps : List Piece) (x : Place) (n : ℕ) : Type 0 where
  pub parts : Forest
  pub deep : ℕ
  pub place : Place
  pub front : OpenWalk L V ps x parts deep place
  pub deeper : n < deep

-- a front of a whole text
abbrev pub OpenProgram : Goal → Text → Forest → ℕ → Place → Type 0
OpenProgram goal text ts d y = OpenRow (around outside ts) [] (production (goal_kind goal)) (frame false 0 ∷ []) (start text) ts d y

-- some front is deeper
pub record TooDeepText (goal : Goal) (text : Text) (n : ℕ) : Type 0 where
  pub parts : Forest
  pub deep : ℕ
  pub place : Place
  pub front : OpenProgram goal text parts deep place
  pub deeper : n < deep

-- all derivations of one front have one depth there: a literal and the pattern of the same tokens count alike, and nothing counts before its own token
abbrev pub rest_of : Place → Text
rest_of Lost = []
rest_of (At q e text) = text

pub record OneDepth : Type 0 where
  pub on : (goal : Goal) (text : Text) (ts us : Forest) (d e : ℕ) (y z : Place) → OpenProgram goal text ts d y → OpenProgram goal text us e z → rest_of y ≡ rest_of z → d ≡ e
