-- What a tree begins with, by its structure, and that the passes keep it or put a `(` first.
use Rattle.std.proofs.Common.{◌≡◌, ◌⊎◌, List, [], ◌∷◌, ◌++◌, Bool, true, false, cond, sym, refl, ap, ◌∙◌, inl, inr}
use Rattle.std.proofs.lemmas.Bool.{false≢true}
use Rattle.std.specs.Prelude.{⊤, codes, not, ◌&&◌, ◌||◌}
use Rattle.jsx_base.specs.Token.{Text, TokenKind, Elision}
use Rattle.jsx_tree.specs.Signs.{Sign, Tok}
use Rattle.jsx_tree.specs.Kinds.{Kind, program, statement, Module, Script, FunctionBody, ForOf, Tree, leaf, node, list, Forest, none, part}
use Rattle.jsx_tree.specs.Grammar.{TwoOrMore, Fixed, Part, Optional, Many, Within, Production, production}
use Rattle.jsx_tree.specs.Normal.{remade, remades}
use Rattle.jsx_tree.specs.Form.{Position, position, positions}
use Rattle.jsx_tree.specs.Spelling.{said, saids, each_said, joined, gathered, walk, spelled, leaf_signs}
use Rattle.jsx_tree.specs.Layout.{first_token}
use Rattle.jsx_tree.specs.Parentheses.{parens_of, is_in, is_init, special, shield, shields, shield_each}
use Rattle.jsx_tree.proofs.ReadBack.Rows.{append_signs}
use Rattle.jsx_tree.proofs.Parentheses.SecondPass.{mend, mend_is}

-- the first token of a row, x that of its first part
abbrev pub row_start : Production → Text → Text
row_start [] x = []
row_start (Fixed (Tok m s t) ∷ ps) x = t
row_start (Fixed m ∷ ps) x = row_start ps x
row_start (Within a ∷ ps) x = row_start ps x
row_start (Part c ∷ ps) x = x
row_start (Optional a c b r ∷ ps) x = []
row_start (Many TwoOrMore c ∷ ps) x = x
row_start (Many s c ∷ ps) x = []

abbrev mutual
  pub starts : Tree → Text
  starts (leaf s x) = x
  starts (node k cs) = row_start (production k) (first_starts cs)
  starts (list ts) = first_starts ts

  pub first_starts : Forest → Text
  first_starts none = []
  first_starts (part t ts) = starts t

-- whether what a tree begins with is a token
abbrev pub row_led : Production → Bool → Bool
row_led [] b = false
row_led (Fixed (Tok m s t) ∷ ps) b = true
row_led (Fixed m ∷ ps) b = row_led ps b
row_led (Within a ∷ ps) b = row_led ps b
row_led (Part c ∷ ps) b = b
row_led (Optional x c y r ∷ ps) b = false
row_led (Many TwoOrMore c ∷ ps) b = b
row_led (Many s c ∷ ps) b = false

abbrev pub is_hole : TokenKind → Bool
is_hole Elision = true
is_hole s = false

abbrev mutual
  pub led : Tree → Bool
  led (leaf s x) = not (is_hole s)
  led (node k cs) = row_led (production k) (first_led cs)
  led (list ts) = first_led ts

  pub first_led : Forest → Bool
  first_led none = false
  first_led (part t ts) = led t

-- ---- the first token of what is spelled

append_end : (ms : List Sign) → (ms ++ []) ≡ ms
append_end [] = refl
append_end (m ∷ ms) = ap (λ x. m ∷ x) (append_end ms)

leaf_first : (s : TokenKind) (x : Text) (ys : List Sign) → not (is_hole s) ≡ true → first_token (leaf_signs s x ++ ys) ≡ x
leaf_first Elision x ys h = absurd (false≢true h)
leaf_first _ x ys h = refl

abbrev FirstOf : Tree → Type 0
FirstOf t = (ys : List Sign) → led t ≡ true → first_token (spelled t ++ ys) ≡ starts t

abbrev FirstsOf : Forest → Type 0
FirstsOf none = ⊤
FirstsOf (part t ts) = FirstOf t

each_first : (ts : Forest) → FirstsOf ts → (ys : List Sign) → first_led ts ≡ true → first_token (joined (each_said ts) ++ ys) ≡ first_starts ts
each_first none f ys h = absurd (false≢true h)
each_first (part t none) f ys h = f ys h
each_first (part t (part u us)) f ys h = ap first_token (append_signs (spelled t) (joined (each_said (part u us))) ys) ∙ f (joined (each_said (part u us)) ++ ys) h

-- each item of a list with its signs, and a list's first one
abbrev InsOf : Tree → Type 0
InsOf (list ts) = FirstsOf ts
InsOf t = ⊤

two_first : (t : Tree) → FirstOf t → InsOf t → (ys : List Sign) → led t ≡ true → first_token (gathered TwoOrMore (said t) ++ ys) ≡ starts t
two_first (leaf s x) f i ys h = ap first_token (ap (λ z. z ++ ys) (append_end (leaf_signs s x))) ∙ f ys h
two_first (node k cs) f i ys h = ap first_token (ap (λ z. z ++ ys) (append_end (spelled (node k cs)))) ∙ f ys h
two_first (list none) f i ys h = absurd (false≢true h)
two_first (list (part t none)) f i ys h = ap first_token (ap (λ z. z ++ ys) (append_end (spelled t))) ∙ i ys h
two_first (list (part t (part u us))) f i ys h = ap first_token (append_signs (spelled t) _ ys) ∙ i _ h

row_first : (ps : Production) (t : Tree) (ts : Forest) → FirstOf t → InsOf t → (ys : List Sign) → row_led ps (led t) ≡ true → first_token (walk ps (saids (part t ts)) ++ ys) ≡ row_start ps (starts t)
row_first [] t ts f i ys h = absurd (false≢true h)
row_first (Fixed (Tok m s x) ∷ ps) t ts f i ys h = refl
row_first (Fixed m ∷ ps) t ts f i ys h = row_first ps t ts f i ys h
row_first (Within a ∷ ps) t ts f i ys h = row_first ps t ts f i ys h
row_first (Part c ∷ ps) t ts f i ys h = ap first_token (append_signs (spelled t) (walk ps (saids ts)) ys) ∙ f (walk ps (saids ts) ++ ys) h
row_first (Optional a c b r ∷ ps) t ts f i ys h = absurd (false≢true h)
row_first (Many TwoOrMore c ∷ ps) t ts f i ys h = ap first_token (append_signs (gathered TwoOrMore (said t)) (walk ps (saids ts)) ys) ∙ two_first t f i (walk ps (saids ts) ++ ys) h
row_first (Many s c ∷ ps) t ts f i ys h = absurd (false≢true h)

row_none : (ps : Production) (ys : List Sign) → row_led ps false ≡ true → first_token (walk ps [] ++ ys) ≡ row_start ps []
row_none [] ys h = absurd (false≢true h)
row_none (Fixed (Tok m s x) ∷ ps) ys h = refl
row_none (Fixed m ∷ ps) ys h = row_none ps ys h
row_none (Within a ∷ ps) ys h = row_none ps ys h
row_none (Part c ∷ ps) ys h = absurd (false≢true h)
row_none (Optional a c b r ∷ ps) ys h = absurd (false≢true h)
row_none (Many TwoOrMore c ∷ ps) ys h = absurd (false≢true h)
row_none (Many s c ∷ ps) ys h = absurd (false≢true h)

mutual
  first_of : (t : Tree) → FirstOf t
  first_of (leaf s x) ys h = leaf_first s x ys h
  first_of (node k none) ys h = row_none (production k) ys h
  first_of (node k (part t ts)) ys h = row_first (production k) t ts (first_of t) (ins_of t) ys h
  first_of (list ts) ys h = each_first ts (firsts_of ts) ys h

  ins_of : (t : Tree) → InsOf t
  ins_of (leaf s x) = tt
  ins_of (node k cs) = tt
  ins_of (list ts) = firsts_of ts

  firsts_of : (ts : Forest) → FirstsOf ts
  firsts_of none = tt
  firsts_of (part t ts) = first_of t

pub starts_are : (t : Tree) → led t ≡ true → first_token (spelled t) ≡ starts t
starts_are t h = ap first_token (sym (append_end (spelled t))) ∙ first_of t [] h

-- ---- the passes

abbrev open' : Text
open' = codes "("

abbrev pub Begun : Text → Text → Type 0
Begun x y = (y ≡ x) ⊎ (y ≡ codes "(")

pub row_or : (ps : Production) (x y : Text) → Begun x y → Begun (row_start ps x) (row_start ps y)
row_or [] x y h = inl refl
row_or (Fixed (Tok m s t) ∷ ps) x y h = inl refl
row_or (Fixed m ∷ ps) x y h = row_or ps x y h
row_or (Within a ∷ ps) x y h = row_or ps x y h
row_or (Part c ∷ ps) x y h = h
row_or (Optional a c b r ∷ ps) x y h = inl refl
row_or (Many TwoOrMore c ∷ ps) x y h = h
row_or (Many s c ∷ ps) x y h = inl refl

pub row_led_more : (ps : Production) (a b : Bool) → (a ≡ true → b ≡ true) → row_led ps a ≡ true → row_led ps b ≡ true
row_led_more [] a b f h = h
row_led_more (Fixed (Tok m s t) ∷ ps) a b f h = refl
row_led_more (Fixed m ∷ ps) a b f h = row_led_more ps a b f h
row_led_more (Within x ∷ ps) a b f h = row_led_more ps a b f h
row_led_more (Part c ∷ ps) a b f h = f h
row_led_more (Optional x c y r ∷ ps) a b f h = h
row_led_more (Many TwoOrMore c ∷ ps) a b f h = f h
row_led_more (Many s c ∷ ps) a b f h = h

pub mend_start : (k : Kind) (cs : Forest) → row_start (production k) (first_starts (mend k cs)) ≡ row_start (production k) (first_starts cs)
mend_start (program Module) cs = refl
mend_start (program Script) cs = refl
mend_start (program FunctionBody) cs = refl
mend_start (statement ForOf) cs = refl
mend_start k cs = refl

mutual
  pub special_starts : (t : Tree) → starts (remade special t) ≡ starts t
  special_starts (leaf s x) = refl
  special_starts (list ts) = specials_starts ts
  special_starts (node k cs) = ap starts (sym (mend_is k (remades special cs))) ∙ (mend_start k (remades special cs) ∙ ap (row_start (production k)) (specials_starts cs))

  specials_starts : (ts : Forest) → first_starts (remades special ts) ≡ first_starts ts
  specials_starts none = refl
  specials_starts (part t ts) = special_starts t

wrap_starts : (k : Kind) (cs ds : Forest) (v : Bool) → Begun (first_starts cs) (first_starts ds) → Begun (starts (node k cs)) (starts (cond v (parens_of (node k ds)) (node k ds)))
wrap_starts k cs ds true h = inr refl
wrap_starts k cs ds false h = row_or (production k) (first_starts cs) (first_starts ds) h

mutual
  pub shield_starts : (shut : Bool) (t : Tree) → Begun (starts t) (starts (shield shut t))
  shield_starts shut (leaf s x) = inl refl
  shield_starts shut (list ts) = each_starts shut ts
  shield_starts shut (node k cs) =
      let ds : Forest = shields (shut && not (is_in (node k cs))) (positions k) cs in
      wrap_starts k cs ds (shut && is_in (node k ds)) (shields_starts (shut && not (is_in (node k cs))) (positions k) cs)

  shields_starts : (shut : Bool) (ss : List Position) (ts : Forest) → Begun (first_starts ts) (first_starts (shields shut ss ts))
  shields_starts shut [] none = inl refl
  shields_starts shut (s ∷ ss) none = inl refl
  shields_starts shut [] (part t ts) = inl refl
  shields_starts shut (position f c g b a ∷ ss) (part t ts) = shield_starts (is_init c || (shut && not b)) t

  each_starts : (shut : Bool) (ts : Forest) → Begun (first_starts ts) (first_starts (shield_each shut ts))
  each_starts shut none = inl refl
  each_starts shut (part t ts) = shield_starts shut t
