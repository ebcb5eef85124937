-- A tag's name is read as a reference, or between quotes as a string.
use Rattle.std.proofs.Common.{◌≡◌, ℕ, List, [], ◌∷◌, Bool, true, false, cond, not, ◌&&◌, ◌||◌, nat_eq, refl, sym, ap, ◌∙◌, subst, codes}
use Rattle.jsx_base.specs.Token.{Text, Tag, JsxName, Punctuator, is_kind, same, among, is_start, is_part, first_is, skip, breaks, State, Dead, Done, InName, InJsxName, InJsxString, is_dead, accepts, taken, left, last_state, state, ended, lexed, at_front, token}
use Rattle.jsx_base.proofs.Automata.{runs}
use Rattle.jsx_tree.specs.Nonterminals.{has_dash, reserved, is_ident, is_value_word}
use Rattle.jsx_tree.specs.Form.{is_leaf}
use Rattle.react_compile.specs.Element.{is_lower}
use Rattle.react_compile.specs.Lowering.{is_string_tag}
use Rattle.react_compile.proofs.Tests.{here, there, same_is, cond_true}
use Rattle.react_compile.proofs.Becomes.{Never, either, to, dead, last_never, accepts_never}
use Rattle.react_compile.proofs.Words.{Front, front_of, Word, Is, taken_all, runs_all, ended_kind, first_only, over, not_blank}

-- ---- a leaf that is one name of a tag

pub in_jsx_name : (t : Text) → last_state InJsxName t ≡ InJsxName
in_jsx_name [] = refl
in_jsx_name (c ∷ t) = go (is_part c || nat_eq c 45) (in_jsx_name t)
  where
    go : (b : Bool) → last_state InJsxName t ≡ InJsxName → cond (is_dead (cond b InJsxName Dead)) InJsxName (last_state (cond b InJsxName Dead) t) ≡ InJsxName
    go true h = h
    go false h = refl

-- a tag's name: its first character and the others
pub record TagName (x : Text) : Type 0 where
  pub first : ℕ
  pub others : Text
  pub is : x ≡ first ∷ others
  pub front : Front first
  pub starts : is_start first ≡ true
  pub runs_on : runs InJsxName others ≡ true

record BegunTag (text x : Text) : Type 0 where
  first : ℕ
  others : Text
  text_is : text ≡ first ∷ others
  is : x ≡ first ∷ others
  starts : is_start first ≡ true
  runs_on : runs InJsxName others ≡ true

tag_never : (c : ℕ) (t : Text) → is_start c ≡ false → Never JsxName (state Tag c t)
tag_never c t h = first_only (is_start c) InJsxName h (either _ (to (InJsxString c) refl) (either _ (to (Done Punctuator) refl) dead))

lexed_tag : (s : State) (c : ℕ) (t : Text) → Never JsxName s → is_kind (lexed Tag s c t).kind JsxName ≡ false
lexed_tag Dead c t h = refl
lexed_tag s c t h = ended_kind JsxName (accepts (last_state s t)) (c ∷ taken s t) (left s t) refl (accepts_never JsxName (last_state s t) refl (last_never JsxName s t h).says)

as_tag : (c : ℕ) (t x : Text) → Is (lexed Tag InJsxName c t) JsxName x [] → is_start c ≡ true → BegunTag (c ∷ t) x
as_tag c t x l s =
    let e : accepts (last_state InJsxName t) ≡ JsxName = ap accepts (in_jsx_name t) in
    let r : left InJsxName t ≡ [] = sym (ap (λ k. (ended k (c ∷ taken InJsxName t) (left InJsxName t)).rest) e) ∙ l.rest_is in
    let w : c ∷ taken InJsxName t ≡ x = sym (ap (λ k. (ended k (c ∷ taken InJsxName t) (left InJsxName t)).raw) e) ∙ l.raw_is in
    record { first = c; others = t; text_is = refl; is = sym w ∙ ap (λ y. c ∷ y) (taken_all InJsxName t r); starts = s; runs_on = runs_all InJsxName t r }

as_front : (fresh : Bool) (text x : Text) → Is (at_front Tag fresh text) JsxName x [] → BegunTag text x
as_front fresh [] x l = let k = l.kind_is in cc
as_front fresh (c ∷ t) x l = go (is_start c) refl
  where
    go : (b : Bool) → is_start c ≡ b → BegunTag (c ∷ t) x
    go true e = as_tag c t x (subst (λ s. Is (lexed Tag s c t) JsxName x []) (cond_true (is_start c) InJsxName _ e) l) e
    go false e = let n : is_kind (lexed Tag (state Tag c t) c t).kind JsxName ≡ false = lexed_tag (state Tag c t) c t (tag_never c t e) in let k = l.kind_is in cc

pub tag_of_leaf : (x : Text) → is_leaf JsxName x ≡ true → TagName x
tag_of_leaf x h =
    let l : Is (token Tag false x) JsxName x [] = record { kind_is = here _ _ (here _ _ h); raw_is = same_is _ _ (there _ _ (here _ _ h)); rest_is = same_is _ _ (there _ _ h) } in
    let b : BegunTag (skip x) x = as_front (breaks x) (skip x) x l in
    let u : skip (b.first ∷ b.others) ≡ b.first ∷ b.others = subst (λ y. skip y ≡ b.first ∷ b.others) b.is b.text_is in
    record { first = b.first; others = b.others; is = b.is; front = front_of b.first b.starts (not_blank b.first b.others (over b.first b.others u)); starts = b.starts; runs_on = b.runs_on }

-- ---- as a reference

no_dash : (t : Text) → runs InJsxName t ≡ true → has_dash t ≡ false → runs InName t ≡ true
no_dash [] h n = refl
no_dash (c ∷ t) h n = go (is_part c) (nat_eq c 45) (no_dash t) h n
  where
    go : (p d : Bool) → (runs InJsxName t ≡ true → has_dash t ≡ false → runs InName t ≡ true)
        → cond (is_dead (cond (p || d) InJsxName Dead)) false (runs (cond (p || d) InJsxName Dead) t) ≡ true → (d || has_dash t) ≡ false → cond (is_dead (cond p InName Dead)) false (runs (cond p InName Dead) t) ≡ true
    go p true r h n = cc
    go true false r h n = r h n
    go false false r h n = cc

has_dash_first : (c : ℕ) (t : Text) → has_dash (c ∷ t) ≡ false → has_dash t ≡ false
has_dash_first c t h = go (nat_eq c 45) h
  where
    go : (b : Bool) → (b || has_dash t) ≡ false → has_dash t ≡ false
    go true e = cc
    go false e = e

pub word_of_tag : (x : Text) → TagName x → has_dash x ≡ false → Word x
word_of_tag x g n =
    record {
      first = g.first;
      others = g.others;
      is = g.is;
      front = g.front;
      starts = g.starts;
      runs_on = no_dash g.others g.runs_on (has_dash_first g.first g.others (subst (λ y. has_dash y ≡ false) g.is n));
    }

all_lower : List Text → Bool
all_lower [] = true
all_lower (w ∷ ws) = first_is is_lower w && all_lower ws

-- no text that begins otherwise is among words that all begin with a lower-case letter
not_among : (t : Text) (ws : List Text) → first_is is_lower t ≡ false → all_lower ws ≡ true → among t ws ≡ false
unfolding all_lower
not_among t [] h a = refl
not_among t (w ∷ ws) h a = go (same t w) refl (not_among t ws h (there _ _ a))
  where
    go : (b : Bool) → same t w ≡ b → among t ws ≡ false → (b || among t ws) ≡ false
    go false e r = r
    go true e r = let f : first_is is_lower t ≡ first_is is_lower w = ap (first_is is_lower) (same_is t w e) in let g : first_is is_lower w ≡ true = here _ _ a in cc

reserved_lower : all_lower reserved ≡ true
unfolding all_lower
reserved_lower = refl

-- a tag that isn't a string has no dash and may stand as an expression
pub record Reference (t : Text) : Type 0 where
  pub dashless : has_dash t ≡ false
  pub value_word : is_value_word t ≡ true

or_false : (a b : Bool) → (a || b) ≡ false → (a ≡ false) × (b ≡ false)
or_false true b h = cc
or_false false b h = (refl, h)

value : (i b : Bool) → i ≡ true → (i || b) ≡ true
value true b h = refl
value false b h = cc

pub reference : (t : Text) → is_string_tag t ≡ false → Reference t
reference t h = go (same t (codes "this")) refl h
  where
    go : (b : Bool) → same t (codes "this") ≡ b → (not b && (first_is is_lower t || has_dash t)) ≡ false → Reference t
    go true e f = subst Reference (sym (same_is t (codes "this") e)) (record { dashless = refl; value_word = refl })
    go false e f =
        let o = or_false (first_is is_lower t) (has_dash t) f in
        record { dashless = o.1; value_word = value (is_ident t) _ (ap not (not_among t reserved o.0 reserved_lower)) }
