-- Words as texts and as bytes.
use Rattle.std.proofs.Common.{◌≡◌, ℕ, Bool, true, false, List, [], ◌∷◌, refl, sym, ◌∙◌, ap}
use Rattle.std.specs.Prelude.{◌||◌, ◌&&◌, codes}
use Rattle.std.specs.List.{list_any}
use Rattle.std.specs.Str.{chars, bytes_eq, IsUtf8}
use Rattle.std.proofs.lemmas.Str.{chars-encodes, encodes-chars}
use Rattle.std.proofs.lemmas.Slice.Eq.{bytes_eq-Decides}
use lib.Utf8.{encode, scalars, encodes}
use Rattle.jsx_base.specs.Token.{Text, IdentifierName, same, among}
use Rattle.jsx_tree.specs.Kinds.{leaf}
use Rattle.jsx_tree.specs.Nonterminals as grammar
use Rattle.jsx_tree.specs.Reading.{going_on}
use Rattle.jsx_tree.proofs.Tokens.{and_left, and_right, same_is, same_self}

-- whether the characters of the word are its bytes
abbrev pub is_plain : Text → Bool
is_plain w = bytes_eq (encodes w) w && scalars w

abbrev pub all_plain : List Text → Bool
all_plain [] = true
all_plain (w ∷ ws) = is_plain w && all_plain ws

pub by_both : (a b : Bool) → (a ≡ true → b ≡ true) → (b ≡ true → a ≡ true) → a ≡ b
by_both true b f g = sym (f refl)
by_both false true f g = g refl
by_both false false f g = refl

pub same_bytes : (w bs : List ℕ) → IsUtf8 bs → is_plain w ≡ true → bytes_eq w bs ≡ same (chars bs) w
same_bytes w bs u p =
    let e : encodes w ≡ w = (bytes_eq-Decides (encodes w) w).0 (and_left _ _ p) in
    by_both _ _
    (λ is. let f : w ≡ bs = (bytes_eq-Decides w bs).0 is in
    let g : chars bs ≡ w = ap chars (sym f) ∙ (ap chars (sym e) ∙ chars-encodes w (and_right _ _ p)) in
    ap (λ t. same t w) g ∙ same_self w)
    (λ is. (bytes_eq-Decides w bs).1 (let g : chars bs ≡ w = same_is _ _ is in sym e ∙ (ap encodes (sym g) ∙ encodes-chars bs u)))

any_among : (ws : List Text) (bs : List ℕ) → IsUtf8 bs → all_plain ws ≡ true → list_any (λ y. bytes_eq y bs) ws ≡ among (chars bs) ws
any_among [] bs u p = refl
any_among (w ∷ ws) bs u p = λ i. same_bytes w bs u (and_left _ _ p) i || any_among ws bs u (and_right _ _ p) i

pub any_reserved : (bs : List ℕ) → IsUtf8 bs → list_any (λ y. bytes_eq y bs) grammar.reserved ≡ among (chars bs) grammar.reserved
unfolding encode
any_reserved bs u = any_among grammar.reserved bs u refl

pub any_going_on : (bs : List ℕ) → IsUtf8 bs → list_any (λ y. bytes_eq y bs) going_on ≡ among (chars bs) going_on
unfolding encode
any_going_on bs u = any_among going_on bs u refl

pub any_restricted : (bs : List ℕ) → IsUtf8 bs → list_any (λ y. bytes_eq y bs) (codes "eval" ∷ codes "arguments" ∷ []) ≡ among (chars bs) (codes "eval" ∷ codes "arguments" ∷ [])
unfolding encode
any_restricted bs u = any_among (codes "eval" ∷ codes "arguments" ∷ []) bs u refl

turned : (xs ys : List ℕ) → bytes_eq xs ys ≡ bytes_eq ys xs
turned xs ys = by_both _ _ (λ e. (bytes_eq-Decides ys xs).1 (sym ((bytes_eq-Decides xs ys).0 e))) (λ e. (bytes_eq-Decides xs ys).1 (sym ((bytes_eq-Decides ys xs).0 e)))

pub same_this : (bs : List ℕ) → IsUtf8 bs → bytes_eq bs (codes "this") ≡ same (chars bs) (codes "this")
unfolding encode
same_this bs u = turned bs (codes "this") ∙ same_bytes (codes "this") bs u refl

pub same_null : (bs : List ℕ) → IsUtf8 bs → bytes_eq bs (codes "null") ≡ same (chars bs) (codes "null")
unfolding encode
same_null bs u = turned bs (codes "null") ∙ same_bytes (codes "null") bs u refl

pub same_true : (bs : List ℕ) → IsUtf8 bs → bytes_eq bs (codes "true") ≡ same (chars bs) (codes "true")
unfolding encode
same_true bs u = turned bs (codes "true") ∙ same_bytes (codes "true") bs u refl

pub same_false : (bs : List ℕ) → IsUtf8 bs → bytes_eq bs (codes "false") ≡ same (chars bs) (codes "false")
unfolding encode
same_false bs u = turned bs (codes "false") ∙ same_bytes (codes "false") bs u refl

-- the leaf of a word, and that the word is an expression
pub word_view : {t : Text} (u : Text) → same t u ≡ true → leaf IdentifierName u ≡ leaf IdentifierName t
word_view {t} u e = ap (leaf IdentifierName) (sym (same_is t u e))

pub word_value : (t u : Text) → grammar.is_value_word u ≡ true → same t u ≡ true → grammar.is_value_word t ≡ true
word_value t u v e = ap grammar.is_value_word (same_is t u e) ∙ v
