-- Getters and setters from their words on, for both at once: in an object, in what a class makes, and in the class itself (ECMA-262 sections 15.4 and 15.7).
use Rattle.std.proofs.Common.{◌≡◌, Bool, true, false, List, [], ◌∷◌, refl, sym, ◌∙◌, subst}
use Rattle.std.specs.Prelude.{IsTrue, codes}
use Rattle.jsx_base.specs.Token.{Text, Operator, IdentifierName}
use Rattle.jsx_tree.specs.Signs.{Sign, Tok}
use Rattle.jsx_tree.specs.Kinds.{Getter, Holder, InClass, InObject, Kind, Setter, Static, function, leaf, Forest}
use Rattle.jsx_tree.specs.Nonterminals.{Key}
use Rattle.jsx_tree.specs.Grammar.{Context, Fixed, Part}
use Rattle.jsx_tree.specs.Form.{is_leaf}
use Rattle.jsx_tree.specs.Reading.{Place, forth}
use Rattle.jsx_tree.specs.StaticRules.{Surroundings}
use Rattle.jsx_tree.specs.Walk.{is_found, one, Piece, piece, sign, Walk, next, around}
use Rattle.jsx_tree.specs.Language.{Whole}
use Rattle.jsx_tree.specs.Answers.{Moves, Only}
use Rattle.jsx_tree.proofs.Apart.{never_both}
use Rattle.jsx_tree.proofs.Rows.Bridge.{found_at}
use Rattle.jsx_tree.specs.Faults.{Unread}
use Rattle.jsx_operand.specs.SoFar.{so_far}
use Rattle.jsx_function.specs.Methods.{IsPrefix, NoKey, NoPrefix, element_row, from_key, is_getter, is_setter}
use Rattle.jsx_function.proofs.Keyed.{getter_is, setter_is}
use Rattle.jsx_function.proofs.Prefixes.{no_key_there, word_key}

-- ---- the two

abbrev pub accessor_word : Bool → Text
accessor_word true = codes "get"
accessor_word false = codes "set"

abbrev pub accessor_sign : Bool → Sign
accessor_sign b = Tok Operator IdentifierName (accessor_word b)

abbrev pub accessor_kind : Holder → Bool → Kind
accessor_kind h true = function (Getter h)
accessor_kind h false = function (Setter h)

abbrev pub is_accessor : Holder → Bool → Kind → Bool
is_accessor h true = is_getter h
is_accessor h false = is_setter h

pub accessor_is : (h : Holder) (b : Bool) (k : Kind) → is_accessor h b k ≡ true → accessor_kind h b ≡ k
accessor_is h true k e = getter_is h k e
accessor_is h false k e = setter_is h k e

pub accessor_row : (h : Holder) (b : Bool) → element_row h (accessor_kind h b) ≡ piece [] (Fixed (accessor_sign b)) ∷ from_key (accessor_kind h b)
accessor_row InObject true = refl
accessor_row InObject false = refl
accessor_row InClass true = refl
accessor_row InClass false = refl
accessor_row Static true = refl
accessor_row Static false = refl

accessor_leaf : (b : Bool) → is_leaf IdentifierName (accessor_word b) ≡ true
accessor_leaf true = refl
accessor_leaf false = refl

-- ---- a row that begins with a word

pub worded_led : {V : List Context → Surroundings} {s : Sign} {ps : List Piece} {x z : Place} {ts : Forest} → Walk (Whole so_far) V (piece [] (Fixed s) ∷ ps) x ts z → IsTrue (is_found (forth s x))
worded_led (next (sign e f) w) = found_at e f

-- where the word stands as a key, or doesn't
pub unworded : {v : Surroundings} {s : Sign} {x z : Place} {us ts : Forest} (k : Kind) → NoPrefix s x → Walk (Whole so_far) (around v us) (piece [] (Fixed s) ∷ from_key k) x ts z → ⊥
unworded k n (next (sign e f) (next q w)) = (no_key_there {e = Unread} (subst NoKey e (n.behind (found_at e f)))).no _ _ q tt

-- behind the word
pub record Behind (V : List Context → Surroundings) (ps : List Piece) (y : Place) (ts : Forest) (z : Place) : Type 0 where
  pub walk : Walk (Whole so_far) V ps y ts z

pub behind_word : {V : List Context → Surroundings} {s : Sign} {ps : List Piece} {x y z : Place} {ts : Forest} → Moves s x y → Walk (Whole so_far) V (piece [] (Fixed s) ∷ ps) x ts z → Behind V ps y ts z
behind_word {V} {ps = ps} {z = z} {ts} m (next (sign e f) w) = record { walk = subst (λ q. Walk (Whole so_far) V ps q ts z) (sym (m.is ∙ e)) w }

-- of the two words one stands there
pub one_accessor : (b c : Bool) (x : Place) → IsTrue (is_found (forth (accessor_sign b) x)) → IsTrue (is_found (forth (accessor_sign c) x)) → b ≡ c
one_accessor true true x f g = refl
one_accessor false false x f g = refl
one_accessor true false x f g = absurd (never_both IdentifierName IdentifierName (codes "get") (codes "set") x refl f g)
one_accessor false true x f g = absurd (never_both IdentifierName IdentifierName (codes "set") (codes "get") x refl f g)

pub word_there : {x y : Place} (b : Bool) → IsPrefix (accessor_sign b) x y → IsTrue (is_found (forth (accessor_sign b) x))
word_there b i = found_at (sym i.word.is) i.word.found

-- it can be read as a key
pub accessor_key : {v : Surroundings} {x y : Place} (b : Bool) → Moves (accessor_sign b) x y → Only so_far v (Part Key) x (one (leaf IdentifierName (accessor_word b))) y
accessor_key b m = word_key (accessor_word b) (accessor_leaf b) m
