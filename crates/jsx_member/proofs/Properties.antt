-- Properties of an object behind their keys (ECMA-262 section 13.2.5): beside methods, the members of an object whose first token is in their key.
use Rattle.std.proofs.Common.{◌≡◌, Bool, true, false, [], refl, ◌∙◌}
use Rattle.std.specs.Prelude.{IsTrue, codes, ◌||◌}
use Rattle.jsx_base.specs.Token.{Punctuator}
use Rattle.jsx_tree.specs.declared.tree.Key.{Key}
use Rattle.jsx_tree.specs.Kinds.{InObject, Kind, Property, expression, Tree, Forest, part}
use Rattle.jsx_tree.specs.Grammar.{pun}
use Rattle.jsx_tree.specs.Reading.{Place, forth}
use Rattle.jsx_tree.specs.StaticRules.{Surroundings}
use Rattle.jsx_tree.specs.View.{view_key}
use Rattle.jsx_tree.specs.Walk.{is_found, sign, Walk, next, steady, tail}
use Rattle.jsx_tree.specs.Language.{Whole}
use Rattle.jsx_tree.specs.Answers.{NoRow, Built}
use Rattle.jsx_tree.specs.Faults.{Fault, Shallow, deepest}
use Rattle.jsx_tree.proofs.Tokens.{and_both}
use Rattle.jsx_tree.proofs.Apart.{never_both}
use Rattle.jsx_tree.proofs.Rows.Bridge.{found_at}
use Rattle.jsx_tree.proofs.Rows.Bodies.{plain as plain_row}
use Rattle.jsx_tree.proofs.Rows.Guarded.{to_grammar}
use Rattle.jsx_token.specs.Marks.{row_so_far}
use Rattle.jsx_operand.specs.SoFar.{so_far}
use Rattle.jsx_operand.proofs.OfSoFar.{of_so_far}
use Rattle.jsx_function.specs.Methods.{NoneKeyed, OnlyKeyed, is_method}
use Rattle.jsx_function.proofs.Keyed.{Behind, keyed_none, keyed_only, plain_keyed}

-- ---- of which kinds

abbrev pub is_property : Kind → Bool
is_property (expression Property) = true
is_property k = false

abbrev pub keyed_in_object : Kind → Bool
keyed_in_object k = is_property k || is_method InObject k

-- ---- behind the key

property_is : (j : Kind) → is_property j ≡ true → expression Property ≡ j
property_is (expression Property) e = refl
property_is _ e = cc

property_behind : Behind is_property (expression Property) [] (tail (row_so_far (expression Property)))
property_behind = record { passes = refl; alone = λ j e. property_is j e; row = refl; freed = refl }

-- no body is among its parts
pub property_only : {v : Surroundings} {x y : Place} {t : Tree} (k : Key) → Built so_far v (tail (row_so_far (expression Property))) (expression Property) (part (view_key k)) t x y → OnlyKeyed is_property v (view_key k) t x y
property_only {v} k b = keyed_only property_behind (λ us. refl) b.row (and_both _ _ (plain_keyed k b.parts ∙ plain_row (tail (row_so_far (expression Property))) refl (to_grammar of_so_far b.row.walk)) refl) b.is

pub no_property : {v : Surroundings} {x : Place} {e : Fault} (key : Tree) → NoRow so_far v (tail (row_so_far (expression Property))) x e → NoneKeyed is_property v key x e
no_property {v} key n = keyed_none property_behind (λ us. refl) (λ us z w m. n.no us z w)

-- none where a `(` stands there
pub no_colon : {v : Surroundings} {x : Place} {o : Fault} → IsTrue (is_found (forth (pun "(") x)) → NoRow so_far v (tail (row_so_far (expression Property))) x o
no_colon {v} {x} {o = o} f = record { no = λ ts z w h. at w h }
  where
    at : {ts : Forest} {z : Place} → Walk (Whole so_far) (steady v) (tail (row_so_far (expression Property))) x ts z → Shallow o (deepest ts) → ⊥
    at (next (sign e g) w) s = never_both Punctuator Punctuator (codes "(") (codes ":") x refl f (found_at e g)
