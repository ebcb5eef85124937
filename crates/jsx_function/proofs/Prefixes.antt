-- The words `get`, `set` and `static`: before a key they are no key themselves (ECMA-262 sections 15.4 and 15.7).
use Rattle.std.proofs.Common.{◌≡◌, Bool, true, false, refl, sym, ◌∙◌, ap, subst}
use Rattle.std.specs.Prelude.{IsTrue, codes}
use Rattle.jsx_base.specs.Token.{Text, Operator, Punctuator, IdentifierName, StringLiteral, NumericLiteral, BigIntLiteral, same}
use Rattle.jsx_tree.specs.Signs.{Sign, Tok}
use Rattle.jsx_tree.specs.Kinds.{leaf}
use Rattle.jsx_tree.specs.Nonterminals.{Key}
use Rattle.jsx_tree.specs.Grammar.{Part, pun}
use Rattle.jsx_tree.specs.Form.{is_leaf}
use Rattle.jsx_tree.specs.Reading.{Place, Lost, At, forth}
use Rattle.jsx_tree.specs.StaticRules.{Surroundings}
use Rattle.jsx_tree.specs.Walk.{is_found, Given, one}
use Rattle.jsx_tree.specs.Answers.{Moves, Only, Barred}
use Rattle.jsx_tree.specs.Faults.{Fault}
use Rattle.jsx_tree.proofs.Apart.{never_both}
use Rattle.jsx_tree.proofs.Rows.Bridge.{found_at}
use Rattle.jsx_token.specs.Here.{Here, leaf_kind, leaf_sign, place_of}
use Rattle.jsx_token.specs.Stage.{key_leaf}
use Rattle.jsx_token.specs.declared.lexer.Leaf.{Leaf}
use Rattle.jsx_token.specs.declared.lexer.Leaf.TheVariants as leaf'
use Rattle.jsx_operand.specs.SoFar.{so_far}
use Rattle.jsx_operand.proofs.Homes.{IsName, IsNumber, IsLong, IsString}
use Rattle.jsx_operand.proofs.Keys.{literal_key, mark_none, no_literal_key}
use Rattle.jsx_function.specs.Methods.{BeginsKey, IsPrefix, NoKey, NoPrefix, by_bracket, by_leaf}

-- ---- whether a key comes next

-- no key can be read there
pub no_key_there : {v : Surroundings} {x : Place} {e : Fault} → NoKey x → Barred so_far v (Part Key) x e
no_key_there n = no_literal_key (record { name = λ t. n.leaves leaf'.Name t refl; bracket = n.bracket }) (λ t. n.leaves leaf'.Str t refl) (λ t. n.leaves leaf'.Num t refl) (λ t. n.leaves leaf'.BigInt t refl)

-- of the tokens one by one
pub no_key_by : {x : Place} → forth (pun "[") x ≡ Lost → ((t : Text) → forth (Tok Operator IdentifierName t) x ≡ Lost) → ((t : Text) → forth (Tok Operator StringLiteral t) x ≡ Lost) → ((t : Text) → forth (Tok Operator NumericLiteral t) x ≡ Lost) → ((t : Text) → forth (Tok Operator BigIntLiteral t) x ≡ Lost) → NoKey x
no_key_by {x} bracket a b c d = record { leaves = at; bracket = bracket }
  where
    at : (l : Leaf) (t : Text) → key_leaf (leaf_kind l) ≡ true → forth (leaf_sign l t) x ≡ Lost
    at leaf'.Name t h = a t
    at leaf'.Str t h = b t
    at leaf'.Num t h = c t
    at leaf'.BigInt t h = d t
    at leaf'.RegExp t h = cc
    at leaf'.NoSubstitution t h = cc
    at leaf'.TemplateHead t h = cc
    at leaf'.JsxName t h = cc

-- before a key stands no mark but its bracket
leaf_before : (x : Place) (l : Leaf) (t d : Text) → key_leaf (leaf_kind l) ≡ true → IsTrue (is_found (forth (leaf_sign l t) x)) → IsTrue (is_found (forth (Tok Operator Punctuator d) x)) → ⊥
leaf_before x leaf'.Name t d h f g = mark_none IsName t d x refl f g
leaf_before x leaf'.Str t d h f g = mark_none IsString t d x refl f g
leaf_before x leaf'.Num t d h f g = mark_none IsNumber t d x refl f g
leaf_before x leaf'.BigInt t d h f g = mark_none IsLong t d x refl f g
leaf_before x leaf'.RegExp t d h f g = cc
leaf_before x leaf'.NoSubstitution t d h f g = cc
leaf_before x leaf'.TemplateHead t d h f g = cc
leaf_before x leaf'.JsxName t d h f g = cc

pub key_before : {x : Place} (d : Text) → same (codes "[") d ≡ false → BeginsKey x → IsTrue (is_found (forth (Tok Operator Punctuator d) x)) → ⊥
key_before {x} d n (by_leaf l t h f) g = leaf_before x l t d h f g
key_before {x} d n (by_bracket f) g = never_both Punctuator Punctuator (codes "[") d x n f g

-- ---- the word

-- it can be read as a key too
pub word_key : {v : Surroundings} {x y : Place} (t : Text) → is_leaf IdentifierName t ≡ true → Moves (Tok Operator IdentifierName t) x y → Only so_far v (Part Key) x (one (leaf IdentifierName t)) y
word_key t w m = literal_key IsName t refl w m.is m.found

-- where it doesn't stand, or stands as a key
pub no_word : {s : Sign} {x y : Here} → x ≡ y → forth s (place_of x) ≡ Lost → NoPrefix s (place_of y)
no_word {s} {x} {y} e n = record { behind = λ f. let bad : IsTrue (is_found Lost) = subst (λ p. IsTrue (is_found p)) (ap (λ h. forth s (place_of h)) (sym e) ∙ n) f in cc }

pub lone_word : {s : Sign} {x y : Here} {p : Place} → x ≡ y → p ≡ forth s (place_of x) → NoKey p → NoPrefix s (place_of y)
lone_word {s} e m n = record { behind = λ f. subst NoKey (m ∙ ap (λ h. forth s (place_of h)) e) n }

pub prefix : {s : Sign} {x y : Here} (z : Here) → x ≡ y → place_of z ≡ forth s (place_of x) → BeginsKey (place_of z) → IsPrefix s (place_of y) (place_of z)
prefix {s} z e m b = record { word = record { is = m ∙ ap (λ h. forth s (place_of h)) e; found = refl }; before = b }

-- ---- from a place that is another

pub leaf_there : {x y : Here} (z : Here) (l : Leaf) (t : Text) → key_leaf (leaf_kind l) ≡ true → x ≡ y → place_of z ≡ forth (leaf_sign l t) (place_of x) → BeginsKey (place_of y)
leaf_there z l t h e m = by_leaf l t h (subst (λ k. IsTrue (is_found (forth (leaf_sign l t) (place_of k)))) e (found_at (sym m) refl))

pub bracket_there : {x y : Here} {b : Bool} → x ≡ y → b ≡ is_found (forth (pun "[") (place_of x)) → b ≡ true → BeginsKey (place_of y)
bracket_there e a h = by_bracket (ap (λ k. is_found (forth (pun "[") (place_of k))) (sym e) ∙ (sym a ∙ h))

lost_by : (x : Place) → is_found x ≡ false → x ≡ Lost
lost_by Lost e = refl
lost_by (At q e text) h = cc

pub bracket_gone : {x y : Here} {b : Bool} → x ≡ y → b ≡ is_found (forth (pun "[") (place_of x)) → b ≡ false → forth (pun "[") (place_of y) ≡ Lost
bracket_gone {y = y} e a h = lost_by (forth (pun "[") (place_of y)) (ap (λ k. is_found (forth (pun "[") (place_of k))) (sym e) ∙ (sym a ∙ h))

pub lost_to : {x y : Here} (s : Text → Sign) → x ≡ y → ((t : Text) → forth (s t) (place_of x) ≡ Lost) → (t : Text) → forth (s t) (place_of y) ≡ Lost
lost_to s e n t = ap (λ k. forth (s t) (place_of k)) (sym e) ∙ n t

pub key_from : {v : Surroundings} {x y : Here} {g : Given} {z : Place} → x ≡ y → Only so_far v (Part Key) (place_of x) g z → Only so_far v (Part Key) (place_of y) g z
key_from {v} {g = g} {z} e o = subst (λ h. Only so_far v (Part Key) (place_of h) g z) e o

pub no_key_from : {v : Surroundings} {x y : Here} {o : Fault} → x ≡ y → Barred so_far v (Part Key) (place_of x) o → Barred so_far v (Part Key) (place_of y) o
no_key_from {v} {o = o} e b = subst (λ h. Barred so_far v (Part Key) (place_of h) o) e b
