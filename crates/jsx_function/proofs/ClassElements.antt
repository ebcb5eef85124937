-- A member of a class behind its `static`, or where there is none: a method, a getter, a setter or a field (ECMA-262 section 15.7).
use Rattle.std.proofs.Common.{◌≡◌, Bool, true, false, [], ◌∷◌, refl, sym, ◌∙◌, ap, subst, ◌≤◌}
use Rattle.std.specs.Prelude.{IsTrue, codes, ◌||◌}
use Rattle.jsx_base.specs.Token.{Text, Operator, IdentifierName, among, same}
use Rattle.jsx_tree.specs.Signs.{Tok}
use Rattle.jsx_tree.specs.Kinds.{Field, Holder, InClass, InObject, Kind, Method, Static, function, Tree, leaf, node, Forest, part}
use Rattle.jsx_tree.specs.Nonterminals.{Key}
use Rattle.jsx_tree.specs.Grammar.{Fixed, Part}
use Rattle.jsx_tree.specs.Grammar as symbol
use Rattle.jsx_tree.specs.Reading.{Place, forth, prefix_words}
use Rattle.jsx_tree.specs.StaticRules.{Surroundings}
use Rattle.jsx_tree.specs.Walk.{is_found, one, piece, sign, tree, Walk, next, around}
use Rattle.jsx_tree.specs.Language.{Whole}
use Rattle.jsx_tree.specs.Answers.{Moves, Only, Barred}
use Rattle.jsx_tree.specs.Faults.{Fault, Below, Shallow, deepest, inner, outer}
use Rattle.jsx_tree.proofs.Rows.Stopping.{or_cases}
use Rattle.jsx_tree.proofs.Depth.Shallow.{shallow_first, shallow_up, part_up}
use Rattle.jsx_token.specs.Here.{Here, place_of}
use Rattle.jsx_operand.specs.SoFar.{so_far}
use Rattle.jsx_operand.proofs.Values.{or_left, or_right}
use Rattle.jsx_function.specs.declared.method.Home as code
use Rattle.jsx_function.specs.declared.method.Home.TheVariants as home
use Rattle.jsx_function.specs.Methods.{BeginsKey, IsPrefix, NoElement, NoPrefix, NoneFromKey, NoneKeyed, OnlyElement, OnlyFromKey, OnlyKeyed, behind_key, element_row, from_key, holder_at, is_classed, is_element, is_field, is_getter, is_method, is_setter, keyed_in_class, same_holder}
use Rattle.jsx_function.proofs.Fields.{word_unfielded}
use Rattle.jsx_function.proofs.Inside.{deep_behind, inner_outer}
use Rattle.jsx_function.proofs.Keyed.{code_behind, field_behind_in, field_is, method_is, past}
use Rattle.jsx_function.proofs.Prefixes.{key_before}
use Rattle.jsx_function.proofs.Worded.{accessor_is, accessor_key, accessor_row, accessor_sign, accessor_word, behind_word, is_accessor, one_accessor, unworded, word_there, worded_led}

-- a home of members of a class
pub classed_holder : (h : code.Home) → is_classed h ≡ true → same_holder (holder_at h) InObject ≡ false
classed_holder home.Object e = cc
classed_holder home.Instance e = refl
classed_holder home.Static e = refl

-- ---- the rows

method_element : (h : Holder) → element_row h (function (Method h)) ≡ from_key (function (Method h))
method_element InObject = refl
method_element InClass = refl
method_element Static = refl

field_element : (h : Holder) → element_row h (function (Field h)) ≡ from_key (function (Field h))
field_element InObject = refl
field_element InClass = refl
field_element Static = refl

pub keyed_element : (h : Holder) (k : Kind) → keyed_in_class h k ≡ true → element_row h k ≡ from_key k
keyed_element h k e = or_cases (is_method h k) (is_field h k) e (λ m. subst (λ j. element_row h j ≡ from_key j) (method_is h k m) (method_element h)) (λ f. subst (λ j. element_row h j ≡ from_key j) (field_is h k f) (field_element h))

-- which of the two forms it has
data Form (h : Holder) (k : Kind) : Type 0 where
  keyed : keyed_in_class h k ≡ true → Form h k
  worded : (b : Bool) → is_accessor h b k ≡ true → Form h k

form_of : (h : Holder) (k : Kind) → is_element h k ≡ true → Form h k
form_of h k e = or_cases (keyed_in_class h k) _ e (λ f. keyed f) (λ f. or_cases (is_getter h k) (is_setter h k) f (λ g. worded true g) (λ g. worded false g))

element_keyed : (h : Holder) (k : Kind) → keyed_in_class h k ≡ true → is_element h k ≡ true
element_keyed h k e = or_left (keyed_in_class h k) _ e

element_worded : (h : Holder) (b : Bool) (k : Kind) → is_accessor h b k ≡ true → is_element h k ≡ true
element_worded h true k e = or_right (keyed_in_class h k) _ (or_left (is_getter h k) (is_setter h k) e)
element_worded h false k e = or_right (keyed_in_class h k) _ (or_right (is_getter h k) (is_setter h k) e)

keyed_walk : {v : Surroundings} {x z : Place} {ts : Forest} (h : Holder) (k : Kind) → keyed_in_class h k ≡ true → Walk (Whole so_far) (around v ts) (element_row h k) x ts z → Walk (Whole so_far) (around v ts) (from_key k) x ts z
keyed_walk {v} {x} {z} {ts} h k e w = subst (λ ps. Walk (Whole so_far) (around v ts) ps x ts z) (keyed_element h k e) w

worded_walk : {v : Surroundings} {x z : Place} {ts : Forest} (h : Holder) (b : Bool) (k : Kind) → is_accessor h b k ≡ true → Walk (Whole so_far) (around v ts) (element_row h k) x ts z → Walk (Whole so_far) (around v ts) (piece [] (Fixed (accessor_sign b)) ∷ from_key k) x ts z
worded_walk {v} {x} {z} {ts} h b k e w = subst (λ ps. Walk (Whole so_far) (around v ts) ps x ts z) (subst (λ j. element_row h j ≡ piece [] (Fixed (accessor_sign b)) ∷ from_key j) (accessor_is h b k e) (accessor_row h b)) w

-- ---- the word before a key is no key

-- neither a method nor a field stands behind it
pub no_keyed_word : {v : Surroundings} {x y z : Place} {us : Forest} (t : Text) (h : Holder) (k : Kind) → keyed_in_class h k ≡ true → among t prefix_words ≡ true → Moves (Tok Operator IdentifierName t) x y → BeginsKey y → Walk (Whole so_far) (around v (part (leaf IdentifierName t) us)) (behind_key k) y us z → ⊥
no_keyed_word {v} {y = y} {z} {us} t h k e w m b r =
    or_cases (is_method h k) (is_field h k) e
    (λ f. code_behind h (key_before (codes "(") refl b) (subst (λ j. Walk (Whole so_far) (around v (part (leaf IdentifierName t) us)) (behind_key j) y us z) (sym (method_is h k f)) r))
    (λ f. field_behind_in h (λ u. word_unfielded t w m b) (subst (λ j. Walk (Whole so_far) (around v (part (leaf IdentifierName t) us)) (behind_key j) y us z) (sym (field_is h k f)) r))

accessor_prefix : (b : Bool) → among (accessor_word b) prefix_words ≡ true
accessor_prefix true = refl
accessor_prefix false = refl

no_word_key : {v : Surroundings} {x y z : Place} {ts : Forest} (h : Holder) (b : Bool) (k : Kind) → keyed_in_class h k ≡ true → IsPrefix (accessor_sign b) x y → Walk (Whole so_far) (around v ts) (from_key k) x ts z → ⊥
no_word_key h b k e i w = let r = past {k = k} (accessor_key b i.word) w in no_keyed_word (accessor_word b) h k e (accessor_prefix b) i.word i.before r.walk

-- ---- a getter or a setter

pub accessor_element : {v : Surroundings} {x y z : Place} {t : Tree} (h : Holder) (b : Bool) → IsPrefix (accessor_sign b) x y → OnlyFromKey (is_accessor h b) v t y z → OnlyElement h v t x z
accessor_element {v} {x} {y} {z} {t} h b i d = record {
  kind = d.kind;
  one = element_worded h b d.kind d.keyed;
  parts = d.parts;
  is = d.is;
  walk = subst (λ ps. Walk (Whole so_far) (around v d.parts) ps x d.parts z) (sym (subst (λ j. element_row h j ≡ piece [] (Fixed (accessor_sign b)) ∷ from_key j) (accessor_is h b d.kind d.keyed) (accessor_row h b))) (next (sign (sym i.word.is) i.word.found) d.walk);
  keeps = d.keeps;
  alone = λ k us w e walk m. at k us w (form_of h k e) walk m;
}
  where
    at : (k : Kind) (us : Forest) (w : Place) → Form h k → Walk (Whole so_far) (around v us) (element_row h k) x us w → so_far.keeps k v us ≡ true → (node k us ≡ t) × (w ≡ z)
    at k us w (keyed e) walk m = absurd (no_word_key h b k e i (keyed_walk h k e walk))
    at k us w (worded c e) walk m =
        let r = worded_walk h c k e walk in
        let same : b ≡ c = one_accessor b c x (word_there b i) (worded_led r) in
        d.alone k us w (subst (λ a. is_accessor h a k ≡ true) (sym same) e) (behind_word i.word (subst (λ a. Walk (Whole so_far) (around v us) (piece [] (Fixed (accessor_sign a)) ∷ from_key k) x us w) (sym same) r)).walk m

pub no_accessor_element : {v : Surroundings} {x y : Place} {o : Fault} (h : Holder) (b : Bool) → IsPrefix (accessor_sign b) x y → NoneFromKey (is_accessor h b) v y o → NoElement h v x o
no_accessor_element {v} {x} {o = o} h b i n = record { no = λ k us w e walk m s'. at k us w (form_of h k e) walk m s' }
  where
    at : (k : Kind) (us : Forest) (w : Place) → Form h k → Walk (Whole so_far) (around v us) (element_row h k) x us w → so_far.keeps k v us ≡ true → Shallow o (deepest us) → ⊥
    at k us w (keyed e) walk m s = no_word_key h b k e i (keyed_walk h k e walk)
    at k us w (worded c e) walk m s =
        let r = worded_walk h c k e walk in
        let same : b ≡ c = one_accessor b c x (word_there b i) (worded_led r) in
        n.no k us w (subst (λ a. is_accessor h a k ≡ true) (sym same) e) (behind_word i.word (subst (λ a. Walk (Whole so_far) (around v us) (piece [] (Fixed (accessor_sign a)) ∷ from_key k) x us w) (sym same) r)).walk m s

-- ---- one whose key comes first

-- no word stands before its key
pub record KeyFirst (x : Place) : Type 0 where
  pub getting : NoPrefix (symbol.key "get") x
  pub setting : NoPrefix (symbol.key "set") x

word_of : {x : Place} → KeyFirst x → (b : Bool) → NoPrefix (accessor_sign b) x
word_of n true = n.getting
word_of n false = n.setting

pub key_first_by : {x y z : Here} → z ≡ y → y ≡ x → NoPrefix (symbol.key "get") (place_of x) → NoPrefix (symbol.key "set") (place_of y) → KeyFirst (place_of z)
key_first_by e f g s = record { getting = subst (λ k. NoPrefix (symbol.key "get") (place_of k)) (sym (e ∙ f)) g; setting = subst (λ k. NoPrefix (symbol.key "set") (place_of k)) (sym e) s }

pub keyed_only : {v : Surroundings} {x y z : Place} {c t : Tree} (h : Holder) → KeyFirst x → Only so_far v (Part Key) x (one c) y → OnlyKeyed (keyed_in_class h) v c t y z → OnlyElement h v t x z
keyed_only {v} {x} {y} {z} {c} {t} h n o d = record {
  kind = d.kind;
  one = element_keyed h d.kind d.keyed;
  parts = part c d.parts;
  is = d.is;
  walk = subst (λ ps. Walk (Whole so_far) (around v (part c d.parts)) ps x (part c d.parts) z) (sym (keyed_element h d.kind d.keyed)) (next o.past d.walk);
  keeps = d.keeps;
  alone = λ k us w e walk m. at k us w (form_of h k e) walk m;
}
  where
    at : (k : Kind) (us : Forest) (w : Place) → Form h k → Walk (Whole so_far) (around v us) (element_row h k) x us w → so_far.keeps k v us ≡ true → (node k us ≡ t) × (w ≡ z)
    at k us w (keyed e) walk m =
        let r = past {k = k} o (keyed_walk h k e walk) in
        let s = d.alone k r.parts w e r.walk (subst (λ f. so_far.keeps k v f ≡ true) (sym r.is) m) in
        (ap (node k) (sym r.is) ∙ s.0, s.1)
    at k us w (worded b e) walk m = absurd (unworded k (word_of n b) (worded_walk h b k e walk))

pub keyed_none : {v : Surroundings} {x y : Place} {c : Tree} {q : Fault} (h : Holder) → KeyFirst x → Only so_far v (Part Key) x (one c) y → NoneKeyed (keyed_in_class h) v c y q → NoElement h v x q
keyed_none {v} {x} {c = c} {q = q} h n o d = record { no = λ k us w e walk m a. at k us w (form_of h k e) walk m a }
  where
    at : (k : Kind) (us : Forest) (w : Place) → Form h k → Walk (Whole so_far) (around v us) (element_row h k) x us w → so_far.keeps k v us ≡ true → Shallow q (deepest us) → ⊥
    at k us w (keyed e) walk m s =
        let r = past {k = k} o (keyed_walk h k e walk) in
        d.no k r.parts w e r.walk (subst (λ f. so_far.keeps k v f ≡ true) (sym r.is) m) (shallow_up q (deepest r.parts) (deepest us) (subst (λ vs. deepest r.parts ≤ deepest vs) r.is (part_up c r.parts)) s)
    at k us w (worded b e) walk m s = unworded k (word_of n b) (worded_walk h b k e walk)

pub key_none : {v : Surroundings} {x : Place} {o : Fault} (h : Holder) → KeyFirst x → Barred so_far v (Part Key) x o → NoElement h v x o
key_none {v} {x} {o = o} h n b = record { no = λ k us w e walk m s'. at k us w (form_of h k e) walk s' }
  where
    first : (k : Kind) {us ts : Forest} {w : Place} → Walk (Whole so_far) (around v us) (from_key k) x ts w → Shallow o (deepest ts) → ⊥
    first k (next {g = g'} {ts = us'} q w) a = b.no _ _ q (shallow_first o g' us' a)

    at : (k : Kind) (us : Forest) (w : Place) → Form h k → Walk (Whole so_far) (around v us) (element_row h k) x us w → Shallow o (deepest us) → ⊥
    at k us w (keyed e) walk s = first k (keyed_walk h k e walk) s
    at k us w (worded c e) walk s = unworded k (word_of n c) (worded_walk h c k e walk)

-- ---- where no level is left for what stands in it

pub deep_element : {v : Surroundings} {x : Place} (e : Fault) (h : Holder) → Below 1 e → NoElement h v x (inner e)
deep_element {v} {x} e h b = record { no = λ k us w f walk m s. at k us w (form_of h k f) walk s }
  where
    first : (k : Kind) {us ts : Forest} {a w : Place} → Walk (Whole so_far) (around v us) (from_key k) a ts w → Shallow (inner e) (deepest ts) → ⊥
    first k (next {g = g'} {ts = us'} q w) s = (deep_behind e b).no _ _ q (shallow_first (inner e) g' us' s)

    second : (c : Bool) (k : Kind) {us ts : Forest} {a w : Place} → Walk (Whole so_far) (around v us) (piece [] (Fixed (accessor_sign c)) ∷ from_key k) a ts w → Shallow (inner e) (deepest ts) → ⊥
    second c k (next (sign f g) w) s = first k w s

    at : (k : Kind) (us : Forest) (w : Place) → Form h k → Walk (Whole so_far) (around v us) (element_row h k) x us w → Shallow (inner e) (deepest us) → ⊥
    at k us w (keyed f) walk s = first k (keyed_walk h k f walk) s
    at k us w (worded c f) walk s = second c k (worded_walk h c k f walk) s

pub element_inside : {h : Holder} {v : Surroundings} {x : Place} {e : Fault} → NoElement h v x e → NoElement h v x (inner (outer e))
element_inside {h} {v} {x} {e} n = subst (λ o. NoElement h v x o) (sym (inner_outer e)) n

-- ---- what it begins with

-- a key, or one of the two words
pub data Front (v : Surroundings) (x : Place) : Type 0 where
  by_key : {c : Tree} {y : Place} → Whole so_far v false Key x c y → Front v x
  by_word : (b : Bool) → IsTrue (is_found (forth (accessor_sign b) x)) → Front v x

pub front_of : {v : Surroundings} {x z : Place} {us : Forest} (h : Holder) (k : Kind) → is_element h k ≡ true → Walk (Whole so_far) (around v us) (element_row h k) x us z → Front v x
front_of {v} {x} {z} {us} h k e walk = at (form_of h k e)
  where
    first : {ts : Forest} → Walk (Whole so_far) (around v us) (from_key k) x ts z → Front v x
    first (next (tree q) w) = by_key q

    at : Form h k → Front v x
    at (keyed f) = first (keyed_walk h k f walk)
    at (worded b f) = by_word b (worded_led (worded_walk h b k f walk))

-- ---- from a place that is another

pub element_from : {h : Holder} {v : Surroundings} {x y : Here} {t : Tree} {z : Place} → x ≡ y → OnlyElement h v t (place_of x) z → OnlyElement h v t (place_of y) z
element_from {h} {v} {t = t} {z} e o = subst (λ k. OnlyElement h v t (place_of k) z) e o

pub no_element_from : {h : Holder} {v : Surroundings} {x y : Here} {o : Fault} → x ≡ y → NoElement h v (place_of x) o → NoElement h v (place_of y) o
no_element_from {h} {v} {o = o} e n = subst (λ k. NoElement h v (place_of k) o) e n
