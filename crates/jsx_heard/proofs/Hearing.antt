-- Calls one after the other, and loops: each adds what is said of one tree more.
use Rattle.std.proofs.Common.{◌≡◌, ◌<◌, ◌≤◌, ◌+◌, ℕ, List, [], ◌∷◌, ◌++◌, map, take, length, get_or, refl, sym, ap, ◌∙◌, append_assoc, append-nil, Box, Global, Result}
use Rattle.std.specs.Prelude.{OnOk}
use Rattle.std.proofs.lemmas.List.{take_more, take_all, map-append}
use Rattle.std.proofs.lemmas.Result.{on_ok_weaker}
use Rattle.jsx_tree.specs.Kinds.{Role, Tree, part}
use Rattle.jsx_tree.specs.View.{OfObject, OfClass, inside, forest, forest_at, members_of_object, members_of_class, view_member, view_pattern}
use Rattle.jsx_tree.specs.declared.tree.Pat.{Pat}
use Rattle.jsx_tree.specs.declared.tree.Prop.{Prop}
use Rattle.jsx_tree.specs.Spans.{Told}
use Rattle.jsx_tree.specs.Told.{tales, told_pat, told_prop}
use Rattle.jsx_names.specs.Events.{Mode}
use Rattle.jsx_names.specs.declared.event.Event as code
use Rattle.jsx_heard.specs.Said.{Naming, Round, Met, met_one, met_all, said, said_each}

-- ---- one after the other

pub pushed : (old new : List code.Event) (e : code.Event) → new ≡ old ++ e ∷ [] → met_all new ≡ met_all old ++ met_one e ∷ []
pushed old new e is = ap met_all is ∙ map-append met_one old (e ∷ [])

pub as_said : {T E : Type 0} (r : Result T E) (old new a all : List Met) → all ≡ a → OnOk r (new ≡ old ++ a) → OnOk r (new ≡ old ++ all)
as_said r old new a all is k = on_ok_weaker {P = new ≡ old ++ a} {Q = new ≡ old ++ all} r (λ e. e ∙ ap (λ z. old ++ z) (sym is)) k

pub both_said : (old mid new a b : List Met) → mid ≡ old ++ a → new ≡ mid ++ b → new ≡ old ++ (a ++ b)
both_said old mid new a b x y = y ∙ (ap (λ z. z ++ b) x ∙ append_assoc old a b)

pub then_said : {T E : Type 0} (r : Result T E) (old mid new a b all : List Met) → all ≡ a ++ b → mid ≡ old ++ a → OnOk r (new ≡ mid ++ b) → OnOk r (new ≡ old ++ all)
then_said r old mid new a b all is x k = on_ok_weaker {P = new ≡ mid ++ b} {Q = new ≡ old ++ all} r (λ y. both_said old mid new a b x y ∙ ap (λ z. old ++ z) (sym is)) k

pub three_said : {T E : Type 0} (r : Result T E) (old one two new a b c all : List Met) → all ≡ a ++ (b ++ c) → one ≡ old ++ a → two ≡ one ++ b → OnOk r (new ≡ two ++ c) → OnOk r (new ≡ old ++ all)
three_said r old one two new a b c all is x y k = then_said r old two new (a ++ b) c all (is ∙ sym (append_assoc a b c)) (both_said old one two a b x y) k

pub four_said : {T E : Type 0} (r : Result T E) (old one two three new a b c d all : List Met) → all ≡ a ++ (b ++ (c ++ d)) → one ≡ old ++ a → two ≡ one ++ b → three ≡ two ++ c → OnOk r (new ≡ three ++ d) → OnOk r (new ≡ old ++ all)
four_said r old one two three new a b c d all is x y z k = three_said r old two three new (a ++ b) c d all (is ∙ sym (append_assoc a b (c ++ d))) (both_said old one two a b x y) z k

-- ---- loops

-- a list is said tree by tree
said_two : {X : Type 0} (m : Mode) (n : Naming) (r : Round) (h : X → Tree) (d : X → Told) (xs ys : List X) →
    said_each m n r (forest (map h (xs ++ ys))) (tales (map d (xs ++ ys))) ≡ said_each m n r (forest (map h xs)) (tales (map d xs)) ++ said_each m n r (forest (map h ys)) (tales (map d ys))
said_two m n r h d [] ys = refl
said_two m n r h d (x ∷ xs) ys =
    ap (λ z. said m n r (h x) (d x) ++ z) (said_two m n r h d xs ys)
    ∙ sym (append_assoc (said m n r (h x) (d x)) (said_each m n r (forest (map h xs)) (tales (map d xs))) (said_each m n r (forest (map h ys)) (tales (map d ys))))

said_next : {X : Type 0} (m : Mode) (n : Naming) (r : Round) (h : X → Tree) (d : X → Told) (xs : List X) (i : ℕ) (x : X) → i < length xs → x ≡ get_or xs i x →
    said_each m n r (forest (map h (take (i + 1) xs))) (tales (map d (take (i + 1) xs))) ≡ said_each m n r (forest (map h (take i xs))) (tales (map d (take i xs))) ++ said m n r (h x) (d x)
said_next m n r h d xs i x within at =
    ap (λ z. said_each m n r (forest (map h z)) (tales (map d z))) (take_more xs i x within)
    ∙ (said_two m n r h d (take i xs) (get_or xs i x ∷ [])
    ∙ (ap (λ z. said_each m n r (forest (map h (take i xs))) (tales (map d (take i xs))) ++ z) (append-nil (said m n r (h (get_or xs i x)) (d (get_or xs i x))))
    ∙ ap (λ z. said_each m n r (forest (map h (take i xs))) (tales (map d (take i xs))) ++ said m n r (h z) (d z)) (sym at)))

pub said_more : {X : Type 0} (m : Mode) (n : Naming) (r : Round) (h : X → Tree) (d : X → Told) (xs : List X) (i : ℕ) (x : X) (old mid new : List Met) → i < length xs → x ≡ get_or xs i x →
    mid ≡ old ++ said_each m n r (forest (map h (take i xs))) (tales (map d (take i xs))) → new ≡ mid ++ said m n r (h x) (d x) →
    new ≡ old ++ said_each m n r (forest (map h (take (i + 1) xs))) (tales (map d (take (i + 1) xs)))
said_more m n r h d xs i x old mid new within at so is =
    both_said old mid new (said_each m n r (forest (map h (take i xs))) (tales (map d (take i xs)))) (said m n r (h x) (d x)) so is
    ∙ ap (λ z. old ++ z) (sym (said_next m n r h d xs i x within at))

pub said_all : {X : Type 0} (m : Mode) (n : Naming) (r : Round) (h : X → Tree) (d : X → Told) (xs : List X) (i : ℕ) (old now : List Met) → length xs ≤ i →
    now ≡ old ++ said_each m n r (forest (map h (take i xs))) (tales (map d (take i xs))) → now ≡ old ++ said_each m n r (forest (map h xs)) (tales (map d xs))
said_all m n r h d xs i old now all so = so ∙ ap (λ z. old ++ said_each m n r (forest (map h z)) (tales (map d z))) (take_all i xs all)

-- ---- patterns that bind or assign, and members of objects and classes

patterns_forest : (o : Role) (xs : List (Box Pat Global)) → forest_at o (map (inside view_pattern) xs) ≡ forest (map (λ x. view_pattern x.value o) xs)
patterns_forest o [] = refl
patterns_forest o (x ∷ xs) = ap (part (view_pattern x.value o)) (patterns_forest o xs)

patterns_each : (m : Mode) (n : Naming) (r : Round) (o : Role) (xs : List (Box Pat Global)) → said_each m n r (forest_at o (map (inside view_pattern) xs)) (tales (map (inside told_pat) xs)) ≡ said_each m n r (forest (map (λ x. view_pattern x.value o) xs)) (tales (map (inside told_pat) xs))
patterns_each m n r o xs = ap (λ z. said_each m n r z (tales (map (inside told_pat) xs))) (patterns_forest o xs)

pub patterns_more : (m : Mode) (n : Naming) (r : Round) (o : Role) (xs : List (Box Pat Global)) (i : ℕ) (x : Box Pat Global) (old mid new : List Met) → i < length xs → x ≡ get_or xs i x →
    mid ≡ old ++ said_each m n r (forest_at o (map (inside view_pattern) (take i xs))) (tales (map (inside told_pat) (take i xs))) → new ≡ mid ++ said m n r (view_pattern x.value o) (told_pat x.value) →
    new ≡ old ++ said_each m n r (forest_at o (map (inside view_pattern) (take (i + 1) xs))) (tales (map (inside told_pat) (take (i + 1) xs)))
patterns_more m n r o xs i x old mid new within at so is =
    said_more m n r (λ x. view_pattern x.value o) (inside told_pat) xs i x old mid new within at (so ∙ ap (λ z. old ++ z) (patterns_each m n r o (take i xs))) is
    ∙ ap (λ z. old ++ z) (sym (patterns_each m n r o (take (i + 1) xs)))

object_forest : (xs : List (Box Prop Global)) → members_of_object (map (inside view_member) xs) ≡ forest (map (λ x. view_member x.value OfObject) xs)
object_forest [] = refl
object_forest (x ∷ xs) = ap (part (view_member x.value OfObject)) (object_forest xs)

object_each : (m : Mode) (n : Naming) (r : Round) (xs : List (Box Prop Global)) → said_each m n r (members_of_object (map (inside view_member) xs)) (tales (map (inside told_prop) xs)) ≡ said_each m n r (forest (map (λ x. view_member x.value OfObject) xs)) (tales (map (inside told_prop) xs))
object_each m n r xs = ap (λ z. said_each m n r z (tales (map (inside told_prop) xs))) (object_forest xs)

pub object_more : (m : Mode) (n : Naming) (r : Round) (xs : List (Box Prop Global)) (i : ℕ) (x : Box Prop Global) (old mid new : List Met) → i < length xs → x ≡ get_or xs i x →
    mid ≡ old ++ said_each m n r (members_of_object (map (inside view_member) (take i xs))) (tales (map (inside told_prop) (take i xs))) → new ≡ mid ++ said m n r (view_member x.value OfObject) (told_prop x.value) →
    new ≡ old ++ said_each m n r (members_of_object (map (inside view_member) (take (i + 1) xs))) (tales (map (inside told_prop) (take (i + 1) xs)))
object_more m n r xs i x old mid new within at so is =
    said_more m n r (λ x. view_member x.value OfObject) (inside told_prop) xs i x old mid new within at (so ∙ ap (λ z. old ++ z) (object_each m n r (take i xs))) is
    ∙ ap (λ z. old ++ z) (sym (object_each m n r (take (i + 1) xs)))

class_forest : (xs : List (Box Prop Global)) → members_of_class (map (inside view_member) xs) ≡ forest (map (λ x. view_member x.value OfClass) xs)
class_forest [] = refl
class_forest (x ∷ xs) = ap (part (view_member x.value OfClass)) (class_forest xs)

class_each : (m : Mode) (n : Naming) (r : Round) (xs : List (Box Prop Global)) → said_each m n r (members_of_class (map (inside view_member) xs)) (tales (map (inside told_prop) xs)) ≡ said_each m n r (forest (map (λ x. view_member x.value OfClass) xs)) (tales (map (inside told_prop) xs))
class_each m n r xs = ap (λ z. said_each m n r z (tales (map (inside told_prop) xs))) (class_forest xs)

pub class_more : (m : Mode) (n : Naming) (r : Round) (xs : List (Box Prop Global)) (i : ℕ) (x : Box Prop Global) (old mid new : List Met) → i < length xs → x ≡ get_or xs i x →
    mid ≡ old ++ said_each m n r (members_of_class (map (inside view_member) (take i xs))) (tales (map (inside told_prop) (take i xs))) → new ≡ mid ++ said m n r (view_member x.value OfClass) (told_prop x.value) →
    new ≡ old ++ said_each m n r (members_of_class (map (inside view_member) (take (i + 1) xs))) (tales (map (inside told_prop) (take (i + 1) xs)))
class_more m n r xs i x old mid new within at so is =
    said_more m n r (λ x. view_member x.value OfClass) (inside told_prop) xs i x old mid new within at (so ∙ ap (λ z. old ++ z) (class_each m n r (take i xs))) is
    ∙ ap (λ z. old ++ z) (sym (class_each m n r (take (i + 1) xs)))
