-- The places of a list that may be read in two ways, tree by tree: of whichever trees the items so far may be (`Kept` in CoverItems).
use Rattle.std.proofs.Common.{◌≡◌, false, List, [], ◌∷◌, ◌++◌, refl, sym, ◌∙◌, ap, subst}
use Rattle.jsx_tree.specs.Kinds.{Tree, Forest, none, part}
use Rattle.jsx_tree.specs.Grammar.{ListShape}
use Rattle.jsx_tree.specs.Spans.{Told}
use Rattle.jsx_tree.specs.Spelling.{behind, between, spelled}
use Rattle.jsx_tree.specs.Reading.{scan}
use Rattle.jsx_tree.specs.Told.{tales}
use Rattle.jsx_tree.specs.View.{forest}
use Rattle.jsx_tree.proofs.Rows.Steps.{both}
use Rattle.jsx_token.specs.Here.{Here, place_of}
use Rattle.jsx_operand.specs.Spans.{IsPlacedAs, IsPlacedListAs}
use Rattle.jsx_operand.proofs.Placing.{IsItem, IsPlain, PlacedFront, front_none, laid_last, laid_more, list_none}
use Rattle.jsx_member.proofs.CoverItems.{Longer}

abbrev pub list_of : Forest → List Tree
list_of none = []
list_of (part t ts) = t ∷ list_of ts

forest_list : (fs : Forest) → forest (list_of fs) ≡ fs
forest_list none = refl
forest_list (part t ts) = ap (part t) (forest_list ts)

list_both : (fs : Forest) (t : Tree) → list_of (both fs (part t none)) ≡ list_of fs ++ t ∷ []
list_both none t = refl
list_both (part u ts) t = ap (λ us. u ∷ us) (list_both ts t)

-- with others behind them, and alone
pub record PlacedAll (s : ListShape) (ds : List Told) (Q : Forest → Type 0) (x y : Here) : Type 0 where
  pub on : (fs : Forest) → Q fs → PlacedFront false s ds (list_of fs) x y

pub record ClosedAll (s : ListShape) (ds : List Told) (Q : Forest → Type 0) (x y : Here) : Type 0 where
  pub on : (fs : Forest) → Q fs → IsPlacedListAs false s (tales ds) fs x y

pub front_all : {s : ListShape} {Q : Forest → Type 0} {x : Here} → ((fs : Forest) → Q fs → fs ≡ none) → PlacedAll s [] Q x x
front_all {s} {x = x} n = record { on = λ fs q. subst (λ gs. PlacedFront false s [] (list_of gs) x x) (sym (n fs q)) front_none }

pub closed_all : {s : ListShape} {Q : Forest → Type 0} {x : Here} → ((fs : Forest) → Q fs → fs ≡ none) → ClosedAll s [] Q x x
closed_all {s} {x = x} n = record { on = λ fs q. subst (λ gs. IsPlacedListAs false s (tales []) gs x x) (sym (n fs q)) list_none }

pub item_of : {d : Told} {t : Tree} {x y : Here} → IsPlacedAs false d t x y → IsItem false d t x y
item_of l = record { same = l.same; leads = l.leads; told = l.told }

pub all_more : {s : ListShape} {ds es : List Told} {d : Told} {Q R : Forest → Type 0} {P : Tree → Type 0} {x y z w : Here} → IsPlain s → Longer Q P R → PlacedAll s ds Q x y → ((t : Tree) → P t → IsItem false d t y z) → w.end ≡ z.end → scan (place_of z) (between s) ≡ place_of w → es ≡ ds ++ d ∷ [] → PlacedAll s es R x w
all_more plain l k i same join e = record { on = λ fs r. let p = l.split fs r in laid_more plain (k.on p.front p.before) (i p.item p.one) same join e (ap list_of p.is ∙ list_both p.front p.item) }

pub all_last : {s : ListShape} {ds es : List Told} {d : Told} {Q R : Forest → Type 0} {P : Tree → Type 0} {x y z w : Here} → IsPlain s → Longer Q P R → PlacedAll s ds Q x y → ((t : Tree) → P t → IsItem false d t y z) → w.end ≡ z.end → ((t : Tree) → P t → scan (place_of z) (behind s (spelled t)) ≡ place_of w) → es ≡ ds ++ d ∷ [] → ClosedAll s es R x w
all_last {s} {es = es} {x = x} {w = w} plain l k i same ends e = record {
  on = λ fs r.
      let p = l.split fs r in
      subst (λ gs. IsPlacedListAs false s (tales es) gs x w) (forest_list fs) (laid_last plain (k.on p.front p.before) (i p.item p.one) same (ends p.item p.one) e (ap list_of p.is ∙ list_both p.front p.item));
}
