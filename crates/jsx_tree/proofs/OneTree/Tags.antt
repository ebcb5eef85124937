-- The kinds of JSX and their leaves: the tables over them, and the places where none stands.
use Rattle.std.proofs.Common.{◌≡◌, ℕ, zero, suc, Bool, true, false, not, List, [], ◌∷◌, refl, sym, ◌∙◌, ap, subst}
use Rattle.std.specs.Prelude.{◌&&◌, ◌||◌, nat_eq}
use Rattle.std.proofs.lemmas.Bool.{eq-eqb}
use Rattle.jsx_base.specs.Token.{Text, TokenKind, JsxName, JsxString, JsxText}
use Rattle.jsx_tree.specs.Kinds.{Element, ElementWithChildren, Fragment, NamespacedName, MemberName, Attribute, Container, EmptyContainer, JsxSpread, Kind, jsx, Seq, Arrow, expression, node, Forest}
use Rattle.jsx_tree.specs.Nonterminals.{Nonterminal, MemberRoot, MemberPart, homes, in_homes, leaf_in, literal_homes, TagName, Attributes, AttributeName, AttributeValue, Child, JsxWord}
use Rattle.jsx_tree.proofs.Tokens.{and_left, and_right}
use Rattle.jsx_tree.proofs.OneTree.Known.{is_jsx, jsx_leaf, known}
use Rattle.jsx_tree.proofs.OneTree.Table.{code, kinds}
use Rattle.jsx_tree.proofs.OneTree.Checks.{every}
use Rattle.jsx_tree.proofs.OneTree.Facts.{never, or_else, not_is, eq_nat, for_kind}
use Rattle.jsx_tree.specs.Form.{admits, fits_below}
use Rattle.jsx_tree.specs.StaticRules.{Surroundings}
use Rattle.jsx_tree.specs.Reading.{Place}
use Rattle.jsx_tree.specs.Walk.{IsRead}
use Rattle.jsx_tree.proofs.OneTree.Statements.{stated_kinds, for_stated}
use Rattle.jsx_tree.proofs.OneTree.Evidence.{Kept, kept_kind}
use Rattle.jsx_tree.proofs.OneTree.Kept.{Which, a_statement, a_taken, a_blocked, a_jsx, a_seq, which}
use Rattle.jsx_tree.proofs.OneTree.Spines.{home_of, blocked_home}

abbrev pub jsx_kinds : List Kind
jsx_kinds = jsx Element ∷ jsx ElementWithChildren ∷ jsx Fragment ∷ jsx NamespacedName ∷ jsx MemberName ∷ jsx Attribute ∷ jsx Container ∷ jsx EmptyContainer ∷ jsx JsxSpread ∷ []

abbrev place : Kind → ℕ
place (jsx ElementWithChildren) = 1
place (jsx Fragment) = 2
place (jsx NamespacedName) = 3
place (jsx MemberName) = 4
place (jsx Attribute) = 5
place (jsx Container) = 6
place (jsx EmptyContainer) = 7
place (jsx JsxSpread) = 8
place k = 0

abbrev nth : List Kind → ℕ → Kind
nth [] n = jsx Element
nth (k ∷ ks) zero = k
nth (k ∷ ks) (suc n) = nth ks n

jsx_nth : (k : Kind) → is_jsx k ≡ true → nth jsx_kinds (place k) ≡ k
jsx_nth (jsx Element) h = refl
jsx_nth (jsx ElementWithChildren) h = refl
jsx_nth (jsx Fragment) h = refl
jsx_nth (jsx NamespacedName) h = refl
jsx_nth (jsx MemberName) h = refl
jsx_nth (jsx Attribute) h = refl
jsx_nth (jsx Container) h = refl
jsx_nth (jsx EmptyContainer) h = refl
jsx_nth (jsx JsxSpread) h = refl
jsx_nth _ h = cc

every_nth : (p : Kind → Bool) (ks : List Kind) (n : ℕ) → p (jsx Element) ≡ true → every p ks ≡ true → p (nth ks n) ≡ true
every_nth p [] n d e = d
every_nth p (k ∷ ks) zero d e = and_left (p k) (every p ks) e
every_nth p (k ∷ ks) (suc n) d e = every_nth p ks n d (and_right (p k) (every p ks) e)

-- a table over these kinds
pub for_jsx : (p : Kind → Bool) → every p jsx_kinds ≡ true → (k : Kind) → is_jsx k ≡ true → p k ≡ true
for_jsx p e k j = subst (λ l. p l ≡ true) (jsx_nth k j) (every_nth p jsx_kinds (place k) (and_left (p (jsx Element)) _ e) e)

-- ---- each has a number of its own

abbrev one_code : Kind → Kind → Bool
one_code k l = not (nat_eq (code k) (code l)) || nat_eq (place k) (place l)

one_codes : every (λ k. every (one_code k) jsx_kinds) jsx_kinds ≡ true
one_codes = refl

pub two_jsx : (k l : Kind) → is_jsx k ≡ true → is_jsx l ≡ true → code k ≡ code l → k ≡ l
two_jsx k l i j e =
    let p = or_else (not (nat_eq (code k) (code l))) _ (for_jsx (one_code k) (for_jsx (λ k. every (one_code k) jsx_kinds) one_codes k i) l j) (ap not (eq-eqb (code k) (code l) e)) in
    sym (jsx_nth k i) ∙ (ap (nth jsx_kinds) (eq_nat {a = place k} {b = place l} p) ∙ jsx_nth l j)

-- ---- where none stands

abbrev pub tagless : Nonterminal → Bool
tagless c = every (λ k. not (in_homes c (homes k))) jsx_kinds

pub no_jsx : (c : Nonterminal) (k : Kind) → is_jsx k ≡ true → tagless c ≡ true → in_homes c (homes k) ≡ true → ⊥
no_jsx c k j h i = never (in_homes c (homes k)) i (not_is _ (for_jsx (λ k. not (in_homes c (homes k))) h k j))

abbrev nameless : Nonterminal → Bool
nameless MemberRoot = false
nameless MemberPart = false
nameless c = true

abbrev pub no_tag_leaves : Nonterminal → Bool
no_tag_leaves c = nameless c && (not (in_homes c (literal_homes JsxName)) && (not (in_homes c (literal_homes JsxString)) && not (in_homes c (literal_homes JsxText))))

record NoLeaves (c : Nonterminal) : Type 0 where
  names : in_homes c (literal_homes JsxName) ≡ false
  strings : in_homes c (literal_homes JsxString) ≡ false
  texts : in_homes c (literal_homes JsxText) ≡ false

no_leaves : (c : Nonterminal) → no_tag_leaves c ≡ true → NoLeaves c
no_leaves c f =
    let r = and_right (nameless c) _ f in
    let q = and_right (not (in_homes c (literal_homes JsxName))) _ r in
    record {
      names = not_is _ (and_left (not (in_homes c (literal_homes JsxName))) _ r);
      strings = not_is _ (and_left (not (in_homes c (literal_homes JsxString))) _ q);
      texts = not_is _ (and_right (not (in_homes c (literal_homes JsxString))) _ q);
    }

pub no_jsx_leaf : (c : Nonterminal) (s : TokenKind) (t : Text) → jsx_leaf s ≡ true → no_tag_leaves c ≡ true → leaf_in c s t ≡ true → ⊥
no_jsx_leaf MemberRoot JsxName t j f i = cc
no_jsx_leaf MemberPart JsxName t j f i = cc
no_jsx_leaf c JsxName t j f i = never (in_homes c (literal_homes JsxName)) i (no_leaves c f).names
no_jsx_leaf c JsxString t j f i = never (in_homes c (literal_homes JsxString)) i (no_leaves c f).strings
no_jsx_leaf c JsxText t j f i = never (in_homes c (literal_homes JsxText)) i (no_leaves c f).texts
no_jsx_leaf c _ t j f i = cc

-- ---- the kinds at the places of tags

abbrev pub in_tag : Nonterminal → Bool
in_tag TagName = true
in_tag Attributes = true
in_tag AttributeName = true
in_tag AttributeValue = true
in_tag Child = true
in_tag MemberRoot = true
in_tag MemberPart = true
in_tag JsxWord = true
in_tag c = false

abbrev other_kinds : Nonterminal → Bool
other_kinds c = not (in_homes c (homes (expression Seq))) && (every (λ k. not (in_homes c (homes k))) kinds && every (λ k. not (in_homes c (homes k))) stated_kinds)

no_others : (c : Nonterminal) → in_tag c ≡ true → other_kinds c ≡ true
no_others TagName o = refl
no_others Attributes o = refl
no_others AttributeName o = refl
no_others AttributeValue o = refl
no_others Child o = refl
no_others MemberRoot o = refl
no_others MemberPart o = refl
no_others JsxWord o = refl
no_others _ o = cc

tag_kind : (c : Nonterminal) (k : Kind) → in_tag c ≡ true → known k ≡ true → in_homes c (homes k) ≡ true → is_jsx k ≡ true
tag_kind c k o h i = by_which (which k h)
  where
    rest : (every (λ k. not (in_homes c (homes k))) kinds && every (λ k. not (in_homes c (homes k))) stated_kinds) ≡ true
    rest = and_right (not (in_homes c (homes (expression Seq)))) _ (no_others c o)

    taken_clean : every (λ k. not (in_homes c (homes k))) kinds ≡ true
    taken_clean = and_left (every (λ k. not (in_homes c (homes k))) kinds) _ rest

    by_which : Which k → is_jsx k ≡ true
    by_which (a_jsx j) = j
    by_which (a_statement t) = absurd (never (in_homes c (homes k)) i (not_is _ (for_stated (λ k. not (in_homes c (homes k))) (and_right (every (λ k. not (in_homes c (homes k))) kinds) _ rest) k t)))
    by_which (a_taken t) = absurd (never (in_homes c (homes k)) i (not_is _ (for_kind (λ k. not (in_homes c (homes k))) taken_clean k t)))
    by_which (a_blocked b) = absurd (never (in_homes c (homes (expression Arrow))) (blocked_home c k b i) (not_is _ (for_kind (λ k. not (in_homes c (homes k))) taken_clean (expression Arrow) refl)))
    by_which (a_seq e) = absurd (never (in_homes c (homes k)) i (ap (λ k. in_homes c (homes k)) e ∙ not_is _ (and_left (not (in_homes c (homes (expression Seq)))) _ (no_others c o))))

-- a kind that is read at such a place
pub record TagKind (c : Nonterminal) (k : Kind) : Type 0 where
  pub of_jsx : is_jsx k ≡ true
  pub at_home : in_homes c (homes k) ≡ true

pub tag_kind_at : (c : Nonterminal) (b : Bool) (k : Kind) (cs : Forest) {v : Surroundings} {x y : Place} → in_tag c ≡ true → Kept (node k cs) → IsRead v b c x (node k cs) y → TagKind c k
tag_kind_at c b k cs o h r = let i = home_of c k cs (and_left (admits c (node k cs)) (fits_below c (node k cs)) r.is) in record { of_jsx = tag_kind c k o (kept_kind h) i; at_home = i }
