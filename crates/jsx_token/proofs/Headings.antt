-- What a statement begins with, in one list: what a test finds of all of them holds of each.
use Rattle.std.proofs.Common.{◌≡◌, ℕ, zero, suc, nat_eq, Bool, true, false, List, [], ◌∷◌, refl, sym, ◌∙◌, ap, subst}
use Rattle.std.specs.Prelude.{Option, Some, None, ◌&&◌}
use Rattle.std.proofs.lemmas.Bool.{eqb-true}
use Rattle.jsx_tree.specs.declared.text.DeclareWord.TheVariants as declare_word
use Rattle.jsx_tree.proofs.Tokens.{and_left, and_right}
use Rattle.jsx_token.specs.declared.heading.Heading.{Heading}
use Rattle.jsx_token.specs.declared.heading.Heading.TheVariants as heading
use Rattle.jsx_token.specs.Headings.{Begins, own, over_keys, over_items, heading_kind}
use Rattle.jsx_tree.specs.Kinds.{ForIn, ForOf, Kind, statement}

abbrev pub headings : List Heading
headings = heading.Empty ∷ heading.Block ∷ heading.Var declare_word.Var ∷ heading.Var declare_word.Let ∷ heading.Var declare_word.Const ∷ heading.If ∷ heading.Do ∷ heading.While ∷ heading.For ∷ heading.Switch ∷ heading.Continue ∷ heading.Break ∷ heading.Throw ∷ heading.Try ∷ heading.Debugger ∷ heading.Return ∷ heading.Function ∷ heading.Class ∷ []

-- the place of each in the list
abbrev pub number : Heading → ℕ
number heading.Empty = 0
number heading.Block = 1
number (heading.Var declare_word.Var) = 2
number (heading.Var declare_word.Let) = 3
number (heading.Var declare_word.Const) = 4
number heading.If = 5
number heading.Do = 6
number heading.While = 7
number heading.For = 8
number heading.Switch = 9
number heading.Continue = 10
number heading.Break = 11
number heading.Throw = 12
number heading.Try = 13
number heading.Debugger = 14
number heading.Return = 15
number heading.Function = 16
number heading.Class = 17

abbrev pub nth : ℕ → List Heading → Option Heading
nth n [] = None
nth zero (h ∷ hs) = Some h
nth (suc n) (h ∷ hs) = nth n hs

there : (h : Heading) → nth (number h) headings ≡ Some h
there heading.Empty = refl
there heading.Block = refl
there (heading.Var declare_word.Var) = refl
there (heading.Var declare_word.Let) = refl
there (heading.Var declare_word.Const) = refl
there heading.If = refl
there heading.Do = refl
there heading.While = refl
there heading.For = refl
there heading.Switch = refl
there heading.Continue = refl
there heading.Break = refl
there heading.Throw = refl
there heading.Try = refl
there heading.Debugger = refl
there heading.Return = refl
there heading.Function = refl
there heading.Class = refl

abbrev pub every_heading : (Heading → Bool) → List Heading → Bool
every_heading p [] = true
every_heading p (h ∷ hs) = p h && every_heading p hs

pub some_is : {g h : Heading} → Some g ≡ Some h → g ≡ h
some_is e = cc

pub at_place : (p : Heading → Bool) (hs : List Heading) (i : ℕ) {h : Heading} → every_heading p hs ≡ true → nth i hs ≡ Some h → p h ≡ true
at_place p [] i a e = cc
at_place p (g ∷ hs) zero a e = subst (λ h. p h ≡ true) (some_is e) (and_left (p g) _ a)
at_place p (g ∷ hs) (suc i) a e = at_place p hs i (and_right (p g) _ a) e

pub of_heading : (p : Heading → Bool) → every_heading p headings ≡ true → (h : Heading) → p h ≡ true
of_heading p a h = at_place p headings (number h) a (there h)

-- the kinds that they begin
abbrev pub every_begun : (Kind → Bool) → Bool
every_begun p = p (statement ForIn) && (p (statement ForOf) && every_heading (λ h. p (heading_kind h)) headings)

pub of_begun : (p : Kind → Bool) → every_begun p ≡ true → {h : Heading} {k : Kind} → Begins h k → p k ≡ true
of_begun p a (own h) = of_heading (λ j. p (heading_kind j)) (and_right (p (statement ForOf)) _ (and_right (p (statement ForIn)) _ a)) h
of_begun p a over_keys = and_left (p (statement ForIn)) _ a
of_begun p a over_items = and_left (p (statement ForOf)) _ (and_right (p (statement ForIn)) _ a)

-- of one kind are those of all but `for`
abbrev pub begins_one : Heading → Bool
begins_one heading.For = false
begins_one h = true

pub its_kind : {h : Heading} {k : Kind} → begins_one h ≡ true → Begins h k → k ≡ heading_kind h
its_kind o (own h) = refl
its_kind o over_keys = cc
its_kind o over_items = cc

abbrev pub every_two_headings : (Heading → Heading → Bool) → Bool
every_two_headings p = every_heading (λ h. every_heading (p h) headings) headings

pub of_two_headings : (p : Heading → Heading → Bool) → every_two_headings p ≡ true → (g h : Heading) → p g h ≡ true
of_two_headings p a g h = of_heading (p g) (of_heading (λ j. every_heading (p j) headings) a g) h

-- those with one number are one
pub one_number : (g h : Heading) → nat_eq (number g) (number h) ≡ true → g ≡ h
one_number g h e = some_is (sym (there g) ∙ (ap (λ i. nth i headings) (eqb-true (number g) (number h) e) ∙ there h))
