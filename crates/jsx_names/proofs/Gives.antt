-- What the events of a tree declare, among others: what the tree gives.
use Rattle.std.proofs.Common.{◌≡◌, ℕ, suc, List, [], ◌∷◌, ◌++◌, Bool, true, false, cond, ◌&&◌, refl, sym, ap, ◌∙◌, append_assoc, append-nil}
use Rattle.jsx_base.specs.Token.{TokenKind, Text, IdentifierName}
use Rattle.jsx_tree.specs.Kinds.{Kind, Tree, leaf, node, list, Forest, none, part}
use Rattle.jsx_tree.specs.Nonterminals.{Nonterminal}
use Rattle.jsx_tree.specs.Form.{Position, position, positions}
use Rattle.jsx_tree.specs.Scopes.{Path, below, Sort, AsVar, AsParameter, AsFunction, AsLexical, is_name_at}
use Rattle.jsx_tree.specs.Clashes.{Export, evals_here}
use Rattle.jsx_names.specs.Events.{Frame, Event, Closes, Declares, Refers, Way, Simply, Exported', InHead, is_head, Mode, Binding, mode, is_scope, frame, has_scope, inner, is_inner, is_behind, entering, around, exported_here, wanted_here, exported, wanted, called, of_node, exporting, of_leaf, events_below, events_parts, events_each}
use Rattle.jsx_names.specs.Answers.{is_passed, are_passed, reaches, Named, named, collected}
use Rattle.jsx_names.specs.Given.{passing, held, given_leaf, given, given_parts, given_each}

pub record Gives (es : List Event) (ds : List Named) : Type 0 where
  pub gives : (fs : List Frame) (rest : List Event) → collected fs (es ++ rest) ≡ passing fs ds ++ collected fs rest

pub passing_append : (fs : List Frame) (ds hs : List Named) → passing fs (ds ++ hs) ≡ passing fs ds ++ passing fs hs
passing_append fs [] hs = refl
passing_append fs (d ∷ ds) hs = ap (λ z. cond (reaches d.is.sort fs) (d ∷ []) [] ++ z) (passing_append fs ds hs) ∙ sym (append_assoc (cond (reaches d.is.sort fs) (d ∷ []) []) (passing fs ds) (passing fs hs))

and_with : (b c : Bool) → b && c ≡ (b && true) && c
and_with true c = refl
and_with false c = refl

-- through one scope, and then through others
reach_more : (s : Sort) (f : Frame) (fs : List Frame) → reaches s (f ∷ fs) ≡ reaches s (f ∷ []) && reaches s fs
reach_more AsVar f fs = and_with (is_passed f) (are_passed fs)
reach_more AsParameter f fs = refl
reach_more AsFunction f fs = refl
reach_more AsLexical f fs = refl

pass_one : (fs : List Frame) (d : Named) (b : Bool) → passing fs (cond b (d ∷ []) []) ≡ cond (b && reaches d.is.sort fs) (d ∷ []) []
pass_one fs d true = append-nil (cond (reaches d.is.sort fs) (d ∷ []) [])
pass_one fs d false = refl

pub passing_twice : (f : Frame) (fs : List Frame) (ds : List Named) → passing fs (passing (f ∷ []) ds) ≡ passing (f ∷ fs) ds
passing_twice f fs [] = refl
passing_twice f fs (d ∷ ds) =
    passing_append fs (cond (reaches d.is.sort (f ∷ [])) (d ∷ []) []) (passing (f ∷ []) ds)
    ∙ ap (λ z. z ++ passing fs (passing (f ∷ []) ds)) (pass_one fs d (reaches d.is.sort (f ∷ [])) ∙ ap (λ b. cond b (d ∷ []) []) (sym (reach_more d.is.sort f fs)))
    ∙ ap (λ z. cond (reaches d.is.sort (f ∷ fs)) (d ∷ []) [] ++ z) (passing_twice f fs ds)

pub passing_all : (ds : List Named) → passing [] ds ≡ ds
passing_all [] = refl
passing_all (d ∷ ds) = ap (λ b. cond b (d ∷ []) [] ++ passing [] ds) (at_home d.is.sort) ∙ ap (λ z. d ∷ z) (passing_all ds)
  where
    at_home : (s : Sort) → reaches s [] ≡ true
    at_home AsVar = refl
    at_home AsParameter = refl
    at_home AsFunction = refl
    at_home AsLexical = refl

pub no_gives : Gives [] []
no_gives = record { gives = λ fs rest. refl }

pub gives_append : {es gs : List Event} {ds hs : List Named} → Gives es ds → Gives gs hs → Gives (es ++ gs) (ds ++ hs)
gives_append {es} {gs} {ds} {hs} a b = record {
  gives = λ fs rest.
      ap (collected fs) (append_assoc es gs rest)
      ∙ a.gives fs (gs ++ rest)
      ∙ ap (λ z. passing fs ds ++ z) (b.gives fs rest)
      ∙ sym (append_assoc (passing fs ds) (passing fs hs) (collected fs rest))
      ∙ ap (λ z. z ++ collected fs rest) (sym (passing_append fs ds hs));
}

pub gives_around : (b : Bool) (f : Frame) (p : Path) {es : List Event} {ds : List Named} → Gives es ds → Gives (around b f p es) (held b f ds)
gives_around true f p {es} {ds} a = record {
  gives = λ fs rest.
      ap (collected (f ∷ fs)) (append_assoc es (Closes ∷ []) rest)
      ∙ a.gives (f ∷ fs) (Closes ∷ rest)
      ∙ ap (λ z. z ++ collected fs rest) (sym (passing_twice f fs ds));
}
gives_around false f p a = a

pub gives_if : (b : Bool) {es : List Event} {ds : List Named} → Gives es ds → Gives (cond b es []) (cond b ds [])
gives_if true a = a
gives_if false a = no_gives

pub gives_unless : (b : Bool) {es : List Event} {ds : List Named} → Gives es ds → Gives (cond b [] es) (cond b [] ds)
gives_unless true a = no_gives
gives_unless false a = a

-- events that declare nothing
gives_entering : (b : Bool) → Gives (entering b) []
gives_entering true = record { gives = λ fs rest. refl }
gives_entering false = no_gives

gives_wanted : (xs : List Export) → Gives (wanted xs) []
gives_wanted [] = no_gives
gives_wanted (x ∷ xs) = record { gives = λ fs rest. (gives_wanted xs).gives fs rest }

gives_exported : (xs : List Export) → Gives (exported xs) []
gives_exported [] = no_gives
gives_exported (x ∷ xs) = record { gives = λ fs rest. (gives_exported xs).gives fs rest }

gives_called : (ps : List Path) → Gives (called ps) []
gives_called [] = no_gives
gives_called (x ∷ xs) = record { gives = λ fs rest. (gives_called xs).gives fs rest }

pub gives_node : (k : Kind) (p : Path) (cs : Forest) → Gives (of_node k p cs) []
gives_node k p cs = gives_append (gives_wanted (wanted_here k p cs)) (gives_append (gives_exported (exported_here k p cs)) (gives_called (evals_here k p cs)))

gives_name : (b : Bool) (t : Text) (p : Path) → Gives (cond b (Refers t p ∷ []) []) []
gives_name true t p = record { gives = λ fs rest. refl }
gives_name false t p = no_gives

gives_exporting : (w : Way) (t : Text) (p : Path) → Gives (exporting w t p) []
gives_exporting Exported' t p = record { gives = λ fs rest. refl }
gives_exporting Simply t p = no_gives
gives_exporting InHead t p = no_gives

gives_declared : (h : Bool) (r : Sort) (t : Text) (p : Path) → Gives (Declares h r t p ∷ []) (named h r t p ∷ [])
gives_declared h r t p = record { gives = λ fs rest. ap (λ z. z ++ collected fs rest) (sym (append-nil (cond (reaches r fs) (named h r t p ∷ []) []))) }

gives_leaf : (m : Mode) (q : Kind) (c : Nonterminal) (p : Path) (s : TokenKind) (t : Text) → Gives (of_leaf m q c p s t) (given_leaf m p s t)
gives_leaf (Binding w r) q c p IdentifierName t = gives_append (gives_declared (is_head w) r t p) (gives_exporting w t p)
gives_leaf m q c p s t = gives_name (is_name_at q c s t) t p

mutual
  -- the events of a tree declare what it gives
  pub gives_tree : (m : Mode) (q : Kind) (c : Nonterminal) (p : Path) (t : Tree) → Gives (events_below m q c p t) (given m q p t)
  gives_tree m q c p (leaf s t) = gives_leaf m q c p s t
  gives_tree m q c p (node k cs) =
      gives_around (is_scope q k) (frame k) p (gives_append (gives_node k p cs) (gives_append (gives_parts false m k p 0 (positions k) cs) (gives_around (has_scope k) (inner k) p (gives_parts true m k p 0 (positions k) cs))))
  gives_tree m q c p (list ts) = gives_each m q c p 0 ts

  pub gives_parts : (b : Bool) (m : Mode) (k : Kind) (p : Path) (i : ℕ) (ss : List Position) (cs : Forest) → Gives (events_parts b m k p i ss cs) (given_parts b m k p i ss cs)
  gives_parts b m k p i [] cs = no_gives
  gives_parts b m k p i (s ∷ ss) none = no_gives
  gives_parts true m k p i (position f c g o a ∷ ss) (part t ts) =
      gives_append (gives_entering (is_behind k c)) (gives_append (gives_if (is_inner k c) (gives_tree (mode m k c) k c (below p i) t)) (gives_parts true m k p (suc i) ss ts))
  gives_parts false m k p i (position f c g o a ∷ ss) (part t ts) =
      gives_append (gives_unless (is_inner k c) (gives_tree (mode m k c) k c (below p i) t)) (gives_parts false m k p (suc i) ss ts)

  pub gives_each : (m : Mode) (q : Kind) (c : Nonterminal) (p : Path) (i : ℕ) (ts : Forest) → Gives (events_each m q c p i ts) (given_each m q p i ts)
  gives_each m q c p i none = no_gives
  gives_each m q c p i (part t ts) = gives_append (gives_tree m q c (below p i) t) (gives_each m q c p (suc i) ts)

-- what a scope declares, whose events these are
pub declared_there : {es : List Event} {ds : List Named} → Gives es ds → (rest : List Event) → collected [] (es ++ Closes ∷ rest) ≡ ds
declared_there {es} {ds} a rest = a.gives [] (Closes ∷ rest) ∙ append-nil (passing [] ds) ∙ passing_all ds
