-- The clashes among the events of a tree are those of the tree, scope by scope.
use Rattle.std.proofs.Common.{◌≡◌, ℕ, suc, List, [], ◌∷◌, ◌++◌, Bool, true, false, cond, refl, sym, ap, ◌∙◌, append_assoc}
use Rattle.jsx_base.specs.Token.{TokenKind, Text, IdentifierName}
use Rattle.jsx_tree.specs.Kinds.{Kind, Tree, leaf, node, list, Forest, none, part}
use Rattle.jsx_tree.specs.Nonterminals.{Nonterminal}
use Rattle.jsx_tree.specs.Form.{Position, position, positions}
use Rattle.jsx_tree.specs.Scopes.{Path, below, Sort, is_name_at}
use Rattle.jsx_tree.specs.Clashes.{Place, later, Export, evals_here}
use Rattle.jsx_names.specs.Events.{Frame, Event, Closes, Declares, Refers, Way, Simply, Exported', InHead, is_head, Mode, Binding, mode, is_scope, frame, has_scope, inner, is_inner, is_behind, entering, around, exported_here, wanted_here, exported, wanted, called, of_node, exporting, of_leaf, events_below, events_parts, events_each}
use Rattle.jsx_names.specs.Answers.{Named, all_of, collected, is_wide, clashing}
use Rattle.jsx_names.specs.Resolved.{within, clashed, clashed_parts, clashed_each}
use Rattle.jsx_names.proofs.Gives.{Gives, gives_append, gives_around, gives_node, gives_parts, declared_there}

pub record Shows (es : List Event) (xs : List Place) : Type 0 where
  pub shows : (rest : List Event) → clashing (es ++ rest) ≡ xs ++ clashing rest

no_shows : Shows [] []
no_shows = record { shows = λ rest. refl }

shows_append : {es gs : List Event} {xs ys : List Place} → Shows es xs → Shows gs ys → Shows (es ++ gs) (xs ++ ys)
shows_append {es} {gs} {xs} {ys} a b = record {
  shows = λ rest.
      ap clashing (append_assoc es gs rest)
      ∙ a.shows (gs ++ rest)
      ∙ ap (λ z. xs ++ z) (b.shows rest)
      ∙ sym (append_assoc xs ys (clashing rest));
}

shows_around : (b : Bool) (f : Frame) (p : Path) {es : List Event} {ns : List Named} {xs : List Place} → Gives es ns → Shows es xs → Shows (around b f p es) (within b f ns ++ xs)
shows_around true f p {es} {ns} {xs} g a = record {
  shows = λ rest.
      ap (λ z. later (is_wide f) [] (all_of (collected [] z)) ++ clashing z) (append_assoc es (Closes ∷ []) rest)
      ∙ ap (λ z. later (is_wide f) [] (all_of z) ++ clashing (es ++ Closes ∷ rest)) (declared_there g rest)
      ∙ ap (λ z. later (is_wide f) [] (all_of ns) ++ z) (a.shows (Closes ∷ rest))
      ∙ sym (append_assoc (later (is_wide f) [] (all_of ns)) xs (clashing rest));
}
shows_around false f p g a = a

shows_if : (b : Bool) {es : List Event} {xs : List Place} → Shows es xs → Shows (cond b es []) (cond b xs [])
shows_if true a = a
shows_if false a = no_shows

shows_unless : (b : Bool) {es : List Event} {xs : List Place} → Shows es xs → Shows (cond b [] es) (cond b [] xs)
shows_unless true a = no_shows
shows_unless false a = a

shows_entering : (b : Bool) → Shows (entering b) []
shows_entering true = record { shows = λ rest. refl }
shows_entering false = no_shows

shows_wanted : (xs : List Export) → Shows (wanted xs) []
shows_wanted [] = no_shows
shows_wanted (x ∷ xs) = record { shows = λ rest. (shows_wanted xs).shows rest }

shows_exported : (xs : List Export) → Shows (exported xs) []
shows_exported [] = no_shows
shows_exported (x ∷ xs) = record { shows = λ rest. (shows_exported xs).shows rest }

shows_called : (ps : List Path) → Shows (called ps) []
shows_called [] = no_shows
shows_called (p ∷ ps) = record { shows = λ rest. (shows_called ps).shows rest }

shows_node : (k : Kind) (p : Path) (cs : Forest) → Shows (of_node k p cs) []
shows_node k p cs = shows_append (shows_wanted (wanted_here k p cs)) (shows_append (shows_exported (exported_here k p cs)) (shows_called (evals_here k p cs)))

shows_exporting : (w : Way) (t : Text) (p : Path) → Shows (exporting w t p) []
shows_exporting Exported' t p = record { shows = λ rest. refl }
shows_exporting Simply t p = no_shows
shows_exporting InHead t p = no_shows

shows_declared : (h : Bool) (r : Sort) (t : Text) (p : Path) → Shows (Declares h r t p ∷ []) []
shows_declared h r t p = record { shows = λ rest. refl }

shows_name : (b : Bool) (t : Text) (p : Path) → Shows (cond b (Refers t p ∷ []) []) []
shows_name true t p = record { shows = λ rest. refl }
shows_name false t p = no_shows

shows_leaf : (m : Mode) (q : Kind) (c : Nonterminal) (p : Path) (s : TokenKind) (t : Text) → Shows (of_leaf m q c p s t) []
shows_leaf (Binding w r) q c p IdentifierName t = shows_append (shows_declared (is_head w) r t p) (shows_exporting w t p)
shows_leaf m q c p s t = shows_name (is_name_at q c s t) t p

mutual
  pub shows_tree : (m : Mode) (q : Kind) (c : Nonterminal) (p : Path) (t : Tree) → Shows (events_below m q c p t) (clashed m q p t)
  shows_tree m q c p (leaf s t) = shows_leaf m q c p s t
  shows_tree m q c p (node k cs) =
      shows_around (is_scope q k) (frame k) p
      (gives_append (gives_node k p cs) (gives_append (gives_parts false m k p 0 (positions k) cs) (gives_around (has_scope k) (inner k) p (gives_parts true m k p 0 (positions k) cs))))
      (shows_append (shows_node k p cs) (shows_append (shows_parts false m k p 0 (positions k) cs)
      (shows_around (has_scope k) (inner k) p (gives_parts true m k p 0 (positions k) cs) (shows_parts true m k p 0 (positions k) cs))))
  shows_tree m q c p (list ts) = shows_each m q c p 0 ts

  pub shows_parts : (b : Bool) (m : Mode) (k : Kind) (p : Path) (i : ℕ) (ss : List Position) (cs : Forest) → Shows (events_parts b m k p i ss cs) (clashed_parts b m k p i ss cs)
  shows_parts b m k p i [] cs = no_shows
  shows_parts b m k p i (s ∷ ss) none = no_shows
  shows_parts true m k p i (position f c g o a ∷ ss) (part t ts) =
      shows_append (shows_entering (is_behind k c)) (shows_append (shows_if (is_inner k c) (shows_tree (mode m k c) k c (below p i) t)) (shows_parts true m k p (suc i) ss ts))
  shows_parts false m k p i (position f c g o a ∷ ss) (part t ts) =
      shows_append (shows_unless (is_inner k c) (shows_tree (mode m k c) k c (below p i) t)) (shows_parts false m k p (suc i) ss ts)

  shows_each : (m : Mode) (q : Kind) (c : Nonterminal) (p : Path) (i : ℕ) (ts : Forest) → Shows (events_each m q c p i ts) (clashed_each m q p i ts)
  shows_each m q c p i none = no_shows
  shows_each m q c p i (part t ts) = shows_append (shows_tree m q c (below p i) t) (shows_each m q c p (suc i) ts)
