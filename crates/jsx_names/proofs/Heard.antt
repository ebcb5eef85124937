-- The events of a tree without their places are what a walk over it meets, wherever the tree stands.
use Rattle.std.proofs.Common.{◌≡◌, ℕ, suc, List, [], ◌∷◌, ◌++◌, codes, Bool, true, false, cond, refl, sym, ap, ◌∙◌}
use Rattle.jsx_base.specs.Token.{TokenKind, Text, IdentifierName, same}
use Rattle.jsx_tree.specs.Kinds.{Exported, From, Specifier, SpecifierAs, ExportAllAs, ExportDefaultFn, ExportDefaultClass, ExportDefaultExpr, Call, Parenthesized, Kind, program, expression, Tree, leaf, node, list, Forest, none, part}
use Rattle.jsx_tree.specs.Nonterminals.{Nonterminal}
use Rattle.jsx_tree.specs.Form.{Position, position, positions}
use Rattle.jsx_tree.specs.Scopes.{Path, below, is_name_at}
use Rattle.jsx_tree.specs.Clashes.{export_name, eval_at, evals_here}
use Rattle.jsx_names.specs.Events.{Frame, Event, Opens, Closes, Declares, Refers, Way, Simply, Exported', InHead, is_head, Mode, Binding, mode, is_scope, frame, has_scope, inner, is_inner, is_behind, entering, around, exported_here, wanted_here, exported, wanted, called, of_node, exporting, of_leaf, events_below, events_parts, events_each}
use Rattle.jsx_names.specs.Heard.{bare, bare_all, heard, heard_parts, heard_each}

pub bare_append : (es fs : List Event) → bare_all (es ++ fs) ≡ bare_all es ++ bare_all fs
bare_append [] fs = refl
bare_append (e ∷ es) fs = ap (λ z. bare e ∷ z) (bare_append es fs)

bare_around : (b : Bool) (f : Frame) (p : Path) (es fs : List Event) → bare_all es ≡ fs → bare_all (around b f p es) ≡ around b f [] fs
bare_around true f p es fs e = ap (λ z. Opens f [] ∷ z) (bare_append es (Closes ∷ []) ∙ ap (λ z. z ++ Closes ∷ []) e)
bare_around false f p es fs e = e

both : (es fs xs ys : List Event) → bare_all es ≡ xs → bare_all fs ≡ ys → bare_all (es ++ fs) ≡ xs ++ ys
both es fs xs ys e f = bare_append es fs ∙ ap (λ z. z ++ bare_all fs) e ∙ ap (λ z. xs ++ z) f

bare_if : (b : Bool) (es fs : List Event) → bare_all es ≡ fs → bare_all (cond b es []) ≡ cond b fs []
bare_if true es fs e = e
bare_if false es fs e = refl

bare_unless : (b : Bool) (es fs : List Event) → bare_all es ≡ fs → bare_all (cond b [] es) ≡ cond b [] fs
bare_unless true es fs e = refl
bare_unless false es fs e = e

bare_entering : (b : Bool) → bare_all (entering b) ≡ entering b
bare_entering true = refl
bare_entering false = refl

-- what a node exports and calls, wherever it stands
wanted_name : (p r : Path) (n : Tree) → bare_all (wanted (export_name p n)) ≡ bare_all (wanted (export_name r n))
wanted_name p r (leaf IdentifierName t) = refl
wanted_name p r (leaf s t) = refl
wanted_name p r (node k cs) = refl
wanted_name p r (list ts) = refl

exported_name : (p r : Path) (n : Tree) → bare_all (exported (export_name p n)) ≡ bare_all (exported (export_name r n))
exported_name p r (leaf IdentifierName t) = refl
exported_name p r (leaf s t) = refl
exported_name p r (node k cs) = refl
exported_name p r (list ts) = refl

wanted_alike : (k : Kind) (p r : Path) (cs : Forest) → bare_all (wanted (wanted_here k p cs)) ≡ bare_all (wanted (wanted_here k r cs))
wanted_alike (program (Specifier Exported)) p r none = refl
wanted_alike (program (Specifier Exported)) p r (part n cs) = wanted_name (below p 0) (below r 0) n
wanted_alike (program (SpecifierAs Exported)) p r none = refl
wanted_alike (program (SpecifierAs Exported)) p r (part n cs) = wanted_name (below p 0) (below r 0) n
wanted_alike k p r cs = refl

exported_alike : (k : Kind) (p r : Path) (cs : Forest) → bare_all (exported (exported_here k p cs)) ≡ bare_all (exported (exported_here k r cs))
exported_alike (program (Specifier Exported)) p r none = refl
exported_alike (program (Specifier Exported)) p r (part n none) = exported_name (below p 0) (below r 0) n
exported_alike (program (Specifier Exported)) p r (part n (part o cs)) = refl
exported_alike (program (SpecifierAs Exported)) p r none = refl
exported_alike (program (SpecifierAs Exported)) p r (part n none) = refl
exported_alike (program (SpecifierAs Exported)) p r (part n (part o none)) = exported_name (below p 1) (below r 1) o
exported_alike (program (SpecifierAs Exported)) p r (part n (part o (part u cs))) = refl
exported_alike (program (Specifier From)) p r none = refl
exported_alike (program (Specifier From)) p r (part n none) = exported_name (below p 0) (below r 0) n
exported_alike (program (Specifier From)) p r (part n (part o cs)) = refl
exported_alike (program (SpecifierAs From)) p r none = refl
exported_alike (program (SpecifierAs From)) p r (part n none) = refl
exported_alike (program (SpecifierAs From)) p r (part n (part o none)) = exported_name (below p 1) (below r 1) o
exported_alike (program (SpecifierAs From)) p r (part n (part o (part u cs))) = refl
exported_alike (program ExportAllAs) p r none = refl
exported_alike (program ExportAllAs) p r (part n cs) = exported_name (below p 0) (below r 0) n
exported_alike (program ExportDefaultFn) p r cs = refl
exported_alike (program ExportDefaultClass) p r cs = refl
exported_alike (program ExportDefaultExpr) p r cs = refl
exported_alike k p r cs = refl

called_if : (b : Bool) (p r : Path) → bare_all (called (cond b (p ∷ []) [])) ≡ bare_all (called (cond b (r ∷ []) []))
called_if true p r = refl
called_if false p r = refl

eval_alike : (p r : Path) (t : Tree) → bare_all (called (eval_at p t)) ≡ bare_all (called (eval_at r t))
eval_alike p r (leaf IdentifierName t) = called_if (same t (codes "eval")) p r
eval_alike p r (leaf s t) = refl
eval_alike p r (list ts) = refl
eval_alike p r (node (expression Parenthesized) none) = refl
eval_alike p r (node (expression Parenthesized) (part t none)) = eval_alike (below p 0) (below r 0) t
eval_alike p r (node (expression Parenthesized) (part t (part u ts))) = refl
eval_alike p r (node k cs) = refl

called_alike : (k : Kind) (p r : Path) (cs : Forest) → bare_all (called (evals_here k p cs)) ≡ bare_all (called (evals_here k r cs))
called_alike (expression Call) p r none = refl
called_alike (expression Call) p r (part t ts) = eval_alike (below p 0) (below r 0) t
called_alike k p r cs = refl

node_alike : (k : Kind) (p : Path) (cs : Forest) → bare_all (of_node k p cs) ≡ bare_all (of_node k [] cs)
node_alike k p cs =
    both (wanted (wanted_here k p cs)) (exported (exported_here k p cs) ++ called (evals_here k p cs)) _ _ (wanted_alike k p [] cs)
    (both (exported (exported_here k p cs)) (called (evals_here k p cs)) _ _ (exported_alike k p [] cs) (called_alike k p [] cs))
    ∙ sym (both (wanted (wanted_here k [] cs)) (exported (exported_here k [] cs) ++ called (evals_here k [] cs)) _ _ refl (both (exported (exported_here k [] cs)) (called (evals_here k [] cs)) _ _ refl refl))

exporting_alike : (w : Way) (t : Text) (p : Path) → bare_all (exporting w t p) ≡ bare_all (exporting w t [])
exporting_alike Exported' t p = refl
exporting_alike Simply t p = refl
exporting_alike InHead t p = refl

name_alike : (b : Bool) (t : Text) (p : Path) → bare_all (cond b (Refers t p ∷ []) []) ≡ bare_all (cond b (Refers t [] ∷ []) [])
name_alike true t p = refl
name_alike false t p = refl

leaf_alike : (m : Mode) (q : Kind) (c : Nonterminal) (p : Path) (s : TokenKind) (t : Text) → bare_all (of_leaf m q c p s t) ≡ bare_all (of_leaf m q c [] s t)
leaf_alike (Binding w r) q c p IdentifierName t = ap (λ z. bare (Declares (is_head w) r t []) ∷ z) (exporting_alike w t p)
leaf_alike m q c p s t = name_alike (is_name_at q c s t) t p

mutual
  pub heard_tree : (m : Mode) (q : Kind) (c : Nonterminal) (p : Path) (t : Tree) → bare_all (events_below m q c p t) ≡ heard m q c t
  heard_tree m q c p (leaf s t) = leaf_alike m q c p s t
  heard_tree m q c p (node k cs) =
      bare_around (is_scope q k) (frame k) p _ _
      (both (of_node k p cs) (events_parts false m k p 0 (positions k) cs ++ around (has_scope k) (inner k) p (events_parts true m k p 0 (positions k) cs)) _ _ (node_alike k p cs)
      (both (events_parts false m k p 0 (positions k) cs) (around (has_scope k) (inner k) p (events_parts true m k p 0 (positions k) cs)) _ _ (heard_outer m k p 0 (positions k) cs)
      (bare_around (has_scope k) (inner k) p (events_parts true m k p 0 (positions k) cs) _ (heard_inner m k p 0 (positions k) cs))))
  heard_tree m q c p (list ts) = heard_all m q c p 0 ts

  heard_outer : (m : Mode) (k : Kind) (p : Path) (i : ℕ) (ss : List Position) (cs : Forest) → bare_all (events_parts false m k p i ss cs) ≡ heard_parts false m k ss cs
  heard_outer m k p i [] cs = refl
  heard_outer m k p i (s ∷ ss) none = refl
  heard_outer m k p i (position f c g o a ∷ ss) (part t ts) =
      both (cond (is_inner k c) [] (events_below (mode m k c) k c (below p i) t)) (events_parts false m k p (suc i) ss ts) _ _
      (bare_unless (is_inner k c) (events_below (mode m k c) k c (below p i) t) (heard (mode m k c) k c t) (heard_tree (mode m k c) k c (below p i) t))
      (heard_outer m k p (suc i) ss ts)

  heard_inner : (m : Mode) (k : Kind) (p : Path) (i : ℕ) (ss : List Position) (cs : Forest) → bare_all (events_parts true m k p i ss cs) ≡ heard_parts true m k ss cs
  heard_inner m k p i [] cs = refl
  heard_inner m k p i (s ∷ ss) none = refl
  heard_inner m k p i (position f c g o a ∷ ss) (part t ts) =
      both (entering (is_behind k c)) (cond (is_inner k c) (events_below (mode m k c) k c (below p i) t) [] ++ events_parts true m k p (suc i) ss ts) _ _ (bare_entering (is_behind k c))
      (both (cond (is_inner k c) (events_below (mode m k c) k c (below p i) t) []) (events_parts true m k p (suc i) ss ts) _ _
      (bare_if (is_inner k c) (events_below (mode m k c) k c (below p i) t) (heard (mode m k c) k c t) (heard_tree (mode m k c) k c (below p i) t))
      (heard_inner m k p (suc i) ss ts))

  heard_all : (m : Mode) (q : Kind) (c : Nonterminal) (p : Path) (i : ℕ) (ts : Forest) → bare_all (events_each m q c p i ts) ≡ heard_each m q c ts
  heard_all m q c p i none = refl
  heard_all m q c p i (part t ts) = both (events_below m q c (below p i) t) (events_each m q c p (suc i) ts) _ _ (heard_tree m q c (below p i) t) (heard_all m q c p (suc i) ts)
