-- Laying changes nothing of the normal form, where the parameter of an arrow without parentheses is a name.
use Rattle.std.proofs.Common.{◌≡◌, List, [], ◌∷◌, Bool, true, false, sym, refl, ap, ◌∙◌}
use Rattle.std.proofs.lemmas.Bool.{and_parts, false≢true}
use Rattle.jsx_tree.specs.Kinds.{Kind, statement, expression, Empty, Arrow, ArrowBlock, BareArrow, BareArrowBlock, New, NewWithoutArguments, Tree, leaf, node, list, Forest, none, part}
use Rattle.jsx_tree.specs.Normal.{pair, is_empty, unless_empty, without_empty, laid_node, plain_node, of_list, mades, each_made, nf, laid_tree}
use Rattle.jsx_tree.specs.Form.{Form, Single, Maybe, Several, Position, position, positions}
use Rattle.jsx_tree.proofs.Parentheses.Bare.{lays}
use Rattle.jsx_tree.proofs.Parentheses.Idempotent.{has_name, named, all_named, head_is, tail_is, nfs}

-- what is empty stays so
empty_stays : (t : Tree) → is_empty t ≡ true → is_empty (nf t) ≡ true
empty_stays (node (statement Empty) cs) h = refl
empty_stays _ h = absurd (false≢true h)

drop_one : (v : Bool) (t : Tree) (ts us : Forest) → is_empty t ≡ v → without_empty (each_made plain_node us) ≡ without_empty (each_made plain_node ts)
    → without_empty (each_made plain_node (unless_empty v t us)) ≡ unless_empty (is_empty (nf t)) (nf t) (without_empty (each_made plain_node ts))
drop_one true t ts us e h = h ∙ sym (ap (λ v. unless_empty v (nf t) (without_empty (each_made plain_node ts))) (empty_stays t e))
drop_one false t ts us e h = ap (unless_empty (is_empty (nf t)) (nf t)) h

drop_first : (ts : Forest) → without_empty (each_made plain_node (without_empty ts)) ≡ without_empty (each_made plain_node ts)
drop_first none = refl
drop_first (part t ts) = drop_one (is_empty t) t ts (without_empty ts) refl (drop_first ts)

of_list_first : (o : Form) (t : Tree) → of_list o (nf (of_list o t)) ≡ of_list o (nf t)
of_list_first (Several s) (list ts) = ap list (drop_first ts)
of_list_first (Several s) (leaf k x) = refl
of_list_first (Several s) (node k cs) = refl
of_list_first Single t = refl
of_list_first Maybe t = refl

laid_again : (k : Kind) (cs : Forest) → has_name k cs ≡ true → mades plain_node (positions k) (lays k cs) ≡ nfs k cs → nf (laid_node k (lays k cs)) ≡ plain_node k (nfs k cs)
laid_again (expression BareArrow) (part (leaf s x) none) n h = refl
laid_again (expression BareArrow) (part (leaf s x) (part e es)) n h = ap (λ us. node (expression Arrow) (part (list (part (leaf s x) none)) us)) (tail_is _ _ _ _ h)
laid_again (expression BareArrow) none n h = absurd (false≢true n)
laid_again (expression BareArrow) (part (node k cs) es) n h = absurd (false≢true n)
laid_again (expression BareArrow) (part (list ts) es) n h = absurd (false≢true n)
laid_again (expression BareArrowBlock) (part (leaf s x) none) n h = refl
laid_again (expression BareArrowBlock) (part (leaf s x) (part e es)) n h = ap (λ us. node (expression ArrowBlock) (part (list (part (leaf s x) none)) us)) (tail_is _ _ _ _ h)
laid_again (expression BareArrowBlock) none n h = absurd (false≢true n)
laid_again (expression BareArrowBlock) (part (node k cs) es) n h = absurd (false≢true n)
laid_again (expression BareArrowBlock) (part (list ts) es) n h = absurd (false≢true n)
laid_again (expression NewWithoutArguments) (part a none) n h = ap (λ u. node (expression New) (pair u (list none))) (head_is _ _ _ _ h)
laid_again (expression NewWithoutArguments) none n h = refl
laid_again (expression NewWithoutArguments) (part a (part b bs)) n h = ap (plain_node (expression NewWithoutArguments)) h
laid_again k cs n h = ap (plain_node k) h

mutual
  pub laid_nf : (t : Tree) → named t ≡ true → nf (laid_tree t) ≡ nf t
  laid_nf (leaf s x) h = refl
  laid_nf (list ts) h = ap list (each_nf ts h)
  laid_nf (node k cs) h = let p = and_parts (has_name k cs) (all_named cs) h in laid_again k cs p.0 (parts_nf (positions k) cs p.1)

  parts_nf : (ss : List Position) (cs : Forest) → all_named cs ≡ true → mades plain_node ss (mades laid_node ss cs) ≡ mades plain_node ss cs
  parts_nf ss none h = refl
  parts_nf [] (part t ts) h =
      let p = and_parts (named t) (all_named ts) h in
      ap (λ u. part u (mades plain_node [] (mades laid_node [] ts))) (laid_nf t p.0) ∙ ap (part (nf t)) (parts_nf [] ts p.1)
  parts_nf (position o c g b a ∷ ss) (part t ts) h =
      let p = and_parts (named t) (all_named ts) h in
      ap (λ u. part u (mades plain_node ss (mades laid_node ss ts))) (of_list_first o (laid_tree t) ∙ ap (of_list o) (laid_nf t p.0)) ∙ ap (part (of_list o (nf t))) (parts_nf ss ts p.1)

  each_nf : (ts : Forest) → all_named ts ≡ true → each_made plain_node (each_made laid_node ts) ≡ each_made plain_node ts
  each_nf none h = refl
  each_nf (part t ts) h =
      let p = and_parts (named t) (all_named ts) h in
      ap (λ u. part u (each_made plain_node (each_made laid_node ts))) (laid_nf t p.0) ∙ ap (part (nf t)) (each_nf ts p.1)
