-- The three statements that begin with `for`: what stands in the parentheses tells which it is.
use Rattle.std.proofs.Common.{◌≡◌, true, List, [], ◌∷◌, refl, subst, Option, Box, Global}
use Rattle.jsx_tree.specs.Signs.{Sign}
use Rattle.jsx_tree.specs.Kinds.{Assigns, For, ForIn, ForOf, Kind, statement, Tree, node, Forest, none, part}
use Rattle.jsx_tree.specs.Nonterminals.{Nonterminal, Expr, SubStmt}
use Rattle.jsx_tree.specs.Grammar.{InLoop, Fixed, Part, pun}
use Rattle.jsx_tree.specs.Reading.{Place}
use Rattle.jsx_tree.specs.StaticRules.{Surroundings, enter}
use Rattle.jsx_tree.specs.Walk.{Piece, piece, nothing, one, sign, tail, Walk, done, next, around, steady}
use Rattle.jsx_tree.specs.Language.{Whole}
use Rattle.jsx_tree.specs.Answers.{Only, Barred, OnlyRow, NoRow, NoNode, BuiltNode}
use Rattle.jsx_tree.proofs.Tokens.{and_both}
use Rattle.jsx_tree.proofs.Rows.Laws.{end_found}
use Rattle.jsx_tree.proofs.Rows.Placing.{no_node}
use Rattle.jsx_tree.proofs.Rows.Steps.{bar, end, on, on_row, then', then_row}
use Rattle.jsx_tree.proofs.Rows.Turns.{whole_of}
use Rattle.jsx_token.specs.Headings.{Begins, own, over_keys, over_items}
use Rattle.jsx_token.specs.declared.heading.Heading.TheVariants as heading
use Rattle.jsx_token.specs.Marks.{row_so_far}
use Rattle.jsx_operand.specs.SoFar.{so_far}
use Rattle.jsx_operand.proofs.OfSoFar.{of_so_far}
use Rattle.jsx_declaration.specs.declared.for_head.ForHead.{ForHead}
use Rattle.jsx_declaration.specs.declared.for_head.ForHead.TheVariants as head
use Rattle.jsx_declaration.specs.Heads.{Heads, IsInitial, IsItems, IsKeys, IsPlacedHead, NoHeads, NotOver, initial_symbols, items_row, items_symbols, keys_row, keys_symbols, over_row}
use Rattle.jsx_operand.specs.Spans.{IsPlacedFront}
use Rattle.jsx_token.specs.Here.{Here}
use Rattle.jsx_tree.specs.View.{optional_at_of, view_pattern, view_target}
use Rattle.jsx_tree.specs.Told.{told_optional, told_pat}
use Rattle.jsx_tree.specs.declared.tree.Pat.{Pat}
use Rattle.jsx_tree.specs.Faults.{Fault, Unread, Shallow, deepest}
use Rattle.jsx_tree.proofs.Depth.Shallow.{shallow_first, shallow_alone}
use Rattle.jsx_operand.specs.Openings.{NoParts}
use Rattle.jsx_operand.proofs.Openings.{free_none, free_parts}
use Rattle.jsx_statement.specs.Statements.{NoneHeaded, OnlyHeaded, loop_row}
use Rattle.jsx_declaration.proofs.Controls.{barred_in, only_in}
use Rattle.jsx_statement.proofs.Heads.{no_for_initial}
use Rattle.jsx_declaration.proofs.Statements.{plain_node}

-- ---- which of the three it is

for_kind : (A : Kind → Type 0) {k : Kind} → Begins heading.For k → A (statement For) → A (statement ForIn) → A (statement ForOf) → A k
for_kind A (own h) a b c = a
for_kind A over_keys a b c = b
for_kind A over_items a b c = c

abbrev None : Surroundings → Place → Kind → Fault → Type 0
None v x k e = NoParts v k x e

pub no_loop : {v : Surroundings} {x : Place} {e : Fault} → NoNode so_far v (tail (row_so_far (statement For))) (statement For) x e → NoNode so_far v (tail (row_so_far (statement ForIn))) (statement ForIn) x e → NoNode so_far v (tail (row_so_far (statement ForOf))) (statement ForOf) x e → NoneHeaded v heading.For x e
no_loop {v} {x} {e = e} a b c = record { on = λ k i. for_kind (λ w. None v x w e) i (free_none (statement For) refl a) (free_none (statement ForIn) refl b) (free_none (statement ForOf) refl c) }

abbrev Others : Surroundings → Place → Kind → Kind → Type 0
Others v x l k = (us : Forest) (z : Place) → Walk (Whole so_far) (around v us) (tail (row_so_far k)) x us z → so_far.keeps k v us ≡ true → k ≡ l

pub for_only : {v : Surroundings} {x z : Place} {t : Tree} → BuiltNode so_far v (tail (row_so_far (statement For))) (statement For) t x z → NoNode so_far v (tail (row_so_far (statement ForIn))) (statement ForIn) x Unread → NoNode so_far v (tail (row_so_far (statement ForOf))) (statement ForOf) x Unread → OnlyHeaded v heading.For t x z
for_only {v} {x} n b c = record { kind = statement For; begun = own heading.For; node' = free_parts (statement For) refl n; others = λ k i. for_kind (Others v x (statement For)) i (λ us z w h. refl) (λ us z w h. absurd ((free_none (statement ForIn) refl b).no us z w h tt)) (λ us z w h. absurd ((free_none (statement ForOf) refl c).no us z w h tt)) }

pub in_only : {v : Surroundings} {x z : Place} {t : Tree} → BuiltNode so_far v (tail (row_so_far (statement ForIn))) (statement ForIn) t x z → NoNode so_far v (tail (row_so_far (statement For))) (statement For) x Unread → NoNode so_far v (tail (row_so_far (statement ForOf))) (statement ForOf) x Unread → OnlyHeaded v heading.For t x z
in_only {v} {x} n a c = record { kind = statement ForIn; begun = over_keys; node' = free_parts (statement ForIn) refl n; others = λ k i. for_kind (Others v x (statement ForIn)) i (λ us z w h. absurd ((free_none (statement For) refl a).no us z w h tt)) (λ us z w h. refl) (λ us z w h. absurd ((free_none (statement ForOf) refl c).no us z w h tt)) }

pub of_only : {v : Surroundings} {x z : Place} {t : Tree} → BuiltNode so_far v (tail (row_so_far (statement ForOf))) (statement ForOf) t x z → NoNode so_far v (tail (row_so_far (statement For))) (statement For) x Unread → NoNode so_far v (tail (row_so_far (statement ForIn))) (statement ForIn) x Unread → OnlyHeaded v heading.For t x z
of_only {v} {x} n a b = record { kind = statement ForOf; begun = over_items; node' = free_parts (statement ForOf) refl n; others = λ k i. for_kind (Others v x (statement ForOf)) i (λ us z w h. absurd ((free_none (statement For) refl a).no us z w h tt)) (λ us z w h. absurd ((free_none (statement ForIn) refl b).no us z w h tt)) (λ us z w h. refl) }

-- ---- none of a kind, behind its word

over_rest : {v : Surroundings} {c : Nonterminal} {s : Sign} {x : Place} {ps : List Piece} {e : Fault} → NoRow so_far v (over_row c s) x e → NoRow so_far v (piece [] (Part c) ∷ piece [] (Fixed s) ∷ ps) x e
over_rest {v} {c} {s} {x} {ps} {e = e} n = record { no = at }
  where
    at : (us : Forest) (z : Place) → Walk (Whole so_far) (steady v) (piece [] (Part c) ∷ piece [] (Fixed s) ∷ ps) x us z → Shallow e (deepest us) → ⊥
    at us z (next {g = g'} {ts = us'} w (next (sign d h) rest)) a = n.no _ _ (next w (next (sign d h) (done h))) (shallow_alone e g' (shallow_first e g' us' a))

pub no_keys : {v : Surroundings} {x y : Place} {e : Fault} → Only so_far v (Fixed (pun "(")) x nothing y → NoRow so_far v keys_row y e → NoNode so_far v (tail (row_so_far (statement ForIn))) (statement ForIn) x e
no_keys o n = no_node (on o (over_rest n))

pub no_items : {v : Surroundings} {x y : Place} {e : Fault} → Only so_far v (Fixed (pun "(")) x nothing y → NoRow so_far v items_row y e → NoNode so_far v (tail (row_so_far (statement ForOf))) (statement ForOf) x e
no_items o n = no_node (on o (over_rest n))

pub no_bracket : {v : Surroundings} {x : Place} {e : Fault} → Barred so_far v (Fixed (pun "(")) x e → NoneHeaded v heading.For x e
no_bracket b = no_loop (no_node (bar b)) (no_node (bar b)) (no_node (bar b))

pub no_head : {v : Surroundings} {x y : Place} {e : Fault} → Only so_far v (Fixed (pun "(")) x nothing y → NoHeads v y e → NoneHeaded v heading.For x e
no_head o n = no_loop (no_for_initial o n.initial) (no_keys o n.over.keys) (no_items o n.over.items)

pub no_other : {v : Surroundings} {x y : Place} {e : Fault} → Only so_far v (Fixed (pun "(")) x nothing y → NotOver v y e → NoNode so_far v (tail (row_so_far (statement For))) (statement For) x e → NoneHeaded v heading.For x e
no_other o n a = no_loop a (no_keys o n.keys) (no_items o n.items)

-- ---- with what is gone over, and the body

pub body_row : {v u : Surroundings} {x y z : Place} {s : Tree} → u ≡ enter none InLoop v → Only so_far v (Fixed (pun ")")) x nothing y → Only so_far u (Part SubStmt) y (one s) z → OnlyRow so_far v loop_row x (part s none) z
body_row i a b = then' a (then' (only_in i b) (end (end_found of_so_far (whole_of b.past).reads)))

pub no_loop_body : {v u : Surroundings} {x y : Place} {e : Fault} → u ≡ enter none InLoop v → Only so_far v (Fixed (pun ")")) x nothing y → Barred so_far u (Part SubStmt) y e → NoRow so_far v loop_row x e
no_loop_body i a b = on a (bar (barred_in i b))

pub in_built : {v : Surroundings} {x x1 x2 x3 z : Place} {t e s u : Tree} → Only so_far v (Fixed (pun "(")) x nothing x1 → OnlyRow so_far v keys_row x1 (part t none) x2 → Only so_far v (Part (Expr 0)) x2 (one e) x3 → OnlyRow so_far v loop_row x3 (part s none) z → u ≡ node (statement ForIn) (part t (part e (part s none)))
    → BuiltNode so_far v (tail (row_so_far (statement ForIn))) (statement ForIn) u x z
in_built a b c d is = plain_node refl (λ ts h. and_both _ _ h refl) (record { parts = _; is = is; row = then' a (then_row of_so_far keys_row b (then' c d)) })

pub of_node : {v : Surroundings} {x x1 x2 x3 z : Place} {t e s u : Tree} → Only so_far v (Fixed (pun "(")) x nothing x1 → OnlyRow so_far v items_row x1 (part t none) x2 → Only so_far v (Part (Expr 1)) x2 (one e) x3 → OnlyRow so_far v loop_row x3 (part s none) z → u ≡ node (statement ForOf) (part t (part e (part s none)))
    → BuiltNode so_far v (tail (row_so_far (statement ForOf))) (statement ForOf) u x z
of_node a b c d is = plain_node refl (λ ts h. and_both _ _ h refl) (record { parts = _; is = is; row = then' a (then_row of_so_far items_row b (then' c d)) })

pub no_object : {v : Surroundings} {x x1 x2 : Place} {t : Tree} {e : Fault} → Only so_far v (Fixed (pun "(")) x nothing x1 → OnlyRow so_far v keys_row x1 (part t none) x2 → Barred so_far v (Part (Expr 0)) x2 e → NoNode so_far v (tail (row_so_far (statement ForIn))) (statement ForIn) x e
no_object a b n = no_node (on a (on_row of_so_far keys_row b (bar n)))

pub no_in_body : {v : Surroundings} {x x1 x2 x3 : Place} {t e : Tree} {o : Fault} → Only so_far v (Fixed (pun "(")) x nothing x1 → OnlyRow so_far v keys_row x1 (part t none) x2 → Only so_far v (Part (Expr 0)) x2 (one e) x3 → NoRow so_far v loop_row x3 o → NoNode so_far v (tail (row_so_far (statement ForIn))) (statement ForIn) x o
no_in_body a b c n = no_node (on a (on_row of_so_far keys_row b (on c n)))

pub no_listed : {v : Surroundings} {x x1 x2 : Place} {t : Tree} {e : Fault} → Only so_far v (Fixed (pun "(")) x nothing x1 → OnlyRow so_far v items_row x1 (part t none) x2 → Barred so_far v (Part (Expr 1)) x2 e → NoNode so_far v (tail (row_so_far (statement ForOf))) (statement ForOf) x e
no_listed a b n = no_node (on a (on_row of_so_far items_row b (bar n)))

pub no_of_body : {v : Surroundings} {x x1 x2 x3 : Place} {t e : Tree} {o : Fault} → Only so_far v (Fixed (pun "(")) x nothing x1 → OnlyRow so_far v items_row x1 (part t none) x2 → Only so_far v (Part (Expr 1)) x2 (one e) x3 → NoRow so_far v loop_row x3 o → NoNode so_far v (tail (row_so_far (statement ForOf))) (statement ForOf) x o
no_of_body a b c n = no_node (on a (on_row of_so_far items_row b (on c n)))

-- ---- what was read in the parentheses

pub as_initial : {v : Surroundings} {x y : Place} {h : ForHead} {i : Option (Box Pat Global)} → h ≡ head.Initial i → Heads v x h y → IsInitial v x (optional_at_of Assigns view_pattern i) y
as_initial {v} {x} {y} e r = subst (λ g. Heads v x g y) e r

pub as_keys : {v : Surroundings} {x y : Place} {h : ForHead} {p : Box Pat Global} → h ≡ head.Keys p → Heads v x h y → IsKeys v x (view_target p.value) y
as_keys {v} {x} {y} e r = subst (λ g. Heads v x g y) e r

pub as_items : {v : Surroundings} {x y : Place} {h : ForHead} {p : Box Pat Global} → h ≡ head.Items p → Heads v x h y → IsItems v x (view_target p.value) y
as_items {v} {x} {y} e r = subst (λ g. Heads v x g y) e r

pub placed_initial : {x y : Here} {h : ForHead} {i : Option (Box Pat Global)} → h ≡ head.Initial i → IsPlacedHead h x y → IsPlacedFront initial_symbols (told_optional told_pat i) (optional_at_of Assigns view_pattern i) x y
placed_initial {x} {y} e r = subst (λ g. IsPlacedHead g x y) e r

pub placed_keys : {x y : Here} {h : ForHead} {p : Box Pat Global} → h ≡ head.Keys p → IsPlacedHead h x y → IsPlacedFront keys_symbols (told_pat p.value) (view_target p.value) x y
placed_keys {x} {y} e r = subst (λ g. IsPlacedHead g x y) e r

pub placed_items : {x y : Here} {h : ForHead} {p : Box Pat Global} → h ≡ head.Items p → IsPlacedHead h x y → IsPlacedFront items_symbols (told_pat p.value) (view_target p.value) x y
placed_items {x} {y} e r = subst (λ g. IsPlacedHead g x y) e r

-- ---- each exit of the function

-- what is read at no depth
any_node : {v : Surroundings} {ps : List Piece} {k : Kind} {x : Place} {e : Fault} → NoNode so_far v ps k x Unread → NoNode so_far v ps k x e
any_node n = record { no = λ ts y w k s. n.no ts y w k tt }

pub initial_other : {v : Surroundings} {x y z : Place} {i : Tree} {e : Fault} → Only so_far v (Fixed (pun "(")) x nothing y → IsInitial v y i z → NoNode so_far v (tail (row_so_far (statement For))) (statement For) x e → NoneHeaded v heading.For x e
initial_other o r n = no_loop n (any_node (no_keys o r.over.keys)) (any_node (no_items o r.over.items))

pub initial_only : {v : Surroundings} {x y z w : Place} {i t : Tree} → Only so_far v (Fixed (pun "(")) x nothing y → IsInitial v y i z → BuiltNode so_far v (tail (row_so_far (statement For))) (statement For) t x w → OnlyHeaded v heading.For t x w
initial_only o r b = for_only b (no_keys o r.over.keys) (no_items o r.over.items)

pub keys_other : {v : Surroundings} {x y z : Place} {t : Tree} {e : Fault} → Only so_far v (Fixed (pun "(")) x nothing y → IsKeys v y t z → NoNode so_far v (tail (row_so_far (statement ForIn))) (statement ForIn) x e → NoneHeaded v heading.For x e
keys_other o r n = no_loop (any_node (no_for_initial o r.initial)) n (any_node (no_items o r.items))

pub keys_only : {v : Surroundings} {x y z w : Place} {t u : Tree} → Only so_far v (Fixed (pun "(")) x nothing y → IsKeys v y t z → BuiltNode so_far v (tail (row_so_far (statement ForIn))) (statement ForIn) u x w → OnlyHeaded v heading.For u x w
keys_only o r b = in_only b (no_for_initial o r.initial) (no_items o r.items)

pub items_other : {v : Surroundings} {x y z : Place} {t : Tree} {e : Fault} → Only so_far v (Fixed (pun "(")) x nothing y → IsItems v y t z → NoNode so_far v (tail (row_so_far (statement ForOf))) (statement ForOf) x e → NoneHeaded v heading.For x e
items_other o r n = no_loop (any_node (no_for_initial o r.initial)) (any_node (no_keys o r.keys)) n

pub items_only : {v : Surroundings} {x y z w : Place} {t u : Tree} → Only so_far v (Fixed (pun "(")) x nothing y → IsItems v y t z → BuiltNode so_far v (tail (row_so_far (statement ForOf))) (statement ForOf) u x w → OnlyHeaded v heading.For u x w
items_only o r b = of_only b (no_for_initial o r.initial) (no_keys o r.keys)
