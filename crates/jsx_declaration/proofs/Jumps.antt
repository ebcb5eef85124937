-- Jumps behind their words: their labels, and where they may stand.
use Rattle.std.proofs.Common.{◌≡◌, Bool, true, false, not, Option, Some, None, [], ◌∷◌, refl, sym, ◌∙◌, ap, subst, arith}
use Rattle.std.specs.Prelude.{IsTrue}
use Rattle.jsx_tree.specs.Signs.{SameLine, AfterWord, Ends, Semicolon, Tok}
use Rattle.jsx_tree.specs.Kinds.{Continue, Break, Kind, statement, Tree, leaf, node, list, Forest, none, part}
use Rattle.jsx_tree.specs.Nonterminals.{Ident}
use Rattle.jsx_tree.specs.Grammar.{Part, semi}
use Rattle.jsx_tree.specs.Reading.{Place, Lost, forth, go_if, is_do, scan}
use Rattle.jsx_tree.specs.StaticRules.{Surroundings, stands}
use Rattle.jsx_tree.specs.Walk.{is_found, one, nothing, tail, sign, Walk, done, next}
use Rattle.jsx_tree.specs.Language.{Whole}
use Rattle.jsx_tree.specs.Answers.{Moves, Only, Barred, NoNode, NoRow, BuiltNode}
use Rattle.jsx_tree.specs.Faults.{Fault, Unread, Below, deepest}
use Rattle.jsx_tree.proofs.Apart.{clash}
use Rattle.jsx_tree.proofs.Depth.Shallow.{below_shallow}
use Rattle.jsx_operand.proofs.Homes.{leaf_one}
use Rattle.jsx_tree.proofs.Rows.Laws.{lost_barred}
use Rattle.jsx_tree.proofs.Rows.Optionals.{turn_absent, turn_present, semicolon_shut}
use Rattle.jsx_tree.proofs.Rows.Steps.{bar, end, then', no_sign, only_sign}
use Rattle.jsx_tree.proofs.Rows.Stopping.{is_not}
use Rattle.jsx_tree.proofs.Rows.Turns.{turn_both, turn_none, turn_only, turn_symbol}
use Rattle.jsx_base.specs.Token.{Text, Operator, IdentifierName, breaks}
use Rattle.jsx_token.specs.Here.{Here, place_of}
use Rattle.jsx_token.specs.Marks.{row_so_far}
use Rattle.jsx_operand.specs.SoFar.{so_far}
use Rattle.jsx_operand.proofs.OfSoFar.{of_so_far}
use Rattle.jsx_declaration.specs.declared.label.Label.{Label}
use Rattle.jsx_declaration.specs.Heads.{Front, free_end}
use Rattle.jsx_declaration.specs.Labels.{jump_row, target_of}
use Rattle.jsx_declaration.proofs.Heads.{as_front, as_turn}
use Rattle.jsx_declaration.proofs.Items.{unless_none}
use Rattle.jsx_declaration.proofs.Statements.{lost_if}

-- ---- the label, or none

-- no name stands there on the line
abbrev pub NoTarget : Surroundings → Place → Fault → Type 0
NoTarget v y e = Barred so_far v (Part Ident) (scan y (SameLine ∷ [])) e

pub off_line : {v : Surroundings} {e : Fault} (h : Here) → not (breaks h.rest) ≡ false → NoTarget v (place_of h) e
off_line h n = lost_barred of_so_far (ap (λ b. go_if b (place_of h)) n)

pub not_there : {v : Surroundings} {y : Place} {e : Fault} → Moves SameLine y y → Barred so_far v (Part Ident) y e → NoTarget v y e
not_there {v} {e = e} m b = subst (λ p. Barred so_far v (Part Ident) p e) m.is b

pub no_target : {v : Surroundings} {x y : Place} → Moves (Ends AfterWord) x y → NoTarget v y Unread → Front v jump_row free_end x (list none) y
no_target {y = y} m b = as_front (turn_both (turn_symbol (only_sign m)) (turn_absent (unless_none y m.found) m.found b))

-- before a name on the line no semicolon can be missing
pub no_semicolon : (h : Here) (t : Text) → is_do h.ending ≡ false → not (breaks h.rest) ≡ true → IsTrue (is_found (forth (Tok Operator IdentifierName t) (place_of h))) → forth Semicolon (place_of h) ≡ Lost
no_semicolon h t d n f = lost_if (forth Semicolon (place_of h)) (λ g. (semicolon_shut h.last h.ending h.rest d (is_not _ n) g).no Operator IdentifierName t refl f)

pub some_target : {v : Surroundings} {x y z w : Place} {t : Tree} → Moves (Ends AfterWord) x y → Moves SameLine y y → Only so_far v (Part Ident) y (one t) z → Moves (Ends AfterWord) z w → forth Semicolon y ≡ Lost → Front v jump_row free_end x (list (part t none)) w
some_target {v} {y = y} m l o n e = as_front (turn_both (turn_symbol (only_sign m)) (turn_present (sym l.is) o (sym n.is) n.found (subst (λ p. NoRow so_far v free_end p Unread) (sym (unless_none y m.found)) (bar (no_sign (record { is = e }))))))

-- it has a label, and no level is left for that
pub deep_label : {v : Surroundings} {x y : Place} {n : Text} {e : Fault} → Front v jump_row free_end x (list (part (leaf IdentifierName n) none)) y → Below 0 e → NoRow so_far v jump_row x e
deep_label {n = n} {e = e} f b = record {
  no = λ us z w s.
      let r = f.from us z w in
      let d = below_shallow 0 e (deepest us) b s in
      let same : deepest (part (list (part (leaf IdentifierName n) none)) r.parts) ≡ deepest us = ap deepest r.is in
      omega (arith, leaf_one IdentifierName n refl, d, same);
}

-- without a semicolon
pub unended : {v : Surroundings} {x y : Place} {t : Tree} {e : Fault} → Front v jump_row free_end x t y → Barred so_far v semi y e → NoRow so_far v jump_row x e
unended f b = turn_none (as_turn f) (bar b)

-- the node, where the jump may stand
break_keeps : (v : Surroundings) (l : Option Label) (b : Bool) → stands (statement Break) (part (target_of l) none) v ≡ b → so_far.keeps (statement Break) v (part (target_of l) none) ≡ b
break_keeps v None b h = h
break_keeps v (Some l) b h = h

continue_keeps : (v : Surroundings) (l : Option Label) (b : Bool) → stands (statement Continue) (part (target_of l) none) v ≡ b → so_far.keeps (statement Continue) v (part (target_of l) none) ≡ b
continue_keeps v None b h = h
continue_keeps v (Some l) b h = h

pub break_built : {v : Surroundings} {x y z : Place} {t : Tree} (l : Option Label) → stands (statement Break) (part (target_of l) none) v ≡ true → Front v jump_row free_end x (target_of l) y → Only so_far v semi y nothing z → IsTrue (is_found z) → t ≡ node (statement Break) (part (target_of l) none) → BuiltNode so_far v (tail (row_so_far (statement Break))) (statement Break) t x z
break_built l h f o g is = record { parts = part (target_of l) none; is = is; row = turn_only (as_turn f) (then' o (end g)); keeps = break_keeps _ l true h }

pub continue_built : {v : Surroundings} {x y z : Place} {t : Tree} (l : Option Label) → stands (statement Continue) (part (target_of l) none) v ≡ true → Front v jump_row free_end x (target_of l) y → Only so_far v semi y nothing z → IsTrue (is_found z) → t ≡ node (statement Continue) (part (target_of l) none) → BuiltNode so_far v (tail (row_so_far (statement Continue))) (statement Continue) t x z
continue_built l h f o g is = record { parts = part (target_of l) none; is = is; row = turn_only (as_turn f) (then' o (end g)); keeps = continue_keeps _ l true h }

-- and where it may not
ended_parts : {V : _} {ts : Forest} {y z : Place} → Walk (Whole so_far) V free_end y ts z → ts ≡ none
ended_parts (next (sign e f) (done g)) = refl

no_jump : {v : Surroundings} {x y : Place} {t : Tree} {e : Fault} (k : Kind) → Front v jump_row free_end x t y → so_far.keeps k v (part t none) ≡ false → NoNode so_far v jump_row k x e
no_jump {v} {t = t} k f n = record { no = λ us w walk h s. let r = f.from us w walk in clash _ (subst (λ vs. so_far.keeps k v vs ≡ true) (sym r.is ∙ ap (part t) (ended_parts r.walk)) h) n }

pub no_break : {v : Surroundings} {x y : Place} {e : Fault} (l : Option Label) → stands (statement Break) (part (target_of l) none) v ≡ false → Front v jump_row free_end x (target_of l) y → NoNode so_far v (tail (row_so_far (statement Break))) (statement Break) x e
no_break l h f = no_jump (statement Break) f (break_keeps _ l false h)

pub no_continue : {v : Surroundings} {x y : Place} {e : Fault} (l : Option Label) → stands (statement Continue) (part (target_of l) none) v ≡ false → Front v jump_row free_end x (target_of l) y → NoNode so_far v (tail (row_so_far (statement Continue))) (statement Continue) x e
no_continue l h f = no_jump (statement Continue) f (continue_keeps _ l false h)
