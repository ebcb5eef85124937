-- `return` behind its word, with its value on the line or with none.
use Rattle.std.proofs.Common.{◌≡◌, true, false, List, [], ◌∷◌, refl, sym, ◌∙◌, subst}
use Rattle.jsx_base.specs.declared.place.Span.{Span}
use Rattle.std.specs.Prelude.{Option}
use Rattle.jsx_tree.specs.Signs.{AfterWord, Ends, SameLine, Semicolon}
use Rattle.jsx_tree.specs.Kinds.{Return, statement, Tree, node, list, Forest, none, part}
use Rattle.jsx_tree.specs.Nonterminals.{Expr}
use Rattle.jsx_tree.specs.Grammar.{Part, semi}
use Rattle.jsx_tree.specs.Reading.{Place, forth}
use Rattle.jsx_tree.specs.StaticRules.{Surroundings, has_plain_params}
use Rattle.jsx_tree.specs.Spans.{Told, no_tales, tale}
use Rattle.jsx_tree.specs.Told.{told_list, told_node}
use Rattle.jsx_tree.specs.Walk.{Piece, nothing, one, tail, sign, absent, present, Walk, next}
use Rattle.jsx_tree.specs.Language.{Whole}
use Rattle.jsx_tree.specs.Answers.{Moves, Missed, Only, Barred, OnlyRow, NoRow, NoNode, BuiltNode}
use Rattle.jsx_tree.specs.Faults.{Fault}
use Rattle.jsx_tree.proofs.Apart.{clash}
use Rattle.jsx_tree.proofs.Tokens.{and_both, and_right}
use Rattle.jsx_tree.proofs.Rows.Bodies.{plain}
use Rattle.jsx_tree.proofs.Rows.Bridge.{found_at}
use Rattle.jsx_tree.proofs.Rows.Guarded.{to_grammar}
use Rattle.jsx_tree.proofs.Rows.Laws.{start_found}
use Rattle.jsx_tree.proofs.Rows.Lists.{closed, ended_sign}
use Rattle.jsx_tree.proofs.Rows.Optionals.{word_absent, word_none, word_present}
use Rattle.jsx_tree.proofs.Rows.Steps.{bar, on, only_sign, then'}
use Rattle.jsx_tree.proofs.Rows.Stopping.{stays}
use Rattle.jsx_tree.proofs.Rows.Turns.{turn_none, turn_only}
use Rattle.jsx_token.specs.Growths.{opening_sign}
use Rattle.jsx_token.specs.Here.{Here, place_of}
use Rattle.jsx_token.specs.Marks.{row_so_far}
use Rattle.jsx_token.specs.Places.{end_of, next_of, Takes}
use Rattle.jsx_operand.specs.SoFar.{so_far}
use Rattle.jsx_operand.specs.Spans.{IsPlaced, IsPlacedRow, Spans}
use Rattle.jsx_operand.proofs.OfSoFar.{of_so_far}
use Rattle.jsx_operand.proofs.Placing.{node_is, row_absent, row_end, row_present, row_quiet, row_sign}
use Rattle.jsx_declaration.specs.Functions.{returned_symbols}

abbrev pub returned_row : List Piece
returned_row = tail (row_so_far (statement Return))

-- where a semicolon stands or is missing there is no value; where none is, it stands on the line
pub no_value : {v : Surroundings} {x y z : Place} → Moves (Ends AfterWord) x y → Moves Semicolon y z → OnlyRow so_far v returned_row x (part (list none) none) z
no_value m n = then' (only_sign m) (turn_only (word_absent of_so_far refl (only_sign m) n) (closed n))

pub some_value : {v : Surroundings} {x y y' z w : Place} {t : Tree} → Moves (Ends AfterWord) x y → Missed Semicolon y y' → Only so_far v (Part (Expr 0)) y' (one t) z → Only so_far v semi z nothing w → OnlyRow so_far v returned_row x (part (list (part t none)) none) w
some_value m n o e = then' (only_sign m) (turn_only (word_present of_so_far refl (only_sign m) n o) (ended_sign e))

pub unread_value : {v : Surroundings} {x y y' : Place} {e : Fault} → Moves (Ends AfterWord) x y → Missed Semicolon y y' → Barred so_far v (Part (Expr 0)) y' e → NoRow so_far v returned_row x e
unread_value m n b = on (only_sign m) (word_none of_so_far (only_sign m) n b)

pub unended_value : {v : Surroundings} {x y y' z : Place} {t : Tree} {e : Fault} → Moves (Ends AfterWord) x y → Missed Semicolon y y' → Only so_far v (Part (Expr 0)) y' (one t) z → Barred so_far v semi z e → NoRow so_far v returned_row x e
unended_value m n o b = on (only_sign m) (turn_none (word_present of_so_far refl (only_sign m) n o) (bar b))

-- a value that is read so stands on the line
pub on_its_line : {v : Surroundings} {x y w : Place} {t : Tree} → Moves (Ends AfterWord) x y → OnlyRow so_far v returned_row x (part (list (part t none)) none) w → forth SameLine y ≡ y
on_its_line {v} {x} {y} {w} {t} m o = at o.walk refl
  where
    at : {V : _} {us : Forest} → Walk (Whole so_far) V returned_row x us w → us ≡ part (list (part t none)) none → forth SameLine y ≡ y
    at (next (sign {y = y'} e f) (next (absent d g) walk)) i = cc
    at (next (sign {y = y'} e f) (next (present d q g h) walk)) i = subst (λ p. forth SameLine p ≡ p) (sym e ∙ sym m.is) (stays SameLine y' refl (found_at d (start_found of_so_far q.reads)))

-- the node, in a function, and outside of any
pub return_built : {v : Surroundings} {x z : Place} {t : Tree} {ts : Forest} → v.returns ≡ true → OnlyRow so_far v returned_row x ts z → t ≡ node (statement Return) ts → BuiltNode so_far v returned_row (statement Return) t x z
return_built {ts = ts} r o is = record { parts = ts; is = is; row = o; keeps = and_both (has_plain_params ts) _ (plain returned_row refl (to_grammar of_so_far o.walk)) r }

pub no_return : {v : Surroundings} {x : Place} {e : Fault} → v.returns ≡ false → NoNode so_far v returned_row (statement Return) x e
no_return {v} n = record { no = λ ts z w h s. clash _ (and_right (has_plain_params ts) v.returns h) n }

-- ---- places

pub no_value_placed : {x y z : Here} → Takes (Ends AfterWord) x y → Takes Semicolon y z → IsPlacedRow returned_symbols (tale (told_list []) no_tales) (part (list none) none) x z
no_value_placed word end = row_sign word (row_absent (row_sign end row_end))

pub value_placed : {d : Told} {t : Tree} {x y z w : Here} → Takes (Ends AfterWord) x y → forth SameLine (place_of y) ≡ place_of y → IsPlaced d t y z → Takes Semicolon z w → IsPlacedRow returned_symbols (tale (told_list (d ∷ [])) no_tales) (part (list (part t none)) none) x w
value_placed word line l end = row_sign word (row_present refl line l (row_sign end row_end))

pub return_placed : {at : Option Span} {d : Told} {t : Tree} {w x z : Here} → Takes (opening_sign (statement Return)) w x → IsPlacedRow returned_symbols (tale d no_tales) (part t none) x z → Spans at (next_of w) (end_of z) → IsPlaced (told_node at (d ∷ [])) (node (statement Return) (part t none)) w z
return_placed m r s = node_is (λ c e ps. refl) (λ ms text. refl) s (row_quiet (λ q. refl) (row_sign m r))
