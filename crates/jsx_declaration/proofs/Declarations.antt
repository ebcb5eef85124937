-- Functions and classes that are declared.
use Rattle.std.proofs.Common.{◌≡◌, true, [], ◌∷◌, refl, sym, subst}
use Rattle.std.specs.Prelude.{Option}
use Rattle.jsx_base.specs.Token.{IdentifierName, Text}
use Rattle.jsx_base.specs.declared.place.Span.{Span}
use Rattle.jsx_tree.specs.Kinds.{ClassDecl, FunctionDecl, statement, Tree, leaf, node, list, Forest, none, part}
use Rattle.jsx_tree.specs.Nonterminals.{BindingIdent}
use Rattle.jsx_tree.specs.Grammar.{InClassCode, Part}
use Rattle.jsx_tree.specs.Reading.{Place}
use Rattle.jsx_tree.specs.StaticRules.{Surroundings, all_of, enter, has_plain_params, list_rule, members_rule}
use Rattle.jsx_tree.specs.Spans.{Tales, Told, spans, tale, tells}
use Rattle.jsx_tree.specs.Walk.{one, with, tail, Walk, next, around, steady}
use Rattle.jsx_tree.specs.Language.{Whole}
use Rattle.jsx_tree.specs.Answers.{Only, Barred, OnlyRow, NoNode, BuiltNode}
use Rattle.jsx_tree.specs.Faults.{Fault, Shallow, deepest}
use Rattle.jsx_tree.proofs.Tokens.{and_both, and_left}
use Rattle.jsx_tree.proofs.Rows.Steps.{then'}
use Rattle.jsx_tree.proofs.Depth.Shallow.{shallow_rest, shallow_first}
use Rattle.jsx_token.specs.Growths.{opening_sign}
use Rattle.jsx_token.specs.Here.{Here}
use Rattle.jsx_token.specs.Marks.{row_so_far}
use Rattle.jsx_token.specs.Places.{end_of, next_of, Takes}
use Rattle.jsx_operand.specs.Openings.{NoParts, OnlyParts}
use Rattle.jsx_operand.specs.SoFar.{so_far}
use Rattle.jsx_operand.specs.Spans.{IsPlaced, IsPlacedRow, Spans}
use Rattle.jsx_operand.proofs.Entering.{renamed}
use Rattle.jsx_operand.proofs.Placing.{node_is, row_part, row_quiet, row_sign, row_within}
use Rattle.jsx_function.specs.Classes.{NoClass, OnlyClass, class_row, keep_members}
use Rattle.jsx_function.specs.Functions.{NoCode, code_row, code_symbols}

-- ---- a function, behind its word

pub function_built : {v : Surroundings} {x y z : Place} {n t : Tree} {ts : Forest} → Only so_far v (Part BindingIdent) x (one n) y → OnlyRow so_far v code_row y ts z → has_plain_params (part n ts) ≡ true → t ≡ node (statement FunctionDecl) (part n ts) → BuiltNode so_far v (tail (row_so_far (statement FunctionDecl))) (statement FunctionDecl) t x z
function_built {n = n} {ts = ts} o r h is = record { parts = part n ts; is = is; row = then' o r; keeps = and_both (has_plain_params (part n ts)) true h refl }

-- a name alone asks nothing of the parameters
pub no_code : {v : Surroundings} {x y : Place} {name : Text} {d : Fault} → Only so_far v (Part BindingIdent) x (one (leaf IdentifierName name)) y → NoCode v y d → NoNode so_far v (tail (row_so_far (statement FunctionDecl))) (statement FunctionDecl) x d
no_code {v} {x} {y} {name} {d = d} o n = record { no = at }
  where
    at : (ts : Forest) (z : Place) → Walk (Whole so_far) (steady v) (tail (row_so_far (statement FunctionDecl))) x ts z → so_far.keeps (statement FunctionDecl) v ts ≡ true → Shallow d (deepest ts) → ⊥
    at ts z (next {g = g} {ts = us} q walk) h s =
        let same = o.alone g _ q in
        n.no us z (subst (λ p. Walk (Whole so_far) (steady v) code_row p us z) (sym same.1) walk) (and_left (has_plain_params us) true (subst (λ e. so_far.keeps (statement FunctionDecl) v (with e us) ≡ true) (sym same.0) h)) (shallow_rest d g us s)

pub function_placed : {at : Option Span} {d : Told} {ds : Tales} {n : Tree} {ts : Forest} {w x y z : Here} → Takes (opening_sign (statement FunctionDecl)) w x → IsPlaced d n x y → IsPlacedRow code_symbols ds ts y z → Spans at (next_of w) (end_of z) → IsPlaced (tells (spans at ∷ []) (tale d ds)) (node (statement FunctionDecl) (part n ts)) w z
function_placed m name code s = node_is (λ c e ps. refl) (λ ms text. refl) s (row_quiet (λ q. refl) (row_sign m (row_quiet (λ q. refl) (row_part name (row_within code)))))

-- ---- a class, behind its word

pub class_built : {v : Surroundings} {x y z : Place} {name : Text} {t : Tree} {ts : Forest} → Only so_far (enter none InClassCode v) (Part BindingIdent) x (one (leaf IdentifierName name)) y → OnlyClass v y ts z → keep_members ts → t ≡ node (statement ClassDecl) (part (leaf IdentifierName name) ts) → OnlyParts v (statement ClassDecl) t x z
class_built {v} {x} {y} {z} {name} {t} {ts} o c k is = record {
  parts = part (leaf IdentifierName name) ts;
  is = is;
  walk = next o.past (renamed (list none) (leaf IdentifierName name) ts refl c.walk);
  keeps = and_both (all_of (list_rule members_rule) ts) true k refl;
  alone = at;
}
  where
    at : (us : Forest) (w : Place) → Walk (Whole so_far) (around v us) (tail (row_so_far (statement ClassDecl))) x us w → so_far.keeps (statement ClassDecl) v us ≡ true → (part (leaf IdentifierName name) ts ≡ us) × (z ≡ w)
    at us w (next {y = y'} {g = g} {ts = us'} q walk) h =
        let same = o.alone g y' q in
        let here : Walk (Whole so_far) (around v (part (leaf IdentifierName name) us')) class_row y us' w = subst (λ e. Walk (Whole so_far) (around v (with e us')) class_row y us' w) (sym same.0) (subst (λ p. Walk (Whole so_far) (around v (with g us')) class_row p us' w) (sym same.1) walk) in
        let rest = c.alone us' w (renamed (leaf IdentifierName name) (list none) us' refl here) in
        (λ i. with (same.0 i) (rest.0 i), rest.1)

pub no_class_name : {v : Surroundings} {x : Place} {e : Fault} → Barred so_far (enter none InClassCode v) (Part BindingIdent) x e → NoParts v (statement ClassDecl) x e
no_class_name {v} {x} {e = e} b = record { no = at }
  where
    at : (us : Forest) (w : Place) → Walk (Whole so_far) (around v us) (tail (row_so_far (statement ClassDecl))) x us w → so_far.keeps (statement ClassDecl) v us ≡ true → Shallow e (deepest us) → ⊥
    at us w (next {y = y} {g = g} {ts = vs} q walk) h s = b.no g y q (shallow_first e g vs s)

pub no_class : {v : Surroundings} {x y : Place} {name : Text} {d : Fault} → Only so_far (enter none InClassCode v) (Part BindingIdent) x (one (leaf IdentifierName name)) y → NoClass v y d → NoParts v (statement ClassDecl) x d
no_class {v} {x} {y} {name} {d = d} o n = record { no = at }
  where
    at : (us : Forest) (w : Place) → Walk (Whole so_far) (around v us) (tail (row_so_far (statement ClassDecl))) x us w → so_far.keeps (statement ClassDecl) v us ≡ true → Shallow d (deepest us) → ⊥
    at us w (next {y = y'} {g = g} {ts = us'} q walk) h s =
        let same = o.alone g y' q in
        let here : Walk (Whole so_far) (around v (part (leaf IdentifierName name) us')) class_row y us' w = subst (λ e. Walk (Whole so_far) (around v (with e us')) class_row y us' w) (sym same.0) (subst (λ p. Walk (Whole so_far) (around v (with g us')) class_row p us' w) (sym same.1) walk) in
        n.no us' w (renamed (leaf IdentifierName name) (list none) us' refl here) (and_left (all_of (list_rule members_rule) us') true (subst (λ e. so_far.keeps (statement ClassDecl) v (with e us') ≡ true) (sym same.0) h)) (shallow_rest d g us' s)
