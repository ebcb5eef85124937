-- The places of the statements that hold no other: each along its row.
use Rattle.std.proofs.Common.{◌≡◌, true, not, [], ◌∷◌, refl, ap, subst, Option, Some, None}
use Rattle.std.specs.Str.{chars}
use Rattle.jsx_base.specs.Token.{Operator, IdentifierName, breaks}
use Rattle.jsx_base.specs.declared.place.Span.{Span}
use Rattle.jsx_tree.specs.Signs.{SameLine, AfterBinding, AfterWord, Tok, Semicolon, Ends}
use Rattle.jsx_tree.specs.Kinds.{DeclareWord, Var, Declarator, Empty, ExprStmt, Continue, Break, Throw, Debugger, statement, Tree, node, list, Forest, none, part, ForDeclaration, ForBinding}
use Rattle.jsx_tree.specs.Grammar.{NoTrailing, key, vars}
use Rattle.jsx_tree.specs.Reading.{go_if}
use Rattle.jsx_tree.specs.Spans.{spans, Told, tells, Tales, no_tales, tale}
use Rattle.jsx_tree.specs.View.{word_of}
use Rattle.jsx_tree.specs.declared.text.DeclareWord as code
use Rattle.jsx_tree.specs.declared.text.DeclareWord.TheVariants as declare_word
use Rattle.jsx_tree.specs.Told.{told_list, told_node}
use Rattle.jsx_token.specs.Here.{Here, place_of, sign_of}
use Rattle.jsx_token.specs.declared.lexer.Fixed.{Fixed}
use Rattle.jsx_token.specs.declared.lexer.Fixed.TheVariants as fixed
use Rattle.jsx_declaration.specs.Heads.{clause_symbols, declare_sign, initial_symbols, items_symbols, keys_symbols}
use Rattle.jsx_declaration.specs.declared.label.Label.{Label}
use Rattle.jsx_declaration.specs.Labels.{jump_symbols, label_text, target_of, told_target}
use Rattle.jsx_operand.specs.Spans.{Spans, IsPlaced, IsPlacedFront, IsPlacedList}
use Rattle.jsx_token.specs.Places.{next_of, end_of, Takes}
use Rattle.jsx_token.specs.Growths.{opening_sign}
use Rattle.jsx_operand.proofs.PlacedExpressions.{name_placed}
use Rattle.jsx_operand.proofs.Placing.{row_end, row_sign, row_quiet, row_unless, row_part, row_list, row_present, row_absent, node_is, led, row_around}

-- ---- nodes

pub declarator_row : {at : Option Span} {d e : Told} {t u : Tree} {x y z w v : Here} → IsPlaced d t x y → Takes (Ends AfterBinding) y z → Takes (sign_of fixed.Equals) z w → IsPlaced e u w v → Spans at (next_of x) (end_of v)
    → IsPlaced (told_node at (d ∷ told_list (e ∷ []) ∷ [])) (node (statement Declarator) (part t (part (list (part u none)) none))) x v
declarator_row l ends equals m s = node_is (λ c e ps. refl) (led l _) s (row_part l (row_sign ends (row_present equals.same equals.leads m row_end)))

pub plain_row : {at : Option Span} {d : Told} {t : Tree} {x y z : Here} → IsPlaced d t x y → Takes (Ends AfterBinding) y z → Spans at (next_of x) (end_of z) → IsPlaced (told_node at (d ∷ told_list [] ∷ [])) (node (statement Declarator) (part t (part (list none) none))) x z
plain_row l ends s = node_is (λ c e ps. refl) (led l _) s (row_part l (row_sign ends (row_absent row_end)))

pub declared_placed : {at : Option Span} {ds : Tales} {ts : Forest} {w x y z : Here} (d : DeclareWord) → Takes (opening_sign (statement (Var d))) w x → IsPlacedList NoTrailing ds ts x y → Takes Semicolon y z → Spans at (next_of w) (end_of z) → IsPlaced (tells (spans at ∷ []) (tale (tells [] ds) no_tales)) (node (statement (Var d)) (part (list ts) none)) w z
declared_placed d sign l end s = node_is (λ c e ps. refl) (λ ms text. refl) s (row_quiet (λ q. refl) (row_sign sign (row_quiet (λ q. refl) (row_list l (row_sign end row_end)))))

pub declaring_is : (d : code.DeclareWord) → declare_sign d ≡ Tok Operator IdentifierName (vars (word_of d))
declaring_is declare_word.Var = refl
declaring_is declare_word.Let = refl
declaring_is declare_word.Const = refl

pub head_placed : {at : Option Span} {ds : Tales} {ts : Forest} {w x y : Here} (d : code.DeclareWord) → Takes (declare_sign d) w x → IsPlacedList NoTrailing ds ts x y → Spans at (next_of w) (end_of y) → IsPlaced (tells (spans at ∷ []) (tale (tells [] ds) no_tales)) (node (statement (ForDeclaration (word_of d))) (part (list ts) none)) w y
head_placed {w = w} {x = x} d sign l s = node_is (λ c e ps. refl) (λ ms text. refl) s (row_sign (subst (λ m. Takes m w x) (declaring_is d) sign) (row_quiet (λ q. refl) (row_list l row_end)))

pub evaluation_placed : {at : Option Span} {d : Told} {t : Tree} {x y z : Here} → IsPlaced d t x y → Takes Semicolon y z → Spans at (next_of x) (end_of z) → IsPlaced (told_node at (d ∷ [])) (node (statement ExprStmt) (part t none)) x z
evaluation_placed l end s = node_is (λ c e ps. refl) (led l _) s (row_unless (row_part l (row_sign end row_end)))

pub empty_placed : {at : Option Span} {w x : Here} → Takes (opening_sign (statement Empty)) w x → Spans at (next_of w) (end_of x) → IsPlaced (told_node at []) (node (statement Empty) none) w x
empty_placed sign s = node_is (λ c e ps. refl) (λ ms text. refl) s (row_quiet (λ q. refl) (row_sign sign row_end))

pub no_initial_placed : {x y : Here} → Takes (sign_of fixed.Semicolon) x y → IsPlacedFront initial_symbols (tells [] no_tales) (list none) x y
no_initial_placed sign = record { on = λ ps ds ts z r. row_absent (row_sign sign r) }

pub initial_placed : {d : Told} {t : Tree} {x y z : Here} → IsPlaced d t x y → Takes (sign_of fixed.Semicolon) y z → IsPlacedFront initial_symbols (tells [] (tale d no_tales)) (list (part t none)) x z
initial_placed l sign = record { on = λ ps ds ts z r. row_present refl refl l (row_sign sign r) }

pub no_clause_placed : {x y : Here} (f : Fixed) → Takes (sign_of f) x y → IsPlacedFront (clause_symbols f) (tells [] no_tales) (list none) x y
no_clause_placed f sign = record { on = λ ps ds ts z r. row_absent (row_sign sign r) }

pub clause_placed : {d : Told} {t : Tree} {x y z : Here} (f : Fixed) → IsPlaced d t x y → Takes (sign_of f) y z → IsPlacedFront (clause_symbols f) (tells [] (tale d no_tales)) (list (part t none)) x z
clause_placed f l sign = record { on = λ ps ds ts z r. row_present refl refl l (row_sign sign r) }

pub binding_placed : {at : Option Span} {e : Told} {t : Tree} {w x y : Here} (d : code.DeclareWord) → Takes (declare_sign d) w x → IsPlaced e t x y → Spans at (next_of w) (end_of y) → IsPlaced (told_node at (e ∷ [])) (node (statement (ForBinding (word_of d))) (part t none)) w y
binding_placed {w = w} {x = x} d sign l s = node_is (λ c e ps. refl) (λ ms text. refl) s (row_sign (subst (λ m. Takes m w x) (declaring_is d) sign) (row_quiet (λ q. refl) (row_part l row_end)))

pub keys_placed : {d : Told} {t : Tree} {x y z : Here} → IsPlaced d t x y → Takes (key "in") y z → IsPlacedFront keys_symbols d t x z
keys_placed l sign = record { on = λ ps ds ts z r. row_part l (row_quiet (λ q. refl) (row_sign sign r)) }

pub items_placed : {d : Told} {t : Tree} {x y z : Here} → IsPlaced d t x y → Takes (key "of") y z → IsPlacedFront items_symbols d t x z
items_placed l sign = record { on = λ ps ds ts z r. row_part l (row_quiet (λ q. refl) (row_sign sign r)) }

-- the label of a jump, or none
pub no_target_placed : {x y : Here} → Takes (Ends AfterWord) x y → IsPlacedFront jump_symbols (told_target None) (target_of None) x y
no_target_placed ends = record { on = λ ps ds ts z r. row_sign ends (row_absent r) }

pub target_placed : {x y z w : Here} (l : Label) → Takes (Ends AfterWord) x y → Takes SameLine y y → Takes (Tok Operator IdentifierName (chars l.name.now)) y z → l.place.0 ≡ next_of y → Takes (Ends AfterWord) z w → IsPlacedFront jump_symbols (told_target (Some l)) (target_of (Some l)) x w
target_placed l word line name at ends = record { on = λ ps ds ts z r. row_sign word (row_around line.same line.leads (name_placed {a = label_text l} name at) ends.same ends.leads r) }

pub break_placed : {at : Option Span} {d : Told} {t : Tree} {w x y z : Here} → Takes (opening_sign (statement Break)) w x → IsPlacedFront jump_symbols d t x y → Takes Semicolon y z → Spans at (next_of w) (end_of z) → IsPlaced (told_node at (d ∷ [])) (node (statement Break) (part t none)) w z
break_placed sign target end s = node_is (λ c e ps. refl) (λ ms text. refl) s (row_quiet (λ q. refl) (row_sign sign (target.on _ _ _ _ (row_sign end row_end))))

pub continue_placed : {at : Option Span} {d : Told} {t : Tree} {w x y z : Here} → Takes (opening_sign (statement Continue)) w x → IsPlacedFront jump_symbols d t x y → Takes Semicolon y z → Spans at (next_of w) (end_of z) → IsPlaced (told_node at (d ∷ [])) (node (statement Continue) (part t none)) w z
continue_placed sign target end s = node_is (λ c e ps. refl) (λ ms text. refl) s (row_quiet (λ q. refl) (row_sign sign (target.on _ _ _ _ (row_sign end row_end))))

pub takes_line : {x : Here} → not (breaks x.rest) ≡ true → Takes SameLine x x
takes_line {x} n = record { leads = ap (λ b. go_if b (place_of x)) n; same = refl }

pub throw_placed : {at : Option Span} {d : Told} {t : Tree} {w x y z : Here} → Takes (opening_sign (statement Throw)) w x → Takes SameLine x x → IsPlaced d t x y → Takes Semicolon y z → Spans at (next_of w) (end_of z) → IsPlaced (told_node at (d ∷ [])) (node (statement Throw) (part t none)) w z
throw_placed sign line value end s = node_is (λ c e ps. refl) (λ ms text. refl) s (row_quiet (λ q. refl) (row_sign sign (row_sign line (row_quiet (λ q. refl) (row_part value (row_sign end row_end))))))

pub debugger_placed : {at : Option Span} {w x y z : Here} → Takes (opening_sign (statement Debugger)) w x → Takes (Ends AfterWord) x y → Takes Semicolon y z → Spans at (next_of w) (end_of z) → IsPlaced (told_node at []) (node (statement Debugger) none) w z
debugger_placed sign ends end s = node_is (λ c e ps. refl) (λ ms text. refl) s (row_quiet (λ q. refl) (row_sign sign (row_sign ends (row_sign end row_end))))
