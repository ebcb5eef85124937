-- The places of the statements that hold others: each along its row.
use Rattle.std.proofs.Common.{[], ◌∷◌, refl, Option}
use Rattle.jsx_base.specs.Token.{Text, IdentifierName}
use Rattle.jsx_base.specs.declared.place.Span.{Span}
use Rattle.jsx_tree.specs.declared.text.Text.{Text as TreeText}
use Rattle.jsx_tree.specs.Signs.{Sign, Space, AfterDo, Semicolon, Ends}
use Rattle.jsx_tree.specs.Kinds.{Block, If, Do, While, statement, Tree, leaf, node, list, Forest, none, part, For, Switch, Case, Default, Try, Catch, Label as LabelKind, ForIn, ForOf}
use Rattle.jsx_tree.specs.Nonterminals.{Nonterminal}
use Rattle.jsx_tree.specs.Grammar.{Optional, Lines, key, pun}
use Rattle.jsx_tree.specs.Spans.{Comes, spans, Told, tells, Tales, no_tales, tale}
use Rattle.jsx_tree.specs.View.{text_of}
use Rattle.jsx_tree.specs.Told.{told_list, told_node, told_text}
use Rattle.jsx_token.specs.Here.{Here, sign_of}
use Rattle.jsx_token.specs.declared.lexer.Fixed.TheVariants as fixed
use Rattle.jsx_statement.specs.Cases.{cases_symbols}
use Rattle.jsx_declaration.specs.Heads.{clause_symbols, initial_symbols, items_symbols, keys_symbols}
use Rattle.jsx_token.specs.declared.word.Word.TheVariants as word
use Rattle.jsx_declaration.specs.Labels.{TakesLabel}
use Rattle.jsx_statement.specs.Statements.{alternative_symbols, block_symbols, loop_symbols}
use Rattle.jsx_statement.specs.Tries.{catch_symbols, finally_symbols}
use Rattle.jsx_operand.specs.Spans.{Spans, IsPlaced, IsPlacedAs, IsPlacedFront, is_argument, IsPlacedRow, IsPlacedList}
use Rattle.jsx_token.specs.Places.{next_of, end_of, Takes}
use Rattle.jsx_token.specs.Growths.{opening_sign}
use Rattle.jsx_operand.proofs.PlacedExpressions.{name_placed}
use Rattle.jsx_operand.proofs.Placing.{row_end, row_sign, row_quiet, row_within, row_part, row_list, row_present, row_absent, row_guarded, row_unguarded, node_is, led, row_around}

pub block_placed : {at : Option Span} {ds : Tales} {ts : Forest} {w x y : Here} → Takes (opening_sign (statement Block)) w x → IsPlacedRow block_symbols (tale (tells [] ds) no_tales) (part (list ts) none) x y → Spans at (next_of w) (end_of y)
    → IsPlaced (tells (spans at ∷ []) (tale (tells [] ds) no_tales)) (node (statement Block) (part (list ts) none)) w y
block_placed sign r s = node_is (λ c e ps. refl) (λ ms text. refl) s (row_quiet (λ q. refl) (row_sign sign (row_quiet (λ q. refl) r)))

pub if_placed : {at : Option Span} {d e o : Told} {t u v : Tree} {w x y z q r b : Here} → Takes (opening_sign (statement If)) w x → Takes (sign_of fixed.Open) x y → IsPlaced d t y z → Takes (sign_of fixed.Close) z q → IsPlaced e u q r → IsPlacedRow alternative_symbols (tale o no_tales) (part v none) r b → Spans at (next_of w) (end_of b)
    → IsPlaced (told_node at (d ∷ e ∷ o ∷ [])) (node (statement If) (part t (part u (part v none)))) w b
if_placed sign bracket test close then other s = node_is (λ c e ps. refl) (λ ms text. refl) s (row_quiet (λ q. refl) (row_sign sign (row_quiet (λ q. refl) (row_sign bracket (row_part test (row_sign close (row_quiet (λ q. refl) (row_part then other))))))))

pub else_placed : {d : Told} {t : Tree} {x y z : Here} → Takes (sign_of (fixed.Word word.Else)) x y → IsPlaced d t y z → IsPlacedRow alternative_symbols (tale (tells [] (tale d no_tales)) no_tales) (part (list (part t none)) none) x z
else_placed sign l = row_guarded (row_present sign.same sign.leads l row_end)

pub no_else_placed : {x : Here} → IsPlacedRow alternative_symbols (tale (tells [] no_tales) no_tales) (part (list none) none) x x
no_else_placed = row_unguarded row_end

pub do_placed : {at : Option Span} {d e : Told} {t u : Tree} {w x y z q r b c f : Here} → Takes (opening_sign (statement Do)) w x → IsPlaced d t x y → Takes (sign_of (fixed.Word word.While)) y z → Takes (sign_of fixed.Open) z q → IsPlaced e u q r → Takes (sign_of fixed.Close) r b → Takes (Ends AfterDo) b c → Takes Semicolon c f → Spans at (next_of w) (end_of f)
    → IsPlaced (told_node at (d ∷ e ∷ [])) (node (statement Do) (part t (part u none))) w f
do_placed sign body while bracket test close ends end s =
    node_is (λ c e ps. refl) (λ ms text. refl) s
    (row_quiet (λ q. refl) (row_sign sign (row_quiet (λ q. refl) (row_within (row_part body (row_quiet (λ q. refl) (row_sign while (row_quiet (λ q. refl) (row_sign bracket (row_part test (row_sign close (row_sign ends (row_sign end row_end)))))))))))))

pub while_placed : {at : Option Span} {d e : Told} {t u : Tree} {w x y z q r : Here} → Takes (opening_sign (statement While)) w x → Takes (sign_of fixed.Open) x y → IsPlaced d t y z → Takes (sign_of fixed.Close) z q → IsPlaced e u q r → Spans at (next_of w) (end_of r)
    → IsPlaced (told_node at (d ∷ e ∷ [])) (node (statement While) (part t (part u none))) w r
while_placed sign bracket test close body s = node_is (λ c e ps. refl) (λ ms text. refl) s (row_quiet (λ q. refl) (row_sign sign (row_quiet (λ q. refl) (row_sign bracket (row_part test (row_sign close (row_quiet (λ q. refl) (row_within (row_part body row_end)))))))))

pub for_placed : {at : Option Span} {d e f g : Told} {t u v b : Tree} {w x y z q r c : Here} → Takes (opening_sign (statement For)) w x → Takes (sign_of fixed.Open) x y → IsPlacedFront initial_symbols d t y z → IsPlacedFront (clause_symbols fixed.Semicolon) e u z q → IsPlacedFront (clause_symbols fixed.Close) f v q r → IsPlaced g b r c → Spans at (next_of w) (end_of c)
    → IsPlaced (told_node at (d ∷ e ∷ f ∷ g ∷ [])) (node (statement For) (part t (part u (part v (part b none))))) w c
for_placed sign bracket init test update body s =
    node_is (λ c e ps. refl) (λ ms text. refl) s
    (row_quiet (λ q. refl) (row_sign sign (row_quiet (λ q. refl) (row_sign bracket (init.on _ _ _ _ (test.on _ _ _ _ (update.on _ _ _ _ (row_quiet (λ q. refl) (row_within (row_part body row_end))))))))))

pub loop_placed : {g : Told} {b : Tree} {x y z : Here} → Takes (sign_of fixed.Close) x y → IsPlaced g b y z → IsPlacedRow loop_symbols (tale g no_tales) (part b none) x z
loop_placed close body = row_sign close (row_quiet (λ q. refl) (row_within (row_part body row_end)))

pub in_placed : {at : Option Span} {d e g : Told} {t u b : Tree} {w x y z q c : Here} → Takes (opening_sign (statement For)) w x → Takes (sign_of fixed.Open) x y → IsPlacedFront keys_symbols d t y z → IsPlaced e u z q → IsPlacedRow loop_symbols (tale g no_tales) (part b none) q c → Spans at (next_of w) (end_of c)
    → IsPlaced (told_node at (d ∷ e ∷ g ∷ [])) (node (statement ForIn) (part t (part u (part b none)))) w c
in_placed sign bracket head value body s = node_is (λ c e ps. refl) (λ ms text. refl) s (row_quiet (λ q. refl) (row_sign sign (row_quiet (λ q. refl) (row_sign bracket (head.on _ _ _ _ (row_quiet (λ q. refl) (row_part value body)))))))

pub of_placed : {at : Option Span} {d e g : Told} {t u b : Tree} {w x y z q c : Here} → Takes (opening_sign (statement For)) w x → Takes (sign_of fixed.Open) x y → IsPlacedFront items_symbols d t y z → IsPlaced e u z q → IsPlacedRow loop_symbols (tale g no_tales) (part b none) q c → Spans at (next_of w) (end_of c)
    → IsPlaced (told_node at (d ∷ e ∷ g ∷ [])) (node (statement ForOf) (part t (part u (part b none)))) w c
of_placed sign bracket head value body s = node_is (λ c e ps. refl) (λ ms text. refl) s (row_quiet (λ q. refl) (row_sign sign (row_quiet (λ q. refl) (row_sign bracket (head.on _ _ _ _ (row_quiet (λ q. refl) (row_part value body)))))))

pub case_placed : {at : Option Span} {d : Told} {t : Tree} {ds : Tales} {ts : Forest} {w x y z q : Here} → Takes (sign_of (fixed.Word word.Case)) w x → IsPlaced d t x y → Takes (sign_of fixed.Colon) y z → IsPlacedList Lines ds ts z q → Spans at (next_of w) (end_of q) → IsPlaced (tells (spans at ∷ []) (tale d (tale (tells [] ds) no_tales))) (node (statement Case) (part t (part (list ts) none))) w q
case_placed sign test colon l s = node_is (λ c e ps. refl) (λ ms text. refl) s (row_quiet (λ q. refl) (row_sign sign (row_quiet (λ q. refl) (row_part test (row_sign colon (row_quiet (λ q. refl) (row_list l (row_quiet (λ q. refl) row_end))))))))

pub default_placed : {at : Option Span} {ds : Tales} {ts : Forest} {w x y z : Here} → Takes (key "default") w x → Takes (sign_of fixed.Colon) x y → IsPlacedList Lines ds ts y z → Spans at (next_of w) (end_of z) → IsPlaced (tells (spans at ∷ []) (tale (tells [] ds) no_tales)) (node (statement Default) (part (list ts) none)) w z
default_placed sign colon l s = node_is (λ c e ps. refl) (λ ms text. refl) s (row_quiet (λ q. refl) (row_sign sign (row_sign colon (row_quiet (λ q. refl) (row_list l (row_quiet (λ q. refl) row_end))))))

pub switch_placed : {at : Option Span} {d : Told} {t : Tree} {ds : Tales} {ts : Forest} {w x y z q r b : Here} → Takes (opening_sign (statement Switch)) w x → Takes (sign_of fixed.Open) x y → IsPlaced d t y z → Takes (sign_of fixed.Close) z q → Takes (sign_of fixed.OpenBrace) q r → IsPlacedRow cases_symbols (tale (tells [] ds) no_tales) (part (list ts) none) r b → Spans at (next_of w) (end_of b)
    → IsPlaced (tells (spans at ∷ []) (tale d (tale (tells [] ds) no_tales))) (node (statement Switch) (part t (part (list ts) none))) w b
switch_placed sign bracket value close brace r s =
    node_is (λ c e ps. refl) (λ ms text. refl) s (row_quiet (λ q. refl) (row_sign sign (row_quiet (λ q. refl) (row_sign bracket (row_part value (row_sign close (row_quiet (λ q. refl) (row_within (row_sign brace (row_quiet (λ q. refl) r))))))))))

pub led_placed : {w : Sign} {c : Nonterminal} {u : Text} {d : Told} {t : Tree} {x y z : Here} → Takes w x y → IsPlacedAs (is_argument c) d t y z → IsPlacedFront (Optional (Space ∷ w ∷ Space ∷ []) c [] (u ∷ []) ∷ []) (tells [] (tale d no_tales)) (list (part t none)) x z
led_placed sign l = record { on = λ ps ds ts z r. row_guarded (row_present sign.same sign.leads l r) }

pub unled_placed : {w : Sign} {c : Nonterminal} {u : Text} {x : Here} → IsPlacedFront (Optional (Space ∷ w ∷ Space ∷ []) c [] (u ∷ []) ∷ []) (tells [] no_tales) (list none) x x
unled_placed = record { on = λ ps ds ts z r. row_unguarded r }

pub try_placed : {at : Option Span} {d h f : Told} {t u v : Tree} {w x y z q : Here} → Takes (opening_sign (statement Try)) w x → IsPlaced d t x y → IsPlacedFront catch_symbols h u y z → IsPlacedFront finally_symbols f v z q → Spans at (next_of w) (end_of q)
    → IsPlaced (told_node at (d ∷ h ∷ f ∷ [])) (node (statement Try) (part t (part u (part v none)))) w q
try_placed sign body handler finalizer s = node_is (λ c e ps. refl) (λ ms text. refl) s (row_quiet (λ q. refl) (row_sign sign (row_quiet (λ q. refl) (row_part body (handler.on _ _ _ _ (finalizer.on _ _ _ _ row_end))))))

pub caught_placed : {at : Option Span} {d e : Told} {t u : Tree} {w x y z q : Here} → Takes (pun "(") w x → IsPlaced d t x y → Takes (sign_of fixed.Close) y z → IsPlaced e u z q → Spans at (next_of w) (end_of q)
    → IsPlaced (told_node at (told_list (d ∷ []) ∷ e ∷ [])) (node (statement Catch) (part (list (part t none)) (part u none))) w q
caught_placed sign name close body s = node_is (λ c e ps. refl) (λ ms text. refl) s (row_around sign.same sign.leads name close.same close.leads (row_part body row_end))

pub bare_placed : {at : Option Span} {e : Told} {u : Tree} {w q : Here} → IsPlaced e u w q → Spans at (next_of w) (end_of q)
    → IsPlaced (told_node at (told_list [] ∷ e ∷ [])) (node (statement Catch) (part (list none) (part u none))) w q
bare_placed body s = node_is (λ c e ps. refl) (led body _) s (row_absent (row_part body row_end))

pub label_placed : {at : Option Span} {a : TreeText} {d : Told} {t : Tree} {w x y : Here} → TakesLabel (text_of a) w x → Comes a (next_of w) → IsPlaced d t x y → Spans at (next_of w) (end_of y) → IsPlaced (told_node at (told_text a ∷ d ∷ [])) (node (statement LabelKind) (part (leaf IdentifierName (text_of a)) (part t none))) w y
label_placed k there l s =
    let n = name_placed k.takes_name there in
    node_is (λ c e ps. refl) (λ ms text. refl) s (row_part n (row_quiet (λ q. refl) (row_sign k.takes_colon (row_quiet (λ q. refl) (row_within (row_part l row_end))))))
