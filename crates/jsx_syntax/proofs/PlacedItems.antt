-- The places of imports and exports: each along its row.
use Rattle.std.proofs.Common.{◌≡◌, Option, [], ◌∷◌, refl}
use Rattle.jsx_base.specs.Token.{IdentifierName}
use Rattle.jsx_base.specs.declared.place.BytePos.{BytePos}
use Rattle.jsx_base.specs.declared.place.Span.{Span}
use Rattle.jsx_tree.specs.declared.text.Text.{Text as TreeText}
use Rattle.jsx_tree.specs.Signs.{AfterList, AfterWord, Ends, Semicolon}
use Rattle.jsx_tree.specs.Kinds.{Side, Imported, Exported, From, ImportBare, Import, ImportAll, ImportList, ImportBoth, Specifier, SpecifierAs, ExportNames, ExportFrom, ExportAll, ExportAllAs, ExportDecl, ExportDefaultFn, ExportDefaultClass, ExportDefaultExpr, program, Tree, leaf, node, list, Forest, none, part}
use Rattle.jsx_tree.specs.Grammar.{Commas, key, pun}
use Rattle.jsx_tree.specs.Spans.{Told, Tales, no_tales, default_is, spans, tale, tells}
use Rattle.jsx_tree.specs.Told.{told_default, told_node, told_text}
use Rattle.jsx_tree.specs.View.{text_of}
use Rattle.jsx_token.specs.Here.{Here}
use Rattle.jsx_token.specs.Places.{Takes, end_of, next_of}
use Rattle.jsx_operand.specs.Spans.{IsPlaced, IsPlacedFront, IsPlacedList, IsPlacedRow, Spans}
use Rattle.jsx_operand.proofs.Placing.{default_is_told, led, node_is, row_end, row_list, row_part, row_quiet, row_sign, row_unless}
use Rattle.jsx_function.specs.Functions.{named_symbols}
use Rattle.jsx_function.proofs.Functions.{named_placed}
use Rattle.jsx_syntax.specs.Items.{from_symbols, source_symbols}
use Rattle.jsx_syntax.specs.Specifiers.{specifier_symbols}

-- ---- specifiers

-- the places of a name at any place of a side
pub single_placed : {at : Option Span} {a : TreeText} {x y : Here} (s : Side) → IsPlaced (told_text a) (leaf IdentifierName (text_of a)) x y → Spans at (next_of x) (end_of y) → IsPlaced (told_node at (told_text a ∷ [])) (node (program (Specifier s)) (part (leaf IdentifierName (text_of a)) none)) x y
single_placed Imported l s = node_is (λ c e ps. refl) (led l []) s (row_part l row_end)
single_placed Exported l s = node_is (λ c e ps. refl) (led l []) s (row_part l row_end)
single_placed From l s = node_is (λ c e ps. refl) (led l []) s (row_part l row_end)

pub renamed_placed : {at : Option Span} {d e : Told} {t u : Tree} {x y z w : Here} (s : Side) → IsPlaced d t x y → Takes (key "as") y z → IsPlaced e u z w → Spans at (next_of x) (end_of w) → IsPlaced (told_node at (d ∷ e ∷ [])) (node (program (SpecifierAs s)) (part t (part u none))) x w
renamed_placed Imported l k m s = node_is (λ c e ps. refl) (led l _) s (row_part l (row_quiet (λ q. refl) (row_sign k (row_quiet (λ q. refl) (row_part m row_end)))))
renamed_placed Exported l k m s = node_is (λ c e ps. refl) (led l _) s (row_part l (row_quiet (λ q. refl) (row_sign k (row_quiet (λ q. refl) (row_part m row_end)))))
renamed_placed From l k m s = node_is (λ c e ps. refl) (led l _) s (row_part l (row_quiet (λ q. refl) (row_sign k (row_quiet (λ q. refl) (row_part m row_end)))))

-- the list with its brace, before whatever stands behind
pub specifiers_placed : {ds : Tales} {ts : Forest} {x y z : Here} (s : Side) → IsPlacedList Commas ds ts x y → Takes (pun "}") y z → IsPlacedFront (specifier_symbols s) (tells [] ds) (list ts) x z
specifiers_placed Imported l brace = record { on = λ ps ds ts z r. row_list l (row_quiet (λ q. refl) (row_sign brace r)) }
specifiers_placed Exported l brace = record { on = λ ps ds ts z r. row_list l (row_quiet (λ q. refl) (row_sign brace r)) }
specifiers_placed From l brace = record { on = λ ps ds ts z r. row_list l (row_quiet (λ q. refl) (row_sign brace r)) }

-- ---- imports

pub source_placed : {d : Told} {t : Tree} {x y z w : Here} → IsPlaced d t x y → Takes (Ends AfterWord) y z → Takes Semicolon z w → IsPlacedRow source_symbols (tale d no_tales) (part t none) x w
source_placed l ends end = row_part l (row_sign ends (row_sign end row_end))

pub from_placed : {ds : Tales} {ts : Forest} {x y z : Here} → Takes (key "from") x y → IsPlacedRow source_symbols ds ts y z → IsPlacedRow from_symbols ds ts x z
from_placed sign r = row_sign sign (row_quiet (λ q. refl) r)

pub all_placed : {at : Option Span} {d : Told} {t : Tree} {x y z w : Here} → Takes (pun "*") x y → Takes (key "as") y z → IsPlaced d t z w → Spans at (next_of x) (end_of w) → IsPlaced (told_node at (d ∷ [])) (node (program ImportAll) (part t none)) x w
all_placed star k l s = node_is (λ c e ps. refl) (λ ms text. refl) s (row_sign star (row_quiet (λ q. refl) (row_sign k (row_quiet (λ q. refl) (row_part l row_end)))))

pub list_placed : {at : Option Span} {d : Told} {t : Tree} {x y z : Here} → Takes (pun "{") x y → IsPlacedFront (specifier_symbols Imported) d t y z → Spans at (next_of x) (end_of z) → IsPlaced (told_node at (d ∷ [])) (node (program ImportList) (part t none)) x z
list_placed brace l s = node_is (λ c e ps. refl) (λ ms text. refl) s (row_sign brace (row_quiet (λ q. refl) (l.on [] no_tales none _ row_end)))

pub both_placed : {at : Option Span} {d e : Told} {t u : Tree} {x y z w : Here} → IsPlaced d t x y → Takes (pun ",") y z → IsPlaced e u z w → Spans at (next_of x) (end_of w) → IsPlaced (told_node at (d ∷ e ∷ [])) (node (program ImportBoth) (part t (part u none))) x w
both_placed l comma m s = node_is (λ c e ps. refl) (led l _) s (row_part l (row_sign comma (row_quiet (λ q. refl) (row_part m row_end))))

pub bare_placed : {at : Option Span} {ds : Tales} {ts : Forest} {x y z : Here} → Takes (key "import") x y → IsPlacedRow source_symbols ds ts y z → Spans at (next_of x) (end_of z) → IsPlaced (tells (spans at ∷ []) ds) (node (program ImportBare) ts) x z
bare_placed sign r s = node_is (λ c e ps. refl) (λ ms text. refl) s (row_quiet (λ q. refl) (row_sign sign (row_quiet (λ q. refl) r)))

pub import_placed : {at : Option Span} {d : Told} {ds : Tales} {t : Tree} {ts : Forest} {x y z w : Here} → Takes (key "import") x y → IsPlaced d t y z → IsPlacedRow from_symbols ds ts z w → Spans at (next_of x) (end_of w) → IsPlaced (tells (spans at ∷ []) (tale d ds)) (node (program Import) (part t ts)) x w
import_placed sign l r s = node_is (λ c e ps. refl) (λ ms text. refl) s (row_quiet (λ q. refl) (row_sign sign (row_quiet (λ q. refl) (row_part l (row_quiet (λ q. refl) r)))))

-- ---- exports

pub names_placed : {at : Option Span} {d : Told} {t : Tree} {w x y z q r : Here} → Takes (key "export") w x → Takes (pun "{") x y → IsPlacedFront (specifier_symbols Exported) d t y z → Takes (Ends AfterList) z q → Takes Semicolon q r → Spans at (next_of w) (end_of r) → IsPlaced (told_node at (d ∷ [])) (node (program ExportNames) (part t none)) w r
names_placed sign brace l ends end s = node_is (λ c e ps. refl) (λ ms text. refl) s (row_quiet (λ q. refl) (row_sign sign (row_quiet (λ q. refl) (row_sign brace (row_quiet (λ q. refl) (l.on _ _ _ _ (row_sign ends (row_sign end row_end))))))))

pub names_from_placed : {at : Option Span} {d : Told} {ds : Tales} {t : Tree} {ts : Forest} {w x y z q r : Here} → Takes (key "export") w x → Takes (pun "{") x y → IsPlacedFront (specifier_symbols From) d t y z → Takes (key "from") z q → IsPlacedRow source_symbols ds ts q r → Spans at (next_of w) (end_of r) → IsPlaced (tells (spans at ∷ []) (tale d ds)) (node (program ExportFrom) (part t ts)) w r
names_from_placed sign brace l k m s = node_is (λ c e ps. refl) (λ ms text. refl) s (row_quiet (λ q. refl) (row_sign sign (row_quiet (λ q. refl) (row_sign brace (row_quiet (λ q. refl) (l.on _ _ _ _ (row_quiet (λ q. refl) (from_placed k m))))))))

pub star_placed : {at : Option Span} {ds : Tales} {ts : Forest} {w x y z : Here} → Takes (key "export") w x → Takes (pun "*") x y → IsPlacedRow from_symbols ds ts y z → Spans at (next_of w) (end_of z) → IsPlaced (tells (spans at ∷ []) ds) (node (program ExportAll) ts) w z
star_placed sign star r s = node_is (λ c e ps. refl) (λ ms text. refl) s (row_quiet (λ q. refl) (row_sign sign (row_quiet (λ q. refl) (row_sign star (row_quiet (λ q. refl) r)))))

pub star_as_placed : {at : Option Span} {d : Told} {ds : Tales} {t : Tree} {ts : Forest} {w x y z q r : Here} → Takes (key "export") w x → Takes (pun "*") x y → Takes (key "as") y z → IsPlaced d t z q → IsPlacedRow from_symbols ds ts q r → Spans at (next_of w) (end_of r) → IsPlaced (tells (spans at ∷ []) (tale d ds)) (node (program ExportAllAs) (part t ts)) w r
star_as_placed sign star k l r s = node_is (λ c e ps. refl) (λ ms text. refl) s (row_quiet (λ q. refl) (row_sign sign (row_quiet (λ q. refl) (row_sign star (row_quiet (λ q. refl) (row_sign k (row_quiet (λ q. refl) (row_part l (row_quiet (λ q. refl) r)))))))))

pub declared_placed : {at : Option Span} {d : Told} {t : Tree} {w x y : Here} → Takes (key "export") w x → IsPlaced d t x y → Spans at (next_of w) (end_of y) → IsPlaced (told_node at (d ∷ [])) (node (program ExportDecl) (part t none)) w y
declared_placed sign l s = node_is (λ c e ps. refl) (λ ms text. refl) s (row_quiet (λ q. refl) (row_sign sign (row_quiet (λ q. refl) (row_part l row_end))))

-- a default: the word stands behind `export`, where it is told to be
pub function_placed : {at : Option Span} {b : BytePos} {ds : Tales} {t : Tree} {ts : Forest} {w x y z q : Here} → Takes (key "export") w x → b.0 ≡ next_of x → Takes (key "default") x y → Takes (key "function") y z → IsPlacedRow named_symbols ds (part t ts) z q → Spans at (next_of w) (end_of q) → IsPlaced (tells (spans at ∷ default_is b ∷ []) ds) (node (program ExportDefaultFn) (part t ts)) w q
function_placed sign e k f r s = default_is_told (λ c e ps. refl) (λ ms text. refl) refl sign e s (row_quiet (λ q. refl) (row_sign sign (row_quiet (λ q. refl) (row_sign k (row_quiet (λ q. refl) (row_sign f (row_quiet (λ q. refl) (named_placed r))))))))

pub class_placed : {at : Option Span} {b : BytePos} {d : Told} {t : Tree} {w x y z : Here} → Takes (key "export") w x → b.0 ≡ next_of x → Takes (key "default") x y → IsPlaced d t y z → Spans at (next_of w) (end_of z) → IsPlaced (told_default at b (d ∷ [])) (node (program ExportDefaultClass) (part t none)) w z
class_placed sign e k l s = default_is_told (λ c e ps. refl) (λ ms text. refl) refl sign e s (row_quiet (λ q. refl) (row_sign sign (row_quiet (λ q. refl) (row_sign k (row_quiet (λ q. refl) (row_part l row_end))))))

pub value_placed : {at : Option Span} {b : BytePos} {d : Told} {t : Tree} {w x y z q : Here} → Takes (key "export") w x → b.0 ≡ next_of x → Takes (key "default") x y → IsPlaced d t y z → Takes Semicolon z q → Spans at (next_of w) (end_of q) → IsPlaced (told_default at b (d ∷ [])) (node (program ExportDefaultExpr) (part t none)) w q
value_placed sign e k l end s = default_is_told (λ c e ps. refl) (λ ms text. refl) refl sign e s (row_quiet (λ q. refl) (row_sign sign (row_quiet (λ q. refl) (row_sign k (row_quiet (λ q. refl) (row_unless (row_part l (row_sign end row_end))))))))
