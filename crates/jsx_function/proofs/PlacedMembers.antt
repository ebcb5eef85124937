-- Where members stand that are methods, getters, setters or fields: each along its row, from the words before its key on.
use Rattle.std.proofs.Common.{◌≡◌, List, [], ◌∷◌, ◌++◌, refl, Option}
use Rattle.jsx_base.specs.declared.place.Span.{Span}
use Rattle.jsx_tree.specs.Signs.{Sign}
use Rattle.jsx_tree.specs.Kinds.{Field, Getter, Holder, InClass, InObject, Method, Setter, Static, function, Tree, node, Forest, part}
use Rattle.jsx_tree.specs.Spans.{Told, Tales, spans, tale, tells}
use Rattle.jsx_token.specs.Here.{Here}
use Rattle.jsx_token.specs.Places.{Takes, next_of, end_of}
use Rattle.jsx_operand.specs.Spans.{Spans, IsPlaced, IsPlacedRow}
use Rattle.jsx_operand.proofs.Placing.{led, node_is, row_part, row_quiet, row_sign, row_within}
use Rattle.jsx_function.specs.Functions.{code_symbols}
use Rattle.jsx_function.specs.Methods.{TakesAll, field_symbols, getter_symbols, getter_words, holder_words, setter_symbols, setter_words, took_more, took_none}

-- a further word
pub takes_then : {ss : List Sign} {s : Sign} {a b c : Here} → TakesAll ss a b → Takes s b c → TakesAll (ss ++ s ∷ []) a c
takes_then took_none k = took_more k took_none
takes_then (took_more j t) k = took_more j (takes_then t k)

pub method_placed : {at : Option Span} {d : Told} {ds : Tales} {t : Tree} {ts : Forest} {a b x y : Here} (h : Holder) → TakesAll (holder_words h) a b → IsPlaced d t b x → IsPlacedRow code_symbols ds ts x y → Spans at (next_of a) (end_of y) → IsPlaced (tells (spans at ∷ []) (tale d ds)) (node (function (Method h)) (part t ts)) a y
method_placed InObject took_none l r s = node_is (λ c e ps. refl) (led l _) s (row_quiet (λ q. refl) (row_part l (row_within r)))
method_placed InClass took_none l r s = node_is (λ c e ps. refl) (led l _) s (row_quiet (λ q. refl) (row_part l (row_within r)))
method_placed Static (took_more k took_none) l r s = node_is (λ c e ps. refl) (λ ms text. refl) s (row_quiet (λ q. refl) (row_quiet (λ q. refl) (row_sign k (row_quiet (λ q. refl) (row_part l (row_within r))))))

pub field_placed : {at : Option Span} {d : Told} {ds : Tales} {t : Tree} {ts : Forest} {a b x y : Here} (h : Holder) → TakesAll (holder_words h) a b → IsPlaced d t b x → IsPlacedRow field_symbols ds ts x y → Spans at (next_of a) (end_of y) → IsPlaced (tells (spans at ∷ []) (tale d ds)) (node (function (Field h)) (part t ts)) a y
field_placed InObject took_none l r s = node_is (λ c e ps. refl) (led l _) s (row_quiet (λ q. refl) (row_part l (row_within r)))
field_placed InClass took_none l r s = node_is (λ c e ps. refl) (led l _) s (row_quiet (λ q. refl) (row_part l (row_within r)))
field_placed Static (took_more k took_none) l r s = node_is (λ c e ps. refl) (λ ms text. refl) s (row_quiet (λ q. refl) (row_quiet (λ q. refl) (row_sign k (row_quiet (λ q. refl) (row_part l (row_within r))))))

pub getter_placed : {at : Option Span} {d : Told} {ds : Tales} {t : Tree} {ts : Forest} {a b x y : Here} (h : Holder) → TakesAll (getter_words h) a b → IsPlaced d t b x → IsPlacedRow getter_symbols ds ts x y → Spans at (next_of a) (end_of y) → IsPlaced (tells (spans at ∷ []) (tale d ds)) (node (function (Getter h)) (part t ts)) a y
getter_placed InObject (took_more k took_none) l r s = node_is (λ c e ps. refl) (λ ms text. refl) s (row_quiet (λ q. refl) (row_quiet (λ q. refl) (row_sign k (row_quiet (λ q. refl) (row_part l (row_within r))))))
getter_placed InClass (took_more k took_none) l r s = node_is (λ c e ps. refl) (λ ms text. refl) s (row_quiet (λ q. refl) (row_quiet (λ q. refl) (row_sign k (row_quiet (λ q. refl) (row_part l (row_within r))))))
getter_placed Static (took_more j (took_more k took_none)) l r s = node_is (λ c e ps. refl) (λ ms text. refl) s (row_quiet (λ q. refl) (row_quiet (λ q. refl) (row_sign j (row_quiet (λ q. refl) (row_quiet (λ q. refl) (row_sign k (row_quiet (λ q. refl) (row_part l (row_within r)))))))))

pub setter_placed : {at : Option Span} {d : Told} {ds : Tales} {t : Tree} {ts : Forest} {a b x y : Here} (h : Holder) → TakesAll (setter_words h) a b → IsPlaced d t b x → IsPlacedRow setter_symbols ds ts x y → Spans at (next_of a) (end_of y) → IsPlaced (tells (spans at ∷ []) (tale d ds)) (node (function (Setter h)) (part t ts)) a y
setter_placed InObject (took_more k took_none) l r s = node_is (λ c e ps. refl) (λ ms text. refl) s (row_quiet (λ q. refl) (row_quiet (λ q. refl) (row_sign k (row_quiet (λ q. refl) (row_part l (row_within r))))))
setter_placed InClass (took_more k took_none) l r s = node_is (λ c e ps. refl) (λ ms text. refl) s (row_quiet (λ q. refl) (row_quiet (λ q. refl) (row_sign k (row_quiet (λ q. refl) (row_part l (row_within r))))))
setter_placed Static (took_more j (took_more k took_none)) l r s = node_is (λ c e ps. refl) (λ ms text. refl) s (row_quiet (λ q. refl) (row_quiet (λ q. refl) (row_sign j (row_quiet (λ q. refl) (row_quiet (λ q. refl) (row_sign k (row_quiet (λ q. refl) (row_part l (row_within r)))))))))
