-- The places of links, and of chains.
use Rattle.std.proofs.Common.{false, [], ◌∷◌, Option, refl}
use Rattle.jsx_base.specs.Token.{Operator, IdentifierName}
use Rattle.jsx_base.specs.declared.place.Span.{Span}
use Rattle.jsx_tree.specs.declared.text.Text.{Text as TreeText}
use Rattle.jsx_tree.specs.declared.text.LinkForm.{LinkForm}
use Rattle.jsx_tree.specs.declared.text.LinkForm.TheVariants as form
use Rattle.jsx_tree.specs.Signs.{Tok}
use Rattle.jsx_tree.specs.Kinds.{Chain, NameLink, IndexLink, CallLink, expression, Tree, leaf, node, list, Forest, none, part}
use Rattle.jsx_tree.specs.Nonterminals as grammar
use Rattle.jsx_tree.specs.Grammar.{Commas, Many, OneOrMore, p}
use Rattle.jsx_tree.specs.Spans.{Comes, Told, Tales, no_tales, spans, tale, tells}
use Rattle.jsx_tree.specs.Told.{told_node, told_text}
use Rattle.jsx_tree.specs.View.{is_optional, text_of}
use Rattle.jsx_token.specs.Growths.{lead}
use Rattle.jsx_token.specs.Here.{Here, sign_of}
use Rattle.jsx_token.specs.Marks.{row_so_far}
use Rattle.jsx_token.specs.Places.{Takes, end_of, next_of}
use Rattle.jsx_token.specs.declared.lexer.Fixed.TheVariants as fixed
use Rattle.jsx_operand.specs.Links.{Leads, optionally, plainly}
use Rattle.jsx_operand.specs.Spans.{IsPlaced, IsPlacedListAs, IsPlacedRow, Spans}
use Rattle.jsx_operand.proofs.PlacedExpressions.{name_placed}
use Rattle.jsx_operand.proofs.Placing.{IsPlain, led, node_is, row_end, row_list, row_part, row_quiet, row_sign}

pub name_link_row : {at : Option Span} {a : TreeText} {w x y : Here} (q : LinkForm) → Takes (lead (row_so_far (expression (NameLink (is_optional q))))) w x → Takes (Tok Operator IdentifierName (text_of a)) x y → Comes a (next_of x) → Spans at (next_of w) (end_of y)
    → IsPlaced (told_node at (told_text a ∷ [])) (node (expression (NameLink (is_optional q))) (part (leaf IdentifierName (text_of a)) none)) w y
name_link_row form.Optional k name comes s = node_is (λ c e ps. refl) (λ ms text. refl) s (row_sign k (row_part (name_placed name comes) row_end))
name_link_row form.Plain k name comes s = node_is (λ c e ps. refl) (λ ms text. refl) s (row_sign k (row_part (name_placed name comes) row_end))

pub index_link_row : {at : Option Span} {e : Told} {u : Tree} {w x y v : Here} (q : LinkForm) → Leads q (sign_of fixed.OpenBracket) w x → IsPlaced e u x y → Takes (sign_of fixed.CloseBracket) y v → Spans at (next_of w) (end_of v)
    → IsPlaced (told_node at (e ∷ [])) (node (expression (IndexLink (is_optional q))) (part u none)) w v
index_link_row form.Optional (optionally k l) r close s = node_is (λ c e ps. refl) (λ ms text. refl) s (row_sign k (row_sign l (row_part r (row_sign close row_end))))
index_link_row form.Plain (plainly l) r close s = node_is (λ c e ps. refl) (λ ms text. refl) s (row_sign l (row_part r (row_sign close row_end)))

pub call_link_row : {at : Option Span} {es : Tales} {us : Forest} {w x y : Here} (q : LinkForm) → Leads q (sign_of fixed.Open) w x → IsPlacedRow (Many Commas grammar.Argument ∷ p ")" ∷ []) (tale (tells [] es) no_tales) (part (list us) none) x y → Spans at (next_of w) (end_of y)
    → IsPlaced (tells (spans at ∷ []) (tale (tells [] es) no_tales)) (node (expression (CallLink (is_optional q))) (part (list us) none)) w y
call_link_row form.Optional (optionally k l) r s = node_is (λ c e ps. refl) (λ ms text. refl) s (row_sign k (row_sign l r))
call_link_row form.Plain (plainly l) r s = node_is (λ c e ps. refl) (λ ms text. refl) s (row_sign l r)

pub plain_links : IsPlain OneOrMore
plain_links = record { bare = λ x ms ns. refl; code = refl }

pub chain_row : {at : Option Span} {d : Told} {t : Tree} {es : Tales} {us : Forest} {w z y : Here} → IsPlaced d t w z → IsPlacedListAs false OneOrMore es us z y → Spans at (next_of w) (end_of y)
    → IsPlaced (tells (spans at ∷ []) (tale d (tale (tells [] es) no_tales))) (node (expression Chain) (part t (part (list us) none))) w y
chain_row l r s = node_is (λ c e ps. refl) (led l _) s (row_part l (row_quiet (λ q. refl) (row_list r row_end)))
