-- The places of the expressions that the parser makes: each along its row.
use Rattle.std.proofs.Common.{◌≡◌, nat_eq, Bool, true, false, List, [], ◌∷◌, ◌++◌, append_assoc, map, refl, sym, ◌∙◌, ap, subst, Option, Box, Vec, Global}
use Rattle.std.specs.Prelude.{IsTrue, codes, cond, not, ◌||◌}
use Rattle.std.proofs.lemmas.Bool.{eqb-true, or_right}
use Rattle.jsx_base.specs.Token.{Text, Operator, Piece, Punctuator, NoSubstitution, TemplateHead, TemplateMiddle, TemplateTail, JsxName, IdentifierName, StringLiteral, NumericLiteral, BigIntLiteral, Lexeme, breaks, skip, at_front, token, same, first_is, is_token}
use Rattle.jsx_base.specs.declared.place.Span.{Span}
use Rattle.jsx_tree.specs.declared.text.Text.{Text as TreeText}
use Rattle.jsx_tree.specs.declared.text.Word.{Word}
use Rattle.jsx_tree.specs.declared.text.Word.TheVariants as words
use Rattle.jsx_tree.specs.declared.tree.Jsx.{Jsx}
use Rattle.jsx_tree.specs.Signs.{End, Pad, Space, AfterExpr, Tok, TrailingComma, Sign}
use Rattle.jsx_tree.specs.Kinds.{BinaryOp, Nullish, Exponentiate, UnaryOp, Delete, Void, TypeOf, Positive, Negative, Complement, Not, Assign, OpAssign, Unary, Binary, Cond, Call, Member, Index, New, NewWithoutArguments, NewTarget, SuperCall, SuperMember, SuperIndex, ClassExpr, ClassDecl, statement, ImportCall, ImportMeta, Element, expression, jsx, Tree, leaf, node, list, Forest, none, part, UpdateOp, Increment, Decrement, PrefixUpdate, PostfixUpdate, Seq, Array, Object, Property, Shorthand, Spread, ComputedKey, function, PlainTemplate, SubstitutedTemplate, TemplateSpan, Tagged, Role, WithInit, RestPat, ArrayPat, ObjectPat, PropertyPat, ShorthandPat, ShorthandInit, RestProperty}
use Rattle.jsx_tree.specs.Nonterminals as grammar
use Rattle.jsx_tree.specs.Grammar.{Commas, Fixed, TwoOrMore, InMembers, Many, Optional, Part, Production, Within, braced_lines, key, p, pun, sp, count, left_of, right_of, Elisions, Adjacent}
use Rattle.jsx_tree.specs.Grows.{operator_sign}
use Rattle.jsx_tree.specs.Spelling.{mode_of, between, gathered, each_said, spelled}
use Rattle.jsx_tree.specs.Reading.{Place, Lost, At, forth, scan}
use Rattle.jsx_tree.specs.Spans.{from_first, Claim, Comes, is_whole, spans, Told, tells, Tales, no_tales, tale}
use Rattle.jsx_tree.specs.View.{text_of, inside, forest, view_word}
use Rattle.jsx_tree.specs.Told.{told_list, told_text, told_leaf, told_node, told_jsx}
use Rattle.jsx_tree.specs.Walk.{is_found}
use Rattle.jsx_token.specs.Here.{Here, place_of, sign_of}
use Rattle.jsx_token.specs.declared.lexer.Fixed.TheVariants as fixed
use Rattle.jsx_operand.specs.Spans.{Spans, is_argument, IsPlaced, IsPlacedRow, IsPlacedList}
use Rattle.jsx_operand.specs.Members.{behind_brace}
use Rattle.jsx_operand.specs.Templates.{rest_production}
use Rattle.jsx_token.specs.Places.{next_of, end_of, Takes}
use Rattle.jsx_token.specs.Marks.{assign_sign}
use Rattle.jsx_token.specs.Growths.{mark, opening_sign}
use Rattle.jsx_base.proofs.Fronts.{other_ahead}
use Rattle.jsx_tree.proofs.Apart.{clash}
use Rattle.jsx_tree.proofs.Signs.{comma_too}
use Rattle.jsx_operand.proofs.Operators.{operator_is}
use Rattle.jsx_operand.proofs.Placing.{row_end, row_sign, row_quiet, row_part, row_part_as, row_list, list_none, is_there, node_is, leaf_is, led, row_line, row_unless, IsItem, bare_node, middle_item, tail_item, row_item, row_within}

-- ---- a trailing comma

pub takes_trailing : {x y : Here} → Takes (sign_of fixed.Comma) x y → scan (place_of x) (TrailingComma ∷ []) ≡ place_of y
takes_trailing {x} {y} k = comma_too (place_of x) (subst (λ v. IsTrue (is_found v)) (sym k.leads) refl) ∙ k.leads

abbrev is_comma : Lexeme → Bool
is_comma l = is_token l Punctuator (codes ",")

-- a comma is one whether it is the first token of the text or not
comma_front : (f : Bool) (s : Text) → is_comma (at_front Operator f (44 ∷ s)) ≡ true
comma_front true s = refl
comma_front false s = refl

comma_at_front : (f g : Bool) (s : Text) → is_comma (at_front Operator f s) ≡ true → is_comma (at_front Operator g s) ≡ true
comma_at_front f g s h = elim (first_is (nat_eq 44) s) as (λ b. first_is (nat_eq 44) s ≡ b → is_comma (at_front Operator g s) ≡ true) [ true ↦ λ e. begins s e | false ↦ λ e. absurd (clash _ h ((other_ahead Punctuator 44 [] Operator s e).not_it f)) ] refl
  where
    begins : (t : Text) → first_is (nat_eq 44) t ≡ true → is_comma (at_front Operator g t) ≡ true
    begins [] e = cc
    begins (c ∷ t) e = subst (λ d. is_comma (at_front Operator g (d ∷ t)) ≡ true) (eqb-true 44 c e) (comma_front g t)

no_comma : (b : Bool) (x y : Place) → (b ≡ true → ⊥) → cond b y x ≡ x
no_comma true x y n = absurd (n refl)
no_comma false x y n = refl

pub no_trailing : (x : Place) → forth (sign_of fixed.Comma) x ≡ Lost → scan x (TrailingComma ∷ []) ≡ x
no_trailing Lost e = refl
no_trailing (At q d text) e =
    no_comma (is_comma (token Operator false text)) (At q d text) _
    (λ h. let there : is_comma (token Operator (same q []) text) ≡ true = comma_at_front (false || breaks text) (same q [] || breaks text) (skip text) h in
    let found : is_found (forth (sign_of fixed.Comma) (At q d text)) ≡ true = (λ i. is_found (cond (there i) (At (codes ",") AfterExpr (token Operator (same q []) text).rest) Lost)) in
    clash _ found (ap is_found e))

pub name_placed : {a : TreeText} {x y : Here} → Takes (Tok Operator IdentifierName (text_of a)) x y → Comes a (next_of x) → IsPlaced (told_text a) (leaf IdentifierName (text_of a)) x y
name_placed {a = a} k c = leaf_is refl refl (or_right (not (grammar.is_ident (text_of a))) true refl) (c, tt) k

-- one that is a node by itself
pub named_placed : {at : Option Span} {a : TreeText} {x y : Here} → Takes (Tok Operator IdentifierName (text_of a)) x y → Comes a (next_of x) → Spans at (next_of x) (end_of y) → IsPlaced (told_leaf at a) (leaf IdentifierName (text_of a)) x y
named_placed {a = a} {x} {y} k c s = leaf_is refl refl (or_right (not (grammar.is_ident (text_of a))) true refl) ((is_there (next_of x) (end_of y) s refl refl).0, (c, tt)) k

-- a word that is an expression by itself has one text, which is not told
abbrev is_whole_leaf : List Claim → Tree → Bool
is_whole_leaf cs (leaf k t) = is_whole k t cs
is_whole_leaf cs t = true

word_whole : (at : Option Span) (w : Word) → is_whole_leaf (spans at ∷ []) (view_word w) ≡ true
word_whole at words.This = refl
word_whole at words.Null = refl
word_whole at words.True = refl
word_whole at words.False = refl
word_whole at words.ImportMeta = refl
word_whole at words.NewTarget = refl

pub word_placed : {at : Option Span} (w : Word) {t : Text} {x y : Here} → view_word w ≡ leaf IdentifierName t → Takes (Tok Operator IdentifierName t) x y → Spans at (next_of x) (end_of y) → IsPlaced (told_node at []) (leaf IdentifierName t) x y
word_placed {at} w {x = x} {y} e k s = leaf_is refl refl (subst (λ u. is_whole_leaf (spans at ∷ []) u ≡ true) e (word_whole at w)) (is_there (next_of x) (end_of y) s refl refl) k

tag_placed : {a : TreeText} {x y : Here} → Takes (Tok (mode_of JsxName) JsxName (text_of a)) x y → Comes a (next_of x) → IsPlaced (told_text a) (leaf JsxName (text_of a)) x y
tag_placed k c = leaf_is refl refl refl (c, tt) k

pub element_row : {at : Option Span} {a : TreeText} {x y z w v : Here} → Takes (sign_of fixed.Less) x y → Takes (Tok (mode_of JsxName) JsxName (text_of a)) y z → Comes a (next_of y) → Takes (sign_of fixed.TagSlash) z w → Takes (sign_of fixed.TagGreater) w v → Spans at (next_of x) (end_of v)
    → IsPlaced (told_node at (told_text a ∷ told_list [] ∷ [])) (node (jsx Element) (part (leaf JsxName (text_of a)) (part (list none) none))) x v
element_row {a = a} less name comes slash greater s =
    node_is (λ c e ps. refl) (λ ms text. refl) s
    (row_sign less (row_quiet (λ q. refl) (row_part (tag_placed name comes) (row_list list_none (row_sign slash (row_sign greater row_end))))))

pub element_told : {d : Told} (at : Option Span) (a : TreeText) (as' : Vec (Box Jsx Global) Global) → as'.items ≡ [] → d ≡ told_node at (told_text a ∷ told_list (map (inside told_jsx) as'.items) ∷ []) → d ≡ told_node at (told_text a ∷ told_list [] ∷ [])
element_told at a as' e is = is ∙ ap (λ js. told_node at (told_text a ∷ told_list (map (inside told_jsx) js) ∷ [])) e

pub member_row : {at : Option Span} {d : Told} {t : Tree} {a : TreeText} {w z x y : Here} → IsPlaced d t w z → Takes (sign_of fixed.Dot) z x → Takes (Tok Operator IdentifierName (text_of a)) x y → Comes a (next_of x) → Spans at (next_of w) (end_of y)
    → IsPlaced (told_node at (d ∷ told_text a ∷ [])) (node (expression Member) (part t (part (leaf IdentifierName (text_of a)) none))) w y
member_row l dot name comes s = node_is (λ c e ps. refl) (led l _) s (row_part l (row_quiet (λ q. refl) (row_sign dot (row_part (name_placed name comes) row_end))))

pub call_row : {at : Option Span} {d : Told} {t : Tree} {es : Tales} {us : Forest} {w z x y : Here} → IsPlaced d t w z → Takes (sign_of fixed.Open) z x → IsPlacedRow (Many Commas grammar.Argument ∷ p ")" ∷ []) (tale (tells [] es) no_tales) (part (list us) none) x y → Spans at (next_of w) (end_of y)
    → IsPlaced (tells (spans at ∷ []) (tale d (tale (tells [] es) no_tales))) (node (expression Call) (part t (part (list us) none))) w y
call_row l bracket r s = node_is (λ c e ps. refl) (led l _) s (row_part l (row_quiet (λ q. refl) (row_sign bracket r)))

pub index_row : {at : Option Span} {d e : Told} {t u : Tree} {w z x y v : Here} → IsPlaced d t w z → Takes (pun "[") z x → IsPlaced e u x y → Takes (sign_of fixed.CloseBracket) y v → Spans at (next_of w) (end_of v)
    → IsPlaced (told_node at (d ∷ e ∷ [])) (node (expression Index) (part t (part u none))) w v
index_row l bracket r close s = node_is (λ c e ps. refl) (led l _) s (row_part l (row_quiet (λ q. refl) (row_sign bracket (row_part r (row_sign close row_end)))))

pub conditional_row : {at : Option Span} {d e f : Told} {t u o : Tree} {w z x y v q : Here} → IsPlaced d t w z → Takes (pun "?") z x → IsPlaced e u x y → Takes (sign_of fixed.Colon) y v → IsPlaced f o v q → Spans at (next_of w) (end_of q)
    → IsPlaced (told_node at (d ∷ e ∷ f ∷ [])) (node (expression Cond) (part t (part u (part o none)))) w q
conditional_row l question r colon m s =
    node_is (λ c e ps. refl) (led l _) s
    (row_part l (row_quiet (λ q. refl) (row_quiet (λ q. refl) (row_sign question (row_quiet (λ q. refl) (row_part r (row_quiet (λ q. refl) (row_sign colon (row_quiet (λ q. refl) (row_part m row_end))))))))))

left_is : (o : BinaryOp) → is_argument (left_of o) ≡ false
left_is Nullish = refl
left_is Exponentiate = refl
left_is _ = refl

pub binary_row : {at : Option Span} {d e : Told} {t u : Tree} {w z x y : Here} (o : BinaryOp) → IsPlaced d t w z → Takes (operator_sign o) z x → IsPlaced e u x y → Spans at (next_of w) (end_of y)
    → IsPlaced (told_node at (d ∷ e ∷ [])) (node (expression (Binary o)) (part t (part u none))) w y
binary_row {d = d} {e} {t} {u} {w} {y = y} o l sign r s =
    node_is (λ c e ps. refl) (led l _) s
    (subst (λ q. IsPlacedRow (Part (left_of o) ∷ sp ∷ count ∷ q ∷ sp ∷ Part (grammar.Expr (right_of o)) ∷ []) (tale d (tale e no_tales)) (part t (part u none)) w y) (operator_is o)
    (row_part_as (left_is o) l (row_quiet (λ q. refl) (row_quiet (λ q. refl) (row_sign sign (row_quiet (λ q. refl) (row_part r row_end)))))))

-- trees that begin with one before which a gap is skipped
pub record Led (ts : List Tree) : Type 0 where
  pub first : Tree
  pub rest : List Tree
  pub is : ts ≡ first ∷ rest
  pub begins : (ms : List Sign) (text : Text) → from_first (spelled first ++ ms) text ≡ skip text

pub led_more : {ts us : List Tree} (t : Tree) → Led ts → us ≡ ts ++ t ∷ [] → Led us
led_more t l e = record { first = l.first; rest = l.rest ++ t ∷ []; is = e ∙ ap (λ vs. vs ++ t ∷ []) l.is; begins = l.begins }

begins_list : (ns ms bs : List Sign) (text : Text) → ((qs : List Sign) (text : Text) → from_first (ns ++ qs) text ≡ skip text) → from_first (((ns ++ bs) ++ End ∷ []) ++ ms) text ≡ skip text
begins_list ns ms bs text b = ap (λ qs. from_first (qs ++ ms) text) (append_assoc ns bs (End ∷ [])) ∙ (ap (λ qs. from_first qs text) (append_assoc ns (bs ++ End ∷ []) ms) ∙ b ((bs ++ End ∷ []) ++ ms) text)

pub sequence_row : {at : Option Span} {ds : Tales} {ts us : List Tree} {x y : Here} (t : Tree) → Led ts → us ≡ ts ++ t ∷ [] → IsPlacedList TwoOrMore ds (forest us) x y → Spans at (next_of x) (end_of y)
    → IsPlaced (tells (spans at ∷ []) (tale (tells [] ds) no_tales)) (node (expression Seq) (part (list (forest us)) none)) x y
sequence_row {at} {ds} {ts} {us} {x} {y} t l e r s =
    let is : us ≡ l.first ∷ (l.rest ++ t ∷ []) = e ∙ ap (λ vs. vs ++ t ∷ []) l.is in
    subst (λ vs. IsPlaced (tells (spans at ∷ []) (tale (tells [] ds) no_tales)) (node (expression Seq) (part (list (forest vs)) none)) x y) (sym is) (by l.rest (subst (λ vs. IsPlacedList TwoOrMore ds (forest vs) x y) is r))
  where
    by : (rest : List Tree) → IsPlacedList TwoOrMore ds (forest (l.first ∷ (rest ++ t ∷ []))) x y → IsPlaced (tells (spans at ∷ []) (tale (tells [] ds) no_tales)) (node (expression Seq) (part (list (forest (l.first ∷ (rest ++ t ∷ [])))) none)) x y
    by [] q = node_is (λ c e ps. refl) (λ ms text. begins_list (spelled l.first) ms (between TwoOrMore ++ gathered TwoOrMore (each_said (forest (t ∷ [])))) text l.begins) s (row_list q row_end)
    by (u ∷ vs) q = node_is (λ c e ps. refl) (λ ms text. begins_list (spelled l.first) ms (between TwoOrMore ++ gathered TwoOrMore (each_said (forest (u ∷ (vs ++ t ∷ []))))) text l.begins) s (row_list q row_end)

pub assign_row : {at : Option Span} {d e : Told} {t u : Tree} {w z x y : Here} → IsPlaced d t w z → Takes (pun "=") z x → IsPlaced e u x y → Spans at (next_of w) (end_of y) → IsPlaced (told_node at (d ∷ e ∷ [])) (node (expression Assign) (part t (part u none))) w y
assign_row l sign r s = node_is (λ c e ps. refl) (led l _) s (row_part l (row_quiet (λ q. refl) (row_quiet (λ q. refl) (row_sign sign (row_quiet (λ q. refl) (row_part r row_end))))))

pub op_assign_row : {at : Option Span} {d e : Told} {t u : Tree} {w z x y : Here} (o : BinaryOp) → IsPlaced d t w z → Takes (assign_sign o) z x → IsPlaced e u x y → Spans at (next_of w) (end_of y) → IsPlaced (told_node at (d ∷ e ∷ [])) (node (expression (OpAssign o)) (part t (part u none))) w y
op_assign_row o l sign r s = node_is (λ c e ps. refl) (led l _) s (row_part l (row_quiet (λ q. refl) (row_quiet (λ q. refl) (row_sign sign (row_quiet (λ q. refl) (row_part r row_end))))))

pub unary_row : {at : Option Span} {e : Told} {u : Tree} {w x y : Here} (o : UnaryOp) → Takes (opening_sign (expression (Unary o))) w x → IsPlaced e u x y → Spans at (next_of w) (end_of y) → IsPlaced (told_node at (e ∷ [])) (node (expression (Unary o)) (part u none)) w y
unary_row Delete sign r s = node_is (λ c e ps. refl) (λ ms text. refl) s (row_quiet (λ q. refl) (row_sign sign (row_quiet (λ q. refl) (row_part r row_end))))
unary_row Void sign r s = node_is (λ c e ps. refl) (λ ms text. refl) s (row_quiet (λ q. refl) (row_sign sign (row_quiet (λ q. refl) (row_part r row_end))))
unary_row TypeOf sign r s = node_is (λ c e ps. refl) (λ ms text. refl) s (row_quiet (λ q. refl) (row_sign sign (row_quiet (λ q. refl) (row_part r row_end))))
unary_row Positive sign r s = node_is (λ c e ps. refl) (λ ms text. refl) s (row_quiet (λ q. refl) (row_sign sign (row_quiet (λ q. refl) (row_part r row_end))))
unary_row Negative sign r s = node_is (λ c e ps. refl) (λ ms text. refl) s (row_quiet (λ q. refl) (row_sign sign (row_quiet (λ q. refl) (row_part r row_end))))
unary_row Complement sign r s = node_is (λ c e ps. refl) (λ ms text. refl) s (row_quiet (λ q. refl) (row_sign sign (row_part r row_end)))
unary_row Not sign r s = node_is (λ c e ps. refl) (λ ms text. refl) s (row_quiet (λ q. refl) (row_sign sign (row_part r row_end)))

pub postfix_row : {at : Option Span} {d : Told} {t : Tree} {w z x : Here} (o : UpdateOp) → IsPlaced d t w z → Takes (mark (expression (PostfixUpdate o))) z x → Spans at (next_of w) (end_of x) → IsPlaced (told_node at (d ∷ [])) (node (expression (PostfixUpdate o)) (part t none)) w x
postfix_row Increment l sign s = node_is (λ c e ps. refl) (led l _) s (row_part l (row_line (row_quiet (λ q. refl) (row_sign sign row_end))))
postfix_row Decrement l sign s = node_is (λ c e ps. refl) (led l _) s (row_part l (row_line (row_quiet (λ q. refl) (row_sign sign row_end))))

pub update_row : {at : Option Span} {e : Told} {u : Tree} {w x y : Here} (o : UpdateOp) → Takes (opening_sign (expression (PrefixUpdate o))) w x → IsPlaced e u x y → Spans at (next_of w) (end_of y) → IsPlaced (told_node at (e ∷ [])) (node (expression (PrefixUpdate o)) (part u none)) w y
update_row Increment sign r s = node_is (λ c e ps. refl) (λ ms text. refl) s (row_quiet (λ q. refl) (row_sign sign (row_part r row_end)))
update_row Decrement sign r s = node_is (λ c e ps. refl) (λ ms text. refl) s (row_quiet (λ q. refl) (row_sign sign (row_part r row_end)))

pub import_row : {at : Option Span} {e : Told} {u : Tree} {w x y z v : Here} → Takes (opening_sign (expression ImportCall)) w x → Takes (sign_of fixed.Open) x y → IsPlaced e u y z → Takes (sign_of fixed.Close) z v → Spans at (next_of w) (end_of v) → IsPlaced (told_node at (e ∷ [])) (node (expression ImportCall) (part u none)) w v
import_row sign bracket r close s = node_is (λ c e ps. refl) (λ ms text. refl) s (row_quiet (λ q. refl) (row_sign sign (row_sign bracket (row_part r (row_sign close row_end)))))

pub meta_row : {at : Option Span} {w x y z : Here} → Takes (opening_sign (expression ImportMeta)) w x → Takes (sign_of fixed.Dot) x y → Takes (key "meta") y z → Spans at (next_of w) (end_of z) → IsPlaced (told_node at []) (node (expression ImportMeta) none) w z
meta_row sign dot word s = node_is (λ c e ps. refl) (λ ms text. refl) s (row_quiet (λ q. refl) (row_sign sign (row_sign dot (row_sign word row_end))))

pub target_row : {at : Option Span} {w x y z : Here} → Takes (opening_sign (expression NewTarget)) w x → Takes (sign_of fixed.Dot) x y → Takes (key "target") y z → Spans at (next_of w) (end_of z) → IsPlaced (told_node at []) (node (expression NewTarget) none) w z
target_row sign dot word s = node_is (λ c e ps. refl) (λ ms text. refl) s (row_quiet (λ q. refl) (row_sign sign (row_sign dot (row_sign word row_end))))

pub new_row : {at : Option Span} {d : Told} {t : Tree} {es : Tales} {us : Forest} {w x y z v : Here} → Takes (opening_sign (expression New)) w x → IsPlaced d t x y → Takes (sign_of fixed.Open) y z → IsPlacedRow (Many Commas grammar.Argument ∷ p ")" ∷ []) (tale (tells [] es) no_tales) (part (list us) none) z v → Spans at (next_of w) (end_of v)
    → IsPlaced (tells (spans at ∷ []) (tale d (tale (tells [] es) no_tales))) (node (expression New) (part t (part (list us) none))) w v
new_row sign l bracket r s = node_is (λ c e ps. refl) (λ ms text. refl) s (row_quiet (λ q. refl) (row_sign sign (row_quiet (λ q. refl) (row_part l (row_sign bracket r)))))

pub new_alone_row : {at : Option Span} {d : Told} {t : Tree} {w x y : Here} → Takes (opening_sign (expression NewWithoutArguments)) w x → IsPlaced d t x y → Spans at (next_of w) (end_of y) → IsPlaced (told_node at (d ∷ [])) (node (expression NewWithoutArguments) (part t none)) w y
new_alone_row sign l s = node_is (λ c e ps. refl) (λ ms text. refl) s (row_quiet (λ q. refl) (row_sign sign (row_quiet (λ q. refl) (row_part l (row_unless row_end)))))

pub super_call_row : {at : Option Span} {es : Tales} {us : Forest} {w x y z : Here} → Takes (opening_sign (expression SuperCall)) w x → Takes (sign_of fixed.Open) x y → IsPlacedRow (Many Commas grammar.Argument ∷ p ")" ∷ []) (tale (tells [] es) no_tales) (part (list us) none) y z → Spans at (next_of w) (end_of z)
    → IsPlaced (tells (spans at ∷ []) (tale (tells [] es) no_tales)) (node (expression SuperCall) (part (list us) none)) w z
super_call_row sign bracket r s = node_is (λ c e ps. refl) (λ ms text. refl) s (row_quiet (λ q. refl) (row_sign sign (row_sign bracket r)))

pub super_member_row : {at : Option Span} {a : TreeText} {w x y z : Here} → Takes (opening_sign (expression SuperMember)) w x → Takes (sign_of fixed.Dot) x y → Takes (Tok Operator IdentifierName (text_of a)) y z → Comes a (next_of y) → Spans at (next_of w) (end_of z)
    → IsPlaced (told_node at (told_text a ∷ [])) (node (expression SuperMember) (part (leaf IdentifierName (text_of a)) none)) w z
super_member_row sign dot name comes s = node_is (λ c e ps. refl) (λ ms text. refl) s (row_quiet (λ q. refl) (row_sign sign (row_sign dot (row_part (name_placed name comes) row_end))))

pub super_index_row : {at : Option Span} {e : Told} {u : Tree} {w x y z v : Here} → Takes (opening_sign (expression SuperIndex)) w x → Takes (sign_of fixed.OpenBracket) x y → IsPlaced e u y z → Takes (sign_of fixed.CloseBracket) z v → Spans at (next_of w) (end_of v) → IsPlaced (told_node at (e ∷ [])) (node (expression SuperIndex) (part u none)) w v
super_index_row sign bracket r close s = node_is (λ c e ps. refl) (λ ms text. refl) s (row_quiet (λ q. refl) (row_sign sign (row_sign bracket (row_part r (row_sign close row_end)))))

pub array_row : {at : Option Span} {ds : Tales} {us : Forest} {w x y : Here} → Takes (opening_sign (expression Array)) w x → IsPlacedRow (Many Elisions grammar.ArrayItem ∷ p "]" ∷ []) (tale (tells [] ds) no_tales) (part (list us) none) x y → Spans at (next_of w) (end_of y)
    → IsPlaced (tells (spans at ∷ []) (tale (tells [] ds) no_tales)) (node (expression Array) (part (list us) none)) w y
array_row sign r s = node_is (λ c e ps. refl) (λ ms text. refl) s (row_quiet (λ q. refl) (row_sign sign r))

pub spread_row : {at : Option Span} {e : Told} {u : Tree} {w x y : Here} → Takes (opening_sign (expression Spread)) w x → IsPlaced e u x y → Spans at (next_of w) (end_of y) → IsPlaced (told_node at (e ∷ [])) (node (expression Spread) (part u none)) w y
spread_row sign r s = node_is (λ c e ps. refl) (λ ms text. refl) s (row_sign sign (row_part r row_end))

-- ---- an object, and what stands in it

pub object_row : {at : Option Span} {ds : Tales} {us : Forest} {w x y : Here} → Takes (opening_sign (expression Object)) w x → IsPlacedRow behind_brace (tale (tells [] ds) no_tales) (part (list us) none) x y → Spans at (next_of w) (end_of y)
    → IsPlaced (tells (spans at ∷ []) (tale (tells [] ds) no_tales)) (node (expression Object) (part (list us) none)) w y
object_row sign r s = node_is (λ c e ps. refl) (λ ms text. refl) s (row_quiet (λ q. refl) (row_sign sign (row_quiet (λ q. refl) r)))

pub string_placed : {a : TreeText} {x y : Here} → Takes (Tok Operator StringLiteral (text_of a)) x y → Comes a (next_of x) → IsPlaced (told_text a) (leaf StringLiteral (text_of a)) x y
string_placed k c = leaf_is refl refl refl (c, tt) k

pub number_placed : {a : TreeText} {x y : Here} → Takes (Tok Operator NumericLiteral (text_of a)) x y → Comes a (next_of x) → IsPlaced (told_text a) (leaf NumericLiteral (text_of a)) x y
number_placed k c = leaf_is refl refl refl (c, tt) k

pub long_placed : {a : TreeText} {x y : Here} → Takes (Tok Operator BigIntLiteral (text_of a)) x y → Comes a (next_of x) → IsPlaced (told_text a) (leaf BigIntLiteral (text_of a)) x y
long_placed k c = leaf_is refl refl refl (c, tt) k

pub computed_row : {at : Option Span} {e : Told} {u : Tree} {w x y v : Here} → Takes (sign_of fixed.OpenBracket) w x → IsPlaced e u x y → Takes (sign_of fixed.CloseBracket) y v → Spans at (next_of w) (end_of v) → IsPlaced (told_node at (e ∷ [])) (node (function ComputedKey) (part u none)) w v
computed_row sign r close s = node_is (λ c e ps. refl) (λ ms text. refl) s (row_sign sign (row_part r (row_sign close row_end)))

pub property_row : {at : Option Span} {d e : Told} {t u : Tree} {w z x y : Here} → IsPlaced d t w z → Takes (sign_of fixed.Colon) z x → IsPlaced e u x y → Spans at (next_of w) (end_of y) → IsPlaced (told_node at (d ∷ e ∷ [])) (node (expression Property) (part t (part u none))) w y
property_row l colon r s = node_is (λ c e ps. refl) (led l _) s (row_quiet (λ q. refl) (row_part l (row_sign colon (row_quiet (λ q. refl) (row_part r row_end)))))

pub shorthand_row : {at : Option Span} {a : TreeText} {x y : Here} → Takes (Tok Operator IdentifierName (text_of a)) x y → Comes a (next_of x) → Spans at (next_of x) (end_of y) → IsPlaced (told_node at (told_text a ∷ [])) (node (expression Shorthand) (part (leaf IdentifierName (text_of a)) none)) x y
shorthand_row {a = a} name comes s = let l = name_placed {a = a} name comes in node_is (λ c e ps. refl) (led l []) s (row_quiet (λ q. refl) (row_part l row_end))

-- ---- classes, whose name and members stand in what they make of their surroundings

abbrev class_symbols : Production
class_symbols = Optional (Space ∷ key "extends" ∷ Space ∷ []) (grammar.Expr 17) [] [] ∷ sp ∷ braced_lines grammar.ClassMember

class_placed : {ds : Tales} {h : Tree} {ts : Forest} {x y : Here} → IsPlacedRow class_symbols ds (part h ts) x y → IsPlacedRow (Optional (Space ∷ key "extends" ∷ Space ∷ []) (grammar.Expr 17) [] [] ∷ sp ∷ Within InMembers ∷ braced_lines grammar.ClassMember) ds (part h ts) x y
class_placed r = record { same = r.same; leads = r.leads; told = r.told }

named_class_placed : {ds : Tales} {n h : Tree} {ts : Forest} {x y : Here} → IsPlacedRow (Optional (Space ∷ []) grammar.BindingIdent [] [] ∷ class_symbols) ds (part n (part h ts)) x y
    → IsPlacedRow (Optional (Space ∷ []) grammar.BindingIdent [] [] ∷ Optional (Space ∷ key "extends" ∷ Space ∷ []) (grammar.Expr 17) [] [] ∷ sp ∷ Within InMembers ∷ braced_lines grammar.ClassMember) ds (part n (part h ts)) x y
named_class_placed r = record { same = r.same; leads = r.leads; told = r.told }

pub class_row : {at : Option Span} {ds : Tales} {n h : Tree} {ts : Forest} {w x y : Here} → Takes (opening_sign (function ClassExpr)) w x → IsPlacedRow (Optional (Space ∷ []) grammar.BindingIdent [] [] ∷ Optional (Space ∷ key "extends" ∷ Space ∷ []) (grammar.Expr 17) [] [] ∷ sp ∷ braced_lines grammar.ClassMember) ds (part n (part h ts)) x y → Spans at (next_of w) (end_of y)
    → IsPlaced (tells (spans at ∷ []) ds) (node (function ClassExpr) (part n (part h ts))) w y
class_row m r s = node_is (λ c e ps. refl) (λ ms text. refl) s (row_quiet (λ q. refl) (row_sign m (row_within (named_class_placed r))))

pub class_declaration_row : {at : Option Span} {d : Told} {ds : Tales} {n h : Tree} {ts : Forest} {w x y z : Here} → Takes (key "class") w x → IsPlaced d n x y → IsPlacedRow (Optional (Space ∷ key "extends" ∷ Space ∷ []) (grammar.Expr 17) [] [] ∷ sp ∷ braced_lines grammar.ClassMember) ds (part h ts) y z → Spans at (next_of w) (end_of z)
    → IsPlaced (tells (spans at ∷ []) (tale d ds)) (node (statement ClassDecl) (part n (part h ts))) w z
class_declaration_row m l r s = node_is (λ c e ps. refl) (λ ms text. refl) s (row_quiet (λ q. refl) (row_sign m (row_quiet (λ q. refl) (row_within (row_part l (class_placed r))))))

-- ---- parameters

pub default_row : {r : Role} {at : Option Span} {d e : Told} {t u : Tree} {w z x y : Here} → IsPlaced d t w z → Takes (sign_of fixed.Equals) z x → IsPlaced e u x y → Spans at (next_of w) (end_of y) → IsPlaced (told_node at (d ∷ e ∷ [])) (node (function (WithInit r)) (part t (part u none))) w y
default_row l sign r s = node_is (λ c e ps. refl) (led l _) s (row_part l (row_quiet (λ q. refl) (row_quiet (λ q. refl) (row_sign sign (row_quiet (λ q. refl) (row_part r row_end))))))

pub rest_pattern_row : {r : Role} {at : Option Span} {e : Told} {u : Tree} {w x y : Here} → Takes (sign_of fixed.Dots) w x → IsPlaced e u x y → Spans at (next_of w) (end_of y) → IsPlaced (told_node at (e ∷ [])) (node (function (RestPat r)) (part u none)) w y
rest_pattern_row sign r s = node_is (λ c e ps. refl) (λ ms text. refl) s (row_sign sign (row_part r (row_unless row_end)))

-- ---- patterns

pub array_pattern_placed : {r : Role} {at : Option Span} {ds : Tales} {us : Forest} {w x y : Here} → Takes (sign_of fixed.OpenBracket) w x → IsPlacedRow (Many Elisions (grammar.Slot r) ∷ p "]" ∷ []) (tale (tells [] ds) no_tales) (part (list us) none) x y → Spans at (next_of w) (end_of y)
    → IsPlaced (tells (spans at ∷ []) (tale (tells [] ds) no_tales)) (node (function (ArrayPat r)) (part (list us) none)) w y
array_pattern_placed sign r s = node_is (λ c e ps. refl) (λ ms text. refl) s (row_quiet (λ q. refl) (row_sign sign r))

pub object_pattern_placed : {r : Role} {at : Option Span} {ds : Tales} {us : Forest} {w x y : Here} → Takes (sign_of fixed.OpenBrace) w x → IsPlacedRow (Many Commas (grammar.PatProp r) ∷ Fixed Pad ∷ p "}" ∷ []) (tale (tells [] ds) no_tales) (part (list us) none) x y → Spans at (next_of w) (end_of y)
    → IsPlaced (tells (spans at ∷ []) (tale (tells [] ds) no_tales)) (node (function (ObjectPat r)) (part (list us) none)) w y
object_pattern_placed sign r s = node_is (λ c e ps. refl) (λ ms text. refl) s (row_quiet (λ q. refl) (row_sign sign (row_quiet (λ q. refl) r)))

pub pair_pattern_placed : {r : Role} {at : Option Span} {d e : Told} {t u : Tree} {w z x y : Here} → IsPlaced d t w z → Takes (sign_of fixed.Colon) z x → IsPlaced e u x y → Spans at (next_of w) (end_of y) → IsPlaced (told_node at (d ∷ e ∷ [])) (node (function (PropertyPat r)) (part t (part u none))) w y
pair_pattern_placed l colon r s = node_is (λ c e ps. refl) (led l _) s (row_quiet (λ q. refl) (row_part l (row_sign colon (row_quiet (λ q. refl) (row_part r row_end)))))

pub short_pattern_placed : {r : Role} {at : Option Span} {d : Told} {t : Tree} {w z : Here} → IsPlaced d t w z → Spans at (next_of w) (end_of z) → IsPlaced (told_node at (d ∷ [])) (node (function (ShorthandPat r)) (part t none)) w z
short_pattern_placed l s = node_is (λ c e ps. refl) (led l _) s (row_quiet (λ q. refl) (row_part l row_end))

pub short_default_placed : {r : Role} {at : Option Span} {d e : Told} {t u : Tree} {w z x y : Here} → IsPlaced d t w z → Takes (sign_of fixed.Equals) z x → IsPlaced e u x y → Spans at (next_of w) (end_of y) → IsPlaced (told_node at (d ∷ e ∷ [])) (node (function (ShorthandInit r)) (part t (part u none))) w y
short_default_placed l sign r s = node_is (λ c e ps. refl) (led l _) s (row_quiet (λ q. refl) (row_quiet (λ q. refl) (row_part l (row_quiet (λ q. refl) (row_quiet (λ q. refl) (row_sign sign (row_quiet (λ q. refl) (row_part r (row_quiet (λ q. refl) row_end)))))))))

pub rest_property_placed : {r : Role} {at : Option Span} {d : Told} {t : Tree} {w x y : Here} → Takes (sign_of fixed.Dots) w x → IsPlaced d t x y → Spans at (next_of w) (end_of y) → IsPlaced (told_node at (d ∷ [])) (node (function (RestProperty r)) (part t none)) w y
rest_property_placed sign r s = node_is (λ c e ps. refl) (λ ms text. refl) s (row_sign sign (row_part r (row_unless row_end)))

-- ---- templates

pub span_row : {b : Bool} {d : Told} {t : Tree} {p : TreeText} {x y z w : Here} → IsPlaced d t x y → Takes (sign_of fixed.CloseBrace) y z → Takes (Tok Piece TemplateMiddle (text_of p)) z w → Comes p (end_of z) → IsItem false (tells [] (tale d (tale (told_text p) no_tales))) (node (expression (TemplateSpan b)) (part t (part (leaf TemplateMiddle (text_of p)) none))) x w
span_row l brace piece comes = bare_node (λ c e ps. refl) (row_part l (row_sign brace (row_item refl (middle_item refl (comes, tt) piece) row_end)))

pub rest_row : {b : Bool} {es : Tales} {us : Forest} {d : Told} {t : Tree} {p : TreeText} {x y z w v : Here} → IsPlacedList Adjacent es us x y → IsPlaced d t y z → Takes (sign_of fixed.CloseBrace) z w → Takes (Tok Piece TemplateTail (text_of p)) w v → Comes p (end_of w)
    → IsPlacedRow (rest_production b) (tale (tells [] es) (tale d (tale (told_text p) no_tales))) (part (list us) (part t (part (leaf TemplateTail (text_of p)) none))) x v
rest_row l r brace piece comes = row_list l (row_part r (row_sign brace (row_item refl (tail_item refl (comes, tt) piece) row_end)))

pub whole_template_row : (b : Bool) {at : Option Span} {a : TreeText} {x y : Here} → Takes (Tok Operator NoSubstitution (text_of a)) x y → Comes a (next_of x) → Spans at (next_of x) (end_of y) → IsPlaced (told_node at (told_text a ∷ [])) (node (expression (PlainTemplate b)) (part (leaf NoSubstitution (text_of a)) none)) x y
whole_template_row b {a = a} {x} {y} piece comes s = let l : IsPlaced (told_text a) (leaf NoSubstitution (text_of a)) x y = leaf_is refl refl refl (comes, tt) piece in node_is (λ c e ps. refl) (λ ms text. refl) s (row_quiet (λ q. refl) (row_part l row_end))

pub head_template_row : (b : Bool) {at : Option Span} {a : TreeText} {ds : Tales} {us : Forest} {x y z : Here} → Takes (Tok Operator TemplateHead (text_of a)) x y → Comes a (next_of x) → IsPlacedRow (rest_production b) ds us y z → Spans at (next_of x) (end_of z)
    → IsPlaced (tells (spans at ∷ []) (tale (told_text a) ds)) (node (expression (SubstitutedTemplate b)) (part (leaf TemplateHead (text_of a)) us)) x z
head_template_row b {a = a} {x = x} {y} piece comes r s = let l : IsPlaced (told_text a) (leaf TemplateHead (text_of a)) x y = leaf_is refl refl refl (comes, tt) piece in node_is (λ c e ps. refl) (λ ms text. refl) s (row_quiet (λ q. refl) (row_part l r))

pub tagged_row : {at : Option Span} {d e : Told} {t u : Tree} {w x y : Here} → IsPlaced d t w x → IsPlaced e u x y → Spans at (next_of w) (end_of y) → IsPlaced (told_node at (d ∷ e ∷ [])) (node (expression Tagged) (part t (part u none))) w y
tagged_row l r s = node_is (λ c e ps. refl) (led l _) s (row_part l (row_quiet (λ q. refl) (row_part r row_end)))
