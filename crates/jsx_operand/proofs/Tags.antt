-- A tag's template: the piece with which it begins, and that no sign stands there that goes on with an expression.
use Rattle.std.proofs.Common.{◌≡◌, ℕ, Bool, true, false, not, List, [], ◌∷◌, refl, sym, ◌∙◌, ap, subst, nat_eq}
use Rattle.std.specs.Prelude.{IsTrue, Some, ◌&&◌, ◌||◌}
use Rattle.std.proofs.lemmas.Bool.{eqb-true}
use Rattle.jsx_base.specs.Token.{Lexeme, Text, Operator, NoSubstitution, TemplateHead, TokenKind, breaks, is_kind, is_token, kind_number, same, token, NoToken, Punctuator, at_front, first_is, is_digit, is_start, skip, state}
use Rattle.jsx_tree.specs.Signs.{AfterExpr, Sign, Tok}
use Rattle.jsx_tree.specs.Kinds.{PlainTemplate, SubstitutedTemplate, Tagged, Kind, expression, Tree, leaf, node, list, Forest}
use Rattle.jsx_tree.specs.Nonterminals.{TemplateOf}
use Rattle.jsx_tree.specs.Grammar.{Context}
use Rattle.jsx_tree.specs.Form.{admits, is_leaf}
use Rattle.jsx_tree.specs.Reading.{Place, Lost, At, forth, is_backquote}
use Rattle.jsx_tree.specs.StaticRules.{Surroundings}
use Rattle.jsx_tree.specs.Stops.{quotes}
use Rattle.jsx_tree.specs.Walk.{is_found, tree, tail, Walk, next}
use Rattle.jsx_tree.proofs.Tokens.{and_left, and_right, and_both, same_is}
use Rattle.jsx_tree.proofs.Apart.{clash, found_token, one_token}
use Rattle.jsx_base.proofs.Families.{may_be}
use Rattle.jsx_base.proofs.Families as families
use Rattle.jsx_base.proofs.Fronts.{none_ahead, other_ahead, turned}
use Rattle.jsx_tree.proofs.Rows.Firsts.{kind_home}
use Rattle.jsx_tree.proofs.Rows.Stopping.{is_not}
use Rattle.jsx_token.specs.Growths.{Rung, rung, callee, asked, is_code, is_rung, seat, settled}
use Rattle.jsx_token.specs.Marks.{ends_so_far, goes_by_mark, goes_by_quote, goes_on_so_far, is_quoted, is_sign, row_so_far}
use Rattle.jsx_token.proofs.Levels.{is_unquoted, seat_asks}
use Rattle.jsx_token.proofs.Listed.{of_level}
use Rattle.jsx_operand.specs.SoFar.{Staged}
use Rattle.jsx_operand.specs.Templates.{IsOf, plain, substituted}
use Rattle.jsx_operand.proofs.OfSoFar.{of_so_far}
use Rattle.jsx_operand.proofs.Homes.{Taken, home_of, no_list, taken_by}
use Rattle.jsx_operand.proofs.Standing.{standing}
use Rattle.jsx_operand.proofs.Values.{Quote, Stands, head_piece, head_there, whole_piece, whole_there, one_piece}

-- ---- the template of a tag

abbrev pub is_tag_template : Kind → Bool
is_tag_template (expression (PlainTemplate true)) = true
is_tag_template (expression (SubstitutedTemplate true)) = true
is_tag_template k = false

tag_template : (k : Kind) → is_tag_template k ≡ true → IsOf true k
tag_template (expression (PlainTemplate true)) h = plain
tag_template (expression (SubstitutedTemplate true)) h = substituted
tag_template _ h = cc

-- what stands there is one of the two
pub template_node : (k : Kind) (ts : Forest) → Taken k → admits TemplateOf (node k ts) ≡ true → IsOf true k
template_node k ts t a = tag_template k (standing TemplateOf is_tag_template refl k t (kind_home TemplateOf k ts a))

pub template_kind : {v : Surroundings} {x y : Place} (k : Kind) (ts : Forest) → Staged v false TemplateOf x (node k ts) y → IsOf true k
template_kind k ts r = template_node k ts (taken_by r) (home_of r)

whole_tag : {V : List Context → Surroundings} {x y : Place} {ts : Forest} → Walk Staged V (row_so_far (expression (PlainTemplate true))) x ts y → Stands NoSubstitution x
whole_tag (next (tree {t = t} q) w) = whole_piece t q

head_tag : {V : List Context → Surroundings} {x y : Place} {ts : Forest} → Walk Staged V (row_so_far (expression (SubstitutedTemplate true))) x ts y → Stands TemplateHead x
head_tag (next (tree {t = t} q) w) = head_piece t q

node_piece : {V : List Context → Surroundings} {x y : Place} {k : Kind} {ts : Forest} → IsOf true k → Walk Staged V (row_so_far k) x ts y → Quote x
node_piece plain w = whole_there (whole_tag w)
node_piece substituted w = head_there (head_tag w)

-- two at one place are of one kind
pub one_tag : {V W : List Context → Surroundings} {x p y : Place} {j k : Kind} {ts us : Forest} → IsOf true k → IsOf true j → Walk Staged V (row_so_far k) x us y → Walk Staged W (row_so_far j) x ts p → j ≡ k
one_tag plain plain w u = refl
one_tag substituted substituted w u = refl
one_tag plain substituted w u = absurd (one_piece (whole_tag w) (head_tag u))
one_tag substituted plain w u = absurd (one_piece (whole_tag u) (head_tag w))

tag_piece : {v : Surroundings} {x y : Place} (t : Tree) → Staged v false TemplateOf x t y → Quote x
tag_piece (leaf k t) r = let bad = r.staged in cc
tag_piece (node k ts) r = node_piece (template_kind k ts r) (of_so_far.from_node k r).walk
tag_piece (list ts) r = absurd (no_list r)

pub tagged_walk : {V : List Context → Surroundings} {x y : Place} {ts : Forest} → Walk Staged V (tail (row_so_far (expression Tagged))) x ts y → Quote x
tagged_walk (next (tree {t = t} q) w) = tag_piece t q

-- ---- no sign stands where a piece does

or_left : (a b : Bool) → a ≡ true → (a || b) ≡ true
or_left a b h = ap (λ c. c || b) h

or_right : (a b : Bool) → b ≡ true → (a || b) ≡ true
or_right true b h = refl
or_right false b h = h

pub sign_piece : (s : Sign) (x : Place) → is_code s ≡ true → is_unquoted s ≡ true → IsTrue (is_found (forth s x)) → Quote x → ⊥
sign_piece (Tok Operator k (d ∷ t)) x c u f (whole_there q) = clash _ (or_left (is_kind k NoSubstitution) (is_kind k TemplateHead) (and_left (is_kind k NoSubstitution) _ (one_token k NoSubstitution (d ∷ t) q.text x f q.found))) (is_not _ u)
sign_piece (Tok Operator k (d ∷ t)) x c u f (head_there q) = clash _ (or_right (is_kind k NoSubstitution) (is_kind k TemplateHead) (and_left (is_kind k TemplateHead) _ (one_token k TemplateHead (d ∷ t) q.text x f q.found))) (is_not _ u)
sign_piece _ x c u f q = cc

-- the token of a sign is none
pub sign_unquoted : (s : Sign) (x : Lexeme) → is_unquoted s ≡ true → is_sign x s ≡ true → is_quoted x ≡ false
sign_unquoted (Tok m k t) x u e =
    let same' : kind_number x.kind ≡ kind_number k = eqb-true (kind_number x.kind) (kind_number k) (and_left (is_kind x.kind k) _ e) in
    (λ i. nat_eq (same' i) (kind_number NoSubstitution) || nat_eq (same' i) (kind_number TemplateHead)) ∙ is_not _ u
sign_unquoted _ x u e = cc

-- ---- it goes on wherever a parser asks

rung_quotes : (r : Rung) → is_rung r ≡ true → quotes (asked r) ≡ true
rung_quotes (rung n) h = of_level quotes refl {n = n} h
rung_quotes callee h = refl

or_true : (a : Bool) → (a || true) ≡ true
or_true true = refl
or_true false = refl

-- the token begins with a backquote

no_whole_state : (c : ℕ) (s : Text) → nat_eq c 96 ≡ false → may_be (state Operator c s) NoSubstitution ≡ false
no_whole_state c s e = families.either NoSubstitution (is_start c) _ _ refl (families.either NoSubstitution (nat_eq c 48) _ _ refl (families.either NoSubstitution (is_digit c) _ _ refl (families.either NoSubstitution (nat_eq c 46 && first_is is_digit s) _ _ refl (families.either NoSubstitution (nat_eq c 34 || nat_eq c 39) _ _ refl (families.only NoSubstitution (nat_eq c 96) _ _ e refl)))))

no_head_state : (c : ℕ) (s : Text) → nat_eq c 96 ≡ false → may_be (state Operator c s) TemplateHead ≡ false
no_head_state c s e = families.either TemplateHead (is_start c) _ _ refl (families.either TemplateHead (nat_eq c 48) _ _ refl (families.either TemplateHead (is_digit c) _ _ refl (families.either TemplateHead (nat_eq c 46 && first_is is_digit s) _ _ refl (families.either TemplateHead (nat_eq c 34 || nat_eq c 39) _ _ refl (families.only TemplateHead (nat_eq c 96) _ _ e refl)))))

-- a kind of token that begins with nothing else
record IsPiece (k : TokenKind) : Type 0 where
  some : is_kind NoToken k ≡ false
  unmarked : is_kind Punctuator k ≡ false
  other : (c : ℕ) (s : Text) → nat_eq c 96 ≡ false → may_be (state Operator c s) k ≡ false
  full : is_leaf k [] ≡ false

piece_front : {k : TokenKind} (f : Bool) (s : Text) (d : ℕ) (t : Text) → IsPiece k → is_token (at_front Operator f s) k (d ∷ t) ≡ true → nat_eq 96 d ≡ true
piece_front {k} f [] d t p h = absurd (clash _ (and_left (is_kind NoToken k) _ h) p.some)
piece_front {k} f (c ∷ s) d t p h = by (nat_eq 96 d) (nat_eq 96 c) refl refl
  where
    by : (a b : Bool) → nat_eq 96 d ≡ a → nat_eq 96 c ≡ b → a ≡ true
    by true b e g = refl
    by false false e g = absurd (clash _ (and_left (is_kind (at_front Operator f (c ∷ s)).kind k) _ h) ((none_ahead k Operator c s p.some p.unmarked (p.other c s (turned 96 c g))).none f))
    by false true e g = absurd (clash _ h ((other_ahead k d t Operator (c ∷ s) (subst (λ n. nat_eq d n ≡ false) (eqb-true 96 c g) (turned 96 d e))).not_it f))

piece_begins : {k : TokenKind} (f : Bool) (s t : Text) → IsPiece k → is_leaf k t ≡ true → is_token (at_front Operator f s) k t ≡ true → is_backquote t ≡ true
piece_begins f s [] p l h = absurd (clash _ l p.full)
piece_begins f s (d ∷ t) p l h = piece_front f s d t p h

whole_is : IsPiece NoSubstitution
whole_is = record { some = refl; unmarked = refl; other = no_whole_state; full = refl }

head_is : IsPiece TemplateHead
head_is = record { some = refl; unmarked = refl; other = no_head_state; full = refl }

piece_token : (q : Text) (text : Text) → Quote (At q AfterExpr text) → (is_backquote (token Operator (same q []) text).raw && is_quoted (token Operator (same q []) text)) ≡ true
piece_token q text (whole_there s) =
    let x = token Operator (same q []) text in
    let i : is_token x NoSubstitution s.text ≡ true = found_token (is_token x NoSubstitution s.text) (At s.text AfterExpr x.rest) s.found in
    and_both _ _ (subst (λ t. is_backquote t ≡ true) (sym (same_is x.raw s.text (and_right (is_kind x.kind NoSubstitution) _ i))) (piece_begins (same q [] || breaks text) (skip text) s.text whole_is s.whole i)) (or_left (is_kind x.kind NoSubstitution) (is_kind x.kind TemplateHead) (and_left (is_kind x.kind NoSubstitution) _ i))
piece_token q text (head_there s) =
    let x = token Operator (same q []) text in
    let i : is_token x TemplateHead s.text ≡ true = found_token (is_token x TemplateHead s.text) (At s.text AfterExpr x.rest) s.found in
    and_both _ _ (subst (λ t. is_backquote t ≡ true) (sym (same_is x.raw s.text (and_right (is_kind x.kind TemplateHead) _ i))) (piece_begins (same q [] || breaks text) (skip text) s.text head_is s.whole i)) (or_right (is_kind x.kind NoSubstitution) (is_kind x.kind TemplateHead) (and_left (is_kind x.kind TemplateHead) _ i))

pub quote_goes : (r : Rung) (a : Place) → is_rung r ≡ true → settled a ≡ true → Quote a → ends_so_far (seat r) a ≡ false
quote_goes r Lost h s p = cc
quote_goes r (At q AfterExpr text) h s p =
    let x = token Operator (same q []) text in
    let goes : goes_by_quote (asked r) x ≡ true = and_both _ _ (rung_quotes r h) (piece_token q text p) in
    ap (λ l. not (goes_on_so_far l AfterExpr (breaks text) (token Operator false text))) (seat_asks r)
    ∙ (ap (λ b. not (goes_on_so_far (Some (asked r)) AfterExpr (breaks text) (token Operator b text))) (sym (is_not (same q []) s))
    ∙ ((λ i. not (goes_by_mark (asked r) (breaks text) x || goes i)) ∙ ap not (or_true (goes_by_mark (asked r) (breaks text) x))))
quote_goes r (At q _ text) h s p = cc
