-- Small facts: booleans, kinds by number, tokens at a place.
use Rattle.std.proofs.Common.{◌≡◌, ℕ, ◌≤◌, zero, suc, Bool, true, false, not, cond, List, [], ◌∷◌, refl, sym, ◌∙◌, ap, subst}
use Rattle.std.specs.Prelude.{IsTrue, ◌||◌, nat_eq, nat_le}
use Rattle.std.proofs.lemmas.Bool.{eqb-true, eq-eqb, leb-true}
use Rattle.jsx_base.specs.Token.{Text, Mode, Operand, Operator, Piece, Tag, Children, TokenKind, IdentifierName, Punctuator, NumericLiteral, BigIntLiteral, StringLiteral, RegExpLiteral, NoSubstitution, TemplateHead, TemplateMiddle, TemplateTail, JsxName, JsxString, JsxText, Elision, NoToken, is_token, token, kind_number, same}
use Rattle.jsx_tree.specs.Signs.{Tok}
use Rattle.jsx_tree.specs.Kinds.{Kind}
use Rattle.jsx_tree.specs.Reading.{Place, Lost, At, forth, go_if}
use Rattle.jsx_tree.specs.Walk.{is_found}
use Rattle.jsx_tree.proofs.Tokens.{and_left, and_right, and_both, same_is, same_self}
use Rattle.jsx_tree.proofs.OneTree.Table.{kinds, nth, position, scope}
use Rattle.jsx_tree.proofs.OneTree.Readings.{kind_at, text_at}
use Rattle.jsx_tree.proofs.OneTree.Table.{listed}
use Rattle.jsx_tree.proofs.OneTree.Checks.{is_op, every, same_token}

pub never : (b : Bool) → b ≡ true → b ≡ false → ⊥
never true e f = cc
never false e f = cc

pub or_else : (a b : Bool) → (a || b) ≡ true → a ≡ false → b ≡ true
or_else true b e f = cc
or_else false b e f = e

pub not_is : (b : Bool) → not b ≡ true → b ≡ false
not_is true e = cc
not_is false e = refl

pub is_not : (b : Bool) → b ≡ false → not b ≡ false → ⊥
is_not true e f = cc
is_not false e f = cc

-- a case on a test
pub data Test (b : Bool) : Type 0 where
  yes' : b ≡ true → Test b
  no' : b ≡ false → Test b

pub test : (b : Bool) → Test b
test true = yes' refl
test false = no' refl

pub eq_nat : {a b : ℕ} → nat_eq a b ≡ true → a ≡ b
eq_nat {a} {b} e = eqb-true a b e

pub le_nat : {a b : ℕ} → nat_le a b ≡ true → a ≤ b
le_nat {a} {b} e = leb-true a b e

pub op_is : (m : Mode) → is_op m ≡ true → m ≡ Operator
op_is Operator e = refl
op_is Operand e = cc
op_is Piece e = cc
op_is Tag e = cc
op_is Children e = cc

of_number : ℕ → TokenKind
of_number n =
    cond (nat_eq n 0) IdentifierName (cond (nat_eq n 1) Punctuator (cond (nat_eq n 2) NumericLiteral (cond (nat_eq n 3) BigIntLiteral (cond (nat_eq n 4) StringLiteral
    (cond (nat_eq n 5) RegExpLiteral (cond (nat_eq n 6) NoSubstitution (cond (nat_eq n 7) TemplateHead (cond (nat_eq n 8) TemplateMiddle (cond (nat_eq n 9) TemplateTail
    (cond (nat_eq n 10) JsxName (cond (nat_eq n 11) JsxString (cond (nat_eq n 12) JsxText (cond (nat_eq n 13) Elision NoToken)))))))))))))

numbered : (k : TokenKind) → of_number (kind_number k) ≡ k
unfolding of_number
numbered IdentifierName = refl
numbered Punctuator = refl
numbered NumericLiteral = refl
numbered BigIntLiteral = refl
numbered StringLiteral = refl
numbered RegExpLiteral = refl
numbered NoSubstitution = refl
numbered TemplateHead = refl
numbered TemplateMiddle = refl
numbered TemplateTail = refl
numbered JsxName = refl
numbered JsxString = refl
numbered JsxText = refl
numbered Elision = refl
numbered NoToken = refl

pub kind_is : (k l : TokenKind) → kind_number k ≡ kind_number l → k ≡ l
kind_is k l e = sym (numbered k) ∙ (ap of_number e ∙ numbered l)

-- ---- tokens at a place

if_found : (b : Bool) (x : Place) → IsTrue (is_found (go_if b x)) → b ≡ true
if_found true x e = refl
if_found false x e = cc

pub record Seen (x : Place) (k : TokenKind) (t : Text) : Type 0 where
  pub kind : kind_at x ≡ kind_number k
  pub text : text_at x ≡ t

pub seen : (k : TokenKind) (t : Text) (x : Place) → IsTrue (is_found (forth (Tok Operator k t) x)) → Seen x k t
seen k t Lost f = cc
seen k t (At q e text) f =
    let h = if_found (is_token (token Operator (same q []) text) k t) _ f in
    record { kind = eqb-true _ _ (and_left _ _ h); text = same_is _ _ (and_right _ _ h) }

pub found_at : {x y : Place} → x ≡ y → IsTrue (is_found y) → IsTrue (is_found x)
found_at e f = subst (λ p. IsTrue (is_found p)) (sym e) f

pub took : (k : TokenKind) (t : Text) (x : Place) {y : Place} → forth (Tok Operator k t) x ≡ y → IsTrue (is_found y) → Seen x k t
took k t x e f = seen k t x (found_at e f)

pub took_in : (m : Mode) (k : TokenKind) (t : Text) (x : Place) {y : Place} → is_op m ≡ true → forth (Tok m k t) x ≡ y → IsTrue (is_found y) → Seen x k t
took_in m k t x {y} o e f = took k t x (subst (λ m. forth (Tok m k t) x ≡ y) (op_is m o) e) f

pub same_seen : {x : Place} {k l : TokenKind} {t u : Text} → Seen x k t → Seen x l u → same_token k t l u ≡ true
same_seen {t = t} s r = and_both _ _ (eq-eqb _ _ (sym s.kind ∙ r.kind)) (subst (λ v. same t v ≡ true) (sym s.text ∙ r.text) (same_self t))

-- ---- a table over all kinds

pub every_nth : (p : Kind → Bool) (ks : List Kind) (n : ℕ) → p (nth [] 0) ≡ true → every p ks ≡ true → p (nth ks n) ≡ true
every_nth p [] n d e = d
every_nth p (k ∷ ks) zero d e = and_left _ _ e
every_nth p (k ∷ ks) (suc n) d e = every_nth p ks n d (and_right _ _ e)

pub for_kind : (p : Kind → Bool) → every p kinds ≡ true → (k : Kind) → IsTrue (scope k) → p k ≡ true
for_kind p e k s = subst (λ l. p l ≡ true) (listed k s) (every_nth p kinds (position k) (and_left _ _ e) e)
