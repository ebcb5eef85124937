-- The one walk by rank and opening is the walk by the productions, on sound programs.
use Rattle.std.proofs.Common.{◌≡◌, ℕ, [], Bool, true, false, refl, ap, sym, ◌∙◌, arith}
use Rattle.std.proofs.Math.Bool.{or-false}
use Rattle.std.proofs.lemmas.Bool.{true≢false, false≢true, and_from, or_left}
use Rattle.std.proofs.lemmas.Bool.Decides.{nat_tests}
use Rattle.std.specs.Prelude.{not, ◌&&◌, ◌||◌, nat_le, nat_lt, nat_eq}
use Rattle.jsx_base.specs.Token.{Text, TokenKind, IdentifierName, NumericLiteral, BigIntLiteral, StringLiteral, RegExpLiteral, JsxName}
use Rattle.jsx_tree.specs.Kinds.{Kind, node, Forest}
use Rattle.jsx_tree.specs.Nonterminals.{Nonterminal, Expr, MemberObject, DotObject, NullishLeft, NewCallee, Argument, ArrayItem, ForInit, leaf_in}
use Rattle.jsx_tree.specs.Parentheses.{asks, wants}
use Rattle.jsx_scope.specs.Places.{place_at}
use Rattle.jsx_scope.specs.Walk.{low}
use Rattle.jsx_scope.proofs.Levels.{kind_rank, expr_kind, laid_kind, is_new, shaped_new, laid_admits, laid_expr, laid_rank, fails_level, fails_object, fails_dot, fails_nullish, fails_argument, fails_item, fails_init}

-- ---- leaves

abbrev pub at_17 : Nonterminal → Bool
at_17 (Expr n) = nat_le n 17
at_17 c = true

up_to_18 : (n : ℕ) → nat_le n 17 ≡ true → nat_le n 18 ≡ true
up_to_18 n h = grind (arith, nat_tests)

-- an expression that is a leaf stands at each place
pub leaf_home : (c : Nonterminal) (s : TokenKind) (x : Text) → asks c ≡ true → at_17 c ≡ true → leaf_in (Expr 0) s x ≡ true → leaf_in c s x ≡ true
leaf_home (Expr n) IdentifierName x a l h = and_from (nat_le n 18) _ (up_to_18 n l) h
leaf_home (Expr n) JsxName x a l h = absurd (false≢true h)
leaf_home (Expr n) StringLiteral x a l h = or_left (nat_le n 18) false (up_to_18 n l)
leaf_home (Expr n) NumericLiteral x a l h = or_left (nat_le n 18) false (up_to_18 n l)
leaf_home (Expr n) BigIntLiteral x a l h = or_left (nat_le n 18) false (up_to_18 n l)
leaf_home (Expr n) RegExpLiteral x a l h = or_left (nat_le n 18) false (up_to_18 n l)
leaf_home (Expr n) s x a l h = absurd (false≢true h)
leaf_home MemberObject IdentifierName x a l h = h
leaf_home MemberObject JsxName x a l h = absurd (false≢true h)
leaf_home MemberObject StringLiteral x a l h = refl
leaf_home MemberObject NumericLiteral x a l h = refl
leaf_home MemberObject BigIntLiteral x a l h = refl
leaf_home MemberObject RegExpLiteral x a l h = refl
leaf_home MemberObject s x a l h = absurd (false≢true h)
leaf_home NullishLeft IdentifierName x a l h = h
leaf_home NullishLeft JsxName x a l h = absurd (false≢true h)
leaf_home NullishLeft StringLiteral x a l h = refl
leaf_home NullishLeft NumericLiteral x a l h = refl
leaf_home NullishLeft BigIntLiteral x a l h = refl
leaf_home NullishLeft RegExpLiteral x a l h = refl
leaf_home NullishLeft s x a l h = absurd (false≢true h)
leaf_home NewCallee IdentifierName x a l h = h
leaf_home NewCallee JsxName x a l h = absurd (false≢true h)
leaf_home NewCallee StringLiteral x a l h = refl
leaf_home NewCallee NumericLiteral x a l h = refl
leaf_home NewCallee BigIntLiteral x a l h = refl
leaf_home NewCallee RegExpLiteral x a l h = refl
leaf_home NewCallee s x a l h = absurd (false≢true h)
leaf_home DotObject IdentifierName x a l h = h
leaf_home DotObject JsxName x a l h = absurd (false≢true h)
leaf_home DotObject StringLiteral x a l h = refl
leaf_home DotObject NumericLiteral x a l h = refl
leaf_home DotObject BigIntLiteral x a l h = refl
leaf_home DotObject RegExpLiteral x a l h = refl
leaf_home DotObject s x a l h = absurd (false≢true h)
leaf_home Argument IdentifierName x a l h = h
leaf_home Argument JsxName x a l h = absurd (false≢true h)
leaf_home Argument StringLiteral x a l h = refl
leaf_home Argument NumericLiteral x a l h = refl
leaf_home Argument BigIntLiteral x a l h = refl
leaf_home Argument RegExpLiteral x a l h = refl
leaf_home Argument s x a l h = absurd (false≢true h)
leaf_home ArrayItem IdentifierName x a l h = h
leaf_home ArrayItem JsxName x a l h = absurd (false≢true h)
leaf_home ArrayItem StringLiteral x a l h = refl
leaf_home ArrayItem NumericLiteral x a l h = refl
leaf_home ArrayItem BigIntLiteral x a l h = refl
leaf_home ArrayItem RegExpLiteral x a l h = refl
leaf_home ArrayItem s x a l h = absurd (false≢true h)
leaf_home ForInit IdentifierName x a l h = h
leaf_home ForInit JsxName x a l h = absurd (false≢true h)
leaf_home ForInit StringLiteral x a l h = refl
leaf_home ForInit NumericLiteral x a l h = refl
leaf_home ForInit BigIntLiteral x a l h = refl
leaf_home ForInit RegExpLiteral x a l h = refl
leaf_home ForInit s x a l h = absurd (false≢true h)
leaf_home c s x a l h = absurd (false≢true a)

pub not_19 : (n : ℕ) → nat_le n 17 ≡ true → nat_lt 19 n ≡ false
not_19 n h = grind (arith, nat_tests)

pub not_0 : (r : ℕ) → nat_lt r 0 ≡ false
not_0 r = grind (arith, nat_tests)

pub and_no : (v w : Bool) → w ≡ false → (v && w) ≡ false
and_no true w h = h
and_no false w h = refl

-- ---- nodes

-- by how tightly a node binds, where nothing may not come first
abbrev Wanted : Nonterminal → Kind → Forest → Type 0
Wanted c k cs = wants c [] (node k cs) ≡ (expr_kind k && low (place_at c []) (kind_rank k))

by_table : (v w : Bool) (k : Kind) → expr_kind (laid_kind k) ≡ expr_kind k → (expr_kind (laid_kind k) && not v) ≡ (expr_kind (laid_kind k) && w) → (expr_kind k && (not v || false)) ≡ (expr_kind k && w)
by_table v w k e h = ap (λ x. expr_kind k && x) (or-false (not v)) ∙ (ap (λ x. x && not v) (sym e) ∙ (h ∙ ap (λ x. x && w) e))

pub wanted_node : (c : Nonterminal) (k : Kind) (cs : Forest) → asks c ≡ true → at_17 c ≡ true → is_new c ≡ false → shaped_new k cs ≡ true → Wanted c k cs
wanted_node (Expr n) k cs a l m h =
    ap (λ v. expr_kind k && (not v || false)) (laid_admits (Expr n) k cs refl h)
    ∙ by_table _ (nat_lt (kind_rank k) n) k (laid_expr k) (fails_level n (laid_kind k) l ∙ ap (λ r. expr_kind (laid_kind k) && nat_lt r n) (laid_rank k))
wanted_node MemberObject k cs a l m h =
    ap (λ v. expr_kind k && (not v || false)) (laid_admits MemberObject k cs refl h)
    ∙ by_table _ (nat_lt (kind_rank k) 18) k (laid_expr k) (fails_object k ∙ ap (λ r. expr_kind (laid_kind k) && nat_lt r 18) (laid_rank k))
wanted_node DotObject k cs a l m h =
    ap (λ v. expr_kind k && (not v || false)) (laid_admits DotObject k cs refl h)
    ∙ by_table _ (nat_lt (kind_rank k) 18) k (laid_expr k) (fails_dot k ∙ ap (λ r. expr_kind (laid_kind k) && nat_lt r 18) (laid_rank k))
wanted_node NullishLeft k cs a l m h =
    ap (λ v. expr_kind k && (not v || false)) (laid_admits NullishLeft k cs refl h)
    ∙ by_table _ (nat_lt (kind_rank k) 6 && not (nat_eq (kind_rank k) 3)) k (laid_expr k) (fails_nullish k ∙ ap (λ r. expr_kind (laid_kind k) && (nat_lt r 6 && not (nat_eq r 3))) (laid_rank k))
wanted_node Argument k cs a l m h =
    ap (λ v. expr_kind k && (not v || false)) (laid_admits Argument k cs refl h)
    ∙ by_table _ (nat_lt (kind_rank k) 1) k (laid_expr k) (fails_argument k ∙ ap (λ r. expr_kind (laid_kind k) && nat_lt r 1) (laid_rank k))
wanted_node ArrayItem k cs a l m h =
    ap (λ v. expr_kind k && (not v || false)) (laid_admits ArrayItem k cs refl h)
    ∙ by_table _ (nat_lt (kind_rank k) 1) k (laid_expr k) (fails_item k ∙ ap (λ r. expr_kind (laid_kind k) && nat_lt r 1) (laid_rank k))
wanted_node ForInit k cs a l m h =
    ap (λ v. expr_kind k && (not v || false)) (laid_admits ForInit k cs refl h)
    ∙ by_table _ (nat_lt (kind_rank k) 0) k (laid_expr k) (fails_init k ∙ sym (and_no (expr_kind (laid_kind k)) (nat_lt (kind_rank k) 0) (not_0 (kind_rank k))))
wanted_node NewCallee k cs a l m h = absurd (true≢false m)
wanted_node c k cs a l m h = absurd (false≢true a)
