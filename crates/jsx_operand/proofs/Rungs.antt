-- Where an expression is read that is no sequence: what may stand at a level, and behind `new`, where no call stands outside of parentheses.
use Rattle.std.proofs.Common.{◌≡◌, ℕ, nat_le, Bool, true, false, not, refl, ap, ◌∙◌}
use Rattle.std.specs.Prelude.{◌&&◌, ◌||◌}
use Rattle.jsx_base.specs.Token.{Text, TokenKind, NumericLiteral, BigIntLiteral, StringLiteral, RegExpLiteral}
use Rattle.jsx_tree.specs.Kinds.{Kind, Tree, leaf, node, list, Forest, part}
use Rattle.jsx_tree.specs.Nonterminals.{Expr, NewCallee, homes, in_homes, literal_homes, leaf_in}
use Rattle.jsx_tree.specs.Grammar.{production}
use Rattle.jsx_tree.specs.Form.{admits, calls, first_calls, fits_below, leads, spine_calls}
use Rattle.jsx_tree.specs.Grows.{is_operand}
use Rattle.jsx_tree.specs.StaticRules.{Surroundings}
use Rattle.jsx_tree.specs.Reading.{Place}
use Rattle.jsx_tree.proofs.Tokens.{and_left, and_right, and_both}
use Rattle.jsx_tree.proofs.Rows.Stopping.{is_not}
use Rattle.jsx_token.specs.Stage.{leaf_at, value_leaf}
use Rattle.jsx_token.specs.Growths.{Rung, rung, callee, is_rung, least, level_of_kind, reaches, seat}
use Rattle.jsx_token.proofs.Listed.{Listed, kinds, every, of_each, of_level, agree, agreed}
use Rattle.jsx_token.proofs.Levels.{grows_on, is_template}
use Rattle.jsx_token.proofs.Lives.{is_single}
use Rattle.jsx_operand.specs.SoFar.{Staged}
use Rattle.jsx_operand.specs.Climbing.{rises}
use Rattle.jsx_operand.proofs.Homes.{Literal, IsName, IsNumber, IsLong, IsString, IsPattern, token_kind, no_list}

halves : (a b : Bool) → (a || b) ≡ false → (a ≡ false) × (b ≡ false)
halves true b e = cc
halves false b e = (refl, e)

second : (a b : Bool) → a ≡ true → (a && b) ≡ false → b ≡ false
second true b e f = f
second false b e f = cc

and_false : (a : Bool) → (a && false) ≡ false
and_false true = refl
and_false false = refl

-- ---- the places

pub rung_operand : (r : Rung) → is_operand (seat r) ≡ true
rung_operand (rung n) = refl
rung_operand callee = refl

pub rung_single : (r : Rung) → is_rung r ≡ true → is_single (seat r) ≡ true
rung_single (rung n) h = of_level (λ m. is_single (Expr m)) refl {n = n} h
rung_single callee h = refl

-- what may stand there may stand at its least level
pub least_home : (r : Rung) (k : Kind) → in_homes (seat r) (homes k) ≡ true → in_homes (Expr (least r)) (homes k) ≡ true
least_home (rung n) k h = h
least_home callee k h = h

-- ---- leaves

literal_low : (n : ℕ) (l : Literal) (t : Text) → is_rung (rung n) ≡ true → value_leaf (token_kind l) t ≡ true → leaf_in (Expr n) (token_kind l) t ≡ true
literal_low n IsName t h w = and_both _ _ (of_level (λ m. nat_le m 18) refl {n = n} h) w
literal_low n IsNumber t h w = of_level (λ m. in_homes (Expr m) (literal_homes NumericLiteral)) refl {n = n} h
literal_low n IsLong t h w = of_level (λ m. in_homes (Expr m) (literal_homes BigIntLiteral)) refl {n = n} h
literal_low n IsString t h w = of_level (λ m. in_homes (Expr m) (literal_homes StringLiteral)) refl {n = n} h
literal_low n IsPattern t h w = of_level (λ m. in_homes (Expr m) (literal_homes RegExpLiteral)) refl {n = n} h

literal_called : (l : Literal) (t : Text) → value_leaf (token_kind l) t ≡ true → leaf_in NewCallee (token_kind l) t ≡ true
literal_called IsName t w = w
literal_called IsNumber t w = refl
literal_called IsLong t w = refl
literal_called IsString t w = refl
literal_called IsPattern t w = refl

pub literal_seat : (r : Rung) (l : Literal) (t : Text) → is_rung r ≡ true → value_leaf (token_kind l) t ≡ true → leaf_in (seat r) (token_kind l) t ≡ true
literal_seat (rung n) l t h w = literal_low n l t h w
literal_seat callee l t h w = literal_called l t w

pub leaf_seat : (r : Rung) (k : TokenKind) (t : Text) → value_leaf k t ≡ true → leaf_at (seat r) k t ≡ true
leaf_seat (rung n) k t w = w
leaf_seat callee k t w = w

pub rises_leaf : (r : Rung) (k : TokenKind) (t : Text) → is_rung r ≡ true → rises r (leaf k t) ≡ true
rises_leaf (rung n) k t h = of_level (λ m. nat_le m 18) refl {n = n} h
rises_leaf callee k t h = refl

pub least_top : (r : Rung) → is_rung r ≡ true → nat_le (least r) 18 ≡ true
least_top (rung n) h = of_level (λ m. nat_le m 18) refl {n = n} h
least_top callee h = refl

-- ---- nodes

pub rises_node : (r : Rung) (k : Kind) (ts : Forest) → rises r (node k ts) ≡ reaches r k
rises_node (rung n) k ts = refl
rises_node callee k ts = refl

-- whether no call stands at its left end, where `new` stands before
abbrev pub clear : Rung → Tree → Bool
clear (rung n) t = true
clear callee t = not (spine_calls t)

pub seat_admits : (r : Rung) (k : Kind) (ts : Forest) → in_homes (seat r) (homes k) ≡ true → clear r (node k ts) ≡ true → admits (seat r) (node k ts) ≡ true
seat_admits (rung n) k ts h c = h
seat_admits callee k ts h c = and_both _ _ h c

admits_clear : (r : Rung) (k : Kind) (ts : Forest) → admits (seat r) (node k ts) ≡ true → clear r (node k ts) ≡ true
admits_clear (rung n) k ts a = refl
admits_clear callee k ts a = and_right (in_homes NewCallee (homes k)) _ a

clear_leaf : (r : Rung) (k : TokenKind) (t : Text) → clear r (leaf k t) ≡ true
clear_leaf (rung n) k t = refl
clear_leaf callee k t = refl

pub staged_clear : {v : Surroundings} (r : Rung) {x y : Place} (t : Tree) → Staged v false (seat r) x t y → clear r t ≡ true
staged_clear r (leaf k t) q = clear_leaf r k t
staged_clear r (node k ts) q = admits_clear r k ts (and_left (admits (seat r) (node k ts)) (fits_below (seat r) (node k ts)) q.reads.is)
staged_clear r (list ts) q = absurd (no_list q)

pub reaches_level : (r : Rung) (k : Kind) → reaches r k ≡ true → nat_le (least r) (level_of_kind k) ≡ true
reaches_level (rung n) k h = h
reaches_level callee k h = and_left (nat_le 17 (level_of_kind k)) _ h

pub level_reaches : (r : Rung) (k : Kind) (ts : Forest) → nat_le (least r) (level_of_kind k) ≡ true → clear r (node k ts) ≡ true → reaches r k ≡ true
level_reaches (rung n) k ts e c = e
level_reaches callee k ts e c = and_both _ _ e (ap not (halves (calls k) _ (is_not _ c)).0)

-- what a row begins with is all that counts; of a template that is no part in the definition

abbrev pub leads_on : Kind → Bool
leads_on k = grows_on k && not (is_template k)

abbrev led : Kind → Bool
led k = agree (leads_on k) (leads (production k))

all_led : every led kinds ≡ true
all_led = refl

pub leads_as : (k : Kind) → Listed k → leads_on k ≡ leads (production k)
leads_as k m = agreed (leads_on k) (leads (production k)) (of_each led all_led k m)

pub clear_left : (r : Rung) (k : Kind) (t : Tree) (ts : Forest) → leads (production k) ≡ true → clear r (node k (part t ts)) ≡ true → clear r t ≡ true
clear_left (rung n) k t ts l c = refl
clear_left callee k t ts l c = ap not (second (leads (production k)) (spine_calls t) l (halves (calls k) _ (is_not _ c)).1)

pub clear_node : (r : Rung) (k : Kind) (t : Tree) (ts : Forest) → reaches r k ≡ true → clear r t ≡ true → clear r (node k (part t ts)) ≡ true
clear_node (rung n) k t ts h c = refl
clear_node callee k t ts h c =
    let a : calls k ≡ false = is_not _ (and_right (nat_le 17 (level_of_kind k)) _ h) in
    let b : spine_calls t ≡ false = is_not _ c in
    (λ i. not (a i || (leads (production k) && b i))) ∙ ap not (and_false (leads (production k)))

pub clear_first : (r : Rung) (k : Kind) (ts : Forest) → leads (production k) ≡ false → reaches r k ≡ true → clear r (node k ts) ≡ true
clear_first (rung n) k ts l h = refl
clear_first callee k ts l h =
    let a : calls k ≡ false = is_not _ (and_right (nat_le 17 (level_of_kind k)) _ h) in (λ i. not (a i || (l i && first_calls ts)))
