-- Which of the kinds that are taken stand at a place: what a test finds of all of them holds of each.
use Rattle.std.proofs.Common.{◌≡◌, Bool, true, not}
use Rattle.std.specs.Prelude.{◌&&◌, ◌||◌}
use Rattle.jsx_tree.specs.Kinds.{Module, ExprStmt, Label, Seq, Spread, ParenTarget, Kind, program, statement, function, expression}
use Rattle.jsx_tree.specs.Nonterminals.{Nonterminal}
use Rattle.jsx_tree.proofs.Tokens.{and_left, and_right}
use Rattle.jsx_tree.proofs.Apart.{clash}
use Rattle.jsx_tree.proofs.Rows.Stopping.{is_not, or_cases}
use Rattle.jsx_token.proofs.Headings.{every_begun, of_begun}
use Rattle.jsx_token.proofs.Listed.{kinds, every, of_each}
use Rattle.jsx_token.proofs.Lives.{lives}
use Rattle.jsx_operand.proofs.Inners.{inner_kind, every_inner, of_inner}
use Rattle.jsx_operand.proofs.Homes.{Taken, module', headed, inner, evaluation, labelled, sequence, spread, aimed, operand}

abbrev pub every_taken : (Kind → Bool) → Bool
every_taken p = p (program Module) && (p (statement ExprStmt) && (p (statement Label) && (p (expression Seq) && (p (expression Spread) && (p (function ParenTarget) && (every_begun p && (every_inner (λ i. p (inner_kind i)) && every p kinds)))))))

pub of_taken : (p : Kind → Bool) → every_taken p ≡ true → (k : Kind) → Taken k → p k ≡ true
of_taken p a k t =
    let b = and_right (p (program Module)) _ a in
    let l = and_right (p (statement ExprStmt)) _ b in
    let c = and_right (p (statement Label)) _ l in
    let d = and_right (p (expression Seq)) _ c in
    let z = and_right (p (expression Spread)) _ d in
    let e = and_right (p (function ParenTarget)) _ z in
    let f = and_right (every_begun p) _ e in
    by t (and_left (p (program Module)) _ a) (and_left (p (statement ExprStmt)) _ b) (and_left (p (statement Label)) _ l) (and_left (p (expression Seq)) _ c) (and_left (p (expression Spread)) _ d) (and_left (p (function ParenTarget)) _ z) (and_left (every_begun p) _ e) (and_left (every_inner (λ i. p (inner_kind i))) _ f) (and_right (every_inner (λ i. p (inner_kind i))) _ f)
  where
    by : {l : Kind} → Taken l → p (program Module) ≡ true → p (statement ExprStmt) ≡ true → p (statement Label) ≡ true → p (expression Seq) ≡ true → p (expression Spread) ≡ true → p (function ParenTarget) ≡ true → every_begun p ≡ true → every_inner (λ i. p (inner_kind i)) ≡ true → every p kinds ≡ true → p l ≡ true
    by module' m s b q r a h i o = m
    by evaluation m s b q r a h i o = s
    by labelled m s b q r a h i o = b
    by sequence m s b q r a h i o = q
    by spread m s b q r a h i o = r
    by aimed m s b q r a h i o = a
    by (headed w) m s b q r a h i o = of_begun p h w
    by (inner g) m s b q r a h i o = of_inner (λ j. p (inner_kind j)) i g
    by {l} (operand w) m s b q r a h i o = of_each p o l w

-- what stands there passes the test
pub standing : (c : Nonterminal) (p : Kind → Bool) → every_taken (λ k. not (lives c k) || p k) ≡ true → (k : Kind) → Taken k → lives c k ≡ true → p k ≡ true
standing c p a k t h = or_cases (not (lives c k)) (p k) (of_taken (λ j. not (lives c j) || p j) a k t) (λ n. absurd (clash _ h (is_not _ n))) (λ e. e)
