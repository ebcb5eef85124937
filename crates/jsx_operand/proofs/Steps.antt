-- An error behind some symbols of a row.
use Rattle.std.proofs.Common.{◌≡◌, ℕ, suc, false, List, ◌∷◌, refl, sym, ◌∙◌, subst}
use Rattle.std.specs.Prelude.{Result, Err}
use Rattle.std.specs.Result.{IsErrAnd}
use Rattle.std.proofs.lemmas.Result.{err_from_is_err_and}
use Rattle.jsx_tree.specs.Grammar.{Context, Symbol}
use Rattle.jsx_tree.specs.Reading.{Place}
use Rattle.jsx_tree.specs.StaticRules.{Surroundings}
use Rattle.jsx_tree.specs.Walk.{Given, Piece, piece, steady}
use Rattle.jsx_tree.specs.Language.{Language}
use Rattle.jsx_tree.specs.Answers.{Only, Barred, NoRow}
use Rattle.jsx_tree.specs.Faults.{Fault, outer}
use Rattle.jsx_tree.proofs.Rows.Steps.{on, bar}
use Rattle.jsx_operand.specs.declared.error.ParseError.{ParseError}
use Rattle.jsx_operand.specs.declared.error.ParseError.TheVariants.{Syntax, TooDeep, Memory}
use Rattle.jsx_operand.specs.Answers.{Refused, PlainRefused, fault_of, is_want}

-- the error that `?` returns is the one that it was given
pub passed : {T U : Type 0} (answer : Result T ParseError) {n : ℕ} {x : ParseError} {A B : Fault → Type 0} → Refused {T = U} n (Err x) A → IsErrAnd answer (λ y. y ≡ x) → (A (fault_of n x) → B (fault_of n x)) → Refused n answer B
passed answer {n} {x} {A} {B} nope is f =
    let p = err_from_is_err_and answer is in
    record {
      bars = λ y e w.
          let same : y ≡ p.0 = cc in
          let all : y ≡ x = same ∙ p.2 in
          subst (λ z. B (fault_of n z)) (sym all) (f (nope.bars x refl (subst (λ z. is_want z ≡ false) all w)));
    }

fault_outer : (n : ℕ) (x : ParseError) → outer (fault_of n x) ≡ fault_of (suc n) x
fault_outer n (Syntax at) = refl
fault_outer n (TooDeep at) = refl
fault_outer n Memory = refl

-- the same from within a construct that counts
pub passed_in : {T U : Type 0} (answer : Result T ParseError) {m n : ℕ} {x : ParseError} {A B : Fault → Type 0} → suc n ≡ m → Refused {T = U} n (Err x) A → IsErrAnd answer (λ y. y ≡ x) → (A (fault_of n x) → B (outer (fault_of n x))) → Refused m answer B
passed_in answer {m} {n} {x} {A} {B} less nope is f =
    let p = err_from_is_err_and answer is in
    record {
      bars = λ y e w.
          let same : y ≡ p.0 = cc in
          let all : y ≡ x = same ∙ p.2 in
          subst (λ l. B (fault_of l y)) less (subst (λ z. B (fault_of (suc n) z)) (sym all) (subst B (fault_outer n x) (f (nope.bars x refl (subst (λ z. is_want z ≡ false) all w)))));
    }

-- and where the error is no question of depth
pub passed_plain : {T U : Type 0} (answer : Result T ParseError) {n : ℕ} {x : ParseError} {A : Type 0} {B : Fault → Type 0} → PlainRefused {T = U} (Err x) A → IsErrAnd answer (λ y. y ≡ x) → (A → B (fault_of n x)) → Refused n answer B
passed_plain answer {n} {x} {A} {B} nope is f =
    let p = err_from_is_err_and answer is in
    record {
      bars = λ y e w.
          let same : y ≡ p.0 = cc in
          let all : y ≡ x = same ∙ p.2 in
          subst (λ z. B (fault_of n z)) (sym all) (f (nope.bars x refl (subst (λ z. is_want z ≡ false) all w)));
    }

pub plainly : {T U : Type 0} (answer : Result T ParseError) {x : ParseError} {A B : Type 0} → PlainRefused {T = U} (Err x) A → IsErrAnd answer (λ y. y ≡ x) → (A → B) → PlainRefused answer B
plainly answer {x} nope is f =
    let p = err_from_is_err_and answer is in
    record {
      bars = λ y e w.
          let same : y ≡ p.0 = cc in
          let all : y ≡ x = same ∙ p.2 in
          f (nope.bars x refl (subst (λ z. is_want z ≡ false) all w));
    }

pub fails_1 : {T U : Type 0} (answer : Result T ParseError) (ps : List Piece) {n : ℕ} {e : ParseError} {L : Language} {v : Surroundings} {a1 : List Context} {p1 : Symbol} {x0 : Place}
    → Refused {T = U} n (Err e) (Barred L (steady v a1) p1 x0) → IsErrAnd answer (λ y. y ≡ e) → Refused n answer (NoRow L v (piece a1 p1 ∷ ps) x0)
fails_1 answer ps nope is = passed answer nope is (λ b. bar b)

pub fails_2 : {T U : Type 0} (answer : Result T ParseError) (ps : List Piece) {n : ℕ} {e : ParseError} {L : Language} {v : Surroundings} {a1 a2 : List Context} {p1 p2 : Symbol} {x0 x1 : Place} {g1 : Given}
    → Refused {T = U} n (Err e) (Barred L (steady v a2) p2 x1) → Only L (steady v a1) p1 x0 g1 x1 → IsErrAnd answer (λ y. y ≡ e) → Refused n answer (NoRow L v (piece a1 p1 ∷ piece a2 p2 ∷ ps) x0)
fails_2 answer ps nope q1 is = passed answer nope is (λ b. on q1 (bar b))

pub fails_3 : {T U : Type 0} (answer : Result T ParseError) (ps : List Piece) {n : ℕ} {e : ParseError} {L : Language} {v : Surroundings} {a1 a2 a3 : List Context} {p1 p2 p3 : Symbol} {x0 x1 x2 : Place} {g1 g2 : Given}
    → Refused {T = U} n (Err e) (Barred L (steady v a3) p3 x2) → Only L (steady v a1) p1 x0 g1 x1 → Only L (steady v a2) p2 x1 g2 x2 → IsErrAnd answer (λ y. y ≡ e) → Refused n answer (NoRow L v (piece a1 p1 ∷ piece a2 p2 ∷ piece a3 p3 ∷ ps) x0)
fails_3 answer ps nope q1 q2 is = passed answer nope is (λ b. on q1 (on q2 (bar b)))

pub fails_4 : {T U : Type 0} (answer : Result T ParseError) (ps : List Piece) {n : ℕ} {e : ParseError} {L : Language} {v : Surroundings} {a1 a2 a3 a4 : List Context} {p1 p2 p3 p4 : Symbol} {x0 x1 x2 x3 : Place} {g1 g2 g3 : Given}
    → Refused {T = U} n (Err e) (Barred L (steady v a4) p4 x3) → Only L (steady v a1) p1 x0 g1 x1 → Only L (steady v a2) p2 x1 g2 x2 → Only L (steady v a3) p3 x2 g3 x3 → IsErrAnd answer (λ y. y ≡ e) → Refused n answer (NoRow L v (piece a1 p1 ∷ piece a2 p2 ∷ piece a3 p3 ∷ piece a4 p4 ∷ ps) x0)
fails_4 answer ps nope q1 q2 q3 is = passed answer nope is (λ b. on q1 (on q2 (on q3 (bar b))))

pub fails_5 : {T U : Type 0} (answer : Result T ParseError) (ps : List Piece) {n : ℕ} {e : ParseError} {L : Language} {v : Surroundings} {a1 a2 a3 a4 a5 : List Context} {p1 p2 p3 p4 p5 : Symbol} {x0 x1 x2 x3 x4 : Place} {g1 g2 g3 g4 : Given}
    → Refused {T = U} n (Err e) (Barred L (steady v a5) p5 x4) → Only L (steady v a1) p1 x0 g1 x1 → Only L (steady v a2) p2 x1 g2 x2 → Only L (steady v a3) p3 x2 g3 x3 → Only L (steady v a4) p4 x3 g4 x4 → IsErrAnd answer (λ y. y ≡ e) → Refused n answer (NoRow L v (piece a1 p1 ∷ piece a2 p2 ∷ piece a3 p3 ∷ piece a4 p4 ∷ piece a5 p5 ∷ ps) x0)
fails_5 answer ps nope q1 q2 q3 q4 is = passed answer nope is (λ b. on q1 (on q2 (on q3 (on q4 (bar b)))))

pub ruleset steps = (fails_1, fails_2, fails_3, fails_4, fails_5)
