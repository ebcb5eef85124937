-- Errors of the parser, and of bytes that aren't UTF-8, as errors of the compiler.
use Rattle.std.proofs.Common.{◌≡◌, ◌<◌, ◌≤◌, ℕ, Bool, true, false, List, length, refl, sym, ap, ◌∙◌, subst}
use Rattle.std.specs.Prelude.{Result, Ok, Err, IsOkUnless, nat_le}
use Rattle.std.specs.Result.{IsErrAnd, IsOk, MatchResult}
use Rattle.std.specs.Str.{IsUtf8, IsValidUpTo, chars}
use Rattle.std.proofs.Math.Seq.{take-length}
use Rattle.std.proofs.lemmas.Str.{utf8_valid_len-IsValidUpTo}
use Rattle.std.proofs.lemmas.Result.{err_from_is_err_and}
use Rattle.std.proofs.lemmas.Bool.{leb-true, leb-false}
use Rattle.jsx_tree.specs.declared.text.Goal.{Goal}
use Rattle.jsx_tree.specs.Kinds.{Tree}
use Rattle.jsx_tree.specs.Depth.{depth}
use Rattle.jsx_operand.specs.Answers.{Refused, NoTree}
use Rattle.jsx_operand.specs.declared.error.ParseError.{ParseError}
use Rattle.jsx_operand.specs.declared.error.ParseError.TheVariants as parse
use Rattle.react_compile.specs.declared.compiler.CompileError.{CompileError}
use Rattle.react_compile.specs.declared.compiler.CompileError.TheVariants.{NotUtf8, Syntax, TooDeep, Scope, DirectEval, Memory}
use Rattle.react_compile.specs.Compiles.{IsSource}
use Rattle.react_compile.specs.ParseErrors.{compile_error, IsNotUtf8}

none_reads : {goal : Goal} {T : Type 0} {n : ℕ} (e : ParseError) (bytes : List ℕ) → Refused {T = T} n (Err e) (NoTree goal (chars bytes)) → (at : ℕ) → compile_error e ≡ Syntax at → (tree : Tree) → IsSource goal bytes tree → ⊥
none_reads (parse.Syntax p) bytes nope at is tree source = (nope.bars (parse.Syntax p) refl refl).no tree source.reads tt
none_reads (parse.TooDeep p) bytes nope at is tree source = cc
none_reads parse.Memory bytes nope at is tree source = cc

pub refused_by : {goal : Goal} {T U : Type 0} {n : ℕ} (r : Result U CompileError) (e : ParseError) (text bytes : List ℕ) → text ≡ bytes → Refused {T = T} n (Err e) (NoTree goal (chars text)) → IsErrAnd r (λ y. y ≡ compile_error e)
    → (at : ℕ) → r ≡ Err (Syntax at) → (tree : Tree) → IsSource goal bytes tree → ⊥
refused_by {goal} r e text bytes whole nope is at same tree source =
    let p = err_from_is_err_and r is in
    none_reads e text nope at (let k : p.0 ≡ Syntax at = cc in sym p.2 ∙ k) tree (subst (λ xs. IsSource goal xs tree) (sym whole) source)

-- what isn't within so many levels is deeper
above : (d n : ℕ) → (d ≤ n → ⊥) → n < d
above d n not_within = by (nat_le d n) refl
  where
    by : (b : Bool) → nat_le d n ≡ b → n < d
    by true e = absurd (not_within (leb-true d n e))
    by false e = leb-false d n e

deep_reads : {goal : Goal} {T : Type 0} {n : ℕ} (e : ParseError) (bytes : List ℕ) → Refused {T = T} n (Err e) (NoTree goal (chars bytes)) → (at : ℕ) → compile_error e ≡ TooDeep at → (tree : Tree) → IsSource goal bytes tree → n < depth tree
deep_reads (parse.Syntax p) bytes nope at is tree source = cc
deep_reads {n = n} (parse.TooDeep p) bytes nope at is tree source = above (depth tree) n ((nope.bars (parse.TooDeep p) refl refl).no tree source.reads)
deep_reads parse.Memory bytes nope at is tree source = cc

pub deep_by : {goal : Goal} {T U : Type 0} {n : ℕ} (r : Result U CompileError) (e : ParseError) (text bytes : List ℕ) → text ≡ bytes → Refused {T = T} n (Err e) (NoTree goal (chars text)) → IsErrAnd r (λ y. y ≡ compile_error e)
    → (at : ℕ) → r ≡ Err (TooDeep at) → (tree : Tree) → IsSource goal bytes tree → n < depth tree
deep_by {goal} r e text bytes whole nope is at same tree source =
    let p = err_from_is_err_and r is in
    deep_reads e text nope at (let k : p.0 ≡ TooDeep at = cc in sym p.2 ∙ k) tree (subst (λ xs. IsSource goal xs tree) (sym whole) source)

unless : {goal : Goal} {T : Type 0} {n : ℕ} (e : ParseError) (bytes : List ℕ) → Refused {T = T} n (Err e) (NoTree goal (chars bytes)) → (tree : Tree) → IsSource goal bytes tree → depth tree ≤ n → compile_error e ≡ Memory
unless (parse.Syntax p) bytes nope tree source low = absurd ((nope.bars (parse.Syntax p) refl refl).no tree source.reads tt)
unless (parse.TooDeep p) bytes nope tree source low = absurd ((nope.bars (parse.TooDeep p) refl refl).no tree source.reads low)
unless parse.Memory bytes nope tree source low = refl

pub complete_by : {goal : Goal} {T U : Type 0} {n : ℕ} (r : Result U CompileError) (e : ParseError) (text bytes : List ℕ) → text ≡ bytes → Refused {T = T} n (Err e) (NoTree goal (chars text)) → IsErrAnd r (λ y. y ≡ compile_error e)
    → (tree : Tree) → IsSource goal bytes tree → depth tree ≤ n → IsOkUnless r Memory
complete_by {goal} r e text bytes whole nope is tree source low =
    let p = err_from_is_err_and r is in
    subst (λ x. IsOkUnless x Memory) (sym p.1) (p.2 ∙ unless e text nope tree (subst (λ xs. IsSource goal xs tree) (sym whole) source) low)

parsed : (e : ParseError) (n : ℕ) → compile_error e ≡ NotUtf8 n → ⊥
parsed (parse.Syntax p) n is = cc
parsed (parse.TooDeep p) n is = cc
parsed parse.Memory n is = cc

-- an error of the parser doesn't say that the bytes aren't UTF-8
pub parsed_by : {U : Type 0} (r : Result U CompileError) (e : ParseError) → IsErrAnd r (λ y. y ≡ compile_error e) → (n : ℕ) → r ≡ Err (NotUtf8 n) → ⊥
parsed_by r e is n same = let p = err_from_is_err_and r is in parsed e n (let k : p.0 ≡ NotUtf8 n = cc in sym p.2 ∙ k)

-- ---- bytes that aren't UTF-8

-- what is UTF-8 has no longest front that is shorter
pub no_front : (bytes : List ℕ) (n : ℕ) → IsUtf8 bytes → IsValidUpTo bytes n → ⊥
no_front bytes n u v = v.longest (length bytes) v.short (subst IsUtf8 (sym (take-length bytes)) u)

same_front : (bytes : List ℕ) (m n : ℕ) → IsValidUpTo bytes m → IsValidUpTo bytes n → m ≡ n
same_front bytes m n v w = sym (utf8_valid_len-IsValidUpTo bytes m v) ∙ utf8_valid_len-IsValidUpTo bytes n w

-- what such an error is
pub record Broken (bytes : List ℕ) (e : CompileError) : Type 0 where
  pub at : ℕ
  pub is : e ≡ NotUtf8 at
  pub valid : IsValidUpTo bytes at

broken : (e : CompileError) (bytes : List ℕ) → IsNotUtf8 bytes e → Broken bytes e
broken (NotUtf8 n) bytes v = record { at = n; is = refl; valid = v }
broken (Syntax at) bytes v = absurd v
broken (TooDeep at) bytes v = absurd v
broken (Scope at) bytes v = absurd v
broken (DirectEval at) bytes v = absurd v
broken Memory bytes v = absurd v

-- the same of what the exit of a `?` returns
pub record Told {U : Type 0} (r : Result U CompileError) (bytes : List ℕ) : Type 0 where
  pub at : ℕ
  pub is : r ≡ Err (NotUtf8 at)
  pub valid : IsValidUpTo bytes at

told : {U : Type 0} (r : Result U CompileError) (e : CompileError) (bytes : List ℕ) → IsNotUtf8 bytes e → IsErrAnd r (λ y. y ≡ e) → Told r bytes
told r e bytes v is =
    let p = err_from_is_err_and r is in
    let b = broken e bytes v in
    record { at = b.at; is = p.1 ∙ ap Err (p.2 ∙ b.is); valid = b.valid }

pub told_not_utf8 : {U : Type 0} (r : Result U CompileError) (e : CompileError) (bytes : List ℕ) → IsNotUtf8 bytes e → IsErrAnd r (λ y. y ≡ e) → (n : ℕ) → r ≡ Err (NotUtf8 n) → IsValidUpTo bytes n
told_not_utf8 r e bytes v is n same =
    let t = told r e bytes v is in
    let k : t.at ≡ n = cc in
    subst (λ m. IsValidUpTo bytes m) k t.valid

pub told_up_to : {U : Type 0} (r : Result U CompileError) (e : CompileError) (bytes : List ℕ) → IsNotUtf8 bytes e → IsErrAnd r (λ y. y ≡ e) → (n : ℕ) → IsValidUpTo bytes n → r ≡ Err (NotUtf8 n)
told_up_to r e bytes v is n w =
    let t = told r e bytes v is in
    t.is ∙ ap (λ m. Err (NotUtf8 m)) (same_front bytes t.at n t.valid w)

pub told_no_syntax : {A U : Type 0} (r : Result U CompileError) (e : CompileError) (bytes : List ℕ) → IsNotUtf8 bytes e → IsErrAnd r (λ y. y ≡ e) → (at : ℕ) → r ≡ Err (Syntax at) → A
told_no_syntax r e bytes v is at same =
    let t = told r e bytes v is in
    let k : r ≡ Err (NotUtf8 t.at) = t.is in
    absurd (cc)

pub told_no_depth : {A U : Type 0} (r : Result U CompileError) (e : CompileError) (bytes : List ℕ) → IsNotUtf8 bytes e → IsErrAnd r (λ y. y ≡ e) → (at : ℕ) → r ≡ Err (TooDeep at) → A
told_no_depth r e bytes v is at same =
    let t = told r e bytes v is in
    let k : r ≡ Err (NotUtf8 t.at) = t.is in
    absurd (cc)

pub told_no_source : {goal : Goal} {U : Type 0} (r : Result U CompileError) (e : CompileError) (bytes : List ℕ) → IsNotUtf8 bytes e → IsErrAnd r (λ y. y ≡ e) → (tree : Tree) → IsSource goal bytes tree → IsOkUnless r Memory
told_no_source r e bytes v is tree source = let t = told r e bytes v is in absurd (no_front bytes t.at source.utf8 t.valid)

-- the question whether bytes are UTF-8 is answered well where they are
pub is_text : {T E A : Type 0} (P : T → Type 0) (Q : E → Type 0) (r : Result T E) → A → MatchResult r P (λ e. (A → ⊥) × Q e) → IsOk r
is_text P Q (Ok x) a m = refl
is_text P Q (Err e) a m = absurd (m.0 a)
