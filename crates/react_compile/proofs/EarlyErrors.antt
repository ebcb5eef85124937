-- Early errors on names, as errors of the compiler.
use Rattle.std.proofs.Common.{◌≡◌, ◌⊎◌, ℕ, List, [], ◌∷◌, refl, sym, ap, ◌∙◌, subst, inl, inr, Option, Some, None}
use Rattle.std.specs.Prelude.{Result, Ok, Err, IsOkUnless, ⊤}
use Rattle.std.specs.Result.{IsErrAnd}
use Rattle.std.specs.Str.{IsUtf8, chars}
use Rattle.std.proofs.lemmas.Result.{err_from_is_err_and}
use Rattle.jsx_base.specs.Token.{Text}
use Rattle.jsx_tree.specs.declared.text.Goal.{Goal}
use Rattle.jsx_tree.specs.declared.program.Program.{Program}
use Rattle.jsx_tree.specs.Kinds.{Tree}
use Rattle.jsx_tree.specs.Normal.{without_parentheses}
use Rattle.jsx_tree.specs.Clashes.{Place, first_clash, direct_evals}
use Rattle.jsx_tree.specs.Scopes.{Path}
use Rattle.jsx_tree.specs.Spans.{placed_in}
use Rattle.jsx_tree.proofs.OneTree.Whole.{one_tree}
use Rattle.jsx_operand.specs.declared.error.ParseError.{ParseError}
use Rattle.jsx_operand.specs.declared.error.ParseError.TheVariants as parse
use Rattle.jsx_syntax.specs.Parsed.{IsParsed}
use Rattle.jsx_heard.specs.Bytes.{byte_at, byte_of}
use Rattle.jsx_heard.specs.Early.{IsClean}
use Rattle.jsx_scope.specs.Early.{IsReadAs, Says}
use Rattle.jsx_scope.specs.declared.early_errors.ScopeError.{ScopeError}
use Rattle.jsx_scope.specs.declared.early_errors.ScopeError.TheVariants as scope
use Rattle.react_compile.specs.declared.compiler.CompileError.{CompileError}
use Rattle.react_compile.specs.declared.compiler.CompileError.TheVariants.{NotUtf8, Syntax, TooDeep, Scope, DirectEval, Memory}
use Rattle.react_compile.specs.Compiles.{IsSource}
use Rattle.react_compile.specs.Names.{HasClash, HasDirectEval}
use Rattle.react_compile.specs.ParseErrors.{compile_error, error_on_names, IsNotUtf8}

-- a program that was read is one of which it can be said whether it has such errors
pub is_read : {goal : Goal} {from levels : ℕ} {text : Text} {program : Program} (p : IsParsed goal from text levels program) → IsReadAs goal from text p.written program
is_read p = record { reads = p.reads.reads; bare = p.bare; placed = p.placed }

-- ---- one text has one tree, so it has one first error

same_tree : (goal : Goal) (bytes : List ℕ) (t u : Tree) → IsSource goal bytes t → IsSource goal bytes u → t ≡ u
same_tree goal bytes t u r s = one_tree goal (chars bytes) t u r.reads.reads s.reads.reads

no_place : {A : Type 0} (place : Place) (o : Option Place) → o ≡ Some place → o ≡ None → A
no_place place o some none = let k : Some place ≡ None = sym some ∙ none in absurd (cc)

no_path : {A : Type 0} (path : Path) (others ps : List Path) → ps ≡ path ∷ others → ps ≡ [] → A
no_path path others ps some none = let k : path ∷ others ≡ [] = sym some ∙ none in absurd (cc)

one_place : (a b : Place) (o : Option Place) → o ≡ Some a → o ≡ Some b → a ≡ b
one_place a b o some same = let k : Some a ≡ Some b = sym some ∙ same in cc

one_path : (a b : Path) (as' bs ps : List Path) → ps ≡ a ∷ as' → ps ≡ b ∷ bs → a ≡ b
one_path a b as' bs ps some same = let k : a ∷ as' ≡ b ∷ bs = sym some ∙ same in cc

pub no_clash : (goal : Goal) (bytes : List ℕ) (levels at : ℕ) (tree : Tree) → HasClash goal bytes levels at → IsSource goal bytes tree → IsClean (without_parentheses tree) → ⊥
no_clash goal bytes levels at tree h source names =
    let same = same_tree goal bytes h.tree tree h.is_source source in
    no_place h.clash.place (first_clash (without_parentheses tree)) (subst (λ t. first_clash (without_parentheses t) ≡ Some h.clash.place) same h.clash.first) names.clean

pub no_direct_eval : (goal : Goal) (bytes : List ℕ) (levels at : ℕ) (tree : Tree) → HasDirectEval goal bytes levels at → IsSource goal bytes tree → IsClean (without_parentheses tree) → ⊥
no_direct_eval goal bytes levels at tree h source names =
    let same = same_tree goal bytes h.tree tree h.is_source source in
    no_path h.call.path h.call.others (direct_evals (without_parentheses tree)) (subst (λ t. direct_evals (without_parentheses t) ≡ h.call.path ∷ h.call.others) same h.call.calls) names.uncalled

one_clash : (goal : Goal) (bytes : List ℕ) (levels m n : ℕ) → HasClash goal bytes levels m → HasClash goal bytes levels n → m ≡ n
one_clash goal bytes levels m n h k =
    let same = same_tree goal bytes h.tree k.tree h.is_source k.is_source in
    let place = one_place h.clash.place k.clash.place (first_clash (without_parentheses k.tree)) (subst (λ t. first_clash (without_parentheses t) ≡ Some h.clash.place) same h.clash.first) k.clash.first in
    h.clash.at ∙ subst (λ t. byte_of h.clash.place (placed_in 0 (chars bytes) h.tree) ≡ byte_of h.clash.place (placed_in 0 (chars bytes) t)) same refl
    ∙ subst (λ a. byte_of h.clash.place (placed_in 0 (chars bytes) k.tree) ≡ byte_of a (placed_in 0 (chars bytes) k.tree)) place refl ∙ sym k.clash.at

one_call : (goal : Goal) (bytes : List ℕ) (levels m n : ℕ) → HasDirectEval goal bytes levels m → HasDirectEval goal bytes levels n → m ≡ n
one_call goal bytes levels m n h k =
    let same = same_tree goal bytes h.tree k.tree h.is_source k.is_source in
    let path = one_path h.call.path k.call.path h.call.others k.call.others (direct_evals (without_parentheses k.tree)) (subst (λ t. direct_evals (without_parentheses t) ≡ h.call.path ∷ h.call.others) same h.call.calls) k.call.calls in
    h.call.at ∙ subst (λ t. byte_at h.call.path (placed_in 0 (chars bytes) h.tree) ≡ byte_at h.call.path (placed_in 0 (chars bytes) t)) same refl
    ∙ subst (λ a. byte_at h.call.path (placed_in 0 (chars bytes) k.tree) ≡ byte_at a (placed_in 0 (chars bytes) k.tree)) path refl ∙ sym k.call.at

clash_or_call : {A : Type 0} (goal : Goal) (bytes : List ℕ) (levels m n : ℕ) → HasClash goal bytes levels m → HasDirectEval goal bytes levels n → A
clash_or_call goal bytes levels m n h k =
    let same = same_tree goal bytes h.tree k.tree h.is_source k.is_source in
    no_place h.clash.place (first_clash (without_parentheses k.tree)) (subst (λ t. first_clash (without_parentheses t) ≡ Some h.clash.place) same h.clash.first) k.call.clean

-- ---- what an error of `early` says of the source of the program

abbrev pub Finds : Goal → List ℕ → ℕ → CompileError → Type 0
Finds goal bytes levels (Scope at) = HasClash goal bytes levels at
Finds goal bytes levels (DirectEval at) = HasDirectEval goal bytes levels at
Finds goal bytes levels Memory = ⊤
Finds goal bytes levels e = ⊥

found_in : (goal : Goal) (bytes : List ℕ) (levels : ℕ) (program : Program) (e : ScopeError) → IsUtf8 bytes → (p : IsParsed goal 0 (chars bytes) levels program)
    → Says (without_parentheses p.written) (placed_in 0 (chars bytes) p.written) (Err e) → Finds goal bytes levels (error_on_names e)
found_in goal bytes levels program (scope.Scope b) u p says = record { tree = p.written; is_source = record { utf8 = u; reads = p.reads }; shallow = p.shallow; clash = says }
found_in goal bytes levels program (scope.DirectEval b) u p says = record { tree = p.written; is_source = record { utf8 = u; reads = p.reads }; shallow = p.shallow; call = says }
found_in goal bytes levels program scope.Memory u p says = tt

-- the error that the exit of a `?` returns
pub record Found {U : Type 0} (r : Result U CompileError) (goal : Goal) (bytes : List ℕ) (levels : ℕ) : Type 0 where
  pub error : CompileError
  pub is : r ≡ Err error
  pub finds : Finds goal bytes levels error

pub found : {U : Type 0} {program : Program} (goal : Goal) (levels : ℕ) (r : Result U CompileError) (e : ScopeError) (text bytes : List ℕ) → text ≡ bytes → IsUtf8 bytes → (p : IsParsed goal 0 (chars text) levels program)
    → Says (without_parentheses p.written) (placed_in 0 (chars text) p.written) (Err e) → IsErrAnd r (λ y. y ≡ error_on_names e) → Found r goal bytes levels
found {program = program} goal levels r e text bytes whole u p says is =
    let q = err_from_is_err_and r is in
    record {
      error = q.0;
      is = q.1;
      finds = subst (λ x. Finds goal bytes levels x) (sym q.2)
          (subst (λ xs. (p : IsParsed goal 0 (chars xs) levels program) → Says (without_parentheses p.written) (placed_in 0 (chars xs) p.written) (Err e) → Finds goal bytes levels (error_on_names e))
          (sym whole) (λ p says. found_in goal bytes levels program e u p says) p says);
    }

its_error : {U : Type 0} (r : Result U CompileError) (e f : CompileError) → r ≡ Err e → r ≡ Err f → e ≡ f
its_error r e f is same = let k : Err e ≡ Err f = sym is ∙ same in cc

-- so it is the error that is found, and no other
pub that_error : {U : Type 0} (goal : Goal) (bytes : List ℕ) (levels : ℕ) (r : Result U CompileError) (e : CompileError) → Found r goal bytes levels → r ≡ Err e → Finds goal bytes levels e
that_error goal bytes levels r e f same = subst (λ x. Finds goal bytes levels x) (its_error r f.error e f.is same) f.finds

-- a clash is said, and a direct call where there is none, unless memory is short

pub clash_said : {U : Type 0} (goal : Goal) (bytes : List ℕ) (levels at : ℕ) (r : Result U CompileError) → Found r goal bytes levels → HasClash goal bytes levels at → (r ≡ Err (Scope at)) ⊎ (r ≡ Err Memory)
clash_said goal bytes levels at r f h = by f.error f.is f.finds
  where
    by : (e : CompileError) → r ≡ Err e → Finds goal bytes levels e → (r ≡ Err (Scope at)) ⊎ (r ≡ Err Memory)
    by (Scope m) is k = inl (subst (λ n. r ≡ Err (Scope n)) (one_clash goal bytes levels m at k h) is)
    by (DirectEval m) is k = clash_or_call goal bytes levels at m h k
    by Memory is k = inr is
    by (NotUtf8 m) is k = absurd k
    by (Syntax m) is k = absurd k
    by (TooDeep m) is k = absurd k

pub call_said : {U : Type 0} (goal : Goal) (bytes : List ℕ) (levels at : ℕ) (r : Result U CompileError) → Found r goal bytes levels → HasDirectEval goal bytes levels at → (r ≡ Err (DirectEval at)) ⊎ (r ≡ Err Memory)
call_said goal bytes levels at r f h = by f.error f.is f.finds
  where
    by : (e : CompileError) → r ≡ Err e → Finds goal bytes levels e → (r ≡ Err (DirectEval at)) ⊎ (r ≡ Err Memory)
    by (Scope m) is k = clash_or_call goal bytes levels m at k h
    by (DirectEval m) is k = inl (subst (λ n. r ≡ Err (DirectEval n)) (one_call goal bytes levels m at k h) is)
    by Memory is k = inr is
    by (NotUtf8 m) is k = absurd k
    by (Syntax m) is k = absurd k
    by (TooDeep m) is k = absurd k

-- of a clean source it is want of memory
pub clean_said : {U : Type 0} (goal : Goal) (bytes : List ℕ) (levels : ℕ) (r : Result U CompileError) (tree : Tree) → Found r goal bytes levels → IsSource goal bytes tree → IsClean (without_parentheses tree) → IsOkUnless r Memory
clean_said goal bytes levels r tree f source names = subst (λ x. IsOkUnless x Memory) (sym f.is) (by f.error f.finds)
  where
    by : (e : CompileError) → Finds goal bytes levels e → e ≡ Memory
    by (Scope m) k = absurd (no_clash goal bytes levels m tree k source names)
    by (DirectEval m) k = absurd (no_direct_eval goal bytes levels m tree k source names)
    by Memory k = refl
    by (NotUtf8 m) k = absurd k
    by (Syntax m) k = absurd k
    by (TooDeep m) k = absurd k

-- ---- other errors

abbrev pub IsOnNames : CompileError → Type 0
IsOnNames (Scope at) = ⊤
IsOnNames (DirectEval at) = ⊤
IsOnNames e = ⊥

parsed_no : (e : ParseError) → IsOnNames (compile_error e) → ⊥
parsed_no (parse.Syntax p) h = h
parsed_no (parse.TooDeep p) h = h
parsed_no parse.Memory h = h

-- no error of the parser is one on names
pub parsed_no_name : {A U : Type 0} (r : Result U CompileError) (e : ParseError) (f : CompileError) → IsErrAnd r (λ y. y ≡ compile_error e) → r ≡ Err f → IsOnNames f → A
parsed_no_name r e f is same h = let q = err_from_is_err_and r is in absurd (parsed_no e (subst IsOnNames (its_error r f q.0 same q.1 ∙ q.2) h))

text_no : (e : CompileError) (bytes : List ℕ) → IsNotUtf8 bytes e → IsOnNames e → ⊥
text_no (NotUtf8 n) bytes v h = h
text_no (Syntax at) bytes v h = v
text_no (TooDeep at) bytes v h = v
text_no (Scope at) bytes v h = v
text_no (DirectEval at) bytes v h = v
text_no Memory bytes v h = v

-- nor is that of bytes that aren't UTF-8
pub text_no_name : {A U : Type 0} (r : Result U CompileError) (e : CompileError) (bytes : List ℕ) (f : CompileError) → IsNotUtf8 bytes e → IsErrAnd r (λ y. y ≡ e) → r ≡ Err f → IsOnNames f → A
text_no_name r e bytes f v is same h = let q = err_from_is_err_and r is in absurd (text_no e bytes v (subst IsOnNames (its_error r f q.0 same q.1 ∙ q.2) h))

-- an error where there can be none but want of memory
pub short : {U : Type 0} (r : Result U CompileError) (P : CompileError → Type 0) → IsErrAnd r P → IsOkUnless r Memory → r ≡ Err Memory
short (Ok x) P is k = absurd is
short (Err e) P is k = ap Err k
