-- The end of a file, and which file a search answers.
use Rattle.std.proofs.Common.{◌≡◌, ⊎_elim, true≢false, ◌&&◌, [], ◌∷◌, ℕ, ◌+◌, ◌-◌, ◌<◌, ◌≤◌, true, false, cond, nat_eq, nat_le, List, map, length, get_or, Some, None, ap, sym, ◌∙◌, subst, string_bytes, arith}
use Rattle.std.specs.Str.{chars}
use Rattle.std.specs.Option.{unwrap_or, is_none}
use Rattle.std.proofs.lemmas.Bool.{cases_Bool}
use Rattle.std.proofs.lemmas.Bool.Decides.{nat_tests}
use Rattle.std.proofs.lemmas.Str.{IsUtf8-string_bytes}
use Rattle.std.specs.declared.alloc.Global.{Global}
use Rattle.std.specs.declared.rc.Rc.{Rc}
use Rattle.jsx_base.specs.declared.source_file.SourceFile.{SourceFile}
use Rattle.jsx_base.specs.Files.{File, InOrder, end_of, holds, file_at, front_at}
use Rattle.jsx_base.specs.SpanPlaces.{low, high, also_with, begin_of, meets, merged_in}
use Rattle.jsx_base.specs.Lines.{size, line_of}
use Rattle.jsx_base.specs.declared.place.BytePos.{BytePos}
use Rattle.jsx_base.specs.declared.place.Span.{Span}
use Rattle.jsx_base.proofs.Between.{front_prefix}
use Rattle.jsx_base.proofs.LineParts.{size-append}
use Rattle.jsx_base.specs.SourceFile.{file_of, shared_file}
use Rattle.jsx_base.proofs.FirstLine.{size-chars}
use Rattle.jsx_base.proofs.FileAt.{find_file}

pub end_is : (it : SourceFile) → it.end_pos.0 ≡ end_of (file_of it)
end_is it = it.end ∙ ap (λ n. it.start_pos.0 + n) (sym (size-chars (string_bytes it.src) (IsUtf8-string_bytes it.src)))

pub le_true : (a b : ℕ) → a ≤ b → nat_le a b ≡ true
le_true a b order = grind (arith, nat_tests)

le_false : (a b : ℕ) → b < a → nat_le a b ≡ false
le_false a b order = grind (arith, nat_tests)

last_begun : (files : List (Rc SourceFile Global)) (pos begun : ℕ) (x : Rc SourceFile Global) → InOrder (map shared_file files) → 0 < begun → begun ≤ length files → ((k : ℕ) (d : Rc SourceFile Global) → k < begun → (shared_file (get_or files k d)).start ≤ pos) → ((k : ℕ) (d : Rc SourceFile Global) → begun ≤ k → k < length files → pos < (shared_file (get_or files k d)).start) → x ≡ get_or files (begun - 1) x → file_at (map shared_file files) pos ≡ cond (nat_le pos (end_of (shared_file x))) (Some (shared_file x)) None
last_begun files pos begun x ordered some bound until from is =
    find_file shared_file files pos (begun - 1) x ordered (omega arith) (λ k d below. until k d (omega (arith, below, some))) (λ k d above within. from k d (omega (arith, above, some)) within) is

pub file_found : (files : List (Rc SourceFile Global)) (pos begun : ℕ) (x : Rc SourceFile Global) → InOrder (map shared_file files) → 0 < begun → begun ≤ length files → ((k : ℕ) (d : Rc SourceFile Global) → k < begun → (shared_file (get_or files k d)).start ≤ pos) → ((k : ℕ) (d : Rc SourceFile Global) → begun ≤ k → k < length files → pos < (shared_file (get_or files k d)).start) → x ≡ get_or files (begun - 1) x → pos ≤ x.value.end_pos.0 → Some (shared_file x) ≡ file_at (map shared_file files) pos
file_found files pos begun x ordered some bound until from is inside =
    sym (last_begun files pos begun x ordered some bound until from is ∙ ap (λ b. cond b (Some (shared_file x)) None) (le_true pos (end_of (shared_file x)) (subst (λ n. pos ≤ n) (end_is x.value) inside)))

pub file_missed : (files : List (Rc SourceFile Global)) (pos begun : ℕ) (x : Rc SourceFile Global) → InOrder (map shared_file files) → 0 < begun → begun ≤ length files → ((k : ℕ) (d : Rc SourceFile Global) → k < begun → (shared_file (get_or files k d)).start ≤ pos) → ((k : ℕ) (d : Rc SourceFile Global) → begun ≤ k → k < length files → pos < (shared_file (get_or files k d)).start) → x ≡ get_or files (begun - 1) x → x.value.end_pos.0 < pos → None ≡ file_at (map shared_file files) pos
file_missed files pos begun x ordered some bound until from is outside =
    sym (last_begun files pos begun x ordered some bound until from is ∙ ap (λ b. cond b (Some (shared_file x)) None) (le_false pos (end_of (shared_file x)) (subst (λ n. n < pos) (end_is x.value) outside)))

held_later : (a e p l : ℕ) → (nat_le a p && nat_le p e) ≡ true → p ≤ l → l ≤ e → (nat_le a l && nat_le l e) ≡ true
held_later a e p l here order inside = grind (arith, nat_tests, here, order, inside)

past_end : (a e l : ℕ) → e < l → (nat_le a l && nat_le l e) ≡ false
past_end a e l outside = grind (arith, nat_tests, outside)

none_is_not_some : {X : Type 0} (x : X) → None ≡ Some x → ⊥
none_is_not_some x e = true≢false (ap is_none e)

-- the file that was found has the place
pub file_holds : (files : List File) (pos : ℕ) (file : File) → file_at files pos ≡ Some file → holds pos file ≡ true
file_holds [] pos file found = absurd (none_is_not_some file found)
file_holds (first ∷ files) pos file found =
    ⊎_elim
    (λ e. let same : first ≡ file = ap (λ o. unwrap_or o first) (sym (ap (λ b. cond b (Some first) (file_at files pos)) e) ∙ found) in subst (λ z. holds pos z ≡ true) same e)
    (λ e. file_holds files pos file (sym (ap (λ b. cond b (Some first) (file_at files pos)) e) ∙ found))
    (cases_Bool (holds pos first))

-- the file has a later place exactly if that isn't behind its end
pub also_held : (files : List File) (pos later : ℕ) (it : SourceFile) → file_at files pos ≡ Some (file_of it) → pos ≤ later → later ≤ it.end_pos.0 → Some (file_of it) ≡ also_with later (file_at files pos)
also_held files pos later it found order inside =
    let here = file_holds files pos (file_of it) found in
    let there : holds later (file_of it) ≡ true = held_later it.start_pos.0 (end_of (file_of it)) pos later here order (subst (λ n. later ≤ n) (end_is it) inside) in
    sym (ap (also_with later) found ∙ ap (λ b. cond b (Some (file_of it)) None) there)

pub not_held : (files : List File) (pos later : ℕ) (it : SourceFile) → file_at files pos ≡ Some (file_of it) → it.end_pos.0 < later → None ≡ also_with later (file_at files pos)
not_held files pos later it found outside =
    let there : holds later (file_of it) ≡ false = past_end it.start_pos.0 (end_of (file_of it)) later (subst (λ n. n < later) (end_is it) outside) in
    sym (ap (also_with later) found ∙ ap (λ b. cond b (Some (file_of it)) None) there)

-- a character begins before the file's end
pub before_end : (it : SourceFile) (pos : ℕ) → it.start_pos.0 + size (front_at (file_of it) pos) ≤ it.end_pos.0
before_end it pos =
    let text = chars (string_bytes it.src) in
    let p = front_prefix text (pos - it.start_pos.0) in
    let whole : size text ≡ size (front_at (file_of it) pos) + size p.0 = ap size p.1 ∙ size-append (front_at (file_of it) pos) p.0 in
    omega (arith, whole, end_is it)

meets_so : (a b c d : ℕ) → a ≡ b → c ≤ d → (nat_eq a b && nat_le c d) ≡ true
meets_so a b c d same order = grind (arith, nat_tests, same, order)

-- two spans that meet in a file are merged there
pub merge_some : (file : File) (left right : Span) (lo hi : BytePos) → holds (low right) file ≡ true → holds (high right) file ≡ true → line_of (front_at file (high left)) ≡ line_of (front_at file (low right)) → begin_of file (high left) ≤ begin_of file (low right) → lo.0 ≡ begin_of file (low left) → hi.0 ≡ begin_of file (high right) → Some (record { lo = lo; hi = hi }) ≡ merged_in left right (Some file)
merge_some file left right lo hi begins ends same order is-lo is-hi =
    let answer : Span = record { lo = record { 0 = begin_of file (low left) }; hi = record { 0 = begin_of file (high right) } } in
    let meet : meets left right file ≡ true = meets_so (line_of (front_at file (high left))) (line_of (front_at file (low right))) (begin_of file (high left)) (begin_of file (low right)) same order in
    ap (λ n. Some (record { lo = record { 0 = n }; hi = hi })) is-lo
    ∙ ap (λ n. Some (record { lo = record { 0 = begin_of file (low left) }; hi = record { 0 = n } })) is-hi
    ∙ sym (
    ap (λ b. cond (b && (holds (high right) file && meets left right file)) (Some answer) None) begins
    ∙ ap (λ b. cond (b && meets left right file) (Some answer) None) ends
    ∙ ap (λ b. cond b (Some answer) None) meet)
