-- Files in order.
use Rattle.std.proofs.Common.{◌≡◌, ℕ, ◌+◌, ◌<◌, length, arith, Bool, true, false, cond, List, [], ◌∷◌, ◌++◌, map, get_or, ap, sym, ◌∙◌, subst}
use Rattle.std.specs.List.{All}
use Rattle.std.specs.Str.{IsUtf8}
use Rattle.std.proofs.lemmas.List.Elements.{All-push}
use Rattle.std.proofs.lemmas.List.{map-append}
use Rattle.std.proofs.lemmas.List.Quantifiers.{all_pairs_push}
use Rattle.jsx_base.specs.FileName.{Name}
use Rattle.jsx_base.specs.Files.{File, InOrder, end_of}
use Rattle.jsx_base.specs.SourceFile.{file_from}
use Rattle.jsx_base.proofs.FirstLine.{size-chars}

-- one file more, behind those that there are
pub in_order_more : {X : Type 0} (f : X → File) (xs ys : List X) (x : X) (start : ℕ) → InOrder (map f xs) → All (λ file. end_of file < start) (map f xs) → (f x).start ≡ start → ys ≡ xs ++ x ∷ [] → InOrder (map f ys)
in_order_more f xs ys x start ordered after begins are =
    let grown : map f ys ≡ map f xs ++ f x ∷ [] = ap (map f) are ∙ map-append f xs (x ∷ []) in
    subst InOrder (sym grown) (all_pairs_push (λ file later. end_of file < later.start) (map f xs) (f x) ordered (λ k d within. subst (λ n. end_of (get_or (map f xs) k d) < n) (sym begins) (after k d within)))

-- the same where one more may have been wanted for memory
pub in_order_kept : {X : Type 0} (f : X → File) (xs ys : List X) (x : X) (start : ℕ) (b : Bool) → InOrder (map f xs) → All (λ file. end_of file < start) (map f xs) → (f x).start ≡ start → ys ≡ cond b (xs ++ x ∷ []) xs → InOrder (map f ys)
in_order_kept f xs ys x start true ordered after begins are = in_order_more f xs ys x start ordered after begins are
in_order_kept f xs ys x start false ordered after begins are = subst (λ zs. InOrder (map f zs)) (sym are) ordered

-- every file ends before the next free place, the one that was added among them
pub before_next : (files more : List File) (name : Name) (src : List ℕ) (start next : ℕ) (file : File) → IsUtf8 src → All (λ it. end_of it < start) files → file ≡ file_from name src start → more ≡ files ++ file ∷ [] → next ≡ start + length src + 1 → All (λ it. end_of it < next) more
before_next files more name src start next file utf8 before is are moved =
    let last : end_of file ≡ start + length src = ap end_of is ∙ ap (λ n. start + n) (size-chars src utf8) in
    subst (All (λ it. end_of it < next)) (sym are)
    (All-push (λ it. end_of it < next) files file (λ k d within. let h = before k d within in omega (arith, h, moved)) (omega (arith, last, moved)))
