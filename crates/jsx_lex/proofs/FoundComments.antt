-- The comments that were found, and what stands from there on.
use Rattle.std.proofs.Common.{◌≡◌, ◌+◌, ◌-◌, ◌<◌, ◌≤◌, ℕ, List, [], ◌∷◌, ◌++◌, codes, length, map, sym, ap, ◌∙◌, subst, arith, length-append, append_assoc, append-nil}
use Rattle.std.specs.Prelude.{encode_utf8}
use Rattle.std.specs.Str.{chars, IsUtf8}
use Rattle.std.proofs.lemmas.List.{map-append}
use Rattle.std.proofs.lemmas.Str.{encodes-chars, length-encode, len_utf8_bounds}
use lib.Utf8.{encodes}
use Rattle.jsx_base.specs.Token.{skip}
use Rattle.jsx_base.specs.Comments.{CommentData, comment_data}
use Rattle.jsx_base.specs.declared.comments.Comment.{Comment}
use Rattle.jsx_base.specs.declared.comments.CommentKind.TheVariants as kind
use Rattle.jsx_lex.specs.Comments.{HasComments, over, blank, line, block, remark}
use Rattle.jsx_lex.specs.Gaps.{IsBehind}
use Rattle.jsx_lex.specs.Parts.{IsSpace, IsLine, IsBlock, More}
use Rattle.jsx_lex.specs.Places.{EndsWith, front_of}
use Rattle.jsx_lex.proofs.Endings.{ends_by}
use Rattle.jsx_lex.proofs.Gaps.{without_gap}

pub space_ends : (text rest : List ℕ) → IsSpace text rest → EndsWith text rest
space_ends text rest s = ends_by text (encode_utf8 s.c) rest s.bytes_are

pub line_ends : (text body rest : List ℕ) → IsLine text body rest → EndsWith text rest
line_ends text body rest s = ends_by text (codes "//" ++ body) rest (s.bytes_are ∙ sym (append_assoc (codes "//") body rest))

pub block_ends : (text body rest : List ℕ) → IsBlock text body rest → EndsWith text rest
block_ends text body rest s =
    ends_by text (codes "/*" ++ (body ++ codes "*/")) rest
    (s.bytes_are ∙ (ap (λ t. codes "/*" ++ t) (sym (append_assoc body (codes "*/") rest)) ∙ sym (append_assoc (codes "/*") (body ++ codes "*/") rest)))

pub space_shorter : (text rest : List ℕ) → IsSpace text rest → length rest < length text
space_shorter text rest s = let b = len_utf8_bounds s.c in omega (arith, ap length s.bytes_are, length-append (encode_utf8 s.c) rest, length-encode s.c)

space_length : (text rest : List ℕ) (s : IsSpace text rest) → length text ≡ length (encode_utf8 s.c) + length rest
space_length text rest s = ap length s.bytes_are ∙ length-append (encode_utf8 s.c) rest

line_length : (text body rest : List ℕ) → IsLine text body rest → length text ≡ (2 + length body) + length rest
line_length text body rest s =
    let e : length text ≡ length (codes "//" ++ (body ++ rest)) = ap length s.bytes_are in
    let f : length (codes "//" ++ (body ++ rest)) ≡ 2 + length (body ++ rest) = length-append (codes "//") (body ++ rest) in
    omega (arith, e, f, length-append body rest)

block_length : (text body rest : List ℕ) → IsBlock text body rest → length text ≡ (4 + length body) + length rest
block_length text body rest s =
    let e : length text ≡ length (codes "/*" ++ (body ++ (codes "*/" ++ rest))) = ap length s.bytes_are in
    let f : length (codes "/*" ++ (body ++ (codes "*/" ++ rest))) ≡ 2 + length (body ++ (codes "*/" ++ rest)) = length-append (codes "/*") (body ++ (codes "*/" ++ rest)) in
    let g : length (codes "*/" ++ rest) ≡ 2 + length rest = length-append (codes "*/") rest in
    omega (arith, e, f, g, length-append body (codes "*/" ++ rest))

place_is : (start t r b k : ℕ) → r ≤ t → r ≡ k + b → start + (t - b) ≡ (start + (t - r)) + k
place_is start t r b k h e = omega arith

pub more_space : (start t : ℕ) (text rest : List ℕ) (found : List CommentData) (begin : ℕ) (whole end : List ℕ) → length text ≤ t → IsSpace text rest → More (start + (t - length text)) text found begin whole end → More (start + (t - length rest)) rest found begin whole end
more_space start t text rest found begin whole end h s m = record {
  given = λ cs k.
      let at : ℕ = start + (t - length text) in
      let e : start + (t - length rest) ≡ at + length (encode_utf8 s.c) = place_is start t (length text) (length rest) (length (encode_utf8 s.c)) h (space_length text rest s) in
      m.given cs (subst (λ x. HasComments at x cs end) (sym s.bytes_are) (blank s.c rest s.is (subst (λ a. HasComments a rest cs end) e k)));
}

pub pushed : (items more : List Comment) (x : Comment) (d : CommentData) → more ≡ items ++ x ∷ [] → comment_data x ≡ d → map comment_data more ≡ map comment_data items ++ d ∷ []
pushed items more x d e f = ap (map comment_data) e ∙ (map-append comment_data items (x ∷ []) ∙ ap (λ y. map comment_data items ++ y ∷ []) f)

-- one comment more at the end of those that were found

grown : (begin : ℕ) (whole end : List ℕ) (found more : List CommentData) (d : CommentData) (cs : List CommentData) → more ≡ found ++ d ∷ [] → HasComments begin whole (found ++ d ∷ cs) end → HasComments begin whole (more ++ cs) end
grown begin whole end found more d cs e h = subst (λ x. HasComments begin whole x end) (sym (ap (λ x. x ++ cs) e ∙ append_assoc found (d ∷ []) cs)) h

pub more_line : (start t : ℕ) (text body rest : List ℕ) (found more : List CommentData) (lo hi begin : ℕ) (whole end : List ℕ) → length text ≤ t → IsLine text body rest → lo ≡ start + (t - length text) → hi ≡ start + (t - length rest) → more ≡ found ++ remark kind.Line lo hi body ∷ [] → More (start + (t - length text)) text found begin whole end → More (start + (t - length rest)) rest more begin whole end
more_line start t text body rest found more lo hi begin whole end h s el eh g m = record {
  given = λ cs k.
      let at : ℕ = start + (t - length text) in
      let e : start + (t - length rest) ≡ at + (2 + length body) = place_is start t (length text) (length rest) (2 + length body) h (line_length text body rest s) in
      let d : remark kind.Line lo hi body ≡ remark kind.Line at (at + (2 + length body)) body = ap (λ x. remark kind.Line x hi body) el ∙ ap (λ x. remark kind.Line at x body) (eh ∙ e) in
      grown begin whole end found more (remark kind.Line at (at + (2 + length body)) body) cs (g ∙ ap (λ x. found ++ x ∷ []) d)
      (m.given (remark kind.Line at (at + (2 + length body)) body ∷ cs)
      (subst (λ x. HasComments at x (remark kind.Line at (at + (2 + length body)) body ∷ cs) end) (sym s.bytes_are) (line body rest s.body_is (subst (λ a. HasComments a rest cs end) e k))));
}

pub more_block : (start t : ℕ) (text body rest : List ℕ) (found more : List CommentData) (lo hi begin : ℕ) (whole end : List ℕ) → length text ≤ t → IsBlock text body rest → lo ≡ start + (t - length text) → hi ≡ start + (t - length rest) → more ≡ found ++ remark kind.Block lo hi body ∷ [] → More (start + (t - length text)) text found begin whole end → More (start + (t - length rest)) rest more begin whole end
more_block start t text body rest found more lo hi begin whole end h s el eh g m = record {
  given = λ cs k.
      let at : ℕ = start + (t - length text) in
      let e : start + (t - length rest) ≡ at + (4 + length body) = place_is start t (length text) (length rest) (4 + length body) h (block_length text body rest s) in
      let d : remark kind.Block lo hi body ≡ remark kind.Block at (at + (4 + length body)) body = ap (λ x. remark kind.Block x hi body) el ∙ ap (λ x. remark kind.Block at x body) (eh ∙ e) in
      grown begin whole end found more (remark kind.Block at (at + (4 + length body)) body) cs (g ∙ ap (λ x. found ++ x ∷ []) d)
      (m.given (remark kind.Block at (at + (4 + length body)) body ∷ cs)
      (subst (λ x. HasComments at x (remark kind.Block at (at + (4 + length body)) body ∷ cs) end) (sym s.bytes_are) (block body rest s.body_is (subst (λ a. HasComments a rest cs end) e k))));
}

-- no comment more

pub none : (at : ℕ) (text end : List ℕ) (items : List Comment) → text ≡ end → items ≡ [] → HasComments at text (map comment_data items) end
none at text end items e f = subst (λ x. HasComments at text (map comment_data x) end) (sym f) (subst (λ x. HasComments at text [] x) e over)

same_bytes : (s t : List ℕ) → IsUtf8 s → IsUtf8 t → chars s ≡ chars t → s ≡ t
same_bytes s t u v e = sym (encodes-chars s u) ∙ (ap encodes e ∙ encodes-chars t v)

pub all_found : (at : ℕ) (text end : List ℕ) (found : List CommentData) (begin : ℕ) (whole : List ℕ) → IsUtf8 text → IsUtf8 end → IsBehind (chars text) → skip (chars text) ≡ chars end → More at text found begin whole end → HasComments begin whole found end
all_found at text end found begin whole u v b h m =
    let e : text ≡ end = same_bytes text end u v (sym (without_gap (chars text) b).rest_is ∙ h) in
    subst (λ x. HasComments begin whole x end) (append-nil found) (m.given [] (subst (λ x. HasComments at text [] x) e over))

pub ends_length : (s rest : List ℕ) → EndsWith s rest → length rest ≤ length s
ends_length s rest e = omega (arith, ap length e.is, length-append (front_of s rest) rest)
