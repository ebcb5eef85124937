-- One character more of a front.
use Rattle.std.proofs.Common.{◌≡◌, ⊎_elim, ℕ, ◌+◌, ◌-◌, ◌<◌, ◌≤◌, cond, List, [], ◌∷◌, ◌++◌, length, ap, ◌∙◌, arith, length-append}
use Rattle.std.specs.List.{sum_by}
use Rattle.std.specs.Str.{IsUtf8, chars}
use Rattle.std.specs.Char.{len_utf8, encode_utf8}
use Rattle.std.proofs.lemmas.Bool.Decides.{leb_tells}
use Rattle.std.proofs.lemmas.Str.{chars_past_char, length-encode, len_utf8_bounds, IsUtf8-past_char}
use Rattle.std.proofs.lemmas.List.Sums.{sum_by-cons}
use Rattle.jsx_base.specs.Lines.{front, size, columns_of}
use Rattle.jsx_base.specs.Columns.{BeginsWith}
use Rattle.jsx_base.proofs.LineParts.{size-cons}

pub front_fits : (c : ℕ) (text : List ℕ) (n : ℕ) → len_utf8 c ≤ n → front (c ∷ text) n ≡ c ∷ front text (n - len_utf8 c)
front_fits c text n fits =
    ⊎_elim
    (λ e. ap (λ b. cond b (c ∷ front text (n - len_utf8 c)) []) e.0)
    (λ e. absurd (omega (arith, fits, e.1)))
    (leb_tells (len_utf8 c) n)

pub front_full : (c : ℕ) (text : List ℕ) (n : ℕ) → n < len_utf8 c → front (c ∷ text) n ≡ []
front_full c text n full =
    ⊎_elim
    (λ e. absurd (omega (arith, full, e.1)))
    (λ e. ap (λ b. cond b (c ∷ front text (n - len_utf8 c)) []) e.0)
    (leb_tells (len_utf8 c) n)

pub begins_with : (bs more : List ℕ) (left c : ℕ) → IsUtf8 bs → bs ≡ encode_utf8 c ++ more → len_utf8 c ≤ left → BeginsWith bs left c more
begins_with bs more left c utf8 is fits =
    let bounds = len_utf8_bounds c in record {
      fits = fits;
      front_is = ap (λ text. front text left) (chars_past_char bs more c utf8 is) ∙ front_fits c (chars more) left fits;
      shorter = omega (arith, ap length is, length-append (encode_utf8 c) more, length-encode c, bounds.0);
      more_text = IsUtf8-past_char bs more c utf8 is;
    }

pub none_whole : (bs more : List ℕ) (left c : ℕ) → IsUtf8 bs → bs ≡ encode_utf8 c ++ more → left < len_utf8 c → front (chars bs) left ≡ []
none_whole bs more left c utf8 is full =
    ap (λ text. front text left) (chars_past_char bs more c utf8 is) ∙ front_full c (chars more) left full

pub count_more : (bs more : List ℕ) (left c n all : ℕ) → BeginsWith bs left c more → all ≡ n + length (front (chars bs) left) → all ≡ n + 1 + length (front (chars more) (left - len_utf8 c))
count_more bs more left c n all begins is = omega (arith, is, ap length begins.front_is)

pub columns_more : (bs more : List ℕ) (left c n all w : ℕ) → BeginsWith bs left c more → w ≡ columns_of c → all ≡ n + sum_by columns_of (front (chars bs) left) → all ≡ n + w + sum_by columns_of (front (chars more) (left - len_utf8 c))
columns_more bs more left c n all w begins width is =
    omega (arith, is, width, ap (sum_by columns_of) begins.front_is, sum_by-cons columns_of c (front (chars more) (left - len_utf8 c)))

pub bytes_more : (bs more : List ℕ) (left c n all : ℕ) → BeginsWith bs left c more → all ≡ n + size (front (chars bs) left) → all ≡ n + len_utf8 c + size (front (chars more) (left - len_utf8 c))
bytes_more bs more left c n all begins is =
    omega (arith, is, ap size begins.front_is, size-cons c (front (chars more) (left - len_utf8 c)))
