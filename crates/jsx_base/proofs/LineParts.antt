-- A text as its lines, and a front of it.
use Rattle.std.proofs.Common.{◌≡◌, ⊎_elim, ℕ, zero, suc, ◌+◌, ◌-◌, ◌<◌, ◌≤◌, cond, nat_eq, nat_le, List, [], ◌∷◌, ◌++◌, length, take, get_or, Some, refl, ap, sym, ◌∙◌, subst, arith, append_assoc, length-append}
use Rattle.std.specs.Prelude.{slice_get}
use Rattle.std.specs.Str.{NonePass, encode_utf8_all}
use Rattle.std.specs.Char.{len_utf8, encode_utf8}
use Rattle.std.proofs.lemmas.Bool.Decides.{eqb_tells, leb_tells}
use Rattle.std.proofs.lemmas.Str.{encodes-append, length-encode}
use Rattle.std.proofs.lemmas.List.{append-nil}
use Rattle.jsx_base.specs.Lines.{lines, before_first, last_line, size, front}
use Rattle.jsx_base.specs.LineStarts.{starts}

abbrev pub NoEnd : List ℕ → Type 0
NoEnd line = NonePass (λ c. nat_eq c 10) line

abbrev pub AllNoEnd : List (List ℕ) → Type 0
AllNoEnd [] = Unit {0}
AllNoEnd (line ∷ more) = NoEnd line × AllNoEnd more

-- the text of a line and those behind it
abbrev pub text_of : List ℕ → List (List ℕ) → List ℕ
text_of line [] = line
text_of line (next ∷ more) = line ++ 10 ∷ text_of next more

text_of-cons : (c : ℕ) (line : List ℕ) (more : List (List ℕ)) → text_of (c ∷ line) more ≡ c ∷ text_of line more
text_of-cons c line [] = refl
text_of-cons c line (next ∷ more) = refl

pub lines_single : (line : List ℕ) → NoEnd line → lines line ≡ line ∷ []
lines_single [] ok = refl
lines_single (c ∷ line) ok =
    ap (λ b. cond b ([] ∷ lines line) (before_first c (lines line))) ok.0 ∙ ap (before_first c) (lines_single line ok.1)

pub lines_first : (line rest : List ℕ) → NoEnd line → lines (line ++ 10 ∷ rest) ≡ line ∷ lines rest
lines_first [] rest ok = refl
lines_first (c ∷ line) rest ok =
    ap (λ b. cond b ([] ∷ lines (line ++ 10 ∷ rest)) (before_first c (lines (line ++ 10 ∷ rest)))) ok.0
    ∙ ap (before_first c) (lines_first line rest ok.1)

-- the first line of a text, the others, and that they are its lines
pub record Parts (text : List ℕ) : Type 0 where
  pub line : List ℕ
  pub more : List (List ℕ)
  pub are : lines text ≡ line ∷ more
  pub ok : NoEnd line × AllNoEnd more
  pub back : text ≡ text_of line more

pub parts : (text : List ℕ) → Parts text
parts [] = record { line = []; more = []; are = refl; ok = (tt, tt); back = refl }
parts (c ∷ text) =
    let p = parts text in
    ⊎_elim
    (λ e. record {
      line = [];
      more = p.line ∷ p.more;
      are = ap (λ b. cond b ([] ∷ lines text) (before_first c (lines text))) e.0 ∙ ap (λ z. [] ∷ z) p.are;
      ok = (tt, (p.ok.0, p.ok.1));
      back = ap (λ z. z ∷ text) e.1 ∙ ap (λ z. 10 ∷ z) p.back;
    })
    (λ e. record {
      line = c ∷ p.line;
      more = p.more;
      are = ap (λ b. cond b ([] ∷ lines text) (before_first c (lines text))) e.0 ∙ ap (before_first c) p.are;
      ok = ((e.0, p.ok.0), p.ok.1);
      back = ap (λ z. c ∷ z) p.back ∙ sym (text_of-cons c p.line p.more);
    })
    (eqb_tells c 10)

pub size-append : (xs ys : List ℕ) → size (xs ++ ys) ≡ size xs + size ys
size-append xs ys = ap length (encodes-append xs ys) ∙ length-append (encode_utf8_all xs) (encode_utf8_all ys)

pub size-cons : (c : ℕ) (xs : List ℕ) → size (c ∷ xs) ≡ len_utf8 c + size xs
size-cons c xs = size-append (c ∷ []) xs ∙ ap (λ n. n + size xs) (ap length (append-nil (encode_utf8 c)) ∙ length-encode c)

size_ended : (line rest : List ℕ) → size (line ++ 10 ∷ rest) ≡ size line + 1 + size rest
size_ended line rest = omega (arith, size-append line (10 ∷ rest), size-cons 10 rest)

-- a text is cut where line j of it begins
pub record Cut (at j : ℕ) (first : List ℕ) (others : List (List ℕ)) : Type 0 where
  pub before : List ℕ
  pub line : List ℕ
  pub more : List (List ℕ)
  pub text : text_of first others ≡ before ++ text_of line more
  pub start : get_or (starts at (first ∷ others)) j 0 ≡ at + size before
  pub here : slice_get (first ∷ others) j ≡ Some line
  pub fronts : (x : List ℕ) → NoEnd x → lines (before ++ x) ≡ take j (first ∷ others) ++ x ∷ []
  pub ok : NoEnd line × AllNoEnd more
  pub last : length (first ∷ others) ≡ j + 1 + length more
  pub next : 0 < length more → get_or (starts at (first ∷ others)) (suc j) 0 ≡ at + size before + size line + 1

next_start : (at : ℕ) (first : List ℕ) (others : List (List ℕ)) → 0 < length others → get_or (starts at (first ∷ others)) 1 0 ≡ at + size first + 1
next_start at first [] some = absurd (omega arith)
next_start at first (next ∷ more) some = refl

pub cut : (at j : ℕ) (first : List ℕ) (others : List (List ℕ)) → NoEnd first × AllNoEnd others → j < length (first ∷ others) → Cut at j first others
cut at zero first others ok within = record {
  before = [];
  line = first;
  more = others;
  text = refl;
  start = omega arith;
  here = refl;
  fronts = λ x n. lines_single x n;
  ok = ok;
  last = omega arith;
  next = λ some. next_start at first others some ∙ omega arith;
}
cut at (suc j) first [] ok within = absurd (omega arith)
cut at (suc j) first (next ∷ more) ok within =
    let c = cut (at + size first + 1) j next more ok.1 (omega arith) in
    let grown : size (first ++ 10 ∷ c.before) ≡ size first + 1 + size c.before = size_ended first c.before in record {
      before = first ++ 10 ∷ c.before;
      line = c.line;
      more = c.more;
      text = ap (λ z. first ++ 10 ∷ z) c.text ∙ sym (append_assoc first (10 ∷ c.before) (text_of c.line c.more));
      start = c.start ∙ omega (arith, grown);
      here = c.here;
      fronts = λ x n.
          ap lines (append_assoc first (10 ∷ c.before) x)
          ∙ lines_first first (c.before ++ x) ok.0
          ∙ ap (λ z. first ∷ z) (c.fronts x n);
      ok = c.ok;
      last = omega (arith, c.last);
      next = λ some. c.next some ∙ omega (arith, grown);
    }

-- ---- fronts

pub front_append : (xs ys : List ℕ) (n : ℕ) → size xs ≤ n → front (xs ++ ys) n ≡ xs ++ front ys (n - size xs)
front_append [] ys n fits = ap (front ys) (omega arith)
front_append (c ∷ xs) ys n fits =
    let grown = size-cons c xs in
    ⊎_elim
    (λ e.
    ap (λ b. cond b (c ∷ front (xs ++ ys) (n - len_utf8 c)) []) e.0
    ∙ ap (λ z. c ∷ z) (front_append xs ys (n - len_utf8 c) (omega (arith, grown)))
    ∙ ap (λ k. c ∷ (xs ++ front ys k)) (omega (arith, grown)))
    (λ e. absurd (omega (arith, grown, e.1)))
    (leb_tells (len_utf8 c) n)

-- a front that ends in a line, before what follows its end
pub front_stops : (line rest : List ℕ) (n : ℕ) → n < size line + 1 → front (line ++ 10 ∷ rest) n ≡ front line n
front_stops [] rest n short = ap (λ k. front (10 ∷ rest) k) (let e : n ≡ 0 = omega arith in e)
front_stops (c ∷ line) rest n short =
    let grown = size-cons c line in
    ⊎_elim
    (λ e. ap (λ z. cond (nat_le (len_utf8 c) n) (c ∷ z) []) (front_stops line rest (n - len_utf8 c) (omega (arith, grown, e.1))))
    (λ e.
    ap (λ b. cond b (c ∷ front (line ++ 10 ∷ rest) (n - len_utf8 c)) []) e.0
    ∙ ap (λ b. cond b (c ∷ front line (n - len_utf8 c)) []) (sym e.0))
    (leb_tells (len_utf8 c) n)

pub front_NoEnd : (line : List ℕ) (n : ℕ) → NoEnd line → NoEnd (front line n)
front_NoEnd [] n ok = tt
front_NoEnd (c ∷ line) n ok =
    ⊎_elim
    (λ e. subst (λ b. NoEnd (cond b (c ∷ front line (n - len_utf8 c)) [])) (sym e.0) (ok.0, front_NoEnd line (n - len_utf8 c) ok.1))
    (λ e. subst (λ b. NoEnd (cond b (c ∷ front line (n - len_utf8 c)) [])) (sym e.0) tt)
    (leb_tells (len_utf8 c) n)

pub last_line_of : (some : List (List ℕ)) (line : List ℕ) → last_line (some ++ line ∷ []) ≡ line
last_line_of [] line = refl
last_line_of (first ∷ []) line = refl
last_line_of (first ∷ next ∷ more) line = last_line_of (next ∷ more) line
