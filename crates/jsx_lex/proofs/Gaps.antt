-- Over a gap, character by character.
use Rattle.std.proofs.Common.{◌≡◌, ℕ, [], ◌∷◌, Bool, true, false, cond, not, ◌&&◌, ◌||◌, codes, sym, refl, ap, ◌∙◌, subst, arith}
use Rattle.std.specs.Prelude.{nat_eq, nat_le, ◌≤◌}
use Rattle.std.proofs.lemmas.Bool.{false≢true, ne_eqb, lt-leb}
use Rattle.jsx_base.specs.Token.{Text, Gap, Blank, InLineComment, Opening, InBlockComment, Closing, BehindGap, gap_next, gap_after_blank, is_over, behind_gap, is_cut, breaks_in, skip, is_line_end, is_blank, begins, first_is}
use Rattle.jsx_lex.specs.Gaps.{Leads, IsBehind}

-- a character further
pub goes : (g h : Gap) (c : ℕ) (whole text : Text) → whole ≡ c ∷ text → gap_next g c text ≡ h → is_over h ≡ false → Leads g whole h text (is_line_end c)
goes g h c whole text e k n =
    let m : is_over (gap_next g c text) ≡ false = subst (λ x. is_over x ≡ false) (sym k) n in
    subst (λ w. Leads g w h text (is_line_end c)) (sym e)
    (subst (λ x. Leads g (c ∷ text) x text (is_line_end c)) k
    (record {
      behind_is = ap (λ b. cond b (c ∷ text) (behind_gap (gap_next g c text) text)) m;
      cut_is = refl;
      breaks_are = ap (λ b. not b && (is_line_end c || breaks_in (gap_next g c text) text)) m;
    }))

or_assoc : (a b c : Bool) → (a || (b || c)) ≡ ((a || b) || c)
or_assoc true b c = refl
or_assoc false b c = refl

pub join : (g h k : Gap) (x y z : Text) (a b : Bool) → Leads g x h y a → Leads h y k z b → Leads g x k z (a || b)
join g h k x y z a b p q = record {
  behind_is = p.behind_is ∙ q.behind_is;
  cut_is = p.cut_is ∙ q.cut_is;
  breaks_are = p.breaks_are ∙ (ap (λ t. a || t) q.breaks_are ∙ or_assoc a b (breaks_in k z));
}

pub nothing : (g : Gap) (x : Text) → Leads g x g x false
nothing g x = record { behind_is = refl; cut_is = refl; breaks_are = refl }

pub flagged : (g h : Gap) (x y : Text) (a b : Bool) → a ≡ b → Leads g x h y a → Leads g x h y b
flagged g h x y a b e p = subst (λ t. Leads g x h y t) e p

first_of : (b : Bool) (x y : Gap) → b ≡ true → cond b x y ≡ x
first_of true x y e = refl
first_of false x y e = absurd (false≢true e)

second_of : (b : Bool) (x y : Gap) → b ≡ false → cond b x y ≡ y
second_of true x y e = absurd (false≢true (sym e))
second_of false x y e = refl

or_right : (a b : Bool) → b ≡ true → (a || b) ≡ true
or_right true b e = refl
or_right false b e = e

or_left : (a b : Bool) → a ≡ true → (a || b) ≡ true
or_left true b e = refl
or_left false b e = absurd (false≢true e)

-- blanks and line ends

pub blank_leads : (c : ℕ) (text : Text) → is_blank c ≡ true → is_line_end c ≡ false → Leads Blank (c ∷ text) Blank text false
blank_leads c text h n = flagged _ _ _ _ _ _ n (goes Blank Blank c (c ∷ text) text refl (first_of (is_blank c || is_line_end c) _ _ (or_left _ _ h)) refl)

pub end_leads : (c : ℕ) (text : Text) → is_line_end c ≡ true → Leads Blank (c ∷ text) Blank text true
end_leads c text h = flagged _ _ _ _ _ _ h (goes Blank Blank c (c ∷ text) text refl (first_of (is_blank c || is_line_end c) _ _ (or_right (is_blank c) _ h)) refl)

-- line comments

pub line_further : (text rest behind : Text) (c : ℕ) → Leads InLineComment text InLineComment rest false → rest ≡ c ∷ behind → is_line_end c ≡ false → Leads InLineComment text InLineComment behind false
line_further text rest behind c p e n =
    join InLineComment InLineComment InLineComment text rest behind false false p
    (flagged _ _ _ _ _ _ n (goes InLineComment InLineComment c rest behind e (second_of (is_line_end c) _ _ n) refl))

pub line_end : (c : ℕ) (text : Text) → is_line_end c ≡ true → Leads InLineComment (c ∷ text) Blank (c ∷ text) false
line_end c text h =
    let a = goes InLineComment Blank c (c ∷ text) text refl (first_of (is_line_end c) _ _ h) refl in
    let b = goes Blank Blank c (c ∷ text) text refl (first_of (is_blank c || is_line_end c) _ _ (or_right (is_blank c) _ h)) refl in
    record { behind_is = a.behind_is ∙ sym b.behind_is; cut_is = a.cut_is ∙ sym b.cut_is; breaks_are = a.breaks_are ∙ sym b.breaks_are }

pub line_over : (text rest behind : Text) (c : ℕ) → Leads InLineComment text InLineComment rest false → rest ≡ c ∷ behind → is_line_end c ≡ true → Leads InLineComment text Blank rest false
line_over text rest behind c p e h =
    join InLineComment InLineComment Blank text rest rest false false p (subst (λ w. Leads InLineComment w Blank w false) (sym e) (line_end c behind h))

pub line_at_end : (text rest : Text) → Leads InLineComment text InLineComment rest false → rest ≡ [] → Leads InLineComment text Blank rest false
line_at_end text rest p e =
    join InLineComment InLineComment Blank text rest rest false false p
    (subst (λ w. Leads InLineComment w Blank w false) (sym e) (record { behind_is = refl; cut_is = refl; breaks_are = refl }))

pub line_leads : (text behind rest : Text) → text ≡ 47 ∷ behind → Leads InLineComment behind Blank rest false → Leads Blank (47 ∷ text) Blank rest false
line_leads text behind rest e p =
    subst (λ w. Leads Blank (47 ∷ w) Blank rest false) (sym e)
    (join Blank InLineComment Blank _ _ _ false false (goes Blank InLineComment 47 (47 ∷ 47 ∷ behind) (47 ∷ behind) refl refl refl)
    (join InLineComment InLineComment Blank _ _ _ false false (goes InLineComment InLineComment 47 (47 ∷ behind) behind refl refl refl) p))

-- block comments

pub begins_one : (d : ℕ) (text : Text) → begins (d ∷ []) text ≡ first_is (nat_eq d) text
begins_one d [] = refl
begins_one d (c ∷ text) = elim (nat_eq d c) as (λ b. (b && true) ≡ b) [ true ↦ refl | false ↦ refl ]

block_next : (c : ℕ) (text : Text) → (nat_eq 42 c && begins (codes "/") text) ≡ false → gap_next InBlockComment c text ≡ InBlockComment
block_next c text h = second_of (nat_eq 42 c && begins (codes "/") text) Closing InBlockComment h

pub block_further : (text rest behind : Text) (c : ℕ) (has : Bool) → Leads InBlockComment text InBlockComment rest has → rest ≡ c ∷ behind → nat_eq 42 c ≡ false → Leads InBlockComment text InBlockComment behind (has || is_line_end c)
block_further text rest behind c has p e n =
    join InBlockComment InBlockComment InBlockComment text rest behind has (is_line_end c) p
    (goes InBlockComment InBlockComment c rest behind e (block_next c behind (ap (λ b. b && begins (codes "/") behind) n)) refl)

pub or_false : (b : Bool) → (b || false) ≡ b
or_false true = refl
or_false false = refl

pub or_true : (b : Bool) → (b || true) ≡ true
or_true true = refl
or_true false = refl

pub star_further : (text rest behind : Text) (has : Bool) → Leads InBlockComment text InBlockComment rest has → rest ≡ 42 ∷ behind → first_is (nat_eq 47) behind ≡ false → Leads InBlockComment text InBlockComment behind has
star_further text rest behind has p e n =
    flagged _ _ _ _ _ _ (or_false has)
    (join InBlockComment InBlockComment InBlockComment text rest behind has false p
    (goes InBlockComment InBlockComment 42 rest behind e (block_next 42 behind (begins_one 47 behind ∙ n)) refl))

pub block_over : (text rest behind more : Text) (has : Bool) → Leads InBlockComment text InBlockComment rest has → rest ≡ 42 ∷ behind → behind ≡ 47 ∷ more → Leads InBlockComment text Blank more has
block_over text rest behind more has p e f =
    let rest_is : rest ≡ 42 ∷ 47 ∷ more = e ∙ ap (λ w. 42 ∷ w) f in
    flagged _ _ _ _ _ _ (or_false has)
    (join InBlockComment InBlockComment Blank text rest more has false p
    (join InBlockComment Closing Blank rest (47 ∷ more) more false false (goes InBlockComment Closing 42 rest (47 ∷ more) rest_is refl refl)
    (goes Closing Blank 47 (47 ∷ more) more refl refl refl)))

pub block_cut : (text rest : Text) (has : Bool) → Leads InBlockComment text InBlockComment rest has → rest ≡ [] → is_cut InBlockComment text ≡ true
block_cut text rest has p e = p.cut_is ∙ ap (is_cut InBlockComment) e

opened : (text : Text) → Leads (Opening 0) text InBlockComment text false
opened [] = record { behind_is = refl; cut_is = refl; breaks_are = refl }
opened (c ∷ text) = record { behind_is = refl; cut_is = refl; breaks_are = refl }

pub opens : (text : Text) → Leads Blank (47 ∷ 42 ∷ text) InBlockComment text false
opens text =
    join Blank (Opening 1) InBlockComment _ _ _ false false (goes Blank (Opening 1) 47 (47 ∷ 42 ∷ text) (42 ∷ text) refl refl refl)
    (join (Opening 1) (Opening 0) InBlockComment _ _ _ false false (goes (Opening 1) (Opening 0) 42 (42 ∷ text) text refl refl refl) (opened text))

pub block_leads : (text behind rest : Text) (has : Bool) → text ≡ 42 ∷ behind → Leads InBlockComment behind Blank rest has → Leads Blank (47 ∷ text) Blank rest has
block_leads text behind rest has e p = subst (λ w. Leads Blank (47 ∷ w) Blank rest has) (sym e) (join Blank InBlockComment Blank _ _ _ false has (opens behind) p)

pub block_open : (text behind : Text) → text ≡ 42 ∷ behind → is_cut InBlockComment behind ≡ true → is_cut Blank (47 ∷ text) ≡ true
block_open text behind e h = subst (λ w. is_cut Blank (47 ∷ w) ≡ true) (sym e) ((opens behind).cut_is ∙ h)

-- no comment: the `/` is a token's
pub no_comment : (text : Text) → first_is (nat_eq 47) text ≡ false → first_is (nat_eq 42) text ≡ false → is_over (gap_after_blank 47 text) ≡ true
no_comment text h k =
    ap (λ b. is_over (cond b InLineComment (cond (begins (codes "*") text) (Opening 1) BehindGap))) (begins_one 47 text ∙ h)
    ∙ ap (λ b. is_over (cond b (Opening 1) BehindGap)) (begins_one 42 text ∙ k)

pub no_gap : (c : ℕ) (text : Text) → is_blank c ≡ false → is_line_end c ≡ false → nat_eq 47 c ≡ false → is_over (gap_after_blank c text) ≡ true
no_gap c text h k n =
    let e : (is_blank c || is_line_end c) ≡ false = ap (λ b. b || is_line_end c) h ∙ k in
    ap is_over (second_of (is_blank c || is_line_end c) Blank _ e
    ∙ ap (λ b. cond (b && begins (codes "/") text) InLineComment (cond (b && begins (codes "*") text) (Opening 1) BehindGap)) n)

-- at a token's first character, and at the text's end

pub not_cut : (text : Text) → is_cut BehindGap text ≡ false
not_cut [] = refl
not_cut (c ∷ text) = not_cut text

pub record IsWithoutGap (text : Text) : Type 0 where
  pub rest_is : skip text ≡ text
  pub cut_is : is_cut Blank text ≡ false
  pub breaks_are : breaks_in Blank text ≡ false

pub over_is : (g : Gap) → is_over g ≡ true → g ≡ BehindGap
over_is Blank h = absurd (false≢true h)
over_is InLineComment h = absurd (false≢true h)
over_is (Opening n) h = absurd (false≢true h)
over_is InBlockComment h = absurd (false≢true h)
over_is Closing h = absurd (false≢true h)
over_is BehindGap h = refl

pub without_gap : (text : Text) → IsBehind text → IsWithoutGap text
without_gap [] h = record { rest_is = refl; cut_is = refl; breaks_are = refl }
without_gap (c ∷ text) h = record {
  rest_is = ap (λ b. cond b (c ∷ text) (behind_gap (gap_after_blank c text) text)) h;
  cut_is = ap (λ g. is_cut g text) (over_is (gap_after_blank c text) h) ∙ not_cut text;
  breaks_are = ap (λ b. not b && (is_line_end c || breaks_in (gap_after_blank c text) text)) h;
}

-- a character that only a token begins with
pub graphic_over : (c : ℕ) (text : Text) → 33 ≤ c → c ≤ 126 → (c ≡ 47 → ⊥) → is_over (gap_after_blank c text) ≡ true
graphic_over c text low high n =
    let e32 : nat_eq c 32 ≡ false = ne_eqb c 32 (λ (is : c ≡ 32). omega arith) in
    let e9 : nat_eq c 9 ≡ false = ne_eqb c 9 (λ (is : c ≡ 9). omega arith) in
    let e11 : nat_eq c 11 ≡ false = ne_eqb c 11 (λ (is : c ≡ 11). omega arith) in
    let e12 : nat_eq c 12 ≡ false = ne_eqb c 12 (λ (is : c ≡ 12). omega arith) in
    let e160 : nat_eq c 160 ≡ false = ne_eqb c 160 (λ (is : c ≡ 160). omega arith) in
    let e5760 : nat_eq c 5760 ≡ false = ne_eqb c 5760 (λ (is : c ≡ 5760). omega arith) in
    let e8239 : nat_eq c 8239 ≡ false = ne_eqb c 8239 (λ (is : c ≡ 8239). omega arith) in
    let e8287 : nat_eq c 8287 ≡ false = ne_eqb c 8287 (λ (is : c ≡ 8287). omega arith) in
    let e12288 : nat_eq c 12288 ≡ false = ne_eqb c 12288 (λ (is : c ≡ 12288). omega arith) in
    let e65279 : nat_eq c 65279 ≡ false = ne_eqb c 65279 (λ (is : c ≡ 65279). omega arith) in
    let e10 : nat_eq c 10 ≡ false = ne_eqb c 10 (λ (is : c ≡ 10). omega arith) in
    let e13 : nat_eq c 13 ≡ false = ne_eqb c 13 (λ (is : c ≡ 13). omega arith) in
    let e8232 : nat_eq c 8232 ≡ false = ne_eqb c 8232 (λ (is : c ≡ 8232). omega arith) in
    let e8233 : nat_eq c 8233 ≡ false = ne_eqb c 8233 (λ (is : c ≡ 8233). omega arith) in
    let e8192 : nat_le 8192 c ≡ false = lt-leb 8192 c (omega arith) in
    let e47 : nat_eq 47 c ≡ false = ne_eqb 47 c (λ (is : 47 ≡ c). omega arith) in
    simp (e32, e9, e11, e12, e160, e5760, e8239, e8287, e12288, e65279, e10, e13, e8232, e8233, e8192, e47)
