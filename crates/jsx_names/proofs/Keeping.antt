-- What the loops keep that add declarations to the lists of their scopes.
use Rattle.std.proofs.Common.{◌≡◌, ◌<◌, ◌≤◌, ◌+◌, ℕ, suc, List, [], ◌∷◌, ◌++◌, length, drop, take, map, reverse, get_or, Bool, true, false, refl, sym, ap, ◌∙◌, arith, add-one, drop-cons, subst, take_all}
use Rattle.std.proofs.lemmas.List.{take_more}
use Rattle.std.proofs.lemmas.Grind.{common_steps}
use Rattle.std.specs.Prelude.{cond, nat_eq, Option, Some, None}
use Rattle.std.specs.Ordering.{nat_cmp}
use Rattle.std.specs.BTreeMap.{BTreeMap, get}
use Rattle.std.specs.declared.vec.Vec.{Vec}
use Rattle.std.specs.declared.alloc.Global.{Global}
use Rattle.std.specs.Str.{chars}
use Rattle.jsx_base.specs.Token.{Text}
use Rattle.jsx_tree.specs.Scopes.{AsVar, Path}
use Rattle.jsx_names.specs.Answers.{Named, is_passed, named}
use Rattle.jsx_names.specs.Code.{frame_of, plain, plain_all, sort_of}
use Rattle.jsx_names.specs.Gathered.{Begun, behind, gathered, given, giving, home_of}
use Rattle.jsx_names.specs.Shadowed.{Gathers, Homes, begun_of, held, named_of, standing}
use Rattle.jsx_names.specs.declared.event.Event as code
use Rattle.jsx_names.specs.declared.gather.Begun as opened
use Rattle.jsx_names.specs.declared.gather.Kept.{Kept}
use Rattle.jsx_names.specs.declared.event.Sort.TheVariants as sort
use Rattle.jsx_names.proofs.Going.{past_end}

append_assoc : (xs ys zs : List Named) → (xs ++ ys) ++ zs ≡ xs ++ (ys ++ zs)
append_assoc [] ys zs = refl
append_assoc (x ∷ xs) ys zs = ap (λ z. x ∷ z) (append_assoc xs ys zs)

append_none : (xs : List Named) → xs ++ [] ≡ xs
append_none [] = refl
append_none (x ∷ xs) = ap (λ z. x ∷ z) (append_none xs)

-- up to event i
pub record Gathering (es : List code.Event) (i : ℕ) (m : BTreeMap ℕ (Vec Kept Global)) (scopes : List opened.Begun) : Type 0 where
  pub homes : Homes (reverse scopes)
  pub left : (b : ℕ) → held (get nat_cmp m b) ++ gathered b i (standing scopes) (plain_all (drop i es)) ≡ gathered b 0 [] (plain_all es)

none_held : (m : BTreeMap ℕ (Vec Kept Global)) → m.entries ≡ [] → (b : ℕ) → held (get nat_cmp m b) ≡ []
none_held m e = λ b. rw e refl

pub gathering_begins : (es : List code.Event) (m : BTreeMap ℕ (Vec Kept Global)) (scopes : List opened.Begun) → m.entries ≡ [] → scopes ≡ [] → Gathering es 0 m scopes
gathering_begins es m scopes e s = record {
  homes = subst (λ z. Homes (reverse z)) (sym s) tt;
  left = λ b. ap (λ z. z ++ gathered b 0 (standing scopes) (plain_all es)) (none_held m e b) ∙ ap (λ z. gathered b 0 (standing z) (plain_all es)) s;
}

split : (es : List code.Event) (i : ℕ) (d : code.Event) → i < length es → plain_all (drop i es) ≡ plain (get_or es i d) ∷ plain_all (drop (suc i) es)
split es i d l = ap plain_all (drop-cons es i d l)

pub gathering_goes_on : (es : List code.Event) (i : ℕ) (m k : BTreeMap ℕ (Vec Kept Global)) (old new : List opened.Begun) (d : code.Event) → i < length es → Gathering es i m old →
    ((b : ℕ) → held (get nat_cmp k b) ≡ held (get nat_cmp m b) ++ giving b (standing old) (plain (get_or es i d))) → standing new ≡ behind i (standing old) (plain (get_or es i d)) → Homes (reverse new) → Gathering es (i + 1) k new
gathering_goes_on es i m k old new d l h e s o = subst (λ z. Gathering es z k new) (sym (add-one i)) (record {
  homes = o;
  left = λ b. ap (λ z. z ++ gathered b (suc i) (standing new) (plain_all (drop (suc i) es))) (e b)
      ∙ (append_assoc (held (get nat_cmp m b)) (giving b (standing old) (plain (get_or es i d))) _
      ∙ (ap (λ z. held (get nat_cmp m b) ++ (giving b (standing old) (plain (get_or es i d)) ++ gathered b (suc i) z (plain_all (drop (suc i) es)))) s
      ∙ (ap (λ z. held (get nat_cmp m b) ++ gathered b i (standing old) z) (sym (split es i d l)) ∙ h.left b)));
})

pub gathering_ends : (es : List code.Event) (i : ℕ) (m : BTreeMap ℕ (Vec Kept Global)) (scopes : List opened.Begun) → length es ≤ i → Gathering es i m scopes → Gathers m (plain_all es)
gathering_ends es i m scopes l h = λ b. sym (ap (λ z. held (get nat_cmp m b) ++ gathered b i (standing scopes) (plain_all z)) (past_end es i l) ∙ append_none (held (get nat_cmp m b))) ∙ h.left b

-- a scope's own
pub added : (c : Bool) (n : Named) (xs : List Named) → cond c (xs ++ n ∷ []) xs ≡ xs ++ cond c (n ∷ []) []
added true n xs = refl
added false n xs = sym (append_none xs)

abbrev none_or_one : Named → ℕ → Option ℕ → List Named
none_or_one n b None = []
none_or_one n b (Some i) = cond (nat_eq i b) (n ∷ []) []

home_by : (c : Bool) (b : ℕ) (n : Named) (o : Option ℕ) (i : ℕ) (xs : List Named) → xs ≡ none_or_one n b o → cond c xs (cond (nat_eq i b) (n ∷ []) []) ≡ none_or_one n b (cond c o (Some i))
home_by true b n o i xs e = e
home_by false b n o i xs e = refl

-- a `var` that stands in no head goes to its home alone
var_home : (b : ℕ) (t : Text) (p : Path) (ks : List Begun) → given b (named false AsVar t p) ks ≡ none_or_one (named false AsVar t p) b (home_of ks)
var_home b t p [] = refl
var_home b t p (k ∷ ks) = home_by (is_passed k.frame) b (named false AsVar t p) (home_of ks) k.number (given b (named false AsVar t p) ks) (var_home b t p ks)

pub no_home : (b : ℕ) (t : Text) (p : Path) (ks : List Begun) (xs : List Named) → home_of ks ≡ None → xs ≡ xs ++ given b (named false AsVar t p) ks
no_home b t p ks xs e = sym (append_none xs) ∙ ap (λ z. xs ++ z) (sym (var_home b t p ks ∙ ap (none_or_one (named false AsVar t p) b) e))

pub to_home : (b i : ℕ) (t : Text) (p : Path) (ks : List Begun) (xs : List Named) → home_of ks ≡ Some i → cond (nat_eq i b) (xs ++ named false AsVar t p ∷ []) xs ≡ xs ++ given b (named false AsVar t p) ks
to_home b i t p ks xs e = added (nat_eq i b) (named false AsVar t p) xs ∙ ap (λ z. xs ++ z) (sym (var_home b t p ks ∙ ap (none_or_one (named false AsVar t p) b) e))

turned : (xs : List opened.Begun) (o : opened.Begun) → reverse (xs ++ o ∷ []) ≡ o ∷ reverse xs
turned xs o = grind (arith, common_steps)

-- one scope further out
pub stands_more : (scopes : List opened.Begun) (at : ℕ) (d : opened.Begun) → at < length scopes → standing (take (at + 1) scopes) ≡ begun_of (get_or scopes at d) ∷ standing (take at scopes)
stands_more scopes at d l = ap (map begun_of) (ap reverse (take_more scopes at d l) ∙ turned (take at scopes) (get_or scopes at d))

-- what is added to the lists of the scopes from an index on
abbrev pub Through : BTreeMap ℕ (Vec Kept Global) → BTreeMap ℕ (Vec Kept Global) → Named → List opened.Begun → ℕ → Type 0
Through m0 m n scopes at = (b : ℕ) → held (get nat_cmp m b) ++ given b n (standing (take at scopes)) ≡ held (get nat_cmp m0 b) ++ given b n (standing scopes)

pub through_begins : (m : BTreeMap ℕ (Vec Kept Global)) (n : Named) (scopes : List opened.Begun) (at : ℕ) → length scopes ≤ at → Through m m n scopes at
through_begins m n scopes at l = λ b. ap (λ z. held (get nat_cmp m b) ++ given b n (standing z)) (take_all at scopes l)

through_one : (b i : ℕ) (c : Bool) (n : Named) (xs rest : List Named) → c ≡ true → cond (nat_eq i b) (xs ++ n ∷ []) xs ++ rest ≡ xs ++ cond c (cond (nat_eq i b) (n ∷ []) [] ++ rest) (cond (nat_eq i b) (n ∷ []) [])
through_one b i c n xs rest e = ap (λ z. z ++ rest) (added (nat_eq i b) n xs)
    ∙ (append_assoc xs (cond (nat_eq i b) (n ∷ []) []) rest
    ∙ ap (λ z. xs ++ cond z (cond (nat_eq i b) (n ∷ []) [] ++ rest) (cond (nat_eq i b) (n ∷ []) [])) (sym e))

pub through_passes : (m0 m k : BTreeMap ℕ (Vec Kept Global)) (t : Text) (p : Path) (scopes : List opened.Begun) (at : ℕ) (d : opened.Begun) (c : Bool) → at < length scopes →
    ((b : ℕ) → held (get nat_cmp k b) ≡ cond (nat_eq (get_or scopes at d).number b) (held (get nat_cmp m b) ++ named true AsVar t p ∷ []) (held (get nat_cmp m b))) →
    c ≡ is_passed (frame_of (get_or scopes at d).frame) → c ≡ true → Through m0 m (named true AsVar t p) scopes (at + 1) → Through m0 k (named true AsVar t p) scopes at
through_passes m0 m k t p scopes at d c l e f g h = λ b.
    ap (λ z. z ++ given b (named true AsVar t p) (standing (take at scopes))) (e b)
    ∙ (through_one b (get_or scopes at d).number (is_passed (frame_of (get_or scopes at d).frame)) (named true AsVar t p) (held (get nat_cmp m b)) (given b (named true AsVar t p) (standing (take at scopes))) (sym f ∙ g)
    ∙ (ap (λ z. held (get nat_cmp m b) ++ given b (named true AsVar t p) z) (sym (stands_more scopes at d l)) ∙ h b))

last_one : (b i : ℕ) (c : Bool) (n : Named) (xs rest : List Named) → c ≡ false → cond (nat_eq i b) (xs ++ n ∷ []) xs ≡ xs ++ cond c (cond (nat_eq i b) (n ∷ []) [] ++ rest) (cond (nat_eq i b) (n ∷ []) [])
last_one b i c n xs rest e = added (nat_eq i b) n xs ∙ ap (λ z. xs ++ cond z (cond (nat_eq i b) (n ∷ []) [] ++ rest) (cond (nat_eq i b) (n ∷ []) [])) (sym e)

pub through_arrives : (m0 m k : BTreeMap ℕ (Vec Kept Global)) (t : Text) (p : Path) (scopes : List opened.Begun) (at : ℕ) (d : opened.Begun) (c : Bool) → at < length scopes →
    ((b : ℕ) → held (get nat_cmp k b) ≡ cond (nat_eq (get_or scopes at d).number b) (held (get nat_cmp m b) ++ named true AsVar t p ∷ []) (held (get nat_cmp m b))) →
    c ≡ is_passed (frame_of (get_or scopes at d).frame) → c ≡ false → Through m0 m (named true AsVar t p) scopes (at + 1) →
    (b : ℕ) → held (get nat_cmp k b) ≡ held (get nat_cmp m0 b) ++ given b (named true AsVar t p) (standing scopes)
through_arrives m0 m k t p scopes at d c l e f g h = λ b.
    e b
    ∙ (last_one b (get_or scopes at d).number (is_passed (frame_of (get_or scopes at d).frame)) (named true AsVar t p) (held (get nat_cmp m b)) (given b (named true AsVar t p) (standing (take at scopes))) (sym f ∙ g)
    ∙ (ap (λ z. held (get nat_cmp m b) ++ given b (named true AsVar t p) z) (sym (stands_more scopes at d l)) ∙ h b))

pub through_all : (m0 m : BTreeMap ℕ (Vec Kept Global)) (n : Named) (scopes : List opened.Begun) (at : ℕ) → at ≡ 0 → Through m0 m n scopes at → (b : ℕ) → held (get nat_cmp m b) ≡ held (get nat_cmp m0 b) ++ given b n (standing scopes)
through_all m0 m n scopes at e h = λ b. sym (append_none (held (get nat_cmp m b))) ∙ (ap (λ z. held (get nat_cmp m b) ++ given b n (standing (take z scopes))) (sym e) ∙ h b)

head_var : (k : Kept) → k.sort ≡ sort.Var → k.in_head ≡ true → named true AsVar (chars k.name.now) [] ≡ named_of k
head_var k s h = sym (ap (λ z. named z (sort_of k.sort) (chars k.name.now) []) h ∙ ap (λ z. named true (sort_of z) (chars k.name.now) []) s)

pub passes : (m0 m k : BTreeMap ℕ (Vec Kept Global)) (n : Kept) (scopes : List opened.Begun) (at : ℕ) (d : opened.Begun) (c : Bool) → n.sort ≡ sort.Var → n.in_head ≡ true → at < length scopes →
    ((b : ℕ) → held (get nat_cmp k b) ≡ cond (nat_eq (get_or scopes at d).number b) (held (get nat_cmp m b) ++ named_of n ∷ []) (held (get nat_cmp m b))) →
    c ≡ is_passed (frame_of (get_or scopes at d).frame) → c ≡ true → Through m0 m (named_of n) scopes (at + 1) → Through m0 k (named_of n) scopes at
passes m0 m k n scopes at d c s h l =
    subst (λ z. ((b : ℕ) → held (get nat_cmp k b) ≡ cond (nat_eq (get_or scopes at d).number b) (held (get nat_cmp m b) ++ z ∷ []) (held (get nat_cmp m b))) →
    c ≡ is_passed (frame_of (get_or scopes at d).frame) → c ≡ true → Through m0 m z scopes (at + 1) → Through m0 k z scopes at) (head_var n s h)
    (λ e f g x. through_passes m0 m k (chars n.name.now) [] scopes at d c l e f g x)

pub arrives : (m0 m k : BTreeMap ℕ (Vec Kept Global)) (n : Kept) (scopes : List opened.Begun) (at : ℕ) (d : opened.Begun) (c : Bool) → n.sort ≡ sort.Var → n.in_head ≡ true → at < length scopes →
    ((b : ℕ) → held (get nat_cmp k b) ≡ cond (nat_eq (get_or scopes at d).number b) (held (get nat_cmp m b) ++ named_of n ∷ []) (held (get nat_cmp m b))) →
    c ≡ is_passed (frame_of (get_or scopes at d).frame) → c ≡ false → Through m0 m (named_of n) scopes (at + 1) →
    (b : ℕ) → held (get nat_cmp k b) ≡ held (get nat_cmp m0 b) ++ given b (named_of n) (standing scopes)
arrives m0 m k n scopes at d c s h l =
    subst (λ z. ((b : ℕ) → held (get nat_cmp k b) ≡ cond (nat_eq (get_or scopes at d).number b) (held (get nat_cmp m b) ++ z ∷ []) (held (get nat_cmp m b))) →
    c ≡ is_passed (frame_of (get_or scopes at d).frame) → c ≡ false → Through m0 m z scopes (at + 1) → (b : ℕ) → held (get nat_cmp k b) ≡ held (get nat_cmp m0 b) ++ given b z (standing scopes)) (head_var n s h)
    (λ e f g x. through_arrives m0 m k (chars n.name.now) [] scopes at d c l e f g x)

body_var : (k : Kept) → k.sort ≡ sort.Var → k.in_head ≡ false → named false AsVar (chars k.name.now) [] ≡ named_of k
body_var k s h = sym (ap (λ z. named z (sort_of k.sort) (chars k.name.now) []) h ∙ ap (λ z. named false (sort_of z) (chars k.name.now) []) s)

pub homeless : (b : ℕ) (n : Kept) (ks : List Begun) (xs : List Named) → n.sort ≡ sort.Var → n.in_head ≡ false → home_of ks ≡ None → xs ≡ xs ++ given b (named_of n) ks
homeless b n ks xs s h e = subst (λ z. xs ≡ xs ++ given b z ks) (body_var n s h) (no_home b (chars n.name.now) [] ks xs e)

pub homed : (b i : ℕ) (n : Kept) (ks : List Begun) (xs : List Named) → n.sort ≡ sort.Var → n.in_head ≡ false → home_of ks ≡ Some i → cond (nat_eq i b) (xs ++ named_of n ∷ []) xs ≡ xs ++ given b (named_of n) ks
homed b i n ks xs s h e = subst (λ z. cond (nat_eq i b) (xs ++ z ∷ []) xs ≡ xs ++ given b z ks) (body_var n s h) (to_home b i (chars n.name.now) [] ks xs e)

pub one_before : (m0 m : BTreeMap ℕ (Vec Kept Global)) (n : Named) (scopes : List opened.Begun) (old at : ℕ) → old ≡ at + 1 → Through m0 m n scopes old → Through m0 m n scopes (at + 1)
one_before m0 m n scopes old at e h = subst (Through m0 m n scopes) e h
