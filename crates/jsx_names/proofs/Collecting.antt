-- What a scope declares, event by event.
use Rattle.std.proofs.Common.{◌≡◌, ◌<◌, ◌≤◌, ◌+◌, ℕ, suc, List, [], ◌∷◌, ◌++◌, length, drop, get_or, reverse, Bool, true, false, refl, sym, ap, ◌∙◌, add-one, drop-cons, subst}
use Rattle.std.specs.Prelude.{cond, ◌||◌, Option}
use Rattle.std.specs.Str.{chars}
use Rattle.std.specs.BTreeSet.{BTreeSet, IsEmpty}
use denote.Ref.{Bor}
use Rattle.jsx_base.specs.Token.{Text, same}
use Rattle.jsx_tree.specs.Scopes.{Path, Sort, Declaration, is_declared}
use Rattle.jsx_names.specs.Events.{Frame, Event, Opens, Enters, Closes, Declares, Refers, Exports, Wants, Evals}
use Rattle.jsx_names.specs.Answers.{Named, all_of, are_passed, collected, named, reaches}
use Rattle.jsx_names.specs.Code.{plain, plain_all}
use Rattle.jsx_names.specs.Collected.{Knows, all_open, flags, is_over, naming, opening}
use Rattle.jsx_names.specs.Faults.{again, earlier, first, first_amiss, is_among, is_unknown, unknown}
use Rattle.jsx_names.specs.Tables.{Has}
use Rattle.jsx_names.specs.declared.event.Event as code
use Rattle.jsx_names.specs.declared.event.Event.TheVariants as variant
use Rattle.jsx_names.specs.declared.event.Frame.TheVariants as frame
use Rattle.jsx_names.proofs.Going.{no_names, past_end}

absurd : {X : Type 0} → false ≡ true → X
absurd e = cc

or_false : (b : Bool) → b || false ≡ b
or_false true = refl
or_false false = refl

or_assoc : (a b c : Bool) → (a || b) || c ≡ a || (b || c)
or_assoc true b c = refl
or_assoc false b c = refl

all_flags : (fs : List Frame) → all_open (flags fs) ≡ are_passed fs
all_flags [] = refl
all_flags (f ∷ fs) = refl

pub all_open_flags : (bs : List Bool) (fs : List Frame) → bs ≡ flags fs → all_open bs ≡ are_passed fs
all_open_flags bs fs e = ap all_open e ∙ all_flags fs

nothing_more : (fs : List Frame) (e : Event) (es : List Event) → is_over fs e ≡ true → collected fs (e ∷ es) ≡ []
nothing_more [] Closes es h = refl
nothing_more [] (Opens f p) es h = absurd h
nothing_more [] Enters es h = absurd h
nothing_more [] (Declares a s t p) es h = absurd h
nothing_more [] (Refers t p) es h = absurd h
nothing_more [] (Exports t a) es h = absurd h
nothing_more [] (Wants t a) es h = absurd h
nothing_more [] (Evals p) es h = absurd h
nothing_more (f ∷ fs) e es h = absurd h

if_declared : (b : Bool) (h : Bool) (s : Sort) (t u : Text) (p : Path) (ns : List Named) →
    is_declared t (all_of (cond b (named h s u p ∷ []) [] ++ ns)) ≡ is_among t (cond b (u ∷ []) []) || is_declared t (all_of ns)
if_declared true h s t u p ns = ap (λ z. z || is_declared t (all_of ns)) (sym (or_false (same t u)))
if_declared false h s t u p ns = refl

-- one event further
more : (t : Text) (fs : List Frame) (e : Event) (es : List Event) → is_over fs e ≡ false →
    is_declared t (all_of (collected fs (e ∷ es))) ≡ is_among t (naming fs e) || is_declared t (all_of (collected (opening fs e) es))
more t fs (Opens f p) es h = refl
more t [] Closes es h = absurd (sym h)
more t (f ∷ fs) Closes es h = refl
more t fs Enters es h = refl
more t fs (Declares a s u p) es h = if_declared (reaches s fs) a s t u p (collected fs es)
more t fs (Refers u p) es h = refl
more t fs (Exports u a) es h = refl
more t fs (Wants u a) es h = refl
more t fs (Evals p) es h = refl

among_append : (t : Text) (us vs : List Text) → is_among t (us ++ vs) ≡ is_among t us || is_among t vs
among_append t [] vs = refl
among_append t (u ∷ us) vs = ap (λ z. same t u || z) (among_append t us vs) ∙ sym (or_assoc (same t u) (is_among t us) (is_among t vs))

or_turn : (u n r : Bool) → u || (n || r) ≡ (n || u) || r
or_turn true true r = refl
or_turn true false r = refl
or_turn false true r = refl
or_turn false false r = refl

-- what was collected up to event i, in the scopes that stand open
pub record Collecting (es : List code.Event) (i : ℕ) (passed : List Bool) (names : BTreeSet (Bor (List ℕ))) : Type 0 where
  pub opened : List Frame
  pub known : List Text
  pub flagged : reverse passed ≡ flags opened
  pub has : Has names known
  pub left : (t : Text) → is_declared t (all_of (collected [] (plain_all es))) ≡ is_among t known || is_declared t (all_of (collected opened (plain_all (drop i es))))

pub collecting_begins : (es : List code.Event) (passed : List Bool) (names : BTreeSet (Bor (List ℕ))) → passed ≡ [] → IsEmpty names → Collecting es 0 passed names
collecting_begins es passed names e n = record {
  opened = [];
  known = [];
  flagged = ap reverse e;
  has = no_names names n;
  left = λ t. refl;
}

split : (es : List code.Event) (i : ℕ) (d : code.Event) → i < length es → plain_all (drop i es) ≡ plain (get_or es i d) ∷ plain_all (drop (suc i) es)
split es i d l = ap plain_all (drop-cons es i d l)

pub collecting_goes_on : (es : List code.Event) (i : ℕ) (old new : List Bool) (names more' : BTreeSet (Bor (List ℕ))) (d : code.Event) → i < length es →
    (h : Collecting es i old names) → is_over h.opened (plain (get_or es i d)) ≡ false →
    reverse new ≡ flags (opening h.opened (plain (get_or es i d))) → Has more' (naming h.opened (plain (get_or es i d)) ++ h.known) → Collecting es (i + 1) new more'
collecting_goes_on es i old new names more' d l h o f k = subst (λ z. Collecting es z new more') (sym (add-one i)) (record {
  opened = opening h.opened (plain (get_or es i d));
  known = naming h.opened (plain (get_or es i d)) ++ h.known;
  flagged = f;
  has = k;
  left = λ t. h.left t
      ∙ (ap (λ z. is_among t h.known || is_declared t (all_of (collected h.opened z))) (split es i d l)
      ∙ (ap (λ z. is_among t h.known || z) (more t h.opened (plain (get_or es i d)) (plain_all (drop (suc i) es)) o)
      ∙ (or_turn (is_among t h.known) (is_among t (naming h.opened (plain (get_or es i d)))) _
      ∙ ap (λ z. z || is_declared t (all_of (collected (opening h.opened (plain (get_or es i d))) (plain_all (drop (suc i) es))))) (sym (among_append t (naming h.opened (plain (get_or es i d))) h.known)))));
})

collected_none : (es : List code.Event) (i : ℕ) (passed : List Bool) (names : BTreeSet (Bor (List ℕ))) (h : Collecting es i passed names) → collected h.opened (plain_all (drop i es)) ≡ [] →
    Knows names (all_of (collected [] (plain_all es)))
collected_none es i passed names h e = λ w u. h.has w u ∙ sym (h.left (chars w.now) ∙ (ap (λ z. is_among (chars w.now) h.known || is_declared (chars w.now) (all_of z)) e ∙ or_false (is_among (chars w.now) h.known)))

pub collecting_over : (es : List code.Event) (i : ℕ) (passed : List Bool) (names : BTreeSet (Bor (List ℕ))) (d : code.Event) → i < length es →
    (h : Collecting es i passed names) → is_over h.opened (plain (get_or es i d)) ≡ true → Knows names (all_of (collected [] (plain_all es)))
collecting_over es i passed names d l h o = collected_none es i passed names h (ap (collected h.opened) (split es i d l) ∙ nothing_more h.opened (plain (get_or es i d)) (plain_all (drop (suc i) es)) o)

pub collecting_ends : (es : List code.Event) (i : ℕ) (passed : List Bool) (names : BTreeSet (Bor (List ℕ))) → length es ≤ i → Collecting es i passed names → Knows names (all_of (collected [] (plain_all es)))
collecting_ends es i passed names l h = collected_none es i passed names h (ap (λ z. collected h.opened (plain_all z)) (past_end es i l))

pub unknown_goes_on : (es : List code.Event) (i : ℕ) (ds : List Declaration) (d : code.Event) (b : Bool) → i < length es → b ≡ is_unknown ds (plain (get_or es i d)) → b ≡ false →
    first (unknown i ds (plain_all (drop i es))) ≡ first (unknown (i + 1) ds (plain_all (drop (i + 1) es)))
unknown_goes_on es i ds d b l e n = ap (λ z. first (unknown i ds z)) (split es i d l)
    ∙ (ap (λ z. first (cond z (i ∷ []) [] ++ unknown (suc i) ds (plain_all (drop (suc i) es)))) (sym e ∙ n)
    ∙ ap (λ z. first (unknown z ds (plain_all (drop z es)))) (sym (add-one i)))

pub amiss_told : (es inside : List code.Event) (a u : Option ℕ) → es ≡ variant.Opens frame.Module ∷ inside → a ≡ first (again 0 [] (plain_all es)) →
    u ≡ first (unknown 0 (all_of (collected [] (plain_all inside))) (plain_all es)) → earlier a u ≡ first_amiss (plain_all es)
amiss_told es inside a u e h k = ap (λ z. earlier z u) h ∙ (ap (earlier (first (again 0 [] (plain_all es)))) k
    ∙ subst (λ z. earlier (first (again 0 [] (plain_all z))) (first (unknown 0 (all_of (collected [] (plain_all inside))) (plain_all z))) ≡ first_amiss (plain_all z)) (sym e) refl)
