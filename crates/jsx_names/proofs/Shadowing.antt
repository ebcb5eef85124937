-- What names are bound to while scopes begin and end.
use Rattle.std.proofs.Common.{◌≡◌, ◌<◌, ◌≤◌, ◌+◌, ℕ, zero, suc, List, [], ◌∷◌, ◌++◌, length, drop, take, map, reverse, get_or, Bool, true, false, refl, sym, ap, ◌∙◌, arith, add-one, drop-cons, subst, take_all}
use Rattle.std.proofs.lemmas.List.{take_more}
use Rattle.std.proofs.lemmas.Grind.{common_steps}
use Rattle.jsx_tree.proofs.Tokens.{same_is}
use Rattle.std.specs.Prelude.{cond, ◌&&◌, ◌||◌, Option, Some, None}
use Rattle.std.specs.Str.{chars, IsUtf8}
use Rattle.std.specs.BTreeMap.{BTreeMap}
use Rattle.std.specs.Option.{unwrap_or}
use Rattle.std.specs.Ordering.{is_eq, nat_cmp}
use Rattle.std.specs.Cmp.Lexicographic.{slice_cmp}
use Rattle.jsx_names.proofs.NameTests.{name_test}
use denote.Ref.{Bor}
use Rattle.jsx_base.specs.Token.{Text, same}
use Rattle.jsx_tree.specs.Scopes.{Path, is_declared}
use Rattle.jsx_names.specs.Events as events
use Rattle.jsx_names.specs.Events.{Event, Opens}
use Rattle.jsx_names.specs.Answers.{Named, collected}
use Rattle.jsx_names.specs.Bindings.{Shown, behind_head, bindings, bound_to, left, names_at, shown, within}
use Rattle.jsx_names.specs.Code.{frame_of, plain, plain_all}
use Rattle.jsx_names.specs.Gathered.{gathered, is_shown, shows}
use Rattle.jsx_names.specs.Shadowed.{Between, Binds, IsSet, IsTop, Presents, Restores, bound_in, named_of, restored, shown_over}
use Rattle.jsx_names.specs.declared.event.Event as code
use Rattle.jsx_names.specs.declared.event.Event.TheVariants as variant
use Rattle.jsx_names.specs.declared.event.Frame.{Frame}
use Rattle.jsx_names.specs.declared.gather.Kept.{Kept}
use Rattle.jsx_names.specs.declared.binding.Saved.{Saved}
use Rattle.jsx_names.specs.declared.binding.Open.{Open}
use Rattle.jsx_names.proofs.Going.{past_end}
use Rattle.jsx_names.proofs.GatheredAll.{declared_first, declared_last, shown_all}

-- one event
pub one_event : (i : ℕ) (ns : List Shown) (e : Event) (es : List Event) → bindings i ns (e ∷ es) ≡ names_at ns e ++ bindings (suc i) (within i ns e es) es
one_event i ns (events.Opens f p) es = refl
one_event i ns events.Enters es = refl
one_event i ns events.Closes es = refl
one_event i ns (events.Declares h s t p) es = refl
one_event i ns (events.Refers t p) es = refl
one_event i ns (events.Exports t a) es = refl
one_event i ns (events.Wants t a) es = refl
one_event i ns (events.Evals p) es = refl

append_assoc : (xs ys zs : List (Option ℕ)) → (xs ++ ys) ++ zs ≡ xs ++ (ys ++ zs)
append_assoc [] ys zs = refl
append_assoc (x ∷ xs) ys zs = ap (λ z. x ∷ z) (append_assoc xs ys zs)

append_none : (xs : List (Option ℕ)) → xs ++ [] ≡ xs
append_none [] = refl
append_none (x ∷ xs) = ap (λ z. x ∷ z) (append_none xs)

-- up to event i, what was found
pub record Finding (es : List code.Event) (i : ℕ) (m : BTreeMap (Bor (List ℕ)) (Option ℕ)) (os : List Open) (found : List (Option ℕ)) : Type 0 where
  pub scopes : List Shown
  pub between : Between (plain_all es) m os scopes
  pub left : found ++ bindings i scopes (plain_all (drop i es)) ≡ bindings 0 [] (plain_all es)

nothing_bound : (m : BTreeMap (Bor (List ℕ)) (Option ℕ)) → m.entries ≡ [] → Binds m []
nothing_bound m e = λ w u. rw e refl

pub finding_begins : (es : List code.Event) (m : BTreeMap (Bor (List ℕ)) (Option ℕ)) (os : List Open) (found : List (Option ℕ)) → m.entries ≡ [] → os ≡ [] → found ≡ [] → Finding es 0 m os found
finding_begins es m os found e n f = record {
  scopes = [];
  between = record { binds = nothing_bound m e; restores = subst (λ z. Restores (plain_all es) (reverse z) []) (sym n) tt };
  left = ap (λ z. z ++ bindings 0 [] (plain_all es)) f;
}

drop_plain : (i : ℕ) (es : List code.Event) → plain_all (drop i es) ≡ drop i (plain_all es)
drop_plain zero [] = refl
drop_plain zero (e ∷ es) = refl
drop_plain (suc i) [] = refl
drop_plain (suc i) (e ∷ es) = drop_plain i es

split : (es : List code.Event) (i : ℕ) (d : code.Event) → i < length es → plain_all (drop i es) ≡ plain (get_or es i d) ∷ plain_all (drop (suc i) es)
split es i d l = ap plain_all (drop-cons es i d l)

pub stands_at : (es : List code.Event) (i : ℕ) (d : code.Event) → i < length es → drop i (plain_all es) ≡ plain (get_or es i d) ∷ plain_all (drop (suc i) es)
stands_at es i d l = sym (drop_plain i es) ∙ split es i d l

pub finding_goes_on : (es : List code.Event) (i : ℕ) (m n : BTreeMap (Bor (List ℕ)) (Option ℕ)) (os ps : List Open) (found more : List (Option ℕ)) (d : code.Event) → i < length es → (h : Finding es i m os found) →
    more ≡ found ++ names_at h.scopes (plain (get_or es i d)) → Between (plain_all es) n ps (within i h.scopes (plain (get_or es i d)) (plain_all (drop (suc i) es))) → Finding es (i + 1) n ps more
finding_goes_on es i m n os ps found more d l h e b = subst (λ z. Finding es z n ps more) (sym (add-one i)) (record {
  scopes = within i h.scopes (plain (get_or es i d)) (plain_all (drop (suc i) es));
  between = b;
  left = ap (λ z. z ++ bindings (suc i) (within i h.scopes (plain (get_or es i d)) (plain_all (drop (suc i) es))) (plain_all (drop (suc i) es))) e
      ∙ (append_assoc found (names_at h.scopes (plain (get_or es i d))) _
      ∙ (ap (λ z. found ++ z) (sym (one_event i h.scopes (plain (get_or es i d)) (plain_all (drop (suc i) es))))
      ∙ (ap (λ z. found ++ bindings i h.scopes z) (sym (split es i d l)) ∙ h.left)));
})

pub finding_ends : (es : List code.Event) (i : ℕ) (m : BTreeMap (Bor (List ℕ)) (Option ℕ)) (os : List Open) (found : List (Option ℕ)) → length es ≤ i → Finding es i m os found → found ≡ bindings 0 [] (plain_all es)
finding_ends es i m os found l h = sym (ap (λ z. found ++ bindings i h.scopes (plain_all z)) (past_end es i l) ∙ append_none found) ∙ h.left

-- what a scope is that begins at event i
pub presents : (es inside : List Event) (f : Frame) (p : Path) (i : ℕ) → drop i es ≡ Opens (frame_of f) p ∷ inside → Presents es false f i (shown (frame_of f) i (collected [] inside))
presents es inside f p i d = record {
  number = refl;
  names = λ t. declared_first (frame_of f) t (collected [] inside) ∙ sym (shown_all false (frame_of f) p t i es inside d);
  later = λ t. declared_last (frame_of f) t (collected [] inside) ∙ sym (shown_all true (frame_of f) p t i es inside d);
}

abbrev entered : Shown → Shown
entered n = record { number = n.number; names = n.later; later = n.later }

presents_later : (es : List Event) (f : Frame) (i : ℕ) (n : Shown) → n.number ≡ i → ((t : Text) → is_declared t n.later ≡ is_shown true (frame_of f) t (gathered i 0 [] es)) → Presents es true f i (entered n)
presents_later es f i n e l = record { number = e; names = l; later = l }

-- behind its head
pub entered_by : (es : List Event) (o : ℕ × Frame) (ns : List Shown) (m : BTreeMap (Bor (List ℕ)) (Option ℕ)) (os : List Open) → IsTop es (Some o) ns →
    ((n : Shown) → Presents es true o.1 o.0 n → Between es m os (n ∷ left ns)) → Between es m os (behind_head ns)
entered_by es o [] m os h f = absurd h
entered_by es o (n ∷ ns) m os h f = f (entered n) (presents_later es o.1 o.0 n h.0 h.1)

pub entered_none : (es : List Event) (ns : List Shown) (m : BTreeMap (Bor (List ℕ)) (Option ℕ)) (os : List Open) → IsTop es None ns → Between es m os (left ns) → Between es m os (behind_head ns)
entered_none es [] m os h b = b
entered_none es (n ∷ ns) m os h b = absurd h

turned_saved : (xs : List Saved) (o : Saved) → reverse (xs ++ o ∷ []) ≡ o ∷ reverse xs
turned_saved xs o = grind (arith, common_steps)

-- where a scope ends
pub top_none : (es : List Event) (os : List Open) (m : BTreeMap (Bor (List ℕ)) (Option ℕ)) (ns : List Shown) → os ≡ [] → Between es m os ns → IsTop es None ns
top_none es os m [] e b = tt
top_none es os m (n ∷ ns) e b = subst (λ z. Restores es (reverse z) (n ∷ ns)) e b.restores

pub left_none : (es : List Event) (os : List Open) (m : BTreeMap (Bor (List ℕ)) (Option ℕ)) (ns : List Shown) → os ≡ [] → Between es m os ns → Between es m os (left ns)
left_none es os m [] e b = b
left_none es os m (n ∷ ns) e b = absurd (subst (λ z. Restores es (reverse z) (n ∷ ns)) e b.restores)

turned : (xs : List Open) (o : Open) → reverse (xs ++ o ∷ []) ≡ o ∷ reverse xs
turned xs o = grind (arith, common_steps)

pub top_some : (es : List Event) (os rest : List Open) (o : Open) (m : BTreeMap (Bor (List ℕ)) (Option ℕ)) (ns : List Shown) → os ≡ rest ++ o ∷ [] → Between es m os ns → IsTop es (Some (o.number, o.frame)) ns
top_some es os rest o m [] e b = subst (λ z. Restores es z []) (ap reverse e ∙ turned rest o) b.restores
top_some es os rest o m (n ∷ ns) e b = let r = subst (λ z. Restores es z (n ∷ ns)) (ap reverse e ∙ turned rest o) b.restores in (r.0.number, r.0.later)

pub left_some : (es : List Event) (os rest : List Open) (o : Open) (m k : BTreeMap (Bor (List ℕ)) (Option ℕ)) (ns : List Shown) → os ≡ rest ++ o ∷ [] → Between es m os ns →
    ((w : Bor (List ℕ)) → IsUtf8 w.now → bound_in k w ≡ restored (reverse o.saved.items) (chars w.now) (bound_in m w)) → Between es k rest (left ns)
left_some es os rest o m k [] e b h = absurd (subst (λ z. Restores es z []) (ap reverse e ∙ turned rest o) b.restores)
left_some es os rest o m k (n ∷ ns) e b h = let r = subst (λ z. Restores es z (n ∷ ns)) (ap reverse e ∙ turned rest o) b.restores in record {
  binds = λ w u. h w u ∙ (ap (restored (reverse o.saved.items) (chars w.now)) (b.binds w u) ∙ r.0.back (chars w.now));
  restores = r.1;
}

-- where one begins
shows_name : (es : List Event) (q : Bool) (f : Frame) (i : ℕ) (n : Shown) (ns : List Shown) (ds : List Named) (t : Text) → Presents es q f i n → ds ≡ gathered i 0 [] es → bound_to t (n ∷ ns) ≡ shown_over q f i ds ns t
shows_name es q f i n ns ds t p e = ap (λ z. cond z (Some n.number) (bound_to t ns)) (p.names t ∙ ap (is_shown q (frame_of f) t) (sym e))
    ∙ ap (λ z. cond (is_shown q (frame_of f) t ds) (Some z) (bound_to t ns)) p.number

pub begun_as : (es : List Event) (q : Bool) (f : Frame) (i : ℕ) (os ps : List Open) (o : Open) (m k : BTreeMap (Bor (List ℕ)) (Option ℕ)) (n : Shown) (ns : List Shown) (ds : List Named) →
    ps ≡ os ++ o ∷ [] → o.number ≡ i → o.frame ≡ f → ds ≡ gathered i 0 [] es → Between es m os ns → Presents es q f i n →
    ((w : Bor (List ℕ)) → IsUtf8 w.now → bound_in k w ≡ shown_over q f i ds ns (chars w.now)) →
    ((t : Text) → restored (reverse o.saved.items) t (shown_over q f i ds ns t) ≡ bound_to t ns) → Between es k ps (n ∷ ns)
begun_as es q f i os ps o m k n ns ds e a c g b p h r = record {
  binds = λ w u. h w u ∙ sym (shows_name es q f i n ns ds (chars w.now) p g);
  restores = subst (λ z. Restores es z (n ∷ ns)) (sym (ap reverse e ∙ turned os o)) (
    record {
      number = p.number ∙ sym a;
      later = λ t. p.later t ∙ sym (ap (λ z. is_shown true (frame_of z) t (gathered o.number 0 [] es)) c ∙ ap (λ z. is_shown true (frame_of f) t (gathered z 0 [] es)) a);
      back = λ t. ap (restored (reverse o.saved.items) t) (shows_name es q f i n ns ds t p g) ∙ r t;
    },
    b.restores,
  );
}

-- what is shown of a list up to an index
pub record Showing (q : Bool) (f : Frame) (i : ℕ) (list : List Kept) (at : ℕ) (m0 m : BTreeMap (Bor (List ℕ)) (Option ℕ)) (saved0 saved : List Saved) : Type 0 where
  pub binds : (ns : List Shown) → Binds m0 ns → (w : Bor (List ℕ)) → IsUtf8 w.now → bound_in m w ≡ shown_over q f i (map named_of (take at list)) ns (chars w.now)
  pub back : (ns : List Shown) → Binds m0 ns → saved0 ≡ [] → (t : Text) → restored (reverse saved) t (shown_over q f i (map named_of (take at list)) ns t) ≡ bound_to t ns

pub showing_begins : (q : Bool) (f : Frame) (i : ℕ) (list : List Kept) (m : BTreeMap (Bor (List ℕ)) (Option ℕ)) (saved : List Saved) → Showing q f i list 0 m m saved saved
showing_begins q f i list m saved = record { binds = λ ns b. b; back = λ ns b e t. ap (λ z. restored (reverse z) t (bound_to t ns)) e }

or_turn : (a b c : Bool) → (a && b) || c ≡ c || (a && b)
or_turn true true true = refl
or_turn true true false = refl
or_turn true false true = refl
or_turn true false false = refl
or_turn false b true = refl
or_turn false b false = refl

or_assoc : (a b c : Bool) → a || (b || c) ≡ (a || b) || c
or_assoc true b c = refl
or_assoc false b c = refl

or_none : (a : Bool) → a || false ≡ a
or_none true = refl
or_none false = refl

-- one declaration more
shown_more : (q : Bool) (f : Frame) (t : Text) (ds : List Named) (n : Named) → is_shown q (frame_of f) t (ds ++ n ∷ []) ≡ is_shown q (frame_of f) t ds || (shows q (frame_of f) n && same t n.is.name)
shown_more q f t [] n = or_none (shows q (frame_of f) n && same t n.is.name)
shown_more q f t (d ∷ ds) n = ap (λ z. (shows q (frame_of f) d && same t d.is.name) || z) (shown_more q f t ds n)
    ∙ or_assoc (shows q (frame_of f) d && same t d.is.name) (is_shown q (frame_of f) t ds) (shows q (frame_of f) n && same t n.is.name)

map_push : (xs : List Kept) (x : Kept) → map named_of (xs ++ x ∷ []) ≡ map named_of xs ++ named_of x ∷ []
map_push [] x = refl
map_push (y ∷ xs) x = ap (λ z. named_of y ∷ z) (map_push xs x)

taken : (list : List Kept) (at : ℕ) (d : Kept) → at < length list → map named_of (take (at + 1) list) ≡ map named_of (take at list) ++ named_of (get_or list at d) ∷ []
taken list at d l = ap (map named_of) (take_more list at d l) ∙ map_push (take at list) (get_or list at d)

-- one that is shown sets its name, others nothing
over_by : (a b : Bool) (i : ℕ) (o : Option ℕ) → cond (a || b) (Some i) o ≡ cond b (Some i) (cond a (Some i) o)
over_by true true i o = refl
over_by true false i o = refl
over_by false b i o = refl

over_more : (q : Bool) (f : Frame) (i : ℕ) (list : List Kept) (at : ℕ) (d : Kept) (ns : List Shown) (t : Text) (b : Bool) → at < length list → b ≡ shows q (frame_of f) (named_of (get_or list at d)) →
    shown_over q f i (map named_of (take (at + 1) list)) ns t ≡ cond (b && same t (chars (get_or list at d).name.now)) (Some i) (shown_over q f i (map named_of (take at list)) ns t)
over_more q f i list at d ns t b l e =
    ap (λ z. cond (is_shown q (frame_of f) t z) (Some i) (bound_to t ns)) (taken list at d l)
    ∙ (ap (λ z. cond z (Some i) (bound_to t ns)) (shown_more q f t (map named_of (take at list)) (named_of (get_or list at d)))
    ∙ (over_by (is_shown q (frame_of f) t (map named_of (take at list))) (shows q (frame_of f) (named_of (get_or list at d)) && same t (chars (get_or list at d).name.now)) i (bound_to t ns)
    ∙ ap (λ z. cond (z && same t (chars (get_or list at d).name.now)) (Some i) (shown_over q f i (map named_of (take at list)) ns t)) (sym e)))

pub showing_passes : (q : Bool) (f : Frame) (i : ℕ) (list : List Kept) (at : ℕ) (d : Kept) (b : Bool) (m0 m : BTreeMap (Bor (List ℕ)) (Option ℕ)) (saved0 saved : List Saved) →
    at < length list → b ≡ shows q (frame_of f) (named_of (get_or list at d)) → b ≡ false → Showing q f i list at m0 m saved0 saved → Showing q f i list (at + 1) m0 m saved0 saved
showing_passes q f i list at d b m0 m saved0 saved l e n h = record {
  binds = λ ns k w u. h.binds ns k w u ∙ sym (over_more q f i list at d ns (chars w.now) false l (sym n ∙ e));
  back = λ ns k z t. ap (restored (reverse saved) t) (over_more q f i list at d ns t false l (sym n ∙ e)) ∙ h.back ns k z t;
}

set_back : (b : Bool) (o x y : Option ℕ) → (b ≡ true → x ≡ o) → cond b x (cond b y o) ≡ o
set_back true o x y f = f refl
set_back false o x y f = refl

pub showing_adds : (q : Bool) (f : Frame) (i : ℕ) (list : List Kept) (at : ℕ) (d : Kept) (b : Bool) (m0 m k : BTreeMap (Bor (List ℕ)) (Option ℕ)) (saved0 saved more : List Saved) →
    at < length list → b ≡ shows q (frame_of f) (named_of (get_or list at d)) → b ≡ true → IsUtf8 (get_or list at d).name.now → Showing q f i list at m0 m saved0 saved →
    IsSet m k (get_or list at d).name (Some i) → reverse more ≡ record { name = (get_or list at d).name; scope = bound_in m (get_or list at d).name } ∷ reverse saved → Showing q f i list (at + 1) m0 k saved0 more
showing_adds q f i list at d b m0 m k saved0 saved more l e n x h s r = record {
  binds = λ ns y w u. s w u ∙ (ap (cond (same (chars w.now) (chars (get_or list at d).name.now)) (Some i)) (h.binds ns y w u) ∙ sym (over_more q f i list at d ns (chars w.now) true l (sym n ∙ e)));
  back = λ ns y z t.
      ap (λ v. restored v t (shown_over q f i (map named_of (take (at + 1) list)) ns t)) r
      ∙ (ap (λ v. restored (reverse saved) t (cond (same t (chars (get_or list at d).name.now)) (bound_in m (get_or list at d).name) v)) (over_more q f i list at d ns t true l (sym n ∙ e))
      ∙ (ap (restored (reverse saved) t) (set_back (same t (chars (get_or list at d).name.now)) (shown_over q f i (map named_of (take at list)) ns t) (bound_in m (get_or list at d).name) (Some i)
      (λ same'. h.binds ns y (get_or list at d).name x ∙ ap (shown_over q f i (map named_of (take at list)) ns) (sym (same_is t (chars (get_or list at d).name.now) same'))))
      ∙ h.back ns y z t));
}

pub shown_binds : (q : Bool) (f : Frame) (i : ℕ) (list : List Kept) (at : ℕ) (m0 m : BTreeMap (Bor (List ℕ)) (Option ℕ)) (saved0 saved : List Saved) → length list ≤ at → Showing q f i list at m0 m saved0 saved →
    (ns : List Shown) → Binds m0 ns → (w : Bor (List ℕ)) → IsUtf8 w.now → bound_in m w ≡ shown_over q f i (map named_of list) ns (chars w.now)
shown_binds q f i list at m0 m saved0 saved l h ns k w u = h.binds ns k w u ∙ ap (λ z. shown_over q f i (map named_of z) ns (chars w.now)) (take_all at list l)

pub shown_back : (q : Bool) (f : Frame) (i : ℕ) (list : List Kept) (at : ℕ) (m0 m : BTreeMap (Bor (List ℕ)) (Option ℕ)) (saved0 saved : List Saved) → length list ≤ at → Showing q f i list at m0 m saved0 saved →
    (ns : List Shown) → Binds m0 ns → saved0 ≡ [] → (t : Text) → restored (reverse saved) t (shown_over q f i (map named_of list) ns t) ≡ bound_to t ns
shown_back q f i list at m0 m saved0 saved l h ns k z t = ap (λ v. restored (reverse saved) t (shown_over q f i (map named_of v) ns t)) (sym (take_all at list l)) ∙ h.back ns k z t

-- what is restored from an index on, the last first
pub restored_one : (saved : List Saved) (at : ℕ) (d : Saved) (m k : BTreeMap (Bor (List ℕ)) (Option ℕ)) (w : Bor (List ℕ)) → at < length saved → IsUtf8 w.now → IsSet m k (get_or saved at d).name (get_or saved at d).scope →
    restored (reverse (take at saved)) (chars w.now) (bound_in k w) ≡ restored (reverse (take (at + 1) saved)) (chars w.now) (bound_in m w)
restored_one saved at d m k w l u s = ap (restored (reverse (take at saved)) (chars w.now)) (s w u)
    ∙ sym (ap (λ z. restored z (chars w.now) (bound_in m w)) (ap reverse (take_more saved at d l) ∙ turned_saved (take at saved) (get_or saved at d)))

pub restored_all : (saved : List Saved) (at : ℕ) (t : Text) (o : Option ℕ) → length saved ≤ at → restored (reverse (take at saved)) t o ≡ restored (reverse saved) t o
restored_all saved at t o l = ap (λ z. restored (reverse z) t o) (take_all at saved l)

found : (b : Bool) (x : Option ℕ) (o : Option (Option ℕ)) → unwrap_or (cond b (Some x) o) None ≡ cond b x (unwrap_or o None)
found true x o = refl
found false x o = refl

pub set_name : (v w : List ℕ) (x : Option ℕ) (o : Option (Option ℕ)) → IsUtf8 v → IsUtf8 w → unwrap_or (cond (is_eq (slice_cmp nat_cmp v w)) (Some x) o) None ≡ cond (same (chars w) (chars v)) x (unwrap_or o None)
set_name v w x o u y = found (is_eq (slice_cmp nat_cmp v w)) x o ∙ ap (λ z. cond z x (unwrap_or o None)) (name_test v w u y)

pub restored_none : (saved : List Saved) (at : ℕ) (t : Text) (o : Option ℕ) → at ≤ 0 → restored (reverse (take at saved)) t o ≡ o
restored_none saved at t o l = let e : at ≡ 0 = omega (arith, l) in ap (λ z. restored (reverse (take z saved)) t o) e

-- the scopes behind an event that begins one, and behind the end of a head
pub step_opens : (e : code.Event) (f : Frame) (at : ℕ) (es inside : List Event) (ns : List Shown) (m : BTreeMap (Bor (List ℕ)) (Option ℕ)) (os : List Open) → e ≡ variant.Opens f → drop at es ≡ plain e ∷ inside →
    ((n : Shown) → Presents es false f at n → Between es m os (n ∷ ns)) → Between es m os (within at ns (plain e) inside)
step_opens e f at es inside ns m os q d k =
    subst (λ z. drop at es ≡ plain z ∷ inside → Between es m os (within at ns (plain z) inside)) (sym q) (λ c. k (shown (frame_of f) at (collected [] inside)) (presents es inside f [] at c)) d

pub step_enters : (e : code.Event) (at : ℕ) (es inside : List Event) (ns : List Shown) (m : BTreeMap (Bor (List ℕ)) (Option ℕ)) (os : List Open) → e ≡ variant.Enters →
    Between es m os (behind_head ns) → Between es m os (within at ns (plain e) inside)
step_enters e at es inside ns m os q b = subst (λ z. Between es m os (within at ns (plain z) inside)) (sym q) b
