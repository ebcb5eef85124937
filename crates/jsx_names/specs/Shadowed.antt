-- What the code keeps of the scopes that stand open, and of what names refer to now.
use Rattle.std.specs.Prelude.{◌≡◌, ℕ, List, [], ◌∷◌, map, reverse, Bool, true, cond, ⊤, Option, Some, None}
use Rattle.std.specs.Option.{unwrap_or}
use Rattle.std.specs.Str.{chars, IsUtf8}
use Rattle.std.specs.Ordering.{nat_cmp}
use Rattle.std.specs.Cmp.Lexicographic.{slice_cmp}
use Rattle.std.specs.BTreeMap.{BTreeMap, get}
use Rattle.std.specs.declared.vec.Vec.{Vec}
use Rattle.std.specs.declared.alloc.Global.{Global}
use denote.Ref.{Bor}
use Rattle.jsx_base.specs.Token.{Text, same}
use Rattle.jsx_tree.specs.Scopes.{is_declared}
use Rattle.jsx_names.specs.Events.{Event}
use Rattle.jsx_names.specs.Answers.{Named, named}
use Rattle.jsx_names.specs.Bindings.{Shown, bound_to}
use Rattle.jsx_names.specs.Code.{frame_of, sort_of}
use Rattle.jsx_names.specs.Gathered.{Begun, begun, gathered, home_of, is_shown}
use Rattle.jsx_names.specs.declared.event.Frame.{Frame}
use Rattle.jsx_names.specs.declared.gather.Kept.{Kept}
use Rattle.jsx_names.specs.declared.gather.Begun as code
use Rattle.jsx_names.specs.declared.binding.Saved.{Saved}
use Rattle.jsx_names.specs.declared.binding.Open.{Open}

abbrev pub named_of : Kept → Named
named_of k = named k.in_head (sort_of k.sort) (chars k.name.now) []

abbrev pub held : Option (Vec Kept Global) → List Named
held None = []
held (Some ks) = map named_of ks.items

-- the lists have, for each scope, what it keeps of all events
abbrev pub Gathers : BTreeMap ℕ (Vec Kept Global) → List Event → Type 0
Gathers m es = (b : ℕ) → held (get nat_cmp m b) ≡ gathered b 0 [] es

abbrev pub begun_of : code.Begun → Begun
begun_of s = begun s.number (frame_of s.frame)

-- the scopes that stand open, the innermost first
abbrev pub standing : List code.Begun → List Begun
standing ss = map begun_of (reverse ss)

-- each of these has its home, the innermost first
abbrev pub Homes : List code.Begun → Type 0
Homes [] = ⊤
Homes (s ∷ ss) = (s.home ≡ home_of (map begun_of (s ∷ ss))) × Homes ss

abbrev pub bound_in : BTreeMap (Bor (List ℕ)) (Option ℕ) → Bor (List ℕ) → Option ℕ
bound_in m w = unwrap_or (get (λ x y. slice_cmp nat_cmp x.now y.now) m w) None

-- one name is bound to o, and no other is changed
abbrev pub IsSet : BTreeMap (Bor (List ℕ)) (Option ℕ) → BTreeMap (Bor (List ℕ)) (Option ℕ) → Bor (List ℕ) → Option ℕ → Type 0
IsSet m n w o = (v : Bor (List ℕ)) → IsUtf8 v.now → bound_in n v ≡ cond (same (chars v.now) (chars w.now)) o (bound_in m v)

-- the map has what each name is bound to in these scopes
abbrev pub Binds : BTreeMap (Bor (List ℕ)) (Option ℕ) → List Shown → Type 0
Binds m ns = (w : Bor (List ℕ)) → IsUtf8 w.now → bound_in m w ≡ bound_to (chars w.now) ns

-- what a name that is bound to o is bound to once these are restored, the last first
abbrev pub restored : List Saved → Text → Option ℕ → Option ℕ
restored [] t o = o
restored (s ∷ ss) t o = restored ss t (cond (same t (chars s.name.now)) s.scope o)

-- a scope that stands open and what is kept of it
pub record Keeps (es : List Event) (o : Open) (n : Shown) (ns : List Shown) : Type 0 where
  pub number : n.number ≡ o.number
  pub later : (t : Text) → is_declared t n.later ≡ is_shown true (frame_of o.frame) t (gathered o.number 0 [] es)
  pub back : (t : Text) → restored (reverse o.saved.items) t (bound_to t (n ∷ ns)) ≡ bound_to t ns

-- what a name is bound to behind those that a scope shows of these
abbrev pub shown_over : Bool → Frame → ℕ → List Named → List Shown → Text → Option ℕ
shown_over q f i ds ns t = cond (is_shown q (frame_of f) t ds) (Some i) (bound_to t ns)

abbrev pub Restores : List Event → List Open → List Shown → Type 0
Restores es [] [] = ⊤
Restores es [] (n ∷ ns) = ⊥
Restores es (o ∷ os) [] = ⊥
Restores es (o ∷ os) (n ∷ ns) = Keeps es o n ns × Restores es os ns

-- between two events, in the scopes ns
pub record Between (es : List Event) (m : BTreeMap (Bor (List ℕ)) (Option ℕ)) (os : List Open) (ns : List Shown) : Type 0 where
  pub binds : Binds m ns
  pub restores : Restores es (reverse os) ns

-- a scope that shows what is declared in the one with this number
pub record Presents (es : List Event) (q : Bool) (f : Frame) (i : ℕ) (n : Shown) : Type 0 where
  pub number : n.number ≡ i
  pub names : (t : Text) → is_declared t n.names ≡ is_shown q (frame_of f) t (gathered i 0 [] es)
  pub later : (t : Text) → is_declared t n.later ≡ is_shown true (frame_of f) t (gathered i 0 [] es)

-- the number and the frame of the innermost scope
abbrev pub IsTop : List Event → Option (ℕ × Frame) → List Shown → Type 0
IsTop es None [] = ⊤
IsTop es None (n ∷ ns) = ⊥
IsTop es (Some o) [] = ⊥
IsTop es (Some o) (n ∷ ns) = (n.number ≡ o.0) × ((t : Text) → is_declared t n.later ≡ is_shown true (frame_of o.1) t (gathered o.0 0 [] es))
