-- What is fed in parts.
use Rattle.std.proofs.Common.{◌≡◌, ℕ, List, [], ◌∷◌, ◌++◌, refl, sym, subst}
use Rattle.std.proofs.lemmas.List.{append_assoc, append-nil}
use Rattle.jsx_kit.specs.SipHash.{Feeds}
use Rattle.jsx_kit.specs.Fed.{Fed, just, joined, Hashed, fed_each, EachIsSaid}
use Rattle.jsx_kit.specs.declared.hasher.StableHasher.{StableHasher}

pub Feeds_none : (a : StableHasher) → Feeds a a []
Feeds_none a = record { more = λ before held. rw (append-nil before) held }

pub Feeds_append : {x y : List ℕ} (a b d : StableHasher) → Feeds a b x → Feeds b d y → Feeds a d (x ++ y)
Feeds_append {x} {y} a b d f g = record { more = λ before held. rw (← append_assoc before x y) (g.more _ (f.more before held)) }

-- bytes that leave the context as it was
pub Hashed_just : {C : Type 0} {x : List ℕ} (a b : StableHasher) (c : C) → Feeds a b x → Hashed (just x c) a b c
Hashed_just a b c f = record { feeds = f; leaves = refl }

pub Hashed_joined : {C : Type 0} {f g : Fed C} (a b d : StableHasher) (m e : C) → Hashed f a b m → Hashed g b d e → Hashed (joined f g) a d e
Hashed_joined a b d m e h k = record { feeds = Feeds_append a b d h.feeds k.feeds; leaves = k.leaves }

-- the second part was taken with the context that the first one left
pub Hashed_then : {C : Type 0} {f : Fed C} (g : C → Fed C) (said : C → Type 0) (a b d : StableHasher) (m e : C)
    → Hashed f a b m → said f.after → (said m → Hashed (g m) b d e) → Hashed (joined f (g f.after)) a d e
Hashed_then {C} {f} g said a b d m e h s k =
    let P : C → Type 0 = λ c. said c → Hashed (g c) b d e in
    let at : P f.after = subst P h.leaves k in
    Hashed_joined a b d m e h (at s)

-- what is left to feed of items, of all that a hasher was to be fed from the start on
pub record Remaining {C T : Type 0} (fed : T → C → Fed C) (said : T → C → Type 0) (whole : Fed C) (start : StableHasher)
    (left : List T) (context : C) (hasher : StableHasher) : Type 0 where
  pub is_said : EachIsSaid fed said left context
  pub completes : (d : StableHasher) (e : C) → Hashed (fed_each fed left context) hasher d e → Hashed whole start d e

pub Remaining-more : {C T : Type 0} {fed : T → C → Fed C} {said : T → C → Type 0} {whole : Fed C} {start a : StableHasher} {c : C}
    {x : T} {xs left : List T} (b : StableHasher) (m : C)
    → Remaining fed said whole start xs c a → xs ≡ x ∷ left → (said x c → Hashed (fed x c) a b m) → Remaining fed said whole start left m b
Remaining-more {C} {T} {fed} {said} {whole} {start} {a} {c} {x} {xs} {left} b m before e h =
    let At : List T → Type 0 = λ ys. Remaining fed said whole start ys c a in
    let r : Remaining fed said whole start (x ∷ left) c a = subst At e before in
    let first : Hashed (fed x c) a b m = h r.is_said.0 in
    let Said : C → Type 0 = λ k. EachIsSaid fed said left k in
    let Rest : C → Type 0 = λ k. (d : StableHasher) (e : C) → Hashed (fed_each fed left k) b d e → Hashed whole start d e in
    let rest : Rest (fed x c).after = λ d e k. r.completes d e (Hashed_joined a b d m e first k) in
    record {
      is_said = subst Said (sym first.leaves) r.is_said.1;
      completes = subst Rest (sym first.leaves) rest;
    }

pub Remaining-end : {C T : Type 0} {fed : T → C → Fed C} {said : T → C → Type 0} {whole : Fed C} {start a : StableHasher} {c : C} {xs : List T}
    → Remaining fed said whole start xs c a → xs ≡ [] → Hashed whole start a c
Remaining-end {C} {T} {fed} {said} {whole} {start} {a} {c} {xs} before e =
    let At : List T → Type 0 = λ ys. Remaining fed said whole start ys c a in
    let r : Remaining fed said whole start [] c a = subst At e before in
    r.completes a c (Hashed_just a a c (Feeds_none a))
