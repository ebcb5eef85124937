-- What names refer to is told by the numbers of their scopes.
use Rattle.std.proofs.Common.{◌≡◌, ℕ, zero, suc, List, [], ◌∷◌, ◌++◌, drop, Bool, true, false, refl, sym, ap, ◌∙◌}
use Rattle.std.specs.Prelude.{cond, ⊤, Option}
use Rattle.jsx_base.specs.Token.{Text}
use Rattle.jsx_tree.specs.Nonterminals.{is_ident}
use Rattle.jsx_tree.specs.Scopes.{Path, is_declared, lookup}
use Rattle.jsx_names.specs.Events.{Event, Opens, Enters, Closes, Declares, Refers, Exports, Wants, Evals}
use Rattle.jsx_names.specs.Answers.{Answer, Standing, answer, answers, collected, entered, left, opened, scopes}
use Rattle.jsx_names.specs.Bindings as bindings
use Rattle.jsx_names.specs.Bindings.{Shown, behind_head, bindings, bound_to, shown}
use Rattle.jsx_names.specs.ByNumber.{Spoken, answer_by, answers_by, binding_by, names_in, node_at, node_first, node_of, owns, owns_at, owns_first, spoken}

-- functions that have the nodes and flags of these events, from number i on
abbrev Marked : (ℕ → Path) → (ℕ → Bool) → ℕ → List Event → Type 0
Marked P O i [] = ⊤
Marked P O i (e ∷ es) = (P i ≡ node_of e) × (O i ≡ owns e) × Marked P O (suc i) es

abbrev rest : List Event → List Event
rest [] = []
rest (e ∷ es) = es

drop_rest : (i : ℕ) (es : List Event) → rest (drop i es) ≡ drop (suc i) es
drop_rest zero [] = refl
drop_rest zero (e ∷ es) = refl
drop_rest (suc i) [] = refl
drop_rest (suc i) (e ∷ es) = drop_rest i es

marked_from : (all es : List Event) (i : ℕ) → drop i all ≡ es → Marked (node_at all) (owns_at all) i es
marked_from all [] i h = tt
marked_from all (e ∷ es) i h = (ap node_first h, ap owns_first h, marked_from all es (suc i) (sym (drop_rest i all) ∙ ap rest h))

-- the scopes that stand open, with nodes for numbers
abbrev standing : (ℕ → Path) → (ℕ → Bool) → List Shown → List Standing
standing P O [] = []
standing P O (n ∷ ns) = record { scope = record { node' = P n.number; own = O n.number; names = n.names }; rest = n.later } ∷ standing P O ns

found_by : (P : ℕ → Path) (O : ℕ → Bool) (t : Text) (b : Bool) (n : Shown) (ns : List Shown) → is_declared t n.names ≡ b → lookup t (scopes (standing P O ns)) ≡ binding_by P O t (bound_to t ns) →
    lookup t (scopes (standing P O (n ∷ ns))) ≡ binding_by P O t (bound_to t (n ∷ ns))
found_by P O t true n ns e h = rw e refl
found_by P O t false n ns e h = rw e h

found : (P : ℕ → Path) (O : ℕ → Bool) (t : Text) (ns : List Shown) → lookup t (scopes (standing P O ns)) ≡ binding_by P O t (bound_to t ns)
found P O t [] = refl
found P O t (n ∷ ns) = found_by P O t (is_declared t n.names) n ns refl (found P O t ns)

entering : (P : ℕ → Path) (O : ℕ → Bool) (ns : List Shown) → entered (standing P O ns) ≡ standing P O (behind_head ns)
entering P O [] = refl
entering P O (n ∷ ns) = refl

leaving : (P : ℕ → Path) (O : ℕ → Bool) (ns : List Shown) → left (standing P O ns) ≡ standing P O (bindings.left ns)
leaving P O [] = refl
leaving P O (n ∷ ns) = refl

named_by : (P : ℕ → Path) (O : ℕ → Bool) (t : Text) (p : Path) (ns : List Shown) → answer (scopes (standing P O ns)) t p ≡ answer_by P O (spoken t p) (bound_to t ns)
named_by P O t p ns = ap (λ z. record { at = p; binding = z }) (found P O t ns)

if_named : (P : ℕ → Path) (O : ℕ → Bool) (b : Bool) (n : Spoken) (o : Option ℕ) (a : Answer) (ns : List Spoken) (os : List (Option ℕ)) (as' : List Answer) →
    a ≡ answer_by P O n o → as' ≡ answers_by P O ns os → cond b (a ∷ []) [] ++ as' ≡ answers_by P O (cond b (n ∷ []) [] ++ ns) (cond b (o ∷ []) [] ++ os)
if_named P O true n o a ns os as' e h = ap (λ z. z ∷ as') e ∙ ap (λ z. answer_by P O n o ∷ z) h
if_named P O false n o a ns os as' e h = h

abbrev placed : Path → Bool → Standing → Standing
placed p b s = record { scope = record { node' = p; own = b; names = s.scope.names }; rest = s.rest }

opening : (P : ℕ → Path) (O : ℕ → Bool) (i : ℕ) (e : Event) (s : Standing) → P i ≡ node_of e → O i ≡ owns e → placed (node_of e) (owns e) s ≡ placed (P i) (O i) s
opening P O i e s p o = ap (λ z. placed z (owns e) s) (sym p) ∙ ap (λ z. placed (P i) z s) (sym o)

answers_are : (P : ℕ → Path) (O : ℕ → Bool) (i : ℕ) (ns : List Shown) (es : List Event) → Marked P O i es → answers (standing P O ns) es ≡ answers_by P O (names_in es) (bindings i ns es)
answers_are P O i ns [] m = refl
answers_are P O i ns (Opens f p ∷ es) m =
    ap (λ z. answers (z ∷ standing P O ns) es) (opening P O i (Opens f p) (opened f p (collected [] es)) m.0 m.1)
    ∙ answers_are P O (suc i) (shown f i (collected [] es) ∷ ns) es m.2
answers_are P O i ns (Enters ∷ es) m = ap (λ z. answers z es) (entering P O ns) ∙ answers_are P O (suc i) (behind_head ns) es m.2
answers_are P O i ns (Closes ∷ es) m = ap (λ z. answers z es) (leaving P O ns) ∙ answers_are P O (suc i) (bindings.left ns) es m.2
answers_are P O i ns (Declares h s t p ∷ es) m =
    if_named P O (is_ident t) (spoken t p) (bound_to t ns) (answer (scopes (standing P O ns)) t p) (names_in es) (bindings (suc i) ns es) (answers (standing P O ns) es)
    (named_by P O t p ns) (answers_are P O (suc i) ns es m.2)
answers_are P O i ns (Refers t p ∷ es) m =
    ap (λ z. z ∷ answers (standing P O ns) es) (named_by P O t p ns) ∙ ap (λ z. answer_by P O (spoken t p) (bound_to t ns) ∷ z) (answers_are P O (suc i) ns es m.2)
answers_are P O i ns (Exports t a ∷ es) m = answers_are P O (suc i) ns es m.2
answers_are P O i ns (Wants t a ∷ es) m = answers_are P O (suc i) ns es m.2
answers_are P O i ns (Evals p ∷ es) m = answers_are P O (suc i) ns es m.2

pub answers_by_number : (es : List Event) → answers [] es ≡ answers_by (node_at es) (owns_at es) (names_in es) (bindings 0 [] es)
answers_by_number es = answers_are (node_at es) (owns_at es) 0 [] es (marked_from es es 0 refl)
