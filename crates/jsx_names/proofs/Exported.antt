-- What the items of a module export by their events, and which names it must declare, is what the definitions say.
use Rattle.std.proofs.Common.{◌≡◌, ℕ, suc, List, [], ◌∷◌, ◌++◌, Bool, true, false, cond, ◌&&◌, ◌||◌, not, refl, sym, ap, ◌∙◌, append_assoc, append-nil, subst}
use Rattle.jsx_base.specs.Token.{IdentifierName}
use Rattle.jsx_tree.specs.Kinds.{Kind, Tree, leaf, node, list, Forest, none, part}
use Rattle.jsx_tree.specs.Nonterminals.{Nonterminal}
use Rattle.jsx_tree.specs.Form.{Position, position, positions}
use Rattle.jsx_tree.specs.Sound.{each_node, each_nodes}
use Rattle.jsx_tree.specs.Scopes.{Path, below, Sort, AsParameter, Declaration, binds, bound, bound_parts, bound_each, is_parameter, is_declared}
use Rattle.jsx_tree.specs.Clashes.{Place, AtName, Export, export, export_each, evals_here}
use Rattle.jsx_tree.proofs.Tokens.{and_left, and_right}
use Rattle.jsx_names.specs.Events.{Frame, Event, Opens, Enters, Closes, Declares, Refers, Exports, Wants, Evals, Exported', InHead, Mode, Plain, Binding, inherited, mode, is_scope, frame, has_scope, inner, is_inner, is_behind, entering, around, exported_here, wanted_here, exported, wanted, called, of_node, of_leaf, events_below, events_parts, events_each}
use Rattle.jsx_names.specs.Answers.{exported_in, missing}
use Rattle.jsx_names.specs.Proper.{has_form, fill, is_proper, has_sides, sides, is_sided}
use Rattle.jsx_names.proofs.Quiet.{is_quiet}
use Rattle.jsx_names.proofs.Bound.{ties, tied, each_tied, form_tied, tied_row, all_tied, tie_mode, tie_bare, all_inner, not_so}
use Rattle.jsx_names.proofs.ScopeNames.{never}
use Rattle.jsx_names.proofs.Places.{is_listing, tame, tame_row, all_tame}
use Rattle.jsx_names.proofs.Unspoken.{unspoken, unspoken_append, unspoken_around, unspoken_entering, unspoken_called, is_still, all_still, is_declaring_item, is_native, native, each_native, native_here, native_listing, part_native, unspoken_leaf, unspoken_tree, unspoken_parts}

-- ---- lists of events

pub exported_append : (es fs : List Event) → exported_in (es ++ fs) ≡ exported_in es ++ exported_in fs
exported_append [] fs = refl
exported_append (Opens f p ∷ es) fs = exported_append es fs
exported_append (Enters ∷ es) fs = exported_append es fs
exported_append (Closes ∷ es) fs = exported_append es fs
exported_append (Declares h r t p ∷ es) fs = exported_append es fs
exported_append (Refers t p ∷ es) fs = exported_append es fs
exported_append (Exports t a ∷ es) fs = ap (λ z. export t a ∷ z) (exported_append es fs)
exported_append (Wants t a ∷ es) fs = exported_append es fs
exported_append (Evals p ∷ es) fs = exported_append es fs

pub missing_append : (ds : List Declaration) (es fs : List Event) → missing ds (es ++ fs) ≡ missing ds es ++ missing ds fs
missing_append ds [] fs = refl
missing_append ds (Opens f p ∷ es) fs = missing_append ds es fs
missing_append ds (Enters ∷ es) fs = missing_append ds es fs
missing_append ds (Closes ∷ es) fs = missing_append ds es fs
missing_append ds (Declares h r t p ∷ es) fs = missing_append ds es fs
missing_append ds (Refers t p ∷ es) fs = missing_append ds es fs
missing_append ds (Exports t a ∷ es) fs = missing_append ds es fs
missing_append ds (Wants t a ∷ es) fs = ap (λ z. cond (is_declared t ds) [] (a ∷ []) ++ z) (missing_append ds es fs) ∙ sym (append_assoc (cond (is_declared t ds) [] (a ∷ [])) (missing ds es) (missing ds fs))
missing_append ds (Evals p ∷ es) fs = missing_append ds es fs

pub exported_none : (es : List Event) → unspoken es ≡ true → exported_in es ≡ []
exported_none [] h = refl
exported_none (Opens f p ∷ es) h = exported_none es h
exported_none (Enters ∷ es) h = exported_none es h
exported_none (Closes ∷ es) h = exported_none es h
exported_none (Declares b r t p ∷ es) h = exported_none es h
exported_none (Refers t p ∷ es) h = exported_none es h
exported_none (Exports t a ∷ es) h = never h
exported_none (Wants t a ∷ es) h = never h
exported_none (Evals p ∷ es) h = exported_none es h

pub missing_none : (ds : List Declaration) (es : List Event) → unspoken es ≡ true → missing ds es ≡ []
missing_none ds [] h = refl
missing_none ds (Opens f p ∷ es) h = missing_none ds es h
missing_none ds (Enters ∷ es) h = missing_none ds es h
missing_none ds (Closes ∷ es) h = missing_none ds es h
missing_none ds (Declares b r t p ∷ es) h = missing_none ds es h
missing_none ds (Refers t p ∷ es) h = missing_none ds es h
missing_none ds (Exports t a ∷ es) h = never h
missing_none ds (Wants t a ∷ es) h = never h
missing_none ds (Evals p ∷ es) h = missing_none ds es h

-- of some names the module declares not all
abbrev pub lacking : List Declaration → List Export → List Place
lacking ds [] = []
lacking ds (e ∷ es) = cond (is_declared e.name ds) [] (e.place ∷ []) ++ lacking ds es

lacking_append : (ds : List Declaration) (xs ys : List Export) → lacking ds (xs ++ ys) ≡ lacking ds xs ++ lacking ds ys
lacking_append ds [] ys = refl
lacking_append ds (x ∷ xs) ys = ap (λ z. cond (is_declared x.name ds) [] (x.place ∷ []) ++ z) (lacking_append ds xs ys) ∙ sym (append_assoc (cond (is_declared x.name ds) [] (x.place ∷ [])) (lacking ds xs) (lacking ds ys))

-- what some events export, and want
pub record Says (es : List Event) (xs ys : List Export) : Type 0 where
  pub exports' : exported_in es ≡ xs
  pub wants : (ds : List Declaration) → missing ds es ≡ lacking ds ys

pub says_append : {es fs : List Event} {xs ys us vs : List Export} → Says es xs ys → Says fs us vs → Says (es ++ fs) (xs ++ us) (ys ++ vs)
says_append {es} {fs} {xs} {ys} {us} {vs} a b = record {
  exports' = exported_append es fs ∙ ap (λ z. z ++ exported_in fs) a.exports' ∙ ap (λ z. xs ++ z) b.exports';
  wants = λ ds. missing_append ds es fs ∙ ap (λ z. z ++ missing ds fs) (a.wants ds) ∙ ap (λ z. lacking ds ys ++ z) (b.wants ds) ∙ sym (lacking_append ds ys vs);
}

pub says_nothing : (es : List Event) → unspoken es ≡ true → Says es [] []
says_nothing es h = record { exports' = exported_none es h; wants = λ ds. missing_none ds es h }

-- with events behind or before that say nothing
pub says_before : {es : List Event} {xs ys : List Export} (fs : List Event) → Says es xs ys → unspoken fs ≡ true → Says (es ++ fs) xs ys
says_before {es} {xs} {ys} fs a h = record {
  exports' = exported_append es fs ∙ ap (λ z. exported_in es ++ z) (exported_none fs h) ∙ append-nil (exported_in es) ∙ a.exports';
  wants = λ ds. missing_append ds es fs ∙ ap (λ z. missing ds es ++ z) (missing_none ds fs h) ∙ append-nil (missing ds es) ∙ a.wants ds;
}

pub says_behind : {es : List Event} {xs ys : List Export} (fs : List Event) → unspoken fs ≡ true → Says es xs ys → Says (fs ++ es) xs ys
says_behind {es} {xs} {ys} fs h a = record {
  exports' = exported_append fs es ∙ ap (λ z. z ++ exported_in es) (exported_none fs h) ∙ a.exports';
  wants = λ ds. missing_append ds fs es ∙ ap (λ z. z ++ missing ds es) (missing_none ds fs h) ∙ a.wants ds;
}

says_opens : {es : List Event} {xs ys : List Export} (f : Frame) (p : Path) → Says es xs ys → Says (Opens f p ∷ es) xs ys
says_opens f p a = record { exports' = a.exports'; wants = a.wants }

pub says_around : {es : List Event} {xs ys : List Export} (b : Bool) (f : Frame) (p : Path) → Says es xs ys → Says (around b f p es) xs ys
says_around true f p a = says_opens f p (says_before (Closes ∷ []) a refl)
says_around false f p a = a

pub says_exported : (xs : List Export) → Says (exported xs) xs []
says_exported [] = record { exports' = refl; wants = λ ds. refl }
says_exported (x ∷ xs) = record { exports' = ap (λ z. x ∷ z) (says_exported xs).exports'; wants = λ ds. (says_exported xs).wants ds }

says_wanted : (xs : List Export) → Says (wanted xs) [] xs
says_wanted [] = record { exports' = refl; wants = λ ds. refl }
says_wanted (x ∷ xs) = record { exports' = (says_wanted xs).exports'; wants = λ ds. ap (λ z. cond (is_declared x.name ds) [] (x.place ∷ []) ++ z) ((says_wanted xs).wants ds) }

says_here : (k : Kind) (p : Path) (cs : Forest) → Says (of_node k p cs) (exported_here k p cs) (wanted_here k p cs)
says_here k p cs = record { exports' = all.exports'; wants = λ ds. all.wants ds ∙ ap (lacking ds) (append-nil (wanted_here k p cs)) }
  where
    all : Says (of_node k p cs) (exported_here k p cs) (wanted_here k p cs ++ [])
    all = says_append (says_wanted (wanted_here k p cs)) (says_before (called (evals_here k p cs)) (says_exported (exported_here k p cs)) (unspoken_called (evals_here k p cs)))

-- a node whose parts export nothing
pub says_node : (m : Mode) (q k : Kind) (c : Nonterminal) (p : Path) (cs : Forest) → is_listing k ≡ false → is_still m ≡ true → is_declaring_item k ≡ false → each_node is_proper (node k cs) ≡ true → each_node is_sided (node k cs) ≡ true → Says (events_below m q c p (node k cs)) (exported_here k p cs) (wanted_here k p cs)
says_node m q k c p cs l e n h z =
    says_around (is_scope q k) (frame k) p
    (says_before (events_parts false m k p 0 (positions k) cs ++ around (has_scope k) (inner k) p (events_parts true m k p 0 (positions k) cs)) (says_here k p cs)
    (unspoken_append (events_parts false m k p 0 (positions k) cs) (around (has_scope k) (inner k) p (events_parts true m k p 0 (positions k) cs)) (parts false)
    (unspoken_around (has_scope k) (inner k) p (events_parts true m k p 0 (positions k) cs) (parts true))))
  where
    parts : (b : Bool) → unspoken (events_parts b m k p 0 (positions k) cs) ≡ true
    parts b = unspoken_parts b m k p 0 (positions k) cs l (all_still m k (positions k) e n) (all_tame k) (and_left (fill (positions k) cs) (each_nodes is_proper cs) h) (and_right (fill (positions k) cs) (each_nodes is_proper cs) h) (and_left (sides (positions k) cs) (each_nodes is_sided cs) z) (and_right (sides (positions k) cs) (each_nodes is_sided cs) z)

-- ---- names that are declared and exported

export_append : (ds es : List Declaration) → export_each (ds ++ es) ≡ export_each ds ++ export_each es
export_append [] es = refl
export_append (d ∷ ds) es = ap (λ z. export d.name (AtName d.at) ∷ z) (export_append ds es)

pub record Sends (es : List Event) (ds : List Declaration) : Type 0 where
  pub sends : Says es (export_each ds) []

pub sends_append : {es fs : List Event} {ds cs : List Declaration} → Sends es ds → Sends fs cs → Sends (es ++ fs) (ds ++ cs)
sends_append {es} {fs} {ds} {cs} a b = record { sends = record { exports' = (says_append a.sends b.sends).exports' ∙ sym (export_append ds cs); wants = (says_append a.sends b.sends).wants } }

pub sends_nothing : (es : List Event) → unspoken es ≡ true → Sends es []
sends_nothing es h = record { sends = says_nothing es h }

no_outers_sent : (m : Mode) (k : Kind) (p : Path) (i : ℕ) (ss : List Position) (cs : Forest) → has_scope k ≡ false → events_parts false m k p i ss cs ≡ []
no_outers_sent m k p i [] cs h = refl
no_outers_sent m k p i (s ∷ ss) none h = refl
no_outers_sent m k p i (position f c g o a ∷ ss) (part t ts) h = ap (λ b. cond b [] (events_below (mode m k c) k c (below p i) t) ++ events_parts false m k p (suc i) ss ts) (all_inner k c h) ∙ no_outers_sent m k p (suc i) ss ts h

sends_part : (s : Sort) (k : Kind) (c : Nonterminal) (p : Path) (t : Tree) (b : Bool) → binds c ≡ b → mode (Binding Exported' s) k c ≡ inherited c (Binding Exported' s)
    → (b ≡ true → Sends (events_below (Binding Exported' s) k c p t) (bound s p t)) → (b ≡ false → unspoken (events_below Plain k c p t) ≡ true)
    → Sends (events_below (mode (Binding Exported' s) k c) k c p t) (cond b (bound s p t) [])
sends_part s k c p t true e m f g = subst (λ z. Sends (events_below z k c p t) (bound s p t)) (sym (m ∙ ap (λ b. cond b (Binding Exported' s) Plain) e)) (f refl)
sends_part s k c p t false e m f g = subst (λ z. Sends (events_below z k c p t) []) (sym (m ∙ ap (λ b. cond b (Binding Exported' s) Plain) e)) (sends_nothing (events_below Plain k c p t) (g refl))

sends_inner : (b : Bool) (es : List Event) (ds : List Declaration) → b ≡ true → Sends es ds → Sends (cond b es []) ds
sends_inner true es ds e s = s
sends_inner false es ds e s = never e

sends_entering : (b : Bool) (es : List Event) (ds : List Declaration) → Sends es ds → Sends (entering b ++ es) ds
sends_entering b es ds s = record { sends = says_behind (entering b) (unspoken_entering b) s.sends }

sends_node : (s : Sort) (q k : Kind) (c : Nonterminal) (p : Path) (cs : Forest) → ties k ≡ true → is_native k ≡ true → Sends (events_parts true (Binding Exported' s) k p 0 (positions k) cs) (bound_parts s p 0 (positions k) cs) → Sends (events_below (Binding Exported' s) q c p (node k cs)) (bound_parts s p 0 (positions k) cs)
sends_node s q k c p cs b n a = record {
  sends =
      says_around (is_scope q k) (frame k) p
      (says_behind (of_node k p cs) (ap unspoken (native_here k p cs n) ∙ unspoken_called (evals_here k p cs))
      (says_behind (events_parts false (Binding Exported' s) k p 0 (positions k) cs) (ap unspoken (no_outers_sent (Binding Exported' s) k p 0 (positions k) cs (tie_bare k b)))
      (says_around (has_scope k) (inner k) p a.sends)));
}

mutual
  pub sends_tree : (s : Sort) (q : Kind) (c : Nonterminal) (p : Path) (t : Tree) → tied t ≡ true → native t ≡ true → each_node is_proper t ≡ true → each_node is_sided t ≡ true → Sends (events_below (Binding Exported' s) q c p t) (bound s p t)
  sends_tree s q c p (leaf IdentifierName x) b n h z = record { sends = record { exports' = refl; wants = λ ds. refl } }
  sends_tree s q c p (leaf k x) b n h z = sends_nothing (of_leaf Plain q c p k x) (unspoken_leaf Plain q c p k x refl)
  sends_tree s q c p (list ts) b n h z = sends_each s q c p 0 ts b n h z
  sends_tree s q c p (node k cs) b n h z =
      sends_node s q k c p cs b n
      (sends_parts s k p 0 (positions k) cs b n (all_tied k b) (all_tame k) (and_left (fill (positions k) cs) (each_nodes is_proper cs) h) (and_right (fill (positions k) cs) (each_nodes is_proper cs) h) (and_left (sides (positions k) cs) (each_nodes is_sided cs) z) (and_right (sides (positions k) cs) (each_nodes is_sided cs) z))

  sends_parts : (s : Sort) (k : Kind) (p : Path) (i : ℕ) (ss : List Position) (cs : Forest) → ties k ≡ true → is_native k ≡ true → tied_row k ss ≡ true → tame_row k ss ≡ true → fill ss cs ≡ true → each_nodes is_proper cs ≡ true → sides ss cs ≡ true → each_nodes is_sided cs ≡ true → Sends (events_parts true (Binding Exported' s) k p i ss cs) (bound_parts s p i ss cs)
  sends_parts s k p i [] cs b n e r w h y z = sends_nothing [] refl
  sends_parts s k p i (x ∷ ss) none b n e r w h y z = sends_nothing [] refl
  sends_parts s k p i (position f c g o a ∷ ss) (part t ts) b n e r w h y z =
      let here : (not (is_parameter k c) && (binds c || is_quiet c)) ≡ true = and_left (not (is_parameter k c) && (binds c || is_quiet c)) (tied_row k ss) e in
      let own : native t ≡ true = part_native k f c t (native_listing k n) (and_left (tame k c) (tame_row k ss) r) (and_left (has_form f c t) (fill ss ts) w) (and_left (has_sides c t) (sides ss ts) y) in
      sends_entering (is_behind k c) (cond (is_inner k c) (events_below (mode (Binding Exported' s) k c) k c (below p i) t) [] ++ events_parts true (Binding Exported' s) k p (suc i) ss ts) (bound_parts s p i (position f c g o a ∷ ss) (part t ts))
      (sends_append
      (sends_inner (is_inner k c) (events_below (mode (Binding Exported' s) k c) k c (below p i) t) (cond (binds c) (bound s (below p i) t) []) (all_inner k c (tie_bare k b))
      (sends_part s k c (below p i) t (binds c) refl
      (tie_mode k (Binding Exported' s) c b ∙ ap (λ v. cond v (Binding InHead AsParameter) (inherited c (Binding Exported' s))) (not_so (is_parameter k c) (and_left (not (is_parameter k c)) (binds c || is_quiet c) here)))
      (λ x. sends_tree s k c (below p i) t (form_tied f c t x (and_left (has_form f c t) (fill ss ts) w)) own (and_left (each_node is_proper t) (each_nodes is_proper ts) h) (and_left (each_node is_sided t) (each_nodes is_sided ts) z))
      (λ x. unspoken_tree Plain k c (below p i) t refl own (and_left (each_node is_proper t) (each_nodes is_proper ts) h) (and_left (each_node is_sided t) (each_nodes is_sided ts) z))))
      (sends_parts s k p (suc i) ss ts b n (and_right (not (is_parameter k c) && (binds c || is_quiet c)) (tied_row k ss) e) (and_right (tame k c) (tame_row k ss) r) (and_right (has_form f c t) (fill ss ts) w) (and_right (each_node is_proper t) (each_nodes is_proper ts) h) (and_right (has_sides c t) (sides ss ts) y) (and_right (each_node is_sided t) (each_nodes is_sided ts) z)))

  sends_each : (s : Sort) (q : Kind) (c : Nonterminal) (p : Path) (i : ℕ) (ts : Forest) → each_tied ts ≡ true → each_native ts ≡ true → each_nodes is_proper ts ≡ true → each_nodes is_sided ts ≡ true → Sends (events_each (Binding Exported' s) q c p i ts) (bound_each s p i ts)
  sends_each s q c p i none b n h z = sends_nothing [] refl
  sends_each s q c p i (part t ts) b n h z =
      sends_append
      (sends_tree s q c (below p i) t (and_left (tied t) (each_tied ts) b) (and_left (native t) (each_native ts) n) (and_left (each_node is_proper t) (each_nodes is_proper ts) h) (and_left (each_node is_sided t) (each_nodes is_sided ts) z))
      (sends_each s q c p (suc i) ts (and_right (tied t) (each_tied ts) b) (and_right (native t) (each_native ts) n) (and_right (each_node is_proper t) (each_nodes is_proper ts) h) (and_right (each_node is_sided t) (each_nodes is_sided ts) z))
