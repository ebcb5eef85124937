-- What is answered to the events of a tree is what the tree says by what its nodes give.
use Rattle.std.proofs.Common.{◌≡◌, ℕ, suc, List, [], ◌∷◌, ◌++◌, Bool, true, false, cond, ◌&&◌, ◌||◌, refl, sym, ap, ◌∙◌, append_assoc}
use Rattle.jsx_base.specs.Token.{TokenKind, Text, IdentifierName}
use Rattle.jsx_tree.specs.Kinds.{Switch, Catch, statement, Kind, Tree, leaf, node, list, Forest, none, part}
use Rattle.jsx_tree.specs.Nonterminals.{Nonterminal, is_ident}
use Rattle.jsx_tree.specs.Form.{Position, position, positions}
use Rattle.jsx_tree.specs.Scopes.{Path, below, Sort, is_name_at}
use Rattle.jsx_tree.specs.Clashes.{Export, evals_here}
use Rattle.jsx_names.specs.Events.{Frame, Event, Closes, Declares, Refers, Way, Simply, Exported', InHead, is_head, Mode, Binding, mode, is_scope, frame, has_scope, inner, is_inner, has_head, is_last, is_behind, entering, around, exported_here, wanted_here, exported, wanted, called, of_node, exporting, of_leaf, events_below, events_parts, events_each}
use Rattle.jsx_names.specs.Answers.{Named, collected, Standing, opened, entered, left, scopes, Answer, answer, answers}
use Rattle.jsx_names.specs.Resolved.{inner_names, outer_names, stand, enter, in_node, answer_if, resolved_leaf, resolved, resolved_parts, resolved_each}
use Rattle.jsx_names.proofs.Gives.{Gives, gives_append, gives_around, gives_node, gives_parts, declared_there}

-- events that lead from some open scopes to others, with these answers
pub record Leads (es : List Event) (st : List Standing) (xs : List Answer) (end : List Standing) : Type 0 where
  pub leads : (rest : List Event) → answers st (es ++ rest) ≡ xs ++ answers end rest

no_leads : (st : List Standing) → Leads [] st [] st
no_leads st = record { leads = λ rest. refl }

leads_append : {es gs : List Event} {st mid end : List Standing} {xs ys : List Answer} → Leads es st xs mid → Leads gs mid ys end → Leads (es ++ gs) st (xs ++ ys) end
leads_append {es} {gs} {st} {mid} {end} {xs} {ys} a b = record {
  leads = λ rest.
      ap (answers st) (append_assoc es gs rest)
      ∙ a.leads (gs ++ rest)
      ∙ ap (λ z. xs ++ z) (b.leads rest)
      ∙ sym (append_assoc xs ys (answers end rest));
}

-- without the scope that was opened
abbrev closed : Bool → List Standing → List Standing
closed b st = cond b (left st) st

leads_around : (b : Bool) (f : Frame) (p : Path) {es : List Event} {ns : List Named} {st end : List Standing} {xs : List Answer} → Gives es ns → Leads es (stand b f p ns st) xs end → Leads (around b f p es) st xs (closed b end)
leads_around true f p {es} {ns} {st} {end} {xs} g a = record {
  leads = λ rest.
      ap (λ z. answers (opened f p (collected [] z) ∷ st) z) (append_assoc es (Closes ∷ []) rest)
      ∙ ap (λ z. answers (opened f p z ∷ st) (es ++ Closes ∷ rest)) (declared_there g rest)
      ∙ a.leads (Closes ∷ rest);
}
leads_around false f p g a = a

leads_if : (b : Bool) {es : List Event} {st : List Standing} {xs : List Answer} → Leads es st xs st → Leads (cond b es []) st (cond b xs []) st
leads_if true a = a
leads_if false {es} {st} a = no_leads st

leads_unless : (b : Bool) {es : List Event} {st : List Standing} {xs : List Answer} → Leads es st xs st → Leads (cond b [] es) st (cond b [] xs) st
leads_unless true {es} {st} a = no_leads st
leads_unless false a = a

leads_entering : (b : Bool) (st : List Standing) → Leads (entering b) st [] (enter b st)
leads_entering true st = record { leads = λ rest. refl }
leads_entering false st = no_leads st

leads_wanted : (xs : List Export) (st : List Standing) → Leads (wanted xs) st [] st
leads_wanted [] st = no_leads st
leads_wanted (x ∷ xs) st = record { leads = λ rest. (leads_wanted xs st).leads rest }

leads_exported : (xs : List Export) (st : List Standing) → Leads (exported xs) st [] st
leads_exported [] st = no_leads st
leads_exported (x ∷ xs) st = record { leads = λ rest. (leads_exported xs st).leads rest }

leads_called : (ps : List Path) (st : List Standing) → Leads (called ps) st [] st
leads_called [] st = no_leads st
leads_called (p ∷ ps) st = record { leads = λ rest. (leads_called ps st).leads rest }

leads_node : (k : Kind) (p : Path) (cs : Forest) (st : List Standing) → Leads (of_node k p cs) st [] st
leads_node k p cs st = leads_append (leads_wanted (wanted_here k p cs) st) (leads_append (leads_exported (exported_here k p cs) st) (leads_called (evals_here k p cs) st))

leads_exporting : (w : Way) (t : Text) (p : Path) (st : List Standing) → Leads (exporting w t p) st [] st
leads_exporting Exported' t p st = record { leads = λ rest. refl }
leads_exporting Simply t p st = no_leads st
leads_exporting InHead t p st = no_leads st

leads_declared : (h : Bool) (r : Sort) (t : Text) (p : Path) (st : List Standing) (b : Bool) → is_ident t ≡ b → Leads (Declares h r t p ∷ []) st (answer_if b st t p) st
leads_declared h r t p st b e = record { leads = λ rest. ap (λ z. cond z (answer (scopes st) t p ∷ []) [] ++ answers st rest) e }

leads_name : (b : Bool) (t : Text) (p : Path) (st : List Standing) → Leads (cond b (Refers t p ∷ []) []) st (answer_if b st t p) st
leads_name true t p st = record { leads = λ rest. refl }
leads_name false t p st = no_leads st

nil_behind : {A : Type 0} → (xs : List A) → xs ++ [] ≡ xs
nil_behind [] = refl
nil_behind (x ∷ xs) = ap (λ z. x ∷ z) (nil_behind xs)

leads_same : {es : List Event} {st end : List Standing} {xs ys : List Answer} → xs ≡ ys → Leads es st xs end → Leads es st ys end
leads_same {es} {st} {end} e a = record { leads = λ rest. a.leads rest ∙ ap (λ z. z ++ answers end rest) e }

leads_to : {es : List Event} {st end to : List Standing} {xs : List Answer} → end ≡ to → Leads es st xs end → Leads es st xs to
leads_to {es} {st} {end} {to} {xs} e a = record { leads = λ rest. a.leads rest ∙ ap (λ z. xs ++ answers z rest) e }

leads_leaf : (m : Mode) (q : Kind) (c : Nonterminal) (p : Path) (s : TokenKind) (t : Text) (st : List Standing) → Leads (of_leaf m q c p s t) st (resolved_leaf st m q c p s t) st
leads_leaf (Binding w r) q c p IdentifierName t st = leads_same (nil_behind (answer_if (is_ident t) st t p)) (leads_append (leads_declared (is_head w) r t p st (is_ident t) refl) (leads_exporting w t p st))
leads_leaf m q c p s t st = leads_name (is_name_at q c s t) t p st

-- whether a head is over behind these parts
abbrev after : Kind → List Position → Forest → Bool
after k [] ts = false
after k (s ∷ ss) none = false
after k (position f c g o a ∷ ss) (part t ts) = is_behind k c || after k ss ts

entered_twice : (st : List Standing) → entered (entered st) ≡ entered st
entered_twice [] = refl
entered_twice (s ∷ st) = refl

enter_more : (a b : Bool) (st : List Standing) → enter b (enter a st) ≡ enter (a || b) st
enter_more true true st = entered_twice st
enter_more true false st = refl
enter_more false b st = refl

left_enter : (a : Bool) (s : Standing) (st : List Standing) → left (enter a (s ∷ st)) ≡ st
left_enter true s st = refl
left_enter false s st = refl

-- where a head may be over a scope was opened
head_scope : (q k : Kind) → is_scope q k ≡ false → has_scope k ≡ false → has_head k ≡ false
head_scope q (statement Catch) a b = a
head_scope q (statement Switch) a b = refl
head_scope q k a b = b

no_after : (k : Kind) (ss : List Position) (cs : Forest) → has_head k ≡ false → after k ss cs ≡ false
no_after k [] cs h = refl
no_after k (s ∷ ss) none h = refl
no_after k (position f c g o a ∷ ss) (part t ts) h = ap (λ b. (b && is_last k c) || after k ss ts) h ∙ no_after k ss ts h

closed_all : (b d a : Bool) (f g : Frame) (p : Path) (ns ms : List Named) (st : List Standing) → (b ≡ false → d ≡ false → a ≡ false) → closed b (closed d (enter a (stand d g p ms (stand b f p ns st)))) ≡ st
closed_all true true a f g p ns ms st h = ap left (left_enter a (opened g p ms) (opened f p ns ∷ st))
closed_all false true a f g p ns ms st h = left_enter a (opened g p ms) st
closed_all true false a f g p ns ms st h = left_enter a (opened f p ns) st
closed_all false false a f g p ns ms st h = ap (λ z. enter z st) (h refl refl)

mutual
  pub leads_tree : (m : Mode) (q : Kind) (c : Nonterminal) (p : Path) (t : Tree) (st : List Standing) → Leads (events_below m q c p t) st (resolved st m q c p t) st
  leads_tree m q c p (leaf s t) st = leads_leaf m q c p s t st
  leads_tree m q c p (node k cs) st =
      let inside : List Standing = in_node st m q k p cs in
      leads_to (closed_all (is_scope q k) (has_scope k) (after k (positions k) cs) (frame k) (inner k) p (outer_names m k p cs) (inner_names m k p cs) st (λ a b. no_after k (positions k) cs (head_scope q k a b)))
      (leads_around (is_scope q k) (frame k) p
      (gives_append (gives_node k p cs) (gives_append (gives_parts false m k p 0 (positions k) cs) (gives_around (has_scope k) (inner k) p (gives_parts true m k p 0 (positions k) cs))))
      (leads_append (leads_node k p cs inside) (leads_append (leads_outer m k p 0 (positions k) cs inside)
      (leads_around (has_scope k) (inner k) p (gives_parts true m k p 0 (positions k) cs) (leads_inner m k p 0 (positions k) cs (stand (has_scope k) (inner k) p (inner_names m k p cs) inside))))))
  leads_tree m q c p (list ts) st = leads_each m q c p 0 ts st

  leads_outer : (m : Mode) (k : Kind) (p : Path) (i : ℕ) (ss : List Position) (cs : Forest) (st : List Standing) → Leads (events_parts false m k p i ss cs) st (resolved_parts false st m k p i ss cs) st
  leads_outer m k p i [] cs st = no_leads st
  leads_outer m k p i (s ∷ ss) none st = no_leads st
  leads_outer m k p i (position f c g o a ∷ ss) (part t ts) st =
      leads_append (leads_unless (is_inner k c) (leads_tree (mode m k c) k c (below p i) t st)) (leads_outer m k p (suc i) ss ts st)

  leads_inner : (m : Mode) (k : Kind) (p : Path) (i : ℕ) (ss : List Position) (cs : Forest) (st : List Standing) → Leads (events_parts true m k p i ss cs) st (resolved_parts true st m k p i ss cs) (enter (after k ss cs) st)
  leads_inner m k p i [] cs st = no_leads st
  leads_inner m k p i (s ∷ ss) none st = no_leads st
  leads_inner m k p i (position f c g o a ∷ ss) (part t ts) st =
      leads_to (enter_more (is_behind k c) (after k ss ts) st)
      (leads_append (leads_entering (is_behind k c) st)
      (leads_append (leads_if (is_inner k c) (leads_tree (mode m k c) k c (below p i) t (enter (is_behind k c) st))) (leads_inner m k p (suc i) ss ts (enter (is_behind k c) st))))

  leads_each : (m : Mode) (q : Kind) (c : Nonterminal) (p : Path) (i : ℕ) (ts : Forest) (st : List Standing) → Leads (events_each m q c p i ts) st (resolved_each st m q c p i ts) st
  leads_each m q c p i none st = no_leads st
  leads_each m q c p i (part t ts) st = leads_append (leads_tree m q c (below p i) t st) (leads_each m q c p (suc i) ts st)
