-- What is planned, and what it comes to once it is written.
use Rattle.std.proofs.Common.{◌≡◌, List, [], ◌∷◌, true, false, cond, codes, length, map, reverse, refl, ap, sym, ◌∙◌, arith, Option, Some, None, Box, Vec, Global}
use Rattle.std.proofs.lemmas.List.{reverse-append}
use Rattle.std.proofs.lemmas.Result.{on_ok_weaker}
use Rattle.std.specs.Prelude.{Result, OnOk}
use Rattle.jsx_base.specs.Token as token
use Rattle.jsx_tree.specs.Kinds.{ComputedKey, Imported, function, Tree, leaf, node, list, none, part}
use Rattle.jsx_tree.specs.View.{forest, kind_of_literal, name_of, optional_name, optional_of, text_of, word}
use Rattle.jsx_tree.specs.declared.text.Ident.{Ident}
use Rattle.jsx_tree.specs.declared.text.LiteralKind.{LiteralKind}
use Rattle.jsx_tree.specs.declared.text.LiteralKind.TheVariants as literal_kind
use Rattle.jsx_tree.specs.declared.text.Text.{Text}
use Rattle.jsx_base.specs.declared.place.Span.{Span}
use Rattle.jsx_tree.specs.ViewProgram.{view_import_clause, view_import_names, view_specifier}
use Rattle.jsx_tree.specs.declared.program.ImportClause.{ImportClause}
use Rattle.jsx_tree.specs.declared.program.ImportClause.TheVariants as import_clause
use Rattle.jsx_tree.specs.declared.program.ImportNames.{ImportNames}
use Rattle.jsx_tree.specs.declared.program.ImportNames.TheVariants as import_names
use Rattle.jsx_tree.specs.declared.program.Specifier.{Specifier}
use Rattle.jsx_tree.specs.declared.program.Specifier.TheVariants as specifier
use Rattle.jsx_tree.specs.declared.tree.Access.{Access}
use Rattle.jsx_tree.specs.declared.tree.Control.{Control}
use Rattle.jsx_tree.specs.declared.tree.Expr.{Expr}
use Rattle.jsx_tree.specs.declared.tree.Jsx.{Jsx}
use Rattle.jsx_tree.specs.declared.tree.Key.{Key}
use Rattle.jsx_tree.specs.declared.tree.Key.TheVariants as key
use Rattle.jsx_tree.specs.declared.tree.Link.{Link}
use Rattle.jsx_tree.specs.declared.tree.Operation.{Operation}
use Rattle.jsx_tree.specs.declared.tree.Pat.{Pat}
use Rattle.jsx_tree.specs.declared.tree.Prop.{Prop}
use Rattle.jsx_tree.specs.declared.tree.Stmt.{Stmt}
use Rattle.jsx_tree.specs.declared.tree.Access.TheOpen.{Key-F}
use Rattle.jsx_tree.specs.declared.tree.Access.TheViews.{roll-Key, out-Key, roll-out-Key}
use Rattle.jsx_tree.specs.Grammar.{Commas, pun}
use Rattle.jsx_tree.specs.Signs.{Sign, End, Pad}
use Rattle.jsx_tree.specs.Spelling.{gathered}
use Rattle.jsx_plan.specs.Noted.{noted_expr, noted_key}
use Rattle.jsx_plan.proofs.Noted.{noted_views, noted-Key-Computed, noted-Key-Literal, noted-Key-Name}
use Rattle.jsx_plan.specs.declared.printer.Printer.{Printer}
use Rattle.jsx_pen.specs.Pen.{State, end_text, ends_void, inked, opted, named, padded, placed_at, puts, raw, rows, signs, templated}
use Rattle.jsx_plan.specs.Plan.{Ink, Job, Lead, Place, Put, Spans, Task, behind, braced, clause_in, did, job_of, keyed, led, led_boxed, led_name, may, may_boxed, may_name, may_place, names_in, outcome, pen_of, pushed, renamed, runs, seen, templ}
use Rattle.jsx_plan.proofs.Gathering.{gathered_commas}
use Rattle.jsx_plan.proofs.Printing.{signs_call, elided_end, parts, printing, signs_getter, signs_setter, spaced_is}
use Rattle.jsx_plan.proofs.Spanning.{spanning, template_signs}
use Rattle.jsx_pen.proofs.Characters.{chars_ascii}
use Rattle.jsx_pen.proofs.Writing.{inked_inked, inked_raw, puts_append, writing}

pub job_is : (p : Printer) → job_of p ≡ record { pen = p.pen; todo = map seen (reverse p.todo.items) }
unfolding job_of
job_is p = refl

pub pushed_is : (j : Job) (x : Task) → pushed j x ≡ record { pen = j.pen; todo = x ∷ j.todo }
unfolding pushed
pushed_is j x = refl

pub pen_is : (j : Job) → pen_of j ≡ j.pen
unfolding pen_of
pen_is j = refl

pub behind_is : (j : Job) (p : State) → behind j p ≡ runs p j.todo
unfolding behind
behind_is j p = refl

pub ruleset pushing = (job_is, pushed_is, reverse-append)

-- the characters of a token that the printer writes itself
pub ruleset ascii = (chars_ascii)

pub ruleset stepping = (job_is, pen_is, behind_is)

pub ruleset running = (job_is, pen_is, behind_is, reverse-append)

pub behind_pushed : (j : Job) (x : Task) (p : State) → behind (pushed j x) p ≡ behind j (did p x)
unfolding behind pushed
behind_pushed j x p = refl

pub pen_pushed : (j : Job) (x : Task) → pen_of (pushed j x) ≡ pen_of j
unfolding pen_of pushed
pen_pushed j x = refl

-- a production that ends with a call that may fail
pub planned : {T E : Type 0} (r : Result T E) (j : Job) (k : Job) {x : State} → OnOk r (j ≡ k) → outcome k ≡ x → OnOk r (outcome j ≡ x)
planned r j k h e = on_ok_weaker r (λ d. ap outcome d ∙ e) h

pub planned_on : {T E : Type 0} (r : Result T E) (y : State) (z : State) {x : State} → OnOk r (y ≡ z) → z ≡ x → OnOk r (y ≡ x)
planned_on r y z h e = on_ok_weaker r (λ d. d ∙ e) h

-- ---- the place of a call

pub behind_may_place : (j : Job) (at : Option Span) (p : State) → behind (may_place j at) p ≡ behind j (placed_at p at)
unfolding behind pushed may_place
behind_may_place j None p = refl
behind_may_place j (Some s) p = refl

pub pen_may_place : (j : Job) (at : Option Span) → pen_of (may_place j at) ≡ pen_of j
unfolding pen_of pushed may_place
pen_may_place j None = refl
pen_may_place j (Some s) = refl

pub may_place_is : (j : Job) (s : Span) → may_place j (Some s) ≡ pushed j (Place s.lo.0)
unfolding may_place
may_place_is j s = refl

pub no_may_place : (j : Job) → may_place j None ≡ j
unfolding may_place
no_may_place j = refl

pub ruleset placing = (may_place_is, no_may_place)

-- ---- parts that may be absent

pub behind_may : (j : Job) (t : Tree) (p : State) → behind (may j t) p ≡ behind j (named p t)
unfolding behind pushed may
behind_may j (leaf s x) p = refl
behind_may j (node k cs) p = refl
behind_may j (list none) p = refl
behind_may j (list (part t ts)) p = refl

pub pen_may : (j : Job) (t : Tree) → pen_of (may j t) ≡ pen_of j
unfolding pen_of pushed may
pen_may j (leaf s x) = refl
pen_may j (node k cs) = refl
pen_may j (list none) = refl
pen_may j (list (part t ts)) = refl

pub behind_led : (j : Job) (a : token.Text) (t : Tree) (p : State) → behind (led j a t) p ≡ behind j (opted p a t)
unfolding behind pushed led
behind_led j a (leaf s x) p = refl
behind_led j a (node k cs) p = refl
behind_led j a (list none) p = refl
behind_led j a (list (part t ts)) p = refl

pub pen_led : (j : Job) (a : token.Text) (t : Tree) → pen_of (led j a t) ≡ pen_of j
unfolding pen_of pushed led
pen_led j a (leaf s x) = refl
pen_led j a (node k cs) = refl
pen_led j a (list none) = refl
pen_led j a (list (part t ts)) = refl

pub behind_may_name : (j : Job) (a : Option Ident) (p : State) → behind (may_name j a) p ≡ behind j (named p (optional_name a))
unfolding behind pushed may_name
behind_may_name j None p = refl
behind_may_name j (Some a) p = refl

pub pen_may_name : (j : Job) (a : Option Ident) → pen_of (may_name j a) ≡ pen_of j
unfolding pen_of pushed may_name
pen_may_name j None = refl
pen_may_name j (Some a) = refl

pub behind_led_name : (j : Job) (b : token.Text) (a : Option Ident) (p : State) → behind (led_name j b a) p ≡ behind j (opted p b (optional_name a))
unfolding behind pushed led_name
behind_led_name j b None p = refl
behind_led_name j b (Some a) p = refl

pub pen_led_name : (j : Job) (b : token.Text) (a : Option Ident) → pen_of (led_name j b a) ≡ pen_of j
unfolding pen_of pushed led_name
pen_led_name j b None = refl
pen_led_name j b (Some a) = refl

pub behind_may_boxed : (j : Job) (a : Option (Box Ident Global)) (p : State) → behind (may_boxed j a) p ≡ behind j (named p (optional_of name_of a))
unfolding behind pushed may_boxed
behind_may_boxed j None p = refl
behind_may_boxed j (Some a) p = refl

pub pen_may_boxed : (j : Job) (a : Option (Box Ident Global)) → pen_of (may_boxed j a) ≡ pen_of j
unfolding pen_of pushed may_boxed
pen_may_boxed j None = refl
pen_may_boxed j (Some a) = refl

pub behind_led_boxed : (j : Job) (b : token.Text) (a : Option (Box Ident Global)) (p : State) → behind (led_boxed j b a) p ≡ behind j (opted p b (optional_of name_of a))
unfolding behind pushed led_boxed
behind_led_boxed j b None p = refl
behind_led_boxed j b (Some a) p = refl

pub pen_led_boxed : (j : Job) (b : token.Text) (a : Option (Box Ident Global)) → pen_of (led_boxed j b a) ≡ pen_of j
unfolding pen_of pushed led_boxed
pen_led_boxed j b None = refl
pen_led_boxed j b (Some a) = refl

-- ---- keys and templates

keyed_computed : (j : Job) (a : Tree) (p : State) → behind (keyed j (node (function ComputedKey) (part a none))) p ≡ behind j (puts p (signs (node (function ComputedKey) (part a none))))
unfolding behind pushed keyed
keyed_computed j a p = ap (λ q. runs q j.todo) (sym (puts_append (inked p (codes "[")) (signs a) (pun "]" ∷ End ∷ [])))

keyed_leaf : (j : Job) (a : Text) (p : State) → behind (keyed j (word a)) p ≡ behind j (puts p (signs (word a)))
unfolding behind pushed keyed
keyed_leaf j a p = refl

keyed_literal : (j : Job) (k : LiteralKind) (a : Text) (p : State) → behind (keyed j (leaf (kind_of_literal k) (text_of a))) p ≡ behind j (puts p (signs (leaf (kind_of_literal k) (text_of a))))
unfolding behind pushed keyed
keyed_literal j literal_kind.Num a p = refl
keyed_literal j literal_kind.BigInt a p = refl
keyed_literal j literal_kind.Str a p = refl
keyed_literal j literal_kind.RegExp a p = refl

as_key : (j : Job) (p : State) (k : Key) (t : Tree) → noted_key k ≡ t → behind (keyed j t) p ≡ behind j (puts p (signs t)) → behind (keyed j (noted_key k)) p ≡ behind j (puts p (signs (noted_key k)))
as_key j p k t e h = ap (λ u. behind (keyed j u) p) e ∙ h ∙ sym (ap (λ u. behind j (puts p (signs u))) e)

keyed_rolled : (j : Job) (y : Key-F Access Control Expr Jsx Key Link Operation Pat Prop Stmt) (p : State) → behind (keyed j (noted_key (roll-Key y))) p ≡ behind j (puts p (signs (noted_key (roll-Key y))))
keyed_rolled j (Key-F.Name a) p = as_key j p (roll-Key (Key-F.Name a)) (word a) (ap noted_key (key.rolls-Name a) ∙ noted-Key-Name a) (keyed_leaf j a p)
keyed_rolled j (Key-F.«Key::Literal» k a) p = as_key j p (roll-Key (Key-F.«Key::Literal» k a)) (leaf (kind_of_literal k) (text_of a)) (ap noted_key (key.rolls-Literal k a) ∙ noted-Key-Literal k a) (keyed_literal j k a p)
keyed_rolled j (Key-F.Computed at a) p = as_key j p (roll-Key (Key-F.Computed at a)) (node (function ComputedKey) (part (noted_expr a.value) none)) (ap noted_key (key.rolls-Computed at a) ∙ noted-Key-Computed at a) (keyed_computed j (noted_expr a.value) p)

pub behind_keyed : (j : Job) (k : Key) (p : State) → behind (keyed j (noted_key k)) p ≡ behind j (puts p (signs (noted_key k)))
behind_keyed j k p = ap (λ e. behind (keyed j (noted_key e)) p) (sym (roll-out-Key k)) ∙ keyed_rolled j (out-Key k) p ∙ ap (λ e. behind j (puts p (signs (noted_key e)))) (roll-out-Key k)

pub pen_keyed : (j : Job) (t : Tree) → pen_of (keyed j t) ≡ pen_of j
unfolding pen_of pushed keyed
pen_keyed j (leaf s x) = refl
pen_keyed j (node k none) = refl
pen_keyed j (node k (part e none)) = refl
pen_keyed j (node k (part e (part f us))) = refl
pen_keyed j (list ts) = refl

pub keyed_name : (j : Job) (s : token.TokenKind) (t : token.Text) → keyed j (leaf s t) ≡ pushed j (Ink t)
unfolding keyed
keyed_name j s t = refl

pub keyed_node : (j : Job) (a : Tree) → keyed j (node (function ComputedKey) (part a none)) ≡ pushed (pushed (pushed j (Ink (codes "]"))) (Put a)) (Ink (codes "["))
unfolding keyed
keyed_node j a = refl

pub behind_templ : (j : Job) (as' : List Text) (ts : List Tree) (p : State) → behind (templ j as' ts) p ≡ behind j (templated p as' ts)
unfolding behind pushed templ
behind_templ j [] ts p = refl
behind_templ j (a ∷ as') ts p = refl

pub pen_templ : (j : Job) (as' : List Text) (ts : List Tree) → pen_of (templ j as' ts) ≡ pen_of j
unfolding pen_of pushed templ
pen_templ j [] ts = refl
pen_templ j (a ∷ as') ts = refl

-- ---- imports

starred : (p : State) → raw (inked (raw (inked p (codes "*")) (codes " ")) (codes "as")) (codes " ") ≡ inked p (codes "* as ")
starred p = ap (λ q. raw (inked q (codes "as")) (codes " ")) (inked_raw p 42 [] (codes " ")) ∙ ap (λ q. raw q (codes " ")) (inked_inked p 42 (codes " ") (codes "as")) ∙ inked_raw p 42 (codes " as") (codes " ")

pub behind_names : (j : Job) (x : ImportNames) (p : State) → behind (names_in j x) p ≡ behind j (puts p (signs (view_import_names x)))
unfolding behind pushed names_in
behind_names j (import_names.All at a) p = ap (λ q. runs (inked q (text_of a.text)) j.todo) (sym (starred p))
behind_names j (import_names.List at ss) p =
    let q = padded (inked p (codes "{")) in
    let xs = rows (forest (map (view_specifier Imported) ss.items)) in
    ap (λ r. runs (inked (padded r) (codes "}")) j.todo) (sym (gathered_commas q xs)) ∙ ap (λ r. runs r j.todo) (sym (puts_append q (gathered Commas xs) (Pad ∷ pun "}" ∷ End ∷ [])))

pub pen_names : (j : Job) (x : ImportNames) → pen_of (names_in j x) ≡ pen_of j
unfolding pen_of pushed names_in
pen_names j (import_names.All at a) = refl
pen_names j (import_names.List at ss) = refl

behind_both : (j : Job) (a : token.Text) (p : State) → behind (pushed (pushed j (Ink (codes ", "))) (Ink a)) p ≡ behind j (inked (inked p a) (codes ", "))
unfolding behind pushed
behind_both j a p = refl

behind_one : (j : Job) (a : token.Text) (p : State) → behind (pushed j (Ink a)) p ≡ behind j (inked p a)
unfolding behind pushed
behind_one j a p = refl

pub behind_clause : (j : Job) (x : ImportClause) (p : State) → behind (clause_in j x) p ≡ behind j (puts p (signs (view_import_clause x)))
unfolding clause_in
behind_clause j (import_clause.Default a) p = behind_one j (text_of a.text) p
behind_clause j (import_clause.Names ns) p = behind_names j ns p
behind_clause j (import_clause.Both at a ns) p =
    behind_both (names_in j ns) (text_of a.text) p ∙ behind_names j ns (inked (inked p (text_of a.text)) (codes ", "))
    ∙ ap (λ q. behind j (puts q (signs (view_import_names ns)))) (sym (inked_raw (inked p (text_of a.text)) 44 [] (codes " ")))
    ∙ ap (λ q. behind j q) (sym (puts_append (raw (inked (inked p (text_of a.text)) (codes ",")) (codes " ")) (signs (view_import_names ns)) (End ∷ [])))

pub pen_clause : (j : Job) (x : ImportClause) → pen_of (clause_in j x) ≡ pen_of j
unfolding clause_in
pen_clause j (import_clause.Default a) = pen_pushed j (Ink (text_of a.text))
pen_clause j (import_clause.Names ns) = pen_names j ns
pen_clause j (import_clause.Both at a ns) = pen_pushed (pushed (names_in j ns) (Ink (codes ", "))) (Ink (text_of a.text)) ∙ pen_pushed (names_in j ns) (Ink (codes ", ")) ∙ pen_names j ns

pub behind_renamed : (j : Job) (x : Specifier) (p : State) → behind (renamed j x) p ≡ behind j (puts p (signs (view_specifier Imported x)))
unfolding behind pushed renamed
behind_renamed j (specifier.Same at a) p = refl
behind_renamed j (specifier.As at a b) p = ap (λ q. runs (inked q (text_of b)) j.todo) (sym (spaced_is (inked p (text_of a)) (codes "as")))

pub pen_renamed : (j : Job) (x : Specifier) → pen_of (renamed j x) ≡ pen_of j
unfolding pen_of pushed renamed
pen_renamed j (specifier.Same at a) = refl
pen_renamed j (specifier.As at a b) = refl

pub ruleset planning = (behind_pushed, pen_pushed, behind_may, pen_may, behind_led, pen_led, behind_may_name, pen_may_name, behind_led_name, pen_led_name, behind_may_boxed, pen_may_boxed, behind_led_boxed, pen_led_boxed, behind_keyed, pen_keyed, behind_templ, pen_templ, printing)

-- tokens and parts that are always there
pub ruleset plain = (behind_pushed, pen_pushed, gathered_commas, writing)

-- parts that may be absent
pub ruleset absent = (behind_pushed, pen_pushed, behind_may, pen_may, behind_led, pen_led, behind_may_name, pen_may_name, behind_led_name, pen_led_name, behind_may_boxed, pen_may_boxed, behind_led_boxed, pen_led_boxed, parts, gathered_commas, writing)

pub ruleset accessors = (behind_pushed, pen_pushed, behind_keyed, pen_keyed, signs_getter, signs_setter, writing)

-- where a node is told by its variant
pub ruleset opening = (planning, noted_views)

-- calls
pub ruleset calls = (behind_pushed, pen_pushed, behind_may_place, pen_may_place, signs_call)

pub ruleset variants = (behind_pushed, pen_pushed, behind_templ, pen_templ, template_signs, noted_views)

pub ruleset arrays = (planning, elided_end)

pub ruleset importing = (planning, behind_clause, pen_clause)

pub ruleset spans = (behind_pushed, pen_pushed, spanning)

-- ---- what is pushed of them

pub led_some : (j : Job) (a : token.Text) (t : Tree) → led j a (list (part t none)) ≡ pushed (pushed j (Put t)) (Lead a)
unfolding led
led_some j a t = refl

pub led_none : (j : Job) (a : token.Text) → led j a (list none) ≡ j
unfolding led
led_none j a = refl

pub may_some : (j : Job) (t : Tree) → may j (list (part t none)) ≡ pushed j (Put t)
unfolding may
may_some j t = refl

pub may_absent : (j : Job) → may j (list none) ≡ j
unfolding may
may_absent j = refl

pub led_name_is : (j : Job) (b : token.Text) (a : Ident) → led_name j b (Some a) ≡ pushed (pushed j (Ink (text_of a.text))) (Lead b)
unfolding led_name
led_name_is j b a = refl

pub no_led_name : (j : Job) (b : token.Text) → led_name j b None ≡ j
unfolding led_name
no_led_name j b = refl

pub may_name_is : (j : Job) (a : Ident) → may_name j (Some a) ≡ pushed j (Ink (text_of a.text))
unfolding may_name
may_name_is j a = refl

pub no_may_name : (j : Job) → may_name j None ≡ j
unfolding may_name
no_may_name j = refl

pub led_boxed_is : (j : Job) (b : token.Text) (a : Box Ident Global) → led_boxed j b (Some a) ≡ pushed (pushed j (Ink (text_of a.value.text))) (Lead b)
unfolding led_boxed
led_boxed_is j b a = refl

pub no_led_boxed : (j : Job) (b : token.Text) → led_boxed j b None ≡ j
unfolding led_boxed
no_led_boxed j b = refl

pub may_boxed_is : (j : Job) (a : Box Ident Global) → may_boxed j (Some a) ≡ pushed j (Ink (text_of a.value.text))
unfolding may_boxed
may_boxed_is j a = refl

pub no_may_boxed : (j : Job) → may_boxed j None ≡ j
unfolding may_boxed
no_may_boxed j = refl

templ_cons : (j : Job) (a : Text) (rest : List Text) (ts : List Tree) → templ j (a ∷ rest) ts ≡ pushed (pushed j (Spans rest ts)) (Ink (text_of a))
unfolding templ
templ_cons j a rest ts = refl

pub templ_is : (j : Job) (as' : List Text) (a : Text) (rest : List Text) (ts : List Tree) → as' ≡ a ∷ rest → templ j as' ts ≡ pushed (pushed j (Spans rest ts)) (Ink (text_of a))
templ_is j as' a rest ts e = ap (λ bs. templ j bs ts) e ∙ templ_cons j a rest ts

pub no_templ : (j : Job) (as' : List Text) (ts : List Tree) → length as' ≡ 0 → templ j as' ts ≡ j
unfolding templ
no_templ j [] ts h = refl
no_templ j (a ∷ as') ts h = absurd (omega (arith, h))

pub ruleset optional = (noted_views, led_some, led_none, may_some, may_absent, led_name_is, no_led_name, may_name_is, no_may_name, led_boxed_is, no_led_boxed, may_boxed_is, no_may_boxed, keyed_name, keyed_node, templ_is, no_templ)

pub all_names : (j : Job) (at : Option Span) (a : Ident) → names_in j (import_names.All at a) ≡ pushed (pushed j (Ink (text_of a.text))) (Ink (codes "* as "))
unfolding names_in
all_names j at a = refl

pub listed_names : (j : Job) (at : Option Span) (ss : Vec Specifier Global) → names_in j (import_names.List at ss) ≡ braced j (forest (map (view_specifier Imported) ss.items))
unfolding names_in
listed_names j at ss = refl

pub default_clause : (j : Job) (a : Ident) → clause_in j (import_clause.Default a) ≡ pushed j (Ink (text_of a.text))
unfolding clause_in
default_clause j a = refl

pub names_clause : (j : Job) (ns : ImportNames) → clause_in j (import_clause.Names ns) ≡ names_in j ns
unfolding clause_in
names_clause j ns = refl

pub both_clause : (j : Job) (at : Option Span) (a : Ident) (ns : ImportNames) → clause_in j (import_clause.Both at a ns) ≡ pushed (pushed (names_in j ns) (Ink (codes ", "))) (Ink (text_of a.text))
unfolding clause_in
both_clause j at a ns = refl

pub renamed_same : (j : Job) (at : Option Span) (a : Text) → renamed j (specifier.Same at a) ≡ pushed j (Ink (text_of a))
unfolding renamed
renamed_same j at a = refl

pub renamed_as : (j : Job) (at : Option Span) (a : Text) (b : Text) → renamed j (specifier.As at a b) ≡ pushed (pushed (pushed j (Ink (text_of b))) (Lead (codes " as "))) (Ink (text_of a))
unfolding renamed
renamed_as j at a b = refl

pub ruleset clauses = (all_names, listed_names, default_clause, names_clause, both_clause, renamed_same, renamed_as)

-- ---- the end of an array

pub end_hole : (xs : List (List Sign)) → ends_void xs ≡ true → end_text xs ≡ codes ",]"
end_hole xs h = ap (λ b. cond b (codes ",]") (codes "]")) h

pub end_plain : (xs : List (List Sign)) → ends_void xs ≡ false → end_text xs ≡ codes "]"
end_plain xs h = ap (λ b. cond b (codes ",]") (codes "]")) h

pub ruleset ending = (end_hole, end_plain)
