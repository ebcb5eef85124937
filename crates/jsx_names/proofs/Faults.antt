-- The first early error on names by the events of a program is that of the definitions.
use Rattle.std.proofs.Common.{◌≡◌, List, [], ◌∷◌, ◌++◌, Bool, true, false, cond, ◌&&◌, refl, sym, ap, ◌∙◌, append_assoc, append-nil, None}
use Rattle.jsx_base.specs.Token.{Text}
use Rattle.jsx_tree.specs.Kinds.{Module, Script, Kind, program, Tree, leaf, node, list, Forest, none, part}
use Rattle.jsx_tree.specs.Nonterminals.{Item, DirectiveOnly, WholeProgram}
use Rattle.jsx_tree.specs.Grammar.{TopLines}
use Rattle.jsx_tree.specs.Form.{Several, positions}
use Rattle.jsx_tree.specs.Sound.{each_node, each_nodes}
use Rattle.jsx_tree.specs.Scopes.{Path, below, Declaration, declares_each, declared, is_name_at}
use Rattle.jsx_tree.specs.Clashes.{Place, later, exports_each, exported_twice, undeclared_items, clashes_each, first_of, first_clash}
use Rattle.jsx_tree.proofs.Tokens.{and_left, and_right}
use Rattle.jsx_names.specs.Events.{Event, Closes, Refers, Plain, of_node, events_below, events_parts, events_each, events}
use Rattle.jsx_names.specs.Answers.{all_of, collected, exported_in, missing, amiss, clashing, first_fault}
use Rattle.jsx_names.specs.Resolved.{clashed_parts}
use Rattle.jsx_names.specs.Proper.{stands, each_stands, has_form, fill, is_proper, has_sides, each_sided, sides, is_sided, proper}
use Rattle.jsx_names.proofs.Gives.{gives_append, gives_node, gives_parts, declared_there}
use Rattle.jsx_names.proofs.ScopeNames.{never, module_names, script_names}
use Rattle.jsx_names.proofs.Evals.{all_ordered}
use Rattle.jsx_names.proofs.First.{each, each_append, lists_swap, first_both}
use Rattle.jsx_names.proofs.Places.{all_tame}
use Rattle.jsx_names.proofs.ClashTree.{clash_parts}
use Rattle.jsx_names.proofs.Unspoken.{unspoken, form_native, unspoken_tree}
use Rattle.jsx_names.proofs.Exported.{exported_append, missing_append, exported_none, missing_none}
use Rattle.jsx_names.proofs.Items.{Tells, items_tell}
use Rattle.jsx_names.proofs.Lengths.{all_longer, list_longer, is_inner_place, is_item_place, items_apart, later_inner, exports_places, twice_places, wanting_items}
use Rattle.jsx_names.proofs.Whole.{clashes_shown}

-- ---- modules

-- what stands in a module's scope
abbrev inside : Forest → List Event
inside cs = of_node (program Module) [] cs ++ (events_parts false Plain (program Module) [] 0 (positions (program Module)) cs ++ events_parts true Plain (program Module) [] 0 (positions (program Module)) cs)

module_declares : (cs : Forest) → fill (positions (program Module)) cs ≡ true → each_nodes is_proper cs ≡ true → all_of (collected [] (inside cs ++ Closes ∷ [])) ≡ declared (program Script) (program Module) [] cs
module_declares cs w h =
    ap all_of (declared_there (gives_append (gives_node (program Module) [] cs) (gives_append (gives_parts false Plain (program Module) [] 0 (positions (program Module)) cs) (gives_parts true Plain (program Module) [] 0 (positions (program Module)) cs))) [])
    ∙ module_names (program Script) [] cs w h

behind_directives : (ds es fs : List Event) → unspoken ds ≡ true → es ≡ ds ++ (fs ++ []) → exported_in (es ++ Closes ∷ []) ≡ exported_in fs
behind_directives ds es fs d e =
    exported_append es (Closes ∷ [])
    ∙ append-nil (exported_in es)
    ∙ ap exported_in e
    ∙ exported_append ds (fs ++ [])
    ∙ ap (λ z. z ++ exported_in (fs ++ [])) (exported_none ds d)
    ∙ ap exported_in (append-nil fs)

wanted_behind : (ns : List Declaration) (ds es fs : List Event) → unspoken ds ≡ true → es ≡ ds ++ (fs ++ []) → missing ns (es ++ Closes ∷ []) ≡ missing ns fs
wanted_behind ns ds es fs d e =
    missing_append ns es (Closes ∷ [])
    ∙ append-nil (missing ns es)
    ∙ ap (missing ns) e
    ∙ missing_append ns ds (fs ++ [])
    ∙ ap (λ z. z ++ missing ns (fs ++ [])) (missing_none ns ds d)
    ∙ ap (missing ns) (append-nil fs)

-- exports that are given twice, and names that aren't declared
abbrev amiss_of : Tree → Forest → List Place
amiss_of ds ts =
    exported_twice [] (exports_each (below [] 1) 0 ts) ++ undeclared_items (declared (program Script) (program Module) [] (part ds (part (list ts) none))) (below [] 1) 0 ts

module_amiss : (ds : Tree) (ts : Forest) → fill (positions (program Module)) (part ds (part (list ts) none)) ≡ true → each_nodes is_proper (part ds (part (list ts) none)) ≡ true → sides (positions (program Module)) (part ds (part (list ts) none)) ≡ true → each_nodes is_sided (part ds (part (list ts) none)) ≡ true
    → amiss (events (node (program Module) (part ds (part (list ts) none)))) ≡ amiss_of ds ts
module_amiss ds ts w h s z =
    ap (λ v. exported_twice [] v ++ missing (all_of (collected [] (inside cs ++ Closes ∷ []))) (inside cs ++ Closes ∷ [])) (behind_directives first (inside cs) items quiet refl ∙ told.exports')
    ∙ ap (λ v. exported_twice [] (exports_each (below [] 1) 0 ts) ++ missing v (inside cs ++ Closes ∷ [])) (module_declares cs w h)
    ∙ ap (λ v. exported_twice [] (exports_each (below [] 1) 0 ts) ++ v) (wanted_behind (declared (program Script) (program Module) [] cs) first (inside cs) items quiet refl ∙ told.wants (declared (program Script) (program Module) [] cs))
  where
    k : Kind
    k = program Module

    cs : Forest
    cs = part ds (part (list ts) none)

    first : List Event
    first = events_below Plain (program Module) DirectiveOnly (below [] 0) ds

    items : List Event
    items = events_each Plain (program Module) Item (below [] 1) 0 ts

    rest : each_stands Item ts && true ≡ true
    rest = and_right (has_form (Several TopLines) DirectiveOnly ds) (each_stands Item ts && true) w

    more : each_nodes is_proper (part (list ts) none) ≡ true
    more = and_right (each_node is_proper ds) (each_nodes is_proper (part (list ts) none)) h

    others : each_nodes is_sided (part (list ts) none) ≡ true
    others = and_right (each_node is_sided ds) (each_nodes is_sided (part (list ts) none)) z

    quiet : unspoken (events_below Plain (program Module) DirectiveOnly (below [] 0) ds) ≡ true
    quiet = unspoken_tree Plain k DirectiveOnly (below [] 0) ds refl (form_native (Several TopLines) DirectiveOnly ds refl refl (and_left (has_form (Several TopLines) DirectiveOnly ds) (each_stands Item ts && true) w) (and_left (has_sides DirectiveOnly ds) (each_sided Item ts && true) s)) (and_left (each_node is_proper ds) (each_nodes is_proper (part (list ts) none)) h) (and_left (each_node is_sided ds) (each_nodes is_sided (part (list ts) none)) z)

    told : Tells (events_each Plain (program Module) Item (below [] 1) 0 ts) (exports_each (below [] 1) 0 ts) (below [] 1) (λ ns. undeclared_items ns (below [] 1) 0 ts)
    told = items_tell k (below [] 1) 0 ts (and_left (each_stands Item ts) true rest) (and_left (each_nodes is_proper ts) true more) (and_left (each_nodes is_sided ts) true others)

module_longer : (ds : Tree) (ts : Forest) → all_longer (declared (program Script) (program Module) [] (part ds (part (list ts) none))) ≡ true
module_longer ds ts = ap all_longer (append-nil (declares_each (below [] 1) 0 ts)) ∙ list_longer 1 0 ts

amiss_places : (ds : Tree) (ts : Forest) → each is_item_place (amiss_of ds ts) ≡ true
amiss_places ds ts =
    each_append is_item_place (exported_twice [] (exports_each (below [] 1) 0 ts)) (undeclared_items (declared (program Script) (program Module) [] (part ds (part (list ts) none))) (below [] 1) 0 ts)
    (twice_places [] (exports_each (below [] 1) 0 ts) (exports_places 1 0 ts))
    (wanting_items (declared (program Script) (program Module) [] (part ds (part (list ts) none))) (below [] 1) 0 ts)

regrouped : (as' ls xs cs : List Place) → each is_item_place as' ≡ true → each is_inner_place ls ≡ true → first_of xs ≡ first_of cs → first_of (as' ++ (ls ++ xs)) ≡ first_of ((ls ++ as') ++ cs)
regrouped as' ls xs cs a l e =
    lists_swap is_item_place is_inner_place items_apart as' ls xs a l
    ∙ ap first_of (sym (append_assoc ls as' xs))
    ∙ first_both (ls ++ as') xs (ls ++ as') cs refl e

module_fault : (ds : Tree) (ts : Forest) → each_node is_proper (node (program Module) (part ds (part (list ts) none))) ≡ true → each_node is_sided (node (program Module) (part ds (part (list ts) none))) ≡ true
    → first_fault (events (node (program Module) (part ds (part (list ts) none)))) ≡ first_clash (node (program Module) (part ds (part (list ts) none)))
module_fault ds ts h z =
    ap (λ v. first_of (v ++ clashing (events (node k cs)))) (module_amiss ds ts w hs (and_left (sides (positions k) cs) (each_nodes is_sided cs) z) (and_right (sides (positions k) cs) (each_nodes is_sided cs) z))
    ∙ ap (λ v. first_of (amiss_of ds ts ++ v)) (clashes_shown (node k cs))
    ∙ ap (λ v. first_of (amiss_of ds ts ++ (later false [] v ++ parts))) (module_names (program Script) [] cs w hs)
    ∙ regrouped (amiss_of ds ts) (later false [] (declared (program Script) k [] cs)) parts (clashes_each k [] 0 cs) (amiss_places ds ts) (later_inner false [] (declared (program Script) k [] cs) (module_longer ds ts))
    (clash_parts Plain k [] 0 (positions k) cs (all_ordered k) (all_tame k) w hs)
  where
    k : Kind
    k = program Module

    cs : Forest
    cs = part ds (part (list ts) none)

    parts : List Place
    parts = clashed_parts false Plain (program Module) [] 0 (positions (program Module)) (part ds (part (list ts) none)) ++ clashed_parts true Plain (program Module) [] 0 (positions (program Module)) (part ds (part (list ts) none))

    w : fill (positions (program Module)) (part ds (part (list ts) none)) ≡ true
    w = and_left (fill (positions k) cs) (each_nodes is_proper cs) h

    hs : each_nodes is_proper (part ds (part (list ts) none)) ≡ true
    hs = and_right (fill (positions k) cs) (each_nodes is_proper cs) h

-- ---- scripts

script_fault : (cs : Forest) → each_node is_proper (node (program Script) cs) ≡ true → first_fault (events (node (program Script) cs)) ≡ first_clash (node (program Script) cs)
script_fault cs h =
    ap first_of (clashes_shown (node k cs))
    ∙ ap (λ v. first_of (later true [] v ++ parts)) (script_names (program Script) [] cs w hs)
    ∙ first_both (later true [] (declared (program Script) k [] cs)) parts (later true [] (declared (program Script) k [] cs)) (clashes_each k [] 0 cs) refl (clash_parts Plain k [] 0 (positions k) cs (all_ordered k) (all_tame k) w hs)
  where
    k : Kind
    k = program Script

    parts : List Place
    parts = clashed_parts false Plain (program Script) [] 0 (positions (program Script)) cs ++ clashed_parts true Plain (program Script) [] 0 (positions (program Script)) cs

    w : fill (positions (program Script)) cs ≡ true
    w = and_left (fill (positions k) cs) (each_nodes is_proper cs) h

    hs : each_nodes is_proper cs ≡ true
    hs = and_right (fill (positions k) cs) (each_nodes is_proper cs) h

-- ---- programs

name_fault : (b : Bool) (t : Text) (p : Path) → first_fault (cond b (Refers t p ∷ []) []) ≡ None
name_fault true t p = refl
name_fault false t p = refl

fault_of : (t : Tree) → stands WholeProgram t ≡ true → each_node is_proper t ≡ true → each_node is_sided t ≡ true → first_fault (events t) ≡ first_clash t
fault_of (leaf s x) e h z = name_fault (is_name_at (program Script) WholeProgram s x) x []
fault_of (list ts) e h z = never e
fault_of (node (program Script) cs) e h z = script_fault cs h
fault_of (node (program Module) none) e h z = never h
fault_of (node (program Module) (part ds none)) e h z = never (and_right (has_form (Several TopLines) DirectiveOnly ds) false (and_left (has_form (Several TopLines) DirectiveOnly ds && false) (each_nodes is_proper (part ds none)) h))
fault_of (node (program Module) (part ds (part (leaf s x) us))) e h z = never (and_right (has_form (Several TopLines) DirectiveOnly ds) false (and_left (has_form (Several TopLines) DirectiveOnly ds && false) (each_nodes is_proper (part ds (part (leaf s x) us))) h))
fault_of (node (program Module) (part ds (part (node k cs) us))) e h z = never (and_right (has_form (Several TopLines) DirectiveOnly ds) false (and_left (has_form (Several TopLines) DirectiveOnly ds && false) (each_nodes is_proper (part ds (part (node k cs) us))) h))
fault_of (node (program Module) (part ds (part (list ts) (part u us)))) e h z =
    never (and_right (each_stands Item ts) false (and_right (has_form (Several TopLines) DirectiveOnly ds) (each_stands Item ts && false) (and_left (has_form (Several TopLines) DirectiveOnly ds && (each_stands Item ts && false)) (each_nodes is_proper (part ds (part (list ts) (part u us)))) h)))
fault_of (node (program Module) (part ds (part (list ts) none))) e h z = module_fault ds ts h z
fault_of (node k cs) e h z = never e

pub faults_told : (t : Tree) → proper t ≡ true → first_fault (events t) ≡ first_clash t
faults_told t h =
    let rest : each_node is_proper t && each_node is_sided t ≡ true = and_right (stands WholeProgram t) (each_node is_proper t && each_node is_sided t) h in
    fault_of t (and_left (stands WholeProgram t) (each_node is_proper t && each_node is_sided t) h) (and_left (each_node is_proper t) (each_node is_sided t) rest) (and_right (each_node is_proper t) (each_node is_sided t) rest)
