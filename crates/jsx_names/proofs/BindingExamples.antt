-- The events of small programs, each with its number as its path: to which scope each name belongs, and that it is what the definitions say.
use Rattle.std.specs.Prelude.{◌≡◌, ℕ, List, [], ◌∷◌, codes, true, false, refl, Option, Some, None}
use Rattle.jsx_tree.specs.Scopes.{AsVar, AsParameter, AsFunction, AsLexical, Path, Binding, Bound, Free}
use Rattle.jsx_names.specs.Events.{OfScript, OfFunction, OfBlock, OfCatch, OfName, Event, Opens, Enters, Closes, Declares, Refers}
use Rattle.jsx_names.specs.Answers.{Answer, answers}
use Rattle.jsx_names.specs.Bindings.{bindings}

abbrev number : Path → Option ℕ
number [] = None
number (i ∷ is) = Some i

abbrev scope_of : Binding → Option ℕ
scope_of (Bound p own t) = number p
scope_of (Free t) = None

abbrev scopes_of : List Answer → List (Option ℕ)
scopes_of [] = []
scopes_of (a ∷ as') = scope_of a.binding ∷ scopes_of as'

-- let x; { let x; x; } x;
abbrev hidden : List Event
hidden = Opens OfScript (0 ∷ []) ∷ Declares false AsLexical (codes "x") (1 ∷ []) ∷ Opens OfBlock (2 ∷ []) ∷ Declares false AsLexical (codes "x") (3 ∷ []) ∷ Refers (codes "x") (4 ∷ []) ∷ Closes ∷ Refers (codes "x") (6 ∷ []) ∷ Closes ∷ []

hidden_scopes : bindings 0 [] hidden ≡ Some 0 ∷ Some 2 ∷ Some 2 ∷ Some 0 ∷ []
hidden_scopes = refl

hidden_are : bindings 0 [] hidden ≡ scopes_of (answers [] hidden)
hidden_are = refl

-- { var x; } x; y;
abbrev hoisted : List Event
hoisted = Opens OfScript (0 ∷ []) ∷ Opens OfBlock (1 ∷ []) ∷ Declares false AsVar (codes "x") (2 ∷ []) ∷ Closes ∷ Refers (codes "x") (4 ∷ []) ∷ Refers (codes "y") (5 ∷ []) ∷ Closes ∷ []

hoisted_scopes : bindings 0 [] hoisted ≡ Some 0 ∷ Some 0 ∷ None ∷ []
hoisted_scopes = refl

hoisted_are : bindings 0 [] hoisted ≡ scopes_of (answers [] hoisted)
hoisted_are = refl

-- function f(a = b) { var b; a; b; }
abbrev parameters_see_no_body : List Event
parameters_see_no_body = Opens OfScript (0 ∷ []) ∷ Declares false AsFunction (codes "f") (1 ∷ []) ∷ Opens OfFunction (2 ∷ []) ∷ Declares true AsParameter (codes "a") (3 ∷ []) ∷ Refers (codes "b") (4 ∷ []) ∷ Enters ∷ Declares false AsVar (codes "b") (6 ∷ []) ∷ Refers (codes "a") (7 ∷ []) ∷ Refers (codes "b") (8 ∷ []) ∷ Closes ∷ Closes ∷ []

parameters_see_no_body_scopes : bindings 0 [] parameters_see_no_body ≡ Some 0 ∷ Some 2 ∷ None ∷ Some 2 ∷ Some 2 ∷ Some 2 ∷ []
parameters_see_no_body_scopes = refl

parameters_see_no_body_are : bindings 0 [] parameters_see_no_body ≡ scopes_of (answers [] parameters_see_no_body)
parameters_see_no_body_are = refl

-- (function g() { g; }); g;
abbrev own_name : List Event
own_name = Opens OfScript (0 ∷ []) ∷ Opens OfName (1 ∷ []) ∷ Declares false AsLexical (codes "g") (2 ∷ []) ∷ Opens OfFunction (3 ∷ []) ∷ Enters ∷ Refers (codes "g") (5 ∷ []) ∷ Closes ∷ Closes ∷ Refers (codes "g") (8 ∷ []) ∷ Closes ∷ []

own_name_scopes : bindings 0 [] own_name ≡ Some 1 ∷ Some 1 ∷ None ∷ []
own_name_scopes = refl

own_name_are : bindings 0 [] own_name ≡ scopes_of (answers [] own_name)
own_name_are = refl

-- try { } catch ({ a = b }) { let b; a; b; }
abbrev caught : List Event
caught = Opens OfScript (0 ∷ []) ∷ Opens OfBlock (1 ∷ []) ∷ Closes ∷ Opens OfCatch (3 ∷ []) ∷ Declares true AsLexical (codes "a") (4 ∷ []) ∷ Refers (codes "b") (5 ∷ []) ∷ Enters ∷ Declares false AsLexical (codes "b") (7 ∷ []) ∷ Refers (codes "a") (8 ∷ []) ∷ Refers (codes "b") (9 ∷ []) ∷ Closes ∷ Closes ∷ []

caught_scopes : bindings 0 [] caught ≡ Some 3 ∷ None ∷ Some 3 ∷ Some 3 ∷ Some 3 ∷ []
caught_scopes = refl

caught_are : bindings 0 [] caught ≡ scopes_of (answers [] caught)
caught_are = refl

-- { f(); } function f() { }
abbrev before_its_declaration : List Event
before_its_declaration = Opens OfScript (0 ∷ []) ∷ Opens OfBlock (1 ∷ []) ∷ Refers (codes "f") (2 ∷ []) ∷ Closes ∷ Declares false AsFunction (codes "f") (4 ∷ []) ∷ Opens OfFunction (5 ∷ []) ∷ Enters ∷ Closes ∷ Closes ∷ []

before_its_declaration_scopes : bindings 0 [] before_its_declaration ≡ Some 0 ∷ Some 0 ∷ []
before_its_declaration_scopes = refl

before_its_declaration_are : bindings 0 [] before_its_declaration ≡ scopes_of (answers [] before_its_declaration)
before_its_declaration_are = refl
