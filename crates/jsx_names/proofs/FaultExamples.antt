-- The events of small programs, each with its number as its path: which is the first early error, and that it is the one that the definitions find.
use Rattle.std.specs.Prelude.{◌≡◌, ℕ, List, [], ◌∷◌, codes, true, false, refl, Option, Some, None}
use Rattle.jsx_tree.specs.Scopes.{AsVar, AsParameter, AsFunction, AsLexical}
use Rattle.jsx_tree.specs.Clashes.{Place, AtName}
use Rattle.jsx_names.specs.Events.{OfModule, OfScript, OfFunction, OfBlock, OfCatch, OfName, Event, Opens, Enters, Closes, Declares, Refers, Exports, Wants, Evals}
use Rattle.jsx_names.specs.Answers.{first_fault}
use Rattle.jsx_names.specs.Faults.{calls, first, first_faulty}

-- the place of a number
abbrev numbered : Option ℕ → Option Place
numbered None = None
numbered (Some i) = Some (AtName (i ∷ []))

-- let x; let x;
abbrev declared_twice : List Event
declared_twice = Opens OfScript (0 ∷ []) ∷ Declares false AsLexical (codes "x") (1 ∷ []) ∷ Declares false AsLexical (codes "x") (2 ∷ []) ∷ Closes ∷ []

declared_twice_first : first_faulty declared_twice ≡ Some 2
declared_twice_first = refl

declared_twice_is : first_fault declared_twice ≡ numbered (first_faulty declared_twice)
declared_twice_is = refl

-- { let x; } let x;
abbrev declared_inside : List Event
declared_inside = Opens OfScript (0 ∷ []) ∷ Opens OfBlock (1 ∷ []) ∷ Declares false AsLexical (codes "x") (2 ∷ []) ∷ Closes ∷ Declares false AsLexical (codes "x") (4 ∷ []) ∷ Closes ∷ []

declared_inside_first : first_faulty declared_inside ≡ None
declared_inside_first = refl

declared_inside_is : first_fault declared_inside ≡ numbered (first_faulty declared_inside)
declared_inside_is = refl

-- let x; { var x; }
abbrev var_below_let : List Event
var_below_let = Opens OfScript (0 ∷ []) ∷ Declares false AsLexical (codes "x") (1 ∷ []) ∷ Opens OfBlock (2 ∷ []) ∷ Declares false AsVar (codes "x") (3 ∷ []) ∷ Closes ∷ Closes ∷ []

var_below_let_first : first_faulty var_below_let ≡ Some 3
var_below_let_first = refl

var_below_let_is : first_fault var_below_let ≡ numbered (first_faulty var_below_let)
var_below_let_is = refl

-- { var x; } let x;
abbrev let_behind_var : List Event
let_behind_var = Opens OfScript (0 ∷ []) ∷ Opens OfBlock (1 ∷ []) ∷ Declares false AsVar (codes "x") (2 ∷ []) ∷ Closes ∷ Declares false AsLexical (codes "x") (4 ∷ []) ∷ Closes ∷ []

let_behind_var_first : first_faulty let_behind_var ≡ Some 4
let_behind_var_first = refl

let_behind_var_is : first_fault let_behind_var ≡ numbered (first_faulty let_behind_var)
let_behind_var_is = refl

-- { let x; { var x; } }
abbrev var_through_block : List Event
var_through_block = Opens OfScript (0 ∷ []) ∷ Opens OfBlock (1 ∷ []) ∷ Declares false AsLexical (codes "x") (2 ∷ []) ∷ Opens OfBlock (3 ∷ []) ∷ Declares false AsVar (codes "x") (4 ∷ []) ∷ Closes ∷ Closes ∷ Closes ∷ []

var_through_block_first : first_faulty var_through_block ≡ Some 4
var_through_block_first = refl

var_through_block_is : first_fault var_through_block ≡ numbered (first_faulty var_through_block)
var_through_block_is = refl

-- var x; { let x; }
abbrev let_below_var : List Event
let_below_var = Opens OfScript (0 ∷ []) ∷ Declares false AsVar (codes "x") (1 ∷ []) ∷ Opens OfBlock (2 ∷ []) ∷ Declares false AsLexical (codes "x") (3 ∷ []) ∷ Closes ∷ Closes ∷ []

let_below_var_first : first_faulty let_below_var ≡ None
let_below_var_first = refl

let_below_var_is : first_fault let_below_var ≡ numbered (first_faulty let_below_var)
let_below_var_is = refl

-- { { var x; } let x; }
abbrev let_behind_var_in_block : List Event
let_behind_var_in_block = Opens OfScript (0 ∷ []) ∷ Opens OfBlock (1 ∷ []) ∷ Opens OfBlock (2 ∷ []) ∷ Declares false AsVar (codes "x") (3 ∷ []) ∷ Closes ∷ Declares false AsLexical (codes "x") (5 ∷ []) ∷ Closes ∷ Closes ∷ []

let_behind_var_in_block_first : first_faulty let_behind_var_in_block ≡ Some 5
let_behind_var_in_block_first = refl

let_behind_var_in_block_is : first_fault let_behind_var_in_block ≡ numbered (first_faulty let_behind_var_in_block)
let_behind_var_in_block_is = refl

-- { let x; } { var x; }
abbrev block_behind_another : List Event
block_behind_another = Opens OfScript (0 ∷ []) ∷ Opens OfBlock (1 ∷ []) ∷ Declares false AsLexical (codes "x") (2 ∷ []) ∷ Closes ∷ Opens OfBlock (4 ∷ []) ∷ Declares false AsVar (codes "x") (5 ∷ []) ∷ Closes ∷ Closes ∷ []

block_behind_another_first : first_faulty block_behind_another ≡ None
block_behind_another_first = refl

block_behind_another_is : first_fault block_behind_another ≡ numbered (first_faulty block_behind_another)
block_behind_another_is = refl

-- let x; function f() { var x; }
abbrev function_of_its_own : List Event
function_of_its_own = Opens OfScript (0 ∷ []) ∷ Declares false AsLexical (codes "x") (1 ∷ []) ∷ Declares false AsFunction (codes "f") (2 ∷ []) ∷ Opens OfFunction (3 ∷ []) ∷ Enters ∷ Declares false AsVar (codes "x") (5 ∷ []) ∷ Closes ∷ Closes ∷ []

function_of_its_own_first : first_faulty function_of_its_own ≡ None
function_of_its_own_first = refl

function_of_its_own_is : first_fault function_of_its_own ≡ numbered (first_faulty function_of_its_own)
function_of_its_own_is = refl

-- function f(x) { var x; function x() {} }
abbrev parameter_var_function : List Event
parameter_var_function = Opens OfScript (0 ∷ []) ∷ Declares false AsFunction (codes "f") (1 ∷ []) ∷ Opens OfFunction (2 ∷ []) ∷ Declares true AsParameter (codes "x") (3 ∷ []) ∷ Enters ∷ Declares false AsVar (codes "x") (5 ∷ []) ∷ Declares false AsFunction (codes "x") (6 ∷ []) ∷ Opens OfFunction (7 ∷ []) ∷ Enters ∷ Closes ∷ Closes ∷ Closes ∷ []

parameter_var_function_first : first_faulty parameter_var_function ≡ None
parameter_var_function_first = refl

parameter_var_function_is : first_fault parameter_var_function ≡ numbered (first_faulty parameter_var_function)
parameter_var_function_is = refl

-- (x, x) => 1
abbrev parameters_alike : List Event
parameters_alike = Opens OfScript (0 ∷ []) ∷ Opens OfFunction (1 ∷ []) ∷ Declares true AsParameter (codes "x") (2 ∷ []) ∷ Declares true AsParameter (codes "x") (3 ∷ []) ∷ Enters ∷ Closes ∷ Closes ∷ []

parameters_alike_first : first_faulty parameters_alike ≡ Some 3
parameters_alike_first = refl

parameters_alike_is : first_fault parameters_alike ≡ numbered (first_faulty parameters_alike)
parameters_alike_is = refl

-- function f(x) { let x; }
abbrev let_behind_parameter : List Event
let_behind_parameter = Opens OfScript (0 ∷ []) ∷ Declares false AsFunction (codes "f") (1 ∷ []) ∷ Opens OfFunction (2 ∷ []) ∷ Declares true AsParameter (codes "x") (3 ∷ []) ∷ Enters ∷ Declares false AsLexical (codes "x") (5 ∷ []) ∷ Closes ∷ Closes ∷ []

let_behind_parameter_first : first_faulty let_behind_parameter ≡ Some 5
let_behind_parameter_first = refl

let_behind_parameter_is : first_fault let_behind_parameter ≡ numbered (first_faulty let_behind_parameter)
let_behind_parameter_is = refl

-- { function x() {} function x() {} }
abbrev functions_in_block : List Event
functions_in_block = Opens OfScript (0 ∷ []) ∷ Opens OfBlock (1 ∷ []) ∷ Declares false AsFunction (codes "x") (2 ∷ []) ∷ Opens OfFunction (3 ∷ []) ∷ Enters ∷ Closes ∷ Declares false AsFunction (codes "x") (6 ∷ []) ∷ Opens OfFunction (7 ∷ []) ∷ Enters ∷ Closes ∷ Closes ∷ Closes ∷ []

functions_in_block_first : first_faulty functions_in_block ≡ Some 6
functions_in_block_first = refl

functions_in_block_is : first_fault functions_in_block ≡ numbered (first_faulty functions_in_block)
functions_in_block_is = refl

-- function x() {} function x() {}
abbrev functions_in_script : List Event
functions_in_script = Opens OfScript (0 ∷ []) ∷ Declares false AsFunction (codes "x") (1 ∷ []) ∷ Opens OfFunction (2 ∷ []) ∷ Enters ∷ Closes ∷ Declares false AsFunction (codes "x") (5 ∷ []) ∷ Opens OfFunction (6 ∷ []) ∷ Enters ∷ Closes ∷ Closes ∷ []

functions_in_script_first : first_faulty functions_in_script ≡ None
functions_in_script_first = refl

functions_in_script_is : first_fault functions_in_script ≡ numbered (first_faulty functions_in_script)
functions_in_script_is = refl

-- try { } catch (e) { let e; }
abbrev caught_name : List Event
caught_name = Opens OfScript (0 ∷ []) ∷ Opens OfBlock (1 ∷ []) ∷ Closes ∷ Opens OfCatch (3 ∷ []) ∷ Declares true AsLexical (codes "e") (4 ∷ []) ∷ Enters ∷ Declares false AsLexical (codes "e") (6 ∷ []) ∷ Closes ∷ Closes ∷ []

caught_name_first : first_faulty caught_name ≡ Some 6
caught_name_first = refl

caught_name_is : first_fault caught_name ≡ numbered (first_faulty caught_name)
caught_name_is = refl

-- (function g() { let g; })
abbrev own_name : List Event
own_name = Opens OfScript (0 ∷ []) ∷ Opens OfName (1 ∷ []) ∷ Declares false AsLexical (codes "g") (2 ∷ []) ∷ Opens OfFunction (3 ∷ []) ∷ Enters ∷ Declares false AsLexical (codes "g") (5 ∷ []) ∷ Closes ∷ Closes ∷ Closes ∷ []

own_name_first : first_faulty own_name ≡ None
own_name_first = refl

own_name_is : first_fault own_name ≡ numbered (first_faulty own_name)
own_name_is = refl

-- export let x; export { x };
abbrev exported_again : List Event
exported_again = Opens OfModule (0 ∷ []) ∷ Declares false AsLexical (codes "x") (1 ∷ []) ∷ Exports (codes "x") (AtName (2 ∷ [])) ∷ Wants (codes "x") (AtName (3 ∷ [])) ∷ Exports (codes "x") (AtName (4 ∷ [])) ∷ Closes ∷ []

exported_again_first : first_faulty exported_again ≡ Some 4
exported_again_first = refl

exported_again_is : first_fault exported_again ≡ numbered (first_faulty exported_again)
exported_again_is = refl

-- export { y }; let x;
abbrev exported_unknown : List Event
exported_unknown = Opens OfModule (0 ∷ []) ∷ Wants (codes "y") (AtName (1 ∷ [])) ∷ Exports (codes "y") (AtName (2 ∷ [])) ∷ Declares false AsLexical (codes "x") (3 ∷ []) ∷ Closes ∷ []

exported_unknown_first : first_faulty exported_unknown ≡ Some 1
exported_unknown_first = refl

exported_unknown_is : first_fault exported_unknown ≡ numbered (first_faulty exported_unknown)
exported_unknown_is = refl

-- export { x }; { var x; }
abbrev exported_var : List Event
exported_var = Opens OfModule (0 ∷ []) ∷ Wants (codes "x") (AtName (1 ∷ [])) ∷ Exports (codes "x") (AtName (2 ∷ [])) ∷ Opens OfBlock (3 ∷ []) ∷ Declares false AsVar (codes "x") (4 ∷ []) ∷ Closes ∷ Closes ∷ []

exported_var_first : first_faulty exported_var ≡ None
exported_var_first = refl

exported_var_is : first_fault exported_var ≡ numbered (first_faulty exported_var)
exported_var_is = refl

-- export { x }; { let x; }
abbrev exported_from_block : List Event
exported_from_block = Opens OfModule (0 ∷ []) ∷ Wants (codes "x") (AtName (1 ∷ [])) ∷ Exports (codes "x") (AtName (2 ∷ [])) ∷ Opens OfBlock (3 ∷ []) ∷ Declares false AsLexical (codes "x") (4 ∷ []) ∷ Closes ∷ Closes ∷ []

exported_from_block_first : first_faulty exported_from_block ≡ Some 1
exported_from_block_first = refl

exported_from_block_is : first_fault exported_from_block ≡ numbered (first_faulty exported_from_block)
exported_from_block_is = refl

-- let x; export { y }; let x;
abbrev unknown_before_clash : List Event
unknown_before_clash = Opens OfModule (0 ∷ []) ∷ Declares false AsLexical (codes "x") (1 ∷ []) ∷ Wants (codes "y") (AtName (2 ∷ [])) ∷ Exports (codes "y") (AtName (3 ∷ [])) ∷ Declares false AsLexical (codes "x") (4 ∷ []) ∷ Closes ∷ []

unknown_before_clash_first : first_faulty unknown_before_clash ≡ Some 2
unknown_before_clash_first = refl

unknown_before_clash_is : first_fault unknown_before_clash ≡ numbered (first_faulty unknown_before_clash)
unknown_before_clash_is = refl

-- let x, x; export { y };
abbrev clash_before_unknown : List Event
clash_before_unknown = Opens OfModule (0 ∷ []) ∷ Declares false AsLexical (codes "x") (1 ∷ []) ∷ Declares false AsLexical (codes "x") (2 ∷ []) ∷ Wants (codes "y") (AtName (3 ∷ [])) ∷ Exports (codes "y") (AtName (4 ∷ [])) ∷ Closes ∷ []

clash_before_unknown_first : first_faulty clash_before_unknown ≡ Some 2
clash_before_unknown_first = refl

clash_before_unknown_is : first_fault clash_before_unknown ≡ numbered (first_faulty clash_before_unknown)
clash_before_unknown_is = refl

-- a; eval(b); eval(c);
abbrev called_twice : List Event
called_twice = Opens OfScript [] ∷ Refers (codes "a") [] ∷ Evals (2 ∷ []) ∷ Refers (codes "eval") (3 ∷ []) ∷ Refers (codes "b") [] ∷ Evals (5 ∷ []) ∷ Closes ∷ []

called_twice_first : first (calls 0 called_twice) ≡ Some 2
called_twice_first = refl
