-- Patterns, assignment targets and parameters (ECMA-262 sections 13.15.5 and 14.3.3), computed.
use Rattle.std.specs.Prelude.{◌≡◌, true, false, refl}
use Prim.Native.String.{String}
use Rattle.jsx_tree.specs.Kinds.{Tree, ConstWord, Var, Declarator, InObject, Binds, Assigns, Setter, ArrayPat, ObjectPat, PropertyPat, ShorthandInit, WithInit, RestPat, RestProperty, ParenTarget, Spread, statement, function, expression, list, none, part}
use Rattle.jsx_tree.specs.Nonterminals.{Expr, Param, ObjectMember}
use Rattle.jsx_tree.specs.Grammar.{p}
use Rattle.jsx_tree.specs.Form.{is}
use Rattle.jsx_tree.proofs.Samples.{n, num, n1, n2, n3, l0, l1, l2, l3, short, script, body_of, call, dot, paren, set_to, object_of, array_of, arrow, hole, reads_expr, reads_script, prints}

-- const PATTERN = v
abbrev const_of : Tree → Tree
const_of p = l1 (n1 (statement (Var ConstWord)) (l1 (n2 (statement Declarator) p (l1 (n "v")))))

abbrev prop : String → Tree → Tree
prop k v = n2 (function (PropertyPat Binds)) (n k) v

abbrev props : Tree → Tree
props ps = n1 (function (ObjectPat Binds)) ps

abbrev items_of : Tree → Tree
items_of ps = n1 (function (ArrayPat Binds)) ps

-- a property of a pattern has a value, and no rest is one
prop_with_value : reads_script "const { a: b } = v;" (const_of (props (l1 (prop "a" (n "b"))))) ≡ true
prop_with_value = refl

prop_without_value : reads_script "const { a: } = v;" (const_of (props (l1 (prop "a" hole)))) ≡ false
prop_without_value = refl

prop_of_rest : reads_script "const { a: ...b } = v;" (const_of (props (l1 (prop "a" (n1 (function (RestPat Binds)) (n "b")))))) ≡ false
prop_of_rest = refl

prop_with_init : reads_script "const { a: [b] = 1 } = v;" (const_of (props (l1 (prop "a" (n2 (function (WithInit Binds)) (items_of (l1 (n "b"))) (num "1")))))) ≡ true
prop_with_init = refl

prop_target : reads_expr "[{ a: (b.c) }] = v" (set_to (n1 (function (ArrayPat Assigns)) (l1 (n1 (function (ObjectPat Assigns)) (l1 (n2 (function (PropertyPat Assigns)) (n "a") (n1 (function ParenTarget) (dot (n "b") "c"))))))) (n "v")) ≡ true
prop_target = refl

-- holes of a pattern: `[, a, ,]` has three slots
pattern_holes : reads_script "const [,a,,]=v" (const_of (items_of (l3 hole (n "a") hole))) ≡ true
pattern_holes = refl

pattern_holes_text : prints (script (const_of (items_of (l3 hole (n "a") hole)))) "const [, a, ,] = v;\n" ≡ true
pattern_holes_text = refl

-- a trailing comma isn't a slot, and none stands behind a rest
pattern_trailing : reads_script "const [a,] = v" (const_of (items_of (l1 (n "a")))) ≡ true
pattern_trailing = refl

object_rest_trailing : reads_script "const { ...a, } = v" (const_of (props (l1 (n1 (function (RestProperty Binds)) (n "a"))))) ≡ false
object_rest_trailing = refl

object_rest : reads_script "const { ...a } = v" (const_of (props (l1 (n1 (function (RestProperty Binds)) (n "a"))))) ≡ true
object_rest = refl

rest_not_last : reads_script "const [...a, b] = v" (const_of (items_of (l2 (n1 (function (RestPat Binds)) (n "a")) (n "b")))) ≡ false
rest_not_last = refl

rest_with_init : is (Param) (n1 (function (RestPat Binds)) (n2 (function (WithInit Binds)) (n "a") (num "1"))) ≡ false
rest_with_init = refl

-- a literal with a spread and a trailing comma is no pattern: `[...a,] = b` isn't read
spread_trailing : reads_expr "[...a,]" (array_of (l1 (n1 (expression Spread) (n "a")))) ≡ true
spread_trailing = refl

spread_trailing_target : reads_expr "[...a,] = b" (set_to (n1 (function (ArrayPat Assigns)) (l1 (n1 (function (RestPat Assigns)) (n "a")))) (n "b")) ≡ false
spread_trailing_target = refl

-- an object in parentheses is no target
paren_pattern : is (Expr 0) (set_to (n1 (function ParenTarget) (n1 (function (ObjectPat Assigns)) l0)) (n "b")) ≡ false
paren_pattern = refl

paren_name : reads_expr "((a)) = b" (set_to (n1 (function ParenTarget) (n1 (function ParenTarget) (n "a"))) (n "b")) ≡ true
paren_name = refl

-- names that are reserved or can't be bound
this_bound : reads_script "const this = v;" (const_of (n "this")) ≡ false
this_bound = refl

eval_bound : reads_script "const eval = v;" (const_of (n "eval")) ≡ false
eval_bound = refl

eval_assigned : reads_expr "eval = v" (set_to (n "eval") (n "v")) ≡ false
eval_assigned = refl

eval_used : reads_expr "f(eval, arguments)" (call (n "f") (l2 (n "eval") (n "arguments"))) ≡ true
eval_used = refl

let_bound : reads_script "const let = v;" (const_of (n "let")) ≡ false
let_bound = refl

async_bound : reads_script "const async = v, of = v;" (l1 (n1 (statement (Var ConstWord)) (l2 (n2 (statement Declarator) (n "async") (l1 (n "v"))) (n2 (statement Declarator) (n "of") (l1 (n "v")))))) ≡ true
async_bound = refl

-- `a = 1` in braces is a pattern's alone
shorthand_init : reads_expr "({ a = 1 } = v)" (paren (set_to (n1 (function (ObjectPat Assigns)) (l1 (n2 (function (ShorthandInit Assigns)) (n "a") (num "1")))) (n "v"))) ≡ true
shorthand_init = refl

-- a setter has one parameter, which may have an initialiser, and no trailing comma
setter_init : reads_expr "({ set a(b = 1) {} })" (paren (object_of (l1 (n3 (function (Setter InObject)) (n "a") (n2 (function (WithInit Binds)) (n "b") (num "1")) (body_of l0))))) ≡ true
setter_init = refl

setter_trailing : reads_expr "({ set a(b,) {} })" (paren (object_of (l1 (n3 (function (Setter InObject)) (n "a") (n "b") (body_of l0))))) ≡ false
setter_trailing = refl

setter_rest : is ObjectMember (n3 (function (Setter InObject)) (n "a") (n1 (function (RestPat Binds)) (n "b")) (body_of l0)) ≡ false
setter_rest = refl

-- parameters
params : reads_expr "(a, { b }, [c] = d, ...e) => f" (arrow (list (part (n "a") (part (props (l1 (short "b"))) (part (n2 (function (WithInit Binds)) (items_of (l1 (n "c"))) (n "d")) (part (n1 (function (RestPat Binds)) (n "e")) none))))) (n "f")) ≡ true
params = refl

params_rest_trailing : reads_expr "(...a,) => b" (arrow (l1 (n1 (function (RestPat Binds)) (n "a"))) (n "b")) ≡ false
params_rest_trailing = refl
