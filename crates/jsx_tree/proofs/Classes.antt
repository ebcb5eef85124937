-- Classes, methods and functions (ECMA-262 section 15), computed.
use Rattle.std.specs.Prelude.{◌≡◌, Bool, true, false, refl}
use Prim.Native.String.{String}
use Rattle.jsx_tree.specs.Kinds.{Tree, VarWord, FunctionBody, Directive, Var, Declarator, Return, FunctionDecl, ClassDecl, InObject, InClass, Static, Binds, FunctionExpr, ClassExpr, Method, Getter, Setter, Field, ComputedKey, ObjectPat, WithInit, RestPat, ArrowBlock, New, SuperCall, SuperMember, NewTarget, Property, Spread, program, statement, function, expression, list, none, part}
use Rattle.jsx_tree.specs.Nonterminals.{Expr}
use Rattle.jsx_tree.specs.Form.{is}
use Rattle.jsx_tree.proofs.Samples.{n, num, str, n0, n1, n2, n3, l0, l1, l2, l3, stmt, script, module_of, body_of, call, dot, paren, set_to, object_of, arrow, block, reads_script, keeps, prints}

abbrev class_in : Tree → Tree
class_in members = l1 (n3 (statement ClassDecl) (n "A") l0 members)

abbrev field : String → Tree
field k = n2 (function (Field InClass)) (n k) l0

abbrev static_field : String → Tree
static_field k = n2 (function (Field Static)) (n k) l0

abbrev getter : String → Tree
getter k = n2 (function (Getter InClass)) (n k) (body_of l0)

abbrev method : String → Tree
method k = n3 (function (Method InClass)) (n k) l0 (body_of l0)

abbrev keeps_class : Tree → Bool
keeps_class members = keeps (module_of (class_in members))

-- a field may be named `prototype`, a static member may not; no field is named `constructor`
field_prototype : keeps_class (l1 (field "prototype")) ≡ true
field_prototype = refl

static_field_prototype : keeps_class (l1 (static_field "prototype")) ≡ false
static_field_prototype = refl

static_method_prototype : keeps_class (l1 (n3 (function (Method Static)) (n "prototype") l0 (body_of l0))) ≡ false
static_method_prototype = refl

field_constructor : keeps_class (l1 (field "constructor")) ≡ false
field_constructor = refl

getter_constructor : keeps_class (l1 (getter "constructor")) ≡ false
getter_constructor = refl

static_getter_constructor : keeps_class (l1 (n2 (function (Getter Static)) (n "constructor") (body_of l0))) ≡ true
static_getter_constructor = refl

two_constructors : keeps_class (l2 (method "constructor") (n3 (function (Method InClass)) (str "'constructor'") l0 (body_of l0))) ≡ false
two_constructors = refl

-- with a computed key it is no constructor
computed_constructor : keeps_class (l2 (method "constructor") (n3 (function (Method InClass)) (n1 (function ComputedKey) (str "'constructor'")) l0 (body_of l0))) ≡ true
computed_constructor = refl

-- the words `static`, `get` and `set` are keys where no key follows
word_keys : reads_script "class A { static(){} get(){} set; static static(){} get = 1; static get }" (class_in (list
    (part (method "static") (part (method "get") (part (field "set") (part (n3 (function (Method Static)) (n "static") l0 (body_of l0)) (part (n2 (function (Field InClass)) (n "get") (l1 (num "1"))) (part (static_field "get") none)))))))) ≡ true
word_keys = refl

-- a line end may stand behind `static` and `get`
get_on_two_lines : reads_script "class A { get\na(){} }" (class_in (l1 (getter "a"))) ≡ true
get_on_two_lines = refl

get_is_no_field : reads_script "class A { get\na(){} }" (class_in (l2 (field "get") (method "a"))) ≡ false
get_is_no_field = refl

-- a semicolon alone is no member
members_text : prints (script (class_in (l2 (field "a") (method "b")))) "class A {\n    a;\n    b() {}\n}\n" ≡ true
members_text = refl

member_semicolon : reads_script "class A { b(){}; }" (class_in (l1 (method "b"))) ≡ false
member_semicolon = refl

-- fields with initialisers
field_block_then_key : reads_script "class A { a = () => {}\n[b]() {} }" (class_in (l2 (n2 (function (Field InClass)) (n "a") (l1 (n2 (expression ArrowBlock) l0 (body_of l0)))) (n3 (function (Method InClass)) (n1 (function ComputedKey) (n "b")) l0 (body_of l0)))) ≡ true
field_block_then_key = refl

field_value_then_key : reads_script "class A { a = c\n[b]() {} }" (class_in (l2 (n2 (function (Field InClass)) (n "a") (l1 (n "c"))) (n3 (function (Method InClass)) (n1 (function ComputedKey) (n "b")) l0 (body_of l0)))) ≡ false
field_value_then_key = refl

field_then_in : reads_script "class A { a\nin }" (class_in (l2 (field "a") (field "in"))) ≡ true
field_then_in = refl

-- `use strict` in a body asks for plain names as parameters
abbrev strict_body : Tree
strict_body = n2 (program FunctionBody) (l1 (n1 (program Directive) (str "'use strict'"))) l0

strict_plain : keeps (script (l1 (n3 (statement FunctionDecl) (n "f") (l1 (n "a")) strict_body))) ≡ true
strict_plain = refl

strict_init : keeps (script (l1 (n3 (statement FunctionDecl) (n "f") (l1 (n2 (function (WithInit Binds)) (n "a") (num "1"))) strict_body))) ≡ false
strict_init = refl

strict_setter : keeps (script (l1 (stmt (paren (object_of (l1 (n3 (function (Setter InObject)) (n "a") (n1 (function (ObjectPat Binds)) l0) strict_body))))))) ≡ false
strict_setter = refl

strict_arrow : keeps (script (l1 (stmt (n2 (expression ArrowBlock) (l1 (n1 (function (RestPat Binds)) (n "a"))) strict_body)))) ≡ false
strict_arrow = refl

-- super() is a call: no callee of `new` has it on its left outside parentheses
new_super_call : is (Expr 0) (n2 (expression New) (n1 (expression SuperCall) l0) l0) ≡ false
new_super_call = refl

new_super_member : is (Expr 0) (n2 (expression New) (n1 (expression SuperMember) (n "a")) l0) ≡ true
new_super_member = refl

new_super_pair : prints (script (l1 (stmt (n2 (expression New) (n1 (expression SuperCall) l0) l0)))) "new (super())();\n" ≡ true
new_super_pair = refl

-- new.target in a field and a function, not in an arrow at the top
target_field : keeps_class (l1 (n2 (function (Field InClass)) (n "a") (l1 (n0 (expression NewTarget))))) ≡ true
target_field = refl

target_arrow : keeps (script (l1 (stmt (arrow l0 (n0 (expression NewTarget)))))) ≡ false
target_arrow = refl

-- super members in an object's method, not in a function of it
super_method : keeps (script (l1 (stmt (paren (object_of (l1 (n3 (function (Method InObject)) (n "a") l0 (body_of (l1 (stmt (n1 (expression SuperMember) (n "b")))))))))))) ≡ true
super_method = refl

super_function : keeps (script (l1 (stmt (paren (object_of (l1 (n2 (expression Property) (n "a") (n3 (function FunctionExpr) l0 l0 (body_of (l1 (stmt (n1 (expression SuperMember) (n "b"))))))))))))) ≡ false
super_function = refl

-- a class is strict, with its heritage
strict_class : keeps (script (class_in (l1 (n3 (function (Method InClass)) (n "a") l0 (body_of (l1 (block (l1 (n3 (statement FunctionDecl) (n "f") l0 (body_of l0)))))))))) ≡ true
strict_class = refl

-- functions are written so
function_texts : prints (script (l1 (stmt (call (n "f") (l2 (n3 (function FunctionExpr) l0 (l1 (n "a")) (body_of l0)) (n3 (function FunctionExpr) (l1 (n "g")) l0 (body_of (l1 (n1 (statement Return) l0))))))))) "f(function (a) {}, function g() {\n    return;\n});\n" ≡ true
function_texts = refl

class_texts : prints (script (l1 (n1 (statement (Var VarWord)) (l2 (n2 (statement Declarator) (n "a") (l1 (n3 (function ClassExpr) l0 l0 l0))) (n2 (statement Declarator) (n "b") (l1 (n3 (function ClassExpr) (l1 (n "B")) (l1 (dot (n "c") "d")) (l1 (n3 (function (Setter Static)) (n "e") (n "g") (body_of l0)))))))))) "var a = class {}, b = class B extends c.d {\n    static set e(g) {}\n};\n" ≡ true
class_texts = refl

object_texts : prints (script (l1 (stmt (set_to (n "a") (object_of (l3 (n3 (function (Method InObject)) (n "b") l0 (body_of (l1 (stmt (n "c"))))) (n2 (function (Getter InObject)) (str "'d'") (body_of l0)) (n1 (expression Spread) (n "e")))))))) "a = { b() {\n    c;\n}, get 'd'() {}, ...e };\n" ≡ true
object_texts = refl
