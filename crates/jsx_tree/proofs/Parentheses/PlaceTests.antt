-- What each row is asked, so that pairs change nothing that its static rules look at.
use Rattle.std.proofs.Common.{List, [], ◌∷◌, Bool, true, false}
use Rattle.std.specs.Prelude.{not, ◌&&◌, ◌||◌}
use Rattle.jsx_tree.specs.Kinds.{Kind, program, statement, function, Script, FunctionBody, For, Label, ClassDecl, ClassExpr, Method, Getter, Setter}
use Rattle.jsx_tree.specs.Nonterminals.{Nonterminal, SubStmt, Stmt, Item, Body, in_homes}
use Rattle.jsx_tree.specs.Grammar.{Context, InMethod, InMembers, InLabel, InCode, production}
use Rattle.jsx_tree.specs.Form.{Form, Several, Position, position, positions}
use Rattle.jsx_tree.specs.Parentheses.{is_init}
use Rattle.jsx_tree.specs.StaticRules.{trails}
use Rattle.jsx_tree.specs.Sound.{lax}
use Rattle.jsx_tree.proofs.ReadBack.RowChecks.{is_tail}
use Rattle.jsx_tree.proofs.Parentheses.Bare.{firm}

-- a place where no kind stands at whose end an `if` may stand open
abbrev pub shut : Nonterminal → Bool
shut c = not (in_homes (lax c) (SubStmt ∷ Stmt ∷ Item ∷ []))

abbrev pub is_one : Form → Bool
is_one (Several s) = false
is_one f = true

abbrev pub last_one : List Position → Bool
last_one [] = true
last_one (position f c g b a ∷ []) = is_one f
last_one (s ∷ q ∷ ss) = last_one (q ∷ ss)

abbrev pub last_shut : List Position → Bool
last_shut [] = true
last_shut (position f c g b a ∷ []) = is_one f && shut c
last_shut (s ∷ q ∷ ss) = last_shut (q ∷ ss)

-- no body of a function stands among the parts, or each at a place that no pair changes
abbrev pub no_bodies : List Position → Bool
no_bodies [] = true
no_bodies (position f c g b a ∷ ss) = not (in_homes (lax c) (Body ∷ [])) && no_bodies ss

abbrev pub all_firm : List Position → Bool
all_firm [] = true
all_firm (position f c g b a ∷ ss) = firm c && all_firm ss

-- the contexts of a kind that look at its parts
abbrev pub is_method : Kind → Bool
is_method (function (Method h)) = true
is_method (function (Getter h)) = true
is_method (function (Setter h)) = true
is_method k = false

abbrev pub is_class : Kind → Bool
is_class (function ClassExpr) = true
is_class (statement ClassDecl) = true
is_class k = false

abbrev pub is_label : Kind → Bool
is_label (statement Label) = true
is_label k = false

abbrev pub is_code_kind : Kind → Bool
is_code_kind (program Script) = true
is_code_kind (program FunctionBody) = true
is_code_kind k = false

abbrev pub known : Kind → Context → Bool
known k (InMethod h) = is_method k
known k InMembers = is_class k
known k InLabel = is_label k
known k InCode = is_code_kind k
known k a = true

abbrev pub all_known : Kind → List Context → Bool
all_known k [] = true
all_known k (a ∷ as') = known k a && all_known k as'

abbrev pub knowns : Kind → List Position → Bool
knowns k [] = true
knowns k (position f c g b a ∷ ss) = all_known k a && knowns k ss

-- only a `for` has a head whose `in` is shielded
abbrev pub is_for : Kind → Bool
is_for (statement For) = true
is_for k = false

abbrev pub no_inits : List Position → Bool
no_inits [] = true
no_inits (position f c g b a ∷ ss) = not (is_init c) && no_inits ss

abbrev pub row_kept : Kind → Bool
row_kept k =
    (is_tail k || (not (trails (production k)) || last_shut (positions k))) && ((not (trails (production k)) || last_one (positions k))
    && ((no_bodies (positions k) || all_firm (positions k)) && (knowns k (positions k) && (is_for k || no_inits (positions k)))))
