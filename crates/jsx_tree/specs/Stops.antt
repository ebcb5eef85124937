-- Where a tree ends because nothing goes on with it.
use Rattle.std.specs.Prelude.{ℕ, List, [], ◌∷◌, ◌++◌, codes, Bool, true, false, not, nat_le, nat_eq, ◌&&◌, ◌||◌, Option, Some, None}
use Rattle.jsx_base.specs.Token.{Text, Operator, token, breaks, same, among}
use Rattle.jsx_tree.specs.Signs.{Ending, AfterExpr, AfterBlock, AfterBinding}
use Rattle.jsx_tree.specs.Nonterminals.{Nonterminal, Expr, NullishLeft, NewCallee, MemberObject, DotObject, SimpleTarget, ForHead, ForOfHead, ForInit, Argument, ArrayItem, Slot, PatElement, Param, SetterParam, Declarators, ObjectMember, PatProp}
use Rattle.jsx_tree.specs.Reading.{Place, Lost, At, is_backquote}

-- the tokens that go on with an expression, by the level of what they make of it
abbrev pub assigning : List Text
assigning = codes "=" ∷ codes "=>" ∷ codes "+=" ∷ codes "-=" ∷ codes "*=" ∷ codes "/=" ∷ codes "%=" ∷ codes "**=" ∷ codes "<<=" ∷ codes ">>=" ∷ codes ">>>=" ∷ codes "&=" ∷ codes "|=" ∷ codes "^=" ∷ codes "&&=" ∷ codes "||=" ∷ codes "??=" ∷ []

abbrev pub comparing : List Text
comparing = codes "<" ∷ codes ">" ∷ codes "<=" ∷ codes ">=" ∷ codes "in" ∷ codes "instanceof" ∷ []

abbrev pub pick : Bool → List Text → List Text → List Text
pick true xs ys = xs ++ ys
pick false xs ys = ys

abbrev pub going : ℕ → List Text
going n =
    pick (nat_le n 0) (codes "," ∷ []) (pick (nat_le n 1) assigning (pick (nat_le n 2) (codes "?" ∷ []) (pick (nat_le n 3) (codes "??" ∷ []) (pick (nat_le n 4) (codes "||" ∷ []) (pick (nat_le n 5) (codes "&&" ∷ []) (pick (nat_le n 6) (codes "|" ∷ [])
    (pick (nat_le n 7) (codes "^" ∷ []) (pick (nat_le n 8) (codes "&" ∷ []) (pick (nat_le n 9) (codes "==" ∷ codes "!=" ∷ codes "===" ∷ codes "!==" ∷ []) (pick (nat_le n 10) comparing (pick (nat_le n 11) (codes "<<" ∷ codes ">>" ∷ codes ">>>" ∷ [])
    (pick (nat_le n 12) (codes "+" ∷ codes "-" ∷ []) (pick (nat_le n 13) (codes "*" ∷ codes "/" ∷ codes "%" ∷ []) (pick (nat_le n 14) (codes "**" ∷ []) (pick (nat_le n 17) (codes "." ∷ codes "?." ∷ codes "[" ∷ codes "(" ∷ []) (pick (nat_eq n 100) (codes "." ∷ codes "[" ∷ []) []))))))))))))))))

-- the flag says whether a line ends before the token
abbrev pub quotes : ℕ → Bool
quotes n = nat_le n 17 || nat_eq n 100

abbrev pub goes_on : ℕ → Bool → Text → Bool
goes_on n b t = among t (going n) || ((quotes n && is_backquote t) || (nat_le n 16 && (not b && among t (codes "++" ∷ codes "--" ∷ []))))

-- the level of expression that may stand last in what is at home there; 100 is what `new` stands before, with which neither a call nor a chain goes on
abbrev pub level_asked : Nonterminal → Option ℕ
level_asked (Expr n) = Some n
level_asked NullishLeft = Some 3
level_asked NewCallee = Some 100
level_asked MemberObject = Some 17
level_asked DotObject = Some 17
level_asked SimpleTarget = Some 17
level_asked ForHead = Some 17
level_asked ForOfHead = Some 17
level_asked ForInit = Some 0
level_asked Argument = Some 1
level_asked ArrayItem = Some 1
level_asked (Slot r) = Some 1
level_asked (PatElement r) = Some 1
level_asked Param = Some 1
level_asked SetterParam = Some 1
level_asked Declarators = Some 1
level_asked ObjectMember = Some 1
level_asked (PatProp r) = Some 1
level_asked c = None

abbrev pub goes : Option ℕ → Ending → Bool → Text → Bool
goes None e b t = false
goes (Some n) AfterExpr b t = goes_on n b t
goes (Some n) AfterBlock b t = nat_eq n 0 && same t (codes ",")
goes (Some n) AfterBinding b t = among t (going n) && same t (codes "=")
goes (Some n) e b t = false

abbrev pub stops : Nonterminal → Place → Bool
stops c Lost = true
stops c (At q e text) = not (goes (level_asked c) e (breaks text) (token Operator false text).raw)
