-- A node's parts walked one after the other are all of them walked.
use Rattle.std.proofs.lemmas.Bool.Decides.{nat_tests}
use Rattle.std.proofs.Common.{arith, ◌≡◌, ℕ, zero, suc, List, [], ◌∷◌, Bool, true, false, refl, ap, sym, ◌∙◌}
use Rattle.std.proofs.lemmas.Bool.{false≢true, true≢false}
use Rattle.std.specs.Prelude.{nat_lt, ◌&&◌, ◌||◌}
use Rattle.jsx_tree.specs.Kinds.{Kind, program, statement, function, expression, jsx, Module, Script, FunctionBody, ForOf, Declarator, Default, FunctionDecl, ClassDecl, FunctionExpr, ClassExpr, WithInit, PropertyPat, ShorthandInit, Binary, Nullish, Tree, leaf, node, list, Forest, none, part, ArrayPat, Binds, CallLink, Delete, Field, ForBinding, ForDeclaration, Getter, Imported, InObject, Increment, IndexLink, Method, NameLink, ObjectPat, OpAssign, PlainTemplate, PostfixUpdate, PrefixUpdate, RestPat, RestProperty, Setter, ShorthandPat, Specifier, SpecifierAs, SubstitutedTemplate, TemplateSpan, Unary, Var, VarWord, Element}
use Rattle.jsx_tree.specs.Parentheses.{special, is_in, parens_of}
use Rattle.jsx_scope.specs.declared.place.Place.{Place}
use Rattle.jsx_scope.specs.declared.place.Place.TheVariants as place
use Rattle.jsx_scope.specs.OneWalk.{paired, below}
use Rattle.jsx_scope.specs.Walk.{Reach, Enclosed, Open, Spot, spot, still, spots, reached, rank, due, walk, walks, inner, walk_nth, with_part, finished, with_code, but_code, has_halves, but_half, with_half, with_test, with_second}

abbrev at_most : ℕ → List Spot → Bool
at_most n [] = true
at_most zero (s ∷ ss) = false
at_most (suc n) (s ∷ ss) = at_most n ss

none_left : (bare : Bool) (ss : List Spot) (cs : Forest) → at_most 0 ss ≡ true → cs ≡ walks bare ss cs
none_left bare ss none h = refl
none_left bare [] (part t ts) h = refl
none_left bare (s ∷ ss) (part t ts) h = absurd (false≢true h)

one_left : (bare : Bool) (ss : List Spot) (cs : Forest) → at_most 1 ss ≡ true → walk_nth 0 bare ss cs ≡ walks bare ss cs
one_left bare ss none h = refl
one_left bare [] (part t ts) h = refl
one_left bare (spot p r ∷ ss) (part t ts) h = ap (part (walk p (reached r bare) t)) (none_left bare ss ts h)
one_left bare (still ∷ ss) (part t ts) h = ap (part t) (none_left bare ss ts h)

two_left : (bare : Bool) (ss : List Spot) (cs : Forest) → at_most 2 ss ≡ true → walk_nth 1 bare ss (walk_nth 0 bare ss cs) ≡ walks bare ss cs
two_left bare ss none h = refl
two_left bare [] (part t ts) h = refl
two_left bare (spot p r ∷ ss) (part t ts) h = ap (part (walk p (reached r bare) t)) (one_left bare ss ts h)
two_left bare (still ∷ ss) (part t ts) h = ap (part t) (one_left bare ss ts h)

three_left : (bare : Bool) (ss : List Spot) (cs : Forest) → at_most 3 ss ≡ true → walk_nth 2 bare ss (walk_nth 1 bare ss (walk_nth 0 bare ss cs)) ≡ walks bare ss cs
three_left bare ss none h = refl
three_left bare [] (part t ts) h = refl
three_left bare (spot p r ∷ ss) (part t ts) h = ap (part (walk p (reached r bare) t)) (two_left bare ss ts h)
three_left bare (still ∷ ss) (part t ts) h = ap (part t) (two_left bare ss ts h)

four_left : (bare : Bool) (ss : List Spot) (cs : Forest) → at_most 4 ss ≡ true → walk_nth 3 bare ss (walk_nth 2 bare ss (walk_nth 1 bare ss (walk_nth 0 bare ss cs))) ≡ walks bare ss cs
four_left bare ss none h = refl
four_left bare [] (part t ts) h = refl
four_left bare (spot p r ∷ ss) (part t ts) h = ap (part (walk p (reached r bare) t)) (three_left bare ss ts h)
four_left bare (still ∷ ss) (part t ts) h = ap (part t) (three_left bare ss ts h)

few : (k : Kind) → at_most 4 (spots k) ≡ true
few (program (Specifier Imported)) = refl
few (program (SpecifierAs Imported)) = refl
few (statement (Var VarWord)) = refl
few (statement (ForDeclaration VarWord)) = refl
few (statement (ForBinding VarWord)) = refl
few (function (Method InObject)) = refl
few (function (Getter InObject)) = refl
few (function (Setter InObject)) = refl
few (function (Field InObject)) = refl
few (function (ArrayPat Binds)) = refl
few (function (ObjectPat Binds)) = refl
few (function (PropertyPat Binds)) = refl
few (function (ShorthandPat Binds)) = refl
few (function (ShorthandInit Binds)) = refl
few (function (WithInit Binds)) = refl
few (function (RestPat Binds)) = refl
few (function (RestProperty Binds)) = refl
few (expression (Binary Nullish)) = refl
few (expression (OpAssign Nullish)) = refl
few (expression (Unary Delete)) = refl
few (expression (PrefixUpdate Increment)) = refl
few (expression (PostfixUpdate Increment)) = refl
few (expression (NameLink true)) = refl
few (expression (IndexLink true)) = refl
few (expression (CallLink true)) = refl
few (expression (PlainTemplate true)) = refl
few (expression (SubstitutedTemplate true)) = refl
few (expression (TemplateSpan true)) = refl
few (jsx Element) = refl
few _ = refl

pub inner_is : (bare : Bool) (t : Tree) → finished (with_part 3 bare (with_part 2 bare (with_part 1 bare (with_part 0 bare t)))) ≡ inner bare t
inner_is bare (leaf s x) = refl
inner_is bare (list ts) = refl
inner_is bare (node k cs) = ap (special k) (four_left bare (spots k) cs (few k))

pub control_inner : (bare : Bool) (t : Tree) → finished (with_part 3 bare (with_part 2 bare (with_second bare (with_test bare t)))) ≡ inner bare t
control_inner bare (node (statement Default) none) = refl
control_inner bare (node (statement Default) (part t none)) = refl
control_inner bare (node (statement Default) (part t (part u us))) = refl
control_inner bare t = inner_is bare t

-- ---- functions and classes

pub code_row : (bare : Bool) (p q : Place) (r : Reach) (cs : Forest) → walk_nth 2 false (still ∷ spot p r ∷ spot q Enclosed ∷ []) (walk_nth 1 bare (still ∷ spot p r ∷ spot q Enclosed ∷ []) cs) ≡ walks bare (still ∷ spot p r ∷ spot q Enclosed ∷ []) cs
code_row bare p q r none = refl
code_row bare p q r (part a none) = refl
code_row bare p q r (part a (part b none)) = refl
code_row bare p q r (part a (part b (part c none))) = refl
code_row bare p q r (part a (part b (part c (part d ds)))) = refl

pub code_inner : (bare : Bool) (t : Tree) → with_code 2 false (with_code 1 bare (but_code bare t)) ≡ inner bare t
code_inner bare (leaf s x) = refl
code_inner bare (list ts) = refl
code_inner bare (node (function FunctionExpr) cs) = ap (node (function FunctionExpr)) (code_row bare (place.Level 0) (place.Level 0) Enclosed cs)
code_inner bare (node (function ClassExpr) cs) = ap (node (function ClassExpr)) (code_row bare (place.Level 17) (place.Level 0) Open cs)
code_inner bare (node (statement FunctionDecl) cs) = ap (node (statement FunctionDecl)) (code_row bare (place.Level 0) (place.Level 0) Enclosed cs)
code_inner bare (node (statement ClassDecl) cs) = ap (node (statement ClassDecl)) (code_row bare (place.Level 17) (place.Level 0) Open cs)
code_inner bare (node (program Module) cs) = refl
code_inner bare (node (program Script) cs) = refl
code_inner bare (node (program FunctionBody) cs) = refl
code_inner bare (node (statement ForOf) cs) = refl
code_inner bare (node k cs) = refl

-- ---- patterns

half_special : (bare : Bool) (k : Kind) (cs : Forest) → has_halves k ≡ false → with_half bare (special k cs) ≡ special k cs
half_special bare (program Module) cs h = refl
half_special bare (program Script) cs h = refl
half_special bare (program FunctionBody) cs h = refl
half_special bare (statement ForOf) cs h = refl
half_special bare (statement Declarator) cs h = absurd (true≢false h)
half_special bare (function (WithInit r)) cs h = absurd (true≢false h)
half_special bare (function (PropertyPat r)) cs h = absurd (true≢false h)
half_special bare (function (ShorthandInit r)) cs h = absurd (true≢false h)
half_special bare k cs h = refl

half_paired : (bare v : Bool) (k : Kind) (cs : Forest) → has_halves k ≡ false → with_half bare (paired v (special k cs)) ≡ paired v (special k cs)
half_paired bare true k cs h = refl
half_paired bare false k cs h = half_special bare k cs h

pub pattern_inner : (bare : Bool) (t : Tree) → with_half bare (but_half bare t) ≡ walk (place.Level 0) bare t
pattern_inner bare (leaf s x) = refl
pattern_inner bare (list ts) = refl
pattern_inner bare (node (statement Declarator) cs) = ap (node (statement Declarator)) (two_left bare (spots (statement Declarator)) cs refl)
pattern_inner bare (node (function (WithInit r)) cs) = ap (node (function (WithInit r))) (two_left bare (spots (function (WithInit r))) cs refl)
pattern_inner bare (node (function (PropertyPat r)) cs) = ap (node (function (PropertyPat r))) (two_left bare (spots (function (PropertyPat r))) cs refl)
pattern_inner bare (node (function (ShorthandInit r)) cs) = ap (node (function (ShorthandInit r))) (two_left bare (spots (function (ShorthandInit r))) cs refl)
pattern_inner bare (node k cs) = half_paired bare (due (place.Level 0) bare (node k cs)) k (walks (below (due (place.Level 0) bare (node k cs)) bare) (spots k) cs) refl

-- ---- a tree at its place

abbrev pub is_list : Tree → Bool
is_list (list ts) = true
is_list t = false

pub walk_due : (p : Place) (bare : Bool) (t : Tree) → is_list t ≡ false → due p bare t ≡ true → parens_of (inner false t) ≡ walk p bare t
walk_due p bare (leaf s x) l d = ap (λ v. paired v (leaf s x)) (sym d)
walk_due p bare (node k cs) l d = ap (λ v. paired v (special k (walks (below v bare) (spots k) cs))) (sym d)
walk_due p bare (list ts) l d = absurd (true≢false l)

pub walk_bare : (p : Place) (bare : Bool) (t : Tree) → is_list t ≡ false → due p bare t ≡ false → inner bare t ≡ walk p bare t
walk_bare p bare (leaf s x) l d = ap (λ v. paired v (leaf s x)) (sym d)
walk_bare p bare (node k cs) l d = ap (λ v. paired v (special k (walks (below v bare) (spots k) cs))) (sym d)
walk_bare p bare (list ts) l d = absurd (true≢false l)

pub not_below : (r : ℕ) → nat_lt r 0 ≡ false
not_below r = grind (arith, nat_tests)

pub level_zero : (bare : Bool) (t : Tree) → is_in t ≡ false → due (place.Level 0) bare t ≡ false
level_zero bare t h = ap (λ v. (v || false) || (is_in t && bare)) (not_below (rank t)) ∙ ap (λ v. v && bare) h
