-- The walk by rank and opening is the one walk by the productions, and so `parenthesise`, on programs that are formed.
use Rattle.std.proofs.Common.{◌≡◌, List, [], ◌∷◌, Bool, true, false, refl, ap, sym, ◌∙◌, subst, ⊎_elim}
use Rattle.std.proofs.lemmas.Bool.{true≢false, false≢true, and_parts, or_cases}
use Rattle.std.specs.Prelude.{not, ◌&&◌, ◌||◌}
use Rattle.jsx_base.specs.Token.{Text}
use Rattle.jsx_tree.specs.Kinds.{ArrayPat, Binary, Binds, CallLink, Delete, Field, ForBinding, ForDeclaration, FunctionExpr, ClassExpr, FunctionDecl, ClassDecl, ExportDefaultFn, ExportDefaultExpr, ExprStmt, Arrow, BareArrow, ComputedKey, Getter, Imported, InObject, Increment, IndexLink, Kind, Method, NameLink, Nullish, ObjectPat, OpAssign, PlainTemplate, PostfixUpdate, PrefixUpdate, PropertyPat, RestPat, RestProperty, Setter, ShorthandInit, ShorthandPat, Specifier, SpecifierAs, SubstitutedTemplate, TemplateSpan, Unary, Var, VarWord, WithInit, expression, function, jsx, program, statement, Tree, leaf, node, list, Forest, none, part, Element}
use Rattle.jsx_tree.specs.Nonterminals.{Nonterminal, Expr, Key, BindingIdent, Param, Body, ClassMember, WholeProgram, in_homes, homes}
use Rattle.jsx_tree.specs.Form.{Form, Single, Maybe, Several, Position, position, positions, enough, at_most_one, last_only}
use Rattle.jsx_tree.specs.Parentheses.{asks, special, is_init, parenthesise}
use Rattle.jsx_tree.specs.Sound.{may_stand, is_no_jsx, loose, loose_slots, loose_each, formed}
use Rattle.jsx_tree.proofs.ReadBack.RowChecks.{is_none}
use Rattle.jsx_scope.specs.OneWalk.{paired, below, opened}
use Rattle.jsx_scope.specs.OneWalk as one
use Rattle.jsx_scope.specs.declared.place.Place.{Place}
use Rattle.jsx_scope.specs.declared.place.Place.TheVariants as place
use Rattle.jsx_scope.specs.Places.{place_at}
use Rattle.jsx_scope.specs.Walk.{Reach, Spot, spot, still, spot_of, spots_of, spots, reach_of, reached, due, walk, walks, walk_each, enclosed}
use Rattle.jsx_scope.proofs.OneWalk.{one_walk}
use Rattle.jsx_scope.proofs.Same.{at_17}
use Rattle.jsx_scope.proofs.Openings.{no_bound}
use Rattle.jsx_scope.proofs.Dues.{Dues, dues_plain, dues_statement, dues_default, dues_arrow}

-- a row of positions, and the spots that stand for them
data Fits : List Position → List Spot → Type 0 where
  end : Fits [] []
  one_part : {c : Nonterminal} {g : List Text} {b : Bool} {a : _} {p : Place} {r : Reach} {ss : List Position} {us : List Spot} → Dues c g p → ((bare : Bool) → opened (is_init c) b bare ≡ reached r bare) → Fits ss us → Fits (position Single c g b a ∷ ss) (spot p r ∷ us)
  many : {f : Form} {c : Nonterminal} {b : Bool} {a : _} {p : Place} {r : Reach} {ss : List Position} {us : List Spot} → Dues c [] p → ((bare : Bool) → opened (is_init c) b bare ≡ reached r bare) → Fits ss us → Fits (position f c [] b a ∷ ss) (spot p r ∷ us)
  name : {f : Form} {b : Bool} {a : _} {ss : List Position} {us : List Spot} → Fits ss us → Fits (position f BindingIdent [] b a ∷ ss) (still ∷ us)
  key : {b : Bool} {a : _} {ss : List Position} {us : List Spot} → Fits ss us → Fits (position Single Key [] b a ∷ ss) (enclosed ∷ us)

-- ---- rows where nothing may not come first

abbrev is_key : Nonterminal → Bool
is_key Key = true
is_key c = false

key_is : (c : Nonterminal) → is_key c ≡ true → c ≡ Key
key_is Key h = refl
key_is _ h = absurd (false≢true h)

spot_not_key : (f : Form) (c : Nonterminal) (g : List Text) (b : Bool) (a : _) → is_key c ≡ false → spot_of (position f c g b a) ≡ spot (place_at c g) (reach_of (is_init c) b)
spot_not_key f Key g b a h = absurd (true≢false h)
spot_not_key f _ g b a h = refl

reach_is : (i b bare : Bool) → opened i b bare ≡ reached (reach_of i b) bare
reach_is true b bare = refl
reach_is false true bare = refl
reach_is false false bare = refl

abbrev is_single : Form → Bool
is_single Single = true
is_single f = false

abbrev plain_row : List Position → Bool
plain_row [] = true
plain_row (position f c g b a ∷ ss) = is_none g && ((at_17 c && (not (is_key c) || is_single f)) && plain_row ss)

plain_at : (f : Form) (c : Nonterminal) (b : Bool) (a : _) (v : Bool) → is_key c ≡ v → at_17 c ≡ true → (not v || is_single f) ≡ true → (ss : List Position) (us : List Spot) → Fits ss us → Fits (position f c [] b a ∷ ss) (spot_of (position f c [] b a) ∷ us)
plain_at Single c b a true e l n ss us h = subst (λ d. Fits (position Single d [] b a ∷ ss) (spot_of (position Single d [] b a) ∷ us)) (sym (key_is c e)) (key h)
plain_at Maybe c b a true e l n ss us h = absurd (false≢true n)
plain_at (Several s) c b a true e l n ss us h = absurd (false≢true n)
plain_at f c b a false e l n ss us h = subst (λ s. Fits (position f c [] b a ∷ ss) (s ∷ us)) (sym (spot_not_key f c [] b a e)) (many (dues_plain c l) (reach_is (is_init c) b) h)

plain_fits : (ss : List Position) → plain_row ss ≡ true → Fits ss (spots_of ss)
plain_fits [] h = end
plain_fits (position f c [] b a ∷ ss) h =
    let x = and_parts (at_17 c && (not (is_key c) || is_single f)) (plain_row ss) h in let y = and_parts (at_17 c) (not (is_key c) || is_single f) x.0 in
    plain_at f c b a (is_key c) refl y.0 y.1 ss (spots_of ss) (plain_fits ss x.1)
plain_fits (position f c (t ∷ ts) b a ∷ ss) h = absurd (false≢true h)

fits : (k : Kind) → is_no_jsx k ≡ true → Fits (positions k) (spots k)
fits (jsx k) n = absurd (false≢true n)
fits (statement ExprStmt) n = one_part dues_statement (λ b. refl) end
fits (expression Arrow) n = many (dues_plain Param refl) (λ b. refl) (one_part dues_arrow (λ b. refl) end)
fits (expression BareArrow) n = many (dues_plain BindingIdent refl) (λ b. refl) (one_part dues_arrow (λ b. refl) end)
fits (program ExportDefaultExpr) n = one_part dues_default (λ b. refl) end
fits (function FunctionExpr) n = name (many (dues_plain Param refl) (λ b. refl) (many (dues_plain Body refl) (λ b. refl) end))
fits (statement FunctionDecl) n = name (many (dues_plain Param refl) (λ b. refl) (many (dues_plain Body refl) (λ b. refl) end))
fits (program ExportDefaultFn) n = name (many (dues_plain Param refl) (λ b. refl) (many (dues_plain Body refl) (λ b. refl) end))
fits (function ClassExpr) n = name (many (dues_plain (Expr 17) refl) (λ b. refl) (many (dues_plain ClassMember refl) (λ b. refl) end))
fits (statement ClassDecl) n = name (many (dues_plain (Expr 17) refl) (λ b. refl) (many (dues_plain ClassMember refl) (λ b. refl) end))
fits (program (Specifier Imported)) n = plain_fits (positions (program (Specifier Imported))) refl
fits (program (SpecifierAs Imported)) n = plain_fits (positions (program (SpecifierAs Imported))) refl
fits (statement (Var VarWord)) n = plain_fits (positions (statement (Var VarWord))) refl
fits (statement (ForDeclaration VarWord)) n = plain_fits (positions (statement (ForDeclaration VarWord))) refl
fits (statement (ForBinding VarWord)) n = plain_fits (positions (statement (ForBinding VarWord))) refl
fits (function (Method InObject)) n = plain_fits (positions (function (Method InObject))) refl
fits (function (Getter InObject)) n = plain_fits (positions (function (Getter InObject))) refl
fits (function (Setter InObject)) n = plain_fits (positions (function (Setter InObject))) refl
fits (function (Field InObject)) n = plain_fits (positions (function (Field InObject))) refl
fits (function (ArrayPat Binds)) n = plain_fits (positions (function (ArrayPat Binds))) refl
fits (function (ObjectPat Binds)) n = plain_fits (positions (function (ObjectPat Binds))) refl
fits (function (PropertyPat Binds)) n = plain_fits (positions (function (PropertyPat Binds))) refl
fits (function (ShorthandPat Binds)) n = plain_fits (positions (function (ShorthandPat Binds))) refl
fits (function (ShorthandInit Binds)) n = plain_fits (positions (function (ShorthandInit Binds))) refl
fits (function (WithInit Binds)) n = plain_fits (positions (function (WithInit Binds))) refl
fits (function (RestPat Binds)) n = plain_fits (positions (function (RestPat Binds))) refl
fits (function (RestProperty Binds)) n = plain_fits (positions (function (RestProperty Binds))) refl
fits (expression (Binary Nullish)) n = plain_fits (positions (expression (Binary Nullish))) refl
fits (expression (OpAssign Nullish)) n = plain_fits (positions (expression (OpAssign Nullish))) refl
fits (expression (Unary Delete)) n = plain_fits (positions (expression (Unary Delete))) refl
fits (expression (PrefixUpdate Increment)) n = plain_fits (positions (expression (PrefixUpdate Increment))) refl
fits (expression (PostfixUpdate Increment)) n = plain_fits (positions (expression (PostfixUpdate Increment))) refl
fits (expression (NameLink true)) n = plain_fits (positions (expression (NameLink true))) refl
fits (expression (IndexLink true)) n = plain_fits (positions (expression (IndexLink true))) refl
fits (expression (CallLink true)) n = plain_fits (positions (expression (CallLink true))) refl
fits (expression (PlainTemplate true)) n = plain_fits (positions (expression (PlainTemplate true))) refl
fits (expression (SubstitutedTemplate true)) n = plain_fits (positions (expression (SubstitutedTemplate true))) refl
fits (expression (TemplateSpan true)) n = plain_fits (positions (expression (TemplateSpan true))) refl
fits k n = plain_fits (positions k) refl

-- ---- names and keys

never_in : (v : Bool) → (v && false) ≡ false
never_in true = refl
never_in false = refl

name_stays : (bare : Bool) (t : Tree) → may_stand BindingIdent t ≡ true → one.walk BindingIdent [] bare t ≡ t
name_stays bare (leaf s x) m = ap (λ v. paired v (leaf s x)) (never_in bare)
name_stays bare (node k cs) m = absurd (false≢true (sym (no_bound k) ∙ m))
name_stays bare (list ts) m = absurd (false≢true m)

names_stay : (bare : Bool) (ts : Forest) → loose_each BindingIdent ts ≡ true → one.walk_each BindingIdent bare ts ≡ ts
names_stay bare none h = refl
names_stay bare (part t ts) h =
    let x = and_parts (may_stand BindingIdent t) (loose BindingIdent t && loose_each BindingIdent ts) h in let y = and_parts (loose BindingIdent t) (loose_each BindingIdent ts) x.1 in
    ap (λ u. part u (one.walk_each BindingIdent bare ts)) (name_stays bare t x.0) ∙ ap (part t) (names_stay bare ts y.1)

abbrev is_computed : Kind → Bool
is_computed (function ComputedKey) = true
is_computed k = false

key_home : (k : Kind) → (is_computed k || not (in_homes Key (homes k))) ≡ true
key_home (program (Specifier Imported)) = refl
key_home (program (SpecifierAs Imported)) = refl
key_home (statement (Var VarWord)) = refl
key_home (statement (ForDeclaration VarWord)) = refl
key_home (statement (ForBinding VarWord)) = refl
key_home (function (Method InObject)) = refl
key_home (function (Getter InObject)) = refl
key_home (function (Setter InObject)) = refl
key_home (function (Field InObject)) = refl
key_home (function (ArrayPat Binds)) = refl
key_home (function (ObjectPat Binds)) = refl
key_home (function (PropertyPat Binds)) = refl
key_home (function (ShorthandPat Binds)) = refl
key_home (function (ShorthandInit Binds)) = refl
key_home (function (WithInit Binds)) = refl
key_home (function (RestPat Binds)) = refl
key_home (function (RestProperty Binds)) = refl
key_home (expression (Binary Nullish)) = refl
key_home (expression (OpAssign Nullish)) = refl
key_home (expression (Unary Delete)) = refl
key_home (expression (PrefixUpdate Increment)) = refl
key_home (expression (PostfixUpdate Increment)) = refl
key_home (expression (NameLink true)) = refl
key_home (expression (IndexLink true)) = refl
key_home (expression (CallLink true)) = refl
key_home (expression (PlainTemplate true)) = refl
key_home (expression (SubstitutedTemplate true)) = refl
key_home (expression (TemplateSpan true)) = refl
key_home (jsx Element) = refl
key_home _ = refl

key_bare : (bare : Bool) (t : Tree) → may_stand Key t ≡ true → one.walk Key [] bare t ≡ one.walk Key [] false t
key_bare true (leaf s x) m = refl
key_bare true (node (function ComputedKey) none) m = refl
key_bare true (node (function ComputedKey) (part a none)) m = refl
key_bare true (node (function ComputedKey) (part a (part b bs))) m = refl
key_bare true (node k cs) m = absurd (false≢true (sym (ap not m) ∙ key_home k))
key_bare true (list ts) m = absurd (false≢true m)
key_bare false t m = refl

-- ---- the walk

mutual
  pub same : (c : Nonterminal) (g : List Text) (p : Place) → Dues c g p → (bare : Bool) (t : Tree) → may_stand c t ≡ true → loose c t ≡ true → one.walk c g bare t ≡ walk p bare t
  same c g p d bare (leaf s x) m h = ap (λ v. paired v (leaf s x)) (d bare (leaf s x) m h)
  same c g p d bare (node k cs) m h =
      let q = and_parts (is_no_jsx k) (loose_slots (positions k) cs) h in
      ap (λ v. paired v (special k (one.walks (below v bare) (positions k) cs))) (d bare (node k cs) m h)
      ∙ ap (λ ds. paired (due p bare (node k cs)) (special k ds)) (rows (positions k) (spots k) (fits k q.0) (below (due p bare (node k cs)) bare) cs q.1)
  same c g p d bare (list ts) m h = absurd (⊎_elim (λ q. false≢true (and_parts (asks c) false q).1) (λ q. false≢true q) (or_cases (asks c && false) false m))

  rows : (ss : List Position) (us : List Spot) → Fits ss us → (bare : Bool) (cs : Forest) → loose_slots ss cs ≡ true → one.walks bare ss cs ≡ walks bare us cs
  rows [] (s ∷ us) i bare cs h = elim i [ ]
  rows (position f c g b a ∷ ss) [] i bare cs h = elim i [ ]
  rows [] [] end bare none h = refl
  rows [] [] end bare (part t ts) h = absurd (false≢true h)
  rows (position Single c g b a ∷ ss) (spot p r ∷ us) (one_part d e i) bare none h = refl
  rows (position Single c g b a ∷ ss) (spot p r ∷ us) (one_part d e i) bare (part t ts) h =
      let x = and_parts (may_stand c t) (loose c t && loose_slots ss ts) h in let y = and_parts (loose c t) (loose_slots ss ts) x.1 in
      ap (λ v. part (one.walk c g v t) (one.walks bare ss ts)) (e bare)
      ∙ (ap (λ u. part u (one.walks bare ss ts)) (same c g p d (reached r bare) t x.0 y.0)
      ∙ ap (part (walk p (reached r bare) t)) (rows ss us i bare ts y.1))
  rows (position f c [] b a ∷ ss) (spot p r ∷ us) (many d e i) bare none h = refl
  rows (position Single c [] b a ∷ ss) (spot p r ∷ us) (many d e i) bare (part t ts) h =
      let x = and_parts (may_stand c t) (loose c t && loose_slots ss ts) h in let y = and_parts (loose c t) (loose_slots ss ts) x.1 in
      ap (λ v. part (one.walk c [] v t) (one.walks bare ss ts)) (e bare)
      ∙ (ap (λ u. part u (one.walks bare ss ts)) (same c [] p d (reached r bare) t x.0 y.0)
      ∙ ap (part (walk p (reached r bare) t)) (rows ss us i bare ts y.1))
  rows (position Maybe c [] b a ∷ ss) (spot p r ∷ us) (many d e i) bare (part (list vs) ts) h =
      let x = and_parts (at_most_one vs) (loose_each c vs && loose_slots ss ts) h in let y = and_parts (loose_each c vs) (loose_slots ss ts) x.1 in
      ap (λ v. part (list (one.walk_each c v vs)) (one.walks bare ss ts)) (e bare)
      ∙ (ap (λ u. part (list u) (one.walks bare ss ts)) (each c p d (reached r bare) vs y.0)
      ∙ ap (part (list (walk_each p (reached r bare) vs))) (rows ss us i bare ts y.1))
  rows (position (Several s) c [] b a ∷ ss) (spot p r ∷ us) (many d e i) bare (part (list vs) ts) h =
      let x = and_parts (enough s vs && last_only vs) (loose_each c vs && loose_slots ss ts) h in let y = and_parts (loose_each c vs) (loose_slots ss ts) x.1 in
      ap (λ v. part (list (one.walk_each c v vs)) (one.walks bare ss ts)) (e bare)
      ∙ (ap (λ u. part (list u) (one.walks bare ss ts)) (each c p d (reached r bare) vs y.0)
      ∙ ap (part (list (walk_each p (reached r bare) vs))) (rows ss us i bare ts y.1))
  rows (position Maybe c [] b a ∷ ss) (spot p r ∷ us) (many d e i) bare (part (leaf s x) ts) h = absurd (false≢true h)
  rows (position Maybe c [] b a ∷ ss) (spot p r ∷ us) (many d e i) bare (part (node k cs) ts) h = absurd (false≢true h)
  rows (position (Several s') c [] b a ∷ ss) (spot p r ∷ us) (many d e i) bare (part (leaf s x) ts) h = absurd (false≢true h)
  rows (position (Several s') c [] b a ∷ ss) (spot p r ∷ us) (many d e i) bare (part (node k cs) ts) h = absurd (false≢true h)
  rows (position f BindingIdent [] b a ∷ ss) (still ∷ us) (name i) bare none h = refl
  rows (position Single BindingIdent [] b a ∷ ss) (still ∷ us) (name i) bare (part t ts) h =
      let x = and_parts (may_stand BindingIdent t) (loose BindingIdent t && loose_slots ss ts) h in let y = and_parts (loose BindingIdent t) (loose_slots ss ts) x.1 in
      ap (λ u. part u (one.walks bare ss ts)) (name_stays (opened false b bare) t x.0) ∙ ap (part t) (rows ss us i bare ts y.1)
  rows (position Maybe BindingIdent [] b a ∷ ss) (still ∷ us) (name i) bare (part (list vs) ts) h =
      let x = and_parts (at_most_one vs) (loose_each BindingIdent vs && loose_slots ss ts) h in let y = and_parts (loose_each BindingIdent vs) (loose_slots ss ts) x.1 in
      ap (λ u. part (list u) (one.walks bare ss ts)) (names_stay (opened false b bare) vs y.0) ∙ ap (part (list vs)) (rows ss us i bare ts y.1)
  rows (position Maybe BindingIdent [] b a ∷ ss) (still ∷ us) (name i) bare (part (leaf s x) ts) h = absurd (false≢true h)
  rows (position Maybe BindingIdent [] b a ∷ ss) (still ∷ us) (name i) bare (part (node k cs) ts) h = absurd (false≢true h)
  rows (position (Several s) BindingIdent [] b a ∷ ss) (still ∷ us) (name i) bare (part (list vs) ts) h =
      let x = and_parts (enough s vs && last_only vs) (loose_each BindingIdent vs && loose_slots ss ts) h in let y = and_parts (loose_each BindingIdent vs) (loose_slots ss ts) x.1 in
      ap (λ u. part (list u) (one.walks bare ss ts)) (names_stay (opened false b bare) vs y.0) ∙ ap (part (list vs)) (rows ss us i bare ts y.1)
  rows (position (Several s') BindingIdent [] b a ∷ ss) (still ∷ us) (name i) bare (part (leaf s x) ts) h = absurd (false≢true h)
  rows (position (Several s') BindingIdent [] b a ∷ ss) (still ∷ us) (name i) bare (part (node k cs) ts) h = absurd (false≢true h)
  rows (position Single Key [] b a ∷ ss) (s ∷ us) (key i) bare none h = refl
  rows (position Single Key [] b a ∷ ss) (s ∷ us) (key i) bare (part t ts) h =
      let x = and_parts (may_stand Key t) (loose Key t && loose_slots ss ts) h in let y = and_parts (loose Key t) (loose_slots ss ts) x.1 in
      ap (λ u. part u (one.walks bare ss ts)) (key_bare (opened false b bare) t x.0 ∙ same Key [] (place.Level 0) (dues_plain Key refl) false t x.0 y.0)
      ∙ ap (part (walk (place.Level 0) false t)) (rows ss us i bare ts y.1)

  each : (c : Nonterminal) (p : Place) → Dues c [] p → (bare : Bool) (ts : Forest) → loose_each c ts ≡ true → one.walk_each c bare ts ≡ walk_each p bare ts
  each c p d bare none h = refl
  each c p d bare (part t ts) h =
      let x = and_parts (may_stand c t) (loose c t && loose_each c ts) h in let y = and_parts (loose c t) (loose_each c ts) x.1 in
      ap (λ u. part u (one.walk_each c bare ts)) (same c [] p d bare t x.0 y.0) ∙ ap (part (walk p bare t)) (each c p d bare ts y.1)

-- what the walk gives is what the definition gives
pub walked_once : (t : Tree) → formed t ≡ true → parenthesise t ≡ walk (place.Level 0) false t
walked_once t h =
    let x = and_parts (may_stand WholeProgram t) (loose WholeProgram t) h in
    one_walk t ∙ same WholeProgram [] (place.Level 0) (dues_plain WholeProgram refl) false t x.0 x.1
