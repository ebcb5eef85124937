-- A program that was read is proper.
use Rattle.std.proofs.Common.{◌≡◌, ℕ, List, [], ◌∷◌, Bool, true, false, cond, ◌&&◌, ◌||◌, not, nat_eq, nat_le, refl, sym, ap, ◌∙◌}
use Rattle.std.proofs.lemmas.Bool.{eqb-true}
use Rattle.jsx_base.specs.Token.{TokenKind, Text, IdentifierName, NoSubstitution, TemplateHead, TemplateMiddle, TemplateTail, JsxName, StringLiteral}
use Rattle.jsx_tree.specs.Kinds.{VarWord, Imported, Exported, From, Side, Module, Specifier, SpecifierAs, Block, Var, ForDeclaration, ForBinding, InObject, Binds, Assigns, FunctionExpr, Method, Getter, Setter, Field, ArrayPat, ObjectPat, PropertyPat, ShorthandPat, ShorthandInit, WithInit, RestPat, RestProperty, Nullish, Delete, Increment, Seq, OpAssign, Binary, Unary, PrefixUpdate, PostfixUpdate, NameLink, IndexLink, CallLink, PlainTemplate, SubstitutedTemplate, TemplateSpan, Element, Kind, program, statement, function, expression, jsx, Tree, leaf, node, list, Forest, none, part}
use Rattle.jsx_tree.specs.Nonterminals.{Nonterminal, Expr, MemberObject, Pat, Slot, PatProp, PatElement, TemplatePart, TemplateSpans, ForHead, ForOfHead, Specifiers, WholeProgram, NullishLeft, NullishOnly, NewCallee, DotObject, number, floor, takes, in_list, in_homes, homes, leaf_in}
use Rattle.jsx_tree.specs.Form.{Form, Single, Maybe, Several, Position, position, positions, at_most_one, spine_calls, admits_node, admits, shaped, fits_below, fit_slots, fit_each, is}
use Rattle.jsx_tree.specs.Sound.{each_node, each_nodes}
use Rattle.jsx_tree.proofs.Tokens.{and_left, and_right, and_both}
use Rattle.jsx_names.specs.Proper.{is_value, is_statement, is_substatement, is_import, is_specifier, is_directive, is_body, is_program, is_item, is_declaration, is_block, is_clause, is_catching, is_class, is_declarator, is_declaring, is_heading, is_pattern, fits, stands, each_stands, has_form, fill, is_proper, is_specifier_of, sided, each_sided, has_sides, sides, is_sided, proper}
use Rattle.jsx_names.proofs.ScopeNames.{never}

-- ---- what may stand at a place, by the place's number

-- with the side of a specifier
abbrev of_side : Nonterminal → Kind → Bool
of_side (Specifiers s) k = is_specifier_of s k
of_side c k = not (is_specifier k)

abbrev pub suits : Nonterminal → Kind → Bool
suits c k = fits c k && of_side c k

abbrev is_one : ℕ → List ℕ → Bool
is_one n [] = false
is_one n (m ∷ ms) = nat_eq n m || is_one n ms

abbrev is_fitting : ℕ → Kind → Bool
is_fitting n k =
    cond (is_one n (3 ∷ 4 ∷ 5 ∷ 6 ∷ [])) false (
    cond (is_one n (7 ∷ 9 ∷ 11 ∷ 13 ∷ 61 ∷ 62 ∷ [])) (is_pattern k) (
    cond (is_one n (14 ∷ [])) (is_declarator k) (
    cond (is_one n (29 ∷ [])) (is_statement k) (
    cond (is_one n (30 ∷ [])) (is_substatement k) (
    cond (is_one n (31 ∷ [])) (is_item k) (
    cond (is_one n (32 ∷ [])) (is_directive k) (
    cond (is_one n (33 ∷ [])) (is_body k) (
    cond (is_one n (34 ∷ [])) (is_block k) (
    cond (is_one n (35 ∷ [])) (is_clause k) (
    cond (is_one n (36 ∷ [])) (is_catching k) (
    cond (is_one n (37 ∷ [])) (is_declaration k) (
    cond (is_one n (39 ∷ [])) (is_class k) (
    cond (is_one n (40 ∷ [])) (is_declaring k || is_value k) (
    cond (is_one n (41 ∷ 60 ∷ [])) (is_heading k || is_value k) (
    cond (is_one n (42 ∷ 43 ∷ [])) (is_import k) (
    cond (is_one n (44 ∷ 45 ∷ 46 ∷ [])) (is_specifier k) (
    cond (is_one n (55 ∷ [])) (is_program k) (
    is_value k))))))))))))))))))

abbrev is_of_side : ℕ → Kind → Bool
is_of_side n k = cond (nat_eq n 44) (is_specifier_of Imported k) (cond (nat_eq n 45) (is_specifier_of Exported k) (cond (nat_eq n 46) (is_specifier_of From k) (not (is_specifier k))))

by_number : (c : Nonterminal) (k : Kind) → suits c k ≡ (is_fitting (number c) k && is_of_side (number c) k)
by_number (Pat Binds) k = refl
by_number (Pat Assigns) k = refl
by_number (Slot Binds) k = refl
by_number (Slot Assigns) k = refl
by_number (PatProp Binds) k = refl
by_number (PatProp Assigns) k = refl
by_number (PatElement Binds) k = refl
by_number (PatElement Assigns) k = refl
by_number (TemplatePart NoSubstitution) k = refl
by_number (TemplatePart TemplateHead) k = refl
by_number (TemplatePart TemplateMiddle) k = refl
by_number (TemplatePart TemplateTail) k = refl
by_number (TemplatePart s) k = refl
by_number (TemplateSpans true) k = refl
by_number (TemplateSpans false) k = refl
by_number (Specifiers Imported) k = refl
by_number (Specifiers Exported) k = refl
by_number (Specifiers From) k = refl
by_number c k = refl

-- what suits a home of a kind suits each place that takes that home
taken : (c d : Nonterminal) (k : Kind) → takes c d ≡ true → suits d k ≡ true → suits c k ≡ true
taken c d k t h =
    by_number c k
    ∙ ap (λ n. is_fitting n k && is_of_side n k) (eqb-true (number c) (number d) (and_left (nat_eq (number c) (number d)) (nat_le (floor c) (floor d)) t))
    ∙ sym (by_number d k)
    ∙ h

abbrev all_suit : Kind → List Nonterminal → Bool
all_suit k [] = true
all_suit k (d ∷ ds) = suits d k && all_suit k ds

at_home : (k : Kind) → all_suit k (homes k) ≡ true
at_home (program Module) = refl
at_home (program (Specifier Imported)) = refl
at_home (program (Specifier Exported)) = refl
at_home (program (Specifier From)) = refl
at_home (program (SpecifierAs Imported)) = refl
at_home (program (SpecifierAs Exported)) = refl
at_home (program (SpecifierAs From)) = refl
at_home (statement Block) = refl
at_home (statement (Var VarWord)) = refl
at_home (statement (ForDeclaration VarWord)) = refl
at_home (statement (ForBinding VarWord)) = refl
at_home (function FunctionExpr) = refl
at_home (function (Method InObject)) = refl
at_home (function (Getter InObject)) = refl
at_home (function (Setter InObject)) = refl
at_home (function (Field InObject)) = refl
at_home (function (ArrayPat Binds)) = refl
at_home (function (ObjectPat Binds)) = refl
at_home (function (PropertyPat Binds)) = refl
at_home (function (ShorthandPat Binds)) = refl
at_home (function (ShorthandInit Binds)) = refl
at_home (function (WithInit Binds)) = refl
at_home (function (RestPat Binds)) = refl
at_home (function (RestProperty Binds)) = refl
at_home (expression Seq) = refl
at_home (expression (Binary Nullish)) = refl
at_home (expression (OpAssign Nullish)) = refl
at_home (expression (Unary Delete)) = refl
at_home (expression (PrefixUpdate Increment)) = refl
at_home (expression (PostfixUpdate Increment)) = refl
at_home (expression (NameLink true)) = refl
at_home (expression (IndexLink true)) = refl
at_home (expression (CallLink true)) = refl
at_home (expression (PlainTemplate true)) = refl
at_home (expression (SubstitutedTemplate true)) = refl
at_home (expression (TemplateSpan true)) = refl
at_home (jsx Element) = refl
at_home k = refl

either_suits : (a b : Bool) (c : Nonterminal) (k : Kind) → (a ≡ true → suits c k ≡ true) → (b ≡ true → suits c k ≡ true) → a || b ≡ true → suits c k ≡ true
either_suits true b c k f g h = f refl
either_suits false b c k f g h = g h

list_suits : (c : Nonterminal) (k : Kind) (ds : List Nonterminal) → all_suit k ds ≡ true → in_list c ds ≡ true → suits c k ≡ true
list_suits c k [] a h = never h
list_suits c k (d ∷ ds) a h =
    either_suits (takes c d) (in_list c ds) c k
    (λ t. taken c d k t (and_left (suits d k) (all_suit k ds) a))
    (λ t. list_suits c k ds (and_right (suits d k) (all_suit k ds) a) t) h

home_suits : (c : Nonterminal) (k : Kind) (ds : List Nonterminal) → all_suit k ds ≡ true → in_homes c ds ≡ true → suits c k ≡ true
home_suits NullishLeft k ds a h = either_suits (in_list (Expr 6) ds) (in_list NullishOnly ds) NullishLeft k (λ t. list_suits (Expr 6) k ds a t) (λ t. list_suits NullishOnly k ds a t) h
home_suits NewCallee k ds a h = list_suits (Expr 17) k ds a h
home_suits DotObject k ds a h = list_suits MemberObject k ds a h
home_suits ForOfHead k ds a h = list_suits ForHead k ds a h
home_suits c k ds a h = list_suits c k ds a h

-- ---- trees

admitted : (c : Nonterminal) (t : Tree) (k : Kind) → admits_node c t k ≡ true → suits c k ≡ true
admitted NewCallee t k h = home_suits NewCallee k (homes k) (at_home k) (and_left (in_homes NewCallee (homes k)) (not (spine_calls t)) h)
admitted c t k h = home_suits c k (homes k) (at_home k) h

admits_stands : (c : Nonterminal) (t : Tree) → admits c t ≡ true → stands c t ≡ true
admits_stands c (leaf s x) h = refl
admits_stands c (node k cs) h = and_left (fits c k) (of_side c k) (admitted c (node k cs) k h)
admits_stands c (list ts) h = never h

no_leaf : (s : Side) (k : TokenKind) (x : Text) → leaf_in (Specifiers s) k x ≡ true → false ≡ true
no_leaf Imported IdentifierName x h = h
no_leaf Imported JsxName x h = h
no_leaf Imported StringLiteral x h = h
no_leaf Imported k x h = h
no_leaf Exported IdentifierName x h = h
no_leaf Exported JsxName x h = h
no_leaf Exported StringLiteral x h = h
no_leaf Exported k x h = h
no_leaf From IdentifierName x h = h
no_leaf From JsxName x h = h
no_leaf From StringLiteral x h = h
no_leaf From k x h = h

leaf_sided : (c : Nonterminal) (k : TokenKind) (x : Text) → leaf_in c k x ≡ true → sided c (leaf k x) ≡ true
leaf_sided (Specifiers s) k x h = no_leaf s k x h
leaf_sided c k x h = refl

node_sided : (c : Nonterminal) (k : Kind) (cs : Forest) → of_side c k ≡ true → sided c (node k cs) ≡ true
node_sided (Specifiers s) k cs h = h
node_sided c k cs h = h

admits_sided : (c : Nonterminal) (t : Tree) → admits c t ≡ true → sided c t ≡ true
admits_sided c (leaf s x) h = leaf_sided c s x h
admits_sided c (node k cs) h = node_sided c k cs (and_right (fits c k) (of_side c k) (admitted c (node k cs) k h))
admits_sided c (list ts) h = never h

each_admitted : (c : Nonterminal) (ts : Forest) → fit_each c ts ≡ true → each_stands c ts ≡ true
each_admitted c none h = refl
each_admitted c (part t ts) h = and_both (stands c t) (each_stands c ts) (admits_stands c t (and_left (admits c t) (fits_below c t && fit_each c ts) h)) (each_admitted c ts (and_right (fits_below c t) (fit_each c ts) (and_right (admits c t) (fits_below c t && fit_each c ts) h)))

each_on_side : (c : Nonterminal) (ts : Forest) → fit_each c ts ≡ true → each_sided c ts ≡ true
each_on_side c none h = refl
each_on_side c (part t ts) h = and_both (sided c t) (each_sided c ts) (admits_sided c t (and_left (admits c t) (fits_below c t && fit_each c ts) h)) (each_on_side c ts (and_right (fits_below c t) (fit_each c ts) (and_right (admits c t) (fits_below c t && fit_each c ts) h)))

form_stands : (f : Form) (c : Nonterminal) (t : Tree) → shaped f c t ≡ true → fits_below c t ≡ true → has_form f c t ≡ true
form_stands Single c t h b = admits_stands c t h
form_stands Maybe c (list ts) h b = and_both (at_most_one ts) (each_stands c ts) h (each_admitted c ts b)
form_stands Maybe c (leaf s x) h b = never h
form_stands Maybe c (node k cs) h b = never h
form_stands (Several s) c (list ts) h b = each_admitted c ts b
form_stands (Several s) c (leaf a x) h b = never h
form_stands (Several s) c (node k cs) h b = never h

form_sided : (f : Form) (c : Nonterminal) (t : Tree) → shaped f c t ≡ true → fits_below c t ≡ true → has_sides c t ≡ true
form_sided Single c (leaf s x) h b = admits_sided c (leaf s x) h
form_sided Single c (node k cs) h b = admits_sided c (node k cs) h
form_sided Single c (list ts) h b = never h
form_sided Maybe c (list ts) h b = each_on_side c ts b
form_sided Maybe c (leaf s x) h b = never h
form_sided Maybe c (node k cs) h b = never h
form_sided (Several s) c (list ts) h b = each_on_side c ts b
form_sided (Several s) c (leaf a x) h b = never h
form_sided (Several s) c (node k cs) h b = never h

slots_fill : (ss : List Position) (cs : Forest) → fit_slots ss cs ≡ true → fill ss cs ≡ true
slots_fill [] none h = refl
slots_fill [] (part t ts) h = never h
slots_fill (s ∷ ss) none h = never h
slots_fill (position f c g o a ∷ ss) (part t ts) h =
    let b = and_right (shaped f c t) (fits_below c t && fit_slots ss ts) h in
    and_both (has_form f c t) (fill ss ts) (form_stands f c t (and_left (shaped f c t) (fits_below c t && fit_slots ss ts) h) (and_left (fits_below c t) (fit_slots ss ts) b)) (slots_fill ss ts (and_right (fits_below c t) (fit_slots ss ts) b))

slots_sided : (ss : List Position) (cs : Forest) → fit_slots ss cs ≡ true → sides ss cs ≡ true
slots_sided [] none h = refl
slots_sided [] (part t ts) h = never h
slots_sided (s ∷ ss) none h = never h
slots_sided (position f c g o a ∷ ss) (part t ts) h =
    let b = and_right (shaped f c t) (fits_below c t && fit_slots ss ts) h in
    and_both (has_sides c t) (sides ss ts) (form_sided f c t (and_left (shaped f c t) (fits_below c t && fit_slots ss ts) h) (and_left (fits_below c t) (fit_slots ss ts) b)) (slots_sided ss ts (and_right (fits_below c t) (fit_slots ss ts) b))

-- each node of a tree that fits is as a test of its parts says
mutual
  each_fitting : (f : Kind → Forest → Bool) → ((k : Kind) (cs : Forest) → fit_slots (positions k) cs ≡ true → f k cs ≡ true) → (c : Nonterminal) (t : Tree) → fits_below c t ≡ true → each_node f t ≡ true
  each_fitting f g c (leaf s x) h = refl
  each_fitting f g c (node k cs) h = and_both (f k cs) (each_nodes f cs) (g k cs h) (slots_fitting f g (positions k) cs h)
  each_fitting f g c (list ts) h = list_fitting f g c ts h

  slots_fitting : (f : Kind → Forest → Bool) → ((k : Kind) (cs : Forest) → fit_slots (positions k) cs ≡ true → f k cs ≡ true) → (ss : List Position) (cs : Forest) → fit_slots ss cs ≡ true → each_nodes f cs ≡ true
  slots_fitting f g [] none h = refl
  slots_fitting f g [] (part t ts) h = never h
  slots_fitting f g (s ∷ ss) none h = never h
  slots_fitting f g (position o c b i a ∷ ss) (part t ts) h =
      let r = and_right (shaped o c t) (fits_below c t && fit_slots ss ts) h in
      and_both (each_node f t) (each_nodes f ts) (each_fitting f g c t (and_left (fits_below c t) (fit_slots ss ts) r)) (slots_fitting f g ss ts (and_right (fits_below c t) (fit_slots ss ts) r))

  list_fitting : (f : Kind → Forest → Bool) → ((k : Kind) (cs : Forest) → fit_slots (positions k) cs ≡ true → f k cs ≡ true) → (c : Nonterminal) (ts : Forest) → fit_each c ts ≡ true → each_nodes f ts ≡ true
  list_fitting f g c none h = refl
  list_fitting f g c (part t ts) h =
      let r = and_right (admits c t) (fits_below c t && fit_each c ts) h in
      and_both (each_node f t) (each_nodes f ts) (each_fitting f g c t (and_left (fits_below c t) (fit_each c ts) r)) (list_fitting f g c ts (and_right (fits_below c t) (fit_each c ts) r))

pub is_proper_program : (t : Tree) → is WholeProgram t ≡ true → proper t ≡ true
is_proper_program t h =
    let b : fits_below WholeProgram t ≡ true = and_right (admits WholeProgram t) (fits_below WholeProgram t) h in
    and_both (stands WholeProgram t) (each_node is_proper t && each_node is_sided t) (admits_stands WholeProgram t (and_left (admits WholeProgram t) (fits_below WholeProgram t) h))
    (and_both (each_node is_proper t) (each_node is_sided t) (each_fitting is_proper (λ k cs e. slots_fill (positions k) cs e) WholeProgram t b) (each_fitting is_sided (λ k cs e. slots_sided (positions k) cs e) WholeProgram t b))
