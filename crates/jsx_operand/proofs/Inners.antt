-- Scripts, and the kinds that stand within statements, before them, in functions, in objects, in classes, in templates, in chains or in modules alone, in one list: what a test finds of all of them holds of each.
use Rattle.std.proofs.Common.{◌≡◌, Bool, true, false}
use Rattle.std.specs.Prelude.{◌&&◌}
use Rattle.jsx_tree.specs.Kinds.{DeclareWord, VarWord, LetWord, ConstWord, Side, Imported, Exported, From, FunctionBody, Directive, ImportBare, Import, ImportAll, ImportList, ImportBoth, Specifier, SpecifierAs, ExportNames, ExportFrom, ExportAll, ExportAllAs, ExportDecl, ExportDefaultFn, ExportDefaultExpr, Declarator, ForDeclaration, ForBinding, Case, Default, Catch, Role, Binds, Assigns, ComputedKey, WithInit, RestPat, ArrayPat, ObjectPat, PropertyPat, ShorthandPat, ShorthandInit, RestProperty, Property, Shorthand, NameLink, IndexLink, CallLink, Kind, program, statement, function, expression, PlainTemplate, SubstitutedTemplate, TemplateSpan, Field, Setter, Getter, Method, Static, InClass, InObject, Holder, ExportDefaultClass, Script}
use Rattle.jsx_tree.proofs.Tokens.{and_left, and_right}

-- imports and exports, the items of a module that are no statements
pub data Portal : Type 0 where
  import_bare : Portal
  import_from : Portal
  export_names : Portal
  export_from : Portal
  export_all : Portal
  export_all_as : Portal
  export_declared : Portal
  export_function : Portal
  export_class : Portal
  export_value : Portal

abbrev pub portal_kind : Portal → Kind
portal_kind import_bare = program ImportBare
portal_kind import_from = program Import
portal_kind export_names = program ExportNames
portal_kind export_from = program ExportFrom
portal_kind export_all = program ExportAll
portal_kind export_all_as = program ExportAllAs
portal_kind export_declared = program ExportDecl
portal_kind export_function = program ExportDefaultFn
portal_kind export_class = program ExportDefaultClass
portal_kind export_value = program ExportDefaultExpr

pub data Inner : Type 0 where
  directive : Inner
  declarator : Inner
  declaration : DeclareWord → Inner
  binding : DeclareWord → Inner
  case' : Inner
  default' : Inner
  catch' : Inner
  property : Inner
  shorthand : Inner
  computed : Inner
  span : Bool → Inner
  tagged_plain : Inner
  tagged_substituted : Inner
  name_link : Bool → Inner
  index_link : Bool → Inner
  call_link : Bool → Inner
  script : Inner
  function_body : Inner
  with_init : Role → Inner
  rest_part : Role → Inner
  array_pattern : Role → Inner
  object_pattern : Role → Inner
  pair_pattern : Role → Inner
  short_pattern : Role → Inner
  short_default : Role → Inner
  rest_property : Role → Inner
  method : Holder → Inner
  getter : Holder → Inner
  setter : Holder → Inner
  field : Inner
  static_field : Inner
  import_all : Inner
  import_list : Inner
  import_both : Inner
  specifier : Side → Inner
  specifier_as : Side → Inner
  portal : Portal → Inner

abbrev pub inner_kind : Inner → Kind
inner_kind directive = program Directive
inner_kind declarator = statement Declarator
inner_kind (declaration w) = statement (ForDeclaration w)
inner_kind (binding w) = statement (ForBinding w)
inner_kind case' = statement Case
inner_kind default' = statement Default
inner_kind catch' = statement Catch
inner_kind property = expression Property
inner_kind shorthand = expression Shorthand
inner_kind computed = function ComputedKey
inner_kind (span b) = expression (TemplateSpan b)
inner_kind tagged_plain = expression (PlainTemplate true)
inner_kind tagged_substituted = expression (SubstitutedTemplate true)
inner_kind (name_link q) = expression (NameLink q)
inner_kind (index_link q) = expression (IndexLink q)
inner_kind (call_link q) = expression (CallLink q)
inner_kind script = program Script
inner_kind function_body = program FunctionBody
inner_kind (with_init r) = function (WithInit r)
inner_kind (rest_part r) = function (RestPat r)
inner_kind (array_pattern r) = function (ArrayPat r)
inner_kind (object_pattern r) = function (ObjectPat r)
inner_kind (pair_pattern r) = function (PropertyPat r)
inner_kind (short_pattern r) = function (ShorthandPat r)
inner_kind (short_default r) = function (ShorthandInit r)
inner_kind (rest_property r) = function (RestProperty r)
inner_kind (method h) = function (Method h)
inner_kind (getter h) = function (Getter h)
inner_kind (setter h) = function (Setter h)
inner_kind field = function (Field InClass)
inner_kind static_field = function (Field Static)
inner_kind import_all = program ImportAll
inner_kind import_list = program ImportList
inner_kind import_both = program ImportBoth
inner_kind (specifier s) = program (Specifier s)
inner_kind (specifier_as s) = program (SpecifierAs s)
inner_kind (portal q) = portal_kind q

abbrev pub is_portal : Inner → Bool
is_portal (portal q) = true
is_portal i = false

abbrev pub every_word : (DeclareWord → Bool) → Bool
every_word p = p VarWord && (p LetWord && p ConstWord)

of_word : (p : DeclareWord → Bool) → every_word p ≡ true → (w : DeclareWord) → p w ≡ true
of_word p a VarWord = and_left (p VarWord) _ a
of_word p a LetWord = and_left (p LetWord) _ (and_right (p VarWord) _ a)
of_word p a ConstWord = and_right (p LetWord) _ (and_right (p VarWord) _ a)

-- those of statements
abbrev pub every_part : (Inner → Bool) → Bool
every_part p = p declarator && (every_word (λ w. p (declaration w)) && (every_word (λ w. p (binding w)) && (p case' && (p default' && p catch'))))

-- those of an object
abbrev pub every_member : (Inner → Bool) → Bool
every_member p = p property && (p shorthand && p computed)

-- those of a template, and templates behind a tag
abbrev pub every_piece : (Inner → Bool) → Bool
every_piece p = p (span true) && (p (span false) && (p tagged_plain && p tagged_substituted))

abbrev pub every_form : (Bool → Bool) → Bool
every_form p = p true && p false

of_form : (p : Bool → Bool) → every_form p ≡ true → (b : Bool) → p b ≡ true
of_form p a true = and_left (p true) _ a
of_form p a false = and_right (p true) _ a

-- those of a chain
abbrev pub every_link : (Inner → Bool) → Bool
every_link p = every_form (λ q. p (name_link q)) && (every_form (λ q. p (index_link q)) && every_form (λ q. p (call_link q)))

abbrev pub every_role : (Role → Bool) → Bool
every_role p = p Binds && p Assigns

of_role : (p : Role → Bool) → every_role p ≡ true → (r : Role) → p r ≡ true
of_role p a Binds = and_left (p Binds) _ a
of_role p a Assigns = and_right (p Binds) _ a

-- a script, and those of a function
abbrev pub every_of_function : (Inner → Bool) → Bool
every_of_function p = p script && (p function_body && (every_role (λ r. p (with_init r)) && every_role (λ r. p (rest_part r))))

-- those of patterns
abbrev pub every_of_pattern : (Inner → Bool) → Bool
every_of_pattern p = every_role (λ r. p (array_pattern r)) && (every_role (λ r. p (object_pattern r)) && (every_role (λ r. p (pair_pattern r)) && (every_role (λ r. p (short_pattern r)) && (every_role (λ r. p (short_default r)) && every_role (λ r. p (rest_property r))))))

abbrev pub every_holder : (Holder → Bool) → Bool
every_holder p = p InObject && (p InClass && p Static)

of_holder : (p : Holder → Bool) → every_holder p ≡ true → (h : Holder) → p h ≡ true
of_holder p a InObject = and_left (p InObject) _ a
of_holder p a InClass = and_left (p InClass) _ (and_right (p InObject) _ a)
of_holder p a Static = and_right (p InClass) _ (and_right (p InObject) _ a)

-- those that stand in a class, and in an object too
abbrev pub every_element : (Inner → Bool) → Bool
every_element p = every_holder (λ h. p (method h)) && (every_holder (λ h. p (getter h)) && (every_holder (λ h. p (setter h)) && (p field && p static_field)))

abbrev pub every_side : (Side → Bool) → Bool
every_side p = p Imported && (p Exported && p From)

of_side : (p : Side → Bool) → every_side p ≡ true → (s : Side) → p s ≡ true
of_side p a Imported = and_left (p Imported) _ a
of_side p a Exported = and_left (p Exported) _ (and_right (p Imported) _ a)
of_side p a From = and_right (p Exported) _ (and_right (p Imported) _ a)

-- those of imports and exports
abbrev pub every_clause : (Inner → Bool) → Bool
every_clause p = p import_all && (p import_list && (p import_both && (every_side (λ s. p (specifier s)) && every_side (λ s. p (specifier_as s)))))

abbrev pub every_portal : (Portal → Bool) → Bool
every_portal p = p import_bare && (p import_from && (p export_names && (p export_from && (p export_all && (p export_all_as && (p export_declared && (p export_function && (p export_class && p export_value))))))))

abbrev pub every_inner : (Inner → Bool) → Bool
every_inner p = p directive && (every_part p && (every_member p && (every_piece p && (every_link p && (every_of_function p && (every_of_pattern p && (every_element p && (every_clause p && every_portal (λ q. p (portal q))))))))))

record Part (p : Inner → Bool) : Type 0 where
  declarator' : p declarator ≡ true
  word : every_word (λ w. p (declaration w)) ≡ true
  bound : every_word (λ w. p (binding w)) ≡ true
  of_case : p case' ≡ true
  of_default : p default' ≡ true
  of_catch : p catch' ≡ true

of_part : (p : Inner → Bool) → every_part p ≡ true → Part p
of_part p a =
    let b = and_right (p declarator) _ a in
    let e = and_right (every_word (λ w. p (declaration w))) _ b in
    let c = and_right (every_word (λ w. p (binding w))) _ e in
    let d = and_right (p case') _ c in
    record { declarator' = and_left (p declarator) _ a; word = and_left (every_word (λ w. p (declaration w))) _ b; bound = and_left (every_word (λ w. p (binding w))) _ e; of_case = and_left (p case') _ c; of_default = and_left (p default') _ d; of_catch = and_right (p default') _ d }

record Member (p : Inner → Bool) : Type 0 where
  of_property : p property ≡ true
  of_shorthand : p shorthand ≡ true
  of_computed : p computed ≡ true

of_member : (p : Inner → Bool) → every_member p ≡ true → Member p
of_member p a =
    let b = and_right (p property) _ a in
    record { of_property = and_left (p property) _ a; of_shorthand = and_left (p shorthand) _ b; of_computed = and_right (p shorthand) _ b }

record Link (p : Inner → Bool) : Type 0 where
  of_name : (q : Bool) → p (name_link q) ≡ true
  of_index : (q : Bool) → p (index_link q) ≡ true
  of_call : (q : Bool) → p (call_link q) ≡ true

of_link : (p : Inner → Bool) → every_link p ≡ true → Link p
of_link p a =
    let names = every_form (λ q. p (name_link q)) in
    let indexes = every_form (λ q. p (index_link q)) in
    let b = and_right names _ a in
    record { of_name = of_form (λ q. p (name_link q)) (and_left names _ a); of_index = of_form (λ q. p (index_link q)) (and_left indexes _ b); of_call = of_form (λ q. p (call_link q)) (and_right indexes _ b) }

record Piece (p : Inner → Bool) : Type 0 where
  of_span : (b : Bool) → p (span b) ≡ true
  of_plain : p tagged_plain ≡ true
  of_substituted : p tagged_substituted ≡ true

of_piece : (p : Inner → Bool) → every_piece p ≡ true → Piece p
of_piece p a =
    let b = and_right (p (span true)) _ a in
    let c = and_right (p (span false)) _ b in
    record { of_span = by (and_left (p (span true)) _ a) (and_left (p (span false)) _ b); of_plain = and_left (p tagged_plain) _ c; of_substituted = and_right (p tagged_plain) _ c }
  where
    by : p (span true) ≡ true → p (span false) ≡ true → (b : Bool) → p (span b) ≡ true
    by e f true = e
    by e f false = f

record OfFunction (p : Inner → Bool) : Type 0 where
  of_script : p script ≡ true
  of_body : p function_body ≡ true
  of_init : (r : Role) → p (with_init r) ≡ true
  of_rest : (r : Role) → p (rest_part r) ≡ true

of_function : (p : Inner → Bool) → every_of_function p ≡ true → OfFunction p
of_function p a =
    let inits = every_role (λ r. p (with_init r)) in
    let rests = every_role (λ r. p (rest_part r)) in
    let s = and_right (p script) (p function_body && (inits && rests)) a in
    let b = and_right (p function_body) (inits && rests) s in
    record { of_script = and_left (p script) (p function_body && (inits && rests)) a; of_body = and_left (p function_body) (inits && rests) s; of_init = of_role (λ r. p (with_init r)) (and_left inits rests b); of_rest = of_role (λ r. p (rest_part r)) (and_right inits rests b) }

record OfPattern (p : Inner → Bool) : Type 0 where
  of_array : (r : Role) → p (array_pattern r) ≡ true
  of_object : (r : Role) → p (object_pattern r) ≡ true
  of_pair : (r : Role) → p (pair_pattern r) ≡ true
  of_short : (r : Role) → p (short_pattern r) ≡ true
  of_default : (r : Role) → p (short_default r) ≡ true
  of_rest_property : (r : Role) → p (rest_property r) ≡ true

of_pattern : (p : Inner → Bool) → every_of_pattern p ≡ true → OfPattern p
of_pattern p a =
    let arrays = every_role (λ r. p (array_pattern r)) in
    let objects = every_role (λ r. p (object_pattern r)) in
    let pairs = every_role (λ r. p (pair_pattern r)) in
    let shorts = every_role (λ r. p (short_pattern r)) in
    let defaults = every_role (λ r. p (short_default r)) in
    let rests = every_role (λ r. p (rest_property r)) in
    let b = and_right arrays _ a in
    let c = and_right objects _ b in
    let d = and_right pairs _ c in
    let e = and_right shorts _ d in
    record {
      of_array = of_role (λ r. p (array_pattern r)) (and_left arrays _ a);
      of_object = of_role (λ r. p (object_pattern r)) (and_left objects _ b);
      of_pair = of_role (λ r. p (pair_pattern r)) (and_left pairs _ c);
      of_short = of_role (λ r. p (short_pattern r)) (and_left shorts _ d);
      of_default = of_role (λ r. p (short_default r)) (and_left defaults _ e);
      of_rest_property = of_role (λ r. p (rest_property r)) (and_right defaults _ e);
    }

record Element (p : Inner → Bool) : Type 0 where
  of_method : (h : Holder) → p (method h) ≡ true
  of_getter : (h : Holder) → p (getter h) ≡ true
  of_setter : (h : Holder) → p (setter h) ≡ true
  of_field : p field ≡ true
  of_static_field : p static_field ≡ true

of_element : (p : Inner → Bool) → every_element p ≡ true → Element p
of_element p a =
    let methods = every_holder (λ h. p (method h)) in
    let getters = every_holder (λ h. p (getter h)) in
    let setters = every_holder (λ h. p (setter h)) in
    let b = and_right methods _ a in
    let c = and_right getters _ b in
    let d = and_right setters _ c in
    record { of_method = of_holder (λ h. p (method h)) (and_left methods _ a); of_getter = of_holder (λ h. p (getter h)) (and_left getters _ b); of_setter = of_holder (λ h. p (setter h)) (and_left setters _ c); of_field = and_left (p field) _ d; of_static_field = and_right (p field) _ d }

record Clause (p : Inner → Bool) : Type 0 where
  of_all : p import_all ≡ true
  of_list : p import_list ≡ true
  of_both : p import_both ≡ true
  of_single : (s : Side) → p (specifier s) ≡ true
  of_renamed : (s : Side) → p (specifier_as s) ≡ true

of_clause : (p : Inner → Bool) → every_clause p ≡ true → Clause p
of_clause p a =
    let singles = every_side (λ s. p (specifier s)) in
    let b = and_right (p import_all) _ a in
    let c = and_right (p import_list) _ b in
    let d = and_right (p import_both) _ c in
    record { of_all = and_left (p import_all) _ a; of_list = and_left (p import_list) _ b; of_both = and_left (p import_both) _ c; of_single = of_side (λ s. p (specifier s)) (and_left singles _ d); of_renamed = of_side (λ s. p (specifier_as s)) (and_right singles _ d) }

pub of_portal : (p : Portal → Bool) → every_portal p ≡ true → (q : Portal) → p q ≡ true
of_portal p a q =
    let b = and_right (p import_bare) _ a in
    let c = and_right (p import_from) _ b in
    let d = and_right (p export_names) _ c in
    let e = and_right (p export_from) _ d in
    let f = and_right (p export_all) _ e in
    let g = and_right (p export_all_as) _ f in
    let h = and_right (p export_declared) _ g in
    let i = and_right (p export_function) _ h in
    by q (and_left (p import_bare) _ a) (and_left (p import_from) _ b) (and_left (p export_names) _ c) (and_left (p export_from) _ d) (and_left (p export_all) _ e) (and_left (p export_all_as) _ f) (and_left (p export_declared) _ g) (and_left (p export_function) _ h) (and_left (p export_class) _ i) (and_right (p export_class) _ i)
  where
    by : (r : Portal) → p import_bare ≡ true → p import_from ≡ true → p export_names ≡ true → p export_from ≡ true → p export_all ≡ true → p export_all_as ≡ true → p export_declared ≡ true → p export_function ≡ true → p export_class ≡ true → p export_value ≡ true → p r ≡ true
    by import_bare a b c d e f g h i j = a
    by import_from a b c d e f g h i j = b
    by export_names a b c d e f g h i j = c
    by export_from a b c d e f g h i j = d
    by export_all a b c d e f g h i j = e
    by export_all_as a b c d e f g h i j = f
    by export_declared a b c d e f g h i j = g
    by export_function a b c d e f g h i j = h
    by export_class a b c d e f g h i j = i
    by export_value a b c d e f g h i j = j

pub of_inner : (p : Inner → Bool) → every_inner p ≡ true → (i : Inner) → p i ≡ true
of_inner p a i =
    let b = and_right (p directive) _ a in
    let c = and_right (every_part p) _ b in
    let d = and_right (every_member p) _ c in
    let e = and_right (every_piece p) _ d in
    let f = and_right (every_link p) _ e in
    let h = and_right (every_of_function p) _ f in
    let s = and_right (every_of_pattern p) _ h in
    let g = and_right (every_element p) _ s in
    by i (and_left (p directive) _ a) (of_part p (and_left (every_part p) _ b)) (of_member p (and_left (every_member p) _ c)) (of_piece p (and_left (every_piece p) _ d)) (of_link p (and_left (every_link p) _ e)) (of_function p (and_left (every_of_function p) _ f)) (of_pattern p (and_left (every_of_pattern p) _ h)) (of_element p (and_left (every_element p) _ s)) (of_clause p (and_left (every_clause p) _ g))
    (of_portal (λ q. p (portal q)) (and_right (every_clause p) _ g))
  where
    by : (j : Inner) → p directive ≡ true → Part p → Member p → Piece p → Link p → OfFunction p → OfPattern p → Element p → Clause p → ((q : Portal) → p (portal q) ≡ true) → p j ≡ true
    by directive d q m r l f n u k o = d
    by declarator d q m r l f n u k o = q.declarator'
    by (declaration w) d q m r l f n u k o = of_word (λ x. p (declaration x)) q.word w
    by (binding w) d q m r l f n u k o = of_word (λ x. p (binding x)) q.bound w
    by case' d q m r l f n u k o = q.of_case
    by default' d q m r l f n u k o = q.of_default
    by catch' d q m r l f n u k o = q.of_catch
    by property d q m r l f n u k o = m.of_property
    by shorthand d q m r l f n u k o = m.of_shorthand
    by computed d q m r l f n u k o = m.of_computed
    by (span b) d q m r l f n u k o = r.of_span b
    by tagged_plain d q m r l f n u k o = r.of_plain
    by tagged_substituted d q m r l f n u k o = r.of_substituted
    by (name_link q) d s m r l f n u k o = l.of_name q
    by (index_link q) d s m r l f n u k o = l.of_index q
    by (call_link q) d s m r l f n u k o = l.of_call q
    by script d q m r l f n u k o = f.of_script
    by function_body d q m r l f n u k o = f.of_body
    by (with_init x) d q m r l f n u k o = f.of_init x
    by (rest_part x) d q m r l f n u k o = f.of_rest x
    by (array_pattern x) d q m r l f n u k o = n.of_array x
    by (object_pattern x) d q m r l f n u k o = n.of_object x
    by (pair_pattern x) d q m r l f n u k o = n.of_pair x
    by (short_pattern x) d q m r l f n u k o = n.of_short x
    by (short_default x) d q m r l f n u k o = n.of_default x
    by (rest_property x) d q m r l f n u k o = n.of_rest_property x
    by import_all d q m r l f n u k o = k.of_all
    by import_list d q m r l f n u k o = k.of_list
    by import_both d q m r l f n u k o = k.of_both
    by (specifier s) d q m r l f n u k o = k.of_single s
    by (specifier_as s) d q m r l f n u k o = k.of_renamed s
    by (portal s) d q m r l f n u k o = o s
    by (method h) d q m r l f n u k o = u.of_method h
    by (getter h) d q m r l f n u k o = u.of_getter h
    by (setter h) d q m r l f n u k o = u.of_setter h
    by field d q m r l f n u k o = u.of_field
    by static_field d q m r l f n u k o = u.of_static_field
