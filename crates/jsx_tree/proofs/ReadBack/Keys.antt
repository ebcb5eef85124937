-- Kinds that may begin with any name, as a property or a method, stand at no place where a tree may not begin so.
use Rattle.std.proofs.Common.{◌≡◌, [], ◌∷◌, Bool, true, ⊎_elim, refl}
use Rattle.std.proofs.lemmas.Bool.{false≢true, and_parts, or_cases, both_ways, not-true}
use Rattle.std.specs.Prelude.{not, ◌&&◌, ◌||◌}
use Rattle.jsx_base.specs.Token.{NoSubstitution, TemplateHead}
use Rattle.jsx_tree.specs.Kinds.{Kind, program, function, expression, Specifier, SpecifierAs, Imported, Exported, From, Method, Field, InObject, InClass, Static, PropertyPat, Binds, Assigns, Property, NameLink}
use Rattle.jsx_tree.specs.Nonterminals.{Nonterminal, Pat, TemplatePart, Specifiers, PatProp, ObjectMember, ClassMember, ChainLink, in_homes, homes}
use Rattle.jsx_tree.proofs.ReadBack.RowChecks.{elseless, is_keyed}

-- none of their homes
abbrev keyless : Nonterminal → Bool
keyless c =
    not (in_homes c (Specifiers Imported ∷ [])) && (not (in_homes c (Specifiers Exported ∷ [])) && (not (in_homes c (Specifiers From ∷ [])) && (not (in_homes c (PatProp Binds ∷ [])) && (not (in_homes c (PatProp Assigns ∷ []))
    && (not (in_homes c (ObjectMember ∷ [])) && (not (in_homes c (ClassMember ∷ [])) && (not (in_homes c (ChainLink ∷ [])) && not (in_homes c []))))))))

all_keyless : (c : Nonterminal) → (not (elseless c) || keyless c) ≡ true
all_keyless (TemplatePart NoSubstitution) = refl
all_keyless (TemplatePart TemplateHead) = refl
all_keyless (TemplatePart s) = refl
all_keyless (Pat Binds) = refl
all_keyless (Pat Assigns) = refl
all_keyless _ = refl

record Keyless (c : Nonterminal) : Type 0 where
  pub imported : in_homes c (Specifiers Imported ∷ []) ≡ true → ⊥
  pub exported : in_homes c (Specifiers Exported ∷ []) ≡ true → ⊥
  pub from : in_homes c (Specifiers From ∷ []) ≡ true → ⊥
  pub bound : in_homes c (PatProp Binds ∷ []) ≡ true → ⊥
  pub assigned : in_homes c (PatProp Assigns ∷ []) ≡ true → ⊥
  pub member : in_homes c (ObjectMember ∷ []) ≡ true → ⊥
  pub class_member : in_homes c (ClassMember ∷ []) ≡ true → ⊥
  pub link : in_homes c (ChainLink ∷ []) ≡ true → ⊥
  pub homeless : in_homes c [] ≡ true → ⊥

never : (b : Bool) → not b ≡ true → b ≡ true → ⊥
never b n h = both_ways b (not-true b n) h

keyless_of : (c : Nonterminal) → elseless c ≡ true → Keyless c
keyless_of c e =
    let a = ⊎_elim (λ n. absurd (never (elseless c) n e)) (λ p. p) (or_cases (not (elseless c)) (keyless c) (all_keyless c)) in
    let p1 = and_parts (not (in_homes c (Specifiers Imported ∷ []))) _ a in
    let p2 = and_parts (not (in_homes c (Specifiers Exported ∷ []))) _ p1.1 in
    let p3 = and_parts (not (in_homes c (Specifiers From ∷ []))) _ p2.1 in
    let p4 = and_parts (not (in_homes c (PatProp Binds ∷ []))) _ p3.1 in
    let p5 = and_parts (not (in_homes c (PatProp Assigns ∷ []))) _ p4.1 in
    let p6 = and_parts (not (in_homes c (ObjectMember ∷ []))) _ p5.1 in
    let p7 = and_parts (not (in_homes c (ClassMember ∷ []))) _ p6.1 in
    let p8 = and_parts (not (in_homes c (ChainLink ∷ []))) _ p7.1 in
    record {
      imported = never _ p1.0;
      exported = never _ p2.0;
      from = never _ p3.0;
      bound = never _ p4.0;
      assigned = never _ p5.0;
      member = never _ p6.0;
      class_member = never _ p7.0;
      link = never _ p8.0;
      homeless = never _ p8.1;
    }

pub no_keyed : (c : Nonterminal) (k : Kind) → is_keyed k ≡ true → elseless c ≡ true → in_homes c (homes k) ≡ true → ⊥
no_keyed c (program (Specifier Imported)) i e h = (keyless_of c e).imported h
no_keyed c (program (Specifier Exported)) i e h = (keyless_of c e).exported h
no_keyed c (program (Specifier From)) i e h = (keyless_of c e).from h
no_keyed c (program (SpecifierAs Imported)) i e h = (keyless_of c e).imported h
no_keyed c (program (SpecifierAs Exported)) i e h = (keyless_of c e).exported h
no_keyed c (program (SpecifierAs From)) i e h = (keyless_of c e).from h
no_keyed c (function (Method InObject)) i e h = (keyless_of c e).member h
no_keyed c (function (Method InClass)) i e h = (keyless_of c e).class_member h
no_keyed c (function (Method Static)) i e h = (keyless_of c e).class_member h
no_keyed c (function (Field InObject)) i e h = (keyless_of c e).homeless h
no_keyed c (function (Field InClass)) i e h = (keyless_of c e).class_member h
no_keyed c (function (Field Static)) i e h = (keyless_of c e).class_member h
no_keyed c (function (PropertyPat Binds)) i e h = (keyless_of c e).bound h
no_keyed c (function (PropertyPat Assigns)) i e h = (keyless_of c e).assigned h
no_keyed c (expression Property) i e h = (keyless_of c e).member h
no_keyed c (expression (NameLink q)) i e h = (keyless_of c e).link h
no_keyed c _ i e h = false≢true i
