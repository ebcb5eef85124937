-- A tree as it is laid with its pairs off, and where pairs may stand: at places that ask for an expression or a target.
use Rattle.std.proofs.Common.{◌≡◌, List, [], ◌∷◌, Bool, true, false, refl, ap, ⊎_elim}
use Rattle.std.proofs.lemmas.Bool.{and_parts, or_cases, true≢false, false≢true, not-true}
use Rattle.std.specs.Prelude.{not, ◌&&◌, ◌||◌}
use Rattle.jsx_base.specs.Token.{NoSubstitution, TemplateHead, TemplateMiddle, TemplateTail}
use Rattle.jsx_tree.specs.Kinds.{Binds, Assigns, Imported, Exported, From, Kind, program, statement, function, expression, FunctionBody, Empty, Default, FunctionDecl, Declarator, Property, Do, While, For, ForIn, ForOf, Label, Method, Getter, Setter, Field, InObject, InClass, Static, ParenTarget, BareArrow, BareArrowBlock, NewWithoutArguments, Parenthesized, Tree, leaf, node, list, Forest, none, part}
use Rattle.jsx_tree.specs.Nonterminals.{Nonterminal, SubStmt, Stmt, Item, Body, ObjectMember, ClassMember, CaseClause, Declaration, Declarators, TemplatePart, TemplateSpans, Specifiers, Pat, PatElement, PatProp, Slot, in_homes, homes}
use Rattle.jsx_tree.specs.Normal.{laid_node, made, mades, laid_tree}
use Rattle.jsx_tree.specs.Form.{Single, Position, position, positions}
use Rattle.jsx_tree.specs.Parentheses.{asks}
use Rattle.jsx_tree.specs.Sound.{lax, may_stand, is_no_jsx, loose, loose_slots}
use Rattle.jsx_tree.proofs.ReadBack.Basics.{clash}

abbrev pub bare_node : Kind → Forest → Tree
bare_node (expression Parenthesized) (part e none) = e
bare_node (function ParenTarget) (part e none) = e
bare_node k cs = laid_node k cs

abbrev pub bare : Tree → Tree
bare t = made bare_node t

-- a node's parts, laid, and with the pairs off
abbrev pub lays : Kind → Forest → Forest
lays k cs = mades laid_node (positions k) cs

abbrev pub bares : Kind → Forest → Forest
bares k cs = mades bare_node (positions k) cs

-- ---- the kinds that change

abbrev pub turns : Kind → Bool
turns (expression Parenthesized) = true
turns (function ParenTarget) = true
turns (expression BareArrow) = true
turns (expression BareArrowBlock) = true
turns (expression NewWithoutArguments) = true
turns k = false

pub laid_stays : (k : Kind) (cs : Forest) → turns k ≡ false → laid_node k cs ≡ node k cs
laid_stays (expression BareArrow) cs h = absurd (true≢false h)
laid_stays (expression BareArrowBlock) cs h = absurd (true≢false h)
laid_stays (expression NewWithoutArguments) cs h = absurd (true≢false h)
laid_stays k cs h = refl

pub bare_stays : (k : Kind) (cs : Forest) → turns k ≡ false → bare_node k cs ≡ node k cs
bare_stays (expression Parenthesized) cs h = absurd (true≢false h)
bare_stays (function ParenTarget) cs h = absurd (true≢false h)
bare_stays (expression BareArrow) cs h = absurd (true≢false h)
bare_stays (expression BareArrowBlock) cs h = absurd (true≢false h)
bare_stays (expression NewWithoutArguments) cs h = absurd (true≢false h)
bare_stays k cs h = refl

-- a place where none of these kinds stands
abbrev pub firm : Nonterminal → Bool
firm c =
    not (asks c) && (not (in_homes (lax c) (homes (expression Parenthesized))) && (not (in_homes (lax c) (homes (function ParenTarget)))
    && (not (in_homes (lax c) (homes (expression BareArrow))) && not (in_homes (lax c) (homes (expression NewWithoutArguments))))))

record Firm (c : Nonterminal) : Type 0 where
  pub asked : not (asks c) ≡ true
  pub pairs : not (in_homes (lax c) (homes (expression Parenthesized))) ≡ true
  pub targets : not (in_homes (lax c) (homes (function ParenTarget))) ≡ true
  pub arrows : not (in_homes (lax c) (homes (expression BareArrow))) ≡ true
  pub news : not (in_homes (lax c) (homes (expression NewWithoutArguments))) ≡ true

firm_of : (c : Nonterminal) → firm c ≡ true → Firm c
firm_of c f =
    let p = and_parts (not (asks c)) _ f in
    let q = and_parts (not (in_homes (lax c) (homes (expression Parenthesized)))) _ p.1 in
    let r = and_parts (not (in_homes (lax c) (homes (function ParenTarget)))) _ q.1 in
    let s = and_parts (not (in_homes (lax c) (homes (expression BareArrow)))) _ r.1 in
    record { asked = p.0; pairs = q.0; targets = r.0; arrows = s.0; news = s.1 }

neither : {A : Type 0} (a b x : Bool) → not a ≡ true → not b ≡ true → ((a && x) || b) ≡ true → A
neither true b x h i m = absurd (false≢true h)
neither false true x h i m = absurd (false≢true i)
neither false false x h i m = absurd (false≢true m)

pub no_turn : (c : Nonterminal) (k : Kind) (cs : Forest) → firm c ≡ true → may_stand c (node k cs) ≡ true → turns k ≡ false
no_turn c (expression Parenthesized) cs f m = let p = firm_of c f in neither (asks c) _ true p.asked p.pairs m
no_turn c (function ParenTarget) cs f m = let p = firm_of c f in neither (asks c) _ false p.asked p.targets m
no_turn c (expression BareArrow) cs f m = let p = firm_of c f in neither (asks c) _ true p.asked p.arrows m
no_turn c (expression BareArrowBlock) cs f m = let p = firm_of c f in neither (asks c) _ true p.asked p.arrows m
no_turn c (expression NewWithoutArguments) cs f m = let p = firm_of c f in neither (asks c) _ true p.asked p.news m
no_turn c k cs f m = refl

-- ---- what stands at the other places: nothing that the rules of what is around it look into, as bodies, members, declarators or loops

abbrev pub odd : Kind → Bool
odd (program FunctionBody) = true
odd (statement Empty) = true
odd (statement Do) = true
odd (statement While) = true
odd (statement For) = true
odd (statement ForIn) = true
odd (statement ForOf) = true
odd (statement Label) = true
odd (statement Default) = true
odd (statement FunctionDecl) = true
odd (statement Declarator) = true
odd (function (Method h)) = true
odd (function (Getter h)) = true
odd (function (Setter h)) = true
odd (function (Field h)) = true
odd (expression Property) = true
odd k = false

-- an expression or a target
abbrev pub even : Tree → Bool
even (leaf s x) = true
even (node k cs) = not (odd k)
even (list ts) = false

abbrev pub clear : Nonterminal → Bool
clear c =
    not (in_homes (lax c) (SubStmt ∷ Stmt ∷ Item ∷ [])) && (not (in_homes (lax c) (Body ∷ [])) && (not (in_homes (lax c) (ObjectMember ∷ [])) && (not (in_homes (lax c) (ClassMember ∷ []))
    && (not (in_homes (lax c) []) && (not (in_homes (lax c) (CaseClause ∷ [])) && (not (in_homes (lax c) (Declaration ∷ Stmt ∷ Item ∷ [])) && not (in_homes (lax c) (Declarators ∷ []))))))))

pub all_clear : (c : Nonterminal) → (firm c || clear c) ≡ true
all_clear (TemplatePart NoSubstitution) = refl
all_clear (TemplatePart TemplateHead) = refl
all_clear (TemplatePart TemplateMiddle) = refl
all_clear (TemplatePart TemplateTail) = refl
all_clear (TemplatePart s) = refl
all_clear (Pat Binds) = refl
all_clear (Pat Assigns) = refl
all_clear (Slot Binds) = refl
all_clear (Slot Assigns) = refl
all_clear (PatProp Binds) = refl
all_clear (PatProp Assigns) = refl
all_clear (PatElement Binds) = refl
all_clear (PatElement Assigns) = refl
all_clear (TemplateSpans true) = refl
all_clear (TemplateSpans false) = refl
all_clear (Specifiers Imported) = refl
all_clear (Specifiers Exported) = refl
all_clear (Specifiers From) = refl
all_clear _ = refl

cleared : (c : Nonterminal) → firm c ≡ false → clear c ≡ true
cleared c n = ⊎_elim (λ p. clash (firm c) p n) (λ p. p) (or_cases (firm c) (clear c) (all_clear c))

pub nowhere : {A : Type 0} (a b : Bool) → not b ≡ true → ((a && false) || b) ≡ true → A
nowhere true true n m = absurd (false≢true n)
nowhere true false n m = absurd (false≢true m)
nowhere false true n m = absurd (false≢true n)
nowhere false false n m = absurd (false≢true m)

record Clear (c : Nonterminal) : Type 0 where
  pub statements : not (in_homes (lax c) (SubStmt ∷ Stmt ∷ Item ∷ [])) ≡ true
  pub body : not (in_homes (lax c) (Body ∷ [])) ≡ true
  pub members : not (in_homes (lax c) (ObjectMember ∷ [])) ≡ true
  pub class_members : not (in_homes (lax c) (ClassMember ∷ [])) ≡ true
  pub homeless : not (in_homes (lax c) []) ≡ true
  pub cases : not (in_homes (lax c) (CaseClause ∷ [])) ≡ true
  pub declarations : not (in_homes (lax c) (Declaration ∷ Stmt ∷ Item ∷ [])) ≡ true
  pub declarators : not (in_homes (lax c) (Declarators ∷ [])) ≡ true

clear_of : (c : Nonterminal) → firm c ≡ false → Clear c
clear_of c n =
    let p = and_parts (not (in_homes (lax c) (SubStmt ∷ Stmt ∷ Item ∷ []))) _ (cleared c n) in
    let q = and_parts (not (in_homes (lax c) (Body ∷ []))) _ p.1 in
    let r = and_parts (not (in_homes (lax c) (ObjectMember ∷ []))) _ q.1 in
    let s = and_parts (not (in_homes (lax c) (ClassMember ∷ []))) _ r.1 in
    let u = and_parts (not (in_homes (lax c) [])) _ s.1 in
    let w = and_parts (not (in_homes (lax c) (CaseClause ∷ []))) _ u.1 in
    let x = and_parts (not (in_homes (lax c) (Declaration ∷ Stmt ∷ Item ∷ []))) _ w.1 in
    record { statements = p.0; body = q.0; members = r.0; class_members = s.0; homeless = u.0; cases = w.0; declarations = x.0; declarators = x.1 }

pub soft_even : (c : Nonterminal) (k : Kind) (cs : Forest) → firm c ≡ false → may_stand c (node k cs) ≡ true → odd k ≡ false
soft_even c (program FunctionBody) cs n m = nowhere (asks c) _ (clear_of c n).body m
soft_even c (statement Empty) cs n m = nowhere (asks c) _ (clear_of c n).statements m
soft_even c (statement Do) cs n m = nowhere (asks c) _ (clear_of c n).statements m
soft_even c (statement While) cs n m = nowhere (asks c) _ (clear_of c n).statements m
soft_even c (statement For) cs n m = nowhere (asks c) _ (clear_of c n).statements m
soft_even c (statement ForIn) cs n m = nowhere (asks c) _ (clear_of c n).statements m
soft_even c (statement ForOf) cs n m = nowhere (asks c) _ (clear_of c n).statements m
soft_even c (statement Label) cs n m = nowhere (asks c) _ (clear_of c n).statements m
soft_even c (function (Method InObject)) cs n m = nowhere (asks c) _ (clear_of c n).members m
soft_even c (function (Method InClass)) cs n m = nowhere (asks c) _ (clear_of c n).class_members m
soft_even c (function (Method Static)) cs n m = nowhere (asks c) _ (clear_of c n).class_members m
soft_even c (function (Getter InObject)) cs n m = nowhere (asks c) _ (clear_of c n).members m
soft_even c (function (Getter InClass)) cs n m = nowhere (asks c) _ (clear_of c n).class_members m
soft_even c (function (Getter Static)) cs n m = nowhere (asks c) _ (clear_of c n).class_members m
soft_even c (function (Setter InObject)) cs n m = nowhere (asks c) _ (clear_of c n).members m
soft_even c (function (Setter InClass)) cs n m = nowhere (asks c) _ (clear_of c n).class_members m
soft_even c (function (Setter Static)) cs n m = nowhere (asks c) _ (clear_of c n).class_members m
soft_even c (function (Field InObject)) cs n m = nowhere (asks c) _ (clear_of c n).homeless m
soft_even c (function (Field InClass)) cs n m = nowhere (asks c) _ (clear_of c n).class_members m
soft_even c (function (Field Static)) cs n m = nowhere (asks c) _ (clear_of c n).class_members m
soft_even c (statement Default) cs n m = nowhere (asks c) _ (clear_of c n).cases m
soft_even c (statement FunctionDecl) cs n m = nowhere (asks c) _ (clear_of c n).declarations m
soft_even c (statement Declarator) cs n m = nowhere (asks c) _ (clear_of c n).declarators m
soft_even c (expression Property) cs n m = nowhere (asks c) _ (clear_of c n).members m
soft_even c k cs n m = refl

pub no_list : {A : Type 0} (c : Nonterminal) (ts : Forest) → may_stand c (list ts) ≡ true → A
no_list c ts m = ⊎_elim (λ p. absurd (false≢true (and_parts (asks c) false p).1)) (λ p. absurd (false≢true p)) (or_cases (asks c && false) false m)

even_laid_node : (k : Kind) (ds : Forest) → odd k ≡ false → even (laid_node k ds) ≡ true
even_laid_node (expression BareArrow) (part a b) o = refl
even_laid_node (expression BareArrowBlock) (part a b) o = refl
even_laid_node (expression NewWithoutArguments) (part a none) o = refl
even_laid_node k ds o = ap not o

pub even_laid : (c : Nonterminal) (t : Tree) → firm c ≡ false → may_stand c t ≡ true → even (laid_tree t) ≡ true
even_laid c (leaf s x) n m = refl
even_laid c (list ts) n m = no_list c ts m
even_laid c (node k cs) n m = even_laid_node k (lays k cs) (soft_even c k cs n m)

abbrev pairs : Kind → Bool
pairs (expression Parenthesized) = true
pairs (function ParenTarget) = true
pairs k = false

abbrev even_first : Forest → Bool
even_first none = false
even_first (part t ts) = even t

abbrev soft_first : List Position → Bool
soft_first (position Single c g b a ∷ ss) = not (firm c)
soft_first ss = false

pairs_first : (k : Kind) → pairs k ≡ true → soft_first (positions k) ≡ true
pairs_first (expression Parenthesized) h = refl
pairs_first (function ParenTarget) h = refl
pairs_first _ h = absurd (false≢true h)

even_bare_node : (k : Kind) (es : Forest) → odd k ≡ false → (pairs k ≡ true → even_first es ≡ true) → even (bare_node k es) ≡ true
even_bare_node (expression Parenthesized) (part e none) o f = f refl
even_bare_node (function ParenTarget) (part e none) o f = f refl
even_bare_node (expression BareArrow) (part a b) o f = refl
even_bare_node (expression BareArrowBlock) (part a b) o f = refl
even_bare_node (expression NewWithoutArguments) (part a none) o f = refl
even_bare_node k es o f = ap not o

mutual
  pub even_bare : (c : Nonterminal) (t : Tree) → firm c ≡ false → may_stand c t ≡ true → loose c t ≡ true → even (bare t) ≡ true
  even_bare c (leaf s x) n m h = refl
  even_bare c (list ts) n m h = no_list c ts m
  even_bare c (node k cs) n m h =
      even_bare_node k (bares k cs) (soft_even c k cs n m) (λ p. evens_bare (positions k) cs (pairs_first k p) (and_parts (is_no_jsx k) (loose_slots (positions k) cs) h).1)

  evens_bare : (ss : List Position) (cs : Forest) → soft_first ss ≡ true → loose_slots ss cs ≡ true → even_first (mades bare_node ss cs) ≡ true
  evens_bare [] cs f h = absurd (false≢true f)
  evens_bare (s ∷ ss) none f h = absurd (false≢true h)
  evens_bare (position Single c g b a ∷ ss) (part t ts) f h =
      let p = and_parts (may_stand c t) (loose c t && loose_slots ss ts) h in
      even_bare c t (not-true (firm c) f) p.0 (and_parts (loose c t) (loose_slots ss ts) p.1).0
  evens_bare (position _ c g b a ∷ ss) (part t ts) f h = absurd (false≢true f)
