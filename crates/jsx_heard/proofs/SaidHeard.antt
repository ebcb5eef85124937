-- What is said by classes of places is what is heard, whatever is told of places.
use Rattle.std.proofs.Common.{◌≡◌, List, [], ◌∷◌, ◌++◌, Bool, true, false, cond, append-nil, refl, sym, ap, ◌∙◌}
use Rattle.std.specs.Prelude.{not, ◌&&◌, ◌||◌}
use Rattle.jsx_base.specs.declared.place.BytePos.{BytePos}
use Rattle.jsx_base.specs.Token.{TokenKind, Text, IdentifierName}
use Rattle.jsx_tree.specs.Kinds.{ExportDefaultClass, Script, Block, Catch, ClassExpr, ParenTarget, Parenthesized, Kind, program, statement, function, expression, Tree, leaf, node, list, Forest, none, part}
use Rattle.jsx_tree.specs.Nonterminals.{Nonterminal, Expr, SimpleTarget, TagName, MemberRoot, WholeProgram, is_ident}
use Rattle.jsx_tree.specs.Form.{Position, position, positions}
use Rattle.jsx_tree.specs.Parentheses.{asks}
use Rattle.jsx_tree.specs.Scopes.{binds, assigns, is_short, is_name_at, is_catch}
use Rattle.jsx_tree.specs.Clashes.{evals_here}
use Rattle.jsx_tree.specs.Spans.{Claim, Told, tells, Tales}
use Rattle.jsx_names.specs.Events.{Frame, Event, Enters, Opens, Closes, Declares, Refers, Way, Simply, Exported', InHead, is_head, Mode, Plain, Binding, mode, is_scope, frame, has_scope, inner, is_inner, is_behind, of_node, exporting, of_leaf, wanted, wanted_here, exported, exported_here, called}
use Rattle.jsx_names.specs.Events as events
use Rattle.jsx_names.proofs.ScopeNames.{never}
use Rattle.jsx_names.proofs.Heard.{bare_append}
use Rattle.jsx_names.specs.Heard.{bare_all, heard, heard_parts, heard_each, heard_in}
use Rattle.jsx_heard.specs.Bytes.{events_of}
use Rattle.jsx_heard.specs.Said.{Naming, Idents, Unnamed, naming, is_told, Round, round, is_caught, is_default, scoped, leaf_said, Met, met, each_met, its, head_tale, tail_tales, exported_at, node_said, entering, around, said, said_parts, said_each, of_program}

both_told : (b : Bool) (t : Text) → is_told (cond b Idents Unnamed) IdentifierName t ≡ is_ident t && b
both_told true t = all (is_ident t)
  where
    all : (a : Bool) → a ≡ a && true
    all true = refl
    all false = refl
both_told false t = no (is_ident t)
  where
    no : (a : Bool) → false ≡ a && false
    no true = refl
    no false = refl

abbrev is_word : TokenKind → Bool
is_word IdentifierName = true
is_word s = false

other_told : (b : Bool) (s : TokenKind) (t : Text) → is_word s ≡ false → is_told (cond b Idents Unnamed) s t ≡ false
other_told true IdentifierName t e = never (sym e)
other_told true s t e = refl
other_told false s t e = refl

pub told_alike : (q : Kind) (c : Nonterminal) (s : TokenKind) (t : Text) → is_told (naming q c) s t ≡ is_name_at q c s t
told_alike q TagName IdentifierName t = both_told false t
told_alike q TagName s t = refl
told_alike q MemberRoot IdentifierName t = both_told false t
told_alike q MemberRoot s t = refl
told_alike q c IdentifierName t = both_told (binds c || (asks c || (assigns c || is_short q c))) t
told_alike q c s t = other_told (binds c || (asks c || (assigns c || is_short q c))) s t refl

caught_alike : (q : Kind) → is_caught (round q) ≡ is_catch q
caught_alike (statement Catch) = refl
caught_alike (program ExportDefaultClass) = refl
caught_alike q = refl

class_alike : (q : Kind) → not (is_default (round q)) ≡ is_scope q (function ClassExpr)
class_alike (statement Catch) = refl
class_alike (program ExportDefaultClass) = refl
class_alike q = refl

pub scoped_alike : (q k : Kind) → scoped (round q) k ≡ is_scope q k
scoped_alike q (statement Block) = ap not (caught_alike q)
scoped_alike q (function ClassExpr) = class_alike q
scoped_alike q k = refl

name_alike : (b : Bool) (t : Text) → cond b (Refers t [] ∷ []) [] ≡ bare_all (cond b (Refers t [] ∷ []) [])
name_alike true t = refl
name_alike false t = refl

exporting_alike : (w : Way) (t : Text) → exporting w t [] ≡ bare_all (exporting w t [])
exporting_alike Exported' t = refl
exporting_alike Simply t = refl
exporting_alike InHead t = refl

leaf_alike : (m : Mode) (q : Kind) (c : Nonterminal) (s : TokenKind) (t : Text) → leaf_said m (naming q c) s t ≡ bare_all (of_leaf m q c [] s t)
leaf_alike (Binding w r) q c IdentifierName t = ap (λ z. Declares (is_head w) r t [] ∷ z) (exporting_alike w t)
leaf_alike m q c s t = ap (λ b. cond b (Refers t [] ∷ []) []) (told_alike q c s t) ∙ name_alike (is_name_at q c s t) t

both : (xs ys us vs : List Event) → xs ≡ us → ys ≡ vs → xs ++ ys ≡ us ++ vs
both xs ys us vs e f = ap (λ z. z ++ ys) e ∙ ap (λ z. us ++ z) f

-- ---- the events of what was met

events_append : (xs ys : List Met) → events_of (xs ++ ys) ≡ events_of xs ++ events_of ys
events_append [] ys = refl
events_append (x ∷ xs) ys = ap (λ z. x.event ∷ z) (events_append xs ys)

events_each : (b : BytePos) (es : List Event) → events_of (each_met b es) ≡ es
events_each b [] = refl
events_each b (e ∷ es) = ap (λ z. e ∷ z) (events_each b es)

pair_events : (xs ys : List Met) (us vs : List Event) → events_of xs ≡ us → events_of ys ≡ vs → events_of (xs ++ ys) ≡ us ++ vs
pair_events xs ys us vs e f = events_append xs ys ∙ both (events_of xs) (events_of ys) us vs e f

around_events : (b : Bool) (f : Frame) (xs : List Met) (us : List Event) → events_of xs ≡ us → events_of (around b f xs) ≡ events.around b f [] us
around_events false f xs us e = e
around_events true f xs us e = ap (λ z. Opens f [] ∷ z) (events_append xs (met Closes (record { 0 = 0 }) ∷ []) ∙ ap (λ z. z ++ Closes ∷ []) e)

inner_events : (b i : Bool) (xs ys : List Met) (us vs : List Event) → events_of xs ≡ us → events_of ys ≡ vs → events_of (entering b ++ (cond i xs [] ++ ys)) ≡ events.entering b ++ (cond i us [] ++ vs)
inner_events true true xs ys us vs e f = ap (λ z. Enters ∷ z) (pair_events xs ys us vs e f)
inner_events true false xs ys us vs e f = ap (λ z. Enters ∷ z) f
inner_events false true xs ys us vs e f = pair_events xs ys us vs e f
inner_events false false xs ys us vs e f = f

outer_events : (i : Bool) (xs ys : List Met) (us vs : List Event) → events_of xs ≡ us → events_of ys ≡ vs → events_of (cond i [] xs ++ ys) ≡ cond i [] us ++ vs
outer_events true xs ys us vs e f = f
outer_events false xs ys us vs e f = pair_events xs ys us vs e f

node_events : (k : Kind) (ts : Forest) (cs : List Claim) (ds : Tales) → events_of (node_said k ts cs ds) ≡ bare_all (of_node k [] ts)
node_events k ts cs ds =
    let w : List Event = wanted (wanted_here k [] ts) in
    let x : List Event = exported (exported_here k [] ts) in
    let v : List Event = called (evals_here k [] ts) in
    pair_events (each_met (its (head_tale ds)) (bare_all w)) (each_met (exported_at k cs ds) (bare_all x) ++ each_met (its (head_tale ds)) (bare_all v)) (bare_all w) (bare_all x ++ bare_all v)
    (events_each (its (head_tale ds)) (bare_all w))
    (pair_events (each_met (exported_at k cs ds) (bare_all x)) (each_met (its (head_tale ds)) (bare_all v)) (bare_all x) (bare_all v) (events_each (exported_at k cs ds) (bare_all x)) (events_each (its (head_tale ds)) (bare_all v)))
    ∙ sym (bare_append w (x ++ v) ∙ ap (λ z. bare_all w ++ z) (bare_append x v))

-- ---- a node that is no pair of parentheses

abbrev pub is_pair : Kind → Forest → Bool
is_pair (expression Parenthesized) (part t none) = true
is_pair (function ParenTarget) (part t none) = true
is_pair k ts = false

pub said_node : (m : Mode) (n : Naming) (r : Round) (k : Kind) (ts : Forest) (cs : List Claim) (ds : Tales) → is_pair k ts ≡ false
    → said m n r (node k ts) (tells cs ds) ≡ around (scoped r k) (frame k) (node_said k ts cs ds ++ (said_parts false m k (positions k) ts ds ++ around (has_scope k) (inner k) (said_parts true m k (positions k) ts ds)))
said_node m n r (expression Parenthesized) (part t none) cs ds e = never (sym e)
said_node m n r (function ParenTarget) (part t none) cs ds e = never (sym e)
said_node m n r k ts cs ds e = refl

-- one that is none, by its parts
node_heard : (m : Mode) (q : Kind) (c : Nonterminal) (k : Kind) (ts : Forest) (cs : List Claim) (ds : Tales) → is_pair k ts ≡ false
    → events_of (said_parts false m k (positions k) ts ds) ≡ heard_parts false m k (positions k) ts → events_of (said_parts true m k (positions k) ts ds) ≡ heard_parts true m k (positions k) ts
    → events_of (said m (naming q c) (round q) (node k ts) (tells cs ds)) ≡ heard m q c (node k ts)
node_heard m q c k ts cs ds e x y =
    ap events_of (said_node m (naming q c) (round q) k ts cs ds e)
    ∙ (ap (λ b. events_of (around b (frame k) (node_said k ts cs ds ++ (said_parts false m k (positions k) ts ds ++ around (has_scope k) (inner k) (said_parts true m k (positions k) ts ds))))) (scoped_alike q k)
    ∙ around_events (is_scope q k) (frame k) (node_said k ts cs ds ++ (said_parts false m k (positions k) ts ds ++ around (has_scope k) (inner k) (said_parts true m k (positions k) ts ds)))
    (bare_all (of_node k [] ts) ++ (heard_parts false m k (positions k) ts ++ events.around (has_scope k) (inner k) [] (heard_parts true m k (positions k) ts)))
    (pair_events (node_said k ts cs ds) (said_parts false m k (positions k) ts ds ++ around (has_scope k) (inner k) (said_parts true m k (positions k) ts ds))
    (bare_all (of_node k [] ts)) (heard_parts false m k (positions k) ts ++ events.around (has_scope k) (inner k) [] (heard_parts true m k (positions k) ts))
    (node_events k ts cs ds)
    (pair_events (said_parts false m k (positions k) ts ds) (around (has_scope k) (inner k) (said_parts true m k (positions k) ts ds)) (heard_parts false m k (positions k) ts) (events.around (has_scope k) (inner k) [] (heard_parts true m k (positions k) ts))
    x (around_events (has_scope k) (inner k) (said_parts true m k (positions k) ts ds) (heard_parts true m k (positions k) ts) y))))

by_pair : {X : Type 0} (b : Bool) → (b ≡ true → X) → (b ≡ false → X) → X
by_pair true f g = f refl
by_pair false f g = g refl

mutual
  pub said_heard : (m : Mode) (q : Kind) (c : Nonterminal) (t : Tree) (d : Told) → events_of (said m (naming q c) (round q) t d) ≡ heard m q c t
  said_heard m q c (leaf s t) d = events_each (its d) (leaf_said m (naming q c) s t) ∙ leaf_alike m q c s t
  said_heard m q c (node k ts) (tells cs ds) =
      by_pair (is_pair k ts) (λ e. pair_heard m q c k ts (tells cs ds) e) (λ e. node_heard m q c k ts cs ds e (parts_heard false m k (positions k) ts ds) (parts_heard true m k (positions k) ts ds))
  said_heard m q c (list ts) (tells cs ds) = each_heard m q c ts ds

  pair_heard : (m : Mode) (q : Kind) (c : Nonterminal) (k : Kind) (ts : Forest) (d : Told) → is_pair k ts ≡ true → events_of (said m (naming q c) (round q) (node k ts) d) ≡ heard m q c (node k ts)
  pair_heard m q c (expression Parenthesized) (part t none) d e = said_heard Plain (expression Parenthesized) (Expr 0) t d ∙ sym (append-nil (heard Plain (expression Parenthesized) (Expr 0) t))
  pair_heard m q c (function ParenTarget) (part t none) d e = said_heard Plain (function ParenTarget) SimpleTarget t d ∙ sym (append-nil (heard Plain (function ParenTarget) SimpleTarget t))
  pair_heard m q c k ts d e = never e

  parts_heard : (b : Bool) (m : Mode) (k : Kind) (ss : List Position) (ts : Forest) (ds : Tales) → events_of (said_parts b m k ss ts ds) ≡ heard_parts b m k ss ts
  parts_heard b m k [] ts ds = refl
  parts_heard b m k (s ∷ ss) none ds = refl
  parts_heard true m k (position f c g o a ∷ ss) (part t ts) ds =
      inner_events (is_behind k c) (is_inner k c) (said (mode m k c) (naming k c) (round k) t (head_tale ds)) (said_parts true m k ss ts (tail_tales ds)) (heard (mode m k c) k c t) (heard_parts true m k ss ts)
      (said_heard (mode m k c) k c t (head_tale ds)) (parts_heard true m k ss ts (tail_tales ds))
  parts_heard false m k (position f c g o a ∷ ss) (part t ts) ds =
      outer_events (is_inner k c) (said (mode m k c) (naming k c) (round k) t (head_tale ds)) (said_parts false m k ss ts (tail_tales ds)) (heard (mode m k c) k c t) (heard_parts false m k ss ts)
      (said_heard (mode m k c) k c t (head_tale ds)) (parts_heard false m k ss ts (tail_tales ds))

  each_heard : (m : Mode) (q : Kind) (c : Nonterminal) (ts : Forest) (ds : Tales) → events_of (said_each m (naming q c) (round q) ts ds) ≡ heard_each m q c ts
  each_heard m q c none ds = refl
  each_heard m q c (part t ts) ds =
      pair_events (said m (naming q c) (round q) t (head_tale ds)) (said_each m (naming q c) (round q) ts (tail_tales ds)) (heard m q c t) (heard_each m q c ts)
      (said_heard m q c t (head_tale ds)) (each_heard m q c ts (tail_tales ds))

pub program_heard : (t : Tree) (d : Told) → events_of (of_program t d) ≡ heard_in t
program_heard t d = said_heard Plain (program Script) WholeProgram t d
