-- The signs of each tree that fits are laid as a pen writes them: a check of each row by itself, and then an induction over the tree.
use Rattle.std.proofs.Common.{◌≡◌, List, [], ◌∷◌, ◌++◌, Bool, true, false, cond, not, ◌||◌, ◌&&◌, refl, sym, ap, ◌∙◌, ⊎_elim, ◌⊎◌, inl, inr}
use Rattle.std.proofs.lemmas.Bool.{false≢true, and_parts, and_from, not-true, or_cases}
use Rattle.jsx_base.specs.Token.{Text, Operator, TokenKind, IdentifierName, Punctuator, NumericLiteral, BigIntLiteral, StringLiteral, RegExpLiteral, NoSubstitution, TemplateHead, TemplateMiddle, TemplateTail, JsxName, JsxString, JsxText, Elision, NoToken}
use Rattle.jsx_tree.specs.Signs.{Sign, Tok, Unless, Space, Line, Begin, One, End}
use Rattle.jsx_tree.specs.Kinds.{Assigns, ArrayPat, AtLeast, AtMost, BareArrow, BareArrowBlock, Binary, Binds, Block, CallLink, Delete, Equal, Field, ForBinding, ForDeclaration, Forest, FunctionBody, FunctionExpr, Getter, Greater, Imported, InClass, InObject, InOp, Increment, IndexLink, InstanceOf, Kind, Less, Method, Module, NameLink, NewWithoutArguments, Nullish, ObjectPat, OpAssign, PlainTemplate, PostfixUpdate, PrefixUpdate, PropertyPat, RestPat, RestProperty, Script, Seq, Setter, ShorthandInit, ShorthandPat, Specifier, SpecifierAs, StrictEqual, StrictUnequal, SubstitutedTemplate, TemplateSpan, Tree, Unary, Unequal, Var, VarWord, WithInit, expression, function, jsx, leaf, list, node, none, part, program, statement}
use Rattle.jsx_tree.specs.Nonterminals.{Nonterminal, WholeProgram, Body, Stmt, DirectiveOnly, Slot, ArrayItem, ChainLink, TemplateOf, TemplatePart, in_homes, homes, literal_homes, leaf_in}
use Rattle.jsx_tree.specs.Grammar.{ListShape, Commas, Elisions, NoTrailing, TwoOrMore, Lines, TopLines, Adjacent, OneOrMore, Spaced, Dotted, JsxChildren, Fixed, Part, Optional, Many, Within, Production, production}
use Rattle.jsx_tree.specs.Spelling.{said, saids, each_said, joined, walk, gathered, before, between, behind, spelled}
use Rattle.jsx_tree.specs.Form.{Single, Several, positions}
use Rattle.jsx_tree.specs.Fits.{is_plain, is_solid}
use Rattle.jsx_tree.proofs.ReadBack.RowChecks.{frontal, is_later, is_body, holes, is_holey, sound, sounds, sound_each, is_formed, rowed, is_loose, is_keyed, is_body_kind, row_opens, asks_none}
use Rattle.jsx_tree.proofs.ReadBack.RowTable.{all_opens}
use Rattle.jsx_tree.proofs.ReadBack.Nodes.{SoundNode, sound_node}
use Rattle.jsx_tree.proofs.ReadBack.Trees.{SoundLeaf, sound_leaf, rowed_of}
use Rattle.jsx_tree.proofs.ReadBack.Basics.{clash}
use Rattle.jsx_pen.proofs.Phases.{Phase, Free, PlusMark, MinusMark, PlusHeld, MinusHeld, Opened, OpenedOn, Due, DueOn, Twice, Bad, step, run, is_bad, run_append}

-- ---- a row by itself

abbrev is_free : Phase → Bool
is_free Free = true
is_free s = false

abbrev is_opened : Phase → Bool
is_opened Opened = true
is_opened s = false

-- where a tree stands that begins with a token
abbrev begins : Nonterminal → Bool
begins c = frontal c || is_later c

-- before an item of a list
abbrev into : ListShape → Phase → Phase
into Lines s = step s Line
into Spaced s = step s Space
into JsxChildren s = Bad
into h s = s

abbrev item_ok : ListShape → Nonterminal → Phase → Bool
item_ok h c s = cond (is_holey h) (is_free s && holes c) (begins c && not (is_bad (into h s)))

-- which has an item for sure
abbrev is_some : ListShape → Bool
is_some TwoOrMore = true
is_some h = false

-- where an optional part is absent
abbrev absent : List Text → Phase → Phase
absent [] s = s
absent (r ∷ rs) s = step s (Unless (r ∷ rs))

-- whether a row that is walked from this phase on ends as it began: with nothing open
abbrev row_runs : Phase → Production → Bool
row_runs s [] = is_free (step s End)
row_runs s (Fixed m ∷ ps) = row_runs (step s m) ps
row_runs s (Within a ∷ ps) = row_runs s ps
row_runs s (Part c ∷ ps) = cond (is_body c) (is_opened s && (row_runs Opened ps && row_runs Free ps)) ((begins c && not (is_bad s)) && row_runs Free ps)
row_runs s (Optional a c b r ∷ ps) = row_runs (absent r s) ps && ((begins c && not (is_bad (run s a))) && row_runs (run Free b) ps)
row_runs s (Many h c ∷ ps) = (is_some h || row_runs s ps) && (item_ok h c s && row_runs Free ps)

abbrev from_each : (Phase → Bool) → Bool
from_each f = f Free && (f PlusMark && (f MinusMark && (f PlusHeld && (f MinusHeld && (f Opened && (f OpenedOn && (f Due && (f DueOn && f Twice))))))))

abbrev kind_runs : Kind → Bool
kind_runs k = is_loose k || from_each (λ s. row_runs (step s Begin) (production k))

pub all_runs : (k : Kind) → is_plain k ≡ true → kind_runs k ≡ true
all_runs (program Module) h = refl
all_runs (program (Specifier Imported)) h = refl
all_runs (program (SpecifierAs Imported)) h = refl
all_runs (statement Block) h = refl
all_runs (statement (Var VarWord)) h = refl
all_runs (statement (ForDeclaration VarWord)) h = refl
all_runs (statement (ForBinding VarWord)) h = refl
all_runs (function FunctionExpr) h = refl
all_runs (function (Method InObject)) h = refl
all_runs (function (Getter InObject)) h = refl
all_runs (function (Setter InObject)) h = refl
all_runs (function (Field InObject)) h = absurd (false≢true h)
all_runs (function (Field InClass)) h = refl
all_runs (function (ArrayPat Binds)) h = refl
all_runs (function (ObjectPat Binds)) h = refl
all_runs (function (PropertyPat Binds)) h = refl
all_runs (function (ShorthandPat Binds)) h = refl
all_runs (function (ShorthandInit Binds)) h = refl
all_runs (function (WithInit Binds)) h = refl
all_runs (function (RestPat Binds)) h = refl
all_runs (function (RestProperty Binds)) h = refl
all_runs (expression Seq) h = refl
all_runs (expression BareArrow) h = absurd (false≢true h)
all_runs (expression BareArrowBlock) h = absurd (false≢true h)
all_runs (expression NewWithoutArguments) h = absurd (false≢true h)
all_runs (expression (Binary Nullish)) h = refl
all_runs (expression (OpAssign Nullish)) h = refl
all_runs (expression (OpAssign Equal)) h = absurd (false≢true h)
all_runs (expression (OpAssign Unequal)) h = absurd (false≢true h)
all_runs (expression (OpAssign StrictEqual)) h = absurd (false≢true h)
all_runs (expression (OpAssign StrictUnequal)) h = absurd (false≢true h)
all_runs (expression (OpAssign Less)) h = absurd (false≢true h)
all_runs (expression (OpAssign Greater)) h = absurd (false≢true h)
all_runs (expression (OpAssign AtMost)) h = absurd (false≢true h)
all_runs (expression (OpAssign AtLeast)) h = absurd (false≢true h)
all_runs (expression (OpAssign InOp)) h = absurd (false≢true h)
all_runs (expression (OpAssign InstanceOf)) h = absurd (false≢true h)
all_runs (expression (Unary Delete)) h = refl
all_runs (expression (PrefixUpdate Increment)) h = refl
all_runs (expression (PostfixUpdate Increment)) h = refl
all_runs (expression (NameLink true)) h = refl
all_runs (expression (IndexLink true)) h = refl
all_runs (expression (CallLink true)) h = refl
all_runs (expression (PlainTemplate true)) h = refl
all_runs (expression (SubstitutedTemplate true)) h = refl
all_runs (expression (TemplateSpan true)) h = refl
all_runs (jsx k) h = absurd (false≢true h)
all_runs _ h = refl

-- ---- phases

free_is : (s : Phase) → is_free s ≡ true → s ≡ Free
free_is Free h = refl
free_is PlusMark h = absurd (false≢true h)
free_is MinusMark h = absurd (false≢true h)
free_is PlusHeld h = absurd (false≢true h)
free_is MinusHeld h = absurd (false≢true h)
free_is Opened h = absurd (false≢true h)
free_is OpenedOn h = absurd (false≢true h)
free_is Due h = absurd (false≢true h)
free_is DueOn h = absurd (false≢true h)
free_is Twice h = absurd (false≢true h)
free_is Bad h = absurd (false≢true h)

opened_is : (s : Phase) → is_opened s ≡ true → s ≡ Opened
opened_is Opened h = refl
opened_is Free h = absurd (false≢true h)
opened_is PlusMark h = absurd (false≢true h)
opened_is MinusMark h = absurd (false≢true h)
opened_is PlusHeld h = absurd (false≢true h)
opened_is MinusHeld h = absurd (false≢true h)
opened_is OpenedOn h = absurd (false≢true h)
opened_is Due h = absurd (false≢true h)
opened_is DueOn h = absurd (false≢true h)
opened_is Twice h = absurd (false≢true h)
opened_is Bad h = absurd (false≢true h)

each_phase : (f : Phase → Bool) (s : Phase) → from_each f ≡ true → is_bad s ≡ false → f s ≡ true
each_phase f s h b =
    let a1 = and_parts (f Free) _ h in
    let a2 = and_parts (f PlusMark) _ a1.1 in
    let a3 = and_parts (f MinusMark) _ a2.1 in
    let a4 = and_parts (f PlusHeld) _ a3.1 in
    let a5 = and_parts (f MinusHeld) _ a4.1 in
    let a6 = and_parts (f Opened) _ a5.1 in
    let a7 = and_parts (f OpenedOn) _ a6.1 in
    let a8 = and_parts (f Due) _ a7.1 in
    let a9 = and_parts (f DueOn) (f Twice) a8.1 in
    pick s b a1.0 a2.0 a3.0 a4.0 a5.0 a6.0 a7.0 a8.0 a9.0 a9.1
  where
    pick : (s : Phase) → is_bad s ≡ false → f Free ≡ true → f PlusMark ≡ true → f MinusMark ≡ true → f PlusHeld ≡ true → f MinusHeld ≡ true → f Opened ≡ true → f OpenedOn ≡ true → f Due ≡ true → f DueOn ≡ true → f Twice ≡ true → f s ≡ true
    pick Free b c1 c2 c3 c4 c5 c6 c7 c8 c9 c10 = c1
    pick PlusMark b c1 c2 c3 c4 c5 c6 c7 c8 c9 c10 = c2
    pick MinusMark b c1 c2 c3 c4 c5 c6 c7 c8 c9 c10 = c3
    pick PlusHeld b c1 c2 c3 c4 c5 c6 c7 c8 c9 c10 = c4
    pick MinusHeld b c1 c2 c3 c4 c5 c6 c7 c8 c9 c10 = c5
    pick Opened b c1 c2 c3 c4 c5 c6 c7 c8 c9 c10 = c6
    pick OpenedOn b c1 c2 c3 c4 c5 c6 c7 c8 c9 c10 = c7
    pick Due b c1 c2 c3 c4 c5 c6 c7 c8 c9 c10 = c8
    pick DueOn b c1 c2 c3 c4 c5 c6 c7 c8 c9 c10 = c9
    pick Twice b c1 c2 c3 c4 c5 c6 c7 c8 c9 c10 = c10
    pick Bad b c1 c2 c3 c4 c5 c6 c7 c8 c9 c10 = absurd (false≢true (sym b))

-- ---- trees

-- a tree at a place of which it is a sound part
record Runs (c : Nonterminal) (t : Tree) : Type 0 where
  pub begun : begins c ≡ true → (s : Phase) → is_bad s ≡ false → run s (joined (said t)) ≡ Free
  pub hole : holes c ≡ true → run Free (joined (said t)) ≡ Free
  pub body : is_body c ≡ true → (run Opened (joined (said t)) ≡ Opened) ⊎ (run Opened (joined (said t)) ≡ Free)

abbrev TreeRuns : Tree → Type 0
TreeRuns t = (c : Nonterminal) (g : List Text) → sound c g t ≡ true → Runs c t

abbrev mutual
  RunOf : Tree → Type 0
  RunOf (leaf s x) = TreeRuns (leaf s x)
  RunOf (node k cs) = TreeRuns (node k cs)
  RunOf (list us) = RunsOf us

  RunsOf : Forest → Type 0
  RunsOf none = Unit {0}
  RunsOf (part t ts) = RunOf t × RunsOf ts

run_at : (c : Nonterminal) (g : List Text) (t : Tree) → is_formed Single t ≡ true → RunOf t → sound c g t ≡ true → Runs c t
run_at c g (leaf k x) i f h = f c g h
run_at c g (node k cs) i f h = f c g h
run_at c g (list us) i f h = absurd (false≢true i)

-- ---- lists

item_runs : (h : ListShape) (c : Nonterminal) (t : Tree) (s : Phase) → item_ok h c s ≡ true → Runs c t → run s (before h (joined (said t))) ≡ Free
item_runs Elisions c t s h r = let a = and_parts (is_free s) (holes c) h in ap (λ x. run x (joined (said t))) (free_is s a.0) ∙ r.hole a.1
item_runs JsxChildren c t s h r = absurd (false≢true ((and_parts (begins c) false h).1))
item_runs Lines c t s h r = let a = and_parts (begins c) (not (is_bad (step s Line))) h in r.begun a.0 (step s Line) (not-true _ a.1)
item_runs Spaced c t s h r = let a = and_parts (begins c) (not (is_bad (step s Space))) h in r.begun a.0 (step s Space) (not-true _ a.1)
item_runs Commas c t s h r = let a = and_parts (begins c) (not (is_bad s)) h in r.begun a.0 s (not-true _ a.1)
item_runs NoTrailing c t s h r = let a = and_parts (begins c) (not (is_bad s)) h in r.begun a.0 s (not-true _ a.1)
item_runs TwoOrMore c t s h r = let a = and_parts (begins c) (not (is_bad s)) h in r.begun a.0 s (not-true _ a.1)
item_runs TopLines c t s h r = let a = and_parts (begins c) (not (is_bad s)) h in r.begun a.0 s (not-true _ a.1)
item_runs Adjacent c t s h r = let a = and_parts (begins c) (not (is_bad s)) h in r.begun a.0 s (not-true _ a.1)
item_runs OneOrMore c t s h r = let a = and_parts (begins c) (not (is_bad s)) h in r.begun a.0 s (not-true _ a.1)
item_runs Dotted c t s h r = let a = and_parts (begins c) (not (is_bad s)) h in r.begun a.0 s (not-true _ a.1)

next_item : (h : ListShape) (c : Nonterminal) (s : Phase) → item_ok h c s ≡ true → item_ok h c Free ≡ true
next_item Elisions c s h = (and_parts (is_free s) (holes c) h).1
next_item JsxChildren c s h = absurd (false≢true ((and_parts (begins c) false h).1))
next_item Lines c s h = and_from (begins c) true ((and_parts (begins c) _ h).0) refl
next_item Spaced c s h = and_from (begins c) true ((and_parts (begins c) _ h).0) refl
next_item Commas c s h = and_from (begins c) true ((and_parts (begins c) _ h).0) refl
next_item NoTrailing c s h = and_from (begins c) true ((and_parts (begins c) _ h).0) refl
next_item TwoOrMore c s h = and_from (begins c) true ((and_parts (begins c) _ h).0) refl
next_item TopLines c s h = and_from (begins c) true ((and_parts (begins c) _ h).0) refl
next_item Adjacent c s h = and_from (begins c) true ((and_parts (begins c) _ h).0) refl
next_item OneOrMore c s h = and_from (begins c) true ((and_parts (begins c) _ h).0) refl
next_item Dotted c s h = and_from (begins c) true ((and_parts (begins c) _ h).0) refl

between_runs : (h : ListShape) → run Free (between h) ≡ Free
between_runs Commas = refl
between_runs Elisions = refl
between_runs NoTrailing = refl
between_runs TwoOrMore = refl
between_runs Lines = refl
between_runs TopLines = refl
between_runs Adjacent = refl
between_runs OneOrMore = refl
between_runs Spaced = refl
between_runs Dotted = refl
between_runs JsxChildren = refl

behind_runs : (h : ListShape) (x : List Sign) → run Free (behind h x) ≡ Free
behind_runs Elisions [] = refl
behind_runs Elisions (m ∷ x) = refl
behind_runs Commas x = refl
behind_runs NoTrailing x = refl
behind_runs TwoOrMore x = refl
behind_runs Lines x = refl
behind_runs TopLines x = refl
behind_runs Adjacent x = refl
behind_runs OneOrMore x = refl
behind_runs Spaced x = refl
behind_runs Dotted x = refl
behind_runs JsxChildren x = refl

list_runs : (h : ListShape) (c : Nonterminal) (t : Tree) (us : Forest) (s : Phase) → item_ok h c s ≡ true → sound_each c (part t us) ≡ true → RunsOf (part t us) → run s (gathered h (joined (said t) ∷ each_said us)) ≡ Free
list_runs h c t none s o e q =
    let a = and_parts (is_formed Single t) (sound c [] t && true) e in
    let x = joined (said t) in
    run_append s (before h x) (behind h x) ∙ ap (λ p. run p (behind h x)) (item_runs h c t s o (run_at c [] t a.0 q.0 ((and_parts (sound c [] t) true a.1).0))) ∙ behind_runs h x
list_runs h c t (part u us) s o e q =
    let a = and_parts (is_formed Single t) (sound c [] t && sound_each c (part u us)) e in
    let b = and_parts (sound c [] t) (sound_each c (part u us)) a.1 in
    let x = joined (said t) in
    let y = gathered h (joined (said u) ∷ each_said us) in
    run_append s (before h x) (between h ++ y) ∙ ap (λ p. run p (between h ++ y)) (item_runs h c t s o (run_at c [] t a.0 q.0 b.0))
    ∙ run_append Free (between h) y ∙ ap (λ p. run p y) (between_runs h) ∙ list_runs h c u us Free (next_item h c s o) b.1 q.1

-- ---- rows

abbrev next_guard : Sign → List Text → List Text
next_guard (Tok m Punctuator t) g = []
next_guard (Unless ts) g = ts
next_guard m g = g

rowed_next : (m : Sign) (g : List Text) (ps : Production) (cs : Forest) → rowed g (Fixed m ∷ ps) cs ≡ rowed (next_guard m g) ps cs
rowed_next (Tok m Punctuator t) g ps cs = refl
rowed_next (Tok m IdentifierName t) g ps cs = refl
rowed_next (Tok m NumericLiteral t) g ps cs = refl
rowed_next (Tok m BigIntLiteral t) g ps cs = refl
rowed_next (Tok m StringLiteral t) g ps cs = refl
rowed_next (Tok m RegExpLiteral t) g ps cs = refl
rowed_next (Tok m NoSubstitution t) g ps cs = refl
rowed_next (Tok m TemplateHead t) g ps cs = refl
rowed_next (Tok m TemplateMiddle t) g ps cs = refl
rowed_next (Tok m TemplateTail t) g ps cs = refl
rowed_next (Tok m JsxName t) g ps cs = refl
rowed_next (Tok m JsxString t) g ps cs = refl
rowed_next (Tok m JsxText t) g ps cs = refl
rowed_next (Tok m Elision t) g ps cs = refl
rowed_next (Tok m NoToken t) g ps cs = refl
rowed_next (Unless ts) g ps cs = refl
rowed_next _ g ps cs = refl

-- a part, and what is walked behind it
part_runs : (c : Nonterminal) (t : Tree) (s : Phase) (ps : Production) (ts : Forest) → Runs c t → row_runs s (Part c ∷ ps) ≡ true → ((p : Phase) → row_runs p ps ≡ true → run p (walk ps (saids ts)) ≡ Free) → run s (joined (said t) ++ walk ps (saids ts)) ≡ Free
part_runs c t s ps ts r h f = run_append s (joined (said t)) (walk ps (saids ts)) ∙ go (is_body c) refl h
  where
    from : (p : Phase) → run s (joined (said t)) ≡ p → row_runs p ps ≡ true → run (run s (joined (said t))) (walk ps (saids ts)) ≡ Free
    from p e o = ap (λ x. run x (walk ps (saids ts))) e ∙ f p o

    go : (b : Bool) → is_body c ≡ b → cond b (is_opened s && (row_runs Opened ps && row_runs Free ps)) ((begins c && not (is_bad s)) && row_runs Free ps) ≡ true → run (run s (joined (said t))) (walk ps (saids ts)) ≡ Free
    go true e o =
        let a = and_parts (is_opened s) (row_runs Opened ps && row_runs Free ps) o in
        let b = and_parts (row_runs Opened ps) (row_runs Free ps) a.1 in
        let at_brace = ap (λ x. run x (joined (said t))) (opened_is s a.0) in
        ⊎_elim (λ (z : run Opened (joined (said t)) ≡ Opened). from Opened (at_brace ∙ z) b.0) (λ (z : run Opened (joined (said t)) ≡ Free). from Free (at_brace ∙ z) b.1) (r.body e)
    go false e o =
        let a = and_parts (begins c && not (is_bad s)) (row_runs Free ps) o in
        let b = and_parts (begins c) (not (is_bad s)) a.0 in
        from Free (r.begun b.0 s (not-true _ b.1)) a.1

-- an optional part that is there
there_runs : (a b : List Sign) (c : Nonterminal) (t : Tree) (s : Phase) (ps : Production) (ts : Forest) → Runs c t → ((begins c && not (is_bad (run s a))) && row_runs (run Free b) ps) ≡ true → ((p : Phase) → row_runs p ps ≡ true → run p (walk ps (saids ts)) ≡ Free) → run s ((a ++ (joined (said t) ++ b)) ++ walk ps (saids ts)) ≡ Free
there_runs a b c t s ps ts r h f =
    let p = and_parts (begins c && not (is_bad (run s a))) (row_runs (run Free b) ps) h in
    let q = and_parts (begins c) (not (is_bad (run s a))) p.0 in
    let x = joined (said t) in
    let k = walk ps (saids ts) in
    run_append s (a ++ (x ++ b)) k ∙ ap (λ z. run z k) (run_append s a (x ++ b) ∙ run_append (run s a) x b ∙ ap (λ z. run z b) (r.begun q.0 (run s a) (not-true _ q.1))) ∙ f (run Free b) p.1

row_run : (ps : Production) (cs : Forest) (g : List Text) (s : Phase) → rowed g ps cs ≡ true → RunsOf cs → row_runs s ps ≡ true → run s (walk ps (saids cs)) ≡ Free
row_run [] cs g s r q h = free_is (step s End) h
row_run (Fixed m ∷ ps) cs g s r q h = row_run ps cs (next_guard m g) (step s m) (sym (rowed_next m g ps cs) ∙ r) q h
row_run (Within a ∷ ps) cs g s r q h = row_run ps cs g s r q h
row_run (Part c ∷ ps) none g s r q h = absurd (false≢true r)
row_run (Part c ∷ ps) (part t ts) g s r q h =
    let a = and_parts (is_formed Single t) (sound c g t && rowed [] ps ts) r in
    let b = and_parts (sound c g t) (rowed [] ps ts) a.1 in
    part_runs c t s ps ts (run_at c g t a.0 q.0 b.0) h (λ p o. row_run ps ts [] p b.1 q.1 o)
row_run (Optional x c y z ∷ ps) none g s r q h = absurd (false≢true r)
row_run (Optional x c y z ∷ ps) (part (leaf k u) ts) g s r q h = absurd (false≢true r)
row_run (Optional x c y z ∷ ps) (part (node k cs) ts) g s r q h = absurd (false≢true r)
row_run (Optional x c y [] ∷ ps) (part (list none) ts) g s r q h = row_run ps ts [] s r q.1 ((and_parts (row_runs s ps) _ h).0)
row_run (Optional x c y (z ∷ zs) ∷ ps) (part (list none) ts) g s r q h = row_run ps ts [] (step s (Unless (z ∷ zs))) r q.1 ((and_parts (row_runs (step s (Unless (z ∷ zs))) ps) _ h).0)
row_run (Optional x c y [] ∷ ps) (part (list (part t none)) ts) g s r q h =
    let a = and_parts (is_formed Single t && (sound c [] t && true)) (rowed [] ps ts) r in
    let b = and_parts (is_formed Single t) (sound c [] t && true) a.0 in
    there_runs x y c t s ps ts (run_at c [] t b.0 q.0.0 ((and_parts (sound c [] t) true b.1).0)) ((and_parts (row_runs s ps) _ h).1) (λ p o. row_run ps ts [] p a.1 q.1 o)
row_run (Optional x c y (z ∷ zs) ∷ ps) (part (list (part t none)) ts) g s r q h =
    let a = and_parts (is_formed Single t && (sound c [] t && true)) (rowed [] ps ts) r in
    let b = and_parts (is_formed Single t) (sound c [] t && true) a.0 in
    there_runs x y c t s ps ts (run_at c [] t b.0 q.0.0 ((and_parts (sound c [] t) true b.1).0)) ((and_parts (row_runs (step s (Unless (z ∷ zs))) ps) _ h).1) (λ p o. row_run ps ts [] p a.1 q.1 o)
row_run (Optional x c y z ∷ ps) (part (list (part t (part u us))) ts) g s r q h = absurd (false≢true r)
row_run (Many h c ∷ ps) none g s r q o = absurd (false≢true r)
row_run (Many h c ∷ ps) (part (leaf k u) ts) g s r q o = absurd (false≢true r)
row_run (Many h c ∷ ps) (part (node k cs) ts) g s r q o = absurd (false≢true r)
row_run (Many TwoOrMore c ∷ ps) (part (list none) ts) g s r q o = absurd (false≢true r)
row_run (Many h c ∷ ps) (part (list none) ts) g s r q o =
    let a = and_parts (is_formed (Several h) (list none)) (rowed [] ps ts) r in
    let b = and_parts (is_some h || row_runs s ps) _ o in
    row_run ps ts [] s a.1 q.1 (none_some h s ps b.0 a.0)
  where
    none_some : (h : ListShape) (s : Phase) (ps : Production) → (is_some h || row_runs s ps) ≡ true → is_formed (Several h) (list none) ≡ true → row_runs s ps ≡ true
    none_some TwoOrMore s ps e f = absurd (false≢true f)
    none_some _ s ps e f = e
row_run (Many h c ∷ ps) (part (list (part t us)) ts) g s r q o =
    let a = and_parts (is_formed (Several h) (list (part t us))) (sound_each c (part t us) && rowed [] ps ts) r in
    let b = and_parts (sound_each c (part t us)) (rowed [] ps ts) a.1 in
    let d = and_parts (is_some h || row_runs s ps) (item_ok h c s && row_runs Free ps) o in
    let e = and_parts (item_ok h c s) (row_runs Free ps) d.1 in
    run_append s (gathered h (joined (said t) ∷ each_said us)) (walk ps (saids ts)) ∙ ap (λ z. run z (walk ps (saids ts))) (list_runs h c t us s e.0 b.0 q.0) ∙ row_run ps ts [] Free b.1 q.1 e.1

-- ---- leaves

later_hole : (c : Nonterminal) → is_later c ≡ true → in_homes c (literal_homes Elision) ≡ false
later_hole (TemplatePart TemplateMiddle) h = refl
later_hole (TemplatePart TemplateTail) h = refl
later_hole _ h = absurd (false≢true h)

record Frontal (c : Nonterminal) : Type 0 where
  pub no_body : in_homes c (homes (program FunctionBody)) ≡ false
  pub no_program : in_homes c (homes (program Module)) ≡ false
  pub no_hole : in_homes c (literal_homes Elision) ≡ false

frontal_of : (c : Nonterminal) → frontal c ≡ true → Frontal c
frontal_of c h =
    let p = and_parts (not (in_homes c (homes (program FunctionBody)))) _ h in
    let q = and_parts (not (in_homes c (homes (program Module)))) _ p.1 in
    let r = and_parts (not (in_homes c (literal_homes Elision))) _ q.1 in
    record { no_body = not-true _ p.0; no_program = not-true _ q.0; no_hole = not-true _ r.0 }

no_hole : (c : Nonterminal) → begins c ≡ true → in_homes c (literal_homes Elision) ≡ false
no_hole c h = ⊎_elim (λ (f : frontal c ≡ true). (frontal_of c f).no_hole) (λ (l : is_later c ≡ true). later_hole c l) (or_cases (frontal c) (is_later c) h)

no_body_leaf : (c : Nonterminal) (s : TokenKind) (x : Text) → is_body c ≡ true → leaf_in c s x ≡ true → is_solid s ≡ true → ⊥
no_body_leaf Body JsxName x i h l = false≢true l
no_body_leaf Body _ x i h l = false≢true h
no_body_leaf _ s x i h l = false≢true i

token_free : (s : Phase) → is_bad s ≡ false → step (step s One) (Tok Operator IdentifierName []) ≡ Free
token_free Free h = refl
token_free PlusMark h = refl
token_free MinusMark h = refl
token_free PlusHeld h = refl
token_free MinusHeld h = refl
token_free Opened h = refl
token_free OpenedOn h = refl
token_free Due h = refl
token_free DueOn h = refl
token_free Twice h = refl
token_free Bad h = absurd (false≢true (sym h))

leaf_runs : (s : TokenKind) (x : Text) (c : Nonterminal) → SoundLeaf c s x → Runs c (leaf s x)
leaf_runs Elision x c l = record { begun = λ b. clash _ l.home (no_hole c b); hole = λ _. refl; body = λ i. absurd (no_body_leaf c Elision x i l.home l.solid) }
leaf_runs IdentifierName x c l = record { begun = λ _ s b. token_free s b; hole = λ _. refl; body = λ i. absurd (no_body_leaf c IdentifierName x i l.home l.solid) }
leaf_runs NumericLiteral x c l = record { begun = λ _ s b. token_free s b; hole = λ _. refl; body = λ i. absurd (no_body_leaf c NumericLiteral x i l.home l.solid) }
leaf_runs BigIntLiteral x c l = record { begun = λ _ s b. token_free s b; hole = λ _. refl; body = λ i. absurd (no_body_leaf c BigIntLiteral x i l.home l.solid) }
leaf_runs StringLiteral x c l = record { begun = λ _ s b. token_free s b; hole = λ _. refl; body = λ i. absurd (no_body_leaf c StringLiteral x i l.home l.solid) }
leaf_runs RegExpLiteral x c l = record { begun = λ _ s b. token_free s b; hole = λ _. refl; body = λ i. absurd (no_body_leaf c RegExpLiteral x i l.home l.solid) }
leaf_runs NoSubstitution x c l = record { begun = λ _ s b. token_free s b; hole = λ _. refl; body = λ i. absurd (no_body_leaf c NoSubstitution x i l.home l.solid) }
leaf_runs TemplateHead x c l = record { begun = λ _ s b. token_free s b; hole = λ _. refl; body = λ i. absurd (no_body_leaf c TemplateHead x i l.home l.solid) }
leaf_runs TemplateMiddle x c l = record { begun = λ _ s b. token_free s b; hole = λ _. refl; body = λ i. absurd (no_body_leaf c TemplateMiddle x i l.home l.solid) }
leaf_runs TemplateTail x c l = record { begun = λ _ s b. token_free s b; hole = λ _. refl; body = λ i. absurd (no_body_leaf c TemplateTail x i l.home l.solid) }
leaf_runs Punctuator x c l = absurd (false≢true l.solid)
leaf_runs JsxName x c l = absurd (false≢true l.solid)
leaf_runs JsxString x c l = absurd (false≢true l.solid)
leaf_runs JsxText x c l = absurd (false≢true l.solid)
leaf_runs NoToken x c l = absurd (false≢true l.solid)

-- ---- nodes

no_loose : (c : Nonterminal) (k : Kind) → begins c ≡ true → in_homes c (homes k) ≡ true → is_loose k ≡ false
no_loose c k b h = ⊎_elim (λ (f : frontal c ≡ true). first k (frontal_of c f) h) (λ (l : is_later c ≡ true). last c k l h) (or_cases (frontal c) (is_later c) b)
  where
    first : (k : Kind) → Frontal c → in_homes c (homes k) ≡ true → is_loose k ≡ false
    first (program Module) f h = clash _ h f.no_program
    first (program Script) f h = clash _ h f.no_program
    first (program FunctionBody) f h = clash _ h f.no_body
    first _ f h = refl

    last : (c : Nonterminal) (k : Kind) → is_later c ≡ true → in_homes c (homes k) ≡ true → is_loose k ≡ false
    last (TemplatePart TemplateMiddle) (program Module) l h = absurd (false≢true h)
    last (TemplatePart TemplateMiddle) (program Script) l h = absurd (false≢true h)
    last (TemplatePart TemplateMiddle) (program FunctionBody) l h = absurd (false≢true h)
    last (TemplatePart TemplateTail) (program Module) l h = absurd (false≢true h)
    last (TemplatePart TemplateTail) (program Script) l h = absurd (false≢true h)
    last (TemplatePart TemplateTail) (program FunctionBody) l h = absurd (false≢true h)
    last (TemplatePart TemplateMiddle) _ l h = refl
    last (TemplatePart TemplateTail) _ l h = refl
    last _ k l h = absurd (false≢true l)

loose_hole : (c : Nonterminal) (k : Kind) → holes c ≡ true → in_homes c (homes k) ≡ true → is_loose k ≡ false
loose_hole ArrayItem (program Module) f h = absurd (false≢true h)
loose_hole ArrayItem (program Script) f h = absurd (false≢true h)
loose_hole ArrayItem (program FunctionBody) f h = absurd (false≢true h)
loose_hole (Slot Binds) (program Module) f h = absurd (false≢true h)
loose_hole (Slot Binds) (program Script) f h = absurd (false≢true h)
loose_hole (Slot Binds) (program FunctionBody) f h = absurd (false≢true h)
loose_hole (Slot Assigns) (program Module) f h = absurd (false≢true h)
loose_hole (Slot Assigns) (program Script) f h = absurd (false≢true h)
loose_hole (Slot Assigns) (program FunctionBody) f h = absurd (false≢true h)
loose_hole ArrayItem _ f h = refl
loose_hole (Slot Binds) _ f h = refl
loose_hole (Slot Assigns) _ f h = refl
loose_hole _ k f h = absurd (false≢true f)

body_kind : (c : Nonterminal) (k : Kind) → is_plain k ≡ true → is_body c ≡ true → in_homes c (homes k) ≡ true → is_body_kind k ≡ true
body_kind Body k p i h =
    let a = and_parts (is_loose k || row_opens asks_none (production k)) _ (all_opens k p) in
    let b = and_parts (not (in_homes TemplateOf (homes k)) || row_opens (record asks_none { tagged = true }) (production k)) _ a.1 in
    let d = and_parts (not (in_homes ChainLink (homes k)) || row_opens (record asks_none { linked = true }) (production k)) _ b.1 in
    let e = and_parts (is_loose k || (is_keyed k || row_opens (record asks_none { lined = true }) (production k))) _ d.1 in
    by (in_homes Body (homes k)) (is_body_kind k) h e.1
  where
    by : (a b : Bool) → a ≡ true → (not a || b) ≡ true → b ≡ true
    by true b e h = h
    by false b e h = absurd (false≢true e)
body_kind _ k p i h = absurd (false≢true i)

body_runs : (cs : Forest) → rowed [] (production (program FunctionBody)) cs ≡ true → RunsOf cs → (run Opened (joined (said (node (program FunctionBody) cs))) ≡ Opened) ⊎ (run Opened (joined (said (node (program FunctionBody) cs))) ≡ Free)
body_runs none r q = absurd (false≢true r)
body_runs (part (leaf k x) cs) r q = absurd (false≢true r)
body_runs (part (node k x) cs) r q = absurd (false≢true r)
body_runs (part (list none) none) r q = absurd (false≢true r)
body_runs (part (list none) (part (leaf k x) cs)) r q = absurd (false≢true r)
body_runs (part (list none) (part (node k x) cs)) r q = absurd (false≢true r)
body_runs (part (list none) (part (list none) cs)) r q = inl refl
body_runs (part (list none) (part (list (part t us)) cs)) r q =
    let a = and_parts (is_formed (Several Lines) (list (part t us))) (sound_each Stmt (part t us) && rowed [] [] cs) r in
    let b = and_parts (sound_each Stmt (part t us)) (rowed [] [] cs) a.1 in
    inr (run_append Opened (gathered Lines (joined (said t) ∷ each_said us)) (End ∷ []) ∙ ap (λ z. run z (End ∷ [])) (list_runs Lines Stmt t us Opened refl b.0 q.1.0))
body_runs (part (list (part t us)) cs) r q =
    let a = and_parts (is_formed (Several Lines) (list (part t us))) (sound_each DirectiveOnly (part t us) && rowed [] (Many Lines Stmt ∷ []) cs) r in
    let b = and_parts (sound_each DirectiveOnly (part t us)) (rowed [] (Many Lines Stmt ∷ []) cs) a.1 in
    let k = walk (Many Lines Stmt ∷ []) (saids cs) in
    inr (run_append Opened (gathered Lines (joined (said t) ∷ each_said us)) k ∙ ap (λ z. run z k) (list_runs Lines DirectiveOnly t us Opened refl b.0 q.0) ∙ row_run (Many Lines Stmt ∷ []) cs [] Free b.1 q.1 refl)

or_second : (a b : Bool) → a ≡ false → (a || b) ≡ true → b ≡ true
or_second true b e h = absurd (false≢true (sym e))
or_second false b e h = h

node_begun : (k : Kind) (cs : Forest) → is_plain k ≡ true → is_loose k ≡ false → sounds (positions k) cs ≡ true → RunsOf cs → (s : Phase) → is_bad s ≡ false → run s (joined (said (node k cs))) ≡ Free
node_begun k cs p l r q s b =
    row_run (production k) cs [] (step s Begin) (rowed_of (production k) [] false [] cs r) q
    (each_phase (λ z. row_runs (step z Begin) (production k)) s (or_second (is_loose k) _ l (all_runs k p)) b)

node_body : (k : Kind) (cs : Forest) → is_body_kind k ≡ true → sounds (positions k) cs ≡ true → RunsOf cs → (run Opened (joined (said (node k cs))) ≡ Opened) ⊎ (run Opened (joined (said (node k cs))) ≡ Free)
node_body (program FunctionBody) cs i r q = body_runs cs (rowed_of (production (program FunctionBody)) [] false [] cs r) q
node_body _ cs i r q = absurd (false≢true i)

node_runs : (k : Kind) (cs : Forest) → RunsOf cs → TreeRuns (node k cs)
node_runs k cs q c g h =
    let n : SoundNode c k cs = sound_node c g k cs h in
    record {
      begun = λ b. node_begun k cs n.plain (no_loose c k b n.home) n.parts q;
      hole = λ i. node_begun k cs n.plain (loose_hole c k i n.home) n.parts q Free refl;
      body = λ i. node_body k cs (body_kind c k n.plain i n.home) n.parts q;
    }

mutual
  all_run : (t : Tree) → RunOf t
  all_run (leaf s x) = λ c g h. leaf_runs s x c (sound_leaf c g s x h)
  all_run (node k cs) = node_runs k cs (all_runs_of cs)
  all_run (list us) = all_runs_of us

  all_runs_of : (ts : Forest) → RunsOf ts
  all_runs_of none = tt
  all_runs_of (part t ts) = (all_run t, all_runs_of ts)

-- ---- programs

pub module_runs : (cs : Forest) → sound WholeProgram [] (node (program Module) cs) ≡ true → run Free (spelled (node (program Module) cs)) ≡ Free
module_runs cs h =
    let n : SoundNode WholeProgram (program Module) cs = sound_node WholeProgram [] (program Module) cs h in
    row_run (production (program Module)) cs [] Free (rowed_of (production (program Module)) [] false [] cs n.parts) (all_runs_of cs) refl

pub script_runs : (cs : Forest) → sound WholeProgram [] (node (program Script) cs) ≡ true → run Free (spelled (node (program Script) cs)) ≡ Free
script_runs cs h =
    let n : SoundNode WholeProgram (program Script) cs = sound_node WholeProgram [] (program Script) cs h in
    row_run (production (program Script)) cs [] Free (rowed_of (production (program Script)) [] false [] cs n.parts) (all_runs_of cs) refl
