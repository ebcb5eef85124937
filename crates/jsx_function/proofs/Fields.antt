-- Fields behind their keys, in what their values stand in: ` = a;`, or `;` (ECMA-262 section 15.7).
use Rattle.std.proofs.Common.{◌≡◌, ℕ, nat_eq, Bool, true, false, not, cond, [], ◌∷◌, refl, sym, ◌∙◌, ap, subst}
use Rattle.std.specs.Prelude.{IsTrue, codes, ◌&&◌, ◌||◌}
use Rattle.std.proofs.lemmas.Bool.{eqb-true, eq-eqb}
use Rattle.jsx_base.specs.Token.{Text, Operator, Punctuator, IdentifierName, StringLiteral, NumericLiteral, BigIntLiteral, among, at_front, breaks, first_is, is_end, is_kind, is_token, kind_number, same, skip, token}
use Rattle.jsx_base.proofs.Fronts.{other_ahead}
use Rattle.jsx_tree.specs.Signs.{AfterExpr, AfterKey, Ending, Ends, Semicolon, Tok, Unless}
use Rattle.jsx_tree.specs.Kinds.{Tree, list, Forest, none, part}
use Rattle.jsx_tree.specs.Nonterminals.{Expr}
use Rattle.jsx_tree.specs.Grammar.{Part, pun, semi}
use Rattle.jsx_tree.specs.Reading.{Place, Lost, At, continues, ended_at, forth, go_if, is_do, may_lack, prefix_words}
use Rattle.jsx_tree.specs.StaticRules.{Surroundings}
use Rattle.jsx_tree.specs.Spans.{Told, no_tales, tale}
use Rattle.jsx_tree.specs.Told.{told_list}
use Rattle.jsx_tree.specs.Walk.{is_found, nothing, one, piece, tail, sign, tree, absent, present, Walk, next, steady}
use Rattle.jsx_tree.specs.Language.{Whole}
use Rattle.jsx_tree.specs.Answers.{Moves, Missed, Only, Barred, OnlyRow, NoRow}
use Rattle.jsx_tree.specs.Faults.{Fault, Shallow, deepest}
use Rattle.jsx_tree.proofs.Apart.{clash, never_both}
use Rattle.jsx_tree.proofs.Tokens.{and_both, and_left, same_is}
use Rattle.jsx_tree.proofs.Rows.Bridge.{found_at}
use Rattle.jsx_tree.proofs.Rows.Laws.{end_found, lost_barred, start_found}
use Rattle.jsx_tree.proofs.Rows.Lists.{ended_sign}
use Rattle.jsx_tree.proofs.Rows.Optionals.{end_shut, turn_absent, turn_present}
use Rattle.jsx_tree.proofs.Rows.Steps.{bar, no_sign, on, only_sign, then'}
use Rattle.jsx_tree.proofs.Rows.Stopping.{found_if, raw_there}
use Rattle.jsx_tree.proofs.Rows.Turns.{turn_none, turn_only, whole_of}
use Rattle.jsx_tree.proofs.Depth.Shallow.{shallow_first, shallow_rest, shallow_head}
use Rattle.jsx_token.specs.Here.{Here, leaf_kind, leaf_sign}
use Rattle.jsx_token.specs.Places.{Takes}
use Rattle.jsx_token.specs.Stage.{key_leaf}
use Rattle.jsx_token.specs.declared.lexer.Leaf.{Leaf}
use Rattle.jsx_token.specs.declared.lexer.Leaf.TheVariants as leaf'
use Rattle.jsx_operand.specs.SoFar.{so_far}
use Rattle.jsx_operand.specs.Spans.{IsPlaced, IsPlacedRow}
use Rattle.jsx_operand.proofs.OfSoFar.{of_so_far}
use Rattle.jsx_operand.proofs.Placing.{row_absent, row_end, row_present, row_sign}
use Rattle.jsx_function.specs.Methods.{BeginsKey, by_bracket, by_leaf, field_row, field_symbols}
use Rattle.jsx_function.proofs.Prefixes.{key_before}

-- ---- where a semicolon can't be missing

and_false : (a : Bool) → (a && false) ≡ false
and_false true = refl
and_false false = refl

-- the token is none of those that a semicolon is missing before on its line, and the text goes on
no_semi : (q : Text) (e : Ending) (text : Text) → same (token Operator false text).raw (codes ";") ≡ false → same (token Operator false text).raw (codes "}") ≡ false → is_end text ≡ false → is_do e ≡ false → continues e q (token Operator false text).raw ≡ true → forth Semicolon (At q e text) ≡ Lost
no_semi q e text s b n d k =
    let x = token Operator false text in
    let no_mark : is_token x Punctuator (codes ";") ≡ false = ap (λ h. is_kind x.kind Punctuator && h) s ∙ and_false (is_kind x.kind Punctuator) in
    let lack : may_lack e q text ≡ false = (λ i. not (s i) && (((d i || n i) || b i) || (breaks text && not (k i)))) ∙ and_false (breaks text) in
    (λ i. cond (no_mark i) (At (codes ";") AfterExpr x.rest) (go_if (lack i) (At q e text)))

-- what is read there shows that the text goes on
goes_on : (q : Text) (e : Ending) (text : Text) → (ended_at (At q e text) ≡ true → ⊥) → is_end text ≡ false
goes_on q e text n = by (is_end text) refl
  where
    by : (b : Bool) → is_end text ≡ b → is_end text ≡ false
    by false h = h
    by true h = absurd (n h)

-- before `=` and before `(`, and before a key where the token before is a word
mark_on : (d : ℕ) (q : Text) (text : Text) → same (d ∷ []) (codes ";") ≡ false → same (d ∷ []) (codes "}") ≡ false → continues AfterKey q (d ∷ []) ≡ true → IsTrue (is_found (forth (Tok Operator Punctuator (d ∷ [])) (At q AfterKey text))) → forth Semicolon (At q AfterKey text) ≡ Lost
mark_on d q text a b k f =
    let raw = raw_there Punctuator d [] q text (found_if _ (At (d ∷ []) AfterExpr (token Operator (same q []) text).rest) f) in
    no_semi q AfterKey text (ap (λ t. same t (codes ";")) raw ∙ a) (ap (λ t. same t (codes "}")) raw ∙ b) (by_end raw (is_end text) refl) refl (ap (continues AfterKey q) raw ∙ k)
  where
    by_end : (token Operator false text).raw ≡ d ∷ [] → (b : Bool) → is_end text ≡ b → is_end text ≡ false
    by_end raw false h = h
    by_end raw true h =
        let nothing = ap (λ s. (at_front Operator (breaks text) s).raw) (same_is (skip text) [] (and_left (same (skip text) []) _ h)) in
        absurd (clash _ (ap (λ t. same t []) nothing) (ap (λ t. same t []) raw))

pub equals_on : (x : Place) → IsTrue (is_found (forth (pun "=") (forth (Ends AfterKey) x))) → forth Semicolon (forth (Ends AfterKey) x) ≡ Lost
equals_on Lost f = cc
equals_on (At q e text) f = mark_on 61 q text refl refl refl f

pub bracket_on : (x : Place) → IsTrue (is_found (forth (pun "(") x)) → forth Semicolon (forth (Ends AfterKey) x) ≡ Lost
bracket_on Lost f = cc
bracket_on (At q e text) f = mark_on 40 q text refl refl refl f

-- ---- behind `get`, `set` and `static`, where they stand before a key

-- a token that is spelled as a mark is one, whether it is the first of the text or not
mark_there : (d : ℕ) → ((f : Bool) (s : Text) → is_token (at_front Operator f (d ∷ s)) Punctuator (d ∷ []) ≡ true) → (f g : Bool) (s : Text) → same (at_front Operator f s).raw (d ∷ []) ≡ true → is_token (at_front Operator g s) Punctuator (d ∷ []) ≡ true
mark_there d fr f g s h = by (first_is (nat_eq d) s) refl
  where
    begins : (t : Text) → first_is (nat_eq d) t ≡ true → is_token (at_front Operator g t) Punctuator (d ∷ []) ≡ true
    begins [] e = cc
    begins (c ∷ t) e = subst (λ b. is_token (at_front Operator g (b ∷ t)) Punctuator (d ∷ []) ≡ true) (eqb-true d c e) (fr g t)

    by : (b : Bool) → first_is (nat_eq d) s ≡ b → is_token (at_front Operator g s) Punctuator (d ∷ []) ≡ true
    by true e = begins s e
    by false e =
        let x = at_front Operator f s in
        absurd (clash (is_token x x.kind (d ∷ [])) (and_both _ _ (eq-eqb (kind_number x.kind) (kind_number x.kind) refl) h) ((other_ahead x.kind d [] Operator s e).not_it f))

unspelled : (d : ℕ) → ((f : Bool) (s : Text) → is_token (at_front Operator f (d ∷ s)) Punctuator (d ∷ []) ≡ true) → (q : Text) (e : Ending) (text : Text) → (IsTrue (is_found (forth (Tok Operator Punctuator (d ∷ [])) (At q e text))) → ⊥) → same (token Operator false text).raw (d ∷ []) ≡ false
unspelled d fr q e text n = by (same (token Operator false text).raw (d ∷ [])) refl
  where
    by : (b : Bool) → same (token Operator false text).raw (d ∷ []) ≡ b → same (token Operator false text).raw (d ∷ []) ≡ false
    by false h = h
    by true h =
        let i = mark_there d fr (breaks text) (same q [] || breaks text) (skip text) h in
        absurd (n (ap (λ b. is_found (go_if b (At (d ∷ []) AfterExpr (token Operator (same q []) text).rest))) i))

semi_front : (f : Bool) (s : Text) → is_token (at_front Operator f (59 ∷ s)) Punctuator (59 ∷ []) ≡ true
semi_front true s = refl
semi_front false s = refl

brace_front : (f : Bool) (s : Text) → is_token (at_front Operator f (125 ∷ s)) Punctuator (125 ∷ []) ≡ true
brace_front true s = refl
brace_front false s = refl

leaf_not_end : (l : Leaf) (t q : Text) (e : Ending) (text : Text) → key_leaf (leaf_kind l) ≡ true → IsTrue (is_found (forth (leaf_sign l t) (At q e text))) → ended_at (At q e text) ≡ true → ⊥
leaf_not_end leaf'.Name t q e text k f h = (end_shut (At q e text) h).no Operator IdentifierName t refl f
leaf_not_end leaf'.Str t q e text k f h = (end_shut (At q e text) h).no Operator StringLiteral t refl f
leaf_not_end leaf'.Num t q e text k f h = (end_shut (At q e text) h).no Operator NumericLiteral t refl f
leaf_not_end leaf'.BigInt t q e text k f h = (end_shut (At q e text) h).no Operator BigIntLiteral t refl f
leaf_not_end leaf'.RegExp t q e text k f h = cc
leaf_not_end leaf'.NoSubstitution t q e text k f h = cc
leaf_not_end leaf'.TemplateHead t q e text k f h = cc
leaf_not_end leaf'.JsxName t q e text k f h = cc

key_not_end : (q : Text) (e : Ending) (text : Text) → BeginsKey (At q e text) → ended_at (At q e text) ≡ true → ⊥
key_not_end q e text (by_leaf l t k f) h = leaf_not_end l t q e text k f h
key_not_end q e text (by_bracket f) h = (end_shut (At q e text) h).no Operator Punctuator (codes "[") refl f

or_right : (a b : Bool) → b ≡ true → (a || b) ≡ true
or_right true b e = refl
or_right false b e = e

word_on : (q : Text) (e : Ending) (text : Text) → among q prefix_words ≡ true → BeginsKey (At q e text) → forth Semicolon (At q AfterKey text) ≡ Lost
word_on q e text w k =
    no_semi q AfterKey text (unspelled 59 semi_front q e text (key_before (codes ";") refl k)) (unspelled 125 brace_front q e text (key_before (codes "}") refl k)) (goes_on q e text (key_not_end q e text k)) refl
    (or_right (among (token Operator false text).raw (codes "=" ∷ codes "(" ∷ [])) (among q prefix_words) w)

-- the word was taken before
pub key_on : (t : Text) {x y : Place} → among t prefix_words ≡ true → Moves (Tok Operator IdentifierName t) x y → BeginsKey y → forth Semicolon (forth (Ends AfterKey) y) ≡ Lost
key_on t {x} {y} w m k = at x m.is
  where
    here : (p : Place) → y ≡ p → BeginsKey p
    here p e = subst BeginsKey e k

    at : (p : Place) → y ≡ forth (Tok Operator IdentifierName t) p → forth Semicolon (forth (Ends AfterKey) y) ≡ Lost
    at Lost e = subst (λ z. forth Semicolon (forth (Ends AfterKey) z) ≡ Lost) (sym e) refl
    at (At q e text) g =
        let z = token Operator (same q []) text in
        let i : is_token z IdentifierName t ≡ true = found_if (is_token z IdentifierName t) (At t AfterExpr z.rest) (subst (λ r. IsTrue (is_found r)) g m.found) in
        let there : y ≡ At t AfterExpr z.rest = g ∙ ap (λ b. go_if b (At t AfterExpr z.rest)) i in
        subst (λ r. forth Semicolon (forth (Ends AfterKey) r) ≡ Lost) (sym there) (word_on t AfterExpr z.rest w (here _ there))

-- ---- the row

unless_none : (x : Place) → IsTrue (is_found x) → forth (Unless []) x ≡ x
unless_none Lost f = refl
unless_none (At q e text) f = refl

-- without a value
pub field_bare : {v : Surroundings} {x y y' z : Place} → Moves (Ends AfterKey) x y → Missed (pun "=") y y' → Only so_far v semi y' nothing z → OnlyRow so_far v field_row x (part (list none) none) z
field_bare {v} {y = y} {z = z} m n given = then' (only_sign m) (turn_only (turn_absent (unless_none y m.found) m.found (lost_barred of_so_far n.stuck.is)) (ended_sign here))
  where
    here : Only so_far v semi y nothing z
    here = subst (λ p. Only so_far v semi p nothing z) (sym n.same) given

pub field_unended : {v : Surroundings} {x y y' : Place} {e : Fault} → Moves (Ends AfterKey) x y → Missed (pun "=") y y' → Barred so_far v semi y' e → NoRow so_far v field_row x e
field_unended {v} {y = y} {e = e} m n given = on (only_sign m) (turn_none (turn_absent (unless_none y m.found) m.found (lost_barred of_so_far n.stuck.is)) (bar (subst (λ w. Barred so_far v semi w e) (sym n.same) given)))

-- with one
no_end : {x y a : Place} → Moves (Ends AfterKey) x y → Moves (pun "=") y a → forth Semicolon y ≡ Lost
no_end {x = x} {y} m n = subst (λ p. forth Semicolon p ≡ Lost) (sym m.is) (equals_on x (subst (λ p. IsTrue (is_found (forth (pun "=") p))) m.is (found_at (sym n.is) n.found)))

unended : {v : Surroundings} {x y a : Place} {e : Fault} → Moves (Ends AfterKey) x y → Moves (pun "=") y a → NoRow so_far v (piece [] semi ∷ []) (forth (Unless []) y) e
unended {v} {y = y} {e = e} m n = subst (λ p. NoRow so_far v (piece [] semi ∷ []) p e) (sym (unless_none y m.found)) (bar (no_sign (record { is = no_end m n })))

pub field_valued : {v : Surroundings} {x y a b z : Place} {t : Tree} → Moves (Ends AfterKey) x y → Moves (pun "=") y a → Only so_far v (Part (Expr 1)) a (one t) b → Only so_far v semi b nothing z → OnlyRow so_far v field_row x (part (list (part t none)) none) z
field_valued m n o e = then' (only_sign m) (turn_only (turn_present (sym n.is) o refl (end_found of_so_far (whole_of o.past).reads) (unended m n)) (ended_sign e))

pub field_unread : {v : Surroundings} {x y a : Place} {o : Fault} → Moves (Ends AfterKey) x y → Moves (pun "=") y a → Barred so_far v (Part (Expr 1)) a o → NoRow so_far v field_row x o
field_unread {v} {y = y} {a} {o = o} m n b = on (only_sign m) (record { no = λ ts z w h. at w h })
  where
    at : {ts : Forest} {z : Place} → Walk (Whole so_far) (steady v) (tail field_row) y ts z → Shallow o (deepest ts) → ⊥
    at {z = z} (next {ts = us} (absent e f) w) s = (unended m n).no us z (subst (λ p. Walk (Whole so_far) (steady v) (piece [] semi ∷ []) p us z) (sym e) w) (shallow_rest o (one (list none)) us s)
    at (next {ts = us'} (present {z = c} {t = t} d q e f) w) s = b.no (one t) c (tree (subst (λ p. Whole so_far v false (Expr 1) p t c) (sym (n.is ∙ d)) q)) (shallow_head o t none (shallow_first o (one (list (part t none))) us' s))

pub field_value_unended : {v : Surroundings} {x y a b : Place} {t : Tree} {e : Fault} → Moves (Ends AfterKey) x y → Moves (pun "=") y a → Only so_far v (Part (Expr 1)) a (one t) b → Barred so_far v semi b e → NoRow so_far v field_row x e
field_value_unended m n o b = on (only_sign m) (turn_none (turn_present (sym n.is) o refl (end_found of_so_far (whole_of o.past).reads) (unended m n)) (bar b))

-- ---- where none stands

-- neither `=` nor a semicolon behind the key
pub no_field_row : {v : Surroundings} {x : Place} {o : Fault} → (IsTrue (is_found (forth (pun "=") (forth (Ends AfterKey) x))) → ⊥) → forth Semicolon (forth (Ends AfterKey) x) ≡ Lost → NoRow so_far v field_row x o
no_field_row {v} {x} {o = o} n l = record { no = λ ts z w a. at w a }
  where
    at : {ts : Forest} {z : Place} → Walk (Whole so_far) (steady v) field_row x ts z → Shallow o (deepest ts) → ⊥
    at (next (sign {y = y} e f) (next (absent g h) (next (sign i j) w))) s =
        let bad : IsTrue (is_found Lost) = subst (λ p. IsTrue (is_found p)) (sym i ∙ (ap (forth Semicolon) (sym g ∙ (unless_none y f ∙ sym e)) ∙ l)) j in cc
    at (next (sign e f) (next (present d q g h) w)) s = n (found_at (ap (forth (pun "=")) e ∙ d) (start_found of_so_far q.reads))

-- the same token, whatever a semicolon would stand behind
ends_same : (d : Text) (x : Place) → IsTrue (is_found (forth (Tok Operator Punctuator d) (forth (Ends AfterKey) x))) → IsTrue (is_found (forth (Tok Operator Punctuator d) x))
ends_same d Lost f = f
ends_same d (At q e text) f = f

pub unfielded : {v : Surroundings} {x : Place} {e : Fault} → IsTrue (is_found (forth (pun "(") x)) → NoRow so_far v field_row x e
unfielded {x = x} f = no_field_row (λ g. never_both Punctuator Punctuator (codes "(") (codes "=") x refl f (ends_same (codes "=") x g)) (bracket_on x f)

pub word_unfielded : {v : Surroundings} {x y : Place} {e : Fault} (t : Text) → among t prefix_words ≡ true → Moves (Tok Operator IdentifierName t) x y → BeginsKey y → NoRow so_far v field_row y e
word_unfielded {y = y} t w m k = no_field_row (λ g. key_before (codes "=") refl k (ends_same (codes "=") y g)) (key_on t w m k)

-- ---- places

pub field_bare_placed : {x y y' z : Here} → Takes (Ends AfterKey) x y → y' ≡ y → Takes Semicolon y' z → IsPlacedRow field_symbols (tale (told_list []) no_tales) (part (list none) none) x z
field_bare_placed {y = y} {z = z} k e end = row_sign k (row_absent (row_sign (subst (λ h. Takes Semicolon h z) e end) row_end))

pub field_valued_placed : {d : Told} {t : Tree} {x y a b z : Here} → Takes (Ends AfterKey) x y → Takes (pun "=") y a → IsPlaced d t a b → Takes Semicolon b z → IsPlacedRow field_symbols (tale (told_list (d ∷ [])) no_tales) (part (list (part t none)) none) x z
field_valued_placed k eq l end = row_sign k (row_present eq.same eq.leads l (row_sign end row_end))
