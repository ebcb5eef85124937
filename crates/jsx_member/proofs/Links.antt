-- The links of optional chains: which stands at a place, told by its first tokens, and all links of a chain, as a loop of the parser reads them.
use Rattle.std.proofs.Common.{◌≡◌, ◌≤◌, ℕ, nat_eq, Bool, true, false, List, [], refl, sym, ◌∙◌, ap, subst, cond}
use Rattle.std.specs.Prelude.{IsTrue, codes}
use Rattle.jsx_base.specs.Token.{Text, Operator, Punctuator, IdentifierName, TokenKind, kind_number, same}
use Rattle.std.proofs.lemmas.Bool.{eqb-true, false≢true}
use Rattle.jsx_tree.specs.Signs.{Sign, Tok}
use Rattle.jsx_tree.specs.Kinds.{Chain, NameLink, IndexLink, CallLink, Kind, expression, Tree, leaf, node, list, Forest, none, part}
use Rattle.jsx_tree.specs.Nonterminals.{ChainLink, Name}
use Rattle.jsx_tree.specs.Grammar.{Context, OneOrMore, Part, pun}
use Rattle.jsx_tree.specs.Form.{admits, enough}
use Rattle.jsx_tree.specs.Reading.{Place, Lost, forth}
use Rattle.jsx_tree.specs.StaticRules.{Surroundings, has_plain_params}
use Rattle.jsx_tree.specs.Walk.{is_found, Given, one, Items, nil, last, more, Past, sign, tree, many, Walk, done, next, steady, tail, around}
use Rattle.jsx_tree.specs.Language.{Whole}
use Rattle.jsx_tree.specs.Answers.{Moves, Only, Barred, NoRow, Built}
use Rattle.jsx_tree.proofs.Tokens.{and_left, and_right, and_both, same_is}
use Rattle.jsx_tree.proofs.Apart.{clash, one_token}
use Rattle.jsx_tree.proofs.Rows.Bridge.{found_at}
use Rattle.jsx_tree.proofs.Rows.Bodies.{plain, bodiless}
use Rattle.jsx_tree.proofs.Rows.Guarded.{guarded, to_grammar}
use Rattle.jsx_tree.proofs.Rows.Laws.{end_found}
use Rattle.jsx_tree.proofs.Rows.Placing.{Chosen, barred_node, flat_shallow, free, no_node, only_node}
use Rattle.jsx_tree.proofs.Rows.Steps.{bar, both, both_up, built_sign, on, only_sign}
use Rattle.jsx_tree.proofs.Rows.Stopping.{never_stops}
use Rattle.jsx_tree.proofs.Rows.Turns.{early, item_of, whole_of}
use Rattle.jsx_tree.specs.Spans.{Told}
use Rattle.jsx_tree.specs.Faults.{Fault, Shallow, deepest, given_depth}
use Rattle.jsx_tree.proofs.Depth.Nodes.{counts_as}
use Rattle.jsx_tree.proofs.Depth.Shallow.{shallow_head, shallow_first, shallow_up}
use Rattle.jsx_token.specs.Here.{Here, place_of}
use Rattle.jsx_operand.specs.Spans.{IsPlacedBehind}
use Rattle.jsx_token.specs.Growths.{OnLine, mark, settled}
use Rattle.jsx_token.specs.Marks.{row_so_far}
use Rattle.jsx_operand.specs.SoFar.{Staged, so_far}
use Rattle.jsx_operand.specs.Climbing.{Ended, Grown, NotGrown}
use Rattle.jsx_operand.specs.declared.link.Linking.{Linking}
use Rattle.jsx_operand.specs.declared.link.Linking.TheVariants as linking
use Rattle.jsx_operand.specs.Links.{NoLink, NoneLinked, OnlyLink, link_sign, link_text}
use Rattle.jsx_operand.proofs.OfSoFar.{of_so_far}
use Rattle.jsx_operand.proofs.Homes.{name_there, no_list, NameThere}
use Rattle.jsx_operand.proofs.Values.{led_sign}
use Rattle.jsx_operand.proofs.Climbing.{is_link, link_kind}

-- ---- one link

-- whether it begins with `?.`, and what it is behind that
abbrev begins_optional : Kind → Bool
begins_optional (expression (NameLink q)) = q
begins_optional (expression (IndexLink q)) = q
begins_optional (expression (CallLink q)) = q
begins_optional k = false

data Shape : Type 0 where
  named : Shape
  indexed : Shape
  called : Shape

abbrev shape : Kind → Shape
shape (expression (NameLink q)) = named
shape (expression (IndexLink q)) = indexed
shape k = called

abbrev link_of : Bool → Shape → Kind
link_of q named = expression (NameLink q)
link_of q indexed = expression (IndexLink q)
link_of q called = expression (CallLink q)

is_of : (k : Kind) → is_link k ≡ true → link_of (begins_optional k) (shape k) ≡ k
is_of (expression (NameLink q)) h = refl
is_of (expression (IndexLink q)) h = refl
is_of (expression (CallLink q)) h = refl
is_of _ h = cc

-- its first token
abbrev leading : Bool → Shape → Linking
leading true s = linking.Optional
leading false named = linking.Name
leading false indexed = linking.Index
leading false called = linking.Call

abbrev is_optional_sign : Linking → Bool
is_optional_sign linking.Optional = true
is_optional_sign l = false

abbrev sign_shape : Linking → Shape
sign_shape linking.Name = named
sign_shape linking.Index = indexed
sign_shape l = called

leads_optional : (q : Bool) (s : Shape) → is_optional_sign (leading q s) ≡ q
leads_optional true s = refl
leads_optional false named = refl
leads_optional false indexed = refl
leads_optional false called = refl

leads_shape : (s : Shape) → sign_shape (leading false s) ≡ s
leads_shape named = refl
leads_shape indexed = refl
leads_shape called = refl

-- two of these signs at one place are one
abbrev sign_of_text : Text → Linking
sign_of_text t = cond (same t (codes "?.")) linking.Optional (cond (same t (codes ".")) linking.Name (cond (same t (codes "[")) linking.Index linking.Call))

sign_is : (l : Linking) → sign_of_text (link_text l) ≡ l
sign_is linking.Optional = refl
sign_is linking.Name = refl
sign_is linking.Index = refl
sign_is linking.Call = refl

pub one_linking : (l m : Linking) (x : Place) → IsTrue (is_found (forth (link_sign l) x)) → IsTrue (is_found (forth (link_sign m) x)) → l ≡ m
one_linking l m x f g = sym (sign_is l) ∙ (ap sign_of_text (same_is (link_text l) (link_text m) (one_token Punctuator Punctuator (link_text l) (link_text m) x f g)) ∙ sign_is m)

-- the first token behind `?.`
abbrev second_kind : Shape → TokenKind
second_kind named = IdentifierName
second_kind s = Punctuator

abbrev second_text : Shape → Text → Text
second_text named t = t
second_text indexed t = codes "["
second_text called t = codes "("

abbrev second : Shape → Text → Sign
second s t = Tok Operator (second_kind s) (second_text s t)

abbrev shape_by : ℕ → Text → Shape
shape_by n t = cond (nat_eq n (kind_number IdentifierName)) named (cond (same t (codes "[")) indexed called)

shape_is : (s : Shape) (t : Text) → shape_by (kind_number (second_kind s)) (second_text s t) ≡ s
shape_is named t = refl
shape_is indexed t = refl
shape_is called t = refl

one_second : (s u : Shape) (t r : Text) (x : Place) → IsTrue (is_found (forth (second s t) x)) → IsTrue (is_found (forth (second u r) x)) → s ≡ u
one_second s u t r x f g =
    let e = one_token (second_kind s) (second_kind u) (second_text s t) (second_text u r) x f g in
    let kinds : kind_number (second_kind s) ≡ kind_number (second_kind u) = eqb-true _ _ (and_left (nat_eq (kind_number (second_kind s)) (kind_number (second_kind u))) _ e) in
    let texts : second_text s t ≡ second_text u r = same_is _ _ (and_right (nat_eq (kind_number (second_kind s)) (kind_number (second_kind u))) _ e) in
    sym (shape_is s t) ∙ ((λ i. shape_by (kinds i) (texts i)) ∙ shape_is u r)

-- the first tokens of a link
record Shows (q : Bool) (s : Shape) (x : Place) : Type 0 where
  first : IsTrue (is_found (forth (link_sign (leading q s)) x))
  text : Text
  behind : q ≡ true → IsTrue (is_found (forth (second s text) (forth (link_sign linking.Optional) x)))

-- tell it
one_link : (q p : Bool) (s u : Shape) (x : Place) → Shows q s x → Shows p u x → link_of q s ≡ link_of p u
one_link q p s u x a b =
    let l = one_linking (leading q s) (leading p u) x a.first b.first in
    let e : q ≡ p = sym (leads_optional q s) ∙ (ap is_optional_sign l ∙ leads_optional p u) in
    by q p s u e l a b
  where
    by : (q p : Bool) (s u : Shape) → q ≡ p → leading q s ≡ leading p u → Shows q s x → Shows p u x → link_of q s ≡ link_of p u
    by true true s u e l a b = ap (link_of true) (one_second s u a.text b.text (forth (link_sign linking.Optional) x) (a.behind refl) (b.behind refl))
    by false false s u e l a b = ap (link_of false) (sym (leads_shape s) ∙ (ap sign_shape l ∙ leads_shape u))
    by true false s u e l a b = cc
    by false true s u e l a b = cc

-- what was read as a link has its tokens
row_shows : {V : List Context → Surroundings} {x y : Place} {ts : Forest} (k : Kind) → is_link k ≡ true → Walk Staged V (row_so_far k) x ts y → Shows (begins_optional k) (shape k) x
row_shows (expression (NameLink false)) h w = record { first = led_sign (row_so_far (expression (NameLink false))) refl w; text = []; behind = λ e. absurd (false≢true e) }
row_shows (expression (IndexLink false)) h w = record { first = led_sign (row_so_far (expression (IndexLink false))) refl w; text = []; behind = λ e. absurd (false≢true e) }
row_shows (expression (CallLink false)) h w = record { first = led_sign (row_so_far (expression (CallLink false))) refl w; text = []; behind = λ e. absurd (false≢true e) }
row_shows (expression (NameLink true)) h (next (sign e f) (next (tree {t = u} r) w)) =
    let n = name_there u r in
    record { first = found_at e f; text = n.text; behind = λ o. subst (λ p. IsTrue (is_found (forth (Tok Operator IdentifierName n.text) p))) (sym e) n.found }
row_shows (expression (IndexLink true)) h (next (sign e f) (next (sign g j) w)) = record { first = found_at e f; text = []; behind = λ o. subst (λ p. IsTrue (is_found (forth (pun "[") p))) (sym e) (found_at g j) }
row_shows (expression (CallLink true)) h (next (sign e f) (next (sign g j) w)) = record { first = found_at e f; text = []; behind = λ o. subst (λ p. IsTrue (is_found (forth (pun "(") p))) (sym e) (found_at g j) }
row_shows _ h w = cc

link_shows : {v : Surroundings} {x y : Place} {ts : Forest} (k : Kind) → Staged v false ChainLink x (node k ts) y → Shows (begins_optional k) (shape k) x
link_shows k r = row_shows k (link_kind k r) (of_so_far.from_node k r).walk

-- so it is the only one that may stand there
chosen : {v : Surroundings} {x : Place} (q : Bool) (s : Shape) → Shows q s x → Chosen so_far v ChainLink (link_of q s) x
chosen {x = x} q s a = record {
  no_leaf = λ k t y w. let bad = w.reads.staged in cc;
  kind = λ l ts y w. sym (is_of l (link_kind l w.reads)) ∙ one_link (begins_optional l) q (shape l) s x (link_shows l w.reads) a;
}

link_home : (q : Bool) (s : Shape) (ts : Forest) → admits ChainLink (node (link_of q s) ts) ≡ true
link_home q named ts = refl
link_home q indexed ts = refl
link_home q called ts = refl

link_closed : (q : Bool) (s : Shape) → guarded ChainLink (row_so_far (link_of q s)) ≡ true
link_closed true named = refl
link_closed true indexed = refl
link_closed true called = refl
link_closed false named = refl
link_closed false indexed = refl
link_closed false called = refl

-- a link doesn't count
link_uncounted : (q : Bool) (s : Shape) → counts_as false (link_of q s) ≡ true
link_uncounted true named = refl
link_uncounted true indexed = refl
link_uncounted true called = refl
link_uncounted false named = refl
link_uncounted false indexed = refl
link_uncounted false called = refl

link_free : (q : Bool) (s : Shape) → free (row_so_far (link_of q s)) ≡ true
link_free true named = refl
link_free true indexed = refl
link_free true called = refl
link_free false named = refl
link_free false indexed = refl
link_free false called = refl

link_bare : (q : Bool) (s : Shape) → bodiless (row_so_far (link_of q s)) ≡ true
link_bare true named = refl
link_bare true indexed = refl
link_bare true called = refl
link_bare false named = refl
link_bare false indexed = refl
link_bare false called = refl

link_keeps : (v : Surroundings) (ts : Forest) (q : Bool) (s : Shape) → has_plain_params ts ≡ true → so_far.keeps (link_of q s) v ts ≡ true
link_keeps v ts q named h = and_both _ _ h refl
link_keeps v ts q indexed h = and_both _ _ h refl
link_keeps v ts q called h = and_both _ _ h refl

only_link : {v : Surroundings} {x y : Place} {t : Tree} (q : Bool) (s : Shape) → Shows q s x → Built so_far v (row_so_far (link_of q s)) (link_of q s) (λ ts. ts) t x y → Only so_far v (Part ChainLink) x (one t) y
only_link {y = y} q s a b = only_node of_so_far (chosen q s a) (link_closed q s) (link_free q s) (link_home q s) b (link_keeps _ _ q s (plain (row_so_far (link_of q s)) (link_bare q s) (to_grammar of_so_far b.row.walk))) (of_so_far.ends_there ChainLink y (never_stops ChainLink y refl))

no_link : {v : Surroundings} {x : Place} {e : Fault} (q : Bool) (s : Shape) → Shows q s x → NoRow so_far v (row_so_far (link_of q s)) x e → Barred so_far v (Part ChainLink) x e
no_link q s a n = barred_node false (link_uncounted q s) of_so_far (chosen q s a) (link_closed q s) (link_free q s) (no_node n)

-- ---- behind its first tokens

there : {s : Sign} {x y : Place} → Moves s x y → IsTrue (is_found (forth s x))
there m = found_at (sym m.is) m.found

plain_shows : {x y : Place} (s : Shape) → Moves (link_sign (leading false s)) x y → Shows false s x
plain_shows s m = record { first = there m; text = []; behind = λ e. absurd (false≢true e) }

optional_shows : {x y : Place} (s : Shape) (t : Text) → Moves (link_sign linking.Optional) x y → IsTrue (is_found (forth (second s t) y)) → Shows true s x
optional_shows s t m f = record { first = there m; text = t; behind = λ e. subst (λ p. IsTrue (is_found (forth (second s t) p))) m.is f }

pub plain_name : {v : Surroundings} {b y : Place} {t : Tree} → Built so_far v (tail (row_so_far (expression (NameLink false)))) (expression (NameLink false)) (λ ts. ts) t b y → OnlyLink v (link_sign linking.Name) b t y
plain_name n = record { on = λ a m. only_link false named (plain_shows named m) (built_sign m n) }

pub plain_index : {v : Surroundings} {b y : Place} {t : Tree} → Built so_far v (tail (row_so_far (expression (IndexLink false)))) (expression (IndexLink false)) (λ ts. ts) t b y → OnlyLink v (link_sign linking.Index) b t y
plain_index n = record { on = λ a m. only_link false indexed (plain_shows indexed m) (built_sign m n) }

pub plain_call : {v : Surroundings} {b y : Place} {t : Tree} → Built so_far v (tail (row_so_far (expression (CallLink false)))) (expression (CallLink false)) (λ ts. ts) t b y → OnlyLink v (link_sign linking.Call) b t y
plain_call n = record { on = λ a m. only_link false called (plain_shows called m) (built_sign m n) }

pub no_plain_name : {v : Surroundings} {b : Place} {e : Fault} → Barred so_far v (Part Name) b e → NoneLinked v (link_sign linking.Name) b e
no_plain_name n = record { no = λ a m. no_link false named (plain_shows named m) (on (only_sign m) (bar n)) }

pub no_plain_index : {v : Surroundings} {b : Place} {e : Fault} → NoRow so_far v (tail (row_so_far (expression (IndexLink false)))) b e → NoneLinked v (link_sign linking.Index) b e
no_plain_index n = record { no = λ a m. no_link false indexed (plain_shows indexed m) (on (only_sign m) n) }

pub no_plain_call : {v : Surroundings} {b : Place} {e : Fault} → NoRow so_far v (tail (row_so_far (expression (CallLink false)))) b e → NoneLinked v (link_sign linking.Call) b e
no_plain_call n = record { no = λ a m. no_link false called (plain_shows called m) (on (only_sign m) n) }

-- behind `?.`
row_name : {v : Surroundings} {b y : Place} {ts : Forest} → Walk (Whole so_far) (steady v) (tail (row_so_far (expression (NameLink false)))) b ts y → NameThere b
row_name (next (tree {t = u} q) w) = name_there u q.reads

pub optional_name : {v : Surroundings} {b y : Place} {t : Tree} → Built so_far v (tail (row_so_far (expression (NameLink false)))) (expression (NameLink true)) (λ ts. ts) t b y → OnlyLink v (link_sign linking.Optional) b t y
optional_name n = let f = row_name n.row.walk in record { on = λ a m. only_link true named (optional_shows named f.text m f.found) (built_sign m n) }

pub optional_index : {v : Surroundings} {b c y : Place} {t : Tree} → Moves (pun "[") b c → Built so_far v (tail (row_so_far (expression (IndexLink false)))) (expression (IndexLink true)) (λ ts. ts) t c y → OnlyLink v (link_sign linking.Optional) b t y
optional_index k n = record { on = λ a m. only_link true indexed (optional_shows indexed [] m (there k)) (built_sign m (built_sign k n)) }

pub optional_call : {v : Surroundings} {b c y : Place} {t : Tree} → Moves (pun "(") b c → Built so_far v (tail (row_so_far (expression (CallLink false)))) (expression (CallLink true)) (λ ts. ts) t c y → OnlyLink v (link_sign linking.Optional) b t y
optional_call k n = record { on = λ a m. only_link true called (optional_shows called [] m (there k)) (built_sign m (built_sign k n)) }

pub no_optional_index : {v : Surroundings} {b c : Place} {e : Fault} → Moves (pun "[") b c → NoRow so_far v (tail (row_so_far (expression (IndexLink false)))) c e → NoneLinked v (link_sign linking.Optional) b e
no_optional_index k n = record { no = λ a m. no_link true indexed (optional_shows indexed [] m (there k)) (on (only_sign m) (on (only_sign k) n)) }

pub no_optional_call : {v : Surroundings} {b c : Place} {e : Fault} → Moves (pun "(") b c → NoRow so_far v (tail (row_so_far (expression (CallLink false)))) c e → NoneLinked v (link_sign linking.Optional) b e
no_optional_call k n = record { no = λ a m. no_link true called (optional_shows called [] m (there k)) (on (only_sign m) (on (only_sign k) n)) }

-- none of the three stands there
lost_not : {b y z : Place} (s : Sign) → forth s b ≡ Lost → b ≡ y → forth s y ≡ z → IsTrue (is_found z) → ⊥
lost_not s n e f g = let bad : IsTrue (is_found Lost) = subst (λ p. IsTrue (is_found p)) (sym (ap (forth s) e ∙ f) ∙ n) g in cc

unoptional : {A : Type 0} {a b : Place} (l : Linking) → is_optional_sign l ≡ false → Moves (link_sign linking.Optional) a b → IsTrue (is_found (forth (link_sign l) a)) → A
unoptional {a = a} l n m f = absurd (clash (is_optional_sign l) (ap is_optional_sign (one_linking l linking.Optional a f (there m))) n)

unread : {v : Surroundings} {a b z : Place} {ts us : Forest} {e : Fault} (k : Kind) → is_link k ≡ true → Moves (link_sign linking.Optional) a b → forth (pun "[") b ≡ Lost → forth (pun "(") b ≡ Lost → Barred so_far v (Part Name) b e → Walk Staged (around v us) (row_so_far k) a ts z → Shallow e (deepest ts) → ⊥
unread {v} {e = o} (expression (NameLink true)) h m i c n (next (sign {y = y} e f) (next {ts = ts} (tree {y = y'} {t = u} r) w)) s =
    n.no (one u) y' (tree (record { reads = subst (λ p. Staged v false Name p u y') (sym (m.is ∙ e)) r; ends_there = of_so_far.ends_there Name y' (never_stops Name y' refl) })) (shallow_head o u ts s)
unread (expression (IndexLink true)) h m i c n (next (sign e f) (next (sign g j) w)) s = lost_not (pun "[") i (m.is ∙ e) g j
unread (expression (CallLink true)) h m i c n (next (sign e f) (next (sign g j) w)) s = lost_not (pun "(") c (m.is ∙ e) g j
unread (expression (NameLink false)) h m i c n w s = unoptional linking.Name refl m (led_sign (row_so_far (expression (NameLink false))) refl w)
unread (expression (IndexLink false)) h m i c n w s = unoptional linking.Index refl m (led_sign (row_so_far (expression (IndexLink false))) refl w)
unread (expression (CallLink false)) h m i c n w s = unoptional linking.Call refl m (led_sign (row_so_far (expression (CallLink false))) refl w)
unread _ h m i c n w s = cc

pub no_optional : {v : Surroundings} {b : Place} {e : Fault} → forth (pun "[") b ≡ Lost → forth (pun "(") b ≡ Lost → Barred so_far v (Part Name) b e → NoneLinked v (link_sign linking.Optional) b e
no_optional {v} {b} {e = e} i c n = record { no = λ a m. record { no = at a m } }
  where
    at : (a : Place) → Moves (link_sign linking.Optional) a b → (h : Given) (z : Place) → Past (Whole so_far) v (Part ChainLink) a h z → Shallow e (given_depth h) → ⊥
    at a m h z (tree {t = leaf k t} q) s = let bad = q.reads.staged in cc
    at a m h z (tree {t = list ts} q) s = no_list q.reads
    at a m h z (tree {t = node k ts} q) s = unread {us = ts} k (link_kind k q.reads) m i c n (of_so_far.from_node k q.reads).walk (flat_shallow e of_so_far q.reads s)

-- ---- the links of a chain

-- where a link begins, one comes next
linked_there : {v : Surroundings} {x y : Place} (u : Tree) → Staged v false ChainLink x u y → NoLink x → ⊥
linked_there (leaf k t) r n = let bad = r.staged in cc
linked_there (list ts) r n = no_list r
linked_there (node k ts) r n =
    let f = (link_shows k r).first in
    let bad : IsTrue (is_found Lost) = subst (λ p. IsTrue (is_found p)) (n.none (leading (begins_optional k) (shape k))) f in cc

-- what is left of links of which these are the first
pub record Rest (v : Surroundings) (ls us : Forest) (y z : Place) : Type 0 where
  pub rest : Forest
  pub is : both ls rest ≡ us
  pub items : Items (Whole so_far) v OneOrMore ChainLink y rest z

-- from one place to another the text is these links, and whatever links are read from the first begin with them
pub record Linked (v : Surroundings) (x : Place) (ls : Forest) (y : Place) : Type 0 where
  pub to : (us : Forest) (z : Place) → Items (Whole so_far) v OneOrMore ChainLink y us z → Items (Whole so_far) v OneOrMore ChainLink x (both ls us) z
  pub from : (us : Forest) (z : Place) → Items (Whole so_far) v OneOrMore ChainLink x us z → enough OneOrMore us ≡ true → (settled z ≡ true → NoLink z) → Rest v ls us y z
  pub some : enough OneOrMore ls ≡ true
  pub found : IsTrue (is_found y)
  pub ended : settled y ≡ true

one_more : {v : Surroundings} {x y : Place} {t : Tree} → Only so_far v (Part ChainLink) x (one t) y → (us : Forest) (z : Place) → Items (Whole so_far) v OneOrMore ChainLink y us z → Items (Whole so_far) v OneOrMore ChainLink x (part t us) z
one_more o none z (nil f) = last (whole_of o.past) refl f
one_more {t = t} o (part u us) z all = more (early ChainLink t refl (of_so_far.is_read (whole_of o.past).reads).is) (whole_of o.past) refl all

-- a list that begins with a link begins with this one
one_first : {v : Surroundings} {x y : Place} {t : Tree} → Only so_far v (Part ChainLink) x (one t) y → (us : Forest) (z : Place) → Items (Whole so_far) v OneOrMore ChainLink x us z → enough OneOrMore us ≡ true → Rest v (part t none) us y z
one_first o us z (nil f) n = cc
one_first {v} {y = y} {t} o us z (last {y = y'} {t = u} r e f) n =
    let same = o.alone (one u) y' (tree r) in
    record { rest = none; is = λ i. part (item_of (same.0 i)) none; items = subst (λ p. Items (Whole so_far) v OneOrMore ChainLink y none p) (same.1 ∙ e) (nil (subst (λ p. IsTrue (is_found p)) (sym (same.1 ∙ e)) f)) }
one_first {v} {y = y} {t} o us z (more {y = y'} {z = w} {t = u} {u = u'} {us = us'} m r e all) n =
    let same = o.alone (one u) y' (tree r) in
    record { rest = part u' us'; is = λ i. part (item_of (same.0 i)) (part u' us'); items = subst (λ p. Items (Whole so_far) v OneOrMore ChainLink p (part u' us') z) (sym (same.1 ∙ e)) all }

pub linked_one : {v : Surroundings} {x y : Place} {t : Tree} → Only so_far v (Part ChainLink) x (one t) y → settled y ≡ true → Linked v x (part t none) y
linked_one o s = record { to = λ us z all. one_more o us z all; from = λ us z all n e. one_first o us z all n; some = refl; found = end_found of_so_far (whole_of o.past).reads; ended = s }

-- what comes next is among them
not_last : {v : Surroundings} {y z : Place} (l : Linking) (rest : Forest) → Items (Whole so_far) v OneOrMore ChainLink y rest z → settled y ≡ true → IsTrue (is_found (forth (link_sign l) y)) → (settled z ≡ true → NoLink z) → enough OneOrMore rest ≡ true
not_last l none (nil f) s g e = let bad : IsTrue (is_found Lost) = subst (λ p. IsTrue (is_found p)) ((e s).none l) g in cc
not_last l (part u us) all s g e = refl

both_more : (ls : Forest) (t : Tree) (us : Forest) → both (both ls (part t none)) us ≡ both ls (part t us)
both_more none t us = refl
both_more (part u ls) t us = ap (part u) (both_more ls t us)

some_more : (ls : Forest) (t : Tree) → enough OneOrMore (both ls (part t none)) ≡ true
some_more none t = refl
some_more (part u ls) t = refl

pub linked_more : {v : Surroundings} {x y z : Place} {ls : Forest} {t : Tree} (l : Linking) → Linked v x ls y → IsTrue (is_found (forth (link_sign l) y)) → Only so_far v (Part ChainLink) y (one t) z → settled z ≡ true → Linked v x (both ls (part t none)) z
linked_more {v} {x} {y} {z} {ls} {t} l k g o s = record {
  to = λ us w all. subst (λ vs. Items (Whole so_far) v OneOrMore ChainLink x vs w) (sym (both_more ls t us)) (k.to (part t us) w (one_more o us w all));
  from = λ us w all n e.
      let a = k.from us w all n e in
      let b = one_first o a.rest w a.items (not_last l a.rest a.items k.ended g e) in
      record { rest = b.rest; is = both_more ls t b.rest ∙ (ap (both ls) b.is ∙ a.is); items = b.items };
  some = some_more ls t;
  found = end_found of_so_far (whole_of o.past).reads;
  ended = s;
}

both_none : (ls : Forest) → both ls none ≡ ls
both_none none = refl
both_none (part t ls) = ap (part t) (both_none ls)

-- no other link
none_left : {v : Surroundings} {y z : Place} (ls us rest : Forest) → Items (Whole so_far) v OneOrMore ChainLink y rest z → both ls rest ≡ us → NoLink y → (ls ≡ us) × (y ≡ z)
none_left ls us rest (nil f) i n = (sym (both_none ls) ∙ i, refl)
none_left ls us rest (last {t = u} q e f) i n = absurd (linked_there u q.reads n)
none_left ls us rest (more {t = u} m q e all) i n = absurd (linked_there u q.reads n)

all_read : {v : Surroundings} {y z : Place} {ls us : Forest} → Rest v ls us y z → NoLink y → (ls ≡ us) × (y ≡ z)
all_read {ls = ls} {us} r n = none_left ls us r.rest r.items r.is n

-- all links of a chain, with which it goes on
pub chain_grown : {v : Surroundings} {b y : Place} {t w : Tree} {ls : Forest} → ((a : Place) → Moves (mark (expression Chain)) a b → Linked v a ls y) → NoLink y → w ≡ node (expression Chain) (part t (part (list ls) none)) → Grown v (expression Chain) t b w y
chain_grown {v} {b} {y} {ls = ls} k n e = record {
  parts = part (list ls) none;
  is = e;
  walk = λ a o m. let l = k a m in next (many l.some (subst (λ us. Items (Whole so_far) v OneOrMore ChainLink a us y) (both_none ls) (l.to none y (nil l.found)))) (done l.found);
  alone = λ a o m us z w i. at a m us z w i;
}
  where
    at : (a : Place) → Moves (mark (expression Chain)) a b → (us : Forest) (z : Place) → Walk (Whole so_far) (steady v) (tail (row_so_far (expression Chain))) a us z → Ended (expression Chain) z → (part (list ls) none ≡ us) × (y ≡ z)
    at a m us z (next {g = g} (many {ts = vs} p all) (done f)) i = let s = all_read ((k a m).from vs z all p (i.unlinked refl)) n in (ap (λ us. part (list us) none) s.0, s.1)

-- where the next one can't be read
pub chain_broken : {v : Surroundings} {b y c : Place} {ls : Forest} {d : Fault} (l : Linking) → ((a : Place) → Moves (mark (expression Chain)) a b → Linked v a ls y) → Moves (link_sign l) y c → NoneLinked v (link_sign l) c d → NotGrown v (expression Chain) b d
chain_broken {v} {b} {y} {c} {ls = ls} {d = d} l k m n = record { no = at }
  where
    by : (rest : Forest) (z : Place) → Items (Whole so_far) v OneOrMore ChainLink y rest z → enough OneOrMore rest ≡ true → Shallow d (deepest rest) → ⊥
    by rest z (nil f) p s' = cc
    by rest z (last {y = y'} {t = u} q e f) p s' = (n.no y m).no (one u) y' (tree q) (shallow_head d u none s')
    by rest z (more {y = y'} {t = u} {u = u'} {us = vs'} o q e all) p s' = (n.no y m).no (one u) y' (tree q) (shallow_head d u (part u' vs') s')

    at : (a : Place) → OnLine (expression Chain) a → Moves (mark (expression Chain)) a b → (us : Forest) (z : Place) → Walk (Whole so_far) (steady v) (tail (row_so_far (expression Chain))) a us z → Ended (expression Chain) z → Shallow d (deepest us) → ⊥
    at a o h us z (next (many {ts = vs} p all) (done f)) i s =
        let r = (k a h).from vs z all p (i.unlinked refl) in
        let low : Shallow d (deepest vs) = shallow_first d (one (list vs)) none s in
        by r.rest z r.items (not_last l r.rest r.items (k a h).ended (there m) (i.unlinked refl)) (shallow_up d (deepest r.rest) (deepest vs) (subst (λ ts. deepest r.rest ≤ deepest ts) r.is (both_up ls r.rest)) low)

-- where the first can't
pub chain_unread : {v : Surroundings} {b : Place} {d : Fault} → NoneLinked v (link_sign linking.Optional) b d → NotGrown v (expression Chain) b d
chain_unread {v} {b} {d = d} n = record { no = at }
  where
    by : (a : Place) → Moves (link_sign linking.Optional) a b → (us : Forest) (z : Place) → Items (Whole so_far) v OneOrMore ChainLink a us z → enough OneOrMore us ≡ true → Shallow d (deepest us) → ⊥
    by a m us z (nil f) p h = cc
    by a m us z (last {y = y'} {t = u} q e f) p h = (n.no a m).no (one u) y' (tree q) (shallow_head d u none h)
    by a m us z (more {y = y'} {t = u} {u = u'} {us = vs'} o q e all) p h = (n.no a m).no (one u) y' (tree q) (shallow_head d u (part u' vs') h)

    at : (a : Place) → OnLine (expression Chain) a → Moves (mark (expression Chain)) a b → (us : Forest) (z : Place) → Walk (Whole so_far) (steady v) (tail (row_so_far (expression Chain))) a us z → Ended (expression Chain) z → Shallow d (deepest us) → ⊥
    at a o m us z (next (many {ts = vs} p all) (done f)) i s = by a m vs z all p (shallow_first d (one (list vs)) none s)

-- ---- the same in the code

pub name_from : {v : Surroundings} {x y : Here} {e : Fault} → x ≡ y → Barred so_far v (Part Name) (place_of x) e → Barred so_far v (Part Name) (place_of y) e
name_from {v} {e = e} same n = subst (λ h. Barred so_far v (Part Name) (place_of h) e) same n

pub link_as : {v : Surroundings} {b y : Place} {t : Tree} (l m : Linking) → l ≡ m → OnlyLink v (link_sign m) b t y → OnlyLink v (link_sign l) b t y
link_as {v} {b} {y} {t} l m e o = subst (λ s. OnlyLink v (link_sign s) b t y) (sym e) o

pub no_link_as : {v : Surroundings} {b : Place} {o : Fault} (l m : Linking) → l ≡ m → NoneLinked v (link_sign m) b o → NoneLinked v (link_sign l) b o
no_link_as {v} {b} {o = o} l m e n = subst (λ s. NoneLinked v (link_sign s) b o) (sym e) n

pub link_placed : {x y : Here} {d : Told} {t : Tree} (l m : Linking) → l ≡ m → IsPlacedBehind (link_sign m) x d t y → IsPlacedBehind (link_sign l) x d t y
link_placed {x} {y} {d} {t} l m e p = subst (λ s. IsPlacedBehind (link_sign s) x d t y) (sym e) p
