-- Each node whose parts are good is good.
use Rattle.std.proofs.Common.{◌≡◌, ℕ, suc, arith, List, [], ◌∷◌, ◌++◌, Bool, true, false, cond, not, ◌||◌, ◌&&◌, codes, refl, sym, ap, ◌∙◌, subst, ⊎_elim, inl}
use Rattle.std.specs.Prelude.{nat_eq, nat_le}
use Rattle.std.proofs.lemmas.Bool.{false≢true, and_parts, and_from, not-true, or_left, or_right, or_from, or_cases, and_left, and_right, eqb-true}
use Rattle.jsx_base.specs.Token.{Text, Operator, Punctuator, NoSubstitution, TemplateHead, TemplateMiddle, TemplateTail, among}
use Rattle.jsx_tree.specs.Signs.{Sign, Tok, Semicolon, TrailingComma, Unless, SameLine, Ends, Space, Pad, Line, Indent, Outdent, Unindent, Apart, Begin, Count, One, End}
use Rattle.jsx_tree.specs.Kinds.{Binds, NameLink, IndexLink, CallLink, Kind, program, statement, expression, Module, Script, If, While, For, ForIn, ForOf, Label, Catch, Chain, Tree, leaf, node, list, Forest, none, part}
use Rattle.jsx_tree.specs.Nonterminals.{Nonterminal, Expr, ForInit, ForHead, ForOfHead, NullishLeft, NullishOnly, NewCallee, number, floor, takes, in_list, Pat, DotObject, ChainLink, TemplateOf, TemplatePart, TemplateSpans, Name, ClassMember, SubStmt, BlockOnly, CatchClause, MemberObject, in_homes, homes}
use Rattle.jsx_tree.specs.Grammar.{Fixed, Part, Optional, Many, Within, InLoop, Production, production, fixed, p, sp, OneOrMore}
use Rattle.jsx_tree.specs.Grows.{any_of}
use Rattle.jsx_tree.specs.Layout.{first_token}
use Rattle.jsx_tree.specs.Spelling.{said, each_said, joined, gathered, spelled}
use Rattle.jsx_tree.specs.Form.{Single, Maybe, Several, Position, position, positions, admits}
use Rattle.jsx_tree.specs.StaticRules.{open_if, trails, is_if, last_open, is_optional}
use Rattle.jsx_tree.specs.Fits.{is_plain}
use Rattle.jsx_tree.proofs.ReadBack.Joins.{Token, at_once, Ahead, ahead, at_end, good}
use Rattle.jsx_tree.proofs.ReadBack.RowChecks.{calm, Even, Calm, holds, Outs, is_inner, is_member, is_opened, elsed, dots, is_formed, sound, sounds, rowed, may_else, row_ok, elses, calm_row, outs, its_row, link_ok, is_span, is_dotted, is_elsed, is_program, imply, is_if_kind, is_tail, is_catch, is_sub, is_punct, if_row, is_due, whole_numbers, is_whole, all_whole}
use Rattle.jsx_tree.proofs.ReadBack.NextTokens.{good_append, calm_weaker, Outside}
use Rattle.jsx_tree.proofs.ReadBack.NextInRow.{FrontsOf}
use Rattle.jsx_tree.proofs.ReadBack.Rows.{Before, TreeGood, GoodsOf, home_of, no_rest, good_at, append_signs, row_good}
use Rattle.jsx_tree.proofs.ReadBack.RowTable.{all_rows, all_facts}
use Rattle.jsx_tree.proofs.ReadBack.Trees.{rowed_of, need_even}
use Rattle.jsx_tree.proofs.ReadBack.Basics.{clash, if_false}

-- ---- what a sound node is

pub record SoundNode (c : Nonterminal) (k : Kind) (cs : Forest) : Type 0 where
  pub home : in_homes c (homes k) ≡ true
  pub plain : is_plain k ≡ true
  pub links : link_ok k cs ≡ true
  pub parts : sounds (positions k) cs ≡ true

pub sound_node : (c : Nonterminal) (g : List Text) (k : Kind) (cs : Forest) → sound c g (node k cs) ≡ true → SoundNode c k cs
sound_node c g k cs h =
    let a = and_parts (admits c (node k cs) && not (among (first_token (spelled (node k cs))) g)) ((is_plain k && link_ok k cs) && sounds (positions k) cs) h in
    let b = and_parts (is_plain k && link_ok k cs) (sounds (positions k) cs) a.1 in
    let d = and_parts (is_plain k) (link_ok k cs) b.0 in
    record { home = home_of c g k cs h; plain = d.0; links = d.1; parts = b.1 }

-- ---- what the table says

pub record Facts (k : Kind) : Type 0 where
  pub row : row_ok (outs k false) (its_row k) ≡ true
  pub els_row : is_elsed k ≡ true → row_ok (outs k true) (its_row k) ≡ true
  pub calm_one : (is_if_kind k || calm_row (outs k false) (its_row k)) ≡ true
  pub calm_two : is_elsed k ≡ true → (is_tail k || calm_row (outs k true) (its_row k)) ≡ true
  pub no_head : in_homes (TemplatePart TemplateHead) (homes k) ≡ false
  pub no_middle : in_homes (TemplatePart TemplateMiddle) (homes k) ≡ false
  pub span_true : in_homes (TemplateSpans true) (homes k) ≡ true → is_span k ≡ true
  pub span_false : in_homes (TemplateSpans false) (homes k) ≡ true → is_span k ≡ true
  pub no_name : in_homes Name (homes k) ≡ false
  pub no_whole : in_homes (TemplatePart NoSubstitution) (homes k) ≡ false
  pub no_tail : in_homes (TemplatePart TemplateTail) (homes k) ≡ false
  pub block : in_homes BlockOnly (homes k) ≡ true → trails (production k) ≡ false
  pub catch' : in_homes CatchClause (homes k) ≡ true → is_catch k ≡ true

imp : (a b : Bool) → (not a || b) ≡ true → a ≡ true → b ≡ true
imp true b h e = h
imp false b h e = absurd (false≢true e)

pub facts : (k : Kind) → is_plain k ≡ true → Facts k
facts k p =
    let r = and_parts (row_ok (outs k false) (its_row k)) (not (is_elsed k) || row_ok (outs k true) (its_row k)) (all_rows k p) in
    let x1 = is_if_kind k || calm_row (outs k false) (its_row k) in
    let x2 = imply (is_elsed k) (is_tail k || calm_row (outs k true) (its_row k)) in
    let x3 = not (in_homes (TemplatePart TemplateHead) (homes k)) in
    let x4 = not (in_homes (TemplatePart TemplateMiddle) (homes k)) in
    let x5 = imply (in_homes (TemplateSpans true) (homes k)) (is_span k) in
    let x6 = imply (in_homes (TemplateSpans false) (homes k)) (is_span k) in
    let x7 = not (in_homes Name (homes k)) in
    let x8 = not (in_homes (TemplatePart NoSubstitution) (homes k)) in
    let x9 = not (in_homes (TemplatePart TemplateTail) (homes k)) in
    let y1 = imply (in_homes BlockOnly (homes k)) (not (trails (production k))) in
    let y2 = imply (in_homes CatchClause (homes k)) (is_catch k) in
    let a = and_parts (x1 && x2) (((x3 && x4) && (x5 && x6)) && ((x7 && (x8 && x9)) && (y1 && y2))) (all_facts k p) in
    let b = and_parts x1 x2 a.0 in
    let d = and_parts ((x3 && x4) && (x5 && x6)) ((x7 && (x8 && x9)) && (y1 && y2)) a.1 in
    let e = and_parts (x3 && x4) (x5 && x6) d.0 in
    let f = and_parts x3 x4 e.0 in
    let g = and_parts x5 x6 e.1 in
    let h = and_parts (x7 && (x8 && x9)) (y1 && y2) d.1 in
    let i = and_parts x7 (x8 && x9) h.0 in
    let j = and_parts x8 x9 i.1 in
    let l = and_parts y1 y2 h.1 in
    record {
      row = r.0;
      els_row = imp (is_elsed k) _ r.1;
      calm_one = b.0;
      calm_two = imp (is_elsed k) _ b.1;
      no_head = not-true _ f.0;
      no_middle = not-true _ f.1;
      span_true = imp _ _ g.0;
      span_false = imp _ _ g.1;
      no_name = not-true _ i.0;
      no_whole = not-true _ j.0;
      no_tail = not-true _ j.1;
      block = λ z. not-true _ (imp _ _ l.0 z);
      catch' = imp _ _ l.1;
    }

opened_span : (c : Nonterminal) (k : Kind) → Facts k → in_homes c (homes k) ≡ true → is_opened c ≡ true → is_span k ≡ true
opened_span (TemplatePart TemplateHead) k f h o = clash _ h f.no_head
opened_span (TemplatePart TemplateMiddle) k f h o = clash _ h f.no_middle
opened_span (TemplateSpans true) k f h o = f.span_true h
opened_span (TemplateSpans false) k f h o = f.span_false h
opened_span _ k f h o = absurd (false≢true o)

dotted_kind : (c : Nonterminal) (k : Kind) → Facts k → in_homes c (homes k) ≡ true → dots c ≡ true → is_dotted k ≡ true
dotted_kind DotObject k f h o = or_left (in_homes DotObject (homes k)) _ h
dotted_kind ChainLink k f h o = or_right (in_homes DotObject (homes k)) _ (or_left (in_homes ChainLink (homes k)) _ h)
dotted_kind TemplateOf k f h o = or_right (in_homes DotObject (homes k)) _ (or_right (in_homes ChainLink (homes k)) _ h)
dotted_kind Name k f h o = clash _ h f.no_name
dotted_kind (TemplatePart NoSubstitution) k f h o = clash _ h f.no_whole
dotted_kind (TemplatePart TemplateTail) k f h o = clash _ h f.no_tail
dotted_kind _ k f h o = absurd (false≢true o)

member_kind : (c : Nonterminal) (k : Kind) → in_homes c (homes k) ≡ true → is_member c ≡ true → is_elsed k ≡ true
member_kind ClassMember k h o = or_right (in_homes SubStmt (homes k)) _ (or_right (in_homes BlockOnly (homes k)) _ (or_right (in_homes CatchClause (homes k)) _ h))
member_kind _ k h o = absurd (false≢true o)

elsed_kind : (c : Nonterminal) (k : Kind) → in_homes c (homes k) ≡ true → elsed c ≡ true → is_elsed k ≡ true
elsed_kind SubStmt k h o = or_left (in_homes SubStmt (homes k)) _ h
elsed_kind BlockOnly k h o = or_right (in_homes SubStmt (homes k)) _ (or_left (in_homes BlockOnly (homes k)) _ h)
elsed_kind CatchClause k h o = or_right (in_homes SubStmt (homes k)) _ (or_right (in_homes BlockOnly (homes k)) _ (or_left (in_homes CatchClause (homes k)) _ h))
elsed_kind _ k h o = absurd (false≢true o)

not_program : (c : Nonterminal) (k : Kind) → in_homes c (homes k) ≡ true → is_inner c ≡ true → is_program k ≡ true → ⊥
not_program c (program Module) h i p = clash _ h (not-true _ ((and_parts (not (in_homes c (homes (program Module)))) (not (in_homes c (homes (program Script)))) i).0))
not_program c (program Script) h i p = clash _ h (not-true _ ((and_parts (not (in_homes c (homes (program Module)))) (not (in_homes c (homes (program Script)))) i).1))
not_program c _ h i p = false≢true p

-- ---- no `else` behind an open `if`

block_closed : (g : List Text) (t : Tree) → sound BlockOnly g t ≡ true → is_formed Single t ≡ true → open_if t ≡ false
block_closed g (leaf s x) h i = refl
block_closed g (node k cs) h i =
    let n : SoundNode BlockOnly k cs = sound_node BlockOnly g k cs h in
    let f : Facts k = facts k n.plain in
    and_left (trails (production k)) (last_open (is_if k) cs) (f.block n.home)
block_closed g (list us) h i = absurd (false≢true i)

-- how many parts there are
count : Forest → ℕ
count none = 0
count (part t ts) = suc (count ts)

size : List Position → ℕ
size [] = 0
size (s ∷ ss) = suc (size ss)

counted : (ss : List Position) (cs : Forest) → sounds ss cs ≡ true → count cs ≡ size ss
unfolding count size
counted [] none h = refl
counted [] (part t ts) h = absurd (false≢true h)
counted (s ∷ ss) none h = absurd (false≢true h)
counted (position f c g b a ∷ ss) (part t ts) h =
    let p = and_parts (is_formed f t) (sound c g t && sounds ss ts) h in
    let q = and_parts (sound c g t) (sounds ss ts) p.1 in
    ap suc (counted ss ts q.1)

catch_open : (cs : Forest) → sounds (positions (statement Catch)) cs ≡ true → open_if (node (statement Catch) cs) ≡ false
unfolding count size
catch_open none h = absurd (false≢true h)
catch_open (part p none) h = let n = counted (positions (statement Catch)) (part p none) h in absurd (omega arith)
catch_open (part p (part b none)) h =
    let q = and_parts (is_formed Maybe p) _ h in
    let r = and_parts (sound (Pat Binds) [] p) _ q.1 in
    let s = and_parts (is_formed Single b) (sound BlockOnly [] b && true) r.1 in
    block_closed [] b ((and_parts (sound BlockOnly [] b) true s.1).0) s.0
catch_open (part p (part b (part u us))) h = let n = counted (positions (statement Catch)) (part p (part b (part u us))) h in absurd (omega arith)

catch_kind : (k : Kind) (cs : Forest) → is_catch k ≡ true → sounds (positions k) cs ≡ true → open_if (node k cs) ≡ false
catch_kind (statement Catch) cs h s = catch_open cs s
catch_kind _ cs h s = absurd (false≢true h)

catch_closed : (g : List Text) (t : Tree) → sound CatchClause g t ≡ true → is_formed Single t ≡ true → open_if t ≡ false
catch_closed g (leaf s x) h i = refl
catch_closed g (node k cs) h i =
    let n : SoundNode CatchClause k cs = sound_node CatchClause g k cs h in
    let f : Facts k = facts k n.plain in
    catch_kind k cs (f.catch' n.home) n.parts
catch_closed g (list us) h i = absurd (false≢true i)

-- at a place of a whole statement no tree ends with an open `if`
place_closed : (c : Nonterminal) (g : List Text) (t : Tree) (x : Bool) → is_formed Single t ≡ true → sound c g t ≡ true → not (x && is_sub c) ≡ true → (not (x && elsed c) || not (open_if t)) ≡ true
place_closed SubStmt g t true i h n = absurd (false≢true n)
place_closed SubStmt g t false i h n = refl
place_closed BlockOnly g t x i h n = or_right (not (x && true)) (not (open_if t)) (ap not (block_closed g t h i))
place_closed CatchClause g t x i h n = or_right (not (x && true)) (not (open_if t)) (ap not (catch_closed g t h i))
place_closed _ g t x i h n = or_left (not (x && false)) (not (open_if t)) (ap not (and_right x false refl))

elses_calm : (o : Outs) (ps : Production) (cs : Forest) (g : List Text) → rowed g ps cs ≡ true → calm_row o ps ≡ true → elses o ps cs ≡ true
elses_calm o [] cs g r h = refl
elses_calm o (Fixed (Unless ts) ∷ ps) cs g r h = elses_calm o ps cs ts r h
elses_calm o (Fixed (Tok m k t) ∷ ps) cs g r h = elses_calm o ps cs (cond (is_punct k) [] g) r h
elses_calm o (Fixed Semicolon ∷ ps) cs g r h = elses_calm o ps cs g r h
elses_calm o (Fixed TrailingComma ∷ ps) cs g r h = elses_calm o ps cs g r h
elses_calm o (Fixed SameLine ∷ ps) cs g r h = elses_calm o ps cs g r h
elses_calm o (Fixed (Ends e) ∷ ps) cs g r h = elses_calm o ps cs g r h
elses_calm o (Fixed Space ∷ ps) cs g r h = elses_calm o ps cs g r h
elses_calm o (Fixed Pad ∷ ps) cs g r h = elses_calm o ps cs g r h
elses_calm o (Fixed Line ∷ ps) cs g r h = elses_calm o ps cs g r h
elses_calm o (Fixed Indent ∷ ps) cs g r h = elses_calm o ps cs g r h
elses_calm o (Fixed Outdent ∷ ps) cs g r h = elses_calm o ps cs g r h
elses_calm o (Fixed Unindent ∷ ps) cs g r h = elses_calm o ps cs g r h
elses_calm o (Fixed Apart ∷ ps) cs g r h = elses_calm o ps cs g r h
elses_calm o (Fixed Begin ∷ ps) cs g r h = elses_calm o ps cs g r h
elses_calm o (Fixed Count ∷ ps) cs g r h = elses_calm o ps cs g r h
elses_calm o (Fixed One ∷ ps) cs g r h = elses_calm o ps cs g r h
elses_calm o (Fixed End ∷ ps) cs g r h = elses_calm o ps cs g r h
elses_calm o (Within a ∷ ps) cs g r h = elses_calm o ps cs g r h
elses_calm o (Part c ∷ ps) none g r h = refl
elses_calm o (Part c ∷ ps) (part t ts) g r h =
    let a = and_parts (not (may_else o ps && is_sub c)) (calm_row o ps) h in
    let p = and_parts (is_formed Single t) (sound c g t && rowed [] ps ts) r in
    let q = and_parts (sound c g t) (rowed [] ps ts) p.1 in
    and_from (not (may_else o ps && elsed c) || not (open_if t)) (elses o ps ts) (place_closed c g t (may_else o ps) p.0 q.0 a.0) (elses_calm o ps ts [] q.1 a.1)
elses_calm o (Optional x c y s ∷ ps) none g r h = refl
elses_calm o (Optional x c y s ∷ ps) (part (leaf k u) ts) g r h = refl
elses_calm o (Optional x c y s ∷ ps) (part (node k cs) ts) g r h = refl
elses_calm o (Optional x c y s ∷ ps) (part (list none) ts) g r h =
    let a = and_parts (not (may_else o (fixed y ++ ps) && is_sub c) && not (is_due o s)) (calm_row o ps) h in
    let b = and_parts (not (may_else o (fixed y ++ ps) && is_sub c)) (not (is_due o s)) a.0 in
    and_from (not (is_due o s)) (elses o ps ts) b.1 (elses_calm o ps ts [] r a.1)
elses_calm o (Optional x c y s ∷ ps) (part (list (part t none)) ts) g r h =
    let a = and_parts (not (may_else o (fixed y ++ ps) && is_sub c) && not (is_due o s)) (calm_row o ps) h in
    let b = and_parts (not (may_else o (fixed y ++ ps) && is_sub c)) (not (is_due o s)) a.0 in
    let p = and_parts (is_formed Single t && (sound c [] t && true)) (rowed [] ps ts) r in
    let q = and_parts (is_formed Single t) (sound c [] t && true) p.0 in
    and_from (not (may_else o (fixed y ++ ps) && elsed c) || not (open_if t)) (elses o ps ts) (place_closed c [] t (may_else o (fixed y ++ ps)) q.0 ((and_parts (sound c [] t) true q.1).0) b.0) (elses_calm o ps ts [] p.1 a.1)
elses_calm o (Optional x c y s ∷ ps) (part (list (part t (part u us))) ts) g r h = absurd (false≢true r)
elses_calm o (Many s c ∷ ps) none g r h = refl
elses_calm o (Many s c ∷ ps) (part t ts) g r h =
    let p = and_parts (is_formed (Several s) t) (sound c [] t && rowed [] ps ts) r in
    elses_calm o ps ts [] ((and_parts (sound c [] t) (rowed [] ps ts) p.1).1) h

-- ---- the statements that end with a statement

opt_elses : (o : Outs) (x : List Sign) (c : Nonterminal) (y : List Sign) (ps : Production) (t : Tree) (ts : Forest) → elsed c ≡ false → elses o ps ts ≡ true → elses o (Optional x c y [] ∷ ps) (part t ts) ≡ true
opt_elses o x c y ps (leaf s u) ts n h = refl
opt_elses o x c y ps (node k cs) ts n h = refl
opt_elses o x c y ps (list none) ts n h = h
opt_elses o x c y ps (list (part t us)) ts n h =
    and_from (not (may_else o (fixed y ++ ps) && elsed c) || not (open_if t)) (elses o ps ts) (or_left (not (may_else o (fixed y ++ ps) && elsed c)) (not (open_if t)) (ap not (and_right (may_else o (fixed y ++ ps)) (elsed c) n))) h

tail_elses : (k : Kind) (cs : Forest) → is_tail k ≡ true → is_if_kind k ≡ false → sounds (positions k) cs ≡ true → open_if (node k cs) ≡ false → elses (outs k true) (its_row k) cs ≡ true
unfolding count size
tail_elses (statement While) none h i s n = refl
tail_elses (statement While) (part e none) h i s n = refl
tail_elses (statement While) (part e (part t none)) h i s n = ap (λ b. not b && true) n
tail_elses (statement While) (part e (part t (part u us))) h i s n = let m = counted (positions (statement While)) (part e (part t (part u us))) s in absurd (omega arith)
tail_elses (statement Label) none h i s n = refl
tail_elses (statement Label) (part e none) h i s n = refl
tail_elses (statement Label) (part e (part t none)) h i s n = ap (λ b. not b && true) n
tail_elses (statement Label) (part e (part t (part u us))) h i s n = let m = counted (positions (statement Label)) (part e (part t (part u us))) s in absurd (omega arith)
tail_elses (statement ForIn) none h i s n = refl
tail_elses (statement ForIn) (part e none) h i s n = refl
tail_elses (statement ForIn) (part e (part f none)) h i s n = refl
tail_elses (statement ForIn) (part e (part f (part t none))) h i s n = ap (λ b. not b && true) n
tail_elses (statement ForIn) (part e (part f (part t (part u us)))) h i s n = let m = counted (positions (statement ForIn)) (part e (part f (part t (part u us)))) s in absurd (omega arith)
tail_elses (statement ForOf) none h i s n = refl
tail_elses (statement ForOf) (part e none) h i s n = refl
tail_elses (statement ForOf) (part e (part f none)) h i s n = refl
tail_elses (statement ForOf) (part e (part f (part t none))) h i s n = ap (λ b. not b && true) n
tail_elses (statement ForOf) (part e (part f (part t (part u us)))) h i s n = let m = counted (positions (statement ForOf)) (part e (part f (part t (part u us)))) s in absurd (omega arith)
tail_elses (statement For) none h i s n = refl
tail_elses (statement For) (part a none) h i s n = let m = counted (positions (statement For)) (part a none) s in absurd (omega arith)
tail_elses (statement For) (part a (part b none)) h i s n = let m = counted (positions (statement For)) (part a (part b none)) s in absurd (omega arith)
tail_elses (statement For) (part a (part b (part c none))) h i s n = let m = counted (positions (statement For)) (part a (part b (part c none))) s in absurd (omega arith)
tail_elses (statement For) (part a (part b (part c (part t none)))) h i s n =
    let o : Outs = outs (statement For) true in
    let r4 : Production = p ")" ∷ sp ∷ Within InLoop ∷ Part SubStmt ∷ [] in
    let r3 : Production = p ";" ∷ Optional (Space ∷ []) (Expr 0) [] [] ∷ r4 in
    let r2 : Production = p ";" ∷ Optional (Space ∷ []) (Expr 0) [] [] ∷ r3 in
    opt_elses o [] ForInit [] r2 a (part b (part c (part t none))) refl (opt_elses o (Space ∷ []) (Expr 0) [] r3 b (part c (part t none)) refl (opt_elses o (Space ∷ []) (Expr 0) [] r4 c (part t none) refl (ap (λ z. not z && true) n)))
tail_elses (statement For) (part a (part b (part c (part t (part u us))))) h i s n = let m = counted (positions (statement For)) (part a (part b (part c (part t (part u us))))) s in absurd (omega arith)
tail_elses (statement If) cs h i s n = absurd (false≢true (sym i))
tail_elses _ cs h i s n = absurd (false≢true h)

-- ---- what comes behind a node

-- whether an `else` may come behind the node
abbrev behind_else : Nonterminal → Bool → Bool
behind_else c e = cond (is_opened c) false (is_member c || e)

whole_list : (c : Nonterminal) (ds : List Nonterminal) → all_whole ds ≡ true → in_list c ds ≡ true → is_whole c ≡ true
whole_list c [] a h = absurd (false≢true h)
whole_list c (d ∷ ds) a h =
    let w = and_parts (is_whole d) (all_whole ds) a in
    ⊎_elim (λ (e : takes c d ≡ true). subst (λ n. any_of n whole_numbers ≡ true) (sym (eqb-true (number c) (number d) ((and_parts (nat_eq (number c) (number d)) (nat_le (floor c) (floor d)) e).0))) w.0) (λ (e : in_list c ds ≡ true). whole_list c ds w.1 e) (or_cases (takes c d) (in_list c ds) h)

whole_home : (c : Nonterminal) (ds : List Nonterminal) → all_whole ds ≡ true → in_homes c ds ≡ true → is_whole c ≡ true
whole_home NullishLeft ds a h = ⊎_elim (λ (e : in_list (Expr 6) ds ≡ true). absurd (false≢true (whole_list (Expr 6) ds a e))) (λ (e : in_list NullishOnly ds ≡ true). absurd (false≢true (whole_list NullishOnly ds a e))) (or_cases (in_list (Expr 6) ds) (in_list NullishOnly ds) h)
whole_home NewCallee ds a h = absurd (false≢true (whole_list (Expr 17) ds a h))
whole_home DotObject ds a h = absurd (false≢true (whole_list MemberObject ds a h))
whole_home ForOfHead ds a h = absurd (false≢true (whole_list ForHead ds a h))
whole_home (Expr n) ds a h = whole_list (Expr n) ds a h
whole_home c ds a h = whole_list c ds a h

outside_of : (c : Nonterminal) (k : Kind) (cs : Forest) (e : Bool) (v : Ahead) → Facts k → in_homes c (homes k) ≡ true → Before c e (node k cs) v → Outside (outs k (behind_else c e)) v
outside_of c k cs e v f h b = record {
  calm_out = λ n. go (is_opened c) refl n;
  comma_out = b.comma;
  part_out = λ q. b.part (whole_home c (homes k) q h);
  even_out = need_even c e v b.needs;
  end_out = λ q. ⊎_elim (λ (i : is_inner c ≡ true). absurd (not_program c k h i q)) (λ (i : v ≡ at_end). i) b.ends;
}
  where
    go : (x : Bool) → is_opened c ≡ x → not (is_span k) ≡ true → calm (is_dotted k) (cond (is_opened c) false (is_member c || e)) v ≡ true
    go true q n = clash _ (opened_span c k f h q) (not-true _ n)
    go false q n =
        let m : calm (dots c) (is_member c || e) v ≡ true = subst (λ z. holds (cond z Even (Calm (dots c) (is_member c || e))) v ≡ true) q b.needs in
        subst (λ z. calm (is_dotted k) z v ≡ true) (sym (if_false (is_opened c) false (is_member c || e) q)) (calm_weaker (dots c) (is_member c || e) (is_dotted k) (is_member c || e) v (dot (dots c) refl) (same (is_member c || e)) m)
      where
        dot : (z : Bool) → dots c ≡ z → (not z || is_dotted k) ≡ true
        dot true w = dotted_kind c k f h w
        dot false w = refl

        same : (z : Bool) → (not z || z) ≡ true
        same true = refl
        same false = refl

-- where an `else` may come, the kind is one of those, and doesn't end with an open `if`
record MayElse (c : Nonterminal) (k : Kind) (cs : Forest) : Type 0 where
  pub kind : is_elsed k ≡ true
  pub closed : is_tail k ≡ true → open_if (node k cs) ≡ false

member_tail : (c : Nonterminal) (k : Kind) → is_tail k ≡ true → is_member c ≡ true → in_homes c (homes k) ≡ true → ⊥
member_tail ClassMember (statement If) t m h = false≢true h
member_tail ClassMember (statement While) t m h = false≢true h
member_tail ClassMember (statement For) t m h = false≢true h
member_tail ClassMember (statement ForIn) t m h = false≢true h
member_tail ClassMember (statement ForOf) t m h = false≢true h
member_tail ClassMember (statement Label) t m h = false≢true h
member_tail ClassMember _ t m h = false≢true t
member_tail _ k t m h = false≢true m

may_else_of : (c : Nonterminal) (k : Kind) (cs : Forest) (e : Bool) (v : Ahead) → in_homes c (homes k) ≡ true → Before c e (node k cs) v → behind_else c e ≡ true → MayElse c k cs
may_else_of c k cs e v h b q = opened (is_opened c) refl q
  where
    by_else : (x : Bool) → elsed c ≡ x → e ≡ true → is_member c ≡ false → is_opened c ≡ false → MayElse c k cs
    by_else true w z m o = record { kind = elsed_kind c k h w; closed = λ _. b.no_open z w }
    by_else false w z m o = clash _ (b.els z) (or_from (elsed c) (is_member c || is_opened c) w (or_from (is_member c) (is_opened c) m o))

    member : (x : Bool) → is_member c ≡ x → is_opened c ≡ false → (x || e) ≡ true → MayElse c k cs
    member true w o z = record { kind = member_kind c k h w; closed = λ t. absurd (member_tail c k t w h) }
    member false w o z = by_else (elsed c) refl z w o

    opened : (x : Bool) → is_opened c ≡ x → cond x false (is_member c || e) ≡ true → MayElse c k cs
    opened true w z = absurd (false≢true z)
    opened false w z = member (is_member c) refl w z

-- ---- nodes

-- a kind whose row is its production, and is no `if`
usual : (k : Kind) → Bool
usual (expression Chain) = false
usual (statement If) = false
usual k = true

row_usual : (k : Kind) → usual k ≡ true → its_row k ≡ production k
unfolding usual
row_usual (expression Chain) h = absurd (false≢true h)
row_usual _ h = refl

no_if : (k : Kind) → usual k ≡ true → is_if_kind k ≡ false
unfolding usual
no_if (statement If) h = absurd (false≢true h)
no_if _ h = refl

usual_elses : (c : Nonterminal) (k : Kind) (cs : Forest) (x : Bool) → usual k ≡ true → Facts k → sounds (positions k) cs ≡ true → rowed [] (its_row k) cs ≡ true → (x ≡ true → MayElse c k cs) → elses (outs k x) (its_row k) cs ≡ true
usual_elses c k cs false u f s r m = elses_calm (outs k false) (its_row k) cs [] r (or_with (is_if_kind k) (no_if k u) f.calm_one)
  where
    or_with : (a : Bool) {b : Bool} → a ≡ false → (a || b) ≡ true → b ≡ true
    or_with true e h = absurd (false≢true (sym e))
    or_with false e h = h
usual_elses c k cs true u f s r m = go (is_tail k) refl (f.calm_two (m refl).kind)
  where
    go : (t : Bool) → is_tail k ≡ t → (t || calm_row (outs k true) (its_row k)) ≡ true → elses (outs k true) (its_row k) cs ≡ true
    go true e h = tail_elses k cs e (no_if k u) s ((m refl).closed e)
    go false e h = elses_calm (outs k true) (its_row k) cs [] r h

row_of : (k : Kind) (x : Bool) → Facts k → (x ≡ true → is_elsed k ≡ true) → row_ok (outs k x) (its_row k) ≡ true
row_of k false f m = f.row
row_of k true f m = f.els_row (m refl)

usual_good : (k : Kind) (cs : Forest) → usual k ≡ true → FrontsOf cs → GoodsOf cs → TreeGood (node k cs)
usual_good k cs u fs gs c g e v h b =
    let n : SoundNode c k cs = sound_node c g k cs h in
    let f : Facts k = facts k n.plain in
    let x : Bool = behind_else c e in
    let same = row_usual k u in
    let r : rowed [] (production k) cs ≡ true = rowed_of (production k) [] false [] cs n.parts in
    let q : rowed [] (its_row k) cs ≡ true = subst (λ y. rowed [] y cs ≡ true) (sym same) r in
    let m : x ≡ true → MayElse c k cs = may_else_of c k cs e v n.home b in
    let l : elses (outs k x) (its_row k) cs ≡ true = usual_elses c k cs x u f n.parts q m in
    let o : row_ok (outs k x) (its_row k) ≡ true = row_of k x f (λ z. (m z).kind) in
    row_good (outs k x) v (outside_of c k cs e v f n.home b) (production k) cs [] r fs gs (subst (λ y. elses (outs k x) y cs ≡ true) same l) (subst (λ y. row_ok (outs k x) y ≡ true) same o)

-- ---- an `if`

-- with its `else`, and without
if_elses : (e s t : Tree) (x : Bool) → not (open_if s) ≡ true → (x ≡ true → open_if t ≡ false) → elses (outs (statement If) x) (production (statement If)) (part e (part s (part (list (part t none)) none))) ≡ true
if_elses e s t false h n = ap (λ b. b && true) h
if_elses e s t true h n = ap (λ b. b && (not (open_if t) && true)) h ∙ ap (λ b. not b && true) (n refl)

if_good : (cs : Forest) → FrontsOf cs → GoodsOf cs → TreeGood (node (statement If) cs)
unfolding count size
if_good none fs gs c g e v h b = absurd (false≢true ((sound_node c g (statement If) none h).parts))
if_good (part a none) fs gs c g e v h b = let m = counted (positions (statement If)) (part a none) ((sound_node c g (statement If) (part a none) h).parts) in absurd (omega arith)
if_good (part a (part s none)) fs gs c g e v h b = let m = counted (positions (statement If)) (part a (part s none)) ((sound_node c g (statement If) (part a (part s none)) h).parts) in absurd (omega arith)
if_good (part a (part s (part (list none) none))) fs gs c g e v h b =
    let cs : Forest = part a (part s (part (list none) none)) in
    let n : SoundNode c (statement If) cs = sound_node c g (statement If) cs h in
    let f : Facts (statement If) = facts (statement If) n.plain in
    go (behind_else c e) refl n f (outside_of c (statement If) cs e v f n.home b) (may_else_of c (statement If) cs e v n.home b) (rowed_of (production (statement If)) [] false [] cs n.parts)
  where
    go : (x : Bool) → behind_else c e ≡ x → SoundNode c (statement If) (part a (part s (part (list none) none))) → Facts (statement If) → Outside (outs (statement If) (behind_else c e)) v → (behind_else c e ≡ true → MayElse c (statement If) (part a (part s (part (list none) none)))) → rowed [] (production (statement If)) (part a (part s (part (list none) none))) ≡ true → good (joined (said (node (statement If) (part a (part s (part (list none) none)))))) v ≡ true
    go true q n f w m r = absurd (false≢true (sym ((m q).closed refl)))
    go false q n f w m r = row_good (outs (statement If) false) v (subst (λ z. Outside (outs (statement If) z) v) q w) if_row (part a (part s none)) [] r (fs.0, (fs.1.0, tt)) (gs.0, (gs.1.0, tt)) refl refl
if_good (part a (part s (part (list (part t none)) none))) fs gs c g e v h b =
    let cs : Forest = part a (part s (part (list (part t none)) none)) in
    let n : SoundNode c (statement If) cs = sound_node c g (statement If) cs h in
    let f : Facts (statement If) = facts (statement If) n.plain in
    let x : Bool = behind_else c e in
    let m : x ≡ true → MayElse c (statement If) cs = may_else_of c (statement If) cs e v n.home b in
    row_good (outs (statement If) x) v (outside_of c (statement If) cs e v f n.home b) (production (statement If)) cs [] (rowed_of (production (statement If)) [] false [] cs n.parts) fs gs (if_elses a s t x n.links (λ z. (m z).closed refl)) (row_of (statement If) x f (λ z. refl))
if_good (part a (part s (part (list (part t (part u us))) none))) fs gs c g e v h b =
    let p = and_parts (is_formed Single a) _ ((sound_node c g (statement If) (part a (part s (part (list (part t (part u us))) none))) h).parts) in
    let q = and_parts (sound (Expr 0) [] a) _ p.1 in
    let r = and_parts (is_formed Single s) _ q.1 in
    let z = and_parts (sound SubStmt [] s) _ r.1 in
    absurd (false≢true z.1)
if_good (part a (part s (part (leaf k x) none))) fs gs c g e v h b =
    let p = and_parts (is_formed Single a) _ ((sound_node c g (statement If) (part a (part s (part (leaf k x) none))) h).parts) in
    let q = and_parts (sound (Expr 0) [] a) _ p.1 in
    let r = and_parts (is_formed Single s) _ q.1 in
    let z = and_parts (sound SubStmt [] s) _ r.1 in
    absurd (false≢true z.1)
if_good (part a (part s (part (node k x) none))) fs gs c g e v h b =
    let p = and_parts (is_formed Single a) _ ((sound_node c g (statement If) (part a (part s (part (node k x) none))) h).parts) in
    let q = and_parts (sound (Expr 0) [] a) _ p.1 in
    let r = and_parts (is_formed Single s) _ q.1 in
    let z = and_parts (sound SubStmt [] s) _ r.1 in
    absurd (false≢true z.1)
if_good (part a (part s (part o (part u us)))) fs gs c g e v h b =
    let m = counted (positions (statement If)) (part a (part s (part o (part u us)))) ((sound_node c g (statement If) (part a (part s (part o (part u us)))) h).parts) in absurd (omega arith)

-- ---- a chain

optional_first : (l : Tree) (k : List Sign) (v : Ahead) → is_optional l ≡ true → ahead (joined (said l) ++ k) v ≡ at_once (Token Operator Punctuator (codes "?."))
optional_first (node (expression (NameLink true)) cs) k v h = refl
optional_first (node (expression (IndexLink true)) cs) k v h = refl
optional_first (node (expression (CallLink true)) cs) k v h = refl
optional_first (node (expression (NameLink false)) cs) k v h = absurd (false≢true h)
optional_first (node (expression (IndexLink false)) cs) k v h = absurd (false≢true h)
optional_first (node (expression (CallLink false)) cs) k v h = absurd (false≢true h)
optional_first _ k v h = absurd (false≢true h)

links_first : (l : Tree) (ls : Forest) (k : List Sign) (v : Ahead) → is_optional l ≡ true → ahead (gathered OneOrMore (joined (said l) ∷ each_said ls) ++ k) v ≡ at_once (Token Operator Punctuator (codes "?."))
links_first l none k v h = ap (λ z. ahead z v) (append_signs (joined (said l)) [] k) ∙ optional_first l k v h
links_first l (part u us) k v h = ap (λ z. ahead z v) (append_signs (joined (said l)) ([] ++ gathered OneOrMore (joined (said u) ∷ each_said us)) k) ∙ optional_first l (gathered OneOrMore (joined (said u) ∷ each_said us) ++ k) v h

chain_good : (cs : Forest) → FrontsOf cs → GoodsOf cs → TreeGood (node (expression Chain) cs)
unfolding count size
chain_good none fs gs c g e v h b = absurd (false≢true ((sound_node c g (expression Chain) none h).parts))
chain_good (part o none) fs gs c g e v h b = let m = counted (positions (expression Chain)) (part o none) ((sound_node c g (expression Chain) (part o none) h).parts) in absurd (omega arith)
chain_good (part o (part (list none) none)) fs gs c g e v h b = absurd (false≢true ((sound_node c g (expression Chain) (part o (part (list none) none)) h).links))
chain_good (part o (part (list (part l ls)) none)) fs gs c g e v h b =
    let cs : Forest = part o (part (list (part l ls)) none) in
    let n : SoundNode c (expression Chain) cs = sound_node c g (expression Chain) cs h in
    let f : Facts (expression Chain) = facts (expression Chain) n.plain in
    let x : Bool = behind_else c e in
    let m : x ≡ true → MayElse c (expression Chain) cs = may_else_of c (expression Chain) cs e v n.home b in
    let p = and_parts (is_formed Single o) _ n.parts in
    let q = and_parts (sound MemberObject [] o) _ p.1 in
    let k : List Sign = Count ∷ (gathered OneOrMore (joined (said l) ∷ each_said ls) ++ (End ∷ [])) in
    let r : good k v ≡ true = row_good (outs (expression Chain) x) v (outside_of c (expression Chain) cs e v f n.home b) (its_row (expression Chain)) (part (list (part l ls)) none) [] q.1 fs.1 gs.1 refl (row_of (expression Chain) x f (λ z. (m z).kind)) in
    good_append (joined (said o)) k v
    (good_at MemberObject [] false o (ahead k v) p.0 gs.0 q.0 (record {
      needs = ap (calm false false) (links_first l ls (End ∷ []) v n.links);
      no_open = λ z. absurd (false≢true z);
      els = λ z. absurd (false≢true z);
      comma = λ z. clash _ z (no_rest MemberObject [] o q.0 refl);
      part = λ z. absurd (false≢true z);
      ends = inl refl;
    })) r
chain_good (part o (part (leaf k x) none)) fs gs c g e v h b =
    let p = and_parts (is_formed Single o) _ ((sound_node c g (expression Chain) (part o (part (leaf k x) none)) h).parts) in
    let q = and_parts (sound MemberObject [] o) _ p.1 in
    absurd (false≢true q.1)
chain_good (part o (part (node k x) none)) fs gs c g e v h b =
    let p = and_parts (is_formed Single o) _ ((sound_node c g (expression Chain) (part o (part (node k x) none)) h).parts) in
    let q = and_parts (sound MemberObject [] o) _ p.1 in
    absurd (false≢true q.1)
chain_good (part o (part l (part u us))) fs gs c g e v h b =
    let m = counted (positions (expression Chain)) (part o (part l (part u us))) ((sound_node c g (expression Chain) (part o (part l (part u us))) h).parts) in absurd (omega arith)

-- ---- all nodes

pub node_good : (k : Kind) (cs : Forest) → FrontsOf cs → GoodsOf cs → TreeGood (node k cs)
unfolding usual
node_good (expression Chain) cs fs gs = chain_good cs fs gs
node_good (statement If) cs fs gs = if_good cs fs gs
node_good k cs fs gs = usual_good k cs refl fs gs
