-- A text is read in one way, up to patterns and literals: once for all rows.
use Rattle.std.proofs.Common.{◌≡◌, ℕ, ◌≤◌, Bool, true, false, not, List, [], ◌∷◌, refl, sym, ◌∙◌, ap, subst, arith}
use Rattle.std.specs.Prelude.{IsTrue, ◌&&◌, nat_eq, nat_le, codes}
use Rattle.jsx_base.specs.Token.{Text, Operator, IdentifierName, Punctuator, TemplateMiddle, TemplateTail, Elision, same}
use Rattle.jsx_tree.specs.Signs.{Tok}
use Rattle.jsx_tree.specs.Kinds.{BareArrow, ComputedKey, function, expression, Tree, Forest}
use Rattle.jsx_tree.specs.Spelling.{mode_of}
use Rattle.jsx_tree.specs.Reading.{Place, forth}
use Rattle.jsx_tree.specs.Walk.{is_found}
use Rattle.jsx_tree.proofs.Tokens.{and_left, and_right, same_is}
use Rattle.jsx_tree.proofs.OneTree.Readings.{Step, tok, lit, sub, many, calm, Flat, one, some, row_of, nil, cons, unseq, made, flat, flats, comma, Reads, word, head, Prop, long, computed, short, preset, rest, member, o_named, o_computed, o_worded, Props, p_shut, p_last, p_more, paren, target, grow, arrow, Walk, done, take, pass, literal, under, all, each, Links, l_end, l_more, Spans, t_tail, t_more, regexp, brace, Whole, single, several, Rest, final, also, Items, shut, gap, last, more}
use Rattle.jsx_tree.proofs.OneTree.Readings.{sealed, braces, linked, filled, tagged, blocked, bare_blocked}
use Rattle.jsx_tree.proofs.OneTree.Checks.{starts, same_bool, joins, apart, twin}
use Rattle.jsx_tree.proofs.OneTree.Facts.{not_is, eq_nat, le_nat, Seen, seen, found_at, took, took_in}
use Rattle.jsx_tree.proofs.OneTree.Sealed.{closed_same}
use Rattle.jsx_tree.proofs.OneTree.Starting.{items_clear, tok_clear, arrow_leads, of_grow, no_start, tagged_start}
use Rattle.jsx_tree.proofs.OneTree.Growths.{Through, Split, made_plain, made_coded, unseq_one, calm_one, split}
use Rattle.jsx_tree.proofs.OneTree.Pairs.{sealed_start, Same, SameOne, and3, same_sign, same_place, same_lit, two_tokens, move, move_items, move_rest, no_comma, seen_at, comma_seen, close_seen, move_tok, ends, onward, onward_block, tail_only, settle, one_token, start_regexp, start_word, parens_same, braces_same, pass_take, nothing_more, take_take, take_literal, take_under, plain_same, one_against, as_unseq, ends_prop, colon, equals, colon_seen, equals_seen, dots_seen, bracket_seen, shut_seen, same_name, key_dots, open_mark, named_open, short_open, no_end, no_prop, no_link, link_only, take_linked, take_tagged, linked_tagged, tagged_only, lit_lit, SameSpans}

mutual
  pub one_walk : {ps qs : List Step} {x y z : Place} {ts us : Forest} → twin ps qs ≡ true → Walk ps x ts y → Walk qs x us z → Same (flats ts) (flats us) y z
  one_walk h done done = record { trees = refl; places = refl }
  one_walk h (pass g w) v = one_walk h w v
  one_walk h (take {m = m} {k = k} {t = t} {ps = ps} {x = x} e f w) (take {m = n} {k = l} {t = u} {ps = qs} e' f' v) =
      let s = same_sign m n k l t u (and_left (joins (tok m k t) (tok n l u)) (twin ps qs) h) in
      one_walk (and_right (joins (tok m k t) (tok n l u)) (twin ps qs) h) w (move (same_place x s e e') v)
  one_walk h (literal {s = s} {t = t} {ps = ps} {x = x} e f w) (literal {s = r} {t = u} {ps = qs} e' f' v) =
      let q = same_lit s r (and_left (joins (lit s) (lit r)) (twin ps qs) h) in
      let a : t ≡ u = sym (took_in (mode_of s) s t x q.first e f).text ∙ (took_in (mode_of r) r u x q.second e' f').text in
      let o = one_walk (and_right (joins (lit s) (lit r)) (twin ps qs) h) w (move (sym e ∙ ((λ i. forth (Tok (mode_of (q.kind i)) (q.kind i) (a i)) x) ∙ e')) v) in
      record { trees = λ i. cons (one (q.kind i) (a i)) (o.trees i); places = o.places }
  one_walk h (under {n = n} {b = b} {ps = ps} {z = z} r c w) (under {n = m} {b = d} {ps = qs} {y = y'} r' c' v) =
      let j = and3 (nat_eq n m) (nat_le n b) (nat_le n d) (and_left (joins (sub n b) (sub m d)) (twin ps qs) h) in
      let same : n ≡ m = eq_nat j.0 in
      let s = ends (passes r (le_nat j.1) (split r' (le_nat j.2)) (subst (λ i. calm i y' ≡ true) (sym same) c')) c in
      let o = one_walk (and_right (joins (sub n b) (sub m d)) (twin ps qs) h) w (move s.place v) in
      record { trees = λ i. cons (s.tree i) (o.trees i); places = o.places }
  one_walk h (all a w) (all b v) =
      let s = one_whole a b in
      let o = one_walk h w (move s.place v) in
      record { trees = λ i. cons (s.tree i) (o.trees i); places = o.places }
  one_walk h (each {h = a} {u = t} {ps = ps} {x = x} i w) (each {h = b} {u = u} {ps = qs} {y = y'} {ts = us} j v) =
      let q = and3 (same_bool a b) (same t u) (not (starts 1 t) && not (same t (codes ","))) (and_left (joins (many a t) (many b u)) (twin ps qs) h) in
      let e : t ≡ u = same_is t u q.1 in
      let s = one_items (not_is (starts 1 t) (and_left (not (starts 1 t)) (not (same t (codes ","))) q.2)) (not_is (same t (codes ",")) (and_right (not (starts 1 t)) (not (same t (codes ","))) q.2)) i (subst (λ u. Items b u x us y') (sym e) j) in
      let o = one_walk (and_right (joins (many a t) (many b u)) (twin ps qs) h) w (move s.places v) in
      record { trees = λ i. cons (row_of (s.trees i)) (o.trees i); places = o.places }
  one_walk h (linked g i w) (linked {ts = us} g' j v) =
      let s = one_links i j in
      let o = one_walk h w (move s.places v) in
      record { trees = λ i. cons (row_of (s.trees i)) (o.trees i); places = o.places }
  one_walk h (filled i w) (filled j v) =
      let s = one_spans i j in
      let o = one_walk h w (move s.place v) in
      record { trees = λ i. cons (row_of (s.trees i)) (cons (s.tree i) (cons (one TemplateTail (s.text i)) (o.trees i))); places = o.places }
  one_walk h (tagged {k = k} {cs = cs} s l i w) (tagged {k = k'} {cs = ds} s' l' j v) =
      let q = tagged_only k k' cs ds s l s' l' j (λ qs us q hh v. one_walk hh i v) (λ qs us q hh v. no_walk hh i v) in
      let o = one_walk h w (move q.place v) in
      record { trees = λ i. cons (q.tree i) (o.trees i); places = o.places }
  one_walk h _ _ = cc

  one_spans : {x y z : Place} {ts us : Forest} {o p : Tree} {t u : Text} → Spans x ts o t y → Spans x us p u z → SameSpans (flats ts) (flats us) (flat o) (flat p) t u y z
  one_spans (t_tail {p = p} {t = t} a e f g n) (t_tail {p = p'} {t = t'} a' e' f' g' n') =
      let s = one_whole a a' in
      let b : p ≡ p' = move_tok brace e s.place e' in
      let q = one_token (mode_of TemplateTail) TemplateTail TemplateTail t t' p (found_at g n) (found_at (ap (forth (Tok (mode_of TemplateTail) TemplateTail t')) b ∙ g') n') in
      record { trees = refl; tree = s.tree; text = q.1; place = sym g ∙ ((λ i. forth (Tok (mode_of TemplateTail) TemplateTail (q.1 i)) (b i)) ∙ g') }
  one_spans (t_tail {p = p} {t = t} a e f g n) (t_more {u = u'} c' r' a' e' f' g' n' i') =
      let s = one_whole a a' in
      let b = move_tok brace e s.place e' in
      let q = one_token (mode_of TemplateTail) TemplateTail TemplateMiddle t u' p (found_at g n) (found_at (ap (forth (Tok (mode_of TemplateTail) TemplateMiddle u')) b ∙ g') n') in
      let bad = q.0 in cc
  one_spans (t_more {p = p} {u = u} c r a e f g n i) (t_tail {t = t'} a' e' f' g' n') =
      let s = one_whole a a' in
      let b = move_tok brace e s.place e' in
      let q = one_token (mode_of TemplateTail) TemplateMiddle TemplateTail u t' p (found_at g n) (found_at (ap (forth (Tok (mode_of TemplateTail) TemplateTail t')) b ∙ g') n') in
      let bad = q.0 in cc
  one_spans (t_more {k = k} {p = p} {i = o} {u = u} c r a e f g n i) (t_more {k = k'} {z = z'} {i = o'} {o = o2} {u = u'} {t = t2} {ts = us} c' r' a' e' f' g' n' i') =
      let s = one_whole a a' in
      let b = move_tok brace e s.place e' in
      let q = one_token (mode_of TemplateMiddle) TemplateMiddle TemplateMiddle u u' p (found_at g n) (found_at (ap (forth (Tok (mode_of TemplateMiddle) TemplateMiddle u')) b ∙ g') n') in
      let d = sym g ∙ ((λ i. forth (Tok (mode_of TemplateMiddle) TemplateMiddle (q.1 i)) (b i)) ∙ g') in
      let w = one_spans i (subst (λ p. Spans p us o2 t2 z') (sym d) i') in
      let m = made_coded k 24 (cons (flat o) (cons (one TemplateMiddle u) nil)) r refl c ∙ ((λ i. some 24 (cons (s.tree i) (cons (one TemplateMiddle (q.1 i)) nil))) ∙ sym (made_coded k' 24 (cons (flat o') (cons (one TemplateMiddle u') nil)) r' refl c')) in
      record { trees = λ i. cons (m i) (w.trees i); tree = w.tree; text = w.text; place = w.place }

  one_links : {x y z : Place} {ts us : Forest} → Links x ts y → Links x us z → Same (flats ts) (flats us) y z
  one_links (l_end c) (l_end d) = record { trees = refl; places = refl }
  one_links (l_end c) (l_more {k = k} s l b w i) = absurd (no_link k s l b w c)
  one_links (l_more {k = k} s l b w i) (l_end c) = absurd (no_link k s l b w c)
  one_links (l_more {k = k} {cs = cs} s l b w i) (l_more {k = k'} {z = z'} {cs = ds} {ts = us} s' l' b' v j) =
      let q = link_only k k' cs ds s l s' l' v (λ qs us q hh v. one_walk hh w v) (λ qs us q hh v. no_walk hh w v) in
      let o = one_links i (subst (λ p. Links p us z') (sym q.place) j) in
      record { trees = λ i. cons (q.tree i) (o.trees i); places = o.places }

  pub no_walk : {ps qs : List Step} {x y z : Place} {ts us : Forest} → apart ps qs ≡ true → Walk ps x ts y → Walk qs x us z → ⊥
  no_walk h (pass {s = s} {ps = ps} {x = x} g w) (take {m = m} {k = k} {t = t} {ps = qs} e f v) = pass_take s m k t x g e f (apart ps (tok m k t ∷ qs)) (λ r. no_walk r w (take e f v)) h
  no_walk h (pass g w) (pass g' v) = no_walk h w (pass g' v)
  no_walk h (pass g w) (literal e f v) = no_walk h w (literal e f v)
  no_walk h (pass g w) (under r c v) = no_walk h w (under r c v)
  no_walk h (pass g w) (all a v) = no_walk h w (all a v)
  no_walk h (pass g w) (each a v) = no_walk h w (each a v)
  no_walk h (take {m = m} {k = k} {t = t} {ps = ps} {x = x} e f w) (take {m = n} {k = l} {t = u} {ps = qs} e' f' v) =
      take_take m n k l t u x e f e' f' (apart ps qs) (λ s r. no_walk r w (move (same_place x s e e') v)) h
  no_walk h (take {m = m} {k = k} {t = t} {ps = ps} {x = x} e f w) (pass {s = s} {ps = qs} g v) = pass_take s m k t x g e f false nothing_more h
  no_walk h (take {m = m} {k = k} {t = t} {x = x} e f w) (literal {s = r} {t = u} e' f' v) = take_literal m k t r u x e f e' f' h
  no_walk h (literal {s = r} {t = u} {x = x} e' f' w) (take {m = m} {k = k} {t = t} e f v) = take_literal m k t r u x e f e' f' h
  no_walk h (take {m = m} {k = k} {t = t} {x = x} e f w) (under r c v) = take_under m k t x e f r h
  no_walk h (under {x = x} r c w) (take {m = m} {k = k} {t = t} e f v) = take_under m k t x e f r h
  no_walk h (literal {s = s} {t = t} {ps = ps} {x = x} e f w) (literal {s = r} {t = u} {ps = qs} e' f' v) =
      lit_lit s r t u x e f e' f' (apart ps qs) (λ q g. no_walk g w (move (sym e ∙ ((λ i. forth (Tok (mode_of (q.kind i)) (q.kind i) ((sym (took_in (mode_of s) s t x q.first e f).text ∙ (took_in (mode_of r) r u x q.second e' f').text) i)) x) ∙ e')) v)) h
  no_walk h (under {n = n} {b = b} {ps = ps} r c w) (under {n = m} {b = d} {ps = qs} {y = y'} r' c' v) =
      let j = and3 (nat_eq n m) (nat_le n b) (nat_le n d) (and_left (joins (sub n b) (sub m d)) (apart ps qs) h) in
      let same : n ≡ m = eq_nat j.0 in
      let s = ends (passes r (le_nat j.1) (split r' (le_nat j.2)) (subst (λ i. calm i y' ≡ true) (sym same) c')) c in
      no_walk (and_right (joins (sub n b) (sub m d)) (apart ps qs) h) w (move s.place v)
  no_walk h (all a w) (all b v) = no_walk h w (move (one_whole a b).place v)
  no_walk h (each {h = a} {u = t} {ps = ps} {x = x} i w) (each {h = b} {u = u} {ps = qs} {y = y'} {ts = us} j v) =
      let q = and3 (same_bool a b) (same t u) (not (starts 1 t) && not (same t (codes ","))) (and_left (joins (many a t) (many b u)) (apart ps qs) h) in
      let e : t ≡ u = same_is t u q.1 in
      let s = one_items (not_is (starts 1 t) (and_left (not (starts 1 t)) (not (same t (codes ","))) q.2)) (not_is (same t (codes ",")) (and_right (not (starts 1 t)) (not (same t (codes ","))) q.2)) i (subst (λ u. Items b u x us y') (sym e) j) in
      no_walk (and_right (joins (many a t) (many b u)) (apart ps qs) h) w (move s.places v)
  no_walk h (take {m = m} {k = k} {t = t} {x = x} e f w) (linked g i v) = take_linked m k t x e f g h
  no_walk h (linked {x = x} g i w) (take {m = m} {k = k} {t = t} e f v) = take_linked m k t x e f g h
  no_walk h (linked g i w) (linked g' j v) = no_walk h w (move (one_links i j).places v)
  no_walk h (pass g w) (linked g' j v) = no_walk h w (linked g' j v)
  no_walk h (filled i w) (filled j v) = no_walk h w (move (one_spans i j).place v)
  no_walk h (pass g w) (filled j v) = no_walk h w (filled j v)
  no_walk h (pass g w) (tagged {k = k} s l j v) = no_walk h w (tagged {k = k} s l j v)
  no_walk h (take {m = m} {k = k} {t = t} {x = x} e f w) (tagged {k = l} s a i v) = take_tagged m k t x e f (tagged_start l s a i) h
  no_walk h (tagged {k = l} {x = x} s a i w) (take {m = m} {k = k} {t = t} e f v) = take_tagged m k t x e f (tagged_start l s a i) h
  no_walk h (linked {x = x} g i w) (tagged {k = l} s a j v) = linked_tagged x g (tagged_start l s a j)
  no_walk h (tagged {k = l} {x = x} s a j w) (linked g i v) = linked_tagged x g (tagged_start l s a j)
  no_walk h (tagged {k = k} {cs = cs} s l i w) (tagged {k = k'} {cs = ds} s' l' j v) =
      no_walk h w (move (tagged_only k k' cs ds s l s' l' j (λ qs us q hh v. one_walk hh i v) (λ qs us q hh v. no_walk hh i v)).place v)
  no_walk h _ _ = cc

  pub passes : {n m : ℕ} {x y z : Place} {t : Tree} {g : Flat} → Reads m x t y → n ≤ m → Split n x g z → calm n z ≡ true → Through n y (flat t) z g
  passes (word a e f) le p c = settle (start_word a e f p.start) p.through
  passes (regexp e f) le p c = settle (start_regexp e f p.start) p.through
  passes (head {k = k} {ts = ts} s a i l d w) le p c = settle (plain_same k ts s a i d w (λ qs us q hh v. one_walk hh w v) (λ qs us q hh v. no_walk hh w v) p.start) p.through
  passes (braces {k = k} {y = y} {ts = ts} l d a e f i) le p c =
      settle (subst (λ g. SameOne g p.first y p.rest) (sym (made_coded k 54 (cons (row_of (flats ts)) nil) a refl d)) (braces_same e f (λ us w j. one_props i j) p.start)) p.through
  passes (sealed l s) le p c = settle (sealed_start s p.start) p.through
  passes (paren l e f a g h) le p c = settle (parens_same e f (λ us q j. whole_items a g h j) p.start) p.through
  passes (target {y = y} {t = t} l e f r k g h) le p c =
      settle (parens_same e f (λ us q j. as_unseq (flat t) (unseq_one r) (one_against r g h (λ u v s d. ends (passes r (omega arith) (split s (omega arith)) d) (calm_one y k)) j)) p.start) p.through
  passes {n} {z = z} {g = g} (grow {k = k} {z = y} {t = t} {ts = ts} s d l b r w) le p c =
      subst (λ f. Through n y f z g) (sym (made_plain k (cons (flat t) (flats ts)) (arrow_leads k d) (of_grow k s d).not_paren))
      (onward k s d (omega (arith, le, l)) b w (tail_only k ts s d (λ qs us q hh v. one_walk hh w v) (λ qs us q hh v. no_walk hh w v)) (passes r le p c) c)
  passes (arrow {ts = ts} l (take e f (each i done)) w) le p c =
      onward (expression BareArrow) refl refl (omega (arith, le, l)) (items_clear i) w (tail_only (expression BareArrow) ts refl refl (λ qs us q hh v. one_walk hh w v) (λ qs us q hh v. no_walk hh w v))
      (settle (parens_same e f (λ us q j. one_items refl refl i j) p.start) p.through) c
  passes (blocked l e f i b) le p c = onward_block (omega (arith, le, l)) (items_clear i) b (settle (parens_same e f (λ us q j. one_items refl refl i j) p.start) p.through) c
  passes (bare_blocked {x = x} {t = t} l a e f b) le p c = onward_block (omega (arith, le, l)) (tok_clear Operator IdentifierName t x e) b (settle (start_word a e f p.start) p.through) c

  -- two properties, each before a comma or a brace
  one_prop : {x y z : Place} {t u : Tree} {d c : Text} → Prop x t y → Seen y Punctuator d → ends_prop d ≡ true → Prop x u z → Seen z Punctuator c → ends_prop c ≡ true → SameOne (flat t) (flat u) y z
  one_prop (long {k = k} {s = s} {t = t} {x = x} {v = v} c a m e f g o r cm) n h (long {k = l} {s = s'} {t = t'} {y = y'} {v = v'} c' a' m' e' f' g' o' r' cm') n' h' =
      let w = same_name (took s t x e f) (took s' t' x e' f') in
      let p = sym e ∙ ((λ i. forth (Tok Operator (w.0 i) (w.1 i)) x) ∙ e') in
      let q = ends (passes r (omega arith) (split (subst (λ z. Reads 1 z v' y') (sym (move_tok colon g p g')) r') (omega arith)) cm') cm in
      record { tree = made_coded k 50 (cons (one s t) (cons (flat v) nil)) a refl c ∙ ((λ i. some 50 (cons (one (w.0 i) (w.1 i)) (cons (q.tree i) nil))) ∙ sym (made_coded l 50 (cons (one s' t') (cons (flat v') nil)) a' refl c')); place = q.place }
  one_prop (preset {k = k} {t = t} {x = x} {v = v} c a e f g o r cm) n h (preset {k = l} {t = t'} {y = y'} {v = v'} c' a' e' f' g' o' r' cm') n' h' =
      let w = same_name (took IdentifierName t x e f) (took IdentifierName t' x e' f') in
      let p = sym e ∙ ((λ i. forth (Tok Operator IdentifierName (w.1 i)) x) ∙ e') in
      let q = ends (passes r (omega arith) (split (subst (λ z. Reads 1 z v' y') (sym (move_tok equals g p g')) r') (omega arith)) cm') cm in
      record { tree = made_coded k 52 (cons (one IdentifierName t) (cons (flat v) nil)) a refl c ∙ ((λ i. some 52 (cons (one IdentifierName (w.1 i)) (cons (q.tree i) nil))) ∙ sym (made_coded l 52 (cons (one IdentifierName t') (cons (flat v') nil)) a' refl c')); place = q.place }
  one_prop (short {k = k} {t = t} {x = x} c a e f) n h (short {k = l} {t = t'} c' a' e' f') n' h' =
      let w = same_name (took IdentifierName t x e f) (took IdentifierName t' x e' f') in
      record { tree = made_coded k 51 (cons (one IdentifierName t) nil) a refl c ∙ ((λ i. some 51 (cons (one IdentifierName (w.1 i)) nil)) ∙ sym (made_coded l 51 (cons (one IdentifierName t') nil) a' refl c')); place = sym e ∙ ((λ i. forth (Tok Operator IdentifierName (w.1 i)) x) ∙ e') }
  one_prop (rest {k = k} {x = x} {v = v} c a e f r cm) n h (rest {k = l} {y = y'} {v = v'} c' a' e' f' r' cm') n' h' =
      let q = ends (passes r (omega arith) (split (subst (λ z. Reads 1 z v' y') (sym (sym e ∙ e')) r') (omega arith)) cm') cm in
      record { tree = made_coded k 2 (cons (flat v) nil) a refl c ∙ ((λ i. some 2 (cons (q.tree i) nil)) ∙ sym (made_coded l 2 (cons (flat v') nil) a' refl c')); place = q.place }
  one_prop (long {s = s1} {t = t1} {x = x} {p = p1} c1 a1 m1 e1 f1 g1 o1 r1 d1) n h (short {t = t2} {y = p2} c2 a2 e2 f2) n' h' =
      let w = same_name (took s1 t1 x e1 f1) (took IdentifierName t2 x e2 f2) in
      let p = sym e1 ∙ ((λ i. forth (Tok Operator (w.0 i) (w.1 i)) x) ∙ e2) in
      absurd (no_end n' h' (seen_at (sym p) (colon_seen g1 o1)) refl)
  one_prop (long {s = s1} {t = t1} {x = x} {p = p1} c1 a1 m1 e1 f1 g1 o1 r1 d1) n h (preset {t = t2} {p = p2} c2 a2 e2 f2 g2 o2 r2 d2) n' h' =
      let w = same_name (took s1 t1 x e1 f1) (took IdentifierName t2 x e2 f2) in
      let p = sym e1 ∙ ((λ i. forth (Tok Operator (w.0 i) (w.1 i)) x) ∙ e2) in
      absurd (two_tokens (colon_seen g1 o1) (seen_at p (equals_seen g2 o2)) refl)
  one_prop (long {s = s1} {t = t1} {x = x} {p = p1} c1 a1 m1 e1 f1 g1 o1 r1 d1) n h (rest c2 a2 e2 f2 r2 d2) n' h' = absurd (key_dots m1 (took s1 t1 x e1 f1) (dots_seen e2 f2))
  one_prop (short {t = t1} {x = x} {y = p1} c1 a1 e1 f1) n h (long {s = s2} {t = t2} {p = p2} c2 a2 m2 e2 f2 g2 o2 r2 d2) n' h' =
      let w = same_name (took IdentifierName t1 x e1 f1) (took s2 t2 x e2 f2) in
      let p = sym e1 ∙ ((λ i. forth (Tok Operator (w.0 i) (w.1 i)) x) ∙ e2) in
      absurd (no_end n h (seen_at p (colon_seen g2 o2)) refl)
  one_prop (short {t = t1} {x = x} {y = p1} c1 a1 e1 f1) n h (preset {t = t2} {p = p2} c2 a2 e2 f2 g2 o2 r2 d2) n' h' =
      let w = same_name (took IdentifierName t1 x e1 f1) (took IdentifierName t2 x e2 f2) in
      let p = sym e1 ∙ ((λ i. forth (Tok Operator (w.0 i) (w.1 i)) x) ∙ e2) in
      absurd (no_end n h (seen_at p (equals_seen g2 o2)) refl)
  one_prop (short {t = t1} {x = x} {y = p1} c1 a1 e1 f1) n h (rest c2 a2 e2 f2 r2 d2) n' h' = absurd (key_dots refl (took IdentifierName t1 x e1 f1) (dots_seen e2 f2))
  one_prop (preset {t = t1} {x = x} {p = p1} c1 a1 e1 f1 g1 o1 r1 d1) n h (long {s = s2} {t = t2} {p = p2} c2 a2 m2 e2 f2 g2 o2 r2 d2) n' h' =
      let w = same_name (took IdentifierName t1 x e1 f1) (took s2 t2 x e2 f2) in
      let p = sym e1 ∙ ((λ i. forth (Tok Operator (w.0 i) (w.1 i)) x) ∙ e2) in
      absurd (two_tokens (equals_seen g1 o1) (seen_at p (colon_seen g2 o2)) refl)
  one_prop (preset {t = t1} {x = x} {p = p1} c1 a1 e1 f1 g1 o1 r1 d1) n h (short {t = t2} {y = p2} c2 a2 e2 f2) n' h' =
      let w = same_name (took IdentifierName t1 x e1 f1) (took IdentifierName t2 x e2 f2) in
      let p = sym e1 ∙ ((λ i. forth (Tok Operator (w.0 i) (w.1 i)) x) ∙ e2) in
      absurd (no_end n' h' (seen_at (sym p) (equals_seen g1 o1)) refl)
  one_prop (preset {t = t1} {x = x} {p = p1} c1 a1 e1 f1 g1 o1 r1 d1) n h (rest c2 a2 e2 f2 r2 d2) n' h' = absurd (key_dots refl (took IdentifierName t1 x e1 f1) (dots_seen e2 f2))
  one_prop (rest {x = x} c1 a1 e1 f1 r1 d1) n h (long {s = s2} {t = t2} {p = p2} c2 a2 m2 e2 f2 g2 o2 r2 d2) n' h' = absurd (key_dots m2 (took s2 t2 x e2 f2) (dots_seen e1 f1))
  one_prop (rest {x = x} c1 a1 e1 f1 r1 d1) n h (short {t = t2} {y = p2} c2 a2 e2 f2) n' h' = absurd (key_dots refl (took IdentifierName t2 x e2 f2) (dots_seen e1 f1))
  one_prop (rest {x = x} c1 a1 e1 f1 r1 d1) n h (preset {t = t2} {p = p2} c2 a2 e2 f2 g2 o2 r2 d2) n' h' = absurd (key_dots refl (took IdentifierName t2 x e2 f2) (dots_seen e1 f1))
  one_prop (computed {k = k} {x = x} {o = o} {v = v} c a e f r cm g i j l s dm) n h (computed {k = k'} {b = b'} {y = y'} {o = o'} {v = v'} c' a' e' f' r' cm' g' i' j' l' s' dm') n' h' =
      let q0 = ends (passes r (omega arith) (split (subst (λ z. Reads 1 z o' b') (sym (sym e ∙ e')) r') (omega arith)) cm') cm in
      let p1 = move_tok (Tok Operator Punctuator (codes "]")) g q0.place g' in
      let q1 = ends (passes s (omega arith) (split (subst (λ z. Reads 1 z v' y') (sym (move_tok colon j p1 j')) s') (omega arith)) dm') dm in
      record { tree = made_coded k 50 (cons (made (function ComputedKey) (cons (flat o) nil)) (cons (flat v) nil)) a refl c ∙ ((λ i. some 50 (cons (made (function ComputedKey) (cons (q0.tree i) nil)) (cons (q1.tree i) nil))) ∙ sym (made_coded k' 50 (cons (made (function ComputedKey) (cons (flat o') nil)) (cons (flat v') nil)) a' refl c')); place = q1.place }
  one_prop (computed {x = x} c a e f r cm g i j l s dm) n h (long {s = s2} {t = t2} c2 a2 m2 e2 f2 g2 o2 r2 d2) n' h' = absurd (key_dots m2 (took s2 t2 x e2 f2) (bracket_seen {x = x} e f))
  one_prop (computed {x = x} c a e f r cm g i j l s dm) n h (short {t = t2} c2 a2 e2 f2) n' h' = absurd (key_dots refl (took IdentifierName t2 x e2 f2) (bracket_seen {x = x} e f))
  one_prop (computed {x = x} c a e f r cm g i j l s dm) n h (preset {t = t2} c2 a2 e2 f2 g2 o2 r2 d2) n' h' = absurd (key_dots refl (took IdentifierName t2 x e2 f2) (bracket_seen {x = x} e f))
  one_prop (computed {x = x} c a e f r cm g i j l s dm) n h (rest c2 a2 e2 f2 r2 d2) n' h' = absurd (two_tokens (bracket_seen {x = x} e f) (dots_seen {x = x} e2 f2) refl)
  one_prop (long {s = s2} {t = t2} {x = x} c2 a2 m2 e2 f2 g2 o2 r2 d2) n h (computed c a e f r cm g i j l s dm) n' h' = absurd (key_dots m2 (took s2 t2 x e2 f2) (bracket_seen {x = x} e f))
  one_prop (short {t = t2} {x = x} c2 a2 e2 f2) n h (computed c a e f r cm g i j l s dm) n' h' = absurd (key_dots refl (took IdentifierName t2 x e2 f2) (bracket_seen {x = x} e f))
  one_prop (preset {t = t2} {x = x} c2 a2 e2 f2 g2 o2 r2 d2) n h (computed c a e f r cm g i j l s dm) n' h' = absurd (key_dots refl (took IdentifierName t2 x e2 f2) (bracket_seen {x = x} e f))
  one_prop (rest {x = x} c2 a2 e2 f2 r2 d2) n h (computed c a e f r cm g i j l s dm) n' h' = absurd (two_tokens (bracket_seen {x = x} e f) (dots_seen {x = x} e2 f2) refl)
  one_prop (member c o) n h (member d p) n' h' = let q = closed_same c d in record { tree = ap flat q.0; place = q.1 }
  one_prop (long {s = s} {t = t} c a m e f g o r d) n h (member u p) n' h' = absurd (named_open s t m e f (colon_seen g o) refl refl p)
  one_prop (member u p) n h (long {s = s} {t = t} c a m e f g o r d) n' h' = absurd (named_open s t m e f (colon_seen g o) refl refl p)
  one_prop (preset {t = t} c a e f g o r d) n h (member u p) n' h' = absurd (named_open IdentifierName t refl e f (equals_seen g o) refl refl p)
  one_prop (member u p) n h (preset {t = t} c a e f g o r d) n' h' = absurd (named_open IdentifierName t refl e f (equals_seen g o) refl refl p)
  one_prop (short {t = t} c a e f) n h (member u p) n' h' = absurd (short_open t e f n h p)
  one_prop (member u p) n h (short {t = t} c a e f) n' h' = absurd (short_open t e f n' h' p)
  one_prop (rest {x = x} c a e f r d) n h (member u p) n' h' = absurd (open_mark (dots_seen {x = x} e f) refl p)
  one_prop (member u p) n h (rest {x = x} c a e f r d) n' h' = absurd (open_mark (dots_seen {x = x} e f) refl p)
  one_prop (computed {x = x} c a e f r cm g i j l s dm) n h (member u (o_named s2 t2 p' m e' f' g')) n' h' = absurd (key_dots m (took s2 t2 x e' f') (bracket_seen {x = x} e f))
  one_prop (member u (o_named s2 t2 p' m e' f' g')) n h (computed {x = x} c a e f r cm g i j l s dm) n' h' = absurd (key_dots m (took s2 t2 x e' f') (bracket_seen {x = x} e f))
  one_prop (computed {x = x} c a e f r cm g i j l s dm) n h (member u (o_worded t2 p' e' f' g')) n' h' = absurd (key_dots refl (took IdentifierName t2 x e' f') (bracket_seen {x = x} e f))
  one_prop (member u (o_worded t2 p' e' f' g')) n h (computed {x = x} c a e f r cm g i j l s dm) n' h' = absurd (key_dots refl (took IdentifierName t2 x e' f') (bracket_seen {x = x} e f))
  one_prop (computed {x = x} c a e f r cm g i j l s dm) n h (member u (o_computed x' b' p' o' e' f' r' cm' g' i' q')) n' h' =
      let q0 = ends (passes r (omega arith) (split (subst (λ z. Reads 1 z o' b') (sym (sym e ∙ e')) r') (omega arith)) cm') cm in
      let p1 = move_tok (Tok Operator Punctuator (codes "]")) g q0.place g' in
      absurd (two_tokens (seen Punctuator (codes "(") p' q') (seen_at (sym p1) (colon_seen j l)) refl)
  one_prop (member u (o_computed x' b' p' o' e' f' r' cm' g' i' q')) n h (computed {x = x} {b = b} {o = o} c a e f r cm g i j l s dm) n' h' =
      let q0 = ends (passes r' (omega arith) (split (subst (λ z. Reads 1 z o b) (sym (sym e' ∙ e)) r) (omega arith)) cm) cm' in
      let p1 = move_tok (Tok Operator Punctuator (codes "]")) g' q0.place g in
      absurd (two_tokens (seen Punctuator (codes "(") p' q') (seen_at p1 (colon_seen j l)) refl)

  one_props : {x y z : Place} {ts us : Forest} → Props x ts y → Props x us z → Same (flats ts) (flats us) y z
  one_props {x = x} (p_shut e f) (p_shut e' f') = record { trees = refl; places = sym e ∙ e' }
  one_props {x = x} (p_shut e f) (p_last a' e' f') = absurd (no_prop (shut_seen {x = x} e f) a')
  one_props {x = x} (p_shut e f) (p_more a' e' f' b') = absurd (no_prop (shut_seen {x = x} e f) a')
  one_props {x = x} (p_last a e f) (p_shut e' f') = absurd (no_prop (shut_seen {x = x} e' f') a)
  one_props {x = x} (p_more a e f b) (p_shut e' f') = absurd (no_prop (shut_seen {x = x} e' f') a)
  one_props (p_last {y = y} a e f) (p_last {y = y'} a' e' f') =
      let s = one_prop a (shut_seen {x = y} e f) refl a' (shut_seen {x = y'} e' f') refl in
      record { trees = λ i. cons (s.tree i) nil; places = move_tok (Tok Operator Punctuator (codes "}")) e s.place e' }
  one_props (p_last {y = y} a e f) (p_more {y = y'} a' e' f' b') =
      let s = one_prop a (shut_seen {x = y} e f) refl a' (comma_seen {x = y'} e' f') refl in
      absurd (two_tokens (shut_seen {x = y} e f) (seen_at s.place (comma_seen {x = y'} e' f')) refl)
  one_props (p_more {y = y} a e f b) (p_last {y = y'} a' e' f') =
      let s = one_prop a (comma_seen {x = y} e f) refl a' (shut_seen {x = y'} e' f') refl in
      absurd (two_tokens (shut_seen {x = y'} e' f') (seen_at (sym s.place) (comma_seen {x = y} e f)) refl)
  one_props (p_more {y = y} a e f b) (p_more {y = y'} {w = w'} {ts = us} a' e' f' b') =
      let s = one_prop a (comma_seen {x = y} e f) refl a' (comma_seen {x = y'} e' f') refl in
      let o = one_props b (subst (λ p. Props p us w') (sym (move_tok comma e s.place e')) b') in
      record { trees = λ i. cons (s.tree i) (o.trees i); places = o.places }

  pub one_whole : {x y z : Place} {t u : Tree} → Whole x t y → Whole x u z → SameOne (flat t) (flat u) y z
  one_whole (single r c) (single r' c') = ends (passes r (omega arith) (split r' (omega arith)) c') c
  one_whole (single {y = y} r c) (several r' c' e' f' d') =
      let s = ends (passes r (omega arith) (split r' (omega arith)) c') (calm_one y c) in
      absurd (no_comma (seen_at s.place (comma_seen e' f')) c)
  one_whole (several r c e f d) (single {y = y} r' c') =
      let s = ends (passes r (omega arith) (split r' (omega arith)) (calm_one y c')) c in
      absurd (no_comma (seen_at (sym s.place) (comma_seen e f)) c')
  one_whole (several r c e f d) (several r' c' e' f' d') =
      let s = ends (passes r (omega arith) (split r' (omega arith)) c') c in
      let o = one_rest d (move_rest (move_tok comma e s.place e') d') in
      record { tree = λ i. some 19 (cons (row_of (cons (s.tree i) (o.trees i))) nil); place = o.places }

  one_rest : {x y z : Place} {ts us : Forest} → Rest x ts y → Rest x us z → Same (flats ts) (flats us) y z
  one_rest (final r c) (final r' c') = let s = ends (passes r (omega arith) (split r' (omega arith)) c') c in record { trees = λ i. cons (s.tree i) nil; places = s.place }
  one_rest (final {y = y} r c) (also r' c' e' f' d') =
      let s = ends (passes r (omega arith) (split r' (omega arith)) c') (calm_one y c) in
      absurd (no_comma (seen_at s.place (comma_seen e' f')) c)
  one_rest (also r c e f d) (final {y = y} r' c') =
      let s = ends (passes r (omega arith) (split r' (omega arith)) (calm_one y c')) c in
      absurd (no_comma (seen_at (sym s.place) (comma_seen e f)) c')
  one_rest (also r c e f d) (also r' c' e' f' d') =
      let s = ends (passes r (omega arith) (split r' (omega arith)) c') c in
      let o = one_rest d (move_rest (move_tok comma e s.place e') d') in
      record { trees = λ i. cons (s.tree i) (o.trees i); places = o.places }

  pub one_items : {h i : Bool} {u : Text} {x y z : Place} {ts us : Forest} → starts 1 u ≡ false → same u (codes ",") ≡ false → Items h u x ts y → Items i u x us z → Same (flats ts) (flats us) y z
  one_items {u = u} {x = x} n m (shut e f) (shut e' f') = record { trees = refl; places = move_tok (Tok Operator Punctuator u) {x = x} e refl e' }
  one_items {u = u} {x = x} n m (shut e f) (gap e' f' j) = absurd (two_tokens (close_seen {x = x} {u = u} e f) (comma_seen {x = x} e' f') m)
  one_items {u = u} {x = x} n m (shut e f) (last r' c' e' f') = absurd (no_start (close_seen e f) n r')
  one_items {u = u} {x = x} n m (shut e f) (more r' c' e' f' j) = absurd (no_start (close_seen e f) n r')
  one_items {u = u} {x = x} n m (gap e f i) (shut e' f') = absurd (two_tokens (close_seen {x = x} {u = u} e' f') (comma_seen {x = x} e f) m)
  one_items {u = u} {x = x} n m (gap e f i) (gap e' f' j) =
      let o = one_items n m i (move_items (move_tok comma {x = x} e refl e') j) in
      record { trees = λ i. cons (one Elision []) (o.trees i); places = o.places }
  one_items {u = u} {x = x} n m (gap e f i) (last r' c' e' f') = absurd (no_start (comma_seen e f) refl r')
  one_items {u = u} {x = x} n m (gap e f i) (more r' c' e' f' j) = absurd (no_start (comma_seen e f) refl r')
  one_items n m (last r c e f) (shut e' f') = absurd (no_start (close_seen e' f') n r)
  one_items n m (last r c e f) (gap e' f' j) = absurd (no_start (comma_seen e' f') refl r)
  one_items {u = u} {x = x} n m (last r c e f) (last r' c' e' f') =
      let s = ends (passes r (omega arith) (split r' (omega arith)) c') c in
      record { trees = λ i. cons (s.tree i) nil; places = move_tok (Tok Operator Punctuator u) e s.place e' }
  one_items n m (last r c e f) (more r' c' e' f' j) =
      let s = ends (passes r (omega arith) (split r' (omega arith)) c') c in
      absurd (two_tokens (close_seen e f) (seen_at s.place (comma_seen e' f')) m)
  one_items n m (more r c e f i) (shut e' f') = absurd (no_start (close_seen e' f') n r)
  one_items n m (more r c e f i) (gap e' f' j) = absurd (no_start (comma_seen e' f') refl r)
  one_items n m (more r c e f i) (last r' c' e' f') =
      let s = ends (passes r (omega arith) (split r' (omega arith)) c') c in
      absurd (two_tokens (close_seen e' f') (seen_at (sym s.place) (comma_seen e f)) m)
  one_items n m (more r c e f i) (more r' c' e' f' j) =
      let s = ends (passes r (omega arith) (split r' (omega arith)) c') c in
      let o = one_items n m i (move_items (move_tok comma e s.place e') j) in
      record { trees = λ i. cons (s.tree i) (o.trees i); places = o.places }

  whole_items : {h : Bool} {x y z w : Place} {t : Tree} {us : Forest} → Whole x t y → forth (Tok Operator Punctuator (codes ")")) y ≡ z → IsTrue (is_found z) → Items h (codes ")") x us w → Same (unseq (flat t)) (flats us) z w
  whole_items (single {y = y} {t = t} r c) e f j = as_unseq (flat t) (unseq_one r) (one_against r e f (λ u v s d. ends (passes r (omega arith) (split s (omega arith)) d) (calm_one y c)) j)
  whole_items (several r c g o d) e f (shut e' f') = absurd (no_start (close_seen e' f') refl r)
  whole_items (several r c g o d) e f (gap e' f' j) = absurd (no_start (comma_seen e' f') refl r)
  whole_items (several r c g o d) e f (last r' c' e' f') =
      let s = ends (passes r (omega arith) (split r' (omega arith)) c') c in
      absurd (two_tokens (close_seen e' f') (seen_at (sym s.place) (comma_seen g o)) refl)
  whole_items (several r c g o d) e f (more r' c' e' f' j) =
      let s = ends (passes r (omega arith) (split r' (omega arith)) c') c in
      let q = rest_items d e f (move_items (move_tok comma g s.place e') j) in
      record { trees = λ i. cons (s.tree i) (q.trees i); places = q.places }

  rest_items : {h : Bool} {x y z w : Place} {ts us : Forest} → Rest x ts y → forth (Tok Operator Punctuator (codes ")")) y ≡ z → IsTrue (is_found z) → Items h (codes ")") x us w → Same (flats ts) (flats us) z w
  rest_items (final {y = y} r c) e f j = one_against r e f (λ u v s d. ends (passes r (omega arith) (split s (omega arith)) d) (calm_one y c)) j
  rest_items (also r c g o d) e f (shut e' f') = absurd (no_start (close_seen e' f') refl r)
  rest_items (also r c g o d) e f (gap e' f' j) = absurd (no_start (comma_seen e' f') refl r)
  rest_items (also r c g o d) e f (last r' c' e' f') =
      let s = ends (passes r (omega arith) (split r' (omega arith)) c') c in
      absurd (two_tokens (close_seen e' f') (seen_at (sym s.place) (comma_seen g o)) refl)
  rest_items (also r c g o d) e f (more r' c' e' f' j) =
      let s = ends (passes r (omega arith) (split r' (omega arith)) c') c in
      let q = rest_items d e f (move_items (move_tok comma g s.place e') j) in
      record { trees = λ i. cons (s.tree i) (q.trees i); places = q.places }
