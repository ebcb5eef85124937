-- The byte that is told of a name, or of a `default`, is that of its place.
use Rattle.std.proofs.Common.{◌≡◌, ℕ, zero, suc, List, [], ◌∷◌, ◌++◌, codes, Bool, true, false, cond, refl, sym, ap, ◌∙◌, subst}
use Rattle.std.specs.Prelude.{not, ◌&&◌, ◌||◌}
use Rattle.jsx_base.specs.Token.{Text, TokenKind, IdentifierName, JsxName, same}
use Rattle.jsx_base.specs.declared.place.BytePos.{BytePos}
use Rattle.jsx_tree.specs.declared.text.Text.TheVariants.{Read, Made}
use Rattle.jsx_tree.specs.Kinds.{Exported, From, Specifier, SpecifierAs, ExportAllAs, ExportDefaultFn, ExportDefaultClass, ExportDefaultExpr, Call, Parenthesized, Kind, program, expression, Tree, leaf, node, list, Forest, none, part}
use Rattle.jsx_tree.specs.Nonterminals.{Nonterminal, TagName, MemberRoot, is_ident}
use Rattle.jsx_tree.specs.Form.{Position, position, positions}
use Rattle.jsx_tree.specs.Scopes.{Path, below, Sort, binds, is_name_at}
use Rattle.jsx_tree.specs.Clashes.{export_name, eval_at}
use Rattle.jsx_tree.specs.Spans.{Extent, extent, Placed, leaf_at, node_at, default_at, list_at, Places, end, and, Claim, spans, comes, default_is, Told, tells, Tales, no_tales, tale, AllHold, has_text, has_default, is_whole, IsTold, AreTold}
use Rattle.jsx_tree.proofs.Tokens.{and_left, and_right, same_is}
use Rattle.jsx_names.specs.Events.{Event, Declares, Refers, Way, Simply, Exported', InHead, is_head, Mode, Binding, exporting, of_leaf, of_node, wanted, exported, called}
use Rattle.jsx_names.specs.Heard.{bare_all}
use Rattle.jsx_names.proofs.ScopeNames.{never}
use Rattle.jsx_heard.specs.Bytes.{byte_at, byte_among, byte_in, bytes_in, bytes_of}
use Rattle.jsx_heard.specs.Said.{Met, naming, is_told, leaf_said, each_met, text_at, default_in, its, head_tale, tail_tales, node_said}
use Rattle.jsx_heard.proofs.SaidHeard.{told_alike}
use Rattle.jsx_heard.proofs.Shaped.{is_paired, is_default, is_named, IsShaped, AreShaped}

-- ---- claims

text_is : (e : Extent) (at : ℕ) (cs : List Claim) → AllHold e at cs → has_text cs ≡ true → (text_at cs).0 ≡ at
text_is e at [] h t = never t
text_is (extent lo next hi) at (comes (Read s b) ∷ cs) h t = h.0
text_is (extent lo next hi) at (comes (Made s o) ∷ cs) h t = absurd h.0
text_is e at (spans o ∷ cs) h t = text_is e at cs h.1 t
text_is e at (default_is b ∷ cs) h t = text_is e at cs h.1 t

pub default_byte : (e : Extent) (at : ℕ) (cs : List Claim) → AllHold e at cs → has_default cs ≡ true → (default_in cs).0 ≡ at
default_byte e at [] h t = never t
default_byte (extent lo next hi) at (default_is b ∷ cs) h t = h.0
default_byte e at (spans o ∷ cs) h t = default_byte e at cs h.1 t
default_byte e at (comes a ∷ cs) h t = default_byte e at cs h.1 t

abbrev pub is_text_told : Told → Bool
is_text_told (tells cs ds) = has_text cs

-- the texts that are told wherever they stand
abbrev pub tells_text : TokenKind → Text → Bool
tells_text IdentifierName t = is_ident t
tells_text JsxName t = true
tells_text s t = false

whole_text : (s : TokenKind) (t : Text) (cs : List Claim) → is_whole s t cs ≡ true → tells_text s t ≡ true → has_text cs ≡ true
whole_text IdentifierName t cs w h = by (is_ident t) (has_text cs) w h
  where
    by : (a b : Bool) → not a || b ≡ true → a ≡ true → b ≡ true
    by true b w h = w
    by false b w h = never h
whole_text JsxName t cs w h = w
whole_text s t cs w h = never h

-- ---- a leaf

pub text_byte : (c : Nonterminal) (s : TokenKind) (t : Text) (p : Placed) (d : Told) → IsShaped c (leaf s t) p → IsTold d p → is_text_told d ≡ true → (its d).0 ≡ byte_at [] p
text_byte c s t (leaf_at at e k u) (tells cs ds) h g w = text_is e at cs g.0 w
text_byte c s t (node_at e k ps) d h g w = absurd h
text_byte c s t (default_at at e k ps) d h g w = absurd h
text_byte c s t (list_at ps) d h g w = absurd h

pub leaf_byte : (c : Nonterminal) (s : TokenKind) (t : Text) (p : Placed) (d : Told) → IsShaped c (leaf s t) p → IsTold d p → tells_text s t ≡ true → (its d).0 ≡ byte_at [] p
leaf_byte c s t (leaf_at at e k u) (tells cs ds) h g w =
    text_is e at cs g.0 (whole_text s t cs (subst (λ z. is_whole s z cs ≡ true) h.1.0 (subst (λ z. is_whole z u cs ≡ true) h.0 g.1.0)) w)
leaf_byte c s t (node_at e k ps) d h g w = absurd h
leaf_byte c s t (default_at at e k ps) d h g w = absurd h
leaf_byte c s t (list_at ps) d h g w = absurd h

name_text : (q : Kind) (c : Nonterminal) (s : TokenKind) (t : Text) → is_name_at q c s t ≡ true → tells_text s t ≡ true
name_text q c IdentifierName t h = and_left (is_ident t) _ h
name_text q TagName JsxName t h = refl
name_text q MemberRoot JsxName t h = refl
name_text q c s t h = never h

-- where names are bound a mode says so
abbrev pub suits : Mode → Nonterminal → Bool
suits (Binding w r) c = binds c
suits m c = true

bound_text : (c : Nonterminal) (t : Text) → binds c ≡ true → is_named c IdentifierName t ≡ true → is_ident t ≡ true
bound_text c t u n = by (binds c) u n
  where
    by : (b : Bool) → b ≡ true → not b || is_ident t ≡ true → is_ident t ≡ true
    by true u n = n
    by false u n = never u

binding_bytes : (w : Way) (r : Sort) (t : Text) (p : Path) (b : BytePos) (q : Placed) → b.0 ≡ byte_at p q → bytes_of (each_met b (Declares (is_head w) r t [] ∷ exporting w t [])) ≡ bytes_in q (Declares (is_head w) r t p ∷ exporting w t p)
binding_bytes Exported' r t p b q e = ap (λ z. z ∷ z ∷ []) e
binding_bytes Simply r t p b q e = ap (λ z. z ∷ []) e
binding_bytes InHead r t p b q e = ap (λ z. z ∷ []) e

refer_bytes : (k : Kind) (c : Nonterminal) (p : Path) (s : TokenKind) (t : Text) (b : BytePos) (q : Placed) → (tells_text s t ≡ true → b.0 ≡ byte_at p q)
    → bytes_of (each_met b (cond (is_told (naming k c) s t) (Refers t [] ∷ []) [])) ≡ bytes_in q (cond (is_name_at k c s t) (Refers t p ∷ []) [])
refer_bytes k c p s t b q f = ap (λ z. bytes_of (each_met b (cond z (Refers t [] ∷ []) []))) (told_alike k c s t) ∙ by (is_name_at k c s t) (λ e. f (name_text k c s t e))
  where
    by : (a : Bool) → (a ≡ true → b.0 ≡ byte_at p q) → bytes_of (each_met b (cond a (Refers t [] ∷ []) [])) ≡ bytes_in q (cond a (Refers t p ∷ []) [])
    by true g = ap (λ z. z ∷ []) (g refl)
    by false g = refl

pub leaf_bytes : (m : Mode) (k : Kind) (c : Nonterminal) (p : Path) (s : TokenKind) (t : Text) (b : BytePos) (q : Placed) → suits m c ≡ true → is_named c s t ≡ true → (tells_text s t ≡ true → b.0 ≡ byte_at p q)
    → bytes_of (each_met b (leaf_said m (naming k c) s t)) ≡ bytes_in q (of_leaf m k c p s t)
leaf_bytes (Binding w r) k c p IdentifierName t b q u n f = binding_bytes w r t p b q (f (bound_text c t u n))
leaf_bytes m k c p s t b q u n f = refer_bytes k c p s t b q f

-- ---- the first two parts of a node

abbrev pub far : ℕ → ℕ → ℕ
far zero i = i
far (suc j) i = far j (suc i)

-- below a path, from number i on, stand these places
abbrev pub Among : Path → ℕ → Places → Placed → Type 0
Among p i ps q = (j : ℕ) (is : Path) → byte_at (p ++ far j i ∷ is) q ≡ byte_among j is ps

abbrev is_leaf : Tree → Bool
is_leaf (leaf s t) = true
is_leaf t = false

named_part : (c : Nonterminal) (t : Tree) (p : Placed) (d : Told) → IsShaped c t p → IsTold d p → is_text_told d ≡ true → is_leaf t ≡ true → (its d).0 ≡ byte_at [] p
named_part c (leaf s t) p d h g o l = text_byte c s t p d h g o
named_part c (node k ts) p d h g o l = never l
named_part c (list ts) p d h g o l = never l

first_name : (ss : List Position) (n : Tree) (ts : Forest) (p : Path) (ds : Tales) (ps : Places) (q : Placed) → AreShaped ss (part n ts) ps → AreTold ds ps → Among p 0 ps q → is_text_told (head_tale ds) ≡ true
    → is_leaf n ≡ true → (its (head_tale ds)).0 ≡ byte_at (below p 0) q
first_name (position f c r b a ∷ ss) n ts p (tale d ds) (and x ps) q h g m o l = named_part c n x d h.0 g.0 o l ∙ sym (m 0 [])
first_name (position f c r b a ∷ ss) n ts p no_tales (and x ps) q h g m o l = absurd g
first_name (position f c r b a ∷ ss) n ts p ds end q h g m o l = absurd h
first_name [] n ts p ds ps q h g m o l = absurd h

second_name : (ss : List Position) (u n : Tree) (ts : Forest) (p : Path) (ds : Tales) (ps : Places) (q : Placed) → AreShaped ss (part u (part n ts)) ps → AreTold ds ps → Among p 0 ps q → is_text_told (head_tale (tail_tales ds)) ≡ true
    → is_leaf n ≡ true → (its (head_tale (tail_tales ds))).0 ≡ byte_at (below p 1) q
second_name (position f' c' r' b' a' ∷ position f c r b a ∷ ss) u n ts p (tale d' (tale d ds)) (and y (and x ps)) q h g m o l = named_part c n x d h.1.0 g.1.0 o l ∙ sym (m 1 [])
second_name (position f' c' r' b' a' ∷ position f c r b a ∷ ss) u n ts p (tale d' no_tales) (and y (and x ps)) q h g m o l = absurd g.1
second_name (position f' c' r' b' a' ∷ position f c r b a ∷ ss) u n ts p ds (and y end) q h g m o l = absurd h.1
second_name (position f' c' r' b' a' ∷ position f c r b a ∷ ss) u n ts p no_tales (and y (and x ps)) q h g m o l = absurd g
second_name (position f' c' r' b' a' ∷ position f c r b a ∷ ss) u n ts p ds end q h g m o l = absurd h
second_name (position f' c' r' b' a' ∷ []) u n ts p ds end q h g m o l = absurd h
second_name (position f' c' r' b' a' ∷ []) u n ts p ds (and y ps) q h g m o l = absurd h.1
second_name [] u n ts p ds ps q h g m o l = absurd h

first_text : (ss : List Position) (s : TokenKind) (t : Text) (ts : Forest) (p : Path) (ds : Tales) (ps : Places) (q : Placed) → AreShaped ss (part (leaf s t) ts) ps → AreTold ds ps → Among p 0 ps q → tells_text s t ≡ true
    → (its (head_tale ds)).0 ≡ byte_at (below p 0) q
first_text (position f c r b a ∷ ss) s t ts p (tale d ds) (and x ps) q h g m o = leaf_byte c s t x d h.0 g.0 o ∙ sym (m 0 [])
first_text (position f c r b a ∷ ss) s t ts p no_tales (and x ps) q h g m o = absurd g
first_text (position f c r b a ∷ ss) s t ts p ds end q h g m o = absurd h
first_text [] s t ts p ds ps q h g m o = absurd h

first_unpaired : (ss : List Position) (k : Kind) (us ts : Forest) (ps : Places) → AreShaped ss (part (node k us) ts) ps → is_paired k ≡ false
first_unpaired (position f c r b a ∷ ss) k us ts (and (node_at e l qs) ps) h = h.0.0
first_unpaired (position f c r b a ∷ ss) k us ts (and (default_at at e l qs) ps) h = h.0.0
first_unpaired (position f c r b a ∷ ss) k us ts (and (leaf_at at e l u) ps) h = absurd h.0
first_unpaired (position f c r b a ∷ ss) k us ts (and (list_at qs) ps) h = absurd h.0
first_unpaired (position f c r b a ∷ ss) k us ts end h = absurd h
first_unpaired [] k us ts ps h = absurd h

-- ---- what a node exports, wants and calls

bytes_append : (xs ys : List Met) → bytes_of (xs ++ ys) ≡ bytes_of xs ++ bytes_of ys
bytes_append [] ys = refl
bytes_append (x ∷ xs) ys = ap (λ z. x.at.0 ∷ z) (bytes_append xs ys)

in_append : (q : Placed) (es fs : List Event) → bytes_in q (es ++ fs) ≡ bytes_in q es ++ bytes_in q fs
in_append q [] fs = refl
in_append q (e ∷ es) fs = ap (λ z. byte_in q e ∷ z) (in_append q es fs)

pub join : (q : Placed) (xs ys : List Met) (es fs : List Event) → bytes_of xs ≡ bytes_in q es → bytes_of ys ≡ bytes_in q fs → bytes_of (xs ++ ys) ≡ bytes_in q (es ++ fs)
join q xs ys es fs e f = bytes_append xs ys ∙ (ap (λ z. z ++ bytes_of ys) e ∙ (ap (λ z. bytes_in q es ++ z) f ∙ sym (in_append q es fs)))

exported_bytes : (b : BytePos) (o p : Path) (n : Tree) (q : Placed) → (is_leaf n ≡ true → b.0 ≡ byte_at p q) → bytes_of (each_met b (bare_all (exported (export_name o n)))) ≡ bytes_in q (exported (export_name p n))
exported_bytes b o p (leaf IdentifierName t) q f = ap (λ z. z ∷ []) (f refl)
exported_bytes b o p (leaf s t) q f = refl
exported_bytes b o p (node k ts) q f = refl
exported_bytes b o p (list ts) q f = refl

wanted_bytes : (b : BytePos) (o p : Path) (n : Tree) (q : Placed) → (is_leaf n ≡ true → b.0 ≡ byte_at p q) → bytes_of (each_met b (bare_all (wanted (export_name o n)))) ≡ bytes_in q (wanted (export_name p n))
wanted_bytes b o p (leaf IdentifierName t) q f = ap (λ z. z ∷ []) (f refl)
wanted_bytes b o p (leaf s t) q f = refl
wanted_bytes b o p (node k ts) q f = refl
wanted_bytes b o p (list ts) q f = refl

eval_ident : (t : Text) → same t (codes "eval") ≡ true → is_ident t ≡ true
eval_ident t h = ap is_ident (same_is t (codes "eval") h)

called_bytes : (b : BytePos) (o p : Path) (t : Tree) (q : Placed) → ((s : TokenKind) (u : Text) → t ≡ leaf s u → tells_text s u ≡ true → b.0 ≡ byte_at p q) → ((k : Kind) (us : Forest) → t ≡ node k us → is_paired k ≡ false)
    → bytes_of (each_met b (bare_all (called (eval_at o t)))) ≡ bytes_in q (called (eval_at p t))
called_bytes b o p (leaf IdentifierName t) q f g = by (same t (codes "eval")) (λ e. f IdentifierName t refl (eval_ident t e))
  where
    by : (a : Bool) → (a ≡ true → b.0 ≡ byte_at p q) → bytes_of (each_met b (bare_all (called (cond a (o ∷ []) [])))) ≡ bytes_in q (called (cond a (p ∷ []) []))
    by true h = ap (λ z. z ∷ []) (h refl)
    by false h = refl
called_bytes b o p (leaf s t) q f g = refl
called_bytes b o p (node (expression Parenthesized) ts) q f g = never (sym (g (expression Parenthesized) ts refl))
called_bytes b o p (node k ts) q f g = refl
called_bytes b o p (list ts) q f g = refl

-- what exports names tells their texts
abbrev pub own_told : Kind → Tales → Bool
own_told (program (Specifier Exported)) ds = is_text_told (head_tale ds)
own_told (program (Specifier From)) ds = is_text_told (head_tale ds)
own_told (program (SpecifierAs Exported)) ds = is_text_told (head_tale ds) && is_text_told (head_tale (tail_tales ds))
own_told (program (SpecifierAs From)) ds = is_text_told (head_tale ds) && is_text_told (head_tale (tail_tales ds))
own_told (program ExportAllAs) ds = is_text_told (head_tale ds)
own_told k ds = true

call_bytes : (ss : List Position) (t : Tree) (ts : Forest) (p : Path) (ds : Tales) (ps : Places) (q : Placed) → AreShaped ss (part t ts) ps → AreTold ds ps → Among p 0 ps q
    → bytes_of (each_met (its (head_tale ds)) (bare_all (called (eval_at (below [] 0) t)))) ≡ bytes_in q (called (eval_at (below p 0) t))
call_bytes ss t ts p ds ps q h g m =
    called_bytes (its (head_tale ds)) (below [] 0) (below p 0) t q
    (λ s u e o. first_text ss s u ts p ds ps q (subst (λ z. AreShaped ss (part z ts) ps) e h) g m o)
    (λ k us e. first_unpaired ss k us ts ps (subst (λ z. AreShaped ss (part z ts) ps) e h))

pub own_bytes : (k : Kind) (p : Path) (ts : Forest) (cs : List Claim) (ds : Tales) (ps : Places) (q : Placed) → AreShaped (positions k) ts ps → AreTold ds ps → own_told k ds ≡ true → Among p 0 ps q → (is_default k ≡ true → (default_in cs).0 ≡ byte_at p q)
    → bytes_of (node_said k ts cs ds) ≡ bytes_in q (of_node k p ts)
own_bytes (program (Specifier Exported)) p (part n none) cs ds ps q h g o m f =
    join q (each_met (its (head_tale ds)) (bare_all (wanted (export_name (below [] 0) n)))) (each_met (its (head_tale ds)) (bare_all (exported (export_name (below [] 0) n))) ++ []) (wanted (export_name (below p 0) n)) (exported (export_name (below p 0) n) ++ [])
    (wanted_bytes (its (head_tale ds)) (below [] 0) (below p 0) n q (first_name (positions (program (Specifier Exported))) n none p ds ps q h g m o))
    (join q (each_met (its (head_tale ds)) (bare_all (exported (export_name (below [] 0) n)))) [] (exported (export_name (below p 0) n)) [] (exported_bytes (its (head_tale ds)) (below [] 0) (below p 0) n q (first_name (positions (program (Specifier Exported))) n none p ds ps q h g m o)) refl)
own_bytes (program (Specifier Exported)) p (part n (part u us)) cs ds ps q h g o m f =
    join q (each_met (its (head_tale ds)) (bare_all (wanted (export_name (below [] 0) n)))) [] (wanted (export_name (below p 0) n)) []
    (wanted_bytes (its (head_tale ds)) (below [] 0) (below p 0) n q (first_name (positions (program (Specifier Exported))) n (part u us) p ds ps q h g m o)) refl
own_bytes (program (Specifier From)) p (part n none) cs ds ps q h g o m f =
    join q (each_met (its (head_tale ds)) (bare_all (exported (export_name (below [] 0) n)))) [] (exported (export_name (below p 0) n)) [] (exported_bytes (its (head_tale ds)) (below [] 0) (below p 0) n q (first_name (positions (program (Specifier From))) n none p ds ps q h g m o)) refl
own_bytes (program (SpecifierAs Exported)) p (part n none) cs ds ps q h g o m f =
    join q (each_met (its (head_tale ds)) (bare_all (wanted (export_name (below [] 0) n)))) [] (wanted (export_name (below p 0) n)) []
    (wanted_bytes (its (head_tale ds)) (below [] 0) (below p 0) n q (first_name (positions (program (SpecifierAs Exported))) n none p ds ps q h g m (and_left (is_text_told (head_tale ds)) (is_text_told (head_tale (tail_tales ds))) o))) refl
own_bytes (program (SpecifierAs Exported)) p (part n (part u (part v us))) cs ds ps q h g o m f =
    join q (each_met (its (head_tale ds)) (bare_all (wanted (export_name (below [] 0) n)))) [] (wanted (export_name (below p 0) n)) []
    (wanted_bytes (its (head_tale ds)) (below [] 0) (below p 0) n q (first_name (positions (program (SpecifierAs Exported))) n (part u (part v us)) p ds ps q h g m (and_left (is_text_told (head_tale ds)) (is_text_told (head_tale (tail_tales ds))) o))) refl
own_bytes (program (SpecifierAs Exported)) p (part n (part u none)) cs ds ps q h g o m f =
    join q (each_met (its (head_tale ds)) (bare_all (wanted (export_name (below [] 0) n)))) (each_met (its (head_tale (tail_tales ds))) (bare_all (exported (export_name (below [] 1) u))) ++ []) (wanted (export_name (below p 0) n)) (exported (export_name (below p 1) u) ++ [])
    (wanted_bytes (its (head_tale ds)) (below [] 0) (below p 0) n q (first_name (positions (program (SpecifierAs Exported))) n (part u none) p ds ps q h g m (and_left (is_text_told (head_tale ds)) (is_text_told (head_tale (tail_tales ds))) o)))
    (join q (each_met (its (head_tale (tail_tales ds))) (bare_all (exported (export_name (below [] 1) u)))) [] (exported (export_name (below p 1) u)) []
    (exported_bytes (its (head_tale (tail_tales ds))) (below [] 1) (below p 1) u q (second_name (positions (program (SpecifierAs Exported))) n u none p ds ps q h g m (and_right (is_text_told (head_tale ds)) (is_text_told (head_tale (tail_tales ds))) o))) refl)
own_bytes (program (SpecifierAs From)) p (part n (part u none)) cs ds ps q h g o m f =
    join q (each_met (its (head_tale (tail_tales ds))) (bare_all (exported (export_name (below [] 1) u)))) [] (exported (export_name (below p 1) u)) []
    (exported_bytes (its (head_tale (tail_tales ds))) (below [] 1) (below p 1) u q (second_name (positions (program (SpecifierAs From))) n u none p ds ps q h g m (and_right (is_text_told (head_tale ds)) (is_text_told (head_tale (tail_tales ds))) o))) refl
own_bytes (program ExportAllAs) p (part n ts) cs ds ps q h g o m f =
    join q (each_met (its (head_tale ds)) (bare_all (exported (export_name (below [] 0) n)))) [] (exported (export_name (below p 0) n)) [] (exported_bytes (its (head_tale ds)) (below [] 0) (below p 0) n q (first_name (positions (program ExportAllAs)) n ts p ds ps q h g m o)) refl
own_bytes (program ExportDefaultFn) p ts cs ds ps q h g o m f = ap (λ z. z ∷ []) (f refl)
own_bytes (program ExportDefaultClass) p ts cs ds ps q h g o m f = ap (λ z. z ∷ []) (f refl)
own_bytes (program ExportDefaultExpr) p ts cs ds ps q h g o m f = ap (λ z. z ∷ []) (f refl)
own_bytes (expression Call) p (part t ts) cs ds ps q h g o m f = call_bytes (positions (expression Call)) t ts p ds ps q h g m
own_bytes k p ts cs ds ps q h g o m f = refl
