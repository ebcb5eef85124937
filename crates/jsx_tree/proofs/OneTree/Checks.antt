-- What is computed of the tables, once for all rows.
use Rattle.jsx_tree.proofs.OneTree.Readings.{is_angle}
use Rattle.std.specs.Prelude.{◌≡◌, ℕ, suc, List, [], ◌∷◌, codes, Bool, true, false, cond, nat_eq, nat_le, not, ◌&&◌, ◌||◌, refl}
use Rattle.jsx_base.specs.Token.{Text, Mode, Operator, TokenKind, IdentifierName, Punctuator, kind_number, same, among}
use Rattle.jsx_tree.specs.Signs.{Sign, Unless, SameLine}
use Rattle.jsx_tree.specs.Kinds.{Kind}
use Rattle.jsx_tree.specs.Nonterminals.{is_value_word}
use Rattle.jsx_tree.proofs.OneTree.Table.{code, kinds}
use Rattle.jsx_tree.proofs.OneTree.Readings.{Step, tok, guard, lit, sub, whole, many, chain, spans, quoted, row, tail, level, grows, reach_of, is_arrow, is_paren, is_link, is_tagged, is_quote, is_slash}
use Rattle.jsx_tree.specs.Spelling.{mode_of}

abbrev pub is_op : Mode → Bool
is_op Operator = true
is_op m = false

abbrev pub opening_words : List Text
opening_words = codes "new" ∷ codes "super" ∷ codes "import" ∷ codes "delete" ∷ codes "void" ∷ codes "typeof" ∷ codes "function" ∷ codes "class" ∷ []

abbrev pub opening_marks : List Text
opening_marks = codes "/" ∷ codes "/=" ∷ codes "<" ∷ codes "<=" ∷ codes "<<" ∷ codes "<<=" ∷ codes "{" ∷ codes "(" ∷ codes "[" ∷ codes "..." ∷ codes "+" ∷ codes "-" ∷ codes "~" ∷ codes "!" ∷ codes "++" ∷ codes "--" ∷ []

-- what an expression or a pattern may begin with: a token's kind, by its number, and text
abbrev pub starts : ℕ → Text → Bool
starts n t =
    cond (nat_eq n 0) (is_value_word t || among t opening_words) (cond (nat_eq n 1) (among t opening_marks) (nat_eq n 2 || (nat_eq n 3 || (nat_eq n 4 || (nat_eq n 6 || nat_eq n 7)))))

abbrev pub blocks : Sign → Text → Bool
blocks (Unless ts) t = among t ts
blocks s t = false

abbrev pub same_token : TokenKind → Text → TokenKind → Text → Bool
same_token k t l u = nat_eq (kind_number k) (kind_number l) && same t u

-- two first symbols that don't stand at one place
abbrev pub clash : Step → Step → Bool
clash (tok m k t) (tok n l u) = is_op m && (is_op n && not (same_token k t l u))
clash (tok m k t) (guard s) = is_op m && blocks s t
clash (tok m k t) (sub n b) = is_op m && not (starts (kind_number k) t)
clash (sub n b) (tok m k t) = is_op m && not (starts (kind_number k) t)
clash (tok m k t) (lit s) = is_op m && (is_op (mode_of s) && not (nat_eq (kind_number k) (kind_number s)))
clash (lit s) (tok m k t) = is_op m && (is_op (mode_of s) && not (nat_eq (kind_number k) (kind_number s)))
clash (guard s) (tok m k t) = is_op m && blocks s t
clash (tok m k t) chain = is_op m && not (same_token k t Punctuator (codes "?."))
clash chain (tok m k t) = is_op m && not (same_token k t Punctuator (codes "?."))
clash (lit s) (lit r) = is_op (mode_of s) && (is_op (mode_of r) && not (nat_eq (kind_number s) (kind_number r)))
clash (tok m k t) quoted = is_op m && not (is_quote k)
clash quoted (tok m k t) = is_op m && not (is_quote k)
clash chain quoted = true
clash quoted chain = true
clash p q = false

abbrev pub same_bool : Bool → Bool → Bool
same_bool true b = b
same_bool false b = not b

-- two symbols that read one thing, where they stand at one place
abbrev pub joins : Step → Step → Bool
joins (tok m k t) (tok n l u) = is_op m && (is_op n && same_token k t l u)
joins (lit s) (lit r) = is_op (mode_of s) && (is_op (mode_of r) && nat_eq (kind_number s) (kind_number r))
joins (sub n b) (sub m c) = nat_eq n m && (nat_le n b && nat_le n c)
joins whole whole = true
joins (many h u) (many i v) = same_bool h i && (same u v && (not (starts 1 u) && not (same u (codes ","))))
joins chain chain = true
joins spans spans = true
joins quoted quoted = true
joins p q = false

abbrev pub apart : List Step → List Step → Bool
apart [] qs = false
apart (p ∷ ps) [] = false
apart (guard s ∷ ps) (q ∷ qs) = clash (guard s) q || apart ps (q ∷ qs)
apart (p ∷ ps) (q ∷ qs) = clash p q || (joins p q && apart ps qs)

abbrev pub twin : List Step → List Step → Bool
twin [] [] = true
twin [] (q ∷ qs) = false
twin (guard s ∷ ps) qs = twin ps qs
twin (p ∷ ps) [] = false
twin (p ∷ ps) (q ∷ qs) = joins p q && twin ps qs

-- without guards, and without those on the line's end alone
abbrev pub bare : List Step → List Step
bare [] = []
bare (guard s ∷ ps) = bare ps
bare (p ∷ ps) = p ∷ bare ps

abbrev pub no_line : List Step → List Step
no_line [] = []
no_line (guard SameLine ∷ ps) = no_line ps
no_line (p ∷ ps) = p ∷ no_line ps

-- what a row begins with: of an expression one of those tokens
abbrev pub opens : List Step → Bool
opens (tok Operator k t ∷ ps) = starts (kind_number k) t
opens (lit s ∷ ps) = is_op (mode_of s) && is_quote s
opens ps = false

-- a row doesn't begin with a word that is an expression, nor with a literal
abbrev pub no_word : List Step → Bool
no_word (tok Operator k t ∷ ps) = nat_eq (kind_number k) 1 || (nat_eq (kind_number k) 0 && not (is_value_word t))
no_word (lit s ∷ ps) = is_op (mode_of s) && is_quote s
no_word ps = false

abbrev pub no_open : List Step → Bool
no_open (tok Operator k t ∷ ps) = not (same_token k t Punctuator (codes "(")) && not (same_token k t Punctuator (codes "{"))
no_open (lit s ∷ ps) = is_op (mode_of s) && is_quote s
no_open ps = false

abbrev pub no_slash : List Step → Bool
no_slash (tok Operator k t ∷ ps) = not (is_slash t)
no_slash (lit s ∷ ps) = is_op (mode_of s) && is_quote s
no_slash ps = false

abbrev pub reaches : Bool → List Step → ℕ → Bool
reaches b (guard s ∷ ps) n = reaches b ps n
reaches b (tok Operator k t ∷ ps) n = nat_eq (reach_of (kind_number k) t b) n
reaches b (chain ∷ ps) n = nat_eq n 18
reaches b (quoted ∷ ps) n = nat_eq n 19
reaches b ps n = false

abbrev pub on_line : List Step → Bool
on_line (guard SameLine ∷ ps) = true
on_line ps = false

abbrev pub goes_by : List Step → ℕ → Bool
goes_by ps n = reaches false ps n && (on_line ps || reaches true ps n)

-- ---- over all kinds

abbrev pub every : (Kind → Bool) → List Kind → Bool
every p [] = true
every p (k ∷ ks) = p k && every p ks

abbrev pub pair_ok : List Step → List Step → Bool
pair_ok ps qs = twin ps (bare qs) || apart ps (no_line qs)

abbrev pub heads_pair : Kind → Kind → Bool
heads_pair k l =
    grows k || (grows l || (is_arrow k || (is_arrow l || (is_paren k || (is_paren l
    || ((nat_eq (code k) (code l) && twin (row k) (bare (row l))) || apart (row k) (no_line (row l))))))))

abbrev pub tails_pair : Kind → Kind → Bool
tails_pair k l =
    not (grows k) || (not (grows l)
    || ((nat_eq (code k) (code l) && twin (tail k) (bare (tail l))) || apart (tail k) (no_line (tail l))))

abbrev pub one_ok : Kind → Bool
one_ok k =
    cond (grows k) (goes_by (tail k) (suc (level k)) && (not (nat_eq (code k) 3) && not (nat_eq (code k) 19)))
    (is_arrow k || (is_paren k || (opens (row k) && (no_word (row k) && ((is_paren k || no_open (row k)) && ((not (nat_eq (code k) 3) || is_paren k) && not (nat_eq (code k) 19)))))))

-- the links of a chain
abbrev pub links_pair : Kind → Kind → Bool
links_pair k l = not (is_link k) || (not (is_link l) || ((nat_eq (code k) (code l) && twin (row k) (bare (row l))) || apart (row k) (no_line (row l))))

abbrev pub link_ok : Kind → Bool
link_ok k = not (is_link k) || ((goes_by (row k) 18 || goes_by (row k) 19) && (not (is_arrow k) && not (nat_eq (code k) 3)))

-- templates behind a tag
abbrev pub opens_quote : List Step → Bool
opens_quote (lit s ∷ ps) = is_op (mode_of s) && is_quote s
opens_quote ps = false

abbrev pub tagged_pair : Kind → Kind → Bool
tagged_pair k l = not (is_tagged k) || (not (is_tagged l) || ((nat_eq (code k) (code l) && twin (row k) (bare (row l))) || apart (row k) (no_line (row l))))

abbrev pub tagged_ok : Kind → Bool
tagged_ok k = not (is_tagged k) || (opens_quote (row k) && (not (is_arrow k) && not (nat_eq (code k) 3)))

pub all_tagged : every (λ k. every (tagged_pair k) kinds) kinds ≡ true
all_tagged = refl

pub tagged_ones : every tagged_ok kinds ≡ true
tagged_ones = refl

pub links : every (λ k. every (links_pair k) kinds) kinds ≡ true
links = refl

pub link_ones : every link_ok kinds ≡ true
link_ones = refl

-- nor with the word of a function or a class
abbrev pub no_opener : List Step → Bool
no_opener (tok Operator k t ∷ ps) = not (same_token k t IdentifierName (codes "function")) && not (same_token k t IdentifierName (codes "class"))
no_opener (lit s ∷ ps) = is_op (mode_of s) && is_quote s
no_opener ps = false

abbrev pub opener_ok : Kind → Bool
opener_ok k = grows k || (is_arrow k || (is_paren k || no_opener (row k)))

pub opener_ones : every opener_ok kinds ≡ true
opener_ones = refl

abbrev pub slash_ok : Kind → Bool
slash_ok k = grows k || (is_arrow k || (is_paren k || no_slash (row k)))

-- nor with the bracket of a tag
abbrev pub no_tag : List Step → Bool
no_tag (tok Operator k t ∷ ps) = not (is_angle t)
no_tag (lit s ∷ ps) = is_op (mode_of s) && is_quote s
no_tag ps = false

abbrev pub tag_ok : Kind → Bool
tag_ok k = grows k || (is_arrow k || (is_paren k || no_tag (row k)))

pub tag_ones : every tag_ok kinds ≡ true
tag_ones = refl

pub slash_ones : every slash_ok kinds ≡ true
slash_ones = refl

-- a row doesn't begin with an arrow and a brace
abbrev pub past_arrow : List Step → Bool
past_arrow (guard (Unless ts) ∷ ps) = among (codes "{") ts || past_arrow ps
past_arrow (tok Operator k t ∷ ps) = not (same_token k t Punctuator (codes "{"))
past_arrow ps = false

abbrev pub no_block : List Step → Bool
no_block (guard s ∷ ps) = no_block ps
no_block (tok Operator k t ∷ ps) = not (same_token k t Punctuator (codes "=>")) || past_arrow ps
no_block (chain ∷ ps) = true
no_block (quoted ∷ ps) = true
no_block ps = false

abbrev pub unblocked : Kind → Bool
unblocked k = not (grows k) || no_block (tail k)

pub block_ones : every unblocked kinds ≡ true
block_ones = refl

pub ones : every one_ok kinds ≡ true
ones = refl

pub heads : every (λ k. every (heads_pair k) kinds) kinds ≡ true
heads = refl

pub tails : every (λ k. every (tails_pair k) kinds) kinds ≡ true
tails = refl
