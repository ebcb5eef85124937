-- Reading by the rows of the grammar, with what may stand behind each part. It takes more than the grammar does; the trees of the grammar are among it, and of these it says that a text has one, up to patterns and literals.
use Rattle.std.specs.Prelude.{◌≡◌, ℕ, zero, suc, ◌≤◌, List, [], ◌∷◌, ◌++◌, codes, Bool, true, false, cond, nat_eq, nat_le, IsTrue, not, ◌&&◌, ◌||◌}
use Rattle.jsx_base.specs.Token.{Text, Mode, Operand, Operator, TokenKind, IdentifierName, Punctuator, NumericLiteral, BigIntLiteral, StringLiteral, RegExpLiteral, NoSubstitution, TemplateHead, TemplateMiddle, TemplateTail, Elision, Lexeme, kind_number, token, no_token, same, among, breaks}
use Rattle.jsx_tree.specs.Signs.{AfterBlock, Sign, Tok, Unless, SameLine, Ends}
use Rattle.jsx_tree.specs.Kinds.{WithInit, RestPat, ObjectPat, PropertyPat, ShorthandPat, ShorthandInit, RestProperty, ParenTarget, ComputedKey, BinaryOp, Nullish, Or, And, BitOr, BitXor, BitAnd, Equal, Unequal, StrictEqual, StrictUnequal, Less, Greater, AtMost, AtLeast, InOp, InstanceOf, ShiftLeft, ShiftRight, ShiftOut, Add, Subtract, Multiply, Divide, Remainder, Exponentiate, Seq, Arrow, BareArrow, Call, Chain, NameLink, IndexLink, CallLink, Object, Property, Shorthand, Spread, Parenthesized, PlainTemplate, SubstitutedTemplate, TemplateSpan, Kind, function, expression, Tree, leaf, node, list, Forest, none, part, FunctionBody, program, ArrowBlock, BareArrowBlock}
use Rattle.jsx_tree.specs.Nonterminals.{Nonterminal, Expr, MemberObject, ObjectMember, SimpleTarget, Ident, BindingIdent, Name, TemplateOf, TemplatePart, NullishLeft, NewCallee, DotObject, level_of, binary, homes, is_value_word}
use Rattle.jsx_tree.specs.Grammar.{ListShape, Elisions, Fixed, Part, Many, Production, production}
use Rattle.jsx_tree.specs.Spelling.{mode_of}
use Rattle.jsx_tree.specs.Reading.{Place, Lost, At, forth, is_backquote}
use Rattle.jsx_tree.specs.Form.{leads, is_close}
use Rattle.jsx_tree.specs.Walk.{is_found}
use Rattle.jsx_tree.proofs.OneTree.Table.{code, scope}
use Rattle.jsx_tree.proofs.OneTree.Sealed.{is_member, Closed, Sealed, Filled}

-- ---- a row as reading goes along it

pub data Step : Type 0 where
  tok : Mode → TokenKind → Text → Step
  guard : Sign → Step
  -- a leaf of this kind
  lit : TokenKind → Step
  -- a part: the level at which it has ended, and the least level of what it may be
  sub : ℕ → ℕ → Step
  -- an expression of any level
  whole : Step
  -- a list, with holes or not, up to and with this token
  many : Bool → Text → Step
  -- the links of a chain
  chain : Step
  -- what stands in a template behind its head; a template behind a tag
  spans : Step
  quoted : Step

-- levels: as in the grammar up to 16, then 17 calls and chains, 18 members and the like, 19 all else
abbrev pub spread_out : ℕ → ℕ
spread_out n = cond (nat_le n 16) n (suc n)

abbrev pub home_level : List Nonterminal → ℕ
home_level [] = 19
home_level (Expr n ∷ cs) = spread_out n
home_level (c ∷ cs) = home_level cs

abbrev pub level : Kind → ℕ
level (function (WithInit r)) = 1
level (function (RestPat r)) = 1
level (expression Spread) = 1
level (expression Call) = 17
level (expression Chain) = 17
level k = home_level (homes k)

-- all that is at home there has this level or more
abbrev pub base : Nonterminal → ℕ
base (Expr n) = cond (nat_le n 17) n 19
base MemberObject = 17
base DotObject = 17
base NewCallee = 18
base SimpleTarget = 17
base NullishLeft = 3
base Ident = 19
base BindingIdent = 19
base Name = 19
base c = 1

-- the level at which a part has ended, by what stands behind it
abbrev pub low_of : Nonterminal → ℕ
low_of (Expr n) = n
low_of SimpleTarget = 16
low_of NewCallee = 18
low_of c = 1

abbrev pub low : Nonterminal → Production → ℕ
low c (Fixed (Tok m k t) ∷ ps) = cond (is_close t) 0 (low_of c)
low c ps = low_of c

abbrev pub close_of : Production → Text
close_of (Fixed (Tok m k t) ∷ ps) = t
close_of (q ∷ ps) = close_of ps
close_of [] = []

abbrev pub step_of : Nonterminal → Production → Step
step_of (TemplatePart s) ps = lit s
step_of TemplateOf ps = quoted
step_of Name ps = lit IdentifierName
step_of (Expr zero) ps = whole
step_of NewCallee ps = sub 18 18
step_of c ps = sub (low c ps) (base c)

abbrev pub holes : ListShape → Bool
holes Elisions = true
holes s = false

-- `b` where a list has taken its closing token
abbrev pub steps : Bool → Production → List Step
steps b [] = []
steps true (Fixed (Tok m k t) ∷ ps) = steps false ps
steps false (Fixed (Tok m k t) ∷ ps) = tok m k t ∷ steps false ps
steps b (Fixed (Unless ts) ∷ ps) = guard (Unless ts) ∷ steps b ps
steps b (Fixed SameLine ∷ ps) = guard SameLine ∷ steps b ps
steps b (Part c ∷ ps) = step_of c ps ∷ steps b ps
steps b (Many s c ∷ []) = chain ∷ []
steps b (Many s c ∷ Part d ∷ ps) = spans ∷ []
steps b (Many s c ∷ q ∷ ps) = many (holes s) (close_of (q ∷ ps)) ∷ steps true (q ∷ ps)
steps b (q ∷ ps) = steps b ps

abbrev pub row : Kind → List Step
row k = steps false (production k)

abbrev pub tail_of : Production → Production
tail_of [] = []
tail_of (q ∷ ps) = ps

-- what stands behind the first part of a kind that begins with one
abbrev pub tail : Kind → List Step
tail k = steps false (tail_of (production k))

abbrev pub parens : List Step
parens = tok Operator Punctuator (codes "(") ∷ many false (codes ")") ∷ []

-- ---- what goes on with an expression

pub data Entry : Type 0 where
  entry : Text → ℕ → Entry

abbrev pub of_op : BinaryOp → Entry
of_op o = entry (binary o) (suc (level_of o))

abbrev pub of_assign : BinaryOp → Entry
of_assign o = entry (binary o ++ codes "=") 2

abbrev pub ops : List BinaryOp
ops = Nullish ∷ Or ∷ And ∷ BitOr ∷ BitXor ∷ BitAnd ∷ Equal ∷ Unequal ∷ StrictEqual ∷ StrictUnequal ∷ Less ∷ Greater ∷ AtMost ∷ AtLeast ∷ InOp ∷ InstanceOf ∷ ShiftLeft ∷ ShiftRight ∷ ShiftOut ∷ Add ∷ Subtract ∷ Multiply ∷ Divide ∷ Remainder ∷ Exponentiate ∷ []

abbrev pub assigning : List BinaryOp
assigning = Nullish ∷ Or ∷ And ∷ BitOr ∷ BitXor ∷ BitAnd ∷ ShiftLeft ∷ ShiftRight ∷ ShiftOut ∷ Add ∷ Subtract ∷ Multiply ∷ Divide ∷ Remainder ∷ Exponentiate ∷ []

abbrev pub map_entries : (BinaryOp → Entry) → List BinaryOp → List Entry → List Entry
map_entries f [] es = es
map_entries f (o ∷ os) es = f o ∷ map_entries f os es

abbrev pub entries : List Entry
entries = entry (codes ",") 1 ∷ entry (codes "=") 2 ∷ entry (codes "=>") 2 ∷ entry (codes "?") 3 ∷ entry (codes "(") 18 ∷ entry (codes "?.") 18 ∷ entry (codes ".") 19 ∷ entry (codes "[") 19 ∷ map_entries of_assign assigning (map_entries of_op ops [])

abbrev pub lookup : Text → List Entry → ℕ
lookup t [] = 0
lookup t (entry u n ∷ es) = cond (same t u) n (lookup t es)

abbrev pub is_step : Text → Bool
is_step t = same t (codes "++") || same t (codes "--")

-- one more than the level of what a token goes on to, 0 for all others: by its kind's number. A `++` goes on with its line alone.
abbrev pub reach_of : ℕ → Text → Bool → ℕ
reach_of k t b =
    cond (is_backquote t) 19
    (cond (nat_eq k (kind_number Punctuator) || nat_eq k (kind_number IdentifierName)) (cond (is_step t) (cond b 0 17) (lookup t entries)) 0)

abbrev pub look : Place → Lexeme
look Lost = no_token []
look (At q e text) = token Operator (same q []) text

abbrev pub kind_at : Place → ℕ
kind_at x = kind_number (look x).kind

abbrev pub text_at : Place → Text
text_at x = (look x).raw

abbrev pub broken : Place → Bool
broken Lost = false
broken (At q e text) = breaks text

-- behind the block of an arrow a comma alone goes on
abbrev pub is_block : Place → Bool
is_block (At q AfterBlock text) = true
is_block x = false

abbrev pub block_reach : ℕ → Text → ℕ
block_reach k t = cond (nat_eq k 1 && same t (codes ",")) 1 0

abbrev pub ahead : Place → ℕ
ahead x = reach_of (kind_at x) (text_at x) (broken x)

abbrev pub reach : Place → ℕ
reach x = cond (is_block x) (block_reach (kind_at x) (text_at x)) (ahead x)

abbrev pub calm : ℕ → Place → Bool
calm n x = nat_le (reach x) n

-- ---- trees up to patterns and literals: an arrow's parameters are what parentheses hold

mutual
  pub data Flat : Type 0 where
    one : TokenKind → Text → Flat
    some : ℕ → Flats → Flat
    row_of : Flats → Flat

  pub data Flats : Type 0 where
    nil : Flats
    cons : Flat → Flats → Flats

abbrev pub seq_items : Flats → Flats
seq_items (cons (row_of ts) nil) = ts
seq_items ts = ts

abbrev pub unseq : Flat → Flats
unseq (some n ts) = cond (nat_eq n 19) (seq_items ts) (cons (some n ts) nil)
unseq t = cons t nil

abbrev pub paren_of : Flats → Flat
paren_of ts = some 3 (cons (row_of ts) nil)

abbrev pub in_parens : Flats → Flat
in_parens (cons e nil) = paren_of (unseq e)
in_parens ts = some 3 ts

abbrev pub arrow_of : ℕ → Flats → Flat
arrow_of n (cons p ts) = some n (cons (some 3 (cons p nil)) ts)
arrow_of n ts = some n ts

abbrev pub is_span : Kind → Bool
is_span (expression (TemplateSpan b)) = true
is_span k = false

-- the kinds that go on with an expression
abbrev pub grows : Kind → Bool
grows k = not (is_span k) && leads (production k)

abbrev pub is_arrow : Kind → Bool
is_arrow (expression Arrow) = true
is_arrow (expression ArrowBlock) = true
is_arrow k = false

-- kinds with a constructor of their own below
abbrev pub is_paren : Kind → Bool
is_paren (expression Parenthesized) = true
is_paren (function ParenTarget) = true
is_paren (function ComputedKey) = true
is_paren (expression (NameLink q)) = true
is_paren (expression (IndexLink q)) = true
is_paren (expression (CallLink q)) = true
is_paren (expression (PlainTemplate true)) = true
is_paren (expression (SubstitutedTemplate true)) = true
is_paren (expression (TemplateSpan b)) = true
is_paren (expression Object) = true
is_paren (expression Property) = true
is_paren (expression Shorthand) = true
is_paren (function (ObjectPat r)) = true
is_paren (function (PropertyPat r)) = true
is_paren (function (ShorthandPat r)) = true
is_paren (function (ShorthandInit r)) = true
is_paren (function (RestProperty r)) = true
is_paren k = false

abbrev pub made : Kind → Flats → Flat
made k ts = cond (is_arrow k) (arrow_of (code k) ts) (cond (nat_eq (code k) 3) (in_parens ts) (some (code k) ts))

abbrev mutual
  pub flat : Tree → Flat
  flat (leaf s t) = one s t
  flat (node k ts) = made k (flats ts)
  flat (list ts) = row_of (flats ts)

  pub flats : Forest → Flats
  flats none = nil
  flats (part t ts) = cons (flat t) (flats ts)

-- ---- what is read

abbrev pub may_be : TokenKind → Text → Bool
may_be IdentifierName t = is_value_word t
may_be NumericLiteral t = true
may_be BigIntLiteral t = true
may_be StringLiteral t = true
may_be k t = false

abbrev pub is_link : Kind → Bool
is_link (expression (NameLink q)) = true
is_link (expression (IndexLink q)) = true
is_link (expression (CallLink q)) = true
is_link k = false

abbrev pub is_tagged : Kind → Bool
is_tagged (expression (PlainTemplate true)) = true
is_tagged (expression (SubstitutedTemplate true)) = true
is_tagged k = false

abbrev pub brace : Sign
brace = Tok Operator Punctuator (codes "}")

abbrev pub is_slash : Text → Bool
is_slash t = same t (codes "/") || same t (codes "/=")

abbrev pub is_angle : Text → Bool
is_angle t = same t (codes "<") || (same t (codes "<=") || (same t (codes "<<") || same t (codes "<<=")))

-- the first tokens of templates
abbrev pub is_quote : TokenKind → Bool
is_quote NoSubstitution = true
is_quote TemplateHead = true
is_quote k = false

-- what a guard asks of the next token
abbrev pub holds : Sign → Place → Bool
holds (Unless ts) x = not (among (text_at x) ts)
holds SameLine x = not (broken x)
holds s x = true

abbrev pub may_key : TokenKind → Bool
may_key IdentifierName = true
may_key NumericLiteral = true
may_key BigIntLiteral = true
may_key StringLiteral = true
may_key k = false

-- what a key begins with: a token's kind, by its number, and text
abbrev pub key_start : ℕ → Text → Bool
key_start k t = nat_eq k 0 || (nat_eq k 2 || (nat_eq k 3 || (nat_eq k 4 || (nat_eq k 1 && same t (codes "[")))))

abbrev pub comma : Sign
comma = Tok Operator Punctuator (codes ",")

-- an arrow and its block, behind the parameters
pub record Blocked (y : Place) (cs : Forest) (z : Place) : Type 0 where
  pub behind : Place
  pub inside : Place
  pub last : Place
  pub shut : Place
  pub arrow' : forth (Tok Operator Punctuator (codes "=>")) y ≡ behind
  pub found_arrow : IsTrue (is_found behind)
  pub open' : forth (Tok Operator Punctuator (codes "{")) behind ≡ inside
  pub found_open : IsTrue (is_found inside)
  pub filled : Filled inside cs last
  pub close' : forth brace last ≡ shut
  pub found_close : IsTrue (is_found shut)
  pub ends' : forth (Ends AfterBlock) shut ≡ z

mutual
  -- an expression or a pattern of this level or more, of which nothing is said behind it
  pub data Reads : ℕ → Place → Tree → Place → Type 0 where
    word : {n : ℕ} {s : TokenKind} {t : Text} {x y : Place} → IsTrue (may_be s t) → forth (Tok Operator s t) x ≡ y → IsTrue (is_found y) → Reads n x (leaf s t) y
    regexp : {n : ℕ} {t : Text} {x y : Place} → forth (Tok Operand RegExpLiteral t) x ≡ y → IsTrue (is_found y) → Reads n x (leaf RegExpLiteral t) y
    head : {n : ℕ} {k : Kind} {x y : Place} {ts : Forest} → IsTrue (scope k) → is_arrow k ≡ false → is_paren k ≡ false → n ≤ level k → grows k ≡ false → Walk (row k) x ts y → Reads n x (node k ts) y
    paren : {n : ℕ} {x p y z : Place} {t : Tree} → n ≤ 19 → forth (Tok Operator Punctuator (codes "(")) x ≡ p → IsTrue (is_found p) → Whole p t y → forth (Tok Operator Punctuator (codes ")")) y ≡ z → IsTrue (is_found z) → Reads n x (node (expression Parenthesized) (part t none)) z
    target : {n : ℕ} {x p y z : Place} {t : Tree} → n ≤ 19 → forth (Tok Operator Punctuator (codes "(")) x ≡ p → IsTrue (is_found p) → Reads 17 p t y → IsTrue (calm 0 y) → forth (Tok Operator Punctuator (codes ")")) y ≡ z → IsTrue (is_found z) → Reads n x (node (function ParenTarget) (part t none)) z
    grow : {n : ℕ} {k : Kind} {x y z : Place} {t : Tree} {ts : Forest} → IsTrue (scope k) → IsTrue (grows k) → n ≤ level k → is_block y ≡ false → Reads n x t y → Walk (tail k) y ts z → Reads n x (node k (part t ts)) z
    arrow : {n : ℕ} {x y z : Place} {p : Tree} {ts : Forest} → n ≤ 1 → Walk parens x (part p none) y → Walk (tail (expression BareArrow)) y ts z → Reads n x (node (expression Arrow) (part p ts)) z
    blocked : {n : ℕ} {x p y z : Place} {ts cs : Forest} → n ≤ 1 → forth (Tok Operator Punctuator (codes "(")) x ≡ p → IsTrue (is_found p) → Items false (codes ")") p ts y → Blocked y cs z → Reads n x (node (expression ArrowBlock) (part (list ts) (part (node (program FunctionBody) cs) none))) z
    bare_blocked : {n : ℕ} {x y z : Place} {t : Text} {cs : Forest} → n ≤ 1 → IsTrue (is_value_word t) → forth (Tok Operator IdentifierName t) x ≡ y → IsTrue (is_found y) → Blocked y cs z → Reads n x (node (expression BareArrowBlock) (part (leaf IdentifierName t) (part (node (program FunctionBody) cs) none))) z
    sealed : {n : ℕ} {k : Kind} {x y : Place} {cs : Forest} → n ≤ 19 → Sealed x k cs y → Reads n x (node k cs) y
    braces : {n : ℕ} {k : Kind} {x p y : Place} {ts : Forest} → n ≤ 19 → code k ≡ 54 → is_arrow k ≡ false → forth (Tok Operator Punctuator (codes "{")) x ≡ p → IsTrue (is_found p) → Props p ts y → Reads n x (node k (part (list ts) none)) y

  -- a property of a literal or a pattern
  pub data Prop : Place → Tree → Place → Type 0 where
    long : {k : Kind} {s : TokenKind} {t : Text} {x p q y : Place} {v : Tree} → code k ≡ 50 → is_arrow k ≡ false → IsTrue (may_key s) → forth (Tok Operator s t) x ≡ p → IsTrue (is_found p) → forth (Tok Operator Punctuator (codes ":")) p ≡ q → IsTrue (is_found q) → Reads 1 q v y → IsTrue (calm 1 y) → Prop x (node k (part (leaf s t) (part v none))) y
    computed : {k : Kind} {x a b p q y : Place} {o v : Tree} → code k ≡ 50 → is_arrow k ≡ false → forth (Tok Operator Punctuator (codes "[")) x ≡ a → IsTrue (is_found a) → Reads 1 a o b → IsTrue (calm 1 b) → forth (Tok Operator Punctuator (codes "]")) b ≡ p → IsTrue (is_found p) → forth (Tok Operator Punctuator (codes ":")) p ≡ q → IsTrue (is_found q) → Reads 1 q v y → IsTrue (calm 1 y) → Prop x (node k (part (node (function ComputedKey) (part o none)) (part v none))) y
    short : {k : Kind} {t : Text} {x y : Place} → code k ≡ 51 → is_arrow k ≡ false → forth (Tok Operator IdentifierName t) x ≡ y → IsTrue (is_found y) → Prop x (node k (part (leaf IdentifierName t) none)) y
    preset : {k : Kind} {t : Text} {x p q y : Place} {v : Tree} → code k ≡ 52 → is_arrow k ≡ false → forth (Tok Operator IdentifierName t) x ≡ p → IsTrue (is_found p) → forth (Tok Operator Punctuator (codes "=")) p ≡ q → IsTrue (is_found q) → Reads 1 q v y → IsTrue (calm 1 y) → Prop x (node k (part (leaf IdentifierName t) (part v none))) y
    rest : {k : Kind} {x p y : Place} {v : Tree} → code k ≡ 2 → is_arrow k ≡ false → forth (Tok Operator Punctuator (codes "...")) x ≡ p → IsTrue (is_found p) → Reads 1 p v y → IsTrue (calm 1 y) → Prop x (node k (part v none)) y
    member : {k : Kind} {x y : Place} {cs : Forest} → Closed is_member false ObjectMember x k cs y → Opening x → Prop x (node k cs) y

  -- what a method begins with: a key before its parentheses, or a word before a key
  pub data Opening : Place → Type 0 where
    o_named : (s : TokenKind) (t : Text) {x : Place} (p : Place) → IsTrue (may_key s) → forth (Tok Operator s t) x ≡ p → IsTrue (is_found p) → IsTrue (is_found (forth (Tok Operator Punctuator (codes "(")) p)) → Opening x
    o_computed : {x : Place} (a b p : Place) (o : Tree) → forth (Tok Operator Punctuator (codes "[")) x ≡ a → IsTrue (is_found a) → Reads 1 a o b → IsTrue (calm 1 b) → forth (Tok Operator Punctuator (codes "]")) b ≡ p → IsTrue (is_found p) → IsTrue (is_found (forth (Tok Operator Punctuator (codes "(")) p)) → Opening x
    o_worded : (t : Text) {x : Place} (p : Place) → forth (Tok Operator IdentifierName t) x ≡ p → IsTrue (is_found p) → IsTrue (key_start (kind_at p) (text_at p)) → Opening x

  pub data Props : Place → Forest → Place → Type 0 where
    p_shut : {x y : Place} → forth (Tok Operator Punctuator (codes "}")) x ≡ y → IsTrue (is_found y) → Props x none y
    p_last : {x y z : Place} {t : Tree} → Prop x t y → forth (Tok Operator Punctuator (codes "}")) y ≡ z → IsTrue (is_found z) → Props x (part t none) z
    p_more : {x y z w : Place} {t : Tree} {ts : Forest} → Prop x t y → forth comma y ≡ z → IsTrue (is_found z) → Props z ts w → Props x (part t ts) w

  pub data Walk : List Step → Place → Forest → Place → Type 0 where
    done : {x : Place} → Walk [] x none x
    take : {m : Mode} {k : TokenKind} {t : Text} {ps : List Step} {x y z : Place} {ts : Forest} → forth (Tok m k t) x ≡ y → IsTrue (is_found y) → Walk ps y ts z → Walk (tok m k t ∷ ps) x ts z
    pass : {s : Sign} {ps : List Step} {x z : Place} {ts : Forest} → IsTrue (holds s x) → Walk ps x ts z → Walk (guard s ∷ ps) x ts z
    literal : {s : TokenKind} {t : Text} {ps : List Step} {x y z : Place} {ts : Forest} → forth (Tok (mode_of s) s t) x ≡ y → IsTrue (is_found y) → Walk ps y ts z → Walk (lit s ∷ ps) x (part (leaf s t) ts) z
    under : {n b : ℕ} {ps : List Step} {x y z : Place} {t : Tree} {ts : Forest} → Reads b x t y → IsTrue (calm n y) → Walk ps y ts z → Walk (sub n b ∷ ps) x (part t ts) z
    all : {ps : List Step} {x y z : Place} {t : Tree} {ts : Forest} → Whole x t y → Walk ps y ts z → Walk (whole ∷ ps) x (part t ts) z
    each : {h : Bool} {u : Text} {ps : List Step} {x y z : Place} {ts us : Forest} → Items h u x ts y → Walk ps y us z → Walk (many h u ∷ ps) x (part (list ts) us) z
    linked : {ps : List Step} {x y z : Place} {ts us : Forest} → IsTrue (is_found (forth (Tok Operator Punctuator (codes "?.")) x)) → Links x ts y → Walk ps y us z → Walk (chain ∷ ps) x (part (list ts) us) z
    filled : {ps : List Step} {x y z : Place} {ts us : Forest} {o : Tree} {t : Text} → Spans x ts o t y → Walk ps y us z → Walk (spans ∷ ps) x (part (list ts) (part o (part (leaf TemplateTail t) us))) z
    tagged : {k : Kind} {ps : List Step} {x y z : Place} {cs us : Forest} → IsTrue (scope k) → IsTrue (is_tagged k) → Walk (row k) x cs y → Walk ps y us z → Walk (quoted ∷ ps) x (part (node k cs) us) z

  -- what a template holds, to its end
  pub data Spans : Place → Forest → Tree → Text → Place → Type 0 where
    t_tail : {x y p z : Place} {o : Tree} {t : Text} → Whole x o y → forth brace y ≡ p → IsTrue (is_found p) → forth (Tok (mode_of TemplateTail) TemplateTail t) p ≡ z → IsTrue (is_found z) → Spans x none o t z
    t_more : {k : Kind} {x y p q z : Place} {i o : Tree} {u t : Text} {ts : Forest} → code k ≡ 24 → is_arrow k ≡ false → Whole x i y → forth brace y ≡ p → IsTrue (is_found p) → forth (Tok (mode_of TemplateMiddle) TemplateMiddle u) p ≡ q → IsTrue (is_found q) → Spans q ts o t z → Spans x (part (node k (part i (part (leaf TemplateMiddle u) none))) ts) o t z

  -- the links of a chain, to the last
  pub data Links : Place → Forest → Place → Type 0 where
    l_end : {x : Place} → IsTrue (calm 17 x) → Links x none x
    l_more : {k : Kind} {x y z : Place} {cs ts : Forest} → IsTrue (scope k) → IsTrue (is_link k) → is_block x ≡ false → Walk (row k) x cs y → Links y ts z → Links x (part (node k cs) ts) z

  -- an expression of any level
  pub data Whole : Place → Tree → Place → Type 0 where
    single : {x y : Place} {t : Tree} → Reads 1 x t y → IsTrue (calm 0 y) → Whole x t y
    several : {x y z w : Place} {t : Tree} {ts : Forest} → Reads 1 x t y → IsTrue (calm 1 y) → forth comma y ≡ z → IsTrue (is_found z) → Rest z ts w → Whole x (node (expression Seq) (part (list (part t ts)) none)) w

  pub data Rest : Place → Forest → Place → Type 0 where
    final : {x y : Place} {t : Tree} → Reads 1 x t y → IsTrue (calm 0 y) → Rest x (part t none) y
    also : {x y z w : Place} {t : Tree} {ts : Forest} → Reads 1 x t y → IsTrue (calm 1 y) → forth comma y ≡ z → IsTrue (is_found z) → Rest z ts w → Rest x (part t ts) w

  -- a list in brackets, up to and with the closing token
  pub data Items : Bool → Text → Place → Forest → Place → Type 0 where
    shut : {h : Bool} {u : Text} {x y : Place} → forth (Tok Operator Punctuator u) x ≡ y → IsTrue (is_found y) → Items h u x none y
    gap : {u : Text} {x y z : Place} {ts : Forest} → forth comma x ≡ y → IsTrue (is_found y) → Items true u y ts z → Items true u x (part (leaf Elision []) ts) z
    last : {h : Bool} {u : Text} {x y z : Place} {t : Tree} → Reads 1 x t y → IsTrue (calm 1 y) → forth (Tok Operator Punctuator u) y ≡ z → IsTrue (is_found z) → Items h u x (part t none) z
    more : {h : Bool} {u : Text} {x y z w : Place} {t : Tree} {ts : Forest} → Reads 1 x t y → IsTrue (calm 1 y) → forth comma y ≡ z → IsTrue (is_found z) → Items h u z ts w → Items h u x (part t ts) w
