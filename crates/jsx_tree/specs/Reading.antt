-- What a list of signs reads of a text (ECMA-262 section 12.10 for semicolons that are missing).
use Rattle.std.specs.Prelude.{List, [], ◌∷◌, codes, Bool, true, false, cond, nat_eq, ◌&&◌, ◌||◌, not}
use Rattle.jsx_tree.specs.Kinds.{Tree}
use Rattle.jsx_base.specs.Token.{Text, Operator, TokenKind, Punctuator, same, among}
use Rattle.jsx_tree.specs.Signs.{Ending, AfterExpr, AfterBlock, AfterWord, AfterList, AfterBinding, AfterKey, AfterDo, Sign, Tok, Semicolon, TrailingComma, Unless, SameLine, Ends}
use Rattle.jsx_tree.specs.Nonterminals.{WholeProgram}
use Rattle.jsx_tree.specs.Spelling.{spelled}
use Rattle.jsx_tree.specs.Form.{is}
use Rattle.jsx_base.specs.Token.{first_is, breaks, Lexeme, token, is_token, is_end}

abbrev pub is_backquote : Text → Bool
is_backquote t = first_is (nat_eq 96) t

-- the tokens that go on with an expression from a new line, beside a template: `a` LF `(b)` is a call. `++` and `--` don't: `a` LF `++b` is two statements
abbrev pub going_on : List Text
going_on =
    codes "(" ∷ codes "[" ∷ codes "." ∷ codes "?." ∷ codes "," ∷ codes "?" ∷ codes ":" ∷ codes "=>" ∷ codes "in" ∷ codes "instanceof"
    ∷ codes "??" ∷ codes "||" ∷ codes "&&" ∷ codes "|" ∷ codes "^" ∷ codes "&" ∷ codes "==" ∷ codes "!=" ∷ codes "===" ∷ codes "!==" ∷ codes "<" ∷ codes ">" ∷ codes "<=" ∷ codes ">="
    ∷ codes "<<" ∷ codes ">>" ∷ codes ">>>" ∷ codes "+" ∷ codes "-" ∷ codes "*" ∷ codes "/" ∷ codes "%" ∷ codes "**"
    ∷ codes "=" ∷ codes "+=" ∷ codes "-=" ∷ codes "*=" ∷ codes "/=" ∷ codes "%=" ∷ codes "**=" ∷ codes "<<=" ∷ codes ">>=" ∷ codes ">>>=" ∷ codes "&=" ∷ codes "|=" ∷ codes "^=" ∷ codes "&&=" ∷ codes "||=" ∷ codes "??=" ∷ []

abbrev pub prefix_words : List Text
prefix_words = codes "get" ∷ codes "set" ∷ codes "static" ∷ []

-- whether the token t goes on with what stands before it on the line before; q is the token before
abbrev pub continues : Ending → Text → Text → Bool
continues AfterExpr q t = among t going_on || is_backquote t
continues AfterBlock q t = same t (codes ",")
continues AfterWord q t = false
continues AfterList q t = same t (codes "from")
continues AfterBinding q t = among t (codes "=" ∷ codes "," ∷ [])
continues AfterKey q t = among t (codes "=" ∷ codes "(" ∷ []) || among q prefix_words
continues AfterDo q t = false

abbrev pub is_do : Ending → Bool
is_do AfterDo = true
is_do e = false

-- whether a semicolon may be missing here: never before a `;`, always behind a `do` and before a `}` or the end, else where a line ends and the next token doesn't go on
abbrev pub may_lack : Ending → Text → Text → Bool
may_lack e q text =
    not (same (token Operator false text).raw (codes ";"))
    && (is_do e || is_end text || same (token Operator false text).raw (codes "}") || (breaks text && not (continues e q (token Operator false text).raw)))

-- where a scan stands: behind the token q, with what a semicolon would stand after, before the text
pub data Place : Type 0 where
  Lost : Place
  At : Text → Ending → Text → Place

abbrev pub go_if : Bool → Place → Place
go_if b x = cond b x Lost

abbrev pub semi_at : Lexeme → Text → Ending → Text → Place
semi_at x q e text = cond (is_token x Punctuator (codes ";")) (At (codes ";") AfterExpr x.rest) (go_if (may_lack e q text) (At q e text))

abbrev pub comma_at : Lexeme → Text → Ending → Text → Place
comma_at x q e text = cond (is_token x Punctuator (codes ",")) (At (codes ",") AfterExpr x.rest) (At q e text)

abbrev pub token_at : Lexeme → TokenKind → Text → Place
token_at x s t = go_if (is_token x s t) (At t AfterExpr x.rest)

-- what a sign makes of a place; those of layout and depth leave it as it is
abbrev pub forth : Sign → Place → Place
forth (Tok m s t) (At q e text) = token_at (token m (same q []) text) s t
forth Semicolon (At q e text) = semi_at (token Operator false text) q e text
forth TrailingComma (At q e text) = comma_at (token Operator false text) q e text
forth (Unless ts) (At q e text) = go_if (not (among (token Operator false text).raw ts)) (At q e text)
forth SameLine (At q e text) = go_if (not (breaks text)) (At q e text)
forth (Ends f) (At q e text) = At q f text
forth m x = x

abbrev pub scan : Place → List Sign → Place
scan x [] = x
scan x (m ∷ ms) = scan (forth m x) ms

abbrev pub ended_at : Place → Bool
ended_at Lost = false
ended_at (At q e rest) = is_end rest

-- the tree has the form of the grammar, and its signs read the whole text
abbrev pub reads : Text → Tree → Bool
reads text t = is WholeProgram t && ended_at (scan (At [] AfterExpr text) (spelled t))
