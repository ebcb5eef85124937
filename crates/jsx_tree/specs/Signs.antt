-- What a tree is spelled with: its tokens, and between them what only reading, only layout or only depth looks at (ECMA-262 section 5.1.5, grammar notation, is the model).
use Rattle.std.specs.Prelude.{List}
use Rattle.jsx_base.specs.Token.{Text, Mode, TokenKind}

-- what a semicolon that is missing stands after (ECMA-262 section 12.10)
pub data Ending : Type 0 where
  -- an expression, and whatever ends with a token that no other line names
  AfterExpr : Ending
  -- an arrow's block body: `a = () => {}`
  AfterBlock : Ending
  -- `return`, `break a`, `debugger`, `import "a"`: a line end always ends these
  AfterWord : Ending
  -- a list of exports: `export { a }`
  AfterList : Ending
  -- a declarator without initialiser: `var a`
  AfterBinding : Ending
  -- a field without initialiser: `class A { a }`
  AfterKey : Ending
  -- the `)` of a `do`, where a line end isn't asked
  AfterDo : Ending

pub data Sign : Type 0 where
  -- for reading and layout: a token, read in this mode, of this kind and with this raw text
  Tok : Mode → TokenKind → Text → Sign
  -- a `;`, which may be missing in what is read and is always written
  Semicolon : Sign
  -- a trailing comma, read where it stands and never written
  TrailingComma : Sign
  -- for reading alone: the next token is none of these; no line ends before it; a semicolon would stand after this
  Unless : List Text → Sign
  SameLine : Sign
  Ends : Ending → Sign
  -- for layout alone: one blank; a blank inside of braces, none where nothing stands in them (`{ a }`, `{}`); a new line
  Space : Sign
  Pad : Sign
  Line : Sign
  -- four blanks more from the next line on; a new line with four fewer, none where nothing stands in the braces; four fewer with no new line
  Indent : Sign
  Outdent : Sign
  Unindent : Sign
  -- a blank where the tokens before and behind would join: `- -a`
  Apart : Sign
  -- for depth alone: a node begins; it counts from here on; a part of depth 1; the node ends
  Begin : Sign
  Count : Sign
  One : Sign
  End : Sign
