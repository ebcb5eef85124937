-- Words among names.
use Rattle.std.proofs.Common.{◌≡◌, ℕ, List, [], ◌∷◌, true, codes, refl, sym, ap, ◌∙◌}
use Rattle.std.specs.Prelude.{nat_eq, ◌||◌}
use Rattle.std.specs.Str.{chars, bytes_eq, IsUtf8, is_utf8}
use lib.Utf8.{encodes, encode}
use Rattle.std.specs.Bool.{Decides}
use Rattle.std.proofs.lemmas.Bool.Decides.{same_from_decides}
use Rattle.std.proofs.lemmas.Slice.Eq.{bytes_eq-Decides}
use Rattle.std.proofs.lemmas.Bool.{false≢true, and_parts, eqb-true}
use Rattle.std.proofs.lemmas.Str.{encodes-chars, IsUtf8-from_is_utf8}
use Rattle.jsx_base.specs.Token.{Text, IdentifierName, StringLiteral, same}
use Rattle.jsx_tree.specs.Kinds.{leaf}
use Rattle.jsx_tree.specs.StaticRules.{is_key}
use Rattle.jsx_token.specs.declared.word.Word.{Word}
use Rattle.jsx_token.specs.declared.word.Word.TheVariants as word
use Rattle.jsx_token.specs.WordTexts.{word_text}
use Rattle.jsx_tree.proofs.Tokens.{same_self}
use Rattle.jsx_token.proofs.Spellings.{by_both}

pub same_is : (s t : Text) → same s t ≡ true → s ≡ t
same_is [] [] h = refl
same_is [] (c ∷ t) h = absurd (false≢true h)
same_is (b ∷ s) [] h = absurd (false≢true h)
same_is (b ∷ s) (c ∷ t) h =
    let p = and_parts (nat_eq b c) (same s t) h in
    ap (λ x. x ∷ s) (eqb-true b c p.0) ∙ ap (λ x. c ∷ x) (same_is s t p.1)

-- a word that is its own characters
record Spelled (w : List ℕ) : Type 0 where
  same : chars w ≡ w
  text : IsUtf8 w

spells : (w : List ℕ) → Spelled w → (raw : List ℕ) → IsUtf8 raw → Decides (same (chars raw) w) (raw ≡ w)
spells w s raw u = (
  (λ h. sym (encodes-chars raw u) ∙ ap encodes (same_is (chars raw) w h) ∙ (ap encodes (sym s.same) ∙ encodes-chars w s.text)),
  (λ e. ap (λ t. same t w) (ap chars e ∙ s.same) ∙ same_self w),
)

is_word : (w : List ℕ) → Spelled w → (raw : List ℕ) → IsUtf8 raw → bytes_eq raw w ≡ same (chars raw) w
is_word w s raw u = same_from_decides _ _ (bytes_eq-Decides raw w) (spells w s raw u)

word_arrow : Spelled (codes "=>")
unfolding chars is_utf8 encode
word_arrow = record { same = refl; text = IsUtf8-from_is_utf8 (codes "=>") refl }

word_in : Spelled (codes "in")
unfolding chars is_utf8 encode
word_in = record { same = refl; text = IsUtf8-from_is_utf8 (codes "in") refl }

word_instanceof : Spelled (codes "instanceof")
unfolding chars is_utf8 encode
word_instanceof = record { same = refl; text = IsUtf8-from_is_utf8 (codes "instanceof") refl }

word_void : Spelled (codes "void")
unfolding chars is_utf8 encode
word_void = record { same = refl; text = IsUtf8-from_is_utf8 (codes "void") refl }

word_typeof : Spelled (codes "typeof")
unfolding chars is_utf8 encode
word_typeof = record { same = refl; text = IsUtf8-from_is_utf8 (codes "typeof") refl }

word_delete : Spelled (codes "delete")
unfolding chars is_utf8 encode
word_delete = record { same = refl; text = IsUtf8-from_is_utf8 (codes "delete") refl }

word_new : Spelled (codes "new")
unfolding chars is_utf8 encode
word_new = record { same = refl; text = IsUtf8-from_is_utf8 (codes "new") refl }

pub is_in : (raw : List ℕ) → IsUtf8 raw → bytes_eq raw (codes "in") ≡ same (chars raw) (codes "in")
is_in = is_word (codes "in") word_in

pub is_instanceof : (raw : List ℕ) → IsUtf8 raw → bytes_eq raw (codes "instanceof") ≡ same (chars raw) (codes "instanceof")
is_instanceof = is_word (codes "instanceof") word_instanceof

pub is_void : (raw : List ℕ) → IsUtf8 raw → bytes_eq raw (codes "void") ≡ same (chars raw) (codes "void")
is_void = is_word (codes "void") word_void

pub is_typeof : (raw : List ℕ) → IsUtf8 raw → bytes_eq raw (codes "typeof") ≡ same (chars raw) (codes "typeof")
is_typeof = is_word (codes "typeof") word_typeof

pub is_delete : (raw : List ℕ) → IsUtf8 raw → bytes_eq raw (codes "delete") ≡ same (chars raw) (codes "delete")
is_delete = is_word (codes "delete") word_delete

pub is_new : (raw : List ℕ) → IsUtf8 raw → bytes_eq raw (codes "new") ≡ same (chars raw) (codes "new")
is_new = is_word (codes "new") word_new

word_comma : Spelled (codes ",")
unfolding chars is_utf8 encode
word_comma = record { same = refl; text = IsUtf8-from_is_utf8 (codes ",") refl }

word_equals : Spelled (codes "=")
unfolding chars is_utf8 encode
word_equals = record { same = refl; text = IsUtf8-from_is_utf8 (codes "=") refl }

word_open : Spelled (codes "(")
unfolding chars is_utf8 encode
word_open = record { same = refl; text = IsUtf8-from_is_utf8 (codes "(") refl }

word_right_brace : Spelled (codes "}")
unfolding chars is_utf8 encode
word_right_brace = record { same = refl; text = IsUtf8-from_is_utf8 (codes "}") refl }

pub is_comma : (raw : List ℕ) → IsUtf8 raw → bytes_eq raw (codes ",") ≡ same (chars raw) (codes ",")
is_comma = is_word (codes ",") word_comma

pub is_equals : (raw : List ℕ) → IsUtf8 raw → bytes_eq raw (codes "=") ≡ same (chars raw) (codes "=")
is_equals = is_word (codes "=") word_equals

pub is_open : (raw : List ℕ) → IsUtf8 raw → bytes_eq raw (codes "(") ≡ same (chars raw) (codes "(")
is_open = is_word (codes "(") word_open

pub is_right_brace : (raw : List ℕ) → IsUtf8 raw → bytes_eq raw (codes "}") ≡ same (chars raw) (codes "}")
is_right_brace = is_word (codes "}") word_right_brace

pub is_arrow : (raw : List ℕ) → IsUtf8 raw → bytes_eq raw (codes "=>") ≡ same (chars raw) (codes "=>")
is_arrow = is_word (codes "=>") word_arrow

-- the key that sets a prototype
same_flip : (s t : Text) → same s t ≡ same t s
same_flip s t = by_both (same s t) (same t s) (λ h. ap (λ u. same u s) (sym (same_is s t h)) ∙ same_self s) (λ h. ap (λ u. same u t) (sym (same_is t s h)) ∙ same_self t)

word_proto : Spelled (codes "__proto__")
unfolding chars is_utf8 encode
word_proto = record { same = refl; text = IsUtf8-from_is_utf8 (codes "__proto__") refl }

word_double : Spelled (codes "\"__proto__\"")
unfolding chars is_utf8 encode
word_double = record { same = refl; text = IsUtf8-from_is_utf8 (codes "\"__proto__\"") refl }

word_single : Spelled (codes "'__proto__'")
unfolding chars is_utf8 encode
word_single = record { same = refl; text = IsUtf8-from_is_utf8 (codes "'__proto__'") refl }

pub is_proto : (raw : List ℕ) → IsUtf8 raw → bytes_eq raw (codes "__proto__") ≡ is_key (codes "__proto__") (leaf IdentifierName (chars raw))
is_proto raw u = is_word (codes "__proto__") word_proto raw u ∙ same_flip (chars raw) (codes "__proto__")

pub is_proto_string : (raw : List ℕ) → IsUtf8 raw → (bytes_eq raw (codes "\"__proto__\"") || bytes_eq raw (codes "'__proto__'")) ≡ is_key (codes "__proto__") (leaf StringLiteral (chars raw))
is_proto_string raw u =
    let a : bytes_eq raw (codes "\"__proto__\"") ≡ same (codes "\"__proto__\"") (chars raw) = is_word (codes "\"__proto__\"") word_double raw u ∙ same_flip (chars raw) (codes "\"__proto__\"") in
    let b : bytes_eq raw (codes "'__proto__'") ≡ same (codes "'__proto__'") (chars raw) = is_word (codes "'__proto__'") word_single raw u ∙ same_flip (chars raw) (codes "'__proto__'") in
    (λ i. a i || b i)

-- the key `constructor`
word_constructor : Spelled (codes "constructor")
unfolding chars is_utf8 encode
word_constructor = record { same = refl; text = IsUtf8-from_is_utf8 (codes "constructor") refl }

double_constructor : Spelled (codes "\"constructor\"")
unfolding chars is_utf8 encode
double_constructor = record { same = refl; text = IsUtf8-from_is_utf8 (codes "\"constructor\"") refl }

single_constructor : Spelled (codes "'constructor'")
unfolding chars is_utf8 encode
single_constructor = record { same = refl; text = IsUtf8-from_is_utf8 (codes "'constructor'") refl }

pub is_constructor : (raw : List ℕ) → IsUtf8 raw → bytes_eq raw (codes "constructor") ≡ is_key (codes "constructor") (leaf IdentifierName (chars raw))
is_constructor raw u = is_word (codes "constructor") word_constructor raw u ∙ same_flip (chars raw) (codes "constructor")

pub is_constructor_string : (raw : List ℕ) → IsUtf8 raw → (bytes_eq raw (codes "\"constructor\"") || bytes_eq raw (codes "'constructor'")) ≡ is_key (codes "constructor") (leaf StringLiteral (chars raw))
is_constructor_string raw u =
    let a : bytes_eq raw (codes "\"constructor\"") ≡ same (codes "\"constructor\"") (chars raw) = is_word (codes "\"constructor\"") double_constructor raw u ∙ same_flip (chars raw) (codes "\"constructor\"") in
    let b : bytes_eq raw (codes "'constructor'") ≡ same (codes "'constructor'") (chars raw) = is_word (codes "'constructor'") single_constructor raw u ∙ same_flip (chars raw) (codes "'constructor'") in
    (λ i. a i || b i)

-- the key `prototype`
word_prototype : Spelled (codes "prototype")
unfolding chars is_utf8 encode
word_prototype = record { same = refl; text = IsUtf8-from_is_utf8 (codes "prototype") refl }

double_prototype : Spelled (codes "\"prototype\"")
unfolding chars is_utf8 encode
double_prototype = record { same = refl; text = IsUtf8-from_is_utf8 (codes "\"prototype\"") refl }

single_prototype : Spelled (codes "'prototype'")
unfolding chars is_utf8 encode
single_prototype = record { same = refl; text = IsUtf8-from_is_utf8 (codes "'prototype'") refl }

pub is_prototype : (raw : List ℕ) → IsUtf8 raw → bytes_eq raw (codes "prototype") ≡ is_key (codes "prototype") (leaf IdentifierName (chars raw))
is_prototype raw u = is_word (codes "prototype") word_prototype raw u ∙ same_flip (chars raw) (codes "prototype")

pub is_prototype_string : (raw : List ℕ) → IsUtf8 raw → (bytes_eq raw (codes "\"prototype\"") || bytes_eq raw (codes "'prototype'")) ≡ is_key (codes "prototype") (leaf StringLiteral (chars raw))
is_prototype_string raw u =
    let a : bytes_eq raw (codes "\"prototype\"") ≡ same (codes "\"prototype\"") (chars raw) = is_word (codes "\"prototype\"") double_prototype raw u ∙ same_flip (chars raw) (codes "\"prototype\"") in
    let b : bytes_eq raw (codes "'prototype'") ≡ same (codes "'prototype'") (chars raw) = is_word (codes "'prototype'") single_prototype raw u ∙ same_flip (chars raw) (codes "'prototype'") in
    (λ i. a i || b i)

-- each word of the grammar
reserved : (w : Word) → Spelled (word_text w)
unfolding chars is_utf8 encode
reserved word.As = record { same = refl; text = IsUtf8-from_is_utf8 (codes "as") refl }
reserved word.Async = record { same = refl; text = IsUtf8-from_is_utf8 (codes "async") refl }
reserved word.Break = record { same = refl; text = IsUtf8-from_is_utf8 (codes "break") refl }
reserved word.Case = record { same = refl; text = IsUtf8-from_is_utf8 (codes "case") refl }
reserved word.Catch = record { same = refl; text = IsUtf8-from_is_utf8 (codes "catch") refl }
reserved word.Class = record { same = refl; text = IsUtf8-from_is_utf8 (codes "class") refl }
reserved word.Const = record { same = refl; text = IsUtf8-from_is_utf8 (codes "const") refl }
reserved word.Continue = record { same = refl; text = IsUtf8-from_is_utf8 (codes "continue") refl }
reserved word.Debugger = record { same = refl; text = IsUtf8-from_is_utf8 (codes "debugger") refl }
reserved word.Default = record { same = refl; text = IsUtf8-from_is_utf8 (codes "default") refl }
reserved word.Do = record { same = refl; text = IsUtf8-from_is_utf8 (codes "do") refl }
reserved word.Else = record { same = refl; text = IsUtf8-from_is_utf8 (codes "else") refl }
reserved word.Export = record { same = refl; text = IsUtf8-from_is_utf8 (codes "export") refl }
reserved word.Extends = record { same = refl; text = IsUtf8-from_is_utf8 (codes "extends") refl }
reserved word.Finally = record { same = refl; text = IsUtf8-from_is_utf8 (codes "finally") refl }
reserved word.For = record { same = refl; text = IsUtf8-from_is_utf8 (codes "for") refl }
reserved word.From = record { same = refl; text = IsUtf8-from_is_utf8 (codes "from") refl }
reserved word.Function = record { same = refl; text = IsUtf8-from_is_utf8 (codes "function") refl }
reserved word.Get = record { same = refl; text = IsUtf8-from_is_utf8 (codes "get") refl }
reserved word.If = record { same = refl; text = IsUtf8-from_is_utf8 (codes "if") refl }
reserved word.Import = record { same = refl; text = IsUtf8-from_is_utf8 (codes "import") refl }
reserved word.In = record { same = refl; text = IsUtf8-from_is_utf8 (codes "in") refl }
reserved word.Of = record { same = refl; text = IsUtf8-from_is_utf8 (codes "of") refl }
reserved word.Let = record { same = refl; text = IsUtf8-from_is_utf8 (codes "let") refl }
reserved word.Meta = record { same = refl; text = IsUtf8-from_is_utf8 (codes "meta") refl }
reserved word.Return = record { same = refl; text = IsUtf8-from_is_utf8 (codes "return") refl }
reserved word.Set = record { same = refl; text = IsUtf8-from_is_utf8 (codes "set") refl }
reserved word.Static = record { same = refl; text = IsUtf8-from_is_utf8 (codes "static") refl }
reserved word.Super = record { same = refl; text = IsUtf8-from_is_utf8 (codes "super") refl }
reserved word.Switch = record { same = refl; text = IsUtf8-from_is_utf8 (codes "switch") refl }
reserved word.Target = record { same = refl; text = IsUtf8-from_is_utf8 (codes "target") refl }
reserved word.Throw = record { same = refl; text = IsUtf8-from_is_utf8 (codes "throw") refl }
reserved word.Try = record { same = refl; text = IsUtf8-from_is_utf8 (codes "try") refl }
reserved word.Var = record { same = refl; text = IsUtf8-from_is_utf8 (codes "var") refl }
reserved word.While = record { same = refl; text = IsUtf8-from_is_utf8 (codes "while") refl }

pub is_reserved : (w : Word) (raw : List ℕ) → IsUtf8 raw → bytes_eq raw (word_text w) ≡ same (chars raw) (word_text w)
is_reserved w = is_word (word_text w) (reserved w)
