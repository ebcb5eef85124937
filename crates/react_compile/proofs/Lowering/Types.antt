-- The type of the call that a tag becomes.
use Rattle.std.proofs.Common.{◌≡◌, [], ◌∷◌, ◌++◌, Bool, true, false, ◌&&◌, refl, sym, ap, ◌∙◌, subst, append-nil, codes}
use Rattle.jsx_base.specs.Token.{Text, Operator, TokenKind, IdentifierName, StringLiteral, Lexeme, is_kind, is_token, token, same}
use Rattle.jsx_tree.specs.Kinds.{Call, expression, Tree, leaf, node, list, none, part}
use Rattle.jsx_tree.specs.Nonterminals.{is_value_word}
use Rattle.jsx_tree.specs.Form.{is_leaf}
use Rattle.react_compile.specs.Made.{quoted}
use Rattle.react_compile.specs.Lowering.{is_string_tag, tag_type, pragma, name as name_leaf}
use Rattle.react_compile.proofs.Tests.{same_self, cond_true, cond_false}
use Rattle.react_compile.proofs.Words.{at_once, Word, word_token}
use Rattle.react_compile.proofs.Tags.{TagName, word_of_tag, reference}
use Rattle.react_compile.proofs.Quoted.{AllPlain, plain_tag, quoted_plain, string_token}

-- the call with a type
abbrev pub with_type : Tree → Tree
with_type t = node (expression Call) (part pragma (part (list (part t (part (name_leaf (codes "null")) none))) none))

-- a tag, as a string or as a reference
pub data TagCase (t : Text) : Type 0 where
  as_string : is_string_tag t ≡ true → TagCase t
  as_name : is_string_tag t ≡ false → TagCase t

pub tag_case : (t : Text) → TagCase t
tag_case t = go (is_string_tag t) refl
  where
    go : (b : Bool) → is_string_tag t ≡ b → TagCase t
    go true h = as_string h
    go false h = as_name h

-- ---- leaves

is_again : (k : TokenKind) (x : Text) (l : Lexeme) → l ≡ record { kind = k; raw = x; rest = [] } → is_kind k k ≡ true → (is_token l k x && same l.rest []) ≡ true
is_again k x l h s = subst (λ m. (is_token m k x && same m.rest []) ≡ true) (sym h) (rw (s, same_self x) refl)

pub leaf_of_word : (x : Text) → Word x → is_leaf IdentifierName x ≡ true
leaf_of_word x w = is_again IdentifierName x _ (ap (token Operator false) (sym (append-nil x)) ∙ word_token false at_once x [] w refl) refl

pub leaf_of_string : (t : Text) → AllPlain t → is_leaf StringLiteral (34 ∷ (t ++ 34 ∷ [])) ≡ true
leaf_of_string t p = is_again StringLiteral (34 ∷ (t ++ 34 ∷ [])) _ (ap (λ x. token Operator false (34 ∷ x)) (sym (append-nil (t ++ 34 ∷ []))) ∙ string_token false at_once t [] p) refl

-- ---- a tag's type

-- what the type of a call may be
pub data IsType : Tree → Type 0 where
  a_reference : {t : Text} → is_leaf IdentifierName t ≡ true → is_value_word t ≡ true → IsType (leaf IdentifierName t)
  a_string : {t : Text} → is_leaf StringLiteral t ≡ true → IsType (leaf StringLiteral t)

pub type_of : (t : Text) → TagName t → IsType (tag_type t)
type_of t g = go (tag_case t)
  where
    go : TagCase t → IsType (tag_type t)
    go (as_string h) =
        let e : tag_type t ≡ leaf StringLiteral (34 ∷ (t ++ 34 ∷ [])) = cond_true (is_string_tag t) (leaf StringLiteral (quoted t)) (name_leaf t) h ∙ ap (leaf StringLiteral) (quoted_plain t (plain_tag t g)) in
        subst IsType (sym e) (a_string (leaf_of_string t (plain_tag t g)))
    go (as_name h) =
        let r = reference t h in
        subst IsType (sym (cond_false (is_string_tag t) (leaf StringLiteral (quoted t)) (name_leaf t) h)) (a_reference (leaf_of_word t (word_of_tag t g r.dashless)) r.value_word)
