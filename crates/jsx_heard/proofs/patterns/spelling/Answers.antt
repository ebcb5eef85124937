use Rattle.std.proofs.Common.{◌≡◌, refl, ap, sym, ◌∙◌, codes, [], ℕ, List, Option, Some, None, Bor}
use Rattle.std.specs.Str.{chars}
use lib.Utf8.{encode}
use Rattle.jsx_base.specs.Token.{Text, IdentifierName}
use Rattle.jsx_tree.specs.Kinds.{leaf}
use Rattle.jsx_tree.specs.View.{view_word}
use Rattle.jsx_heard.proofs.Spelled.{spelled}
use Rattle.jsx_heard.proofs.patterns.spelling.Goals as goal

text_in : Option (Bor (List ℕ)) → Text
text_in (Some x) = chars x.now
text_in None = []

spelled_this : chars (codes "this") ≡ codes "this"
unfolding encode
spelled_this = spelled (codes "this") refl

spelled_null : chars (codes "null") ≡ codes "null"
unfolding encode
spelled_null = spelled (codes "null") refl

spelled_true : chars (codes "true") ≡ codes "true"
unfolding encode
spelled_true = spelled (codes "true") refl

spelled_false : chars (codes "false") ≡ codes "false"
unfolding encode
spelled_false = spelled (codes "false") refl

pub returns-in-This-clause-some : goal.returns-in-This-clause-some
unfolding text_in
returns-in-This-clause-some c = λ x e. ap view_word c.in-This.is ∙ ap (λ t. leaf IdentifierName t) (sym spelled_this ∙ ap text_in e)

pub returns-in-Null-clause-some : goal.returns-in-Null-clause-some
unfolding text_in
returns-in-Null-clause-some c = λ x e. ap view_word c.in-Null.is ∙ ap (λ t. leaf IdentifierName t) (sym spelled_null ∙ ap text_in e)

pub returns-in-True-clause-some : goal.returns-in-True-clause-some
unfolding text_in
returns-in-True-clause-some c = λ x e. ap view_word c.in-True.is ∙ ap (λ t. leaf IdentifierName t) (sym spelled_true ∙ ap text_in e)

pub returns-in-False-clause-some : goal.returns-in-False-clause-some
unfolding text_in
returns-in-False-clause-some c = λ x e. ap view_word c.in-False.is ∙ ap (λ t. leaf IdentifierName t) (sym spelled_false ∙ ap text_in e)
