-- What is said of the views of the code's nodes, with what they tell.
use Rattle.std.proofs.Common.{◌≡◌, List, [], ◌∷◌, ◌++◌, map, Bool, true, false, refl, sym, ap, ◌∙◌, append_assoc, append-nil, Option, Some, None, Box, Global}
use Rattle.jsx_base.specs.Token as token
use Rattle.jsx_base.specs.declared.place.Span.{Span}
use Rattle.jsx_tree.specs.Kinds.{Role, Tree, leaf}
use Rattle.jsx_tree.specs.declared.text.Text.{Text}
use Rattle.jsx_tree.specs.declared.text.Ident.{Ident}
use Rattle.jsx_tree.specs.declared.text.LiteralKind.{LiteralKind}
use Rattle.jsx_tree.specs.declared.text.LiteralKind.TheVariants as literal_kind
use Rattle.jsx_tree.specs.declared.text.Word.{Word}
use Rattle.jsx_tree.specs.declared.text.Word.TheVariants as words
use Rattle.jsx_tree.specs.declared.tree.AttrName.{AttrName}
use Rattle.jsx_tree.specs.declared.tree.AttrName.TheVariants as attr_name
use Rattle.jsx_tree.specs.declared.tree.Expr.{Expr}
use Rattle.jsx_tree.specs.Spans.{Told, Tales, Claim, tells}
use Rattle.jsx_tree.specs.Told.{tales, told_node, told_text, told_name, told_directive, told_body, told_optional, led_by, told_attr_name, told_expr}
use Rattle.jsx_tree.specs.View.{forest, directive, body, optional_name, jsx_word, view_word, view_attr_name, view_expr, shorthand_of, clause_of, container_of, kind_of_literal, optional_of}
use Rattle.jsx_tree.proofs.Views as all
use Rattle.jsx_tree.proofs.Telling as places
use Rattle.jsx_names.specs.Events.{Mode, Plain, Exporting, Binding}
use Rattle.jsx_heard.specs.Said.{Naming, Idents, Unnamed, Round, Elsewhere, said, said_each, of_value}
use Rattle.jsx_heard.proofs.Templates.{template_there}

-- literals and words are no names
pub literal_said : (m : Mode) (r : Round) (k : LiteralKind) (t : token.Text) (d : Told) → said m Idents r (leaf (kind_of_literal k) t) d ≡ []
literal_said Plain r literal_kind.Num t (tells cs ds) = refl
literal_said Plain r literal_kind.BigInt t (tells cs ds) = refl
literal_said Plain r literal_kind.Str t (tells cs ds) = refl
literal_said Plain r literal_kind.RegExp t (tells cs ds) = refl
literal_said Exporting r literal_kind.Num t (tells cs ds) = refl
literal_said Exporting r literal_kind.BigInt t (tells cs ds) = refl
literal_said Exporting r literal_kind.Str t (tells cs ds) = refl
literal_said Exporting r literal_kind.RegExp t (tells cs ds) = refl
literal_said (Binding w s) r literal_kind.Num t (tells cs ds) = refl
literal_said (Binding w s) r literal_kind.BigInt t (tells cs ds) = refl
literal_said (Binding w s) r literal_kind.Str t (tells cs ds) = refl
literal_said (Binding w s) r literal_kind.RegExp t (tells cs ds) = refl

pub literal_key_said : (r : Round) (k : LiteralKind) (t : token.Text) (d : Told) → said Plain Unnamed r (leaf (kind_of_literal k) t) d ≡ []
literal_key_said r literal_kind.Num t (tells cs ds) = refl
literal_key_said r literal_kind.BigInt t (tells cs ds) = refl
literal_key_said r literal_kind.Str t (tells cs ds) = refl
literal_key_said r literal_kind.RegExp t (tells cs ds) = refl

pub word_said : (r : Round) (w : Word) (cs : List Claim) (ds : Tales) → said Plain Idents r (view_word w) (tells cs ds) ≡ []
word_said r words.This cs ds = refl
word_said r words.Null cs ds = refl
word_said r words.True cs ds = refl
word_said r words.False cs ds = refl
word_said r words.ImportMeta cs ds = refl
word_said r words.NewTarget cs ds = refl

-- directives tell no name
pub directives_said : (m : Mode) (n : Naming) (r : Round) (ds : List Text) → said_each m n r (forest (map directive ds)) (tales (map told_directive ds)) ≡ []
directives_said m n r [] = refl
directives_said m n r (d ∷ ds) = directives_said m n r ds

pub body_said : (m : Mode) (n : Naming) (r : Round) (ds : List Text) (ss : List Tree) (us : List Told) → said m n r (body ds ss) (told_body ds us) ≡ said_each Plain Unnamed Elsewhere (forest ss) (tales us)
body_said m n r ds ss us = ap (λ z. z ++ (said_each Plain Unnamed Elsewhere (forest ss) (tales us) ++ [])) (directives_said Plain Unnamed Elsewhere ds) ∙ append-nil (said_each Plain Unnamed Elsewhere (forest ss) (tales us))

-- nor does a label, nor what an attribute is called
pub label_said : (a : Option Ident) → said Plain Unnamed Elsewhere (optional_name a) (told_name a) ≡ []
label_said None = refl
label_said (Some a) = refl

pub attr_name_said : (a : AttrName) → said Plain Unnamed Elsewhere (view_attr_name a) (told_attr_name a) ≡ []
attr_name_said (attr_name.Name a) = refl
attr_name_said (attr_name.Namespaced at a b) = refl

pub jsx_words_said : (as' : List Text) → said_each Plain Unnamed Elsewhere (forest (map jsx_word as')) (tales (map told_text as')) ≡ []
jsx_words_said [] = refl
jsx_words_said (a ∷ as') = jsx_words_said as'

-- a part that a node has or hasn't
pub test_said : (at : Option Span) (e : Option (Box Expr Global)) (ss : Tree) (d : Told) →
    said Plain Unnamed Elsewhere (clause_of view_expr e ss) (told_node at (led_by told_expr e (d ∷ []))) ≡ of_value (optional_of view_expr e) (told_optional told_expr e) ++ said Plain Unnamed Elsewhere ss d
test_said at None ss d = append-nil (said Plain Unnamed Elsewhere ss d)
test_said at (Some e) ss d =
    ap (λ z. of_value (view_expr e.value) (told_expr e.value) ++ z) (append-nil (said Plain Unnamed Elsewhere ss d))
    ∙ ap (λ z. z ++ said Plain Unnamed Elsewhere ss d) (sym (append-nil (of_value (view_expr e.value) (told_expr e.value))))

pub container_said : (at : Option Span) (e : Option (Box Expr Global)) → of_value (container_of view_expr e) (told_node at (led_by told_expr e [])) ≡ of_value (optional_of view_expr e) (told_optional told_expr e)
container_said at None = refl
container_said at (Some e) = refl

pub shorthand_said : (m : Mode) (at : Option Span) (o : Role) (a : Tree) (d : Told) (e : Option (Box Expr Global)) →
    said m Idents Elsewhere (shorthand_of view_expr o a e) (told_node at (d ∷ led_by told_expr e [])) ≡ said m Idents Elsewhere a d ++ of_value (optional_of view_expr e) (told_optional told_expr e)
shorthand_said m at o a d None = refl
shorthand_said m at o a d (Some e) = refl

pub ruleset sayings = (all.views, places.telling, append_assoc, append-nil, literal_said, literal_key_said, word_said, directives_said, body_said, label_said, attr_name_said, jsx_words_said, test_said, container_said, shorthand_said, template_there)
