-- What is said of the specifiers of an import, an export and an export from another module.
use Rattle.std.proofs.Common.{◌≡◌, [], ◌∷◌, refl, ap, ◌∙◌}
use Rattle.jsx_tree.specs.Kinds.{Imported, From}
use Rattle.jsx_tree.specs.declared.program.Specifier.{Specifier}
use Rattle.jsx_tree.specs.declared.program.Specifier.TheVariants as specifier
use Rattle.jsx_tree.specs.declared.text.Text.{Text}
use Rattle.jsx_tree.specs.Clashes.{AtName}
use Rattle.jsx_tree.specs.Told.{told_specifier, told_text}
use Rattle.jsx_tree.specs.View.{text_of, word}
use Rattle.jsx_tree.specs.ViewProgram.{view_specifier}
use Rattle.jsx_names.specs.Events.{Mode, Plain, Exports}
use Rattle.jsx_names.specs.Events as events
use Rattle.jsx_tree.specs.Scopes.{AsLexical}
use Rattle.jsx_heard.specs.Code.{last_name}
use Rattle.jsx_heard.specs.Said.{Idents, Unnamed, Elsewhere, said, met, byte_of}

abbrev pub bound : Mode
bound = events.Binding events.Simply AsLexical

specifier_imported : (s : Specifier) → said bound Idents Elsewhere (word (last_name s)) (told_text (last_name s)) ≡ said bound Idents Elsewhere (view_specifier Imported s) (told_specifier s)
specifier_imported (specifier.Same at a) = refl
specifier_imported (specifier.As at a b) = refl

pub imported_said : (s : Specifier) (a : Text) → a ≡ last_name s → said bound Idents Elsewhere (word a) (told_text a) ≡ said bound Idents Elsewhere (view_specifier Imported s) (told_specifier s)
imported_said s a e = ap (λ z. said bound Idents Elsewhere (word z) (told_text z)) e ∙ specifier_imported s

specifier_passed : (s : Specifier) → met (Exports (text_of (last_name s)) (AtName [])) (byte_of (last_name s)) ∷ [] ≡ said Plain Unnamed Elsewhere (view_specifier From s) (told_specifier s)
specifier_passed (specifier.Same at a) = refl
specifier_passed (specifier.As at a b) = refl

pub passed_said : (s : Specifier) (a : Text) → a ≡ last_name s → met (Exports (text_of a) (AtName [])) (byte_of a) ∷ [] ≡ said Plain Unnamed Elsewhere (view_specifier From s) (told_specifier s)
passed_said s a e = ap (λ z. met (Exports (text_of z) (AtName [])) (byte_of z) ∷ []) e ∙ specifier_passed s
