-- What plugins and their hosts tell each other.
use Rattle.std.specs.Prelude.{◌≡◌, ℕ, List, Option, Some, Result, Ok, Err, ◌==◌, if◌then◌else◌}
use Rattle.std.specs.Option.{option_map}
use Rattle.std.specs.String.{string_bytes}
use Rattle.jsx_kit.specs.declared.plugin.PluginCorePkgDiagnostics.{PluginCorePkgDiagnostics}
use Rattle.jsx_kit.specs.declared.plugin.TransformPluginMetadataContext.{TransformPluginMetadataContext}
use Rattle.jsx_kit.specs.declared.plugin.TransformPluginMetadataContextKind.{TransformPluginMetadataContextKind}
use Rattle.jsx_kit.specs.declared.plugin.TransformPluginMetadataContextKind.TheVariants.{Filename, Env, Cwd}
use Rattle.jsx_kit.specs.declared.plugin.UnknownKey.{UnknownKey}
use Rattle.jsx_kit.specs.declared.plugin.PluginError.{PluginError}
use Rattle.jsx_kit.specs.declared.plugin.PluginError.TheVariants.{SizeInteropFailure, Deserialize, Serialize}

-- the kind of a number
abbrev pub kind_of_key : ℕ → Result TransformPluginMetadataContextKind UnknownKey
kind_of_key key =
    if key == 1 then Ok Filename
    else if key == 2 then Ok Env
    else if key == 3 then Ok Cwd
    else Err (record { 0 = key })

-- the text of a kind
abbrev pub text_of : TransformPluginMetadataContext → TransformPluginMetadataContextKind → Option (List ℕ)
text_of context Filename = option_map string_bytes context.filename
text_of context Env = Some (string_bytes context.env)
text_of context Cwd = option_map string_bytes context.cwd

-- the texts and the version are the same
pub record SamePackage (a b : PluginCorePkgDiagnostics) : Type 0 where
  pub pkg_version : string_bytes b.pkg_version ≡ string_bytes a.pkg_version
  pub git_sha : string_bytes b.git_sha ≡ string_bytes a.git_sha
  pub cargo_features : string_bytes b.cargo_features ≡ string_bytes a.cargo_features
  pub ast_schema_version : b.ast_schema_version ≡ a.ast_schema_version

-- the kind of error and its text are the same
abbrev pub SameError : PluginError → PluginError → Type 0
SameError (SizeInteropFailure a) (SizeInteropFailure b) = string_bytes b ≡ string_bytes a
SameError (SizeInteropFailure a) (Deserialize b) = ⊥
SameError (SizeInteropFailure a) (Serialize b) = ⊥
SameError (Deserialize a) (SizeInteropFailure b) = ⊥
SameError (Deserialize a) (Deserialize b) = string_bytes b ≡ string_bytes a
SameError (Deserialize a) (Serialize b) = ⊥
SameError (Serialize a) (SizeInteropFailure b) = ⊥
SameError (Serialize a) (Deserialize b) = ⊥
SameError (Serialize a) (Serialize b) = string_bytes b ≡ string_bytes a
