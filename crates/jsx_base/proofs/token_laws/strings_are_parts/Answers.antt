use Rattle.jsx_base.proofs.Strings as strings
use Rattle.jsx_base.proofs.token_laws.strings_are_parts.Goals as goal

pub returns : goal.returns
returns c = strings.strings_are_parts
