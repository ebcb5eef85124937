use Rattle.jsx_base.proofs.Templates.{pieces_are_parts}
use Rattle.jsx_base.proofs.Templates as templates
use Rattle.jsx_base.proofs.token_laws.templates_are_parts.Goals as goal

pub returns : goal.returns
returns c = record { from_backquote = templates.templates_are_parts; from_brace = pieces_are_parts }
