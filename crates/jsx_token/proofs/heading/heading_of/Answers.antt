use Rattle.jsx_token.proofs.TakingHeadings.{found_empty, found_block, found_word, no_heading}
use Rattle.jsx_token.proofs.heading.heading_of.Goals as goal

pub returns-in-Semicolon : goal.returns-in-Semicolon
returns-in-Semicolon c = found_empty c.args.token.now c.in-Semicolon.is c.requires

pub returns-in-LeftBrace : goal.returns-in-LeftBrace
returns-in-LeftBrace c = found_block c.args.token.now c.in-LeftBrace.is c.requires

pub returns-in-IdentifierName : goal.returns-in-IdentifierName
returns-in-IdentifierName c = found_word c.args.token.now c.in-IdentifierName.is _ c.word.ensures

pub returns-in_default : goal.returns-in_default
returns-in_default c = no_heading c.args.token.now c.in_default.not-Semicolon c.in_default.not-LeftBrace c.in_default.not-IdentifierName c.requires
