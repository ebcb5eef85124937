use Rattle.std.proofs.Common.{true, false, refl, sym, ◌∙◌, ap}
use Rattle.std.specs.Str.{chars}
use Rattle.jsx_base.specs.Token.{Operator, IdentifierName}
use Rattle.jsx_tree.specs.Signs.{Tok}
use Rattle.jsx_tree.specs.Grammar.{pun}
use Rattle.jsx_tree.specs.Reading.{forth}
use Rattle.jsx_token.specs.Here.{place_of}
use Rattle.jsx_operand.specs.Members.{is_word}
use Rattle.jsx_operand.proofs.Homes.{IsName}
use Rattle.jsx_operand.proofs.Keys.{computed_barred, computed_only, key_as, literal_key}
use Rattle.jsx_operand.proofs.Placing.{placed_as, placed_to}
use Rattle.jsx_operand.proofs.PlacedExpressions.{name_placed}
use Rattle.jsx_operand.proofs.Steps.{passed, passed_in}
use Rattle.jsx_member.proofs.MemberCovers.{deep_bracket, deep_keyed, name_read, no_key_cover, outer_cover, worded, wordless}
use Rattle.jsx_member.proofs.MemberPlaces.{member_from, takes_to}
use Rattle.jsx_member.proofs.Members.{unkeyed}
use Rattle.jsx_function.proofs.Prefixes.{key_from, no_key_from}
use Rattle.jsx_member.proofs.grammar.Brackets.bare_member.Goals as goal

-- a key in brackets
pub returns-in_err-levels-clause-refused : goal.returns-in_err-levels-clause-refused
returns-in_err-levels-clause-refused g c = passed _ c.in_err-levels.ensures.refused c.from_residual.ensures.1 (λ b. deep_bracket c.requires.bare b)

pub returns-in_err-key-clause-refused : goal.returns-in_err-key-clause-refused
returns-in_err-key-clause-refused g c = passed_in _ c.in_ok-levels.ensures.levels c.in_err-key.ensures.refused c.from_residual-in_err-key.ensures.1 (λ n. no_key_cover c.requires.bare (computed_barred (record { is = c.take.ensures.taken c.if-take.true; found = refl }) n))

pub returns-in_err-object_keyed-clause-refused : goal.returns-in_err-object_keyed-clause-refused
returns-in_err-object_keyed-clause-refused g c =
    let read = computed_only (record { is = c.take.ensures.taken c.if-take.true; found = refl }) c.in_ok-key.ensures.read in
    passed_in _ c.in_ok-levels.ensures.levels c.in_err-object_keyed.ensures.refused c.from_residual-in_err-object_keyed.ensures.1 (λ n. n.no _ c.requires.bare (wordless (ap is_word c.in_ok-key.ensures.read.is)) read)

pub returns-then-take-clause-read : goal.returns-then-take-clause-read
returns-then-take-clause-read g c = c.in_ok-object_keyed.ensures.read.on _ c.requires.bare (computed_only (record { is = c.take.ensures.taken c.if-take.true; found = refl }) c.in_ok-key.ensures.read)

pub returns-then-take-clause-placed : goal.returns-then-take-clause-placed
returns-then-take-clause-placed g c =
    c.in_ok-object_keyed.ensures.placed.on _ (c.last_place-lo.ensures ∙ c.take.ensures.begins c.if-take.true)
    (c.in_ok-key.ensures.placed.on _ (c.take.ensures.takes c.if-take.true) (c.take.ensures.begins c.if-take.true))

-- a name that is a key
pub returns-in_err-levels-2-clause-refused : goal.returns-in_err-levels-2-clause-refused
returns-in_err-levels-2-clause-refused g c =
    let read = key_from (c.take.ensures.stays c.if-take.false) (literal_key IsName (chars c.in-Some.raw.now) refl c.in-Some.ensures.whole c.in-Some.ensures.taken refl) in
    passed _ c.in_err-levels-2.ensures.refused c.from_residual-in_err-levels-2.ensures.1 (λ b. deep_keyed c.requires.bare read refl b)

pub returns-in_err-object_keyed-2-clause-refused : goal.returns-in_err-object_keyed-2-clause-refused
returns-in_err-object_keyed-2-clause-refused g c =
    let taken = ap place_of c.is_keyed.ensures.stays ∙ c.in-Some.ensures.taken in
    let read = key_from (c.take.ensures.stays c.if-take.false) (key_as c.name_key-key.ensures.view (literal_key IsName (chars c.in-Some.raw.now) refl c.in-Some.ensures.whole taken refl)) in
    passed_in _ c.in_ok-levels-2.ensures.levels c.in_err-object_keyed-2.ensures.refused c.from_residual-in_err-object_keyed-2.ensures.1
    (λ n. n.no _ c.requires.bare (worded (chars c.in-Some.raw.now) c.name_key-key.ensures.view (ap place_of c.is_keyed.ensures.stays) (sym c.is_keyed.ensures.keyed ∙ c.if-is_keyed.true)) read)

pub returns-then-is_keyed-clause-read : goal.returns-then-is_keyed-clause-read
returns-then-is_keyed-clause-read g c =
    let taken = ap place_of c.is_keyed.ensures.stays ∙ c.in-Some.ensures.taken in
    let read = key_from (c.take.ensures.stays c.if-take.false) (key_as c.name_key-key.ensures.view (literal_key IsName (chars c.in-Some.raw.now) refl c.in-Some.ensures.whole taken refl)) in
    c.in_ok-object_keyed-2.ensures.read.on _ c.requires.bare read

pub returns-then-is_keyed-clause-placed : goal.returns-then-is_keyed-clause-placed
returns-then-is_keyed-clause-placed g c =
    let begins = c.last_place-lo-in-Some.ensures ∙ c.in-Some.ensures.begins in
    member_from (c.take.ensures.stays c.if-take.false) (c.in_ok-object_keyed-2.ensures.placed.on _ begins (placed_as c.name_key-key.ensures.told c.name_key-key.ensures.view (placed_to c.is_keyed.ensures.stays (name_placed c.in-Some.ensures.takes begins))))

-- a name for a property and its value
pub returns-in_err-short_member-clause-refused : goal.returns-in_err-short_member-clause-refused
returns-in_err-short_member-clause-refused g c =
    let taken = ap place_of c.is_keyed.ensures.stays ∙ (c.in-Some.ensures.taken ∙ ap (λ h. forth (Tok Operator IdentifierName (chars c.in-Some.raw.now)) (place_of h)) (c.take.ensures.stays c.if-take.false)) in
    let short = unkeyed (chars c.in-Some.raw.now) (ap place_of c.is_keyed.ensures.stays) (sym c.is_keyed.ensures.keyed ∙ c.if-is_keyed.false) in
    passed_in _ c.in_ok-levels-2.ensures.levels c.in_err-short_member.ensures.refused c.from_residual-in_err-short_member.ensures.1
    (λ n. n.no _ c.requires.bare (name_read short c.in-Some.ensures.whole taken refl) short.colon short.bracket)

pub returns-in-Some-clause-read : goal.returns-in-Some-clause-read
returns-in-Some-clause-read g c =
    let taken = ap place_of c.is_keyed.ensures.stays ∙ (c.in-Some.ensures.taken ∙ ap (λ h. forth (Tok Operator IdentifierName (chars c.in-Some.raw.now)) (place_of h)) (c.take.ensures.stays c.if-take.false)) in
    let short = unkeyed (chars c.in-Some.raw.now) (ap place_of c.is_keyed.ensures.stays) (sym c.is_keyed.ensures.keyed ∙ c.if-is_keyed.false) in
    c.in_ok-short_member.ensures.read.on _ c.requires.bare (name_read short c.in-Some.ensures.whole taken refl) short.colon short.bracket

pub returns-in-Some-clause-placed : goal.returns-in-Some-clause-placed
returns-in-Some-clause-placed g c =
    member_from (c.take.ensures.stays c.if-take.false) (c.in_ok-short_member.ensures.placed.on _ (c.last_place-lo-in-Some.ensures ∙ c.in-Some.ensures.begins) (takes_to c.is_keyed.ensures.stays c.in-Some.ensures.takes))

-- a string or a number
pub literal_key-requires : goal.literal_key-requires
literal_key-requires g c =
    let same = c.in_default.ensures.stays in
    record { name = λ t. ap (λ h. forth (Tok Operator IdentifierName t) (place_of h)) same ∙ c.in_default.ensures.missing t; bracket = ap (λ h. forth (pun "[") (place_of h)) (same ∙ c.take.ensures.stays c.if-take.false) ∙ c.take.ensures.missing c.if-take.false }

pub returns-in_err-key-2-clause-refused : goal.returns-in_err-key-2-clause-refused
returns-in_err-key-2-clause-refused g c = passed _ c.in_err-key-2.ensures.refused c.from_residual-in_err-key-2.ensures.1 (λ b. outer_cover (no_key_cover c.requires.bare (no_key_from (c.in_default.ensures.stays ∙ c.take.ensures.stays c.if-take.false) b)))

pub returns-in_err-levels-3-clause-refused : goal.returns-in_err-levels-3-clause-refused
returns-in_err-levels-3-clause-refused g c = passed _ c.in_err-levels-3.ensures.refused c.from_residual-in_err-levels-3.ensures.1
    (λ b. deep_keyed c.requires.bare (key_from (c.in_default.ensures.stays ∙ c.take.ensures.stays c.if-take.false) c.in_ok-key-2.ensures.read) c.in_ok-key-2.ensures.depth b)

pub returns-in_err-object_keyed-3-clause-refused : goal.returns-in_err-object_keyed-3-clause-refused
returns-in_err-object_keyed-3-clause-refused g c = passed_in _ c.in_ok-levels-3.ensures.levels c.in_err-object_keyed-3.ensures.refused c.from_residual-in_err-object_keyed-3.ensures.1
    (λ n. n.no _ c.requires.bare (wordless c.in_ok-key-2.ensures.literal) (key_from (c.in_default.ensures.stays ∙ c.take.ensures.stays c.if-take.false) c.in_ok-key-2.ensures.read))

pub returns-clause-read : goal.returns-clause-read
returns-clause-read g c = c.in_ok-object_keyed-3.ensures.read.on _ c.requires.bare (key_from (c.in_default.ensures.stays ∙ c.take.ensures.stays c.if-take.false) c.in_ok-key-2.ensures.read)

pub returns-clause-placed : goal.returns-clause-placed
returns-clause-placed g c = member_from (c.in_default.ensures.stays ∙ c.take.ensures.stays c.if-take.false) (c.in_ok-object_keyed-3.ensures.placed.on _ (c.last_place.ensures ∙ c.in_ok-key-2.ensures.begins) c.in_ok-key-2.ensures.placed)
