use Rattle.std.proofs.Common.{true, false, not, refl, ◌∙◌, ap}
use Rattle.jsx_make.specs.Members.{view_prop}
use Rattle.jsx_token.specs.Here.{place_of}
use Rattle.jsx_operand.proofs.Steps.{passed}
use Rattle.jsx_function.specs.Methods.{took_more, took_none}
use Rattle.jsx_member.proofs.MemberCovers.{accessor_cover, cover_from, cover_to, from_key_as, no_accessor_cover, no_cover_from, no_spread_cover, spread_cover, worded_unturned}
use Rattle.jsx_member.proofs.MemberPlaces.{member_from, member_to, settled_placed, spread_placed}
use Rattle.jsx_member.proofs.Members.{bare_by}
use Rattle.jsx_member.proofs.grammar.Brackets.object_member.Goals as goal

-- a spread
pub returns-in_err-prop-clause-refused : goal.returns-in_err-prop-clause-refused
returns-in_err-prop-clause-refused g c = passed _ c.in_err-prop.ensures.refused c.from_residual.ensures.1 (λ b. no_spread_cover (record { is = c.take.ensures.taken c.if-take.true; found = refl }) b)

pub returns-then-take-clause-read : goal.returns-then-take-clause-read
returns-then-take-clause-read g c = cover_to c.is_before.ensures.stays (spread_cover (record { is = c.take.ensures.taken c.if-take.true; found = refl }) c.in_ok-prop.ensures.read refl (ap not c.is_before.ensures.ahead))

pub returns-then-take-clause-placed : goal.returns-then-take-clause-placed
returns-then-take-clause-placed g c = member_to c.is_before.ensures.stays
    (spread_placed (c.take.ensures.takes c.if-take.true) (c.take.ensures.begins c.if-take.true) c.in_ok-prop.ensures.read (c.in_ok-prop.ensures.placed.on _ (c.take.ensures.takes c.if-take.true) (c.take.ensures.begins c.if-take.true)) c.in_ok-prop.ensures.rest)

-- a getter
pub returns-in_err-prop-2-clause-refused : goal.returns-in_err-prop-2-clause-refused
returns-in_err-prop-2-clause-refused g c = passed _ c.in_err-prop-2.ensures.refused c.from_residual-in_err-prop-2.ensures.1
    (λ n. no_cover_from (c.take.ensures.stays c.if-take.false) (no_accessor_cover true (c.take_prefix.ensures.taken c.if-take_prefix.true) n))

pub returns-then-take_prefix-clause-read : goal.returns-then-take_prefix-clause-read
returns-then-take_prefix-clause-read g c = cover_from (c.take.ensures.stays c.if-take.false)
    (accessor_cover true (c.take_prefix.ensures.taken c.if-take_prefix.true) c.settled.ensures.is_expr (from_key_as true (ap (λ b. view_prop b.value) c.settled.ensures.prop) c.in_ok-prop-2.ensures.read))

pub returns-then-take_prefix-clause-placed : goal.returns-then-take_prefix-clause-placed
returns-then-take_prefix-clause-placed g c = member_from (c.take.ensures.stays c.if-take.false)
    (settled_placed c.settled.ensures.prop (worded_unturned true c.in_ok-prop-2.ensures.read)
    (c.in_ok-prop-2.ensures.placed.on _ (took_more (c.take_prefix.ensures.takes c.if-take_prefix.true) took_none) (c.last_place-lo.ensures ∙ c.take_prefix.ensures.begins c.if-take_prefix.true)))

-- a setter
pub returns-in_err-prop-3-clause-refused : goal.returns-in_err-prop-3-clause-refused
returns-in_err-prop-3-clause-refused g c = passed _ c.in_err-prop-3.ensures.refused c.from_residual-in_err-prop-3.ensures.1
    (λ n. no_cover_from (c.take_prefix.ensures.stays c.if-take_prefix.false ∙ c.take.ensures.stays c.if-take.false) (no_accessor_cover false (c.take_prefix-2.ensures.taken c.if-take_prefix-2.true) n))

pub returns-then-take_prefix-2-clause-read : goal.returns-then-take_prefix-2-clause-read
returns-then-take_prefix-2-clause-read g c = cover_from (c.take_prefix.ensures.stays c.if-take_prefix.false ∙ c.take.ensures.stays c.if-take.false)
    (accessor_cover false (c.take_prefix-2.ensures.taken c.if-take_prefix-2.true) c.settled-then-take_prefix-2.ensures.is_expr (from_key_as false (ap (λ b. view_prop b.value) c.settled-then-take_prefix-2.ensures.prop) c.in_ok-prop-3.ensures.read))

pub returns-then-take_prefix-2-clause-placed : goal.returns-then-take_prefix-2-clause-placed
returns-then-take_prefix-2-clause-placed g c = member_from (c.take_prefix.ensures.stays c.if-take_prefix.false ∙ c.take.ensures.stays c.if-take.false)
    (settled_placed c.settled-then-take_prefix-2.ensures.prop (worded_unturned false c.in_ok-prop-3.ensures.read)
    (c.in_ok-prop-3.ensures.placed.on _ (took_more (c.take_prefix-2.ensures.takes c.if-take_prefix-2.true) took_none) (c.last_place-lo-then-take_prefix-2.ensures ∙ c.take_prefix-2.ensures.begins c.if-take_prefix-2.true)))

-- one whose key comes first
pub bare_member-requires-clause-bare : goal.bare_member-requires-clause-bare
bare_member-requires-clause-bare g c =
    bare_by (c.take_prefix-2.ensures.stays c.if-take_prefix-2.false) (c.take_prefix.ensures.stays c.if-take_prefix.false) (c.take_prefix.ensures.missing c.if-take_prefix.false) (c.take_prefix-2.ensures.missing c.if-take_prefix-2.false)
    (ap place_of (c.take.ensures.stays c.if-take.false)) (c.take.ensures.missing c.if-take.false)

pub returns-in_err-bare_member-clause-refused : goal.returns-in_err-bare_member-clause-refused
returns-in_err-bare_member-clause-refused g c = passed _ c.in_err-bare_member.ensures.refused c.from_residual-in_err-bare_member.ensures.1
    (λ n. no_cover_from (c.take_prefix-2.ensures.stays c.if-take_prefix-2.false ∙ (c.take_prefix.ensures.stays c.if-take_prefix.false ∙ c.take.ensures.stays c.if-take.false)) n)

pub returns-clause-read : goal.returns-clause-read
returns-clause-read g c = cover_from (c.take_prefix-2.ensures.stays c.if-take_prefix-2.false ∙ (c.take_prefix.ensures.stays c.if-take_prefix.false ∙ c.take.ensures.stays c.if-take.false)) c.in_ok-bare_member.ensures.read

pub returns-clause-placed : goal.returns-clause-placed
returns-clause-placed g c = member_from (c.take_prefix-2.ensures.stays c.if-take_prefix-2.false ∙ (c.take_prefix.ensures.stays c.if-take_prefix.false ∙ c.take.ensures.stays c.if-take.false)) c.in_ok-bare_member.ensures.placed
