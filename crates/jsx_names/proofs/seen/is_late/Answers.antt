use Rattle.std.proofs.Common.{ap, ◌∙◌, sym}
use Rattle.std.specs.Str.{chars}
use Rattle.jsx_names.specs.Code.{sort_of}
use Rattle.jsx_names.specs.Tables.{extent_of, tells_late, seen_by}
use Rattle.jsx_names.proofs.SeenLate.{late_seen}
use Rattle.jsx_names.proofs.seen.is_late.Goals as goal

pub returns : goal.returns
returns c = λ ks h. c.tells_late.ensures
    ∙ (ap (λ z. tells_late z c.seen_in-home.result (sort_of c.args.sort) c.args.at (extent_of c.args.scope)) (c.seen_in-own.ensures ∙ h c.args.scope.begin c.args.name c.utf8.name)
    ∙ (ap (λ z. tells_late (seen_by c.args.scope.begin (chars c.args.name.now) ks) z (sort_of c.args.sort) c.args.at (extent_of c.args.scope)) (c.seen_in-home.ensures ∙ h c.args.scope.home c.args.name c.utf8.name)
    ∙ sym (late_seen (sort_of c.args.sort) (chars c.args.name.now) c.args.at (extent_of c.args.scope) ks)))
