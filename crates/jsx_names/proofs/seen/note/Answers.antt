use Rattle.std.proofs.Common.{◌≡◌, ℕ, List, ap, ◌∙◌}
use Rattle.std.specs.Str.{chars, IsUtf8}
use denote.Ref.{Bor}
use Rattle.jsx_names.specs.Code.{sort_of}
use Rattle.jsx_names.specs.Faults.{noted}
use Rattle.jsx_names.specs.Tables.{extent_of, reached, seen_by, seen_in, standing, stood}
use Rattle.jsx_names.proofs.SeenLate.{stood_once, reached_once}
use Rattle.jsx_names.proofs.seen.note.Goals as goal

pub returns : goal.returns
returns c = λ ks h n w u.
    let s = sort_of c.args.sort in
    let t = chars c.args.name.now in
    let m = extent_of c.args.scope in
    let one : (a : ℕ) (v : Bor (List ℕ)) → IsUtf8 v.now → seen_in c.set.new.table a v ≡ standing a (chars v.now) (noted s t c.args.at m) (seen_by a (chars v.now) ks)
    = λ a v x. c.in_ok-set.ensures a v x ∙ stood_once s t c.args.at m ks a (chars v.now) c.stood.result _ (c.stood.ensures ∙ ap (stood s) (c.seen_in-own.ensures ∙ h m.begin c.args.name c.utf8.name)) (h a v x) in
    c.in_ok-set-2.ensures n w u ∙ reached_once s t c.args.at m ks n (chars w.now) c.reached.result _ (c.reached.ensures ∙ ap (reached s c.args.at m) (c.seen_in-home.ensures ∙ one m.home c.args.name c.utf8.name)) (one n w u)
