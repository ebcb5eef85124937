use Rattle.std.proofs.Common.{◌∙◌, ◌++◌, ◌≡◌, ap, append_assoc, append-nil, codes, map, refl, string_bytes, sym}
use Rattle.std.specs.List.{list_any}
use Rattle.std.specs.Str.{chars}
use Rattle.jsx_base.specs.Comments.{is_marked}
use Rattle.jsx_pen.specs.Pen.{mark}
use Rattle.jsx_pen.proofs.Characters.{appended, chars_ascii}
use Rattle.jsx_print.proofs.printed.push_stretch.Goals as goal

pub returns-in_ok-push_str-2 : goal.returns-in_ok-push_str-2
returns-in_ok-push_str-2 g c =
    let f = is_marked (g.C.Comments.marked c.args.comments.now) in
    let t = chars (string_bytes c.args.text.now) in
    let s = chars (string_bytes c.args.stretch.now.text) in
    let m = codes "/*#__PURE__*/ " in
    ap chars c.in_ok-push_str-2.ensures.bytes ∙ appended c.push_str.new.self _ ∙ ap (λ x. chars (string_bytes c.push_str.new.self) ++ x) (chars_ascii m refl)
    ∙ ap (λ x. x ++ m) (ap chars c.in_ok-push_str.ensures.bytes ∙ appended c.args.text.now _ ∙ ap (λ x. t ++ chars x) c.as_str.ensures.value) ∙ append_assoc t s m
    ∙ ap (λ b. t ++ (s ++ mark b)) (sym c.if-has_mark.true ∙ c.has_mark.ensures ∙ ap (λ xs. list_any f (map (λ b. b.0) xs)) c.deref.ensures.value)

pub returns-else-has_mark : goal.returns-else-has_mark
returns-else-has_mark g c =
    let f = is_marked (g.C.Comments.marked c.args.comments.now) in
    let t = chars (string_bytes c.args.text.now) in
    let s = chars (string_bytes c.args.stretch.now.text) in
    ap chars c.in_ok-push_str.ensures.bytes ∙ appended c.args.text.now _ ∙ ap (λ x. t ++ chars x) c.as_str.ensures.value ∙ ap (λ x. t ++ x) (sym (append-nil s))
    ∙ ap (λ b. t ++ (s ++ mark b)) (sym c.if-has_mark.false ∙ c.has_mark.ensures ∙ ap (λ xs. list_any f (map (λ b. b.0) xs)) c.deref.ensures.value)
