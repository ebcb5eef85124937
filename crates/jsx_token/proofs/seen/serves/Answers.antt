use Rattle.std.proofs.Common.{◌≡◌, sym, subst, rules, tests}
use Rattle.std.proofs.lemmas.Bool.{ne_eqb}
use Rattle.jsx_lex.specs.declared.token.Mode.TheVariants as mode
use Rattle.jsx_lex.specs.declared.token.TokenKind.TheVariants as token_kind
use Rattle.jsx_lex.specs.Kinds.{mode_of}
use Rattle.jsx_token.specs.Seen.{IsNext}
use Rattle.jsx_token.proofs.Codes.{serves_code, serves_less}
use Rattle.jsx_token.proofs.seen.serves.Goals as goal

pub returns-in-Some-eq60 : goal.returns-in-Some-eq60
returns-in-Some-eq60 c = λ r.
    let from : c.args.seen.now.mode ≡ mode.Operator = search (rules, tests) in
    let to : c.args.mode ≡ mode.Operand = search (rules, tests) in
    let less : c.args.seen.now.token.kind ≡ token_kind.Less = search (rules, tests) in
    record { on = λ h n. subst (λ m. IsNext (mode_of m) h c.args.seen.now.token c.args.seen.now.behind) (sym to) (serves_less less (subst (λ m. IsNext (mode_of m) h c.args.seen.now.token c.args.seen.now.behind) from n)) }

pub returns-in-Some : goal.returns-in-Some
returns-in-Some c = λ r.
    let from : c.args.seen.now.mode ≡ mode.Operator = search (rules, tests) in
    let to : c.args.mode ≡ mode.Operand = search (rules, tests) in
    let first = c.in-Some.field-0 in
    record {
      on = λ h n. subst (λ m. IsNext (mode_of m) h c.args.seen.now.token c.args.seen.now.behind) (sym to)
          (serves_code first c.in-Some.ensures (ne_eqb first 47 c.in-Some.field-0-test.0.1) (ne_eqb first 60 c.in-Some.field-0-test.1) (subst (λ m. IsNext (mode_of m) h c.args.seen.now.token c.args.seen.now.behind) from n));
    }
