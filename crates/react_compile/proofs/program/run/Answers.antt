use Rattle.std.proofs.Common.{Err, ap, subst, sym}
use Rattle.react_compile.specs.Run.{TakesAll}
use Rattle.react_compile.proofs.Completeness.{not_refused, not_too_big, ends_well, tells_well, short_well, no_write}
use Rattle.react_compile.proofs.program.run.Goals as goal

pub returns-in-Ok-clause-complete : goal.returns-in-Ok-clause-complete
returns-in-Ok-clause-complete g c = λ _ v.
    ends_well _ c.compile_to.ensures.ends
    (λ f. not_refused _ _ _ _ _ _ _ _ _ v (subst (λ xs. TakesAll (g.S.Source.left c.args.input.now) (g.S.Source.left c.read_all.new.input) xs) (sym c.deref.ensures.value) c.in-Ok.ensures.all) (c.compile_to.ensures.fault f))
    (λ w. no_write _ _ _ _ _ _ _ v (c.compile_to.ensures.write w))

pub returns-in-Err-TooBig-clause-complete : goal.returns-in-Err-TooBig-clause-complete
returns-in-Err-TooBig-clause-complete g c = λ _ v.
    tells_well _ _ c.tell-in-Err-TooBig.ensures.ends
    (λ _. not_too_big _ _ _ _ _ _ _ _ v (c.in-Err-TooBig.ensures.too_big (ap Err c.in-Err-TooBig.field-0-is)))
    (λ w. v.err (c.tell-in-Err-TooBig.ensures.write w))

pub returns-in-Err-Failed-clause-complete : goal.returns-in-Err-Failed-clause-complete
returns-in-Err-Failed-clause-complete g c = λ _ v.
    tells_well _ _ c.tell-in-Err-Failed.ensures.ends
    (λ _. v.read (c.in-Err-Failed.ensures.failed (ap Err c.in-Err-Failed.field-0-is)))
    (λ w. v.err (c.tell-in-Err-Failed.ensures.write w))

pub returns-in-Err-Memory-clause-complete : goal.returns-in-Err-Memory-clause-complete
returns-in-Err-Memory-clause-complete g c = λ _ v. short_well _ c.short_of_memory.ensures.ends (λ w. v.err (c.short_of_memory.ensures.write w))
