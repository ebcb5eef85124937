use Rattle.std.proofs.Common.{ℕ, ◌++◌, arith, length-append, length-take, sym, ap, ◌∙◌, subst, take}
use Rattle.jsx_base.specs.Source.{Gives}
use Rattle.react_compile.proofs.Sources.{gives_nothing, gives_more, takes_all, rose_since, written_back, takes_few}
use Rattle.react_compile.proofs.input.read_all.Goals as goal

pub reads-init : goal.reads-init
reads-init g c = record {
  taken = subst (λ xs. Gives (g.S.Source.left c.args.input.now) (g.S.Source.left c.args.input.now) xs) (sym c.new-bytes.ensures.items) (gives_nothing (g.S.Source.left c.args.input.now));
  faults = omega arith;
  chunk = c.in_ok-chunk.ensures;
  few = omega (arith, c.new-bytes.ensures.len);
}

pub returns-in_err-count-clause-failed : goal.returns-in_err-count-clause-failed
returns-in_err-count-clause-failed g c = λ _. rose_since _ _ _ c.reads.invariant.faults c.in_err-count.ensures.cause

pub returns-then-count-eq0-clause-all : goal.returns-then-count-eq0-clause-all
returns-then-count-eq0-clause-all g c =
    takes_all _ _ _ _ _ c.in_ok-count.count c.if-count-eq0.true c.reads.invariant.taken c.in_ok-count.ensures.bytes (c.in_ok-count.ensures.end (omega (arith, c.deref_mut.ensures.len, c.reads.invariant.chunk)))

pub reads-preserved : goal.reads-preserved
reads-preserved g c = record {
  taken = subst (λ xs. Gives (g.S.Source.left c.args.input.now) (g.S.Source.left c.read.new.self) xs) (sym (c.in_ok-extend_from_slice.ensures.items ∙ ap (λ ys. c.reads.bytes.items ++ take c.in_ok-count.count ys) (c.deref.ensures.value ∙ written_back c.read.new.buf c.reads.chunk.items c.reads.chunk.len (omega (arith, c.read.auto.buf, c.deref_mut.ensures.len))))) (gives_more _ _ _ _ _ c.reads.invariant.taken c.in_ok-count.ensures.bytes);
  faults = omega (arith, c.reads.invariant.faults, c.read.ensures.never_falls);
  chunk = c.reads.invariant.chunk;
  few = omega (arith, c.reads-test.true, c.len.ensures, c.in_ok-extend_from_slice.ensures.len, c.in_ok-count.ensures.fits, c.deref_mut.ensures.len, c.reads.invariant.chunk, length-take {A = ℕ});
}

pub returns-in_err-extend_from_slice-clause-bounded : goal.returns-in_err-extend_from_slice-clause-bounded
returns-in_err-extend_from_slice-clause-bounded g c =
    takes_few _ _ (c.reads.bytes.items ++ take c.in_ok-count.count c.read.new.buf)
    (omega (arith, c.reads-test.true, c.len.ensures, length-append c.reads.bytes.items (take c.in_ok-count.count c.read.new.buf), length-take {A = ℕ}, c.in_ok-count.ensures.fits, c.deref_mut.ensures.len, c.reads.invariant.chunk))
    (gives_more _ _ _ _ _ c.reads.invariant.taken c.in_ok-count.ensures.bytes)
