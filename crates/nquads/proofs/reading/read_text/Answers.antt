use denote.Ref.{Bor}
use Rattle.std.proofs.Common.{◌-◌, ◌∙◌, ℕ, List, length, ap, subst, sym, Option}
use Rattle.std.specs.Option.{option_copied}
use Rattle.term_store.proofs.StoreLemmas.{Grows-refl, Grows-trans}
use Rattle.nquads.specs.Internal.Storing.{KeepsLine, IsLineFault}
use Rattle.nquads.proofs.HasRead.{HasRead-start, HasRead-next, HasRead-end, rest_shorter}
use Rattle.nquads.proofs.ReadFaults.{text_fault}
use Rattle.nquads.proofs.reading.read_text.Goals as goal

pub loop-kept-init : goal.loop-kept-init
loop-kept-init c =
    (Grows-refl c.args.terms.now, rw c.new-quads.ensures.items (HasRead-start c.args.bytes.now c.args.terms.now))

pub returns-in-Err-clause-fault : goal.returns-in-Err-clause-fault
returns-in-Err-clause-fault c =
    text_fault c.args.bytes.now c.loop-kept.rest.now c.loop-kept.terms c.with_line.new.terms c.loop-kept.quads.items c.loop-kept.invariant.1 c.with_line.ensures.grows c.in-Err.fault
    (subst (λ (l : List ℕ). IsLineFault l (length c.args.bytes.now - length c.loop-kept.rest.now) c.with_line.new.terms c.loop-kept.quads.items c.in-Err.fault) c.cut_line.ensures.line c.in-Err.ensures.fault)

pub loop-kept-smaller : goal.loop-kept-smaller
loop-kept-smaller c =
    rest_shorter c.loop-kept.rest.now c.in-Some.next.now (ap (λ (o : Option (Bor (List ℕ))). option_copied o) (sym c.in-Some.is) ∙ c.cut_line.ensures.more)

pub loop-kept-preserved : goal.loop-kept-preserved
loop-kept-preserved c = (
  Grows-trans c.args.terms.now c.loop-kept.terms c.with_line.new.terms c.loop-kept.invariant.0 c.with_line.ensures.grows,
  HasRead-next c.args.bytes.now c.loop-kept.rest.now c.in-Some.next.now c.loop-kept.terms c.with_line.new.terms c.loop-kept.quads.items c.in-Ok.kept.items c.loop-kept.invariant.1 c.with_line.ensures.grows
      (subst (λ (l : List ℕ). KeepsLine l c.with_line.new.terms c.loop-kept.quads.items c.in-Ok.kept.items) c.cut_line.ensures.line c.in-Ok.ensures.ok)
      (sym c.cut_line.ensures.more ∙ ap (λ (o : Option (Bor (List ℕ))). option_copied o) c.in-Some.is),
)

pub returns-in-None-clause-ok : goal.returns-in-None-clause-ok
returns-in-None-clause-ok c =
    HasRead-end c.args.bytes.now c.loop-kept.rest.now c.loop-kept.terms c.with_line.new.terms c.loop-kept.quads.items c.in-Ok.kept.items c.loop-kept.invariant.1 c.with_line.ensures.grows
    (subst (λ (l : List ℕ). KeepsLine l c.with_line.new.terms c.loop-kept.quads.items c.in-Ok.kept.items) c.cut_line.ensures.line c.in-Ok.ensures.ok)
    (sym c.cut_line.ensures.more ∙ ap (λ (o : Option (Bor (List ℕ))). option_copied o) c.in-None.is)
