use Rattle.std.proofs.Common.{◌≡◌}
use Rattle.field.specs.Meaning.{power}
use Rattle.algebra.specs.Transforms.{synthesis}
use Rattle.coder.specs.Columns.{coefficient}
use Rattle.coder.proofs.Writes.{SymbolsTo}
use Rattle.coder.proofs.transform.synthesize.Given as goal

abbrev pub invariant-loop-l : goal.invariant-loop-l
invariant-loop-l g l =
    let m = g.F.Field.meaning l.f in
    let s = l.spectra in
    (l.x ≡ power m l.alpha l.l)
    × SymbolsTo s.columns s.rows (λ j k. synthesis m s.rows (coefficient s.columns s.symbols.now j) k) l.initial.out l.out l.l
