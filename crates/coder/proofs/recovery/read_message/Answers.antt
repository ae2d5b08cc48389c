use Rattle.std.proofs.Common.{◌≡◌, ℕ, ◌-◌, ◌<◌, Bool, List, ◌++◌, length, get_or, take, drop, sym, ap, ◌∙◌, add-one, arith, rules}
use Rattle.std.proofs.lemmas.List.{places, take_rest}
use Rattle.field.specs.Meaning.{power}
use Rattle.algebra.specs.Matrices.{count}
use Rattle.algebra.specs.Transforms.{root, spectrum}
use Rattle.algebra.specs.Solutions.{gathered}
use Rattle.algebra.proofs.Gathers.{gathered_same}
use Rattle.coder.specs.Columns.{coefficient}
use Rattle.coder.specs.Forms.{frees}
use Rattle.coder.proofs.Horner.{value_spectrum}
use Rattle.coder.proofs.ReadOff.{collect_room, collect_more}
use Rattle.coder.proofs.recovery.read_message.Goals as goal

pub read_block-first-requires-clause-space : goal.read_block-first-requires-clause-space
read_block-first-requires-clause-space g c =
    let m = g.F.Field.meaning c.args.f.now in
    let s = c.args.forms.now.shape in
    let t = c.loop-t.t in
    let first = c.loop-t.first in
    let out = c.loop-t.out in
    let p : ℕ → ℕ → Bool = frees s.rows s.columns c.args.forms.now.symbols.now in
    let v : ℕ → ℕ → ℕ = λ t j. spectrum m s.size (coefficient s.columns c.args.table.now.symbols.now j) t in
    let l : t < s.size = search rules in
    let some : length (take (length out - first) (drop first out)) ≡ length out - first = search (rules, places) in
    omega (
      arith,
      some,
      c.loop-t.auto.out,
      collect_room s.columns p v c.args.out.now out t first c.loop-t.invariant.2 s.size (length c.args.out.now) l c.requires.space,
    )

pub loop-t-preserved : goal.loop-t-preserved
loop-t-preserved g c =
    let m = g.F.Field.meaning c.args.f.now in
    let w = g.met.F.Field.lawful c.args.f.now in
    let s = c.args.forms.now.shape in
    let t = c.loop-t.t in
    let work = c.args.table.now.symbols.now in
    let first = c.loop-t.first in
    let out = c.loop-t.out in
    let values = c.evaluate.new.sums in
    let beta = c.inverse-beta.result in
    let k = c.read_block-first.result in
    let ys = c.read_block-first.new.out in
    let part : List ℕ = take (length out - first) (drop first out) in
    let p : ℕ → ℕ → Bool = frees s.rows s.columns c.args.forms.now.symbols.now in
    let v : ℕ → ℕ → ℕ = λ t j. spectrum m s.size (coefficient s.columns work j) t in
    let table = c.args.table.now in
    let eb : beta ≡ m.inverse (root m s.size) = search rules in
    let ex : c.loop-t.x ≡ power m (m.inverse (root m s.size)) t = c.loop-t.invariant.0 ∙ ap (λ (b : ℕ). power m b t) eb in
    let ev : (j : ℕ) → j < s.columns → get_or values j 0 ≡ v t j = λ j h.
    c.evaluate.ensures j (omega (arith, c.requires.sized))
    ∙ value_spectrum m w s.size table.rows c.loop-t.x t work table.columns s.columns j c.requires.sized.0 c.requires.sized.1 ex in
    let read : (k ≡ count s.columns (p t)) × (ys ≡ gathered s.columns (p t) (v t) ++ drop k part) = (
      c.read_block-first.ensures.number,
      c.read_block-first.ensures.wrote
          ∙ ap (λ (xs : List ℕ). xs ++ drop k part) (gathered_same (p t) (λ j. get_or values j 0) (v t) s.columns (λ j l y. ev j l)),
    ) in (
      c.product-x.ensures ∙ ap (m.product beta) c.loop-t.invariant.0 ∙ ap (power m beta) (sym (add-one t)),
      search (rules, places),
      collect_more s.columns p v c.args.out.now out t first c.loop-t.invariant.2 k part ys (take_rest out first) c.loop-t.invariant.1 read,
    )
