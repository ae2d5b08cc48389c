use Rattle.std.proofs.Common.{◌≡◌, ℕ, ◌+◌, ◌*◌, ◌<◌, length, get_or, set, sym, subst, arith}
use Rattle.coder.proofs.Writes.{WrittenTo, written_more}
use Rattle.coder.proofs.transform.scatter.Goals as goal

pub loop-j-preserved : goal.loop-j-preserved
loop-j-preserved c =
    let xs = c.args.sums.now in
    let n = length xs in
    let e = c.args.size in
    let l = c.args.l in
    let j = c.loop-j.j in
    let v : ℕ → ℕ = λ j. get_or xs j 0 in
    let is : c.place.result ≡ j * e + l = c.place.ensures.is in
    let room : j * e + l < length c.loop-j.out = omega (arith, c.place.ensures.within) in
    subst (λ (i : ℕ). WrittenTo n e l v c.args.out.now (set c.loop-j.out i (v j)) (j + 1)) (sym is)
    (written_more n e l j v c.args.out.now c.loop-j.out c.requires.symbol c.loop-j-test.true room c.loop-j.invariant)
