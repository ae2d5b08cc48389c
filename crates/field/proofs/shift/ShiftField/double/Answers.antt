use Rattle.std.proofs.Common.{◌≡◌, ◌*◌, ◌%◌, ◌^◌, ◌<◌, sym, subst, arith}
use Rattle.field.specs.Doubles.{double_lt}
use Rattle.field.specs.Powers.{order_high}
use Rattle.field.proofs.Steps.{double_by_shift}
use Rattle.field.proofs.shift.ShiftField.double.Goals as goal

pub returns : goal.returns
returns c =
    let f = c.args.self.now in
    let few : 2 ^ f.degree < 513 = omega (arith, order_high f.degree f.degree_low f.degree_high) in
    let e : (c.args.a * 2) % 65536 ≡ 2 * c.args.a = omega arith in
    let is = double_by_shift f.degree c.args.a ((c.args.a * 2) % 65536) c.select.result e c.select.ensures in
    record {
      is = is;
      below = subst (λ x. x < 2 ^ f.degree) (sym is) (double_lt f.degree f.degree_low f.degree_high c.args.a c.requires);
    }
