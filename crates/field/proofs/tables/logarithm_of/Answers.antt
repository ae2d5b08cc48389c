use Rattle.std.proofs.Common.{get_or, sym, ◌∙◌, arith}
use Rattle.field.proofs.Logarithms.{logarithms, logarithm_is}
use Rattle.field.specs.Powers.{powers_once}
use Rattle.field.proofs.tables.logarithm_of.Goals as goal

pub returns : goal.returns
returns c =
    let l = logarithm_is c.args.a c.requires.0 c.requires.1 in
    record {
      is = l;
      only = λ k h e. powers_once 9 (omega arith) (omega arith) k (get_or logarithms c.args.a 0) h l.0 (e ∙ sym l.1);
    }
