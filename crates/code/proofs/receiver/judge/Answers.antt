use Rattle.std.proofs.Common.{◌≡◌, ◌*◌, length, sym, rules, arith}
use Rattle.field.proofs.SymbolTests.{symbols_fail}
use Rattle.code.proofs.receiver.judge.Goals as goal

pub returns-then-not-are_symbols-clause-judged : goal.returns-then-not-are_symbols-clause-judged
returns-then-not-are_symbols-clause-judged c =
    let l : length c.args.word.now ≡ c.args.shape.now.columns * c.args.shape.now.size = search rules in
    (omega arith, l, symbols_fail c.args.order c.args.word.now (sym c.if-not-are_symbols.ensures))
