use Rattle.std.proofs.Common.{◌≡◌, ℕ, ◌-◌, ◌^◌, min, false, not, ◌&&◌, eqb, leb, List, length, get_or, take, sym, ap, ◌∙◌}
use Rattle.std.proofs.lemmas.List.{take_all}
use Rattle.std.proofs.lemmas.Bool.{and_from, and_right}
use Rattle.guldremor.specs.Words.{digits, decimal, numeral}
use Rattle.guldremor.proofs.Numerals.{digits_more, value_more, no_digit}
use Rattle.guldremor.proofs.words.number_of.Goals as goal

pub returns-then-not-is_ascii_digit : goal.returns-then-not-is_ascii_digit
returns-then-not-is_ascii_digit c =
    let bs = c.as_bytes-bytes.result.now in
    let i = c.loop-b.b-index in
    let w : (leb 48 (get_or bs i 0) && leb (get_or bs i 0) 57) ≡ false = sym c.if-not-is_ascii_digit.ensures.value in
    ap numeral (sym c.as_bytes-bytes.ensures.value)
    ∙ and_right (not (eqb (length bs) 0)) (digits bs) (no_digit bs i c.loop-b-test.true w)

pub loop-b-preserved : goal.loop-b-preserved
loop-b-preserved c =
    let bs = c.as_bytes-bytes.result.now in
    let i = c.loop-b.b-index in (
      digits_more bs i c.loop-b-test.true c.loop-b.invariant.0 (sym c.if-not-is_ascii_digit.ensures.value),
      value_more bs i c.loop-b.n c.append_digit-n.result c.loop-b-test.true c.loop-b.invariant.1 c.append_digit-n.ensures,
    )

pub returns : goal.returns
returns c =
    let bs = c.as_bytes-bytes.result.now in
    let e : take c.loop-b.b-index bs ≡ bs = take_all c.loop-b.b-index bs c.loop-b-test.false in
    let n : bs ≡ c.args.word.now = c.as_bytes-bytes.ensures.value in (
      ap numeral (sym n)
          ∙ and_from (not (eqb (length bs) 0)) (digits bs) (ap not (sym c.if-is_empty.ensures)) (ap digits (sym e) ∙ c.loop-b.invariant.0),
      c.loop-b.invariant.1 ∙ ap (λ (xs : List ℕ). min (decimal 0 xs) (2 ^ 64 - 1)) (e ∙ n),
    )
