use Rattle.std.proofs.Common.{◌+◌, get_or}
use Rattle.blocks.specs.Blocks.{block_at}
use Rattle.coder.proofs.Alike.{form_filled}
use Rattle.coder.proofs.encoding.fill_block.Goals as goal

pub returns : goal.returns
returns g c =
    let forms = c.args.forms.now in
    let s = forms.shape in
    let form = c.block.result in
    form_filled s.rows s.columns form.rows form.columns form.symbols.now (block_at s.rows s.columns forms.symbols.now c.args.t)
    c.block.ensures.sized.0 c.block.ensures.sized.1 c.block.ensures.entries (g.F.Field.meaning c.args.f.now) (g.met.F.Field.lawful c.args.f.now)
    (λ k. get_or c.args.message.now (c.args.first + k) 0) (λ j. get_or c.fill.new.row j 0) c.fill.ensures
