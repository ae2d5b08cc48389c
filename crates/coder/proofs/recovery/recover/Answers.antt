use Rattle.std.proofs.Common.{◌≡◌, ℕ, List, ◌++◌, drop, sym, ap, ◌∙◌, ap₂, arith}
use Rattle.algebra.specs.Transforms.{spectrum}
use Rattle.algebra.specs.Solutions.{collected}
use Rattle.coder.specs.Columns.{coefficient}
use Rattle.coder.specs.Forms.{frees, dimension}
use Rattle.coder.proofs.Recovers.{one_to_one, recovered_from}
use Rattle.coder.proofs.recovery.recover.Goals as goal

pub returns-in_err-forms-clause-one_to_one : goal.returns-in_err-forms-clause-one_to_one
returns-in_err-forms-clause-one_to_one g c = λ d h.
    let s = c.args.shape.now in
    one_to_one (g.F.Field.meaning c.args.f.now) (g.met.F.Field.lawful c.args.f.now) (g.met.F.Field.binary c.args.f.now) s.rows s.columns s.size
    (omega arith) d c.args.cells.now c.args.blocks.now h

pub returns-in_err-judge-clause-one_to_one : goal.returns-in_err-judge-clause-one_to_one
returns-in_err-judge-clause-one_to_one g c = λ d h.
    let s = c.args.shape.now in
    one_to_one (g.F.Field.meaning c.args.f.now) (g.met.F.Field.lawful c.args.f.now) (g.met.F.Field.binary c.args.f.now) s.rows s.columns s.size
    (omega arith) d c.args.cells.now c.args.blocks.now h

pub returns-in_err-branch-clause-one_to_one : goal.returns-in_err-branch-clause-one_to_one
returns-in_err-branch-clause-one_to_one g c = λ d h.
    let s = c.args.shape.now in
    one_to_one (g.F.Field.meaning c.args.f.now) (g.met.F.Field.lawful c.args.f.now) (g.met.F.Field.binary c.args.f.now) s.rows s.columns s.size
    (omega arith) d c.args.cells.now c.args.blocks.now h

pub returns-clause-one_to_one : goal.returns-clause-one_to_one
returns-clause-one_to_one g c = λ d h.
    let s = c.args.shape.now in
    one_to_one (g.F.Field.meaning c.args.f.now) (g.met.F.Field.lawful c.args.f.now) (g.met.F.Field.binary c.args.f.now) s.rows s.columns s.size
    (omega arith) d c.args.cells.now c.args.blocks.now h

pub returns-clause-message : goal.returns-clause-message
returns-clause-message g c =
    let f = g.F.Field.meaning c.args.f.now in
    let s = c.args.shape.now in
    let forms = c.in_ok-forms.forms in
    let blocks = c.args.blocks.now in
    let word = c.args.word.now in
    let out = c.args.out.now in
    let xs = c.transpose.new.work in
    let made = c.in_ok-forms.ensures in
    let read : c.read_message.new.out ≡ collected s.columns (frees s.rows s.columns blocks) (λ t j. spectrum f s.size (coefficient s.columns xs j) t) s.size
    ++ drop (dimension s.rows s.columns s.size blocks) out = rw (made.0, made.1, c.new-rows.ensures.0) at c.read_message.ensures in
    let long : c.dimension.result ≡ dimension s.rows s.columns s.size blocks = rw (made.0, made.1) at c.dimension.ensures in
    read
    ∙ ap₂ (λ (xs ys : List ℕ). xs ++ ys)
    (recovered_from f (g.met.F.Field.lawful c.args.f.now) s.rows s.columns s.size blocks word xs c.transpose.ensures)
    (ap (λ (k : ℕ). drop k out) (sym long))
