-- The generator of a circulant by its terms.
use Rattle.std.proofs.Common.{ℕ, ◌%◌, cond, eqb, sym, refl, ap, ◌∙◌, mod-lt}
use Rattle.std.proofs.lemmas.Bool.{cond-true, cond-false, eq-eqb, ne_eqb}
use Rattle.algebra.specs.Transforms.{GeneratorByTerms}
use Rattle.algebra.proofs.Powers.{product_zero_left}
use Rattle.algebra.proofs.Sums.{total_same, total_one, total_factor}
use Rattle.field.specs.Sums.{total}

pub generator_by_terms : GeneratorByTerms
generator_by_terms f w e pos n shift coefficient u =
    let c : ℕ → ℕ → ℕ = λ k l. cond (eqb (shift k % e) l) (coefficient k) 0 in
    total_factor f w n e c u
    ∙ total_same f w n (λ k. total f e (λ l. f.product (c k l) (u l))) (λ k. f.product (coefficient k) (u (shift k % e)))
    (λ k h.
    let m : ℕ = shift k % e in
    total_one f w e m (λ l. f.product (c k l) (u l)) (mod-lt (shift k) pos) (w.product_below (c k m) (u m))
    (λ l i d.
    ap (λ (x : ℕ). f.product x (u l)) (cond-false (eqb m l) (coefficient k) 0 (ne_eqb m l (λ s. d (sym s))))
    ∙ product_zero_left f w (u l))
    ∙ ap (λ (x : ℕ). f.product x (u m)) (cond-true (eqb m m) (coefficient k) 0 (eq-eqb m m refl)))
