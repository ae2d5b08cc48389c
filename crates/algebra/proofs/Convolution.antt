-- The spectrum of the syndrome, and what it says of the words that pass.
use Rattle.std.proofs.Common.{◌≡◌, ℕ, ◌+◌, ◌*◌, ◌%◌, ◌<◌, sym, ap, ◌∙◌, mul_comm, add-mul}
use Rattle.field.specs.Meaning.{Meaning, power, Lawful}
use Rattle.field.specs.Sums.{total}
use Rattle.algebra.specs.Transforms.{root, spectrum, syndrome, check_block, Convolution, PassingIsNull}
use Rattle.algebra.proofs.Powers.{product_zero_left, power_below, power_add, power_mul}
use Rattle.algebra.proofs.Sums.{total_below, total_same, total_zero, total_product, total_product_right, total_factor, total_between, total_cyclic}
use Rattle.algebra.proofs.Roots.{power_turn, power_mod, power_undone, root_inverse, inverse_has_order}
use Rattle.algebra.proofs.Geometric.{ones}
use Rattle.algebra.proofs.Transforms.{vector_back}

module _ (f : Meaning) (w : Lawful f) (e a b : ℕ) (o : f.product a b ≡ 1) (turn : power f b e ≡ 1) where
  -- one term of the spectrum of a vector that is read from place l on
  moved_term : (x : ℕ → ℕ) (l s t : ℕ)
      → f.product (x ((l + s) % e)) (power f b (s * t))
      ≡ f.product (power f a (l * t)) (f.product (x ((l + s) % e)) (power f b ((l + s) % e * t)))
  moved_term x l s t =
      let n : ℕ = (l + s) % e in
      let c : ℕ = power f b t in
      let exponent : (k : ℕ) → power f b (k * t) ≡ power f c k =
      λ k. ap (power f b) (mul_comm k t) ∙ sym (power_mul f w b t k) in
      let whole : power f b (n * t) ≡ f.product (power f b (l * t)) (power f b (s * t)) =
      exponent n ∙ power_mod f w e c (l + s) (power_turn f w e b t turn) ∙ sym (exponent (l + s))
      ∙ ap (power f b) (add-mul l s t) ∙ power_add f w b (l * t) (s * t) in
      let u : ℕ = power f a (l * t) in
      let v : ℕ = power f b (l * t) in
      let r : ℕ = power f b (s * t) in
      let undo : f.product u v ≡ 1 = power_undone f w a b (l * t) o in
      cc (
        whole,
        undo,
        w.product_one r (power_below f w b (s * t)),
        w.product_assoc u v r,
        w.product_comm (x n) (power f b (n * t)),
        w.product_assoc u (power f b (n * t)) (x n),
        w.product_comm (x n) r,
      )

  -- the spectrum of a vector that is read from place l on
  moved : (x : ℕ → ℕ) (l t : ℕ)
      → total f e (λ s. f.product (x ((l + s) % e)) (power f b (s * t)))
      ≡ f.product (power f a (l * t)) (total f e (λ s. f.product (x s) (power f b (s * t))))
  moved x l t =
      let y : ℕ → ℕ = λ s. f.product (x s) (power f b (s * t)) in
      total_same f w e (λ s. f.product (x ((l + s) % e)) (power f b (s * t)))
      (λ s. f.product (power f a (l * t)) (y ((l + s) % e))) (λ s h. moved_term x l s t)
      ∙ total_product f w e (power f a (l * t)) (λ s. y ((l + s) % e))
      ∙ ap (f.product (power f a (l * t))) (total_cyclic f w e l y)

  -- the spectrum of the product of a circulant with generator g and a vector
  circulant_spectrum : (g x : ℕ → ℕ) (t : ℕ)
      → total f e (λ s. f.product (total f e (λ l. f.product (g l) (x ((l + s) % e)))) (power f b (s * t)))
      ≡ f.product (total f e (λ l. f.product (g l) (power f a (l * t)))) (total f e (λ s. f.product (x s) (power f b (s * t))))
  circulant_spectrum g x t =
      let z : ℕ = total f e (λ s. f.product (x s) (power f b (s * t))) in
      total_between f w e e g (λ s. power f b (s * t)) (λ l s. x ((l + s) % e))
      ∙ total_same f w e (λ l. f.product (g l) (total f e (λ s. f.product (x ((l + s) % e)) (power f b (s * t)))))
      (λ l. f.product (f.product (g l) (power f a (l * t))) z)
      (λ l h. ap (f.product (g l)) (moved x l t) ∙ sym (w.product_assoc (g l) (power f a (l * t)) z))
      ∙ total_product_right f w e z (λ l. f.product (g l) (power f a (l * t)))

pub convolution : Convolution
convolution f w e pos h columns b x i t =
    let a : ℕ = root f e in
    let c : ℕ = f.inverse a in
    let y : ℕ → ℕ → ℕ = λ j s. total f e (λ l. f.product (b i j l) (x j ((l + s) % e))) in
    total_factor f w columns e y (λ s. power f c (s * t))
    ∙ total_same f w columns (λ j. total f e (λ s. f.product (y j s) (power f c (s * t))))
    (λ j. f.product (check_block f e b t i j) (spectrum f e (x j) t))
    (λ j l. circulant_spectrum f w e a c (root_inverse f w e) (inverse_has_order f w e pos h).turn (b i j) (x j) t)

pub passing_is_null_lem : PassingIsNull
passing_is_null_lem f w two e pos h rows columns b x =
    let a : ℕ = root f e in (
      λ passes t ht i hi.
          sym (convolution f w e pos h columns b x i t)
          ∙ total_zero f w e (λ s. f.product (syndrome f e columns b x i s) (power f (f.inverse a) (s * t)))
          (λ s hs. ap (λ (z : ℕ). f.product z (power f (f.inverse a) (s * t))) (passes i s hi hs)
          ∙ product_zero_left f w (power f (f.inverse a) (s * t))),
      λ null i s hi hs.
          let y : ℕ → ℕ = syndrome f e columns b x i in
          let below : y s < f.q = total_below f w columns (λ j. total f e (λ l. f.product (b i j l) (x j ((l + s) % e)))) in
          sym (vector_back f w e pos h (ones f w two e h) y s hs below)
          ∙ total_zero f w e (λ t. f.product (spectrum f e y t) (power f a (s * t)))
          (λ t ht. ap (λ (z : ℕ). f.product z (power f a (s * t))) (convolution f w e pos h columns b x i t ∙ null t ht i hi)
          ∙ product_zero_left f w (power f a (s * t))),
    )
