-- The transform and the inverse transform undo each other.
use Rattle.std.proofs.Common.{◌≡◌, ℕ, ◌-◌, ◌*◌, ◌%◌, ◌<◌, ap, ◌∙◌, ap₂, mul_comm}
use Rattle.field.specs.Meaning.{Meaning, power, Lawful}
use Rattle.field.specs.Sums.{total}
use Rattle.algebra.specs.Transforms.{PrimitiveRoot, root, spectrum, synthesis, TransformPair}
use Rattle.algebra.proofs.Powers.{product_one_right, product_zero}
use Rattle.algebra.proofs.Sums.{total_same, total_one, total_between}
use Rattle.algebra.proofs.Roots.{root_inverse, root_has_order_lem, inverse_has_order}
use Rattle.algebra.proofs.Geometric.{kernel_zero, kernel_one, ones}

module _ (f : Meaning) (w : Lawful f) where
  -- a row x times a matrix u, times a column v that u sends to the m-th unit vector, is x m
  undone : (n m : ℕ) (x v : ℕ → ℕ) (u : ℕ → ℕ → ℕ) → m < n → x m < f.q
      → ((l : ℕ) → l < n → (l ≡ m → ⊥) → total f n (λ t. f.product (u l t) (v t)) ≡ 0)
      → total f n (λ t. f.product (u m t) (v t)) ≡ 1
      → total f n (λ t. f.product (total f n (λ l. f.product (x l) (u l t))) (v t)) ≡ x m
  undone n m x v u h below zeros one =
      let s : ℕ → ℕ = λ l. f.product (x l) (total f n (λ t. f.product (u l t) (v t))) in
      total_between f w n n x v u
      ∙ total_one f w n m s h (w.product_below (x m) (total f n (λ t. f.product (u m t) (v t))))
      (λ l i d. ap (f.product (x l)) (zeros l i d) ∙ product_zero f w (x l))
      ∙ ap (f.product (x m)) one ∙ product_one_right f w (x m) below

  -- The pair of transforms, where e ones add up to 1.
  module _ (e : ℕ) (pos : 0 < e) (h : (f.q - 1) % e ≡ 0) (unit : total f e (λ t. 1) ≡ 1) where
    pub vector_back : (x : ℕ → ℕ) (m : ℕ) → m < e → x m < f.q → synthesis f e (spectrum f e x) m ≡ x m
    vector_back x m l below =
        let a : ℕ = root f e in
        let b : ℕ = f.inverse a in
        let o : f.product a b ≡ 1 = root_inverse f w e in
        let za : PrimitiveRoot f e a = root_has_order_lem f w e pos h in
        let zb : PrimitiveRoot f e b = inverse_has_order f w e pos h in
        undone e m x (λ t. power f a (m * t)) (λ k t. power f b (k * t)) l below
        (λ k i d. kernel_zero f w e a b o za zb k m i l d) (kernel_one f w e a b o za zb m ∙ unit)

    pub spectrum_back : (y : ℕ → ℕ) (m : ℕ) → m < e → y m < f.q → spectrum f e (synthesis f e y) m ≡ y m
    spectrum_back y m l below =
        let a : ℕ = root f e in
        let b : ℕ = f.inverse a in
        let o : f.product a b ≡ 1 = root_inverse f w e in
        let za : PrimitiveRoot f e a = root_has_order_lem f w e pos h in
        let zb : PrimitiveRoot f e b = inverse_has_order f w e pos h in
        let turned : (k : ℕ) → total f e (λ t. f.product (power f a (t * k)) (power f b (t * m)))
        ≡ total f e (λ t. f.product (power f a (k * t)) (power f b (m * t))) =
        λ k. total_same f w e (λ t. f.product (power f a (t * k)) (power f b (t * m)))
        (λ t. f.product (power f a (k * t)) (power f b (m * t)))
        (λ t i. ap₂ (λ (i j : ℕ). f.product (power f a i) (power f b j)) (mul_comm t k) (mul_comm t m)) in
        let p : f.product b a ≡ 1 = w.product_comm b a ∙ o in
        undone e m y (λ t. power f b (t * m)) (λ k t. power f a (t * k)) l below
        (λ k i d. turned k ∙ kernel_zero f w e b a p zb za k m i l d) (turned m ∙ kernel_one f w e b a p zb za m ∙ unit)

pub transform_pair : TransformPair
transform_pair f w two e pos h = (
  λ x below l i. vector_back f w e pos h (ones f w two e h) x l i (below l i),
  λ y below t i. spectrum_back f w e pos h (ones f w two e h) y t i (below t i),
)
