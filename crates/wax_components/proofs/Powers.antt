-- Copies by halves.
use Rattle.std.proofs.Common.{◌%◌, ◌+◌, ◌/◌, ◌<◌, ◌≡◌, ◌≤◌, List, ℕ, arith, refl, subst, suc, sym, zero}
use Rattle.wax_token.proofs.Copies.{Many, OneThen, many_add, many_split}
use Rattle.wax_components.specs.{declared.profile.Profile.Profile, inner.Profiles.{doubled, power, power_in}}
use Rattle.wax_components.proofs.Exact.{Exact, exact_concatenated, exact_empty_text, exact_same}

many_same : (P : List ℕ → Type 0) (m n : ℕ) (s : List ℕ) → m ≡ n → Many P m s → Many P n s
many_same P m n s e h = subst (λ k. Many P k s) e h

module _ {r : Profile} {P : List ℕ → Type 0} (f : Exact r P) where
  double_from : (h n : ℕ) (s : List ℕ) → n ≡ h + h → OneThen (Many P h) (Many P h) s → Many P n s
  double_from h n s e k =
      many_same P (h + h) n s (sym e) (subst (Many P (h + h)) (sym k.2) (many_add P h h k.0 k.1 k.3 k.4))

  double_to : (h n : ℕ) (s : List ℕ) → n ≡ h + h → Many P n s → OneThen (Many P h) (Many P h) s
  double_to h n s e k = many_split P h h s (many_same P n (h + h) s e k)

  odd_from : (h n : ℕ) (s : List ℕ) → n ≡ suc (h + h)
      → OneThen P (OneThen (Many P h) (Many P h)) s → Many P n s
  odd_from h n s e k =
      many_same P (suc (h + h)) n s (sym e) (k.0, k.1, k.2, k.3, double_from h (h + h) k.1 refl k.4)

  odd_to : (h n : ℕ) (s : List ℕ) → n ≡ suc (h + h) → Many P n s → OneThen P (OneThen (Many P h) (Many P h)) s
  odd_to h n s e k = let g : Many P (suc (h + h)) s = many_same P n (suc (h + h)) s e k in
      (g.0, g.1, g.2, g.3, double_to h (h + h) g.1 refl g.4)

  exact_doubled : (odd h n : ℕ) (half : Profile) → odd < 2 → n ≡ (h + h) + odd → Exact half (Many P h)
      → Exact (doubled odd half r) (Many P n)
  exact_doubled zero h n half lt e g = exact_same (λ s k. double_from h n s (omega (arith, e)) k)
      (λ s k. double_to h n s (omega (arith, e)) k) (exact_concatenated g g)
  exact_doubled (suc odd) h n half lt e g =
      exact_same (λ s k. odd_from h n s (omega (arith, e, lt)) k)
      (λ s k. odd_to h n s (omega (arith, e, lt)) k) (exact_concatenated f (exact_concatenated g g))

  exact_power_in : (k n : ℕ) → n ≤ k → Exact (power_in k n r) (Many P n)
  exact_power_in zero n le = exact_same (λ s e. many_same P 0 n s (omega (arith, le)) e)
      (λ s h. many_same P n 0 s (omega (arith, le)) h) exact_empty_text
  exact_power_in (suc k) n le = exact_doubled (n % 2) (n / 2) n (power_in k (n / 2) r) (omega arith)
      (omega arith) (exact_power_in k (n / 2) (omega (arith, le)))

  pub exact_power : (n : ℕ) → Exact (power n r) (Many P n)
  exact_power n = exact_power_in n n (omega arith)
